-- A declaration names ids that are defined before it: which of its words name them.
use Rattle.std.proofs.Common.{◌≡◌, ℕ, Bool, true, false, not, ◌==◌, List, [], ◌∷◌, length, drop, replicate, refl, sym, ap, subst, ◌∙◌}
use Rattle.std.specs.List.{list_any, list_all, slice_index}
use Rattle.std.proofs.lemmas.Bool.{or_parts, and_parts, and_from, not-false}
use Rattle.spv_grammar.specs.declared.kind.Role.{Role}
use Rattle.spv_grammar.specs.declared.kind.Role.TheVariants.{Opcode, TypeId, DefinedId, UsedId}
use Rattle.spv_grammar.specs.declared.kind.Kind.{Kind}
use Rattle.spv_grammar.specs.declared.kind.Kind.TheVariants.{Id, Ids}
use Rattle.spv_grammar.specs.declared.section.TheConstants as section
use Rattle.spv_grammar.specs.Table.{row_of}
use Rattle.spv_module.specs.Code.{row_section}
use Rattle.spv_module.specs.Instruction.{Instruction, opcode}
use Rattle.spv_ids.specs.Ids.{is_defined, is_defined_before, is_unknown, is_declaration, used_ids}
use Rattle.spv_declarations.specs.Declarations.{Declared}
use Rattle.spv_declarations.proofs.Parts.{one-front, ids-words, TypedWords, PlainParts, TypedParts, used_in}
use Rattle.spv_declarations.proofs.Unbroken.{Keeps}

-- ---- all that it names

-- induction on the ids
pub known_all : (insts : List Instruction) (k : ℕ) (ids : List ℕ) → list_any (is_unknown insts true k) ids ≡ false →
    list_all (is_defined_before insts k) ids ≡ true
known_all insts k [] h = refl
known_all insts k (id ∷ ids) h =
    let parts = or_parts (is_unknown insts true k id) (list_any (is_unknown insts true k) ids) h in
    let known = not-false (is_defined_before insts k id) (or_parts (not (is_defined insts id)) (not (is_defined_before insts k id)) parts.0).1 in
    and_from (is_defined_before insts k id) (list_all (is_defined_before insts k) ids) known (known_all insts k ids parts.1)

declares_at : (i : Instruction) (o : ℕ) → opcode i ≡ o → (row_section (row_of o) == section.DECLARATIONS) ≡ true → is_declaration false i ≡ true
declares_at i o is_o h = ap (λ (n : ℕ). row_section (row_of n) == section.DECLARATIONS) is_o ∙ h

pub names-known : (insts : List Instruction) (d : Declared) (k : ℕ) (i : Instruction) (o : ℕ) → Keeps insts d k i → d.begun ≡ false → opcode i ≡ o →
    (row_section (row_of o) == section.DECLARATIONS) ≡ true →
    list_all (is_defined_before insts k) (used_ids i) ≡ true
names-known insts d k i o kept outside is_o declares =
    known_all insts k (used_ids i)
    (sym (ap (λ (b : Bool). list_any (is_unknown insts b k) (used_ids i)) (ap (λ (b : Bool). is_declaration b i) outside ∙ declares_at i o is_o declares)) ∙ kept.known)

-- ---- by the words

one_known : (p : ℕ → Bool) (id : ℕ) (ids : List ℕ) → list_all p (id ∷ ids) ≡ true → p id ≡ true
one_known p id ids h = (and_parts (p id) (list_all p ids) h).0

others_known : (p : ℕ → Bool) (id : ℕ) (ids : List ℕ) → list_all p (id ∷ ids) ≡ true → list_all p ids ≡ true
others_known p id ids h = (and_parts (p id) (list_all p ids) h).1

-- induction on the words
used_all : (ws : List ℕ) → used_in (replicate (length ws) UsedId) ws ≡ ws
used_all [] = refl
used_all (w ∷ ws) = ap (λ (x : List ℕ). w ∷ x) (used_all ws)

-- the second word, and the third, where ids stand there
pub second-known : (p : ℕ → Bool) (kinds : List Kind) (words : List ℕ) (rs : List Role) → PlainParts (Id ∷ kinds) words rs →
    list_all p (used_in rs words) ≡ true → p (slice_index words 2) ≡ true
second-known p kinds words rs parts h =
    let front = parts.front in
    let f = one-front UsedId kinds front.rest front.others parts.fit in
    let words_are : words ≡ front.word ∷ front.result ∷ f.word ∷ f.rest =
    front.words_are ∙ ap (λ (x : List ℕ). front.word ∷ front.result ∷ x) f.words_are in
    let parts_are : rs ≡ Opcode ∷ DefinedId ∷ UsedId ∷ f.others = front.parts_are ∙ ap (λ (x : List Role). Opcode ∷ DefinedId ∷ x) f.parts_are in
    rw words_are (one_known p f.word (used_in f.others f.rest) (rw (words_are, parts_are) at h))

pub third-known : (p : ℕ → Bool) (kinds : List Kind) (words : List ℕ) (rs : List Role) → PlainParts (Id ∷ Id ∷ kinds) words rs →
    list_all p (used_in rs words) ≡ true → p (slice_index words 3) ≡ true
third-known p kinds words rs parts h =
    let front = parts.front in
    let f = one-front UsedId (Id ∷ kinds) front.rest front.others parts.fit in
    let g = one-front UsedId kinds f.rest f.others f.fit in
    let words_are : words ≡ front.word ∷ front.result ∷ f.word ∷ g.word ∷ g.rest =
    front.words_are ∙ ap (λ (x : List ℕ). front.word ∷ front.result ∷ x) (f.words_are ∙ ap (λ (x : List ℕ). f.word ∷ x) g.words_are) in
    let parts_are : rs ≡ Opcode ∷ DefinedId ∷ UsedId ∷ UsedId ∷ g.others =
    front.parts_are ∙ ap (λ (x : List Role). Opcode ∷ DefinedId ∷ x) (f.parts_are ∙ ap (λ (x : List Role). UsedId ∷ x) g.parts_are) in
    rw words_are (one_known p g.word (used_in g.others g.rest) (others_known p f.word (g.word ∷ used_in g.others g.rest) (rw (words_are, parts_are) at h)))

-- all from the second word on
pub members-known : (p : ℕ → Bool) (most : ℕ) (words : List ℕ) (rs : List Role) → PlainParts (Ids most ∷ []) words rs →
    list_all p (used_in rs words) ≡ true → list_all p (drop 2 words) ≡ true
members-known p most words rs parts h =
    let front = parts.front in
    let same = ids-words most front.rest front.others parts.fit in
    let parts_are : rs ≡ Opcode ∷ DefinedId ∷ replicate (length front.rest) UsedId =
    front.parts_are ∙ ap (λ (x : List Role). Opcode ∷ DefinedId ∷ x) same in
    let used : used_in rs words ≡ front.rest = rw (front.words_are, parts_are) (used_all front.rest) in
    rw front.words_are (subst (λ (ids : List ℕ). list_all p ids ≡ true) used h)

-- the result's type
pub type-known : (p : ℕ → Bool) (words : List ℕ) (rs : List Role) → TypedWords words rs → list_all p (used_in rs words) ≡ true →
    p (slice_index words 1) ≡ true
type-known p words rs front h =
    rw front.words_are (one_known p front.type (used_in front.others front.rest) (rw (front.words_are, front.parts_are) at h))

-- all from the third word on
pub constituents-known : (p : ℕ → Bool) (most : ℕ) (words : List ℕ) (rs : List Role) → TypedParts (Ids most ∷ []) words rs →
    list_all p (used_in rs words) ≡ true → list_all p (drop 3 words) ≡ true
constituents-known p most words rs parts h =
    let front = parts.front in
    let same = ids-words most front.rest front.others parts.fit in
    let parts_are : rs ≡ Opcode ∷ TypeId ∷ DefinedId ∷ replicate (length front.rest) UsedId =
    front.parts_are ∙ ap (λ (x : List Role). Opcode ∷ TypeId ∷ DefinedId ∷ x) same in
    let used : used_in rs words ≡ front.type ∷ front.rest =
    rw (front.words_are, parts_are) (ap (λ (x : List ℕ). front.type ∷ x) (used_all front.rest)) in
    rw front.words_are (others_known p front.type front.rest (subst (λ (ids : List ℕ). list_all p ids ≡ true) used h))
