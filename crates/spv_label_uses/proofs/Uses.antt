-- Which words of an instruction may be ids that it needs, by the operands of its row.
use Rattle.std.proofs.Common.{◌≡◌, ℕ, zero, suc, Bool, true, false, cond, ◌==◌, ◌||◌, List, [], ◌∷◌, length, map, drop, take, replicate, Option, Some, None, refl, ap, ◌∙◌}
use Rattle.std.specs.List.{filter, list_any, list_all, slice_index, zip}
use Rattle.std.specs.Option.{option_map}
use Rattle.std.proofs.lemmas.Bool.{and_parts, and_from}
use Rattle.spv_opcodes.specs.declared.decoration.TheConstants as decoration
use Rattle.spv_grammar.specs.declared.kind.Role.{Role}
use Rattle.spv_grammar.specs.declared.kind.Role.TheVariants.{Literal, Octets, UnknownEnumerant, BadOctets}
use Rattle.spv_grammar.specs.declared.kind.Kind.{Kind}
use Rattle.spv_grammar.specs.declared.kind.Kind.TheVariants.{ResultType, ResultId, Id, OptionalId, Ids, IdPairs, Number, SomeNumbers, Numbers, Weights, Cases, Text, OptionalText, SetName, One, MemoryOperands, Decoration, ExtInst}
use Rattle.spv_grammar.specs.Enumerants.{is_memory_operands, is_aligned, is_bare_decoration, is_numbered_decoration, is_builtin}
use Rattle.spv_grammar.specs.Operands.{Taken, none, one, all, all_if, after, mark, text_by, text_role, set_name_role, memory_operands, builtin, decorated, taken}
use Rattle.spv_grammar.specs.Text.{text_words, is_text, is_set_name}
use Rattle.spv_ids.specs.Ids.{is_needed}
use Rattle.spv_declarations.proofs.Parts.{used_in}

-- ---- the words that may be needed

-- behind an operand that needs none, nothing; or anything, where another operand stands behind it
abbrev pub behind_quiet : List Kind → (ws : List ℕ) → List ℕ
behind_quiet [] ws = []
behind_quiet (kind ∷ kinds) ws = ws

-- an optional id at the end is one word at most
abbrev pub optional : List Kind → (ws : List ℕ) → List ℕ
optional [] ws = take 1 ws
optional (kind ∷ kinds) ws = ws

-- the words of an instruction that its operands from the k-th word on may need: at least these
abbrev pub uses : List Kind → (k : ℕ) → (words : List ℕ) → List ℕ
uses [] k ws = []
uses (ResultType ∷ kinds) k ws = slice_index ws k ∷ uses kinds (suc k) ws
uses (ResultId ∷ kinds) k ws = uses kinds (suc k) ws
uses (Id ∷ kinds) k ws = slice_index ws k ∷ uses kinds (suc k) ws
uses (Number ∷ kinds) k ws = uses kinds (suc k) ws
uses (One enumerant ∷ kinds) k ws = uses kinds (suc k) ws
uses (SomeNumbers ∷ kinds) k ws = behind_quiet kinds (drop k ws)
uses (Numbers ∷ kinds) k ws = behind_quiet kinds (drop k ws)
uses (SetName ∷ kinds) k ws = behind_quiet kinds (drop k ws)
uses (Text ∷ kinds) k ws = behind_quiet kinds (drop (text_words (drop k ws)) (drop k ws))
uses (MemoryOperands ∷ kinds) k ws = behind_quiet kinds (drop k ws)
uses (Decoration ∷ kinds) k ws = behind_quiet kinds (drop k ws)
uses (OptionalId ∷ kinds) k ws = optional kinds (drop k ws)
uses (ExtInst ∷ kinds) k ws = drop (suc k) ws
uses (kind ∷ kinds) k ws = drop k ws

-- ---- lists

pub rest_all : (p : ℕ → Bool) (n : ℕ) (ws : List ℕ) → list_all p ws ≡ true → list_all p (drop n ws) ≡ true
rest_all p zero ws h = h
rest_all p (suc n) [] h = refl
rest_all p (suc n) (w ∷ ws) h = rest_all p n ws (and_parts (p w) (list_all p ws) h).1

-- what is needed is one of the words; induction on the words
pub used_all : (p : ℕ → Bool) (rs : List Role) (ws : List ℕ) → list_all p ws ≡ true → list_all p (used_in rs ws) ≡ true
used_all p [] ws h = refl
used_all p (r ∷ rs) [] h = refl
used_all p (r ∷ rs) (w ∷ ws) h = by (is_needed r) (used_all p rs ws (and_parts (p w) (list_all p ws) h).1) where
  others : List (Role × ℕ)
  others = filter (λ part. is_needed part.0) (zip rs ws)

  by : (b : Bool) → list_all p (used_in rs ws) ≡ true → list_all p (map (λ part. part.1) (cond b ((r, w) ∷ others) others)) ≡ true
  by true more = and_from (p w) (list_all p (used_in rs ws)) (and_parts (p w) (list_all p ws) h).0 more
  by false more = more

-- ---- operands that need no id

-- what is taken needs none
abbrev pub Quiet : Option Taken → Type 0
Quiet None = Unit {0}
Quiet (Some t) = list_any is_needed t.roles ≡ false

pub mark-quiet : (b : Bool) → is_needed (mark b) ≡ false
mark-quiet true = refl
mark-quiet false = refl

times-quiet : (n : ℕ) (role : Role) → is_needed role ≡ false → list_any is_needed (replicate n role) ≡ false
times-quiet zero role h = refl
times-quiet (suc n) role h = ap (λ (b : Bool). b || list_any is_needed (replicate n role)) h ∙ times-quiet n role h

one-quiet : (role : Role) (ws : List ℕ) → is_needed role ≡ false → Quiet (one role ws)
one-quiet role [] h = tt
one-quiet role (w ∷ ws) h = ap (λ (b : Bool). b || false) h

all_if-quiet : (b : Bool) (rs : List Role) → list_any is_needed rs ≡ false → Quiet (all_if b rs)
all_if-quiet true rs h = h
all_if-quiet false rs h = tt

text-quiet : (role : List ℕ → Role) → ((ws : List ℕ) → is_needed (role ws) ≡ false) → (ws : List ℕ) → Quiet (text_by role ws)
text-quiet role h [] = tt
text-quiet role h (w ∷ ws) = times-quiet (text_words (w ∷ ws)) (role (take (text_words (w ∷ ws)) (w ∷ ws))) (h (take (text_words (w ∷ ws)) (w ∷ ws)))

pub text_role-quiet : (ws : List ℕ) → is_needed (text_role ws) ≡ false
text_role-quiet ws = by (is_text ws) where
  by : (b : Bool) → is_needed (cond b Octets BadOctets) ≡ false
  by true = refl
  by false = refl

set_name_role-quiet : (ws : List ℕ) → is_needed (set_name_role ws) ≡ false
set_name_role-quiet ws = by (is_text ws) (is_set_name ws) where
  by : (b c : Bool) → is_needed (cond b (cond c Octets UnknownEnumerant) BadOctets) ≡ false
  by true true = refl
  by true false = refl
  by false c = refl

after-quiet : (role : Role) (t : Option Taken) → is_needed role ≡ false → Quiet t → Quiet (option_map (after (role ∷ [])) t)
after-quiet role None h k = tt
after-quiet role (Some t) h k = ap (λ (b : Bool). b || list_any is_needed t.roles) h ∙ k

cond-quiet : (b : Bool) (t u : Option Taken) → Quiet t → Quiet u → Quiet (cond b t u)
cond-quiet true t u h k = h
cond-quiet false t u h k = k

builtin-quiet : (ws : List ℕ) → Quiet (builtin ws)
builtin-quiet [] = tt
builtin-quiet (w ∷ ws) = one-quiet (mark (is_builtin w)) (w ∷ ws) (mark-quiet (is_builtin w))

memory-quiet : (mask : ℕ) (ws : List ℕ) → Quiet (memory_operands mask ws)
memory-quiet mask ws =
    after-quiet (mark (is_memory_operands mask)) (cond (is_aligned mask) (one Literal ws) (none ws)) (mark-quiet (is_memory_operands mask))
    (cond-quiet (is_aligned mask) (one Literal ws) (none ws) (one-quiet Literal ws refl) refl)

decorated-quiet : (d : ℕ) (ws : List ℕ) → Quiet (decorated d ws)
decorated-quiet d ws =
    cond-quiet (is_bare_decoration d) _ _ (after-quiet Literal (none ws) refl refl)
    (cond-quiet (is_numbered_decoration d) _ _ (after-quiet Literal (one Literal ws) refl (one-quiet Literal ws refl))
    (cond-quiet (d == decoration.BUILTIN) _ _ (after-quiet Literal (builtin ws) refl (builtin-quiet ws))
    (after-quiet UnknownEnumerant (all Literal ws) refl (times-quiet (length ws) Literal refl))))

-- such operands
abbrev pub is_quiet : Kind → Bool
is_quiet SomeNumbers = true
is_quiet Numbers = true
is_quiet SetName = true
is_quiet Text = true
is_quiet MemoryOperands = true
is_quiet Decoration = true
is_quiet kind = false

pub taken-quiet : (kind : Kind) (ws : List ℕ) → is_quiet kind ≡ true → Quiet (taken kind ws)
taken-quiet SomeNumbers ws h = all_if-quiet _ (replicate (length ws) Literal) (times-quiet (length ws) Literal refl)
taken-quiet Numbers ws h = times-quiet (length ws) Literal refl
taken-quiet SetName ws h = text-quiet set_name_role set_name_role-quiet ws
taken-quiet Text ws h = text-quiet text_role text_role-quiet ws
taken-quiet MemoryOperands [] h = refl
taken-quiet MemoryOperands (w ∷ ws) h = memory-quiet w ws
taken-quiet Decoration [] h = tt
taken-quiet Decoration (w ∷ ws) h = decorated-quiet w ws
taken-quiet ResultType ws h = cc
taken-quiet ResultId ws h = cc
taken-quiet Id ws h = cc
taken-quiet OptionalId ws h = cc
taken-quiet (Ids n) ws h = cc
taken-quiet IdPairs ws h = cc
taken-quiet Number ws h = cc
taken-quiet Weights ws h = cc
taken-quiet (Cases n) ws h = cc
taken-quiet OptionalText ws h = cc
taken-quiet (One e) ws h = cc
taken-quiet ExtInst ws h = cc
