-- What defines an id outside functions is the same in the normal form.
use Rattle.std.proofs.Common.{◌≡◌, inl, inr, ℕ, Bool, true, false, cond, not, nat_eq, ◌&&◌, ◌||◌, ◌==◌, List, [], ◌∷◌, ◌++◌, find, Option, Some, None, refl, sym, ap, ◌∙◌}
use Rattle.std.specs.List.{AllByRecursion, filter, list_any}
use Rattle.std.specs.Option.{is_some, option_map, option_map_or}
use Rattle.std.proofs.lemmas.List.{map-append}
use Rattle.spv_opcodes.specs.declared.op.TheConstants as op
use Rattle.spv_grammar.specs.Fronts.{has_result}
use Rattle.spv_grammar.specs.Roles.{is_defined_id}
use Rattle.spv_grammar.specs.Table.{row_of}
use Rattle.spv_module.specs.Code.{is_function, is_line}
use Rattle.spv_module.specs.Instruction.{Instruction, IsInstruction, opcode, roles, word_with}
use Rattle.spv_module.proofs.Told.{result_told}
use Rattle.spv_ids.specs.Ids.{defines, is_defined, used_ids}
use Rattle.spv_typing.specs.Kinds.{is_one_of}
use Rattle.spv_walk.proofs.Unique.{either_holds, equal_true}
use Rattle.spv_tree.specs.Tree.{words_of}
use Rattle.spv_norm.specs.Norm.{is_gone, namings, outside, stays_outside, staying}
use Rattle.spv_norm_declared.specs.Laws.{defining}
use Rattle.spv_norm_declared.proofs.LaidOut.{from_first, parted}
use Rattle.spv_norm_declared.proofs.Walks.{inst_of}

-- ---- definitions by words

abbrev pub defines_by : (id : ℕ) → List ℕ → Bool
defines_by id w = defines id (inst_of w)

pub found_by : (id : ℕ) (is : List Instruction) → defining is id ≡ find (defines_by id) (words_of is)
found_by id [] = refl
found_by id (i ∷ is) = by (defines id i) (found_by id is)
  where
    by : (b : Bool) → option_map (λ j. j.words) (find (defines id) is) ≡ find (defines_by id) (words_of is)
        → option_map (λ j. j.words) (cond b (Some i) (find (defines id) is)) ≡ cond b (Some i.words) (find (defines_by id) (words_of is))
    by true more = refl
    by false more = more

find_front : (p : List ℕ → Bool) (xs ys : List (List ℕ)) (w : List ℕ) → find p xs ≡ Some w → find p (xs ++ ys) ≡ Some w
find_front p [] ys w h = absurd (cc h)
find_front p (x ∷ xs) ys w h = by (p x) h (find_front p xs ys w)
  where
    by : (b : Bool) → cond b (Some x) (find p xs) ≡ Some w → (find p xs ≡ Some w → find p (xs ++ ys) ≡ Some w) → cond b (Some x) (find p (xs ++ ys)) ≡ Some w
    by true h more = h
    by false h more = more h

found : (id : ℕ) (is : List Instruction) → is_defined is id ≡ true → (w : List ℕ) × (find (defines_by id) (words_of is) ≡ Some w)
found id [] h = absurd (cc h)
found id (i ∷ is) h = by (defines id i) h (found id is)
  where
    by : (b : Bool) → (b || is_defined is id) ≡ true → (is_defined is id ≡ true → (w : List ℕ) × (find (defines_by id) (words_of is) ≡ Some w))
        → (w : List ℕ) × (cond b (Some i.words) (find (defines_by id) (words_of is)) ≡ Some w)
    by true h more = (i.words, refl)
    by false h more = more h

-- ---- what goes defines nothing

nothing_defined : (id : ℕ) (o : Option ℕ) → is_some o ≡ false → option_map_or (nat_eq id) o false ≡ false
nothing_defined id None h = refl
nothing_defined id (Some x) h = absurd (cc h)

pub no_result : (id k : ℕ) (i : Instruction) → IsInstruction i.words (roles i) → opcode i ≡ k → has_result k ≡ false → defines id i ≡ false
no_result id k i whole e none =
    nothing_defined id (word_with is_defined_id i) (result_told i.words (roles i) whole ∙ ap has_result e ∙ none)

line_result : has_result op.LINE ≡ false
unfolding row_of
line_result = refl

no_line_result : has_result op.NO_LINE ≡ false
unfolding row_of
no_line_result = refl

name_result : has_result op.NAME ≡ false
unfolding row_of
name_result = refl

member_name_result : has_result op.MEMBER_NAME ≡ false
unfolding row_of
member_name_result = refl

source_result : has_result op.SOURCE ≡ false
unfolding row_of
source_result = refl

pub line_defines_nothing : (id : ℕ) (i : Instruction) → IsInstruction i.words (roles i) → is_line i ≡ true → defines id i ≡ false
line_defines_nothing id i whole h = elim (either_holds (opcode i == op.LINE) (opcode i == op.NO_LINE) h) [
  | inl e ↦ no_result id op.LINE i whole (equal_true (opcode i) op.LINE e) line_result
  | inr e ↦ no_result id op.NO_LINE i whole (equal_true (opcode i) op.NO_LINE e) no_line_result
]

naming_defines_nothing : (id : ℕ) (i : Instruction) → IsInstruction i.words (roles i) → is_one_of namings (opcode i) ≡ true → defines id i ≡ false
naming_defines_nothing id i whole h =
    elim (either_holds (nat_eq (opcode i) op.NAME) (nat_eq (opcode i) op.MEMBER_NAME || (nat_eq (opcode i) op.SOURCE || false)) h) [
      | inl e ↦ no_result id op.NAME i whole (equal_true (opcode i) op.NAME e) name_result
      | inr g ↦ elim (either_holds (nat_eq (opcode i) op.MEMBER_NAME) (nat_eq (opcode i) op.SOURCE || false) g) [
        | inl e ↦ no_result id op.MEMBER_NAME i whole (equal_true (opcode i) op.MEMBER_NAME e) member_name_result
        | inr k ↦ elim (either_holds (nat_eq (opcode i) op.SOURCE) false k) [
          | inl e ↦ no_result id op.SOURCE i whole (equal_true (opcode i) op.SOURCE e) source_result
          | inr e ↦ absurd (cc e)
        ]
      ]
    ]

gone_defines_nothing : (insts : List Instruction) (id : ℕ) (i : Instruction) → IsInstruction i.words (roles i) → stays_outside insts i ≡ false
    → defines id i ≡ false
gone_defines_nothing insts id i whole h = by (is_line i) (is_one_of namings (opcode i)) (list_any (is_gone insts) (used_ids i)) refl refl h
  where
    by : (line naming gone : Bool) → is_line i ≡ line → is_one_of namings (opcode i) ≡ naming → (not line && not (naming && gone)) ≡ false
        → defines id i ≡ false
    by true naming gone e f g = line_defines_nothing id i whole e
    by false true gone e f g = naming_defines_nothing id i whole f
    by false false gone e f g = absurd (cc g)

abbrev Are : List Instruction → Type 0
Are is = AllByRecursion (λ i. IsInstruction i.words (roles i)) is

-- so what stays outside functions defines an id as all do; induction on the instructions
staying_found : (insts : List Instruction) (id : ℕ) (is : List Instruction) → Are is
    → find (defines_by id) (words_of (filter (stays_outside insts) is)) ≡ find (defines_by id) (words_of is)
staying_found insts id [] h = refl
staying_found insts id (i ∷ is) h = by (stays_outside insts i) refl (staying_found insts id is h.1)
  where
    by : (b : Bool) → stays_outside insts i ≡ b → find (defines_by id) (words_of (filter (stays_outside insts) is)) ≡ find (defines_by id) (words_of is)
        → find (defines_by id) (words_of (cond b (i ∷ filter (stays_outside insts) is) (filter (stays_outside insts) is)))
        ≡ cond (defines id i) (Some i.words) (find (defines_by id) (words_of is))
    by true e more = ap (λ o. cond (defines id i) (Some i.words) o) more
    by false e more = more ∙ sym (ap (λ (b : Bool). cond b (Some i.words) (find (defines_by id) (words_of is))) (gone_defines_nothing insts id i h.0 e))

are_outside : (is : List Instruction) → Are is → Are (outside is)
are_outside [] h = tt
are_outside (i ∷ is) h = by (is_function i) (are_outside is h.1)
  where
    by : (b : Bool) → Are (outside is) → Are (cond b [] (i ∷ outside is))
    by true more = tt
    by false more = (h.0, more)

-- an id that is defined outside functions is defined by the same words
pub defined_outside : (insts : List Instruction) (id : ℕ) (others : List (List ℕ)) (after : List Instruction) → Are insts
    → is_defined (outside insts) id ≡ true
    → words_of after ≡ words_of (staying insts) ++ others → (w : List ℕ) × (defining insts id ≡ Some w) × (defining after id ≡ Some w)
defined_outside insts id others after are h lines =
    let there = found id (outside insts) h in
    let first : words_of insts ≡ words_of (outside insts) ++ words_of (from_first insts) =
    ap words_of (parted insts) ∙ map-append (λ (i : Instruction). i.words) (outside insts) (from_first insts) in
    let before : find (defines_by id) (words_of insts) ≡ Some there.0 =
    ap (find (defines_by id)) first ∙ find_front (defines_by id) (words_of (outside insts)) (words_of (from_first insts)) there.0 there.1 in
    let stays : find (defines_by id) (words_of (staying insts)) ≡ Some there.0 = staying_found insts id (outside insts) (are_outside insts are) ∙ there.1 in
    let later : find (defines_by id) (words_of after) ≡ Some there.0 =
    ap (find (defines_by id)) lines ∙ find_front (defines_by id) (words_of (staying insts)) others there.0 stays in
    (there.0, found_by id insts ∙ before, found_by id after ∙ later)
