-- What is dropped decorates nothing that stays, and no member of it; so what stays has the same decorations.
use Rattle.std.proofs.Common.{rules, ◌≡◌, ℕ, zero, suc, Bool, true, false, cond, nat_eq, ◌==◌, ◌&&◌, ◌||◌, List, [], ◌∷◌, ◌++◌, drop, take, Some, refl, sym, ap, ap₂, subst, ◌∙◌, true≢false, eqb-true}
use Rattle.std.specs.Map.{lookup}
use Rattle.std.specs.List.{AllByRecursion, slice_index}
use Rattle.spv_opcodes.specs.declared.op.TheConstants as op
use Rattle.spv_grammar.specs.Operands.{opcode_of}
use Rattle.spv_module.specs.Instruction.{Instruction, opcode}
use Rattle.spv_meaning.specs.Constants.{decorated, member_decorated}
use Rattle.spv_meaning.specs.Statements as states
use Rattle.spv_meaning.specs.Statements.{Statement, by_row, constant_rows, flow_rows, is_silent_opcode, memory_rows, module_rows, of_constants, operation_rows, rows, said, spec_constant_op, statements_in, type_rows, words_of}
use Rattle.spv_typing.specs.Kinds.{is_one_of}
use Rattle.spv_declarations.specs.Declarations.{says}
use Rattle.spv_declarations.proofs.Defining.{AllRows, rows-append, row_holds}
use Rattle.spv_alike_uses.specs.Alike.{Stays}
use Rattle.spv_thinned.specs.Thinned.{IsDropped, IsThinned, decorating_kinds}
use Rattle.spv_thinned.proofs.Walk.{walk}
use Rattle.spv_thinned.proofs.Definitions.{Fact}

-- ---- statements

-- it decorates nothing
abbrev is_quiet : Statement → Bool
is_quiet (states.Decorate target what literals) = false
is_quiet (states.MemberDecorate target member what literals) = false
is_quiet other = true

quiet_decorated : (st : Statement) (rest : List Statement) (id d : ℕ) → is_quiet st ≡ true → decorated (st ∷ rest) id d ≡ decorated rest id d
quiet_decorated (states.Decorate target what literals) rest id d h = absurd (cc h)
quiet_decorated other rest id d h = refl

quiet_members : (st : Statement) (rest : List Statement) (id n d : ℕ) → is_quiet st ≡ true → member_decorated (st ∷ rest) id n d ≡ member_decorated rest id n d
quiet_members (states.MemberDecorate target member what literals) rest id n d h = absurd (cc h)
quiet_members other rest id n d h = refl

-- ---- rows

abbrev IsQuiet : ℕ → (List ℕ → Statement) → Type 0
IsQuiet o row = is_one_of decorating_kinds o ≡ false → (ws : List ℕ) → is_quiet (row ws) ≡ true

mode_quiet : (b : Bool) (function : ℕ) (literals : List ℕ) → is_quiet (cond b (states.LocalSize function literals) states.Unknown) ≡ true
mode_quiet true function literals = refl
mode_quiet false function literals = refl

mode_by_ids_quiet : (b : Bool) (function : ℕ) (literals : List ℕ) → is_quiet (cond b (states.LocalSizeId function literals) states.Unknown) ≡ true
mode_by_ids_quiet true function literals = refl
mode_by_ids_quiet false function literals = refl

module_quiet : AllRows IsQuiet module_rows
module_quiet = search (rules, mode_quiet, mode_by_ids_quiet)

types_quiet : AllRows IsQuiet type_rows
types_quiet = search rules

constants_quiet : AllRows IsQuiet constant_rows
constants_quiet = search rules

flow_quiet : AllRows IsQuiet flow_rows
flow_quiet = search rules

memory_quiet : AllRows IsQuiet memory_rows
memory_quiet = search rules

operations_quiet : AllRows IsQuiet operation_rows
operations_quiet = search rules

operation_quiet : (st : Statement) → is_quiet (of_constants st) ≡ true
operation_quiet (states.Operation computation t r operands) = refl
operation_quiet other = refl

rows_quiet : AllRows IsQuiet rows
rows_quiet =
    rows-append IsQuiet module_rows
    (type_rows ++ (constant_rows ++ ((op.SPEC_CONSTANT_OP, spec_constant_op) ∷ (flow_rows ++ (memory_rows ++ operation_rows))))) module_quiet
    (rows-append IsQuiet type_rows (constant_rows ++ ((op.SPEC_CONSTANT_OP, spec_constant_op) ∷ (flow_rows ++ (memory_rows ++ operation_rows)))) types_quiet
    (rows-append IsQuiet constant_rows ((op.SPEC_CONSTANT_OP, spec_constant_op) ∷ (flow_rows ++ (memory_rows ++ operation_rows))) constants_quiet (
      λ h ws. operation_quiet (by_row (lookup (nat_eq (slice_index ws 2)) operation_rows) (take 2 ws ++ drop 3 ws)),
      rows-append IsQuiet flow_rows (memory_rows ++ operation_rows) flow_quiet (rows-append IsQuiet memory_rows operation_rows memory_quiet operations_quiet),
    )))

abbrev pub st_of : (o : ℕ) → List ℕ → Statement
st_of o ws = by_row (lookup (nat_eq o) rows) ws

all_quiet : (o : ℕ) (ws : List ℕ) → is_one_of decorating_kinds o ≡ false → is_quiet (st_of o ws) ≡ true
all_quiet o ws h = row_holds IsQuiet o rows (λ h ws. refl) rows_quiet h ws

-- ---- an instruction that is dropped

no_word : (k : ℕ) → slice_index [] k ≡ 0
no_word zero = refl
no_word (suc k) = refl

pub word_behind : (ws : List ℕ) (k : ℕ) → slice_index (drop 1 ws) k ≡ slice_index ws (suc k)
word_behind [] k = no_word k
word_behind (w ∷ ws) k = refl

abbrev decoration_of : List ℕ → Statement
decoration_of ws = states.Decorate (slice_index ws 0) (slice_index ws 1) (drop 2 ws)

abbrev member_decoration_of : List ℕ → Statement
member_decoration_of ws = states.MemberDecorate (slice_index ws 0) (slice_index ws 1) (slice_index ws 2) (drop 3 ws)

module _ (gone : ℕ → Bool) (i : Instruction) (d : IsDropped gone i) where
  -- it is quiet, or a decoration
  cases : (P : Statement → Type 0) → ((st : Statement) → is_quiet st ≡ true → P st) → (opcode i ≡ op.DECORATE → P (decoration_of (drop 1 i.words)))
      → (opcode i ≡ op.MEMBER_DECORATE → P (member_decoration_of (drop 1 i.words))) → P (st_of (opcode i) (drop 1 i.words))
  cases P quiet decorates members = by (opcode i == op.DECORATE) (opcode i == op.MEMBER_DECORATE) refl refl
    where
      by : (b l : Bool) → (opcode i == op.DECORATE) ≡ b → (opcode i == op.MEMBER_DECORATE) ≡ l → P (st_of (opcode i) (drop 1 i.words))
      by true l e f =
          let is = eqb-true (opcode i) op.DECORATE e in
          subst (λ o. P (st_of o (drop 1 i.words))) (sym is) (decorates is)
      by false true e f =
          let is = eqb-true (opcode i) op.MEMBER_DECORATE f in
          subst (λ o. P (st_of o (drop 1 i.words))) (sym is) (members is)
      by false false e f =
          quiet (st_of (opcode i) (drop 1 i.words)) (all_quiet (opcode i) (drop 1 i.words) (ap₂ (λ (a b : Bool). a || (b || false)) e f))

  module _ (id : ℕ) (s : Stays gone id) where
    -- its target is another than an id that stays
    missed : is_one_of decorating_kinds (opcode i) ≡ true → (slice_index (drop 1 i.words) 0 == id) ≡ false
    missed is = by (slice_index (drop 1 i.words) 0 == id) refl
      where
        by : (b : Bool) → (slice_index (drop 1 i.words) 0 == id) ≡ b → b ≡ false
        by true e = absurd (true≢false (sym (d.target is) ∙ ap gone (sym (word_behind i.words 0) ∙ eqb-true (slice_index (drop 1 i.words) 0) id e) ∙ s))
        by false e = refl

    pub dropped_decorated : (k : ℕ) (rest : List Statement) → decorated (said i.words rest) id k ≡ decorated rest id k
    dropped_decorated k rest = by (is_silent_opcode (opcode i))
      where
        other : opcode i ≡ op.DECORATE → decorated (decoration_of (drop 1 i.words) ∷ rest) id k ≡ decorated rest id k
        other is =
            ap (λ (b : Bool). cond (b && slice_index (drop 1 i.words) 1 == k) (Some (drop 2 (drop 1 i.words))) (decorated rest id k))
            (missed (ap (is_one_of decorating_kinds) is))

        by : (b : Bool) → decorated (cond b rest (st_of (opcode i) (drop 1 i.words) ∷ rest)) id k ≡ decorated rest id k
        by true = refl
        by false = cases (λ st. decorated (st ∷ rest) id k ≡ decorated rest id k) (λ st h. quiet_decorated st rest id k h) other (λ is. refl)

    pub dropped_members : (n k : ℕ) (rest : List Statement) → member_decorated (said i.words rest) id n k ≡ member_decorated rest id n k
    dropped_members n k rest = by (is_silent_opcode (opcode i))
      where
        other : opcode i ≡ op.MEMBER_DECORATE → member_decorated (member_decoration_of (drop 1 i.words) ∷ rest) id n k ≡ member_decorated rest id n k
        other is =
            ap (λ (b : Bool).
            cond (b && (slice_index (drop 1 i.words) 1 == n && slice_index (drop 1 i.words) 2 == k)) (Some (drop 3 (drop 1 i.words))) (member_decorated rest id n k))
            (missed (ap (is_one_of decorating_kinds) is))

        by : (b : Bool) → member_decorated (cond b rest (st_of (opcode i) (drop 1 i.words) ∷ rest)) id n k ≡ member_decorated rest id n k
        by true = refl
        by false = cases (λ st. member_decorated (st ∷ rest) id n k ≡ member_decorated rest id n k) (λ st h. quiet_members st rest id n k h) (λ is. refl) other

-- ---- one statement in front of the same

front_decorated : (ws : List ℕ) (xs ys : List Statement) (id k : ℕ) → decorated xs id k ≡ decorated ys id k → decorated (said ws xs) id k ≡ decorated (said ws ys) id k
front_decorated ws xs ys id k h = by (is_silent_opcode (opcode_of (slice_index ws 0))) (st_of (opcode_of (slice_index ws 0)) (drop 1 ws))
  where
    by : (b : Bool) (st : Statement) → decorated (cond b xs (st ∷ xs)) id k ≡ decorated (cond b ys (st ∷ ys)) id k
    by true st = h
    by false (states.Decorate target what literals) = ap (λ o. cond (target == id && what == k) (Some literals) o) h
    by false other = h

front_members : (ws : List ℕ) (xs ys : List Statement) (id n k : ℕ) → member_decorated xs id n k ≡ member_decorated ys id n k
    → member_decorated (said ws xs) id n k ≡ member_decorated (said ws ys) id n k
front_members ws xs ys id n k h = by (is_silent_opcode (opcode_of (slice_index ws 0))) (st_of (opcode_of (slice_index ws 0)) (drop 1 ws))
  where
    by : (b : Bool) (st : Statement) → member_decorated (cond b xs (st ∷ xs)) id n k ≡ member_decorated (cond b ys (st ∷ ys)) id n k
    by true st = h
    by false (states.MemberDecorate target member what literals) = ap (λ o. cond (target == id && (member == n && what == k)) (Some literals) o) h
    by false other = h

-- ---- what is left of a module

said_more : (i : Instruction) (is : List Instruction) → says (i ∷ is) ≡ said i.words (says is)
unfolding statements_in
said_more i is = refl

module _ (gone : ℕ → Bool) (keep : Instruction → Bool) (before after : List Instruction) (thin : IsThinned gone keep before after)
    (facts : AllByRecursion (Fact gone keep before) before) where
  abbrev F : Instruction → Type 0
  F i = Fact gone keep before i

  -- of what stays, all decorations stay
  module _ (id : ℕ) (s : Stays gone id) (k : ℕ) where
    abbrev Same : List Instruction → List Instruction → Type 0
    Same is js = decorated (says js) id k ≡ decorated (says is) id k

    drops : (i : Instruction) (is js : List Instruction) → F i → keep i ≡ false → Same is js → Same (i ∷ is) js
    drops i is js f e h = h ∙ sym (ap (λ z. decorated z id k) (said_more i is) ∙ dropped_decorated gone i (f.dropped e) id s k (says is))

    keeps : (i j : Instruction) (is js : List Instruction) → F i → keep i ≡ true → j.words ≡ i.words → Same is js → Same (i ∷ is) (j ∷ js)
    keeps i j is js f e w h =
        ap (λ z. decorated z id k) (said_more j js ∙ ap (λ ws. said ws (says js)) w)
        ∙ front_decorated i.words (says js) (says is) id k h ∙ sym (ap (λ z. decorated z id k) (said_more i is))

    pub same_decorations : decorated (says after) id k ≡ decorated (says before) id k
    same_decorations = walk keep F Same refl drops keeps before after facts thin.words

  -- and so do those of its members
  module _ (id : ℕ) (s : Stays gone id) (n k : ℕ) where
    abbrev SameMember : List Instruction → List Instruction → Type 0
    SameMember is js = member_decorated (says js) id n k ≡ member_decorated (says is) id n k

    pub same_members : member_decorated (says after) id n k ≡ member_decorated (says before) id n k
    same_members =
        walk keep F SameMember refl
        (λ i is js f e h. h ∙ sym (ap (λ z. member_decorated z id n k) (said_more i is) ∙ dropped_members gone i (f.dropped e) id s n k (says is)))
        (λ i j is js f e w h. ap (λ z. member_decorated z id n k) (said_more j js ∙ ap (λ ws. said ws (says js)) w)
        ∙ front_members i.words (says js) (says is) id n k h ∙ sym (ap (λ z. member_decorated z id n k) (said_more i is)))
        before after facts thin.words
