-- A module and the one with a declaration more, with what is known of both; and induction along them.
use Rattle.std.proofs.Common.{◌≡◌, ℕ, suc, Bool, true, false, cond, ◌==◌, ◌&&◌, ◌||◌, List, [], ◌∷◌, ◌++◌, Some, refl, sym, ap, subst, ◌∙◌, true≢false, eqb-true, arith}
use Rattle.std.specs.List.{AllByRecursion, find, list_all, slice_get, slice_index}
use Rattle.std.specs.Option.{option_map_or}
use Rattle.std.specs.Prelude.{nat_eq, not}
use Rattle.std.proofs.lemmas.Bool.Decides.{nat_tests}
use Rattle.spv_opcodes.specs.declared.op.TheConstants as op
use Rattle.spv_grammar.specs.Table.{row_of}
use Rattle.spv_grammar.specs.declared.section.TheConstants as section
use Rattle.spv_module.specs.Code.{is_line, plain_section, row_section}
use Rattle.spv_module.specs.Instruction.{Instruction, IsInstruction, opcode, roles}
use Rattle.spv_meaning.specs.Statements.{words_of}
use Rattle.spv_ids.specs.Ids.{defines}
use Rattle.spv_typing.specs.Kinds.{is_closed, is_constant, is_int, is_one_of, type_of}
use Rattle.spv_typing.specs.Types.{array_fits, type_fits}
use Rattle.spv_declarations.specs.Declarations.{declared_before}
use Rattle.spv_declarations.specs.Laws.{IsUnbroken}
use Rattle.spv_declarations.proofs.Modules.{unbroken}
use Rattle.spv_declarations.proofs.Operations.{FitsForm, fitting-form}
use Rattle.spv_declarations.proofs.Unbroken.{keeps}
use Rattle.spv_alike.proofs.Lookups.{and_left, and_right}
use Rattle.spv_alike_uses.proofs.Lookups.{each}
use Rattle.spv_added.specs.Added.{IsAdded, IsFree, starts_function}

-- the words of an instruction, wherever it stands
abbrev pub inst : List ℕ → Instruction
inst ws = record { offset = 0; words = ws }

pub itself : (k : ℕ) → nat_eq k k ≡ true
itself k = grind (arith, nat_tests)

-- induction on the instructions
pub each_at : (P : Instruction → Type 0) (is : List Instruction) → ((k : ℕ) (i : Instruction) → slice_get is k ≡ Some i → P i) → AllByRecursion P is
each_at P [] h = tt
each_at P (i ∷ is) h = (h 0 i refl, each_at P is (λ k. h (suc k)))

-- what holds of each instruction holds of one that is found, and the test does
pub found : (test : Instruction → Bool) (P : Instruction → Type 0) (is : List Instruction) (i : Instruction) → AllByRecursion P is → find test is ≡ Some i
    → P i × (test i ≡ true)
found test P [] i all h = absurd (cc h)
found test P (x ∷ xs) i all h = by (test x) refl (found test P xs i all.1) h
  where
    by : (b : Bool) → test x ≡ b → (find test xs ≡ Some i → P i × (test i ≡ true)) → cond b (Some x) (find test xs) ≡ Some i → P i × (test i ≡ true)
    by true e rest h = let same : x ≡ i = cc h in (subst P same all.0, ap test (sym same) ∙ e)
    by false e rest h = rest h

-- ---- what is known of each instruction of the module before

pub record Fact (r : ℕ) (before : List Instruction) (i : Instruction) : Type 0 where
  pub whole : IsInstruction i.words (roles i)
  pub free : IsFree r i
  -- the length of an array type is a constant of a type of integers
  pub length : (opcode i == op.TYPE_ARRAY) ≡ true
      → (is_constant before (slice_index i.words 3) ≡ true) × (is_int before (type_of before (slice_index i.words 3)) ≡ true)
  -- what a constant computes its operands fit
  pub operation : opcode i ≡ op.SPEC_CONSTANT_OP → FitsForm before i.words

not_line : (i : Instruction) (o : ℕ) → (o == op.LINE || o == op.NO_LINE) ≡ false → opcode i ≡ o → is_line i ≡ false
not_line i o h e = ap (λ (o : ℕ). o == op.LINE || o == op.NO_LINE) e ∙ h

array_fits_by : (insts : List Instruction) (i : Instruction) → (opcode i == op.TYPE_ARRAY) ≡ true
    → type_fits insts i ≡ array_fits insts (slice_index i.words 2) (slice_index i.words 3)
unfolding type_fits
array_fits_by insts i h = rw (eqb-true (opcode i) op.TYPE_ARRAY h) refl

pub length_constant : (insts : List Instruction) → IsUnbroken insts → (k : ℕ) (i : Instruction) → slice_get insts k ≡ Some i
    → (opcode i == op.TYPE_ARRAY) ≡ true
    → (is_constant insts (slice_index i.words 3) ≡ true) × (is_int insts (type_of insts (slice_index i.words 3)) ≡ true)
length_constant insts h k i at is =
    let l = slice_index i.words 3 in
    let types : type_fits insts i ≡ true =
    (keeps insts (declared_before insts k) k i (not_line i op.TYPE_ARRAY refl (eqb-true (opcode i) op.TYPE_ARRAY is))
    (unbroken insts (suc k) h.unrefused k i (omega arith) at)).types in
    let fits : array_fits insts (slice_index i.words 2) l ≡ true = sym (array_fits_by insts i is) ∙ types in
    let right = and_right (is_closed insts (slice_index i.words 2)) (is_constant insts l && is_int insts (type_of insts l)) fits in
    (and_left (is_constant insts l) (is_int insts (type_of insts l)) right, and_right (is_constant insts l) (is_int insts (type_of insts l)) right)

pub operation_fits : (insts : List Instruction) → IsUnbroken insts → (k : ℕ) (i : Instruction) → slice_get insts k ≡ Some i → opcode i ≡ op.SPEC_CONSTANT_OP
    → FitsForm insts i.words
operation_fits insts h k i at is =
    fitting-form insts i is
    (keeps insts (declared_before insts k) k i (not_line i op.SPEC_CONSTANT_OP refl is) (unbroken insts (suc k) h.unrefused k i (omega arith) at)).operations

-- ---- the two modules

pub record Adding : Type 0 where
  pub r : ℕ
  pub new : Instruction
  pub front : List Instruction
  pub rest : List Instruction
  pub before : List Instruction
  pub after : List Instruction
  pub unbroken : IsUnbroken before
  pub added : IsAdded r new front rest before after
  pub facts : AllByRecursion (Fact r before) before

abbrev pub adding : (r : ℕ) (new : Instruction) (front rest before after : List Instruction) → IsUnbroken before → IsAdded r new front rest before after
    → Adding
adding r new front rest before after h a = record {
  r = r;
  new = new;
  front = front;
  rest = rest;
  before = before;
  after = after;
  unbroken = h;
  added = a;
  facts =
      each_at (Fact r before) before (λ k i at. record {
        whole = h.whole k i at;
        free = a.free k i at;
        length = length_constant before h k i at;
        operation = operation_fits before h k i at;
      });
}

abbrev pub FactOf : Adding → Instruction → Type 0
FactOf t i = Fact t.r t.before i

-- another id than the new one
abbrev pub In : Adding → ℕ → Type 0
In t id = (id == t.r) ≡ false

-- ---- along both

module _ (new : Instruction) (F : Instruction → Type 0) (M : List Instruction → List Instruction → Type 0) (nil : M [] [])
    (adds : (j : Instruction) (is js : List Instruction) → starts_function is ≡ true → j.words ≡ new.words → M is js → M is (j ∷ js))
    (keeps : (i j : Instruction) (is js : List Instruction) → F i → j.words ≡ i.words → M is js → M (i ∷ is) (j ∷ js)) where
  -- of the same words
  pub walk_same : (is js : List Instruction) → AllByRecursion F is → words_of js ≡ words_of is → M is js
  walk_same [] [] all e = nil
  walk_same [] (j ∷ js) all e = absurd (cc e)
  walk_same (i ∷ is) [] all e = absurd (cc e)
  walk_same (i ∷ is) (j ∷ js) all e = keeps i j is js all.0 (cc e) (walk_same is js all.1 (cc e))

  -- with one more in front of some
  pub walk : (front rest js : List Instruction) → starts_function rest ≡ true → AllByRecursion F (front ++ rest)
      → words_of js ≡ words_of front ++ new.words ∷ words_of rest → M (front ++ rest) js
  walk [] rest [] s all e = absurd (cc e)
  walk [] rest (j ∷ js) s all e = adds j rest js s (cc e) (walk_same rest js all (cc e))
  walk (i ∷ front) rest [] s all e = absurd (cc e)
  walk (i ∷ front) rest (j ∷ js) s all e = keeps i j (front ++ rest) js all.0 (cc e) (walk front rest js s all.1 (cc e))

pub along : (t : Adding) (M : List Instruction → List Instruction → Type 0) → M [] []
    → ((j : Instruction) (is js : List Instruction) → starts_function is ≡ true → j.words ≡ t.new.words → M is js → M is (j ∷ js))
    → ((i j : Instruction) (is js : List Instruction) → FactOf t i → j.words ≡ i.words → M is js → M (i ∷ is) (j ∷ js))
    → M t.before t.after
along t M nil adds keeps =
    subst (λ is. M is t.after) (sym t.added.parts)
    (walk t.new (FactOf t) M nil adds keeps t.front t.rest t.after t.added.functions (subst (AllByRecursion (FactOf t)) t.added.parts t.facts) t.added.words)

-- ---- the new instruction

-- its opcode is one of the section of declarations
abbrev pub is_foreign : ℕ → Bool
is_foreign o = not (row_section (row_of o) == section.DECLARATIONS)

pub not_one_of : (i : Instruction) → plain_section false i ≡ section.DECLARATIONS → (os : List ℕ) → list_all is_foreign os ≡ true
    → is_one_of os (opcode i) ≡ false
not_one_of i declares os all = by (is_one_of os (opcode i)) refl
  where
    own : is_foreign (opcode i) ≡ false
    own = ap (λ (s : ℕ). not (s == section.DECLARATIONS)) declares

    by : (b : Bool) → is_one_of os (opcode i) ≡ b → b ≡ false
    by true e = absurd (true≢false (sym (each is_foreign os all (opcode i) e) ∙ own))
    by false e = refl

pub or_false : (b : Bool) → (b || false) ≡ false → b ≡ false
or_false true h = h
or_false false h = h

pub not_opcode : (i : Instruction) → plain_section false i ≡ section.DECLARATIONS → (o : ℕ) → is_foreign o ≡ true → (opcode i == o) ≡ false
not_opcode i declares o h = or_false (opcode i == o) (not_one_of i declares (o ∷ []) (ap (λ (b : Bool). b && true) h))

pub no_opcode : (t : Adding) (o : ℕ) → is_foreign o ≡ true → (opcode t.new == o) ≡ false
no_opcode t o h = not_opcode t.new t.added.section o h

pub new_defines : (t : Adding) (id : ℕ) (j : Instruction) → j.words ≡ t.new.words → defines id j ≡ (id == t.r)
new_defines t id j w = ap (λ ws. defines id (inst ws)) w ∙ ap (λ o. option_map_or (nat_eq id) o false) t.added.result
