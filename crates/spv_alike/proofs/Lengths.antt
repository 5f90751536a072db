-- Lengths of array types are Known alike: an array type of a module that breaks no rule on declarations names a constant of a type of integers, and these
-- are defined by the same words.
use Rattle.std.proofs.Common.{◌≡◌, ℕ, suc, Bool, true, false, cond, ◌==◌, ◌&&◌, ◌||◌, nat_eq, nat_lt, List, [], ◌∷◌, slice_index, Option, Some, None, refl, sym, ap, ap₂, ◌∙◌, true≢false, eqb-true, arith}
use Rattle.std.specs.List.{find, slice_get}
use Rattle.std.specs.Option.{option_and_then, option_map_or}
use Rattle.spv_opcodes.specs.declared.op.TheConstants as op
use Rattle.spv_module.specs.Code.{is_line}
use Rattle.spv_module.specs.Instruction.{Instruction, opcode}
use Rattle.spv_ids.specs.Ids.{defines, definition, kind, word_of}
use Rattle.spv_typing.specs.Kinds.{is_array, is_int, is_constant, is_closed, length_id, type_of}
use Rattle.spv_typing.specs.Types.{array_fits, type_fits}
use Rattle.spv_declarations.specs.Declarations.{declared_before}
use Rattle.spv_declarations.specs.Laws.{IsUnbroken}
use Rattle.spv_declarations.proofs.Modules.{unbroken}
use Rattle.spv_declarations.proofs.Unbroken.{keeps}
use Rattle.spv_composites.specs.Lengths.{is_signed, some_length, known_length, has_known_length}
use Rattle.spv_alike.specs.Alike.{AreAlike}
use Rattle.spv_alike.proofs.Lookups.{and_left, and_right, firm_test, same_word, same_type_of, same_length_id}

-- what is found stands somewhere; induction on the instructions
found_at : (test : Instruction → Bool) (insts : List Instruction) (i : Instruction) → find test insts ≡ Some i → (k : ℕ) × (slice_get insts k ≡ Some i)
found_at test [] i h = absurd (cc h)
found_at test (x ∷ xs) i h = by (test x) refl (found_at test xs i)
  where
    by : (b : Bool) → test x ≡ b → (find test xs ≡ Some i → (k : ℕ) × (slice_get xs k ≡ Some i)) → (k : ℕ) × (slice_get (x ∷ xs) k ≡ Some i)
    by true e rest = (0, ap (λ (b : Bool). cond b (Some x) (find test xs)) (sym e) ∙ h)
    by false e rest =
        let r = rest (ap (λ (b : Bool). cond b (Some x) (find test xs)) (sym e) ∙ h) in
        (suc r.0, r.1)

-- the definition of an id by its opcode and words
pub record Defined (insts : List Instruction) (id : ℕ) : Type 0 where
  pub at : ℕ
  pub inst : Instruction
  pub is_at : slice_get insts at ≡ Some inst
  pub is : definition insts id ≡ Some inst

pub defined_of : (insts : List Instruction) (id o : ℕ) → (0 == o) ≡ false → (kind insts id == o) ≡ true → Defined insts id
defined_of insts id o some h = by (definition insts id) refl
  where
    by : (d : Option Instruction) → definition insts id ≡ d → Defined insts id
    by None e = absurd (true≢false (sym h ∙ ap (λ (d : Option Instruction). option_map_or opcode d 0 == o) e ∙ some))
    by (Some i) e = let f = found_at (defines id) insts i e in record { at = f.0; inst = i; is_at = f.1; is = e }

not_line : (i : Instruction) → (opcode i == op.TYPE_ARRAY) ≡ true → is_line i ≡ false
not_line i h = ap (λ (o : ℕ). o == op.LINE || o == op.NO_LINE) (eqb-true (opcode i) op.TYPE_ARRAY h)

array_fits_by : (insts : List Instruction) (i : Instruction) → (opcode i == op.TYPE_ARRAY) ≡ true →
    type_fits insts i ≡ array_fits insts (slice_index i.words 2) (slice_index i.words 3)
unfolding type_fits
array_fits_by insts i h = rw (eqb-true (opcode i) op.TYPE_ARRAY h) refl

-- an array type in a module that breaks no rule names a constant of a type of integers
pub length_constant : (insts : List Instruction) (t : ℕ) → IsUnbroken insts → is_array insts t ≡ true →
    (is_constant insts (length_id insts t) ≡ true) × (is_int insts (type_of insts (length_id insts t)) ≡ true)
length_constant insts t h array =
    let d = defined_of insts t op.TYPE_ARRAY refl array in
    let is : (opcode d.inst == op.TYPE_ARRAY) ≡ true = ap (λ (x : Option Instruction). option_map_or opcode x 0 == op.TYPE_ARRAY) (sym d.is) ∙ array in
    let types : type_fits insts d.inst ≡ true =
    (keeps insts (declared_before insts d.at) d.at d.inst (not_line d.inst is) (unbroken insts (suc d.at) h.unrefused d.at d.inst (omega arith) d.is_at)).types in
    let third : length_id insts t ≡ slice_index d.inst.words 3 = ap (λ (x : Option Instruction). option_map_or (λ i. slice_index i.words 3) x 0) d.is in
    let fits : array_fits insts (slice_index d.inst.words 2) (length_id insts t) ≡ true =
    ap (array_fits insts (slice_index d.inst.words 2)) third ∙ sym (array_fits_by insts d.inst is) ∙ types in
    let right = and_right (is_closed insts (slice_index d.inst.words 2)) (is_constant insts (length_id insts t) && is_int insts (type_of insts (length_id insts t))) fits in (
      and_left (is_constant insts (length_id insts t)) (is_int insts (type_of insts (length_id insts t))) right,
      and_right (is_constant insts (length_id insts t)) (is_int insts (type_of insts (length_id insts t))) right,
    )

module _ (before after : List Instruction) (alike : AreAlike before after) where
  -- the signedness of a constant of a type of integers
  pub same_signed : (id : ℕ) → is_constant before id ≡ true → is_int before (type_of before id) ≡ true → is_signed after id ≡ is_signed before id
  same_signed id constant int =
      ap (λ (t : ℕ). word_of after t 3 == 1) (same_type_of before after alike id constant)
      ∙ ap (λ (w : ℕ → ℕ). w 3 == 1) (same_word before after alike (type_of before id) (firm_test before after alike op.TYPE_INT refl (type_of before id) int))

  pub same_known_length : (id : ℕ) → is_constant before id ≡ true → is_int before (type_of before id) ≡ true → known_length after id ≡ known_length before id
  unfolding known_length
  same_known_length id constant int =
      ap₂ (λ (signed : Bool) (o : Option ℕ). option_and_then (some_length signed) (cond (nat_lt 0 id) o None)) (same_signed id constant int) (alike.known id 0)

  -- the length of an array type
  pub same_has_length : IsUnbroken before → (t : ℕ) → is_array before t ≡ true → (n : ℕ) →
      has_known_length after (length_id after t) n ≡ has_known_length before (length_id before t) n
  same_has_length h t array n =
      let c = length_constant before t h array in
      ap (λ (id : ℕ). has_known_length after id n) (same_length_id before after alike t array)
      ∙ ap (λ (o : Option ℕ). option_map_or (nat_eq n) o false) (same_known_length (length_id before t) c.0 c.1)
