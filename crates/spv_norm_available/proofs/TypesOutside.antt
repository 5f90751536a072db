-- What defines a type stands outside functions.
use Rattle.std.proofs.Common.{◌≡◌, ℕ, zero, suc, ◌+◌, Bool, true, false, cond, not, ◌==◌, ◌&&◌, ◌||◌, List, [], ◌∷◌, take, Option, Some, None, inl, refl, sym, ap, ◌∙◌, arith}
use Rattle.std.specs.Prelude.{count_by, nat_lt}
use Rattle.std.specs.List.{list_all, list_any, slice_get, AllByRecursion}
use Rattle.std.specs.Option.{option_map_or}
use Rattle.std.proofs.lemmas.Bool.{and_parts, not-true, or_parts}
use Rattle.std.proofs.lemmas.List.Sums.{sum_by-cons}
use Rattle.spv_opcodes.specs.declared.op.TheConstants as op
use Rattle.spv_grammar.specs.Table.{row_of}
use Rattle.spv_module.specs.Code.{is_function, is_line, row_section, stands_in_functions_too}
use Rattle.spv_module.specs.First.{first}
use Rattle.spv_module.specs.Instruction.{Instruction, opcode}
use Rattle.spv_module.specs.Layout.{group_2}
use Rattle.spv_ids.specs.Ids.{defines, definition, kind, place_of}
use Rattle.spv_ids.proofs.Places.{find-position}
use Rattle.spv_typing.specs.Kinds.{is_one_of, is_data, data_types}
use Rattle.spv_availability.specs.Places.{function_of}
use Rattle.spv_fine.specs.Laws.{IsKnown}
use Rattle.spv_label_uses.proofs.Begun.{declared_first}
use Rattle.spv_label_uses.proofs.Free.{one_passes, same_by}

-- ---- types

-- the types that functions, their parameters and OpPhi name
abbrev pub types : List ℕ
types = op.TYPE_VOID ∷ op.TYPE_FUNCTION ∷ op.TYPE_POINTER ∷ data_types

abbrev pub is_type : List Instruction → (id : ℕ) → Bool
is_type insts id = is_one_of types (kind insts id)

pub of_kind : (insts : List Instruction) (id o : ℕ) → (kind insts id == o) ≡ true → is_one_of types o ≡ true → is_type insts id ≡ true
of_kind insts id o h k = ap (is_one_of types) (same_by (kind insts id) o h) ∙ k

pub of_data : (insts : List Instruction) (id : ℕ) → is_data insts id ≡ true → is_type insts id ≡ true
of_data insts id h = one_passes (is_one_of types) data_types (kind insts id) refl h

-- an opcode whose instructions stand before all functions
abbrev stands_before : (o : ℕ) → Bool
stands_before o =
    not (o == op.LINE || o == op.NO_LINE) && (not (o == op.VARIABLE || o == op.UNDEF) && (nat_lt (row_section (row_of o)) 11 && not (o == op.FUNCTION)))

declared : list_all stands_before types ≡ true
unfolding row_of
declared = refl

-- ---- before all functions

-- induction on the instructions
none_counted : (is : List Instruction) → list_any is_function is ≡ false → count_by is_function is ≡ 0
none_counted [] h = refl
none_counted (i ∷ is) h =
    let parts = or_parts (is_function i) (list_any is_function is) h in
    let one : count_by is_function (i ∷ is) ≡ cond (is_function i) 1 0 + count_by is_function is =
    sum_by-cons (λ (x : Instruction). cond (is_function x) 1 0) i is in
    let behind : count_by is_function is ≡ 0 = none_counted is parts.1 in
    let front : cond (is_function i) 1 0 ≡ 0 = ap (λ (b : Bool). cond b 1 0) parts.0 in
    by (cond (is_function i) 1 0) (count_by is_function is) one front behind
  where
    by : {n : ℕ} (a b : ℕ) → n ≡ a + b → a ≡ 0 → b ≡ 0 → n ≡ 0
    by a b e f g = omega (arith, e, f, g)

-- induction on the instructions
none_up_to : (insts : List Instruction) (k : ℕ) (i : Instruction) → slice_get insts k ≡ Some i → list_any is_function (take k insts) ≡ false
    → is_function i ≡ false → list_any is_function (take (suc k) insts) ≡ false
none_up_to [] k i e h f = absurd (cc e)
none_up_to (x ∷ xs) zero i e h f =
    let same : x ≡ i = cc e in
    ap (λ j. is_function j || false) same ∙ ap (λ b. b || false) f
none_up_to (x ∷ xs) (suc k) i e h f =
    let parts = or_parts (is_function x) (list_any is_function (take k xs)) h in
    ap (λ b. b || list_any is_function (take (suc k) xs)) parts.0 ∙ none_up_to xs k i e parts.1 f

outside_there : (insts : List Instruction) (k : ℕ) (i : Instruction) → slice_get insts k ≡ Some i → list_any is_function (take k insts) ≡ false
    → is_function i ≡ false → function_of insts k ≡ 0
outside_there insts k i e h f = ap (λ (n : ℕ). count_by is_function (take n insts)) more ∙ none_counted (take (suc k) insts) (none_up_to insts k i e h f)
  where
    more : k + 1 ≡ suc k
    more = omega arith

-- ---- so a type is known

pub type_is_known : (end : ℕ) (insts : List Instruction) → first (group_2 end insts) ≡ None → (id : ℕ) → is_type insts id ≡ true → IsKnown insts id
type_is_known end insts laid id h = by (definition insts id) refl h where
  there : (d : Instruction) → definition insts id ≡ Some d → is_one_of types (opcode d) ≡ true → (k : ℕ) → place_of insts id ≡ Some k
      → slice_get insts k ≡ Some d → IsKnown insts id
  there d e t k p at =
      let o : ℕ = opcode d in
      let tests = one_passes stands_before types o declared t in
      let plain = and_parts (not (is_line d)) (not (stands_in_functions_too d) && (nat_lt (row_section (row_of o)) 11 && not (is_function d))) tests in
      let apart = and_parts (not (stands_in_functions_too d)) (nat_lt (row_section (row_of o)) 11 && not (is_function d)) plain.1 in
      let low = and_parts (nat_lt (row_section (row_of o)) 11) (not (is_function d)) apart.1 in
      let none = declared_first end insts laid k d at (not-true (is_line d) plain.0) (not-true (stands_in_functions_too d) apart.0) low.0 in
      record { at = k; inst = d; is_at = p; is = e; everywhere = inl (outside_there insts k d at none (not-true (is_function d) low.1)) }

  placed : (d : Instruction) → definition insts id ≡ Some d → is_one_of types (opcode d) ≡ true → (p : Option ℕ) → place_of insts id ≡ p
      → option_map_or (slice_get insts) p None ≡ Some d → IsKnown insts id
  placed d e t None p h = absurd (cc h)
  placed d e t (Some k) p h = there d e t k p h

  by : (d : Option Instruction) → definition insts id ≡ d → is_one_of types (option_map_or opcode d 0) ≡ true → IsKnown insts id
  by None e t = absurd (cc t)
  by (Some d) e t = placed d e t (place_of insts id) refl (sym (find-position (defines id) insts) ∙ e)

-- of each of some; induction on these
pub types_are_known : (end : ℕ) (insts : List Instruction) → first (group_2 end insts) ≡ None → (ids : List ℕ) → list_all (is_type insts) ids ≡ true
    → AllByRecursion (IsKnown insts) ids
types_are_known end insts laid [] h = tt
types_are_known end insts laid (id ∷ ids) h =
    let both = and_parts (is_type insts id) (list_all (is_type insts) ids) h in
    (type_is_known end insts laid id both.0, types_are_known end insts laid ids both.1)
