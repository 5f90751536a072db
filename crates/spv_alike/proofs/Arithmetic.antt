-- Arithmetic takes and gives the same in modules that are alike.
use Rattle.std.proofs.Common.{◌≡◌, ℕ, Bool, ◌==◌, ◌&&◌, ◌||◌, nat_le, true, false, List, [], ◌∷◌, length, drop, Option, Some, None, refl, ap, ap₂, ◌∙◌}
use Rattle.std.proofs.Math.Path.{fun_ext}
use Rattle.std.specs.List.{list_all, slice_index}
use Rattle.std.specs.Option.{option_map_or}
use Rattle.spv_opcodes.specs.declared.op.TheConstants as op
use Rattle.spv_module.specs.Instruction.{Instruction, opcode}
use Rattle.spv_typing.specs.declared.shapes.Shape.{Shape}
use Rattle.spv_typing.specs.Operations.{shape, has_shape, count_of}
use Rattle.spv_arithmetic.specs.declared.forms.Form.{Form}
use Rattle.spv_arithmetic.specs.Forms.{form_of, first_operand}
use Rattle.spv_arithmetic.specs.declared.forms.Form.TheVariants.{Ints, Bools, Compares, Reduces, Pairs, FieldInserts, FieldExtracts, Selects, Extended, Branches, Switches}
use Rattle.spv_arithmetic.specs.Operands.{common_count, all_ints, all_bools, have_one_type, is_field, has_components, condition_fits, suits_set, operands_suit}
use Rattle.spv_arithmetic.specs.Operands.{form_operands_fit, operands_fit}
use Rattle.spv_arithmetic.specs.Results.{are_two_of, is_pair_of, gives_ints, gives_bools, result_suits, form_result_fits, result_fits}
use Rattle.spv_alike.specs.Alike.{AreAlike}
use Rattle.spv_alike.proofs.Lookups.{by_one, same_test, same_closed, same_shape, same_value_shape, same_value_of, same_ints, same_bools}

module _ (before after : List Instruction) (alike : AreAlike before after) where
  same_count : (ids : List ℕ) → common_count after ids ≡ common_count before ids
  same_count ids = ap count_of (same_value_shape before after alike (slice_index ids 0))

  same_all_ints : (ids : List ℕ) → all_ints after ids ≡ all_ints before ids
  same_all_ints ids =
      ap₂ (λ (f : ℕ → ℕ → Bool) (n : ℕ). list_all (f n) ids) (fun_ext (λ n. fun_ext (same_ints before after alike n))) (same_count ids)

  same_all_bools : (ids : List ℕ) → all_bools after ids ≡ all_bools before ids
  same_all_bools ids =
      ap₂ (λ (f : ℕ → ℕ → Bool) (n : ℕ). list_all (f n) ids) (fun_ext (λ n. fun_ext (same_bools before after alike n))) (same_count ids)

  same_one_type : (a b : ℕ) → have_one_type after a b ≡ have_one_type before a b
  same_one_type a b =
      ap₂ (λ (f : ℕ → Bool) (o : Option ℕ). option_map_or f o false) (fun_ext (λ t. same_value_of before after alike t b)) (alike.values a)

  same_field : (offset count : ℕ) → is_field after offset count ≡ is_field before offset count
  same_field offset count = ap₂ (λ (a b : Bool). a && b) (same_ints before after alike 1 offset) (same_ints before after alike 1 count)

  same_components : (o : Option Shape) (c : ℕ) → has_components after o c ≡ has_components before o c
  same_components None c = refl
  same_components (Some s) c = same_bools before after alike s.count c

  same_condition : (t c : ℕ) → condition_fits after t c ≡ condition_fits before t c
  same_condition t c =
      ap₂ (λ (a b : Bool). a || b) (same_bools before after alike 1 c)
      (same_components (shape after t) c ∙ ap (λ (o : Option Shape). has_components before o c) (same_shape before after alike t))

  same_set : (set : ℕ) (ids : List ℕ) → suits_set after set ids ≡ suits_set before set ids
  unfolding suits_set
  same_set set ids = ap₂ (λ (a b : Bool). a && b) (same_test before after alike op.EXT_INST_IMPORT refl set) (same_all_ints ids)

  same_operands : (form : Form) (t : ℕ) (ids : List ℕ) → operands_suit after form t ids ≡ operands_suit before form t ids
  same_operands (Ints n) t ids = ap (λ (b : Bool). length ids == n && b) (same_all_ints ids)
  same_operands (Bools n) t ids = ap (λ (b : Bool). length ids == n && b) (same_all_bools ids)
  same_operands Compares t ids = ap (λ (b : Bool). length ids == 2 && b) (same_all_ints ids)
  same_operands Reduces t ids = ap₂ (λ (n : ℕ) (b : Bool). length ids == 1 && (nat_le 2 n && b)) (same_count ids) (same_all_bools ids)
  same_operands Pairs t (a ∷ b ∷ []) = ap₂ (λ (x y : Bool). x && y) (same_all_ints (a ∷ b ∷ [])) (same_one_type a b)
  same_operands FieldInserts t (base ∷ insert ∷ offset ∷ count ∷ []) =
      ap₂ (λ (x y : Bool). x && y) (same_all_ints (base ∷ insert ∷ [])) (same_field offset count)
  same_operands FieldExtracts t (base ∷ offset ∷ count ∷ []) = ap₂ (λ (x y : Bool). x && y) (same_all_ints (base ∷ [])) (same_field offset count)
  same_operands Selects t (c ∷ a ∷ b ∷ []) =
      ap₂ (λ (x y : Bool). x && y) (same_condition t c)
      (ap₂ (λ (x y : Bool). x && y) (same_value_of before after alike t a) (same_value_of before after alike t b))
  same_operands Extended t (set ∷ number ∷ ids) = same_set set ids
  same_operands Branches t (condition ∷ labels) = same_bools before after alike 1 condition
  same_operands Switches t (selector ∷ targets) = same_ints before after alike 1 selector
  same_operands form t ids = refl

  same_form_operands : (form : Option Form) (i : Instruction) → form_operands_fit after form i ≡ form_operands_fit before form i
  same_form_operands None i = refl
  same_form_operands (Some form) i = same_operands form (slice_index i.words 1) (drop (first_operand form) i.words)

  pub same_operands_fit : (i : Instruction) → operands_fit after i ≡ operands_fit before i
  unfolding operands_fit
  same_operands_fit i = same_form_operands (form_of (opcode i)) i

  -- ---- results

  same_pair_of : (t u : ℕ) → is_pair_of after t u ≡ is_pair_of before t u
  same_pair_of t u = by_one before after alike (λ k w ws. k == op.TYPE_STRUCT && are_two_of u (ws 2)) false (λ w ws. (refl, refl, refl, refl)) t

  same_gives_ints : (t : ℕ) (ids : List ℕ) → gives_ints after t (common_count after ids) ≡ gives_ints before t (common_count before ids)
  same_gives_ints t ids = ap₂ (λ (n : ℕ) (o : Option Shape). has_shape false n o) (same_count ids) (same_shape before after alike t)

  same_gives_bools : (t : ℕ) (ids : List ℕ) → gives_bools after t (common_count after ids) ≡ gives_bools before t (common_count before ids)
  same_gives_bools t ids = ap₂ (λ (n : ℕ) (o : Option Shape). has_shape true n o) (same_count ids) (same_shape before after alike t)

  same_result : (form : Form) (t : ℕ) (ids : List ℕ) → result_suits after form t ids ≡ result_suits before form t ids
  same_result (Ints n) t ids = same_gives_ints t ids
  same_result (Bools n) t ids = same_gives_bools t ids
  same_result Compares t ids = same_gives_bools t ids
  same_result Reduces t ids = ap (has_shape true 1) (same_shape before after alike t)
  same_result Pairs t ids =
      ap₂ (λ (f : ℕ → Bool) (o : Option ℕ). option_map_or f o false) (fun_ext (same_pair_of t)) (alike.values (slice_index ids 0))
  same_result FieldInserts t ids = same_gives_ints t ids
  same_result FieldExtracts t ids = same_gives_ints t ids
  same_result Selects t ids = same_closed before after alike t
  same_result Extended t (set ∷ number ∷ ids) = same_gives_ints t ids
  same_result form t ids = refl

  same_form_result : (form : Option Form) (i : Instruction) → form_result_fits after form i ≡ form_result_fits before form i
  same_form_result None i = refl
  same_form_result (Some form) i = same_result form (slice_index i.words 1) (drop (first_operand form) i.words)

  pub same_result_fits : (i : Instruction) → result_fits after i ≡ result_fits before i
  unfolding result_fits
  same_result_fits i = same_form_result (form_of (opcode i)) i
