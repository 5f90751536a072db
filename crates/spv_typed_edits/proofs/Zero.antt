-- Where instructions have their words and parts none defines 0, so 0 is no value.
use Rattle.std.proofs.Common.{◌≡◌, ℕ, suc, ◌<◌, Bool, true, false, cond, List, [], ◌∷◌, length, get_or, Option, Some, None, refl, sym, ap, ◌∙◌, true≢false, eqb-true, arith}
use Rattle.std.specs.Prelude.{nat_eq}
use Rattle.std.specs.List.{find, position, slice_get}
use Rattle.std.specs.Option.{option_and_then, option_map_or}
use Rattle.std.proofs.lemmas.List.Quantifiers.{position-Some}
use Rattle.std.proofs.lemmas.Option.{slice_get-get_or}
use Rattle.spv_grammar.specs.declared.kind.Role.{Role}
use Rattle.spv_grammar.specs.declared.kind.Role.TheVariants.{Opcode}
use Rattle.spv_grammar.specs.Roles.{is_defined_id, names_id}
use Rattle.spv_module.specs.Instruction.{Instruction, IsInstruction, roles}
use Rattle.spv_module.proofs.Ids.{id_above_zero}
use Rattle.spv_ids.specs.Ids.{defines, definition}
use Rattle.spv_values.specs.Values.{given_type, is_value_of}
use Rattle.spv_declarations.specs.Sound.{AreInstructions}

names : (role : Role) → is_defined_id role ≡ true → names_id role ≡ true
names role h = grind (arith)

above : (w : ℕ) → 0 < w → nat_eq 0 w ≡ false
above w h = by (nat_eq 0 w) refl
  where
    by : (b : Bool) → nat_eq 0 w ≡ b → nat_eq 0 w ≡ false
    by false e = e
    by true e = let same : 0 ≡ w = eqb-true 0 w e in absurd (omega (arith, same, h))

defines_no_zero : (i : Instruction) → IsInstruction i.words (roles i) → defines 0 i ≡ false
defines_no_zero i whole = by (position is_defined_id (roles i)) refl
  where
    by : (o : Option ℕ) → position is_defined_id (roles i) ≡ o → option_map_or (nat_eq 0) (option_and_then (slice_get i.words) o) false ≡ false
    by None e = refl
    by (Some p) e =
        let first = position-Some is_defined_id (roles i) p Opcode e in
        let fits : p < length i.words = omega (arith, whole.long, first.0) in
        ap (λ (o : Option ℕ). option_map_or (nat_eq 0) o false) (slice_get-get_or i.words p 0 fits)
        ∙ above (get_or i.words p 0) (id_above_zero i.words (roles i) p whole first.0 (names (get_or (roles i) p Opcode) first.1))

-- by recursion on the instructions
pub undefined : (insts : List Instruction) → AreInstructions insts → definition insts 0 ≡ None
undefined [] whole = refl
undefined (i ∷ is) whole =
    ap (λ (b : Bool). cond b (Some i) (find (defines 0) is)) (defines_no_zero i (whole 0 i refl)) ∙ undefined is (λ k j e. whole (suc k) j e)

pub zero_is_no_value : (insts : List Instruction) (t : ℕ) → AreInstructions insts → is_value_of insts t 0 ≡ true → ⊥
zero_is_no_value insts t whole h =
    true≢false (sym h
    ∙ ap (λ (o : Option Instruction). option_map_or (nat_eq t) (option_and_then given_type o) false) (undefined insts whole))
