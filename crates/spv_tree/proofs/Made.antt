-- Words that are an instruction of the profile.
use Rattle.std.proofs.Common.{◌≡◌, ℕ, ◌<◌, true, false, ◌&&◌, List, [], ◌∷◌, Ok, refl, sym, subst, arith}
use Rattle.std.specs.List.{list_any, zip}
use Rattle.std.proofs.lemmas.Bool.Decides.{nat_tests}
use Rattle.spv_grammar.specs.declared.kind.Role.{Role}
use Rattle.spv_grammar.specs.declared.kind.Role.TheVariants.{Opcode, DefinedId, UsedId, Literal}
use Rattle.spv_grammar.specs.Operands.{roles_of}
use Rattle.spv_grammar.specs.Roles.{names_id, is_unknown, is_bad_octets}
use Rattle.spv_grammar.specs.Table.{row_of}
use Rattle.spv_tree.specs.Control.{is_control}
use Rattle.spv_module.specs.Instruction.{instruction_rules, is_out_of_bound}

-- words with these parts, of which none is unknown or a bad string, and no id is 0 or too great
pub unbroken_by : (words : List ℕ) (roles : List Role) → roles_of words ≡ Ok roles → list_any is_bad_octets roles ≡ false
    → list_any (λ part. names_id part.0 && is_out_of_bound 4294967296 part.1) (zip roles words) ≡ false → list_any is_unknown roles ≡ false → instruction_rules 4294967296 words ≡ []
unfolding instruction_rules
unbroken_by words roles parts octets ids known = rw parts (rw octets (rw ids (rw known refl)))

pub within : (n : ℕ) → 0 < n → n < 4294967296 → is_out_of_bound 4294967296 n ≡ false
within n a b = grind (arith, nat_tests)

-- ---- instructions of a fixed number of words

pub label_unbroken : (h label : ℕ) → h ≡ 131320 → 0 < label → label < 4294967296 → instruction_rules 4294967296 (h ∷ label ∷ []) ≡ []
unfolding roles_of row_of
label_unbroken h label e label0 label1 =
    subst (λ z. instruction_rules 4294967296 (z ∷ label ∷ []) ≡ []) (sym e) (unbroken_by (131320 ∷ label ∷ []) (Opcode ∷ DefinedId ∷ []) refl refl (rw (within label label0 label1) refl) refl)

pub branch_unbroken : (h target : ℕ) → h ≡ 131321 → 0 < target → target < 4294967296 → instruction_rules 4294967296 (h ∷ target ∷ []) ≡ []
unfolding roles_of row_of
branch_unbroken h target e target0 target1 =
    subst (λ z. instruction_rules 4294967296 (z ∷ target ∷ []) ≡ []) (sym e) (unbroken_by (131321 ∷ target ∷ []) (Opcode ∷ UsedId ∷ []) refl refl (rw (within target target0 target1) refl) refl)

pub split_unbroken : (h condition first second : ℕ) → h ≡ 262394 → 0 < condition → condition < 4294967296 → 0 < first → first < 4294967296 → 0 < second → second < 4294967296 → instruction_rules 4294967296 (h ∷ condition ∷ first ∷ second ∷ []) ≡ []
unfolding roles_of row_of
split_unbroken h condition first second e condition0 condition1 first0 first1 second0 second1 =
    subst (λ z. instruction_rules 4294967296 (z ∷ condition ∷ first ∷ second ∷ []) ≡ []) (sym e) (unbroken_by (262394 ∷ condition ∷ first ∷ second ∷ []) (Opcode ∷ UsedId ∷ UsedId ∷ UsedId ∷ []) refl refl (rw (within condition condition0 condition1) (rw (within first first0 first1) (rw (within second second0 second1) refl))) refl)

pub selection_unbroken : (h merge control : ℕ) → h ≡ 196855 → 0 < merge → merge < 4294967296 → is_control control ≡ true → instruction_rules 4294967296 (h ∷ merge ∷ control ∷ []) ≡ []
unfolding roles_of row_of
selection_unbroken h merge control e merge0 merge1 control0 =
    subst (λ z. instruction_rules 4294967296 (z ∷ merge ∷ control ∷ []) ≡ []) (sym e) (unbroken_by (196855 ∷ merge ∷ control ∷ []) (Opcode ∷ UsedId ∷ Literal ∷ []) (rw control0 refl) refl (rw (within merge merge0 merge1) refl) refl)

pub loop_unbroken : (h merge next control : ℕ) → h ≡ 262390 → 0 < merge → merge < 4294967296 → 0 < next → next < 4294967296 → is_control control ≡ true → instruction_rules 4294967296 (h ∷ merge ∷ next ∷ control ∷ []) ≡ []
unfolding roles_of row_of
loop_unbroken h merge next control e merge0 merge1 next0 next1 control0 =
    subst (λ z. instruction_rules 4294967296 (z ∷ merge ∷ next ∷ control ∷ []) ≡ []) (sym e) (unbroken_by (262390 ∷ merge ∷ next ∷ control ∷ []) (Opcode ∷ UsedId ∷ UsedId ∷ Literal ∷ []) (rw control0 refl) refl (rw (within merge merge0 merge1) (rw (within next next0 next1) refl)) refl)

pub return_unbroken : (h : ℕ) → h ≡ 65789 → instruction_rules 4294967296 (h ∷ []) ≡ []
unfolding roles_of row_of
return_unbroken h e =
    subst (λ z. instruction_rules 4294967296 (z ∷ []) ≡ []) (sym e) (unbroken_by (65789 ∷ []) (Opcode ∷ []) refl refl refl refl)

pub return_value_unbroken : (h value : ℕ) → h ≡ 131326 → 0 < value → value < 4294967296 → instruction_rules 4294967296 (h ∷ value ∷ []) ≡ []
unfolding roles_of row_of
return_value_unbroken h value e value0 value1 =
    subst (λ z. instruction_rules 4294967296 (z ∷ value ∷ []) ≡ []) (sym e) (unbroken_by (131326 ∷ value ∷ []) (Opcode ∷ UsedId ∷ []) refl refl (rw (within value value0 value1) refl) refl)

pub unreachable_unbroken : (h : ℕ) → h ≡ 65791 → instruction_rules 4294967296 (h ∷ []) ≡ []
unfolding roles_of row_of
unreachable_unbroken h e =
    subst (λ z. instruction_rules 4294967296 (z ∷ []) ≡ []) (sym e) (unbroken_by (65791 ∷ []) (Opcode ∷ []) refl refl refl refl)

pub function_end_unbroken : (h : ℕ) → h ≡ 65592 → instruction_rules 4294967296 (h ∷ []) ≡ []
unfolding roles_of row_of
function_end_unbroken h e =
    subst (λ z. instruction_rules 4294967296 (z ∷ []) ≡ []) (sym e) (unbroken_by (65592 ∷ []) (Opcode ∷ []) refl refl refl refl)
