-- Instructions that tests make are ones of the profile.
use Rattle.std.proofs.Common.{◌≡◌, ℕ, true, [], ◌∷◌, refl, sym, ap, ◌∙◌, subst}
use Rattle.std.proofs.lemmas.List.Elements.{All-cons, All-nil}
use Rattle.spv_bodies.specs.Bodies.{Enters, Function, Selects}
use Rattle.spv_bodies.specs.Facts.{chosen, of_body, returns}
use Rattle.spv_tree.specs.declared.body.Arm as arm
use Rattle.spv_tree.specs.declared.body.Block.{Block}
use Rattle.spv_tree.specs.declared.body.Choice.{Choice}
use Rattle.spv_tree.specs.declared.body.Item as item
use Rattle.spv_tree.specs.declared.body.Sequence.{out-Sequence}
use Rattle.spv_tree.specs.Tree.{arm_body, end_body, front_of, item_then, items_then}
use Rattle.spv_tree.specs.Sound.{IsSound, is_step, opcode_in}
use Rattle.spv_tree.proofs.Equations.{arm_block, then_choice}
use Rattle.spv_tree.proofs.Samples.{samples-sound}
use Rattle.spv_editing.specs.Editing.{Edit, KeepsSteps, edited_function}
use Rattle.spv_editing.specs.Facts.{leaving, replacing}
use Rattle.spv_editing.proofs.Soundness.{sound-kept}
use Rattle.spv_grammar.specs.Operands.{roles_of}
use Rattle.spv_grammar.specs.Table.{row_of}
use Rattle.spv_module.specs.Instruction.{instruction_rules}

pub undefined_unbroken : instruction_rules 4294967296 (196609 ∷ 9 ∷ 20 ∷ []) ≡ []
unfolding instruction_rules roles_of row_of
undefined_unbroken = refl

pub copied_unbroken : instruction_rules 4294967296 (262227 ∷ 9 ∷ 21 ∷ 20 ∷ []) ≡ []
unfolding instruction_rules roles_of row_of
copied_unbroken = refl

pub function_unbroken : instruction_rules 4294967296 (327734 ∷ 2 ∷ 1 ∷ 0 ∷ 3 ∷ []) ≡ []
unfolding instruction_rules roles_of row_of
function_unbroken = refl

-- ---- a selection that is made in code

pub arm-made : (b : Block) (label value : ℕ) → b.label ≡ label → (out-Sequence b.body).items ≡ [] → end_body (out-Sequence b.body).end ≡ leaving value
    → arm_body (arm.Block b) ≡ Enters label (leaving value)
arm-made b label value same items ends = arm_block b ∙ (λ i. Enters (same i) (items_then (items i) (end_body (out-Sequence b.body).end))) ∙ ap (Enters label) ends

pub selection-made : (c : Choice) → c.control ≡ 0 → c.condition ≡ 5 → arm_body c.first ≡ Enters 6 (leaving 10) → arm_body c.second ≡ Enters 12 (leaving 11)
    → front_of c.merge ≡ record { label = 7; parameters = record { type = 9; result_id = 8; parents = 12 ∷ [] } ∷ [] } → item_then (item.Choice c) returns ≡ chosen
selection-made c control condition first second merge =
    then_choice c returns ∙ (λ i. Selects (control i) (condition i) (first i) (second i) (merge i) returns)

-- with another id the function is sound
keeps : (old new : ℕ) → KeepsSteps (replacing old new)
keeps old new words h = All-cons (λ line. is_step (opcode_in line) ≡ true) words [] h (All-nil (λ line. is_step (opcode_in line) ≡ true))

pub replaced-sound : (e : Edit) (made f : Function) → e ≡ replacing 10 50 → made ≡ edited_function e f → f ≡ of_body chosen → IsSound made
replaced-sound e made f is same sample =
    subst IsSound (sym (same ∙ (λ i. edited_function (is i) (sample i)))) (sound-kept (replacing 10 50) (of_body chosen) (keeps 10 50) samples-sound.0)
