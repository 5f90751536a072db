-- What the labels and the walk of a scene tell of a block that the walk comes to.
use Rattle.std.proofs.Common.{◌≡◌, ℕ, Bool, Option, Some, None, ap, subst, ◌∙◌}
use Rattle.std.specs.Option.{option_map}
use Rattle.spv_blocks.specs.Blocks.{block, construct}
use Rattle.spv_normal.specs.Order.{is_loop}
use Rattle.spv_parse.specs.declared.scene.Scene.{Scene}
use Rattle.spv_parse.specs.declared.state.State.{State}
use Rattle.spv_parse.specs.Scene.{code_of, IsScene, Stands}
use Rattle.spv_parse.specs.Ways.{IsPart, opens_loop}
use Rattle.spv_parse.proofs.Standing.{stands_block}

pub no_map : {A B : Type 0} (f : A → B) (o : Option A) (b : Option B) (x : B) → option_map f o ≡ b → b ≡ Some x → o ≡ None → ⊥
no_map f o b x e g none = absurd (cc (e, g, ap (option_map f) none))

-- the table of labels has its block
pub in_labels : (s : Scene) (l left : ℕ) (h : Stands s l left) → block s.labels.now l ≡ Some ((stands_block s l left h).0)
in_labels s l left h = ap (λ f. block f l) h.scene.same ∙ (stands_block s l left h).1

pub loop_by_labels : (s : Scene) (t : ℕ) (b : Bool) → IsScene s → b ≡ is_loop (construct s.labels.now t) → b ≡ opens_loop s t
loop_by_labels s t b scene e = e ∙ ap (λ f. is_loop (construct f t)) scene.same

pub part_by_labels : (s : Scene) (m : ℕ) (st : State) → IsScene s → IsPart s.labels.now m st → IsPart (code_of s) m st
part_by_labels s m st scene p = subst (λ f. IsPart f m st) scene.same p
