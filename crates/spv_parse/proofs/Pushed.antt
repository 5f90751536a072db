-- Instructions that are added to items.
use Rattle.std.proofs.Common.{◌≡◌, List, [], ◌∷◌, ◌++◌, refl, sym, ap, ◌∙◌}
use Rattle.spv_module.specs.declared.inst.Inst.{Inst}
use Rattle.spv_bodies.specs.Bodies.{Body, Step}
use Rattle.spv_tree.specs.declared.body.Item.{Item}
use Rattle.spv_tree.specs.declared.body.Item as item
use Rattle.spv_tree.specs.Tree.{items_then, steps_then}
use Rattle.spv_tree.proofs.Equations.{then_op, then_push}

steps_push : (steps : List Inst) (inst : Inst) (rest : Body) → steps_then (steps ++ inst ∷ []) rest ≡ steps_then steps (Step inst.words rest)
steps_push [] inst rest = refl
steps_push (i ∷ steps) inst rest = ap (Step i.words) (steps_push steps inst rest)

pub steps_more : (old mid new : List Item) (steps : List Inst) (inst : Inst) → ((rest : Body) → items_then mid rest ≡ items_then old (steps_then steps rest))
    → new ≡ mid ++ item.Op inst ∷ [] → (rest : Body) → items_then new rest ≡ items_then old (steps_then (steps ++ inst ∷ []) rest)
steps_more old mid new steps inst before pushed rest =
    ap (λ z. items_then z rest) pushed ∙ then_push mid (item.Op inst) rest ∙ ap (items_then mid) (then_op inst rest) ∙ before (Step inst.words rest)
    ∙ ap (items_then old) (sym (steps_push steps inst rest))
