use Rattle.std.proofs.lemmas.Result.{on_ok_weaker}
use Rattle.spv_tree.specs.declared.body.Item.{Split as ASplit}
use Rattle.spv_tree.specs.Tree.{item_then}
use Rattle.spv_tree.specs.Lines.{nothing}
use Rattle.std.proofs.Common.{◌∷◌}
use Rattle.spv_editing.specs.Showing.{shown, uses}
use Rattle.spv_editing.proofs.Visits.{shown-same, split-alone}
use Rattle.spv_editing.proofs.visiting.show_split.Goals as goal

pub returns : goal.returns
returns g c =
    let s = c.args.split.now in
    on_ok_weaker c.show_leaving.result
    (shown-same g.V.Visitor.has_seen c.args.visitor.now c.show_leaving.new.visitor (uses (s.condition ∷ s.exit.values)) (shown (item_then (ASplit s) nothing)) (split-alone s))
    c.show_leaving.ensures
