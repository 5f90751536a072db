use Rattle.std.proofs.Common.{sym, ap, ◌∙◌}
use Rattle.std.specs.Option.{option_copied}
use Rattle.spv_tree.specs.Tree.{end_body}
use Rattle.spv_tree.proofs.Sequences.{first-begins}
use Rattle.spv_tree.proofs.flattening.target_of_rest.Goals as goal

pub target_of_item-requires : goal.target_of_item-requires
target_of_item-requires c = first-begins c.args.items.now c.in-Some.item.now (end_body c.args.end.now) (sym c.first.ensures.value ∙ ap option_copied c.in-Some.is) c.requires
