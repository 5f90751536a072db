use Rattle.std.proofs.Common.{◌≡◌, ◌++◌, [], take, drop}
use Rattle.spv_bodies.specs.Listing.{lines}
use Rattle.spv_tree.specs.Tree.{end_body, items_then, words_of}
use Rattle.spv_tree.specs.Lines.{list_lines}
use Rattle.spv_tree.proofs.Sequences.{Keeps}
use Rattle.spv_tree.proofs.flattening.+list.Given as goal

abbrev pub invariant-push_items-items : goal.invariant-push_items-items
invariant-push_items-items l =
    Keeps l.arrivals l.begun (words_of l.fn.insts ++ lines l.arrivals [] (items_then l.items (end_body l.end))) (words_of l.insts) (items_then (drop l.k l.items) (end_body l.end))

abbrev pub invariant-push_arms-arms : goal.invariant-push_arms-arms
invariant-push_arms-arms l = words_of l.insts ≡ words_of l.fn.insts ++ list_lines l.arrivals (take l.arm-index l.arms)
