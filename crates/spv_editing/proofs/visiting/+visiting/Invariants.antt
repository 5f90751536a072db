use Rattle.std.proofs.Common.{take}
use Rattle.spv_tree.specs.Tree.{items_then}
use Rattle.spv_tree.specs.Lines.{nothing}
use Rattle.spv_editing.specs.Showing.{IsShown, shown}
use Rattle.spv_editing.specs.Code.{shown_of_list}
use Rattle.spv_editing.proofs.visiting.+visiting.Given as goal

abbrev pub invariant-show_items-items : goal.invariant-show_items-items
invariant-show_items-items g l = IsShown g.V.Visitor.has_seen (shown (items_then (take l.item-index l.items) nothing)) l.fn.visitor l.visitor

abbrev pub invariant-show_arms-arms : goal.invariant-show_arms-arms
invariant-show_arms-arms g l = IsShown g.V.Visitor.has_seen (shown_of_list (take l.arm-index l.arms)) l.fn.visitor l.visitor
