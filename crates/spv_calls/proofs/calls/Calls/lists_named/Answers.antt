use Rattle.std.proofs.Common.{◌≡◌, ℕ, List, length, sym, ap, subst, ◌∙◌}
use Rattle.std.specs.BTreeSet.{contains}
use Rattle.std.specs.List.{list_all}
use Rattle.std.specs.Ordering.{nat_cmp}
use Rattle.spv_module.specs.Instruction.{Instruction}
use Rattle.spv_calls.specs.Calls.{calls}
use Rattle.spv_calls.specs.Kept.{IsFresh, row_passes}
use Rattle.spv_calls.proofs.Interfaces.{length-calls}
use Rattle.spv_calls.proofs.Searching.{lists_reached}
use Rattle.spv_calls.proofs.calls.Calls.lists_named.Goals as goal

pub run-requires : goal.run-requires
run-requires c =
    let rows : c.self.inside.calls ≡ calls c.args.self.now = c.self.invariant.rows_are ∙ ap calls c.self.view_is in
    subst (λ (n : ℕ). IsFresh n c.args.search.now) (sym (ap (λ (g : List (List ℕ)). length g) rows ∙ length-calls c.args.self.now)) c.requires

pub returns-clause-fresh : goal.returns-clause-fresh
returns-clause-fresh c =
    let rows : c.self.inside.calls ≡ calls c.args.self.now = c.self.invariant.rows_are ∙ ap calls c.self.view_is in
    subst (λ (n : ℕ). IsFresh n c.clear.new.self) (c.in_ok-run.ensures.met.one_each ∙ ap (λ (g : List (List ℕ)). length g) rows ∙ length-calls c.args.self.now) c.clear.ensures

pub returns-clause-lists : goal.returns-clause-lists
returns-clause-lists c =
    let insts = c.args.self.now in
    let listed = contains nat_cmp c.args.listed.now in
    let rows : c.self.inside.calls ≡ calls insts = c.self.invariant.rows_are ∙ ap calls c.self.view_is in
    lists_reached insts c.self.inside.calls c.run.new.self.met.items c.run.new.self.reached.items c.args.first listed c.lists_rows-lists.result rows c.in_ok-run.ensures.met c.in_ok-run.ensures.known
    (c.lists_rows-lists.ensures ∙ ap (list_all (row_passes insts listed)) c.reached.ensures)
