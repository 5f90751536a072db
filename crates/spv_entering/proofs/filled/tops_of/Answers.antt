use Rattle.std.proofs.Common.{◌≡◌, ℕ, sym, ap, subst, ◌∙◌}
use Rattle.spv_blocks.specs.Tables.{found}
use Rattle.spv_blocks.specs.declared.table.Table.{Table}
use Rattle.std.specs.Option.{unwrap_or}
use Rattle.spv_entering.specs.Filling.{passed_none}
use Rattle.spv_entering.specs.Tops.{AreTops}
use Rattle.spv_entering.specs.declared.filling.Passed.{Passed}
use Rattle.spv_entering.proofs.Turning.{table-begins, table-turns, table-ends}
use Rattle.spv_entering.proofs.filled.tops_of.Goals as goal

pub turns-init : goal.turns-init
turns-init c = table-begins c.args.flow.now c.in_ok-filling.filling c.in_ok-filling.ensures

pub turns-preserved : goal.turns-preserved
turns-preserved c =
    table-turns c.args.flow.now c.turns.filling c.next.new.self c.turn.new.self c.in-Some.b c.turns.invariant c.in-Some.ensures.tops c.in-Some.ensures.waiting c.in_ok-turn.ensures

pub returns : goal.returns
returns c =
    subst (λ (m : Table ℕ). AreTops c.args.flow.now.code (λ b. found m b)) (sym (c.into_tops.ensures ∙ c.next.ensures.tops))
    (table-ends c.args.flow.now c.turns.filling c.turns.invariant c.in_default.ensures.waiting)
