use Rattle.std.proofs.Common.{ℕ, Bool, true, List, length, not, ◌∙◌, sym, ap, subst, arith}
use Rattle.graph.specs.Reaching.{IsReached, AreMarks}
use Rattle.graph.specs.Rows.{is_marked}
use Rattle.spv_module.specs.Instruction.{Instruction}
use Rattle.spv_calls.specs.Broken.{Decides}
use Rattle.spv_calls.specs.Calls.{CallsItself}
use Rattle.spv_calls.proofs.Interfaces.{length-calls}
use Rattle.spv_calls.proofs.Settled.{straight-settled, straight-reached}
use Rattle.spv_calls.proofs.calls.Calls.is_straight.Goals as goal

pub returns-then-is_marked : goal.returns-then-is_marked
returns-then-is_marked c =
    subst (λ (insts : List Instruction). Decides true (¬ CallsItself insts c.args.k)) c.self.view_is
    (straight-settled c.self.inside.globals c.self.inside.calls c.self.inside.settled.items c.args.k c.self.invariant.rows_are c.self.invariant.settled_are
    (ap (λ (marks : List Bool). is_marked marks c.args.k) (sym c.deref.ensures.value) ∙ sym c.is_marked.ensures ∙ c.if-is_marked.true))

pub returns : goal.returns
returns c =
    let insts = c.self.inside.globals in
    let rows = c.self.inside.calls in
    let k = c.args.k in
    subst (λ (is : List Instruction). Decides (not c.is_marked-2.result) (¬ CallsItself is k)) c.self.view_is
    (straight-reached insts rows c.in_ok-reached.reached.items k c.is_marked-2.result c.self.invariant.rows_are
    (let same = ap (λ (g : List (List ℕ)). length g) c.self.invariant.rows_are ∙ length-calls insts in let whole = ap (λ (is : List Instruction). length is) c.self.view_is in let below = c.requires in omega arith)
    (subst (λ (starts : List ℕ). AreMarks (length rows) (IsReached rows starts) c.in_ok-reached.reached.items) c.row.ensures c.in_ok-reached.ensures)
    (c.is_marked-2.ensures ∙ ap (λ (marks : List Bool). is_marked marks k) c.deref-2.ensures.value))
