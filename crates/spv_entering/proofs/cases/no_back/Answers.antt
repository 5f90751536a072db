use Rattle.std.proofs.Common.{ℕ, Bool, not, ◌∙◌, get_or, sym, ap}
use Rattle.spv_blocks.specs.Tables.{found}
use Rattle.std.specs.Global.{Vec}
use Rattle.spv_walk.specs.Tables.{is_back_by}
use Rattle.spv_entering.proofs.StepEdges.{kept-more, kept-past}
use Rattle.spv_entering.proofs.cases.no_back.Goals as goal
use Rattle.spv_entering.proofs.cases.no_back.Goals.{then-not-is_back+in_ok-push, else-not-is_back}

pub each-preserved : goal.each-preserved
each-preserved c =
    let test = λ (p : ℕ). not (is_back_by c.args.flow.now.code (found c.args.tops.now) c.args.t p) in
    elim c.if-not-is_back.branch [
      | then-not-is_back+in_ok-push w ↦
          ap (λ (v : Vec ℕ). v.items) w.left-is
          ∙ kept-more test c.args.blocks.now c.each.p-index c.each.left.items w.push.new.self.items c.each-test.true (ap not (sym c.is_back.ensures ∙ w.if-not-is_back.true)) c.each.invariant w.in_ok-push.ensures.items
      | else-not-is_back w ↦
          ap (λ (v : Vec ℕ). v.items) w.left-is
          ∙ kept-past test c.args.blocks.now c.each.p-index c.each.left.items c.each-test.true (ap not (sym c.is_back.ensures ∙ w.if-not-is_back.false)) c.each.invariant
    ]
