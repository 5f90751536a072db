use Rattle.std.proofs.Common.{◌≡◌, sym, ◌∙◌, ◌+◌, ◌<◌, ℕ, true, false, List, length, get_or, Option, Some, ap, subst, arith}
use Rattle.spv_walk.specs.Tables.{is_back_by}
use Rattle.spv_entering.specs.Flow.{before}
use Rattle.spv_entering.specs.Filling.{top_of, is_second, IsPassed}
use Rattle.spv_entering.proofs.Passing.{pass-back, pass-left, two-left}
use Rattle.spv_entering.proofs.filling.Filling.advance.Goals as goal
use Rattle.spv_entering.proofs.filling.Filling.advance.Goals.{then-not-is_back, else-not-is_back}

pub returns-then-is_second-clause-two : goal.returns-then-is_second-clause-two
returns-then-is_second-clause-two c = λ less.
    let flow = c.args.flow.now in
    let top = top_of c.args.self.now in
    two-left flow top c.args.t c.each.count c.each.left c.each.invariant less
    (subst (λ (xs : List ℕ). is_second flow.code top c.args.t c.each.left (get_or xs c.each.count 0) ≡ true) c.before-blocks.ensures.now (sym c.is_second.ensures ∙ c.if-is_second.true))

pub each-preserved : goal.each-preserved
each-preserved c =
    let flow = c.args.flow.now in
    let top = top_of c.args.self.now in
    let less : c.each.count < length (before flow c.args.t) = subst (λ (xs : List ℕ). c.each.count < length xs) c.before-blocks.ensures.now c.each-test.true in
    let single = subst (λ (xs : List ℕ). is_second flow.code top c.args.t c.each.left (get_or xs c.each.count 0) ≡ false) c.before-blocks.ensures.now (sym c.is_second.ensures ∙ c.if-is_second.false) in
    elim c.if-not-is_back.branch [
      | then-not-is_back w ↦
          subst (λ (o : Option ℕ). IsPassed flow top c.args.t (record { count = c.each.count + 1; left = o }))
          (ap (λ (xs : List ℕ). Some (get_or xs c.each.count 0)) (sym c.before-blocks.ensures.now) ∙ sym w.left-is)
          (pass-left flow top c.args.t c.each.count c.each.left c.each.invariant less single
          (subst (λ (xs : List ℕ). is_back_by flow.code top c.args.t (get_or xs c.each.count 0) ≡ false) c.before-blocks.ensures.now (sym c.is_back.ensures ∙ w.if-not-is_back.true)))
      | else-not-is_back w ↦
          subst (λ (o : Option ℕ). IsPassed flow top c.args.t (record { count = c.each.count + 1; left = o })) (sym w.left-is)
          (pass-back flow top c.args.t c.each.count c.each.left c.each.invariant less
          (subst (λ (xs : List ℕ). is_back_by flow.code top c.args.t (get_or xs c.each.count 0) ≡ true) c.before-blocks.ensures.now (sym c.is_back.ensures ∙ w.if-not-is_back.false)))
    ]
