use Rattle.std.proofs.Common.{sym, ◌∙◌, subst, true, false}
use Rattle.std.proofs.Common.{◌≤◌, ℕ, List, length, arith}
use Rattle.spv_entering.specs.Filling.{top_of}
use Rattle.spv_entering.proofs.Passing.{passed-lone, passed-back, passed-nothing}
use Rattle.spv_entering.proofs.filling.Filling.lone_of.Goals as goal

pub returns-in-Some : goal.returns-in-Some
returns-in-Some c =
    passed-lone c.args.flow.now (top_of c.args.self.now) c.args.t (λ q. c.before-2.ensures.branches q c.requires.label) c.args.passed c.in-Some.p c.requires.passed (subst (λ (xs : List ℕ). length xs ≤ c.args.passed.count) c.before-2.ensures.now (omega arith)) c.in-Some.is (sym c.is_back.ensures ∙ c.if-not-is_back.true)

pub returns-in_default : goal.returns-in_default
returns-in_default c =
    passed-back c.args.flow.now (top_of c.args.self.now) c.args.t (λ q. c.before-2.ensures.branches q c.requires.label) c.args.passed c.in-Some.p c.requires.passed (subst (λ (xs : List ℕ). length xs ≤ c.args.passed.count) c.before-2.ensures.now (omega arith)) c.in-Some.is (sym c.is_back.ensures ∙ c.if-not-is_back.false)

pub returns-in_default-2 : goal.returns-in_default-2
returns-in_default-2 c =
    passed-nothing c.args.flow.now (top_of c.args.self.now) c.args.t (λ q. c.before-2.ensures.branches q c.requires.label) c.args.passed c.requires.passed (subst (λ (xs : List ℕ). length xs ≤ c.args.passed.count) c.before-2.ensures.now (omega arith)) c.in_default.is
