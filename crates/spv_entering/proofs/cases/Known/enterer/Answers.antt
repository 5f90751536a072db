use Rattle.std.proofs.Common.{◌≡◌, ◌<◌, ◌≤◌, ◌∙◌, ℕ, true, List, length, get_or, sym, ap, subst}
use Rattle.spv_blocks.specs.Tables.{found}
use Rattle.spv_blocks.specs.Blocks.{Code, branches}
use Rattle.spv_blocks.specs.Places.{is_free}
use Rattle.spv_entering.specs.Flow.{before}
use Rattle.spv_entering.specs.Cases.{Leaves, FindsOnly}
use Rattle.spv_entering.proofs.Fillings.{free-label}
use Rattle.spv_entering.proofs.Falling.{left-first, left-more, left-header, left-enters}
use Rattle.spv_entering.proofs.cases.Known.enterer.Goals as goal

pub switches-init : goal.switches-init
switches-init c =
    let flow = c.args.self.now.flow in
    let free : is_free flow.code c.args.t ≡ true = ap (λ (k : Code). is_free k c.args.t) (sym c.labels.ensures) ∙ sym c.is_free.ensures ∙ c.if-not-is_free.false in
    left-first flow c.args.t (λ q. c.before-s-items.ensures.branches q (free-label flow.code c.args.t free)) (λ b. found c.args.self.now.tops.now b) c.in_ok-left.left.items c.requires.tops c.in_ok-left.ensures

pub take_falls-requires-clause-header : goal.take_falls-requires-clause-header
take_falls-requires-clause-header c =
    let flow = c.args.self.now.flow in
    let free : is_free flow.code c.args.t ≡ true = ap (λ (k : Code). is_free k c.args.t) (sym c.labels.ensures) ∙ sym c.is_free.ensures ∙ c.if-not-is_free.false in
    let less : c.switches.s-index < length (before flow c.args.t) = subst (λ (xs : List ℕ). c.switches.s-index < length xs) c.before-s-items.ensures.now c.switches-test.true in
    subst (λ (xs : List ℕ). branches flow.code (get_or xs c.switches.s-index 0) c.args.t ≡ true) (sym c.before-s-items.ensures.now)
    (left-header flow c.args.t (λ q. c.before-s-items.ensures.branches q (free-label flow.code c.args.t free)) c.switches.s-index less)

pub switches-preserved : goal.switches-preserved
switches-preserved c =
    let flow = c.args.self.now.flow in
    let free : is_free flow.code c.args.t ≡ true = ap (λ (k : Code). is_free k c.args.t) (sym c.labels.ensures) ∙ sym c.is_free.ensures ∙ c.if-not-is_free.false in
    let less : c.switches.s-index < length (before flow c.args.t) = subst (λ (xs : List ℕ). c.switches.s-index < length xs) c.before-s-items.ensures.now c.switches-test.true in
    left-more flow c.args.t (λ q. c.before-s-items.ensures.branches q (free-label flow.code c.args.t free)) c.switches.s-index c.switches.left.items c.take_falls.new.left.items less c.switches.invariant
    (subst (λ (xs : List ℕ). Leaves flow.code (get_or xs c.switches.s-index 0) c.args.t c.switches.left.items c.take_falls.new.left.items) c.before-s-items.ensures.now c.in_ok-take_falls.ensures)

pub returns : goal.returns
returns c =
    let flow = c.args.self.now.flow in
    let free : is_free flow.code c.args.t ≡ true = ap (λ (k : Code). is_free k c.args.t) (sym c.labels.ensures) ∙ sym c.is_free.ensures ∙ c.if-not-is_free.false in
    let all : length (before flow c.args.t) ≤ c.switches.s-index = subst (λ (xs : List ℕ). length xs ≤ c.switches.s-index) c.before-s-items.ensures.now c.switches-test.false in
    left-enters flow c.args.t (λ q. c.before-s-items.ensures.branches q (free-label flow.code c.args.t free)) free c.switches.s-index all c.switches.left.items c.switches.invariant c.only_of.result
    (subst (λ (xs : List ℕ). FindsOnly xs c.only_of.result) c.deref.ensures.value c.only_of.ensures)
