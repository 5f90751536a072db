use Rattle.std.proofs.Common.{sym, ◌∙◌}
use Rattle.spv_module.specs.View.{seen}
use Rattle.spv_declarations.specs.Declarations.{declared_before}
use Rattle.spv_types.proofs.OneMore.{line-read, asked, early-read, begun-read, next-is, declared-read}
use Rattle.spv_types.proofs.building.read.Goals as goal

pub returns-then-is_line : goal.returns-then-is_line
returns-then-is_line c = λ k reading.
    line-read c.args.kinds.now k (seen c.args.inst.now) c.args.standing c.args.meanings.now.entries reading (sym c.is_line.ensures ∙ c.if-is_line.true)

pub returns-in-Some : goal.returns-in-Some
returns-in-Some c = λ k reading.
    let plain = sym c.is_line.ensures ∙ c.if-is_line.false in
    early-read c.args.kinds.now k (seen c.args.inst.now) c.args.standing c.args.meanings.now.entries c.in-Some.rule c.refused.result reading plain
    (sym c.in-Some.is ∙ c.early_rule.ensures (declared_before c.args.kinds.now k) reading.begun_is (asked c.args.kinds.now k (seen c.args.inst.now) c.args.standing c.args.meanings.now.entries reading plain))
    c.refused.ensures

pub returns-then-standing : goal.returns-then-standing
returns-then-standing c = λ k reading.
    let plain = sym c.is_line.ensures ∙ c.if-is_line.false in
    begun-read c.args.kinds.now k (seen c.args.inst.now) c.args.standing c.args.meanings.now.entries reading plain
    (sym c.in_default.is ∙ c.early_rule.ensures (declared_before c.args.kinds.now k) reading.begun_is (asked c.args.kinds.now k (seen c.args.inst.now) c.args.standing c.args.meanings.now.entries reading plain))
    c.if-standing.true

pub returns : goal.returns
returns c = λ k reading.
    let plain = sym c.is_line.ensures ∙ c.if-is_line.false in
    let early = sym c.in_default.is ∙ c.early_rule.ensures (declared_before c.args.kinds.now k) reading.begun_is (asked c.args.kinds.now k (seen c.args.inst.now) c.args.standing c.args.meanings.now.entries reading plain) in
    declared-read c.args.kinds.now k (seen c.args.inst.now) c.args.standing c.args.meanings.now.entries c.keep.new.meanings.entries c.keep.result reading plain early c.if-standing.false
    (c.keep.ensures k (next-is c.args.kinds.now k (seen c.args.inst.now) c.args.standing c.args.meanings.now.entries reading early c.if-standing.false) reading.kept)
