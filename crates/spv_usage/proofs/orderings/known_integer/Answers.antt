use Rattle.std.proofs.Common.{true, false, sym, ◌∙◌}
use Rattle.spv_usage.proofs.Integers.{integer-of, integer-none, integer-defined, ints-told}
use Rattle.spv_usage.proofs.orderings.known_integer.Goals as goal

pub returns-then-not-is_ints : goal.returns-then-not-is_ints
returns-then-not-is_ints c =
    integer-none c.args.tables.now c.args.id
    (ints-told c.args.tables.now c.kinds.result.now c.args.id c.is_ints.result false c.kinds.ensures c.is_ints.ensures c.if-not-is_ints.true)

pub returns-in-Some : goal.returns-in-Some
returns-in-Some c =
    integer-of c.args.tables.now c.args.id c.in-Some.known c.word.result
    (ints-told c.args.tables.now c.kinds.result.now c.args.id c.is_ints.result true c.kinds.ensures c.is_ints.ensures c.if-not-is_ints.false)
    (sym c.in-Some.is ∙ c.defined.ensures) c.word.ensures

pub returns-in-None : goal.returns-in-None
returns-in-None c =
    absurd
    (integer-defined c.args.tables.now c.args.id
    (ints-told c.args.tables.now c.kinds.result.now c.args.id c.is_ints.result true c.kinds.ensures c.is_ints.ensures c.if-not-is_ints.false)
    (sym c.in-None.is ∙ c.defined.ensures))
