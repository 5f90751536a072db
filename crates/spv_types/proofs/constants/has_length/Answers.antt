use Rattle.std.proofs.Common.{◌∙◌}
use Rattle.spv_types.proofs.KnownLengths.{length_known}
use Rattle.spv_types.proofs.ConstantRules.{has_length-known, has_length-other}
use Rattle.spv_types.proofs.constants.has_length.Goals as goal

pub returns-then-n-ge1 : goal.returns-then-n-ge1
returns-then-n-ge1 c = λ d h is.
    has_length-known d c.args.id c.args.n c.length_of.result c.is_known.result c.if-is_known.true
    (c.is_known.ensures ∙ length_known c.args.kinds.now d.table d.specialised c.args.meanings.now.entries c.args.id h is) c.if-n-ge1.true (c.length_of.ensures d.table d.specialised h is)

pub returns-else-is_known : goal.returns-else-is_known
returns-else-is_known c = λ d h is.
    has_length-other d c.args.id c.args.n c.is_known.result c.if-is_known.false
    (c.is_known.ensures ∙ length_known c.args.kinds.now d.table d.specialised c.args.meanings.now.entries c.args.id h is)
