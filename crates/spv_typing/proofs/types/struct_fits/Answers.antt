use Rattle.std.proofs.Common.{true, false, refl, sym, ◌∙◌}
use Rattle.spv_typing.specs.Types.{last_fits}
use Rattle.spv_typing.proofs.Parts.{struct_fits-split}
use Rattle.spv_typing.proofs.types.struct_fits.Goals as goal

pub returns-then-all_closed : goal.returns-then-all_closed
returns-then-all_closed c =
    struct_fits-split c.args.kinds.now c.args.members.now c.in-Some.others.now c.in-Some.last.now true c.last_fits.result c.in-Some.ensures.cases.0 (sym c.if-all_closed.true ∙ c.all_closed.ensures)
    c.last_fits.ensures

pub returns-else-all_closed : goal.returns-else-all_closed
returns-else-all_closed c =
    c.if-all_closed.false
    ∙ struct_fits-split c.args.kinds.now c.args.members.now c.in-Some.others.now c.in-Some.last.now false (last_fits c.args.kinds.now c.in-Some.last.now) c.in-Some.ensures.cases.0
    (sym c.if-all_closed.false ∙ c.all_closed.ensures) refl
