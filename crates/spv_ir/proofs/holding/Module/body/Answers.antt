use Rattle.std.proofs.Common.{◌<◌, count_by, sym, subst}
use Rattle.spv_module.specs.Code.{Code, is_function}
use Rattle.spv_ir.proofs.Modules.{body_wants_memory}
use Rattle.spv_ir.proofs.holding.Module.body.Goals as goal

pub wanting-requires : goal.wanting-requires
wanting-requires c =
    let within = subst (λ (code : Code). c.args.f < count_by is_function code.insts) (sym c.flat.ensures.same) c.requires.within in
    body_wants_memory c.flat.result.now c.flat.ensures.holds c.args.f within c.in-Err.fault c.in-Err.ensures
