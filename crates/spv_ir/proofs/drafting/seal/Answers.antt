use Rattle.std.proofs.Common.{◌<◌, length, sym, ap, subst, ◌∙◌, arith}
use Rattle.spv_module.specs.Code.{Code, code_of, spelling}
use Rattle.spv_profile.specs.Profile.{IsModule}
use Rattle.spv_ir.proofs.Drafts.{small_bound}
use Rattle.spv_ir.proofs.drafting.seal.Goals as goal

pub finish-requires : goal.finish-requires
finish-requires c = small_bound c.args.draft c.requires

pub placed-requires : goal.placed-requires
placed-requires c =
    subst (λ (code : Code). length (spelling code) < 4294967296) (sym c.finish.ensures.same) (omega (arith, c.finish.ensures.small))

pub new-requires-clause-holds : goal.new-requires-clause-holds
new-requires-clause-holds c =
    subst IsModule (sym (c.placed.ensures.same ∙ ap (λ (code : Code). code_of (spelling code)) c.finish.ensures.same)) c.requires
