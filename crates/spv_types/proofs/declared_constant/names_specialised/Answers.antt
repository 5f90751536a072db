use Rattle.std.proofs.Common.{◌∙◌, ap, sym}
use Rattle.spv_module.specs.Instruction.{parts}
use Rattle.spv_module.specs.View.{seen}
use Rattle.spv_types.proofs.DeclarationLemmas.{names_flagged}
use Rattle.spv_types.proofs.declared_constant.names_specialised.Goals as goal

pub returns : goal.returns
returns c = λ d stand only.
    c.have_specialised.ensures
    ∙ names_flagged d c.args.meanings.now.entries (seen c.args.inst.now) c.roles.result.now (ap parts c.args.inst.now.whole.parted ∙ sym c.roles.ensures) stand only
