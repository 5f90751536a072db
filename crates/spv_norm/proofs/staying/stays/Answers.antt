use Rattle.std.proofs.Common.{◌∙◌, ap, sym}
use Rattle.spv_module.specs.Instruction.{parts}
use Rattle.spv_module.specs.View.{seen}
use Rattle.spv_norm.proofs.Naming.{naming_stays, other_stays}
use Rattle.spv_norm.proofs.staying.stays.Goals as goal
use Rattle.spv_norm.proofs.staying.stays.Goals.{then-is_naming, else-is_naming}

pub returns-after-is_naming : goal.returns-after-is_naming
returns-after-is_naming c =
    let line = sym c.is_line.ensures ∙ c.if-not-is_line.true in
    elim c.if-is_naming.branch [
      | then-is_naming w ↦
          naming_stays c.args.definitions.now (seen c.args.inst.now) c.if-is_naming.result w.have_gone.result w.roles.result.now line (sym c.is_naming.ensures ∙ w.if-is_naming.true)
          w.result-is w.have_gone.ensures (ap parts c.args.inst.now.whole.parted ∙ sym w.roles.ensures)
      | else-is_naming w ↦
          other_stays c.args.definitions.now (seen c.args.inst.now) c.if-is_naming.result line (sym c.is_naming.ensures ∙ w.if-is_naming.false)
          (w.result-is ∙ w.if-is_naming.false)
    ]
