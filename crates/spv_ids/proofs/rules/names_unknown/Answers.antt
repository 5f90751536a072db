use Rattle.std.proofs.Common.{Bool, ◌∙◌, ap, sym}
use Rattle.std.specs.List.{list_any}
use Rattle.spv_module.specs.Instruction.{parts}
use Rattle.spv_module.specs.View.{seen}
use Rattle.spv_ids.specs.Ids.{is_unknown, used_ids}
use Rattle.spv_ids.proofs.Ids.{any-of_parts}
use Rattle.spv_ids.proofs.rules.names_unknown.Goals as goal

pub returns : goal.returns
returns c =
    let insts = c.args.definitions.now in
    let inst = seen c.args.inst.now in
    c.have_unknown.ensures
    ∙ any-of_parts (is_unknown insts c.is_declaration-early.result c.args.k) inst c.roles.result.now (ap parts c.args.inst.now.whole.parted ∙ sym c.roles.ensures)
    ∙ ap (λ (early : Bool). list_any (is_unknown insts early c.args.k) (used_ids inst)) c.is_declaration-early.ensures
