use Rattle.std.proofs.Common.{◌∙◌, ap, List}
use Rattle.std.specs.List.{slice_get}
use Rattle.spv_module.specs.Instruction.{Instruction}
use Rattle.spv_module.proofs.Spans.{spanned}
use Rattle.spv_module.proofs.list.InstList.each_is_instruction.Goals as goal

pub returns : goal.returns
returns c k i at =
    spanned c.self.inside.pool.words.items c.self.inside.pool.roles.items c.self.inside.spans.items k i c.self.invariant.whole
    (ap (λ (list : List Instruction). slice_get list k) c.self.view_is ∙ at)
