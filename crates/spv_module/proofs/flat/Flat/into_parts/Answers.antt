use Rattle.std.proofs.Common.{◌∙◌, ap, length}
use Rattle.spv_module.specs.Code.{Code}
use Rattle.spv_module.proofs.Sections.{length-sections_of}
use Rattle.spv_module.proofs.flat.Flat.into_parts.Goals as goal

pub returns-clause-room : goal.returns-clause-room
returns-clause-room c = ap length c.self.invariant.0 ∙ length-sections_of c.self.inside.insts ∙ ap (λ (code : Code). length code.insts) c.self.view_is
