use Rattle.std.proofs.Common.{◌∙◌}
use Rattle.spv_ir.proofs.Drafts.{unchanged}
use Rattle.spv_ir.proofs.holding.Module.draft.Goals as goal

pub returns-clause-sealable : goal.returns-clause-sealable
returns-clause-sealable c = unchanged c.into_flat.result c.of.result c.into_flat.ensures.holds c.of.ensures ∙ c.into_flat.ensures.same
