use Rattle.std.proofs.Common.{subst}
use Rattle.spv_spelling.specs.Spelling.{AreStaying}
use Rattle.spv_sources.specs.Source.{Told, stays_of}
use Rattle.spv_sources.proofs.Followed.{are_staying}
use Rattle.spv_sources.proofs.source.Source.are_staying.Goals as goal

pub returns : goal.returns
returns c =
    subst (λ (told : Told). AreStaying told.insts (stays_of told)) c.self.view_is
    (are_staying c.self.inside.insts c.self.inside.stays c.self.invariant.admitted.clean c.self.invariant.stays)
