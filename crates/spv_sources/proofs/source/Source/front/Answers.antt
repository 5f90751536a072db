use Rattle.std.proofs.Common.{◌∙◌, ap, subst}
use Rattle.spv_spelling.specs.Whole.{IsAdmitted}
use Rattle.spv_spelling.specs.Text.{front_of as front_in}
use Rattle.spv_sources.specs.Source.{Told, stays_of}
use Rattle.spv_sources.proofs.Sources.{front_is}
use Rattle.spv_sources.proofs.source.Source.front.Goals as goal

pub returns : goal.returns
returns c =
    front_is c.args.self.now.insts c.self.inside.insts (ap (λ (told : Told). told.insts) c.self.view_is) (subst (λ (told : Told). IsAdmitted told.insts) c.self.view_is c.self.invariant.admitted)
    c.args.label c.requires c.begin.result.now c.begin.ensures c.self.inside.stays.entries c.in_ok-phis.phis.items c.deref.result.now c.in_ok-parameters_of.field-0 c.in_ok-phis.ensures c.deref.ensures.value
    c.in_ok-parameters_of.ensures
    ∙ ap (λ (told : Told). front_in c.args.self.now.insts (stays_of told) c.args.label) c.self.view_is
