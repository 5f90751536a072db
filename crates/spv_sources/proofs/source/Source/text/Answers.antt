use Rattle.std.proofs.Common.{ap, subst}
use Rattle.spv_spelling.specs.Whole.{IsAdmitted}
use Rattle.spv_sources.specs.Source.{Told}
use Rattle.spv_sources.proofs.Sources.{tail_there, text_result}
use Rattle.spv_sources.proofs.source.Source.text.Goals as goal

pub text_at-requires-clause-tail : goal.text_at-requires-clause-tail
text_at-requires-clause-tail c =
    tail_there c.args.self.now.insts c.self.inside.insts (ap (λ (told : Told). told.insts) c.self.view_is) (subst (λ (told : Told). IsAdmitted told.insts) c.self.view_is c.self.invariant.admitted)
    c.args.label c.requires c.begin.result.now c.begin.ensures

pub returns : goal.returns
returns c =
    text_result c.args.self.now.insts c.self.inside.insts (ap (λ (told : Told). told.insts) c.self.view_is) (subst (λ (told : Told). IsAdmitted told.insts) c.self.view_is c.self.invariant.admitted)
    c.args.label c.requires c.begin.result.now c.begin.ensures c.text_at.result c.text_at.ensures
