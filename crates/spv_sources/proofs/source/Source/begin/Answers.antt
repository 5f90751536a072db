use Rattle.std.proofs.Common.{ap, sym, subst, ◌∙◌}
use Rattle.std.specs.BTreeMap.{get}
use Rattle.std.specs.Ordering.{nat_cmp}
use Rattle.spv_sources.specs.Source.{Told}
use Rattle.spv_sources.specs.Values.{IsBegin}
use Rattle.spv_sources.proofs.source.Source.begin.Goals as goal

pub returns : goal.returns
returns c =
    subst (λ (told : Told). IsBegin told.insts c.args.label c.in-Some.begin.now) c.self.view_is (c.self.invariant.begins.each c.args.label c.in-Some.begin.now (ap (get nat_cmp c.self.inside.begins) (sym c.number.ensures.same) ∙ sym c.in-Some.ensures.value))
