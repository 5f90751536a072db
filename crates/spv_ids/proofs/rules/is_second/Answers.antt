use Rattle.std.proofs.Common.{Some, None, ◌∙◌, ap, sym}
use Rattle.spv_module.specs.View.{seen}
use Rattle.spv_ids.proofs.Ids.{second-at}
use Rattle.spv_ids.proofs.rules.is_second.Goals as goal

pub returns-in-Some-place : goal.returns-in-Some-place
returns-in-Some-place c =
    second-at c.args.definitions.now c.args.k (seen c.args.inst.now) c.number.result (Some c.in-Some-place.place) (sym c.in-Some.ensures.word ∙ ap Some (sym c.number.ensures.same)) c.in-Some-place.ensures

pub returns-in-None : goal.returns-in-None
returns-in-None c =
    second-at c.args.definitions.now c.args.k (seen c.args.inst.now) c.number.result None (sym c.in-Some.ensures.word ∙ ap Some (sym c.number.ensures.same)) c.in-None.ensures
