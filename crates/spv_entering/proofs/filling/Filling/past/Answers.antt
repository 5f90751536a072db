use Rattle.std.proofs.Common.{sym, ap, ◌∙◌}
use Rattle.std.proofs.lemmas.Result.{on_ok_weaker}
use Rattle.spv_blocks.specs.Blocks.{Code, stops, is_role}
use Rattle.spv_entering.proofs.Turning.{passes-none, passes-put}
use Rattle.spv_entering.proofs.filling.Filling.past.Goals as goal

pub returns-in-Some : goal.returns-in-Some
returns-in-Some c =
    on_ok_weaker c.put.result
    (passes-put c.args.flow.now c.args.self.now c.put.new.self c.args.b c.args.m c.in-Some.h c.requires.going c.requires.merge
    (ap (λ (f : Code). stops f c.args.b) (sym c.labels.ensures) ∙ sym c.stops.ensures ∙ c.if-stops.false)
    (ap (λ (f : Code). is_role f c.args.b c.args.m) (sym c.labels-else-stops.ensures) ∙ sym c.is_role.ensures ∙ c.if-not-is_role.false)
    (sym c.in-Some.ensures))
    c.put.ensures

pub returns-in-None : goal.returns-in-None
returns-in-None c = passes-none c.args.flow.now c.args.self.now c.args.b c.args.m c.requires.going (sym c.in-None.ensures)
