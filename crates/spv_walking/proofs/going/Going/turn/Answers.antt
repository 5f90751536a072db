use Rattle.std.proofs.Common.{sym, ap, ◌∙◌}
use Rattle.std.proofs.lemmas.Result.{on_ok_weaker}
use Rattle.spv_blocks.specs.Tables.{found}
use Rattle.std.specs.Option.{option_map}
use Rattle.spv_blocks.specs.Seen.{seen_block}
use Rattle.spv_walking.specs.Places.{context_at}
use Rattle.spv_walking.proofs.Targets.{goes_onward, nowhere_onward}
use Rattle.spv_walking.proofs.going.Going.turn.Goals as goal

pub returns-in-Some-Some : goal.returns-in-Some-Some
returns-in-Some-Some c =
    let g = c.args.self.now in
    on_ok_weaker c.go_on.result
    (λ a. goes_onward c.args.labels.now (found c.args.enterers.now) g.walked c.args.label (seen_block c.in-Some-Some.block.now) (context_at g.walked.rows c.in-Some-Some.place)
    (sym c.block.ensures ∙ ap (option_map (λ x. seen_block x.now)) c.in-Some-Some.is-0)
    (sym c.place.ensures.context ∙ ap (option_map (context_at g.walked.rows)) c.in-Some-Some.is-1)
    (sym c.stops.ensures ∙ c.if-stops.false)
    g c.go_on.new.self a)
    c.go_on.ensures

pub returns-in_default-None : goal.returns-in_default-None
returns-in_default-None c =
    let g = c.args.self.now in
    nowhere_onward c.args.labels.now (found c.args.enterers.now) g g.walked c.args.label
    (sym c.place.ensures.context ∙ ap (option_map (context_at g.walked.rows)) c.in_default-None.is-1)
