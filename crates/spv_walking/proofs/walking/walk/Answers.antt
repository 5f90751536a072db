use Rattle.spv_blocks.specs.Tables.{found}
use Rattle.spv_walking.proofs.Turning.{started, turned, turn_less, finished}
use Rattle.spv_walking.proofs.walking.walk.Goals as goal

pub turns-init : goal.turns-init
turns-init c = started c.args.labels.now c.in_ok-going.going c.in_ok-going.ensures

pub turns-smaller : goal.turns-smaller
turns-smaller c =
    turn_less c.args.labels.now (found c.args.enterers.now) c.requires c.turns.going c.next.new.self c.turn.new.self c.in-Some.label c.in-Some.ensures.walked
    c.in-Some.ensures.waiting c.in_ok-turn.ensures

pub turns-preserved : goal.turns-preserved
turns-preserved c =
    turned c.args.labels.now (found c.args.enterers.now) c.requires c.turns.going c.next.new.self c.turn.new.self c.in-Some.label c.in-Some.ensures.walked
    c.in-Some.ensures.waiting c.in_ok-turn.ensures c.turns.invariant

pub returns : goal.returns
returns c = finished c.args.labels.now c.turns.going c.next.new.self c.turns.invariant c.in_default.ensures.walked c.in_default.ensures.waiting
