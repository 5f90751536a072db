use Rattle.std.proofs.Common.{ap, refl, subst, ◌∙◌}
use Rattle.spv_parse.specs.declared.state.Way.{Way}
use Rattle.spv_parse.specs.Ways.{IsWay, next_of_way}
use Rattle.spv_parse.proofs.Branching.{bare_exit, split_enters, split_exits, split_loops}
use Rattle.spv_parse.proofs.scene.Scene.split.Goals as goal

pub parting-requires-clause-one : goal.parting-requires-clause-one
parting-requires-clause-one c = bare_exit c.args.self.now c.args.label c.args.left c.args.fork.now c.requires

pub returns-in-Exit : goal.returns-in-Exit
returns-in-Exit c =
    let s = c.args.self.now in
    let p = c.in_ok-parting.parting in
    let way = subst (λ (w : Way). IsWay s c.args.label c.args.left p.other w) c.in-Exit.is c.in_ok-way.ensures in
    let next = c.next_behind-next.ensures ∙ ap (λ (w : Way). next_of_way w p.other) c.in-Exit.is in
    split_exits s c.args.label c.args.left c.args.fork.now c.requires p c.in_ok-parting.ensures
    record { condition = c.args.fork.now.condition; on = p.on; exit = p.exit; next = c.next_behind-next.result } refl refl refl
    c.args.items.now.items c.push.new.self.items c.in-Exit.exit way next c.in_ok-push.ensures.items

pub returns-in-Loop : goal.returns-in-Loop
returns-in-Loop c =
    let s = c.args.self.now in
    let p = c.in_ok-parting.parting in
    let way = subst (λ (w : Way). IsWay s c.args.label c.args.left p.other w) c.in-Loop.is c.in_ok-way.ensures in
    let next = c.next_behind-next.ensures ∙ ap (λ (w : Way). next_of_way w p.other) c.in-Loop.is in
    split_loops s c.args.label c.args.left c.args.fork.now c.requires p c.in_ok-parting.ensures
    record { condition = c.args.fork.now.condition; on = p.on; exit = p.exit; next = c.next_behind-next.result } refl refl refl
    c.args.items.now.items c.push.new.self.items c.in-Loop.values way.0 way.1 way.2 next c.in_ok-push.ensures.items

pub returns-in_ok-copies-in-Block : goal.returns-in_ok-copies-in-Block
returns-in_ok-copies-in-Block c =
    let s = c.args.self.now in
    let p = c.in_ok-parting.parting in
    let way = subst (λ (w : Way). IsWay s c.args.label c.args.left p.other w) c.in-Block.is c.in_ok-way.ensures in
    let next = c.next_behind-next.ensures ∙ ap (λ (w : Way). next_of_way w p.other) c.in-Block.is in
    split_enters s c.args.label c.args.left c.args.fork.now c.requires p c.in_ok-parting.ensures
    record { condition = c.args.fork.now.condition; on = p.on; exit = p.exit; next = c.next_behind-next.result } refl refl refl
    c.args.items.now.items c.copies.new.items.items c.push.new.self.items way.0 way.1 next c.in_ok-push.ensures.items c.in_ok-copies-in-Block.ensures
