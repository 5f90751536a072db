use Rattle.std.proofs.Common.{refl, subst}
use Rattle.spv_parse.specs.declared.state.Way.{Way}
use Rattle.spv_parse.specs.Ways.{IsWay}
use Rattle.spv_parse.proofs.Branching.{branch_exits, branch_joins, branch_loops}
use Rattle.spv_parse.proofs.scene.Scene.branch.Goals as goal

pub returns-in-Exit : goal.returns-in-Exit
returns-in-Exit c =
    let s = c.args.self.now in
    let way = subst (λ (w : Way). IsWay s c.args.label c.args.left c.args.target w) c.in-Exit.is c.in_ok-exit.ensures in
    branch_exits s c.args.label c.args.left c.args.target c.requires c.args.items.now.items c.args.items.now.items c.in-Exit.exit way refl

pub returns-in-Loop : goal.returns-in-Loop
returns-in-Loop c =
    let s = c.args.self.now in
    let way = subst (λ (w : Way). IsWay s c.args.label c.args.left c.args.target w) c.in-Loop.is c.in_ok-exit.ensures in
    branch_loops s c.args.label c.args.left c.args.target c.requires c.args.items.now.items c.args.items.now.items c.in-Loop.values way.0 way.1 way.2 refl

pub returns-in_ok-copies-in-Block : goal.returns-in_ok-copies-in-Block
returns-in_ok-copies-in-Block c =
    let s = c.args.self.now in
    let way = subst (λ (w : Way). IsWay s c.args.label c.args.left c.args.target w) c.in-Block.is c.in_ok-exit.ensures in
    branch_joins s c.args.label c.args.left c.args.target c.requires c.args.items.now.items c.copies.new.items.items way.0 way.1 c.in_ok-copies-in-Block.ensures
