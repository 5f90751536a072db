use Rattle.spv_parse.proofs.Pushed.{steps_more}
use Rattle.spv_parse.proofs.pushing.push_steps.Goals as goal

pub steps-preserved : goal.steps-preserved
steps-preserved c rest =
    steps_more c.args.items.now.items c.steps.items.items c.push.new.self.items c.steps.yielded c.in-Some.step c.steps.invariant c.in_ok-push.ensures.items rest
