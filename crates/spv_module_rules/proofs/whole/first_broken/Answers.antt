use Rattle.std.proofs.Common.{subst}
use Rattle.spv_module_rules.proofs.Joined.{AreOnCalls, first-in_whole}
use Rattle.spv_module_rules.proofs.whole.first_broken.Goals as goal

pub returns : goal.returns
returns c = λ unbroken.
    first-in_whole c.args.flat.now.insts c.in_ok-on_calls.on_calls c.in_ok-on_exits.on_exits c.earlier.result
    (subst (λ is. AreOnCalls is c.in_ok-on_calls.on_calls) c.requires.same c.in_ok-on_calls.ensures)
    (c.in_ok-on_exits.ensures unbroken) c.earlier.ensures.same unbroken
