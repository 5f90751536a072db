use Rattle.opt_top.specs.Job.{texts, job_of}
use Rattle.opt_top.proofs.Completing.{completes}
use Rattle.opt_top.proofs.Telling.{ends_told}
use Rattle.opt_top.proofs.run.opt.Goals as goal

pub returns-clause-ends : goal.returns-clause-ends
returns-clause-ends g c =
    let seen = g.O.Outside.seen in
    ends_told (job_of (texts c.args.words.now)) c.run-status.result (seen c.args.out.now) (seen c.run-status.new.out) (seen c.tell_message.new.out)
    c.run-status.ensures.stops c.run-status.ensures.told c.run-status.ensures.tell_faults c.tell_message.ensures.others c.tell_message.ensures.told

pub returns-clause-complete : goal.returns-clause-complete
returns-clause-complete g c =
    let seen = g.O.Outside.seen in
    completes (job_of (texts c.args.words.now)) c.run-status.result (seen c.args.out.now) (seen c.tell_message.new.out)
    (returns-clause-ends g c).stops
