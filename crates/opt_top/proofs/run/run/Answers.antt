use Rattle.std.proofs.Common.{rules, subst}
use Rattle.opt_top.specs.Ends.{Stops}
use Rattle.opt_top.specs.JobSeen.{seen}
use Rattle.opt_top.specs.declared.status.Status.TheVariants.{Done, WriteFault}
use Rattle.opt_top.proofs.Stopping.{stops_at_writing, stops_done}
use Rattle.opt_top.proofs.run.run.Goals as goal

pub returns-clause-stops : goal.returns-clause-stops
returns-clause-stops g c =
    subst (λ job. Stops job WriteFault (g.O.Outside.seen c.args.out.now) (g.O.Outside.seen c.write_output.new.out)) c.in-Some.ensures
    (stops_at_writing (seen c.in-Some.job) c.in-Ok.bytes.items c.in-Ok-answer.output (g.O.Outside.seen c.args.out.now) (g.O.Outside.seen c.read_input.new.out) (g.O.Outside.seen c.write_output.new.out)
    c.in-Ok.ensures.ok (search rules) (rw (← c.deref.ensures.value) c.in-Ok-answer.ensures.answer) (rw (← c.as_slice.ensures) c.in-Err.ensures.err))

pub returns-in-Ok-write_output-clause-stops : goal.returns-in-Ok-write_output-clause-stops
returns-in-Ok-write_output-clause-stops g c =
    subst (λ job. Stops job Done (g.O.Outside.seen c.args.out.now) (g.O.Outside.seen c.write_output.new.out)) c.in-Some.ensures
    (stops_done (seen c.in-Some.job) c.in-Ok.bytes.items c.in-Ok-answer.output (g.O.Outside.seen c.args.out.now) (g.O.Outside.seen c.read_input.new.out) (g.O.Outside.seen c.write_output.new.out)
    c.in-Ok.ensures.ok (search rules) (rw (← c.deref.ensures.value) c.in-Ok-answer.ensures.answer) (rw (← c.deref.ensures.value) c.in-Ok-answer.ensures.means) (rw (← c.as_slice.ensures) c.in-Ok-write_output.ensures.ok))
