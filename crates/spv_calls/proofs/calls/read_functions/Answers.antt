use Rattle.spv_calls.specs.Calls.{calls_at, globals_at}
use Rattle.spv_calls.proofs.Bodies.{rows-more}
use Rattle.spv_calls.proofs.calls.read_functions.Goals as goal

pub instructions-preserved : goal.instructions-preserved
instructions-preserved c =
    let insts = c.args.globals.now in
    let k = c.instructions.k in
    let body = c.in_ok-callees.field-0 in
    (rows-more (calls_at insts) k c.instructions.calls c.push.new.self body.callees c.instructions.invariant.0 c.in_ok-callees.ensures.callees c.in_ok-push.ensures.ok, rows-more (globals_at insts) k c.instructions.named.items c.push-in-instructions.new.self.items body.globals c.instructions.invariant.1 c.in_ok-callees.ensures.globals c.in_ok-push-2.ensures.items)
