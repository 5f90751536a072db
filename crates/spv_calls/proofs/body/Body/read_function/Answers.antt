use Rattle.std.proofs.Common.{◌∙◌, sym}
use Rattle.std.proofs.lemmas.Option.{slice_get_within}
use Rattle.spv_module.specs.View.{seen}
use Rattle.spv_calls.specs.Calls.{callees, globals_in}
use Rattle.spv_calls.proofs.Bodies.{callees-read, globals-read, reads-function, reads-nothing}
use Rattle.spv_calls.proofs.body.Body.read_function.Goals as goal

pub returns-in_ok-read_up_to_function-clause-callees : goal.returns-in_ok-read_up_to_function-clause-callees
returns-in_ok-read_up_to_function-clause-callees c =
    let insts = c.args.globals.now in
    let i = seen c.args.first.now in
    reads-function (callees insts) insts c.args.k i c.args.self.now.callees c.read.new.self.callees c.read_up_to_function.new.self.callees (callees-read insts) (slice_get_within insts c.args.k i c.requires) c.requires (sym c.is_function.ensures ∙ c.if-is_function.true) c.in_ok-read.ensures.callees
    c.in_ok-read_up_to_function.ensures.callees

pub returns-in_ok-read_up_to_function-clause-globals : goal.returns-in_ok-read_up_to_function-clause-globals
returns-in_ok-read_up_to_function-clause-globals c =
    let insts = c.args.globals.now in
    let i = seen c.args.first.now in
    reads-function (globals_in insts) insts c.args.k i c.args.self.now.globals c.read.new.self.globals c.read_up_to_function.new.self.globals (globals-read insts) (slice_get_within insts c.args.k i c.requires) c.requires (sym c.is_function.ensures ∙ c.if-is_function.true) c.in_ok-read.ensures.globals
    c.in_ok-read_up_to_function.ensures.globals

pub returns-else-is_function-clause-callees : goal.returns-else-is_function-clause-callees
returns-else-is_function-clause-callees c =
    let insts = c.args.globals.now in
    let i = seen c.args.first.now in
    reads-nothing (callees insts) insts c.args.k i c.args.self.now.callees (callees-read insts) (slice_get_within insts c.args.k i c.requires) c.requires (sym c.is_function.ensures ∙ c.if-is_function.false)

pub returns-else-is_function-clause-globals : goal.returns-else-is_function-clause-globals
returns-else-is_function-clause-globals c =
    let insts = c.args.globals.now in
    let i = seen c.args.first.now in
    reads-nothing (globals_in insts) insts c.args.k i c.args.self.now.globals (globals-read insts) (slice_get_within insts c.args.k i c.requires) c.requires (sym c.is_function.ensures ∙ c.if-is_function.false)
