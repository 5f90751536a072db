use Rattle.std.proofs.Common.{◌≡◌, ◌+◌, ◌<◌, List, length, Some, ◌∙◌, sym, ap, arith}
use Rattle.std.specs.List.{slice_get}
use Rattle.spv_module.specs.Instruction.{Instruction}
use Rattle.spv_module.specs.View.{seen}
use Rattle.spv_calls.specs.Calls.{callees, globals_in}
use Rattle.spv_calls.proofs.Bodies.{callees-read, globals-read, goes-on, goes-stop, up-stops, up-ends}
use Rattle.spv_calls.proofs.body.Body.read_up_to_function.Goals as goal

pub returns-then-is_function-clause-callees : goal.returns-then-is_function-clause-callees
returns-then-is_function-clause-callees c =
    let insts = c.args.globals.now in
    let same : length c.insts-insts.result.now ≡ length insts = ap (λ (is : List Instruction). length is) c.insts-insts.ensures in
    goes-stop (callees insts) insts (c.args.k + 1) c.instructions.j c.args.self.now.callees c.instructions.self.callees (callees-read insts) c.instructions.invariant.0
    (up-stops insts c.instructions.j (seen c.at-inst.result) (omega arith) (ap (λ (is : List Instruction). slice_get is c.instructions.j) (sym c.insts-insts.ensures) ∙ c.at-inst.ensures) (sym c.is_function.ensures ∙ c.if-is_function.true))

pub returns-then-is_function-clause-globals : goal.returns-then-is_function-clause-globals
returns-then-is_function-clause-globals c =
    let insts = c.args.globals.now in
    let same : length c.insts-insts.result.now ≡ length insts = ap (λ (is : List Instruction). length is) c.insts-insts.ensures in
    goes-stop (globals_in insts) insts (c.args.k + 1) c.instructions.j c.args.self.now.globals c.instructions.self.globals (globals-read insts) c.instructions.invariant.1
    (up-stops insts c.instructions.j (seen c.at-inst.result) (omega arith) (ap (λ (is : List Instruction). slice_get is c.instructions.j) (sym c.insts-insts.ensures) ∙ c.at-inst.ensures) (sym c.is_function.ensures ∙ c.if-is_function.true))

pub instructions-preserved : goal.instructions-preserved
instructions-preserved c =
    let insts = c.args.globals.now in
    let i = seen c.at-inst.result in
    let same : length c.insts-insts.result.now ≡ length insts = ap (λ (is : List Instruction). length is) c.insts-insts.ensures in
    let fits : c.instructions.j < length insts = omega arith in
    let at : slice_get insts c.instructions.j ≡ Some i = ap (λ (is : List Instruction). slice_get is c.instructions.j) (sym c.insts-insts.ensures) ∙ c.at-inst.ensures in
    (goes-on (callees insts) insts (c.args.k + 1) c.instructions.j i c.args.self.now.callees c.instructions.self.callees c.read.new.self.callees (callees-read insts) c.instructions.invariant.0 fits at (sym c.is_function.ensures ∙ c.if-is_function.false) c.in_ok-read.ensures.callees, goes-on (globals_in insts) insts (c.args.k + 1) c.instructions.j i c.args.self.now.globals c.instructions.self.globals c.read.new.self.globals (globals-read insts) c.instructions.invariant.1 fits at (sym c.is_function.ensures ∙ c.if-is_function.false) c.in_ok-read.ensures.globals)
