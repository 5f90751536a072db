use Rattle.std.proofs.Common.{◌≡◌, ◌+◌, ap, subst}
use Rattle.std.specs.Prelude.{IfOk, Result}
use Rattle.spv_base.specs.declared.fault.Fault.{Fault}
use Rattle.spv_blocks.specs.Cutting.{blocks_of, function_insts}
use Rattle.spv_parse.specs.declared.functions.Parsed.{Parsed}
use Rattle.spv_parse.specs.Parsed.{tree_of}
use Rattle.spv_control.proofs.OneMore.{add_shape, add_tree}
use Rattle.spv_control.proofs.reading.Reading.add.Goals as goal

pub returns-in_ok-push-in-Ok-2-clause-trees : goal.returns-in_ok-push-in-Ok-2-clause-trees
returns-in_ok-push-in-Ok-2-clause-trees c = λ insts n h told.
    let old = c.args.self.now in
    add_tree insts n old.refusal old.nests old.bodies h (tree_of c.args.function) c.in-Ok.parsed.body c.push.new.self told (ap tree_of c.in-Ok.is) c.in_ok-push-in-Ok.ensures.ok

pub returns-in_ok-push-in-Ok-2-clause-shapes : goal.returns-in_ok-push-in-Ok-2-clause-shapes
returns-in_ok-push-in-Ok-2-clause-shapes c = λ insts n h told.
    let old = c.args.self.now in
    let here = subst (λ (r : Result Parsed Fault). IfOk r (λ parsed. parsed.shape ≡ blocks_of (function_insts n insts))) c.in-Ok.is told in
    add_shape insts n old.refusal old.nests old.shapes.items c.push-in-Ok.new.self.items c.in-Ok.parsed.shape h here c.in_ok-push-in-Ok-2.ensures.items

pub returns-in_ok-add_fault-in-Err-clause-shapes : goal.returns-in_ok-add_fault-in-Err-clause-shapes
returns-in_ok-add_fault-in-Err-clause-shapes c = λ insts n h told. c.in_ok-add_fault-in-Err.ensures.shapes insts (n + 1)
