use Rattle.spv_control.proofs.OneMore.{read_to_end, shapes_of_none, shapes_to_end}
use Rattle.spv_control.proofs.reading.read_all.Goals as goal

pub functions-init : goal.functions-init
functions-init c =
    let insts = c.args.flat.now.insts in
    let reading = c.new-reading.result in
    (c.new-reading.ensures.trees insts, shapes_of_none insts reading.refusal reading.nests reading.shapes.items c.new-reading.ensures.shapes)

pub functions-preserved : goal.functions-preserved
functions-preserved c =
    let insts = c.args.flat.now.insts in
    let f = c.functions.f in
    (c.in_ok-add.ensures.trees insts f c.functions.invariant.0 c.read.ensures.tree, c.in_ok-add.ensures.shapes insts f c.functions.invariant.1 c.read.ensures.shape)

pub returns-clause-trees : goal.returns-clause-trees
returns-clause-trees c =
    let read = c.functions.reading in
    read_to_end c.args.flat.now.insts c.functions.f c.functions-f-end.result read.refusal read.nests read.bodies c.functions.invariant.0 c.functions-test.false
    c.functions.auto.f-end c.functions-f-end.ensures

pub returns-clause-shapes : goal.returns-clause-shapes
returns-clause-shapes c =
    let read = c.functions.reading in
    shapes_to_end c.args.flat.now.insts c.functions.f c.functions-f-end.result read.refusal read.nests read.shapes.items c.functions.invariant.1
    c.functions-test.false c.functions.auto.f-end c.functions-f-end.ensures
