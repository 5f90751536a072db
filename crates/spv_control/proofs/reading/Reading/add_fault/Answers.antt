use Rattle.spv_control.proofs.OneMore.{add_nesting, add_refusal, no_shapes_nested, no_shapes_refused}
use Rattle.spv_control.proofs.reading.Reading.add_fault.Goals as goal

pub returns-in-Refused-clause-trees : goal.returns-in-Refused-clause-trees
returns-in-Refused-clause-trees c = λ insts n h told.
    let old = c.args.self.now in
    add_refusal insts n old.refusal old.nests old.bodies h c.args.fault c.in-Refused.refusal c.earlier-self.result told c.in-Refused.is
    c.earlier-self.ensures.same

pub returns-in-Refused-clause-shapes : goal.returns-in-Refused-clause-shapes
returns-in-Refused-clause-shapes c = λ insts n.
    let old = c.args.self.now in
    no_shapes_refused insts n old.refusal c.earlier-self.result old.nests old.shapes.items c.in-Refused.refusal c.earlier-self.ensures.same

pub returns-in-Nesting-clause-trees : goal.returns-in-Nesting-clause-trees
returns-in-Nesting-clause-trees c = λ insts n h told.
    let old = c.args.self.now in
    add_nesting insts n old.refusal old.nests old.bodies h c.args.fault told c.in-Nesting.is

pub returns-in-Nesting-clause-shapes : goal.returns-in-Nesting-clause-shapes
returns-in-Nesting-clause-shapes c = λ insts n.
    let old = c.args.self.now in
    no_shapes_nested insts n old.refusal old.shapes.items
