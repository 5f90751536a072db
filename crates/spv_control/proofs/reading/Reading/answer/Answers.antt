use Rattle.spv_control.proofs.OneMore.{all_nested, all_parsed, all_refused}
use Rattle.spv_control.proofs.reading.Reading.answer.Goals as goal

pub returns-in-Some-clause-trees : goal.returns-in-Some-clause-trees
returns-in-Some-clause-trees c = λ insts h.
    let read = c.args.self in
    all_refused insts read.refusal read.nests read.bodies h c.in-Some.refusal c.in-Some.is

pub returns-in-None-clause-trees : goal.returns-in-None-clause-trees
returns-in-None-clause-trees c = λ insts h.
    let read = c.args.self in
    all_nested insts read.refusal read.nests read.bodies h c.in-None.is c.if-self.true

pub returns-in-None-2-clause-trees : goal.returns-in-None-2-clause-trees
returns-in-None-2-clause-trees c = λ insts h.
    let read = c.args.self in
    all_parsed insts read.refusal read.nests read.bodies h c.in-None-2.is c.if-self.false

pub returns-in-None-2-clause-shapes : goal.returns-in-None-2-clause-shapes
returns-in-None-2-clause-shapes c = λ insts h. h c.in-None-2.is c.if-self.false
