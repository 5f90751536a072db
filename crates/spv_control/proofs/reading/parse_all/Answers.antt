use Rattle.spv_control.proofs.reading.parse_all.Goals as goal

pub returns-clause-trees : goal.returns-clause-trees
returns-clause-trees c = c.answer.ensures.trees c.args.flat.now.insts c.in_ok-read_all.ensures.trees

pub returns-clause-shapes : goal.returns-clause-shapes
returns-clause-shapes c = c.answer.ensures.shapes c.args.flat.now.insts c.in_ok-read_all.ensures.shapes
