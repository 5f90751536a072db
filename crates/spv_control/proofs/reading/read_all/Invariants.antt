use Rattle.spv_control.specs.Reading.{HasShapesBelow, IsReadBelow}
use Rattle.spv_control.proofs.reading.read_all.Given as goal

abbrev pub invariant-functions : goal.invariant-functions
invariant-functions l =
    IsReadBelow l.fn.flat.insts l.f l.reading.refusal l.reading.nests l.reading.bodies
    × HasShapesBelow l.fn.flat.insts l.f l.reading.refusal l.reading.nests l.reading.shapes.items
