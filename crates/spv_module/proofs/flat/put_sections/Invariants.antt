use Rattle.std.proofs.Common.{◌≡◌, ◌++◌, length, take, drop}
use Rattle.spv_module.specs.Code.{sections_of, sections_from}
use Rattle.spv_module.proofs.flat.put_sections.Given as goal

abbrev pub invariant-instructions : goal.invariant-instructions
invariant-instructions l = record {
  room : length l.sections.items ≡ length l.insts;
  done : sections_of l.insts ≡ take l.k l.sections.items ++ sections_from l.begun l.before (drop l.k l.insts);
}
