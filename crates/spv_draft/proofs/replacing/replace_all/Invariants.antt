use Rattle.std.proofs.Common.{◌≡◌, ◌++◌, map, take, drop}
use Rattle.spv_draft.specs.Named.{replaced_in}
use Rattle.spv_draft.proofs.replacing.replace_all.Given as goal

abbrev pub invariant-lines : goal.invariant-lines
invariant-lines l = record {
  is : l.lines ≡ map (replaced_in l.from l.to) (take l.k l.initial.lines) ++ drop l.k l.initial.lines;
}
