use Rattle.opt_outside.proofs.HeldFiles.{FoundBefore}
use Rattle.opt_outside.proofs.files.last_named.Given as goal

abbrev pub invariant-files : goal.invariant-files
invariant-files l = FoundBefore l.files l.name l.place l.found
