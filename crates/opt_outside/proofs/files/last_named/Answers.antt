use Rattle.std.proofs.Common.{rules}
use Rattle.opt_outside.proofs.HeldFiles.{found_here, found_before}
use Rattle.opt_outside.proofs.files.last_named.Goals as goal
use Rattle.opt_outside.proofs.files.last_named.Goals.{then-eq, else-eq}

pub files-preserved : goal.files-preserved
files-preserved c =
    elim c.if-eq.branch [
      | then-eq w ↦ let e = w.found-is in rw e (found_here _ _ c.index-files-place.result _ c.files-test.true c.index-files-place.is (search rules))
      | else-eq w ↦ let e = w.found-is in rw e (found_before _ _ c.index-files-place.result _ _ c.files-test.true c.index-files-place.is (search rules) c.files.invariant)
    ]
