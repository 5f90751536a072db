-- What the last instruction of a block opens.
use Rattle.std.proofs.Common.{◌≡◌, ℕ, zero, suc, List, [], ◌∷◌, length, map, Some, ap, arith}
use Rattle.std.specs.List.{slice_get}
use Rattle.std.specs.Option.{unwrap_or}
use Rattle.spv_blocks.specs.declared.block.Ins.{Ins as DeclaredIns}
use Rattle.spv_blocks.specs.Blocks.{End, opens, last_opens}
use Rattle.spv_blocks.specs.Seen.{seen_ins}

-- it is the last; induction on the instructions
pub last_opens-last : (e : End) (is : List DeclaredIns) (n : ℕ) (i : DeclaredIns) → suc n ≡ length is → slice_get is n ≡ Some i →
    last_opens e (map seen_ins is) ≡ opens e (seen_ins i)
last_opens-last e [] n i last at = absurd (omega arith)
last_opens-last e (x ∷ []) zero i last at = ap (λ o. opens e (seen_ins (unwrap_or o x))) at
last_opens-last e (x ∷ []) (suc n) i last at = absurd (omega arith)
last_opens-last e (x ∷ y ∷ is) zero i last at = absurd (omega arith)
last_opens-last e (x ∷ y ∷ is) (suc n) i last at = last_opens-last e (y ∷ is) n i (omega arith) at
