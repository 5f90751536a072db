-- How a walked block of a clean function goes on, and what is behind what is behind it.
use Rattle.std.proofs.Common.{◌≡◌, ◌≢◌, ℕ, ◌+◌, Bool, true, false, not, ◌&&◌, List, Option, Some, None, refl, sym, ap, subst, ◌∙◌, add-zero, add_assoc, arith}
use Rattle.spv_module.specs.Instruction.{Instruction}
use Rattle.spv_blocks.specs.Blocks.{Code, Block, block, of_block, branches, construct, last_opens, merge_of, next_of, stops}
use Rattle.spv_blocks.specs.Cutting.{blocks_of}
use Rattle.spv_walk.specs.Contexts.{Context, behind, next_context, is_exit}
use Rattle.spv_walk.specs.Walk.{Walk, end_of, leads}
use Rattle.spv_walk.specs.Walked.{Steps, StepEntered, StepMerged, StepContinued}
use Rattle.spv_walk.proofs.Letter.{entered_tries}
use Rattle.spv_walk.proofs.Unique.{both_hold, not_false, goes_branches, one_context}
use Rattle.spv_spelling.specs.Clean.{IsClean}
use Rattle.spv_spelling.specs.Paths.{Below, Here, Behind}
use Rattle.spv_spelling.specs.Spelling.{Goes}
use Rattle.spv_spelling.proofs.Paths.{none_is_behind_itself}
use Rattle.spv_spelling.proofs.Settled.{walked_runs, settled, header_block}

-- ---- one step

-- a branch that enters a block is a step of the walk
pub goes_on : (insts : List Instruction) (stays : ℕ → ℕ) (l t : ℕ) (c d : Context) → Walk (blocks_of insts) l c → stops (blocks_of insts) l ≡ false
    → behind (construct (blocks_of insts) l) l t c ≡ d → Goes insts stays l d t → Steps (blocks_of insts) l c t d
goes_on insts stays l t c d w runs same g =
    let f : Code = blocks_of insts in
    let inside : is_exit (behind (construct f l) l t c) (end_of f l) t ≡ false = ap (λ e. is_exit e (end_of f l) t) same ∙ g.stays_in in
    let leading : leads f l c t ≡ true =
    both_hold (not (stops f l) && branches f l t) (not (is_exit (behind (construct f l) l t c) (end_of f l) t))
    (both_hold (not (stops f l)) (branches f l t) (not_false (stops f l) runs) (goes_branches f l t g.enters.free))
    (not_false (is_exit (behind (construct f l) l t c) (end_of f l) t) inside) in
    subst (λ e. Steps f l c t e) same (StepEntered t (entered_tries f l t c w leading g.enters) g.enters)

some_merge : (o : Option Block) (m : ℕ) → merge_of (of_block (λ b. last_opens b.end b.body) None o) ≡ Some m → (b : Block) × (o ≡ Some b)
some_merge None m e = absurd (cc (e))
some_merge (Some b) m e = (b, refl)

module _ (is_pointer : ℕ → Bool) (f : Code) (clean : IsClean is_pointer f) where
  -- so are the merge block and the continue target of a construct
  pub merges_on : (l m : ℕ) (c : Context) → Walk f l c → merge_of (construct f l) ≡ Some m → Steps f l c m c
  merges_on l m c w e =
      let b = some_merge (block f l) m e in
      StepMerged m (walked_runs is_pointer f clean l c w) e ((settled is_pointer f clean l c b.0 w b.1).merge m e)

  pub continues_on : (l n : ℕ) (c d : Context) → Walk f l c → next_of (construct f l) ≡ Some n → next_context (construct f l) l c ≡ d → Steps f l c n d
  continues_on l n c d w e same =
      let b = header_block f l n e in
      subst (λ k. Steps f l c n k) same (StepContinued n (walked_runs is_pointer f clean l c w) e ((settled is_pointer f clean l c b.0 w b.1).next n e))

  -- a walked block has one context
  pub same_context : (l : ℕ) (c d : Context) → Walk f l c → Walk f l d → c ≡ d
  same_context l c d w v = one_context f l c d w v (walked_runs is_pointer f clean l c w)

-- ---- more steps

pub directly_below : (f : Code) (b t : ℕ) (c d : Context) → Steps f b c t d → Below f b c 1 t d
directly_below f b t c d s = Behind Here s

-- what is below a block below x is below x: by induction on how it is below the block
pub below_below : (f : Code) (x y : ℕ) (c d : Context) (n m l : ℕ) (e : Context) → Below f x c n y d → Below f y d m l e → Below f x c (n + m) l e
below_below f x y c d n m l e p Here = subst (λ j. Below f x c j y d) (sym (add-zero n)) p
below_below f x y c d n m l e p (Behind {n = k} {b = b} {t = t} {d = g} {e = h} q s) =
    subst (λ j. Below f x c j l e) (add_assoc n k 1) (Behind (below_below f x y c d n k b g p q) s)

-- no way behind a block leads back to it
pub no_way_back : (is_pointer : ℕ → Bool) (f : Code) → IsClean is_pointer f → (b t l n : ℕ) (c d g : Context) → Walk f b c → Steps f b c t d → Below f t d n l g → l ≢ b
no_way_back is_pointer f clean b t l n c d g w s below =
    let all = below_below f b t c d 1 n l g (directly_below f b t c d s) below in
    none_is_behind_itself is_pointer f clean b l n c g w (subst (λ j. Below f b c j l g) (omega arith) all)
