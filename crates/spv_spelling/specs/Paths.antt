-- The way of the walk from the first block to each block.
use Rattle.std.specs.Prelude.{◌≡◌, ◌≢◌, ℕ, ◌+◌, ◌<◌, Bool, true, false, [], length}
use Rattle.spv_blocks.specs.Blocks.{Code, is_first, stops}
use Rattle.spv_walk.specs.Contexts.{Context}
use Rattle.spv_walk.specs.Walk.{Walk}
use Rattle.spv_walk.specs.Walked.{Steps}
use Rattle.spv_spelling.specs.Clean.{IsClean}

-- the walk comes to l in n steps, in the context c
pub data Path (f : Code) : (n l : ℕ) (c : Context) → Type 0 where
  Begins : {l : ℕ} → is_first f l ≡ true → Path f 0 l []
  Onward : {n b t : ℕ} {c d : Context} → Path f n b c → Steps f b c t d → Path f (n + 1) t d

-- from x it comes to l in n steps
pub data Below (f : Code) (x : ℕ) (c : Context) : (n l : ℕ) (d : Context) → Type 0 where
  Here : Below f x c 0 x c
  Behind : {n b t : ℕ} {d e : Context} → Below f x c n b d → Steps f b d t e → Below f x c (n + 1) t e

-- each walked block has a path, and what has a path is walked
abbrev pub WalkHasPath : Type 0
WalkHasPath = (f : Code) (l : ℕ) (c : Context) → Walk f l c → (n : ℕ) × Path f n l c

abbrev pub PathIsWalked : Type 0
PathIsWalked = (f : Code) (n l : ℕ) (c : Context) → Path f n l c → Walk f l c

-- a block is walked directly behind one block alone, unless it is a header that is its own continue target
pub record SameParent (b p : ℕ) (c d : Context) : Type 0 where
  pub block : b ≡ p
  pub context : c ≡ d

abbrev pub OneParent : Type 0
OneParent =
    (f : Code) (b p t : ℕ) (c d e g : Context) → Walk f b c → Walk f p d → Steps f b c t e → Steps f p d t g → stops f t ≡ false → stops f b ≡ false
    → SameParent b p c d

-- where nothing is broken, the path of a block has one length, which is below the number of blocks
abbrev pub OneLength : Type 0
OneLength = (is_pointer : ℕ → Bool) (f : Code) → IsClean is_pointer f → (n m l : ℕ) (c d : Context) → Path f n l c → Path f m l d → n ≡ m

abbrev pub PathsAreShort : Type 0
PathsAreShort = (is_pointer : ℕ → Bool) (f : Code) → IsClean is_pointer f → (n l : ℕ) (c : Context) → Path f n l c → n < length f

-- what is behind one block directly behind another is behind no second one, and a block is not behind itself
abbrev pub PartsAreApart : Type 0
PartsAreApart =
    (is_pointer : ℕ → Bool) (f : Code) → IsClean is_pointer f → (b t u l n m : ℕ) (c d e g k : Context) → Walk f b c → Steps f b c t d → Steps f b c u e → t ≢ u
    → Below f t d n l g → Below f u e m l k → ⊥

abbrev pub NoneIsBehindItself : Type 0
NoneIsBehindItself =
    (is_pointer : ℕ → Bool) (f : Code) → IsClean is_pointer f → (b l n : ℕ) (c d : Context) → Walk f b c → Below f b c (n + 1) l d → l ≢ b
