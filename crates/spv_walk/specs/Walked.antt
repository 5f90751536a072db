-- Tables of walked blocks, and the broken rules that are found through one.
use Rattle.std.specs.Prelude.{◌≡◌, ◌⊎◌, not, ◌&&◌, ◌||◌, ℕ, Bool, true, false, [], ◌∷◌, Option, Some, None}
use Rattle.std.specs.List.{Contains}
use Rattle.spv_base.specs.declared.fault.Refusal.{Refusal}
use Rattle.spv_blocks.specs.Blocks.{Code, Block, Open, block, branches, construct, merge_of, next_of, is_role, is_it, is_first, stops}
use Rattle.spv_walk.specs.Contexts.{Context, InNext, behind, next_context, is_fall}
use Rattle.spv_walk.specs.Walk.{Enters, leads, tries, Walk}
use Rattle.spv_walk.specs.Rules.{at_front, at_end, end_at, loop_at, Finds, Broken, IsFirst}
use Rattle.spv_walk.specs.Tables.{IsDone}

-- a table has a context of a block
abbrev pub HasSome : (In : ℕ → Context → Type 0) → (b : ℕ) → Type 0
HasSome In b = (c : Context) × In b c

-- a table of walked blocks, closed for those that are done; of a header that is its own continue target any context will do
pub record WalkTable (f : Code) (In : ℕ → Context → Type 0) (Done : ℕ → Type 0) : Type 0 where
  pub sound : (b : ℕ) (c : Context) → In b c → Walk f b c
  pub starts : (l : ℕ) → is_first f l ≡ true → In l []
  pub entered : (b t : ℕ) (c : Context) → In b c → Done b → tries f b c t ≡ true → Enters f b t → In t (behind (construct f b) b t c)
  pub stopped : (b t : ℕ) (c : Context) → In b c → Done b → tries f b c t ≡ true → stops f t ≡ true → HasSome In t
  pub merged : (b m : ℕ) (c : Context) → In b c → Done b → stops f b ≡ false → merge_of (construct f b) ≡ Some m → is_role f b m ≡ true → In m c
  pub continued : (b n : ℕ) (c : Context) → In b c → Done b → stops f b ≡ false → next_of (construct f b) ≡ Some n → is_role f b n ≡ true
      → In n (next_context (construct f b) b c)

-- what a turn at the block b has to show of the table and the done blocks after it
pub record WalkTurn (f : Code) (In In2 : ℕ → Context → Type 0) (Done Done2 : ℕ → Type 0) (b : ℕ) : Type 0 where
  pub grows : (p : ℕ) (c : Context) → In p c → In2 p c
  pub sound : (p : ℕ) (c : Context) → In2 p c → Walk f p c
  pub settled : (p : ℕ) (c : Context) → In2 p c → Done2 p → In p c × (Done p ⊎ (p ≡ b))
  pub entered : (t : ℕ) (c : Context) → In b c → tries f b c t ≡ true → Enters f b t → In2 t (behind (construct f b) b t c)
  pub stopped : (t : ℕ) (c : Context) → In b c → tries f b c t ≡ true → stops f t ≡ true → HasSome In2 t
  pub merged : (m : ℕ) (c : Context) → In b c → stops f b ≡ false → merge_of (construct f b) ≡ Some m → is_role f b m ≡ true → In2 m c
  pub continued : (n : ℕ) (c : Context) → In b c → stops f b ≡ false → next_of (construct f b) ≡ Some n → is_role f b n ≡ true
      → In2 n (next_context (construct f b) b c)

-- an exact table: it has each walked block in its context, and of a header that is its own continue target some context
pub record IsWalk (f : Code) (In : ℕ → Context → Type 0) : Type 0 where
  pub sound : (b : ℕ) (c : Context) → In b c → Walk f b c
  pub whole : (b : ℕ) (c : Context) → Walk f b c → stops f b ≡ false → In b c
  pub some : (b : ℕ) (c : Context) → Walk f b c → HasSome In b

-- ---- a turn, step by step

-- t is walked directly behind the block b in the context c, in the context d
pub data Steps (f : Code) (b : ℕ) (c : Context) : (t : ℕ) (d : Context) → Type 0 where
  StepEntered : (t : ℕ) → tries f b c t ≡ true → Enters f b t → Steps f b c t (behind (construct f b) b t c)
  StepStopped : (t : ℕ) → tries f b c t ≡ true → stops f t ≡ true → Steps f b c t (behind (construct f b) b t c)
  StepMerged : (m : ℕ) → stops f b ≡ false → merge_of (construct f b) ≡ Some m → is_role f b m ≡ true → Steps f b c m c
  StepContinued : (n : ℕ) → stops f b ≡ false → next_of (construct f b) ≡ Some n → is_role f b n ≡ true → Steps f b c n (next_context (construct f b) b c)

-- a table has t in the context d, or in any where t is a header that is its own continue target
pub record Visited (f : Code) (In : ℕ → Context → Type 0) (t : ℕ) (d : Context) : Type 0 where
  pub runs : stops f t ≡ false → In t d
  pub some : HasSome In t

-- in the midst of a turn at b
pub record WalkMiddle (f : Code) (In In2 : ℕ → Context → Type 0) (Done Done2 : ℕ → Type 0) (b : ℕ) : Type 0 where
  pub grows : (p : ℕ) (c : Context) → In p c → In2 p c
  pub sound : (p : ℕ) (c : Context) → In2 p c → Walk f p c
  pub settled : (p : ℕ) (c : Context) → In2 p c → Done2 p → In p c × (Done p ⊎ (p ≡ b))

-- t is placed in the context d, and is not done
pub record WalkAdds (In In2 : ℕ → Context → Type 0) (Done Done2 : ℕ → Type 0) (t : ℕ) (d : Context) : Type 0 where
  pub grows : (p : ℕ) (c : Context) → In p c → In2 p c
  pub has : In2 t d
  pub more : (p : ℕ) (c : Context) → In2 p c → In p c ⊎ ((p ≡ t) × (c ≡ d))
  pub waits : (p : ℕ) (c : Context) → In2 p c → Done2 p → In p c × Done p

-- a table of the blocks from which labels are entered
pub record AreEnterers (f : Code) (enterer : ℕ → Option ℕ) : Type 0 where
  pub sound : (b t : ℕ) → enterer t ≡ Some b → Enters f b t
  pub whole : (b t : ℕ) → Enters f b t → enterer t ≡ Some b

-- b goes on to t, where t is no exit: t is a header that is its own continue target and begins no other case, or is entered from b
abbrev pub admits : (f : Code) (enterer : ℕ → Option ℕ) (b : ℕ) → Context → (t : ℕ) → Bool
admits f enterer b c t = (stops f t && not (is_fall f c t)) || is_it b (enterer t)

-- a target is walked to from b
abbrev pub walks_to : (f : Code) (enterer : ℕ → Option ℕ) (b : ℕ) → Context → (t : ℕ) → Bool
walks_to f enterer b c t = leads f b c t && admits f enterer b c t

-- ---- the rules through a table

module _ (f : Code) (In : ℕ → Context → Type 0) where
  pub record BackEdgeIn (h b : ℕ) : Type 0 where
    pub context : Context
    pub merge : ℕ
    pub walked : In b (InNext h merge ∷ context)
    pub bare : construct f b ≡ None
    pub branch : branches f b h ≡ true

  pub record OneBackEdgeIn (h : ℕ) : Type 0 where
    pub block : ℕ
    pub ends : BackEdgeIn h block
    pub one : (b : ℕ) → BackEdgeIn h b → b ≡ block

module _ (is_pointer : ℕ → Bool) (f : Code) (In : ℕ → Context → Type 0) where
  pub data FindsIn : (rule at : ℕ) → Type 0 where
    InFront : (l : ℕ) (b : Block) (c : Context) (r : Refusal) → In l c → block f l ≡ Some b → Contains (at_front is_pointer f l b) r → FindsIn r.rule r.at
    InEnd : (l : ℕ) (b : Block) (c : Context) (r : Refusal) → In l c → block f l ≡ Some b → stops f l ≡ false → Contains (at_end f l c b) r → FindsIn r.rule r.at
    InTarget : (l t : ℕ) (c : Context) → In l c → tries f l c t ≡ true → stops f t ≡ false → (Enters f l t → ⊥) → FindsIn 402 (end_at f l)
    InFall : (l t : ℕ) (c : Context) → In l c → leads f l c t ≡ true → is_fall f c t ≡ true → FindsIn 404 (end_at f l)
    InContinue : (l n : ℕ) (b : Block) (c : Context) → In l c → block f l ≡ Some b → stops f l ≡ false → next_of (construct f l) ≡ Some n
        → (OneBackEdgeIn f In l → ⊥) → FindsIn 405 (loop_at b.body)
    InOpen : (l : ℕ) (b : Block) → block f l ≡ Some b → b.end ≡ Open → FindsIn 401 b.end_at

  pub data BrokenIn : (rule at : ℕ) → Type 0 where
    FoundIn : (rule at : ℕ) → FindsIn rule at → BrokenIn rule at
    NotIn : (l : ℕ) (b : Block) → ((rule at : ℕ) → FindsIn rule at → ⊥) → block f l ≡ Some b → ((c : Context) → In l c → ⊥) → BrokenIn 402 b.at

-- ---- the laws, of a table with one context a block

abbrev pub InPlaces : (ℕ → Option Context) → ℕ → Context → Type 0
InPlaces place b c = place b ≡ Some c

-- a walked block stands in one context, a header that is its own continue target aside
abbrev pub OneContext : Type 0
OneContext = (f : Code) (t : ℕ) (c d : Context) → Walk f t c → Walk f t d → stops f t ≡ false → c ≡ d

-- a table of the first block alone is one where nothing is done
abbrev pub WalkBegins : Type 0
WalkBegins = (f : Code) (place : ℕ → Option Context) (done : ℕ → Bool) → ((b : ℕ) (c : Context) → InPlaces place b c → Walk f b c)
    → ((l : ℕ) → is_first f l ≡ true → InPlaces place l []) → ((b : ℕ) (c : Context) → InPlaces place b c → IsDone done b → ⊥) → WalkTable f (InPlaces place) (IsDone done)

-- each turn keeps it
abbrev pub WalkTurns : Type 0
WalkTurns = (f : Code) (place place2 : ℕ → Option Context) (done done2 : ℕ → Bool) (b : ℕ) → WalkTable f (InPlaces place) (IsDone done)
    → WalkTurn f (InPlaces place) (InPlaces place2) (IsDone done) (IsDone done2) b → WalkTable f (InPlaces place2) (IsDone done2)

-- and where all of it is done it is exact
abbrev pub WalkEnds : Type 0
WalkEnds = (f : Code) (place : ℕ → Option Context) (done : ℕ → Bool) → WalkTable f (InPlaces place) (IsDone done)
    → ((b : ℕ) (c : Context) → InPlaces place b c → IsDone done b) → IsWalk f (InPlaces place)

-- blocks are placed one by one: what is walked behind b is placed or is there, and so is visited; and once all that is walked directly behind b is visited,
-- the turn is done
pub record WalkBySteps (f : Code) (place place2 : ℕ → Option Context) (done done2 : ℕ → Bool) (b : ℕ) : Type 0 where
  pub begins : ((p : ℕ) (c : Context) → InPlaces place p c → Walk f p c) → ((p : ℕ) → IsDone done2 p → IsDone done p ⊎ (p ≡ b))
      → WalkMiddle f (InPlaces place) (InPlaces place) (IsDone done) (IsDone done2) b
  pub walked : (t : ℕ) (c d : Context) → Walk f b c → Steps f b c t d → Walk f t d
  pub adds : (place3 : ℕ → Option Context) (done3 : ℕ → Bool) (t : ℕ) (d : Context) → WalkMiddle f (InPlaces place) (InPlaces place2) (IsDone done) (IsDone done2) b
      → Walk f t d → WalkAdds (InPlaces place2) (InPlaces place3) (IsDone done2) (IsDone done3) t d
      → WalkMiddle f (InPlaces place) (InPlaces place3) (IsDone done) (IsDone done3) b
  pub placed : (t : ℕ) (d : Context) → InPlaces place2 t d → Visited f (InPlaces place2) t d
  pub known : (t : ℕ) (d e : Context) → Walk f t d → InPlaces place2 t e → Walk f t e → Visited f (InPlaces place2) t d
  pub stays : (t : ℕ) (d : Context) → ((p : ℕ) (c : Context) → InPlaces place p c → InPlaces place2 p c) → Visited f (InPlaces place) t d
      → Visited f (InPlaces place2) t d
  pub ends : WalkMiddle f (InPlaces place) (InPlaces place2) (IsDone done) (IsDone done2) b
      → ((t : ℕ) (c d : Context) → InPlaces place b c → Steps f b c t d → Visited f (InPlaces place2) t d)
      → WalkTurn f (InPlaces place) (InPlaces place2) (IsDone done) (IsDone done2) b

abbrev pub WalkSteps : Type 0
WalkSteps = (f : Code) (place place2 : ℕ → Option Context) (done done2 : ℕ → Bool) (b : ℕ) → WalkBySteps f place place2 done done2 b

-- the targets that are walked to, by a table of enterers, are the steps to targets
pub record TargetSteps (f : Code) (enterer : ℕ → Option ℕ) (b : ℕ) (c : Context) : Type 0 where
  pub step : (t : ℕ) → walks_to f enterer b c t ≡ true → Steps f b c t (behind (construct f b) b t c)
  pub entered : (t : ℕ) → tries f b c t ≡ true → Enters f b t → walks_to f enterer b c t ≡ true
  pub stopped : (t : ℕ) → tries f b c t ≡ true → stops f t ≡ true → walks_to f enterer b c t ≡ true

abbrev pub StepsByTable : Type 0
StepsByTable = (f : Code) (enterer : ℕ → Option ℕ) (b : ℕ) (c : Context) → AreEnterers f enterer → Walk f b c → TargetSteps f enterer b c

-- through an exact table the same is broken, and the same comes first
pub record SameBroken (is_pointer : ℕ → Bool) (f : Code) (In : ℕ → Context → Type 0) : Type 0 where
  pub finds : (rule at : ℕ) → Finds is_pointer f rule at → FindsIn is_pointer f In rule at
  pub found : (rule at : ℕ) → FindsIn is_pointer f In rule at → Finds is_pointer f rule at
  pub broken : (rule at : ℕ) → Broken is_pointer f rule at → BrokenIn is_pointer f In rule at
  pub breaks : (rule at : ℕ) → BrokenIn is_pointer f In rule at → Broken is_pointer f rule at
  pub first : (refusal : Option Refusal) → IsFirst (BrokenIn is_pointer f In) refusal → IsFirst (Broken is_pointer f) refusal

abbrev pub BrokenByTable : Type 0
BrokenByTable = (is_pointer : ℕ → Bool) (f : Code) (place : ℕ → Option Context) → IsWalk f (InPlaces place) → SameBroken is_pointer f (InPlaces place)
