-- A table of tops that is being filled.
use Rattle.std.specs.Prelude.{◌≡◌, ◌≢◌, ◌⊎◌, ℕ, ◌+◌, ◌*◌, ◌<◌, ◌≤◌, ◌==◌, Bool, true, false, not, cond, ◌&&◌, List, [], ◌∷◌, ◌++◌, length, slice_index, Option, Some, None, is_none}
use Rattle.spv_blocks.specs.Tables.{found}
use Rattle.std.specs.Option.{option_or, unwrap_or}
use Rattle.spv_blocks.specs.Blocks.{Code, branches, construct, merge_of, next_of, is_role, stops, has}
use Rattle.spv_walk.specs.Walk.{Top}
use Rattle.spv_walk.specs.Tables.{GoesAlong, InTops, is_back_by}
use Rattle.spv_entering.specs.Flow.{Flow, before}
use Rattle.spv_entering.specs.declared.filling.Filling.{Filling}
use Rattle.spv_entering.specs.declared.filling.Passed.{Passed}

-- the table so far
abbrev pub top_of : Filling → ℕ → Option ℕ
top_of s b = found s.tops b

abbrev pub passed_none : Passed
passed_none = record { count = 0; left = None }

-- how far the blocks before t were looked at
abbrev pub passed_of : Filling → (t : ℕ) → Passed
passed_of s t = unwrap_or (found s.passed t) passed_none

-- of the first blocks before t each is a back edge of t by the table, or it is the one that was left
pub record IsPassed (flow : Flow) (top : ℕ → Option ℕ) (t : ℕ) (passed : Passed) : Type 0 where
  pub each : (k : ℕ) → k < passed.count → (is_back_by flow.code top t (slice_index (before flow t) k) ≡ true) ⊎ (passed.left ≡ Some (slice_index (before flow t) k))
  pub within : passed.count ≤ length (before flow t)
  pub left : (p : ℕ) → passed.left ≡ Some p → has (before flow t) p ≡ true

-- q and the one that was left are two, and neither is a back edge
abbrev pub is_second : Code → (top : ℕ → Option ℕ) → (t : ℕ) → Option ℕ → (q : ℕ) → Bool
is_second f top t None q = false
is_second f top t (Some p) q = not (p == q) && (not (is_back_by f top t p) && not (is_back_by f top t q))

-- two blocks before t are no back edges
pub record HasTwo (flow : Flow) (top : ℕ → Option ℕ) (t : ℕ) : Type 0 where
  pub one : ℕ
  pub other : ℕ
  pub differ : one ≢ other
  pub one_before : has (before flow t) one ≡ true
  pub other_before : has (before flow t) other ≡ true
  pub one_left : is_back_by flow.code top t one ≡ false
  pub other_left : is_back_by flow.code top t other ≡ false

-- by the table b is the one block that branches to t, back edges aside
pub record IsLoneBy (f : Code) (top : ℕ → Option ℕ) (t b : ℕ) : Type 0 where
  pub branch : branches f b t ≡ true
  pub left : is_back_by f top t b ≡ false
  pub others : (q : ℕ) → branches f q t ≡ true → q ≢ b → is_back_by f top t q ≡ true

-- the one that is found, if there is one
abbrev pub FindsLone : Code → (top : ℕ → Option ℕ) → (t : ℕ) → Option ℕ → Type 0
FindsLone f top t None = (b : ℕ) → IsLoneBy f top t b → ⊥
FindsLone f top t (Some b) = IsLoneBy f top t b

-- the table is sound, and what was passed is as it says
pub record IsGoing (flow : Flow) (s : Filling) : Type 0 where
  pub sound : (h b : ℕ) → InTops (top_of s) h b → Top flow.code h b
  pub passed : (t : ℕ) → IsPassed flow (top_of s) t (passed_of s t)

-- a block gets a top and waits, unless it has one
pub record Puts (old new : Filling) (h t : ℕ) : Type 0 where
  pub top : (p : ℕ) → top_of new p ≡ option_or (top_of old p) (cond (t == p) (Some h) None)
  pub waiting : new.waiting.items ≡ cond (is_none (top_of old t)) (old.waiting.items ++ t ∷ []) old.waiting.items
  pub passed : (p : ℕ) → passed_of new p ≡ passed_of old p

-- how many blocks have no top
abbrev pub unplaced : Code → (ℕ → Option ℕ) → ℕ
unplaced [] top = 0
unplaced (b ∷ bs) top = cond (is_none (top b.label)) 1 0 + unplaced bs top

abbrev pub work : Code → Filling → ℕ
work f s = 2 * unplaced f (top_of s) + length s.waiting.items

abbrev pub Done : Filling → ℕ → Type 0
Done s p = has s.waiting.items p ≡ false

-- blocks got tops and wait
pub record Grows (flow : Flow) (old new : Filling) : Type 0 where
  pub grows : (h p : ℕ) → InTops (top_of old) h p → InTops (top_of new) h p
  pub going : IsGoing flow new
  pub waits : (h p : ℕ) → InTops (top_of new) h p → Done new p → InTops (top_of old) h p × Done old p
  pub work : work flow.code new ≤ work flow.code old

-- what a header gives to its continue target
pub record Begins (flow : Flow) (old new : Filling) (h : ℕ) : Type 0 where
  pub growing : Grows flow old new
  pub begins : (c : ℕ) → next_of (construct flow.code h) ≡ Some c → is_role flow.code h c ≡ true → InTops (top_of new) h c

-- what t gets, if a block goes along to it
pub record Looks (flow : Flow) (old new : Filling) (t : ℕ) : Type 0 where
  pub growing : Grows flow old new
  pub along : (h p : ℕ) → GoesAlong flow.code (InTops (top_of old)) h p t → InTops (top_of new) h t

-- the loop in whose continue part p goes along to t, by the table
abbrev pub AlongTo : Code → (top : ℕ → Option ℕ) → (t p : ℕ) → Option ℕ → Type 0
AlongTo f top t p None = (h : ℕ) → top p ≡ Some h → construct f p ≡ None → h ≡ t
AlongTo f top t p (Some h) = (top p ≡ Some h) × (construct f p ≡ None) × (h ≢ t)

-- what the targets of b get
pub record Goes (flow : Flow) (old new : Filling) (b : ℕ) : Type 0 where
  pub growing : Grows flow old new
  pub along : (h p t : ℕ) → branches flow.code b t ≡ true → GoesAlong flow.code (InTops (top_of old)) h p t → InTops (top_of new) h t

-- what the merge block m of b gets
pub record Passes (flow : Flow) (old new : Filling) (b m : ℕ) : Type 0 where
  pub growing : Grows flow old new
  pub past : (h : ℕ) → InTops (top_of old) h b → stops flow.code b ≡ false → is_role flow.code b m ≡ true → InTops (top_of new) h m

-- the turn of b
pub record Turns (flow : Flow) (old new : Filling) (b : ℕ) : Type 0 where
  pub growing : Grows flow old new
  pub past : (h m : ℕ) → InTops (top_of old) h b → stops flow.code b ≡ false → merge_of (construct flow.code b) ≡ Some m → is_role flow.code b m ≡ true → InTops (top_of new) h m
  pub along : (h p t : ℕ) → construct flow.code b ≡ None → branches flow.code b t ≡ true → GoesAlong flow.code (InTops (top_of old)) h p t → InTops (top_of new) h t

-- what is at the beginning
pub record Starts (flow : Flow) (s : Filling) : Type 0 where
  pub going : IsGoing flow s
  pub begins : (h c : ℕ) → next_of (construct flow.code h) ≡ Some c → is_role flow.code h c ≡ true → InTops (top_of s) h c
  pub waits : (h b : ℕ) → InTops (top_of s) h b → Done s b → ⊥
