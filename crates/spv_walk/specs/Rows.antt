-- Contexts kept in one list of rows, each with the place of the context outside it; and what is read of a context in constant time.
use Rattle.std.specs.Prelude.{◌≡◌, ◌≢◌, ℕ, ◌+◌, Bool, true, false, ◌&&◌, ◌||◌, ◌==◌, List, [], ◌∷◌, ◌++◌, length, slice_get, Option, Some, None}
use Rattle.spv_blocks.specs.Blocks.{End}
use Rattle.spv_walk.specs.Contexts.{Level, InSelection, InArm, InBody, InNext, Context, leaves_loop, leaves_switch, leaves_inner, is_back_pair, is_exit, in_next}
use Rattle.spv_walk.specs.Tables.{IsDone}
use Rattle.spv_walk.specs.Walked.{WalkAdds}

pub record Row : Type 0 where
  pub outer : ℕ
  pub level : Level

-- the place 0 is outside all constructs, and the place k + 1 is in the row k
pub data IsContext (rows : List Row) : (place : ℕ) → Context → Type 0 where
  Outside : IsContext rows 0 []
  Within : (place k : ℕ) (row : Row) (c : Context) → place ≡ k + 1 → slice_get rows k ≡ Some row → IsContext rows row.outer c → IsContext rows place (row.level ∷ c)

-- blocks with their places
abbrev pub InRows : List Row → (place : ℕ → Option ℕ) → ℕ → Context → Type 0
InRows rows place b c = (k : ℕ) × (place b ≡ Some k) × IsContext rows k c

-- each place that a block has is one of a context
abbrev pub AreContexts : List Row → (place : ℕ → Option ℕ) → Type 0
AreContexts rows place = (b k : ℕ) → place b ≡ Some k → (c : Context) × IsContext rows k c

-- a block that has no place gets one, of the rows or of those that are added
pub record PlaceAdded (rows more : List Row) (place place2 : ℕ → Option ℕ) (t k : ℕ) (d : Context) : Type 0 where
  pub free : place t ≡ None
  pub has : place2 t ≡ Some k
  pub context : IsContext (rows ++ more) k d
  pub others : (p : ℕ) → p ≢ t → place2 p ≡ place p

-- what a context lets a branch leave, beside its innermost construct: the merge block and continue target of the innermost loop, where the place is in
-- its body, and the merge block of the innermost switch, where no loop lies between; and whether it is in a continue part
pub record Seen : Type 0 where
  pub merge : Option ℕ
  pub next : Option ℕ
  pub switch : Option ℕ
  pub in_next : Bool

abbrev pub seen_outside : Seen
seen_outside = record { merge = None; next = None; switch = None; in_next = false }

-- of one more construct, from what is seen outside it
abbrev pub seen_within : Level → Seen → Seen
seen_within (InSelection m) s = s
seen_within (InArm h m a) s = record s { switch = Some m }
seen_within (InBody h m n) s = record { merge = Some m; next = Some n; switch = None; in_next = s.in_next }
seen_within (InNext h m) s = record { merge = None; next = None; switch = None; in_next = true }

abbrev pub seen : Context → Seen
seen [] = seen_outside
seen (level ∷ c) = seen_within level (seen c)

-- t is this label
abbrev pub is_that : Option ℕ → (t : ℕ) → Bool
is_that None t = false
is_that (Some m) t = t == m

-- t is left to from the innermost construct
abbrev pub leaves_level : Option Level → End → (t : ℕ) → Bool
leaves_level None e t = false
leaves_level (Some (InSelection m)) e t = t == m
leaves_level (Some (InArm h m a)) e t = t == m
leaves_level (Some (InBody h m n)) e t = false
leaves_level (Some (InNext h m)) e t = t == h || (t == m && is_back_pair h m e)

abbrev pub innermost : Context → Option Level
innermost [] = None
innermost (level ∷ c) = Some level

-- t is an exit, by the innermost construct and what is seen
abbrev pub is_exit_by : Option Level → Seen → End → (t : ℕ) → Bool
is_exit_by level s e t = leaves_level level e t || is_that s.switch t || (is_that s.merge t || is_that s.next t)

-- ---- the laws

-- a context stays so when rows are added
abbrev pub ContextStays : Type 0
ContextStays = (rows more : List Row) (place : ℕ) (c : Context) → IsContext rows place c → IsContext (rows ++ more) place c

-- a place has one context
abbrev pub OneContextOfRow : Type 0
OneContextOfRow = (rows : List Row) (place : ℕ) (c d : Context) → IsContext rows place c → IsContext rows place d → c ≡ d

-- a row that is added has the context of one more construct
abbrev pub ContextAdded : Type 0
ContextAdded = (rows : List Row) (row : Row) (c : Context) → IsContext rows row.outer c → IsContext (rows ++ row ∷ []) (length rows + 1) (row.level ∷ c)

-- what is seen tells of a context what is asked of it
pub record SeenTells (c : Context) : Type 0 where
  pub loop : (t : ℕ) → leaves_loop c t ≡ (is_that (seen c).merge t || is_that (seen c).next t)
  pub switch : (t : ℕ) → leaves_switch c t ≡ is_that (seen c).switch t
  pub next : in_next c ≡ (seen c).in_next
  pub inner : (e : End) (t : ℕ) → leaves_inner c e t ≡ leaves_level (innermost c) e t
  pub exit : (e : End) (t : ℕ) → is_exit c e t ≡ is_exit_by (innermost c) (seen c) e t

abbrev pub SeenIsEnough : Type 0
SeenIsEnough = (c : Context) → SeenTells c

-- a block that gets a place is added to the table of walked blocks
pub record RowAdds (rows more : List Row) (place place2 : ℕ → Option ℕ) (done done2 : ℕ → Bool) (t : ℕ) (d : Context) : Type 0 where
  pub adds : WalkAdds (InRows rows place) (InRows (rows ++ more) place2) (IsDone done) (IsDone done2) t d
  pub contexts : AreContexts (rows ++ more) place2

abbrev pub RowAdded : Type 0
RowAdded = (rows more : List Row) (place place2 : ℕ → Option ℕ) (done done2 : ℕ → Bool) (t k : ℕ) (d : Context) → AreContexts rows place
    → PlaceAdded rows more place place2 t k d → ((p : ℕ) → IsDone done2 p → IsDone done p) → (IsDone done2 t → ⊥) → RowAdds rows more place place2 done done2 t d
