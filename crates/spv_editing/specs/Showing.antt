-- What a body has, in the order of its tree: instructions that are Steps, and ids that are used elsewhere.
use Rattle.std.specs.Prelude.{ℕ, List, [], ◌∷◌, ◌++◌, map}
use Rattle.std.specs.List.{flat_map}
use Rattle.spv_bodies.specs.Bodies.{Entry, ByBranch, InPlace, Body, Leaves, Finishes, Step, Enters, Splits, Selects, Switches, Loops, Arms, Last, Also}
use Rattle.spv_editing.specs.Editing.{Edit}

pub data Shown : Type 0 where
  -- the words of an instruction
  AStep : (words : List ℕ) → Shown
  -- a value of a branch, a condition, a selector or a returned value
  AUse : (id : ℕ) → Shown

abbrev pub uses : List ℕ → List Shown
uses ids = map AUse ids

abbrev pub operands : List ℕ → List ℕ
operands [] = []
operands (head ∷ ids) = ids

-- the values of the branch to a loop
abbrev pub carried : Entry → List ℕ
carried (ByBranch values) = values
carried InPlace = []

abbrev mutual
  pub shown : Body → List Shown
  shown (Leaves exit) = uses exit.values
  shown (Finishes words) = uses (operands words)
  shown (Step words body) = AStep words ∷ shown body
  shown (Enters label body) = shown body
  shown (Splits condition on exit body) = AUse condition ∷ (uses exit.values ++ shown body)
  shown (Selects control condition first second merge rest) = AUse condition ∷ (shown first ++ (shown second ++ shown rest))
  shown (Switches control selector cases arms merge rest) = AUse selector ∷ (shown_in_arms arms ++ shown rest)
  shown (Loops entry header control inner next continuing merge rest) =
      uses (carried entry) ++ (shown inner ++ (shown continuing ++ shown rest))

  pub shown_in_arms : Arms → List Shown
  shown_in_arms (Last arm) = shown arm
  shown_in_arms (Also arm arms) = shown arm ++ shown_in_arms arms

-- ---- instructions and ids apart

abbrev pub words_shown : Shown → List (List ℕ)
words_shown (AStep words) = words ∷ []
words_shown (AUse id) = []

abbrev pub ids_shown : Shown → List ℕ
ids_shown (AStep words) = []
ids_shown (AUse id) = id ∷ []

-- the words of each Step
abbrev pub steps_of : Body → List (List ℕ)
steps_of body = flat_map words_shown (shown body)

-- the ids that are used elsewhere
abbrev pub uses_of : Body → List ℕ
uses_of body = flat_map ids_shown (shown body)

-- what stands for what was shown
abbrev pub edited_shown : Edit → Shown → List Shown
edited_shown e (AStep words) = map AStep (e.steps words)
edited_shown e (AUse id) = AUse (e.uses id) ∷ []

-- ---- what a visitor was shown

-- one that had been shown some things, one after the other, has now been shown these besides; `has_seen` says what it was shown
abbrev pub IsShown : {V : Type 0} → (has_seen : V → List Shown → Type 0) → List Shown → (old new : V) → Type 0
IsShown has_seen more old new = (before : List Shown) → has_seen old before → has_seen new (before ++ more)
