-- Edits of fine trees: what is available behind the edit, told by what was available before it.
use Rattle.std.specs.Prelude.{◌≡◌, ◌⊎◌, ℕ, true, List, [], ◌∷◌, ◌++◌}
use Rattle.std.specs.List.{AllByRecursion, flat_map}
use Rattle.spv_blocks.specs.Blocks.{has}
use Rattle.spv_bodies.specs.Bodies.{Front, Body, Leaves, Finishes, Step, Enters, Splits, Selects, Switches, Loops, Arms, Last, Also, Function}
use Rattle.spv_editing.specs.Editing.{Edit}
use Rattle.spv_editing.specs.Showing.{Shown, AStep, AUse, shown}
use Rattle.spv_fine.specs.Fine.{AtFront, Headed, Ids, With, defined_in, results, used_in}

-- ---- lines in a row

-- each uses what is available where it stands
abbrev pub Follow : Ids → List (List ℕ) → Type 0
Follow E [] = Unit {0}
Follow E (line ∷ lines) = AllByRecursion E (used_in line) × Follow (With E (defined_in line)) lines

-- what is available behind them
abbrev pub behind : Ids → List (List ℕ) → Ids
behind E [] = E
behind E (line ∷ lines) = behind (With E (defined_in line)) lines

-- ---- fronts

-- those of a body's loops, selections and switches
abbrev mutual
  pub fronts_of : Body → List Front
  fronts_of (Leaves exit) = []
  fronts_of (Finishes words) = []
  fronts_of (Step words body) = fronts_of body
  fronts_of (Enters label body) = fronts_of body
  fronts_of (Splits condition on exit body) = fronts_of body
  fronts_of (Selects control condition first second merge rest) = merge ∷ (fronts_of first ++ (fronts_of second ++ fronts_of rest))
  fronts_of (Switches control selector cases arms merge rest) = merge ∷ (fronts_in_arms arms ++ fronts_of rest)
  fronts_of (Loops entry header control inner next continuing merge rest) =
      header ∷ next ∷ merge ∷ (fronts_of inner ++ (fronts_of continuing ++ fronts_of rest))

  pub fronts_in_arms : Arms → List Front
  fronts_in_arms (Last arm) = fronts_of arm
  fronts_in_arms (Also arm arms) = fronts_of arm ++ fronts_in_arms arms

-- ---- what is available where an id is defined

-- `wants id` are ids that are to be available where a step or the front of a block defines the id. At a step there are these, and those that it uses.
abbrev pub there : (wants : (id : ℕ) → List ℕ) → List ℕ → List ℕ
there wants words = used_in words ++ flat_map wants (defined_in words)

module _ (P : (label id : ℕ) → Type 0) (wants : (id : ℕ) → List ℕ) where
  abbrev pub Offered : Ids → List ℕ → Type 0
  Offered E ids = AllByRecursion E (flat_map wants ids)

  -- at a merge block or continue target, of a construct where E is available
  abbrev pub OfferedAt : Ids → Front → Type 0
  OfferedAt E front = Offered (λ id. E id ⊎ P front.label id) (results front)

  -- they are so at each step and front from a point on where E is available
  abbrev mutual
    pub Offers : (E : Ids) → Body → Type 0
    Offers E (Leaves exit) = Unit {0}
    Offers E (Finishes words) = Unit {0}
    Offers E (Step words body) = Offered E (defined_in words) × Offers (With E (defined_in words)) body
    Offers E (Enters label body) = Offers E body
    Offers E (Splits condition on exit body) = Offers E body
    Offers E (Selects control condition first second merge rest) =
        Offers E first × Offers E second × OfferedAt E merge × Offers (AtFront P E merge) rest
    Offers E (Switches control selector cases arms merge rest) = ArmsOffer E arms × OfferedAt E merge × Offers (AtFront P E merge) rest
    Offers E (Loops entry header control inner next continuing merge rest) =
        Offered E (results header) × Offers (Headed E header) inner × OfferedAt (Headed E header) next × Offers (AtFront P (Headed E header) next) continuing
        × OfferedAt (Headed E header) merge × Offers (AtFront P (Headed E header) merge) rest

    pub ArmsOffer : (E : Ids) → Arms → Type 0
    ArmsOffer E (Last arm) = Offers E arm
    ArmsOffer E (Also arm arms) = Offers E arm × ArmsOffer E arms

-- ---- edits

-- what a function uses before its first block is known
abbrev pub Begins : (Known : Ids) → Function → Type 0
Begins Known f = AllByRecursion Known (used_in f.function) × AllByRecursion (λ words. AllByRecursion Known (used_in words)) f.parameters

-- An edit, with what is known everywhere and what is promised before it and behind it. `Gives x y` says that behind it y is available wherever x was before.
pub record Giving : Type 1 where
  pub edit : Edit
  pub Known : Ids
  pub Promised : (label id : ℕ) → Type 0
  pub KnownBehind : Ids
  pub PromisedBehind : (label id : ℕ) → Type 0
  pub Gives : (x y : ℕ) → Type 0
  pub wants : (id : ℕ) → List ℕ

module _ (w : Giving) where
  -- what is available behind the edit where these ids were before it
  abbrev pub Given : List ℕ → Ids
  Given ids y = w.KnownBehind y ⊎ ((x : ℕ) × (has ids x ≡ true) × w.Gives x y)

  -- the lines for a step use what is given there, and define what its result gives
  pub record StepFits (words : List ℕ) : Type 0 where
    pub uses : Follow (Given (there w.wants words)) (w.edit.steps words)
    pub defines :
        (x y : ℕ) → has (defined_in words) x ≡ true → w.Gives x y
        → behind (Given (there w.wants words)) (w.edit.steps words) y

  abbrev pub Fits : Shown → Type 0
  Fits (AStep words) = StepFits words
  Fits (AUse id) = w.KnownBehind (w.edit.uses id) ⊎ w.Gives id (w.edit.uses id)

  -- what a parameter gives is a parameter, or given there
  abbrev pub FrontFits : Front → Type 0
  FrontFits front = (x y : ℕ) → has (results front) x ≡ true → w.Gives x y → With (Given (flat_map w.wants (results front))) (results front) y

  -- what known ids and promised ones give is known or promised, and nothing else is promised
  pub record IsGiving : Type 0 where
    pub known : (x y : ℕ) → w.Known x → w.Gives x y → w.KnownBehind y
    pub given : (label x y : ℕ) → w.Promised label x → w.Gives x y → w.KnownBehind y ⊎ w.PromisedBehind label y
    pub promised : (label y : ℕ) → w.PromisedBehind label y → w.KnownBehind y ⊎ ((x : ℕ) × w.Promised label x × w.Gives x y)

  -- all this in a function
  pub record FitsFunction (f : Function) : Type 0 where
    pub begins : Begins w.KnownBehind f
    pub giving : IsGiving
    pub parameters :
        (x y : ℕ) → has (flat_map defined_in f.parameters) x ≡ true → w.Gives x y → With w.KnownBehind (flat_map defined_in f.parameters) y
    pub fronts : AllByRecursion FrontFits (fronts_of f.body)
    pub body : AllByRecursion Fits (shown f.body)
    pub offers : Offers w.Promised w.wants (With w.Known (flat_map defined_in f.parameters)) f.body
