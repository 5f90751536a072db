-- Edits that keep a fine function so: laws, as statements.
use Rattle.std.specs.Prelude.{◌≡◌, ◌⊎◌, ℕ, Bool, true, false, ◌&&◌, ◌||◌, not, List, [], ◌∷◌}
use Rattle.std.specs.List.{AllByRecursion, flat_map}
use Rattle.spv_blocks.specs.Blocks.{has}
use Rattle.spv_bodies.specs.Bodies.{Function}
use Rattle.spv_tree.specs.Sound.{IsSound}
use Rattle.spv_editing.specs.Editing.{Edit, edited_function}
use Rattle.spv_editing.specs.Showing.{Shown, AStep, AUse, shown}
use Rattle.spv_fine.specs.Fine.{Ids, IsFine, With, defined_in, results, used_in}
use Rattle.spv_fine.specs.Laws.{Told}
use Rattle.spv_fine_edits.specs.Giving.{Begins, FitsFunction, Giving, Offers, fronts_of, there}

-- what is known everywhere, and what is promised at labels; and what is known behind an edit
pub record Availability : Type 1 where
  pub Known : Ids
  pub Promised : (label id : ℕ) → Type 0
  pub KnownBehind : Ids

-- where what an edit puts fits what is given, a fine function stays so
abbrev pub FineWhereGiven : Giving → Type 0
FineWhereGiven w =
    (f : Function) → IsSound f → FitsFunction w f → IsFine w.Known w.Promised f → IsFine w.KnownBehind w.PromisedBehind (edited_function w.edit f)

-- ---- instructions that are dropped

-- A step stays as it is, or it is dropped and its result is gone; what is used by one that stays, or elsewhere, stays and is not gone.
abbrev pub StaysOrGoes : (gone : ℕ → Bool) → Edit → Shown → Type 0
StaysOrGoes gone e (AStep words) =
    ((e.steps words ≡ words ∷ []) × AllByRecursion (λ id. gone id ≡ false) (used_in words))
    ⊎ ((e.steps words ≡ []) × AllByRecursion (λ id. gone id ≡ true) (defined_in words))
StaysOrGoes gone e (AUse id) = (e.uses id ≡ id) × (gone id ≡ false)

-- so it is in a function, and what was known and is not gone is known
pub record DropsIn (gone : ℕ → Bool) (e : Edit) (Known KnownBehind : Ids) (f : Function) : Type 0 where
  pub known : (id : ℕ) → Known id → gone id ≡ false → KnownBehind id
  pub begins : Begins KnownBehind f
  pub body : AllByRecursion (StaysOrGoes gone e) (shown f.body)

-- a fine function stays so; what was promised is so but for what is gone
abbrev pub FineWhereDropped : Availability → Type 0
FineWhereDropped a =
    (e : Edit) (gone : ℕ → Bool) (f : Function) → IsSound f → DropsIn gone e a.Known a.KnownBehind f → IsFine a.Known a.Promised f
    → IsFine a.KnownBehind (λ label id. a.Promised label id × (gone id ≡ false)) (edited_function e f)

-- ---- uses that are replaced

-- An edit; `gone` tells which ids are no longer available behind it, and `wants id` are ids that are available where a step or the front of a block defines
-- the id.
pub record Replacing : Type 0 where
  pub edit : Edit
  pub gone : (id : ℕ) → Bool
  pub wants : (id : ℕ) → List ℕ

module _ (r : Replacing) where
  -- behind the edit, of some ids: those ids and what is put for them, but for what is gone
  abbrev pub Put : Ids → Ids
  Put A y = (r.gone y ≡ false) × ((x : ℕ) × A x × ((y ≡ x) ⊎ (y ≡ r.edit.uses x)))

  abbrev pub PutForOne : (ids : List ℕ) → Ids
  PutForOne ids = Put (λ x. has ids x ≡ true)

  module _ (KnownBehind : Ids) where
    -- what is put for x is x itself, or known, or comes from one of these ids
    abbrev pub ComesFrom : (ids : List ℕ) → Ids
    ComesFrom ids x = (r.edit.uses x ≡ x) ⊎ (KnownBehind (r.edit.uses x) ⊎ PutForOne ids (r.edit.uses x))

    -- a step becomes one line, which defines the same, and uses what is known and what is put for what is there
    pub record BecomesLine (words : List ℕ) : Type 0 where
      pub line : List ℕ
      pub is : r.edit.steps words ≡ line ∷ []
      pub defines : defined_in line ≡ defined_in words
      pub uses : AllByRecursion (λ y. KnownBehind y ⊎ PutForOne (there r.wants words) y) (used_in line)

    -- or it is dropped
    pub record IsDropped (words : List ℕ) : Type 0 where
      pub is : r.edit.steps words ≡ []
      pub gone : AllByRecursion (λ x. r.gone x ≡ true) (defined_in words)

    -- in both cases what is put for its result comes from what is there
    abbrev pub Puts : Shown → Type 0
    Puts (AStep words) = (BecomesLine words ⊎ IsDropped words) × AllByRecursion (ComesFrom (there r.wants words)) (defined_in words)
    Puts (AUse id) = KnownBehind (r.edit.uses id) ⊎ (r.gone (r.edit.uses id) ≡ false)

    -- So it is in a function. What is put for known ids is known; what is put for parameters comes from what they want.
    pub record PutsIn (Known : Ids) (f : Function) : Type 0 where
      pub known : (y : ℕ) → Put Known y → KnownBehind y
      pub begins : Begins KnownBehind f
      pub parameters : AllByRecursion (ComesFrom []) (flat_map defined_in f.parameters)
      pub fronts : AllByRecursion (λ front. AllByRecursion (ComesFrom (flat_map r.wants (results front))) (results front)) (fronts_of f.body)
      pub body : AllByRecursion Puts (shown f.body)

-- where what is wanted is available, a fine function stays so; promised is what is put for what was
abbrev pub FineWhereReplaced : Availability → Type 0
FineWhereReplaced a =
    (r : Replacing) (f : Function) → IsSound f → PutsIn r a.KnownBehind a.Known f
    → Offers a.Promised r.wants (With a.Known (flat_map defined_in f.parameters)) f.body → IsFine a.Known a.Promised f
    → IsFine a.KnownBehind (λ label. Put r (a.Promised label)) (edited_function r.edit f)

-- where nothing is gone and nothing is wanted: what is put for a result comes from what the step uses
abbrev pub nothing : (id : ℕ) → List ℕ
nothing id = []

abbrev pub replacing_only : Edit → Replacing
replacing_only e = record { edit = e; gone = λ id. false; wants = nothing }

abbrev pub FineWhereUsed : Availability → Type 0
FineWhereUsed a =
    (e : Edit) (f : Function) → IsSound f → PutsIn (replacing_only e) a.KnownBehind a.Known f → IsFine a.Known a.Promised f
    → IsFine a.KnownBehind (λ label. Put (replacing_only e) (a.Promised label)) (edited_function e f)

-- ---- where tests tell what is known and what is promised

-- they tell it behind the edit too
abbrev pub DroppedByTests : Type 0
DroppedByTests =
    (known known_behind : ℕ → Bool) (promised : ℕ → ℕ → Bool) (e : Edit) (gone : ℕ → Bool) (f : Function) → IsSound f
    → DropsIn gone e (Told known) (Told known_behind) f → IsFine (Told known) (λ label. Told (promised label)) f
    → IsFine (Told known_behind) (λ label. Told (λ id. promised label id && not (gone id))) (edited_function e f)

-- and so they do where what is put for what is promised is so already, or known
abbrev pub ReplacedByTests : Type 0
ReplacedByTests =
    (known known_behind : ℕ → Bool) (promised : ℕ → ℕ → Bool) (r : Replacing) (f : Function) → IsSound f → PutsIn r (Told known_behind) (Told known) f
    → Offers (λ label. Told (promised label)) r.wants (With (Told known) (flat_map defined_in f.parameters)) f.body
    → ((label id : ℕ) → promised label id ≡ true → (known_behind (r.edit.uses id) || promised label (r.edit.uses id)) ≡ true)
    → IsFine (Told known) (λ label. Told (promised label)) f
    → IsFine (Told known_behind) (λ label. Told (λ id. promised label id && not (r.gone id))) (edited_function r.edit f)
