-- What is so of all that a body shows.
use Rattle.std.proofs.Common.{◌≡◌, ℕ, true, List, [], ◌∷◌, ◌++◌}
use Rattle.std.specs.List.{All, AllByRecursion}
use Rattle.std.proofs.lemmas.List.Elements.{All-head, All-tail}
use Rattle.spv_bodies.specs.Bodies.{Body, Leaves, Finishes, Step, Enters, Splits, Selects, Switches, Loops, Arms, Last, Also}
use Rattle.spv_bodies.specs.Listing.{Branching}
use Rattle.spv_tree.specs.Sound.{AreFormed, IsFormed, is_step, opcode_in}
use Rattle.spv_editing.specs.Showing.{AStep, AUse, Shown, carried, ids_shown, operands, shown, shown_in_arms, uses, words_shown}
use Rattle.std.specs.List.{flat_map}

-- ---- lists

pub by_recursion : {X : Type 0} (P : X → Type 0) (xs : List X) → All P xs → AllByRecursion P xs
by_recursion P [] h = tt
by_recursion P (x ∷ xs) h = (All-head P x xs h, by_recursion P xs (All-tail P x xs h))

pub in_front : {X : Type 0} (P : X → Type 0) (xs ys : List X) → AllByRecursion P (xs ++ ys) → AllByRecursion P xs
in_front P [] ys h = tt
in_front P (x ∷ xs) ys h = (h.0, in_front P xs ys h.1)

pub behind : {X : Type 0} (P : X → Type 0) (xs ys : List X) → AllByRecursion P (xs ++ ys) → AllByRecursion P ys
behind P [] ys h = h
behind P (x ∷ xs) ys h = behind P xs ys h.1

pub both : {X : Type 0} (P : X → Type 0) (xs ys : List X) → AllByRecursion P xs → AllByRecursion P ys → AllByRecursion P (xs ++ ys)
both P [] ys h g = g
both P (x ∷ xs) ys h g = (h.0, both P xs ys h.1 g)

-- ---- instructions and ids

-- of an instruction, or of an id
abbrev pub Of : (OfStep : List ℕ → Type 0) (OfUse : ℕ → Type 0) → Shown → Type 0
Of OfStep OfUse (AStep words) = OfStep words
Of OfStep OfUse (AUse id) = OfUse id

module _ (OfStep : List ℕ → Type 0) (OfUse : ℕ → Type 0) where
  -- told of the instructions and of the ids apart; by recursion on what is shown
  pub of_both : (all : List Shown) → AllByRecursion OfStep (flat_map words_shown all) → AllByRecursion OfUse (flat_map ids_shown all)
      → AllByRecursion (Of OfStep OfUse) all
  of_both [] h g = tt
  of_both (AStep words ∷ all) h g = (h.0, of_both all h.1 g)
  of_both (AUse id ∷ all) h g = (g.0, of_both all h g.1)

pub of_each : (K : Shown → Type 0) → ((s : Shown) → K s) → (all : List Shown) → AllByRecursion K all
of_each K h [] = tt
of_each K h (s ∷ all) = (h s, of_each K h all)

-- and in pairs
pub and_also : {X : Type 0} (P Q : X → Type 0) (xs : List X) → AllByRecursion P xs → AllByRecursion Q xs → AllByRecursion (λ x. P x × Q x) xs
and_also P Q [] h g = tt
and_also P Q (x ∷ xs) h g = ((h.0, g.0), and_also P Q xs h.1 g.1)

-- ---- steps

abbrev AreSteps : List (List ℕ) → Type 0
AreSteps lines = AllByRecursion (λ words. is_step (opcode_in words) ≡ true) lines

abbrev words_in : List Shown → List (List ℕ)
words_in all = flat_map words_shown all

no_words : (ids : List ℕ) → AreSteps (words_in (uses ids))
no_words [] = tt
no_words (id ∷ ids) = no_words ids

steps_both : (xs ys : List Shown) → AreSteps (words_in xs) → AreSteps (words_in ys) → AreSteps (words_in (xs ++ ys))
steps_both [] ys h g = g
steps_both (AStep words ∷ xs) ys h g = (h.0, steps_both xs ys h.1 g)
steps_both (AUse id ∷ xs) ys h g = steps_both xs ys h g

-- the Steps of a sound body are steps; by recursion on the body
mutual
  pub are_steps : (all : List Branching) (b : Body) → IsFormed all b → AreSteps (words_in (shown b))
  are_steps all (Leaves exit) h = no_words exit.values
  are_steps all (Finishes words) h = no_words (operands words)
  are_steps all (Step words body) h = (h.0, are_steps all body h.1)
  are_steps all (Enters label body) h = are_steps all body h
  are_steps all (Splits condition on exit body) h =
      steps_both (uses exit.values) (shown body) (no_words exit.values) (are_steps all body h.1)
  are_steps all (Selects control condition first second merge rest) h =
      steps_both (shown first) (shown second ++ shown rest) (are_steps all first h.3)
      (steps_both (shown second) (shown rest) (are_steps all second h.4) (are_steps all rest h.5))
  are_steps all (Switches control selector cases arms merge rest) h =
      steps_both (shown_in_arms arms) (shown rest) (arms_are_steps all arms h.2) (are_steps all rest h.3)
  are_steps all (Loops entry header control inner next continuing merge rest) h =
      steps_both (uses (carried entry)) (shown inner ++ (shown continuing ++ shown rest)) (no_words (carried entry))
      (steps_both (shown inner) (shown continuing ++ shown rest) (are_steps all inner h.4)
      (steps_both (shown continuing) (shown rest) (are_steps all continuing h.5) (are_steps all rest h.6)))

  arms_are_steps : (all : List Branching) (arms : Arms) → AreFormed all arms → AreSteps (words_in (shown_in_arms arms))
  arms_are_steps all (Last arm) h = are_steps all arm h.1
  arms_are_steps all (Also arm arms) h =
      steps_both (shown arm) (shown_in_arms arms) (are_steps all arm h.1) (arms_are_steps all arms h.2)
