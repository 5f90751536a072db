-- What is shown of an edited body, by induction on the tree.
use Rattle.std.proofs.Common.{◌≡◌, ℕ, List, [], ◌∷◌, ◌++◌, map, refl, sym, ap, ◌∙◌}
use Rattle.std.specs.List.{flat_map}
use Rattle.std.proofs.lemmas.Grind.{flat_map-append}
use Rattle.spv_bodies.specs.Bodies.{Entry, ByBranch, InPlace, Body, Leaves, Finishes, Step, Enters, Splits, Selects, Switches, Loops, Arms, Last, Also}
use Rattle.spv_editing.specs.Editing.{Edit, edited, edited_arms, edited_end, edited_entry}
use Rattle.spv_editing.specs.Showing.{Shown, AStep, AUse, carried, edited_shown, ids_shown, operands, shown, shown_in_arms, steps_of, uses, uses_of, words_shown}
use Rattle.spv_editing.proofs.Steps.{shown-before}

module _ (e : Edit) where
  -- what stands for all that was shown
  abbrev for : List Shown → List Shown
  for found = flat_map (edited_shown e) found

  uses-kept : (ids : List ℕ) → uses (map e.uses ids) ≡ for (uses ids)
  uses-kept [] = refl
  uses-kept (id ∷ ids) = ap (λ (z : List Shown). AUse (e.uses id) ∷ z) (uses-kept ids)

  operands-kept : (words : List ℕ) → operands (edited_end e words) ≡ map e.uses (operands words)
  operands-kept [] = refl
  operands-kept (head ∷ ids) = refl

  carried-kept : (entry : Entry) → carried (edited_entry e entry) ≡ map e.uses (carried entry)
  carried-kept (ByBranch values) = refl
  carried-kept InPlace = refl

  two : (a b : List Shown) → for a ++ for b ≡ for (a ++ b)
  two a b = sym (flat_map-append (edited_shown e) a b)

  three : (a b c : List Shown) → for a ++ (for b ++ for c) ≡ for (a ++ (b ++ c))
  three a b c = ap (λ (z : List Shown). for a ++ z) (two b c) ∙ two a (b ++ c)

  four : (a b c d : List Shown) → for a ++ (for b ++ (for c ++ for d)) ≡ for (a ++ (b ++ (c ++ d)))
  four a b c d = ap (λ (z : List Shown). for a ++ z) (three b c d) ∙ two a (b ++ (c ++ d))

  mutual
    pub shown-kept : (b : Body) → shown (edited e b) ≡ for (shown b)
    shown-kept (Leaves exit) = uses-kept exit.values
    shown-kept (Finishes words) = ap uses (operands-kept words) ∙ uses-kept (operands words)
    shown-kept (Step words body) = shown-before (e.steps words) (edited e body) ∙ ap (λ (z : List Shown). map AStep (e.steps words) ++ z) (shown-kept body)
    shown-kept (Enters label body) = shown-kept body
    shown-kept (Splits condition on exit body) =
        ap (λ (z : List Shown). AUse (e.uses condition) ∷ z) ((λ i. uses-kept exit.values i ++ shown-kept body i) ∙ two (uses exit.values) (shown body))
    shown-kept (Selects control condition first second merge rest) =
        ap (λ (z : List Shown). AUse (e.uses condition) ∷ z)
        ((λ i. shown-kept first i ++ (shown-kept second i ++ shown-kept rest i)) ∙ three (shown first) (shown second) (shown rest))
    shown-kept (Switches control selector cases arms merge rest) =
        ap (λ (z : List Shown). AUse (e.uses selector) ∷ z) ((λ i. arms-shown-kept arms i ++ shown-kept rest i) ∙ two (shown_in_arms arms) (shown rest))
    shown-kept (Loops entry header control inner next continuing merge rest) =
        (λ i. (ap uses (carried-kept entry) ∙ uses-kept (carried entry)) i ++ (shown-kept inner i ++ (shown-kept continuing i ++ shown-kept rest i)))
        ∙ four (uses (carried entry)) (shown inner) (shown continuing) (shown rest)

    arms-shown-kept : (arms : Arms) → shown_in_arms (edited_arms e arms) ≡ for (shown_in_arms arms)
    arms-shown-kept (Last arm) = shown-kept arm
    arms-shown-kept (Also arm arms) = (λ i. shown-kept arm i ++ arms-shown-kept arms i) ∙ two (shown arm) (shown_in_arms arms)

  -- ---- instructions and ids apart

  words-again : (lines : List (List ℕ)) → flat_map words_shown (map AStep lines) ≡ lines
  words-again [] = refl
  words-again (words ∷ lines) = ap (λ (z : List (List ℕ)). words ∷ z) (words-again lines)

  no-ids : (lines : List (List ℕ)) → flat_map ids_shown (map AStep lines) ≡ []
  no-ids [] = refl
  no-ids (words ∷ lines) = no-ids lines

  words-for : (found : List Shown) → flat_map words_shown (for found) ≡ flat_map e.steps (flat_map words_shown found)
  words-for [] = refl
  words-for (AStep words ∷ found) =
      flat_map-append words_shown (map AStep (e.steps words)) (for found) ∙ (λ i. words-again (e.steps words) i ++ words-for found i)
  words-for (AUse id ∷ found) = words-for found

  ids-for : (found : List Shown) → flat_map ids_shown (for found) ≡ map e.uses (flat_map ids_shown found)
  ids-for [] = refl
  ids-for (AStep words ∷ found) =
      flat_map-append ids_shown (map AStep (e.steps words)) (for found) ∙ (λ i. no-ids (e.steps words) i ++ ids-for found i)
  ids-for (AUse id ∷ found) = ap (λ (z : List ℕ). e.uses id ∷ z) (ids-for found)

  pub steps-kept : (b : Body) → steps_of (edited e b) ≡ flat_map e.steps (steps_of b)
  steps-kept b = ap (flat_map words_shown) (shown-kept b) ∙ words-for (shown b)

  pub uses-of-kept : (b : Body) → uses_of (edited e b) ≡ map e.uses (uses_of b)
  uses-of-kept b = ap (flat_map ids_shown) (shown-kept b) ∙ ids-for (shown b)
