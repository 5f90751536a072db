-- Instructions before a body.
use Rattle.std.proofs.Common.{◌≡◌, ℕ, List, [], ◌∷◌, ◌++◌, map, refl, sym, ap, ◌∙◌}
use Rattle.std.specs.List.{flat_map}
use Rattle.spv_bodies.specs.Bodies.{Body, Step, depth}
use Rattle.spv_bodies.specs.Listing.{branches}
use Rattle.spv_tree.specs.Sound.{entered, fronts, opens}
use Rattle.spv_editing.specs.Editing.{Edit, edited, steps_before}
use Rattle.spv_editing.specs.Showing.{Shown, AStep, shown}

-- ---- by induction on the instructions

pub before-append : (first second : List (List ℕ)) (b : Body) → steps_before (first ++ second) b ≡ steps_before first (steps_before second b)
before-append [] second b = refl
before-append (words ∷ first) second b = ap (Step words) (before-append first second b)

pub edited-before : (e : Edit) (lines : List (List ℕ)) (b : Body) → edited e (steps_before lines b) ≡ steps_before (flat_map e.steps lines) (edited e b)
edited-before e [] b = refl
edited-before e (words ∷ lines) b =
    ap (steps_before (e.steps words)) (edited-before e lines b) ∙ sym (before-append (e.steps words) (flat_map e.steps lines) (edited e b))

pub depth-before : (lines : List (List ℕ)) (b : Body) → depth (steps_before lines b) ≡ depth b
depth-before [] b = refl
depth-before (words ∷ lines) b = depth-before lines b

pub entered-before : (lines : List (List ℕ)) (b : Body) → entered (steps_before lines b) ≡ entered b
entered-before [] b = refl
entered-before (words ∷ lines) b = entered-before lines b

pub fronts-before : (lines : List (List ℕ)) (b : Body) → fronts (steps_before lines b) ≡ fronts b
fronts-before [] b = refl
fronts-before (words ∷ lines) b = fronts-before lines b

pub branches-before : (block : ℕ) (lines : List (List ℕ)) (b : Body) → branches block (steps_before lines b) ≡ branches block b
branches-before block [] b = refl
branches-before block (words ∷ lines) b = branches-before block lines b

pub opens-before : (lines : List (List ℕ)) (b : Body) → opens (steps_before lines b) ≡ opens b
opens-before [] b = refl
opens-before (words ∷ lines) b = opens-before lines b

pub shown-before : (lines : List (List ℕ)) (b : Body) → shown (steps_before lines b) ≡ map AStep lines ++ shown b
shown-before [] b = refl
shown-before (words ∷ lines) b = ap (λ (z : List Shown). AStep words ∷ z) (shown-before lines b)
