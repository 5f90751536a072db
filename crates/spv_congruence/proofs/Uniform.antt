-- A body has the shape of its edited one: by recursion on it.
use Rattle.std.proofs.Common.{◌≡◌, inl, inr, ℕ, ◌==◌, Bool, true, false, List, [], ◌∷◌, map, Option, Some, None, refl, ap, subst}
use Rattle.std.proofs.lemmas.Bool.{eq-eqb}
use Rattle.spv_bodies.specs.Bodies.{Exit, Front, ByBranch, InPlace, Arms, Last, Also, Function, target, begins_at_branch}
use Rattle.spv_bodies.specs.Bodies.{Body, Leaves, Finishes, Step, Enters, Splits, Selects, Switches, Loops}
use Rattle.spv_bodies.specs.Listing.{first_target}
use Rattle.spv_trees.specs.Standing.{OneOf, IsClosed, AreClosed}
use Rattle.spv_congruence.specs.Shape as shape
use Rattle.spv_congruence.specs.Shape.{ExitsAlike, SameArm, CasesAlike, Shape, ShapeOfArms, ShapeOfLoop}
use Rattle.spv_congruence.specs.Uniform.{Uniform, edited_exit, edited_front, edited, edited_arms, uniform_edits, AllFit, ArmsFit, edited_target, Edited}
use Rattle.spv_congruence.specs.Uniform.{UniformLaw}

module _ (u : Uniform) (Fits : List ℕ → Type 0) where
  abbrev labels_of : List (Front × Option Body) → List ℕ
  labels_of fronts = map (λ t. t.0.label) fronts

  exit_at : (front : Front × Option Body) (fronts : List (Front × Option Body)) (exit : Exit) (b : Bool) → (exit.target == front.0.label) ≡ b
      → OneOf exit.target (front.0.label ∷ labels_of fronts)
      → (OneOf exit.target (labels_of fronts) → ExitsAlike (uniform_edits u Fits) (map (edited_target u) fronts) tt exit (edited_exit u exit))
      → ExitsAlike (uniform_edits u Fits) (edited_target u front ∷ map (edited_target u) fronts) tt exit (edited_exit u exit)
  exit_at front fronts exit true e h more = inl (e, e, (refl, refl))
  exit_at front fronts exit false e (inl h) more = absurd (cc (eq-eqb exit.target front.0.label h, e))
  exit_at front fronts exit false e (inr h) more = inr (e, e, more h)

  exit_edited : (fronts : List (Front × Option Body)) (exit : Exit) → OneOf exit.target (labels_of fronts)
      → ExitsAlike (uniform_edits u Fits) (map (edited_target u) fronts) tt exit (edited_exit u exit)
  exit_edited [] exit h = absurd h
  exit_edited (front ∷ fronts) exit h = exit_at front fronts exit (exit.target == front.0.label) refl h (exit_edited fronts exit)

  -- an arm that begins at a branch begins so still
  target_edited : (arm : Body) → begins_at_branch arm ≡ true → target arm ≡ target (edited u arm)
  target_edited (Leaves exit) e = refl
  target_edited (Enters label body) e = refl
  target_edited (Loops (ByBranch ids) header control inner next continuing merge rest) e = refl
  target_edited (Loops InPlace header control inner next continuing merge rest) e = absurd (cc e)
  target_edited (Finishes words) e = absurd (cc e)
  target_edited (Step words body) e = absurd (cc e)
  target_edited (Splits condition on exit body) e = absurd (cc e)
  target_edited (Selects control condition first second merge rest) e = absurd (cc e)
  target_edited (Switches control selector cases arms merge rest) e = absurd (cc e)

  same_arm : (arms : Arms) (label : ℕ) → ArmsFit Fits arms → SameArm arms (edited_arms u arms) label label
  same_arm (Last arm) label h = ap (λ l. l == label) (target_edited arm h.1)
  same_arm (Also arm arms) label h = (ap (λ l. l == label) (target_edited arm h.1), same_arm arms label h.2)

  first_arm : (arms : Arms) → ArmsFit Fits arms → SameArm arms (edited_arms u arms) (first_target arms) (first_target (edited_arms u arms))
  first_arm (Last arm) h = λ i. target_edited arm h.1 i == target_edited arm h.1 i
  first_arm (Also arm arms) h = (
    λ i. target_edited arm h.1 i == target_edited arm h.1 i,
    subst (λ l. SameArm arms (edited_arms u arms) (target arm) l) (target_edited arm h.1)
        (same_arm arms (target arm) h.2),
  )

  same_cases : (arms : Arms) (cases : List (ℕ × ℕ)) → ArmsFit Fits arms → CasesAlike arms (edited_arms u arms) cases cases
  same_cases arms [] h = tt
  same_cases arms (c ∷ cs) h = (refl, same_arm arms c.1 h, same_cases arms cs h)

  loop_edited : (header : Front) (inner : Body) (next : Front) (continuing : Body) (merge : Front) (rest : Body) (fronts : List (Front × Option Body))
      → Shape (uniform_edits u Fits) None (map (edited_target u) ((next, None) ∷ (header, None) ∷ (merge, Some (edited u rest)) ∷ fronts)) tt inner
      (edited u inner)
      → Shape (uniform_edits u Fits) None (map (edited_target u) ((header, None) ∷ (merge, Some (edited u rest)) ∷ fronts)) tt continuing (edited u continuing)
      → Shape (uniform_edits u Fits) None (map (edited_target u) fronts) tt rest (edited u rest)
      → ShapeOfLoop (uniform_edits u Fits) None (map (edited_target u) fronts) tt header (edited_front u header) inner (edited u inner) next
      (edited_front u next) continuing (edited u continuing) merge (edited_front u merge) rest (edited u rest)
  loop_edited header inner next continuing merge rest fronts h k l = shape.parts {h = tt} {k = tt} refl refl h k l

  module _ (functions : ℕ → Option Function) where
    mutual
      edited_shape : (body : Body) (fronts : List (Front × Option Body)) → IsClosed functions (labels_of fronts) body → AllFit Fits body
          → Shape (uniform_edits u Fits) None (map (edited_target u) fronts) tt body (edited u body)
      edited_shape (Leaves exit) fronts h f = shape.leaves (exit_edited fronts exit h)
      edited_shape (Finishes words) fronts h f = shape.finishes (refl, f)
      edited_shape (Step words body) fronts h f =
          shape.turns {h = tt} {words = words} {others = u.op words} {body = body} {body2 = edited u body} (refl, f.0) (edited_shape body fronts h.1 f.1)
      edited_shape (Enters label body) fronts h f = shape.enters_second (shape.enters (edited_shape body fronts h f))
      edited_shape (Splits condition on exit body) fronts h f = shape.splits refl (exit_edited fronts exit h.0) (edited_shape body fronts h.1 f)
      edited_shape (Selects control condition first second merge rest) fronts h f =
          shape.selects {h = tt} refl refl (edited_shape first ((merge, Some (edited u rest)) ∷ fronts) h.0 f.0)
          (edited_shape second ((merge, Some (edited u rest)) ∷ fronts) h.1 f.1) (edited_shape rest fronts h.2 f.2)
      edited_shape (Switches control selector cases arms merge rest) fronts h f =
          shape.switches {h = tt} refl refl (first_arm arms f.0) (same_cases arms cases f.0) (arms_edited arms ((merge, Some (edited u rest)) ∷ fronts) h.0 f.0)
          (edited_shape rest fronts h.1 f.1)
      edited_shape (Loops (ByBranch ids) header control inner next continuing merge rest) fronts h f =
          shape.loops {h = tt} refl (refl, refl)
          (loop_edited header inner next continuing merge rest fronts
          (edited_shape inner ((next, None) ∷ (header, None) ∷ (merge, Some (edited u rest)) ∷ fronts) h.0 f.0)
          (edited_shape continuing ((header, None) ∷ (merge, Some (edited u rest)) ∷ fronts) h.1 f.1) (edited_shape rest fronts h.2 f.2))
      edited_shape (Loops InPlace header control inner next continuing merge rest) fronts h f =
          shape.placed
          (loop_edited header inner next continuing merge rest fronts
          (edited_shape inner ((next, None) ∷ (header, None) ∷ (merge, Some (edited u rest)) ∷ fronts) h.0 f.0)
          (edited_shape continuing ((header, None) ∷ (merge, Some (edited u rest)) ∷ fronts) h.1 f.1) (edited_shape rest fronts h.2 f.2))

      arms_edited : (arms : Arms) (fronts : List (Front × Option Body)) → AreClosed functions (labels_of fronts) arms → ArmsFit Fits arms
          → ShapeOfArms (uniform_edits u Fits) None (map (edited_target u) fronts) tt arms (edited_arms u arms)
      arms_edited (Last arm) fronts h f = shape.last (edited_shape arm fronts h f.0)
      arms_edited (Also arm arms) fronts h f = shape.also (edited_shape arm fronts h.0 f.0) (arms_edited arms fronts h.1 f.2)

pub uniform_law : (e : Edited) → UniformLaw e
uniform_law e functions fronts body h f = edited_shape e.uniform e.Fits functions body fronts h f
