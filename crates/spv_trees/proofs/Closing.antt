-- A sound body is closed, where each function that it calls is known: by induction on the body, which is at the end of statements whose calls are known.
use Rattle.std.proofs.Common.{◌≡◌, ℕ, inl, inr, true, cond, List, [], ◌∷◌, ◌++◌, map, Option, Some, None, sym, ap, ◌∙◌, subst, append-nil}
use Rattle.spv_opcodes.specs.declared.op.TheConstants as op
use Rattle.spv_meaning.specs.Statements as says
use Rattle.spv_meaning.specs.Statements.{Statement, said, statements_in}
use Rattle.spv_bodies.specs.Bodies.{Exit, Front, ByBranch, InPlace, Body, Leaves, Finishes, Step, Enters, Splits, Selects, Switches, Loops, Arms, Last, Also, Function, target, begins_at_branch}
use Rattle.spv_bodies.specs.Listing.{Branching, branches, instruction, listed, first_target}
use Rattle.spv_trees.specs.Standing.{OneOf, CallsKnown, IsClosed, AreClosed}
use Rattle.spv_trees.specs.Sound.{Reaches, IsSound, AreSound, IsSoundFunction}
use Rattle.spv_trees.proofs.Parts.{known_behind}
use Rattle.spv_trees.proofs.Ends.{Ends, ends_behind, ends_said, ends_front, ends_body, ends_arm, ends_arms}
use Rattle.spv_trees.proofs.Spelling.{say, say_arm, say_arms, say_front, said_front, function_says}

abbrev labels : List Front → List ℕ
labels fronts = map (λ front. front.label) fronts

reaches_one : (fronts : List Front) (exit : Exit) → Reaches fronts exit → OneOf exit.target (labels fronts)
reaches_one [] exit h = h
reaches_one (front ∷ fronts) exit (inl h) = inl h.0
reaches_one (front ∷ fronts) exit (inr h) = inr (reaches_one fronts exit h)

pub known_front : (functions : ℕ → Option Function) (a b : List Statement) → CallsKnown functions (a ++ b) → CallsKnown functions a
known_front functions [] b h = tt
known_front functions (says.FunctionCall t r f arguments ∷ a) b h = (h.0, known_front functions a b h.1)
known_front functions (other ∷ a) b h = known_front functions a b h

pub known_rest : (functions : ℕ → Option Function) (a b : List Statement) → CallsKnown functions (a ++ b) → CallsKnown functions b
known_rest functions [] b h = h
known_rest functions (s ∷ a) b h = known_rest functions a b (known_behind functions s (a ++ b) h)

module _ (functions : ℕ → Option Function) (all : List Statement) (bs : List Branching) (known : CallsKnown functions all) where
  known_at : (statements rest : List Statement) → Ends all (statements ++ rest) → CallsKnown functions statements
  known_at statements rest h = known_front functions statements rest (known_rest functions h.0 (statements ++ rest) (subst (CallsKnown functions) h.1 known))

  abbrev IsClosing : Body → Type 0
  IsClosing body = (behind : Option Front) (fronts : List Front) → IsSound behind fronts body → (ms rest : List Statement) → Ends all (say bs ms body rest) → IsClosed functions (labels fronts) body

  loop_closed : (header : Front) (inner : Body) (next : Front) (continuing : Body) (merge : Front) (body : Body) → IsClosing inner → IsClosing continuing → IsClosing body
      → (fronts : List Front) → IsSound None (next ∷ header ∷ merge ∷ fronts) inner → IsSound (Some next) (header ∷ merge ∷ fronts) continuing → IsSound (Some merge) fronts body → (rest : List Statement)
      → Ends all (say bs (says.Merge ∷ []) inner (say_front bs next (say bs [] continuing (say_front bs merge (say bs [] body rest)))))
      → IsClosed functions (next.label ∷ header.label ∷ merge.label ∷ labels fronts) inner × IsClosed functions (header.label ∷ merge.label ∷ labels fronts) continuing × IsClosed functions (labels fronts) body
  loop_closed header inner next continuing merge body one two three fronts sound1 sound2 sound3 rest h =
      let last : List Statement = say bs [] body rest in
      let third : List Statement = say bs [] continuing (say_front bs merge last) in
      let h3 : Ends all (say_front bs next third) = ends_body all bs inner (says.Merge ∷ []) (say_front bs next third) h in
      let h4 : Ends all third = ends_front all bs next third h3 in
      let h5 : Ends all (say_front bs merge last) = ends_body all bs continuing [] (say_front bs merge last) h4 in (
        one None (next ∷ header ∷ merge ∷ fronts) sound1 (says.Merge ∷ []) (say_front bs next third) h,
        two (Some next) (header ∷ merge ∷ fronts) sound2 [] (say_front bs merge last) h4,
        three (Some merge) fronts sound3 [] rest (ends_front all bs merge last h5),
      )

  mutual
    body_closed : (body : Body) (behind : Option Front) (fronts : List Front) → IsSound behind fronts body → (ms rest : List Statement) → Ends all (say bs ms body rest) → IsClosed functions (labels fronts) body
    body_closed (Leaves exit) o fronts sound ms rest h = reaches_one fronts exit sound
    body_closed (Finishes words) o fronts sound ms rest h = tt
    body_closed (Step words body) o fronts sound ms rest h = (
      known_at (said words []) (say bs ms body rest) (subst (Ends all) (said_front words (say bs ms body rest)) h),
      body_closed body None fronts sound.1 ms rest (ends_said all words (say bs ms body rest) h),
    )
    body_closed (Enters label body) o fronts sound ms rest h =
        let there : List Statement = say bs [] body rest in
        body_closed body None fronts sound [] rest (ends_behind all (says.Branch label ∷ says.Label label ∷ []) there (ends_behind all ms (says.Branch label ∷ says.Label label ∷ there) h))
    body_closed (Splits condition on exit body) o fronts sound ms rest h =
        let s : Statement = says.BranchConditional condition (cond on exit.target (target body)) (cond on (target body) exit.target) in
        (reaches_one fronts exit sound.0, arm_closed body fronts sound.1 sound.2 rest (ends_behind all (s ∷ []) (say_arm bs body rest) (ends_behind all ms (s ∷ say_arm bs body rest) h)))
    body_closed (Selects control condition first second merge body) o fronts sound ms rest h =
        let s : Statement = says.BranchConditional condition (target first) (target second) in
        let last : List Statement = say bs [] body rest in
        let at_merge : List Statement = say_front bs merge last in
        let middle : List Statement = say_arm bs second at_merge in
        let h1 : Ends all (say_arm bs first middle) = ends_behind all (says.Merge ∷ s ∷ []) (say_arm bs first middle) (ends_behind all ms (says.Merge ∷ s ∷ say_arm bs first middle) h) in
        let h2 : Ends all middle = ends_arm all bs first middle h1 in (
          arm_closed first (merge ∷ fronts) sound.0 sound.1 middle h1,
          arm_closed second (merge ∷ fronts) sound.2 sound.3 at_merge h2,
          body_closed body (Some merge) fronts sound.4 [] rest (ends_front all bs merge last (ends_arm all bs second at_merge h2)),
        )
    body_closed (Switches control selector cases arms merge body) o fronts sound ms rest h =
        let s : Statement = says.Switch selector (first_target arms) cases in
        let last : List Statement = say bs [] body rest in
        let at_merge : List Statement = say_front bs merge last in
        let h1 : Ends all (say_arms bs arms at_merge) = ends_behind all (says.Merge ∷ s ∷ []) (say_arms bs arms at_merge) (ends_behind all ms (says.Merge ∷ s ∷ say_arms bs arms at_merge) h) in
        (arms_closed arms (merge ∷ fronts) sound.0 at_merge h1, body_closed body (Some merge) fronts sound.2 [] rest (ends_front all bs merge last (ends_arms all bs arms at_merge h1)))
    body_closed (Loops (ByBranch ids) header control inner next continuing merge body) o fronts sound ms rest h =
        let first : List Statement = say bs (says.Merge ∷ []) inner (say_front bs next (say bs [] continuing (say_front bs merge (say bs [] body rest)))) in
        loop_closed header inner next continuing merge body (body_closed inner) (body_closed continuing) (body_closed body) fronts sound.1 sound.2 sound.3 rest
        (ends_front all bs header first (ends_behind all (says.Branch header.label ∷ []) (say_front bs header first) (ends_behind all ms (says.Branch header.label ∷ say_front bs header first) h)))
    body_closed (Loops InPlace header control inner next continuing merge body) o fronts sound ms rest h =
        loop_closed header inner next continuing merge body (body_closed inner) (body_closed continuing) (body_closed body) fronts sound.1 sound.2 sound.3 rest h

    arm_closed : (arm : Body) (fronts : List Front) → begins_at_branch arm ≡ true → IsSound None fronts arm → (rest : List Statement) → Ends all (say_arm bs arm rest) → IsClosed functions (labels fronts) arm
    arm_closed (Leaves exit) fronts begins sound rest h = reaches_one fronts exit sound
    arm_closed (Enters label body) fronts begins sound rest h = body_closed body None fronts sound [] rest (ends_behind all (says.Label label ∷ []) (say bs [] body rest) h)
    arm_closed (Loops (ByBranch ids) header control inner next continuing merge body) fronts begins sound rest h =
        let first : List Statement = say bs (says.Merge ∷ []) inner (say_front bs next (say bs [] continuing (say_front bs merge (say bs [] body rest)))) in
        loop_closed header inner next continuing merge body (body_closed inner) (body_closed continuing) (body_closed body) fronts sound.1 sound.2 sound.3 rest (ends_front all bs header first h)
    arm_closed other fronts begins sound rest h = absurd (cc begins)

    arms_closed : (arms : Arms) (fronts : List Front) → AreSound fronts arms → (rest : List Statement) → Ends all (say_arms bs arms rest) → AreClosed functions (labels fronts) arms
    arms_closed (Last arm) fronts sound rest h = arm_closed arm fronts sound.0 sound.1 rest h
    arms_closed (Also arm arms) fronts sound rest h =
        (arm_closed arm fronts sound.0 sound.1 (say_arms bs arms rest) h, arms_closed arms fronts sound.2 rest (ends_arm all bs arm (say_arms bs arms rest) h))

-- a sound function, where each function is known that its instructions call
pub closed_function : (functions : ℕ → Option Function) (r : ℕ) (f : Function) → IsSoundFunction r f → CallsKnown functions (statements_in (listed f)) → IsClosed functions [] f.body
closed_function functions r f sound known =
    let bs : List Branching = branches f.label f.body in
    let all : List Statement = statements_in (listed f) in
    let rest : List Statement = statements_in (instruction op.FUNCTION_END [] ∷ []) in
    let body : List Statement = say bs [] f.body rest in
    let parameters : List Statement = statements_in f.parameters in
    let whole : all ≡ says.Function r ∷ (parameters ++ says.Label f.label ∷ body) = ap statements_in (sym (append-nil (listed f))) ∙ function_says r f sound.function [] in
    let h : Ends all (says.Function r ∷ (parameters ++ says.Label f.label ∷ body)) = ([], whole) in
    body_closed functions all bs known f.body None [] sound.body [] rest
    (ends_behind all (says.Label f.label ∷ []) body (ends_behind all parameters (says.Label f.label ∷ body) (ends_behind all (says.Function r ∷ []) (parameters ++ says.Label f.label ∷ body) h)))
