-- What holds of the lines of a listing holds of the steps of the tree, and of what its parts end with.
use Rattle.std.proofs.Common.{◌≡◌, ℕ, true, List, [], ◌∷◌, ◌++◌}
use Rattle.std.specs.List.{AllByRecursion}
use Rattle.spv_opcodes.specs.declared.op.TheConstants as op
use Rattle.spv_bodies.specs.Bodies.{Front, Body, Leaves, Finishes, Step, Enters, Splits, Selects, Switches, Loops, Arms, Last, Also, ByBranch, InPlace, begins_at_branch, target}
use Rattle.spv_bodies.specs.Listing.{Branching, arm_lines, branch_line, first_target, front_lines, instruction, label_line, lines, lines_of_arms, loop_line, pair_words, selection_line, split_line}
use Rattle.spv_tree.specs.Sound.{AreFormed, IsFormed}
use Rattle.spv_editing.specs.Showing.{Shown, AStep, AUse, carried, operands, shown, shown_in_arms, uses}
use Rattle.spv_respelling.proofs.EachLine.{OfArms, OfSteps}
use Rattle.spv_built.proofs.Lists.{all_left, all_right}

module _ (Q : List ℕ → Type 0) where
  abbrev Ls : List (List ℕ) → Type 0
  Ls ws = AllByRecursion Q ws

  left : (xs ys : List (List ℕ)) → Ls (xs ++ ys) → Ls xs
  left = all_left Q

  right : (xs ys : List (List ℕ)) → Ls (xs ++ ys) → Ls ys
  right = all_right Q

  module _ (all : List Branching) where
    -- the lines of a loop's body, of its continue part and of what follows
    loop_parts : (opened : List (List ℕ)) (inner : Body) (next : Front) (continuing : Body) (merge : Front) (rest : Body)
        → Ls (lines all opened inner ++ (front_lines all next ++ (lines all [] continuing ++ (front_lines all merge ++ lines all [] rest))))
        → Ls (lines all opened inner) × Ls (lines all [] continuing) × Ls (lines all [] rest)
    loop_parts opened inner next continuing merge rest h =
        let behind : List (List ℕ) = front_lines all merge ++ lines all [] rest in
        let one = right (lines all opened inner) (front_lines all next ++ (lines all [] continuing ++ behind)) h in
        let two = right (front_lines all next) (lines all [] continuing ++ behind) one in (
          left (lines all opened inner) (front_lines all next ++ (lines all [] continuing ++ behind)) h,
          left (lines all [] continuing) behind two,
          right (front_lines all merge) (lines all [] rest) (right (lines all [] continuing) behind two),
        )

    -- by recursion on the tree
    mutual
      pub steps_back : (b : Body) (opened : List (List ℕ)) → IsFormed all b → Ls (lines all opened b) → OfSteps Q b
      steps_back (Leaves exit) opened formed h = tt
      steps_back (Finishes words) opened formed h = (right opened (words ∷ []) h).0
      steps_back (Step words b) opened formed h = (h.0, steps_back b opened formed.1 h.1)
      steps_back (Enters label b) opened formed h = steps_back b [] formed (right opened (branch_line label ∷ label_line label ∷ lines all [] b) h).1.1
      steps_back (Splits condition on exit b) opened formed h =
          arm_back b formed.0 formed.1 (right opened (split_line condition on exit.target (target b) ∷ arm_lines all b) h).1
      steps_back (Selects control condition first second merge rest) opened formed h =
          let behind : List (List ℕ) = front_lines all merge ++ lines all [] rest in
          let parts = (right opened
          (selection_line merge.label control ∷ split_line condition true (target first) (target second)
          ∷ (arm_lines all first ++ (arm_lines all second ++ behind))) h).1.1 in
          let later = right (arm_lines all first) (arm_lines all second ++ behind) parts in (
            arm_back first formed.0 formed.3 (left (arm_lines all first) (arm_lines all second ++ behind) parts),
            arm_back second formed.1 formed.4 (left (arm_lines all second) behind later),
            steps_back rest [] formed.5 (right (front_lines all merge) (lines all [] rest) (right (arm_lines all second) behind later)),
          )
      steps_back (Switches control selector cases arms merge rest) opened formed h =
          let behind : List (List ℕ) = front_lines all merge ++ lines all [] rest in
          let parts = (right opened
          (selection_line merge.label control ∷ instruction op.SWITCH (selector ∷ first_target arms ∷ pair_words cases)
          ∷ (lines_of_arms all arms ++ behind)) h).1.1 in (
            arms_back arms formed.2 (left (lines_of_arms all arms) behind parts),
            steps_back rest [] formed.3 (right (front_lines all merge) (lines all [] rest) (right (lines_of_arms all arms) behind parts)),
          )
      steps_back (Loops (ByBranch values) header control inner next continuing merge rest) opened formed h =
          let own : List (List ℕ) = loop_line merge.label next.label control ∷ [] in
          let parts = loop_parts own inner next continuing merge rest
          (right (opened ++ branch_line header.label ∷ front_lines all header)
          (lines all own inner ++ (front_lines all next ++ (lines all [] continuing ++ (front_lines all merge ++ lines all [] rest)))) h) in
          (steps_back inner own formed.4 parts.0, steps_back continuing [] formed.5 parts.1, steps_back rest [] formed.6 parts.2)
      steps_back (Loops InPlace header control inner next continuing merge rest) opened formed h =
          let own : List (List ℕ) = loop_line merge.label next.label control ∷ [] in
          let parts = loop_parts own inner next continuing merge rest h in
          (steps_back inner own formed.4 parts.0, steps_back continuing [] formed.5 parts.1, steps_back rest [] formed.6 parts.2)

      arm_back : (b : Body) → begins_at_branch b ≡ true → IsFormed all b → Ls (arm_lines all b) → OfSteps Q b
      arm_back (Leaves exit) begins formed h = tt
      arm_back (Enters label b) begins formed h = steps_back b [] formed h.1
      arm_back (Loops (ByBranch values) header control inner next continuing merge rest) begins formed h =
          let own : List (List ℕ) = loop_line merge.label next.label control ∷ [] in
          let parts = loop_parts own inner next continuing merge rest
          (right (front_lines all header)
          (lines all own inner ++ (front_lines all next ++ (lines all [] continuing ++ (front_lines all merge ++ lines all [] rest)))) h) in
          (steps_back inner own formed.4 parts.0, steps_back continuing [] formed.5 parts.1, steps_back rest [] formed.6 parts.2)
      arm_back other begins formed h = absurd (cc begins)

      arms_back : (arms : Arms) → AreFormed all arms → Ls (lines_of_arms all arms) → OfArms Q arms
      arms_back (Last b) formed h = arm_back b formed.0 formed.1 h
      arms_back (Also b arms) formed h = (
        arm_back b formed.0 formed.1 (left (arm_lines all b) (lines_of_arms all arms) h),
        arms_back arms formed.2 (right (arm_lines all b) (lines_of_arms all arms) h),
      )

-- ---- of what a body shows

pub all_join : {A : Type 0} (P : A → Type 0) (xs ys : List A) → AllByRecursion P xs → AllByRecursion P ys → AllByRecursion P (xs ++ ys)
all_join P [] ys h g = g
all_join P (x ∷ xs) ys h g = (h.0, all_join P xs ys h.1 g)

-- where it is a step, its words do
abbrev pub OfStep : (Q : List ℕ → Type 0) → Shown → Type 0
OfStep Q (AStep words) = Q words
OfStep Q (AUse id) = Unit {0}

module _ (Q : List ℕ → Type 0) where
  uses_pass : (ids : List ℕ) → AllByRecursion (OfStep Q) (uses ids)
  uses_pass [] = tt
  uses_pass (id ∷ ids) = (tt, uses_pass ids)

  abbrev Ss : List Shown → Type 0
  Ss all = AllByRecursion (OfStep Q) all

  join : (xs ys : List Shown) → Ss xs → Ss ys → Ss (xs ++ ys)
  join = all_join (OfStep Q)

  mutual
    pub shown_steps : (b : Body) → OfSteps Q b → Ss (shown b)
    shown_steps (Leaves exit) h = uses_pass exit.values
    shown_steps (Finishes words) h = uses_pass (operands words)
    shown_steps (Step words b) h = (h.0, shown_steps b h.1)
    shown_steps (Enters label b) h = shown_steps b h
    shown_steps (Splits condition on exit b) h = (tt, join (uses exit.values) (shown b) (uses_pass exit.values) (shown_steps b h))
    shown_steps (Selects control condition first second merge rest) h = (
      tt,
      join (shown first) (shown second ++ shown rest) (shown_steps first h.0)
          (join (shown second) (shown rest) (shown_steps second h.1) (shown_steps rest h.2)),
    )
    shown_steps (Switches control selector cases arms merge rest) h =
        (tt, join (shown_in_arms arms) (shown rest) (arms_shown arms h.0) (shown_steps rest h.1))
    shown_steps (Loops entry header control inner next continuing merge rest) h =
        join (uses (carried entry)) (shown inner ++ (shown continuing ++ shown rest)) (uses_pass (carried entry))
        (join (shown inner) (shown continuing ++ shown rest) (shown_steps inner h.0)
        (join (shown continuing) (shown rest) (shown_steps continuing h.1) (shown_steps rest h.2)))

    arms_shown : (arms : Arms) → OfArms Q arms → Ss (shown_in_arms arms)
    arms_shown (Last b) h = shown_steps b h
    arms_shown (Also b arms) h = join (shown b) (shown_in_arms arms) (shown_steps b h.0) (arms_shown arms h.1)
