-- What holds of each kind of line holds of all lines of a body.
use Rattle.std.proofs.Common.{◌≡◌, ℕ, ◌+◌, ◌≤◌, Bool, true, List, [], ◌∷◌, ◌++◌, length, All}
use Rattle.std.specs.List.{AllByRecursion}
use Rattle.std.proofs.lemmas.List.Elements.{All-head, All-tail}
use Rattle.spv_opcodes.specs.declared.op.TheConstants as op
use Rattle.spv_bodies.specs.Bodies.{Parameter, Front, ByBranch, InPlace, Body, Leaves, Finishes, Step, Enters, Splits, Selects, Switches, Loops, Arms, Last, Also, target, begins_at_branch}
use Rattle.spv_bodies.specs.Listing.{Branching, arriving, pair_words, instruction, label_line, branch_line, split_line, phi_line, phi_lines, front_lines, selection_line, loop_line, lines, arm_lines, first_target, lines_of_arms}
use Rattle.spv_tree.specs.Fronts.{IsFilled, IsShort}
use Rattle.spv_tree.specs.Sound.{is_step, is_end, opcode_in, IsFormed, AreFormed}

module _ (Q : List ℕ → Type 0) where
  -- of the lines of a tree that are none of its instructions
  pub record OfLines : Type 0 where
    pub label : (label : ℕ) → Q (label_line label)
    pub branch : (label : ℕ) → Q (branch_line label)
    pub split : (condition : ℕ) (on : Bool) (exit other : ℕ) → Q (split_line condition on exit other)
    pub selection : (merge control : ℕ) → Q (selection_line merge control)
    pub loop : (merge next control : ℕ) → Q (loop_line merge next control)
    pub switch : (selector default : ℕ) (cases : List (ℕ × ℕ)) → length cases ≤ 16383 → Q (instruction op.SWITCH (selector ∷ default ∷ pair_words cases))
    pub phi : (k : ℕ) (here : List Branching) (p : Parameter) → IsShort here p → Q (phi_line k here p)

  -- and of its instructions
  abbrev mutual
    pub OfSteps : Body → Type 0
    OfSteps (Leaves exit) = Unit {0}
    OfSteps (Finishes words) = Q words
    OfSteps (Step words body) = Q words × OfSteps body
    OfSteps (Enters label body) = OfSteps body
    OfSteps (Splits condition on exit body) = OfSteps body
    OfSteps (Selects control condition first second merge rest) = OfSteps first × OfSteps second × OfSteps rest
    OfSteps (Switches control selector cases arms merge rest) = OfArms arms × OfSteps rest
    OfSteps (Loops entry header control inner next continuing merge rest) = OfSteps inner × OfSteps continuing × OfSteps rest

    pub OfArms : Arms → Type 0
    OfArms (Last arm) = OfSteps arm
    OfArms (Also arm arms) = OfSteps arm × OfArms arms

  abbrev pub Each : List (List ℕ) → Type 0
  Each ws = AllByRecursion Q ws

  pub both : (xs ys : List (List ℕ)) → Each xs → Each ys → Each (xs ++ ys)
  both [] ys h g = g
  both (x ∷ xs) ys h g = (h.0, both xs ys h.1 g)

  module _ (all : List Branching) where
    -- of instructions by their kinds
    mutual
      pub steps_by : ((w : List ℕ) → is_step (opcode_in w) ≡ true → Q w) → ((w : List ℕ) → is_end (opcode_in w) ≡ true → Q w) → (b : Body) → IsFormed all b
          → OfSteps b
      steps_by h g (Leaves exit) formed = tt
      steps_by h g (Finishes words) formed = g words formed
      steps_by h g (Step words b) formed = (h words formed.0, steps_by h g b formed.1)
      steps_by h g (Enters label b) formed = steps_by h g b formed
      steps_by h g (Splits condition on exit b) formed = steps_by h g b formed.1
      steps_by h g (Selects control condition first second merge rest) formed =
          (steps_by h g first formed.3, steps_by h g second formed.4, steps_by h g rest formed.5)
      steps_by h g (Switches control selector cases arms merge rest) formed = (arms_by h g arms formed.2, steps_by h g rest formed.3)
      steps_by h g (Loops entry header control inner next continuing merge rest) formed =
          (steps_by h g inner formed.4, steps_by h g continuing formed.5, steps_by h g rest formed.6)

      arms_by : ((w : List ℕ) → is_step (opcode_in w) ≡ true → Q w) → ((w : List ℕ) → is_end (opcode_in w) ≡ true → Q w) → (arms : Arms) → AreFormed all arms
          → OfArms arms
      arms_by h g (Last arm) formed = steps_by h g arm formed.1
      arms_by h g (Also arm arms) formed = (steps_by h g arm formed.1, arms_by h g arms formed.2)

    module _ (of : OfLines) where
      phis_each : (k : ℕ) (here : List Branching) (ps : List Parameter) → All (IsShort here) ps → Each (phi_lines k here ps)
      phis_each k here [] h = tt
      phis_each k here (p ∷ ps) h = (of.phi k here p (All-head (IsShort here) p ps h), phis_each (k + 1) here ps (All-tail (IsShort here) p ps h))

      front_each : (front : Front) → IsFilled all front → Each (front_lines all front)
      front_each front filled = (of.label front.label, phis_each 0 (arriving front.label all) front.parameters filled.short)

      part_each : (front : Front) (rest : Body) → IsFilled all front → Each (lines all [] rest) → Each (front_lines all front ++ lines all [] rest)
      part_each front rest filled h = both (front_lines all front) (lines all [] rest) (front_each front filled) h

      loop_each : (next merge : Front) (control : ℕ) (inner continuing rest : Body) → IsFilled all next → IsFilled all merge
          → Each (lines all (loop_line merge.label next.label control ∷ []) inner) → Each (lines all [] continuing) → Each (lines all [] rest)
          → Each (lines all (loop_line merge.label next.label control ∷ []) inner
          ++ (front_lines all next ++ (lines all [] continuing ++ (front_lines all merge ++ lines all [] rest))))
      loop_each next merge control inner continuing rest fill_next fill_merge one two three =
          both (lines all (loop_line merge.label next.label control ∷ []) inner)
          (front_lines all next ++ (lines all [] continuing ++ (front_lines all merge ++ lines all [] rest))) one
          (both (front_lines all next) (lines all [] continuing ++ (front_lines all merge ++ lines all [] rest)) (front_each next fill_next)
          (both (lines all [] continuing) (front_lines all merge ++ lines all [] rest) two (part_each merge rest fill_merge three)))

      mutual
        pub body_each : (b : Body) (opened : List (List ℕ)) → Each opened → IsFormed all b → OfSteps b → Each (lines all opened b)
        body_each (Leaves exit) opened o formed h = both opened (branch_line exit.target ∷ []) o (of.branch exit.target, tt)
        body_each (Finishes words) opened o formed h = both opened (words ∷ []) o (h, tt)
        body_each (Step words b) opened o formed h = (h.0, body_each b opened o formed.1 h.1)
        body_each (Enters label b) opened o formed h =
            both opened (branch_line label ∷ label_line label ∷ lines all [] b) o (of.branch label, (of.label label, body_each b [] tt formed h))
        body_each (Splits condition on exit b) opened o formed h =
            both opened (split_line condition on exit.target (target b) ∷ arm_lines all b) o
            (of.split condition on exit.target (target b), arm_each b formed.0 formed.1 h)
        body_each (Selects control condition first second merge rest) opened o formed h =
            let behind = front_lines all merge ++ lines all [] rest in
            both opened
            (selection_line merge.label control ∷ split_line condition true (target first) (target second) ∷
            (arm_lines all first ++ (arm_lines all second ++ behind))) o (
              of.selection merge.label control,
              (
                of.split condition true (target first) (target second),
                both (arm_lines all first) (arm_lines all second ++ behind) (arm_each first formed.0 formed.3 h.0)
                    (both (arm_lines all second) behind (arm_each second formed.1 formed.4 h.1)
                    (part_each merge rest formed.2 (body_each rest [] tt formed.5 h.2))),
              ),
            )
        body_each (Switches control selector cases arms merge rest) opened o formed h =
            let behind = front_lines all merge ++ lines all [] rest in
            both opened
            (selection_line merge.label control ∷ instruction op.SWITCH (selector ∷ first_target arms ∷ pair_words cases) ∷
            (lines_of_arms all arms ++ behind)) o (
              of.selection merge.label control,
              (
                of.switch selector (first_target arms) cases formed.0.count,
                both (lines_of_arms all arms) behind (arms_each arms formed.2 h.0) (part_each merge rest formed.1 (body_each rest [] tt formed.3 h.1)),
              ),
            )
        body_each (Loops (ByBranch values) header control inner next continuing merge rest) opened o formed h =
            both (opened ++ branch_line header.label ∷ front_lines all header) (lines all [] (Loops InPlace header control inner next continuing merge rest))
            (both opened (branch_line header.label ∷ front_lines all header) o (of.branch header.label, front_each header formed.1))
            (loop_each next merge control inner continuing rest formed.2 formed.3
            (body_each inner (loop_line merge.label next.label control ∷ []) (of.loop merge.label next.label control, tt) formed.4 h.0)
            (body_each continuing [] tt formed.5 h.1) (body_each rest [] tt formed.6 h.2))
        body_each (Loops InPlace header control inner next continuing merge rest) opened o formed h =
            loop_each next merge control inner continuing rest formed.2 formed.3
            (body_each inner (loop_line merge.label next.label control ∷ []) (of.loop merge.label next.label control, tt) formed.4 h.0)
            (body_each continuing [] tt formed.5 h.1) (body_each rest [] tt formed.6 h.2)

        arm_each : (arm : Body) → begins_at_branch arm ≡ true → IsFormed all arm → OfSteps arm → Each (arm_lines all arm)
        arm_each (Leaves exit) begins formed h = tt
        arm_each (Enters label b) begins formed h = (of.label label, body_each b [] tt formed h)
        arm_each (Loops (ByBranch values) header control inner next continuing merge rest) begins formed h =
            both (front_lines all header) (lines all [] (Loops InPlace header control inner next continuing merge rest)) (front_each header formed.1)
            (loop_each next merge control inner continuing rest formed.2 formed.3
            (body_each inner (loop_line merge.label next.label control ∷ []) (of.loop merge.label next.label control, tt) formed.4 h.0)
            (body_each continuing [] tt formed.5 h.1) (body_each rest [] tt formed.6 h.2))
        arm_each other begins formed h = absurd (cc begins)

        arms_each : (arms : Arms) → AreFormed all arms → OfArms arms → Each (lines_of_arms all arms)
        arms_each (Last arm) formed h = arm_each arm formed.0 formed.1 h
        arms_each (Also arm arms) formed h =
            both (arm_lines all arm) (lines_of_arms all arms) (arm_each arm formed.0 formed.1 h.0) (arms_each arms formed.2 h.1)
