-- What holds of each OpPhi of a listing holds of the parameters of the fronts of the tree.
use Rattle.std.proofs.Common.{◌≡◌, ℕ, ◌+◌, true, List, [], ◌∷◌, ◌++◌, Option, Some, None, subst}
use Rattle.std.specs.List.{AllByRecursion}
use Rattle.spv_opcodes.specs.declared.op.TheConstants as op
use Rattle.spv_bodies.specs.Bodies.{Parameter, Front, Entry, ByBranch, InPlace, Body, Leaves, Finishes, Step, Enters, Splits, Selects, Switches, Loops, Arms, Last, Also, begins_at_branch, target}
use Rattle.spv_bodies.specs.Listing.{Branching, arm_lines, arriving, branch_line, entry_lines, first_target, front_lines, instruction, label_line, lines, lines_of_arms, loop_line, pair_words, phi_line, phi_lines, selection_line, split_line}
use Rattle.spv_tree.specs.Sound.{AreFormed, ArePlaced, ArmsArePlaced, IsEntry, IsFormed}
use Rattle.spv_fine_edits.specs.Giving.{fronts_in_arms, fronts_of}
use Rattle.spv_built.proofs.Lists.{all_left, all_right}
use Rattle.spv_built_edits.proofs.KeptSteps.{all_join}

module _ (Q : List ℕ → Type 0) (P : Parameter → Type 0) (all : List Branching)
    (phi : (k : ℕ) (here : List Branching) (p : Parameter) → Q (phi_line k here p) → P p) where
  abbrev Ls : List (List ℕ) → Type 0
  Ls ws = AllByRecursion Q ws

  left : (xs ys : List (List ℕ)) → Ls (xs ++ ys) → Ls xs
  left = all_left Q

  right : (xs ys : List (List ℕ)) → Ls (xs ++ ys) → Ls ys
  right = all_right Q

  -- ---- one front

  abbrev OfFront : Front → Type 0
  OfFront front = AllByRecursion P front.parameters

  phis_back : (k : ℕ) (here : List Branching) (ps : List Parameter) → Ls (phi_lines k here ps) → AllByRecursion P ps
  phis_back k here [] h = tt
  phis_back k here (p ∷ ps) h = (phi k here p h.0, phis_back (k + 1) here ps h.1)

  front_back : (front : Front) → Ls (front_lines all front) → OfFront front
  front_back front h = phis_back 0 (arriving front.label all) front.parameters h.1

  -- the front that a part begins with, if there is one
  abbrev OfPart : Option Front → Type 0
  OfPart None = Unit {0}
  OfPart (Some front) = OfFront front

  header_back : (part : Option Front) (opened : List (List ℕ)) (header : Front) (entry : Entry) → IsEntry part header entry → OfPart part
      → Ls (entry_lines all opened header entry) → OfFront header
  header_back part opened header (ByBranch values) placed begins h =
      front_back header (right opened (branch_line header.label ∷ front_lines all header) h).1
  header_back part opened header InPlace placed begins h = subst OfPart placed begins

  -- ---- bodies

  abbrev Fs : List Front → Type 0
  Fs fronts = AllByRecursion OfFront fronts

  both : (xs ys : List Front) → Fs xs → Fs ys → Fs (xs ++ ys)
  both = all_join OfFront

  -- the lines of a loop behind the front of its header, part by part
  record LoopLines (is ns cs ms rs : List (List ℕ)) : Type 0 where
    inner : Ls is
    next : Ls ns
    continuing : Ls cs
    merge : Ls ms
    rest : Ls rs

  loop_lines : (is ns cs ms rs : List (List ℕ)) → Ls (is ++ (ns ++ (cs ++ (ms ++ rs)))) → LoopLines is ns cs ms rs
  loop_lines is ns cs ms rs h =
      let a = right is (ns ++ (cs ++ (ms ++ rs))) h in
      let b = right ns (cs ++ (ms ++ rs)) a in
      let c = right cs (ms ++ rs) b in
      record {
        inner = left is (ns ++ (cs ++ (ms ++ rs))) h;
        next = left ns (cs ++ (ms ++ rs)) a;
        continuing = left cs (ms ++ rs) b;
        merge = left ms rs c;
        rest = right ms rs c;
      }

  -- by recursion on the tree
  mutual
    pub fronts_back : (b : Body) (part : Option Front) (opened : List (List ℕ)) → IsFormed all b → ArePlaced part b → OfPart part → Ls (lines all opened b)
        → Fs (fronts_of b)
    fronts_back (Leaves exit) part opened formed placed begins h = tt
    fronts_back (Finishes words) part opened formed placed begins h = tt
    fronts_back (Step words b) part opened formed placed begins h = fronts_back b None opened formed.1 placed tt h.1
    fronts_back (Enters label b) part opened formed placed begins h =
        fronts_back b None [] formed placed tt (right opened (branch_line label ∷ label_line label ∷ lines all [] b) h).1.1
    fronts_back (Splits condition on exit b) part opened formed placed begins h =
        arm_back b formed.0 formed.1 placed (right opened (split_line condition on exit.target (target b) ∷ arm_lines all b) h).1
    fronts_back (Selects control condition first second merge rest) part opened formed placed begins h =
        let behind : List (List ℕ) = front_lines all merge ++ lines all [] rest in
        let parts = (right opened
        (selection_line merge.label control ∷ split_line condition true (target first) (target second)
        ∷ (arm_lines all first ++ (arm_lines all second ++ behind))) h).1.1 in
        let later = right (arm_lines all first) (arm_lines all second ++ behind) parts in
        let last = right (arm_lines all second) behind later in
        let own = front_back merge (left (front_lines all merge) (lines all [] rest) last) in (
          own,
          both (fronts_of first) (fronts_of second ++ fronts_of rest)
              (arm_back first formed.0 formed.3 placed.0 (left (arm_lines all first) (arm_lines all second ++ behind) parts))
              (both (fronts_of second) (fronts_of rest) (arm_back second formed.1 formed.4 placed.1 (left (arm_lines all second) behind later))
              (fronts_back rest (Some merge) [] formed.5 placed.2 own (right (front_lines all merge) (lines all [] rest) last))),
        )
    fronts_back (Switches control selector cases arms merge rest) part opened formed placed begins h =
        let behind : List (List ℕ) = front_lines all merge ++ lines all [] rest in
        let parts = (right opened
        (selection_line merge.label control ∷ instruction op.SWITCH (selector ∷ first_target arms ∷ pair_words cases)
        ∷ (lines_of_arms all arms ++ behind)) h).1.1 in
        let last = right (lines_of_arms all arms) behind parts in
        let own = front_back merge (left (front_lines all merge) (lines all [] rest) last) in (
          own,
          both (fronts_in_arms arms) (fronts_of rest) (arms_back arms formed.2 placed.0 (left (lines_of_arms all arms) behind parts))
              (fronts_back rest (Some merge) [] formed.3 placed.1 own (right (front_lines all merge) (lines all [] rest) last)),
        )
    fronts_back (Loops entry header control inner next continuing merge rest) part opened formed placed begins h =
        let own : List (List ℕ) = loop_line merge.label next.label control ∷ [] in
        let behind : List (List ℕ) =
        lines all own inner ++ (front_lines all next ++ (lines all [] continuing ++ (front_lines all merge ++ lines all [] rest))) in
        let parts = loop_lines (lines all own inner) (front_lines all next) (lines all [] continuing) (front_lines all merge) (lines all [] rest)
        (right (entry_lines all opened header entry) behind h) in
        let at_next = front_back next parts.next in
        let at_merge = front_back merge parts.merge in (
          header_back part opened header entry placed.0 begins (left (entry_lines all opened header entry) behind h),
          (
            at_next,
            (
              at_merge,
              both (fronts_of inner) (fronts_of continuing ++ fronts_of rest) (fronts_back inner None own formed.4 placed.1 tt parts.inner)
                  (both (fronts_of continuing) (fronts_of rest) (fronts_back continuing (Some next) [] formed.5 placed.2 at_next parts.continuing)
                  (fronts_back rest (Some merge) [] formed.6 placed.3 at_merge parts.rest)),
            ),
          ),
        )

    arm_back : (b : Body) → begins_at_branch b ≡ true → IsFormed all b → ArePlaced None b → Ls (arm_lines all b) → Fs (fronts_of b)
    arm_back (Leaves exit) begins formed placed h = tt
    arm_back (Enters label b) begins formed placed h = fronts_back b None [] formed placed tt h.1
    arm_back (Loops entry header control inner next continuing merge rest) begins formed placed h =
        let own : List (List ℕ) = loop_line merge.label next.label control ∷ [] in
        let behind : List (List ℕ) =
        lines all own inner ++ (front_lines all next ++ (lines all [] continuing ++ (front_lines all merge ++ lines all [] rest))) in
        let parts = loop_lines (lines all own inner) (front_lines all next) (lines all [] continuing) (front_lines all merge) (lines all [] rest)
        (right (front_lines all header) behind h) in
        let at_next = front_back next parts.next in
        let at_merge = front_back merge parts.merge in (
          front_back header (left (front_lines all header) behind h),
          (
            at_next,
            (
              at_merge,
              both (fronts_of inner) (fronts_of continuing ++ fronts_of rest) (fronts_back inner None own formed.4 placed.1 tt parts.inner)
                  (both (fronts_of continuing) (fronts_of rest) (fronts_back continuing (Some next) [] formed.5 placed.2 at_next parts.continuing)
                  (fronts_back rest (Some merge) [] formed.6 placed.3 at_merge parts.rest)),
            ),
          ),
        )
    arm_back other begins formed placed h = absurd (cc begins)

    arms_back : (arms : Arms) → AreFormed all arms → ArmsArePlaced arms → Ls (lines_of_arms all arms) → Fs (fronts_in_arms arms)
    arms_back (Last b) formed placed h = arm_back b formed.0 formed.1 placed h
    arms_back (Also b arms) formed placed h =
        both (fronts_of b) (fronts_in_arms arms) (arm_back b formed.0 formed.1 placed.0 (left (arm_lines all b) (lines_of_arms all arms) h))
        (arms_back arms formed.2 placed.1 (right (arm_lines all b) (lines_of_arms all arms) h))
