-- The lines of each block of a tree, where it is listed.
use Rattle.std.proofs.Common.{◌≡◌, ℕ, inl, inr, true, List, [], ◌∷◌, ◌++◌, Option, Some, None, sym, ap, ◌∙◌, subst, append_assoc, append-nil}
use Rattle.spv_opcodes.specs.declared.op.TheConstants as op
use Rattle.spv_walk.specs.Contexts.{Context, InSelection, InArm, InBody, InNext}
use Rattle.spv_bodies.specs.Bodies.{Front, ByBranch, InPlace, Body, Leaves, Finishes, Step, Enters, Splits, Selects, Switches, Loops, Arms, Last, Also, target, begins_at_branch}
use Rattle.spv_bodies.specs.Listing.{Branching, arriving, pair_words, instruction, label_line, branch_line, split_line, phi_lines, front_lines, selection_line, loop_line, lines, arm_lines, first_target, lines_of_arms}
use Rattle.spv_tree.specs.Sound.{IsFormed, AreFormed}
use Rattle.spv_trees.specs.Standing.{OneOf}
use Rattle.spv_structured.specs.Spots.{Spot, others, others_of_arms}
use Rattle.spv_structured.proofs.Lists.{one_split}

-- ---- the lines of the block that a body begins in

-- up to its terminator, before which stands the merge instruction of a header
abbrev pub own : (opened : List (List ℕ)) → Body → List (List ℕ)
own opened (Leaves exit) = opened ++ branch_line exit.target ∷ []
own opened (Finishes words) = opened ++ words ∷ []
own opened (Step words body) = words ∷ own opened body
own opened (Enters label body) = opened ++ branch_line label ∷ []
own opened (Splits condition on exit body) = opened ++ split_line condition on exit.target (target body) ∷ []
own opened (Selects control condition first second merge rest) =
    opened ++ selection_line merge.label control ∷ split_line condition true (target first) (target second) ∷ []
own opened (Switches control selector cases arms merge rest) =
    opened ++ selection_line merge.label control ∷ instruction op.SWITCH (selector ∷ first_target arms ∷ pair_words cases) ∷ []
own opened (Loops (ByBranch values) header control inner next continuing merge rest) = opened ++ branch_line header.label ∷ []
own opened (Loops InPlace header control inner next continuing merge rest) = own (loop_line merge.label next.label control ∷ []) inner

abbrev pub front_phis : List Branching → Option Front → List (List ℕ)
front_phis all None = []
front_phis all (Some front) = phi_lines 0 (arriving front.label all) front.parameters

-- those of a block behind its label
abbrev pub spot_lines : List Branching → Spot → List (List ℕ)
spot_lines all s = front_phis all s.front ++ own [] s.body

-- ---- where they stand

-- among lines a label stands with these behind it
pub record Stands (l : ℕ) (t ws : List (List ℕ)) : Type 0 where
  pub before : List (List ℕ)
  pub after : List (List ℕ)
  pub same : ws ≡ before ++ label_line l ∷ (t ++ after)

pub on_left : (l : ℕ) (t xs ys : List (List ℕ)) → Stands l t xs → Stands l t (xs ++ ys)
on_left l t xs ys h = record {
  before = h.before;
  after = h.after ++ ys;
  same =
      ap (λ z. z ++ ys) h.same ∙ append_assoc h.before (label_line l ∷ (t ++ h.after)) ys ∙ ap (λ z. h.before ++ label_line l ∷ z) (append_assoc t h.after ys);
}

pub on_right : (l : ℕ) (t xs ys : List (List ℕ)) → Stands l t ys → Stands l t (xs ++ ys)
on_right l t xs ys h = record {
  before = xs ++ h.before;
  after = h.after;
  same = ap (λ z. xs ++ z) h.same ∙ sym (append_assoc xs h.before (label_line l ∷ (t ++ h.after)));
}

-- lines that begin with these
pub record Begins (t ws : List (List ℕ)) : Type 0 where
  pub after : List (List ℕ)
  pub same : ws ≡ t ++ after

begins_with : (opened t more : List (List ℕ)) → Begins (opened ++ t) (opened ++ (t ++ more))
begins_with opened t more = record { after = more; same = sym (append_assoc opened t more) }

begins_more : (t xs ys : List (List ℕ)) → Begins t xs → Begins t (xs ++ ys)
begins_more t xs ys h = record { after = h.after ++ ys; same = ap (λ z. z ++ ys) h.same ∙ append_assoc t h.after ys }

begins_behind : (a t xs : List (List ℕ)) → Begins t xs → Begins (a ++ t) (a ++ xs)
begins_behind a t xs h = record { after = h.after; same = ap (λ z. a ++ z) h.same ∙ sym (append_assoc a t h.after) }

pub stands_here : (l : ℕ) (t ws : List (List ℕ)) → Begins t ws → Stands l t (label_line l ∷ ws)
stands_here l t ws h = record { before = []; after = h.after; same = ap (λ z. label_line l ∷ z) h.same }

module _ (all : List Branching) where
  -- a body is listed from the lines of the block that it begins in on
  pub body_begins : (body : Body) (opened : List (List ℕ)) → Begins (own opened body) (lines all opened body)
  body_begins (Leaves exit) opened = record { after = []; same = sym (append-nil (opened ++ branch_line exit.target ∷ [])) }
  body_begins (Finishes words) opened = record { after = []; same = sym (append-nil (opened ++ words ∷ [])) }
  body_begins (Step words body) opened = begins_behind (words ∷ []) (own opened body) (lines all opened body) (body_begins body opened)
  body_begins (Enters label body) opened = begins_with opened (branch_line label ∷ []) (label_line label ∷ lines all [] body)
  body_begins (Splits condition on exit body) opened = begins_with opened (split_line condition on exit.target (target body) ∷ []) (arm_lines all body)
  body_begins (Selects control condition first second merge rest) opened =
      begins_with opened (selection_line merge.label control ∷ split_line condition true (target first) (target second) ∷ [])
      (arm_lines all first ++ (arm_lines all second ++ (front_lines all merge ++ lines all [] rest)))
  body_begins (Switches control selector cases arms merge rest) opened =
      begins_with opened (selection_line merge.label control ∷ instruction op.SWITCH (selector ∷ first_target arms ∷ pair_words cases) ∷ [])
      (lines_of_arms all arms ++ (front_lines all merge ++ lines all [] rest))
  body_begins (Loops (ByBranch values) header control inner next continuing merge rest) opened =
      let loop = Loops InPlace header control inner next continuing merge rest in
      begins_more (opened ++ branch_line header.label ∷ []) (opened ++ branch_line header.label ∷ front_lines all header) (lines all [] loop)
      (begins_with opened (branch_line header.label ∷ []) (front_lines all header))
  body_begins (Loops InPlace header control inner next continuing merge rest) opened =
      begins_more (own (loop_line merge.label next.label control ∷ []) inner) (lines all (loop_line merge.label next.label control ∷ []) inner)
      (front_lines all next ++ (lines all [] continuing ++ (front_lines all merge ++ lines all [] rest)))
      (body_begins inner (loop_line merge.label next.label control ∷ []))

  -- a block, by its spot
  abbrev pub At : Spot → List (List ℕ) → Type 0
  At s ws = Stands s.label (spot_lines all s) ws

  front_here : (c : Context) (from : ℕ) (front : Front) (body : Body) (more : List (List ℕ))
      → At (record { context = c; from = from; label = front.label; front = Some front; body = body }) (front_lines all front ++ (lines all [] body ++ more))
  front_here c from front body more =
      let ps = phi_lines 0 (arriving front.label all) front.parameters in
      stands_here front.label (ps ++ own [] body) (ps ++ (lines all [] body ++ more))
      (begins_behind ps (own [] body) (lines all [] body ++ more) (begins_more (own [] body) (lines all [] body) more (body_begins body [])))

  -- in the lines of a front and the body behind it
  in_part : (c : Context) (from : ℕ) (front : Front) (body : Body) (more : List (List ℕ)) (spots : List Spot)
      → ((s : Spot) → OneOf s spots → At s (lines all [] body ++ more)) → (s : Spot)
      → OneOf s (record { context = c; from = from; label = front.label; front = Some front; body = body } ∷ spots)
      → At s (front_lines all front ++ (lines all [] body ++ more))
  in_part c from front body more spots later s (inl e) =
      subst (λ z. At z (front_lines all front ++ (lines all [] body ++ more))) (sym e) (front_here c from front body more)
  in_part c from front body more spots later s (inr h) = on_right s.label (spot_lines all s) (front_lines all front) (lines all [] body ++ more) (later s h)

  -- lines in each part of which the spots of that part stand
  in_both : (xs ys : List (List ℕ)) (ones others : List Spot) → ((s : Spot) → OneOf s ones → At s xs) → ((s : Spot) → OneOf s others → At s ys)
      → (s : Spot) → OneOf s (ones ++ others) → At s (xs ++ ys)
  in_both xs ys ones others h g s k = elim (one_split s ones others k) [
    | inl i ↦ on_left s.label (spot_lines all s) xs ys (h s i)
    | inr i ↦ on_right s.label (spot_lines all s) xs ys (g s i)
  ]

  last_part : (c : Context) (from : ℕ) (front : Front) (body : Body) (spots : List Spot) → ((s : Spot) → OneOf s spots → At s (lines all [] body)) → (s : Spot)
      → OneOf s (record { context = c; from = from; label = front.label; front = Some front; body = body } ∷ spots)
      → At s (front_lines all front ++ lines all [] body)
  last_part c from front body spots later s k =
      subst (λ z. At s (front_lines all front ++ z)) (append-nil (lines all [] body))
      (in_part c from front body [] spots (λ r h. subst (λ z. At r z) (sym (append-nil (lines all [] body))) (later r h)) s k)

  -- the blocks of a loop behind its header's
  loop_whole : (header : Front) (control : ℕ) (inner : Body) (next : Front) (continuing : Body) (merge : Front) (rest : Body) (c : Context)
      → ((s : Spot) → OneOf s (others (InBody header.label merge.label next.label ∷ c) header.label inner)
      → At s (lines all (loop_line merge.label next.label control ∷ []) inner))
      → ((s : Spot) → OneOf s (others (InNext header.label merge.label ∷ c) next.label continuing) → At s (lines all [] continuing))
      → ((s : Spot) → OneOf s (others c merge.label rest) → At s (lines all [] rest)) → (s : Spot)
      → OneOf s (others c header.label (Loops InPlace header control inner next continuing merge rest))
      → At s (lines all [] (Loops InPlace header control inner next continuing merge rest))
  loop_whole header control inner next continuing merge rest c one two three s h =
      let opening = loop_line merge.label next.label control ∷ [] in
      let i = InBody header.label merge.label next.label ∷ c in
      let j = InNext header.label merge.label ∷ c in
      let last : List Spot = record { context = c; from = header.label; label = merge.label; front = Some merge; body = rest } ∷ others c merge.label rest in
      let middle : List Spot =
      record { context = j; from = header.label; label = next.label; front = Some next; body = continuing } ∷ (others j next.label continuing ++ last) in
      let behind = front_lines all merge ++ lines all [] rest in
      in_both (lines all opening inner) (front_lines all next ++ (lines all [] continuing ++ behind)) (others i header.label inner) middle one
      (in_part j header.label next continuing behind (others j next.label continuing ++ last)
      (in_both (lines all [] continuing) behind (others j next.label continuing) last two
      (last_part c header.label merge rest (others c merge.label rest) three))) s h

  mutual
    -- each other block of a body stands in its lines
    pub body_stands : (body : Body) (opened : List (List ℕ)) (c : Context) (l : ℕ) → IsFormed all body → (s : Spot) → OneOf s (others c l body)
        → At s (lines all opened body)
    body_stands (Leaves exit) opened c l formed s h = absurd h
    body_stands (Finishes words) opened c l formed s h = absurd h
    body_stands (Step words body) opened c l formed s h =
        on_right s.label (spot_lines all s) (words ∷ []) (lines all opened body) (body_stands body opened c l formed.1 s h)
    body_stands (Enters label body) opened c l formed s (inl e) =
        subst (λ z. At z (opened ++ branch_line label ∷ label_line label ∷ lines all [] body)) (sym e)
        (on_right label (own [] body) opened (branch_line label ∷ label_line label ∷ lines all [] body)
        (on_right label (own [] body) (branch_line label ∷ []) (label_line label ∷ lines all [] body)
        (stands_here label (own [] body) (lines all [] body) (body_begins body []))))
    body_stands (Enters label body) opened c l formed s (inr h) =
        on_right s.label (spot_lines all s) opened (branch_line label ∷ label_line label ∷ lines all [] body)
        (on_right s.label (spot_lines all s) (branch_line label ∷ label_line label ∷ []) (lines all [] body) (body_stands body [] c label formed s h))
    body_stands (Splits condition on exit body) opened c l formed s h =
        let line = split_line condition on exit.target (target body) in
        on_right s.label (spot_lines all s) opened (line ∷ arm_lines all body)
        (on_right s.label (spot_lines all s) (line ∷ []) (arm_lines all body) (arm_stands body c l formed.0 formed.1 s h))
    body_stands (Selects control condition first second merge rest) opened c l formed s h =
        let heading = selection_line merge.label control ∷ split_line condition true (target first) (target second) ∷ [] in
        let i = InSelection merge.label ∷ c in
        let last : List Spot = record { context = c; from = l; label = merge.label; front = Some merge; body = rest } ∷ others c merge.label rest in
        let behind = front_lines all merge ++ lines all [] rest in
        on_right s.label (spot_lines all s) opened (heading ++ (arm_lines all first ++ (arm_lines all second ++ behind)))
        (on_right s.label (spot_lines all s) heading (arm_lines all first ++ (arm_lines all second ++ behind))
        (in_both (arm_lines all first) (arm_lines all second ++ behind) (others i l first) (others i l second ++ last) (arm_stands first i l formed.0 formed.3)
        (in_both (arm_lines all second) behind (others i l second) last (arm_stands second i l formed.1 formed.4)
        (last_part c l merge rest (others c merge.label rest) (body_stands rest [] c merge.label formed.5))) s h))
    body_stands (Switches control selector cases arms merge rest) opened c l formed s h =
        let heading = selection_line merge.label control ∷ instruction op.SWITCH (selector ∷ first_target arms ∷ pair_words cases) ∷ [] in
        let last : List Spot = record { context = c; from = l; label = merge.label; front = Some merge; body = rest } ∷ others c merge.label rest in
        let behind = front_lines all merge ++ lines all [] rest in
        on_right s.label (spot_lines all s) opened (heading ++ (lines_of_arms all arms ++ behind))
        (on_right s.label (spot_lines all s) heading (lines_of_arms all arms ++ behind)
        (in_both (lines_of_arms all arms) behind (others_of_arms c l merge.label arms) last (arms_stand arms c l merge.label formed.2)
        (last_part c l merge rest (others c merge.label rest) (body_stands rest [] c merge.label formed.3)) s h))
    body_stands (Loops (ByBranch values) header control inner next continuing merge rest) opened c l formed s h =
        let loop = Loops InPlace header control inner next continuing merge rest in
        subst (λ z. At s z) (sym (append_assoc opened (branch_line header.label ∷ front_lines all header) (lines all [] loop)))
        (on_right s.label (spot_lines all s) opened (branch_line header.label ∷ (front_lines all header ++ lines all [] loop))
        (on_right s.label (spot_lines all s) (branch_line header.label ∷ []) (front_lines all header ++ lines all [] loop)
        (last_part c l header loop (others c l loop) (loop_whole header control inner next continuing merge rest c
        (body_stands inner (loop_line merge.label next.label control ∷ []) (InBody header.label merge.label next.label ∷ c) header.label formed.4)
        (body_stands continuing [] (InNext header.label merge.label ∷ c) next.label formed.5) (body_stands rest [] c merge.label formed.6)) s h)))
    body_stands (Loops InPlace header control inner next continuing merge rest) opened c l formed s h =
        loop_whole header control inner next continuing merge rest c
        (body_stands inner (loop_line merge.label next.label control ∷ []) (InBody header.label merge.label next.label ∷ c) header.label formed.4)
        (body_stands continuing [] (InNext header.label merge.label ∷ c) next.label formed.5) (body_stands rest [] c merge.label formed.6) s h

    arm_stands : (arm : Body) (c : Context) (l : ℕ) → begins_at_branch arm ≡ true → IsFormed all arm → (s : Spot) → OneOf s (others c l arm)
        → At s (arm_lines all arm)
    arm_stands (Leaves exit) c l begins formed s h = absurd h
    arm_stands (Enters label body) c l begins formed s (inl e) =
        subst (λ z. At z (label_line label ∷ lines all [] body)) (sym e) (stands_here label (own [] body) (lines all [] body) (body_begins body []))
    arm_stands (Enters label body) c l begins formed s (inr h) =
        on_right s.label (spot_lines all s) (label_line label ∷ []) (lines all [] body) (body_stands body [] c label formed s h)
    arm_stands (Loops (ByBranch values) header control inner next continuing merge rest) c l begins formed s h =
        let loop = Loops InPlace header control inner next continuing merge rest in
        last_part c l header loop (others c l loop) (loop_whole header control inner next continuing merge rest c
        (body_stands inner (loop_line merge.label next.label control ∷ []) (InBody header.label merge.label next.label ∷ c) header.label formed.4)
        (body_stands continuing [] (InNext header.label merge.label ∷ c) next.label formed.5) (body_stands rest [] c merge.label formed.6)) s h
    arm_stands other c l begins formed s h = absurd (cc begins)

    arms_stand : (arms : Arms) (c : Context) (l merge : ℕ) → AreFormed all arms → (s : Spot) → OneOf s (others_of_arms c l merge arms)
        → At s (lines_of_arms all arms)
    arms_stand (Last arm) c l merge formed s h = arm_stands arm (InArm l merge (target arm) ∷ c) l formed.0 formed.1 s h
    arms_stand (Also arm arms) c l merge formed s h =
        in_both (arm_lines all arm) (lines_of_arms all arms) (others (InArm l merge (target arm) ∷ c) l arm) (others_of_arms c l merge arms)
        (arm_stands arm (InArm l merge (target arm) ∷ c) l formed.0 formed.1) (arms_stand arms c l merge formed.2) s h
