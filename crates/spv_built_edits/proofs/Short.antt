-- No line of an edited function is too long, if none is that was put: by induction on the tree. Each other line is as long as it was.
use Rattle.std.proofs.Common.{◌≡◌, ℕ, suc, ◌+◌, ◌≤◌, Bool, true, false, List, [], ◌∷◌, ◌++◌, length, refl, sym, ap, ◌∙◌, subst, arith}
use Rattle.std.specs.List.{AllByRecursion, flat_map}
use Rattle.std.proofs.lemmas.List.{length-map}
use Rattle.spv_bodies.specs.Bodies.{Arms, Last, Also, Body, Leaves, Finishes, Step, Enters, Splits, Selects, Switches, Loops, Entry, ByBranch, InPlace, Front, Parameter, target, begins_at_branch}
use Rattle.spv_bodies.specs.Listing.{Branching, arm_lines, arriving, entry_lines, front_lines, in_order, lines, lines_of_arms, loop_line, pair_words, phi_line, phi_lines, phi_pairs, split_line}
use Rattle.spv_tree.specs.Branches.{branches_in}
use Rattle.spv_tree.specs.Sound.{AreFormed, IsFormed}
use Rattle.spv_editing.specs.Editing.{Edit, edited, edited_arms, edited_end, edited_entry, edited_function, steps_before}
use Rattle.spv_editing.specs.Showing.{Shown, carried, shown, shown_in_arms, uses, words_shown}
use Rattle.spv_editing.proofs.Kept.{branches-in-kept}
use Rattle.spv_editing.proofs.Soundness.{arriving-mapped, in-order-mapped, mapped}
use Rattle.spv_fine_edits.proofs.Lists.{all_both}
use Rattle.spv_built.specs.Built.{IsShort}
use Rattle.spv_built.proofs.Lists.{all_left, all_right}
use Rattle.spv_built_edits.specs.Laws.{ShortStays}

abbrev Short : List (List ℕ) → Type 0
Short ls = AllByRecursion IsShort ls

-- of two lists of lines, the one behind the other
both : (ls ms : List (List ℕ)) → Short ls → Short ms → Short (ls ++ ms)
both ls ms h k = all_both IsShort ls ms h k

left : (ls ms : List (List ℕ)) → Short (ls ++ ms) → Short ls
left ls ms h = all_left IsShort ls ms h

right : (ls ms : List (List ℕ)) → Short (ls ++ ms) → Short ms
right ls ms h = all_right IsShort ls ms h

-- so it is one after the other
turn : (ls ms old new : List (List ℕ)) → (Short ls → Short ms) → (Short old → Short new) → Short (ls ++ old) → Short (ms ++ new)
turn ls ms old new first then h = both ms new (first (left ls old h)) (then (right ls old h))

-- a line that is as long as a short one is short
as_long : (new old : List ℕ) → length new ≡ length old → IsShort old → IsShort new
as_long new old e h = subst (λ n. n ≤ 65535) (sym e) h

-- ---- lines of which the words may be others

split_is_short : (condition : ℕ) (on : Bool) (exit other : ℕ) → IsShort (split_line condition on exit other)
split_is_short condition true exit other = omega arith
split_is_short condition false exit other = omega arith

-- the two words of a pair for each branch
pairs_long : (k j : ℕ) (xs ys : List Branching) → length xs ≡ length ys → length (pair_words (phi_pairs k xs)) ≡ length (pair_words (phi_pairs j ys))
pairs_long k j [] [] e = refl
pairs_long k j [] (y ∷ ys) e = absurd (cc e)
pairs_long k j (x ∷ xs) [] e = absurd (cc e)
pairs_long k j (x ∷ xs) (y ∷ ys) e = ap (λ n. suc (suc n)) (pairs_long k j xs ys (cc e))

module _ (e : Edit) where
  end_long : (words : List ℕ) → length (edited_end e words) ≡ length words
  end_long [] = refl
  end_long (head ∷ operands) = ap suc (length-map operands e.uses)

  phi_short : (k : ℕ) (here : List Branching) (p : Parameter) → IsShort (phi_line k here p) → IsShort (phi_line k (mapped e here) p)
  phi_short k here p h =
      as_long (phi_line k (mapped e here) p) (phi_line k here p)
      (ap (λ n. suc (suc (suc n))) (pairs_long k k (in_order p.parents (mapped e here)) (in_order p.parents here)
      (ap length (in-order-mapped e p.parents here) ∙ length-map (in_order p.parents here) _))) h

  phis_short : (k : ℕ) (here : List Branching) (ps : List Parameter) → Short (phi_lines k here ps) → Short (phi_lines k (mapped e here) ps)
  phis_short k here [] h = tt
  phis_short k here (p ∷ ps) h = (phi_short k here p h.0, phis_short (k + 1) here ps h.1)

  module _ (all : List Branching) where
    front_short : (front : Front) → Short (front_lines all front) → Short (front_lines (mapped e all) front)
    front_short front h = (
      h.0,
      subst (λ (here : List Branching). Short (phi_lines 0 here front.parameters)) (sym (arriving-mapped e front.label all))
          (phis_short 0 (arriving front.label all) front.parameters h.1),
    )

    entry_short : (opened : List (List ℕ)) (header : Front) (entry : Entry) → Short (entry_lines all opened header entry)
        → Short (entry_lines (mapped e all) opened header (edited_entry e entry))
    entry_short opened header (ByBranch values) h =
        let behind = right opened _ h in
        both opened _ (left opened _ h) (behind.0, front_short header behind.1)
    entry_short opened header InPlace h = tt

    -- ---- what is put

    -- the lines that are put for what is shown
    abbrev Put : Shown → Type 0
    Put s = AllByRecursion (λ words. IsShort words → Short (e.steps words)) (words_shown s)

    put_left : (xs ys : List Shown) → AllByRecursion Put (xs ++ ys) → AllByRecursion Put xs
    put_left xs ys h = all_left Put xs ys h

    put_right : (xs ys : List Shown) → AllByRecursion Put (xs ++ ys) → AllByRecursion Put ys
    put_right xs ys h = all_right Put xs ys h

    lines_before : (opened ls : List (List ℕ)) (b : Body) → Short ls → Short (lines (mapped e all) opened b)
        → Short (lines (mapped e all) opened (steps_before ls b))
    lines_before opened [] b h k = k
    lines_before opened (l ∷ ls) b h k = (h.0, lines_before opened ls b h.1 k)

    -- ---- constructs

    -- a merge block or continue target, and what stands behind it
    merged : (front : Front) (old new : List (List ℕ)) → (Short old → Short new) → Short (front_lines all front ++ old)
        → Short (front_lines (mapped e all) front ++ new)
    merged front old new then h = turn (front_lines all front) (front_lines (mapped e all) front) old new (front_short front) then h

    -- a loop behind the front of its header: its body, its continue part, and what stands behind it
    loop_short : (next merge : Front) (in_old in_new on_old on_new old new : List (List ℕ)) → (Short in_old → Short in_new) → (Short on_old → Short on_new)
        → (Short old → Short new) → Short (in_old ++ (front_lines all next ++ (on_old ++ (front_lines all merge ++ old))))
        → Short (in_new ++ (front_lines (mapped e all) next ++ (on_new ++ (front_lines (mapped e all) merge ++ new))))
    loop_short next merge in_old in_new on_old on_new old new first second third h =
        turn in_old in_new (front_lines all next ++ (on_old ++ (front_lines all merge ++ old)))
        (front_lines (mapped e all) next ++ (on_new ++ (front_lines (mapped e all) merge ++ new))) first
        (merged next (on_old ++ (front_lines all merge ++ old)) (on_new ++ (front_lines (mapped e all) merge ++ new))
        (turn on_old on_new (front_lines all merge ++ old) (front_lines (mapped e all) merge ++ new) second (merged merge old new third))) h

    mutual
      lines_short : (opened : List (List ℕ)) (b : Body) → IsFormed all b → AllByRecursion Put (shown b) → Short (lines all opened b)
          → Short (lines (mapped e all) opened (edited e b))
      lines_short opened (Leaves exit) formed put h = h
      lines_short opened (Finishes words) formed put h =
          both opened (edited_end e words ∷ []) (left opened (words ∷ []) h)
          (as_long (edited_end e words) words (end_long words) (right opened (words ∷ []) h).0, tt)
      lines_short opened (Step words body) formed put h =
          lines_before opened (e.steps words) (edited e body) (put.0.0 h.0) (lines_short opened body formed.1 put.1 h.1)
      lines_short opened (Enters label body) formed put h =
          let behind = right opened _ h in
          both opened _ (left opened _ h) (behind.0, (behind.1.0, lines_short [] body formed put behind.1.1))
      lines_short opened (Splits condition on exit body) formed put h =
          let behind = right opened _ h in
          both opened _ (left opened _ h) (
            split_is_short condition on exit.target (target (edited e body)),
            arm_short body formed.0 formed.1 (put_right (uses exit.values) (shown body) put.1) behind.1,
          )
      lines_short opened (Selects control condition first second merge rest) formed put h =
          let behind = right opened _ h in
          let in_first = left (arm_lines all first) _ behind.1.1 in
          let past_first = right (arm_lines all first) _ behind.1.1 in
          let past_second = right (arm_lines all second) _ past_first in
          let put_later = put_right (shown first) (shown second ++ shown rest) put.1 in
          both opened _ (left opened _ h) (
            behind.0,
            (
              split_is_short condition true (target (edited e first)) (target (edited e second)),
              both (arm_lines (mapped e all) (edited e first)) _
                  (arm_short first formed.0 formed.3 (put_left (shown first) (shown second ++ shown rest) put.1) in_first)
                  (both (arm_lines (mapped e all) (edited e second)) _
                  (arm_short second formed.1 formed.4 (put_left (shown second) (shown rest) put_later) (left (arm_lines all second) _ past_first))
                  (merged merge (lines all [] rest) (lines (mapped e all) [] (edited e rest))
                  (lines_short [] rest formed.5 (put_right (shown second) (shown rest) put_later)) past_second)),
            ),
          )
      lines_short opened (Switches control selector cases arms merge rest) formed put h =
          let behind = right opened _ h in
          both opened _ (left opened _ h) (
            behind.0,
            (
              behind.1.0,
              both (lines_of_arms (mapped e all) (edited_arms e arms)) _
                  (arms_short arms formed.2 (put_left (shown_in_arms arms) (shown rest) put.1) (left (lines_of_arms all arms) _ behind.1.1))
                  (merged merge (lines all [] rest) (lines (mapped e all) [] (edited e rest))
                  (lines_short [] rest formed.3 (put_right (shown_in_arms arms) (shown rest) put.1)) (right (lines_of_arms all arms) _ behind.1.1)),
            ),
          )
      lines_short opened (Loops entry header control inner next continuing merge rest) formed put h =
          let put_inside = put_right (uses (carried entry)) (shown inner ++ (shown continuing ++ shown rest)) put in
          let put_later = put_right (shown inner) (shown continuing ++ shown rest) put_inside in
          both (entry_lines (mapped e all) opened header (edited_entry e entry)) _
          (entry_short opened header entry (left (entry_lines all opened header entry) _ h))
          (loop_short next merge (lines all (loop_line merge.label next.label control ∷ []) inner)
          (lines (mapped e all) (loop_line merge.label next.label control ∷ []) (edited e inner)) (lines all [] continuing)
          (lines (mapped e all) [] (edited e continuing)) (lines all [] rest) (lines (mapped e all) [] (edited e rest))
          (lines_short (loop_line merge.label next.label control ∷ []) inner formed.4 (put_left (shown inner) (shown continuing ++ shown rest) put_inside))
          (lines_short [] continuing formed.5 (put_left (shown continuing) (shown rest) put_later))
          (lines_short [] rest formed.6 (put_right (shown continuing) (shown rest) put_later))
          (right (entry_lines all opened header entry) _ h))

      arm_short : (b : Body) → begins_at_branch b ≡ true → IsFormed all b → AllByRecursion Put (shown b) → Short (arm_lines all b)
          → Short (arm_lines (mapped e all) (edited e b))
      arm_short (Step words body) begins formed put h = absurd (cc begins)
      arm_short (Enters label body) begins formed put h = (h.0, lines_short [] body formed put h.1)
      arm_short (Loops entry header control inner next continuing merge rest) begins formed put h =
          let put_inside = put_right (uses (carried entry)) (shown inner ++ (shown continuing ++ shown rest)) put in
          let put_later = put_right (shown inner) (shown continuing ++ shown rest) put_inside in
          both (front_lines (mapped e all) header) _ (front_short header (left (front_lines all header) _ h))
          (loop_short next merge (lines all (loop_line merge.label next.label control ∷ []) inner)
          (lines (mapped e all) (loop_line merge.label next.label control ∷ []) (edited e inner)) (lines all [] continuing)
          (lines (mapped e all) [] (edited e continuing)) (lines all [] rest) (lines (mapped e all) [] (edited e rest))
          (lines_short (loop_line merge.label next.label control ∷ []) inner formed.4 (put_left (shown inner) (shown continuing ++ shown rest) put_inside))
          (lines_short [] continuing formed.5 (put_left (shown continuing) (shown rest) put_later))
          (lines_short [] rest formed.6 (put_right (shown continuing) (shown rest) put_later))
          (right (front_lines all header) _ h))
      arm_short (Leaves exit) begins formed put h = tt
      arm_short (Finishes words) begins formed put h = tt
      arm_short (Splits condition on exit body) begins formed put h = tt
      arm_short (Selects control condition first second merge rest) begins formed put h = tt
      arm_short (Switches control selector cases arms merge rest) begins formed put h = tt

      arms_short : (arms : Arms) → AreFormed all arms → AllByRecursion Put (shown_in_arms arms) → Short (lines_of_arms all arms)
          → Short (lines_of_arms (mapped e all) (edited_arms e arms))
      arms_short (Last arm) formed put h = arm_short arm formed.0 formed.1 put h
      arms_short (Also arm arms) formed put h =
          both (arm_lines (mapped e all) (edited e arm)) _
          (arm_short arm formed.0 formed.1 (put_left (shown arm) (shown_in_arms arms) put) (left (arm_lines all arm) _ h))
          (arms_short arms formed.2 (put_right (shown arm) (shown_in_arms arms) put) (right (arm_lines all arm) _ h))

  -- ---- the function

  -- what is so of all steps is so of what is shown
  put_shown : (xs : List Shown) → AllByRecursion (λ words. IsShort words → Short (e.steps words)) (flat_map words_shown xs)
      → AllByRecursion (λ s. AllByRecursion (λ words. IsShort words → Short (e.steps words)) (words_shown s)) xs
  put_shown [] h = tt
  put_shown (x ∷ xs) h = (
    all_left (λ words. IsShort words → Short (e.steps words)) (words_shown x) (flat_map words_shown xs) h,
    put_shown xs (all_right (λ words. IsShort words → Short (e.steps words)) (words_shown x) (flat_map words_shown xs) h),
  )

pub short_stays : ShortStays
short_stays e f sound put h =
    let behind = right f.parameters _ h.1 in
    let in_body = left (lines (branches_in f) [] f.body) _ behind.1 in (
      h.0,
      both f.parameters _ (left f.parameters _ h.1) (
        behind.0,
        both (lines (branches_in (edited_function e f)) [] (edited e f.body)) _
            (subst (λ (all : List Branching). Short (lines all [] (edited e f.body))) (sym (branches-in-kept e f))
            (lines_short e (branches_in f) [] f.body sound.formed (put_shown e (shown f.body) put) in_body))
            (right (lines (branches_in f) [] f.body) _ behind.1),
      ),
    )
