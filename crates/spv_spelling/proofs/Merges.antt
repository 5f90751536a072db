-- Where no rule on merge instructions is broken, what the last one names may be walked to.
use Rattle.std.proofs.Common.{◌≡◌, ℕ, Bool, true, false, cond, not, ◌==◌, ◌&&◌, List, [], ◌∷◌, ◌++◌, Option, Some, None, refl, sym, ap, ◌∙◌}
use Rattle.spv_base.specs.declared.fault.Refusal.{Refusal}
use Rattle.spv_module.specs.First.{here, unless}
use Rattle.spv_blocks.specs.Blocks.{Code, Ins, Phi, Selection, Loop, Other, End, Branch, BranchIf, Switch, Return, Unreachable, Open, Construct, ASelection, ASwitch, ALoop, is_first, names, opens, last_opens, merge_of, next_of, is_role}
use Rattle.spv_walk.specs.Faults.{is_last, suits_selection, suits_loop, selection_fits, loop_fits, merge_faults}
use Rattle.spv_walk.proofs.Unique.{both_left, both_right}

-- ---- rules at one place, of which none is broken

pub record Passes (p : Bool) (later : List Refusal) : Type 0 where
  pub holds : p ≡ true
  pub none : later ≡ []

pub passes : (at rule : ℕ) (p : Bool) (later : List Refusal) → here at (unless p rule) ++ later ≡ [] → Passes p later
passes at rule true later e = record { holds = refl; none = e }
passes at rule false later e = absurd (cc (e))

pub record PassesBoth (p q : Bool) (later : List Refusal) : Type 0 where
  pub holds : p ≡ true
  pub other : q ≡ true
  pub none : later ≡ []

pub passes_both : (at rule rule2 : ℕ) (p q : Bool) (later : List Refusal) → here at (unless p rule ++ unless q rule2) ++ later ≡ [] → PassesBoth p q later
passes_both at rule rule2 true true later e = record { holds = refl; other = refl; none = e }
passes_both at rule rule2 true false later e = absurd (cc (e))
passes_both at rule rule2 false q later e = absurd (cc (e))

pub nothing_here : (at : ℕ) (rules : List ℕ) → here at rules ≡ [] → rules ≡ []
nothing_here at [] e = refl
nothing_here at (x ∷ xs) e = absurd (cc (e))

-- ---- the construct that the last instruction opens

-- what a construct of the block h names may be walked to
pub record Fits (f : Code) (h : ℕ) (k : Option Construct) : Type 0 where
  pub merge : (m : ℕ) → merge_of k ≡ Some m → is_role f h m ≡ true
  pub next : (n : ℕ) → next_of k ≡ Some n → is_role f h n ≡ true

fits_none : (f : Code) (h : ℕ) → Fits f h None
fits_none f h = record { merge = λ m e. absurd (cc (e)); next = λ n e. absurd (cc (e)) }

some_same : (m n : ℕ) → Some m ≡ Some n → m ≡ n
some_same m n e = cc

role_at : (f : Code) (h m n : ℕ) → is_role f h m ≡ true → Some m ≡ Some n → is_role f h n ≡ true
role_at f h m n r e = ap (is_role f h) (sym (some_same m n e)) ∙ r

fits_selection : (f : Code) (h m : ℕ) → is_role f h m ≡ true → Fits f h (Some (ASelection m))
fits_selection f h m r = record { merge = λ j e. role_at f h m j r e; next = λ n e. absurd (cc (e)) }

fits_switch : (f : Code) (h m : ℕ) → is_role f h m ≡ true → Fits f h (Some (ASwitch m))
fits_switch f h m r = record { merge = λ j e. role_at f h m j r e; next = λ n e. absurd (cc (e)) }

fits_loop : (f : Code) (h m n : ℕ) → is_role f h m ≡ true → is_role f h n ≡ true → Fits f h (Some (ALoop m n))
fits_loop f h m n r s = record { merge = λ j e. role_at f h m j r e; next = λ j e. role_at f h n j s e }

selection_role : (f : Code) (h : ℕ) (e : End) (is : List Ins) (m : ℕ) → selection_fits f h e is m ≡ true → is_role f h m ≡ true
selection_role f h e is m p = both_right (is_last is && suits_selection e) (is_role f h m) p

-- a loop whose continue target is not its header
other_next : (x a b : Bool) → not x ≡ true → cond x a b ≡ true → b ≡ true
other_next true a b n p = absurd (cc (n))
other_next false a b n p = p

loop_next_role : (f : Code) (h : ℕ) (e : End) (is : List Ins) (m n : ℕ) → loop_fits f h e is m n ≡ true → not (n == h) ≡ true → is_role f h n ≡ true
loop_next_role f h e is m n p d =
    other_next (n == h) (names f n == 1) (is_role f h n) d
    (both_right (is_last is && suits_loop e && not (is_first f h) && is_role f h m) (cond (n == h) (names f n == 1) (is_role f h n)) p)

loop_merge_role : (f : Code) (h : ℕ) (e : End) (is : List Ins) (m n : ℕ) → loop_fits f h e is m n ≡ true → is_role f h m ≡ true
loop_merge_role f h e is m n p =
    both_right (is_last is && suits_loop e && not (is_first f h)) (is_role f h m)
    (both_left (is_last is && suits_loop e && not (is_first f h) && is_role f h m) (cond (n == h) (names f n == 1) (is_role f h n)) p)

-- a selection merge opens a selection or a switch
opened_selection : (f : Code) (h at m : ℕ) (e : End) → is_role f h m ≡ true → Fits f h (opens e (Selection at m))
opened_selection f h at m Open r = fits_none f h
opened_selection f h at m (Branch a) r = fits_selection f h m r
opened_selection f h at m (BranchIf a b) r = fits_selection f h m r
opened_selection f h at m (Switch d ps) r = fits_switch f h m r
opened_selection f h at m Return r = fits_selection f h m r
opened_selection f h at m Unreachable r = fits_selection f h m r

opened_loop : (f : Code) (h at m n : ℕ) (e : End) → is_role f h m ≡ true → is_role f h n ≡ true → Fits f h (opens e (Loop at m n))
opened_loop f h at m n Open r s = fits_none f h
opened_loop f h at m n (Branch a) r s = fits_loop f h m n r s
opened_loop f h at m n (BranchIf a b) r s = fits_loop f h m n r s
opened_loop f h at m n (Switch d ps) r s = fits_loop f h m n r s
opened_loop f h at m n Return r s = fits_loop f h m n r s
opened_loop f h at m n Unreachable r s = fits_loop f h m n r s

opened_phi : (f : Code) (h at t r : ℕ) (ps : List (ℕ × ℕ)) (e : End) → Fits f h (opens e (Phi at t r ps))
opened_phi f h at t r ps Open = fits_none f h
opened_phi f h at t r ps (Branch a) = fits_none f h
opened_phi f h at t r ps (BranchIf a b) = fits_none f h
opened_phi f h at t r ps (Switch d qs) = fits_none f h
opened_phi f h at t r ps Return = fits_none f h
opened_phi f h at t r ps Unreachable = fits_none f h

opened_other : (f : Code) (h at : ℕ) (e : End) → Fits f h (opens e (Other at))
opened_other f h at Open = fits_none f h
opened_other f h at (Branch a) = fits_none f h
opened_other f h at (BranchIf a b) = fits_none f h
opened_other f h at (Switch d ps) = fits_none f h
opened_other f h at Return = fits_none f h
opened_other f h at Unreachable = fits_none f h

opened : (f : Code) (h : ℕ) (e : End) (i : Ins) → merge_faults f h e (i ∷ []) ≡ [] → Fits f h (opens e i)
opened f h e (Phi at t r ps) none = opened_phi f h at t r ps e
opened f h e (Other at) none = opened_other f h at e
opened f h e (Selection at m) none = opened_selection f h at m e (selection_role f h e [] m (passes at 403 (selection_fits f h e [] m) [] none).holds)
opened f h e (Loop at m n) none =
    let p = passes_both at 403 405 (loop_fits f h e [] m n) (not (n == h)) [] none in
    opened_loop f h at m n e (loop_merge_role f h e [] m n p.holds) (loop_next_role f h e [] m n p.holds p.other)

-- nothing is broken behind the first instruction either
behind_first : (f : Code) (h : ℕ) (e : End) (i : Ins) (is : List Ins) → merge_faults f h e (i ∷ is) ≡ [] → merge_faults f h e is ≡ []
behind_first f h e (Phi at t r ps) is none = none
behind_first f h e (Other at) is none = none
behind_first f h e (Selection at m) is none = (passes at 403 (selection_fits f h e is m) (merge_faults f h e is) none).none
behind_first f h e (Loop at m n) is none = (passes_both at 403 405 (loop_fits f h e is m n) (not (n == h)) (merge_faults f h e is) none).none

-- by induction on the instructions
pub last_fits : (f : Code) (h : ℕ) (e : End) (is : List Ins) → merge_faults f h e is ≡ [] → Fits f h (last_opens e is)
last_fits f h e [] none = fits_none f h
last_fits f h e (i ∷ []) none = opened f h e i none
last_fits f h e (i ∷ j ∷ is) none = last_fits f h e (j ∷ is) (behind_first f h e i (j ∷ is) none)
