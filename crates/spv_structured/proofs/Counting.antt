-- Each label of a sound tree is that of one block, and named by merge instructions once or by none.
use Rattle.std.proofs.Common.{◌≡◌, ℕ, ◌+◌, ◌≤◌, inl, inr, Bool, true, false, ◌==◌, cond, nat_eq, List, [], ◌∷◌, ◌++◌, map, Some, refl, sym, ap, ◌∙◌, subst, arith}
use Rattle.std.specs.List.{IsDistinct, AllByRecursion}
use Rattle.std.proofs.lemmas.Bool.{eqb-true, eq-eqb}
use Rattle.spv_blocks.specs.Blocks.{times}
use Rattle.spv_walk.specs.Contexts.{Context, InSelection, InArm, InBody, InNext}
use Rattle.spv_bodies.specs.Bodies.{Front, Entry, ByBranch, InPlace, Body, Leaves, Finishes, Step, Enters, Splits, Selects, Switches, Loops, Arms, Last, Also, Function, target}
use Rattle.spv_tree.specs.Sound.{IsSound, entered, entered_of_arms, fronts, fronts_of_arms, own_label}
use Rattle.spv_trees.specs.Standing.{OneOf}
use Rattle.spv_structured.proofs.Lists.{one_map}
use Rattle.spv_structured.specs.Spots.{Spot, others, others_of_arms, header_spots, spots_in}

-- ---- how often a number stands in a list

pub times_append : (xs ys : List ℕ) (t : ℕ) → times (xs ++ ys) t ≡ times xs t + times ys t
times_append [] ys t = omega arith
times_append (x ∷ xs) ys t = by (x == t) (times_append xs ys t)
  where
    by : (b : Bool) → times (xs ++ ys) t ≡ times xs t + times ys t → cond b (times (xs ++ ys) t + 1) (times (xs ++ ys) t) ≡ cond b (times xs t + 1) (times xs t) + times ys t
    by true e = omega (arith, e)
    by false e = e

pub times_one : (xs : List ℕ) (t : ℕ) → OneOf t xs → 1 ≤ times xs t
times_one [] t h = absurd h
times_one (x ∷ xs) t (inl e) = let h : times (x ∷ xs) t ≡ times xs t + 1 = ap (λ b. cond b (times xs t + 1) (times xs t)) (eq-eqb x t (sym e)) in omega (arith, h)
times_one (x ∷ xs) t (inr h) = by (x == t) (times_one xs t h)
  where
    by : (b : Bool) → 1 ≤ times xs t → 1 ≤ cond b (times xs t + 1) (times xs t)
    by true e = omega (arith, e)
    by false e = e

-- a number that no element is
none_times : (xs : List ℕ) (t : ℕ) → AllByRecursion (λ y. nat_eq t y ≡ false) xs → times xs t ≡ 0
none_times [] t h = refl
none_times (x ∷ xs) t h = ap (λ b. cond b (times xs t + 1) (times xs t)) (turned (x == t) refl) ∙ none_times xs t h.1
  where
    turned : (b : Bool) → (x == t) ≡ b → b ≡ false
    turned true e = sym (eq-eqb t x (sym (eqb-true x t e))) ∙ h.0
    turned false e = refl

pub distinct_times : (xs : List ℕ) (t : ℕ) → IsDistinct nat_eq xs → times xs t ≤ 1
unfolding IsDistinct
distinct_times [] t h = omega arith
distinct_times (x ∷ xs) t h = by (x == t) refl (distinct_times xs t h.1)
  where
    by : (b : Bool) → (x == t) ≡ b → times xs t ≤ 1 → cond b (times xs t + 1) (times xs t) ≤ 1
    by true e g = let z = none_times xs x h.0 in let i : times xs t ≡ 0 = subst (λ y. times xs y ≡ 0) (eqb-true x t e) z in omega (arith, i)
    by false e g = g

-- ---- labels

abbrev pub labels : List Spot → List ℕ
labels spots = map (λ s. s.label) spots

labels_append : (xs ys : List Spot) (t : ℕ) → times (labels (xs ++ ys)) t ≡ times (labels xs) t + times (labels ys) t
labels_append [] ys t = omega arith
labels_append (x ∷ xs) ys t = by (x.label == t) (labels_append xs ys t)
  where
    by : (b : Bool) → times (labels (xs ++ ys)) t ≡ times (labels xs) t + times (labels ys) t
        → cond b (times (labels (xs ++ ys)) t + 1) (times (labels (xs ++ ys)) t) ≡ cond b (times (labels xs) t + 1) (times (labels xs) t) + times (labels ys) t
    by true e = omega (arith, e)
    by false e = e

-- a label before others counts once more
abbrev pub one : (l t : ℕ) → ℕ
one l t = cond (l == t) 1 0

pub times_cons : (l : ℕ) (xs : List ℕ) (t : ℕ) → times (l ∷ xs) t ≡ one l t + times xs t
times_cons l xs t = by (l == t)
  where
    by : (b : Bool) → cond b (times xs t + 1) (times xs t) ≡ cond b 1 0 + times xs t
    by true = omega arith
    by false = omega arith

header_labels : (c : Context) (l : ℕ) (entry : Entry) (header : Front) (loop : Body) → labels (header_spots c l entry header loop) ≡ own_label entry header.label
header_labels c l (ByBranch values) header loop = refl
header_labels c l InPlace header loop = refl

abbrev Counted : Context → ℕ → Body → ℕ → Type 0
Counted c l body t = times (labels (others c l body)) t ≡ times (entered body) t + times (fronts body) t

mutual
  labels_counted : (body : Body) (c : Context) (l t : ℕ) → Counted c l body t
  labels_counted (Leaves exit) c l t = omega arith
  labels_counted (Finishes words) c l t = omega arith
  labels_counted (Step words body) c l t = labels_counted body c l t
  labels_counted (Enters label body) c l t =
      let h = labels_counted body c label t in
      let b : times (entered (Enters label body)) t ≡ one label t + times (entered body) t = times_cons label (entered body) t in
      times_cons label (labels (others c label body)) t ∙ omega (arith, h, b)
  labels_counted (Splits condition on exit body) c l t = labels_counted body c l t
  labels_counted (Selects control condition first second merge rest) c l t =
      let i = InSelection merge.label ∷ c in
      let last : List Spot = record { context = c; from = l; label = merge.label; front = Some merge; body = rest } ∷ others c merge.label rest in
      let h1 = labels_counted first i l t in
      let h2 = labels_counted second i l t in
      let h3 = labels_counted rest c merge.label t in
      let a2 = labels_append (others i l second) last t in
      let a3 = times_cons merge.label (labels (others c merge.label rest)) t in
      let whole = Selects control condition first second merge rest in
      let b1 : times (entered whole) t ≡ times (entered first ++ entered second) t + times (entered rest) t = times_append (entered first ++ entered second) (entered rest) t in
      let b2 = times_append (entered first) (entered second) t in
      let c1 : times (fronts whole) t ≡ times (merge.label ∷ fronts first ++ fronts second) t + times (fronts rest) t = times_append (merge.label ∷ fronts first ++ fronts second) (fronts rest) t in
      let c2 = times_append (merge.label ∷ fronts first) (fronts second) t in
      let c3 = times_cons merge.label (fronts first) t in
      labels_append (others i l first) (others i l second ++ last) t ∙ omega (arith, h1, h2, h3, a2, a3, b1, b2, c1, c2, c3)
  labels_counted (Switches control selector cases arms merge rest) c l t =
      let last : List Spot = record { context = c; from = l; label = merge.label; front = Some merge; body = rest } ∷ others c merge.label rest in
      let h1 = arm_labels_counted arms c l merge.label t in
      let h2 = labels_counted rest c merge.label t in
      let a2 = times_cons merge.label (labels (others c merge.label rest)) t in
      let whole = Switches control selector cases arms merge rest in
      let b1 : times (entered whole) t ≡ times (entered_of_arms arms) t + times (entered rest) t = times_append (entered_of_arms arms) (entered rest) t in
      let c1 : times (fronts whole) t ≡ times (merge.label ∷ fronts_of_arms arms) t + times (fronts rest) t = times_append (merge.label ∷ fronts_of_arms arms) (fronts rest) t in
      let c2 = times_cons merge.label (fronts_of_arms arms) t in
      labels_append (others_of_arms c l merge.label arms) last t ∙ omega (arith, h1, h2, a2, b1, c1, c2)
  labels_counted (Loops entry header control inner next continuing merge rest) c l t =
      let in_body = InBody header.label merge.label next.label ∷ c in
      let in_next = InNext header.label merge.label ∷ c in
      let loop = Loops InPlace header control inner next continuing merge rest in
      let last : List Spot = record { context = c; from = header.label; label = merge.label; front = Some merge; body = rest } ∷ others c merge.label rest in
      let middle : List Spot = record { context = in_next; from = header.label; label = next.label; front = Some next; body = continuing } ∷ (others in_next next.label continuing ++ last) in
      let h1 = labels_counted inner in_body header.label t in
      let h2 = labels_counted continuing in_next next.label t in
      let h3 = labels_counted rest c merge.label t in
      let a1 = labels_append (others in_body header.label inner) middle t in
      let a2 = times_cons next.label (labels (others in_next next.label continuing ++ last)) t in
      let a3 = labels_append (others in_next next.label continuing) last t in
      let a4 = times_cons merge.label (labels (others c merge.label rest)) t in
      let own = ap (λ ls. times ls t) (header_labels c l entry header loop) in
      let whole = Loops entry header control inner next continuing merge rest in
      let b1 : times (entered whole) t ≡ times (entered inner ++ entered continuing) t + times (entered rest) t = times_append (entered inner ++ entered continuing) (entered rest) t in
      let b2 = times_append (entered inner) (entered continuing) t in
      let front = next.label ∷ merge.label ∷ fronts inner in
      let c0 : times (fronts whole) t ≡ times (own_label entry header.label ++ front ++ fronts continuing) t + times (fronts rest) t =
      times_append (own_label entry header.label ++ front ++ fronts continuing) (fronts rest) t in
      let c1 = times_append (own_label entry header.label ++ front) (fronts continuing) t in
      let c2 = times_append (own_label entry header.label) front t in
      let c3 = times_cons next.label (merge.label ∷ fronts inner) t in
      let c4 = times_cons merge.label (fronts inner) t in
      labels_append (header_spots c l entry header loop) (others in_body header.label inner ++ middle) t ∙ omega (arith, h1, h2, h3, a1, a2, a3, a4, own, b1, b2, c0, c1, c2, c3, c4)

  arm_labels_counted : (arms : Arms) (c : Context) (l m t : ℕ) → times (labels (others_of_arms c l m arms)) t ≡ times (entered_of_arms arms) t + times (fronts_of_arms arms) t
  arm_labels_counted (Last arm) c l m t = labels_counted arm (InArm l m (target arm) ∷ c) l t
  arm_labels_counted (Also arm arms) c l m t =
      let i = InArm l m (target arm) ∷ c in
      let h1 = labels_counted arm i l t in
      let h2 = arm_labels_counted arms c l m t in
      let b : times (entered_of_arms (Also arm arms)) t ≡ times (entered arm) t + times (entered_of_arms arms) t = times_append (entered arm) (entered_of_arms arms) t in
      let d : times (fronts_of_arms (Also arm arms)) t ≡ times (fronts arm) t + times (fronts_of_arms arms) t = times_append (fronts arm) (fronts_of_arms arms) t in
      labels_append (others i l arm) (others_of_arms c l m arms) t ∙ omega (arith, h1, h2, b, d)

-- all labels of a sound function
pub each_label_once : (f : Function) → IsSound f → (t : ℕ) → times (labels (spots_in f)) t ≤ 1
each_label_once f sound t =
    let d = distinct_times (f.label ∷ entered f.body ++ fronts f.body) t sound.labels in
    let h = labels_counted f.body [] f.label t in
    let b = times_append (f.label ∷ entered f.body) (fronts f.body) t in
    let c = times_cons f.label (entered f.body) t in
    let e : one f.label t + times (labels (others [] f.label f.body)) t ≤ 1 = omega (arith, d, h, b, c) in
    subst (λ n. n ≤ 1) (sym (times_cons f.label (labels (others [] f.label f.body)) t)) e

twice : (l : ℕ) (ls : List ℕ) (t : ℕ) → l ≡ t → OneOf t ls → times (l ∷ ls) t ≤ 1 → ⊥
twice l ls t e h le =
    let a = times_cons l ls t in
    let b : one l t ≡ 1 = ap (λ z. cond z 1 0) (eq-eqb l t e) in
    let c = times_one ls t h in
    omega (arith, a, b, c, le)

-- elements of a list whose keys stand there once are one where their keys are
pub one_by : {X : Type 0} (key : X → ℕ) (xs : List X) → ((t : ℕ) → times (map key xs) t ≤ 1) → (s r : X) → OneOf s xs → OneOf r xs → key s ≡ key r → s ≡ r
one_by key [] once s r h g e = absurd h
one_by key (x ∷ xs) once s r (inl d) (inl k) e = d ∙ sym k
one_by key (x ∷ xs) once s r (inl d) (inr g) e = absurd (twice (key x) (map key xs) (key r) (ap key (sym d) ∙ e) (one_map key xs r g) (once (key r)))
one_by key (x ∷ xs) once s r (inr h) (inl k) e = absurd (twice (key x) (map key xs) (key s) (ap key (sym k) ∙ sym e) (one_map key xs s h) (once (key s)))
one_by key (x ∷ xs) once s r (inr h) (inr g) e = one_by key xs (λ t. fewer t (once t)) s r h g e
  where
    fewer : (t : ℕ) → times (map key (x ∷ xs)) t ≤ 1 → times (map key xs) t ≤ 1
    fewer t h = let a = times_cons (key x) (map key xs) t in omega (arith, a, h)

-- so two blocks with one label are one
pub one_spot : (spots : List Spot) → ((t : ℕ) → times (labels spots) t ≤ 1) → (s r : Spot) → OneOf s spots → OneOf r spots → s.label ≡ r.label → s ≡ r
one_spot spots once s r h g e = one_by (λ z. z.label) spots once s r h g e
