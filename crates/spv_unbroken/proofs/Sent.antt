-- How many branches with values there are from a block to a label: no more than branches of its terminator. So there is at most one where those go to different
-- labels.
use Rattle.std.proofs.Common.{◌≡◌, ℕ, ◌+◌, ◌≤◌, inl, inr, Bool, true, false, ◌==◌, cond, List, [], ◌∷◌, ◌++◌, map, Option, Some, None, refl, ap, ◌∙◌, subst, arith}
use Rattle.std.proofs.lemmas.List.{map-append}
use Rattle.spv_blocks.specs.Blocks.{times}
use Rattle.spv_walk.specs.Contexts.{Context, InSelection, InArm, InBody, InNext}
use Rattle.spv_bodies.specs.Bodies.{Exit, Front, ByBranch, InPlace, Body, Leaves, Finishes, Step, Enters, Splits, Selects, Switches, Loops, Arms, Last, Also, Function, target}
use Rattle.spv_bodies.specs.Listing.{Branching, branches, branches_of_arms, arriving}
use Rattle.spv_tree.specs.Branches.{branches_in}
use Rattle.spv_tree.specs.Sound.{IsSound, ArePlaced, ArmsArePlaced}
use Rattle.spv_trees.specs.Standing.{OneOf}
use Rattle.spv_structured.specs.Spots.{Spot, others, others_of_arms, spots_in}
use Rattle.spv_structured.proofs.Counting.{times_append, times_cons, one, labels, each_label_once}
use Rattle.spv_structured.proofs.Positions.{heading_to, ways, ways_of_arms}
use Rattle.spv_unbroken.proofs.Headings.{led_to}

-- those from p to h, one by one
abbrev pub sent : (h : ℕ) → List Branching → (p : ℕ) → ℕ
sent h bs p = times (map (λ b. b.0) (arriving h bs)) p

abbrev pub sent_by : (x : Branching) (h p : ℕ) → ℕ
sent_by x h p = cond (x.1.target == h) (one x.0 p) 0

pub sent_cons : (x : Branching) (bs : List Branching) (h p : ℕ) → sent h (x ∷ bs) p ≡ sent_by x h p + sent h bs p
sent_cons x bs h p = by (x.1.target == h)
  where
    by : (t : Bool) → times (map (λ b. b.0) (cond t (x ∷ arriving h bs) (arriving h bs))) p ≡ cond t (one x.0 p) 0 + sent h bs p
    by true = times_cons x.0 (map (λ b. b.0) (arriving h bs)) p
    by false = omega arith

pub sent_append : (cs bs : List Branching) (h p : ℕ) → sent h (cs ++ bs) p ≡ sent h cs p + sent h bs p
sent_append [] bs h p = omega arith
sent_append (x ∷ cs) bs h p =
    let a : sent h (x ∷ (cs ++ bs)) p ≡ sent_by x h p + sent h (cs ++ bs) p = sent_cons x (cs ++ bs) h p in
    let b = sent_cons x cs h p in
    let c = sent_append cs bs h p in
    a ∙ omega (arith, b, c)

-- the branches of a terminator to h, where its block is p
abbrev pub own : (l p : ℕ) → List ℕ → (h : ℕ) → ℕ
own l p ts h = cond (l == p) (times ts h) 0

own_append : (l p : ℕ) (ts us : List ℕ) (h : ℕ) → own l p (ts ++ us) h ≡ own l p ts h + own l p us h
own_append l p ts us h = by (l == p)
  where
    by : (b : Bool) → cond b (times (ts ++ us) h) 0 ≡ cond b (times ts h) 0 + cond b (times us h) 0
    by true = times_append ts us h
    by false = omega arith

own_cons : (l p : ℕ) (x : Exit) (ts : List ℕ) (h : ℕ) → own l p (x.target ∷ ts) h ≡ sent_by (l, x) h p + own l p ts h
own_cons l p x ts h = by (l == p) (x.target == h)
  where
    by : (a b : Bool) → cond a (cond b (times ts h + 1) (times ts h)) 0 ≡ cond b (cond a 1 0) 0 + cond a (times ts h) 0
    by true true = omega arith
    by true false = omega arith
    by false true = omega arith
    by false false = omega arith

abbrev pub of_spots : List Spot → (p h : ℕ) → ℕ
of_spots [] p h = 0
of_spots (s ∷ ss) p h = own s.label p (led_to s.body) h + of_spots ss p h

spots_append : (ss rs : List Spot) (p h : ℕ) → of_spots (ss ++ rs) p h ≡ of_spots ss p h + of_spots rs p h
spots_append [] rs p h = omega arith
spots_append (s ∷ ss) rs p h = let a = spots_append ss rs p h in omega (arith, a)

-- ---- no more than branches of terminators

-- of a body from a point in the block l on
abbrev Bounded : Context → ℕ → Body → (p h : ℕ) → Type 0
Bounded c l b p h = sent h (branches l b) p ≤ own l p (led_to b) h + of_spots (others c l b) p h

-- a loop in place stands in the block of its header
abbrev Stands : Option Front → ℕ → Type 0
Stands front l = (header : Front) → front ≡ Some header → header.label ≡ l

nowhere : (l : ℕ) → Stands None l
nowhere l header e = absurd (cc e)

there : (front : Front) → Stands (Some front) front.label
there front header e = ap (λ z. z.label) (let h : header ≡ front = cc e in h)

-- the parts of a loop
loop_bounded : (c : Context) (header : Front) (control : ℕ) (inner : Body) (next : Front) (continuing : Body) (merge : Front) (rest : Body) (p h : ℕ)
    → Bounded (InBody header.label merge.label next.label ∷ c) header.label inner p h → Bounded
    (InNext header.label merge.label ∷ c) next.label continuing p h → Bounded c merge.label rest p h
    → let loop = Loops InPlace header control inner next continuing merge rest in
    sent h (branches header.label loop) p ≤ own header.label p (led_to inner) h + of_spots (others c header.label loop) p h
loop_bounded c header control inner next continuing merge rest p h h1 h2 h3 =
    let i = InBody header.label merge.label next.label ∷ c in
    let j = InNext header.label merge.label ∷ c in
    let loop = Loops InPlace header control inner next continuing merge rest in
    let last : List Spot = record { context = c; from = header.label; label = merge.label; front = Some merge; body = rest } ∷ others c merge.label rest in
    let middle : List Spot =
    record { context = j; from = header.label; label = next.label; front = Some next; body = continuing } ∷ (others j next.label continuing ++ last) in
    let a1 : sent h (branches header.label loop) p ≡ sent h (branches header.label inner) p + sent h
    (branches next.label continuing ++ branches merge.label rest) p =
    sent_append (branches header.label inner) (branches next.label continuing ++ branches merge.label rest) h p in
    let a2 = sent_append (branches next.label continuing) (branches merge.label rest) h p in
    let b1 : of_spots (others c header.label loop) p h ≡ of_spots (others i header.label inner) p h + of_spots middle p h =
    spots_append (others i header.label inner) middle p h in
    let b2 : of_spots middle p h ≡ own next.label p (led_to continuing) h + of_spots (others j next.label continuing ++ last) p h = refl in
    let b3 = spots_append (others j next.label continuing) last p h in
    let b4 : of_spots last p h ≡ own merge.label p (led_to rest) h + of_spots (others c merge.label rest) p h = refl in
    omega (arith, h1, h2, h3, a1, a2, b1, b2, b3, b4)

mutual
  bounded : (b : Body) (c : Context) (l p h : ℕ) (front : Option Front) → ArePlaced front b → Stands front l → Bounded c l b p h
  bounded (Leaves exit) c l p h front placed at =
      let a : sent h (branches l (Leaves exit)) p ≡ sent_by (l, exit) h p + 0 = sent_cons (l, exit) [] h p in
      let b : own l p (led_to (Leaves exit)) h ≡ sent_by (l, exit) h p + own l p [] h = own_cons l p exit [] h in
      omega (arith, a, b)
  bounded (Finishes words) c l p h front placed at = omega arith
  bounded (Step words body) c l p h front placed at = bounded body c l p h None placed (nowhere l)
  bounded (Enters label body) c l p h front placed at =
      let h1 = bounded body c label p h None placed (nowhere label) in
      let b : of_spots (others c l (Enters label body)) p h ≡ own label p (led_to body) h + of_spots (others c label body) p h = refl in
      omega (arith, h1, b)
  bounded (Splits condition on exit body) c l p h front placed at =
      let h1 = bounded body c l p h None placed (nowhere l) in
      let a : sent h (branches l (Splits condition on exit body)) p ≡ sent_by (l, exit) h p + sent h (branches l body) p =
      sent_cons (l, exit) (branches l body) h p in
      let b : own l p (led_to (Splits condition on exit body)) h ≡ sent_by (l, exit) h p + own l p (led_to body) h = own_cons l p exit (led_to body) h in
      omega (arith, h1, a, b)
  bounded (Selects control condition first second merge rest) c l p h front placed at =
      let i = InSelection merge.label ∷ c in
      let whole = Selects control condition first second merge rest in
      let last : List Spot = record { context = c; from = l; label = merge.label; front = Some merge; body = rest } ∷ others c merge.label rest in
      let h1 = bounded first i l p h None placed.0 (nowhere l) in
      let h2 = bounded second i l p h None placed.1 (nowhere l) in
      let h3 = bounded rest c merge.label p h (Some merge) placed.2 (there merge) in
      let a1 : sent h (branches l whole) p ≡ sent h (branches l first) p + sent h (branches l second ++ branches merge.label rest) p =
      sent_append (branches l first) (branches l second ++ branches merge.label rest) h p in
      let a2 = sent_append (branches l second) (branches merge.label rest) h p in
      let b1 : own l p (led_to whole) h ≡ own l p (led_to first) h + own l p (led_to second) h =
      ap (λ ts. own l p ts h) (map-append heading_to (ways first) (ways second)) ∙ own_append l p (led_to first) (led_to second) h in
      let c1 : of_spots (others c l whole) p h ≡ of_spots (others i l first) p h + of_spots (others i l second ++ last) p h =
      spots_append (others i l first) (others i l second ++ last) p h in
      let c2 = spots_append (others i l second) last p h in
      let c3 : of_spots last p h ≡ own merge.label p (led_to rest) h + of_spots (others c merge.label rest) p h = refl in
      omega (arith, h1, h2, h3, a1, a2, b1, c1, c2, c3)
  bounded (Switches control selector cases arms merge rest) c l p h front placed at =
      let whole = Switches control selector cases arms merge rest in
      let last : List Spot = record { context = c; from = l; label = merge.label; front = Some merge; body = rest } ∷ others c merge.label rest in
      let h1 = arms_bounded arms c l merge.label p h placed.0 in
      let h2 = bounded rest c merge.label p h (Some merge) placed.1 (there merge) in
      let a1 : sent h (branches l whole) p ≡ sent h (branches_of_arms l arms) p + sent h (branches merge.label rest) p =
      sent_append (branches_of_arms l arms) (branches merge.label rest) h p in
      let c1 : of_spots (others c l whole) p h ≡ of_spots (others_of_arms c l merge.label arms) p h + of_spots last p h =
      spots_append (others_of_arms c l merge.label arms) last p h in
      let c3 : of_spots last p h ≡ own merge.label p (led_to rest) h + of_spots (others c merge.label rest) p h = refl in
      omega (arith, h1, h2, a1, c1, c3)
  bounded (Loops (ByBranch values) header control inner next continuing merge rest) c l p h front placed at =
      let whole = Loops (ByBranch values) header control inner next continuing merge rest in
      let loop = Loops InPlace header control inner next continuing merge rest in
      let exit : Exit = record { target = header.label; values = values } in
      let h1 = loop_bounded c header control inner next continuing merge rest p h
      (bounded inner (InBody header.label merge.label next.label ∷ c) header.label p h None placed.1 (nowhere header.label))
      (bounded continuing (InNext header.label merge.label ∷ c) next.label p h (Some next) placed.2 (there next))
      (bounded rest c merge.label p h (Some merge) placed.3 (there merge)) in
      let a : sent h (branches l whole) p ≡ sent_by (l, exit) h p + sent h (branches header.label loop) p =
      sent_cons (l, exit) (branches header.label loop) h p in
      let b : own l p (led_to whole) h ≡ sent_by (l, exit) h p + own l p [] h = own_cons l p exit [] h in
      let d : of_spots (others c l whole) p h ≡ own header.label p (led_to inner) h + of_spots (others c header.label loop) p h = refl in
      omega (arith, h1, a, b, d)
  bounded (Loops InPlace header control inner next continuing merge rest) c l p h front placed at =
      let loop = Loops InPlace header control inner next continuing merge rest in
      subst (λ z. sent h (branches header.label loop) p ≤ own z p (led_to inner) h + of_spots (others c header.label loop) p h) (at header placed.0)
      (loop_bounded c header control inner next continuing merge rest p h
      (bounded inner (InBody header.label merge.label next.label ∷ c) header.label p h None placed.1 (nowhere header.label))
      (bounded continuing (InNext header.label merge.label ∷ c) next.label p h (Some next) placed.2 (there next))
      (bounded rest c merge.label p h (Some merge) placed.3 (there merge)))

  arms_bounded : (arms : Arms) (c : Context) (l m p h : ℕ) → ArmsArePlaced arms
      → sent h (branches_of_arms l arms) p ≤ own l p (map heading_to (ways_of_arms arms)) h + of_spots (others_of_arms c l m arms) p h
  arms_bounded (Last arm) c l m p h placed = bounded arm (InArm l m (target arm) ∷ c) l p h None placed (nowhere l)
  arms_bounded (Also arm arms) c l m p h placed =
      let i = InArm l m (target arm) ∷ c in
      let h1 = bounded arm i l p h None placed.0 (nowhere l) in
      let h2 = arms_bounded arms c l m p h placed.1 in
      let a : sent h (branches_of_arms l (Also arm arms)) p ≡ sent h (branches l arm) p + sent h (branches_of_arms l arms) p =
      sent_append (branches l arm) (branches_of_arms l arms) h p in
      let b : own l p (map heading_to (ways_of_arms (Also arm arms))) h ≡ own l p (led_to arm) h + own l p (map heading_to (ways_of_arms arms)) h =
      ap (λ ts. own l p ts h) (map-append heading_to (ways arm) (ways_of_arms arms)) ∙ own_append l p (led_to arm) (map heading_to (ways_of_arms arms)) h in
      let d : of_spots (others_of_arms c l m (Also arm arms)) p h ≡ of_spots (others i l arm) p h + of_spots (others_of_arms c l m arms) p h =
      spots_append (others i l arm) (others_of_arms c l m arms) p h in
      omega (arith, h1, h2, a, b, d)

-- ---- at most one

labels_bound : (ss : List Spot) (p h : ℕ) → ((s : Spot) → OneOf s ss → times (led_to s.body) h ≤ 1) → of_spots ss p h ≤ times (labels ss) p
labels_bound [] p h few = omega arith
labels_bound (s ∷ ss) p h few = by (s.label == p) (few s (inl refl)) (labels_bound ss p h (λ r k. few r (inr k)))
  where
    by : (b : Bool) → times (led_to s.body) h ≤ 1 → of_spots ss p h ≤ times (labels ss) p
        → cond b (times (led_to s.body) h) 0 + of_spots ss p h ≤ cond b (times (labels ss) p + 1) (times (labels ss) p)
    by true e d = omega (arith, e, d)
    by false e d = omega (arith, d)

pub sent_once : (f : Function) → IsSound f → ((s : Spot) → OneOf s (spots_in f) → (t : ℕ) → times (led_to s.body) t ≤ 1) → (h p : ℕ)
    → sent h (branches_in f) p ≤ 1
sent_once f sound few h p =
    let a = bounded f.body [] f.label p h None sound.placed (nowhere f.label) in
    let b : own f.label p (led_to f.body) h + of_spots (others [] f.label f.body) p h ≤ times (labels (spots_in f)) p =
    labels_bound (spots_in f) p h (λ s k. few s k h) in
    let c = each_label_once f sound p in
    omega (arith, a, b, c)
