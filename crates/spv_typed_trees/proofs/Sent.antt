-- Each branch of a typed tree carries values of their types to the front that it goes to, and no other front of the tree has that label.
use Rattle.std.proofs.Common.{◌≡◌, inl, inr, ℕ, ◌+◌, ◌≤◌, Bool, true, false, cond, ◌==◌, List, [], ◌∷◌, ◌++◌, map, Option, None, Some, refl, sym, ap, subst, ◌∙◌, arith}
use Rattle.std.specs.List.{AllByRecursion}
use Rattle.std.proofs.lemmas.Bool.{eq-eqb}
use Rattle.spv_module.specs.Instruction.{Instruction}
use Rattle.spv_blocks.specs.Blocks.{times}
use Rattle.spv_usage.specs.declared.stages.Stage.{Stage}
use Rattle.spv_usage.specs.declared.stages.Stage.TheVariants.{Further}
use Rattle.spv_usage.specs.Stages.{stage_behind}
use Rattle.spv_bodies.specs.Bodies.{Exit, Front, Entry, ByBranch, InPlace, Body, Leaves, Finishes, Step, Enters, Splits, Selects, Switches, Loops, Arms, Last, Also, Function}
use Rattle.spv_bodies.specs.Listing.{Branching, branches, branches_of_arms, entering}
use Rattle.spv_tree.specs.Branches.{branches_in}
use Rattle.spv_tree.specs.Sound.{ArePlaced, ArmsArePlaced, IsEntry, IsSound, entered, fronts, fronts_of_arms, own_label}
use Rattle.spv_trees.specs.Standing.{OneOf}
use Rattle.spv_trees.proofs.Members.{one_left, one_right}
use Rattle.spv_structured.proofs.Counting.{distinct_times, times_append, times_one}
use Rattle.spv_structured.proofs.Lists.{each_at, one_map}
use Rattle.spv_typed_trees.specs.Typed.{ArmsTyped, Begins, Carries, Sends, Typed, as_instruction}

pub all_both : {A : Type 0} (P : A → Type 0) (xs ys : List A) → AllByRecursion P xs → AllByRecursion P ys → AllByRecursion P (xs ++ ys)
all_both P [] ys h g = g
all_both P (x ∷ xs) ys h g = (h.0, all_both P xs ys h.1 g)

-- ---- the fronts of a tree; one in place counts where its part begins

abbrev pub own_front : Entry → Front → List Front
own_front (ByBranch values) header = header ∷ []
own_front InPlace header = []

abbrev mutual
  pub fronts_in : Body → List Front
  fronts_in (Leaves exit) = []
  fronts_in (Finishes words) = []
  fronts_in (Step words body) = fronts_in body
  fronts_in (Enters label body) = fronts_in body
  fronts_in (Splits condition on exit body) = fronts_in body
  fronts_in (Selects control condition first second merge rest) = merge ∷ (fronts_in first ++ (fronts_in second ++ fronts_in rest))
  fronts_in (Switches control selector cases arms merge rest) = merge ∷ (fronts_in_arms arms ++ fronts_in rest)
  fronts_in (Loops entry header control inner next continuing merge rest) =
      own_front entry header ++ (next ∷ merge ∷ (fronts_in inner ++ (fronts_in continuing ++ fronts_in rest)))

  pub fronts_in_arms : Arms → List Front
  fronts_in_arms (Last arm) = fronts_in arm
  fronts_in_arms (Also arm arms) = fronts_in arm ++ fronts_in_arms arms

-- ---- no two of one label

abbrev pub labels : List Front → List ℕ
labels fs = map (λ (f : Front). f.label) fs

times_head : (x : ℕ) (xs : List ℕ) (t : ℕ) → t ≡ x → times (x ∷ xs) t ≡ times xs t + 1
times_head x xs t e = ap (λ (b : Bool). cond b (times xs t + 1) (times xs t)) (eq-eqb x t (sym e))

times_tail : (x : ℕ) (xs : List ℕ) (t : ℕ) → times xs t ≤ times (x ∷ xs) t
times_tail x xs t = by (x == t)
  where
    by : (b : Bool) → times xs t ≤ cond b (times xs t + 1) (times xs t)
    by true = omega arith
    by false = omega arith

unique : (gs : List Front) (f g : Front) → times (labels gs) f.label ≤ 1 → f.label ≡ g.label → OneOf f gs → OneOf g gs → f ≡ g
unique [] f g less e o p = absurd o
unique (x ∷ xs) f g less e (inl o) (inl p) = o ∙ sym p
unique (x ∷ xs) f g less e (inl o) (inr p) =
    let a = times_head x.label (labels xs) f.label (ap (λ (z : Front). z.label) o) in
    let b : 1 ≤ times (labels xs) f.label =
    subst (λ t. 1 ≤ times (labels xs) t) (sym e) (times_one (labels xs) g.label (one_map (λ (z : Front). z.label) xs g p)) in
    absurd (omega (arith, a, b, less))
unique (x ∷ xs) f g less e (inr o) (inl p) =
    let a = times_head x.label (labels xs) f.label (e ∙ ap (λ (z : Front). z.label) p) in
    let b : 1 ≤ times (labels xs) f.label = times_one (labels xs) f.label (one_map (λ (z : Front). z.label) xs f o) in
    absurd (omega (arith, a, b, less))
unique (x ∷ xs) f g less e (inr o) (inr p) =
    unique xs f g (let a = times_tail x.label (labels xs) f.label in omega (arith, a, less)) e o p

-- the labels of fronts stand in the tree as often as they are counted there
labels_both : (xs ys : List Front) (t : ℕ) → times (labels (xs ++ ys)) t ≡ times (labels xs) t + times (labels ys) t
labels_both [] ys t = omega arith
labels_both (x ∷ xs) ys t = by (x.label == t) (labels_both xs ys t)
  where
    by : (b : Bool) → times (labels (xs ++ ys)) t ≡ times (labels xs) t + times (labels ys) t
        → cond b (times (labels (xs ++ ys)) t + 1) (times (labels (xs ++ ys)) t) ≡ cond b (times (labels xs) t + 1) (times (labels xs) t) + times (labels ys) t
    by true e = omega (arith, e)
    by false e = e

own_labels : (entry : Entry) (header : Front) (t : ℕ) → times (labels (own_front entry header)) t ≡ times (own_label entry header.label) t
own_labels (ByBranch values) header t = refl
own_labels InPlace header t = refl

-- one in front of equally many
headed : (x : ℕ) (xs ys : List ℕ) (t : ℕ) → times xs t ≡ times ys t → times (x ∷ xs) t ≡ times (x ∷ ys) t
headed x xs ys t e = ap (λ n. cond (x == t) (n + 1) n) e

mutual
  counted : (body : Body) (t : ℕ) → times (labels (fronts_in body)) t ≡ times (fronts body) t
  counted (Leaves exit) t = refl
  counted (Finishes words) t = refl
  counted (Step words body) t = counted body t
  counted (Enters label body) t = counted body t
  counted (Splits condition on exit body) t = counted body t
  counted (Selects control condition first second merge rest) t =
      let a = labels_both (fronts_in first) (fronts_in second ++ fronts_in rest) t in
      let b = labels_both (fronts_in second) (fronts_in rest) t in
      let c = times_append (fronts first ++ fronts second) (fronts rest) t in
      let d = times_append (fronts first) (fronts second) t in
      let x = counted first t in
      let y = counted second t in
      let z = counted rest t in
      headed merge.label (labels (fronts_in first ++ (fronts_in second ++ fronts_in rest))) (fronts first ++ fronts second ++ fronts rest) t
      (omega (arith, a, b, c, d, x, y, z))
  counted (Switches control selector cases arms merge rest) t =
      let a = labels_both (fronts_in_arms arms) (fronts_in rest) t in
      let c = times_append (fronts_of_arms arms) (fronts rest) t in
      let x = counted_arms arms t in
      let z = counted rest t in
      headed merge.label (labels (fronts_in_arms arms ++ fronts_in rest)) (fronts_of_arms arms ++ fronts rest) t (omega (arith, a, c, x, z))
  counted (Loops entry header control inner next continuing merge rest) t =
      let a = labels_both (fronts_in inner) (fronts_in continuing ++ fronts_in rest) t in
      let b = labels_both (fronts_in continuing) (fronts_in rest) t in
      let c = times_append (fronts inner) (fronts continuing ++ fronts rest) t in
      let d = times_append (fronts continuing) (fronts rest) t in
      let x = counted inner t in
      let y = counted continuing t in
      let z = counted rest t in
      let u =
      headed next.label (merge.label ∷ labels (fronts_in inner ++ (fronts_in continuing ++ fronts_in rest)))
      (merge.label ∷ (fronts inner ++ (fronts continuing ++ fronts rest))) t
      (headed merge.label (labels (fronts_in inner ++ (fronts_in continuing ++ fronts_in rest))) (fronts inner ++ (fronts continuing ++ fronts rest)) t
      (omega (arith, a, b, c, d, x, y, z))) in
      let v = labels_both (own_front entry header) (next ∷ merge ∷ (fronts_in inner ++ (fronts_in continuing ++ fronts_in rest))) t in
      let o = own_labels entry header t in
      let k = times_append (own_label entry header.label ++ (next.label ∷ merge.label ∷ fronts inner) ++ fronts continuing) (fronts rest) t in
      let l = times_append (own_label entry header.label ++ (next.label ∷ merge.label ∷ fronts inner)) (fronts continuing) t in
      let n = times_append (own_label entry header.label) (next.label ∷ merge.label ∷ fronts inner) t in
      let q = times_append (next.label ∷ merge.label ∷ fronts inner) (fronts continuing ++ fronts rest) t in
      omega (arith, u, v, o, k, l, n, q, d)

  counted_arms : (arms : Arms) (t : ℕ) → times (labels (fronts_in_arms arms)) t ≡ times (fronts_of_arms arms) t
  counted_arms (Last arm) t = counted arm t
  counted_arms (Also arm arms) t =
      let a = labels_both (fronts_in arm) (fronts_in_arms arms) t in
      let b = times_append (fronts arm) (fronts_of_arms arms) t in
      let x = counted arm t in
      let y = counted_arms arms t in
      omega (arith, a, b, x, y)

-- ---- each branch goes to a front of the tree

module _ (m : List Instruction) (result_type : ℕ) (all : List Front) where
  abbrev pub Lands : Branching → Type 0
  Lands e = Sends m all e.1

  abbrev Within : List Front → Type 0
  Within xs = (f : Front) → OneOf f xs → OneOf f all

  wider : (xs : List Front) (exit : Exit) → Within xs → Sends m xs exit → Sends m all exit
  wider xs exit w s = record { front = s.front; in_scope = w s.front s.in_scope; there = s.there; carries = s.carries }

  within_cons : (x : Front) (xs : List Front) → OneOf x all → Within xs → Within (x ∷ xs)
  within_cons x xs o w f (inl e) = subst (λ z. OneOf z all) (sym e) o
  within_cons x xs o w f (inr p) = w f p

  within_left : (xs ys : List Front) → Within (xs ++ ys) → Within xs
  within_left xs ys w f o = w f (one_left f xs ys o)

  within_right : (xs ys : List Front) → Within (xs ++ ys) → Within ys
  within_right xs ys w f o = w f (one_right f xs ys o)

  header_within : (front : Option Front) (header : Front) (entry : Entry) → IsEntry front header entry → ((f : Front) → front ≡ Some f → OneOf f all)
      → Within (own_front entry header) → OneOf header all
  header_within front header (ByBranch values) placed part w = w header (inl refl)
  header_within front header InPlace placed part w = part header placed

  entering_lands : (l : ℕ) (header : Front) (entry : Entry) → Begins m header entry → OneOf header all
      → AllByRecursion Lands (entering l header.label entry)
  entering_lands l header (ByBranch values) h o = (record { front = header; in_scope = o; there = refl; carries = h }, tt)
  entering_lands l header InPlace h o = tt

  none : (f : Front) → None ≡ Some f → OneOf f all
  none f e = absurd (cc e)

  some : (x : Front) → OneOf x all → (f : Front) → Some x ≡ Some f → OneOf f all
  some x o f e = let same : x ≡ f = cc e in subst (λ z. OneOf z all) same o

  mutual
    pub sent : (body : Body) (l : ℕ) (scope : List Front) (s : Stage) (front : Option Front) → Typed m result_type scope s body → ArePlaced front body
        → Within scope → ((f : Front) → front ≡ Some f → OneOf f all) → Within (fronts_in body) → AllByRecursion Lands (branches l body)
    sent (Leaves exit) l scope s front typed placed w part within = (wider scope exit w typed, tt)
    sent (Finishes words) l scope s front typed placed w part within = tt
    sent (Step words body) l scope s front typed placed w part within =
        sent body l scope (stage_behind s (as_instruction words)) None typed.1 placed w none within
    sent (Enters label body) l scope s front typed placed w part within = sent body label scope Further None typed placed w none within
    sent (Splits condition on exit body) l scope s front typed placed w part within =
        (wider scope exit w typed.1, sent body l scope Further None typed.2 placed w none within)
    sent (Selects control condition first second merge rest) l scope s front typed placed w part within =
        let o : OneOf merge all = within merge (inl refl) in
        let tail : Within (fronts_in first ++ (fronts_in second ++ fronts_in rest)) = (λ f p. within f (inr p)) in
        let more = within_right (fronts_in first) (fronts_in second ++ fronts_in rest) tail in
        let scoped = within_cons merge scope o w in
        all_both Lands (branches l first) (branches l second ++ branches merge.label rest)
        (sent first l (merge ∷ scope) Further None typed.2 placed.0 scoped none (within_left (fronts_in first) (fronts_in second ++ fronts_in rest) tail))
        (all_both Lands (branches l second) (branches merge.label rest)
        (sent second l (merge ∷ scope) Further None typed.3 placed.1 scoped none (within_left (fronts_in second) (fronts_in rest) more))
        (sent rest merge.label scope Further (Some merge) typed.4 placed.2 w (some merge o) (within_right (fronts_in second) (fronts_in rest) more)))
    sent (Switches control selector cases arms merge rest) l scope s front typed placed w part within =
        let o : OneOf merge all = within merge (inl refl) in
        let tail : Within (fronts_in_arms arms ++ fronts_in rest) = (λ f p. within f (inr p)) in
        all_both Lands (branches_of_arms l arms) (branches merge.label rest)
        (sent_arms arms l (merge ∷ scope) typed.2 placed.0 (within_cons merge scope o w) (within_left (fronts_in_arms arms) (fronts_in rest) tail))
        (sent rest merge.label scope Further (Some merge) typed.3 placed.1 w (some merge o) (within_right (fronts_in_arms arms) (fronts_in rest) tail))
    sent (Loops entry header control inner next continuing merge rest) l scope s front typed placed w part within =
        let behind : List Front = next ∷ merge ∷ (fronts_in inner ++ (fronts_in continuing ++ fronts_in rest)) in
        let h : OneOf header all = header_within front header entry placed.0 part (within_left (own_front entry header) behind within) in
        let tail = within_right (own_front entry header) behind within in
        let n : OneOf next all = tail next (inl refl) in
        let o : OneOf merge all = tail merge (inr (inl refl)) in
        let inside : Within (fronts_in inner ++ (fronts_in continuing ++ fronts_in rest)) = (λ f p. tail f (inr (inr p))) in
        let more = within_right (fronts_in inner) (fronts_in continuing ++ fronts_in rest) inside in
        let merged = within_cons merge scope o w in
        all_both Lands (entering l header.label entry) (branches header.label inner ++ (branches next.label continuing ++ branches merge.label rest))
        (entering_lands l header entry typed.0 h)
        (all_both Lands (branches header.label inner) (branches next.label continuing ++ branches merge.label rest)
        (sent inner header.label (next ∷ merge ∷ scope) Further None typed.4 placed.1 (within_cons next (merge ∷ scope) n merged) none
        (within_left (fronts_in inner) (fronts_in continuing ++ fronts_in rest) inside))
        (all_both Lands (branches next.label continuing) (branches merge.label rest)
        (sent continuing next.label (header ∷ merge ∷ scope) Further (Some next) typed.5 placed.2 (within_cons header (merge ∷ scope) h merged) (some next n)
        (within_left (fronts_in continuing) (fronts_in rest) more))
        (sent rest merge.label scope Further (Some merge) typed.6 placed.3 w (some merge o) (within_right (fronts_in continuing) (fronts_in rest) more))))

    pub sent_arms : (arms : Arms) (l : ℕ) (scope : List Front) → ArmsTyped m result_type scope arms → ArmsArePlaced arms → Within scope
        → Within (fronts_in_arms arms) → AllByRecursion Lands (branches_of_arms l arms)
    sent_arms (Last arm) l scope typed placed w within = sent arm l scope Further None typed placed w none within
    sent_arms (Also arm arms) l scope typed placed w within =
        all_both Lands (branches l arm) (branches_of_arms l arms)
        (sent arm l scope Further None typed.0 placed.0 w none (within_left (fronts_in arm) (fronts_in_arms arms) within))
        (sent_arms arms l scope typed.1 placed.1 w (within_right (fronts_in arm) (fronts_in_arms arms) within))

-- ---- so each front is given values of its types

-- the branches to a front carry them
abbrev pub IsGiven : List Instruction → List Branching → Front → Type 0
IsGiven m all front = (b : Branching) → OneOf b all → b.1.target ≡ front.label → Carries m front.parameters b.1.values

pub given : (m : List Instruction) (result_type : ℕ) (s : Stage) (f : Function) → IsSound f → Typed m result_type [] s f.body
    → (front : Front) → OneOf front (fronts_in f.body) → IsGiven m (branches_in f) front
given m result_type s f sound typed front o b one there =
    let all : List Front = fronts_in f.body in
    let each = sent m result_type all f.body f.label [] s None typed sound.placed (λ z p. absurd p) (none m result_type all) (λ z p. p) in
    let r = each_at (Lands m result_type all) (branches_in f) each b one in
    let a = distinct_times (f.label ∷ entered f.body ++ fronts f.body) front.label sound.labels in
    let c = times_append (f.label ∷ entered f.body) (fronts f.body) front.label in
    let d = counted f.body front.label in
    let same : front ≡ r.front = unique all front r.front (omega (arith, a, c, d)) (sym there ∙ r.there) o r.in_scope in
    subst (λ (z : Front). Carries m z.parameters b.1.values) (sym same) r.carries
