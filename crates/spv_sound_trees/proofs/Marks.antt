-- The labels of a tree in its order, how often each stands, and that copies add nothing.
use Rattle.std.proofs.Common.{◌≡◌, inl, inr, ℕ, ◌+◌, ◌≤◌, true, false, cond, ◌==◌, nat_eq, List, [], ◌∷◌, ◌++◌, refl, sym, ap, subst, arith}
use Rattle.std.specs.List.{IsDistinct, AllByRecursion}
use Rattle.spv_blocks.specs.Blocks.{has, times}
use Rattle.spv_bodies.specs.Bodies.{Body, Leaves, Finishes, Step, Enters, Splits, Selects, Switches, Loops, Arms, Last, Also}
use Rattle.spv_tree.specs.Sound.{entered, entered_of_arms, fronts, fronts_of_arms, own_label}
use Rattle.spv_walk.proofs.Unique.{tells, truth_apart, false_equal, true_equal, equal_true}
use Rattle.spv_normal_trees.proofs.Members.{Distinct, has_cons, has_head, has_tail, has_nothing, has_not}

-- the labels of a body, in its order
abbrev mutual
  pub marks : Body → List ℕ
  marks (Leaves exit) = []
  marks (Finishes words) = []
  marks (Step words body) = marks body
  marks (Enters label body) = label ∷ marks body
  marks (Splits condition on exit body) = marks body
  marks (Selects control condition first second merge rest) = marks first ++ (marks second ++ merge.label ∷ marks rest)
  marks (Switches control selector cases arms merge rest) = marks_of_arms arms ++ merge.label ∷ marks rest
  marks (Loops entry header control inner next continuing merge rest) =
      own_label entry header.label ++ (marks inner ++ (next.label ∷ marks continuing ++ merge.label ∷ marks rest))

  pub marks_of_arms : Arms → List ℕ
  marks_of_arms (Last arm) = marks arm
  marks_of_arms (Also arm arms) = marks arm ++ marks_of_arms arms

-- ---- how often a number stands

times_append : (xs ys : List ℕ) (z : ℕ) → times (xs ++ ys) z ≡ times xs z + times ys z
times_append [] ys z = omega arith
times_append (x ∷ xs) ys z = elim (tells (x == z)) [
  | inl e ↦ rw e (let h = times_append xs ys z in omega arith)
  | inr e ↦ rw e (times_append xs ys z)
]

times_cons : (x : ℕ) (xs : List ℕ) (z : ℕ) → times (x ∷ xs) z ≡ times (x ∷ []) z + times xs z
times_cons x xs z = times_append (x ∷ []) xs z

pub some_times : (xs : List ℕ) (z : ℕ) → has xs z ≡ true → 1 ≤ times xs z
some_times [] z h = has_nothing z h
some_times (x ∷ xs) z h = elim (tells (x == z)) [
  | inl e ↦ rw e (omega arith)
  | inr e ↦ rw e (elim (has_cons x xs z h) [
    | inl g ↦ truth_apart (x == z) (true_equal x z g) e
    | inr g ↦ some_times xs z g
  ])
]

pub no_times : (xs : List ℕ) (z : ℕ) → has xs z ≡ false → times xs z ≡ 0
no_times [] z h = refl
no_times (x ∷ xs) z h = elim (tells (x == z)) [
  | inl e ↦ truth_apart (has (x ∷ xs) z) (has_head x xs z (equal_true x z e)) h
  | inr e ↦ rw e (no_times xs z (has_not xs z (λ g. truth_apart (has (x ∷ xs) z) (has_tail x xs z g) h)))
]

pub distinct_times : (xs : List ℕ) (z : ℕ) → Distinct xs → times xs z ≤ 1
distinct_times [] z d = omega arith
distinct_times (x ∷ xs) z d = elim (tells (x == z)) [
  | inl e ↦ rw e (let h = no_times xs z (subst (λ j. has xs j ≡ false) (equal_true x z e) d.0) in omega arith)
  | inr e ↦ rw e (distinct_times xs z d.1)
]

more_times : (x : ℕ) (xs : List ℕ) (z : ℕ) → times xs z ≤ times (x ∷ xs) z
more_times x xs z = let h = times_cons x xs z in omega arith

own_times : (x : ℕ) (xs : List ℕ) → times (x ∷ xs) x ≡ times xs x + 1
own_times x xs = ap (λ b. cond b (times xs x + 1) (times xs x)) (true_equal x x refl)

pub times_distinct : (xs : List ℕ) → ((z : ℕ) → times xs z ≤ 1) → Distinct xs
times_distinct [] h = tt
times_distinct (x ∷ xs) h = (
  has_not xs x (λ g. let s = some_times xs x g in let m = h x in let o = own_times x xs in omega arith),
  times_distinct xs (λ z. let m = h z in let o = more_times x xs z in omega arith),
)

differs_from_all : (x : ℕ) (ys : List ℕ) → has ys x ≡ false → AllByRecursion (λ y. nat_eq x y ≡ false) ys
differs_from_all x [] h = tt
differs_from_all x (y ∷ ys) h = (
  false_equal x y (λ e. truth_apart (has (y ∷ ys) x) (has_head y ys x (sym e)) h),
  differs_from_all x ys (has_not ys x (λ g. truth_apart (has (y ∷ ys) x) (has_tail y ys x g) h)),
)

pub is_distinct : (xs : List ℕ) → Distinct xs → IsDistinct nat_eq xs
unfolding IsDistinct
is_distinct [] d = tt
is_distinct (x ∷ xs) d = (differs_from_all x xs d.0, is_distinct xs d.1)

-- ---- each label is entered or a front

-- these labels stand as often as those entered and those of fronts
abbrev Counts : (xs entered fronts : List ℕ) → ℕ → Type 0
Counts xs entered fronts z = times xs z ≡ times entered z + times fronts z

enters_count : (l : ℕ) (a e f : List ℕ) (z : ℕ) → Counts a e f z → Counts (l ∷ a) (l ∷ e) f z
enters_count l a e f z h = let p = times_cons l a z in let q = times_cons l e z in omega arith

arms_join : (a b e1 e2 f1 f2 : List ℕ) (z : ℕ) → Counts a e1 f1 z → Counts b e2 f2 z → Counts (a ++ b) (e1 ++ e2) (f1 ++ f2) z
arms_join a b e1 e2 f1 f2 z h g =
    let p = times_append a b z in let q = times_append e1 e2 z in let r = times_append f1 f2 z in
    omega arith

switch_count : (m : ℕ) (a b e1 e2 f1 f2 : List ℕ) (z : ℕ) → Counts a e1 f1 z → Counts b e2 f2 z → Counts (a ++ m ∷ b) (e1 ++ e2) (m ∷ f1 ++ f2) z
switch_count m a b e1 e2 f1 f2 z h g =
    let p = times_append a (m ∷ b) z in let p2 = times_cons m b z in let q = times_append e1 e2 z in
    let r = times_cons m (f1 ++ f2) z in let r2 = times_append f1 f2 z in
    omega arith

select_count : (m : ℕ) (a b c e1 e2 e3 f1 f2 f3 : List ℕ) (z : ℕ) → Counts a e1 f1 z → Counts b e2 f2 z → Counts c e3 f3 z
    → Counts (a ++ (b ++ m ∷ c)) ((e1 ++ e2) ++ e3) (((m ∷ f1) ++ f2) ++ f3) z
select_count m a b c e1 e2 e3 f1 f2 f3 z h g k =
    let p = times_append a (b ++ m ∷ c) z in let p2 = times_append b (m ∷ c) z in let p3 = times_cons m c z in
    let q = times_append (e1 ++ e2) e3 z in let q2 = times_append e1 e2 z in
    let r = times_append ((m ∷ f1) ++ f2) f3 z in let r2 = times_append (m ∷ f1) f2 z in let r3 = times_cons m f1 z in
    omega arith

loop_count : (own : List ℕ) (n m : ℕ) (a b c e1 e2 e3 f1 f2 f3 : List ℕ) (z : ℕ) → Counts a e1 f1 z → Counts b e2 f2 z → Counts c e3 f3 z
    → Counts (own ++ (a ++ ((n ∷ b) ++ m ∷ c))) ((e1 ++ e2) ++ e3) (((own ++ (n ∷ m ∷ f1)) ++ f2) ++ f3) z
loop_count own n m a b c e1 e2 e3 f1 f2 f3 z h g k =
    let p = times_append own (a ++ ((n ∷ b) ++ m ∷ c)) z in let p2 = times_append a ((n ∷ b) ++ m ∷ c) z in
    let p3 = times_append (n ∷ b) (m ∷ c) z in let p4 = times_cons n b z in let p5 = times_cons m c z in
    let q = times_append (e1 ++ e2) e3 z in let q2 = times_append e1 e2 z in
    let r = times_append ((own ++ (n ∷ m ∷ f1)) ++ f2) f3 z in let r2 = times_append (own ++ (n ∷ m ∷ f1)) f2 z in
    let r3 = times_append own (n ∷ m ∷ f1) z in let r4 = times_cons n (m ∷ f1) z in let r5 = times_cons m f1 z in
    omega arith

mutual
  marks_count : (body : Body) (z : ℕ) → Counts (marks body) (entered body) (fronts body) z
  marks_count (Leaves exit) z = refl
  marks_count (Finishes words) z = refl
  marks_count (Step words body) z = marks_count body z
  marks_count (Enters label body) z = enters_count label (marks body) (entered body) (fronts body) z (marks_count body z)
  marks_count (Splits condition on exit body) z = marks_count body z
  marks_count (Selects control condition first second merge rest) z =
      select_count merge.label (marks first) (marks second) (marks rest) (entered first) (entered second) (entered rest) (fronts first) (fronts second)
      (fronts rest) z
      (marks_count first z) (marks_count second z) (marks_count rest z)
  marks_count (Switches control selector cases arms merge rest) z =
      switch_count merge.label (marks_of_arms arms) (marks rest) (entered_of_arms arms) (entered rest) (fronts_of_arms arms) (fronts rest) z
      (arms_count arms z) (marks_count rest z)
  marks_count (Loops entry header control inner next continuing merge rest) z =
      loop_count (own_label entry header.label) next.label merge.label (marks inner) (marks continuing) (marks rest)
      (entered inner) (entered continuing) (entered rest) (fronts inner) (fronts continuing) (fronts rest) z
      (marks_count inner z) (marks_count continuing z) (marks_count rest z)

  arms_count : (arms : Arms) (z : ℕ) → Counts (marks_of_arms arms) (entered_of_arms arms) (fronts_of_arms arms) z
  arms_count (Last arm) z = marks_count arm z
  arms_count (Also arm arms) z =
      arms_join (marks arm) (marks_of_arms arms) (entered arm) (entered_of_arms arms) (fronts arm) (fronts_of_arms arms) z (marks_count arm z)
      (arms_count arms z)

-- labels that stand once in the tree's order stand once among those entered and the fronts
pub labels_distinct : (l : ℕ) (body : Body) → has (marks body) l ≡ false → Distinct (marks body) → IsDistinct nat_eq (l ∷ entered body ++ fronts body)
labels_distinct l body n d =
    is_distinct (l ∷ entered body ++ fronts body)
    (times_distinct (l ∷ entered body ++ fronts body) (λ z.
    let h = distinct_times (l ∷ marks body) z (n, d) in
    let a = times_cons l (marks body) z in let b = times_cons l (entered body ++ fronts body) z in
    let c = times_append (entered body) (fronts body) z in let e = marks_count body z in
    omega arith))
