-- What a merge instruction names belongs to one header, and a walked block stands in one context.
use Rattle.std.proofs.Common.{◌≡◌, ◌≢◌, ℕ, ◌+◌, ◌≤◌, Bool, true, false, not, ◌==◌, ◌&&◌, ◌||◌, List, [], ◌∷◌, Option, Some, None, ◌⊎◌, inl, inr, refl, sym, ap, subst, ◌∙◌, arith}
use Rattle.std.proofs.lemmas.Bool.Decides.{eqb_tells, nat_tests}
use Rattle.spv_blocks.specs.Blocks.{Code, Ins, Phi, Selection, Loop, Other, End, Branch, BranchIf, Switch, Return, Unreachable, Open, Construct, ASelection, ASwitch, ALoop, is_first, branches, roles, times, names_in, names, is_label, opens, last_opens, construct, merge_of, next_of, is_role, is_it, stops, goes}
use Rattle.spv_walk.specs.Contexts.{Context, behind, next_context, is_exit, is_fall}
use Rattle.spv_walk.specs.Walk.{Enters, end_of, leads, tries, Walk, Starts, Entered, Stopped, Merged, Continued}

-- ---- tests that are conjunctions

pub both_left : (a b : Bool) → (a && b) ≡ true → a ≡ true
both_left true b h = refl
both_left false b h = h

pub both_right : (a b : Bool) → (a && b) ≡ true → b ≡ true
both_right true b h = h
both_right false true h = refl
both_right false false h = h

pub both_hold : (a b : Bool) → a ≡ true → b ≡ true → (a && b) ≡ true
both_hold true true h g = refl
both_hold true false h g = g
both_hold false b h g = h

pub not_true : (a : Bool) → not a ≡ true → a ≡ false
not_true true h = sym h
not_true false h = refl

pub not_false : (a : Bool) → a ≡ false → not a ≡ true
not_false true h = sym h
not_false false h = refl

pub equal_true : (a b : ℕ) → (a == b) ≡ true → a ≡ b
equal_true a b h = grind (arith, nat_tests)

pub equal_false : (a b : ℕ) → (a == b) ≡ false → a ≢ b
equal_false a b h = grind (arith, nat_tests)

pub true_equal : (a b : ℕ) → a ≡ b → (a == b) ≡ true
true_equal a b h = grind (arith, nat_tests)

pub false_equal : (a b : ℕ) → a ≢ b → (a == b) ≡ false
false_equal a b h = grind (arith, nat_tests)

pub tells : (a : Bool) → (a ≡ true) ⊎ (a ≡ false)
tells true = inl refl
tells false = inr refl

pub either_holds : (a b : Bool) → (a || b) ≡ true → (a ≡ true) ⊎ (b ≡ true)
either_holds true b h = inl refl
either_holds false b h = inr h

pub left_holds : (a b : Bool) → a ≡ true → (a || b) ≡ true
left_holds true b h = refl
left_holds false b h = absurd (cc)

pub right_holds : (a b : Bool) → b ≡ true → (a || b) ≡ true
right_holds true b h = refl
right_holds false b h = h

pub both_fail : (a b : Bool) → a ≡ false → b ≡ false → (a || b) ≡ false
both_fail true b h g = h
both_fail false b h g = g

-- ---- the parts of a role and of a way on

pub role_label : (f : Code) (h l : ℕ) → is_role f h l ≡ true → is_label f l ≡ true
role_label f h l r =
    both_left (is_label f l) (not (is_first f l)) (both_left (is_label f l && not (is_first f l)) (not (l == h))
    (both_left (is_label f l && not (is_first f l) && not (l == h)) (names f l == 1) r))

pub role_not_first : (f : Code) (h l : ℕ) → is_role f h l ≡ true → is_first f l ≡ false
role_not_first f h l r =
    not_true (is_first f l) (both_right (is_label f l) (not (is_first f l)) (both_left (is_label f l && not (is_first f l)) (not (l == h))
    (both_left (is_label f l && not (is_first f l) && not (l == h)) (names f l == 1) r)))

pub role_other : (f : Code) (h l : ℕ) → is_role f h l ≡ true → l ≢ h
role_other f h l r =
    equal_false l h (not_true (l == h) (both_right (is_label f l && not (is_first f l)) (not (l == h))
    (both_left (is_label f l && not (is_first f l) && not (l == h)) (names f l == 1) r)))

pub role_once : (f : Code) (h l : ℕ) → is_role f h l ≡ true → names f l ≡ 1
role_once f h l r = equal_true (names f l) 1 (both_right (is_label f l && not (is_first f l) && not (l == h)) (names f l == 1) r)

pub goes_branches : (f : Code) (b t : ℕ) → goes f b t ≡ true → branches f b t ≡ true
goes_branches f b t g =
    both_left (branches f b t) (is_label f t) (both_left (branches f b t && is_label f t) (not (is_first f t))
    (both_left (branches f b t && is_label f t && not (is_first f t)) (names f t == 0) g))

pub goes_not_first : (f : Code) (b t : ℕ) → goes f b t ≡ true → is_first f t ≡ false
goes_not_first f b t g =
    not_true (is_first f t) (both_right (branches f b t && is_label f t) (not (is_first f t))
    (both_left (branches f b t && is_label f t && not (is_first f t)) (names f t == 0) g))

pub goes_unnamed : (f : Code) (b t : ℕ) → goes f b t ≡ true → names f t ≡ 0
goes_unnamed f b t g = equal_true (names f t) 0 (both_right (branches f b t && is_label f t && not (is_first f t)) (names f t == 0) g)

-- ---- counting names: each header counts what its construct names

-- what a construct names
abbrev named : Option Construct → List ℕ
named None = []
named (Some (ASelection m)) = m ∷ []
named (Some (ASwitch m)) = m ∷ []
named (Some (ALoop m c)) = m ∷ c ∷ []

opens_names : (e : End) (i : Ins) (l : ℕ) → times (named (opens e i)) l ≤ times (roles i) l
opens_names Open i l = omega arith
opens_names (Branch a) (Phi at t r ps) l = omega arith
opens_names (Branch a) (Selection at m) l = omega arith
opens_names (Branch a) (Loop at m c) l = omega arith
opens_names (Branch a) (Other at) l = omega arith
opens_names (BranchIf a b) (Phi at t r ps) l = omega arith
opens_names (BranchIf a b) (Selection at m) l = omega arith
opens_names (BranchIf a b) (Loop at m c) l = omega arith
opens_names (BranchIf a b) (Other at) l = omega arith
opens_names (Switch d ps) (Phi at t r qs) l = omega arith
opens_names (Switch d ps) (Selection at m) l = omega arith
opens_names (Switch d ps) (Loop at m c) l = omega arith
opens_names (Switch d ps) (Other at) l = omega arith
opens_names Return (Phi at t r ps) l = omega arith
opens_names Return (Selection at m) l = omega arith
opens_names Return (Loop at m c) l = omega arith
opens_names Return (Other at) l = omega arith
opens_names Unreachable (Phi at t r ps) l = omega arith
opens_names Unreachable (Selection at m) l = omega arith
opens_names Unreachable (Loop at m c) l = omega arith
opens_names Unreachable (Other at) l = omega arith

last_names : (e : End) (is : List Ins) (l : ℕ) → times (named (last_opens e is)) l ≤ names_in is l
last_names e [] l = omega arith
last_names e (i ∷ []) l = let h = opens_names e i l in omega arith
last_names e (i ∷ j ∷ is) l = let h = last_names e (j ∷ is) l in omega arith

-- what the construct of a header names is counted
found_names : (f : Code) (h l : ℕ) → times (named (construct f h)) l ≤ names f l
found_names [] h l = omega arith
found_names (b ∷ bs) h l = elim (eqb_tells b.label h) [
  | inl (e, p) ↦ rw e (let g = last_names b.end b.body l in omega arith)
  | inr (e, p) ↦ rw e (let g = found_names bs h l in omega arith)
]

-- and twice for two headers
two_found : (f : Code) (h k l : ℕ) → h ≢ k → times (named (construct f h)) l + times (named (construct f k)) l ≤ names f l
two_found [] h k l n = omega arith
two_found (b ∷ bs) h k l n = elim (eqb_tells b.label h) [
  | inl (e, p) ↦ elim (eqb_tells b.label k) [
    | inl (d, q) ↦ absurd (n (sym p ∙ q))
    | inr (d, q) ↦ rw (e, d) (let g = last_names b.end b.body l in let m = found_names bs k l in omega arith)
  ]
  | inr (e, p) ↦ elim (eqb_tells b.label k) [
    | inl (d, q) ↦ rw (e, d) (let g = last_names b.end b.body l in let m = found_names bs h l in omega arith)
    | inr (d, q) ↦ rw (e, d) (let g = two_found bs h k l n in omega arith)
  ]
]

merge_names : (k : Option Construct) (l : ℕ) → merge_of k ≡ Some l → 1 ≤ times (named k) l
merge_names None l h = absurd (cc)
merge_names (Some (ASelection m)) l h = grind (arith, nat_tests)
merge_names (Some (ASwitch m)) l h = grind (arith, nat_tests)
merge_names (Some (ALoop m c)) l h = grind (arith, nat_tests)

next_names : (k : Option Construct) (l : ℕ) → next_of k ≡ Some l → 1 ≤ times (named k) l
next_names None l h = absurd (cc)
next_names (Some (ASelection m)) l h = absurd (cc)
next_names (Some (ASwitch m)) l h = absurd (cc)
next_names (Some (ALoop m c)) l h = grind (arith, nat_tests)

both_names : (k : Option Construct) (l : ℕ) → merge_of k ≡ Some l → next_of k ≡ Some l → 2 ≤ times (named k) l
both_names None l h g = absurd (cc)
both_names (Some (ASelection m)) l h g = absurd (cc)
both_names (Some (ASwitch m)) l h g = absurd (cc)
both_names (Some (ALoop m c)) l h g = grind (arith, nat_tests)

-- a label that is named once is the merge block of one header at most
pub one_merge : (f : Code) (h k l : ℕ) → names f l ≡ 1 → merge_of (construct f h) ≡ Some l → merge_of (construct f k) ≡ Some l → h ≡ k
one_merge f h k l once a b = elim (eqb_tells h k) [
  | inl (e, p) ↦ p
  | inr (e, p) ↦
      let x = merge_names (construct f h) l a in let y = merge_names (construct f k) l b in let z = two_found f h k l p in
      absurd (omega arith)
]

-- and the continue target of one header at most
pub one_next : (f : Code) (h k l : ℕ) → names f l ≡ 1 → next_of (construct f h) ≡ Some l → next_of (construct f k) ≡ Some l → h ≡ k
one_next f h k l once a b = elim (eqb_tells h k) [
  | inl (e, p) ↦ p
  | inr (e, p) ↦
      let x = next_names (construct f h) l a in let y = next_names (construct f k) l b in let z = two_found f h k l p in
      absurd (omega arith)
]

-- and not both
pub merge_or_next : (f : Code) (h k l : ℕ) → names f l ≡ 1 → merge_of (construct f h) ≡ Some l → next_of (construct f k) ≡ Some l → ⊥
merge_or_next f h k l once a b = elim (eqb_tells h k) [
  | inl (e, p) ↦
      let c : next_of (construct f h) ≡ Some l = ap (λ j. next_of (construct f j)) p ∙ b in
      let x = both_names (construct f h) l a c in let y = found_names f h l in
      omega arith
  | inr (e, p) ↦
      let x = merge_names (construct f h) l a in let y = next_names (construct f k) l b in let z = two_found f h k l p in
      omega arith
]

-- a label that a construct names is named
pub merge_is_named : (f : Code) (h l : ℕ) → merge_of (construct f h) ≡ Some l → 1 ≤ names f l
merge_is_named f h l a = let x = merge_names (construct f h) l a in let y = found_names f h l in omega arith

pub next_is_named : (f : Code) (h l : ℕ) → next_of (construct f h) ≡ Some l → 1 ≤ names f l
next_is_named f h l a = let x = next_names (construct f h) l a in let y = found_names f h l in omega arith

-- a header that is its own continue target is named, so it is neither gone on to nor walked to as a merge block or continue target
pub is_it_equal : (t : ℕ) (o : Option ℕ) → is_it t o ≡ true → o ≡ Some t
is_it_equal t None h = cc (h)
is_it_equal t (Some c) h = ap Some (equal_true c t h)

pub equal_is_it : (t : ℕ) (o : Option ℕ) → o ≡ Some t → is_it t o ≡ true
equal_is_it t o h = ap (is_it t) h ∙ true_equal t t refl

pub stops_next : (f : Code) (l : ℕ) → stops f l ≡ true → next_of (construct f l) ≡ Some l
stops_next f l s = is_it_equal l (next_of (construct f l)) s

pub unnamed_runs : (f : Code) (t : ℕ) → names f t ≡ 0 → stops f t ≡ false
unnamed_runs f t z = elim (tells (stops f t)) [
  | inl s ↦ let n = next_is_named f t t (stops_next f t s) in absurd (omega arith)
  | inr s ↦ s
]

pub merge_runs : (f : Code) (h m : ℕ) → merge_of (construct f h) ≡ Some m → is_role f h m ≡ true → stops f m ≡ false
merge_runs f h m e r = elim (tells (stops f m)) [
  | inl s ↦ absurd (merge_or_next f h m m (role_once f h m r) e (stops_next f m s))
  | inr s ↦ s
]

pub next_runs : (f : Code) (h n : ℕ) → next_of (construct f h) ≡ Some n → is_role f h n ≡ true → stops f n ≡ false
next_runs f h n e r = elim (tells (stops f n)) [
  | inl s ↦ absurd (role_other f h n r (one_next f n h n (role_once f h n r) (stops_next f n s) e))
  | inr s ↦ s
]

-- and a header with a continue target in another place goes on
pub header_runs : (f : Code) (h n : ℕ) → next_of (construct f h) ≡ Some n → is_role f h n ≡ true → stops f h ≡ false
header_runs f h n e r = elim (tells (stops f h)) [
  | inl s ↦ let d = stops_next f h s in absurd (role_other f h n r (cc))
  | inr s ↦ s
]

-- a block with no construct goes on
pub bare_runs : (f : Code) (b : ℕ) → construct f b ≡ None → stops f b ≡ false
bare_runs f b e = ap (λ k. is_it b (next_of k)) e

-- ---- a walked block stands in one context

pub leads_runs : (f : Code) (b : ℕ) (c : Context) (t : ℕ) → leads f b c t ≡ true → stops f b ≡ false
leads_runs f b c t h =
    not_true (stops f b) (both_left (not (stops f b)) (branches f b t)
    (both_left (not (stops f b) && branches f b t) (not (is_exit (behind (construct f b) b t c) (end_of f b) t)) h))

pub leads_branches : (f : Code) (b : ℕ) (c : Context) (t : ℕ) → leads f b c t ≡ true → branches f b t ≡ true
leads_branches f b c t h =
    both_right (not (stops f b)) (branches f b t)
    (both_left (not (stops f b) && branches f b t) (not (is_exit (behind (construct f b) b t c) (end_of f b) t)) h)

pub tries_leads : (f : Code) (b : ℕ) (c : Context) (t : ℕ) → tries f b c t ≡ true → leads f b c t ≡ true
tries_leads f b c t h = both_left (leads f b c t) (not (is_fall f c t)) h

pub tries_runs : (f : Code) (b : ℕ) (c : Context) (t : ℕ) → tries f b c t ≡ true → stops f b ≡ false
tries_runs f b c t h = leads_runs f b c t (tries_leads f b c t h)

-- a block is entered from one block
pub one_enterer : (f : Code) (b d t : ℕ) → Enters f b t → Enters f d t → b ≡ d
one_enterer f b d t e g = g.one b e.counted

pub truth_apart : (x : Bool) {P : Type 0} → x ≡ true → x ≡ false → P
truth_apart x h g = absurd (cc)

-- By induction on the first walk: the way to the block and the block before are the same in both, since first block, block gone on to, merge block and
-- continue target are told apart by what names the block.
pub one_context : (f : Code) (t : ℕ) (c d : Context) → Walk f t c → Walk f t d → stops f t ≡ false → c ≡ d
one_context f t c d (Starts l h) (Starts k g) s = refl
one_context f t c d (Starts l h) (Entered b u e w x y) s = truth_apart (is_first f t) h (goes_not_first f b t y.free)
one_context f t c d (Starts l h) (Stopped b u e w x y) s = truth_apart (stops f t) y s
one_context f t c d (Starts l h) (Merged b m e w x y z) s = truth_apart (is_first f t) h (role_not_first f b t z)
one_context f t c d (Starts l h) (Continued b n e w x y z) s = truth_apart (is_first f t) h (role_not_first f b t z)
one_context f t c d (Entered a u i v p q) (Starts l h) s = truth_apart (is_first f t) h (goes_not_first f a t q.free)
one_context f t c d (Entered a u i v p q) (Entered b u2 e w x y) s =
    let same = one_enterer f a b t q y in
    let w2 : Walk f a e = subst (λ j. Walk f j e) (sym same) w in
    ap (λ k. behind (construct f a) a t k) (one_context f a i e v w2 (tries_runs f a i t p)) ∙ ap (λ j. behind (construct f j) j t e) same
one_context f t c d (Entered a u i v p q) (Stopped b u2 e w x y) s = truth_apart (stops f t) y s
one_context f t c d (Entered a u i v p q) (Merged b m e w x y z) s = let o = role_once f b t z in let n = goes_unnamed f a t q.free in absurd (omega arith)
one_context f t c d (Entered a u i v p q) (Continued b n e w x y z) s = let o = role_once f b t z in let n0 = goes_unnamed f a t q.free in absurd (omega arith)
one_context f t c d (Stopped a u i v p q) w s = truth_apart (stops f t) q s
one_context f t c d (Merged a u i v p q r) (Starts l h) s = truth_apart (is_first f t) h (role_not_first f a t r)
one_context f t c d (Merged a u i v p q r) (Entered b u2 e w x y) s = let o = role_once f a t r in let n = goes_unnamed f b t y.free in absurd (omega arith)
one_context f t c d (Merged a u i v p q r) (Stopped b u2 e w x y) s = truth_apart (stops f t) y s
one_context f t c d (Merged a u i v p q r) (Merged b m e w x y z) s =
    one_context f a c d v (subst (λ j. Walk f j d) (one_merge f b a t (role_once f b t z) y q) w) p
one_context f t c d (Merged a u i v p q r) (Continued b n e w x y z) s = absurd (merge_or_next f a b t (role_once f b t z) q y)
one_context f t c d (Continued a u i v p q r) (Starts l h) s = truth_apart (is_first f t) h (role_not_first f a t r)
one_context f t c d (Continued a u i v p q r) (Entered b u2 e w x y) s = let o = role_once f a t r in let n = goes_unnamed f b t y.free in absurd (omega arith)
one_context f t c d (Continued a u i v p q r) (Stopped b u2 e w x y) s = truth_apart (stops f t) y s
one_context f t c d (Continued a u i v p q r) (Merged b m e w x y z) s = absurd (merge_or_next f b a t (role_once f b t z) y q)
one_context f t c d (Continued a u i v p q r) (Continued b n e w x y z) s =
    let same = one_next f a b t (role_once f b t z) q y in
    let w2 : Walk f a e = subst (λ j. Walk f j e) (sym same) w in
    ap (λ k. next_context (construct f a) a k) (one_context f a i e v w2 p) ∙ ap (λ j. next_context (construct f j) j e) same
