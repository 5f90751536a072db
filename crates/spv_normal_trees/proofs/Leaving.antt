-- An exit goes to a label that is named, or to a header round it.
use Rattle.std.proofs.Common.{◌≡◌, ◌⊎◌, inl, inr, ℕ, ◌≤◌, true, false, not, ◌&&◌, ◌||◌, ◌==◌, List, [], ◌∷◌, Option, Some, None, refl, sym, ap, subst, arith}
use Rattle.spv_blocks.specs.Blocks.{Code, Construct, ASelection, ASwitch, ALoop, End, construct, has, merge_of, next_of, names}
use Rattle.spv_walk.specs.Contexts.{InSelection, InArm, InBody, InNext, Context, behind, is_back_pair, is_exit, leaves_inner, leaves_loop, leaves_switch, next_context}
use Rattle.spv_walk.specs.Walk.{Walk, Starts, Entered, Stopped, Merged, Continued, end_of}
use Rattle.spv_walk.proofs.Unique.{truth_apart, both_left, equal_true, false_equal, not_false, either_holds, left_holds, right_holds, merge_is_named, next_is_named}
use Rattle.spv_normal.specs.Order.{is_front, is_loop}
use Rattle.spv_normal_trees.proofs.Regions.{Turned, LeadsOut, is_unnamed}

-- the labels that the constructs round a place name are named, and the headers of continue parts are loops
abbrev pub Named : Code → Context → Type 0
Named f [] = Unit {0}
Named f (InSelection m ∷ c) = (1 ≤ names f m) × Named f c
Named f (InArm h m a ∷ c) = (1 ≤ names f m) × Named f c
Named f (InBody h m n ∷ c) = (1 ≤ names f m) × (1 ≤ names f n) × Named f c
Named f (InNext h m ∷ c) = (1 ≤ names f m) × (is_loop (construct f h) ≡ true) × Named f c

pub named_behind : (f : Code) (b t : ℕ) (c : Context) (k : Option Construct) → construct f b ≡ k → Named f c → Named f (behind k b t c)
named_behind f b t c None e l = l
named_behind f b t c (Some (ASelection m)) e l = (merge_is_named f b m (ap merge_of e), l)
named_behind f b t c (Some (ASwitch m)) e l = (merge_is_named f b m (ap merge_of e), l)
named_behind f b t c (Some (ALoop m n)) e l = (merge_is_named f b m (ap merge_of e), next_is_named f b n (ap next_of e), l)

pub named_next : (f : Code) (b : ℕ) (c : Context) (k : Option Construct) → construct f b ≡ k → Named f c → Named f (next_context k b c)
named_next f b c None e l = l
named_next f b c (Some (ASelection m)) e l = l
named_next f b c (Some (ASwitch m)) e l = l
named_next f b c (Some (ALoop m n)) e l = (merge_is_named f b m (ap merge_of e), ap is_loop e, l)

-- by induction on the walk
pub walked_named : (f : Code) (l : ℕ) (c : Context) → Walk f l c → Named f c
walked_named f l c (Starts i h) = tt
walked_named f l c (Entered b t e w x y) = named_behind f b l e (construct f b) refl (walked_named f b e w)
walked_named f l c (Stopped b t e w x y) = named_behind f b l e (construct f b) refl (walked_named f b e w)
walked_named f l c (Merged b m e w x y z) = walked_named f b c w
walked_named f l c (Continued b n e w x y z) = named_next f b e (construct f b) refl (walked_named f b e w)

-- the header of a continue part round it
pub record IsTurned (f : Code) (c : Context) (t : ℕ) : Type 0 where
  pub loops : is_loop (construct f t) ≡ true
  pub seen : (seen : List ℕ) → Turned seen c → has seen t ≡ true

-- where an exit goes
abbrev pub GoesOut : Code → Context → ℕ → Type 0
GoesOut f c t = (1 ≤ names f t) ⊎ IsTurned f c t

inner_named : (f : Code) (c : Context) (e : End) (t : ℕ) → Named f c → leaves_inner c e t ≡ true → GoesOut f c t
inner_named f [] e t n h = truth_apart false h refl
inner_named f (InSelection m ∷ c) e t n h = inl (subst (λ j. 1 ≤ names f j) (sym (equal_true t m h)) n.0)
inner_named f (InArm i m a ∷ c) e t n h = inl (subst (λ j. 1 ≤ names f j) (sym (equal_true t m h)) n.0)
inner_named f (InBody i m k ∷ c) e t n h = truth_apart false h refl
inner_named f (InNext i m ∷ c) e t n h = elim (either_holds (t == i) (t == m && is_back_pair i m e) h) [
  | inl g ↦ let same = equal_true t i g in inr (record {
    loops = subst (λ j. is_loop (construct f j) ≡ true) (sym same) n.1;
    seen = λ seen turned. subst (λ j. has seen j ≡ true) (sym same) turned.0;
  })
  | inr g ↦ inl (subst (λ j. 1 ≤ names f j) (sym (equal_true t m (both_left (t == m) (is_back_pair i m e) g))) n.0)
]

switch_named : (f : Code) (c : Context) (t : ℕ) → Named f c → leaves_switch c t ≡ true → 1 ≤ names f t
switch_named f [] t n h = truth_apart false h refl
switch_named f (InSelection m ∷ c) t n h = switch_named f c t n.1 h
switch_named f (InArm i m a ∷ c) t n h = subst (λ j. 1 ≤ names f j) (sym (equal_true t m h)) n.0
switch_named f (InBody i m k ∷ c) t n h = truth_apart false h refl
switch_named f (InNext i m ∷ c) t n h = truth_apart false h refl

loop_named : (f : Code) (c : Context) (t : ℕ) → Named f c → leaves_loop c t ≡ true → 1 ≤ names f t
loop_named f [] t n h = truth_apart false h refl
loop_named f (InSelection m ∷ c) t n h = loop_named f c t n.1 h
loop_named f (InArm i m a ∷ c) t n h = loop_named f c t n.1 h
loop_named f (InBody i m k ∷ c) t n h = elim (either_holds (t == m) (t == k) h) [
  | inl g ↦ subst (λ j. 1 ≤ names f j) (sym (equal_true t m g)) n.0
  | inr g ↦ subst (λ j. 1 ≤ names f j) (sym (equal_true t k g)) n.1
]
loop_named f (InNext i m ∷ c) t n h = truth_apart false h refl

pub exit_goes : (f : Code) (c : Context) (e : End) (t : ℕ) → Named f c → is_exit c e t ≡ true → GoesOut f c t
exit_goes f c e t n h = elim (either_holds (leaves_inner c e t || leaves_switch c t) (leaves_loop c t) h) [
  | inl g ↦ elim (either_holds (leaves_inner c e t) (leaves_switch c t) g) [
    | inl i ↦ inner_named f c e t n i
    | inr i ↦ inl (switch_named f c t n i)
  ]
  | inr g ↦ inl (loop_named f c t n g)
]

-- behind a walked block
pub turned_behind : (seen : List ℕ) (b t : ℕ) (c : Context) (k : Option Construct) → Turned seen c → Turned seen (behind k b t c)
turned_behind seen b t c None l = l
turned_behind seen b t c (Some (ASelection m)) l = l
turned_behind seen b t c (Some (ASwitch m)) l = l
turned_behind seen b t c (Some (ALoop m n)) l = l

pub leads_goes : (f : Code) (l : ℕ) (c : Context) (t : ℕ) → Walk f l c → LeadsOut f l c t → GoesOut f (behind (construct f l) l t c) t
leads_goes f l c t w h =
    exit_goes f (behind (construct f l) l t c) (end_of f l) t (named_behind f l t c (construct f l) refl (walked_named f l c w)) h

named_not : (f : Code) (t : ℕ) → 1 ≤ names f t → is_unnamed f t ≡ false
named_not f t h = false_equal (names f t) 0 (λ e. omega arith)

-- it is named or seen
pub leads_skipped : (f : Code) (l : ℕ) (c : Context) (t : ℕ) (seen : List ℕ) → Walk f l c → Turned seen c → LeadsOut f l c t
    → (is_unnamed f t ≡ false) ⊎ (has seen t ≡ true)
leads_skipped f l c t seen w turned h = elim (leads_goes f l c t w h) [
  | inl g ↦ inl (named_not f t g)
  | inr g ↦ inr (g.seen seen (turned_behind seen l t c (construct f l) turned))
]

-- and is a front
pub leads_front : (f : Code) (l : ℕ) (c : Context) (t : ℕ) → Walk f l c → LeadsOut f l c t → is_front f t ≡ true
leads_front f l c t w h = elim (leads_goes f l c t w h) [
  | inl g ↦ left_holds (not (names f t == 0)) (is_loop (construct f t)) (not_false (names f t == 0) (named_not f t g))
  | inr g ↦ right_holds (not (names f t == 0)) (is_loop (construct f t)) g.loops
]
