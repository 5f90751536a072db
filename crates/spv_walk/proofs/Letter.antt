-- What is not counted, against the walk.
use Rattle.std.proofs.Common.{◌≡◌, ◌≢◌, inl, inr, ℕ, ◌<◌, ◌≤◌, Bool, true, false, not, ◌==◌, ◌&&◌, ◌||◌, [], ◌∷◌, length, Option, Some, None, refl, sym, ap, ap₂, subst, ◌∙◌, arith}
use Rattle.std.specs.List.{list_any}
use Rattle.std.proofs.lemmas.Bool.Decides.{eqb_tells}
use Rattle.spv_blocks.specs.Blocks.{Code, Construct, ASelection, ASwitch, ALoop, branches, construct, merge_of, next_of, is_switch, is_it, stops, goes, is_case, names}
use Rattle.spv_walk.specs.Contexts.{Level, InSelection, InArm, InBody, InNext, Context, behind, next_context, leaves_loop, is_exit, begins_case, is_fall}
use Rattle.spv_walk.specs.Walk.{Top, Begins, Past, Along, Inside, Here, Back, Falls, Counted, Enters, end_of, leads, tries, Walk, Starts, Entered, Stopped, Merged, Continued, BackEdge}
use Rattle.spv_walk.specs.Tables.{Onward, OnMerge, OnNext, OnInto}
use Rattle.spv_walk.specs.Letter.{arms, is_led}
use Rattle.spv_walk.proofs.Unique.{tells, truth_apart, both_left, both_right, both_hold, both_fail, not_true, not_false, equal_false, true_equal, false_equal, goes_branches, goes_unnamed, merge_is_named, next_is_named, header_runs, bare_runs, leads_runs, tries_runs, one_context}
use Rattle.spv_walk.proofs.Tops.{one_top}
use Rattle.spv_walk.proofs.Inside.{inside_onward, case_switch, case_branches}

-- ---- the switches and loops round a walked place are those of their headers

abbrev pub Levels : Code → Context → Type 0
Levels f [] = Unit {0}
Levels f (InSelection m ∷ c) = Levels f c
Levels f (InArm h m a ∷ c) = (construct f h ≡ Some (ASwitch m)) × Levels f c
Levels f (InBody h m n ∷ c) = (construct f h ≡ Some (ALoop m n)) × Levels f c
Levels f (InNext h m ∷ c) = Levels f c

levels_behind : (f : Code) (b t : ℕ) (c : Context) (k : Option Construct) → construct f b ≡ k → Levels f c → Levels f (behind k b t c)
levels_behind f b t c None e l = l
levels_behind f b t c (Some (ASelection m)) e l = l
levels_behind f b t c (Some (ASwitch m)) e l = (e, l)
levels_behind f b t c (Some (ALoop m n)) e l = (e, l)

levels_next : (f : Code) (b : ℕ) (c : Context) (k : Option Construct) → Levels f c → Levels f (next_context k b c)
levels_next f b c None l = l
levels_next f b c (Some (ASelection m)) l = l
levels_next f b c (Some (ASwitch m)) l = l
levels_next f b c (Some (ALoop m n)) l = l

-- by induction on the walk
pub walked_levels : (f : Code) (l : ℕ) (c : Context) → Walk f l c → Levels f c
walked_levels f l c (Starts i h) = tt
walked_levels f l c (Entered b t e w x y) = levels_behind f b l e (construct f b) refl (walked_levels f b e w)
walked_levels f l c (Stopped b t e w x y) = levels_behind f b l e (construct f b) refl (walked_levels f b e w)
walked_levels f l c (Merged b m e w x y z) = walked_levels f b c w
walked_levels f l c (Continued b n e w x y z) = levels_next f b e (construct f b) (walked_levels f b e w)

-- so a switch round it leads to what it branches to and is no exit there
either_same : (a : Bool) → (a || a) ≡ a
either_same true = refl
either_same false = refl

case_is_led : (f : Code) (h m t : ℕ) (c : Context) → construct f h ≡ Some (ASwitch m) → begins_case f h m c t ≡ leads f h c t
case_is_led f h m t c e =
    ap (λ x. branches f h t && not (x || leaves_loop c t)) (sym (either_same (t == m)))
    ∙ sym (ap (λ k. not (is_it h (next_of k)) && branches f h t && not (is_exit (behind k h t c) (end_of f h) t)) e)

led_by_levels : (f : Code) (t : ℕ) (c : Context) → Levels f c → is_fall f c t ≡ is_led f c t
led_by_levels f t [] l = refl
led_by_levels f t (InSelection m ∷ c) l = led_by_levels f t c l
led_by_levels f t (InArm h m a ∷ c) l = ap₂ (λ b r. (b && not (t == a)) || r) (case_is_led f h m t c l.0) (led_by_levels f t c l.1)
led_by_levels f t (InBody h m n ∷ c) l = led_by_levels f t c l.1
led_by_levels f t (InNext h m ∷ c) l = led_by_levels f t c l

pub fall_is_led : (f : Code) (l t : ℕ) (c : Context) → Walk f l c → is_fall f c t ≡ is_led f c t
fall_is_led f l t c w = led_by_levels f t c (walked_levels f l c w)

-- a label that no merge instruction names is none of theirs, so it begins a case where it is one
unnamed_apart : (f : Code) (t m : ℕ) → names f t ≡ 0 → 1 ≤ names f m → (t == m) ≡ false
unnamed_apart f t m z n = false_equal t m (λ p. let g : names f t ≡ names f m = ap (names f) p in omega arith)

unnamed_stays : (f : Code) (t : ℕ) (c : Context) → names f t ≡ 0 → Levels f c → leaves_loop c t ≡ false
unnamed_stays f t [] z l = refl
unnamed_stays f t (InSelection m ∷ c) z l = unnamed_stays f t c z l
unnamed_stays f t (InArm h m a ∷ c) z l = unnamed_stays f t c z l.1
unnamed_stays f t (InBody h m n ∷ c) z l =
    both_fail (t == m) (t == n) (unnamed_apart f t m z (merge_is_named f h m (ap merge_of l.0)))
    (unnamed_apart f t n z (next_is_named f h n (ap next_of l.0)))
unnamed_stays f t (InNext h m ∷ c) z l = refl

unnamed_case : (f : Code) (h m t : ℕ) (c : Context) → names f t ≡ 0 → construct f h ≡ Some (ASwitch m) → Levels f c → begins_case f h m c t ≡ is_case f h t
unnamed_case f h m t c z e l =
    ap (λ x. branches f h t && not x)
    (both_fail (t == m) (leaves_loop c t) (unnamed_apart f t m z (merge_is_named f h m (ap merge_of e))) (unnamed_stays f t c z l))
    ∙ sym (ap₂ (λ k n. is_switch k && branches f h t && n) e (true_equal (names f t) 0 z))

arms_by_levels : (f : Code) (t : ℕ) (c : Context) → names f t ≡ 0 → Levels f c → is_fall f c t ≡ list_any (λ p. is_case f p.0 t && not (t == p.1)) (arms c)
arms_by_levels f t [] z l = refl
arms_by_levels f t (InSelection m ∷ c) z l = arms_by_levels f t c z l
arms_by_levels f t (InArm h m a ∷ c) z l =
    ap₂ (λ b r. (b && not (t == a)) || r) (unnamed_case f h m t c z l.0 l.1) (arms_by_levels f t c z l.1)
arms_by_levels f t (InBody h m n ∷ c) z l = arms_by_levels f t c z l.1
arms_by_levels f t (InNext h m ∷ c) z l = arms_by_levels f t c z l

pub fall_by_arms : (f : Code) (l t : ℕ) (c : Context) → Walk f l c → names f t ≡ 0
    → is_fall f c t ≡ list_any (λ p. is_case f p.0 t && not (t == p.1)) (arms c)
fall_by_arms f l t c w z = arms_by_levels f t c z (walked_levels f l c w)

-- ---- a back edge of a walked loop

next_loop : (k : Option Construct) (n : ℕ) → next_of k ≡ Some n → (m : ℕ) × (k ≡ Some (ALoop m n))
next_loop None n h = absurd (cc)
next_loop (Some (ASelection m)) n h = absurd (cc)
next_loop (Some (ASwitch m)) n h = absurd (cc)
next_loop (Some (ALoop m c)) n h = (m, cc)

-- a loop with a block at the top of its continue part
top_loop : (f : Code) (h b : ℕ) → Top f h b → (m : ℕ) × (n : ℕ) × (construct f h ≡ Some (ALoop m n))
top_loop f h b (Begins i c e r) = let l = next_loop (construct f h) b e in (l.0, b, l.1)
top_loop f h b (Past i a m w x y z) = top_loop f h a w
top_loop f h b (Along i a t w x y z u v) = top_loop f h a w

-- a label is no other case where all that branches to it is bare
bare_no_fall : (f : Code) (t : ℕ) (c : Context) → ((q : ℕ) → branches f q t ≡ true → construct f q ≡ None) → Levels f c → is_fall f c t ≡ false
bare_no_fall f t [] n l = refl
bare_no_fall f t (InSelection m ∷ c) n l = bare_no_fall f t c n l
bare_no_fall f t (InArm h m a ∷ c) n l = elim (tells (branches f h t)) [
  | inl e ↦ let none = n h e in let some = l.0 in absurd (cc)
  | inr e ↦ rw e (bare_no_fall f t c n l.1)
]
bare_no_fall f t (InBody h m k ∷ c) n l = bare_no_fall f t c n l.1
bare_no_fall f t (InNext h m ∷ c) n l = bare_no_fall f t c n l

switch_not_none : (k : Option Construct) → is_switch k ≡ true → k ≡ None → ⊥
switch_not_none None h e = cc (h)
switch_not_none (Some c) h e = cc (e)

module _ (f : Code) (h b t : ℕ) (top : Top f h b) (bare : construct f b ≡ None) (free : goes f b t ≡ true) (differ : t ≢ h)
    (back : (q : ℕ) → q ≢ b → branches f q t ≡ true → Top f t q) (back_bare : (q : ℕ) → q ≢ b → branches f q t ≡ true → construct f q ≡ None) where
  all_bare : (q : ℕ) → branches f q t ≡ true → construct f q ≡ None
  all_bare q e = elim (eqb_tells q b) [
    | inl (d, p) ↦ ap (construct f) p ∙ bare
    | inr (d, p) ↦ back_bare q p e
  ]

  no_case : (s : ℕ) → is_case f s t ≡ true → ⊥
  no_case s e = switch_not_none (construct f s) (case_switch f s t e) (all_bare s (case_branches f s t e))

  along_one_counted : (q : ℕ) → Counted f t q → q ≡ b
  along_one_counted q c = elim (eqb_tells q b) [
    | inl (d, p) ↦ p
    | inr (d, p) ↦ absurd (c.no_back (record { top = back q p c.branch; bare = back_bare q p c.branch }))
  ]

  along_enters : Enters f b t
  along_enters = record {
    free = free;
    counted = record {
      branch = goes_branches f b t free;
      no_back = λ k. differ (one_top f t h b k.top top);
      no_fall = λ k. no_case k.switch k.to_case;
    };
    one = along_one_counted;
  }

  -- it is no exit from the continue part
  along_no_exit : (m n : ℕ) (c : Context) → construct f h ≡ Some (ALoop m n) → is_exit (InNext h m ∷ c) (end_of f b) t ≡ false
  along_no_exit m n c e =
      let named = merge_is_named f h m (ap merge_of e) in
      let zero_named = goes_unnamed f b t free in
      let apart : t ≢ m = λ p. let g : names f t ≡ names f m = ap (names f) p in absurd (omega arith) in
      let x = false_equal t h differ in let y = false_equal t m apart in
      rw (x, y)

  along_tries : (m n : ℕ) (c : Context) → construct f h ≡ Some (ALoop m n) → Levels f c → tries f b (InNext h m ∷ c) t ≡ true
  along_tries m n c e levels =
      let exit : is_exit (behind (construct f b) b t (InNext h m ∷ c)) (end_of f b) t ≡ false =
      ap (λ k. is_exit (behind k b t (InNext h m ∷ c)) (end_of f b) t) bare ∙ along_no_exit m n c e in
      both_hold (leads f b (InNext h m ∷ c) t) (not (is_fall f (InNext h m ∷ c) t))
      (both_hold (not (stops f b) && branches f b t) (not (is_exit (behind (construct f b) b t (InNext h m ∷ c)) (end_of f b) t))
      (both_hold (not (stops f b)) (branches f b t) (not_false (stops f b) (bare_runs f b bare)) (goes_branches f b t free))
      (not_false (is_exit (behind (construct f b) b t (InNext h m ∷ c)) (end_of f b) t) exit))
      (not_false (is_fall f (InNext h m ∷ c) t) (bare_no_fall f t (InNext h m ∷ c) all_bare levels))

-- what stands at the top of the continue part of a walked loop is walked there: by induction on how it stands there
pub top_walked : (f : Code) (h b m n : ℕ) (c : Context) → construct f h ≡ Some (ALoop m n) → Walk f h c → Top f h b → Walk f b (InNext h m ∷ c)
top_walked f h b m n c e w (Begins i k d r) =
    subst (λ j. Walk f b j) (ap (λ j. next_context j h c) e) (Continued h b c w (header_runs f h b d r) d r)
top_walked f h b m n c e w (Past i a k t x y z) = Merged a b (InNext h m ∷ c) (top_walked f h a m n c e w t) x y z
top_walked f h b m n c e w (Along i a k t x y z u v) =
    subst (λ j. Walk f b (behind j a b (InNext h m ∷ c))) x
    (Entered a b (InNext h m ∷ c) (top_walked f h a m n c e w t) (along_tries f h a b t x y z u v m n c e (walked_levels f h c w)) (along_enters f h a b t x y z u v))

pub back_is_walked : (f : Code) (h b : ℕ) (c : Context) → Walk f h c → Back f h b → branches f b h ≡ true → BackEdge f h b
back_is_walked f h b c w k e =
    let l = top_loop f h b k.top in
    record { context = c; merge = l.0; walked = top_walked f h b l.0 l.1 c l.2 w k.top; bare = k.bare; branch = e }

-- ---- a branch to another case

-- the place l is in the case a of the switch h, which stands in the context c
record IsArm (f : Code) (l h a : ℕ) (c : Context) : Type 0 where
  walked : Walk f h c
  to_case : is_case f h a ≡ true
  inside : Inside f a l

abbrev AreArms : Code → ℕ → Context → Type 0
AreArms f l [] = Unit {0}
AreArms f l (InSelection m ∷ c) = AreArms f l c
AreArms f l (InArm h m a ∷ c) = IsArm f l h a c × AreArms f l c
AreArms f l (InBody h m n ∷ c) = AreArms f l c
AreArms f l (InNext h m ∷ c) = AreArms f l c

arms_onward : (f : Code) (l p : ℕ) (c : Context) → stops f l ≡ false → Onward f l p → AreArms f l c → AreArms f p c
arms_onward f l p [] s o a = tt
arms_onward f l p (InSelection m ∷ c) s o a = arms_onward f l p c s o a
arms_onward f l p (InArm h m x ∷ c) s o a =
    (record { walked = a.0.walked; to_case = a.0.to_case; inside = inside_onward f x l p a.0.inside s o }, arms_onward f l p c s o a.1)
arms_onward f l p (InBody h m n ∷ c) s o a = arms_onward f l p c s o a
arms_onward f l p (InNext h m ∷ c) s o a = arms_onward f l p c s o a

arms_behind : (f : Code) (b t : ℕ) (c : Context) (k : Option Construct) → Walk f b c → (is_switch k ≡ true → is_case f b t ≡ true) → AreArms f t c → AreArms f t (behind k b t c)
arms_behind f b t c None w e a = a
arms_behind f b t c (Some (ASelection m)) w e a = a
arms_behind f b t c (Some (ASwitch m)) w e a = (record { walked = w; to_case = e refl; inside = Here }, a)
arms_behind f b t c (Some (ALoop m n)) w e a = a

arms_next : (f : Code) (b t : ℕ) (c : Context) (k : Option Construct) → AreArms f t c → AreArms f t (next_context k b c)
arms_next f b t c None a = a
arms_next f b t c (Some (ASelection m)) a = a
arms_next f b t c (Some (ASwitch m)) a = a
arms_next f b t c (Some (ALoop m n)) a = a

case_holds : (f : Code) (s t : ℕ) → is_switch (construct f s) ≡ true → branches f s t ≡ true → names f t ≡ 0 → is_case f s t ≡ true
case_holds f s t x y z =
    both_hold (is_switch (construct f s) && branches f s t) (names f t == 0) (both_hold (is_switch (construct f s)) (branches f s t) x y)
    (true_equal (names f t) 0 z)

goes_case : (f : Code) (b t : ℕ) → goes f b t ≡ true → is_switch (construct f b) ≡ true → is_case f b t ≡ true
goes_case f b t g s = case_holds f b t s (goes_branches f b t g) (goes_unnamed f b t g)

-- by induction on the walk
walked_arms : (f : Code) (l : ℕ) (c : Context) → Walk f l c → stops f l ≡ false → AreArms f l c
walked_arms f l c (Starts i h) s = tt
walked_arms f l c (Entered b t e w x y) s =
    let r = tries_runs f b e l x in
    arms_behind f b l e (construct f b) w (goes_case f b l y.free) (arms_onward f b l e r (OnInto l y.free) (walked_arms f b e w r))
walked_arms f l c (Stopped b t e w x y) s = truth_apart (stops f l) y s
walked_arms f l c (Merged b m e w x y z) s = arms_onward f b l c x (OnMerge l y z) (walked_arms f b c w x)
walked_arms f l c (Continued b n e w x y z) s = arms_next f b l e (construct f b) (arms_onward f b l e x (OnNext l y z) (walked_arms f b e w x))

-- the switch that makes a target another case
record FallArm (f : Code) (l t : ℕ) (c : Context) : Type 0 where
  header : ℕ
  arm : ℕ
  outside : Context
  shorter : length outside < length c
  is_arm : IsArm f l header arm outside
  to_case : is_case f header t ≡ true
  differ : t ≢ arm

longer : (f : Code) (l t : ℕ) (v : Level) (c : Context) → FallArm f l t c → FallArm f l t (v ∷ c)
longer f l t v c a = record {
  header = a.header;
  arm = a.arm;
  outside = a.outside;
  shorter = let h = a.shorter in omega arith;
  is_arm = a.is_arm;
  to_case = a.to_case;
  differ = a.differ;
}

fall_arm : (f : Code) (l t : ℕ) (c : Context) → names f t ≡ 0 → AreArms f l c → is_fall f c t ≡ true → FallArm f l t c
fall_arm f l t [] z a e = absurd (cc)
fall_arm f l t (InSelection m ∷ c) z a e = longer f l t (InSelection m) c (fall_arm f l t c z a e)
fall_arm f l t (InBody h m n ∷ c) z a e = longer f l t (InBody h m n) c (fall_arm f l t c z a e)
fall_arm f l t (InNext h m ∷ c) z a e = longer f l t (InNext h m) c (fall_arm f l t c z a e)
fall_arm f l t (InArm h m x ∷ c) z a e = elim (tells (begins_case f h m c t && not (t == x))) [
  | inl g ↦ record {
    header = h;
    arm = x;
    outside = c;
    shorter = omega arith;
    is_arm = a.0;
    to_case =
        case_holds f h t (case_switch f h x a.0.to_case)
        (both_left (branches f h t) (not (t == m || leaves_loop c t)) (both_left (begins_case f h m c t) (not (t == x)) g)) z;
    differ = equal_false t x (not_true (t == x) (both_right (begins_case f h m c t) (not (t == x)) g));
  }
  | inr g ↦ longer f l t (InArm h m x) c (fall_arm f l t c z a.1 (rw g at e))
]

-- the header is not the place itself: it would stand in two contexts, one inside the other
arm_other : (f : Code) (l t : ℕ) (c : Context) → Walk f l c → stops f l ≡ false → (a : FallArm f l t c) → l ≢ a.header
arm_other f l t c w s a e =
    let same : c ≡ a.outside = one_context f l c a.outside w (subst (λ j. Walk f j a.outside) (sym e) a.is_arm.walked) s in
    let h = a.shorter in let g : length c ≡ length a.outside = ap length same in
    omega arith

pub fall_falls : (f : Code) (l t : ℕ) (c : Context) → Walk f l c → leads f l c t ≡ true → names f t ≡ 0 → is_fall f c t ≡ true → Falls f t l
fall_falls f l t c w x z e =
    let s = leads_runs f l c t x in
    let a = fall_arm f l t c z (walked_arms f l c w s) e in
    record {
      switch = a.header;
      from = a.arm;
      other = arm_other f l t c w s a;
      to_case = a.to_case;
      from_case = a.is_arm.to_case;
      differ = λ p. a.differ (sym p);
      inside = a.is_arm.inside;
    }

pub fall_not_counted : (f : Code) (l t : ℕ) (c : Context) → Walk f l c → leads f l c t ≡ true → names f t ≡ 0 → is_fall f c t ≡ true
    → Falls f t l × (Counted f t l → ⊥)
fall_not_counted f l t c w x z e = let h = fall_falls f l t c w x z e in (h, λ k. k.no_fall h)

-- ---- so the walk need not look for another case where it enters

pub entered_tries : (f : Code) (b t : ℕ) (c : Context) → Walk f b c → leads f b c t ≡ true → Enters f b t → tries f b c t ≡ true
entered_tries f b t c w x e = both_hold (leads f b c t) (not (is_fall f c t)) x (elim (tells (is_fall f c t)) [
  | inl g ↦ absurd ((fall_not_counted f b t c w x (goes_unnamed f b t e.free) g).1 e.counted)
  | inr g ↦ not_false (is_fall f c t) g
])
