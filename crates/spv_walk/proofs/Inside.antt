-- A table of what is reached from several starts, sound and closed, is exact; and which branches are counted.
use Rattle.std.proofs.Common.{◌≡◌, ℕ, Bool, true, false, not, ◌==◌, ◌&&◌, ◌||◌, ◌+◌, ◌≤◌, List, [], ◌∷◌, Option, Some, None, ◌⊎◌, inl, inr, refl, sym, ap, subst, ◌∙◌, arith}
use Rattle.std.specs.Prelude.{is_none}
use Rattle.spv_blocks.specs.Blocks.{Code, Construct, construct, branches, is_switch, stops, goes, names, is_case, is_it, has, times, is_label, is_first}
use Rattle.spv_walk.specs.Walk.{Top, Inside, Here, ToMerge, ToNext, Into, Back, Falls, Counted, Enters}
use Rattle.spv_walk.specs.Tables.{Onward, OnMerge, OnNext, OnInto, InsideSome, ReachTable, ReachTurn, OtherCase, FallsAt, Remains, IsLone, Tells, InTops, IsDone, is_back_by, only}
use Rattle.spv_walk.proofs.Unique.{tells, truth_apart, both_left, both_right, both_hold, not_true, not_false, equal_true, equal_false, true_equal, either_holds, left_holds, right_holds, is_it_equal, equal_is_it, goes_branches}

-- ---- what is inside

pub inside_onward : (f : Code) (x b p : ℕ) → Inside f x b → stops f b ≡ false → Onward f b p → Inside f x p
inside_onward f x b p i s (OnMerge m e r) = ToMerge b p i s e r
inside_onward f x b p i s (OnNext c e r) = ToNext b p i s e r
inside_onward f x b p i s (OnInto t g) = Into b p i s g

pub inside_some_onward : (f : Code) (Start : ℕ → Type 0) (b p : ℕ) → InsideSome f Start b → stops f b ≡ false → Onward f b p → InsideSome f Start p
inside_some_onward f Start b p i s o = record { from = i.from; starts = i.starts; inside = inside_onward f i.from b p i.inside s o }

module _ (f : Code) (Start In Done : ℕ → Type 0) where
  -- at first, where no block of the table is done
  pub reach_begin : ((p : ℕ) → In p → InsideSome f Start p) → ((x : ℕ) → Start x → In x) → ((p : ℕ) → In p → Done p → ⊥) → ReachTable f Start In Done
  reach_begin s b n = record { sound = s; starts = b; onward = λ b p i d r o. absurd (n b i d) }

  -- where all are done: by induction on how a block is reached
  reach_from : ReachTable f Start In Done → ((p : ℕ) → In p → Done p) → (x p : ℕ) → Start x → Inside f x p → In p
  reach_from t d x p s Here = t.starts x s
  reach_from t d x p s (ToMerge b m i r e k) = let j = reach_from t d x b s i in t.onward b p j (d b j) r (OnMerge p e k)
  reach_from t d x p s (ToNext b c i r e k) = let j = reach_from t d x b s i in t.onward b p j (d b j) r (OnNext p e k)
  reach_from t d x p s (Into b t2 i r g) = let j = reach_from t d x b s i in t.onward b p j (d b j) r (OnInto p g)

  pub reach_end : ReachTable f Start In Done → ((p : ℕ) → In p → Done p) → (p : ℕ) → InsideSome f Start p → In p
  reach_end t d p i = reach_from t d i.from p i.starts i.inside

-- a turn keeps the table
pub reach_turn : (f : Code) (Start In In2 Done Done2 : ℕ → Type 0) (b : ℕ) → ReachTable f Start In Done → ReachTurn f Start In In2 Done Done2 b → ReachTable f Start In2 Done2
reach_turn f Start In In2 Done Done2 b t u = record {
  sound = u.sound;
  starts = λ x s. u.grows x (t.starts x s);
  onward = λ q p i d r o.
      elim ((u.settled q i d).1) [
        | inl g ↦ u.grows p (t.onward q p (u.settled q i d).0 g r o)
        | inr e ↦ u.onward p (subst (λ j. In j) e (u.settled q i d).0) (subst (λ j. stops f j ≡ false) e r) (subst (λ j. Onward f j p) e o)
      ];
}

-- one start
pub inside_one : (f : Code) (x p : ℕ) → InsideSome f (λ y. y ≡ x) p → Inside f x p
inside_one f x p i = subst (λ y. Inside f y p) i.starts i.inside

pub one_inside : (f : Code) (x p : ℕ) → Inside f x p → InsideSome f (λ y. y ≡ x) p
one_inside f x p i = record { from = x; starts = refl; inside = i }

-- ---- which branches are counted

switch_not_bare : (k : Option Construct) → is_switch k ≡ true → k ≡ None → ⊥
switch_not_bare None h e = cc (h)
switch_not_bare (Some c) h e = cc (e)

pub case_switch : (f : Code) (s t : ℕ) → is_case f s t ≡ true → is_switch (construct f s) ≡ true
case_switch f s t h = both_left (is_switch (construct f s)) (branches f s t) (both_left (is_switch (construct f s) && branches f s t) (names f t == 0) h)

pub case_branches : (f : Code) (s t : ℕ) → is_case f s t ≡ true → branches f s t ≡ true
case_branches f s t h = both_right (is_switch (construct f s)) (branches f s t) (both_left (is_switch (construct f s) && branches f s t) (names f t == 0) h)

pub case_unnamed : (f : Code) (s t : ℕ) → is_case f s t ≡ true → names f t ≡ 0
case_unnamed f s t h = equal_true (names f t) 0 (both_right (is_switch (construct f s) && branches f s t) (names f t == 0) h)

-- the header of a switch is never a back edge
pub case_no_back : (f : Code) (s t u : ℕ) → is_case f s t ≡ true → Back f u s → ⊥
case_no_back f s t u h b = switch_not_bare (construct f s) (case_switch f s t h) b.bare

pub falls_at : (f : Code) (t p : ℕ) → Falls f t p → (s : ℕ) × FallsAt f s t p
falls_at f t p h = (
  h.switch,
  record {
    to_case = h.to_case;
    other = h.other;
    inside = record { from = h.from; starts = record { to_case = h.from_case; differ = h.differ }; inside = h.inside };
  },
)

pub at_falls : (f : Code) (s t p : ℕ) → FallsAt f s t p → Falls f t p
at_falls f s t p h = record {
  switch = s;
  from = h.inside.from;
  other = h.other;
  to_case = h.to_case;
  from_case = h.inside.starts.to_case;
  differ = h.inside.starts.differ;
  inside = h.inside.inside;
}

-- where all switches that have t as a case are looked at, what remains is what is counted
pub remains_counted : (f : Code) (Looked : ℕ → Type 0) (t p : ℕ) → ((s : ℕ) → is_case f s t ≡ true → Looked s) → Remains f Looked t p → Counted f t p
remains_counted f Looked t p all r = record {
  branch = r.branch;
  no_back = r.no_back;
  no_fall = λ h. let at = falls_at f t p h in r.no_fall at.0 (all at.0 at.1.to_case) at.1;
}

pub counted_remains : (f : Code) (Looked : ℕ → Type 0) (t p : ℕ) → Counted f t p → Remains f Looked t p
counted_remains f Looked t p c = record { branch = c.branch; no_back = c.no_back; no_fall = λ s l h. c.no_fall (at_falls f s t p h) }

pub remains_more : (f : Code) (Looked Looked2 : ℕ → Type 0) (s t p : ℕ) → ((u : ℕ) → Looked2 u → Looked u ⊎ (u ≡ s)) → Remains f Looked t p → (FallsAt f s t p → ⊥) → Remains f Looked2 t p
remains_more f Looked Looked2 s t p m r n = record {
  branch = r.branch;
  no_back = r.no_back;
  no_fall = λ u l h. elim (m u l) [ inl g ↦ r.no_fall u g h | inr e ↦ n (subst (λ j. FallsAt f j t p) e h) ];
}

pub remains_less : (f : Code) (Looked Looked2 : ℕ → Type 0) (t p : ℕ) → ((u : ℕ) → Looked u → Looked2 u) → Remains f Looked2 t p → Remains f Looked t p
remains_less f Looked Looked2 t p m r = record { branch = r.branch; no_back = r.no_back; no_fall = λ u l h. r.no_fall u (m u l) h }

-- The one block that branches to t, back edges aside, enters it: a switch that has t as a case is such a block, and so it is this one.
pub lone_counted : (f : Code) (b t : ℕ) → IsLone f b t → Counted f t b
lone_counted f b t l = record {
  branch = goes_branches f b t l.free;
  no_back = l.no_back;
  no_fall = λ h. h.other (sym (l.one h.switch (case_branches f h.switch t h.to_case) (case_no_back f h.switch t t h.to_case)));
}

pub lone_enters : (f : Code) (b t : ℕ) → IsLone f b t → Enters f b t
lone_enters f b t l = record { free = l.free; counted = lone_counted f b t l; one = λ q c. l.one q c.branch c.no_back }

-- where t is a case of no switch, nothing else enters it
pub enters_lone : (f : Code) (b t : ℕ) → ((s : ℕ) → is_case f s t ≡ true → ⊥) → Enters f b t → IsLone f b t
enters_lone f b t n e = record {
  free = e.free;
  no_back = e.counted.no_back;
  one = λ q x y. e.one q (record { branch = x; no_back = y; no_fall = λ h. n h.switch h.to_case });
}

-- ---- what is counted, by tests

pub inside_some_more : (f : Code) (Start Start2 : ℕ → Type 0) (p : ℕ) → ((x : ℕ) → Start x → Start2 x) → InsideSome f Start p → InsideSome f Start2 p
inside_some_more f Start Start2 p m i = record { from = i.from; starts = m i.from i.starts; inside = i.inside }

pub reach_cases : (f : Code) (s t : ℕ) (start marks : ℕ → Bool) → Tells start (OtherCase f s t) → Tells marks (InsideSome f (IsDone start)) → Tells marks (InsideSome f (OtherCase f s t))
reach_cases f s t start marks a m = record {
  sound = λ p h. inside_some_more f (IsDone start) (OtherCase f s t) p a.sound (m.sound p h);
  whole = λ p i. m.whole p (inside_some_more f (OtherCase f s t) (IsDone start) p a.whole i);
}

none_bare : {A : Type 0} (o : Option A) → is_none o ≡ true → o ≡ None
none_bare None h = refl
none_bare (Some x) h = cc (h)

module _ (f : Code) (top : ℕ → Option ℕ) (t : ℕ) (whole : (h b : ℕ) → Top f h b → InTops top h b) (sound : (h b : ℕ) → InTops top h b → Top f h b) where
  back_by : (p : ℕ) → is_back_by f top t p ≡ true → Back f t p
  back_by p h = record {
    top = sound t p (is_it_equal t (top p) (both_left (is_it t (top p)) (is_none (construct f p)) h));
    bare = none_bare (construct f p) (both_right (is_it t (top p)) (is_none (construct f p)) h);
  }

  by_back : (p : ℕ) → Back f t p → is_back_by f top t p ≡ true
  by_back p b = both_hold (is_it t (top p)) (is_none (construct f p)) (equal_is_it t (top p) (whole t p b.top)) (ap (λ k. is_none k) b.bare)

  pub left_begins : Tells (λ p. branches f p t && not (is_back_by f top t p)) (Remains f (λ s. ⊥) t)
  left_begins = record {
    sound = λ p h. record {
      branch = both_left (branches f p t) (not (is_back_by f top t p)) h;
      no_back = λ b. truth_apart (is_back_by f top t p) (by_back p b) (not_true (is_back_by f top t p) (both_right (branches f p t) (not (is_back_by f top t p)) h));
      no_fall = λ s l. absurd l;
    };
    whole = λ p r. both_hold (branches f p t) (not (is_back_by f top t p)) r.branch (elim (tells (is_back_by f top t p)) [
      | inl e ↦ absurd (r.no_back (back_by p e))
      | inr e ↦ not_false (is_back_by f top t p) e
    ]);
  }

pub looked_more : (looked : ℕ → Bool) (s u : ℕ) → IsDone (λ v. looked v || v == s) u → IsDone looked u ⊎ (u ≡ s)
looked_more looked s u h = elim (either_holds (looked u) (u == s) h) [ inl e ↦ inl e | inr e ↦ inr (equal_true u s e) ]

module _ (f : Code) (looked left marks : ℕ → Bool) (s t : ℕ) (is : is_case f s t ≡ true) (l : Tells left (Remains f (IsDone looked) t)) (m : Tells marks (InsideSome f (OtherCase f s t))) where
  no_fall_here : (p : ℕ) → (p == s || not (marks p)) ≡ true → FallsAt f s t p → ⊥
  no_fall_here p h a = elim (either_holds (p == s) (not (marks p)) h) [
    | inl e ↦ a.other (equal_true p s e)
    | inr e ↦ truth_apart (marks p) (m.whole p a.inside) (not_true (marks p) e)
  ]

  kept_here : (p : ℕ) → (FallsAt f s t p → ⊥) → (p == s || not (marks p)) ≡ true
  kept_here p n = elim (tells (p == s)) [
    | inl e ↦ left_holds (p == s) (not (marks p)) e
    | inr e ↦ elim (tells (marks p)) [
      | inl g ↦ absurd (n (record { to_case = is; other = equal_false p s e; inside = m.sound p g }))
      | inr g ↦ right_holds (p == s) (not (marks p)) (not_false (marks p) g)
    ]
  ]

  pub left_turns : Tells (λ p. left p && (p == s || not (marks p))) (Remains f (IsDone (λ u. looked u || u == s)) t)
  left_turns = record {
    sound = λ p h.
        remains_more f (IsDone looked) (IsDone (λ u. looked u || u == s)) s t p (looked_more looked s) (l.sound p (both_left (left p) (p == s || not (marks p)) h))
        (no_fall_here p (both_right (left p) (p == s || not (marks p)) h));
    whole = λ p r.
        both_hold (left p) (p == s || not (marks p))
        (l.whole p (remains_less f (IsDone looked) (IsDone (λ u. looked u || u == s)) t p (λ u e. left_holds (looked u) (u == s) e) r))
        (kept_here p (r.no_fall s (right_holds (looked s) (s == s) (true_equal s s refl))));
  }

pub left_ends : (f : Code) (looked left : ℕ → Bool) (t : ℕ) → ((s : ℕ) → is_case f s t ≡ true → IsDone looked s) → Tells left (Remains f (IsDone looked) t) → Tells left (Counted f t)
left_ends f looked left t all l = record {
  sound = λ p h. remains_counted f (IsDone looked) t p all (l.sound p h);
  whole = λ p c. l.whole p (counted_remains f (IsDone looked) t p c);
}

-- ---- the one that is left

module _ (f : Code) (t : ℕ) (label : is_label f t ≡ true) (other : is_first f t ≡ false) (unnamed : names f t ≡ 0) where
  free_goes : (b : ℕ) → branches f b t ≡ true → goes f b t ≡ true
  free_goes b h =
      both_hold (branches f b t && is_label f t && not (is_first f t)) (names f t == 0)
      (both_hold (branches f b t && is_label f t) (not (is_first f t)) (both_hold (branches f b t) (is_label f t) h label) (not_false (is_first f t) other))
      (true_equal (names f t) 0 unnamed)

  only_enters : (left : List ℕ) → Tells (has left) (Counted f t) → (b : ℕ) → only left ≡ Some b → Enters f b t
  only_enters [] l b h = absurd (cc)
  only_enters (x ∷ y ∷ xs) l b h = absurd (cc)
  only_enters (x ∷ []) l b h =
      let e : x ≡ b = cc in
      let c : Counted f t b = l.sound b (left_holds (x == b) false (true_equal x b e)) in
      record {
        free = free_goes b c.branch;
        counted = c;
        one = λ q d. elim (either_holds (x == q) false (l.whole q d)) [ inl g ↦ sym (equal_true x q g) ∙ e | inr g ↦ absurd (cc (g)) ];
      }

twice : (x y : ℕ) (xs : List ℕ) → x ≡ y → times (x ∷ y ∷ xs) x ≤ 1 → ⊥
twice x y xs e h = let a = true_equal x x refl in let b = true_equal y x (sym e) in
    let g : times xs x + 1 + 1 ≤ 1 = rw (a, b) at h in omega arith

enters_only : (f : Code) (t : ℕ) (left : List ℕ) → Tells (has left) (Counted f t) → ((p : ℕ) → times left p ≤ 1) → (b : ℕ) → Enters f b t → only left ≡ Some b
enters_only f t [] l n b e = absurd (cc (l.whole b e.counted))
enters_only f t (x ∷ []) l n b e = elim (either_holds (x == b) false (l.whole b e.counted)) [ inl g ↦ ap Some (equal_true x b g) | inr g ↦ absurd (cc (g)) ]
enters_only f t (x ∷ y ∷ xs) l n b e =
    let p : x ≡ b = e.one x (l.sound x (left_holds (x == x) (has (y ∷ xs) x) (true_equal x x refl))) in
    let q : y ≡ b = e.one y (l.sound y (right_holds (x == y) (has (y ∷ xs) y) (left_holds (y == y) (has xs y) (true_equal y y refl)))) in
    absurd (twice x y xs (p ∙ sym q) (n x))

pub enters_from_list : (f : Code) (t : ℕ) (left : List ℕ) → Tells (has left) (Counted f t) → ((p : ℕ) → times left p ≤ 1)
    → is_label f t ≡ true → is_first f t ≡ false → names f t ≡ 0 → (b : ℕ) → (only left ≡ Some b → Enters f b t) × (Enters f b t → only left ≡ Some b)
enters_from_list f t left l n a o u b = (only_enters f t a o u left l b, enters_only f t left l n b)
