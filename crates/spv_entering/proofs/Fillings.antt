-- How a table of tops grows.
use Rattle.std.proofs.Common.{◌≡◌, ◌≢◌, ℕ, ◌+◌, ◌*◌, ◌<◌, ◌≤◌, ◌==◌, ◌&&◌, ◌||◌, Bool, true, false, cond, List, [], ◌∷◌, ◌++◌, length, Option, Some, None, ◌⊎◌, inl, inr, refl, sym, ap, subst, ◌∙◌, arith}
use Rattle.std.specs.Global.{Vec}
use Rattle.spv_blocks.specs.Tables.{found}
use Rattle.spv_blocks.specs.declared.table.Table.{Table}
use Rattle.std.specs.Option.{is_none, is_some, option_or}
use Rattle.std.proofs.lemmas.Bool.Decides.{eqb_tells}
use Rattle.std.proofs.lemmas.List.{length_push}
use Rattle.spv_blocks.specs.Blocks.{Block, Code, Construct, block, branches, construct, goes, has, is_it, is_label, is_some_block}
use Rattle.spv_blocks.specs.Places.{is_free}
use Rattle.spv_blocks.proofs.FoundLaws.{are_found}
use Rattle.spv_walk.specs.Walk.{Top, Along}
use Rattle.spv_walk.specs.Tables.{GoesAlong, InTops, is_back_by}
use Rattle.spv_walk.proofs.Tops.{one_top, along_one, along_known}
use Rattle.spv_walk.proofs.Unique.{tells, true_equal, both_left, both_right, both_hold, left_holds, right_holds, goes_branches}
use Rattle.spv_entering.specs.Flow.{Flow}
use Rattle.spv_entering.specs.Filling.{top_of, passed_of, unplaced, work, Done, IsPassed, IsLoneBy, IsGoing, Puts, Grows, Looks, AlongTo}
use Rattle.spv_entering.specs.declared.filling.Filling.{Filling}
use Rattle.spv_entering.specs.declared.filling.Passed.{Passed}
use Rattle.spv_entering.proofs.Flows.{is_it_some, some_is_it}
use Rattle.spv_entering.proofs.Passing.{apart, some_is}

abbrev pub Within : (top top2 : ℕ → Option ℕ) → Type 0
Within top top2 = (h p : ℕ) → InTops top h p → InTops top2 h p

-- ---- back edges stay

back-grows : (f : Code) (top top2 : ℕ → Option ℕ) → Within top top2 → (t q : ℕ) → is_back_by f top t q ≡ true → is_back_by f top2 t q ≡ true
back-grows f top top2 w t q e =
    both_hold (is_it t (top2 q)) (is_none (construct f q)) (some_is_it t (top2 q) (w t q (is_it_some t (top q) (both_left (is_it t (top q)) (is_none (construct f q)) e))))
    (both_right (is_it t (top q)) (is_none (construct f q)) e)

passed-grows : (flow : Flow) (top top2 : ℕ → Option ℕ) → Within top top2 → (t : ℕ) (passed : Passed) → IsPassed flow top t passed → IsPassed flow top2 t passed
passed-grows flow top top2 w t passed is = record {
  each = λ k less. elim (is.each k less) [ inl back ↦ inl (back-grows flow.code top top2 w t _ back) | inr e ↦ inr e ];
  within = is.within;
  left = is.left;
}

-- ---- how many blocks have no top

abbrev none_of : Option ℕ → ℕ
none_of o = cond (is_none o) 1 0

none_le : (o o2 : Option ℕ) → ((k : ℕ) → o ≡ Some k → o2 ≡ Some k) → cond (is_none o2) 1 0 ≤ cond (is_none o) 1 0
none_le None None g = omega arith
none_le None (Some j) g = omega arith
none_le (Some k) None g = let e = g k refl in cc
none_le (Some k) (Some j) g = omega arith

-- induction on the blocks
pub unplaced-le : (f : Code) (top top2 : ℕ → Option ℕ) → Within top top2 → unplaced f top2 ≤ unplaced f top
unplaced-le [] top top2 w = omega arith
unplaced-le (b ∷ f) top top2 w =
    let later = unplaced-le f top top2 w in
    let here = none_le (top b.label) (top2 b.label) (λ k e. w k b.label e) in
    omega arith

unplaced-put : (f : Code) (top top2 : ℕ → Option ℕ) (t h : ℕ) → Within top top2 → top t ≡ None → top2 t ≡ Some h → is_label f t ≡ true → unplaced f top2 + 1 ≤ unplaced f top
unplaced-put [] top top2 t h w was is label = absurd (apart false label refl)
unplaced-put (b ∷ f) top top2 t h w was is label = elim (eqb_tells b.label t) [
  | inl s ↦
      let before : none_of (top b.label) ≡ 1 = ap none_of (ap top s.1 ∙ was) in
      let after : none_of (top2 b.label) ≡ 0 = ap none_of (ap top2 s.1 ∙ is) in
      let later = unplaced-le f top top2 w in
      omega arith
  | inr s ↦
      let here = none_le (top b.label) (top2 b.label) (λ k e. w k b.label e) in
      let later = unplaced-put f top top2 t h w was is (sym (ap (λ (c : Bool). is_some_block (cond c (Some b) (block f t))) s.0) ∙ label) in
      omega arith
]

-- ---- nothing changes, one change after the other

pub record Same (old new : Filling) : Type 0 where
  pub tops : (p : ℕ) → top_of new p ≡ top_of old p
  pub waiting : new.waiting.items ≡ old.waiting.items

pub grows-same : (flow : Flow) (old new : Filling) → Same old new → IsGoing flow new → Grows flow old new
grows-same flow old new s going = record {
  grows = λ h p i. s.tops p ∙ i;
  going = going;
  waits = λ h p i d. (sym (s.tops p) ∙ i, subst (λ (xs : List ℕ). has xs p ≡ false) s.waiting d);
  work =
      let placed = unplaced-le flow.code (top_of old) (top_of new) (λ h p i. s.tops p ∙ i) in
      let long = ap (λ (xs : List ℕ). length xs) s.waiting in
      omega arith;
}

pub grows-none : (flow : Flow) (s : Filling) → IsGoing flow s → Grows flow s s
grows-none flow s going = grows-same flow s s (record { tops = λ p. refl; waiting = refl }) going

pub grows-then : (flow : Flow) (a b c : Filling) → Grows flow a b → Grows flow b c → Grows flow a c
grows-then flow a b c x y = record {
  grows = λ h p i. y.grows h p (x.grows h p i);
  going = y.going;
  waits = λ h p i d. let r = y.waits h p i d in x.waits h p r.0 r.1;
  work = let first = x.work in let second = y.work in omega arith;
}

-- ---- a block is put at a top

has-pushed : (xs : List ℕ) (t : ℕ) → has (xs ++ t ∷ []) t ≡ true
has-pushed [] t = left_holds (t == t) false (true_equal t t refl)
has-pushed (x ∷ xs) t = right_holds (x == t) (has (xs ++ t ∷ []) t) (has-pushed xs t)

or_none : (a b c : Bool) → (b ≡ false → c ≡ false) → (a || b) ≡ false → (a || c) ≡ false
or_none true b c g e = e
or_none false b c g e = g e

pub has-front : (xs : List ℕ) (t p : ℕ) → has (xs ++ t ∷ []) p ≡ false → has xs p ≡ false
has-front [] t p e = refl
has-front (x ∷ xs) t p e = or_none (x == p) (has (xs ++ t ∷ []) p) (has xs p) (has-front xs t p) e

waits_front : (c : Bool) (xs : List ℕ) (t p : ℕ) → has (cond c (xs ++ t ∷ []) xs) p ≡ false → has xs p ≡ false
waits_front true xs t p e = has-front xs t p e
waits_front false xs t p e = e

module _ (flow : Flow) (old new : Filling) (h t : ℕ) (going : IsGoing flow old) (top : Top flow.code h t) (puts : Puts old new h t) where
  put_at : (o : Option ℕ) → top_of old t ≡ o → InTops (top_of new) h t
  put_at None e =
      puts.top t ∙ ap (λ (o : Option ℕ). option_or o (cond (t == t) (Some h) None)) e
      ∙ ap (λ (c : Bool). cond c (Some h) None) (true_equal t t refl)
  put_at (Some k) e =
      puts.top t ∙ ap (λ (o : Option ℕ). option_or o (cond (t == t) (Some h) None)) e
      ∙ ap (λ (i : ℕ). Some i) (one_top flow.code k h t (going.sound k t e) top)

  pub put-in : InTops (top_of new) h t
  put-in = put_at (top_of old t) refl

  put-keeps : Within (top_of old) (top_of new)
  put-keeps k p i = puts.top p ∙ ap (λ (o : Option ℕ). option_or o (cond (t == p) (Some h) None)) i

  -- what is new
  record IsNew (k p : ℕ) : Type 0 where
    pub was : top_of old p ≡ None
    pub place : t ≡ p
    pub loop : k ≡ h

  new_at : (k p : ℕ) (o : Option ℕ) → top_of old p ≡ o → InTops (top_of new) k p → InTops (top_of old) k p ⊎ IsNew k p
  new_at k p (Some j) e i =
      inl (e ∙ sym (puts.top p ∙ ap (λ (o : Option ℕ). option_or o (cond (t == p) (Some h) None)) e) ∙ i)
  new_at k p None e i =
      let is : cond (t == p) (Some h) None ≡ Some k = sym (puts.top p ∙ ap (λ (o : Option ℕ). option_or o (cond (t == p) (Some h) None)) e) ∙ i in
      elim (eqb_tells t p) [
        | inl s ↦ inr (record { was = e; place = s.1; loop = some_is k h (sym is ∙ ap (λ (c : Bool). cond c (Some h) None) s.0) })
        | inr s ↦ (let none : None ≡ Some k = sym (ap (λ (c : Bool). cond c (Some h) None) s.0) ∙ is in cc)
      ]

  put-new : (k p : ℕ) → InTops (top_of new) k p → InTops (top_of old) k p ⊎ IsNew k p
  put-new k p i = new_at k p (top_of old p) refl i

  put_sound : (k p : ℕ) → InTops (top_of new) k p → Top flow.code k p
  put_sound k p i = elim (put-new k p i) [
    | inl was ↦ going.sound k p was
    | inr n ↦ subst (λ (j : ℕ). Top flow.code j p) (sym n.loop) (subst (λ (j : ℕ). Top flow.code h j) n.place top)
  ]

  put_waits : (k p : ℕ) → InTops (top_of new) k p → Done new p → InTops (top_of old) k p × Done old p
  put_waits k p i d =
      let d2 : has (cond (is_none (top_of old t)) (old.waiting.items ++ t ∷ []) old.waiting.items) p ≡ false = subst (λ (xs : List ℕ). has xs p ≡ false) puts.waiting d in
      elim (put-new k p i) [
        | inl was ↦ (was, waits_front (is_none (top_of old t)) old.waiting.items t p d2)
        | inr n ↦
            let none : is_none (top_of old t) ≡ true = ap (λ (q : ℕ). is_none (top_of old q)) n.place ∙ ap is_none n.was in
            let d3 : has (old.waiting.items ++ t ∷ []) p ≡ false = subst (λ (c : Bool). has (cond c (old.waiting.items ++ t ∷ []) old.waiting.items) p ≡ false) none d2 in
            absurd (apart (has (old.waiting.items ++ t ∷ []) t) (has-pushed old.waiting.items t) (subst (λ (q : ℕ). has (old.waiting.items ++ t ∷ []) q ≡ false) (sym n.place) d3))
      ]

  put_work : is_label flow.code t ≡ true → (o : Option ℕ) → top_of old t ≡ o → work flow.code new ≤ work flow.code old
  put_work label None e =
      let fewer = unplaced-put flow.code (top_of old) (top_of new) t h put-keeps e put-in label in
      let more : length new.waiting.items ≡ length (old.waiting.items ++ t ∷ []) = ap (λ (xs : List ℕ). length xs) (puts.waiting ∙ ap (λ (o : Option ℕ). cond (is_none o) (old.waiting.items ++ t ∷ []) old.waiting.items) e) in
      let long = length_push old.waiting.items t in
      omega arith
  put_work label (Some k) e =
      let fewer = unplaced-le flow.code (top_of old) (top_of new) put-keeps in
      let same : length new.waiting.items ≡ length old.waiting.items = ap (λ (xs : List ℕ). length xs) (puts.waiting ∙ ap (λ (o : Option ℕ). cond (is_none o) (old.waiting.items ++ t ∷ []) old.waiting.items) e) in
      omega arith

  pub put-grows : is_label flow.code t ≡ true → Grows flow old new
  put-grows label = record {
    grows = put-keeps;
    going = record {
      sound = put_sound;
      passed = λ u. subst (λ (q : Passed). IsPassed flow (top_of new) u q) (sym (puts.passed u)) (passed-grows flow (top_of old) (top_of new) put-keeps u (passed_of old u) (going.passed u));
    };
    waits = put_waits;
    work = put_work label (top_of old t) refl;
  }

-- ---- where a block goes along

pub none-is : (o : Option Construct) → is_none o ≡ true → o ≡ None
none-is None e = refl
none-is (Some k) e = absurd (apart false e refl)

pub free-label : (f : Code) (t : ℕ) → is_free f t ≡ true → is_label f t ≡ true
free-label f t e = both_left (is_label f t) _ (both_left _ _ e)

pub goes-free : (f : Code) (p t : ℕ) → goes f p t ≡ true → is_free f t ≡ true
goes-free f p t g = both_right (branches f p t) (is_free f t) (sym ((are_found f).goes_on p t) ∙ g)

pub free-goes : (f : Code) (p t : ℕ) → branches f p t ≡ true → is_free f t ≡ true → goes f p t ≡ true
free-goes f p t b e = (are_found f).goes_on p t ∙ both_hold (branches f p t) (is_free f t) b e

module _ (f : Code) (top : ℕ → Option ℕ) (sound : (h b : ℕ) → InTops top h b → Top f h b) (t : ℕ) where
  along_left : (a : Bool) → (a ≡ true → ⊥) → a ≡ false
  along_left true g = absurd (g refl)
  along_left false g = refl

  -- the block that goes along is the one that is no back edge
  pub along-lone : (h p : ℕ) → GoesAlong f (InTops top) h p t → IsLoneBy f top t p
  along-lone h p g = record {
    branch = goes_branches f p t g.free;
    left = along_left (is_back_by f top t p) (λ e. along_one f (InTops top) sound h p t g (is_it_some t (top p) (both_left (is_it t (top p)) (is_none (construct f p)) e)));
    others = λ q b ne. both_hold (is_it t (top q)) (is_none (construct f q)) (some_is_it t (top q) (g.back q ne b)) (ap is_none (g.back_bare q ne b));
  }

  pub lone-same : (b c : ℕ) → IsLoneBy f top t b → IsLoneBy f top t c → b ≡ c
  lone-same b c x y = elim (eqb_tells b c) [
    | inl s ↦ s.1
    | inr s ↦ absurd (apart (is_back_by f top t c) (x.others c y.branch (λ e. s.1 (sym e))) y.left)
  ]

  -- and where it goes along, t stands at the top
  pub lone-top : (h p : ℕ) → IsLoneBy f top t p → AlongTo f top t p (Some h) → is_free f t ≡ true → Top f h t
  lone-top h p lone to free =
      Along h p t (sound h p to.0) to.1 (free-goes f p t lone.branch free) (λ e. to.2 (sym e))
      (λ q n b. sound t q (is_it_some t (top q) (both_left (is_it t (top q)) (is_none (construct f q)) (lone.others q b n))))
      (λ q n b. none-is (construct f q) (both_right (is_it t (top q)) (is_none (construct f q)) (lone.others q b n)))

-- ---- a target is looked at

module _ (flow : Flow) (old new : Filling) (t : ℕ) (going : IsGoing flow old) where
  abbrev Goes_to : (h p : ℕ) → Type 0
  Goes_to h p = GoesAlong flow.code (InTops (top_of old)) h p t

  looks-same : Same old new → IsGoing flow new → ((h p : ℕ) → Goes_to h p → InTops (top_of old) h t) → Looks flow old new t
  looks-same s now there = record { growing = grows-same flow old new s now; along = λ h p g. s.tops t ∙ there h p g }

  pub looks-taken : Same old new → IsGoing flow new → is_free flow.code t ≡ false → Looks flow old new t
  looks-taken s now taken = looks-same s now (λ h p g. absurd (apart (is_free flow.code t) (goes-free flow.code p t g.free) taken))

  pub looks-placed : Same old new → IsGoing flow new → (k : ℕ) → InTops (top_of old) k t → Looks flow old new t
  looks-placed s now k i =
      looks-same s now
      (λ h p g. i ∙ ap (λ (j : ℕ). Some j) (along_known flow.code (InTops (top_of old)) going.sound h k p t g i))

  pub looks-several : Same old new → IsGoing flow new → ((b : ℕ) → IsLoneBy flow.code (top_of old) t b → ⊥) → Looks flow old new t
  looks-several s now none = looks-same s now (λ h p g. absurd (none p (along-lone flow.code (top_of old) going.sound t h p g)))

  one_loop : (p h q : ℕ) → IsLoneBy flow.code (top_of old) t p → Goes_to h q → q ≡ p
  one_loop p h q lone g = lone-same flow.code (top_of old) going.sound t q p (along-lone flow.code (top_of old) going.sound t h q g) lone

  pub looks-apart : Same old new → IsGoing flow new → (p : ℕ) → IsLoneBy flow.code (top_of old) t p → AlongTo flow.code (top_of old) t p None → Looks flow old new t
  looks-apart s now p lone to = looks-same s now (λ h q g.
      let same = one_loop p h q lone g in
      absurd (g.differ (sym (to h (ap (top_of old) (sym same) ∙ g.top) (ap (construct flow.code) (sym same) ∙ g.bare)))))

  pub looks-put : (mid : Filling) → Same old mid → IsGoing flow mid → (p h : ℕ) → IsLoneBy flow.code (top_of old) t p → AlongTo flow.code (top_of old) t p (Some h)
      → is_free flow.code t ≡ true → Puts mid new h t → Looks flow old new t
  looks-put mid s now p h lone to free puts =
      let top = lone-top flow.code (top_of old) going.sound t h p lone to free in
      record {
        growing = grows-then flow old mid new (grows-same flow old mid s now) (put-grows flow mid new h t now top puts (free-label flow.code t free));
        along = λ k q g.
            let same = one_loop p k q lone g in
            let loop : h ≡ k = some_is h k (sym to.0 ∙ ap (top_of old) (sym same) ∙ g.top) in
            subst (λ (j : ℕ). InTops (top_of new) j t) loop (put-in flow mid new h t now top puts);
      }

-- ---- what was looked at is kept

pub same-tops : (old new : Filling) → new.tops ≡ old.tops → (p : ℕ) → top_of new p ≡ top_of old p
same-tops old new e p = ap (λ (m : Table ℕ). found m p) e

pub same-filling : (old new : Filling) → new.tops ≡ old.tops → new.waiting ≡ old.waiting → Same old new
same-filling old new e g = record { tops = same-tops old new e; waiting = ap (λ (v : Vec ℕ). v.items) g }

pub kept-going : (flow : Flow) (old new : Filling) (t : ℕ) (passed : Passed) → IsGoing flow old → new.tops ≡ old.tops
    → ((p : ℕ) → passed_of new p ≡ cond (t == p) passed (passed_of old p)) → IsPassed flow (top_of old) t passed → IsGoing flow new
kept-going flow old new t passed going e kept is = record {
  sound = λ h b i. going.sound h b (sym (same-tops old new e b) ∙ i);
  passed = λ u. passed-grows flow (top_of old) (top_of new) (λ h p i. same-tops old new e p ∙ i) u (passed_of new u) (subst (λ (q : Passed). IsPassed flow (top_of old) u q) (sym (kept u)) (at u));
}
  where
    at : (u : ℕ) → IsPassed flow (top_of old) u (cond (t == u) passed (passed_of old u))
    at u = elim (eqb_tells t u) [
      | inl s ↦ subst (λ (c : Bool). IsPassed flow (top_of old) u (cond c passed (passed_of old u))) (sym s.0) (subst (λ (v : ℕ). IsPassed flow (top_of old) v passed) s.1 is)
      | inr s ↦ subst (λ (c : Bool). IsPassed flow (top_of old) u (cond c passed (passed_of old u))) (sym s.0) (going.passed u)
    ]

some_top : (o : Option ℕ) → is_some o ≡ true → (k : ℕ) × (o ≡ Some k)
some_top None e = absurd (apart false e refl)
some_top (Some k) e = (k, refl)

-- it has a top
pub looks-some : (flow : Flow) (old new : Filling) (t : ℕ) → IsGoing flow old → Same old new → IsGoing flow new → is_some (top_of old t) ≡ true → Looks flow old new t
looks-some flow old new t going s now e = let k = some_top (top_of old t) e in looks-placed flow old new t going s now k.0 k.1

pub same-none : (s : Filling) → Same s s
same-none s = record { tops = λ p. refl; waiting = refl }
