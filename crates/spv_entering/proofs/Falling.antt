-- The branches that are not counted are taken away switch by switch, and the one that is left enters.
use Rattle.std.proofs.Common.{◌≡◌, ◌≢◌, ℕ, ◌+◌, ◌<◌, ◌≤◌, ◌==◌, ◌&&◌, ◌||◌, not, Bool, true, false, cond, List, [], ◌∷◌, ◌++◌, length, get_or, take, filter, Option, Some, None, ◌⊎◌, inl, inr, refl, sym, ap, subst, ◌∙◌, arith}
use Rattle.std.proofs.lemmas.Bool.{cases_lt}
use Rattle.std.proofs.lemmas.Bool.Decides.{eqb_tells}
use Rattle.std.proofs.lemmas.List.{take_more, take_all}
use Rattle.graph.specs.Rows.{is_marked}
use Rattle.spv_blocks.specs.Blocks.{Code, branches, construct, has, is_case, is_switch, names}
use Rattle.spv_blocks.specs.Places.{is_free, number_of, place}
use Rattle.spv_blocks.proofs.PlaceSteps.{place-within}
use Rattle.spv_walk.specs.Walk.{Enters, Counted}
use Rattle.spv_walk.specs.Tables.{FallsAt, OtherCase, InsideSome, Remains, is_back_by}
use Rattle.spv_walk.specs.Walked.{AreEnterers}
use Rattle.spv_walk.proofs.Inside.{case_switch, case_branches, left_begins, remains_more, remains_less, remains_counted, counted_remains}
use Rattle.spv_walk.proofs.Unique.{tells, true_equal, equal_true, both_left, both_right, both_hold, either_holds, left_holds, right_holds, not_true, not_false}
use Rattle.spv_entering.specs.Flow.{Flow, before}
use Rattle.spv_entering.specs.Tops.{AreTops}
use Rattle.spv_entering.specs.Steps.{label_of}
use Rattle.spv_entering.specs.Cases.{stays, AreInside, Leaves, IsOnly, FindsOnly, HasOther, AllAre, FindsEnterer, AddsEnterer}
use Rattle.spv_entering.proofs.Flows.{label-there}
use Rattle.spv_entering.proofs.Passing.{apart, some_is, place-has}
use Rattle.spv_entering.proofs.Fillings.{free-goes, goes-free, free-label}
use Rattle.spv_entering.proofs.StepEdges.{has-append, filter-has, has-filter, branch-label, label-placed, number-at}

-- ---- the one that is alone

pub only-some : (xs : List ℕ) (b : ℕ) → has xs b ≡ true → AllAre xs b → IsOnly xs b
only-some xs b there all = record { there = there; alone = all }

pub only-several : (xs : List ℕ) (s : ℕ) → has xs s ≡ true → HasOther xs s → (b : ℕ) → IsOnly xs b → ⊥
only-several xs s there other b only = other.2 (only.alone other.0 other.1 ∙ sym (only.alone s there))

pub only-nothing : (b : ℕ) → IsOnly [] b → ⊥
only-nothing b only = apart false only.there refl

-- ---- one switch

free_unnamed : (f : Code) (t : ℕ) → is_free f t ≡ true → (names f t == 0) ≡ true
free_unnamed f t e = both_right _ (names f t == 0) e

module _ (f : Code) (s t : ℕ) where
  pub leaves-bare : (left : List ℕ) → is_switch (construct f s) ≡ false → Leaves f s t left left
  leaves-bare left bare = record {
    sound = λ p e. (e, λ a. apart (is_switch (construct f s)) (case_switch f s t a.to_case) bare);
    whole = λ p e n. e;
  }

  pub leaves-own : (left : List ℕ) → AllAre left s → Leaves f s t left left
  leaves-own left all = record { sound = λ p e. (e, λ a. a.other (all p e)); whole = λ p e n. e }

  module _ (free : is_free f t ≡ true) (header : branches f s t ≡ true) (switch : is_switch (construct f s) ≡ true) where
    the_case : is_case f s t ≡ true
    the_case = both_hold (is_switch (construct f s) && branches f s t) (names f t == 0) (both_hold (is_switch (construct f s)) (branches f s t) switch header) (free_unnamed f t free)

    module _ (marks : List Bool) (inside : AreInside f s t marks) where
      stay_apart : (p j : ℕ) → place f p ≡ Some j → stays f s marks p ≡ true → FallsAt f s t p → ⊥
      stay_apart p j at stay a = elim (either_holds (p == s) (not (is_marked marks (number_of f p))) stay) [
        | inl e ↦ a.other (equal_true p s e)
        | inr e ↦
            apart (is_marked marks j) (inside.whole p j at a.inside)
            (ap (is_marked marks) (sym (number-at f p j at)) ∙ not_true (is_marked marks (number_of f p)) e)
      ]

      apart_stay : (p j : ℕ) → place f p ≡ Some j → (FallsAt f s t p → ⊥) → stays f s marks p ≡ true
      apart_stay p j at n = elim (eqb_tells p s) [
        | inl e ↦ left_holds (p == s) (not (is_marked marks (number_of f p))) e.0
        | inr e ↦ elim (tells (is_marked marks j)) [
          | inl m ↦ absurd (n (record { to_case = the_case; other = e.1; inside = inside.sound p j at m }))
          | inr m ↦ right_holds (p == s) (not (is_marked marks (number_of f p))) (not_false (is_marked marks (number_of f p)) (ap (is_marked marks) (number-at f p j at) ∙ m))
        ]
      ]

      pub leaves-staying : (left stay : List ℕ) → ((p : ℕ) → has left p ≡ true → branches f p t ≡ true) → stay ≡ filter (stays f s marks) left → Leaves f s t left stay
      leaves-staying left stay before same = record {
        sound = λ p h.
            let r = filter-has (stays f s marks) left stay p same h in
            let l = label-placed f p (branch-label f p t (before p r.0)) in
            (r.0, stay_apart p l.number l.at r.1);
        whole = λ p e n.
            let l = label-placed f p (branch-label f p t (before p e)) in
            has-filter (stays f s marks) left stay p same e (apart_stay p l.number l.at n);
      }

-- ---- all switches

-- the first blocks before t have been looked at
abbrev pub Looked : (flow : Flow) (t n : ℕ) → ℕ → Type 0
Looked flow t n u = has (take n (before flow t)) u ≡ true

pub record AreLeft (flow : Flow) (t n : ℕ) (left : List ℕ) : Type 0 where
  pub sound : (p : ℕ) → has left p ≡ true → Remains flow.code (Looked flow t n) t p
  pub whole : (p : ℕ) → Remains flow.code (Looked flow t n) t p → has left p ≡ true

module _ (flow : Flow) (t : ℕ) (branch : (q : ℕ) → has (before flow t) q ≡ branches flow.code q t) where
  none_looked : (u : ℕ) → has (take 0 (before flow t)) u ≡ true → ⊥
  none_looked u h = none (before flow t) h
    where
      none : (xs : List ℕ) → has (take 0 xs) u ≡ true → ⊥
      none [] g = apart false g refl
      none (x ∷ xs) g = apart false g refl

  pub left-first : (top : ℕ → Option ℕ) (left : List ℕ) → AreTops flow.code top → left ≡ filter (λ p. not (is_back_by flow.code top t p)) (before flow t) → AreLeft flow t 0 left
  left-first top left tops same =
      let first = left_begins flow.code top t (λ h b. (tops h b).0) (λ h b. (tops h b).1) in
      record {
        sound = λ p h.
            let r = filter-has (λ q. not (is_back_by flow.code top t q)) (before flow t) left p same h in
            remains_less flow.code (Looked flow t 0) (λ s. ⊥) t p none_looked
            (first.sound p (both_hold (branches flow.code p t) (not (is_back_by flow.code top t p)) (sym (branch p) ∙ r.0) r.1));
        whole = λ p r.
            let b = first.whole p (remains_less flow.code (λ s. ⊥) (Looked flow t 0) t p (λ u l. absurd l) r) in
            has-filter (λ q. not (is_back_by flow.code top t q)) (before flow t) left p same
            (branch p ∙ both_left (branches flow.code p t) (not (is_back_by flow.code top t p)) b)
            (both_right (branches flow.code p t) (not (is_back_by flow.code top t p)) b);
      }

  more_looked : (n u : ℕ) → n < length (before flow t) → has (take (n + 1) (before flow t)) u ≡ (has (take n (before flow t)) u || has (get_or (before flow t) n 0 ∷ []) u)
  more_looked n u less = ap (λ (xs : List ℕ). has xs u) (take_more (before flow t) n 0 less) ∙ has-append (take n (before flow t)) (get_or (before flow t) n 0 ∷ []) u

  pub left-more : (n : ℕ) (old new : List ℕ) → n < length (before flow t) → AreLeft flow t n old → Leaves flow.code (get_or (before flow t) n 0) t old new → AreLeft flow t (n + 1) new
  left-more n old new less are leaves =
      let s = get_or (before flow t) n 0 in
      record {
        sound = λ p h.
            let l = leaves.sound p h in
            remains_more flow.code (Looked flow t n) (Looked flow t (n + 1)) s t p
            (λ u k. elim (either_holds (has (take n (before flow t)) u) (has (s ∷ []) u) (sym (more_looked n u less) ∙ k)) [
              | inl e ↦ inl e
              | inr e ↦ elim (either_holds (s == u) false e) [ inl g ↦ inr (sym (equal_true s u g)) | inr g ↦ absurd (apart false g refl) ]
            ])
            (are.sound p l.0) l.1;
        whole = λ p r.
            leaves.whole p
            (are.whole p (remains_less flow.code (Looked flow t n) (Looked flow t (n + 1)) t p
            (λ u k. more_looked n u less ∙ left_holds (has (take n (before flow t)) u) (has (s ∷ []) u) k) r))
            (r.no_fall s (more_looked n s less ∙ right_holds (has (take n (before flow t)) s) (has (s ∷ []) s) (left_holds (s == s) false (true_equal s s refl))));
      }

  pub left-branch : (n : ℕ) (left : List ℕ) → AreLeft flow t n left → (p : ℕ) → has left p ≡ true → branches flow.code p t ≡ true
  left-branch n left are p h = (are.sound p h).branch

  pub left-header : (n : ℕ) → n < length (before flow t) → branches flow.code (get_or (before flow t) n 0) t ≡ true
  left-header n less = sym (branch (get_or (before flow t) n 0)) ∙ place-has (before flow t) n less

  module _ (free : is_free flow.code t ≡ true) (n : ℕ) (all : length (before flow t) ≤ n) (left : List ℕ) (are : AreLeft flow t n left) where
    all_looked : (s : ℕ) → is_case flow.code s t ≡ true → Looked flow t n s
    all_looked s c = ap (λ (xs : List ℕ). has xs s) (take_all n (before flow t) all) ∙ branch s ∙ case_branches flow.code s t c

    counted : (p : ℕ) → has left p ≡ true → Counted flow.code t p
    counted p h = remains_counted flow.code (Looked flow t n) t p all_looked (are.sound p h)

    is_left : (p : ℕ) → Counted flow.code t p → has left p ≡ true
    is_left p c = are.whole p (counted_remains flow.code (Looked flow t n) t p c)

    pub left-enters : (o : Option ℕ) → FindsOnly left o → FindsEnterer flow.code t o
    left-enters None none = λ b e. none b (record { there = is_left b e.counted; alone = λ q h. e.one q (counted q h) })
    left-enters (Some b) only =
        let c = counted b only.there in
        record { free = free-goes flow.code b t c.branch free; counted = c; one = λ q d. only.alone q (is_left q d) }

pub taken-none : (f : Code) (t : ℕ) → is_free f t ≡ false → (b : ℕ) → Enters f b t → ⊥
taken-none f t taken b e = apart (is_free f t) (goes-free f b t e.free) taken

-- ---- the table

one_enters : (f : Code) (b c t : ℕ) → Enters f b t → Enters f c t → b ≡ c
one_enters f b c t x y = y.one b x.counted

pub adds-none : (f : Code) (table : ℕ → Option ℕ) (t : ℕ) → ((b : ℕ) → Enters f b t → ⊥) → AddsEnterer f table table t
adds-none f table t none = record { sound = λ b u e. inl e; keeps = λ b u e x. e; whole = λ b x. absurd (none b x) }

pub adds-some : (f : Code) (old new : ℕ → Option ℕ) (t b : ℕ) → Enters f b t → ((u : ℕ) → new u ≡ cond (t == u) (Some b) (old u)) → AddsEnterer f old new t
adds-some f old new t b enters updates = record {
  sound = λ c u e. elim (eqb_tells t u) [
    | inl s ↦
        let same : b ≡ c = some_is b c (sym (updates u ∙ ap (λ (x : Bool). cond x (Some b) (old u)) s.0) ∙ e) in
        inr (subst (λ (x : ℕ). Enters f x u) same (subst (λ (x : ℕ). Enters f b x) s.1 enters))
    | inr s ↦ inl (sym (updates u ∙ ap (λ (x : Bool). cond x (Some b) (old u)) s.0) ∙ e)
  ];
  keeps = λ c u e x. elim (eqb_tells t u) [
    | inl s ↦
        updates u ∙ ap (λ (x : Bool). cond x (Some b) (old u)) s.0
        ∙ ap (λ (k : ℕ). Some k) (one_enters f b c u (subst (λ (x : ℕ). Enters f b x) s.1 enters) x)
    | inr s ↦ updates u ∙ ap (λ (x : Bool). cond x (Some b) (old u)) s.0 ∙ e
  ];
  whole = λ c x. updates t ∙ ap (λ (y : Bool). cond y (Some b) (old t)) (true_equal t t refl) ∙ ap (λ (k : ℕ). Some k) (one_enters f b c t enters x);
}

-- the labels of the first blocks are in the table
pub record AreAdded (f : Code) (table : ℕ → Option ℕ) (n : ℕ) : Type 0 where
  pub sound : (b t : ℕ) → table t ≡ Some b → Enters f b t
  pub whole : (k b t : ℕ) → k < n → label_of f k ≡ Some t → Enters f b t → table t ≡ Some b

pub added-none : (f : Code) (table : ℕ → Option ℕ) → ((t : ℕ) → table t ≡ None) → AreAdded f table 0
added-none f table none = record {
  sound = λ b t e. let no_entry : None ≡ Some b = sym (none t) ∙ e in cc;
  whole = λ k b t less at e. absurd (omega arith);
}

pub added-more : (f : Code) (old new : ℕ → Option ℕ) (n t : ℕ) → label_of f n ≡ Some t → AreAdded f old n → AddsEnterer f old new t → AreAdded f new (n + 1)
added-more f old new n t at are adds = record {
  sound = λ b u e. elim (adds.sound b u e) [ inl was ↦ are.sound b u was | inr x ↦ x ];
  whole = λ k b u less label e. elim (cases_lt k n) [
    | inl first ↦ adds.keeps b u (are.whole k b u first label e) e
    | inr past ↦
        let same : n ≡ k = omega arith in
        let is : t ≡ u = some_is t u (sym at ∙ ap (label_of f) same ∙ label) in
        subst (λ (x : ℕ). new x ≡ Some b) is (adds.whole b (subst (λ (x : ℕ). Enters f b x) (sym is) e))
  ];
}

pub added-past : (f : Code) (table : ℕ → Option ℕ) (n : ℕ) → label_of f n ≡ None → AreAdded f table n → AreAdded f table (n + 1)
added-past f table n at are = record {
  sound = are.sound;
  whole = λ k b u less label e. elim (cases_lt k n) [
    | inl first ↦ are.whole k b u first label e
    | inr past ↦ (let same : n ≡ k = omega arith in let none : None ≡ Some u = sym at ∙ ap (label_of f) same ∙ label in cc)
  ];
}

pub added-all : (f : Code) (table : ℕ → Option ℕ) → AreAdded f table (length f) → AreEnterers f table
added-all f table are = record {
  sound = are.sound;
  whole = λ b t e.
      let l = label-placed f t (free-label f t (goes-free f b t e.free)) in
      are.whole l.number b t (place-within f t l.number l.at) (label-there f t l.number l.at) e;
}
