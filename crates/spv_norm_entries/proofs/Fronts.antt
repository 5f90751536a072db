-- What stays outside functions, by its places: each of its instructions is one of the module's, with those before it that stay.
use Rattle.std.proofs.Common.{◌≡◌, ℕ, zero, suc, Bool, true, false, cond, ◌||◌, List, [], ◌∷◌, filter, take, Some, refl, sym, ap, ◌∙◌}
use Rattle.std.specs.List.{list_any, slice_get}
use Rattle.spv_module.specs.Code.{is_function}
use Rattle.spv_module.specs.Instruction.{Instruction}
use Rattle.spv_tree.specs.Tree.{words_of}
use Rattle.spv_norm.specs.Norm.{outside}

module _ (test : Instruction → Bool) where
  abbrev pub staying_words : List Instruction → List (List ℕ)
  staying_words is = words_of (filter test (outside is))

  -- the k-th of what stays has the words w
  pub record IsStaying (is : List Instruction) (k : ℕ) (w : List ℕ) : Type 0 where
    pub place : ℕ
    pub inst : Instruction
    pub there : slice_get is place ≡ Some inst
    pub words : inst.words ≡ w
    pub before : take k (staying_words is) ≡ words_of (filter test (take place is))
    pub none : list_any is_function (take place is) ≡ false

  on_function : (i : Instruction) (is : List Instruction) → is_function i ≡ true → staying_words (i ∷ is) ≡ []
  on_function i is f = ap (λ (b : Bool). words_of (filter test (cond b [] (i ∷ outside is)))) f

  on_other : (i : Instruction) (is : List Instruction) (b : Bool) → is_function i ≡ false → test i ≡ b
      → staying_words (i ∷ is) ≡ cond b (i.words ∷ staying_words is) (staying_words is)
  on_other i is b f t =
      ap (λ (b : Bool). words_of (filter test (cond b [] (i ∷ outside is)))) f
      ∙ ap (λ (b : Bool). words_of (cond b (i ∷ filter test (outside is)) (filter test (outside is)))) t
      ∙ by b
    where
      by : (b : Bool) → words_of (cond b (i ∷ filter test (outside is)) (filter test (outside is))) ≡ cond b (i.words ∷ staying_words is) (staying_words is)
      by true = refl
      by false = refl

  filter_on : (i : Instruction) (is : List Instruction) (b : Bool) → test i ≡ b
      → words_of (filter test (i ∷ is)) ≡ cond b (i.words ∷ words_of (filter test is)) (words_of (filter test is))
  filter_on i is b t = ap (λ (b : Bool). words_of (cond b (i ∷ filter test is) (filter test is))) t ∙ by b where
    by : (b : Bool) → words_of (cond b (i ∷ filter test is) (filter test is)) ≡ cond b (i.words ∷ words_of (filter test is)) (words_of (filter test is))
    by true = refl
    by false = refl

  none_on : (i : Instruction) (is : List Instruction) → is_function i ≡ false → list_any is_function is ≡ false → list_any is_function (i ∷ is) ≡ false
  none_on i is f h = ap (λ (b : Bool). b || list_any is_function is) f ∙ h

  first_one : (i : Instruction) (is : List Instruction) (w : List ℕ) → is_function i ≡ false → test i ≡ true → slice_get (staying_words (i ∷ is)) 0 ≡ Some w
      → IsStaying (i ∷ is) 0 w
  first_one i is w f t e =
      let here : Some i.words ≡ Some w = sym (ap (λ z. slice_get z 0) (on_other i is true f t)) ∙ e in
      let same : i.words ≡ w = cc here in
      record { place = 0; inst = i; there = refl; words = same; before = refl; none = refl }

  one_more : (i : Instruction) (is : List Instruction) (k : ℕ) (w : List ℕ) → is_function i ≡ false → test i ≡ true → IsStaying is k w
      → IsStaying (i ∷ is) (suc k) w
  one_more i is k w f t r = record {
    place = suc r.place;
    inst = r.inst;
    there = r.there;
    words = r.words;
    before = ap (take (suc k)) (on_other i is true f t) ∙ ap (λ z. i.words ∷ z) r.before ∙ sym (filter_on i (take r.place is) true t);
    none = none_on i (take r.place is) f r.none;
  }

  passed_over : (i : Instruction) (is : List Instruction) (k : ℕ) (w : List ℕ) → is_function i ≡ false → test i ≡ false → IsStaying is k w
      → IsStaying (i ∷ is) k w
  passed_over i is k w f t r = record {
    place = suc r.place;
    inst = r.inst;
    there = r.there;
    words = r.words;
    before = ap (take k) (on_other i is false f t) ∙ r.before ∙ sym (filter_on i (take r.place is) false t);
    none = none_on i (take r.place is) f r.none;
  }

  -- by induction on the instructions
  pub staying_at : (is : List Instruction) (k : ℕ) (w : List ℕ) → slice_get (staying_words is) k ≡ Some w → IsStaying is k w
  staying_at [] k w e = absurd (cc e)
  staying_at (i ∷ is) k w e = by (is_function i) (test i) k refl refl e (λ j g. staying_at is j w g) where
    by : (b c : Bool) (k : ℕ) → is_function i ≡ b → test i ≡ c → slice_get (staying_words (i ∷ is)) k ≡ Some w
        → ((j : ℕ) → slice_get (staying_words is) j ≡ Some w → IsStaying is j w) → IsStaying (i ∷ is) k w
    by true c k f t e more =
        let none : slice_get {X = List ℕ} [] k ≡ Some w = sym (ap (λ z. slice_get z k) (on_function i is f)) ∙ e in
        absurd (cc none)
    by false true zero f t e more = first_one i is w f t e
    by false true (suc k) f t e more =
        one_more i is k w f t (more k (sym (ap (λ z. slice_get z (suc k)) (on_other i is true f t)) ∙ e))
    by false false k f t e more =
        passed_over i is k w f t (more k (sym (ap (λ z. slice_get z k) (on_other i is false f t)) ∙ e))
