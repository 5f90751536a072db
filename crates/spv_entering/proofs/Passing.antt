-- The one block before a label that is no back edge, looked for from where the last look ended.
use Rattle.std.proofs.Common.{◌≡◌, ◌≢◌, ℕ, zero, suc, ◌+◌, ◌<◌, ◌≤◌, ◌==◌, ◌&&◌, ◌||◌, not, Bool, true, false, List, [], ◌∷◌, length, get_or, Option, Some, None, ◌⊎◌, inl, inr, refl, sym, ap, subst, ◌∙◌, arith}
use Rattle.std.proofs.lemmas.Bool.{cases_lt}
use Rattle.std.proofs.lemmas.Bool.Decides.{eqb_tells}
use Rattle.spv_blocks.specs.Blocks.{Code, branches, has}
use Rattle.spv_walk.specs.Tables.{is_back_by}
use Rattle.spv_walk.proofs.Unique.{tells, true_equal, equal_true, equal_false, both_left, both_right, either_holds, left_holds, right_holds, not_true}
use Rattle.spv_entering.specs.Flow.{Flow, before}
use Rattle.spv_entering.specs.Filling.{IsPassed, HasTwo, IsLoneBy, is_second, passed_none}
use Rattle.spv_entering.specs.declared.filling.Passed.{Passed}

-- ---- what a list names, by its place in it

pub apart : (a : Bool) → a ≡ true → a ≡ false → ⊥
apart a yes_it none = cc

pub some_is : (p q : ℕ) → Some p ≡ Some q → p ≡ q
some_is p q e = cc

pub place-has : (xs : List ℕ) (k : ℕ) → k < length xs → has xs (get_or xs k 0) ≡ true
place-has [] k less = absurd (omega arith)
place-has (x ∷ xs) zero less = left_holds (x == x) (has xs x) (true_equal x x refl)
place-has (x ∷ xs) (suc k) less = right_holds (x == get_or xs k 0) (has xs (get_or xs k 0)) (place-has xs k (omega arith))

-- a place in the list where it stands
pub record StandsAt (xs : List ℕ) (q : ℕ) : Type 0 where
  pub place : ℕ
  pub within : place < length xs
  pub there : get_or xs place 0 ≡ q

pub has-place : (xs : List ℕ) (q : ℕ) → has xs q ≡ true → StandsAt xs q
has-place [] q h = absurd (apart false h refl)
has-place (x ∷ xs) q h = elim (either_holds (x == q) (has xs q) h) [
  | inl first ↦ record { place = 0; within = omega arith; there = equal_true x q first }
  | inr later ↦ (let s = has-place xs q later in record { place = suc s.place; within = let w = s.within in omega arith; there = s.there })
]

-- ---- one block more is looked at

module _ (flow : Flow) (top : ℕ → Option ℕ) (t : ℕ) where
  abbrev Back : ℕ → Type 0
  Back q = is_back_by flow.code top t q ≡ true

  abbrev At : ℕ → ℕ
  At k = get_or (before flow t) k 0

  pub passed-none : IsPassed flow top t passed_none
  passed-none = record { each = λ k less. absurd (omega arith); within = omega arith; left = λ p e. cc }

  -- it is a back edge
  pub pass-back : (count : ℕ) (left : Option ℕ) → IsPassed flow top t (record { count = count; left = left }) → count < length (before flow t) → Back (At count)
      → IsPassed flow top t (record { count = count + 1; left = left })
  pass-back count left passed less back = record {
    each = λ k within. elim (cases_lt k count) [
      | inl old ↦ passed.each k old
      | inr past ↦ inl (let same : count ≡ k = omega arith in subst (λ (i : ℕ). Back (At i)) same back)
    ];
    within = omega arith;
    left = passed.left;
  }

  was_left : (left : Option ℕ) (q k : ℕ) → is_second flow.code top t left q ≡ false → is_back_by flow.code top t q ≡ false → left ≡ Some k → Back k ⊎ (Some q ≡ Some k)
  was_left None q k single left e = cc
  was_left (Some p) q k single left e =
      let same : p ≡ k = some_is p k e in
      elim (eqb_tells p q) [
        | inl s ↦ inr (ap (λ (i : ℕ). Some i) (sym s.1 ∙ same))
        | inr s ↦ elim (tells (is_back_by flow.code top t p)) [
          | inl back ↦ inl (subst Back same back)
          | inr no_back ↦ absurd (apart (is_second flow.code top t (Some p) q) (all_three (p == q) (is_back_by flow.code top t p) (is_back_by flow.code top t q) s.0 no_back left) single)
        ]
      ]
    where
      all_three : (a b c : Bool) → a ≡ false → b ≡ false → c ≡ false → (not a && (not b && not c)) ≡ true
      all_three a b c e f g = cc

  -- it is none, and no other is left
  pub pass-left : (count : ℕ) (left : Option ℕ) → IsPassed flow top t (record { count = count; left = left }) → count < length (before flow t)
      → is_second flow.code top t left (At count) ≡ false → is_back_by flow.code top t (At count) ≡ false
      → IsPassed flow top t (record { count = count + 1; left = Some (At count) })
  pass-left count left passed less single no_back = record {
    each = λ k within. elim (cases_lt k count) [
      | inl old ↦ elim (passed.each k old) [ inl back ↦ inl back | inr e ↦ was_left left (At count) (At k) single no_back e ]
      | inr past ↦ inr (let same : count ≡ k = omega arith in ap (λ (i : ℕ). Some (At i)) same)
    ];
    within = omega arith;
    left = λ p e. subst (λ (i : ℕ). has (before flow t) i ≡ true) (some_is (At count) p e) (place-has (before flow t) count less);
  }

  -- two are left
  pub two-left : (count : ℕ) (left : Option ℕ) → IsPassed flow top t (record { count = count; left = left }) → count < length (before flow t)
      → is_second flow.code top t left (At count) ≡ true → HasTwo flow top t
  two-left count None passed less two = absurd (apart false two refl)
  two-left count (Some p) passed less two =
      let q = At count in
      let both = both_right (not (p == q)) (not (is_back_by flow.code top t p) && not (is_back_by flow.code top t q)) two in
      record {
        one = p;
        other = q;
        differ = equal_false p q (not_true (p == q) (both_left (not (p == q)) (not (is_back_by flow.code top t p) && not (is_back_by flow.code top t q)) two));
        one_before = passed.left p refl;
        other_before = place-has (before flow t) count less;
        one_left = not_true (is_back_by flow.code top t p) (both_left (not (is_back_by flow.code top t p)) (not (is_back_by flow.code top t q)) both);
        other_left = not_true (is_back_by flow.code top t q) (both_right (not (is_back_by flow.code top t p)) (not (is_back_by flow.code top t q)) both);
      }

  -- ---- what is found

  module _ (branch : (q : ℕ) → has (before flow t) q ≡ branches flow.code q t) where
    -- two that are left are not one
    pub two-none : HasTwo flow top t → (b : ℕ) → IsLoneBy flow.code top t b → ⊥
    two-none h b lone = elim (eqb_tells h.one b) [
      | inl s ↦ apart (is_back_by flow.code top t h.other) (lone.others h.other (sym (branch h.other) ∙ h.other_before) (λ e. h.differ (s.1 ∙ sym e))) h.other_left
      | inr s ↦ apart (is_back_by flow.code top t h.one) (lone.others h.one (sym (branch h.one) ∙ h.one_before) s.1) h.one_left
    ]

    passed_all : (passed : Passed) → IsPassed flow top t passed → length (before flow t) ≤ passed.count → (q : ℕ) → branches flow.code q t ≡ true → Back q ⊎ (passed.left ≡ Some q)
    passed_all passed is all q b =
        let s = has-place (before flow t) q (branch q ∙ b) in
        elim (is.each s.place (let w = s.within in omega arith)) [
          | inl back ↦ inl (subst Back s.there back)
          | inr e ↦ inr (e ∙ ap (λ (i : ℕ). Some i) s.there)
        ]

    pub passed-lone : (passed : Passed) (p : ℕ) → IsPassed flow top t passed → length (before flow t) ≤ passed.count → passed.left ≡ Some p → is_back_by flow.code top t p ≡ false
        → IsLoneBy flow.code top t p
    passed-lone passed p is all left no_back = record {
      branch = sym (branch p) ∙ is.left p left;
      left = no_back;
      others = λ q b ne. elim (passed_all passed is all q b) [ inl back ↦ back | inr e ↦ absurd (ne (some_is q p (sym e ∙ left))) ];
    }

    -- what was left has become a back edge
    pub passed-back : (passed : Passed) (p : ℕ) → IsPassed flow top t passed → length (before flow t) ≤ passed.count → passed.left ≡ Some p → Back p
        → (b : ℕ) → IsLoneBy flow.code top t b → ⊥
    passed-back passed p is all left back b lone = elim (passed_all passed is all b lone.branch) [
      | inl b_back ↦ apart (is_back_by flow.code top t b) b_back lone.left
      | inr e ↦ apart (is_back_by flow.code top t b) (subst Back (some_is p b (sym left ∙ e)) back) lone.left
    ]

    pub passed-nothing : (passed : Passed) → IsPassed flow top t passed → length (before flow t) ≤ passed.count → passed.left ≡ None → (b : ℕ) → IsLoneBy flow.code top t b → ⊥
    passed-nothing passed is all left b lone = elim (passed_all passed is all b lone.branch) [
      | inl b_back ↦ apart (is_back_by flow.code top t b) b_back lone.left
      | inr e ↦ (let none : Some b ≡ None = sym e ∙ left in cc)
    ]
