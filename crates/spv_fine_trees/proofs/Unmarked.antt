-- Places among instructions with and without line marks.
use Rattle.std.proofs.Common.{◌≡◌, ℕ, zero, suc, ◌<◌, Bool, true, false, cond, not, List, [], ◌∷◌, ◌++◌, take, Some, refl, sym, ap, ◌∙◌, arith}
use Rattle.std.specs.List.{slice_get}
use Rattle.spv_module.specs.Code.{is_line}
use Rattle.spv_module.specs.Instruction.{Instruction}
use Rattle.spv_blocks.specs.Cutting.{is_label_mark, word}
use Rattle.spv_normal.specs.Lines.{without_marks}
use Rattle.spv_texts.proofs.Marks.{line_is_no_label}
use Rattle.spv_availability.specs.Places.{last_label}

-- an instruction that is no line mark, by its number and by what stands before it without line marks
pub record IsAt (is : List Instruction) (pre : List Instruction) (i : Instruction) : Type 0 where
  pub at : ℕ
  pub get : slice_get is at ≡ Some i
  pub before : without_marks (take at is) ≡ pre
  pub plain : is_line i ≡ false

marked : (x : Instruction) (is : List Instruction) → is_line x ≡ true → without_marks (x ∷ is) ≡ without_marks is
marked x is e = ap (λ (b : Bool). cond (not b) (x ∷ without_marks is) (without_marks is)) e

pub unmarked : (x : Instruction) (is : List Instruction) → is_line x ≡ false → without_marks (x ∷ is) ≡ x ∷ without_marks is
unmarked x is e = ap (λ (b : Bool). cond (not b) (x ∷ without_marks is) (without_marks is)) e

pub found_at : (is pre : List Instruction) (i : Instruction) (post : List Instruction) → without_marks is ≡ pre ++ i ∷ post → IsAt is pre i
found_at [] [] i post e = absurd (cc (e))
found_at [] (p ∷ pre) i post e = absurd (cc (e))
found_at (x ∷ is) pre i post e = by (is_line x) refl pre e (λ q. found_at is q i post) where
  by : (b : Bool) → is_line x ≡ b → (pre : List Instruction) → cond (not b) (x ∷ without_marks is) (without_marks is) ≡ pre ++ i ∷ post
      → ((q : List Instruction) → without_marks is ≡ q ++ i ∷ post → IsAt is q i) → IsAt (x ∷ is) pre i
  by true l pre e more =
      let r = more pre e in record { at = suc r.at; get = r.get; before = marked x (take r.at is) l ∙ r.before; plain = r.plain }
  by false l [] e more =
      let same : x ≡ i = cc (e) in record { at = 0; get = ap Some same; before = refl; plain = ap is_line (sym same) ∙ l }
  by false l (p ∷ pre) e more =
      let same : x ≡ p = cc (e) in
      let r = more pre (cc (e)) in record {
        at = suc r.at;
        get = r.get;
        before = unmarked x (take r.at is) l ∙ ap (λ z. x ∷ z) r.before ∙ ap (λ z. z ∷ pre) same;
        plain = r.plain;
      }

-- an instruction splits what stands there without line marks
pub split_at : (is : List Instruction) (m : ℕ) (i : Instruction) → slice_get is m ≡ Some i → is_line i ≡ false
    → (post : List Instruction) × (without_marks is ≡ without_marks (take m is) ++ i ∷ post)
split_at [] m i e plain = absurd (cc (e))
split_at (x ∷ is) zero i e plain =
    let same : x ≡ i = cc (e) in (without_marks is, unmarked x is (ap is_line same ∙ plain) ∙ ap (λ z. z ∷ without_marks is) same)
split_at (x ∷ is) (suc m) i e plain = by (is_line x) (split_at is m i e plain) where
  by : (b : Bool) → (post : List Instruction) × (without_marks is ≡ without_marks (take m is) ++ i ∷ post)
      → (post : List Instruction) × (cond (not b) (x ∷ without_marks is) (without_marks is)
      ≡ cond (not b) (x ∷ without_marks (take m is)) (without_marks (take m is)) ++ i ∷ post)
  by true r = r
  by false r = (r.0, ap (λ z. x ∷ z) r.1)

-- and what stands before a later one
pub split_before : (is : List Instruction) (m n : ℕ) (i : Instruction) → m < n → slice_get is m ≡ Some i → is_line i ≡ false
    → (mid : List Instruction) × (without_marks (take n is) ≡ without_marks (take m is) ++ i ∷ mid)
split_before [] m n i less e plain = absurd (cc (e))
split_before (x ∷ is) m zero i less e plain = absurd (omega arith)
split_before (x ∷ is) zero (suc n) i less e plain =
    let same : x ≡ i = cc (e) in (without_marks (take n is), unmarked x (take n is) (ap is_line same ∙ plain) ∙ ap (λ z. z ∷ without_marks (take n is)) same)
split_before (x ∷ is) (suc m) (suc n) i less e plain = by (is_line x) (split_before is m n i (omega arith) e plain) where
  by : (b : Bool) → (mid : List Instruction) × (without_marks (take n is) ≡ without_marks (take m is) ++ i ∷ mid)
      → (mid : List Instruction) × (cond (not b) (x ∷ without_marks (take n is)) (without_marks (take n is))
      ≡ cond (not b) (x ∷ without_marks (take m is)) (without_marks (take m is)) ++ i ∷ mid)
  by true r = r
  by false r = (r.0, ap (λ z. x ∷ z) r.1)

-- line marks are no labels
pub last_unmarked : (l : ℕ) (is : List Instruction) → last_label l (without_marks is) ≡ last_label l is
last_unmarked l [] = refl
last_unmarked l (x ∷ is) = by (is_line x) refl (λ k. last_unmarked k is) where
  by : (b : Bool) → is_line x ≡ b → ((k : ℕ) → last_label k (without_marks is) ≡ last_label k is)
      → last_label l (cond (not b) (x ∷ without_marks is) (without_marks is)) ≡ last_label (cond (is_label_mark x) (word x 1) l) is
  by true e more = more l ∙ sym (ap (λ b. last_label (cond b (word x 1) l) is) (line_is_no_label x e))
  by false e more = more (cond (is_label_mark x) (word x 1) l)

pub last_both : (l : ℕ) (xs ys : List Instruction) → last_label l (xs ++ ys) ≡ last_label (last_label l xs) ys
last_both l [] ys = refl
last_both l (x ∷ xs) ys = last_both (cond (is_label_mark x) (word x 1) l) xs ys
