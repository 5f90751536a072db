-- Marking instructions one by one.
use Rattle.std.proofs.Common.{◌≡◌, ℕ, ◌+◌, ◌<◌, Bool, List, [], ◌∷◌, ◌++◌, length, take, get_or, Some, inl, inr, refl, sym, ap, subst, ◌∙◌, add-one, arith}
use Rattle.std.specs.List.{slice_get}
use Rattle.std.proofs.Math.Seq.{take-suc}
use Rattle.std.proofs.lemmas.Bool.{cases_lt}
use Rattle.std.proofs.lemmas.List.{length-append, get_or_append_left}
use Rattle.std.proofs.lemmas.Option.{get_or_from_slice_get, slice_get-get_or, slice_get_within}
use Rattle.spv_module.specs.Instruction.{Instruction}
use Rattle.spv_repeats.specs.Marks.{AreMarks}
use Rattle.spv_repeats.specs.Steps.{Follows}

-- the instructions before the place k are marked by a test on those before them
pub record IsMarkedTo {S : Type 0} (Keeps : S → List Instruction → Type 0) (test : List Instruction → Instruction → Bool) (insts : List Instruction) (k : ℕ) (state : S) (marks : List Bool) : Type 0 where
  pub kept : Keeps state (take k insts)
  pub count : length marks ≡ k
  pub each : (j : ℕ) (i : Instruction) → j < k → slice_get insts j ≡ Some i → slice_get marks j ≡ Some (test (take j insts) i)

-- one mark more
slice_get-front : (xs ys : List Bool) (j : ℕ) (x : Bool) → slice_get xs j ≡ Some x → slice_get (xs ++ ys) j ≡ Some x
slice_get-front xs ys j x at =
    let within = slice_get_within xs j x at in
    slice_get-get_or (xs ++ ys) j x (rw (length-append xs ys) (omega arith)) ∙ ap Some (get_or_append_left xs ys x j within ∙ get_or_from_slice_get xs j x x at)

slice_get-last : (xs : List Bool) (x : Bool) → slice_get (xs ++ x ∷ []) (length xs) ≡ Some x
slice_get-last [] x = refl
slice_get-last (y ∷ xs) x = slice_get-last xs x

take-at : (insts : List Instruction) (k : ℕ) (i : Instruction) → k < length insts → slice_get insts k ≡ Some i → take (k + 1) insts ≡ take k insts ++ i ∷ []
take-at insts k i fits at = rw add-one (take-suc insts k i fits ∙ ap (λ (j : Instruction). take k insts ++ j ∷ []) (get_or_from_slice_get insts k i i at))

pub marked-step : {S : Type 0} (Keeps : S → List Instruction → Type 0) (test : List Instruction → Instruction → Bool) (insts : List Instruction) (k : ℕ) (i : Instruction) (old new : S) (marks marks2 : List Bool) (answer : Bool) →
    IsMarkedTo Keeps test insts k old marks → k < length insts → slice_get insts k ≡ Some i → Follows Keeps test old new i answer → marks2 ≡ marks ++ answer ∷ [] → IsMarkedTo Keeps test insts (k + 1) new marks2
marked-step Keeps test insts k i old new marks marks2 answer m fits at follows pushed =
    subst (IsMarkedTo Keeps test insts (k + 1) new) (sym pushed) (record {
      kept = subst (Keeps new) (sym (take-at insts k i fits at)) (follows.kept (take k insts) m.kept);
      count = length-append marks (answer ∷ []) ∙ ap (λ (n : ℕ). n + 1) m.count;
      each = λ j i' below at'.
          elim (cases_lt j k) as (λ _. slice_get (marks ++ answer ∷ []) j ≡ Some (test (take j insts) i')) [
            | inl lt ↦ slice_get-front marks (answer ∷ []) j _ (m.each j i' lt at')
            | inr ge ↦ last j i' (omega arith) at'
          ];
    })
  where
    last : (j : ℕ) (i' : Instruction) → j ≡ k → slice_get insts j ≡ Some i' → slice_get (marks ++ answer ∷ []) j ≡ Some (test (take j insts) i')
    last j i' e at' =
        let same : i ≡ i' = sym (get_or_from_slice_get insts k i i at) ∙ ap (λ (n : ℕ). get_or insts n i) (sym e) ∙ get_or_from_slice_get insts j i' i at' in
        subst (λ (n : ℕ). slice_get (marks ++ answer ∷ []) n ≡ Some answer) (m.count ∙ sym e) (slice_get-last marks answer)
        ∙ ap Some (follows.answers (take k insts) m.kept ∙ ap (λ (n : ℕ). test (take n insts) i) (sym e) ∙ ap (test (take j insts)) same)

pub marked-all : {S : Type 0} (Keeps : S → List Instruction → Type 0) (test : List Instruction → Instruction → Bool) (insts : List Instruction) (k : ℕ) (state : S) (marks : List Bool) →
    IsMarkedTo Keeps test insts k state marks → k ≡ length insts → AreMarks (λ is j i. test (take j is) i) insts marks
marked-all Keeps test insts k state marks m e = record {
  length = m.count ∙ e;
  each = λ j i at. m.each j i (subst (λ (n : ℕ). j < n) (sym e) (slice_get_within insts j i at)) at;
}
