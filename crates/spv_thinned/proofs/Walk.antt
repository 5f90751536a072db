-- Induction on what is left of a module, along the module.
use Rattle.std.proofs.Common.{◌≡◌, ℕ, suc, Bool, true, false, cond, List, [], ◌∷◌, drop, Some, refl, sym, ap, ◌∙◌, subst}
use Rattle.std.specs.List.{AllByRecursion, filter, find, slice_get}
use Rattle.spv_module.specs.Code.{is_line}
use Rattle.spv_module.specs.Instruction.{Instruction}
use Rattle.spv_meaning.specs.Statements.{words_of}
use Rattle.spv_signatures.specs.Functions.{leading_parameters}

-- the words of an instruction, wherever it stands
abbrev pub inst : List ℕ → Instruction
inst ws = record { offset = 0; words = ws }

-- induction on the instructions
pub each_at : (P : Instruction → Type 0) (is : List Instruction) → ((k : ℕ) (i : Instruction) → slice_get is k ≡ Some i → P i) → AllByRecursion P is
each_at P [] h = tt
each_at P (i ∷ is) h = (h 0 i refl, each_at P is (λ k. h (suc k)))

-- what holds of each instruction holds of one that is found, and the test does
pub found : (test : Instruction → Bool) (P : Instruction → Type 0) (is : List Instruction) (i : Instruction) → AllByRecursion P is → find test is ≡ Some i → P i × (test i ≡ true)
found test P [] i all h = absurd (cc h)
found test P (x ∷ xs) i all h = by (test x) refl (found test P xs i all.1) h
  where
    by : (b : Bool) → test x ≡ b → (find test xs ≡ Some i → P i × (test i ≡ true)) → cond b (Some x) (find test xs) ≡ Some i → P i × (test i ≡ true)
    by true e rest h = let same : x ≡ i = cc h in (subst P same all.0, ap test (sym same) ∙ e)
    by false e rest h = rest h

module _ (keep : Instruction → Bool) (F : Instruction → Type 0) (M : List Instruction → List Instruction → Type 0) (nil : M [] [])
    (drops : (i : Instruction) (is js : List Instruction) → F i → keep i ≡ false → M is js → M (i ∷ is) js)
    (keeps : (i j : Instruction) (is js : List Instruction) → F i → keep i ≡ true → j.words ≡ i.words → M is js → M (i ∷ is) (j ∷ js)) where
  pub walk : (is js : List Instruction) → AllByRecursion F is → words_of js ≡ words_of (filter keep is) → M is js
  walk [] [] all h = nil
  walk [] (j ∷ js) all h = absurd (cc h)
  walk (i ∷ is) js all h = by (keep i) refl js (λ js e. walk is js all.1 e) h
    where
      by : (b : Bool) → keep i ≡ b → (js : List Instruction) → ((js : List Instruction) → words_of js ≡ words_of (filter keep is) → M is js)
          → words_of js ≡ words_of (cond b (i ∷ filter keep is) (filter keep is)) → M (i ∷ is) js
      by false e js more h = drops i is js all.0 e (more js h)
      by true e [] more h = absurd (cc h)
      by true e (j ∷ js) more h = keeps i j is js all.0 e (cc h) (more js (cc h))

-- what is dropped stands in front of no parameter
abbrev pub BehindNone : (keep : Instruction → Bool) → List Instruction → Type 0
BehindNone keep [] = Unit {0}
BehindNone keep (i ∷ is) = (keep i ≡ false → is_line i ≡ false → leading_parameters is ≡ []) × BehindNone keep is

pub behind_none : (keep : Instruction → Bool) (is : List Instruction)
    → ((k : ℕ) (i : Instruction) → slice_get is k ≡ Some i → keep i ≡ false → is_line i ≡ false → leading_parameters (drop (suc k) is) ≡ [])
    → BehindNone keep is
behind_none keep [] h = tt
behind_none keep (i ∷ is) h = (h 0 i refl, behind_none keep is (λ k. h (suc k)))
