-- Laws of answers, as statements.
use Rattle.std.specs.Prelude.{◌≡◌, ℕ, List, Result}
use Rattle.spv_base.specs.declared.fault.Refusal.{Refusal}
use Rattle.opt_top.specs.Answer.{IsAnswer, TooNested}

-- an input has one answer at most
abbrev pub OneAnswer : Type 0
OneAnswer = (bytes : List ℕ) (a b : Result (List ℕ) Refusal) → IsAnswer bytes a → IsAnswer bytes b → a ≡ b

-- and none where a function nests too deep
abbrev pub NoneTooNested : Type 0
NoneTooNested = (bytes : List ℕ) (a : Result (List ℕ) Refusal) → IsAnswer bytes a → TooNested bytes → ⊥
