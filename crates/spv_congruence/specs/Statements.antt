-- Statements of two programs side by side.
use Rattle.std.specs.Prelude.{◌≡◌, ℕ, Bool, true, false, List, [], ◌∷◌, Option, Some, None}
use Rattle.interleaving.specs.Machine.{Answer}
use Rattle.spv_meaning.specs.Statements as says
use Rattle.spv_meaning.specs.Statements.{Statement}
use Rattle.spv_machine.specs.Access.{Access}
use Rattle.spv_machine.specs.Setting.{Setting}
use Rattle.spv_machine.specs.State.{Value, Data, below, values}
use Rattle.spv_machine.specs.Operations.{Does, Wants, Fails, outcome}
use Rattle.spv_machine.specs.Steps.{bind_result}

-- Two programs: what each finds, which accesses of the first are left out, and which are alike. `Below` is what is known of the frames below a call: functions
-- with values and data may be called side by side, and then return side by side.
pub record Comparison : Type 1 where
  pub first : Setting
  pub second : Setting
  pub left_out : Access → Bool
  pub Same : Access → Access → Type 0
  pub Below : Type 0
  pub Calls : Below → (function : ℕ) → List Value → Data → (function2 : ℕ) → List Value → Data → Type 0
  pub Ends : Below → Option Value → Data → Option Value → Data → Type 0

abbrev pub is_call : Statement → Bool
is_call (says.FunctionCall t r function arguments) = true
is_call other = false

-- the data behind a call, in the frame below, where the callee returned
abbrev pub back_from : (result_id : ℕ) → Option Value → Data → Data
back_from r v d = bind_result r v (record d { frames = below d.frames })

-- What the first statements do, the second do, but for accesses that are left out, and `Behind` holds behind both: rule by rule, from their beginning.
pub data DoAlike (p : Comparison) (Behind : Data → Data → Type 0) : List Statement → Data → List Statement → Data → Type 0 where
  -- nothing is left
  done : {d d2 : Data} → Behind d d2 → DoAlike p Behind [] d [] d2
  -- a statement of one that touches nothing shared
  goes : {s : Statement} {ss ss2 : List Statement} {d d2 e : Data} →
      outcome p.first d s ≡ Does e → DoAlike p Behind ss e ss2 d2 → DoAlike p Behind (s ∷ ss) d ss2 d2
  goes_second : {s2 : Statement} {ss ss2 : List Statement} {d d2 e2 : Data} →
      outcome p.second d2 s2 ≡ Does e2 → DoAlike p Behind ss d ss2 e2 → DoAlike p Behind ss d (s2 ∷ ss2) d2
  -- an access of the first that is left out, whatever answers it
  leaves_out : {s : Statement} {ss ss2 : List Statement} {d d2 : Data} {a : Access} {by_answer : Answer → Data} →
      outcome p.first d s ≡ Wants a by_answer → p.left_out a ≡ true →
      ((x : Answer) → DoAlike p Behind ss (by_answer x) ss2 d2) → DoAlike p Behind (s ∷ ss) d ss2 d2
  -- accesses alike, which get one answer
  asks : {s s2 : Statement} {ss ss2 : List Statement} {d d2 : Data} {a b : Access} {by_answer by_answer2 : Answer → Data} →
      outcome p.first d s ≡ Wants a by_answer → outcome p.second d2 s2 ≡ Wants b by_answer2 → p.left_out a ≡ false → p.Same a b →
      ((x : Answer) → DoAlike p Behind ss (by_answer x) ss2 (by_answer2 x)) → DoAlike p Behind (s ∷ ss) d (s2 ∷ ss2) d2
  -- the first is stuck
  fails : {s : Statement} {ss ss2 : List Statement} {d d2 : Data} →
      is_call s ≡ false → outcome p.first d s ≡ Fails → DoAlike p Behind (s ∷ ss) d ss2 d2
  fails_to_call : {t r f : ℕ} {arguments : List ℕ} {ss ss2 : List Statement} {d d2 : Data} →
      values p.first d arguments ≡ None → DoAlike p Behind (says.FunctionCall t r f arguments ∷ ss) d ss2 d2
  -- calls
  calls : {t t2 r r2 f f2 : ℕ} {arguments arguments2 : List ℕ} {ss ss2 : List Statement} {d d2 : Data} {vs vs2 : List Value} →
      values p.first d arguments ≡ Some vs → values p.second d2 arguments2 ≡ Some vs2 →
      (y : p.Below) → p.Calls y f vs d f2 vs2 d2 →
      ((v v2 : Option Value) (e e2 : Data) → p.Ends y v e v2 e2 → DoAlike p Behind ss (back_from r v e) ss2 (back_from r2 v2 e2)) →
      DoAlike p Behind (says.FunctionCall t r f arguments ∷ ss) d (says.FunctionCall t2 r2 f2 arguments2 ∷ ss2) d2
