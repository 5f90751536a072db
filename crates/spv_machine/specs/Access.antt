-- Accesses to shared memory, and barriers and fences, which order them.
use Rattle.std.specs.Prelude.{◌≡◌, ℕ, Bool, false, List, Option}
use Rattle.spv_machine.specs.Places.{Place}

pub data Action : Type 0 where
  Loads : Action
  Stores : Action
  Atomics : Action
  Fences : Action
  Barriers : Action

-- no place is Nowhere; the operands are words of values, as the scopes and semantics are; the memory operands are those of a load or store; the id is that
-- of the result, or 0
pub record Access : Type 0 where
  pub action : Action
  pub opcode : ℕ
  pub place : Option Place
  pub count : ℕ
  pub operands : List ℕ
  pub scopes : List (List ℕ)
  pub semantics : List (List ℕ)
  pub memory : List ℕ
  pub volatile : Bool
  pub id : ℕ

-- a load by OpLoad that is not volatile
pub record IsPlainLoad (a : Access) : Type 0 where
  pub loads : a.action ≡ Loads
  pub plain : a.volatile ≡ false
