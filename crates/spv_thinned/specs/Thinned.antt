-- A module from which some instructions are dropped, none of which is a function or a parameter: what is left is like it but for the ids that have gone.
use Rattle.std.specs.Prelude.{◌≡◌, ℕ, suc, Bool, true, false, List, [], ◌∷◌, drop, filter, slice_get, slice_index, Some}
use Rattle.std.specs.List.{AllByRecursion}
use Rattle.spv_opcodes.specs.declared.op.TheConstants as op
use Rattle.spv_module.specs.Code.{is_line}
use Rattle.spv_module.specs.Instruction.{Instruction, opcode}
use Rattle.spv_meaning.specs.Statements.{words_of}
use Rattle.spv_ids.specs.Ids.{defines, used_ids}
use Rattle.spv_typing.specs.Kinds.{is_one_of}
use Rattle.spv_declarations.specs.Laws.{IsUnbroken}
use Rattle.spv_signatures.specs.Functions.{leading_parameters}
use Rattle.spv_alike_uses.specs.Alike.{Stays, AreAlikeBut}

-- what is not dropped: functions with their parameters
abbrev pub lasting_kinds : List ℕ
lasting_kinds = op.FUNCTION ∷ op.FUNCTION_PARAMETER ∷ []

-- what decorates an id, or a member of a type: its second word is the target
abbrev pub decorating_kinds : List ℕ
decorating_kinds = op.DECORATE ∷ op.MEMBER_DECORATE ∷ []

-- what may be dropped
pub record IsDropped (gone : ℕ → Bool) (i : Instruction) : Type 0 where
  -- what it defines has gone
  pub defined : (id : ℕ) → defines id i ≡ true → gone id ≡ true
  pub passing : is_one_of lasting_kinds (opcode i) ≡ false
  -- what it decorates has gone
  pub target : is_one_of decorating_kinds (opcode i) ≡ true → gone (slice_index i.words 1) ≡ true

-- what is kept: what it defines and what it uses stays
pub record IsKept (gone : ℕ → Bool) (i : Instruction) : Type 0 where
  pub defined : (id : ℕ) → defines id i ≡ true → Stays gone id
  pub used : AllByRecursion (Stays gone) (used_ids i)

-- of the instructions before, those are after that are kept, with the same words
pub record IsThinned (gone : ℕ → Bool) (keep : Instruction → Bool) (before after : List Instruction) : Type 0 where
  pub words : words_of after ≡ words_of (filter keep before)
  pub zero : Stays gone 0
  pub dropped : (k : ℕ) (i : Instruction) → slice_get before k ≡ Some i → keep i ≡ false → IsDropped gone i
  pub kept : (k : ℕ) (i : Instruction) → slice_get before k ≡ Some i → keep i ≡ true → IsKept gone i
  -- nothing is dropped from in front of parameters, but line marks
  pub parameters : (k : ℕ) (i : Instruction) → slice_get before k ≡ Some i → keep i ≡ false → is_line i ≡ false → leading_parameters (drop (suc k) before) ≡ []

abbrev pub ThinnedIsAlike : Type 0
ThinnedIsAlike =
    (gone : ℕ → Bool) (keep : Instruction → Bool) (before after : List Instruction) → IsUnbroken before → IsThinned gone keep before after
    → AreAlikeBut gone before after
