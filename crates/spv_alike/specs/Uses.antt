-- The ids that instructions use as values, types, functions, sets or strings, and not as labels.
use Rattle.std.specs.Prelude.{◌≡◌, ◌≢◌, ℕ, false, cond, ◌==◌, ◌||◌, List, [], ◌∷◌, map, drop, slice_get, slice_index, Some}
use Rattle.std.specs.List.{Contains}
use Rattle.spv_opcodes.specs.declared.op.TheConstants as op
use Rattle.spv_module.specs.Instruction.{Instruction, opcode}
use Rattle.spv_ids.specs.Ids.{kind, used_ids}
use Rattle.spv_typing.specs.Kinds.{is_one_of}
use Rattle.spv_blocks.specs.Cutting.{pairs}

-- the ids that an instruction uses, but for the labels that OpPhi, terminators and merge instructions name
abbrev pub value_uses : Instruction → List ℕ
value_uses i =
    cond (opcode i == op.PHI) (slice_index i.words 1 ∷ map (λ pair. pair.0) (pairs (drop 3 i.words)))
    (cond (opcode i == op.BRANCH_CONDITIONAL || opcode i == op.SWITCH) (slice_index i.words 1 ∷ [])
    (cond (is_one_of (op.BRANCH ∷ op.SELECTION_MERGE ∷ op.LOOP_MERGE ∷ []) (opcode i)) [] (used_ids i)))

-- instructions that say what any id is called, or in which file a source or a line is
abbrev pub namings : List ℕ
namings = op.NAME ∷ op.MEMBER_NAME ∷ op.SOURCE ∷ op.LINE ∷ []

-- no other instruction uses a label so
pub record UsesNoLabels (insts : List Instruction) : Type 0 where
  pub at : (k : ℕ) (i : Instruction) → slice_get insts k ≡ Some i → is_one_of namings (opcode i) ≡ false → (id : ℕ) → Contains (value_uses i) id → kind insts id ≢ op.LABEL
