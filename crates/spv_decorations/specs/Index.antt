-- What is kept of the decorations: the first literal of each, by its target.
use Rattle.std.specs.Prelude.{◌≡◌, ℕ, Bool, cond, ◌==◌, ◌&&◌, List, slice_index, Option, Some, None}
use Rattle.std.specs.Option.{option_or}
use Rattle.indexmap.specs.IndexMap.{IndexMap, get}
use Rattle.spv_opcodes.specs.declared.op.TheConstants as op
use Rattle.spv_module.specs.Instruction.{Instruction, opcode}
use Rattle.spv_seed.specs.declared.Seed.{Seed}
use Rattle.spv_decorations.specs.Decorations.{decoration_of, member_decoration_of}

-- literals by the target and the decoration; by the struct, the member and the decoration
abbrev pub Targets : Type 0
Targets = IndexMap (ℕ × ℕ) ℕ Seed

abbrev pub Members : Type 0
Members = IndexMap (ℕ × ℕ × ℕ) ℕ Seed

abbrev pub is_same : (ℕ × ℕ) → (ℕ × ℕ) → Bool
is_same x y = x.0 == y.0 && x.1 == y.1

abbrev pub is_same_member : (ℕ × ℕ × ℕ) → (ℕ × ℕ × ℕ) → Bool
is_same_member x y = (x.0 == y.0 && x.1 == y.1) && x.2 == y.2

pub record HasTargets (targets : Targets) (insts : List Instruction) : Type 0 where
  pub at : (id d : ℕ) → get is_same targets (id, d) ≡ decoration_of insts id d

pub record HasMembers (members : Members) (insts : List Instruction) : Type 0 where
  pub at : (id member d : ℕ) → get is_same_member members (id, member, d) ≡ member_decoration_of insts id member d

-- the literal of a decoration by this instruction
abbrev pub literal_by : Instruction → (id d : ℕ) → Option ℕ
literal_by i id d =
    cond (opcode i == op.DECORATE && (slice_index i.words 1 == id && slice_index i.words 2 == d)) (Some (slice_index i.words 3)) None

abbrev pub member_literal_by : Instruction → (id member d : ℕ) → Option ℕ
member_literal_by i id member d =
    cond (opcode i == op.MEMBER_DECORATE && (slice_index i.words 1 == id && (slice_index i.words 2 == member && slice_index i.words 3 == d)))
    (Some (slice_index i.words 4))
    None

-- what an instruction decorates is added, unless it is there
pub record AddsTarget (old new : Targets) (i : Instruction) : Type 0 where
  pub at : (id d : ℕ) → get is_same new (id, d) ≡ option_or (get is_same old (id, d)) (literal_by i id d)

pub record AddsMember (old new : Members) (i : Instruction) : Type 0 where
  pub at : (id member d : ℕ) → get is_same_member new (id, member, d) ≡ option_or (get is_same_member old (id, member, d)) (member_literal_by i id member d)
