-- A module under change.
use Rattle.std.specs.Prelude.{ℕ, List, ◌++◌}
use Rattle.spv_base.specs.declared.header.Header.{Header}
use Rattle.spv_module.specs.Code.{Code}
use Rattle.spv_module.specs.Instruction.{Instruction}
use Rattle.spv_draft.specs.Named.{named_ids, bound_of_ids}

-- its header, its instructions, and the ids that were handed out for it
pub record Drafted : Type 0 where
  pub header : Header
  pub insts : List Instruction
  pub given : List ℕ

-- the ids that count as named
abbrev pub taken_ids : Drafted → List ℕ
taken_ids d = named_ids d.insts ++ d.given

-- the module with this bound
abbrev pub with_bound : ℕ → Header → Header
with_bound bound header = record header { bound = bound }

abbrev pub finished : Drafted → Code
finished d = record { header = with_bound (bound_of_ids d.insts) d.header; insts = d.insts }
