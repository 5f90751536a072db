-- Blocks that a walk does not come to.
use Rattle.std.specs.Prelude.{Option, Some, None}
use Rattle.spv_base.specs.declared.fault.Refusal.{Refusal}
use Rattle.spv_blocks.specs.Blocks.{Block}
use Rattle.spv_walk.specs.Contexts.{Context}

-- 402 BadTarget at a block that stands in no context
abbrev pub missing_at : Option Context → Option Block → Option Refusal
missing_at None None = None
missing_at None (Some b) = Some (record { rule = 402; at = b.at })
missing_at (Some c) o = None
