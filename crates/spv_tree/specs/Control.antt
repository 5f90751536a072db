-- Control masks of merge instructions.
use Rattle.std.specs.Prelude.{ℕ, Bool}
use Rattle.spv_grammar.specs.declared.kind.Enumerant.TheVariants.{SelectionControl}
use Rattle.spv_grammar.specs.Enumerants.{is_known}

-- a mask of an OpSelectionMerge; an OpLoopMerge has the same ones
abbrev pub is_control : ℕ → Bool
is_control mask = is_known SelectionControl mask
