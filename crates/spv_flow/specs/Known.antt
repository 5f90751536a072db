-- The tables of one function, from which its broken rules are read.
use Rattle.std.specs.Prelude.{◌≡◌, ℕ, Bool, Option}
use Rattle.std.specs.BTreeSet.{contains}
use Rattle.std.specs.Ordering.{nat_cmp}
use Rattle.spv_blocks.specs.Blocks.{Code}
use Rattle.spv_blocks.specs.Edges.{predecessors_of}
use Rattle.spv_blocks.specs.Tables.{found}
use Rattle.spv_walk.specs.Contexts.{Context}
use Rattle.spv_walk.specs.Found.{FaultTables, block_faults}
use Rattle.spv_walk.specs.Numbering.{HasOwnLabels}
use Rattle.spv_walk.specs.Tables.{Tells}
use Rattle.spv_walk.specs.Walk.{OneBackEdge}
use Rattle.spv_walk.specs.Walked.{InPlaces}
use Rattle.spv_walking.specs.Edges.{has_one}
use Rattle.spv_walking.specs.Table.{context_of}
use Rattle.spv_faults.specs.Listed.{Faults}
use Rattle.spv_flow.specs.declared.known.Known.{Known}

-- the function
abbrev pub code_of : Known → Code
code_of known = known.function.now

-- the block from which a label is entered
abbrev pub enterer_of : Known → ℕ → Option ℕ
enterer_of known = found known.enterers

-- whether the continue part of a header ends in one back edge
abbrev pub ends_of : Known → ℕ → Bool
ends_of known = has_one known.loops

-- whether a type is one of the pointers
abbrev pub pointer_of : Known → ℕ → Bool
pointer_of known = contains nat_cmp known.pointers.now

-- the context of a walked block
abbrev pub place_of : Known → ℕ → Option Context
place_of known = context_of known.walked

-- what a walked block breaks
abbrev pub faults_of : Known → Faults
faults_of known = block_faults (pointer_of known) (code_of known) (enterer_of known) (ends_of known)

-- these are the tables of a function whose blocks have labels of their own
pub record AreTables (known : Known) : Type 0 where
  pub own : HasOwnLabels known.function.now
  pub same : known.labels.now ≡ known.function.now
  pub edges : known.edges.predecessors ≡ predecessors_of known.function.now
  pub tables : FaultTables known.function.now (found known.enterers) (has_one known.loops) (InPlaces (context_of known.walked))

-- of each header it is told whether its continue part ends in exactly one back edge
pub record AreToldLoops (f : Code) : Type 0 where
  pub ends : ℕ → Bool
  pub told : Tells ends (OneBackEdge f)
