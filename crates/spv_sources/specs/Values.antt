-- What the OpPhi of a block take, by the block that it comes from.
use Rattle.std.specs.Prelude.{◌≡◌, ℕ, ◌≤◌, ◌==◌, true, cond, List, [], map, filter, drop, length, Option, Some, None}
use Rattle.std.specs.BTreeMap.{BTreeMap, get}
use Rattle.std.specs.List.{flat_map}
use Rattle.std.specs.Option.{option_or, IsSome}
use Rattle.std.specs.Ordering.{nat_cmp}
use Rattle.spv_module.specs.Instruction.{Instruction}
use Rattle.spv_module.specs.View.{seen}
use Rattle.spv_blocks.specs.Blocks.{is_label}
use Rattle.spv_blocks.specs.Cutting.{blocks_of, pairs}
use Rattle.spv_normal.specs.Lines.{behind_label}
use Rattle.spv_sources.specs.declared.phi.Phi.{Phi}
use Rattle.spv_sources.specs.declared.begins.Begin.{Begin}
use Rattle.spv_sources.specs.Tail.{phi_insts}

-- the instructions that are OpPhi
abbrev pub shown : List Phi → List Instruction
shown phis = map (λ (phi : Phi). seen phi.inst) phis

-- ---- values by blocks

abbrev pub all_values : Option (List ℕ) → List ℕ
all_values None = []
all_values (Some values) = values

abbrev pub group : BTreeMap ℕ (List ℕ) → (block : ℕ) → List ℕ
group values block = all_values (get nat_cmp values block)

-- what pairs have for a block, and all that OpPhi have
abbrev pub values_of : (block : ℕ) → List (ℕ × ℕ) → List ℕ
values_of block found = map (λ pair. pair.0) (filter (λ pair. pair.1 == block) found)

abbrev pub taken_from : (block : ℕ) → List Instruction → List ℕ
taken_from block phis = flat_map (λ (i : Instruction). values_of block (pairs (drop 3 i.words))) phis

-- ---- where blocks begin

-- what is made of the instructions from a place on
pub record IsMade (insts : List Instruction) (start : ℕ) (begin : Begin) : Type 0 where
  pub place : begin.start ≡ start
  pub values : (block : ℕ) → group begin.values block ≡ taken_from block (phi_insts (drop start insts))

-- the place behind the OpLabel of a block, and what its OpPhi take
pub record IsBegin (insts : List Instruction) (l : ℕ) (begin : Begin) : Type 0 where
  pub within : begin.start ≤ length insts
  pub rest : drop begin.start insts ≡ behind_label insts l
  pub values : (block : ℕ) → group begin.values block ≡ taken_from block (phi_insts (behind_label insts l))

-- a table has them by labels
pub record HasBegins (insts : List Instruction) (begins : BTreeMap ℕ Begin) : Type 0 where
  pub each : (l : ℕ) (begin : Begin) → get nat_cmp begins l ≡ Some begin → IsBegin insts l begin
  pub has : (l : ℕ) → is_label (blocks_of insts) l ≡ true → IsSome (get nat_cmp begins l)

-- one is added, unless there is one with its label
pub record AddsBegin (insts : List Instruction) (start label : ℕ) (old new : BTreeMap ℕ Begin) : Type 0 where
  pub begin : Begin
  pub made : IsMade insts start begin
  pub at : (l : ℕ) → get nat_cmp new l ≡ option_or (get nat_cmp old l) (cond (label == l) (Some begin) None)
