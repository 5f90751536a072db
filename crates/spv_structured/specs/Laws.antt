-- The laws of structured trees, as statements.
use Rattle.std.specs.Prelude.{◌≡◌, ℕ, Bool, true, List, [], ◌∷◌, map}
use Rattle.std.specs.List.{AllByRecursion}
use Rattle.spv_opcodes.specs.declared.op.TheConstants as op
use Rattle.spv_module.specs.Instruction.{Instruction}
use Rattle.spv_meaning.specs.Statements as says
use Rattle.spv_meaning.specs.Statements.{said, statements_in}
use Rattle.spv_blocks.specs.Cutting.{blocks_of}
use Rattle.spv_walk.specs.Rules.{Broken}
use Rattle.spv_bodies.specs.Bodies.{Function}
use Rattle.spv_bodies.specs.Listing.{listed}
use Rattle.spv_tree.specs.Tree.{words_of}
use Rattle.spv_tree.specs.Sound.{IsSound, opcode_in}
use Rattle.spv_trees.specs.Standing.{is_parameter}
use Rattle.spv_trees.specs.Sound.{IsSoundFunction}
use Rattle.spv_structured.specs.Structured.{IsStructured, NamesArms}
use Rattle.spv_structured.specs.Spots.{bare_block, blocks_in}

-- the lines of a function before its first block are an OpFunction and OpFunctionParameter
pub record Opens (f : Function) : Type 0 where
  pub function : opcode_in f.function ≡ op.FUNCTION
  pub parameters : AllByRecursion (λ words. opcode_in words ≡ op.FUNCTION_PARAMETER) f.parameters

-- a function that is sound as a tree and structured stands as its tree says
abbrev pub StructuredStands : Type 0
StructuredStands =
    (r : ℕ) (f : Function) (is_pointer : ℕ → Bool) → IsSound f → IsStructured is_pointer f
    → said f.function [] ≡ says.Function r ∷ [] → AllByRecursion (λ s. is_parameter s ≡ true) (statements_in f.parameters) → IsSoundFunction r f

-- the blocks of a function as it is listed are those of its tree, wherever they lie
abbrev pub ListedBlocks : Type 0
ListedBlocks = (f : Function) (insts : List Instruction) → IsSound f → Opens f → words_of insts ≡ listed f → map bare_block (blocks_of insts) ≡ blocks_in f

-- no rule on structured control flow is broken in a structured function as it is listed
abbrev pub StructuredIsUnbroken : Type 0
StructuredIsUnbroken =
    (f : Function) (insts : List Instruction) (is_pointer : ℕ → Bool) → IsSound f → Opens f → IsStructured is_pointer f → words_of insts ≡ listed f
    → (rule at : ℕ) → Broken is_pointer (blocks_of insts) rule at → ⊥

-- and where none is broken, the function is structured, if each arm of a switch is named: an arm that only leaves is not seen where it is not
abbrev pub UnbrokenIsStructured : Type 0
UnbrokenIsStructured =
    (f : Function) (insts : List Instruction) (is_pointer : ℕ → Bool) → IsSound f → Opens f → NamesArms f.body → words_of insts ≡ listed f
    → ((rule at : ℕ) → Broken is_pointer (blocks_of insts) rule at → ⊥) → IsStructured is_pointer f
