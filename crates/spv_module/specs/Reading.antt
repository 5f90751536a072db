-- What the steps of reading words answer.
use Rattle.std.specs.Prelude.{◌≡◌, ℕ, ◌<◌, ◌≤◌, List, [], length, take, slice_index, Option, Some, None, Result, Ok, Err, ⊤}
use Rattle.std.specs.List.{All, flat_map}
use Rattle.spv_base.specs.declared.fault.Fault.{Fault}
use Rattle.spv_base.specs.declared.fault.Fault.TheVariants.{Refused, Nesting, NoMemory}
use Rattle.spv_grammar.specs.declared.kind.Role.{Role}
use Rattle.spv_grammar.specs.Operands.{count_of}
use Rattle.spv_module.specs.Broken.{front_rules, broken_from}
use Rattle.spv_module.specs.Code.{cut}
use Rattle.spv_module.specs.First.{first, least}
use Rattle.spv_module.specs.Instruction.{Instruction, IsInstruction, instruction_rules}

-- the instruction in front of words breaks no rule, has n words, and these parts
pub record IsFront (bound : ℕ) (words : List ℕ) (roles : List Role) (n : ℕ) : Type 0 where
  pub unbroken : front_rules bound words ≡ []
  pub counted : count_of (slice_index words 0) ≡ n
  pub some : 0 < n
  pub within : n ≤ length words
  pub rules : instruction_rules bound (take n words) ≡ []
  pub whole : IsInstruction (take n words) roles

-- what reading the instruction in front answers
abbrev pub Front : ℕ → ℕ → List ℕ → List Role → Result ℕ Fault → Type 0
Front bound at words roles (Ok n) = IsFront bound words roles n
Front bound at words roles (Err (Refused refusal)) = (least (front_rules bound words) ≡ Some refusal.rule) × (refusal.at ≡ at)
Front bound at words roles (Err Nesting) = ⊥
Front bound at words roles (Err NoMemory) = ⊤

-- what reading all instructions answers: those that the words spell, or the first rule that one of them breaks
pub record AreRead (bound at : ℕ) (words : List ℕ) (insts : List Instruction) : Type 0 where
  pub unbroken : first (broken_from bound at 0 words) ≡ None
  pub all : insts ≡ cut at 0 words
  pub spelled : flat_map (λ i. i.words) insts ≡ words
  pub few : length insts ≤ length words
  pub each : All (λ i. instruction_rules bound i.words ≡ []) insts

abbrev pub ReadsAll : ℕ → ℕ → List ℕ → Result (List Instruction) Fault → Type 0
ReadsAll bound at words (Ok insts) = AreRead bound at words insts
ReadsAll bound at words (Err (Refused refusal)) = first (broken_from bound at 0 words) ≡ Some refusal
ReadsAll bound at words (Err Nesting) = ⊥
ReadsAll bound at words (Err NoMemory) = ⊤
