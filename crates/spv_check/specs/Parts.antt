-- The parts of the rules that are looked for apart, by the numbers of functions; private functions cite them.
use Rattle.std.specs.Prelude.{◌≡◌, ℕ, ◌<◌, ◌≤◌, true, cond, ◌==◌, List, [], slice_get, Some}
use Rattle.std.specs.List.{Contains}
use Rattle.spv_module.specs.Instruction.{Instruction}
use Rattle.spv_blocks.specs.Cutting.{starts as starts_of}
use Rattle.spv_body_rules.specs.Broken.{body_rules, is_of_functions}
use Rattle.spv_availability.specs.Availability.{IsUnavailable}
use Rattle.spv_availability.specs.Places.{function_of}

-- ---- which functions

abbrev pub Every : (number : ℕ) → Type 0
Every number = Unit {0}

abbrev pub Only : (one number : ℕ) → Type 0
Only one number = number ≡ one

abbrev pub UpTo : (last number : ℕ) → Type 0
UpTo last number = number ≤ last

-- ---- 503

-- the k-th instruction is one of functions, and something that it uses is not available there
pub record Lacks (insts : List Instruction) (k : ℕ) (i : Instruction) : Type 0 where
  pub of_functions : is_of_functions insts k i ≡ true
  pub unavailable : IsUnavailable insts k i

-- an instruction of some of the functions breaks 503
pub record Missing (insts : List Instruction) (Among : ℕ → Type 0) (rule at : ℕ) : Type 0 where
  pub k : ℕ
  pub i : Instruction
  pub is : slice_get insts k ≡ Some i
  pub lacks : Lacks insts k i
  pub among : Among (function_of insts k)
  pub known : rule ≡ 503
  pub place : i.offset ≡ at

-- ---- 501, 502 and 504 to 507

-- those that the k-th instruction breaks, where it is one of the function with this number
abbrev pub rules_of_one : List Instruction → (number k : ℕ) → Instruction → List ℕ
rules_of_one insts number k i = cond (function_of insts k == number) (body_rules insts k i) []

-- an instruction of some of the functions breaks one
pub record Named (insts : List Instruction) (Among : ℕ → Type 0) (rule at : ℕ) : Type 0 where
  pub k : ℕ
  pub i : Instruction
  pub is : slice_get insts k ≡ Some i
  pub listed : Contains (body_rules insts k i) rule
  pub among : Among (function_of insts k)
  pub place : i.offset ≡ at

-- ---- what is kept of a module

-- where its instructions stand and what its ids name, and where each function begins
pub record AreBodies (insts standing named : List Instruction) (numbers : List ℕ) : Type 0 where
  pub places : standing ≡ insts
  pub definitions : named ≡ insts
  pub starts : numbers ≡ starts_of insts

-- the function with this number, counted from 1, begins with the instruction numbered first
pub record BeginsAt (insts : List Instruction) (number first : ℕ) : Type 0 where
  pub before : (k : ℕ) → k < first → function_of insts k < number
  pub from : (k : ℕ) → first ≤ k → number ≤ function_of insts k
