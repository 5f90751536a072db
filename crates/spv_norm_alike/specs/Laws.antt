-- A module and its normal form are alike: a law, as a statement.
use Rattle.std.specs.Prelude.{◌≡◌, ℕ, List, None}
use Rattle.spv_module.specs.Code.{Code, code_of}
use Rattle.spv_module.specs.First.{first}
use Rattle.spv_module.specs.Instruction.{Instruction}
use Rattle.spv_declarations.specs.Broken.{group_3}
use Rattle.spv_tree.specs.declared.body.Body.{Body}
use Rattle.spv_tree.specs.Tree.{words_of}
use Rattle.spv_alike.specs.Alike.{AreAlike}
use Rattle.spv_norm.specs.Norm.{IsNorm}
use Rattle.spv_norm_declared.specs.Laws.{IsWhole}

-- a module that breaks no rule on instructions, layout and declarations, with its trees, is like instructions with the words of its normal form
abbrev pub NormIsAlike : Type 0
NormIsAlike =
    (words : List ℕ) (bodies : List Body) (norm : Code) → IsWhole words bodies → first (group_3 (code_of words).insts) ≡ None → IsNorm (code_of words) norm
    → (again : List Instruction) → words_of again ≡ words_of norm.insts → AreAlike (code_of words).insts again
