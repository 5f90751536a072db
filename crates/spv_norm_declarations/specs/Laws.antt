-- The normal form of a module breaks no rule on ids, types, constants, decorations and global variables: the law, as a statement.
use Rattle.std.specs.Prelude.{◌≡◌, List, None}
use Rattle.spv_module.specs.First.{first}
use Rattle.spv_module.specs.Instruction.{Instruction}
use Rattle.spv_declarations.specs.Broken.{group_3}
use Rattle.spv_tree.specs.declared.body.Body.{Body}
use Rattle.spv_texts.specs.Laws.{DefinesOnce}
use Rattle.spv_alike.specs.Alike.{AreAlike}
use Rattle.spv_alike.specs.Uses.{UsesNoLabels}
use Rattle.spv_norm_structured.specs.Laws.{IsNormAgain, IsReadAsTrees}

-- the module breaks none, its ids stand for the same in the normal form, where each is defined once, and it uses no label as a value or a type
abbrev pub NormIsDeclared : Type 0
NormIsDeclared =
    (insts again : List Instruction) (bodies : List Body) → IsReadAsTrees insts bodies → IsNormAgain insts again → first (group_3 insts) ≡ None
    → AreAlike insts again → DefinesOnce again → UsesNoLabels insts → first (group_3 again) ≡ None
