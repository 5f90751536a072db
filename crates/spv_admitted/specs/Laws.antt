-- A module in which the rules find nothing is read: laws, as statements.
use Rattle.std.specs.Prelude.{◌≡◌, ℕ, true, List, length, map, count_by, slice_get, Some, None}
use Rattle.std.specs.List.{Contains}
use Rattle.spv_module.specs.Code.{Code, is_function}
use Rattle.spv_module.specs.First.{first}
use Rattle.spv_module.specs.Instruction.{Instruction}
use Rattle.spv_module.specs.Layout.{group_2}
use Rattle.spv_declarations.specs.Broken.{group_3}
use Rattle.spv_body_rules.specs.Broken.{body_rules, is_of_functions}
use Rattle.spv_entries.specs.Broken.{entry_rules}
use Rattle.spv_blocks.specs.Cutting.{function_insts}
use Rattle.spv_tree.specs.declared.body.Body.{Body}
use Rattle.spv_tree.specs.Tree.{body_of}
use Rattle.spv_spelling.specs.Whole.{AreInstructions}
use Rattle.spv_availability.specs.Availability.{IsUnavailable}
use Rattle.spv_functions.specs.Functions.{IsTree, is_pointer}
use Rattle.spv_norm.specs.Norm.{IsNorm}
use Rattle.spv_norm_means.specs.Laws.{IsRead, MeansAsMuch}

-- the rules find nothing in the module: none on the layout and on declarations; its functions are read as these trees; none of its instructions breaks a rule on
-- bodies, availability among them, nor one on entry points
pub record FindNothing (code : Code) (bodies : List Body) : Type 0 where
  pub end : ℕ
  pub instructions : AreInstructions code.insts
  pub laid_out : first (group_2 end code.insts) ≡ None
  pub declared : first (group_3 code.insts) ≡ None
  pub count : length bodies ≡ count_by is_function code.insts
  pub trees : (k : ℕ) (body : Body) → slice_get bodies k ≡ Some body → IsTree (is_pointer code.insts) (function_insts k code.insts) body
  pub fit : (k : ℕ) (i : Instruction) → slice_get code.insts k ≡ Some i → (rule : ℕ) → Contains (body_rules code.insts k i) rule → ⊥
  pub available : (k : ℕ) (i : Instruction) → slice_get code.insts k ≡ Some i → is_of_functions code.insts k i ≡ true → IsUnavailable code.insts k i → ⊥
  pub entered : (k : ℕ) (i : Instruction) → slice_get code.insts k ≡ Some i → (rule : ℕ) → Contains (entry_rules code.insts k i) rule → ⊥

abbrev pub AdmittedIsRead : Type 0
AdmittedIsRead = (code : Code) (bodies : List Body) → FindNothing code bodies → IsRead code (map body_of bodies)

-- so its normal form means as much
abbrev pub AdmittedMeansAsMuch : Type 0
AdmittedMeansAsMuch = (before after : Code) (bodies : List Body) → FindNothing before bodies → IsNorm before after → MeansAsMuch before after
