-- A module that is built is so again where lines are rewritten, if its functions are built there.
use Rattle.std.proofs.Common.{◌≡◌, Bool, true, false, cond, List, [], ◌∷◌, sym, subst, ◌∙◌}
use Rattle.std.specs.List.{AllByRecursion}
use Rattle.spv_module.specs.Code.{is_function, is_line}
use Rattle.spv_module.specs.Instruction.{Instruction}
use Rattle.spv_declarations.specs.Laws.{IsUnbroken}
use Rattle.spv_norm.specs.Norm.{outside}
use Rattle.spv_built_edits.proofs.Module.{module_stays}
use Rattle.spv_rewritten.specs.Rewritten.{EachAs, IsRewrittenAs}
use Rattle.spv_rewritten.proofs.Common.{same_function, same_line}
use Rattle.spv_rewritten.proofs.Declared.{rewritten_is_declared}
use Rattle.spv_rewritten.proofs.Entered.{rewritten_is_entered}
use Rattle.spv_built_edits.specs.RewrittenLaws.{RewrittenIsBuilt}
use Rattle.spv_built_edits.proofs.RewrittenLines.{rewritten_is_laid_out}

abbrev IsPlain : Instruction → Type 0
IsPlain i = is_line i ≡ false

-- no line mark stands outside functions, if none did; by induction on the instructions
no_marks : (b is js : List Instruction) → EachAs (IsRewrittenAs b) is js → AllByRecursion IsPlain (outside is) → AllByRecursion IsPlain (outside js)
no_marks b [] [] h m = tt
no_marks b [] (j ∷ js) h m = absurd h
no_marks b (i ∷ is) [] h m = absurd h
no_marks b (i ∷ is) (j ∷ js) h m =
    subst (λ (f : Bool). AllByRecursion IsPlain (cond f [] (j ∷ outside js))) (sym (same_function b i j h.0)) (by (is_function i) m (no_marks b is js h.1))
  where
    by : (f : Bool) → AllByRecursion IsPlain (cond f [] (i ∷ outside is)) → (AllByRecursion IsPlain (outside is) → AllByRecursion IsPlain (outside js))
        → AllByRecursion IsPlain (cond f [] (j ∷ outside js))
    by true m more = tt
    by false m more = (same_line b i j h.0 ∙ m.0, more m.1)

pub rewritten_is_built : RewrittenIsBuilt
rewritten_is_built before after fs gs formed formed_after b w lines edited fit functions =
    let unbroken : IsUnbroken before = record { whole = formed; unrefused = b.declared } in
    module_stays before after fs gs formed formed_after b edited (record {
      marks = no_marks before before after w b.marks;
      lines = lines;
      laid_out = λ end. rewritten_is_laid_out end end before after w (b.laid_out end);
      declared = rewritten_is_declared before after unbroken w;
      entered = rewritten_is_entered before after unbroken w b.entered fit;
    }) functions
