-- Where ids stand for the same in two modules: lines fit in both, and functions are typed in both.
use Rattle.std.proofs.Common.{◌≡◌, ℕ, Bool, true, false, List, [], ◌++◌, Option, None, refl, sym, ap, ap₂, subst, ◌∙◌, true≢false}
use Rattle.std.specs.Prelude.{nat_eq, slice_index}
use Rattle.std.specs.Option.{option_map_or}
use Rattle.spv_module.specs.First.{unless}
use Rattle.spv_module.specs.Instruction.{Instruction}
use Rattle.spv_ids.specs.Ids.{kind}
use Rattle.spv_typing.specs.Kinds.{is_one_of}
use Rattle.spv_usage.specs.declared.stages.Stage.{Stage}
use Rattle.spv_usage.specs.declared.stages.Stage.TheVariants.{Opening}
use Rattle.spv_usage.specs.Stages.{stage_behind}
use Rattle.spv_editing.specs.Editing.{unchanged}
use Rattle.spv_editing.specs.Showing.{Shown, shown}
use Rattle.spv_editing.proofs.Edits.{unchanged-function}
use Rattle.spv_alike.specs.Alike.{AreAlike, is_loose}
use Rattle.spv_alike.specs.Laws.{RulesStay}
use Rattle.spv_alike.proofs.Lookups.{at_loose, same_one_of}
use Rattle.spv_typed_trees.specs.Typed.{IsTyped, StepFits, as_instruction}
use Rattle.spv_typed_edits.specs.Edits.{SameRound, SameTypes, is_type, type_kinds}
use Rattle.spv_typed_edits.specs.Laws.{StepsWhereAlike, TypedWhereAlike}
use Rattle.spv_typed_edits.proofs.Types.{same_closed, same_shape, same_void}
use Rattle.spv_typed_edits.proofs.Members.{of_each}
use Rattle.spv_typed_edits.proofs.Bodies.{typed}
use Rattle.spv_typed_edits.proofs.Edited.{function_stays, result_stays, types_stay}

pub steps_where_alike : RulesStay → StepsWhereAlike
steps_where_alike rules_stay before after unbroken alike stage words f =
    let i = as_instruction words in
    let s = rules_stay before after unbroken alike i i refl in
    record {
      arithmetic = ap₂ (λ (a b : Bool). unless a 501 ++ unless b 502) s.arithmetic s.arithmetic_result ∙ f.arithmetic;
      composites = s.composites ∙ f.composites;
      storage = s.storage stage ∙ f.storage;
      ordering = s.ordering ∙ f.ordering;
      result = s.results None ∙ f.result;
      call = s.call ∙ f.call;
    }

module _ (before after : List Instruction) (alike : AreAlike before after) where
  -- a type is not loose
  type_is_firm : (t : ℕ) → is_type before t ≡ true → is_loose before t ≡ false
  type_is_firm t h = by (is_loose before t) refl
    where
      by : (b : Bool) → is_loose before t ≡ b → is_loose before t ≡ false
      by false e = e
      by true e =
          absurd (true≢false (sym h ∙ at_loose (is_one_of type_kinds) false (refl, refl, refl, refl) (kind before t) e))

  pub same_types : SameTypes before after
  same_types = record {
    words = λ t h. alike.fixed t (type_is_firm t h);
    others = λ t h. same_one_of before after alike type_kinds refl t ∙ h;
  }

pub typed_where_alike : RulesStay → TypedWhereAlike
typed_where_alike rules_stay before after f unbroken alike opens h =
    let types = same_types before after alike in
    let round : SameRound before after f =
    record { types = types; parameters = alike.parameters (slice_index f.function 2); whole = unbroken.whole } in
    let Kept : Shown → Type 0 = λ s. Unit {0} in
    let Same : Stage → Stage → Type 0 = λ s r. s ≡ r in
    subst (IsTyped after) (unchanged-function f) (record {
      function = function_stays before after f opens round h.function;
      result = result_stays before after f opens round h.function h.result;
      parameters = types_stay before after f opens round h.function h.parameters;
      body =
          typed before after unchanged Kept Same refl
          (λ s r words k e fit. (
            (subst (λ z. StepFits after z words) e (steps_where_alike rules_stay before after unbroken alike s words fit), tt),
            ap (λ (z : Stage). stage_behind z (as_instruction words)) e,
          ))
          (λ id k t here. alike.values id ∙ here) (same_shape before after types) (same_closed before after types) (same_void before after types)
          (λ t here. ap (λ (o : Option ℕ). option_map_or (nat_eq t) o false) (alike.values 0) ∙ here)
          (slice_index f.function 1) [] Opening Opening f.body (of_each Kept (λ s. tt) (shown f.body)) refl h.body;
    })
