-- Instructions that are copied to the end of a list.
use Rattle.std.proofs.Common.{◌≡◌, ℕ, ◌+◌, ◌<◌, List, [], ◌∷◌, ◌++◌, length, take, Some, slice_get, sym, ap, ◌∙◌, append_assoc}
use Rattle.std.proofs.lemmas.List.{map-append}
use Rattle.std.proofs.lemmas.Option.{get_or_from_slice_get}
use Rattle.spv_module.specs.declared.inst.Inst.{Inst}
use Rattle.spv_module.specs.declared.view.View.{View}
use Rattle.spv_module.specs.Inst.{held}
use Rattle.spv_module.specs.View.{seen}
use Rattle.spv_module.specs.Instruction.{Instruction}
use Rattle.spv_tree.specs.Tree.{words_of}
use Rattle.spv_tree.proofs.Equations.{one_more}

words-push : (old : List Instruction) (i : Instruction) → words_of (old ++ i ∷ []) ≡ words_of old ++ i.words ∷ []
words-push old i = map-append (λ j. j.words) old (i ∷ [])

pub copied : (old new : List Instruction) (view : View) (inst : Inst) → seen view ≡ held inst → new ≡ old ++ seen view ∷ [] → words_of new ≡ words_of old ++ inst.words ∷ []
copied old new view inst same e = ap words_of e ∙ words-push old (seen view) ∙ ap (λ i. words_of old ++ i.words ∷ []) same

-- one instruction more of a list
pub list-more : (list : List Instruction) (k : ℕ) (i : Instruction) (front : List (List ℕ)) (old new : List Instruction) → k < length list → slice_get list k ≡ Some i
    → words_of old ≡ front ++ words_of (take k list) → new ≡ old ++ i ∷ [] → words_of new ≡ front ++ words_of (take (k + 1) list)
list-more list k i front old new lt at before e =
    ap words_of e ∙ words-push old i ∙ ap (λ z. z ++ i.words ∷ []) before ∙ append_assoc front (words_of (take k list)) (i.words ∷ [])
    ∙ ap (λ z. front ++ z) (sym (ap words_of (one_more list k i lt (sym (get_or_from_slice_get list k i i at))) ∙ words-push (take k list) i))
