use Rattle.std.proofs.Common.{◌∙◌, ◌∷◌, [], ◌≤◌, ap, sym, arith, length-take-le, le_trans, le_of_eq}
use Rattle.std.specs.Int.{from_bool}
use Rattle.std.specs.List.{list_all}
use Rattle.spv_value.proofs.WordLists.{taken_words, operand_is, len_is}
use Rattle.spv_value.specs.Compare.{is_one, all_of}
use Rattle.spv_value.specs.Words.{answered}
use Rattle.spv_value.proofs.shapes.all.Goals as goal

pub slice_bounds-words-end : goal.slice_bounds-words-end
slice_bounds-words-end c = le_trans (le_of_eq (c.from.ensures ∙ sym (len_is c.args.input.now 0 _ (omega arith)))) c.requires.few

pub slice_bounds-has_only_ones-end : goal.slice_bounds-has_only_ones-end
slice_bounds-has_only_ones-end c = sym (length-take-le _ _ (le_trans (le_of_eq (c.from.ensures ∙ sym (len_is c.args.input.now 0 _ (omega arith)))) c.requires.few))

pub returns : goal.returns
unfolding answered all_of
returns c =
    let low : c.from.result ≤ 4 = le_trans (le_of_eq (c.from.ensures ∙ sym (len_is c.args.input.now 0 _ (omega arith)))) c.requires.few in
    ap (λ n. answered (n ∷ []))
    (c.from-2.ensures
    ∙ ap from_bool
    (c.has_only_ones-all.ensures ∙ ap (list_all is_one) (taken_words _ c.from.result c.from.ensures low ∙ sym (operand_is c.args.input.now 0 _ (omega arith)))))
