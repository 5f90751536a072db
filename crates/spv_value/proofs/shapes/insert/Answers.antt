use Rattle.std.proofs.Common.{◌∙◌, ap, ap₂, sym, arith}
use Rattle.spv_value.proofs.WordLists.{scalar_is, operand_is}
use Rattle.spv_value.specs.Bits.{zip_with}
use Rattle.spv_value.specs.Words.{answered, operands}
use Rattle.spv_value.specs.Eval.{scalar}
use Rattle.spv_value.proofs.shapes.insert.Goals as goal

pub returns : goal.returns
returns g c = λ f p.
    let xs = c.args.input.now in
    let offset = scalar_is xs 2 _ (omega arith) c.requires.fields.offset in
    let count = scalar_is xs 3 _ (omega arith) c.requires.fields.bits in
    c.single.ensures
    ∙ ap answered (c.each2.ensures.words (λ x y. f x y (scalar (operands xs) 2) (scalar (operands xs) 3)) (λ x y r q. p x y _ _ r q ∙ ap₂ (f x y) (sym offset) (sym count)))
    ∙ ap₂ (λ ws vs. answered (zip_with (λ x y. f x y (scalar (operands xs) 2) (scalar (operands xs) 3)) ws vs))
    (sym (operand_is xs 0 _ (omega arith))) (sym (operand_is xs 1 _ (omega arith)))
