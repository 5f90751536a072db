use Rattle.std.proofs.Common.{◌∙◌, ap, ap₂, sym, map, arith}
use Rattle.spv_value.proofs.WordLists.{scalar_is, operand_is}
use Rattle.spv_value.specs.Words.{answered, operands}
use Rattle.spv_value.specs.Eval.{scalar}
use Rattle.spv_value.proofs.shapes.extract.Goals as goal

pub returns : goal.returns
returns g c = λ f p.
    let xs = c.args.input.now in
    let offset = scalar_is xs 1 _ (omega arith) c.requires.fields.offset in
    let count = scalar_is xs 2 _ (omega arith) c.requires.fields.bits in
    c.single.ensures
    ∙ ap answered (c.each.ensures.words (λ x. f x (scalar (operands xs) 1) (scalar (operands xs) 2)) (λ x r q. p x _ _ r q ∙ ap₂ (f x) (sym offset) (sym count)))
    ∙ ap (λ ws. answered (map (λ x. f x (scalar (operands xs) 1) (scalar (operands xs) 2)) ws)) (sym (operand_is xs 0 _ (omega arith)))
