use Rattle.std.proofs.Common.{ap₂, sym, arith, ◌∙◌, ◌++◌}
use Rattle.spv_value.proofs.WordLists.{held, length-words_of}
use Rattle.spv_value.specs.Words.{answered}
use Rattle.spv_value.proofs.shapes.double.Goals as goal

pub returns-in-1 : goal.returns-in-1
unfolding answered
returns-in-1 c =
    ap₂ (λ xs ys. answered (xs ++ ys)) (sym (held 1 c.args.low c.in-1.is))
    (sym (held 1 c.args.high (sym (length-words_of c.args.high) ∙ c.requires.alike ∙ length-words_of c.args.low ∙ c.in-1.is)))

pub returns-in-2 : goal.returns-in-2
unfolding answered
returns-in-2 c =
    ap₂ (λ xs ys. answered (xs ++ ys)) (sym (held 2 c.args.low c.in-2.is))
    (sym (held 2 c.args.high (sym (length-words_of c.args.high) ∙ c.requires.alike ∙ length-words_of c.args.low ∙ c.in-2.is)))

pub returns-in-3 : goal.returns-in-3
unfolding answered
returns-in-3 c =
    ap₂ (λ xs ys. answered (xs ++ ys)) (sym (held 3 c.args.low c.in-3.is))
    (sym (held 3 c.args.high (sym (length-words_of c.args.high) ∙ c.requires.alike ∙ length-words_of c.args.low ∙ c.in-3.is)))

pub returns-in-4 : goal.returns-in-4
unfolding answered
returns-in-4 c =
    ap₂ (λ xs ys. answered (xs ++ ys)) (sym (held 4 c.args.low c.in-4.is))
    (sym (held 4 c.args.high (sym (length-words_of c.args.high) ∙ c.requires.alike ∙ length-words_of c.args.low ∙ c.in-4.is)))

pub unreachable-requires : goal.unreachable-requires
unreachable-requires c = omega (arith, length-words_of c.args.low, c.requires.some, c.requires.few, c.in_default)
