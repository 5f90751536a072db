use Rattle.std.proofs.Common.{sym, ap, ◌∙◌}
use Rattle.std.specs.Option.{option_copied}
use Rattle.spv_composites.specs.Forms.{length_at}
use Rattle.spv_composites.proofs.Typing.{array-numbered}
use Rattle.spv_composites.proofs.numbering.number_of_array.Goals as goal

pub returns-in_ok-number-in-Some : goal.returns-in_ok-number-in-Some
returns-in_ok-number-in-Some c = λ table h.
    array-numbered _ _ c.args.numbers.now table (length_at c.args.tables.now c.args.length) c.args.element c.in-Some.element.now c.in_ok-number-in-Some.field-0 c.array_node-node.result h
    (sym c.get.ensures.value ∙ ap option_copied c.in-Some.is) c.in_ok-number-in-Some.ensures.grows c.array_node-node.ensures c.in_ok-number-in-Some.ensures.at
