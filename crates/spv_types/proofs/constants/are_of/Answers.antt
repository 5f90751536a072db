use Rattle.std.proofs.Common.{sym, ◌∙◌, ◌≡◌, false, nat_eq, length, arith}
use Rattle.std.proofs.lemmas.Bool.Decides.{nat_tests}
use Rattle.spv_types.proofs.Constituents.{are_of-zip, are_of-count}
use Rattle.spv_types.proofs.constants.are_of.Goals as goal

pub returns-then-types-ids : goal.returns-then-types-ids
returns-then-types-ids c = c.each_of.ensures ∙ sym (are_of-zip c.args.kinds.now c.args.types.now c.args.ids.now c.if-types-ids.true)

pub returns-else-types-ids : goal.returns-else-types-ids
returns-else-types-ids c =
    let differ : nat_eq (length c.args.types.now) (length c.args.ids.now) ≡ false = let h = c.if-types-ids.false in grind (arith, nat_tests) in
    differ ∙ sym (are_of-count c.args.kinds.now c.args.types.now c.args.ids.now c.if-types-ids.false)
