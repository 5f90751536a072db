use Rattle.std.proofs.Common.{List, sym, ap, ◌∙◌}
use Rattle.spv_module.specs.Instruction.{Instruction}
use Rattle.spv_composites.specs.Lengths.{is_signed}
use Rattle.spv_composites.proofs.KnownLengths.{known_length-some, known_length-none}
use Rattle.spv_composites.proofs.lengths.known_length.Goals as goal

pub returns-in-Some : goal.returns-in-Some
returns-in-Some c =
    c.some_length.ensures
    ∙ known_length-some c.args.tables.now c.args.id c.in-Some.word c.is_signed.result
    (c.is_signed.ensures ∙ ap (λ (insts : List Instruction). is_signed insts c.args.id) c.kinds.ensures) (sym c.in-Some.is ∙ c.first_known_word.ensures)

pub returns-in-None : goal.returns-in-None
returns-in-None c = known_length-none c.args.tables.now c.args.id (sym c.in-None.is ∙ c.first_known_word.ensures)
