use Rattle.std.proofs.Common.{◌∙◌, ap, List}
use Rattle.spv_module.specs.Instruction.{Instruction}
use Rattle.spv_module.specs.View.{seen}
use Rattle.spv_declarations.specs.Declarations.{declared_before, says, is_specialised}
use Rattle.spv_types.proofs.OpcodeLemmas.{keeps, if_ok_both}
use Rattle.spv_types.proofs.declared_constant.declared_constant.Goals as goal

pub returns : goal.returns
returns c =
    if_ok_both _ _ _ c.with_words.result
    (λ constant flag words k next listed composed only sound stand.
    keeps c.args.kinds.now k (seen c.args.inst.now) constant (words k (record { next = next; composed = composed; only = only; sound = sound; stand = stand }) listed)
    (flag ∙ c.is_specialised-is_specialised.ensures (declared_before c.args.kinds.now k) stand only
    ∙ ap (λ (all : List Instruction). is_specialised (says all) (declared_before c.args.kinds.now k).specialised (seen c.args.inst.now)) c.requires.same))
    c.with_words.ensures.flag c.with_words.ensures.words
