use Rattle.std.proofs.Common.{ℕ, List, ◌∙◌, sym, subst}
use Rattle.std.specs.List.{slice_index}
use Rattle.spv_module.specs.Reading.{AreRead}
use Rattle.spv_module.proofs.Decoding.{header_refuses, read_rises}
use Rattle.spv_module.proofs.coding.decode.Goals as goal

pub returns-in-Some-clause-answer : goal.returns-in-Some-clause-answer
returns-in-Some-clause-answer c = header_refuses c.args.words.now c.in-Some.refusal (sym c.broken_header.ensures ∙ c.in-Some.is)

pub broken_layout-requires-clause-rises : goal.broken_layout-requires-clause-rises
broken_layout-requires-clause-rises c =
    read_rises c.args.words.now c.in_ok-insts.insts c.requires.header.five
    (subst (λ (words : List ℕ). AreRead (slice_index c.args.words.now 3) 5 words c.in_ok-insts.insts) c.split_at.ensures.back c.in_ok-insts.ensures)
