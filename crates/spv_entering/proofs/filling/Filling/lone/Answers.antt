use Rattle.spv_entering.proofs.Fillings.{kept-going}
use Rattle.spv_entering.proofs.filling.Filling.lone.Goals as goal

pub returns-clause-going : goal.returns-clause-going
returns-clause-going c =
    kept-going c.args.flow.now c.args.self.now c.keep.new.self c.args.t c.advance-passed.result c.requires.going c.keep.ensures.tops c.in_ok-keep.ensures.passed c.advance-passed.ensures.passed
