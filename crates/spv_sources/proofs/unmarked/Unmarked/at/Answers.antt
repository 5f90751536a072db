use Rattle.std.proofs.Common.{◌<◌, List, length, subst, sym, ap, ◌∙◌}
use Rattle.std.specs.List.{slice_get}
use Rattle.spv_module.specs.Instruction.{Instruction}
use Rattle.spv_sources.proofs.Runs.{kept-within, kept-at}
use Rattle.spv_sources.proofs.unmarked.Unmarked.at.Goals as goal

pub at-requires : goal.at-requires
at-requires c =
    kept-within c.self.inside.insts.now c.self.inside.numbers.items c.args.k c.index.result.now c.self.invariant
    (subst (λ (insts : List Instruction). c.args.k < length insts) (sym c.self.view_is) c.requires) c.index.ensures

pub returns : goal.returns
returns c =
    sym (ap (λ (insts : List Instruction). slice_get insts c.args.k) c.self.view_is)
    ∙ kept-at c.self.inside.insts.now c.self.inside.numbers.items c.args.k c.index.result.now c.self.invariant
    (subst (λ (insts : List Instruction). c.args.k < length insts) (sym c.self.view_is) c.requires) c.index.ensures
    ∙ c.at.ensures
