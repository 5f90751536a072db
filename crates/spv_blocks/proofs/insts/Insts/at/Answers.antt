use Rattle.std.proofs.Common.{◌<◌, length, List, ap, sym, subst, ◌∙◌, arith}
use Rattle.std.specs.List.{slice_get}
use Rattle.spv_module.specs.Instruction.{Instruction}
use Rattle.spv_module.specs.View.{seen}
use Rattle.spv_blocks.proofs.Slices.{part-at, part-within}
use Rattle.spv_blocks.proofs.insts.Insts.at.Goals as goal

pub overflow_add-self-inside : goal.overflow_add-self-inside
overflow_add-self-inside c =
    let within = part-within c.self.inside.insts.now c.self.inside.start c.self.inside.end c.args.k (subst (λ (insts : List Instruction). c.args.k < length insts) (sym c.self.view_is) c.requires) in
    omega arith

pub returns : goal.returns
returns c =
    sym (ap (λ (insts : List Instruction). slice_get insts c.args.k) c.self.view_is)
    ∙ part-at c.self.inside.insts.now c.self.inside.start c.self.inside.end c.args.k (seen c.at.result)
    (subst (λ (insts : List Instruction). c.args.k < length insts) (sym c.self.view_is) c.requires) c.at.ensures
