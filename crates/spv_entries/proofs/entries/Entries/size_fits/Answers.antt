use Rattle.std.proofs.Common.{List, sym, ap, ◌∙◌}
use Rattle.spv_module.specs.Instruction.{Instruction}
use Rattle.spv_module.specs.View.{seen}
use Rattle.spv_entries.specs.Sizes.{size_fits}
use Rattle.spv_entries.proofs.Named.{sized-at}
use Rattle.spv_entries.proofs.entries.Entries.size_fits.Goals as goal

pub returns-in-Some : goal.returns-in-Some
returns-in-Some c =
    sized-at c.self.inside.kinds.now (seen c.args.inst.now) c.in-Some.function c.is_sized.result c.in-Some.ensures (c.is_sized.ensures c.self.inside.kinds.now c.self.invariant.naming)
    ∙ ap (λ (insts : List Instruction). size_fits insts (seen c.args.inst.now)) c.self.view_is
