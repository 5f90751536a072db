use Rattle.std.proofs.Common.{◌∙◌, arith}
use Rattle.std.proofs.lemmas.List.{length-set}
use Rattle.spv_module.specs.View.{seen}
use Rattle.spv_module.proofs.Sections.{sections-step}
use Rattle.spv_module.proofs.flat.put_sections.Goals as goal

pub instructions-preserved : goal.instructions-preserved
instructions-preserved c = record {
  room = length-set c.instructions.sections.items c.instructions.k c.section_of-before.result ∙ c.instructions.invariant.room;
  done = sections-step c.args.insts.now c.instructions.sections.items c.instructions.begun c.has_begun-begun.result c.instructions.before c.section_of-before.result c.instructions.k (seen c.at-inst.result)
      c.instructions.invariant.done (omega arith) (omega (arith, c.instructions.invariant.room)) c.at-inst.ensures c.section_of-before.ensures c.has_begun-begun.ensures;
}
