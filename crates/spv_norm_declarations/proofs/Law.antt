-- The law, of modules that are alike.
use Rattle.std.proofs.Common.{List}
use Rattle.spv_module.specs.Instruction.{Instruction}
use Rattle.spv_alike.specs.Alike.{AreAlike}
use Rattle.spv_norm_declarations.specs.Laws.{NormIsDeclared}
use Rattle.spv_norm_declarations.proofs.Lookups.{LooksAlike}
use Rattle.spv_norm_declarations.proofs.Whole.{norm_breaks_none}

looks_alike : (before after : List Instruction) → AreAlike before after → LooksAlike before after
looks_alike before after alike = record {
  fixed = alike.fixed;
  loose_stays = alike.loose;
  outside = alike.outside;
  decorations = alike.decorations;
  members = alike.members;
}

pub norm_is_declared : NormIsDeclared
norm_is_declared insts again bodies read norm clean alike once free =
    norm_breaks_none insts again bodies read norm clean (looks_alike insts again alike) alike.values once (λ k i e names id c. free.at k i e names id c)
