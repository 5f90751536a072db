-- The blocks of a function in which no rule on structured control flow is broken, by its tables.
use Rattle.std.proofs.Common.{ℕ, ◌<◌, length, Option}
use Rattle.spv_blocks.specs.Blocks.{Code}
use Rattle.spv_walk.specs.Contexts.{Context}
use Rattle.spv_flow.specs.Shapes.{IsShaped}
use Rattle.spv_spelling.specs.Clean.{IsClean}
use Rattle.spv_spelling.proofs.Settled.{clean_by_tables}
use Rattle.spv_ways.specs.Laws.{IsNumbered}
use Rattle.spv_check.proofs.Growth.{clean_is_numbered}

module _ (f : Code) (enterer : ℕ → Option ℕ) (place : ℕ → Option Context) (told : IsShaped f enterer place) where
  pub told_clean : IsClean told.is_pointer f
  told_clean =
      clean_by_tables told.is_pointer f enterer told.loops.ends place
      (record { walk = told.walk; enterers = told.enterers; one_back_edge = told.loops.told }) told.unbroken

  pub told_numbered : 0 < length f → (number : ℕ → ℕ) × IsNumbered f number
  told_numbered some = clean_is_numbered told.is_pointer f told_clean some
