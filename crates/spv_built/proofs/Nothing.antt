-- A header alone is not built.
use Rattle.spv_module.specs.Code.{cut}
use Rattle.spv_module.specs.Layout.{layout_from}
use Rattle.spv_built.specs.Facts.{HeaderIsNotBuilt}

pub header_is_not_built : HeaderIsNotBuilt
unfolding cut layout_from
header_is_not_built header fs b = let none = b.placed.laid_out 0 in absurd (cc none)
