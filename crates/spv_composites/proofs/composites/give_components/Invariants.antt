use Rattle.std.proofs.Common.{◌≡◌, drop}
use Rattle.spv_typing.specs.Operations.{leads_to}
use Rattle.spv_composites.specs.Composites.{components_of}
use Rattle.spv_composites.proofs.composites.give_components.Given as goal

abbrev pub invariant-values : goal.invariant-values
invariant-values l =
    leads_to l.count (components_of l.kinds l.component l.ids) ≡ leads_to l.left (components_of l.kinds l.component (drop l.id-index l.ids))
