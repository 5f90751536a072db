use Rattle.std.proofs.Common.{drop}
use Rattle.spv_composites.specs.Forms.{FormTable}
use Rattle.spv_composites.specs.Numbering.{HasNumbers}
use Rattle.spv_composites.proofs.Members.{MembersNumbered}
use Rattle.spv_composites.proofs.numbering.number_of_members.Given as goal

abbrev pub invariant-members : goal.invariant-members
invariant-members l = (table : FormTable) → HasNumbers l.fn.nodes l.numbers table → MembersNumbered l.fn.nodes l.nodes table l.types
    (drop l.t-index l.types) l.members
