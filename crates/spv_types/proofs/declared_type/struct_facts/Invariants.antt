use Rattle.std.proofs.Common.{ℕ, List, drop}
use Rattle.spv_module.specs.View.{seen}
use Rattle.spv_meaning.specs.Constants.{Table, members_of}
use Rattle.spv_declarations.specs.Declarations.{says}
use Rattle.spv_types.specs.Meanings.{StandFor}
use Rattle.spv_types.specs.Members.{SumUp}
use Rattle.spv_types.proofs.declared_type.struct_facts.Given as goal

-- the members so far are summed up
abbrev pub invariant-members : goal.invariant-members
invariant-members l =
    let types = drop 2 (seen l.inst).words in
    (table : Table) (ids : List ℕ) → StandFor table ids l.meanings.entries →
    SumUp l.summed (members_of (says l.decorations) table l.id l.n (drop l.n types)) (members_of (says l.decorations) table l.id 0 types)
