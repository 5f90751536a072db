use Rattle.std.proofs.Common.{ℕ, Option, subst}
use Rattle.spv_composites.specs.Forms.{NoPart, parts_behind}
use Rattle.spv_composites.specs.Numbering.{IsNumberOfParts, Grows}
use Rattle.spv_composites.proofs.Typing.{struct-numbered, struct-missing}
use Rattle.spv_composites.proofs.numbering.number_of_struct.Goals as goal

pub returns-in_ok-number-in-Some : goal.returns-in_ok-number-in-Some
returns-in_ok-number-in-Some c = λ table h.
    let types = c.args.types.now in
    let mid = c.number_of_members.new.nodes in
    struct-numbered c.args.nodes.now mid c.number.new.self table types c.in-Some.members c.in_ok-number-in-Some.field-0
    (subst (λ (o : Option ℕ). Grows c.args.nodes.now mid × IsNumberOfParts mid o (parts_behind table NoPart types)) c.in-Some.is
    (c.in_ok-members.ensures table h))
    c.in_ok-number-in-Some.ensures.grows c.in_ok-number-in-Some.ensures.at

pub returns-in-None : goal.returns-in-None
returns-in-None c = λ table h.
    let types = c.args.types.now in
    let mid = c.number_of_members.new.nodes in
    struct-missing c.args.nodes.now mid table types
    (subst (λ (o : Option ℕ). Grows c.args.nodes.now mid × IsNumberOfParts mid o (parts_behind table NoPart types)) c.in-None.is
    (c.in_ok-members.ensures table h))
