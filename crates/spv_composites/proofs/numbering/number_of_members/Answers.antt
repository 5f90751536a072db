use Rattle.std.proofs.Common.{ℕ, ◌+◌, List, drop, get_or, sym, ap, subst, ◌∙◌, arith}
use Rattle.std.specs.Option.{option_copied}
use Rattle.std.proofs.lemmas.List.{drop_more, drop_all}
use Rattle.spv_composites.proofs.Members.{MembersNumbered, members-none, members-more, members-missing, members-all}
use Rattle.spv_composites.proofs.numbering.number_of_members.Goals as goal

pub members-init : goal.members-init
members-init c = λ table h. members-none c.args.nodes.now c.args.numbers.now table c.args.types.now h

pub returns-in_default : goal.returns-in_default
returns-in_default c = λ table h.
    let types = c.args.types.now in
    let k = c.members.t-index in
    let m =
    subst (λ (rest : List ℕ). MembersNumbered c.args.nodes.now c.members.nodes table types rest c.members.members) (drop_more types k 0 c.members-test.true)
    (c.members.invariant table h) in (
      m.grows,
      members-missing c.args.nodes.now c.members.nodes c.args.numbers.now table types (drop (k + 1) types) (get_or types k 0) c.members.members h m
          (sym c.get.ensures.value ∙ ap option_copied c.in_default.is),
    )

pub members-preserved : goal.members-preserved
members-preserved c = λ table h.
    let types = c.args.types.now in
    let k = c.members.t-index in
    let m =
    subst (λ (rest : List ℕ). MembersNumbered c.args.nodes.now c.members.nodes table types rest c.members.members) (drop_more types k 0 c.members-test.true)
    (c.members.invariant table h) in
    members-more c.args.nodes.now c.members.nodes c.number.new.self c.args.numbers.now table types (drop (k + 1) types)
    (get_or types k 0) c.members.members c.in-Some.member.now c.in_ok-members.members h m
    (sym c.get.ensures.value ∙ ap option_copied c.in-Some.is) c.in_ok-members.ensures.grows c.in_ok-members.ensures.at

pub returns : goal.returns
returns c = λ table h.
    let types = c.args.types.now in
    let m =
    subst (λ (rest : List ℕ). MembersNumbered c.args.nodes.now c.members.nodes table types rest c.members.members)
    (drop_all c.members.t-index types (omega arith)) (c.members.invariant table h) in
    (m.grows, members-all c.args.nodes.now c.members.nodes table types c.members.members m)
