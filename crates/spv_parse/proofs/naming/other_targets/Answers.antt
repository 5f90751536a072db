use Rattle.std.proofs.Common.{ℕ, List, true, ap, subst, sym}
use Rattle.std.specs.List.{list_any}
use Rattle.std.specs.BTreeMap.{is_at}
use Rattle.std.specs.BTreeSet.{Updates}
use Rattle.std.specs.Ordering.{nat_cmp}
use Rattle.spv_tree.specs.declared.body.Case.{Case}
use Rattle.spv_parse.proofs.FirstTargets.{IsNaming, naming_all, naming_first, naming_more, none_behind}
use Rattle.spv_parse.proofs.naming.other_targets.Goals as goal

pub cases-init : goal.cases-init
cases-init c =
    subst (λ (z : List ℕ). IsNaming c.args.default c.args.cases.now c.args.cases.now c.insert.new.self z) (sym c.new-targets.ensures.items)
    (naming_first c.args.default c.args.cases.now c.new-seen.result c.insert.new.self
    (λ y. ap (λ (ks : List ℕ). list_any (is_at (nat_cmp y)) ks) c.new-seen.ensures.empty)
    (subst (λ (t : ℕ). Updates nat_cmp c.new-seen.result c.insert.new.self t true) c.number.ensures.same c.in_ok-insert.ensures.updates))

pub cases-preserved : goal.cases-preserved
cases-preserved c =
    naming_more c.args.default c.args.cases.now c.case-item.result c.cases.case-index c.cases.seen c.add_target.new.seen c.cases.targets.items c.add_target.new.targets.items
    c.cases-test.true c.case-item.is c.in_ok-add_target.ensures c.cases.invariant

pub returns : goal.returns
returns c =
    naming_all c.args.default c.args.cases.now c.cases.seen c.cases.targets.items
    (subst (λ (z : List Case). IsNaming c.args.default c.args.cases.now z c.cases.seen c.cases.targets.items) (none_behind c.args.cases.now c.cases.case-index c.cases-test.false) c.cases.invariant)
