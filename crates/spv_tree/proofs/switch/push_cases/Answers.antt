use Rattle.spv_tree.proofs.Cases.{cases-more}
use Rattle.spv_tree.proofs.switch.push_cases.Goals as goal

pub cases-preserved : goal.cases-preserved
cases-preserved c =
    cases-more c.args.cases.now c.cases.case-index c.case-item.result c.args.words.now.items c.cases.words.items c.push_case.new.words.items c.cases-test.true c.case-item.is
    c.cases.invariant c.in_ok-push_case.ensures
