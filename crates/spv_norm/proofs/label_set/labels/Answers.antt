use Rattle.std.specs.BTreeSet.{contains}
use Rattle.std.specs.Ordering.{nat_cmp}
use Rattle.spv_module.specs.View.{seen}
use Rattle.spv_norm.proofs.Stepwise.{labelled_next}
use Rattle.spv_norm.proofs.label_set.labels.Goals as goal

pub instructions-preserved : goal.instructions-preserved
instructions-preserved c =
    labelled_next (λ l. contains nat_cmp c.instructions.labels l) (λ l. contains nat_cmp c.add_label.new.labels l) c.args.insts.now c.instructions.k (seen c.at.result)
    c.instructions.invariant c.in_ok-add_label.ensures c.at.ensures
