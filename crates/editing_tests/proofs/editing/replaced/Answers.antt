use Rattle.spv_tree.specs.Tree.{body_of}
use Rattle.spv_editing.specs.Facts.{replacing}
use Rattle.editing_tests.proofs.Samples.{replaced-sound}
use Rattle.editing_tests.proofs.editing.replaced.Goals as goal

pub returns : goal.returns
returns c =
    replaced-sound (replacing c.id.result c.id-2.result) (body_of c.in_ok-body.body) (body_of c.in_ok-selecting.field-0) (λ i. replacing (c.id.ensures i) (c.id-2.ensures i)) c.in_ok-body.ensures
    c.in_ok-selecting.ensures
