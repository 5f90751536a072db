use Rattle.std.proofs.Common.{◌≡◌, ◌∙◌, ◌++◌, length, ap, arith}
use Rattle.spv_value.specs.Words.{words_of}
use Rattle.spv_meaning.specs.Computations.{shuffled}
use Rattle.spv_folding.proofs.Shuffling.{filled_none, filled_more, filled_all, length-filled}
use Rattle.spv_folding.proofs.operations.shuffle.Goals as goal

pub literals-init : goal.literals-init
literals-init c = c.zeros-result.ensures ∙ filled_none (shuffled (words_of c.args.a.now ++ words_of c.args.b.now)) c.args.literals.now

pub with_component-result-requires : goal.with_component-result-requires
with_component-result-requires c =
    let f = shuffled (words_of c.args.a.now ++ words_of c.args.b.now) in
    let whole : length (words_of c.literals.result) ≡ length c.args.literals.now =
    ap length c.literals.invariant ∙ length-filled f c.args.literals.now c.literals.i (omega arith) in
    omega arith

pub literals-preserved : goal.literals-preserved
literals-preserved c =
    filled_more (shuffled (words_of c.args.a.now ++ words_of c.args.b.now)) c.args.literals.now _ _ c.literals.i _
    c.literals.invariant c.picked.ensures c.with_component-result.ensures (omega arith)

pub returns : goal.returns
returns c =
    c.literals.invariant ∙ filled_all (shuffled (words_of c.args.a.now ++ words_of c.args.b.now)) c.args.literals.now c.literals.i (omega arith)
