use Rattle.std.proofs.Common.{◌++◌, ◌∷◌, [], refl, take, arith}
use Rattle.spv_module.specs.View.{seen}
use Rattle.spv_placing.proofs.Steps.{take-at}
use Rattle.spv_draft.proofs.Pools.{extends-keeps, extends-kept, extends-more, on_err}
use Rattle.spv_draft.proofs.lines.append_list.Goals as goal

pub returns-in_err-span-clause-err : goal.returns-in_err-span-clause-err
returns-in_err-span-clause-err c = λ spans a.
    let before = c.instructions.invariant spans a in
    on_err _ _
    (extends-kept c.args.pool.now c.instructions.pool c.append.new.pool spans c.instructions.more.items (take c.instructions.k c.args.list.now) before
    (c.in_err-span.ensures.err _ before.are))

pub returns-in_err-push-clause-err : goal.returns-in_err-push-clause-err
returns-in_err-push-clause-err c = λ spans a.
    let before = c.instructions.invariant spans a in
    on_err _ _
    (extends-keeps c.args.pool.now c.append.new.pool spans (c.instructions.more.items ++ c.in_ok-span.span ∷ [])
    (take c.instructions.k c.args.list.now ++ seen c.at.result ∷ [])
    (extends-more c.args.pool.now c.instructions.pool c.append.new.pool spans c.instructions.more.items _ (take c.instructions.k c.args.list.now) _
    c.in_ok-span.span (seen c.at.result) refl refl before (c.in_ok-span.ensures.ok _ before.are)))

pub instructions-preserved : goal.instructions-preserved
instructions-preserved c = λ spans a.
    let before = c.instructions.invariant spans a in
    extends-more c.args.pool.now c.instructions.pool c.append.new.pool spans c.instructions.more.items c.push.new.self.items
    (take c.instructions.k c.args.list.now) _ c.in_ok-span.span (seen c.at.result) c.in_ok-push.ensures.items
    (take-at c.args.list.now c.instructions.k (seen c.at.result) (omega arith) c.at.ensures) before (c.in_ok-span.ensures.ok _ before.are)
