use Rattle.spv_module.specs.declared.list.Span.{Span}
use Rattle.spv_draft.proofs.Pools.{extended}
use Rattle.spv_draft.proofs.lines.append.Goals as goal

pub returns-clause-ok : goal.returns-clause-ok
returns-clause-ok c = λ spans a.
    let span : Span = record { offset = c.args.inst.now.offset; start = c.count-start.result; end = c.count.result } in
    extended c.args.pool.now c.append.new.self c.args.inst.now.words.now c.args.inst.now.roles.now spans span c.in_ok-append.ensures.words
    c.in_ok-append.ensures.roles c.count-start.ensures c.count.ensures c.args.inst.now.whole a
