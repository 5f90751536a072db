use Rattle.std.proofs.Common.{List, sym, ap, ◌∙◌, arith}
use Rattle.std.specs.List.{slice_set}
use Rattle.spv_module.specs.Instruction.{Instruction}
use Rattle.spv_module.specs.List.{instruction_at, pool_words}
use Rattle.spv_placing.specs.Placing.{size_in}
use Rattle.spv_draft.specs.Named.{with_word}
use Rattle.spv_draft.proofs.Pools.{one_of, used_here, word-put}
use Rattle.spv_draft.proofs.Replaced.{size-with_word}
use Rattle.spv_draft.proofs.lines.Lines.put_id.Goals as goal

pub overflow_add-span : goal.overflow_add-span
overflow_add-span c =
    let here =
    used_here c.self.inside.pool c.self.inside.spans.items c.args.self.now c.args.k c.index-span.result.now c.args.at c.self.view_is c.requires.within
    c.index-span.ensures c.self.invariant.0 c.requires.used in
    omega (arith, here.inside, here.within)

pub put-requires : goal.put-requires
put-requires c =
    let here =
    used_here c.self.inside.pool c.self.inside.spans.items c.args.self.now c.args.k c.index-span.result.now c.args.at c.self.view_is c.requires.within
    c.index-span.ensures c.self.invariant.0 c.requires.used in
    omega (arith, here.inside, here.within)

pub invariant_of-self : goal.invariant_of-self
invariant_of-self c =
    let here =
    used_here c.self.inside.pool c.self.inside.spans.items c.args.self.now c.args.k c.index-span.result.now c.args.at c.self.view_is c.requires.within
    c.index-span.ensures c.self.invariant.0 c.requires.used in
    let put =
    word-put c.self.inside.pool c.put.new.self c.self.inside.spans.items c.args.self.now c.args.k c.index-span.result.now c.args.at c.args.id c.self.view_is
    c.self.invariant.0 here c.requires.some c.ranges.id.fits c.put.ensures.words c.put.ensures.roles in (
      put.are,
      record {
        is =
            size-with_word c.args.self.now c.args.k c.args.at c.args.id c.self.inside.size
            (instruction_at (pool_words c.self.inside.pool) c.index-span.result.now) c.requires.within here.told
            (c.self.invariant.1.is ∙ ap size_in c.self.view_is)
            ∙ ap size_in (sym put.told);
      },
    )

pub returns : goal.returns
returns c = λ i e.
    let here =
    used_here c.self.inside.pool c.self.inside.spans.items c.args.self.now c.args.k c.index-span.result.now c.args.at c.self.view_is c.requires.within
    c.index-span.ensures c.self.invariant.0 c.requires.used in
    let put =
    word-put c.self.inside.pool c.put.new.self c.self.inside.spans.items c.args.self.now c.args.k c.index-span.result.now c.args.at c.args.id c.self.view_is
    c.self.invariant.0 here c.requires.some c.ranges.id.fits c.put.ensures.words c.put.ensures.roles in
    put.told
    ∙ ap (λ (j : Instruction). slice_set c.args.self.now c.args.k (with_word j c.args.at c.args.id))
    (one_of (instruction_at (pool_words c.self.inside.pool) c.index-span.result.now) i (sym here.told ∙ e))
