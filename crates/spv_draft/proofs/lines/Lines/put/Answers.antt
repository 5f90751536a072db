use Rattle.std.proofs.Common.{◌≡◌, ◌<◌, List, length, refl, sym, ap, ◌∙◌, arith}
use Rattle.std.specs.List.{slice_set}
use Rattle.std.proofs.lemmas.List.{length-map}
use Rattle.spv_module.specs.Instruction.{Instruction}
use Rattle.spv_module.specs.List.{instruction_at, instructions_in, pool_words}
use Rattle.spv_module.specs.View.{seen}
use Rattle.spv_placing.specs.Placing.{size_in}
use Rattle.spv_draft.proofs.Lists.{no_more, size-replaced}
use Rattle.spv_draft.proofs.Pools.{set-are, set-told, within_spans}
use Rattle.spv_draft.proofs.lines.Lines.put.Goals as goal

pub overflow_sub-without : goal.overflow_sub-without
overflow_sub-without c =
    no_more c.args.self.now (seen c.at.result) c.args.k c.words_in.result c.self.inside.size c.at.ensures c.words_in.ensures
    (c.self.invariant.1.is ∙ ap size_in c.self.view_is)

pub invariant_of-self-2 : goal.invariant_of-self-2
invariant_of-self-2 c =
    let spans = c.self.inside.spans.items in
    let after = slice_set spans c.args.k c.in_ok-span.span in
    let within = within_spans c.self.inside.pool spans c.args.self.now c.args.k c.self.view_is c.requires in
    let more = c.in_ok-span.ensures.ok spans c.self.invariant.0 in (
      set-are c.self.inside.pool c.append.new.pool spans after c.in_ok-span.span (seen c.args.inst.now) c.args.k within refl more,
      record {
        is =
            size-replaced c.args.self.now (seen c.at.result) (seen c.args.inst.now) c.args.k c.words_in.result c.self.inside.size c.in_ok-size.size c.requires
            c.at.ensures c.words_in.ensures (c.self.invariant.1.is ∙ ap size_in c.self.view_is) c.in_ok-size.ensures.sum
            ∙ ap (λ (is : List Instruction). size_in (slice_set is c.args.k (seen c.args.inst.now))) (sym c.self.view_is)
            ∙ ap size_in
            (sym (set-told c.self.inside.pool c.append.new.pool spans after c.in_ok-span.span (seen c.args.inst.now) c.args.k within refl more));
      },
    )

pub returns-clause-ok : goal.returns-clause-ok
returns-clause-ok c =
    let spans = c.self.inside.spans.items in
    set-told c.self.inside.pool c.append.new.pool spans (slice_set spans c.args.k c.in_ok-span.span) c.in_ok-span.span (seen c.args.inst.now) c.args.k
    (within_spans c.self.inside.pool spans c.args.self.now c.args.k c.self.view_is c.requires) refl (c.in_ok-span.ensures.ok spans c.self.invariant.0)
    ∙ ap (λ (is : List Instruction). slice_set is c.args.k (seen c.args.inst.now)) c.self.view_is
