use Rattle.std.proofs.Common.{◌≡◌, List, ◌∷◌, [], sym, ap, ◌∙◌}
use Rattle.std.specs.List.{insert}
use Rattle.spv_module.specs.declared.list.Span.{Span}
use Rattle.spv_module.specs.Instruction.{Instruction}
use Rattle.spv_module.specs.List.{instructions_in}
use Rattle.spv_module.specs.View.{seen}
use Rattle.spv_placing.specs.Placing.{size_in}
use Rattle.spv_draft.proofs.Lists.{size-inserted}
use Rattle.spv_draft.proofs.Pools.{insert-are, insert-told}
use Rattle.spv_draft.proofs.lines.Lines.insert.Goals as goal

pub invariant_of-self-2 : goal.invariant_of-self-2
invariant_of-self-2 c =
    let spans = c.self.inside.spans.items in
    let more = c.in_ok-span.ensures.ok spans c.self.invariant.0 in
    let after : c.insert.new.self.items ≡ insert spans c.args.k c.in_ok-span.span =
    c.in_ok-insert.ensures.items ∙ ap (λ (old : List Span). insert old c.args.k c.in_ok-span.span) c.in_ok-reserve.ensures.items in (
      insert-are c.self.inside.pool c.append.new.pool spans c.insert.new.self.items c.in_ok-span.span (seen c.args.inst.now) c.args.k after more,
      record {
        is =
            size-inserted (instructions_in c.self.inside.pool spans) (seen c.args.inst.now) c.args.k c.self.inside.size c.in_ok-size.size
            c.self.invariant.1.is c.in_ok-size.ensures.sum
            ∙ ap size_in
            (sym (insert-told c.self.inside.pool c.append.new.pool spans c.insert.new.self.items c.in_ok-span.span (seen c.args.inst.now) c.args.k after more));
      },
    )

pub returns-clause-ok : goal.returns-clause-ok
returns-clause-ok c =
    let spans = c.self.inside.spans.items in
    insert-told c.self.inside.pool c.append.new.pool spans c.insert.new.self.items c.in_ok-span.span (seen c.args.inst.now) c.args.k
    (c.in_ok-insert.ensures.items ∙ ap (λ (old : List Span). insert old c.args.k c.in_ok-span.span) c.in_ok-reserve.ensures.items)
    (c.in_ok-span.ensures.ok spans c.self.invariant.0)
    ∙ ap (λ (is : List Instruction). insert is c.args.k (seen c.args.inst.now)) c.self.view_is
