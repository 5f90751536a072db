use Rattle.std.proofs.Common.{◌≡◌, List, sym, ap, subst, ◌∙◌}
use Rattle.spv_module.specs.declared.list.Span.{Span}
use Rattle.spv_module.specs.Instruction.{Instruction}
use Rattle.spv_module.specs.List.{instructions_in, AreSpans}
use Rattle.spv_placing.specs.Placing.{size_in}
use Rattle.spv_draft.specs.Lines.{spliced}
use Rattle.spv_draft.proofs.Pools.{extends-are, extends-keeps, extends-told, on_err}
use Rattle.spv_draft.proofs.lines.Lines.put_range.Goals as goal

pub invariant_of-self-in_err-spans : goal.invariant_of-self-in_err-spans
invariant_of-self-in_err-spans c =
    let spans = c.self.inside.spans.items in
    let keeps = extends-keeps c.self.inside.pool c.append_list.new.pool spans c.in_ok-more.more.items c.args.list.now
    (c.in_ok-more.ensures.ok spans c.self.invariant.0) in
    (keeps.are, record { is = c.self.invariant.1.is ∙ ap size_in (sym keeps.is) })

pub returns-in_err-spans-clause-err : goal.returns-in_err-spans-clause-err
returns-in_err-spans-clause-err c =
    let spans = c.self.inside.spans.items in
    let keeps = extends-keeps c.self.inside.pool c.append_list.new.pool spans c.in_ok-more.more.items c.args.list.now
    (c.in_ok-more.ensures.ok spans c.self.invariant.0) in
    on_err _ _ (keeps.is ∙ c.self.view_is)

pub size_of-requires : goal.size_of-requires
size_of-requires c =
    let spans = c.self.inside.spans.items in
    let same : c.deref-3.result.now ≡ spliced spans c.args.start c.args.end c.in_ok-more.more.items =
    c.deref-3.ensures.value
    ∙ c.in_ok-spans.ensures
    ∙ ap (λ (xs : List Span). spliced xs c.args.start c.args.end c.deref-2.result.now) c.deref.ensures.value
    ∙ ap (spliced spans c.args.start c.args.end) c.deref-2.ensures.value in
    subst (AreSpans c.append_list.new.pool) (sym same)
    (extends-are c.self.inside.pool c.append_list.new.pool spans c.in_ok-more.more.items c.args.list.now c.args.start c.args.end c.requires
    (c.in_ok-more.ensures.ok spans c.self.invariant.0))

pub invariant_of-self-in_err-size : goal.invariant_of-self-in_err-size
invariant_of-self-in_err-size c =
    let spans = c.self.inside.spans.items in
    let keeps = extends-keeps c.self.inside.pool c.append_list.new.pool spans c.in_ok-more.more.items c.args.list.now
    (c.in_ok-more.ensures.ok spans c.self.invariant.0) in
    (keeps.are, record { is = c.self.invariant.1.is ∙ ap size_in (sym keeps.is) })

pub returns-in_err-size-clause-err : goal.returns-in_err-size-clause-err
returns-in_err-size-clause-err c =
    let spans = c.self.inside.spans.items in
    let keeps = extends-keeps c.self.inside.pool c.append_list.new.pool spans c.in_ok-more.more.items c.args.list.now
    (c.in_ok-more.ensures.ok spans c.self.invariant.0) in
    on_err _ _ (keeps.is ∙ c.self.view_is)

pub invariant_of-self-2 : goal.invariant_of-self-2
invariant_of-self-2 c =
    let spans = c.self.inside.spans.items in
    let same : c.in_ok-spans.spans.items ≡ spliced spans c.args.start c.args.end c.in_ok-more.more.items =
    c.in_ok-spans.ensures
    ∙ ap (λ (xs : List Span). spliced xs c.args.start c.args.end c.deref-2.result.now) c.deref.ensures.value
    ∙ ap (spliced spans c.args.start c.args.end) c.deref-2.ensures.value in (
      subst (AreSpans c.append_list.new.pool) (sym same)
          (extends-are c.self.inside.pool c.append_list.new.pool spans c.in_ok-more.more.items c.args.list.now c.args.start c.args.end c.requires
          (c.in_ok-more.ensures.ok spans c.self.invariant.0)),
      record { is = c.in_ok-size.ensures.sum ∙ ap (λ (xs : List Span). size_in (instructions_in c.append_list.new.pool xs)) c.deref-3.ensures.value },
    )

pub returns-clause-ok : goal.returns-clause-ok
returns-clause-ok c =
    let spans = c.self.inside.spans.items in
    ap (instructions_in c.append_list.new.pool)
    (c.in_ok-spans.ensures
    ∙ ap (λ (xs : List Span). spliced xs c.args.start c.args.end c.deref-2.result.now) c.deref.ensures.value
    ∙ ap (spliced spans c.args.start c.args.end) c.deref-2.ensures.value)
    ∙ extends-told c.self.inside.pool c.append_list.new.pool spans c.in_ok-more.more.items c.args.list.now c.args.start c.args.end
    (c.in_ok-more.ensures.ok spans c.self.invariant.0)
    ∙ ap (λ (is : List Instruction). spliced is c.args.start c.args.end c.args.list.now) c.self.view_is
