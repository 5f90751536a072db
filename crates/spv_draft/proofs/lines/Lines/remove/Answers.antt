use Rattle.std.proofs.Common.{List, sym, ap, subst, ◌∙◌}
use Rattle.std.specs.List.{remove}
use Rattle.spv_module.specs.Instruction.{Instruction}
use Rattle.spv_module.specs.List.{instructions_in, AreSpans}
use Rattle.spv_module.specs.View.{seen}
use Rattle.spv_placing.specs.Placing.{size_in}
use Rattle.spv_draft.proofs.Lists.{no_more, size-removed}
use Rattle.spv_draft.proofs.Pools.{remove-are, remove-told, within_spans}
use Rattle.spv_draft.proofs.lines.Lines.remove.Goals as goal

pub overflow_sub-self : goal.overflow_sub-self
overflow_sub-self c =
    no_more c.args.self.now (seen c.at.result) c.args.k c.words_in-words.result c.self.inside.size c.at.ensures c.words_in-words.ensures
    (c.self.invariant.1.is ∙ ap size_in c.self.view_is)

pub invariant_of-self : goal.invariant_of-self
invariant_of-self c =
    let spans = c.self.inside.spans.items in (
      subst (AreSpans c.self.inside.pool) (sym c.remove.ensures.items)
          (remove-are c.self.inside.pool spans c.args.k (within_spans c.self.inside.pool spans c.args.self.now c.args.k c.self.view_is c.requires)
          c.self.invariant.0),
      record {
        is =
            size-removed c.args.self.now (seen c.at.result) c.args.k c.words_in-words.result c.self.inside.size c.at.ensures c.words_in-words.ensures
            (c.self.invariant.1.is ∙ ap size_in c.self.view_is)
            ∙ ap (λ (is : List Instruction). size_in (remove is c.args.k)) (sym c.self.view_is)
            ∙ ap size_in (sym (ap (instructions_in c.self.inside.pool) c.remove.ensures.items ∙ remove-told c.self.inside.pool spans c.args.k));
      },
    )

pub returns : goal.returns
returns c =
    ap (instructions_in c.self.inside.pool) c.remove.ensures.items
    ∙ remove-told c.self.inside.pool c.self.inside.spans.items c.args.k
    ∙ ap (λ (is : List Instruction). remove is c.args.k) c.self.view_is
