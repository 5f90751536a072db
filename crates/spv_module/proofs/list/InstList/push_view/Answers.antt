use Rattle.std.proofs.Common.{◌∙◌, ap, List, [], ◌∷◌, ◌++◌}
use Rattle.spv_module.specs.declared.list.Span.{Span}
use Rattle.spv_module.specs.Instruction.{Instruction}
use Rattle.spv_module.specs.View.{seen}
use Rattle.spv_module.proofs.Spans.{Adds, spans-added, spans-apart, instructions-added}
use Rattle.spv_module.proofs.list.InstList.push_view.Goals as goal

abbrev span : goal.In_ok-push → Span
span c = record { offset = c.args.inst.offset; start = c.count-start.result; end = c.count.result }

added : (c : goal.In_ok-push) → Adds c.self.inside.pool.words.items c.append.new.self.words.items c.args.inst.words.now
    c.self.inside.pool.roles.items c.append.new.self.roles.items c.args.inst.roles.now c.self.inside.spans.items c.push.new.self.items (span c)
added c = record {
  words_are = c.in_ok-append.ensures.words;
  roles_are = c.in_ok-append.ensures.roles;
  spans_are = c.in_ok-push.ensures.items ∙ ap (λ (spans : List Span). spans ++ span c ∷ []) c.in_ok-reserve.ensures.items;
  same = c.self.inside.pool.parted;
  starts = c.count-start.ensures;
  ends = c.count.ensures;
  whole = c.args.inst.whole;
  before = c.self.invariant.whole;
}

pub invariant_of-self-2 : goal.invariant_of-self-2
invariant_of-self-2 c = record { whole = spans-added _ _ _ _ _ _ _ _ _ (added c); apart = spans-apart _ _ _ _ _ _ _ _ _ (added c) c.self.invariant.apart }

pub returns-clause-ok : goal.returns-clause-ok
returns-clause-ok c = instructions-added _ _ _ _ _ _ _ _ _ (added c) ∙ ap (λ (list : List Instruction). list ++ seen c.args.inst ∷ []) c.self.view_is
