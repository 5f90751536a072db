use Rattle.std.proofs.Common.{◌∙◌, ap, List, [], ◌∷◌, ◌++◌}
use Rattle.spv_grammar.specs.Operands.{roles_of}
use Rattle.spv_module.specs.declared.list.Span.{Span}
use Rattle.spv_module.specs.Instruction.{Instruction, parts}
use Rattle.spv_module.proofs.Spans.{Adds, spans-added, spans-apart, instructions-added}
use Rattle.spv_module.proofs.Whole.{whole_by_words}
use Rattle.spv_module.proofs.list.InstList.push_words.Goals as goal

abbrev span : goal.In_ok-push → Span
span c = record { offset = 0; start = c.count-start.result; end = c.count.result }

added : (c : goal.In_ok-push) → Adds c.self.inside.pool.words.items c.append_words.new.self.words.items c.args.words.now
    c.self.inside.pool.roles.items c.append_words.new.self.roles.items (parts (roles_of c.args.words.now)) c.self.inside.spans.items c.push.new.self.items (span c)
added c = record {
  words_are = c.in_ok-append_words.ensures.words;
  roles_are = c.in_ok-append_words.ensures.roles;
  spans_are = c.in_ok-push.ensures.items ∙ ap (λ (spans : List Span). spans ++ span c ∷ []) c.in_ok-reserve.ensures.items;
  same = c.self.inside.pool.parted;
  starts = c.count-start.ensures;
  ends = c.count.ensures;
  whole = whole_by_words c.args.words.now c.requires.some c.requires.counted c.requires.unbroken;
  before = c.self.invariant.whole;
}

pub invariant_of-self-2 : goal.invariant_of-self-2
invariant_of-self-2 c = record { whole = spans-added _ _ _ _ _ _ _ _ _ (added c); apart = spans-apart _ _ _ _ _ _ _ _ _ (added c) c.self.invariant.apart }

pub returns-clause-ok : goal.returns-clause-ok
returns-clause-ok c = instructions-added _ _ _ _ _ _ _ _ _ (added c) ∙ ap (λ (list : List Instruction). list ++ (record { offset = 0; words = c.args.words.now }) ∷ []) c.self.view_is
