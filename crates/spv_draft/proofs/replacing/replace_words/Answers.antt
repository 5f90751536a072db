use Rattle.std.proofs.Common.{◌<◌, ◌+◌, List, length, sym, ap, subst, ◌∙◌, arith}
use Rattle.spv_module.specs.Instruction.{Instruction}
use Rattle.spv_module.specs.View.{seen}
use Rattle.spv_draft.proofs.Replaced.{as_long, long_here, one_of, IsReplaced, replaced-hit, replaced-other, replaced_none}
use Rattle.spv_draft.proofs.replacing.replace_words.Goals as goal
use Rattle.spv_draft.proofs.replacing.replace_words.Goals.{then-uses, else-uses}

pub words-init : goal.words-init
words-init c = λ i e. replaced_none c.args.from c.args.to c.args.lines.now c.args.k i (seen c.at.result) c.at.result.roles.now e c.at.ensures c.at.result.whole

pub at-requires-in-words : goal.at-requires-in-words
at-requires-in-words c =
    as_long c.args.from c.args.to c.args.lines.now c.words.lines c.args.k c.words.at (seen c.at.result) (c.words.invariant (seen c.at.result) c.at.ensures)
    c.requires.within

pub uses-requires : goal.uses-requires
uses-requires c =
    let same =
    long_here c.args.from c.args.to c.args.lines.now c.words.lines c.args.k c.words.at (seen c.at.result) (seen c.at-in-words.result)
    (c.words.invariant (seen c.at.result) c.at.ensures) c.requires.within c.words-test.true c.at-in-words.ensures in
    omega (arith, same, c.words-test.true)

pub put_id-requires-clause-within : goal.put_id-requires-clause-within
put_id-requires-clause-within c =
    as_long c.args.from c.args.to c.args.lines.now c.words.lines c.args.k c.words.at (seen c.at.result) (c.words.invariant (seen c.at.result) c.at.ensures)
    c.requires.within

pub words-preserved : goal.words-preserved
words-preserved c =
    elim c.if-uses.branch [
      | then-uses w ↦ λ i e.
          let same = one_of (seen c.at.result) i (sym c.at.ensures ∙ e) in
          let inside : c.words.at < length i.words = omega (arith, c.words-test.true, ap (λ (x : Instruction). length x.words) same) in
          replaced-hit c.args.from c.args.to c.args.lines.now c.words.lines c.args.k c.words.at i (seen c.at-in-words.result) (c.words.invariant i e)
          c.requires.within inside c.at-in-words.ensures c.if-uses.lines (sym c.uses.ensures ∙ w.if-uses.true)
          (w.lines-is ∙ w.put_id.ensures (seen c.at-in-words.result) c.at-in-words.ensures)
      | else-uses w ↦ λ i e.
          let same = one_of (seen c.at.result) i (sym c.at.ensures ∙ e) in
          let inside : c.words.at < length i.words = omega (arith, c.words-test.true, ap (λ (x : Instruction). length x.words) same) in
          subst (λ (lines : List Instruction). IsReplaced c.args.from c.args.to c.args.lines.now lines c.args.k (c.words.at + 1) i) (sym w.lines-is)
          (replaced-other c.args.from c.args.to c.args.lines.now c.words.lines c.args.k c.words.at i (seen c.at-in-words.result) (c.words.invariant i e)
          c.requires.within inside c.at-in-words.ensures (sym c.uses.ensures ∙ w.if-uses.false))
    ]
