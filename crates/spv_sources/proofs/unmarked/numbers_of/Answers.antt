use Rattle.std.proofs.Common.{Vec, Global, ℕ, map, ap, sym, ◌∙◌}
use Rattle.std.specs.List.{slice_get}
use Rattle.spv_module.specs.View.{seen}
use Rattle.spv_sources.proofs.Runs.{kept-more, kept-other}
use Rattle.spv_sources.proofs.unmarked.numbers_of.Goals as goal
use Rattle.spv_sources.proofs.unmarked.numbers_of.Goals.{then-not-is_line+in_ok-push, else-not-is_line}

pub each-preserved : goal.each-preserved
each-preserved c = elim c.if-not-is_line.branch [
  | then-not-is_line+in_ok-push w ↦
      kept-more c.args.insts.now c.each.k (seen c.at.result) c.each.numbers.items c.if-not-is_line.numbers.items c.at.ensures (sym c.is_line.ensures ∙ w.if-not-is_line.true)
      (ap (λ (numbers : Vec ℕ Global). numbers.items) w.numbers-is ∙ w.in_ok-push.ensures.items) c.each.invariant
  | else-not-is_line w ↦
      kept-other c.args.insts.now c.each.k (seen c.at.result) c.if-not-is_line.numbers.items c.at.ensures (sym c.is_line.ensures ∙ w.if-not-is_line.false)
      (ap (λ (numbers : Vec ℕ Global). map (slice_get c.args.insts.now) numbers.items) w.numbers-is ∙ c.each.invariant)
]
