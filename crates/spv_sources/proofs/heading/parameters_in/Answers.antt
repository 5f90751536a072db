use Rattle.std.proofs.Common.{◌≡◌, ◌∙◌, ℕ, drop, take, ap, arith}
use Rattle.spv_module.specs.View.{seen}
use Rattle.spv_sources.proofs.Sources.{parameters-more}
use Rattle.spv_sources.proofs.heading.parameters_in.Goals as goal

pub each-preserved : goal.each-preserved
each-preserved c =
    parameters-more c.args.insts.now c.each.k (seen c.at.result) c.each.parameters c.push_view.new.self (omega arith) c.at.ensures c.in_ok-push_view.ensures.ok c.each.invariant

pub returns : goal.returns
returns c = let end : c.each.k ≡ c.args.stop = omega arith in c.each.invariant ∙ ap (λ (k : ℕ). drop 1 (take k c.args.insts.now)) end
