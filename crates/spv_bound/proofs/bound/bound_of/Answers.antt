use Rattle.std.proofs.Common.{ℕ, ◌+◌, List, ◌∙◌, ap, sym, max, take, arith}
use Rattle.std.proofs.lemmas.List.{take_all}
use Rattle.spv_module.specs.Instruction.{Instruction}
use Rattle.spv_module.specs.View.{seen}
use Rattle.spv_bound.specs.Bound.{bound_of_ids, greatest, named_ids}
use Rattle.spv_bound.proofs.Greatest.{greatest-step}
use Rattle.spv_bound.proofs.bound.bound_of.Goals as goal

pub instructions-preserved : goal.instructions-preserved
instructions-preserved c = record {
  most = c.max-most.ensures
      ∙ ap (λ (n : ℕ). max n c.greatest_id.result) c.instructions.invariant.most
      ∙ ap (λ (n : ℕ). max (greatest (named_ids (take c.instructions.k c.args.insts.now))) n) c.greatest_id.ensures
      ∙ sym (greatest-step c.args.insts.now c.instructions.k (seen c.at.result) (omega arith) c.at.ensures);
  small = omega arith;
}

pub overflow_add-result : goal.overflow_add-result
overflow_add-result c = omega arith

pub returns : goal.returns
unfolding bound_of_ids
returns c =
    ap (λ (n : ℕ). n + 1)
    (c.from.ensures ∙ c.instructions.invariant.most ∙ ap (λ (is : List Instruction). greatest (named_ids is)) (take_all c.instructions.k c.args.insts.now (omega arith)))
