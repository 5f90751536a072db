use Rattle.std.proofs.Common.{◌≡◌, List, length, Some, arith, ap, subst, ◌∙◌}
use Rattle.std.specs.BTreeMap.{is_at}
use Rattle.std.specs.List.{slice_get}
use Rattle.std.specs.Map.{lookup}
use Rattle.std.specs.Ordering.{nat_cmp}
use Rattle.spv_module.specs.Instruction.{Instruction}
use Rattle.spv_module.specs.View.{seen}
use Rattle.spv_composites.proofs.Typing.{typed-none, typed-more, typed-all}
use Rattle.spv_composites.proofs.numbering.numbers_of.Goals as goal

pub instructions-init : goal.instructions-init
instructions-init c = typed-none _ _ c.args.tables.now c.new-nodes.ensures (λ t. ap (lookup (is_at (nat_cmp t))) c.new-numbers.ensures.empty)

pub instructions-preserved : goal.instructions-preserved
instructions-preserved c =
    let same : c.insts-insts.result.now ≡ c.args.tables.now = c.insts-insts.ensures ∙ c.definitions.ensures ∙ c.kinds.ensures in
    let len : length c.insts-insts.result.now ≡ length c.args.tables.now = ap length same in
    typed-more _ _ _ _ c.args.tables.now c.instructions.k (seen c.at.result) c.instructions.invariant (omega arith)
    (subst (λ (insts : List Instruction). slice_get insts c.instructions.k ≡ Some (seen c.at.result)) same c.at.ensures) c.in_ok-add_type.ensures

pub returns : goal.returns
returns c =
    let same : c.insts-insts.result.now ≡ c.args.tables.now = c.insts-insts.ensures ∙ c.definitions.ensures ∙ c.kinds.ensures in
    let len : length c.insts-insts.result.now ≡ length c.args.tables.now = ap length same in
    typed-all _ _ c.args.tables.now c.instructions.k c.instructions.invariant (omega arith)
