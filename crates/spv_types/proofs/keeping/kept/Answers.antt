use Rattle.std.proofs.Common.{ℕ, ◌==◌, not, sym, ap, subst, ◌∙◌}
use Rattle.std.specs.List.{slice_index}
use Rattle.std.proofs.lemmas.Bool.{eqb-true, and_parts, not-true}
use Rattle.spv_opcodes.specs.declared.op.TheConstants as op
use Rattle.spv_opcodes.specs.declared.storage_class.TheConstants as storage_class
use Rattle.spv_module.specs.View.{seen}
use Rattle.spv_module.specs.Instruction.{opcode}
use Rattle.spv_typing.specs.Kinds.{is_one_of}
use Rattle.spv_declarations.specs.Declarations.{declared_before}
use Rattle.spv_declarations.specs.Sound.{table_before}
use Rattle.spv_types.specs.declared.meaning.Kept.TheVariants as kept
use Rattle.spv_types.specs.Entries.{KeepsOne}
use Rattle.spv_types.specs.Steps.{constant_opcodes, type_opcodes}
use Rattle.spv_types.proofs.Entries.{type_one, constant_one, variable_one, none_one, sound_before}
use Rattle.spv_types.proofs.keeping.kept.Goals as goal

pub returns-then-is_type : goal.returns-then-is_type
returns-then-is_type c = λ k next are.
    subst (λ (r : ℕ). KeepsOne c.args.kinds.now (declared_before c.args.kinds.now k) (seen c.args.inst.now) r c.declared_type-kept.result) (sym c.word.ensures)
    (type_one c.args.kinds.now k (seen c.args.inst.now) c.declared_type-kept.result next
    (sym (ap (is_one_of type_opcodes) c.opcode-opcode.ensures) ∙ sym c.is_type.ensures ∙ c.if-is_type.true)
    (c.declared_type-kept.ensures (table_before c.args.kinds.now k) (declared_before c.args.kinds.now k).specialised are.stand))

pub returns-in_ok-constant : goal.returns-in_ok-constant
returns-in_ok-constant c = λ k next are.
    subst (λ (r : ℕ). KeepsOne c.args.kinds.now (declared_before c.args.kinds.now k) (seen c.args.inst.now) r (kept.Constant c.in_ok-constant.constant)) (sym c.word-then-is_constant.ensures)
    (constant_one c.args.kinds.now k (seen c.args.inst.now) c.in_ok-constant.constant
    (c.in_ok-constant.ensures k next
    (sym (ap (is_one_of constant_opcodes) c.opcode-opcode.ensures) ∙ sym c.is_constant.ensures ∙ c.if-is_constant.true)
    are.composed are.only (sound_before c.args.kinds.now k (seen c.args.inst.now) next) are.stand))

pub returns-then-is_global : goal.returns-then-is_global
returns-then-is_global c = λ k next are.
    let both =
    and_parts (opcode (seen c.args.inst.now) == op.VARIABLE) (not (slice_index (seen c.args.inst.now).words 3 == storage_class.FUNCTION))
    (sym c.is_global.ensures ∙ c.if-is_global.true) in
    subst (λ (r : ℕ). KeepsOne c.args.kinds.now (declared_before c.args.kinds.now k) (seen c.args.inst.now) r kept.Variable) (sym c.word-then-is_global.ensures)
    (variable_one c.args.kinds.now k (seen c.args.inst.now) (eqb-true (opcode (seen c.args.inst.now)) op.VARIABLE both.0)
    (not-true (slice_index (seen c.args.inst.now).words 3 == storage_class.FUNCTION) both.1))

pub returns-else-is_global : goal.returns-else-is_global
returns-else-is_global c = λ k next are.
    none_one c.args.kinds.now k (seen c.args.inst.now) next
    (sym (ap (is_one_of type_opcodes) c.opcode-opcode.ensures) ∙ sym c.is_type.ensures ∙ c.if-is_type.false)
    (sym (ap (is_one_of constant_opcodes) c.opcode-opcode.ensures) ∙ sym c.is_constant.ensures ∙ c.if-is_constant.false)
    (sym c.is_global.ensures ∙ c.if-is_global.false)
