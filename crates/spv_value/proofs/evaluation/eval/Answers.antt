use Rattle.std.proofs.Common.{◌∙◌, ap, sym}
use Rattle.spv_value.specs.Words.{answered, operands}
use Rattle.spv_value.specs.Bits.{bit_field_insert, bit_field_s_extract, bit_field_u_extract}
use Rattle.spv_value.specs.Eval.{Eval, op_rules}
use Rattle.spv_value.proofs.evaluation.eval.Goals as goal

pub returns-in-201 : goal.returns-in-201
unfolding Eval op_rules
returns-in-201 c =
    c.insert.ensures (bit_field_insert 32) (λ x y z v r q. q) ∙ ap (λ opcode. answered (Eval 32 opcode (operands c.args.input.now))) (sym c.in-201.is)

pub returns-in-202 : goal.returns-in-202
unfolding Eval op_rules
returns-in-202 c =
    c.extract.ensures (bit_field_s_extract 32) (λ x y z r q. q) ∙ ap (λ opcode. answered (Eval 32 opcode (operands c.args.input.now))) (sym c.in-202.is)

pub returns-in-203 : goal.returns-in-203
unfolding Eval op_rules
returns-in-203 c =
    c.extract-in-203.ensures (bit_field_u_extract 32) (λ x y z r q. q) ∙ ap (λ opcode. answered (Eval 32 opcode (operands c.args.input.now))) (sym c.in-203.is)
