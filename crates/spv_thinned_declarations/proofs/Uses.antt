-- Of an instruction that is kept: what it uses stays, and so does the function that it begins.
use Rattle.std.proofs.Common.{◌≡◌, ℕ, Bool, true, ap, ◌∙◌, refl}
use Rattle.spv_opcodes.specs.declared.op.TheConstants as op
use Rattle.spv_grammar.specs.Table.{row_of}
use Rattle.spv_module.specs.Instruction.{Instruction, IsInstruction, opcode, roles}
use Rattle.spv_declarations.proofs.Parts.{first_typed, row_test}
use Rattle.spv_alike_uses.specs.Laws.{UsesWhatStays}
use Rattle.spv_thinned.specs.Thinned.{IsKept}
use Rattle.spv_thinned.proofs.ReadIds.{result_stays}

pub is_typed : (o k : ℕ) → o ≡ k → row_test first_typed (row_of k) ≡ true → row_test first_typed (row_of o) ≡ true
is_typed o k e h = ap (λ n. row_test first_typed (row_of n)) e ∙ h

function_typed : row_test first_typed (row_of op.FUNCTION) ≡ true
unfolding row_of
function_typed = refl

pub uses_what_stays : (gone : ℕ → Bool) (i : Instruction) → IsInstruction i.words (roles i) → IsKept gone i → UsesWhatStays gone i
uses_what_stays gone i whole kept = record {
  whole = whole;
  used = kept.used;
  function = λ e. result_stays gone i whole kept (is_typed (opcode i) op.FUNCTION e function_typed);
}
