use Rattle.std.proofs.Common.{Option, ℕ, arith, subst}
use Rattle.std.specs.Option.{IfSome}
use Rattle.std.specs.List.{slice_get}
use Rattle.std.proofs.Common.{◌≡◌, ◌<◌, Some, count_by}
use Rattle.spv_module.specs.Code.{Code, is_function}
use Rattle.spv_blocks.specs.Cutting.{starts}
use Rattle.spv_spelling.specs.Whole.{AreInstructions}
use Rattle.spv_parse.specs.Functions.{IsLaidOut}
use Rattle.spv_parse.proofs.Admitted.{first_text}
use Rattle.function_tests.proofs.parse.parse.Goals as goal

pub parse_function-requires-clause-text : goal.parse_function-requires-clause-text
parse_function-requires-clause-text c =
    let insts = c.in-Some.flat.insts in
    let laid = subst (λ (o : Option Code). IfSome o (λ code. IsLaidOut code.insts)) c.in-Some.is c.in_ok-flat.ensures in
    let found = subst (λ (o : Option ℕ). IfSome o (λ k. slice_get (starts insts) 0 ≡ Some k)) c.in-Some-2.is c.in_ok-first.ensures in
    let some : 0 < count_by is_function insts = omega arith in
    first_text insts c.in-Some-2.first (subst AreInstructions c.insts.ensures.same c.each_is_instruction.ensures) laid some found
