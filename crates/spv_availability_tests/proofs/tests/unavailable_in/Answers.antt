use Rattle.std.proofs.Common.{Option, ℕ, arith, subst, ◌≡◌, ◌<◌, Some, count_by}
use Rattle.std.specs.Option.{IfSome}
use Rattle.std.specs.List.{slice_get}
use Rattle.spv_module.specs.Code.{Code, is_function}
use Rattle.spv_blocks.specs.Cutting.{starts}
use Rattle.spv_spelling.specs.Whole.{AreInstructions}
use Rattle.spv_parse.specs.Functions.{IsLaidOut}
use Rattle.spv_availability_tests.proofs.Functions.{text_of}
use Rattle.spv_availability_tests.proofs.tests.unavailable_in.Goals as goal

pub scopes_of-requires-clause-text : goal.scopes_of-requires-clause-text
scopes_of-requires-clause-text c =
    let insts = c.in-Some.flat.insts in
    let laid = subst (λ (o : Option Code). IfSome o (λ code. IsLaidOut code.insts)) c.in-Some.is c.in_ok-flat.ensures in
    let found = subst (λ (o : Option ℕ). IfSome o (λ k. slice_get (starts insts) c.args.f ≡ Some k)) c.in-Some-2.is c.in_ok-first.ensures in
    let some : c.args.f < count_by is_function insts = omega arith in
    text_of insts c.args.f c.in-Some-2.first (subst AreInstructions c.insts.ensures.same c.each_is_instruction.ensures) laid some found
