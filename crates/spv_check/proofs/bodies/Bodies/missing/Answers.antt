use Rattle.std.proofs.Common.{List, sym, ap, subst, arith}
use Rattle.std.specs.List.{count_by}
use Rattle.spv_module.specs.Code.{is_function}
use Rattle.spv_module.specs.Instruction.{Instruction}
use Rattle.spv_base.specs.declared.fault.Refusal.{Refusal}
use Rattle.std.specs.Prelude.{Option, ◌+◌}
use Rattle.spv_walk.specs.Rules.{IsFirst}
use Rattle.spv_check.specs.Parts.{Missing, UpTo}
use Rattle.spv_check.proofs.Lacking.{every_function, no_function, one_function_more}
use Rattle.spv_check.proofs.bodies.Bodies.missing.Goals as goal

pub functions-init : goal.functions-init
functions-init c = no_function c.args.self.now

pub functions-preserved : goal.functions-preserved
functions-preserved c =
    let insts = c.args.self.now in
    subst (λ (o : Option Refusal). IsFirst (Missing insts (UpTo (c.functions.f + 1))) o) (sym c.earlier-found.ensures.same)
    (one_function_more insts c.functions.f c.functions.found c.in_ok-missing.missing c.functions.invariant c.in_ok-missing.ensures)

pub returns : goal.returns
returns c =
    let insts = c.args.self.now in
    let same = ap (λ (is : List Instruction). count_by is_function is) c.flat-flat.ensures in
    every_function insts c.functions.f c.functions.found (omega arith) c.functions.invariant
