use Rattle.std.proofs.Common.{length, sym, ap, ◌∙◌, arith}
use Rattle.std.specs.List.{slice_get}
use Rattle.spv_module.specs.View.{seen}
use Rattle.spv_walk.proofs.Unique.{equal_false, equal_true}
use Rattle.spv_availability.specs.Availability.{code_of}
use Rattle.spv_availability.specs.Places.{function_of}
use Rattle.spv_check.proofs.Lacking.{lacking_found, none_begins, none_behind, none_left, none_more}
use Rattle.spv_check.proofs.bodies.Bodies.first_lacking.Goals as goal

pub instructions-init : goal.instructions-init
instructions-init c = none_begins c.args.self.now c.args.number c.args.first c.requires.begins

pub returns-then-not-is_in : goal.returns-then-not-is_in
returns-then-not-is_in c =
    let insts = c.args.self.now in
    let k = c.instructions.k in
    none_behind insts c.args.number k c.args.first c.instructions.invariant c.requires.begins (omega arith)
    (equal_false (function_of insts k) c.args.number (sym c.is_in.ensures ∙ c.if-not-is_in.true))

pub lacks-requires-clause-inside : goal.lacks-requires-clause-inside
lacks-requires-clause-inside c =
    let there = equal_true (function_of c.args.self.now c.instructions.k) c.args.number (sym c.is_in.ensures ∙ c.if-not-is_in.false) in
    omega arith

pub lacks-requires-clause-here : goal.lacks-requires-clause-here
lacks-requires-clause-here c = ap (λ is. slice_get is c.instructions.k) (sym c.flat-flat.ensures) ∙ c.at-inst.ensures

pub lacks-requires-clause-labels : goal.lacks-requires-clause-labels
lacks-requires-clause-labels c =
    let insts = c.args.self.now in
    let there = equal_true (function_of insts c.instructions.k) c.args.number (sym c.is_in.ensures ∙ c.if-not-is_in.false) in
    c.requires.labels ∙ ap (code_of insts) (sym there)

pub returns-then-lacks : goal.returns-then-lacks
returns-then-lacks c =
    let insts = c.args.self.now in
    let k = c.instructions.k in
    let there = equal_true (function_of insts k) c.args.number (sym c.is_in.ensures ∙ c.if-not-is_in.false) in
    lacking_found insts c.args.number k (seen c.at-inst.result) c.requires.rises c.instructions.invariant
    (ap (λ is. slice_get is k) (sym c.flat-flat.ensures) ∙ c.at-inst.ensures) there (c.lacks.ensures.so c.if-lacks.true)

pub instructions-preserved : goal.instructions-preserved
instructions-preserved c =
    let insts = c.args.self.now in
    let k = c.instructions.k in
    none_more insts c.args.number k (seen c.at-inst.result) c.lacks.result c.instructions.invariant
    (ap (λ is. slice_get is k) (sym c.flat-flat.ensures) ∙ c.at-inst.ensures) c.lacks.ensures c.if-lacks.false

pub returns : goal.returns
returns c =
    let insts = c.args.self.now in
    let same = ap length c.flat-flat.ensures in
    none_left insts c.args.number c.instructions.k c.instructions.invariant (omega arith)
