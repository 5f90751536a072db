use Rattle.std.proofs.Common.{◌∙◌, Err, sym, ap, subst}
use Rattle.std.proofs.lemmas.Result.{err_from_is_err_and}
use Rattle.spv_spelling.specs.Whole.{AreInstructions}
use Rattle.spv_control.specs.Control.{trees_of}
use Rattle.spv_control.proofs.ControlLaws.{parsed_clean}
use Rattle.spv_norm.specs.Bodies.{AreTrees}
use Rattle.spv_admission.proofs.Answering.{all_told, bodies_told, control_told, whole_told}
use Rattle.spv_admission.proofs.Findings.{parsed_are_trees}
use Rattle.spv_admission.proofs.admitting.admit_declared.Goals as goal

pub returns-in_err-read : goal.returns-in_err-read
returns-in_err-read c = λ words is d.
    let fault = err_from_is_err_and c.from_residual-in_err-read.result c.from_residual-in_err-read.ensures.1 in
    control_told words c.args.flat.now is d c.in_err-read.field-0.0 (trees_of c.parse_all.result) c.from_residual-in_err-read.result
    (ap trees_of c.in_err-read.was) (fault.1 ∙ ap Err fault.2) c.parse_all.ensures.trees

pub returns-in_err-check : goal.returns-in_err-check
returns-in_err-check c = λ words is d.
    let fault = err_from_is_err_and c.from_residual-in_err-check.result c.from_residual-in_err-check.ensures.1 in
    bodies_told words c.args.flat.now is d c.in_ok-read.read.bodies c.in_ok-read.ensures.trees c.in_err-check.field-0.0 c.check.result
    c.from_residual-in_err-check.result c.in_err-check.was (fault.1 ∙ ap Err fault.2) c.check.ensures

pub check_whole-requires-clause-clean : goal.check_whole-requires-clause-clean
check_whole-requires-clause-clean c = parsed_clean c.args.flat.now.insts c.in_ok-read.read.bodies c.in_ok-read.ensures.trees

pub returns-in_err-check_whole : goal.returns-in_err-check_whole
returns-in_err-check_whole c = λ words is d.
    let fault = err_from_is_err_and c.from_residual-in_err-check_whole.result c.from_residual-in_err-check_whole.ensures.1 in
    whole_told words c.args.flat.now is d c.in_ok-read.read.bodies c.in_ok-read.ensures.trees c.in_ok-check.ensures c.in_err-check_whole.field-0.0
    c.check_whole.result c.from_residual-in_err-check_whole.result c.in_err-check_whole.was (fault.1 ∙ ap Err fault.2) c.check_whole.ensures

pub norm-requires : goal.norm-requires
norm-requires c =
    subst (AreTrees c.args.flat.now.insts) (sym c.as_slice.ensures) (parsed_are_trees c.args.flat.now.insts c.in_ok-read.read.bodies c.in_ok-read.ensures.trees)

pub returns : goal.returns
returns c = λ words is d.
    all_told words c.args.flat.now is d c.in_ok-read.read.bodies c.in_ok-read.ensures.trees c.in_ok-check.ensures c.in_ok-norm.norm c.in_ok-check_whole.ensures
    (subst AreInstructions c.insts.ensures.same c.each_is_instruction.ensures) c.requires.declared c.in_ok-norm.ensures
