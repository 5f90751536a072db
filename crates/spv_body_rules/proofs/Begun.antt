-- Whether a function has begun, by the stage of an instruction.
use Rattle.std.proofs.Common.{◌≡◌, ℕ, Bool, true, false, cond, not, ◌&&◌, ◌||◌, ◌==◌, List, [], ◌∷◌, take, refl, sym, ap, ◌∙◌, arith}
use Rattle.std.proofs.lemmas.Bool.Decides.{nat_tests}
use Rattle.std.specs.List.{fold, list_any}
use Rattle.spv_opcodes.specs.declared.op.TheConstants as op
use Rattle.spv_module.specs.Code.{is_function, is_line}
use Rattle.spv_module.specs.Instruction.{Instruction, opcode}
use Rattle.spv_usage.specs.declared.stages.Stage.{Stage}
use Rattle.spv_usage.specs.declared.stages.Stage.TheVariants.{Outside, Head, Opening, Further}
use Rattle.spv_usage.specs.Stages.{behind_label, behind_other, stage_behind, stage_of, is_outside, IsStage}
use Rattle.spv_body_rules.specs.Broken.{is_of_functions}

label_inside : (stage : Stage) → not (is_outside (behind_label stage)) ≡ not (is_outside stage)
label_inside Outside = refl
label_inside Head = refl
label_inside Opening = refl
label_inside Further = refl

other_inside : (stage : Stage) → not (is_outside (behind_other stage)) ≡ not (is_outside stage)
other_inside Outside = refl
other_inside Head = refl
other_inside Opening = refl
other_inside Further = refl

-- one instruction more: the stage stays, a function begins, or another stage follows
step_by : (keeps function label : Bool) (stage : Stage) → (keeps && function) ≡ false →
    not (is_outside (cond keeps stage (cond function Head (cond label (behind_label stage) (behind_other stage))))) ≡ (not (is_outside stage) || function)
step_by true true label stage h = cc
step_by true false label Outside h = refl
step_by true false label Head h = refl
step_by true false label Opening h = refl
step_by true false label Further h = refl
step_by false true label Outside h = refl
step_by false true label Head h = refl
step_by false true label Opening h = refl
step_by false true label Further h = refl
step_by false false true Outside h = refl
step_by false false true Head h = refl
step_by false false true Opening h = refl
step_by false false true Further h = refl
step_by false false false Outside h = refl
step_by false false false Head h = refl
step_by false false false Opening h = refl
step_by false false false Further h = refl

keeps_no_function : (o : ℕ) → ((o == op.LINE || o == op.NO_LINE || o == op.VARIABLE) && o == op.FUNCTION) ≡ false
keeps_no_function o = grind (arith, nat_tests)

step : (stage : Stage) (i : Instruction) → not (is_outside (stage_behind stage i)) ≡ (not (is_outside stage) || is_function i)
step stage i = step_by (is_line i || opcode i == op.VARIABLE) (is_function i) (opcode i == op.LABEL) stage (keeps_no_function (opcode i))

or_assoc : (a b c : Bool) → ((a || b) || c) ≡ (a || (b || c))
or_assoc true b c = refl
or_assoc false b c = refl

-- induction on the instructions
inside_behind : (is : List Instruction) (stage : Stage) → not (is_outside (fold stage_behind stage is)) ≡ (not (is_outside stage) || list_any is_function is)
inside_behind [] Outside = refl
inside_behind [] Head = refl
inside_behind [] Opening = refl
inside_behind [] Further = refl
inside_behind (i ∷ is) stage =
    inside_behind is (stage_behind stage i)
    ∙ ap (λ (b : Bool). b || list_any is_function is) (step stage i)
    ∙ or_assoc (not (is_outside stage)) (is_function i) (list_any is_function is)

pub begun-of-stage : (insts : List Instruction) (k : ℕ) (stage : Stage) → IsStage insts k stage → not (is_outside stage) ≡ list_any is_function (take k insts)
begun-of-stage insts k stage h = ap (λ (s : Stage). not (is_outside s)) h.is ∙ inside_behind (take k insts) Outside

-- the instruction is one of functions, by its stage
pub of-functions : (insts : List Instruction) (k : ℕ) (i : Instruction) (stage : Stage) (begun line : Bool) → IsStage insts k stage →
    begun ≡ (not (is_outside stage) || is_function i) → line ≡ is_line i → (begun && not line) ≡ is_of_functions insts k i
of-functions insts k i stage begun line h e f =
    ap (λ (b : Bool). b && not line) (e ∙ ap (λ (b : Bool). b || is_function i) (begun-of-stage insts k stage h))
    ∙ ap (λ (b : Bool). (list_any is_function (take k insts) || is_function i) && not b) f
