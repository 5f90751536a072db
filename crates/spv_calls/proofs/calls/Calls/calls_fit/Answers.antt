use Rattle.std.proofs.Common.{true, ◌≡◌, ◌∙◌, sym}
use Rattle.std.proofs.lemmas.Result.{IfOk-weaker}
use Rattle.spv_module.specs.Code.{is_function}
use Rattle.spv_module.specs.View.{seen}
use Rattle.spv_calls.specs.Broken.{Decides}
use Rattle.spv_calls.specs.Calls.{CallsItself, CallsFit}
use Rattle.spv_calls.proofs.Interfaces.{decides-as}
use Rattle.spv_calls.proofs.calls.Calls.calls_fit.Goals as goal

pub returns-then-is_function : goal.returns-then-is_function
returns-then-is_function c =
    let insts = c.args.self.now in
    let k = c.args.k in
    let i = seen c.args.inst.now in
    let function : is_function i ≡ true = sym c.is_function.ensures ∙ c.if-is_function.true in
    IfOk-weaker c.is_straight.result (λ b. Decides b (¬ CallsItself insts k)) (λ b. Decides b (CallsFit insts k i))
    (λ b d. decides-as b (¬ CallsItself insts k) (CallsFit insts k i) (λ straight _. straight) (λ fits. fits function) d)
    c.is_straight.ensures
