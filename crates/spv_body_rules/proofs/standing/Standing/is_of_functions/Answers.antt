use Rattle.std.proofs.Common.{true, false, refl, sym, ◌∙◌}
use Rattle.spv_module.specs.Code.{is_line}
use Rattle.spv_module.specs.View.{seen}
use Rattle.spv_body_rules.proofs.Begun.{of-functions}
use Rattle.spv_body_rules.proofs.standing.Standing.is_of_functions.Goals as goal

pub returns-then-has_begun : goal.returns-then-has_begun
returns-then-has_begun c = λ insts k is.
    of-functions insts k (seen c.args.inst.now) c.args.self.now.stage true c.is_line.result is.stage (sym c.if-has_begun.true ∙ c.has_begun.ensures) c.is_line.ensures

pub returns-else-has_begun : goal.returns-else-has_begun
returns-else-has_begun c = λ insts k is.
    let i = seen c.args.inst.now in
    c.if-has_begun.false ∙ of-functions insts k i c.args.self.now.stage false (is_line i) is.stage (sym c.if-has_begun.false ∙ c.has_begun.ensures) refl
