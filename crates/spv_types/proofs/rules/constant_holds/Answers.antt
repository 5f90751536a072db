use Rattle.std.proofs.Common.{Bool, ◌||◌, sym, ap, ◌∙◌}
use Rattle.spv_module.specs.View.{seen}
use Rattle.spv_declarations.specs.Constants.{constant_fits}
use Rattle.spv_types.proofs.rules.constant_holds.Goals as goal

pub returns-else-begun : goal.returns-else-begun
returns-else-begun c = λ d begun stand known.
    let outside = begun ∙ c.if-begun.false in
    c.constant_fits.ensures d stand (known outside) ∙ sym (ap (λ (b : Bool). b || constant_fits c.args.kinds.now d (seen c.args.inst.now)) outside)
