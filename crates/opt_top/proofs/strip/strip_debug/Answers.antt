use Rattle.std.proofs.Common.{◌≡◌, length, ap, ◌∙◌, arith}
use Rattle.spv_bound.specs.Bound.{bound_of_ids}
use Rattle.spv_stripped.specs.Strip.{stripped_insts}
use Rattle.opt_top.proofs.Bounds.{bound-stripped, length-stripped}
use Rattle.opt_top.proofs.strip.strip_debug.Goals as goal

pub overflow_cast-header : goal.overflow_cast-header
overflow_cast-header c =
    let kept : c.in_ok-insts.insts ≡ stripped_insts c.args.flat.now.insts = c.in_ok-insts.ensures ∙ ap stripped_insts c.insts.ensures.same in
    let bound : c.bound_of.result ≡ bound_of_ids (stripped_insts c.args.flat.now.insts) = c.bound_of.ensures ∙ ap bound_of_ids kept in
    omega (arith, bound, bound-stripped c.args.flat.now.insts c.requires)

pub new-requires : goal.new-requires
new-requires c =
    let kept : length c.in_ok-insts.insts ≡ length (stripped_insts c.insts.result.now) = ap length c.in_ok-insts.ensures in
    omega (arith, kept, length-stripped c.insts.result.now, c.insts.ensures.few)
