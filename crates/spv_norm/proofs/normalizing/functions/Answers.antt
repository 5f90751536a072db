use Rattle.std.proofs.Common.{length, refl}
use Rattle.std.proofs.lemmas.Option.{slice_get_read}
use Rattle.spv_norm.proofs.FunctionLines.{body_sound, function_next, functions_all}
use Rattle.spv_norm.proofs.normalizing.functions.Goals as goal

pub flatten_into-requires : goal.flatten_into-requires
flatten_into-requires c =
    body_sound c.args.flat.now.insts c.args.bodies.now c.bodies.body-index c.body-item.result c.requires
    (slice_get_read c.args.bodies.now (length c.args.bodies.now) c.bodies.body-index c.body-item.result refl c.bodies-test.true c.body-item.is)

pub bodies-preserved : goal.bodies-preserved
bodies-preserved c =
    function_next c.args.flat.now.insts c.bodies.insts c.flatten_into.new.insts c.args.bodies.now c.bodies.body-index c.body-item.result c.requires
    (slice_get_read c.args.bodies.now (length c.args.bodies.now) c.bodies.body-index c.body-item.result refl c.bodies-test.true c.body-item.is) c.bodies.invariant
    c.in_ok-flatten_into.ensures

pub returns : goal.returns
returns c =
    functions_all c.args.flat.now.insts c.bodies.insts c.args.bodies.now c.bodies.body-index c.requires c.bodies-test.false c.bodies.auto.body-index-end c.bodies.invariant
