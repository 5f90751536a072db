use Rattle.std.proofs.Common.{◌≡◌, ◌<◌, length, ap, ◌∙◌, arith}
use Rattle.spv_blocks.specs.Cutting.{starts}
use Rattle.spv_functions.proofs.Declared.{start_at, start_within}
use Rattle.spv_check.proofs.bodies.Bodies.start.Goals as goal

pub index-requires : goal.index-requires
index-requires c =
    let starting : c.self.inside.starts.items ≡ starts c.args.self.now = c.self.invariant.starts ∙ ap starts c.self.view_is in
    let within : c.args.f < length c.self.inside.starts.items = start_within c.args.self.now c.self.inside.starts.items c.args.f starting c.requires in
    omega arith

pub returns : goal.returns
returns c =
    let starting : c.self.inside.starts.items ≡ starts c.args.self.now = c.self.invariant.starts ∙ ap starts c.self.view_is in
    start_at c.args.self.now c.self.inside.starts.items c.args.f c.index.result.now starting c.requires c.index.ensures
