use Rattle.std.proofs.Common.{◌∙◌, ap, map, filter, length}
use Rattle.std.proofs.lemmas.Result.{IfOk-weaker}
use Rattle.graph.specs.Reaching.{IsReached, AreMarks}
use Rattle.spv_blocks.specs.Blocks.{Code, targets}
use Rattle.spv_blocks.specs.Places.{number_of}
use Rattle.spv_entering.specs.Cases.{is_other, AreInside}
use Rattle.spv_entering.proofs.StepEdges.{are-inside}
use Rattle.spv_entering.proofs.cases.Known.inside.Goals as goal

pub returns : goal.returns
returns c =
    let f = c.args.self.now.flow.code in
    let g = c.labels-labels.result.now in
    let rows = c.args.self.now.steps in
    let starts = c.deref-3.result.now in
    let others = c.in_ok-others.others.items in
    IfOk-weaker c.reach_all.result (λ v. AreMarks (length rows) (IsReached rows starts) v.items) (λ v. AreInside f c.args.s c.args.t v.items)
    (λ v h. are-inside f rows c.requires.steps c.args.s c.args.t c.requires.switch others starts v.items
    (c.in_ok-others.ensures ∙ ap (filter (is_other g c.args.t)) (c.deref.ensures.value ∙ c.in_ok-targets.ensures) ∙ ap (λ (k : Code). filter (is_other k c.args.t) (targets f c.args.s)) c.labels-labels.ensures)
    (c.deref-3.ensures.value ∙ c.in_ok-numbers.ensures ∙ ap (map (number_of g)) c.deref-2.ensures.value ∙ ap (λ (k : Code). map (number_of k) others) c.labels-labels.ensures)
    h)
    c.reach_all.ensures
