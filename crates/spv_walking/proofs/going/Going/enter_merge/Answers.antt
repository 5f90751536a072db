use Rattle.std.proofs.Common.{◌≡◌, Some, refl, sym, ap, ◌∙◌}
use Rattle.std.proofs.lemmas.Bool.{false≢true}
use Rattle.std.proofs.lemmas.Result.{on_ok_weaker}
use Rattle.spv_blocks.specs.Blocks.{is_role, merge_of}
use Rattle.spv_blocks.specs.Seen.{seen_block}
use Rattle.spv_walking.specs.Onward.{opened, GoesMerge}
use Rattle.spv_walking.specs.Places.{context_at}
use Rattle.spv_walking.proofs.Coming.{comes_nowhere, visited, same_some, none_some}
use Rattle.spv_walking.proofs.going.Going.enter_merge.Goals as goal

pub returns-in-Some : goal.returns-in-Some
returns-in-Some c =
    let f = c.args.labels.now in
    let x = seen_block c.args.block.now in
    let merge : merge_of (opened x) ≡ Some c.in-Some.merge = sym (ap merge_of c.construct.ensures) ∙ sym c.merge_of.ensures ∙ c.in-Some.is in
    on_ok_weaker c.visit.result
    (λ v. visited f c.args.self.now c.visit.new.self c.in-Some.merge c.args.place v
    (GoesMerge f c.args.header x (context_at c.args.self.now.walked.rows c.args.place))
    (λ p d n. same_some (merge_of (opened x)) c.in-Some.merge p merge n.merge)
    (record { merge = merge; role = sym c.is_role.ensures ∙ c.if-is_role.true; context = refl }))
    c.visit.ensures

pub returns-in_default : goal.returns-in_default
returns-in_default c =
    let f = c.args.labels.now in
    let x = seen_block c.args.block.now in
    let merge : merge_of (opened x) ≡ Some c.in-Some.merge = sym (ap merge_of c.construct.ensures) ∙ sym c.merge_of.ensures ∙ c.in-Some.is in
    comes_nowhere f c.args.self.now (GoesMerge f c.args.header x (context_at c.args.self.now.walked.rows c.args.place))
    (λ p d n.
    false≢true (sym (sym c.is_role.ensures ∙ c.if-is_role.false)
    ∙ ap (is_role f c.args.header) (sym (same_some (merge_of (opened x)) c.in-Some.merge p merge n.merge)) ∙ n.role))

pub returns-in_default-2 : goal.returns-in_default-2
returns-in_default-2 c =
    let f = c.args.labels.now in
    let x = seen_block c.args.block.now in
    comes_nowhere f c.args.self.now (GoesMerge f c.args.header x (context_at c.args.self.now.walked.rows c.args.place))
    (λ p d n. none_some (merge_of (opened x)) p (sym (ap merge_of c.construct.ensures) ∙ sym c.merge_of.ensures ∙ c.in_default.is) n.merge)
