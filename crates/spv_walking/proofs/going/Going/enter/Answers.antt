use Rattle.std.proofs.Common.{◌≡◌, ◌∷◌, [], refl, sym, ap, ◌∙◌}
use Rattle.std.proofs.lemmas.Bool.{false≢true}
use Rattle.std.proofs.lemmas.Result.{on_ok_weaker}
use Rattle.spv_blocks.specs.Tables.{found}
use Rattle.std.specs.Option.{option_map}
use Rattle.spv_blocks.specs.Seen.{seen_block, seen_construct}
use Rattle.spv_walking.specs.Onward.{opened, arm, may_enter, Goes}
use Rattle.spv_walking.specs.Places.{context_at}
use Rattle.spv_walking.proofs.Coming.{comes_to_none, widened_visit}
use Rattle.spv_walking.proofs.Targets.{named_one, names_itself}
use Rattle.spv_walking.proofs.going.Going.enter.Goals as goal

pub returns-then-may_enter : goal.returns-then-may_enter
returns-then-may_enter c =
    let f = c.args.labels.now in
    let x = seen_block c.args.block.now in
    let b = c.args.header in
    let t = c.args.target in
    let s = context_at c.args.self.now.walked.rows c.args.shared in
    let enterer = found c.args.enterers.now in
    let w = c.in_ok-inner.ensures in
    on_ok_weaker c.visit.result
    (λ v. widened_visit f c.args.self.now (record { walked = c.arm.new.self; waiting = c.args.self.now.waiting }) c.visit.new.self c.in_ok-inner.inner t
    (arm (option_map seen_construct c.construct.result) b t s) (Goes f enterer b x s (t ∷ [])) w refl v
    (λ p d n. named_one t p n.named)
    (record {
      named = names_itself t;
      context = ap (λ k. arm k b t s) c.construct.ensures;
      enters = ap (λ d. may_enter f enterer b x.end d t) (sym w.context) ∙ sym c.may_enter.ensures ∙ c.if-may_enter.true;
    }))
    c.visit.ensures

pub returns-else-may_enter : goal.returns-else-may_enter
returns-else-may_enter c =
    let f = c.args.labels.now in
    let x = seen_block c.args.block.now in
    let b = c.args.header in
    let t = c.args.target in
    let s = context_at c.args.self.now.walked.rows c.args.shared in
    let enterer = found c.args.enterers.now in
    let w = c.in_ok-inner.ensures in
    comes_to_none f c.args.self.now (record { walked = c.arm.new.self; waiting = c.args.self.now.waiting }) w.added (Goes f enterer b x s (t ∷ [])) w.rows w.places refl
    (λ p d n.
    (let at = named_one t p n.named in
    let there : d ≡ context_at c.arm.new.self.rows c.in_ok-inner.inner =
    n.context ∙ ap (λ q. arm (opened x) b q s) at ∙ sym (ap (λ k. arm k b t s) c.construct.ensures) ∙ sym w.context in
    false≢true (sym (sym c.may_enter.ensures ∙ c.if-may_enter.false) ∙ ap (λ q. may_enter f enterer b x.end q t) (sym there) ∙ ap (may_enter f enterer b x.end d) (sym at) ∙ n.enters)))
