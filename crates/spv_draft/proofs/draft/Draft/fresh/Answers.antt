use Rattle.std.proofs.Common.{sym, ap, ◌∙◌}
use Rattle.spv_draft.specs.Drafted.{taken_ids}
use Rattle.spv_draft.specs.Named.{named_ids}
use Rattle.spv_draft.proofs.FreshSteps.{known-with}
use Rattle.spv_draft.proofs.draft.Draft.fresh.Goals as goal

pub invariant_of-self-2 : goal.invariant_of-self-2
invariant_of-self-2 c = (
  c.self.invariant.0,
  known-with c.in_ok-index.index c.with.result c.next_free.result (taken_ids c.args.self.now) (named_ids c.self.inside.lines)
      c.self.inside.given.items c.push_id.new.ids.items
      (sym (ap taken_ids (c.self.view_is ∙ c.in_ok-index.ensures.same))) c.in_ok-push_id.ensures.ok c.in_ok-index.ensures.ok c.next_free.ensures
      c.with.ensures.next c.with.ensures.tally,
)
