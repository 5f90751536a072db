use Rattle.std.proofs.Common.{ℕ, Option, Some, None, sym, ap, subst, ◌∙◌}
use Rattle.spv_blocks.specs.Tables.{found}
use Rattle.spv_blocks.specs.declared.table.Table.{Table}
use Rattle.std.specs.Option.{is_some}
use Rattle.std.proofs.lemmas.Result.{on_ok_weaker}
use Rattle.spv_blocks.specs.Blocks.{Code}
use Rattle.spv_blocks.specs.Places.{is_free}
use Rattle.spv_entering.specs.Filling.{top_of, FindsLone, AlongTo}
use Rattle.spv_entering.proofs.Fillings.{same-none, same-filling, looks-taken, looks-some, looks-several, looks-apart, looks-put}
use Rattle.spv_entering.proofs.filling.Filling.look.Goals as goal
use Rattle.spv_entering.proofs.filling.Filling.look.Goals.{then-not-is_free-via-then-not-is_free, then-not-is_free-via-else-not-is_free+then-is_some}

pub returns-then-not-is_free : goal.returns-then-not-is_free
returns-then-not-is_free c =
    let flow = c.args.flow.now in
    let s = c.args.self.now in
    elim c.then-not-is_free.branch [
      | then-not-is_free-via-then-not-is_free w ↦
          looks-taken flow s s c.args.t c.requires (same-none s) c.requires (ap (λ (f : Code). is_free f c.args.t) (sym c.labels.ensures) ∙ sym c.is_free.ensures ∙ w.if-not-is_free.true)
      | then-not-is_free-via-else-not-is_free+then-is_some w ↦
          looks-some flow s s c.args.t c.requires (same-none s) c.requires (ap is_some (sym w.top.ensures) ∙ sym w.is_some.ensures ∙ w.if-is_some.true)
    ]

pub returns-in_default : goal.returns-in_default
returns-in_default c =
    let flow = c.args.flow.now in
    let s = c.args.self.now in
    looks-several flow s c.lone.new.self c.args.t c.requires (same-filling s c.lone.new.self c.lone.ensures.tops c.lone.ensures.waiting) c.in_ok-p.ensures.going
    (subst (λ (o : Option ℕ). FindsLone flow.code (top_of s) c.args.t o) c.in_default.is c.in_ok-p.ensures.lone)

pub returns-in_default-loop_along : goal.returns-in_default-loop_along
returns-in_default-loop_along c =
    let flow = c.args.flow.now in
    let s = c.args.self.now in
    looks-apart flow s c.lone.new.self c.args.t c.requires (same-filling s c.lone.new.self c.lone.ensures.tops c.lone.ensures.waiting) c.in_ok-p.ensures.going c.in-Some.p
    (subst (λ (o : Option ℕ). FindsLone flow.code (top_of s) c.args.t o) c.in-Some.is c.in_ok-p.ensures.lone)
    (subst (λ (m : Table ℕ). AlongTo flow.code (λ b. found m b) c.args.t c.in-Some.p None) c.lone.ensures.tops c.in_default-loop_along.ensures)

pub returns : goal.returns
returns c =
    let flow = c.args.flow.now in
    let s = c.args.self.now in
    on_ok_weaker c.put.result
    (looks-put flow s c.put.new.self c.args.t c.requires c.lone.new.self (same-filling s c.lone.new.self c.lone.ensures.tops c.lone.ensures.waiting) c.in_ok-p.ensures.going c.in-Some.p c.in-Some-loop_along.h
    (subst (λ (o : Option ℕ). FindsLone flow.code (top_of s) c.args.t o) c.in-Some.is c.in_ok-p.ensures.lone)
    (subst (λ (m : Table ℕ). AlongTo flow.code (λ b. found m b) c.args.t c.in-Some.p (Some c.in-Some-loop_along.h)) c.lone.ensures.tops c.in-Some-loop_along.ensures)
    (ap (λ (f : Code). is_free f c.args.t) (sym c.labels.ensures) ∙ sym c.is_free.ensures ∙ c.if-not-is_free.false))
    c.put.ensures
