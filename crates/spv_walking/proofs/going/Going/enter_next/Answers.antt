use Rattle.std.proofs.Common.{◌≡◌, ◌∷◌, Some, None, refl, sym, ap, ◌∙◌}
use Rattle.std.proofs.lemmas.Bool.{false≢true}
use Rattle.std.proofs.lemmas.Result.{on_ok_weaker}
use Rattle.std.specs.Option.{option_map}
use Rattle.spv_blocks.specs.Blocks.{ALoop, is_role, next_of}
use Rattle.spv_blocks.specs.Seen.{seen_block, seen_construct}
use Rattle.spv_walk.specs.Contexts.{InNext, next_context}
use Rattle.spv_walking.specs.Onward.{opened, GoesNext}
use Rattle.spv_walking.specs.Places.{context_at}
use Rattle.spv_walking.proofs.Coming.{comes_nowhere, widened_visit, same_some, none_some}
use Rattle.spv_walking.proofs.going.Going.enter_next.Goals as goal

pub returns-in_ok-inner-in-Some-Loop : goal.returns-in_ok-inner-in-Some-Loop
returns-in_ok-inner-in-Some-Loop c =
    let f = c.args.labels.now in
    let x = seen_block c.args.block.now in
    let b = c.args.header in
    let at = context_at c.args.self.now.walked.rows c.args.place in
    let merge = c.in-Some-Loop.merge in
    let next = c.in-Some-Loop.next in
    let is : opened x ≡ Some (ALoop merge next) =
    sym c.construct.ensures ∙ ap (option_map seen_construct) c.in-Some-Loop.is ∙ ap (λ k. Some (seen_construct k)) c.in-Some-Loop.field-0-is in
    on_ok_weaker c.visit.result
    (λ v. widened_visit f c.args.self.now (record { walked = c.push.new.self; waiting = c.args.self.now.waiting }) c.visit.new.self c.in_ok-inner-in-Some-Loop.inner next
    (InNext b merge ∷ at) (GoesNext f b x at) c.in_ok-inner-in-Some-Loop.ensures refl v
    (λ p d n. same_some (next_of (opened x)) next p (ap next_of is) n.next)
    (record { next = ap next_of is; role = sym c.is_role.ensures ∙ c.if-is_role.true; context = sym (ap (λ k. next_context k b at) is) }))
    c.visit.ensures

pub returns-else-is_role : goal.returns-else-is_role
returns-else-is_role c =
    let f = c.args.labels.now in
    let x = seen_block c.args.block.now in
    let b = c.args.header in
    let next = c.in-Some-Loop.next in
    let is : opened x ≡ Some (ALoop c.in-Some-Loop.merge next) =
    sym c.construct.ensures ∙ ap (option_map seen_construct) c.in-Some-Loop.is ∙ ap (λ k. Some (seen_construct k)) c.in-Some-Loop.field-0-is in
    comes_nowhere f c.args.self.now (GoesNext f b x (context_at c.args.self.now.walked.rows c.args.place))
    (λ p d n.
    false≢true (sym (sym c.is_role.ensures ∙ c.if-is_role.false) ∙ ap (is_role f b) (sym (same_some (next_of (opened x)) next p (ap next_of is) n.next)) ∙ n.role))

pub returns-in-Some-Selection : goal.returns-in-Some-Selection
returns-in-Some-Selection c =
    let x = seen_block c.args.block.now in
    let is : next_of (opened x) ≡ None =
    ap next_of (sym c.construct.ensures ∙ ap (option_map seen_construct) c.in-Some-Selection.is ∙ ap (λ k. Some (seen_construct k)) c.in-Some-Selection.field-0-is) in
    comes_nowhere c.args.labels.now c.args.self.now (GoesNext c.args.labels.now c.args.header x (context_at c.args.self.now.walked.rows c.args.place))
    (λ p d n. none_some (next_of (opened x)) p is n.next)

pub returns-in-Some-Switch : goal.returns-in-Some-Switch
returns-in-Some-Switch c =
    let x = seen_block c.args.block.now in
    let is : next_of (opened x) ≡ None =
    ap next_of (sym c.construct.ensures ∙ ap (option_map seen_construct) c.in-Some-Switch.is ∙ ap (λ k. Some (seen_construct k)) c.in-Some-Switch.field-0-is) in
    comes_nowhere c.args.labels.now c.args.self.now (GoesNext c.args.labels.now c.args.header x (context_at c.args.self.now.walked.rows c.args.place))
    (λ p d n. none_some (next_of (opened x)) p is n.next)

pub returns-in-None : goal.returns-in-None
returns-in-None c =
    let x = seen_block c.args.block.now in
    let is : next_of (opened x) ≡ None = ap next_of (sym c.construct.ensures ∙ ap (option_map seen_construct) c.in-None.is) in
    comes_nowhere c.args.labels.now c.args.self.now (GoesNext c.args.labels.now c.args.header x (context_at c.args.self.now.walked.rows c.args.place))
    (λ p d n. none_some (next_of (opened x)) p is n.next)
