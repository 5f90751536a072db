use Rattle.std.proofs.Common.{Some, sym, ap, ◌∙◌}
use Rattle.std.specs.Option.{option_map}
use Rattle.std.proofs.lemmas.Result.{on_ok_weaker}
use Rattle.spv_blocks.specs.Blocks.{Code, construct, next_of, is_role}
use Rattle.spv_blocks.specs.Seen.{seen_construct}
use Rattle.spv_entering.proofs.Turning.{begins-none, begins-put}
use Rattle.spv_entering.proofs.filling.Filling.begin.Goals as goal

pub returns-in-Some-Loop : goal.returns-in-Some-Loop
returns-in-Some-Loop c =
    on_ok_weaker c.put.result
    (begins-put c.args.flow.now c.args.self.now c.put.new.self c.args.h c.in-Some-Loop.next c.requires
    (ap (λ (f : Code). next_of (construct f c.args.h)) (sym c.labels-labels.ensures) ∙ ap next_of (sym c.construct.ensures ∙ ap (option_map seen_construct) (c.in-Some-Loop.is ∙ ap (λ k. Some k) c.in-Some-Loop.field-0-is)))
    (ap (λ (f : Code). is_role f c.args.h c.in-Some-Loop.next) (sym c.labels-labels.ensures) ∙ sym c.is_role.ensures ∙ c.if-is_role.true))
    c.put.ensures

pub returns-in_default : goal.returns-in_default
returns-in_default c =
    begins-none c.args.flow.now c.args.self.now c.args.h c.in-Some-Loop.next c.requires
    (ap (λ (f : Code). next_of (construct f c.args.h)) (sym c.labels-labels.ensures) ∙ ap next_of (sym c.construct.ensures ∙ ap (option_map seen_construct) (c.in-Some-Loop.is ∙ ap (λ k. Some k) c.in-Some-Loop.field-0-is)))
    (ap (λ (f : Code). is_role f c.args.h c.in-Some-Loop.next) (sym c.labels-labels.ensures) ∙ sym c.is_role.ensures ∙ c.if-is_role.false)
