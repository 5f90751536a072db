use Rattle.std.proofs.Common.{refl, subst}
use Rattle.std.specs.Option.{IfSome}
use Rattle.spv_grammar.specs.Roles.{names_id}
use Rattle.spv_module.specs.View.{seen}
use Rattle.spv_draft.specs.Fresh.{Knows}
use Rattle.spv_draft.specs.Named.{words_with}
use Rattle.spv_draft.proofs.FreshSteps.{knows-more}
use Rattle.spv_draft.proofs.fresh.with_names.Goals as goal

pub returns-in-Ok : goal.returns-in-Ok
returns-in-Ok c = λ named known.
    knows-more c.in_ok-tally.field-0 (record { tally = c.add_named.new.tally; next = c.in_ok-tally.field-0.next }) (words_with names_id (seen c.args.inst.now)) named refl
    c.in-Ok.ensures (subst (λ o. IfSome o (λ old. Knows old named)) c.in_ok-tally.was known)
