use Rattle.std.proofs.Common.{◌≡◌, Bool, true, false, refl, sym}
use Rattle.std.proofs.lemmas.Str.{is_utf8-from_IsUtf8, IsUtf8-from_is_utf8}
use Rattle.spv_grammar.proofs.text.is_utf8.Goals as goal

false-unless_true : (b : Bool) → ¬ (b ≡ true) → false ≡ b
false-unless_true true h = absurd (h refl)
false-unless_true false h = refl

pub returns-in-Ok : goal.returns-in-Ok
returns-in-Ok c = sym (is_utf8-from_IsUtf8 c.args.octets.now c.in-Ok.ensures.cases.1)

pub returns-in-Err : goal.returns-in-Err
returns-in-Err c = false-unless_true _ (λ h. c.in-Err.ensures.cases.0 (IsUtf8-from_is_utf8 c.args.octets.now h))
