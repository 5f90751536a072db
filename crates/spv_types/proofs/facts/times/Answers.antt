use Rattle.std.proofs.Common.{ℕ, sym, ◌∙◌, subst, ◌*◌, ◌<◌, ◌^◌}
use Rattle.std.specs.Option.{SomeIff}
use Rattle.spv_types.proofs.Room.{in_64_bits-product}
use Rattle.spv_types.proofs.facts.times.Goals as goal

pub returns-in-Some : goal.returns-in-Some
returns-in-Some c = λ n e.
    in_64_bits-product c.in-Some.cells n c.args.count c.checked_mul.result (sym c.in-Some.is ∙ e)
    (subst (λ (m : ℕ). SomeIff c.checked_mul.result (c.in-Some.cells * m < 2 ^ 64) (c.in-Some.cells * m)) c.from.ensures c.checked_mul.ensures)
