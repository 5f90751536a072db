use Rattle.std.proofs.Common.{◌||◌, Bool, get_or, ◌∙◌, sym, ap}
use Rattle.std.specs.BTreeSet.{contains}
use Rattle.std.specs.Cmp.{unsigned_ties}
use Rattle.std.specs.Ordering.{nat_cmp}
use Rattle.spv_calls.proofs.Listed.{next-id, listed-twice, listed-more}
use Rattle.spv_calls.proofs.interface.listed.Goals as goal

pub returns-then-known : goal.returns-then-known
returns-then-known c =
    let ids = c.args.ids.now in
    let x = get_or ids c.ids.id-index 0 in
    listed-twice c.args.globals.now ids c.ids.id-index x c.ids.listed c.ids.invariant (next-id ids c.ids.id-index c.ids-test.true) (sym c.in_ok-known.ensures.known ∙ c.if-known.true)

pub ids-preserved : goal.ids-preserved
ids-preserved c =
    let ids = c.args.ids.now in
    let x = get_or ids c.ids.id-index 0 in
    let set = c.ids.listed in
    listed-more c.args.globals.now ids c.ids.id-index x set c.add.new.set c.ids.invariant (next-id ids c.ids.id-index c.ids-test.true) (sym c.has.ensures ∙ c.if-not-has.false) (sym c.in_ok-known.ensures.known ∙ c.if-known.false)
    (λ q. c.in_ok-known.ensures.keys q ∙ ap (λ (b : Bool). contains nat_cmp set q || b) (sym (unsigned_ties q x)))
