-- Small functions that are structured, and some that are not.
use Rattle.std.proofs.Common.{refl, sym, arith}
use Rattle.std.proofs.lemmas.Bool.{false≢true}
use Rattle.spv_bodies.specs.Facts.{chosen, looping, of_body, placed, placed_lines, switched}
use Rattle.spv_tree.proofs.Samples.{samples-sound}
use Rattle.spv_structured.proofs.Unbroken.{structured_is_unbroken}
use Rattle.spv_structured.specs.Facts.{Structured, leaving_twice, SamplesAreStructured, OthersAreNotStructured, PlacedBreaksNothing, pointers, laid}

chosen_is : Structured chosen
chosen_is = record {
  flows = ((λ e. omega (arith, e)), refl, refl, refl);
  parameters = ((record { value = refl; named = refl }, tt), tt, tt, tt);
  arms = (tt, tt, tt);
}

looping_is : Structured looping
looping_is = record {
  flows = (refl, (refl, (λ e. omega (arith, e)), refl), refl, refl, refl);
  parameters = (tt, tt, tt, tt, tt, tt);
  arms = (tt, tt, tt);
}

placed_is : Structured placed
placed_is = record {
  flows = ((λ e. omega (arith, e)), refl, (refl, refl, refl, refl, refl), (refl, refl, refl, refl, refl));
  parameters = ((record { value = refl; named = refl }, tt), tt, (tt, tt, tt, tt, tt, tt), ((record { value = refl; named = refl }, tt), tt, tt, tt, tt, tt));
  arms = (tt, (tt, tt, tt), (tt, tt, tt));
}

switched_is : Structured switched
switched_is = record {
  flows = (refl, (refl, (refl, (refl, (λ e. omega (arith, e)), refl), refl, refl, refl)), refl);
  parameters = (tt, (tt, (tt, tt, tt, tt, tt, tt)), tt);
  arms = (refl, (tt, (tt, tt, tt)), tt);
}

leaving_twice_is : Structured leaving_twice
leaving_twice_is = record {
  flows = (refl, (refl, (λ e. omega (arith, e)), refl), (refl, (λ e. omega (arith, e)), refl), refl, refl);
  parameters = (tt, tt, tt, tt, tt, tt);
  arms = (tt, tt, tt);
}

pub samples : SamplesAreStructured
samples = (chosen_is, looping_is, placed_is, switched_is, leaving_twice_is)

pub others : OthersAreNotStructured
others = (
  (λ h. h.flows.0 refl),
  (λ h. false≢true h.flows.1.1),
  (λ h. false≢true h.flows.1),
  (λ h. omega (arith, h.flows.3)),
  (λ h. false≢true (sym h.flows.2.1)),
  (λ h. false≢true h.flows.2.0),
  (λ h. false≢true h.flows.0),
  (λ h. false≢true (sym h.flows.0)),
  (λ h. false≢true h.arms.0),
  (λ h. false≢true (sym h.parameters.0.0.value)),
  (λ h. false≢true h.parameters.0.0.named),
)

-- ---- a function as it is listed

pub placed_breaks_nothing : PlacedBreaksNothing
placed_breaks_nothing = structured_is_unbroken (of_body placed) (laid 100 placed_lines) pointers (samples-sound.2) (record { function = refl; parameters = tt }) placed_is refl
