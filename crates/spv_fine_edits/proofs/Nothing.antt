-- Where nothing is wanted, that is available.
use Rattle.std.proofs.Common.{◌⊎◌, ℕ, List, [], ◌∷◌}
use Rattle.std.specs.List.{AllByRecursion, flat_map}
use Rattle.spv_bodies.specs.Bodies.{Body, Leaves, Finishes, Step, Enters, Splits, Selects, Switches, Loops, Arms, Last, Also}
use Rattle.spv_fine.specs.Fine.{AtFront, Headed, Ids, With, defined_in, results}
use Rattle.spv_fine_edits.specs.Giving.{ArmsOffer, Offers}
use Rattle.spv_fine_edits.specs.Laws.{nothing}

pub all_are : {X : Type 0} (Q : X → Type 0) → ((x : X) → Q x) → (xs : List X) → AllByRecursion Q xs
all_are Q h [] = tt
all_are Q h (x ∷ xs) = (h x, all_are Q h xs)

pub no_more : (E : Ids) (ids : List ℕ) → AllByRecursion E (flat_map nothing ids)
no_more E [] = tt
no_more E (id ∷ ids) = no_more E ids

module _ (P : (label id : ℕ) → Type 0) where
  mutual
    pub nothing_offered : (b : Body) (E : Ids) → Offers P nothing E b
    nothing_offered (Leaves exit) E = tt
    nothing_offered (Finishes words) E = tt
    nothing_offered (Step words body) E = (no_more E (defined_in words), nothing_offered body (With E (defined_in words)))
    nothing_offered (Enters label body) E = nothing_offered body E
    nothing_offered (Splits condition on exit body) E = nothing_offered body E
    nothing_offered (Selects control condition first second merge rest) E = (
      nothing_offered first E,
      nothing_offered second E,
      no_more (λ id. E id ⊎ P merge.label id) (results merge),
      nothing_offered rest (AtFront P E merge),
    )
    nothing_offered (Switches control selector cases arms merge rest) E =
        (nothing_in_arms arms E, no_more (λ id. E id ⊎ P merge.label id) (results merge), nothing_offered rest (AtFront P E merge))
    nothing_offered (Loops entry header control inner next continuing merge rest) E = (
      no_more E (results header),
      nothing_offered inner (Headed E header),
      no_more (λ id. Headed E header id ⊎ P next.label id) (results next),
      nothing_offered continuing (AtFront P (Headed E header) next),
      no_more (λ id. Headed E header id ⊎ P merge.label id) (results merge),
      nothing_offered rest (AtFront P (Headed E header) merge),
    )

    nothing_in_arms : (arms : Arms) (E : Ids) → ArmsOffer P nothing E arms
    nothing_in_arms (Last arm) E = nothing_offered arm E
    nothing_in_arms (Also arm arms) E = (nothing_offered arm E, nothing_in_arms arms E)
