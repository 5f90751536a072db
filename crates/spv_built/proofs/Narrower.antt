-- A fine tree stays fine where less is promised, if at its own fronts the same is.
use Rattle.std.proofs.Common.{◌⊎◌, inl, inr, ℕ, List, [], ◌∷◌, ◌++◌}
use Rattle.std.specs.List.{AllByRecursion, flat_map}
use Rattle.spv_bodies.specs.Bodies.{Arms, Last, Also, Body, Leaves, Finishes, Step, Enters, Splits, Selects, Switches, Loops, Entry, ByBranch, InPlace, Exit, Front, Function}
use Rattle.spv_bodies.specs.Listing.{Branching, branches, branches_of_arms}
use Rattle.spv_tree.specs.Sound.{fronts, fronts_of_arms, own_label}
use Rattle.spv_fine.specs.Fine.{ArmsFine, AtFront, Carries, Covers, Fine, Headed, Ids, IsFine, Keeps, Sends, With, at_end, defined_in, results, used_in}
use Rattle.spv_built.proofs.Lists.{all_left, all_right}

-- ---- what is available

abbrev Among : Ids → Ids → Type 0
Among E F = (id : ℕ) → E id → F id

each_among : (E F : Ids) → Among E F → (ids : List ℕ) → AllByRecursion E ids → AllByRecursion F ids
each_among E F more [] h = tt
each_among E F more (x ∷ xs) h = (more x h.0, each_among E F more xs h.1)

with_among : (E F : Ids) (ids : List ℕ) → Among E F → Among (With E ids) (With F ids)
with_among E F ids more id (inl h) = inl (more id h)
with_among E F ids more id (inr h) = inr h

end_among : (body : Body) (E F : Ids) → Among E F → Among (at_end E body) (at_end F body)
end_among (Step words body) E F more = end_among body (With E (defined_in words)) (With F (defined_in words)) (with_among E F (defined_in words) more)
end_among (Leaves exit) E F more = more
end_among (Finishes words) E F more = more
end_among (Enters label body) E F more = more
end_among (Splits condition on exit body) E F more = more
end_among (Selects control condition first second merge rest) E F more = more
end_among (Switches control selector cases arms merge rest) E F more = more
end_among (Loops entry header control inner next continuing merge rest) E F more = more

carries_among : (E F : Ids) → Among E F → (entry : Entry) → Carries E entry → Carries F entry
carries_among E F more (ByBranch values) h = each_among E F more values h
carries_among E F more InPlace h = tt

-- at a label R promises what P does
pub record Promises (P R : (label id : ℕ) → Type 0) (label : ℕ) : Type 0 where
  pub all : (id : ℕ) → P label id → R label id

-- what R promises P does, and at the fronts of the tree R promises what P does
module _ (P R : (label id : ℕ) → Type 0) (less : (label id : ℕ) → R label id → P label id) where
  keeps_less : (E F : Ids) (label : ℕ) → Among E F → Keeps P E label → Keeps R F label
  keeps_less E F label more h id r = more id (h id (less label id r))

  sends_less : (E F : Ids) (exit : Exit) → Among E F → Sends P E exit → Sends R F exit
  sends_less E F exit more h = (each_among E F more exit.values h.0, keeps_less E F exit.target more h.1)

  covers_less : (sent : List Branching) (E F : Ids) (label : ℕ) → Among E F → Covers P sent E label → Covers R sent F label
  covers_less sent E F label more h none = keeps_less E F label more (h none)

  front_among : (E F : Ids) (front : Front) → Promises P R front.label → Among E F → Among (AtFront P E front) (AtFront R F front)
  front_among E F front same more =
      with_among (λ id. E id ⊎ P front.label id) (λ id. F id ⊎ R front.label id) (results front)
      (λ id h. elim h [ inl e ↦ inl (more id e) | inr p ↦ inr (same.all id p) ])

  mutual
    pub fine_less : (body : Body) (E F : Ids) (l : ℕ) → AllByRecursion (Promises P R) (fronts body) → Among E F → Fine P E l body → Fine R F l body
    fine_less (Leaves exit) E F l same more h = sends_less E F exit more h
    fine_less (Finishes words) E F l same more h = each_among E F more (used_in words) h
    fine_less (Step words body) E F l same more h = (
      each_among E F more (used_in words) h.0,
      fine_less body (With E (defined_in words)) (With F (defined_in words)) l same (with_among E F (defined_in words) more) h.1,
    )
    fine_less (Enters label body) E F l same more h = fine_less body E F label same more h
    fine_less (Splits condition on exit body) E F l same more h = (more condition h.0, sends_less E F exit more h.1, fine_less body E F l same more h.2)
    fine_less (Selects control condition first second merge rest) E F l same more h =
        let arms = all_left (Promises P R) (fronts first ++ fronts second) (fronts rest) same.1 in (
          more condition h.0,
          fine_less first E F l (all_left (Promises P R) (fronts first) (fronts second) arms) more h.1,
          fine_less second E F l (all_right (Promises P R) (fronts first) (fronts second) arms) more h.2,
          covers_less (branches l first ++ branches l second) E F merge.label more h.3,
          fine_less rest (AtFront P E merge) (AtFront R F merge) merge.label
              (all_right (Promises P R) (fronts first ++ fronts second) (fronts rest) same.1) (front_among E F merge same.0 more) h.4,
        )
    fine_less (Switches control selector cases arms merge rest) E F l same more h = (
      more selector h.0,
      arms_less arms E F l (all_left (Promises P R) (fronts_of_arms arms) (fronts rest) same.1) more h.1,
      covers_less (branches_of_arms l arms) E F merge.label more h.2,
      fine_less rest (AtFront P E merge) (AtFront R F merge) merge.label (all_right (Promises P R) (fronts_of_arms arms) (fronts rest) same.1)
          (front_among E F merge same.0 more) h.3,
    )
    fine_less (Loops entry header control inner next continuing merge rest) E F l same more h =
        let own = own_label entry header.label in
        let front = own ++ next.label ∷ merge.label ∷ fronts inner in
        let loop = all_left (Promises P R) (front ++ fronts continuing) (fronts rest) same in
        let those = all_right (Promises P R) own (next.label ∷ merge.label ∷ fronts inner) (all_left (Promises P R) front (fronts continuing) loop) in
        let both : Among (Headed E header) (Headed F header) = with_among E F (results header) more in
        let ends : Among (at_end (Headed E header) inner) (at_end (Headed F header) inner) = end_among inner (Headed E header) (Headed F header) both in (
          carries_among E F more entry h.0,
          fine_less inner (Headed E header) (Headed F header) header.label those.1.1 both h.1,
          fine_less continuing (AtFront P (Headed E header) next) (AtFront R (Headed F header) next) next.label
              (all_right (Promises P R) front (fronts continuing) loop) (front_among (Headed E header) (Headed F header) next those.0 both) h.2,
          covers_less (branches header.label inner) (at_end (Headed E header) inner) (at_end (Headed F header) inner) next.label ends h.3,
          covers_less (branches header.label inner ++ branches next.label continuing) (at_end (Headed E header) inner)
              (at_end (Headed F header) inner) merge.label ends h.4,
          fine_less rest (AtFront P (Headed E header) merge) (AtFront R (Headed F header) merge) merge.label
              (all_right (Promises P R) (front ++ fronts continuing) (fronts rest) same)
              (front_among (Headed E header) (Headed F header) merge those.1.0 both) h.5,
        )

    pub arms_less : (arms : Arms) (E F : Ids) (l : ℕ) → AllByRecursion (Promises P R) (fronts_of_arms arms) → Among E F → ArmsFine P E l arms → ArmsFine R F l arms
    arms_less (Last arm) E F l same more h = fine_less arm E F l same more h
    arms_less (Also arm arms) E F l same more h = (
      fine_less arm E F l (all_left (Promises P R) (fronts arm) (fronts_of_arms arms) same) more h.0,
      arms_less arms E F l (all_right (Promises P R) (fronts arm) (fronts_of_arms arms) same) more h.1,
    )

  pub function_less : (E : Ids) (f : Function) → AllByRecursion (Promises P R) (fronts f.body) → IsFine E P f → IsFine E R f
  function_less E f same h = record {
    function = h.function;
    parameters = h.parameters;
    body =
        fine_less f.body (With E (flat_map defined_in f.parameters)) (With E (flat_map defined_in f.parameters)) f.label same (λ id e. e) h.body;
  }
