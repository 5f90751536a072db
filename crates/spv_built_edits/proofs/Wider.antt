-- Where more is known, a fine function is fine: what is used is available where it was.
use Rattle.std.proofs.Common.{inl, inr, ℕ, List, [], ◌∷◌, ◌++◌}
use Rattle.std.specs.List.{AllByRecursion, flat_map}
use Rattle.spv_bodies.specs.Bodies.{Entry, Exit, Front, ByBranch, InPlace, Body, Leaves, Finishes, Step, Enters, Splits, Selects, Switches, Loops, Arms, Last, Also, Function}
use Rattle.spv_bodies.specs.Listing.{Branching, branches, branches_of_arms}
use Rattle.spv_fine.specs.Fine.{ArmsFine, AtFront, Carries, Covers, Fine, Headed, Ids, IsFine, Sends, With, at_end, defined_in, results, used_in}

-- all that is available in the first way is so in the second
abbrev pub Among : Ids → Ids → Type 0
Among E F = (id : ℕ) → E id → F id

all_among : (E F : Ids) → Among E F → (ids : List ℕ) → AllByRecursion E ids → AllByRecursion F ids
all_among E F m [] h = tt
all_among E F m (id ∷ ids) h = (m id h.0, all_among E F m ids h.1)

with_among : (E F : Ids) (ids : List ℕ) → Among E F → Among (With E ids) (With F ids)
with_among E F ids m id (inl h) = inl (m id h)
with_among E F ids m id (inr h) = inr h

at_end_among : (E F : Ids) → Among E F → (b : Body) → Among (at_end E b) (at_end F b)
at_end_among E F m (Step words b) = at_end_among (With E (defined_in words)) (With F (defined_in words)) (with_among E F (defined_in words) m) b
at_end_among E F m (Leaves exit) = m
at_end_among E F m (Finishes words) = m
at_end_among E F m (Enters label b) = m
at_end_among E F m (Splits condition on exit b) = m
at_end_among E F m (Selects control condition first second merge rest) = m
at_end_among E F m (Switches control selector cases arms merge rest) = m
at_end_among E F m (Loops entry header control inner next continuing merge rest) = m

carries_among : (E F : Ids) → Among E F → (entry : Entry) → Carries E entry → Carries F entry
carries_among E F m (ByBranch values) h = all_among E F m values h
carries_among E F m InPlace h = tt

module _ (P : (label id : ℕ) → Type 0) where
  front_among : (E F : Ids) → Among E F → (front : Front) → Among (AtFront P E front) (AtFront P F front)
  front_among E F m front id (inl (inl h)) = inl (inl (m id h))
  front_among E F m front id (inl (inr p)) = inl (inr p)
  front_among E F m front id (inr h) = inr h

  sends_among : (E F : Ids) → Among E F → (exit : Exit) → Sends P E exit → Sends P F exit
  sends_among E F m exit h = (all_among E F m exit.values h.0, λ id p. m id (h.1 id p))

  covers_among : (E F : Ids) → Among E F → (sent : List Branching) (label : ℕ) → Covers P sent E label → Covers P sent F label
  covers_among E F m sent label h none id p = m id (h none id p)

  headed_among : (E F : Ids) → Among E F → (header : Front) → Among (Headed E header) (Headed F header)
  headed_among E F m header = with_among E F (results header) m

  -- by recursion on the tree
  mutual
    fine_among : (E F : Ids) → Among E F → (l : ℕ) (b : Body) → Fine P E l b → Fine P F l b
    fine_among E F m l (Leaves exit) h = sends_among E F m exit h
    fine_among E F m l (Finishes words) h = all_among E F m (used_in words) h
    fine_among E F m l (Step words b) h = (
      all_among E F m (used_in words) h.0,
      fine_among (With E (defined_in words)) (With F (defined_in words)) (with_among E F (defined_in words) m) l b h.1,
    )
    fine_among E F m l (Enters label b) h = fine_among E F m label b h
    fine_among E F m l (Splits condition on exit b) h = (m condition h.0, sends_among E F m exit h.1, fine_among E F m l b h.2)
    fine_among E F m l (Selects control condition first second merge rest) h = (
      m condition h.0,
      fine_among E F m l first h.1,
      fine_among E F m l second h.2,
      covers_among E F m (branches l first ++ branches l second) merge.label h.3,
      fine_among (AtFront P E merge) (AtFront P F merge) (front_among E F m merge) merge.label rest h.4,
    )
    fine_among E F m l (Switches control selector cases arms merge rest) h = (
      m selector h.0,
      arms_among E F m l arms h.1,
      covers_among E F m (branches_of_arms l arms) merge.label h.2,
      fine_among (AtFront P E merge) (AtFront P F merge) (front_among E F m merge) merge.label rest h.3,
    )
    fine_among E F m l (Loops entry header control inner next continuing merge rest) h =
        let head = headed_among E F m header in
        let end = at_end_among (Headed E header) (Headed F header) head inner in (
          carries_among E F m entry h.0,
          fine_among (Headed E header) (Headed F header) head header.label inner h.1,
          fine_among (AtFront P (Headed E header) next) (AtFront P (Headed F header) next) (front_among (Headed E header) (Headed F header) head next)
              next.label continuing h.2,
          covers_among (at_end (Headed E header) inner) (at_end (Headed F header) inner) end (branches header.label inner) next.label h.3,
          covers_among (at_end (Headed E header) inner) (at_end (Headed F header) inner) end
              (branches header.label inner ++ branches next.label continuing) merge.label h.4,
          fine_among (AtFront P (Headed E header) merge) (AtFront P (Headed F header) merge) (front_among (Headed E header) (Headed F header) head merge)
              merge.label rest h.5,
        )

    arms_among : (E F : Ids) → Among E F → (l : ℕ) (arms : Arms) → ArmsFine P E l arms → ArmsFine P F l arms
    arms_among E F m l (Last b) h = fine_among E F m l b h
    arms_among E F m l (Also b arms) h = (fine_among E F m l b h.0, arms_among E F m l arms h.1)

lists_among : (E F : Ids) → Among E F → (lines : List (List ℕ)) → AllByRecursion (λ words. AllByRecursion E (used_in words)) lines
    → AllByRecursion (λ words. AllByRecursion F (used_in words)) lines
lists_among E F m [] h = tt
lists_among E F m (words ∷ lines) h = (all_among E F m (used_in words) h.0, lists_among E F m lines h.1)

pub is_fine_among : (E F : Ids) (P : (label id : ℕ) → Type 0) (f : Function) → Among E F → IsFine E P f → IsFine F P f
is_fine_among E F P f m h = record {
  function = all_among E F m (used_in f.function) h.function;
  parameters = lists_among E F m f.parameters h.parameters;
  body =
      fine_among P (With E (flat_map defined_in f.parameters)) (With F (flat_map defined_in f.parameters)) (with_among E F (flat_map defined_in f.parameters) m)
      f.label f.body h.body;
}
