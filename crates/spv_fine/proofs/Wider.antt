-- Where more is available, what is fine stays so.
use Rattle.std.proofs.Common.{◌⊎◌, inl, inr, ℕ, List, [], ◌∷◌}
use Rattle.std.specs.List.{AllByRecursion}
use Rattle.spv_bodies.specs.Bodies.{Entry, ByBranch, InPlace, Exit, Body, Leaves, Finishes, Step, Enters, Splits, Selects, Switches, Loops, Arms, Last, Also}
use Rattle.spv_bodies.specs.Listing.{Branching}
use Rattle.spv_fine.specs.Fine.{ArmsFine, AtFront, Carries, Covers, Fine, Headed, Ids, Keeps, Sends, With, at_end, defined_in, results, used_in}

-- each of the first is one of the second
abbrev pub Among : Ids → Ids → Type 0
Among E F = (id : ℕ) → E id → F id

each_wider : (E F : Ids) → Among E F → (ids : List ℕ) → AllByRecursion E ids → AllByRecursion F ids
each_wider E F more [] h = tt
each_wider E F more (x ∷ xs) h = (more x h.0, each_wider E F more xs h.1)

with_wider : (E F : Ids) (ids : List ℕ) → Among E F → Among (With E ids) (With F ids)
with_wider E F ids more id (inl h) = inl (more id h)
with_wider E F ids more id (inr h) = inr h

end_wider : (body : Body) (E F : Ids) → Among E F → Among (at_end E body) (at_end F body)
end_wider (Step words body) E F more = end_wider body (With E (defined_in words)) (With F (defined_in words)) (with_wider E F (defined_in words) more)
end_wider (Leaves exit) E F more = more
end_wider (Finishes words) E F more = more
end_wider (Enters label body) E F more = more
end_wider (Splits condition on exit body) E F more = more
end_wider (Selects control condition first second merge rest) E F more = more
end_wider (Switches control selector cases arms merge rest) E F more = more
end_wider (Loops entry header control inner next continuing merge rest) E F more = more

carries_wider : (E F : Ids) → Among E F → (entry : Entry) → Carries E entry → Carries F entry
carries_wider E F more (ByBranch values) h = each_wider E F more values h
carries_wider E F more InPlace h = tt

module _ (P : (label id : ℕ) → Type 0) where
  keeps_wider : (E F : Ids) (label : ℕ) → Among E F → Keeps P E label → Keeps P F label
  keeps_wider E F label more h id p = more id (h id p)

  sends_wider : (E F : Ids) (exit : Exit) → Among E F → Sends P E exit → Sends P F exit
  sends_wider E F exit more h = (each_wider E F more exit.values h.0, keeps_wider E F exit.target more h.1)

  covers_wider : (sent : List Branching) (E F : Ids) (label : ℕ) → Among E F → Covers P sent E label → Covers P sent F label
  covers_wider sent E F label more h none = keeps_wider E F label more (h none)

  front_wider : (E F : Ids) (front : Rattle.spv_bodies.specs.Bodies.Front) → Among E F → Among (AtFront P E front) (AtFront P F front)
  front_wider E F front more =
      with_wider (λ id. E id ⊎ P front.label id) (λ id. F id ⊎ P front.label id) (results front) (λ id h. elim h [ inl e ↦ inl (more id e) | inr p ↦ inr p ])

  mutual
    pub fine_wider : (body : Body) (E F : Ids) (l : ℕ) → Among E F → Fine P E l body → Fine P F l body
    fine_wider (Leaves exit) E F l more h = sends_wider E F exit more h
    fine_wider (Finishes words) E F l more h = each_wider E F more (used_in words) h
    fine_wider (Step words body) E F l more h = (
      each_wider E F more (used_in words) h.0,
      fine_wider body (With E (defined_in words)) (With F (defined_in words)) l (with_wider E F (defined_in words) more) h.1,
    )
    fine_wider (Enters label body) E F l more h = fine_wider body E F label more h
    fine_wider (Splits condition on exit body) E F l more h = (more condition h.0, sends_wider E F exit more h.1, fine_wider body E F l more h.2)
    fine_wider (Selects control condition first second merge rest) E F l more h = (
      more condition h.0,
      fine_wider first E F l more h.1,
      fine_wider second E F l more h.2,
      covers_wider _ E F merge.label more h.3,
      fine_wider rest (AtFront P E merge) (AtFront P F merge) merge.label (front_wider E F merge more) h.4,
    )
    fine_wider (Switches control selector cases arms merge rest) E F l more h = (
      more selector h.0,
      arms_wider arms E F l more h.1,
      covers_wider _ E F merge.label more h.2,
      fine_wider rest (AtFront P E merge) (AtFront P F merge) merge.label (front_wider E F merge more) h.3,
    )
    fine_wider (Loops entry header control inner next continuing merge rest) E F l more h =
        let both : Among (Headed E header) (Headed F header) = with_wider E F (results header) more in
        let ends : Among (at_end (Headed E header) inner) (at_end (Headed F header) inner) = end_wider inner (Headed E header) (Headed F header) both in (
          carries_wider E F more entry h.0,
          fine_wider inner (Headed E header) (Headed F header) header.label both h.1,
          fine_wider continuing (AtFront P (Headed E header) next) (AtFront P (Headed F header) next) next.label (front_wider (Headed E header)
              (Headed F header) next both) h.2,
          covers_wider _ (at_end (Headed E header) inner) (at_end (Headed F header) inner) next.label ends h.3,
          covers_wider _ (at_end (Headed E header) inner) (at_end (Headed F header) inner) merge.label ends h.4,
          fine_wider rest (AtFront P (Headed E header) merge) (AtFront P (Headed F header) merge) merge.label (front_wider (Headed E header)
              (Headed F header) merge both) h.5,
        )

    pub arms_wider : (arms : Arms) (E F : Ids) (l : ℕ) → Among E F → ArmsFine P E l arms → ArmsFine P F l arms
    arms_wider (Last arm) E F l more h = fine_wider arm E F l more h
    arms_wider (Also arm arms) E F l more h = (fine_wider arm E F l more h.0, arms_wider arms E F l more h.1)
