-- OpPhi name each predecessor once as before: a branch comes from the block that it came from, by induction on the body.
use Rattle.std.proofs.Common.{◌≡◌, ℕ, Bool, List, [], ◌∷◌, map, refl, sym, ap, ◌∙◌, subst}
use Rattle.std.specs.List.{AllByRecursion}
use Rattle.spv_walk.specs.Phis.{names_each_once}
use Rattle.spv_bodies.specs.Bodies.{Front, Parameter, Body, Leaves, Finishes, Step, Enters, Splits, Selects, Switches, Loops, Arms, Last, Also}
use Rattle.spv_bodies.specs.Listing.{Branching, arriving, in_order}
use Rattle.spv_structured.specs.Structured.{ArmsFit, FrontFits, ParameterFits, ParametersFit}
use Rattle.spv_editing.specs.Editing.{Edit, edited, edited_arms, steps_before}
use Rattle.spv_editing.proofs.Soundness.{arriving-mapped, in-order-mapped, mapped}

-- the blocks that branches come from
abbrev sources : List Branching → List ℕ
sources here = map (λ b. b.0) here

module _ (is_pointer : ℕ → Bool) where
  fit-before : (all : List Branching) (lines : List (List ℕ)) (b : Body) → ParametersFit is_pointer all b → ParametersFit is_pointer all (steps_before lines b)
  fit-before all [] b h = h
  fit-before all (words ∷ lines) b h = fit-before all lines b h

  module _ (e : Edit) where
    sources-kept : (here : List Branching) → sources (mapped e here) ≡ sources here
    sources-kept [] = refl
    sources-kept (branching ∷ here) = ap (λ (z : List ℕ). branching.0 ∷ z) (sources-kept here)

    parameter-kept : (here : List Branching) (p : Parameter) → ParameterFits is_pointer here p → ParameterFits is_pointer (mapped e here) p
    parameter-kept here p h =
        let ordered : sources (in_order p.parents (mapped e here)) ≡ sources (in_order p.parents here) =
        ap sources (in-order-mapped e p.parents here) ∙ sources-kept (in_order p.parents here) in
        record {
          value = h.value;
          named = (λ i. names_each_once (sources-kept here i) (ordered i)) ∙ h.named;
        }

    parameters-kept : (here : List Branching) (ps : List Parameter) → AllByRecursion (ParameterFits is_pointer here) ps
        → AllByRecursion (ParameterFits is_pointer (mapped e here)) ps
    parameters-kept here [] h = tt
    parameters-kept here (p ∷ ps) h = (parameter-kept here p h.0, parameters-kept here ps h.1)

    module _ (all : List Branching) where
      front-kept : (front : Front) → FrontFits is_pointer all front → FrontFits is_pointer (mapped e all) front
      front-kept front h =
          subst (λ (here : List Branching). AllByRecursion (ParameterFits is_pointer here) front.parameters) (sym (arriving-mapped e front.label all))
          (parameters-kept (arriving front.label all) front.parameters h)

      mutual
        pub fit-kept : (b : Body) → ParametersFit is_pointer all b → ParametersFit is_pointer (mapped e all) (edited e b)
        fit-kept (Leaves exit) h = h
        fit-kept (Finishes words) h = h
        fit-kept (Step words body) h = fit-before (mapped e all) (e.steps words) (edited e body) (fit-kept body h)
        fit-kept (Enters label body) h = fit-kept body h
        fit-kept (Splits condition on exit body) h = fit-kept body h
        fit-kept (Selects control condition first second merge rest) h =
            (front-kept merge h.0, fit-kept first h.1, fit-kept second h.2, fit-kept rest h.3)
        fit-kept (Switches control selector cases arms merge rest) h = (front-kept merge h.0, arms-fit-kept arms h.1, fit-kept rest h.2)
        fit-kept (Loops entry header control inner next continuing merge rest) h =
            (front-kept header h.0, front-kept next h.1, front-kept merge h.2, fit-kept inner h.3, fit-kept continuing h.4, fit-kept rest h.5)

        arms-fit-kept : (arms : Arms) → ArmsFit is_pointer all arms → ArmsFit is_pointer (mapped e all) (edited_arms e arms)
        arms-fit-kept (Last arm) h = fit-kept arm h
        arms-fit-kept (Also arm arms) h = (fit-kept arm h.0, arms-fit-kept arms h.1)
