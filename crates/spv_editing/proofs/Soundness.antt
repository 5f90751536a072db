-- That editing keeps a function sound.
use Rattle.std.proofs.Common.{◌≡◌, ℕ, ◌+◌, ◌*◌, ◌<◌, ◌≤◌, Bool, true, false, cond, Option, Some, None, List, [], ◌∷◌, ◌++◌, map, length, get_or, refl, sym, ap, ◌∙◌, subst, arith}
use Rattle.std.specs.Prelude.{nat_eq, filter}
use Rattle.std.specs.List.{All, AllPairs, Contains, IsDistinct, flat_map}
use Rattle.std.proofs.lemmas.Bool.{false≢true}
use Rattle.std.proofs.lemmas.List.{get_or-map, length-map, map-append}
use Rattle.std.proofs.lemmas.List.Elements.{All-head, All-map, All-tail, All-weaker}
use Rattle.spv_bodies.specs.Bodies.{Front, Entry, ByBranch, InPlace, Body, Leaves, Finishes, Step, Enters, Splits, Selects, Switches, Loops, Arms, Last, Also, Function, Parameter, begins_at_branch, target}
use Rattle.spv_bodies.specs.Listing.{Branching, arriving, from_block, from_others, in_order}
use Rattle.spv_tree.specs.Branches.{branches_in}
use Rattle.spv_tree.specs.Fronts.{CarriesAll, IsFilled, IsShort}
use Rattle.spv_tree.specs.Sound.{AreAlike, AreFormed, ArePlaced, ArmsArePlaced, IsEntry, IsFormed, IsSound, IsSwitch, fronts, is_end, is_step, opcode_in, opens, targets}
use Rattle.spv_editing.specs.Editing.{Edit, KeepsSteps, edited, edited_arms, edited_branching, edited_end, edited_entry, edited_function, steps_before}
use Rattle.spv_editing.proofs.Steps.{opens-before}
use Rattle.spv_editing.proofs.Kept.{branches-in-kept, entered-kept, fronts-kept}

-- ---- lists

filter-mapped : {X Y : Type 0} (p : Y → Bool) (g : X → Y) (xs : List X) → filter p (map g xs) ≡ map g (filter (λ x. p (g x)) xs)
filter-mapped p g [] = refl
filter-mapped p g (x ∷ xs) =
    elim (p (g x)) as (λ c. cond c (g x ∷ filter p (map g xs)) (filter p (map g xs)) ≡ map g (cond c (x ∷ filter (λ y. p (g y)) xs) (filter (λ y. p (g y)) xs)))
    [ true ↦ ap (λ z. g x ∷ z) (filter-mapped p g xs) | false ↦ filter-mapped p g xs ]

pairs-mapped : {X : Type 0} (R : X → X → Type 0) (g : X → X) (xs : List X) → ((a b : X) → R a b → R (g a) (g b)) → AllPairs R xs → AllPairs R (map g xs)
pairs-mapped R g xs keeps h i j d lt within =
    let inside : j < length xs = subst (λ n. j < n) (length-map xs g) within in
    let before : i < length xs = omega (arith, lt, inside) in
    subst (λ a. R a (get_or (map g xs) j d)) (sym (get_or-map g xs i d d before))
    (subst (λ b. R (g (get_or xs i d)) b) (sym (get_or-map g xs j d d inside)) (keeps (get_or xs i d) (get_or xs j d) (h i j d lt inside)))

-- ---- places of loops in place

-- a body that may stand anywhere may stand behind a front
entry-anywhere : (front : Option Front) (header : Front) (entry : Entry) → IsEntry None header entry → IsEntry front header entry
entry-anywhere front header (ByBranch values) h = tt
entry-anywhere front header InPlace h = absurd (cc h)

placed-anywhere : (front : Option Front) (b : Body) → ArePlaced None b → ArePlaced front b
placed-anywhere front (Leaves exit) h = h
placed-anywhere front (Finishes words) h = h
placed-anywhere front (Step words body) h = h
placed-anywhere front (Enters label body) h = h
placed-anywhere front (Splits condition on exit body) h = h
placed-anywhere front (Selects control condition first second merge rest) h = h
placed-anywhere front (Switches control selector cases arms merge rest) h = h
placed-anywhere front (Loops entry header control inner next continuing merge rest) h = (entry-anywhere front header entry h.0, h.1, h.2, h.3)

placed-before : (front : Option Front) (lines : List (List ℕ)) (b : Body) → ArePlaced None b → ArePlaced front (steps_before lines b)
placed-before front [] b h = placed-anywhere front b h
placed-before front (words ∷ lines) b h = placed-before None lines b h

module _ (e : Edit) where
  entry-kept : (front : Option Front) (header : Front) (entry : Entry) → IsEntry front header entry → IsEntry front header (edited_entry e entry)
  entry-kept front header (ByBranch values) h = h
  entry-kept front header InPlace h = h

  mutual
    placed-kept : (front : Option Front) (b : Body) → ArePlaced front b → ArePlaced front (edited e b)
    placed-kept front (Leaves exit) h = h
    placed-kept front (Finishes words) h = h
    placed-kept front (Step words body) h = placed-before front (e.steps words) (edited e body) (placed-kept None body h)
    placed-kept front (Enters label body) h = placed-kept None body h
    placed-kept front (Splits condition on exit body) h = placed-kept None body h
    placed-kept front (Selects control condition first second merge rest) h = (placed-kept None first h.0, placed-kept None second h.1, placed-kept (Some merge) rest h.2)
    placed-kept front (Switches control selector cases arms merge rest) h = (arms-placed arms h.0, placed-kept (Some merge) rest h.1)
    placed-kept front (Loops entry header control inner next continuing merge rest) h =
        (entry-kept front header entry h.0, placed-kept None inner h.1, placed-kept (Some next) continuing h.2, placed-kept (Some merge) rest h.3)

    arms-placed : (arms : Arms) → ArmsArePlaced arms → ArmsArePlaced (edited_arms e arms)
    arms-placed (Last arm) h = placed-kept None arm h
    arms-placed (Also arm arms) h = (placed-kept None arm h.0, arms-placed arms h.1)

  -- ---- where bodies begin

  begins-kept : (b : Body) → begins_at_branch b ≡ true → begins_at_branch (edited e b) ≡ true
  begins-kept (Leaves exit) h = refl
  begins-kept (Finishes words) h = h
  begins-kept (Step words body) h = absurd (false≢true h)
  begins-kept (Enters label body) h = refl
  begins-kept (Splits condition on exit body) h = h
  begins-kept (Selects control condition first second merge rest) h = h
  begins-kept (Switches control selector cases arms merge rest) h = h
  begins-kept (Loops (ByBranch values) header control inner next continuing merge rest) h = refl
  begins-kept (Loops InPlace header control inner next continuing merge rest) h = h

  pub target-kept : (b : Body) → begins_at_branch b ≡ true → target (edited e b) ≡ target b
  target-kept (Leaves exit) h = refl
  target-kept (Finishes words) h = refl
  target-kept (Step words body) h = absurd (false≢true h)
  target-kept (Enters label body) h = refl
  target-kept (Splits condition on exit body) h = refl
  target-kept (Selects control condition first second merge rest) h = refl
  target-kept (Switches control selector cases arms merge rest) h = refl
  target-kept (Loops entry header control inner next continuing merge rest) h = refl

  opens-kept : (b : Body) → opens b ≡ true → opens (edited e b) ≡ true
  opens-kept (Leaves exit) h = refl
  opens-kept (Finishes words) h = h
  opens-kept (Step words body) h = opens-before (e.steps words) (edited e body) ∙ opens-kept body h
  opens-kept (Enters label body) h = refl
  opens-kept (Splits condition on exit body) h = refl
  opens-kept (Selects control condition first second merge rest) h = h
  opens-kept (Switches control selector cases arms merge rest) h = h
  opens-kept (Loops (ByBranch values) header control inner next continuing merge rest) h = refl
  opens-kept (Loops InPlace header control inner next continuing merge rest) h = h

  -- ---- branches that carry values

  abbrev pub mapped : List Branching → List Branching
  mapped all = map (edited_branching e) all

  pub arriving-mapped : (label : ℕ) (all : List Branching) → arriving label (mapped all) ≡ mapped (arriving label all)
  arriving-mapped label all = filter-mapped (λ branching. nat_eq branching.1.target label) (edited_branching e) all

  from-blocks-mapped : (all : List Branching) (blocks : List ℕ) → flat_map (from_block (mapped all)) blocks ≡ mapped (flat_map (from_block all) blocks)
  from-blocks-mapped all [] = refl
  from-blocks-mapped all (block ∷ blocks) =
      (λ i. filter-mapped (λ (branching : Branching). nat_eq branching.0 block) (edited_branching e) all i ++ from-blocks-mapped all blocks i)
      ∙ sym (map-append (edited_branching e) (from_block all block) (flat_map (from_block all) blocks))

  pub in-order-mapped : (blocks : List ℕ) (all : List Branching) → in_order blocks (mapped all) ≡ mapped (in_order blocks all)
  in-order-mapped blocks all =
      (λ i. from-blocks-mapped all blocks i ++ others i) ∙ sym (map-append (edited_branching e) (flat_map (from_block all) blocks) (from_others all blocks))
    where
      others : from_others (mapped all) blocks ≡ mapped (from_others all blocks)
      others = filter-mapped _ (edited_branching e) all

  short-kept : (label : ℕ) (all : List Branching) (p : Parameter) → IsShort (arriving label all) p → IsShort (arriving label (mapped all)) p
  short-kept label all p h =
      subst (λ n. 3 + 2 * n ≤ 65535)
      (sym (ap (λ z. length (in_order p.parents z)) (arriving-mapped label all) ∙ ap length (in-order-mapped p.parents (arriving label all)) ∙ length-map (in_order p.parents (arriving label all)) (edited_branching e))) h

  filled-kept : (all : List Branching) (front : Front) → IsFilled all front → IsFilled (mapped all) front
  filled-kept all front h = record {
    values = subst (All (CarriesAll (length front.parameters))) (sym (arriving-mapped front.label all))
        (All-map (CarriesAll (length front.parameters)) (edited_branching e) (arriving front.label all)
        (All-weaker (CarriesAll (length front.parameters)) (λ b. CarriesAll (length front.parameters) (edited_branching e b)) (λ b same. length-map b.1.values e.uses ∙ same) (arriving front.label all) h.values));
    short = All-weaker (IsShort (arriving front.label all)) (IsShort (arriving front.label (mapped all))) (short-kept front.label all) front.parameters h.short;
  }

  -- ---- constructs

  pub end-opcode : (words : List ℕ) → opcode_in (edited_end e words) ≡ opcode_in words
  end-opcode [] = refl
  end-opcode (head ∷ operands) = refl

  abbrev AreSteps : List (List ℕ) → Type 0
  AreSteps lines = All (λ line. is_step (opcode_in line) ≡ true) lines

  formed-before : (all : List Branching) (lines : List (List ℕ)) (b : Body) → AreSteps lines → IsFormed all b → IsFormed all (steps_before lines b)
  formed-before all [] b h formed = formed
  formed-before all (words ∷ lines) b h formed =
      (All-head (λ line. is_step (opcode_in line) ≡ true) words lines h, formed-before all lines b (All-tail (λ line. is_step (opcode_in line) ≡ true) words lines h) formed)

  pub targets-kept : (all : List Branching) (arms : Arms) → AreFormed all arms → targets (edited_arms e arms) ≡ targets arms
  targets-kept all (Last arm) h = ap (λ (z : ℕ). z ∷ []) (target-kept arm h.0)
  targets-kept all (Also arm arms) h = λ i. target-kept arm h.0 i ∷ targets-kept all arms h.2 i

  switch-kept : (all : List Branching) (cases : List (ℕ × ℕ)) (arms : Arms) → AreFormed all arms → IsSwitch cases arms → IsSwitch cases (edited_arms e arms)
  switch-kept all cases arms formed h = record {
    count = h.count;
    named = subst (λ (labels : List ℕ). All (λ (case : ℕ × ℕ). Contains labels case.1) cases) (sym (targets-kept all arms formed)) h.named;
    distinct = subst (IsDistinct nat_eq) (sym (targets-kept all arms formed)) h.distinct;
  }

  module _ (keeps : KeepsSteps e) (all : List Branching) where
    mutual
      formed-kept : (b : Body) → IsFormed all b → IsFormed (mapped all) (edited e b)
      formed-kept (Leaves exit) h = h
      formed-kept (Finishes words) h = subst (λ z. is_end z ≡ true) (sym (end-opcode words)) h
      formed-kept (Step words body) h = formed-before (mapped all) (e.steps words) (edited e body) (keeps words h.0) (formed-kept body h.1)
      formed-kept (Enters label body) h = formed-kept body h
      formed-kept (Splits condition on exit body) h = (begins-kept body h.0, formed-kept body h.1)
      formed-kept (Selects control condition first second merge rest) h =
          (begins-kept first h.0, begins-kept second h.1, filled-kept all merge h.2, formed-kept first h.3, formed-kept second h.4, formed-kept rest h.5)
      formed-kept (Switches control selector cases arms merge rest) h =
          (switch-kept all cases arms h.2 h.0, filled-kept all merge h.1, arms-formed arms h.2, formed-kept rest h.3)
      formed-kept (Loops entry header control inner next continuing merge rest) h =
          (opens-kept inner h.0, filled-kept all header h.1, filled-kept all next h.2, filled-kept all merge h.3, formed-kept inner h.4, formed-kept continuing h.5, formed-kept rest h.6)

      arms-formed : (arms : Arms) → AreFormed all arms → AreFormed (mapped all) (edited_arms e arms)
      arms-formed (Last arm) h = (begins-kept arm h.0, formed-kept arm h.1)
      arms-formed (Also arm arms) h = (begins-kept arm h.0, formed-kept arm h.1, arms-formed arms h.2)

  -- ---- functions

  alike-kept : (a b : Branching) → AreAlike a b → AreAlike (edited_branching e a) (edited_branching e b)
  alike-kept a b h same_block same_target = ap (map e.uses) (h same_block same_target)

  pub sound-kept : (f : Function) → KeepsSteps e → IsSound f → IsSound (edited_function e f)
  sound-kept f keeps h =
      let moved : mapped (branches_in f) ≡ branches_in (edited_function e f) = sym (branches-in-kept e f) in
      let P : List ℕ → Branching → Type 0 = λ labels branching. Contains labels branching.1.target in
      record {
        labels = subst (λ (labels : List ℕ). IsDistinct nat_eq labels) (λ i. f.label ∷ sym (entered-kept e f.body) i ++ sym (fronts-kept e f.body) i) h.labels;
        arrive = subst (All (P (fronts (edited e f.body)))) moved
            (All-map (P (fronts (edited e f.body))) (edited_branching e) (branches_in f)
            (subst (λ (labels : List ℕ). All (P labels) (branches_in f)) (sym (fronts-kept e f.body)) h.arrive));
        alike = subst (AllPairs AreAlike) moved (pairs-mapped AreAlike (edited_branching e) (branches_in f) alike-kept h.alike);
        formed = subst (λ all. IsFormed all (edited e f.body)) moved (formed-kept keeps (branches_in f) f.body h.formed);
        placed = placed-kept None f.body h.placed;
      }
