-- No two branches of a terminator go to one label, where both targets of an OpBranchConditional differ; and the branches with values are those of the blocks.
use Rattle.std.proofs.Common.{◌≡◌, ◌≢◌, ℕ, ◌+◌, ◌≤◌, inl, inr, Bool, true, false, ◌==◌, cond, List, [], ◌∷◌, ◌++◌, map, refl, sym, ap, ◌∙◌, subst, arith}
use Rattle.std.proofs.lemmas.Bool.{eqb-true}
use Rattle.std.proofs.lemmas.List.{map-append}
use Rattle.spv_blocks.specs.Blocks.{Switch, end_targets, has, times}
use Rattle.spv_bodies.specs.Bodies.{ByBranch, InPlace, Body, Leaves, Finishes, Step, Enters, Splits, Selects, Switches, Loops, Arms, Last, Also, target, begins_at_branch}
use Rattle.spv_bodies.specs.Listing.{Branching, first_target}
use Rattle.spv_tree.specs.Sound.{IsFormed, AreFormed, targets}
use Rattle.spv_trees.specs.Standing.{OneOf}
use Rattle.spv_structured.specs.Structured.{NamesArms, first_end}
use Rattle.spv_structured.proofs.Lists.{one_has, one_split, list_all_at}
use Rattle.spv_structured.proofs.Counting.{times_cons, distinct_times, one}
use Rattle.spv_structured.proofs.Positions.{Heading, heading_to, ways, ways_of_arms, split_targets}
use Rattle.spv_unbroken.proofs.Own.{Differ}

-- ---- one branch for each target

abbrev pub led_to : Body → List ℕ
led_to b = map heading_to (ways b)

-- a body that begins at a branch has one
pub branch_leads : (b : Body) → begins_at_branch b ≡ true → led_to b ≡ target b ∷ []
branch_leads (Leaves exit) e = refl
branch_leads (Enters label body) e = refl
branch_leads (Loops (ByBranch values) header control inner next continuing merge rest) e = refl
branch_leads other e = absurd (cc e)

arms_lead : (arms : Arms) (all : List Branching) → AreFormed all arms → map heading_to (ways_of_arms arms) ≡ targets arms
arms_lead (Last arm) all formed = branch_leads arm formed.0
arms_lead (Also arm arms) all formed =
    map-append heading_to (ways arm) (ways_of_arms arms) ∙ ap (λ z. z ++ map heading_to (ways_of_arms arms)) (branch_leads arm formed.0)
    ∙ ap (λ z. target arm ∷ z) (arms_lead arms all formed.2)

one_at_most : (l t : ℕ) → one l t ≤ 1
one_at_most l t = by (l == t)
  where
    by : (b : Bool) → cond b 1 0 ≤ 1
    by true = omega arith
    by false = omega arith

single : (l t : ℕ) → times (l ∷ []) t ≤ 1
single l t = let a = times_cons l [] t in let b = one_at_most l t in omega (arith, a, b)

pair : (a b t : ℕ) → a ≢ b → times (a ∷ b ∷ []) t ≤ 1
pair a b t n = by (a == t) (b == t) refl refl
  where
    by : (x y : Bool) → (a == t) ≡ x → (b == t) ≡ y → cond x (cond y 1 0 + 1) (cond y 1 0) ≤ 1
    by true true d e = absurd (n (eqb-true a t d ∙ sym (eqb-true b t e)))
    by true false d e = omega arith
    by false true d e = omega arith
    by false false d e = omega arith

pub split_differs : (on : Bool) (a b : ℕ) → cond on a b ≢ cond on b a → a ≢ b
split_differs true a b n = n
split_differs false a b n = λ e. n (sym e)

pub leads_once : (b : Body) (all : List Branching) → IsFormed all b → Differ (first_end b) → (t : ℕ) → times (led_to b) t ≤ 1
leads_once (Leaves exit) all formed d t = single exit.target t
leads_once (Finishes words) all formed d t = omega arith
leads_once (Step words body) all formed d t = leads_once body all formed.1 d t
leads_once (Enters label body) all formed d t = single label t
leads_once (Splits condition on exit body) all formed d t =
    subst (λ z. times (exit.target ∷ z) t ≤ 1) (sym (branch_leads body formed.0))
    (pair exit.target (target body) t (split_differs on exit.target (target body) d))
leads_once (Selects control condition first second merge rest) all formed d t =
    let e : led_to (Selects control condition first second merge rest) ≡ target first ∷ target second ∷ [] =
    map-append heading_to (ways first) (ways second) ∙ ap (λ z. z ++ led_to second) (branch_leads first formed.0)
    ∙ ap (λ z. target first ∷ z) (branch_leads second formed.1) in
    subst (λ z. times z t ≤ 1) (sym e) (pair (target first) (target second) t d)
leads_once (Switches control selector cases arms merge rest) all formed d t =
    subst (λ z. times z t ≤ 1) (sym (arms_lead arms all formed.2)) (distinct_times (targets arms) t formed.0.distinct)
leads_once (Loops (ByBranch values) header control inner next continuing merge rest) all formed d t = single header.label t
leads_once (Loops InPlace header control inner next continuing merge rest) all formed d t = leads_once inner all formed.4 d t

-- ---- each is a target of the terminator

heading_target : (b : Body) (x : Heading) → begins_at_branch b ≡ true → OneOf x (ways b) → heading_to x ≡ target b
heading_target (Leaves exit) x e (inl h) = ap heading_to h
heading_target (Leaves exit) x e (inr h) = absurd h
heading_target (Enters label body) x e (inl h) = ap heading_to h
heading_target (Enters label body) x e (inr h) = absurd h
heading_target (Loops (ByBranch values) header control inner next continuing merge rest) x e (inl h) = ap heading_to h
heading_target (Loops (ByBranch values) header control inner next continuing merge rest) x e (inr h) = absurd h
heading_target other x e h = absurd (cc e)

arm_target : (arms : Arms) (all : List Branching) (x : Heading) → AreFormed all arms → OneOf x (ways_of_arms arms) → OneOf (heading_to x) (targets arms)
arm_target (Last arm) all x formed h = inl (heading_target arm x formed.0 h)
arm_target (Also arm arms) all x formed h = elim (one_split x (ways arm) (ways_of_arms arms) h) [
  | inl g ↦ inl (heading_target arm x formed.0 g)
  | inr g ↦ inr (arm_target arms all x formed.2 g)
]

pub heading_leads : (b : Body) (all : List Branching) → IsFormed all b → NamesArms b → (x : Heading) → OneOf x (ways b)
    → has (end_targets (first_end b)) (heading_to x) ≡ true
heading_leads (Leaves exit) all formed named x (inl h) = one_has (exit.target ∷ []) (heading_to x) (inl (ap heading_to h))
heading_leads (Leaves exit) all formed named x (inr h) = absurd h
heading_leads (Finishes words) all formed named x h = absurd h
heading_leads (Step words body) all formed named x h = heading_leads body all formed.1 named x h
heading_leads (Enters label body) all formed named x (inl h) = one_has (label ∷ []) (heading_to x) (inl (ap heading_to h))
heading_leads (Enters label body) all formed named x (inr h) = absurd h
heading_leads (Splits condition on exit body) all formed named x (inl h) = split_targets on exit.target (target body) (heading_to x) (inl (ap heading_to h))
heading_leads (Splits condition on exit body) all formed named x (inr h) =
    split_targets on exit.target (target body) (heading_to x) (inr (heading_target body x formed.0 h))
heading_leads (Selects control condition first second merge rest) all formed named x h = elim (one_split x (ways first) (ways second) h) [
  | inl g ↦ split_targets true (target first) (target second) (heading_to x) (inl (heading_target first x formed.0 g))
  | inr g ↦ split_targets true (target first) (target second) (heading_to x) (inr (heading_target second x formed.1 g))
]
heading_leads (Switches control selector cases arms merge rest) all formed named x h =
    list_all_at (has (end_targets (Switch (first_target arms) cases))) (targets arms) named.0 (heading_to x) (arm_target arms all x formed.2 h)
heading_leads (Loops (ByBranch values) header control inner next continuing merge rest) all formed named x (inl h) =
    one_has (header.label ∷ []) (heading_to x) (inl (ap heading_to h))
heading_leads (Loops (ByBranch values) header control inner next continuing merge rest) all formed named x (inr h) = absurd h
heading_leads (Loops InPlace header control inner next continuing merge rest) all formed named x h = heading_leads inner all formed.4 named.0 x h
