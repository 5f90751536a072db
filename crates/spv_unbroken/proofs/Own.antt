-- What a block tells that breaks no rule by its own words.
use Rattle.std.proofs.Common.{◌≡◌, ◌≢◌, ℕ, ◌+◌, Bool, true, false, ◌==◌, not, cond, List, [], ◌∷◌, ◌++◌, map, Option, Some, refl, ap, ◌∙◌, arith}
use Rattle.std.specs.Prelude.{Contains}
use Rattle.std.specs.List.{AllByRecursion}
use Rattle.spv_base.specs.declared.fault.Refusal.{Refusal}
use Rattle.spv_module.specs.First.{here, unless}
use Rattle.spv_blocks.specs.Blocks.{Code, Ins, Phi, Selection, Loop, Other, End, Branch, BranchIf, Switch, Return, Unreachable, Open, Construct, ALoop}
use Rattle.spv_walk.specs.Contexts.{Context, in_next}
use Rattle.spv_walk.specs.Faults.{end_rules, has_exit, splits_header, same_twice}
use Rattle.spv_walk.specs.Phis.{phi_faults, late_phis, phi_fits}
use Rattle.spv_walk.proofs.Unique.{equal_false, not_true}
use Rattle.spv_bodies.specs.Bodies.{Parameter, Body, Leaves, Step, Enters, Splits, Loops, ByBranch, target}
use Rattle.spv_bodies.specs.Listing.{Branching, in_order, phi_pairs}
use Rattle.spv_tree.specs.Sound.{opens}
use Rattle.spv_structured.specs.Structured.{first_end, parts_header}
use Rattle.spv_structured.specs.Spots.{phi_ins, bare_ins}
use Rattle.spv_structured.proofs.Bare.{passes}

-- ---- lists of faults

-- where none is contained, there is none
pub no_faults : (xs : List Refusal) → ((r : Refusal) → Contains xs r → ⊥) → xs ≡ []
no_faults [] none = refl
no_faults (x ∷ xs) none = absurd (none x (0, omega arith, refl))

pub no_rules : (at : ℕ) (rules : List ℕ) → here at rules ≡ [] → rules ≡ []
no_rules at [] e = refl
no_rules at (r ∷ rs) e = absurd (cc e)

pub front_empty : {X : Type 0} (xs ys : List X) → xs ++ ys ≡ [] → xs ≡ []
front_empty [] ys e = refl
front_empty (x ∷ xs) ys e = absurd (cc e)

pub back_empty : {X : Type 0} (xs ys : List X) → xs ++ ys ≡ [] → ys ≡ []
back_empty [] ys e = e
back_empty (x ∷ xs) ys e = absurd (cc e)

-- a rule that is not broken has its test passed
pub holds : (t : Bool) (rule : ℕ) → unless t rule ≡ [] → t ≡ true
holds true rule e = refl
holds false rule e = absurd (cc e)

-- ---- terminators

-- both targets of an OpBranchConditional differ
abbrev pub Differ : End → Type 0
Differ (Branch t) = Unit {0}
Differ (BranchIf a b) = a ≢ b
Differ (Switch d cases) = Unit {0}
Differ Return = Unit {0}
Differ Unreachable = Unit {0}
Differ Open = Unit {0}

conditional : (k : Option Construct) (c : Context) (a b : ℕ) → end_rules k c (BranchIf a b) ≡ [] → (a ≢ b) × (splits_header k a b ≡ true)
conditional k c a b e =
    let rest = back_empty (unless (has_exit k c a b) 407) (unless (not (a == b)) 408 ++ unless (splits_header k a b) 410) e in
    let one = holds (not (a == b)) 408 (front_empty (unless (not (a == b)) 408) (unless (splits_header k a b) 410) rest) in
    let two = holds (splits_header k a b) 410 (back_empty (unless (not (a == b)) 408) (unless (splits_header k a b) 410) rest) in
    (equal_false a b (not_true (a == b) one), two)

pub ends_differ : (k : Option Construct) (c : Context) (e : End) → end_rules k c e ≡ [] → Differ e
ends_differ k c (Branch t) h = tt
ends_differ k c (BranchIf a b) h = (conditional k c a b h).0
ends_differ k c (Switch d cases) h = tt
ends_differ k c Return h = tt
ends_differ k c Unreachable h = tt
ends_differ k c Open h = tt

pub literals_differ : (k : Option Construct) (c : Context) (d : ℕ) (cases : List (ℕ × ℕ)) → end_rules k c (Switch d cases) ≡ [] → same_twice cases ≡ false
literals_differ k c d cases h = not_true (same_twice cases) (holds (not (same_twice cases)) 402 (front_empty (unless (not (same_twice cases)) 402) _ h))

pub returns_outside : (k : Option Construct) (c : Context) (b : Bool) → end_rules k c (cond b Unreachable Return) ≡ [] → in_next c ≡ false
returns_outside k c true h = not_true (in_next c) (holds (not (in_next c)) 405 h)
returns_outside k c false h = not_true (in_next c) (holds (not (in_next c)) 405 h)

-- the terminator of a loop's header
pub header_parts : (inner : Body) (c : Context) (m n : ℕ) → opens inner ≡ true → end_rules (Some (ALoop m n)) c (first_end inner) ≡ []
    → parts_header (first_end inner) m ≡ true
header_parts (Step words body) c m n e h = header_parts body c m n e h
header_parts (Splits condition on exit body) c m n e h =
    (conditional (Some (ALoop m n)) c (cond on exit.target (target body)) (cond on (target body) exit.target) h).1
header_parts (Leaves exit) c m n e h = refl
header_parts (Enters label body) c m n e h = refl
header_parts (Loops (ByBranch values) header control inner next continuing merge rest) c m n e h = refl
header_parts other c m n e h = absurd (cc e)

-- ---- OpPhi

late_with : (is : List Ins) → late_phis is ≡ [] → late_phis (map bare_ins is) ≡ []
late_with [] none = refl
late_with (Phi at t r pairs ∷ is) none = absurd (cc none)
late_with (Selection at m ∷ is) none = late_with is none
late_with (Loop at m n ∷ is) none = late_with is none
late_with (Other at ∷ is) none = late_with is none

module _ (is_pointer : ℕ → Bool) (g : Code) (l : ℕ) where
  -- nor wherever the instructions lie
  pub phis_with : (is : List Ins) → phi_faults is_pointer g l is ≡ [] → phi_faults is_pointer g l (map bare_ins is) ≡ []
  phis_with [] none = refl
  phis_with (Phi at t r pairs ∷ is) none =
      let p = passes at 406 (phi_faults is_pointer g l is) (phi_fits is_pointer g l t pairs) none in
      ap (λ b. here 0 (unless b 406) ++ phi_faults is_pointer g l (map bare_ins is)) p.0 ∙ phis_with is p.1
  phis_with (Selection at m ∷ is) none = late_with is none
  phis_with (Loop at m n ∷ is) none = late_with is none
  phis_with (Other at ∷ is) none = late_with is none

  -- each OpPhi of a parameter may stand there
  pub phis_fit : (k : ℕ) (there : List Branching) (ps : List Parameter) (is : List Ins) → phi_faults is_pointer g l (phi_ins k there ps ++ is) ≡ []
      → AllByRecursion (λ p. (j : ℕ) × (phi_fits is_pointer g l p.type (phi_pairs j (in_order p.parents there)) ≡ true)) ps
  phis_fit k there [] is none = tt
  phis_fit k there (p ∷ ps) is none =
      let e = passes 0 406 (phi_faults is_pointer g l (phi_ins (k + 1) there ps ++ is))
      (phi_fits is_pointer g l p.type (phi_pairs k (in_order p.parents there))) none in
      ((k, e.0), phis_fit (k + 1) there ps is e.1)
