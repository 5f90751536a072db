-- What a block of a structured tree is by its own words: its construct, and that it breaks no rule by them where its labels have their roles.
use Rattle.std.proofs.Common.{◌≡◌, ◌≢◌, ℕ, ◌+◌, Bool, true, false, ◌==◌, ◌&&◌, ◌||◌, not, cond, List, [], ◌∷◌, ◌++◌, Option, Some, None, refl, sym, ap, ◌∙◌}
use Rattle.std.specs.List.{AllByRecursion}
use Rattle.spv_opcodes.specs.declared.op.TheConstants as op
use Rattle.spv_module.specs.First.{here, unless}
use Rattle.spv_blocks.specs.Blocks.{Code, Ins, Phi, Loop, Other, End, Branch, BranchIf, Return, Unreachable, Open, Construct, ASelection, ASwitch, ALoop, opens, last_opens, is_role, is_first, names}
use Rattle.spv_walk.specs.Contexts.{Context, InBody, behind, is_exit}
use Rattle.spv_walk.specs.Faults.{merge_faults, suits_loop, end_rules}
use Rattle.spv_walk.specs.Phis.{phi_faults, late_phis, phi_fits}
use Rattle.spv_walk.proofs.Unique.{left_holds, right_holds, not_false, false_equal}
use Rattle.spv_bodies.specs.Bodies.{Parameter, Front, ByBranch, InPlace, Body, Leaves, Finishes, Step, Enters, Splits, Selects, Switches, Loops, target}
use Rattle.spv_bodies.specs.Listing.{Branching, arriving, in_order, phi_pairs}
use Rattle.spv_tree.specs.Sound.{IsFormed, opcode_in, opens as opens_header}
use Rattle.spv_structured.specs.Structured.{Flows, first_end, parts_header}
use Rattle.spv_structured.specs.Spots.{phi_ins, front_ins, inside}
use Rattle.spv_structured.proofs.Positions.{construct_in}

-- ---- the construct

opens_phi : (e : End) (at t r : ℕ) (pairs : List (ℕ × ℕ)) → opens e (Phi at t r pairs) ≡ None
opens_phi Open at t r pairs = refl
opens_phi other at t r pairs = refl

opens_other : (e : End) (at : ℕ) → opens e (Other at) ≡ None
opens_other Open at = refl
opens_other other at = refl

-- instructions that open nothing
abbrev Plain : End → List Ins → Type 0
Plain e is = AllByRecursion (λ i. opens e i ≡ None) is

last_after : (e : End) (is : List Ins) (i : Ins) (js : List Ins) → Plain e is → last_opens e (is ++ i ∷ js) ≡ last_opens e (i ∷ js)
last_after e [] i js h = refl
last_after e (k ∷ []) i js h = refl
last_after e (k ∷ m ∷ is) i js h = last_after e (m ∷ is) i js h.1

last_plain : (e : End) (is : List Ins) → Plain e is → last_opens e is ≡ None
last_plain e [] h = refl
last_plain e (i ∷ []) h = h.0
last_plain e (i ∷ j ∷ is) h = last_plain e (j ∷ is) h.1

plain_append : (e : End) (is js : List Ins) → Plain e is → Plain e js → Plain e (is ++ js)
plain_append e [] js h g = g
plain_append e (i ∷ is) js h g = (h.0, plain_append e is js h.1 g)

-- instructions behind others, which open nothing
last_of : (e : End) (is js : List Ins) → Plain e is → last_opens e (is ++ js) ≡ last_opens e js
last_of e is [] h = last_plain e (is ++ []) (plain_append e is [] h tt)
last_of e is (j ∷ js) h = last_after e is j js h

header_construct : (inner : Body) (m n : ℕ) → opens_header inner ≡ true → last_opens (first_end inner) (inside (Loop 0 m n ∷ []) inner) ≡ Some (ALoop m n)
header_construct (Step words body) m n e =
    last_of (first_end body) (Other 0 ∷ []) (inside (Loop 0 m n ∷ []) body) (opens_other (first_end body) 0, tt) ∙ header_construct body m n e
header_construct (Splits condition on exit body) m n e = refl
header_construct (Leaves exit) m n e = refl
header_construct (Enters label body) m n e = refl
header_construct (Loops (ByBranch values) header control inner next continuing merge rest) m n e = refl
header_construct other m n e = absurd (cc e)

body_construct : (b : Body) (all : List Branching) → IsFormed all b → last_opens (first_end b) (inside [] b) ≡ construct_in b
body_construct (Leaves exit) all formed = refl
body_construct (Finishes words) all formed = refl
body_construct (Step words body) all formed = last_of (first_end body) (Other 0 ∷ []) (inside [] body) (opens_other (first_end body) 0, tt) ∙ body_construct body all formed.1
body_construct (Enters label body) all formed = refl
body_construct (Splits condition on exit body) all formed = refl
body_construct (Selects control condition first second merge rest) all formed = refl
body_construct (Switches control selector cases arms merge rest) all formed = refl
body_construct (Loops (ByBranch values) header control inner next continuing merge rest) all formed = refl
body_construct (Loops InPlace header control inner next continuing merge rest) all formed = header_construct inner merge.label next.label formed.0

phis_plain : (e : End) (k : ℕ) (here : List Branching) (ps : List Parameter) → Plain e (phi_ins k here ps)
phis_plain e k here [] = tt
phis_plain e k here (p ∷ ps) = (opens_phi e 0 p.type p.result_id (phi_pairs k (in_order p.parents here)), phis_plain e (k + 1) here ps)

front_plain : (e : End) (all : List Branching) (front : Option Front) → Plain e (front_ins all front)
front_plain e all None = tt
front_plain e all (Some front) = phis_plain e 0 (arriving front.label all) front.parameters

pub block_construct : (all : List Branching) (front : Option Front) (b : Body) → IsFormed all b → last_opens (first_end b) (front_ins all front ++ inside [] b) ≡ construct_in b
block_construct all front b formed = last_of (first_end b) (front_ins all front) (inside [] b) (front_plain (first_end b) all front) ∙ body_construct b all formed

pub ends_closed : (b : Body) → first_end b ≡ Open → ⊥
ends_closed (Leaves exit) e = cc e
ends_closed (Finishes words) e = by (opcode_in words == op.UNREACHABLE) e
  where
    by : (t : Bool) → cond t Unreachable Return ≡ Open → ⊥
    by true e = cc e
    by false e = cc e
ends_closed (Step words body) e = ends_closed body e
ends_closed (Enters label body) e = cc e
ends_closed (Splits condition on exit body) e = cc e
ends_closed (Selects control condition first second merge rest) e = cc e
ends_closed (Switches control selector cases arms merge rest) e = cc e
ends_closed (Loops (ByBranch values) header control inner next continuing merge rest) e = cc e
ends_closed (Loops InPlace header control inner next continuing merge rest) e = ends_closed inner e

-- ---- merge instructions

-- the labels that a construct names have their roles
abbrev pub HasRoles : Code → (h : ℕ) → Option Construct → Type 0
HasRoles g h None = Unit {0}
HasRoles g h (Some (ASelection m)) = is_role g h m ≡ true
HasRoles g h (Some (ASwitch m)) = is_role g h m ≡ true
HasRoles g h (Some (ALoop m n)) = (is_first g h ≡ false) × (is_role g h m ≡ true) × (n ≢ h) × (is_role g h n ≡ true)

phis_merge_nothing : (g : Code) (h : ℕ) (e : End) (k : ℕ) (here : List Branching) (ps : List Parameter) (is : List Ins) → merge_faults g h e (phi_ins k here ps ++ is) ≡ merge_faults g h e is
phis_merge_nothing g h e k here [] is = refl
phis_merge_nothing g h e k here (p ∷ ps) is = phis_merge_nothing g h e (k + 1) here ps is

front_merges_nothing : (g : Code) (h : ℕ) (e : End) (all : List Branching) (front : Option Front) (is : List Ins) → merge_faults g h e (front_ins all front ++ is) ≡ merge_faults g h e is
front_merges_nothing g h e all None is = refl
front_merges_nothing g h e all (Some front) is = phis_merge_nothing g h e 0 (arriving front.label all) front.parameters is

loop_fine : (g : Code) (h : ℕ) (e : End) (m n : ℕ) → suits_loop e ≡ true → HasRoles g h (Some (ALoop m n)) → merge_faults g h e (Loop 0 m n ∷ []) ≡ []
loop_fine g h e m n suits roles =
    by (suits_loop e) (is_first g h) (is_role g h m) (n == h) (is_role g h n) suits roles.0 roles.1 (false_equal n h roles.2) roles.3
  where
    by : (a b c d r : Bool) → a ≡ true → b ≡ false → c ≡ true → d ≡ false → r ≡ true
        → here 0 (unless (a && not b && c && cond d (names g n == 1) r) 403 ++ unless (not d) 405) ++ [] ≡ []
    by true false true false true e1 e2 e3 e4 e5 = refl
    by false b c d r e1 e2 e3 e4 e5 = absurd (cc e1)
    by true true c d r e1 e2 e3 e4 e5 = absurd (cc e2)
    by true false false d r e1 e2 e3 e4 e5 = absurd (cc e3)
    by true false true true r e1 e2 e3 e4 e5 = absurd (cc e4)
    by true false true false false e1 e2 e3 e4 e5 = absurd (cc e5)

selection_fine : (g : Code) (h : ℕ) (m : ℕ) → is_role g h m ≡ true → here 0 (unless (is_role g h m) 403) ++ [] ≡ []
selection_fine g h m e = ap (λ b. here 0 (unless b 403) ++ []) e

header_merges : (g : Code) (h : ℕ) (inner : Body) (m n : ℕ) → opens_header inner ≡ true → HasRoles g h (Some (ALoop m n)) → merge_faults g h (first_end inner) (inside (Loop 0 m n ∷ []) inner) ≡ []
header_merges g h (Step words body) m n e roles = header_merges g h body m n e roles
header_merges g h (Splits condition on exit body) m n e roles = loop_fine g h (first_end (Splits condition on exit body)) m n refl roles
header_merges g h (Leaves exit) m n e roles = loop_fine g h (first_end (Leaves exit)) m n refl roles
header_merges g h (Enters label body) m n e roles = loop_fine g h (first_end (Enters label body)) m n refl roles
header_merges g h (Loops (ByBranch values) header control inner next continuing merge rest) m n e roles = loop_fine g h (Branch header.label) m n refl roles
header_merges g h other m n e roles = absurd (cc e)

body_merges : (g : Code) (h : ℕ) (b : Body) (all : List Branching) → IsFormed all b → HasRoles g h (construct_in b) → merge_faults g h (first_end b) (inside [] b) ≡ []
body_merges g h (Leaves exit) all formed roles = refl
body_merges g h (Finishes words) all formed roles = refl
body_merges g h (Step words body) all formed roles = body_merges g h body all formed.1 roles
body_merges g h (Enters label body) all formed roles = refl
body_merges g h (Splits condition on exit body) all formed roles = refl
body_merges g h (Selects control condition first second merge rest) all formed roles = selection_fine g h merge.label roles
body_merges g h (Switches control selector cases arms merge rest) all formed roles = selection_fine g h merge.label roles
body_merges g h (Loops (ByBranch values) header control inner next continuing merge rest) all formed roles = refl
body_merges g h (Loops InPlace header control inner next continuing merge rest) all formed roles = header_merges g h inner merge.label next.label formed.0 roles

pub block_merges : (g : Code) (h : ℕ) (all : List Branching) (front : Option Front) (b : Body) → IsFormed all b → HasRoles g h (construct_in b)
    → merge_faults g h (first_end b) (front_ins all front ++ inside [] b) ≡ []
block_merges g h all front b formed roles = front_merges_nothing g h (first_end b) all front (inside [] b) ∙ body_merges g h b all formed roles

-- ---- OpPhi

header_late : (inner : Body) (m n : ℕ) → opens_header inner ≡ true → late_phis (inside (Loop 0 m n ∷ []) inner) ≡ []
header_late (Step words body) m n e = header_late body m n e
header_late (Splits condition on exit body) m n e = refl
header_late (Leaves exit) m n e = refl
header_late (Enters label body) m n e = refl
header_late (Loops (ByBranch values) header control inner next continuing merge rest) m n e = refl
header_late other m n e = absurd (cc e)

body_late : (b : Body) (all : List Branching) → IsFormed all b → late_phis (inside [] b) ≡ []
body_late (Leaves exit) all formed = refl
body_late (Finishes words) all formed = refl
body_late (Step words body) all formed = body_late body all formed.1
body_late (Enters label body) all formed = refl
body_late (Splits condition on exit body) all formed = refl
body_late (Selects control condition first second merge rest) all formed = refl
body_late (Switches control selector cases arms merge rest) all formed = refl
body_late (Loops (ByBranch values) header control inner next continuing merge rest) all formed = refl
body_late (Loops InPlace header control inner next continuing merge rest) all formed = header_late inner merge.label next.label formed.0

header_phis : (is_pointer : ℕ → Bool) (g : Code) (l : ℕ) (inner : Body) (m n : ℕ) → opens_header inner ≡ true → phi_faults is_pointer g l (inside (Loop 0 m n ∷ []) inner) ≡ []
header_phis is_pointer g l (Step words body) m n e = header_late body m n e
header_phis is_pointer g l (Splits condition on exit body) m n e = refl
header_phis is_pointer g l (Leaves exit) m n e = refl
header_phis is_pointer g l (Enters label body) m n e = refl
header_phis is_pointer g l (Loops (ByBranch values) header control inner next continuing merge rest) m n e = refl
header_phis is_pointer g l other m n e = absurd (cc e)

body_phis : (is_pointer : ℕ → Bool) (g : Code) (l : ℕ) (b : Body) (all : List Branching) → IsFormed all b → phi_faults is_pointer g l (inside [] b) ≡ []
body_phis is_pointer g l (Leaves exit) all formed = refl
body_phis is_pointer g l (Finishes words) all formed = refl
body_phis is_pointer g l (Step words body) all formed = body_late body all formed.1
body_phis is_pointer g l (Enters label body) all formed = refl
body_phis is_pointer g l (Splits condition on exit body) all formed = refl
body_phis is_pointer g l (Selects control condition first second merge rest) all formed = refl
body_phis is_pointer g l (Switches control selector cases arms merge rest) all formed = refl
body_phis is_pointer g l (Loops (ByBranch values) header control inner next continuing merge rest) all formed = refl
body_phis is_pointer g l (Loops InPlace header control inner next continuing merge rest) all formed = header_phis is_pointer g l inner merge.label next.label formed.0

-- an OpPhi of a parameter may stand in the block
abbrev pub PhiFits : (is_pointer : ℕ → Bool) → Code → (l : ℕ) → List Branching → Parameter → Type 0
PhiFits is_pointer g l here p = (k : ℕ) → phi_fits is_pointer g l p.type (phi_pairs k (in_order p.parents here)) ≡ true

phis_fine : (is_pointer : ℕ → Bool) (g : Code) (l k : ℕ) (here : List Branching) (ps : List Parameter) (is : List Ins) → AllByRecursion (PhiFits is_pointer g l here) ps → phi_faults is_pointer g l is ≡ []
    → phi_faults is_pointer g l (phi_ins k here ps ++ is) ≡ []
phis_fine is_pointer g l k here [] is fit none = none
phis_fine is_pointer g l k here (p ∷ ps) is fit none =
    ap (λ t. Rattle.spv_module.specs.First.here 0 (unless t 406) ++ phi_faults is_pointer g l (phi_ins (k + 1) here ps ++ is)) (fit.0 k) ∙ phis_fine is_pointer g l (k + 1) here ps is fit.1 none

pub block_phis : (is_pointer : ℕ → Bool) (g : Code) (l : ℕ) (all : List Branching) (front : Option Front) (b : Body) → IsFormed all b
    → ((at : Front) → front ≡ Some at → AllByRecursion (PhiFits is_pointer g l (arriving at.label all)) at.parameters) → phi_faults is_pointer g l (front_ins all front ++ inside [] b) ≡ []
block_phis is_pointer g l all None b formed fit = body_phis is_pointer g l b all formed
block_phis is_pointer g l all (Some at) b formed fit =
    phis_fine is_pointer g l 0 (arriving at.label all) at.parameters (inside [] b) (fit at refl) (body_phis is_pointer g l b all formed)

-- ---- terminators

differs : (a b : ℕ) → a ≢ b → not (a == b) ≡ true
differs a b n = not_false (a == b) (false_equal a b n)

header_ends : (c d : Context) (l m n : ℕ) (inner : Body) → opens_header inner ≡ true → Flows c l (first_end inner) inner → parts_header (first_end inner) m ≡ true
    → end_rules (Some (ALoop m n)) d (first_end inner) ≡ []
header_ends c d l m n (Step words body) e flows parts = header_ends c d l m n body e flows parts
header_ends c d l m n (Splits condition on exit body) e flows parts = by (cond on exit.target (target body)) (cond on (target body) exit.target) (split_differs on exit.target (target body) flows.1) parts
  where
    split_differs : (on : Bool) (a b : ℕ) → a ≢ b → (cond on a b == cond on b a) ≡ false
    split_differs true a b h = false_equal a b h
    split_differs false a b h = false_equal b a (λ e. h (sym e))

    by : (a b : ℕ) → (a == b) ≡ false → cond (a == m) (not (b == m)) (b == m) ≡ true → end_rules (Some (ALoop m n)) d (BranchIf a b) ≡ []
    by a b h g = ap (λ t. unless (not t) 408 ++ unless (cond (a == m) (not (b == m)) (b == m)) 410) h ∙ ap (λ t. unless t 410) g
header_ends c d l m n (Leaves exit) e flows parts = refl
header_ends c d l m n (Enters label body) e flows parts = refl
header_ends c d l m n (Loops (ByBranch values) header control inner next continuing merge rest) e flows parts = refl
header_ends c d l m n other e flows parts = absurd (cc e)

pub block_ends : (c : Context) (l h : ℕ) (b : Body) (all : List Branching) → IsFormed all b → Flows c l (first_end b) b → end_rules (construct_in b) (behind (construct_in b) h h c) (first_end b) ≡ []
block_ends c l h (Leaves exit) all formed flows = refl
block_ends c l h (Finishes words) all formed flows = by (opcode_in words == op.UNREACHABLE)
  where
    by : (t : Bool) → end_rules None c (cond t Unreachable Return) ≡ []
    by true = ap (λ x. unless (not x) 405) flows
    by false = ap (λ x. unless (not x) 405) flows
block_ends c l h (Step words body) all formed flows = block_ends c l h body all formed.1 flows
block_ends c l h (Enters label body) all formed flows = refl
block_ends c l h (Splits condition on exit body) all formed flows = by on flows.0
  where
    last : (a b : ℕ) (x : Bool) → x ≡ true → a ≢ b → unless x 407 ++ (unless (not (a == b)) 408 ++ []) ≡ []
    last a b x e n = ap (λ z. unless z 407 ++ (unless (not (a == b)) 408 ++ [])) e ∙ ap (λ z. unless z 408 ++ []) (differs a b n)

    by : (on : Bool) → is_exit c (BranchIf (cond on exit.target (target body)) (cond on (target body) exit.target)) exit.target ≡ true
        → end_rules None c (BranchIf (cond on exit.target (target body)) (cond on (target body) exit.target)) ≡ []
    by true e =
        let end = BranchIf exit.target (target body) in
        last exit.target (target body) (is_exit c end exit.target || is_exit c end (target body)) (left_holds (is_exit c end exit.target) (is_exit c end (target body)) e) flows.1
    by false e =
        let end = BranchIf (target body) exit.target in
        last (target body) exit.target (is_exit c end (target body) || is_exit c end exit.target) (right_holds (is_exit c end (target body)) (is_exit c end exit.target) e) (λ d. flows.1 (sym d))
block_ends c l h (Selects control condition first second merge rest) all formed flows =
    ap (λ t. unless t 408 ++ []) (differs (target first) (target second) flows.0)
block_ends c l h (Switches control selector cases arms merge rest) all formed flows = ap (λ t. unless (not t) 402 ++ []) flows.0
block_ends c l h (Loops (ByBranch values) header control inner next continuing merge rest) all formed flows = refl
block_ends c l h (Loops InPlace header control inner next continuing merge rest) all formed flows =
    header_ends (InBody header.label merge.label next.label ∷ c) (InBody h merge.label next.label ∷ c) header.label merge.label next.label inner formed.0 flows.1 flows.0
