-- Offsets change nothing that the walk looks at, and no rule: only its place.
use Rattle.std.proofs.Common.{◌≡◌, ℕ, ◌+◌, Bool, true, false, ◌==◌, not, cond, List, [], ◌∷◌, ◌++◌, map, Option, Some, None, refl, sym, ap, ◌∙◌}
use Rattle.spv_module.specs.First.{here, unless}
use Rattle.spv_blocks.specs.Blocks.{Code, Ins, Phi, Selection, Loop, Other, End, Branch, BranchIf, Switch, Return, Unreachable, Open, Block, Construct, block, of_block, is_first, is_label, is_some_block, names, names_in, roles, times, targets, branches, end_targets, construct, opens, last_opens}
use Rattle.spv_walk.specs.Walk.{end_of}
use Rattle.spv_walk.specs.Faults.{merge_faults, is_last, selection_fits, loop_fits}
use Rattle.spv_walk.specs.Phis.{phi_faults, late_phis, phi_fits}
use Rattle.spv_structured.specs.Spots.{bare_ins, bare_block}

-- ---- instructions

opens_bare : (e : End) (i : Ins) → opens e (bare_ins i) ≡ opens e i
opens_bare Open i = refl
opens_bare e (Phi at t r pairs) = refl
opens_bare e (Selection at m) = refl
opens_bare e (Loop at m n) = refl
opens_bare e (Other at) = refl

last_bare : (e : End) (is : List Ins) → last_opens e (map bare_ins is) ≡ last_opens e is
last_bare e [] = refl
last_bare e (i ∷ []) = opens_bare e i
last_bare e (i ∷ j ∷ is) = last_bare e (j ∷ is)

roles_bare : (i : Ins) → roles (bare_ins i) ≡ roles i
roles_bare (Phi at t r pairs) = refl
roles_bare (Selection at m) = refl
roles_bare (Loop at m n) = refl
roles_bare (Other at) = refl

names_in_bare : (is : List Ins) (l : ℕ) → names_in (map bare_ins is) l ≡ names_in is l
names_in_bare [] l = refl
names_in_bare (i ∷ is) l = ap (λ rs. times rs l + names_in (map bare_ins is) l) (roles_bare i) ∙ ap (λ n. times (roles i) l + n) (names_in_bare is l)

-- ---- functions

abbrev pub bare : Code → Code
bare f = map bare_block f

abbrev strip : Option Block → Option Block
strip None = None
strip (Some b) = Some (bare_block b)

pub block_bare : (f : Code) (l : ℕ) → block (bare f) l ≡ strip (block f l)
block_bare [] l = refl
block_bare (b ∷ f) l = by (b.label == l) (block_bare f l)
  where
    by : (t : Bool) → block (bare f) l ≡ strip (block f l) → cond t (Some (bare_block b)) (block (bare f) l) ≡ strip (cond t (Some b) (block f l))
    by true e = refl
    by false e = e

pub found_bare : (f : Code) (l : ℕ) (b : Block) → block f l ≡ Some b → block (bare f) l ≡ Some (bare_block b)
found_bare f l b e = block_bare f l ∙ ap strip e

-- and a block that is found without its offsets is one with them
pub record Found (f : Code) (l : ℕ) (b : Block) : Type 0 where
  pub block : Block
  pub same : Rattle.spv_blocks.specs.Blocks.block f l ≡ Some block
  pub alike : bare_block block ≡ b

pub bare_found : (f : Code) (l : ℕ) (b : Block) → block (bare f) l ≡ Some b → Found f l b
bare_found f l b e = by (block f l) refl (sym (block_bare f l) ∙ e)
  where
    by : (o : Option Block) → block f l ≡ o → strip o ≡ Some b → Found f l b
    by None same e = absurd (cc e)
    by (Some d) same e = record { block = d; same = same; alike = (let h : bare_block d ≡ b = cc e in h) }

pub names_bare : (f : Code) (l : ℕ) → names (bare f) l ≡ names f l
names_bare [] l = refl
names_bare (b ∷ f) l = ap (λ n. n + names (bare f) l) (names_in_bare b.body l) ∙ ap (λ n. names_in b.body l + n) (names_bare f l)

pub first_bare : (f : Code) (l : ℕ) → is_first (bare f) l ≡ is_first f l
first_bare [] l = refl
first_bare (b ∷ f) l = refl

pub label_bare : (f : Code) (l : ℕ) → is_label (bare f) l ≡ is_label f l
label_bare f l = ap is_some_block (block_bare f l) ∙ by (block f l)
  where
    by : (o : Option Block) → is_some_block (strip o) ≡ is_some_block o
    by None = refl
    by (Some b) = refl

pub targets_bare : (f : Code) (l : ℕ) → targets (bare f) l ≡ targets f l
targets_bare f l = ap (of_block (λ b. end_targets b.end) []) (block_bare f l) ∙ by (block f l)
  where
    by : (o : Option Block) → of_block (λ b. end_targets b.end) [] (strip o) ≡ of_block (λ b. end_targets b.end) [] o
    by None = refl
    by (Some b) = refl

pub construct_bare : (f : Code) (l : ℕ) → construct (bare f) l ≡ construct f l
construct_bare f l = ap (of_block (λ b. last_opens b.end b.body) None) (block_bare f l) ∙ by (block f l)
  where
    by : (o : Option Block) → of_block (λ b. last_opens b.end b.body) None (strip o) ≡ of_block (λ b. last_opens b.end b.body) None o
    by None = refl
    by (Some b) = last_bare b.end b.body

pub end_bare : (f : Code) (l : ℕ) → end_of (bare f) l ≡ end_of f l
end_bare f l = ap (of_block (λ b. b.end) Open) (block_bare f l) ∙ by (block f l)
  where
    by : (o : Option Block) → of_block (λ b. b.end) Open (strip o) ≡ of_block (λ b. b.end) Open o
    by None = refl
    by (Some b) = refl

-- ---- rules

last_is_last : (is : List Ins) → is_last (map bare_ins is) ≡ is_last is
last_is_last [] = refl
last_is_last (i ∷ is) = refl

-- no rule is broken wherever a test passes
pub passes : (at rule : ℕ) (rest : List _) (t : Bool) → here at (unless t rule) ++ rest ≡ [] → (t ≡ true) × (rest ≡ [])
passes at rule rest true e = (refl, e)
passes at rule rest false e = absurd (cc e)

passed : (at rule : ℕ) (rest : List _) (t : Bool) → t ≡ true → rest ≡ [] → here at (unless t rule) ++ rest ≡ []
passed at rule rest true e h = h
passed at rule rest false e h = absurd (cc e)

pub merge_bare : (f : Code) (h : ℕ) (e : End) (is : List Ins) → merge_faults f h e (map bare_ins is) ≡ [] → merge_faults f h e is ≡ []
merge_bare f h e [] none = refl
merge_bare f h e (Phi at t r pairs ∷ is) none = merge_bare f h e is none
merge_bare f h e (Other at ∷ is) none = merge_bare f h e is none
merge_bare f h e (Selection at m ∷ is) none =
    let p = passes 0 403 (merge_faults f h e (map bare_ins is)) (selection_fits f h e (map bare_ins is) m) none in
    passed at 403 (merge_faults f h e is) (selection_fits f h e is m) (sym (selection_bare is) ∙ p.0) (merge_bare f h e is p.1)
  where
    selection_bare : (is : List Ins) → selection_fits f h e (map bare_ins is) m ≡ selection_fits f h e is m
    selection_bare [] = refl
    selection_bare (i ∷ is) = refl
merge_bare f h e (Loop at m n ∷ is) none =
    by (loop_fits f h e (map bare_ins is) m n) (not (n == h)) (loop_bare is) none (λ g. merge_bare f h e is g)
  where
    loop_bare : (is : List Ins) → loop_fits f h e (map bare_ins is) m n ≡ loop_fits f h e is m n
    loop_bare [] = refl
    loop_bare (i ∷ is) = refl

    by : (t u : Bool) → t ≡ loop_fits f h e is m n → here 0 (unless t 403 ++ unless u 405) ++ merge_faults f h e (map bare_ins is) ≡ []
        → (merge_faults f h e (map bare_ins is) ≡ [] → merge_faults f h e is ≡ []) → here at (unless (loop_fits f h e is m n) 403 ++ unless u 405) ++ merge_faults f h e is ≡ []
    by true true same none more = ap (λ t. here at (unless t 403 ++ []) ++ merge_faults f h e is) (sym same) ∙ more none
    by true false same none more = absurd (cc none)
    by false u same none more = absurd (cc none)

late_bare : (is : List Ins) → late_phis (map bare_ins is) ≡ [] → late_phis is ≡ []
late_bare [] none = refl
late_bare (Phi at t r pairs ∷ is) none = absurd (cc none)
late_bare (Selection at m ∷ is) none = late_bare is none
late_bare (Loop at m n ∷ is) none = late_bare is none
late_bare (Other at ∷ is) none = late_bare is none

pub phi_bare : (is_pointer : ℕ → Bool) (f : Code) (l : ℕ) (is : List Ins) → phi_faults is_pointer f l (map bare_ins is) ≡ [] → phi_faults is_pointer f l is ≡ []
phi_bare is_pointer f l [] none = refl
phi_bare is_pointer f l (Phi at t r pairs ∷ is) none =
    let p = passes 0 406 (phi_faults is_pointer f l (map bare_ins is)) (phi_fits is_pointer f l t pairs) none in
    passed at 406 (phi_faults is_pointer f l is) (phi_fits is_pointer f l t pairs) p.0 (phi_bare is_pointer f l is p.1)
phi_bare is_pointer f l (Selection at m ∷ is) none = late_bare is none
phi_bare is_pointer f l (Loop at m n ∷ is) none = late_bare is none
phi_bare is_pointer f l (Other at ∷ is) none = late_bare is none
