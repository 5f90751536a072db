-- What is defined in a block that a way has passed; how that goes on along the walk, and comes to a merge block or continue target.
use Rattle.std.proofs.Common.{◌≡◌, ◌≢◌, ◌⊎◌, inl, inr, ℕ, ◌≤◌, true, false, ◌==◌, List, [], ◌∷◌, length, refl, sym, subst, arith}
use Rattle.std.specs.List.{Contains}
use Rattle.graph.proofs.Elements.{contains_first, contains_later, contains_cases}
use Rattle.spv_module.specs.Instruction.{Instruction}
use Rattle.spv_blocks.specs.Blocks.{Code, branches, is_first, names}
use Rattle.spv_blocks.specs.Cutting.{blocks_of}
use Rattle.spv_walk.specs.Contexts.{Context}
use Rattle.spv_walk.specs.Walk.{Walk}
use Rattle.spv_walk.specs.Walked.{Steps}
use Rattle.spv_walk.proofs.Unique.{equal_true, merge_or_next, one_merge, one_next, truth_apart}
use Rattle.spv_bodies.specs.Bodies.{Function}
use Rattle.spv_bodies.specs.Listing.{Branching, arriving, from_block, branches as branches_of_body}
use Rattle.spv_normal.specs.Order.{is_front}
use Rattle.spv_trees.specs.Standing.{OneOf}
use Rattle.spv_structured.proofs.Lists.{all_at, filter_from}
use Rattle.spv_spelling.specs.Clean.{IsClean, no_pointers}
use Rattle.spv_spelling.specs.Paths.{Here}
use Rattle.spv_spelling.specs.Spelling.{SpellsFunction}
use Rattle.spv_spelling.specs.Whole.{IsAdmitted}
use Rattle.spv_spelling.proofs.Onward.{no_way_back}
use Rattle.spv_normal_trees.specs.Laws.{IsBranching}
use Rattle.spv_normal_trees.proofs.Listed.{branches_of_blocks}
use Rattle.spv_ways.specs.Ways as ways
use Rattle.spv_ways.specs.Ways.{ByBranch, IsUnreached, NamesPart, Unreached, Way}
use Rattle.spv_ways.proofs.BackAbove.{Self, Under}
use Rattle.spv_ways.proofs.BackEdges.{cut, passes_above}
use Rattle.spv_fine.specs.Laws.{stay}

-- ---- lists

some_one : (xs : List Branching) → length xs ≡ 1 → (x : Branching) × OneOf x xs
some_one [] e = absurd (omega (arith, e))
some_one (x ∷ xs) e = (x, inl refl)

-- no branch arrives where none goes
pub none_arrive : (m : ℕ) (sent : List Branching) → ((e : Branching) → OneOf e sent → e.1.target ≡ m → ⊥) → arriving m sent ≡ []
none_arrive m sent none = by (arriving m sent) (λ e o. let r = filter_from (λ b. b.1.target == m) e sent o in none e r.0 (equal_true e.1.target m r.1)) where
  by : (xs : List Branching) → ((e : Branching) → OneOf e xs → ⊥) → xs ≡ []
  by [] h = refl
  by (x ∷ xs) h = absurd (h x (inl refl))

-- ---- names

one_namer : (g : Code) (b l m : ℕ) → NamesPart g b m → NamesPart g l m → names g m ≡ 1 → b ≡ l
one_namer g b l m (inl x) (inl y) once = one_merge g b l m once x y
one_namer g b l m (inl x) (inr y) once = absurd (merge_or_next g b l m once x y)
one_namer g b l m (inr x) (inl y) once = absurd (merge_or_next g l b m once y x)
one_namer g b l m (inr x) (inr y) once = one_next g b l m once x y

-- one of these blocks is a home of the id
pub record Found (Home : (block id : ℕ) → Type 0) (passed : List ℕ) (id : ℕ) : Type 0 where
  pub block : ℕ
  pub passed_it : Contains passed block
  pub defined : Home block id

abbrev pub HoldsBy : (Home : (block id : ℕ) → Type 0) → (Free : ℕ → Type 0) → List ℕ → ℕ → Type 0
HoldsBy Home Free passed id = Free id ⊎ Found Home passed id

module _ (insts : List Instruction) (f : Function) (admitted : IsAdmitted insts) (spells : SpellsFunction insts stay f) (P : (label id : ℕ) → Type 0)
    (Home : (block id : ℕ) → Type 0) (Free : ℕ → Type 0) (Short : List ℕ → Type 0) (shorter : (xs ys : List ℕ) → length ys ≤ length xs → Short xs
    → Short ys) where
  abbrev pub g : Code
  g = blocks_of insts

  abbrev pub all : List Branching
  all = branches_of_body f.label f.body

  pub clean : IsClean no_pointers g
  clean = admitted.clean

  abbrev pub Holds : List ℕ → ℕ → Type 0
  Holds passed id = HoldsBy Home Free passed id

  -- so is each short way to the block l, and with the block itself
  abbrev pub Before : (l id : ℕ) → Type 0
  Before l id = (passed : List ℕ) → Way g passed l → Short passed → Holds passed id

  abbrev pub Behind : (l id : ℕ) → Type 0
  Behind l id = (passed : List ℕ) → Way g passed l → Short passed → Holds (l ∷ passed) id

  wider : (xs ys : List ℕ) (id : ℕ) → ((b : ℕ) → Contains xs b → Contains ys b) → Holds xs id → Holds ys id
  wider xs ys id more (inl h) = inl h
  wider xs ys id more (inr h) = inr (record { block = h.block; passed_it = more h.block h.passed_it; defined = h.defined })

  pub defined_behind : (l id : ℕ) → Home l id → Behind l id
  defined_behind l id d passed w s = inr (record { block = l; passed_it = contains_first passed l; defined = d })

  pub before_behind : (l id : ℕ) → Before l id → Behind l id
  before_behind l id h passed w s = wider passed (l ∷ passed) id (λ b c. contains_later passed l b c) (h passed w s)

  -- along a step of the walk
  pub onward : (l t : ℕ) (c d : Context) (id : ℕ) → Walk g l c → Steps g l c t d → Behind l id → Before t id
  onward l t c d id w s h passed way short =
      let differ : t ≢ l = no_way_back no_pointers g clean l t t 0 c d d w s Here in
      let passed_it : Contains passed l = elim (passes_above no_pointers g clean passed t way l (Under l t c d w s Self)) [
        | inl e ↦ absurd (differ (sym e))
        | inr e ↦ e
      ] in
      let k = cut g passed t l way passed_it in
      wider (l ∷ k.front) passed id
      (λ b e. elim (contains_cases k.front l b e) [ inl same ↦ subst (λ j. Contains passed j) (sym same) passed_it | inr later ↦ k.among b later ])
      (h k.front k.way (shorter passed k.front (let less = k.less in omega arith) short))

  -- ---- branches

  -- a branch of the tree is one of its block
  pub leads : (e : Branching) → OneOf e all → branches g e.0 e.1.target ≡ true
  leads e o =
      let r : IsBranching insts stay e = all_at (IsBranching insts stay) all (branches_of_blocks insts stay f
      (record { admitted = admitted; spells = spells })).each e o in
      subst (λ j. branches g j e.1.target ≡ true) (sym r.named) r.branch

  -- and a branch of a block to a front is one of the tree
  record Arrives (b t : ℕ) : Type 0 where
    one : Branching
    among : OneOf one all
    from : one.0 ≡ b
    to : one.1.target ≡ t

  arrival : (b t : ℕ) → branches g b t ≡ true → is_front g t ≡ true → Arrives b t
  arrival b t branch front =
      let x = some_one (from_block (arriving t all) b)
      ((branches_of_blocks insts stay f (record { admitted = admitted; spells = spells })).once b t branch front) in
      let r = filter_from (λ (e : Branching). e.0 == b) x.0 (arriving t all) x.1 in
      let q = filter_from (λ (e : Branching). e.1.target == t) x.0 all r.0 in
      record { one = x.0; among = q.0; from = equal_true x.0.0 b r.1; to = equal_true x.0.1.target t q.1 }

  -- each branch to a merge block or continue target keeps what that promises, and each its values
  abbrev pub Carried : Branching → ℕ → Type 0
  Carried e id = ((names g e.1.target ≡ 1) × P e.1.target id) ⊎ OneOf id e.1.values

  abbrev pub Kept : Branching → Type 0
  Kept e = (id : ℕ) → Carried e id → Behind e.0 id

  -- where the way goes on by the branch
  abbrev pub Promised : Type 0
  Promised = (e : Branching) → OneOf e all → (id : ℕ) → names g e.1.target ≡ 1 → P e.1.target id → (passed : List ℕ) → Way g passed e.0 → Short (e.0 ∷ passed)
      → Holds (e.0 ∷ passed) id

  -- so each way to a merge block or continue target has passed what is promised there
  pub reaches : Promised → (l m id : ℕ) → NamesPart g l m → is_first g m ≡ false → names g m ≡ 1 → is_front g m ≡ true → P m id
      → (IsUnreached g m → Behind l id) → Before m id
  reaches promised l m id mine other once front p unreached passed (ways.Begins h) short = truth_apart (is_first g m) h other
  reaches promised l m id mine other once front p unreached passed (ways.Onward {passed = before} {b = b} {t = t} w (ByBranch branch)) short =
      let a : Arrives b m = arrival b m branch front in
      subst (λ j. Holds (j ∷ before) id) a.from
      (promised a.one a.among id (subst (λ j. names g j ≡ 1) (sym a.to) once) (subst (λ j. P j id) (sym a.to) p) before
      (subst (λ j. Way g before j) (sym a.from) w) (subst (λ j. Short (j ∷ before)) (sym a.from) short))
  reaches promised l m id mine other once front p unreached passed (ways.Onward {passed = before} {b = b} {t = t} w (Unreached named none)) short =
      let same : b ≡ l = one_namer g b l m named mine once in
      subst (λ j. Holds (j ∷ before) id) (sym same)
      (unreached none before (subst (λ j. Way g before j) same w) (shorter (b ∷ before) before (omega arith) short))
