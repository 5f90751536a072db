-- A block with all that is behind it: the ways that its terminator names, and the parts that its construct places.
use Rattle.std.proofs.Common.{◌≡◌, ℕ, Bool, true, false, List, [], ◌∷◌, ◌++◌, filter, fold, Option, Some, None, ◌==◌}
use Rattle.spv_blocks.specs.Blocks.{Code, Construct, ASelection, ASwitch, ALoop, construct, has, is_role, names, targets}
use Rattle.spv_walk.specs.Contexts.{InSelection, InArm, InBody, InNext, Context, behind, is_exit}
use Rattle.spv_walk.specs.Walk.{Enters, Walk, end_of, tries}
use Rattle.spv_bodies.specs.Listing.{Branching}
use Rattle.spv_normal.specs.Order.{is_front, is_loop, visited}
use Rattle.spv_normal_trees.proofs.Members.{Distinct}

-- the headers of the continue parts round a place are seen
abbrev pub Turned : (seen : List ℕ) → Context → Type 0
Turned seen [] = Unit {0}
Turned seen (InSelection m ∷ c) = Turned seen c
Turned seen (InArm h m a ∷ c) = Turned seen c
Turned seen (InBody h m n ∷ c) = Turned seen c
Turned seen (InNext h m ∷ c) = (has seen h ≡ true) × Turned seen c

-- a label that no merge instruction names
abbrev pub is_unnamed : Code → ℕ → Bool
is_unnamed f t = names f t == 0

-- t is an exit behind the block l in the context c
abbrev pub LeadsOut : Code → (l : ℕ) → Context → (t : ℕ) → Type 0
LeadsOut f l c t = is_exit (behind (construct f l) l t c) (end_of f l) t ≡ true

-- the block l in the context c goes on to t, in the context d
pub record Onto (f : Code) (l : ℕ) (c : Context) (t : ℕ) (d : Context) : Type 0 where
  pub same : d ≡ behind (construct f l) l t c
  pub enters : Enters f l t
  pub tried : tries f l c t ≡ true

-- these are the targets of the block l in the context c, each once; to visit them is to visit what its terminator names
pub record Arranged (f : Code) (l : ℕ) (c : Context) (named ts : List ℕ) : Type 0 where
  pub distinct : Distinct ts
  pub all : (t : ℕ) → has named t ≡ true → has ts t ≡ true
  pub only : (t : ℕ) → has ts t ≡ true → has named t ≡ true
  pub order : (n : ℕ) (seen : List ℕ) → Turned seen c
      → fold (visited n f) seen (filter (is_unnamed f) named) ≡ fold (visited n f) seen (filter (is_unnamed f) ts)

module _ (f : Code) (Taken : (l t : ℕ) → List ℕ → Type 0) where
  mutual
    pub data Region : (l : ℕ) (c : Context) → Type 0 where
      region : {l : ℕ} {c : Context} {k : Option Construct} {ts : List ℕ} →
          construct f l ≡ k → Walk f l c → Arranged f l c (targets f l) ts → Ways l c ts → Parts l c k → Region l c

    -- out of the part, to a loop, or to a block that is no front
    pub data Way : (l : ℕ) (c : Context) (t : ℕ) → Type 0 where
      leaf : {l t : ℕ} {c : Context} {values : List ℕ} → LeadsOut f l c t → Taken l t values → Way l c t
      comes : {l t : ℕ} {c d : Context} {values : List ℕ} → Onto f l c t d → is_loop (construct f t) ≡ true → Taken l t values → Region t d → Way l c t
      enters : {l t : ℕ} {c d : Context} → Onto f l c t d → is_front f t ≡ false → Region t d → Way l c t

    pub data Ways : (l : ℕ) (c : Context) (ts : List ℕ) → Type 0 where
      nowhere : {l : ℕ} {c : Context} → Ways l c []
      more : {l t : ℕ} {c : Context} {ts : List ℕ} → Way l c t → Ways l c ts → Ways l c (t ∷ ts)

    pub data Parts : (l : ℕ) (c : Context) (k : Option Construct) → Type 0 where
      bare : {l : ℕ} {c : Context} → Parts l c None
      selection : {l m : ℕ} {c : Context} → is_role f l m ≡ true → Region m c → Parts l c (Some (ASelection m))
      switch : {l m : ℕ} {c : Context} → is_role f l m ≡ true → Region m c → Parts l c (Some (ASwitch m))
      loop : {l m n : ℕ} {c : Context} → is_role f l n ≡ true → is_role f l m ≡ true → Region n (InNext l m ∷ c) → Region m c → Parts l c (Some (ALoop m n))

  -- the labels, in order
  abbrev mutual
    pub of_region : {l : ℕ} {c : Context} → Region l c → List ℕ
    of_region (region {l = l} e walk arranged ways parts) = l ∷ (of_ways ways ++ of_parts parts)

    pub of_way : {l t : ℕ} {c : Context} → Way l c t → List ℕ
    of_way (leaf out taken) = []
    of_way (comes onto is taken r) = of_region r
    of_way (enters onto is r) = of_region r

    pub of_ways : {l : ℕ} {c : Context} {ts : List ℕ} → Ways l c ts → List ℕ
    of_ways nowhere = []
    of_ways (more way ways) = of_way way ++ of_ways ways

    pub of_parts : {l : ℕ} {c : Context} {k : Option Construct} → Parts l c k → List ℕ
    of_parts bare = []
    of_parts (selection role r) = of_region r
    of_parts (switch role r) = of_region r
    of_parts (loop next_role role next r) = of_region next ++ of_region r

  -- the branches to fronts, each of the block that it stands in
  abbrev mutual
    pub exits : {l : ℕ} {c : Context} → Region l c → List Branching
    exits (region e walk arranged ways parts) = exits_of_ways ways ++ exits_of_parts parts

    pub exits_of_way : {l t : ℕ} {c : Context} → Way l c t → List Branching
    exits_of_way (leaf {l = l} {t = t} {values = values} out taken) = (l, record { target = t; values = values }) ∷ []
    exits_of_way (comes {l = l} {t = t} {values = values} onto is taken r) = (l, record { target = t; values = values }) ∷ exits r
    exits_of_way (enters onto is r) = exits r

    pub exits_of_ways : {l : ℕ} {c : Context} {ts : List ℕ} → Ways l c ts → List Branching
    exits_of_ways nowhere = []
    exits_of_ways (more way ways) = exits_of_way way ++ exits_of_ways ways

    pub exits_of_parts : {l : ℕ} {c : Context} {k : Option Construct} → Parts l c k → List Branching
    exits_of_parts bare = []
    exits_of_parts (selection role r) = exits r
    exits_of_parts (switch role r) = exits r
    exits_of_parts (loop next_role role next r) = exits next ++ exits r
