-- Pieces of a tree: their labels, of which each stands once, and how two pieces that are apart make one.
use Rattle.std.proofs.Common.{◌≡◌, ◌≢◌, ◌⊎◌, inl, inr, ℕ, ◌+◌, true, false, List, [], ◌∷◌, ◌++◌, ap, subst, arith}
use Rattle.spv_blocks.specs.Blocks.{Code, has, names}
use Rattle.spv_walk.specs.Contexts.{Context}
use Rattle.spv_walk.specs.Walk.{Walk}
use Rattle.spv_walk.specs.Walked.{Steps}
use Rattle.spv_spelling.specs.Clean.{IsClean, no_pointers}
use Rattle.spv_spelling.specs.Paths.{Here}
use Rattle.spv_spelling.proofs.Onward.{below_below, directly_below, no_way_back}
use Rattle.spv_spelling.proofs.Paths.{parts_are_apart}
use Rattle.spv_normal_trees.proofs.Members.{Distinct, has_cons, has_either, has_nothing, distinct_append}
use Rattle.spv_normal_trees.proofs.RegionBlocks.{Under, Through}

-- labels, each at such a place, and each once
pub record Piece (On : ℕ → Type 0) (xs : List ℕ) : Type 0 where
  pub labels : (x : ℕ) → has xs x ≡ true → On x
  pub distinct : Distinct xs

-- ---- places behind the block l

-- x is behind l, where l goes on to t, and no merge instruction names t
abbrev pub WayOn : Code → (l : ℕ) → Context → (t x : ℕ) → Type 0
WayOn f l c t x = (names f t ≡ 0) × Through f l c t x

-- or where t is a merge block or continue target
abbrev pub PartOn : Code → (l : ℕ) → Context → (t x : ℕ) → Type 0
PartOn f l c t x = (names f t ≡ 1) × Through f l c t x

-- by the way of one of some targets
abbrev pub WaysOn : Code → (l : ℕ) → Context → (ts : List ℕ) → (x : ℕ) → Type 0
WaysOn f l c ts x = (t : ℕ) × (has ts t ≡ true) × WayOn f l c t x

-- by any way at all
abbrev pub FreeOn : Code → (l : ℕ) → Context → (x : ℕ) → Type 0
FreeOn f l c x = (t : ℕ) × WayOn f l c t x

-- behind l, and not l itself
abbrev pub RestOn : Code → (l : ℕ) → Context → (x : ℕ) → Type 0
RestOn f l c x = Under f l c x × (x ≢ l)

through_under : (f : Code) (l : ℕ) (c : Context) (t x : ℕ) → Through f l c t x → Under f l c x
through_under f l c t x h = record {
  steps = 1 + h.under.steps;
  context = h.under.context;
  below = below_below f l t c h.context 1 h.under.steps x h.under.context (directly_below f l t c h.context h.step) h.under.below;
}

pub under_here : (f : Code) (l : ℕ) (c : Context) → Under f l c l
under_here f l c = record { steps = 0; context = c; below = Here }

pub step_through : (f : Code) (l t x : ℕ) (c d : Context) → Steps f l c t d → Under f t d x → Through f l c t x
step_through f l t x c d s u = record { context = d; step = s; under = u }

-- ---- making pieces

pub nothing : (On : ℕ → Type 0) → Piece On []
nothing On = record { labels = λ x h. has_nothing x h; distinct = tt }

-- a label before others
pub with_label : (On : ℕ → Type 0) (x : ℕ) (xs : List ℕ) → On x → has xs x ≡ false → Piece On xs → Piece On (x ∷ xs)
with_label On x xs here new p = record {
  labels = λ y h. elim (has_cons x xs y h) [ inl e ↦ subst On e here | inr g ↦ p.labels y g ];
  distinct = (new, p.distinct);
}

pub seen_as : (On On2 : ℕ → Type 0) (xs : List ℕ) → ((x : ℕ) → On x → On2 x) → Piece On xs → Piece On2 xs
seen_as On On2 xs f p = record { labels = λ x h. f x (p.labels x h); distinct = p.distinct }

-- two pieces whose places are apart
pub both : (On On2 : ℕ → Type 0) (xs ys : List ℕ) → ((x : ℕ) → On x → On2 x → ⊥) → Piece On xs → Piece On2 ys → Piece (λ x. On x ⊎ On2 x) (xs ++ ys)
both On On2 xs ys a p q = record {
  labels = λ x h. elim (has_either xs ys x h) [ inl g ↦ inl (p.labels x g) | inr g ↦ inr (q.labels x g) ];
  distinct = distinct_append xs ys p.distinct q.distinct (λ x h g. a x (p.labels x h) (q.labels x g));
}

-- ---- places that are apart

module _ (f : Code) (clean : IsClean no_pointers f) (l : ℕ) (c : Context) (w : Walk f l c) where
  two_ways : (t u x : ℕ) → t ≢ u → Through f l c t x → Through f l c u x → ⊥
  two_ways t u x n g h =
      parts_are_apart no_pointers f clean l t u x g.under.steps h.under.steps c g.context h.context g.under.context h.under.context w g.step h.step n
      g.under.below h.under.below

  pub rest_of_through : (t x : ℕ) → Through f l c t x → RestOn f l c x
  rest_of_through t x g = (through_under f l c t x g, no_way_back no_pointers f clean l t x g.under.steps c g.context g.under.context w g.step g.under.below)

  pub ways_apart : (t u : ℕ) → t ≢ u → (x : ℕ) → WayOn f l c t x → WayOn f l c u x → ⊥
  ways_apart t u n x g h = two_ways t u x n g.1 h.1

  pub free_apart : (m x : ℕ) → FreeOn f l c x → PartOn f l c m x → ⊥
  free_apart m x g h = two_ways g.0 m x (λ e. let z = ap (names f) e in let a = g.1.0 in let b = h.0 in omega arith) g.1.1 h.1

  pub parts_apart : (n m : ℕ) → n ≢ m → (x : ℕ) → PartOn f l c n x → PartOn f l c m x → ⊥
  parts_apart n m d x g h = two_ways n m x d g.1 h.1
