-- A clean function has an exact table of its walk.
use Rattle.std.proofs.Common.{◌≡◌, ℕ, Option, Some, None, refl, ap, ◌∙◌, subst}
use Rattle.spv_blocks.specs.Blocks.{Block, Code, block}
use Rattle.spv_walk.specs.Contexts.{Context}
use Rattle.spv_walk.specs.Walk.{Walk}
use Rattle.spv_walk.specs.Walked.{IsWalk, InPlaces}
use Rattle.spv_walk.proofs.Unique.{one_context}
use Rattle.spv_normal_trees.proofs.Arranging.{labelled, walked_label}
use Rattle.spv_spelling.specs.Clean.{IsClean, no_pointers}

module _ (f : Code) (clean : IsClean no_pointers f) where
  abbrev place_by : (l : ℕ) (o : Option Block) → block f l ≡ o → Option Context
  place_by l None e = None
  place_by l (Some b) e = Some (clean.walked l b e).0

  -- the context in which each block is walked
  abbrev pub table : ℕ → Option Context
  table l = place_by l (block f l) refl

  stands_by : (l : ℕ) (c : Context) (o : Option Block) (e : block f l ≡ o) → place_by l o e ≡ Some c → Walk f l c
  stands_by l c None e h = absurd (cc h)
  stands_by l c (Some b) e h =
      let same : (clean.walked l b e).0 ≡ c = cc h in
      subst (Walk f l) same (clean.walked l b e).1

  some_by : (l : ℕ) (o : Option Block) (e : block f l ≡ o) (b : Block) → o ≡ Some b → (c : Context) × (place_by l o e ≡ Some c)
  some_by l None e b h = absurd (cc h)
  some_by l (Some x) e b h = ((clean.walked l x e).0, refl)

  some_at : (l : ℕ) (c : Context) → Walk f l c → (d : Context) × (table l ≡ Some d)
  some_at l c w =
      let b = labelled f l (walked_label no_pointers f clean l c w) in
      some_by l (block f l) refl b.0 b.1

  pub exact : IsWalk f (InPlaces table)
  exact = record {
    sound = λ l c e. stands_by l c (block f l) refl e;
    whole = λ l c w runs.
        let d = some_at l c w in
        d.1 ∙ ap Some (one_context f l d.0 c (stands_by l d.0 (block f l) refl d.1) w runs);
    some = some_at;
  }
