-- A function of the normal form nests as deep as its tree, and so as the function of the module.
use Rattle.std.proofs.Common.{◌≡◌, inl, inr, ℕ, ◌<◌, ◌≤◌, List, Option, Some, None, refl, ap, ◌∙◌, subst, arith}
use Rattle.spv_module.specs.Instruction.{Instruction}
use Rattle.spv_blocks.specs.Blocks.{Block, Code, block}
use Rattle.spv_blocks.specs.Cutting.{blocks_of, function_insts}
use Rattle.spv_walk.specs.Contexts.{Context}
use Rattle.spv_walk.specs.Walk.{Walk}
use Rattle.spv_walk.specs.Walked.{IsWalk, InPlaces}
use Rattle.spv_walk.proofs.Unique.{one_context}
use Rattle.spv_walking.specs.Depths.{HasDepth, IsDepth}
use Rattle.spv_bodies.specs.Bodies.{Function, depth}
use Rattle.spv_normal.specs.Lines.{without_marks}
use Rattle.spv_normal_trees.proofs.Arranging.{labelled, walked_label}
use Rattle.spv_tree.specs.declared.body.Body.{Body}
use Rattle.spv_tree.specs.Tree.{body_of}
use Rattle.spv_spelling.specs.Clean.{IsClean, no_pointers}
use Rattle.spv_spelling.specs.Spelling.{SpellsFunction}
use Rattle.spv_spelling.specs.Whole.{IsAdmitted}
use Rattle.spv_spelling.proofs.Settled.{walked_runs}
use Rattle.spv_sound_trees.proofs.Depths.{spelled_has_depth}
use Rattle.spv_respelling.proofs.Admitted as admitted
use Rattle.spv_respelling.proofs.Whole.{respells_listing}
use Rattle.spv_texts.proofs.Marks.{blocks_without_marks}
use Rattle.spv_parse.specs.Functions.{IsTooDeep}
use Rattle.spv_functions.specs.Functions.{is_pointer}
use Rattle.spv_norm_structured.specs.Laws.{NormIsShallow}
use Rattle.spv_norm_structured.proofs.Again.{IsAgain, again_at}

-- ---- the exact table of a clean function

module _ (f : Code) (clean : IsClean no_pointers f) where
  abbrev place_by : (l : ℕ) (o : Option Block) → block f l ≡ o → Option Context
  place_by l None e = None
  place_by l (Some b) e = Some (clean.walked l b e).0

  abbrev table : ℕ → Option Context
  table l = place_by l (block f l) refl

  stands_by : (l : ℕ) (c : Context) (o : Option Block) (e : block f l ≡ o) → place_by l o e ≡ Some c → Walk f l c
  stands_by l c None e h = absurd (cc h)
  stands_by l c (Some b) e h =
      let same : (clean.walked l b e).0 ≡ c = cc h in
      subst (Walk f l) same (clean.walked l b e).1

  some_by : (l : ℕ) (o : Option Block) (e : block f l ≡ o) (b : Block) → o ≡ Some b → (c : Context) × (place_by l o e ≡ Some c)
  some_by l None e b h = absurd (cc h)
  some_by l (Some x) e b h = ((clean.walked l x e).0, refl)

  some_at : (l : ℕ) (c : Context) → Walk f l c → (d : Context) × (table l ≡ Some d)
  some_at l c w =
      let b = labelled f l (walked_label no_pointers f clean l c w) in
      some_by l (block f l) refl b.0 b.1

  exact : IsWalk f (InPlaces table)
  exact = record {
    sound = λ l c e. stands_by l c (block f l) refl e;
    whole = λ l c w runs.
        let d = some_at l c w in
        d.1 ∙ ap Some (one_context f l d.0 c (stands_by l d.0 (block f l) refl d.1) w runs);
    some = some_at;
  }

  -- what lies round a block by the walk lies round it by the table
  by_table : (m : ℕ) → HasDepth f (Walk f) m → HasDepth f (InPlaces table) m
  by_table m h = record {
    label = h.label;
    context = h.context;
    block = h.block;
    stands = exact.whole h.label h.context h.stands (walked_runs no_pointers f clean h.label h.context h.stands);
    depth = h.depth;
  }

  by_walk : (m : ℕ) → HasDepth f (InPlaces table) m → HasDepth f (Walk f) m
  by_walk m h = record { label = h.label; context = h.context; block = h.block; stands = exact.sound h.label h.context h.stands; depth = h.depth }

  pub depth_by_walk : (m : ℕ) → IsDepth f (InPlaces table) m → IsDepth f (Walk f) m
  depth_by_walk m d = record {
    bound = λ j h. d.bound j (by_table j h);
    reached = elim d.reached [ inl e ↦ inl e | inr h ↦ inr (by_walk m h) ];
  }

-- ---- a function has one depth, which is that of its tree

pub no_deeper : (f : Code) (In : ℕ → Context → Type 0) (m n : ℕ) → IsDepth f In m → IsDepth f In n → m ≤ n
no_deeper f In m n d e = elim d.reached [ inl z ↦ omega (arith, z) | inr h ↦ e.bound m h ]

pub tree_depth : (insts : List Instruction) (stays : ℕ → ℕ) (f : Function) → IsAdmitted insts → SpellsFunction insts stays f
    → IsDepth (blocks_of insts) (Walk (blocks_of insts)) (depth f.body)
tree_depth insts stays f is_admitted spells =
    depth_by_walk (blocks_of insts) is_admitted.clean (depth f.body)
    (spelled_has_depth insts stays f (table (blocks_of insts) is_admitted.clean) is_admitted spells (exact (blocks_of insts) is_admitted.clean))

shallow : (a b c : ℕ) → a ≤ b → b ≤ c → c ≤ 255 → 255 < a → ⊥
shallow a b c h g e above = omega (arith, h, g, e, above)

module _ (insts again : List Instruction) (bodies : List Body) (k : ℕ) (a : IsAgain insts bodies k (function_insts k again)) where
  abbrev old : List Instruction
  old = function_insts k insts

  abbrev new : List Instruction
  new = function_insts k again

  pub old_depth : IsDepth (blocks_of old) (Walk (blocks_of old)) (depth (body_of a.body).body)
  old_depth =
      subst (λ z. IsDepth z (Walk z) (depth (body_of a.body).body)) (blocks_without_marks old)
      (tree_depth (without_marks old) a.tree.parsed.spelled.stays (body_of a.body) a.tree.parsed.spelled.admitted a.tree.parsed.spelled.spells)

  pub new_depth : IsDepth (blocks_of new) (Walk (blocks_of new)) (depth (body_of a.body).body)
  new_depth =
      let s = a.tree.parsed.spelled in
      tree_depth new (λ l. l) (body_of a.body)
      (admitted.listing_is_admitted (without_marks old) s.stays (body_of a.body) s.admitted s.spells new a.lists a.instructions)
      (respells_listing (without_marks old) s.stays (body_of a.body) s.admitted s.spells new a.lists)

  pub shallow_at : IsTooDeep (is_pointer again) new → ⊥
  shallow_at deep =
      shallow deep.depth (depth (body_of a.body).body) a.tree.parsed.depth
      (no_deeper (blocks_of new) (Walk (blocks_of new)) deep.depth (depth (body_of a.body).body) deep.nested.greatest new_depth)
      (no_deeper (blocks_of old) (Walk (blocks_of old)) (depth (body_of a.body).body) a.tree.parsed.depth old_depth a.tree.parsed.nested.greatest)
      a.tree.parsed.within deep.above

pub norm_is_shallow : NormIsShallow
norm_is_shallow insts again bodies h n k below deep = shallow_at insts again bodies k (again_at insts again bodies h n k below) deep
