-- The listing of what a clean function spells is admitted, so its normal form is itself.
use Rattle.std.proofs.Common.{◌≡◌, ℕ, zero, suc, ◌+◌, ◌≤◌, cond, List, [], ◌∷◌, map, Some, refl, sym, ap, ◌∙◌, subst, arith}
use Rattle.std.specs.List.{slice_get}
use Rattle.std.proofs.lemmas.Bool.{eq-eqb}
use Rattle.spv_module.specs.Instruction.{Instruction}
use Rattle.spv_blocks.specs.Blocks.{Block, Code, block, construct, next_of, times}
use Rattle.spv_blocks.specs.Cutting.{blocks_of}
use Rattle.spv_walk.specs.Contexts.{Context}
use Rattle.spv_walk.specs.Numbering.{HasOwnLabels}
use Rattle.spv_walk.specs.Walk.{OneBackEdge, Walk}
use Rattle.spv_walk.proofs.Unique.{tries_leads}
use Rattle.spv_bodies.specs.Bodies.{Function}
use Rattle.spv_bodies.specs.Listing.{listed}
use Rattle.spv_tree.specs.Branches.{branches_in}
use Rattle.spv_tree.specs.Sound.{IsSound}
use Rattle.spv_tree.specs.Tree.{words_of}
use Rattle.spv_normal.specs.Lines.{without_marks}
use Rattle.spv_spelling.specs.Clean.{IsClean, no_pointers}
use Rattle.spv_spelling.specs.Spelling.{SpellsFunction}
use Rattle.spv_spelling.specs.Whole.{IsAdmitted}
use Rattle.spv_structured.specs.Laws.{Opens}
use Rattle.spv_structured.specs.Spots.{blocks_in, spots_in}
use Rattle.spv_structured.specs.Structured.{IsStructured}
use Rattle.spv_structured.proofs.Bare.{bare}
use Rattle.spv_structured.proofs.Counting.{each_label_once, times_cons}
use Rattle.spv_structured.proofs.Entered.{loop_by_next}
use Rattle.spv_structured.proofs.ListedBlocks.{listed_blocks}
use Rattle.spv_structured.proofs.Looked.{construct_of, placed}
use Rattle.spv_structured.proofs.Targets.{AllLeaveWell, structured_leaves}
use Rattle.spv_structured.proofs.Unbroken.{each_walked, not_bad, one_back_edge, structured_is_unbroken, walked}
use Rattle.spv_normal_trees.proofs.Listed.{spelled_is_normal}
use Rattle.spv_sound_trees.proofs.Sound.{spelled_is_sound}
use Rattle.spv_clean_trees.proofs.Structures.{opens, spelled_is_structured}
use Rattle.spv_respelling.specs.Laws.{ListingIsAdmitted, NormalStays}
use Rattle.spv_respelling.proofs.Inside.{listing_text, no_marks}
use Rattle.spv_respelling.proofs.Lengths.{listing_short}
use Rattle.spv_respelling.proofs.ListedTexts.{labels_bare, labels_of_spots}
use Rattle.spv_respelling.proofs.Whole.{respells_listing}

-- ---- labels that stand once

abbrev label_of : Block → ℕ
label_of b = b.label

-- a label that a block has stands among the labels
label_counted : (f : Code) (k : ℕ) (b : Block) → slice_get f k ≡ Some b → 1 ≤ times (map label_of f) b.label
label_counted [] k b e = absurd (cc e)
label_counted (x ∷ xs) zero b e =
    let here : x ≡ b = cc e in
    let more = ap (λ z. cond z (times (map label_of xs) b.label + 1) (times (map label_of xs) b.label)) (eq-eqb x.label b.label (ap label_of here)) in
    omega (arith, more)
label_counted (x ∷ xs) (suc k) b e =
    let later = label_counted xs k b e in
    let more = times_cons x.label (map label_of xs) b.label in
    omega (arith, later, more)

twice_counted : (x : Block) (xs : Code) (k : ℕ) (b : Block) → slice_get xs k ≡ Some b → x.label ≡ b.label → times (map label_of (x ∷ xs)) b.label ≤ 1 → ⊥
twice_counted x xs k b e same once =
    let later = label_counted xs k b e in
    let more = ap (λ z. cond z (times (map label_of xs) b.label + 1) (times (map label_of xs) b.label)) (eq-eqb x.label b.label same) in
    omega (arith, later, more, once)

own_labels : (f : Code) → ((t : ℕ) → times (map label_of f) t ≤ 1) → HasOwnLabels f
own_labels [] once j k a b e g same = absurd (cc e)
own_labels (x ∷ xs) once zero zero a b e g same = refl
own_labels (x ∷ xs) once zero (suc k) a b e g same =
    let here : x ≡ a = cc e in
    absurd (twice_counted x xs k b g (ap label_of here ∙ same) (once b.label))
own_labels (x ∷ xs) once (suc j) zero a b e g same =
    let here : x ≡ b = cc g in
    absurd (twice_counted x xs j a e (ap label_of here ∙ sym same) (once a.label))
own_labels (x ∷ xs) once (suc j) (suc k) a b e g same =
    ap suc (own_labels xs (λ t. fewer t (once t)) j k a b e g same)
  where
    fewer : (t : ℕ) → times (map label_of (x ∷ xs)) t ≤ 1 → times (map label_of xs) t ≤ 1
    fewer t h = let more = times_cons x.label (map label_of xs) t in omega (arith, more, h)

-- ---- the listing of a structured tree is clean

module _ (f : Function) (again : List Instruction) (sound : IsSound f) (opened : Opens f) (structured : IsStructured no_pointers f)
    (same : words_of again ≡ listed f) where
  abbrev g : Code
  g = blocks_of again

  alike : bare g ≡ blocks_in f
  alike = listed_blocks f again sound opened same

  well : AllLeaveWell no_pointers f
  well = structured_leaves no_pointers f structured

  block_walked : (l : ℕ) (b : Block) → block g l ≡ Some b → (c : Context) × Walk g l c
  block_walked l b e =
      let p = placed no_pointers f sound structured.arms g alike l b e in
      (p.spot.context, subst (λ z. Walk g z p.spot.context) p.label (each_walked no_pointers f sound structured.arms g alike well p.spot p.node))

  turned : (l n : ℕ) (c : Context) → Walk g l c → next_of (construct g l) ≡ Some n → OneBackEdge g l
  turned l n c w next =
      let q = walked no_pointers f sound structured.arms g alike well l c w in
      let k = loop_by_next (Rattle.spv_structured.proofs.Positions.construct_in q.spot.body) n
      (ap next_of (sym (construct_of no_pointers f sound structured.arms g alike q.spot q.node)) ∙ ap (λ z. next_of (construct g z)) q.label ∙ next) in
      subst (OneBackEdge g) q.label (one_back_edge no_pointers f sound structured.arms g alike well structured q.spot q.node k.0 n k.1)

  pub listing_clean : IsClean no_pointers g
  listing_clean = record {
    unbroken = structured_is_unbroken f again no_pointers sound opened structured same;
    walked = block_walked;
    entered = λ l t c w tried goes_on.
        not_bad no_pointers f sound structured.arms g alike well structured l t c w (tries_leads g l c t tried);
    turned = turned;
  }

  pub listing_labels : HasOwnLabels g
  listing_labels =
      own_labels g (λ t. subst (λ z. times z t ≤ 1) (sym (sym (labels_bare g) ∙ ap (map label_of) alike ∙ labels_of_spots (branches_in f) (spots_in f)))
      (each_label_once f sound t))

-- ---- functions

pub listing_is_admitted : ListingIsAdmitted
listing_is_admitted insts stays f admitted spells again same each =
    let sound = spelled_is_sound insts stays f admitted spells in
    let opened = opens insts stays f admitted spells in
    let structured = spelled_is_structured no_pointers insts stays f admitted admitted.clean spells in
    record {
      text = listing_text f again sound opened same;
      each = each;
      short = listing_short insts stays f admitted spells sound again same;
      own = listing_labels f again sound opened structured same;
      clean = listing_clean f again sound opened structured same;
    }

pub normal_stays : NormalStays
normal_stays insts stays f admitted spells again same each =
    let lists : words_of again ≡ listed f = same ∙ sym (spelled_is_normal insts stays f admitted spells) in
    let is_admitted = listing_is_admitted (without_marks insts) stays f admitted spells again lists each in
    let respelled = respells_listing (without_marks insts) stays f admitted spells again lists in
    let bare_there : without_marks again ≡ again = no_marks again is_admitted.text in
    sym (spelled_is_normal again (λ l. l) f (subst (λ z. IsAdmitted z) (sym bare_there) is_admitted)
    (subst (λ z. SpellsFunction z (λ l. l) f) (sym bare_there) respelled))
    ∙ sym lists
