-- What the blocks of a part of a function spell: its region, with the branches and the lines of its tree.
use Rattle.std.proofs.Common.{◌≡◌, inl, inr, ℕ, Bool, true, false, not, cond, ◌==◌, List, [], ◌∷◌, ◌++◌, map, Option, refl, sym, ap, ap₂, subst, ◌∙◌, append_assoc}
use Rattle.std.specs.List.{flat_map}
use Rattle.std.proofs.lemmas.Bool.Decides.{eqb_tells}
use Rattle.std.proofs.lemmas.List.{map-append}
use Rattle.spv_opcodes.specs.declared.op.TheConstants as op
use Rattle.spv_module.specs.Instruction.{Instruction}
use Rattle.spv_blocks.specs.Blocks.{Code, Construct, construct, is_label, targets}
use Rattle.spv_blocks.specs.Cutting.{blocks_of}
use Rattle.spv_walk.specs.Contexts.{Context}
use Rattle.spv_walk.specs.Walk.{Walk}
use Rattle.spv_walk.proofs.Unique.{truth_apart, true_equal, both_right, not_true}
use Rattle.spv_bodies.specs.Bodies.{Entry, Body, Arms, target}
use Rattle.spv_bodies.specs.Listing.{Branching, arm_lines, branch_line, branches as branches_of_body, branches_of_arms, entering, entry_lines, first_target, front_lines, label_line, lines, lines_of_arms}
use Rattle.spv_normal.specs.Normal.{block_lines, joins_next}
use Rattle.spv_normal.specs.Order.{is_front, is_loop}
use Rattle.spv_tree.specs.Sound.{is_end, is_one_of, is_step, structure}
use Rattle.spv_spelling.specs.Text.{Take, behind_phis, copies, copy_of, front_of, phis, text}
use Rattle.spv_spelling.specs.Clean.{IsClean}
use Rattle.spv_normal_trees.proofs.Regions.{Arranged, Region, region, Way, Ways, Parts, of_region, of_way, of_ways, of_parts, exits, exits_of_way, exits_of_ways, exits_of_parts}
use Rattle.spv_normal_trees.proofs.NormalBlocks.{NoPhis, block_is, copied_lines, in_front_and_behind, normal_words, phis_are, plain_lines, renamed_lines, renamed_words}
use Rattle.spv_normal_trees.proofs.Arranging.{walked}

-- ---- lists

pub map_two : {A B : Type 0} (g : A → B) (xs ys : List A) (us vs : List B) → map g xs ≡ us → map g ys ≡ vs → map g (xs ++ ys) ≡ us ++ vs
map_two g xs ys us vs a b = map-append g xs ys ∙ ap₂ (λ x y. x ++ y) a b

pub flat_two : {A B : Type 0} (g : A → List B) (xs ys : List A) → flat_map g (xs ++ ys) ≡ flat_map g xs ++ flat_map g ys
flat_two g [] ys = refl
flat_two g (x ∷ xs) ys = ap (λ z. g x ++ z) (flat_two g xs ys) ∙ sym (append_assoc (g x) (flat_map g xs) (flat_map g ys))

-- ---- copies

pub copies_branches : (b : ℕ) (ps : List (List ℕ)) (body : Body) → branches_of_body b (copies ps body) ≡ branches_of_body b body
copies_branches b [] body = refl
copies_branches b (p ∷ ps) body = copies_branches b ps body

pub copies_lines : (all : List Branching) (ps : List (List ℕ)) (body : Body) → lines all [] (copies ps body) ≡ map copy_of ps ++ lines all [] body
copies_lines all [] body = refl
copies_lines all (p ∷ ps) body = ap (λ z. copy_of p ∷ z) (copies_lines all ps body)

-- ---- opcodes that are not that of OpPhi

pub step_no_phi : (o : ℕ) → is_step o ≡ true → (o == op.PHI) ≡ false
step_no_phi o h = elim (eqb_tells o op.PHI) [
  | inl (e, p) ↦ truth_apart (is_one_of structure o) (subst (λ j. is_one_of structure j ≡ true) (sym p) refl)
      (not_true (is_one_of structure o) (both_right _ (not (is_one_of structure o)) h))
  | inr (e, p) ↦ e
]

pub end_no_phi : (o : ℕ) → is_end o ≡ true → (o == op.PHI) ≡ false
end_no_phi o h = elim (eqb_tells o op.PHI) [
  | inl (e, p) ↦ truth_apart (is_end o) h (subst (λ j. is_end j ≡ false) (sym p) refl)
  | inr (e, p) ↦ e
]

no_phis_but_last : (j : Bool) (steps : List (List ℕ)) (last : List ℕ) → NoPhis (steps ++ last ∷ []) → NoPhis (steps ++ cond j [] (last ∷ []))
no_phis_but_last true [] last h = tt
no_phis_but_last false [] last h = h
no_phis_but_last j (words ∷ rest) last h = (h.0, no_phis_but_last j rest last h.1)

module _ (insts : List Instruction) (stays given : ℕ → ℕ) where
  abbrev pub f : Code
  f = blocks_of insts

  -- what the OpPhi of t take from l
  abbrev pub Given : (l t : ℕ) → List ℕ → Type 0
  Given l t values = Take l (phis (text insts t)) values

  -- with the label that stays
  abbrev pub named : Branching → Branching
  named e = (stays e.0, e.1)

  -- the lines of a block in the normal form
  abbrev pub block_text : ℕ → List (List ℕ)
  block_text l = block_lines insts f given (l, stays l)

  -- the OpPhi of each front are listed from these branches as they are in the normal form
  abbrev pub Right : List Branching → Type 0
  Right all = (t : ℕ) → is_label f t ≡ true → is_front f t ≡ true → front_lines all (front_of insts stays t) ≡ label_line t ∷ map (renamed_words given)
      (phis (text insts t))

  -- ---- what is spelled

  -- by the lines of the block l behind its OpPhi, or the last of them
  pub record Grown (l : ℕ) (c : Context) (rest : List (List ℕ)) (body : Body) : Type 0 where
    pub opened : Option Construct
    pub ts : List ℕ
    pub is : construct f l ≡ opened
    pub arranged : Arranged f l c (targets f l) ts
    pub ways : Ways f Given l c ts
    pub parts : Parts f Given l c opened
    pub leaving : map named (exits_of_ways f Given ways ++ exits_of_parts f Given parts) ≡ branches_of_body (stays l) body
    pub steps : List (List ℕ)
    pub last : List ℕ
    pub split : rest ≡ steps ++ last ∷ []
    pub quiet : NoPhis (steps ++ last ∷ [])
    pub listing : (all : List Branching) → Right all →
        lines all [] body ≡ (steps ++ cond (joins_next f l) [] (last ∷ [])) ++ flat_map block_text (of_ways f Given ways ++ of_parts f Given parts)

  -- by the way from l to t
  pub record GrownWay (l : ℕ) (c : Context) (t : ℕ) (body : Body) : Type 0 where
    pub way : Way f Given l c t
    pub leaving : map named (exits_of_way f Given way) ≡ branches_of_body (stays l) body
    pub leads : target body ≡ t
    pub opening : (all : List Branching) (opened : List (List ℕ)) → lines all opened body ≡ opened ++ branch_line t ∷ arm_lines all body
    pub listing : (all : List Branching) → Right all → arm_lines all body ≡ flat_map block_text (of_way f Given way)

  -- by the ways of a switch
  pub record GrownWays (l : ℕ) (c : Context) (ts : List ℕ) (arms : Arms) : Type 0 where
    pub ways : Ways f Given l c ts
    pub leaving : map named (exits_of_ways f Given ways) ≡ branches_of_arms (stays l) arms
    pub first : (t : ℕ) (us : List ℕ) → ts ≡ t ∷ us → first_target arms ≡ t
    pub listing : (all : List Branching) → Right all → lines_of_arms all arms ≡ flat_map block_text (of_ways f Given ways)

  -- by a merge block or continue target
  pub record GrownPart (l : ℕ) (c : Context) (body : Body) : Type 0 where
    pub part : Region f Given l c
    pub leaving : map named (exits f Given part) ≡ branches_of_body l body
    pub listing : (all : List Branching) → Right all
        → front_lines all (front_of insts stays l) ++ lines all [] body ≡ flat_map block_text (of_region f Given part)

  -- by a loop
  pub record GrownLoop (h : ℕ) (c : Context) (entry : Entry) (body : Body) : Type 0 where
    pub part : Region f Given h c
    pub loops : is_loop (construct f h) ≡ true
    pub leaving : (block : ℕ) → entering block h entry ++ map named (exits f Given part) ≡ branches_of_body block body
    pub leads : target body ≡ h
    pub inner : List Branching → List (List ℕ)
    pub begins : (all : List Branching) (opened : List (List ℕ)) → lines all opened body ≡ entry_lines all opened (front_of insts stays h) entry ++ inner all
    pub arm : (all : List Branching) → arm_lines all body ≡ front_lines all (front_of insts stays h) ++ inner all
    pub listing : (all : List Branching) → Right all → front_lines all (front_of insts stays h) ++ inner all ≡ flat_map block_text (of_region f Given part)

  -- by the lines of a header
  pub record GrownHead (h : ℕ) (c : Context) (opening : List ℕ) (rest : List (List ℕ)) (body : Body) : Type 0 where
    pub ts : List ℕ
    pub arranged : Arranged f h c (targets f h) ts
    pub ways : Ways f Given h c ts
    pub leaving : map named (exits_of_ways f Given ways) ≡ branches_of_body (stays h) body
    pub steps : List (List ℕ)
    pub last : List ℕ
    pub split : rest ≡ steps ++ last ∷ []
    pub quiet : NoPhis (steps ++ last ∷ [])
    pub listing : (all : List Branching) → Right all → lines all (opening ∷ []) body ≡ (steps ++ last ∷ []) ++ flat_map block_text (of_ways f Given ways)

  abbrev pub region_of : {l : ℕ} {c : Context} {rest : List (List ℕ)} {body : Body} → Grown l c rest body → Walk f l c → Region f Given l c
  region_of g w = region g.is w g.arranged g.ways g.parts

  -- ---- the lines of a block

  -- OpPhi, instructions, and the terminator unless it only leads to a block that is joined
  spread : (front j : Bool) (ps steps : List (List ℕ)) (last : List ℕ) → NoPhis (steps ++ last ∷ [])
      → map (normal_words given front) ((ps ++ steps) ++ cond j [] (last ∷ [])) ≡ map (normal_words given front) ps ++ (steps ++ cond j [] (last ∷ []))
  spread front j ps steps last quiet =
      ap (map (normal_words given front)) (append_assoc ps steps (cond j [] (last ∷ [])))
      ∙ map-append (normal_words given front) ps (steps ++ cond j [] (last ∷ []))
      ∙ ap (λ z. map (normal_words given front) ps ++ z) (plain_lines given front (steps ++ cond j [] (last ∷ [])) (no_phis_but_last j steps last quiet))

  module _ (is_pointer : ℕ → Bool) (clean : IsClean is_pointer f) where
    spelled_text : (l : ℕ) (c : Context) (ps steps : List (List ℕ)) (last : List ℕ) → Walk f l c → text insts l ≡ ps ++ (steps ++ last ∷ [])
        → NoPhis (steps ++ last ∷ [])
        → block_text l ≡ cond (l == stays l) (label_line l ∷ []) [] ++
        (map (normal_words given (is_front f l)) ps ++ (steps ++ cond (joins_next f l) [] (last ∷ [])))
    spelled_text l c ps steps last w e quiet =
        let i = walked is_pointer f clean l c w in
        block_is given insts l i.block_of i.at i.settled_there.ends (stays l) (ps ++ steps) last (e ∙ sym (append_assoc ps steps (last ∷ [])))
        ∙ ap (λ z. cond (l == stays l) (label_line l ∷ []) [] ++ z) (spread (is_front f l) (joins_next f l) ps steps last quiet)

    -- the block of a region that its lines behind its OpPhi spell
    grown_text : (l : ℕ) (c : Context) (body : Body) (front own : Bool) (g : Grown l c (behind_phis (text insts l)) body) → Walk f l c → is_front f l ≡ front
        → (l == stays l) ≡ own
        → block_text l ≡ cond own (label_line l ∷ []) [] ++
        (map (normal_words given front) (phis (text insts l)) ++ (g.steps ++ cond (joins_next f l) [] (g.last ∷ [])))
    grown_text l c body front own g w i o =
        spelled_text l c (phis (text insts l)) g.steps g.last w (sym (in_front_and_behind (text insts l)) ∙ ap (λ z. phis (text insts l) ++ z) g.split) g.quiet
        ∙ ap₂ (λ a b. cond a (label_line l ∷ []) [] ++
        (map (normal_words given b) (phis (text insts l)) ++ (g.steps ++ cond (joins_next f l) [] (g.last ∷ [])))) o i

    -- a front
    pub front_whole : (l : ℕ) (c : Context) (body : Body) (g : Grown l c (behind_phis (text insts l)) body) (w : Walk f l c) → is_label f l ≡ true
        → is_front f l ≡ true → stays l ≡ l
        → (all : List Branching) → Right all → front_lines all (front_of insts stays l) ++ lines all [] body ≡ flat_map block_text
        (of_region f Given (region_of g w))
    front_whole l c body g w label i own all right =
        let rest : List (List ℕ) = flat_map block_text (of_ways f Given g.ways ++ of_parts f Given g.parts) in
        let kept : List (List ℕ) = g.steps ++ cond (joins_next f l) [] (g.last ∷ []) in
        let ps : List (List ℕ) = phis (text insts l) in
        ap₂ (λ x y. x ++ y) (right l label i) (g.listing all right)
        ∙ ap (λ z. label_line l ∷ z) (sym (append_assoc (map (renamed_words given) ps) kept rest))
        ∙ ap (λ z. (label_line l ∷ (z ++ kept)) ++ rest) (sym (renamed_lines given ps (phis_are (text insts l))))
        ∙ ap (λ z. z ++ rest) (sym (grown_text l c body true true g w i (true_equal l (stays l) (sym own))))

    -- a block that keeps its label
    pub own_whole : (l : ℕ) (c : Context) (body : Body) (g : Grown l c (behind_phis (text insts l)) body) (w : Walk f l c) → is_front f l ≡ false → stays l ≡ l
        → (all : List Branching) → Right all → label_line l ∷ lines all [] (copies (phis (text insts l)) body) ≡ flat_map block_text
        (of_region f Given (region_of g w))
    own_whole l c body g w i own all right =
        let rest : List (List ℕ) = flat_map block_text (of_ways f Given g.ways ++ of_parts f Given g.parts) in
        let kept : List (List ℕ) = g.steps ++ cond (joins_next f l) [] (g.last ∷ []) in
        let ps : List (List ℕ) = phis (text insts l) in
        ap (λ z. label_line l ∷ z) (copies_lines all ps body ∙ ap (λ z. map copy_of ps ++ z) (g.listing all right) ∙ sym
        (append_assoc (map copy_of ps) kept rest))
        ∙ ap (λ z. (label_line l ∷ (z ++ kept)) ++ rest) (sym (copied_lines given ps (phis_are (text insts l))))
        ∙ ap (λ z. z ++ rest) (sym (grown_text l c body false true g w i (true_equal l (stays l) (sym own))))

    -- a block that is joined
    pub joined_whole : (l : ℕ) (c : Context) (body : Body) (g : Grown l c (behind_phis (text insts l)) body) (w : Walk f l c) → is_front f l ≡ false
        → (l == stays l) ≡ false
        → (all : List Branching) → Right all → lines all [] (copies (phis (text insts l)) body) ≡ flat_map block_text (of_region f Given (region_of g w))
    joined_whole l c body g w i other all right =
        let rest : List (List ℕ) = flat_map block_text (of_ways f Given g.ways ++ of_parts f Given g.parts) in
        let kept : List (List ℕ) = g.steps ++ cond (joins_next f l) [] (g.last ∷ []) in
        let ps : List (List ℕ) = phis (text insts l) in
        copies_lines all ps body ∙ ap (λ z. map copy_of ps ++ z) (g.listing all right) ∙ sym (append_assoc (map copy_of ps) kept rest)
        ∙ ap (λ z. (z ++ kept) ++ rest) (sym (copied_lines given ps (phis_are (text insts l))))
        ∙ ap (λ z. z ++ rest) (sym (grown_text l c body false false g w i other))

    -- the first block, which has no OpPhi
    pub first_whole : (l : ℕ) (c : Context) (body : Body) (g : Grown l c (text insts l) body) (w : Walk f l c) → stays l ≡ l
        → (all : List Branching) → Right all → label_line l ∷ lines all [] body ≡ flat_map block_text (of_region f Given (region_of g w))
    first_whole l c body g w own all right =
        let rest : List (List ℕ) = flat_map block_text (of_ways f Given g.ways ++ of_parts f Given g.parts) in
        let kept : List (List ℕ) = g.steps ++ cond (joins_next f l) [] (g.last ∷ []) in
        ap (λ z. label_line l ∷ z) (g.listing all right)
        ∙ ap (λ z. (z ++ kept) ++ rest) (sym (ap (λ b. cond b (label_line l ∷ []) []) (true_equal l (stays l) (sym own))))
        ∙ ap (λ z. z ++ rest) (sym (spelled_text l c [] g.steps g.last w g.split g.quiet))
