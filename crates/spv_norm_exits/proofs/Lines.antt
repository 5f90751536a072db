-- What a test passes among the lines that a tree is listed in is what it passes at the blocks that spell the tree.
use Rattle.std.proofs.Common.{◌≡◌, ℕ, suc, zero, ◌+◌, ◌≤◌, Bool, true, false, cond, not, ◌&&◌, ◌||◌, ◌==◌, List, [], ◌∷◌, ◌++◌, map, slice_get, Some, refl, sym, ap, ap₂, ◌∙◌, arith}
use Rattle.std.specs.Prelude.{count_by}
use Rattle.std.specs.List.{flat_map, list_any}
use Rattle.spv_module.specs.Instruction.{Instruction}
use Rattle.spv_module.specs.Layout.{is_terminator}
use Rattle.spv_blocks.specs.Blocks.{Code, End, Open, is_label, targets, times}
use Rattle.spv_blocks.specs.Cutting.{blocks_of}
use Rattle.spv_walk.specs.Walk.{end_of}
use Rattle.spv_walk.proofs.Unique.{both_right, true_equal}
use Rattle.spv_bodies.specs.Bodies.{Function}
use Rattle.spv_bodies.specs.Listing.{branches as branches_of_body, label_line, lines}
use Rattle.spv_normal.specs.Lines.{behind_label, line}
use Rattle.spv_normal.specs.Normal.{block_lines, joins_next}
use Rattle.spv_normal.specs.Order.{is_front, joins, ordered}
use Rattle.spv_spelling.specs.Clean.{no_pointers}
use Rattle.spv_spelling.specs.Spelling.{SpellsFunction}
use Rattle.spv_spelling.specs.Whole.{IsAdmitted}
use Rattle.spv_spelling.proofs.Settled.{settled}
use Rattle.spv_normal_trees.specs.Laws.{stays_by}
use Rattle.spv_normal_trees.proofs.Arranging.{labelled}
use Rattle.spv_normal_trees.proofs.Listed.{lines_are, stands_once}
use Rattle.spv_normal_trees.proofs.NormalBlocks.{block_is, normal_words}
use Rattle.spv_normal_trees.proofs.Texts.{IsClosed, NoneCloses, closed_block, end_is, line_end, text_is}
use Rattle.spv_norm_exits.proofs.Counts.{counted, one_if, tally, tally_alike, tally_both, tally_less, tally_mapped}
use Rattle.spv_norm_exits.proofs.Labels.{over_labels}
use Rattle.spv_norm_exits.proofs.Marks.{IsOfMarks, labels, no_label_line, of_ends, of_labels, terminator_no_label}

-- ---- lists

flat_mapped : {A B C : Type 0} (g : B → List C) (h : A → B) (xs : List A) → flat_map g (map h xs) ≡ flat_map (λ x. g (h x)) xs
flat_mapped g h [] = refl
flat_mapped g h (x ∷ xs) = ap (λ z. g (h x) ++ z) (flat_mapped g h xs)

-- where each member makes lines among which one passes, or none
flat_tally : (D : List ℕ → Bool) (g : ℕ → List (List ℕ)) (p : ℕ → Bool) (ls : List ℕ)
    → ((k l : ℕ) → slice_get ls k ≡ Some l → tally D (g l) ≡ one_if (p l)) → tally D (flat_map g ls) ≡ tally p ls
flat_tally D g p [] h = refl
flat_tally D g p (l ∷ ls) h =
    tally_both D (g l) (flat_map g ls) ∙ ap₂ (λ m n. m + n) (h 0 l refl) (flat_tally D g p ls (λ k x e. h (suc k) x e))

member_times : (ls : List ℕ) (k l : ℕ) → slice_get ls k ≡ Some l → 1 ≤ times ls l
member_times [] k l e = absurd (cc e)
member_times (x ∷ xs) zero l e = by (x == l) (true_equal x l (let same : x ≡ l = cc e in same))
  where
    by : (b : Bool) → b ≡ true → 1 ≤ cond b (times xs l + 1) (times xs l)
    by true t = omega arith
    by false t = absurd (cc t)
member_times (x ∷ xs) (suc k) l e = by (x == l) (member_times xs k l e)
  where
    by : (b : Bool) → 1 ≤ times xs l → 1 ≤ cond b (times xs l + 1) (times xs l)
    by true more = omega arith
    by false more = more

-- ---- the lines of a tree

abbrev pub tree_lines : Function → List (List ℕ)
tree_lines tree = label_line tree.label ∷ lines (branches_of_body tree.label tree.body) [] tree.body

inner_tally : (D : List ℕ → Bool) → IsOfMarks D → (xs : List Instruction) → NoneCloses xs → tally D (map line xs) ≡ 0
inner_tally D is [] h = refl
inner_tally D is (x ∷ xs) h =
    let more = inner_tally D is xs h.1 in
    let here = ap one_if (is.inner x h.0) in
    omega (arith, more, here)

two_parts : (D : List ℕ → Bool) (own joined : Bool) (label last : List ℕ)
    → tally D (cond own (label ∷ []) []) + (0 + tally D (cond joined [] (last ∷ []))) ≡ one_if (own && D label) + one_if (not joined && D last)
two_parts D true true label last = omega arith
two_parts D true false label last = omega arith
two_parts D false true label last = omega arith
two_parts D false false label last = omega arith

module _ (insts : List Instruction) (stays : ℕ → ℕ) (tree : Function) (admitted : IsAdmitted insts) (spells : SpellsFunction insts stays tree) where
  abbrev pub f : Code
  f = blocks_of insts

  abbrev block_text : ℕ → List (List ℕ)
  block_text l = block_lines insts f (stays_by f) (l, stays l)

  -- the terminator of a block, and what passes among the lines of the block
  record IsTold (D : List ℕ → Bool) (l : ℕ) : Type 0 where
    last : Instruction
    terminates : is_terminator last ≡ true
    end : end_of f l ≡ line_end (line last)
    same : tally D (block_text l) ≡ one_if ((l == stays l) && D (label_line l)) + one_if (not (joins_next f l) && D (line last))

  told : (D : List ℕ → Bool) → IsOfMarks D → (l : ℕ) → is_label f l ≡ true → IsTold D l
  told D is l label =
      let at = labelled f l label in
      let w = admitted.clean.walked l at.0 at.1 in
      let ends = (settled no_pointers f admitted.clean l w.0 at.0 w.1 at.1).ends in
      let c : IsClosed (behind_label insts l) = closed_block insts l at.0 at.1 ends in
      let text = text_is insts l at.0 at.1 ends in
      let given : ℕ → ℕ = stays_by f in
      let front : Bool = is_front f l in
      let j : Bool = joins_next f l in
      record {
        last = c.last;
        terminates = c.terminates;
        end = end_is insts l at.0 at.1 ends (map line c.inner) (line c.last) text;
        same =
            ap (tally D) (block_is given insts l at.0 at.1 ends (stays l) (map line c.inner) (line c.last) text)
            ∙ tally_both D (cond (l == stays l) (label_line l ∷ []) []) (map (normal_words given front) (map line c.inner ++ cond j [] (line c.last ∷ [])))
            ∙ ap (λ n. tally D (cond (l == stays l) (label_line l ∷ []) []) + n)
            (tally_mapped D (normal_words given front) (map line c.inner ++ cond j [] (line c.last ∷ []))
            ∙ tally_alike (λ w. D (normal_words given front w)) D (map line c.inner ++ cond j [] (line c.last ∷ [])) (λ k w e. is.phis given front w)
            ∙ tally_both D (map line c.inner) (cond j [] (line c.last ∷ []))
            ∙ ap (λ n. n + tally D (cond j [] (line c.last ∷ []))) (inner_tally D is c.inner c.none))
            ∙ two_parts D (l == stays l) j (label_line l) (line c.last);
      }

  -- what stands in the order is a label
  order_label : (k l : ℕ) → slice_get (ordered f) k ≡ Some l → is_label f l ≡ true
  order_label k l e = by (is_label f l) refl
    where
      by : (b : Bool) → is_label f l ≡ b → b ≡ true
      by true h = refl
      by false h =
          let once = stands_once insts stays tree admitted spells l in
          let some = member_times (ordered f) k l e in
          let none = ap one_if h in
          absurd (omega (arith, once, some, none))

  lines_by_blocks : (D : List ℕ → Bool) (p : ℕ → Bool) → ((l : ℕ) → is_label f l ≡ true → tally D (block_text l) ≡ one_if (p l))
      → tally D (tree_lines tree) ≡ tally p (ordered f)
  lines_by_blocks D p h =
      ap (tally D) (lines_are insts stays tree admitted spells ∙ flat_mapped (block_lines insts f (stays_by f)) (λ l. (l, stays l)) (ordered f))
      ∙ flat_tally D block_text p (ordered f) (λ k l e. h l (order_label k l e))

  -- ends of blocks that are not joined with the next
  pub ends_tally : (T : End → Bool) → T Open ≡ false
      → tally (λ w. T (line_end w)) (tree_lines tree) ≡ tally (λ l. not (joins_next f l) && T (end_of f l)) (ordered f)
  ends_tally T none =
      lines_by_blocks (λ w. T (line_end w)) (λ l. not (joins_next f l) && T (end_of f l)) (λ l label.
      let t = told (λ w. T (line_end w)) (of_ends T none) l label in
      let own = ap one_if (nothing (l == stays l) (T (line_end (label_line l))) none) in
      let last = ap (λ e. one_if (not (joins_next f l) && T e)) t.end in
      let same = t.same in
      omega (arith, own, last, same))
    where
      nothing : (a b : Bool) → b ≡ false → (a && b) ≡ false
      nothing true b h = h
      nothing false b h = refl

  -- labels that stay
  pub labels_tally : (t : ℕ) → tally (labels t) (tree_lines tree) ≡ tally (λ l. (l == stays l) && (l == t)) (ordered f)
  labels_tally t =
      lines_by_blocks (labels t) (λ l. (l == stays l) && (l == t)) (λ l label.
      let r = told (labels t) (of_labels t) l label in
      let last = ap one_if (nothing (not (joins_next f l)) (labels t (line r.last)) (no_label_line t r.last (terminator_no_label r.last r.terminates))) in
      let same = r.same in
      omega (arith, last, same))
    where
      nothing : (a b : Bool) → b ≡ false → (a && b) ≡ false
      nothing true b h = h
      nothing false b h = refl

  -- ---- counts over blocks

  -- over the order of the constructs
  pub by_order : (p : ℕ → End → Bool) → count_by (λ b. p b.label b.end) f ≡ tally (λ l. p l (end_of f l)) (ordered f)
  by_order p = counted (λ b. p b.label b.end) f ∙ over_labels f admitted.own (ordered f) (stands_once insts stays tree admitted spells) p

  -- what passes among the lines passes at a block
  pub lines_less : (T : End → Bool) → T Open ≡ false → tally (λ w. T (line_end w)) (tree_lines tree) ≤ count_by (λ b. T b.end) f
  lines_less T none =
      let a = ends_tally T none in
      let b = by_order (λ l e. T e) in
      let less = tally_less (λ l. not (joins_next f l) && T (end_of f l)) (λ l. T (end_of f l)) (ordered f)
      (λ l h. both_right (not (joins_next f l)) (T (end_of f l)) h) in
      omega (arith, a, b, less)

  some_joins : (l : ℕ) (ts : List ℕ) → list_any (joins f l) ts ≡ true → (u : ℕ) × (joins f l u ≡ true)
  some_joins l [] h = absurd (cc h)
  some_joins l (t ∷ ts) h = by (joins f l t) refl h (some_joins l ts)
    where
      by : (b : Bool) → joins f l t ≡ b → (b || list_any (joins f l) ts) ≡ true → (list_any (joins f l) ts ≡ true → (u : ℕ) × (joins f l u ≡ true))
          → (u : ℕ) × (joins f l u ≡ true)
      by true e h more = (t, e)
      by false e h more = more h

  -- and the other way round, where no end that is joined with the next passes
  pub lines_equal : (T : End → Bool) → T Open ≡ false → ((l u : ℕ) → joins f l u ≡ true → T (end_of f l) ≡ false)
      → count_by (λ b. T b.end) f ≡ tally (λ w. T (line_end w)) (tree_lines tree)
  lines_equal T none apart =
      by_order (λ l e. T e)
      ∙ tally_alike (λ l. T (end_of f l)) (λ l. not (joins_next f l) && T (end_of f l)) (ordered f) (λ k l e. by l (joins_next f l) refl)
      ∙ sym (ends_tally T none)
    where
      by : (l : ℕ) (b : Bool) → joins_next f l ≡ b → T (end_of f l) ≡ (not b && T (end_of f l))
      by l true h = let j = some_joins l (targets f l) h in apart l j.0 j.1
      by l false h = refl
