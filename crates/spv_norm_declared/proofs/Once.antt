-- No id is defined more often in the normal form than in the module: each block stands once in the order, and each line is made of one instruction.
use Rattle.std.proofs.Common.{◌≡◌, inl, inr, ℕ, zero, suc, ◌+◌, ◌<◌, ◌≤◌, ◌^◌, Bool, true, false, cond, not, nat_eq, ◌&&◌, ◌||◌, ◌==◌, List, [], ◌∷◌, ◌++◌, length, map, take, Option, Some, None, refl, sym, ap, subst, ◌∙◌, arith, append_assoc}
use Rattle.std.specs.List.{AllByRecursion, count_by, filter, flat_map, list_any, range_with_len, slice_get, slice_index}
use Rattle.std.specs.Option.{option_map_or}
use Rattle.std.proofs.lemmas.List.Folds.{list_any-append}
use Rattle.spv_opcodes.specs.declared.op.TheConstants as op
use Rattle.spv_grammar.specs.Roles.{is_defined_id}
use Rattle.spv_module.specs.Code.{code_of, is_function, is_line}
use Rattle.spv_module.specs.Instruction.{Instruction, opcode, word_with}
use Rattle.spv_module.specs.Layout.{is_terminator}
use Rattle.spv_ids.specs.Ids.{defines, is_defined, used_ids}
use Rattle.spv_typing.specs.Kinds.{is_one_of}
use Rattle.spv_blocks.specs.Blocks.{block, has, is_label, is_some_block, times}
use Rattle.spv_blocks.specs.Blocks as blocks
use Rattle.spv_blocks.specs.Cutting.{block_of, blocks_of, closes, function_insts, is_function_end, is_label_mark, word}
use Rattle.spv_walk.proofs.Unique.{equal_true, left_holds, right_holds, tells, true_equal}
use Rattle.spv_bodies.specs.Bodies.{Function}
use Rattle.spv_bodies.specs.Listing.{instruction, label_line}
use Rattle.spv_normal.specs.Lines.{before_labels, behind_label, block_insts, line, up_to_terminator, without_marks}
use Rattle.spv_normal.specs.Normal.{block_lines, joins_next, kept, normal_function, normal_line, renamed}
use Rattle.spv_normal.specs.Order.{is_front, label_behind, ordered, with_labels}
use Rattle.spv_tree.specs.declared.body.Body.{Body}
use Rattle.spv_tree.specs.Tree.{body_of, words_of}
use Rattle.spv_spelling.specs.Clean.{no_pointers}
use Rattle.spv_spelling.specs.Spelling.{SpellsFunction}
use Rattle.spv_spelling.specs.Whole.{IsAdmitted}
use Rattle.spv_spelling.proofs.Settled.{settled}
use Rattle.spv_texts.specs.Laws.{DefinesOnce}
use Rattle.spv_texts.proofs.Functions.{fits_in_module, marks_front}
use Rattle.spv_normal_trees.specs.Laws.{stays_by}
use Rattle.spv_normal_trees.proofs.Arranging.{labelled}
use Rattle.spv_normal_trees.proofs.Listed.{stands_once}
use Rattle.spv_normal_trees.proofs.Members.{Distinct}
use Rattle.spv_normal_trees.proofs.Texts.{NoneCloses, closed_block}
use Rattle.spv_sound_trees.proofs.Marks.{times_distinct}
use Rattle.spv_norm.specs.Norm.{function_lines, is_gone, namings, norm_lines, outside, stays_outside, staying}
use Rattle.spv_norm_means.proofs.InOrder.{functions_are, functions_in, joined, module_is_cut}
use Rattle.spv_norm_declared.specs.Laws.{IsWhole, NormDefinesOnce}
use Rattle.spv_norm_declared.proofs.Instructions.{Are, IsUnbroken}
use Rattle.spv_norm_declared.proofs.MadeLines.{label_words, renamed_fine}
use Rattle.spv_norm_declared.proofs.PhiPairs.{HasPair}
use Rattle.spv_norm_declared.proofs.FunctionLines.{all_before, all_behind, all_kept, all_of_function, all_pairs, all_up_to, order_labels, pairs_of, stays_in}
use Rattle.spv_norm_declared.proofs.CutAgain.{IsRead, group_2_none, is_read}
use Rattle.spv_norm_declared.proofs.Whole.{tree}
use Rattle.spv_norm_declared.proofs.Definitions.{defines_by}
use Rattle.spv_norm_declared.proofs.Definers.{defined_not_before, low_enough}
use Rattle.spv_norm_declared.proofs.Covered.{end_line_defines_nothing, line_same, normal_same}

-- ---- how often a test passes

abbrev pub tally : {A : Type 0} → (A → Bool) → List A → ℕ
tally p [] = 0
tally p (x ∷ xs) = cond (p x) (tally p xs + 1) (tally p xs)

abbrev one_if : Bool → ℕ
one_if b = cond b 1 0

tally_cons : {A : Type 0} (p : A → Bool) (x : A) (xs : List A) → tally p (x ∷ xs) ≡ one_if (p x) + tally p xs
tally_cons p x xs = by (p x)
  where
    by : (b : Bool) → cond b (tally p xs + 1) (tally p xs) ≡ one_if b + tally p xs
    by true = omega arith
    by false = omega arith

tally_both : {A : Type 0} (p : A → Bool) (xs ys : List A) → tally p (xs ++ ys) ≡ tally p xs + tally p ys
tally_both p [] ys = omega arith
tally_both p (x ∷ xs) ys =
    let more = tally_both p xs ys in
    let a = tally_cons p x (xs ++ ys) in
    let b = tally_cons p x xs in
    omega (arith, more, a, b)

-- ---- sums over distinct numbers

abbrev sum_of : (ℕ → ℕ) → List ℕ → ℕ
sum_of g [] = 0
sum_of g (l ∷ ls) = g l + sum_of g ls

abbrev without : ℕ → List ℕ → List ℕ
without x ls = filter (λ l. not (l == x)) ls

sum_kept : (g h : ℕ → ℕ) (x : ℕ) → ((l : ℕ) → (l == x) ≡ false → g l ≤ h l) → (ls : List ℕ) → has ls x ≡ false → sum_of g ls ≤ sum_of h (without x ls)
sum_kept g h x each [] none = omega arith
sum_kept g h x each (l ∷ ls) none = by (l == x) refl none (sum_kept g h x each ls)
  where
    by : (b : Bool) → (l == x) ≡ b → (b || has ls x) ≡ false → (has ls x ≡ false → sum_of g ls ≤ sum_of h (without x ls))
        → g l + sum_of g ls ≤ sum_of h (cond (not b) (l ∷ without x ls) (without x ls))
    by true e none more = absurd (cc none)
    by false e none more =
        let here = each l e in
        let later = more none in
        omega (arith, here, later)

-- a number that stands once, aside
sum_apart : (g h : ℕ → ℕ) (x a : ℕ) → g x ≤ a → ((l : ℕ) → (l == x) ≡ false → g l ≤ h l) → (ls : List ℕ) → Distinct ls
    → sum_of g ls ≤ a + sum_of h (without x ls)
sum_apart g h x a most each [] d = omega arith
sum_apart g h x a most each (l ∷ ls) d = by (l == x) refl (sum_apart g h x a most each ls d.1)
  where
    by : (b : Bool) → (l == x) ≡ b → sum_of g ls ≤ a + sum_of h (without x ls)
        → g l + sum_of g ls ≤ a + sum_of h (cond (not b) (l ∷ without x ls) (without x ls))
    by true e more =
        let same = equal_true l x e in
        let kept = sum_kept g h x each ls (subst (λ k. has ls k ≡ false) same d.0) in
        let here : g l ≤ a = subst (λ k. g k ≤ a) (sym same) most in
        omega (arith, kept, here)
    by false e more =
        let here = each l e in
        omega (arith, here, more)

both_false : (a b : Bool) → (a || b) ≡ false → (a ≡ false) × (b ≡ false)
both_false true b h = absurd (cc h)
both_false false b h = (refl, h)

has_fewer : (x : ℕ) (ls : List ℕ) (z : ℕ) → has ls z ≡ false → has (without x ls) z ≡ false
has_fewer x [] z h = refl
has_fewer x (l ∷ ls) z h = by (l == x) (both_false (l == z) (has ls z) h).0 (has_fewer x ls z (both_false (l == z) (has ls z) h).1)
  where
    by : (b : Bool) → (l == z) ≡ false → has (without x ls) z ≡ false → has (cond (not b) (l ∷ without x ls) (without x ls)) z ≡ false
    by true e more = more
    by false e more = ap (λ (c : Bool). c || has (without x ls) z) e ∙ more

distinct_fewer : (x : ℕ) (ls : List ℕ) → Distinct ls → Distinct (without x ls)
distinct_fewer x [] d = tt
distinct_fewer x (l ∷ ls) d = by (l == x) (distinct_fewer x ls d.1)
  where
    by : (b : Bool) → Distinct (without x ls) → Distinct (cond (not b) (l ∷ without x ls) (without x ls))
    by true more = more
    by false more = (has_fewer x ls l d.0, more)

-- ---- blocks of a function

-- what does not close a block is no OpLabel
no_label : (x : Instruction) → closes x ≡ false → is_label_mark x ≡ false
no_label x h = middle (is_terminator x) (is_label_mark x) (is_function_end x) h
  where
    middle : (a b c : Bool) → (a || b || c) ≡ false → b ≡ false
    middle true b c h = absurd (cc h)
    middle false true c h = absurd (cc h)
    middle false false c h = refl

module _ (p : Instruction → Bool) where
  -- the passes of the OpLabel of a label and of what stands behind it, up to the next OpLabel; 0 where there is none
  abbrev part : List Instruction → ℕ → ℕ
  part [] l = 0
  part (i ∷ is) l = cond (cond (is_label_mark i) (word i 1 == l) false) (one_if (p i) + tally p (before_labels is)) (part is l)

  -- by induction on the instructions: the parts of distinct labels, and what stands before the first label
  parts_within : (is : List Instruction) (ls : List ℕ) → Distinct ls → tally p (before_labels is) + sum_of (part is) ls ≤ tally p is
  parts_within [] ls d = none ls
    where
      none : (ls : List ℕ) → 0 + sum_of (λ l. 0) ls ≤ 0
      none [] = omega arith
      none (l ∷ ls) = let more = none ls in omega (arith, more)
  parts_within (i ∷ is) ls d = by (is_label_mark i) (parts_within is ls d) (parts_within is (without (word i 1) ls) (distinct_fewer (word i 1) ls d))
    where
      here : (l : ℕ) → (l == word i 1) ≡ false → cond (word i 1 == l) (one_if (p i) + tally p (before_labels is)) (part is l) ≤ part is l
      here l e = other (word i 1 == l) (turned l (word i 1) e)
        where
          turned : (a b : ℕ) → (a == b) ≡ false → (b == a) ≡ false
          turned a b h = elim (tells (b == a)) [
            | inl g ↦ absurd (cc (h, true_equal a b (sym (equal_true b a g))))
            | inr g ↦ g
          ]

          other : (b : Bool) → b ≡ false → cond b (one_if (p i) + tally p (before_labels is)) (part is l) ≤ part is l
          other true h = absurd (cc h)
          other false h = omega arith

      own : cond (word i 1 == word i 1) (one_if (p i) + tally p (before_labels is)) (part is (word i 1)) ≤ one_if (p i) + tally p (before_labels is)
      own = same (word i 1 == word i 1) (true_equal (word i 1) (word i 1) refl)
        where
          same : (b : Bool) → b ≡ true → cond b (one_if (p i) + tally p (before_labels is)) (part is (word i 1)) ≤ one_if (p i) + tally p (before_labels is)
          same true h = omega arith
          same false h = absurd (cc h)

      by : (m : Bool) → tally p (before_labels is) + sum_of (part is) ls ≤ tally p is
          → tally p (before_labels is) + sum_of (part is) (without (word i 1) ls) ≤ tally p is
          → tally p (cond m [] (i ∷ before_labels is))
          + sum_of (λ l. cond (cond m (word i 1 == l) false) (one_if (p i) + tally p (before_labels is)) (part is l)) ls
          ≤ tally p (i ∷ is)
      by true all fewer =
          let g : ℕ → ℕ = λ l. cond (word i 1 == l) (one_if (p i) + tally p (before_labels is)) (part is l) in
          let most = sum_apart g (part is) (word i 1) (one_if (p i) + tally p (before_labels is)) own here ls d in
          let cons = tally_cons p i is in
          omega (arith, most, fewer, cons)
      by false all fewer =
          let a = tally_cons p i (before_labels is) in
          let b = tally_cons p i is in
          omega (arith, all, a, b)

  -- a block that is closed ends before the next label
  up_to_within : (is inner : List Instruction) (last : Instruction) → up_to_terminator is ≡ inner ++ last ∷ [] → NoneCloses inner → is_terminator last ≡ true
      → tally p (up_to_terminator is) ≤ tally p (before_labels is)
  up_to_within [] inner last e none ends = omega arith
  up_to_within (i ∷ is) inner last e none ends = by (is_terminator i) refl (is_label_mark i) refl e (up_to_within is)
    where
      ended : (t m : Bool) → is_terminator i ≡ t → is_label_mark i ≡ m → t ≡ true → m ≡ true → ⊥
      ended t m a b c d =
          let label = equal_true (opcode i) op.LABEL (b ∙ d) in
          let none : is_terminator i ≡ false =
          ap (λ o. o == op.BRANCH || o == op.BRANCH_CONDITIONAL || o == op.SWITCH || o == op.RETURN || o == op.RETURN_VALUE || o == op.UNREACHABLE) label in
          absurd (cc (none, a, c))

      on : (xs : List Instruction) → i ∷ up_to_terminator is ≡ xs ++ last ∷ [] → NoneCloses xs → is_terminator i ≡ false
          → ((ys : List Instruction) (z : Instruction) → up_to_terminator is ≡ ys ++ z ∷ [] → NoneCloses ys → is_terminator z ≡ true
          → tally p (up_to_terminator is) ≤ tally p (before_labels is))
          → (is_label_mark i ≡ false) × (tally p (up_to_terminator is) ≤ tally p (before_labels is))
      on [] g n t more =
          let same : i ≡ last = cc g in
          absurd (cc (sym t ∙ ap is_terminator same ∙ ends))
      on (x ∷ xs) g n t more =
          let same : i ≡ x = cc g in
          let rest : up_to_terminator is ≡ xs ++ last ∷ [] = cc g in
          (ap is_label_mark same ∙ no_label x n.0, more xs last rest n.1 ends)

      by : (t : Bool) → is_terminator i ≡ t → (m : Bool) → is_label_mark i ≡ m → cond t (i ∷ []) (i ∷ up_to_terminator is) ≡ inner ++ last ∷ []
          → ((ys : List Instruction) (z : Instruction) → up_to_terminator is ≡ ys ++ z ∷ [] → NoneCloses ys → is_terminator z ≡ true
          → tally p (up_to_terminator is) ≤ tally p (before_labels is))
          → tally p (cond t (i ∷ []) (i ∷ up_to_terminator is)) ≤ tally p (cond m [] (i ∷ before_labels is))
      by true a true b g more = absurd (ended true true a b refl refl)
      by true a false b g more =
          let x = tally_cons p i [] in
          let y = tally_cons p i (before_labels is) in
          omega (arith, x, y)
      by false a true b g more = let q = on inner g none a more in absurd (cc (b, q.0))
      by false a false b g more =
          let q = on inner g none a more in
          let x = tally_cons p i (up_to_terminator is) in
          let y = tally_cons p i (before_labels is) in
          let less = q.1 in
          omega (arith, x, y, less)

  -- the part of a label is that of its OpLabel
  pub part_of : (P : Instruction → Type 0) (is : List Instruction) (l : ℕ) → AllByRecursion P is → is_label (blocks_of is) l ≡ true
      → (i : Instruction) × P i × (is_label_mark i ≡ true) × (word i 1 ≡ l) × (part is l ≡ one_if (p i) + tally p (before_labels (behind_label is l)))
  part_of P [] l h e = absurd (cc e)
  part_of P (i ∷ is) l h e = by (is_label_mark i) (word i 1 == l) refl refl e (part_of P is l h.1)
    where
      by : (mark same : Bool) → is_label_mark i ≡ mark → (word i 1 == l) ≡ same
          → is_some_block (block (cond mark (block_of i is ∷ blocks_of is) (blocks_of is)) l) ≡ true
          → (is_label (blocks_of is) l ≡ true → (i : Instruction) × P i × (is_label_mark i ≡ true) × (word i 1 ≡ l)
          × (part is l ≡ one_if (p i) + tally p (before_labels (behind_label is l))))
          → (j : Instruction) × P j × (is_label_mark j ≡ true) × (word j 1 ≡ l)
          × (cond (cond mark same false) (one_if (p i) + tally p (before_labels is)) (part is l)
          ≡ one_if (p j) + tally p (before_labels (cond (cond mark same false) is (behind_label is l))))
      by true true m s e more = (i, h.0, m, equal_true (word i 1) l s, refl)
      by true false m s e more = more (sym (ap (λ (b : Bool). is_some_block (cond b (Some (block_of i is)) (block (blocks_of is) l))) s) ∙ e)
      by false same m s e more = more e

-- ---- lines

kept_less : (p : Instruction → Bool) (joined : Bool) (is : List Instruction) → tally p (kept joined is) ≤ tally p is
kept_less p joined [] = omega arith
kept_less p joined (i ∷ is) = by (cond joined (is_terminator i) false) (kept_less p joined is)
  where
    by : (b : Bool) → tally p (kept joined is) ≤ tally p is → tally p (cond b [] (i ∷ kept joined is)) ≤ tally p (i ∷ is)
    by true more = omega arith
    by false more =
        let a = tally_cons p i (kept joined is) in
        let b = tally_cons p i is in
        omega (arith, more, a, b)

module _ (bound : ℕ) (low : bound ≤ 2 ^ 32) (id : ℕ) where
  abbrev D : Instruction → Bool
  D i = defines id i

  abbrev D_line : List ℕ → Bool
  D_line w = defines_by id w

  front_tally : (is : List Instruction) → Are bound is → tally D_line (map line is) ≡ tally D is
  front_tally [] h = refl
  front_tally (i ∷ is) h =
      let a = tally_cons D_line (line i) (map line is) in
      let b = tally_cons D i is in
      let more = front_tally is h.1 in
      let same = ap one_if (line_same bound low id i h.0) in
      omega (arith, a, b, more, same)

  module _ (text : List Instruction) (stays : ℕ → ℕ) (tree : Function) (admitted : IsAdmitted (without_marks text))
      (spells : SpellsFunction (without_marks text) stays tree) (are : Are bound (without_marks text)) where
    abbrev is : List Instruction
    is = without_marks text

    abbrev f : blocks.Code
    f = blocks_of is

    abbrev given : ℕ → ℕ
    given = stays_by f

    phis_fine : (i : Instruction) → IsUnbroken bound i.words → opcode i ≡ op.PHI → IsUnbroken bound (renamed given i)
    phis_fine i u e = renamed_fine bound given i (stays_in bound text stays tree admitted spells are) u e

    lines_tally : (front : Bool) (xs : List Instruction) → AllByRecursion (λ i. IsUnbroken bound i.words × (front ≡ false → HasPair i)) xs
        → tally D_line (map (normal_line given front) xs) ≡ tally D xs
    lines_tally front [] h = refl
    lines_tally front (i ∷ xs) h =
        let a = tally_cons D_line (normal_line given front i) (map (normal_line given front) xs) in
        let b = tally_cons D i xs in
        let more = lines_tally front xs h.1 in
        let same = ap one_if (normal_same bound low id given phis_fine front i h.0.0 h.0.1) in
        omega (arith, a, b, more, same)

    own_label : (l h : ℕ) (i : Instruction) → IsUnbroken bound i.words → is_label_mark i ≡ true → word i 1 ≡ l
        → tally D_line (cond (l == h) (label_line l ∷ []) []) ≤ one_if (D i)
    own_label l h i u mark same = by (l == h)
      where
        words : i.words ≡ label_line l
        words = label_words bound i.words u (equal_true (opcode i) op.LABEL mark) ∙ ap label_line same

        by : (b : Bool) → tally D_line (cond b (label_line l ∷ []) []) ≤ one_if (D i)
        by true =
            let a = tally_cons D_line (label_line l) [] in
            let b = ap (λ w. one_if (D_line w)) words in
            omega (arith, a, b)
        by false = omega arith

    block_tally : (l h : ℕ) → is_label f l ≡ true → tally D_line (block_lines is f given (l, h)) ≤ part D is l
    block_tally l h label =
        let m = part_of D (λ i. IsUnbroken bound i.words) is l are label in
        let at = labelled f l label in
        let walk = admitted.clean.walked l at.0 at.1 in
        let s = settled no_pointers f admitted.clean l walk.0 at.0 walk.1 at.1 in
        let shut = closed_block is l at.0 at.1 s.ends in
        let inner = up_to_within D (behind_label is l) shut.inner shut.last shut.whole shut.none shut.terminates in
        let joined : Bool = joins_next f l in
        let front : Bool = is_front f l in
        let block_are = all_up_to (λ i. IsUnbroken bound i.words) (behind_label is l) (all_behind (λ i. IsUnbroken bound i.words) is l are) in
        let each =
        all_kept (λ i. IsUnbroken bound i.words × (front ≡ false → HasPair i)) joined (block_insts is l)
        (all_pairs (λ i. IsUnbroken bound i.words) (λ i. front ≡ false → HasPair i) (block_insts is l) block_are
        (pairs_of is stays tree admitted spells l label front refl)) in
        let lines = lines_tally front (kept joined (block_insts is l)) each in
        let less = kept_less D joined (block_insts is l) in
        let own = own_label l h m.0 m.1 m.2 m.3 in
        let both = tally_both D_line (cond (l == h) (label_line l ∷ []) []) (map (normal_line given front) (kept joined (block_insts is l))) in
        let whole = m.4 in
        omega (arith, inner, lines, less, own, both, whole)

    blocks_tally : (before : Option (ℕ × ℕ)) (ls : List ℕ) → AllByRecursion (λ l. is_label f l ≡ true) ls
        → tally D_line (flat_map (block_lines is f given) (with_labels f before ls)) ≤ sum_of (part D is) ls
    blocks_tally before [] h = omega arith
    blocks_tally before (l ∷ ls) h =
        let stay = label_behind f before l in
        let rest = flat_map (block_lines is f given) (with_labels f (Some (l, stay)) ls) in
        let both = tally_both D_line (block_lines is f given (l, stay)) rest in
        let here = block_tally l stay h.0 in
        let more = blocks_tally (Some (l, stay)) ls h.1 in
        omega (arith, both, here, more)

    in_order_once : Distinct (ordered f)
    in_order_once = times_distinct (ordered f) (λ l. at_most (is_label f l) (times (ordered f) l) (stands_once is stays tree admitted spells l))
      where
        at_most : (b : Bool) (n : ℕ) → n ≡ cond b 1 0 → n ≤ 1
        at_most true n e = omega (arith, e)
        at_most false n e = omega (arith, e)

    pub function_tally : tally D_line (normal_function text) ≤ tally D is
    function_tally =
        let end = instruction op.FUNCTION_END [] ∷ [] in
        let blocks = flat_map (block_lines is f given) (with_labels f None (ordered f)) in
        let one = tally_both D_line (map line (before_labels is)) (blocks ++ end) in
        let two = tally_both D_line blocks end in
        let front = front_tally (before_labels is) (all_before (λ i. IsUnbroken bound i.words) is are) in
        let inner = blocks_tally None (ordered f) (order_labels is stays tree admitted spells) in
        let within = parts_within D is (ordered f) in_order_once in
        let last : tally D_line end ≡ 0 = ap (λ (b : Bool). cond b (0 + 1) 0) (end_line_defines_nothing bound low id) in
        omega (arith, one, two, front, inner, within, last)

  -- ---- modules

  staying_tally : (insts is : List Instruction) → tally D_line (words_of (filter (stays_outside insts) is)) ≤ tally D (without_marks is)
  staying_tally insts [] = omega arith
  staying_tally insts (i ∷ is) = by (is_line i) (not (is_one_of namings (opcode i) && list_any (is_gone insts) (used_ids i))) (staying_tally insts is)
    where
      by : (line stays : Bool) → tally D_line (words_of (filter (stays_outside insts) is)) ≤ tally D (without_marks is)
          → tally D_line (words_of (cond (not line && stays) (i ∷ filter (stays_outside insts) is) (filter (stays_outside insts) is)))
          ≤ tally D (cond (not line) (i ∷ without_marks is) (without_marks is))
      by true stays more = more
      by false true more =
          let a = tally_cons D_line i.words (words_of (filter (stays_outside insts) is)) in
          let b = tally_cons D i (without_marks is) in
          omega (arith, a, b, more)
      by false false more =
          let b = tally_cons D i (without_marks is) in
          omega (arith, b, more)

  functions_tally : (F : ℕ → List Instruction) (G : ℕ → List (List ℕ)) (a n : ℕ) → ((j : ℕ) → j < n
      → tally D_line (G (a + j)) ≤ tally D (without_marks (F (a + j))))
      → tally D_line (flat_map G (range_with_len a n)) ≤ tally D (without_marks (joined (map F (range_with_len a n))))
  functions_tally F G a zero each = omega arith
  functions_tally F G a (suc n) each =
      let rest : List Instruction = joined (map F (range_with_len (a + 1) n)) in
      let here = subst (λ k. tally D_line (G k) ≤ tally D (without_marks (F k))) (at_once a) (each 0 (omega arith)) in
      let later =
      functions_tally F G (a + 1) n (λ j lt. subst (λ k. tally D_line (G k) ≤ tally D (without_marks (F k))) (one_later a j) (each (suc j) (omega arith))) in
      let one = tally_both D_line (G a) (flat_map G (range_with_len (a + 1) n)) in
      let two = ap (tally D) (marks_front (F a) rest) ∙ tally_both D (without_marks (F a)) (without_marks rest) in
      omega (arith, here, later, one, two)
    where
      at_once : (n : ℕ) → n + 0 ≡ n
      at_once n = omega arith

      one_later : (n k : ℕ) → n + suc k ≡ (n + 1) + k
      one_later n k = omega arith

  -- where an id is defined once, one instruction that is no line mark defines it; induction on the instructions
  none_later : (all before is : List Instruction) → DefinesOnce all → all ≡ before ++ is → is_defined before id ≡ true → tally D (without_marks is) ≡ 0
  none_later all before [] once e h = refl
  none_later all before (i ∷ is) once e h =
      by (is_line i) (D i) refl refl (none_later all (before ++ i ∷ []) is once (e
      ∙ sym (append_assoc before (i ∷ []) is)) (list_any-append D before (i ∷ []) ∙ left_holds (is_defined before id) (D i || false) h))
    where
      by : (l d : Bool) → is_line i ≡ l → D i ≡ d → tally D (without_marks is) ≡ 0 → tally D (cond (not l) (i ∷ without_marks is) (without_marks is)) ≡ 0
      by true d el ed more = more
      by false true el ed more = absurd (cc (h, defined_not_before id all before i is once e el ed))
      by false false el ed more = ap (λ (b : Bool). cond b (tally D (without_marks is) + 1) (tally D (without_marks is))) ed ∙ more

  once_tally : (all before is : List Instruction) → DefinesOnce all → all ≡ before ++ is → tally D (without_marks is) ≤ 1
  once_tally all before [] once e = omega arith
  once_tally all before (i ∷ is) once e =
      by (is_line i) (D i) refl refl (once_tally all (before ++ i ∷ []) is once (e ∙ sym (append_assoc before (i ∷ []) is)))
    where
      by : (l d : Bool) → is_line i ≡ l → D i ≡ d → tally D (without_marks is) ≤ 1 → tally D (cond (not l) (i ∷ without_marks is) (without_marks is)) ≤ 1
      by true d el ed more = more
      by false true el ed more =
          let none = none_later all (before ++ i ∷ []) is once (e ∙ sym (append_assoc before (i ∷ []) is))
          (list_any-append D before (i ∷ []) ∙ right_holds (is_defined before id) (D i || false) (left_holds (D i) false ed)) in
          let one = tally_cons D i (without_marks is) in
          let at = ap one_if ed in
          omega (arith, none, one, at)
      by false false el ed more =
          let one = tally_cons D i (without_marks is) in
          let at = ap one_if ed in
          omega (arith, more, one, at)

-- ---- and where no id is defined more often than once, none is defined twice

some_before : (p : Instruction → Bool) (is : List Instruction) → list_any p is ≡ true → 1 ≤ tally p is
some_before p [] h = absurd (cc h)
some_before p (i ∷ is) h = by (p i) h (some_before p is)
  where
    by : (b : Bool) → (b || list_any p is) ≡ true → (list_any p is ≡ true → 1 ≤ tally p is) → 1 ≤ cond b (tally p is + 1) (tally p is)
    by true h more = omega arith
    by false h more = more h

-- two passes, of which one stands before a place and one there
two_there : (p : Instruction → Bool) (is : List Instruction) (k : ℕ) (i : Instruction) → slice_get is k ≡ Some i → p i ≡ true
    → list_any p (take k is) ≡ true → 2 ≤ tally p is
two_there p [] k i e h b = absurd (cc e)
two_there p (x ∷ is) zero i e h b = absurd (cc b)
two_there p (x ∷ is) (suc k) i e h b = by (p x) b (two_there p is k i e h) (one_there is k e)
  where
    one_there : (xs : List Instruction) (n : ℕ) → slice_get xs n ≡ Some i → 1 ≤ tally p xs
    one_there [] n e = absurd (cc e)
    one_there (y ∷ ys) zero e =
        let same : y ≡ i = cc e in
        let a = tally_cons p y ys in
        let at = ap one_if (ap p same ∙ h) in
        omega (arith, a, at)
    one_there (y ∷ ys) (suc n) e =
        let more = one_there ys n e in
        let a = tally_cons p y ys in
        omega (arith, more, a)

    by : (c : Bool) → (c || list_any p (take k is)) ≡ true → (list_any p (take k is) ≡ true → 2 ≤ tally p is) → 1 ≤ tally p is
        → 2 ≤ cond c (tally p is + 1) (tally p is)
    by true g more one = omega (arith, one)
    by false g more one = more g

lines_alike : (id : ℕ) (is : List Instruction) → tally (defines_by id) (words_of is) ≡ tally (defines id) is
lines_alike id [] = refl
lines_alike id (i ∷ is) = ap (λ n. cond (defines id i) (n + 1) n) (lines_alike id is)

second_by : (before : List Instruction) (i : Instruction) (o : Option ℕ) → word_with is_defined_id i ≡ o
    → ((id : ℕ) → defines id i ≡ true → is_defined before id ≡ true → ⊥) → option_map_or (is_defined before) o false ≡ false
second_by before i None e none = refl
second_by before i (Some x) e none = elim (tells (is_defined before x)) [
  | inl h ↦ absurd (none x (ap (λ o. option_map_or (nat_eq x) o false) e ∙ true_equal x x refl) h)
  | inr h ↦ h
]

pub once_by_tally : (is : List Instruction) → ((id : ℕ) → tally (defines_by id) (words_of is) ≤ 1) → DefinesOnce is
once_by_tally is most k i e plain =
    second_by (take k is) i (word_with is_defined_id i) refl
    (λ id d b.
    let two = two_there (defines id) is k i e d b in
    let one = most id in
    let same = lines_alike id is in
    absurd (omega (arith, two, one, same)))

-- ---- the law

module _ (words : List ℕ) (bodies : List Body) (whole : IsWhole words bodies) (once : DefinesOnce (code_of words).insts) where
  abbrev insts : List Instruction
  insts = (code_of words).insts

  abbrev bound : ℕ
  bound = slice_index words 3

  read : IsRead words
  read = is_read words whole.decoded

  low : bound ≤ 2 ^ 32
  low = low_enough bound read.low

  abbrev count : ℕ
  count = count_by is_function insts

  each_tally : (id j : ℕ) → j < count
      → tally (defines_by id) (normal_function (function_insts (0 + j) insts)) ≤ tally (defines id) (without_marks (function_insts (0 + j) insts))
  each_tally id j lt =
      let t = tree words bodies whole j lt in
      let s = t.1.parsed.spelled in
      subst (λ n. tally (defines_by id) (normal_function (function_insts n insts)) ≤ tally (defines id) (without_marks (function_insts n insts))) (none_more j)
      (function_tally bound low id (function_insts j insts) s.stays (body_of t.0) s.admitted s.spells
      (all_of_function (λ i. IsUnbroken bound i.words) insts j read.are))
    where
      none_more : (n : ℕ) → n ≡ 0 + n
      none_more n = omega arith

  pub norm_tally : (id : ℕ) → tally (defines_by id) (norm_lines insts) ≤ 1
  norm_tally id =
      let fits = fits_in_module (length words) insts (group_2_none words whole.decoded) in
      let texts = joined (functions_in insts) in
      let cut : tally (defines id) (without_marks insts) ≡ tally (defines id) (without_marks (outside insts)) + tally (defines id) (without_marks texts) =
      ap (tally (defines id)) (module_is_cut insts fits ∙ marks_front (outside insts) texts)
      ∙ tally_both (defines id) (without_marks (outside insts)) (without_marks texts) in
      let text : ℕ → List Instruction = λ k. function_insts k insts in
      let functions = functions_tally bound low id text (λ k. normal_function (text k)) 0 count (each_tally id) in
      let named : tally (defines id) (without_marks (joined (map text (range_with_len 0 count)))) ≡ tally (defines id) (without_marks texts) =
      ap (λ ts. tally (defines id) (without_marks (joined ts))) (sym (functions_are insts)) in
      let stay = staying_tally bound low id insts (outside insts) in
      let both = tally_both (defines_by id) (words_of (staying insts)) (function_lines insts) in
      let most = once_tally bound low id insts [] insts once refl in
      omega (arith, cut, functions, named, stay, both, most)

pub norm_defines_once : NormDefinesOnce
norm_defines_once words bodies norm whole is once again same =
    once_by_tally again (λ id. subst (λ ws. tally (defines_by id) ws ≤ 1) (sym (same ∙ is.lines)) (norm_tally words bodies whole once id))
