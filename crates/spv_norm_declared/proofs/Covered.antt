-- What an instruction of a function defines, a line of its normal form defines, unless it is a label that went.
use Rattle.std.proofs.Common.{◌≡◌, ◌⊎◌, inl, inr, ℕ, zero, suc, ◌≤◌, ◌^◌, Bool, true, false, cond, nat_eq, ◌||◌, ◌==◌, List, [], ◌∷◌, ◌++◌, length, map, take, drop, Option, Some, None, refl, sym, ap, subst, ◌∙◌, arith}
use Rattle.std.specs.List.{AllByRecursion, flat_map, list_any, slice_get}
use Rattle.std.proofs.lemmas.List.Folds.{list_any-append}
use Rattle.spv_opcodes.specs.declared.op.TheConstants as op
use Rattle.spv_grammar.specs.Fronts.{has_result}
use Rattle.spv_grammar.specs.Table.{row_of}
use Rattle.spv_module.specs.Instruction.{Instruction, opcode}
use Rattle.spv_module.specs.Layout.{is_terminator}
use Rattle.spv_ids.specs.Ids.{defines}
use Rattle.spv_blocks.specs.Blocks.{Block, Code, block, has, is_label, is_some_block}
use Rattle.spv_blocks.specs.Cutting.{block_of, blocks_of, is_function_end, is_label_mark, pairs, word}
use Rattle.spv_walk.specs.Numbering.{HasOwnLabels}
use Rattle.spv_walk.proofs.Unique.{either_holds, equal_true, left_holds, right_holds, tells, true_equal, truth_apart}
use Rattle.spv_bodies.specs.Bodies.{Function}
use Rattle.spv_bodies.specs.Listing.{instruction, label_line, pair_words}
use Rattle.spv_normal.specs.Lines.{before_labels, behind_label, block_insts, line, up_to_terminator, without_marks}
use Rattle.spv_normal.specs.Normal.{block_lines, copied, joins_next, kept, normal_function, normal_line, renamed}
use Rattle.spv_normal.specs.Order.{is_front, label_behind, ordered, with_labels}
use Rattle.spv_spelling.specs.Spelling.{SpellsFunction}
use Rattle.spv_spelling.specs.Whole.{IsAdmitted}
use Rattle.spv_sound_trees.proofs.Marks.{no_times}
use Rattle.spv_normal_trees.specs.Laws.{stays_by}
use Rattle.spv_normal_trees.proofs.Listed.{stands_once}
use Rattle.spv_normal_trees.proofs.Texts.{opcode_spelled}
use Rattle.spv_norm_declared.proofs.Instructions.{Are, IsUnbroken, is_instruction}
use Rattle.spv_norm_declared.proofs.MadeLines.{copied_fine, end_fine, is_phi, line_fine, renamed_fine}
use Rattle.spv_norm_declared.proofs.PhiPairs.{HasPair}
use Rattle.spv_norm_declared.proofs.FunctionLines.{all_before, all_behind, all_kept, all_pairs, all_up_to, pairs_of, stays_in}
use Rattle.spv_norm_declared.proofs.Definitions.{defines_by, no_result}
use Rattle.spv_norm_declared.proofs.Definers.{front_kept, opcode_kept, typed_result, phi_row, copy_row}
use Rattle.spv_norm_declared.proofs.Walks.{inst_of}
use Rattle.spv_norm_declared.proofs.Tidy.{BeginsWell, EndIsLast, IsTidy}

-- ---- in which part of a function an instruction stands

own_tail : (b : Block) (f : Code) → HasOwnLabels (b ∷ f) → HasOwnLabels f
own_tail b f own j k a c e g same = one_less (own (suc j) (suc k) a c e g same)
  where
    one_less : {m n : ℕ} → suc m ≡ suc n → m ≡ n
    one_less h = cc

placed : (f : Code) (l : ℕ) → is_label f l ≡ true → (k : ℕ) × (c : Block) × (slice_get f k ≡ Some c) × (c.label ≡ l)
placed [] l h = absurd (cc h)
placed (b ∷ f) l h = by (b.label == l) refl h (placed f l)
  where
    by : (t : Bool) → (b.label == l) ≡ t → is_some_block (cond t (Some b) (block f l)) ≡ true
        → (is_label f l ≡ true → (k : ℕ) × (c : Block) × (slice_get f k ≡ Some c) × (c.label ≡ l))
        → (k : ℕ) × (c : Block) × (slice_get (b ∷ f) k ≡ Some c) × (c.label ≡ l)
    by true e h more = (zero, b, refl, equal_true b.label l e)
    by false e h more = let p = more h in (suc p.0, p.1, p.2, p.3)

own_head : (b : Block) (f : Code) → HasOwnLabels (b ∷ f) → (l : ℕ) → is_label f l ≡ true → (b.label == l) ≡ false
own_head b f own l h = elim (tells (b.label == l)) [
  | inl e ↦
      let p = placed f l h in
      let twice : zero ≡ suc p.0 = own zero (suc p.0) b p.1 refl p.2 (equal_true b.label l e ∙ sym p.3) in
      absurd (cc twice)
  | inr e ↦ e
]

module _ (p : Instruction → Bool) where
  -- before the first label, or behind one
  abbrev IsPlaced : List Instruction → Type 0
  IsPlaced is =
      (list_any p (before_labels is) ≡ true) ⊎ ((l : ℕ) × (is_label (blocks_of is) l ≡ true) × (list_any p (before_labels (behind_label is l)) ≡ true))

  abbrev pub NoLabel : List Instruction → Type 0
  NoLabel is = AllByRecursion (λ i. p i ≡ true → is_label_mark i ≡ false) is

  none_here : (b : Bool) (i : Instruction) → (p i ≡ true → is_label_mark i ≡ false) → is_label_mark i ≡ true → p i ≡ b → b ≡ false
  none_here true i h m e = truth_apart (is_label_mark i) m (h e)
  none_here false i h m e = refl

  -- by induction on the instructions
  is_placed : (is : List Instruction) → HasOwnLabels (blocks_of is) → NoLabel is → list_any p is ≡ true → IsPlaced is
  is_placed [] own none h = absurd (cc h)
  is_placed (i ∷ is) own none h = by (is_label_mark i) refl own (λ o g. is_placed is o none.1 g)
    where
      -- behind a label
      behind : is_label_mark i ≡ true → HasOwnLabels (block_of i is ∷ blocks_of is) → IsPlaced is
          → (l : ℕ) × (is_some_block (block (block_of i is ∷ blocks_of is) l) ≡ true)
          × (list_any p (before_labels (cond (word i 1 == l) is (behind_label is l))) ≡ true)
      behind m o (inl g) = (
        word i 1,
        ap (λ (b : Bool). is_some_block (cond b (Some (block_of i is)) (block (blocks_of is) (word i 1)))) (true_equal (word i 1) (word i 1) refl),
        ap (λ (b : Bool). list_any p (before_labels (cond b is (behind_label is (word i 1))))) (true_equal (word i 1) (word i 1) refl) ∙ g,
      )
      behind m o (inr q) =
          let other : (word i 1 == q.0) ≡ false = own_head (block_of i is) (blocks_of is) o q.0 q.1 in (
            q.0,
            ap (λ (b : Bool). is_some_block (cond b (Some (block_of i is)) (block (blocks_of is) q.0))) other ∙ q.1,
            ap (λ (b : Bool). list_any p (before_labels (cond b is (behind_label is q.0)))) other ∙ q.2,
          )

      by : (m : Bool) → is_label_mark i ≡ m → HasOwnLabels (cond m (block_of i is ∷ blocks_of is) (blocks_of is))
          → (HasOwnLabels (blocks_of is) → list_any p is ≡ true → IsPlaced is)
          → (list_any p (cond m [] (i ∷ before_labels is)) ≡ true)
          ⊎ ((l : ℕ) × (is_some_block (block (cond m (block_of i is ∷ blocks_of is) (blocks_of is)) l) ≡ true)
          × (list_any p (before_labels (cond (cond m (word i 1 == l) false) is (behind_label is l))) ≡ true))
      by true m own more =
          let later : list_any p is ≡ true = sym (ap (λ (b : Bool). b || list_any p is) (none_here (p i) i none.0 m refl)) ∙ h in
          inr (behind m own (more (own_tail (block_of i is) (blocks_of is) own) later))
      by false m own more = elim (either_holds (p i) (list_any p is) h) [
        | inl e ↦ inl (left_holds (p i) (list_any p (before_labels is)) e)
        | inr g ↦ elim (more own g) [
          | inl k ↦ inl (right_holds (p i) (list_any p (before_labels is)) k)
          | inr k ↦ inr k
        ]
      ]

  -- ---- in a block

  suffix_tidy : (is : List Instruction) (l : ℕ) → IsTidy is → IsTidy (behind_label is l)
  suffix_tidy [] l h = tt
  suffix_tidy (i ∷ is) l h = by (cond (is_label_mark i) (word i 1 == l) false) (suffix_tidy is l h.1)
    where
      by : (b : Bool) → IsTidy (behind_label is l) → IsTidy (cond b is (behind_label is l))
      by true more = h.1
      by false more = more

  suffix_ends : (is : List Instruction) (l : ℕ) → EndIsLast is → EndIsLast (behind_label is l)
  suffix_ends [] l h = tt
  suffix_ends (i ∷ is) l h = by (cond (is_label_mark i) (word i 1 == l) false) (suffix_ends is l h.1)
    where
      by : (b : Bool) → EndIsLast (behind_label is l) → EndIsLast (cond b is (behind_label is l))
      by true more = h.1
      by false more = more

  -- nothing but OpFunctionEnd stands behind a terminator
  none_behind : (js : List Instruction) → BeginsWell js → EndIsLast js → AllByRecursion (λ i. is_function_end i ≡ true → p i ≡ false) js
      → list_any p (before_labels js) ≡ false
  none_behind [] well last ends = refl
  none_behind (j ∷ js) well last ends = by (is_label_mark j) well
    where
      by : (m : Bool) → (m || is_function_end j) ≡ true → list_any p (cond m [] (j ∷ before_labels js)) ≡ false
      by true w = refl
      by false w =
          ap (λ (b : Bool). b || list_any p (before_labels js)) (ends.0 w) ∙ ap (λ z. list_any p (before_labels z)) (last.0 w)

  -- by induction on the instructions
  up_to : (is : List Instruction) → IsTidy is → EndIsLast is → AllByRecursion (λ i. is_function_end i ≡ true → p i ≡ false) is
      → list_any p (before_labels is) ≡ true → list_any p (up_to_terminator is) ≡ true
  up_to [] tidy last ends h = absurd (cc h)
  up_to (i ∷ is) tidy last ends h = by (is_label_mark i) (is_terminator i) refl h (λ g. up_to is tidy.1 last.1 ends.1 g)
    where
      by : (m t : Bool) → is_terminator i ≡ t → list_any p (cond m [] (i ∷ before_labels is)) ≡ true
          → (list_any p (before_labels is) ≡ true → list_any p (up_to_terminator is) ≡ true)
          → list_any p (cond t (i ∷ []) (i ∷ up_to_terminator is)) ≡ true
      by true t e h more = absurd (cc h)
      by false true e h more =
          let none : list_any p (before_labels is) ≡ false = none_behind is (tidy.0 e) last.1 ends.1 in
          sym (ap (λ (b : Bool). p i || b) none) ∙ h
      by false false e h more = elim (either_holds (p i) (list_any p (before_labels is)) h) [
        | inl k ↦ left_holds (p i) (list_any p (up_to_terminator is)) k
        | inr k ↦ right_holds (p i) (list_any p (up_to_terminator is)) (more k)
      ]

  -- a terminator that goes defines nothing
  still_kept : (joined : Bool) (is : List Instruction) → AllByRecursion (λ i. is_terminator i ≡ true → p i ≡ false) is
      → list_any p (up_to_terminator is) ≡ true
      → list_any p (kept joined (up_to_terminator is)) ≡ true
  still_kept joined [] none h = absurd (cc h)
  still_kept joined (i ∷ is) none h = by (is_terminator i) refl h (λ g. still_kept joined is none.1 g)
    where
      later : (b : Bool) → (list_any p (up_to_terminator is) ≡ true → list_any p (kept joined (up_to_terminator is)) ≡ true)
          → (p i || list_any p (up_to_terminator is)) ≡ true → b ≡ false
          → list_any p (cond b [] (i ∷ kept joined (up_to_terminator is))) ≡ true
      later true more g e = absurd (cc e)
      later false more g e = elim (either_holds (p i) (list_any p (up_to_terminator is)) g) [
        | inl k ↦ left_holds (p i) (list_any p (kept joined (up_to_terminator is))) k
        | inr k ↦ right_holds (p i) (list_any p (kept joined (up_to_terminator is))) (more k)
      ]

      no_more : (j b : Bool) → b ≡ false → cond j b false ≡ false
      no_more true b e = e
      no_more false b e = refl

      nothing : (b : Bool) → b ≡ false → (b || false) ≡ true → list_any p (kept joined (i ∷ [])) ≡ true
      nothing b e g = absurd (cc (e, g))

      by : (t : Bool) → is_terminator i ≡ t → list_any p (cond t (i ∷ []) (i ∷ up_to_terminator is)) ≡ true
          → (list_any p (up_to_terminator is) ≡ true → list_any p (kept joined (up_to_terminator is)) ≡ true)
          → list_any p (kept joined (cond t (i ∷ []) (i ∷ up_to_terminator is))) ≡ true
      by true e g more = truth_apart (p i || false) g (ap (λ (b : Bool). b || false) (none.0 e))
      by false e g more = later (cond joined (is_terminator i) false) more g (no_more joined (is_terminator i) e)

-- ---- lines define what instructions define

split_result : has_result op.BRANCH_CONDITIONAL ≡ false
unfolding row_of
split_result = refl

end_result : has_result op.FUNCTION_END ≡ false
unfolding row_of
end_result = refl

ending_results :
    (has_result op.BRANCH ≡ false) × (has_result op.SWITCH ≡ false) × (has_result op.RETURN ≡ false) × (has_result op.RETURN_VALUE ≡ false) ×
    (has_result op.UNREACHABLE ≡ false)
unfolding row_of
ending_results = (refl, refl, refl, refl, refl)

either_gives : {P : Type 0} (a b : Bool) → (a ≡ true → P) → (b ≡ true → P) → (a || b) ≡ true → P
either_gives true b f g h = f refl
either_gives false b f g h = g h

module _ (bound : ℕ) (low : bound ≤ 2 ^ 32) (id : ℕ) where
  abbrev D : Instruction → Bool
  D i = defines id i

  abbrev D_line : List ℕ → Bool
  D_line w = defines_by id w

  terminator_defines_nothing : (i : Instruction) → IsUnbroken bound i.words → is_terminator i ≡ true → D i ≡ false
  terminator_defines_nothing i u h =
      either_gives (o == op.BRANCH || o == op.BRANCH_CONDITIONAL || o == op.SWITCH || o == op.RETURN || o == op.RETURN_VALUE) (o == op.UNREACHABLE)
      (either_gives (o == op.BRANCH || o == op.BRANCH_CONDITIONAL || o == op.SWITCH || o == op.RETURN) (o == op.RETURN_VALUE)
      (either_gives (o == op.BRANCH || o == op.BRANCH_CONDITIONAL || o == op.SWITCH) (o == op.RETURN)
      (either_gives (o == op.BRANCH || o == op.BRANCH_CONDITIONAL) (o == op.SWITCH)
      (either_gives (o == op.BRANCH) (o == op.BRANCH_CONDITIONAL) (like op.BRANCH ending_results.0) (like op.BRANCH_CONDITIONAL split_result))
      (like op.SWITCH ending_results.1)) (like op.RETURN ending_results.2)) (like op.RETURN_VALUE ending_results.3)) (like op.UNREACHABLE ending_results.4) h
    where
      o : ℕ
      o = opcode i

      like : (k : ℕ) → has_result k ≡ false → (o == k) ≡ true → D i ≡ false
      like k none e = no_result id k i (is_instruction bound i low u) (equal_true o k e) none

  end_defines_nothing : (i : Instruction) → IsUnbroken bound i.words → is_function_end i ≡ true → D i ≡ false
  end_defines_nothing i u h = no_result id op.FUNCTION_END i (is_instruction bound i low u) (equal_true (opcode i) op.FUNCTION_END h) end_result

  -- a line defines what its instruction defines
  pub line_same : (i : Instruction) → IsUnbroken bound i.words → D_line (line i) ≡ D i
  line_same i u = by (opcode i == op.BRANCH_CONDITIONAL) refl (line_fine bound i u)
    where
      by : (b : Bool) → (opcode i == op.BRANCH_CONDITIONAL) ≡ b
          → IsUnbroken bound (cond b (instruction op.BRANCH_CONDITIONAL (take 3 (drop 1 i.words))) i.words)
          → D_line (cond b (instruction op.BRANCH_CONDITIONAL (take 3 (drop 1 i.words))) i.words) ≡ D i
      by true e fine =
          let made = instruction op.BRANCH_CONDITIONAL (take 3 (drop 1 i.words)) in
          no_result id op.BRANCH_CONDITIONAL (inst_of made) (is_instruction bound (inst_of made) low fine)
          (opcode_spelled op.BRANCH_CONDITIONAL (take 3 (drop 1 i.words)) (omega arith)) split_result
          ∙ sym (no_result id op.BRANCH_CONDITIONAL i (is_instruction bound i low u) (equal_true (opcode i) op.BRANCH_CONDITIONAL e) split_result)
      by false e fine = refl

  pub end_line_defines_nothing : D_line (instruction op.FUNCTION_END []) ≡ false
  end_line_defines_nothing =
      let made = instruction op.FUNCTION_END [] in
      no_result id op.FUNCTION_END (inst_of made) (is_instruction bound (inst_of made) low (end_fine bound)) refl end_result

  module _ (stays : ℕ → ℕ) (closed : (i : Instruction) → IsUnbroken bound i.words → opcode i ≡ op.PHI → IsUnbroken bound (renamed stays i)) where
    renamed_same : (i : Instruction) → IsUnbroken bound i.words → opcode i ≡ op.PHI → D_line (renamed stays i) ≡ D i
    renamed_same i u e =
        let q = is_phi bound i.words u e in
        let front = front_kept i.words (pair_words (map (λ pair. (pair.0, stays pair.1)) (pairs (drop 3 i.words)))) q.head q.type q.name q.rest q.same in
        let phi = opcode_kept i.words (renamed stays i) op.PHI front.0 e in
        typed_result bound id op.PHI (renamed stays i) low (closed i u e) phi phi_row ∙ ap (nat_eq id) front.2
        ∙ sym (typed_result bound id op.PHI i.words low u e phi_row)

    copied_same : (i : Instruction) → IsUnbroken bound i.words → opcode i ≡ op.PHI → 4 ≤ length i.words → D_line (copied i) ≡ D i
    copied_same i u e some =
        typed_result bound id op.COPY_OBJECT (copied i) low (copied_fine bound i u e some) refl copy_row
        ∙ sym (typed_result bound id op.PHI i.words low u e phi_row)

    pub normal_same : (front : Bool) (i : Instruction) → IsUnbroken bound i.words → (front ≡ false → HasPair i) → D_line (normal_line stays front i) ≡ D i
    normal_same front i u pair = by (opcode i == op.PHI) front refl refl
      where
        by : (phi b : Bool) → (opcode i == op.PHI) ≡ phi → front ≡ b → D_line (cond phi (cond b (renamed stays i) (copied i)) (line i)) ≡ D i
        by true true e g = renamed_same i u (equal_true (opcode i) op.PHI e)
        by true false e g = copied_same i u (equal_true (opcode i) op.PHI e) (pair g e)
        by false b e g = line_same i u

    lines_define : (front : Bool) (is : List Instruction) → AllByRecursion (λ i. IsUnbroken bound i.words × (front ≡ false → HasPair i)) is
        → list_any D is ≡ true → list_any D_line (map (normal_line stays front) is) ≡ true
    lines_define front [] each h = absurd (cc h)
    lines_define front (i ∷ is) each h = elim (either_holds (D i) (list_any D is) h) [
      | inl e ↦ left_holds (D_line (normal_line stays front i)) (list_any D_line (map (normal_line stays front) is))
          (normal_same front i each.0.0 each.0.1 ∙ e)
      | inr e ↦ right_holds (D_line (normal_line stays front i)) (list_any D_line (map (normal_line stays front) is)) (lines_define front is each.1 e)
    ]

  front_defines : (is : List Instruction) → Are bound is → list_any D is ≡ true → list_any D_line (map line is) ≡ true
  front_defines [] are h = absurd (cc h)
  front_defines (i ∷ is) are h = elim (either_holds (D i) (list_any D is) h) [
    | inl e ↦ left_holds (D_line (line i)) (list_any D_line (map line is)) (line_same i are.0 ∙ e)
    | inr e ↦ right_holds (D_line (line i)) (list_any D_line (map line is)) (front_defines is are.1 e)
  ]

  any_in : (xs ys : List (List ℕ)) → (list_any D_line xs ≡ true) ⊎ (list_any D_line ys ≡ true) → list_any D_line (xs ++ ys) ≡ true
  any_in xs ys (inl h) = list_any-append D_line xs ys ∙ left_holds (list_any D_line xs) (list_any D_line ys) h
  any_in xs ys (inr h) = list_any-append D_line xs ys ∙ right_holds (list_any D_line xs) (list_any D_line ys) h

  -- of the blocks in order, one has the line
  flat_any : (F : ℕ × ℕ → List (List ℕ)) (l : ℕ) → ((h : ℕ) → list_any D_line (F (l, h)) ≡ true) → (bs : List (ℕ × ℕ)) → list_any (λ b. b.0 == l) bs ≡ true
      → list_any D_line (flat_map F bs) ≡ true
  flat_any F l there [] h = absurd (cc h)
  flat_any F l there (b ∷ bs) h = any_in (F b) (flat_map F bs) (elim (either_holds (b.0 == l) (list_any (λ c. c.0 == l) bs) h) [
    | inl e ↦ inl (subst (λ k. list_any D_line (F (k, b.1)) ≡ true) (sym (equal_true b.0 l e)) (there b.1))
    | inr e ↦ inr (flat_any F l there bs e)
  ])

  module _ (text : List Instruction) (kept_labels : ℕ → ℕ) (tree : Function) (admitted : IsAdmitted (without_marks text))
      (spells : SpellsFunction (without_marks text) kept_labels tree) (are : Are bound (without_marks text)) (tidy : IsTidy (without_marks text))
      (last : EndIsLast (without_marks text)) where
    abbrev is : List Instruction
    is = without_marks text

    abbrev f : Code
    f = blocks_of is

    abbrev given : ℕ → ℕ
    given = stays_by f

    with_labels_have : (before : Option (ℕ × ℕ)) (ls : List ℕ) (l : ℕ) → list_any (λ b. b.0 == l) (with_labels f before ls) ≡ has ls l
    with_labels_have before [] l = refl
    with_labels_have before (x ∷ ls) l = ap (λ (b : Bool). x == l || b) (with_labels_have (Some (x, label_behind f before x)) ls l)

    in_order : (l : ℕ) → is_label f l ≡ true → has (ordered f) l ≡ true
    in_order l h = elim (tells (has (ordered f) l)) [
      | inl e ↦ e
      | inr e ↦
          let never = no_times (ordered f) l e in
          let once = stands_once is kept_labels tree admitted spells l ∙ ap (λ (b : Bool). cond b 1 0) h in
          absurd (cc (never, once))
    ]

    closed : (i : Instruction) → IsUnbroken bound i.words → opcode i ≡ op.PHI → IsUnbroken bound (renamed given i)
    closed i u e = renamed_fine bound given i (stays_in bound text kept_labels tree admitted spells are) u e

    nothing_ends : (xs : List Instruction) → Are bound xs → AllByRecursion (λ i. is_function_end i ≡ true → D i ≡ false) xs
    nothing_ends [] h = tt
    nothing_ends (i ∷ xs) h = ((λ e. end_defines_nothing i h.0 e), nothing_ends xs h.1)

    nothing_terminates : (xs : List Instruction) → Are bound xs → AllByRecursion (λ i. is_terminator i ≡ true → D i ≡ false) xs
    nothing_terminates [] h = tt
    nothing_terminates (i ∷ xs) h = ((λ e. terminator_defines_nothing i h.0 e), nothing_terminates xs h.1)

    -- a block whose instructions define the id
    block_defines : (l h : ℕ) → is_label f l ≡ true → list_any D (before_labels (behind_label is l)) ≡ true
        → list_any D_line (block_lines is f given (l, h)) ≡ true
    block_defines l h label there =
        let behind : Are bound (behind_label is l) = all_behind (λ i. IsUnbroken bound i.words) is l are in
        let block_are : Are bound (block_insts is l) = all_up_to (λ i. IsUnbroken bound i.words) (behind_label is l) behind in
        let inner : list_any D (block_insts is l) ≡ true =
        up_to D (behind_label is l) (suffix_tidy D is l tidy) (suffix_ends D is l last) (nothing_ends (behind_label is l) behind) there in
        let joined : Bool = joins_next f l in
        let stays : list_any D (kept joined (block_insts is l)) ≡ true =
        still_kept D joined (behind_label is l) (nothing_terminates (behind_label is l) behind) inner in
        let front : Bool = is_front f l in
        let each =
        all_kept (λ i. IsUnbroken bound i.words × (front ≡ false → HasPair i)) joined (block_insts is l)
        (all_pairs (λ i. IsUnbroken bound i.words) (λ i. front ≡ false → HasPair i) (block_insts is l) block_are
        (pairs_of is kept_labels tree admitted spells l label front refl)) in
        any_in (cond (l == h) (label_line l ∷ []) []) (map (normal_line given front) (kept joined (block_insts is l)))
        (inr (lines_define given closed front (kept joined (block_insts is l)) each stays))

    pub function_covers : NoLabel D is → list_any D is ≡ true → list_any D_line (normal_function text) ≡ true
    function_covers none h =
        let end = instruction op.FUNCTION_END [] ∷ [] in
        let blocks = flat_map (block_lines is f given) (with_labels f None (ordered f)) in
        any_in (map line (before_labels is)) (blocks ++ end) (elim (is_placed D is admitted.own none h) [
          | inl e ↦ inl (front_defines (before_labels is) (all_before (λ i. IsUnbroken bound i.words) is are) e)
          | inr q ↦ inr (any_in blocks end (inl (
              flat_any (block_lines is f given) q.0 (λ h. block_defines q.0 h q.1 q.2) (with_labels f None (ordered f))
              (with_labels_have None (ordered f) q.0 ∙ in_order q.0 q.1)
              )))
        ])
