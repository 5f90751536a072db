-- In the normal form of a function the first block comes first, so variables stand at its head alone.
use Rattle.std.proofs.Common.{◌≡◌, ℕ, zero, suc, ◌+◌, ◌≤◌, Bool, true, false, cond, ◌==◌, ◌||◌, List, [], ◌∷◌, ◌++◌, length, map, Option, None, Some, refl, sym, ap, subst, ◌∙◌, arith}
use Rattle.std.specs.List.{AllByRecursion, flat_map, fold}
use Rattle.spv_opcodes.specs.declared.op.TheConstants as op
use Rattle.spv_module.specs.Instruction.{Instruction, opcode}
use Rattle.spv_blocks.specs.Blocks.{Code, has, is_label, times}
use Rattle.spv_blocks.specs.Cutting.{blocks_of}
use Rattle.spv_walk.proofs.Unique.{equal_true, true_equal}
use Rattle.spv_bodies.specs.Listing.{instruction, label_line}
use Rattle.spv_normal.specs.Lines.{behind_label, block_insts, line}
use Rattle.spv_normal.specs.Normal.{block_lines, copied, joins_next, kept, normal_line, renamed}
use Rattle.spv_normal.specs.Order.{first_label, followers, is_front, label_behind, ordered, visited, with_labels}
use Rattle.spv_normal_trees.proofs.Members.{has_not}
use Rattle.spv_sound_trees.proofs.Marks.{some_times}
use Rattle.spv_standing.proofs.Fronts.{line_opcode}
use Rattle.spv_tree.specs.Sound.{opcode_in}
use Rattle.spv_norm_typed.proofs.Shape.{IsStill, Opens, Still, opens_both, opens_kept, opens_mapped, opens_up_to, still_behind, still_block, still_both, still_mapped}

-- ---- the order begins with the first label

pub record Heads (x : ℕ) (xs : List ℕ) : Type 0 where
  pub rest : List ℕ
  pub same : xs ≡ x ∷ rest

folds_head : (x : ℕ) (g : List ℕ → ℕ → List ℕ) → ((seen : List ℕ) (l : ℕ) → Heads x seen → Heads x (g seen l)) → (seen ls : List ℕ) → Heads x seen
    → Heads x (fold g seen ls)
folds_head x g keeps seen [] h = h
folds_head x g keeps seen (l ∷ ls) h = folds_head x g keeps (g seen l) ls (keeps seen l h)

one_more : (x l : ℕ) (seen : List ℕ) → Heads x seen → Heads x (seen ++ l ∷ [])
one_more x l seen h = record { rest = h.rest ++ l ∷ []; same = ap (λ z. z ++ l ∷ []) h.same }

visited_head : (n : ℕ) (f : Code) (x : ℕ) (seen : List ℕ) (l : ℕ) → Heads x seen → Heads x (visited n f seen l)
visited_head zero f x seen l h = h
visited_head (suc n) f x seen l h =
    by (has seen l) (folds_head x (visited n f) (λ s k g. visited_head n f x s k g) (seen ++ l ∷ []) (followers f l) (one_more x l seen h))
  where
    by : (b : Bool) → Heads x (fold (visited n f) (seen ++ l ∷ []) (followers f l))
        → Heads x (cond b seen (fold (visited n f) (seen ++ l ∷ []) (followers f l)))
    by true later = h
    by false later = later

some_first : (n : ℕ) (f : Code) (l : ℕ) → Heads l (visited (suc n) f [] l)
some_first n f l = folds_head l (visited n f) (λ s k g. visited_head n f l s k g) (l ∷ []) (followers f l) (record { rest = []; same = refl })

pub first_in_order : (f : Code) → is_label f (first_label f) ≡ true → Heads (first_label f) (ordered f)
first_in_order [] h = absurd (cc h)
first_in_order (b ∷ bs) h = some_first (length bs) (b ∷ bs) b.label

-- ---- and does not come again

none_again : (l : ℕ) (rest : List ℕ) (b : Bool) → times (l ∷ rest) l ≡ cond b 1 0 → has rest l ≡ false
none_again l rest b e = has_not rest l (λ h. absurd (more (some_times rest l h)))
  where
    here : times (l ∷ rest) l ≡ times rest l + 1
    here = ap (λ (c : Bool). cond c (times rest l + 1) (times rest l)) (true_equal l l refl)

    most : (c : Bool) → cond c 1 0 ≤ 1
    most true = omega arith
    most false = omega arith

    more : 1 ≤ times rest l → ⊥
    more some = let m = most b in omega (arith, here, e, m, some)

abbrev IsOther : ℕ → ℕ × ℕ → Type 0
IsOther l b = (b.0 == l) ≡ false

others : (f : Code) (l : ℕ) (before : Option (ℕ × ℕ)) (ls : List ℕ) → has ls l ≡ false → AllByRecursion (IsOther l) (with_labels f before ls)
others f l before [] h = tt
others f l before (x ∷ ls) h =
    let parts = both (x == l) (has ls l) h in
    (parts.0, others f l (Some (x, label_behind f before x)) ls parts.1)
  where
    both : (a b : Bool) → (a || b) ≡ false → (a ≡ false) × (b ≡ false)
    both true b e = absurd (cc e)
    both false b e = (refl, e)

-- ---- the opcodes of lines

phi_renamed : (stays : ℕ → ℕ) (i : Instruction) → opcode i ≡ op.PHI → opcode_in (renamed stays i) ≡ op.PHI
phi_renamed stays i e = first i.words ∙ e
  where
    first : (ws : List ℕ) → opcode_in (renamed stays (record { offset = i.offset; words = ws })) ≡ opcode_in ws
    first [] = refl
    first (w ∷ ws) = refl

still_phi : IsStill op.PHI
still_phi = record { inner = record { function = refl; parameter = refl; mark = refl; end_mark = refl }; variable = refl }

still_copy : IsStill op.COPY_OBJECT
still_copy = record { inner = record { function = refl; parameter = refl; mark = refl; end_mark = refl }; variable = refl }

pub still_label : IsStill op.LABEL
still_label = record { inner = record { function = refl; parameter = refl; mark = refl; end_mark = refl }; variable = refl }

pub still_end : IsStill op.FUNCTION_END
still_end = record { inner = record { function = refl; parameter = refl; mark = refl; end_mark = refl }; variable = refl }

module _ (stays : ℕ → ℕ) (front : Bool) where
  line_still : (i : Instruction) → IsStill (opcode i) → IsStill (opcode_in (normal_line stays front i))
  line_still i h = by (opcode i == op.PHI) front refl
    where
      by : (phi b : Bool) → (opcode i == op.PHI) ≡ phi → IsStill (opcode_in (cond phi (cond b (renamed stays i) (copied i)) (line i)))
      by true true e = subst IsStill (sym (phi_renamed stays i (equal_true (opcode i) op.PHI e))) still_phi
      by true false e = still_copy
      by false b e = subst IsStill (sym (line_opcode i)) h

  variable_stays : (i : Instruction) → (opcode i == op.VARIABLE) ≡ true → opcode_in (normal_line stays front i) ≡ opcode i
  variable_stays i v =
      ap (λ (b : Bool). opcode_in (cond b (cond front (renamed stays i) (copied i)) (line i))) (ap (λ o. o == op.PHI) (equal_true (opcode i) op.VARIABLE v))
      ∙ line_opcode i

-- ---- the blocks

-- the first label, and what stands behind it
pub record Begins (is : List Instruction) (blocks : List Instruction) : Type 0 where
  pub first : behind_label is (first_label (blocks_of is)) ≡ blocks
  pub other : (l : ℕ) → (l == first_label (blocks_of is)) ≡ false → behind_label is l ≡ behind_label blocks l
  pub opens : Opens opcode blocks

-- its label in front, and then variables before everything else
abbrev pub Placed : {A : Type 0} → (A → ℕ) → List A → Type 0
Placed o [] = ⊥
Placed o (x ∷ xs) = (o x ≡ op.LABEL) × Opens o xs

module _ (is blocks : List Instruction) (stays : ℕ → ℕ) (b : Begins is blocks)
    (once : (l : ℕ) → times (ordered (blocks_of is)) l ≡ cond (is_label (blocks_of is) l) 1 0)
    (some : is_label (blocks_of is) (first_label (blocks_of is)) ≡ true) where
  abbrev f : Code
  f = blocks_of is

  abbrev first : ℕ
  first = first_label f

  abbrev block_texts : ℕ → List (List ℕ)
  block_texts l = map (normal_line stays (is_front f l)) (kept (joins_next f l) (block_insts is l))

  opens_first : Opens opcode_in (block_texts first)
  opens_first =
      opens_mapped (normal_line stays (is_front f first)) (line_still stays (is_front f first)) (variable_stays stays (is_front f first))
      (kept (joins_next f first) (block_insts is first))
      (opens_kept (joins_next f first) (block_insts is first)
      (opens_up_to (behind_label is first) (subst (λ z. Opens opcode z) (sym b.first) b.opens)))

  still_other : (l : ℕ) → (l == first) ≡ false → Still opcode_in (block_texts l)
  still_other l e =
      still_mapped (normal_line stays (is_front f l)) (line_still stays (is_front f l)) (kept (joins_next f l) (block_insts is l))
      (still_block (behind_label is l) (subst (λ z. Still opcode z) (sym (b.other l e)) (still_behind blocks l b.opens)) (joins_next f l))

  still_lines : (p : ℕ × ℕ) → IsOther first p → Still opcode_in (block_lines is f stays p)
  still_lines p e = still_both opcode_in (cond (p.0 == p.1) (label_line p.0 ∷ []) []) (block_texts p.0) (own (p.0 == p.1)) (still_other p.0 e)
    where
      own : (c : Bool) → Still opcode_in (cond c (label_line p.0 ∷ []) [])
      own true = (still_label, tt)
      own false = tt

  still_blocks : (ps : List (ℕ × ℕ)) → AllByRecursion (IsOther first) ps → Still opcode_in (flat_map (block_lines is f stays) ps)
  still_blocks [] h = tt
  still_blocks (p ∷ ps) h =
      still_both opcode_in (block_lines is f stays p) (flat_map (block_lines is f stays) ps) (still_lines p h.0) (still_blocks ps h.1)

  abbrev end : List (List ℕ)
  end = instruction op.FUNCTION_END [] ∷ []

  placed_by : (rest : List ℕ) → has rest first ≡ false → (own : Bool) → own ≡ true
      → Placed opcode_in ((cond own (label_line first ∷ []) [] ++ block_texts first)
      ++ (flat_map (block_lines is f stays) (with_labels f (Some (first, first)) rest) ++ end))
  placed_by rest none true e = (
    refl,
    opens_both opcode_in (block_texts first) (flat_map (block_lines is f stays) (with_labels f (Some (first, first)) rest) ++ end) opens_first
        (still_both opcode_in (flat_map (block_lines is f stays) (with_labels f (Some (first, first)) rest)) end
        (still_blocks (with_labels f (Some (first, first)) rest) (others f first (Some (first, first)) rest none)) (still_end, tt)),
  )
  placed_by rest none false e = absurd (cc e)

  pub lines_placed : Placed opcode_in (flat_map (block_lines is f stays) (with_labels f None (ordered f)) ++ end)
  lines_placed =
      let h = first_in_order f some in
      subst (λ z. Placed opcode_in (flat_map (block_lines is f stays) (with_labels f None z) ++ end)) (sym h.same)
      (again h.rest (placed_by h.rest (none_again first h.rest (is_label f first) (ap (λ z. times z first) (sym h.same) ∙ once first)) (first == first)
      (true_equal first first refl)))
    where
      joined : (xs ys : List (List ℕ)) → (xs ++ ys) ++ end ≡ xs ++ (ys ++ end)
      joined [] ys = refl
      joined (x ∷ xs) ys = ap (λ z. x ∷ z) (joined xs ys)

      again : (rest : List ℕ)
          → Placed opcode_in ((cond (first == first) (label_line first ∷ []) [] ++ block_texts first)
          ++ (flat_map (block_lines is f stays) (with_labels f (Some (first, first)) rest) ++ end))
          → Placed opcode_in (((cond (first == first) (label_line first ∷ []) [] ++ block_texts first)
          ++ flat_map (block_lines is f stays) (with_labels f (Some (first, first)) rest)) ++ end)
      again rest h =
          subst (λ z. Placed opcode_in z)
          (sym (joined (cond (first == first) (label_line first ∷ []) [] ++ block_texts first)
          (flat_map (block_lines is f stays) (with_labels f (Some (first, first)) rest)))) h
