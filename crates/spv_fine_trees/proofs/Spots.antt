-- Places in a function without line marks: in which block an instruction stands, and what stands before it there.
use Rattle.std.proofs.Common.{◌≡◌, ◌⊎◌, inl, inr, ℕ, suc, ◌+◌, Bool, true, false, cond, ◌==◌, ◌||◌, List, [], ◌∷◌, ◌++◌, length, map, Some, refl, sym, ap, subst, ◌∙◌, arith, append_assoc}
use Rattle.std.specs.List.{slice_get}
use Rattle.std.proofs.lemmas.List.{length-append}
use Rattle.spv_opcodes.specs.declared.op.TheConstants as op
use Rattle.spv_module.specs.Instruction.{Instruction, opcode}
use Rattle.spv_module.specs.Layout.{is_terminator}
use Rattle.spv_blocks.specs.Blocks.{Block, block, is_label, is_some_block}
use Rattle.spv_blocks.specs.Cutting.{block_of, blocks_of, is_function_end, is_label_mark, word}
use Rattle.spv_walk.specs.Numbering.{HasOwnLabels}
use Rattle.spv_walk.proofs.Unique.{equal_true, tells, true_equal, truth_apart}
use Rattle.spv_normal.specs.Lines.{behind_label, block_insts, line, up_to_terminator}
use Rattle.spv_normal_trees.proofs.Arranging.{labelled, walked}
use Rattle.spv_normal_trees.proofs.Texts.{IsClosed, NoneCloses, closed_block}
use Rattle.spv_spelling.specs.Clean.{no_pointers}
use Rattle.spv_spelling.specs.Text.{text}
use Rattle.spv_spelling.specs.Whole.{IsAdmitted}
use Rattle.spv_trees.specs.Standing.{OneOf}
use Rattle.spv_trees.proofs.Members.{one_right}
use Rattle.spv_structured.proofs.Lists.{one_map}
use Rattle.spv_availability.specs.Places.{last_label}
use Rattle.spv_fine.proofs.Homes.{NoLabels, behind_cut}
use Rattle.spv_fine_trees.proofs.Tidy.{BeginsAnew, IsTidy}
use Rattle.spv_fine_trees.proofs.Unmarked.{last_both}

-- ---- lists

-- behind fronts of one length stands the same
pub same_behind : {X : Type 0} (xs ys : List X) (a b : X) (us vs : List X) → length xs ≡ length ys → xs ++ a ∷ us ≡ ys ++ b ∷ vs → us ≡ vs
same_behind [] [] a b us vs n e = cc (e)
same_behind [] (y ∷ ys) a b us vs n e = absurd (omega (arith, n))
same_behind (x ∷ xs) [] a b us vs n e = absurd (omega (arith, n))
same_behind (x ∷ xs) (y ∷ ys) a b us vs n e = same_behind xs ys a b us vs (omega (arith, n)) (cc (e))

-- a mapped list that is split
pub record Unmapped {X Y : Type 0} (f : X → Y) (xs : List X) (front : List Y) (y : Y) : Type 0 where
  pub before : List X
  pub one : X
  pub after : List X
  pub same : xs ≡ before ++ one ∷ after
  pub front_is : map f before ≡ front
  pub one_is : f one ≡ y

pub unmap : {X Y : Type 0} (f : X → Y) (xs : List X) (front : List Y) (y : Y) (rest : List Y) → map f xs ≡ front ++ y ∷ rest → Unmapped f xs front y
unmap f [] [] y rest e = absurd (cc (e))
unmap f [] (z ∷ front) y rest e = absurd (cc (e))
unmap f (x ∷ xs) [] y rest e = record { before = []; one = x; after = xs; same = refl; front_is = refl; one_is = cc (e) }
unmap f (x ∷ xs) (z ∷ front) y rest e =
    let same : f x ≡ z = cc (e) in
    let r = unmap f xs front y rest (cc (e)) in record {
      before = x ∷ r.before;
      one = r.one;
      after = r.after;
      same = ap (λ k. x ∷ k) r.same;
      front_is = ap (λ k. k ∷ map f r.before) same ∙ ap (λ k. z ∷ k) r.front_is;
      one_is = r.one_is;
    }

pub up_to_front : (ys : List Instruction) → (more : List Instruction) × (ys ≡ up_to_terminator ys ++ more)
up_to_front [] = ([], refl)
up_to_front (y ∷ ys) = by (is_terminator y) (up_to_front ys) where
  by : (b : Bool) → (more : List Instruction) × (ys ≡ up_to_terminator ys ++ more)
      → (more : List Instruction) × (y ∷ ys ≡ cond b (y ∷ []) (y ∷ up_to_terminator ys) ++ more)
  by true r = (ys, refl)
  by false r = (r.0, ap (λ z. y ∷ z) r.1)

pub labels_front : (xs ys : List Instruction) → NoLabels (xs ++ ys) → NoLabels xs
labels_front [] ys h = tt
labels_front (x ∷ xs) ys h = (h.0, labels_front xs ys h.1)

pub labels_back : (xs ys : List Instruction) → NoLabels (xs ++ ys) → NoLabels ys
labels_back [] ys h = h
labels_back (x ∷ xs) ys h = labels_back xs ys h.1

last_stays : (l : ℕ) (is : List Instruction) → NoLabels is → last_label l is ≡ l
last_stays l [] h = refl
last_stays l (i ∷ is) h = ap (λ b. last_label (cond b (word i 1) l) is) h.0 ∙ last_stays l is h.1

-- ---- the last label before a place

pub record LastLabel (pre : List Instruction) (b : ℕ) : Type 0 where
  pub front : List Instruction
  pub label : Instruction
  pub between : List Instruction
  pub same : pre ≡ front ++ label ∷ between
  pub mark : is_label_mark label ≡ true
  pub is_it : word label 1 ≡ b
  pub none : NoLabels between

pub last_cut : (l : ℕ) (pre : List Instruction) → NoLabels pre ⊎ LastLabel pre (last_label l pre)
last_cut l [] = inl tt
last_cut l (x ∷ xs) = by (is_label_mark x) refl (λ k. last_cut k xs) where
  further : (b : ℕ) → LastLabel xs b → LastLabel (x ∷ xs) b
  further b r = record {
    front = x ∷ r.front;
    label = r.label;
    between = r.between;
    same = ap (λ z. x ∷ z) r.same;
    mark = r.mark;
    is_it = r.is_it;
    none = r.none;
  }

  by : (b : Bool) → is_label_mark x ≡ b → ((k : ℕ) → NoLabels xs ⊎ LastLabel xs (last_label k xs))
      → NoLabels (x ∷ xs) ⊎ LastLabel (x ∷ xs) (last_label (cond b (word x 1) l) xs)
  by true e more = elim (more (word x 1)) [
    | inl none ↦ inr (record { front = []; label = x; between = xs; same = refl; mark = e; is_it = sym (last_stays (word x 1) xs none); none = none })
    | inr r ↦ inr (further (last_label (word x 1) xs) r)
  ]
  by false e more = elim (more l) [
    | inl none ↦ inl (e, none)
    | inr r ↦ inr (further (last_label l xs) r)
  ]

-- the block of a place behind a label
pub last_is : (l : ℕ) (front : List Instruction) (label : Instruction) (between : List Instruction) (i : Instruction) → is_label_mark label ≡ true
    → NoLabels between → is_label_mark i ≡ false → last_label l ((front ++ label ∷ between) ++ i ∷ []) ≡ word label 1
last_is l front label between i mark none plain =
    last_both l (front ++ label ∷ between) (i ∷ []) ∙ ap (λ b. cond b (word i 1) (last_label l (front ++ label ∷ between))) plain
    ∙ last_both l front (label ∷ between) ∙ ap (λ b. last_label (cond b (word label 1) (last_label l front)) between) mark
    ∙ last_stays (word label 1) between none

-- ---- each label once

has_block : (p : List Instruction) (label : Instruction) (more : List Instruction) → is_label_mark label ≡ true
    → (k : ℕ) × (b : Block) × (slice_get (blocks_of (p ++ label ∷ more)) k ≡ Some b) × (b.label ≡ word label 1)
has_block [] label more mark = (0, block_of label more, ap (λ b. slice_get (cond b (block_of label more ∷ blocks_of more) (blocks_of more)) 0) mark, refl)
has_block (x ∷ p) label more mark = by (is_label_mark x) (has_block p label more mark) where
  by : (m : Bool) → (k : ℕ) × (b : Block) × (slice_get (blocks_of (p ++ label ∷ more)) k ≡ Some b) × (b.label ≡ word label 1)
      → (k : ℕ) × (b : Block) × (slice_get (cond m (block_of x (p ++ label ∷ more) ∷ blocks_of (p ++ label ∷ more)) (blocks_of (p ++ label ∷ more))) k ≡ Some b)
      × (b.label ≡ word label 1)
  by true r = (suc r.0, r.1, r.2, r.3)
  by false r = r

pub own_front : (p : List Instruction) (label : Instruction) (more : List Instruction) → HasOwnLabels (blocks_of (p ++ label ∷ more))
    → is_label_mark label ≡ true → behind_label (p ++ label ∷ more) (word label 1) ≡ more
own_front [] label more own mark =
    ap (λ b. cond (cond b (word label 1 == word label 1) false) more (behind_label more (word label 1))) mark
    ∙ ap (λ b. cond b more (behind_label more (word label 1))) (true_equal (word label 1) (word label 1) refl)
own_front (x ∷ p) label more own mark = by (is_label_mark x) (word x 1 == word label 1) refl own (λ h. own_front p label more h mark) where
  by : (m here : Bool) → (word x 1 == word label 1) ≡ here
      → HasOwnLabels (cond m (block_of x (p ++ label ∷ more) ∷ blocks_of (p ++ label ∷ more)) (blocks_of (p ++ label ∷ more)))
      → (HasOwnLabels (blocks_of (p ++ label ∷ more)) → behind_label (p ++ label ∷ more) (word label 1) ≡ more)
      → cond (cond m here false) (p ++ label ∷ more) (behind_label (p ++ label ∷ more) (word label 1)) ≡ more
  by false here e h rest = rest h
  by true true e h rest =
      let r = has_block p label more mark in
      let n : 0 ≡ suc r.0 = h 0 (suc r.0) (block_of x (p ++ label ∷ more)) r.1 refl r.2 (equal_true (word x 1) (word label 1) e ∙ sym r.3) in
      absurd (omega (arith, n))
  by true false e h rest = rest (λ j k a b at there same. let n : suc j ≡ suc k = h (suc j) (suc k) a b at there same in omega (arith, n))

-- what stands behind a label is a block
pub behind_is_label : (is : List Instruction) (l : ℕ) (x : Instruction) (rest : List Instruction) → behind_label is l ≡ x ∷ rest
    → is_label (blocks_of is) l ≡ true
behind_is_label [] l x rest e = absurd (cc (e))
behind_is_label (i ∷ is) l x rest e = by (is_label_mark i) (word i 1 == l) refl e (behind_is_label is l x rest) where
  by : (m here : Bool) → (word i 1 == l) ≡ here → cond (cond m here false) is (behind_label is l) ≡ x ∷ rest
      → (behind_label is l ≡ x ∷ rest → is_label (blocks_of is) l ≡ true)
      → is_label (cond m (block_of i is ∷ blocks_of is) (blocks_of is)) l ≡ true
  by true true h e more = ap (λ b. is_some_block (cond b (Some (block_of i is)) (block (blocks_of is) l))) h
  by true false h e more = ap (λ b. is_some_block (cond b (Some (block_of i is)) (block (blocks_of is) l))) h ∙ more e
  by false here h e more = more e

-- ---- up to the terminator

abbrev pub NoEnds : List Instruction → Type 0
NoEnds [] = Unit {0}
NoEnds (i ∷ is) = (is_function_end i ≡ false) × NoEnds is

or_fails : (a b : Bool) → (a || b) ≡ true → a ≡ false → b ≡ false → ⊥
or_fails true b h x y = cc (x)
or_fails false b h x y = cc (h, y)

-- what stands in a block with no label and no OpFunctionEnd between stands before its terminator's end: by induction on what stands between
pub within_block : (between : List Instruction) (i : Instruction) (post : List Instruction) → IsTidy (between ++ i ∷ post) → NoLabels between → NoEnds between
    → is_label_mark i ≡ false → is_function_end i ≡ false → OneOf i (up_to_terminator (between ++ i ∷ post))
within_block [] i post tidy none no_ends plain goes = by (is_terminator i) where
  by : (b : Bool) → OneOf i (cond b (i ∷ []) (i ∷ up_to_terminator post))
  by true = inl refl
  by false = inl refl
within_block (x ∷ xs) i post tidy none no_ends plain goes =
    by (is_terminator x) refl (within_block xs i post tidy.1 none.1 no_ends.1 plain goes)
  where
    head_fails : (ys : List Instruction) → NoLabels ys → NoEnds ys → BeginsAnew (ys ++ i ∷ post) → ⊥
    head_fails [] a b h = or_fails (is_label_mark i) (is_function_end i) h plain goes
    head_fails (y ∷ ys) a b h = or_fails (is_label_mark y) (is_function_end y) h a.0 b.0

    by : (b : Bool) → is_terminator x ≡ b → OneOf i (up_to_terminator (xs ++ i ∷ post))
        → OneOf i (cond b (x ∷ []) (x ∷ up_to_terminator (xs ++ i ∷ post)))
    by true t more = absurd (head_fails xs none.1 no_ends.1 (tidy.0 t))
    by false t more = inr more

pub tidy_back : (xs ys : List Instruction) → IsTidy (xs ++ ys) → IsTidy ys
tidy_back [] ys h = h
tidy_back (x ∷ xs) ys h = tidy_back xs ys h.1

ends_back : (xs ys : List Instruction) → NoEnds (xs ++ ys) → NoEnds ys
ends_back [] ys h = h
ends_back (x ∷ xs) ys h = ends_back xs ys h.1

-- ---- the lines of a block

-- a line of the block l, the instruction that it is of, and what stands before it in the block
pub record LineOf (is : List Instruction) (l : ℕ) (front : List (List ℕ)) (words : List ℕ) : Type 0 where
  pub outer : List Instruction
  pub label : Instruction
  pub between : List Instruction
  pub inst : Instruction
  pub after : List Instruction
  pub same : is ≡ (outer ++ label ∷ between) ++ inst ∷ after
  pub behind : behind_label is l ≡ between ++ inst ∷ after
  pub mark : is_label_mark label ≡ true
  pub is_it : word label 1 ≡ l
  pub none : NoLabels between
  pub plain : is_label_mark inst ≡ false
  pub front_is : map line between ≡ front
  pub line_is : line inst ≡ words

module _ (is : List Instruction) (admitted : IsAdmitted is) where
  closes_label : (i : Instruction) → (is_terminator i || is_label_mark i || is_function_end i) ≡ false → is_label_mark i ≡ false
  closes_label i h = by (is_terminator i) (is_label_mark i) h where
    by : (a b : Bool) → (a || b || is_function_end i) ≡ false → b ≡ false
    by true b h = absurd (cc (h))
    by false true h = absurd (cc (h))
    by false false h = refl

  none_closes : (xs : List Instruction) → NoneCloses xs → (x : Instruction) → is_label_mark x ≡ false → NoLabels (xs ++ x ∷ [])
  none_closes [] h x e = (e, tt)
  none_closes (y ∷ ys) h x e = (closes_label y h.0, none_closes ys h.1 x e)

  ends_no_label : (i : Instruction) → is_terminator i ≡ true → is_label_mark i ≡ false
  ends_no_label i h = elim (tells (is_label_mark i)) [
    | inr e ↦ e
    | inl e ↦ truth_apart (is_terminator i) h (ap ends (equal_true (opcode i) op.LABEL e))
  ]
    where
      ends : ℕ → Bool
      ends o = o == op.BRANCH || o == op.BRANCH_CONDITIONAL || o == op.SWITCH || o == op.RETURN || o == op.RETURN_VALUE || o == op.UNREACHABLE

  block_labels : (l : ℕ) → is_label (blocks_of is) l ≡ true → NoLabels (block_insts is l)
  block_labels l h =
      let b = labelled (blocks_of is) l h in
      let w = admitted.clean.walked l b.0 b.1 in
      let k = walked no_pointers (blocks_of is) admitted.clean l w.0 w.1 in
      let closed : IsClosed (behind_label is l) = closed_block is l k.block_of k.at k.settled_there.ends in
      subst NoLabels (sym closed.whole) (none_closes closed.inner closed.none closed.last (ends_no_label closed.last closed.terminates))

  some_behind : (zs before : List Instruction) (one : Instruction) (after : List Instruction) → up_to_terminator zs ≡ before ++ one ∷ after
      → (x : Instruction) × (rest : List Instruction) × (zs ≡ x ∷ rest)
  some_behind [] [] one after e = absurd (cc (e))
  some_behind [] (b ∷ before) one after e = absurd (cc (e))
  some_behind (z ∷ zs) before one after e = (z, zs, refl)

  pub line_of : (l : ℕ) (front : List (List ℕ)) (words : List ℕ) (rest : List (List ℕ)) → text is l ≡ front ++ words ∷ rest → LineOf is l front words
  line_of l front words rest e =
      let u = unmap line (block_insts is l) front words rest e in
      let more = up_to_front (behind_label is l) in
      let some = some_behind (behind_label is l) u.before u.one u.after u.same in
      let none : NoLabels (u.before ++ u.one ∷ u.after) = subst NoLabels u.same (block_labels l (behind_is_label is l some.0 some.1 some.2)) in
      let whole : behind_label is l ≡ u.before ++ u.one ∷ (u.after ++ more.0) =
      more.1 ∙ ap (λ z. z ++ more.0) u.same ∙ append_assoc u.before (u.one ∷ u.after) more.0 in
      elim (behind_cut is l) [
        | inl nothing ↦ absurd (cc (nothing, some.2))
        | inr r ↦ record {
          outer = r.front;
          label = r.label;
          between = u.before;
          inst = u.one;
          after = u.after ++ more.0;
          same = r.same ∙ ap (λ z. r.front ++ r.label ∷ z) whole ∙ sym (append_assoc r.front (r.label ∷ u.before) (u.one ∷ (u.after ++ more.0)));
          behind = whole;
          mark = r.mark;
          is_it = r.is_it;
          none = labels_front u.before (u.one ∷ u.after) none;
          plain = (labels_back u.before (u.one ∷ u.after) none).0;
          front_is = u.front_is;
          line_is = u.one_is;
        }
      ]

  -- an instruction behind a label stands in its block
  pub in_block : (b : ℕ) (pre : List Instruction) (i : Instruction) (post : List Instruction) → is ≡ pre ++ i ∷ post → IsTidy is → NoEnds pre
      → is_label_mark i ≡ false → is_function_end i ≡ false → LastLabel pre b → OneOf (line i) (text is b)
  in_block b pre i post e tidy no_ends plain goes r =
      let parted : is ≡ r.front ++ r.label ∷ (r.between ++ i ∷ post) =
      e ∙ ap (λ z. z ++ i ∷ post) r.same ∙ append_assoc r.front (r.label ∷ r.between) (i ∷ post) in
      let behind : behind_label is b ≡ r.between ++ i ∷ post =
      ap (behind_label is) (sym r.is_it) ∙ ap (λ z. behind_label z (word r.label 1)) parted
      ∙ own_front r.front r.label (r.between ++ i ∷ post) (subst (λ z. HasOwnLabels (blocks_of z)) parted admitted.own) r.mark in
      let ends : NoEnds (r.label ∷ r.between) = ends_back r.front (r.label ∷ r.between) (subst NoEnds r.same no_ends) in
      one_map line (block_insts is b) i
      (subst (λ z. OneOf i (up_to_terminator z)) (sym behind)
      (within_block r.between i post
      (tidy_back (r.front ++ r.label ∷ []) (r.between ++ i ∷ post)
      (subst IsTidy (parted ∙ sym (append_assoc r.front (r.label ∷ []) (r.between ++ i ∷ post))) tidy)) r.none ends.1 plain goes))

  -- and before a later line of the block it stands in front of that
  pub in_front : (l : ℕ) (front : List (List ℕ)) (words : List ℕ) → (x : LineOf is l front words)
      → (pre : List Instruction) (i : Instruction) (mid : List Instruction)
      → x.outer ++ x.label ∷ x.between ≡ pre ++ i ∷ mid → LastLabel pre l → OneOf (line i) front
  in_front l front words x pre i mid e r =
      let later : List Instruction = mid ++ x.inst ∷ x.after in
      let parted : is ≡ r.front ++ r.label ∷ (r.between ++ i ∷ later) =
      x.same ∙ ap (λ z. z ++ x.inst ∷ x.after) e ∙ append_assoc pre (i ∷ mid) (x.inst ∷ x.after) ∙ ap (λ z. z ++ i ∷ later) r.same
      ∙ append_assoc r.front (r.label ∷ r.between) (i ∷ later) in
      let behind : behind_label is l ≡ r.between ++ i ∷ later =
      ap (behind_label is) (sym r.is_it) ∙ ap (λ z. behind_label z (word r.label 1)) parted
      ∙ own_front r.front r.label (r.between ++ i ∷ later) (subst (λ z. HasOwnLabels (blocks_of z)) parted admitted.own) r.mark in
      let n1 : length is ≡ length x.outer + suc (length (behind_label is l)) =
      ap length (x.same ∙ append_assoc x.outer (x.label ∷ x.between) (x.inst ∷ x.after)) ∙ length-append x.outer (x.label ∷ (x.between ++ x.inst ∷ x.after))
      ∙ ap (λ z. length x.outer + suc (length z)) (sym x.behind) in
      let n2 : length is ≡ length r.front + suc (length (behind_label is l)) =
      ap length parted ∙ length-append r.front (r.label ∷ (r.between ++ i ∷ later)) ∙ ap (λ z. length r.front + suc (length z)) (sym behind) in
      let between : x.between ≡ r.between ++ i ∷ mid =
      same_behind x.outer r.front x.label r.label x.between (r.between ++ i ∷ mid) (omega (arith, n1, n2))
      (e ∙ ap (λ z. z ++ i ∷ mid) r.same ∙ append_assoc r.front (r.label ∷ r.between) (i ∷ mid)) in
      subst (OneOf (line i)) x.front_is
      (one_map line x.between i (subst (OneOf i) (sym between) (one_right i r.between (i ∷ mid) (inl refl))))
