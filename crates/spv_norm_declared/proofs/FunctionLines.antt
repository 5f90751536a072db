-- The lines of a function in its normal form are instructions, where its own are.
use Rattle.std.proofs.Common.{◌≡◌, ℕ, zero, suc, ◌+◌, ◌<◌, ◌≤◌, Bool, true, false, not, cond, nat_eq, ◌==◌, List, [], ◌∷◌, ◌++◌, length, map, drop, Option, Some, None, refl, sym, ap, subst, ◌∙◌, arith}
use Rattle.std.specs.List.{AllByRecursion, filter, flat_map, range_with_len, slice_get}
use Rattle.std.specs.Map.{lookup}
use Rattle.std.specs.Option.{unwrap_or}
use Rattle.spv_opcodes.specs.declared.op.TheConstants as op
use Rattle.spv_module.specs.Code.{is_function, is_line}
use Rattle.spv_module.specs.Instruction.{Instruction, opcode}
use Rattle.spv_module.specs.Layout.{is_terminator}
use Rattle.spv_blocks.specs.Blocks.{Code, block, has, is_label, is_some_block, times}
use Rattle.spv_blocks.specs.Cutting.{begun_function, block_of, blocks_of, function_from, function_insts, is_function_end, is_label_mark, rest_of_function, starts, word}
use Rattle.spv_walk.proofs.Unique.{equal_true}
use Rattle.spv_bodies.specs.Bodies.{Function}
use Rattle.spv_bodies.specs.Listing.{instruction, label_line}
use Rattle.spv_normal.specs.Lines.{before_labels, behind_label, block_insts, line, up_to_terminator, without_marks}
use Rattle.spv_normal.specs.Normal.{block_lines, copied, joins_next, kept, normal_function, normal_line, renamed}
use Rattle.spv_normal.specs.Order.{is_front, joins, label_behind, ordered, with_labels}
use Rattle.spv_spelling.specs.Spelling.{SpellsFunction}
use Rattle.spv_spelling.specs.Whole.{IsAdmitted}
use Rattle.spv_normal_trees.specs.Laws.{stays_by}
use Rattle.spv_normal_trees.proofs.Listed.{stands_once}
use Rattle.spv_normal_trees.proofs.Members.{has_head, has_tail}
use Rattle.spv_sound_trees.proofs.Marks.{some_times}
use Rattle.spv_norm_declared.proofs.Instructions.{Are, IsUnbroken, LinesAre}
use Rattle.spv_norm_declared.proofs.MadeLines.{IsIn, copied_fine, end_fine, label_fine, label_in, line_fine, renamed_fine}
use Rattle.spv_norm_declared.proofs.PhiPairs.{HasPair, block_pairs}

-- ---- parts of a list

module _ (P : Instruction → Type 0) where
  all_drop : (k : ℕ) (is : List Instruction) → AllByRecursion P is → AllByRecursion P (drop k is)
  all_drop zero is h = h
  all_drop (suc k) [] h = tt
  all_drop (suc k) (i ∷ is) h = all_drop k is h.1

  pub all_filter : (p : Instruction → Bool) (is : List Instruction) → AllByRecursion P is → AllByRecursion P (filter p is)
  all_filter p [] h = tt
  all_filter p (i ∷ is) h = by (p i) (all_filter p is h.1)
    where
      by : (b : Bool) → AllByRecursion P (filter p is) → AllByRecursion P (cond b (i ∷ filter p is) (filter p is))
      by true later = (h.0, later)
      by false later = later

  all_rest : (is : List Instruction) → AllByRecursion P is → AllByRecursion P (rest_of_function is)
  all_rest [] h = tt
  all_rest (i ∷ is) h = by (is_function i) (is_function_end i) (all_rest is h.1)
    where
      by : (f e : Bool) → AllByRecursion P (rest_of_function is) → AllByRecursion P (cond f [] (cond e (i ∷ []) (i ∷ rest_of_function is)))
      by true e later = tt
      by false true later = (h.0, tt)
      by false false later = (h.0, later)

  all_begun : (is : List Instruction) → AllByRecursion P is → AllByRecursion P (begun_function is)
  all_begun [] h = tt
  all_begun (i ∷ is) h = (h.0, all_rest is h.1)

  all_from : (is : List Instruction) (o : Option ℕ) → AllByRecursion P is → AllByRecursion P (function_from is o)
  all_from is None h = tt
  all_from is (Some n) h = all_begun (drop n is) (all_drop n is h)

  -- the instructions of a function, without line marks
  pub all_of_function : (is : List Instruction) (k : ℕ) → AllByRecursion P is → AllByRecursion P (without_marks (function_insts k is))
  all_of_function is k h = all_filter (λ i. not (is_line i)) (function_insts k is) (all_from is (slice_get (starts is) k) h)

  pub all_behind : (is : List Instruction) (l : ℕ) → AllByRecursion P is → AllByRecursion P (behind_label is l)
  all_behind [] l h = tt
  all_behind (i ∷ is) l h = by (cond (is_label_mark i) (word i 1 == l) false) (all_behind is l h.1)
    where
      by : (b : Bool) → AllByRecursion P (behind_label is l) → AllByRecursion P (cond b is (behind_label is l))
      by true later = h.1
      by false later = later

  pub all_up_to : (is : List Instruction) → AllByRecursion P is → AllByRecursion P (up_to_terminator is)
  all_up_to [] h = tt
  all_up_to (i ∷ is) h = by (is_terminator i) (all_up_to is h.1)
    where
      by : (b : Bool) → AllByRecursion P (up_to_terminator is) → AllByRecursion P (cond b (i ∷ []) (i ∷ up_to_terminator is))
      by true later = (h.0, tt)
      by false later = (h.0, later)

  pub all_before : (is : List Instruction) → AllByRecursion P is → AllByRecursion P (before_labels is)
  all_before [] h = tt
  all_before (i ∷ is) h = by (is_label_mark i) (all_before is h.1)
    where
      by : (b : Bool) → AllByRecursion P (before_labels is) → AllByRecursion P (cond b [] (i ∷ before_labels is))
      by true later = tt
      by false later = (h.0, later)

  pub all_kept : (joined : Bool) (is : List Instruction) → AllByRecursion P is → AllByRecursion P (kept joined is)
  all_kept joined [] h = tt
  all_kept joined (i ∷ is) h = by (cond joined (is_terminator i) false) (all_kept joined is h.1)
    where
      by : (b : Bool) → AllByRecursion P (kept joined is) → AllByRecursion P (cond b [] (i ∷ kept joined is))
      by true later = tt
      by false later = (h.0, later)

all_mapped : (P : Instruction → Type 0) (Q : List ℕ → Type 0) (g : Instruction → List ℕ) → ((i : Instruction) → P i → Q (g i)) → (is : List Instruction)
    → AllByRecursion P is → AllByRecursion Q (map g is)
all_mapped P Q g to [] h = tt
all_mapped P Q g to (i ∷ is) h = (to i h.0, all_mapped P Q g to is h.1)

pub all_pairs : (P Q : Instruction → Type 0) (is : List Instruction) → AllByRecursion P is → AllByRecursion Q is → AllByRecursion (λ i. P i × Q i) is
all_pairs P Q [] h g = tt
all_pairs P Q (i ∷ is) h g = ((h.0, g.0), all_pairs P Q is h.1 g.1)

pub all_both : {A : Type 0} (P : A → Type 0) (xs ys : List A) → AllByRecursion P xs → AllByRecursion P ys → AllByRecursion P (xs ++ ys)
all_both P [] ys h g = g
all_both P (x ∷ xs) ys h g = (h.0, all_both P xs ys h.1 g)

all_flat : {A : Type 0} (P : A → Type 0) (Q : List ℕ → Type 0) (F : A → List (List ℕ)) → ((x : A) → P x → AllByRecursion Q (F x)) → (xs : List A)
    → AllByRecursion P xs → AllByRecursion Q (flat_map F xs)
all_flat P Q F to [] h = tt
all_flat P Q F to (x ∷ xs) h = all_both Q (F x) (flat_map F xs) (to x h.0) (all_flat P Q F to xs h.1)

-- ---- labels

-- in the order of the constructs, labels alone stand
all_by_members : (R : ℕ → Type 0) (xs : List ℕ) → ((l : ℕ) → has xs l ≡ true → R l) → AllByRecursion R xs
all_by_members R [] h = tt
all_by_members R (x ∷ xs) h = (h x (has_head x xs x refl), all_by_members R xs (λ l k. h l (has_tail x xs l k)))

counted_label : (b : Bool) (n : ℕ) → n ≡ cond b 1 0 → 1 ≤ n → b ≡ true
counted_label true n e some = refl
counted_label false n e some = absurd (omega (arith, e, some))

abbrev BothLabels : Code → ℕ × ℕ → Type 0
BothLabels f b = (is_label f b.0 ≡ true) × (is_label f b.1 ≡ true)

abbrev LabelBefore : Code → Option (ℕ × ℕ) → Type 0
LabelBefore f None = Unit {0}
LabelBefore f (Some b) = is_label f b.1 ≡ true

-- the label that stays for one is one
behind_is_label : (f : Code) (before : Option (ℕ × ℕ)) (l : ℕ) → LabelBefore f before → is_label f l ≡ true → is_label f (label_behind f before l) ≡ true
behind_is_label f None l h e = e
behind_is_label f (Some b) l h e = by (joins f b.0 l)
  where
    by : (j : Bool) → is_label f (cond j b.1 l) ≡ true
    by true = h
    by false = e

labels_with : (f : Code) (before : Option (ℕ × ℕ)) (ls : List ℕ) → LabelBefore f before → AllByRecursion (λ l. is_label f l ≡ true) ls
    → AllByRecursion (BothLabels f) (with_labels f before ls)
labels_with f before [] h each = tt
labels_with f before (l ∷ ls) h each =
    let here = behind_is_label f before l h each.0 in
    ((each.0, here), labels_with f (Some (l, label_behind f before l)) ls here each.1)

looked_up : (Q : ℕ → Type 0) (x : ℕ) (entries : List (ℕ × ℕ)) → Q x → AllByRecursion (λ b. Q b.1) entries → Q (unwrap_or (lookup (nat_eq x) entries) x)
looked_up Q x [] q h = q
looked_up Q x (e ∷ es) q h = by (nat_eq x e.0) (looked_up Q x es q h.1)
  where
    by : (b : Bool) → Q (unwrap_or (lookup (nat_eq x) es) x) → Q (unwrap_or (cond b (Some e.1) (lookup (nat_eq x) es)) x)
    by true later = h.0
    by false later = later

-- a label of a block is that of an OpLabel
pub record HasMark (P : Instruction → Type 0) (l : ℕ) : Type 0 where
  pub inst : Instruction
  pub is : P inst
  pub marks : is_label_mark inst ≡ true
  pub label : word inst 1 ≡ l

has_mark : (P : Instruction → Type 0) (is : List Instruction) (l : ℕ) → AllByRecursion P is → is_label (blocks_of is) l ≡ true → HasMark P l
has_mark P [] l h e = absurd (cc e)
has_mark P (i ∷ is) l h e = by (is_label_mark i) (word i 1 == l) refl refl e (has_mark P is l h.1)
  where
    by : (mark same : Bool) → is_label_mark i ≡ mark → (word i 1 == l) ≡ same
        → is_some_block (block (cond mark (block_of i is ∷ blocks_of is) (blocks_of is)) l) ≡ true
        → (is_label (blocks_of is) l ≡ true → HasMark P l) → HasMark P l
    by true true m s e more = record { inst = i; is = h.0; marks = m; label = equal_true (word i 1) l s }
    by true false m s e more = more (sym (ap (λ (b : Bool). is_some_block (cond b (Some (block_of i is)) (block (blocks_of is) l))) s) ∙ e)
    by false same m s e more = more e

-- ---- lines

-- what is so of the lines that are made of instructions
pub record AreMade (P : Instruction → Type 0) (Q : List ℕ → Type 0) (stays : ℕ → ℕ) : Type 0 where
  pub label : (i : Instruction) → P i → is_label_mark i ≡ true → Q (label_line (word i 1))
  pub line : (i : Instruction) → P i → Q (line i)
  pub renamed : (i : Instruction) → P i → opcode i ≡ op.PHI → Q (renamed stays i)
  pub copied : (i : Instruction) → P i → opcode i ≡ op.PHI → 4 ≤ length i.words → Q (copied i)
  pub end : Q (instruction op.FUNCTION_END [])

normal_line_made : (P : Instruction → Type 0) (Q : List ℕ → Type 0) (stays : ℕ → ℕ) → AreMade P Q stays → (front : Bool) (i : Instruction) → P i
    → (front ≡ false → HasPair i) → Q (normal_line stays front i)
normal_line_made P Q stays made front i u pair = by (opcode i == op.PHI) front refl refl
  where
    by : (phi b : Bool) → (opcode i == op.PHI) ≡ phi → front ≡ b → Q (cond phi (cond b (renamed stays i) (copied i)) (line i))
    by true true e g = made.renamed i u (equal_true (opcode i) op.PHI e)
    by true false e g = made.copied i u (equal_true (opcode i) op.PHI e) (pair g e)
    by false b e g = made.line i u

module _ (insts : List Instruction) (stays : ℕ → ℕ) (tree : Function) (admitted : IsAdmitted insts) (spells : SpellsFunction insts stays tree) where
  abbrev f : Code
  f = blocks_of insts

  abbrev labels : List (ℕ × ℕ)
  labels = with_labels f None (ordered f)

  abbrev given : ℕ → ℕ
  given = stays_by f

  pub order_labels : AllByRecursion (λ l. is_label f l ≡ true) (ordered f)
  order_labels =
      all_by_members (λ l. is_label f l ≡ true) (ordered f)
      (λ l h. counted_label (is_label f l) (times (ordered f) l) (stands_once insts stays tree admitted spells l) (some_times (ordered f) l h))

  both_labels : AllByRecursion (BothLabels f) labels
  both_labels = labels_with f None (ordered f) tt order_labels

  -- the label that stays for one has what all labels have
  pub stays_have : (R : ℕ → Type 0) → ((l : ℕ) → is_label f l ≡ true → R l) → (x : ℕ) → R x → R (given x)
  stays_have R each x h = looked_up R x labels h (seconds labels both_labels)
    where
      seconds : (bs : List (ℕ × ℕ)) → AllByRecursion (BothLabels f) bs → AllByRecursion (λ b. R b.1) bs
      seconds [] h = tt
      seconds (b ∷ bs) h = (each b.1 h.0.1, seconds bs h.1)

  pub pairs_of : (l : ℕ) → is_label f l ≡ true → (front : Bool) → is_front f l ≡ front → AllByRecursion (λ i. front ≡ false → HasPair i) (block_insts insts l)
  pairs_of l label true e = any (block_insts insts l)
    where
      any : (is : List Instruction) → AllByRecursion (λ i. true ≡ false → HasPair i) is
      any [] = tt
      any (i ∷ is) = (λ e. absurd (cc e), any is)
  pairs_of l label false e = each (block_insts insts l) (block_pairs insts l admitted.clean label e)
    where
      each : (is : List Instruction) → AllByRecursion HasPair is → AllByRecursion (λ i. false ≡ false → HasPair i) is
      each [] h = tt
      each (i ∷ is) h = (λ e. h.0, each is h.1)

  module _ (P : Instruction → Type 0) (Q : List ℕ → Type 0) (are : AllByRecursion P insts) (made : AreMade P Q given) where
    own_label : (b : ℕ × ℕ) → BothLabels f b → AllByRecursion Q (cond (b.0 == b.1) (label_line b.0 ∷ []) [])
    own_label b h = by (b.0 == b.1)
      where
        by : (same : Bool) → AllByRecursion Q (cond same (label_line b.0 ∷ []) [])
        by true = let m = has_mark P insts b.0 are h.0 in (subst (λ l. Q (label_line l)) m.label (made.label m.inst m.is m.marks), tt)
        by false = tt

    block_are : (l : ℕ) → AllByRecursion P (block_insts insts l)
    block_are l = all_up_to P (behind_label insts l) (all_behind P insts l are)

    block_made : (b : ℕ × ℕ) → BothLabels f b → AllByRecursion Q (block_lines insts f given b)
    block_made b h =
        let front : Bool = is_front f b.0 in
        let lines : AllByRecursion Q (map (normal_line given front) (kept (joins_next f b.0) (block_insts insts b.0))) =
        all_mapped (λ i. P i × (front ≡ false → HasPair i)) Q (normal_line given front)
        (λ i u. normal_line_made P Q given made front i u.0 u.1) (kept (joins_next f b.0) (block_insts insts b.0))
        (all_kept (λ i. P i × (front ≡ false → HasPair i)) (joins_next f b.0) (block_insts insts b.0)
        (all_pairs P (λ i. front ≡ false → HasPair i) (block_insts insts b.0) (block_are b.0) (pairs_of b.0 h.0 front refl))) in
        all_both Q (cond (b.0 == b.1) (label_line b.0 ∷ []) []) (map (normal_line given front) (kept (joins_next f b.0) (block_insts insts b.0)))
        (own_label b h) lines

    front_made : AllByRecursion Q (map line (before_labels insts))
    front_made = all_mapped P Q line (λ i u. made.line i u) (before_labels insts) (all_before P insts are)

    pub lines_made : AllByRecursion Q (map line (before_labels insts) ++ (flat_map (block_lines insts f given) labels ++ instruction op.FUNCTION_END [] ∷ []))
    lines_made =
        let blocks = all_flat (BothLabels f) Q (block_lines insts f given) block_made labels both_labels in
        let end = instruction op.FUNCTION_END [] ∷ [] in
        all_both Q (map line (before_labels insts)) (flat_map (block_lines insts f given) labels ++ end) front_made
        (all_both Q (flat_map (block_lines insts f given) labels) end blocks (made.end, tt))

-- ---- lines that break no rule

module _ (bound : ℕ) (insts : List Instruction) (stays : ℕ → ℕ) (tree : Function) (admitted : IsAdmitted (without_marks insts))
    (spells : SpellsFunction (without_marks insts) stays tree) (are : Are bound (without_marks insts)) where
  abbrev is : List Instruction
  is = without_marks insts

  label_bound : (l : ℕ) → is_label (blocks_of is) l ≡ true → IsIn bound l
  label_bound l h =
      let m = has_mark (λ i. IsUnbroken bound i.words) is l are h in
      subst (IsIn bound) m.label (label_in bound m.inst.words m.is (equal_true (opcode m.inst) op.LABEL m.marks))

  -- the label that stays for one is in the bound
  pub stays_in : (x : ℕ) → IsIn bound x → IsIn bound (stays_by (blocks_of is) x)
  stays_in = stays_have is stays tree admitted spells (IsIn bound) label_bound

  -- a function in its normal form
  pub function_fine : LinesAre bound (normal_function insts)
  function_fine =
      lines_made is stays tree admitted spells (λ i. IsUnbroken bound i.words) (IsUnbroken bound) are (record {
        label = λ i u m. label_fine bound (word i 1) (label_in bound i.words u (equal_true (opcode i) op.LABEL m));
        line = λ i u. line_fine bound i u;
        renamed = λ i u e. renamed_fine bound (stays_by (blocks_of is)) i stays_in u e;
        copied = λ i u e some. copied_fine bound i u e some;
        end = end_fine bound;
      })

-- of all functions
pub functions_have : (Q : List ℕ → Type 0) (F : ℕ → List (List ℕ)) (a n : ℕ) → ((j : ℕ) → j < n → AllByRecursion Q (F (a + j)))
    → AllByRecursion Q (flat_map F (range_with_len a n))
functions_have Q F a zero h = tt
functions_have Q F a (suc n) h =
    all_both Q (F a) (flat_map F (range_with_len (a + 1) n)) (subst (λ k. AllByRecursion Q (F k)) (at_once a) (h 0 (omega arith)))
    (functions_have Q F (a + 1) n (λ j lt. subst (λ k. AllByRecursion Q (F k)) (one_later a j) (h (suc j) (omega arith))))
  where
    at_once : (n : ℕ) → n + 0 ≡ n
    at_once n = omega arith

    one_later : (n k : ℕ) → n + suc k ≡ (n + 1) + k
    one_later n k = omega arith
