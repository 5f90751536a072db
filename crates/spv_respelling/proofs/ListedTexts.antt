-- In the listing of a sound function, what stands behind the label of each block up to its terminator are the lines of that block.
use Rattle.std.proofs.Common.{◌≡◌, ℕ, ◌+◌, ◌≤◌, inl, inr, Bool, true, false, ◌==◌, ◌||◌, cond, List, [], ◌∷◌, ◌++◌, map, Option, Some, None, refl, sym, ap, ◌∙◌, subst, arith}
use Rattle.std.specs.Prelude.{slice_index, take, drop}
use Rattle.std.proofs.lemmas.Bool.{eqb-true, eq-eqb}
use Rattle.spv_opcodes.specs.declared.op.TheConstants as op
use Rattle.spv_module.specs.Instruction.{Instruction}
use Rattle.spv_module.specs.Layout.{is_terminator}
use Rattle.spv_blocks.specs.Blocks.{Block, times}
use Rattle.spv_blocks.specs.Cutting.{blocks_of, is_label_mark, word}
use Rattle.spv_walk.proofs.Unique.{either_holds, equal_true, tells, truth_apart}
use Rattle.spv_bodies.specs.Bodies.{Parameter, Front, ByBranch, InPlace, Body, Leaves, Finishes, Step, Enters, Splits, Selects, Switches, Loops, Function, target}
use Rattle.spv_bodies.specs.Listing.{Branching, arriving, in_order, phi_pairs, pair_words, instruction, label_line, branch_line, split_line, phi_lines, selection_line, loop_line, lines, listed, first_target}
use Rattle.spv_normal.specs.Lines.{behind_label, line, up_to_terminator}
use Rattle.spv_tree.specs.Branches.{branches_in}
use Rattle.spv_tree.specs.Tree.{words_of}
use Rattle.spv_tree.specs.Sound.{is_step, is_end, is_one_of, structure, opcode_in, IsFormed, IsSound}
use Rattle.spv_trees.specs.Standing.{OneOf}
use Rattle.spv_spelling.specs.Text.{text}
use Rattle.spv_structured.specs.Laws.{Opens}
use Rattle.spv_structured.specs.Spots.{Spot, spots_in, block_of_spot, bare_block}
use Rattle.spv_structured.proofs.Counting.{each_label_once, times_append}
use Rattle.spv_structured.proofs.ListedBlocks.{listed_blocks}
use Rattle.spv_structured.proofs.Middles.{step_is_other}
use Rattle.spv_normal_trees.proofs.Texts.{opcode_spelled}
use Rattle.spv_respelling.proofs.OwnLines.{own, front_phis, spot_lines, Stands, on_left, on_right, stands_here, body_begins, body_stands}

-- ---- the text of a block, by words

abbrev ends_by : ℕ → Bool
ends_by o = o == op.BRANCH || o == op.BRANCH_CONDITIONAL || o == op.SWITCH || o == op.RETURN || o == op.RETURN_VALUE || o == op.UNREACHABLE

abbrev is_label_of : List ℕ → ℕ → Bool
is_label_of w l = cond (opcode_in w == op.LABEL) (slice_index w 1 == l) false

abbrev behind : List (List ℕ) → ℕ → List (List ℕ)
behind [] l = []
behind (w ∷ ws) l = cond (is_label_of w l) ws (behind ws l)

abbrev up_to : List (List ℕ) → List (List ℕ)
up_to [] = []
up_to (w ∷ ws) = cond (ends_by (opcode_in w)) (w ∷ []) (w ∷ up_to ws)

abbrev line_by : List ℕ → List ℕ
line_by w = cond (opcode_in w == op.BRANCH_CONDITIONAL) (instruction op.BRANCH_CONDITIONAL (take 3 (drop 1 w))) w

words_behind : (is : List Instruction) (l : ℕ) → words_of (behind_label is l) ≡ behind (words_of is) l
words_behind [] l = refl
words_behind (i ∷ is) l = by (is_label_of i.words l) (words_behind is l)
  where
    by : (b : Bool) → words_of (behind_label is l) ≡ behind (words_of is) l
        → words_of (cond b is (behind_label is l)) ≡ cond b (words_of is) (behind (words_of is) l)
    by true e = refl
    by false e = e

words_up_to : (is : List Instruction) → words_of (up_to_terminator is) ≡ up_to (words_of is)
words_up_to [] = refl
words_up_to (i ∷ is) = by (is_terminator i) (words_up_to is)
  where
    by : (b : Bool) → words_of (up_to_terminator is) ≡ up_to (words_of is)
        → words_of (cond b (i ∷ []) (i ∷ up_to_terminator is)) ≡ cond b (i.words ∷ []) (i.words ∷ up_to (words_of is))
    by true e = refl
    by false e = ap (λ z. i.words ∷ z) e

lines_by_words : (is : List Instruction) → map line is ≡ map line_by (words_of is)
lines_by_words [] = refl
lines_by_words (i ∷ is) = ap (λ z. line i ∷ z) (lines_by_words is)

text_by_words : (insts : List Instruction) (l : ℕ) → text insts l ≡ map line_by (up_to (behind (words_of insts) l))
text_by_words insts l =
    lines_by_words (up_to_terminator (behind_label insts l))
    ∙ ap (map line_by) (words_up_to (behind_label insts l) ∙ ap up_to (words_behind insts l))

-- ---- labels among lines

abbrev labels_among : List (List ℕ) → List ℕ
labels_among [] = []
labels_among (w ∷ ws) = cond (opcode_in w == op.LABEL) (slice_index w 1 ∷ labels_among ws) (labels_among ws)

labels_of_blocks : (is : List Instruction) → map (λ (b : Block). b.label) (blocks_of is) ≡ labels_among (words_of is)
labels_of_blocks [] = refl
labels_of_blocks (i ∷ is) = by (is_label_mark i) (labels_of_blocks is)
  where
    by : (b : Bool) → map (λ (b : Block). b.label) (blocks_of is) ≡ labels_among (words_of is)
        → map (λ (b : Block). b.label) (cond b (Rattle.spv_blocks.specs.Cutting.block_of i is ∷ blocks_of is) (blocks_of is))
        ≡ cond b (slice_index i.words 1 ∷ labels_among (words_of is)) (labels_among (words_of is))
    by true e = ap (λ z. slice_index i.words 1 ∷ z) e
    by false e = e

labels_append : (xs ys : List (List ℕ)) → labels_among (xs ++ ys) ≡ labels_among xs ++ labels_among ys
labels_append [] ys = refl
labels_append (x ∷ xs) ys = by (opcode_in x == op.LABEL) (labels_append xs ys)
  where
    by : (b : Bool) → labels_among (xs ++ ys) ≡ labels_among xs ++ labels_among ys
        → cond b (slice_index x 1 ∷ labels_among (xs ++ ys)) (labels_among (xs ++ ys))
        ≡ cond b (slice_index x 1 ∷ labels_among xs) (labels_among xs) ++ labels_among ys
    by true e = ap (λ z. slice_index x 1 ∷ z) e
    by false e = e

-- a label that does not stand before is found where it stands
found_there : (before rest : List (List ℕ)) (l : ℕ) → times (labels_among before) l ≡ 0 → behind (before ++ label_line l ∷ rest) l ≡ rest
found_there [] rest l none = ap (λ b. cond b rest (behind rest l)) (eq-eqb l l refl)
found_there (w ∷ ws) rest l none = elim (tells (opcode_in w == op.LABEL)) [
  | inl t ↦ elim (tells (slice_index w 1 == l)) [
    | inl s ↦
        let some : times (slice_index w 1 ∷ labels_among ws) l ≡ 0 =
        ap (λ b. times (cond b (slice_index w 1 ∷ labels_among ws) (labels_among ws)) l) (sym t) ∙ none in
        let more : times (labels_among ws) l + 1 ≡ 0 = ap (λ b. cond b (times (labels_among ws) l + 1) (times (labels_among ws) l)) (sym s) ∙ some in
        absurd (omega (arith, more))
    | inr s ↦
        let some : times (slice_index w 1 ∷ labels_among ws) l ≡ 0 =
        ap (λ b. times (cond b (slice_index w 1 ∷ labels_among ws) (labels_among ws)) l) (sym t) ∙ none in
        let more : times (labels_among ws) l ≡ 0 = ap (λ b. cond b (times (labels_among ws) l + 1) (times (labels_among ws) l)) (sym s) ∙ some in
        ap (λ b. cond (cond b (slice_index w 1 == l) false) (ws ++ label_line l ∷ rest) (behind (ws ++ label_line l ∷ rest) l)) t
        ∙ ap (λ b. cond b (ws ++ label_line l ∷ rest) (behind (ws ++ label_line l ∷ rest) l)) s ∙ found_there ws rest l more
  ]
  | inr t ↦
      let more : times (labels_among ws) l ≡ 0 = ap (λ b. times (cond b (slice_index w 1 ∷ labels_among ws) (labels_among ws)) l) (sym t) ∙ none in
      ap (λ b. cond (cond b (slice_index w 1 == l) false) (ws ++ label_line l ∷ rest) (behind (ws ++ label_line l ∷ rest) l)) t ∙ found_there ws rest l more
]

-- where it stands once in all
found_once : (before rest : List (List ℕ)) (l : ℕ) → times (labels_among (before ++ label_line l ∷ rest)) l ≤ 1
    → behind (before ++ label_line l ∷ rest) l ≡ rest
found_once before rest l once =
    let parts = ap (λ z. times z l) (labels_append before (label_line l ∷ rest)) ∙ times_append (labels_among before) (l ∷ labels_among rest) l in
    let here : times (l ∷ labels_among rest) l ≡ times (labels_among rest) l + 1 =
    ap (λ b. cond b (times (labels_among rest) l + 1) (times (labels_among rest) l)) (eq-eqb l l refl) in
    found_there before rest l (omega (arith, once, parts, here))

-- ---- lines up to a terminator

-- these are the lines of a block, whatever follows
abbrev pub IsWhole : List (List ℕ) → Type 0
IsWhole t = (z : List (List ℕ)) → map line_by (up_to (t ++ z)) ≡ t

plain_line : (w : List ℕ) → (opcode_in w == op.BRANCH_CONDITIONAL) ≡ false → line_by w ≡ w
plain_line w e = ap (λ b. cond b (instruction op.BRANCH_CONDITIONAL (take 3 (drop 1 w))) w) e

last_whole : (w : List ℕ) → ends_by (opcode_in w) ≡ true → line_by w ≡ w → IsWhole (w ∷ [])
last_whole w ends same z = ap (λ b. map line_by (cond b (w ∷ []) (w ∷ up_to z))) ends ∙ ap (λ v. v ∷ []) same

middle_whole : (w : List ℕ) (t : List (List ℕ)) → ends_by (opcode_in w) ≡ false → line_by w ≡ w → IsWhole t → IsWhole (w ∷ t)
middle_whole w t goes same h z =
    ap (λ b. map line_by (cond b (w ∷ []) (w ∷ up_to (t ++ z)))) goes ∙ ap (λ v. v ∷ map line_by (up_to (t ++ z))) same ∙ ap (λ ls. w ∷ ls) (h z)

-- by the opcode
last_of : (w : List ℕ) (o : ℕ) → opcode_in w ≡ o → ends_by o ≡ true → (o == op.BRANCH_CONDITIONAL) ≡ false → IsWhole (w ∷ [])
last_of w o same ends plain = last_whole w (ap ends_by same ∙ ends) (plain_line w (ap (λ p. p == op.BRANCH_CONDITIONAL) same ∙ plain))

middle_of : (w : List ℕ) (t : List (List ℕ)) (o : ℕ) → opcode_in w ≡ o → ends_by o ≡ false → (o == op.BRANCH_CONDITIONAL) ≡ false → IsWhole t → IsWhole (w ∷ t)
middle_of w t o same goes plain h = middle_whole w t (ap ends_by same ∙ goes) (plain_line w (ap (λ p. p == op.BRANCH_CONDITIONAL) same ∙ plain)) h

not_one : (o p : ℕ) → is_one_of structure o ≡ false → is_one_of structure p ≡ true → (o == p) ≡ false
not_one o p other is = elim (tells (o == p)) [
  | inl e ↦ truth_apart (is_one_of structure o) (ap (is_one_of structure) (equal_true o p e) ∙ is) other
  | inr e ↦ e
]

step_whole : (w : List ℕ) (t : List (List ℕ)) → is_step (opcode_in w) ≡ true → IsWhole t → IsWhole (w ∷ t)
step_whole w t is h =
    let o = opcode_in w in
    let other = step_is_other o is in
    let goes : ends_by o ≡ false =
    rw (
      not_one o op.BRANCH other refl,
      not_one o op.BRANCH_CONDITIONAL other refl,
      not_one o op.SWITCH other refl,
      not_one o op.RETURN other refl,
      not_one o op.RETURN_VALUE other refl,
      not_one o op.UNREACHABLE other refl,
    ) refl in
    middle_whole w t goes (plain_line w (not_one o op.BRANCH_CONDITIONAL other refl)) h

finish_whole : (w : List ℕ) → is_end (opcode_in w) ≡ true → IsWhole (w ∷ [])
finish_whole w is =
    let o = opcode_in w in
    elim (either_holds (o == op.RETURN) ((o == op.RETURN_VALUE) || ((o == op.UNREACHABLE) || false)) is) [
      | inl e ↦ last_of w op.RETURN (eqb-true o op.RETURN e) refl refl
      | inr g ↦ elim (either_holds (o == op.RETURN_VALUE) ((o == op.UNREACHABLE) || false) g) [
        | inl e ↦ last_of w op.RETURN_VALUE (eqb-true o op.RETURN_VALUE e) refl refl
        | inr k ↦ elim (either_holds (o == op.UNREACHABLE) false k) [
          | inl e ↦ last_of w op.UNREACHABLE (eqb-true o op.UNREACHABLE e) refl refl
          | inr f ↦ absurd (cc f)
        ]
      ]
    ]

branch_whole : (label : ℕ) → IsWhole (branch_line label ∷ [])
branch_whole label = last_of (branch_line label) op.BRANCH refl refl refl

split_whole : (condition : ℕ) (on : Bool) (exit other : ℕ) → IsWhole (split_line condition on exit other ∷ [])
split_whole condition true exit other = last_whole (split_line condition true exit other) refl refl
split_whole condition false exit other = last_whole (split_line condition false exit other) refl refl

selection_whole : (merge control : ℕ) (t : List (List ℕ)) → IsWhole t → IsWhole (selection_line merge control ∷ t)
selection_whole merge control t h = middle_of (selection_line merge control) t op.SELECTION_MERGE refl refl refl h

switch_whole : (words : List ℕ) → IsWhole (instruction op.SWITCH words ∷ [])
switch_whole words = last_of (instruction op.SWITCH words) op.SWITCH (opcode_spelled op.SWITCH words (omega arith)) refl refl

phis_whole : (k : ℕ) (here : List Branching) (ps : List Parameter) (t : List (List ℕ)) → IsWhole t → IsWhole (phi_lines k here ps ++ t)
phis_whole k here [] t h = h
phis_whole k here (p ∷ ps) t h =
    let words = p.type ∷ p.result_id ∷ pair_words (phi_pairs k (in_order p.parents here)) in
    middle_of (instruction op.PHI words) (phi_lines (k + 1) here ps ++ t) op.PHI (opcode_spelled op.PHI words (omega arith)) refl refl
    (phis_whole (k + 1) here ps t h)

-- the merge instruction of a header, where there is one
abbrev pub Opening : List (List ℕ) → Type 0
Opening opened = (t : List (List ℕ)) → IsWhole t → IsWhole (opened ++ t)

none_opening : Opening []
none_opening t h = h

loop_opening : (merge next control : ℕ) → Opening (loop_line merge next control ∷ [])
loop_opening merge next control t h = middle_of (loop_line merge next control) t op.LOOP_MERGE refl refl refl h

own_whole : (all : List Branching) (body : Body) (opened : List (List ℕ)) → Opening opened → IsFormed all body → IsWhole (own opened body)
own_whole all (Leaves exit) opened o formed = o (branch_line exit.target ∷ []) (branch_whole exit.target)
own_whole all (Finishes words) opened o formed = o (words ∷ []) (finish_whole words formed)
own_whole all (Step words body) opened o formed = step_whole words (own opened body) formed.0 (own_whole all body opened o formed.1)
own_whole all (Enters label body) opened o formed = o (branch_line label ∷ []) (branch_whole label)
own_whole all (Splits condition on exit body) opened o formed =
    o (split_line condition on exit.target (target body) ∷ []) (split_whole condition on exit.target (target body))
own_whole all (Selects control condition first second merge rest) opened o formed =
    let t = split_line condition true (target first) (target second) ∷ [] in
    o (selection_line merge.label control ∷ t) (selection_whole merge.label control t (split_whole condition true (target first) (target second)))
own_whole all (Switches control selector cases arms merge rest) opened o formed =
    let words = selector ∷ first_target arms ∷ pair_words cases in
    o (selection_line merge.label control ∷ instruction op.SWITCH words ∷ [])
    (selection_whole merge.label control (instruction op.SWITCH words ∷ []) (switch_whole words))
own_whole all (Loops (ByBranch values) header control inner next continuing merge rest) opened o formed =
    o (branch_line header.label ∷ []) (branch_whole header.label)
own_whole all (Loops InPlace header control inner next continuing merge rest) opened o formed =
    own_whole all inner (loop_line merge.label next.label control ∷ []) (loop_opening merge.label next.label control) formed.4

front_whole : (all : List Branching) (front : Option Front) (t : List (List ℕ)) → IsWhole t → IsWhole (front_phis all front ++ t)
front_whole all None t h = h
front_whole all (Some front) t h = phis_whole 0 (arriving front.label all) front.parameters t h

-- ---- functions

pub labels_bare : (bs : List Block) → map (λ (b : Block). b.label) (map bare_block bs) ≡ map (λ (b : Block). b.label) bs
labels_bare [] = refl
labels_bare (b ∷ bs) = ap (λ z. b.label ∷ z) (labels_bare bs)

pub labels_of_spots : (all : List Branching) (spots : List Spot)
    → map (λ (b : Block). b.label) (map (block_of_spot all) spots) ≡ map (λ (s : Spot). s.label) spots
labels_of_spots all [] = refl
labels_of_spots all (s ∷ spots) = ap (λ z. s.label ∷ z) (labels_of_spots all spots)

module _ (f : Function) (again : List Instruction) (sound : IsSound f) (opened : Opens f) (same : words_of again ≡ listed f) where
  abbrev all : List Branching
  all = branches_in f

  -- each block stands in the listing
  stands : (s : Spot) → OneOf s (spots_in f) → Stands s.label (spot_lines all s) (listed f)
  stands s (inl e) =
      let rest = lines all [] f.body ++ instruction op.FUNCTION_END [] ∷ [] in
      let b = body_begins all f.body [] in
      subst (λ z. Stands z.label (spot_lines all z) (listed f)) (sym e)
      (on_right f.label (own [] f.body) (f.function ∷ []) (f.parameters ++ label_line f.label ∷ rest)
      (on_right f.label (own [] f.body) f.parameters (label_line f.label ∷ rest)
      (on_left f.label (own [] f.body) (label_line f.label ∷ lines all [] f.body) (instruction op.FUNCTION_END [] ∷ [])
      (stands_here f.label (own [] f.body) (lines all [] f.body) b))))
  stands s (inr h) =
      let rest = lines all [] f.body ++ instruction op.FUNCTION_END [] ∷ [] in
      let t = spot_lines all s in
      on_right s.label t (f.function ∷ []) (f.parameters ++ label_line f.label ∷ rest)
      (on_right s.label t f.parameters (label_line f.label ∷ rest)
      (on_right s.label t (label_line f.label ∷ []) rest
      (on_left s.label t (lines all [] f.body) (instruction op.FUNCTION_END [] ∷ []) (body_stands all f.body [] [] f.label sound.formed s h))))

  labels_listed : labels_among (listed f) ≡ map (λ (s : Spot). s.label) (spots_in f)
  labels_listed =
      ap labels_among (sym same) ∙ sym (labels_of_blocks again) ∙ sym (labels_bare (blocks_of again))
      ∙ ap (map (λ (b : Block). b.label)) (listed_blocks f again sound opened same) ∙ labels_of_spots all (spots_in f)

  -- so its text is that of the listing
  pub spot_text : (s : Spot) → OneOf s (spots_in f) → IsFormed all s.body → text again s.label ≡ spot_lines all s
  spot_text s h formed =
      let there = stands s h in
      let rest = spot_lines all s ++ there.after in
      let once : times (labels_among (there.before ++ label_line s.label ∷ rest)) s.label ≤ 1 =
      subst (λ z. times z s.label ≤ 1) (sym labels_listed ∙ ap labels_among there.same) (each_label_once f sound s.label) in
      text_by_words again s.label ∙ ap (λ ws. map line_by (up_to (behind ws s.label))) (same ∙ there.same)
      ∙ ap (λ ws. map line_by (up_to ws)) (found_once there.before rest s.label once)
      ∙ front_whole all s.front (own [] s.body) (own_whole all s.body [] none_opening formed) there.after
