-- Tests of lines that pass at no line before a terminator: of the end that a line makes, and of the label that it defines.
use Rattle.std.proofs.Common.{◌≡◌, inl, inr, ℕ, Bool, true, false, cond, ◌&&◌, ◌||◌, ◌==◌, List, [], ◌∷◌, take, drop, slice_index, refl, sym, ap, ◌∙◌, arith}
use Rattle.spv_opcodes.specs.declared.op.TheConstants as op
use Rattle.spv_module.specs.Instruction.{Instruction, opcode}
use Rattle.spv_module.specs.Layout.{is_terminator}
use Rattle.spv_blocks.specs.Blocks.{End, Branch, BranchIf, Switch, Return, Unreachable, Open}
use Rattle.spv_blocks.specs.Cutting.{closes, ending, is_function_end, is_label_mark, pairs, word}
use Rattle.spv_walk.proofs.Unique.{equal_true, tells, truth_apart}
use Rattle.spv_bodies.specs.Listing.{instruction}
use Rattle.spv_normal.specs.Lines.{line}
use Rattle.spv_tree.specs.Sound.{opcode_in}
use Rattle.spv_spelling.specs.Text.{copy_of, is_phi}
use Rattle.spv_normal_trees.proofs.NormalBlocks.{normal_words, renamed_words}
use Rattle.spv_normal_trees.proofs.Texts.{end_by, end_is_by, line_end, line_ends, opcode_spelled}

-- it does not see whether an OpPhi is renamed or copied, and passes at no instruction that closes no block
pub record IsOfMarks (D : List ℕ → Bool) : Type 0 where
  pub phis : (given : ℕ → ℕ) (front : Bool) (words : List ℕ) → D (normal_words given front words) ≡ D words
  pub inner : (i : Instruction) → closes i ≡ false → D (line i) ≡ false

-- ---- of ends

-- an OpPhi is no end, nor is what it becomes
phi_open : (words : List ℕ) → is_phi words ≡ true → line_end words ≡ Open
unfolding end_by
phi_open words h = end_is_by words op.PHI (equal_true (opcode_in words) op.PHI h)

renamed_open : (given : ℕ → ℕ) (words : List ℕ) → is_phi words ≡ true → line_end (renamed_words given words) ≡ Open
renamed_open given [] h = absurd (cc h)
renamed_open given (w ∷ ws) h = phi_open (renamed_words given (w ∷ ws)) h

phi_stays : (given : ℕ → ℕ) (front : Bool) (words : List ℕ) → is_phi words ≡ true → line_end (normal_words given front words) ≡ Open
phi_stays given front words h =
    ap (λ b. line_end (cond b (cond front (renamed_words given words) (copy_of words)) words)) h ∙ by front
  where
    by : (b : Bool) → line_end (cond b (renamed_words given words) (copy_of words)) ≡ Open
    by true = renamed_open given words h
    by false = refl

none_ends : (a b c d e u m n : Bool) (x y z : End) → ((a || b || c || d || e || u) || m || n) ≡ false
    → cond a x (cond b y (cond c z (cond (d || e) Return (cond u Unreachable Open)))) ≡ Open
none_ends true b c d e u m n x y z h = absurd (cc h)
none_ends false true c d e u m n x y z h = absurd (cc h)
none_ends false false true d e u m n x y z h = absurd (cc h)
none_ends false false false true e u m n x y z h = absurd (cc h)
none_ends false false false false true u m n x y z h = absurd (cc h)
none_ends false false false false false true m n x y z h = absurd (cc h)
none_ends false false false false false false m n x y z h = refl

pub inner_open : (i : Instruction) → closes i ≡ false → ending i ≡ Open
inner_open i h =
    none_ends (opcode i == op.BRANCH) (opcode i == op.BRANCH_CONDITIONAL) (opcode i == op.SWITCH) (opcode i == op.RETURN) (opcode i == op.RETURN_VALUE)
    (opcode i == op.UNREACHABLE) (is_label_mark i) (is_function_end i)
    (Branch (word i 1)) (BranchIf (word i 2) (word i 3)) (Switch (word i 2) (pairs (drop 3 i.words))) h

pub of_ends : (T : End → Bool) → T Open ≡ false → IsOfMarks (λ words. T (line_end words))
of_ends T none = record {
  phis = λ given front words. elim (tells (is_phi words)) [
    | inl h ↦ ap T (phi_stays given front words h ∙ sym (phi_open words h))
    | inr h ↦ ap (λ b. T (line_end (cond b (cond front (renamed_words given words) (copy_of words)) words))) h
  ];
  inner = λ i h. ap T (sym (line_ends i) ∙ inner_open i h) ∙ none;
}

-- ---- of labels

-- an OpLabel with this label
abbrev pub labels : (label : ℕ) → List ℕ → Bool
labels t words = (opcode_in words == op.LABEL) && (slice_index words 1 == t)

phi_labels_none : (t : ℕ) (words : List ℕ) → is_phi words ≡ true → labels t words ≡ false
phi_labels_none t words h = ap (λ o. (o == op.LABEL) && (slice_index words 1 == t)) (equal_true (opcode_in words) op.PHI h)

renamed_labels_none : (t : ℕ) (given : ℕ → ℕ) (words : List ℕ) → is_phi words ≡ true → labels t (renamed_words given words) ≡ false
renamed_labels_none t given [] h = absurd (cc h)
renamed_labels_none t given (w ∷ ws) h = phi_labels_none t (renamed_words given (w ∷ ws)) h

phi_labels_alike : (t : ℕ) (given : ℕ → ℕ) (front : Bool) (words : List ℕ) → is_phi words ≡ true → labels t (normal_words given front words) ≡ false
phi_labels_alike t given front words h =
    ap (λ b. labels t (cond b (cond front (renamed_words given words) (copy_of words)) words)) h ∙ by front
  where
    by : (b : Bool) → labels t (cond b (renamed_words given words) (copy_of words)) ≡ false
    by true = renamed_labels_none t given words h
    by false = refl

pub no_label_line : (t : ℕ) (i : Instruction) → is_label_mark i ≡ false → labels t (line i) ≡ false
no_label_line t i h = by (opcode i == op.BRANCH_CONDITIONAL)
  where
    spelled : List ℕ
    spelled = instruction op.BRANCH_CONDITIONAL (take 3 (drop 1 i.words))

    by : (b : Bool) → labels t (cond b (instruction op.BRANCH_CONDITIONAL (take 3 (drop 1 i.words))) i.words) ≡ false
    by true =
        ap (λ o. (o == op.LABEL) && (slice_index (instruction op.BRANCH_CONDITIONAL (take 3 (drop 1 i.words))) 1 == t))
        (opcode_spelled op.BRANCH_CONDITIONAL (take 3 (drop 1 i.words)) (omega arith))
    by false = ap (λ b. b && (slice_index i.words 1 == t)) h

middle_none : (a b c : Bool) → (a || b || c) ≡ false → b ≡ false
middle_none true b c h = absurd (cc h)
middle_none false true c h = absurd (cc h)
middle_none false false c h = refl

pub terminator_no_label : (i : Instruction) → is_terminator i ≡ true → is_label_mark i ≡ false
terminator_no_label i h = elim (tells (is_label_mark i)) [
  | inl m ↦ truth_apart (is_terminator i) h
      (ap (λ o. o == op.BRANCH || o == op.BRANCH_CONDITIONAL || o == op.SWITCH || o == op.RETURN || o == op.RETURN_VALUE || o == op.UNREACHABLE)
      (equal_true (opcode i) op.LABEL m))
  | inr m ↦ m
]

pub of_labels : (t : ℕ) → IsOfMarks (labels t)
of_labels t = record {
  phis = λ given front words. elim (tells (is_phi words)) [
    | inl h ↦ phi_labels_alike t given front words h ∙ sym (phi_labels_none t words h)
    | inr h ↦ ap (λ b. labels t (cond b (cond front (renamed_words given words) (copy_of words)) words)) h
  ];
  inner = λ i h. no_label_line t i (middle_none (is_terminator i) (is_label_mark i) (is_function_end i) h);
}
