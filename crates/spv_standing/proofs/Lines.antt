-- The instructions of a function by its labels: what stands behind a label, and what that says.
use Rattle.std.proofs.Common.{◌≡◌, ℕ, Bool, true, false, cond, ◌==◌, not, List, [], ◌∷◌, ◌++◌, map, Option, Some, refl, sym, ap, ◌∙◌, drop}
use Rattle.std.specs.Map.{lookup}
use Rattle.std.specs.Prelude.{nat_eq, slice_index}
use Rattle.spv_opcodes.specs.declared.op.TheConstants as op
use Rattle.spv_module.specs.Instruction.{Instruction, opcode}
use Rattle.spv_module.specs.Code.{is_line}
use Rattle.spv_module.specs.Layout.{is_terminator}
use Rattle.spv_meaning.specs.Statements as says
use Rattle.spv_meaning.specs.Statements.{Statement, said, statements_in, words_of, is_silent_opcode, is_debug_opcode, by_row, rows}
use Rattle.spv_blocks.specs.Blocks.{Block, block, is_label, is_some_block}
use Rattle.spv_blocks.specs.Cutting.{blocks_of, block_of, is_label_mark, word}
use Rattle.spv_normal.specs.Lines.{line, without_marks, up_to_terminator, behind_label}
use Rattle.spv_trees.proofs.Spelling.{statements_append}
use Rattle.spv_walk.proofs.Unique.{equal_true, right_holds}
use Rattle.spv_standing.proofs.Saying.{said_at, line_said}

-- ---- line marks say nothing

mark_by : (i : Instruction) (b : Bool) (rest : List Instruction) → is_line i ≡ b
    → said i.words (statements_in (words_of rest)) ≡ statements_in (words_of (cond (not b) (i ∷ rest) rest))
unfolding statements_in
mark_by i true rest e =
    let said_by_words : Statement = by_row (lookup (nat_eq (opcode i)) rows) (drop 1 i.words) in
    ap (λ s. cond s (statements_in (words_of rest)) (said_by_words ∷ statements_in (words_of rest))) (right_holds (is_debug_opcode (opcode i)) (is_line i) e)
mark_by i false rest e = refl

pub marks_say_nothing : (insts : List Instruction) → statements_in (words_of insts) ≡ statements_in (words_of (without_marks insts))
unfolding statements_in
marks_say_nothing [] = refl
marks_say_nothing (i ∷ is) = ap (said i.words) (marks_say_nothing is) ∙ mark_by i (is_line i) (without_marks is) refl

-- ---- labels

-- the first OpLabel of a label, with what stands before and behind it, and its block
pub record SplitAt (insts : List Instruction) (l : ℕ) (behind : List Instruction) (found : Option Block) : Type 0 where
  pub before : List Instruction
  pub label : Instruction
  pub same : insts ≡ before ++ label ∷ behind
  pub mark : is_label_mark label ≡ true
  pub named : word label 1 ≡ l
  pub first : found ≡ Some (block_of label behind)

split_later : (i : Instruction) (is : List Instruction) (l : ℕ) (behind : List Instruction) (found : Option Block) → SplitAt is l behind found
    → SplitAt (i ∷ is) l behind found
split_later i is l behind found s = record {
  before = i ∷ s.before;
  label = s.label;
  same = ap
      (λ x. i ∷ x) s.same;
  mark = s.mark;
  named = s.named;
  first = s.first;
}

split_here : (i : Instruction) (is : List Instruction) (l : ℕ) (b : Bool) → is_label_mark i ≡ true → (word i 1 == l) ≡ b
    → (is_label (blocks_of is) l ≡ true → SplitAt is l (behind_label is l) (block (blocks_of is) l))
    → is_some_block (cond b (Some (block_of i is)) (block (blocks_of is) l)) ≡ true
    → SplitAt (i ∷ is) l (cond b is (behind_label is l)) (cond b (Some (block_of i is)) (block (blocks_of is) l))
split_here i is l true mark e later h = record { before = []; label = i; same = refl; mark = mark; named = equal_true (word i 1) l e; first = refl }
split_here i is l false mark e later h = split_later i is l (behind_label is l) (block (blocks_of is) l) (later h)

split_mark : (i : Instruction) (is : List Instruction) (l : ℕ) (a : Bool) → is_label_mark i ≡ a
    → (is_label (blocks_of is) l ≡ true → SplitAt is l (behind_label is l) (block (blocks_of is) l))
    → is_some_block (block (cond a (block_of i is ∷ blocks_of is) (blocks_of is)) l) ≡ true
    → SplitAt (i ∷ is) l (cond (cond a (word i 1 == l) false) is (behind_label is l)) (block (cond a (block_of i is ∷ blocks_of is) (blocks_of is)) l)
split_mark i is l true mark later h = split_here i is l (word i 1 == l) mark refl later h
split_mark i is l false mark later h = split_later i is l (behind_label is l) (block (blocks_of is) l) (later h)

pub split_at : (insts : List Instruction) (l : ℕ) → is_label (blocks_of insts) l ≡ true → SplitAt insts l (behind_label insts l) (block (blocks_of insts) l)
split_at [] l h = absurd (cc h)
split_at (i ∷ is) l h = split_mark i is l (is_label_mark i) refl (split_at is l) h

-- ---- a block and what is behind its terminator

abbrev pub behind_terminator : List Instruction → List Instruction
behind_terminator [] = []
behind_terminator (i ∷ is) = cond (is_terminator i) is (behind_terminator is)

up_by : (i : Instruction) (is : List Instruction) (b : Bool) → up_to_terminator is ++ behind_terminator is ≡ is
    → cond b (i ∷ []) (i ∷ up_to_terminator is) ++ cond b is (behind_terminator is) ≡ i ∷ is
up_by i is true e = refl
up_by i is false e = ap (λ x. i ∷ x) e

up_again : (is : List Instruction) → up_to_terminator is ++ behind_terminator is ≡ is
up_again [] = refl
up_again (i ∷ is) = up_by i is (is_terminator i) (up_again is)

lines_said : (is : List Instruction) → statements_in (map line is) ≡ statements_in (words_of is)
unfolding statements_in
lines_said [] = refl
lines_said (i ∷ is) = ap (said (line i)) (lines_said is) ∙ line_said i (statements_in (words_of is))

words_append : (a b : List Instruction) → words_of (a ++ b) ≡ words_of a ++ words_of b
words_append [] b = refl
words_append (i ∷ a) b = ap (λ x. i.words ∷ x) (words_append a b)

pub says_append : (a b : List Instruction) → statements_in (words_of (a ++ b)) ≡ statements_in (words_of a) ++ statements_in (words_of b)
says_append a b = ap statements_in (words_append a b) ∙ statements_append (words_of a) (words_of b)

-- the lines of a block, and then what is behind it
pub block_says : (is : List Instruction)
    → statements_in (words_of is) ≡ statements_in (map line (up_to_terminator is)) ++ statements_in (words_of (behind_terminator is))
block_says is =
    ap (λ x. statements_in (words_of x)) (sym (up_again is))
    ∙ says_append (up_to_terminator is) (behind_terminator is)
    ∙ ap (λ x. x ++ statements_in (words_of (behind_terminator is))) (sym (lines_said (up_to_terminator is)))

pub second_word : (ws : List ℕ) → slice_index (drop 1 ws) 0 ≡ slice_index ws 1
second_word [] = refl
second_word (a ∷ []) = refl
second_word (a ∷ b ∷ ws) = refl

pub label_said : (i : Instruction) (l : ℕ) (rest : List Statement) → is_label_mark i ≡ true → word i 1 ≡ l → said i.words rest ≡ says.Label l ∷ rest
label_said i l rest h e = said_at op.LABEL i.words rest (equal_true (opcode i) op.LABEL h) ∙ ap (λ x. says.Label x ∷ rest) (second_word i.words ∙ e)
