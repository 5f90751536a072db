-- Where the blocks of a function stand among the statements of its module, and what stands behind their OpPhi.
use Rattle.std.proofs.Common.{◌≡◌, ℕ, inl, inr, Bool, true, false, ◌==◌, List, [], ◌∷◌, ◌++◌, map, Option, Some, refl, sym, ap, subst, ◌∙◌, drop, append_assoc, arith}
use Rattle.std.specs.Prelude.{slice_index, All}
use Rattle.std.specs.List.{AllByRecursion}
use Rattle.std.proofs.lemmas.List.Elements.{All-head, All-tail}
use Rattle.spv_opcodes.specs.declared.op.TheConstants as op
use Rattle.spv_module.specs.Instruction.{Instruction, opcode}
use Rattle.spv_meaning.specs.Statements as says
use Rattle.spv_meaning.specs.Statements.{Statement, said, statements_in, words_of}
use Rattle.spv_machine.specs.Steps as steps
use Rattle.spv_blocks.specs.Blocks.{is_label}
use Rattle.spv_blocks.specs.Cutting.{blocks_of, is_label_mark, word}
use Rattle.spv_bodies.specs.Bodies.{Function}
use Rattle.spv_normal.specs.Lines.{line, up_to_terminator, behind_label}
use Rattle.spv_spelling.specs.Text as spelled
use Rattle.spv_spelling.specs.Text.{text}
use Rattle.spv_spelling.specs.Whole.{IsText, is_in_block}
use Rattle.spv_trees.specs.Sound.{labels_in, Distinct}
use Rattle.spv_trees.specs.Standing.{CallsKnown}
use Rattle.spv_trees.proofs.Listed.{place, Plain}
use Rattle.spv_trees.proofs.Closing.{known_front, known_rest}
use Rattle.spv_walk.proofs.Unique.{equal_true}
use Rattle.spv_standing.proofs.Saying.{SaysOther, said_at, inside_says}
use Rattle.spv_standing.proofs.Lines.{split_at, behind_terminator, says_append, block_says, label_said}
use Rattle.spv_standing.proofs.Fronts.{SaysOne, block_plain}

-- ---- instructions of a function say one statement each

function_says : (i : Instruction) → opcode i ≡ op.FUNCTION → SaysOther i.words
function_says i e = record { statement = says.Function (slice_index (drop 1 i.words) 1); same = λ rest. said_at op.FUNCTION i.words rest e; other = refl }

pub parameter_says : (i : Instruction) → opcode i ≡ op.FUNCTION_PARAMETER → SaysOther i.words
parameter_says i e =
    record {
      statement = says.FunctionParameter (slice_index (drop 1 i.words) 0)
          (slice_index (drop 1 i.words) 1);
      same = λ rest. said_at op.FUNCTION_PARAMETER i.words rest e;
      other = refl;
    }

end_says : (i : Instruction) → opcode i ≡ op.FUNCTION_END → SaysOther i.words
end_says i e = record { statement = says.FunctionEnd; same = λ rest. said_at op.FUNCTION_END i.words rest e; other = refl }

label_says : (i : Instruction) → is_label_mark i ≡ true → SaysOther i.words
label_says i e = record { statement = says.Label (word i 1); same = λ rest. label_said i (word i 1) rest e refl; other = refl }

inside_by : (i : Instruction) (b : Bool) → (opcode i == op.PHI) ≡ b → is_in_block i ≡ true → SaysOne i
inside_by i true e h = inl (equal_true (opcode i) op.PHI e)
inside_by i false e h = inr (inside_says i.words h e)

all_says : {P : Instruction → Type 0} → ((i : Instruction) → P i → SaysOne i) → (is : List Instruction) → All P is → AllByRecursion SaysOne is
all_says h [] all = tt
all_says {P} h (i ∷ is) all = (h i (All-head P i is all), all_says h is (All-tail P i is all))

both_say : (a b : List Instruction) → AllByRecursion SaysOne a → AllByRecursion SaysOne b → AllByRecursion SaysOne (a ++ b)
both_say [] b h g = g
both_say (i ∷ a) b h g = (h.0, both_say a b h.1 g)

-- all of them but the last, which is OpFunctionEnd
pub record EndsWith (is : List Instruction) (last : Instruction) : Type 0 where
  pub others : List Instruction
  pub same : is ≡ others ++ last ∷ []
  pub each : AllByRecursion SaysOne others

text_ends : (insts : List Instruction) → (t : IsText insts) → EndsWith insts t.last
text_ends insts t = record {
  others = t.function ∷ (t.parameters ++ (t.label ∷ t.blocks));
  same = t.same;
  each = (
    inr (function_says t.function t.begins),
    both_say t.parameters (t.label ∷ t.blocks) (all_says (λ i e. inr (parameter_says i e)) t.parameters t.takes)
        (inr (label_says t.label t.first), all_says (λ i h. inside_by i (opcode i == op.PHI) refl h) t.blocks t.inside),
  );
}

not_empty : (before : List Instruction) (label : Instruction) (behind : List Instruction) → before ++ label ∷ behind ≡ [] → ⊥
not_empty [] label behind e = cc e
not_empty (b ∷ before) label behind e = cc e

-- so do those behind a label
behind_ends : (before others : List Instruction) (label last : Instruction) (behind : List Instruction) → before ++ label ∷ behind ≡ others ++ last ∷ []
    → AllByRecursion SaysOne others
    → is_label_mark label ≡ true → opcode last ≡ op.FUNCTION_END → EndsWith behind last
behind_ends [] [] label last behind e h mark end =
    let same : label ≡ last = cc e in
    absurd (omega (arith, equal_true (opcode label) op.LABEL mark, end, ap opcode same))
behind_ends [] (x ∷ xs) label last behind e h mark end = record { others = xs; same = cc e; each = h.1 }
behind_ends (b ∷ before) [] label last behind e h mark end = absurd (not_empty before label behind (cc e))
behind_ends (b ∷ before) (x ∷ xs) label last behind e h mark end = behind_ends before xs label last behind (cc e) h.1 mark end

-- ---- blocks in the module

-- what stands behind labels, and behind their OpPhi
pub record ArePlaced (all : List Statement) (insts : List Instruction) (after : ℕ → List Statement) : Type 0 where
  pub place : (l : ℕ) → is_label (blocks_of insts) l ≡ true → steps.behind_label all l ≡ Some (statements_in (text insts l) ++ after l)
  pub plain : (l : ℕ) → is_label (blocks_of insts) l ≡ true → Plain (statements_in (spelled.behind_phis (text insts l)) ++ after l)

module _ (insts : List Instruction) where
  -- what stands behind the terminator of a block
  abbrev pub rest_behind : ℕ → List Statement
  rest_behind l = statements_in (words_of (behind_terminator (behind_label insts l)))

  record StandsIn (l : ℕ) : Type 0 where
    before : List Statement
    same : statements_in (words_of insts) ≡ before ++ says.Label l ∷ (statements_in (text insts l) ++ rest_behind l)

  stands_in : (l : ℕ) → is_label (blocks_of insts) l ≡ true → StandsIn l
  unfolding statements_in
  stands_in l h =
      let s = split_at insts l h in
      let behind : List Instruction = behind_label insts l in
      record {
        before = statements_in (words_of s.before);
        same =
            ap (λ x. statements_in (words_of x)) s.same
            ∙ says_append s.before (s.label ∷ behind)
            ∙ ap (λ x. statements_in (words_of s.before) ++ x)
            (label_said s.label l (statements_in (words_of behind)) s.mark s.named ∙ ap (λ x. says.Label l ∷ x) (block_says behind));
      }

  pub text_calls : (functions : ℕ → Option Function) → CallsKnown functions (statements_in (words_of insts)) → (l : ℕ) → is_label (blocks_of insts) l ≡ true
      → CallsKnown functions (statements_in (text insts l))
  text_calls functions known l h =
      let s = stands_in l h in
      known_front functions (statements_in (text insts l)) (rest_behind l)
      (known_rest functions s.before (says.Label l ∷ (statements_in (text insts l) ++ rest_behind l)) (subst (CallsKnown functions) s.same known))

  -- before and behind the function
  module _ (front back : List Statement) where
    abbrev pub after_block : ℕ → List Statement
    after_block l = rest_behind l ++ back

    placed_at : (all : List Statement) → all ≡ front ++ (statements_in (words_of insts) ++ back) → Distinct (labels_in all) → (l : ℕ)
        → is_label (blocks_of insts) l ≡ true
        → steps.behind_label all l ≡ Some (statements_in (text insts l) ++ after_block l)
    placed_at all whole distinct l h =
        let s = stands_in l h in
        let lines : List Statement = statements_in (text insts l) in
        place all distinct l (lines ++ after_block l) (
          front ++ s.before,
          whole
              ∙ ap (λ x. front ++ (x ++ back)) s.same
              ∙ ap (λ x. front ++ x) (append_assoc s.before (says.Label l ∷ (lines ++ rest_behind l)) back)
              ∙ ap (λ x. front ++ (s.before ++ says.Label l ∷ x)) (append_assoc lines (rest_behind l) back)
              ∙ sym (append_assoc front s.before (says.Label l ∷ (lines ++ after_block l))),
        )

    plain_at : IsText insts → (l : ℕ) → is_label (blocks_of insts) l ≡ true → Plain (statements_in (spelled.behind_phis (text insts l)) ++ after_block l)
    plain_at t l h =
        let s = split_at insts l h in
        let whole = text_ends insts t in
        let e = behind_ends s.before whole.others s.label t.last (behind_label insts l) (sym s.same ∙ whole.same) whole.each s.mark t.ends in
        subst (λ x. Plain (statements_in (spelled.behind_phis (map line (up_to_terminator x))) ++ after_block l)) (sym e.same)
        (block_plain e.others t.last (after_block l) e.each (ap (λ o. o == op.PHI) t.ends) (end_says t.last t.ends))

    pub are_placed : (all : List Statement) → all ≡ front ++ (statements_in (words_of insts) ++ back) → Distinct (labels_in all) → IsText insts
        → ArePlaced all insts after_block
    are_placed all whole distinct t = record { place = placed_at all whole distinct; plain = plain_at t }
