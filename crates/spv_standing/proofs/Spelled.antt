-- A function whose instructions spell a tree stands in its module as that tree.
use Rattle.std.proofs.Common.{◌≡◌, ℕ, true, false, cond, ◌==◌, List, [], ◌∷◌, ◌++◌, Some, refl, sym, ap, subst, ◌∙◌, append_assoc}
use Rattle.std.specs.Prelude.{All}
use Rattle.std.specs.List.{AllByRecursion}
use Rattle.std.proofs.lemmas.List.Elements.{All-head, All-tail}
use Rattle.spv_opcodes.specs.declared.op.TheConstants as op
use Rattle.spv_module.specs.Instruction.{Instruction, opcode}
use Rattle.spv_meaning.specs.Statements as says
use Rattle.spv_meaning.specs.Statements.{Statement, said, statements_in, words_of}
use Rattle.spv_machine.specs.Steps.{behind_function}
use Rattle.spv_blocks.specs.Blocks.{block, is_label, is_some_block, is_first}
use Rattle.spv_blocks.specs.Cutting.{blocks_of, block_of, is_label_mark, word}
use Rattle.spv_walk.specs.Walk.{Walk, Starts}
use Rattle.spv_walk.proofs.Unique.{true_equal}
use Rattle.spv_bodies.specs.Bodies.{Function}
use Rattle.spv_normal.specs.Lines.{without_marks, before_labels, behind_label}
use Rattle.spv_normal.specs.Order.{first_label}
use Rattle.spv_spelling.specs.Text.{text}
use Rattle.spv_spelling.specs.Spelling.{SpellsFunction}
use Rattle.spv_spelling.specs.Whole.{IsText}
use Rattle.spv_trees.specs.Standing.{CallsKnown, is_parameter, StandsFunction}
use Rattle.spv_trees.specs.Sound.{labels_in, Distinct}
use Rattle.spv_trees.proofs.Agreement.{agreement_law, converse_law}
use Rattle.spv_trees.proofs.Programs.{program_law}
use Rattle.spv_trees.proofs.Listed.{function_behind}
use Rattle.spv_trees.proofs.Spelling.{said_front}
use Rattle.spv_standing.specs.Laws.{SpelledStands, AllSpelledStand, SpelledAgrees, SpelledConverse, SpelledProgram}
use Rattle.spv_standing.proofs.Saying.{said_at}
use Rattle.spv_standing.proofs.Lines.{marks_say_nothing, says_append, block_says, label_said}
use Rattle.spv_standing.proofs.Places.{ArePlaced, rest_behind, after_block, are_placed, text_calls}
use Rattle.spv_standing.proofs.Parts.{held}

-- ---- the first label of a function

abbrev NoLabels : List Instruction → Type 0
NoLabels is = AllByRecursion (λ i. is_label_mark i ≡ false) is

-- what stands before and behind the first label, and its block
record Begins (insts before : List Instruction) (label : Instruction) (rest : List Instruction) : Type 0 where
  lines : before_labels insts ≡ before
  blocks : blocks_of insts ≡ block_of label rest ∷ blocks_of rest
  behind : behind_label insts (word label 1) ≡ rest

begins_at : (before : List Instruction) (label : Instruction) (rest : List Instruction) → NoLabels before → is_label_mark label ≡ true
    → Begins (before ++ label ∷ rest) before label rest
begins_at [] label rest h mark = record {
  lines = ap (λ b. cond b [] (label ∷ before_labels rest)) mark;
  blocks = ap (λ b. cond b (block_of label rest ∷ blocks_of rest) (blocks_of rest)) mark;
  behind =
      ap (λ b. cond (cond b (word label 1 == word label 1) false) rest (behind_label rest (word label 1))) mark
      ∙ ap (λ b. cond b rest (behind_label rest (word label 1))) (true_equal (word label 1) (word label 1) refl);
}
begins_at (i ∷ before) label rest h mark =
    let is : List Instruction = before ++ label ∷ rest in
    let b = begins_at before label rest h.1 mark in
    record {
      lines = ap (λ m. cond m [] (i ∷ before_labels is)) h.0 ∙ ap (λ l. i ∷ l) b.lines;
      blocks = ap (λ m. cond m (block_of i is ∷ blocks_of is) (blocks_of is)) h.0 ∙ b.blocks;
      behind = ap (λ m. cond (cond m (word i 1 == word label 1) false) is (behind_label is (word label 1))) h.0 ∙ b.behind;
    }

no_labels : (is : List Instruction) → All (λ i. opcode i ≡ op.FUNCTION_PARAMETER) is → NoLabels is
no_labels [] h = tt
no_labels (i ∷ is) h = (
  ap (λ o. o == op.LABEL) (All-head (λ j. opcode j ≡ op.FUNCTION_PARAMETER) i is h),
  no_labels is (All-tail (λ j. opcode j ≡ op.FUNCTION_PARAMETER) i is h),
)

are_parameters : (is : List Instruction) → All (λ i. opcode i ≡ op.FUNCTION_PARAMETER) is
    → AllByRecursion (λ s. is_parameter s ≡ true) (statements_in (words_of is))
unfolding statements_in
are_parameters [] h = tt
are_parameters (i ∷ is) h =
    subst (λ l. AllByRecursion (λ s. is_parameter s ≡ true) l)
    (sym (said_at op.FUNCTION_PARAMETER i.words (statements_in (words_of is)) (All-head (λ j. opcode j ≡ op.FUNCTION_PARAMETER) i is h)))
    (refl, are_parameters is (All-tail (λ j. opcode j ≡ op.FUNCTION_PARAMETER) i is h))

-- ---- a function without line marks

module _ (insts : List Instruction) (stays : ℕ → ℕ) (r : ℕ) (f : Function) (t : IsText insts) (spells : SpellsFunction insts stays f)
    (function : said f.function [] ≡ says.Function r ∷ []) where
  abbrev rest : List Instruction
  rest = t.blocks ++ t.last ∷ []

  abbrev before : List Instruction
  before = t.function ∷ t.parameters

  whole : insts ≡ before ++ t.label ∷ rest
  whole = t.same ∙ ap (λ x. t.function ∷ x) (append_assoc t.parameters (t.label ∷ t.blocks) (t.last ∷ []))

  begins : Begins insts before t.label rest
  begins =
      subst (λ x. Begins x before t.label rest) (sym whole)
      (begins_at before t.label rest (ap (λ o. o == op.LABEL) t.begins, no_labels t.parameters t.takes) t.first)

  label_word : f.label ≡ word t.label 1
  label_word = spells.label ∙ ap first_label begins.blocks

  pub first_walked : Walk (blocks_of insts) f.label []
  first_walked = Starts f.label (ap (λ c. is_first c f.label) begins.blocks ∙ true_equal (word t.label 1) f.label (sym label_word))

  pub first_is_label : is_label (blocks_of insts) f.label ≡ true
  first_is_label =
      ap (λ c. is_label c f.label) begins.blocks
      ∙ ap (λ b. is_some_block (cond b (Some (block_of t.label rest)) (block (blocks_of rest) f.label))) (true_equal (word t.label 1) f.label (sym label_word))

  words_front : t.function.words ∷ words_of t.parameters ≡ f.function ∷ f.parameters
  words_front = sym (ap words_of begins.lines) ∙ spells.front

  function_words : t.function.words ≡ f.function
  function_words = cc words_front

  parameter_words : words_of t.parameters ≡ f.parameters
  parameter_words = cc words_front

  pub takes_parameters : AllByRecursion (λ s. is_parameter s ≡ true) (statements_in f.parameters)
  takes_parameters = subst (λ x. AllByRecursion (λ s. is_parameter s ≡ true) (statements_in x)) parameter_words (are_parameters t.parameters t.takes)

  behind_first : behind_label insts f.label ≡ rest
  behind_first = ap (behind_label insts) label_word ∙ begins.behind

  -- all that it says
  pub function_says : statements_in (words_of insts) ≡ says.Function r ∷
      (statements_in f.parameters ++ says.Label f.label ∷ (statements_in (text insts f.label) ++ rest_behind insts f.label))
  unfolding statements_in
  function_says =
      let others : List Statement = statements_in f.parameters in
      ap (λ x. statements_in (words_of x)) whole
      ∙ ap (λ w. said w (statements_in (words_of (t.parameters ++ t.label ∷ rest)))) function_words
      ∙ said_front f.function (statements_in (words_of (t.parameters ++ t.label ∷ rest)))
      ∙ ap (λ x. x ++ statements_in (words_of (t.parameters ++ t.label ∷ rest))) function
      ∙ ap (λ x. says.Function r ∷ x)
      (says_append t.parameters (t.label ∷ rest)
      ∙ ap (λ x. statements_in x ++ statements_in (words_of (t.label ∷ rest))) parameter_words
      ∙ ap (λ x. others ++ x)
      (label_said t.label f.label (statements_in (words_of rest)) t.first (sym label_word)
      ∙ ap (λ x. says.Label f.label ∷ statements_in (words_of x)) (sym behind_first)
      ∙ ap (λ x. says.Label f.label ∷ x) (block_says (behind_label insts f.label))))

-- ---- the laws

pub spelled_stands : SpelledStands
spelled_stands functions r f stays first insts last admitted spells apart function known absent distinct =
    let is : List Instruction = without_marks insts in
    let front : List Statement = statements_in (words_of first) in
    let back : List Statement = statements_in (words_of last) in
    let all : List Statement = statements_in (words_of (first ++ (insts ++ last))) in
    let whole : all ≡ front ++ (statements_in (words_of is) ++ back) =
    says_append first (insts ++ last) ∙ ap (λ x. front ++ x) (says_append insts last ∙ ap (λ x. x ++ back) (marks_say_nothing insts)) in
    let placed : ArePlaced all is (after_block is front back) = are_placed is front back all whole distinct admitted.text in
    let calls : (l : ℕ) → is_label (blocks_of is) l ≡ true → CallsKnown functions (statements_in (text is l)) =
    text_calls is functions (subst (CallsKnown functions) (marks_say_nothing insts) known) in
    let label = first_is_label is stays r f admitted.text spells function in
    let h = held is stays admitted.clean apart all (after_block is front back) placed functions calls f.label [] (text is f.label) f.body spells.body
    (first_walked is stays r f admitted.text spells function) (calls f.label label) (after_block is front back f.label) in
    let lines : List Statement = statements_in (text is f.label) in
    let others : List Statement = statements_in f.parameters in
    record {
      first_block = lines ++ after_block is front back f.label;
      place =
          ap (λ x. behind_function x r)
          (whole
          ∙ ap (λ x. front ++ (x ++ back)) (function_says is stays r f admitted.text spells function)
          ∙ ap (λ x. front ++ says.Function r ∷ x) (append_assoc others (says.Label f.label ∷ (lines ++ rest_behind is f.label)) back)
          ∙ ap (λ x. front ++ says.Function r ∷ (others ++ says.Label f.label ∷ x)) (append_assoc lines (rest_behind is f.label) back))
          ∙ function_behind front r (others ++ says.Label f.label ∷ (lines ++ after_block is front back f.label)) absent;
      parameters = takes_parameters is stays r f admitted.text spells function;
      stands = h.stands;
      closed = h.closed;
    }

pub all_spelled_stand : AllSpelledStand
all_spelled_stand all functions distinct spelled r f is =
    let s = spelled r f is in
    subst (λ x. StandsFunction x functions r f) (sym s.whole)
    (spelled_stands functions r f s.stays s.first s.insts s.last s.admitted s.spells s.apart s.function s.calls s.absent
    (subst (λ x. Distinct (labels_in x)) s.whole distinct))

-- what stands agrees

pub spelled_agrees : SpelledAgrees
spelled_agrees c functions distinct spelled = agreement_law c functions (all_spelled_stand c.all functions distinct spelled)

pub spelled_converse : SpelledConverse
spelled_converse c functions distinct spelled = converse_law c functions (all_spelled_stand c.all functions distinct spelled)

pub spelled_program : SpelledProgram
spelled_program c functions distinct spelled = program_law c functions (all_spelled_stand c.all functions distinct spelled)
