-- Where instructions stand in a function: what is no variable fits at each stage where it fits at one, and a variable only at the head.
use Rattle.std.proofs.Common.{◌≡◌, ℕ, Bool, true, false, cond, ◌==◌, ◌&&◌, ◌||◌, List, drop, refl, sym, ap, ◌∙◌, true≢false, eqb-true}
use Rattle.std.specs.Prelude.{slice_index}
use Rattle.spv_opcodes.specs.declared.op.TheConstants as op
use Rattle.spv_grammar.specs.Table.{row_of}
use Rattle.spv_module.specs.Instruction.{Instruction, opcode}
use Rattle.spv_typing.specs.Kinds.{is_one_of}
use Rattle.spv_usage.specs.declared.stages.Stage.{Stage}
use Rattle.spv_usage.specs.declared.stages.Stage.TheVariants.{Further, Head, Opening}
use Rattle.spv_usage.specs.Stages.{behind_label, behind_other, is_opening, is_outside, stage_behind}
use Rattle.spv_usage.specs.Storage.{asked_fits, atomic_fits, atomics, storage_fits, store_fits, variable_fits}
use Rattle.spv_tree.specs.Sound.{is_step, opcode_in}
use Rattle.spv_typed_trees.specs.Typed.{StepFits, as_instruction}
use Rattle.spv_typed_edits.specs.Edits.{is_variable}

-- ---- what fits

module _ (m : List Instruction) (i : Instruction) where
  -- the stage is asked of variables alone
  storage_by : Stage → (is_variable : Bool) → Bool
  storage_by stage v =
      cond v (is_outside stage || (is_opening stage && variable_fits m (slice_index i.words 1) (slice_index i.words 3) (drop 4 i.words)))
      (cond (opcode i == op.STORE) (store_fits m (slice_index i.words 1))
      (cond (opcode i == op.ARRAY_LENGTH) (asked_fits m (slice_index i.words 3))
      (cond (opcode i == op.ATOMIC_STORE) (atomic_fits m (slice_index i.words 1))
      (cond (is_one_of atomics (opcode i)) (atomic_fits m (slice_index i.words 3))
      true))))

  storage_at : (s r : Stage) → (opcode i == op.VARIABLE) ≡ false → storage_fits m s i ≡ storage_fits m r i
  unfolding storage_fits storage_by
  storage_at s r e = ap (storage_by s) e ∙ sym (ap (storage_by r) e)

  variable_further : (opcode i == op.VARIABLE) ≡ true → storage_fits m Further i ≡ true → ⊥
  unfolding storage_fits storage_by
  variable_further e h = true≢false (sym h ∙ ap (storage_by Further) e)

module _ (m : List Instruction) (words : List ℕ) where
  pub fits_anywhere : (s r : Stage) → is_variable words ≡ false → StepFits m s words → StepFits m r words
  fits_anywhere s r e f = record {
    arithmetic = f.arithmetic;
    composites = f.composites;
    storage = storage_at m (as_instruction words) r s e ∙ f.storage;
    ordering = f.ordering;
    result = f.result;
    call = f.call;
  }

  pub no_variable_further : is_variable words ≡ true → StepFits m Further words → ⊥
  no_variable_further e f = variable_further m (as_instruction words) e f.storage

-- ---- the stage behind

-- what passes a test that another opcode does not pass is no such
apart_by : (test : ℕ → Bool) (o p : ℕ) → test o ≡ true → test p ≡ false → (o == p) ≡ false
apart_by test o p is other = by (o == p) refl
  where
    by : (b : Bool) → (o == p) ≡ b → (o == p) ≡ false
    by false e = e
    by true e = absurd (true≢false (sym is ∙ ap test (eqb-true o p e) ∙ other))

stage_by : Stage → (mark end_mark variable function label : Bool) → Stage
stage_by s m e v f l = cond ((m || e) || v) s (cond f Head (cond l (behind_label s) (behind_other s)))

pub behind_variable : (s : Stage) (words : List ℕ) → is_variable words ≡ true → stage_behind s (as_instruction words) ≡ s
behind_variable s words v =
    ap (λ (o : ℕ). cond ((o == op.LINE || o == op.NO_LINE) || o == op.VARIABLE) s
    (cond (o == op.FUNCTION) Head (cond (o == op.LABEL) (behind_label s) (behind_other s)))) (eqb-true (opcode_in words) op.VARIABLE v)

module _ (words : List ℕ) (step : is_step (opcode_in words) ≡ true) (other : is_variable words ≡ false) where
  behind_step : (s : Stage) → stage_behind s (as_instruction words) ≡ behind_other s
  unfolding row_of stage_by
  behind_step s =
      let o = opcode_in words in
      let mark : (o == op.LINE) ≡ false = apart_by is_step o op.LINE step refl in
      let end_mark : (o == op.NO_LINE) ≡ false = apart_by is_step o op.NO_LINE step refl in
      let function : (o == op.FUNCTION) ≡ false = apart_by is_step o op.FUNCTION step refl in
      let label : (o == op.LABEL) ≡ false = apart_by is_step o op.LABEL step refl in
      ap (λ (b : Bool). stage_by s b (o == op.NO_LINE) (o == op.VARIABLE) (o == op.FUNCTION) (o == op.LABEL)) mark
      ∙ ap (λ (b : Bool). stage_by s false b (o == op.VARIABLE) (o == op.FUNCTION) (o == op.LABEL)) end_mark
      ∙ ap (λ (b : Bool). stage_by s false false b (o == op.FUNCTION) (o == op.LABEL)) other
      ∙ ap (λ (b : Bool). stage_by s false false false b (o == op.LABEL)) function
      ∙ ap (stage_by s false false false false) label

  -- behind a step that is no variable the head is over
  pub head_is_over : stage_behind Opening (as_instruction words) ≡ Further
  head_is_over = behind_step Opening

  pub still_further : stage_behind Further (as_instruction words) ≡ Further
  still_further = behind_step Further
