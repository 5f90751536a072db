-- An edited function is typed.
use Rattle.std.proofs.Common.{◌≡◌, ◌⊎◌, inl, inr, ℕ, Bool, true, false, cond, ◌==◌, ◌&&◌, ◌||◌, not, List, [], ◌∷◌, length, None, refl, sym, ap, ap₂, subst, ◌∙◌}
use Rattle.std.specs.Prelude.{slice_index}
use Rattle.std.specs.List.{All, AllByRecursion}
use Rattle.std.proofs.lemmas.List.Elements.{All-cons, All-nil, All-weaker}
use Rattle.spv_opcodes.specs.declared.op.TheConstants as op
use Rattle.spv_module.specs.Instruction.{Instruction}
use Rattle.spv_typing.specs.Kinds.{type_of}
use Rattle.spv_usage.specs.declared.stages.Stage.{Stage}
use Rattle.spv_usage.specs.declared.stages.Stage.TheVariants.{Further, Opening}
use Rattle.spv_usage.specs.Stages.{stage_behind}
use Rattle.spv_signatures.specs.declared.parameters.Parameter.{Parameter}
use Rattle.spv_signatures.specs.Contexts.{result_fits}
use Rattle.spv_signatures.specs.Functions.{function_fits, is_function_type, names_function, parameter_types, parameters_of, return_type}
use Rattle.spv_bodies.specs.Bodies.{Function}
use Rattle.spv_tree.specs.Branches.{branches_in}
use Rattle.spv_tree.specs.Sound.{is_step, opcode_in}
use Rattle.spv_editing.specs.Showing.{shown, steps_of, uses_of}
use Rattle.spv_structured.specs.Laws.{Opens}
use Rattle.spv_typed_trees.specs.Typed.{StepFits, TakeTypes, as_instruction}
use Rattle.spv_typed_edits.specs.Edits.{HasItsType, SameRound, StandFor, dropping, is_variable}
use Rattle.spv_typed_edits.specs.Laws.{TypedStays, TypedWhereDropped, TypedWhereReplaced}
use Rattle.spv_typed_edits.proofs.Types.{same_closed, same_function_type, same_parameter_types, same_return_type, same_shape, same_void}
use Rattle.spv_typed_edits.proofs.Zero.{zero_is_no_value}
use Rattle.spv_typed_edits.proofs.Standing.{behind_variable, fits_anywhere, head_is_over, no_variable_further, still_further}
use Rattle.spv_typed_edits.proofs.Members.{Of, and_also, are_steps, by_recursion, of_both}
use Rattle.spv_typed_edits.proofs.Bodies.{InTurn, stage_after, typed}

-- ---- the OpFunction

both_left : (a b : Bool) → (a && b) ≡ true → a ≡ true
both_left true b h = refl
both_left false b h = h

module _ (before after : List Instruction) (f : Function) (opens : Opens f) (round : SameRound before after f) where
  abbrev type : ℕ
  type = slice_index f.function 4

  abbrev id : ℕ
  id = slice_index f.function 2

  is_opened : (opcode_in f.function == op.FUNCTION) ≡ true
  is_opened = ap (λ (o : ℕ). o == op.FUNCTION) opens.function

  function_type : function_fits before (as_instruction f.function) ≡ true → is_function_type before type ≡ true
  unfolding function_fits
  function_type h =
      let same = is_function_type before type in
      let count = length (parameter_types before type) == length (parameters_of before id) in
      both_left same count (sym (ap (λ (b : Bool). not b || (same && count)) is_opened) ∙ h)

  pub function_stays : function_fits before (as_instruction f.function) ≡ true → function_fits after (as_instruction f.function) ≡ true
  unfolding function_fits
  function_stays h =
      let is = function_type h in
      ap (λ (b : Bool). not (opcode_in f.function == op.FUNCTION) || (b && length (parameter_types after type) == length (parameters_of after id)))
      (same_function_type before after round.types type)
      ∙ ap₂ (λ (ts : List ℕ) (ps : List Parameter). not (opcode_in f.function == op.FUNCTION)
      || (is_function_type before type && length ts == length ps))
      (same_parameter_types before after round.types type is) round.parameters
      ∙ h

  pub result_stays : function_fits before (as_instruction f.function) ≡ true → result_fits before None (as_instruction f.function) ≡ true
      → result_fits after None (as_instruction f.function) ≡ true
  unfolding result_fits
  result_stays h g =
      let is = function_type h in
      let o = opcode_in f.function in
      let own = slice_index f.function 1 in
      ap (λ (b : Bool). cond b (return_type after type == own) (behind_function after)) is_opened
      ∙ ap (λ (u : ℕ). u == own) (same_return_type before after round.types type is)
      ∙ sym (ap (λ (b : Bool). cond b (return_type before type == own) (behind_function before)) is_opened)
      ∙ g
    where
      behind_function : List Instruction → Bool
      behind_function m =
          cond (opcode_in f.function == op.FUNCTION_PARAMETER) false
          (cond (opcode_in f.function == op.FUNCTION_CALL)
          (not (names_function m (slice_index f.function 3)) || type_of m (slice_index f.function 3) == slice_index f.function 1) true)

  pub types_stay : function_fits before (as_instruction f.function) ≡ true → TakeTypes (parameter_types before type) f.parameters
      → TakeTypes (parameter_types after type) f.parameters
  types_stay h g = subst (λ ts. TakeTypes ts f.parameters) (sym (same_parameter_types before after round.types type (function_type h))) g

-- ---- steps

-- the edited body is at its head where the body is, or else the body is further on
abbrev Follows : Stage → Stage → Type 0
Follows s r = ((s ≡ Opening) × (r ≡ Opening)) ⊎ (s ≡ Further)

module _ (before after : List Instruction) (words : List ℕ) (step : is_step (opcode_in words) ≡ true) where
  abbrev Fit : Stage → List (List ℕ) → Type 0
  Fit stage lines = AllByRecursion (λ line. StepFits after stage line) lines

  abbrev Variables : Bool → List (List ℕ) → Type 0
  Variables is lines = AllByRecursion (λ line. is_variable line ≡ is) lines

  -- variables keep the stage
  variables_still : (s : Stage) (lines : List (List ℕ)) → Variables true lines → stage_after s lines ≡ s
  variables_still s [] v = refl
  variables_still s (line ∷ lines) v =
      ap (λ (r : Stage). stage_after r lines) (behind_variable s line v.0) ∙ variables_still s lines v.1

  variables_fit : (s : Stage) (lines : List (List ℕ)) → Variables true lines → Fit s lines → InTurn after s lines
  variables_fit s [] v h = tt
  variables_fit s (line ∷ lines) v h =
      (h.0, subst (λ r. InTurn after r lines) (sym (behind_variable s line v.0)) (variables_fit s lines v.1 h.1))

  -- all else fits anywhere
  others_fit : (s r : Stage) (lines : List (List ℕ)) → Variables false lines → Fit s lines → InTurn after r lines
  others_fit s r [] v h = tt
  others_fit s r (line ∷ lines) v h =
      (fits_anywhere after line s r v.0 h.0, others_fit s (stage_behind r (as_instruction line)) lines v.1 h.1)

  module _ (lines : List (List ℕ)) (stand : StandFor before after words lines) where
    abbrev Now : (s r : Stage) → Type 0
    Now s r = InTurn after r lines × Follows (stage_behind s (as_instruction words)) (stage_after r lines)

    alike : (b : Bool) → is_variable words ≡ b → Variables b lines
    alike b e = subst (λ c. Variables c lines) e (by_recursion (λ line. is_variable line ≡ is_variable words) lines stand.variables)

    fit : StepFits before Opening words → Fit Opening lines
    fit h = by_recursion (λ line. StepFits after Opening line) lines (stand.fit h)

    at_head : (b : Bool) → is_variable words ≡ b → StepFits before Opening words → Now Opening Opening
    at_head true v h = (
      variables_fit Opening lines (alike true v) (fit h),
      inl (behind_variable Opening words v, variables_still Opening lines (alike true v)),
    )
    at_head false v h = (others_fit Opening Opening lines (alike false v) (fit h), inr (head_is_over words step v))

    further_on : (b : Bool) → is_variable words ≡ b → (r : Stage) → StepFits before Further words → Now Further r
    further_on true v r h = absurd (no_variable_further before words v h)
    further_on false v r h = (
      others_fit Opening r lines (alike false v) (fit (fits_anywhere before words Further Opening v h)),
      inr (still_further words step v),
    )

    pub in_turn : (s r : Stage) → Follows s r → StepFits before s words → Now s r
    in_turn s r (inl both) h =
        subst (λ z. Now z r) (sym both.0)
        (subst (λ z. Now Opening z) (sym both.1)
        (at_head (is_variable words) refl (subst (λ z. StepFits before z words) both.0 h)))
    in_turn s r (inr over) h =
        subst (λ z. Now z r) (sym over) (further_on (is_variable words) refl r (subst (λ z. StepFits before z words) over h))

-- ---- functions

pub typed_stays : TypedStays
typed_stays before after e f sound opens round fits ids h =
    let OfStep : List ℕ → Type 0 = λ words. (is_step (opcode_in words) ≡ true) × StandFor before after words (e.steps words) in
    let OfUse : ℕ → Type 0 = λ id. HasItsType before after id (e.uses id) in
    let lines =
    and_also (λ (words : List ℕ). is_step (opcode_in words) ≡ true) (λ words. StandFor before after words (e.steps words)) (steps_of f.body)
    (are_steps (branches_in f) f.body sound.formed)
    (by_recursion (λ words. StandFor before after words (e.steps words)) (steps_of f.body) fits) in
    let kept = of_both OfStep OfUse (shown f.body) lines (by_recursion OfUse (uses_of f.body) ids) in
    record {
      function = function_stays before after f opens round h.function;
      result = result_stays before after f opens round h.function h.result;
      parameters = types_stay before after f opens round h.function h.parameters;
      body =
          typed before after e (Of OfStep OfUse) Follows (inr refl)
          (λ s r words k follows fit. in_turn before after words k.0 (e.steps words) k.1 s r follows fit) (λ id k. k)
          (same_shape before after round.types) (same_closed before after round.types) (same_void before after round.types)
          (λ t h. absurd (zero_is_no_value before t round.whole h)) (slice_index f.function 1) [] Opening Opening f.body kept (inl (refl, refl)) h.body;
    }

-- ---- where instructions go, or become others of their opcodes

-- one line, which fits where it is told to, stays or goes
stands : (before after : List Instruction) (words : List ℕ) (gone goes : Bool) → goes ≡ gone
    → (goes ≡ false → StepFits before Opening words → StepFits after Opening words) → StandFor before after words (cond gone [] (words ∷ []))
stands before after words true goes e fits = record {
  fit = λ h. All-nil (λ line. StepFits after Opening line);
  variables = All-nil (λ line. is_variable line ≡ is_variable words);
}
stands before after words false goes e fits = record {
  fit = λ h. All-cons (λ line. StepFits after Opening line) words [] (fits e h) (All-nil (λ line. StepFits after Opening line));
  variables = All-cons (λ line. is_variable line ≡ is_variable words) words [] refl (All-nil (λ line. is_variable line ≡ is_variable words));
}

pub typed_where_dropped : TypedWhereDropped
typed_where_dropped before after goes f sound opens round fits ids =
    typed_stays before after (dropping goes) f sound opens round
    (All-weaker (λ words. goes words ≡ false → StepFits before Opening words → StepFits after Opening words)
    (λ words. StandFor before after words (cond (goes words) [] (words ∷ [])))
    (λ words h. stands before after words (goes words) (goes words) refl h) (steps_of f.body) fits) ids

pub typed_where_replaced : TypedWhereReplaced
typed_where_replaced before after e f sound opens round opcodes fits ids =
    typed_stays before after e f sound opens round
    (All-weaker (λ words. StepFits before Opening words → All (λ line. StepFits after Opening line) (e.steps words))
    (λ words. StandFor before after words (e.steps words))
    (λ words h. record {
      fit = h;
      variables = All-weaker (λ line. opcode_in line ≡ opcode_in words) (λ line. is_variable line ≡ is_variable words)
          (λ line same. ap (λ (o : ℕ). o == op.VARIABLE) same) (e.steps words) (opcodes words);
    }) (steps_of f.body) fits) ids
