-- The lines of a typed tree fit: what the listing makes of its parts, its steps and its ends.
use Rattle.std.proofs.Common.{◌≡◌, inl, inr, ℕ, Bool, true, false, cond, ◌==◌, ◌&&◌, ◌||◌, not, List, [], ◌∷◌, ◌++◌, drop, None, refl, sym, ap, ap₂, subst, ◌∙◌, arith}
use Rattle.std.specs.Prelude.{slice_index}
use Rattle.std.specs.List.{flat_map, list_all}
use Rattle.spv_opcodes.specs.declared.op.TheConstants as op
use Rattle.spv_grammar.specs.Table.{row_of}
use Rattle.spv_module.specs.First.{unless}
use Rattle.spv_module.specs.Instruction.{Instruction, opcode}
use Rattle.spv_meaning.specs.Statements as statements
use Rattle.spv_typing.specs.Kinds.{is_closed, is_void}
use Rattle.spv_values.specs.Values.{is_bools, is_ints, is_value_of}
use Rattle.spv_walk.proofs.Unique.{both_hold, equal_true, tells, truth_apart}
use Rattle.spv_bodies.specs.Bodies.{Parameter}
use Rattle.spv_bodies.specs.Listing.{Branching, branch_line, from_block, from_others, in_order, instruction, label_line, loop_line, pair_words, phi_line, phi_pairs, selection_line, split_line}
use Rattle.spv_normal_trees.proofs.Texts.{opcode_spelled}
use Rattle.spv_tree.specs.Sound.{is_end, is_step, opcode_in}
use Rattle.spv_trees.specs.Standing.{OneOf}
use Rattle.spv_structured.proofs.Lists.{filter_from, one_split}
use Rattle.spv_arithmetic.specs.declared.forms.Form.TheVariants.{Branches, Switches}
use Rattle.spv_arithmetic.specs.Forms.{form_of}
use Rattle.spv_arithmetic.specs.Operands.{form_operands_fit, operands_fit, operands_suit}
use Rattle.spv_arithmetic.specs.Results.{result_fits}
use Rattle.spv_composites.specs.Broken.{composite_rules}
use Rattle.spv_composites.specs.Composites.{merges}
use Rattle.spv_usage.specs.declared.stages.Stage.{Stage}
use Rattle.spv_usage.specs.declared.stages.Stage.TheVariants.{Further, Opening}
use Rattle.spv_usage.specs.Storage.{storage_fits}
use Rattle.spv_signatures.specs.Contexts.{return_fits}
use Rattle.spv_signatures.specs.Functions.{function_fits, is_function_type, parameter_types, parameters_of}
use Rattle.spv_typed_trees.specs.Typed.{StepFits, as_instruction}
use Rattle.spv_typed_trees.proofs.Fits.{Fits, moved, nothing_both, nothing_unless, variable_late}
use Rattle.spv_typed_trees.proofs.Passes.{PassesOthers, branch_composites, branch_conditional_composites, branch_conditional_passes, branch_conditional_returns, branch_passes, branch_returns, function_end_composites, function_end_passes, function_end_returns, label_composites, label_passes, label_returns, loop_merge_composites, loop_merge_passes, loop_merge_returns, no_form, phi_composites, phi_passes, phi_returns, return_composites, return_passes, return_value_composites, return_value_passes, selection_merge_composites, selection_merge_passes, selection_merge_returns, switch_composites, switch_passes, switch_returns, unreachable_composites, unreachable_passes}
use Rattle.spv_typed_trees.proofs.Shape.{IsInner, IsStill}
use Rattle.spv_typed_trees.proofs.Words.{returns_read, same_words}

-- ---- what stands in blocks

pub apart_by : (test : ℕ → Bool) (o p : ℕ) → test o ≡ true → test p ≡ false → (o == p) ≡ false
apart_by test o p is other = elim (tells (o == p)) [
  | inl e ↦ truth_apart (test o) is (ap test (equal_true o p e) ∙ other)
  | inr e ↦ e
]

pub step_inner : (o : ℕ) → is_step o ≡ true → IsInner o
unfolding row_of
step_inner o h = record {
  function = apart_by is_step o op.FUNCTION h refl;
  parameter = apart_by is_step o op.FUNCTION_PARAMETER h refl;
  mark = apart_by is_step o op.LINE h refl;
  end_mark = apart_by is_step o op.NO_LINE h refl;
}

step_no_return : (o : ℕ) → is_step o ≡ true → ((o == op.RETURN) ≡ false) × ((o == op.RETURN_VALUE) ≡ false)
unfolding row_of
step_no_return o h = (apart_by is_step o op.RETURN h refl, apart_by is_step o op.RETURN_VALUE h refl)

pub end_still : (o : ℕ) → is_end o ≡ true → IsStill o
end_still o h = record {
  inner = record {
    function = apart_by is_end o op.FUNCTION h refl;
    parameter = apart_by is_end o op.FUNCTION_PARAMETER h refl;
    mark = apart_by is_end o op.LINE h refl;
    end_mark = apart_by is_end o op.NO_LINE h refl;
  };
  variable = apart_by is_end o op.VARIABLE h refl;
}

-- ---- branches in order are branches

flat_from : (all : List Branching) (x : Branching) (blocks : List ℕ) → OneOf x (flat_map (from_block all) blocks) → OneOf x all
flat_from all x [] o = absurd o
flat_from all x (b ∷ bs) o = elim (one_split x (from_block all b) (flat_map (from_block all) bs) o) [
  | inl h ↦ (filter_from (λ (y : Branching). y.0 == b) x all h).0
  | inr h ↦ flat_from all x bs h
]

order_from : (all : List Branching) (x : Branching) (blocks : List ℕ) → OneOf x (in_order blocks all) → OneOf x all
order_from all x blocks o = elim (one_split x (flat_map (from_block all) blocks) (from_others all blocks) o) [
  | inl h ↦ flat_from all x blocks h
  | inr h ↦ (filter_from _ x all h).0
]

pub pairs_back : (ps : List (ℕ × ℕ)) → statements.pairs (pair_words ps) ≡ ps
pairs_back [] = refl
pairs_back (p ∷ ps) = ap (λ z. p ∷ z) (pairs_back ps)

-- all parts
fits_by : (m : List Instruction) (j : Instruction) → PassesOthers m j → operands_fit m j ≡ true → composite_rules m j ≡ [] → (t : ℕ) → return_fits m t j ≡ true
    → Fits m Opening t None j
fits_by m j o a c t r = record {
  arithmetic = a;
  arithmetic_result = o.arithmetic_result;
  composites = c;
  storage = o.storage Opening;
  ordering = o.ordering;
  function = o.function;
  results = o.results None;
  call = o.call;
  returns = r;
}

pub branch_operands : (m : List Instruction) (j : Instruction) → opcode j ≡ op.BRANCH_CONDITIONAL
    → operands_fit m j ≡ operands_suit m Branches (slice_index j.words 1) (drop 1 j.words)
unfolding operands_fit
branch_operands m j e = ap (λ k. form_operands_fit m (form_of k) j) e

pub switch_operands : (m : List Instruction) (j : Instruction) → opcode j ≡ op.SWITCH
    → operands_fit m j ≡ operands_suit m Switches (slice_index j.words 1) (drop 1 j.words)
unfolding operands_fit
switch_operands m j e = ap (λ k. form_operands_fit m (form_of k) j) e

-- ---- steps

module _ (m : List Instruction) (t : ℕ) where
  step_function : (i : Instruction) → (opcode i == op.FUNCTION) ≡ false → function_fits m i ≡ true
  unfolding function_fits
  step_function i e =
      ap (λ (b : Bool). not b || (is_function_type m (slice_index i.words 4)
      && Rattle.std.specs.Prelude.length (parameter_types m (slice_index i.words 4))
      == Rattle.std.specs.Prelude.length (parameters_of m (slice_index i.words 2)))) e

  step_returns : (i : Instruction) → (opcode i == op.RETURN) ≡ false → (opcode i == op.RETURN_VALUE) ≡ false → return_fits m t i ≡ true
  unfolding return_fits
  step_returns i e g =
      ap (λ (b : Bool). cond b (is_void m t) (cond (opcode i == op.RETURN_VALUE) (not (is_void m t) && is_value_of m t (slice_index i.words 1)) true)) e
      ∙ ap (λ (b : Bool). cond b (not (is_void m t) && is_value_of m t (slice_index i.words 1)) true) g

  step_fits : (s : Stage) (words : List ℕ) → is_step (opcode_in words) ≡ true → StepFits m s words → Fits m s t None (as_instruction words)
  step_fits s words step f =
      let i = as_instruction words in
      let a = nothing_both (unless (operands_fit m i) 501) (unless (result_fits m i) 502) f.arithmetic in
      let r = step_no_return (opcode_in words) step in
      record {
        arithmetic = nothing_unless (operands_fit m i) 501 a.left;
        arithmetic_result = nothing_unless (result_fits m i) 502 a.right;
        composites = f.composites;
        storage = f.storage;
        ordering = f.ordering;
        function = step_function i (step_inner (opcode_in words) step).function;
        results = f.result;
        call = f.call;
        returns = step_returns i r.0 r.1;
      }

  -- instructions of a line fit
  abbrev pub LineFits : List ℕ → Type 0
  LineFits words = (j : Instruction) → j.words ≡ words → Fits m Opening t None j

  -- and are no variables
  pub record StillLine (words : List ℕ) : Type 0 where
    pub still : IsStill (opcode_in words)
    pub fits : LineFits words

  pub step_line : (words : List ℕ) → is_step (opcode_in words) ≡ true → StepFits m Opening words → LineFits words
  step_line words step f j e = same_words m Opening t None (as_instruction words) j e (step_fits Opening words step f)

  pub step_still : (words : List ℕ) → is_step (opcode_in words) ≡ true → StepFits m Further words → StillLine words
  step_still words step f =
      let i = as_instruction words in
      let inner = step_inner (opcode_in words) step in
      let fits = step_fits Further words step f in
      let v : (opcode_in words == op.VARIABLE) ≡ false = elim (tells (opcode_in words == op.VARIABLE)) [
        | inl e ↦ truth_apart (storage_fits m Further i) fits.storage (variable_late m i e)
        | inr e ↦ e
      ] in
      record {
        still = record { inner = inner; variable = v };
        fits = λ j e. same_words m Opening t None i j e (moved m i Further Opening t None None v inner.parameter fits);
      }

  -- ---- lines that are made

  still_by : (o : ℕ) (words : List ℕ) → opcode_in words ≡ o → IsStill o → ((j : Instruction) → j.words ≡ words → opcode j ≡ o → Fits m Opening t None j)
      → StillLine words
  still_by o words is still fits = record { still = subst IsStill (sym is) still; fits = λ j e. fits j e (ap opcode_in e ∙ is) }

  known : (o : ℕ) → (o == op.FUNCTION) ≡ false → (o == op.FUNCTION_PARAMETER) ≡ false → (o == op.LINE) ≡ false → (o == op.NO_LINE) ≡ false
      → (o == op.VARIABLE) ≡ false → IsStill o
  known o a b c d e = record { inner = record { function = a; parameter = b; mark = c; end_mark = d }; variable = e }

  pub label_still : (l : ℕ) → StillLine (label_line l)
  label_still l = still_by op.LABEL (label_line l) refl (known op.LABEL refl refl refl refl refl) (λ j e is.
      fits_by m j (label_passes m j is) (no_form m j op.LABEL refl is) (label_composites m j is) t (label_returns m j t is))

  pub end_of_function_still : StillLine (instruction op.FUNCTION_END [])
  end_of_function_still =
      still_by op.FUNCTION_END (instruction op.FUNCTION_END []) refl (known op.FUNCTION_END refl refl refl refl refl) (λ j e is.
      fits_by m j (function_end_passes m j is) (no_form m j op.FUNCTION_END refl is) (function_end_composites m j is) t (function_end_returns m j t is))

  pub branch_still : (l : ℕ) → StillLine (branch_line l)
  branch_still l = still_by op.BRANCH (branch_line l) refl (known op.BRANCH refl refl refl refl refl) (λ j e is.
      fits_by m j (branch_passes m j is) (no_form m j op.BRANCH refl is) (branch_composites m j is) t (branch_returns m j t is))

  pub selection_still : (merge control : ℕ) → StillLine (selection_line merge control)
  selection_still merge control =
      still_by op.SELECTION_MERGE (selection_line merge control) refl (known op.SELECTION_MERGE refl refl refl refl refl) (λ j e is.
      fits_by m j (selection_merge_passes m j is) (no_form m j op.SELECTION_MERGE refl is) (selection_merge_composites m j is) t
      (selection_merge_returns m j t is))

  pub loop_still : (merge next control : ℕ) → StillLine (loop_line merge next control)
  loop_still merge next control =
      still_by op.LOOP_MERGE (loop_line merge next control) refl (known op.LOOP_MERGE refl refl refl refl refl) (λ j e is.
      fits_by m j (loop_merge_passes m j is) (no_form m j op.LOOP_MERGE refl is) (loop_merge_composites m j is) t (loop_merge_returns m j t is))

  pub split_still : (condition : ℕ) (on : Bool) (a b : ℕ) → is_bools m 1 condition ≡ true → StillLine (split_line condition on a b)
  split_still condition on a b h =
      still_by op.BRANCH_CONDITIONAL (split_line condition on a b) (opcode_spelled op.BRANCH_CONDITIONAL (condition ∷ cond on (a ∷ b ∷ [])
      (b ∷ a ∷ [])) (omega arith))
      (known op.BRANCH_CONDITIONAL refl refl refl refl refl) (λ j e is.
      fits_by m j (branch_conditional_passes m j is)
      (branch_operands m j is ∙ ap (operands_suit m Branches (slice_index j.words 1)) (ap (drop 1) e) ∙ h)
      (branch_conditional_composites m j is) t (branch_conditional_returns m j t is))

  pub switch_still : (selector : ℕ) (targets : List ℕ) → is_ints m 1 selector ≡ true → StillLine (instruction op.SWITCH (selector ∷ targets))
  switch_still selector targets h =
      still_by op.SWITCH (instruction op.SWITCH (selector ∷ targets)) (opcode_spelled op.SWITCH (selector ∷ targets) (omega arith))
      (known op.SWITCH refl refl refl refl refl) (λ j e is.
      fits_by m j (switch_passes m j is)
      (switch_operands m j is ∙ ap (operands_suit m Switches (slice_index j.words 1)) (ap (drop 1) e) ∙ h)
      (switch_composites m j is) t (switch_returns m j t is))

  -- ---- OpPhi

  empty_both : (a b : Bool) → a ≡ true → b ≡ true → unless a 501 ++ unless b 502 ≡ []
  empty_both a b h g = ap₂ (λ (x y : Bool). unless x 501 ++ unless y 502) h g

  each_value : (type k : ℕ) (all : List Branching) → ((b : Branching) → OneOf b all → is_value_of m type (slice_index b.1.values k) ≡ true)
      → list_all (λ pair. is_value_of m type pair.0) (phi_pairs k all) ≡ true
  each_value type k [] h = refl
  each_value type k (b ∷ bs) h =
      both_hold (is_value_of m type (slice_index b.1.values k)) (list_all (λ pair. is_value_of m type pair.0) (phi_pairs k bs)) (h b (inl refl))
      (each_value type k bs (λ x o. h x (inr o)))

  pub phi_still : (k : ℕ) (all : List Branching) (p : Parameter) → is_closed m p.type ≡ true
      → ((b : Branching) → OneOf b all → is_value_of m p.type (slice_index b.1.values k) ≡ true) → StillLine (phi_line k all p)
  phi_still k all p closed h =
      let ps : List (ℕ × ℕ) = phi_pairs k (in_order p.parents all) in
      still_by op.PHI (phi_line k all p) (opcode_spelled op.PHI (p.type ∷ p.result_id ∷ pair_words ps) (omega arith))
      (known op.PHI refl refl refl refl refl) (λ j e is.
      fits_by m j (phi_passes m j is) (no_form m j op.PHI refl is)
      (phi_composites m j is
      ∙ ap (λ (ws : List ℕ). unless (merges m (slice_index ws 1) (drop 3 ws)) 501 ++ unless (is_closed m (slice_index ws 1)) 502) e
      ∙ empty_both (merges m p.type (pair_words ps)) (is_closed m p.type)
      (ap (list_all (λ pair. is_value_of m p.type pair.0)) (pairs_back ps)
      ∙ each_value p.type k (in_order p.parents all) (λ b o. h b (order_from all b p.parents o)))
      closed)
      t (phi_returns m j t is))

  -- ---- ends

  end_by : (words : List ℕ) → IsStill (opcode_in words) → return_fits m t (as_instruction words) ≡ true → (o : ℕ) → opcode_in words ≡ o → form_of o ≡ None
      → ((j : Instruction) → opcode j ≡ o → PassesOthers m j) → ((j : Instruction) → opcode j ≡ o → composite_rules m j ≡ []) → StillLine words
  end_by words still returns o is none passes composites = record {
    still = still;
    fits = λ j e.
        let there : opcode j ≡ o = ap opcode_in e ∙ is in
        fits_by m j (passes j there) (no_form m j o none there) (composites j there) t (returns_read m t (as_instruction words) j e ∙ returns);
  }

  one_of_three : (a b c : Bool) → (a || (b || (c || false))) ≡ true → a ≡ false → b ≡ false → c ≡ true
  one_of_three true b c h e g = absurd (cc e)
  one_of_three false true c h e g = absurd (cc g)
  one_of_three false false true h e g = refl
  one_of_three false false false h e g = absurd (cc h)

  pub finish_still : (words : List ℕ) → is_end (opcode_in words) ≡ true → return_fits m t (as_instruction words) ≡ true → StillLine words
  finish_still words h returns =
      let still = end_still (opcode_in words) h in
      elim (tells (opcode_in words == op.RETURN)) [
        | inl e ↦ end_by words still returns op.RETURN (equal_true (opcode_in words) op.RETURN e) refl (return_passes m) (return_composites m)
        | inr e ↦ elim (tells (opcode_in words == op.RETURN_VALUE)) [
          | inl g ↦ end_by words still returns op.RETURN_VALUE (equal_true (opcode_in words) op.RETURN_VALUE g) refl (return_value_passes m)
              (return_value_composites m)
          | inr g ↦ end_by words still returns op.UNREACHABLE
              (equal_true (opcode_in words) op.UNREACHABLE (one_of_three (opcode_in words == op.RETURN) (opcode_in words == op.RETURN_VALUE)
              (opcode_in words == op.UNREACHABLE) h e g)) refl (unreachable_passes m) (unreachable_composites m)
        ]
      ]
