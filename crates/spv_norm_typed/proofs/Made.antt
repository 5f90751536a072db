-- The lines that a normal form makes of instructions that fit, fit: labels, branches without weights, OpPhi that name other labels, copies.
use Rattle.std.proofs.Common.{◌≡◌, ℕ, ◌+◌, ◌≤◌, Bool, true, false, cond, ◌==◌, ◌&&◌, List, [], ◌∷◌, ◌++◌, drop, length, map, take, Option, None, refl, sym, ap, ap₂, subst, ◌∙◌, arith}
use Rattle.std.specs.Prelude.{slice_index}
use Rattle.std.specs.List.{list_all}
use Rattle.std.proofs.lemmas.Nat.{mod-mul-add}
use Rattle.spv_opcodes.specs.declared.op.TheConstants as op
use Rattle.spv_module.specs.First.{unless}
use Rattle.spv_module.specs.Instruction.{Instruction, IsInstruction, opcode, roles}
use Rattle.spv_meaning.specs.Statements as statements
use Rattle.spv_typing.specs.Kinds.{is_closed}
use Rattle.spv_values.specs.Values.{is_value_of}
use Rattle.spv_blocks.specs.Cutting.{pairs, word}
use Rattle.spv_walk.proofs.Unique.{both_left, equal_true}
use Rattle.spv_bodies.specs.Listing.{instruction, label_line, pair_words}
use Rattle.spv_normal.specs.Lines.{line}
use Rattle.spv_normal.specs.Normal.{copied, renamed}
use Rattle.spv_normal_trees.proofs.PhiWords.{phi_spelled}
use Rattle.spv_tree.specs.Sound.{opcode_in}
use Rattle.spv_arithmetic.specs.declared.forms.Form.TheVariants.{Branches}
use Rattle.spv_arithmetic.specs.Forms.{form_of}
use Rattle.spv_arithmetic.specs.Operands.{form_operands_fit, operands_fit, operands_suit}
use Rattle.spv_arithmetic.specs.Results.{result_fits}
use Rattle.spv_composites.specs.Broken.{composite_rules}
use Rattle.spv_composites.specs.Composites.{composite_operands_fit, composite_result_fits, merges}
use Rattle.spv_composites.specs.Memory.{atomic_operands_fit, atomic_result_fits, memory_operands_fit, memory_result_fits}
use Rattle.spv_composites.specs.Vectors.{vector_operands_fit, vector_result_fits}
use Rattle.spv_usage.specs.Orderings.{ordering_fits}
use Rattle.spv_usage.specs.declared.stages.Stage.{Stage}
use Rattle.spv_usage.specs.declared.stages.Stage.TheVariants.{Opening}
use Rattle.spv_usage.specs.Storage.{storage_fits}
use Rattle.spv_signatures.specs.Calls.{call_fits}
use Rattle.spv_signatures.specs.Contexts.{return_fits, result_fits as function_result_fits}
use Rattle.spv_signatures.specs.Functions.{function_fits}
use Rattle.spv_norm_declared.proofs.FunctionLines.{AreMade}
use Rattle.spv_norm_typed.proofs.Fits.{Fits}

-- ---- instructions that are asked for nothing but arithmetic and composites

-- all tests but these two pass
pub record PassesOthers (m : List Instruction) (j : Instruction) : Type 0 where
  pub arithmetic_result : result_fits m j ≡ true
  pub storage : (s : Stage) → storage_fits m s j ≡ true
  pub ordering : ordering_fits m j ≡ true
  pub function : function_fits m j ≡ true
  pub results : (n : Option ℕ) → function_result_fits m n j ≡ true
  pub call : call_fits m j ≡ true
  pub returns : (t : ℕ) → return_fits m t j ≡ true

module _ (m : List Instruction) (j : Instruction) where
  label_passes : opcode j ≡ op.LABEL → PassesOthers m j
  unfolding result_fits storage_fits ordering_fits function_fits function_result_fits call_fits return_fits
  label_passes e = record {
    arithmetic_result = rw e refl;
    storage = λ s. rw e refl;
    ordering = rw e refl;
    function = rw e refl;
    results = λ n. rw e refl;
    call = rw e refl;
    returns = λ t. rw e refl;
  }

  end_passes : opcode j ≡ op.FUNCTION_END → PassesOthers m j
  unfolding result_fits storage_fits ordering_fits function_fits function_result_fits call_fits return_fits
  end_passes e = record {
    arithmetic_result = rw e refl;
    storage = λ s. rw e refl;
    ordering = rw e refl;
    function = rw e refl;
    results = λ n. rw e refl;
    call = rw e refl;
    returns = λ t. rw e refl;
  }

  branch_passes : opcode j ≡ op.BRANCH_CONDITIONAL → PassesOthers m j
  unfolding result_fits storage_fits ordering_fits function_fits function_result_fits call_fits return_fits
  branch_passes e = record {
    arithmetic_result = rw e refl;
    storage = λ s. rw e refl;
    ordering = rw e refl;
    function = rw e refl;
    results = λ n. rw e refl;
    call = rw e refl;
    returns = λ t. rw e refl;
  }

  phi_passes : opcode j ≡ op.PHI → PassesOthers m j
  unfolding result_fits storage_fits ordering_fits function_fits function_result_fits call_fits return_fits
  phi_passes e = record {
    arithmetic_result = rw e refl;
    storage = λ s. rw e refl;
    ordering = rw e refl;
    function = rw e refl;
    results = λ n. rw e refl;
    call = rw e refl;
    returns = λ t. rw e refl;
  }

  copy_passes : opcode j ≡ op.COPY_OBJECT → PassesOthers m j
  unfolding result_fits storage_fits ordering_fits function_fits function_result_fits call_fits return_fits
  copy_passes e = record {
    arithmetic_result = rw e refl;
    storage = λ s. rw e refl;
    ordering = rw e refl;
    function = rw e refl;
    results = λ n. rw e refl;
    call = rw e refl;
    returns = λ t. rw e refl;
  }

  -- ---- what composites are asked for

  label_composites : opcode j ≡ op.LABEL → composite_rules m j ≡ []
  unfolding vector_operands_fit composite_operands_fit memory_operands_fit atomic_operands_fit
      vector_result_fits composite_result_fits memory_result_fits atomic_result_fits
  label_composites e = rw e refl

  end_composites : opcode j ≡ op.FUNCTION_END → composite_rules m j ≡ []
  unfolding vector_operands_fit composite_operands_fit memory_operands_fit atomic_operands_fit
      vector_result_fits composite_result_fits memory_result_fits atomic_result_fits
  end_composites e = rw e refl

  branch_composites : opcode j ≡ op.BRANCH_CONDITIONAL → composite_rules m j ≡ []
  unfolding vector_operands_fit composite_operands_fit memory_operands_fit atomic_operands_fit
      vector_result_fits composite_result_fits memory_result_fits atomic_result_fits
  branch_composites e = rw e refl

  last_alone : (b : Bool) → (b && true) ≡ b
  last_alone true = refl
  last_alone false = refl

  phi_composites : opcode j ≡ op.PHI → composite_rules m j ≡ unless (merges m (word j 1) (drop 3 j.words)) 501 ++ unless (is_closed m (word j 1)) 502
  unfolding vector_operands_fit composite_operands_fit memory_operands_fit atomic_operands_fit
      vector_result_fits composite_result_fits memory_result_fits atomic_result_fits
  phi_composites e =
      rw e (ap₂ (λ (a b : Bool). unless a 501 ++ unless b 502) (last_alone (merges m (word j 1) (drop 3 j.words))) (last_alone (is_closed m (word j 1))))

  copy_composites : opcode j ≡ op.COPY_OBJECT → composite_rules m j ≡ unless (is_value_of m (word j 1) (word j 3)) 501 ++ unless (is_closed m (word j 1)) 502
  unfolding vector_operands_fit composite_operands_fit memory_operands_fit atomic_operands_fit
      vector_result_fits composite_result_fits memory_result_fits atomic_result_fits
  copy_composites e =
      rw e (ap₂ (λ (a b : Bool). unless a 501 ++ unless b 502) (last_alone (is_value_of m (word j 1) (word j 3))) (last_alone (is_closed m (word j 1))))

-- ---- and arithmetic

module _ (m : List Instruction) (j : Instruction) where
  no_form : (o : ℕ) → form_of o ≡ None → opcode j ≡ o → operands_fit m j ≡ true
  unfolding operands_fit
  no_form o none e = ap (λ k. form_operands_fit m (form_of k) j) e ∙ ap (λ form. form_operands_fit m form j) none

  branch_operands : opcode j ≡ op.BRANCH_CONDITIONAL → operands_fit m j ≡ operands_suit m Branches (word j 1) (drop 1 j.words)
  unfolding operands_fit
  branch_operands e = ap (λ k. form_operands_fit m (form_of k) j) e

-- both parts
fits_by : (m : List Instruction) (j : Instruction) → PassesOthers m j → operands_fit m j ≡ true → composite_rules m j ≡ [] → (s : Stage) (t : ℕ) (n : Option ℕ)
    → Fits m s t n j
fits_by m j o a c s t n = record {
  arithmetic = a;
  arithmetic_result = o.arithmetic_result;
  composites = c;
  storage = o.storage s;
  ordering = o.ordering;
  function = o.function;
  results = o.results n;
  call = o.call;
  returns = o.returns t;
}

-- ---- the lines

module _ (m : List Instruction) (t : ℕ) where
  abbrev pub FitsInBlock : Instruction → Type 0
  FitsInBlock j = Fits m Opening t None j

  -- instructions of a line fit, unless it is that of a parameter
  abbrev pub LineFits : List ℕ → Type 0
  LineFits w = (opcode_in w == op.FUNCTION_PARAMETER) ≡ false → (j : Instruction) → j.words ≡ w → FitsInBlock j

  pub record IsSource (i : Instruction) : Type 0 where
    pub fits : LineFits i.words
    pub whole : IsInstruction i.words (roles i)

  label_fits : (l : ℕ) → LineFits (label_line l)
  label_fits l plain j e =
      let is : opcode j ≡ op.LABEL = ap opcode_in e in
      fits_by m j (label_passes m j is) (no_form m j op.LABEL refl is) (label_composites m j is) Opening t None

  end_fits : LineFits (instruction op.FUNCTION_END [])
  end_fits plain j e =
      let is : opcode j ≡ op.FUNCTION_END = ap opcode_in e in
      fits_by m j (end_passes m j is) (no_form m j op.FUNCTION_END refl is) (end_composites m j is) Opening t None

  -- a branch is asked for its condition alone
  branch_opcode : (ws : List ℕ) → opcode_in (instruction op.BRANCH_CONDITIONAL (take 3 (drop 1 ws))) ≡ op.BRANCH_CONDITIONAL
  branch_opcode ws = mod-mul-add (length (take 3 (drop 1 ws)) + 1) 65536 op.BRANCH_CONDITIONAL (omega arith)

  fewer_suit : (u v : ℕ) (ids : List ℕ) → operands_suit m Branches u ids ≡ true → operands_suit m Branches v (take 3 ids) ≡ true
  fewer_suit u v [] h = h
  fewer_suit u v (c ∷ labels) h = h

  branch_fits : (i : Instruction) → opcode i ≡ op.BRANCH_CONDITIONAL → LineFits i.words
      → LineFits (instruction op.BRANCH_CONDITIONAL (take 3 (drop 1 i.words)))
  branch_fits i is fits plain j e =
      let there : opcode j ≡ op.BRANCH_CONDITIONAL = ap opcode_in e ∙ branch_opcode i.words in
      let one = fits (ap (λ o. o == op.FUNCTION_PARAMETER) is) i refl in
      fits_by m j (branch_passes m j there)
      (branch_operands m j there ∙ ap (operands_suit m Branches (word j 1)) (ap (drop 1) e)
      ∙ fewer_suit (word i 1) (word j 1) (drop 1 i.words) (sym (branch_operands m i is) ∙ one.arithmetic))
      (branch_composites m j there) Opening t None

  line_fits : (i : Instruction) → LineFits i.words → LineFits (line i)
  line_fits i fits = by (opcode i == op.BRANCH_CONDITIONAL) refl
    where
      by : (b : Bool) → (opcode i == op.BRANCH_CONDITIONAL) ≡ b → LineFits (cond b (instruction op.BRANCH_CONDITIONAL (take 3 (drop 1 i.words))) i.words)
      by true e = branch_fits i (equal_true (opcode i) op.BRANCH_CONDITIONAL e) fits
      by false e = fits

  -- ---- OpPhi

  pairs_same : (ws : List ℕ) → statements.pairs ws ≡ pairs ws
  pairs_same [] = refl
  pairs_same (a ∷ []) = refl
  pairs_same (a ∷ b ∷ ws) = ap (λ l. (a, b) ∷ l) (pairs_same ws)

  abbrev all_values : ℕ → List (ℕ × ℕ) → Bool
  all_values u ps = list_all (λ pair. is_value_of m u pair.0) ps

  pub record PhiFits (ws : List ℕ) : Type 0 where
    pub values : all_values (slice_index ws 1) (pairs (drop 3 ws)) ≡ true
    pub closed : is_closed m (slice_index ws 1) ≡ true

  both_empty : (a b : Bool) → unless a 501 ++ unless b 502 ≡ [] → (a ≡ true) × (b ≡ true)
  both_empty true true h = (refl, refl)
  both_empty true false h = absurd (cc h)
  both_empty false b h = absurd (cc h)

  empty_both : (a b : Bool) → a ≡ true → b ≡ true → unless a 501 ++ unless b 502 ≡ []
  empty_both a b h g = ap₂ (λ (x y : Bool). unless x 501 ++ unless y 502) h g

  phi_fits : (i : Instruction) → opcode i ≡ op.PHI → LineFits i.words → PhiFits i.words
  phi_fits i is fits =
      let one = fits (ap (λ o. o == op.FUNCTION_PARAMETER) is) i refl in
      let parts = both_empty (merges m (word i 1) (drop 3 i.words)) (is_closed m (word i 1)) (sym (phi_composites m i is) ∙ one.composites) in
      record { values = ap (all_values (word i 1)) (sym (pairs_same (drop 3 i.words))) ∙ parts.0; closed = parts.1 }

  fits_phi : (j : Instruction) → opcode j ≡ op.PHI → PhiFits j.words → FitsInBlock j
  fits_phi j is p =
      fits_by m j (phi_passes m j is) (no_form m j op.PHI refl is)
      (phi_composites m j is
      ∙ empty_both (merges m (word j 1) (drop 3 j.words)) (is_closed m (word j 1))
      (ap (all_values (word j 1)) (pairs_same (drop 3 j.words)) ∙ p.values) p.closed)
      Opening t None

  pairs_of : (ps : List (ℕ × ℕ)) → pairs (pair_words ps) ≡ ps
  pairs_of [] = refl
  pairs_of (p ∷ ps) = ap (λ z. p ∷ z) (pairs_of ps)

  abbrev others_named : (stays : ℕ → ℕ) → List (ℕ × ℕ) → List (ℕ × ℕ)
  others_named stays ps = map (λ pair. (pair.0, stays pair.1)) ps

  same_values : (stays : ℕ → ℕ) (u : ℕ) (ps : List (ℕ × ℕ)) → all_values u (others_named stays ps) ≡ all_values u ps
  same_values stays u [] = refl
  same_values stays u (p ∷ ps) = ap (λ (b : Bool). is_value_of m u p.0 && b) (same_values stays u ps)

  abbrev renamed_words : (stays : ℕ → ℕ) → List ℕ → List ℕ
  renamed_words stays ws = take 3 ws ++ pair_words (others_named stays (pairs (drop 3 ws)))

  renamed_keeps : (stays : ℕ → ℕ) (ws : List ℕ) → PhiFits ws → PhiFits (renamed_words stays ws)
  renamed_keeps stays [] p = record { values = refl; closed = p.closed }
  renamed_keeps stays (h ∷ []) p = record { values = refl; closed = p.closed }
  renamed_keeps stays (h ∷ u ∷ []) p = record { values = refl; closed = p.closed }
  renamed_keeps stays (h ∷ u ∷ r ∷ ws) p = record {
    values = ap (all_values u) (pairs_of (others_named stays (pairs ws))) ∙ same_values stays u (pairs ws) ∙ p.values;
    closed = p.closed;
  }

  renamed_opcode : (stays : ℕ → ℕ) (ws : List ℕ) → opcode_in (renamed_words stays ws) ≡ opcode_in ws
  renamed_opcode stays [] = refl
  renamed_opcode stays (h ∷ ws) = refl

  renamed_fits : (stays : ℕ → ℕ) (i : Instruction) → opcode i ≡ op.PHI → LineFits i.words → LineFits (renamed stays i)
  renamed_fits stays i is fits plain j e =
      fits_phi j (ap opcode_in e ∙ renamed_opcode stays i.words ∙ is) (subst PhiFits (sym e) (renamed_keeps stays i.words (phi_fits i is fits)))

  -- ---- copies

  first_pair : (ws : List ℕ) → 4 ≤ length ws → ws ≡ instruction op.PHI (slice_index ws 1 ∷ slice_index ws 2 ∷ pair_words (pairs (drop 3 ws)))
      → (rest : List (ℕ × ℕ)) × (label : ℕ) × (pairs (drop 3 ws) ≡ (slice_index ws 3, label) ∷ rest)
  first_pair [] long e = absurd (omega (arith, long))
  first_pair (a ∷ []) long e = absurd (omega (arith, long))
  first_pair (a ∷ b ∷ []) long e = absurd (omega (arith, long))
  first_pair (a ∷ b ∷ c ∷ []) long e = absurd (omega (arith, long))
  first_pair (a ∷ b ∷ c ∷ d ∷ []) long e = absurd (cc e)
  first_pair (a ∷ b ∷ c ∷ d ∷ l ∷ ws) long e = (pairs ws, l, refl)

  first_value : (u v : ℕ) (ps : List (ℕ × ℕ)) (rest : List (ℕ × ℕ)) (label : ℕ) → ps ≡ (v, label) ∷ rest → all_values u ps ≡ true → is_value_of m u v ≡ true
  first_value u v ps rest label e h = both_left (is_value_of m u v) (all_values u rest) (ap (all_values u) (sym e) ∙ h)

  copied_fits : (i : Instruction) → opcode i ≡ op.PHI → 4 ≤ length i.words → IsSource i → LineFits (copied i)
  copied_fits i is long s plain j e =
      let there : opcode j ≡ op.COPY_OBJECT = ap opcode_in e in
      let p = phi_fits i is s.fits in
      let pair = first_pair i.words long (phi_spelled i.words (roles i) s.whole is) in
      let type : word j 1 ≡ word i 1 = ap (λ ws. slice_index ws 1) e in
      let value : word j 3 ≡ word i 3 = ap (λ ws. slice_index ws 3) e in
      fits_by m j (copy_passes m j there) (no_form m j op.COPY_OBJECT refl there)
      (copy_composites m j there
      ∙ empty_both (is_value_of m (word j 1) (word j 3)) (is_closed m (word j 1))
      (ap₂ (is_value_of m) type value ∙ first_value (word i 1) (word i 3) (pairs (drop 3 i.words)) pair.0 pair.1 pair.2 p.values)
      (ap (is_closed m) type ∙ p.closed))
      Opening t None

  pub lines_fit : (stays : ℕ → ℕ) → AreMade IsSource LineFits stays
  lines_fit stays = record {
    label = λ i s mark. label_fits (word i 1);
    line = λ i s. line_fits i s.fits;
    renamed = λ i s is. renamed_fits stays i is s.fits;
    copied = λ i s is long. copied_fits i is long s;
    end = end_fits;
  }
