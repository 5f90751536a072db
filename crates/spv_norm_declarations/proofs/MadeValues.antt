-- The lines of a function in its normal form use the ids as values that its instructions use so.
use Rattle.std.proofs.Common.{◌≡◌, ℕ, ◌≤◌, Bool, true, false, cond, ◌==◌, List, [], ◌∷◌, ◌++◌, drop, length, map, take, refl, sym, ap, subst, ◌∙◌, arith}
use Rattle.std.specs.List.{AllByRecursion, slice_index}
use Rattle.spv_opcodes.specs.declared.op.TheConstants as op
use Rattle.spv_grammar.specs.Operands.{opcode_of, roles_of}
use Rattle.spv_grammar.specs.Table.{row_of}
use Rattle.spv_module.specs.Instruction.{Instruction, opcode}
use Rattle.spv_ids.specs.Ids.{used_ids}
use Rattle.spv_blocks.specs.Cutting.{pairs, word}
use Rattle.spv_walk.proofs.Unique.{equal_true}
use Rattle.spv_bodies.specs.Bodies.{Function}
use Rattle.spv_bodies.specs.Listing.{instruction, label_line, pair_words}
use Rattle.spv_normal.specs.Lines.{line, without_marks}
use Rattle.spv_normal.specs.Normal.{copied, normal_function, renamed}
use Rattle.spv_spelling.specs.Spelling.{SpellsFunction}
use Rattle.spv_spelling.specs.Whole.{IsAdmitted}
use Rattle.spv_normal_trees.specs.Laws.{stays_by}
use Rattle.spv_normal_trees.proofs.Texts.{opcode_spelled, pairs_spelled}
use Rattle.spv_blocks.specs.Cutting.{blocks_of}
use Rattle.spv_norm_declared.proofs.FunctionLines.{lines_made}
use Rattle.spv_norm_declarations.proofs.Defined.{IsFormed}
use Rattle.spv_norm_declarations.proofs.Uses.{first_value, is_phi, values, values_by}

abbrev pub at_zero : List ℕ → Instruction
at_zero ws = record { offset = 0; words = ws }

module _ (D : ℕ → Type 0) where
  -- each value that an instruction or a line uses
  abbrev pub UsesValues : Instruction → Type 0
  UsesValues i = AllByRecursion D (values i)

  abbrev pub LineUsesValues : List ℕ → Type 0
  LineUsesValues w = AllByRecursion D (values (at_zero w))

  label_values : (l : ℕ) → LineUsesValues (label_line l)
  unfolding roles_of row_of
  label_values l = tt

  end_values : LineUsesValues (instruction op.FUNCTION_END [])
  unfolding roles_of row_of
  end_values = tt

  front_word : (ws : List ℕ) → slice_index (instruction op.BRANCH_CONDITIONAL (take 3 (drop 1 ws))) 1 ≡ slice_index ws 1
  front_word [] = refl
  front_word (h ∷ []) = refl
  front_word (h ∷ a ∷ ws) = refl

  line_values : (i : Instruction) → UsesValues i → LineUsesValues (line i)
  line_values i u = by (opcode i == op.BRANCH_CONDITIONAL) refl where
    split : List ℕ
    split = instruction op.BRANCH_CONDITIONAL (take 3 (drop 1 i.words))

    by : (b : Bool) → (opcode i == op.BRANCH_CONDITIONAL) ≡ b → LineUsesValues (cond b split i.words)
    by true e =
        let own : D (slice_index i.words 1) = (subst (λ o. AllByRecursion D (values_by o i.words (used_ids i)))
        (equal_true (opcode i) op.BRANCH_CONDITIONAL e) u).0 in
        subst (λ o. AllByRecursion D (values_by o split (used_ids (at_zero split))))
        (sym (opcode_spelled op.BRANCH_CONDITIONAL (take 3 (drop 1 i.words)) (omega arith))) (subst D (sym (front_word i.words)) own, tt)
    by false e = u

  phi_values : (i : Instruction) → opcode i ≡ op.PHI → UsesValues i → D (slice_index i.words 1) × AllByRecursion D
      (map (λ pair. pair.0) (pairs (drop 3 i.words)))
  phi_values i e u = subst (λ o. AllByRecursion D (values_by o i.words (used_ids i))) e u

  firsts_same : (stays : ℕ → ℕ) (ps : List (ℕ × ℕ)) → AllByRecursion D (map (λ (pair : ℕ × ℕ). pair.0) ps)
      → AllByRecursion D (map (λ (pair : ℕ × ℕ). pair.0) (map (λ (pair : ℕ × ℕ). (pair.0, stays pair.1)) ps))
  firsts_same stays [] h = tt
  firsts_same stays (p ∷ ps) h = (h.0, firsts_same stays ps h.1)

  renamed_values : (stays : ℕ → ℕ) (i : Instruction) → IsFormed i → opcode i ≡ op.PHI → UsesValues i → LineUsesValues (renamed stays i)
  renamed_values stays i formed e u =
      let p = is_phi i formed e in
      let own = subst (λ ws. D (slice_index ws 1) × AllByRecursion D (map (λ pair. pair.0) (pairs (drop 3 ws)))) p.same (phi_values i e u) in
      let moved = map (λ (pair : ℕ × ℕ). (pair.0, stays pair.1)) (pairs p.rest) in
      let there : List ℕ = p.head ∷ p.type ∷ p.name ∷ pair_words moved in
      let begins : opcode_of p.head ≡ op.PHI = sym (ap (λ ws. opcode_of (slice_index ws 0)) p.same) ∙ e in
      subst (λ ws. LineUsesValues (take 3 ws ++ pair_words (map (λ (pair : ℕ × ℕ). (pair.0, stays pair.1)) (pairs (drop 3 ws))))) (sym p.same)
      (subst (λ o. AllByRecursion D (values_by o there (used_ids (at_zero there)))) (sym begins)
      (own.0, subst (λ ps. AllByRecursion D (map (λ pair. pair.0) ps)) (sym (pairs_spelled moved)) (firsts_same stays (pairs p.rest) own.1)))

  copy_values : (a b c : ℕ) → D a → D c → LineUsesValues (instruction op.COPY_OBJECT (a ∷ b ∷ c ∷ []))
  unfolding roles_of row_of
  copy_values a b c h g = (h, (g, tt))

  copied_values : (i : Instruction) → IsFormed i → opcode i ≡ op.PHI → 4 ≤ length i.words → UsesValues i → LineUsesValues (copied i)
  copied_values i formed e some u =
      let p = is_phi i formed e in
      let own = subst (λ ws. D (slice_index ws 1) × AllByRecursion D (map (λ pair. pair.0) (pairs (drop 3 ws)))) p.same (phi_values i e u) in
      let long = ap length p.same in
      let value = first_value D p.rest p.even (omega (arith, some, long)) own.1 in
      subst (λ ws. LineUsesValues (instruction op.COPY_OBJECT (slice_index ws 1 ∷ slice_index ws 2 ∷ slice_index ws 3 ∷ []))) (sym p.same)
      (copy_values p.type p.name (slice_index (p.head ∷ p.type ∷ p.name ∷ p.rest) 3) own.0 value)

  pub function_values : (text : List Instruction) (stays : ℕ → ℕ) (tree : Function) → IsAdmitted (without_marks text) → SpellsFunction
      (without_marks text) stays tree
      → AllByRecursion (λ i. IsFormed i × UsesValues i) (without_marks text) → AllByRecursion LineUsesValues (normal_function text)
  function_values text stays tree admitted spells are =
      lines_made (without_marks text) stays tree admitted spells (λ i. IsFormed i × UsesValues i) LineUsesValues are
      record {
        label = λ i h mark. label_values (word i 1);
        line = λ i h. line_values i h.1;
        renamed = λ i h phi. renamed_values (stays_by (blocks_of (without_marks text))) i h.0 phi h.1;
        copied = λ i h phi some. copied_values i h.0 phi some h.1;
        end = end_values;
      }
