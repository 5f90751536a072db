-- A switch uses its selector: its words are those of an instruction.
use Rattle.std.proofs.Common.{◌≡◌, ℕ, ◌+◌, ◌*◌, ◌%◌, Bool, true, false, cond, ◌&&◌, ◌==◌, nat_le, List, [], ◌∷◌, ◌++◌, drop, filter, length, map, take, Ok, inl, refl, sym, ap, subst, ◌∙◌, arith}
use Rattle.std.specs.List.{slice_get, zip}
use Rattle.std.specs.Option.{option_and_then, option_map}
use Rattle.spv_opcodes.specs.declared.op.TheConstants as op
use Rattle.spv_grammar.specs.declared.kind.Role.{Role}
use Rattle.spv_grammar.specs.declared.kind.Role.TheVariants.{Opcode, UsedId}
use Rattle.spv_grammar.specs.Operands.{Taken, all_if, behind, body_roles, fitted, in_turn, operand_roles, roles_of}
use Rattle.spv_grammar.specs.Table.{row_of}
use Rattle.spv_module.specs.Instruction.{Instruction, IsInstruction, opcode, parts, roles}
use Rattle.spv_ids.specs.Ids.{is_needed}
use Rattle.spv_blocks.specs.Cutting.{blocks_of}
use Rattle.spv_walk.specs.Contexts.{Context}
use Rattle.spv_walk.specs.Walk.{Walk}
use Rattle.spv_walk.proofs.Unique.{truth_apart}
use Rattle.spv_bodies.specs.Listing.{instruction, pair_words}
use Rattle.spv_normal.specs.Lines.{line}
use Rattle.spv_normal_trees.proofs.Texts.{opcode_spelled}
use Rattle.spv_spelling.specs.Text.{text}
use Rattle.spv_spelling.specs.Whole.{IsAdmitted}
use Rattle.spv_tree.specs.Sound.{opcode_in}
use Rattle.spv_trees.specs.Standing.{OneOf}
use Rattle.spv_trees.proofs.Members.{one_right}
use Rattle.spv_fine.specs.Fine.{used_in}
use Rattle.spv_fine.proofs.Homes.{LineAt, text_line_at}
use Rattle.spv_fine.proofs.Places.{get_behind}

-- the words with needed parts
abbrev picked : List Role → List ℕ → List ℕ
picked rs ws = map (λ part. part.1) (filter (λ part. is_needed part.0) (zip rs ws))

switch_roles : (words : List ℕ) → roles_of (instruction op.SWITCH words) ≡ behind (Opcode ∷ []) (body_roles op.SWITCH words)
unfolding roles_of
switch_roles words = ap (λ n. behind (Opcode ∷ []) (body_roles n words)) (opcode_spelled op.SWITCH words (omega arith))

pub used_selector : (selector default : ℕ) (cases : List (ℕ × ℕ)) (rs : List Role)
    → roles_of (instruction op.SWITCH (selector ∷ default ∷ pair_words cases)) ≡ Ok rs
    → OneOf selector (used_in (instruction op.SWITCH (selector ∷ default ∷ pair_words cases)))
unfolding row_of
used_selector selector default cases rs fit =
    subst (OneOf selector)
    (sym (ap (λ r. picked (parts r) (instruction op.SWITCH (selector ∷ default ∷ pair_words cases))) (switch_roles (selector ∷ default ∷ pair_words cases))))
    (by (length (pair_words cases) % 2 == 0 && nat_le (length (pair_words cases)) (2 * 16383)) _
    (sym (switch_roles (selector ∷ default ∷ pair_words cases)) ∙ fit))
  where
    by : (fits : Bool) (h : ℕ) → behind (Opcode ∷ []) (fitted (option_map (λ roles. UsedId ∷ roles) (option_map (λ roles. UsedId ∷ roles)
        (option_and_then (λ (t : Taken). option_map (λ roles. t.roles ++ roles) (operand_roles [] t.rest)) (all_if fits (in_turn (pair_words cases)))))))
        ≡ Ok rs
        → OneOf selector (picked (parts (behind (Opcode ∷ []) (fitted (option_map (λ roles. UsedId ∷ roles) (option_map (λ roles. UsedId ∷ roles)
        (option_and_then (λ (t : Taken). option_map (λ roles. t.roles ++ roles) (operand_roles [] t.rest)) (all_if fits (in_turn (pair_words cases)))))))))
        (h ∷ selector ∷ default ∷ pair_words cases))
    by true h e = inl refl
    by false h e = absurd (cc (e))

-- an instruction whose line is no conditional branch has the words of its line
line_plain : (i : Instruction) → (opcode_in (line i) == op.BRANCH_CONDITIONAL) ≡ false → line i ≡ i.words
line_plain i h = by (opcode i == op.BRANCH_CONDITIONAL) h where
  by : (b : Bool) → (opcode_in (cond b (instruction op.BRANCH_CONDITIONAL (take 3 (drop 1 i.words))) i.words) == op.BRANCH_CONDITIONAL) ≡ false
      → cond b (instruction op.BRANCH_CONDITIONAL (take 3 (drop 1 i.words))) i.words ≡ i.words
  by true e =
      truth_apart (opcode_in (instruction op.BRANCH_CONDITIONAL (take 3 (drop 1 i.words))) == op.BRANCH_CONDITIONAL)
      (ap (λ o. o == op.BRANCH_CONDITIONAL) (opcode_spelled op.BRANCH_CONDITIONAL (take 3 (drop 1 i.words)) (omega arith))) e
  by false e = refl

module _ (insts : List Instruction) (admitted : IsAdmitted insts) (l : ℕ) (c : Context) where
  whole_at : (words : List ℕ) → (x : LineAt insts l words) → IsInstruction x.inst.words (roles x.inst)
  whole_at words x =
      let xs = x.front ++ x.label ∷ x.between in
      admitted.each (length xs) x.inst
      (ap (λ z. slice_get z (length xs)) x.same
      ∙ (let e : length xs ≡ length xs + 0 = omega arith in ap (slice_get (xs ++ x.inst ∷ x.after)) e) ∙ get_behind xs (x.inst ∷ x.after) 0)

  pub selector_used : (front : List (List ℕ)) (selector default : ℕ) (cases : List (ℕ × ℕ)) → Walk (blocks_of insts) l c
      → text insts l ≡ front ++ instruction op.SWITCH (selector ∷ default ∷ pair_words cases) ∷ []
      → OneOf selector (used_in (instruction op.SWITCH (selector ∷ default ∷ pair_words cases)))
  selector_used front selector default cases w e =
      let words : List ℕ = instruction op.SWITCH (selector ∷ default ∷ pair_words cases) in
      let x : LineAt insts l words = text_line_at insts admitted l c words w (subst (OneOf words) (sym e) (one_right words front (words ∷ []) (inl refl))) in
      let same : words ≡ x.inst.words =
      x.line_is ∙ line_plain x.inst (ap (λ z. opcode_in z == op.BRANCH_CONDITIONAL) (sym x.line_is)
      ∙ ap (λ o. o == op.BRANCH_CONDITIONAL) (opcode_spelled op.SWITCH (selector ∷ default ∷ pair_words cases) (omega arith))) in
      used_selector selector default cases (roles x.inst) (ap roles_of same ∙ (whole_at words x).parted)
