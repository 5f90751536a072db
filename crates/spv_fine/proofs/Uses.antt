-- What the lines that make blocks use: their labels, and the condition or the selector.
use Rattle.std.proofs.Common.{◌≡◌, ℕ, ◌*◌, ◌<◌, ◌%◌, Bool, true, false, cond, ◌&&◌, ◌==◌, nat_le, List, [], ◌∷◌, ◌++◌, length, map, filter, refl, sym, ap, subst, ◌∙◌, arith}
use Rattle.std.specs.List.{AllByRecursion, zip}
use Rattle.std.specs.Option.{option_map, option_and_then}
use Rattle.spv_opcodes.specs.declared.op.TheConstants as op
use Rattle.spv_grammar.specs.declared.kind.Role.{Role}
use Rattle.spv_grammar.specs.declared.kind.Role.TheVariants.{Opcode, UsedId, Literal, UnknownEnumerant}
use Rattle.spv_grammar.specs.declared.kind.Enumerant.TheVariants.{LoopControl, SelectionControl}
use Rattle.spv_grammar.specs.Enumerants.{is_known}
use Rattle.spv_grammar.specs.Operands.{Taken, all_if, behind, body_roles, fitted, in_turn, operand_roles, roles_of}
use Rattle.spv_grammar.specs.Table.{row_of}
use Rattle.spv_module.specs.Instruction.{parts}
use Rattle.spv_ids.specs.Ids.{is_needed}
use Rattle.spv_blocks.specs.Blocks.{seconds}
use Rattle.spv_bodies.specs.Listing.{branch_line, instruction, label_line, loop_line, pair_words, selection_line, split_line}
use Rattle.spv_normal_trees.proofs.Texts.{opcode_spelled}
use Rattle.spv_fine.specs.Fine.{used_in}

-- the words with needed parts
abbrev picked : List Role → List ℕ → List ℕ
picked rs ws = map (λ part. part.1) (filter (λ part. is_needed part.0) (zip rs ws))

spelled_roles : (o : ℕ) (words : List ℕ) → o < 65536 → roles_of (instruction o words) ≡ behind (Opcode ∷ []) (body_roles o words)
unfolding roles_of
spelled_roles o words less = ap (λ n. behind (Opcode ∷ []) (body_roles n words)) (opcode_spelled o words less)

spelled_used : (o : ℕ) (words : List ℕ) → o < 65536 → used_in (instruction o words) ≡ picked (parts (behind (Opcode ∷ []) (body_roles o words)))
    (instruction o words)
spelled_used o words less = ap (λ rs. picked (parts rs) (instruction o words)) (spelled_roles o words less)

pub used_branch : (t : ℕ) → used_in (branch_line t) ≡ t ∷ []
unfolding row_of
used_branch t = spelled_used op.BRANCH (t ∷ []) (omega arith)

pub used_label : (l : ℕ) → used_in (label_line l) ≡ []
unfolding row_of
used_label l = spelled_used op.LABEL (l ∷ []) (omega arith)

pub used_end : used_in (instruction op.FUNCTION_END []) ≡ []
unfolding row_of
used_end = spelled_used op.FUNCTION_END [] (omega arith)

pub used_split : (condition : ℕ) (on : Bool) (a b : ℕ) → used_in (split_line condition on a b) ≡ condition ∷ cond on (a ∷ b ∷ []) (b ∷ a ∷ [])
unfolding row_of
used_split condition true a b = spelled_used op.BRANCH_CONDITIONAL (condition ∷ a ∷ b ∷ []) (omega arith)
used_split condition false a b = spelled_used op.BRANCH_CONDITIONAL (condition ∷ b ∷ a ∷ []) (omega arith)

-- a mask is none of them
one_masked : (h m control : ℕ) (known : Bool) → picked (Opcode ∷ UsedId ∷ cond known Literal UnknownEnumerant ∷ []) (h ∷ m ∷ control ∷ []) ≡ m ∷ []
one_masked h m control true = refl
one_masked h m control false = refl

two_masked : (h m n control : ℕ) (known : Bool)
    → picked (Opcode ∷ UsedId ∷ UsedId ∷ cond known Literal UnknownEnumerant ∷ []) (h ∷ m ∷ n ∷ control ∷ []) ≡ m ∷ n ∷ []
two_masked h m n control true = refl
two_masked h m n control false = refl

pub used_selection : (m control : ℕ) → used_in (selection_line m control) ≡ m ∷ []
unfolding row_of
used_selection m control =
    spelled_used op.SELECTION_MERGE (m ∷ control ∷ []) (omega arith) ∙ one_masked 0x0003_00F7 m control (is_known SelectionControl control)

pub used_loop : (m n control : ℕ) → used_in (loop_line m n control) ≡ m ∷ n ∷ []
unfolding row_of
used_loop m n control =
    spelled_used op.LOOP_MERGE (m ∷ n ∷ control ∷ []) (omega arith) ∙ two_masked 0x0004_00F6 m n control (is_known LoopControl control)

module _ (A : ℕ → Type 0) where
  cases_used : (cases : List (ℕ × ℕ)) → AllByRecursion A (seconds cases) → AllByRecursion A (picked (in_turn (pair_words cases) ++ []) (pair_words cases))
  cases_used [] h = tt
  cases_used (p ∷ ps) h = (h.0, cases_used ps h.1)

  switch_by : (fits : Bool) (h selector default : ℕ) (cases : List (ℕ × ℕ)) → A selector → A default → AllByRecursion A (seconds cases)
      → AllByRecursion A (picked (parts (behind (Opcode ∷ []) (fitted (option_map (λ roles. UsedId ∷ roles) (option_map (λ roles. UsedId ∷ roles)
      (option_and_then (λ (t : Taken). option_map (λ roles. t.roles ++ roles) (operand_roles [] t.rest)) (all_if fits (in_turn (pair_words cases)))))))))
      (h ∷ selector ∷ default ∷ pair_words cases))
  switch_by true h selector default cases a b c = (a, (b, cases_used cases c))
  switch_by false h selector default cases a b c = tt

  pub used_switch : (selector default : ℕ) (cases : List (ℕ × ℕ)) → A selector → A default → AllByRecursion A (seconds cases)
      → AllByRecursion A (used_in (instruction op.SWITCH (selector ∷ default ∷ pair_words cases)))
  unfolding row_of
  used_switch selector default cases a b c =
      subst (AllByRecursion A) (sym (spelled_used op.SWITCH (selector ∷ default ∷ pair_words cases) (omega arith)))
      (switch_by (length (pair_words cases) % 2 == 0 && nat_le (length (pair_words cases)) (2 * 16383)) _ selector default cases a b c)
