-- What the ends of functions use: OpReturnValue its value, where it has one operand; and OpReturn and OpUnreachable nothing.
use Rattle.std.proofs.Common.{◌≡◌, inl, inr, ℕ, true, nat_eq, List, [], ◌∷◌, map, filter, refl, sym, subst}
use Rattle.std.proofs.lemmas.Bool.{eqb-true, false≢true}
use Rattle.std.specs.List.{AllByRecursion, zip}
use Rattle.spv_opcodes.specs.declared.op.TheConstants as op
use Rattle.spv_grammar.specs.declared.kind.Role.{Role}
use Rattle.spv_grammar.specs.declared.kind.Role.TheVariants.{Opcode}
use Rattle.spv_grammar.specs.Operands.{behind, body_roles, opcode_of, roles_of}
use Rattle.spv_grammar.specs.Table.{row_of}
use Rattle.spv_module.specs.Instruction.{parts}
use Rattle.spv_ids.specs.Ids.{is_needed}
use Rattle.spv_tree.specs.Sound.{is_end, opcode_in}
use Rattle.spv_editing.specs.Editing.{Edit, edited_end}
use Rattle.spv_editing.specs.Showing.{operands}
use Rattle.spv_fine.specs.Fine.{used_in}
use Rattle.spv_fine_edits.proofs.Lists.{one_or}

abbrev picked : List Role → List ℕ → List ℕ
picked rs ws = map (λ part. part.1) (filter (λ part. is_needed part.0) (zip rs ws))

-- what an instruction of an opcode uses
abbrev used_at : (opcode : ℕ) → (head : ℕ) → List ℕ → List ℕ
used_at opcode head ids = picked (parts (behind (Opcode ∷ []) (body_roles opcode ids))) (head ∷ ids)

used_by_opcode : (head : ℕ) (ids : List ℕ) → used_in (head ∷ ids) ≡ used_at (opcode_of head) head ids
unfolding roles_of
used_by_opcode head ids = refl

module _ (A B : ℕ → Type 0) (u : ℕ → ℕ) (h : ℕ) where
  -- where each that is used in the first is so in the second, as what u tells
  abbrev Goes : (opcode : ℕ) → List ℕ → Type 0
  Goes opcode ids = AllByRecursion (λ x. A x → B (u x)) ids → AllByRecursion A (used_at opcode h ids) → AllByRecursion B (used_at opcode h (map u ids))

  return_goes : (ids : List ℕ) → Goes op.RETURN ids
  unfolding row_of
  return_goes [] s a = tt
  return_goes (x ∷ xs) s a = tt

  unreachable_goes : (ids : List ℕ) → Goes op.UNREACHABLE ids
  unfolding row_of
  unreachable_goes [] s a = tt
  unreachable_goes (x ∷ xs) s a = tt

  value_goes : (ids : List ℕ) → Goes op.RETURN_VALUE ids
  unfolding row_of
  value_goes [] s a = tt
  value_goes (x ∷ []) s a = (s.0 a.0, tt)
  value_goes (x ∷ y ∷ ys) s a = tt

  end_goes : (opcode : ℕ) (ids : List ℕ) → is_end opcode ≡ true → Goes opcode ids
  end_goes opcode ids e = elim (one_or (nat_eq opcode op.RETURN) _ e) [
    | inl a ↦ subst (λ n. Goes n ids) (sym (eqb-true opcode op.RETURN a)) (return_goes ids)
    | inr b ↦ elim (one_or (nat_eq opcode op.RETURN_VALUE) _ b) [
      | inl a ↦ subst (λ n. Goes n ids) (sym (eqb-true opcode op.RETURN_VALUE a)) (value_goes ids)
      | inr c ↦ elim (one_or (nat_eq opcode op.UNREACHABLE) _ c) [
        | inl a ↦ subst (λ n. Goes n ids) (sym (eqb-true opcode op.UNREACHABLE a)) (unreachable_goes ids)
        | inr d ↦ absurd (false≢true d)
      ]
    ]
  ]

-- where each operand that is available has what is put for it available, so is what the end of a function uses
pub end_used : (A B : ℕ → Type 0) (e : Edit) (words : List ℕ) → is_end (opcode_in words) ≡ true → AllByRecursion (λ x. A x → B (e.uses x)) (operands words)
    → AllByRecursion A (used_in words) → AllByRecursion B (used_in (edited_end e words))
unfolding roles_of
end_used A B e [] is s a = tt
end_used A B e (head ∷ ids) is s a =
    end_goes A B e.uses head (opcode_of head) ids is s a
