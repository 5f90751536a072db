-- What an instruction that may stand in the middle of a block says, and what a last one says.
use Rattle.std.proofs.Common.{◌≡◌, ℕ, inl, inr, Bool, true, false, ◌==◌, ◌&&◌, ◌||◌, not, cond, nat_eq, List, [], ◌∷◌, Some, refl, sym, ap, ◌∙◌}
use Rattle.std.specs.Prelude.{slice_index, drop}
use Rattle.std.specs.List.{list_all, AllByRecursion}
use Rattle.std.specs.Map.{lookup}
use Rattle.std.proofs.lemmas.Bool.{eqb-true}
use Rattle.spv_opcodes.specs.declared.op.TheConstants as op
use Rattle.spv_opcodes.specs.declared.execution_mode.TheConstants as execution_mode
use Rattle.spv_grammar.specs.Table.{row_of}
use Rattle.spv_module.specs.Code.{row_section}
use Rattle.spv_meaning.specs.Statements as says
use Rattle.spv_meaning.specs.Statements.{Statement, Rows, said, by_row, rows, mode, mode_by_ids, of_constants, spec_constant_op, is_silent_opcode}
use Rattle.spv_tree.specs.Sound.{is_step, is_end, is_one_of, structure, opcode_in}
use Rattle.spv_trees.specs.Standing.{leads_on}
use Rattle.spv_trees.specs.Sound.{IsMiddle, IsEnd, is_phi}
use Rattle.spv_walk.proofs.Unique.{both_left, both_right, not_true, either_holds}

abbrev goes_on : Statement → Bool
goes_on s = leads_on s && not (is_phi s)

mode_goes_on : (function kind : ℕ) (literals : List ℕ) → goes_on (mode function kind literals) ≡ true
mode_goes_on function kind literals = by (kind == execution_mode.LOCAL_SIZE)
  where
    by : (b : Bool) → goes_on (cond b (says.LocalSize function literals) says.Unknown) ≡ true
    by true = refl
    by false = refl

mode_by_ids_goes_on : (function kind : ℕ) (ids : List ℕ) → goes_on (mode_by_ids function kind ids) ≡ true
mode_by_ids_goes_on function kind ids = by (kind == execution_mode.LOCAL_SIZE_ID)
  where
    by : (b : Bool) → goes_on (cond b (says.LocalSizeId function ids) says.Unknown) ≡ true
    by true = refl
    by false = refl

of_constants_goes_on : (s : Statement) → goes_on (of_constants s) ≡ true
of_constants_goes_on (says.Operation computation t r operands) = refl
of_constants_goes_on other = refl

-- a row of an opcode that only the tree has, or one whose statement goes on
abbrev row_goes_on : List ℕ → ℕ × (List ℕ → Statement) → Bool
row_goes_on ws row = is_one_of structure row.0 || goes_on (row.1 ws)

-- each row is one of these
rows_go_on : (ws : List ℕ) → list_all (row_goes_on ws) rows ≡ true
rows_go_on ws =
    rw (mode_goes_on (slice_index ws 0) (slice_index ws 1) (drop 2 ws), mode_by_ids_goes_on (slice_index ws 0) (slice_index ws 1) (drop 2 ws), spec_constant_op_goes_on ws)
    refl
  where
    spec_constant_op_goes_on : (ws : List ℕ) → goes_on (spec_constant_op ws) ≡ true
    spec_constant_op_goes_on ws = of_constants_goes_on _

found_goes_on : (rs : Rows) (ws : List ℕ) (o : ℕ) → list_all (row_goes_on ws) rs ≡ true → is_one_of structure o ≡ false → goes_on (by_row (lookup (nat_eq o) rs) ws) ≡ true
found_goes_on [] ws o all other = refl
found_goes_on (r ∷ rs) ws o all other = by (nat_eq o r.0) refl (found_goes_on rs ws o (both_right (row_goes_on ws r) (list_all (row_goes_on ws) rs) all) other)
  where
    here : (b : Bool) → (b || goes_on (r.1 ws)) ≡ true → b ≡ false → goes_on (r.1 ws) ≡ true
    here true h e = absurd (cc e)
    here false h e = h

    by : (b : Bool) → nat_eq o r.0 ≡ b → goes_on (by_row (lookup (nat_eq o) rs) ws) ≡ true → goes_on (by_row (cond b (Some r.1) (lookup (nat_eq o) rs)) ws) ≡ true
    by true e later =
        here (is_one_of structure r.0) (both_left (row_goes_on ws r) (list_all (row_goes_on ws) rs) all)
        (ap (is_one_of structure) (sym (eqb-true o r.0 e)) ∙ other)
    by false e later = later

-- an instruction that may stand in the middle of a block is none that only the tree has
pub step_is_other : (o : ℕ) → is_step o ≡ true → is_one_of structure o ≡ false
step_is_other o h =
    not_true (is_one_of structure o) (both_right (row_section (row_of o) == 11 || is_one_of (op.VARIABLE ∷ op.UNDEF ∷ []) o) (not (is_one_of structure o)) h)

pub step_is_middle : (words : List ℕ) → is_step (opcode_in words) ≡ true → IsMiddle words
step_is_middle words h =
    by (is_silent_opcode (opcode_in words)) (by_row (lookup (nat_eq (opcode_in words)) rows) (drop 1 words))
    (found_goes_on rows (drop 1 words) (opcode_in words) (rows_go_on (drop 1 words)) (step_is_other (opcode_in words) h))
  where
    by : (silent : Bool) (s : Statement) → goes_on s ≡ true → AllByRecursion (λ s. (leads_on s ≡ true) × (is_phi s ≡ false)) (cond silent [] (s ∷ []))
    by true s e = tt
    by false s e = ((both_left (leads_on s) (not (is_phi s)) e, not_true (is_phi s) (both_right (leads_on s) (not (is_phi s)) e)), tt)

-- what words of an opcode say
abbrev said_by : (o : ℕ) → List ℕ → List Statement
said_by o words = cond (is_silent_opcode o) [] (by_row (lookup (nat_eq o) rows) (drop 1 words) ∷ [])

pub end_is_end : (words : List ℕ) → is_end (opcode_in words) ≡ true → IsEnd words
end_is_end words h =
    let o = opcode_in words in
    elim (either_holds (o == op.RETURN) ((o == op.RETURN_VALUE) || ((o == op.UNREACHABLE) || false)) h) [
      | inl e ↦ record { statement = says.Return; same = ap (λ n. said_by n words) (eqb-true o op.RETURN e); finish = refl }
      | inr g ↦ elim (either_holds (o == op.RETURN_VALUE) ((o == op.UNREACHABLE) || false) g) [
        | inl e ↦ record { statement = says.ReturnValue (slice_index (drop 1 words) 0); same = ap (λ n. said_by n words) (eqb-true o op.RETURN_VALUE e); finish = refl }
        | inr k ↦ elim (either_holds (o == op.UNREACHABLE) false k) [
          | inl e ↦ record { statement = says.Unreachable; same = ap (λ n. said_by n words) (eqb-true o op.UNREACHABLE e); finish = refl }
          | inr f ↦ absurd (cc f)
        ]
      ]
    ]
