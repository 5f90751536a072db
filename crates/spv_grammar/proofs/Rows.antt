-- Which opcodes have no row.
use Rattle.std.proofs.Common.{◌≡◌, ℕ, ◌≤◌, Bool, true, false, cond, ◌==◌, List, [], ◌∷◌, None, Err, nat_lt, refl, arith}
use Rattle.std.specs.List.{list_all}
use Rattle.std.proofs.lemmas.Bool.Decides.{nat_tests}
use Rattle.spv_opcodes.specs.declared.op.TheConstants as op
use Rattle.spv_grammar.specs.Operands.{inner_roles}
use Rattle.spv_grammar.specs.Table.{Shape, row_at, row_of, module_rows, type_rows, flow_rows, memory_rows, value_rows, pair_rows}

-- induction on the rows: the first is of another opcode, and so are the others
row_at-above : (rows : List (ℕ × Shape)) (n opcode : ℕ) → list_all (λ row. nat_lt row.0 n) rows ≡ true → n ≤ opcode → row_at rows opcode ≡ None
row_at-above [] n opcode h k = refl
row_at-above (row ∷ rows) n opcode h k = grind (arith, nat_tests, row_at-above rows n opcode)

pub row_of-above : (opcode : ℕ) → 65536 ≤ opcode → row_of opcode ≡ None
unfolding row_of
row_of-above opcode k =
    rw (row_at-above module_rows 65536 opcode refl k) (rw (row_at-above type_rows 65536 opcode refl k) (rw (row_at-above flow_rows 65536 opcode refl k)
    (rw (row_at-above memory_rows 65536 opcode refl k) (rw (row_at-above value_rows 65536 opcode refl k) (row_at-above pair_rows 65536 opcode refl k)))))

same_both_ways : {X : Type 0} (b : Bool) (x : X) → cond b x x ≡ x
same_both_ways true x = refl
same_both_ways false x = refl

pub inner_roles-above : (opcode : ℕ) (ws : List ℕ) → 65536 ≤ opcode → inner_roles opcode ws ≡ Err 106
inner_roles-above opcode ws k = rw (row_of-above opcode k) (same_both_ways (opcode == op.SPEC_CONSTANT_OP) (Err 106))
