-- Which instructions say that something is decorated: OpDecorate and OpMemberDecorate alone.
use Rattle.std.proofs.Common.{◌≡◌, ℕ, ◌==◌, Bool, true, false, cond, nat_eq, List, [], ◌∷◌, ◌++◌, map, take, drop, slice_index, Option, Some, refl, sym, ◌∙◌, true≢false}
use Rattle.std.specs.Map.{lookup, keys_of}
use Rattle.spv_opcodes.specs.declared.op.TheConstants as op
use Rattle.spv_opcodes.specs.declared.execution_mode.TheConstants as execution_mode
use Rattle.spv_meaning.specs.Statements as says
use Rattle.spv_meaning.specs.Statements.{Statement, Rows, by_row, rows, module_rows, type_rows, constant_rows, flow_rows, memory_rows, operation_rows, atomic, evaluated, spec_constant_op, of_constants, is_silent_opcode}

abbrev pub is_decoration : Statement → Bool
is_decoration (says.Decorate target what literals) = true
is_decoration (says.MemberDecorate target member what literals) = true
is_decoration other = false

abbrev pub IsPlain : Statement → Type 0
IsPlain s = is_decoration s ≡ false

-- the row of an opcode, if it is among these, says nothing of decorations
abbrev ArePlain : (o : ℕ) → Rows → Type 0
ArePlain o [] = Unit {0}
ArePlain o (r ∷ rs) = ((ws : List ℕ) → nat_eq o r.0 ≡ true → IsPlain (r.1 ws)) × ArePlain o rs

first_row : (b : Bool) (row : List ℕ → Statement) (rest : Option (List ℕ → Statement)) (ws : List ℕ) → (b ≡ true → IsPlain (row ws)) → IsPlain (by_row rest ws) → IsPlain (by_row (cond b (Some row) rest) ws)
first_row true row rest ws here behind = here refl
first_row false row rest ws here behind = behind

-- induction on the rows
by_plain_rows : (o : ℕ) (rs : Rows) → ArePlain o rs → (ws : List ℕ) → IsPlain (by_row (lookup (nat_eq o) rs) ws)
by_plain_rows o [] plain ws = refl
by_plain_rows o (r ∷ rs) plain ws = first_row (nat_eq o r.0) r.1 (lookup (nat_eq o) rs) ws (plain.0 ws) (by_plain_rows o rs plain.1 ws)

plain-append : (o : ℕ) (rs ss : Rows) → ArePlain o rs → ArePlain o ss → ArePlain o (rs ++ ss)
plain-append o [] ss first second = second
plain-append o (r ∷ rs) ss first second = (first.0, plain-append o rs ss first.1 second)

plain-map : (o : ℕ) (row : ℕ → ℕ × (List ℕ → Statement)) → ((n : ℕ) (ws : List ℕ) → IsPlain ((row n).1 ws)) → (ns : List ℕ) → ArePlain o (map row ns)
plain-map o row plain [] = tt
plain-map o row plain (n ∷ ns) = (λ ws h. plain n ws, plain-map o row plain ns)

either_plain : (b : Bool) (s t : Statement) → IsPlain s → IsPlain t → IsPlain (cond b s t)
either_plain true s t p q = p
either_plain false s t p q = q

constants_plain : (s : Statement) → IsPlain (of_constants s)
constants_plain (says.Operation computation t r operands) = refl
constants_plain other = refl

spec_plain : (ws : List ℕ) → IsPlain (spec_constant_op ws)
spec_plain ws = constants_plain (by_row (lookup (nat_eq (slice_index ws 2)) operation_rows) (take 2 ws ++ drop 3 ws))

abbrev behind_constants : Rows
behind_constants = (op.SPEC_CONSTANT_OP, spec_constant_op) ∷ (flow_rows ++ (memory_rows ++ operation_rows))

module _ (o : ℕ) where
  module_plain : nat_eq o op.DECORATE ≡ false → nat_eq o op.MEMBER_DECORATE ≡ false → ArePlain o module_rows
  module_plain first second = (
    λ ws h. refl,
    (
      λ ws h. either_plain (slice_index ws 1 == execution_mode.LOCAL_SIZE) _ _ refl refl,
      (
        λ ws h. either_plain (slice_index ws 1 == execution_mode.LOCAL_SIZE_ID) _ _ refl refl,
        (λ ws h. absurd (true≢false (sym h ∙ first)), (λ ws h. absurd (true≢false (sym h ∙ second)), tt)),
      ),
    ),
  )

  type_plain : ArePlain o type_rows
  type_plain = (λ ws h. refl, (λ ws h. refl, (λ ws h. refl, (λ ws h. refl, (λ ws h. refl, (λ ws h. refl, (λ ws h. refl, tt)))))))

  constant_plain : ArePlain o constant_rows
  constant_plain =
      (λ ws h. refl, (λ ws h. refl, (λ ws h. refl, (λ ws h. refl, (λ ws h. refl, (λ ws h. refl, (λ ws h. refl, (λ ws h. refl, (λ ws h. refl, (λ ws h. refl, (λ ws h. refl, tt)))))))))))

  flow_plain : ArePlain o flow_rows
  flow_plain = (
    λ ws h. refl,
    (
      λ ws h. refl,
      (
        λ ws h. refl,
        (
          λ ws h. refl,
          (
            λ ws h. refl,
            (
              λ ws h. refl,
              (
                λ ws h. refl,
                (λ ws h. refl, (λ ws h. refl, (λ ws h. refl, (λ ws h. refl, (λ ws h. refl, (λ ws h. refl, (λ ws h. refl, tt))))))),
              ),
            ),
          ),
        ),
      ),
    ),
  )

  memory_plain : ArePlain o memory_rows
  memory_plain =
      (λ ws h. refl, (λ ws h. refl, (λ ws h. refl, (λ ws h. refl, (λ ws h. refl, (λ ws h. refl, (λ ws h. refl, (λ ws h. refl, (λ ws h. refl, plain-map o atomic (λ n ws. refl) (keys_of (drop 9 memory_rows)))))))))))

  operation_plain : ArePlain o operation_rows
  operation_plain =
      (λ ws h. refl, (λ ws h. refl, (λ ws h. refl, (λ ws h. refl, (λ ws h. refl, (λ ws h. refl, (λ ws h. refl, (λ ws h. refl, (λ ws h. refl, plain-map o evaluated (λ n ws. refl) (keys_of (drop 9 operation_rows)))))))))))

  rows_plain : nat_eq o op.DECORATE ≡ false → nat_eq o op.MEMBER_DECORATE ≡ false → ArePlain o rows
  rows_plain first second =
      plain-append o module_rows (type_rows ++ (constant_rows ++ behind_constants)) (module_plain first second)
      (plain-append o type_rows (constant_rows ++ behind_constants) type_plain
      (plain-append o constant_rows behind_constants constant_plain
      (λ ws h. spec_plain ws, plain-append o flow_rows (memory_rows ++ operation_rows) flow_plain (plain-append o memory_rows operation_rows memory_plain operation_plain))))

  -- an instruction of another opcode says nothing of decorations
  pub row_plain : nat_eq o op.DECORATE ≡ false → nat_eq o op.MEMBER_DECORATE ≡ false → (ws : List ℕ) → IsPlain (by_row (lookup (nat_eq o) rows) ws)
  row_plain first second ws = by_plain_rows o rows (rows_plain first second) ws
