-- Instructions that do not stay outside functions are of five opcodes; what holds of instructions holds by their words.
use Rattle.std.proofs.Common.{◌≡◌, ℕ, Bool, true, false, not, nat_eq, ◌&&◌, ◌||◌, List, [], ◌∷◌, refl}
use Rattle.std.specs.List.{list_any}
use Rattle.spv_opcodes.specs.declared.op.TheConstants as op
use Rattle.spv_module.specs.Code.{is_line}
use Rattle.spv_module.specs.Instruction.{Instruction, opcode}
use Rattle.spv_ids.specs.Ids.{used_ids}
use Rattle.spv_typing.specs.Kinds.{is_one_of}
use Rattle.spv_declarations.proofs.Declares.{AllOf, one_of-holds}
use Rattle.spv_norm.specs.Norm.{is_gone, namings, stays_outside}

-- the opcodes of what may go
abbrev pub going : List ℕ
going = op.LINE ∷ op.NO_LINE ∷ op.NAME ∷ op.MEMBER_NAME ∷ op.SOURCE ∷ []

line_goes : (a b c : Bool) → (a || b) ≡ true → (a || (b || c)) ≡ true
line_goes true b c h = refl
line_goes false true c h = refl
line_goes false false c h = absurd (cc h)

name_goes : (a b c : Bool) → c ≡ true → (a || (b || c)) ≡ true
name_goes true b c h = refl
name_goes false true c h = refl
name_goes false false c h = h

goes : (insts : List Instruction) (i : Instruction) → stays_outside insts i ≡ false → is_one_of going (opcode i) ≡ true
goes insts i h = by (is_line i) (is_one_of namings (opcode i)) (list_any (is_gone insts) (used_ids i)) refl refl h where
  by : (line naming gone : Bool) → is_line i ≡ line → is_one_of namings (opcode i) ≡ naming → (not line && not (naming && gone)) ≡ false
      → is_one_of going (opcode i) ≡ true
  by true naming gone e f g = line_goes (nat_eq (opcode i) op.LINE) (nat_eq (opcode i) op.NO_LINE) (is_one_of namings (opcode i)) e
  by false true gone e f g = name_goes (nat_eq (opcode i) op.LINE) (nat_eq (opcode i) op.NO_LINE) (is_one_of namings (opcode i)) f
  by false false gone e f g = absurd (cc g)

-- what holds of these opcodes holds of what goes
pub of_going : (P : ℕ → Type 0) → AllOf P going → (insts : List Instruction) (i : Instruction) → stays_outside insts i ≡ false → P (opcode i)
of_going P all insts i h = one_of-holds P going all (opcode i) (goes insts i h)
