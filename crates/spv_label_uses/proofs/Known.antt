-- What is known of each instruction where the rules find nothing.
use Rattle.std.proofs.Common.{◌≡◌, ℕ, Bool, true, false, cond, ◌==◌, ◌||◌, List, [], ◌∷◌, take, Option, Some, None, Ok, refl, ap, ◌∙◌}
use Rattle.std.specs.Prelude.{nat_lt}
use Rattle.std.specs.List.{list_any, slice_get, slice_index}
use Rattle.std.specs.Option.{is_some}
use Rattle.spv_opcodes.specs.declared.op.TheConstants as op
use Rattle.spv_grammar.specs.declared.kind.Role.{Role}
use Rattle.spv_grammar.specs.declared.kind.Role.TheVariants.{Opcode}
use Rattle.spv_grammar.specs.Operands.{behind, body_roles, opcode_of, roles_of, row_roles, spec_constant_roles}
use Rattle.spv_grammar.specs.Table.{Shape, row_of}
use Rattle.spv_module.specs.Code.{is_function, is_line, row_section, stands_in_functions_too}
use Rattle.spv_module.specs.Instruction.{Instruction, IsInstruction, opcode, roles}
use Rattle.spv_declarations.specs.Declarations.{declared_before}
use Rattle.spv_declarations.specs.Laws.{IsUnbroken}
use Rattle.spv_declarations.proofs.Unbroken as declarations
use Rattle.spv_calls.specs.Interfaces.{InterfaceFits}
use Rattle.spv_label_uses.specs.Laws.{FindNothing}
use Rattle.spv_label_uses.proofs.Begun.{any_first, any_second, stands_outside, begun_before, declared_first}
use Rattle.spv_label_uses.proofs.Declared.{begun_is, kept_at}
use Rattle.spv_label_uses.proofs.Entering.{EntriesFit}
use Rattle.spv_label_uses.proofs.Free.{same_by}
use Rattle.spv_label_uses.proofs.Rules as rules
use Rattle.spv_label_uses.proofs.Signatures.{FunctionsFit}

pub unbroken_of : (insts : List Instruction) → FindNothing insts → IsUnbroken insts
unbroken_of insts h = record { whole = h.instructions; unrefused = h.declared }

function_loud : (i : Instruction) → opcode i ≡ op.FUNCTION → is_line i ≡ false
function_loud i e = ap (λ o. o == op.LINE || o == op.NO_LINE) e

pub functions_of : (insts : List Instruction) → FindNothing insts → FunctionsFit insts
functions_of insts h k i at e =
    let it = rules.kept insts k i (any_second (list_any is_function (take k insts)) (is_function i) (ap (λ o. o == op.FUNCTION) e)) (function_loud i e)
    (h.fit k i at) in
    (it.function, it.result)

pub entries_of : (insts : List Instruction) → FindNothing insts → EntriesFit insts
entries_of insts h k i at = rules.entries_kept insts k i (h.entered k i at)

-- ---- at a place

pub record Known (insts : List Instruction) (k : ℕ) (i : Instruction) : Type 0 where
  pub unbroken : IsUnbroken insts
  pub functions : FunctionsFit insts
  pub entries : EntriesFit insts
  pub there : slice_get insts k ≡ Some i
  pub whole : IsInstruction i.words (roles i)
  pub declared : declarations.Keeps insts (declared_before insts k) k i
  pub interface : InterfaceFits insts i
  -- by whether a function has begun
  pub begun : (declared_before insts k).begun ≡ list_any is_function (take k insts)
  pub first : stands_in_functions_too i ≡ false → nat_lt (row_section (row_of (opcode i))) 11 ≡ true → list_any is_function (take k insts) ≡ false
  pub inside : stands_outside (opcode i) ≡ false → list_any is_function (take k insts) ≡ true
  pub body : (list_any is_function (take k insts) || is_function i) ≡ true → rules.Keeps insts k i

pub known : (insts : List Instruction) → FindNothing insts → (k : ℕ) (i : Instruction) → slice_get insts k ≡ Some i → is_line i ≡ false → Known insts k i
known insts h k i at plain = record {
  unbroken = unbroken_of insts h;
  functions = functions_of insts h;
  entries = entries_of insts h;
  there = at;
  whole = h.instructions k i at;
  declared = kept_at insts (unbroken_of insts h) k i at plain;
  interface = h.interface k i at;
  begun = begun_is insts k;
  first = declared_first h.end insts h.laid_out k i at plain;
  inside = begun_before h.end insts h.laid_out k i at plain;
  body = λ begun. rules.kept insts k i begun plain (h.fit k i at);
}

-- an instruction that does not stand outside functions
pub body_of : (insts : List Instruction) (k : ℕ) (i : Instruction) → Known insts k i → stands_outside (opcode i) ≡ false → rules.Keeps insts k i
body_of insts k i h inside = h.body (any_first (list_any is_function (take k insts)) (is_function i) (h.inside inside))

-- ---- an instruction's opcode has a row

operation_row : is_some (row_of op.SPEC_CONSTANT_OP) ≡ true
unfolding row_of
operation_row = refl

row_by : (words : List ℕ) (rs : List Role) (o : ℕ) → (w : ℕ) (ws : List ℕ) → words ≡ w ∷ ws → opcode_of w ≡ o
    → behind (Opcode ∷ []) (body_roles o ws) ≡ Ok rs → is_some (row_of o) ≡ true
row_by words rs o w ws e f h = by (o == op.SPEC_CONSTANT_OP) (row_of o) refl refl h where
  by : (b : Bool) (row : Option Shape) → (o == op.SPEC_CONSTANT_OP) ≡ b → row_of o ≡ row
      → behind (Opcode ∷ []) (cond b (spec_constant_roles ws) (row_roles row ws)) ≡ Ok rs → is_some (row_of o) ≡ true
  by b (Some shape) e r h = ap is_some r
  by true None e r h = ap (λ n. is_some (row_of n)) (same_by o op.SPEC_CONSTANT_OP e) ∙ operation_row
  by false None e r h = absurd (cc h)

row_in : (words : List ℕ) (rs : List Role) → roles_of words ≡ Ok rs → is_some (row_of (opcode_of (slice_index words 0))) ≡ true
unfolding roles_of
row_in [] rs h = absurd (cc h)
row_in (w ∷ ws) rs h = row_by (w ∷ ws) rs (opcode_of w) w ws refl refl h

pub has_row : (i : Instruction) → IsInstruction i.words (roles i) → is_some (row_of (opcode i)) ≡ true
has_row i whole = row_in i.words (roles i) whole.parted
