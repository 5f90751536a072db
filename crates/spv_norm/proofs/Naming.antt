-- Whether an instruction outside functions stays, from what its parts say.
use Rattle.std.proofs.Common.{◌≡◌, Bool, true, false, not, ◌&&◌, List, ◌∙◌, ap, sym}
use Rattle.std.specs.List.{list_any, zip}
use Rattle.spv_grammar.specs.declared.kind.Role.{Role}
use Rattle.spv_grammar.specs.Operands.{roles_of}
use Rattle.spv_module.specs.Code.{is_line}
use Rattle.spv_module.specs.Instruction.{Instruction, opcode, parts}
use Rattle.spv_ids.specs.Ids.{is_needed, used_ids}
use Rattle.spv_ids.proofs.Ids.{any-of_parts}
use Rattle.spv_typing.specs.Kinds.{is_one_of}
use Rattle.spv_norm.specs.Norm.{is_gone, namings, stays_outside}

from_parts : (insts : List Instruction) (i : Instruction) (line naming gone : Bool) → is_line i ≡ line → is_one_of namings (opcode i) ≡ naming
    → (naming && list_any (is_gone insts) (used_ids i)) ≡ gone → not line && not gone ≡ stays_outside insts i
from_parts insts i line naming gone l n g =
    ap (λ b. not line && not b) (sym g) ∙ ap (λ b. not line && not (b && list_any (is_gone insts) (used_ids i))) (sym n)
    ∙ ap (λ b. not b && not (is_one_of namings (opcode i) && list_any (is_gone insts) (used_ids i))) (sym l)

-- it names or does not name a label that went
pub naming_stays : (insts : List Instruction) (i : Instruction) (gone all : Bool) (rs : List Role) → is_line i ≡ false → is_one_of namings (opcode i) ≡ true → gone ≡ all
    → all ≡ list_any (λ part. is_needed part.0 && is_gone insts part.1) (zip rs i.words) → parts (roles_of i.words) ≡ rs → not gone ≡ stays_outside insts i
naming_stays insts i gone all rs line naming e f roles =
    from_parts insts i false true gone line naming (sym (e ∙ f ∙ any-of_parts (is_gone insts) i rs roles))

-- it names nothing
pub other_stays : (insts : List Instruction) (i : Instruction) (gone : Bool) → is_line i ≡ false → is_one_of namings (opcode i) ≡ false → gone ≡ false
    → not gone ≡ stays_outside insts i
other_stays insts i gone line naming e = from_parts insts i false false gone line naming (sym e)
