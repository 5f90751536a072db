-- The length of an array type that is declared is a constant of one word.
use Rattle.std.proofs.Common.{◌≡◌, ℕ, List, true, false, ◌&&◌, refl, subst, arith}
use Rattle.std.specs.List.{slice_index}
use Rattle.std.proofs.lemmas.Bool.{and_parts}
use Rattle.spv_opcodes.specs.declared.op.TheConstants as op
use Rattle.spv_grammar.specs.Table.{row_of}
use Rattle.spv_module.specs.Instruction.{Instruction}
use Rattle.spv_typing.specs.Kinds.{is_array, is_closed, is_constant, is_int, type_of, length_id}
use Rattle.spv_declarations.specs.Declarations.{declared_before}
use Rattle.spv_declarations.specs.Sound.{AreInstructions, Unbroken, IsBefore, table_before}
use Rattle.spv_declarations.proofs.Consequences.{sound_length}
use Rattle.spv_declarations.proofs.Sites.{site-of, word-is}
use Rattle.spv_declarations.proofs.SoundTypes.{length-known, type-rule}
use Rattle.spv_declarations.proofs.Tables.{stays-defined}
use Rattle.spv_types.specs.Steps.{IsLength}

pub array-length : (insts : List Instruction) → AreInstructions insts → (k t : ℕ) → Unbroken insts k → (declared_before insts k).begun ≡ false → IsBefore insts k t →
    is_array insts t ≡ true → IsLength insts (table_before insts k) (length_id insts t)
unfolding row_of
array-length insts whole k t clean outside before array =
    let s = site-of insts whole k t op.TYPE_ARRAY clean outside before array refl in
    let rule = type-rule insts k t op.TYPE_ARRAY s in
    let len = slice_index s.d.inst.words 3 in
    let fits = and_parts (is_closed insts (slice_index s.d.inst.words 2)) (is_constant insts len && is_int insts (type_of insts len)) rule in
    let both = and_parts (is_constant insts len) (is_int insts (type_of insts len)) fits.1 in
    let known = stays-defined insts s.d.place k len (omega (arith, s.d.before)) (length-known insts k t s) in
    subst (λ (n : ℕ). IsLength insts (table_before insts k) n) (word-is insts k t 3 s.d) (sound_length insts whole k len clean outside known both.0 both.1)
