-- 304 BadConstant, outside functions.
use Rattle.std.specs.Prelude.{ℕ, Bool, true, false, cond, ◌==◌, ◌&&◌, not, nat_le, List, [], ◌∷◌, length, drop, slice_index}
use Rattle.std.specs.List.{list_all}
use Rattle.spv_opcodes.specs.declared.op.TheConstants as op
use Rattle.spv_module.specs.Instruction.{Instruction, opcode}
use Rattle.spv_meaning.specs.Constants.{length_at}
use Rattle.spv_typing.specs.Kinds.{is_one_of, is_bool, is_int, is_vector, is_array, is_struct, is_closed, is_spec, component, component_count, element, length_id, members, has_type}
use Rattle.spv_declarations.specs.Declarations.{Declared}

-- constituents of these types, one each
abbrev pub are_of : List Instruction → (types constituents : List ℕ) → Bool
are_of insts [] [] = true
are_of insts [] (id ∷ ids) = false
are_of insts (t ∷ ts) [] = false
are_of insts (t ∷ ts) (id ∷ ids) = has_type insts t id && are_of insts ts ids

-- an array's length is Known, and this: its constant is Known and at least 1
abbrev pub has_length : Declared → (length_id n : ℕ) → Bool
has_length d id n = not (is_one_of d.specialised id) && (nat_le 1 n && length_at d.table id == n)

-- constituents are as many as the parts of a vector, an array of Known length or a struct, and each has the type of its part
abbrev pub composite_fits : List Instruction → Declared → (t : ℕ) → (constituents : List ℕ) → Bool
composite_fits insts d t ids =
    cond (is_vector insts t) (component_count insts t == length ids && list_all (has_type insts (component insts t)) ids)
    (cond (is_array insts t) (has_length d (length_id insts t) (length ids) && list_all (has_type insts (element insts t)) ids)
    (is_struct insts t && are_of insts (members insts t) ids))

-- a constant's type suits it, and so do its literal words or its constituents; OpConstantComposite names no OpSpec instruction. Every other instruction passes
abbrev pub constant_fits : List Instruction → Declared → Instruction → Bool
constant_fits insts d i =
    let t = slice_index i.words 1 in
    cond (is_one_of (op.CONSTANT_TRUE ∷ op.CONSTANT_FALSE ∷ op.SPEC_CONSTANT_TRUE ∷ op.SPEC_CONSTANT_FALSE ∷ []) (opcode i)) (is_bool insts t)
    (cond (is_one_of (op.CONSTANT ∷ op.SPEC_CONSTANT ∷ []) (opcode i)) (is_int insts t && length (drop 3 i.words) == 1)
    (cond (opcode i == op.CONSTANT_NULL) (is_closed insts t)
    (cond (opcode i == op.UNDEF) (is_closed insts t)
    (cond (opcode i == op.SPEC_CONSTANT_COMPOSITE) (composite_fits insts d t (drop 3 i.words))
    (cond (opcode i == op.CONSTANT_COMPOSITE) (composite_fits insts d t (drop 3 i.words) && list_all (λ id. not (is_spec insts id)) (drop 3 i.words))
    true)))))
