-- Whether a constant fits its type, by what is kept of the length of an array.
use Rattle.std.proofs.Common.{◌≡◌, ℕ, ◌≤◌, Bool, true, false, not, nat_le, List, length, drop, refl, sym, ◌∙◌, arith}
use Rattle.std.specs.Prelude.{nat_eq}
use Rattle.std.specs.List.{list_all, slice_index}
use Rattle.std.proofs.lemmas.Bool.Decides.{nat_tests}
use Rattle.spv_opcodes.specs.declared.op.TheConstants as op
use Rattle.spv_module.specs.Instruction.{Instruction, opcode}
use Rattle.spv_meaning.specs.Constants.{length_at}
use Rattle.spv_typing.specs.Kinds.{is_one_of, is_vector, is_array, is_spec, length_id, element, has_type}
use Rattle.spv_declarations.specs.Declarations.{Declared}
use Rattle.spv_declarations.specs.Constants.{has_length, composite_fits, constant_fits}

-- a length by its tests
pub has_length-known : (d : Declared) (id n len : ℕ) (known : Bool) → known ≡ true → known ≡ not (is_one_of d.specialised id) → 1 ≤ n → len ≡ length_at d.table id →
    nat_eq len n ≡ has_length d id n
has_length-known d id n len known is_true is some same =
    let one : nat_le 1 n ≡ true = grind (arith, nat_tests) in
    let plain : not (is_one_of d.specialised id) ≡ true = sym is ∙ is_true in
    rw (same, plain, one) refl

pub has_length-other : (d : Declared) (id n : ℕ) (known : Bool) → known ≡ false → known ≡ not (is_one_of d.specialised id) → known ≡ has_length d id n
has_length-other d id n known is_false is =
    let special : not (is_one_of d.specialised id) ≡ false = sym is ∙ is_false in
    rw (is_false, special) refl

-- an array's constituents
pub array_fits-length : (insts : List Instruction) (d : Declared) (t : ℕ) (ids : List ℕ) (b rest : Bool) → is_vector insts t ≡ false → is_array insts t ≡ true →
    b ≡ has_length d (length_id insts t) (length ids) → b ≡ true → rest ≡ list_all (has_type insts (element insts t)) ids → rest ≡ composite_fits insts d t ids
array_fits-length insts d t ids b rest no_vector array e is_true same =
    let is : has_length d (length_id insts t) (length ids) ≡ true = sym e ∙ is_true in
    rw (no_vector, array, is) same

pub array_fits-none : (insts : List Instruction) (d : Declared) (t : ℕ) (ids : List ℕ) (b : Bool) → is_vector insts t ≡ false → is_array insts t ≡ true →
    b ≡ has_length d (length_id insts t) (length ids) → b ≡ false → b ≡ composite_fits insts d t ids
array_fits-none insts d t ids b no_vector array e is_false =
    let is : has_length d (length_id insts t) (length ids) ≡ false = sym e ∙ is_false in
    rw (no_vector, array, is) is_false

-- composites
pub composite-specialised : (insts : List Instruction) (d : Declared) (i : Instruction) (b : Bool) → opcode i ≡ op.SPEC_CONSTANT_COMPOSITE →
    b ≡ composite_fits insts d (slice_index i.words 1) (drop 3 i.words) → b ≡ constant_fits insts d i
composite-specialised insts d i b is same = rw is same

pub composite-known : (insts : List Instruction) (d : Declared) (i : Instruction) (b rest : Bool) → opcode i ≡ op.CONSTANT_COMPOSITE →
    b ≡ composite_fits insts d (slice_index i.words 1) (drop 3 i.words) → b ≡ true → rest ≡ list_all (λ id. not (is_spec insts id)) (drop 3 i.words) → rest ≡ constant_fits insts d i
composite-known insts d i b rest is same is_true others =
    let fits : composite_fits insts d (slice_index i.words 1) (drop 3 i.words) ≡ true = sym same ∙ is_true in
    rw (is, fits) others

pub composite-other : (insts : List Instruction) (d : Declared) (i : Instruction) (b : Bool) → opcode i ≡ op.CONSTANT_COMPOSITE →
    b ≡ composite_fits insts d (slice_index i.words 1) (drop 3 i.words) → b ≡ false → b ≡ constant_fits insts d i
composite-other insts d i b is same is_false =
    let fits : composite_fits insts d (slice_index i.words 1) (drop 3 i.words) ≡ false = sym same ∙ is_false in
    rw (is, fits) is_false
