-- Modules as words: a header of five words, then instructions (SPIR-V Specification, section 2.3).
use Rattle.std.specs.Prelude.{◌≡◌, ℕ, zero, suc, ◌+◌, ◌-◌, ◌≤◌, ◌<◌, ◌^◌, Bool, true, false, cond, ◌==◌, ◌&&◌, ◌||◌, nat_lt, List, [], ◌∷◌, ◌++◌, length, take, drop, slice_index, Option, Some, None}
use Rattle.std.specs.List.{flat_map}
use Rattle.spv_base.specs.declared.header.Header.{Header}
use Rattle.spv_grammar.specs.Operands.{count_of}
use Rattle.spv_grammar.specs.Table.{Shape, row_of}
use Rattle.spv_opcodes.specs.declared.op.TheConstants as op
use Rattle.spv_module.specs.Instruction.{Instruction, opcode}

-- the header and the instructions of a module
pub record Code : Type 0 where
  pub header : Header
  pub insts : List Instruction

-- the instruction in front of these words is cut short: its word count is 0, or passes the last word
abbrev pub is_cut_short : List ℕ → Bool
is_cut_short words = count_of (slice_index words 0) == 0 || nat_lt (length words) (count_of (slice_index words 0))

-- instructions cut by their word counts, up to the end or to one that is cut short: `at` is the place of the words in the module, of
-- which `passed` still belong to the instruction before
unfoldable pub cut : (at passed : ℕ) → List ℕ → List Instruction
cut at passed [] = []
cut at zero (w ∷ ws) =
    cond (is_cut_short (w ∷ ws)) [] ((record { offset = at; words = take (count_of w) (w ∷ ws) }) ∷ cut (at + 1) (count_of w - 1) ws)
cut at (suc passed) (w ∷ ws) = cut (at + 1) passed ws

abbrev pub header_in : List ℕ → Header
header_in words = record {
  version = slice_index words 1;
  generator = slice_index words 2;
  bound = slice_index words 3;
  schema = slice_index words 4;
}

-- the header and the instructions that words spell
abbrev pub code_of : List ℕ → Code
code_of words = record { header = header_in words; insts = cut 5 0 (drop 5 words) }

-- the words of a module
abbrev pub spelling : Code → List ℕ
spelling code = 0x0723_0203 ∷ code.header.version ∷ code.header.generator ∷ code.header.bound ∷ code.header.schema ∷ flat_map (λ i. i.words) code.insts

-- The section that an instruction stands in: that of its row; line marks stand in the section of the instruction before them, and OpVariable and
-- OpUndef in that of functions once a function has begun.
abbrev pub is_function : Instruction → Bool
is_function i = opcode i == op.FUNCTION

abbrev pub is_line : Instruction → Bool
is_line i = opcode i == op.LINE || opcode i == op.NO_LINE

abbrev pub stands_in_functions_too : Instruction → Bool
stands_in_functions_too i = opcode i == op.VARIABLE || opcode i == op.UNDEF

abbrev pub row_section : Option Shape → ℕ
row_section None = 0
row_section (Some shape) = shape.section

-- the section of an instruction that is no line mark, before or after a function has begun
abbrev pub plain_section : (begun : Bool) → Instruction → ℕ
plain_section begun i = cond (begun && stands_in_functions_too i) 11 (row_section (row_of (opcode i)))

-- the section of an instruction behind one of the section `before`
abbrev pub section_in : (begun : Bool) (before : ℕ) → Instruction → ℕ
section_in begun before i = cond (is_line i) before (plain_section begun i)

abbrev pub sections_from : (begun : Bool) (before : ℕ) → List Instruction → List ℕ
sections_from begun before [] = []
sections_from begun before (i ∷ is) = section_in begun before i ∷ sections_from (begun || is_function i) (section_in begun before i) is

abbrev pub sections_of : List Instruction → List ℕ
sections_of insts = sections_from false 1 insts
