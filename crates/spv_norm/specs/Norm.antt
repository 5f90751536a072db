-- The normal form of a module: without line marks, each function in its normal form, without the names of labels that went, and with the bound that its
-- ids ask for.
use Rattle.std.specs.Prelude.{◌≡◌, ℕ, Bool, cond, not, ◌==◌, ◌&&◌, List, [], ◌∷◌, ◌++◌, filter, slice_index}
use Rattle.std.specs.List.{count_by, flat_map, list_any, range_with_len}
use Rattle.spv_opcodes.specs.declared.op.TheConstants as op
use Rattle.spv_grammar.specs.Operands.{opcode_of}
use Rattle.spv_module.specs.Code.{Code, is_function, is_line}
use Rattle.spv_module.specs.Instruction.{Instruction, opcode}
use Rattle.spv_ids.specs.Ids.{kind, used_ids}
use Rattle.spv_typing.specs.Kinds.{is_one_of}
use Rattle.spv_bound.specs.Bound.{bound_of_ids}
use Rattle.spv_blocks.specs.Cutting.{function_insts}
use Rattle.spv_tree.specs.Tree.{words_of}
use Rattle.spv_normal.specs.Normal.{normal_function}

-- the instructions before the first function
abbrev pub outside : List Instruction → List Instruction
outside [] = []
outside (i ∷ is) = cond (is_function i) [] (i ∷ outside is)

-- the lines of the functions, each in its normal form
abbrev pub function_lines : List Instruction → List (List ℕ)
function_lines insts = flat_map (λ k. normal_function (function_insts k insts)) (range_with_len 0 (count_by is_function insts))

-- the line is the OpLabel of the label
abbrev pub is_label_line : (label : ℕ) → List ℕ → Bool
is_label_line label line = opcode_of (slice_index line 0) == op.LABEL && slice_index line 1 == label

-- a label of a block that went, since it was joined with the one before it
abbrev pub is_gone : List Instruction → (id : ℕ) → Bool
is_gone insts id = kind insts id == op.LABEL && not (list_any (is_label_line id) (function_lines insts))

-- OpName, OpMemberName or OpSource, which names such a label
abbrev pub namings : List ℕ
namings = op.NAME ∷ op.MEMBER_NAME ∷ op.SOURCE ∷ []

abbrev pub names_gone : List Instruction → Instruction → Bool
names_gone insts i = is_one_of namings (opcode i) && list_any (is_gone insts) (used_ids i)

-- an instruction outside functions stays: it is no line mark, and names no label that went
abbrev pub stays_outside : List Instruction → Instruction → Bool
stays_outside insts i = not (is_line i) && not (names_gone insts i)

abbrev pub staying : List Instruction → List Instruction
staying insts = filter (stays_outside insts) (outside insts)

-- these are the labels that stay
abbrev pub AreStayingLabels : List Instruction → (ℕ → Bool) → Type 0
AreStayingLabels insts labels = (l : ℕ) → labels l ≡ list_any (is_label_line l) (function_lines insts)

abbrev pub norm_lines : List Instruction → List (List ℕ)
norm_lines insts = words_of (staying insts) ++ function_lines insts

-- the second module is the first one's normal form, wherever its instructions are said to stand
pub record IsNorm (code norm : Code) : Type 0 where
  pub lines : words_of norm.insts ≡ norm_lines code.insts
  pub header : norm.header ≡ record code.header { bound = bound_of_ids norm.insts }
