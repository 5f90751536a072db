-- The blocks of a function, from the instructions of its module.
use Rattle.std.specs.Prelude.{ℕ, ◌+◌, Bool, cond, not, ◌||◌, ◌==◌, List, [], ◌∷◌, map, filter, drop, slice_get, slice_index, Option, Some, None}
use Rattle.std.specs.List.{find}
use Rattle.spv_opcodes.specs.declared.op.TheConstants as op
use Rattle.spv_module.specs.Code.{is_function, is_line}
use Rattle.spv_module.specs.Instruction.{Instruction, opcode}
use Rattle.spv_module.specs.Layout.{is_terminator}
use Rattle.spv_blocks.specs.Blocks.{Ins, Phi, Selection, Loop, Other, End, Branch, BranchIf, Switch, Return, Unreachable, Open, Block}

-- OpLabel, and OpFunctionEnd
abbrev pub is_label_mark : Instruction → Bool
is_label_mark i = opcode i == op.LABEL

abbrev pub is_function_end : Instruction → Bool
is_function_end i = opcode i == op.FUNCTION_END

-- the k-th word of an instruction, of which the first has its opcode
abbrev pub word : Instruction → ℕ → ℕ
word i k = slice_index i.words k

-- words two by two
abbrev pub pairs : List ℕ → List (ℕ × ℕ)
pairs [] = []
pairs (x ∷ []) = []
pairs (x ∷ y ∷ rest) = (x, y) ∷ pairs rest

-- what an instruction is before a terminator
abbrev pub ins : Instruction → Ins
ins i =
    cond (opcode i == op.PHI) (Phi i.offset (word i 1) (word i 2) (pairs (drop 3 i.words)))
    (cond (opcode i == op.SELECTION_MERGE) (Selection i.offset (word i 1))
    (cond (opcode i == op.LOOP_MERGE) (Loop i.offset (word i 1) (word i 2))
    (Other i.offset)))

-- what an instruction is as the end of a block: it stays open where no terminator ends it
abbrev pub ending : Instruction → End
ending i =
    cond (opcode i == op.BRANCH) (Branch (word i 1))
    (cond (opcode i == op.BRANCH_CONDITIONAL) (BranchIf (word i 2) (word i 3))
    (cond (opcode i == op.SWITCH) (Switch (word i 2) (pairs (drop 3 i.words)))
    (cond (opcode i == op.RETURN || opcode i == op.RETURN_VALUE) Return
    (cond (opcode i == op.UNREACHABLE) Unreachable
    Open))))

-- a block reaches up to its terminator; OpLabel and OpFunctionEnd come too early (401 NoTerminator)
abbrev pub closes : Instruction → Bool
closes i = is_terminator i || is_label_mark i || is_function_end i

abbrev pub before_close : List Instruction → List Instruction
before_close [] = []
before_close (i ∷ is) = cond (closes i) [] (i ∷ before_close is)

-- the instructions of a block; line marks are none
abbrev pub body_of : List Instruction → List Ins
body_of is = map ins (filter (λ i. not (is_line i)) (before_close is))

-- the end of a block, and its place; 0 where the instructions end before
abbrev pub end_of : Option Instruction → End
end_of None = Open
end_of (Some i) = ending i

abbrev pub place_of : Option Instruction → ℕ
place_of None = 0
place_of (Some i) = i.offset

-- the block that an OpLabel begins, from the instructions behind it
abbrev pub block_of : (label : Instruction) → List Instruction → Block
block_of label is = record {
  label = word label 1;
  at = label.offset;
  body = body_of is;
  end_at = place_of (find closes is);
  end = end_of (find closes is);
}

-- each OpLabel begins a block
abbrev pub blocks_of : List Instruction → List Block
blocks_of [] = []
blocks_of (i ∷ is) = cond (is_label_mark i) (block_of i is ∷ blocks_of is) (blocks_of is)

-- the instructions up to and with OpFunctionEnd, or up to the next OpFunction
abbrev pub rest_of_function : List Instruction → List Instruction
rest_of_function [] = []
rest_of_function (i ∷ is) = cond (is_function i) [] (cond (is_function_end i) (i ∷ []) (i ∷ rest_of_function is))

-- the function that these instructions begin with
abbrev pub begun_function : List Instruction → List Instruction
begun_function [] = []
begun_function (i ∷ is) = i ∷ rest_of_function is

-- the instructions of the function that begins with the instruction numbered first
abbrev pub function_at : (first : ℕ) → List Instruction → List Instruction
function_at first insts = begun_function (drop first insts)

-- the number of each OpFunction among instructions of which the first has the number n
abbrev pub starts_from : (n : ℕ) → List Instruction → List ℕ
starts_from n [] = []
starts_from n (i ∷ is) = cond (is_function i) (n ∷ starts_from (n + 1) is) (starts_from (n + 1) is)

abbrev pub starts : List Instruction → List ℕ
starts insts = starts_from 0 insts

-- the instructions of the k-th function, counted from 0; none where there are fewer
abbrev pub function_from : List Instruction → Option ℕ → List Instruction
function_from insts None = []
function_from insts (Some first) = function_at first insts

abbrev pub function_insts : (k : ℕ) → List Instruction → List Instruction
function_insts k insts = function_from insts (slice_get (starts insts) k)
