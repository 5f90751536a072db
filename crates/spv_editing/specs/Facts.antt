-- Two edits, and what they make of small functions, which the logic computes.
use Rattle.std.specs.Prelude.{◌≡◌, ℕ, true, ◌==◌, if◌then◌else◌, List, [], ◌∷◌}
use Rattle.spv_opcodes.specs.declared.op.TheConstants as op
use Rattle.spv_bodies.specs.Bodies.{Body, ByBranch, Finishes, Leaves, Step, Enters, Splits, Selects, Switches, Loops, Last, Also}
use Rattle.spv_bodies.specs.Facts.{chosen, headed, leave, of_body, plain}
use Rattle.spv_bodies.specs.Listing.{listed}
use Rattle.spv_tree.specs.Sound.{opcode_in}
use Rattle.spv_editing.specs.Editing.{Edit, edited, edited_function}

-- one id in the place of another
abbrev pub replacing : (old new : ℕ) → Edit
replacing old new = record { steps = λ words. words ∷ []; uses = λ id. if id == old then new else id }

-- no instruction of this opcode
abbrev pub dropping : (opcode : ℕ) → Edit
dropping opcode = record { steps = λ words. if opcode_in words == opcode then [] else words ∷ []; uses = λ id. id }

-- out to %7 with a value
abbrev pub leaving : (value : ℕ) → Body
leaving value = Leaves (record { target = 7; values = value ∷ [] })

-- a selection whose arms carry %10 and %11 to its merge block: with %50 for %10, its OpPhi has that
abbrev pub chosen_lines : List (List ℕ)
chosen_lines =
    (0x0005_0036 ∷ 2 ∷ 1 ∷ 0 ∷ 3 ∷ [])
    ∷ (0x0002_00F8 ∷ 4 ∷ [])
    ∷ (0x0003_00F7 ∷ 7 ∷ 0 ∷ [])
    ∷ (0x0004_00FA ∷ 5 ∷ 6 ∷ 12 ∷ [])
    ∷ (0x0002_00F8 ∷ 6 ∷ [])
    ∷ (0x0002_00F9 ∷ 7 ∷ [])
    ∷ (0x0002_00F8 ∷ 12 ∷ [])
    ∷ (0x0002_00F9 ∷ 7 ∷ [])
    ∷ (0x0002_00F8 ∷ 7 ∷ [])
    ∷ (0x0007_00F5 ∷ 9 ∷ 8 ∷ 11 ∷ 12 ∷ 50 ∷ 6 ∷ [])
    ∷ (0x0001_00FD ∷ [])
    ∷ (0x0001_0038 ∷ [])
    ∷ []

abbrev pub ValuesAreReplaced : Type 0
ValuesAreReplaced = listed (edited_function (replacing 10 50) (of_body chosen)) ≡ chosen_lines

-- a body with each construct, where %20 is defined first; the returned value, two conditions, a selector and values are `used`
abbrev pub each : (steps : Body → Body) → (used : ℕ) → Body
each steps used =
    steps (Selects 0 used (Enters 6 (steps (Leaves (record { target = 7; values = used ∷ [] })))) (Leaves (record { target = 7; values = 11 ∷ [] })) headed
    (Switches 0 used ((1, 23) ∷ []) (Also (leave 25) (Last (Enters 23 (steps (leave 25))))) (plain 25)
    (Loops (ByBranch (used ∷ [])) (record { label = 30; parameters = headed.parameters }) 0 (steps (Splits used true (record { target = 33; values = [] }) (Enters 34 (leave 32))))
    (plain 32) (Leaves (record { target = 30; values = used ∷ [] })) (plain 33) (Finishes (0x0002_00FE ∷ used ∷ [])))))

-- an OpUndef, an OpCopyObject
abbrev pub two : Body → Body
two b = Step (0x0003_0001 ∷ 9 ∷ 20 ∷ []) (Step (0x0004_0053 ∷ 9 ∷ 21 ∷ 20 ∷ []) b)

abbrev pub one : Body → Body
one b = Step (0x0004_0053 ∷ 9 ∷ 21 ∷ 20 ∷ []) b

-- each use is replaced, and the instructions stay
abbrev pub UsesAreReplaced : Type 0
UsesAreReplaced = edited (replacing 5 50) (each two 5) ≡ each two 50

-- the instructions of an opcode are gone, and all else stays
abbrev pub OpcodesAreDropped : Type 0
OpcodesAreDropped = edited (dropping op.UNDEF) (each two 5) ≡ each one 5
