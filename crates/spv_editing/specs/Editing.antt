-- Bodies of which instructions and uses of ids are replaced.
use Rattle.std.specs.Prelude.{◌≡◌, ℕ, true, List, [], ◌∷◌, map, All}
use Rattle.std.specs.List.{flat_map}
use Rattle.spv_bodies.specs.Bodies.{Exit, Entry, ByBranch, InPlace, Body, Leaves, Finishes, Step, Enters, Splits, Selects, Switches, Loops, Arms, Last, Also, Function}
use Rattle.spv_bodies.specs.Listing.{Branching}
use Rattle.spv_tree.specs.Sound.{is_step, opcode_in}

-- what stands for an instruction that is a Step, which is some instructions or none, and for an id that is used elsewhere
pub record Edit : Type 0 where
  pub steps : (words : List ℕ) → List (List ℕ)
  pub uses : (id : ℕ) → ℕ

-- instructions before a body
abbrev pub steps_before : List (List ℕ) → Body → Body
steps_before [] body = body
steps_before (words ∷ more) body = Step words (steps_before more body)

-- ---- bodies

abbrev pub edited_exit : Edit → Exit → Exit
edited_exit e exit = record { target = exit.target; values = map e.uses exit.values }

abbrev pub edited_entry : Edit → Entry → Entry
edited_entry e (ByBranch values) = ByBranch (map e.uses values)
edited_entry e InPlace = InPlace

-- the operands of OpReturnValue are uses; OpReturn and OpUnreachable have none
abbrev pub edited_end : Edit → List ℕ → List ℕ
edited_end e [] = []
edited_end e (head ∷ operands) = head ∷ map e.uses operands

-- Uses are the values of branches, conditions, selectors and returned values. Labels, fronts, literals and controls stay.
abbrev mutual
  pub edited : Edit → Body → Body
  edited e (Leaves exit) = Leaves (edited_exit e exit)
  edited e (Finishes words) = Finishes (edited_end e words)
  edited e (Step words body) = steps_before (e.steps words) (edited e body)
  edited e (Enters label body) = Enters label (edited e body)
  edited e (Splits condition on exit body) = Splits (e.uses condition) on (edited_exit e exit) (edited e body)
  edited e (Selects control condition first second merge rest) =
      Selects control (e.uses condition) (edited e first) (edited e second) merge (edited e rest)
  edited e (Switches control selector cases arms merge rest) = Switches control (e.uses selector) cases (edited_arms e arms) merge (edited e rest)
  edited e (Loops entry header control inner next continuing merge rest) =
      Loops (edited_entry e entry) header control (edited e inner) next (edited e continuing) merge (edited e rest)

  pub edited_arms : Edit → Arms → Arms
  edited_arms e (Last arm) = Last (edited e arm)
  edited_arms e (Also arm arms) = Also (edited e arm) (edited_arms e arms)

-- OpFunction and its parameters stay, and so does the first label
abbrev pub edited_function : Edit → Function → Function
edited_function e f = record f { body = edited e f.body }

-- ---- edits

-- nothing is replaced
abbrev pub unchanged : Edit
unchanged = record { steps = λ words. words ∷ []; uses = λ id. id }

-- one edit, then another
abbrev pub after : Edit → Edit → Edit
after second first = record { steps = λ words. flat_map second.steps (first.steps words); uses = λ id. second.uses (first.uses id) }

-- instructions of a block become such instructions
abbrev pub KeepsSteps : Edit → Type 0
KeepsSteps e = (words : List ℕ) → is_step (opcode_in words) ≡ true → All (λ line. is_step (opcode_in line) ≡ true) (e.steps words)

-- a branch that carries values
abbrev pub edited_branching : Edit → Branching → Branching
edited_branching e branching = (branching.0, edited_exit e branching.1)
