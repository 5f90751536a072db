-- Trees of functions in which what is used is available: by recursion on the tree. What is available at a point are ids; behind a step its result is too.
-- What is available at a construct stays so behind it, and P says what is promised besides at the front of a merge block or continue target: each branch
-- there keeps it.
use Rattle.std.specs.Prelude.{◌≡◌, ◌⊎◌, ℕ, true, List, [], ◌∷◌, ◌++◌, map}
use Rattle.std.specs.List.{AllByRecursion, flat_map}
use Rattle.std.specs.Option.{option_map_or}
use Rattle.spv_grammar.specs.Roles.{is_defined_id}
use Rattle.spv_module.specs.Instruction.{Instruction, word_with}
use Rattle.spv_ids.specs.Ids.{used_ids}
use Rattle.spv_blocks.specs.Blocks.{has}
use Rattle.spv_bodies.specs.Bodies.{Exit, Front, Entry, ByBranch, InPlace, Body, Leaves, Finishes, Step, Enters, Splits, Selects, Switches, Loops, Arms, Last, Also, Function}
use Rattle.spv_bodies.specs.Listing.{Branching, arriving, branches, branches_of_arms}

-- ---- words

abbrev pub as_instruction : List ℕ → Instruction
as_instruction words = record { offset = 0; words = words }

-- the ids that a line uses, that of its type among them; and the one that it defines, if it does
abbrev pub used_in : List ℕ → List ℕ
used_in words = used_ids (as_instruction words)

abbrev pub defined_in : List ℕ → List ℕ
defined_in words = option_map_or (λ id. id ∷ []) (word_with is_defined_id (as_instruction words)) []

-- the ids of parameters
abbrev pub results : Front → List ℕ
results front = map (λ p. p.result_id) front.parameters

-- ---- ids that are available

abbrev pub Ids : Type 1
Ids = ℕ → Type 0

-- these, and those of a list
abbrev pub With : Ids → List ℕ → Ids
With E ids id = E id ⊎ (has ids id ≡ true)

-- at the end of the block that a body goes on in: its steps are over
abbrev pub at_end : Ids → Body → Ids
at_end E (Step words body) = at_end (With E (defined_in words)) body
at_end E other = E

-- behind the front of a loop's header
abbrev pub Headed : Ids → Front → Ids
Headed E header = With E (results header)

-- the values that are carried into a loop
abbrev pub Carries : Ids → Entry → Type 0
Carries E (ByBranch values) = AllByRecursion E values
Carries E InPlace = Unit {0}

module _ (P : (label id : ℕ) → Type 0) where
  -- what is promised at a label is available
  abbrev pub Keeps : Ids → (label : ℕ) → Type 0
  Keeps E label = (id : ℕ) → P label id → E id

  -- a branch out of the part: its values, and what its target promises
  abbrev pub Sends : Ids → Exit → Type 0
  Sends E exit = AllByRecursion E exit.values × Keeps E exit.target

  -- a label to which none of these branches leads counts as entered from where E is available
  abbrev pub Covers : List Branching → Ids → (label : ℕ) → Type 0
  Covers sent E label = arriving label sent ≡ [] → Keeps E label

  -- behind the front of a merge block or continue target: what is available at the construct, what is promised, and the parameters
  abbrev pub AtFront : Ids → Front → Ids
  AtFront E front = With (λ id. E id ⊎ P front.label id) (results front)

  -- from a point in the block l on, where E is available
  abbrev mutual
    pub Fine : (E : Ids) → (l : ℕ) → Body → Type 0
    Fine E l (Leaves exit) = Sends E exit
    Fine E l (Finishes words) = AllByRecursion E (used_in words)
    Fine E l (Step words body) = AllByRecursion E (used_in words) × Fine (With E (defined_in words)) l body
    Fine E l (Enters label body) = Fine E label body
    Fine E l (Splits condition on exit body) = E condition × Sends E exit × Fine E l body
    Fine E l (Selects control condition first second merge rest) =
        E condition × Fine E l first × Fine E l second × Covers (branches l first ++ branches l second) E merge.label
        × Fine (AtFront E merge) merge.label rest
    Fine E l (Switches control selector cases arms merge rest) =
        E selector × ArmsFine E l arms × Covers (branches_of_arms l arms) E merge.label × Fine (AtFront E merge) merge.label rest
    -- a block of a loop to which no branch leads counts as entered from the end of the header's block
    Fine E l (Loops entry header control inner next continuing merge rest) =
        Carries E entry × Fine (Headed E header) header.label inner × Fine (AtFront (Headed E header) next) next.label continuing
        × Covers (branches header.label inner) (at_end (Headed E header) inner) next.label
        × Covers (branches header.label inner ++ branches next.label continuing) (at_end (Headed E header) inner) merge.label
        × Fine (AtFront (Headed E header) merge) merge.label rest

    pub ArmsFine : (E : Ids) → (l : ℕ) → Arms → Type 0
    ArmsFine E l (Last arm) = Fine E l arm
    ArmsFine E l (Also arm arms) = Fine E l arm × ArmsFine E l arms

-- a function, where some ids are known everywhere: what is used before its first block is known, and so are its parameters in the blocks
pub record IsFine (Known : Ids) (P : (label id : ℕ) → Type 0) (f : Function) : Type 0 where
  pub function : AllByRecursion Known (used_in f.function)
  pub parameters : AllByRecursion (λ words. AllByRecursion Known (used_in words)) f.parameters
  pub body : Fine P (With Known (flat_map defined_in f.parameters)) f.label f.body
