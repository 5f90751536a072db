-- Small trees that are fine, or are not.
use Rattle.std.specs.Prelude.{◌≡◌, ℕ, Bool, true, List, [], ◌∷◌}
use Rattle.spv_blocks.specs.Blocks.{has}
use Rattle.spv_bodies.specs.Bodies.{Body, ByBranch, Enters, Finishes, Front, Function, Leaves, Loops, Selects, Splits, Step}
use Rattle.spv_bodies.specs.Facts.{leave, of_body, plain}
use Rattle.spv_fine.specs.Fine.{IsFine}

-- %2, %3 and %9 are types, %5 is a condition and %20 a constant, and %4, %6, %7, %8 and %12 are labels
abbrev pub known : ℕ → Type 0
known id = has (2 ∷ 3 ∷ 4 ∷ 5 ∷ 6 ∷ 7 ∷ 8 ∷ 9 ∷ 12 ∷ 20 ∷ []) id ≡ true

abbrev pub none : (label id : ℕ) → Type 0
none label id = ⊥

-- %10 = OpIAdd %9 %20 %20
abbrev pub sum : List ℕ
sum = 0x0005_0080 ∷ 9 ∷ 10 ∷ 20 ∷ 20 ∷ []

-- OpReturnValue
abbrev pub returning : ℕ → Body
returning value = Finishes (0x0002_00FE ∷ value ∷ [])

abbrev pub leave_with : (target value : ℕ) → Body
leave_with target value = Leaves (record { target = target; values = value ∷ [] })

abbrev pub front_with : (label result : ℕ) → Front
front_with label result = record { label = label; parameters = record { type = 9; result_id = result; parents = [] } ∷ [] }

-- a selection of which one arm defines %10; behind it that is returned
abbrev pub of_one_arm : Function
of_one_arm = of_body (Selects 0 5 (Enters 6 (Step sum (leave 7))) (leave 7) (plain 7) (returning 10))

-- an OpPhi %11 of it is returned
abbrev pub of_a_phi : Function
of_a_phi = of_body (Selects 0 5 (Enters 6 (Step sum (leave_with 7 10))) (leave_with 7 20) (front_with 7 11) (returning 11))

-- both arms but the one that defines %10 return
abbrev pub of_the_only_arm : Function
of_the_only_arm = of_body (Selects 0 5 (Enters 6 (Step sum (leave 7))) (Enters 8 (returning 20)) (plain 7) (returning 10))

-- a loop of which the body defines %10, which the continue part returns to its header %11
abbrev pub of_a_loop : Function
of_a_loop = of_body
    (Loops (ByBranch (20 ∷ [])) (front_with 6 11) 0 (Splits 5 true (record { target = 7; values = [] }) (Enters 8 (Step sum (leave 12)))) (plain 12)
    (leave_with 6 10) (plain 7) (returning 11))

-- and one that returns it behind the loop, which it may leave before it
abbrev pub of_a_body : Function
of_a_body = of_body
    (Loops (ByBranch []) (plain 6) 0 (Splits 5 true (record { target = 7; values = [] }) (Enters 8 (Step sum (leave 12)))) (plain 12) (leave 6) (plain 7)
    (returning 10))

-- promised is %10 at one label
abbrev pub ten_at : (there label id : ℕ) → Type 0
ten_at there label id = (label ≡ there) × (id ≡ 10)

abbrev pub told : (ℕ → ℕ → Bool) → (label id : ℕ) → Type 0
told promised label id = promised label id ≡ true

-- whatever is promised, a value of one arm is not available behind the merge block, nor one of a loop's body behind a loop that may be left before
pub record NotFine : Type 0 where
  pub arm : (promised : ℕ → ℕ → Bool) → ¬ IsFine known (told promised) of_one_arm
  pub body : (promised : ℕ → ℕ → Bool) → ¬ IsFine known (told promised) of_a_body

-- an OpPhi of it is, and so is the value itself where no other arm goes to the merge block, which may promise it, or has to
pub record AreFine : Type 0 where
  pub phi : IsFine known none of_a_phi
  pub only : IsFine known (ten_at 7) of_the_only_arm
  pub loop : IsFine known (ten_at 12) of_a_loop
  pub unpromised : ¬ IsFine known none of_the_only_arm
