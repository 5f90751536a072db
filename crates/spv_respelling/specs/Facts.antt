-- Small trees: which are normal, and a function that is in normal form.
use Rattle.std.specs.Prelude.{◌≡◌, true, false, [], ◌∷◌}
use Rattle.spv_bodies.specs.Bodies.{Body, ByBranch, Enters, Function, Loops, Splits, Switches, Last, Also}
use Rattle.spv_bodies.specs.Facts.{chosen, leave, looping, of_body, plain, placed, returns}
use Rattle.spv_bodies.specs.Listing.{listed}
use Rattle.spv_normal.specs.Facts.{in_one, written}
use Rattle.spv_normal.specs.Normal.{normal_function}
use Rattle.spv_spelling.specs.Facts.{joined_tree, loop_tree, selection_tree, switch_tree}
use Rattle.spv_spelling.specs.Spelling.{SpellsFunction}
use Rattle.spv_respelling.specs.Normal.{IsNormal, TakesFirst, first_taken}

-- what the small functions of `spv_spelling` spell
pub record SpelledAreNormal : Type 0 where
  pub joined : IsNormal joined_tree
  pub selection : IsNormal selection_tree
  pub switch : IsNormal switch_tree
  pub loop : IsNormal loop_tree

-- %4: OpBranch %5; %5: OpReturn, where %5 is a block of its own
abbrev pub two_blocks : Function
two_blocks = of_body (Enters 5 returns)

-- OpSwitch %5 %7, 1 %6, 2 %8, where the arm of %8 stands before that of %6
abbrev pub out_of_order : Function
out_of_order = of_body (Switches 0 5 ((1, 6) ∷ (2, 8) ∷ []) (Also (leave 7) (Also (Enters 8 (leave 7)) (Last (Enters 6 (leave 7))))) (plain 7) returns)

-- not so: two blocks that could be one, arms in another order, and a parameter that names one of two blocks, or one of three
pub record NotNormal : Type 0 where
  pub blocks : ¬ IsNormal two_blocks
  pub arms : ¬ IsNormal out_of_order
  pub selection : ¬ IsNormal (of_body chosen)
  pub loop : ¬ IsNormal (of_body placed)

-- trees without parameters
pub record PlainAreNormal : Type 0 where
  pub loop : IsNormal (of_body looping)

-- a function of one block is one that the laws speak of: its listing, which is itself, spells its tree, and is its normal form
pub record OneBlockStays : Type 0 where
  pub spells : SpellsFunction (written in_one) (λ l. l) joined_tree
  pub stays : normal_function (written in_one) ≡ in_one

-- a loop whose continue part ends with OpBranchConditional %8 %5 %6, to the header and to the merge block; either may be taken for the exit
abbrev pub first_back : Body
first_back = Loops (ByBranch []) (plain 5) 0 (leave 7) (plain 7) (Splits 8 true (record { target = 5; values = [] }) (leave 6)) (plain 6) returns

abbrev pub second_back : Body
second_back = Loops (ByBranch []) (plain 5) 0 (leave 7) (plain 7) (Splits 8 false (record { target = 6; values = [] }) (leave 5)) (plain 6) returns

-- both are listed alike, one takes the first, and the other is that one with the first taken
pub record TwoExits : Type 0 where
  pub alike : listed (of_body first_back) ≡ listed (of_body second_back)
  pub first : TakesFirst first_back
  pub second : ¬ TakesFirst second_back
  pub taken : first_taken second_back ≡ first_back
