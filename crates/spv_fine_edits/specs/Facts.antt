-- Small functions that are edited: where the laws apply, and that what they ask for is needed.
use Rattle.std.specs.Prelude.{◌≡◌, ℕ, Bool, cond, ◌==◌, List, [], ◌∷◌}
use Rattle.spv_blocks.specs.Blocks.{has}
use Rattle.spv_bodies.specs.Bodies.{Enters, Function, Selects, Step}
use Rattle.spv_bodies.specs.Facts.{leave, of_body, plain}
use Rattle.spv_editing.specs.Editing.{Edit, edited_function}
use Rattle.spv_fine.specs.Fine.{IsFine, With, defined_in}
use Rattle.spv_fine.specs.Facts.{known, none, returning, sum, ten_at}
use Rattle.spv_fine_edits.specs.Giving.{FitsFunction, Giving, Offers}
use Rattle.spv_fine_edits.specs.Laws.{Availability, DropsIn, Put, PutsIn, Replacing, nothing, replacing_only}

-- %11 = OpCopyObject %9 %10
abbrev pub copy : List ℕ
copy = 0x0004_0053 ∷ 9 ∷ 11 ∷ 10 ∷ []

-- %13 = OpIAdd %9 %20 %20, as %10 is
abbrev pub again : List ℕ
again = 0x0005_0080 ∷ 9 ∷ 13 ∷ 20 ∷ 20 ∷ []

-- one id in the place of another
abbrev pub puts : (old new : ℕ) → Edit
puts old new = record { steps = λ words. words ∷ []; uses = λ id. cond (id == old) new id }

-- the step with the result is dropped
abbrev pub drops : ℕ → Edit
drops result = record { steps = λ words. cond (has (defined_in words) result) [] (words ∷ []); uses = λ id. id }

abbrev pub is : ℕ → ℕ → Bool
is id x = x == id

-- the sum becomes %14 = OpIAdd %9 %20 %20 and %10 = OpCopyObject %9 %14
abbrev pub two_lines : Edit
two_lines = record {
  steps = λ words. cond (has (defined_in words) 10) ((0x0005_0080 ∷ 9 ∷ 14 ∷ 20 ∷ 20 ∷ []) ∷ (0x0004_0053 ∷ 9 ∷ 10 ∷ 14 ∷ []) ∷ []) (words ∷ []);
  uses = λ id. id;
}

-- ---- functions

-- the copy is returned
abbrev pub of_a_copy : Function
of_a_copy = of_body (Step sum (Step copy (returning 11)))

abbrev pub of_its_source : Function
of_its_source = of_body (Step sum (Step copy (returning 10)))

abbrev pub without_it : Function
without_it = of_body (Step sum (returning 10))

-- the second of two equal sums is returned
abbrev pub of_two_sums : Function
of_two_sums = of_body (Step sum (Step again (returning 13)))

-- The first is put for it, which is available where it is defined, and it is dropped.
abbrev pub the_first : Replacing
the_first = record {
  edit = record { steps = (drops 13).steps; uses = (puts 13 10).uses };
  gone = is 13;
  wants = λ id. cond (id == 13) (10 ∷ []) [];
}

-- the arm that goes to the merge block defines %10, which is promised there
abbrev pub of_an_arm : Function
of_an_arm = of_body (Selects 0 5 (Enters 6 (Step sum (leave 7))) (Enters 8 (returning 20)) (plain 7) (returning 20))

-- ---- where the laws apply

abbrev pub small : Availability
small = record { Known = known; Promised = none; KnownBehind = known }

-- what was available stays so
abbrev pub staying : Edit → Giving
staying e = record { edit = e; Known = known; Promised = none; KnownBehind = known; PromisedBehind = none; Gives = λ x y. y ≡ x; wants = nothing }

abbrev pub small_giving : Giving
small_giving = staying two_lines

pub record Apply : Type 0 where
  -- the source of a copy is put for it
  pub source : PutsIn (replacing_only (puts 11 10)) known known of_a_copy
  pub put : edited_function (puts 11 10) of_a_copy ≡ of_its_source
  pub put_fine : IsFine known (λ label. Put (replacing_only (puts 11 10)) (none label)) of_its_source
  -- then nothing uses the copy
  pub unused : DropsIn (is 11) (drops 11) known known of_its_source
  pub dropped : edited_function (drops 11) of_its_source ≡ without_it
  -- a sum is put for one that is equal, which is dropped at once
  pub first : PutsIn the_first known known of_two_sums
  pub offered : Offers none the_first.wants (With known []) of_two_sums.body
  pub both : edited_function the_first.edit of_two_sums ≡ without_it
  pub both_fine : IsFine known (λ label. Put the_first (none label)) without_it
  -- a step becomes two lines
  pub several : FitsFunction small_giving of_a_copy
  pub several_fine : IsFine known none (edited_function two_lines of_a_copy)

-- ---- what is needed

pub record Needed : Type 0 where
  -- what stays is not to use what goes
  pub unused : IsFine known none of_a_copy × (¬ IsFine known none (edited_function (drops 10) of_a_copy))
  -- what goes is not to be promised
  pub unpromised : IsFine known (ten_at 7) of_an_arm × (¬ IsFine known (ten_at 7) (edited_function (drops 10) of_an_arm))
  -- what is put is to be available
  pub available : ¬ IsFine known none (edited_function (puts 11 14) of_a_copy)
