-- What decided constructs of one program do: the part that is taken, before what follows it.
use Rattle.std.proofs.Common.{◌≡◌, ℕ, ◌==◌, Bool, true, false, cond, not, List, Option, Some, None, refl, ap, ◌∙◌}
use Rattle.std.specs.Prelude.{IsSomeAnd}
use Rattle.std.specs.Option.{unwrap_or}
use Rattle.interleaving.specs.Machine.{Answer}
use Rattle.spv_meaning.specs.Types.{number_in}
use Rattle.spv_machine.specs.Setting.{Setting}
use Rattle.spv_machine.specs.State.{Data, value, words_of_value}
use Rattle.spv_machine.specs.Steps.{chosen}
use Rattle.spv_bodies.specs.Bodies.{Exit, Front, Body, Leaves, Splits, Selects, Switches, Arms, Last, Also, target}
use Rattle.spv_bodies.specs.Listing.{first_target}
use Rattle.spv_trees.specs.Meaning.{Sticks, Result, Onward, Entry, only, given, either, leaves, by_condition, enters, meaning, meaning_at}
use Rattle.spv_congruence.specs.Relation.{Future, After, followed}
use Rattle.spv_congruence.specs.Shape.{arm_of}
use Rattle.spv_congruence.proofs.Relating.{after_label, then_at_followed}

module _ (c : Setting) (call : ℕ → Entry) (turns : ℕ) where
  abbrev does_on : Body → Onward
  does_on body d xs = meaning c call turns body d xs

  -- a body and what follows it
  abbrev pub followed_on : Body → Data → After → Future
  followed_on body d after ys = followed (does_on body d ys) after

  -- what follows a construct
  abbrev pub behind_merge : Front → Body → After → After
  behind_merge merge rest after = after_label merge.label (enters merge (does_on rest)) after

  either_is : (b on : Bool) (first second : Body) (d2 : Data) (ys : List Answer) → b ≡ on
      → either b (does_on first) (does_on second) d2 ys ≡ does_on (cond on first second) d2 ys
  either_is true true first second d2 ys e = refl
  either_is false false first second d2 ys e = refl
  either_is true false first second d2 ys e = absurd (cc e)
  either_is false true first second d2 ys e = absurd (cc e)

  given_is : (o : Option (List ℕ)) (on : Bool) (first second : Body) (d2 : Data) (ys : List Answer) → IsSomeAnd o (λ ws. (number_in ws == 1) ≡ on)
      → given o (λ ws. either (number_in ws == 1) (does_on first) (does_on second) d2 ys) ≡ does_on (cond on first second) d2 ys
  given_is None on first second d2 ys h = absurd h
  given_is (Some ws) on first second d2 ys h = either_is (number_in ws == 1) on first second d2 ys h

  -- a selection of the second that is decided
  pub selects_is : (control q2 : ℕ) (on : Bool) (first2 second2 rest2 : Body) (merge2 : Front) (d2 : Data) (after2 : After) (ys : List Answer)
      → IsSomeAnd (words_of_value (value c d2 q2)) (λ ws. (number_in ws == 1) ≡ on)
      → followed_on (Selects control q2 first2 second2 merge2 rest2) d2 after2 ys ≡ followed_on (cond on first2 second2) d2 (behind_merge merge2 rest2 after2)
      ys
  selects_is control q2 on first2 second2 rest2 merge2 d2 after2 ys h =
      then_at_followed merge2.label (enters merge2 (does_on rest2)) (by_condition c q2 (does_on first2) (does_on second2) d2 ys) after2
      ∙ ap (λ (r : Result). followed r (behind_merge merge2 rest2 after2)) (given_is (words_of_value (value c d2 q2)) on first2 second2 d2 ys h)

  -- a conditional exit of the second that is decided
  split_at : (o : Option (List ℕ)) (on decided : Bool) (out body : Onward) (d2 : Data) (ys : List Answer) → IsSomeAnd o (λ ws. (number_in ws == 1) ≡ decided)
      → given o (λ ws. either (number_in ws == 1) (cond on out body) (cond on body out) d2 ys) ≡ either decided (cond on out body) (cond on body out) d2 ys
  split_at None on decided out body d2 ys h = absurd h
  split_at (Some ws) on decided out body d2 ys h = ap (λ b. either b (cond on out body) (cond on body out) d2 ys) h

  split_out : (on : Bool) (out body : Onward) (d2 : Data) (ys : List Answer) → either on (cond on out body) (cond on body out) d2 ys ≡ out d2 ys
  split_out true out body d2 ys = refl
  split_out false out body d2 ys = refl

  split_past : (on : Bool) (out body : Onward) (d2 : Data) (ys : List Answer) → either (not on) (cond on out body) (cond on body out) d2 ys ≡ body d2 ys
  split_past true out body d2 ys = refl
  split_past false out body d2 ys = refl

  pub splits_past_is : (q2 : ℕ) (on : Bool) (exit2 : Exit) (body2 : Body) (d2 : Data) (after2 : After) (ys : List Answer)
      → IsSomeAnd (words_of_value (value c d2 q2)) (λ ws. (number_in ws == 1) ≡ not on)
      → followed_on (Splits q2 on exit2 body2) d2 after2 ys ≡ followed_on body2 d2 after2 ys
  splits_past_is q2 on exit2 body2 d2 after2 ys h =
      ap (λ (r : Result). followed r after2)
      (split_at (words_of_value (value c d2 q2)) on (not on) (leaves c exit2) (does_on body2) d2 ys h ∙ split_past on (leaves c exit2) (does_on body2) d2 ys)

  pub splits_out_is : (q2 : ℕ) (on : Bool) (exit2 : Exit) (body2 : Body) (d2 : Data) (after2 : After) (ys : List Answer)
      → IsSomeAnd (words_of_value (value c d2 q2)) (λ ws. (number_in ws == 1) ≡ on)
      → followed_on (Splits q2 on exit2 body2) d2 after2 ys ≡ followed_on (Leaves exit2) d2 after2 ys
  splits_out_is q2 on exit2 body2 d2 after2 ys h =
      ap (λ (r : Result). followed r after2)
      (split_at (words_of_value (value c d2 q2)) on on (leaves c exit2) (does_on body2) d2 ys h ∙ split_out on (leaves c exit2) (does_on body2) d2 ys)

  this_is : (other arm2 : Body) (others : Onward) (more : Option Body) (d2 : Data) (ys : List Answer) (b : Bool) → cond b (Some other) more ≡ Some arm2
      → (more ≡ Some arm2 → others d2 ys ≡ does_on arm2 d2 ys)
      → either b (does_on other) others d2 ys ≡ does_on arm2 d2 ys
  this_is other arm2 others more d2 ys true e k = ap (λ (z : Option Body). does_on (unwrap_or z other) d2 ys) e
  this_is other arm2 others more d2 ys false e k = k e

  -- a switch of the second whose arm is known
  arm_is : (arms2 : Arms) (arm2 : Body) (label : ℕ) (d2 : Data) (ys : List Answer) → arm_of arms2 label ≡ Some arm2
      → meaning_at c call turns arms2 label d2 ys ≡ does_on arm2 d2 ys
  arm_is (Last other) arm2 label d2 ys e = this_is other arm2 (λ a zs. only Sticks) None d2 ys (target other == label) e (λ f. absurd (cc f))
  arm_is (Also other arms2) arm2 label d2 ys e = this_is other arm2 (meaning_at c call turns arms2 label) (arm_of arms2 label) d2 ys (target other == label) e
      (λ f. arm_is arms2 arm2 label d2 ys f)

  switch_at : (o : Option (List ℕ)) (number : ℕ) (cases2 : List (ℕ × ℕ)) (arms2 : Arms) (arm2 : Body) (d2 : Data) (ys : List Answer)
      → IsSomeAnd o (λ ws. number_in ws ≡ number)
      → arm_of arms2 (chosen number (first_target arms2) cases2) ≡ Some arm2
      → given o (λ ws. meaning_at c call turns arms2 (chosen (number_in ws) (first_target arms2) cases2) d2 ys) ≡ does_on arm2 d2 ys
  switch_at None number cases2 arms2 arm2 d2 ys h e = absurd h
  switch_at (Some ws) number cases2 arms2 arm2 d2 ys h e =
      arm_is arms2 arm2 (chosen (number_in ws) (first_target arms2) cases2) d2 ys (ap (λ n. arm_of arms2 (chosen n (first_target arms2) cases2)) h ∙ e)

  pub switches_is : (control q2 number : ℕ) (cases2 : List (ℕ × ℕ)) (arms2 : Arms) (arm2 rest2 : Body) (merge2 : Front) (d2 : Data) (after2 : After)
      (ys : List Answer) → IsSomeAnd (words_of_value (value c d2 q2)) (λ ws. number_in ws ≡ number)
      → arm_of arms2 (chosen number (first_target arms2) cases2) ≡ Some arm2
      → followed_on (Switches control q2 cases2 arms2 merge2 rest2) d2 after2 ys ≡ followed_on arm2 d2 (behind_merge merge2 rest2 after2) ys
  switches_is control q2 number cases2 arms2 arm2 rest2 merge2 d2 after2 ys h e =
      then_at_followed merge2.label (enters merge2 (does_on rest2))
      (given (words_of_value (value c d2 q2)) (λ ws. meaning_at c call turns arms2 (chosen (number_in ws) (first_target arms2) cases2) d2 ys)) after2
      ∙ ap (λ (r : Result). followed r (behind_merge merge2 rest2 after2)) (switch_at (words_of_value (value c d2 q2)) number cases2 arms2 arm2 d2 ys h e)
