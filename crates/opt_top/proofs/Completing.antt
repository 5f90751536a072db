-- A job whose input is in the profile is done where no fault rose and memory is there.
use Rattle.std.proofs.Common.{◌≡◌, ℕ, ◌≤◌, ◌⊎◌, List, ◌++◌, length, Option, Some, None, Result, refl, ap, subst, inl, inr, arith}
use Rattle.std.specs.Option.{IfSome, IsSomeAnd}
use Rattle.std.proofs.lemmas.List.{length-append}
use Rattle.opt_outside.specs.Seen.{Seen, Rises}
use Rattle.opt_top.specs.declared.status.Status.{Status}
use Rattle.opt_top.specs.declared.status.Status.TheVariants.{Done, Refused, Usage, ReadFault, WriteFault, Limit, NoMemory}
use Rattle.spv_profile.specs.Profile.{IsTooNested}
use Rattle.spv_profile.proofs.OneAnswer.{one_answer}
use Rattle.spv_base.specs.declared.fault.Refusal.{Refusal}
use Rattle.spv_words.specs.declared.fault.WordsFault.{WordsFault}
use Rattle.spv_words.specs.Words.{words_in}
use Rattle.opt_top.specs.Answer.{BreaksFirst, InProfile, TooNested}
use Rattle.opt_top.specs.Ends.{Completes, EndsLimited, EndsRefused, IsInput, Rose, Stops}
use Rattle.opt_top.specs.Job.{FileJob}

-- ---- what is in the profile neither breaks a rule nor nests too deep

pub breaks_none : (bytes : List ℕ) (refusal : Refusal) → InProfile bytes → BreaksFirst (words_in bytes) refusal → ⊥
breaks_none bytes refusal h broken =
    (one_answer h.words).not_admitted refusal (subst (λ (read : Result (List ℕ) WordsFault). BreaksFirst read refusal) h.read broken) h.admitted

pub nests_none : (bytes : List ℕ) → InProfile bytes → TooNested bytes → ⊥
nests_none bytes h deep =
    let same : deep.words ≡ h.words = cc (deep.read, h.read) in
    (one_answer h.words).shallow h.admitted (subst IsTooNested same deep.nested)

-- ---- what the input holds was read whole

told_whole : (held : Option (List ℕ)) (all bytes : List ℕ) → held ≡ Some all → IfSome held (λ all. all ≡ bytes) → all ≡ bytes
told_whole None all bytes e h = cc
told_whole (Some x) all bytes e h = cc (e, h)

whole_input : (job : FileJob) (bytes all : List ℕ) (old new : Seen) → IsInput job bytes old new → length bytes ≤ 4194304 → old.holds job.input ≡ Some all
    → all ≡ bytes
whole_input job bytes all old new input short e = told_whole (old.holds job.input) all bytes e (input.whole short)

told_front : (left : Option (List ℕ)) (all bytes : List ℕ) → IsSomeAnd left (λ rest. bytes ++ rest ≡ all) → length bytes ≤ length all
told_front None all bytes h = absurd h
told_front (Some rest) all bytes h = omega (arith, length-append bytes rest, ap length h)

front_within : (held left : Option (List ℕ)) (all bytes : List ℕ) → held ≡ Some all → IfSome held (λ all. IsSomeAnd left (λ rest. bytes ++ rest ≡ all))
    → length bytes ≤ length all
front_within None left all bytes e h = absurd (cc e)
front_within (Some x) left all bytes e h =
    let same : x ≡ all = cc e in
    subst (λ (xs : List ℕ). length bytes ≤ length xs) same (told_front left x bytes h)

-- ---- so a run does not end at the input

module _ (file : FileJob) (all : List ℕ) (old new : Seen) (held : old.holds file.input ≡ Some all) (fits : length all ≤ 4194304) (h : InProfile all) where
  refused_none : (refusal : Refusal) → EndsRefused file refusal old new → ⊥
  refused_none refusal ends =
      breaks_none ends.bytes refusal (subst InProfile (whole_input file ends.bytes all old new ends.input ends.short held) h) ends.broken

  limited_none : (number : ℕ) → EndsLimited file number old new → ⊥
  limited_none number (inl ends) =
      let within = front_within (old.holds file.input) new.left all ends.1.bytes held ends.1.input.front in omega (arith, within, ends.1.long, fits)
  limited_none number (inr ends) =
      nests_none ends.1.bytes (subst InProfile (whole_input file ends.1.bytes all old new ends.1.input ends.1.short held) h) ends.1.nested

-- a count that rises rose
rises : (before after : ℕ) → Rises before after → Rose before after
rises before after h = grind arith

stops_completely : (file : FileJob) (all : List ℕ) (status : Status) (old new : Seen) → Stops (Some file) status old new → old.holds file.input ≡ Some all
    → length all ≤ 4194304 → InProfile all → ¬ (Rose old.read_faults new.read_faults) → ¬ (Rose old.write_faults new.write_faults) → (status ≡ Done) ⊎ (status ≡ NoMemory)
stops_completely file all Done old new h held fits admitted reads writes = inl refl
stops_completely file all (Refused refusal) old new h held fits admitted reads writes = absurd (refused_none file all old new held fits admitted refusal h)
stops_completely file all (Usage fault) old new h held fits admitted reads writes = absurd h
stops_completely file all ReadFault old new h held fits admitted reads writes = absurd (reads (rises old.read_faults new.read_faults h.cause))
stops_completely file all WriteFault old new h held fits admitted reads writes = absurd (writes (rises old.write_faults new.write_faults h.cause))
stops_completely file all (Limit number) old new h held fits admitted reads writes = absurd (limited_none file all old new held fits admitted number h)
stops_completely file all NoMemory old new h held fits admitted reads writes = inr refl

pub completes : (job : Option FileJob) (status : Status) (old new : Seen) → Stops job status old new → Completes job status old new
completes None status old new h file all e held fits admitted reads writes = absurd (cc e)
completes (Some job) status old new h file all e held fits admitted reads writes =
    let same : job ≡ file = cc e in
    stops_completely file all status old new (subst (λ (j : FileJob). Stops (Some j) status old new) same h) held fits admitted reads writes
