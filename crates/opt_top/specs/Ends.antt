-- How a run of the optimiser may end, and what its outside has seen of it then.
use Rattle.std.specs.Prelude.{◌≡◌, ℕ, ◌<◌, ◌≤◌, ◌⊎◌, List, ◌++◌, length, Option, Some, None, Ok, Err, option_map, IfSome, IsSomeAnd}
use Rattle.opt_outside.specs.Seen.{Seen, Rises, last_count, with_name, MayAsk, opened_now, MayOpen}
use Rattle.spv_base.specs.declared.fault.Refusal.{Refusal}
use Rattle.opt_top.specs.declared.status.Status.{Status}
use Rattle.opt_top.specs.declared.status.Status.TheVariants.{Done, Refused, Usage, ReadFault, WriteFault, Limit, NoMemory}
use Rattle.opt_top.specs.declared.status.UsageFault.{UsageFault}
use Rattle.opt_top.specs.declared.status.UsageKind.TheVariants.{NotYet}
use Rattle.opt_top.specs.Answer.{InProfile, IsAnswer, TooNested}
use Rattle.opt_top.specs.Job.{FileJob}
use Rattle.opt_top.specs.Means.{Means}
use Rattle.opt_top.specs.Moves.{TakesOf}
use Rattle.opt_top.specs.Status.{message_of}

-- These bytes were read of the input: from its first one on, no more than one above the limit, and all of it where that is not passed.
pub record IsInput (job : FileJob) (bytes : List ℕ) (old new : Seen) : Type 0 where
  pub front : IfSome (old.holds job.input) (λ all. IsSomeAnd new.left (λ rest. bytes ++ rest ≡ all))
  pub most : length bytes ≤ 4194305
  pub whole : length bytes ≤ 4194304 → IfSome (old.holds job.input) (λ all. all ≡ bytes)

-- The words are no job: nothing was asked, read or written.
pub record EndsAtOnce (old new : Seen) : Type 0 where
  pub others : new ≡ record old { told = new.told; tell_faults = new.tell_faults }

-- A fault of reading: the input was not opened, or was not read to its end.
pub record EndsAtReading (job : FileJob) (old new : Seen) : Type 0 where
  pub others : new ≡ record old { left = new.left; asked = new.asked; read_faults = new.read_faults; told = new.told; tell_faults = new.tell_faults }
  pub names : MayAsk job.input old.asked new.asked
  pub taken : (new.left ≡ old.left) ⊎ TakesOf job.input old new
  pub cause : Rises old.read_faults new.read_faults

-- Memory was wanting while the input was read or looked at.
pub record EndsForMemory (job : FileJob) (old new : Seen) : Type 0 where
  pub others : new ≡ record old { left = new.left; asked = with_name job.input old.asked; told = new.told; tell_faults = new.tell_faults }
  pub taken : TakesOf job.input old new

-- The input has more bytes than a file may have.
pub record EndsAtLimit (job : FileJob) (old new : Seen) : Type 0 where
  pub bytes : List ℕ
  pub input : IsInput job bytes old new
  pub others : new ≡ record old { left = new.left; asked = with_name job.input old.asked; told = new.told; tell_faults = new.tell_faults }
  pub long : 4194304 < length bytes

-- A function of the input nests too deep, and no rule up to those on control flow is broken.
pub record EndsNested (job : FileJob) (old new : Seen) : Type 0 where
  pub bytes : List ℕ
  pub input : IsInput job bytes old new
  pub others : new ≡ record old { left = new.left; asked = with_name job.input old.asked; told = new.told; tell_faults = new.tell_faults }
  pub short : length bytes ≤ 4194304
  pub nested : TooNested bytes

-- The input breaks a rule.
pub record EndsRefused (job : FileJob) (refusal : Refusal) (old new : Seen) : Type 0 where
  pub bytes : List ℕ
  pub input : IsInput job bytes old new
  pub others : new ≡ record old { left = new.left; asked = with_name job.input old.asked; told = new.told; tell_faults = new.tell_faults }
  pub short : length bytes ≤ 4194304
  pub broken : IsAnswer bytes (Err refusal)

-- A fault of writing: the output was not opened, or a front of the bytes to be written was written and some are left.
pub record EndsAtWriting (job : FileJob) (old new : Seen) : Type 0 where
  pub bytes : List ℕ
  pub output : List ℕ
  pub input : IsInput job bytes old new
  pub others : new ≡ record old {
    left = new.left;
    written = new.written;
    opened = new.opened;
    told = new.told;
    asked = new.asked;
    write_faults = new.write_faults;
    tell_faults = new.tell_faults;
  }
  pub short : length bytes ≤ 4194304
  pub answer : IsAnswer bytes (Ok output)
  pub names : MayAsk job.output (with_name job.input old.asked) new.asked
  pub opening : MayOpen old.opened new.opened
  pub front : (new.written ≡ old.written) ⊎ ((front : List ℕ) × (rest : List ℕ) × (front ++ rest ≡ output) × (0 < length rest) × (new.written ≡ option_map (λ _. front) old.written))
  pub cause : Rises old.write_faults new.write_faults

-- The whole output was written, and it means what the input means.
pub record EndsDone (job : FileJob) (old new : Seen) : Type 0 where
  pub bytes : List ℕ
  pub output : List ℕ
  pub input : IsInput job bytes old new
  pub others : new ≡ record old {
    left = new.left;
    written = option_map (λ _. output) old.written;
    opened = opened_now old.opened;
    told = new.told;
    asked = with_name job.output (with_name job.input old.asked);
    tell_faults = new.tell_faults;
  }
  pub short : length bytes ≤ 4194304
  pub answer : IsAnswer bytes (Ok output)
  pub means : Means bytes output

-- the one fault of words of a form that is not read yet
abbrev pub not_yet : UsageFault
not_yet = record { kind = NotYet; config = 0; place = 0 }

-- which limit was passed
abbrev pub EndsLimited : FileJob → (number : ℕ) → Seen → Seen → Type 0
EndsLimited job number old new = ((number ≡ 900) × EndsAtLimit job old new) ⊎ ((number ≡ 901) × EndsNested job old new)

-- what each status says
abbrev pub Stops : Option FileJob → Status → Seen → Seen → Type 0
Stops None Done old new = ⊥
Stops None (Refused refusal) old new = ⊥
Stops None (Usage fault) old new = (fault ≡ not_yet) × EndsAtOnce old new
Stops None ReadFault old new = ⊥
Stops None WriteFault old new = ⊥
Stops None (Limit number) old new = ⊥
Stops None NoMemory old new = ⊥
Stops (Some job) Done old new = EndsDone job old new
Stops (Some job) (Refused refusal) old new = EndsRefused job refusal old new
Stops (Some job) (Usage fault) old new = ⊥
Stops (Some job) ReadFault old new = EndsAtReading job old new
Stops (Some job) WriteFault old new = EndsAtWriting job old new
Stops (Some job) (Limit number) old new = EndsLimited job number old new
Stops (Some job) NoMemory old new = EndsForMemory job old new

-- a text was told, or a fault of telling stopped it behind a front of it
pub record ToldAll (text : List ℕ) (old new : Seen) : Type 0 where
  pub told : new.told ≡ option_map (λ told. told ++ text) old.told
  pub tell_faults : new.tell_faults ≡ old.tell_faults

pub record ToldFront (text : List ℕ) (old new : Seen) : Type 0 where
  pub front : List ℕ
  pub rest : List ℕ
  pub whole : front ++ rest ≡ text
  pub some : 0 < length rest
  pub told : new.told ≡ option_map (λ told. told ++ front) old.told
  pub cause : Rises old.tell_faults new.tell_faults

abbrev pub Told : List ℕ → Seen → Seen → Type 0
Told text old new = ToldAll text old new ⊎ ToldFront text old new

-- how a run ends: by its status, of which it told the message
pub record Ends (job : Option FileJob) (status : Status) (old new : Seen) : Type 0 where
  pub stops : Stops job status old new
  pub told : Told (message_of status) old new

-- a count rose: it is greater, or stands at its last value
abbrev pub Rose : ℕ → ℕ → Type 0
Rose before after = (before < after) ⊎ (after ≡ last_count)

-- completeness: a job whose input holds at most the limit's bytes, and is in the profile, is done where no fault rose and memory is there
abbrev pub Completes : Option FileJob → Status → Seen → Seen → Type 0
Completes job status old new =
    (file : FileJob) (all : List ℕ) → job ≡ Some file → old.holds file.input ≡ Some all → length all ≤ 4194304 → InProfile all →
    ¬ (Rose old.read_faults new.read_faults) → ¬ (Rose old.write_faults new.write_faults) → (status ≡ Done) ⊎ (status ≡ NoMemory)
