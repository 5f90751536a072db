-- What a program's outside has seen of it, and what each call on the outside changes in that. Every
-- meaning is optional: None tells nothing, and a clause on it then says nothing.
use Rattle.std.specs.Prelude.{◌≡◌, ◌≢◌, ℕ, ◌-◌, ◌^◌, ◌<◌, ◌≤◌, ◌⊎◌, Bool, true, List, [], ◌∷◌, ◌++◌, length, take, drop, Option, Some, option_map, IfSome}

-- All that an outside tells, and its three counts of faults.
pub record Seen : Type 0 where
  -- what a name holds
  pub holds : List ℕ → Option (List ℕ)
  -- what is left of the open input
  pub left : Option (List ℕ)
  -- what was written
  pub written : Option (List ℕ)
  -- whether the output was opened
  pub opened : Option Bool
  -- what was put on standard error
  pub told : Option (List ℕ)
  -- the names that were asked for, in order
  pub asked : Option (List (List ℕ))
  pub read_faults : ℕ
  pub write_faults : ℕ
  pub tell_faults : ℕ

-- The last value of a count, at which it stands still.
abbrev pub last_count : ℕ
last_count = 2 ^ 64 - 1

-- A count rose: it grew, or it stands at its last value at the end; it never falls.
pub record Rises (before after : ℕ) : Type 0 where
  pub no_less : before ≤ after
  pub rose : after ≢ last_count → before < after

-- The names asked for, with one more, where they are told.
abbrev pub with_name : List ℕ → Option (List (List ℕ)) → Option (List (List ℕ))
with_name name asked = option_map (λ names. names ++ name ∷ []) asked

-- A name was asked for, or the list stays.
abbrev pub MayAsk : List ℕ → Option (List (List ℕ)) → Option (List (List ℕ)) → Type 0
MayAsk name old new = (new ≡ with_name name old) ⊎ (new ≡ old)

-- The output was opened, where that is told.
abbrev pub opened_now : Option Bool → Option Bool
opened_now opened = option_map (λ _. true) opened

-- The output was opened, or it is as it was.
abbrev pub MayOpen : Option Bool → Option Bool → Type 0
MayOpen old new = (new ≡ opened_now old) ⊎ (new ≡ old)

-- The named input is open from its first byte. Who tells what a name holds tells what is left of it.
pub record OpensInput (name : List ℕ) (old new : Seen) : Type 0 where
  pub others : new ≡ record old { left = new.left; asked = with_name name old.asked }
  pub whole : IfSome (old.holds name) (λ bytes. new.left ≡ Some bytes)

-- No input was opened: what is left of the one before stays.
pub record FailsInput (name : List ℕ) (old new : Seen) : Type 0 where
  pub others : new ≡ record old { asked = new.asked; read_faults = new.read_faults }
  pub names : MayAsk name old.asked new.asked
  pub cause : Rises old.read_faults new.read_faults

-- A buffer begins with the first n bytes of what is left. None of a buffer with room is the end.
pub record IsFront (left : List ℕ) (n room : ℕ) (buf : List ℕ) : Type 0 where
  pub within : n ≤ length left
  pub same : take n buf ≡ take n left
  pub none : n ≡ 0 → 0 < room → left ≡ []

-- n bytes were read into a buffer that has room for `room`.
pub record Reads (n room : ℕ) (buf : List ℕ) (old new : Seen) : Type 0 where
  pub fits : n ≤ room
  pub others : new ≡ record old { left = option_map (λ left. drop n left) old.left }
  pub front : IfSome old.left (λ left. IsFront left n room buf)

-- Nothing was read.
pub record FailsRead (old new : Seen) : Type 0 where
  pub others : new ≡ record old { read_faults = new.read_faults }
  pub cause : Rises old.read_faults new.read_faults

-- The named output is open and empty.
pub record OpensOutput (name : List ℕ) (old new : Seen) : Type 0 where
  pub others : new ≡ record old {
    written = option_map (λ _. []) old.written;
    opened = opened_now old.opened;
    asked = with_name name old.asked;
  }

-- The output could not be opened for writing: what was written before stays.
pub record FailsOutput (name : List ℕ) (old new : Seen) : Type 0 where
  pub others : new ≡ record old {
    opened = new.opened;
    asked = new.asked;
    write_faults = new.write_faults;
  }
  pub output : MayOpen old.opened new.opened
  pub names : MayAsk name old.asked new.asked
  pub cause : Rises old.write_faults new.write_faults

-- How many bytes of a piece were taken: not more than it has, and some of one that is not empty.
pub record IsTaken (n : ℕ) (piece : List ℕ) : Type 0 where
  pub fits : n ≤ length piece
  pub some : 0 < length piece → 0 < n

-- The first n bytes of a piece were written.
pub record Writes (n : ℕ) (piece : List ℕ) (old new : Seen) : Type 0 where
  pub taken : IsTaken n piece
  pub others : new ≡ record old { written = option_map (λ bytes. bytes ++ take n piece) old.written }

-- Nothing was written.
pub record FailsWrite (old new : Seen) : Type 0 where
  pub others : new ≡ record old { write_faults = new.write_faults }
  pub cause : Rises old.write_faults new.write_faults

-- The first n bytes of a text were put on standard error.
pub record Tells (n : ℕ) (text : List ℕ) (old new : Seen) : Type 0 where
  pub taken : IsTaken n text
  pub others : new ≡ record old { told = option_map (λ bytes. bytes ++ take n text) old.told }

-- Nothing was put on standard error.
pub record FailsTell (old new : Seen) : Type 0 where
  pub others : new ≡ record old { tell_faults = new.tell_faults }
  pub cause : Rises old.tell_faults new.tell_faults
