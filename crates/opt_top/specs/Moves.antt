-- What the reading and the writing loop change in what the outside has seen.
use Rattle.std.specs.Prelude.{◌≡◌, ℕ, ◌+◌, ◌<◌, ◌≤◌, ◌⊎◌, List, [], ◌++◌, length, None, MatchOption, IsSomeAnd, IfSome, option_map}
use Rattle.opt_outside.specs.Seen.{Seen, Rises, with_name, MayAsk, opened_now, MayOpen}

-- Bytes moved from the open input to the end of what was read: together they stay.
pub record Moves (had has : List ℕ) (old new : Seen) : Type 0 where
  pub others : new ≡ record old { left = new.left }
  pub kept : MatchOption old.left (new.left ≡ None) (λ all. IsSomeAnd new.left (λ rest. has ++ rest ≡ had ++ all))

-- At most so many bytes were taken of the open input, where that is told.
abbrev pub Takes : ℕ → Seen → Seen → Type 0
Takes most old new = IfSome old.left (λ all. IfSome new.left (λ rest. length all ≤ length rest + most))

-- Reading stopped for want of memory.
pub record StopsReading (most : ℕ) (old new : Seen) : Type 0 where
  pub others : new ≡ record old { left = new.left }
  pub taken : Takes most old new

-- Reading stopped at a fault of reading.
pub record FaultsReading (most : ℕ) (old new : Seen) : Type 0 where
  pub others : new ≡ record old { left = new.left; read_faults = new.read_faults }
  pub taken : Takes most old new
  pub cause : Rises old.read_faults new.read_faults

-- Nothing is left of the open input, where that is told.
abbrev pub IsAtEnd : Seen → Type 0
IsAtEnd seen = IfSome seen.left (λ rest. rest ≡ [])

-- Bytes were added to what was written.
pub record Adds (bytes : List ℕ) (old new : Seen) : Type 0 where
  pub others : new ≡ record old { written = option_map (λ written. written ++ bytes) old.written }

-- A fault of writing, behind the first bytes of a text, of which some are left: all before it was written.
pub record FaultsWriting (bytes : List ℕ) (old new : Seen) : Type 0 where
  pub others : new ≡ record old { written = new.written; write_faults = new.write_faults }
  pub front : (front : List ℕ) × (rest : List ℕ) × (front ++ rest ≡ bytes) × (0 < length rest) × (new.written ≡ option_map (λ written. written ++ front) old.written)
  pub cause : Rises old.write_faults new.write_faults

-- The named input was opened, and these bytes were read of it: from its first one on, no more than one above the limit, and all of it where that is not
-- passed.
pub record ReadsInput (name bytes : List ℕ) (old new : Seen) : Type 0 where
  pub others : new ≡ record old { left = new.left; asked = with_name name old.asked }
  pub front : IfSome (old.holds name) (λ all. IsSomeAnd new.left (λ rest. bytes ++ rest ≡ all))
  pub most : length bytes ≤ 4194305
  pub whole : length bytes ≤ 4194304 → IfSome (old.holds name) (λ all. all ≡ bytes)

-- The named input was opened, and at most one byte above the limit was taken of it.
abbrev pub TakesOf : List ℕ → Seen → Seen → Type 0
TakesOf name old new = IfSome (old.holds name) (λ all. IfSome new.left (λ rest. length all ≤ length rest + 4194305))

-- Memory was wanting while the named input was read.
pub record StopsInput (name : List ℕ) (old new : Seen) : Type 0 where
  pub others : new ≡ record old { left = new.left; asked = with_name name old.asked }
  pub taken : TakesOf name old new

-- The named input was not opened, or not read to its end.
pub record FaultsInput (name : List ℕ) (old new : Seen) : Type 0 where
  pub others : new ≡ record old { left = new.left; asked = new.asked; read_faults = new.read_faults }
  pub names : MayAsk name old.asked new.asked
  pub taken : (new.left ≡ old.left) ⊎ TakesOf name old new
  pub cause : Rises old.read_faults new.read_faults

-- The named output was opened and all bytes were written.
pub record WritesOutput (name bytes : List ℕ) (old new : Seen) : Type 0 where
  pub others : new ≡ record old { written = option_map (λ _. bytes) old.written; opened = opened_now old.opened; asked = with_name name old.asked }

-- The named output was not opened, or a front of the bytes was written and some are left.
pub record FaultsOutput (name bytes : List ℕ) (old new : Seen) : Type 0 where
  pub others : new ≡ record old { written = new.written; opened = new.opened; asked = new.asked; write_faults = new.write_faults }
  pub names : MayAsk name old.asked new.asked
  pub opening : MayOpen old.opened new.opened
  pub front : (new.written ≡ old.written) ⊎ ((front : List ℕ) × (rest : List ℕ) × (front ++ rest ≡ bytes) × (0 < length rest) × (new.written ≡ option_map (λ _. front) old.written))
  pub cause : Rises old.write_faults new.write_faults

-- All of a text was told.
pub record Tellings (text : List ℕ) (old new : Seen) : Type 0 where
  pub others : new ≡ record old { told = option_map (λ told. told ++ text) old.told }

-- A fault of telling, behind the first bytes of a text: all before it was told.
pub record FaultsTelling (text : List ℕ) (old new : Seen) : Type 0 where
  pub others : new ≡ record old { told = new.told; tell_faults = new.tell_faults }
  pub front : (front : List ℕ) × (rest : List ℕ) × (front ++ rest ≡ text) × (0 < length rest) × (new.told ≡ option_map (λ told. told ++ front) old.told)
  pub cause : Rises old.tell_faults new.tell_faults
