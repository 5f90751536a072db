-- All that a `Memory` keeps, and what each call changes in it.
use Rattle.std.specs.Prelude.{◌≡◌, ℕ, ◌⊎◌, Bool, true, false, List, [], ◌∷◌, ◌++◌, length, take, drop, min, Some, None, if◌then◌else◌, nat_eq}
use Rattle.std.specs.Cmp.Lexicographic.{pointwise}
use Rattle.opt_outside.specs.Calls.{Calls, counted, is_doomed, one_more, with_failing}
use Rattle.opt_outside.specs.Files.{held}
use Rattle.opt_outside.specs.Seen.{Seen}
use Rattle.opt_outside.specs.declared.schedule.CallKind.{CallKind}
use Rattle.opt_outside.specs.declared.schedule.CallKind.TheVariants.{OpenInput, Read, OpenOutput, Write, Tell}

-- A `Memory`, as contracts see it.
pub record Store : Type 0 where
  -- so many bytes at most are moved by one call
  pub chunk : ℕ
  -- names with their bytes, in the order in which they were added
  pub files : List (List ℕ × List ℕ)
  -- what is left of the open input
  pub left : List ℕ
  pub written : List ℕ
  pub opened : Bool
  pub told : List ℕ
  -- the names that were asked for, in order
  pub asked : List (List ℕ)
  -- the calls of each kind
  pub open_inputs : Calls
  pub reads : Calls
  pub open_outputs : Calls
  pub writes : Calls
  pub tells : Calls
  -- the counts of faults, and of those that came from want of memory
  pub read_faults : ℕ
  pub write_faults : ℕ
  pub tell_faults : ℕ
  pub lacked : ℕ

-- A memory tells everything.
abbrev pub seen_of : Store → Seen
seen_of m = record {
  holds = held m.files;
  left = Some m.left;
  written = Some m.written;
  opened = Some m.opened;
  told = Some m.told;
  asked = Some m.asked;
  read_faults = m.read_faults;
  write_faults = m.write_faults;
  tell_faults = m.tell_faults;
}

-- No call was made of a memory, and none is to fail.
abbrev pub uncalled : Calls
uncalled = record { made = 0; failing = [] }

-- A memory with nothing in it, that moves so many bytes at most by one call.
abbrev pub empty : ℕ → Store
empty chunk = record {
  chunk = chunk;
  files = [];
  left = [];
  written = [];
  opened = false;
  told = [];
  asked = [];
  open_inputs = uncalled;
  reads = uncalled;
  open_outputs = uncalled;
  writes = uncalled;
  tells = uncalled;
  read_faults = 0;
  write_faults = 0;
  tell_faults = 0;
  lacked = 0;
}

-- A name holds these bytes from now on, every other name what it held, and all else stays.
pub record AddsFile (name bytes : List ℕ) (old new : Store) : Type 0 where
  pub others : new ≡ record old { files = new.files }
  pub holds : (q : List ℕ) → held new.files q ≡ (if pointwise nat_eq name q then Some bytes else held old.files q)

-- The nth call of a kind is to fail too, where it is still to come and was not to fail yet.
abbrev pub fails_too : CallKind → ℕ → Store → Store
fails_too OpenInput nth m = record m { open_inputs = with_failing nth m.open_inputs }
fails_too Read nth m = record m { reads = with_failing nth m.reads }
fails_too OpenOutput nth m = record m { open_outputs = with_failing nth m.open_outputs }
fails_too Write nth m = record m { writes = with_failing nth m.writes }
fails_too Tell nth m = record m { tells = with_failing nth m.tells }

-- The first cause of a fault: the call is on the list of those that are to fail. `after` is the
-- memory with that call and its fault counted.
pub record IsListed (calls : Calls) (after new : Store) : Type 0 where
  pub doomed : is_doomed calls ≡ true
  pub change : new ≡ after

-- The second cause: the name of the input is not held.
pub record IsAbsent (name : List ℕ) (calls : Calls) (after new : Store) : Type 0 where
  pub spared : is_doomed calls ≡ false
  pub absent : held after.files name ≡ None
  pub change : new ≡ record after { asked = after.asked ++ name ∷ [] }

-- The third cause: the memory itself wants memory. This alone counts as lacking.
pub record IsLacking (calls : Calls) (after new : Store) : Type 0 where
  pub spared : is_doomed calls ≡ false
  pub change : new ≡ record after { lacked = one_more after.lacked }

-- An input that is held is open from its first byte.
pub record OpensHeld (name : List ℕ) (old new : Store) : Type 0 where
  pub spared : is_doomed old.open_inputs ≡ false
  pub whole : held old.files name ≡ Some new.left
  pub change : new ≡ record old {
    open_inputs = counted old.open_inputs;
    left = new.left;
    asked = old.asked ++ name ∷ [];
  }

-- An input was not opened, by one of the three causes.
abbrev pub OpensNone : List ℕ → Store → Store → Type 0
OpensNone name old new =
    let after = record old { open_inputs = counted old.open_inputs; read_faults = one_more old.read_faults } in
    IsListed old.open_inputs after new ⊎ (IsAbsent name old.open_inputs after new ⊎ IsLacking old.open_inputs after new)

-- The next n bytes were moved to the front of a buffer: as many as there are, as the buffer has room
-- for, and as a chunk allows.
pub record ReadsHeld (n : ℕ) (buf after : List ℕ) (old new : Store) : Type 0 where
  pub spared : is_doomed old.reads ≡ false
  pub count : n ≡ min (min (length old.left) (length buf)) old.chunk
  pub moved : after ≡ take n old.left ++ drop n buf
  pub change : new ≡ record old { reads = counted old.reads; left = drop n old.left }

-- Nothing was read: the call is on the list. Reading takes no memory.
abbrev pub ReadsNone : Store → Store → Type 0
ReadsNone old new =
    IsListed old.reads (record old { reads = counted old.reads; read_faults = one_more old.read_faults }) new

-- The output is open and empty.
pub record OpensEmpty (name : List ℕ) (old new : Store) : Type 0 where
  pub spared : is_doomed old.open_outputs ≡ false
  pub change : new ≡ record old {
    open_outputs = counted old.open_outputs;
    written = [];
    opened = true;
    asked = old.asked ++ name ∷ [];
  }

-- The output was not opened: the call is on the list, or memory is wanting.
abbrev pub OpensNoOutput : Store → Store → Type 0
OpensNoOutput old new =
    let after = record old { open_outputs = counted old.open_outputs; write_faults = one_more old.write_faults } in
    IsListed old.open_outputs after new ⊎ IsLacking old.open_outputs after new

-- The first n bytes of a piece were written: all, or as many as a chunk allows.
pub record WritesHeld (n : ℕ) (piece : List ℕ) (old new : Store) : Type 0 where
  pub spared : is_doomed old.writes ≡ false
  pub count : n ≡ min (length piece) old.chunk
  pub change : new ≡ record old { writes = counted old.writes; written = old.written ++ take n piece }

-- Nothing was written: the call is on the list, or memory is wanting.
abbrev pub WritesNone : Store → Store → Type 0
WritesNone old new =
    let after = record old { writes = counted old.writes; write_faults = one_more old.write_faults } in
    IsListed old.writes after new ⊎ IsLacking old.writes after new

-- The first n bytes of a text were told: all, or as many as a chunk allows.
pub record TellsHeld (n : ℕ) (text : List ℕ) (old new : Store) : Type 0 where
  pub spared : is_doomed old.tells ≡ false
  pub count : n ≡ min (length text) old.chunk
  pub change : new ≡ record old { tells = counted old.tells; told = old.told ++ take n text }

-- Nothing was told: the call is on the list, or memory is wanting.
abbrev pub TellsNone : Store → Store → Type 0
TellsNone old new =
    let after = record old { tells = counted old.tells; tell_faults = one_more old.tell_faults } in
    IsListed old.tells after new ⊎ IsLacking old.tells after new
