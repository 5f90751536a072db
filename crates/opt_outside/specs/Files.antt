-- The files that a `Memory` holds: names with their bytes, in the order in which they were added.
use Rattle.std.specs.Prelude.{ℕ, ◌<◌, length, List, [], ◌∷◌, Option, Some, None, nat_eq, if◌then◌else◌, string_bytes, slice_get, option_map, unwrap_or}
use Rattle.std.specs.Cmp.Lexicographic.{pointwise}
use Rattle.opt_outside.specs.declared.files.File.{File}

-- A name and its bytes.
abbrev pub entry_of : File → List ℕ × List ℕ
entry_of file = (string_bytes file.name, file.bytes.items)

-- The first of two, where there is one.
abbrev pub first_told : Option (List ℕ) → Option (List ℕ) → Option (List ℕ)
first_told None other = other
first_told (Some bytes) other = Some bytes

-- The bytes of a file of this name.
abbrev pub bytes_if_named : List ℕ → List ℕ × List ℕ → Option (List ℕ)
bytes_if_named name file = if pointwise nat_eq file.0 name then Some file.1 else None

-- What a name holds: the bytes of the file of that name that was added last.
abbrev pub held : List (List ℕ × List ℕ) → List ℕ → Option (List ℕ)
held [] name = None
held (file ∷ files) name = first_told (held files name) (bytes_if_named name file)

-- The bytes of the file at a place, none where there is no file.
abbrev pub bytes_at : List (List ℕ × List ℕ) → Option ℕ → List ℕ
bytes_at files None = []
bytes_at files (Some k) = unwrap_or (option_map (λ file. file.1) (slice_get files k)) []

-- A place among the files, if it is one.
abbrev pub IsPlace : List (List ℕ × List ℕ) → Option ℕ → Type 0
IsPlace files None = Unit {0}
IsPlace files (Some k) = k < length files
