-- Reading from an input, and writing to an output, that may not be open.
use Rattle.std.specs.Prelude.{ℕ, List, Bool, not, nat_eq, codes, Option, None, Some, Result, IsErr}
use Rattle.std.specs.Cmp.Lexicographic.{pointwise}
use Rattle.std.specs.Io.KnownBytes.{ReadConsumes, WriteAppends}

-- The name is that of a file: it is not `-`, which names a standard stream.
abbrev pub is_file_name : List ℕ → Bool
is_file_name name = not (pointwise nat_eq name (codes "-"))

-- With nothing open the read fails; else it takes its bytes from what is open, as `left` tells them.
abbrev pub ReadsFrom : {S E : Type 0} → (S → Option (List ℕ)) → Option S → Option S → Result ℕ E → List ℕ → Type 0
ReadsFrom left None new result buf = IsErr result
ReadsFrom left (Some old) None result buf = ⊥
ReadsFrom left (Some old) (Some new) result buf = ReadConsumes (left old) (left new) result buf

-- With nothing open the write fails; else it adds its bytes to what is open, as `held` tells them.
abbrev pub WritesTo : {S E : Type 0} → (S → Option (List ℕ)) → Option S → Option S → Result ℕ E → List ℕ → Type 0
WritesTo held None new result piece = IsErr result
WritesTo held (Some old) None result piece = ⊥
WritesTo held (Some old) (Some new) result piece = WriteAppends (held old) (held new) result piece
