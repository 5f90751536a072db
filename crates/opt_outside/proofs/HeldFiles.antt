-- What a list of files holds, as it grows by one file at its end.
use Rattle.std.proofs.Common.{◌≡◌, ℕ, ◌+◌, ◌<◌, Bool, true, false, List, [], ◌∷◌, ◌++◌, Option, Some, None, MatchOption, nat_eq, length, map, take, get_or, if◌then◌else◌, refl, ap, sym, ◌∙◌, arith, add-one, length-append}
use Rattle.std.proofs.Math.ListN.{get_or-append}
use Rattle.std.proofs.Math.Seq.{take-suc}
use Rattle.std.proofs.lemmas.List.{map-append}
use Rattle.std.proofs.lemmas.Option.{slice_get-map, slice_get-get_or}
use Rattle.std.specs.Cmp.Lexicographic.{pointwise}
use Rattle.opt_outside.specs.declared.files.File.{File}
use Rattle.opt_outside.specs.Files.{entry_of, first_told, bytes_if_named, held, bytes_at, IsPlace}

first_told-none : (told : Option (List ℕ)) → first_told told None ≡ told
first_told-none None = refl
first_told-none (Some bytes) = refl

first_told-assoc : (a b c : Option (List ℕ)) → first_told (first_told a b) c ≡ first_told a (first_told b c)
first_told-assoc None b c = refl
first_told-assoc (Some bytes) b c = refl

-- the file that was added last is asked first
pub held-append : (files : List (List ℕ × List ℕ)) (file : List ℕ × List ℕ) (name : List ℕ) → held (files ++ file ∷ []) name ≡ first_told (bytes_if_named name file) (held files name)
held-append [] file name = sym (first_told-none (bytes_if_named name file))
held-append (f ∷ files) file name =
    ap (λ told. first_told told (bytes_if_named name f)) (held-append files file name) ∙ first_told-assoc (bytes_if_named name file) (held files name) (bytes_if_named name f)

-- what the files before a place hold under a name: nothing, or the bytes of the file at the place found
abbrev pub FoundBefore : List File → List ℕ → ℕ → Option ℕ → Type 0
FoundBefore files name place found =
    let before = held (map entry_of (take place files)) name in
    MatchOption found (before ≡ None) (λ k. (k < place) × (before ≡ Some (bytes_at (map entry_of files) (Some k))))

held-take : (files : List File) (place : ℕ) (file : File) (name : List ℕ) → place < length files → file ≡ get_or files place file → held (map entry_of (take (place + 1) files)) name ≡ first_told (bytes_if_named name (entry_of file)) (held (map entry_of (take place files)) name)
held-take files place file name within is =
    rw (add-one, take-suc files place file within, ← is, map-append) (held-append (map entry_of (take place files)) (entry_of file) name)

bytes_at-map : (files : List File) (place : ℕ) (file : File) → place < length files → file ≡ get_or files place file → bytes_at (map entry_of files) (Some place) ≡ file.bytes.items
bytes_at-map files place file within is =
    rw (slice_get-map entry_of files place, slice_get-get_or files place file within, ← is) refl

-- the file at this place has the name
pub found_here : (files : List File) (place : ℕ) (file : File) (name : List ℕ) → place < length files → file ≡ get_or files place file → pointwise nat_eq (entry_of file).0 name ≡ true → FoundBefore files name (place + 1) (Some place)
found_here files place file name within is same =
    (omega arith, rw (held-take files place file name within is, same, bytes_at-map files place file within is) refl)

-- the file at this place has another name
pub found_before : (files : List File) (place : ℕ) (file : File) (name : List ℕ) (found : Option ℕ) → place < length files → file ≡ get_or files place file → pointwise nat_eq (entry_of file).0 name ≡ false → FoundBefore files name place found → FoundBefore files name (place + 1) found
found_before files place file name None within is other before =
    rw (held-take files place file name within is, other) before
found_before files place file name (Some k) within is other before =
    (omega arith, rw (held-take files place file name within is, other) before.1)

-- what a file that was added last holds, and every other name what it held
pub held-add : (files : List (List ℕ × List ℕ)) (name bytes q : List ℕ) → held (files ++ (name, bytes) ∷ []) q ≡ (if pointwise nat_eq name q then Some bytes else held files q)
held-add files name bytes q = held-append files (name, bytes) q ∙ go (pointwise nat_eq name q)
  where
    go : (same : Bool) → first_told (if same then Some bytes else None) (held files q) ≡ (if same then Some bytes else held files q)
    go true = refl
    go false = refl

-- a file that is added leaves the places of the others
pub bytes_at-append : (files : List (List ℕ × List ℕ)) (file : List ℕ × List ℕ) (place : Option ℕ) → IsPlace files place → bytes_at (files ++ file ∷ []) place ≡ bytes_at files place
bytes_at-append files file None within = refl
bytes_at-append files file (Some k) within =
    let longer : k < length (files ++ file ∷ []) = simp length-append (omega arith) in
    rw (slice_get-get_or (files ++ file ∷ []) k file longer, slice_get-get_or files k file within, get_or-append files (file ∷ []) file k within) refl
