-- Modules as bytes and as words. A word is four bytes, and the magic number, the first word, tells
-- whether a file has the lowest or the highest of them first (SPIR-V Specification, section 2.3).
use Rattle.std.specs.Prelude.{◌≡◌, ◌==◌, ◌||◌, ◌≤◌, ◌%◌, ℕ, nat_lt, Bool, if◌then◌else◌, List, [], ◌∷◌, length, slice_index, Option, Some, None, Result, Ok, Err, ⊤}
use Rattle.std.specs.List.{flat_map}
use Rattle.byteorder.specs.Endian.{big_number, little_bytes, little_number}
use Rattle.spv_base.specs.declared.header.Header.{Header}
use Rattle.spv_words.specs.declared.fault.WordsFault.{WordsFault}
use Rattle.spv_words.specs.declared.fault.WordsFault.TheVariants.{ShortInput, OddLength, NotSpirv, NoMemory}

-- the first word of each module
abbrev pub magic_number : ℕ
magic_number = 0x0723_0203

-- bytes cut in fours, each four read as the word that `number` says; fewer at the end are no word
unfoldable pub words_by : (List ℕ → ℕ) → List ℕ → List ℕ
words_by number (a ∷ b ∷ c ∷ d ∷ rest) = number (a ∷ b ∷ c ∷ d ∷ []) ∷ words_by number rest
words_by number _ = []

-- the first four bytes are the magic number, the lowest or the highest of them first
abbrev pub is_little_endian : List ℕ → Bool
is_little_endian bytes = little_number 4 bytes == magic_number

abbrev pub is_big_endian : List ℕ → Bool
is_big_endian bytes = big_number 4 bytes == magic_number

-- the first broken rule of the three on bytes: 001, fewer than 20 bytes; 002, a length that is no multiple
-- of 4; 003, the magic number in neither byte order
unfoldable pub byte_fault : List ℕ → Option WordsFault
byte_fault bytes =
    if nat_lt (length bytes) 20 then Some ShortInput
    else (if nat_lt 0 (length bytes % 4) then Some OddLength
    else (if is_little_endian bytes || is_big_endian bytes then None
    else Some NotSpirv))

-- the words of bytes that break no rule, else the first broken rule
unfoldable pub words_in : List ℕ → Result (List ℕ) WordsFault
words_in bytes = elim (byte_fault bytes) [
  | Some fault ↦ Err fault
  | None ↦ Ok (words_by (if is_little_endian bytes then little_number 4 else big_number 4) bytes)
]

-- what an attempt to read bytes answers: their words, or their first broken rule, or that memory was wanting
abbrev pub Reads : List ℕ → Result (List ℕ) WordsFault → Type 0
Reads bytes (Err NoMemory) = ⊤
Reads bytes answer = words_in bytes ≡ answer

-- the bytes of words, of each the lowest first
unfoldable pub bytes_of_words : List ℕ → List ℕ
bytes_of_words words = flat_map (little_bytes 4) words

-- words that begin with a header: the magic number and four more
pub record HasHeader (words : List ℕ) : Type 0 where
  pub five : 5 ≤ length words
  pub magic : slice_index words 0 ≡ magic_number

-- the header in front of a module's instructions
unfoldable pub header_of : List ℕ → Result Header WordsFault
header_of words =
    if nat_lt (length words) 5 then Err ShortInput
    else (if slice_index words 0 == magic_number then Ok (record {
      version = slice_index words 1;
      generator = slice_index words 2;
      bound = slice_index words 3;
      schema = slice_index words 4;
    })
    else Err NotSpirv)
