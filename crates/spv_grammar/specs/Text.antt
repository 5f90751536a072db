-- Strings: octets of UTF-8, four in a word, ended by an octet of zero and padded with zeros to a whole word.
use Rattle.std.specs.Prelude.{ℕ, suc, Bool, false, ◌==◌, ◌&&◌, List, length, take, drop, Option, Some, None, codes, position, unwrap_or, nat_eq}
use Rattle.std.specs.List.{list_any, list_all}
use Rattle.std.specs.Option.{option_map}
use Rattle.std.specs.Cmp.Lexicographic.{pointwise}
use Rattle.std.specs.Str.{is_utf8}
use Rattle.byteorder.specs.Endian.{little_bytes}
use Rattle.spv_words.specs.Words.{bytes_of_words}

abbrev pub is_zero : ℕ → Bool
is_zero octet = octet == 0

abbrev pub has_zero_octet : ℕ → Bool
has_zero_octet word = list_any is_zero (little_bytes 4 word)

-- how many words the string in front has: up to the first word with an octet of zero, or all where none has one
abbrev pub text_words : List ℕ → ℕ
text_words words = unwrap_or (option_map suc (position has_zero_octet words)) (length words)

-- UTF-8 up to a place, and zeros from there on
abbrev pub ends_at : Option ℕ → List ℕ → Bool
ends_at None octets = false
ends_at (Some n) octets = is_utf8 (take n octets) && list_all is_zero (drop n octets)

-- octets of a string with its end and its padding
abbrev pub is_text_octets : List ℕ → Bool
is_text_octets octets = ends_at (position is_zero octets) octets

-- the octets before the first zero
abbrev pub text_in : List ℕ → List ℕ
text_in octets = take (unwrap_or (position is_zero octets) (length octets)) octets

-- words of a string
abbrev pub is_text : List ℕ → Bool
is_text words = is_text_octets (bytes_of_words words)

-- octets, or words, that name the extended instruction set of the profile
abbrev pub is_set_name_octets : List ℕ → Bool
is_set_name_octets octets = pointwise nat_eq (text_in octets) (codes "GLSL.std.450")

abbrev pub is_set_name : List ℕ → Bool
is_set_name words = is_set_name_octets (bytes_of_words words)
