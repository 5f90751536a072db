-- Lengths of arrays that no specialisation changes.
use Rattle.std.specs.Option.{option_and_then, option_map_or}
use Rattle.std.specs.Prelude.{ℕ, Bool, false, cond, ◌==◌, nat_le, nat_lt, nat_eq, List, Option, Some, None}
use Rattle.spv_module.specs.Instruction.{Instruction}
use Rattle.spv_ids.specs.Ids.{word_of}
use Rattle.spv_typing.specs.Kinds.{type_of}
use Rattle.spv_types.specs.Lookup.{known_word}
use Rattle.spv_types.specs.Members.{length_of_word}

-- a constant of a signed type of integers
abbrev pub is_signed : List Instruction → (id : ℕ) → Bool
is_signed insts id = word_of insts (type_of insts id) 3 == 1

-- the length that a word is, where it is at least 1, read as signed or not
abbrev pub some_length : (is_signed : Bool) → (word : ℕ) → Option ℕ
some_length is_signed word = cond (nat_le 1 (length_of_word is_signed word)) (Some (length_of_word is_signed word)) None

-- the first word of a Known constant; 0 is no id
abbrev pub first_known_word : List Instruction → (id : ℕ) → Option ℕ
first_known_word insts id = cond (nat_lt 0 id) (known_word insts id 0) None

-- A length is Known where its constant is Known and, read by the signedness of its type, at least 1.
unfoldable pub known_length : List Instruction → (length_id : ℕ) → Option ℕ
known_length insts id = option_and_then (some_length (is_signed insts id)) (first_known_word insts id)

abbrev pub has_known_length : List Instruction → (length_id n : ℕ) → Bool
has_known_length insts id n = option_map_or (nat_eq n) (known_length insts id) false
