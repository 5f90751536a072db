-- The ids that instructions name, how often they are used, and one put for another.
use Rattle.std.specs.Prelude.{ℕ, ◌+◌, Bool, cond, ◌==◌, ◌&&◌, ◌||◌, max, List, [], ◌∷◌, map, filter, slice_index_or, slice_set}
use Rattle.std.specs.List.{flat_map, zip, list_any}
use Rattle.spv_grammar.specs.declared.kind.Role.{Role}
use Rattle.spv_grammar.specs.declared.kind.Role.TheVariants.{Opcode}
use Rattle.spv_grammar.specs.Roles.{is_used_id, names_id}
use Rattle.spv_opcodes.specs.declared.op.TheConstants as op
use Rattle.spv_module.specs.Instruction.{Instruction, opcode, roles}

-- the words of an instruction whose part passes the test
abbrev pub words_with : (Role → Bool) → Instruction → List ℕ
words_with test i = map (λ part. part.1) (filter (λ part. test part.0) (zip (roles i) i.words))

-- the ids that instructions name, as a type, a result or an operand
abbrev pub named_ids : List Instruction → List ℕ
named_ids insts = flat_map (words_with names_id) insts

-- names and decorations
abbrev pub is_annotation : Instruction → Bool
is_annotation i = opcode i == op.NAME || opcode i == op.MEMBER_NAME || opcode i == op.DECORATE || opcode i == op.MEMBER_DECORATE

-- the operand words that name ids, names and decorations aside
abbrev pub used_by : Instruction → List ℕ
used_by i = cond (is_annotation i) [] (words_with is_used_id i)

abbrev pub used_ids : List Instruction → List ℕ
used_ids insts = flat_map used_by insts

-- how often a number stands in a list
abbrev pub times : ℕ → List ℕ → ℕ
times n [] = 0
times n (x ∷ xs) = cond (x == n) (times n xs + 1) (times n xs)

abbrev pub stands_in : ℕ → List ℕ → Bool
stands_in n xs = list_any (λ x. x == n) xs

-- 0 where there is none
abbrev pub greatest : List ℕ → ℕ
greatest [] = 0
greatest (x ∷ xs) = max x (greatest xs)

-- one more than the greatest id that instructions name (SPIR-V Specification, section 2.3)
unfoldable pub bound_of_ids : List Instruction → ℕ
bound_of_ids insts = greatest (named_ids insts) + 1

-- whether the word at a place of an instruction uses an id
abbrev pub uses_at : Instruction → ℕ → Bool
uses_at i at = is_used_id (slice_index_or (roles i) at Opcode)

abbrev pub with_word : Instruction → (at word : ℕ) → Instruction
with_word i at word = record { offset = i.offset; words = slice_set i.words at word }

-- `to` for each word that uses `from`
abbrev pub replaced_word : (from to : ℕ) → Role → ℕ → ℕ
replaced_word from to role word = cond (is_used_id role && word == from) to word

abbrev pub replaced_words : (from to : ℕ) → List Role → List ℕ → List ℕ
replaced_words from to (role ∷ roles) (word ∷ words) = replaced_word from to role word ∷ replaced_words from to roles words
replaced_words from to [] words = words
replaced_words from to (role ∷ roles) [] = []

-- `to` for each use of `from`, names and decorations aside
abbrev pub replaced_in : (from to : ℕ) → Instruction → Instruction
replaced_in from to i = cond (is_annotation i) i (record { offset = i.offset; words = replaced_words from to (roles i) i.words })

abbrev pub replaced : (from to : ℕ) → List Instruction → List Instruction
replaced from to insts = map (replaced_in from to) insts
