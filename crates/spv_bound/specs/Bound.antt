-- The bound of a module's ids.
use Rattle.std.specs.Prelude.{ℕ, ◌+◌, max, Bool, List, [], ◌∷◌, map, filter}
use Rattle.std.specs.List.{flat_map, zip}
use Rattle.spv_grammar.specs.declared.kind.Role.{Role}
use Rattle.spv_grammar.specs.Roles.{names_id}
use Rattle.spv_module.specs.Instruction.{Instruction, roles}

-- the words of an instruction whose part passes the test
abbrev pub words_with : (Role → Bool) → Instruction → List ℕ
words_with test i = map (λ part. part.1) (filter (λ part. test part.0) (zip (roles i) i.words))

-- the ids that instructions name, as a type, a result or an operand
abbrev pub named_ids : List Instruction → List ℕ
named_ids insts = flat_map (words_with names_id) insts

-- 0 where there is none
abbrev pub greatest : List ℕ → ℕ
greatest [] = 0
greatest (x ∷ xs) = max x (greatest xs)

-- one more than the greatest id that instructions name (SPIR-V Specification, section 2.3)
unfoldable pub bound_of_ids : List Instruction → ℕ
bound_of_ids insts = greatest (named_ids insts) + 1
