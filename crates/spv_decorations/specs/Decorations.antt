-- The decorations of a module by their targets. Of two of one kind on one target the first counts.
use Rattle.std.specs.Prelude.{ℕ, Bool, List, Option, is_some}
use Rattle.spv_module.specs.Instruction.{Instruction}
use Rattle.spv_meaning.specs.Constants.{decorated, member_decorated, first_literal}
use Rattle.spv_meaning.specs.Statements.{statements_in, words_of}

-- the first literal of a decoration of an id, 0 where it has none
abbrev pub decoration_of : List Instruction → (id decoration : ℕ) → Option ℕ
decoration_of insts id d = first_literal (decorated (statements_in (words_of insts)) id d)

abbrev pub has_decoration : List Instruction → (id decoration : ℕ) → Bool
has_decoration insts id d = is_some (decorated (statements_in (words_of insts)) id d)

-- the same of a member of a struct, counted from 0
abbrev pub member_decoration_of : List Instruction → (id member decoration : ℕ) → Option ℕ
member_decoration_of insts id member d = first_literal (member_decorated (statements_in (words_of insts)) id member d)

abbrev pub has_member_decoration : List Instruction → (id member decoration : ℕ) → Bool
has_member_decoration insts id member d = is_some (member_decorated (statements_in (words_of insts)) id member d)
