-- Ids: which instruction defines one, what is said of it there, and the rules that each id is defined once and that what is named is defined.
use Rattle.std.specs.Prelude.{ℕ, Bool, false, cond, ◌==◌, ◌&&◌, ◌||◌, not, nat_eq, List, [], ◌++◌, map, filter, find, position, take, drop, slice_index, Option}
use Rattle.std.specs.List.{list_any, zip}
use Rattle.std.specs.Option.{option_map_or}
use Rattle.spv_grammar.specs.declared.kind.Role.{Role}
use Rattle.spv_grammar.specs.declared.section.TheConstants as section
use Rattle.spv_grammar.specs.Roles.{is_type_id, is_defined_id, is_used_id}
use Rattle.spv_module.specs.Code.{is_line, plain_section}
use Rattle.spv_module.specs.First.{unless}
use Rattle.spv_module.specs.Instruction.{Instruction, opcode, roles, word_with}

-- the instruction defines the id
abbrev pub defines : (id : ℕ) → Instruction → Bool
defines id i = option_map_or (nat_eq id) (word_with is_defined_id i) false

-- the number of the first instruction that defines an id, counted from 0
abbrev pub place_of : List Instruction → (id : ℕ) → Option ℕ
place_of insts id = position (defines id) insts

-- that instruction
abbrev pub definition : List Instruction → (id : ℕ) → Option Instruction
definition insts id = find (defines id) insts

-- the opcode of that instruction; 0, which is no instruction's, where nothing defines the id
abbrev pub kind : List Instruction → (id : ℕ) → ℕ
kind insts id = option_map_or opcode (definition insts id) 0

-- its k-th word, the first word being 0; 0 past the end and where nothing defines the id
abbrev pub word_of : List Instruction → (id k : ℕ) → ℕ
word_of insts id k = option_map_or (λ i. slice_index i.words k) (definition insts id) 0

-- its words from the k-th on
abbrev pub words_of : List Instruction → (id k : ℕ) → List ℕ
words_of insts id k = option_map_or (λ i. drop k i.words) (definition insts id) []

-- the words of an instruction whose part passes the test
abbrev pub words_with : (Role → Bool) → Instruction → List ℕ
words_with test i = map (λ part. part.1) (filter (λ part. test part.0) (zip (roles i) i.words))

-- the ids that an instruction names as its result's type or as operands
abbrev pub is_needed : Role → Bool
is_needed role = is_type_id role || is_used_id role

abbrev pub used_ids : Instruction → List ℕ
used_ids i = words_with is_needed i

-- some instruction defines the id
abbrev pub is_defined : List Instruction → (id : ℕ) → Bool
is_defined insts id = list_any (defines id) insts

-- an instruction before the k-th defines the id
abbrev pub is_defined_before : List Instruction → (k id : ℕ) → Bool
is_defined_before insts k id = is_defined (take k insts) id

-- an instruction outside functions of the section of declarations: a type, a constant or a global variable; `begun` says that a function has
-- begun before it
abbrev pub is_declaration : (begun : Bool) → Instruction → Bool
is_declaration begun i = not begun && plain_section false i == section.DECLARATIONS

-- 301 IdTwice: another instruction, before the k-th, defines its id
abbrev pub is_second : List Instruction → (k : ℕ) → Instruction → Bool
is_second insts k i = option_map_or (is_defined_before insts k) (word_with is_defined_id i) false

-- nothing defines the id; or it has to be defined early, and no instruction before the k-th defines it
abbrev pub is_unknown : List Instruction → (early : Bool) (k id : ℕ) → Bool
is_unknown insts early k id = not (is_defined insts id) || (early && not (is_defined_before insts k id))

-- 302 IdUnknown: it names an id that nothing defines; or it is a declaration and names one that no instruction before the k-th defines
abbrev pub names_unknown : List Instruction → (begun : Bool) → (k : ℕ) → Instruction → Bool
names_unknown insts begun k i = list_any (is_unknown insts (is_declaration begun i) k) (used_ids i)

-- the two rules at the k-th instruction; a line mark breaks none
abbrev pub id_rules : List Instruction → (begun : Bool) → (k : ℕ) → Instruction → List ℕ
id_rules insts begun k i = cond (is_line i) [] (unless (not (is_second insts k i)) 301 ++ unless (not (names_unknown insts begun k i)) 302)
