-- The ids that are values, and the types of these. A value is what an instruction with a result type gives: a constant, a variable, a parameter or
-- the result of an instruction in a function. A function is none, though OpFunction names a type.
use Rattle.std.specs.Option.{option_and_then, option_map_or}
use Rattle.std.specs.Prelude.{ℕ, Bool, true, false, cond, nat_eq, is_some, List, Option, Some, None}
use Rattle.spv_module.specs.Code.{is_function}
use Rattle.spv_module.specs.Instruction.{Instruction, word_with}
use Rattle.spv_grammar.specs.Roles.{is_type_id}
use Rattle.spv_ids.specs.Ids.{definition}
use Rattle.spv_typing.specs.Kinds.{is_pointer}
use Rattle.spv_typing.specs.declared.shapes.Shape.{Shape}
use Rattle.spv_typing.specs.Operations.{shape, has_shape}

-- the type of the value that an instruction gives, if it gives one
abbrev pub given_type : Instruction → Option ℕ
given_type i = cond (is_function i) None (word_with is_type_id i)

-- the type of a value; none where the id is no value
abbrev pub value_type : List Instruction → (id : ℕ) → Option ℕ
value_type insts id = option_and_then given_type (definition insts id)

-- what a value has component by component; none where it is no scalar and no vector
abbrev pub value_shape : List Instruction → (id : ℕ) → Option Shape
value_shape insts id = option_and_then (shape insts) (value_type insts id)

abbrev pub is_value : List Instruction → (id : ℕ) → Bool
is_value insts id = is_some (value_type insts id)

-- a value of a type
abbrev pub is_value_of : List Instruction → (t id : ℕ) → Bool
is_value_of insts t id = option_map_or (nat_eq t) (value_type insts id) false

-- Int(c): an integer, where c is 1, or a vector of c integers
abbrev pub is_ints : List Instruction → (count id : ℕ) → Bool
is_ints insts count id = has_shape false count (value_shape insts id)

-- Bool(c): a boolean, where c is 1, or a vector of c booleans
abbrev pub is_bools : List Instruction → (count id : ℕ) → Bool
is_bools insts count id = has_shape true count (value_shape insts id)

-- the type of a pointer; none where the id is no pointer
abbrev pub as_pointer : List Instruction → (t : ℕ) → Option ℕ
as_pointer insts t = cond (is_pointer insts t) (Some t) None

abbrev pub pointer_type : List Instruction → (id : ℕ) → Option ℕ
pointer_type insts id = option_and_then (as_pointer insts) (value_type insts id)

-- a value that is a pointer
abbrev pub is_pointer_value : List Instruction → (id : ℕ) → Bool
is_pointer_value insts id = is_some (pointer_type insts id)
