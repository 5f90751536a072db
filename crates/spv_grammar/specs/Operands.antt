-- What part each word of an instruction plays.
use Rattle.std.specs.Prelude.{◌≡◌, ℕ, ◌*◌, ◌/◌, ◌%◌, Bool, ◌==◌, ◌&&◌, ◌||◌, nat_le, nat_lt, if◌then◌else◌, List, [], ◌∷◌, ◌++◌, length, take, drop, Option, Some, None, Result, Ok, Err, cond, replicate}
use Rattle.std.specs.Borrow.{Bor}
use Rattle.std.specs.Option.{option_map, option_and_then}
use Rattle.spv_grammar.specs.declared.kind.Role.{Role}
use Rattle.spv_grammar.specs.declared.kind.Role.TheVariants.{Opcode, TypeId, DefinedId, UsedId, Literal, Octets, UnknownEnumerant, BadOctets}
use Rattle.spv_grammar.specs.declared.kind.Kind.{Kind}
use Rattle.spv_grammar.specs.declared.kind.Kind.TheVariants.{ResultType, ResultId, Id, OptionalId, Ids, IdPairs, Number, SomeNumbers, Numbers, Weights, Cases, Text, OptionalText, SetName, One, MemoryOperands, Decoration, ExtInst}
use Rattle.spv_opcodes.specs.declared.op.TheConstants as op
use Rattle.spv_opcodes.specs.declared.decoration.TheConstants as decoration
use Rattle.spv_grammar.specs.Enumerants.{is_known, is_memory_operands, is_aligned, is_bare_decoration, is_numbered_decoration, is_builtin, ext_operands}
use Rattle.spv_grammar.specs.Table.{Shape, row_of}
use Rattle.spv_grammar.specs.Text.{text_words, is_text, is_set_name}

-- the words that an operand takes in front, by the part that each plays, and the words that it leaves
pub record Taken : Type 0 where
  pub roles : List Role
  pub rest : List ℕ

-- these parts in front of those taken
abbrev pub after : List Role → Taken → Taken
after front t = record { roles = front ++ t.roles; rest = t.rest }

-- no word, one word, or all words
abbrev pub none : List ℕ → Option Taken
none ws = Some (record { roles = []; rest = ws })

abbrev pub one : Role → List ℕ → Option Taken
one role [] = None
one role (w ∷ ws) = Some (record { roles = role ∷ []; rest = ws })

abbrev pub all : Role → List ℕ → Option Taken
all role ws = Some (record { roles = replicate (length ws) role; rest = [] })

-- all words, where the test allows their number
abbrev pub all_if : Bool → List Role → Option Taken
all_if fits roles = cond fits (Some (record { roles = roles; rest = [] })) None

-- an enumerant or a mask, if it is known
abbrev pub mark : Bool → Role
mark known = cond known Literal UnknownEnumerant

-- literal words and ids in turn
abbrev pub in_turn : List ℕ → List Role
in_turn [] = []
in_turn (w ∷ []) = Literal ∷ []
in_turn (w ∷ v ∷ ws) = Literal ∷ UsedId ∷ in_turn ws

-- the string in front
abbrev pub text_by : (List ℕ → Role) → List ℕ → Option Taken
text_by role [] = None
text_by role (w ∷ ws) = let n = text_words (w ∷ ws) in Some (record { roles = replicate n (role (take n (w ∷ ws))); rest = drop n (w ∷ ws) })

abbrev pub text_role : List ℕ → Role
text_role ws = cond (is_text ws) Octets BadOctets

abbrev pub set_name_role : List ℕ → Role
set_name_role ws = cond (is_text ws) (cond (is_set_name ws) Octets UnknownEnumerant) BadOctets

-- a mask of memory operands, with the alignment that it asks for
abbrev pub memory_operands : ℕ → List ℕ → Option Taken
memory_operands mask ws =
    option_map (after (mark (is_memory_operands mask) ∷ [])) (cond (is_aligned mask) (one Literal ws) (none ws))

-- a decoration and what stands behind it; any words behind one that is unknown
abbrev pub builtin : List ℕ → Option Taken
builtin [] = None
builtin (w ∷ ws) = one (mark (is_builtin w)) (w ∷ ws)

abbrev pub decorated : ℕ → List ℕ → Option Taken
decorated d ws =
    if is_bare_decoration d then option_map (after (Literal ∷ [])) (none ws)
    else (if is_numbered_decoration d then option_map (after (Literal ∷ [])) (one Literal ws)
    else (if d == decoration.BUILTIN then option_map (after (Literal ∷ [])) (builtin ws)
    else option_map (after (UnknownEnumerant ∷ [])) (all Literal ws)))

-- the number of an extended instruction and its operands; any ids behind one that is unknown
abbrev pub extended : Option ℕ → List ℕ → Option Taken
extended None ws = option_map (after (UnknownEnumerant ∷ [])) (all UsedId ws)
extended (Some n) ws = option_map (after (Literal ∷ [])) (all_if (length ws == n) (replicate (length ws) UsedId))

-- what an operand takes; None where the words do not fit it
abbrev pub taken : Kind → List ℕ → Option Taken
taken ResultType ws = one TypeId ws
taken ResultId ws = one DefinedId ws
taken Id ws = one UsedId ws
taken OptionalId [] = none []
taken OptionalId (w ∷ ws) = one UsedId (w ∷ ws)
taken (Ids most) ws = all_if (nat_le (length ws) most) (replicate (length ws) UsedId)
taken IdPairs ws = all_if (length ws % 2 == 0) (replicate (length ws) UsedId)
taken Number ws = one Literal ws
taken SomeNumbers ws = all_if (nat_lt 0 (length ws)) (replicate (length ws) Literal)
taken Numbers ws = all Literal ws
taken Weights ws = all_if (length ws == 0 || length ws == 2) (replicate (length ws) Literal)
taken (Cases most) ws = all_if (length ws % 2 == 0 && nat_le (length ws) (2 * most)) (in_turn ws)
taken Text ws = text_by text_role ws
taken OptionalText [] = none []
taken OptionalText (w ∷ ws) = text_by text_role (w ∷ ws)
taken SetName ws = text_by set_name_role ws
taken (One enumerant) [] = None
taken (One enumerant) (w ∷ ws) = one (mark (is_known enumerant w)) (w ∷ ws)
taken MemoryOperands [] = none []
taken MemoryOperands (w ∷ ws) = memory_operands w ws
taken Decoration [] = None
taken Decoration (w ∷ ws) = decorated w ws
taken ExtInst [] = None
taken ExtInst (w ∷ ws) = extended (ext_operands w) ws

-- the parts and the words that an operand left
abbrev pub leaving : List Role → Bor (List ℕ) → Taken
leaving new rest = record { roles = new; rest = rest.now }

-- what reading an operand did: `old` and `new` are the parts read before and after it, `rest` what it left if the words fit
abbrev pub Takes : Option Taken → List Role → List Role → Option (Bor (List ℕ)) → Type 0
Takes expected old new rest = option_map (after old) expected ≡ option_map (leaving new) rest

-- the parts of words by their operands; None where the words do not fit
abbrev pub operand_roles : List Kind → List ℕ → Option (List Role)
operand_roles [] [] = Some []
operand_roles [] (w ∷ ws) = None
operand_roles (kind ∷ kinds) ws = option_and_then (λ t. option_map (λ roles. t.roles ++ roles) (operand_roles kinds t.rest)) (taken kind ws)

-- what reading all operands did: they fit, and their parts were added, or they do not
abbrev pub Fills : Option (List Role) → List Role → List Role → Bool → Type 0
Fills expected old new fits = option_map (λ roles. old ++ roles) expected ≡ cond fits (Some new) None

-- the parts of the words behind the first one: by the row of their opcode, where there is one that they fit, else by rule 106 or 107
abbrev pub fitted : Option (List Role) → Result (List Role) ℕ
fitted None = Err 107
fitted (Some roles) = Ok roles

-- parts in front of those of the words behind
abbrev pub behind : List Role → Result (List Role) ℕ → Result (List Role) ℕ
behind front (Err rule) = Err rule
behind front (Ok roles) = Ok (front ++ roles)

abbrev pub row_roles : Option Shape → List ℕ → Result (List Role) ℕ
row_roles None ws = Err 106
row_roles (Some shape) ws = fitted (operand_roles shape.kinds ws)

-- operands without the result's type and the result, which stand in front
abbrev pub operand_kinds : List Kind → List Kind
operand_kinds (ResultType ∷ ResultId ∷ kinds) = kinds
operand_kinds (ResultId ∷ kinds) = kinds
operand_kinds kinds = kinds

-- in OpSpecConstantOp, an opcode's operands are those without the result; it does not name itself
abbrev pub inner_shape : Shape → Shape
inner_shape shape = record { section = shape.section; kinds = operand_kinds shape.kinds }

abbrev pub inner_roles : ℕ → List ℕ → Result (List Role) ℕ
inner_roles opcode ws = if opcode == op.SPEC_CONSTANT_OP then Err 106 else row_roles (option_map inner_shape (row_of opcode)) ws

abbrev pub spec_constant_roles : List ℕ → Result (List Role) ℕ
spec_constant_roles (t ∷ r ∷ opcode ∷ ws) = behind (TypeId ∷ DefinedId ∷ Literal ∷ []) (inner_roles opcode ws)
spec_constant_roles _ = Err 107

abbrev pub body_roles : ℕ → List ℕ → Result (List Role) ℕ
body_roles opcode ws = if opcode == op.SPEC_CONSTANT_OP then spec_constant_roles ws else row_roles (row_of opcode) ws

-- the parts of an instruction's words
abbrev pub opcode_of : ℕ → ℕ
opcode_of word = word % 65536

abbrev pub count_of : ℕ → ℕ
count_of word = word / 65536

unfoldable pub roles_of : List ℕ → Result (List Role) ℕ
roles_of [] = Err 107
roles_of (w ∷ ws) = behind (Opcode ∷ []) (body_roles (opcode_of w) ws)

-- what reading an instruction did: `old` and `new` are the parts read before and after it, and `broken` is the rule that it breaks
abbrev pub answered : List Role → Option ℕ → Result (List Role) ℕ
answered new None = Ok new
answered new (Some rule) = Err rule

abbrev pub Reads : Result (List Role) ℕ → List Role → List Role → Option ℕ → Type 0
Reads expected old new broken = behind old expected ≡ answered new broken
