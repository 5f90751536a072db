-- Each word of an instruction has one part.
use Rattle.std.proofs.Common.{◌≡◌, ℕ, suc, ◌+◌, ◌*◌, ◌%◌, ◌<◌, ◌≤◌, Bool, true, false, cond, ◌==◌, ◌&&◌, ◌||◌, nat_le, nat_lt, List, [], ◌∷◌, ◌++◌, length, take, replicate, Option, Some, None, Result, Ok, Err, refl, ap, subst, arith}
use Rattle.std.specs.Option.{option_map, option_and_then}
use Rattle.std.proofs.lemmas.List.{length-append, length-replicate, length-drop}
use Rattle.std.proofs.lemmas.List.Quantifiers.{position-Some}
use Rattle.std.specs.List.{position}
use Rattle.std.specs.Option.{unwrap_or}
use Rattle.spv_grammar.specs.declared.kind.Role.{Role}
use Rattle.spv_grammar.specs.declared.kind.Role.TheVariants.{Opcode, TypeId, DefinedId, UsedId, Literal, UnknownEnumerant}
use Rattle.spv_grammar.specs.declared.kind.Kind.{Kind}
use Rattle.spv_grammar.specs.declared.kind.Kind.TheVariants.{ResultType, ResultId, Id, OptionalId, Ids, IdPairs, Number, SomeNumbers, Numbers, Weights, Cases, Text, OptionalText, SetName, One, MemoryOperands, Decoration, ExtInst}
use Rattle.spv_opcodes.specs.declared.op.TheConstants as op
use Rattle.spv_opcodes.specs.declared.decoration.TheConstants as decoration
use Rattle.spv_grammar.specs.Enumerants.{is_known, is_memory_operands, is_aligned, is_bare_decoration, is_numbered_decoration, is_builtin, ext_operands}
use Rattle.spv_grammar.specs.Table.{Shape, row_of}
use Rattle.spv_grammar.specs.Text.{text_words, has_zero_octet}
use Rattle.spv_grammar.specs.Operands.{Taken, none, one, all, all_if, after, mark, in_turn, text_by, text_role, set_name_role, memory_operands, builtin, decorated, extended, taken, operand_roles, fitted, behind, row_roles, inner_shape, inner_roles, spec_constant_roles, body_roles, opcode_of, roles_of}

-- the parts taken and the words left are n
abbrev Counts : Option Taken → ℕ → Type 0
Counts None n = Unit {0}
Counts (Some t) n = length t.roles + length t.rest ≡ n

one-counts : (role : Role) (ws : List ℕ) → Counts (one role ws) (length ws)
one-counts role [] = tt
one-counts role (w ∷ ws) = omega arith

none-counts : (ws : List ℕ) → Counts (none ws) (length ws)
none-counts ws = omega arith

all-counts : (role : Role) (ws : List ℕ) → Counts (all role ws) (length ws)
all-counts role ws = omega (arith, length-replicate (length ws) role)

all_if-counts : (fits : Bool) (roles : List Role) (n : ℕ) → length roles ≡ n → Counts (all_if fits roles) n
all_if-counts true roles n e = omega (arith, e)
all_if-counts false roles n e = tt

times-counts : (fits : Bool) (role : Role) (ws : List ℕ) → Counts (all_if fits (replicate (length ws) role)) (length ws)
times-counts fits role ws = all_if-counts fits (replicate (length ws) role) (length ws) (length-replicate (length ws) role)

after-counts : (t : Option Taken) (role : Role) (n : ℕ) → Counts t n → Counts (option_map (after (role ∷ [])) t) (suc n)
after-counts None role n e = tt
after-counts (Some t) role n e = omega (arith, e)

cond-counts : (b : Bool) (t u : Option Taken) (n : ℕ) → Counts t n → Counts u n → Counts (cond b t u) n
cond-counts true t u n h k = h
cond-counts false t u n h k = k

length-in_turn : (ws : List ℕ) → length (in_turn ws) ≡ length ws
length-in_turn [] = refl
length-in_turn (w ∷ []) = refl
length-in_turn (w ∷ v ∷ ws) = ap (λ n. suc (suc n)) (length-in_turn ws)

suc_within : (place : Option ℕ) (ws : List ℕ) → ((i : ℕ) → place ≡ Some i → i < length ws) → unwrap_or (option_map suc place) (length ws) ≤ length ws
suc_within None ws h = omega arith
suc_within (Some i) ws h = omega (arith, h i refl)

text_words-within : (ws : List ℕ) → text_words ws ≤ length ws
text_words-within ws = suc_within (position has_zero_octet ws) ws (λ i e. (position-Some has_zero_octet ws i 0 e).0)

text-counts : (role : List ℕ → Role) (ws : List ℕ) → Counts (text_by role ws) (length ws)
text-counts role [] = tt
text-counts role (w ∷ ws) =
    let n = text_words (w ∷ ws) in
    omega (arith, length-replicate n (role (take n (w ∷ ws))), length-drop n (w ∷ ws), text_words-within (w ∷ ws))

memory-counts : (mask : ℕ) (ws : List ℕ) → Counts (memory_operands mask ws) (suc (length ws))
memory-counts mask ws =
    after-counts (cond (is_aligned mask) (one Literal ws) (none ws)) (mark (is_memory_operands mask)) (length ws)
    (cond-counts (is_aligned mask) (one Literal ws) (none ws) (length ws) (one-counts Literal ws) (none-counts ws))

builtin-counts : (ws : List ℕ) → Counts (builtin ws) (length ws)
builtin-counts [] = tt
builtin-counts (w ∷ ws) = one-counts (mark (is_builtin w)) (w ∷ ws)

decorated-counts : (d : ℕ) (ws : List ℕ) → Counts (decorated d ws) (suc (length ws))
decorated-counts d ws =
    let n = suc (length ws) in
    let bare = after-counts (none ws) Literal (length ws) (none-counts ws) in
    let numbered = after-counts (one Literal ws) Literal (length ws) (one-counts Literal ws) in
    let built_in = after-counts (builtin ws) Literal (length ws) (builtin-counts ws) in
    let unknown = after-counts (all Literal ws) UnknownEnumerant (length ws) (all-counts Literal ws) in
    cond-counts (is_bare_decoration d) _ _ n bare (cond-counts (is_numbered_decoration d) _ _ n numbered (cond-counts (d == decoration.BUILTIN) _ _ n built_in unknown))

extended-counts : (n : Option ℕ) (ws : List ℕ) → Counts (extended n ws) (suc (length ws))
extended-counts None ws = after-counts (all UsedId ws) UnknownEnumerant (length ws) (all-counts UsedId ws)
extended-counts (Some n) ws = after-counts (all_if (length ws == n) (replicate (length ws) UsedId)) Literal (length ws) (times-counts (length ws == n) UsedId ws)

-- an operand takes as many words as it has parts
taken-counts : (kind : Kind) (ws : List ℕ) → Counts (taken kind ws) (length ws)
taken-counts ResultType ws = one-counts TypeId ws
taken-counts ResultId ws = one-counts DefinedId ws
taken-counts Id ws = one-counts UsedId ws
taken-counts OptionalId [] = none-counts []
taken-counts OptionalId (w ∷ ws) = one-counts UsedId (w ∷ ws)
taken-counts (Ids most) ws = times-counts (nat_le (length ws) most) UsedId ws
taken-counts IdPairs ws = times-counts (length ws % 2 == 0) UsedId ws
taken-counts Number ws = one-counts Literal ws
taken-counts SomeNumbers ws = times-counts (nat_lt 0 (length ws)) Literal ws
taken-counts Numbers ws = all-counts Literal ws
taken-counts Weights ws = times-counts (length ws == 0 || length ws == 2) Literal ws
taken-counts (Cases most) ws = all_if-counts (length ws % 2 == 0 && nat_le (length ws) (2 * most)) (in_turn ws) (length ws) (length-in_turn ws)
taken-counts Text ws = text-counts text_role ws
taken-counts OptionalText [] = none-counts []
taken-counts OptionalText (w ∷ ws) = text-counts text_role (w ∷ ws)
taken-counts SetName ws = text-counts set_name_role ws
taken-counts (One enumerant) [] = tt
taken-counts (One enumerant) (w ∷ ws) = one-counts (mark (is_known enumerant w)) (w ∷ ws)
taken-counts MemoryOperands [] = none-counts []
taken-counts MemoryOperands (w ∷ ws) = memory-counts w ws
taken-counts Decoration [] = tt
taken-counts Decoration (w ∷ ws) = decorated-counts w ws
taken-counts ExtInst [] = tt
taken-counts ExtInst (w ∷ ws) = extended-counts (ext_operands w) ws

-- all parts, if there are any, are n
abbrev LengthIs : Option (List Role) → ℕ → Type 0
LengthIs None n = Unit {0}
LengthIs (Some roles) n = length roles ≡ n

in_front : (front : List Role) (behind : Option (List Role)) (m : ℕ) → LengthIs behind m → LengthIs (option_map (λ roles. front ++ roles) behind) (length front + m)
in_front front None m h = tt
in_front front (Some roles) m h = omega (arith, h, length-append front roles)

first_operand : (t : Option Taken) (kinds : List Kind) (n : ℕ) → Counts t n → ((ws : List ℕ) → LengthIs (operand_roles kinds ws) (length ws)) →
    LengthIs (option_and_then (λ t. option_map (λ roles. t.roles ++ roles) (operand_roles kinds t.rest)) t) n
first_operand None kinds n h others = tt
first_operand (Some t) kinds n h others = subst (LengthIs (option_map (λ roles. t.roles ++ roles) (operand_roles kinds t.rest))) h (in_front t.roles (operand_roles kinds t.rest) (length t.rest) (others t.rest))

-- induction on the operands
operand_roles-length : (kinds : List Kind) (ws : List ℕ) → LengthIs (operand_roles kinds ws) (length ws)
operand_roles-length [] [] = refl
operand_roles-length [] (w ∷ ws) = tt
operand_roles-length (kind ∷ kinds) ws = first_operand (taken kind ws) kinds (length ws) (taken-counts kind ws) (operand_roles-length kinds)

abbrev AnswerIs : Result (List Role) ℕ → ℕ → Type 0
AnswerIs (Err rule) n = Unit {0}
AnswerIs (Ok roles) n = length roles ≡ n

fitted-length : (roles : Option (List Role)) (n : ℕ) → LengthIs roles n → AnswerIs (fitted roles) n
fitted-length None n h = tt
fitted-length (Some roles) n h = h

behind-length : (front : List Role) (answer : Result (List Role) ℕ) (m n : ℕ) → length front + m ≡ n → AnswerIs answer m → AnswerIs (behind front answer) n
behind-length front (Err rule) m n e h = tt
behind-length front (Ok roles) m n e h = omega (arith, e, h, length-append front roles)

row-length : (row : Option Shape) (ws : List ℕ) → AnswerIs (row_roles row ws) (length ws)
row-length None ws = tt
row-length (Some shape) ws = fitted-length (operand_roles shape.kinds ws) (length ws) (operand_roles-length shape.kinds ws)

cond-length : (b : Bool) (x y : Result (List Role) ℕ) (n : ℕ) → AnswerIs x n → AnswerIs y n → AnswerIs (cond b x y) n
cond-length true x y n h k = h
cond-length false x y n h k = k

spec_constant-length : (ws : List ℕ) → AnswerIs (spec_constant_roles ws) (length ws)
spec_constant-length [] = tt
spec_constant-length (t ∷ []) = tt
spec_constant-length (t ∷ r ∷ []) = tt
spec_constant-length (t ∷ r ∷ o ∷ ws) =
    behind-length (TypeId ∷ DefinedId ∷ Literal ∷ []) (inner_roles o ws) (length ws) (length (t ∷ r ∷ o ∷ ws)) (omega arith)
    (cond-length (o == op.SPEC_CONSTANT_OP) (Err 106) (row_roles (option_map inner_shape (row_of o)) ws) (length ws) tt (row-length (option_map inner_shape (row_of o)) ws))

body-length : (o : ℕ) (ws : List ℕ) → AnswerIs (body_roles o ws) (length ws)
body-length o ws = cond-length (o == op.SPEC_CONSTANT_OP) (spec_constant_roles ws) (row_roles (row_of o) ws) (length ws) (spec_constant-length ws) (row-length (row_of o) ws)

roles_of-counts : (ws : List ℕ) → AnswerIs (roles_of ws) (length ws)
unfolding roles_of
roles_of-counts [] = tt
roles_of-counts (w ∷ ws) = behind-length (Opcode ∷ []) (body_roles (opcode_of w) ws) (length ws) (length (w ∷ ws)) (omega arith) (body-length (opcode_of w) ws)

-- each word of an instruction has one part
pub length-roles_of : (ws : List ℕ) (roles : List Role) → roles_of ws ≡ Ok roles → length roles ≡ length ws
length-roles_of ws roles e = subst (λ answer. AnswerIs answer (length ws)) e (roles_of-counts ws)
