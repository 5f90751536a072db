-- The result's type and the result stand in front of the operands, where the row of the opcode has them.
use Rattle.std.proofs.Common.{◌≡◌, ℕ, zero, suc, ◌+◌, ◌*◌, ◌%◌, Bool, true, false, cond, not, ◌==◌, ◌&&◌, ◌||◌, nat_le, nat_lt, List, [], ◌∷◌, ◌++◌, length, take, drop, get_or, replicate, Option, Some, None, Result, Ok, Err, refl, sym, ap, subst, ◌∙◌, arith}
use Rattle.std.specs.Option.{option_map, option_and_then, option_or}
use Rattle.std.specs.List.{list_any, list_all, prefix_len}
use Rattle.std.proofs.lemmas.List.Folds.{list_any-append, length-prefix_len}
use Rattle.std.proofs.lemmas.Bool.{and_parts, not-true, or_parts}
use Rattle.std.proofs.lemmas.Bool.Decides.{nat_tests}
use Rattle.std.proofs.Math.Bool.{or-false}
use Rattle.spv_grammar.specs.declared.kind.Role.{Role}
use Rattle.spv_grammar.specs.declared.kind.Role.TheVariants.{Opcode, TypeId, DefinedId, UsedId, Literal, Octets, UnknownEnumerant, BadOctets}
use Rattle.spv_grammar.specs.declared.kind.Kind.{Kind}
use Rattle.spv_grammar.specs.declared.kind.Kind.TheVariants.{ResultType, ResultId, Id, OptionalId, Ids, IdPairs, Number, SomeNumbers, Numbers, Weights, Cases, Text, OptionalText, SetName, One, MemoryOperands, Decoration, ExtInst}
use Rattle.spv_opcodes.specs.declared.op.TheConstants as op
use Rattle.spv_opcodes.specs.declared.decoration.TheConstants as decoration
use Rattle.spv_grammar.specs.Enumerants.{is_known, is_memory_operands, is_aligned, is_bare_decoration, is_numbered_decoration, is_builtin, ext_operands}
use Rattle.spv_grammar.specs.Table.{Shape, row_at, row_of, module_rows, type_rows, flow_rows, memory_rows, value_rows, pair_rows}
use Rattle.spv_grammar.specs.Text.{text_words, is_text, is_set_name}
use Rattle.spv_grammar.specs.Operands.{Taken, none, one, all, all_if, after, mark, in_turn, text_by, text_role, set_name_role, memory_operands, builtin, decorated, extended, taken, operand_roles, fitted, behind, row_roles, operand_kinds, inner_shape, inner_roles, spec_constant_roles, body_roles, opcode_of, roles_of}
use Rattle.spv_grammar.specs.Roles.{is_type_id, is_defined_id, is_front}
use Rattle.spv_grammar.specs.Fronts.{is_result, is_result_type, row_has, has_result, has_result_type, front_count, IsAloneInFront}

-- a test of parts that fails at those of operands
pub record FailsBehind (p : Role → Bool) : Type 0 where
  pub used : p UsedId ≡ false
  pub literal : p Literal ≡ false
  pub octets : p Octets ≡ false
  pub unknown : p UnknownEnumerant ≡ false
  pub bad : p BadOctets ≡ false

-- a part that passes the test is among those that an operand takes, or not
abbrev Passes : (Role → Bool) → Bool → Option Taken → Type 0
Passes p b None = Unit {0}
Passes p b (Some t) = list_any p t.roles ≡ b

one-passes : (p : Role → Bool) (b : Bool) (role : Role) (ws : List ℕ) → p role ≡ b → Passes p b (one role ws)
one-passes p b role [] h = tt
one-passes p b role (w ∷ ws) h = or-false (p role) ∙ h

list_any-replicate : (p : Role → Bool) (role : Role) (n : ℕ) → p role ≡ false → list_any p (replicate n role) ≡ false
list_any-replicate p role zero h = refl
list_any-replicate p role (suc n) h = rw h (list_any-replicate p role n h)

all-passes : (p : Role → Bool) (role : Role) (ws : List ℕ) → p role ≡ false → Passes p false (all role ws)
all-passes p role ws h = list_any-replicate p role (length ws) h

all_if-passes : (p : Role → Bool) (fits : Bool) (roles : List Role) → list_any p roles ≡ false → Passes p false (all_if fits roles)
all_if-passes p true roles h = h
all_if-passes p false roles h = tt

times-passes : (p : Role → Bool) (fits : Bool) (role : Role) (n : ℕ) → p role ≡ false → Passes p false (all_if fits (replicate n role))
times-passes p fits role n h = all_if-passes p fits (replicate n role) (list_any-replicate p role n h)

after-passes : (p : Role → Bool) (role : Role) (t : Option Taken) → p role ≡ false → Passes p false t → Passes p false (option_map (after (role ∷ [])) t)
after-passes p role None h k = tt
after-passes p role (Some t) h k = rw h k

cond-passes : (p : Role → Bool) (b : Bool) (t u : Option Taken) → Passes p false t → Passes p false u → Passes p false (cond b t u)
cond-passes p true t u h k = h
cond-passes p false t u h k = k

cond-fails : (p : Role → Bool) (b : Bool) (role other : Role) → p role ≡ false → p other ≡ false → p (cond b role other) ≡ false
cond-fails p true role other h k = h
cond-fails p false role other h k = k

mark-fails : (p : Role → Bool) (b : Bool) → FailsBehind p → p (mark b) ≡ false
mark-fails p b fails = cond-fails p b Literal UnknownEnumerant fails.literal fails.unknown

in_turn-passes : (p : Role → Bool) (ws : List ℕ) → FailsBehind p → list_any p (in_turn ws) ≡ false
in_turn-passes p [] fails = refl
in_turn-passes p (w ∷ []) fails = rw fails.literal refl
in_turn-passes p (w ∷ v ∷ ws) fails = rw (fails.literal, fails.used) (in_turn-passes p ws fails)

text_role-fails : (p : Role → Bool) → FailsBehind p → (ws : List ℕ) → p (text_role ws) ≡ false
text_role-fails p fails ws = cond-fails p (is_text ws) Octets BadOctets fails.octets fails.bad

set_name_role-fails : (p : Role → Bool) → FailsBehind p → (ws : List ℕ) → p (set_name_role ws) ≡ false
set_name_role-fails p fails ws =
    cond-fails p (is_text ws) (cond (is_set_name ws) Octets UnknownEnumerant) BadOctets (cond-fails p (is_set_name ws) Octets UnknownEnumerant fails.octets fails.unknown) fails.bad

text-passes : (p : Role → Bool) (role : List ℕ → Role) (ws : List ℕ) → ((text : List ℕ) → p (role text) ≡ false) → Passes p false (text_by role ws)
text-passes p role [] h = tt
text-passes p role (w ∷ ws) h = let n = text_words (w ∷ ws) in list_any-replicate p (role (take n (w ∷ ws))) n (h (take n (w ∷ ws)))

memory-passes : (p : Role → Bool) (mask : ℕ) (ws : List ℕ) → FailsBehind p → Passes p false (memory_operands mask ws)
memory-passes p mask ws fails =
    after-passes p (mark (is_memory_operands mask)) (cond (is_aligned mask) (one Literal ws) (none ws)) (mark-fails p (is_memory_operands mask) fails)
    (cond-passes p (is_aligned mask) (one Literal ws) (none ws) (one-passes p false Literal ws fails.literal) refl)

builtin-passes : (p : Role → Bool) (ws : List ℕ) → FailsBehind p → Passes p false (builtin ws)
builtin-passes p [] fails = tt
builtin-passes p (w ∷ ws) fails = one-passes p false (mark (is_builtin w)) (w ∷ ws) (mark-fails p (is_builtin w) fails)

decorated-passes : (p : Role → Bool) (d : ℕ) (ws : List ℕ) → FailsBehind p → Passes p false (decorated d ws)
decorated-passes p d ws fails =
    let bare = after-passes p Literal (none ws) fails.literal refl in
    let numbered = after-passes p Literal (one Literal ws) fails.literal (one-passes p false Literal ws fails.literal) in
    let built_in = after-passes p Literal (builtin ws) fails.literal (builtin-passes p ws fails) in
    let unknown = after-passes p UnknownEnumerant (all Literal ws) fails.unknown (all-passes p Literal ws fails.literal) in
    cond-passes p (is_bare_decoration d) _ _ bare (cond-passes p (is_numbered_decoration d) _ _ numbered (cond-passes p (d == decoration.BUILTIN) _ _ built_in unknown))

extended-passes : (p : Role → Bool) (n : Option ℕ) (ws : List ℕ) → FailsBehind p → Passes p false (extended n ws)
extended-passes p None ws fails = after-passes p UnknownEnumerant (all UsedId ws) fails.unknown (all-passes p UsedId ws fails.used)
extended-passes p (Some n) ws fails =
    after-passes p Literal (all_if (length ws == n) (replicate (length ws) UsedId)) fails.literal (times-passes p (length ws == n) UsedId (length ws) fails.used)

-- which operands take a part that passes the test: the result's type and the result, if any
abbrev gives : (Role → Bool) → Kind → Bool
gives p ResultType = p TypeId
gives p ResultId = p DefinedId
gives p _ = false

taken-passes : (p : Role → Bool) → FailsBehind p → (kind : Kind) (ws : List ℕ) → Passes p (gives p kind) (taken kind ws)
taken-passes p fails ResultType ws = one-passes p (p TypeId) TypeId ws refl
taken-passes p fails ResultId ws = one-passes p (p DefinedId) DefinedId ws refl
taken-passes p fails Id ws = one-passes p false UsedId ws fails.used
taken-passes p fails OptionalId [] = refl
taken-passes p fails OptionalId (w ∷ ws) = one-passes p false UsedId (w ∷ ws) fails.used
taken-passes p fails (Ids most) ws = times-passes p (nat_le (length ws) most) UsedId (length ws) fails.used
taken-passes p fails IdPairs ws = times-passes p (length ws % 2 == 0) UsedId (length ws) fails.used
taken-passes p fails Number ws = one-passes p false Literal ws fails.literal
taken-passes p fails SomeNumbers ws = times-passes p (nat_lt 0 (length ws)) Literal (length ws) fails.literal
taken-passes p fails Numbers ws = all-passes p Literal ws fails.literal
taken-passes p fails Weights ws = times-passes p (length ws == 0 || length ws == 2) Literal (length ws) fails.literal
taken-passes p fails (Cases most) ws = all_if-passes p (length ws % 2 == 0 && nat_le (length ws) (2 * most)) (in_turn ws) (in_turn-passes p ws fails)
taken-passes p fails Text ws = text-passes p text_role ws (text_role-fails p fails)
taken-passes p fails OptionalText [] = refl
taken-passes p fails OptionalText (w ∷ ws) = text-passes p text_role (w ∷ ws) (text_role-fails p fails)
taken-passes p fails SetName ws = text-passes p set_name_role ws (set_name_role-fails p fails)
taken-passes p fails (One enumerant) [] = tt
taken-passes p fails (One enumerant) (w ∷ ws) = one-passes p false (mark (is_known enumerant w)) (w ∷ ws) (mark-fails p (is_known enumerant w) fails)
taken-passes p fails MemoryOperands [] = refl
taken-passes p fails MemoryOperands (w ∷ ws) = memory-passes p w ws fails
taken-passes p fails Decoration [] = tt
taken-passes p fails Decoration (w ∷ ws) = decorated-passes p w ws fails
taken-passes p fails ExtInst [] = tt
taken-passes p fails ExtInst (w ∷ ws) = extended-passes p (ext_operands w) ws fails

-- the same of all parts, if the words fit
abbrev AllPass : (Role → Bool) → Bool → Option (List Role) → Type 0
AllPass p b None = Unit {0}
AllPass p b (Some roles) = list_any p roles ≡ b

joined-passes : (p : Role → Bool) (front : List Role) (a b : Bool) (others : Option (List Role)) → list_any p front ≡ a → AllPass p b others → AllPass p (a || b) (option_map (λ roles. front ++ roles) others)
joined-passes p front a b None h k = tt
joined-passes p front a b (Some roles) h k = list_any-append p front roles ∙ rw (h, k) refl

first-passes : (p : Role → Bool) (kinds : List Kind) (a b : Bool) (t : Option Taken) → Passes p a t → ((ws : List ℕ) → AllPass p b (operand_roles kinds ws)) →
    AllPass p (a || b) (option_and_then (λ t. option_map (λ roles. t.roles ++ roles) (operand_roles kinds t.rest)) t)
first-passes p kinds a b None h others = tt
first-passes p kinds a b (Some t) h others = joined-passes p t.roles a b (operand_roles kinds t.rest) h (others t.rest)

-- induction on the operands
operand_roles-passes : (p : Role → Bool) → FailsBehind p → (kinds : List Kind) (ws : List ℕ) → AllPass p (list_any (gives p) kinds) (operand_roles kinds ws)
operand_roles-passes p fails [] [] = refl
operand_roles-passes p fails [] (w ∷ ws) = tt
operand_roles-passes p fails (kind ∷ kinds) ws =
    first-passes p kinds (gives p kind) (list_any (gives p) kinds) (taken kind ws) (taken-passes p fails kind ws) (operand_roles-passes p fails kinds)

-- the same of the parts of an instruction, if its words fit
abbrev AnswerPasses : (Role → Bool) → Bool → Result (List Role) ℕ → Type 0
AnswerPasses p b (Err rule) = Unit {0}
AnswerPasses p b (Ok roles) = list_any p roles ≡ b

fitted-passes : (p : Role → Bool) (b : Bool) (roles : Option (List Role)) → AllPass p b roles → AnswerPasses p b (fitted roles)
fitted-passes p b None h = tt
fitted-passes p b (Some roles) h = h

row-passes : (p : Role → Bool) → FailsBehind p → (row : Option Shape) (ws : List ℕ) → AnswerPasses p (row_has (gives p) row) (row_roles row ws)
row-passes p fails None ws = tt
row-passes p fails (Some shape) ws = fitted-passes p (list_any (gives p) shape.kinds) (operand_roles shape.kinds ws) (operand_roles-passes p fails shape.kinds ws)

cond-answers : (p : Role → Bool) (b has : Bool) (x y : Result (List Role) ℕ) → (b ≡ true → has ≡ true) → AnswerPasses p true x → AnswerPasses p has y → AnswerPasses p has (cond b x y)
cond-answers p true has x y e h k = subst (λ b. AnswerPasses p b x) (sym (e refl)) h
cond-answers p false has x y e h k = k

behind-passes : (p : Role → Bool) (b : Bool) (front : List Role) (answer : Result (List Role) ℕ) → ((roles : List Role) → answer ≡ Ok roles → list_any p (front ++ roles) ≡ b) → AnswerPasses p b (behind front answer)
behind-passes p b front (Err rule) h = tt
behind-passes p b front (Ok roles) h = h roles refl

one_of_three : (a b c d : Bool) → (a || b) ≡ true → (a || (b || (c || d))) ≡ true
one_of_three true b c d h = refl
one_of_three false true c d h = refl
one_of_three false false c d h = cc

spec_constant-passes : (p : Role → Bool) → (p TypeId || p DefinedId) ≡ true → (ws : List ℕ) → AnswerPasses p true (spec_constant_roles ws)
spec_constant-passes p h [] = tt
spec_constant-passes p h (t ∷ []) = tt
spec_constant-passes p h (t ∷ r ∷ []) = tt
spec_constant-passes p h (t ∷ r ∷ o ∷ ws) =
    behind-passes p true (TypeId ∷ DefinedId ∷ Literal ∷ []) (inner_roles o ws) (λ roles e. one_of_three (p TypeId) (p DefinedId) (p Literal) (list_any p roles) h)

named_itself : (o : ℕ) → (o == op.SPEC_CONSTANT_OP) ≡ true → o ≡ op.SPEC_CONSTANT_OP
named_itself o h = grind (arith, nat_tests)

spec_constant-row : (p : Role → Bool) → (p TypeId || p DefinedId) ≡ true → row_has (gives p) (row_of op.SPEC_CONSTANT_OP) ≡ true
unfolding row_of
spec_constant-row p h = one_of_three (p TypeId) (p DefinedId) false false h

body-passes : (p : Role → Bool) → FailsBehind p → (p TypeId || p DefinedId) ≡ true → (o : ℕ) (ws : List ℕ) → AnswerPasses p (row_has (gives p) (row_of o)) (body_roles o ws)
body-passes p fails h o ws =
    cond-answers p (o == op.SPEC_CONSTANT_OP) (row_has (gives p) (row_of o)) (spec_constant_roles ws) (row_roles (row_of o) ws)
    (λ e. subst (λ o. row_has (gives p) (row_of o) ≡ true) (sym (named_itself o e)) (spec_constant-row p h))
    (spec_constant-passes p h ws) (row-passes p fails (row_of o) ws)

-- a test of the result's type or the result passes at a part of an instruction exactly if the row has it
roles_of-passes : (p : Role → Bool) → FailsBehind p → p Opcode ≡ false → (p TypeId || p DefinedId) ≡ true → (ws : List ℕ) (roles : List Role) → roles_of ws ≡ Ok roles →
    list_any p roles ≡ row_has (gives p) (row_of (opcode_of (get_or ws 0 0)))
unfolding roles_of
roles_of-passes p fails first h [] roles e = cc
roles_of-passes p fails first h (w ∷ ws) roles e =
    let o = opcode_of w in
    let whole = behind-passes p (row_has (gives p) (row_of o)) (Opcode ∷ []) (body_roles o ws)
    (λ roles k. rw first (subst (AnswerPasses p (row_has (gives p) (row_of o))) k (body-passes p fails h o ws))) in
    subst (AnswerPasses p (row_has (gives p) (row_of o))) e whole

row_has-same : (f g : Kind → Bool) → ((kind : Kind) → f kind ≡ g kind) → (row : Option Shape) → row_has f row ≡ row_has g row
row_has-same f g same None = refl
row_has-same f g same (Some shape) = list_any-same shape.kinds
  where
    list_any-same : (kinds : List Kind) → list_any f kinds ≡ list_any g kinds
    list_any-same [] = refl
    list_any-same (kind ∷ kinds) = rw (same kind, list_any-same kinds) refl

-- the two tests of a part, as tests of the operand that takes it
defined-fails : FailsBehind is_defined_id
defined-fails = record { used = refl; literal = refl; octets = refl; unknown = refl; bad = refl }

typed-fails : FailsBehind is_type_id
typed-fails = record { used = refl; literal = refl; octets = refl; unknown = refl; bad = refl }

front-fails : FailsBehind is_front
front-fails = record { used = refl; literal = refl; octets = refl; unknown = refl; bad = refl }

gives-result : (kind : Kind) → gives is_defined_id kind ≡ is_result kind
gives-result ResultType = refl
gives-result ResultId = refl
gives-result kind = refl

gives-result_type : (kind : Kind) → gives is_type_id kind ≡ is_result_type kind
gives-result_type ResultType = refl
gives-result_type ResultId = refl
gives-result_type kind = refl

-- an instruction has a result exactly if the row of its opcode has
pub defined_where_row_has_result : (opcode : ℕ) (words : List ℕ) (roles : List Role) → opcode_of (get_or words 0 0) ≡ opcode → roles_of words ≡ Ok roles → list_any is_defined_id roles ≡ has_result opcode
defined_where_row_has_result opcode words roles o e =
    roles_of-passes is_defined_id defined-fails refl refl words roles e
    ∙ (row_has-same (gives is_defined_id) is_result gives-result (row_of (opcode_of (get_or words 0 0))) ∙ ap has_result o)

-- and a result's type likewise
pub typed_where_row_has_result_type : (opcode : ℕ) (words : List ℕ) (roles : List Role) → opcode_of (get_or words 0 0) ≡ opcode → roles_of words ≡ Ok roles → list_any is_type_id roles ≡ has_result_type opcode
typed_where_row_has_result_type opcode words roles o e =
    roles_of-passes is_type_id typed-fails refl refl words roles e
    ∙ (row_has-same (gives is_type_id) is_result_type gives-result_type (row_of (opcode_of (get_or words 0 0))) ∙ ap has_result_type o)

-- no part in front of the operands stands behind the first one that is not
abbrev pub Alone : List Role → Type 0
Alone roles = list_any is_front (drop (prefix_len is_front roles) roles) ≡ false

alone-none : (roles : List Role) → list_any is_front roles ≡ false → Alone roles
alone-none [] h = refl
alone-none (role ∷ roles) h = let fails = (or_parts (is_front role) (list_any is_front roles) h).0 in rw fails h

alone-front : (role : Role) (roles : List Role) → is_front role ≡ true → Alone roles → Alone (role ∷ roles)
alone-front role roles h k =
    let e : 1 + prefix_len is_front roles ≡ suc (prefix_len is_front roles) = omega arith in
    rw (h, e) k

-- the same of all parts, if the words fit
abbrev AllAlone : Option (List Role) → Type 0
AllAlone None = Unit {0}
AllAlone (Some roles) = Alone roles

some-alone : (roles : Option (List Role)) → AllPass is_front false roles → AllAlone roles
some-alone None h = tt
some-alone (Some roles) h = alone-none roles h

behind_one-alone : (role : Role) (others : Option (List Role)) → is_front role ≡ true → AllAlone others → AllAlone (option_map (λ roles. (role ∷ []) ++ roles) others)
behind_one-alone role None h k = tt
behind_one-alone role (Some roles) h k = alone-front role roles h k

operand-alone : (role : Role) (kinds : List Kind) → is_front role ≡ true → ((ws : List ℕ) → AllAlone (operand_roles kinds ws)) → (ws : List ℕ) →
    AllAlone (option_and_then (λ t. option_map (λ roles. t.roles ++ roles) (operand_roles kinds t.rest)) (one role ws))
operand-alone role kinds h others [] = tt
operand-alone role kinds h others (w ∷ ws) = behind_one-alone role (operand_roles kinds ws) h (others ws)

operands-alone : (kinds : List Kind) → list_any (gives is_front) kinds ≡ false → (ws : List ℕ) → AllAlone (operand_roles kinds ws)
operands-alone kinds h ws = some-alone (operand_roles kinds ws) (subst (λ b. AllPass is_front b (operand_roles kinds ws)) h (operand_roles-passes is_front front-fails kinds ws))

-- what a row has behind the result's type and the result is neither
abbrev in_order : List Kind → Bool
in_order kinds = not (list_any (gives is_front) (operand_kinds kinds))

kinds-alone : (kinds : List Kind) → in_order kinds ≡ true → (ws : List ℕ) → AllAlone (operand_roles kinds ws)
kinds-alone (ResultType ∷ ResultId ∷ kinds) h ws =
    operand-alone TypeId (ResultId ∷ kinds) refl (operand-alone DefinedId kinds refl (operands-alone kinds (not-true (list_any (gives is_front) kinds) h))) ws
kinds-alone (ResultId ∷ kinds) h ws = operand-alone DefinedId kinds refl (operands-alone kinds (not-true (list_any (gives is_front) kinds) h)) ws
kinds-alone kinds h ws = operands-alone kinds (not-true (list_any (gives is_front) kinds) h) ws

-- a row that an opcode has passes a test that all rows pass
abbrev Holds : (Shape → Bool) → Option Shape → Type 0
Holds test None = Unit {0}
Holds test (Some shape) = test shape ≡ true

cond-holds : (test : Shape → Bool) (b : Bool) (x y : Option Shape) → Holds test x → Holds test y → Holds test (cond b x y)
cond-holds test true x y h k = h
cond-holds test false x y h k = k

or-holds : (test : Shape → Bool) (x y : Option Shape) → Holds test x → Holds test y → Holds test (option_or x y)
or-holds test None y h k = k
or-holds test (Some shape) y h k = h

row_at-holds : (test : Shape → Bool) (rows : List (ℕ × Shape)) (opcode : ℕ) → list_all (λ row. test row.1) rows ≡ true → Holds test (row_at rows opcode)
row_at-holds test [] opcode h = tt
row_at-holds test (row ∷ rows) opcode h =
    let both = and_parts (test row.1) (list_all (λ row. test row.1) rows) h in
    cond-holds test (opcode == row.0) (Some row.1) (row_at rows opcode) both.0 (row_at-holds test rows opcode both.1)

abbrev shape_in_order : Shape → Bool
shape_in_order shape = in_order shape.kinds

-- by computing over the rows
row_of-in_order : (opcode : ℕ) → Holds shape_in_order (row_of opcode)
unfolding row_of
row_of-in_order opcode =
    let test = shape_in_order in
    or-holds test (row_at module_rows opcode) _ (row_at-holds test module_rows opcode refl)
    (or-holds test (row_at type_rows opcode) _ (row_at-holds test type_rows opcode refl)
    (or-holds test (row_at flow_rows opcode) _ (row_at-holds test flow_rows opcode refl)
    (or-holds test (row_at memory_rows opcode) _ (row_at-holds test memory_rows opcode refl)
    (or-holds test (row_at value_rows opcode) (row_at pair_rows opcode) (row_at-holds test value_rows opcode refl) (row_at-holds test pair_rows opcode refl)))))

-- the same of the parts of an instruction, if its words fit
abbrev AnswerAlone : Result (List Role) ℕ → Type 0
AnswerAlone (Err rule) = Unit {0}
AnswerAlone (Ok roles) = Alone roles

fitted-alone : (roles : Option (List Role)) → AllAlone roles → AnswerAlone (fitted roles)
fitted-alone None h = tt
fitted-alone (Some roles) h = h

row-alone : (row : Option Shape) → Holds shape_in_order row → (ws : List ℕ) → AnswerAlone (row_roles row ws)
row-alone None h ws = tt
row-alone (Some shape) h ws = fitted-alone (operand_roles shape.kinds ws) (kinds-alone shape.kinds h ws)

inner_row-passes : (row : Option Shape) → Holds shape_in_order row → (ws : List ℕ) → AnswerPasses is_front false (row_roles (option_map inner_shape row) ws)
inner_row-passes None h ws = tt
inner_row-passes (Some shape) h ws =
    subst (λ b. AnswerPasses is_front b (row_roles (Some (inner_shape shape)) ws)) (not-true (list_any (gives is_front) (operand_kinds shape.kinds)) h)
    (row-passes is_front front-fails (Some (inner_shape shape)) ws)

either : (P : Result (List Role) ℕ → Type 0) (b : Bool) (x y : Result (List Role) ℕ) → P x → P y → P (cond b x y)
either P true x y h k = h
either P false x y h k = k

inner-passes : (o : ℕ) (ws : List ℕ) → AnswerPasses is_front false (inner_roles o ws)
inner-passes o ws =
    either (AnswerPasses is_front false) (o == op.SPEC_CONSTANT_OP) (Err 106) (row_roles (option_map inner_shape (row_of o)) ws) tt (inner_row-passes (row_of o) (row_of-in_order o) ws)

behind-alone : (front : List Role) (answer : Result (List Role) ℕ) → ((roles : List Role) → answer ≡ Ok roles → Alone (front ++ roles)) → AnswerAlone (behind front answer)
behind-alone front (Err rule) h = tt
behind-alone front (Ok roles) h = h roles refl

spec_constant-alone : (ws : List ℕ) → AnswerAlone (spec_constant_roles ws)
spec_constant-alone [] = tt
spec_constant-alone (t ∷ []) = tt
spec_constant-alone (t ∷ r ∷ []) = tt
spec_constant-alone (t ∷ r ∷ o ∷ ws) =
    behind-alone (TypeId ∷ DefinedId ∷ Literal ∷ []) (inner_roles o ws) (λ roles e.
    alone-front TypeId (DefinedId ∷ Literal ∷ roles) refl (alone-front DefinedId (Literal ∷ roles) refl
    (alone-none (Literal ∷ roles) (subst (AnswerPasses is_front false) e (inner-passes o ws)))))

body-alone : (o : ℕ) (ws : List ℕ) → AnswerAlone (body_roles o ws)
body-alone o ws = either AnswerAlone (o == op.SPEC_CONSTANT_OP) (spec_constant_roles ws) (row_roles (row_of o) ws) (spec_constant-alone ws) (row-alone (row_of o) (row_of-in_order o) ws)

roles_of-alone : (ws : List ℕ) → AnswerAlone (roles_of ws)
unfolding roles_of
roles_of-alone [] = tt
roles_of-alone (w ∷ ws) =
    behind-alone (Opcode ∷ []) (body_roles (opcode_of w) ws) (λ roles e. alone-front Opcode roles refl (subst AnswerAlone e (body-alone (opcode_of w) ws)))

-- in the parts of an instruction, those in front of the operands stand there alone
pub front_alone : (n : ℕ) (roles : List Role) → n ≡ front_count roles → IsAloneInFront n roles
front_alone n roles count words e =
    let at : n ≡ prefix_len is_front roles = count ∙ length-prefix_len is_front roles in
    rw at (subst AnswerAlone e (roles_of-alone words))
