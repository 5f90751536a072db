-- The words of a declaration and the part of each, by the row of its opcode.
use Rattle.std.proofs.Common.{◌≡◌, ℕ, suc, Bool, true, false, ◌==◌, nat_le, List, [], ◌∷◌, ◌++◌, length, drop, map, replicate, Option, Some, None, Result, Ok, Err, refl, sym, ap, subst, ◌∙◌, arith}
use Rattle.std.specs.Option.{option_map, option_and_then}
use Rattle.std.specs.List.{filter, zip, position, slice_get, slice_index}
use Rattle.std.proofs.lemmas.Bool.Decides.{nat_tests}
use Rattle.spv_grammar.specs.declared.kind.Role.{Role}
use Rattle.spv_grammar.specs.declared.kind.Role.TheVariants.{Opcode, TypeId, DefinedId, UsedId, Literal}
use Rattle.spv_grammar.specs.declared.kind.Kind.{Kind}
use Rattle.spv_grammar.specs.declared.kind.Kind.TheVariants.{ResultType, ResultId, Ids}
use Rattle.spv_opcodes.specs.declared.op.TheConstants as op
use Rattle.spv_grammar.specs.Table.{Shape, row_of}
use Rattle.spv_grammar.specs.Operands.{one, all_if, operand_roles, fitted, behind, inner_roles, spec_constant_roles, body_roles, opcode_of, roles_of}
use Rattle.spv_grammar.specs.Roles.{is_defined_id}
use Rattle.spv_module.specs.Instruction.{Instruction, IsInstruction, opcode, roles, word_with}
use Rattle.spv_ids.specs.Ids.{is_needed}
use Rattle.spv_ids.proofs.Places.{position-cons}

-- ---- words with their parts

-- a word behind the others, and its part
pub record Front (role : Role) (kinds : List Kind) (ws : List ℕ) (rs : List Role) : Type 0 where
  pub word : ℕ
  pub rest : List ℕ
  pub others : List Role
  pub words_are : ws ≡ word ∷ rest
  pub parts_are : rs ≡ role ∷ others
  pub fit : operand_roles kinds rest ≡ Some others

-- what stands behind, if there is anything
rest_of : (role : Role) (kinds : List Kind) (w : ℕ) (ws : List ℕ) (behind : Option (List Role)) (rs : List Role) → operand_roles kinds ws ≡ behind →
    option_map (λ roles. role ∷ roles) behind ≡ Some rs → Front role kinds (w ∷ ws) rs
rest_of role kinds w ws None rs e h = cc
rest_of role kinds w ws (Some others) rs e h = record { word = w; rest = ws; others = others; words_are = refl; parts_are = cc; fit = e }

pub one-front : (role : Role) (kinds : List Kind) (ws : List ℕ) (rs : List Role) →
    option_and_then (λ t. option_map (λ roles. t.roles ++ roles) (operand_roles kinds t.rest)) (one role ws) ≡ Some rs → Front role kinds ws rs
one-front role kinds [] rs h = cc
one-front role kinds (w ∷ ws) rs h = rest_of role kinds w ws (operand_roles kinds ws) rs refl h

-- nothing behind
pub nil-words : (ws : List ℕ) (rs : List Role) → operand_roles [] ws ≡ Some rs → (ws ≡ []) × (rs ≡ [])
nil-words [] rs h = (refl, cc)
nil-words (w ∷ ws) rs h = cc

-- ids alone behind
ids_fit : (fits : Bool) (roles : List Role) (rs : List Role) →
    option_and_then (λ t. option_map (λ roles. t.roles ++ roles) (operand_roles [] t.rest)) (all_if fits roles) ≡ Some rs → rs ≡ roles ++ []
ids_fit true roles rs h = cc
ids_fit false roles rs h = cc

append_nil : (rs : List Role) → rs ++ [] ≡ rs
append_nil [] = refl
append_nil (r ∷ rs) = ap (λ (x : List Role). r ∷ x) (append_nil rs)

pub ids-words : (most : ℕ) (ws : List ℕ) (rs : List Role) → operand_roles (Ids most ∷ []) ws ≡ Some rs → rs ≡ replicate (length ws) UsedId
ids-words most ws rs h = ids_fit (nat_le (length ws) most) (replicate (length ws) UsedId) rs h ∙ append_nil (replicate (length ws) UsedId)

-- ---- an instruction whose row is of these operands

pub record Row (o : ℕ) (kinds : List Kind) (words : List ℕ) (roles : List Role) : Type 0 where
  pub word : ℕ
  pub rest : List ℕ
  pub others : List Role
  pub words_are : words ≡ word ∷ rest
  pub parts_are : roles ≡ Opcode ∷ others
  pub fit : operand_roles kinds rest ≡ Some others

pub fitted-some : (found : Option (List Role)) (rs : List Role) → fitted found ≡ Ok rs → found ≡ Some rs
fitted-some None rs h = cc
fitted-some (Some found) rs h = cc

behind-some : (front : List Role) (answer : Result (List Role) ℕ) (rs : List Role) → behind front answer ≡ Ok rs →
    (others : List Role) × (answer ≡ Ok others) × (rs ≡ front ++ others)
behind-some front (Err rule) rs h = cc
behind-some front (Ok others) rs h = (others, refl, cc)

row_body : (o : ℕ) (shape : Shape) (ws : List ℕ) → row_of o ≡ Some shape → (o == op.SPEC_CONSTANT_OP) ≡ false →
    body_roles o ws ≡ fitted (operand_roles shape.kinds ws)
row_body o shape ws row other = rw (other, row) refl

-- the words behind the first one, whose opcode is not OpSpecConstantOp
pub row-words : (o : ℕ) (shape : Shape) (words : List ℕ) (rs : List Role) → row_of o ≡ Some shape → (o == op.SPEC_CONSTANT_OP) ≡ false →
    opcode_of (slice_index words 0) ≡ o → roles_of words ≡ Ok rs → Row o shape.kinds words rs
unfolding roles_of
row-words o shape [] rs row other is_o h = cc
row-words o shape (w ∷ ws) rs row other is_o h =
    let found = behind-some (Opcode ∷ []) (body_roles (opcode_of w) ws) rs h in
    let body : body_roles o ws ≡ Ok found.0 = subst (λ (n : ℕ). body_roles n ws ≡ Ok found.0) is_o found.1 in
    record {
      word = w;
      rest = ws;
      others = found.0;
      words_are = refl;
      parts_are = found.2;
      fit = fitted-some (operand_roles shape.kinds ws) found.0 (sym (row_body o shape ws row other) ∙ body);
    }

-- ---- an instruction that defines an id

-- operands that begin with the result, or with the result's type and the result
abbrev pub first_plain : List Kind → Bool
first_plain (ResultId ∷ kinds) = true
first_plain other = false

abbrev pub first_typed : List Kind → Bool
first_typed (ResultType ∷ ResultId ∷ kinds) = true
first_typed other = false

abbrev pub row_test : (List Kind → Bool) → Option Shape → Bool
row_test test None = false
row_test test (Some shape) = test shape.kinds

pub record HasShape (row : Option Shape) (test : List Kind → Bool) : Type 0 where
  pub shape : Shape
  pub is : row ≡ Some shape
  pub passes : test shape.kinds ≡ true

row_shape : (test : List Kind → Bool) (row : Option Shape) → row_test test row ≡ true → HasShape row test
row_shape test None h = cc
row_shape test (Some shape) h = record { shape = shape; is = refl; passes = h }

first_plain-is : (kinds : List Kind) → first_plain kinds ≡ true → (rest : List Kind) × (kinds ≡ ResultId ∷ rest)
first_plain-is [] h = cc
first_plain-is (ResultId ∷ kinds) h = (kinds, refl)
first_plain-is (other ∷ kinds) h = cc

first_typed-is : (kinds : List Kind) → first_typed kinds ≡ true → (rest : List Kind) × (kinds ≡ ResultType ∷ ResultId ∷ rest)
first_typed-is [] h = cc
first_typed-is (ResultType ∷ []) h = cc
first_typed-is (ResultType ∷ ResultId ∷ kinds) h = (kinds, refl)
first_typed-is other h = cc

-- the words of an instruction with a result, and their parts
pub record PlainWords (words : List ℕ) (rs : List Role) : Type 0 where
  pub word : ℕ
  pub result : ℕ
  pub rest : List ℕ
  pub others : List Role
  pub words_are : words ≡ word ∷ result ∷ rest
  pub parts_are : rs ≡ Opcode ∷ DefinedId ∷ others

-- of one with a typed result
pub record TypedWords (words : List ℕ) (rs : List Role) : Type 0 where
  pub word : ℕ
  pub type : ℕ
  pub result : ℕ
  pub rest : List ℕ
  pub others : List Role
  pub words_are : words ≡ word ∷ type ∷ result ∷ rest
  pub parts_are : rs ≡ Opcode ∷ TypeId ∷ DefinedId ∷ others

-- with what stands behind them
pub record PlainParts (kinds : List Kind) (words : List ℕ) (rs : List Role) : Type 0 where
  pub front : PlainWords words rs
  pub fit : operand_roles kinds front.rest ≡ Some front.others

pub record TypedParts (kinds : List Kind) (words : List ℕ) (rs : List Role) : Type 0 where
  pub front : TypedWords words rs
  pub fit : operand_roles kinds front.rest ≡ Some front.others

pub plain-parts : (o : ℕ) (shape : Shape) (kinds : List Kind) (words : List ℕ) (rs : List Role) →
    row_of o ≡ Some shape → shape.kinds ≡ ResultId ∷ kinds → (o == op.SPEC_CONSTANT_OP) ≡ false → opcode_of (slice_index words 0) ≡ o →
    roles_of words ≡ Ok rs → PlainParts kinds words rs
plain-parts o shape kinds words rs row is other is_o parted =
    let r = row-words o shape words rs row other is_o parted in
    let f = one-front DefinedId kinds r.rest r.others (subst (λ (ks : List Kind). operand_roles ks r.rest ≡ Some r.others) is r.fit) in
    record {
      front = record {
        word = r.word;
        result = f.word;
        rest = f.rest;
        others = f.others;
        words_are = r.words_are ∙ ap (λ (ws : List ℕ). r.word ∷ ws) f.words_are;
        parts_are = r.parts_are ∙ ap (λ (x : List Role). Opcode ∷ x) f.parts_are;
      };
      fit = f.fit;
    }

pub typed-parts : (o : ℕ) (shape : Shape) (kinds : List Kind) (words : List ℕ) (rs : List Role) →
    row_of o ≡ Some shape → shape.kinds ≡ ResultType ∷ ResultId ∷ kinds → (o == op.SPEC_CONSTANT_OP) ≡ false → opcode_of (slice_index words 0) ≡ o →
    roles_of words ≡ Ok rs → TypedParts kinds words rs
typed-parts o shape kinds words rs row is other is_o parted =
    let r = row-words o shape words rs row other is_o parted in
    let f = one-front TypeId (ResultId ∷ kinds) r.rest r.others (subst (λ (ks : List Kind). operand_roles ks r.rest ≡ Some r.others) is r.fit) in
    let g = one-front DefinedId kinds f.rest f.others f.fit in
    record {
      front = record {
        word = r.word;
        type = f.word;
        result = g.word;
        rest = g.rest;
        others = g.others;
        words_are = r.words_are ∙ ap (λ (ws : List ℕ). r.word ∷ ws) (f.words_are ∙ ap (λ (ws : List ℕ). f.word ∷ ws) g.words_are);
        parts_are = r.parts_are ∙ ap (λ (x : List Role). Opcode ∷ x) (f.parts_are ∙ ap (λ (x : List Role). TypeId ∷ x) g.parts_are);
      };
      fit = g.fit;
    }

-- OpSpecConstantOp, behind whose result stands an opcode
pub record OperationParts (words : List ℕ) (rs : List Role) : Type 0 where
  pub word : ℕ
  pub type : ℕ
  pub result : ℕ
  pub operation : ℕ
  pub rest : List ℕ
  pub others : List Role
  pub words_are : words ≡ word ∷ type ∷ result ∷ operation ∷ rest
  pub parts_are : rs ≡ Opcode ∷ TypeId ∷ DefinedId ∷ Literal ∷ others
  pub fit : inner_roles operation rest ≡ Ok others

operation_behind : (w : ℕ) (ws : List ℕ) (rs : List Role) → behind (Opcode ∷ []) (spec_constant_roles ws) ≡ Ok rs → OperationParts (w ∷ ws) rs
operation_behind w [] rs h = cc
operation_behind w (t ∷ []) rs h = cc
operation_behind w (t ∷ r ∷ []) rs h = cc
operation_behind w (t ∷ r ∷ o ∷ ws) rs h =
    let outer = behind-some (Opcode ∷ []) (spec_constant_roles (t ∷ r ∷ o ∷ ws)) rs h in
    let inner = behind-some (TypeId ∷ DefinedId ∷ Literal ∷ []) (inner_roles o ws) outer.0 outer.1 in
    record {
      word = w;
      type = t;
      result = r;
      operation = o;
      rest = ws;
      others = inner.0;
      words_are = refl;
      parts_are = outer.2 ∙ ap (λ (x : List Role). Opcode ∷ x) inner.2;
      fit = inner.1;
    }

pub operation-parts : (words : List ℕ) (rs : List Role) → opcode_of (slice_index words 0) ≡ op.SPEC_CONSTANT_OP → roles_of words ≡ Ok rs →
    OperationParts words rs
unfolding roles_of
operation-parts [] rs is_o h = cc
operation-parts (w ∷ ws) rs is_o h = operation_behind w ws rs (subst (λ (n : ℕ). behind (Opcode ∷ []) (body_roles n ws) ≡ Ok rs) is_o h)

-- ---- the id that it defines, and those that it names

abbrev pub defined_in : List ℕ → List Role → Option ℕ
defined_in words rs = option_and_then (slice_get words) (position is_defined_id rs)

abbrev pub used_in : List Role → List ℕ → List ℕ
used_in rs words = map (λ part. part.1) (filter (λ part. is_needed part.0) (zip rs words))

plain_defined : (w r : ℕ) (ws : List ℕ) (others : List Role) → defined_in (w ∷ r ∷ ws) (Opcode ∷ DefinedId ∷ others) ≡ Some r
plain_defined w r ws others =
    ap (λ (p : Option ℕ). option_and_then (slice_get (w ∷ r ∷ ws)) p)
    (position-cons is_defined_id Opcode (DefinedId ∷ others) ∙ ap (λ (p : Option ℕ). option_map (λ k. suc k) p) (position-cons is_defined_id DefinedId others))

typed_defined : (w t r : ℕ) (ws : List ℕ) (others : List Role) → defined_in (w ∷ t ∷ r ∷ ws) (Opcode ∷ TypeId ∷ DefinedId ∷ others) ≡ Some r
typed_defined w t r ws others =
    ap (λ (p : Option ℕ). option_and_then (slice_get (w ∷ t ∷ r ∷ ws)) p)
    (position-cons is_defined_id Opcode (TypeId ∷ DefinedId ∷ others)
    ∙ ap (λ (p : Option ℕ). option_map (λ k. suc k) p)
    (position-cons is_defined_id TypeId (DefinedId ∷ others) ∙ ap (λ (p : Option ℕ). option_map (λ k. suc k) p) (position-cons is_defined_id DefinedId others)))

plain_words-defined : (words : List ℕ) (rs : List Role) → PlainWords words rs → defined_in words rs ≡ Some (slice_index (drop 1 words) 0)
plain_words-defined words rs p = rw (p.words_are, p.parts_are) (plain_defined p.word p.result p.rest p.others)

typed_words-defined : (words : List ℕ) (rs : List Role) → TypedWords words rs → defined_in words rs ≡ Some (slice_index (drop 1 words) 1)
typed_words-defined words rs p = rw (p.words_are, p.parts_are) (typed_defined p.word p.type p.result p.rest p.others)

pub operation_front : (words : List ℕ) (rs : List Role) → OperationParts words rs → TypedWords words rs
operation_front words rs p = record {
  word = p.word;
  type = p.type;
  result = p.result;
  rest = p.operation ∷ p.rest;
  others = Literal ∷ p.others;
  words_are = p.words_are;
  parts_are = p.parts_are;
}

is_operation : (o : ℕ) → (o == op.SPEC_CONSTANT_OP) ≡ true → o ≡ op.SPEC_CONSTANT_OP
is_operation o h = grind (arith, nat_tests)

typed_front : (o : ℕ) (words : List ℕ) (rs : List Role) (b : Bool) → (o == op.SPEC_CONSTANT_OP) ≡ b → row_test first_typed (row_of o) ≡ true →
    opcode_of (slice_index words 0) ≡ o → roles_of words ≡ Ok rs → TypedWords words rs
typed_front o words rs true special h is_o parted = operation_front words rs (operation-parts words rs (is_o ∙ is_operation o special) parted)
typed_front o words rs false other h is_o parted =
    let s = row_shape first_typed (row_of o) h in
    let kinds = first_typed-is s.shape.kinds s.passes in
    (typed-parts o s.shape kinds.0 words rs s.is kinds.1 other is_o parted).front

no_plain_operation : row_test first_plain (row_of op.SPEC_CONSTANT_OP) ≡ false
unfolding row_of
no_plain_operation = refl

plain_front : (o : ℕ) (words : List ℕ) (rs : List Role) (b : Bool) → (o == op.SPEC_CONSTANT_OP) ≡ b → row_test first_plain (row_of o) ≡ true →
    opcode_of (slice_index words 0) ≡ o → roles_of words ≡ Ok rs → PlainWords words rs
plain_front o words rs true special h is_o parted =
    let none : row_test first_plain (row_of o) ≡ false =
    subst (λ (n : ℕ). row_test first_plain (row_of n) ≡ false) (sym (is_operation o special)) no_plain_operation in
    cc
plain_front o words rs false other h is_o parted =
    let s = row_shape first_plain (row_of o) h in
    let kinds = first_plain-is s.shape.kinds s.passes in
    (plain-parts o s.shape kinds.0 words rs s.is kinds.1 other is_o parted).front

-- the front of one with a typed result
pub typed-words : (i : Instruction) (o : ℕ) → IsInstruction i.words (roles i) → opcode i ≡ o → row_test first_typed (row_of o) ≡ true →
    TypedWords i.words (roles i)
typed-words i o whole is_o h = typed_front o i.words (roles i) (o == op.SPEC_CONSTANT_OP) refl h is_o whole.parted

-- an instruction with a result has its id as its second word, and one with a typed result as its third
pub defined-plain : (i : Instruction) → IsInstruction i.words (roles i) → row_test first_plain (row_of (opcode i)) ≡ true →
    word_with is_defined_id i ≡ Some (slice_index (drop 1 i.words) 0)
defined-plain i whole h =
    plain_words-defined i.words (roles i) (plain_front (opcode i) i.words (roles i) (opcode i == op.SPEC_CONSTANT_OP) refl h refl whole.parted)

pub defined-typed : (i : Instruction) → IsInstruction i.words (roles i) → row_test first_typed (row_of (opcode i)) ≡ true →
    word_with is_defined_id i ≡ Some (slice_index (drop 1 i.words) 1)
defined-typed i whole h =
    typed_words-defined i.words (roles i) (typed_front (opcode i) i.words (roles i) (opcode i == op.SPEC_CONSTANT_OP) refl h refl whole.parted)
