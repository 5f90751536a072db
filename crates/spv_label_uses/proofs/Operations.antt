-- What OpSpecConstantOp needs.
use Rattle.std.proofs.Common.{ap, ◌∙◌, ◌≡◌, ℕ, Bool, true, false, cond, ◌==◌, ◌&&◌, nat_eq, List, [], ◌∷◌, length, drop, Option, Some, None, Ok, refl, sym, subst}
use Rattle.std.specs.List.{list_all, slice_index}
use Rattle.std.specs.Map.{lookup}
use Rattle.std.specs.Option.{is_some}
use Rattle.std.proofs.lemmas.Bool.{and_parts}
use Rattle.spv_opcodes.specs.declared.op.TheConstants as op
use Rattle.spv_grammar.specs.declared.kind.Kind.TheVariants.{Id, Numbers}
use Rattle.spv_grammar.specs.declared.kind.Role.{Role}
use Rattle.spv_grammar.specs.declared.kind.Role.TheVariants.{Opcode, TypeId, DefinedId, Literal}
use Rattle.spv_grammar.specs.Operands.{inner_roles, operand_roles}
use Rattle.spv_grammar.specs.Table.{row_of}
use Rattle.spv_module.specs.Instruction.{Instruction, IsInstruction, opcode, roles}
use Rattle.spv_typing.specs.Kinds.{is_vector, is_constant, has_type, component, component_count, type_of}
use Rattle.spv_typing.specs.declared.operations.Form.{Form}
use Rattle.spv_typing.specs.declared.operations.Form.TheVariants.{Ints, Bools, Compares, Selects, Shuffles, Extracts, Inserts}
use Rattle.spv_typing.specs.Operations.{shape, has_shape, count_of, literals_lead, spec_operations, form_of, all_shaped, components_fit, condition_fits, select_fits, is_vector_of, all_pick, components_of, shuffle_fits, extract_fits, insert_fits, operands_fit, form_fits, spec_op_fits}
use Rattle.spv_declarations.proofs.Parts.{used_in, fitted-some, operation-parts}
use Rattle.spv_label_uses.proofs.Covered.{covers}
use Rattle.spv_label_uses.proofs.Free.{same_by, all_1, all_2, all_3, all_cons, all_weaker, is_free, free_kind, free_constant, free_typed, free_shape, free_shaped}
use Rattle.spv_label_uses.proofs.Types.{NeedsFree}
use Rattle.spv_label_uses.proofs.Uses.{used_all}

-- ---- what each pair of a table passes, a pair passes that is found

found_first : {X : Type 0} (p : ℕ → X → Bool) (o : ℕ) (pair : ℕ × X) (others : Option X) (b : Bool) → nat_eq o pair.0 ≡ b → p pair.0 pair.1 ≡ true
    → ((x : X) → others ≡ Some x → p o x ≡ true) → (x : X) → cond b (Some pair.1) others ≡ Some x → p o x ≡ true
found_first p o pair others true e here later x h = ap (λ n. p n x) (same_by o pair.0 e) ∙ subst (λ y. p pair.0 y ≡ true) (cc h) here
found_first p o pair others false e here later x h = later x h

-- induction on the pairs
pub found_pair : {X : Type 0} (p : ℕ → X → Bool) (pairs : List (ℕ × X)) (o : ℕ) → list_all (λ pair. p pair.0 pair.1) pairs ≡ true → (x : X)
    → lookup (nat_eq o) pairs ≡ Some x → p o x ≡ true
found_pair p [] o all x h = absurd (cc h)
found_pair p (pair ∷ pairs) o all x h =
    let both = and_parts (p pair.0 pair.1) (list_all (λ pair. p pair.0 pair.1) pairs) all in
    found_first p o pair (lookup (nat_eq o) pairs) (nat_eq o pair.0) refl both.0 (λ y e. found_pair p pairs o both.1 y e) x h

-- ---- the operation that has literals among its operands, by its form

abbrev is_operation : (o : ℕ) → Form → Bool
is_operation o Shuffles = o == op.VECTOR_SHUFFLE
is_operation o Extracts = o == op.COMPOSITE_EXTRACT
is_operation o Inserts = o == op.COMPOSITE_INSERT
is_operation o form = true

-- ---- the operands

-- the result's type, and what the operands need
pub record AreFree (insts : List Instruction) (t : ℕ) (rs : List Role) (ids : List ℕ) : Type 0 where
  pub type : is_free insts t ≡ true
  pub operands : list_all (is_free insts) (used_in rs ids) ≡ true

components_free : (insts : List Instruction) (n : ℕ) (of_booleans gives_booleans : Bool) (t : ℕ) (rs : List Role) (ids : List ℕ)
    → components_fit insts n of_booleans gives_booleans t ids ≡ true → AreFree insts t rs ids
components_free insts n of_booleans gives_booleans t rs ids h =
    let result : Bool = has_shape gives_booleans (count_of (shape insts t)) (shape insts t) in
    let all : Bool = all_shaped insts of_booleans (count_of (shape insts t)) ids in
    let both = and_parts result all (and_parts (length ids == n) (result && all) h).1 in
    record {
      type = free_shaped insts gives_booleans (count_of (shape insts t)) t both.0;
      operands = used_all (is_free insts) rs ids
          (all_weaker _ (is_free insts) ids
          (λ id k. free_constant insts id (and_parts (is_constant insts id)
          (has_shape of_booleans (count_of (shape insts t)) (shape insts (type_of insts id))) k).0) both.1);
    }

selects_free : (insts : List Instruction) (t c a b : ℕ) (rs : List Role) → select_fits insts t c a b ≡ true → AreFree insts t rs (c ∷ a ∷ b ∷ [])
selects_free insts t c a b rs h =
    let some = and_parts (is_some (shape insts t)) (condition_fits insts (count_of (shape insts t)) c && (has_type insts t a && has_type insts t b)) h in
    let condition = and_parts (condition_fits insts (count_of (shape insts t)) c) (has_type insts t a && has_type insts t b) some.1 in
    let choices = and_parts (has_type insts t a) (has_type insts t b) condition.1 in
    record {
      type = free_shape insts t some.0;
      operands = used_all (is_free insts) rs (c ∷ a ∷ b ∷ [])
          (all_3 (is_free insts) c a b (free_constant insts c (and_parts (is_constant insts c) _ condition.0).0) (free_typed insts t a choices.0)
          (free_typed insts t b choices.1));
    }

is_vector_free : (insts : List Instruction) (x id : ℕ) → is_vector_of insts x id ≡ true → is_free insts id ≡ true
is_vector_free insts x id h = free_constant insts id (and_parts (is_constant insts id) _ h).0

-- the parts of two ids and literals, and of one
two_and_literals : (p : ℕ → Bool) (a b : ℕ) (literals : List ℕ) (rs : List Role) → inner_roles op.VECTOR_SHUFFLE (a ∷ b ∷ literals) ≡ Ok rs → p a ≡ true
    → p b ≡ true
    → list_all p (used_in rs (a ∷ b ∷ literals)) ≡ true
unfolding row_of
two_and_literals p a b literals rs fit h k =
    covers p (Id ∷ Id ∷ Numbers ∷ []) 0 (a ∷ b ∷ literals) (a ∷ b ∷ literals) rs refl
    (fitted-some (operand_roles (Id ∷ Id ∷ Numbers ∷ []) (a ∷ b ∷ literals)) rs fit)
    (all_2 p a b h k)

inserted_and_literals : (p : ℕ → Bool) (a b : ℕ) (literals : List ℕ) (rs : List Role) → inner_roles op.COMPOSITE_INSERT (a ∷ b ∷ literals) ≡ Ok rs
    → p a ≡ true → p b ≡ true
    → list_all p (used_in rs (a ∷ b ∷ literals)) ≡ true
unfolding row_of
inserted_and_literals p a b literals rs fit h k =
    covers p (Id ∷ Id ∷ Numbers ∷ []) 0 (a ∷ b ∷ literals) (a ∷ b ∷ literals) rs refl
    (fitted-some (operand_roles (Id ∷ Id ∷ Numbers ∷ []) (a ∷ b ∷ literals)) rs fit)
    (all_2 p a b h k)

one_and_literals : (p : ℕ → Bool) (a : ℕ) (literals : List ℕ) (rs : List Role) → inner_roles op.COMPOSITE_EXTRACT (a ∷ literals) ≡ Ok rs → p a ≡ true
    → list_all p (used_in rs (a ∷ literals)) ≡ true
unfolding row_of
one_and_literals p a literals rs fit h =
    covers p (Id ∷ Numbers ∷ []) 0 (a ∷ literals) (a ∷ literals) rs refl (fitted-some (operand_roles (Id ∷ Numbers ∷ []) (a ∷ literals)) rs fit) (all_1 p a h)

shuffles_free : (insts : List Instruction) (t a b : ℕ) (literals : List ℕ) (rs : List Role) → inner_roles op.VECTOR_SHUFFLE (a ∷ b ∷ literals) ≡ Ok rs
    → shuffle_fits insts t a b literals ≡ true → AreFree insts t rs (a ∷ b ∷ literals)
shuffles_free insts t a b literals rs fit h =
    let last : Bool = length literals == component_count insts t && all_pick (components_of insts a b) literals in
    let x : ℕ = component insts t in
    let all = and_parts (is_vector insts t) (is_vector_of insts x a && (is_vector_of insts x b && last)) h in
    let first = and_parts (is_vector_of insts x a) (is_vector_of insts x b && last) all.1 in
    let second = and_parts (is_vector_of insts x b) last first.1 in
    record {
      type = free_kind insts t op.TYPE_VECTOR all.0 refl;
      operands = two_and_literals (is_free insts) a b literals rs fit (is_vector_free insts x a first.0) (is_vector_free insts x b second.0);
    }

extracts_free : (insts : List Instruction) (t c : ℕ) (literals : List ℕ) (rs : List Role) → inner_roles op.COMPOSITE_EXTRACT (c ∷ literals) ≡ Ok rs
    → extract_fits insts t c literals ≡ true → AreFree insts t rs (c ∷ literals)
extracts_free insts t c literals rs fit h =
    let some = and_parts (is_some (shape insts t)) (is_constant insts c && literals_lead insts literals (type_of insts c) t) h in
    record {
      type = free_shape insts t some.0;
      operands = one_and_literals (is_free insts) c literals rs fit
          (free_constant insts c (and_parts (is_constant insts c) (literals_lead insts literals (type_of insts c) t) some.1).0);
    }

inserts_free : (insts : List Instruction) (t o c : ℕ) (literals : List ℕ) (rs : List Role) → inner_roles op.COMPOSITE_INSERT (o ∷ c ∷ literals) ≡ Ok rs
    → insert_fits insts t o c literals ≡ true → AreFree insts t rs (o ∷ c ∷ literals)
inserts_free insts t o c literals rs fit h =
    let some = and_parts (is_some (shape insts t)) (is_constant insts o && (has_type insts t c && literals_lead insts literals t (type_of insts o))) h in
    let object = and_parts (is_constant insts o) (has_type insts t c && literals_lead insts literals t (type_of insts o)) some.1 in
    record {
      type = free_shape insts t some.0;
      operands = inserted_and_literals (is_free insts) o c literals rs fit (free_constant insts o object.0)
          (free_typed insts t c (and_parts (has_type insts t c) (literals_lead insts literals t (type_of insts o)) object.1).0);
    }

by_form : (insts : List Instruction) (o t : ℕ) (rs : List Role) (ids : List ℕ) (form : Form) → is_operation o form ≡ true → inner_roles o ids ≡ Ok rs
    → operands_fit insts form t ids ≡ true → AreFree insts t rs ids
by_form insts o t rs ids (Ints n) is fit h = components_free insts n false false t rs ids h
by_form insts o t rs ids (Bools n) is fit h = components_free insts n true true t rs ids h
by_form insts o t rs ids Compares is fit h = components_free insts 2 false true t rs ids h
by_form insts o t rs (c ∷ a ∷ b ∷ []) Selects is fit h = selects_free insts t c a b rs h
by_form insts o t rs (a ∷ b ∷ literals) Shuffles is fit h = shuffles_free insts t a b literals rs
    (subst (λ n. inner_roles n (a ∷ b ∷ literals) ≡ Ok rs) (same_by o op.VECTOR_SHUFFLE is) fit) h
by_form insts o t rs (c ∷ literals) Extracts is fit h = extracts_free insts t c literals rs
    (subst (λ n. inner_roles n (c ∷ literals) ≡ Ok rs) (same_by o op.COMPOSITE_EXTRACT is) fit) h
by_form insts o t rs (a ∷ b ∷ literals) Inserts is fit h = inserts_free insts t a b literals rs
    (subst (λ n. inner_roles n (a ∷ b ∷ literals) ≡ Ok rs) (same_by o op.COMPOSITE_INSERT is) fit) h
by_form insts o t rs [] Selects is fit h = absurd (cc h)
by_form insts o t rs (c ∷ []) Selects is fit h = absurd (cc h)
by_form insts o t rs (c ∷ a ∷ []) Selects is fit h = absurd (cc h)
by_form insts o t rs (c ∷ a ∷ b ∷ d ∷ ids) Selects is fit h = absurd (cc h)
by_form insts o t rs [] Shuffles is fit h = absurd (cc h)
by_form insts o t rs (a ∷ []) Shuffles is fit h = absurd (cc h)
by_form insts o t rs [] Extracts is fit h = absurd (cc h)
by_form insts o t rs [] Inserts is fit h = absurd (cc h)
by_form insts o t rs (a ∷ []) Inserts is fit h = absurd (cc h)

by_operation : (insts : List Instruction) (o t : ℕ) (rs : List Role) (ids : List ℕ) (form : Option Form) → form_of o ≡ form → inner_roles o ids ≡ Ok rs
    → form_fits insts form t ids ≡ true → AreFree insts t rs ids
by_operation insts o t rs ids None e fit h = absurd (cc h)
by_operation insts o t rs ids (Some form) e fit h = by_form insts o t rs ids form (found_pair is_operation spec_operations o refl form e) fit h

pub operation_needs : (insts : List Instruction) (i : Instruction) → IsInstruction i.words (roles i) → opcode i ≡ op.SPEC_CONSTANT_OP
    → spec_op_fits insts i ≡ true
    → NeedsFree insts i
unfolding spec_op_fits
operation_needs insts i whole e h =
    let p = operation-parts i.words (roles i) e whole.parted in
    let fits : form_fits insts (form_of (slice_index i.words 3)) (slice_index i.words 1) (drop 4 i.words) ≡ true = rw e at h in
    let same : form_fits insts (form_of p.operation) p.type p.rest ≡ true = rw p.words_are at fits in
    let free = by_operation insts p.operation p.type p.others p.rest (form_of p.operation) refl p.fit same in
    let words : List ℕ = p.word ∷ p.type ∷ p.result ∷ p.operation ∷ p.rest in
    let all : list_all (is_free insts) (used_in (Opcode ∷ TypeId ∷ DefinedId ∷ Literal ∷ p.others) words) ≡ true =
    all_cons (is_free insts) p.type (used_in p.others p.rest) free.type free.operands in
    subst (λ (ws : List ℕ). list_all (is_free insts) (used_in (roles i) ws) ≡ true) (sym p.words_are)
    (subst (λ (rs : List Role). list_all (is_free insts) (used_in rs words) ≡ true) (sym p.parts_are) all)
