-- The third word of a loose id is the id itself where it is a value, and none where it is not: an OpPhi and an OpCopyObject have their result there, and
-- an OpLabel ends before. So the third word of each id is the same in modules that are alike.
use Rattle.std.proofs.Common.{◌≡◌, ◌⊎◌, inl, inr, ℕ, suc, Bool, true, false, cond, ◌==◌, nat_eq, List, [], ◌∷◌, Option, Some, None, Result, Ok, Err, refl, sym, ap, ap₂, ◌∙◌, true≢false, eqb-true}
use Rattle.std.specs.List.{find, position, slice_get, slice_index}
use Rattle.std.specs.Option.{is_some, option_and_then, option_map, option_map_or}
use Rattle.spv_opcodes.specs.declared.op.TheConstants as op
use Rattle.spv_grammar.specs.declared.kind.Role.{Role}
use Rattle.spv_grammar.specs.declared.kind.Role.TheVariants.{Opcode, TypeId, DefinedId}
use Rattle.spv_grammar.specs.declared.kind.Kind.TheVariants.{ResultType, ResultId, Id, IdPairs}
use Rattle.spv_grammar.specs.Roles.{is_type_id, is_defined_id}
use Rattle.spv_grammar.specs.Table.{in_section, row_of}
use Rattle.spv_grammar.specs.Operands.{behind, body_roles, opcode_of, roles_of}
use Rattle.spv_module.specs.Instruction.{Instruction, opcode, parts, roles, word_with}
use Rattle.spv_ids.specs.Ids.{defines, definition, word_of}
use Rattle.spv_ids.proofs.Places.{position-cons}
use Rattle.spv_declarations.proofs.Parts.{TypedWords, nil-words, plain-parts, typed-parts}
use Rattle.spv_typing.specs.Kinds.{is_one_of}
use Rattle.spv_values.specs.Values.{given_type, value_type}
use Rattle.spv_alike.specs.Alike.{loose_kinds, is_loose, AreAlike}
use Rattle.spv_alike.proofs.Lookups.{loose_cases, same_word}

-- what is found passes the test; induction on the instructions
found_passes : (test : Instruction → Bool) (insts : List Instruction) (i : Instruction) → find test insts ≡ Some i → test i ≡ true
found_passes test [] i h = absurd (cc h)
found_passes test (x ∷ xs) i h = by (test x) refl (found_passes test xs i)
  where
    by : (b : Bool) → test x ≡ b → (find test xs ≡ Some i → test i ≡ true) → test i ≡ true
    by true e rest =
        let same : x ≡ i = cc (ap (λ (b : Bool). cond b (Some x) (find test xs)) (sym e) ∙ h) in
        ap test (sym same) ∙ e
    by false e rest = rest (ap (λ (b : Bool). cond b (Some x) (find test xs)) (sym e) ∙ h)

-- an instruction that defines an id has it as its result
result_of : (i : Instruction) (id : ℕ) → defines id i ≡ true → word_with is_defined_id i ≡ Some id
result_of i id h = by (word_with is_defined_id i) h
  where
    by : (o : Option ℕ) → option_map_or (nat_eq id) o false ≡ true → o ≡ Some id
    by None e = absurd (true≢false (sym e))
    by (Some r) e = ap Some (sym (eqb-true id r e))

-- and its words have their parts
pub record Parted (i : Instruction) : Type 0 where
  pub roles_are : List Role
  pub is : roles_of i.words ≡ Ok roles_are

parted : (i : Instruction) (id : ℕ) → word_with is_defined_id i ≡ Some id → Parted i
parted i id h = by (roles_of i.words) refl
  where
    by : (answer : Result (List Role) ℕ) → roles_of i.words ≡ answer → Parted i
    by (Ok rs) e = record { roles_are = rs; is = e }
    by (Err rule) e =
        let none : option_and_then (slice_get i.words) (position is_defined_id []) ≡ Some id =
        ap (λ (answer : Result (List Role) ℕ). option_and_then (slice_get i.words) (position is_defined_id (parts answer))) (sym e) ∙ h in
        absurd (cc none)

-- ---- an opcode of no instruction

no_roles : (words : List ℕ) (rs : List Role) → opcode_of (slice_index words 0) ≡ 0 → roles_of words ≡ Ok rs → ⊥
unfolding roles_of row_of
no_roles [] rs is_o h = cc
no_roles (w ∷ ws) rs is_o h =
    let none : behind (Opcode ∷ []) (body_roles 0 ws) ≡ Ok rs = ap (λ (o : ℕ). behind (Opcode ∷ []) (body_roles o ws)) (sym is_o) ∙ h in
    cc none

-- ---- what the instruction says in its words

Says : (i : Instruction) (id : ℕ) → Type 0
Says i id = slice_index i.words 2 ≡ cond (is_some (given_type i)) id 0

read : (test : Role → Bool) (i : Instruction) (words : List ℕ) (rs : List Role) → i.words ≡ words → roles i ≡ rs →
    word_with test i ≡ option_and_then (slice_get words) (position test rs)
read test i words rs e f = ap₂ (λ (ws : List ℕ) (r : List Role). option_and_then (slice_get ws) (position test r)) e f

typed_type : (w t r : ℕ) (ws : List ℕ) (others : List Role) →
    option_and_then (slice_get (w ∷ t ∷ r ∷ ws)) (position is_type_id (Opcode ∷ TypeId ∷ DefinedId ∷ others)) ≡ Some t
typed_type w t r ws others =
    ap (λ (p : Option ℕ). option_and_then (slice_get (w ∷ t ∷ r ∷ ws)) p)
    (position-cons is_type_id Opcode (TypeId ∷ DefinedId ∷ others)
    ∙ ap (λ (p : Option ℕ). option_map (λ k. suc k) p) (position-cons is_type_id TypeId (DefinedId ∷ others)))

typed_result : (w t r : ℕ) (ws : List ℕ) (others : List Role) →
    option_and_then (slice_get (w ∷ t ∷ r ∷ ws)) (position is_defined_id (Opcode ∷ TypeId ∷ DefinedId ∷ others)) ≡ Some r
typed_result w t r ws others =
    ap (λ (p : Option ℕ). option_and_then (slice_get (w ∷ t ∷ r ∷ ws)) p)
    (position-cons is_defined_id Opcode (TypeId ∷ DefinedId ∷ others)
    ∙ ap (λ (p : Option ℕ). option_map (λ k. suc k) p)
    (position-cons is_defined_id TypeId (DefinedId ∷ others) ∙ ap (λ (p : Option ℕ). option_map (λ k. suc k) p) (position-cons is_defined_id DefinedId others)))

some_same : (a b : ℕ) (o : Option ℕ) → o ≡ Some a → o ≡ Some b → a ≡ b
some_same a b o e f = cc

-- one with a typed result
typed_says : (i : Instruction) (id o : ℕ) → opcode i ≡ o → (o == op.FUNCTION) ≡ false → word_with is_defined_id i ≡ Some id →
    (p : Parted i) → TypedWords i.words p.roles_are → Says i id
unfolding Says
typed_says i id o is_o other defined p t =
    let rs : roles i ≡ Opcode ∷ TypeId ∷ DefinedId ∷ t.others = ap parts p.is ∙ t.parts_are in
    let type : word_with is_type_id i ≡ Some t.type = read is_type_id i _ _ t.words_are rs ∙ typed_type t.word t.type t.result t.rest t.others in
    let result : word_with is_defined_id i ≡ Some t.result = read is_defined_id i _ _ t.words_are rs ∙ typed_result t.word t.type t.result t.rest t.others in
    let given : given_type i ≡ Some t.type =
    ap (λ (b : Bool). cond b None (word_with is_type_id i)) (ap (λ (n : ℕ). n == op.FUNCTION) is_o ∙ other) ∙ type in
    ap (λ (ws : List ℕ). slice_index ws 2) t.words_are ∙ some_same t.result id (word_with is_defined_id i) result defined
    ∙ sym (ap (λ (g : Option ℕ). cond (is_some g) id 0) given)

-- a label
label_says : (i : Instruction) (id : ℕ) → opcode i ≡ op.LABEL → Parted i → Says i id
unfolding Says row_of
label_says i id is_o p =
    let f = plain-parts op.LABEL (in_section 11 (ResultId ∷ [])) [] i.words p.roles_are refl refl refl is_o p.is in
    let none = nil-words f.front.rest f.front.others f.fit in
    let words : i.words ≡ f.front.word ∷ f.front.result ∷ [] =
    f.front.words_are ∙ ap (λ (ws : List ℕ). f.front.word ∷ f.front.result ∷ ws) none.0 in
    let rs : roles i ≡ Opcode ∷ DefinedId ∷ [] =
    ap parts p.is ∙ f.front.parts_are ∙ ap (λ (r : List Role). Opcode ∷ DefinedId ∷ r) none.1 in
    let type : word_with is_type_id i ≡ None = read is_type_id i _ _ words rs in
    let given : given_type i ≡ None =
    ap (λ (b : Bool). cond b None (word_with is_type_id i)) (ap (λ (n : ℕ). n == op.FUNCTION) is_o) ∙ type in
    ap (λ (ws : List ℕ). slice_index ws 2) words ∙ sym (ap (λ (g : Option ℕ). cond (is_some g) id 0) given)

phi_words : (i : Instruction) → opcode i ≡ op.PHI → (p : Parted i) → TypedWords i.words p.roles_are
unfolding row_of
phi_words i is_o p =
    (typed-parts op.PHI (in_section 11 (ResultType ∷ ResultId ∷ IdPairs ∷ [])) (IdPairs ∷ []) i.words p.roles_are refl refl refl is_o p.is).front

copy_words : (i : Instruction) → opcode i ≡ op.COPY_OBJECT → (p : Parted i) → TypedWords i.words p.roles_are
unfolding row_of
copy_words i is_o p =
    (typed-parts op.COPY_OBJECT (in_section 11 (ResultType ∷ ResultId ∷ Id ∷ [])) (Id ∷ []) i.words p.roles_are refl refl refl is_o p.is).front

loose_says : (i : Instruction) (id : ℕ) → word_with is_defined_id i ≡ Some id → is_one_of loose_kinds (opcode i) ≡ true → Says i id
loose_says i id defined h = by (loose_cases (opcode i) h)
  where
    p : Parted i
    p = parted i id defined

    by : (opcode i ≡ 0) ⊎ ((opcode i ≡ op.LABEL) ⊎ ((opcode i ≡ op.PHI) ⊎ (opcode i ≡ op.COPY_OBJECT))) → Says i id
    by (inl e) = absurd (no_roles i.words p.roles_are e p.is)
    by (inr (inl e)) = label_says i id e p
    by (inr (inr (inl e))) = typed_says i id op.PHI e refl defined p (phi_words i e p)
    by (inr (inr (inr e))) = typed_says i id op.COPY_OBJECT e refl defined p (copy_words i e p)

-- the third word of a loose id
pub loose_second : (insts : List Instruction) (id : ℕ) → is_loose insts id ≡ true → word_of insts id 2 ≡ cond (is_some (value_type insts id)) id 0
unfolding Says
loose_second insts id h = by (definition insts id) refl
  where
    word : Option Instruction → ℕ
    word d = option_map_or (λ i. slice_index i.words 2) d 0

    type : Option Instruction → ℕ
    type d = cond (is_some (option_and_then given_type d)) id 0

    by : (d : Option Instruction) → definition insts id ≡ d → word (definition insts id) ≡ type (definition insts id)
    by None e = ap word e ∙ sym (ap type e)
    by (Some i) e =
        let loose : is_one_of loose_kinds (opcode i) ≡ true = ap (λ (d : Option Instruction). is_one_of loose_kinds (option_map_or opcode d 0)) (sym e) ∙ h in
        ap word e ∙ loose_says i id (result_of i id (found_passes (defines id) insts i e)) loose ∙ sym (ap type e)

module _ (before after : List Instruction) (alike : AreAlike before after) where
  pub same_second : (id : ℕ) → word_of after id 2 ≡ word_of before id 2
  same_second id = by (is_loose before id) refl
    where
      by : (b : Bool) → is_loose before id ≡ b → word_of after id 2 ≡ word_of before id 2
      by false firm = ap (λ (w : ℕ → ℕ). w 2) (same_word before after alike id firm)
      by true h =
          loose_second after id (alike.loose id h)
          ∙ ap (λ (o : Option ℕ). cond (is_some o) id 0) (alike.values id)
          ∙ sym (loose_second before id h)
