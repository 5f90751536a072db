-- The third word of an id that is a value and not firm is the id itself: each row that has a result's type begins with it and the result. So the third
-- word of each id that stays is the same.
use Rattle.std.proofs.Common.{◌≡◌, ℕ, suc, Bool, true, false, cond, not, ◌==◌, ◌&&◌, ◌||◌, nat_eq, List, [], ◌∷◌, Option, Some, None, Result, Ok, Err, refl, sym, ap, ap₂, ◌∙◌, true≢false, eqb-true}
use Rattle.std.specs.List.{find, list_all, list_any, position, slice_get, slice_index}
use Rattle.std.specs.Option.{is_some, option_and_then, option_map, option_map_or, option_or}
use Rattle.spv_opcodes.specs.declared.op.TheConstants as op
use Rattle.spv_grammar.specs.declared.kind.Role.{Role}
use Rattle.spv_grammar.specs.declared.kind.Role.TheVariants.{Opcode, TypeId, DefinedId}
use Rattle.spv_grammar.specs.declared.kind.Kind.{Kind}
use Rattle.spv_grammar.specs.declared.kind.Kind.TheVariants.{ResultType, ResultId}
use Rattle.spv_grammar.specs.Fronts.{is_result_type, row_has}
use Rattle.spv_grammar.specs.Operands.{roles_of}
use Rattle.spv_grammar.specs.Roles.{is_type_id, is_defined_id}
use Rattle.spv_grammar.specs.Table.{Shape, row_at, row_of, module_rows, type_rows, flow_rows, memory_rows, value_rows, pair_rows}
use Rattle.spv_grammar.proofs.FrontParts.{typed_where_row_has_result_type}
use Rattle.spv_module.specs.Instruction.{Instruction, opcode, parts, roles, word_with}
use Rattle.spv_ids.specs.Ids.{defines, definition, word_of}
use Rattle.spv_ids.proofs.Places.{any-position, position-cons}
use Rattle.spv_declarations.proofs.Parts.{TypedWords, first_typed, row_test, typed-parts}
use Rattle.spv_typing.specs.Kinds.{is_one_of}
use Rattle.spv_values.specs.Values.{given_type, value_type}
use Rattle.spv_alike.proofs.Lookups.{and_left, and_right}
use Rattle.spv_alike_uses.specs.Alike.{firm_kinds, is_firm}
use Rattle.spv_alike_uses.proofs.Used.{Tested, tested}
use Rattle.spv_alike_uses.proofs.Lookups.{Case, In, same_word}

-- ---- rows that have a result's type

abbrev is_fronted : Option Shape → Bool
is_fronted None = true
is_fronted (Some shape) = not (list_any is_result_type shape.kinds) || first_typed shape.kinds

fronted_or : (a b : Option Shape) → is_fronted a ≡ true → is_fronted b ≡ true → is_fronted (option_or a b) ≡ true
fronted_or None b h k = k
fronted_or (Some s) b h k = h

-- induction on the rows
fronted_at : (rows : List (ℕ × Shape)) → list_all (λ row. is_fronted (Some row.1)) rows ≡ true → (o : ℕ) → is_fronted (row_at rows o) ≡ true
fronted_at [] h o = refl
fronted_at (row ∷ rows) h o =
    by (o == row.0) (and_left (is_fronted (Some row.1)) _ h) (fronted_at rows (and_right (is_fronted (Some row.1)) _ h) o)
  where
    by : (b : Bool) → is_fronted (Some row.1) ≡ true → is_fronted (row_at rows o) ≡ true → is_fronted (cond b (Some row.1) (row_at rows o)) ≡ true
    by true here rest = here
    by false here rest = rest

fronted_row : (o : ℕ) → is_fronted (row_of o) ≡ true
unfolding row_of
fronted_row o =
    fronted_or (row_at module_rows o) _ (fronted_at module_rows refl o)
    (fronted_or (row_at type_rows o) _ (fronted_at type_rows refl o)
    (fronted_or (row_at flow_rows o) _ (fronted_at flow_rows refl o)
    (fronted_or (row_at memory_rows o) _ (fronted_at memory_rows refl o)
    (fronted_or (row_at value_rows o) (row_at pair_rows o) (fronted_at value_rows refl o) (fronted_at pair_rows refl o)))))

typed_first : (row : Option Shape) → is_fronted row ≡ true → row_has is_result_type row ≡ true → row_test first_typed row ≡ true
typed_first None h k = absurd (true≢false (sym k))
typed_first (Some shape) h k = sym (ap (λ (b : Bool). not b || first_typed shape.kinds) k) ∙ h

first_is : (kinds : List Kind) → first_typed kinds ≡ true → (rest : List Kind) × (kinds ≡ ResultType ∷ ResultId ∷ rest)
first_is [] h = absurd (cc h)
first_is (ResultType ∷ []) h = absurd (cc h)
first_is (ResultType ∷ ResultId ∷ kinds) h = (kinds, refl)
first_is other h = absurd (cc h)

-- ---- an instruction

-- what is found passes the test; induction on the instructions
found_passes : (test : Instruction → Bool) (insts : List Instruction) (i : Instruction) → find test insts ≡ Some i → test i ≡ true
found_passes test [] i h = absurd (cc h)
found_passes test (x ∷ xs) i h = by (test x) refl (found_passes test xs i)
  where
    by : (b : Bool) → test x ≡ b → (find test xs ≡ Some i → test i ≡ true) → test i ≡ true
    by true e rest =
        let same : x ≡ i = cc (ap (λ (b : Bool). cond b (Some x) (find test xs)) (sym e) ∙ h) in
        ap test (sym same) ∙ e
    by false e rest = rest (ap (λ (b : Bool). cond b (Some x) (find test xs)) (sym e) ∙ h)

-- an instruction that defines an id has it as its result
result_of : (i : Instruction) (id : ℕ) → defines id i ≡ true → word_with is_defined_id i ≡ Some id
result_of i id h = by (word_with is_defined_id i) h
  where
    by : (o : Option ℕ) → option_map_or (nat_eq id) o false ≡ true → o ≡ Some id
    by None e = absurd (true≢false (sym e))
    by (Some r) e = ap Some (sym (eqb-true id r e))

-- a word with a part: the parts of the words, and such a part
place_some : (words : List ℕ) (place : Option ℕ) (w : ℕ) → option_and_then (slice_get words) place ≡ Some w → is_some place ≡ true
place_some words None w h = absurd (cc h)
place_some words (Some p) w h = refl

record Parted (i : Instruction) : Type 0 where
  is : roles_of i.words ≡ Ok (roles i)

parted : (i : Instruction) (id : ℕ) → word_with is_defined_id i ≡ Some id → Parted i
parted i id h = by (roles_of i.words) refl
  where
    by : (answer : Result (List Role) ℕ) → roles_of i.words ≡ answer → Parted i
    by (Ok rs) e = record { is = e ∙ ap Ok (sym (ap parts e)) }
    by (Err rule) e =
        let none : option_and_then (slice_get i.words) (position is_defined_id []) ≡ Some id =
        ap (λ (answer : Result (List Role) ℕ). option_and_then (slice_get i.words) (position is_defined_id (parts answer))) (sym e) ∙ h in
        absurd (cc none)

given_some : (b : Bool) (o : Option ℕ) (u : ℕ) → cond b None o ≡ Some u → o ≡ Some u
given_some true o u h = absurd (cc h)
given_some false o u h = h

typed_result : (w t r : ℕ) (ws : List ℕ) (others : List Role) →
    option_and_then (slice_get (w ∷ t ∷ r ∷ ws)) (position is_defined_id (Opcode ∷ TypeId ∷ DefinedId ∷ others)) ≡ Some r
typed_result w t r ws others =
    ap (λ (p : Option ℕ). option_and_then (slice_get (w ∷ t ∷ r ∷ ws)) p)
    (position-cons is_defined_id Opcode (TypeId ∷ DefinedId ∷ others)
    ∙ ap (λ (p : Option ℕ). option_map (λ k. suc k) p)
    (position-cons is_defined_id TypeId (DefinedId ∷ others) ∙ ap (λ (p : Option ℕ). option_map (λ k. suc k) p) (position-cons is_defined_id DefinedId others)))

some_same : (a b : ℕ) (o : Option ℕ) → o ≡ Some a → o ≡ Some b → a ≡ b
some_same a b o e f = cc

typed_third : (i : Instruction) (id u : ℕ) → word_with is_defined_id i ≡ Some id → given_type i ≡ Some u → (opcode i == op.SPEC_CONSTANT_OP) ≡ false
    → slice_index i.words 2 ≡ id
typed_third i id u defined given other =
    let p : Parted i = parted i id defined in
    let type : word_with is_type_id i ≡ Some u = given_some (opcode i == op.FUNCTION) (word_with is_type_id i) u given in
    let any : list_any is_type_id (roles i) ≡ true = any-position is_type_id (roles i) ∙ place_some i.words (position is_type_id (roles i)) u type in
    let has : row_has is_result_type (row_of (opcode i)) ≡ true = sym (typed_where_row_has_result_type (opcode i) i.words (roles i) refl p.is) ∙ any in
    let typed : row_test first_typed (row_of (opcode i)) ≡ true = typed_first (row_of (opcode i)) (fronted_row (opcode i)) has in
    let t : Tested (opcode i) first_typed =
    tested (opcode i) first_typed (ap (λ (b : Bool). not b && row_test first_typed (row_of (opcode i))) other ∙ typed) in
    let kinds = first_is t.shape.kinds t.passes in
    let f : TypedWords i.words (roles i) = (typed-parts (opcode i) t.shape kinds.0 i.words (roles i) t.is kinds.1 t.other refl p.is).front in
    let result : word_with is_defined_id i ≡ Some f.result =
    ap₂ (λ (ws : List ℕ) (rs : List Role). option_and_then (slice_get ws) (position is_defined_id rs)) f.words_are f.parts_are
    ∙ typed_result f.word f.type f.result f.rest f.others in
    ap (λ (ws : List ℕ). slice_index ws 2) f.words_are ∙ some_same f.result id (word_with is_defined_id i) result defined

-- ---- an id that is not firm

loose_other : (k : ℕ) → is_one_of firm_kinds k ≡ false → (k == op.SPEC_CONSTANT_OP) ≡ false
loose_other k loose = by (k == op.SPEC_CONSTANT_OP) refl
  where
    by : (b : Bool) → (k == op.SPEC_CONSTANT_OP) ≡ b → (k == op.SPEC_CONSTANT_OP) ≡ false
    by false e = e
    by true e = absurd (true≢false (sym (ap (is_one_of firm_kinds) (eqb-true k op.SPEC_CONSTANT_OP e)) ∙ loose))

loose_third : (insts : List Instruction) (id u : ℕ) → is_firm insts id ≡ false → value_type insts id ≡ Some u → word_of insts id 2 ≡ id
loose_third insts id u loose h = by (definition insts id) refl
  where
    by : (d : Option Instruction) → definition insts id ≡ d → word_of insts id 2 ≡ id
    by None e = absurd (cc (ap (option_and_then given_type) (sym e) ∙ h))
    by (Some i) e =
        ap (λ (d : Option Instruction). option_map_or (λ i. slice_index i.words 2) d 0) e
        ∙ typed_third i id u (result_of i id (found_passes (defines id) insts i e)) (ap (option_and_then given_type) (sym e) ∙ h)
        (loose_other (opcode i) (ap (λ (d : Option Instruction). is_one_of firm_kinds (option_map_or opcode d 0)) (sym e) ∙ loose))

module _ (c : Case) where
  pub same_third : (id : ℕ) → In c id → word_of c.after id 2 ≡ word_of c.before id 2
  same_third id g = by (is_firm c.before id) (value_type c.before id) refl refl
    where
      by : (b : Bool) (o : Option ℕ) → is_firm c.before id ≡ b → value_type c.before id ≡ o → word_of c.after id 2 ≡ word_of c.before id 2
      by true o firm e = ap (λ (w : ℕ → ℕ). w 2) (same_word c id g firm)
      by false None loose e = c.alike.thirds id g loose e
      by false (Some u) loose e =
          loose_third c.after id u (c.alike.loose id g loose) (c.alike.values id g ∙ e) ∙ sym (loose_third c.before id u loose e)
