-- Every other id has the same meaning in both modules, and every other type the same form.
use Rattle.std.proofs.Common.{◌≡◌, ℕ, Bool, true, false, cond, nat_lt, ◌==◌, ◌&&◌, ◌||◌, List, [], ◌∷◌, length, drop, nat_eq, Option, Some, None, refl, sym, ap, ap₂, subst, ◌∙◌, true≢false, eqb-true}
use Rattle.std.specs.List.{AllByRecursion, list_all, slice_index}
use Rattle.std.specs.Option.{option_and_then, option_map, option_map_or}
use Rattle.spv_opcodes.specs.declared.op.TheConstants as op
use Rattle.spv_grammar.specs.Table.{row_of}
use Rattle.spv_module.specs.Instruction.{Instruction, opcode}
use Rattle.spv_meaning.specs.Constants.{Table, meaning}
use Rattle.spv_meaning.specs.Meanings.{constant_words}
use Rattle.spv_ids.specs.Ids.{definition, kind, word_of}
use Rattle.spv_typing.specs.Kinds.{constants, is_constant, is_one_of, is_outside, type_of}
use Rattle.spv_declarations.specs.Declarations.{declare_all, declared_before, nothing_declared, says}
use Rattle.spv_declarations.specs.Laws.{meanings}
use Rattle.spv_declarations.proofs.Parts.{defined-plain, first_plain, first_typed, row_test, typed-words}
use Rattle.spv_declarations.proofs.Sites.{index-on}
use Rattle.spv_declarations.proofs.Whole.{declared-whole, take_all}
use Rattle.spv_types.specs.Lookup.{kind_in, known_word, word_in}
use Rattle.spv_composites.specs.Forms as form
use Rattle.spv_composites.specs.Forms.{Form, FormTable, NoPart, Part, Parts, form_at, form_of, forms, forms_behind, parts_behind, plain_types, with_form}
use Rattle.spv_composites.specs.Lengths.{is_signed, known_length, some_length}
use Rattle.spv_alike_uses.proofs.Lookups.{each, where_true}
use Rattle.spv_alike_uses.proofs.Used.{end_uses, used_word, used_words, word_uses}
use Rattle.spv_added.specs.Added.{starts_function}
use Rattle.spv_added.proofs.Walk.{Adding, FactOf, In, along, inst}
use Rattle.spv_added.proofs.Declaring.{Agrees, declared_adds, declared_keeps, none_yet, SameDeclared}
use Rattle.spv_added.proofs.Definitions.{old_definition, same_word}
use Rattle.spv_added.proofs.Lists.{lookup_both, lookup_other}
use Rattle.spv_added.proofs.Places.{first_type}

constant_kinds : (a b d : Bool) → (a || (b && d)) ≡ true → (b || a) ≡ true
constant_kinds a true d h = refl
constant_kinds true false d h = refl
constant_kinds false false d h = h

are_typed : list_all (λ o. row_test first_typed (row_of o)) (op.UNDEF ∷ constants) ≡ true
unfolding row_of
are_typed = refl

array_uses : (word_uses 1 op.TYPE_ARRAY ≡ true) × (word_uses 2 op.TYPE_ARRAY ≡ true) × (end_uses 1 op.TYPE_STRUCT ≡ true)
unfolding row_of
array_uses = (refl, refl, refl)

formed_kinds : List ℕ
formed_kinds = op.TYPE_ARRAY ∷ op.TYPE_STRUCT ∷ plain_types

formed_plain : list_all (λ o. row_test first_plain (row_of o)) formed_kinds ≡ true
unfolding row_of formed_kinds
formed_plain = refl

abbrev known_of : List ℕ → Table → (id k : ℕ) → Option ℕ
known_of ids table id k = word_in (kind_in (is_one_of ids id) (constant_words (meaning table id))) (constant_words (meaning table id)) k

-- ---- forms, one more

push_same : (id n : ℕ) (u v : FormTable) (o : Option Form) → form_at v id ≡ form_at u id → form_at (with_form v n o) id ≡ form_at (with_form u n o) id
push_same id n u v None h = h
push_same id n u v (Some f) h = lookup_both id u v (n, f) h

push_other : (id n : ℕ) (u : FormTable) (o : Option Form) → ((f : Form) → o ≡ Some f → nat_eq id n ≡ false) → form_at (with_form u n o) id ≡ form_at u id
push_other id n u None h = refl
push_other id n u (Some f) h = lookup_other id u (n, f) (h f refl)

some_form : (insts : List Instruction) (table : FormTable) (i : Instruction) (f : Form) → form_of insts table i ≡ Some f
    → is_one_of formed_kinds (opcode i) ≡ true
unfolding formed_kinds
some_form insts table i f h = by (is_one_of plain_types (opcode i)) (opcode i == op.TYPE_ARRAY) (opcode i == op.TYPE_STRUCT) _ _ _ h
  where
    by : (a b c : Bool) (x y z : Option Form) → cond a x (cond b y (cond c z None)) ≡ Some f → (b || (c || a)) ≡ true
    by a true c x y z h = refl
    by a false true x y z h = refl
    by true false false x y z h = refl
    by false false false x y z h = absurd (cc h)

module _ (t : Adding) where
  -- ---- meanings

  pub agree_all : Agrees t.r (declared_before t.before (length t.before)) (declared_before t.after (length t.after))
  agree_all =
      subst (λ is. Agrees t.r (declare_all (says t.before) nothing_declared is) (declared_before t.after (length t.after))) (sym (take_all t.before))
      (subst (λ js. Agrees t.r (declare_all (says t.before) nothing_declared t.before) (declare_all (says t.after) nothing_declared js))
      (sym (take_all t.after))
      (along t (SameDeclared t) (λ d e a. a) (declared_adds t) (declared_keeps t) nothing_declared nothing_declared (none_yet t)))

  same_meaning : (id : ℕ) → In t id → meaning (meanings t.after) id ≡ meaning (meanings t.before) id
  same_meaning id s =
      ap (λ table. meaning table id) (sym (declared-whole t.after)) ∙ agree_all.table id s ∙ ap (λ table. meaning table id) (declared-whole t.before)

  pub same_known : (id k : ℕ) → In t id → known_word t.after id k ≡ known_word t.before id k
  same_known id k s =
      ap₂ (λ (b : Bool) o. word_in (kind_in b (constant_words o)) (constant_words o) k) (agree_all.specialised id s) (same_meaning id s)

  -- ---- lengths

  type_of_stays : (id : ℕ) → is_constant t.before id ≡ true → In t (type_of t.before id)
  type_of_stays id h =
      by (definition t.before id) refl (constant_kinds (is_one_of constants (kind t.before id)) (kind t.before id == op.UNDEF) (is_outside t.before id) h)
    where
      by : (o : Option Instruction) → definition t.before id ≡ o → is_one_of (op.UNDEF ∷ constants) (option_map_or opcode o 0) ≡ true
          → In t (option_map_or (λ i. slice_index i.words 1) o 0)
      by None e h = absurd (true≢false (sym h))
      by (Some i) e h =
          let f = (old_definition t id i e).0 in
          first_type (In t) i
          (typed-words i (opcode i) f.whole refl (each (λ o. row_test first_typed (row_of o)) (op.UNDEF ∷ constants) are_typed (opcode i) h)) f.free.used

  same_signed : (id : ℕ) → In t id → is_constant t.before id ≡ true → is_signed t.after id ≡ is_signed t.before id
  same_signed id s h =
      ap (λ (u : ℕ). word_of t.after u 3 == 1) (same_word t id s 1) ∙ ap (λ (n : ℕ). n == 1) (same_word t (type_of t.before id) (type_of_stays id h) 3)

  same_length : (id : ℕ) → In t id → is_constant t.before id ≡ true → known_length t.after id ≡ known_length t.before id
  unfolding known_length
  same_length id s h =
      ap₂ (λ (signed : Bool) (o : Option ℕ). option_and_then (some_length signed) (cond (nat_lt 0 id) o None)) (same_signed id s h) (same_known id 0 s)

  -- ---- forms

  abbrev AgreeForms : FormTable → FormTable → Type 0
  AgreeForms u v = (id : ℕ) → In t id → form_at v id ≡ form_at u id

  same_length_at : (i : Instruction) → FactOf t i → (opcode i == op.TYPE_ARRAY) ≡ true
      → form.length_at t.after (slice_index i.words 3) ≡ form.length_at t.before (slice_index i.words 3)
  same_length_at i f h =
      let other : In t (slice_index i.words 3) =
      used_word (In t) i f.whole f.free.used 2 (ap (word_uses 2) (eqb-true (opcode i) op.TYPE_ARRAY h) ∙ array_uses.1) in
      ap (λ o. option_map_or form.Known o (form.Constant (slice_index i.words 3))) (same_length (slice_index i.words 3) other (f.length h).0)

  -- by induction on the members
  same_parts : (u v : FormTable) → AgreeForms u v → (front : Parts) (ts : List ℕ) → AllByRecursion (In t) ts → parts_behind v front ts ≡ parts_behind u front ts
  same_parts u v a front [] all = refl
  same_parts u v a front (m ∷ ms) all =
      ap (option_and_then (λ f. parts_behind v (Part front f) ms)) (a m all.0) ∙ by (λ f. same_parts u v a (Part front f) ms all.1) (form_at u m)
    where
      by : ((f : Form) → parts_behind v (Part front f) ms ≡ parts_behind u (Part front f) ms) → (o : Option Form)
          → option_and_then (λ f. parts_behind v (Part front f) ms) o ≡ option_and_then (λ f. parts_behind u (Part front f) ms) o
      by more None = refl
      by more (Some f) = more f

  same_form : (u v : FormTable) → AgreeForms u v → (i : Instruction) → FactOf t i → form_of t.after v i ≡ form_of t.before u i
  same_form u v a i f =
      ap (λ z. cond (is_one_of plain_types (opcode i)) (Some (form.Plain (slice_index i.words 1))) z)
      (where_true (opcode i == op.TYPE_ARRAY) _ _ _ _
      (λ h. ap₂ (λ l o. option_map (form.Array l) o) (same_length_at i f h)
      (a (slice_index i.words 2) (used_word (In t) i f.whole f.free.used 1 (ap (word_uses 1) (eqb-true (opcode i) op.TYPE_ARRAY h) ∙ array_uses.0))))
      (where_true (opcode i == op.TYPE_STRUCT) _ _ _ _
      (λ h. ap (option_map form.Struct)
      (same_parts u v a NoPart (drop 2 i.words)
      (used_words (In t) i f.whole f.free.used 1 (ap (end_uses 1) (eqb-true (opcode i) op.TYPE_STRUCT h) ∙ array_uses.2))))
      refl))

  -- what the new instruction declares has its id
  new_form : (v : FormTable) (id : ℕ) → In t id → form_at (with_form v (slice_index t.new.words 1) (form_of t.after v t.new)) id ≡ form_at v id
  new_form v id s =
      push_other id (slice_index t.new.words 1) v (form_of t.after v t.new) (λ f e.
      let plain = each (λ o. row_test first_plain (row_of o)) formed_kinds formed_plain (opcode t.new) (some_form t.after v t.new f e) in
      let own : Some (slice_index t.new.words 1) ≡ Some t.r =
      ap Some (sym (index-on t.new.words 0)) ∙ sym (defined-plain t.new t.added.whole plain) ∙ t.added.result in
      ap (λ o. option_map_or (nat_eq id) o false) own ∙ s)

  abbrev SameForms : List Instruction → List Instruction → Type 0
  SameForms is js = (u v : FormTable) → AgreeForms u v → AgreeForms (forms_behind t.before u is) (forms_behind t.after v js)

  forms_add : (j : Instruction) (is js : List Instruction) → starts_function is ≡ true → j.words ≡ t.new.words → SameForms is js → SameForms is (j ∷ js)
  forms_add j is js b w h u v a =
      h u (with_form v (slice_index j.words 1) (form_of t.after v j)) (λ id s.
      ap (λ ws. form_at (with_form v (slice_index ws 1) (form_of t.after v (inst ws))) id) w ∙ new_form v id s ∙ a id s)

  forms_keep : (i j : Instruction) (is js : List Instruction) → FactOf t i → j.words ≡ i.words → SameForms is js → SameForms (i ∷ is) (j ∷ js)
  forms_keep i j is js f w h u v a =
      h (with_form u (slice_index i.words 1) (form_of t.before u i)) (with_form v (slice_index j.words 1) (form_of t.after v j)) (λ id s.
      ap (λ ws. form_at (with_form v (slice_index ws 1) (form_of t.after v (inst ws))) id) w
      ∙ ap (λ o. form_at (with_form v (slice_index i.words 1) o) id) (same_form u v a i f)
      ∙ push_same id (slice_index i.words 1) u v (form_of t.before u i) (a id s))

  pub same_forms : (id : ℕ) → In t id → form_at (forms t.after) id ≡ form_at (forms t.before) id
  unfolding forms
  same_forms = along t SameForms (λ u v a. a) forms_add forms_keep [] [] (λ id s. refl)
