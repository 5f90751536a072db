-- Of what stays the same constants are Known, and types have the same forms.
use Rattle.std.proofs.Common.{◌≡◌, ℕ, Bool, true, false, cond, nat_eq, nat_lt, ◌==◌, ◌&&◌, ◌||◌, List, [], ◌∷◌, drop, Option, Some, None, refl, sym, ap, ap₂, subst, ◌∙◌, true≢false, eqb-true}
use Rattle.std.specs.List.{AllByRecursion, list_all, slice_index}
use Rattle.std.specs.Option.{option_and_then, option_map, option_map_or}
use Rattle.spv_opcodes.specs.declared.op.TheConstants as op
use Rattle.spv_grammar.specs.Table.{row_of}
use Rattle.spv_module.specs.Instruction.{Instruction, opcode}
use Rattle.spv_meaning.specs.Meanings.{constant_words}
use Rattle.spv_meaning.specs.Constants.{Table, meaning}
use Rattle.spv_ids.specs.Ids.{definition, kind, word_of}
use Rattle.spv_typing.specs.Kinds.{constants, is_constant, is_one_of, is_outside, type_of}
use Rattle.spv_declarations.specs.Declarations.{declare_all, nothing_declared, says}
use Rattle.spv_declarations.specs.Laws.{meanings}
use Rattle.spv_declarations.proofs.Parts.{defined-plain, first_plain, first_typed, row_test, typed-words}
use Rattle.spv_declarations.proofs.Tables.{defines_result}
use Rattle.spv_declarations.proofs.Whole.{declared-whole, take_all}
use Rattle.spv_types.specs.Lookup.{kind_in, known_word, specialised, word_in}
use Rattle.spv_composites.specs.Forms as form
use Rattle.spv_composites.specs.Forms.{Form, FormTable, NoPart, Part, Parts, form_at, form_by, form_of, forms, forms_behind, parts_behind, plain_types, with_form}
use Rattle.spv_composites.specs.Lengths.{is_signed, known_length, some_length}
use Rattle.spv_alike_uses.specs.Alike.{Stays}
use Rattle.spv_alike_uses.proofs.Lookups.{each, where_true}
use Rattle.spv_alike_uses.proofs.Used.{end_uses, used_word, used_words, word_uses}
use Rattle.spv_thinned.specs.Thinned.{IsThinned}
use Rattle.spv_thinned.proofs.Walk.{inst, walk}
use Rattle.spv_thinned.proofs.Definitions.{Fact, defines_none, kept_definition, same_word}
use Rattle.spv_thinned.proofs.Declared.{Agree, lookup_more, lookup_other, same_declared}
use Rattle.spv_thinned.proofs.Places.{first_type}
use Rattle.spv_thinned.proofs.Said.{word_behind}

constant_kinds : (a b d : Bool) → (a || (b && d)) ≡ true → (b || a) ≡ true
constant_kinds a true d h = refl
constant_kinds true false d h = refl
constant_kinds false false d h = h

are_typed : list_all (λ o. row_test first_typed (row_of o)) (op.UNDEF ∷ constants) ≡ true
unfolding row_of
are_typed = refl

array_uses : (word_uses 1 op.TYPE_ARRAY ≡ true) × (word_uses 2 op.TYPE_ARRAY ≡ true)
unfolding row_of
array_uses = (refl, refl)

struct_uses : end_uses 1 op.TYPE_STRUCT ≡ true
unfolding row_of
struct_uses = refl

-- types that have forms
abbrev formed : List ℕ
formed = op.TYPE_ARRAY ∷ op.TYPE_STRUCT ∷ plain_types

are_plain : list_all (λ o. row_test first_plain (row_of o)) formed ≡ true
unfolding row_of
are_plain = refl

by_form : {A : Type 0} (p a s : Bool) (x y z : Option A) (g : A) → cond p x (cond a y (cond s z None)) ≡ Some g → (a || (s || p)) ≡ true
by_form true true s x y z g h = refl
by_form true false true x y z g h = refl
by_form true false false x y z g h = refl
by_form false true s x y z g h = refl
by_form false false true x y z g h = refl
by_form false false false x y z g h = absurd (cc h)

module _ (gone : ℕ → Bool) (keep : Instruction → Bool) (before after : List Instruction) (thin : IsThinned gone keep before after)
    (facts : AllByRecursion (Fact gone keep before) before) where
  abbrev F : Instruction → Type 0
  F i = Fact gone keep before i

  all_declared : Agree gone (declare_all (says before) nothing_declared before) (declare_all (says after) nothing_declared after)
  all_declared =
      same_declared gone keep before after thin facts before after facts thin.words nothing_declared nothing_declared
      (record { begun = refl; meanings = λ id s. refl; specialised = λ id s. refl })

  table_told : (is : List Instruction) → (declare_all (says is) nothing_declared is).table ≡ meanings is
  table_told is = sym (ap (λ js. (declare_all (says is) nothing_declared js).table) (take_all is)) ∙ declared-whole is

  specialised_told : (is : List Instruction) → (declare_all (says is) nothing_declared is).specialised ≡ specialised is
  specialised_told is = sym (ap (λ js. (declare_all (says is) nothing_declared js).specialised) (take_all is))

  same_meaning : (id : ℕ) → Stays gone id → meaning (meanings after) id ≡ meaning (meanings before) id
  same_meaning id s =
      sym (ap (λ (t : Table). meaning t id) (table_told after)) ∙ all_declared.meanings id s ∙ ap (λ (t : Table). meaning t id) (table_told before)

  same_special : (id : ℕ) → Stays gone id → is_one_of (specialised after) id ≡ is_one_of (specialised before) id
  same_special id s =
      sym (ap (λ (ids : List ℕ). is_one_of ids id) (specialised_told after)) ∙ all_declared.specialised id s
      ∙ ap (λ (ids : List ℕ). is_one_of ids id) (specialised_told before)

  pub same_known : (id k : ℕ) → Stays gone id → known_word after id k ≡ known_word before id k
  same_known id k s = ap₂ (λ b m. word_in (kind_in b (constant_words m)) (constant_words m) k) (same_special id s) (same_meaning id s)

  -- ---- lengths

  type_of_stays : (id : ℕ) → Stays gone id → is_constant before id ≡ true → Stays gone (type_of before id)
  type_of_stays id s h = by (definition before id) refl (constant_kinds (is_one_of constants (kind before id)) (kind before id == op.UNDEF) (is_outside before id) h)
    where
      by : (o : Option Instruction) → definition before id ≡ o → is_one_of (op.UNDEF ∷ constants) (option_map_or opcode o 0) ≡ true
          → Stays gone (option_map_or (λ i. slice_index i.words 1) o 0)
      by None e h = absurd (true≢false (sym h))
      by (Some i) e h =
          let k = kept_definition gone keep before facts id s i e in
          first_type gone i
          (typed-words i (opcode i) k.0.whole refl (each (λ o. row_test first_typed (row_of o)) (op.UNDEF ∷ constants) are_typed (opcode i) h)) k.1.used

  same_signed : (id : ℕ) → Stays gone id → is_constant before id ≡ true → is_signed after id ≡ is_signed before id
  same_signed id s h =
      ap (λ (t : ℕ). word_of after t 3 == 1) (same_word gone keep before after thin facts id s 1)
      ∙ ap (λ (n : ℕ). n == 1) (same_word gone keep before after thin facts (type_of before id) (type_of_stays id s h) 3)

  same_length : (id : ℕ) → Stays gone id → is_constant before id ≡ true → known_length after id ≡ known_length before id
  unfolding known_length
  same_length id s h =
      ap₂ (λ (signed : Bool) (o : Option ℕ). option_and_then (some_length signed) (cond (nat_lt 0 id) o None)) (same_signed id s h) (same_known id 0 s)

  -- ---- forms

  -- the tables have the same forms for what stays
  abbrev SameTables : (old new : FormTable) → Type 0
  SameTables old new = (t : ℕ) → Stays gone t → form_at new t ≡ form_at old t

  same_length_at : (i : Instruction) → F i → keep i ≡ true → (opcode i == op.TYPE_ARRAY) ≡ true → form.length_at after (slice_index i.words 3) ≡ form.length_at before (slice_index i.words 3)
  same_length_at i f e h =
      let stays : Stays gone (slice_index i.words 3) =
      used_word (Stays gone) i f.whole (f.kept e).used 2 (ap (word_uses 2) (eqb-true (opcode i) op.TYPE_ARRAY h) ∙ array_uses.1) in
      ap (λ o. option_map_or form.Known o (form.Constant (slice_index i.words 3))) (same_length (slice_index i.words 3) stays (f.length h).0)

  -- by induction on the members
  same_parts : (old new : FormTable) → SameTables old new → (front : Parts) (ts : List ℕ) → AllByRecursion (Stays gone) ts → parts_behind new front ts ≡ parts_behind old front ts
  same_parts old new same front [] s = refl
  same_parts old new same front (t ∷ ts) s =
      ap (option_and_then (λ f. parts_behind new (Part front f) ts)) (same t s.0) ∙ by (form_at old t) (λ f. same_parts old new same (Part front f) ts s.1)
    where
      by : (o : Option Form) → ((f : Form) → parts_behind new (Part front f) ts ≡ parts_behind old (Part front f) ts)
          → option_and_then (λ f. parts_behind new (Part front f) ts) o ≡ option_and_then (λ f. parts_behind old (Part front f) ts) o
      by None h = refl
      by (Some f) h = h f

  same_form : (old new : FormTable) → SameTables old new → (i : Instruction) → F i → keep i ≡ true → form_of after new i ≡ form_of before old i
  same_form old new same i f e =
      where_true (is_one_of plain_types (opcode i)) _ _ _ _ (λ h. refl)
      (where_true (opcode i == op.TYPE_ARRAY) _ _ _ _
      (λ h. ap₂ (λ l o. option_map (form.Array l) o) (same_length_at i f e h)
      (same (slice_index i.words 2)
      (used_word (Stays gone) i f.whole (f.kept e).used 1 (ap (word_uses 1) (eqb-true (opcode i) op.TYPE_ARRAY h) ∙ array_uses.0))))
      (where_true (opcode i == op.TYPE_STRUCT) _ _ _ _
      (λ h. ap (option_map form.Struct)
      (same_parts old new same NoPart (drop 2 i.words)
      (used_words (Stays gone) i f.whole (f.kept e).used 1 (ap (end_uses 1) (eqb-true (opcode i) op.TYPE_STRUCT h) ∙ struct_uses)))) refl))

  -- a type that has a form and is dropped has gone
  other_form : (i : Instruction) → F i → keep i ≡ false → (table : FormTable) (g : Form) → form_of before table i ≡ Some g → (t : ℕ) → Stays gone t
      → nat_eq t (slice_index i.words 1) ≡ false
  other_form i f e table g h t s =
      ap (nat_eq t) (sym (word_behind i.words 0))
      ∙ sym (defines_result i t (slice_index (drop 1 i.words) 0)
      (defined-plain i f.whole (each (λ o. row_test first_plain (row_of o)) formed are_plain (opcode i) (has_form table (opcode i) i.words g h))))
      ∙ defines_none gone keep before facts t s i f e
    where
      has_form : (table : FormTable) (o : ℕ) (ws : List ℕ) (g : Form) → form_by before table o ws ≡ Some g → is_one_of formed o ≡ true
      has_form table o ws g h =
          by_form (is_one_of plain_types o) (o == op.TYPE_ARRAY) (o == op.TYPE_STRUCT) (Some (form.Plain (slice_index ws 1)))
          (option_map (form.Array (form.length_at before (slice_index ws 3))) (form_at table (slice_index ws 2)))
          (option_map form.Struct (parts_behind table NoPart (drop 2 ws))) g h

  dropped_forms : (i : Instruction) → F i → keep i ≡ false → (old new : FormTable) → SameTables old new
      → SameTables (with_form old (slice_index i.words 1) (form_of before old i)) new
  dropped_forms i f e old new same t s = same t s ∙ sym (by (form_of before old i) refl)
    where
      by : (o : Option Form) → form_of before old i ≡ o → form_at (with_form old (slice_index i.words 1) o) t ≡ form_at old t
      by None h = refl
      by (Some g) h = lookup_other t old (slice_index i.words 1, g) (other_form i f e old g h t s)

  kept_forms : (i : Instruction) → F i → keep i ≡ true → (old new : FormTable) → SameTables old new
      → SameTables (with_form old (slice_index i.words 1) (form_of before old i)) (with_form new (slice_index i.words 1) (form_of after new i))
  kept_forms i f e old new same t s =
      ap (λ o. form_at (with_form new (slice_index i.words 1) o) t) (same_form old new same i f e) ∙ by (form_of before old i)
    where
      by : (o : Option Form) → form_at (with_form new (slice_index i.words 1) o) t ≡ form_at (with_form old (slice_index i.words 1) o) t
      by None = same t s
      by (Some g) = lookup_more t new old (slice_index i.words 1, g) (same t s)

  abbrev SameForms : List Instruction → List Instruction → Type 0
  SameForms is js = (old new : FormTable) → SameTables old new → SameTables (forms_behind before old is) (forms_behind after new js)

  pub same_forms : (t : ℕ) → Stays gone t → form_at (forms after) t ≡ form_at (forms before) t
  unfolding forms
  same_forms =
      walk keep F SameForms (λ old new same. same)
      (λ i is js f e h old new same.
      h (with_form old (slice_index i.words 1) (form_of before old i)) new (dropped_forms i f e old new same))
      (λ i j is js f e w h old new same.
      h (with_form old (slice_index i.words 1) (form_of before old i)) (with_form new (slice_index j.words 1) (form_of after new j))
      (subst (λ ws. SameTables (with_form old (slice_index i.words 1) (form_of before old i)) (with_form new (slice_index ws 1) (form_of after new (inst ws)))) (sym w)
      (kept_forms i f e old new same)))
      before after facts thin.words [] [] (λ t s. refl)
