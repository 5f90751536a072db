-- The forms of types are the same: only declarations of types have forms, these stand outside functions, and none of them goes.
use Rattle.std.proofs.Common.{◌≡◌, inl, inr, ℕ, Bool, true, false, cond, nat_eq, ◌==◌, ◌||◌, List, [], ◌∷◌, ◌++◌, drop, Some, None, refl, sym, ap, ◌∙◌}
use Rattle.std.specs.Prelude.{slice_index}
use Rattle.std.specs.List.{AllByRecursion, filter}
use Rattle.std.specs.Option.{option_map, option_map_or}
use Rattle.std.proofs.lemmas.List.{map-append}
use Rattle.spv_opcodes.specs.declared.op.TheConstants as op
use Rattle.spv_grammar.specs.Table.{row_of}
use Rattle.spv_module.specs.declared.layout.Place.TheVariants.{Outside}
use Rattle.spv_module.specs.Code.{is_line}
use Rattle.spv_module.specs.Instruction.{Instruction, opcode}
use Rattle.spv_typing.specs.Kinds.{data_types, is_one_of}
use Rattle.spv_declarations.proofs.Declares.{AllOf}
use Rattle.spv_composites.specs.Forms.{Array, Constant, FormTable, Known, NoPart, Plain, Struct, form_at, form_by, forms, forms_behind, length_at, parts_behind, plain_types, with_form}
use Rattle.spv_composites.specs.Lengths.{known_length}
use Rattle.spv_walk.proofs.Unique.{either_holds, equal_true}
use Rattle.spv_normal.specs.Lines.{without_marks}
use Rattle.spv_texts.proofs.Functions.{Fits}
use Rattle.spv_tree.specs.Sound.{opcode_in}
use Rattle.spv_tree.specs.Tree.{words_of}
use Rattle.spv_norm.specs.Norm.{outside, stays_outside, staying}
use Rattle.spv_norm_declared.proofs.LaidOut.{from_first, parted}
use Rattle.spv_norm_alike.proofs.Behind.{IsEarly, all_behind, late_not}
use Rattle.spv_norm_alike.proofs.Lists.{going, of_going}

-- ---- by words

abbrev pub forms_by : List Instruction → FormTable → List (List ℕ) → FormTable
forms_by insts table [] = table
forms_by insts table (w ∷ ws) = forms_by insts (with_form table (slice_index w 1) (form_by insts table (opcode_in w) w)) ws

forms_of_words : (insts : List Instruction) (table : FormTable) (is : List Instruction) → forms_behind insts table is ≡ forms_by insts table (words_of is)
forms_of_words insts table [] = refl
forms_of_words insts table (i ∷ is) = forms_of_words insts (with_form table (slice_index i.words 1) (form_by insts table (opcode i) i.words)) is

forms_front : (insts : List Instruction) (table : FormTable) (xs ys : List (List ℕ))
    → forms_by insts table (xs ++ ys) ≡ forms_by insts (forms_by insts table xs) ys
forms_front insts table [] ys = refl
forms_front insts table (x ∷ xs) ys = forms_front insts (with_form table (slice_index x 1) (form_by insts table (opcode_in x) x)) xs ys

-- ---- what declares no type has no form

abbrev pub NoForm : ℕ → Type 0
NoForm o = is_one_of data_types o ≡ false

no_form_by : (insts : List Instruction) (table : FormTable) (ws : List ℕ) (b i v a s : Bool) → (b || (i || (v || (a || (s || false))))) ≡ false
    → cond (b || (i || (v || false))) (Some (Plain (slice_index ws 1)))
    (cond a (option_map (Array (length_at insts (slice_index ws 3))) (form_at table (slice_index ws 2)))
    (cond s (option_map Struct (parts_behind table NoPart (drop 2 ws))) None)) ≡ None
no_form_by insts table ws true i v a s h = absurd (cc h)
no_form_by insts table ws false true v a s h = absurd (cc h)
no_form_by insts table ws false false true a s h = absurd (cc h)
no_form_by insts table ws false false false true s h = absurd (cc h)
no_form_by insts table ws false false false false true h = absurd (cc h)
no_form_by insts table ws false false false false false h = refl

no_form : (insts : List Instruction) (table : FormTable) (o : ℕ) (ws : List ℕ) → NoForm o → form_by insts table o ws ≡ None
no_form insts table o ws h =
    no_form_by insts table ws (nat_eq o op.TYPE_BOOL) (nat_eq o op.TYPE_INT) (nat_eq o op.TYPE_VECTOR) (nat_eq o op.TYPE_ARRAY) (nat_eq o op.TYPE_STRUCT) h

-- by induction on the instructions
unchanged : (insts : List Instruction) (table : FormTable) (is : List Instruction) → AllByRecursion (λ i. NoForm (opcode i)) is
    → forms_by insts table (words_of is) ≡ table
unchanged insts table [] h = refl
unchanged insts table (i ∷ is) h =
    ap (λ f. forms_by insts (with_form table (slice_index i.words 1) f) (words_of is)) (no_form insts table (opcode i) i.words h.0)
    ∙ unchanged insts table is h.1

-- ---- what goes, and what stands in functions

gone_form : AllOf NoForm going
gone_form = (refl, (refl, (refl, (refl, (refl, tt)))))

-- by induction on the instructions
staying_forms : (insts of : List Instruction) (is : List Instruction) (table : FormTable)
    → forms_by of table (words_of (filter (stays_outside insts) is)) ≡ forms_by of table (words_of is)
staying_forms insts of [] table = refl
staying_forms insts of (i ∷ is) table = by (stays_outside insts i) refl (staying_forms insts of is) where
  by : (b : Bool) → stays_outside insts i ≡ b
      → ((t : FormTable) → forms_by of t (words_of (filter (stays_outside insts) is)) ≡ forms_by of t (words_of is))
      → forms_by of table (words_of (cond b (i ∷ filter (stays_outside insts) is) (filter (stays_outside insts) is)))
      ≡ forms_by of (with_form table (slice_index i.words 1) (form_by of table (opcode i) i.words)) (words_of is)
  by true e more = more (with_form table (slice_index i.words 1) (form_by of table (opcode i) i.words))
  by false e more =
      more table
      ∙ sym (ap (λ f. forms_by of (with_form table (slice_index i.words 1) f) (words_of is))
      (no_form of table (opcode i) i.words (of_going NoForm gone_form insts i e)))

types_early : AllOf IsEarly data_types
unfolding row_of
types_early = (refl, (refl, (refl, (refl, (refl, tt)))))

line_form : (i : Instruction) → is_line i ≡ true → NoForm (opcode i)
line_form i h = elim (either_holds (opcode i == op.LINE) (opcode i == op.NO_LINE) h) [
  | inl e ↦ ap (is_one_of data_types) (equal_true (opcode i) op.LINE e)
  | inr e ↦ ap (is_one_of data_types) (equal_true (opcode i) op.NO_LINE e)
]

behind_form : (is : List Instruction) → Fits Outside false (without_marks is) → AllByRecursion (λ i. NoForm (opcode i)) (from_first is)
behind_form is fits = all_behind (λ i. NoForm (opcode i)) line_form (late_not data_types types_early) is Outside fits

-- the forms of a module are those of what stands outside functions
forms_told : (insts : List Instruction) → Fits Outside false (without_marks insts) → forms insts ≡ forms_by insts [] (words_of (outside insts))
unfolding forms
forms_told insts fits =
    forms_of_words insts [] insts
    ∙ ap (λ is. forms_by insts [] (words_of is)) (parted insts)
    ∙ ap (forms_by insts []) (map-append (λ (i : Instruction). i.words) (outside insts) (from_first insts))
    ∙ forms_front insts [] (words_of (outside insts)) (words_of (from_first insts))
    ∙ unchanged insts (forms_by insts [] (words_of (outside insts))) (from_first insts) (behind_form insts fits)

-- ---- only lengths are looked up in the module

module _ (insts again : List Instruction) (lengths : (id : ℕ) → known_length again id ≡ known_length insts id) where
  length_at_same : (id : ℕ) → length_at again id ≡ length_at insts id
  length_at_same id = ap (λ o. option_map_or Known o (Constant id)) (lengths id)

  form_same : (table : FormTable) (o : ℕ) (ws : List ℕ) → form_by again table o ws ≡ form_by insts table o ws
  form_same table o ws =
      ap (λ l. cond (is_one_of plain_types o) (Some (Plain (slice_index ws 1)))
      (cond (o == op.TYPE_ARRAY) (option_map (Array l) (form_at table (slice_index ws 2)))
      (cond (o == op.TYPE_STRUCT) (option_map Struct (parts_behind table NoPart (drop 2 ws))) None)))
      (length_at_same (slice_index ws 3))

  forms_same : (ws : List (List ℕ)) (table : FormTable) → forms_by again table ws ≡ forms_by insts table ws
  forms_same [] table = refl
  forms_same (w ∷ ws) table =
      ap (λ f. forms_by again (with_form table (slice_index w 1) f) ws) (form_same table (opcode_in w) w)
      ∙ forms_same ws (with_form table (slice_index w 1) (form_by insts table (opcode_in w) w))

  pub forms_alike : Fits Outside false (without_marks insts) → Fits Outside false (without_marks again) → words_of (outside again) ≡ words_of (staying insts)
      → forms again ≡ forms insts
  forms_alike fits fits_again same =
      forms_told again fits_again ∙ ap (forms_by again []) same ∙ forms_same (words_of (staying insts)) []
      ∙ staying_forms insts insts (outside insts) [] ∙ sym (forms_told insts fits)
