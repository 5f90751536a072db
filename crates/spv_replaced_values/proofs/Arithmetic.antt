-- Arithmetic fits where it fits before values are replaced.
use Rattle.std.proofs.Common.{◌≡◌, ℕ, Bool, true, false, cond, ◌==◌, ◌&&◌, ◌||◌, nat_eq, nat_le, List, [], ◌∷◌, drop, Option, Some, None, refl, sym, ap, ap₂, ◌∙◌, true≢false, eqb-true}
use Rattle.std.specs.List.{list_all, slice_index}
use Rattle.std.specs.Map.{lookup}
use Rattle.std.specs.Option.{option_map_or}
use Rattle.spv_opcodes.specs.declared.op.TheConstants as op
use Rattle.spv_grammar.specs.Table.{row_of}
use Rattle.spv_module.specs.Instruction.{Instruction}
use Rattle.spv_ids.specs.Ids.{kind}
use Rattle.spv_typing.specs.declared.shapes.Shape.{Shape}
use Rattle.spv_typing.specs.Operations.{count_of, has_shape, shape}
use Rattle.spv_values.specs.Values.{is_bools, is_ints, is_value_of, value_type}
use Rattle.spv_arithmetic.specs.declared.forms.Form.{Form}
use Rattle.spv_arithmetic.specs.Forms.{forms, form_of, first_operand}
use Rattle.spv_arithmetic.specs.declared.forms.Form.TheVariants.{Ints, Bools, Compares, Reduces, Pairs, FieldInserts, FieldExtracts, Selects, Extended, Converts, Branches, Switches}
use Rattle.spv_arithmetic.specs.Operands.{common_count, all_ints, all_bools, have_one_type, is_field, has_components, condition_fits, suits_set, operands_suit}
use Rattle.spv_arithmetic.specs.Operands.{form_operands_fit, operands_fit}
use Rattle.spv_arithmetic.specs.Results.{is_pair_of, result_suits, form_result_fits, result_fits}
use Rattle.spv_declarations.specs.Laws.{IsUnbroken}
use Rattle.spv_alike.proofs.Lookups.{and_left, and_right}
use Rattle.spv_typed_trees.specs.Typed.{as_instruction}
use Rattle.spv_replaced_values.proofs.Standing.{Near, NearAll, cut, near_at, near_drop, near_length, none, same_all, same_bools, same_ints, same_shape, same_type, same_value_of, set_stays}
use Rattle.spv_replaced_values.proofs.Fixed.{Case, code, near_words, same_code, word_by, word_fixed}

-- ---- forms whose result's type is read

abbrev is_untyped : Form → Bool
is_untyped Branches = true
is_untyped Switches = true
is_untyped Converts = true
is_untyped form = false

-- by computing over the forms
all_typed : list_all (λ pair. is_untyped pair.1 || word_fixed 0 pair.0) forms ≡ true
unfolding row_of
all_typed = refl

-- induction on the forms
looked : (table : List (ℕ × Form)) → list_all (λ pair. is_untyped pair.1 || word_fixed 0 pair.0) table ≡ true → (o : ℕ) (form : Form)
    → lookup (nat_eq o) table ≡ Some form → (is_untyped form || word_fixed 0 o) ≡ true
looked [] all o form h = absurd (cc h)
looked (x ∷ xs) all o form h =
    by (nat_eq o x.0) refl (looked xs (and_right (is_untyped x.1 || word_fixed 0 x.0) (list_all (λ pair. is_untyped pair.1 || word_fixed 0 pair.0) xs) all) o form)
  where
    by : (b : Bool) → nat_eq o x.0 ≡ b → (lookup (nat_eq o) xs ≡ Some form → (is_untyped form || word_fixed 0 o) ≡ true) → (is_untyped form || word_fixed 0 o) ≡ true
    by true e rest =
        let same : x.1 ≡ form = cc (ap (λ (b : Bool). cond b (Some x.1) (lookup (nat_eq o) xs)) (sym e) ∙ h) in
        ap (λ (n : ℕ). is_untyped form || word_fixed 0 n) (eqb-true o x.0 e) ∙ ap (λ (f : Form). is_untyped f || word_fixed 0 x.0) (sym same)
        ∙ and_left (is_untyped x.1 || word_fixed 0 x.0) (list_all (λ pair. is_untyped pair.1 || word_fixed 0 pair.0) xs) all
    by false e rest = rest (ap (λ (b : Bool). cond b (Some x.1) (lookup (nat_eq o) xs)) (sym e) ∙ h)

module _ (insts : List Instruction) where
  abbrev All : (ids others : List ℕ) → Type 0
  All = NearAll insts

  same_count : (ids others : List ℕ) → All ids others → common_count insts others ≡ common_count insts ids
  same_count ids others n = ap count_of (same_shape insts (slice_index ids 0) (slice_index others 0) (near_at insts 0 ids others n))

  same_all_ints : (ids others : List ℕ) → All ids others → all_ints insts others ≡ all_ints insts ids
  same_all_ints ids others n =
      ap (λ (n : ℕ). list_all (λ id. is_ints insts n id) others) (same_count ids others n)
      ∙ same_all insts (λ id. is_ints insts (common_count insts ids) id) (λ x y h. same_ints insts (common_count insts ids) x y h) ids others n

  same_all_bools : (ids others : List ℕ) → All ids others → all_bools insts others ≡ all_bools insts ids
  same_all_bools ids others n =
      ap (λ (n : ℕ). list_all (λ id. is_bools insts n id) others) (same_count ids others n)
      ∙ same_all insts (λ id. is_bools insts (common_count insts ids) id) (λ x y h. same_bools insts (common_count insts ids) x y h) ids others n

  same_one_type : (a b x y : ℕ) → Near insts a x → Near insts b y → have_one_type insts x y ≡ have_one_type insts a b
  same_one_type a b x y ga gb =
      ap (λ (o : Option ℕ). option_map_or (λ t. is_value_of insts t y) o false) (same_type insts a x ga) ∙ by (value_type insts a)
    where
      by : (o : Option ℕ) → option_map_or (λ t. is_value_of insts t y) o false ≡ option_map_or (λ t. is_value_of insts t b) o false
      by None = refl
      by (Some t) = same_value_of insts t b y gb

  same_field : (a b x y : ℕ) → Near insts a x → Near insts b y → is_field insts x y ≡ is_field insts a b
  same_field a b x y g h = ap₂ (λ (p q : Bool). p && q) (same_ints insts 1 a x g) (same_ints insts 1 b y h)

  same_components : (o : Option Shape) (a x : ℕ) → Near insts a x → has_components insts o x ≡ has_components insts o a
  same_components None a x g = refl
  same_components (Some s) a x g = same_bools insts s.count a x g

  same_condition : (t a x : ℕ) → Near insts a x → condition_fits insts t x ≡ condition_fits insts t a
  same_condition t a x g = ap₂ (λ (p q : Bool). p || q) (same_bools insts 1 a x g) (same_components (shape insts t) a x g)

  keeps_set : IsUnbroken insts → (set other : ℕ) (ids others : List ℕ) → Near insts set other → All ids others → suits_set insts set ids ≡ true
      → suits_set insts other others ≡ true
  unfolding suits_set
  keeps_set u set other ids others g n h =
      ap₂ (λ (s : ℕ) (b : Bool). kind insts s == op.EXT_INST_IMPORT && b)
      (set_stays insts u set other (and_left (kind insts set == op.EXT_INST_IMPORT) (all_ints insts ids) h) g) (same_all_ints ids others n) ∙ h

  -- ---- operands

  keeps_operands : IsUnbroken insts → (form : Form) (t : ℕ) (ids others : List ℕ) → All ids others → operands_suit insts form t ids ≡ true
      → operands_suit insts form t others ≡ true
  keeps_operands u (Ints k) t ids others n h =
      ap₂ (λ (m : ℕ) (b : Bool). m == k && b) (near_length insts ids others n) (same_all_ints ids others n) ∙ h
  keeps_operands u (Bools k) t ids others n h =
      ap₂ (λ (m : ℕ) (b : Bool). m == k && b) (near_length insts ids others n) (same_all_bools ids others n) ∙ h
  keeps_operands u Compares t ids others n h =
      ap₂ (λ (m : ℕ) (b : Bool). m == 2 && b) (near_length insts ids others n) (same_all_ints ids others n) ∙ h
  keeps_operands u Reduces t ids others n h =
      ap₂ (λ (m : ℕ) (b : Bool). m == 1 && b) (near_length insts ids others n)
      (ap₂ (λ (c : ℕ) (b : Bool). nat_le 2 c && b) (same_count ids others n) (same_all_bools ids others n)) ∙ h
  keeps_operands u Pairs t (a ∷ b ∷ []) others n h =
      let p = cut insts a (b ∷ []) others n in
      let q = cut insts b [] p.more p.rest in
      let is : others ≡ p.word ∷ q.word ∷ [] = p.is ∙ ap (λ (xs : List ℕ). p.word ∷ xs) (q.is ∙ ap (λ (xs : List ℕ). q.word ∷ xs) (none insts q.more q.rest)) in
      ap (operands_suit insts Pairs t) is
      ∙ ap₂ (λ (x y : Bool). x && y) (same_all_ints (a ∷ b ∷ []) (p.word ∷ q.word ∷ []) (p.near, (q.near, tt))) (same_one_type a b p.word q.word p.near q.near)
      ∙ h
  keeps_operands u FieldInserts t (a ∷ b ∷ c ∷ d ∷ []) others n h =
      let p = cut insts a (b ∷ c ∷ d ∷ []) others n in
      let q = cut insts b (c ∷ d ∷ []) p.more p.rest in
      let r = cut insts c (d ∷ []) q.more q.rest in
      let s = cut insts d [] r.more r.rest in
      let is : others ≡ p.word ∷ q.word ∷ r.word ∷ s.word ∷ [] =
      p.is ∙ ap (λ (xs : List ℕ). p.word ∷ xs) (q.is ∙ ap (λ (xs : List ℕ). q.word ∷ xs)
      (r.is ∙ ap (λ (xs : List ℕ). r.word ∷ xs) (s.is ∙ ap (λ (xs : List ℕ). s.word ∷ xs) (none insts s.more s.rest)))) in
      ap (operands_suit insts FieldInserts t) is
      ∙ ap₂ (λ (x y : Bool). x && y) (same_all_ints (a ∷ b ∷ []) (p.word ∷ q.word ∷ []) (p.near, (q.near, tt))) (same_field c d r.word s.word r.near s.near)
      ∙ h
  keeps_operands u FieldExtracts t (a ∷ b ∷ c ∷ []) others n h =
      let p = cut insts a (b ∷ c ∷ []) others n in
      let q = cut insts b (c ∷ []) p.more p.rest in
      let r = cut insts c [] q.more q.rest in
      let is : others ≡ p.word ∷ q.word ∷ r.word ∷ [] =
      p.is ∙ ap (λ (xs : List ℕ). p.word ∷ xs) (q.is ∙ ap (λ (xs : List ℕ). q.word ∷ xs) (r.is ∙ ap (λ (xs : List ℕ). r.word ∷ xs) (none insts r.more r.rest))) in
      ap (operands_suit insts FieldExtracts t) is
      ∙ ap₂ (λ (x y : Bool). x && y) (same_all_ints (a ∷ []) (p.word ∷ []) (p.near, tt)) (same_field b c q.word r.word q.near r.near)
      ∙ h
  keeps_operands u Selects t (a ∷ b ∷ c ∷ []) others n h =
      let p = cut insts a (b ∷ c ∷ []) others n in
      let q = cut insts b (c ∷ []) p.more p.rest in
      let r = cut insts c [] q.more q.rest in
      let is : others ≡ p.word ∷ q.word ∷ r.word ∷ [] =
      p.is ∙ ap (λ (xs : List ℕ). p.word ∷ xs) (q.is ∙ ap (λ (xs : List ℕ). q.word ∷ xs) (r.is ∙ ap (λ (xs : List ℕ). r.word ∷ xs) (none insts r.more r.rest))) in
      ap (operands_suit insts Selects t) is
      ∙ ap₂ (λ (x y : Bool). x && y) (same_condition t a p.word p.near)
      (ap₂ (λ (x y : Bool). x && y) (same_value_of insts t b q.word q.near) (same_value_of insts t c r.word r.near))
      ∙ h
  keeps_operands u Extended t (a ∷ b ∷ ids) others n h =
      let p = cut insts a (b ∷ ids) others n in
      let q = cut insts b ids p.more p.rest in
      let is : others ≡ p.word ∷ q.word ∷ q.more = p.is ∙ ap (λ (xs : List ℕ). p.word ∷ xs) q.is in
      ap (operands_suit insts Extended t) is ∙ keeps_set u a p.word ids q.more p.near q.rest h
  keeps_operands u Converts t ids others n h = refl
  keeps_operands u Branches t (a ∷ ids) others n h =
      let p = cut insts a ids others n in
      ap (operands_suit insts Branches t) p.is ∙ same_bools insts 1 a p.word p.near ∙ h
  keeps_operands u Switches t (a ∷ ids) others n h =
      let p = cut insts a ids others n in
      ap (operands_suit insts Switches t) p.is ∙ same_ints insts 1 a p.word p.near ∙ h
  keeps_operands u form t ids others n h = absurd (true≢false (sym h))

  -- the type is not read
  operands_untyped : (form : Form) (t v : ℕ) (ids : List ℕ) → is_untyped form ≡ true → operands_suit insts form v ids ≡ operands_suit insts form t ids
  operands_untyped Converts t v ids e = refl
  operands_untyped Branches t v [] e = refl
  operands_untyped Branches t v (id ∷ ids) e = refl
  operands_untyped Switches t v [] e = refl
  operands_untyped Switches t v (id ∷ ids) e = refl
  operands_untyped form t v ids e = absurd (true≢false (sym e))

  -- ---- results

  same_result : (form : Form) (t : ℕ) (ids others : List ℕ) → All ids others → result_suits insts form t others ≡ result_suits insts form t ids
  same_result (Ints k) t ids others n = ap (λ (c : ℕ). has_shape false c (shape insts t)) (same_count ids others n)
  same_result (Bools k) t ids others n = ap (λ (c : ℕ). has_shape true c (shape insts t)) (same_count ids others n)
  same_result Compares t ids others n = ap (λ (c : ℕ). has_shape true c (shape insts t)) (same_count ids others n)
  same_result Reduces t ids others n = refl
  same_result Pairs t ids others n =
      ap (λ (o : Option ℕ). option_map_or (is_pair_of insts t) o false) (same_type insts (slice_index ids 0) (slice_index others 0) (near_at insts 0 ids others n))
  same_result FieldInserts t ids others n = ap (λ (c : ℕ). has_shape false c (shape insts t)) (same_count ids others n)
  same_result FieldExtracts t ids others n = ap (λ (c : ℕ). has_shape false c (shape insts t)) (same_count ids others n)
  same_result Selects t ids others n = refl
  same_result Extended t [] others n = ap (result_suits insts Extended t) (none insts others n)
  same_result Extended t (a ∷ []) others n =
      let p = cut insts a [] others n in
      ap (result_suits insts Extended t) (p.is ∙ ap (λ (xs : List ℕ). p.word ∷ xs) (none insts p.more p.rest))
  same_result Extended t (a ∷ b ∷ ids) others n =
      let p = cut insts a (b ∷ ids) others n in
      let q = cut insts b ids p.more p.rest in
      ap (result_suits insts Extended t) (p.is ∙ ap (λ (xs : List ℕ). p.word ∷ xs) q.is)
      ∙ ap (λ (c : ℕ). has_shape false c (shape insts t)) (same_count ids q.more q.rest)
  same_result Converts t ids others n = refl
  same_result Branches t ids others n = refl
  same_result Switches t ids others n = refl

  result_untyped : (form : Form) (t v : ℕ) (ids : List ℕ) → is_untyped form ≡ true → result_suits insts form v ids ≡ result_suits insts form t ids
  result_untyped Converts t v ids e = refl
  result_untyped Branches t v ids e = refl
  result_untyped Switches t v ids e = refl
  result_untyped form t v ids e = absurd (true≢false (sym e))

-- ---- by the instruction

module _ (c : Case) where
  abbrev type : ℕ
  type = slice_index c.words 1

  abbrev other_type : ℕ
  other_type = slice_index c.others 1

  -- the type stays, where it is read
  by_type : {A : Type 0} (f : Form → ℕ → A) (form : Form) → ((t v : ℕ) → is_untyped form ≡ true → f form v ≡ f form t) → form_of (code c) ≡ Some form → f form other_type ≡ f form type
  by_type f form untyped e = by (is_untyped form) refl (looked forms all_typed (code c) form e)
    where
      by : (b : Bool) → is_untyped form ≡ b → (b || word_fixed 0 (code c)) ≡ true → f form other_type ≡ f form type
      by true is h = untyped type other_type is
      by false is h = ap (f form) (word_by c 0 h)

  keeps_form_operands : IsUnbroken c.insts → (form : Option Form) → form_of (code c) ≡ form → form_operands_fit c.insts form (as_instruction c.words) ≡ true
      → form_operands_fit c.insts form (as_instruction c.others) ≡ true
  keeps_form_operands u None e h = refl
  keeps_form_operands u (Some form) e h =
      let others : List ℕ = drop (first_operand form) c.others in
      by_type (λ form t. operands_suit c.insts form t others) form (λ t v is. operands_untyped c.insts form t v others is) e
      ∙ keeps_operands c.insts u form type (drop (first_operand form) c.words) others (near_drop c.insts (first_operand form) c.words c.others (near_words c)) h

  pub keeps_arithmetic : IsUnbroken c.insts → operands_fit c.insts (as_instruction c.words) ≡ true → operands_fit c.insts (as_instruction c.others) ≡ true
  unfolding operands_fit
  keeps_arithmetic u h =
      ap (λ (o : ℕ). form_operands_fit c.insts (form_of o) (as_instruction c.others)) (same_code c) ∙ keeps_form_operands u (form_of (code c)) refl h

  same_form_result : (form : Option Form) → form_of (code c) ≡ form → form_result_fits c.insts form (as_instruction c.others) ≡ form_result_fits c.insts form (as_instruction c.words)
  same_form_result None e = refl
  same_form_result (Some form) e =
      let others : List ℕ = drop (first_operand form) c.others in
      by_type (λ form t. result_suits c.insts form t others) form (λ t v is. result_untyped c.insts form t v others is) e
      ∙ same_result c.insts form type (drop (first_operand form) c.words) others (near_drop c.insts (first_operand form) c.words c.others (near_words c))

  pub same_arithmetic_result : result_fits c.insts (as_instruction c.others) ≡ result_fits c.insts (as_instruction c.words)
  unfolding result_fits
  same_arithmetic_result =
      ap (λ (o : ℕ). form_result_fits c.insts (form_of o) (as_instruction c.others)) (same_code c) ∙ same_form_result (form_of (code c)) refl
