-- Arithmetic takes and gives the same in modules that are alike but for what has gone, where it uses nothing that has.
use Rattle.std.proofs.Common.{◌≡◌, ℕ, zero, suc, Bool, ◌==◌, ◌&&◌, ◌||◌, nat_eq, nat_le, true, false, cond, List, [], ◌∷◌, length, drop, Option, Some, None, refl, sym, ap, ap₂, subst, ◌∙◌, eqb-true}
use Rattle.std.specs.List.{AllByRecursion, list_all, slice_index}
use Rattle.std.specs.Map.{lookup}
use Rattle.spv_opcodes.specs.declared.op.TheConstants as op
use Rattle.spv_grammar.specs.Table.{row_of}
use Rattle.spv_module.specs.Instruction.{Instruction, opcode}
use Rattle.spv_typing.specs.declared.shapes.Shape.{Shape}
use Rattle.spv_typing.specs.Operations.{shape, has_shape, count_of}
use Rattle.spv_values.specs.Values.{is_value_of, is_ints, is_bools}
use Rattle.spv_arithmetic.specs.declared.forms.Form.{Form}
use Rattle.spv_arithmetic.specs.Forms.{forms, form_of, first_operand}
use Rattle.spv_arithmetic.specs.declared.forms.Form.TheVariants.{Ints, Bools, Compares, Reduces, Pairs, FieldInserts, FieldExtracts, Selects, Extended, Converts, Branches, Switches}
use Rattle.spv_arithmetic.specs.Operands.{common_count, all_ints, all_bools, have_one_type, is_field, has_components, condition_fits, suits_set, operands_suit}
use Rattle.spv_arithmetic.specs.Operands.{form_operands_fit, operands_fit}
use Rattle.spv_arithmetic.specs.Results.{are_two_of, is_pair_of, gives_ints, gives_bools, result_suits, form_result_fits, result_fits}
use Rattle.spv_alike.proofs.Lookups.{and_left, and_right}
use Rattle.spv_alike_uses.specs.Laws.{UsesWhatStays}
use Rattle.spv_alike_uses.proofs.Used.{word_uses, end_uses, used_word, used_words}
use Rattle.spv_alike_uses.proofs.Lookups.{Case, In, all_on, by_one, same_test, same_closed, same_shape, same_value_shape, same_value_of, same_ints, same_bools, of_type}

-- ---- what an instruction of a form uses

abbrev pub uses_of : (o : ℕ) → Form → Bool
uses_of o Branches = word_uses 0 o
uses_of o Switches = word_uses 0 o
uses_of o Converts = true
uses_of o Extended = word_uses 0 o && (word_uses 2 o && end_uses 4 o)
uses_of o form = word_uses 0 o && end_uses 2 o

-- by computing over the forms
all_use : list_all (λ pair. uses_of pair.0 pair.1) forms ≡ true
unfolding row_of
all_use = refl

-- induction on the forms
looked : (table : List (ℕ × Form)) → list_all (λ pair. uses_of pair.0 pair.1) table ≡ true → (o : ℕ) (form : Form) → lookup (nat_eq o) table ≡ Some form → uses_of o form ≡ true
looked [] all o form h = absurd (cc h)
looked (x ∷ xs) all o form h = by (nat_eq o x.0) refl (looked xs (and_right (uses_of x.0 x.1) (list_all (λ pair. uses_of pair.0 pair.1) xs) all) o form)
  where
    by : (b : Bool) → nat_eq o x.0 ≡ b → (lookup (nat_eq o) xs ≡ Some form → uses_of o form ≡ true) → uses_of o form ≡ true
    by true e rest =
        let same : x.1 ≡ form = cc (ap (λ (b : Bool). cond b (Some x.1) (lookup (nat_eq o) xs)) (sym e) ∙ h) in
        ap (λ (n : ℕ). uses_of n form) (eqb-true o x.0 e) ∙ ap (uses_of x.0) (sym same)
        ∙ and_left (uses_of x.0 x.1) (list_all (λ pair. uses_of pair.0 pair.1) xs) all
    by false e rest = rest (ap (λ (b : Bool). cond b (Some x.1) (lookup (nat_eq o) xs)) (sym e) ∙ h)

first_of : (ws : List ℕ) (k : ℕ) → slice_index (drop k ws) 0 ≡ slice_index ws k
first_of ws zero = refl
first_of [] (suc k) = refl
first_of (w ∷ ws) (suc k) = first_of ws k

behind_five : (ws : List ℕ) → drop 2 (drop 3 ws) ≡ drop 5 ws
behind_five [] = refl
behind_five (a ∷ []) = refl
behind_five (a ∷ b ∷ []) = refl
behind_five (a ∷ b ∷ x ∷ ws) = refl

module _ (c : Case) where
  abbrev All : List ℕ → Type 0
  All ids = AllByRecursion (In c) ids

  head_stays : (ids : List ℕ) → All ids → In c (slice_index ids 0)
  head_stays [] all = c.alike.zero
  head_stays (id ∷ ids) all = all.0

  same_count : (ids : List ℕ) → All ids → common_count c.after ids ≡ common_count c.before ids
  same_count ids all = ap count_of (same_value_shape c (slice_index ids 0) (head_stays ids all))

  same_all_ints : (ids : List ℕ) → All ids → all_ints c.after ids ≡ all_ints c.before ids
  same_all_ints ids all =
      ap (λ (n : ℕ). list_all (λ id. is_ints c.after n id) ids) (same_count ids all)
      ∙ all_on (In c) (λ id. is_ints c.after (common_count c.before ids) id) (λ id. is_ints c.before (common_count c.before ids) id)
      (same_ints c (common_count c.before ids)) ids all

  same_all_bools : (ids : List ℕ) → All ids → all_bools c.after ids ≡ all_bools c.before ids
  same_all_bools ids all =
      ap (λ (n : ℕ). list_all (λ id. is_bools c.after n id) ids) (same_count ids all)
      ∙ all_on (In c) (λ id. is_bools c.after (common_count c.before ids) id) (λ id. is_bools c.before (common_count c.before ids) id)
      (same_bools c (common_count c.before ids)) ids all

  same_one_type : (a b : ℕ) → In c a → In c b → have_one_type c.after a b ≡ have_one_type c.before a b
  same_one_type a b ga gb =
      of_type c (λ t. is_value_of c.after t b) (λ t. is_value_of c.before t b) false (λ t g. same_value_of c t b gb) a ga

  same_field : (offset count : ℕ) → In c offset → In c count → is_field c.after offset count ≡ is_field c.before offset count
  same_field offset count g h = ap₂ (λ (a b : Bool). a && b) (same_ints c 1 offset g) (same_ints c 1 count h)

  same_components : (o : Option Shape) (x : ℕ) → In c x → has_components c.after o x ≡ has_components c.before o x
  same_components None x g = refl
  same_components (Some s) x g = same_bools c s.count x g

  same_condition : (t x : ℕ) → In c t → In c x → condition_fits c.after t x ≡ condition_fits c.before t x
  same_condition t x gt gx =
      ap₂ (λ (a b : Bool). a || b) (same_bools c 1 x gx)
      (same_components (shape c.after t) x gx ∙ ap (λ (o : Option Shape). has_components c.before o x) (same_shape c t gt))

  same_set : (set : ℕ) (ids : List ℕ) → In c set → All ids → suits_set c.after set ids ≡ suits_set c.before set ids
  unfolding suits_set
  same_set set ids g all = ap₂ (λ (a b : Bool). a && b) (same_test c op.EXT_INST_IMPORT refl set g) (same_all_ints ids all)

  -- what stays of the type and the operands of a form
  abbrev Stay : Form → (t : ℕ) → (ids : List ℕ) → Type 0
  Stay Branches t ids = In c (slice_index ids 0)
  Stay Switches t ids = In c (slice_index ids 0)
  Stay Converts t ids = Unit {0}
  Stay Extended t ids = In c t × In c (slice_index ids 0) × All (drop 2 ids)
  Stay form t ids = In c t × All ids

  same_operands : (form : Form) (t : ℕ) (ids : List ℕ) → Stay form t ids → operands_suit c.after form t ids ≡ operands_suit c.before form t ids
  same_operands (Ints n) t ids s = ap (λ (b : Bool). length ids == n && b) (same_all_ints ids s.1)
  same_operands (Bools n) t ids s = ap (λ (b : Bool). length ids == n && b) (same_all_bools ids s.1)
  same_operands Compares t ids s = ap (λ (b : Bool). length ids == 2 && b) (same_all_ints ids s.1)
  same_operands Reduces t ids s = ap₂ (λ (n : ℕ) (b : Bool). length ids == 1 && (nat_le 2 n && b)) (same_count ids s.1) (same_all_bools ids s.1)
  same_operands Pairs t (a ∷ b ∷ []) s = ap₂ (λ (x y : Bool). x && y) (same_all_ints (a ∷ b ∷ []) s.1) (same_one_type a b s.1.0 s.1.1.0)
  same_operands FieldInserts t (base ∷ insert ∷ offset ∷ count ∷ []) s =
      ap₂ (λ (x y : Bool). x && y) (same_all_ints (base ∷ insert ∷ []) (s.1.0, (s.1.1.0, tt))) (same_field offset count s.1.1.1.0 s.1.1.1.1.0)
  same_operands FieldExtracts t (base ∷ offset ∷ count ∷ []) s =
      ap₂ (λ (x y : Bool). x && y) (same_all_ints (base ∷ []) (s.1.0, tt)) (same_field offset count s.1.1.0 s.1.1.1.0)
  same_operands Selects t (x ∷ a ∷ b ∷ []) s =
      ap₂ (λ (x y : Bool). x && y) (same_condition t x s.0 s.1.0)
      (ap₂ (λ (x y : Bool). x && y) (same_value_of c t a s.1.1.0) (same_value_of c t b s.1.1.1.0))
  same_operands Extended t (set ∷ number ∷ ids) s = same_set set ids s.1 s.2
  same_operands Branches t (condition ∷ labels) s = same_bools c 1 condition s
  same_operands Switches t (selector ∷ targets) s = same_ints c 1 selector s
  same_operands form t ids s = refl

  -- ---- results

  same_pair_of : (t u : ℕ) → In c t → is_pair_of c.after t u ≡ is_pair_of c.before t u
  same_pair_of t u = by_one c (λ test w ws. test op.TYPE_STRUCT && are_two_of u (ws 2)) false (λ w ws. refl) t

  same_gives_ints : (t : ℕ) (ids : List ℕ) → In c t → All ids → gives_ints c.after t (common_count c.after ids) ≡ gives_ints c.before t (common_count c.before ids)
  same_gives_ints t ids g all = ap₂ (λ (n : ℕ) (o : Option Shape). has_shape false n o) (same_count ids all) (same_shape c t g)

  same_gives_bools : (t : ℕ) (ids : List ℕ) → In c t → All ids → gives_bools c.after t (common_count c.after ids) ≡ gives_bools c.before t (common_count c.before ids)
  same_gives_bools t ids g all = ap₂ (λ (n : ℕ) (o : Option Shape). has_shape true n o) (same_count ids all) (same_shape c t g)

  same_result : (form : Form) (t : ℕ) (ids : List ℕ) → Stay form t ids → result_suits c.after form t ids ≡ result_suits c.before form t ids
  same_result (Ints n) t ids s = same_gives_ints t ids s.0 s.1
  same_result (Bools n) t ids s = same_gives_bools t ids s.0 s.1
  same_result Compares t ids s = same_gives_bools t ids s.0 s.1
  same_result Reduces t ids s = ap (has_shape true 1) (same_shape c t s.0)
  same_result Pairs t ids s =
      of_type c (is_pair_of c.after t) (is_pair_of c.before t) false (λ u g. same_pair_of t u s.0) (slice_index ids 0) (head_stays ids s.1)
  same_result FieldInserts t ids s = same_gives_ints t ids s.0 s.1
  same_result FieldExtracts t ids s = same_gives_ints t ids s.0 s.1
  same_result Selects t ids s = same_closed c t s.0
  same_result Extended t (set ∷ number ∷ ids) s = same_gives_ints t ids s.0 s.2
  same_result form t ids s = refl

  -- ---- by the instruction

  module _ (i : Instruction) (uses : UsesWhatStays c.gone i) where
    word : (k : ℕ) → word_uses k (opcode i) ≡ true → In c (slice_index i.words (suc k))
    word = used_word (In c) i uses.whole uses.used

    words : (k : ℕ) → end_uses k (opcode i) ≡ true → All (drop (suc k) i.words)
    words = used_words (In c) i uses.whole uses.used

    usual : (word_uses 0 (opcode i) && end_uses 2 (opcode i)) ≡ true → In c (slice_index i.words 1) × All (drop 3 i.words)
    usual h = (
      word 0 (and_left (word_uses 0 (opcode i)) (end_uses 2 (opcode i)) h),
      words 2 (and_right (word_uses 0 (opcode i)) (end_uses 2 (opcode i)) h),
    )

    extended_stay : (word_uses 0 (opcode i) && (word_uses 2 (opcode i) && end_uses 4 (opcode i))) ≡ true
        → In c (slice_index i.words 1) × In c (slice_index (drop 3 i.words) 0) × All (drop 2 (drop 3 i.words))
    extended_stay h =
        let more = and_right (word_uses 0 (opcode i)) (word_uses 2 (opcode i) && end_uses 4 (opcode i)) h in (
          word 0 (and_left (word_uses 0 (opcode i)) (word_uses 2 (opcode i) && end_uses 4 (opcode i)) h),
          subst (In c) (sym (first_of i.words 3)) (word 2 (and_left (word_uses 2 (opcode i)) (end_uses 4 (opcode i)) more)),
          subst All (sym (behind_five i.words)) (words 4 (and_right (word_uses 2 (opcode i)) (end_uses 4 (opcode i)) more)),
        )

    stay : (form : Form) → uses_of (opcode i) form ≡ true → Stay form (slice_index i.words 1) (drop (first_operand form) i.words)
    stay Branches h = subst (In c) (sym (first_of i.words 1)) (word 0 h)
    stay Switches h = subst (In c) (sym (first_of i.words 1)) (word 0 h)
    stay Converts h = tt
    stay Extended h = extended_stay h
    stay (Ints n) h = usual h
    stay (Bools n) h = usual h
    stay Compares h = usual h
    stay Reduces h = usual h
    stay Pairs h = usual h
    stay FieldInserts h = usual h
    stay FieldExtracts h = usual h
    stay Selects h = usual h

    same_form_operands : (form : Option Form) → form_of (opcode i) ≡ form → form_operands_fit c.after form i ≡ form_operands_fit c.before form i
    same_form_operands None e = refl
    same_form_operands (Some form) e =
        same_operands form (slice_index i.words 1) (drop (first_operand form) i.words) (stay form (looked forms all_use (opcode i) form e))

    pub same_operands_fit : operands_fit c.after i ≡ operands_fit c.before i
    unfolding operands_fit
    same_operands_fit = same_form_operands (form_of (opcode i)) refl

    same_form_result : (form : Option Form) → form_of (opcode i) ≡ form → form_result_fits c.after form i ≡ form_result_fits c.before form i
    same_form_result None e = refl
    same_form_result (Some form) e =
        same_result form (slice_index i.words 1) (drop (first_operand form) i.words) (stay form (looked forms all_use (opcode i) form e))

    pub same_result_fits : result_fits c.after i ≡ result_fits c.before i
    unfolding result_fits
    same_result_fits = same_form_result (form_of (opcode i)) refl
