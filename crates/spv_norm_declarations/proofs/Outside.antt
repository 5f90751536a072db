-- Before the first function: an instruction that stays breaks no rule, since what went declared and defined nothing.
use Rattle.std.proofs.Common.{◌≡◌, ℕ, suc, ◌<◌, Bool, true, false, cond, not, ◌==◌, ◌&&◌, ◌||◌, List, [], ◌∷◌, ◌++◌, drop, length, take, Some, None, refl, sym, ap, ap₂, subst, ◌∙◌, arith}
use Rattle.std.proofs.lemmas.Bool.{or_parts}
use Rattle.std.specs.List.{AllByRecursion, filter, list_any, slice_get, slice_index}
use Rattle.std.specs.Map.{lookup}
use Rattle.std.specs.Option.{is_some}
use Rattle.std.specs.Prelude.{nat_eq}
use Rattle.spv_opcodes.specs.declared.decoration.TheConstants as decoration
use Rattle.spv_opcodes.specs.declared.op.TheConstants as op
use Rattle.spv_grammar.specs.Roles.{is_used_id}
use Rattle.spv_module.specs.Code.{is_line}
use Rattle.spv_module.specs.First.{first}
use Rattle.spv_module.specs.Instruction.{Instruction, opcode}
use Rattle.spv_meaning.specs.Statements.{Statement, by_row, is_silent_opcode, rows, words_of}
use Rattle.spv_meaning.specs.Constants.{Table, decorated, with_entry}
use Rattle.spv_ids.specs.Ids.{defines, is_declaration, is_defined, is_second, names_unknown, used_ids, words_with}
use Rattle.spv_repeats.specs.Repeats.{is_unique_type, is_same_type, occurs, repeats, is_decorate, is_member_decorate, is_spec_id, is_workgroup_size, is_same_decoration, is_same_member_decoration, is_same_spec_id, single_decorations}
use Rattle.spv_repeats.specs.Repeats as repeating
use Rattle.spv_typing.specs.Kinds.{is_one_of}
use Rattle.spv_typing.specs.Types.{type_fits}
use Rattle.spv_typing.specs.Operations.{spec_op_fits}
use Rattle.spv_decorations.specs.Targets.{decoration_fits}
use Rattle.spv_decorations.specs.Globals.{global_fits}
use Rattle.spv_declarations.specs.Broken.{depth_fits, group_3, layout_fits}
use Rattle.spv_declarations.specs.Constants.{constant_fits}
use Rattle.spv_declarations.specs.Declarations.{Declared, declare, declare_all, declared_before, entry, entry_of, is_specialised, nothing_declared, says}
use Rattle.spv_declarations.proofs.Declares.{one_of-holds}
use Rattle.spv_declarations.proofs.Modules.{unbroken}
use Rattle.spv_norm_declarations.proofs.Lookups.{LooksAlike}
use Rattle.spv_norm_declarations.proofs.TypeFits.{same_spec_op, same_type_fits}
use Rattle.spv_norm_declarations.proofs.OtherFits.{same_constant_fits, same_declare, same_decoration_fits, same_entry, same_global_fits}
use Rattle.spv_norm_declarations.proofs.Rules.{KeepsAll, NoneAt, breaks_none, keeps_all}

-- ---- what goes

-- opcodes of line marks, and of instructions that may name a label
abbrev pub mute : List ℕ
mute = op.LINE ∷ op.NO_LINE ∷ op.NAME ∷ op.MEMBER_NAME ∷ op.SOURCE ∷ []

record SaysNothing (o : ℕ) : Type 0 where
  silent : is_silent_opcode o ≡ true
  function : (o == op.FUNCTION) ≡ false
  by_id : is_one_of (op.SPEC_CONSTANT_TRUE ∷ op.SPEC_CONSTANT_FALSE ∷ op.SPEC_CONSTANT ∷ []) o ≡ false
  by_operands : is_one_of (op.SPEC_CONSTANT_COMPOSITE ∷ op.SPEC_CONSTANT_OP ∷ []) o ≡ false

says_nothing : (o : ℕ) → is_one_of mute o ≡ true → SaysNothing o
says_nothing o h =
    one_of-holds SaysNothing mute (
      record { silent = refl; function = refl; by_id = refl; by_operands = refl },
      (
        record { silent = refl; function = refl; by_id = refl; by_operands = refl },
        (
          record { silent = refl; function = refl; by_id = refl; by_operands = refl },
          (
            record { silent = refl; function = refl; by_id = refl; by_operands = refl },
            (record { silent = refl; function = refl; by_id = refl; by_operands = refl }, tt),
          ),
        ),
      ),
    )
    o h

abbrev made : Bool → Table → List ℕ → Declared
made b table specialised = record { begun = b; table = table; specialised = specialised }

pub declares_nothing : (all : List Statement) (d : Declared) (i : Instruction) → is_one_of mute (opcode i) ≡ true → declare all d i ≡ d
declares_nothing all d i h =
    let s = says_nothing (opcode i) h in
    let none : entry all d.table i ≡ None = ap (λ (b : Bool). entry_of all d.table
    (cond b [] (by_row (lookup (nat_eq (opcode i)) rows) (drop 1 i.words) ∷ []))) s.silent in
    let open_stays : is_specialised all d.specialised i ≡ false =
    ap₂ (λ (a b : Bool). cond a (is_some (decorated all (slice_index i.words 2) decoration.SPEC_ID))
    (b && list_any (is_one_of d.specialised) (words_with is_used_id i))) s.by_id s.by_operands in
    ap (λ b. made (d.begun || b) (cond d.begun d.table (with_entry d.table (entry all d.table i)))
    (cond (not d.begun && is_specialised all d.specialised i) (d.specialised ++ slice_index i.words 2 ∷ []) d.specialised)) s.function
    ∙ ap₂ (λ e b.
    made (d.begun || false) (cond d.begun d.table (with_entry d.table e)) (cond (not d.begun && b)
    (d.specialised ++ slice_index i.words 2 ∷ []) d.specialised)) none open_stays
    ∙ by d.begun
  where
    by : (b : Bool) → made (b || false) (cond b d.table d.table) (cond (not b && false) (d.specialised ++ slice_index i.words 2 ∷ []) d.specialised)
        ≡ made b d.table d.specialised
    by true = refl
    by false = refl

-- an instruction that goes says nothing and defines nothing
pub record IsMute (i : Instruction) : Type 0 where
  pub named : is_one_of mute (opcode i) ≡ true
  pub defines_none : (id : ℕ) → defines id i ≡ false

abbrev pub GoesMute : (stays : Instruction → Bool) → List Instruction → Type 0
GoesMute stays is = AllByRecursion (λ i. stays i ≡ false → IsMute i) is

-- ---- by the words of instructions

abbrev of : List ℕ → Instruction
of ws = record { offset = 0; words = ws }

any_by_words : (p : Instruction → Bool) → ((i : Instruction) → p i ≡ p (of i.words)) → (xs ys : List Instruction) → words_of xs ≡ words_of ys
    → list_any p xs ≡ list_any p ys
any_by_words p same [] [] e = refl
any_by_words p same [] (y ∷ ys) e = absurd (cc e)
any_by_words p same (x ∷ xs) [] e = absurd (cc e)
any_by_words p same (x ∷ xs) (y ∷ ys) e =
    let here : x.words ≡ y.words = cc e in
    let later : words_of xs ≡ words_of ys = cc e in
    ap₂ (λ a b. a || b) (same x ∙ ap (λ ws. p (of ws)) here ∙ sym (same y)) (any_by_words p same xs ys later)

-- what passes for none passes for none of those that stay
any_fewer : (p stays : Instruction → Bool) (is : List Instruction) → list_any p is ≡ false → list_any p (filter stays is) ≡ false
any_fewer p stays [] h = refl
any_fewer p stays (i ∷ is) h = by (stays i) (or_parts (p i) (list_any p is) h).0 (any_fewer p stays is (or_parts (p i) (list_any p is) h).1) where
  by : (b : Bool) → p i ≡ false → list_any p (filter stays is) ≡ false → list_any p (cond b (i ∷ filter stays is) (filter stays is)) ≡ false
  by true g more = ap₂ (λ a b. a || b) g more
  by false g more = more

-- what passes for nothing that goes passes for those that stay
any_staying : (p stays : Instruction → Bool) (is : List Instruction) → AllByRecursion (λ i. stays i ≡ false → p i ≡ false) is
    → list_any p (filter stays is) ≡ list_any p is
any_staying p stays [] h = refl
any_staying p stays (i ∷ is) h = by (stays i) refl (any_staying p stays is h.1) where
  by : (b : Bool) → stays i ≡ b → list_any p (filter stays is) ≡ list_any p is
      → list_any p (cond b (i ∷ filter stays is) (filter stays is)) ≡ (p i || list_any p is)
  by true e more = ap (λ b. p i || b) more
  by false e more = more ∙ sym (ap (λ b. b || list_any p is) (h.0 e))

all_to : (P Q : Instruction → Type 0) (is : List Instruction) → ((i : Instruction) → P i → Q i) → AllByRecursion P is → AllByRecursion Q is
all_to P Q [] to h = tt
all_to P Q (i ∷ is) to h = (to i h.0, all_to P Q is to h.1)

none_of : (p stays : Instruction → Bool) → ((i : Instruction) → p i ≡ p (of i.words)) → (qs pre : List Instruction) → words_of qs ≡ words_of
    (filter stays pre)
    → list_any p pre ≡ false → list_any p qs ≡ false
none_of p stays same qs pre e h = any_by_words p same qs (filter stays pre) e ∙ any_fewer p stays pre h

-- ---- 303 and 306: what is new stays new

new_type_stays : (stays : Instruction → Bool) (qs pre : List Instruction) (i : Instruction) → words_of qs ≡ words_of (filter stays pre)
    → occurs pre i ≡ false → occurs qs i ≡ false
new_type_stays stays qs pre i e h = by (is_unique_type i) h where
  by : (b : Bool) → (b && list_any (is_same_type i) pre) ≡ false → (b && list_any (is_same_type i) qs) ≡ false
  by true g = none_of (is_same_type i) stays (λ x. refl) qs pre e g
  by false g = refl

mono : (a x y c : Bool) → (x ≡ false → y ≡ false) → (a && x && c) ≡ false → (a && y && c) ≡ false
mono false x y c h g = refl
mono true x false c h g = refl
mono true true true c h g = g
mono true false true c h g = absurd (cc (h refl))

mono_two : (a x y : Bool) → (x ≡ false → y ≡ false) → (a && x) ≡ false → (a && y) ≡ false
mono_two false x y h g = refl
mono_two true x y h g = h g

four_false : (a b c d : Bool) → (a || b || c || d) ≡ false → (a ≡ false) × (b ≡ false) × (c ≡ false) × (d ≡ false)
four_false false false false false h = (refl, refl, refl, refl)
four_false true b c d h = absurd (cc h)
four_false false true c d h = absurd (cc h)
four_false false false true d h = absurd (cc h)
four_false false false false true h = absurd (cc h)

four_none : (a b c d : Bool) → a ≡ false → b ≡ false → c ≡ false → d ≡ false → (a || b || c || d) ≡ false
four_none a b c d e f g h = ap₂ (λ (x y : Bool). x || y) (ap₂ (λ (x y : Bool). x || y) (ap₂ (λ (x y : Bool). x || y) e f) g) h

new_decoration_stays : (stays : Instruction → Bool) (qs pre : List Instruction) (i : Instruction) → words_of qs ≡ words_of (filter stays pre)
    → repeats pre i ≡ false → repeats qs i ≡ false
new_decoration_stays stays qs pre i e h =
    let parts = four_false (repeating.repeats_on_target pre i) (repeating.repeats_on_member pre i) (repeating.repeats_spec_id pre i)
    (repeating.repeats_workgroup_size pre i) h in
    four_none (repeating.repeats_on_target qs i) (repeating.repeats_on_member qs i) (repeating.repeats_spec_id qs i) (repeating.repeats_workgroup_size qs i)
    (mono (is_decorate i) (list_any (is_same_decoration i) pre) (list_any (is_same_decoration i) qs)
    (repeating.is_one_of single_decorations (slice_index i.words 2))
    (none_of (is_same_decoration i) stays (λ x. refl) qs pre e) parts.0)
    (mono (is_member_decorate i) (list_any (is_same_member_decoration i) pre) (list_any (is_same_member_decoration i) qs)
    (repeating.is_one_of single_decorations (slice_index i.words 3)) (none_of (is_same_member_decoration i) stays (λ x. refl) qs pre e) parts.1)
    (mono_two (is_spec_id i) (list_any (is_same_spec_id i) pre) (list_any (is_same_spec_id i) qs)
    (none_of (is_same_spec_id i) stays (λ x. refl) qs pre e) parts.2)
    (mono_two (is_workgroup_size i) (list_any is_workgroup_size pre) (list_any is_workgroup_size qs)
    (none_of is_workgroup_size stays (λ x. refl) qs pre e) parts.3)

-- ---- 302: what is known

abbrev pub Knows : List Instruction → (early : Bool) → (before : List Instruction) → ℕ → Type 0
Knows insts early before id = (is_defined insts id ≡ true) × (early ≡ true → is_defined before id ≡ true)

-- it names no unknown id among these
abbrev pub unknown_among : List Instruction → (early : Bool) → (before : List Instruction) → ℕ → Bool
unknown_among insts early before id = not (is_defined insts id) || (early && not (is_defined before id))

pub known_all : (insts : List Instruction) (early : Bool) (before : List Instruction) (ids : List ℕ) → list_any (unknown_among insts early before) ids ≡ false
    → AllByRecursion (Knows insts early before) ids
known_all insts early before [] h = tt
known_all insts early before (id ∷ ids) h =
    let parts = or_parts (unknown_among insts early before id) (list_any (unknown_among insts early before) ids) h in
    (by (is_defined insts id) early (is_defined before id) parts.0, known_all insts early before ids parts.1)
  where
    by : (a b c : Bool) → (not a || (b && not c)) ≡ false → (a ≡ true) × (b ≡ true → c ≡ true)
    by true true true h = (refl, λ e. refl)
    by true true false h = absurd (cc h)
    by true false c h = (refl, λ e. absurd (cc e))
    by false b c h = absurd (cc h)

pub all_known : (insts : List Instruction) (early : Bool) (before : List Instruction) (ids : List ℕ) → AllByRecursion (Knows insts early before) ids
    → list_any (unknown_among insts early before) ids ≡ false
all_known insts early before [] h = refl
all_known insts early before (id ∷ ids) h =
    ap₂ (λ a b. a || b) (by (is_defined insts id) early (is_defined before id) h.0.0 h.0.1) (all_known insts early before ids h.1)
  where
    by : (a b c : Bool) → a ≡ true → (b ≡ true → c ≡ true) → (not a || (b && not c)) ≡ false
    by true true true e f = refl
    by true true false e f = absurd (cc (f refl))
    by true false c e f = refl
    by false b c e f = absurd (cc e)

known_again : (insts again : List Instruction) (early : Bool) (pre qs : List Instruction) → ((id : ℕ) → is_defined pre id ≡ true → is_defined qs id ≡ true)
    → (ids : List ℕ)
    → AllByRecursion (Knows insts early pre) ids → AllByRecursion (λ id. is_defined again id ≡ true) ids → AllByRecursion (Knows again early qs) ids
known_again insts again early pre qs stays [] h g = tt
known_again insts again early pre qs stays (id ∷ ids) h g = ((g.0, λ e. stays id (h.0.1 e)), known_again insts again early pre qs stays ids h.1 g.1)

-- ---- places

pub take_front : (xs ys : List Instruction) → take (length xs) (xs ++ ys) ≡ xs
take_front [] ys = refl
take_front (x ∷ xs) ys = ap (λ z. x ∷ z) (take_front xs ys)

pub get_behind : (xs ys : List Instruction) (y : Instruction) → slice_get (xs ++ y ∷ ys) (length xs) ≡ Some y
get_behind [] ys y = refl
get_behind (x ∷ xs) ys y = get_behind xs ys y

-- ---- the same words

type_fits_words : (insts : List Instruction) (i j : Instruction) → j.words ≡ i.words → type_fits insts j ≡ type_fits insts i
unfolding type_fits
type_fits_words insts i j e = ap (λ ws. type_fits insts (of ws)) e

spec_op_words : (insts : List Instruction) (i j : Instruction) → j.words ≡ i.words → spec_op_fits insts j ≡ spec_op_fits insts i
unfolding spec_op_fits
spec_op_words insts i j e = ap (λ ws. spec_op_fits insts (of ws)) e

decoration_words : (insts : List Instruction) (i j : Instruction) → j.words ≡ i.words → decoration_fits insts j ≡ decoration_fits insts i
unfolding decoration_fits
decoration_words insts i j e = ap (λ ws. decoration_fits insts (of ws)) e

global_words : (insts : List Instruction) (begun : Bool) (i j : Instruction) → j.words ≡ i.words → global_fits insts begun j ≡ global_fits insts begun i
unfolding global_fits
global_words insts begun i j e = ap (λ ws. global_fits insts begun (of ws)) e

module _ (insts again : List Instruction) (alike : LooksAlike insts again) (stays : Instruction → Bool) where
  -- by induction on the instructions
  same_words_declare : (d : Declared) (xs ys : List Instruction) → words_of xs ≡ words_of ys → declare_all (says again) d xs ≡ declare_all (says insts) d ys
  same_words_declare d [] [] e = refl
  same_words_declare d [] (y ∷ ys) e = absurd (cc e)
  same_words_declare d (x ∷ xs) [] e = absurd (cc e)
  same_words_declare d (x ∷ xs) (y ∷ ys) e =
      let here : x.words ≡ y.words = cc e in
      let later : words_of xs ≡ words_of ys = cc e in
      ap (λ c. declare_all (says again) c xs) (ap (λ ws. declare (says again) d (of ws)) here ∙ same_declare insts again alike d y)
      ∙ same_words_declare (declare (says insts) d y) xs ys later

  staying_declare : (all : List Statement) (d : Declared) (is : List Instruction) → GoesMute stays is → declare_all all d
      (filter stays is) ≡ declare_all all d is
  staying_declare all d [] h = refl
  staying_declare all d (i ∷ is) h = by (stays i) refl (λ c. staying_declare all c is h.1) where
    by : (b : Bool) → stays i ≡ b → ((c : Declared) → declare_all all c (filter stays is) ≡ declare_all all c is)
        → declare_all all d (cond b (i ∷ filter stays is) (filter stays is)) ≡ declare_all all (declare all d i) is
    by true e more = more (declare all d i)
    by false e more = more d ∙ ap (λ c. declare_all all c is) (sym (declares_nothing all d i (h.0 e).named))

  defined_stays : (qs pre : List Instruction) → words_of qs ≡ words_of (filter stays pre) → GoesMute stays pre → (id : ℕ) → is_defined pre id ≡ true
      → is_defined qs id ≡ true
  defined_stays qs pre e mutes id h =
      any_by_words (defines id) (λ x. refl) qs (filter stays pre) e
      ∙ any_staying (defines id) stays pre (all_to (λ i. stays i ≡ false → IsMute i) (λ i. stays i ≡ false → defines id i ≡ false) pre
      (λ i f g. (f g).defines_none id) mutes)
      ∙ h

  -- an instruction that stays breaks no rule where it stood, and so none where it stands
  pub none_outside : first (group_3 insts) ≡ None
      → ((k : ℕ) (i : Instruction) → slice_get again k ≡ Some i → is_line i ≡ false → is_second again k i ≡ false)
      → (pre : List Instruction) (i : Instruction) (post qs : List Instruction) (j : Instruction) (behind : List Instruction)
      → insts ≡ pre ++ i ∷ post → again ≡ qs ++ j ∷ behind → words_of qs ≡ words_of (filter stays pre) → j.words ≡ i.words → GoesMute stays pre
      → is_line i ≡ false → AllByRecursion (λ id. is_defined again id ≡ true) (used_ids i) → NoneAt again qs j
  none_outside clean once pre i post qs j behind cut cut_again same_before same mutes plain known =
      breaks_none again (declare_all (says again) nothing_declared qs) (length qs) j
      (subst (λ c. KeepsAll again c (length qs) j) (sym same_state)
      record {
        kept = record {
          once = once (length qs) j at_again (ap (λ ws. is_line (of ws)) same ∙ plain);
          known =
              ap (λ ws. names_unknown again d.begun (length qs) (of ws)) same
              ∙ ap (λ bs. list_any (unknown_among again (is_declaration d.begun i) bs) (used_ids i)) before_again
              ∙ all_known again (is_declaration d.begun i) qs (used_ids i)
              (known_again insts again (is_declaration d.begun i) pre qs (defined_stays qs pre same_before mutes) (used_ids i)
              (known_all insts (is_declaration d.begun i) pre (used_ids i)
              (sym (ap (λ bs. list_any (unknown_among insts (is_declaration d.begun i) bs) (used_ids i)) before) ∙ keeps.kept.known)) known);
          types = type_fits_words again i j same ∙ same_type_fits insts again alike i ∙ keeps.kept.types;
          new_type =
              ap (λ bs. occurs bs j) before_again ∙ ap (λ ws. occurs qs (of ws)) same
              ∙ new_type_stays stays qs pre i same_before (sym (ap (λ bs. occurs bs i) before) ∙ keeps.kept.new_type);
          constants =
              ap (λ ws. d.begun || constant_fits again d (of ws)) same ∙ ap (λ b. d.begun || b) (same_constant_fits insts again alike d i)
              ∙ keeps.kept.constants;
          operations = spec_op_words again i j same ∙ same_spec_op insts again alike i ∙ keeps.kept.operations;
          decorations = decoration_words again i j same ∙ same_decoration_fits insts again alike i ∙ keeps.kept.decorations;
          layouts = ap (λ ws. layout_fits d (of ws)) same ∙ keeps.kept.layouts;
          globals = global_words again d.begun i j same ∙ same_global_fits insts again alike d.begun i ∙ keeps.kept.globals;
          depths =
              ap (λ ws. depth_fits (cond d.begun None (entry (says again) d.table (of ws)))) same
              ∙ ap (λ e. depth_fits (cond d.begun None e)) (same_entry insts again alike d.table i) ∙ keeps.kept.depths;
        };
        new_decoration =
            ap (λ bs. repeats bs j) before_again ∙ ap (λ ws. repeats qs (of ws)) same
            ∙ new_decoration_stays stays qs pre i same_before (sym (ap (λ bs. repeats bs i) before) ∙ keeps.new_decoration);
      })
    where
      k : ℕ
      k = length pre

      d : Declared
      d = declared_before insts (length pre)

      before : take (length pre) insts ≡ pre
      before = ap (take (length pre)) cut ∙ take_front pre (i ∷ post)

      before_again : take (length qs) again ≡ qs
      before_again = ap (take (length qs)) cut_again ∙ take_front qs (j ∷ behind)

      at : slice_get insts (length pre) ≡ Some i
      at = ap (λ is. slice_get is (length pre)) cut ∙ get_behind pre post i

      at_again : slice_get again (length qs) ≡ Some j
      at_again = ap (λ is. slice_get is (length qs)) cut_again ∙ get_behind qs behind j

      same_state : declare_all (says again) nothing_declared qs ≡ declared_before insts (length pre)
      same_state =
          same_words_declare nothing_declared qs (filter stays pre) same_before ∙ staying_declare (says insts) nothing_declared pre mutes
          ∙ ap (declare_all (says insts) nothing_declared) (sym before)

      below : length pre < suc (length pre)
      below = omega arith

      keeps : KeepsAll insts (declared_before insts (length pre)) (length pre) i
      keeps = keeps_all insts (declared_before insts (length pre)) (length pre) i plain (unbroken insts (suc (length pre)) clean (length pre) i below at)
