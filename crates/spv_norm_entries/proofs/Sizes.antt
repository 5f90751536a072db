-- 605: the modes and decorations are the same, and so are the constants that they name.
use Rattle.std.proofs.Common.{◌≡◌, ℕ, ◌+◌, Bool, true, false, cond, not, nat_eq, nat_lt, ◌==◌, ◌&&◌, ◌||◌, List, [], ◌∷◌, filter, drop, slice_index, Option, Some, None, refl, sym, ap, ◌∙◌, arith}
use Rattle.std.specs.Prelude.{count_by}
use Rattle.std.specs.List.{list_any}
use Rattle.std.proofs.lemmas.List.Sums.{sum_by-cons}
use Rattle.spv_opcodes.specs.declared.op.TheConstants as op
use Rattle.spv_opcodes.specs.declared.builtin.TheConstants as builtin
use Rattle.spv_opcodes.specs.declared.decoration.TheConstants as decoration
use Rattle.spv_opcodes.specs.declared.execution_mode.TheConstants as execution_mode
use Rattle.spv_module.specs.Instruction.{Instruction, opcode}
use Rattle.spv_module.specs.Layout.{is_entry_point}
use Rattle.spv_repeats.specs.Repeats.{is_workgroup_size}
use Rattle.spv_typing.specs.Kinds.{is_constant}
use Rattle.spv_tree.specs.Tree.{words_of}
use Rattle.spv_entries.specs.Sizes.{entry_function, id_function, is_mode, is_no_size, is_sized, literal_function, names, size_fits, sizes_all, sizes_unfit, some_names, unfit_function}
use Rattle.spv_alike.specs.Alike.{AreAlike}
use Rattle.spv_norm_entries.proofs.Lists.{any_same, any_words, inst_of}
use Rattle.spv_norm_entries.proofs.Lookups.{same_constant, same_size}
use Rattle.spv_norm_entries.proofs.Preamble.{is_pre, pre_of}

-- ---- tests of words that only entry points, modes and decorations pass

abbrev IsOfPre : (List ℕ → Bool) → Type 0
IsOfPre p = (w : List ℕ) → is_pre w ≡ false → p w ≡ false

any_pre : (p : List ℕ → Bool) → IsOfPre p → (ws : List (List ℕ)) → list_any p (filter is_pre ws) ≡ list_any p ws
any_pre p h [] = refl
any_pre p h (w ∷ ws) = by (is_pre w) refl (any_pre p h ws) where
  by : (b : Bool) → is_pre w ≡ b → list_any p (filter is_pre ws) ≡ list_any p ws
      → list_any p (cond b (w ∷ filter is_pre ws) (filter is_pre ws)) ≡ (p w || list_any p ws)
  by true e more = ap (λ b. p w || b) more
  by false e more = more ∙ sym (ap (λ (b : Bool). b || list_any p ws) (h w e))

pub any_alike : (p : List ℕ → Bool) → IsOfPre p → (xs ys : List Instruction) → pre_of ys ≡ pre_of xs
    → list_any (λ (i : Instruction). p i.words) ys ≡ list_any (λ (i : Instruction). p i.words) xs
any_alike p h xs ys e =
    any_words p ys ∙ sym (any_pre p h (words_of ys)) ∙ ap (list_any p) e ∙ any_pre p h (words_of xs) ∙ sym (any_words p xs)

abbrev tally : (List ℕ → Bool) → List (List ℕ) → ℕ
tally p [] = 0
tally p (w ∷ ws) = cond (p w) 1 0 + tally p ws

count_tally : (p : List ℕ → Bool) (is : List Instruction) → count_by (λ (i : Instruction). p i.words) is ≡ tally p (words_of is)
count_tally p [] = refl
count_tally p (i ∷ is) =
    sum_by-cons (λ (j : Instruction). cond (p j.words) 1 0) i is ∙ ap (λ n. cond (p i.words) 1 0 + n) (count_tally p is)

tally_pre : (p : List ℕ → Bool) → IsOfPre p → (ws : List (List ℕ)) → tally p (filter is_pre ws) ≡ tally p ws
tally_pre p h [] = refl
tally_pre p h (w ∷ ws) = by (is_pre w) refl (tally_pre p h ws) where
  none_more : (n : ℕ) → n ≡ 0 + n
  none_more n = omega arith

  by : (b : Bool) → is_pre w ≡ b → tally p (filter is_pre ws) ≡ tally p ws
      → tally p (cond b (w ∷ filter is_pre ws) (filter is_pre ws)) ≡ cond (p w) 1 0 + tally p ws
  by true e more = ap (λ n. cond (p w) 1 0 + n) more
  by false e more = more ∙ none_more (tally p ws) ∙ sym (ap (λ (b : Bool). cond b 1 0 + tally p ws) (h w e))

pub count_alike : (p : List ℕ → Bool) → IsOfPre p → (xs ys : List Instruction) → pre_of ys ≡ pre_of xs
    → count_by (λ (i : Instruction). p i.words) ys ≡ count_by (λ (i : Instruction). p i.words) xs
count_alike p h xs ys e =
    count_tally p ys ∙ sym (tally_pre p h (words_of ys)) ∙ ap (tally p) e ∙ tally_pre p h (words_of xs) ∙ sym (count_tally p xs)

-- ---- which tests are such

or_parts : (a b : Bool) → (a || b) ≡ false → (a ≡ false) × (b ≡ false)
or_parts true b h = absurd (cc h)
or_parts false b h = (refl, h)

record NotPre (w : List ℕ) : Type 0 where
  entry : is_entry_point (inst_of w) ≡ false
  mode : (opcode (inst_of w) == op.EXECUTION_MODE) ≡ false
  by_ids : (opcode (inst_of w) == op.EXECUTION_MODE_ID) ≡ false
  decorate : (opcode (inst_of w) == op.DECORATE) ≡ false

not_pre : (w : List ℕ) → is_pre w ≡ false → NotPre w
not_pre w h =
    let o : ℕ = opcode (inst_of w) in
    let one = or_parts (o == op.ENTRY_POINT) (o == op.EXECUTION_MODE || (o == op.EXECUTION_MODE_ID || (o == op.DECORATE || false))) h in
    let two = or_parts (o == op.EXECUTION_MODE) (o == op.EXECUTION_MODE_ID || (o == op.DECORATE || false)) one.1 in
    let three = or_parts (o == op.EXECUTION_MODE_ID) (o == op.DECORATE || false) two.1 in
    let four = or_parts (o == op.DECORATE) false three.1 in
    record { entry = one.0; mode = two.0; by_ids = three.0; decorate = four.0 }

abbrev named : (Instruction → Option ℕ) → (f : ℕ) → List ℕ → Bool
named kind f w = names (kind (inst_of w)) f

entry_of_pre : (f : ℕ) → IsOfPre (named entry_function f)
entry_of_pre f w h = ap (λ (b : Bool). names (cond b (Some (slice_index w 2)) None) f) (not_pre w h).entry

literal_of_pre : (f : ℕ) → IsOfPre (named literal_function f)
literal_of_pre f w h =
    ap (λ (b : Bool). names (cond (b && slice_index w 2 == execution_mode.LOCAL_SIZE) (Some (slice_index w 1)) None) f) (not_pre w h).mode

id_of_pre : (f : ℕ) → IsOfPre (named id_function f)
id_of_pre f w h =
    ap (λ (b : Bool). names (cond (b && slice_index w 2 == execution_mode.LOCAL_SIZE_ID) (Some (slice_index w 1)) None) f) (not_pre w h).by_ids

unfit_of_pre : (insts : List Instruction) (f : ℕ) → IsOfPre (named (unfit_function insts) f)
unfit_of_pre insts f w h =
    ap (λ (b : Bool). names (cond (sizes_unfit insts (inst_of w) && (b || names (id_function (inst_of w)) (slice_index w 1))) (Some (slice_index w 1)) None) f)
    (literal_of_pre (slice_index w 1) w h)
    ∙ ap (λ (b : Bool). names (cond (sizes_unfit insts (inst_of w) && b) (Some (slice_index w 1)) None) f) (id_of_pre (slice_index w 1) w h)
    ∙ ap (λ (b : Bool). names (cond b (Some (slice_index w 1)) None) f) (nothing (sizes_unfit insts (inst_of w)))
  where
    nothing : (b : Bool) → (b && false) ≡ false
    nothing true = refl
    nothing false = refl

all_of_pre : (insts : List Instruction) → IsOfPre (λ w. sizes_all insts (inst_of w))
all_of_pre insts w h =
    ap (λ (b : Bool). (b && (slice_index w 2 == decoration.BUILTIN && slice_index w 3 == builtin.WORKGROUP_SIZE)) && is_constant insts (slice_index w 1))
    (not_pre w h).decorate

-- ---- the rule

module _ (insts again : List Instruction) (a : AreAlike insts again) (same : pre_of again ≡ pre_of insts) where
  same_unfit : (i : Instruction) → sizes_unfit again i ≡ sizes_unfit insts i
  same_unfit i =
      ap (cond (opcode i == op.EXECUTION_MODE) (list_any (nat_eq 0) (drop 3 i.words)))
      (any_same (is_no_size again) (is_no_size insts) (drop 3 i.words) (same_size insts again a))

  same_unfit_function : (i : Instruction) → unfit_function again i ≡ unfit_function insts i
  same_unfit_function i =
      ap (λ (b : Bool). cond (b && (names (literal_function i) (slice_index i.words 1) || names (id_function i) (slice_index i.words 1)))
      (Some (slice_index i.words 1)) None)
      (same_unfit i)

  some_unfit : (f : ℕ) → some_names (unfit_function again) again f ≡ some_names (unfit_function insts) insts f
  some_unfit f =
      any_same (λ i. names (unfit_function again i) f) (λ i. names (unfit_function insts i) f) again (λ i. ap (λ o. names o f) (same_unfit_function i))
      ∙ any_alike (named (unfit_function insts) f) (unfit_of_pre insts f) insts again same

  some_all : list_any (sizes_all again) again ≡ list_any (sizes_all insts) insts
  some_all =
      any_same (sizes_all again) (sizes_all insts) again (λ i. ap (λ b. is_workgroup_size i && b) (same_constant insts again a (slice_index i.words 1)))
      ∙ any_alike (λ w. sizes_all insts (inst_of w)) (all_of_pre insts) insts again same

  same_sized : (f : ℕ) → is_sized again f ≡ is_sized insts f
  same_sized f = six
      (any_alike (named literal_function f) (literal_of_pre f) insts again same)
      (any_alike (named id_function f) (id_of_pre f) insts again same)
      some_all
      (ap (nat_lt 1) (count_alike (named literal_function f) (literal_of_pre f) insts again same))
      (ap (nat_lt 1) (count_alike (named id_function f) (id_of_pre f) insts again same))
      (some_unfit f)
    where
      six : {a b c d e g p q r s t u : Bool} → a ≡ p → b ≡ q → c ≡ r → d ≡ s → e ≡ t → g ≡ u
          → ((a || (b || c)) && (not d && (not e && not g))) ≡ ((p || (q || r)) && (not s && (not t && not u)))
      six h1 h2 h3 h4 h5 h6 = λ i. (h1 i || (h2 i || h3 i)) && (not (h4 i) && (not (h5 i) && not (h6 i)))

  pub size_stays : (i j : Instruction) → j.words ≡ i.words → size_fits insts i ≡ true → size_fits again j ≡ true
  unfolding size_fits
  size_stays i j s h =
      ap
      (λ w. cond (is_entry_point (inst_of w)) (is_sized again (slice_index w 2)) (not (is_mode (inst_of w)) || some_names entry_function again (slice_index w 1)))
      s
      ∙ ap (λ (b : Bool). cond (is_entry_point i) b (not (is_mode i) || some_names entry_function again (slice_index i.words 1)))
      (same_sized (slice_index i.words 2))
      ∙ ap (λ (b : Bool). cond (is_entry_point i) (is_sized insts (slice_index i.words 2)) (not (is_mode i) || b))
      (any_alike (named entry_function (slice_index i.words 1)) (entry_of_pre (slice_index i.words 1)) insts again same)
      ∙ h

-- what is no entry point and no mode passes
pub no_size : (insts : List Instruction) (i : Instruction) → is_pre i.words ≡ false → size_fits insts i ≡ true
unfolding size_fits
no_size insts i h =
    let n = not_pre i.words h in
    ap (λ (b : Bool). cond b (is_sized insts (slice_index i.words 2)) (not (is_mode i) || some_names entry_function insts (slice_index i.words 1))) n.entry
    ∙ ap (λ (b : Bool). not (b || opcode i == op.EXECUTION_MODE_ID) || some_names entry_function insts (slice_index i.words 1)) n.mode
    ∙ ap (λ (b : Bool). not b || some_names entry_function insts (slice_index i.words 1)) n.by_ids

pub no_entry : (i : Instruction) → is_pre i.words ≡ false → is_entry_point i ≡ false
no_entry i h = (not_pre i.words h).entry
