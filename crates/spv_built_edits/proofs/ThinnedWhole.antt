-- What is left of a module that is built is built of its functions without the steps that were dropped.
use Rattle.std.proofs.Common.{◌≡◌, ℕ, Bool, true, false, cond, ◌&&◌, ◌||◌, ◌==◌, not, List, [], ◌∷◌, ◌++◌, filter, map, zero, suc, nat_eq, arith, drop, Some, None, refl, sym, ap, subst, ◌∙◌}
use Rattle.std.specs.List.{AllByRecursion, flat_map, slice_get, slice_index}
use Rattle.std.specs.Option.{option_map_or}
use Rattle.std.proofs.lemmas.Bool.Decides.{nat_tests}
use Rattle.spv_opcodes.specs.declared.op.TheConstants as op
use Rattle.spv_grammar.specs.Roles.{is_defined_id}
use Rattle.spv_grammar.specs.Table.{row_of}
use Rattle.spv_module.specs.Code.{is_line}
use Rattle.spv_module.specs.Instruction.{Instruction, IsInstruction, opcode, roles, word_with}
use Rattle.spv_module.specs.Layout.{is_entry_point}
use Rattle.spv_declarations.specs.Laws.{IsUnbroken}
use Rattle.spv_declarations.proofs.Parts.{defined-typed, first_typed, row_test, typed-words}
use Rattle.spv_ids.specs.Ids.{defines}
use Rattle.spv_repeats.specs.Repeats.{is_workgroup_size}
use Rattle.spv_entries.specs.Sizes.{is_mode}
use Rattle.spv_typing.specs.Kinds.{is_one_of}
use Rattle.spv_bodies.specs.Bodies.{Function, Parameter}
use Rattle.spv_bodies.specs.Listing.{Branching, in_order, instruction, label_line, lines, listed, pair_words, phi_line, phi_pairs}
use Rattle.spv_normal_trees.proofs.Texts.{opcode_spelled}
use Rattle.spv_tree.specs.Branches.{branches_in}
use Rattle.spv_tree.specs.Sound.{opcode_in}
use Rattle.spv_tree.specs.Tree.{words_of}
use Rattle.spv_editing.specs.Editing.{Edit, KeepsSteps, edited_function}
use Rattle.spv_editing.specs.Showing.{AStep, AUse, Shown, edited_shown, shown}
use Rattle.spv_editing.proofs.Shows.{shown-kept}
use Rattle.spv_spelling.specs.Whole.{AreInstructions}
use Rattle.spv_fine.specs.Fine.{IsFine, used_in}
use Rattle.spv_fine.specs.Laws.{IsKnown, Told}
use Rattle.spv_fine_edits.specs.Giving.{Begins, fronts_of}
use Rattle.spv_fine_edits.specs.Laws.{StaysOrGoes}
use Rattle.spv_fine_edits.proofs.Bools.{both_told, each_told}
use Rattle.spv_fine_edits.proofs.Dropped.{fine_where_dropped}
use Rattle.spv_typed_trees.specs.Typed.{as_instruction}
use Rattle.spv_norm.specs.Norm.{outside}
use Rattle.spv_alike_uses.specs.Alike.{AreAlikeBut, Stays}
use Rattle.spv_alike_uses.proofs.Lookups.{Case, In}
use Rattle.spv_alike_uses.proofs.Used.{used_word, word_uses}
use Rattle.spv_thinned.specs.Thinned.{IsThinned}
use Rattle.spv_thinned.proofs.Definitions.{Fact, same_words}
use Rattle.spv_thinned.proofs.Walk.{each_at, inst}
use Rattle.spv_thinned.proofs.Whole.{facts_of, thinned_is_alike}
use Rattle.spv_built.specs.Built.{AreBuilt, FunctionIsBuilt}
use Rattle.spv_built.proofs.Lists.{all_left, all_right}
use Rattle.spv_built_edits.specs.Edits.{AreEdited, StandsRound}
use Rattle.spv_built_edits.proofs.Built.{built_where_dropped}
use Rattle.spv_built_edits.proofs.Dropping.{fits_within}
use Rattle.spv_built_edits.proofs.Module.{module_stays}
use Rattle.spv_thinned_declarations.proofs.Whole.{thinned_is_declared}
use Rattle.spv_thinned_entries.specs.Laws.{KeepsEntries}
use Rattle.spv_thinned_entries.proofs.Entered.{thinned_is_entered}
use Rattle.spv_built_edits.specs.ThinnedLaws.{ThinnedIsBuilt}
use Rattle.spv_built_edits.specs.Thinned.{AreThinned, KeepsShape, KeepsSizes, shaping_kinds}
use Rattle.spv_built_edits.proofs.Kept.{all_both, known_stays, outside_is_thinned, same_pointer}
use Rattle.spv_built_edits.proofs.KeptFronts.{fronts_back}
use Rattle.spv_built_edits.proofs.KeptLines.{thinned_is_laid_out}
use Rattle.spv_built_edits.proofs.KeptSteps.{all_join, steps_back}
use Rattle.spv_built_edits.proofs.Typed.{Line, OfFront, OfParameter, OfUse, structure_again, typed_again}

-- ---- lists

all_to : {A : Type 0} (P Q : A → Type 0) (xs : List A) → ((x : A) → P x → Q x) → AllByRecursion P xs → AllByRecursion Q xs
all_to P Q [] to h = tt
all_to P Q (x ∷ xs) to h = (to x h.0, all_to P Q xs to h.1)

-- by the words of instructions
to_words : (Q : List ℕ → Type 0) (is : List Instruction) → AllByRecursion (λ (i : Instruction). Q i.words) is → AllByRecursion Q (words_of is)
to_words Q [] h = tt
to_words Q (i ∷ is) h = (h.0, to_words Q is h.1)

from_words : (Q : List ℕ → Type 0) (is : List Instruction) → AllByRecursion Q (words_of is) → AllByRecursion (λ (i : Instruction). Q i.words) is
from_words Q [] h = tt
from_words Q (i ∷ is) h = (h.0, from_words Q is h.1)

kept_by : (F P : Instruction → Type 0) (keep : Instruction → Bool) → ((i : Instruction) → F i → keep i ≡ true → P i) → (is : List Instruction)
    → AllByRecursion F is → AllByRecursion P (filter keep is)
kept_by F P keep to [] h = tt
kept_by F P keep to (i ∷ is) h = by (keep i) refl (kept_by F P keep to is h.1)
  where
    by : (b : Bool) → keep i ≡ b → AllByRecursion P (filter keep is) → AllByRecursion P (cond b (i ∷ filter keep is) (filter keep is))
    by true e more = (to i h.0 e, more)
    by false e more = more

kept_all : (P : Instruction → Type 0) (keep : Instruction → Bool) (is : List Instruction) → AllByRecursion P is → AllByRecursion P (filter keep is)
kept_all P keep is h = kept_by P P keep (λ i p e. p) is h

at_each : (P : Instruction → Type 0) (is : List Instruction) → AllByRecursion P is → (k : ℕ) (i : Instruction) → slice_get is k ≡ Some i → P i
at_each P [] h k i e = absurd (cc e)
at_each P (x ∷ xs) h zero i e = let same : x ≡ i = cc e in subst P same h.0
at_each P (x ∷ xs) h (suc k) i e = at_each P xs h.1 k i e

each_listing : (Q : List ℕ → Type 0) (fs : List Function) → AllByRecursion Q (flat_map listed fs) → AllByRecursion (λ f. AllByRecursion Q (listed f)) fs
each_listing Q [] h = tt
each_listing Q (f ∷ fs) h = (all_left Q (listed f) (flat_map listed fs) h, each_listing Q fs (all_right Q (listed f) (flat_map listed fs) h))

-- ---- kinds that are kept

entries_are_shape : (o : ℕ) → (o == op.ENTRY_POINT || (o == op.EXECUTION_MODE || o == op.EXECUTION_MODE_ID)) ≡ true → is_one_of shaping_kinds o ≡ true
entries_are_shape o h = by (o == op.CAPABILITY) (o == op.MEMORY_MODEL) (o == op.ENTRY_POINT) (o == op.EXECUTION_MODE) (o == op.EXECUTION_MODE_ID) _ h
  where
    by : (a b c d e r : Bool) → (c || (d || e)) ≡ true → (a || (b || (c || (d || (e || r))))) ≡ true
    by true b c d e r h = refl
    by false true c d e r h = refl
    by false false true d e r h = refl
    by false false false true e r h = refl
    by false false false false true r h = refl
    by false false false false false r h = absurd (cc h)

function_typed : row_test first_typed (row_of op.FUNCTION) ≡ true
unfolding row_of
function_typed = refl

itself : (k : ℕ) → nat_eq k k ≡ true
itself k = grind (arith, nat_tests)

-- ---- what lines use and define

phi_uses : word_uses 0 op.PHI ≡ true
unfolding row_of
phi_uses = refl

-- an OpPhi uses its type
type_stays : (c : Case) (k : ℕ) (here : List Branching) (p : Parameter) → Line c (phi_line k here p) → OfParameter c p
type_stays c k here p line = λ i d.
    used_word (In c) (as_instruction (phi_line k here p)) line.whole line.used 0
    (ap (word_uses 0) (opcode_spelled op.PHI (p.type ∷ p.result_id ∷ pair_words (phi_pairs k (in_order p.parents here))) (omega arith)) ∙ phi_uses)

-- an OpFunction defines its third word
function_defines : (ws : List ℕ) → IsInstruction ws (roles (inst ws)) → opcode_in ws ≡ op.FUNCTION → defines (slice_index ws 2) (inst ws) ≡ true
function_defines ws whole is =
    let typed : row_test first_typed (row_of (opcode (inst ws))) ≡ true = ap (λ o. row_test first_typed (row_of o)) is ∙ function_typed in
    let t = typed-words (inst ws) (opcode (inst ws)) whole refl typed in
    let defined : word_with is_defined_id (inst ws) ≡ Some (slice_index (drop 1 ws) 1) = defined-typed (inst ws) whole typed in
    let third : slice_index (drop 1 ws) 1 ≡ slice_index ws 2 =
    ap (λ ws. slice_index (drop 1 ws) 1) t.words_are ∙ sym (ap (λ ws. slice_index ws 2) t.words_are) in
    ap (λ o. option_map_or (nat_eq (slice_index ws 2)) o false) (defined ∙ ap Some third) ∙ itself (slice_index ws 2)

-- what is used elsewhere, behind an edit that drops steps
no_uses : (c : Case) (lines : List (List ℕ)) → AllByRecursion (OfUse c) (map AStep lines)
no_uses c [] = tt
no_uses c (line ∷ lines) = (tt, no_uses c lines)

uses_left : (c : Case) (e : Edit) (all : List Shown) → AllByRecursion (StaysOrGoes c.gone e) all → AllByRecursion (OfUse c) (flat_map (edited_shown e) all)
uses_left c e [] h = tt
uses_left c e (AStep words ∷ all) h =
    all_join (OfUse c) (map AStep (e.steps words)) (flat_map (edited_shown e) all) (no_uses c (e.steps words)) (uses_left c e all h.1)
uses_left c e (AUse id ∷ all) h = (λ i d. subst (In c) (sym h.0.0) h.0.1, uses_left c e all h.1)

-- ---- the module

module _ (gone : ℕ → Bool) (keep : Instruction → Bool) (before after : List Instruction) (fs : List Function) (formed : AreInstructions before)
    (b : AreBuilt before fs) (thin : IsThinned gone keep before after) (shape : KeepsShape keep before) (sizes : KeepsSizes keep before) where
  unbroken : IsUnbroken before
  unbroken = record { whole = formed; unrefused = b.declared }

  facts : AllByRecursion (Fact gone keep before) before
  facts = facts_of gone keep before after unbroken thin

  alike : AreAlikeBut gone before after
  alike = thinned_is_alike gone keep before after unbroken thin

  shapes : AllByRecursion (λ i. is_one_of shaping_kinds (opcode i) ≡ true → keep i ≡ true) before
  shapes = each_at (λ i. is_one_of shaping_kinds (opcode i) ≡ true → keep i ≡ true) before shape

  entries : KeepsEntries keep before
  entries k i at h = by (is_workgroup_size i) refl
    where
      none : (a b c : Bool) → c ≡ false → (a || (b || c)) ≡ true → (a || b) ≡ true
      none true b c e h = refl
      none false true c e h = refl
      none false false true e h = sym e
      none false false false e h = h

      by : (b : Bool) → is_workgroup_size i ≡ b → keep i ≡ true
      by true e = sizes k i at e
      by false e = shape k i at (entries_are_shape (opcode i) (none (is_entry_point i) (is_mode i) (is_workgroup_size i) e h))

  formed_after : AreInstructions after
  formed_after =
      at_each (λ i. IsInstruction i.words (roles i)) after
      (from_words (λ ws. IsInstruction ws (roles (inst ws))) after
      (subst (AllByRecursion (λ ws. IsInstruction ws (roles (inst ws)))) (sym thin.words)
      (to_words (λ ws. IsInstruction ws (roles (inst ws))) (filter keep before)
      (kept_all (λ i. IsInstruction i.words (roles i)) keep before (each_at (λ i. IsInstruction i.words (roles i)) before formed)))))

  marks : AllByRecursion (λ i. is_line i ≡ false) (outside after)
  marks =
      from_words (λ ws. is_line (inst ws) ≡ false) (outside after)
      (subst (AllByRecursion (λ ws. is_line (inst ws) ≡ false)) (sym (outside_is_thinned gone keep before after thin facts))
      (to_words (λ ws. is_line (inst ws) ≡ false) (filter keep (outside before)) (kept_all (λ i. is_line i ≡ false) keep (outside before) b.marks)))

  -- ---- lines of functions

  abbrev c : Case
  c = record { gone = gone; before = before; after = after; unbroken = unbroken; alike = alike }

  abbrev OwnLine : List ℕ → Type 0
  OwnLine = Line c

  -- what is kept uses what stays, and an OpFunction defines what stays
  line_of : (i : Instruction) → Fact gone keep before i → keep i ≡ true → OwnLine i.words
  line_of i f e = record {
    whole = f.whole;
    used = (f.kept e).used;
    function = λ is. (f.kept e).defined (slice_index i.words 2) (function_defines i.words f.whole is);
  }

  -- so it is in the functions that are left, by their listings
  listed_lines : (gs : List Function) → words_of after ≡ words_of (outside after) ++ flat_map listed gs
      → AllByRecursion (λ g. AllByRecursion OwnLine (listed g)) gs
  listed_lines gs e =
      each_listing OwnLine gs
      (all_right OwnLine (words_of (outside after)) (flat_map listed gs)
      (subst (AllByRecursion OwnLine) (sym thin.words ∙ e)
      (to_words OwnLine (filter keep before) (kept_by (Fact gone keep before) (λ i. OwnLine i.words) keep line_of before facts))))

  -- ---- one function

  module _ (f : Function) (e : Edit) (built : FunctionIsBuilt before f) (keeps : KeepsSteps e) (body : AllByRecursion (StaysOrGoes gone e) (shown f.body))
      (ls : AllByRecursion OwnLine (listed (edited_function e f))) where
    abbrev left : Function
    left = edited_function e f

    -- ---- in the module before

    built_within : FunctionIsBuilt before left
    built_within =
        built_where_dropped before before e gone f (fits_within gone before e f formed keeps body)
        (record { known = λ id k s. k; begins = (built.fine.function, built.fine.parameters); body = body }) built

    -- ---- in the module after

    parameter_lines : AllByRecursion OwnLine left.parameters
    parameter_lines =
        all_left OwnLine left.parameters (label_line left.label ∷ (lines (branches_in left) [] left.body ++ instruction op.FUNCTION_END [] ∷ [])) ls.1

    body_lines : AllByRecursion OwnLine (lines (branches_in left) [] left.body)
    body_lines =
        all_left OwnLine (lines (branches_in left) [] left.body) (instruction op.FUNCTION_END [] ∷ [])
        (all_right OwnLine left.parameters (label_line left.label ∷ (lines (branches_in left) [] left.body ++ instruction op.FUNCTION_END [] ∷ [])) ls.1).1

    known_again : (ids : List ℕ) → AllByRecursion (IsKnown before) ids → AllByRecursion (Stays gone) ids → AllByRecursion (IsKnown after) ids
    known_again ids h s =
        all_to (λ id. IsKnown before id × Stays gone id) (IsKnown after) ids (λ id p. known_stays gone keep before after thin facts alike id p.0 p.1)
        (all_both (IsKnown before) (Stays gone) ids h s)

    begins : Begins (IsKnown after) f
    begins = (
      known_again (used_in f.function) built.fine.function ls.0.used,
      all_to (λ ws. AllByRecursion (IsKnown before) (used_in ws) × OwnLine ws) (λ ws. AllByRecursion (IsKnown after) (used_in ws)) f.parameters
          (λ ws p. known_again (used_in ws) p.0 p.1.used)
          (all_both (λ ws. AllByRecursion (IsKnown before) (used_in ws)) OwnLine f.parameters built.fine.parameters parameter_lines),
    )

    abbrev promised : (label id : ℕ) → Bool
    promised label id = built.promised label id && not (gone id)

    fine_again : IsFine (IsKnown after) (λ label. Told (promised label)) left
    fine_again =
        fine_where_dropped e gone (IsKnown before) (IsKnown after) (λ label. Told (built.promised label)) (λ label. Told (promised label)) f
        (λ label id p s. both_told (built.promised label id) (gone id) p s) (λ label id p. each_told (built.promised label id) (gone id) p) built.sound
        (record { known = λ id k s. known_stays gone keep before after thin facts alike id k s; begins = begins; body = body }) built.fine

    fronts_stay : AllByRecursion (OfFront c) (fronts_of left.body)
    fronts_stay =
        fronts_back OwnLine (OfParameter c) (branches_in left) (type_stays c) left.body None [] built_within.sound.formed
        built_within.sound.placed tt body_lines

    uses_stay : AllByRecursion (OfUse c) (shown left.body)
    uses_stay = subst (AllByRecursion (OfUse c)) (sym (shown-kept e f.body)) (uses_left c e (shown f.body) body)

    built_again : FunctionIsBuilt after left
    built_again = record {
      sound = built_within.sound;
      opens = built_within.opens;
      short = built_within.short;
      structured =
          structure_again c (same_pointer gone keep before after thin facts) left fronts_stay built_within.typed built_within.structured;
      normal = built_within.normal;
      shallow = built_within.shallow;
      typed =
          typed_again c (λ u s. same_words gone keep before after thin facts u s 3) left built.opens.function ls.0
          (steps_back OwnLine (branches_in left) left.body [] built_within.sound.formed body_lines) uses_stay fronts_stay built_within.typed;
      promised = promised;
      fine = fine_again;
    }

  -- ---- all of them

  all_again : (fs gs : List Function) → AllByRecursion (FunctionIsBuilt before) fs → AllByRecursion (λ g. AllByRecursion OwnLine (listed g)) gs
      → AreThinned gone fs gs → AllByRecursion (FunctionIsBuilt after) gs
  all_again [] [] h ls t = tt
  all_again [] (g ∷ gs) h ls t = absurd t
  all_again (f ∷ fs) [] h ls t = absurd t
  all_again (f ∷ fs) (g ∷ gs) h ls t = (
    subst (FunctionIsBuilt after) (sym t.0.same)
        (built_again f t.0.edit h.0 t.0.keeps t.0.body (subst (λ z. AllByRecursion OwnLine (listed z)) t.0.same ls.0)),
    all_again fs gs h.1 ls.1 t.1,
  )

  are_edited : (fs gs : List Function) → AreThinned gone fs gs → AreEdited fs gs
  are_edited [] [] t = tt
  are_edited [] (g ∷ gs) t = absurd t
  are_edited (f ∷ fs) [] t = absurd t
  are_edited (f ∷ fs) (g ∷ gs) t = ((t.0.edit, t.0.keeps, t.0.same), are_edited fs gs t.1)

  round : (gs : List Function) → words_of after ≡ words_of (outside after) ++ flat_map listed gs → StandsRound after gs
  round gs lines = record {
    marks = marks;
    lines = lines;
    laid_out = λ end. thinned_is_laid_out keep end end before after shapes thin.words (b.laid_out end);
    declared = thinned_is_declared gone keep before after unbroken thin;
    entered = thinned_is_entered gone keep before after unbroken thin entries b.entered;
  }

pub thinned_is_built : ThinnedIsBuilt
thinned_is_built gone keep before after fs gs formed b thin shape sizes lines t =
    module_stays before after fs gs formed (formed_after gone keep before after fs formed b thin shape sizes) b
    (are_edited gone keep before after fs formed b thin shape sizes fs gs t) (round gone keep before after fs formed b thin shape sizes gs lines)
    (all_again gone keep before after fs formed b thin shape sizes fs gs b.functions
    (listed_lines gone keep before after fs formed b thin shape sizes gs lines) t)
