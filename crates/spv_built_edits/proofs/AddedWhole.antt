-- A module that is built is built of the same functions with a declaration more.
use Rattle.std.proofs.Common.{◌≡◌, inl, inr, ℕ, zero, suc, Bool, true, false, cond, ◌==◌, ◌&&◌, ◌||◌, List, [], ◌∷◌, ◌++◌, Option, Some, None, refl, sym, ap, ap₂, subst, ◌∙◌, append_assoc}
use Rattle.std.specs.List.{AllByRecursion, flat_map, list_any, slice_get}
use Rattle.std.specs.Option.{option_map}
use Rattle.std.proofs.lemmas.Bool.{or_parts}
use Rattle.std.proofs.lemmas.List.Elements.{All-cons, All-nil}
use Rattle.spv_opcodes.specs.declared.op.TheConstants as op
use Rattle.spv_module.specs.Code.{is_function, is_line}
use Rattle.spv_module.specs.Instruction.{Instruction, IsInstruction, opcode, roles}
use Rattle.spv_ids.specs.Ids.{definition}
use Rattle.spv_entries.specs.Bindings.{is_buffer}
use Rattle.spv_bodies.specs.Bodies.{Body, Front, Function, Parameter}
use Rattle.spv_bodies.specs.Listing.{instruction, label_line, lines, listed}
use Rattle.spv_tree.specs.Branches.{branches_in}
use Rattle.spv_tree.specs.Sound.{is_step, opcode_in}
use Rattle.spv_tree.specs.Tree.{words_of}
use Rattle.spv_editing.specs.Editing.{KeepsSteps, unchanged}
use Rattle.spv_editing.specs.Showing.{AStep, AUse, Shown, shown}
use Rattle.spv_editing.proofs.Edits.{unchanged-function}
use Rattle.spv_spelling.specs.Whole.{AreInstructions}
use Rattle.spv_availability.specs.Availability.{is_everywhere}
use Rattle.spv_fine.specs.Laws.{IsKnown, Told}
use Rattle.spv_fine_edits.specs.Giving.{fronts_of}
use Rattle.spv_fine_edits.proofs.Nothing.{all_are}
use Rattle.spv_functions.specs.Functions.{defines_pointer, is_pointer}
use Rattle.spv_respelling.proofs.EachLine.{OfSteps}
use Rattle.spv_norm.specs.Norm.{outside}
use Rattle.spv_norm_available.proofs.Known.{defined_outside, outside_defined, place_too}
use Rattle.spv_built.specs.Built.{AreBuilt, FunctionIsBuilt}
use Rattle.spv_built.proofs.Lists.{all_left, all_right}
use Rattle.spv_built_edits.specs.Edits.{AreEdited}
use Rattle.spv_built_edits.proofs.Module.{module_stays}
use Rattle.spv_added.specs.Added.{starts_function}
use Rattle.spv_added.proofs.Walk.{Adding, FactOf, In, adding, along, inst, new_defines}
use Rattle.spv_added.proofs.Cases.{case_of, uses_what_stays}
use Rattle.spv_added.proofs.Declared.{declared_of}
use Rattle.spv_added.proofs.Definitions.{same_definition, same_words}
use Rattle.spv_added.proofs.Entered.{all_entered}
use Rattle.spv_added.proofs.Interfaces.{defined_stays}
use Rattle.spv_added.proofs.Lists.{behind_same}
use Rattle.spv_added.proofs.LaidOut.{added_is_laid_out}
use Rattle.spv_added.proofs.Places.{no_function, no_line, same_outside}
use Rattle.spv_built_edits.specs.AddedLaws.{AddedIsBuilt}
use Rattle.spv_built_edits.proofs.AddedSteps.{steps_back}
use Rattle.spv_built_edits.proofs.Typed.{Line, OfFront, OfParameter, OfUse, structure_again, typed_again}
use Rattle.spv_built_edits.proofs.Wider.{is_fine_among}

-- ---- lists

all_to : {A : Type 0} (P Q : A → Type 0) (xs : List A) → ((x : A) → P x → Q x) → AllByRecursion P xs → AllByRecursion Q xs
all_to P Q [] to h = tt
all_to P Q (x ∷ xs) to h = (to x h.0, all_to P Q xs to h.1)

-- by the words of instructions
to_words : (Q : List ℕ → Type 0) (is : List Instruction) → AllByRecursion (λ (i : Instruction). Q i.words) is → AllByRecursion Q (words_of is)
to_words Q [] h = tt
to_words Q (i ∷ is) h = (h.0, to_words Q is h.1)

from_words : (Q : List ℕ → Type 0) (is : List Instruction) → AllByRecursion Q (words_of is) → AllByRecursion (λ (i : Instruction). Q i.words) is
from_words Q [] h = tt
from_words Q (i ∷ is) h = (h.0, from_words Q is h.1)

at_each : (P : Instruction → Type 0) (is : List Instruction) → AllByRecursion P is → (k : ℕ) (i : Instruction) → slice_get is k ≡ Some i → P i
at_each P [] h k i e = absurd (cc e)
at_each P (x ∷ xs) h zero i e = let same : x ≡ i = cc e in subst P same h.0
at_each P (x ∷ xs) h (suc k) i e = at_each P xs h.1 k i e

each_listing : (Q : List ℕ → Type 0) (fs : List Function) → AllByRecursion Q (flat_map listed fs) → AllByRecursion (λ f. AllByRecursion Q (listed f)) fs
each_listing Q [] h = tt
each_listing Q (f ∷ fs) h = (all_left Q (listed f) (flat_map listed fs) h, each_listing Q fs (all_right Q (listed f) (flat_map listed fs) h))

all_join : {A : Type 0} (P : A → Type 0) (xs ys : List A) → AllByRecursion P xs → AllByRecursion P ys → AllByRecursion P (xs ++ ys)
all_join P [] ys h g = g
all_join P (x ∷ xs) ys h g = (h.0, all_join P xs ys h.1 g)

words_both : (xs ys : List Instruction) → words_of (xs ++ ys) ≡ words_of xs ++ words_of ys
words_both [] ys = refl
words_both (x ∷ xs) ys = ap (λ ws. x.words ∷ ws) (words_both xs ys)

-- ---- what stands outside functions

outside_front : (front rest : List Instruction) → list_any is_function front ≡ false → starts_function rest ≡ true → outside (front ++ rest) ≡ front
outside_front [] [] none s = refl
outside_front [] (i ∷ is) none s = ap (λ (b : Bool). cond b [] (i ∷ outside is)) s
outside_front (i ∷ front) rest none s =
    let parts = or_parts (is_function i) (list_any is_function front) none in
    ap (λ (b : Bool). cond b [] (i ∷ outside (front ++ rest))) parts.0 ∙ ap (λ is. i ∷ is) (outside_front front rest parts.1 s)

-- by words
outside_words : (xs ys : List Instruction) → words_of xs ≡ words_of ys → words_of (outside xs) ≡ words_of (outside ys)
outside_words [] [] e = refl
outside_words [] (y ∷ ys) e = absurd (cc e)
outside_words (x ∷ xs) [] e = absurd (cc e)
outside_words (x ∷ xs) (y ∷ ys) e =
    let here : x.words ≡ y.words = cc e in
    let later : words_of xs ≡ words_of ys = cc e in
    ap (λ (b : Bool). words_of (cond b [] (x ∷ outside xs))) (ap (λ ws. is_function (inst ws)) here) ∙ by (is_function y) here (outside_words xs ys later)
  where
    by : (b : Bool) → x.words ≡ y.words → words_of (outside xs) ≡ words_of (outside ys)
        → words_of (cond b [] (x ∷ outside xs)) ≡ words_of (cond b [] (y ∷ outside ys))
    by true h more = refl
    by false h more = ap₂ (λ (w : List ℕ) ws. w ∷ ws) h more

any_push : (front : List Instruction) (new : Instruction) → list_any is_function front ≡ false → is_function new ≡ false
    → list_any is_function (front ++ new ∷ []) ≡ false
any_push [] new none h = ap (λ (b : Bool). b || false) h
any_push (i ∷ front) new none h =
    let parts = or_parts (is_function i) (list_any is_function front) none in
    ap₂ (λ (a b : Bool). a || b) parts.0 (any_push front new parts.1 h)

module _ (t : Adding) (fs : List Function) (b : AreBuilt t.before fs) where
  outside_before : outside t.before ≡ t.front
  outside_before = ap outside t.added.parts ∙ outside_front t.front t.rest t.added.outside t.added.functions

  outside_after : words_of (outside t.after) ≡ words_of (t.front ++ t.new ∷ [])
  outside_after =
      outside_words t.after ((t.front ++ t.new ∷ []) ++ t.rest)
      (t.added.words ∙ sym (words_both t.front (t.new ∷ t.rest)) ∙ ap words_of (sym (append_assoc t.front (t.new ∷ []) t.rest)))
      ∙ ap words_of
      (outside_front (t.front ++ t.new ∷ []) t.rest (any_push t.front t.new t.added.outside (no_function t t.new refl)) t.added.functions)

  -- functions stand behind
  rest_listed : words_of t.rest ≡ flat_map listed fs
  rest_listed =
      behind_same (words_of t.front) (words_of t.rest) (flat_map listed fs)
      (sym (words_both t.front t.rest) ∙ ap words_of (sym t.added.parts) ∙ b.lines ∙ ap (λ is. words_of is ++ flat_map listed fs) outside_before)

  marks : AllByRecursion (λ i. is_line i ≡ false) (outside t.after)
  marks =
      from_words (λ ws. is_line (inst ws) ≡ false) (outside t.after)
      (subst (AllByRecursion (λ ws. is_line (inst ws) ≡ false)) (sym outside_after)
      (to_words (λ ws. is_line (inst ws) ≡ false) (t.front ++ t.new ∷ [])
      (all_join (λ i. is_line i ≡ false) t.front (t.new ∷ []) (subst (AllByRecursion (λ i. is_line i ≡ false)) outside_before b.marks)
      (no_line t t.new refl, tt))))

  lines_after : words_of t.after ≡ words_of (outside t.after) ++ flat_map listed fs
  lines_after =
      t.added.words ∙ ap (λ ws. words_of t.front ++ t.new.words ∷ ws) rest_listed
      ∙ sym (append_assoc (words_of t.front) (t.new.words ∷ []) (flat_map listed fs))
      ∙ ap (λ ws. ws ++ flat_map listed fs) (sym (outside_after ∙ words_both t.front (t.new ∷ [])))

  formed_after : AreInstructions t.after
  formed_after =
      at_each (λ i. IsInstruction i.words (roles i)) t.after
      (along t (λ is js. AllByRecursion (λ (i : Instruction). IsInstruction i.words (roles i)) js) tt
      (λ j is js s w h. (subst (λ ws. IsInstruction ws (roles (inst ws))) (sym w) t.added.whole, h))
      (λ i j is js f w h. (subst (λ ws. IsInstruction ws (roles (inst ws))) (sym w) f.whole, h)))

  -- ---- what is known everywhere

  known_again : (id : ℕ) → IsKnown t.before id → IsKnown t.after id
  known_again id known = elim known.everywhere [
    | inl out ↦
        let d = outside_defined t.after id (same_outside t id stays ∙ defined_outside t.before id known.at known.is_at out) in
        record { at = d.defined.at; inst = d.defined.inst; is_at = d.defined.is_at; is = d.defined.is; everywhere = inl d.outside }
    | inr everywhere ↦
        by (definition t.after id) refl everywhere (same_definition t id stays ∙ ap (option_map (λ i. i.words)) known.is)
  ]
    where
      stays : In t id
      stays = defined_stays t id known.inst known.is

      by : (o : Option Instruction) → definition t.after id ≡ o → is_everywhere known.inst ≡ true
          → option_map (λ i. i.words) (definition t.after id) ≡ Some known.inst.words → IsKnown t.after id
      by None e everywhere h = absurd (cc (sym (ap (option_map (λ i. i.words)) e) ∙ h))
      by (Some i) e everywhere h =
          let p = place_too t.after id i e in
          let same : Some i.words ≡ Some known.inst.words = sym (ap (option_map (λ i. i.words)) e) ∙ h in
          let words : i.words ≡ known.inst.words = cc same in
          let one : Some i ≡ Some p.inst = sym e ∙ p.is in
          let is : i ≡ p.inst = cc one in
          record {
            at = p.at;
            inst = p.inst;
            is_at = p.is_at;
            is = p.is;
            everywhere = inr (ap is_everywhere (sym is) ∙ ap (λ ws. is_everywhere (inst ws)) words ∙ everywhere);
          }

  -- ---- what is defined stays

  each_use : (s : Shown) → OfUse (case_of t) s
  each_use (AStep words) = tt
  each_use (AUse id) = defined_stays t id

  uses_stay : (b : Body) → AllByRecursion (OfUse (case_of t)) (shown b)
  uses_stay b = all_are (OfUse (case_of t)) each_use (shown b)

  fronts_stay : (b : Body) → AllByRecursion (OfFront (case_of t)) (fronts_of b)
  fronts_stay b =
      all_are (OfFront (case_of t))
      (λ (front : Front). all_are (OfParameter (case_of t)) (λ (p : Parameter). defined_stays t p.type) front.parameters) (fronts_of b)

  and_none : (b : Bool) → (b && false) ≡ false
  and_none true = refl
  and_none false = refl

  or_none : (b c d : Bool) → b ≡ false → c ≡ d → (b || c) ≡ d
  or_none true c d h e = absurd (cc h)
  or_none false c d h e = e

  pointers : (u : ℕ) → In t u → is_pointer t.after u ≡ is_pointer t.before u
  pointers u s =
      along t (λ is js. list_any (defines_pointer u) js ≡ list_any (defines_pointer u) is) refl
      (λ j is js b w h. or_none (defines_pointer u j) (list_any (defines_pointer u) js) (list_any (defines_pointer u) is)
      (ap (λ (c : Bool). (opcode j == op.TYPE_POINTER) && c) (new_defines t u j w ∙ s) ∙ and_none (opcode j == op.TYPE_POINTER)) h)
      (λ i j is js f w h. ap₂ (λ (a b : Bool). a || b) (ap (λ ws. defines_pointer u (inst ws)) w) h)

  -- ---- functions

  abbrev OwnLine : List ℕ → Type 0
  OwnLine = Line (case_of t)

  line_of : (i : Instruction) → FactOf t i → OwnLine i.words
  line_of i f = let u = uses_what_stays t i f in record { whole = u.whole; used = u.used; function = u.function }

  listed_lines : AllByRecursion (λ f. AllByRecursion OwnLine (listed f)) fs
  listed_lines =
      each_listing OwnLine fs
      (all_right OwnLine (words_of (outside t.before)) (flat_map listed fs)
      (subst (AllByRecursion OwnLine) b.lines (to_words OwnLine t.before (all_to (FactOf t) (λ i. OwnLine i.words) t.before line_of t.facts))))

  module _ (f : Function) (built : FunctionIsBuilt t.before f) (ls : AllByRecursion OwnLine (listed f)) where
    steps : OfSteps OwnLine f.body
    steps =
        steps_back OwnLine (branches_in f) f.body [] built.sound.formed
        (all_left OwnLine (lines (branches_in f) [] f.body) (instruction op.FUNCTION_END [] ∷ [])
        (all_right OwnLine f.parameters (label_line f.label ∷ (lines (branches_in f) [] f.body ++ instruction op.FUNCTION_END [] ∷ [])) ls.1).1)

    built_again : FunctionIsBuilt t.after f
    built_again = record {
      sound = built.sound;
      opens = built.opens;
      short = built.short;
      structured = structure_again (case_of t) pointers f (fronts_stay f.body) built.typed built.structured;
      normal = built.normal;
      shallow = built.shallow;
      typed =
          typed_again (case_of t) (λ u s. same_words t u s 3) f built.opens.function ls.0 steps (uses_stay f.body) (fronts_stay f.body) built.typed;
      promised = built.promised;
      fine = is_fine_among (IsKnown t.before) (IsKnown t.after) (λ label. Told (built.promised label)) f known_again built.fine;
    }

  all_again : (gs : List Function) → AllByRecursion (FunctionIsBuilt t.before) gs → AllByRecursion (λ f. AllByRecursion OwnLine (listed f)) gs
      → AllByRecursion (FunctionIsBuilt t.after) gs
  all_again [] h ls = tt
  all_again (f ∷ gs) h ls = (built_again f h.0 ls.0, all_again gs h.1 ls.1)

  steps_stay : KeepsSteps unchanged
  steps_stay words h = All-cons (λ line. is_step (opcode_in line) ≡ true) words [] h (All-nil (λ line. is_step (opcode_in line) ≡ true))

  are_edited : (gs : List Function) → AreEdited gs gs
  are_edited [] = tt
  are_edited (f ∷ gs) = ((unchanged, steps_stay, sym (unchanged-function f)), are_edited gs)

  are_built : is_buffer t.new ≡ false → AreBuilt t.after fs
  are_built unbound =
      module_stays t.before t.after fs fs t.unbroken.whole formed_after b (are_edited fs) (record {
        marks = marks;
        lines = lines_after;
        laid_out = λ end. added_is_laid_out end t.r t.new t.front t.rest t.before t.after t.added (b.laid_out end);
        declared = declared_of t b.laid_out;
        entered = all_entered t unbound b.entered;
      }) (all_again fs b.functions listed_lines)

pub added_is_built : AddedIsBuilt
added_is_built r new front rest before after fs formed b a unbound =
    are_built (adding r new front rest before after (record { whole = formed; unrefused = b.declared }) a) fs b unbound
