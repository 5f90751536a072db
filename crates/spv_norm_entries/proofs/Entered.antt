-- No instruction of the normal form breaks a rule from 601 to 606.
use Rattle.std.proofs.Common.{◌≡◌, inl, inr, ◌⊎◌, ℕ, zero, suc, Bool, true, false, ◌==◌, ◌||◌, List, [], ◌∷◌, ◌++◌, filter, take, slice_get, Some, refl, sym, ap, subst, ◌∙◌}
use Rattle.std.specs.List.{AllByRecursion, Contains, list_any}
use Rattle.graph.proofs.Elements.{contains_first, contains_none}
use Rattle.spv_opcodes.specs.declared.op.TheConstants as op
use Rattle.spv_module.specs.Code.{is_function}
use Rattle.spv_module.specs.First.{unless}
use Rattle.spv_module.specs.Instruction.{Instruction, opcode}
use Rattle.spv_module.specs.Layout.{is_entry_point}
use Rattle.spv_walk.proofs.Unique.{equal_true, truth_apart}
use Rattle.spv_tree.specs.declared.body.Body.{Body}
use Rattle.spv_tree.specs.Tree.{words_of}
use Rattle.spv_entries.specs.Bindings.{binding_fits}
use Rattle.spv_entries.specs.Broken.{entry_rules}
use Rattle.spv_entries.specs.Functions.{function_fits}
use Rattle.spv_entries.specs.Names.{name_fits}
use Rattle.spv_entries.specs.Sizes.{size_fits}
use Rattle.spv_calls.specs.Interfaces.{InterfaceFits}
use Rattle.spv_alike.specs.Alike.{AreAlike}
use Rattle.spv_norm.specs.Norm.{staying, stays_outside}
use Rattle.spv_norm_means.proofs.InOrder.{joined}
use Rattle.spv_norm_structured.specs.Laws.{IsNormAgain, IsReadAsTrees}
use Rattle.spv_norm_structured.proofs.Again.{are_pieces, halves, pieces, whole}
use Rattle.spv_norm_structured.proofs.Pieces.{all_at, at_all}
use Rattle.spv_norm_entries.specs.Laws.{AllEntered, FunctionsTyped, NormIsEntered}
use Rattle.spv_norm_entries.proofs.Bindings.{binding_behind, binding_stays, name_stays, no_binding, no_name}
use Rattle.spv_norm_entries.proofs.Called.{calls_no_more, joined_all, typed_by_id}
use Rattle.spv_norm_entries.proofs.Calls.{calls_stay}
use Rattle.spv_norm_entries.proofs.EntryFunctions.{function_stays, no_function}
use Rattle.spv_norm_entries.proofs.Fronts.{staying_at}
use Rattle.spv_norm_entries.proofs.Interfaces.{interface_stays}
use Rattle.spv_norm_entries.proofs.Lists.{IsBack, IsFront, front_or_back}
use Rattle.spv_norm_entries.proofs.Preamble.{NoPre, same_preamble, texts_no_pre}
use Rattle.spv_norm_entries.proofs.Sizes.{no_entry, no_size, size_stays}
use Rattle.spv_norm_entries.proofs.Starts.{behind_begun}

-- ---- the four rules that are tests

pub record AllFit (insts : List Instruction) (k : ℕ) (i : Instruction) : Type 0 where
  pub binding : binding_fits insts (take k insts) i ≡ true
  pub name : name_fits (take k insts) i ≡ true
  pub size : size_fits insts i ≡ true
  pub function : function_fits insts i ≡ true

abbrev four : (a b c d : Bool) → List ℕ
four a b c d = unless a 603 ++ (unless b 604 ++ (unless c 605 ++ unless d 606))

hold : (a b c d : Bool) → ((rule : ℕ) → Contains (four a b c d) rule → ⊥) → (a ≡ true) × (b ≡ true) × (c ≡ true) × (d ≡ true)
hold true true true true h = (refl, refl, refl, refl)
hold false b c d h = absurd (h 603 (contains_first (unless b 604 ++ (unless c 605 ++ unless d 606)) 603))
hold true false c d h = absurd (h 604 (contains_first (unless c 605 ++ unless d 606) 604))
hold true true false d h = absurd (h 605 (contains_first (unless d 606) 605))
hold true true true false h = absurd (h 606 (contains_first [] 606))

all_fit : (insts : List Instruction) (k : ℕ) (i : Instruction) → ((rule : ℕ) → Contains (entry_rules insts k i) rule → ⊥) → AllFit insts k i
all_fit insts k i h =
    let r = hold (binding_fits insts (take k insts) i) (name_fits (take k insts) i) (size_fits insts i) (function_fits insts i) h in
    record { binding = r.0; name = r.1; size = r.2; function = r.3 }

none_broken : (insts : List Instruction) (k : ℕ) (i : Instruction) → AllFit insts k i → (rule : ℕ) → Contains (entry_rules insts k i) rule → ⊥
none_broken insts k i f rule c =
    let none : entry_rules insts k i ≡ four true true true true = (λ x. four (f.binding x) (f.name x) (f.size x) (f.function x)) in
    contains_none rule (subst (λ xs. Contains xs rule) none c)

-- ---- places by words

word_at : (is : List Instruction) (k : ℕ) (i : Instruction) → slice_get is k ≡ Some i → slice_get (words_of is) k ≡ Some i.words
word_at [] k i e = absurd (cc e)
word_at (x ∷ xs) zero i e = let same : x ≡ i = cc e in ap (λ (j : Instruction). Some j.words) same
word_at (x ∷ xs) (suc k) i e = word_at xs k i e

words_taken : (is : List Instruction) (k : ℕ) → words_of (take k is) ≡ take k (words_of is)
words_taken is zero = refl
words_taken [] (suc k) = refl
words_taken (i ∷ is) (suc k) = ap (λ z. i.words ∷ z) (words_taken is k)

any_behind : (p : Instruction → Bool) (xs ys : List Instruction) → list_any p ys ≡ true → list_any p (xs ++ ys) ≡ true
any_behind p [] ys h = h
any_behind p (x ∷ xs) ys h = by (p x) (any_behind p xs ys h) where
  by : (b : Bool) → list_any p (xs ++ ys) ≡ true → (b || list_any p (xs ++ ys)) ≡ true
  by true e = refl
  by false e = e

module _ (insts again : List Instruction) (bodies : List Body) (h : IsReadAsTrees insts bodies) (n : IsNormAgain insts again) (a : AreAlike insts again)
    (typed : FunctionsTyped insts) (entered : AllEntered insts) where
  abbrev front : List Instruction
  front = (halves insts again bodies h n).front

  abbrev texts : List (List Instruction)
  texts = (pieces insts again bodies h n).texts

  -- outside functions: an instruction that stays
  in_front : (k : ℕ) (i : Instruction) → IsFront front (joined texts) k i → AllFit again k i × InterfaceFits again i
  in_front k i r =
      let words : words_of front ≡ words_of (staying insts) = (halves insts again bodies h n).front_words in
      let s = staying_at (stays_outside insts) insts k i.words (ap (λ z. slice_get z k) (sym words) ∙ word_at front k i r.there) in
      let old = entered s.place s.inst s.there in
      let fit = all_fit insts s.place s.inst old.entry in
      let before : words_of (take k again) ≡ words_of (filter (stays_outside insts) (take s.place insts)) =
      ap (λ z. words_of (take k z)) (whole insts again bodies h n) ∙ ap words_of r.before ∙ words_taken front k ∙ ap (take k) words ∙ s.before in (
        record {
          binding =
              binding_stays insts again a (stays_outside insts) (take s.place insts) (take k again) s.inst i before (sym s.words) s.none fit.binding;
          name = name_stays (stays_outside insts) (take s.place insts) (take k again) s.inst i before (sym s.words) fit.name;
          size = size_stays insts again a (same_preamble insts again bodies h n) s.inst i (sym s.words) fit.size;
          function = function_stays insts again a (typed_by_id insts typed) (calls_no_more insts again bodies h n) s.inst i (sym s.words) fit.function;
        },
        interface_stays insts again bodies h n a s.inst i (sym s.words) old.interface,
      )

  none_pre : AllByRecursion NoPre (joined texts)
  none_pre = joined_all NoPre texts (all_at (AllByRecursion NoPre) texts (texts_no_pre insts again bodies h n))

  -- in functions: none of the instructions that the rules speak of
  in_function : (k : ℕ) (i : Instruction) → IsBack front (joined texts) k i → AllFit again k i × InterfaceFits again i
  in_function k i r =
      let none = at_all NoPre (joined texts) none_pre r.place i r.there in
      let entry : is_entry_point i ≡ false = no_entry i none in (
        record {
          binding = by (behind_begun texts (are_pieces insts again bodies h n) r.place i r.there);
          name = no_name (take k again) i entry;
          size = no_size again i none;
          function = no_function again i entry;
        },
        λ e. truth_apart (is_entry_point i) e entry,
      )
    where
      by : (is_function i ≡ true) ⊎ (list_any is_function (take r.place (joined texts)) ≡ true) → binding_fits again (take k again) i ≡ true
      by (inl f) = no_binding again (take k again) i (ap (λ o. o == op.VARIABLE) (equal_true (opcode i) op.FUNCTION f))
      by (inr f) =
          binding_behind again (take k again) i
          (ap (λ z. list_any is_function (take k z)) (whole insts again bodies h n) ∙ ap (list_any is_function) r.before
          ∙ any_behind is_function front (take r.place (joined texts)) f)

  fit_at : (k : ℕ) (i : Instruction) → slice_get again k ≡ Some i → AllFit again k i × InterfaceFits again i
  fit_at k i e = elim (front_or_back front (joined texts) k i (ap (λ z. slice_get z k) (sym (whole insts again bodies h n)) ∙ e)) [
    | inl r ↦ in_front k i r
    | inr r ↦ in_function k i r
  ]

  pub all_entered : AllEntered again
  all_entered k i e =
      let f = fit_at k i e in
      record {
        calls = calls_stay insts again bodies h n (λ q j there. (entered q j there).calls) k i e;
        interface = f.1;
        entry = none_broken again k i f.0;
      }

pub norm_is_entered : NormIsEntered
norm_is_entered insts again bodies h n a typed entered = all_entered insts again bodies h n a typed entered
