-- No instruction breaks a rule from 601 to 606 where a declaration more stands.
use Rattle.std.proofs.Common.{◌≡◌, ℕ, zero, suc, Bool, true, false, List, [], ◌∷◌, ◌++◌, drop, length, take, Some, refl, sym, ap, subst, ◌∙◌}
use Rattle.std.specs.List.{AllByRecursion, Contains, slice_get}
use Rattle.graph.proofs.Elements.{contains_first, contains_none}
use Rattle.spv_opcodes.specs.declared.op.TheConstants as op
use Rattle.spv_grammar.specs.Table.{row_of}
use Rattle.spv_module.specs.First.{unless}
use Rattle.spv_module.specs.Instruction.{Instruction}
use Rattle.spv_module.specs.Layout.{is_entry_point}
use Rattle.spv_calls.specs.Calls.{CallsFit}
use Rattle.spv_calls.specs.Interfaces.{InterfaceFits}
use Rattle.spv_entries.specs.Bindings.{binding_fits, is_buffer}
use Rattle.spv_entries.specs.Broken.{entry_rules}
use Rattle.spv_entries.specs.Functions.{function_fits}
use Rattle.spv_entries.specs.Names.{name_fits}
use Rattle.spv_entries.specs.Sizes.{size_fits}
use Rattle.spv_norm_declarations.proofs.Outside.{get_behind, take_front}
use Rattle.spv_norm_entries.specs.Laws.{AllEntered}
use Rattle.spv_added.specs.Laws.{AddedIsEntered}
use Rattle.spv_added.proofs.Walk.{Adding, FactOf, adding, inst, is_foreign, no_opcode}
use Rattle.spv_added.proofs.Calling.{calls_stay}
use Rattle.spv_added.proofs.Coming.{Comes, IsNew, IsOld, Old, comes_of}
use Rattle.spv_added.proofs.Lists.{all_front, all_here}
use Rattle.spv_added.proofs.EntryFunctions.{function_stays, new_function}
use Rattle.spv_added.proofs.Interfaces.{interface_stays}
use Rattle.spv_added.proofs.Sizes.{new_size, size_stays}
use Rattle.spv_added.proofs.Slots.{binding_stays, name_stays, new_binding, new_name}

-- ---- the four rules that are tests

record AllFit (insts : List Instruction) (before : List Instruction) (i : Instruction) : Type 0 where
  binding : binding_fits insts before i ≡ true
  name : name_fits before i ≡ true
  size : size_fits insts i ≡ true
  function : function_fits insts i ≡ true

abbrev four : (a b c d : Bool) → List ℕ
four a b c d = unless a 603 ++ (unless b 604 ++ (unless c 605 ++ unless d 606))

hold : (a b c d : Bool) → ((rule : ℕ) → Contains (four a b c d) rule → ⊥) → (a ≡ true) × (b ≡ true) × (c ≡ true) × (d ≡ true)
hold true true true true h = (refl, refl, refl, refl)
hold false b c d h = absurd (h 603 (contains_first (unless b 604 ++ (unless c 605 ++ unless d 606)) 603))
hold true false c d h = absurd (h 604 (contains_first (unless c 605 ++ unless d 606) 604))
hold true true false d h = absurd (h 605 (contains_first (unless d 606) 605))
hold true true true false h = absurd (h 606 (contains_first [] 606))

all_fit : (insts : List Instruction) (k : ℕ) (i : Instruction) → ((rule : ℕ) → Contains (entry_rules insts k i) rule → ⊥) → AllFit insts (take k insts) i
all_fit insts k i h =
    let r = hold (binding_fits insts (take k insts) i) (name_fits (take k insts) i) (size_fits insts i) (function_fits insts i) h in
    record { binding = r.0; name = r.1; size = r.2; function = r.3 }

none_broken : (insts : List Instruction) (k : ℕ) (i : Instruction) → AllFit insts (take k insts) i → (rule : ℕ) → Contains (entry_rules insts k i) rule → ⊥
none_broken insts k i f rule c =
    let none : entry_rules insts k i ≡ four true true true true = (λ x. four (f.binding x) (f.name x) (f.size x) (f.function x)) in
    contains_none rule (subst (λ xs. Contains xs rule) none c)

-- what stands at a place is cut out there
cut_at : (is : List Instruction) (p : ℕ) (j : Instruction) → slice_get is p ≡ Some j → is ≡ take p is ++ j ∷ drop (suc p) is
cut_at [] p j at = absurd (cc at)
cut_at (x ∷ xs) zero j at = let same : x ≡ j = cc at in ap (λ z. z ∷ xs) same
cut_at (x ∷ xs) (suc p) j at = ap (λ z. x ∷ z) (cut_at xs p j at)

entry_foreign : is_foreign op.ENTRY_POINT ≡ true
unfolding row_of
entry_foreign = refl

module _ (t : Adding) (unbound : is_buffer t.new ≡ false) (entered : AllEntered t.before) where
  calls : (p : ℕ) (j : Instruction) → slice_get t.after p ≡ Some j → CallsFit t.after p j
  calls = calls_stay t (λ q i there. (entered q i there).calls)

  old_fits : (qs : List Instruction) (j : Instruction) → IsOld t.new t.front t.before qs j → InterfaceFits t.after j × AllFit t.after qs j
  old_fits qs j old =
      let at : slice_get t.before (length old.pre) ≡ Some old.inst =
      ap (λ is. slice_get is (length old.pre)) old.cut ∙ get_behind old.pre old.post old.inst in
      let front : take (length old.pre) t.before ≡ old.pre = ap (take (length old.pre)) old.cut ∙ take_front old.pre (old.inst ∷ old.post) in
      let facts : AllByRecursion (FactOf t) (old.pre ++ old.inst ∷ old.post) = subst (AllByRecursion (FactOf t)) old.cut t.facts in
      let fact : FactOf t old.inst = all_here (FactOf t) old.pre old.inst old.post facts in
      let was = entered (length old.pre) old.inst at in
      let fit : AllFit t.before old.pre old.inst =
      subst (λ is. AllFit t.before is old.inst) front (all_fit t.before (length old.pre) old.inst was.entry) in (
        interface_stays t old.inst j fact old.same was.interface,
        record {
          binding = binding_stays t old.pre qs old.inst j old.post old.cut old.stand old.same fit.binding;
          name = name_stays t old.pre qs old.inst j (all_front (FactOf t) old.pre (old.inst ∷ old.post) facts) old.stand old.same fit.name;
          size = size_stays t old.inst j old.same fit.size;
          function = function_stays t old.inst j fact old.same fit.function;
        },
      )

  new_fits : (qs : List Instruction) (j : Instruction) → j.words ≡ t.new.words → InterfaceFits t.after j × AllFit t.after qs j
  new_fits qs j w = (
    λ h. absurd (cc (sym h ∙ ap (λ ws. is_entry_point (inst ws)) w ∙ no_opcode t op.ENTRY_POINT entry_foreign)),
    record { binding = new_binding t qs j unbound w; name = new_name t qs j w; size = new_size t j w; function = new_function t j w },
  )

  pub all_entered : AllEntered t.after
  all_entered p j at =
      let fits = by (comes_of t.new t.front t.rest t.before t.after (take p t.after) j (drop (suc p) t.after) t.added.functions t.added.parts t.added.words
      (cut_at t.after p j at)) in
      record { calls = calls p j at; interface = fits.0; entry = none_broken t.after p j fits.1 }
    where
      by : Comes t.new t.front t.before (take p t.after) j → InterfaceFits t.after j × AllFit t.after (take p t.after) j
      by (IsNew w h) = new_fits (take p t.after) j w
      by (Old old) = old_fits (take p t.after) j old

pub added_is_entered : AddedIsEntered
added_is_entered r new front rest before after h a unbound entered = all_entered (adding r new front rest before after h a) unbound entered
