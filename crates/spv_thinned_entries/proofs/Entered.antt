-- What is left of a module breaks no rule from 601 to 606.
use Rattle.std.proofs.Common.{◌≡◌, ℕ, Bool, true, false, List, [], ◌++◌, take, refl, subst}
use Rattle.std.specs.List.{Contains}
use Rattle.graph.proofs.Elements.{contains_first, contains_none}
use Rattle.spv_module.specs.First.{unless}
use Rattle.spv_module.specs.Instruction.{Instruction}
use Rattle.spv_entries.specs.Bindings.{binding_fits}
use Rattle.spv_entries.specs.Broken.{entry_rules}
use Rattle.spv_entries.specs.Functions.{function_fits}
use Rattle.spv_entries.specs.Names.{name_fits}
use Rattle.spv_entries.specs.Sizes.{size_fits}
use Rattle.spv_norm_entries.specs.Laws.{AllEntered}
use Rattle.spv_norm_entries.proofs.Bindings.{name_stays}
use Rattle.spv_thinned_entries.specs.Laws.{ThinnedIsEntered}
use Rattle.spv_thinned_entries.proofs.Calls.{calls_stay}
use Rattle.spv_thinned_entries.proofs.Cases.{Thinning, thinning}
use Rattle.spv_thinned_entries.proofs.EntryFunctions.{function_stays}
use Rattle.spv_thinned_entries.proofs.Interfaces.{interface_stays}
use Rattle.spv_thinned_entries.proofs.Places.{place, stood}
use Rattle.spv_thinned_entries.proofs.Sizes.{size_stays}
use Rattle.spv_thinned_entries.proofs.Slots.{binding_stays}

-- ---- the four rules that are tests

record AllFit (insts : List Instruction) (k : ℕ) (i : Instruction) : Type 0 where
  binding : binding_fits insts (take k insts) i ≡ true
  name : name_fits (take k insts) i ≡ true
  size : size_fits insts i ≡ true
  function : function_fits insts i ≡ true

abbrev four : (a b c d : Bool) → List ℕ
four a b c d = unless a 603 ++ (unless b 604 ++ (unless c 605 ++ unless d 606))

hold : (a b c d : Bool) → ((rule : ℕ) → Contains (four a b c d) rule → ⊥) → (a ≡ true) × (b ≡ true) × (c ≡ true) × (d ≡ true)
hold true true true true h = (refl, refl, refl, refl)
hold false b c d h = absurd (h 603 (contains_first (unless b 604 ++ (unless c 605 ++ unless d 606)) 603))
hold true false c d h = absurd (h 604 (contains_first (unless c 605 ++ unless d 606) 604))
hold true true false d h = absurd (h 605 (contains_first (unless d 606) 605))
hold true true true false h = absurd (h 606 (contains_first [] 606))

all_fit : (insts : List Instruction) (k : ℕ) (i : Instruction) → ((rule : ℕ) → Contains (entry_rules insts k i) rule → ⊥) → AllFit insts k i
all_fit insts k i h =
    let r = hold (binding_fits insts (take k insts) i) (name_fits (take k insts) i) (size_fits insts i) (function_fits insts i) h in
    record { binding = r.0; name = r.1; size = r.2; function = r.3 }

none_broken : (insts : List Instruction) (k : ℕ) (i : Instruction) → AllFit insts k i → (rule : ℕ) → Contains (entry_rules insts k i) rule → ⊥
none_broken insts k i f rule c =
    let none : entry_rules insts k i ≡ four true true true true = (λ x. four (f.binding x) (f.name x) (f.size x) (f.function x)) in
    contains_none rule (subst (λ xs. Contains xs rule) none c)

all_entered : (t : Thinning) → AllEntered t.before → AllEntered t.after
all_entered t entered p j at =
    let s = stood t p j at in
    let old = entered (place t p) s.inst s.there in
    let fit = all_fit t.before (place t p) s.inst old.entry in
    record {
      calls = calls_stay t (λ q i there. (entered q i there).calls) p j at;
      interface = interface_stays t s.inst j s.fact s.kept s.words old.interface;
      entry =
          none_broken t.after p j (record {
            binding = binding_stays t p (place t p) s.front s.inst j s.fact s.kept s.words fit.binding;
            name = name_stays t.keep (take (place t p) t.before) (take p t.after) s.inst j s.front s.words fit.name;
            size = size_stays t s.inst j s.words fit.size;
            function = function_stays t s.inst j s.fact s.kept s.words fit.function;
          });
    }

pub thinned_is_entered : ThinnedIsEntered
thinned_is_entered gone keep before after h thin entries entered = all_entered (thinning gone keep before after h thin entries) entered
