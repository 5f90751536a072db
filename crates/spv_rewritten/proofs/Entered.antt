-- A module in which lines are rewritten breaks no rule from 601 to 606, where its interfaces fit.
use Rattle.std.proofs.Common.{◌≡◌, ℕ, Bool, true, false, List, [], ◌++◌, take, refl, subst, ◌∙◌}
use Rattle.std.specs.List.{Contains}
use Rattle.graph.proofs.Elements.{contains_first, contains_none}
use Rattle.spv_module.specs.First.{unless}
use Rattle.spv_module.specs.Instruction.{Instruction}
use Rattle.spv_entries.specs.Bindings.{binding_fits}
use Rattle.spv_entries.specs.Broken.{entry_rules}
use Rattle.spv_entries.specs.Functions.{function_fits}
use Rattle.spv_entries.specs.Names.{name_fits}
use Rattle.spv_entries.specs.Sizes.{size_fits}
use Rattle.spv_rewritten.specs.Rewritten.{IsRewrittenAs}
use Rattle.spv_rewritten.specs.Laws.{RewrittenIsEntered}
use Rattle.spv_rewritten.proofs.Calls.{calls_stay}
use Rattle.spv_rewritten.proofs.Entries.{same_binding, same_function_fits, same_name_fits, same_size_fits}
use Rattle.spv_rewritten.proofs.Pairs.{at_place}

-- ---- the four rules that are tests

record AllFit (insts : List Instruction) (k : ℕ) (i : Instruction) : Type 0 where
  binding : binding_fits insts (take k insts) i ≡ true
  name : name_fits (take k insts) i ≡ true
  size : size_fits insts i ≡ true
  function : function_fits insts i ≡ true

abbrev four : (a b c d : Bool) → List ℕ
four a b c d = unless a 603 ++ (unless b 604 ++ (unless c 605 ++ unless d 606))

hold : (a b c d : Bool) → ((rule : ℕ) → Contains (four a b c d) rule → ⊥) → (a ≡ true) × (b ≡ true) × (c ≡ true) × (d ≡ true)
hold true true true true h = (refl, refl, refl, refl)
hold false b c d h = absurd (h 603 (contains_first (unless b 604 ++ (unless c 605 ++ unless d 606)) 603))
hold true false c d h = absurd (h 604 (contains_first (unless c 605 ++ unless d 606) 604))
hold true true false d h = absurd (h 605 (contains_first (unless d 606) 605))
hold true true true false h = absurd (h 606 (contains_first [] 606))

all_fit : (insts : List Instruction) (k : ℕ) (i : Instruction) → ((rule : ℕ) → Contains (entry_rules insts k i) rule → ⊥) → AllFit insts k i
all_fit insts k i h =
    let r = hold (binding_fits insts (take k insts) i) (name_fits (take k insts) i) (size_fits insts i) (function_fits insts i) h in
    record { binding = r.0; name = r.1; size = r.2; function = r.3 }

none_broken : (insts : List Instruction) (k : ℕ) (i : Instruction) → AllFit insts k i → (rule : ℕ) → Contains (entry_rules insts k i) rule → ⊥
none_broken insts k i f rule c =
    let none : entry_rules insts k i ≡ four true true true true = (λ x. four (f.binding x) (f.name x) (f.size x) (f.function x)) in
    contains_none rule (subst (λ xs. Contains xs rule) none c)

pub rewritten_is_entered : RewrittenIsEntered
rewritten_is_entered before after h w entered fit k j at =
    let s = at_place (IsRewrittenAs before) before after w k j at in
    let old = entered k s.inst s.there in
    let tests = all_fit before k s.inst old.entry in
    record {
      calls = calls_stay before after w k s.inst j s.pair old.calls;
      interface = fit k j at;
      entry =
          none_broken after k j (record {
            binding = same_binding before after h w k s.inst j s.pair ∙ tests.binding;
            name = same_name_fits before after h w k s.inst j s.pair ∙ tests.name;
            size = same_size_fits before after h w s.inst j s.pair ∙ tests.size;
            function = same_function_fits before after h w s.inst j s.pair ∙ tests.function;
          });
    }
