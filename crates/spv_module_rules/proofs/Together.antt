-- Functions one by one: what is counted, and what is found first.
use Rattle.std.proofs.Common.{◌≡◌, ℕ, ◌+◌, ◌<◌, ◌≤◌, List, [], ◌∷◌, ◌++◌, length, take, get_or, Option, Some, None, refl, sym, ap, subst, ◌∙◌}
use Rattle.std.proofs.lemmas.List.{take_all}
use Rattle.std.proofs.lemmas.Option.{slice_get-get_or}
use Rattle.spv_base.specs.declared.fault.Refusal.{Refusal}
use Rattle.spv_module.specs.First.{first}
use Rattle.spv_blocks.specs.Blocks.{Code}
use Rattle.spv_blocks.proofs.Slices.{take-at}
use Rattle.spv_walk.specs.Found.{earlier_of}
use Rattle.spv_faults.proofs.EarlierLemmas.{earlier-parts}
use Rattle.spv_exits.specs.Exits.{AreNestedReturns, AreNestedTogether, capped, crowded, crowded_in_all}
use Rattle.spv_exits.proofs.OneByOne.{crowded-one_more, together-more}
use Rattle.spv_module_rules.specs.Kept.{AreCounted}

-- one element more, as a loop reads it
pub take-read : {X : Type 0} (xs : List X) (k : ℕ) (x : X) → k < length xs → x ≡ get_or xs k x → take (k + 1) xs ≡ take k xs ++ x ∷ []
take-read xs k x within is = take-at xs k x (slice_get-get_or xs k x within ∙ ap Some (sym is))

-- ---- nested returns

pub counted-none : (fs : List Code) → AreCounted (take 0 fs) 0
counted-none [] = record { nested = 0; together = refl; same = refl }
counted-none (f ∷ fs) = record { nested = 0; together = refl; same = refl }

pub counted-more : (fs : List Code) (k : ℕ) (f : Code) (counted more counted2 : ℕ) → k < length fs → f ≡ get_or fs k f → AreCounted (take k fs) counted
    → AreNestedReturns f more → ((n : ℕ) → counted ≡ capped n → counted2 ≡ capped (n + more)) → AreCounted (take (k + 1) fs) counted2
counted-more fs k f counted more counted2 within is old returns adds = record {
  nested = old.nested + more;
  together = subst (λ gs. AreNestedTogether gs (old.nested + more)) (sym (take-read fs k f within is))
      (together-more (take k fs) f old.nested more old.together returns);
  same = adds old.nested old.same;
}

pub counted-all : (fs : List Code) (k counted : ℕ) → length fs ≤ k → AreCounted (take k fs) counted → AreCounted fs counted
counted-all fs k counted past old = subst (λ gs. AreCounted gs counted) (take_all k fs past) old

-- ---- blocks that break the rule

pub crowded-none : (fs : List Code) (n : ℕ) → None ≡ first (crowded_in_all (take 0 fs) n)
crowded-none [] n = refl
crowded-none (f ∷ fs) n = refl

pub crowded-more : (fs : List Code) (n k : ℕ) (f : Code) (old here new : Option Refusal) → k < length fs → f ≡ get_or fs k f
    → old ≡ first (crowded_in_all (take k fs) n) → here ≡ first (crowded f n) → new ≡ earlier_of old here → new ≡ first (crowded_in_all (take (k + 1) fs) n)
crowded-more fs n k f old here new within is told there both =
    earlier-parts old here new (crowded_in_all (take k fs) n) (crowded f n) both told there
    ∙ ap first (sym (ap (λ gs. crowded_in_all gs n) (take-read fs k f within is) ∙ crowded-one_more (take k fs) f n))

pub crowded-all : (fs : List Code) (n k : ℕ) (found : Option Refusal) → length fs ≤ k → found ≡ first (crowded_in_all (take k fs) n)
    → found ≡ first (crowded_in_all fs n)
crowded-all fs n k found past told = told ∙ ap (λ gs. first (crowded_in_all gs n)) (take_all k fs past)
