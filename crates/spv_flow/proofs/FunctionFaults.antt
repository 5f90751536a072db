-- What the blocks of a function break, one after the other, and the first of it.
use Rattle.std.proofs.Common.{◌≡◌, ◌⊎◌, inl, inr, ℕ, zero, suc, ◌+◌, ◌<◌, Bool, List, [], ◌∷◌, length, drop, Option, Some, None, refl, sym, ap, ◌∙◌}
use Rattle.std.proofs.Common.{subst, arith}
use Rattle.std.specs.List.{slice_get}
use Rattle.spv_base.specs.declared.fault.Refusal.{Refusal}
use Rattle.spv_module.specs.First.{first}
use Rattle.spv_blocks.specs.Blocks.{Code, Block}
use Rattle.spv_blocks.proofs.Slices.{drop-at}
use Rattle.spv_walk.specs.Contexts.{Context}
use Rattle.spv_walk.specs.Found.{FoundAt, AtBlock, AtOpen, FaultTables, Missing, block_faults, earlier_of}
use Rattle.spv_walk.specs.Numbering.{HasOwnLabels}
use Rattle.spv_walk.specs.Rules.{Broken, IsFirst}
use Rattle.spv_walk.specs.Walked.{InPlaces}
use Rattle.spv_walk.proofs.Least.{first_both, first_same, first_by_tables}
use Rattle.spv_faults.specs.Listed.{Faults, of_context, walked_faults, missing_faults, IsFaultAt, FaultAt}
use Rattle.spv_faults.specs.Opens.{IsOpenAt, OpenAt}
use Rattle.spv_faults.proofs.EarlierLemmas.{first-next}
use Rattle.spv_faults.proofs.ListedLemmas.{first-walked, first-missing}

-- induction on the list
pub at-some : {X : Type 0} (xs : List X) (k : ℕ) → k < length xs → (x : X) × (slice_get xs k ≡ Some x)
at-some [] k n = absurd (omega arith)
at-some (x ∷ xs) zero n = (x, refl)
at-some (x ∷ xs) (suc k) n = at-some xs k (omega arith)

pub walked-next : (faults : Faults) (place : ℕ → Option Context) (f : Code) (k : ℕ) (b : Block) (found fault found2 all : Option Refusal) →
    slice_get f k ≡ Some b → fault ≡ first (of_context (λ (c : Context). faults b.label c b) (place b.label)) → found2 ≡ earlier_of found fault →
    earlier_of found (first (walked_faults faults place (drop k f))) ≡ all → earlier_of found2 (first (walked_faults faults place (drop (k + 1) f))) ≡ all
walked-next faults place f k b found fault found2 all at told next before =
    first-next found fault found2 all (of_context (λ (c : Context). faults b.label c b) (place b.label)) (walked_faults faults place (drop (k + 1) f)) told next
    (ap (λ g. earlier_of found (first (walked_faults faults place g))) (sym (drop-at f k b at)) ∙ before)

module _ (is_pointer : ℕ → Bool) (f : Code) (enterer : ℕ → Option ℕ) (ends : ℕ → Bool) (place : ℕ → Option Context) (own : HasOwnLabels f) where
  abbrev faults : Faults
  faults = block_faults is_pointer f enterer ends

  -- what is found
  abbrev Found : (rule at : ℕ) → Type 0
  Found = FoundAt is_pointer f enterer ends (InPlaces place)

  -- it is broken at a walked block or at an open one
  found_parts : (rule at : ℕ) → Found rule at → IsFaultAt faults f place rule at ⊎ IsOpenAt f rule at
  found_parts rule at (AtBlock l b c r p h g) = inl (FaultAt l b c r p h g)
  found_parts rule at (AtOpen l b h e) = inr (OpenAt l b h e)

  fault_found : (rule at : ℕ) → IsFaultAt faults f place rule at → Found rule at
  fault_found rule at (FaultAt l b c r p h g) = AtBlock l b c r p h g

  open_found : (rule at : ℕ) → IsOpenAt f rule at → Found rule at
  open_found rule at (OpenAt l b h e) = AtOpen l b h e

  pub first-found : (walked unended both : Option Refusal) → walked ≡ first (walked_faults faults place f) → IsFirst (IsOpenAt f) unended →
      both ≡ earlier_of walked unended → IsFirst (FoundAt is_pointer f enterer ends (InPlaces place)) both
  first-found walked unended both is o e =
      let w = subst (IsFirst (IsFaultAt faults f place)) (sym is) (first-walked faults f place own) in
      subst (IsFirst Found) (sym e)
      (first_same (λ rule at. IsFaultAt faults f place rule at ⊎ IsOpenAt f rule at) Found (earlier_of walked unended)
      (λ rule at h. elim h [ inl g ↦ fault_found rule at g | inr g ↦ open_found rule at g ])
      found_parts
      (first_both (IsFaultAt faults f place) (IsOpenAt f) walked unended w o))

  -- a rule that is found is the first one
  pub first-of_found : (r : Refusal) → FaultTables f enterer ends (InPlaces place) →
      IsFirst (FoundAt is_pointer f enterer ends (InPlaces place)) (Some r) → IsFirst (Broken is_pointer f) (Some r)
  first-of_found r t x =
      first_by_tables is_pointer f enterer ends (InPlaces place) t (Some r) (first (missing_faults place f)) x (first-missing f place own)

  -- and else the first block that is missing breaks one
  pub first-of_missing : (missing : Option Refusal) → FaultTables f enterer ends (InPlaces place) →
      IsFirst (FoundAt is_pointer f enterer ends (InPlaces place)) None → IsFirst (Missing f (InPlaces place)) missing → IsFirst (Broken is_pointer f) missing
  first-of_missing missing t x m = first_by_tables is_pointer f enterer ends (InPlaces place) t None missing x m
