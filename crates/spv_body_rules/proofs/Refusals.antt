-- The first broken rule, from what the instructions up to a place break, whatever the rules of an instruction are.
use Rattle.std.proofs.Common.{◌≡◌, ℕ, suc, ◌+◌, ◌≤◌, List, [], ◌∷◌, ◌++◌, length, drop, Option, Some, None, refl, sym, ap, subst, ◌∙◌, add-one, arith}
use Rattle.std.proofs.Math.ListN.{drop_of_length-le}
use Rattle.std.proofs.Math.Seq.{drop-cons}
use Rattle.std.specs.List.{slice_get}
use Rattle.std.proofs.lemmas.Option.{get_or_from_slice_get, slice_get_within}
use Rattle.spv_base.specs.declared.fault.Refusal.{Refusal}
use Rattle.spv_module.specs.First.{here, first, least, at_place}
use Rattle.spv_module.specs.Instruction.{Instruction}
use Rattle.spv_module.specs.Layout.{RisesTo}
use Rattle.spv_module.proofs.FirstLemmas.{Later, Later-append, Later-here, Later-weaken, first-here-later}
use Rattle.spv_types.specs.Whole.{Rises}
use Rattle.spv_body_rules.specs.Broken.{refusals_from}

-- the first k instructions break no rule
pub record IsClear (rules : (k : ℕ) → Instruction → List ℕ) (insts : List Instruction) (k : ℕ) : Type 0 where
  pub end : ℕ
  pub from : ℕ
  pub rises : RisesTo end from (drop k insts)
  pub rest : first (refusals_from rules 0 insts) ≡ first (refusals_from rules k (drop k insts))

drop_at : (insts : List Instruction) (k : ℕ) (i : Instruction) → slice_get insts k ≡ Some i → drop k insts ≡ i ∷ drop (k + 1) insts
drop_at insts k i at = rw add-one (drop-cons insts k i (slice_get_within insts k i at) ∙ ap (λ (x : Instruction). x ∷ drop (suc k) insts) (get_or_from_slice_get insts k i i at))

module _ (rules : (k : ℕ) → Instruction → List ℕ) where
  -- the rules of later instructions are broken at later places; induction on the instructions
  refusals_later : (end k n : ℕ) (is : List Instruction) → RisesTo end n is → Later n (refusals_from rules k is)
  unfolding refusals_from
  refusals_later end k n [] h = tt
  refusals_later end k n (i ∷ is) h =
      Later-append n (here i.offset (rules k i)) (refusals_from rules (k + 1) is) (Later-here n i.offset (rules k i) h.0)
      (Later-weaken n (suc i.offset) (refusals_from rules (k + 1) is) (let lower : n ≤ i.offset = h.0 in omega (arith, lower)) (refusals_later end (k + 1) (suc i.offset) is h.1))

  first_of : (end k n : ℕ) (i : Instruction) (is : List Instruction) → RisesTo end n (i ∷ is) →
      first (refusals_from rules k (i ∷ is)) ≡ at_place i.offset (least (rules k i)) (first (refusals_from rules (k + 1) is))
  unfolding refusals_from
  first_of end k n i is h = first-here-later i.offset (rules k i) (refusals_from rules (k + 1) is) (refusals_later end (k + 1) (suc i.offset) is h.1)

  first_none : (k : ℕ) → first (refusals_from rules k []) ≡ None
  unfolding refusals_from
  first_none k = refl

  pub clear-begins : (insts : List Instruction) → Rises insts → IsClear rules insts 0
  clear-begins insts rises = record { end = rises.0; from = 5; rises = rises.1; rest = refl }

  pub clear-stops : (insts : List Instruction) (k rule : ℕ) (i : Instruction) → IsClear rules insts k → slice_get insts k ≡ Some i → Some rule ≡ least (rules k i) →
      Some (record { rule = rule; at = i.offset }) ≡ first (refusals_from rules 0 insts)
  clear-stops insts k rule i c at broken =
      ap (λ (o : Option ℕ). at_place i.offset o (first (refusals_from rules (k + 1) (drop (k + 1) insts)))) broken
      ∙ sym (first_of c.end k c.from i (drop (k + 1) insts) (subst (RisesTo c.end c.from) (drop_at insts k i at) c.rises))
      ∙ ap (λ (is : List Instruction). first (refusals_from rules k is)) (sym (drop_at insts k i at))
      ∙ sym c.rest

  pub clear-more : (insts : List Instruction) (k : ℕ) (i : Instruction) → IsClear rules insts k → slice_get insts k ≡ Some i → None ≡ least (rules k i) → IsClear rules insts (k + 1)
  clear-more insts k i c at none =
      let rises : RisesTo c.end c.from (i ∷ drop (k + 1) insts) = subst (RisesTo c.end c.from) (drop_at insts k i at) c.rises in
      record {
        end = c.end;
        from = suc i.offset;
        rises = rises.1;
        rest =
            c.rest
            ∙ ap (λ (is : List Instruction). first (refusals_from rules k is)) (drop_at insts k i at)
            ∙ first_of c.end k c.from i (drop (k + 1) insts) rises
            ∙ ap (λ (o : Option ℕ). at_place i.offset o (first (refusals_from rules (k + 1) (drop (k + 1) insts)))) (sym none);
      }

  pub clear-ends : (insts : List Instruction) (k : ℕ) → IsClear rules insts k → length insts ≤ k → None ≡ first (refusals_from rules 0 insts)
  clear-ends insts k c past = sym (c.rest ∙ ap (λ (is : List Instruction). first (refusals_from rules k is)) (drop_of_length-le insts past) ∙ first_none k)
