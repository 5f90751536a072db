-- The first broken rule, one instruction after the other.
use Rattle.std.proofs.Common.{◌≡◌, ℕ, suc, ◌+◌, ◌<◌, ◌≤◌, ◌⊎◌, inl, inr, List, [], ◌∷◌, length, drop, slice_get, Option, Some, None, refl, sym, ap, subst, ◌∙◌, arith}
use Rattle.std.proofs.Math.Seq.{drop-cons}
use Rattle.std.proofs.Math.ListN.{drop_of_length-le}
use Rattle.std.proofs.lemmas.Option.{get_or_from_slice_get, slice_get_within}
use Rattle.spv_module.specs.First.{here, first, least, at_place}
use Rattle.spv_module.specs.Instruction.{Instruction}
use Rattle.spv_module.specs.Layout.{RisesTo}
use Rattle.spv_module.proofs.FirstLemmas.{Later, Later-append, Later-here, Later-weaken, first-here-later}
use Rattle.spv_declarations.specs.Broken.{group_3, group_3_from, rules_at}
use Rattle.spv_declarations.specs.Declarations.{Declared, declared_before, declare, says}
use Rattle.spv_declarations.specs.Sound.{Unbroken}
use Rattle.spv_declarations.proofs.Tables.{declared-more}
use Rattle.spv_types.specs.Progress.{IsRead}

-- the rules of later instructions are broken at later places
group_later : (end : ℕ) (insts : List Instruction) (d : Declared) (k n : ℕ) (is : List Instruction) → RisesTo end n is → Later n (group_3_from insts d k is)
unfolding group_3_from
group_later end insts d k n [] h = tt
group_later end insts d k n (i ∷ is) h =
    Later-append n (here i.offset (rules_at insts d k i)) (group_3_from insts (declare (says insts) d i) (k + 1) is) (Later-here n i.offset (rules_at insts d k i) h.0)
    (Later-weaken n (suc i.offset) (group_3_from insts (declare (says insts) d i) (k + 1) is) (let lower : n ≤ i.offset = h.0 in omega (arith, lower))
    (group_later end insts (declare (says insts) d i) (k + 1) (suc i.offset) is h.1))

first_of : (end : ℕ) (insts : List Instruction) (d : Declared) (k n : ℕ) (i : Instruction) (is : List Instruction) → RisesTo end n (i ∷ is) →
    first (group_3_from insts d k (i ∷ is)) ≡ at_place i.offset (least (rules_at insts d k i)) (first (group_3_from insts (declare (says insts) d i) (k + 1) is))
unfolding group_3_from
first_of end insts d k n i is h =
    first-here-later i.offset (rules_at insts d k i) (group_3_from insts (declare (says insts) d i) (k + 1) is)
    (group_later end insts (declare (says insts) d i) (k + 1) (suc i.offset) is h.1)

first_of-none : (insts : List Instruction) (d : Declared) (k : ℕ) → first (group_3_from insts d k []) ≡ None
unfolding group_3_from
first_of-none insts d k = refl

drop_at : (insts : List Instruction) (k : ℕ) (i : Instruction) → slice_get insts k ≡ Some i → drop k insts ≡ i ∷ drop (k + 1) insts
drop_at insts k i at =
    let e : suc k ≡ k + 1 = omega arith in
    drop-cons insts k i (slice_get_within insts k i at) ∙ ap (λ (j : Instruction). j ∷ drop (suc k) insts) (get_or_from_slice_get insts k i i at) ∙ ap (λ n. i ∷ drop n insts) e

-- nothing was read
pub read-none : (end : ℕ) (insts : List Instruction) → RisesTo end 5 insts → IsRead end insts 0
read-none end insts rises = record { from = 5; rises = rises; rest = refl; unbroken = λ j i below at. absurd (omega (arith, below)) }

at_next : (end : ℕ) (insts : List Instruction) (k : ℕ) (i : Instruction) (h : IsRead end insts k) → slice_get insts k ≡ Some i → RisesTo end h.from (i ∷ drop (k + 1) insts)
at_next end insts k i h at = subst (RisesTo end h.from) (drop_at insts k i at) h.rises

-- the least rule that the next instruction breaks is the first broken rule, or the first is that of what is behind
pub first_at : (end : ℕ) (insts : List Instruction) (k : ℕ) (i : Instruction) → IsRead end insts k → slice_get insts k ≡ Some i →
    first (group_3 insts) ≡ at_place i.offset (least (rules_at insts (declared_before insts k) k i)) (first (group_3_from insts (declare (says insts) (declared_before insts k) i) (k + 1) (drop (k + 1) insts)))
first_at end insts k i h at =
    h.rest ∙ ap (λ is. first (group_3_from insts (declared_before insts k) k is)) (drop_at insts k i at)
    ∙ first_of end insts (declared_before insts k) k h.from i (drop (k + 1) insts) (at_next end insts k i h at)

pub read-refused : (end : ℕ) (insts : List Instruction) (k : ℕ) (i : Instruction) (rule : ℕ) → IsRead end insts k → slice_get insts k ≡ Some i →
    least (rules_at insts (declared_before insts k) k i) ≡ Some rule → first (group_3 insts) ≡ Some (record { rule = rule; at = i.offset })
read-refused end insts k i rule h at broken =
    first_at end insts k i h at
    ∙ ap (λ (o : Option ℕ). at_place i.offset o (first (group_3_from insts (declare (says insts) (declared_before insts k) i) (k + 1) (drop (k + 1) insts)))) broken

pub least-none : (rules : List ℕ) → least rules ≡ None → rules ≡ []
least-none [] h = refl
least-none (r ∷ rs) h = cc

abbrev instruction_or : Instruction → Option Instruction → Instruction
instruction_or d None = d
instruction_or d (Some y) = y

-- one instruction more that breaks no rule
pub unbroken_more : (insts : List Instruction) (k : ℕ) (i : Instruction) → Unbroken insts k → slice_get insts k ≡ Some i → rules_at insts (declared_before insts k) k i ≡ [] → Unbroken insts (k + 1)
unbroken_more insts k i h at passes j x below at_j = by (one_of below)
  where
    one_of : j < k + 1 → (j < k) ⊎ (j ≡ k)
    one_of below = grind (arith)

    by : (j < k) ⊎ (j ≡ k) → rules_at insts (declared_before insts j) j x ≡ []
    by (inl lower) = h j x lower at_j
    by (inr same) =
        let is : Some x ≡ Some i = sym at_j ∙ ap (slice_get insts) same ∙ at in
        subst (λ n. rules_at insts (declared_before insts n) n x ≡ []) (sym same) (subst (λ y. rules_at insts (declared_before insts k) k y ≡ []) (sym (ap (instruction_or i) is)) passes)

pub read-next : (end : ℕ) (insts : List Instruction) (k : ℕ) (i : Instruction) → IsRead end insts k → slice_get insts k ≡ Some i →
    rules_at insts (declared_before insts k) k i ≡ [] → IsRead end insts (k + 1)
read-next end insts k i h at passes =
    let e : suc k ≡ k + 1 = omega arith in
    record {
      from = suc i.offset;
      rises = (at_next end insts k i h at).1;
      rest =
          first_at end insts k i h at
          ∙ ap (λ (rules : List ℕ). at_place i.offset (least rules) (first (group_3_from insts (declare (says insts) (declared_before insts k) i) (k + 1) (drop (k + 1) insts)))) passes
          ∙ ap (λ (d : Declared). first (group_3_from insts d (k + 1) (drop (k + 1) insts))) (sym (declared-more insts k i at) ∙ ap (declared_before insts) e);
      unbroken = unbroken_more insts k i h.unbroken at passes;
    }

-- all were read
pub read-all : (end : ℕ) (insts : List Instruction) (k : ℕ) → IsRead end insts k → length insts ≤ k → first (group_3 insts) ≡ None
read-all end insts k h past =
    h.rest ∙ ap (λ is. first (group_3_from insts (declared_before insts k) k is)) (drop_of_length-le insts past) ∙ first_of-none insts (declared_before insts k) k
