-- The ids that are known to be named, with one that was handed out.
use Rattle.std.proofs.Common.{◌≡◌, ℕ, zero, suc, ◌+◌, ◌<◌, ◌≤◌, Bool, true, false, nat_lt, List, [], ◌∷◌, ◌++◌, Option, Some, None, IfSome, refl, ap, ◌∙◌, arith}
use Rattle.std.proofs.lemmas.Bool.Decides.{nat_tests}
use Rattle.spv_draft.specs.declared.fresh.Index.{Index}
use Rattle.std.specs.List.{insert}
use Rattle.spv_grammar.specs.Roles.{names_id}
use Rattle.spv_module.specs.Instruction.{Instruction}
use Rattle.spv_draft.specs.Named.{named_ids, times, words_with}
use Rattle.spv_draft.specs.Tallies.{Adds}
use Rattle.spv_draft.specs.Fresh.{IsFirstFree, Knows}
use Rattle.spv_draft.proofs.Counting.{times-append}

before_next : (t : Bool) (index : Index) (taken : List ℕ) (n m : ℕ) → nat_lt m index.next ≡ t → Knows index taken → IsFirstFree index.tally index.next n → 0 < m
    → m < n → 0 < times m taken
before_next true index taken n m e known free above below = known.below m above (grind (arith, nat_tests))
before_next false index taken n m e known free above below =
    let past : index.next ≤ m = grind (arith, nat_tests) in
    let counted = free.below m past below in
    omega (arith, counted, known.at m)

times-more : (m n : ℕ) (taken named given given2 : List ℕ) → taken ≡ named ++ given → given2 ≡ given ++ n ∷ []
    → times m (named ++ given2) ≡ times m taken + times m (n ∷ [])
times-more m n taken named given given2 e more =
    omega (arith, times-append m named given2, ap (times m) more, times-append m given (n ∷ []), ap (times m) e, times-append m named given)

pub known-with : (index : Index) (with : Option Index) (n : ℕ) (taken named given given2 : List ℕ) → taken ≡ named ++ given → given2 ≡ given ++ n ∷ []
    → Knows index taken →
    IsFirstFree index.tally index.next n → IfSome with (λ x. x.next ≡ n) → IfSome with (λ x. Adds index.tally x.tally (n ∷ []))
    → IfSome with (λ x. Knows x (named ++ given2))
known-with index None n taken named given given2 e more known free next tally = tt
known-with index (Some x) n taken named given given2 e more known free next tally = record {
  at = λ id. let a = tally.at id in omega (arith, a, known.at id, times-more id n taken named given given2 e more);
  above = omega (arith, next, known.above, free.onward);
  below = λ m above below.
      let before = before_next (nat_lt m index.next) index taken n m refl known free above (omega (arith, below, next)) in
      omega (arith, before, times-more m n taken named given given2 e more);
}

-- more ids are named
pub knows-more : (old new : Index) (more named : List ℕ) → new.next ≡ old.next → Adds old.tally new.tally more → Knows old named → Knows new (more ++ named)
knows-more old new more named next adds known = record {
  at = λ id. let a = adds.at id in omega (arith, a, known.at id, times-append id more named);
  above = omega (arith, next, known.above);
  below = λ n above below. let before = known.below n above (omega (arith, below, next)) in omega (arith, before, times-append n more named);
}

-- the ids that an instruction names, put in among those of others; induction on the instructions before it
times-inserted : (id : ℕ) (insts : List Instruction) (k : ℕ) (i : Instruction) → times id (named_ids (insert insts k i)) ≡ times id (words_with names_id i) + times id (named_ids insts)
times-inserted id [] zero i = times-append id (words_with names_id i) []
times-inserted id [] (suc k) i = times-append id (words_with names_id i) []
times-inserted id (j ∷ insts) zero i = times-append id (words_with names_id i) (named_ids (j ∷ insts))
times-inserted id (j ∷ insts) (suc k) i =
    omega (
      arith,
      times-append id (words_with names_id j) (named_ids (insert insts k i)),
      times-inserted id insts k i,
      times-append id (words_with names_id j) (named_ids insts),
    )

knows-same : (index : Index) (xs ys : List ℕ) → ((id : ℕ) → times id xs ≡ times id ys) → Knows index xs → Knows index ys
knows-same index xs ys same known = record {
  at = λ id. known.at id ∙ same id;
  above = known.above;
  below = λ n above below. let before = known.below n above below in omega (arith, before, same n);
}

-- an instruction was put in
pub known-inserted : (index : Option Index) (insts after : List Instruction) (given : List ℕ) (k : ℕ) (i : Instruction) → after ≡ insert insts k i →
    IfSome index (λ x. Knows x (words_with names_id i ++ (named_ids insts ++ given))) → IfSome index (λ x. Knows x (named_ids after ++ given))
known-inserted None insts after given k i e known = tt
known-inserted (Some x) insts after given k i e known =
    knows-same x (words_with names_id i ++ (named_ids insts ++ given)) (named_ids after ++ given)
    (λ id. omega (
      arith,
      times-append id (words_with names_id i) (named_ids insts ++ given),
      times-append id (named_ids insts) given,
      times-append id (named_ids after) given,
      ap (λ is. times id (named_ids is)) e,
      times-inserted id insts k i,
    ))
    known
