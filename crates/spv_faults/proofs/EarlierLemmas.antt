-- The first of two lists of broken rules is the earlier of the first of each, and the first of the rules at one place is the least.
use Rattle.std.proofs.Common.{◌≡◌, ℕ, Bool, true, false, cond, List, [], ◌∷◌, ◌++◌, Option, Some, None, refl, sym, ap, ◌∙◌, arith, append-nil}
use Rattle.std.proofs.lemmas.Bool.Decides.{nat_tests}
use Rattle.spv_base.specs.declared.fault.Refusal.{Refusal}
use Rattle.spv_module.specs.First.{here, comes_before, earlier, first, least, at_place}
use Rattle.spv_module.proofs.FirstLemmas.{first-here-later}
use Rattle.spv_walk.specs.Found.{earlier_of}

before-through : (d c b : Refusal) → comes_before d c ≡ true → comes_before c b ≡ true → comes_before d b ≡ true
before-through d c b h k = grind (arith, nat_tests)

not_before-through : (d c b : Refusal) → comes_before d c ≡ false → comes_before c b ≡ false → comes_before d b ≡ false
not_before-through d c b h k = grind (arith, nat_tests)

-- of three
earlier_two : (b c d : Refusal) (dc cb db : Bool) → comes_before d c ≡ dc → comes_before c b ≡ cb → comes_before d b ≡ db →
    cond (comes_before (cond dc d c) b) (cond dc d c) b ≡ cond (comes_before d (cond cb c b)) d (cond cb c b)
earlier_two b c d true true db h k m = rw (before-through d c b h k) (rw h refl)
earlier_two b c d true false db h k m = refl
earlier_two b c d false true db h k m = rw h (rw k refl)
earlier_two b c d false false db h k m = rw k (rw (not_before-through d c b h k) refl)

earlier-through : (b c d : Refusal) → earlier b (Some (earlier c (Some d))) ≡ earlier (earlier b (Some c)) (Some d)
earlier-through b c d = earlier_two b c d (comes_before d c) (comes_before c b) (comes_before d b) refl refl refl

earlier-both : (b : Refusal) (o p : Option Refusal) → Some (earlier b (earlier_of o p)) ≡ Some (earlier (earlier b o) p)
earlier-both b None p = refl
earlier-both b (Some c) None = refl
earlier-both b (Some c) (Some d) = ap Some (earlier-through b c d)

pub earlier_of-through : (o p q : Option Refusal) → earlier_of o (earlier_of p q) ≡ earlier_of (earlier_of o p) q
earlier_of-through None p q = refl
earlier_of-through (Some b) p q = earlier-both b p q

-- induction on the first list
pub first-append : (bs cs : List Refusal) → first (bs ++ cs) ≡ earlier_of (first bs) (first cs)
first-append [] cs = refl
first-append (b ∷ bs) cs = ap (λ o. Some (earlier b o)) (first-append bs cs) ∙ earlier-both b (first bs) (first cs)

pub earlier_of-none : (o : Option Refusal) → earlier_of o None ≡ o
earlier_of-none None = refl
earlier_of-none (Some b) = refl

-- a list is looked through in two parts
pub first-next : (found fault found2 all : Option Refusal) (bs cs : List Refusal) → fault ≡ first bs → found2 ≡ earlier_of found fault →
    earlier_of found (first (bs ++ cs)) ≡ all → earlier_of found2 (first cs) ≡ all
first-next found fault found2 all bs cs is next told =
    ap (λ o. earlier_of o (first cs)) (next ∙ ap (earlier_of found) is)
    ∙ sym (earlier_of-through found (first bs) (first cs))
    ∙ ap (earlier_of found) (sym (first-append bs cs))
    ∙ told

first-rules : (at : ℕ) (rules : List ℕ) → first (here at rules) ≡ at_place at (least rules) None
first-rules at rules = ap first (sym (append-nil (here at rules))) ∙ first-here-later at rules [] tt

pub first-some : (at rule : ℕ) (rules : List ℕ) → Some rule ≡ least rules → Some (record { rule = rule; at = at }) ≡ first (here at rules)
first-some at rule rules h = sym (first-rules at rules ∙ ap (λ o. at_place at o None) (sym h))

pub first-none : (at : ℕ) (rules : List ℕ) → None ≡ least rules → None ≡ first (here at rules)
first-none at rules h = sym (first-rules at rules ∙ ap (λ o. at_place at o None) (sym h))

pub earlier-parts : (one other result : Option Refusal) (bs cs : List Refusal) → result ≡ earlier_of one other → one ≡ first bs → other ≡ first cs → result ≡ first (bs ++ cs)
earlier-parts one other result bs cs is h k = is ∙ ap (λ o. earlier_of o other) h ∙ ap (earlier_of (first bs)) k ∙ sym (first-append bs cs)
