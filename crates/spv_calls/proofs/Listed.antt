-- Ids that are listed, read one after the other.
use Rattle.std.proofs.Common.{◌≡◌, ℕ, suc, ◌+◌, ◌<◌, Bool, true, false, cond, ◌&&◌, ◌||◌, not, nat_eq, List, [], ◌∷◌, ◌++◌, length, take, drop, get_or, Option, Some, None, refl, sym, ap, subst, ◌∙◌, append_assoc, add-one, arith}
use Rattle.std.proofs.Math.Seq.{take-suc}
use Rattle.std.specs.BTreeSet.{BTreeSet, contains}
use Rattle.std.specs.List.{list_all, list_any}
use Rattle.std.specs.Ordering.{nat_cmp}
use Rattle.std.proofs.lemmas.Bool.{false≢true}
use Rattle.std.proofs.lemmas.Bool.Decides.{nat_tests}
use Rattle.std.proofs.lemmas.List.{append-nil, take-append-drop}
use Rattle.std.proofs.lemmas.List.Folds.{list_all-append, list_any-append}
use Rattle.spv_module.specs.Instruction.{Instruction}
use Rattle.spv_calls.specs.Calls.{is_global}
use Rattle.spv_calls.specs.Interfaces.{has, repeats}
use Rattle.spv_calls.specs.Kept.{IsListing}
use Rattle.spv_calls.proofs.Lists.{and_first, and_second, and_both}

-- each passes, and none stands twice
abbrev pub are_listed : (ℕ → Bool) → List ℕ → Bool
are_listed test xs = list_all test xs && not (repeats xs)

or_last : (a b : Bool) → (a || (b || false)) ≡ (a || b)
or_last true b = refl
or_last false true = refl
or_last false false = refl

has_push : (xs : List ℕ) (x y : ℕ) → has (xs ++ x ∷ []) y ≡ (has xs y || nat_eq y x)
has_push xs x y = list_any-append (nat_eq y) xs (x ∷ []) ∙ or_last (has xs y) (nat_eq y x)

same_eq : (x y : ℕ) → nat_eq x y ≡ nat_eq y x
same_eq x y = grind (arith, nat_tests)

turn : (a b c d : Bool) → ((a || b) || (c || d)) ≡ ((a || c) || (b || d))
turn true b c d = refl
turn false true true d = refl
turn false true false d = refl
turn false false c d = refl

-- induction on those in front
repeats_push : (xs : List ℕ) (x : ℕ) → repeats (xs ++ x ∷ []) ≡ (repeats xs || has xs x)
repeats_push [] x = refl
repeats_push (y ∷ ys) x =
    ap (λ (b : Bool). b || repeats (ys ++ x ∷ [])) (has_push ys x y)
    ∙ ap (λ (b : Bool). (has ys y || nat_eq y x) || b) (repeats_push ys x)
    ∙ turn (has ys y) (nat_eq y x) (repeats ys) (has ys x)
    ∙ ap (λ (b : Bool). (has ys y || repeats ys) || (b || has ys x)) (same_eq y x)

join : (a b r h : Bool) → ((a && (b && true)) && not (r || h)) ≡ ((a && not r) && (b && not h))
join false b r h = refl
join true true true h = refl
join true true false h = refl
join true false r h = sym (and_none (not r))
  where
    and_none : (c : Bool) → (c && false) ≡ false
    and_none true = refl
    and_none false = refl

pub listed-push : (test : ℕ → Bool) (xs : List ℕ) (x : ℕ) → are_listed test (xs ++ x ∷ []) ≡ (are_listed test xs && (test x && not (has xs x)))
listed-push test xs x =
    ap (λ (b : Bool). b && not (repeats (xs ++ x ∷ []))) (list_all-append test xs (x ∷ []))
    ∙ ap (λ (b : Bool). (list_all test xs && (test x && true)) && not b) (repeats_push xs x)
    ∙ join (list_all test xs) (test x) (repeats xs) (has xs x)

-- where more are listed so, those in front are; induction on those behind
listed_front : (test : ℕ → Bool) (xs ys : List ℕ) → are_listed test (xs ++ ys) ≡ true → are_listed test xs ≡ true
listed_front test xs [] e = subst (λ (zs : List ℕ). are_listed test zs ≡ true) (append-nil xs) e
listed_front test xs (y ∷ ys) e =
    and_first (are_listed test xs) (test y && not (has xs y))
    (sym (listed-push test xs y) ∙ listed_front test (xs ++ y ∷ []) ys (subst (λ (zs : List ℕ). are_listed test zs ≡ true) (sym (append_assoc xs (y ∷ []) ys)) e))

pub next-id : (ids : List ℕ) (k : ℕ) → k < length ids → take (k + 1) ids ≡ take k ids ++ get_or ids k 0 ∷ []
next-id ids k less = rw add-one (take-suc ids k 0 less)

-- the first k are listed so, and are in the set
pub record IsListed (insts : List Instruction) (ids : List ℕ) (k : ℕ) (set : BTreeSet ℕ) : Type 0 where
  pub fit : are_listed (is_global insts) (take k ids) ≡ true
  pub has_them : (id : ℕ) → contains nat_cmp set id ≡ has (take k ids) id

-- the next one does not fit
refuted : (insts : List Instruction) (ids : List ℕ) (k x : ℕ) → take (k + 1) ids ≡ take k ids ++ x ∷ [] → (is_global insts x && not (has (take k ids) x)) ≡ false → are_listed (is_global insts) ids ≡ false
refuted insts ids k x next bad = by (are_listed (is_global insts) ids) refl
  where
    by : (b : Bool) → are_listed (is_global insts) ids ≡ b → b ≡ false
    by false e = refl
    by true e =
        let front : are_listed (is_global insts) (take (k + 1) ids) ≡ true =
        listed_front (is_global insts) (take (k + 1) ids) (drop (k + 1) ids) (subst (λ (zs : List ℕ). are_listed (is_global insts) zs ≡ true) (sym (take-append-drop (k + 1) ids)) e) in
        sym (and_second (are_listed (is_global insts) (take k ids)) (is_global insts x && not (has (take k ids) x))
        (sym (listed-push (is_global insts) (take k ids) x) ∙ subst (λ (zs : List ℕ). are_listed (is_global insts) zs ≡ true) next front)) ∙ bad

pub listed-stranger : (insts : List Instruction) (ids : List ℕ) (k x : ℕ) → take (k + 1) ids ≡ take k ids ++ x ∷ [] → is_global insts x ≡ false → IsListing insts ids None
listed-stranger insts ids k x next e = refuted insts ids k x next (ap (λ (b : Bool). b && not (has (take k ids) x)) e)

pub listed-twice : (insts : List Instruction) (ids : List ℕ) (k x : ℕ) (set : BTreeSet ℕ) → IsListed insts ids k set → take (k + 1) ids ≡ take k ids ++ x ∷ [] → contains nat_cmp set x ≡ true → IsListing insts ids None
listed-twice insts ids k x set l next e =
    refuted insts ids k x next (ap (λ (b : Bool). is_global insts x && not b) (sym (l.has_them x) ∙ e) ∙ and_none (is_global insts x))
  where
    and_none : (c : Bool) → (c && false) ≡ false
    and_none true = refl
    and_none false = refl

pub listed-more : (insts : List Instruction) (ids : List ℕ) (k x : ℕ) (set new : BTreeSet ℕ) → IsListed insts ids k set → take (k + 1) ids ≡ take k ids ++ x ∷ [] → is_global insts x ≡ true → contains nat_cmp set x ≡ false →
    ((q : ℕ) → contains nat_cmp new q ≡ (contains nat_cmp set q || nat_eq q x)) → IsListed insts ids (k + 1) new
listed-more insts ids k x set new l next e fresh keys = record {
  fit =
      ap (are_listed (is_global insts)) next
      ∙ listed-push (is_global insts) (take k ids) x
      ∙ and_both (are_listed (is_global insts) (take k ids)) (is_global insts x && not (has (take k ids) x)) l.fit (and_both (is_global insts x) (not (has (take k ids) x)) e (ap not (sym (l.has_them x) ∙ fresh)));
  has_them = λ q.
      keys q
      ∙ ap (λ (b : Bool). b || nat_eq q x) (l.has_them q)
      ∙ sym (has_push (take k ids) x q)
      ∙ ap (λ (zs : List ℕ). has zs q) (sym next);
}
