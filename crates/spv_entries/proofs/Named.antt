-- Functions that instructions name, behind one instruction more.
use Rattle.std.proofs.Common.{◌≡◌, ℕ, ◌+◌, ◌<◌, Bool, true, false, cond, ◌&&◌, ◌||◌, not, nat_eq, nat_lt, slice_index, List, [], ◌∷◌, ◌++◌, Option, Some, None, count_by, length, take, refl, sym, ap, ◌∙◌, add-one, arith}
use Rattle.std.specs.BTreeSet.{BTreeSet, contains}
use Rattle.std.specs.Cmp.{unsigned_ties}
use Rattle.std.specs.List.{list_any, slice_get}
use Rattle.std.proofs.Math.Seq.{take-suc}
use Rattle.std.proofs.lemmas.Option.{get_or_from_slice_get}
use Rattle.std.specs.Ordering.{eq_by_cmp, nat_cmp}
use Rattle.std.proofs.lemmas.Bool.{eqb-true}
use Rattle.std.proofs.lemmas.Bool.Decides.{nat_tests}
use Rattle.std.proofs.lemmas.List.Sums.{sum_by-cons, sum_by_push}
use Rattle.spv_module.specs.Instruction.{Instruction}
use Rattle.spv_module.specs.Layout.{is_entry_point}
use Rattle.spv_repeats.specs.Steps.{Adds, is_some_and}
use Rattle.spv_repeats.proofs.KeySets.{any-push, has-add}
use Rattle.spv_entries.specs.declared.naming.Modes.{Modes}
use Rattle.spv_entries.specs.Sizes.{names, some_names, two_name, entry_function, is_sized, is_mode, size_fits}
use Rattle.spv_entries.specs.Naming.{HasNamed, HasModes, AddsMode}

pub name_ties : (q : ℕ) (o : Option ℕ) → is_some_and (eq_by_cmp nat_cmp q) o ≡ names o q
name_ties q None = refl
name_ties q (Some n) = sym (unsigned_ties q n)

pub named-more : (kind : Instruction → Option ℕ) (old new : BTreeSet ℕ) (o : Option ℕ) (known : Bool) (before : List Instruction) (i : Instruction) → Adds nat_cmp old new o known → o ≡ kind i → HasNamed kind old before → HasNamed kind new (before ++ i ∷ [])
named-more kind old new o known before i adds e h =
    has-add nat_cmp (λ id j. names (kind j) id) old new o known before i adds (λ q. name_ties q o ∙ ap (λ (p : Option ℕ). names p q) e) h

-- ---- named twice

and_none : (b : Bool) → (b && false) ≡ false
and_none true = refl
and_none false = refl

known_names : (set : BTreeSet ℕ) (o : Option ℕ) (q : ℕ) → (is_some_and (contains nat_cmp set) o && names o q) ≡ (contains nat_cmp set q && names o q)
known_names set None q = sym (and_none (contains nat_cmp set q))
known_names set (Some n) q = by (nat_eq q n) refl
  where
    by : (b : Bool) → nat_eq q n ≡ b → (contains nat_cmp set n && b) ≡ (contains nat_cmp set q && b)
    by true e = ap (λ (m : ℕ). contains nat_cmp set m && true) (sym (eqb-true q n e))
    by false e = and_none (contains nat_cmp set n) ∙ sym (and_none (contains nat_cmp set q))

pub mode-adds : (old new : Modes) (o : Option ℕ) (known : Bool) → Adds nat_cmp old.once new.once o known → ((q : ℕ) → contains nat_cmp new.twice q ≡ (contains nat_cmp old.twice q || (known && names o q))) → AddsMode old new o
mode-adds old new o known adds twice = record {
  once = λ q. adds.keys q ∙ ap (λ (b : Bool). contains nat_cmp old.once q || b) (name_ties q o);
  twice = λ q.
      twice q
      ∙ ap (λ (b : Bool). contains nat_cmp old.twice q || (b && names o q)) adds.known
      ∙ ap (λ (b : Bool). contains nat_cmp old.twice q || b) (known_names old.once o q);
}

some_cons : (b : Bool) (n : ℕ) → (b || nat_lt 0 n) ≡ nat_lt 0 (cond b 1 0 + n)
some_cons true n = grind (arith, nat_tests)
some_cons false n = grind (arith, nat_tests)

-- induction on the elements
any-count : {X : Type 0} (p : X → Bool) (xs : List X) → list_any p xs ≡ nat_lt 0 (count_by p xs)
any-count p [] = refl
any-count p (x ∷ xs) =
    ap (λ (b : Bool). p x || b) (any-count p xs) ∙ some_cons (p x) (count_by p xs) ∙ ap (nat_lt 0) (sym (sum_by-cons (λ y. cond (p y) 1 0) x xs))

two_more : (b : Bool) (n : ℕ) → (nat_lt 1 n || (nat_lt 0 n && b)) ≡ nat_lt 1 (n + cond b 1 0)
two_more true n = grind (arith, nat_tests)
two_more false n = grind (arith, nat_tests)

pub two-push : {X : Type 0} (p : X → Bool) (xs : List X) (x : X) → (nat_lt 1 (count_by p xs) || (list_any p xs && p x)) ≡ nat_lt 1 (count_by p (xs ++ x ∷ []))
two-push p xs x =
    ap (λ (b : Bool). nat_lt 1 (count_by p xs) || (b && p x)) (any-count p xs)
    ∙ two_more (p x) (count_by p xs)
    ∙ ap (nat_lt 1) (sym (sum_by_push (λ y. cond (p y) 1 0) xs x))

pub modes-more : (kind : Instruction → Option ℕ) (old new : Modes) (o : Option ℕ) (before : List Instruction) (i : Instruction) → AddsMode old new o → o ≡ kind i → HasModes kind old before → HasModes kind new (before ++ i ∷ [])
modes-more kind old new o before i adds e h = record {
  once = record {
    has = λ q.
        adds.once q
        ∙ ap (λ (b : Bool). b || names o q) (h.once.has q)
        ∙ ap (λ (p : Option ℕ). some_names kind before q || names p q) e
        ∙ sym (any-push (λ j. names (kind j) q) before i);
  };
  twice = λ q.
      adds.twice q
      ∙ ap (λ (b : Bool). b || (contains nat_cmp old.once q && names o q)) (h.twice q)
      ∙ ap (λ (b : Bool). two_name kind before q || (b && names o q)) (h.once.has q)
      ∙ ap (λ (p : Option ℕ). two_name kind before q || (some_names kind before q && names p q)) e
      ∙ two-push (λ j. names (kind j) q) before i;
}

-- ---- the function of an entry point

pub sized-at : (insts : List Instruction) (i : Instruction) (f : ℕ) (b : Bool) → Some f ≡ entry_function i → b ≡ is_sized insts f → b ≡ size_fits insts i
unfolding size_fits
sized-at insts i f b e sized = by (is_entry_point i) e
  where
    by : (entry : Bool) → Some f ≡ cond entry (Some (slice_index i.words 2)) None → b ≡ cond entry (is_sized insts (slice_index i.words 2)) (not (is_mode i) || some_names entry_function insts (slice_index i.words 1))
    by true same = let at : f ≡ slice_index i.words 2 = cc in sized ∙ ap (is_sized insts) at
    by false same = cc

-- ---- all instructions

pub take-at : (insts : List Instruction) (k : ℕ) (i : Instruction) → k < length insts → slice_get insts k ≡ Some i → take (k + 1) insts ≡ take k insts ++ i ∷ []
take-at insts k i fits at = rw add-one (take-suc insts k i fits ∙ ap (λ (j : Instruction). take k insts ++ j ∷ []) (get_or_from_slice_get insts k i i at))
