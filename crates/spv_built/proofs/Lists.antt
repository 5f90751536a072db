-- Facts of lists.
use Rattle.std.proofs.Common.{◌≡◌, inl, inr, ℕ, zero, suc, ◌+◌, List, [], ◌∷◌, ◌++◌, length, Some, refl, sym, ap, ◌∙◌, subst, append_assoc, arith}
use Rattle.std.specs.List.{AllByRecursion, Contains, slice_get}
use Rattle.spv_module.specs.Instruction.{Instruction}
use Rattle.spv_norm_means.proofs.InOrder.{joined}
use Rattle.spv_trees.specs.Standing.{OneOf}

-- ---- all of a list

pub all_left : {X : Type 0} (P : X → Type 0) (xs ys : List X) → AllByRecursion P (xs ++ ys) → AllByRecursion P xs
all_left P [] ys h = tt
all_left P (x ∷ xs) ys h = (h.0, all_left P xs ys h.1)

pub all_right : {X : Type 0} (P : X → Type 0) (xs ys : List X) → AllByRecursion P (xs ++ ys) → AllByRecursion P ys
all_right P [] ys h = h
all_right P (x ∷ xs) ys h = all_right P xs ys h.1

pub all_in_texts : (P : Instruction → Type 0) (ts : List (List Instruction)) → AllByRecursion P (joined ts) → AllByRecursion (AllByRecursion P) ts
all_in_texts P [] h = tt
all_in_texts P (t ∷ ts) h = (all_left P t (joined ts) h, all_in_texts P ts (all_right P t (joined ts) h))

pub one_of_all : {X : Type 0} (P : X → Type 0) (x : X) (xs : List X) → AllByRecursion P xs → OneOf x xs → P x
one_of_all P x [] h o = absurd o
one_of_all P x (y ∷ ys) h (inl e) = subst P (sym e) h.0
one_of_all P x (y ∷ ys) h (inr o) = one_of_all P x ys h.1 o

pub all_of_each : {X : Type 0} (P : X → Type 0) (xs : List X) → ((x : X) → OneOf x xs → P x) → AllByRecursion P xs
all_of_each P [] h = tt
all_of_each P (x ∷ xs) h = (h x (inl refl), all_of_each P xs (λ y o. h y (inr o)))

-- ---- rules

pub none_of_none : (rules : List ℕ) → ((rule : ℕ) → Contains rules rule → ⊥) → rules ≡ []
none_of_none [] h = refl
none_of_none (r ∷ rules) h = absurd (h r (0, omega arith, refl))

-- ---- places

pub at_left : (xs ys : List Instruction) (k : ℕ) (i : Instruction) → slice_get xs k ≡ Some i → slice_get (xs ++ ys) k ≡ Some i
at_left [] ys k i e = absurd (cc e)
at_left (x ∷ xs) ys zero i e = e
at_left (x ∷ xs) ys (suc k) i e = at_left xs ys k i e

pub at_right : (xs ys : List Instruction) (k : ℕ) → slice_get (xs ++ ys) (length xs + k) ≡ slice_get ys k
at_right [] ys k = ap (slice_get ys) (none_more k) where
  none_more : (n : ℕ) → 0 + n ≡ n
  none_more n = omega arith
at_right (x ∷ xs) ys k = ap (slice_get (x ∷ (xs ++ ys))) (one_more (length xs) k) ∙ at_right xs ys k where
  one_more : (m n : ℕ) → suc m + n ≡ suc (m + n)
  one_more m n = omega arith

-- ---- one of some texts, and what stands round it

pub record Between (is : List Instruction) (text : List Instruction) : Type 0 where
  pub before : List Instruction
  pub after : List Instruction
  pub same : is ≡ before ++ (text ++ after)

pub behind : (front is text : List Instruction) → Between is text → Between (front ++ is) text
behind front is text b = record {
  before = front ++ b.before;
  after = b.after;
  same = ap (λ z. front ++ z) b.same ∙ sym (append_assoc front b.before (text ++ b.after));
}

pub between : (ts : List (List Instruction)) (k : ℕ) (t : List Instruction) → slice_get ts k ≡ Some t → Between (joined ts) t
between [] k t e = absurd (cc e)
between (x ∷ xs) zero t e =
    let here : x ≡ t = cc e in
    subst (Between (x ++ joined xs)) here (record { before = []; after = joined xs; same = refl })
between (x ∷ xs) (suc k) t e = behind x (joined xs) t (between xs k t e)
