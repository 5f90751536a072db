-- Lists: what holds of all of some, tests that some pass, and tables with one entry more.
use Rattle.std.proofs.Common.{◌≡◌, inl, inr, ℕ, suc, Bool, true, false, cond, ◌||◌, List, [], ◌∷◌, ◌++◌, length, nat_eq, Option, Some, None, refl, ap, ap₂, subst, ◌∙◌, sym}
use Rattle.std.specs.List.{AllByRecursion, list_any}
use Rattle.std.specs.Map.{lookup}
use Rattle.spv_module.specs.Instruction.{Instruction}
use Rattle.spv_meaning.specs.Statements.{words_of}
use Rattle.spv_trees.specs.Standing.{OneOf}

-- ---- all of some

pub all_front : {A : Type 0} (P : A → Type 0) (xs ys : List A) → AllByRecursion P (xs ++ ys) → AllByRecursion P xs
all_front P [] ys h = tt
all_front P (x ∷ xs) ys h = (h.0, all_front P xs ys h.1)

pub all_here : {A : Type 0} (P : A → Type 0) (xs : List A) (y : A) (ys : List A) → AllByRecursion P (xs ++ y ∷ ys) → P y
all_here P [] y ys h = h.0
all_here P (x ∷ xs) y ys h = all_here P xs y ys h.1

pub one_all : {A : Type 0} (P : A → Type 0) (xs : List A) (x : A) → AllByRecursion P xs → OneOf x xs → P x
one_all P [] x all o = absurd o
one_all P (y ∷ ys) x all (inl e) = subst P (sym e) all.0
one_all P (y ∷ ys) x all (inr o) = one_all P ys x all.1 o

-- ---- tests

-- where two tests are the same of each
pub any_on : (P : ℕ → Type 0) (f g : ℕ → Bool) → ((id : ℕ) → P id → f id ≡ g id) → (ids : List ℕ) → AllByRecursion P ids → list_any f ids ≡ list_any g ids
any_on P f g h [] all = refl
any_on P f g h (id ∷ ids) all = ap₂ (λ (a b : Bool). a || b) (h id all.0) (any_on P f g h ids all.1)

-- and where they are so of instructions of the same words
pub any_words : (p q : Instruction → Bool) → ((i j : Instruction) → j.words ≡ i.words → p j ≡ q i) → (xs ys : List Instruction) → words_of ys ≡ words_of xs
    → list_any p ys ≡ list_any q xs
any_words p q h [] [] e = refl
any_words p q h [] (y ∷ ys) e = absurd (cc e)
any_words p q h (x ∷ xs) [] e = absurd (cc e)
any_words p q h (x ∷ xs) (y ∷ ys) e = ap₂ (λ (a b : Bool). a || b) (h x y (cc e)) (any_words p q h xs ys (cc e))

pub any_back : {A : Type 0} (p : A → Bool) (xs ys : List A) → list_any p ys ≡ true → list_any p (xs ++ ys) ≡ true
any_back p [] ys h = h
any_back p (x ∷ xs) ys h = ap (λ b. p x || b) (any_back p xs ys h) ∙ by (p x)
  where
    by : (b : Bool) → (b || true) ≡ true
    by true = refl
    by false = refl

-- ---- lengths and cuts

pub length_by_words : (xs ys : List Instruction) → words_of xs ≡ words_of ys → length xs ≡ length ys
length_by_words [] [] e = refl
length_by_words [] (y ∷ ys) e = absurd (cc e)
length_by_words (x ∷ xs) [] e = absurd (cc e)
length_by_words (x ∷ xs) (y ∷ ys) e = let later : words_of xs ≡ words_of ys = cc e in ap (λ n. suc n) (length_by_words xs ys later)

-- what is cut off in front of the same is the same
pub behind_same : {A : Type 0} (xs ys zs : List A) → xs ++ ys ≡ xs ++ zs → ys ≡ zs
behind_same [] ys zs e = e
behind_same (x ∷ xs) ys zs e = behind_same xs ys zs (cc e)

-- ---- tables, by the first entry of an id

module _ {A : Type 0} where
  abbrev or_else : Option A → Option A → Option A
  or_else None other = other
  or_else (Some a) other = Some a

  -- induction on the table
  lookup_push : (id : ℕ) (table : List (ℕ × A)) (e : ℕ × A) → lookup (nat_eq id) (table ++ e ∷ [])
      ≡ or_else (lookup (nat_eq id) table) (lookup (nat_eq id) (e ∷ []))
  lookup_push id [] e = refl
  lookup_push id (x ∷ xs) e = by (nat_eq id x.0) (lookup_push id xs e)
    where
      by : (b : Bool) → lookup (nat_eq id) (xs ++ e ∷ []) ≡ or_else (lookup (nat_eq id) xs) (lookup (nat_eq id) (e ∷ []))
          → cond b (Some x.1) (lookup (nat_eq id) (xs ++ e ∷ [])) ≡ or_else (cond b (Some x.1) (lookup (nat_eq id) xs)) (lookup (nat_eq id) (e ∷ []))
      by true h = refl
      by false h = h

  or_none : (o : Option A) → or_else o None ≡ o
  or_none None = refl
  or_none (Some a) = refl

  -- with the same entry more, what was the same is the same
  pub lookup_both : (id : ℕ) (u v : List (ℕ × A)) (e : ℕ × A) → lookup (nat_eq id) v ≡ lookup (nat_eq id) u
      → lookup (nat_eq id) (v ++ e ∷ []) ≡ lookup (nat_eq id) (u ++ e ∷ [])
  lookup_both id u v e h = lookup_push id v e ∙ ap (λ o. or_else o (lookup (nat_eq id) (e ∷ []))) h ∙ sym (lookup_push id u e)

  -- with an entry of another id, all is the same
  pub lookup_other : (id : ℕ) (u : List (ℕ × A)) (e : ℕ × A) → nat_eq id e.0 ≡ false → lookup (nat_eq id) (u ++ e ∷ []) ≡ lookup (nat_eq id) u
  lookup_other id u e h =
      lookup_push id u e ∙ ap (λ (b : Bool). or_else (lookup (nat_eq id) u) (cond b (Some e.1) None)) h ∙ or_none (lookup (nat_eq id) u)
