-- Some of finitely many things are chosen so that what is decided of each choice holds, where it cannot but hold of those that have a property.
use Rattle.std.proofs.Common.{◌⊎◌, inl, inr, List, [], ◌∷◌, refl}
use Rattle.std.specs.List.{AllByRecursion}
use Rattle.spv_trees.specs.Standing.{OneOf}

-- a statement, or that it does not hold
abbrev pub Decided : Type 0 → Type 0
Decided A = A ⊎ (A → ⊥)

-- it holds of no choice among these
abbrev pub OfNone : {X : Type 0} → List X → (List X → Type 0) → Type 0
OfNone [] Q = Q [] → ⊥
OfNone (x ∷ xs) Q = OfNone xs Q × OfNone xs (λ ys. Q (x ∷ ys))

pub chosen : {X : Type 0} (xs : List X) (Q : List X → Type 0) → ((ys : List X) → Decided (Q ys)) → ((ys : List X) × Q ys) ⊎ OfNone xs Q
chosen [] Q decide = elim (decide []) [ inl q ↦ inl ([], q) | inr n ↦ inr n ]
chosen (x ∷ xs) Q decide = elim (chosen xs Q decide) [
  | inl r ↦ inl r
  | inr without ↦ elim (chosen xs (λ ys. Q (x ∷ ys)) (λ ys. decide (x ∷ ys))) [ inl r ↦ inl (x ∷ r.0, r.1) | inr taken ↦ inr (without, taken) ]
]

-- of some, these are the ones that have a property
pub record Picks {X : Type 0} (P : X → Type 0) (xs ys : List X) : Type 0 where
  pub only : AllByRecursion P ys
  pub all : AllByRecursion (λ x. P x → OneOf x ys) xs

one_more : {X : Type 0} (P : X → Type 0) (x : X) (xs ys : List X) → AllByRecursion (λ z. P z → OneOf z ys) xs
    → AllByRecursion (λ z. P z → OneOf z (x ∷ ys)) xs
one_more P x [] ys h = tt
one_more P x (z ∷ xs) ys h = (λ p. inr (h.0 p), one_more P x xs ys h.1)

-- there is a choice of which it holds, if it holds of these
pub some_choice : {X : Type 0} (P : X → Type 0) (xs : List X) (Q : List X → Type 0) → OfNone xs Q → ((ys : List X) → Picks P xs ys → Q ys) → ⊥
some_choice P [] Q none give = none (give [] (record { only = tt; all = tt }))
some_choice P (x ∷ xs) Q none give =
    let not_x : P x → ⊥ = λ p.
    some_choice P xs (λ ys. Q (x ∷ ys)) none.1
    (λ ys picks. give (x ∷ ys) (record { only = (p, picks.only); all = (λ q. inl refl, one_more P x xs ys picks.all) })) in
    some_choice P xs Q none.0 (λ ys picks. give ys (record { only = picks.only; all = (λ p. absurd (not_x p), picks.all) }))
