-- Small functions that are sound, and some that are not.
use Rattle.std.proofs.Common.{◌≡◌, ℕ, Option, Some, None, List, [], ◌∷◌, refl, sym, ap, arith}
use Rattle.std.specs.List.{Contains, IsDistinct}
use Rattle.std.specs.Option.{is_some}
use Rattle.std.proofs.lemmas.Bool.{false≢true}
use Rattle.std.proofs.lemmas.List.Elements.{All-nil, All-cons}
use Rattle.std.proofs.lemmas.List.Kept.{AllPairs-cons}
use Rattle.spv_grammar.specs.Table.{row_of}
use Rattle.spv_bodies.specs.Bodies.{Front}
use Rattle.spv_bodies.specs.Facts.{chosen, leave, looping, of_body, placed}
use Rattle.spv_bodies.specs.Listing.{Branching}
use Rattle.spv_tree.specs.Fronts.{CarriesAll, IsShort}
use Rattle.spv_tree.specs.Sound.{AreAlike, IsSound}
use Rattle.spv_tree.specs.Facts.{falling, foreign, late, stray, twice, valueless}

-- ---- branches

-- with a value
abbrev carrying : (block target value : ℕ) → Branching
carrying block target value = (block, record { target = target; values = value ∷ [] })

-- without values
abbrev bare : (block target : ℕ) → Branching
bare block target = (block, record { target = target; values = [] })

apart : (a b : Branching) → (a.0 ≡ b.0 → ⊥) → AreAlike a b
apart a b n e _ = absurd (n e)

elsewhere : (a b : Branching) → (a.1.target ≡ b.1.target → ⊥) → AreAlike a b
elsewhere a b n _ e = absurd (n e)

Arrives : List ℕ → Branching → Type 0
Arrives labels branching = Contains labels branching.1.target

-- ---- a selection

chosen-sound : IsSound (of_body chosen)
unfolding IsDistinct Arrives
chosen-sound =
    let a : Branching = carrying 6 7 10 in
    let b : Branching = carrying 12 7 11 in
    record {
      labels = ((refl, (refl, (refl, tt))), ((refl, (refl, tt)), ((refl, tt), (tt, tt))));
      arrive = All-cons (Arrives (7 ∷ [])) a (b ∷ []) (0, omega arith, refl) (All-cons (Arrives (7 ∷ [])) b [] (0, omega arith, refl) (All-nil (Arrives (7 ∷ []))));
      alike = AllPairs-cons AreAlike a (b ∷ []) (All-cons (AreAlike a) b [] (apart a b (λ e. omega (arith, e))) (All-nil (AreAlike a)))
          (AllPairs-cons AreAlike b [] (All-nil (AreAlike b)) (λ i j d x y. absurd (omega (arith, y))));
      formed = (
        refl,
        refl,
        record {
          values = All-cons (CarriesAll 1) a (b ∷ []) refl (All-cons (CarriesAll 1) b [] refl (All-nil (CarriesAll 1)));
          short = All-cons (IsShort (a ∷ b ∷ [])) (record { type = 9; result_id = 8; parents = 12 ∷ [] }) [] (omega arith) (All-nil (IsShort (a ∷ b ∷ [])));
        },
        tt,
        tt,
        refl,
      );
      placed = (tt, tt, tt);
    }

-- ---- a loop

looping-sound : IsSound (of_body looping)
unfolding IsDistinct Arrives
looping-sound =
    let a : Branching = bare 4 5 in
    let b : Branching = bare 5 6 in
    let c : Branching = bare 9 7 in
    let d : Branching = bare 7 5 in
    let fronts : List ℕ = 5 ∷ 7 ∷ 6 ∷ [] in
    let P : Branching → Type 0 = Arrives fronts in
    record {
      labels = ((refl, (refl, (refl, (refl, tt)))), ((refl, (refl, (refl, tt))), ((refl, (refl, tt)), ((refl, tt), (tt, tt)))));
      arrive = All-cons P a (b ∷ c ∷ d ∷ []) (0, omega arith, refl) (All-cons P b (c ∷ d ∷ []) (2, omega arith, refl) (All-cons P c (d ∷ []) (1, omega arith, refl)
          (All-cons P d [] (0, omega arith, refl) (All-nil P))));
      alike = AllPairs-cons AreAlike a (b ∷ c ∷ d ∷ [])
          (All-cons (AreAlike a) b (c ∷ d ∷ []) (apart a b (λ e. omega (arith, e))) (All-cons (AreAlike a) c (d ∷ []) (apart a c (λ e. omega (arith, e)))
          (All-cons (AreAlike a) d [] (apart a d (λ e. omega (arith, e))) (All-nil (AreAlike a)))))
          (AllPairs-cons AreAlike b (c ∷ d ∷ []) (All-cons (AreAlike b) c (d ∷ []) (apart b c (λ e. omega (arith, e)))
          (All-cons (AreAlike b) d [] (apart b d (λ e. omega (arith, e))) (All-nil (AreAlike b))))
          (AllPairs-cons AreAlike c (d ∷ []) (All-cons (AreAlike c) d [] (apart c d (λ e. omega (arith, e))) (All-nil (AreAlike c)))
          (AllPairs-cons AreAlike d [] (All-nil (AreAlike d)) (λ i j x y z. absurd (omega (arith, z))))));
      formed = (
        refl,
        record { values = All-cons (CarriesAll 0) a (d ∷ []) refl (All-cons (CarriesAll 0) d [] refl (All-nil (CarriesAll 0))); short = All-nil (IsShort (a ∷ d ∷ [])) },
        record { values = All-cons (CarriesAll 0) c [] refl (All-nil (CarriesAll 0)); short = All-nil (IsShort (c ∷ [])) },
        record { values = All-cons (CarriesAll 0) b [] refl (All-nil (CarriesAll 0)); short = All-nil (IsShort (b ∷ [])) },
        (refl, tt),
        tt,
        refl,
      );
      placed = (tt, tt, tt, tt);
    }

-- ---- loops that are arms and that are in place

placed-sound : IsSound (of_body placed)
unfolding IsDistinct Arrives
placed-sound =
    let a : Branching = carrying 4 7 10 in
    let b : Branching = bare 4 6 in
    let c : Branching = bare 6 14 in
    let d : Branching = bare 14 6 in
    let e : Branching = carrying 15 7 10 in
    let g : Branching = bare 7 12 in
    let k : Branching = carrying 12 7 11 in
    let fronts : List ℕ = 7 ∷ 6 ∷ 14 ∷ 15 ∷ 12 ∷ 13 ∷ [] in
    let P : Branching → Type 0 = Arrives fronts in
    record {
      labels = ((refl, (refl, (refl, (refl, (refl, (refl, tt)))))), ((refl, (refl, (refl, (refl, (refl, tt))))), ((refl, (refl, (refl, (refl, tt)))), ((refl, (refl, (refl, tt))), ((refl, (refl, tt)), ((refl, tt), (tt, tt)))))));
      arrive = All-cons P a (b ∷ c ∷ d ∷ e ∷ g ∷ k ∷ []) (0, omega arith, refl) (All-cons P b (c ∷ d ∷ e ∷ g ∷ k ∷ []) (1, omega arith, refl) (All-cons P c (d ∷ e ∷ g ∷ k ∷ []) (2, omega arith, refl) (All-cons P d (e ∷ g ∷ k ∷ []) (1, omega arith, refl) (All-cons P e (g ∷ k ∷ []) (0, omega arith, refl) (All-cons P g (k ∷ []) (4, omega arith, refl) (All-cons P k ([]) (0, omega arith, refl) (All-nil P)))))));
      alike = AllPairs-cons AreAlike a (b ∷ c ∷ d ∷ e ∷ g ∷ k ∷ []) (All-cons (AreAlike a) b (c ∷ d ∷ e ∷ g ∷ k ∷ []) (elsewhere a b (λ u. omega (arith, u))) (All-cons (AreAlike a) c (d ∷ e ∷ g ∷ k ∷ []) (apart a c (λ u. omega (arith, u))) (All-cons (AreAlike a) d (e ∷ g ∷ k ∷ []) (apart a d (λ u. omega (arith, u))) (All-cons (AreAlike a) e (g ∷ k ∷ []) (apart a e (λ u. omega (arith, u))) (All-cons (AreAlike a) g (k ∷ []) (apart a g (λ u. omega (arith, u))) (All-cons (AreAlike a) k ([]) (apart a k (λ u. omega (arith, u))) (All-nil (AreAlike a))))))))
          (AllPairs-cons AreAlike b (c ∷ d ∷ e ∷ g ∷ k ∷ []) (All-cons (AreAlike b) c (d ∷ e ∷ g ∷ k ∷ []) (apart b c (λ u. omega (arith, u))) (All-cons (AreAlike b) d (e ∷ g ∷ k ∷ []) (apart b d (λ u. omega (arith, u))) (All-cons (AreAlike b) e (g ∷ k ∷ []) (apart b e (λ u. omega (arith, u))) (All-cons (AreAlike b) g (k ∷ []) (apart b g (λ u. omega (arith, u))) (All-cons (AreAlike b) k ([]) (apart b k (λ u. omega (arith, u))) (All-nil (AreAlike b)))))))
          (AllPairs-cons AreAlike c (d ∷ e ∷ g ∷ k ∷ []) (All-cons (AreAlike c) d (e ∷ g ∷ k ∷ []) (apart c d (λ u. omega (arith, u))) (All-cons (AreAlike c) e (g ∷ k ∷ []) (apart c e (λ u. omega (arith, u))) (All-cons (AreAlike c) g (k ∷ []) (apart c g (λ u. omega (arith, u))) (All-cons (AreAlike c) k ([]) (apart c k (λ u. omega (arith, u))) (All-nil (AreAlike c))))))
          (AllPairs-cons AreAlike d (e ∷ g ∷ k ∷ []) (All-cons (AreAlike d) e (g ∷ k ∷ []) (apart d e (λ u. omega (arith, u))) (All-cons (AreAlike d) g (k ∷ []) (apart d g (λ u. omega (arith, u))) (All-cons (AreAlike d) k ([]) (apart d k (λ u. omega (arith, u))) (All-nil (AreAlike d)))))
          (AllPairs-cons AreAlike e (g ∷ k ∷ []) (All-cons (AreAlike e) g (k ∷ []) (apart e g (λ u. omega (arith, u))) (All-cons (AreAlike e) k ([]) (apart e k (λ u. omega (arith, u))) (All-nil (AreAlike e))))
          (AllPairs-cons AreAlike g (k ∷ []) (All-cons (AreAlike g) k ([]) (apart g k (λ u. omega (arith, u))) (All-nil (AreAlike g)))
          (AllPairs-cons AreAlike k [] (All-nil (AreAlike k)) (λ i j x y z w. absurd (omega (arith, w)))))))));
      formed = (
        refl,
        refl,
        record { values = All-cons (CarriesAll 1) a (e ∷ k ∷ []) refl (All-cons (CarriesAll 1) e (k ∷ []) refl (All-cons (CarriesAll 1) k ([]) refl (All-nil (CarriesAll 1)))); short = All-cons (IsShort (a ∷ e ∷ k ∷ [])) (record { type = 9; result_id = 8; parents = 4 ∷ [] }) [] (omega arith) (All-nil (IsShort (a ∷ e ∷ k ∷ []))) },
        tt,
        (refl, record { values = All-cons (CarriesAll 0) b (d ∷ []) refl (All-cons (CarriesAll 0) d ([]) refl (All-nil (CarriesAll 0))); short = All-nil (IsShort (b ∷ d ∷ [])) }, record { values = All-cons (CarriesAll 0) c ([]) refl (All-nil (CarriesAll 0)); short = All-nil (IsShort (c ∷ [])) }, record { values = All-nil (CarriesAll 0); short = All-nil (IsShort ([])) }, tt, tt, tt),
        (refl, record { values = All-cons (CarriesAll 1) a (e ∷ k ∷ []) refl (All-cons (CarriesAll 1) e (k ∷ []) refl (All-cons (CarriesAll 1) k ([]) refl (All-nil (CarriesAll 1)))); short = All-cons (IsShort (a ∷ e ∷ k ∷ [])) (record { type = 9; result_id = 8; parents = 4 ∷ [] }) [] (omega arith) (All-nil (IsShort (a ∷ e ∷ k ∷ []))) }, record { values = All-cons (CarriesAll 0) g ([]) refl (All-nil (CarriesAll 0)); short = All-nil (IsShort (g ∷ [])) }, record { values = All-nil (CarriesAll 0); short = All-nil (IsShort ([])) }, tt, tt, refl),
      );
      placed = (tt, (tt, tt, tt, tt), (refl, tt, tt, tt));
    }

pub samples-sound : IsSound (of_body chosen) × IsSound (of_body looping) × IsSound (of_body placed)
samples-sound = (chosen-sound, looping-sound, placed-sound)

-- ---- what is not sound

pub twice-unsound : IsSound (of_body twice) → ⊥
unfolding IsDistinct
twice-unsound h = false≢true (sym h.labels.1.0.0)

pub valueless-unsound : IsSound (of_body valueless) → ⊥
valueless-unsound h =
    let none : 0 ≡ 1 = h.formed.2.values 1 (bare 12 7) (omega arith) in
    omega (arith, none)

pub stray-unsound : IsSound (of_body stray) → ⊥
unfolding row_of
stray-unsound h = false≢true h.formed.0

pub falling-unsound : IsSound (of_body falling) → ⊥
falling-unsound h = false≢true h.formed.3.0

pub leaving-unsound : IsSound (of_body (leave 7)) → ⊥
leaving-unsound h =
    let found : Contains [] 7 = h.arrive 0 (bare 4 7) (omega arith) in
    omega (arith, found.1)

pub late-unsound : IsSound (of_body late) → ⊥
late-unsound h = false≢true (ap is_some h.placed.2.0)

abbrev label_of : Option Front → ℕ
label_of None = 0
label_of (Some front) = front.label

pub foreign-unsound : IsSound (of_body foreign) → ⊥
foreign-unsound h =
    let labels : 7 ≡ 10 = ap label_of h.placed.2.0 in
    omega (arith, labels)
