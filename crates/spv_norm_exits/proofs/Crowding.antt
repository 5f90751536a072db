-- Functions that are no fuller than others break rule 607 nowhere where these break it nowhere.
use Rattle.std.proofs.Common.{◌≡◌, ℕ, suc, zero, ◌+◌, ◌≤◌, Bool, true, false, not, nat_lt, List, [], ◌∷◌, ◌++◌, length, slice_get, Some, refl, sym, ap, ap₂, subst, ◌∙◌, arith}
use Rattle.std.proofs.lemmas.Bool.Decides.{nat_tests}
use Rattle.spv_module.specs.First.{here, unless}
use Rattle.spv_blocks.specs.Blocks.{Block, Code}
use Rattle.spv_spelling.proofs.Settled.{none_left, none_right}
use Rattle.spv_walking.proofs.Looked.{slice_label}
use Rattle.spv_exits.specs.Exits.{AreNestedReturns, AreNestedTogether, branching, crowded, crowded_among, crowded_at, crowded_in_all, exits_fit}
use Rattle.spv_norm_exits.proofs.Labels.{place_there}
use Rattle.spv_norm_exits.proofs.SameCounts.{IsNoFuller}

-- ---- one function

-- nothing is found at a block whose exits fit
fits_there : (b : Bool) (at : ℕ) → here at (unless b 607) ≡ [] → b ≡ true
fits_there true at h = refl
fits_there false at h = absurd (cc h)

none_among : (f : Code) (n : ℕ) (bs : List Block) → crowded_among f n bs ≡ [] → (k : ℕ) (b : Block) → slice_get bs k ≡ Some b → exits_fit f n b.label ≡ true
none_among f n [] h k b e = absurd (cc e)
none_among f n (x ∷ bs) h zero b e =
    let same : x ≡ b = cc e in
    ap (λ z. exits_fit f n z.label) (sym same) ∙ fits_there (exits_fit f n x.label) x.at (none_left (crowded_at f n x) (crowded_among f n bs) h)
none_among f n (x ∷ bs) h (suc k) b e = none_among f n bs (none_right (crowded_at f n x) (crowded_among f n bs) h) k b e

among_none : (f : Code) (n : ℕ) (bs : List Block) → ((k : ℕ) (b : Block) → slice_get bs k ≡ Some b → exits_fit f n b.label ≡ true) → crowded_among f n bs ≡ []
among_none f n [] h = refl
among_none f n (x ∷ bs) h =
    ap (λ t. here x.at (unless t 607) ++ crowded_among f n bs) (h 0 x refl) ∙ among_none f n bs (λ k b e. h (suc k) b e)

fewer_fit : (a b : ℕ) → b ≤ a → not (nat_lt 16383 a) ≡ true → not (nat_lt 16383 b) ≡ true
fewer_fit a b less h = grind (arith, nat_tests)

pub none_crowded : (old new : Code) (n : ℕ) → IsNoFuller old new → crowded old n ≡ [] → crowded new n ≡ []
none_crowded old new n r h =
    among_none new n new (λ k b e.
    let label = slice_label new k b e in
    let at = place_there old b.label (r.label b.label label) in
    let fits = subst (λ l. exits_fit old n l ≡ true) at.3 (none_among old n old h at.0 at.1 at.2) in
    let less = r.branches b.label label in
    fewer_fit (branching old b.label + n) (branching new b.label + n) (omega (arith, less)) fits)

-- ---- functions in pairs

abbrev pub AreNoFuller : (olds news : List Code) → Type 0
AreNoFuller [] [] = Unit {0}
AreNoFuller [] (g ∷ gs) = ⊥
AreNoFuller (f ∷ fs) [] = ⊥
AreNoFuller (f ∷ fs) (g ∷ gs) = IsNoFuller f g × AreNoFuller fs gs

pub in_pairs : (fs gs : List Code) → length fs ≡ length gs
    → ((k : ℕ) (f g : Code) → slice_get fs k ≡ Some f → slice_get gs k ≡ Some g → IsNoFuller f g) → AreNoFuller fs gs
in_pairs [] [] e h = tt
in_pairs [] (g ∷ gs) e h = absurd (cc e)
in_pairs (f ∷ fs) [] e h = absurd (cc e)
in_pairs (f ∷ fs) (g ∷ gs) e h = (h 0 f g refl refl, in_pairs fs gs (cc e) (λ k x y i j. h (suc k) x y i j))

pub nested_together : (fs gs : List Code) (n : ℕ) → AreNoFuller fs gs → AreNestedTogether gs n → AreNestedTogether fs n
nested_together [] [] n r h = h
nested_together [] (g ∷ gs) n r h = absurd r
nested_together (f ∷ fs) [] n r h = absurd r
nested_together (f ∷ fs) (g ∷ gs) n r h = (h.0, h.1, r.0.nested h.0 h.2, nested_together fs gs h.1 r.1 h.3, h.4)

pub some_together : (fs : List Code) → ((k : ℕ) (f : Code) → slice_get fs k ≡ Some f → (n : ℕ) × AreNestedReturns f n) → (n : ℕ) × AreNestedTogether fs n
some_together [] h = (0, refl)
some_together (f ∷ fs) h =
    let here = h 0 f refl in
    let more = some_together fs (λ k g e. h (suc k) g e) in
    (here.0 + more.0, (here.0, more.0, here.1, more.1, refl))

pub none_crowded_in_all : (fs gs : List Code) (n : ℕ) → AreNoFuller fs gs → crowded_in_all fs n ≡ [] → crowded_in_all gs n ≡ []
none_crowded_in_all [] [] n r h = refl
none_crowded_in_all [] (g ∷ gs) n r h = absurd r
none_crowded_in_all (f ∷ fs) [] n r h = absurd r
none_crowded_in_all (f ∷ fs) (g ∷ gs) n r h =
    ap₂ (λ x y. x ++ y) (none_crowded f g n r.0 (none_left (crowded f n) (crowded_in_all fs n) h))
    (none_crowded_in_all fs gs n r.1 (none_right (crowded f n) (crowded_in_all fs n) h))
