-- Small functions that break no rule, and some that do.
use Rattle.std.proofs.Common.{◌≡◌, ℕ, ◌+◌, List, [], ◌∷◌, length, refl, sym, ap, ◌∙◌, arith}
use Rattle.std.specs.Prelude.{All, AllPairs}
use Rattle.std.specs.List.{AllByRecursion, Contains, IsDistinct}
use Rattle.std.proofs.lemmas.Bool.{false≢true}
use Rattle.std.proofs.lemmas.List.Elements.{All-nil, All-cons}
use Rattle.std.proofs.lemmas.List.Kept.{AllPairs-cons}
use Rattle.spv_meaning.specs.Statements.{statements_in}
use Rattle.spv_bodies.specs.Bodies.{Body}
use Rattle.spv_bodies.specs.Listing.{Branching, arriving, listed}
use Rattle.spv_bodies.specs.Facts.{of_body, placed, plain}
use Rattle.spv_tree.specs.Tree.{words_of}
use Rattle.spv_tree.specs.Fronts.{CarriesAll, IsShort, IsFilled}
use Rattle.spv_tree.specs.Sound.{AreAlike, IsSound}
use Rattle.spv_tree.proofs.Samples.{samples-sound}
use Rattle.spv_structured.specs.Structured.{NamesArms}
use Rattle.spv_structured.specs.Laws.{Opens}
use Rattle.spv_structured.specs.Facts.{Structured, back_twice, body_goes_back, laid, one_target, pointers}
use Rattle.spv_structured.proofs.Samples.{samples, others, placed_breaks_nothing}
use Rattle.spv_structured.proofs.Unbroken.{structured_is_unbroken}
use Rattle.spv_unbroken.specs.Facts.{BreaksNothing, OthersBreakRules, PlacedIsUnbroken, UnnamedArmIsNotSeen, arm_unseen, arm_left_out}
use Rattle.spv_unbroken.proofs.Structured.{unbroken_is_structured}

placed_opens : Opens (of_body placed)
placed_opens = record { function = refl; parameters = tt }

pub placed_is_unbroken : PlacedIsUnbroken
unfolding statements_in
placed_is_unbroken = record {
  sound = samples-sound.2;
  opens = placed_opens;
  arms = samples.2.arms;
  function = refl;
  parameters = tt;
  words = refl;
  none = placed_breaks_nothing;
}

-- ---- sound functions, whose branches carry no values

pub each_all : {X : Type 0} (P : X → Type 0) (xs : List X) → AllByRecursion P xs → All P xs
each_all P [] h = All-nil P
each_all P (x ∷ xs) h = All-cons P x xs h.0 (each_all P xs h.1)

unfoldable pub Arrives : List ℕ → Branching → Type 0
Arrives labels branching = Contains labels branching.1.target

unfoldable pub Bare : Branching → Type 0
Bare b = b.1.values ≡ []

pub all_alike : (bs : List Branching) → AllByRecursion Bare bs → AllPairs AreAlike bs
unfolding Bare
all_alike [] h = λ i j d x y. absurd (omega (arith, y))
all_alike (b ∷ bs) h = AllPairs-cons AreAlike b bs (to_each bs h.1) (all_alike bs h.1)
  where
    to_each : (cs : List Branching) → AllByRecursion Bare cs → All (AreAlike b) cs
    to_each [] k = All-nil (AreAlike b)
    to_each (c ∷ cs) k = All-cons (AreAlike b) c cs (λ from to. h.0 ∙ sym k.0) (to_each cs k.1)

pub filled : (all : List Branching) (label : ℕ) → AllByRecursion (CarriesAll 0) (arriving label all) → IsFilled all (plain label)
filled all label h = record { values = each_all (CarriesAll 0) (arriving label all) h; short = All-nil (IsShort (arriving label all)) }

abbrev pub to : (block target : ℕ) → Branching
to block target = (block, record { target = target; values = [] })

pub opens : (body : Body) → Opens (of_body body)
opens body = record { function = refl; parameters = tt }

one_target_sound : IsSound (of_body one_target)
unfolding IsDistinct Arrives Bare
one_target_sound =
    let all : List Branching = to 4 7 ∷ to 4 7 ∷ [] in
    record {
      labels = ((refl, tt), (tt, tt));
      arrive = each_all (Arrives (7 ∷ [])) all ((0, omega arith, refl), ((0, omega arith, refl), tt));
      alike = all_alike all (refl, (refl, tt));
      formed = (refl, refl, filled all 7 (refl, (refl, tt)), tt, tt, refl);
      placed = (tt, tt, tt);
    }

body_goes_back_sound : IsSound (of_body body_goes_back)
unfolding IsDistinct Arrives Bare
body_goes_back_sound =
    let all : List Branching = to 4 5 ∷ to 5 5 ∷ to 7 5 ∷ [] in
    record {
      labels = ((refl, (refl, (refl, tt))), ((refl, (refl, tt)), ((refl, tt), (tt, tt))));
      arrive = each_all (Arrives (5 ∷ 7 ∷ 6 ∷ [])) all ((0, omega arith, refl), ((0, omega arith, refl), ((0, omega arith, refl), tt)));
      alike = all_alike all (refl, (refl, (refl, tt)));
      formed = (refl, filled all 5 (refl, (refl, (refl, tt))), filled all 7 tt, filled all 6 tt, tt, tt, refl);
      placed = (tt, tt, tt, tt);
    }

back_twice_sound : IsSound (of_body back_twice)
unfolding IsDistinct Arrives Bare
back_twice_sound =
    let all : List Branching = to 4 5 ∷ to 5 7 ∷ to 7 5 ∷ to 9 5 ∷ [] in
    record {
      labels = ((refl, (refl, (refl, (refl, tt)))), ((refl, (refl, (refl, tt))), ((refl, (refl, tt)), ((refl, tt), (tt, tt)))));
      arrive = each_all (Arrives (5 ∷ 7 ∷ 6 ∷ [])) all
          ((0, omega arith, refl), ((1, omega arith, refl), ((0, omega arith, refl), ((0, omega arith, refl), tt))));
      alike = all_alike all (refl, (refl, (refl, (refl, tt))));
      formed = (refl, filled all 5 (refl, (refl, (refl, tt))), filled all 7 (refl, tt), filled all 6 tt, tt, (refl, tt), refl);
      placed = (tt, tt, tt, tt);
    }

-- ---- those that are not structured break a rule

pub laid_words : (at : ℕ) (ls : List (List ℕ)) → words_of (laid at ls) ≡ ls
laid_words at [] = refl
laid_words at (l ∷ ls) = ap (λ ms. l ∷ ms) (laid_words (at + length l) ls)

breaks : (body : Body) → IsSound (of_body body) → NamesArms body → (Structured body → ⊥) → BreaksNothing body → ⊥
breaks body sound arms unstructured none =
    unstructured (unbroken_is_structured (of_body body) (laid 100 (listed (of_body body))) pointers sound (opens body) arms
    (laid_words 100 (listed (of_body body))) none)

pub others_break_rules : OthersBreakRules
others_break_rules = (
  breaks one_target one_target_sound (tt, tt, tt) others.0,
  breaks body_goes_back body_goes_back_sound (tt, tt, tt) others.2,
  breaks back_twice back_twice_sound (tt, tt, tt) others.3,
)

-- ---- an arm that is not seen

pub arm_unseen_sound : IsSound (of_body arm_unseen)
unfolding IsDistinct Arrives Bare
arm_unseen_sound =
    let all : List Branching = to 4 7 ∷ to 4 8 ∷ to 7 8 ∷ [] in
    record {
      labels = ((refl, (refl, tt)), ((refl, tt), (tt, tt)));
      arrive = each_all (Arrives (7 ∷ 8 ∷ [])) all ((0, omega arith, refl), ((1, omega arith, refl), ((1, omega arith, refl), tt)));
      alike = all_alike all (refl, (refl, (refl, tt)));
      formed = (
        record { count = omega arith; named = All-nil (λ case. Contains (7 ∷ 8 ∷ []) case.1); distinct = ((refl, tt), (tt, tt)) },
        filled all 7 (refl, tt),
        (refl, tt, (refl, tt)),
        (
          record { count = omega arith; named = All-nil (λ case. Contains (8 ∷ []) case.1); distinct = (tt, tt) },
          filled all 8 (refl, (refl, tt)),
          (refl, tt),
          refl,
        ),
      );
      placed = ((tt, tt), (tt, tt));
    }

arm_left_out_sound : IsSound (of_body arm_left_out)
unfolding IsDistinct Arrives Bare
arm_left_out_sound =
    let all : List Branching = to 4 7 ∷ to 7 8 ∷ [] in
    record {
      labels = ((refl, (refl, tt)), ((refl, tt), (tt, tt)));
      arrive = each_all (Arrives (7 ∷ 8 ∷ [])) all ((0, omega arith, refl), ((1, omega arith, refl), tt));
      alike = all_alike all (refl, (refl, tt));
      formed = (
        record { count = omega arith; named = All-nil (λ case. Contains (7 ∷ []) case.1); distinct = (tt, tt) },
        filled all 7 (refl, tt),
        (refl, tt),
        (record { count = omega arith; named = All-nil (λ case. Contains (8 ∷ []) case.1); distinct = (tt, tt) }, filled all 8 (refl, tt), (refl, tt), refl),
      );
      placed = (tt, (tt, tt));
    }

arm_left_out_is : Structured arm_left_out
arm_left_out_is = record { flows = (refl, refl, (refl, refl, refl)); parameters = (tt, tt, (tt, tt, tt)); arms = (refl, tt, (refl, tt, tt)) }

pub unnamed_arm_is_not_seen : UnnamedArmIsNotSeen
unnamed_arm_is_not_seen = (
  arm_unseen_sound,
  opens arm_unseen,
  structured_is_unbroken (of_body arm_left_out) (laid 100 (listed (of_body arm_unseen))) pointers arm_left_out_sound (opens arm_left_out) arm_left_out_is
      (laid_words 100 (listed (of_body arm_unseen))),
  (λ h. false≢true h.arms.0),
)
