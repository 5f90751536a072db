-- Small functions with arms that no case names.
use Rattle.std.proofs.Common.{◌≡◌, ℕ, inl, inr, List, [], ◌∷◌, map, length, slice_index, refl, sym, ap, ◌∙◌, arith}
use Rattle.std.specs.List.{Contains, IsDistinct}
use Rattle.std.proofs.lemmas.Bool.{false≢true}
use Rattle.std.proofs.lemmas.List.Elements.{All-nil}
use Rattle.std.proofs.lemmas.List.Kept.{AllPairs-cons}
use Rattle.spv_meaning.specs.Statements.{statements_in}
use Rattle.spv_blocks.specs.Cutting.{blocks_of}
use Rattle.spv_bodies.specs.Bodies.{Parameter, Body}
use Rattle.spv_bodies.specs.Listing.{Branching, listed}
use Rattle.spv_bodies.specs.Facts.{of_body}
use Rattle.spv_tree.specs.Fronts.{CarriesAll, IsShort}
use Rattle.spv_tree.specs.Sound.{AreAlike, IsSound}
use Rattle.spv_trees.specs.Standing.{OneOf}
use Rattle.spv_structured.specs.Spots.{blocks_in}
use Rattle.spv_structured.specs.Facts.{Structured, arm_unnamed, laid, pointers}
use Rattle.spv_structured.proofs.Bare.{bare}
use Rattle.spv_structured.proofs.ListedBlocks.{listed_blocks}
use Rattle.spv_structured.proofs.Unbroken.{structured_is_unbroken}
use Rattle.spv_unbroken.specs.Facts.{BreaksNothing, UnseenArmIsLeftOut, UnnamedBlockBreaksRules, UnseenValueBreaksRules, UnnamedLoopIsEntered, arm_unseen, value_unseen, loop_unseen, loop_entered}
use Rattle.spv_unbroken.proofs.Pruning.{leaving, listed_alike}
use Rattle.spv_unbroken.proofs.Samples.{each_all, Arrives, Bare, all_alike, filled, to, opens, laid_words, arm_unseen_sound, unnamed_arm_is_not_seen}

pub unseen_arm_is_left_out : UnseenArmIsLeftOut
unfolding statements_in
unseen_arm_is_left_out = (
  refl,
  record {
    sound = arm_unseen_sound;
    opens = opens arm_unseen;
    loops = inl ((refl, tt), (tt, tt), (tt, tt, tt));
    function = refl;
    parameters = tt;
    words = laid_words 100 (listed (of_body arm_unseen));
    none = unnamed_arm_is_not_seen.2;
  },
)

-- ---- arms that break a rule

arm_unnamed_sound : IsSound (of_body arm_unnamed)
unfolding IsDistinct Arrives Bare
arm_unnamed_sound =
    let all : List Branching = to 4 7 ∷ to 6 7 ∷ [] in
    record {
      labels = ((refl, (refl, tt)), ((refl, tt), (tt, tt)));
      arrive = each_all (Arrives (7 ∷ [])) all ((0, omega arith, refl), ((0, omega arith, refl), tt));
      alike = all_alike all (refl, (refl, tt));
      formed = (
        record { count = omega arith; named = All-nil (λ case. Contains (7 ∷ 6 ∷ []) case.1); distinct = ((refl, tt), (tt, tt)) },
        filled all 7 (refl, (refl, tt)),
        (refl, tt, (refl, tt)),
        refl,
      );
      placed = ((tt, tt), tt);
    }

-- the blocks of a function as it is laid
same_blocks : (body : Body) → IsSound (of_body body) → bare (blocks_of (laid 100 (listed (of_body body)))) ≡ blocks_in (of_body body)
same_blocks body sound = listed_blocks (of_body body) (laid 100 (listed (of_body body))) sound (opens body) (laid_words 100 (listed (of_body body)))

pub unnamed_block_breaks_rules : UnnamedBlockBreaksRules
unnamed_block_breaks_rules = (
  arm_unnamed_sound,
  opens arm_unnamed,
  (λ none.
      let h = leaving pointers (of_body arm_unnamed) arm_unnamed_sound (inl ((refl, tt), (tt, tt), tt)) (blocks_of (laid 100 (listed (of_body arm_unnamed))))
      (same_blocks arm_unnamed arm_unnamed_sound) none in
      false≢true h.0.0),
)

abbrev carrying : (block target value : ℕ) → Branching
carrying block target value = (block, record { target = target; values = value ∷ [] })

value_unseen_sound : IsSound (of_body value_unseen)
unfolding IsDistinct Arrives Bare
value_unseen_sound =
    let all : List Branching = to 4 7 ∷ carrying 4 8 10 ∷ carrying 7 8 11 ∷ [] in
    let parameter : Parameter = record { type = 9; result_id = 12; parents = [] } in
    record {
      labels = ((refl, (refl, tt)), ((refl, tt), (tt, tt)));
      arrive = each_all (Arrives (7 ∷ 8 ∷ [])) all ((0, omega arith, refl), ((1, omega arith, refl), ((1, omega arith, refl), tt)));
      alike = AllPairs-cons AreAlike (to 4 7) (carrying 4 8 10 ∷ carrying 7 8 11 ∷ [])
          (each_all (AreAlike (to 4 7)) (carrying 4 8 10 ∷ carrying 7 8 11 ∷ []) ((λ from at. absurd (cc at)), ((λ from at. absurd (cc at)), tt)))
          (AllPairs-cons AreAlike (carrying 4 8 10) (carrying 7 8 11 ∷ [])
          (each_all (AreAlike (carrying 4 8 10)) (carrying 7 8 11 ∷ []) ((λ from at. absurd (cc from)), tt))
          (AllPairs-cons AreAlike (carrying 7 8 11) [] (All-nil (AreAlike (carrying 7 8 11))) (λ i j d x y. absurd (omega (arith, y)))));
      formed = (
        record { count = omega arith; named = All-nil (λ case. Contains (7 ∷ 8 ∷ []) case.1); distinct = ((refl, tt), (tt, tt)) },
        filled all 7 (refl, tt),
        (refl, tt, (refl, tt)),
        (
          record { count = omega arith; named = All-nil (λ case. Contains (8 ∷ []) case.1); distinct = (tt, tt) },
          record {
            values = each_all (CarriesAll 1) (carrying 4 8 10 ∷ carrying 7 8 11 ∷ []) (refl, (refl, tt));
            short = each_all (IsShort (carrying 4 8 10 ∷ carrying 7 8 11 ∷ [])) (parameter ∷ []) (omega arith, tt);
          },
          (refl, tt),
          refl,
        ),
      );
      placed = ((tt, tt), (tt, tt));
    }

pub unseen_value_breaks_rules : UnseenValueBreaksRules
unseen_value_breaks_rules = (
  value_unseen_sound,
  opens value_unseen,
  (λ none.
      let h = listed_alike pointers (of_body value_unseen) value_unseen_sound (inl ((refl, tt), (tt, tt), (tt, tt, tt)))
      (blocks_of (laid 100 (listed (of_body value_unseen)))) (same_blocks value_unseen value_unseen_sound) none in
      let phi : 5 ≡ 7 = ap (λ ls. slice_index (map (λ words. length words) ls) 8) h in
      absurd (omega (arith, phi))),
)

-- ---- a loop that is entered

loop_unseen_sound : IsSound (of_body loop_unseen)
unfolding IsDistinct Arrives Bare
loop_unseen_sound =
    let all : List Branching = to 4 7 ∷ to 6 20 ∷ to 4 20 ∷ to 20 22 ∷ to 22 20 ∷ to 21 7 ∷ [] in
    record {
      labels = (
        (refl, (refl, (refl, (refl, (refl, tt))))),
        (
          (refl, (refl, (refl, (refl, tt)))),
          (
            (refl, (refl, (refl, tt))),
            (
              (refl, (refl, tt)),
              ((refl, tt), (tt, tt)),
            ),
          ),
        ),
      );
      arrive = each_all (Arrives (7 ∷ 20 ∷ 22 ∷ 21 ∷ [])) all (
        (0, omega arith, refl),
        (
          (1, omega arith, refl),
          (
            (1, omega arith, refl),
            (
              (2, omega arith, refl),
              (
                (1, omega arith, refl),
                ((0, omega arith, refl), tt),
              ),
            ),
          ),
        ),
      );
      alike = all_alike all (refl, (refl, (refl, (refl, (refl, (refl, tt))))));
      formed = (
        record {
          count = omega arith;
          named = each_all (λ (case : ℕ × ℕ). Contains (7 ∷ 6 ∷ 20 ∷ []) case.1) ((1, 6) ∷ []) ((1, omega arith, refl), tt);
          distinct = ((refl, (refl, tt)), ((refl, tt), (tt, tt)));
        },
        filled all 7 (refl, (refl, tt)),
        (refl, tt, (refl, tt, (refl, (refl, filled all 20 (refl, (refl, (refl, tt))), filled all 22 (refl, tt), filled all 21 tt, tt, tt, tt)))),
        refl,
      );
      placed = ((tt, (tt, (tt, tt, tt, tt))), tt);
    }

loop_entered_sound : IsSound (of_body loop_entered)
unfolding IsDistinct Arrives Bare
loop_entered_sound =
    let all : List Branching = to 4 7 ∷ to 6 20 ∷ to 20 22 ∷ to 22 20 ∷ to 21 7 ∷ [] in
    record {
      labels = (
        (refl, (refl, (refl, (refl, (refl, tt))))),
        (
          (refl, (refl, (refl, (refl, tt)))),
          (
            (refl, (refl, (refl, tt))),
            (
              (refl, (refl, tt)),
              ((refl, tt), (tt, tt)),
            ),
          ),
        ),
      );
      arrive = each_all (Arrives (7 ∷ 20 ∷ 22 ∷ 21 ∷ [])) all
          ((0, omega arith, refl), ((1, omega arith, refl), ((2, omega arith, refl), ((1, omega arith, refl), ((0, omega arith, refl), tt)))));
      alike = all_alike all (refl, (refl, (refl, (refl, (refl, tt)))));
      formed = (
        record {
          count = omega arith;
          named = each_all (λ (case : ℕ × ℕ). Contains (7 ∷ 6 ∷ []) case.1) ((1, 6) ∷ []) ((1, omega arith, refl), tt);
          distinct = ((refl, tt), (tt, tt));
        },
        filled all 7 (refl, (refl, tt)),
        (refl, tt, (refl, (refl, filled all 20 (refl, (refl, tt)), filled all 22 (refl, tt), filled all 21 tt, tt, tt, tt))),
        refl,
      );
      placed = ((tt, (tt, tt, tt, tt)), tt);
    }

loop_entered_is : Structured loop_entered
loop_entered_is = record {
  flows = (refl, (refl, (refl, refl, refl, refl, refl)), refl);
  parameters = (tt, (tt, (tt, tt, tt, tt, tt, tt)), tt);
  arms = (refl, (tt, (tt, tt, tt)), tt);
}

same_lines : listed (of_body loop_unseen) ≡ listed (of_body loop_entered)
same_lines = refl

unseen_breaks_nothing : BreaksNothing loop_unseen
unseen_breaks_nothing =
    structured_is_unbroken (of_body loop_entered) (laid 100 (listed (of_body loop_unseen))) pointers loop_entered_sound (opens loop_entered) loop_entered_is
    (laid_words 100 (listed (of_body loop_unseen)) ∙ same_lines)

elsewhere : OneOf {X = ℕ} 20 (7 ∷ []) → ⊥
elsewhere (inl e) = omega (arith, e)
elsewhere (inr e) = e

pub unnamed_loop_is_entered : UnnamedLoopIsEntered
unnamed_loop_is_entered = (
  loop_unseen_sound,
  opens loop_unseen,
  unseen_breaks_nothing,
  loop_entered_is,
  same_lines,
  (λ h. false≢true (sym h.0.0)),
  (λ functions h. elsewhere h.0.1.0),
)
