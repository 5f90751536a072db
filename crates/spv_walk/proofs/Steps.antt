-- A turn of the walk, step by step.
use Rattle.std.proofs.Common.{◌≡◌, ◌⊎◌, inl, inr, ℕ, true, not, ◌&&◌, Option, sym, subst}
use Rattle.spv_blocks.specs.Blocks.{Code, construct, is_it, stops}
use Rattle.spv_walk.specs.Contexts.{Context, is_fall, behind, next_context}
use Rattle.spv_walk.specs.Walk.{leads, Walk, Entered, Stopped, Merged, Continued}
use Rattle.spv_walk.specs.Walked.{WalkTurn, Steps, StepEntered, StepStopped, StepMerged, StepContinued, Visited, WalkMiddle, WalkAdds, AreEnterers, admits, walks_to, TargetSteps}
use Rattle.spv_walk.proofs.Unique.{both_left, both_right, both_hold, either_holds, left_holds, right_holds, is_it_equal, equal_is_it, merge_runs, next_runs, unnamed_runs, goes_unnamed, tries_leads, one_context}
use Rattle.spv_walk.proofs.Letter.{entered_tries}

pub step_walked : (f : Code) (b t : ℕ) (c d : Context) → Walk f b c → Steps f b c t d → Walk f t d
step_walked f b t c d w (StepEntered u x y) = Entered b t c w x y
step_walked f b t c d w (StepStopped u x y) = Stopped b t c w x y
step_walked f b t c d w (StepMerged m x y z) = Merged b t c w x y z
step_walked f b t c d w (StepContinued n x y z) = Continued b t c w x y z

module _ (f : Code) (In : ℕ → Context → Type 0) where
  pub visited_placed : (t : ℕ) (d : Context) → In t d → Visited f In t d
  visited_placed t d i = record { runs = λ s. i; some = (d, i) }

  -- a block that is walked and has a place is visited: it has one context
  pub visited_known : (t : ℕ) (d e : Context) → Walk f t d → In t e → Walk f t e → Visited f In t d
  visited_known t d e w i v = record { runs = λ s. subst (λ j. In t j) (one_context f t e d v w s) i; some = (e, i) }

pub visited_stays : (f : Code) (In In2 : ℕ → Context → Type 0) (t : ℕ) (d : Context) → ((p : ℕ) (c : Context) → In p c → In2 p c) → Visited f In t d → Visited f In2 t d
visited_stays f In In2 t d m v = record { runs = λ s. m t d (v.runs s); some = (v.some.0, m t v.some.0 v.some.1) }

module _ (f : Code) (In : ℕ → Context → Type 0) (Done : ℕ → Type 0) (b : ℕ) where
  pub walk_begins : (Done2 : ℕ → Type 0) → ((p : ℕ) (c : Context) → In p c → Walk f p c) → ((p : ℕ) → Done2 p → Done p ⊎ (p ≡ b)) → WalkMiddle f In In Done Done2 b
  walk_begins Done2 s d = record { grows = λ p c i. i; sound = s; settled = λ p c i e. (i, d p e) }

  pub walk_adds : (In2 In3 : ℕ → Context → Type 0) (Done2 Done3 : ℕ → Type 0) (t : ℕ) (d : Context) → WalkMiddle f In In2 Done Done2 b → Walk f t d
      → WalkAdds In2 In3 Done2 Done3 t d → WalkMiddle f In In3 Done Done3 b
  walk_adds In2 In3 Done2 Done3 t d m w a = record {
    grows = λ p c i. a.grows p c (m.grows p c i);
    sound = λ p c i.
        elim (a.more p c i) [
          | inl o ↦ m.sound p c o
          | inr o ↦ subst (λ j. Walk f j c) (sym o.0) (subst (λ j. Walk f t j) (sym o.1) w)
        ];
    settled = λ p c i e. m.settled p c (a.waits p c i e).0 (a.waits p c i e).1;
  }

  -- none of the blocks that are entered, merge blocks and continue targets stops, so each is in the table in its context
  pub walk_ends : (In2 : ℕ → Context → Type 0) (Done2 : ℕ → Type 0) → WalkMiddle f In In2 Done Done2 b
      → ((t : ℕ) (c d : Context) → In b c → Steps f b c t d → Visited f In2 t d) → WalkTurn f In In2 Done Done2 b
  walk_ends In2 Done2 m v = record {
    grows = m.grows;
    sound = m.sound;
    settled = m.settled;
    entered = λ t c i x y. (v t c (behind (construct f b) b t c) i (StepEntered t x y)).runs (unnamed_runs f t (goes_unnamed f b t y.free));
    stopped = λ t c i x y. (v t c (behind (construct f b) b t c) i (StepStopped t x y)).some;
    merged = λ t c i x y z. (v t c c i (StepMerged t x y z)).runs (merge_runs f b t y z);
    continued = λ t c i x y z. (v t c (next_context (construct f b) b c) i (StepContinued t x y z)).runs (next_runs f b t y z);
  }

-- ---- the targets that are walked to, by a table of enterers

module _ (f : Code) (enterer : ℕ → Option ℕ) (b : ℕ) (c : Context) (e : AreEnterers f enterer) (w : Walk f b c) where
  target_step : (t : ℕ) → walks_to f enterer b c t ≡ true → Steps f b c t (behind (construct f b) b t c)
  target_step t h =
      let l = both_left (leads f b c t) (admits f enterer b c t) h in
      elim (either_holds (stops f t && not (is_fall f c t)) (is_it b (enterer t)) (both_right (leads f b c t) (admits f enterer b c t) h)) [
        | inl s ↦
            StepStopped t (both_hold (leads f b c t) (not (is_fall f c t)) l (both_right (stops f t) (not (is_fall f c t)) s))
            (both_left (stops f t) (not (is_fall f c t)) s)
        | inr i ↦ let y = e.sound b t (is_it_equal b (enterer t) i) in StepEntered t (entered_tries f b t c w l y) y
      ]

  pub target_steps : TargetSteps f enterer b c
  target_steps = record {
    step = target_step;
    entered = λ t x y.
        both_hold (leads f b c t) (admits f enterer b c t) (tries_leads f b c t x)
        (right_holds (stops f t && not (is_fall f c t)) (is_it b (enterer t)) (equal_is_it b (enterer t) (e.whole b t y)));
    stopped = λ t x y.
        both_hold (leads f b c t) (admits f enterer b c t) (tries_leads f b c t x)
        (left_holds (stops f t && not (is_fall f c t)) (is_it b (enterer t))
        (both_hold (stops f t) (not (is_fall f c t)) y (both_right (leads f b c t) (not (is_fall f c t)) x)));
  }
