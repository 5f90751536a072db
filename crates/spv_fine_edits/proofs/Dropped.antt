-- Steps that are dropped: what is not gone gives itself.
use Rattle.std.proofs.Common.{◌≡◌, inl, inr, ℕ, Bool, true, false, ◌&&◌, not, List, [], ◌∷◌, refl, sym, subst, ◌∙◌}
use Rattle.std.proofs.lemmas.Bool.{false≢true}
use Rattle.std.specs.List.{AllByRecursion, flat_map}
use Rattle.spv_blocks.specs.Blocks.{has}
use Rattle.spv_bodies.specs.Bodies.{Function}
use Rattle.spv_tree.specs.Sound.{IsSound}
use Rattle.spv_editing.specs.Editing.{Edit, edited_function}
use Rattle.spv_editing.specs.Showing.{Shown, AStep, AUse, shown}
use Rattle.spv_fine.specs.Fine.{Ids, IsFine, With, defined_in, results, used_in}
use Rattle.spv_fine.specs.Laws.{Told}
use Rattle.spv_fine_edits.specs.Giving.{Fits, Follow, FrontFits, Given, Giving, StepFits, behind, fronts_of, there}
use Rattle.spv_fine_edits.specs.Laws.{Availability, DroppedByTests, DropsIn, FineWhereDropped, StaysOrGoes, nothing}
use Rattle.spv_fine_edits.proofs.Lists.{all_that_are, each_by, each_has, has_left}
use Rattle.spv_fine_edits.proofs.Bools.{both_told, each_told}
use Rattle.spv_fine_edits.proofs.Edited.{fine_where_given}
use Rattle.spv_fine_edits.proofs.Nothing.{all_are, nothing_offered}

module _ (e : Edit) (gone : ℕ → Bool) (Known KnownBehind : Ids) (P Q : (label id : ℕ) → Type 0) where
  -- what is not gone stays
  abbrev dropping : Giving
  dropping = record {
    edit = e;
    Known = Known;
    Promised = P;
    KnownBehind = KnownBehind;
    PromisedBehind = Q;
    Gives = λ x y. (y ≡ x) × (gone x ≡ false);
    wants = nothing;
  }

  given_uses : (words : List ℕ) → AllByRecursion (λ id. gone id ≡ false) (used_in words)
      → AllByRecursion (Given dropping (there nothing words)) (used_in words)
  given_uses words stay = all_that_are (Given dropping (there nothing words)) (used_in words)
      (λ x h. inr (x, has_left (used_in words) (flat_map nothing (defined_in words)) x h, (refl, each_has (λ id. gone id ≡ false) (used_in words) x stay h)))

  step_stays : (words : List ℕ) → e.steps words ≡ words ∷ [] → AllByRecursion (λ id. gone id ≡ false) (used_in words) → StepFits dropping words
  step_stays words is stay = record {
    uses = subst (Follow (Given dropping (there nothing words))) (sym is) (given_uses words stay, tt);
    defines = λ x y d g. subst (λ lines. behind (Given dropping (there nothing words)) lines y) (sym is)
        (inr (subst (λ z. has (defined_in words) z ≡ true) (sym g.0) d));
  }

  step_goes : (words : List ℕ) → e.steps words ≡ [] → AllByRecursion (λ id. gone id ≡ true) (defined_in words) → StepFits dropping words
  step_goes words is goes = record {
    uses = subst (Follow (Given dropping (there nothing words))) (sym is) tt;
    defines = λ x y d g. absurd (false≢true (sym g.1 ∙ each_has (λ id. gone id ≡ true) (defined_in words) x goes d));
  }

  fits_dropping : (s : Shown) → StaysOrGoes gone e s → Fits dropping s
  fits_dropping (AStep words) (inl h) = step_stays words h.0 h.1
  fits_dropping (AStep words) (inr h) = step_goes words h.0 h.1
  fits_dropping (AUse id) h = inr (h.0, h.1)

  -- behind the edit what is promised is promised before and not gone, and only that is
  pub fine_where_dropped : (f : Function) → ((label x : ℕ) → P label x → gone x ≡ false → Q label x) → ((label x : ℕ) → Q label x → P label x × (gone x ≡ false))
      → IsSound f → DropsIn gone e Known KnownBehind f → IsFine Known P f → IsFine KnownBehind Q (edited_function e f)
  fine_where_dropped f more less sound drops h = fine_where_given dropping f sound (record {
    begins = drops.begins;
    giving = record {
      known = λ x y k g. subst KnownBehind (sym g.0) (drops.known x k g.1);
      given = λ label x y p g. inr (subst (Q label) (sym g.0) (more label x p g.1));
      promised = λ label y q. (let r = less label y q in inr (y, r.0, (refl, r.1)));
    };
    parameters = λ x y d g. inr (subst (λ z. has (flat_map defined_in f.parameters) z ≡ true) (sym g.0) d);
    fronts = all_are (FrontFits dropping) (λ front x y d g. inr (subst (λ z. has (results front) z ≡ true) (sym g.0) d)) (fronts_of f.body);
    body = each_by (StaysOrGoes gone e) (Fits dropping) fits_dropping (shown f.body) drops.body;
    offers = nothing_offered P f.body (With Known (flat_map defined_in f.parameters));
  }) h

pub dropped : (a : Availability) → FineWhereDropped a
dropped a e gone f sound drops h =
    fine_where_dropped e gone a.Known a.KnownBehind a.Promised (λ label id. a.Promised label id × (gone id ≡ false)) f (λ label x p q. (p, q)) (λ label x q. q)
    sound drops h

-- ---- by tests

pub dropped_by_tests : DroppedByTests
dropped_by_tests known known_behind promised e gone f sound drops h =
    fine_where_dropped e gone (Told known) (Told known_behind) (λ label. Told (promised label)) (λ label. Told (λ id. promised label id && not (gone id))) f
    (λ label x p q. both_told (promised label x) (gone x) p q) (λ label x q. each_told (promised label x) (gone x) q) sound drops h
