-- Uses that are replaced and steps that are dropped: an id gives itself and what is put for it, but for what is gone.
use Rattle.std.proofs.Common.{◌≡◌, ◌⊎◌, inl, inr, ℕ, true, false, ◌&&◌, ◌||◌, not, List, [], refl, sym, ap, subst, ◌∙◌}
use Rattle.std.proofs.lemmas.Bool.{false≢true}
use Rattle.std.specs.List.{AllByRecursion, flat_map}
use Rattle.spv_blocks.specs.Blocks.{has}
use Rattle.spv_bodies.specs.Bodies.{Front, Function}
use Rattle.spv_tree.specs.Sound.{IsSound}
use Rattle.spv_editing.specs.Editing.{edited_function}
use Rattle.spv_editing.specs.Showing.{Shown, AStep, AUse, shown}
use Rattle.spv_fine.specs.Fine.{Ids, IsFine, With, defined_in, results, used_in}
use Rattle.spv_fine.specs.Laws.{Told}
use Rattle.spv_fine_edits.specs.Giving.{Fits, Follow, FrontFits, Given, Giving, Offers, StepFits, behind, fronts_of, there}
use Rattle.spv_fine_edits.specs.Laws.{Availability, BecomesLine, ComesFrom, FineWhereReplaced, FineWhereUsed, IsDropped, Put, PutForOne, Puts, PutsIn, ReplacedByTests, Replacing, replacing_only}
use Rattle.spv_fine_edits.proofs.Lists.{each_by, each_has, one_or}
use Rattle.spv_fine_edits.proofs.Bools.{both_told, each_told}
use Rattle.spv_fine_edits.proofs.Edited.{fine_where_given}
use Rattle.spv_fine_edits.proofs.Nothing.{nothing_offered}

module _ (r : Replacing) (Known KnownBehind : Ids) (P Q : (label id : ℕ) → Type 0) where
  abbrev Gives : (x y : ℕ) → Type 0
  Gives x y = ((y ≡ x) ⊎ (y ≡ r.edit.uses x)) × (r.gone y ≡ false)

  abbrev putting : Giving
  putting = record {
    edit = r.edit;
    Known = Known;
    Promised = P;
    KnownBehind = KnownBehind;
    PromisedBehind = Q;
    Gives = Gives;
    wants = r.wants;
  }

  -- what is known, and what is put for some ids, is given by them
  given_here : (ids : List ℕ) (y : ℕ) → KnownBehind y ⊎ PutForOne r ids y → Given putting ids y
  given_here ids y (inl k) = inl k
  given_here ids y (inr p) = inr (p.1.0, p.1.1, (p.1.2, p.0))

  -- where an id was defined, so is it still, or is gone
  result_given : (defined ids : List ℕ) (x y : ℕ) → (r.gone x ≡ false → has defined x ≡ true) → ComesFrom r KnownBehind ids x → Gives x y
      → With (Given putting ids) defined y
  result_given defined ids x y d c g = at c g.0 where
    stays : y ≡ x → With (Given putting ids) defined y
    stays same = inr (subst (λ z. has defined z ≡ true) (sym same) (d (subst (λ z. r.gone z ≡ false) same g.1)))

    at : ComesFrom r KnownBehind ids x → (y ≡ x) ⊎ (y ≡ r.edit.uses x) → With (Given putting ids) defined y
    at c (inl same) = stays same
    at (inl itself) (inr put) = stays (put ∙ itself)
    at (inr k) (inr put) = inl (subst (Given putting ids) (sym put) (given_here ids (r.edit.uses x) k))

  -- ---- steps

  becomes_line : (words : List ℕ) → BecomesLine r KnownBehind words → AllByRecursion (ComesFrom r KnownBehind (there r.wants words)) (defined_in words)
      → StepFits putting words
  becomes_line words b result = record {
    uses = subst (Follow (Given putting (there r.wants words))) (sym b.is) (
      each_by (λ y. KnownBehind y ⊎ PutForOne r (there r.wants words) y) (Given putting (there r.wants words)) (given_here (there r.wants words))
          (used_in b.line) b.uses,
      tt,
    );
    defines = λ x y d g. subst (λ lines. behind (Given putting (there r.wants words)) lines y) (sym b.is)
        (result_given (defined_in b.line) (there r.wants words) x y (λ stays. subst (λ defined. has defined x ≡ true) (sym b.defines) d)
        (each_has (ComesFrom r KnownBehind (there r.wants words)) (defined_in words) x result d) g);
  }

  nothing_defined : (A : Ids) (y : ℕ) → With A [] y → A y
  nothing_defined A y (inl h) = h
  nothing_defined A y (inr h) = absurd (false≢true h)

  is_dropped : (words : List ℕ) → IsDropped r KnownBehind words → AllByRecursion (ComesFrom r KnownBehind (there r.wants words)) (defined_in words)
      → StepFits putting words
  is_dropped words b result = record {
    uses = subst (Follow (Given putting (there r.wants words))) (sym b.is) tt;
    defines = λ x y d g. subst (λ lines. behind (Given putting (there r.wants words)) lines y) (sym b.is)
        (nothing_defined (Given putting (there r.wants words)) y (result_given [] (there r.wants words) x y
        (λ stays. absurd (false≢true (sym stays ∙ each_has (λ z. r.gone z ≡ true) (defined_in words) x b.gone d)))
        (each_has (ComesFrom r KnownBehind (there r.wants words)) (defined_in words) x result d) g));
  }

  fits_putting : (s : Shown) → Puts r KnownBehind s → Fits putting s
  fits_putting (AStep words) h = elim h.0 [ inl b ↦ becomes_line words b h.1 | inr b ↦ is_dropped words b h.1 ]
  fits_putting (AUse id) (inl k) = inl k
  fits_putting (AUse id) (inr stays) = inr (inr refl, stays)

  -- ---- parameters

  front_put : (front : Front) → AllByRecursion (ComesFrom r KnownBehind (flat_map r.wants (results front))) (results front) → FrontFits putting front
  front_put front h x y d g = result_given (results front) (flat_map r.wants (results front)) x y (λ stays. d)
      (each_has (ComesFrom r KnownBehind (flat_map r.wants (results front))) (results front) x h d) g

  parameter_put : (ids : List ℕ) (x y : ℕ) → AllByRecursion (ComesFrom r KnownBehind []) ids → has ids x ≡ true → Gives x y → With KnownBehind ids y
  parameter_put ids x y h d g = known_given (result_given ids [] x y (λ stays. d) (each_has (ComesFrom r KnownBehind []) ids x h d) g) where
    known_given : With (Given putting []) ids y → With KnownBehind ids y
    known_given (inl (inl k)) = inl k
    known_given (inl (inr p)) = absurd (false≢true p.1)
    known_given (inr a) = inr a

  -- ---- functions

  -- behind the edit is promised what is given by what was promised, where it is not known; and nothing else
  pub fine_where_put : (f : Function) → ((label x y : ℕ) → P label x → Gives x y → KnownBehind y ⊎ Q label y) → ((label y : ℕ) → Q label y → Put r (P label) y)
      → IsSound f → PutsIn r KnownBehind Known f → Offers P r.wants (With Known (flat_map defined_in f.parameters)) f.body → IsFine Known P f
      → IsFine KnownBehind Q (edited_function r.edit f)
  fine_where_put f more less sound put offers h = fine_where_given putting f sound (record {
    begins = put.begins;
    giving = record {
      known = λ x y k g. put.known y (g.1, (x, k, g.0));
      given = more;
      promised = λ label y q. (let p = less label y q in inr (p.1.0, p.1.1, (p.1.2, p.0)));
    };
    parameters = λ x y d g. parameter_put (flat_map defined_in f.parameters) x y put.parameters d g;
    fronts = each_by (λ front. AllByRecursion (ComesFrom r KnownBehind (flat_map r.wants (results front))) (results front)) (FrontFits putting) front_put (fronts_of f.body)
        put.fronts;
    body = each_by (Puts r KnownBehind) (Fits putting) fits_putting (shown f.body) put.body;
    offers = offers;
  }) h

pub replaced : (a : Availability) → FineWhereReplaced a
replaced a r f sound put offers h = fine_where_put r a.Known a.KnownBehind a.Promised (λ label. Put r (a.Promised label)) f
    (λ label x y p g. inr (g.1, (x, p, g.0))) (λ label y q. q) sound put offers h

pub used : (a : Availability) → FineWhereUsed a
used a e f sound put h = replaced a (replacing_only e) f sound put (nothing_offered a.Promised f.body (With a.Known (flat_map defined_in f.parameters))) h

-- ---- by tests

pub replaced_by_tests : ReplacedByTests
replaced_by_tests known known_behind promised r f sound put offers closed h =
    fine_where_put r (Told known) (Told known_behind) (λ label. Told (promised label)) (λ label. Told (λ id. promised label id && not (r.gone id))) f more less
    sound put offers h where
      or_told : (y label : ℕ) → r.gone y ≡ false → (known_behind y ≡ true) ⊎ (promised label y ≡ true)
          → (known_behind y ≡ true) ⊎ ((promised label y && not (r.gone y)) ≡ true)
      or_told y label stays (inl k) = inl k
      or_told y label stays (inr p) = inr (both_told (promised label y) (r.gone y) p stays)

      put_told : (label x y : ℕ) → promised label x ≡ true → (y ≡ x) ⊎ (y ≡ r.edit.uses x) → (known_behind y ≡ true) ⊎ (promised label y ≡ true)
      put_told label x y p (inl same) = inr (ap (promised label) same ∙ p)
      put_told label x y p (inr put) = one_or (known_behind y) (promised label y) ((λ i. known_behind (put i) || promised label (put i)) ∙ closed label x p)

      more : (label x y : ℕ) → promised label x ≡ true → ((y ≡ x) ⊎ (y ≡ r.edit.uses x)) × (r.gone y ≡ false)
          → (known_behind y ≡ true) ⊎ ((promised label y && not (r.gone y)) ≡ true)
      more label x y p g = or_told y label g.1 (put_told label x y p g.0)

      less : (label y : ℕ) → (promised label y && not (r.gone y)) ≡ true → Put r (Told (promised label)) y
      less label y q = (let t = each_told (promised label y) (r.gone y) q in (t.1, (y, t.0, inl refl)))
