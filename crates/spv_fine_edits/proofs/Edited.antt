-- What an edit puts is available where what it stands for was: by induction on the tree, along with what is available before the edit and behind it.
use Rattle.std.proofs.Common.{◌≡◌, ◌⊎◌, inl, inr, ℕ, Bool, true, false, cond, ◌==◌, List, [], ◌∷◌, ◌++◌, map, refl, sym, ap, ◌∙◌}
use Rattle.std.proofs.lemmas.List.{map-append}
use Rattle.std.specs.List.{AllByRecursion, flat_map}
use Rattle.spv_bodies.specs.Bodies.{Exit, Front, Entry, ByBranch, InPlace, Body, Leaves, Finishes, Step, Enters, Splits, Selects, Switches, Loops, Arms, Last, Also, Function}
use Rattle.spv_bodies.specs.Listing.{Branching, arriving, branches, branches_of_arms}
use Rattle.spv_tree.specs.Branches.{branches_in}
use Rattle.spv_tree.specs.Sound.{AreFormed, IsFormed}
use Rattle.spv_editing.specs.Editing.{Edit, edited, edited_arms, edited_branching, edited_entry, edited_exit, steps_before}
use Rattle.spv_editing.specs.Showing.{AUse, carried, operands, shown, shown_in_arms, uses}
use Rattle.spv_editing.proofs.Kept.{branches-kept}
use Rattle.spv_fine.specs.Fine.{ArmsFine, AtFront, Carries, Covers, Fine, Headed, Ids, IsFine, Keeps, Sends, With, at_end, defined_in, results, used_in}
use Rattle.spv_fine.proofs.Wider.{Among}
use Rattle.spv_fine_edits.specs.Giving.{ArmsOffer, Begins, Fits, Follow, FrontFits, Given, Giving, IsGiving, OfferedAt, Offers, StepFits, behind, fronts_in_arms, fronts_of, there}
use Rattle.spv_fine_edits.specs.Laws.{FineWhereGiven}
use Rattle.spv_fine_edits.proofs.Lists.{all_both, all_left, all_right, each_by, each_has}
use Rattle.spv_fine_edits.proofs.Ends.{end_used}

-- ---- lines in a row, by induction on them

with_more : (E F : Ids) (ids : List ℕ) → Among E F → Among (With E ids) (With F ids)
with_more E F ids more x (inl h) = inl (more x h)
with_more E F ids more x (inr h) = inr h

follow_more : (lines : List (List ℕ)) (E F : Ids) → Among E F → Follow E lines → Follow F lines
follow_more [] E F more h = tt
follow_more (line ∷ lines) E F more h = (
  each_by E F more (used_in line) h.0,
  follow_more lines (With E (defined_in line)) (With F (defined_in line)) (with_more E F (defined_in line) more) h.1,
)

behind_more : (lines : List (List ℕ)) (E F : Ids) → Among E F → Among (behind E lines) (behind F lines)
behind_more [] E F more = more
behind_more (line ∷ lines) E F more =
    behind_more lines (With E (defined_in line)) (With F (defined_in line)) (with_more E F (defined_in line) more)

stays_behind : (lines : List (List ℕ)) (E : Ids) → Among E (behind E lines)
stays_behind [] E x h = h
stays_behind (line ∷ lines) E x h = stays_behind lines (With E (defined_in line)) x (inl h)

-- ---- branches

-- where no branch arrives behind the edit, none does before it
none_arrives : (e : Edit) (label : ℕ) (sent : List Branching) → arriving label (map (edited_branching e) sent) ≡ [] → arriving label sent ≡ []
none_arrives e label [] h = refl
none_arrives e label (b ∷ bs) h = at (b.1.target == label) (arriving label (map (edited_branching e) bs)) (none_arrives e label bs) h where
  at : (t : Bool) (after : List Branching) → (after ≡ [] → arriving label bs ≡ []) → cond t (edited_branching e b ∷ after) after ≡ []
      → cond t (b ∷ arriving label bs) (arriving label bs) ≡ []
  at true after rest g = absurd (cc g)
  at false after rest g = rest g

module _ (w : Giving) (giving : IsGiving w) where
  -- behind the edit what is known everywhere is available, and what is given by what was available before it
  abbrev pub Stands : Ids → Ids → Type 0
  Stands E F = ((y : ℕ) → w.KnownBehind y → F y) × ((x y : ℕ) → E x → w.Gives x y → F y)

  given_among : (E F : Ids) (ids : List ℕ) → Stands E F → AllByRecursion E ids → Among (Given w ids) F
  given_among E F ids s h y (inl k) = s.0 y k
  given_among E F ids s h y (inr g) = s.1 g.0 y (each_has E ids g.0 h g.1) g.2

  -- ---- what is used

  use_stands : (E F : Ids) (x : ℕ) → Stands E F → Fits w (AUse x) → E x → F (w.edit.uses x)
  use_stands E F x s (inl k) h = s.0 (w.edit.uses x) k
  use_stands E F x s (inr g) h = s.1 x (w.edit.uses x) h g

  values_stand : (E F : Ids) (ids : List ℕ) → Stands E F → AllByRecursion (Fits w) (uses ids) → AllByRecursion E ids → AllByRecursion F (map w.edit.uses ids)
  values_stand E F [] s fits h = tt
  values_stand E F (x ∷ xs) s fits h = (use_stands E F x s fits.0 h.0, values_stand E F xs s fits.1 h.1)

  operands_stand : (E F : Ids) (ids : List ℕ) → Stands E F → AllByRecursion (Fits w) (uses ids) → AllByRecursion (λ x. E x → F (w.edit.uses x)) ids
  operands_stand E F [] s fits = tt
  operands_stand E F (x ∷ xs) s fits = (use_stands E F x s fits.0, operands_stand E F xs s fits.1)

  -- ---- branches

  keeps_edited : (E F : Ids) (label : ℕ) → Stands E F → Keeps w.Promised E label → Keeps w.PromisedBehind F label
  keeps_edited E F label s h y p = elim (giving.promised label y p) [ inl k ↦ s.0 y k | inr g ↦ s.1 g.0 y (h g.0 g.1) g.2 ]

  sends_edited : (E F : Ids) (exit : Exit) → Stands E F → AllByRecursion (Fits w) (uses exit.values) → Sends w.Promised E exit
      → Sends w.PromisedBehind F (edited_exit w.edit exit)
  sends_edited E F exit s fits h = (values_stand E F exit.values s fits h.0, keeps_edited E F exit.target s h.1)

  carries_edited : (E F : Ids) (entry : Entry) → Stands E F → AllByRecursion (Fits w) (uses (carried entry)) → Carries E entry → Carries F (edited_entry w.edit entry)
  carries_edited E F (ByBranch values) s fits h = values_stand E F values s fits h
  carries_edited E F InPlace s fits h = tt

  covers_edited : (sent sent2 : List Branching) (E F : Ids) (label : ℕ) → sent2 ≡ map (edited_branching w.edit) sent → Stands E F
      → Covers w.Promised sent E label → Covers w.PromisedBehind sent2 F label
  covers_edited sent sent2 E F label same s h none =
      keeps_edited E F label s (h (none_arrives w.edit label sent (ap (arriving label) (sym same) ∙ none)))

  two_sent : (a b a2 b2 : List Branching) → a2 ≡ map (edited_branching w.edit) a → b2 ≡ map (edited_branching w.edit) b
      → a2 ++ b2 ≡ map (edited_branching w.edit) (a ++ b)
  two_sent a b a2 b2 p q = (λ i. p i ++ q i) ∙ sym (map-append (edited_branching w.edit) a b)

  arms_sent : (block : ℕ) (arms : Arms) → branches_of_arms block (edited_arms w.edit arms) ≡ map (edited_branching w.edit) (branches_of_arms block arms)
  arms_sent block (Last arm) = branches-kept w.edit block arm
  arms_sent block (Also arm arms) = two_sent (branches block arm) (branches_of_arms block arms) _ _ (branches-kept w.edit block arm) (arms_sent block arms)

  -- ---- what a point adds

  stands_behind : (E F : Ids) (words : List ℕ) → Stands E F → AllByRecursion E (there w.wants words) → StepFits w words
      → Stands (With E (defined_in words)) (behind F (w.edit.steps words))
  stands_behind E F words s h fits =
      let more : Among (Given w (there w.wants words)) F =
      given_among E F (there w.wants words) s h in (
        λ y k. stays_behind (w.edit.steps words) F y (s.0 y k),
        λ x y a g. elim a [
          | inl e ↦ stays_behind (w.edit.steps words) F y (s.1 x y e g)
          | inr d ↦ behind_more (w.edit.steps words) (Given w (there w.wants words)) F more y (fits.defines x y d g)
        ],
      )

  stands_with : (E F : Ids) (front : Front) → Stands E F → AllByRecursion E (flat_map w.wants (results front)) → FrontFits w front
      → Stands (With E (results front)) (With F (results front))
  stands_with E F front s h fits = (
    λ y k. inl (s.0 y k),
    λ x y a g. elim a [
      | inl e ↦ inl (s.1 x y e g)
      | inr d ↦ with_more (Given w (flat_map w.wants (results front))) F (results front)
          (given_among E F (flat_map w.wants (results front)) s h) y (fits x y d g)
    ],
  )

  stands_promised : (E F : Ids) (label : ℕ) → Stands E F → Stands (λ id. E id ⊎ w.Promised label id) (λ id. F id ⊎ w.PromisedBehind label id)
  stands_promised E F label s = (
    λ y k. inl (s.0 y k),
    λ x y a g. elim a [
      | inl e ↦ inl (s.1 x y e g)
      | inr p ↦ elim (giving.given label x y p g) [ inl k ↦ inl (s.0 y k) | inr q ↦ inr q ]
    ],
  )

  stands_front : (E F : Ids) (front : Front) → Stands E F → OfferedAt w.Promised w.wants E front → FrontFits w front
      → Stands (AtFront w.Promised E front) (AtFront w.PromisedBehind F front)
  stands_front E F front s h fits =
      stands_with (λ id. E id ⊎ w.Promised front.label id) (λ id. F id ⊎ w.PromisedBehind front.label id) front (stands_promised E F front.label s) h fits

  -- ---- lines before a body

  end_before : (lines : List (List ℕ)) (E F : Ids) (body : Body) → Stands E (at_end (behind F lines) body) → Stands E (at_end F (steps_before lines body))
  end_before [] E F body s = s
  end_before (line ∷ lines) E F body s = end_before lines E (With F (defined_in line)) body s

  fine_before : (lines : List (List ℕ)) (F : Ids) (l : ℕ) (body : Body) → Follow F lines → Fine w.PromisedBehind (behind F lines) l body
      → Fine w.PromisedBehind F l (steps_before lines body)
  fine_before [] F l body f h = h
  fine_before (line ∷ lines) F l body f h = (f.0, fine_before lines (With F (defined_in line)) l body f.1 h)

  -- at the end of the block
  end_edited : (b : Body) (E F : Ids) (l : ℕ) → Stands E F → AllByRecursion (Fits w) (shown b) → Offers w.Promised w.wants E b → Fine w.Promised E l b
      → Stands (at_end E b) (at_end F (edited w.edit b))
  end_edited (Step words body) E F l s fits o h =
      end_before (w.edit.steps words) (at_end (With E (defined_in words)) body) F (edited w.edit body)
      (end_edited body (With E (defined_in words)) (behind F (w.edit.steps words)) l
      (stands_behind E F words s (all_both E (used_in words) (flat_map w.wants (defined_in words)) h.0 o.0) fits.0) fits.1 o.1 h.1)
  end_edited (Leaves exit) E F l s fits o h = s
  end_edited (Finishes words) E F l s fits o h = s
  end_edited (Enters label body) E F l s fits o h = s
  end_edited (Splits condition on exit body) E F l s fits o h = s
  end_edited (Selects control condition first second merge rest) E F l s fits o h = s
  end_edited (Switches control selector cases arms merge rest) E F l s fits o h = s
  end_edited (Loops entry header control inner next continuing merge rest) E F l s fits o h = s

  -- ---- bodies

  module _ (all : List Branching) where
    mutual
      pub fine_edited : (b : Body) (E F : Ids) (l : ℕ) → Stands E F → IsFormed all b → AllByRecursion (FrontFits w) (fronts_of b) → AllByRecursion (Fits w) (shown b)
          → Offers w.Promised w.wants E b → Fine w.Promised E l b → Fine w.PromisedBehind F l (edited w.edit b)
      fine_edited (Leaves exit) E F l s formed fronts fits o h = sends_edited E F exit s fits h
      fine_edited (Finishes words) E F l s formed fronts fits o h = end_used E F w.edit words formed (operands_stand E F (operands words) s fits) h
      fine_edited (Step words body) E F l s formed fronts fits o h =
          let have : AllByRecursion E (there w.wants words) =
          all_both E (used_in words) (flat_map w.wants (defined_in words)) h.0 o.0 in
          fine_before (w.edit.steps words) F l (edited w.edit body)
          (follow_more (w.edit.steps words) (Given w (there w.wants words)) F
          (given_among E F (there w.wants words) s have) fits.0.uses)
          (fine_edited body (With E (defined_in words)) (behind F (w.edit.steps words)) l (stands_behind E F words s have fits.0) formed.1 fronts fits.1 o.1 h.1)
      fine_edited (Enters label body) E F l s formed fronts fits o h = fine_edited body E F label s formed fronts fits o h
      fine_edited (Splits condition on exit body) E F l s formed fronts fits o h = (
        use_stands E F condition s fits.0 h.0,
        sends_edited E F exit s (all_left (Fits w) (uses exit.values) (shown body) fits.1) h.1,
        fine_edited body E F l s formed.1 fronts (all_right (Fits w) (uses exit.values) (shown body) fits.1) o h.2,
      )
      fine_edited (Selects control condition first second merge rest) E F l s formed fronts fits o h =
          let fits1 = all_right (Fits w) (shown first) (shown second ++ shown rest) fits.1 in
          let fronts1 = all_right (FrontFits w) (fronts_of first) (fronts_of second ++ fronts_of rest) fronts.1 in (
            use_stands E F condition s fits.0 h.0,
            fine_edited first E F l s formed.3 (all_left (FrontFits w) (fronts_of first) (fronts_of second ++ fronts_of rest) fronts.1)
                (all_left (Fits w) (shown first) (shown second ++ shown rest) fits.1) o.0 h.1,
            fine_edited second E F l s formed.4 (all_left (FrontFits w) (fronts_of second) (fronts_of rest) fronts1)
                (all_left (Fits w) (shown second) (shown rest) fits1) o.1 h.2,
            covers_edited _ _ E F merge.label (two_sent _ _ _ _ (branches-kept w.edit l first) (branches-kept w.edit l second)) s h.3,
            fine_edited rest (AtFront w.Promised E merge) (AtFront w.PromisedBehind F merge) merge.label (stands_front E F merge s o.2 fronts.0) formed.5
                (all_right (FrontFits w) (fronts_of second) (fronts_of rest) fronts1) (all_right (Fits w) (shown second) (shown rest) fits1) o.3 h.4,
          )
      fine_edited (Switches control selector cases arms merge rest) E F l s formed fronts fits o h = (
        use_stands E F selector s fits.0 h.0,
        arms_edited arms E F l s formed.2 (all_left (FrontFits w) (fronts_in_arms arms) (fronts_of rest) fronts.1)
            (all_left (Fits w) (shown_in_arms arms) (shown rest) fits.1) o.0 h.1,
        covers_edited _ _ E F merge.label (arms_sent l arms) s h.2,
        fine_edited rest (AtFront w.Promised E merge) (AtFront w.PromisedBehind F merge) merge.label (stands_front E F merge s o.1 fronts.0) formed.3
            (all_right (FrontFits w) (fronts_in_arms arms) (fronts_of rest) fronts.1) (all_right (Fits w) (shown_in_arms arms) (shown rest) fits.1) o.2 h.3,
      )
      fine_edited (Loops entry header control inner next continuing merge rest) E F l s formed fronts fits o h =
          let fits1 = all_right (Fits w) (uses (carried entry)) (shown inner ++ (shown continuing ++ shown rest)) fits in
          let fits2 = all_right (Fits w) (shown inner) (shown continuing ++ shown rest) fits1 in
          let fronts1 = fronts.1.1.1 in
          let fronts2 = all_right (FrontFits w) (fronts_of inner) (fronts_of continuing ++ fronts_of rest) fronts1 in
          let inner_fits = all_left (Fits w) (shown inner) (shown continuing ++ shown rest) fits1 in
          let both : Stands (Headed E header) (Headed F header) = stands_with E F header s o.0 fronts.0 in
          let ends : Stands (at_end (Headed E header) inner) (at_end (Headed F header) (edited w.edit inner)) =
          end_edited inner (Headed E header) (Headed F header) header.label both inner_fits o.1 h.1 in (
            carries_edited E F entry s (all_left (Fits w) (uses (carried entry)) (shown inner ++ (shown continuing ++ shown rest)) fits) h.0,
            fine_edited inner (Headed E header) (Headed F header) header.label both formed.4
                (all_left (FrontFits w) (fronts_of inner) (fronts_of continuing ++ fronts_of rest) fronts1) inner_fits o.1 h.1,
            fine_edited continuing (AtFront w.Promised (Headed E header) next) (AtFront w.PromisedBehind (Headed F header) next) next.label
                (stands_front (Headed E header) (Headed F header) next both o.2 fronts.1.0) formed.5
                (all_left (FrontFits w) (fronts_of continuing) (fronts_of rest) fronts2) (all_left (Fits w) (shown continuing) (shown rest) fits2) o.3 h.2,
            covers_edited _ _ (at_end (Headed E header) inner) (at_end (Headed F header) (edited w.edit inner)) next.label
                (branches-kept w.edit header.label inner) ends h.3,
            covers_edited _ _ (at_end (Headed E header) inner) (at_end (Headed F header) (edited w.edit inner)) merge.label
                (two_sent _ _ _ _ (branches-kept w.edit header.label inner) (branches-kept w.edit next.label continuing)) ends h.4,
            fine_edited rest (AtFront w.Promised (Headed E header) merge) (AtFront w.PromisedBehind (Headed F header) merge) merge.label
                (stands_front (Headed E header) (Headed F header) merge both o.4 fronts.1.1.0) formed.6
                (all_right (FrontFits w) (fronts_of continuing) (fronts_of rest) fronts2) (all_right (Fits w) (shown continuing) (shown rest) fits2) o.5 h.5,
          )

      pub arms_edited : (arms : Arms) (E F : Ids) (l : ℕ) → Stands E F → AreFormed all arms → AllByRecursion (FrontFits w) (fronts_in_arms arms)
          → AllByRecursion (Fits w) (shown_in_arms arms) → ArmsOffer w.Promised w.wants E arms → ArmsFine w.Promised E l arms
          → ArmsFine w.PromisedBehind F l (edited_arms w.edit arms)
      arms_edited (Last arm) E F l s formed fronts fits o h = fine_edited arm E F l s formed.1 fronts fits o h
      arms_edited (Also arm arms) E F l s formed fronts fits o h = (
        fine_edited arm E F l s formed.1 (all_left (FrontFits w) (fronts_of arm) (fronts_in_arms arms) fronts)
            (all_left (Fits w) (shown arm) (shown_in_arms arms) fits) o.0 h.0,
        arms_edited arms E F l s formed.2 (all_right (FrontFits w) (fronts_of arm) (fronts_in_arms arms) fronts)
            (all_right (Fits w) (shown arm) (shown_in_arms arms) fits) o.1 h.1,
      )

-- ---- functions

-- where what is known stays so, a function begins with it
pub begins_known : (Known KnownBehind : Ids) (P : (label id : ℕ) → Type 0) (f : Function) → Among Known KnownBehind → IsFine Known P f → Begins KnownBehind f
begins_known Known KnownBehind P f more h = (
  each_by Known KnownBehind more (used_in f.function) h.function,
  each_by (λ words. AllByRecursion Known (used_in words)) (λ words. AllByRecursion KnownBehind (used_in words))
      (λ words a. each_by Known KnownBehind more (used_in words) a) f.parameters h.parameters,
)

pub fine_where_given : (w : Giving) → FineWhereGiven w
fine_where_given w f sound fits h = record {
  function = fits.begins.0;
  parameters = fits.begins.1;
  body = fine_edited w fits.giving (branches_in f) f.body (With w.Known (flat_map defined_in f.parameters)) (With w.KnownBehind (flat_map defined_in f.parameters))
      f.label (λ y k. inl k, λ x y a g. elim a [ inl k ↦ inl (fits.giving.known x y k g) | inr p ↦ fits.parameters x y p g ]) sound.formed fits.fronts
      fits.body fits.offers h.body;
}
