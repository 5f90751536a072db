-- A function without the arms that no case names, where these leave at once for blocks without parameters: it is listed alike and is sound, so it is
-- unbroken.
use Rattle.std.proofs.Common.{◌≡◌, ℕ, suc, ◌⊎◌, inl, inr, Bool, true, false, ◌==◌, nat_eq, List, [], ◌∷◌, ◌++◌, length, None, refl, sym, ap, ◌∙◌, subst, arith, Option}
use Rattle.std.specs.Prelude.{All, AllPairs, Contains}
use Rattle.std.specs.List.{IsDistinct}
use Rattle.std.proofs.lemmas.List.Elements.{All-nil, All-cons}
use Rattle.std.proofs.lemmas.List.Kept.{AllPairs-cons}
use Rattle.spv_opcodes.specs.declared.op.TheConstants as op
use Rattle.spv_blocks.specs.Blocks.{Code, seconds}
use Rattle.spv_blocks.specs.Cutting.{blocks_of}
use Rattle.spv_walk.specs.Rules.{Broken}
use Rattle.spv_bodies.specs.Bodies.{Parameter, Front, Entry, ByBranch, InPlace, Body, Leaves, Finishes, Step, Enters, Splits, Selects, Switches, Loops, Arms, Last, Also, Function, begins_at_branch}
use Rattle.spv_bodies.specs.Listing.{Branching, arriving, instruction, label_line, branch_line, split_line, selection_line, loop_line, pair_words, phi_lines, front_lines, entry_lines, lines, arm_lines, lines_of_arms, listed}
use Rattle.spv_tree.specs.Branches.{branches_in}
use Rattle.spv_tree.specs.Fronts.{CarriesAll, IsShort, IsFilled}
use Rattle.spv_tree.specs.Sound.{AreAlike, IsSound, IsFormed, AreFormed, IsSwitch, targets, fronts}
use Rattle.spv_trees.specs.Standing.{OneOf, IsClosed}
use Rattle.spv_structured.specs.Spots.{blocks_in}
use Rattle.spv_structured.proofs.Lists.{all_at, contained, filter_in, filter_from, one_has}
use Rattle.spv_structured.proofs.Bare.{bare}
use Rattle.spv_structured.proofs.ListedBlocks.{listed_blocks}
use Rattle.spv_unbroken.specs.Pruned.{EachUnseen, EachUnseenIn, is_loop, NamesLoops, named_arms, pruned, pruned_arms, pruned_function}
use Rattle.spv_unbroken.specs.Laws.{PrunedIsUnbroken}
use Rattle.spv_unbroken.proofs.Choices.{target_pruned, first_of_pruned, first_of_named}
use Rattle.spv_unbroken.proofs.Survey.{EachFront, EachFrontIn, FrontSpot, UnseenArm, surveyed}
use Rattle.spv_unbroken.proofs.Absent.{same_values, arm_leaves, no_parameter}
use Rattle.spv_unbroken.proofs.Kept.{Leaving, Missing, unseen_both, named_list, named_all, named_apart, named_target, unseen_pruned, joins, begins_pruned, opens_pruned, entered_kept, fronts_kept, branches_kept, arriving_kept, placed_kept, names_arms}

two : {A B C : Type 0} (f : A → B → C) {a a2 : A} {b b2 : B} → a ≡ a2 → b ≡ b2 → f a b ≡ f a2 b2
two f {a} {a2} {b} {b2} e d = ap (λ z. f z b) e ∙ ap (λ z. f a2 z) d

mutual
  fronts_map : (P Q : Front → Type 0) → ((front : Front) → P front → Q front) → (b : Body) → EachFront P b → EachFront Q b
  fronts_map P Q to (Leaves exit) p = tt
  fronts_map P Q to (Finishes words) p = tt
  fronts_map P Q to (Step words b) p = fronts_map P Q to b p
  fronts_map P Q to (Enters label b) p = fronts_map P Q to b p
  fronts_map P Q to (Splits condition on exit b) p = fronts_map P Q to b p
  fronts_map P Q to (Selects control condition first second merge rest) p =
      (to merge p.0, fronts_map P Q to first p.1, fronts_map P Q to second p.2, fronts_map P Q to rest p.3)
  fronts_map P Q to (Switches control selector cases arms merge rest) p = (to merge p.0, fronts_map_in P Q to arms p.1, fronts_map P Q to rest p.2)
  fronts_map P Q to (Loops entry header control inner next continuing merge rest) p =
      (to header p.0, to next p.1, to merge p.2, fronts_map P Q to inner p.3, fronts_map P Q to continuing p.4, fronts_map P Q to rest p.5)

  fronts_map_in : (P Q : Front → Type 0) → ((front : Front) → P front → Q front) → (arms : Arms) → EachFrontIn P arms → EachFrontIn Q arms
  fronts_map_in P Q to (Last arm) p = fronts_map P Q to arm p
  fronts_map_in P Q to (Also arm arms) p = (fronts_map P Q to arm p.0, fronts_map_in P Q to arms p.1)

-- ---- lines

none_listed : (all : List Branching) (arm : Body) → Leaving arm → arm_lines all (pruned arm) ≡ []
none_listed all (Leaves exit) e = refl
none_listed all other e = absurd (cc e)

module _ (all new : List Branching) where
  -- the front is listed alike
  abbrev Agree : Front → Type 0
  Agree front = front_lines new front ≡ front_lines all front

  entry_agrees : (opened : List (List ℕ)) (header : Front) (entry : Entry) → Agree header
      → entry_lines new opened header entry ≡ entry_lines all opened header entry
  entry_agrees opened header (ByBranch values) e = ap (λ z. opened ++ branch_line header.label ∷ z) e
  entry_agrees opened header InPlace e = refl

  mutual
    lines_kept : (b : Body) (opened : List (List ℕ)) → EachUnseen Leaving b → EachFront Agree b → lines new opened (pruned b) ≡ lines all opened b
    lines_kept (Leaves exit) opened h k = refl
    lines_kept (Finishes words) opened h k = refl
    lines_kept (Step words b) opened h k = ap (λ z. words ∷ z) (lines_kept b opened h k)
    lines_kept (Enters label b) opened h k = ap (λ z. opened ++ branch_line label ∷ label_line label ∷ z) (lines_kept b [] h k)
    lines_kept (Splits condition on exit b) opened h k =
        two (λ t z. opened ++ split_line condition on exit.target t ∷ z) (target_pruned b) (arm_lines_kept b h k)
    lines_kept (Selects control condition first second merge rest) opened h k =
        two (λ line z. opened ++ selection_line merge.label control ∷ line ∷ z)
        (two (λ t u. split_line condition true t u) (target_pruned first) (target_pruned second))
        (joins (arm_lines_kept first h.0 k.1) (joins (arm_lines_kept second h.1 k.2) (joins k.0 (lines_kept rest [] h.2 k.3))))
    lines_kept (Switches control selector cases arms merge rest) opened h k =
        two (λ t z. opened ++ selection_line merge.label control ∷ instruction op.SWITCH (selector ∷ t ∷ pair_words cases) ∷ z)
        (first_of_named cases (pruned_arms arms) ∙ first_of_pruned arms)
        (joins
        (named_list (arm_lines new) (lines_of_arms new) (λ a. refl) (λ a tail. refl) cases (pruned_arms arms)
        (unseen_pruned Leaving (λ a. arm_lines new a ≡ []) (none_listed new) cases arms h.0) ∙ lines_of_arms_kept arms h.1 k.1)
        (joins k.0 (lines_kept rest [] h.2 k.2)))
    lines_kept (Loops entry header control inner next continuing merge rest) opened h k =
        joins (entry_agrees opened header entry k.0)
        (joins (lines_kept inner (loop_line merge.label next.label control ∷ []) h.0 k.3)
        (joins k.1 (joins (lines_kept continuing [] h.1 k.4) (joins k.2 (lines_kept rest [] h.2 k.5)))))

    arm_lines_kept : (b : Body) → EachUnseen Leaving b → EachFront Agree b → arm_lines new (pruned b) ≡ arm_lines all b
    arm_lines_kept (Enters label b) h k = ap (λ z. label_line label ∷ z) (lines_kept b [] h k)
    arm_lines_kept (Loops entry header control inner next continuing merge rest) h k =
        joins k.0
        (joins (lines_kept inner (loop_line merge.label next.label control ∷ []) h.0 k.3)
        (joins k.1 (joins (lines_kept continuing [] h.1 k.4) (joins k.2 (lines_kept rest [] h.2 k.5)))))
    arm_lines_kept other h k = refl

    lines_of_arms_kept : (arms : Arms) → EachUnseenIn Leaving arms → EachFrontIn Agree arms → lines_of_arms new (pruned_arms arms) ≡ lines_of_arms all arms
    lines_of_arms_kept (Last arm) h k = arm_lines_kept arm h k
    lines_of_arms_kept (Also arm arms) h k = joins (arm_lines_kept arm h.0 k.0) (lines_of_arms_kept arms h.1 k.1)

-- ---- lists

each_all : {X : Type 0} (P : X → Type 0) (xs : List X) → ((x : X) → OneOf x xs → P x) → All P xs
each_all P [] h = All-nil P
each_all P (x ∷ xs) h = All-cons P x xs (h x (inl refl)) (each_all P xs (λ y k. h y (inr k)))

each_pair : {X : Type 0} (R : X → X → Type 0) (xs : List X) → ((x y : X) → OneOf x xs → OneOf y xs → R x y) → AllPairs R xs
each_pair R [] h = λ i j d x y. absurd (omega (arith, y))
each_pair R (x ∷ xs) h =
    AllPairs-cons R x xs (each_all (R x) xs (λ y k. h x y (inl refl) (inr k))) (each_pair R xs (λ y z k l. h y z (inr k) (inr l)))

contains : (xs : List ℕ) (x : ℕ) → OneOf x xs → Contains xs x
contains [] x h = absurd h
contains (z ∷ zs) x (inl e) = (0, omega arith, sym e)
contains (z ∷ zs) x (inr h) = let r = contains zs x h in let lt = r.1 in (suc r.0, omega (arith, lt), r.2)

second_of : (case : ℕ × ℕ) (cases : List (ℕ × ℕ)) → OneOf case cases → OneOf case.1 (seconds cases)
second_of case [] h = absurd h
second_of case (c ∷ cs) (inl e) = inl (ap (λ z. z.1) e)
second_of case (c ∷ cs) (inr h) = inr (second_of case cs h)

-- ---- what makes a tree sound

targets_pruned : (arms : Arms) → targets (pruned_arms arms) ≡ targets arms
targets_pruned (Last arm) = ap (λ t. t ∷ []) (target_pruned arm)
targets_pruned (Also arm arms) = two (λ t ts. t ∷ ts) (target_pruned arm) (targets_pruned arms)

switch_kept : (cases : List (ℕ × ℕ)) (arms : Arms) → IsSwitch cases arms → IsSwitch cases (named_arms cases (pruned_arms arms))
switch_kept cases arms s = record {
  count = s.count;
  named = each_all (λ (case : ℕ × ℕ). Contains (targets (named_arms cases (pruned_arms arms))) case.1) cases
      (λ case k. contains (targets (named_arms cases (pruned_arms arms))) case.1
      (named_target cases case.1 (one_has (seconds cases) case.1 (second_of case cases k)) (pruned_arms arms)
      (subst (OneOf case.1) (sym (targets_pruned arms))
      (contained (targets arms) case.1 (all_at (λ (c : ℕ × ℕ). Contains (targets arms) c.1) cases s.named case k)))));
  distinct = named_apart cases (pruned_arms arms) (subst (IsDistinct nat_eq) (sym (targets_pruned arms)) s.distinct);
}

module _ (all new : List Branching) where
  -- the front is as well filled
  abbrev Fills : Front → Type 0
  Fills front = IsFilled all front → IsFilled new front

  mutual
    formed_kept : (b : Body) → IsFormed all b → EachFront Fills b → IsFormed new (pruned b)
    formed_kept (Leaves exit) p k = tt
    formed_kept (Finishes words) p k = p
    formed_kept (Step words b) p k = (p.0, formed_kept b p.1 k)
    formed_kept (Enters label b) p k = formed_kept b p k
    formed_kept (Splits condition on exit b) p k = (begins_pruned b ∙ p.0, formed_kept b p.1 k)
    formed_kept (Selects control condition first second merge rest) p k = (
      begins_pruned first ∙ p.0,
      begins_pruned second ∙ p.1,
      k.0 p.2,
      formed_kept first p.3 k.1,
      formed_kept second p.4 k.2,
      formed_kept rest p.5 k.3,
    )
    formed_kept (Switches control selector cases arms merge rest) p k = (
      switch_kept cases arms p.0,
      k.0 p.1,
      named_all (λ a. (begins_at_branch a ≡ true) × IsFormed new a) (AreFormed new) (λ a q. q) (λ a tail q g. (q.0, q.1, g)) (λ a g. g)
          (λ a tail g. ((g.0, g.1), g.2)) cases (pruned_arms arms) (arms_formed_kept arms p.2 k.1),
      formed_kept rest p.3 k.2,
    )
    formed_kept (Loops entry header control inner next continuing merge rest) p k = (
      opens_pruned inner ∙ p.0,
      k.0 p.1,
      k.1 p.2,
      k.2 p.3,
      formed_kept inner p.4 k.3,
      formed_kept continuing p.5 k.4,
      formed_kept rest p.6 k.5,
    )

    arms_formed_kept : (arms : Arms) → AreFormed all arms → EachFrontIn Fills arms → AreFormed new (pruned_arms arms)
    arms_formed_kept (Last arm) p k = (begins_pruned arm ∙ p.0, formed_kept arm p.1 k)
    arms_formed_kept (Also arm arms) p k = (begins_pruned arm ∙ p.0, formed_kept arm p.1 k.0, arms_formed_kept arms p.2 k.1)

-- ---- functions

module _ (is_pointer : ℕ → Bool) (f : Function) (sound : IsSound f) (loops : NamesLoops f.body ⊎ ((functions : ℕ
    → Option Function) × IsClosed functions [] f.body)) (g : Code) (same : bare g ≡ blocks_in f)
    (unbroken : (rule at : ℕ) → Broken is_pointer g rule at → ⊥) where
  abbrev all : List Branching
  all = branches_in f

  abbrev new : List Branching
  new = branches_in (pruned_function f)

  pub leaving : EachUnseen Leaving f.body
  leaving = by loops
    where
      by : NamesLoops f.body ⊎ ((functions : ℕ → Option Function) × IsClosed functions [] f.body) → EachUnseen Leaving f.body
      by (inl named) =
          unseen_both (UnseenArm f) (λ arm. is_loop arm ≡ false) Leaving (λ arm u e. arm_leaves is_pointer f sound g same unbroken arm u (inl e)) f.body
          (surveyed f sound).unseen named
      by (inr closed) =
          unseen_both (UnseenArm f) (UnseenArm f) Leaving (λ arm u v. arm_leaves is_pointer f sound g same unbroken arm u (inr closed)) f.body
          (surveyed f sound).unseen (surveyed f sound).unseen

  -- a front has no parameters, or the same branches
  abbrev Stays : Front → Type 0
  Stays front = (front.parameters ≡ []) ⊎ (arriving front.label new ≡ arriving front.label all)

  stays : (front : Front) → FrontSpot f front → Stays front
  stays front place = by front.parameters refl
    where
      by : (ps : List Parameter) → front.parameters ≡ ps → Stays front
      by [] e = inl e
      by (p ∷ ps) e =
          inr (arriving_kept front.label f.body f.label
          (unseen_both (UnseenArm f) Leaving (Missing front.label)
          (λ arm u l. (l, no_parameter is_pointer f sound g same unbroken front place p ps e arm u l)) f.body (surveyed f sound).unseen leaving))

  agrees : (front : Front) → FrontSpot f front → front_lines new front ≡ front_lines all front
  agrees front place = by (stays front place)
    where
      by : Stays front → front_lines new front ≡ front_lines all front
      by (inl e) =
          ap (λ ps. label_line front.label ∷ phi_lines 0 (arriving front.label new) ps) e
          ∙ sym (ap (λ ps. label_line front.label ∷ phi_lines 0 (arriving front.label all) ps) e)
      by (inr e) = ap (λ z. label_line front.label ∷ phi_lines 0 z front.parameters) e

  fills : (front : Front) → FrontSpot f front → IsFilled all front → IsFilled new front
  fills front place filled = record {
    values = each_all (CarriesAll (length front.parameters)) (arriving front.label new)
        (λ x k. let r = filter_from (λ (b : Branching). b.1.target == front.label) x new k in
        all_at (CarriesAll (length front.parameters)) (arriving front.label all) filled.values x
        (filter_in (λ (b : Branching). b.1.target == front.label) x all (branches_kept f.body f.label x r.0) r.1));
    short = by (stays front place);
  }
    where
      by : Stays front → All (IsShort (arriving front.label new)) front.parameters
      by (inl e) = subst (λ ps. All (IsShort (arriving front.label new)) ps) (sym e) (All-nil (IsShort (arriving front.label new)))
      by (inr e) = subst (λ z. All (IsShort z) front.parameters) (sym e) filled.short

  pub listed_alike : listed (pruned_function f) ≡ listed f
  listed_alike =
      ap (λ z. f.function ∷ (f.parameters ++ label_line f.label ∷ (z ++ instruction op.FUNCTION_END [] ∷ [])))
      (lines_kept all new f.body [] leaving (fronts_map (FrontSpot f) (λ front. front_lines new front
      ≡ front_lines all front) agrees f.body (surveyed f sound).fronts))

  pub sound_without : IsSound (pruned_function f)
  sound_without = record {
    labels = subst (IsDistinct nat_eq) (sym (joins (ap (λ z. f.label ∷ z) (entered_kept f.body leaving)) (fronts_kept f.body leaving))) sound.labels;
    arrive = each_all (λ (b : Branching). Contains (fronts (pruned f.body)) b.1.target) new
        (λ x k. subst (λ ls. Contains ls x.1.target) (sym (fronts_kept f.body leaving))
        (all_at (λ (b : Branching). Contains (fronts f.body) b.1.target) all sound.arrive x (branches_kept f.body f.label x k)));
    alike = each_pair AreAlike new
        (λ x y k l. same_values all sound.alike x y (branches_kept f.body f.label x k) (branches_kept f.body f.label y l));
    formed = formed_kept all new f.body sound.formed
        (fronts_map (FrontSpot f) (λ front. IsFilled all front → IsFilled new front) fills f.body (surveyed f sound).fronts);
    placed = placed_kept f.body None sound.placed;
  }

pub pruned_is_unbroken : PrunedIsUnbroken
pruned_is_unbroken is_pointer r f insts u =
    let same = listed_blocks f insts u.sound u.opens u.words in
    record {
      sound = sound_without is_pointer f u.sound u.loops (blocks_of insts) same u.none;
      opens = record { function = u.opens.function; parameters = u.opens.parameters };
      arms = names_arms f.body;
      function = u.function;
      parameters = u.parameters;
      words = u.words ∙ sym (listed_alike is_pointer f u.sound u.loops (blocks_of insts) same u.none);
      none = u.none;
    }
