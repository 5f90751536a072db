-- What leaving out arms that no case names keeps. First of the arms of one switch, then of bodies, by induction.
use Rattle.std.proofs.Common.{◌≡◌, ℕ, inl, inr, Bool, true, false, ◌==◌, ◌&&◌, not, cond, nat_eq, List, [], ◌∷◌, ◌++◌, filter, Option, Some, None, refl, sym, ap, ◌∙◌}
use Rattle.std.specs.List.{list_all, AllByRecursion, IsDistinct}
use Rattle.std.proofs.lemmas.Bool.{eq-eqb}
use Rattle.std.proofs.lemmas.List.{append-nil}
use Rattle.std.proofs.lemmas.List.Elements.{filter-append}
use Rattle.spv_blocks.specs.Blocks.{Switch, end_targets, has, seconds}
use Rattle.spv_walk.proofs.Unique.{both_hold, left_holds, right_holds}
use Rattle.spv_bodies.specs.Bodies.{Front, ByBranch, InPlace, Body, Leaves, Finishes, Step, Enters, Splits, Selects, Switches, Loops, Arms, Last, Also, target, begins_at_branch}
use Rattle.spv_bodies.specs.Listing.{Branching, branches, branches_of_arms, arriving, entering}
use Rattle.spv_tree.specs.Sound.{ArePlaced, ArmsArePlaced, opens, targets, entered, entered_of_arms, fronts, fronts_of_arms, own_label}
use Rattle.spv_trees.specs.Standing.{OneOf}
use Rattle.spv_trees.proofs.Members.{one_left, one_right}
use Rattle.spv_structured.specs.Structured.{NamesArms, NamesInArms, are_named}
use Rattle.spv_structured.proofs.Lists.{one_split}
use Rattle.spv_unbroken.specs.Pruned.{EachUnseen, EachUnseenIn, is_named, arm_list, unseen, with_named, named_arms, pruned, pruned_arms}
use Rattle.spv_unbroken.proofs.Choices.{target_pruned, first_of_kept}
use Rattle.spv_unbroken.proofs.Survey.{In}
use Rattle.spv_unbroken.proofs.Absent.{leaves_at_once}

abbrev pub Leaving : Body → Type 0
Leaving arm = leaves_at_once arm ≡ true

-- ---- what holds of each arm that no case names

each_both : (P Q R : Body → Type 0) → ((arm : Body) → P arm → Q arm → R arm) → (xs : List Body) → AllByRecursion P xs → AllByRecursion Q xs
    → AllByRecursion R xs
each_both P Q R both [] p q = tt
each_both P Q R both (x ∷ xs) p q = (both x p.0 q.0, each_both P Q R both xs p.1 q.1)

mutual
  pub unseen_both : (P Q R : Body → Type 0) → ((arm : Body) → P arm → Q arm → R arm) → (b : Body) → EachUnseen P b → EachUnseen Q b → EachUnseen R b
  unseen_both P Q R both (Leaves exit) p q = tt
  unseen_both P Q R both (Finishes words) p q = tt
  unseen_both P Q R both (Step words b) p q = unseen_both P Q R both b p q
  unseen_both P Q R both (Enters label b) p q = unseen_both P Q R both b p q
  unseen_both P Q R both (Splits condition on exit b) p q = unseen_both P Q R both b p q
  unseen_both P Q R both (Selects control condition first second merge rest) p q =
      (unseen_both P Q R both first p.0 q.0, unseen_both P Q R both second p.1 q.1, unseen_both P Q R both rest p.2 q.2)
  unseen_both P Q R both (Switches control selector cases arms merge rest) p q =
      (each_both P Q R both (unseen cases arms) p.0 q.0, unseen_both_in P Q R both arms p.1 q.1, unseen_both P Q R both rest p.2 q.2)
  unseen_both P Q R both (Loops entry header control inner next continuing merge rest) p q =
      (unseen_both P Q R both inner p.0 q.0, unseen_both P Q R both continuing p.1 q.1, unseen_both P Q R both rest p.2 q.2)

  unseen_both_in : (P Q R : Body → Type 0) → ((arm : Body) → P arm → Q arm → R arm) → (arms : Arms) → EachUnseenIn P arms → EachUnseenIn Q arms
      → EachUnseenIn R arms
  unseen_both_in P Q R both (Last arm) p q = unseen_both P Q R both arm p q
  unseen_both_in P Q R both (Also arm arms) p q = (unseen_both P Q R both arm p.0 q.0, unseen_both_in P Q R both arms p.1 q.1)

-- ---- arms of one switch

abbrev pub Others : (cases : List (ℕ × ℕ)) → (P : Body → Type 0) → Arms → Type 0
Others cases P arms = AllByRecursion P (filter (λ arm. not (is_named cases arm)) (arm_list arms))

-- a list made of arms, of which those that are left out make nothing
module _ {X : Type 0} (of : Body → List X) (make : Arms → List X) (last : (a : Body) → make (Last a) ≡ of a)
    (also : (a : Body) (tail : Arms) → make (Also a tail) ≡ of a ++ make tail) (cases : List (ℕ × ℕ)) where
  abbrev MakesNone : Body → Type 0
  MakesNone arm = of arm ≡ []

  kept_list : (first : Body) (others : Arms) → Others cases MakesNone others → make (with_named cases first others) ≡ of first ++ make others
  kept_list first (Last arm) h = by (is_named cases arm) h
    where
      by : (n : Bool) → AllByRecursion MakesNone (cond (not n) (arm ∷ []) [])
          → make (cond n (Also first (Last arm)) (Last first)) ≡ of first ++ make (Last arm)
      by true g = also first (Last arm)
      by false g = last first ∙ sym (append-nil (of first)) ∙ ap (λ z. of first ++ z) (sym (last arm ∙ g.0))
  kept_list first (Also arm arms) h = by (is_named cases arm) h (λ g. kept_list arm arms g) (λ g. kept_list first arms g)
    where
      by : (n : Bool) → AllByRecursion MakesNone (cond (not n) (arm
          ∷ filter (λ a. not (is_named cases a)) (arm_list arms)) (filter (λ a. not (is_named cases a)) (arm_list arms)))
          → (Others cases MakesNone arms → make (with_named cases arm arms) ≡ of arm ++ make arms)
          → (Others cases MakesNone arms → make (with_named cases first arms) ≡ of first ++ make arms)
          → make (cond n (Also first (with_named cases arm arms)) (with_named cases first arms)) ≡ of first ++ make (Also arm arms)
      by true g more same = also first (with_named cases arm arms) ∙ ap (λ z. of first ++ z) (more g ∙ sym (also arm arms))
      by false g more same = same g.1 ∙ ap (λ z. of first ++ z) (sym (also arm arms ∙ ap (λ z. z ++ make arms) g.0))

  pub named_list : (arms : Arms) → AllByRecursion MakesNone (unseen cases arms) → make (named_arms cases arms) ≡ make arms
  named_list (Last arm) h = refl
  named_list (Also arm arms) h = kept_list arm arms h ∙ sym (also arm arms)

-- what holds of all arms
module _ (P : Body → Type 0) (Each : Arms → Type 0) (last : (a : Body) → P a → Each (Last a)) (also : (a : Body) (tail : Arms) → P a → Each tail
    → Each (Also a tail))
    (of_last : (a : Body) → Each (Last a) → P a) (of_also : (a : Body) (tail : Arms) → Each (Also a tail) → P a × Each tail) (cases : List (ℕ × ℕ)) where
  kept_all : (first : Body) (others : Arms) → P first → Each others → Each (with_named cases first others)
  kept_all first (Last arm) p h = by (is_named cases arm)
    where
      by : (n : Bool) → Each (cond n (Also first (Last arm)) (Last first))
      by true = also first (Last arm) p h
      by false = last first p
  kept_all first (Also arm arms) p h =
      let q = of_also arm arms h in
      by (is_named cases arm) (kept_all arm arms q.0 q.1) (kept_all first arms p q.1)
    where
      by : (n : Bool) → Each (with_named cases arm arms) → Each (with_named cases first arms)
          → Each (cond n (Also first (with_named cases arm arms)) (with_named cases first arms))
      by true a b = also first (with_named cases arm arms) p a
      by false a b = b

  pub named_all : (arms : Arms) → Each arms → Each (named_arms cases arms)
  named_all (Last arm) h = h
  named_all (Also arm arms) h = let q = of_also arm arms h in kept_all arm arms q.0 q.1

-- ---- targets

abbrev pub Targets : (ℕ → Type 0) → Arms → Type 0
Targets P arms = AllByRecursion P (targets arms)

kept_targets : (P : ℕ → Type 0) (cases : List (ℕ × ℕ)) (first : Body) (others : Arms) → P (target first) → Targets P others
    → Targets P (with_named cases first others)
kept_targets P cases first others p h =
    kept_all (λ a. P (target a)) (Targets P) (λ a q. (q, tt)) (λ a tail q g. (q, g)) (λ a g. g.0) (λ a tail g. (g.0, g.1)) cases first others p h

kept_apart : (cases : List (ℕ × ℕ)) (first : Body) (others : Arms) → IsDistinct nat_eq (targets (Also first others))
    → IsDistinct nat_eq (targets (with_named cases first others))
unfolding IsDistinct
kept_apart cases first (Last arm) h = by (is_named cases arm)
  where
    by : (n : Bool) → IsDistinct nat_eq (targets (cond n (Also first (Last arm)) (Last first)))
    by true = h
    by false = (tt, tt)
kept_apart cases first (Also arm arms) h = by (is_named cases arm) (kept_apart cases arm arms h.1) (kept_apart cases first arms (h.0.1, h.1.1))
  where
    by : (n : Bool) → IsDistinct nat_eq (targets (with_named cases arm arms)) → IsDistinct nat_eq (targets (with_named cases first arms))
        → IsDistinct nat_eq (targets (cond n (Also first (with_named cases arm arms)) (with_named cases first arms)))
    by true a b = (kept_targets (λ t. nat_eq (target first) t ≡ false) cases arm arms h.0.0 h.0.1, a)
    by false a b = b

pub named_apart : (cases : List (ℕ × ℕ)) (arms : Arms) → IsDistinct nat_eq (targets arms) → IsDistinct nat_eq (targets (named_arms cases arms))
named_apart cases (Last arm) h = h
named_apart cases (Also arm arms) h = kept_apart cases arm arms h

-- a target that a case names is kept
kept_target : (cases : List (ℕ × ℕ)) (t : ℕ) → has (seconds cases) t ≡ true → (first : Body) (others : Arms) → OneOf t (targets (Also first others))
    → OneOf t (targets (with_named cases first others))
kept_target cases t n first (Last arm) h = by (is_named cases arm) refl h
  where
    by : (b : Bool) → is_named cases arm ≡ b → OneOf t (target first ∷ target arm ∷ []) → OneOf t (targets (cond b (Also first (Last arm)) (Last first)))
    by true e g = g
    by false e (inl g) = inl g
    by false e (inr (inl g)) = absurd (cc (n, e, ap (has (seconds cases)) g))
    by false e (inr (inr g)) = absurd g
kept_target cases t n first (Also arm arms) h = by (is_named cases arm) refl h (kept_target cases t n arm arms) (kept_target cases t n first arms)
  where
    by : (b : Bool) → is_named cases arm ≡ b → OneOf t (target first ∷ target arm ∷ targets arms)
        → (OneOf t (target arm ∷ targets arms) → OneOf t (targets (with_named cases arm arms)))
        → (OneOf t (target first ∷ targets arms) → OneOf t (targets (with_named cases first arms)))
        → OneOf t (targets (cond b (Also first (with_named cases arm arms)) (with_named cases first arms)))
    by true e (inl g) more same = inl g
    by true e (inr g) more same = inr (more g)
    by false e (inl g) more same = same (inl g)
    by false e (inr (inl g)) more same = absurd (cc (n, e, ap (has (seconds cases)) g))
    by false e (inr (inr g)) more same = same (inr g)

pub named_target : (cases : List (ℕ × ℕ)) (t : ℕ) → has (seconds cases) t ≡ true → (arms : Arms) → OneOf t (targets arms)
    → OneOf t (targets (named_arms cases arms))
named_target cases t n (Last arm) h = h
named_target cases t n (Also arm arms) h = kept_target cases t n arm arms h

-- and each that is kept is named, or the first
all_kept : (cases : List (ℕ × ℕ)) (test : ℕ → Bool) → ((t : ℕ) → has (seconds cases) t ≡ true → test t ≡ true) → (first : Body) (others : Arms)
    → test (target first) ≡ true
    → list_all test (targets (with_named cases first others)) ≡ true
all_kept cases test passes first (Last arm) h = by (is_named cases arm) refl
  where
    by : (b : Bool) → is_named cases arm ≡ b → list_all test (targets (cond b (Also first (Last arm)) (Last first))) ≡ true
    by true e = both_hold (test (target first)) (test (target arm) && true) h (both_hold (test (target arm)) true (passes (target arm) e) refl)
    by false e = both_hold (test (target first)) true h refl
all_kept cases test passes first (Also arm arms) h =
    by (is_named cases arm) refl (λ g. all_kept cases test passes arm arms g) (all_kept cases test passes first arms h)
  where
    by : (b : Bool) → is_named cases arm ≡ b → (test (target arm) ≡ true → list_all test (targets (with_named cases arm arms)) ≡ true)
        → list_all test (targets (with_named cases first arms)) ≡ true
        → list_all test (targets (cond b (Also first (with_named cases arm arms)) (with_named cases first arms))) ≡ true
    by true e more same = both_hold (test (target first)) (list_all test (targets (with_named cases arm arms))) h (more (passes (target arm) e))
    by false e more same = same

pub all_named : (cases : List (ℕ × ℕ)) (arms : Arms) → are_named (named_arms cases arms) cases ≡ true
all_named cases (Last arm) =
    both_hold (has (target arm ∷ seconds cases) (target arm)) true
    (left_holds (target arm == target arm) (has (seconds cases) (target arm)) (eq-eqb (target arm) (target arm) refl)) refl
all_named cases (Also arm arms) =
    ap (λ d. list_all (has (end_targets (Switch d cases))) (targets (with_named cases arm arms))) (first_of_kept cases arm arms)
    ∙ all_kept cases (has (end_targets (Switch (target arm) cases))) (λ t e. right_holds (target arm == t) (has (seconds cases) t) e) arm arms
    (left_holds (target arm == target arm) (has (seconds cases) (target arm)) (eq-eqb (target arm) (target arm) refl))

-- ---- branches of one switch

kept_branches : (l : ℕ) (cases : List (ℕ × ℕ)) (first : Body) (others : Arms)
    → In (branches_of_arms l (with_named cases first others)) (branches l first ++ branches_of_arms l others)
kept_branches l cases first (Last arm) x h = by (is_named cases arm) h
  where
    by : (n : Bool) → OneOf x (branches_of_arms l (cond n (Also first (Last arm)) (Last first))) → OneOf x (branches l first ++ branches l arm)
    by true g = g
    by false g = one_left x (branches l first) (branches l arm) g
kept_branches l cases first (Also arm arms) x h = by (is_named cases arm) h (kept_branches l cases arm arms x) (kept_branches l cases first arms x)
  where
    by : (n : Bool) → OneOf x (branches_of_arms l (cond n (Also first (with_named cases arm arms)) (with_named cases first arms)))
        → (OneOf x (branches_of_arms l (with_named cases arm arms)) → OneOf x (branches l arm ++ branches_of_arms l arms))
        → (OneOf x (branches_of_arms l (with_named cases first arms)) → OneOf x (branches l first ++ branches_of_arms l arms))
        → OneOf x (branches l first ++ (branches l arm ++ branches_of_arms l arms))
    by true g more same = elim (one_split x (branches l first) (branches_of_arms l (with_named cases arm arms)) g) [
      | inl k ↦ one_left x (branches l first) (branches l arm ++ branches_of_arms l arms) k
      | inr k ↦ one_right x (branches l first) (branches l arm ++ branches_of_arms l arms) (more k)
    ]
    by false g more same = elim (one_split x (branches l first) (branches_of_arms l arms) (same g)) [
      | inl k ↦ one_left x (branches l first) (branches l arm ++ branches_of_arms l arms) k
      | inr k ↦ one_right x (branches l first) (branches l arm ++ branches_of_arms l arms) (one_right x (branches l arm) (branches_of_arms l arms) k)
    ]

named_branches : (l : ℕ) (cases : List (ℕ × ℕ)) (arms : Arms) → In (branches_of_arms l (named_arms cases arms)) (branches_of_arms l arms)
named_branches l cases (Last arm) x h = h
named_branches l cases (Also arm arms) x h = kept_branches l cases arm arms x h

-- ---- arms without those of switches in them

module _ (P Q : Body → Type 0) (to : (arm : Body) → P arm → Q (pruned arm)) (cases : List (ℕ × ℕ)) where
  others_pruned : (arms : Arms) → Others cases P arms → Others cases Q (pruned_arms arms)
  others_pruned (Last arm) h = by (is_named cases arm) (is_named cases (pruned arm)) (ap (has (seconds cases)) (target_pruned arm)) h
    where
      by : (m n : Bool) → n ≡ m → AllByRecursion P (cond (not m) (arm ∷ []) []) → AllByRecursion Q (cond (not n) (pruned arm ∷ []) [])
      by true true e g = tt
      by false false e g = (to arm g.0, tt)
      by true false e g = absurd (cc e)
      by false true e g = absurd (cc e)
  others_pruned (Also arm arms) h =
      by (is_named cases arm) (is_named cases (pruned arm)) (ap (has (seconds cases)) (target_pruned arm)) h (λ g. others_pruned arms g)
    where
      by : (m n : Bool) → n ≡ m
          → AllByRecursion P (cond (not m) (arm ∷ filter (λ a. not (is_named cases a)) (arm_list arms)) (filter (λ a. not (is_named cases a))
          (arm_list arms)))
          → (Others cases P arms → Others cases Q (pruned_arms arms))
          → AllByRecursion Q (cond (not n) (pruned arm ∷ filter (λ a. not (is_named cases a)) (arm_list (pruned_arms arms)))
          (filter (λ a. not (is_named cases a)) (arm_list (pruned_arms arms))))
      by true true e g more = more g
      by false false e g more = (to arm g.0, more g.1)
      by true false e g more = absurd (cc e)
      by false true e g more = absurd (cc e)

  pub unseen_pruned : (arms : Arms) → AllByRecursion P (unseen cases arms) → AllByRecursion Q (unseen cases (pruned_arms arms))
  unseen_pruned (Last arm) h = tt
  unseen_pruned (Also arm arms) h = others_pruned arms h

-- ---- bodies

pub joins : {X : Type 0} {a b c d : List X} → a ≡ b → c ≡ d → a ++ c ≡ b ++ d
joins {X} {a} {b} {c} {d} e g = ap (λ z. z ++ c) e ∙ ap (λ z. b ++ z) g

pub begins_pruned : (b : Body) → begins_at_branch (pruned b) ≡ begins_at_branch b
begins_pruned (Leaves exit) = refl
begins_pruned (Finishes words) = refl
begins_pruned (Step words b) = refl
begins_pruned (Enters label b) = refl
begins_pruned (Splits condition on exit b) = refl
begins_pruned (Selects control condition first second merge rest) = refl
begins_pruned (Switches control selector cases arms merge rest) = refl
begins_pruned (Loops (ByBranch values) header control inner next continuing merge rest) = refl
begins_pruned (Loops InPlace header control inner next continuing merge rest) = refl

pub opens_pruned : (b : Body) → opens (pruned b) ≡ opens b
opens_pruned (Leaves exit) = refl
opens_pruned (Finishes words) = refl
opens_pruned (Step words b) = opens_pruned b
opens_pruned (Enters label b) = refl
opens_pruned (Splits condition on exit b) = refl
opens_pruned (Selects control condition first second merge rest) = refl
opens_pruned (Switches control selector cases arms merge rest) = refl
opens_pruned (Loops (ByBranch values) header control inner next continuing merge rest) = refl
opens_pruned (Loops InPlace header control inner next continuing merge rest) = refl

none_entered : (arm : Body) → Leaving arm → entered (pruned arm) ≡ []
none_entered (Leaves exit) e = refl
none_entered other e = absurd (cc e)

none_in_front : (arm : Body) → Leaving arm → fronts (pruned arm) ≡ []
none_in_front (Leaves exit) e = refl
none_in_front other e = absurd (cc e)

mutual
  pub entered_kept : (b : Body) → EachUnseen Leaving b → entered (pruned b) ≡ entered b
  entered_kept (Leaves exit) h = refl
  entered_kept (Finishes words) h = refl
  entered_kept (Step words b) h = entered_kept b h
  entered_kept (Enters label b) h = ap (λ z. label ∷ z) (entered_kept b h)
  entered_kept (Splits condition on exit b) h = entered_kept b h
  entered_kept (Selects control condition first second merge rest) h = joins (joins (entered_kept first h.0) (entered_kept second h.1))
      (entered_kept rest h.2)
  entered_kept (Switches control selector cases arms merge rest) h =
      joins (named_list entered entered_of_arms (λ a. refl) (λ a tail. refl) cases (pruned_arms arms)
      (unseen_pruned Leaving (λ a. entered a ≡ []) none_entered cases arms h.0) ∙ arms_entered_kept arms h.1) (entered_kept rest h.2)
  entered_kept (Loops entry header control inner next continuing merge rest) h =
      joins (joins (entered_kept inner h.0) (entered_kept continuing h.1)) (entered_kept rest h.2)

  arms_entered_kept : (arms : Arms) → EachUnseenIn Leaving arms → entered_of_arms (pruned_arms arms) ≡ entered_of_arms arms
  arms_entered_kept (Last arm) h = entered_kept arm h
  arms_entered_kept (Also arm arms) h = joins (entered_kept arm h.0) (arms_entered_kept arms h.1)

mutual
  pub fronts_kept : (b : Body) → EachUnseen Leaving b → fronts (pruned b) ≡ fronts b
  fronts_kept (Leaves exit) h = refl
  fronts_kept (Finishes words) h = refl
  fronts_kept (Step words b) h = fronts_kept b h
  fronts_kept (Enters label b) h = fronts_kept b h
  fronts_kept (Splits condition on exit b) h = fronts_kept b h
  fronts_kept (Selects control condition first second merge rest) h =
      joins (joins (ap (λ z. merge.label ∷ z) (fronts_kept first h.0)) (fronts_kept second h.1)) (fronts_kept rest h.2)
  fronts_kept (Switches control selector cases arms merge rest) h =
      joins (ap (λ z. merge.label ∷ z) (named_list fronts fronts_of_arms (λ a. refl) (λ a tail. refl) cases (pruned_arms arms)
      (unseen_pruned Leaving (λ a. fronts a ≡ []) none_in_front cases arms h.0) ∙ arms_fronts_kept arms h.1)) (fronts_kept rest h.2)
  fronts_kept (Loops entry header control inner next continuing merge rest) h =
      joins (joins (ap (λ z. own_label entry header.label ++ (next.label ∷ merge.label
      ∷ z)) (fronts_kept inner h.0)) (fronts_kept continuing h.1)) (fronts_kept rest h.2)

  arms_fronts_kept : (arms : Arms) → EachUnseenIn Leaving arms → fronts_of_arms (pruned_arms arms) ≡ fronts_of_arms arms
  arms_fronts_kept (Last arm) h = fronts_kept arm h
  arms_fronts_kept (Also arm arms) h = joins (fronts_kept arm h.0) (arms_fronts_kept arms h.1)

-- ---- branches

both_in : {X : Type 0} (a b c d : List X) → In a c → In b d → In (a ++ b) (c ++ d)
both_in a b c d h k x g = elim (one_split x a b g) [
  | inl j ↦ one_left x c d (h x j)
  | inr j ↦ one_right x c d (k x j)
]

mutual
  pub branches_kept : (b : Body) (l : ℕ) → In (branches l (pruned b)) (branches l b)
  branches_kept (Leaves exit) l x h = h
  branches_kept (Finishes words) l x h = h
  branches_kept (Step words b) l x h = branches_kept b l x h
  branches_kept (Enters label b) l x h = branches_kept b label x h
  branches_kept (Splits condition on exit b) l x (inl e) = inl e
  branches_kept (Splits condition on exit b) l x (inr h) = inr (branches_kept b l x h)
  branches_kept (Selects control condition first second merge rest) l x h =
      both_in (branches l (pruned first)) (branches l (pruned second) ++ branches merge.label (pruned rest)) (branches l first)
      (branches l second ++ branches merge.label rest)
      (branches_kept first l)
      (both_in (branches l (pruned second)) (branches merge.label (pruned rest)) (branches l second) (branches merge.label rest) (branches_kept second l)
      (branches_kept rest merge.label)) x h
  branches_kept (Switches control selector cases arms merge rest) l x h =
      both_in (branches_of_arms l (named_arms cases (pruned_arms arms))) (branches merge.label (pruned rest)) (branches_of_arms l arms)
      (branches merge.label rest)
      (λ y k. arms_branches_kept arms l y (named_branches l cases (pruned_arms arms) y k)) (branches_kept rest merge.label) x h
  branches_kept (Loops entry header control inner next continuing merge rest) l x h =
      let tail = branches next.label (pruned continuing) ++ branches merge.label (pruned rest) in
      let behind = branches next.label continuing ++ branches merge.label rest in
      both_in (entering l header.label entry) (branches header.label (pruned inner) ++ tail) (entering l header.label entry)
      (branches header.label inner ++ behind)
      (λ y k. k)
      (both_in (branches header.label (pruned inner)) tail (branches header.label inner) behind (branches_kept inner header.label)
      (both_in (branches next.label (pruned continuing)) (branches merge.label (pruned rest)) (branches next.label continuing) (branches merge.label rest)
      (branches_kept continuing next.label) (branches_kept rest merge.label))) x h

  arms_branches_kept : (arms : Arms) (l : ℕ) → In (branches_of_arms l (pruned_arms arms)) (branches_of_arms l arms)
  arms_branches_kept (Last arm) l x h = branches_kept arm l x h
  arms_branches_kept (Also arm arms) l x h =
      both_in (branches l (pruned arm)) (branches_of_arms l (pruned_arms arms)) (branches l arm) (branches_of_arms l arms) (branches_kept arm l)
      (arms_branches_kept arms l) x h

-- those to a label that no arm which is left out goes to
abbrev pub Missing : (h : ℕ) → Body → Type 0
Missing h arm = (leaves_at_once arm ≡ true) × ((target arm == h) ≡ false)

none_arrives : (h l : ℕ) (arm : Body) → Missing h arm → arriving h (branches l (pruned arm)) ≡ []
none_arrives h l (Leaves exit) e = ap (λ b. cond b ((l, exit) ∷ []) []) e.1
none_arrives h l other e = absurd (let d = e.0 in cc d)

arriving_both : (h : ℕ) (a b c d : List Branching) → arriving h a ≡ arriving h c → arriving h b ≡ arriving h d → arriving h (a ++ b) ≡ arriving h (c ++ d)
arriving_both h a b c d e g =
    filter-append (λ x. x.1.target == h) a b ∙ joins e g ∙ sym (filter-append (λ x. x.1.target == h) c d)

mutual
  pub arriving_kept : (h : ℕ) (b : Body) (l : ℕ) → EachUnseen (Missing h) b → arriving h (branches l (pruned b)) ≡ arriving h (branches l b)
  arriving_kept h (Leaves exit) l m = refl
  arriving_kept h (Finishes words) l m = refl
  arriving_kept h (Step words b) l m = arriving_kept h b l m
  arriving_kept h (Enters label b) l m = arriving_kept h b label m
  arriving_kept h (Splits condition on exit b) l m = ap (λ z. cond (exit.target == h) ((l, exit) ∷ z) z) (arriving_kept h b l m)
  arriving_kept h (Selects control condition first second merge rest) l m =
      arriving_both h (branches l (pruned first)) (branches l (pruned second) ++ branches merge.label (pruned rest)) (branches l first)
      (branches l second ++ branches merge.label rest) (arriving_kept h first l m.0)
      (arriving_both h (branches l (pruned second)) (branches merge.label (pruned rest)) (branches l second) (branches merge.label rest)
      (arriving_kept h second l m.1) (arriving_kept h rest merge.label m.2))
  arriving_kept h (Switches control selector cases arms merge rest) l m =
      arriving_both h (branches_of_arms l (named_arms cases (pruned_arms arms))) (branches merge.label (pruned rest)) (branches_of_arms l arms)
      (branches merge.label rest)
      (named_list (λ a. arriving h (branches l a)) (λ tail. arriving h (branches_of_arms l tail)) (λ a. refl)
      (λ a tail. filter-append (λ (x : Branching). x.1.target == h) (branches l a) (branches_of_arms l tail)) cases (pruned_arms arms)
      (unseen_pruned (Missing h) (λ a. arriving h (branches l a) ≡ []) (none_arrives h l) cases arms m.0)
      ∙ arms_arriving_kept h arms l m.1) (arriving_kept h rest merge.label m.2)
  arriving_kept h (Loops entry header control inner next continuing merge rest) l m =
      let tail = branches next.label (pruned continuing) ++ branches merge.label (pruned rest) in
      let behind = branches next.label continuing ++ branches merge.label rest in
      arriving_both h (entering l header.label entry) (branches header.label (pruned inner) ++ tail) (entering l header.label entry)
      (branches header.label inner ++ behind)
      refl
      (arriving_both h (branches header.label (pruned inner)) tail (branches header.label inner) behind (arriving_kept h inner header.label m.0)
      (arriving_both h (branches next.label (pruned continuing)) (branches merge.label (pruned rest)) (branches next.label continuing)
      (branches merge.label rest)
      (arriving_kept h continuing next.label m.1) (arriving_kept h rest merge.label m.2)))

  arms_arriving_kept : (h : ℕ) (arms : Arms) (l : ℕ) → EachUnseenIn (Missing h) arms
      → arriving h (branches_of_arms l (pruned_arms arms)) ≡ arriving h (branches_of_arms l arms)
  arms_arriving_kept h (Last arm) l m = arriving_kept h arm l m
  arms_arriving_kept h (Also arm arms) l m =
      arriving_both h (branches l (pruned arm)) (branches_of_arms l (pruned_arms arms)) (branches l arm) (branches_of_arms l arms) (arriving_kept h arm l m.0)
      (arms_arriving_kept h arms l m.1)

-- ---- loops in place, and arms that are named

mutual
  pub placed_kept : (b : Body) (front : Option Front) → ArePlaced front b → ArePlaced front (pruned b)
  placed_kept (Leaves exit) front p = tt
  placed_kept (Finishes words) front p = tt
  placed_kept (Step words b) front p = placed_kept b None p
  placed_kept (Enters label b) front p = placed_kept b None p
  placed_kept (Splits condition on exit b) front p = placed_kept b None p
  placed_kept (Selects control condition first second merge rest) front p =
      (placed_kept first None p.0, placed_kept second None p.1, placed_kept rest (Some merge) p.2)
  placed_kept (Switches control selector cases arms merge rest) front p = (
    named_all (ArePlaced None) ArmsArePlaced (λ a q. q) (λ a tail q g. (q, g)) (λ a g. g) (λ a tail g. g) cases (pruned_arms arms)
        (arms_placed_kept arms p.0),
    placed_kept rest (Some merge) p.1,
  )
  placed_kept (Loops entry header control inner next continuing merge rest) front p =
      (p.0, placed_kept inner None p.1, placed_kept continuing (Some next) p.2, placed_kept rest (Some merge) p.3)

  arms_placed_kept : (arms : Arms) → ArmsArePlaced arms → ArmsArePlaced (pruned_arms arms)
  arms_placed_kept (Last arm) p = placed_kept arm None p
  arms_placed_kept (Also arm arms) p = (placed_kept arm None p.0, arms_placed_kept arms p.1)

mutual
  pub names_arms : (b : Body) → NamesArms (pruned b)
  names_arms (Leaves exit) = tt
  names_arms (Finishes words) = tt
  names_arms (Step words b) = names_arms b
  names_arms (Enters label b) = names_arms b
  names_arms (Splits condition on exit b) = names_arms b
  names_arms (Selects control condition first second merge rest) = (names_arms first, names_arms second, names_arms rest)
  names_arms (Switches control selector cases arms merge rest) = (
    all_named cases (pruned_arms arms),
    named_all NamesArms NamesInArms (λ a q. q) (λ a tail q g. (q, g)) (λ a g. g) (λ a tail g. g) cases (pruned_arms arms) (names_in_arms arms),
    names_arms rest,
  )
  names_arms (Loops entry header control inner next continuing merge rest) = (names_arms inner, names_arms continuing, names_arms rest)

  names_in_arms : (arms : Arms) → NamesInArms (pruned_arms arms)
  names_in_arms (Last arm) = names_arms arm
  names_in_arms (Also arm arms) = (names_arms arm, names_in_arms arms)
