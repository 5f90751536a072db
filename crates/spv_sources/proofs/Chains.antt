-- Chains of joined blocks where no rule is broken: each block is joined with one alone, and no chain has more blocks than the function.
use Rattle.std.proofs.Common.{◌≡◌, ◌⊎◌, inl, inr, ℕ, ◌+◌, ◌≤◌, Bool, true, false, cond, not, ◌==◌, ◌&&◌, ◌||◌, [], ◌∷◌, length, Option, Some, None, is_none, refl, sym, ap, subst, ◌∙◌, arith}
use Rattle.std.specs.BTreeMap.{BTreeMap, get}
use Rattle.std.specs.Ordering.{nat_cmp}
use Rattle.spv_blocks.specs.Blocks.{Code, Block, Construct, ASelection, ASwitch, ALoop, End, Branch, BranchIf, Switch, Return, Unreachable, Open, block, of_block, end_targets, branches, has, construct, merge_of, next_of, is_first, is_label, is_role, is_some_block, last_opens, names, stops}
use Rattle.spv_walk.specs.Contexts.{Context, InSelection, InArm, InBody, InNext, behind, next_context, is_exit, leaves_inner, leaves_loop, leaves_switch, is_back_pair}
use Rattle.spv_walk.specs.Walk.{Enters, Walk, Starts, Entered, Stopped, Merged, Continued, tries}
use Rattle.spv_walk.specs.Walked.{Steps, StepEntered, StepStopped, StepMerged, StepContinued}
use Rattle.spv_walk.proofs.Unique.{both_left, both_right, either_holds, equal_true, true_equal, left_holds, right_holds, not_true, tells, role_once, stops_next, goes_not_first, truth_apart}
use Rattle.spv_normal.specs.Order.{is_branch_to, is_front, is_loop, joins}
use Rattle.spv_spelling.specs.Clean.{IsClean, no_pointers}
use Rattle.spv_spelling.specs.Paths.{Path, Begins, Onward}
use Rattle.spv_spelling.proofs.Settled.{clean_is_settled}
use Rattle.spv_spelling.proofs.Paths.{path_of_walk, path_is_walked, paths_are_short}
use Rattle.spv_sources.specs.Staying as chain
use Rattle.spv_sources.specs.Staying.{Chain, IsHead, IsBehind, Puts, Follows, AreFollowed}

-- ---- what joins tells

none_is : {A : Type 0} (o : Option A) → is_none o ≡ true → o ≡ None
none_is None h = refl
none_is (Some x) h = absurd (cc (h))

branch_is : (t : ℕ) (e : End) → is_branch_to t e ≡ true → e ≡ Branch t
branch_is t (Branch u) h = ap Branch (equal_true u t h)
branch_is t (BranchIf a b) h = absurd (cc (h))
branch_is t (Switch d cases) h = absurd (cc (h))
branch_is t Return h = absurd (cc (h))
branch_is t Unreachable h = absurd (cc (h))
branch_is t Open h = absurd (cc (h))

some_branch : (t : ℕ) (o : Option Block) → of_block (λ b. is_branch_to t b.end) false o ≡ true → (b : Block) × (o ≡ Some b) × (b.end ≡ Branch t)
some_branch t None h = absurd (cc (h))
some_branch t (Some b) h = (b, refl, branch_is t b.end h)

pub record Joins (f : Code) (l t : ℕ) : Type 0 where
  pub ended : Block
  pub found : block f l ≡ Some ended
  pub branch : ended.end ≡ Branch t
  pub bare : construct f l ≡ None
  pub plain : is_front f t ≡ false

pub joins_are : (f : Code) (l t : ℕ) → joins f l t ≡ true → Joins f l t
joins_are f l t h =
    let first = both_left (of_block (λ b. is_branch_to t b.end) false (block f l) && is_none (construct f l)) (not (is_front f t)) h in
    let b = some_branch t (block f l) (both_left (of_block (λ b. is_branch_to t b.end) false (block f l)) (is_none (construct f l)) first) in
    record {
      ended = b.0;
      found = b.1;
      branch = b.2;
      bare = none_is (construct f l) (both_right (of_block (λ b. is_branch_to t b.end) false (block f l)) (is_none (construct f l)) first);
      plain = not_true (is_front f t) (both_right (of_block (λ b. is_branch_to t b.end) false (block f l) && is_none (construct f l)) (not (is_front f t)) h);
    }

-- ---- exits are fronts

named_front : (f : Code) (l : ℕ) → names f l ≡ 1 → is_front f l ≡ true
named_front f l e = rw e refl

pub role_front : (f : Code) (h l : ℕ) → is_role f h l ≡ true → is_front f l ≡ true
role_front f h l r = named_front f l (role_once f h l r)

loop_front : (f : Code) (l m n : ℕ) → construct f l ≡ Some (ALoop m n) → is_front f l ≡ true
loop_front f l m n e = right_holds (not (names f l == 0)) (is_loop (construct f l)) (ap is_loop e)

-- what a context names is a front
abbrev pub InFronts : Code → Context → Type 0
InFronts f [] = Unit {0}
InFronts f (InSelection m ∷ c) = (is_front f m ≡ true) × InFronts f c
InFronts f (InArm h m a ∷ c) = (is_front f m ≡ true) × InFronts f c
InFronts f (InBody h m n ∷ c) = (is_front f m ≡ true) × (is_front f n ≡ true) × InFronts f c
InFronts f (InNext h m ∷ c) = (is_front f h ≡ true) × (is_front f m ≡ true) × InFronts f c

same_front : (f : Code) (t m : ℕ) → (t == m) ≡ true → is_front f m ≡ true → is_front f t ≡ true
same_front f t m e h = ap (is_front f) (equal_true t m e) ∙ h

loop_exit : (f : Code) (c : Context) (t : ℕ) → InFronts f c → leaves_loop c t ≡ true → is_front f t ≡ true
loop_exit f [] t in_fronts x = absurd (cc (x))
loop_exit f (InSelection m ∷ c) t in_fronts x = loop_exit f c t in_fronts.1 x
loop_exit f (InArm h m a ∷ c) t in_fronts x = loop_exit f c t in_fronts.1 x
loop_exit f (InBody h m n ∷ c) t in_fronts x = elim (either_holds (t == m) (t == n) x) [
  | inl e ↦ same_front f t m e in_fronts.0
  | inr e ↦ same_front f t n e in_fronts.1
]
loop_exit f (InNext h m ∷ c) t in_fronts x = absurd (cc (x))

switch_exit : (f : Code) (c : Context) (t : ℕ) → InFronts f c → leaves_switch c t ≡ true → is_front f t ≡ true
switch_exit f [] t in_fronts x = absurd (cc (x))
switch_exit f (InSelection m ∷ c) t in_fronts x = switch_exit f c t in_fronts.1 x
switch_exit f (InArm h m a ∷ c) t in_fronts x = same_front f t m x in_fronts.0
switch_exit f (InBody h m n ∷ c) t in_fronts x = absurd (cc (x))
switch_exit f (InNext h m ∷ c) t in_fronts x = absurd (cc (x))

inner_exit : (f : Code) (c : Context) (e : End) (t : ℕ) → InFronts f c → leaves_inner c e t ≡ true → is_front f t ≡ true
inner_exit f [] e t in_fronts x = absurd (cc (x))
inner_exit f (InSelection m ∷ c) e t in_fronts x = same_front f t m x in_fronts.0
inner_exit f (InArm h m a ∷ c) e t in_fronts x = same_front f t m x in_fronts.0
inner_exit f (InBody h m n ∷ c) e t in_fronts x = absurd (cc (x))
inner_exit f (InNext h m ∷ c) e t in_fronts x = elim (either_holds (t == h) (t == m && is_back_pair h m e) x) [
  | inl y ↦ same_front f t h y in_fronts.0
  | inr y ↦ same_front f t m (both_left (t == m) (is_back_pair h m e) y) in_fronts.1
]

exit_front : (f : Code) (c : Context) (e : End) (t : ℕ) → InFronts f c → is_exit c e t ≡ true → is_front f t ≡ true
exit_front f c e t in_fronts x = elim (either_holds (leaves_inner c e t || leaves_switch c t) (leaves_loop c t) x) [
  | inr y ↦ loop_exit f c t in_fronts y
  | inl y ↦ elim (either_holds (leaves_inner c e t) (leaves_switch c t) y) [
    | inl z ↦ inner_exit f c e t in_fronts z
    | inr z ↦ switch_exit f c t in_fronts z
  ]
]

opened_block : (o : Option Block) (k : Construct) → of_block (λ b. last_opens b.end b.body) None o ≡ Some k → (b : Block) × (o ≡ Some b)
opened_block None k h = absurd (cc (h))
opened_block (Some b) k h = (b, refl)

some_same : (a b : Block) → Some a ≡ Some b → a ≡ b
some_same a b e = cc

branch_same : (t u : ℕ) → Branch t ≡ Branch u → t ≡ u
branch_same t u e = cc

loop_next : (k : Option Construct) (n : ℕ) → next_of k ≡ Some n → is_loop k ≡ true
loop_next None n e = absurd (cc (e))
loop_next (Some (ASelection m)) n e = absurd (cc (e))
loop_next (Some (ASwitch m)) n e = absurd (cc (e))
loop_next (Some (ALoop m c)) n e = refl

pub stop_front : (f : Code) (t : ℕ) → stops f t ≡ true → is_front f t ≡ true
stop_front f t stop = right_holds (not (names f t == 0)) (is_loop (construct f t)) (loop_next (construct f t) t (stops_next f t stop))

found_block : (o : Option Block) → is_some_block o ≡ true → (b : Block) × (o ≡ Some b)
found_block None h = absurd (cc (h))
found_block (Some b) h = (b, refl)

pub label_block : (f : Code) (l : ℕ) → is_label f l ≡ true → (b : Block) × (block f l ≡ Some b)
label_block f l h = found_block (block f l) h

-- while the chain of h is followed up to the block `last`, k blocks far
pub record IsFollowing (f : Code) (h k last : ℕ) (old stays : BTreeMap ℕ ℕ) : Type 0 where
  pub chain : Chain f h last
  pub steps : ℕ
  pub context : Context
  pub path : Path f steps last context
  pub deep : k ≤ steps
  pub before : (l t : ℕ) → Chain f h l → joins f l t ≡ true → (get nat_cmp stays t ≡ Some h) ⊎ Chain f last l
  pub off : (t : ℕ) → (get nat_cmp stays t ≡ get nat_cmp old t) ⊎ ((get nat_cmp stays t ≡ Some h) × IsBehind f h t)

module _ (f : Code) (clean : IsClean no_pointers f) where
  merge_front : (b m : ℕ) (c : Context) (k : Construct) → Walk f b c → construct f b ≡ Some k → merge_of (Some k) ≡ Some m → is_front f m ≡ true
  merge_front b m c k walk e h =
      let found = opened_block (block f b) k e in
      role_front f b m ((clean_is_settled no_pointers f clean b c found.0 walk found.1).merge m (ap merge_of e ∙ h))

  next_front : (b n : ℕ) (c : Context) (k : Construct) → Walk f b c → construct f b ≡ Some k → next_of (Some k) ≡ Some n → is_front f n ≡ true
  next_front b n c k walk e h =
      let found = opened_block (block f b) k e in
      role_front f b n ((clean_is_settled no_pointers f clean b c found.0 walk found.1).next n (ap next_of e ∙ h))

  behind_fronts : (b t : ℕ) (c : Context) (k : Option Construct) → construct f b ≡ k → Walk f b c → InFronts f c → InFronts f (behind k b t c)
  behind_fronts b t c None e walk fronts = fronts
  behind_fronts b t c (Some (ASelection m)) e walk fronts = (merge_front b m c (ASelection m) walk e refl, fronts)
  behind_fronts b t c (Some (ASwitch m)) e walk fronts = (merge_front b m c (ASwitch m) walk e refl, fronts)
  behind_fronts b t c (Some (ALoop m n)) e walk fronts = (merge_front b m c (ALoop m n) walk e refl, next_front b n c (ALoop m n) walk e refl, fronts)

  next_fronts : (b : ℕ) (c : Context) (k : Option Construct) → construct f b ≡ k → Walk f b c → InFronts f c → InFronts f (next_context k b c)
  next_fronts b c None e walk fronts = fronts
  next_fronts b c (Some (ASelection m)) e walk fronts = fronts
  next_fronts b c (Some (ASwitch m)) e walk fronts = fronts
  next_fronts b c (Some (ALoop m n)) e walk fronts = (loop_front f b m n e, merge_front b m c (ALoop m n) walk e refl, fronts)

  pub walk_fronts : (l : ℕ) (c : Context) → Walk f l c → InFronts f c
  walk_fronts l _ (Starts _ first) = tt
  walk_fronts l _ (Entered b _ c walk tried enters) = behind_fronts b l c (construct f b) refl walk (walk_fronts b c walk)
  walk_fronts l _ (Stopped b _ c walk tried stop) = behind_fronts b l c (construct f b) refl walk (walk_fronts b c walk)
  walk_fronts l _ (Merged b _ c walk runs merge role) = walk_fronts b c walk
  walk_fronts l _ (Continued b _ c walk runs next role) = next_fronts b c (construct f b) refl walk (walk_fronts b c walk)

  -- ---- a block goes on to the one that is joined with it

  pub record Step (l t : ℕ) (c : Context) : Type 0 where
    pub tried : tries f l c t ≡ true
    pub enters : Enters f l t
    pub same : behind (construct f l) l t c ≡ c

  pub join_step : (l t : ℕ) (c : Context) → Walk f l c → joins f l t ≡ true → Step l t c
  join_step l t c walk h =
      let j = joins_are f l t h in
      let branch : branches f l t ≡ true =
      ap (λ o. has (of_block (λ b. end_targets b.end) [] o) t) j.found ∙ ap (λ e. has (end_targets e) t) j.branch ∙ left_holds (t == t) false (true_equal t t refl) in
      elim ((clean_is_settled no_pointers f clean l c j.ended walk j.found).leads t branch) [
        | inl x ↦ absurd (truth_apart (is_front f t) (exit_front f (behind (construct f l) l t c) j.ended.end t (behind_fronts l t c (construct f l) refl walk (walk_fronts l c walk)) x) j.plain)
        | inr e ↦ record { tried = e.tried; enters = e.enters; same = ap (λ k. behind k l t c) j.bare }
      ]

  join_walked : (l t : ℕ) → joins f l t ≡ true → (c : Context) × Walk f l c
  join_walked l t h = let j = joins_are f l t h in clean.walked l j.ended j.found

  pub join_path : (n l t : ℕ) (c : Context) → Path f n l c → joins f l t ≡ true → Path f (n + 1) t c
  join_path n l t c path h =
      let step = join_step l t c (path_is_walked f n l c path) h in
      subst (Path f (n + 1) t) step.same (Onward path (StepEntered t step.tried step.enters))

  -- each block is joined with one alone
  pub join_unique : (l p t : ℕ) → joins f l t ≡ true → joins f p t ≡ true → l ≡ p
  join_unique l p t h g =
      let a = join_walked l t h in
      let b = join_walked p t g in
      (join_step p t b.0 b.1 g).enters.one l (join_step l t a.0 a.1 h).enters.counted

  pub target_unique : (l t u : ℕ) → joins f l t ≡ true → joins f l u ≡ true → t ≡ u
  target_unique l t u h g =
      let a = joins_are f l t h in
      let b = joins_are f l u g in
      let same : a.ended ≡ b.ended = some_same a.ended b.ended (sym a.found ∙ b.found) in
      branch_same t u (sym a.branch ∙ ap (λ (b : Block). b.end) same ∙ b.branch)

  pub join_label : (l t : ℕ) → joins f l t ≡ true → is_label f l ≡ true
  join_label l t h = ap is_some_block (joins_are f l t h).found

  -- ---- heads

  pub split : (a l : ℕ) → Chain f a l → (a ≡ l) ⊎ ((x : ℕ) × (joins f a x ≡ true) × Chain f x l)
  split a _ chain.Alone = inl refl
  split a _ (chain.Onward l t before joined) = elim (split a l before) [
    | inl e ↦ inr (t, ap (λ z. joins f z t) e ∙ joined, chain.Alone)
    | inr x ↦ inr (x.0, x.1, chain.Onward l t x.2 joined)
  ]

  pub one_head : (h g l m : ℕ) → l ≡ m → IsHead f h → IsHead f g → Chain f h l → Chain f g m → h ≡ g
  one_head h g _ _ e a b chain.Alone chain.Alone = e
  one_head h g _ _ e a b chain.Alone (chain.Onward l t before joined) = absurd (a l (ap (joins f l) e ∙ joined))
  one_head h g _ _ e a b (chain.Onward l t before joined) chain.Alone = absurd (b l (ap (joins f l) (sym e) ∙ joined))
  one_head h g _ _ e a b (chain.Onward l t before joined) (chain.Onward m u behind_it joins_it) =
      one_head h g l m (join_unique l m t joined (ap (joins f m) e ∙ joins_it)) a b before behind_it

  -- the head of a block
  pub record HasHead (l : ℕ) : Type 0 where
    pub head : ℕ
    pub is_head : IsHead f head
    pub chain : Chain f head l

  no_join : (b q t : ℕ) (c d : Context) → Steps f b c t d → joins f b t ≡ false → joins f q t ≡ true → ⊥
  no_join b q _ c _ (StepEntered t tried enters) n h =
      let a = join_walked q t h in
      let same = (join_step q t a.0 a.1 h).enters.one b enters.counted in
      truth_apart (joins f b t) (ap (λ z. joins f z t) same ∙ h) n
  no_join b q _ c _ (StepStopped t tried stop) n h = truth_apart (is_front f t) (stop_front f t stop) (joins_are f q t h).plain
  no_join b q _ c _ (StepMerged m runs merge role) n h = truth_apart (is_front f m) (role_front f b m role) (joins_are f q m h).plain
  no_join b q _ c _ (StepContinued m runs next role) n h = truth_apart (is_front f m) (role_front f b m role) (joins_are f q m h).plain

  pub head_of : (n l : ℕ) (c : Context) → Path f n l c → HasHead l
  head_of _ l _ (Begins first) = record {
    head = l;
    is_head = λ p h. let a = join_walked p l h in truth_apart (is_first f l) first (goes_not_first f p l (join_step p l a.0 a.1 h).enters.free);
    chain = chain.Alone;
  }
  head_of _ _ _ (Onward {n} {b} {t} {c} {d} path step) = elim (tells (joins f b t)) [
    | inl h ↦ let before = head_of n b c path in record { head = before.head; is_head = before.is_head; chain = chain.Onward b t before.chain h }
    | inr h ↦ record { head = t; is_head = λ q g. no_join b q t c d step h g; chain = chain.Alone }
  ]

  -- ---- following a chain

  pub following_begins : (h last : ℕ) (stays : BTreeMap ℕ ℕ) → last ≡ h → is_label f h ≡ true → IsFollowing f h 0 last stays stays
  following_begins h last stays e is =
      let found = label_block f h is in
      let walked = clean.walked h found.0 found.1 in
      let path = path_of_walk f h walked.0 walked.1 in
      subst (λ z. IsFollowing f h 0 z stays stays) (sym e) (record {
        chain = chain.Alone;
        steps = path.0;
        context = walked.0;
        path = path.1;
        deep = omega arith;
        before = λ l t c j. inr c;
        off = λ t. inl refl;
      })

  put_some : (t : Bool) (h : ℕ) (o : Option ℕ) → o ≡ Some h → cond t (Some h) o ≡ Some h
  put_some true h o e = refl
  put_some false h o e = e

  put_off : (h last next t : ℕ) (o old : Option ℕ) → Chain f h last → joins f last next ≡ true → (o ≡ old) ⊎ ((o ≡ Some h) × IsBehind f h t)
      → (cond (next == t) (Some h) o ≡ old) ⊎ ((cond (next == t) (Some h) o ≡ Some h) × IsBehind f h t)
  put_off h last next t o old c j off = elim (tells (next == t)) [
    | inl e ↦ inr (rw e refl, record { before = last; chain = c; joined = ap (joins f last) (sym (equal_true next t e)) ∙ j })
    | inr e ↦ elim off [
      | inl same ↦ inl (rw e same)
      | inr x ↦ inr (rw e x.0, x.1)
    ]
  ]

  pub following_on : (h k last next : ℕ) (old stays new : BTreeMap ℕ ℕ) → IsFollowing f h k last old stays → joins f last next ≡ true → Puts stays new next h
      → IsFollowing f h (k + 1) next old new
  following_on h k last next old stays new following j puts = record {
    chain = chain.Onward last next following.chain j;
    steps = following.steps + 1;
    context = following.context;
    path = join_path following.steps last next following.context following.path j;
    deep = let deep = following.deep in omega arith;
    before = λ l t c g. elim (following.before l t c g) [
      | inl e ↦ inl (puts.at t ∙ put_some (next == t) h (get nat_cmp stays t) e)
      | inr onward ↦ elim (split last l onward) [
        | inl e ↦
            let same = target_unique last next t j (ap (λ z. joins f z t) e ∙ g) in
            let true_same = true_equal next t same in
            inl (puts.at t ∙ rw true_same refl)
        | inr x ↦ inr (subst (λ z. Chain f z l) (target_unique last x.0 next x.1 j) x.2)
      ]
    ];
    off = λ t. subst (λ (o : Option ℕ). (o ≡ get nat_cmp old t) ⊎ ((o ≡ Some h) × IsBehind f h t)) (sym (puts.at t)) (put_off h last next t (get nat_cmp stays t) (get nat_cmp old t) following.chain j (following.off t));
  }

  pub following_ends : (h k last : ℕ) (old stays : BTreeMap ℕ ℕ) → IsFollowing f h k last old stays → ((t : ℕ) → joins f last t ≡ false) → Follows f h old stays
  following_ends h k last old stays following none = record {
    on = λ l t c g. elim (following.before l t c g) [
      | inl e ↦ e
      | inr onward ↦ elim (split last l onward) [
        | inl e ↦ absurd (truth_apart (joins f last t) (ap (λ z. joins f z t) e ∙ g) (none t))
        | inr x ↦ absurd (truth_apart (joins f last x.0) x.1 (none x.0))
      ]
    ];
    off = following.off;
  }

  pub following_short : (h k last : ℕ) (old stays : BTreeMap ℕ ℕ) → IsFollowing f h k last old stays → length f ≤ k → ⊥
  following_short h k last old stays following past =
      let short = paths_are_short no_pointers f clean following.steps last following.context following.path in
      let deep = following.deep in
      omega arith
