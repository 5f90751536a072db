-- The label that stays for a block: that of the first of the blocks that are joined with it.
use Rattle.std.proofs.Common.{◌≡◌, ◌⊎◌, inl, inr, ℕ, Bool, true, false, not, ◌&&◌, ◌==◌, List, [], ◌∷◌, ◌++◌, map, Option, Some, None, is_none, refl, sym, ap, subst, ◌∙◌, arith}
use Rattle.std.specs.Option.{option_map}
use Rattle.spv_blocks.specs.Blocks.{Code, Block, Construct, End, Branch, BranchIf, Switch, Return, Unreachable, Open, block, branches, construct, end_targets, has, is_label, is_some_block, names, of_block, stops, targets}
use Rattle.spv_walk.specs.Contexts.{Context, behind, is_exit}
use Rattle.spv_walk.specs.Walk.{Enters, Walk, Starts, Entered, Stopped, Merged, Continued, end_of}
use Rattle.spv_walk.proofs.Unique.{tells, truth_apart, both_left, both_right, both_hold, not_true, not_false, equal_true, true_equal, left_holds, right_holds, goes_not_first, role_once, one_enterer}
use Rattle.spv_spelling.specs.Clean.{IsClean}
use Rattle.spv_spelling.proofs.Settled.{settled}
use Rattle.spv_normal.specs.Order.{is_branch_to, is_front, is_loop, joins, label_behind, with_labels}
use Rattle.spv_normal_trees.proofs.Members.{Distinct, has_cons, has_head, has_tail, has_nothing}
use Rattle.spv_normal_trees.proofs.Regions.{Region, region, Way, leaf, comes, enters, Ways, nowhere, more, Parts, bare, selection, switch, loop, of_region, of_way, of_ways, of_parts}
use Rattle.spv_normal_trees.proofs.Leaving.{leads_front}

-- ---- joined blocks

branch_target : (e : End) (t : ℕ) → is_branch_to t e ≡ true → end_targets e ≡ t ∷ []
branch_target (Branch u) t h = ap (λ j. j ∷ []) (equal_true u t h)
branch_target (BranchIf a b) t h = truth_apart false h refl
branch_target (Switch d ps) t h = truth_apart false h refl
branch_target Return t h = truth_apart false h refl
branch_target Unreachable t h = truth_apart false h refl
branch_target Open t h = truth_apart false h refl

is_branch_in : (o : Option Block) (t : ℕ) → of_block (λ b. is_branch_to t b.end) false o ≡ true → of_block (λ b. end_targets b.end) [] o ≡ t ∷ []
is_branch_in None t h = truth_apart false h refl
is_branch_in (Some b) t h = branch_target b.end t h

pub joins_branch : (f : Code) (l t : ℕ) → joins f l t ≡ true → targets f l ≡ t ∷ []
joins_branch f l t h =
    is_branch_in (block f l) t (both_left (of_block (λ b. is_branch_to t b.end) false (block f l)) (is_none (construct f l))
    (both_left (of_block (λ b. is_branch_to t b.end) false (block f l) && is_none (construct f l)) (not (is_front f t)) h))

none_is : {A : Type 0} (o : Option A) → is_none o ≡ true → o ≡ None
none_is None h = refl
none_is (Some x) h = truth_apart false h refl

pub joins_bare : (f : Code) (l t : ℕ) → joins f l t ≡ true → construct f l ≡ None
joins_bare f l t h =
    none_is (construct f l) (both_right (of_block (λ b. is_branch_to t b.end) false (block f l)) (is_none (construct f l))
    (both_left (of_block (λ b. is_branch_to t b.end) false (block f l) && is_none (construct f l)) (not (is_front f t)) h))

pub joins_not_front : (f : Code) (l t : ℕ) → joins f l t ≡ true → is_front f t ≡ false
joins_not_front f l t h =
    not_true (is_front f t) (both_right (of_block (λ b. is_branch_to t b.end) false (block f l) && is_none (construct f l)) (not (is_front f t)) h)

not_front_unnamed : (f : Code) (t : ℕ) → is_front f t ≡ false → names f t ≡ 0
not_front_unnamed f t h = elim (tells (names f t == 0)) [
  | inl e ↦ equal_true (names f t) 0 e
  | inr e ↦ truth_apart (is_front f t) (left_holds (not (names f t == 0)) (is_loop (construct f t)) (not_false (names f t == 0) e)) h
]

pub joins_once : (f : Code) (l t u : ℕ) → joins f l t ≡ true → joins f l u ≡ true → t ≡ u
joins_once f l t u h g = ap (λ z. elim z [ [] ↦ t | x ∷ xs ↦ x ]) (sym (joins_branch f l t h) ∙ joins_branch f l u g)

-- a block that joins one names no second
not_two : (f : Code) (l t u : ℕ) (ts : List ℕ) → Distinct (t ∷ ts) → ((x : ℕ) → has (t ∷ ts) x ≡ true → has (targets f l) x ≡ true) → has ts u ≡ true
    → joins f l u ≡ true → ⊥
not_two f l t u ts d only k j = elim (has_cons u [] t (subst (λ z. has z t ≡ true) (joins_branch f l u j) (only t (has_head t ts t refl)))) [
  | inl e ↦ truth_apart (has ts t) (subst (λ i. has ts i ≡ true) e k) d.0
  | inr e ↦ has_nothing t e
]

-- no block joins t
abbrev pub IsFree : Code → ℕ → Type 0
IsFree f t = (l : ℕ) → joins f l t ≡ true → ⊥

pub front_free : (f : Code) (t : ℕ) → is_front f t ≡ true → IsFree f t
front_free f t h l j = truth_apart (is_front f t) h (joins_not_front f l t j)

-- from s block after block is joined, up to p
pub data Onwards (f : Code) : (s p : ℕ) → Type 0 where
  stop : {s : ℕ} → Onwards f s s
  on : {s t p : ℕ} → joins f s t ≡ true → Onwards f t p → Onwards f s p

onwards_more : (f : Code) (s l t : ℕ) → Onwards f s l → joins f l t ≡ true → Onwards f s t
onwards_more f s l t stop j = on j stop
onwards_more f s l t (on {t = u} i rest) j = on i (onwards_more f u l t rest j)

-- two that join nothing are one
pub same_end : (f : Code) (s p q : ℕ) → Onwards f s p → Onwards f s q → ((t : ℕ) → joins f p t ≡ true → ⊥) → ((t : ℕ) → joins f q t ≡ true → ⊥) → p ≡ q
same_end f s p q stop stop a b = refl
same_end f s p q stop (on {t = t} j rest) a b = absurd (a t j)
same_end f s p q (on {t = t} j rest) stop a b = absurd (b t j)
same_end f s p q (on {t = t} j rest) (on {t = u} i onward) a b = same_end f t p q rest (subst (λ k. Onwards f k q) (joins_once f s u t i j) onward) a b

label_in : (o : Option Block) (t : ℕ) → of_block (λ b. end_targets b.end) [] o ≡ t ∷ [] → (b : Block) × (o ≡ Some b)
label_in None t h = absurd (cc)
label_in (Some b) t h = (b, refl)

pub branches_joined : (f : Code) (l t : ℕ) → joins f l t ≡ true → branches f l t ≡ true
branches_joined f l t j = ap (λ z. has z t) (joins_branch f l t j) ∙ has_head t [] t refl

branch_of : (o : Option Block) (t : ℕ) → of_block (λ b. is_branch_to t b.end) false o ≡ is_branch_to t (of_block (λ b. b.end) Open o)
branch_of None t = refl
branch_of (Some b) t = refl

pub joins_from : (f : Code) (l t : ℕ) → end_of f l ≡ Branch t → construct f l ≡ None → is_front f t ≡ false → joins f l t ≡ true
joins_from f l t e is front =
    both_hold (of_block (λ b. is_branch_to t b.end) false (block f l) && is_none (construct f l)) (not (is_front f t))
    (both_hold (of_block (λ b. is_branch_to t b.end) false (block f l)) (is_none (construct f l))
    (branch_of (block f l) t ∙ ap (is_branch_to t) e ∙ true_equal t t refl) (ap is_none is))
    (not_false (is_front f t) front)

pub joins_label : (f : Code) (l t : ℕ) → joins f l t ≡ true → is_label f l ≡ true
joins_label f l t j = ap is_some_block (label_in (block f l) t (joins_branch f l t j)).1

module _ (f : Code) (is_pointer : ℕ → Bool) (clean : IsClean is_pointer f) where
  -- what a block joins it enters: it is no exit, since that would be a front
  pub joins_enters : (l t : ℕ) → joins f l t ≡ true → Enters f l t
  joins_enters l t j =
      let at = label_in (block f l) t (joins_branch f l t j) in
      let walk = clean.walked l at.0 at.1 in
      elim ((settled is_pointer f clean l walk.0 at.0 walk.1 at.1).leads t (branches_joined f l t j)) [
        | inl out ↦ truth_apart (is_front f t)
            (leads_front f l walk.0 t walk.1 (ap (λ o. is_exit (behind (construct f l) l t walk.0) (of_block (λ b. b.end) Open o) t) at.1 ∙ out))
            (joins_not_front f l t j)
        | inr e ↦ e.enters
      ]

  -- a block that is entered from l and that l does not join is free
  pub entered_free : (l t : ℕ) → Enters f l t → joins f l t ≡ false → IsFree f t
  entered_free l t e n k j =
      truth_apart (joins f l t) (subst (λ i. joins f i t ≡ true) (one_enterer f k l t (joins_enters k t j) e) j) n

  named_free : (t : ℕ) → names f t ≡ 1 → IsFree f t
  named_free t e l j = let z = not_front_unnamed f t (joins_not_front f l t j) in absurd (omega arith)

  module _ (stays : ℕ → ℕ) (same : (l t : ℕ) → joins f l t ≡ true → stays t ≡ stays l) (own : (t : ℕ) → IsFree f t → stays t ≡ t)
      (runs : (l : ℕ) (c : Context) → Walk f l c → stops f l ≡ false) where
    pub record IsStaying (p : ℕ) : Type 0 where
      pub way : Onwards f (stays p) p
      pub free : IsFree f (stays p)

    free_staying : (p : ℕ) → IsFree f p → IsStaying p
    free_staying p h = record { way = subst (λ j. Onwards f j p) (sym (own p h)) stop; free = subst (λ j. IsFree f j) (sym (own p h)) h }

    -- by induction on the walk
    pub walked_staying : (p : ℕ) (c : Context) → Walk f p c → IsStaying p
    walked_staying p c (Starts i h) = free_staying p (λ l j. let e = joins_enters l p j in truth_apart _ h (goes_not_first f l p e.free))
    walked_staying p c (Entered b t d w x y) = elim (tells (joins f b p)) [
      | inl j ↦
          let r = walked_staying b d w in
          let s = sym (same b p j) in
          record { way = subst (λ k. Onwards f k p) s (onwards_more f (stays b) b p r.way j); free = subst (λ k. IsFree f k) s r.free }
      | inr j ↦ free_staying p (entered_free b p y j)
    ]
    walked_staying p c (Stopped b t d w x y) = truth_apart (stops f p) y (runs p c (Stopped b p d w x y))
    walked_staying p c (Merged b m d w x y z) = free_staying p (named_free p (role_once f b p z))
    walked_staying p c (Continued b n d w x y z) = free_staying p (named_free p (role_once f b p z))

    -- ---- labels in order

    -- l is joined with the block before, or free
    abbrev pub Comes : (before : Option ℕ) → ℕ → Type 0
    Comes None t = IsFree f t
    Comes (Some l) t = (joins f l t ≡ true) ⊎ IsFree f t

    abbrev pub Follows : (before : Option ℕ) → List ℕ → Type 0
    Follows before [] = Unit {0}
    Follows before (t ∷ ts) = Comes before t × Follows (Some t) ts

    follows_append : (before : Option ℕ) (xs ys : List ℕ) → Follows before xs → ((b : Option ℕ) → Follows b ys) → Follows before (xs ++ ys)
    follows_append before [] ys h g = g before
    follows_append before (x ∷ xs) ys h g = (h.0, follows_append (Some x) xs ys h.1 g)

    free_comes : (before : Option ℕ) (t : ℕ) → IsFree f t → Comes before t
    free_comes None t h = h
    free_comes (Some l) t h = inr h

    abbrev pub with_label : ℕ → ℕ × ℕ
    with_label l = (l, stays l)

    label_is : (before : Option ℕ) (t : ℕ) → Comes before t → label_behind f (option_map with_label before) t ≡ stays t
    label_is None t h = sym (own t h)
    label_is (Some l) t h = elim (tells (joins f l t)) [
      | inl j ↦ rw j (sym (same l t j))
      | inr j ↦ rw j (elim h [ inl g ↦ truth_apart (joins f l t) g j | inr g ↦ sym (own t g) ])
    ]

    pub labels_are : (before : Option ℕ) (ls : List ℕ) → Follows before ls → with_labels f (option_map with_label before) ls ≡ map with_label ls
    labels_are before [] h = refl
    labels_are before (l ∷ ls) h =
        ap (λ s. (l, s) ∷ with_labels f (Some (l, s)) ls) (label_is before l h.0) ∙ ap (λ z. with_label l ∷ z) (labels_are (Some l) ls h.1)

    module _ (Taken : (l t : ℕ) → List ℕ → Type 0) where
      mutual
        pub region_follows : {l : ℕ} {c : Context} (r : Region f Taken l c) (before : Option ℕ) → Comes before l → Follows before (of_region f Taken r)
        region_follows (region {l = l} is w a ways parts) before h = (
          h,
          follows_append (Some l) (of_ways f Taken ways) (of_parts f Taken parts)
              (ways_follow a.distinct a.only ways (Some l) (λ t k j. refl)) (λ b. parts_follow parts b),
        )

        pub way_follow : {l t : ℕ} {c : Context} (way : Way f Taken l c t) (before : Option ℕ) → (joins f l t ≡ true → before ≡ Some l)
            → Follows before (of_way f Taken way)
        way_follow (leaf out taken) before h = tt
        way_follow (comes {l = l} {t = t} onto is taken r) before h =
            region_follows r before (free_comes before t (front_free f t (right_holds (not (names f t == 0)) (is_loop (construct f t)) is)))
        way_follow (enters {l = l} {t = t} onto is r) before h = region_follows r before (elim (tells (joins f l t)) [
          | inl j ↦ subst (λ b. Comes b t) (sym (h j)) (inl j)
          | inr j ↦ free_comes before t (entered_free l t onto.enters j)
        ])

        pub ways_follow : {l : ℕ} {c : Context} {ts : List ℕ} → Distinct ts → ((t : ℕ) → has ts t ≡ true → has (targets f l) t ≡ true)
            → (ways : Ways f Taken l c ts)
            (before : Option ℕ) → ((t : ℕ) → has ts t ≡ true → joins f l t ≡ true → before ≡ Some l) → Follows before (of_ways f Taken ways)
        ways_follow d only nowhere before h = tt
        ways_follow d only (more {l = l} {t = t} {ts = ts} way ways) before h =
            follows_append before (of_way f Taken way) (of_ways f Taken ways)
            (way_follow way before (h t (has_head t ts t refl)))
            (λ b. ways_follow d.1 (λ u k. only u (has_tail t ts u k)) ways b (λ u k j. absurd (not_two f l t u ts d only k j)))

        pub parts_follow : {l : ℕ} {c : Context} {k : Option Construct} (parts : Parts f Taken l c k) (before : Option ℕ)
            → Follows before (of_parts f Taken parts)
        parts_follow bare before = tt
        parts_follow (selection {l = l} {m = m} role r) before = region_follows r before (free_comes before m (named_free m (role_once f l m role)))
        parts_follow (switch {l = l} {m = m} role r) before = region_follows r before (free_comes before m (named_free m (role_once f l m role)))
        parts_follow (loop {l = l} {m = m} {n = n} next_role role next r) before =
            follows_append before (of_region f Taken next) (of_region f Taken r)
            (region_follows next before (free_comes before n (named_free n (role_once f l n next_role))))
            (λ b. region_follows r b (free_comes b m (named_free m (role_once f l m role))))
