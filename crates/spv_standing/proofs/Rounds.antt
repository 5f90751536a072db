-- The constructs round a walked block: their labels are fronts of blocks, exits go to them, and a block that is no front has one predecessor.
use Rattle.std.proofs.Common.{◌≡◌, ℕ, ◌⊎◌, inl, inr, true, false, not, ◌==◌, ◌&&◌, ◌||◌, List, [], ◌∷◌, Option, Some, None, refl, sym, ap, subst, ◌∙◌}
use Rattle.spv_blocks.specs.Blocks.{Code, Block, Construct, ASelection, ASwitch, ALoop, End, block, of_block, branches, construct, merge_of, next_of, is_role, is_label, is_some_block, is_first, goes, names, last_opens}
use Rattle.spv_walk.specs.Contexts.{Context, InSelection, InArm, InBody, InNext, behind, next_context, is_exit, leaves_loop, leaves_switch, leaves_inner, is_back_pair}
use Rattle.spv_walk.specs.Walk.{Walk, Starts, Entered, Stopped, Merged, Continued, Enters}
use Rattle.spv_walk.proofs.Unique.{both_left, both_right, equal_true, either_holds, right_holds, role_label, role_once}
use Rattle.spv_normal.specs.Order.{is_front, is_loop}
use Rattle.spv_spelling.specs.Clean.{IsClean, no_pointers, IsSettled, EntersIn}
use Rattle.spv_spelling.proofs.Settled.{clean_is_settled}
use Rattle.spv_trees.specs.Standing.{OneOf}

-- the labels of the constructs round a place to which it may leave
abbrev pub round : Context → List ℕ
round [] = []
round (InSelection m ∷ c) = m ∷ round c
round (InArm h m a ∷ c) = m ∷ round c
round (InBody h m n ∷ c) = n ∷ h ∷ m ∷ round c
round (InNext h m ∷ c) = h ∷ m ∷ round c

-- ---- exits go to them

loop_round : (c : Context) (t : ℕ) → leaves_loop c t ≡ true → OneOf t (round c)
loop_round [] t h = absurd (cc h)
loop_round (InSelection m ∷ c) t h = inr (loop_round c t h)
loop_round (InArm g m a ∷ c) t h = inr (loop_round c t h)
loop_round (InBody g m n ∷ c) t h = elim (either_holds (t == m) (t == n) h) [ inl e ↦ inr (inr (inl (equal_true t m e))) | inr e ↦ inl (equal_true t n e) ]
loop_round (InNext g m ∷ c) t h = absurd (cc h)

switch_round : (c : Context) (t : ℕ) → leaves_switch c t ≡ true → OneOf t (round c)
switch_round [] t h = absurd (cc h)
switch_round (InSelection m ∷ c) t h = inr (switch_round c t h)
switch_round (InArm g m a ∷ c) t h = inl (equal_true t m h)
switch_round (InBody g m n ∷ c) t h = absurd (cc h)
switch_round (InNext g m ∷ c) t h = absurd (cc h)

inner_round : (c : Context) (e : End) (t : ℕ) → leaves_inner c e t ≡ true → OneOf t (round c)
inner_round [] e t h = absurd (cc h)
inner_round (InSelection m ∷ c) e t h = inl (equal_true t m h)
inner_round (InArm g m a ∷ c) e t h = inl (equal_true t m h)
inner_round (InBody g m n ∷ c) e t h = absurd (cc h)
inner_round (InNext g m ∷ c) e t h =
    elim (either_holds (t == g) (t == m && is_back_pair g m e) h) [
      | inl k ↦ inl (equal_true t g k)
      | inr k ↦ inr
          (inl (equal_true t m (both_left (t == m) (is_back_pair g m e) k)))
    ]

pub exit_round : (c : Context) (e : End) (t : ℕ) → is_exit c e t ≡ true → OneOf t (round c)
exit_round c e t h =
    elim (either_holds (leaves_inner c e t || leaves_switch c t) (leaves_loop c t) h) [
      | inl g ↦ elim (either_holds (leaves_inner c e t) (leaves_switch c t) g) [ inl k ↦ inner_round c e t k | inr k ↦ switch_round c t k ]
      | inr g ↦ loop_round c t g
    ]

-- ---- blocks

pub record HasBlock (f : Code) (l : ℕ) : Type 0 where
  pub block_of : Block
  pub found : block f l ≡ Some block_of

label_block_by : (f : Code) (l : ℕ) (o : Option Block) → block f l ≡ o → is_label f l ≡ true → HasBlock f l
label_block_by f l None e h = absurd (cc (e, h))
label_block_by f l (Some b) e h = record { block_of = b; found = e }

pub label_block : (f : Code) (l : ℕ) → is_label f l ≡ true → HasBlock f l
label_block f l h = label_block_by f l (block f l) refl h

branch_block_by : (f : Code) (l t : ℕ) (o : Option Block) → block f l ≡ o → branches f l t ≡ true → HasBlock f l
branch_block_by f l t None e h = absurd (cc (e, h))
branch_block_by f l t (Some b) e h = record { block_of = b; found = e }

pub branch_block : (f : Code) (l t : ℕ) → branches f l t ≡ true → HasBlock f l
branch_block f l t h = branch_block_by f l t (block f l) refl h

pub goes_label : (f : Code) (b t : ℕ) → goes f b t ≡ true → is_label f t ≡ true
goes_label f b t g =
    both_right (branches f b t) (is_label f t) (both_left (branches f b t && is_label f t) (not (is_first f t))
    (both_left (branches f b t && is_label f t && not (is_first f t)) (names f t == 0) g))

construct_block_by : (f : Code) (l : ℕ) (k : Construct) (o : Option Block) → block f l ≡ o → construct f l ≡ Some k → HasBlock f l
construct_block_by f l k None e h = absurd (cc (ap (λ p. of_block (λ b. last_opens b.end b.body) None p) e, h))
construct_block_by f l k (Some b) e h = record { block_of = b; found = e }

pub construct_block : (f : Code) (l : ℕ) (k : Construct) → construct f l ≡ Some k → HasBlock f l
construct_block f l k h = construct_block_by f l k (block f l) refl h

block_label : (f : Code) (l : ℕ) → HasBlock f l → is_label f l ≡ true
block_label f l b = ap is_some_block b.found

-- ---- fronts

-- the label of a front
pub record IsRound (f : Code) (t : ℕ) : Type 0 where
  pub label : is_label f t ≡ true
  pub front : is_front f t ≡ true

role_round : (f : Code) (h l : ℕ) → is_role f h l ≡ true → IsRound f l
role_round f h l r = record { label = role_label f h l r; front = ap (λ n. not (n == 0) || is_loop (construct f l)) (role_once f h l r) }

header_round : (f : Code) (h m n : ℕ) → construct f h ≡ Some (ALoop m n) → IsRound f h
header_round f h m n e = record {
  label = block_label f h (construct_block f h (ALoop m n) e);
  front = right_holds (not (names f h == 0)) (is_loop (construct f h)) (ap is_loop e);
}

abbrev AllRound : Code → Context → Type 0
AllRound f c = (t : ℕ) → OneOf t (round c) → IsRound f t

here_or_round : (f : Code) (x : ℕ) (xs : List ℕ) → IsRound f x → ((t : ℕ) → OneOf t xs → IsRound f t) → (t : ℕ) → OneOf t (x ∷ xs) → IsRound f t
here_or_round f x xs h g t (inl e) = subst (IsRound f) (sym e) h
here_or_round f x xs h g t (inr o) = g t o

-- ---- a function in which nothing is broken

module _ (f : Code) (clean : IsClean no_pointers f) where
  pub settles : (l : ℕ) (c : Context) → Walk f l c → (b : HasBlock f l) → IsSettled no_pointers f l c b.block_of
  settles l c w b = clean_is_settled no_pointers f clean l c b.block_of w b.found

  pub merge_role : (l m : ℕ) (c : Context) (k : Construct) → Walk f l c → construct f l ≡ Some k → merge_of (Some k) ≡ Some m → is_role f l m ≡ true
  merge_role l m c k w e g = (settles l c w (construct_block f l k e)).merge m (ap merge_of e ∙ g)

  pub next_role : (l n : ℕ) (c : Context) (k : Construct) → Walk f l c → construct f l ≡ Some k → next_of (Some k) ≡ Some n → is_role f l n ≡ true
  next_role l n c k w e g = (settles l c w (construct_block f l k e)).next n (ap next_of e ∙ g)

  -- behind a merge instruction
  behind_by : (l t : ℕ) (c : Context) (o : Option Construct) → construct f l ≡ o → Walk f l c → AllRound f c → AllRound f (behind o l t c)
  behind_by l t c None e w h = h
  behind_by l t c (Some (ASelection m)) e w h = here_or_round f m (round c) (role_round f l m (merge_role l m c (ASelection m) w e refl)) h
  behind_by l t c (Some (ASwitch m)) e w h = here_or_round f m (round c) (role_round f l m (merge_role l m c (ASwitch m) w e refl)) h
  behind_by l t c (Some (ALoop m n)) e w h =
      here_or_round f n (l ∷ m ∷ round c) (role_round f l n (next_role l n c (ALoop m n) w e refl))
      (here_or_round f l (m ∷ round c) (header_round f l m n e)
      (here_or_round f m (round c) (role_round f l m (merge_role l m c (ALoop m n) w e refl)) h))

  next_by : (l : ℕ) (c : Context) (o : Option Construct) → construct f l ≡ o → Walk f l c → AllRound f c → AllRound f (next_context o l c)
  next_by l c None e w h = h
  next_by l c (Some (ASelection m)) e w h = h
  next_by l c (Some (ASwitch m)) e w h = h
  next_by l c (Some (ALoop m n)) e w h =
      here_or_round f l (m ∷ round c) (header_round f l m n e) (here_or_round f m (round c) (role_round f l m (merge_role l m c (ALoop m n) w e refl)) h)

  -- by induction on the walk
  pub walk_round : (l : ℕ) (c : Context) → Walk f l c → AllRound f c
  walk_round l c (Starts l2 e) = λ t o. absurd o
  walk_round l c (Entered b t d w k e) = behind_by b t d (construct f b) refl w (walk_round b d w)
  walk_round l c (Stopped b t d w k e) = behind_by b t d (construct f b) refl w (walk_round b d w)
  walk_round l c (Merged b m d w s e r) = walk_round b d w
  walk_round l c (Continued b n d w s e r) = next_by b d (construct f b) refl w (walk_round b d w)

  pub behind_round : (l t : ℕ) (c : Context) → Walk f l c → AllRound f (behind (construct f l) l t c)
  behind_round l t c w = behind_by l t c (construct f l) refl w (walk_round l c w)

  -- ---- a block that is no front is branched to from where it is entered alone

  one_by : (l t q : ℕ) (c : Context) (b : Block) → Walk f q c → Enters f l t → is_front f t ≡ false
      → (is_exit (behind (construct f q) q t c) b.end t ≡ true) ⊎ EntersIn f q c b t → q ≡ l
  one_by l t q c b w e h (inl g) = absurd (cc ((behind_round q t c w t (exit_round (behind (construct f q) q t c) b.end t g)).front, h))
  one_by l t q c b w e h (inr g) = sym (g.enters.one l e.counted)

  pub one_predecessor : (l t q : ℕ) → Enters f l t → is_front f t ≡ false → branches f q t ≡ true → q ≡ l
  one_predecessor l t q e h go =
      let b = branch_block f q t go in
      let w = clean.walked q b.block_of b.found in
      one_by l t q w.0 b.block_of w.1 e h ((settles q w.0 w.1 b).leads t go)
