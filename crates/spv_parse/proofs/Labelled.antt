-- What branches name are labels: the exits of a block are labels of its context.
use Rattle.std.proofs.Common.{◌≡◌, inl, inr, ℕ, Bool, true, not, ◌==◌, ◌&&◌, ◌||◌, cond, [], ◌∷◌, Option, Some, None, refl, ap, ◌∙◌}
use Rattle.spv_blocks.specs.Blocks.{Code, Block, Construct, ASelection, ASwitch, ALoop, End, block, branches, construct, goes, is_first, is_label, is_some_block, merge_of, names, next_of, stops}
use Rattle.spv_walk.specs.Contexts.{Context, InSelection, InArm, InBody, InNext, behind, next_context, is_exit, is_back_pair, leaves_inner, leaves_switch, leaves_loop}
use Rattle.spv_walk.specs.Walk.{Walk, Starts, Entered, Stopped, Merged, Continued}
use Rattle.spv_walk.proofs.Unique.{truth_apart, both_left, both_right, either_holds, equal_true, role_label}
use Rattle.spv_spelling.specs.Clean.{IsClean}
use Rattle.spv_spelling.proofs.Settled.{walked_runs, clean_is_settled}

-- ---- labels have blocks

some_block : (o : Option Block) → is_some_block o ≡ true → (b : Block) × (o ≡ Some b)
some_block None h = absurd (cc (h))
some_block (Some b) h = (b, refl)

pub block_of_label : (f : Code) (l : ℕ) → is_label f l ≡ true → (b : Block) × (block f l ≡ Some b)
block_of_label f l h = some_block (block f l) h

pub goes_label : (f : Code) (b t : ℕ) → goes f b t ≡ true → is_label f t ≡ true
goes_label f b t g =
    both_right (branches f b t) (is_label f t) (both_left (branches f b t && is_label f t) (not (is_first f t))
    (both_left (branches f b t && is_label f t && not (is_first f t)) (names f t == 0) g))

pub first_is_label : (f : Code) (l : ℕ) → is_first f l ≡ true → is_label f l ≡ true
first_is_label [] l h = absurd (cc (h))
first_is_label (b ∷ bs) l h = ap (λ x. is_some_block (cond x (Some b) (block bs l))) h

-- each walked block is a label
pub walked_label : (is_pointer : ℕ → Bool) (f : Code) → IsClean is_pointer f → (l : ℕ) (c : Context) → Walk f l c → is_label f l ≡ true
walked_label is_pointer f clean l c (Starts k h) = first_is_label f l h
walked_label is_pointer f clean l c (Entered b t d w x y) = goes_label f b l y.free
walked_label is_pointer f clean l c (Stopped b t d w x y) = truth_apart (stops f l) y (walked_runs is_pointer f clean l c (Stopped b l d w x y))
walked_label is_pointer f clean l c (Merged b m d w x y z) = role_label f b l z
walked_label is_pointer f clean l c (Continued b n d w x y z) = role_label f b l z

-- ---- contexts of labels

abbrev pub AreLabels : Code → Context → Type 0
AreLabels f [] = Unit {0}
AreLabels f (InSelection m ∷ c) = (is_label f m ≡ true) × AreLabels f c
AreLabels f (InArm h m a ∷ c) = (is_label f m ≡ true) × AreLabels f c
AreLabels f (InBody h m n ∷ c) = (is_label f m ≡ true) × (is_label f n ≡ true) × AreLabels f c
AreLabels f (InNext h m ∷ c) = (is_label f h ≡ true) × (is_label f m ≡ true) × AreLabels f c

-- the construct k names labels
record NamesLabels (f : Code) (k : Option Construct) : Type 0 where
  merge : (m : ℕ) → merge_of k ≡ Some m → is_label f m ≡ true
  next : (n : ℕ) → next_of k ≡ Some n → is_label f n ≡ true

behind_labels : (f : Code) (k : Option Construct) (b t : ℕ) (c : Context) → NamesLabels f k → AreLabels f c → AreLabels f (behind k b t c)
behind_labels f None b t c names each = each
behind_labels f (Some (ASelection m)) b t c names each = (names.merge m refl, each)
behind_labels f (Some (ASwitch m)) b t c names each = (names.merge m refl, each)
behind_labels f (Some (ALoop m n)) b t c names each = (names.merge m refl, names.next n refl, each)

next_labels : (f : Code) (k : Option Construct) (b : ℕ) (c : Context) → NamesLabels f k → is_label f b ≡ true → AreLabels f c → AreLabels f (next_context k b c)
next_labels f None b c names label each = each
next_labels f (Some (ASelection m)) b c names label each = each
next_labels f (Some (ASwitch m)) b c names label each = each
next_labels f (Some (ALoop m n)) b c names label each = (label, names.merge m refl, each)

module _ (is_pointer : ℕ → Bool) (f : Code) (clean : IsClean is_pointer f) where
  names_labels : (l : ℕ) (c : Context) → Walk f l c → NamesLabels f (construct f l)
  names_labels l c w =
      let b = block_of_label f l (walked_label is_pointer f clean l c w) in
      let s = clean_is_settled is_pointer f clean l c b.0 w b.1 in
      record { merge = λ m e. role_label f l m (s.merge m e); next = λ n e. role_label f l n (s.next n e) }

  -- by induction on the walk
  walk_labels : (l : ℕ) (c : Context) → Walk f l c → AreLabels f c
  walk_labels l c (Starts k h) = tt
  walk_labels l c (Entered b t d w x y) = behind_labels f (construct f b) b l d (names_labels b d w) (walk_labels b d w)
  walk_labels l c (Stopped b t d w x y) = behind_labels f (construct f b) b l d (names_labels b d w) (walk_labels b d w)
  walk_labels l c (Merged b m d w x y z) = walk_labels b c w
  walk_labels l c (Continued b n d w x y z) = next_labels f (construct f b) b d (names_labels b d w) (walked_label is_pointer f clean b d w) (walk_labels b d w)

  pub behind_walked : (l t : ℕ) (c : Context) → Walk f l c → AreLabels f (behind (construct f l) l t c)
  behind_walked l t c w = behind_labels f (construct f l) l t c (names_labels l c w) (walk_labels l c w)

-- ---- exits are labels of the context

is_that : (f : Code) (t m : ℕ) → is_label f m ≡ true → (t == m) ≡ true → is_label f t ≡ true
is_that f t m h e = ap (is_label f) (equal_true t m e) ∙ h

inner_label : (f : Code) (c : Context) (e : End) (t : ℕ) → AreLabels f c → leaves_inner c e t ≡ true → is_label f t ≡ true
inner_label f [] e t each h = absurd (cc (h))
inner_label f (InSelection m ∷ c) e t each h = is_that f t m each.0 h
inner_label f (InArm k m a ∷ c) e t each h = is_that f t m each.0 h
inner_label f (InBody k m n ∷ c) e t each h = absurd (cc (h))
inner_label f (InNext k m ∷ c) e t each h = elim (either_holds (t == k) (t == m && is_back_pair k m e) h) [
  | inl x ↦ is_that f t k each.0 x
  | inr x ↦ is_that f t m each.1 (both_left (t == m) (is_back_pair k m e) x)
]

switch_label : (f : Code) (c : Context) (t : ℕ) → AreLabels f c → leaves_switch c t ≡ true → is_label f t ≡ true
switch_label f [] t each h = absurd (cc (h))
switch_label f (InSelection m ∷ c) t each h = switch_label f c t each.1 h
switch_label f (InArm k m a ∷ c) t each h = is_that f t m each.0 h
switch_label f (InBody k m n ∷ c) t each h = absurd (cc (h))
switch_label f (InNext k m ∷ c) t each h = absurd (cc (h))

loop_label : (f : Code) (c : Context) (t : ℕ) → AreLabels f c → leaves_loop c t ≡ true → is_label f t ≡ true
loop_label f [] t each h = absurd (cc (h))
loop_label f (InSelection m ∷ c) t each h = loop_label f c t each.1 h
loop_label f (InArm k m a ∷ c) t each h = loop_label f c t each.1 h
loop_label f (InBody k m n ∷ c) t each h = elim (either_holds (t == m) (t == n) h) [
  | inl x ↦ is_that f t m each.0 x
  | inr x ↦ is_that f t n each.1 x
]
loop_label f (InNext k m ∷ c) t each h = absurd (cc (h))

pub exit_label : (f : Code) (c : Context) (e : End) (t : ℕ) → AreLabels f c → is_exit c e t ≡ true → is_label f t ≡ true
exit_label f c e t each h = elim (either_holds (leaves_inner c e t || leaves_switch c t) (leaves_loop c t) h) [
  | inl x ↦ elim (either_holds (leaves_inner c e t) (leaves_switch c t) x) [
    | inl y ↦ inner_label f c e t each y
    | inr y ↦ switch_label f c t each y
  ]
  | inr x ↦ loop_label f c t each x
]
