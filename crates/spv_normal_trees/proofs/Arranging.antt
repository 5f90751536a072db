-- Walked blocks of a clean function: their ends, and their targets in order.
use Rattle.std.proofs.Common.{◌≡◌, ◌≢◌, ◌⊎◌, inl, inr, ℕ, zero, suc, Bool, true, false, not, cond, ◌&&◌, ◌==◌, List, [], ◌∷◌, ◌++◌, filter, fold, Option, Some, None, refl, sym, ap, ◌∙◌}
use Rattle.spv_base.specs.declared.fault.Refusal.{Refusal}
use Rattle.spv_module.specs.First.{here, unless}
use Rattle.spv_blocks.specs.Blocks.{Code, Block, Ins, Phi, Selection, Loop, Other, BranchIf, Return, Unreachable, Open, block, branches, construct, end_targets, has, is_first, is_label, is_some_block, last_opens, of_block, stops, targets}
use Rattle.spv_walk.specs.Contexts.{Context, behind}
use Rattle.spv_walk.specs.Faults.{end_rules, has_exit, loop_fits, merge_faults, selection_fits, splits_header}
use Rattle.spv_walk.specs.Walk.{Enters, Walk, Starts, Entered, Stopped, Merged, Continued, end_of}
use Rattle.spv_walk.proofs.Unique.{tells, truth_apart, true_equal, both_left, both_right, role_label}
use Rattle.spv_spelling.specs.Clean.{IsClean, IsSettled}
use Rattle.spv_spelling.proofs.Settled.{none_left, none_right, settled, walked_runs}
use Rattle.spv_spelling.specs.Text.{firsts}
use Rattle.spv_normal.specs.Order.{visited}
use Rattle.spv_normal_trees.proofs.Members.{Distinct, has_head, has_tail, has_cons, has_not, has_nothing, firsts_distinct, firsts_has, has_firsts, fold_firsts}
use Rattle.spv_normal_trees.proofs.Regions.{Arranged, LeadsOut, is_unnamed}
use Rattle.spv_normal_trees.proofs.Leaving.{leads_skipped}
use Rattle.spv_normal_trees.proofs.RegionOrder.{visited_seen, visited_keeps, visited_adds}

-- ---- the block of a walked label

label_block : (o : Option Block) → is_some_block o ≡ true → (b : Block) × (o ≡ Some b)
label_block None h = truth_apart false h refl
label_block (Some b) h = (b, refl)

pub labelled : (f : Code) (l : ℕ) → is_label f l ≡ true → (b : Block) × (block f l ≡ Some b)
labelled f l h = label_block (block f l) h

pub first_label_is : (f : Code) (l : ℕ) → is_first f l ≡ true → is_label f l ≡ true
first_label_is [] l h = truth_apart false h refl
first_label_is (b ∷ bs) l h = ap (λ x. is_some_block (cond x (Some b) (block bs l))) h

goes_label : (f : Code) (b t : ℕ) → Enters f b t → is_label f t ≡ true
goes_label f b t e = both_right (branches f b t) (is_label f t) (both_left (branches f b t && is_label f t) _ (both_left _ _ e.free))

pub target_end : (f : Code) (l : ℕ) → targets f l ≡ end_targets (end_of f l)
target_end f l = of_end (block f l)
  where
    of_end : (o : Option Block) → of_block (λ b. end_targets b.end) [] o ≡ end_targets (of_block (λ b. b.end) Open o)
    of_end None = refl
    of_end (Some b) = refl

-- a block that is walked
pub record IsWalked (is_pointer : ℕ → Bool) (f : Code) (l : ℕ) (c : Context) : Type 0 where
  pub block_of : Block
  pub at : block f l ≡ Some block_of
  pub settled_there : IsSettled is_pointer f l c block_of
  pub end_there : end_of f l ≡ block_of.end

-- ---- a terminator that ends the function has no merge instruction

cons_not_nil : {P : Type 0} (r : Refusal) (rs : List Refusal) → r ∷ rs ≡ [] → P
cons_not_nil r rs e = absurd (cc (e))

bare_return : (f : Code) (h : ℕ) (is : List Ins) → merge_faults f h Return is ≡ [] → last_opens Return is ≡ None
bare_return f h [] e = refl
bare_return f h (Phi at t r ps ∷ []) e = refl
bare_return f h (Other at ∷ []) e = refl
bare_return f h (Selection at m ∷ []) e = cons_not_nil _ _ e
bare_return f h (Loop at m n ∷ []) e = cons_not_nil _ _ e
bare_return f h (Phi at t r ps ∷ j ∷ is) e = bare_return f h (j ∷ is) e
bare_return f h (Other at ∷ j ∷ is) e = bare_return f h (j ∷ is) e
bare_return f h (Selection at m ∷ j ∷ is) e =
    bare_return f h (j ∷ is) (none_right (here at (unless (selection_fits f h Return (j ∷ is) m) 403)) (merge_faults f h Return (j ∷ is)) e)
bare_return f h (Loop at m n ∷ j ∷ is) e =
    bare_return f h (j ∷ is) (none_right (here at (unless (loop_fits f h Return (j ∷ is) m n) 403 ++ unless (not (n == h)) 405))
    (merge_faults f h Return (j ∷ is)) e)

bare_unreachable : (f : Code) (h : ℕ) (is : List Ins) → merge_faults f h Unreachable is ≡ [] → last_opens Unreachable is ≡ None
bare_unreachable f h [] e = refl
bare_unreachable f h (Phi at t r ps ∷ []) e = refl
bare_unreachable f h (Other at ∷ []) e = refl
bare_unreachable f h (Selection at m ∷ []) e = cons_not_nil _ _ e
bare_unreachable f h (Loop at m n ∷ []) e = cons_not_nil _ _ e
bare_unreachable f h (Phi at t r ps ∷ j ∷ is) e = bare_unreachable f h (j ∷ is) e
bare_unreachable f h (Other at ∷ j ∷ is) e = bare_unreachable f h (j ∷ is) e
bare_unreachable f h (Selection at m ∷ j ∷ is) e =
    bare_unreachable f h (j ∷ is) (none_right (here at (unless (selection_fits f h Unreachable (j ∷ is) m) 403)) (merge_faults f h Unreachable (j ∷ is)) e)
bare_unreachable f h (Loop at m n ∷ j ∷ is) e =
    bare_unreachable f h (j ∷ is) (none_right (here at (unless (loop_fits f h Unreachable (j ∷ is) m n) 403 ++ unless (not (n == h)) 405))
    (merge_faults f h Unreachable (j ∷ is)) e)

pub unless_passes : (p : Bool) (rule : ℕ) → unless p rule ≡ [] → p ≡ true
unless_passes true rule e = refl
unless_passes false rule e = absurd (cc (e))

not_equal : (a b : ℕ) → not (a == b) ≡ true → a ≢ b
not_equal a b h e = truth_apart (not (a == b)) h (ap not (true_equal a b e))

module _ (is_pointer : ℕ → Bool) (f : Code) (clean : IsClean is_pointer f) where
  pub walked_label : (l : ℕ) (c : Context) → Walk f l c → is_label f l ≡ true
  walked_label l c (Starts i h) = first_label_is f l h
  walked_label l c (Entered b t d w x y) = goes_label f b l y
  walked_label l c (Stopped b t d w x y) = truth_apart (stops f l) y (walked_runs is_pointer f clean l c (Stopped b l d w x y))
  walked_label l c (Merged b m d w x y z) = role_label f b l z
  walked_label l c (Continued b n d w x y z) = role_label f b l z

  pub walked : (l : ℕ) (c : Context) → Walk f l c → IsWalked is_pointer f l c
  walked l c w =
      let b = label_block (block f l) (walked_label l c w) in
      record { block_of = b.0; at = b.1; settled_there = settled is_pointer f clean l c b.0 w b.1; end_there = ap (of_block (λ x. x.end) Open) b.1 }

  -- two targets of a conditional branch differ
  pub targets_differ : (l : ℕ) (c : Context) (a b : ℕ) → Walk f l c → end_of f l ≡ BranchIf a b → a ≢ b
  targets_differ l c a b w e =
      let i = walked l c w in
      let rules : end_rules (construct f l) (behind (construct f l) l l c) (BranchIf a b) ≡ [] =
      ap (end_rules (construct f l) (behind (construct f l) l l c)) (sym e ∙ i.end_there) ∙ i.settled_there.rules in
      not_equal a b (unless_passes (not (a == b)) 408 (none_left (unless (not (a == b)) 408) (unless (splits_header (construct f l) a b) 410)
      (none_right (unless (has_exit (construct f l) (behind (construct f l) l l c) a b) 407)
      (unless (not (a == b)) 408 ++ unless (splits_header (construct f l) a b) 410) rules)))

  construct_there : (l : ℕ) (c : Context) (i : IsWalked is_pointer f l c) → construct f l ≡ last_opens i.block_of.end i.block_of.body
  construct_there l c i = ap (of_block (λ b. last_opens b.end b.body) None) i.at

  pub returns_bare : (l : ℕ) (c : Context) → Walk f l c → end_of f l ≡ Return → construct f l ≡ None
  returns_bare l c w e =
      let i = walked l c w in
      let same : i.block_of.end ≡ Return = sym i.end_there ∙ e in
      construct_there l c i ∙ ap (λ x. last_opens x i.block_of.body) same
      ∙ bare_return f l i.block_of.body (ap (λ x. merge_faults f l x i.block_of.body) (sym same) ∙ i.settled_there.merges)

  pub unreachable_bare : (l : ℕ) (c : Context) → Walk f l c → end_of f l ≡ Unreachable → construct f l ≡ None
  unreachable_bare l c w e =
      let i = walked l c w in
      let same : i.block_of.end ≡ Unreachable = sym i.end_there ∙ e in
      construct_there l c i ∙ ap (λ x. last_opens x i.block_of.body) same
      ∙ bare_unreachable f l i.block_of.body (ap (λ x. merge_faults f l x i.block_of.body) (sym same) ∙ i.settled_there.merges)

-- ---- targets in order

pub arranged_same : (f : Code) (l : ℕ) (c : Context) (ts : List ℕ) → Distinct ts → Arranged f l c ts ts
arranged_same f l c ts d = record { distinct = d; all = λ t h. h; only = λ t h. h; order = λ n seen turned. refl }

pub two_distinct : (a b : ℕ) → a ≢ b → Distinct (a ∷ b ∷ [])
two_distinct a b n = (has_not (b ∷ []) a (λ h. elim (has_cons b [] a h) [ inl e ↦ n (sym e) | inr e ↦ has_nothing a e ]), (refl, tt))

fold_all : (n : ℕ) (f : Code) (xs seen : List ℕ) (p : ℕ → Bool) → fold (visited n f) seen (filter p (firsts xs)) ≡ fold (visited n f) seen (filter p xs)
fold_all zero f xs seen p = fold_nothing (filter p (firsts xs)) seen ∙ sym (fold_nothing (filter p xs) seen)
  where
    fold_nothing : (ys s : List ℕ) → fold (visited zero f) s ys ≡ s
    fold_nothing [] s = refl
    fold_nothing (y ∷ ys) s = fold_nothing ys s
fold_all (suc n) f xs seen p = fold_firsts (visited (suc n) f) (visited_seen (suc n) f) (visited_adds n f) (visited_keeps (suc n) f) xs seen p

pub arranged_firsts : (f : Code) (l : ℕ) (c : Context) (xs : List ℕ) → Arranged f l c xs (firsts xs)
arranged_firsts f l c xs = record {
  distinct = firsts_distinct xs;
  all = firsts_has xs;
  only = has_firsts xs;
  order = λ n seen turned. sym (fold_all n f xs seen (is_unnamed f));
}

-- the first of two is an exit, where nothing is added
skipped : (n : ℕ) (f : Code) (seen : List ℕ) (a : ℕ) → (is_unnamed f a ≡ false) ⊎ (has seen a ≡ true) → cond (is_unnamed f a) (visited n f seen a) seen ≡ seen
skipped n f seen a h = elim h [
  | inl e ↦ rw e refl
  | inr e ↦ elim (tells (is_unnamed f a)) [ inl u ↦ rw u (visited_seen n f seen a e) | inr u ↦ rw u refl ]
]

one_visit : (n : ℕ) (f : Code) (seen : List ℕ) (a : ℕ)
    → fold (visited n f) seen (filter (is_unnamed f) (a ∷ [])) ≡ cond (is_unnamed f a) (visited n f seen a) seen
one_visit n f seen a = elim (tells (is_unnamed f a)) [ inl u ↦ rw u refl | inr u ↦ rw u refl ]

visit_then : (n : ℕ) (f : Code) (seen : List ℕ) (a : ℕ) (ts : List ℕ)
    → fold (visited n f) seen (filter (is_unnamed f) (a ∷ ts)) ≡ fold (visited n f) (cond (is_unnamed f a) (visited n f seen a) seen) (filter (is_unnamed f) ts)
visit_then n f seen a ts = elim (tells (is_unnamed f a)) [ inl u ↦ rw u refl | inr u ↦ rw u refl ]

kept_on : (n : ℕ) (f : Code) (seen : List ℕ) (a b : ℕ) → (is_unnamed f a ≡ false) ⊎ (has seen a ≡ true)
    → (is_unnamed f a ≡ false) ⊎ (has (cond (is_unnamed f b) (visited n f seen b) seen) a ≡ true)
kept_on n f seen a b h = elim h [
  | inl e ↦ inl e
  | inr e ↦ inr (elim (tells (is_unnamed f b)) [ inl u ↦ rw u (visited_keeps n f seen b a e) | inr u ↦ rw u e ])
]

pub arranged_turned : (f : Code) (l : ℕ) (c : Context) (a b : ℕ) → Walk f l c → LeadsOut f l c a → b ≢ a → Arranged f l c (b ∷ a ∷ []) (a ∷ b ∷ [])
arranged_turned f l c a b w out n = record {
  distinct = two_distinct a b (λ e. n (sym e));
  all = λ t h. swapped b a t h;
  only = λ t h. swapped a b t h;
  order = λ k seen turned.
      let skip = leads_skipped f l c a seen w turned out in
      visit_then k f seen b (a ∷ [])
      ∙ one_visit k f (cond (is_unnamed f b) (visited k f seen b) seen) a
      ∙ skipped k f (cond (is_unnamed f b) (visited k f seen b) seen) a (kept_on k f seen a b skip)
      ∙ sym (visit_then k f seen a (b ∷ []) ∙ ap (λ s. fold (visited k f) s (filter (is_unnamed f) (b ∷ []))) (skipped k f seen a skip) ∙ one_visit k f seen b);
}
  where
    swapped : (x y t : ℕ) → has (x ∷ y ∷ []) t ≡ true → has (y ∷ x ∷ []) t ≡ true
    swapped x y t h = elim (has_cons x (y ∷ []) t h) [
      | inl e ↦ has_tail y (x ∷ []) t (has_head x [] t e)
      | inr e ↦ elim (has_cons y [] t e) [ inl g ↦ has_head y (x ∷ []) t g | inr g ↦ has_nothing t g ]
    ]
