-- What a function's blocks spell is listed in its normal form.
use Rattle.std.proofs.Common.{◌≡◌, inl, inr, ℕ, ◌+◌, ◌≤◌, Bool, true, false, cond, ◌==◌, List, [], ◌∷◌, ◌++◌, length, take, drop, map, nat_eq, Some, None, refl, sym, ap, ap₂, subst, ◌∙◌, arith, append_assoc, All}
use Rattle.std.specs.List.{flat_map}
use Rattle.std.specs.Map.{lookup}
use Rattle.std.specs.Option.{unwrap_or}
use Rattle.std.proofs.lemmas.Bool.Decides.{eqb_tells}
use Rattle.std.proofs.lemmas.List.{length-map}
use Rattle.std.proofs.lemmas.List.Elements.{All-cons, All-head, All-nil, All-tail}
use Rattle.spv_opcodes.specs.declared.op.TheConstants as op
use Rattle.spv_module.specs.Instruction.{Instruction, opcode}
use Rattle.spv_blocks.specs.Blocks.{Code, branches, has, is_first, is_label, stops, times}
use Rattle.spv_blocks.specs.Cutting.{blocks_of, block_of, is_label_mark}
use Rattle.spv_walk.specs.Contexts.{Context}
use Rattle.spv_walk.specs.Walk.{Walk, Starts}
use Rattle.spv_walk.proofs.Unique.{tells, truth_apart, true_equal, equal_true, goes_not_first}
use Rattle.spv_bodies.specs.Bodies.{Function}
use Rattle.spv_bodies.specs.Listing.{Branching, branches as branches_of_body, instruction, label_line, lines, listed}
use Rattle.spv_normal.specs.Lines.{before_labels, line, without_marks}
use Rattle.spv_normal.specs.Normal.{block_lines}
use Rattle.spv_normal.specs.Order.{first_label, is_front, joins, ordered, visited, with_labels}
use Rattle.spv_tree.specs.Tree.{words_of}
use Rattle.spv_spelling.specs.Clean.{IsClean, no_pointers}
use Rattle.spv_spelling.specs.Spelling.{SpellsFunction}
use Rattle.spv_spelling.specs.Text.{Take, phis, text}
use Rattle.spv_spelling.specs.Whole.{IsAdmitted, SpelledIsNormal}
use Rattle.spv_spelling.proofs.Paths.{below_walked}
use Rattle.spv_spelling.proofs.Settled.{settled, walked_runs}
use Rattle.spv_normal_trees.specs.Laws.{AreBranchings, BranchesOfBlocks, EachBlockOnce, IsBranching, LinesOfBlocks, SameStays, stays_by}
use Rattle.spv_normal_trees.proofs.Members.{Distinct, has_cons, has_nothing, no_longer}
use Rattle.spv_normal_trees.proofs.Regions.{Region, exits, of_region}
use Rattle.spv_normal_trees.proofs.RegionBlocks.{region_distinct, region_under}
use Rattle.spv_normal_trees.proofs.RegionOrder.{visit_region}
use Rattle.spv_normal_trees.proofs.RegionWhole.{all_walked}
use Rattle.spv_normal_trees.proofs.RegionExits.{Among, Leads, Single, leads, leaving, single}
use Rattle.spv_normal_trees.proofs.Staying.{IsFree, Onwards, joins_branch, joins_enters, joins_label, joins_not_front, labels_are, region_follows, same_end, walked_staying}
use Rattle.spv_normal_trees.proofs.Arranging.{labelled, walked_label}
use Rattle.spv_normal_trees.proofs.Grown.{Given, Grown, Right, first_whole, named, region_of}
use Rattle.spv_normal_trees.proofs.Growing.{spell}
use Rattle.spv_normal_trees.proofs.FrontPhis.{branch_label, just_one, labels_among, phis_right}
use Rattle.spv_normal_trees.proofs.GoodPhis.{good_phis}

-- ---- the first block

some_label : (xs : List Instruction) (i : Instruction) (ys : List Instruction) → is_label_mark i ≡ true
    → is_first (blocks_of (xs ++ i ∷ ys)) (first_label (blocks_of (xs ++ i ∷ ys))) ≡ true
some_label [] i ys h = rw h (true_equal (block_of i ys).label (block_of i ys).label refl)
some_label (x ∷ xs) i ys h = elim (tells (is_label_mark x)) [
  | inl e ↦ rw e (true_equal (block_of x (xs ++ i ∷ ys)).label (block_of x (xs ++ i ∷ ys)).label refl)
  | inr e ↦ rw e (some_label xs i ys h)
]

first_once : (f : Code) (a b : ℕ) → is_first f a ≡ true → is_first f b ≡ true → a ≡ b
first_once [] a b h g = truth_apart false h refl
first_once (x ∷ xs) a b h g = sym (equal_true x.label a h) ∙ equal_true x.label b g

-- ---- before the first block

plain_front : (xs : List Instruction) (i : Instruction) (ys : List Instruction) → is_label_mark i ≡ true
    → All (λ x. (opcode x == op.BRANCH_CONDITIONAL) ≡ false) xs
    → map line (before_labels (xs ++ i ∷ ys)) ≡ words_of (before_labels (xs ++ i ∷ ys))
plain_front [] i ys h a = rw h refl
plain_front (x ∷ xs) i ys h a = elim (tells (is_label_mark x)) [
  | inl e ↦ rw e refl
  | inr e ↦ rw e (ap₂ (λ z zs. z ∷ zs)
      (ap (λ b. cond b (instruction op.BRANCH_CONDITIONAL (take 3 (drop 1 x.words))) x.words)
      (All-head (λ y. (opcode y == op.BRANCH_CONDITIONAL) ≡ false) x xs a))
      (plain_front xs i ys h (All-tail (λ y. (opcode y == op.BRANCH_CONDITIONAL) ≡ false) x xs a)))
]

-- ---- look-ups

looked_up : (stays : ℕ → ℕ) (ls : List ℕ) (q : ℕ) → has ls q ≡ true → lookup (nat_eq q) (map (λ l. (l, stays l)) ls) ≡ Some (stays q)
looked_up stays [] q h = has_nothing q h
looked_up stays (l ∷ ls) q h = elim (eqb_tells q l) [
  | inl (e, p) ↦ rw e (ap (λ j. Some (stays j)) (sym p))
  | inr (e, p) ↦ rw e (elim (has_cons l ls q h) [ inl g ↦ absurd (p (sym g)) | inr g ↦ looked_up stays ls q g ])
]

flat_labels : (stays : ℕ → ℕ) (g : ℕ × ℕ → List (List ℕ)) (ls : List ℕ) → flat_map g (map (λ l. (l, stays l)) ls) ≡ flat_map (λ l. g (l, stays l)) ls
flat_labels stays g [] = refl
flat_labels stays g (l ∷ ls) = ap (λ z. g (l, stays l) ++ z) (flat_labels stays g ls)

-- ---- lists

same_test : (a b : Bool) → (a ≡ true → b ≡ true) → (b ≡ true → a ≡ true) → a ≡ b
same_test true b h g = sym (h refl)
same_test false true h g = g refl
same_test false false h g = refl

once_or_never : (xs : List ℕ) (l : ℕ) → Distinct xs → times xs l ≡ cond (has xs l) 1 0
once_or_never [] l d = refl
once_or_never (x ∷ xs) l d = elim (eqb_tells x l) [
  | inl (e, p) ↦ rw e (ap (λ n. n + 1) (once_or_never xs l d.1 ∙ ap (λ b. cond b 1 0) (subst (λ j. has xs j ≡ false) p d.0)))
  | inr (e, p) ↦ rw e (once_or_never xs l d.1)
]

all_named : (P : Branching → Type 0) (g : Branching → Branching) (es : List Branching) → ((e : Branching) → Among e es → P (g e)) → All P (map g es)
all_named P g [] h = All-nil P
all_named P g (e ∷ es) h = All-cons P (g e) (map g es) (h e (inl refl)) (all_named P g es (λ x k. h x (inr k)))

module _ (insts : List Instruction) (stays : ℕ → ℕ) (tree : Function) (admitted : IsAdmitted insts) (spells : SpellsFunction insts stays tree) where
  abbrev f : Code
  f = blocks_of insts

  abbrev given : ℕ → ℕ
  given = stays_by f

  abbrev Takes : (l t : ℕ) → List ℕ → Type 0
  Takes = Given insts stays given

  clean : IsClean no_pointers f
  clean = admitted.clean

  runs : (l : ℕ) (c : Context) → Walk f l c → stops f l ≡ false
  runs l c w = walked_runs no_pointers f clean l c w

  own : (l : ℕ) → IsFree f l → stays l ≡ l
  own l h = spells.staying.own l (λ k label j. h k j)

  same : (l t : ℕ) → joins f l t ≡ true → stays t ≡ stays l
  same l t j = spells.staying.joined l t (joins_label f l t j) j

  -- ---- the region of the first block

  parted : insts ≡ (admitted.text.function ∷ admitted.text.parameters) ++ admitted.text.label ∷ (admitted.text.blocks ++ admitted.text.last ∷ [])
  parted =
      let t = admitted.text in
      t.same ∙ ap (λ z. t.function ∷ z) (append_assoc t.parameters (t.label ∷ t.blocks) (t.last ∷ []))

  first : is_first f tree.label ≡ true
  first =
      let t = admitted.text in
      ap (is_first f) spells.label
      ∙ subst (λ is. is_first (blocks_of is) (first_label (blocks_of is)) ≡ true) (sym parted)
      (some_label (t.function ∷ t.parameters) t.label (t.blocks ++ t.last ∷ []) t.first)

  pub walk : Walk f tree.label []
  walk = Starts tree.label first

  grown : Grown insts stays given tree.label [] (text insts tree.label) tree.body
  grown = spell insts stays given no_pointers clean spells.staying spells.body walk [] refl

  whole : Region f Takes tree.label []
  whole = region_of insts stays given grown walk

  labels : List ℕ
  labels = of_region f Takes whole

  es : List Branching
  es = exits f Takes whole

  free : IsFree f tree.label
  free l j = truth_apart (is_first f tree.label) first (goes_not_first f l tree.label (joins_enters f no_pointers clean l tree.label j).free)

  distinct : Distinct labels
  unfolding labels
  distinct = region_distinct f Takes no_pointers clean whole

  each_has : (b : ℕ) (d : Context) → Walk f b d → has labels b ≡ true
  unfolding labels
  each_has b d w = all_walked f Takes runs whole (λ x h. first_once f x tree.label h first) b d w

  label_has : (b : ℕ) → is_label f b ≡ true → has labels b ≡ true
  label_has b h = let at = labelled f b h in let w = clean.walked b at.0 at.1 in each_has b w.0 w.1

  has_label : (x : ℕ) → has labels x ≡ true → is_label f x ≡ true
  unfolding labels
  has_label x h =
      let u = region_under f Takes no_pointers clean whole x h in
      walked_label no_pointers f clean x u.context (below_walked no_pointers f clean tree.label [] u.steps x u.context walk u.below)

  fits : length labels ≤ length f
  fits =
      let most = no_longer labels (map (λ b. b.label) f) distinct (λ x h. labels_among f x (has_label x h)) in
      let e = length-map f (λ b. b.label) in
      omega arith

  -- ---- the order and the labels

  order : ordered f ≡ labels
  unfolding labels
  order =
      ap (λ l. visited (length f) f [] l) (sym spells.label)
      ∙ visit_region f Takes whole (length f) [] tt fits (λ x h g. has_nothing x h) distinct

  with_labels_are : with_labels f None (ordered f) ≡ map (λ l. (l, stays l)) labels
  unfolding labels
  with_labels_are =
      ap (with_labels f None) order
      ∙ labels_are f no_pointers clean stays same own runs None labels (region_follows f no_pointers clean stays same own runs Takes whole None free)

  given_is : (q : ℕ) → has labels q ≡ true → given q ≡ stays q
  given_is q h = ap (λ z. unwrap_or (lookup (nat_eq q) z) q) with_labels_are ∙ ap (λ o. unwrap_or o q) (looked_up stays labels q h)

  -- ---- the OpPhi of fronts

  -- where the branch of a block goes to a front, it joins nothing
  joins_none : (b t u : ℕ) → branches f b t ≡ true → is_front f t ≡ true → joins f b u ≡ true → ⊥
  joins_none b t u h i j = elim (has_cons u [] t (subst (λ z. has z t ≡ true) (joins_branch f b u j) h)) [
    | inl e ↦ truth_apart (is_front f t) i (subst (λ k. is_front f k ≡ false) e (joins_not_front f b u j))
    | inr e ↦ has_nothing t e
  ]

  onwards : (b t : ℕ) → branches f b t ≡ true → Onwards f (stays b) b
  onwards b t h = let at = labelled f b (branch_label f b t h) in let w = clean.walked b at.0 at.1 in
      (walked_staying f no_pointers clean stays same own runs b w.0 w.1).way

  from : (t : ℕ) (e : Branching) → Among e es → e.1.target ≡ t → branches f e.0 t ≡ true
  unfolding es
  from t e h is = subst (λ j. branches f e.0 j ≡ true) is (leaving f Takes whole e h).branch

  to : (t : ℕ) → is_front f t ≡ true → (b : ℕ) → branches f b t ≡ true → Leads b t es
  unfolding labels es
  to t front b h = leads f Takes whole b t (label_has b (branch_label f b t h)) h front

  once : Single es
  unfolding labels es
  once = single f Takes whole distinct

  -- two blocks for which one label stays do not both branch to a front
  pub one_block : (t : ℕ) → is_front f t ≡ true → (p q : ℕ) → branches f p t ≡ true → branches f q t ≡ true → stays p ≡ stays q → p ≡ q
  one_block t front p q h g s =
      same_end f (stays p) p q (onwards p t h) (subst (λ j. Onwards f j q) (sym s) (onwards q t g)) (λ u j. joins_none p t u h front j)
      (λ u j. joins_none q t u g front j)

  apart : (t : ℕ) → is_front f t ≡ true → (e g : Branching) → Among e es → Among g es → e.1.target ≡ t → g.1.target ≡ t → stays e.0 ≡ stays g.0 → e.0 ≡ g.0
  apart t front e g h k is there s = one_block t front e.0 g.0 (from t e h is) (from t g k there) s

  given_there : (t b : ℕ) → branches f b t ≡ true → given b ≡ stays b
  given_there t b h = given_is b (label_has b (branch_label f b t h))

  right : Right insts stays given (map (named insts stays given) es)
  unfolding es
  right t label front =
      let at = labelled f t label in
      let w = clean.walked t at.0 at.1 in
      ap (λ z. label_line t ∷ z)
      (phis_right stays f given es t once (apart t front) (from t) (to t front) (given_there t)
      0 (phis (text insts t)) (good_phis no_pointers f t insts at.0 admitted.each at.1 (settled no_pointers f clean t w.0 at.0 w.1 at.1).phis)
      (λ e h is. subst (λ j. Take e.0 (phis (text insts j)) e.1.values) is (leaving f Takes whole e h).taken))

  branching_of : (e : Branching) → Among e es → IsBranching insts stays (named insts stays given e)
  unfolding es
  branching_of e h = let l = leaving f Takes whole e h in record { block = e.0; named = refl; branch = l.branch; front = l.front; values = l.taken }

  -- ---- all lines

  all_branches : map (named insts stays given) es ≡ branches_of_body tree.label tree.body
  unfolding es whole grown
  all_branches = grown.leaving ∙ ap (λ b. branches_of_body b tree.body) (own tree.label free)

  blocks_are : label_line tree.label ∷ lines (branches_of_body tree.label tree.body) [] tree.body ≡ flat_map (block_lines insts f given)
      (with_labels f None (ordered f))
  unfolding labels whole
  blocks_are =
      first_whole insts stays given no_pointers clean tree.label [] tree.body grown walk (own tree.label free) (branches_of_body tree.label tree.body)
      (subst (λ z. Right insts stays given z) all_branches right)
      ∙ sym (ap (flat_map (block_lines insts f given)) with_labels_are ∙ flat_labels stays (block_lines insts f given) labels)

  front_is : tree.function ∷ tree.parameters ≡ map line (before_labels insts)
  front_is =
      let t = admitted.text in
      sym (subst (λ is. map line (before_labels is) ≡ words_of (before_labels is)) (sym parted)
      (plain_front (t.function ∷ t.parameters) t.label (t.blocks ++ t.last ∷ []) t.first
      (All-cons (λ x. (opcode x == op.BRANCH_CONDITIONAL) ≡ false) t.function t.parameters (ap (λ o. o == op.BRANCH_CONDITIONAL) t.begins)
      (λ k d h. ap (λ o. o == op.BRANCH_CONDITIONAL) (t.takes k d h))))
      ∙ spells.front)

  pub lists : listed tree ≡ map line (before_labels insts) ++
      (flat_map (block_lines insts f given) (with_labels f None (ordered f)) ++ instruction op.FUNCTION_END [] ∷ [])
  lists = ap₂ (λ x y. x ++ (y ++ instruction op.FUNCTION_END [] ∷ [])) front_is blocks_are

  -- ---- the laws

  pub stands_once : (l : ℕ) → times (ordered f) l ≡ cond (is_label f l) 1 0
  stands_once l = ap (λ z. times z l) order ∙ once_or_never labels l distinct ∙ ap (λ b. cond b 1 0)
      (same_test (has labels l) (is_label f l) (has_label l) (label_has l))

  pub stays_same : (l : ℕ) → is_label f l ≡ true → given l ≡ stays l
  stays_same l h = given_is l (label_has l h)

  pub are_branchings : AreBranchings insts stays (branches_of_body tree.label tree.body)
  are_branchings = subst (λ z. AreBranchings insts stays z) all_branches (record {
    each = all_named (IsBranching insts stays) (named insts stays given) es (λ e h. branching_of e h);
    once = λ l t h front. just_one stays f given es t once (apart t front) (from t) (to t front) (given_there t) l h;
  })

  pub lines_are : label_line tree.label ∷ lines (branches_of_body tree.label tree.body) [] tree.body ≡ flat_map (block_lines insts f given)
      (map (λ l. (l, stays l)) (ordered f))
  lines_are = blocks_are ∙ ap (flat_map (block_lines insts f given)) (with_labels_are ∙ ap (map (λ l. (l, stays l))) (sym order))

pub each_block_once : EachBlockOnce
each_block_once insts stays tree h = stands_once insts stays tree h.admitted h.spells

pub same_stays : SameStays
same_stays insts stays tree h = stays_same insts stays tree h.admitted h.spells

pub branches_of_blocks : BranchesOfBlocks
branches_of_blocks insts stays tree h = are_branchings insts stays tree h.admitted h.spells

pub lines_of_blocks : LinesOfBlocks
lines_of_blocks insts stays tree h = lines_are insts stays tree h.admitted h.spells

pub spelled_is_normal : SpelledIsNormal
spelled_is_normal insts stays tree admitted spells = lists (without_marks insts) stays tree admitted spells
