-- What a list of blocks that is that of a tree, offsets aside, tells of its labels.
use Rattle.std.proofs.Common.{◌≡◌, ◌≢◌, ℕ, ◌≤◌, inl, inr, Bool, true, false, ◌==◌, ◌&&◌, not, cond, List, [], ◌∷◌, map, Option, Some, None, refl, sym, ap, ◌∙◌, subst, arith}
use Rattle.std.proofs.lemmas.Bool.{eqb-true, eq-eqb}
use Rattle.spv_blocks.specs.Blocks.{Code, Block, End, Open, Construct, ASelection, ASwitch, ALoop, block, of_block, is_first, is_label, is_some_block, names, targets, branches, has, end_targets, construct, last_opens, merge_of, next_of, is_role, stops, goes}
use Rattle.spv_walk.specs.Walk.{end_of}
use Rattle.spv_walk.proofs.Unique.{both_hold, not_false, false_equal, true_equal, merge_is_named, next_is_named, header_runs, bare_runs}
use Rattle.spv_bodies.specs.Bodies.{Function}
use Rattle.spv_bodies.specs.Listing.{Branching}
use Rattle.spv_tree.specs.Branches.{branches_in}
use Rattle.spv_tree.specs.Sound.{IsSound}
use Rattle.spv_trees.specs.Standing.{OneOf}
use Rattle.spv_structured.specs.Structured.{first_end, NamesArms}
use Rattle.spv_structured.specs.Spots.{Spot, spots_in, first_spot, block_of_spot, blocks_in, inside, bare_block}
use Rattle.spv_structured.proofs.Bare.{bare, Found, bare_found, found_bare, names_bare, first_bare, label_bare, targets_bare, construct_bare, end_bare}
use Rattle.spv_structured.proofs.Counting.{each_label_once, one_spot}
use Rattle.spv_structured.proofs.Naming.{unnamed, named_once, first_unnamed, first_not_entered}
use Rattle.spv_structured.proofs.Positions.{construct_in, Node, Way, Goes, Merges, Continues, Led}
use Rattle.spv_structured.proofs.Induction.{induct, each_node}
use Rattle.spv_structured.proofs.OwnBlocks.{block_construct, HasRoles}
use Rattle.spv_structured.proofs.Targets.{To, Loop, body_merges, body_loops}

-- ---- blocks of spots

block_at : (all : List Branching) (spots : List Spot) → ((s r : Spot) → OneOf s spots → OneOf r spots → s.label ≡ r.label → s ≡ r) → (s : Spot) → OneOf s spots
    → block (map (block_of_spot all) spots) s.label ≡ Some (block_of_spot all s)
block_at all [] one s h = absurd h
block_at all (x ∷ xs) one s h = by (x.label == s.label) refl h (λ g. block_at all xs (λ a b i j e. one a b (inr i) (inr j) e) s g)
  where
    by : (b : Bool) → (x.label == s.label) ≡ b → OneOf s (x ∷ xs) → (OneOf s xs → block (map (block_of_spot all) xs) s.label ≡ Some (block_of_spot all s))
        → cond b (Some (block_of_spot all x)) (block (map (block_of_spot all) xs) s.label) ≡ Some (block_of_spot all s)
    by true e g later = ap (λ z. Some (block_of_spot all z)) (one x s (inl refl) g (eqb-true x.label s.label e))
    by false e (inl d) later = absurd (cc (eq-eqb x.label s.label (ap (λ z. z.label) (sym d)), e))
    by false e (inr g) later = later g

-- the spot of a block
pub record SpotOf (all : List Branching) (spots : List Spot) (l : ℕ) (b : Block) : Type 0 where
  pub spot : Spot
  pub one : OneOf spot spots
  pub label : spot.label ≡ l
  pub same : b ≡ block_of_spot all spot

spot_at : (all : List Branching) (spots : List Spot) (l : ℕ) (b : Block) → block (map (block_of_spot all) spots) l ≡ Some b → SpotOf all spots l b
spot_at all [] l b h = absurd (cc h)
spot_at all (x ∷ xs) l b h = by (x.label == l) refl h (λ g. spot_at all xs l b g)
  where
    by : (t : Bool) → (x.label == l) ≡ t → cond t (Some (block_of_spot all x)) (block (map (block_of_spot all) xs) l) ≡ Some b → (block (map (block_of_spot all) xs) l ≡ Some b → SpotOf all xs l b) → SpotOf all (x ∷ xs) l b
    by true e g later = record { spot = x; one = inl refl; label = eqb-true x.label l e; same = (let d : b ≡ block_of_spot all x = cc g in d) }
    by false e g later = let r = later g in record { spot = r.spot; one = inr r.one; label = r.label; same = r.same }

targeted : (o : Option Block) (t : ℕ) → has (of_block (λ b. end_targets b.end) [] o) t ≡ true → (b : Block) × (o ≡ Some b)
targeted None t h = absurd (cc h)
targeted (Some b) t h = (b, refl)

opened : (o : Option Block) (n : ℕ) → next_of (of_block (λ b. last_opens b.end b.body) None o) ≡ Some n → (b : Block) × (o ≡ Some b)
opened None n h = absurd (cc h)
opened (Some b) n h = (b, refl)

module _ (is_pointer : ℕ → Bool) (f : Function) (sound : IsSound f) (arms : NamesArms f.body) (g : Code) (same : bare g ≡ blocks_in f) where
  -- two spots of one label are one
  pub one_label : (s r : Spot) → OneOf s (spots_in f) → OneOf r (spots_in f) → s.label ≡ r.label → s ≡ r
  one_label s r h k e = one_spot (spots_in f) (each_label_once f sound) s r h k e

  pub node_at : (s : Spot) → OneOf s (spots_in f) → Node is_pointer f s
  node_at s h = each_node is_pointer f sound arms s h

  pub one_node : (s r : Spot) → Node is_pointer f s → Node is_pointer f r → s.label ≡ r.label → s ≡ r
  one_node s r n m e = one_label s r n.member m.member e

  bare_at : (s : Spot) → Node is_pointer f s → block (bare g) s.label ≡ Some (block_of_spot (branches_in f) s)
  bare_at s n = ap (λ z. block z s.label) same ∙ block_at (branches_in f) (spots_in f) one_label s n.member

  pub found : (s : Spot) → Node is_pointer f s → Found g s.label (block_of_spot (branches_in f) s)
  found s n = bare_found g s.label (block_of_spot (branches_in f) s) (bare_at s n)

  -- a block of the list is one of the tree
  pub record Placed (l : ℕ) (b : Block) : Type 0 where
    pub spot : Spot
    pub node : Node is_pointer f spot
    pub label : spot.label ≡ l
    pub alike : bare_block b ≡ block_of_spot (branches_in f) spot

  pub placed : (l : ℕ) (b : Block) → block g l ≡ Some b → Placed l b
  placed l b e =
      let r = spot_at (branches_in f) (spots_in f) l (bare_block b) (ap (λ z. block z l) (sym same) ∙ found_bare g l b e) in
      record { spot = r.spot; node = node_at r.spot r.one; label = r.label; alike = r.same }

  pub construct_of : (s : Spot) → Node is_pointer f s → construct g s.label ≡ construct_in s.body
  construct_of s n =
      sym (construct_bare g s.label) ∙ ap (of_block (λ b. last_opens b.end b.body) None) (bare_at s n)
      ∙ block_construct (branches_in f) s.front s.body n.position.formed

  pub end_at : (s : Spot) → Node is_pointer f s → end_of g s.label ≡ first_end s.body
  end_at s n = sym (end_bare g s.label) ∙ ap (of_block (λ b. b.end) Open) (bare_at s n)

  pub targets_of : (s : Spot) → Node is_pointer f s → targets g s.label ≡ end_targets (first_end s.body)
  targets_of s n = sym (targets_bare g s.label) ∙ ap (of_block (λ b. end_targets b.end) []) (bare_at s n)

  pub branches_from : (s : Spot) (t : ℕ) → Node is_pointer f s → branches g s.label t ≡ true → has (end_targets (first_end s.body)) t ≡ true
  branches_from s t n h = ap (λ ts. has ts t) (sym (targets_of s n)) ∙ h

  pub branches_to : (s : Spot) (t : ℕ) → Node is_pointer f s → has (end_targets (first_end s.body)) t ≡ true → branches g s.label t ≡ true
  branches_to s t n h = ap (λ ts. has ts t) (targets_of s n) ∙ h

  pub label_of : (s : Spot) → Node is_pointer f s → is_label g s.label ≡ true
  label_of s n = sym (label_bare g s.label) ∙ ap is_some_block (bare_at s n)

  pub names_of : (t : ℕ) → names g t ≡ names (blocks_in f) t
  names_of t = sym (names_bare g t) ∙ ap (λ z. names z t) same

  pub first_of : (l : ℕ) → is_first g l ≡ (f.label == l)
  first_of l = sym (first_bare g l) ∙ ap (λ z. is_first z l) same

  -- a label from which a block branches, and one that has a continue target
  pub brancher : (q t : ℕ) → branches g q t ≡ true → (s : Spot) × Node is_pointer f s × (s.label ≡ q)
  brancher q t h = let b = targeted (block g q) t h in let p = placed q b.0 b.1 in (p.spot, p.node, p.label)

  pub looper : (h n : ℕ) → next_of (construct g h) ≡ Some n → (s : Spot) × Node is_pointer f s × (s.label ≡ h)
  looper h n e = let b = opened (block g h) n e in let p = placed h b.0 b.1 in (p.spot, p.node, p.label)

  -- ---- which blocks are the first

  -- no other block leads to itself
  leads_to_itself : (s : Spot) → OneOf s (spots_in f) → s.from ≡ s.label → s ≡ first_spot f
  leads_to_itself s h =
      induct is_pointer f (λ z. z.from ≡ z.label → z ≡ first_spot f)
      (λ s r n led before e.
      let here : s ≡ r = one_node s r n led.node (sym led.child.from ∙ e) in
      sym here ∙ before (ap (λ z. z.from) here ∙ e ∙ ap (λ z. z.label) (sym here)))
      sound arms (λ e. refl) s h

  unnamed_or_not : (s r : Spot) → Node is_pointer f s → Way is_pointer f s r → r.label ≡ f.label → ⊥
  unnamed_or_not s r n (Goes going) e = first_not_entered f sound (subst (λ z. OneOf z (unnamed f.body)) e going.entered)
  unnamed_or_not s r n (Merges is inside) e =
      let a = merge_is_named g s.label r.label (ap merge_of (construct_of s n) ∙ is) in
      let b = names_of r.label ∙ ap (names (blocks_in f)) e ∙ first_unnamed f sound in
      omega (arith, a, b)
  unnamed_or_not s r n (Continues is inside) e =
      let a = next_is_named g s.label r.label (ap next_of (construct_of s n) ∙ is) in
      let b = names_of r.label ∙ ap (names (blocks_in f)) e ∙ first_unnamed f sound in
      omega (arith, a, b)

  pub not_first : (s r : Spot) → Node is_pointer f s → Led is_pointer f s r → is_first g r.label ≡ false
  not_first s r n led = first_of r.label ∙ false_equal f.label r.label (λ e. unnamed_or_not s r n led.child.way (sym e))

  -- a block that is led to is another
  pub other : (s r : Spot) → Node is_pointer f s → Led is_pointer f s r → r.label ≢ s.label
  other s r n led e =
      let here : r ≡ s = one_node r s led.node n e in
      let first = leads_to_itself r led.node.member (led.child.from ∙ sym e) in
      unnamed_or_not s r n led.child.way (ap (λ z. z.label) first)

  -- ---- merge blocks and continue targets

  role : (s r : Spot) (m : ℕ) → Node is_pointer f s → Led is_pointer f s r → r.label ≡ m → 1 ≤ names g m → is_role g s.label m ≡ true
  role s r m n led e named =
      let once : names g m ≡ 1 = (let a = names_of m in let b = named_once f sound m in omega (arith, a, b, named)) in
      let a : is_label g m ≡ true = ap (is_label g) (sym e) ∙ label_of r led.node in
      let b : is_first g m ≡ false = ap (is_first g) (sym e) ∙ not_first s r n led in
      let c : (m == s.label) ≡ false = false_equal m s.label (λ d. other s r n led (e ∙ d)) in
      both_hold (is_label g m && not (is_first g m) && not (m == s.label)) (names g m == 1)
      (both_hold (is_label g m && not (is_first g m)) (not (m == s.label)) (both_hold (is_label g m) (not (is_first g m)) a (not_false (is_first g m) b)) (not_false (m == s.label) c))
      (true_equal (names g m) 1 once)

  pub merge_to : (s : Spot) (m : ℕ) → Node is_pointer f s → merge_of (construct_in s.body) ≡ Some m → To is_pointer f s m s.context
  merge_to s m n e = body_merges is_pointer f s.body s s.context s.label m n n.position e

  pub merge_role : (s : Spot) (m : ℕ) → Node is_pointer f s → merge_of (construct_in s.body) ≡ Some m → is_role g s.label m ≡ true
  merge_role s m n e =
      let to = merge_to s m n e in
      role s to.spot m n to.led to.label (merge_is_named g s.label m (ap merge_of (construct_of s n) ∙ e))

  pub loop_of : (s : Spot) (m k : ℕ) → Node is_pointer f s → construct_in s.body ≡ Some (ALoop m k) → Loop is_pointer f s m k s.context
  loop_of s m k n e = body_loops is_pointer f s.body s s.context s.label m k n n.position refl e

  pub next_role : (s : Spot) (m k : ℕ) → Node is_pointer f s → construct_in s.body ≡ Some (ALoop m k) → is_role g s.label k ≡ true
  next_role s m k n e =
      let to = (loop_of s m k n e).next in
      role s to.spot k n to.led to.label (next_is_named g s.label k (ap next_of (construct_of s n ∙ e)))

  -- the header of a loop is not the first block, since that has no front
  pub header_not_first : (s : Spot) (m k : ℕ) → Node is_pointer f s → construct_in s.body ≡ Some (ALoop m k) → is_first g s.label ≡ false
  header_not_first s m k n e =
      let loop = loop_of s m k n e in
      first_of s.label
      ∙ false_equal f.label s.label (λ d.
      let here : first_spot f ≡ s = one_label (first_spot f) s (inl refl) n.member d in
      let none : None ≡ Some loop.front = ap (λ z. z.front) here ∙ loop.header in
      absurd (cc none))

  pub roles : (s : Spot) → Node is_pointer f s → HasRoles g s.label (construct_in s.body)
  roles s n = by (construct_in s.body) refl
    where
      by : (k : Option Construct) → construct_in s.body ≡ k → HasRoles g s.label k
      by None e = tt
      by (Some (ASelection m)) e = merge_role s m n (ap merge_of e)
      by (Some (ASwitch m)) e = merge_role s m n (ap merge_of e)
      by (Some (ALoop m k)) e = (
        header_not_first s m k n e,
        merge_role s m n (ap merge_of e),
        (λ d. let to = (loop_of s m k n e).next in other s to.spot n to.led (to.label ∙ d)),
        next_role s m k n e,
      )

  pub runs : (s : Spot) → Node is_pointer f s → stops g s.label ≡ false
  runs s n = by (construct_in s.body) refl
    where
      by : (k : Option Construct) → construct_in s.body ≡ k → stops g s.label ≡ false
      by None e = bare_runs g s.label (construct_of s n ∙ e)
      by (Some (ASelection m)) e = ap (λ k. Rattle.spv_blocks.specs.Blocks.is_it s.label (next_of k)) (construct_of s n ∙ e)
      by (Some (ASwitch m)) e = ap (λ k. Rattle.spv_blocks.specs.Blocks.is_it s.label (next_of k)) (construct_of s n ∙ e)
      by (Some (ALoop m k)) e = header_runs g s.label k (ap next_of (construct_of s n ∙ e)) (next_role s m k n e)
