-- No two blocks of the listing of a normal tree are joined: a block that ends in OpBranch alone branches to a front.
use Rattle.std.proofs.Common.{◌≡◌, ℕ, inl, inr, Bool, true, false, not, ◌==◌, List, [], ◌∷◌, ◌++◌, Option, Some, None, refl, sym, ap, ◌∙◌, subst}
use Rattle.std.specs.List.{AllByRecursion}
use Rattle.spv_module.specs.Instruction.{Instruction}
use Rattle.spv_blocks.specs.Blocks.{Block, Code, ALoop, block, branches, construct, end_targets, has, is_some_block, names, targets}
use Rattle.spv_blocks.specs.Cutting.{blocks_of}
use Rattle.spv_walk.specs.Contexts.{Context, InSelection, InArm, InBody, InNext}
use Rattle.spv_walk.proofs.Unique.{right_holds, truth_apart}
use Rattle.spv_bodies.specs.Bodies.{Front, ByBranch, InPlace, Body, Leaves, Finishes, Step, Enters, Splits, Selects, Switches, Loops, Arms, Last, Also, Function, target}
use Rattle.spv_bodies.specs.Listing.{Branching, listed}
use Rattle.spv_normal.specs.Order.{is_front, is_loop, joins}
use Rattle.spv_tree.specs.Branches.{branches_in}
use Rattle.spv_tree.specs.Sound.{IsSound}
use Rattle.spv_tree.specs.Tree.{words_of}
use Rattle.spv_trees.specs.Standing.{OneOf}
use Rattle.spv_spelling.specs.Clean.{no_pointers}
use Rattle.spv_structured.specs.Laws.{Opens}
use Rattle.spv_structured.specs.Spots.{Spot, blocks_in, others, others_of_arms, spots_in}
use Rattle.spv_structured.specs.Structured.{IsStructured, first_end}
use Rattle.spv_structured.proofs.Bare.{bare}
use Rattle.spv_structured.proofs.Entered.{leads_to}
use Rattle.spv_structured.proofs.ListedBlocks.{listed_blocks}
use Rattle.spv_structured.proofs.Lists.{each_at, one_has}
use Rattle.spv_structured.proofs.Looked.{construct_of, placed, targets_of}
use Rattle.spv_structured.proofs.Positions.{Entering, Node, Position, construct_in, header_node, stepped, ways}
use Rattle.spv_structured.proofs.Targets.{AllLeaveWell, Leads, On, Out, structured_leaves}
use Rattle.spv_structured.proofs.Unbroken.{each_walked, exit_at}
use Rattle.spv_normal_trees.proofs.Leaving.{leads_front}
use Rattle.spv_normal_trees.proofs.Staying.{joins_bare, joins_branch, joins_label, joins_not_front}
use Rattle.spv_respelling.specs.Normal.{AreNormal, IsNormal, IsNormalBody}

-- ---- each block of a normal tree is normal by itself

each_both : {X : Type 0} (P : X → Type 0) (xs ys : List X) → AllByRecursion P xs → AllByRecursion P ys → AllByRecursion P (xs ++ ys)
each_both P [] ys h g = g
each_both P (x ∷ xs) ys h g = (h.0, each_both P xs ys h.1 g)

module _ (all : List Branching) where
  abbrev NormalAt : Spot → Type 0
  NormalAt s = IsNormalBody all false s.body

  abbrev AllNormal : List Spot → Type 0
  AllNormal spots = AllByRecursion NormalAt spots

  loop_normal : (header : Front) (control : ℕ) (inner : Body) (next : Front) (continuing : Body) (merge : Front) (rest : Body) (c : Context)
      → AllNormal (others (InBody header.label merge.label next.label ∷ c) header.label inner)
      → AllNormal (others (InNext header.label merge.label ∷ c) next.label continuing)
      → AllNormal (others c merge.label rest) → IsNormalBody all false continuing → IsNormalBody all false rest
      → AllNormal (others c header.label (Loops InPlace header control inner next continuing merge rest))
  loop_normal header control inner next continuing merge rest c one two three middle last =
      let i = InBody header.label merge.label next.label ∷ c in
      let j = InNext header.label merge.label ∷ c in
      let q : Spot = record { context = j; from = header.label; label = next.label; front = Some next; body = continuing } in
      let r : Spot = record { context = c; from = header.label; label = merge.label; front = Some merge; body = rest } in
      each_both NormalAt (others i header.label inner) (q ∷ (others j next.label continuing ++ (r ∷ others c merge.label rest))) one
      (middle, each_both NormalAt (others j next.label continuing) (r ∷ others c merge.label rest) two (last, three))

  mutual
    body_normal : (b : Body) (parted : Bool) (c : Context) (l : ℕ) → IsNormalBody all parted b → AllNormal (others c l b)
    body_normal (Leaves exit) parted c l h = tt
    body_normal (Finishes words) parted c l h = tt
    body_normal (Step words b) parted c l h = body_normal b parted c l h
    body_normal (Enters label b) parted c l h = (h.1, body_normal b false c label h.1)
    body_normal (Splits condition on exit b) parted c l h = body_normal b true c l h
    body_normal (Selects control condition first second merge rest) parted c l h =
        let i = InSelection merge.label ∷ c in
        let r : Spot = record { context = c; from = l; label = merge.label; front = Some merge; body = rest } in
        each_both NormalAt (others i l first) (others i l second ++ (r ∷ others c merge.label rest)) (body_normal first true i l h.1)
        (each_both NormalAt (others i l second) (r ∷ others c merge.label rest) (body_normal second true i l h.2)
        (h.3, body_normal rest false c merge.label h.3))
    body_normal (Switches control selector cases arms merge rest) parted c l h =
        let r : Spot = record { context = c; from = l; label = merge.label; front = Some merge; body = rest } in
        each_both NormalAt (others_of_arms c l merge.label arms) (r ∷ others c merge.label rest) (arms_normal arms c l merge.label h.2)
        (h.3, body_normal rest false c merge.label h.3)
    body_normal (Loops (ByBranch values) header control inner next continuing merge rest) parted c l h = (
      h,
      loop_normal header control inner next continuing merge rest c
          (body_normal inner true (InBody header.label merge.label next.label ∷ c) header.label h.3)
          (body_normal continuing false (InNext header.label merge.label ∷ c) next.label h.4) (body_normal rest false c merge.label h.5) h.4 h.5,
    )
    body_normal (Loops InPlace header control inner next continuing merge rest) parted c l h =
        loop_normal header control inner next continuing merge rest c
        (body_normal inner true (InBody header.label merge.label next.label ∷ c) header.label h.3)
        (body_normal continuing false (InNext header.label merge.label ∷ c) next.label h.4) (body_normal rest false c merge.label h.5) h.4 h.5

    arms_normal : (arms : Arms) (c : Context) (l m : ℕ) → AreNormal all arms → AllNormal (others_of_arms c l m arms)
    arms_normal (Last arm) c l m h = body_normal arm true (InArm l m (target arm) ∷ c) l h
    arms_normal (Also arm arms) c l m h =
        each_both NormalAt (others (InArm l m (target arm) ∷ c) l arm) (others_of_arms c l m arms) (body_normal arm true (InArm l m (target arm) ∷ c) l h.0)
        (arms_normal arms c l m h.1)

-- ---- blocks that end in OpBranch alone

-- the block of a label
block_there : (o : Option Block) → is_some_block o ≡ true → (b : Block) × (o ≡ Some b)
block_there None h = truth_apart false h refl
block_there (Some b) h = (b, refl)

two_targets : {P : Type 0} (a b t : ℕ) → a ∷ b ∷ [] ≡ t ∷ [] → P
two_targets a b t e = absurd (cc e)

module _ (f : Function) (again : List Instruction) (sound : IsSound f) (opened : Opens f) (structured : IsStructured no_pointers f)
    (same : words_of again ≡ listed f) where
  abbrev g : Code
  g = blocks_of again

  abbrev all : List Branching
  all = branches_in f

  alike : bare g ≡ blocks_in f
  alike = listed_blocks f again sound opened same

  well : AllLeaveWell no_pointers f
  well = structured_leaves no_pointers f structured

  loop_front : (t m n : ℕ) → construct g t ≡ Some (ALoop m n) → is_front g t ≡ true
  loop_front t m n e = right_holds (not (names g t == 0)) (is_loop (construct g t)) (ap is_loop e)

  -- what a body enters by OpBranch alone is the header of a loop
  entered_front : (b : Body) (s : Spot) (c : Context) (l t u : ℕ) → Node no_pointers f s → Position no_pointers f s c l b → construct_in b ≡ None
      → IsNormalBody all false b
      → end_targets (first_end b) ≡ t ∷ [] → OneOf (Entering u) (ways b) → is_front g u ≡ true
  entered_front (Leaves exit) s c l t u n p none normal one (inl e) = absurd (cc e)
  entered_front (Leaves exit) s c l t u n p none normal one (inr h) = absurd h
  entered_front (Finishes words) s c l t u n p none normal one h = absurd h
  entered_front (Step words b) s c l t u n p none normal one h = entered_front b s c l t u n (stepped no_pointers f s c l words b p) none normal one h
  entered_front (Enters label b) s c l t u n p none normal one h = absurd (cc (normal.0))
  entered_front (Splits condition on exit b) s c l t u n p none normal one h = two_targets _ _ t one
  entered_front (Selects control condition first second merge rest) s c l t u n p none normal one h = absurd (cc none)
  entered_front (Switches control selector cases arms merge rest) s c l t u n p none normal one h = absurd (cc none)
  entered_front (Loops (ByBranch values) header control inner next continuing merge rest) s c l t u n p none normal one (inl e) =
      let led = header_node no_pointers f s c l values header control inner next continuing merge rest n p in
      let there : u ≡ header.label = cc e in
      let loop : Body = Loops InPlace header control inner next continuing merge rest in
      let r : Spot = record { context = c; from = l; label = header.label; front = Some header; body = loop } in
      subst (λ z. is_front g z ≡ true) (sym there)
      (loop_front header.label merge.label next.label (construct_of no_pointers f sound structured.arms g alike r led.node))
  entered_front (Loops (ByBranch values) header control inner next continuing merge rest) s c l t u n p none normal one (inr h) = absurd h
  entered_front (Loops InPlace header control inner next continuing merge rest) s c l t u n p none normal one h = absurd (cc none)

  normal_at : IsNormal f → (s : Spot) → OneOf s (spots_in f) → IsNormalBody all false s.body
  normal_at normal s h = each_at (NormalAt all) (spots_in f) (normal, body_normal all f.body false [] f.label normal) s h

  module _ (normal : IsNormal f) where
    -- so what OpBranch alone leads to is a front
    to_front : (s : Spot) (t : ℕ) → Node no_pointers f s → construct g s.label ≡ None → targets g s.label ≡ t ∷ [] → is_front g t ≡ true
    to_front s t n bare_there one =
        let none : construct_in s.body ≡ None = sym (construct_of no_pointers f sound structured.arms g alike s n) ∙ bare_there in
        let ends : end_targets (first_end s.body) ≡ t ∷ [] = sym (targets_of no_pointers f sound structured.arms g alike s n) ∙ one in
        let branch : branches g s.label t ≡ true = ap (λ ts. has ts t) one ∙ one_has (t ∷ []) t (inl refl) in
        by none ends (leads_to no_pointers f sound structured.arms g alike s t n branch)
      where
        by : construct_in s.body ≡ None → end_targets (first_end s.body) ≡ t ∷ [] → Leads no_pointers f s t → is_front g t ≡ true
        by none ends (Out x h to exits) =
            leads_front g s.label s.context t (each_walked no_pointers f sound structured.arms g alike well s n)
            (exit_at no_pointers f sound structured.arms g alike s t n ∙ well s n t exits)
        by none ends (On r r_node going from to) =
            subst (λ z. is_front g z ≡ true) to
            (entered_front s.body s s.context s.label t r.label n n.position none (normal_at normal s n.member) ends going.way_on)

    pub none_joins : (l t : ℕ) → joins g l t ≡ true → ⊥
    none_joins l t j =
        let b = block_there (block g l) (joins_label g l t j) in
        let p = placed no_pointers f sound structured.arms g alike l b.0 b.1 in
        truth_apart (is_front g t)
        (to_front p.spot t p.node (ap (construct g) p.label ∙ joins_bare g l t j) (ap (targets g) p.label ∙ joins_branch g l t j))
        (joins_not_front g l t j)
