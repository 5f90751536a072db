-- What a function whose lines use what is there spells is fine: by recursion on how the tree is spelled.
use Rattle.std.proofs.Common.{◌≡◌, ◌⊎◌, inl, inr, ℕ, Bool, true, false, cond, ◌||◌, ◌==◌, List, [], ◌∷◌, ◌++◌, find, Option, Some, None, slice_index, refl, sym, ap, ap₂, subst, ◌∙◌, arith, append_assoc, append-nil}
use Rattle.std.specs.List.{AllByRecursion}
use Rattle.std.specs.Option.{option_map}
use Rattle.spv_opcodes.specs.declared.op.TheConstants as op
use Rattle.spv_grammar.specs.Table.{row_of}
use Rattle.spv_module.specs.Instruction.{Instruction}
use Rattle.spv_blocks.specs.Blocks.{Code, Branch, BranchIf, Switch, End, ASelection, ASwitch, ALoop, branches, construct, end_targets, has as lists, is_first, is_label, Construct, merge_of, next_of, seconds}
use Rattle.spv_blocks.specs.Cutting.{blocks_of}
use Rattle.spv_walk.specs.Contexts.{Context, InSelection, InBody, InNext, behind}
use Rattle.spv_walk.specs.Walk.{Walk, end_of}
use Rattle.spv_walk.proofs.Steps.{step_walked}
use Rattle.spv_walk.proofs.Unique.{equal_true, goes_branches, right_holds, true_equal}
use Rattle.spv_bodies.specs.Bodies.{Exit, Entry, Body, Arms, Function}
use Rattle.spv_bodies.specs.Listing.{Branching, arriving, branch_line, branches as branches_of_body, branches_of_arms, instruction, loop_line, pair_words, selection_line, split_line}
use Rattle.spv_normal.specs.Order.{first_label, is_front}
use Rattle.spv_normal_trees.proofs.Arranging.{target_end, walked_label}
use Rattle.spv_normal_trees.proofs.Grown.{GrownHead, GrownPart, GrownWay, GrownWays, Given, end_no_phi, named, step_no_phi}
use Rattle.spv_normal_trees.proofs.Growing.{construct_joins_none, end_here, merge_front, merge_role, next_front, next_role, spell_arm, spell_arms, spell_head, spell_part, walk_merge, walk_next}
use Rattle.spv_normal_trees.proofs.Listed.{walk}
use Rattle.spv_normal_trees.proofs.Members.{firsts_has, has_firsts}
use Rattle.spv_normal_trees.proofs.NormalBlocks.{in_front_and_behind}
use Rattle.spv_normal_trees.proofs.Regions.{exits, exits_of_way, exits_of_ways, more, nowhere}
use Rattle.spv_normal_trees.proofs.RegionExits.{Leads}
use Rattle.spv_normal_trees.proofs.Texts.{line_end, opcode_spelled, switch_end}
use Rattle.spv_tree.specs.Sound.{is_step, opcode_in}
use Rattle.spv_trees.specs.Standing.{OneOf}
use Rattle.spv_structured.proofs.Lists.{one_has}
use Rattle.spv_spelling.specs.Clean.{IsClean, no_pointers}
use Rattle.spv_spelling.specs.Spelling as spelled
use Rattle.spv_spelling.specs.Spelling.{Goes, Spells, SpellsArm, SpellsArms, SpellsBranch, SpellsExit, SpellsFunction, SpellsHead, SpellsLoop, SpellsPart}
use Rattle.spv_spelling.specs.Text.{Take, behind_phis, copies, copy_of, front_of, is_phi, phi_pairs, phis, text}
use Rattle.spv_spelling.specs.Whole.{IsAdmitted}
use Rattle.spv_spelling.proofs.Onward.{goes_on}
use Rattle.spv_spelling.proofs.Settled.{walked_runs}
use Rattle.spv_ways.specs.Ways as ways
use Rattle.spv_ways.specs.Ways.{Follows, IsUnreached}
use Rattle.spv_fine.specs.Fine.{ArmsFine, AtFront, Carries, Fine, Headed, Ids, Sends, With, at_end, defined_in, used_in}
use Rattle.spv_fine.proofs.Uses.{used_split}
use Rattle.spv_fine_trees.specs.There.{Decides, IsValue, OfEnd, OfStep, IsPromised, UsesWhatIsThere}
use Rattle.spv_fine_trees.proofs.Arriving.{Arrives, arrives_any, arrives_left, arrives_right, arms_arrive_any, leads_arrives, leads_either, none_arrives}
use Rattle.spv_fine_trees.proofs.Copies.{defined_copy, one_value, used_copy}
use Rattle.spv_fine_trees.proofs.Points.{Has, HasEnd, Silent, at_first, at_the_end, behind_front, behind_header, behind_phi, behind_silent, behind_step, each_of, onto, phi_in, promise_back}
use Rattle.spv_fine_trees.proofs.Rounds.{UnderEntered}
use Rattle.spv_fine_trees.proofs.Selectors.{selector_used}
use Rattle.spv_fine_trees.proofs.Unreached.{merge_unreached, next_unreached, of_the_region, of_the_ways}

-- ---- lines that make blocks define nothing

silent_branch : (t : ℕ) → Silent (branch_line t)
unfolding row_of
silent_branch t = record { step = refl; phi = refl }

silent_split : (condition : ℕ) (on : Bool) (a b : ℕ) → Silent (split_line condition on a b)
unfolding row_of
silent_split condition true a b = record { step = refl; phi = refl }
silent_split condition false a b = record { step = refl; phi = refl }

silent_selection : (merge control : ℕ) → Silent (selection_line merge control)
unfolding row_of
silent_selection merge control = record { step = refl; phi = refl }

silent_loop : (merge next control : ℕ) → Silent (loop_line merge next control)
unfolding row_of
silent_loop merge next control = record { step = refl; phi = refl }

silent_switch : (words : List ℕ) → Silent (instruction op.SWITCH words)
unfolding row_of
silent_switch words = record {
  step = ap is_step (opcode_spelled op.SWITCH words (omega arith));
  phi = ap (λ o. o == op.PHI) (opcode_spelled op.SWITCH words (omega arith));
}

-- a branch is decided by its first operand
decides_split : (condition : ℕ) (on : Bool) (a b : ℕ) → IsValue (split_line condition on a b) condition
decides_split condition true a b = Decides refl refl
decides_split condition false a b = Decides refl refl

decides_switch : (selector : ℕ) (rest : List ℕ) → IsValue (instruction op.SWITCH (selector ∷ rest)) selector
decides_switch selector rest =
    Decides (ap (λ o. o == op.BRANCH_CONDITIONAL || o == op.SWITCH) (opcode_spelled op.SWITCH (selector ∷ rest) (omega arith))) refl

-- ---- values that OpPhi take

taken_pair : (block value : ℕ) (ps : List (ℕ × ℕ)) → option_map (λ pair. pair.0) (find (λ (pair : ℕ × ℕ). pair.1 == block) ps) ≡ Some value
    → OneOf (value, block) ps
taken_pair block value [] e = absurd (cc (e))
taken_pair block value (p ∷ ps) e = by (p.1 == block) refl e (taken_pair block value ps)
  where
    by : (b : Bool) → (p.1 == block) ≡ b → option_map (λ (pair : ℕ × ℕ). pair.0) (cond b (Some p) (find (λ (pair : ℕ × ℕ). pair.1 == block) ps)) ≡ Some value
        → (option_map (λ pair. pair.0) (find (λ (pair : ℕ × ℕ). pair.1 == block) ps) ≡ Some value → OneOf (value, block) ps) → OneOf (value, block) (p ∷ ps)
    by true is h later =
        let same : p.0 ≡ value = cc (h) in
        inl (ap₂ (λ x y. (x, y)) (sym same) (sym (equal_true p.1 block is)))
    by false is h later = inr (later h)

-- ---- the first block

first_is : (c : Code) (l : ℕ) → is_label c l ≡ true → is_first c (first_label c) ≡ true
first_is [] l h = absurd (cc (h))
first_is (b ∷ bs) l h = true_equal b.label b.label refl

module _ (insts : List Instruction) (stays : ℕ → ℕ) (f : Function) (admitted : IsAdmitted insts) (spells : SpellsFunction insts stays f) (Free : Ids)
    (uses : UsesWhatIsThere insts Free) where
  abbrev g : Code
  g = blocks_of insts

  abbrev P : (label id : ℕ) → Type 0
  P = IsPromised insts

  abbrev Takes : (l t : ℕ) → List ℕ → Type 0
  Takes = Given insts stays stays

  clean : IsClean no_pointers g
  clean = admitted.clean

  abbrev HasAt : Ids → (l : ℕ) → (front : List (List ℕ)) → Type 0
  HasAt = Has insts Free

  abbrev HasAll : Ids → (l : ℕ) → Type 0
  HasAll = HasEnd insts Free

  -- ---- what lines use

  plain_used : (E : Ids) (l : ℕ) (front : List (List ℕ)) (line : List ℕ) (rest : List (List ℕ)) → text insts l ≡ front ++ line ∷ rest → is_phi line ≡ false
      → HasAt E l front → (id : ℕ) → OneOf id (used_in line) → IsValue line id → E id
  plain_used E l front line rest e quiet has id o v = has id (uses.plain l front line rest e quiet id o v)

  line_used : (E : Ids) (l : ℕ) (front : List (List ℕ)) (line : List ℕ) (rest : List (List ℕ)) → text insts l ≡ front ++ line ∷ rest → is_phi line ≡ false
      → HasAt E l front → ((id : ℕ) → IsValue line id) → AllByRecursion E (used_in line)
  line_used E l front line rest e quiet has value = each_of E (used_in line) (λ id o. plain_used E l front line rest e quiet has id o (value id))

  -- the values that OpPhi of t take from l
  take_used : (E : Ids) (l t : ℕ) (ps : List (List ℕ)) (values : List ℕ) → HasAll E l
      → ((phi : List ℕ) → OneOf phi ps → OneOf phi (text insts t) × (is_phi phi ≡ true)) → Take l ps values → AllByRecursion E values
  take_used E l t [] [] has among taken = tt
  take_used E l t [] (v ∷ vs) has among taken = absurd taken
  take_used E l t (p ∷ ps) [] has among taken = absurd taken
  take_used E l t (p ∷ ps) (v ∷ vs) has among taken =
      let r = among p (inl refl) in (
        has v (uses.values t p r.0 r.1 (v, l) (taken_pair l v (phi_pairs p) taken.0)),
        take_used E l t ps vs has (λ q o. among q (inr o)) taken.1,
      )

  -- ---- ends of blocks

  ends_at : (l t : ℕ) (end : End) → end_of g l ≡ end → lists (end_targets end) t ≡ true → branches g l t ≡ true
  ends_at l t end e h = ap (λ ts. lists ts t) (target_end g l ∙ ap end_targets e) ∙ h

  end_is : (l : ℕ) (c : Context) (front : List (List ℕ)) (last : List ℕ) → Walk g l c → text insts l ≡ front ++ last ∷ [] → end_of g l ≡ line_end last
  end_is l c front last w e = end_here insts stays stays no_pointers clean spells.staying l c front last w e

  split_ends : (l : ℕ) (c : Context) (condition : ℕ) (on : Bool) (a b : ℕ) (front : List (List ℕ)) → Walk g l c
      → text insts l ≡ front ++ split_line condition on a b ∷ [] → (branches g l a ≡ true) × (branches g l b ≡ true)
  split_ends l c condition true a b front w e =
      let at : end_of g l ≡ BranchIf a b = end_is l c front (split_line condition true a b) w e in (
        ends_at l a (BranchIf a b) at (one_has (a ∷ b ∷ []) a (inl refl)),
        ends_at l b (BranchIf a b) at (one_has (a ∷ b ∷ []) b (inr (inl refl))),
      )
  split_ends l c condition false a b front w e =
      let at : end_of g l ≡ BranchIf b a = end_is l c front (split_line condition false a b) w e in (
        ends_at l a (BranchIf b a) at (one_has (b ∷ a ∷ []) a (inr (inl refl))),
        ends_at l b (BranchIf b a) at (one_has (b ∷ a ∷ []) b (inl refl)),
      )

  split_condition : (E : Ids) (l condition : ℕ) (on : Bool) (a b : ℕ) (front : List (List ℕ)) → text insts l ≡ front ++ split_line condition on a b ∷ []
      → HasAt E l front → E condition
  split_condition E l condition on a b front e has =
      plain_used E l front (split_line condition on a b) [] e (silent_split condition on a b).phi has condition
      (subst (OneOf condition) (sym (used_split condition on a b)) (inl refl)) (decides_split condition on a b)

  -- ---- branches out

  sends : (E : Ids) (l : ℕ) (d : Context) (exit : Exit) → branches g l exit.target ≡ true → HasAll E l → SpellsExit insts stays l d exit → Sends P E exit
  sends E l d exit branch has s = (
    take_used E l exit.target (phis (text insts exit.target)) exit.values has (phi_in (text insts exit.target)) s.values,
    λ id p. has id (promise_back insts Free l exit.target id (ways.ByBranch branch) p),
  )

  -- ---- blocks that are entered

  copied : (x t : ℕ) (body : Body) (ps : List (List ℕ)) (E : Ids) (front : List (List ℕ)) → HasAt E t front
      → ((phi : List ℕ) → OneOf phi ps → (is_phi phi ≡ true) × (E (slice_index phi 1) × E (slice_index phi 3)))
      → ((F : Ids) → HasAt F t (front ++ ps) → Fine P F x body) → Fine P E x (copies ps body)
  copied x t body [] E front has each goes = goes E (subst (λ z. HasAt E t z) (sym (append-nil front)) has)
  copied x t body (p ∷ ps) E front has each goes =
      let o = each p (inl refl) in
      let new : List ℕ = defined_in (copy_of p) in (
        subst (AllByRecursion E) (sym (used_copy p)) (o.1.0, (o.1.1, tt)),
        copied x t body ps (With E new) (front ++ p ∷ [])
            (behind_phi insts Free E new t front p o.0
            (ap (λ xs. lists xs (slice_index p 2)) (defined_copy p) ∙ one_has (slice_index p 2 ∷ []) (slice_index p 2) (inl refl)) has)
            (λ q k. let r = each q (inr k) in (r.0, (inl r.1.0, inl r.1.1)))
            (λ F h. goes F (subst (λ z. HasAt F t z) (append_assoc front (p ∷ []) ps) h)),
      )

  entered : (E : Ids) (l t : ℕ) (d : Context) (x : ℕ) (body : Body) → HasAll E l → Walk g t d → Goes insts stays l d t → is_front g t ≡ false
      → ((F : Ids) → HasAt F t (phis (text insts t)) → Fine P F x body) → Fine P E x (copies (phis (text insts t)) body)
  entered E l t d x body has w goes i rest =
      copied x t body (phis (text insts t)) E [] (onto insts Free E l t (ways.ByBranch (goes_branches g l t goes.enters.free)) has)
      (λ phi o. let r = phi_in (text insts t) phi o in (
        r.1,
        (
          has (slice_index phi 1) (inl (uses.types t phi r.0 r.1)),
          has (slice_index phi 3) (uses.values t phi r.0 r.1 (slice_index phi 3, l) (one_value insts admitted l t d w goes.enters i phi o)),
        ),
      ))
      rest

  enter : (l t : ℕ) (c d : Context) → Walk g l c → d ≡ behind (construct g l) l t c → Goes insts stays l d t → Walk g t d
  enter l t c d w e goes = step_walked g l t c d w (goes_on insts stays l t c d w (walked_runs no_pointers g clean l c w) (sym e) goes)

  -- an arm begins with no step
  arm_end : (E : Ids) {l : ℕ} {d : Context} {t : ℕ} {body : Body} → SpellsArm insts stays l d t body → (id : ℕ) → E id → at_end E body id
  arm_end E (spelled.out (spelled.leaves s)) id h = h
  arm_end E (spelled.out (spelled.comes goes taken (spelled.parts is head n m))) id h = h
  arm_end E (spelled.enters goes i s) id h = h

  -- ---- merge blocks and continue targets where nothing arrives

  no_next : (l u : ℕ) (k : Option Construct) → construct g l ≡ k → next_of k ≡ None → next_of (construct g l) ≡ Some u → ⊥
  no_next l u k is none some = cc (ap next_of is, none, some)

  select_unreached : {l one other m : ℕ} {c : Context} {first second : Body} → construct g l ≡ Some (ASelection m) → Walk g l c
      → end_of g l ≡ BranchIf one other → SpellsArm insts stays l (InSelection m ∷ c) one first → SpellsArm insts stays l (InSelection m ∷ c) other second
      → (x : ℕ) → arriving m (branches_of_body x first ++ branches_of_body x second) ≡ [] → IsUnreached g m
  select_unreached {l = l} {one = one} {other = other} {m = m} {c = c} {first = first} {second = second} is w end a b x none =
      let none_joins = construct_joins_none g l (ASelection m) is in
      let ga : GrownWay insts stays stays l c one first =
      spell_arm insts stays stays no_pointers clean spells.staying a c w (sym (ap (λ k. behind k l one c) is)) none_joins in
      let gb : GrownWay insts stays stays l c other second =
      spell_arm insts stays stays no_pointers clean spells.staying b c w (sym (ap (λ k. behind k l other c) is)) none_joins in
      let xs : List Branching = exits_of_way g Takes ga.way in
      let ys : List Branching = exits_of_way g Takes gb.way in
      merge_unreached no_pointers g clean l m c (walk_merge insts stays stays no_pointers clean spells.staying l m c (Some (ASelection m)) is w refl)
      (merge_role insts stays stays no_pointers clean spells.staying l m c (Some (ASelection m)) is w refl) (ap merge_of is)
      (λ p branch u. none_arrives m (branches_of_body x first ++ branches_of_body x second) none
      (elim (leads_either p m xs (ys ++ []) (of_the_ways no_pointers g clean Takes (more ga.way (more gb.way nowhere)) w
      (λ t h. sym (ap (λ ts. lists ts t) (target_end g l ∙ ap end_targets end)) ∙ h) m p
      (merge_front insts stays stays no_pointers clean spells.staying l m (Some (ASelection m)) is refl) branch u)) [
        | inl k ↦ arrives_left m (branches_of_body x first) (branches_of_body x second)
            (arrives_any x (stays l) m first (leads_arrives (named insts stays stays) (λ e. refl) p m xs (branches_of_body (stays l) first) ga.leaving k))
        | inr k ↦ arrives_right m (branches_of_body x first) (branches_of_body x second)
            (arrives_any x (stays l) m second (leads_arrives (named insts stays stays) (λ e. refl) p m ys (branches_of_body (stays l) second) gb.leaving
            (subst (λ z. Leads p m z) (append-nil ys) k)))
      ]))
      (λ p branch u. no_next l u.first (Some (ASelection m)) is refl u.next)

  switch_unreached : {l m : ℕ} {c : Context} {labels : List ℕ} {arms : Arms} → construct g l ≡ Some (ASwitch m) → Walk g l c
      → ((t : ℕ) → branches g l t ≡ true → lists labels t ≡ true) → SpellsArms insts stays l m c labels arms
      → (x : ℕ) → arriving m (branches_of_arms x arms) ≡ [] → IsUnreached g m
  switch_unreached {l = l} {m = m} {c = c} {labels = labels} {arms = arms} is w all a x none =
      let ga : GrownWays insts stays stays l c labels arms = spell_arms insts stays stays no_pointers clean spells.staying a w is in
      merge_unreached no_pointers g clean l m c (walk_merge insts stays stays no_pointers clean spells.staying l m c (Some (ASwitch m)) is w refl)
      (merge_role insts stays stays no_pointers clean spells.staying l m c (Some (ASwitch m)) is w refl) (ap merge_of is)
      (λ p branch u. none_arrives m (branches_of_arms x arms) none
      (arms_arrive_any x (stays l) m arms (leads_arrives (named insts stays stays) (λ e. refl) p m (exits_of_ways g Takes ga.ways)
      (branches_of_arms (stays l) arms) ga.leaving
      (of_the_ways no_pointers g clean Takes ga.ways w all m p
      (merge_front insts stays stays no_pointers clean spells.staying l m (Some (ASwitch m)) is refl) branch u))))
      (λ p branch u. no_next l u.first (Some (ASwitch m)) is refl u.next)

  module _ {h m n control : ℕ} {c : Context} {inner continuing : Body} (is : construct g h ≡ Some (ALoop m n)) (w : Walk g h c)
      (head : SpellsHead insts stays h (InBody h m n ∷ c) (loop_line m n control) (behind_phis (text insts h)) inner)
      (next : SpellsPart insts stays n (InNext h m ∷ c) continuing) where
    grown_head : GrownHead insts stays stays h c (loop_line m n control) (behind_phis (text insts h)) inner
    grown_head =
        spell_head insts stays stays no_pointers clean spells.staying head c w m n is refl refl (phis (text insts h)) (sym (in_front_and_behind (text insts h)))

    head_arrives : (x t p : ℕ) → is_front g t ≡ true → branches g p t ≡ true → (p ≡ h) ⊎ UnderEntered g h p → Arrives t (branches_of_body x inner)
    head_arrives x t p front branch u =
        arrives_any x (stays h) t inner (leads_arrives (named insts stays stays) (λ e. refl) p t (exits_of_ways g Takes grown_head.ways)
        (branches_of_body (stays h) inner) grown_head.leaving
        (of_the_ways no_pointers g clean Takes grown_head.ways w grown_head.arranged.all t p front branch u))

    loop_next_unreached : (x : ℕ) → arriving n (branches_of_body x inner) ≡ [] → IsUnreached g n
    loop_next_unreached x none =
        next_unreached no_pointers g clean h n (InNext h m ∷ c) (walk_next insts stays stays no_pointers clean spells.staying h m n c is w)
        (next_role insts stays stays no_pointers clean spells.staying h n c (Some (ALoop m n)) is w refl) (ap next_of is)
        (λ p branch u. none_arrives n (branches_of_body x inner) none
        (head_arrives x n p (next_front insts stays stays no_pointers clean spells.staying h n (Some (ALoop m n)) is refl) branch u))

    loop_merge_unreached : (x : ℕ) → arriving m (branches_of_body x inner ++ branches_of_body n continuing) ≡ [] → IsUnreached g m
    loop_merge_unreached x none =
        let front : is_front g m ≡ true = merge_front insts stays stays no_pointers clean spells.staying h m (Some (ALoop m n)) is refl in
        let gn : GrownPart insts stays stays n (InNext h m ∷ c) continuing =
        spell_part insts stays stays no_pointers clean spells.staying next (walk_next insts stays stays no_pointers clean spells.staying h m n c is w)
        (next_front insts stays stays no_pointers clean spells.staying h n (Some (ALoop m n)) is refl) in
        merge_unreached no_pointers g clean h m c (walk_merge insts stays stays no_pointers clean spells.staying h m c (Some (ALoop m n)) is w refl)
        (merge_role insts stays stays no_pointers clean spells.staying h m c (Some (ALoop m n)) is w refl) (ap merge_of is)
        (λ p branch u. none_arrives m (branches_of_body x inner ++ branches_of_body n continuing) none
        (arrives_left m (branches_of_body x inner) (branches_of_body n continuing) (head_arrives x m p front branch u)))
        (λ p branch u. none_arrives m (branches_of_body x inner ++ branches_of_body n continuing) none
        (arrives_right m (branches_of_body x inner) (branches_of_body n continuing)
        (leads_arrives (named insts stays stays) (λ e. refl) p m (exits g Takes gn.part) (branches_of_body n continuing) gn.leaving
        (of_the_region no_pointers g clean Takes gn.part h m p (ap next_of is) front branch u))))

  -- ---- whatever is spelled

  mutual
    pub read : {l : ℕ} {c : Context} {rest : List (List ℕ)} {body : Body} → Spells insts stays l c rest body → (E : Ids) → Walk g l c
        → (front : List (List ℕ)) → text insts l ≡ front ++ rest → HasAt E l front → (x : ℕ) → Fine P E x body
    read (spelled.steps {l = l} {c = c} {words = words} {rest = rest} {body = body} is d) E w front e has x = (
      line_used E l front words rest e (step_no_phi (opcode_in words) is) has (λ id. OfStep is),
      read d (With E (defined_in words)) w (front ++ words ∷ []) (e ∙ sym (append_assoc front (words ∷ []) rest))
          (behind_step insts Free E l front words is has) x,
    )
    read (spelled.finishes {l = l} {c = c} {words = words} is) E w front e has x =
        line_used E l front words [] e (end_no_phi (opcode_in words) is) has (λ id. OfEnd is)
    read (spelled.joined {l = l} {t = t} {c = c} {body = body} is goes i d) E w front e has x =
        let v : Walk g t c = enter l t c c w (sym (ap (λ k. behind k l t c) is)) goes in
        entered E l t c x body
        (at_the_end insts Free E l (front ++ branch_line t ∷ []) e (behind_silent insts Free E l front (branch_line t) (silent_branch t) has)) v goes i
        (λ F h. read d F v (phis (text insts t)) (sym (in_front_and_behind (text insts t))) h x)
    read (spelled.branches {l = l} {t = t} {c = c} {body = body} is b) E w front e has x =
        read_branch b c E w (sym (ap (λ k. behind k l t c) is))
        (ends_at l t (Branch t) (end_is l c front (branch_line t) w e) (one_has (t ∷ []) t (inl refl)))
        (at_the_end insts Free E l (front ++ branch_line t ∷ []) e (behind_silent insts Free E l front (branch_line t) (silent_branch t) has)) x
    read (spelled.splits {l = l} {condition = condition} {other = other} {on = on} {c = c} {exit = exit} {body = body} is s a) E w front e has x =
        let last : List ℕ = split_line condition on exit.target other in
        let end : HasAll E l =
        at_the_end insts Free E l (front ++ last ∷ []) e (behind_silent insts Free E l front last (silent_split condition on exit.target other) has) in
        let to = split_ends l c condition on exit.target other front w e in (
          split_condition E l condition on exit.target other front e has,
          sends E l c exit to.0 end s,
          read_arm a c E w (sym (ap (λ k. behind k l other c) is)) to.1 end x,
        )
    read (spelled.selects {l = l} {merge = m} {control = control} {condition = condition} {yes = one} {no = other} {c = c} {first = first} {second = second}
        {rest = rest} is a b p) E w front e has x =
        let sel : List ℕ = selection_line m control in
        let last : List ℕ = split_line condition true one other in
        let e2 : text insts l ≡ (front ++ sel ∷ []) ++ last ∷ [] = e ∙ sym (append_assoc front (sel ∷ []) (last ∷ [])) in
        let has2 : HasAt E l (front ++ sel ∷ []) = behind_silent insts Free E l front sel (silent_selection m control) has in
        let end : HasAll E l =
        at_the_end insts Free E l ((front ++ sel ∷ []) ++ last ∷ []) e2
        (behind_silent insts Free E l (front ++ sel ∷ []) last (silent_split condition true one other) has2) in
        let to = split_ends l c condition true one other (front ++ sel ∷ []) w e2 in (
          split_condition E l condition true one other (front ++ sel ∷ []) e2 has2,
          read_arm a c E w (sym (ap (λ k. behind k l one c) is)) to.0 end x,
          read_arm b c E w (sym (ap (λ k. behind k l other c) is)) to.1 end x,
          λ none id k. end id (promise_back insts Free l m id (ways.Unreached (inl (ap merge_of is))
              (select_unreached is w (end_is l c (front ++ sel ∷ []) last w e2) a b x none)) k),
          read_part p (AtFront P E (front_of insts stays m))
              (walk_merge insts stays stays no_pointers clean spells.staying l m c (Some (ASelection m)) is w refl)
              (behind_front insts Free stays E m (λ id k. has id (inl k))) m,
        )
    read (spelled.switches {l = l} {merge = m} {control = control} {selector = selector} {default = default} {cases = cases} {c = c} {arms = arms}
        {rest = rest} is a p) E w front e has x =
        let sel : List ℕ = selection_line m control in
        let last : List ℕ = instruction op.SWITCH (selector ∷ default ∷ pair_words cases) in
        let e2 : text insts l ≡ (front ++ sel ∷ []) ++ last ∷ [] = e ∙ sym (append_assoc front (sel ∷ []) (last ∷ [])) in
        let has2 : HasAt E l (front ++ sel ∷ []) = behind_silent insts Free E l front sel (silent_selection m control) has in
        let end : HasAll E l =
        at_the_end insts Free E l ((front ++ sel ∷ []) ++ last ∷ []) e2
        (behind_silent insts Free E l (front ++ sel ∷ []) last (silent_switch (selector ∷ default ∷ pair_words cases)) has2) in
        let at : end_of g l ≡ Switch default cases = end_is l c (front ++ sel ∷ []) last w e2 ∙ switch_end selector default cases in
        let to : (t : ℕ) → branches g l t ≡ lists (default ∷ seconds cases) t = (λ t. ap (λ ts. lists ts t) (target_end g l ∙ ap end_targets at)) in (
          plain_used E l (front ++ sel ∷ []) last [] e2 (silent_switch (selector ∷ default ∷ pair_words cases)).phi has2 selector
              (selector_used insts admitted l c (front ++ sel ∷ []) selector default cases w e2)
              (decides_switch selector (default ∷ pair_words cases)),
          read_arms a E w is (λ t h. to t ∙ has_firsts (default ∷ seconds cases) t h) end x,
          λ none id k. end id (promise_back insts Free l m id (ways.Unreached (inl (ap merge_of is))
              (switch_unreached is w (λ t h. firsts_has (default ∷ seconds cases) t (sym (to t) ∙ h)) a x none)) k),
          read_part p (AtFront P E (front_of insts stays m))
              (walk_merge insts stays stays no_pointers clean spells.staying l m c (Some (ASwitch m)) is w refl)
              (behind_front insts Free stays E m (λ id k. has id (inl k))) m,
        )

    pub read_branch : {l : ℕ} {d : Context} {t : ℕ} {body : Body} → SpellsBranch insts stays l d t body → (c : Context) (E : Ids) → Walk g l c
        → d ≡ behind (construct g l) l t c → branches g l t ≡ true → HasAll E l → (x : ℕ) → Fine P E x body
    read_branch (spelled.leaves {l = l} {d = d} {exit = exit} s) c E w e branch end x = sends E l d exit branch end s
    read_branch (spelled.comes {l = l} {h = h} {d = d} {values = values} {body = body} goes taken turn) c E w e branch end x =
        read_loop turn E (enter l h c d w e goes) (take_used E l h (phis (text insts h)) values end (phi_in (text insts h)) taken)
        (behind_header insts Free stays E h (onto insts Free E l h (ways.ByBranch branch) end)) x

    pub read_arm : {l : ℕ} {d : Context} {t : ℕ} {body : Body} → SpellsArm insts stays l d t body → (c : Context) (E : Ids) → Walk g l c
        → d ≡ behind (construct g l) l t c → branches g l t ≡ true → HasAll E l → (x : ℕ) → Fine P E x body
    read_arm (spelled.out b) c E w e branch end x = read_branch b c E w e branch end x
    read_arm (spelled.enters {l = l} {t = t} {d = d} {body = body} goes i s) c E w e branch end x =
        let v : Walk g t d = enter l t c d w e goes in
        entered E l t d t body end v goes i (λ F h. read s F v (phis (text insts t)) (sym (in_front_and_behind (text insts t))) h t)

    pub read_arms : {l merge : ℕ} {c : Context} {labels : List ℕ} {arms : Arms} → SpellsArms insts stays l merge c labels arms → (E : Ids) → Walk g l c
        → construct g l ≡ Some (ASwitch merge) → ((t : ℕ) → lists labels t ≡ true → branches g l t ≡ true) → HasAll E l → (x : ℕ) → ArmsFine P E x arms
    read_arms (spelled.last {l = l} {merge = m} {t = t} {c = c} {arm = arm} a) E w is to end x =
        read_arm a c E w (sym (ap (λ k. behind k l t c) is)) (to t (one_has (t ∷ []) t (inl refl))) end x
    read_arms (spelled.also {l = l} {merge = m} {t = t} {c = c} {labels = labels} {arm = arm} {arms = arms} a others) E w is to end x = (
      read_arm a c E w (sym (ap (λ k. behind k l t c) is)) (to t (one_has (t ∷ labels) t (inl refl))) end x,
      read_arms others E w is (λ u k. to u (right_holds (t == u) (lists labels u) k)) end x,
    )

    pub read_part : {l : ℕ} {c : Context} {body : Body} → SpellsPart insts stays l c body → (E : Ids) → Walk g l c → HasAt E l (phis (text insts l))
        → (x : ℕ) → Fine P E x body
    read_part (spelled.plain {l = l} {c = c} {body = body} none d) E w has x =
        read d E w (phis (text insts l)) (sym (in_front_and_behind (text insts l))) has x
    read_part (spelled.placed {l = l} {c = c} {body = body} turn) E w has x = read_loop turn E w tt (λ id k. inl (has id k)) x

    pub read_loop : {h : ℕ} {c : Context} {entry : Entry} {body : Body} → SpellsLoop insts stays h c entry body → (E : Ids) → Walk g h c → Carries E entry
        → HasAt (Headed E (front_of insts stays h)) h (phis (text insts h)) → (x : ℕ) → Fine P E x body
    read_loop (spelled.parts {h = h} {merge = m} {next = n} {control = control} {c = c} {entry = entry} {inner = inner} {continuing = continuing}
        {rest = rest} is head next merge) E w carries has x =
        let F : Ids = Headed E (front_of insts stays h) in
        let r = read_head head c F w m n is refl (silent_loop m n control) (phis (text insts h)) (sym (in_front_and_behind (text insts h))) has h in (
          carries,
          r.0,
          read_part next (AtFront P F (front_of insts stays n)) (walk_next insts stays stays no_pointers clean spells.staying h m n c is w)
              (behind_front insts Free stays F n (λ id k. has id (inl k))) n,
          λ none id k. r.1 id (promise_back insts Free h n id (ways.Unreached (inr (ap next_of is)) (loop_next_unreached is w head next h none)) k),
          λ none id k. r.1 id (promise_back insts Free h m id (ways.Unreached (inl (ap merge_of is)) (loop_merge_unreached is w head next h none)) k),
          read_part merge (AtFront P F (front_of insts stays m))
              (walk_merge insts stays stays no_pointers clean spells.staying h m c (Some (ALoop m n)) is w refl)
              (behind_front insts Free stays F m (λ id k. has id (inl k))) m,
        )

    -- a header, and what is available at its end
    pub read_head : {h : ℕ} {d : Context} {opening : List ℕ} {rest : List (List ℕ)} {body : Body} → SpellsHead insts stays h d opening rest body
        → (c : Context) (E : Ids) → Walk g h c → (m n : ℕ) → construct g h ≡ Some (ALoop m n) → d ≡ InBody h m n ∷ c → Silent opening
        → (front : List (List ℕ)) → text insts h ≡ front ++ rest → HasAt E h front → (x : ℕ) → Fine P E x body × HasAll (at_end E body) h
    read_head (spelled.begins {h = h} {d = d} {opening = opening} {words = words} {rest = rest} {body = body} step s) c E w m n is same quiet front e has x =
        let r = read_head s c (With E (defined_in words)) w m n is same quiet (front ++ words ∷ []) (e ∙ sym (append_assoc front (words ∷ []) rest))
        (behind_step insts Free E h front words step has) x in (
          (line_used E h front words rest e (step_no_phi (opcode_in words) step) has (λ id. OfStep step), r.0),
          r.1,
        )
    read_head (spelled.goes {h = h} {t = t} {d = d} {opening = opening} {body = body} a) c E w m n is same quiet front e has x =
        let e2 : text insts h ≡ (front ++ opening ∷ []) ++ branch_line t ∷ [] = e ∙ sym (append_assoc front (opening ∷ []) (branch_line t ∷ [])) in
        let end : HasAll E h =
        at_the_end insts Free E h ((front ++ opening ∷ []) ++ branch_line t ∷ []) e2
        (behind_silent insts Free E h (front ++ opening ∷ []) (branch_line t) (silent_branch t) (behind_silent insts Free E h front opening quiet has)) in (
          read_arm a c E w (same ∙ sym (ap (λ k. behind k h t c) is))
              (ends_at h t (Branch t) (end_is h c (front ++ opening ∷ []) (branch_line t) w e2) (one_has (t ∷ []) t (inl refl))) end x,
          λ id k. arm_end E a id (end id k),
        )
    read_head (spelled.parted {h = h} {condition = condition} {other = other} {on = on} {d = d} {opening = opening} {exit = exit} {body = body} s a)
        c E w m n is same quiet front e has x =
        let last : List ℕ = split_line condition on exit.target other in
        let e2 : text insts h ≡ (front ++ opening ∷ []) ++ last ∷ [] = e ∙ sym (append_assoc front (opening ∷ []) (last ∷ [])) in
        let has2 : HasAt E h (front ++ opening ∷ []) = behind_silent insts Free E h front opening quiet has in
        let end : HasAll E h =
        at_the_end insts Free E h ((front ++ opening ∷ []) ++ last ∷ []) e2
        (behind_silent insts Free E h (front ++ opening ∷ []) last (silent_split condition on exit.target other) has2) in
        let to = split_ends h c condition on exit.target other (front ++ opening ∷ []) w e2 in (
          (
            split_condition E h condition on exit.target other (front ++ opening ∷ []) e2 has2,
            sends E h d exit to.0 end s,
            read_arm a c E w (same ∙ sym (ap (λ k. behind k h other c) is)) to.1 end x,
          ),
          end,
        )

  -- ---- the function

  pub reads : Fine P Free f.label f.body
  reads =
      let w : Walk g f.label [] = walk insts stays f admitted spells in
      let first : is_first g f.label ≡ true =
      ap (is_first g) spells.label ∙ first_is g f.label (walked_label no_pointers g clean f.label [] w) in
      read spells.body Free w [] refl (at_first insts Free Free f.label first (λ id h. h)) f.label
