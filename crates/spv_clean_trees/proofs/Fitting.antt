-- The OpPhi of a front of a spelled tree name each block that branches there once.
use Rattle.std.proofs.Common.{◌≡◌, inl, inr, ℕ, ◌+◌, Bool, true, false, not, cond, ◌&&◌, ◌==◌, List, [], ◌∷◌, ◌++◌, length, map, nat_eq, slice_index, refl, sym, ap, ap₂, subst, ◌∙◌, arith, append-nil, All}
use Rattle.std.specs.List.{AllByRecursion, flat_map, list_all, list_any}
use Rattle.std.proofs.lemmas.Bool.Decides.{eqb_tells}
use Rattle.std.proofs.lemmas.List.{map-append}
use Rattle.std.proofs.lemmas.List.Elements.{All-head, All-tail}
use Rattle.spv_opcodes.specs.declared.op.TheConstants as op
use Rattle.spv_module.specs.Instruction.{Instruction, opcode}
use Rattle.spv_blocks.specs.Blocks.{Code, branches, has, is_first, seconds, times}
use Rattle.spv_blocks.specs.Cutting.{blocks_of, body_of, word}
use Rattle.spv_walk.specs.Contexts.{Context}
use Rattle.spv_walk.specs.Phis.{names_each_once, phi_faults, phi_fits, predecessors}
use Rattle.spv_walk.specs.Walk.{Walk}
use Rattle.spv_walk.proofs.Unique.{tells, both_hold, both_left, both_right, equal_true, false_equal, not_true, true_equal}
use Rattle.spv_bodies.specs.Bodies.{Function, Parameter}
use Rattle.spv_bodies.specs.Listing.{Branching, arriving, from_block, from_others, in_order}
use Rattle.spv_tree.specs.Branches.{branches_in}
use Rattle.spv_normal.specs.Lines.{behind_label, line, up_to_terminator}
use Rattle.spv_normal.specs.Order.{is_front}
use Rattle.spv_spelling.specs.Clean.{IsClean}
use Rattle.spv_spelling.specs.Spelling.{SpellsFunction}
use Rattle.spv_spelling.specs.Text.{front_of, parameter_of, phi_pairs, phis, text}
use Rattle.spv_spelling.specs.Whole.{IsAdmitted}
use Rattle.spv_spelling.proofs.Merges.{passes}
use Rattle.spv_normal_trees.specs.Laws.{AreBranchings, IsBranching}
use Rattle.spv_normal_trees.proofs.Arranging.{walked}
use Rattle.spv_normal_trees.proofs.FrontPhis.{all_pass, is_predecessor, named_stands, stands_among}
use Rattle.spv_normal_trees.proofs.GoodPhis.{no_phi_lines, phi_body, phi_lines_are}
use Rattle.spv_normal_trees.proofs.Listed.{branches_of_blocks, one_block}
use Rattle.spv_normal_trees.proofs.Members.{filter_has, has_head, has_tail}
use Rattle.spv_normal_trees.proofs.RegionExits.{Among}
use Rattle.spv_normal_trees.proofs.Texts.{cut}
use Rattle.spv_structured.specs.Structured.{FrontFits, ParameterFits}

-- ---- OpPhi of a clean function

-- one that is of no pointer and names each predecessor once
pub record PhiFits (is_pointer : ℕ → Bool) (f : Code) (t : ℕ) (words : List ℕ) : Type 0 where
  pub value : is_pointer (slice_index words 1) ≡ false
  pub once : names_each_once (predecessors f t) (seconds (phi_pairs words)) ≡ true

module _ (is_pointer : ℕ → Bool) (f : Code) (t : ℕ) where
  -- by induction on the instructions
  phis_fit : (is : List Instruction) → phi_faults is_pointer f t (body_of is) ≡ []
      → AllByRecursion (PhiFits is_pointer f t) (phis (map line (up_to_terminator is)))
  phis_fit [] h = tt
  phis_fit (i ∷ is) h = elim (eqb_tells (opcode i) op.PHI) [
    | inl (e, p) ↦
        let fine = passes i.offset 406 (phi_fits is_pointer f t (word i 1) (phi_pairs i.words)) (phi_faults is_pointer f t (body_of is))
        (ap (phi_faults is_pointer f t) (sym (phi_body i is p)) ∙ h) in
        let own = both_left (not (is_first f t) && not (is_pointer (word i 1))) (names_each_once (predecessors f t) (seconds (phi_pairs i.words))) fine.holds in
        let fits : PhiFits is_pointer f t i.words = record {
          value = not_true (is_pointer (word i 1)) (both_right (not (is_first f t)) (not (is_pointer (word i 1))) own);
          once = both_right (not (is_first f t) && not (is_pointer (word i 1))) (names_each_once (predecessors f t) (seconds (phi_pairs i.words))) fine.holds;
        } in
        subst (λ z. AllByRecursion (PhiFits is_pointer f t) z) (sym (phi_lines_are i is p)) (fits, phis_fit is fine.none)
    | inr (e, p) ↦ subst (λ z. AllByRecursion (PhiFits is_pointer f t) z) (sym (no_phi_lines i is e)) tt
  ]

-- ---- branches from one block

nothing_from : (s : ℕ) (es : List Branching) → length (from_block es s) ≡ 0 → from_block es s ≡ []
nothing_from s [] e = refl
nothing_from s (x ∷ xs) e = elim (tells (x.0 == s)) [
  | inl t ↦ let more = ap (λ b. length (cond b (x ∷ from_block xs s) (from_block xs s))) t in absurd (omega (arith, e, more))
  | inr t ↦ rw t (nothing_from s xs (sym (ap (λ b. length (cond b (x ∷ from_block xs s) (from_block xs s))) t) ∙ e))
]

-- where there is one, that block is named once
one_from : (s : ℕ) (es : List Branching) → length (from_block es s) ≡ 1 → map (λ b. b.0) (from_block es s) ≡ s ∷ []
one_from s [] e = absurd (omega (arith, e))
one_from s (x ∷ xs) e = elim (tells (x.0 == s)) [
  | inl t ↦
      let more = ap (λ b. length (cond b (x ∷ from_block xs s) (from_block xs s))) t in
      let none : length (from_block xs s) ≡ 0 = omega (arith, e, more) in
      rw t (ap₂ (λ y ys. y ∷ map (λ b. b.0) ys) (equal_true x.0 s t) (nothing_from s xs none))
  | inr t ↦ rw t (one_from s xs (sym (ap (λ b. length (cond b (x ∷ from_block xs s) (from_block xs s))) t) ∙ e))
]

one_stands : (s : ℕ) (es : List Branching) → length (from_block es s) ≡ 1 → has (map (λ b. b.0) es) s ≡ true
one_stands s [] e = absurd (omega (arith, e))
one_stands s (x ∷ xs) e = elim (tells (x.0 == s)) [
  | inl t ↦ has_head x.0 (map (λ b. b.0) xs) s (equal_true x.0 s t)
  | inr t ↦ has_tail x.0 (map (λ b. b.0) xs) s (one_stands s xs (sym (ap (λ b. length (cond b (x ∷ from_block xs s) (from_block xs s))) t) ∙ e))
]

no_others : (blocks : List ℕ) (es : List Branching) → ((e : Branching) → Among e es → list_any (nat_eq e.0) blocks ≡ true) → from_others es blocks ≡ []
no_others blocks [] h = refl
no_others blocks (x ∷ xs) h =
    ap (λ b. cond (not b) (x ∷ from_others xs blocks) (from_others xs blocks)) (h x (inl refl)) ∙ no_others blocks xs (λ e k. h e (inr k))

-- ---- tests of all

all_first : (p : ℕ → Bool) (es : List Branching) → ((e : Branching) → Among e es → p e.0 ≡ true) → list_all p (map (λ b. b.0) es) ≡ true
all_first p [] h = refl
all_first p (x ∷ xs) h = both_hold (p x.0) (list_all p (map (λ b. b.0) xs)) (h x (inl refl)) (all_first p xs (λ e k. h e (inr k)))

all_named : (p : ℕ → Bool) (r : ℕ → ℕ) (xs : List ℕ) → ((x : ℕ) → has xs x ≡ true → p (r x) ≡ true) → list_all p (map r xs) ≡ true
all_named p r [] h = refl
all_named p r (x ∷ xs) h = both_hold (p (r x)) (list_all p (map r xs)) (h x (has_head x xs x refl)) (all_named p r xs (λ z k. h z (has_tail x xs z k)))

-- a number stands as often where others are not taken for it
renamed_times : (r : ℕ → ℕ) (xs : List ℕ) (b : ℕ) → ((x : ℕ) → has xs x ≡ true → r x ≡ r b → x ≡ b) → times (map r xs) (r b) ≡ times xs b
renamed_times r [] b h = refl
renamed_times r (x ∷ xs) b h = elim (eqb_tells x b) [
  | inl (e, p) ↦ rw (e, true_equal (r x) (r b) (ap r p)) (ap (λ k. k + 1) (renamed_times r xs b (λ z k. h z (has_tail x xs z k))))
  | inr (e, p) ↦ rw (e, false_equal (r x) (r b) (λ s. p (h x (has_head x xs x refl) s))) (renamed_times r xs b (λ z k. h z (has_tail x xs z k)))
]

-- ---- the front t

module _ (insts : List Instruction) (stays : ℕ → ℕ) (tree : Function) (admitted : IsAdmitted insts) (spells : SpellsFunction insts stays tree)
    (is_pointer : ℕ → Bool) (clean : IsClean is_pointer (blocks_of insts)) where
  abbrev f : Code
  f = blocks_of insts

  abbrev all : List Branching
  all = branches_in tree

  are : AreBranchings insts stays all
  are = branches_of_blocks insts stays tree (record { admitted = admitted; spells = spells })

  -- a branching comes from a block
  record Came (t : ℕ) (e : Branching) : Type 0 where
    block : ℕ
    branch : branches f block t ≡ true
    named : e.0 ≡ stays block

  came : (t : ℕ) (es : List Branching) → All (IsBranching insts stays) es → (e : Branching) → Among e (arriving t es) → Came t e
  came t [] h e k = absurd k
  came t (x ∷ xs) h e k = elim (tells (x.1.target == t)) [
    | inl s ↦
        let own = All-head (IsBranching insts stays) x xs h in
        elim (subst (λ b. Among e (cond b (x ∷ arriving t xs) (arriving t xs))) s k) [
          | inl same ↦ subst (λ z. Came t z) same
              (record { block = own.block; branch = subst (λ u. branches f own.block u ≡ true) (equal_true x.1.target t s) own.branch; named = own.named })
          | inr later ↦ came t xs (All-tail (IsBranching insts stays) x xs h) e later
        ]
    | inr s ↦ came t xs (All-tail (IsBranching insts stays) x xs h) e (subst (λ b. Among e (cond b (x ∷ arriving t xs) (arriving t xs))) s k)
  ]

  -- the OpPhi of a walked block
  pub walked_phis : (t : ℕ) (c : Context) → Walk f t c → AllByRecursion (PhiFits is_pointer f t) (phis (text insts t))
  walked_phis t c w =
      let i = walked is_pointer f clean t c w in
      phis_fit is_pointer f t (behind_label insts t) (ap (phi_faults is_pointer f t) (sym (cut insts t i.block_of i.at).body) ∙ i.settled_there.phis)

  module _ (t : ℕ) (front : is_front f t ≡ true) where
    abbrev here : List Branching
    here = arriving t all

    in_turn : (xs : List ℕ) → ((x : ℕ) → has xs x ≡ true → branches f x t ≡ true) → map (λ b. b.0) (flat_map (from_block here) (map stays xs)) ≡ map stays xs
    in_turn [] h = refl
    in_turn (x ∷ xs) h =
        map-append (λ b. b.0) (from_block here (stays x)) (flat_map (from_block here) (map stays xs))
        ∙ ap₂ (λ y ys. y ++ ys) (one_from (stays x) here (are.once x t (h x (has_head x xs x refl)) front)) (in_turn xs (λ z k. h z (has_tail x xs z k)))

    -- an OpPhi that names each predecessor once: where it names a block, that branches there, and it names each that does
    named_branches : (xs : List ℕ) → names_each_once (predecessors f t) xs ≡ true → (x : ℕ) → has xs x ≡ true → branches f x t ≡ true
    named_branches xs e x h =
        let only : list_all (λ q. has (predecessors f t) q) xs ≡ true =
        both_right (list_all (λ q. times xs q == 1) (predecessors f t)) (list_all (λ q. has (predecessors f t) q) xs) e in
        (filter_has (λ q. branches f q t) (map (λ b. b.label) f) x (all_pass (λ q. has (predecessors f t) q) xs x only h)).1

    branching_named : (xs : List ℕ) → names_each_once (predecessors f t) xs ≡ true → (b : ℕ) → branches f b t ≡ true → times xs b ≡ 1
    branching_named xs e b h =
        let counted : list_all (λ q. times xs q == 1) (predecessors f t) ≡ true =
        both_left (list_all (λ q. times xs q == 1) (predecessors f t)) (list_all (λ q. has (predecessors f t) q) xs) e in
        equal_true (times xs b) 1 (all_pass (λ q. times xs q == 1) (predecessors f t) b counted (is_predecessor f b t h))

    -- so the branches come in its order, and no other does
    in_its_order : (xs : List ℕ) → names_each_once (predecessors f t) xs ≡ true → map (λ b. b.0) (in_order (map stays xs) here) ≡ map stays xs
    in_its_order xs e =
        let others : from_others here (map stays xs) ≡ [] =
        no_others (map stays xs) here (λ g k. let c = came t all are.each g k in
        subst (λ s. list_any (nat_eq s) (map stays xs) ≡ true) (sym c.named)
        (stands_among stays xs c.block (named_stands xs c.block (branching_named xs e c.block c.branch)))) in
        ap (λ z. map (λ b. b.0) (flat_map (from_block here) (map stays xs) ++ z)) others
        ∙ ap (map (λ b. b.0)) (append-nil (flat_map (from_block here) (map stays xs))) ∙ in_turn xs (named_branches xs e)

    each_once : (xs : List ℕ) → names_each_once (predecessors f t) xs ≡ true
        → names_each_once (map (λ b. b.0) here) (map (λ b. b.0) (in_order (map stays xs) here)) ≡ true
    each_once xs e =
        ap (names_each_once (map (λ b. b.0) here)) (in_its_order xs e)
        ∙ both_hold (list_all (λ q. times (map stays xs) q == 1) (map (λ b. b.0) here)) (list_all (λ q. has (map (λ b. b.0) here) q) (map stays xs))
        (all_first (λ q. times (map stays xs) q == 1) here (λ g k. let c = came t all are.each g k in
        true_equal (times (map stays xs) g.0) 1
        (ap (times (map stays xs)) c.named
        ∙ renamed_times stays xs c.block
        (λ x h s. one_block insts stays tree admitted spells t front x c.block (named_branches xs e x h) c.branch s)
        ∙ branching_named xs e c.block c.branch)))
        (all_named (λ q. has (map (λ b. b.0) here) q) stays xs (λ x h. one_stands (stays x) here (are.once x t (named_branches xs e x h) front)))

    parameters_fit : (ps : List (List ℕ)) → AllByRecursion (PhiFits is_pointer f t) ps
        → AllByRecursion (ParameterFits is_pointer here) (map (parameter_of stays) ps)
    parameters_fit [] h = tt
    parameters_fit (p ∷ ps) h = (record { value = h.0.value; named = each_once (seconds (phi_pairs p)) h.0.once }, parameters_fit ps h.1)

    parameters_named : (ps : List (List ℕ)) → AllByRecursion (PhiFits is_pointer f t) ps
        → AllByRecursion (λ (p : Parameter). map (λ b. b.0) (in_order p.parents here) ≡ p.parents) (map (parameter_of stays) ps)
    parameters_named [] h = tt
    parameters_named (p ∷ ps) h = (in_its_order (seconds (phi_pairs p)) h.0.once, parameters_named ps h.1)

    pub front_fits : (c : Context) → Walk f t c → FrontFits is_pointer all (front_of insts stays t)
    front_fits c w = parameters_fit (phis (text insts t)) (walked_phis t c w)

    -- each parameter names the blocks of the branches that come, in their order
    pub front_named : (c : Context) → Walk f t c
        → AllByRecursion (λ (p : Parameter). map (λ b. b.0) (in_order p.parents here) ≡ p.parents) (front_of insts stays t).parameters
    front_named c w = parameters_named (phis (text insts t)) (walked_phis t c w)
