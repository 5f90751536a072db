-- An OpPhi of a block that is no front has a pair: some block branches there.
use Rattle.std.proofs.Common.{◌≡◌, ◌⊎◌, inl, inr, ℕ, ◌≤◌, Bool, true, false, not, cond, ◌&&◌, ◌||◌, ◌==◌, List, [], ◌∷◌, ◌++◌, length, map, drop, refl, sym, ap, subst, ◌∙◌, arith}
use Rattle.std.specs.List.{AllByRecursion, filter, list_all}
use Rattle.spv_opcodes.specs.declared.op.TheConstants as op
use Rattle.spv_module.specs.Code.{is_line}
use Rattle.spv_module.specs.First.{here, unless}
use Rattle.spv_module.specs.Instruction.{Instruction, opcode}
use Rattle.spv_module.specs.Layout.{is_terminator}
use Rattle.spv_blocks.specs.Blocks.{Code, Ins, Phi, Selection, Loop, Other, construct, has, is_first, is_label, names, seconds, times}
use Rattle.spv_blocks.specs.Cutting.{blocks_of, ins, pairs, word}
use Rattle.spv_walk.specs.Contexts.{Context}
use Rattle.spv_walk.specs.Phis.{late_phis, names_each_once, phi_faults, phi_fits, predecessors}
use Rattle.spv_walk.specs.Walk.{Walk, Starts, Entered, Stopped, Merged, Continued}
use Rattle.spv_walk.proofs.Unique.{both_left, both_right, equal_true, leads_branches, not_true, role_once, tries_leads, truth_apart}
use Rattle.spv_normal.specs.Lines.{block_insts}
use Rattle.spv_normal.specs.Order.{is_front, is_loop}
use Rattle.spv_spelling.specs.Clean.{IsClean, no_pointers}
use Rattle.spv_spelling.proofs.Settled.{settled}
use Rattle.spv_texts.proofs.Functions.{nothing_both, nothing_here, nothing_unless}
use Rattle.spv_normal_trees.proofs.Arranging.{labelled}
use Rattle.spv_normal_trees.proofs.FrontPhis.{all_pass, is_predecessor}
use Rattle.spv_normal_trees.proofs.Texts.{closed_block, cut_here}

-- ---- a block that no front is has a predecessor, or is the first

abbrev pub IsCome : Code → ℕ → Type 0
IsCome f l = (is_first f l ≡ true) ⊎ ((p : ℕ) × (has (predecessors f l) p ≡ true))

named_is_front : (f : Code) (l : ℕ) → names f l ≡ 1 → is_front f l ≡ true
named_is_front f l e = ap (λ n. not (n == 0) || is_loop (construct f l)) e

pub is_come : (f : Code) (l : ℕ) (c : Context) → Walk f l c → is_front f l ≡ false → IsCome f l
is_come f l c (Starts i h) n = inl h
is_come f l c (Entered b t d w tried enters) n = inr (b, is_predecessor f b l (leads_branches f b d l (tries_leads f b d l tried)))
is_come f l c (Stopped b t d w tried stops) n = inr (b, is_predecessor f b l (leads_branches f b d l (tries_leads f b d l tried)))
is_come f l c (Merged b m d w runs merges role) n = truth_apart (is_front f l) (named_is_front f l (role_once f b l role)) n
is_come f l c (Continued b m d w runs next role) n = truth_apart (is_front f l) (named_is_front f l (role_once f b l role)) n

-- ---- OpPhi among instructions

abbrev pub HasPair : Instruction → Type 0
HasPair i = (opcode i == op.PHI) ≡ true → 4 ≤ length i.words

abbrev among : List Instruction → List Ins
among is = map ins (filter (λ j. not (is_line j)) is)

phi_is_no_line : (i : Instruction) → opcode i ≡ op.PHI → is_line i ≡ false
phi_is_no_line i p = ap (λ o. o == op.LINE || o == op.NO_LINE) p

phi_among : (i : Instruction) (is : List Instruction) → opcode i ≡ op.PHI
    → among (i ∷ is) ≡ Phi i.offset (word i 1) (word i 2) (pairs (drop 3 i.words)) ∷ among is
phi_among i is p =
    ap (λ (b : Bool). map ins (cond (not b) (i ∷ filter (λ j. not (is_line j)) is) (filter (λ j. not (is_line j)) is))) (phi_is_no_line i p)
    ∙ ap (λ o. cond (o == op.PHI) (Phi i.offset (word i 1) (word i 2) (pairs (drop 3 i.words)))
    (cond (o == op.SELECTION_MERGE) (Selection i.offset (word i 1))
    (cond (o == op.LOOP_MERGE) (Loop i.offset (word i 1) (word i 2)) (Other i.offset))) ∷ among is) p

-- what is no OpPhi is looked past
late_other : (s l : Bool) (at m n : ℕ) (others : List Ins) → late_phis (cond s (Selection at m) (cond l (Loop at m n) (Other at)) ∷ others) ≡ late_phis others
late_other true l at m n others = refl
late_other false true at m n others = refl
late_other false false at m n others = refl

faults_other : (q : ℕ → Bool) (f : Code) (t : ℕ) (s l : Bool) (at m n : ℕ) (others : List Ins)
    → phi_faults q f t (cond s (Selection at m) (cond l (Loop at m n) (Other at)) ∷ others) ≡ late_phis others
faults_other q f t true l at m n others = refl
faults_other q f t false true at m n others = refl
faults_other q f t false false at m n others = refl

other_ins : (i : Instruction) → (opcode i == op.PHI) ≡ false
    → ins i ≡ cond (opcode i == op.SELECTION_MERGE) (Selection i.offset (word i 1))
    (cond (opcode i == op.LOOP_MERGE) (Loop i.offset (word i 1) (word i 2)) (Other i.offset))
other_ins i e =
    ap (λ (b : Bool). cond b (Phi i.offset (word i 1) (word i 2) (pairs (drop 3 i.words)))
    (cond (opcode i == op.SELECTION_MERGE) (Selection i.offset (word i 1))
    (cond (opcode i == op.LOOP_MERGE) (Loop i.offset (word i 1) (word i 2)) (Other i.offset)))) e

no_pair_wanted : (i : Instruction) → (opcode i == op.PHI) ≡ false → HasPair i
no_pair_wanted i e h = truth_apart (opcode i == op.PHI) h e

-- behind another instruction none stands; induction on the instructions
late_pairs : (is : List Instruction) → late_phis (among is) ≡ [] → AllByRecursion HasPair is
late_pairs [] h = tt
late_pairs (i ∷ is) h = by (opcode i == op.PHI) (is_line i) refl refl h (λ g. late_pairs is g)
  where
    by : (phi line : Bool) → (opcode i == op.PHI) ≡ phi → is_line i ≡ line
        → late_phis (map ins (cond (not (is_line i)) (i ∷ filter (λ j. not (is_line j)) is) (filter (λ j. not (is_line j)) is))) ≡ []
        → (late_phis (among is) ≡ [] → AllByRecursion HasPair is) → HasPair i × AllByRecursion HasPair is
    by true line e g h more = absurd (cc (sym (ap late_phis (phi_among i is (equal_true (opcode i) op.PHI e))) ∙ h))
    by false true e g h more = (
      no_pair_wanted i e,
      more (sym (ap (λ (b : Bool). late_phis (map ins (cond (not b) (i ∷ filter (λ j. not (is_line j)) is) (filter (λ j. not (is_line j)) is)))) g) ∙ h),
    )
    by false false e g h more = (
      no_pair_wanted i e,
      more (sym (ap (λ (b : Bool). late_phis (map ins (cond (not b) (i ∷ filter (λ j. not (is_line j)) is) (filter (λ j. not (is_line j)) is)))) g
          ∙ ap (λ x. late_phis (x ∷ among is)) (other_ins i e)
          ∙ late_other (opcode i == op.SELECTION_MERGE) (opcode i == op.LOOP_MERGE) i.offset (word i 1) (word i 2) (among is)) ∙ h),
    )

some_pair : (ws : List ℕ) (p : ℕ) → times (seconds (pairs ws)) p ≡ 1 → 1 ≤ length ws
some_pair [] p h = absurd (cc)
some_pair (x ∷ ws) p h = omega arith

long_enough : (ws : List ℕ) → 1 ≤ length (drop 3 ws) → 4 ≤ length ws
long_enough [] h = absurd (omega arith)
long_enough (a ∷ []) h = absurd (omega arith)
long_enough (a ∷ b ∷ []) h = absurd (omega arith)
long_enough (a ∷ b ∷ c ∷ []) h = absurd (omega arith)
long_enough (a ∷ b ∷ c ∷ d ∷ ws) h = omega arith

fits_pair : (f : Code) (l : ℕ) (i : Instruction) → IsCome f l → phi_fits no_pointers f l (word i 1) (pairs (drop 3 i.words)) ≡ true → 4 ≤ length i.words
fits_pair f l i come fits =
    elim come [
      | inl first ↦ truth_apart (is_first f l) first (not_true (is_first f l) (both_left (not (is_first f l)) (not (no_pointers (word i 1))) free))
      | inr p ↦ long_enough i.words (some_pair (drop 3 i.words) p.0
          (equal_true (times parents p.0) 1
          (all_pass (λ q. times parents q == 1) (predecessors f l) p.0
          (both_left (list_all (λ q. times parents q == 1) (predecessors f l)) (list_all (λ q. has (predecessors f l) q) parents) once) p.1)))
    ]
  where
    parents : List ℕ
    parents = seconds (pairs (drop 3 i.words))

    free : (not (is_first f l) && not (no_pointers (word i 1))) ≡ true
    free = both_left (not (is_first f l) && not (no_pointers (word i 1))) (names_each_once (predecessors f l) parents) fits

    once : names_each_once (predecessors f l) parents ≡ true
    once = both_right (not (is_first f l) && not (no_pointers (word i 1))) (names_each_once (predecessors f l) parents) fits

-- those in front of a block have pairs; induction on the instructions
front_pairs : (f : Code) (l : ℕ) → IsCome f l → (is : List Instruction) → phi_faults no_pointers f l (among is) ≡ [] → AllByRecursion HasPair is
front_pairs f l come [] h = tt
front_pairs f l come (i ∷ is) h = by (opcode i == op.PHI) (is_line i) refl refl h (λ g. front_pairs f l come is g)
  where
    by : (phi line : Bool) → (opcode i == op.PHI) ≡ phi → is_line i ≡ line
        → phi_faults no_pointers f l (map ins (cond (not (is_line i)) (i ∷ filter (λ j. not (is_line j)) is) (filter (λ j. not (is_line j)) is))) ≡ []
        → (phi_faults no_pointers f l (among is) ≡ [] → AllByRecursion HasPair is) → HasPair i × AllByRecursion HasPair is
    by true line e g h more =
        let found = sym (ap (phi_faults no_pointers f l) (phi_among i is (equal_true (opcode i) op.PHI e))) ∙ h in
        let fits = phi_fits no_pointers f l (word i 1) (pairs (drop 3 i.words)) in
        let parts = nothing_both (here i.offset (unless fits 406)) (phi_faults no_pointers f l (among is)) found in (
          λ same. fits_pair f l i come (nothing_unless fits 406 (nothing_here i.offset (unless fits 406) parts.left)),
          more parts.right,
        )
    by false true e g h more = (
      no_pair_wanted i e,
      more (sym (ap (λ (b : Bool). phi_faults no_pointers f l
          (map ins (cond (not b) (i ∷ filter (λ j. not (is_line j)) is) (filter (λ j. not (is_line j)) is)))) g) ∙ h),
    )
    by false false e g h more = (
      no_pair_wanted i e,
      late_pairs is
          (sym (ap (λ (b : Bool). phi_faults no_pointers f l
          (map ins (cond (not b) (i ∷ filter (λ j. not (is_line j)) is) (filter (λ j. not (is_line j)) is)))) g
          ∙ ap (λ x. phi_faults no_pointers f l (x ∷ among is)) (other_ins i e)
          ∙ faults_other no_pointers f l (opcode i == op.SELECTION_MERGE) (opcode i == op.LOOP_MERGE) i.offset (word i 1) (word i 2) (among is)) ∙ h),
    )

-- ---- the instructions of a block

terminator_is_no_phi : (i : Instruction) → is_terminator i ≡ true → (opcode i == op.PHI) ≡ false
terminator_is_no_phi i t = by (opcode i == op.PHI) refl
  where
    by : (b : Bool) → (opcode i == op.PHI) ≡ b → b ≡ false
    by true e =
        truth_apart (is_terminator i) t
        (ap (λ o. o == op.BRANCH || o == op.BRANCH_CONDITIONAL || o == op.SWITCH || o == op.RETURN || o == op.RETURN_VALUE || o == op.UNREACHABLE)
        (equal_true (opcode i) op.PHI e))
    by false e = refl

pairs_push : (is : List Instruction) (i : Instruction) → AllByRecursion HasPair is → HasPair i → AllByRecursion HasPair (is ++ i ∷ [])
pairs_push [] i h g = (g, tt)
pairs_push (x ∷ is) i h g = (h.0, pairs_push is i h.1 g)

pub block_pairs : (insts : List Instruction) (l : ℕ) → IsClean no_pointers (blocks_of insts) → is_label (blocks_of insts) l ≡ true
    → is_front (blocks_of insts) l ≡ false → AllByRecursion HasPair (block_insts insts l)
block_pairs insts l clean label front =
    let f : Code = blocks_of insts in
    let at = labelled f l label in
    let walk = clean.walked l at.0 at.1 in
    let s = settled no_pointers f clean l walk.0 at.0 walk.1 at.1 in
    let closed = closed_block insts l at.0 at.1 s.ends in
    let cut = cut_here insts l at.0 at.1 s.ends in
    let come = is_come f l walk.0 walk.1 front in
    let faults : phi_faults no_pointers f l (among closed.inner) ≡ [] =
    ap (λ z. phi_faults no_pointers f l (among z)) (sym closed.before) ∙ ap (phi_faults no_pointers f l) (sym cut.body) ∙ s.phis in
    subst (λ z. AllByRecursion HasPair z) (sym closed.whole)
    (pairs_push closed.inner closed.last (front_pairs f l come closed.inner faults)
    (no_pair_wanted closed.last (terminator_is_no_phi closed.last closed.terminates)))
