-- The constructs of a spelled tree are formed: by recursion on how the tree is spelled.
use Rattle.std.proofs.Common.{◌≡◌, inl, inr, ℕ, suc, ◌≤◌, true, false, nat_eq, List, [], ◌∷◌, length, All, Contains, Option, Some, None, refl, sym, ap, subst, ◌∙◌, arith}
use Rattle.std.specs.List.{IsDistinct}
use Rattle.std.proofs.lemmas.List.Elements.{All-cons, All-nil}
use Rattle.spv_opcodes.specs.declared.op.TheConstants as op
use Rattle.spv_grammar.specs.Table.{row_of}
use Rattle.spv_module.specs.Instruction.{Instruction}
use Rattle.spv_blocks.specs.Blocks.{Code, ASelection, ASwitch, ALoop, Construct, construct, has, merge_of, seconds}
use Rattle.spv_blocks.specs.Cutting.{blocks_of}
use Rattle.spv_walk.specs.Contexts.{Context, InNext, behind}
use Rattle.spv_walk.specs.Walk.{Walk}
use Rattle.spv_walk.proofs.Steps.{step_walked}
use Rattle.spv_walk.proofs.Unique.{truth_apart}
use Rattle.spv_bodies.specs.Bodies.{Entry, ByBranch, InPlace, Front, Body, Leaves, Finishes, Step, Enters as EntersBlock, Splits, Selects, Switches, Loops, Arms, target, begins_at_branch}
use Rattle.spv_bodies.specs.Listing.{Branching, instruction, selection_line, pair_words}
use Rattle.spv_tree.specs.Fronts.{IsFilled}
use Rattle.spv_tree.specs.Sound.{IsSwitch, IsFormed, AreFormed, ArePlaced, ArmsArePlaced, is_step, opcode_in, opens, targets}
use Rattle.spv_spelling.specs.Spelling.{Spells, steps, finishes, joined, branches as branches_out, splits, selects, switches, SpellsBranch, leaves, comes, SpellsArm, out, enters, SpellsArms, last, also, SpellsPart, plain, placed, SpellsLoop, parts, SpellsHead, begins, goes, parted}
use Rattle.spv_spelling.specs.Text.{text, phis, copy_of, copies, firsts, front_of}
use Rattle.spv_spelling.specs.Whole.{IsAdmitted}
use Rattle.spv_normal_trees.proofs.Members.{has_cons, has_head, has_tail, has_nothing, firsts_has, firsts_distinct}
use Rattle.spv_sound_trees.proofs.Apart.{way_walk, merge_step, next_step}
use Rattle.spv_sound_trees.proofs.Instructions.{few_cases}
use Rattle.spv_sound_trees.proofs.Marks.{is_distinct}
use Rattle.spv_sound_trees.proofs.Nodes.{Node, next_line, begin_lines}

pub contains : (xs : List ℕ) (x : ℕ) → has xs x ≡ true → Contains xs x
contains [] x h = has_nothing x h
contains (y ∷ ys) x h = elim (has_cons y ys x h) [
  | inl e ↦ (0, omega arith, e)
  | inr e ↦ let r = contains ys x e in (suc r.0, omega (arith, r.1), r.2)
]

-- ---- copies

copy_step : (p : List ℕ) → is_step (opcode_in (copy_of p)) ≡ true
unfolding row_of
copy_step p = refl

copies_formed : (all : List Branching) (ps : List (List ℕ)) (body : Body) → IsFormed all body → IsFormed all (copies ps body)
copies_formed all [] body h = h
copies_formed all (p ∷ ps) body h = (copy_step p, copies_formed all ps body h)

copies_placed : (ps : List (List ℕ)) (body : Body) → ((front : Option Front) → ArePlaced front body) → (front : Option Front) → ArePlaced front (copies ps body)
copies_placed [] body h front = h front
copies_placed (p ∷ ps) body h front = copies_placed ps body h None

-- ---- bodies that begin at a branch

record BeginsAt (t : ℕ) (body : Body) : Type 0 where
  begins : begins_at_branch body ≡ true
  to : target body ≡ t

opens_at_branch : (body : Body) → begins_at_branch body ≡ true → opens body ≡ true
opens_at_branch (Leaves exit) h = refl
opens_at_branch (Finishes words) h = h
opens_at_branch (Step words body) h = truth_apart false h refl
opens_at_branch (EntersBlock label body) h = refl
opens_at_branch (Splits condition on exit body) h = refl
opens_at_branch (Selects control condition first second merge rest) h = h
opens_at_branch (Switches control selector cases arms merge rest) h = h
opens_at_branch (Loops (ByBranch values) header control inner next continuing merge rest) h = refl
opens_at_branch (Loops InPlace header control inner next continuing merge rest) h = h

-- each case names an arm
cases_named : (xs : List ℕ) (ps : List (ℕ × ℕ)) → ((x : ℕ) → has (seconds ps) x ≡ true → has xs x ≡ true) → All (λ case. Contains xs case.1) ps
cases_named xs [] h = All-nil (λ case. Contains xs case.1)
cases_named xs (p ∷ ps) h =
    All-cons (λ case. Contains xs case.1) p ps (contains xs p.1 (h p.1 (has_head p.1 (seconds ps) p.1 refl)))
    (cases_named xs ps (λ x k. h x (has_tail p.1 (seconds ps) x k)))

switch_of : (default : ℕ) (cases : List (ℕ × ℕ)) (arms : Arms) → targets arms ≡ firsts (default ∷ seconds cases) → length cases ≤ 16383 → IsSwitch cases arms
switch_of default cases arms e few = record {
  count = few;
  named = subst (λ xs. All (λ case. Contains xs case.1) cases) (sym e)
      (cases_named (firsts (default ∷ seconds cases)) cases (λ x h. firsts_has (default ∷ seconds cases) x (has_tail default (seconds cases) x h)));
  distinct = subst (λ xs. IsDistinct nat_eq xs) (sym e) (is_distinct (firsts (default ∷ seconds cases)) (firsts_distinct (default ∷ seconds cases)));
}

module _ (insts : List Instruction) (stays : ℕ → ℕ) where
  loop_begins : {h : ℕ} {c : Context} {values : List ℕ} {body : Body} → SpellsLoop insts stays h c (ByBranch values) body → BeginsAt h body
  loop_begins (parts e head p q) = record { begins = refl; to = refl }

  branch_begins : {l t : ℕ} {d : Context} {body : Body} → SpellsBranch insts stays l d t body → BeginsAt t body
  branch_begins (leaves x) = record { begins = refl; to = refl }
  branch_begins (comes g take s) = loop_begins s

  arm_begins : {l t : ℕ} {d : Context} {body : Body} → SpellsArm insts stays l d t body → BeginsAt t body
  arm_begins (out s) = branch_begins s
  arm_begins (enters g front s) = record { begins = refl; to = refl }

  arms_targets : {l merge : ℕ} {c : Context} {labels : List ℕ} {arms : Arms} → SpellsArms insts stays l merge c labels arms → targets arms ≡ labels
  arms_targets (last a) = ap (λ t. t ∷ []) (arm_begins a).to
  arms_targets (also {t = t} {arms = arms} a rest) = ap (λ u. u ∷ targets arms) (arm_begins a).to ∙ ap (λ us. t ∷ us) (arms_targets rest)

  -- ---- loops in place

  mutual
    pub rest_placed : {l : ℕ} {c : Context} {rest : List (List ℕ)} {body : Body} → Spells insts stays l c rest body → (front : Option Front)
        → ArePlaced front body
    rest_placed (steps is s) front = rest_placed s None
    rest_placed (finishes is) front = tt
    rest_placed (joined {t = t} {body = body} bare g other s) front = copies_placed (phis (text insts t)) body (rest_placed s) front
    rest_placed (branches_out bare s) front = branch_placed s front
    rest_placed (splits bare x a) front = arm_placed a None
    rest_placed (selects e a b p) front = (arm_placed a None, arm_placed b None, part_placed p)
    rest_placed (switches e arms p) front = (arms_placed arms, part_placed p)

    branch_placed : {l t : ℕ} {d : Context} {body : Body} → SpellsBranch insts stays l d t body → (front : Option Front) → ArePlaced front body
    branch_placed (leaves x) front = tt
    branch_placed (comes g take s) front = entered_placed s front

    arm_placed : {l t : ℕ} {d : Context} {body : Body} → SpellsArm insts stays l d t body → (front : Option Front) → ArePlaced front body
    arm_placed (out s) front = branch_placed s front
    arm_placed (enters {t = t} {body = body} g other s) front = copies_placed (phis (text insts t)) body (rest_placed s) None

    arms_placed : {l merge : ℕ} {c : Context} {labels : List ℕ} {arms : Arms} → SpellsArms insts stays l merge c labels arms → ArmsArePlaced arms
    arms_placed (last a) = arm_placed a None
    arms_placed (also a rest) = (arm_placed a None, arms_placed rest)

    part_placed : {l : ℕ} {c : Context} {body : Body} → SpellsPart insts stays l c body → ArePlaced (Some (front_of insts stays l)) body
    part_placed (plain {l = l} is s) = rest_placed s (Some (front_of insts stays l))
    part_placed (placed s) = loop_placed s

    loop_placed : {h : ℕ} {c : Context} {body : Body} → SpellsLoop insts stays h c InPlace body → ArePlaced (Some (front_of insts stays h)) body
    loop_placed (parts e head p q) = (refl, head_placed head, part_placed p, part_placed q)

    entered_placed : {h : ℕ} {c : Context} {values : List ℕ} {body : Body} → SpellsLoop insts stays h c (ByBranch values) body → (front : Option Front)
        → ArePlaced front body
    entered_placed (parts e head p q) front = (tt, head_placed head, part_placed p, part_placed q)

    head_placed : {h : ℕ} {d : Context} {opening : List ℕ} {rest : List (List ℕ)} {body : Body} → SpellsHead insts stays h d opening rest body
        → ArePlaced None body
    head_placed (begins is s) = head_placed s
    head_placed (goes a) = arm_placed a None
    head_placed (parted x a) = arm_placed a None

  -- ---- constructs

  module _ (admitted : IsAdmitted insts) (all : List Branching)
      (filled : (t : ℕ) (c : Context) → Walk (blocks_of insts) t c → IsFilled all (front_of insts stays t)) where
    abbrev f : Code
    f = blocks_of insts

    -- the merge block of a construct is walked
    merge_walk : (l m : ℕ) (c : Context) (k : Construct) → Walk f l c → construct f l ≡ Some k → merge_of (Some k) ≡ Some m → Walk f m c
    merge_walk l m c k w e is = step_walked f l m c c w (merge_step insts stays admitted.clean l m c k w e is)

    mutual
      pub rest_formed : {l : ℕ} {c : Context} {rest : List (List ℕ)} {body : Body} → Spells insts stays l c rest body → Node insts l c rest → IsFormed all body
      rest_formed (steps {l = l} {c = c} {words = words} {rest = rest} is s) n = (is, rest_formed s (next_line insts l c words rest n))
      rest_formed (finishes is) n = is
      rest_formed (joined {l = l} {t = t} {c = c} {body = body} bare g front s) n =
          copies_formed all (phis (text insts t)) body
          (rest_formed s (begin_lines insts t c (way_walk insts stays admitted.clean l t c c n.walk (ap (λ k. behind k l t c) bare) g)))
      rest_formed (branches_out {l = l} {t = t} {c = c} bare s) n = branch_formed s c n.walk (ap (λ k. behind k l t c) bare)
      rest_formed (splits {l = l} {other = other} {c = c} bare x a) n = ((arm_begins a).begins, arm_formed a c n.walk (ap (λ k. behind k l other c) bare))
      rest_formed (selects {l = l} {merge = m} {yes = t} {no = u} {c = c} e a b p) n =
          let w = merge_walk l m c (ASelection m) n.walk e refl in (
            (arm_begins a).begins,
            (arm_begins b).begins,
            filled m c w,
            arm_formed a c n.walk (ap (λ k. behind k l t c) e),
            arm_formed b c n.walk (ap (λ k. behind k l u c) e),
            part_formed p w,
          )
      rest_formed (switches {l = l} {merge = m} {control = control} {selector = selector} {default = default} {cases = cases} {c = c}
          {arms = arms} e labels p) n =
          let w = merge_walk l m c (ASwitch m) n.walk e refl in
          let line : List ℕ = instruction op.SWITCH (selector ∷ default ∷ pair_words cases) in (
            switch_of default cases arms (arms_targets labels)
                (few_cases insts admitted l selector default cases c (next_line insts l c (selection_line m control) (line ∷ []) n)),
            filled m c w,
            arms_formed labels n.walk e,
            part_formed p w,
          )

      branch_formed : {l t : ℕ} {d : Context} {body : Body} → SpellsBranch insts stays l d t body → (c : Context) → Walk f l c
          → behind (construct f l) l t c ≡ d → IsFormed all body
      branch_formed (leaves x) c w same = tt
      branch_formed (comes {l = l} {h = h} {d = d} g take s) c w same = loop_formed s (way_walk insts stays admitted.clean l h c d w same g)

      arm_formed : {l t : ℕ} {d : Context} {body : Body} → SpellsArm insts stays l d t body → (c : Context) → Walk f l c → behind (construct f l) l t c ≡ d
          → IsFormed all body
      arm_formed (out s) c w same = branch_formed s c w same
      arm_formed (enters {l = l} {t = t} {d = d} {body = body} g front s) c w same =
          copies_formed all (phis (text insts t)) body (rest_formed s (begin_lines insts t d (way_walk insts stays admitted.clean l t c d w same g)))

      arms_formed : {l merge : ℕ} {c : Context} {labels : List ℕ} {arms : Arms} → SpellsArms insts stays l merge c labels arms → Walk f l c
          → construct f l ≡ Some (ASwitch merge)
          → AreFormed all arms
      arms_formed (last {l = l} {t = t} {c = c} a) w e = ((arm_begins a).begins, arm_formed a c w (ap (λ k. behind k l t c) e))
      arms_formed (also {l = l} {t = t} {c = c} a rest) w e = ((arm_begins a).begins, arm_formed a c w (ap (λ k. behind k l t c) e), arms_formed rest w e)

      part_formed : {l : ℕ} {c : Context} {body : Body} → SpellsPart insts stays l c body → Walk f l c → IsFormed all body
      part_formed (plain {l = l} {c = c} is s) w = rest_formed s (begin_lines insts l c w)
      part_formed (placed s) w = loop_formed s w

      loop_formed : {h : ℕ} {c : Context} {entry : Entry} {body : Body} → SpellsLoop insts stays h c entry body → Walk f h c → IsFormed all body
      loop_formed (parts {h = h} {merge = m} {next = n} {c = c} e head p q) w =
          let next = step_walked f h n c (InNext h m ∷ c) w (next_step insts stays admitted.clean h n m c w e) in
          let merge = merge_walk h m c (ALoop m n) w e refl in
          let inner = head_formed head c (λ t. ap (λ k. behind k h t c) e) (begin_lines insts h c w) in
          (inner.0, filled h c w, filled n (InNext h m ∷ c) next, filled m c merge, inner.1, part_formed p next, part_formed q merge)

      head_formed : {h : ℕ} {d : Context} {opening : List ℕ} {rest : List (List ℕ)} {body : Body} → SpellsHead insts stays h d opening rest body → (c : Context)
          → ((t : ℕ) → behind (construct f h) h t c ≡ d) → Node insts h c rest → (opens body ≡ true) × IsFormed all body
      head_formed (begins {h = h} {words = words} {rest = rest} is s) c same n =
          let r = head_formed s c same (next_line insts h c words rest n) in (r.0, (is, r.1))
      head_formed (goes {t = t} {body = body} a) c same n = (opens_at_branch body (arm_begins a).begins, arm_formed a c n.walk (same t))
      head_formed (parted {other = other} x a) c same n = (refl, ((arm_begins a).begins, arm_formed a c n.walk (same other)))
