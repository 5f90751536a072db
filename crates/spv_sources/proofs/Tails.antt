-- What stands behind the OpPhi of a block where no rule is broken.
use Rattle.std.proofs.Common.{◌≡◌, ◌≢◌, inl, inr, ℕ, Bool, true, false, cond, not, ◌==◌, ◌&&◌, ◌||◌, List, [], ◌∷◌, map, filter, None, drop, refl, sym, ap, subst, ◌∙◌}
use Rattle.std.specs.List.{list_all}
use Rattle.spv_opcodes.specs.declared.op.TheConstants as op
use Rattle.spv_grammar.specs.Table.{row_of}
use Rattle.spv_module.specs.Code.{is_line}
use Rattle.spv_module.specs.Instruction.{Instruction, opcode}
use Rattle.spv_module.specs.Layout.{is_terminator}
use Rattle.spv_blocks.specs.Blocks.{Code, Ins, Phi, Selection, Loop, Other, End, Branch, BranchIf, Switch, Return, Unreachable, Open, is_first, is_switch, is_role, last_opens, names}
use Rattle.spv_blocks.specs.Cutting.{before_close, closes, ending, ins, is_function_end, is_label_mark, pairs, word}
use Rattle.spv_walk.specs.Faults.{is_last, suits_selection, suits_loop, merge_faults, selection_fits, loop_fits}
use Rattle.spv_walk.specs.Phis.{late_phis}
use Rattle.spv_walk.proofs.Unique.{both_left, both_right, either_holds, tells, equal_true}
use Rattle.spv_tree.specs.Sound.{is_step, is_one_of}
use Rattle.spv_spelling.specs.Whole.{block_marks, is_in_block}
use Rattle.spv_spelling.proofs.Merges.{passes, passes_both}
use Rattle.spv_sources.specs.Tail.{is_phi_inst, is_stop, IsClosing, Bare, Selected, Looped, IsTail, Steps, Closes, tail_end}

-- ---- what opcodes tell

-- what a test tells of one opcode and not of another
pub apart_by : (test : ℕ → Bool) (k x : ℕ) → test x ≡ false → test k ≡ true → (k == x) ≡ false
apart_by test k x none holds = elim (tells (k == x)) [
  | inl same ↦ absurd (cc (sym none ∙ ap test (sym (equal_true k x same)) ∙ holds))
  | inr other ↦ other
]

pub step_apart : (k x : ℕ) → is_step x ≡ false → is_step k ≡ true → (k == x) ≡ false
step_apart = apart_by is_step

-- what a step is not
pub record Plain (i : Instruction) : Type 0 where
  pub no_phi : is_phi_inst i ≡ false
  pub no_selection : (opcode i == op.SELECTION_MERGE) ≡ false
  pub no_loop : (opcode i == op.LOOP_MERGE) ≡ false
  pub no_terminator : is_terminator i ≡ false
  pub no_label : is_label_mark i ≡ false
  pub no_end : is_function_end i ≡ false
  pub no_line : is_line i ≡ false

pub step_plain : (i : Instruction) → is_step (opcode i) ≡ true → Plain i
unfolding row_of
step_plain i step = record {
  no_phi = step_apart (opcode i) op.PHI refl step;
  no_selection = step_apart (opcode i) op.SELECTION_MERGE refl step;
  no_loop = step_apart (opcode i) op.LOOP_MERGE refl step;
  no_terminator = rw (
    step_apart (opcode i) op.BRANCH refl step,
    step_apart (opcode i) op.BRANCH_CONDITIONAL refl step,
    step_apart (opcode i) op.SWITCH refl step,
    step_apart (opcode i) op.RETURN refl step,
    step_apart (opcode i) op.RETURN_VALUE refl step,
    step_apart (opcode i) op.UNREACHABLE refl step,
  ) refl;
  no_label = step_apart (opcode i) op.LABEL refl step;
  no_end = step_apart (opcode i) op.FUNCTION_END refl step;
  no_line = rw (step_apart (opcode i) op.LINE refl step, step_apart (opcode i) op.NO_LINE refl step) refl;
}

pub plain_other : (i : Instruction) → Plain i → ins i ≡ Other i.offset
plain_other i plain = rw (plain.no_phi, plain.no_selection, plain.no_loop) refl

pub plain_open : (i : Instruction) → Plain i → closes i ≡ false
plain_open i plain = rw (plain.no_terminator, plain.no_label, plain.no_end) refl

pub plain_stays : (i : Instruction) → Plain i → is_stop i ≡ false
plain_stays i plain = rw (plain.no_selection, plain.no_loop, plain.no_terminator) refl

-- ---- what stands in blocks

-- the opcodes of what stands in blocks, up to the end of the function
abbrev pub is_within_opcode : ℕ → Bool
is_within_opcode k =
    (k == op.LABEL || (k == op.BRANCH || k == op.BRANCH_CONDITIONAL || k == op.SWITCH || k == op.RETURN || k == op.RETURN_VALUE || k == op.UNREACHABLE) || is_step k || is_one_of block_marks k)
    || k == op.FUNCTION_END

abbrev pub is_within : Instruction → Bool
is_within i = is_in_block i || is_function_end i

pub within_no_line : (i : Instruction) → is_within i ≡ true → is_line i ≡ false
unfolding row_of
within_no_line i within = rw (apart_by is_within_opcode (opcode i) op.LINE refl within, apart_by is_within_opcode (opcode i) op.NO_LINE refl within) refl

pub either_false : (a b : Bool) → (a || b) ≡ false → (a ≡ false) × (b ≡ false)
either_false true b h = absurd (cc (h))
either_false false b h = (refl, h)

-- an instruction of a block before its terminator
pub data InBlock (i : Instruction) : Type 0 where
  APhi : is_phi_inst i ≡ true → InBlock i
  ALoopMerge : (opcode i == op.LOOP_MERGE) ≡ true → InBlock i
  ASelectionMerge : (opcode i == op.SELECTION_MERGE) ≡ true → InBlock i
  AStep : is_step (opcode i) ≡ true → InBlock i

in_marks : (i : Instruction) → is_one_of block_marks (opcode i) ≡ true → InBlock i
in_marks i h = elim (either_holds (opcode i == op.PHI) (opcode i == op.LOOP_MERGE || (opcode i == op.SELECTION_MERGE || false)) h) [
  | inl p ↦ APhi p
  | inr p ↦ elim (either_holds (opcode i == op.LOOP_MERGE) (opcode i == op.SELECTION_MERGE || false) p) [
    | inl q ↦ ALoopMerge q
    | inr q ↦ elim (either_holds (opcode i == op.SELECTION_MERGE) false q) [
      | inl r ↦ ASelectionMerge r
      | inr r ↦ absurd (cc (r))
    ]
  ]
]

pub in_block : (i : Instruction) → is_within i ≡ true → closes i ≡ false → InBlock i
in_block i within goes =
    let outer = either_false (is_terminator i || is_label_mark i) (is_function_end i) goes in
    let inner = either_false (is_terminator i) (is_label_mark i) outer.0 in
    elim (either_holds (is_in_block i) (is_function_end i) within) [
      | inr e ↦ absurd (cc (sym outer.1 ∙ e))
      | inl h ↦ elim (either_holds (is_label_mark i || is_terminator i || is_step (opcode i)) (is_one_of block_marks (opcode i)) h) [
        | inr m ↦ in_marks i m
        | inl g ↦ elim (either_holds (is_label_mark i || is_terminator i) (is_step (opcode i)) g) [
          | inr s ↦ AStep s
          | inl k ↦ elim (either_holds (is_label_mark i) (is_terminator i) k) [
            | inl e ↦ absurd (cc (sym inner.1 ∙ e))
            | inr e ↦ absurd (cc (sym inner.0 ∙ e))
          ]
        ]
      ]
    ]

-- none of them is a line mark
pub no_lines : (is : List Instruction) → list_all is_within is ≡ true → filter (λ i. not (is_line i)) (before_close is) ≡ before_close is
no_lines [] within = refl
no_lines (i ∷ is) within = elim (tells (closes i)) [
  | inl c ↦ rw c refl
  | inr c ↦
      let line = within_no_line i (both_left (is_within i) (list_all is_within is) within) in
      rw (c, line) (ap (λ z. i ∷ z) (no_lines is (both_right (is_within i) (list_all is_within is) within)))
]

-- ---- terminators

-- what is no terminator leaves a block goes
pub no_terminator : (i : Instruction) → is_terminator i ≡ false → ending i ≡ Open
no_terminator i h =
    let a = either_false (opcode i == op.BRANCH || opcode i == op.BRANCH_CONDITIONAL || opcode i == op.SWITCH || opcode i == op.RETURN || opcode i == op.RETURN_VALUE) (opcode i == op.UNREACHABLE) h in
    let b = either_false (opcode i == op.BRANCH || opcode i == op.BRANCH_CONDITIONAL || opcode i == op.SWITCH || opcode i == op.RETURN) (opcode i == op.RETURN_VALUE) a.0 in
    let c = either_false (opcode i == op.BRANCH || opcode i == op.BRANCH_CONDITIONAL || opcode i == op.SWITCH) (opcode i == op.RETURN) b.0 in
    let d = either_false (opcode i == op.BRANCH || opcode i == op.BRANCH_CONDITIONAL) (opcode i == op.SWITCH) c.0 in
    let e = either_false (opcode i == op.BRANCH) (opcode i == op.BRANCH_CONDITIONAL) d.0 in
    rw (e.0, e.1, d.1, c.1, b.1, a.1) refl

pub ends_by : (i : Instruction) → ending i ≢ Open → is_terminator i ≡ true
ends_by i goes = elim (tells (is_terminator i)) [
  | inl t ↦ t
  | inr t ↦ absurd (goes (no_terminator i t))
]

abbrev pub is_switch_end : End → Bool
is_switch_end (Branch l) = false
is_switch_end (BranchIf a b) = false
is_switch_end (Switch d ps) = true
is_switch_end Return = false
is_switch_end Unreachable = false
is_switch_end Open = false

switch_is : (i : Instruction) → (opcode i == op.SWITCH) ≡ true → is_switch_end (ending i) ≡ true
switch_is i s = let e = equal_true (opcode i) op.SWITCH s in rw e refl

-- ---- the tail

closed : (i : Instruction) (is : List Instruction) → ending i ≢ Open → (is_switch_end (ending i) ≡ true → is_switch None ≡ true) → IsClosing (i ∷ is)
closed i is goes switch = elim (tells (opcode i == op.SWITCH)) [
  | inl s ↦ absurd (cc (switch (switch_is i s)))
  | inr s ↦ Bare i is (ends_by i goes) s
]

-- the next instruction closes the block where nothing stands before that
next_closes : (is : List Instruction) → is_last (map ins (before_close is)) ≡ true → tail_end is ≢ Open
    → (t : Instruction) × (js : List Instruction) × (is ≡ t ∷ js) × (tail_end is ≡ ending t)
next_closes [] last goes = absurd (goes refl)
next_closes (t ∷ js) last goes = elim (tells (closes t)) [
  | inl c ↦ (t, js, refl, rw c refl)
  | inr c ↦ absurd (cc (rw c at last))
]

-- what is kept of instructions up to their end: the block does not stay open, no OpPhi stands late, its merge instruction stands last and suits the
-- terminator, and an OpSwitch has one
pub record IsKept (f : Code) (l : ℕ) (is : List Instruction) : Type 0 where
  pub within : list_all is_within is ≡ true
  pub goes : tail_end is ≢ Open
  pub early : late_phis (map ins (before_close is)) ≡ []
  pub merges : merge_faults f l (tail_end is) (map ins (before_close is)) ≡ []
  pub switch : is_switch_end (tail_end is) ≡ true → is_switch (last_opens (tail_end is) (map ins (before_close is))) ≡ true

-- before the terminator
module _ (i : Instruction) (is : List Instruction) (c : closes i ≡ false) where
  pub same_end : tail_end (i ∷ is) ≡ tail_end is
  same_end = rw c refl

  pub one_before : map ins (before_close (i ∷ is)) ≡ ins i ∷ map ins (before_close is)
  one_before = rw c refl

-- OpPhi and steps open nothing
no_opening : (e : End) (at : ℕ) → last_opens e (Other at ∷ []) ≡ None
no_opening (Branch l) at = refl
no_opening (BranchIf a b) at = refl
no_opening (Switch d ps) at = refl
no_opening Return at = refl
no_opening Unreachable at = refl
no_opening Open at = refl

pub other_opens : (e : End) (at : ℕ) (is : List Ins) → last_opens e (Other at ∷ is) ≡ last_opens e is
other_opens e at [] = no_opening e at
other_opens e at (i ∷ is) = refl

no_phi_opening : (e : End) (at t r : ℕ) (ps : List (ℕ × ℕ)) → last_opens e (Phi at t r ps ∷ []) ≡ None
no_phi_opening (Branch l) at t r ps = refl
no_phi_opening (BranchIf a b) at t r ps = refl
no_phi_opening (Switch d qs) at t r ps = refl
no_phi_opening Return at t r ps = refl
no_phi_opening Unreachable at t r ps = refl
no_phi_opening Open at t r ps = refl

pub phi_opens : (e : End) (at t r : ℕ) (ps : List (ℕ × ℕ)) (is : List Ins) → last_opens e (Phi at t r ps ∷ is) ≡ last_opens e is
phi_opens e at t r ps [] = no_phi_opening e at t r ps
phi_opens e at t r ps (i ∷ is) = refl

loop_is_last : (f : Code) (h : ℕ) (e : End) (is : List Ins) (m n : ℕ) → loop_fits f h e is m n ≡ true → (is_last is ≡ true) × (suits_loop e ≡ true)
loop_is_last f h e is m n p =
    let a = both_left (is_last is && suits_loop e && not (is_first f h) && is_role f h m) (cond (n == h) (names f n == 1) (is_role f h n)) p in
    let b = both_left (is_last is && suits_loop e && not (is_first f h)) (is_role f h m) a in
    let c = both_left (is_last is && suits_loop e) (not (is_first f h)) b in
    (both_left (is_last is) (suits_loop e) c, both_right (is_last is) (suits_loop e) c)

module _ (f : Code) (l : ℕ) where
  -- behind a step all of it is kept
  kept_behind : (i : Instruction) (is : List Instruction) → is_step (opcode i) ≡ true → IsKept f l (i ∷ is) → IsKept f l is
  kept_behind i is step kept =
      let plain = step_plain i step in
      let c = plain_open i plain in
      let other : map ins (before_close (i ∷ is)) ≡ Other i.offset ∷ map ins (before_close is) = one_before i is c ∙ ap (λ z. z ∷ map ins (before_close is)) (plain_other i plain) in
      record {
        within = both_right (is_within i) (list_all is_within is) kept.within;
        goes = λ o. kept.goes (same_end i is c ∙ o);
        early = subst (λ z. late_phis z ≡ []) other kept.early;
        merges = subst (λ e. merge_faults f l e (Other i.offset ∷ map ins (before_close is)) ≡ []) (same_end i is c) (subst (λ z. merge_faults f l (tail_end (i ∷ is)) z ≡ []) other kept.merges);
        switch = λ s.
            ap is_switch (sym (other_opens (tail_end is) i.offset (map ins (before_close is))) ∙ ap (λ e. last_opens e (Other i.offset ∷ map ins (before_close is))) (sym (same_end i is c)) ∙ ap (last_opens (tail_end (i ∷ is))) (sym other))
            ∙ kept.switch (ap is_switch_end (same_end i is c) ∙ s);
      }

  selected : (m : Instruction) (is : List Instruction) → opcode m ≡ op.SELECTION_MERGE → IsKept f l (m ∷ is) → IsClosing (m ∷ is)
  selected m is merge kept =
      let c : closes m ≡ false = rw merge refl in
      let same : map ins (before_close (m ∷ is)) ≡ Selection m.offset (word m 1) ∷ map ins (before_close is) = one_before m is c ∙ ap (λ z. z ∷ map ins (before_close is)) (rw merge refl) in
      let faults = subst (λ z. merge_faults f l (tail_end (m ∷ is)) z ≡ []) same kept.merges in
      let fits = (passes m.offset 403 (selection_fits f l (tail_end (m ∷ is)) (map ins (before_close is)) (word m 1)) (merge_faults f l (tail_end (m ∷ is)) (map ins (before_close is))) faults).holds in
      let two = both_left (is_last (map ins (before_close is)) && suits_selection (tail_end (m ∷ is))) (is_role f l (word m 1)) fits in
      let next = next_closes is (both_left (is_last (map ins (before_close is))) (suits_selection (tail_end (m ∷ is))) two) (λ o. kept.goes (same_end m is c ∙ o)) in
      let suits : suits_selection (ending next.0) ≡ true = ap suits_selection (sym (same_end m is c ∙ next.3)) ∙ both_right (is_last (map ins (before_close is))) (suits_selection (tail_end (m ∷ is))) two in
      subst (λ z. IsClosing (m ∷ z)) (sym next.2) (Selected m next.0 next.1 merge suits)

  looped : (m : Instruction) (is : List Instruction) → opcode m ≡ op.LOOP_MERGE → IsKept f l (m ∷ is) → IsClosing (m ∷ is)
  looped m is merge kept =
      let c : closes m ≡ false = rw merge refl in
      let same : map ins (before_close (m ∷ is)) ≡ Loop m.offset (word m 1) (word m 2) ∷ map ins (before_close is) = one_before m is c ∙ ap (λ z. z ∷ map ins (before_close is)) (rw merge refl) in
      let faults = subst (λ z. merge_faults f l (tail_end (m ∷ is)) z ≡ []) same kept.merges in
      let fits = (passes_both m.offset 403 405 (loop_fits f l (tail_end (m ∷ is)) (map ins (before_close is)) (word m 1) (word m 2)) (not (word m 2 == l)) (merge_faults f l (tail_end (m ∷ is)) (map ins (before_close is))) faults).holds in
      let two = loop_is_last f l (tail_end (m ∷ is)) (map ins (before_close is)) (word m 1) (word m 2) fits in
      let next = next_closes is two.0 (λ o. kept.goes (same_end m is c ∙ o)) in
      subst (λ z. IsClosing (m ∷ z)) (sym next.2) (Looped m next.0 next.1 merge (ap suits_loop (sym (same_end m is c ∙ next.3)) ∙ two.1))

  ended : (i : Instruction) (is : List Instruction) → closes i ≡ true → IsKept f l (i ∷ is) → IsClosing (i ∷ is)
  ended i is c kept =
      let end : tail_end (i ∷ is) ≡ ending i = rw c refl in
      let none : map ins (before_close (i ∷ is)) ≡ [] = rw c refl in
      closed i is (λ o. kept.goes (end ∙ o)) (λ s. ap is_switch (ap (last_opens (tail_end (i ∷ is))) (sym none)) ∙ kept.switch (ap is_switch_end end ∙ s))

  pub tail_is : (is : List Instruction) → IsKept f l is → IsTail is
  tail_is [] kept = absurd (kept.goes refl)
  tail_is (i ∷ is) kept = elim (tells (closes i)) [
    | inl c ↦ Closes (i ∷ is) (ended i is c kept)
    | inr c ↦ elim (in_block i (both_left (is_within i) (list_all is_within is) kept.within) c) [
      | AStep s ↦ Steps i is s (tail_is is (kept_behind i is s kept))
      | ASelectionMerge m ↦ Closes (i ∷ is) (selected i is (equal_true (opcode i) op.SELECTION_MERGE m) kept)
      | ALoopMerge m ↦ Closes (i ∷ is) (looped i is (equal_true (opcode i) op.LOOP_MERGE m) kept)
      | APhi p ↦
          let phi : ins i ≡ Phi i.offset (word i 1) (word i 2) (pairs (drop 3 i.words)) = rw p refl in
          absurd (cc (subst (λ z. late_phis z ≡ []) (one_before i is c ∙ ap (λ z. z ∷ map ins (before_close is)) phi) kept.early))
    ]
  ]
