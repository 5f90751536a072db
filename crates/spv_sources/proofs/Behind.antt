-- The lines of a block by its instructions, and what they are where no rule is broken.
use Rattle.std.proofs.Common.{◌≡◌, ◌≢◌, inl, inr, ℕ, suc, ◌+◌, ◌*◌, ◌%◌, Bool, true, false, cond, not, ◌==◌, ◌||◌, List, [], ◌∷◌, ◌++◌, map, length, take, drop, Option, Some, None, All, get_or, append_assoc, refl, sym, ap, subst, ◌∙◌, arith}
use Rattle.std.specs.List.{list_all}
use Rattle.std.proofs.lemmas.List.Elements.{All-nil, All-cons}
use Rattle.spv_opcodes.specs.declared.op.TheConstants as op
use Rattle.spv_grammar.specs.Table.{row_of}
use Rattle.spv_module.specs.Code.{is_line}
use Rattle.spv_module.specs.Instruction.{Instruction, opcode}
use Rattle.spv_module.specs.Layout.{is_terminator}
use Rattle.spv_module.specs.First.{unless}
use Rattle.spv_blocks.specs.Blocks.{Code, Construct, Ins, Phi, Other, End, Branch, BranchIf, Switch, Return, Unreachable, Open, is_switch, last_opens, construct, block, is_label, is_some_block, of_block}
use Rattle.spv_blocks.specs.Cutting.{before_close, body_of, block_of, blocks_of, closes, ins, is_function_end, is_label_mark, pairs, word}
use Rattle.spv_walk.specs.Contexts.{Context}
use Rattle.spv_walk.specs.Faults.{merge_faults, end_rules, same_twice}
use Rattle.spv_walk.specs.Phis.{late_phis, phi_faults, phi_fits}
use Rattle.spv_walk.specs.Walk as walk
use Rattle.spv_walk.proofs.Unique.{both_left, both_right, both_hold, left_holds, right_holds, not_true, tells, equal_true, true_equal}
use Rattle.spv_bodies.specs.Listing.{instruction}
use Rattle.spv_normal.specs.Lines.{line, up_to_terminator, behind_label}
use Rattle.spv_tree.specs.Sound.{is_step, opcode_in}
use Rattle.spv_tree.specs.Tree.{words_of}
use Rattle.spv_spelling.specs.Text.{text, is_phi, phis, behind_phis}
use Rattle.spv_spelling.specs.Clean.{IsSettled, no_pointers}
use Rattle.spv_spelling.specs.Whole.{IsText, IsAdmitted, is_in_block}
use Rattle.spv_spelling.proofs.Merges.{passes}
use Rattle.spv_spelling.proofs.Settled.{clean_is_settled, none_right}
use Rattle.spv_sources.specs.Tail.{is_phi_inst, phi_insts, behind_phi_insts, is_stop, before_stop, from_stop, IsClosing, Bare, Selected, Looped, IsTail, Steps, Closes, tail_end, tail_opens, AreSteps}
use Rattle.spv_sources.proofs.Tails.{step_apart, step_plain, plain_other, plain_open, plain_stays, is_within, no_lines, is_switch_end, IsKept, same_end, one_before, other_opens, phi_opens, tail_is}

-- ---- steps before what closes a block

stops : (is : List Instruction) → IsClosing is → (before_stop is ≡ []) × (from_stop is ≡ is)
stops _ (Bare t is term bare) =
    let stop : is_stop t ≡ true = right_holds (opcode t == op.SELECTION_MERGE || opcode t == op.LOOP_MERGE) (is_terminator t) term in
    (rw stop refl, rw stop refl)
stops _ (Selected m t is merge suits) = (rw merge refl, rw merge refl)
stops _ (Looped m t is merge suits) = (rw merge refl, rw merge refl)

steps_here : (is : List Instruction) → IsClosing is → AreSteps is
steps_here is closing =
    let s = stops is closing in
    record {
      lines = ap (λ z. map line (up_to_terminator z)) (sym s.1) ∙ ap (λ z. words_of z ++ map line (up_to_terminator (from_stop is))) (sym s.0);
      steps = subst (All (λ (i : Instruction). is_step (opcode i) ≡ true)) (sym s.0) (All-nil (λ (i : Instruction). is_step (opcode i) ≡ true));
      closing = subst IsClosing (sym s.1) closing;
      opens = ap tail_opens (sym s.1);
      ends = ap tail_end (sym s.1);
    }

step_line : (i : Instruction) → is_step (opcode i) ≡ true → line i ≡ i.words
unfolding row_of
step_line i step = rw (step_apart (opcode i) op.BRANCH_CONDITIONAL refl step) refl

steps_more : (i : Instruction) (is : List Instruction) → is_step (opcode i) ≡ true → AreSteps is → AreSteps (i ∷ is)
steps_more i is step before =
    let plain = step_plain i step in
    let from : from_stop (i ∷ is) ≡ from_stop is = rw (plain_stays i plain) refl in
    let front : before_stop (i ∷ is) ≡ i ∷ before_stop is = rw (plain_stays i plain) refl in
    let upto : up_to_terminator (i ∷ is) ≡ i ∷ up_to_terminator is = rw plain.no_terminator refl in
    let body : body_of (i ∷ is) ≡ Other i.offset ∷ body_of is = rw (plain_open i plain, plain.no_line, plain_other i plain) refl in
    let end : tail_end (i ∷ is) ≡ tail_end is = same_end i is (plain_open i plain) in
    record {
      lines = ap (map line) upto ∙ ap (λ z. z ∷ map line (up_to_terminator is)) (step_line i step) ∙ ap (λ z. i.words ∷ z) before.lines
          ∙ ap (λ z. words_of z ++ map line (up_to_terminator (from_stop is))) (sym front) ∙ ap (λ z. words_of (before_stop (i ∷ is)) ++ map line (up_to_terminator z)) (sym from);
      steps = subst (All (λ (i : Instruction). is_step (opcode i) ≡ true)) (sym front) (All-cons (λ (i : Instruction). is_step (opcode i) ≡ true) i (before_stop is) step before.steps);
      closing = subst IsClosing (sym from) before.closing;
      opens = ap (λ e. last_opens e (body_of (i ∷ is))) end ∙ ap (last_opens (tail_end is)) body ∙ other_opens (tail_end is) i.offset (body_of is) ∙ before.opens ∙ ap tail_opens (sym from);
      ends = end ∙ before.ends ∙ ap tail_end (sym from);
    }

-- a tail is steps, and what closes it
pub steps_of : (is : List Instruction) → IsTail is → AreSteps is
steps_of _ (Steps i is step tail) = steps_more i is step (steps_of is tail)
steps_of _ (Closes is closing) = steps_here is closing

-- ---- OpPhi in front of lines

opcode_made : (n k : ℕ) → k ≡ 250 → ((n + 1) * 65536 + k) % 65536 ≡ 250
opcode_made n k e = omega arith

split_opcode : (ws : List ℕ) → opcode_in (instruction op.BRANCH_CONDITIONAL ws) ≡ op.BRANCH_CONDITIONAL
split_opcode ws = opcode_made (length ws) 250 refl

pub same_phi : (i : Instruction) → is_phi (line i) ≡ is_phi_inst i
same_phi i = elim (tells (opcode i == op.BRANCH_CONDITIONAL)) [
  | inl s ↦
      let e = equal_true (opcode i) op.BRANCH_CONDITIONAL s in
      let made : line i ≡ instruction op.BRANCH_CONDITIONAL (take 3 (drop 1 i.words)) = rw s refl in
      ap is_phi made ∙ ap (λ k. k == op.PHI) (split_opcode (take 3 (drop 1 i.words))) ∙ ap (λ k. k == op.PHI) (sym e)
  | inr s ↦ let same : line i ≡ i.words = rw s refl in ap is_phi same
]

pub phi_line_is : (i : Instruction) → is_phi_inst i ≡ true → line i ≡ i.words
phi_line_is i p = let e = equal_true (opcode i) op.PHI p in rw e refl

phi_no_terminator : (i : Instruction) → is_phi_inst i ≡ true → is_terminator i ≡ false
phi_no_terminator i p = let e = equal_true (opcode i) op.PHI p in rw e refl

-- the first line decides
first_line : (i : Instruction) (is : List Instruction) → (rest : List Instruction) × (up_to_terminator (i ∷ is) ≡ i ∷ rest)
first_line i is = elim (tells (is_terminator i)) [
  | inl t ↦ ([], rw t refl)
  | inr t ↦ (up_to_terminator is, rw t refl)
]

pub phi_lines_are : (is : List Instruction) → phis (map line (up_to_terminator is)) ≡ words_of (phi_insts is)
phi_lines_are [] = refl
phi_lines_are (i ∷ is) = elim (tells (is_phi_inst i)) [
  | inl p ↦
      let upto : up_to_terminator (i ∷ is) ≡ i ∷ up_to_terminator is = rw (phi_no_terminator i p) refl in
      let first : is_phi (line i) ≡ true = same_phi i ∙ p in
      ap (λ z. phis (map line z)) upto ∙ rw (first, p) (ap (λ z. z ∷ phis (map line (up_to_terminator is))) (phi_line_is i p) ∙ ap (λ z. i.words ∷ z) (phi_lines_are is))
  | inr p ↦
      let one = first_line i is in
      let first : is_phi (line i) ≡ false = same_phi i ∙ p in
      ap (λ z. phis (map line z)) one.1 ∙ rw (first, p) refl
]

pub lines_behind : (is : List Instruction) → behind_phis (map line (up_to_terminator is)) ≡ map line (up_to_terminator (behind_phi_insts is))
lines_behind [] = refl
lines_behind (i ∷ is) = elim (tells (is_phi_inst i)) [
  | inl p ↦
      let upto : up_to_terminator (i ∷ is) ≡ i ∷ up_to_terminator is = rw (phi_no_terminator i p) refl in
      let first : is_phi (line i) ≡ true = same_phi i ∙ p in
      ap (λ z. behind_phis (map line z)) upto ∙ rw (first, p) (lines_behind is)
  | inr p ↦
      let one = first_line i is in
      let first : is_phi (line i) ≡ false = same_phi i ∙ p in
      ap (λ z. behind_phis (map line z)) one.1 ∙ rw (first, p) (ap (map line) (sym one.1))
]

-- ---- the block of a label

-- the OpLabel that begins it
pub record Begins (insts : List Instruction) (l : ℕ) : Type 0 where
  pub mark : Instruction
  pub found : block (blocks_of insts) l ≡ Some (block_of mark (behind_label insts l))

pub begins : (insts : List Instruction) (l : ℕ) → is_label (blocks_of insts) l ≡ true → Begins insts l
begins [] l h = absurd (cc (h))
begins (i ∷ is) l h = elim (tells (is_label_mark i)) [
  | inr m ↦
      let same : blocks_of (i ∷ is) ≡ blocks_of is = rw m refl in
      let rest : behind_label (i ∷ is) l ≡ behind_label is l = rw m refl in
      let more = begins is l (ap (λ f. is_label f l) (sym same) ∙ h) in
      record { mark = more.mark; found = ap (λ f. block f l) same ∙ more.found ∙ ap (λ z. Some (block_of more.mark z)) (sym rest) }
  | inl m ↦ elim (tells (word i 1 == l)) [
    | inl e ↦ record { mark = i; found = rw (m, e) refl }
    | inr e ↦
        let same : block (blocks_of (i ∷ is)) l ≡ block (blocks_of is) l = rw (m, e) refl in
        let rest : behind_label (i ∷ is) l ≡ behind_label is l = rw (m, e) refl in
        let more = begins is l (ap is_some_block (sym same) ∙ h) in
        record { mark = more.mark; found = same ∙ more.found ∙ ap (λ z. Some (block_of more.mark z)) (sym rest) }
  ]
]

-- ---- what stands behind a label

all_listed : (p : Instruction → Bool) (is : List Instruction) → All (λ (i : Instruction). p i ≡ true) is → list_all p is ≡ true
all_listed p [] all = refl
all_listed p (i ∷ is) all = both_hold (p i) (list_all p is) (all 0 i (omega arith)) (all_listed p is (λ k d h. all (suc k) d (omega arith)))

listed_more : (p : Instruction → Bool) (is js : List Instruction) → list_all p is ≡ true → list_all p js ≡ true → list_all p (is ++ js) ≡ true
listed_more p [] js a b = b
listed_more p (i ∷ is) js a b = both_hold (p i) (list_all p (is ++ js)) (both_left (p i) (list_all p is) a) (listed_more p is js (both_right (p i) (list_all p is) a) b)

listed_weaker : (p q : Instruction → Bool) → ((i : Instruction) → p i ≡ true → q i ≡ true) → (is : List Instruction) → list_all p is ≡ true
    → list_all q is ≡ true
listed_weaker p q weaker [] a = refl
listed_weaker p q weaker (i ∷ is) a = both_hold (q i) (list_all q is) (weaker i (both_left (p i) (list_all p is) a)) (listed_weaker p q weaker is (both_right (p i) (list_all p is) a))

-- no label before
abbrev no_label : Instruction → Bool
no_label i = not (is_label_mark i)

skips : (is js : List Instruction) (l : ℕ) → list_all no_label is ≡ true → behind_label (is ++ js) l ≡ behind_label js l
skips [] js l none = refl
skips (i ∷ is) js l none =
    let here = not_true (is_label_mark i) (both_left (no_label i) (list_all no_label is) none) in
    rw here (skips is js l (both_right (no_label i) (list_all no_label is) none))

behind_all : (p : Instruction → Bool) (is : List Instruction) (l : ℕ) → list_all p is ≡ true → list_all p (behind_label is l) ≡ true
behind_all p [] l all = refl
behind_all p (i ∷ is) l all = elim (tells (cond (is_label_mark i) (word i 1 == l) false)) [
  | inl h ↦ rw h (both_right (p i) (list_all p is) all)
  | inr h ↦ rw h (behind_all p is l (both_right (p i) (list_all p is) all))
]

pub within_behind : (insts : List Instruction) (l : ℕ) → IsText insts → list_all is_within (behind_label insts l) ≡ true
within_behind insts l text =
    let head : no_label text.function ≡ true = rw text.begins refl in
    let params = listed_weaker (λ i. opcode i == op.FUNCTION_PARAMETER) no_label (λ i h. let e = equal_true (opcode i) op.FUNCTION_PARAMETER h in rw e refl) text.parameters
    (all_listed (λ i. opcode i == op.FUNCTION_PARAMETER) text.parameters (λ k d h. true_equal (opcode (get_or text.parameters k d)) op.FUNCTION_PARAMETER (text.takes k d h))) in
    let front = both_hold (no_label text.function) (list_all no_label text.parameters) head params in
    let label : is_within text.label ≡ true = rw text.first refl in
    let inside = listed_weaker is_in_block is_within (λ i h. left_holds (is_in_block i) (is_function_end i) h) text.blocks (all_listed is_in_block text.blocks text.inside) in
    let last : is_within text.last ≡ true = right_holds (is_in_block text.last) (is_function_end text.last) (true_equal (opcode text.last) op.FUNCTION_END text.ends) in
    let blocks = listed_more is_within (text.label ∷ text.blocks) (text.last ∷ []) (both_hold (is_within text.label) (list_all is_within text.blocks) label inside) (both_hold (is_within text.last) true last refl) in
    let apart = append_assoc (text.function ∷ text.parameters) (text.label ∷ text.blocks) (text.last ∷ []) in
    subst (λ z. list_all is_within z ≡ true) (sym (ap (λ z. behind_label z l) (text.same ∙ apart) ∙ skips (text.function ∷ text.parameters) ((text.label ∷ text.blocks) ++ text.last ∷ []) l front))
    (behind_all is_within ((text.label ∷ text.blocks) ++ text.last ∷ []) l blocks)

-- ---- OpPhi where no rule is broken

abbrev pub phi_inst_fits : Code → (label : ℕ) → Instruction → Bool
phi_inst_fits f l i = phi_fits no_pointers f l (word i 1) (pairs (drop 3 i.words))

-- the same of instructions of which the first may be OpPhi
pub record IsWhole (f : Code) (l : ℕ) (is : List Instruction) : Type 0 where
  pub within : list_all is_within is ≡ true
  pub goes : tail_end is ≢ Open
  pub phis : phi_faults no_pointers f l (map ins (before_close is)) ≡ []
  pub merges : merge_faults f l (tail_end is) (map ins (before_close is)) ≡ []
  pub switch : is_switch_end (tail_end is) ≡ true → is_switch (last_opens (tail_end is) (map ins (before_close is))) ≡ true

-- what is told of the instructions behind a label
pub record IsBlock (f : Code) (l : ℕ) (is : List Instruction) : Type 0 where
  pub tail : IsTail (behind_phi_insts is)
  pub fit : list_all (phi_inst_fits f l) (phi_insts is) ≡ true
  pub opens : tail_opens is ≡ tail_opens (behind_phi_insts is)
  pub ends : tail_end is ≡ tail_end (behind_phi_insts is)

phi_no_line : (i : Instruction) → opcode i ≡ op.PHI → is_line i ≡ false
phi_no_line i e = rw e refl

phi_ins : (i : Instruction) → opcode i ≡ op.PHI → ins i ≡ Phi i.offset (word i 1) (word i 2) (pairs (drop 3 i.words))
phi_ins i e = rw e refl

phi_open : (i : Instruction) → opcode i ≡ op.PHI → closes i ≡ false
phi_open i e = rw e refl

module _ (f : Code) (l : ℕ) where
  phi_first : (i : Instruction) (is : List Instruction) → opcode i ≡ op.PHI → IsWhole f l (i ∷ is)
      → (phi_inst_fits f l i ≡ true) × IsWhole f l is
  phi_first i is e whole =
      let c = phi_open i e in
      let ps : List (ℕ × ℕ) = pairs (drop 3 i.words) in
      let before : List Ins = map ins (before_close is) in
      let same : map ins (before_close (i ∷ is)) ≡ Phi i.offset (word i 1) (word i 2) ps ∷ before = one_before i is c ∙ ap (λ z. z ∷ before) (rw e refl) in
      let one = passes i.offset 406 (phi_fits no_pointers f l (word i 1) ps) (phi_faults no_pointers f l before) (subst (λ z. phi_faults no_pointers f l z ≡ []) same whole.phis) in (
        one.holds,
        record {
          within = both_right (is_within i) (list_all is_within is) whole.within;
          goes = λ o. whole.goes (same_end i is c ∙ o);
          phis = one.none;
          merges = subst (λ e. merge_faults f l e (Phi i.offset (word i 1) (word i 2) ps ∷ before) ≡ []) (same_end i is c) (subst (λ z. merge_faults f l (tail_end (i ∷ is)) z ≡ []) same whole.merges);
          switch = λ s.
              ap is_switch (sym (phi_opens (tail_end is) i.offset (word i 1) (word i 2) ps before)
              ∙ ap (λ e. last_opens e (Phi i.offset (word i 1) (word i 2) ps ∷ before)) (sym (same_end i is c)) ∙ ap (last_opens (tail_end (i ∷ is))) (sym same))
              ∙ whole.switch (ap is_switch_end (same_end i is c) ∙ s);
        },
      )

  -- behind another instruction no OpPhi stands
  none_late : (i : Instruction) (is : List Instruction) → is_phi_inst i ≡ false → phi_faults no_pointers f l (map ins (before_close (i ∷ is))) ≡ []
      → late_phis (map ins (before_close (i ∷ is))) ≡ []
  none_late i is p fine = elim (tells (closes i)) [
    | inl c ↦ rw c refl
    | inr c ↦ elim (tells (opcode i == op.SELECTION_MERGE)) [
      | inl s ↦ rw (c, p, s) (rw (c, p, s) at fine)
      | inr s ↦ elim (tells (opcode i == op.LOOP_MERGE)) [
        | inl m ↦ rw (c, p, s, m) (rw (c, p, s, m) at fine)
        | inr m ↦ rw (c, p, s, m) (rw (c, p, s, m) at fine)
      ]
    ]
  ]

  pub block_is : (is : List Instruction) → IsWhole f l is → IsBlock f l is
  block_is [] whole = absurd (whole.goes refl)
  block_is (i ∷ is) whole = elim (tells (is_phi_inst i)) [
    | inl p ↦
        let e = equal_true (opcode i) op.PHI p in
        let c = phi_open i e in
        let first = phi_first i is e whole in
        let more = block_is is first.1 in
        let back : behind_phi_insts (i ∷ is) ≡ behind_phi_insts is = rw p refl in
        let front : phi_insts (i ∷ is) ≡ i ∷ phi_insts is = rw p refl in
        let body : body_of (i ∷ is) ≡ Phi i.offset (word i 1) (word i 2) (pairs (drop 3 i.words)) ∷ body_of is = rw (c, phi_no_line i e, phi_ins i e) refl in
        record {
          tail = subst IsTail (sym back) more.tail;
          fit = ap (list_all (phi_inst_fits f l)) front ∙ both_hold (phi_inst_fits f l i) (list_all (phi_inst_fits f l) (phi_insts is)) first.0 more.fit;
          opens = ap (λ e. last_opens e (body_of (i ∷ is))) (same_end i is c) ∙ ap (last_opens (tail_end is)) body
              ∙ phi_opens (tail_end is) i.offset (word i 1) (word i 2) (pairs (drop 3 i.words)) (body_of is) ∙ more.opens ∙ ap tail_opens (sym back);
          ends = same_end i is c ∙ more.ends ∙ ap tail_end (sym back);
        }
    | inr p ↦
        let back : behind_phi_insts (i ∷ is) ≡ i ∷ is = rw p refl in
        let front : phi_insts (i ∷ is) ≡ [] = rw p refl in
        let kept : IsKept f l (i ∷ is) = record { within = whole.within; goes = whole.goes; early = none_late i is p whole.phis; merges = whole.merges; switch = whole.switch } in
        record {
          tail = subst IsTail (sym back) (tail_is f l (i ∷ is) kept);
          fit = ap (list_all (phi_inst_fits f l)) front;
          opens = ap tail_opens (sym back);
          ends = ap tail_end (sym back);
        }
  ]

-- ---- a block of a function that breaks no rule

unless_none : (b : Bool) (rule : ℕ) → unless b rule ≡ [] → b ≡ true
unless_none true rule none = refl
unless_none false rule none = absurd (cc (none))

switch_rule : (k : Option Construct) (c : Context) (e : End) → end_rules k c e ≡ [] → is_switch_end e ≡ true → is_switch k ≡ true
switch_rule k c (Branch l) none s = absurd (cc (s))
switch_rule k c (BranchIf a b) none s = absurd (cc (s))
switch_rule k c (Switch d ps) none s = unless_none (is_switch k) 403 (none_right (unless (not (same_twice ps)) 402) (unless (is_switch k) 403) none)
switch_rule k c Return none s = absurd (cc (s))
switch_rule k c Unreachable none s = absurd (cc (s))
switch_rule k c Open none s = absurd (cc (s))

module _ (insts : List Instruction) (admitted : IsAdmitted insts) (l : ℕ) (is : is_label (blocks_of insts) l ≡ true) where
  pub start : Begins insts l
  start = begins insts l is

  settled : IsSettled no_pointers (blocks_of insts) l (admitted.clean.walked l _ (begins insts l is).found).0 (block_of (begins insts l is).mark (behind_label insts l))
  settled =
      let walked = admitted.clean.walked l (block_of (begins insts l is).mark (behind_label insts l)) (begins insts l is).found in
      clean_is_settled no_pointers (blocks_of insts) admitted.clean l walked.0 _ walked.1 (begins insts l is).found

  whole : IsWhole (blocks_of insts) l (behind_label insts l)
  whole =
      let rest : List Instruction = behind_label insts l in
      let f : Code = blocks_of insts in
      let within = within_behind insts l admitted.text in
      let bare : body_of rest ≡ map ins (before_close rest) = ap (map ins) (no_lines rest within) in
      let s = settled in
      let opens : construct f l ≡ last_opens (tail_end rest) (body_of rest) = ap (of_block (λ b. last_opens b.end b.body) None) (begins insts l is).found in
      record {
        within = within;
        goes = s.ends;
        phis = subst (λ z. phi_faults no_pointers f l z ≡ []) bare s.phis;
        merges = subst (λ z. merge_faults f l (tail_end rest) z ≡ []) bare s.merges;
        switch = λ e. ap is_switch (ap (last_opens (tail_end rest)) (sym bare) ∙ sym opens) ∙ switch_rule (construct f l) _ (tail_end rest) s.rules e;
      }

  pub block_of_label : IsBlock (blocks_of insts) l (behind_label insts l)
  block_of_label = block_is (blocks_of insts) l (behind_label insts l) whole

  -- its construct and its end are read behind its label
  pub opens_behind : construct (blocks_of insts) l ≡ tail_opens (behind_phi_insts (behind_label insts l))
  opens_behind = ap (of_block (λ b. last_opens b.end b.body) None) (begins insts l is).found ∙ block_of_label.opens

  pub ends_behind : walk.end_of (blocks_of insts) l ≡ tail_end (behind_phi_insts (behind_label insts l))
  ends_behind = ap (of_block (λ b. b.end) Open) (begins insts l is).found ∙ block_of_label.ends
