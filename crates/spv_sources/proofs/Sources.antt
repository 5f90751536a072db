-- What a source reads, by what it keeps.
use Rattle.std.proofs.Common.{◌≡◌, ◌⊎◌, inl, inr, ℕ, zero, suc, ◌+◌, ◌<◌, ◌≤◌, Bool, true, false, not, ◌==◌, ◌&&◌, List, [], ◌∷◌, ◌++◌, length, slice_index, take, drop, map, filter, All, Option, Some, None, Result, Ok, Err, IfOk, refl, sym, ap, subst, ◌∙◌, arith}
use Rattle.std.specs.List.{find, list_all, list_any, slice_get}
use Rattle.std.specs.Option.{option_map}
use Rattle.std.proofs.lemmas.List.{drop_all}
use Rattle.std.proofs.lemmas.List.Elements.{All-nil, All-cons}
use Rattle.std.proofs.lemmas.List.Folds.{list_any-append}
use Rattle.std.proofs.lemmas.Option.{slice_get_within}
use Rattle.spv_base.specs.declared.fault.NoMemory.{NoMemory}
use Rattle.spv_opcodes.specs.declared.op.TheConstants as op
use Rattle.spv_grammar.specs.declared.kind.Role.{Role}
use Rattle.spv_module.specs.Instruction.{Instruction, IsInstruction, opcode, roles}
use Rattle.spv_module.specs.View.{seen}
use Rattle.spv_blocks.specs.Blocks.{Code, Block, block, branches, end_targets, is_label, is_first, has, of_block, seconds, times}
use Rattle.spv_blocks.specs.Cutting.{blocks_of, is_label_mark, pairs, word}
use Rattle.spv_blocks.proofs.Slices.{drop-at, slice-at, front-goes_on, front-stops}
use Rattle.spv_walk.specs.Contexts.{Context}
use Rattle.spv_walk.specs.Phis.{names_each_once, predecessors}
use Rattle.spv_walk.specs.Walked.{StepEntered, StepStopped, StepMerged, StepContinued}
use Rattle.spv_walk.proofs.Unique.{both_left, both_right, either_holds, left_holds, right_holds, equal_true, true_equal, not_true, tells, truth_apart, goes_branches}
use Rattle.spv_normal.specs.Lines.{before_labels, behind_label, line, up_to_terminator}
use Rattle.spv_normal.specs.Order.{first_label, is_front}
use Rattle.spv_spelling.specs.Paths.{Path, Begins, Onward}
use Rattle.spv_spelling.specs.Text.{text, phis, Take, parameter_of as parameter_in, front_of as front_in}
use Rattle.spv_spelling.specs.Whole.{IsAdmitted, IsText, AreInstructions}
use Rattle.spv_spelling.proofs.Paths.{path_of_walk}
use Rattle.spv_tree.specs.declared.body.Parameter.{Parameter}
use Rattle.spv_tree.specs.Sound.{is_step, opcode_in}
use Rattle.spv_tree.specs.Tree.{front_of, parameter_of, words_of}
use Rattle.spv_sources.specs.declared.begins.Begin.{Begin}
use Rattle.spv_sources.specs.declared.close.Text.{Text}
use Rattle.spv_sources.specs.declared.phi.Phi.{Phi}
use Rattle.spv_sources.specs.Close as read
use Rattle.spv_sources.specs.Close.{step_words}
use Rattle.spv_sources.specs.Pairs.{IsIdPair}
use Rattle.spv_sources.specs.Source.{label_in}
use Rattle.spv_sources.specs.Tail.{phi_insts, behind_phi_insts, before_stop, from_stop, tail_end, tail_opens, IsTail, IsClosing, IsClose}
use Rattle.spv_sources.specs.Told.{IsTextOf, IsFirstMark}
use Rattle.spv_sources.specs.Values.{group, shown, taken_from, values_of, IsBegin}
use Rattle.spv_sources.proofs.Behind.{steps_of, phi_lines_are, lines_behind, phi_inst_fits, block_of_label, opens_behind, ends_behind}
use Rattle.spv_sources.proofs.Chains.{role_front, stop_front, label_block}
use Rattle.spv_sources.proofs.Words.{label_words, phi_words}

some_inst : (i j : Instruction) → Some i ≡ Some j → i ≡ j
some_inst i j e = cc

-- ---- labels are ids

each_behind : (i : Instruction) (is : List Instruction) → AreInstructions (i ∷ is) → AreInstructions is
each_behind i is each = λ k j at. each (suc k) j at

pub label_above : (insts : List Instruction) → AreInstructions insts → (l : ℕ) → is_label (blocks_of insts) l ≡ true → 0 < l
label_above [] each l h = absurd (cc (h))
label_above (i ∷ is) each l h = elim (tells (is_label_mark i)) [
  | inr m ↦ label_above is (each_behind i is each) l (rw m at h)
  | inl m ↦ elim (tells (word i 1 == l)) [
    | inl e ↦ subst (λ n. 0 < n) (equal_true (word i 1) l e) (label_words i.words (roles i) (each 0 i refl) (equal_true (opcode i) op.LABEL m)).id
    | inr e ↦ label_above is (each_behind i is each) l (rw (m, e) at h)
  ]
]

-- ---- the text of a block

pub text_closing : (insts : List Instruction) (start from stop : ℕ) → IsTail (behind_phi_insts (drop start insts))
    → drop from insts ≡ behind_phi_insts (drop start insts)
    → drop stop insts ≡ from_stop (drop from insts) → IsClosing (drop stop insts)
text_closing insts start from stop tail a b =
    subst IsClosing (sym b) (steps_of (drop from insts) (subst IsTail (sym a) tail)).closing

steps_hold : (is : List Instruction) → All (λ (i : Instruction). is_step (opcode i) ≡ true) is → All (λ words. is_step (opcode_in words) ≡ true) (words_of is)
steps_hold [] all = All-nil (λ (words : List ℕ). is_step (opcode_in words) ≡ true)
steps_hold (i ∷ is) all = All-cons (λ (words : List ℕ). is_step (opcode_in words) ≡ true) i.words (words_of is) (all 0 i (omega arith)) (steps_hold is (λ k d h. all (suc k) d (omega arith)))

pub text_read : (insts : List Instruction) (start from stop : ℕ) (read : Text) → IsTail (behind_phi_insts (drop start insts))
    → drop from insts ≡ behind_phi_insts (drop start insts)
    → drop from (take stop insts) ≡ before_stop (drop from insts) → drop stop insts ≡ from_stop (drop from insts) → step_words read.steps.items ≡ words_of (drop from (take stop insts))
    → IsClose (drop stop insts) read.close → IsTextOf (behind_phi_insts (drop start insts)) read
text_read insts start from stop read tail a b d steps closed =
    let s = steps_of (drop from insts) (subst IsTail (sym a) tail) in
    let words : words_of (before_stop (drop from insts)) ≡ step_words read.steps.items = sym (steps ∙ ap words_of b) in
    subst (λ z. IsTextOf z read) a (record {
      lines = s.lines ∙ ap (λ z. z ++ map line (up_to_terminator (from_stop (drop from insts)))) words ∙ ap (λ z. step_words read.steps.items ++ map line (up_to_terminator z)) (sym d)
          ∙ ap (λ z. step_words read.steps.items ++ z) closed.lines;
      steps = subst (All (λ words. is_step (opcode_in words) ≡ true)) words (steps_hold (before_stop (drop from insts)) s.steps);
      opens = s.opens ∙ ap tail_opens (sym d) ∙ closed.opens;
      ends = s.ends ∙ ap tail_end (sym d) ∙ closed.ends;
    })

module _ (insts inner : List Instruction) (same : inner ≡ insts) (admitted : IsAdmitted insts) (l : ℕ) (is : is_label (blocks_of insts) l ≡ true) (begin : Begin) (begins : IsBegin insts l begin) where
  pub rest_is : drop begin.start inner ≡ behind_label insts l
  rest_is = ap (λ z. drop begin.start z) same ∙ begins.rest

  pub begin_within : begin.start ≤ length inner
  begin_within = subst (λ z. begin.start ≤ length z) (sym same) begins.within

  pub tail_there : IsTail (behind_phi_insts (drop begin.start inner))
  tail_there = subst (λ z. IsTail (behind_phi_insts z)) (sym rest_is) (block_of_label insts admitted l is).tail

  text_is : (text : Text) → IsTextOf (behind_phi_insts (drop begin.start inner)) text → read.IsText insts l text
  text_is text found = record {
    lines = lines_behind (behind_label insts l) ∙ ap (λ z. map line (up_to_terminator (behind_phi_insts z))) (sym rest_is) ∙ found.lines;
    steps = found.steps;
    opens = opens_behind insts admitted l is ∙ ap (λ z. tail_opens (behind_phi_insts z)) (sym rest_is) ∙ found.opens;
    ends = ends_behind insts admitted l is ∙ ap (λ z. tail_end (behind_phi_insts z)) (sym rest_is) ∙ found.ends;
  }

  pub text_result : (result : Result Text NoMemory) → IfOk result (λ text. IsTextOf (behind_phi_insts (drop begin.start inner)) text)
      → IfOk result (λ text. read.IsText insts l text)
  text_result (Err e) found = tt
  text_result (Ok text) found = text_is text found

  -- ---- its OpPhi

  pub phis_are : (found lent : List Phi) → shown found ≡ phi_insts (drop begin.start inner) → lent ≡ found → words_of (shown lent) ≡ phis (text insts l)
  phis_are found lent shows e =
      ap (λ z. words_of (shown z)) e ∙ ap words_of (shows ∙ ap phi_insts rest_is) ∙ sym (phi_lines_are (behind_label insts l))

  pub front_is : (stays : List (ℕ × ℕ)) (found lent : List Phi) (made : List Parameter) → shown found ≡ phi_insts (drop begin.start inner) → lent ≡ found
      → map parameter_of made ≡ map (parameter_in (label_in stays)) (words_of (shown lent)) → front_of (record { label = l; parameters = made }) ≡ front_in insts (label_in stays) l
  front_is stays found lent made shows e told =
      ap (λ z. record { label = l; parameters = z }) (told ∙ ap (map (parameter_in (label_in stays))) (phis_are found lent shows e))

-- ---- values

add_one_none : (n : ℕ) → n + 1 ≡ 0 → ⊥
add_one_none n e = absurd (omega arith)

one_less : (n : ℕ) → n + 1 ≡ 1 → n ≡ 0
one_less n e = omega arith

-- where a block is named once, one value is found
no_times : (block : ℕ) (ps : List (ℕ × ℕ)) → times (seconds ps) block ≡ 0 → values_of block ps ≡ []
no_times block [] none = refl
no_times block (p ∷ ps) none = elim (tells (p.1 == block)) [
  | inl e ↦ absurd (add_one_none (times (seconds ps) block) (rw e at none))
  | inr e ↦ rw e (no_times block ps (rw e at none))
]

one_value : (block : ℕ) (ps : List (ℕ × ℕ)) → times (seconds ps) block ≡ 1
    → (v : ℕ) × (option_map (λ (pair : ℕ × ℕ). pair.0) (find (λ pair. pair.1 == block) ps) ≡ Some v) × (values_of block ps ≡ v ∷ [])
one_value block [] once = absurd (cc (once))
one_value block (p ∷ ps) once = elim (tells (p.1 == block)) [
  | inl e ↦
      let none : times (seconds ps) block ≡ 0 = one_less (times (seconds ps) block) (rw e at once) in
      (p.0, rw e refl, rw e (ap (λ z. p.0 ∷ z) (no_times block ps none)))
  | inr e ↦ let more = one_value block ps (rw e at once) in (more.0, rw e more.1, rw e more.2)
]

-- a block that branches is a predecessor
in_all : (p : ℕ → Bool) (x : ℕ) (xs : List ℕ) → list_all p xs ≡ true → has xs x ≡ true → p x ≡ true
in_all p x [] all here = absurd (cc (here))
in_all p x (y ∷ ys) all here = elim (either_holds (y == x) (has ys x) here) [
  | inl e ↦ ap p (sym (equal_true y x e)) ∙ both_left (p y) (list_all p ys) all
  | inr h ↦ in_all p x ys (both_right (p y) (list_all p ys) all) h
]

in_filter : (p : ℕ → Bool) (x : ℕ) (xs : List ℕ) → has xs x ≡ true → p x ≡ true → has (filter p xs) x ≡ true
in_filter p x [] here passes = absurd (cc (here))
in_filter p x (y ∷ ys) here passes = elim (tells (p y)) [
  | inl k ↦ rw k (elim (either_holds (y == x) (has ys x) here) [
    | inl e ↦ left_holds (y == x) (has (filter p ys) x) e
    | inr h ↦ right_holds (y == x) (has (filter p ys) x) (in_filter p x ys h passes)
  ])
  | inr k ↦ rw k (elim (either_holds (y == x) (has ys x) here) [
    | inl e ↦ absurd (truth_apart (p y) (ap p (equal_true y x e) ∙ passes) k)
    | inr h ↦ in_filter p x ys h passes
  ])
]

label_there : (f : Code) (l : ℕ) (b : Block) → block f l ≡ Some b → has (map (λ (b : Block). b.label) f) l ≡ true
label_there [] l b e = absurd (cc (e))
label_there (c ∷ f) l b e = elim (tells (c.label == l)) [
  | inl h ↦ left_holds (c.label == l) (has (map (λ (b : Block). b.label) f) l) h
  | inr h ↦ right_holds (c.label == l) (has (map (λ (b : Block). b.label) f) l) (label_there f l b (rw h at e))
]

branching_block : (o : Option Block) (t : ℕ) → has (of_block (λ b. end_targets b.end) [] o) t ≡ true → (b : Block) × (o ≡ Some b)
branching_block None t h = absurd (cc (h))
branching_block (Some b) t h = (b, refl)

module _ (f : Code) (p l : ℕ) (branch : branches f p l ≡ true) where
  predecessor : has (predecessors f l) p ≡ true
  predecessor =
      let b = branching_block (block f p) l branch in
      in_filter (λ q. branches f q l) p (map (λ (b : Block). b.label) f) (label_there f p b.0 b.1) branch

  -- an OpPhi that fits names it once
  named_once : (i : Instruction) → phi_inst_fits f l i ≡ true → times (seconds (pairs (drop 3 i.words))) p ≡ 1
  named_once i fits =
      let each = both_right (not (is_first f l) && not false) (names_each_once (predecessors f l) (seconds (pairs (drop 3 i.words)))) fits in
      let all = both_left (list_all (λ q. times (seconds (pairs (drop 3 i.words))) q == 1) (predecessors f l)) (list_all (λ q. has (predecessors f l) q) (seconds (pairs (drop 3 i.words)))) each in
      equal_true (times (seconds (pairs (drop 3 i.words))) p) 1 (in_all (λ q. times (seconds (pairs (drop 3 i.words))) q == 1) p (predecessors f l) all predecessor)

  takes : (is : List Instruction) → list_all (phi_inst_fits f l) is ≡ true → Take p (words_of is) (taken_from p is)
  takes [] fit = tt
  takes (i ∷ is) fit =
      let one = one_value p (pairs (drop 3 i.words)) (named_once i (both_left (phi_inst_fits f l i) (list_all (phi_inst_fits f l) is) fit)) in
      subst (λ z. Take p (i.words ∷ words_of is) (z ++ taken_from p is)) (sym one.2) (one.1, takes is (both_right (phi_inst_fits f l i) (list_all (phi_inst_fits f l) is) fit))

pub values_taken : (insts : List Instruction) → IsAdmitted insts → (block l : ℕ) → is_label (blocks_of insts) l ≡ true
    → branches (blocks_of insts) block l ≡ true → (begin : Begin) → IsBegin insts l begin
    → (values : List ℕ) → group begin.values block ≡ values → Take block (phis (text insts l)) values
values_taken insts admitted block l is branch begin begins values e =
    subst (λ z. Take block z values) (sym (phi_lines_are (behind_label insts l)))
    (subst (Take block (words_of (phi_insts (behind_label insts l)))) (sym (begins.values block) ∙ e)
    (takes (blocks_of insts) block l branch (phi_insts (behind_label insts l)) (block_of_label insts admitted l is).fit))

-- ---- copies

first_value : (words : List ℕ) (p : ℕ) → times (seconds (pairs (drop 3 words))) p ≡ 1 → All IsIdPair (pairs (drop 3 words)) → 0 < slice_index words 3
first_value [] p once ids = absurd (cc (once))
first_value (a ∷ []) p once ids = absurd (cc (once))
first_value (a ∷ b ∷ []) p once ids = absurd (cc (once))
first_value (a ∷ b ∷ c ∷ []) p once ids = absurd (cc (once))
first_value (a ∷ b ∷ c ∷ x ∷ []) p once ids = absurd (cc (once))
first_value (a ∷ b ∷ c ∷ x ∷ y ∷ ws) p once ids = (ids 0 (x, y) (omega arith)).0

-- what is no front has a block before it, or is the first
parent : (f : Code) (n l : ℕ) (c : Context) → Path f n l c → is_front f l ≡ false → (is_first f l ≡ true) ⊎ ((p : ℕ) × (branches f p l ≡ true))
parent f _ l _ (Begins first) plain = inl first
parent f _ _ _ (Onward {n} {b} {t} {c} {d} path (StepEntered _ tried enters)) plain = inr (b, goes_branches f b t enters.free)
parent f _ _ _ (Onward {n} {b} {t} {c} {d} path (StepStopped _ tried stop)) plain = absurd (truth_apart (is_front f t) (stop_front f t stop) plain)
parent f _ _ _ (Onward {n} {b} {t} {c} {d} path (StepMerged _ runs merge role)) plain = absurd (truth_apart (is_front f t) (role_front f b t role) plain)
parent f _ _ _ (Onward {n} {b} {t} {c} {d} path (StepContinued _ runs next role)) plain = absurd (truth_apart (is_front f t) (role_front f b t role) plain)

not_first : (f : Code) (l : ℕ) (i : Instruction) → phi_inst_fits f l i ≡ true → is_first f l ≡ false
not_first f l i fits =
    not_true (is_first f l) (both_left (not (is_first f l)) (not false)
    (both_left (not (is_first f l) && not false) (names_each_once (predecessors f l) (seconds (pairs (drop 3 i.words)))) fits))

phi_value : (f : Code) (l : ℕ) (i : Instruction) (rs : List Role) → IsInstruction i.words rs → opcode i ≡ op.PHI → phi_inst_fits f l i ≡ true
    → (is_first f l ≡ true) ⊎ ((p : ℕ) × (branches f p l ≡ true)) → 0 < word i 3
phi_value f l i rs whole e fits (inl first) = absurd (truth_apart (is_first f l) first (not_first f l i fits))
phi_value f l i rs whole e fits (inr p) = first_value i.words p.0 (named_once f p.0 l p.1 i fits) (phi_words i.words rs whole e).ids

values_there : (f : Code) (l : ℕ) → (is_first f l ≡ true) ⊎ ((p : ℕ) × (branches f p l ≡ true)) → (found : List Phi)
    → list_all (phi_inst_fits f l) (shown found) ≡ true → All (λ (i : Instruction). 0 < word i 3) (shown found)
values_there f l before [] fit = All-nil (λ (i : Instruction). 0 < word i 3)
values_there f l before (phi ∷ found) fit =
    All-cons (λ (i : Instruction). 0 < word i 3) (seen phi.inst) (shown found)
    (phi_value f l (seen phi.inst) phi.inst.roles.now phi.inst.whole phi.is_phi (both_left (phi_inst_fits f l (seen phi.inst)) (list_all (phi_inst_fits f l) (shown found)) fit) before)
    (values_there f l before found (both_right (phi_inst_fits f l (seen phi.inst)) (list_all (phi_inst_fits f l) (shown found)) fit))

module _ (insts inner : List Instruction) (same : inner ≡ insts) (admitted : IsAdmitted insts) (l : ℕ) (is : is_label (blocks_of insts) l ≡ true) (begin : Begin) (begins : IsBegin insts l begin) where
  pub copies_ready : is_front (blocks_of insts) l ≡ false → (found lent : List Phi) → shown found ≡ phi_insts (drop begin.start inner) → lent ≡ found
      → All (λ (i : Instruction). 0 < word i 3) (shown lent)
  copies_ready plain found lent shows e =
      let b = label_block (blocks_of insts) l is in
      let walked = admitted.clean.walked l b.0 b.1 in
      let path = path_of_walk (blocks_of insts) l walked.0 walked.1 in
      let all : shown lent ≡ phi_insts (behind_label insts l) = ap shown e ∙ shows ∙ ap phi_insts (rest_is insts inner same admitted l is begin begins) in
      values_there (blocks_of insts) l (parent (blocks_of insts) path.0 l walked.0 path.1 plain) lent
      (ap (list_all (phi_inst_fits (blocks_of insts) l)) all ∙ (block_of_label insts admitted l is).fit)

-- ---- heading

pub heading-goes_on : (insts : List Instruction) (k : ℕ) (i : Instruction) → slice_get insts k ≡ Some i → is_label_mark i ≡ false
    → before_labels insts ≡ take k insts ++ before_labels (drop k insts) → before_labels insts ≡ take (k + 1) insts ++ before_labels (drop (k + 1) insts)
heading-goes_on insts k i at other told = front-goes_on before_labels insts 0 k i (omega arith) at (rw other refl) told

pub blocks-goes_on : (insts : List Instruction) (k : ℕ) (i : Instruction) → slice_get insts k ≡ Some i → is_label_mark i ≡ false
    → blocks_of insts ≡ blocks_of (drop k insts) → blocks_of insts ≡ blocks_of (drop (k + 1) insts)
blocks-goes_on insts k i at other told = told ∙ ap blocks_of (drop-at insts k i at) ∙ rw other refl

pub mark_found : (insts : List Instruction) (k : ℕ) (i : Instruction) → slice_get insts k ≡ Some i → is_label_mark i ≡ true
    → before_labels insts ≡ take k insts ++ before_labels (drop k insts) → blocks_of insts ≡ blocks_of (drop k insts) → IsFirstMark insts k
mark_found insts k i at m told blocks = record {
  mark = i;
  at = at;
  marks = m;
  before = front-stops before_labels insts 0 k i at (rw m refl) told;
  first = ap first_label (blocks ∙ ap blocks_of (drop-at insts k i at)) ∙ rw m refl;
}

no_marks : (insts : List Instruction) → blocks_of insts ≡ [] → list_any is_label_mark insts ≡ false
no_marks [] none = refl
no_marks (i ∷ is) none = elim (tells (is_label_mark i)) [
  | inl m ↦ absurd (cc (rw m at none))
  | inr m ↦ rw m (no_marks is (rw m at none))
]

has_mark : (insts : List Instruction) → IsText insts → list_any is_label_mark insts ≡ true
has_mark insts shape =
    let here : list_any is_label_mark (shape.label ∷ shape.blocks) ≡ true = left_holds (is_label_mark shape.label) (list_any is_label_mark shape.blocks) shape.first in
    let front : list_any is_label_mark (shape.parameters ++ (shape.label ∷ shape.blocks)) ≡ true =
    list_any-append is_label_mark shape.parameters (shape.label ∷ shape.blocks) ∙ right_holds (list_any is_label_mark shape.parameters) (list_any is_label_mark (shape.label ∷ shape.blocks)) here in
    let all : list_any is_label_mark (shape.parameters ++ (shape.label ∷ shape.blocks) ++ shape.last ∷ []) ≡ true =
    list_any-append is_label_mark (shape.parameters ++ (shape.label ∷ shape.blocks)) (shape.last ∷ []) ∙ left_holds (list_any is_label_mark (shape.parameters ++ (shape.label ∷ shape.blocks))) (list_any is_label_mark (shape.last ∷ [])) front in
    ap (list_any is_label_mark) shape.same ∙ right_holds (is_label_mark shape.function) (list_any is_label_mark (shape.parameters ++ (shape.label ∷ shape.blocks) ++ shape.last ∷ [])) all

pub mark_there : (insts : List Instruction) (k : ℕ) → IsText insts → length insts ≤ k → blocks_of insts ≡ blocks_of (drop k insts) → ⊥
mark_there insts k shape past blocks =
    let none : blocks_of insts ≡ [] = blocks ∙ ap blocks_of (drop_all k insts past) in
    truth_apart (list_any is_label_mark insts) (has_mark insts shape) (no_marks insts none)

pub parameters-more : (insts : List Instruction) (k : ℕ) (i : Instruction) (old new : List Instruction) → 1 ≤ k → slice_get insts k ≡ Some i
    → new ≡ old ++ i ∷ [] → old ≡ drop 1 (take k insts) → new ≡ drop 1 (take (k + 1) insts)
parameters-more insts k i old new some at pushed told = pushed ∙ ap (λ z. z ++ i ∷ []) told ∙ sym (slice-at insts 1 k i some at)

-- the first OpLabel stands behind OpFunction
mark_apart : (insts : List Instruction) (k : ℕ) → IsText insts → IsFirstMark insts k → k ≡ 0 → ⊥
mark_apart insts k shape mark e =
    let first : slice_get insts 0 ≡ Some shape.function = ap (λ z. slice_get z 0) shape.same in
    let same : mark.mark ≡ shape.function = some_inst mark.mark shape.function (sym mark.at ∙ ap (slice_get insts) e ∙ first) in
    let plain : is_label_mark shape.function ≡ false = rw shape.begins refl in
    truth_apart (is_label_mark shape.function) (ap is_label_mark (sym same) ∙ mark.marks) plain

pub mark_behind : (insts : List Instruction) (k : ℕ) → IsText insts → IsFirstMark insts k → 0 < k
mark_behind insts zero shape mark = absurd (mark_apart insts 0 shape mark refl)
mark_behind insts (suc k) shape mark = omega arith

pub mark_within : (insts : List Instruction) (k : ℕ) → IsFirstMark insts k → k < length insts
mark_within insts k mark = slice_get_within insts k mark.mark mark.at

heading_front : (insts : List Instruction) (k : ℕ) (i : Instruction) → slice_get insts 0 ≡ Some i → 0 < k → take k insts ≡ i ∷ drop 1 (take k insts)
heading_front [] k i at some = absurd (cc (at))
heading_front (j ∷ insts) zero i at some = absurd (omega arith)
heading_front (j ∷ insts) (suc k) i at some = ap (λ z. z ∷ take k insts) (some_inst j i at)

pub heading_is : (insts : List Instruction) (k : ℕ) (i : Instruction) (function : List ℕ) (parameters : List Instruction) → IsText insts → IsFirstMark insts k
    → slice_get insts 0 ≡ Some i
    → function ≡ i.words → parameters ≡ drop 1 (take k insts) → words_of (before_labels insts) ≡ function ∷ words_of parameters
heading_is insts k i function parameters shape mark at words told =
    ap words_of (sym mark.before ∙ heading_front insts k i at (mark_behind insts k shape mark)) ∙ ap (λ z. z ∷ words_of (drop 1 (take k insts))) (sym words) ∙ ap (λ z. function ∷ words_of z) (sym told)

pub mark_is : (insts : List Instruction) (k : ℕ) (i : Instruction) → IsFirstMark insts k → slice_get insts k ≡ Some i
    → (opcode i ≡ op.LABEL) × (first_label (blocks_of insts) ≡ word i 1)
mark_is insts k i mark at =
    let same : mark.mark ≡ i = some_inst mark.mark i (sym mark.at ∙ at) in
    (equal_true (opcode i) op.LABEL (ap is_label_mark (sym same) ∙ mark.marks), mark.first ∙ ap (λ z. word z 1) same)

first_there : (f : Code) → (f ≡ [] → ⊥) → is_label f (first_label f) ≡ true
first_there [] some = absurd (some refl)
first_there (b ∷ f) some = let e = true_equal b.label b.label refl in rw e refl

pub first_is_label : (insts : List Instruction) → IsText insts → is_label (blocks_of insts) (first_label (blocks_of insts)) ≡ true
first_is_label insts shape = first_there (blocks_of insts) (λ none. truth_apart (list_any is_label_mark insts) (has_mark insts shape) (no_marks insts none))
