-- The instructions of a block in an admitted function: its OpPhi are short, and its OpSwitch has few cases.
use Rattle.std.proofs.Common.{◌≡◌, inl, inr, ℕ, suc, ◌+◌, ◌*◌, ◌%◌, ◌≤◌, true, false, cond, ◌==◌, nat_le, List, [], ◌∷◌, ◌++◌, length, take, drop, map, slice_get, Some, Ok, Err, refl, sym, ap, subst, ◌∙◌, arith}
use Rattle.std.proofs.lemmas.Bool.Decides.{eqb_tells, nat_tests}
use Rattle.spv_opcodes.specs.declared.op.TheConstants as op
use Rattle.spv_grammar.specs.declared.kind.Role.{Role}
use Rattle.spv_grammar.specs.Operands.{roles_of}
use Rattle.spv_grammar.specs.Table.{row_of}
use Rattle.spv_module.specs.Instruction.{Instruction, IsInstruction, opcode, roles}
use Rattle.spv_module.specs.Layout.{is_terminator}
use Rattle.spv_blocks.specs.Cutting.{is_label_mark, word}
use Rattle.spv_walk.specs.Contexts.{Context}
use Rattle.spv_walk.proofs.Unique.{tells, truth_apart, equal_true}
use Rattle.spv_bodies.specs.Listing.{instruction, pair_words}
use Rattle.spv_normal.specs.Lines.{behind_label, block_insts, line, up_to_terminator}
use Rattle.spv_tree.specs.Sound.{opcode_in}
use Rattle.spv_spelling.specs.Text.{text, phis, is_phi}
use Rattle.spv_spelling.specs.Whole.{IsAdmitted}
use Rattle.spv_normal_trees.proofs.Texts.{opcode_spelled}
use Rattle.spv_sound_trees.proofs.Nodes.{Node}

-- ---- each instruction

-- what is so of each instruction
abbrev Whole : Instruction → Type 0
Whole i = IsInstruction i.words (roles i) × (length i.words ≤ 65535)

abbrev Each : List Instruction → Type 0
Each [] = Unit {0}
Each (i ∷ is) = Whole i × Each is

each_of : (is : List Instruction) → ((k : ℕ) (i : Instruction) → slice_get is k ≡ Some i → Whole i) → Each is
each_of [] h = tt
each_of (i ∷ is) h = (h 0 i refl, each_of is (λ k j e. h (suc k) j e))

each_behind : (l : ℕ) (is : List Instruction) → Each is → Each (behind_label is l)
each_behind l [] h = tt
each_behind l (i ∷ is) h = elim (tells (cond (is_label_mark i) (word i 1 == l) false)) [
  | inl e ↦ rw e h.1
  | inr e ↦ rw e (each_behind l is h.1)
]

each_up : (is : List Instruction) → Each is → Each (up_to_terminator is)
each_up [] h = tt
each_up (i ∷ is) h = elim (tells (is_terminator i)) [
  | inl e ↦ rw e (h.0, tt)
  | inr e ↦ rw e (h.0, each_up is h.1)
]

each_in : (insts : List Instruction) → IsAdmitted insts → (l : ℕ) → Each (block_insts insts l)
each_in insts admitted l = each_up (behind_label insts l) (each_behind l insts (each_of insts (λ k i e. (admitted.each k i e, admitted.short k i e))))

-- ---- lines

-- a line is spelled of other words only for OpBranchConditional
line_of : (o : ℕ) (i : Instruction) → o ≡ opcode_in (line i) → (o == op.BRANCH_CONDITIONAL) ≡ false → line i ≡ i.words
line_of o i is other = elim (eqb_tells (opcode i) op.BRANCH_CONDITIONAL) [
  | inl (e, p) ↦
      let spelled : line i ≡ instruction op.BRANCH_CONDITIONAL (take 3 (drop 1 i.words)) = rw e refl in
      let same : o ≡ op.BRANCH_CONDITIONAL = is ∙ ap opcode_in spelled ∙ opcode_spelled op.BRANCH_CONDITIONAL (take 3 (drop 1 i.words)) (omega arith) in
      truth_apart true refl (sym (ap (λ k. k == op.BRANCH_CONDITIONAL) same) ∙ other)
  | inr (e, p) ↦ rw e refl
]

-- ---- OpPhi

abbrev pub AllShort : List (List ℕ) → Type 0
AllShort [] = Unit {0}
AllShort (words ∷ rest) = (length words ≤ 65535) × AllShort rest

-- by induction on the instructions
phis_short : (is : List Instruction) → Each is → AllShort (phis (map line is))
phis_short [] h = tt
phis_short (i ∷ is) h = elim (tells (is_phi (line i))) [
  | inl e ↦
      let same : line i ≡ i.words = line_of op.PHI i (sym (equal_true (opcode_in (line i)) op.PHI e)) refl in
      rw e (subst (λ words. length words ≤ 65535) (sym same) h.0.1, phis_short is h.1)
  | inr e ↦ rw e tt
]

pub short_phis : (insts : List Instruction) → IsAdmitted insts → (l : ℕ) → AllShort (phis (text insts l))
short_phis insts admitted l = phis_short (block_insts insts l) (each_in insts admitted l)

-- ---- OpSwitch

pair_words_length : (ps : List (ℕ × ℕ)) → length (pair_words ps) ≡ 2 * length ps
pair_words_length [] = refl
pair_words_length (p ∷ ps) = omega (arith, pair_words_length ps)

pair_words_even : (ps : List (ℕ × ℕ)) → length (pair_words ps) % 2 ≡ 0
pair_words_even ps = let h = pair_words_length ps in omega arith

switch_few : (h a b : ℕ) (ws : List ℕ) (rs : List Role) → h % 65536 ≡ 251 → length ws % 2 ≡ 0 → roles_of (h ∷ a ∷ b ∷ ws) ≡ Ok rs
    → nat_le (length ws) 32766 ≡ true
unfolding roles_of row_of
switch_few h a b ws rs e even parted = elim (tells (nat_le (length ws) 32766)) [
  | inl few ↦ few
  | inr many ↦
      let broken : roles_of (h ∷ a ∷ b ∷ ws) ≡ Err 107 = rw e (rw even (rw many refl)) in
      absurd (cc (sym broken ∙ parted))
]

-- an OpSwitch of these words has few cases
few_here : (i : Instruction) (selector default : ℕ) (cases : List (ℕ × ℕ)) → Whole i → line i ≡ instruction op.SWITCH (selector ∷ default ∷ pair_words cases)
    → length cases ≤ 16383
few_here i selector default cases h e =
    let ws : List ℕ = selector ∷ default ∷ pair_words cases in
    let spelled : opcode_in (instruction op.SWITCH ws) ≡ op.SWITCH = opcode_spelled op.SWITCH ws (omega arith) in
    let same : i.words ≡ instruction op.SWITCH ws = sym (line_of op.SWITCH i (sym spelled ∙ ap opcode_in (sym e)) refl) ∙ e in
    let few = switch_few ((length ws + 1) * 65536 + op.SWITCH) selector default (pair_words cases) (roles i) spelled (pair_words_even cases)
    (ap roles_of (sym same) ∙ h.0.parted) in
    let long = pair_words_length cases in
    grind (arith, nat_tests)

-- so has one that is the last line of a block, by induction on what stands before it
few_last : (is : List Instruction) (front : List (List ℕ)) (selector default : ℕ) (cases : List (ℕ × ℕ)) → Each is
    → map line is ≡ front ++ instruction op.SWITCH (selector ∷ default ∷ pair_words cases) ∷ [] → length cases ≤ 16383
few_last [] [] selector default cases h e = absurd (cc (e))
few_last [] (words ∷ front) selector default cases h e = absurd (cc (e))
few_last (i ∷ is) [] selector default cases h e = few_here i selector default cases h.0 (ap (λ z. elim z [ [] ↦ line i | x ∷ xs ↦ x ]) e)
few_last (i ∷ is) (words ∷ front) selector default cases h e =
    few_last is front selector default cases h.1 (ap (λ z. elim z [ [] ↦ [] | x ∷ xs ↦ xs ]) e)

pub few_cases : (insts : List Instruction) → IsAdmitted insts → (l selector default : ℕ) (cases : List (ℕ × ℕ)) (c : Context)
    → Node insts l c (instruction op.SWITCH (selector ∷ default ∷ pair_words cases) ∷ []) → length cases ≤ 16383
few_cases insts admitted l selector default cases c n = few_last (block_insts insts l) n.front selector default cases (each_in insts admitted l) n.same
