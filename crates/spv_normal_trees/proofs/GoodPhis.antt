-- The OpPhi in front of a block of a clean function: each names each predecessor once, and is spelled by its pairs.
use Rattle.std.proofs.Common.{◌≡◌, inl, inr, ℕ, suc, Bool, true, false, not, cond, ◌&&◌, ◌||◌, ◌==◌, List, [], ◌∷◌, take, drop, filter, map, slice_index, Some, refl, sym, ap, subst, ◌∙◌, arith}
use Rattle.std.proofs.lemmas.Bool.Decides.{eqb_tells}
use Rattle.spv_opcodes.specs.declared.op.TheConstants as op
use Rattle.spv_module.specs.Code.{is_line}
use Rattle.spv_module.specs.Instruction.{Instruction, opcode, roles}
use Rattle.spv_module.specs.Layout.{is_terminator}
use Rattle.spv_blocks.specs.Blocks.{Code, Phi, Selection, Loop, Other, Block, block, is_first, seconds}
use Rattle.spv_blocks.specs.Cutting.{before_close, blocks_of, body_of, closes, ins, is_label_mark, word}
use Rattle.spv_walk.specs.Phis.{names_each_once, phi_faults, phi_fits, predecessors}
use Rattle.spv_walk.proofs.Unique.{both_right}
use Rattle.spv_bodies.specs.Listing.{instruction, pair_words}
use Rattle.spv_normal.specs.Lines.{behind_label, line, up_to_terminator}
use Rattle.spv_spelling.specs.Text.{is_phi, phi_pairs, phis, text}
use Rattle.spv_spelling.specs.Whole.{AreInstructions}
use Rattle.spv_spelling.proofs.Merges.{passes}
use Rattle.spv_normal_trees.proofs.FrontPhis.{AreGood, IsGood}
use Rattle.spv_normal_trees.proofs.PhiWords.{phi_spelled}
use Rattle.spv_normal_trees.proofs.Texts.{cut, opcode_spelled}

-- an instruction that is an OpPhi is spelled by its pairs
abbrev pub IsSpelled : Instruction → Type 0
IsSpelled i = opcode i ≡ op.PHI → i.words ≡ instruction op.PHI (slice_index i.words 1 ∷ slice_index i.words 2 ∷ pair_words (phi_pairs i.words))

abbrev pub AreSpelled : List Instruction → Type 0
AreSpelled [] = Unit {0}
AreSpelled (i ∷ is) = IsSpelled i × AreSpelled is

pub all_spelled : (insts : List Instruction) → AreInstructions insts → AreSpelled insts
all_spelled [] h = tt
all_spelled (i ∷ is) h = (
  λ e. phi_spelled i.words (roles i) (h 0 i refl) e,
  all_spelled is (λ k j at. h (suc k) j at),
)

behind_spelled : (insts : List Instruction) (l : ℕ) → AreSpelled insts → AreSpelled (behind_label insts l)
behind_spelled [] l h = tt
behind_spelled (i ∷ is) l h =
    elim (cond (is_label_mark i) (word i 1 == l) false) as (λ b. AreSpelled (cond b is (behind_label is l))) [ true ↦ h.1 | false ↦ behind_spelled is l h.1 ]

-- ---- OpPhi among instructions

phi_closes : (i : Instruction) → opcode i ≡ op.PHI → closes i ≡ false
phi_closes i p =
    ap (λ o.
    (o == op.BRANCH || o == op.BRANCH_CONDITIONAL || o == op.SWITCH || o == op.RETURN || o == op.RETURN_VALUE || o == op.UNREACHABLE)
    || o == op.LABEL || o == op.FUNCTION_END) p

phi_ends : (i : Instruction) → opcode i ≡ op.PHI → is_terminator i ≡ false
phi_ends i p = ap (λ o. o == op.BRANCH || o == op.BRANCH_CONDITIONAL || o == op.SWITCH || o == op.RETURN || o == op.RETURN_VALUE || o == op.UNREACHABLE) p

phi_marks : (i : Instruction) → opcode i ≡ op.PHI → is_line i ≡ false
phi_marks i p = ap (λ o. o == op.LINE || o == op.NO_LINE) p

phi_line_words : (i : Instruction) → opcode i ≡ op.PHI → line i ≡ i.words
phi_line_words i p = ap (λ o. cond (o == op.BRANCH_CONDITIONAL) (instruction op.BRANCH_CONDITIONAL (take 3 (drop 1 i.words))) i.words) p

other_line : (i : Instruction) → (opcode i == op.PHI) ≡ false → is_phi (line i) ≡ false
other_line i n = elim (eqb_tells (opcode i) op.BRANCH_CONDITIONAL) [
  | inl (e, p) ↦
      ap (λ b. is_phi (cond b (instruction op.BRANCH_CONDITIONAL (take 3 (drop 1 i.words))) i.words)) e
      ∙ ap (λ o. o == op.PHI) (opcode_spelled op.BRANCH_CONDITIONAL (take 3 (drop 1 i.words)) (omega arith))
  | inr (e, p) ↦ ap (λ b. is_phi (cond b (instruction op.BRANCH_CONDITIONAL (take 3 (drop 1 i.words))) i.words)) e ∙ n
]

-- what it is among the instructions of a block, and among lines
pub phi_body : (i : Instruction) (is : List Instruction) → opcode i ≡ op.PHI
    → body_of (i ∷ is) ≡ Phi i.offset (word i 1) (word i 2) (phi_pairs i.words) ∷ body_of is
phi_body i is p =
    ap (λ b. map ins (filter (λ j. not (is_line j)) (cond b [] (i ∷ before_close is)))) (phi_closes i p)
    ∙ ap (λ b. map ins (cond (not b) (i ∷ filter (λ j. not (is_line j)) (before_close is)) (filter (λ j. not (is_line j)) (before_close is)))) (phi_marks i p)
    ∙ ap (λ o. cond (o == op.PHI) (Phi i.offset (word i 1) (word i 2) (phi_pairs i.words))
    (cond (o == op.SELECTION_MERGE) (Selection i.offset (word i 1))
    (cond (o == op.LOOP_MERGE) (Loop i.offset (word i 1) (word i 2)) (Other i.offset))) ∷ body_of is) p

pub phi_lines_are : (i : Instruction) (is : List Instruction) → opcode i ≡ op.PHI
    → phis (map line (up_to_terminator (i ∷ is))) ≡ i.words ∷ phis (map line (up_to_terminator is))
phi_lines_are i is p =
    ap (λ b. phis (map line (cond b (i ∷ []) (i ∷ up_to_terminator is)))) (phi_ends i p)
    ∙ ap (λ w. cond (is_phi w) (w ∷ phis (map line (up_to_terminator is))) []) (phi_line_words i p)
    ∙ ap (λ o. cond (o == op.PHI) (i.words ∷ phis (map line (up_to_terminator is))) []) p

pub no_phi_lines : (i : Instruction) (is : List Instruction) → (opcode i == op.PHI) ≡ false → phis (map line (up_to_terminator (i ∷ is))) ≡ []
no_phi_lines i is n = elim (is_terminator i) as (λ b. phis (map line (cond b (i ∷ []) (i ∷ up_to_terminator is))) ≡ []) [
  | true ↦ ap (λ b. cond b (line i ∷ []) []) (other_line i n)
  | false ↦ ap (λ b. cond b (line i ∷ phis (map line (up_to_terminator is))) []) (other_line i n)
]

module _ (is_pointer : ℕ → Bool) (f : Code) (t : ℕ) where
  -- by induction on the instructions
  good_lines : (is : List Instruction) → AreSpelled is → phi_faults is_pointer f t (body_of is) ≡ [] → AreGood f t (phis (map line (up_to_terminator is)))
  good_lines [] s h = tt
  good_lines (i ∷ is) s h = elim (eqb_tells (opcode i) op.PHI) [
    | inl (e, p) ↦
        let fine = passes i.offset 406 (phi_fits is_pointer f t (word i 1) (phi_pairs i.words)) (phi_faults is_pointer f t (body_of is))
        (ap (phi_faults is_pointer f t) (sym (phi_body i is p)) ∙ h) in
        let good : IsGood f t i.words = record {
          once = both_right (not (is_first f t) && not (is_pointer (word i 1))) (names_each_once (predecessors f t) (seconds (phi_pairs i.words))) fine.holds;
          spelled = s.0 p;
        } in
        subst (λ z. AreGood f t z) (sym (phi_lines_are i is p)) (good, good_lines is s.1 fine.none)
    | inr (e, p) ↦ subst (λ z. AreGood f t z) (sym (no_phi_lines i is e)) tt
  ]

  pub good_phis : (insts : List Instruction) (b : Block) → AreInstructions insts → block (blocks_of insts) t ≡ Some b → phi_faults is_pointer f t b.body ≡ []
      → AreGood f t (phis (text insts t))
  good_phis insts b each at h =
      good_lines (behind_label insts t) (behind_spelled insts t (all_spelled insts each)) (ap (phi_faults is_pointer f t) (sym (cut insts t b at).body) ∙ h)
