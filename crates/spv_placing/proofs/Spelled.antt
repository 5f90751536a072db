-- What is written one after another is cut into the instructions placed one behind the other.
use Rattle.std.proofs.Common.{◌≡◌, ℕ, suc, ◌+◌, ◌<◌, ◌≤◌, List, [], ◌∷◌, ◌++◌, length, drop, slice_get, Some, refl, ap, ◌∙◌, arith}
use Rattle.std.specs.Prelude.{slice_index}
use Rattle.std.specs.List.{flat_map}
use Rattle.std.proofs.Math.Seq.{take-append_seam, drop-append_seam}
use Rattle.std.proofs.lemmas.List.{length-append}
use Rattle.spv_grammar.specs.Operands.{count_of}
use Rattle.spv_module.specs.Code.{Code, cut, code_of, spelling}
use Rattle.spv_module.specs.Instruction.{Instruction, IsInstruction, roles}
use Rattle.spv_module.proofs.Cutting.{cut-step}
use Rattle.spv_placing.specs.Placing.{placed_from}

abbrev pub AreInstructions : List Instruction → Type 0
AreInstructions insts = (k : ℕ) (i : Instruction) → slice_get insts k ≡ Some i → IsInstruction i.words (roles i)

first_stays : (words rest : List ℕ) → 0 < length words → slice_index (words ++ rest) 0 ≡ slice_index words 0
first_stays [] rest h = absurd (omega arith)
first_stays (w ∷ ws) rest h = refl

-- induction on the instructions
cut_placed : (at : ℕ) (insts : List Instruction) → AreInstructions insts → cut at 0 (flat_map (λ i. i.words) insts) ≡ placed_from at insts
unfolding cut
cut_placed at [] h = refl
cut_placed at (i ∷ is) h =
    let rest : List ℕ = flat_map (λ (j : Instruction). j.words) is in
    let n : ℕ = length i.words in
    let whole : IsInstruction i.words (roles i) = h 0 i refl in
    let long : n ≤ length (i.words ++ rest) = omega (arith, length-append i.words rest) in
    cut-step at n (i.words ++ rest) (ap count_of (first_stays i.words rest whole.some) ∙ whole.counted) whole.some long
    ∙ ap (λ (ws : List ℕ). (record { offset = at; words = ws }) ∷ cut (at + n) 0 (drop n (i.words ++ rest))) (take-append_seam i.words rest)
    ∙ ap (λ (ws : List ℕ). (record { offset = at; words = i.words }) ∷ cut (at + n) 0 ws) (drop-append_seam i.words rest)
    ∙ ap (λ (more : List Instruction). (record { offset = at; words = i.words }) ∷ more) (cut_placed (at + n) is (λ k j e. h (suc k) j e))

-- a module with its instructions placed behind the header is the one that its words spell
pub spelled_placed : (code : Code) → AreInstructions code.insts → code_of (spelling code) ≡ record code { insts = placed_from 5 code.insts }
spelled_placed code h = ap (λ (insts : List Instruction). record { header = code.header; insts = insts }) (cut_placed 5 code.insts h)

-- each instruction has a word
pub few_from_words : (insts : List Instruction) → AreInstructions insts → length insts ≤ length (flat_map (λ (i : Instruction). i.words) insts)
few_from_words [] h = omega arith
few_from_words (i ∷ is) h =
    let first : IsInstruction i.words (roles i) = h 0 i refl in
    let later = few_from_words is (λ k j e. h (suc k) j e) in
    omega (arith, first.some, later, length-append i.words (flat_map (λ (j : Instruction). j.words) is))
