use Rattle.std.proofs.Common.{◌≡◌, ℕ, ◌≤◌, List, length, drop, ap, arith, rules}
use Rattle.std.proofs.lemmas.List.{length-drop}
use Rattle.spv_module.specs.Code.{Code, cut}
use Rattle.spv_module.specs.Instruction.{Instruction}
use Rattle.spv_module.proofs.Decoding.{cut-rises}
use Rattle.spv_types.specs.Whole.{Rises}
use Rattle.admission_tests.proofs.control.module.Goals as goal

-- the places of the instructions that the words of a module spell rise
cut_rises : (words : List ℕ) (insts : List Instruction) → 5 ≤ length words → insts ≡ cut 5 0 (drop 5 words) → Rises insts
cut_rises words insts five e = (length words, rw e (cut-rises (length words) 5 0 (drop 5 words) (omega (arith, length-drop 5 words))))

pub is_declared-requires : goal.is_declared-requires
is_declared-requires c =
    let five : 5 ≤ length c.deref.result.now = search rules in
    cut_rises c.deref.result.now c.in-Ok.flat.insts five (ap (λ (code : Code). code.insts) c.in-Ok.ensures.answer.1)
