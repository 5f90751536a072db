-- The places of the instructions that the words of a module spell rise.
use Rattle.std.proofs.Common.{◌≡◌, ℕ, ◌≤◌, List, length, drop, arith}
use Rattle.std.proofs.lemmas.List.{length-drop}
use Rattle.spv_module.specs.Code.{cut}
use Rattle.spv_module.specs.Instruction.{Instruction}
use Rattle.spv_module.proofs.Decoding.{cut-rises}
use Rattle.spv_types.specs.Whole.{Rises}

pub cut_rises : (words : List ℕ) (insts : List Instruction) → 5 ≤ length words → insts ≡ cut 5 0 (drop 5 words) → Rises insts
cut_rises words insts five e = (length words, rw e (cut-rises (length words) 5 0 (drop 5 words) (omega (arith, length-drop 5 words))))
