-- What is so of a module that was decoded: its places rise, and where no rule on declarations is broken it is declared.
use Rattle.std.proofs.Common.{◌≡◌, ℕ, ◌≤◌, List, length, drop, None, Ok, ap, arith}
use Rattle.std.proofs.lemmas.List.{length-drop}
use Rattle.spv_declarations.specs.Broken.{group_3}
use Rattle.spv_module.specs.Code.{Code, cut}
use Rattle.spv_module.specs.Decode.{Decodes}
use Rattle.spv_module.specs.First.{first}
use Rattle.spv_module.specs.Instruction.{Instruction}
use Rattle.spv_module.proofs.Decoding.{cut-rises}
use Rattle.spv_types.specs.Whole.{Rises}
use Rattle.spv_parse.proofs.Admitted.{read_laid_out}
use Rattle.spv_functions.specs.Functions.{IsDeclared}

cut_rises : (words : List ℕ) (insts : List Instruction) → 5 ≤ length words → insts ≡ cut 5 0 (drop 5 words) → Rises insts
cut_rises words insts five e = (length words, rw e (cut-rises (length words) 5 0 (drop 5 words) (omega (arith, length-drop 5 words))))

pub decoded_rises : (words : List ℕ) (code : Code) → 5 ≤ length words → Decodes words (Ok code) → Rises code.insts
decoded_rises words code five h = cut_rises words code.insts five (ap (λ (c : Code). c.insts) h.1)

pub decoded_is_declared : (words : List ℕ) (code : Code) → Decodes words (Ok code) → first (group_3 code.insts) ≡ None → IsDeclared code.insts
decoded_is_declared words code h none =
    let laid = read_laid_out words code h in
    record { end = laid.end; laid_out = laid.unbroken; declared = none }
