-- The output means what the input means.
use Rattle.std.specs.Prelude.{◌≡◌, ◌↔◌, ℕ, false, List, Some, Ok}
use Rattle.spv_machine.specs.Dispatch.{Dispatch}
use Rattle.spv_machine.specs.Laws.{KeepsAccesses, KeepsSize, SameFinals}
use Rattle.spv_machine.specs.Machine.{Ends, Fits}
use Rattle.spv_module.specs.Code.{code_of}
use Rattle.spv_words.specs.Words.{words_in}

-- Both are modules. Under each dispatch, with each specialisation, each invocation of the output makes the accesses of the input's and ends alike, the
-- workgroup size is the same, and the two fit alike. Where every schedule of the input returns, so does every schedule of the output, and both can leave the
-- same buffers.
pub record Means (input output : List ℕ) : Type 0 where
  pub before : List ℕ
  pub after : List ℕ
  pub input_words : words_in input ≡ Ok before
  pub output_words : words_in output ≡ Ok after
  pub accesses : KeepsAccesses (code_of before) (code_of after) (λ s. s) (λ a. false) (λ v. Some v)
  pub size : KeepsSize (code_of before) (code_of after) (λ s. s)
  pub fits : (d : Dispatch) → Fits (code_of before) d ↔ Fits (code_of after) d
  pub finals : (d : Dispatch) → Fits (code_of before) d → Ends (code_of before) d → SameFinals (code_of before) d (code_of after) d
