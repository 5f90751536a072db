-- Known lengths from the first words of constants.
use Rattle.std.proofs.Common.{◌≡◌, ℕ, Bool, List, Some, None, ap, ◌∙◌}
use Rattle.std.specs.Option.{option_and_then}
use Rattle.spv_module.specs.Instruction.{Instruction}
use Rattle.spv_composites.specs.Lengths.{is_signed, some_length, first_known_word, known_length}

pub known_length-some : (insts : List Instruction) (id word : ℕ) (signed : Bool) → signed ≡ is_signed insts id → Some word ≡ first_known_word insts id →
    some_length signed word ≡ known_length insts id
unfolding known_length
known_length-some insts id word signed e h = ap (λ (s : Bool). some_length s word) e ∙ ap (option_and_then (some_length (is_signed insts id))) h

pub known_length-none : (insts : List Instruction) (id : ℕ) → None ≡ first_known_word insts id → None ≡ known_length insts id
unfolding known_length
known_length-none insts id h = ap (option_and_then (some_length (is_signed insts id))) h
