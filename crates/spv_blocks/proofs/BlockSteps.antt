-- The blocks of a function, one instruction after the other.
use Rattle.std.proofs.Common.{◌≡◌, ℕ, ◌+◌, ◌≤◌, true, false, not, List, [], ◌∷◌, ◌++◌, length, take, drop, map, Some, refl, sym, ap, ◌∙◌, append_assoc}
use Rattle.std.specs.List.{filter, find, slice_get}
use Rattle.std.proofs.lemmas.List.{drop_all, map-append}
use Rattle.std.proofs.lemmas.List.Elements.{filter-append}
use Rattle.std.proofs.lemmas.Option.{slice_get_past}
use Rattle.spv_module.specs.Code.{is_line}
use Rattle.spv_module.specs.Instruction.{Instruction}
use Rattle.spv_blocks.specs.Blocks.{Ins, Block}
use Rattle.spv_blocks.specs.Cutting.{is_label_mark, closes, before_close, ins, block_of, blocks_of}
use Rattle.spv_blocks.proofs.Slices.{drop-at, slice-at, front-goes_on, front-stops}

-- the block goes on
pub open-goes_on : (insts : List Instruction) (from k : ℕ) (i : Instruction) → from ≤ k → slice_get insts k ≡ Some i → closes i ≡ false →
    before_close (drop from insts) ≡ drop from (take k insts) ++ before_close (drop k insts) →
    before_close (drop from insts) ≡ drop from (take (k + 1) insts) ++ before_close (drop (k + 1) insts)
open-goes_on insts from k i h at no_close told = front-goes_on before_close insts from k i h at (rw no_close refl) told

pub found-goes_on : (insts : List Instruction) (from k : ℕ) (i : Instruction) → slice_get insts k ≡ Some i → closes i ≡ false →
    find closes (drop from insts) ≡ find closes (drop k insts) → find closes (drop from insts) ≡ find closes (drop (k + 1) insts)
found-goes_on insts from k i at no_close told = told ∙ ap (find closes) (drop-at insts k i at) ∙ rw no_close refl

-- the block ends
pub open-stops : (insts : List Instruction) (from k : ℕ) (i : Instruction) → slice_get insts k ≡ Some i → closes i ≡ true →
    before_close (drop from insts) ≡ drop from (take k insts) ++ before_close (drop k insts) →
    drop from (take k insts) ≡ before_close (drop from insts)
open-stops insts from k i at close told = front-stops before_close insts from k i at (rw close refl) told

pub found-here : (insts : List Instruction) (from k : ℕ) (i : Instruction) → slice_get insts k ≡ Some i → closes i ≡ true →
    find closes (drop from insts) ≡ find closes (drop k insts) → slice_get insts k ≡ find closes (drop from insts)
found-here insts from k i at close told = at ∙ sym (told ∙ ap (find closes) (drop-at insts k i at) ∙ rw close refl)

-- or the instructions end before
pub found-none : (insts : List Instruction) (from k n : ℕ) → length insts ≤ k → length insts ≤ n →
    find closes (drop from insts) ≡ find closes (drop k insts) → slice_get insts n ≡ find closes (drop from insts)
found-none insts from k n past behind told = slice_get_past insts n behind ∙ sym (told ∙ ap (find closes) (drop_all k insts past))

-- the instructions of a block, without line marks
abbrev pub plain : List Instruction → List Ins
plain insts = map ins (filter (λ i. not (is_line i)) insts)

pub plain-more : (insts : List Instruction) (from k : ℕ) (i : Instruction) (front front2 : List Ins) → from ≤ k → slice_get insts k ≡ Some i →
    front2 ≡ front ++ plain (i ∷ []) → front ≡ plain (drop from (take k insts)) → front2 ≡ plain (drop from (take (k + 1) insts))
plain-more insts from k i front front2 h at more told =
    let test = λ (j : Instruction). not (is_line j) in
    let before = drop from (take k insts) in
    more
    ∙ ap (λ f. f ++ plain (i ∷ [])) told
    ∙ sym (ap plain (slice-at insts from k i h at) ∙ ap (map ins) (filter-append test before (i ∷ [])) ∙ map-append ins (filter test before) (filter test (i ∷ [])))

-- a block more, where an OpLabel begins one
pub blocks-more : (insts : List Instruction) (k : ℕ) (i : Instruction) (b : Block) (front front2 : List Block) → slice_get insts k ≡ Some i → is_label_mark i ≡ true →
    b ≡ block_of i (drop (k + 1) insts) → front2 ≡ front ++ b ∷ [] →
    front2 ++ blocks_of (drop (k + 1) insts) ≡ front ++ blocks_of (drop k insts)
blocks-more insts k i b front front2 at label same pushed =
    ap (λ f. f ++ blocks_of (drop (k + 1) insts)) pushed
    ∙ append_assoc front (b ∷ []) (blocks_of (drop (k + 1) insts))
    ∙ ap (λ rest. front ++ rest) (ap (λ c. c ∷ blocks_of (drop (k + 1) insts)) same ∙ sym (ap blocks_of (drop-at insts k i at) ∙ rw label refl))

pub blocks-other : (insts : List Instruction) (k : ℕ) (i : Instruction) (front : List Block) → slice_get insts k ≡ Some i → is_label_mark i ≡ false →
    front ++ blocks_of (drop (k + 1) insts) ≡ front ++ blocks_of (drop k insts)
blocks-other insts k i front at other = ap (λ rest. front ++ rest) (sym (ap blocks_of (drop-at insts k i at) ∙ rw other refl))
