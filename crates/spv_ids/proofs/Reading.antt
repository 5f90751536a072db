-- The places of definitions, read one instruction after the other, and what stands there.
use Rattle.std.proofs.Common.{◌≡◌, ℕ, ◌+◌, ◌<◌, cond, List, [], ◌∷◌, ◌++◌, length, take, Option, Some, None, sym, ap, ◌∙◌, add-one, arith}
use Rattle.std.specs.List.{slice_get}
use Rattle.std.specs.Option.{option_map_or, option_or}
use Rattle.std.proofs.Math.Seq.{take-suc}
use Rattle.std.proofs.lemmas.List.{length-take-le}
use Rattle.std.proofs.lemmas.Option.{get_or_from_slice_get}
use Rattle.spv_module.specs.Instruction.{Instruction}
use Rattle.spv_ids.specs.Ids.{defines, place_of, definition}
use Rattle.spv_ids.specs.Places.{HasPlaces, AddsPlace}
use Rattle.spv_ids.proofs.Places.{position-push, find-position}

take-at : (insts : List Instruction) (k : ℕ) (i : Instruction) → k < length insts → slice_get insts k ≡ Some i → take (k + 1) insts ≡ take k insts ++ i ∷ []
take-at insts k i fits at = rw add-one (take-suc insts k i fits ∙ ap (λ (j : Instruction). take k insts ++ j ∷ []) (get_or_from_slice_get insts k i i at))

-- one instruction more
pub has-more : (old new : List ℕ) (insts : List Instruction) (k : ℕ) (i : Instruction) → HasPlaces old (take k insts) → AddsPlace old new k i → k < length insts → slice_get insts k ≡ Some i → HasPlaces new (take (k + 1) insts)
has-more old new insts k i has adds fits at =
    let count : length (take k insts) ≡ k = length-take-le k insts (omega arith) in
    record {
      at = λ id.
          adds.at id
          ∙ ap (λ (o : Option ℕ). option_or o (cond (defines id i) (Some k) None)) (has.at id)
          ∙ ap (λ (n : ℕ). option_or (place_of (take k insts) id) (cond (defines id i) (Some n) None)) (sym count)
          ∙ sym (position-push (defines id) (take k insts) i)
          ∙ ap (λ (is : List Instruction). place_of is id) (sym (take-at insts k i fits at));
    }

-- what stands at the place of a definition
pub definition-at : (insts : List Instruction) (id place : ℕ) (i : Instruction) → Some place ≡ place_of insts id → slice_get insts place ≡ Some i → Some i ≡ definition insts id
definition-at insts id place i e at =
    sym at ∙ ap (λ (o : Option ℕ). option_map_or (slice_get insts) o None) e ∙ sym (find-position (defines id) insts)

pub definition-none : (insts : List Instruction) (id : ℕ) → None ≡ place_of insts id → None ≡ definition insts id
definition-none insts id e = ap (λ (o : Option ℕ). option_map_or (slice_get insts) o None) e ∙ sym (find-position (defines id) insts)
