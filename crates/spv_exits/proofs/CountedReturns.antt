-- The nested returns of the first blocks of a function.
use Rattle.std.proofs.Common.{◌≡◌, ℕ, ◌+◌, true, false, take, Option, Some, sym, ap, ◌∙◌}
use Rattle.std.specs.List.{slice_get}
use Rattle.std.proofs.lemmas.List.Sums.{count_by_more_no, count_by_more_yes}
use Rattle.std.proofs.lemmas.Option.{get_or_from_slice_get, slice_get_within}
use Rattle.spv_blocks.specs.Blocks.{Block, Code}
use Rattle.spv_walk.specs.Contexts.{Context}
use Rattle.spv_exits.specs.Exits.{is_nested_return, nested_by}

module _ (place : ℕ → Option Context) where
  pub nested-more : (f : Code) (k n : ℕ) (b : Block) → slice_get f k ≡ Some b → n ≡ nested_by place (take k f) → is_nested_return place b ≡ true
      → n + 1 ≡ nested_by place (take (k + 1) f)
  nested-more f k n b at told is =
      ap (λ m. m + 1) told
      ∙ sym (count_by_more_yes (is_nested_return place) f k b (slice_get_within f k b at) (ap (is_nested_return place) (get_or_from_slice_get f k b b at) ∙ is))

  pub nested-same : (f : Code) (k n : ℕ) (b : Block) → slice_get f k ≡ Some b → n ≡ nested_by place (take k f) → is_nested_return place b ≡ false
      → n ≡ nested_by place (take (k + 1) f)
  nested-same f k n b at told is =
      told
      ∙ sym (count_by_more_no (is_nested_return place) f k b (slice_get_within f k b at) (ap (is_nested_return place) (get_or_from_slice_get f k b b at) ∙ is))
