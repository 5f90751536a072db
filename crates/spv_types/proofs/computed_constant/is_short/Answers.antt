use Rattle.std.proofs.Common.{ℕ, nat_le, ap, sym}
use Rattle.spv_value.proofs.WordLists.{length-words_of}
use Rattle.spv_types.proofs.computed_constant.is_short.Goals as goal

pub returns : goal.returns
returns c = ap (λ (n : ℕ). nat_le n 4) (sym (length-words_of c.args.vector.now))
