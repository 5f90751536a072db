use Rattle.std.proofs.Common.{ℕ, List, Option, ◌∙◌, ap}
use Rattle.std.specs.Option.{unwrap_or}
use Rattle.spv_typing.specs.Kinds.{last_id}
use Rattle.spv_typing.proofs.Parts.{last-at}
use Rattle.spv_typing.proofs.kinds.Kinds.last_member.Goals as goal

pub returns : goal.returns
returns c =
    c.unwrap_or.ensures
    ∙ ap (λ (o : Option ℕ). unwrap_or o 0) (c.copied.ensures ∙ c.last.ensures.value)
    ∙ last-at c.members.result.now
    ∙ ap (λ (xs : List ℕ). last_id xs) c.members.ensures
