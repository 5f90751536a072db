use Rattle.std.proofs.Common.{ℕ, max, take, ap, ◌∙◌, arith}
use Rattle.std.specs.List.{flat_map}
use Rattle.spv_grammar.specs.Roles.{names_id}
use Rattle.spv_module.specs.View.{seen}
use Rattle.spv_draft.specs.Named.{greatest, words_with}
use Rattle.spv_draft.proofs.Counting.{greatest-more}
use Rattle.spv_draft.proofs.bound.greatest_of.Goals as goal

pub lines-preserved : goal.lines-preserved
lines-preserved c =
    c.max-most.ensures
    ∙ ap (λ (n : ℕ). max n c.greatest_in.result) c.lines.invariant
    ∙ ap (λ (n : ℕ). max (greatest (flat_map (words_with names_id) (take c.lines.k c.args.lines.now))) n) c.greatest_in.ensures
    ∙ greatest-more (words_with names_id) c.args.lines.now c.lines.k (seen c.at.result) (omega arith) c.at.ensures
