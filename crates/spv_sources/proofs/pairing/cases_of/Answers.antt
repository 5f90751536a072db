use Rattle.std.proofs.Common.{List, ℕ, All, sym, subst}
use Rattle.spv_blocks.specs.Cutting.{pairs}
use Rattle.spv_sources.specs.Pairs.{IsCase}
use Rattle.spv_sources.proofs.Words.{switch_words}
use Rattle.spv_sources.proofs.pairing.cases_of.Goals as goal

pub cases_in-requires : goal.cases_in-requires
cases_in-requires c =
    subst (λ (words : List ℕ). All IsCase (pairs words)) (sym c.words_from.ensures) (switch_words c.args.switch.now.words.now c.args.switch.now.roles.now c.args.switch.now.whole c.requires).cases
