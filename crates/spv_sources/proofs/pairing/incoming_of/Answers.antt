use Rattle.std.proofs.Common.{List, ℕ, All, sym, subst}
use Rattle.spv_blocks.specs.Cutting.{pairs}
use Rattle.spv_sources.specs.Pairs.{IsIdPair}
use Rattle.spv_sources.proofs.Words.{phi_words}
use Rattle.spv_sources.proofs.pairing.incoming_of.Goals as goal

pub incoming_in-requires : goal.incoming_in-requires
incoming_in-requires c =
    subst (λ (words : List ℕ). All IsIdPair (pairs words)) (sym c.words_from.ensures) (phi_words c.args.phi.now.words.now c.args.phi.now.roles.now c.args.phi.now.whole c.requires).ids
