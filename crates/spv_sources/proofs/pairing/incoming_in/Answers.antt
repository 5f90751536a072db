use Rattle.std.proofs.Common.{◌≡◌, ◌++◌, List, ℕ, All, map, sym, subst}
use Rattle.spv_blocks.specs.Cutting.{pairs}
use Rattle.spv_sources.specs.Pairs.{IsIdPair, incoming}
use Rattle.spv_sources.proofs.Pairings.{pair_here, pairs_behind, pairs_more}
use Rattle.spv_sources.proofs.pairing.incoming_in.Goals as goal

pub push_incoming-requires : goal.push_incoming-requires
push_incoming-requires c = pair_here IsIdPair c.pairs.rest.now c.in-len2-up.len_at_least c.pairs.invariant.ids

pub pairs-preserved : goal.pairs-preserved
pairs-preserved c = record {
  same = subst (λ (rest : List ℕ). pairs c.args.words.now ≡ map incoming c.push_incoming.new.list.items ++ pairs rest) (sym c.words_from-rest.ensures)
      (pairs_more c.args.words.now c.pairs.rest.now (map incoming c.pairs.list.items) (map incoming c.push_incoming.new.list.items) c.in-len2-up.len_at_least c.pairs.invariant.same c.in_ok-push_incoming.ensures);
  ids = subst (λ (rest : List ℕ). All IsIdPair (pairs rest)) (sym c.words_from-rest.ensures) (pairs_behind IsIdPair c.pairs.rest.now c.in-len2-up.len_at_least c.pairs.invariant.ids);
}
