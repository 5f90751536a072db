use Rattle.std.proofs.Common.{◌≡◌, ◌++◌, List, ℕ, All, map, sym, subst}
use Rattle.spv_blocks.specs.Cutting.{pairs}
use Rattle.spv_tree.specs.Tree.{case_of}
use Rattle.spv_sources.specs.Pairs.{IsCase}
use Rattle.spv_sources.proofs.Pairings.{pair_here, pairs_behind, pairs_more}
use Rattle.spv_sources.proofs.pairing.cases_in.Goals as goal

pub push_case-requires : goal.push_case-requires
push_case-requires c = pair_here IsCase c.pairs.rest.now c.in-len2-up.len_at_least c.pairs.invariant.ids

pub pairs-preserved : goal.pairs-preserved
pairs-preserved c = record {
  same = subst (λ (rest : List ℕ). pairs c.args.words.now ≡ map case_of c.push_case.new.list.items ++ pairs rest) (sym c.words_from-rest.ensures)
      (pairs_more c.args.words.now c.pairs.rest.now (map case_of c.pairs.list.items) (map case_of c.push_case.new.list.items) c.in-len2-up.len_at_least c.pairs.invariant.same c.in_ok-push_case.ensures);
  ids = subst (λ (rest : List ℕ). All IsCase (pairs rest)) (sym c.words_from-rest.ensures) (pairs_behind IsCase c.pairs.rest.now c.in-len2-up.len_at_least c.pairs.invariant.ids);
}
