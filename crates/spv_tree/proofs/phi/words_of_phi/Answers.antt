use Rattle.std.proofs.Common.{length}
use Rattle.spv_bodies.specs.Listing.{pair_words, phi_pairs}
use Rattle.spv_tree.specs.Branches.{shown}
use Rattle.spv_tree.proofs.Phis.{phi-built, phi-length}
use Rattle.spv_tree.proofs.phi.words_of_phi.Goals as goal

pub returns : goal.returns
returns c =
    let branches = c.args.branches.now in
    phi-built (length branches) c.head.result c.args.parameter.now.type_id c.args.parameter.now.result_id (pair_words (phi_pairs c.args.k (shown branches))) c.new-words.result.items
    c.push.new.self.items c.push_id.new.words.items c.push_id-2.new.words.items c.push_pairs.new.words.items c.new-words.ensures.items c.in_ok-push.ensures.items c.in_ok-push_id.ensures
    c.in_ok-push_id-2.ensures c.in_ok-push_pairs.ensures c.head.ensures (phi-length c.args.k branches) c.requires.short
