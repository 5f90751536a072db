use Rattle.std.proofs.Common.{◌≡◌, ◌<◌, ◌^◌, All, arith}
use Rattle.std.proofs.lemmas.List.{get_or_default}
use Rattle.std.proofs.lemmas.Grind.{common_steps}
use Rattle.spv_words.specs.Words.{bytes_of_words}
use Rattle.spv_words.proofs.WordLemmas.{words_in-bytes_of_words}
use Rattle.spv_words.proofs.coding.bytes_of.Goals as goal

pub returns-clause-reads_back : goal.returns-clause-reads_back
unfolding bytes_of_words
returns-clause-reads_back c header =
    let bytes : c.from_vec.result ≡ bytes_of_words c.args.words.now = grind (arith, common_steps) in
    let fit : All (λ word. word < 2 ^ 32) c.args.words.now =
    λ k d below. let here = c.type_inv.words k in rw (get_or_default c.args.words.now k d 0 below) (omega arith) in
    rw bytes (words_in-bytes_of_words c.args.words.now fit header)
