use Rattle.std.proofs.Common.{◌≡◌, ◌∙◌, arith}
use Rattle.std.proofs.lemmas.Grind.{common_steps}
use Rattle.spv_words.proofs.WordLemmas.{words_by-read}
use Rattle.spv_words.proofs.coding.read_words.Goals as goal

pub returns-clause-words : goal.returns-clause-words
returns-clause-words g c =
    let whole : c.from_vec.result ≡ c.read_u32_into.new.dst = grind (arith, common_steps) in
    whole ∙ words_by-read g.T.ByteOrder.number_of g.met.T.ByteOrder.reads_first c.args.bytes.now c.read_u32_into.new.dst (grind (arith, common_steps)) c.read_u32_into.ensures
