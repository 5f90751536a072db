use Rattle.std.proofs.Common.{◌∙◌, arith, sym}
use Rattle.spv_words.proofs.WordLemmas.{has_header-big, has_header-little}
use Rattle.spv_words.proofs.coding.words_of.Goals as goal

pub returns-then-read_u32-eq-MAGIC-clause-header : goal.returns-then-read_u32-eq-MAGIC-clause-header
returns-then-read_u32-eq-MAGIC-clause-header c =
    let magic = sym c.read_u32.ensures ∙ c.if-read_u32-eq-MAGIC.true in
    rw c.in_ok-read_words.ensures.words (has_header-little c.args.bytes.now (omega arith) (omega arith) magic)

pub returns-then-read_u32-eq-MAGIC-2-clause-header : goal.returns-then-read_u32-eq-MAGIC-2-clause-header
returns-then-read_u32-eq-MAGIC-2-clause-header c =
    let magic = sym c.read_u32-2.ensures ∙ c.if-read_u32-eq-MAGIC-2.true in
    rw c.in_ok-read_words-2.ensures.words (has_header-big c.args.bytes.now (omega arith) (omega arith) magic)
