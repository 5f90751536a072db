use Rattle.function_trees.proofs.Declared.{decoded_is_declared, decoded_rises}
use Rattle.function_trees.proofs.reading.decode_declared.Goals as goal

pub tables-requires : goal.tables-requires
tables-requires c = decoded_rises c.args.words.now c.in_ok-flat.flat c.requires.header.five c.in_ok-flat.ensures.answer

pub returns : goal.returns
returns c = decoded_is_declared c.args.words.now c.in_ok-flat.flat c.in_ok-flat.ensures.answer c.in_ok-tables.ensures.0
