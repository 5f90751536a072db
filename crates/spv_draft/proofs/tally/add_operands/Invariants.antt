use Rattle.std.proofs.Common.{take}
use Rattle.spv_grammar.specs.Roles.{is_used_id}
use Rattle.spv_draft.specs.Tallies.{Adds}
use Rattle.spv_draft.proofs.Counting.{picked}
use Rattle.spv_draft.proofs.tally.add_operands.Given as goal

abbrev pub invariant-words : goal.invariant-words
invariant-words l = Adds l.initial.tally l.tally (picked is_used_id (take l.k l.roles) (take l.k l.inst.words.now))
