use Rattle.std.proofs.Common.{◌≡◌, take}
use Rattle.spv_grammar.specs.Roles.{names_id}
use Rattle.spv_draft.specs.Named.{greatest}
use Rattle.spv_draft.proofs.Counting.{picked}
use Rattle.spv_draft.proofs.bound.greatest_in.Given as goal

abbrev pub invariant-words : goal.invariant-words
invariant-words l = l.most ≡ greatest (picked names_id (take l.k l.roles) (take l.k l.inst.words.now))
