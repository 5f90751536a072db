use Rattle.std.proofs.Common.{List, take}
use Rattle.spv_module.specs.declared.list.Span.{Span}
use Rattle.spv_module.specs.List.{AreSpans}
use Rattle.spv_draft.specs.Lines.{Extends}
use Rattle.spv_draft.proofs.lines.append_list.Given as goal

abbrev pub invariant-instructions : goal.invariant-instructions
invariant-instructions l = (spans : List Span) → AreSpans l.initial.pool spans → Extends l.initial.pool l.pool spans l.more.items (take l.k l.list)
