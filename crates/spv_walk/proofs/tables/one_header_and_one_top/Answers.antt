use Rattle.spv_walk.proofs.Unique.{one_merge, one_next, merge_or_next}
use Rattle.spv_walk.proofs.Tops as tops
use Rattle.spv_walk.proofs.tables.one_header_and_one_top.Goals as goal

pub returns-clause-named_once : goal.returns-clause-named_once
returns-clause-named_once c = λ f h k l n. record { merge = one_merge f h k l n; next = one_next f h k l n; apart = merge_or_next f h k l n }

pub returns-clause-one_top : goal.returns-clause-one_top
returns-clause-one_top c = tops.one_top
