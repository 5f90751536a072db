-- The definitions' levels and what is seen, which the structs of the code hold.
use Rattle.spv_walk.specs.Contexts.{Level, InSelection, InArm, InBody, InNext}
use Rattle.spv_walk.specs.Rows.{Seen}
use Rattle.spv_walking.specs.declared.seen.Level.{Level as DeclaredLevel}
use Rattle.spv_walking.specs.declared.seen.Level.TheVariants as the
use Rattle.spv_walking.specs.declared.seen.Seen.{Seen as DeclaredSeen}

abbrev pub level_of : DeclaredLevel → Level
level_of (the.Selection merge) = InSelection merge
level_of (the.Arm header merge arm) = InArm header merge arm
level_of (the.Body header merge next) = InBody header merge next
level_of (the.Next header merge) = InNext header merge

abbrev pub seen_of : DeclaredSeen → Seen
seen_of s = record { merge = s.merge; next = s.next; switch = s.switch; in_next = s.in_next }
