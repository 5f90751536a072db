-- Loops.
use Rattle.std.specs.Prelude.{ℕ, [], ◌∷◌}
use Rattle.spv_bodies.specs.Bodies as plain
use Rattle.spv_bodies.specs.Listing.{loop_line}
use Rattle.spv_spelling.specs.Spelling.{SpellsPart, SpellsLoop, SpellsHead}
use Rattle.spv_tree.specs.declared.body.Entry.{Entry}
use Rattle.spv_tree.specs.declared.body.Item.{Loop as ALoopItem}
use Rattle.spv_tree.specs.declared.body.Loop.{Loop}
use Rattle.spv_tree.specs.declared.body.Opening.{Opening}
use Rattle.spv_tree.specs.Tree.{entry_of, item_then, opening_body}
use Rattle.spv_walk.specs.Contexts.{InBody}
use Rattle.spv_sources.specs.declared.close.LoopEnd.{LoopEnd}
use Rattle.spv_sources.specs.Close.{loop_end_line}
use Rattle.spv_parse.specs.declared.scene.Scene.{Scene}
use Rattle.spv_parse.specs.Scene.{insts_of, staying, context, IsNext}

-- the loop with the header h
pub record IsTurn (s : Scene) (h : ℕ) (entry : Entry) (left : ℕ) (turn : Loop) : Type 0 where
  pub next : IsNext s left turn.merge.label (context s h)
  pub spells : (rest : plain.Body) → SpellsPart (insts_of s) (staying s) turn.merge.label (context s h) rest
      → SpellsLoop (insts_of s) (staying s) h (context s h) (entry_of entry) (item_then (ALoopItem turn) rest)

-- how its header goes on behind its merge instruction
abbrev pub OpensLoop : Scene → (h control merge next : ℕ) → LoopEnd → Opening → Type 0
OpensLoop s h control merge next end opening =
    SpellsHead (insts_of s) (staying s) h (InBody h merge next ∷ context s h) (loop_line merge next control) (loop_line merge next control ∷ loop_end_line end ∷ []) (opening_body opening)
