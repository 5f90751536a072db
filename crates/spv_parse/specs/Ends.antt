-- How a sequence goes on and ends.
use Rattle.std.specs.Prelude.{◌≡◌, ℕ, ◌-◌, ◌<◌, true, false, List}
use Rattle.spv_blocks.specs.Blocks.{construct}
use Rattle.spv_bodies.specs.Bodies as plain
use Rattle.spv_spelling.specs.Spelling.{Spells, SpellsArm, SpellsLoop}
use Rattle.spv_spelling.specs.Text.{behind_phis, copies, phis, text}
use Rattle.spv_tree.specs.declared.body.Item.{Item}
use Rattle.spv_tree.specs.Tree.{end_body, entry_of, items_then}
use Rattle.spv_sources.specs.declared.close.Close.{Close}
use Rattle.spv_sources.specs.declared.close.Close.TheVariants as close
use Rattle.spv_sources.specs.Close.{close_construct, close_end}
use Rattle.spv_parse.specs.declared.scene.Scene.{Scene}
use Rattle.spv_parse.specs.declared.state.State.{State}
use Rattle.spv_parse.specs.declared.state.State.TheVariants as state
use Rattle.spv_parse.specs.declared.state.Onward.{Onward}
use Rattle.spv_parse.specs.declared.state.Onward.TheVariants as onward
use Rattle.spv_parse.specs.Scene.{insts_of, staying, code_of, context, toward, end_in, Stands}
use Rattle.spv_parse.specs.Ways.{opens_loop}

-- the block l goes on with these lines
abbrev pub SpellsLines : Scene → (l : ℕ) → (lines : List (List ℕ)) → plain.Body → Type 0
SpellsLines s l lines body = Spells (insts_of s) (staying s) l (context s l) lines body

-- the branch of the block l to t begins this
abbrev pub SpellsArmTo : Scene → (l t : ℕ) → plain.Body → Type 0
SpellsArmTo s l t body = SpellsArm (insts_of s) (staying s) l (toward s l t) t body

abbrev pub SpellsState : Scene → State → plain.Body → Type 0
SpellsState s (state.Behind l) body = SpellsLines s l (behind_phis (text (insts_of s) l)) body
SpellsState s (state.Loop h entry) body = SpellsLoop (insts_of s) (staying s) h (context s h) (entry_of entry) body

abbrev pub StandsState : Scene → State → (left : ℕ) → Type 0
StandsState s (state.Behind l) left = Stands s l left × (opens_loop s l ≡ false)
StandsState s (state.Loop h entry) left = Stands s h left × (opens_loop s h ≡ true)

-- the block l ends so
pub record Reads (s : Scene) (l left : ℕ) (close : Close) : Type 0 where
  pub stands : Stands s l left
  pub opens : construct (code_of s) l ≡ close_construct close
  pub ends : end_in s l ≡ close_end close

-- no header of a loop
abbrev pub IsPlain : Close → Type 0
IsPlain (close.Loop control merge next end) = ⊥
IsPlain other = Unit {0}

-- these items and a body that is spelled are the whole
pub record Ends (Spelled : plain.Body → Type 0) (items : List Item) (whole : plain.Body) : Type 0 where
  pub body : plain.Body
  pub spells : Spelled body
  pub same : whole ≡ items_then items body

-- the block l with its label and copies
pub record BeginsBlock (s : Scene) (l : ℕ) (whole : plain.Body) : Type 0 where
  pub body : plain.Body
  pub spells : SpellsLines s l (behind_phis (text (insts_of s) l)) body
  pub same : whole ≡ plain.Enters l (copies (phis (text (insts_of s) l)) body)

-- where what follows the new items is spelled in the next state, the old items are gone on with as spelled
pub record Leads (s : Scene) (Spelled : plain.Body → Type 0) (left : ℕ) (old new : List Item) (next : State) : Type 0 where
  pub some : 0 < left
  pub stands : StandsState s next (left - 1)
  pub spells : (rest : plain.Body) → SpellsState s next rest → Ends Spelled old (items_then new rest)

abbrev pub GoesOn : Scene → (Spelled : plain.Body → Type 0) → (left : ℕ) → (old new : List Item) → Onward → Type 0
GoesOn s Spelled left old new (onward.To next) = Leads s Spelled left old new next
GoesOn s Spelled left old new (onward.End end) = Ends Spelled old (items_then new (end_body end))
