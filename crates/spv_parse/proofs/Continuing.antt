-- How a sequence comes from one block to the next.
use Rattle.std.proofs.Common.{ℕ, ◌-◌, ◌≤◌, List, refl, ◌∙◌, arith}
use Rattle.spv_bodies.specs.Bodies.{Body}
use Rattle.spv_tree.specs.declared.body.Item.{Item}
use Rattle.spv_tree.specs.declared.body.End.{End}
use Rattle.spv_tree.specs.Tree.{end_body, items_then}
use Rattle.spv_parse.specs.declared.scene.Scene.{Scene}
use Rattle.spv_parse.specs.declared.state.State.{State}
use Rattle.spv_parse.specs.Ends.{Ends, Leads, SpellsState, StandsState}

-- the items so far go on as the state does, and no more blocks may lie behind
pub record Continues (s : Scene) (first : State) (items : List Item) (before : ℕ) (state : State) (left : ℕ) (now : List Item) : Type 0 where
  pub stands : StandsState s state left
  pub less : left ≤ before
  pub goes : (rest : Body) → SpellsState s state rest → Ends (SpellsState s first) items (items_then now rest)

pub continues_first : (s : Scene) (first : State) (items : List Item) (before : ℕ) → StandsState s first before → Continues s first items before first before items
continues_first s first items before h = record { stands = h; less = omega arith; goes = λ rest spells. record { body = rest; spells = spells; same = refl } }

-- where the items go on as old items and a body that is spelled
ends_along : (s : Scene) (first : State) (items : List Item) (before : ℕ) (state : State) (left : ℕ) (old : List Item) (whole : Body)
    → Continues s first items before state left old → Ends (SpellsState s state) old whole → Ends (SpellsState s first) items whole
ends_along s first items before state left old whole c e =
    let more = c.goes e.body e.spells in
    record { body = more.body; spells = more.spells; same = e.same ∙ more.same }

pub continues_more : (s : Scene) (first : State) (items : List Item) (before : ℕ) (state : State) (left : ℕ) (old new : List Item) (next : State)
    → Continues s first items before state left old → Leads s (SpellsState s state) left old new next
    → Continues s first items before next (left - 1) new
continues_more s first items before state left old new next c leads = record {
  stands = leads.stands;
  less = let h = c.less in omega arith;
  goes = λ rest spells. ends_along s first items before state left old (items_then new rest) c (leads.spells rest spells);
}

pub continues_end : (s : Scene) (first : State) (items : List Item) (before : ℕ) (state : State) (left : ℕ) (old new : List Item) (end : End)
    → Continues s first items before state left old → Ends (SpellsState s state) old (items_then new (end_body end))
    → Ends (SpellsState s first) items (items_then new (end_body end))
continues_end s first items before state left old new end c e = ends_along s first items before state left old (items_then new (end_body end)) c e
