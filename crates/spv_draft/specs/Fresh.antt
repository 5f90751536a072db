-- Ids that are handed out.
use Rattle.std.specs.Prelude.{◌≡◌, ℕ, ◌<◌, ◌≤◌, List, [], ◌∷◌, ◌++◌, Result, Ok, Err}
use Rattle.spv_draft.specs.declared.fresh.IdFault.{IdFault}
use Rattle.spv_draft.specs.declared.fresh.IdFault.TheVariants.{PastIds, NoMemory}
use Rattle.spv_draft.specs.declared.fresh.Index.{Index}
use Rattle.spv_draft.specs.declared.tally.Tally.{Tally}
use Rattle.spv_draft.specs.Drafted.{Drafted, taken_ids}
use Rattle.spv_draft.specs.Named.{times}
use Rattle.spv_draft.specs.Tallies.{tallied}

-- the least id above 0 that is not among those named, and no greater than the profile has room for
pub record IsFresh (named : List ℕ) (id : ℕ) : Type 0 where
  pub above : 0 < id
  pub within : id ≤ 4194302
  pub free : times id named ≡ 0
  pub least : (n : ℕ) → 0 < n → n < id → 0 < times n named

-- each id that the profile has room for is named
pub record AllNamed (named : List ℕ) : Type 0 where
  pub at : (n : ℕ) → 0 < n → n ≤ 4194302 → 0 < times n named

-- what asking for an id does
abbrev pub Gives : Drafted → Drafted → Result ℕ IdFault → Type 0
Gives old new (Ok id) = IsFresh (taken_ids old) id × (new ≡ record old { given = old.given ++ id ∷ [] })
Gives old new (Err PastIds) = AllNamed (taken_ids old) × (new ≡ old)
Gives old new (Err NoMemory) = new ≡ old

-- what the code keeps: the counts of the ids that are named, and that those before `next` are
pub record Knows (index : Index) (named : List ℕ) : Type 0 where
  pub at : (id : ℕ) → tallied index.tally id ≡ times id named
  pub above : 0 < index.next
  pub below : (n : ℕ) → 0 < n → n < index.next → 0 < times n named

pub record IsFirstFree (tally : Tally) (from next : ℕ) : Type 0 where
  pub onward : from ≤ next
  pub below : (n : ℕ) → from ≤ n → n < next → 0 < tallied tally n
  pub stops : next ≤ 4194302 → tallied tally next ≡ 0
