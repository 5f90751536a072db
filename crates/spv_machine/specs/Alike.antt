-- Accesses and shared memories that are alike up to the names of Workgroup variables.
use Rattle.std.specs.Prelude.{◌≡◌, ℕ, Option, Some, None}
use Rattle.spv_machine.specs.Places.{Triple, Memory, Workgroup, Place}
use Rattle.spv_machine.specs.Access.{Access}
use Rattle.spv_machine.specs.Effects.{Shared, cell_word}

-- the variable that each variable becomes, where it is one still
abbrev pub Renaming : Type 0
Renaming = ℕ → Option ℕ

abbrev pub IsOneToOne : Renaming → Type 0
IsOneToOne r = (v u w : ℕ) → r v ≡ Some w → r u ≡ Some w → v ≡ u

-- a Workgroup variable becomes another; every other memory stays
abbrev pub SameMemory : Renaming → Memory → Memory → Type 0
SameMemory r (Workgroup group variable) n = (u : ℕ) × (r variable ≡ Some u) × (n ≡ Workgroup group u)
SameMemory r m n = n ≡ m

pub record SameObject (r : Renaming) (p q : Place) : Type 0 where
  pub memory : SameMemory r p.memory q.memory
  pub first : q.first ≡ p.first
  pub positions : q.positions ≡ p.positions

-- both Nowhere, or in one object
abbrev pub SamePlace : Renaming → Option Place → Option Place → Type 0
SamePlace r None None = Unit {0}
SamePlace r (Some p) None = ⊥
SamePlace r None (Some q) = ⊥
SamePlace r (Some p) (Some q) = SameObject r p q

-- all but the id is the same
pub record SameAccess (r : Renaming) (a b : Access) : Type 0 where
  pub action : b.action ≡ a.action
  pub opcode : b.opcode ≡ a.opcode
  pub place : SamePlace r a.place b.place
  pub count : b.count ≡ a.count
  pub operands : b.operands ≡ a.operands
  pub scopes : b.scopes ≡ a.scopes
  pub semantics : b.semantics ≡ a.semantics
  pub memory : b.memory ≡ a.memory
  pub volatile : b.volatile ≡ a.volatile

-- the same buffers, and in each Workgroup variable that is one still the same words
pub record NearMemory (r : Renaming) (m n : Shared) : Type 0 where
  pub buffers : n.buffers ≡ m.buffers
  pub cells : (group : Triple) (variable u position : ℕ) → r variable ≡ Some u → cell_word n.cells group u position ≡ cell_word m.cells group variable position
