-- A part of the first program, and what the second does from there to its end: for passes that change constructs.
use Rattle.std.specs.Prelude.{◌≡◌, ◌⊎◌, ℕ, ◌==◌, Bool, true, false, List, Option, Some}
use Rattle.interleaving.specs.Machine.{Answer}
use Rattle.interleaving.specs.Trace.{Returned, ended}
use Rattle.spv_meaning.specs.Types.{number_in}
use Rattle.spv_machine.specs.Access.{Access}
use Rattle.spv_machine.specs.Setting.{Setting}
use Rattle.spv_machine.specs.State.{Value, Data, value, values, words_of_value}
use Rattle.spv_bodies.specs.Bodies as bodies
use Rattle.spv_bodies.specs.Bodies.{Front, ByBranch, InPlace, Body, Selects}
use Rattle.spv_trees.specs.Meaning.{Entry, meaning}
use Rattle.spv_congruence.specs.Relation.{Way, Leaving, Returning, Part, Future, After, followed, Kept, with_parameters}

-- `Ways`: how the first part was left, and the future of the second program there. Whatever follows the first, and keeps accesses with such a future, keeps
-- them from the beginning of the part with this future.
abbrev pub Sim : (left_out : Access → Bool) → (Same : Access → Access → Type 0) → (Way → Future → Type 0) → Part → Future → Type 0
Sim left_out Same Ways run future =
    (xs : List Answer) (after : After) →
    ((w : Way) (beside : Future) (ys : List Answer) → Ways w beside → Kept left_out Same (after w ys) beside ys) →
    Kept left_out Same (followed (run xs) after) future xs

-- the second is left in a way in `Ways`, before what follows it
abbrev pub BesideWay : (Ways : Way → Way → Type 0) → (after2 : After) → Way → Future → Type 0
BesideWay Ways after2 w future = (w2 : Way) × Ways w w2 × (future ≡ after2 w2)

-- ways out of a construct that ends at a label: `Arrive` where it is left for it, else `Ways`
abbrev pub UnderLabel : (label : ℕ) → (Arrive : List Value → Data → Future → Type 0) → (Ways : Way → Future → Type 0) → Way → Future → Type 0
UnderLabel n Arrive Ways (Leaving l vs d) future = (((l == n) ≡ true) × Arrive vs d future) ⊎ (((l == n) ≡ false) × Ways (Leaving l vs d) future)
UnderLabel n Arrive Ways (Returning v d) future = Ways (Returning v d) future

-- ways out of a function; one that leaves for a label is stuck
abbrev pub ReturnedTo : (Ends : Option Value → Data → Future → Type 0) → Way → Future → Type 0
ReturnedTo Ends (Leaving l vs d) future = Unit {0}
ReturnedTo Ends (Returning v d) future = Ends v d future

-- the values of a block's parameters, and the future there
abbrev pub IntoFront : Front → (Data → Future → Type 0) → List Value → Data → Future → Type 0
IntoFront front R vs d future = R (with_parameters front vs d) future

-- how a loop begins: with values for the parameters of its header, or with the data as they are
abbrev pub Begins : Setting → bodies.Entry → (header : Front) → Data → Data → Type 0
Begins c (ByBranch ids) header d e = (vs : List Value) × (values c d ids ≡ Some vs) × (e ≡ with_parameters header vs d)
Begins c InPlace header d e = e ≡ d

-- the second program returns too
abbrev pub Over : Option Value → Data → Future → Type 0
Over v d future = (ys : List Answer) → future ys ≡ ended Returned

-- ---- selections

-- A selection of the first program, at some data, beside a future: it is left in a way in `Ways`, and at its merge block the data and the future are in
-- `Behind`.
pub record Selection : Type 1 where
  pub left_out : Access → Bool
  pub Same : Access → Access → Type 0
  pub setting : Setting
  pub call : ℕ → Entry
  pub turns : ℕ
  pub control : ℕ
  pub condition : ℕ
  pub yes : Body
  pub no : Body
  pub merge : Front
  pub rest : Body
  pub now : Data
  pub future : Future
  pub Behind : Data → Future → Type 0
  pub Ways : Way → Future → Type 0

-- an arm beside the whole future of the second
abbrev pub ArmBeside : Selection → Body → Type 0
ArmBeside s arm =
    Sim s.left_out s.Same (UnderLabel s.merge.label (IntoFront s.merge s.Behind) s.Ways) (meaning s.setting s.call s.turns arm s.now) s.future

abbrev pub RestBeside : Selection → Type 0
RestBeside s = (d : Data) (future : Future) → s.Behind d future → Sim s.left_out s.Same s.Ways (meaning s.setting s.call s.turns s.rest d) future

abbrev pub WholeBeside : Selection → Type 0
WholeBeside s =
    Sim s.left_out s.Same s.Ways (meaning s.setting s.call s.turns (Selects s.control s.condition s.yes s.no s.merge s.rest) s.now) s.future

-- the condition, where it has words, decides so
abbrev pub Decided : Selection → Bool → Type 0
Decided s b = (ws : List ℕ) → words_of_value (value s.setting s.now s.condition) ≡ Some ws → (number_in ws == 1) ≡ b

-- A selection whose condition is decided: the second program does what the arm that is taken does, and what is behind it.
abbrev pub TakenLaw : Selection → Type 0
TakenLaw s = (Decided s true → ArmBeside s s.yes → RestBeside s → WholeBeside s) × (Decided s false → ArmBeside s s.no → RestBeside s → WholeBeside s)

-- A selection that is gone: either arm leads the first to where the second is already.
abbrev pub GoneLaw : Selection → Type 0
GoneLaw s = ArmBeside s s.yes → ArmBeside s s.no → RestBeside s → WholeBeside s
