-- Parts of two programs: what is kept of what the first does, whatever follows both.
use Rattle.std.specs.Prelude.{◌≡◌, ◌⊎◌, ℕ, ◌==◌, Bool, true, false, List, map, Option, Some, None}
use Rattle.interleaving.specs.Machine.{Answer}
use Rattle.interleaving.specs.Trace.{Asks, Runs, Stuck, Trace, ended}
use Rattle.interleaving.specs.Keeps.{without, Alike, IsOver}
use Rattle.spv_meaning.specs.Types.{number_in}
use Rattle.spv_machine.specs.Access.{Access}
use Rattle.spv_machine.specs.State.{Value, Data, bind_all}
use Rattle.spv_machine.specs.Steps.{paired}
use Rattle.spv_bodies.specs.Bodies.{Front}
use Rattle.spv_trees.specs.Meaning.{Fate, LeavesFor, Returns, Awaits, RunsOut, Sticks, Result, parameter_ids}
use Rattle.spv_trees.specs.Laws.{prepended}

-- ---- what follows a part

-- how a part was left: for a label, with the values of the parameters there, or by a return; and the data then
pub data Way : Type 0 where
  Leaving : (label : ℕ) → List Value → Data → Way
  Returning : Option Value → Data → Way

-- what a part does, and what a program does from some place to its end, where a list answers its accesses
abbrev pub Part : Type 0
Part = List Answer → Result

abbrev pub Future : Type 0
Future = List Answer → Trace Access

-- what follows a part, by how it was left
abbrev pub After : Type 0
After = Way → Future

abbrev pub on_fate : After → Fate → Trace Access
on_fate after (LeavesFor label vs d xs) = after (Leaving label vs d) xs
on_fate after (Returns v d xs) = after (Returning v d) xs
on_fate after Awaits = ended Asks
on_fate after RunsOut = ended Runs
on_fate after Sticks = ended Stuck

-- a part and what follows it
abbrev pub followed : Result → After → Trace Access
followed r after = prepended r.accesses (on_fate after r.fate)

-- ---- what is kept

-- Where the trace under these answers is over, the future makes the accesses that are not left out, up to a relation, and comes to the same end; it gets the
-- answers of these alone.
abbrev pub Kept : (left_out : Access → Bool) → (Same : Access → Access → Type 0) → Trace Access → Future → List Answer → Type 0
Kept left_out Same t future xs =
    let marks = map left_out t.accesses in
    IsOver t.end marks → Alike Same (without marks t.accesses) (future (without marks xs)).accesses × ((future (without marks xs)).end ≡ t.end)

-- THE RELATION. Whatever follows two parts, and keeps accesses where both were left in related ways, keeps them from the beginning of both.
abbrev pub Rel : (left_out : Access → Bool) → (Same : Access → Access → Type 0) → (Way → Way → Type 0) → Part → Part → Type 0
Rel left_out Same Ways run run2 =
    (xs : List Answer) (after after2 : After) →
    ((w w2 : Way) (ys : List Answer) → Ways w w2 → Kept left_out Same (after w ys) (after2 w2) ys) →
    Kept left_out Same (followed (run xs) after) (λ ys. followed (run2 ys) after2) xs

-- ---- ways

-- Ways out of a construct that ends at a label: `Arrive` where both are left for it, else `Ways`.
abbrev pub Under : (label label2 : ℕ) → (Arrive : List Value → Data → List Value → Data → Type 0) → (Ways : Way → Way → Type 0) → Way → Way → Type 0
Under n n2 Arrive Ways (Leaving l vs d) (Leaving l2 vs2 d2) =
    (((l == n) ≡ true) × ((l2 == n2) ≡ true) × Arrive vs d vs2 d2) ⊎ (((l == n) ≡ false) × ((l2 == n2) ≡ false) × Ways (Leaving l vs d) (Leaving l2 vs2 d2))
Under n n2 Arrive Ways (Leaving l vs d) (Returning v2 d2) = ⊥
Under n n2 Arrive Ways (Returning v d) (Leaving l2 vs2 d2) = ⊥
Under n n2 Arrive Ways (Returning v d) (Returning v2 d2) = Ways (Returning v d) (Returning v2 d2)

-- ways out of a function; one that leaves for a label is stuck
abbrev pub Returned : (Ends : Option Value → Data → Option Value → Data → Type 0) → Way → Way → Type 0
Returned Ends (Leaving l vs d) w2 = Unit {0}
Returned Ends (Returning v d) (Leaving l2 vs2 d2) = ⊥
Returned Ends (Returning v d) (Returning v2 d2) = Ends v d v2 d2

-- ---- values

-- the data in a block, whose parameters have these values
abbrev pub with_parameters : Front → List Value → Data → Data
with_parameters front vs d = bind_all (paired (parameter_ids front) vs) d

-- data that are related in blocks which are entered with these values
abbrev pub Into : (front front2 : Front) → (Data → Data → Type 0) → List Value → Data → List Value → Data → Type 0
Into front front2 R vs d vs2 d2 = R (with_parameters front vs d) (with_parameters front2 vs2 d2)

-- where the first has something, so has the second, and they are related
abbrev pub Both : {X Y : Type 0} → (X → Y → Type 0) → Option X → Option Y → Type 0
Both R None other = Unit {0}
Both R (Some x) None = ⊥
Both R (Some x) (Some y) = R x y

-- words of two conditions that choose alike
abbrev pub SameTruth : List ℕ → List ℕ → Type 0
SameTruth ws ws2 = (number_in ws == 1) ≡ (number_in ws2 == 1)
