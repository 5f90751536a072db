-- One invocation keeps the accesses of another, up to a relation and but for accesses that are left out.
use Rattle.std.specs.Prelude.{◌≡◌, ℕ, Bool, false, cond, List, [], ◌∷◌, map}
use Rattle.interleaving.specs.Machine.{Answer}
use Rattle.interleaving.specs.Trace.{TraceEnd, Returned, Asks, Runs, Stuck, Trace, Traces}

-- the list without the elements that are marked
abbrev pub without : {X : Type 0} → List Bool → List X → List X
without [] xs = xs
without (b ∷ bs) [] = []
without (b ∷ bs) (x ∷ xs) = cond b (without bs xs) (x ∷ without bs xs)

-- two lists that are as long and related at each place
abbrev pub Alike : {A B : Type 0} → (A → B → Type 0) → List A → List B → Type 0
Alike R [] [] = Unit {0}
Alike R [] (y ∷ ys) = ⊥
Alike R (x ∷ xs) [] = ⊥
Alike R (x ∷ xs) (y ∷ ys) = R x y × Alike R xs ys

-- the last mark is not set
abbrev pub LastKept : List Bool → Type 0
LastKept [] = Unit {0}
LastKept (b ∷ []) = b ≡ false
LastKept (b ∷ c ∷ bs) = LastKept (c ∷ bs)

-- it is known what comes next: the end, or a last access that is kept
abbrev pub IsOver : TraceEnd → List Bool → Type 0
IsOver Returned marks = Unit {0}
IsOver Asks marks = LastKept marks
IsOver Runs marks = ⊥
IsOver Stuck marks = ⊥

-- where the trace t under these answers is over, the other invocation, given the answers of unmarked accesses, makes the unmarked accesses and ends alike
abbrev pub KeptBut : {A : Type 0} → (A → A → Type 0) → List Bool → Trace A → List Answer → Traces A → Type 0
KeptBut Same marks t answers other =
    IsOver t.end marks →
    (n : ℕ)
    × Alike Same (without marks t.accesses) (other n (without marks answers)).accesses
    × ((other n (without marks answers)).end ≡ t.end)

-- the other invocation makes the accesses of this one, but for those left out
abbrev pub Keeps : {A : Type 0} → (A → Bool) → (A → A → Type 0) → Traces A → Traces A → Type 0
Keeps left Same this other =
    (n : ℕ) (answers : List Answer) → KeptBut Same (map left (this n answers).accesses) (this n answers) answers other
