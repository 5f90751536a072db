-- The laws, as statements.
use Rattle.std.specs.Prelude.{◌≡◌, ℕ, ◌<◌, Bool, true, false, List}
use Rattle.interleaving.specs.Machine.{Answer, Move, Program, Effects, Ends, Finals}
use Rattle.interleaving.specs.Trace.{Runs, Traces, trace_of}
use Rattle.interleaving.specs.Keeps.{Keeps}
use Rattle.interleaving.specs.Loses.{marks_of, AllMarked, Loses, AreTraces}
use Rattle.interleaving.specs.Simulation.{Simulation, Shows}

-- as many invocations in the same workgroups; alike accesses do alike to alike memories; left-out accesses change nothing and are no barriers
pub record Suits {A M : Type 0} (e f : Effects A M) (left : A → Bool) (Same : A → A → Type 0) (Near : M → M → Type 0) : Type 0 where
  pub count : f.count ≡ e.count
  pub group : (i : ℕ) → f.group i ≡ e.group i
  pub memory : Near e.memory f.memory
  pub after : (a b : A) (m n : M) → Same a b → Near m n → Near (e.after a m) (f.after b n)
  pub answer : (a b : A) (m n : M) → Same a b → Near m n → f.answer b n ≡ e.answer a m
  pub barrier : (a b : A) → Same a b → f.is_barrier b ≡ e.is_barrier a
  pub left_out : (a : A) (m : M) → left a ≡ true → e.after a m ≡ m
  pub no_barrier : (a : A) → left a ≡ true → e.is_barrier a ≡ false

-- every schedule of the second returns; each final memory of one has one of the other beside it
pub record SameFinals {S U A M : Type 0} (e : Effects A M) (p : Program S A) (f : Effects A M) (q : Program U A) (Near : M → M → Type 0) : Type 0 where
  pub ends : Ends f q
  pub there : (m : M) → Finals e p m → (n : M) × Finals f q n × Near m n
  pub back : (n : M) → Finals f q n → (m : M) × Finals e p m × Near m n

-- two programs, what each access does, and what is to be kept
pub record TwoPrograms : Type 1 where
  pub S : Type 0
  pub U : Type 0
  pub A : Type 0
  pub M : Type 0
  pub before : Effects A M
  pub old : Program S A
  pub after : Effects A M
  pub new : Program U A
  pub left : A → Bool
  pub Same : A → A → Type 0
  pub Near : M → M → Type 0

-- the law over schedules
abbrev pub ScheduleLaw : TwoPrograms → Type 0
ScheduleLaw c =
    Suits c.before c.after c.left c.Same c.Near →
    ((i : ℕ) → i < c.before.count → Keeps c.left c.Same (trace_of c.old.look (c.old.first i)) (trace_of c.new.look (c.new.first i))) →
    Ends c.before c.old →
    SameFinals c.before c.old c.after c.new c.Near

-- three programs, and what is to be kept from each to the next
pub record ThreePrograms : Type 1 where
  pub S : Type 0
  pub U : Type 0
  pub V : Type 0
  pub A : Type 0
  pub M : Type 0
  pub effects1 : Effects A M
  pub effects2 : Effects A M
  pub effects3 : Effects A M
  pub program1 : Program S A
  pub program2 : Program U A
  pub program3 : Program V A
  pub Near12 : M → M → Type 0
  pub Near23 : M → M → Type 0
  pub Near13 : M → M → Type 0

-- final memories compose, step by step
abbrev pub FinalsChain : ThreePrograms → Type 0
FinalsChain c =
    ((l m n : c.M) → c.Near12 l m → c.Near23 m n → c.Near13 l n) →
    SameFinals c.effects1 c.program1 c.effects2 c.program2 c.Near12 →
    SameFinals c.effects2 c.program2 c.effects3 c.program3 c.Near23 →
    SameFinals c.effects1 c.program1 c.effects3 c.program3 c.Near13

-- and where nothing is changed
abbrev pub FinalsOfNone : ThreePrograms → Type 0
FinalsOfNone c =
    ((m : c.M) → c.Near12 m m) →
    Ends c.effects1 c.program1 →
    SameFinals c.effects1 c.program1 c.effects1 c.program1 c.Near12

-- three invocations, what is left out of the first and of the second, and what is to be kept from each to the next
pub record ThreeTraces : Type 1 where
  pub A : Type 0
  pub traces1 : Traces A
  pub traces2 : Traces A
  pub traces3 : Traces A
  pub Kind1 : A → Type 0
  pub Kind2 : A → Type 0
  pub Same12 : A → A → Type 0
  pub Same23 : A → A → Type 0
  pub Same13 : A → A → Type 0

-- accesses kept from each to the next are kept through both
abbrev pub AccessChain : ThreeTraces → Type 0
AccessChain c =
    AreTraces c.traces1 →
    AreTraces c.traces2 →
    ((x y z : c.A) → c.Same12 x y → c.Same23 y z → c.Same13 x z) →
    ((x y : c.A) → c.Same12 x y → c.Kind2 y → c.Kind1 x) →
    Loses c.Kind1 c.Same12 c.traces1 c.traces2 →
    Loses c.Kind2 c.Same23 c.traces2 c.traces3 →
    Loses c.Kind1 c.Same13 c.traces1 c.traces3

-- and where nothing is changed
abbrev pub AccessesOfNone : ThreeTraces → Type 0
AccessesOfNone c = ((x : c.A) → c.Same12 x x) → Loses c.Kind1 c.Same12 c.traces1 c.traces1

-- where nothing is of the kind, all accesses are kept
abbrev pub NothingLost : ThreeTraces → Type 0
NothingLost c =
    ((x : c.A) → c.Kind1 x → ⊥) →
    Loses c.Kind1 c.Same12 c.traces1 c.traces2 →
    Keeps (λ x. false) c.Same12 c.traces1 c.traces2

-- one state, the traces beside it, and what is left out and to be kept
pub record OneChange : Type 1 where
  pub S : Type 0
  pub A : Type 0
  pub look : S → Move S A
  pub state : S
  pub other : Traces A
  pub left : A → Bool
  pub Same : A → A → Type 0
  pub Kind : A → Type 0

-- one change of which accesses are kept begins a chain
abbrev pub ChainBegins : OneChange → Type 0
ChainBegins c =
    ((a : c.A) → c.left a ≡ true → c.Kind a) →
    Keeps c.left c.Same (trace_of c.look c.state) c.other →
    Loses c.Kind c.Same (trace_of c.look c.state) c.other

-- a chain leaves out accesses of its kind alone
abbrev pub LeftOutAreOfKind : OneChange → Type 0
LeftOutAreOfKind c =
    (loses : Loses c.Kind c.Same (trace_of c.look c.state) c.other) (n : ℕ) (answers : List Answer) →
    ((trace_of c.look c.state n answers).end ≡ Runs → ⊥) →
    AllMarked c.Kind (marks_of (loses.lost n) answers) (trace_of c.look c.state n answers).accesses

-- two machines, and a relation between their states
pub record TwoMachines : Type 1 where
  pub S : Type 0
  pub U : Type 0
  pub A : Type 0
  pub look : S → Move S A
  pub look2 : U → Move U A
  pub left : A → Bool
  pub Same : A → A → Type 0
  pub R : S → U → Type 0

-- states in a simulation keep accesses
abbrev pub SimulationLaw : TwoMachines → Type 0
SimulationLaw c =
    Simulation c.look c.look2 c.left c.Same c.R →
    (s : c.S) (u : c.U) → c.R s u → Keeps c.left c.Same (trace_of c.look s) (trace_of c.look2 u)

-- a machine
pub record OneMachine : Type 1 where
  pub S : Type 0
  pub A : Type 0
  pub look : S → Move S A

-- a trace that is over does not change
abbrev pub TraceLaw : OneMachine → Type 0
TraceLaw c = (s : c.S) → AreTraces (trace_of c.look s)

-- two invocations, each by its machine and by another account of what it does
pub record TwoSides : Type 1 where
  pub A : Type 0
  pub machine1 : Traces A
  pub meaning1 : Traces A
  pub machine2 : Traces A
  pub meaning2 : Traces A
  pub left : A → Bool
  pub Same : A → A → Type 0

-- what is kept between the accounts is kept between the machines
abbrev pub KeepsBetween : TwoSides → Type 0
KeepsBetween c =
    Shows c.meaning1 c.machine1 →
    Keeps c.left c.Same c.meaning1 c.meaning2 →
    Shows c.machine2 c.meaning2 →
    Keeps c.left c.Same c.machine1 c.machine2
