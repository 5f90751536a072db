-- What an operation does is told by what it sees: the values of its operands, what is held at their places, types, and how deep the call is.
use Rattle.std.specs.Prelude.{◌≡◌, ℕ, ◌%◌, ◌^◌, Bool, true, false, cond, ◌||◌, List, [], ◌∷◌, ◌++◌, map, Option, Some, None}
use Rattle.spv_opcodes.specs.declared.op.TheConstants as op
use Rattle.interleaving.specs.Machine.{Answer}
use Rattle.spv_meaning.specs.Statements as says
use Rattle.spv_meaning.specs.Statements.{Statement}
use Rattle.spv_meaning.specs.Types.{DataType, cells, booleans, fitted}
use Rattle.spv_meaning.specs.Computations.{Computation, Typed, computed}
use Rattle.spv_meaning.specs.Constants.{type_at, pointer_at, zeros, initial}
use Rattle.spv_machine.specs.Places.{Place, Local, is_shared, object_at, locate, array_length, passes_volatile}
use Rattle.spv_machine.specs.Access.{Fences, Barriers, Access}
use Rattle.spv_machine.specs.Setting.{Setting}
use Rattle.spv_machine.specs.State.{Pointer, Value, Words, Points, Data, on_top, bind, depth_of, with_variable, is_volatile_id, value, all_some, words_of_value}
use Rattle.spv_machine.specs.State.{typed_of_value, pointer_of_value, read_held, write_held}
use Rattle.spv_machine.specs.Operations.{Outcome, Does, Wants, Fails, outcome, load_access, store_access, atomic_access, order_access, size_at}
use Rattle.spv_machine.specs.Operations.{first_or_zero, joined}
use Rattle.spv_trees.specs.Standing.{OneOf}
use Rattle.spv_congruence.specs.Statements.{Comparison}

-- ---- what is seen

pub record Sight : Type 0 where
  pub value_of : ℕ → Option Value
  pub held_at : (count : ℕ) → Option Place → List ℕ
  pub depth : ℕ
  pub type_of : ℕ → DataType
  pub pointer_of : ℕ → ℕ × DataType
  pub initial_of : DataType → List ℕ → List ℕ
  pub size_of : Option Place → Option ℕ
  pub is_volatile : ℕ → Bool

abbrev pub sight : Setting → Data → Sight
sight c d = record {
  value_of = value c d;
  held_at = read_held c d;
  depth = depth_of d;
  type_of = type_at c.table;
  pointer_of = pointer_at c.table;
  initial_of = initial c.table;
  size_of = size_at c;
  is_volatile = is_volatile_id c;
}

-- ---- what is done

-- a result; words written to a memory of the invocation's own; a variable of the function, where its id points and its words; or nothing
pub data Change : Type 0 where
  Binds : (r : ℕ) → Value → Change
  Writes : Option Place → List ℕ → Change
  Declares : (r : ℕ) → Value → List ℕ → Change
  Stays : Change

abbrev pub changed : Change → Data → Data
changed (Binds r v) d = bind r v d
changed (Writes place words) d = write_held d place words
changed (Declares r v words) d = bind r v (on_top (with_variable r words) d)
changed Stays d = d

pub data Effect : Type 0 where
  Changes : Change → Effect
  Accesses : Access → (Answer → Change) → Effect
  Faults : Effect

-- at some data
abbrev pub performed : Data → Effect → Outcome
performed d (Changes change) = Does (changed change d)
performed d (Accesses a by_answer) = Wants a (λ answer. changed (by_answer answer) d)
performed d Faults = Fails

abbrev pub seen : {X : Type 0} → Option X → (X → Effect) → Effect
seen None go = Faults
seen (Some x) go = go x

-- What both do at once: the data are related behind it, and the access is kept.
abbrev pub EffectKept : (p : Comparison) → (Behind : Data → Data → Type 0) → Data → Data → Effect → Type 0
EffectKept p Behind d d2 (Changes change) = Behind (changed change d) (changed change d2)
EffectKept p Behind d d2 (Accesses a by_answer) =
    (p.left_out a ≡ false) × p.Same a a × ((x : Answer) → Behind (changed (by_answer x) d) (changed (by_answer x) d2))
EffectKept p Behind d d2 Faults = Unit {0}

-- what only the first does: the access is left out
abbrev pub EffectDropped : (p : Comparison) → (Behind : Data → Data → Type 0) → Data → Data → Effect → Type 0
EffectDropped p Behind d d2 (Changes change) = Behind (changed change d) d2
EffectDropped p Behind d d2 (Accesses a by_answer) = (p.left_out a ≡ true) × ((x : Answer) → Behind (changed (by_answer x) d) d2)
EffectDropped p Behind d d2 Faults = Unit {0}

-- ---- single operations

abbrev pub declared : (r : ℕ) → (type : ℕ × DataType) → (depth : ℕ) → Bool → (words : List ℕ) → Effect
declared r type depth volatile words =
    Changes (Declares r (Points (record {
      class = type.0;
      target = type.1;
      place = Some (object_at type.0 (Local depth r) 0 type.1);
      volatile = volatile;
    })) words)

abbrev pub chain : (r : ℕ) → (type : ℕ × DataType) → (size_of : Option Place → Option ℕ) → Option Pointer → Option (List (List ℕ)) → Effect
chain r type size base indexes =
    seen base (λ p. seen indexes (λ wss. Changes (Binds r (Points (record {
      class = type.0;
      target = type.1;
      place = locate p.class (size p.place) p.target p.place wss;
      volatile = p.volatile || passes_volatile p.target wss;
    })))))

abbrev pub load : (r : ℕ) → DataType → (held_at : (count : ℕ) → Option Place → List ℕ) → (memory : List ℕ) → Option Pointer → Effect
load r t held_at memory pointer =
    seen pointer (λ p.
    cond (is_shared p.class)
    (Accesses (load_access r (cells t) p memory) (λ answer. Binds r (Words t (fitted (booleans t) answer))))
    (Changes (Binds r (Words t (held_at (cells t) p.place)))))

abbrev pub store : (memory : List ℕ) → Option Pointer → Option (List ℕ) → Effect
store memory pointer object =
    seen pointer (λ p. seen object (λ words.
    cond (is_shared p.class) (Accesses (store_access p words memory) (λ answer. Stays)) (Changes (Writes p.place words))))

abbrev pub length_of : (r : ℕ) → DataType → (size_of : Option Place → Option ℕ) → (member : ℕ) → Option Pointer → Effect
length_of r t size member pointer =
    seen pointer (λ p. Changes (Binds r (Words t (array_length p.class (size p.place) p.target p.place member % 2 ^ 32 ∷ []))))

abbrev pub operation : Computation → (r : ℕ) → DataType → Option (List Typed) → Effect
operation computation r t operands = seen operands (λ vs. Changes (Binds r (Words t (computed computation t vs))))

abbrev pub copy : (r : ℕ) → Option Value → Effect
copy r object = seen object (λ v. Changes (Binds r v))

abbrev pub control_barrier : (scopes semantics : Option (List (List ℕ))) → Effect
control_barrier scopes semantics =
    seen scopes (λ wss. seen semantics (λ orders. Accesses (order_access Barriers op.CONTROL_BARRIER wss orders) (λ answer. Stays)))

abbrev pub memory_barrier : (scopes semantics : Option (List (List ℕ))) → Effect
memory_barrier scopes semantics =
    seen scopes (λ wss. seen semantics (λ orders. Accesses (order_access Fences op.MEMORY_BARRIER wss orders) (λ answer. Stays)))

-- the result of an atomic, where it has one
abbrev pub atomic_change : (types : List DataType) (results : List ℕ) → Answer → Change
atomic_change (t ∷ ts) (r ∷ rs) answer = Binds r (Words t (fitted (booleans t) answer))
atomic_change ts rs answer = Stays

abbrev pub atomic : (opcode : ℕ) → (types : List DataType) (results : List ℕ) → Option Pointer → (scopes semantics operands : Option (List (List ℕ))) → Effect
atomic opcode types results pointer scopes semantics operands =
    seen pointer (λ p. seen scopes (λ wss. seen semantics (λ orders. seen operands (λ values.
    Accesses (atomic_access opcode (first_or_zero results) p (joined values) wss orders) (atomic_change types results)))))

-- ---- each statement

abbrev pub words_seen : Sight → List ℕ → Option (List (List ℕ))
words_seen v ids = all_some (map (λ id. words_of_value (v.value_of id)) ids)

abbrev pub typed_seen : Sight → List ℕ → Option (List Typed)
typed_seen v ids = all_some (map (λ id. typed_of_value (v.value_of id)) ids)

abbrev pub pointer_seen : Sight → ℕ → Option Pointer
pointer_seen v id = pointer_of_value (v.value_of id)

abbrev pub effect : Sight → Statement → Effect
effect v (says.Variable t r class initialiser) = declared r (v.pointer_of t) v.depth (v.is_volatile r) (v.initial_of (v.pointer_of t).1 initialiser)
effect v (says.AccessChain t r base indexes) = chain r (v.pointer_of t) v.size_of (pointer_seen v base) (words_seen v indexes)
effect v (says.Load t r pointer memory) = load r (v.type_of t) v.held_at memory (pointer_seen v pointer)
effect v (says.Store pointer object memory) = store memory (pointer_seen v pointer) (words_of_value (v.value_of object))
effect v (says.ArrayLength t r pointer member) = length_of r (v.type_of t) v.size_of member (pointer_seen v pointer)
effect v (says.Operation computation t r operands) = operation computation r (v.type_of t) (typed_seen v operands)
effect v (says.Undef t r) = Changes (Binds r (Words (v.type_of t) (zeros (v.type_of t))))
effect v (says.CopyObject t r object) = copy r (v.value_of object)
effect v (says.ControlBarrier execution scope semantics) = control_barrier (words_seen v (execution ∷ scope ∷ [])) (words_seen v (semantics ∷ []))
effect v (says.MemoryBarrier scope semantics) = memory_barrier (words_seen v (scope ∷ [])) (words_seen v (semantics ∷ []))
effect v (says.Atomic opcode t r pointer scope semantics operands) =
    atomic opcode (map v.type_of t) r (pointer_seen v pointer) (words_seen v (scope ∷ [])) (words_seen v semantics) (words_seen v operands)
effect v other = Faults

-- an operation does its effect, by what it sees
abbrev pub EffectLaw : Type 0
EffectLaw = (c : Setting) (d : Data) (s : Statement) → outcome c d s ≡ performed d (effect (sight c d) s)

-- ---- other operands

-- a statement with other ids in place of those that it names, but for its result
abbrev pub renamed : (ℕ → ℕ) → Statement → Statement
renamed u (says.Variable t r class initialiser) = says.Variable (u t) r class (map u initialiser)
renamed u (says.AccessChain t r base indexes) = says.AccessChain (u t) r (u base) (map u indexes)
renamed u (says.Load t r pointer memory) = says.Load (u t) r (u pointer) memory
renamed u (says.Store pointer object memory) = says.Store (u pointer) (u object) memory
renamed u (says.ArrayLength t r pointer member) = says.ArrayLength (u t) r (u pointer) member
renamed u (says.Operation computation t r operands) = says.Operation computation (u t) r (map u operands)
renamed u (says.Undef t r) = says.Undef (u t) r
renamed u (says.CopyObject t r object) = says.CopyObject (u t) r (u object)
renamed u (says.ControlBarrier execution scope semantics) = says.ControlBarrier (u execution) (u scope) (u semantics)
renamed u (says.MemoryBarrier scope semantics) = says.MemoryBarrier (u scope) (u semantics)
renamed u (says.Atomic opcode t r pointer scope semantics operands) = says.Atomic opcode (map u t) r (u pointer) (u scope) (map u semantics) (map u operands)
renamed u (says.FunctionCall t r f arguments) = says.FunctionCall (u t) r (u f) (map u arguments)
renamed u other = other

-- the ids whose values it uses, those of types that it names, and the initialisers of a variable
abbrev pub operands_of : Statement → List ℕ
operands_of (says.AccessChain t r base indexes) = base ∷ indexes
operands_of (says.Load t r pointer memory) = pointer ∷ []
operands_of (says.Store pointer object memory) = pointer ∷ object ∷ []
operands_of (says.ArrayLength t r pointer member) = pointer ∷ []
operands_of (says.Operation computation t r operands) = operands
operands_of (says.CopyObject t r object) = object ∷ []
operands_of (says.ControlBarrier execution scope semantics) = execution ∷ scope ∷ semantics ∷ []
operands_of (says.MemoryBarrier scope semantics) = scope ∷ semantics ∷ []
operands_of (says.Atomic opcode t r pointer scope semantics operands) = pointer ∷ scope ∷ semantics ++ operands
operands_of other = []

abbrev pub types_of : Statement → List ℕ
types_of (says.Variable t r class initialiser) = t ∷ []
types_of (says.AccessChain t r base indexes) = t ∷ []
types_of (says.Load t r pointer memory) = t ∷ []
types_of (says.ArrayLength t r pointer member) = t ∷ []
types_of (says.Operation computation t r operands) = t ∷ []
types_of (says.Undef t r) = t ∷ []
types_of (says.Atomic opcode t r pointer scope semantics operands) = t
types_of other = []

abbrev pub initialisers_of : Statement → List ℕ
initialisers_of (says.Variable t r class initialiser) = initialiser
initialisers_of other = []

-- a load through this pointer, which is to a memory of the invocation's own
abbrev pub Reads : Sight → Statement → Pointer → Type 0
Reads v (says.Load t r pointer memory) p = (pointer_seen v pointer ≡ Some p) × (is_shared p.class ≡ false)
Reads v other p = ⊥

-- two sights are the same for a statement, where the second sees the other ids
pub record SameSight (u : ℕ → ℕ) (s : Statement) (v v2 : Sight) : Type 0 where
  pub values : (x : ℕ) → OneOf x (operands_of s) → v.value_of x ≡ v2.value_of (u x)
  pub types : (t : ℕ) → OneOf t (types_of s) → v.type_of t ≡ v2.type_of (u t)
  pub pointers : (t : ℕ) → OneOf t (types_of s) → v.pointer_of t ≡ v2.pointer_of (u t)
  pub initials : (t : DataType) → v.initial_of t (initialisers_of s) ≡ v2.initial_of t (map u (initialisers_of s))
  pub held : (p : Pointer) (count : ℕ) → Reads v s p → v.held_at count p.place ≡ v2.held_at count p.place
  pub sizes : (place : Option Place) → v.size_of place ≡ v2.size_of place
  pub volatiles : (id : ℕ) → v.is_volatile id ≡ v2.is_volatile id
  pub depth : v.depth ≡ v2.depth

-- then its effect is the same
abbrev pub RenamedLaw : Type 0
RenamedLaw = (u : ℕ → ℕ) (s : Statement) (v v2 : Sight) → SameSight u s v v2 → effect v s ≡ effect v2 (renamed u s)
