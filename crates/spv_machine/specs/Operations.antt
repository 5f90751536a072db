-- What an instruction does that leads to the one behind it.
use Rattle.std.specs.Prelude.{ℕ, ◌%◌, ◌^◌, Bool, false, cond, ◌==◌, ◌||◌, List, [], ◌∷◌, ◌++◌, length, slice_index, Option, Some, None}
use Rattle.spv_opcodes.specs.declared.op.TheConstants as op
use Rattle.interleaving.specs.Machine.{Answer}
use Rattle.spv_meaning.specs.Statements as says
use Rattle.spv_meaning.specs.Statements.{Statement}
use Rattle.spv_meaning.specs.Types.{DataType, cells, booleans, fitted}
use Rattle.spv_meaning.specs.Computations.{computed}
use Rattle.spv_machine.specs.Places.{Place, Local, is_shared, locate, array_length, passes_volatile}
use Rattle.spv_machine.specs.Access.{Action, Loads, Stores, Atomics, Fences, Barriers, Access}
use Rattle.spv_machine.specs.Dispatch.{size_of}
use Rattle.spv_meaning.specs.Constants.{type_at, pointer_at, zeros, initial}
use Rattle.spv_machine.specs.Setting.{Setting}
use Rattle.spv_machine.specs.State.{Pointer, Value, Words, Points, Data, on_top, bind, depth_of, with_variable, whole, value, word_lists, typed_lists, words_of_value, pointer_of_value, read_held, write_held}

-- the data behind it; an access, and the data by its answer; or nothing
pub data Outcome : Type 0 where
  Does : Data → Outcome
  Wants : Access → (Answer → Data) → Outcome
  Fails : Outcome

-- goes on with what is there
abbrev pub with_some : {X : Type 0} → Option X → (X → Outcome) → Outcome
with_some None go = Fails
with_some (Some x) go = go x

-- the mask of memory operands has the bit Volatile, which is 1
abbrev pub has_volatile : (memory : List ℕ) → Bool
has_volatile [] = false
has_volatile (mask ∷ rest) = mask % 2 == 1

abbrev pub load_access : (r count : ℕ) → Pointer → (memory : List ℕ) → Access
load_access r count p memory = record {
  action = Loads;
  opcode = op.LOAD;
  place = p.place;
  count = count;
  operands = [];
  scopes = [];
  semantics = [];
  memory = memory;
  volatile = p.volatile || has_volatile memory;
  id = r;
}

abbrev pub store_access : Pointer → (words memory : List ℕ) → Access
store_access p words memory = record {
  action = Stores;
  opcode = op.STORE;
  place = p.place;
  count = length words;
  operands = words;
  scopes = [];
  semantics = [];
  memory = memory;
  volatile = p.volatile || has_volatile memory;
  id = 0;
}

abbrev pub atomic_access : (opcode r : ℕ) → Pointer → (values : List ℕ) → (scopes semantics : List (List ℕ)) → Access
atomic_access opcode r p values scopes semantics = record {
  action = Atomics;
  opcode = opcode;
  place = p.place;
  count = cells p.target;
  operands = values;
  scopes = scopes;
  semantics = semantics;
  memory = [];
  volatile = p.volatile;
  id = r;
}

-- a fence or a barrier
abbrev pub order_access : Action → (opcode : ℕ) → (scopes semantics : List (List ℕ)) → Access
order_access action opcode scopes semantics = record {
  action = action;
  opcode = opcode;
  place = None;
  count = 0;
  operands = [];
  scopes = scopes;
  semantics = semantics;
  memory = [];
  volatile = false;
  id = 0;
}

-- a result of words of a type
abbrev pub results : Data → (r : ℕ) → DataType → (words : List ℕ) → Outcome
results d r t words = Does (bind r (Words t words) d)

abbrev pub loads : Setting → Data → DataType → (r : ℕ) → (memory : List ℕ) → Pointer → Outcome
loads c d t r memory p =
    cond (is_shared p.class)
    (Wants (load_access r (cells t) p memory) (λ answer. bind r (Words t (fitted (booleans t) answer)) d))
    (results d r t (read_held c d (cells t) p.place))

abbrev pub stores : Data → (memory words : List ℕ) → Pointer → Outcome
stores d memory words p = cond (is_shared p.class) (Wants (store_access p words memory) (λ answer. d)) (Does (write_held d p.place words))

abbrev pub size_at : Setting → Option Place → Option ℕ
size_at c None = None
size_at c (Some p) = size_of c.dispatch p.memory

-- the pointer that a chain makes of its base: its type is that of the result
abbrev pub chained : Setting → (t : ℕ) → Pointer → (indexes : List (List ℕ)) → Value
chained c t base indexes =
    let type = pointer_at c.table t in
    Points (record {
      class = type.0;
      target = type.1;
      place = locate base.class (size_at c base.place) base.target base.place indexes;
      volatile = base.volatile || passes_volatile base.target indexes;
    })

-- a variable of a function comes to be
abbrev pub declares : Setting → Data → (r : ℕ) → (type : ℕ × DataType) → (initialiser : List ℕ) → Data
declares c d r type initialiser =
    bind r (whole c (Local (depth_of d) r) type.0 type.1 r) (on_top (with_variable r (initial c.table type.1 initialiser)) d)

-- the result of an atomic, where it has one
abbrev pub atomic_result : Setting → Data → (t r : List ℕ) → Answer → Data
atomic_result c d (t ∷ ts) (r ∷ rs) answer = bind r (Words (type_at c.table t) (fitted (booleans (type_at c.table t)) answer)) d
atomic_result c d t r answer = d

abbrev pub first_or_zero : List ℕ → ℕ
first_or_zero ids = slice_index ids 0

abbrev pub joined : List (List ℕ) → List ℕ
joined [] = []
joined (ws ∷ wss) = ws ++ joined wss

unfoldable pub outcome : Setting → Data → Statement → Outcome
outcome c d (says.Variable t r class initialiser) = Does (declares c d r (pointer_at c.table t) initialiser)
outcome c d (says.AccessChain t r base indexes) =
    with_some (pointer_of_value (value c d base)) (λ p.
    with_some (word_lists c d indexes) (λ wss.
    Does (bind r (chained c t p wss) d)))
outcome c d (says.Load t r pointer memory) = with_some (pointer_of_value (value c d pointer)) (loads c d (type_at c.table t) r memory)
outcome c d (says.Store pointer object memory) =
    with_some (pointer_of_value (value c d pointer)) (λ p.
    with_some (words_of_value (value c d object)) (λ words. stores d memory words p))
outcome c d (says.ArrayLength t r pointer member) =
    with_some (pointer_of_value (value c d pointer)) (λ p.
    results d r (type_at c.table t) (array_length p.class (size_at c p.place) p.target p.place member % 2 ^ 32 ∷ []))
outcome c d (says.Operation computation t r operands) =
    with_some (typed_lists c d operands) (λ vs. results d r (type_at c.table t) (computed computation (type_at c.table t) vs))
outcome c d (says.Undef t r) = results d r (type_at c.table t) (zeros (type_at c.table t))
outcome c d (says.CopyObject t r object) = with_some (value c d object) (λ v. Does (bind r v d))
outcome c d (says.ControlBarrier execution scope semantics) =
    with_some (word_lists c d (execution ∷ scope ∷ [])) (λ scopes.
    with_some (word_lists c d (semantics ∷ [])) (λ wss.
    Wants (order_access Barriers op.CONTROL_BARRIER scopes wss) (λ answer. d)))
outcome c d (says.MemoryBarrier scope semantics) =
    with_some (word_lists c d (scope ∷ [])) (λ scopes.
    with_some (word_lists c d (semantics ∷ [])) (λ wss.
    Wants (order_access Fences op.MEMORY_BARRIER scopes wss) (λ answer. d)))
outcome c d (says.Atomic opcode t r pointer scope semantics operands) =
    with_some (pointer_of_value (value c d pointer)) (λ p.
    with_some (word_lists c d (scope ∷ [])) (λ scopes.
    with_some (word_lists c d semantics) (λ orders.
    with_some (word_lists c d operands) (λ wss.
    Wants (atomic_access opcode (first_or_zero r) p (joined wss) scopes orders) (λ answer. atomic_result c d t r answer)))))
outcome c d other = Fails
