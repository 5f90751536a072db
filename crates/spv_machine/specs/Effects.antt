-- The shared memory, and what an access does to it and answers: one whole access at a time.
use Rattle.std.specs.Prelude.{ℕ, Bool, true, false, cond, ◌==◌, ◌&&◌, nat_eq, List, [], ◌∷◌, map, replicate, length, slice_index, slice_set, Option, Some, None}
use Rattle.std.specs.Map.{lookup}
use Rattle.spv_opcodes.specs.declared.op.TheConstants as op
use Rattle.spv_value.specs.Arith.{i_add, i_sub}
use Rattle.spv_value.specs.Bits.{bitwise_and, bitwise_or, bitwise_xor}
use Rattle.spv_value.specs.Ext.{u_min, u_max, s_min, s_max}
use Rattle.interleaving.specs.Machine.{Answer, Effects}
use Rattle.spv_machine.specs.Places.{Triple, same_triple, Memory, Buffer, Workgroup, Place, is_within}
use Rattle.spv_machine.specs.Access.{Action, Loads, Stores, Atomics, Fences, Barriers, Access}
use Rattle.spv_machine.specs.Dispatch.{Bound, words_bound}
use Rattle.spv_machine.specs.Setting.{Setting, group_number, invocations}

-- a word of a Workgroup variable
pub record Cell : Type 0 where
  pub group : Triple
  pub variable : ℕ
  pub position : ℕ
  pub word : ℕ

-- the words of the buffers, and those of Workgroup variables that were written, the newest first
pub record Shared : Type 0 where
  pub buffers : List Bound
  pub cells : List Cell

abbrev pub is_cell : Cell → Triple → (variable position : ℕ) → Bool
is_cell c group variable position = same_triple c.group group && (c.variable == variable && c.position == position)

-- the word of a Workgroup variable at a position; 0 where none was written
abbrev pub cell_word : List Cell → Triple → (variable position : ℕ) → ℕ
cell_word [] group variable position = 0
cell_word (c ∷ cs) group variable position = cond (is_cell c group variable position) c.word (cell_word cs group variable position)

-- the buffers, where one has a word at a position; of two with one pair the first counts
abbrev pub with_bound_word : List Bound → (set binding position word : ℕ) → List Bound
with_bound_word [] set binding position word = []
with_bound_word (b ∷ bs) set binding position word =
    cond (b.set == set && b.binding == binding) (record b { words = slice_set b.words position word } ∷ bs) (b ∷ with_bound_word bs set binding position word)

abbrev pub shared_word : Shared → Memory → (position : ℕ) → ℕ
shared_word m (Buffer set binding) x = slice_index (words_bound m.buffers set binding) x
shared_word m (Workgroup group variable) x = cell_word m.cells group variable x
shared_word m other x = 0

abbrev pub with_word : Shared → Memory → (position word : ℕ) → Shared
with_word m (Buffer set binding) x w = record m { buffers = with_bound_word m.buffers set binding x w }
with_word m (Workgroup group variable) x w = record m { cells = record { group = group; variable = variable; position = x; word = w } ∷ m.cells }
with_word m other x w = m

-- the words at some positions
abbrev pub words_there : Shared → Memory → (positions : List ℕ) → List ℕ
words_there m memory positions = map (shared_word m memory) positions

-- words put at some positions, in their order
abbrev pub with_words : Shared → Memory → (positions words : List ℕ) → Shared
with_words m memory [] words = m
with_words m memory (x ∷ xs) [] = m
with_words m memory (x ∷ xs) (w ∷ ws) = with_words (with_word m memory x w) memory xs ws

abbrev pub shared_size : Shared → Memory → Option ℕ
shared_size m (Buffer set binding) = Some (length (words_bound m.buffers set binding))
shared_size m other = None

-- the place of an access; Nowhere, too, where it passes the end of its buffer
abbrev pub reached : Shared → Option Place → Option Place
reached m None = None
reached m (Some p) = cond (is_within (shared_size m p.memory) p.positions) (Some p) None

-- the new word of an atomic by its values and the old word, where it writes one
abbrev pub atomic_rules : List (ℕ × (List ℕ → ℕ → ℕ))
atomic_rules =
    (op.ATOMIC_STORE, λ values old. slice_index values 0)
    ∷ (op.ATOMIC_EXCHANGE, λ values old. slice_index values 0)
    ∷ (op.ATOMIC_COMPARE_EXCHANGE, λ values old. cond (old == slice_index values 1) (slice_index values 0) old)
    ∷ (op.ATOMIC_I_INCREMENT, λ values old. i_add 32 old 1)
    ∷ (op.ATOMIC_I_DECREMENT, λ values old. i_sub 32 old 1)
    ∷ (op.ATOMIC_I_ADD, λ values old. i_add 32 old (slice_index values 0))
    ∷ (op.ATOMIC_I_SUB, λ values old. i_sub 32 old (slice_index values 0))
    ∷ (op.ATOMIC_S_MIN, λ values old. s_min 32 old (slice_index values 0))
    ∷ (op.ATOMIC_U_MIN, λ values old. u_min old (slice_index values 0))
    ∷ (op.ATOMIC_S_MAX, λ values old. s_max 32 old (slice_index values 0))
    ∷ (op.ATOMIC_U_MAX, λ values old. u_max old (slice_index values 0))
    ∷ (op.ATOMIC_AND, λ values old. bitwise_and 32 old (slice_index values 0))
    ∷ (op.ATOMIC_OR, λ values old. bitwise_or 32 old (slice_index values 0))
    ∷ (op.ATOMIC_XOR, λ values old. bitwise_xor 32 old (slice_index values 0))
    ∷ []

-- an atomic of these values, at a place whose first position has the word
abbrev pub after_atomic : Shared → Place → (rule : Option (List ℕ → ℕ → ℕ)) → (values : List ℕ) → Shared
after_atomic m p None values = m
after_atomic m p (Some rule) values = with_words m p.memory p.positions (map (rule values) (words_there m p.memory p.positions))

abbrev pub after_at : Shared → Action → Access → Option Place → Shared
after_at m Loads a place = m
after_at m Stores a None = m
after_at m Stores a (Some p) = with_words m p.memory p.positions a.operands
after_at m Atomics a None = m
after_at m Atomics a (Some p) = after_atomic m p (lookup (nat_eq a.opcode) atomic_rules) a.operands
after_at m Fences a place = m
after_at m Barriers a place = m

-- the shared memory after an access
unfoldable pub after : Access → Shared → Shared
after a m = after_at m a.action a (reached m a.place)

-- what is read at a place; zeros at Nowhere
abbrev pub read_at : Shared → (count : ℕ) → Option Place → List ℕ
read_at m count None = replicate count 0
read_at m count (Some p) = words_there m p.memory p.positions

abbrev pub answer_by : Shared → Action → Access → List ℕ
answer_by m Loads a = read_at m a.count (reached m a.place)
answer_by m Stores a = []
answer_by m Atomics a = cond (a.opcode == op.ATOMIC_STORE) [] (read_at m a.count (reached m a.place))
answer_by m Fences a = []
answer_by m Barriers a = []

-- the words that answer an access
unfoldable pub answer : Access → Shared → Answer
answer a m = answer_by m a.action a

abbrev pub is_barrier_action : Action → Bool
is_barrier_action Barriers = true
is_barrier_action other = false

abbrev pub is_barrier : Access → Bool
is_barrier a = is_barrier_action a.action

-- the invocations of a dispatch, in their workgroups, on its buffers
abbrev pub effects : Setting → Effects Access Shared
effects c = record {
  count = invocations c;
  group = group_number c;
  memory = record { buffers = c.dispatch.buffers; cells = [] };
  after = after;
  answer = answer;
  is_barrier = is_barrier;
}
