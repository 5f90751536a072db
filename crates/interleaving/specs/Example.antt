-- A small machine, to try the definitions on: each invocation has a list of things to do, and the memory is one word.
use Rattle.std.specs.Prelude.{◌≡◌, ℕ, zero, suc, ◌+◌, Bool, true, false, cond, ◌==◌, List, [], ◌∷◌}
use Rattle.interleaving.specs.Machine.{Answer, Move, HasReturned, IsStuck, Goes, Stands, Program, Effects, World, Run, first_world}
use Rattle.interleaving.specs.Trace.{trace_of}
use Rattle.interleaving.specs.Keeps.{Keeps}

-- a load, with the number of its instruction; an exchange; an addition; a control barrier
pub data Access : Type 0 where
  Load : ℕ → Access
  Exchange : ℕ → Access
  Add : ℕ → Access
  Barrier : Access

-- a private step; one that is taken for ever; an access whose answer is not read; a load as instruction 1, whose answer is then stored; an exchange, whose answer is then stored; loads as instruction 2 until the word is not 0; nothing that is defined
pub data Act : Type 0 where
  Skip : Act
  Spin : Act
  Makes : Access → Act
  Copy : Act
  Swap : ℕ → Act
  Await : Act
  Trap : Act

abbrev pub first_word : Answer → ℕ
first_word [] = 0
first_word (w ∷ ws) = w

-- what is next to do
abbrev pub look : List Act → Move (List Act) Access
look [] = HasReturned
look (Skip ∷ acts) = Goes acts
look (Spin ∷ acts) = Goes (Spin ∷ acts)
look (Makes a ∷ acts) = Stands a (λ x. acts)
look (Copy ∷ acts) = Stands (Load 1) (λ x. Makes (Exchange (first_word x)) ∷ acts)
look (Swap n ∷ acts) = Stands (Exchange n) (λ x. Makes (Exchange (first_word x)) ∷ acts)
look (Await ∷ acts) = Stands (Load 2) (λ x. cond (first_word x == 0) (Await ∷ acts) acts)
look (Trap ∷ acts) = IsStuck

abbrev pub after : Access → ℕ → ℕ
after (Load k) m = m
after (Exchange n) m = n
after (Add n) m = m + n
after Barrier m = m

abbrev pub answer : Access → ℕ → Answer
answer (Load k) m = m ∷ []
answer (Exchange n) m = m ∷ []
answer (Add n) m = m ∷ []
answer Barrier m = []

abbrev pub is_barrier : Access → Bool
is_barrier (Load k) = false
is_barrier (Exchange n) = false
is_barrier (Add n) = false
is_barrier Barrier = true

-- this many invocations in these workgroups, and 0 in memory
abbrev pub invocations : ℕ → (ℕ → ℕ) → Effects Access ℕ
invocations count group = record { count = count; group = group; memory = 0; after = after; answer = answer; is_barrier = is_barrier }

abbrev pub one_workgroup : Effects Access ℕ
one_workgroup = invocations 2 (λ i. 0)

abbrev pub two_workgroups : Effects Access ℕ
two_workgroups = invocations 2 (λ i. i)

-- the last of three invocations is alone in its workgroup
abbrev pub two_and_one : Effects Access ℕ
two_and_one = invocations 3 (λ i. cond (i == 2) 1 0)

-- the program in which the first invocation does one list and the others do the other
abbrev pub start : List Act → List Act → ℕ → List Act
start a b zero = a
start a b (suc n) = b

abbrev pub doing : List Act → List Act → Program (List Act) Access
doing a b = record { first = start a b; look = look }

-- loads as instruction 0, which nobody reads
abbrev pub is_unread : Access → Bool
is_unread (Load zero) = true
is_unread (Load (suc k)) = false
is_unread (Exchange n) = false
is_unread (Add n) = false
is_unread Barrier = false

-- without them
abbrev pub drop_unread : List Act → List Act
drop_unread [] = []
drop_unread (Skip ∷ acts) = Skip ∷ drop_unread acts
drop_unread (Spin ∷ acts) = Spin ∷ drop_unread acts
drop_unread (Makes (Load zero) ∷ acts) = drop_unread acts
drop_unread (Makes (Load (suc k)) ∷ acts) = Makes (Load (suc k)) ∷ drop_unread acts
drop_unread (Makes (Exchange n) ∷ acts) = Makes (Exchange n) ∷ drop_unread acts
drop_unread (Makes (Add n) ∷ acts) = Makes (Add n) ∷ drop_unread acts
drop_unread (Makes Barrier ∷ acts) = Makes Barrier ∷ drop_unread acts
drop_unread (Copy ∷ acts) = Copy ∷ drop_unread acts
drop_unread (Swap n ∷ acts) = Swap n ∷ drop_unread acts
drop_unread (Await ∷ acts) = Await ∷ drop_unread acts
drop_unread (Trap ∷ acts) = Trap ∷ drop_unread acts

-- this schedule leads to a world of which P holds
abbrev pub Leads : Effects Access ℕ → Program (List Act) Access → List ℕ → (World (List Act) ℕ → Bool) → Type 0
Leads e p schedule P = (w : World (List Act) ℕ) × Run e p schedule (first_world e p) w × (P w ≡ true)

-- the second list keeps the accesses of the first, but for unread loads
abbrev pub KeepsRead : List Act → List Act → Type 0
KeepsRead a b = Keeps is_unread (λ x y. x ≡ y) (trace_of look a) (trace_of look b)
