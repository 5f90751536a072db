-- What one invocation does by itself, where a list answers its accesses.
use Rattle.std.specs.Prelude.{ℕ, zero, suc, List, [], ◌∷◌}
use Rattle.interleaving.specs.Machine.{Answer, Move, HasReturned, IsStuck, Goes, Stands}

-- how a trace ends: the invocation has returned, an answer is wanted, more instructions are wanted, or it is stuck
pub data TraceEnd : Type 0 where
  Returned : TraceEnd
  Asks : TraceEnd
  Runs : TraceEnd
  Stuck : TraceEnd

-- the accesses that were made, and the end
pub record Trace (A : Type 0) : Type 0 where
  pub accesses : List A
  pub end : TraceEnd

-- the traces of one invocation, by the number of instructions and the answers
abbrev pub Traces : Type 0 → Type 0
Traces A = ℕ → List Answer → Trace A

-- no access, and this end
abbrev pub ended : {A : Type 0} → TraceEnd → Trace A
ended x = record { accesses = []; end = x }

-- the access a, which wants an answer
abbrev pub wanted : {A : Type 0} → A → Trace A
wanted a = record { accesses = a ∷ []; end = Asks }

-- the access a before a trace
abbrev pub before : {A : Type 0} → A → Trace A → Trace A
before a t = record { accesses = a ∷ t.accesses; end = t.end }

-- within no instruction: the end, or the access for which no answer is left
abbrev pub at_rest : {S A : Type 0} → Move S A → List Answer → Trace A
at_rest HasReturned xs = ended Returned
at_rest IsStuck xs = ended Stuck
at_rest (Goes s) xs = ended Runs
at_rest (Stands a k) [] = wanted a
at_rest (Stands a k) (x ∷ xs) = ended Runs

-- within one instruction more than go: an access takes the next answer, and costs an instruction only then
abbrev pub in_motion : {S A : Type 0} → (S → List Answer → Trace A) → Move S A → List Answer → Trace A
in_motion go HasReturned xs = ended Returned
in_motion go IsStuck xs = ended Stuck
in_motion go (Goes s) xs = go s xs
in_motion go (Stands a k) [] = wanted a
in_motion go (Stands a k) (x ∷ xs) = before a (go (k x) xs)

-- the trace from the state s, within a number of instructions, under these answers
abbrev pub trace_of : {S A : Type 0} → (S → Move S A) → S → Traces A
trace_of look s zero xs = at_rest (look s) xs
trace_of look s (suc n) xs = in_motion (λ v ys. trace_of look v n ys) (look s) xs
