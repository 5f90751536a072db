-- Telling a message changes nothing of what else a run says.
use Rattle.std.proofs.Common.{◌≡◌, ℕ, List, ◌++◌, Option, Some, None, sym, ap, subst, ◌∙◌, inl, inr}
use Rattle.std.specs.Option.{option_map}
use Rattle.opt_outside.specs.Seen.{Seen, Rises}
use Rattle.opt_top.specs.declared.status.Status.{Status}
use Rattle.opt_top.specs.declared.status.Status.TheVariants.{Done, Refused, Usage, ReadFault, WriteFault, Limit, NoMemory}
use Rattle.opt_top.specs.Ends.{EndsLimited, Stops, Told, Ends}
use Rattle.opt_top.specs.Job.{FileJob}
use Rattle.opt_top.specs.Status.{message_of}

abbrev with_told : Option (List ℕ) → ℕ → Seen → Seen
with_told t f s = record s { told = t; tell_faults = f }

limited_told : (job : FileJob) (number : ℕ) (old mid : Seen) (t : Option (List ℕ)) (f : ℕ) → EndsLimited job number old mid → EndsLimited job number old (with_told t f mid)
limited_told job number old mid t f (inl h) = inl (
  h.0,
  record {
    bytes = h.1.bytes;
    input = record { front = h.1.input.front; most = h.1.input.most; whole = h.1.input.whole };
    others = ap {A = Seen} (with_told t f) h.1.others;
    long = h.1.long;
  },
)
limited_told job number old mid t f (inr h) = inr (
  h.0,
  record {
    bytes = h.1.bytes;
    input = record { front = h.1.input.front; most = h.1.input.most; whole = h.1.input.whole };
    others = ap {A = Seen} (with_told t f) h.1.others;
    short = h.1.short;
    nested = h.1.nested;
  },
)

-- whatever is told afterwards, a run stopped as it did
stops_told : (job : Option FileJob) (status : Status) (old mid : Seen) (t : Option (List ℕ)) (f : ℕ) → Stops job status old mid → Stops job status old (with_told t f mid)
stops_told None Done old mid t f h = h
stops_told None (Refused refusal) old mid t f h = h
stops_told None (Usage fault) old mid t f h = (h.0, record { others = ap {A = Seen} (with_told t f) h.1.others })
stops_told None ReadFault old mid t f h = h
stops_told None WriteFault old mid t f h = h
stops_told None (Limit number) old mid t f h = h
stops_told None NoMemory old mid t f h = h
stops_told (Some job) Done old mid t f h = record { bytes = h.bytes; output = h.output; input = record { front = h.input.front; most = h.input.most; whole = h.input.whole }; others = ap {A = Seen} (with_told t f) h.others; short = h.short; answer = h.answer; means = h.means }
stops_told (Some job) (Refused refusal) old mid t f h = record { bytes = h.bytes; input = record { front = h.input.front; most = h.input.most; whole = h.input.whole }; others = ap {A = Seen} (with_told t f) h.others; short = h.short; broken = h.broken }
stops_told (Some job) (Usage fault) old mid t f h = h
stops_told (Some job) ReadFault old mid t f h = record { others = ap {A = Seen} (with_told t f) h.others; names = h.names; taken = h.taken; cause = h.cause }
stops_told (Some job) WriteFault old mid t f h = record {
  bytes = h.bytes;
  output = h.output;
  input = record { front = h.input.front; most = h.input.most; whole = h.input.whole };
  others = ap {A = Seen} (with_told t f) h.others;
  short = h.short;
  answer = h.answer;
  names = h.names;
  opening = h.opening;
  front = h.front;
  cause = h.cause;
}
stops_told (Some job) (Limit number) old mid t f h = limited_told job number old mid t f h
stops_told (Some job) NoMemory old mid t f h = record { others = ap {A = Seen} (with_told t f) h.others; taken = h.taken }

told_since : (text : List ℕ) (old mid new : Seen) → mid.told ≡ old.told → mid.tell_faults ≡ old.tell_faults → Told text mid new → Told text old new
told_since text old mid new e k (inl h) = inl (record { told = h.told ∙ ap (option_map (λ told. told ++ text)) e; tell_faults = h.tell_faults ∙ k })
told_since text old mid new e k (inr h) = inr (record {
  front = h.front;
  rest = h.rest;
  whole = h.whole;
  some = h.some;
  told = h.told ∙ ap (option_map (λ told. told ++ h.front)) e;
  cause = subst (λ (n : ℕ). Rises n new.tell_faults) k h.cause;
})

pub ends_told : (job : Option FileJob) (status : Status) (old mid new : Seen) → Stops job status old mid → mid.told ≡ old.told → mid.tell_faults ≡ old.tell_faults →
    new ≡ record mid { told = new.told; tell_faults = new.tell_faults } → Told (message_of status) mid new → Ends job status old new
ends_told job status old mid new h e k others told = record {
  stops = subst (Stops job status old) (sym others) (stops_told job status old mid new.told new.tell_faults h);
  told = told_since (message_of status) old mid new e k told;
}
