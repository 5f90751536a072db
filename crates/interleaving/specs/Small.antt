-- The laws' cases at the small machine.
use Rattle.std.specs.Prelude.{◌≡◌, ℕ, List, [], ◌∷◌}
use Rattle.interleaving.specs.Trace.{trace_of}
use Rattle.interleaving.specs.Laws.{TwoPrograms, ThreePrograms, ThreeTraces, OneChange, TwoMachines, TwoSides, OneMachine}
use Rattle.interleaving.specs.Example.{Access, Load, Exchange, Act, Makes, look, one_workgroup, doing, is_unread, drop_unread}

-- an unread load before an exchange, and the exchange
abbrev pub reads : List Act
reads = Makes (Load 0) ∷ Makes (Exchange 1) ∷ []

abbrev pub two_programs : TwoPrograms
two_programs = record {
  S = List Act;
  U = List Act;
  A = Access;
  M = ℕ;
  before = one_workgroup;
  old = doing reads reads;
  after = one_workgroup;
  new = doing (drop_unread reads) (drop_unread reads);
  left = is_unread;
  Same = λ x y. x ≡ y;
  Near = λ m n. m ≡ n;
}

abbrev pub three_programs : ThreePrograms
three_programs = record {
  S = List Act;
  U = List Act;
  V = List Act;
  A = Access;
  M = ℕ;
  effects1 = one_workgroup;
  effects2 = one_workgroup;
  effects3 = one_workgroup;
  program1 = doing reads reads;
  program2 = doing reads (drop_unread reads);
  program3 = doing (drop_unread reads) (drop_unread reads);
  Near12 = λ m n. m ≡ n;
  Near23 = λ m n. m ≡ n;
  Near13 = λ m n. m ≡ n;
}

abbrev pub three_traces : ThreeTraces
three_traces = record {
  A = Access;
  traces1 = trace_of look (Makes (Load 0) ∷ reads);
  traces2 = trace_of look reads;
  traces3 = trace_of look (drop_unread reads);
  Kind1 = λ a. a ≡ Load 0;
  Kind2 = λ a. a ≡ Load 0;
  Same12 = λ x y. x ≡ y;
  Same23 = λ x y. x ≡ y;
  Same13 = λ x y. x ≡ y;
}

abbrev pub one_change : OneChange
one_change = record {
  S = List Act;
  A = Access;
  look = look;
  state = reads;
  other = trace_of look (drop_unread reads);
  left = is_unread;
  Same = λ x y. x ≡ y;
  Kind = λ a. a ≡ Load 0;
}

abbrev pub two_machines : TwoMachines
two_machines = record { S = List Act; U = List Act; A = Access; look = look; look2 = look; left = is_unread; Same = λ x y. x ≡ y; R = λ s u. u ≡ drop_unread s }

abbrev pub two_sides : TwoSides
two_sides = record {
  A = Access;
  machine1 = trace_of look reads;
  meaning1 = trace_of look reads;
  machine2 = trace_of look (drop_unread reads);
  meaning2 = trace_of look (drop_unread reads);
  left = is_unread;
  Same = λ x y. x ≡ y;
}

abbrev pub one_machine : OneMachine
one_machine = record { S = List Act; A = Access; look = look }
