-- The laws, each from its proof.
use Rattle.interleaving.specs.Laws.{TwoPrograms, ScheduleLaw, ThreePrograms, FinalsChain, FinalsOfNone, ThreeTraces, AccessChain, AccessesOfNone, NothingLost, OneChange, ChainBegins, LeftOutAreOfKind, TwoMachines, SimulationLaw, TwoSides, KeepsBetween, OneMachine, TraceLaw}
use Rattle.interleaving.proofs.Traces.{are_traces}
use Rattle.interleaving.proofs.Simulating.{simulation_keeps, keeps_between}
use Rattle.interleaving.proofs.Schedules.{schedules}
use Rattle.interleaving.proofs.Chains.{compose}
use Rattle.interleaving.proofs.Beginning.{begin, all_kept, chain_of_none, left_out_are_of_kind}

pub schedule_law : (c : TwoPrograms) → ScheduleLaw c
schedule_law c suits keeps ends = schedules c.before c.after c.old c.new c.left c.Same c.Near suits keeps ends

-- final memories compose, there and back
pub finals_chain : (c : ThreePrograms) → FinalsChain c
finals_chain c through first second = record {
  ends = second.ends;
  there = λ l final.
      let m = first.there l final in
      let n = second.there m.0 m.1 in
      (n.0, n.1, through l m.0 n.0 m.2 n.2);
  back = λ n final.
      let m = second.back n final in
      let l = first.back m.0 m.1 in
      (l.0, l.1, through l.0 m.0 n l.2 m.2);
}

pub finals_of_none : (c : ThreePrograms) → FinalsOfNone c
finals_of_none c near ends = record { ends = ends; there = λ m final. (m, final, near m); back = λ m final. (m, final, near m) }

pub accesses_of_none : (c : ThreeTraces) → AccessesOfNone c
accesses_of_none c same = chain_of_none c.Kind1 c.Same12 c.traces1 same

pub nothing_lost_law : (c : ThreeTraces) → NothingLost c
nothing_lost_law c none loses = all_kept c.Kind1 c.Same12 c.traces1 c.traces2 none loses

pub access_chain : (c : ThreeTraces) → AccessChain c
access_chain c first second through back l12 l23 =
    compose c.Kind1 c.Kind2 c.Same12 c.Same23 c.Same13 c.traces1 c.traces2 c.traces3 first second through back l12 l23

pub chain_begins : (c : OneChange) → ChainBegins c
chain_begins c all keeps = begin c.look c.state c.left c.Same c.Kind c.other all keeps

pub kind_law : (c : OneChange) → LeftOutAreOfKind c
kind_law c loses n xs h = left_out_are_of_kind c.look c.state c.Same c.Kind c.other loses n xs h

pub simulation_law : (c : TwoMachines) → SimulationLaw c
simulation_law c sim s u r = simulation_keeps c.look c.look2 c.left c.Same c.R sim s u r

pub between_law : (c : TwoSides) → KeepsBetween c
between_law c first keeps second = keeps_between c.left c.Same c.machine1 c.meaning1 c.meaning2 c.machine2 first keeps second

pub trace_law : (c : OneMachine) → TraceLaw c
trace_law c s = are_traces c.look s
