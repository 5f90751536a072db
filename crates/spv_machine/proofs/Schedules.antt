-- The law over schedules at the machine.
use Rattle.std.proofs.Common.{◌≡◌, ℕ, ◌*◌, ◌/◌, Bool, true, List, refl, sym, ap, ◌∙◌}
use Rattle.std.specs.Prelude.{◌↔◌}
use Rattle.std.specs.Option.{unwrap_or}
use Rattle.interleaving.specs.Laws.{Suits, TwoPrograms, ScheduleLaw}
use Rattle.interleaving.specs.Laws as general
use Rattle.interleaving.proofs.Laws as proved
use Rattle.spv_module.specs.Code.{Code}
use Rattle.spv_machine.specs.Access.{Access, IsPlainLoad}
use Rattle.spv_machine.specs.Dispatch.{Bound, Dispatch, Specialisation, specialised, volume}
use Rattle.spv_machine.specs.Setting.{setting, no_triple, invocations, group_number}
use Rattle.spv_machine.specs.Effects.{Shared, effects}
use Rattle.spv_machine.specs.State.{State}
use Rattle.spv_machine.specs.Steps.{program}
use Rattle.spv_machine.specs.Alike.{Renaming, IsOneToOne, SameAccess, NearMemory}
use Rattle.spv_machine.specs.Machine.{setting_of, workgroup_size, Trace, Ends, Finals, invocation_count}
use Rattle.spv_machine.specs.Laws.{Keeps, SchedulesLaw, ModulesLaw}
use Rattle.spv_machine.proofs.Renaming.{after_near, answer_near, barrier_near, load_changes_nothing, load_is_no_barrier}

count_is : (m m2 : Code) (d : Dispatch) (s : Specialisation) → workgroup_size m2 d ≡ workgroup_size m (specialised d s) → invocations (setting_of m2 d) ≡ invocations (setting_of m (specialised d s))
unfolding workgroup_size setting
count_is m m2 d s e = ap (λ z. volume d.groups * volume (unwrap_or z no_triple)) e

group_is : (m m2 : Code) (d : Dispatch) (s : Specialisation) → workgroup_size m2 d ≡ workgroup_size m (specialised d s) → (i : ℕ) → group_number (setting_of m2 d) i ≡ group_number (setting_of m (specialised d s)) i
unfolding workgroup_size setting
group_is m m2 d s e i = ap (λ z. i / volume (unwrap_or z no_triple)) e

first_memories : (m m2 : Code) (d : Dispatch) (s : Specialisation) (r : Renaming) → NearMemory r (effects (setting_of m (specialised d s))).memory (effects (setting_of m2 d)).memory
unfolding setting
first_memories m m2 d s r = record { buffers = refl; cells = λ group variable u position e. refl }

pub suits : (m m2 : Code) (d : Dispatch) (s : Specialisation) (left_out : Access → Bool) (r : Renaming) → IsOneToOne r → ((a : Access) → left_out a ≡ true → IsPlainLoad a) → workgroup_size m2 d ≡ workgroup_size m (specialised d s) → Suits (effects (setting_of m (specialised d s))) (effects (setting_of m2 d)) left_out (SameAccess r) (NearMemory r)
suits m m2 d s left_out r one plain size = record {
  count = count_is m m2 d s size;
  group = group_is m m2 d s size;
  memory = first_memories m m2 d s r;
  after = after_near r one;
  answer = answer_near r;
  barrier = barrier_near r;
  left_out = λ a shared h. load_changes_nothing a shared (plain a h);
  no_barrier = λ a h. load_is_no_barrier a (plain a h);
}

-- the two modules as programs
abbrev case : Code → Code → Dispatch → Specialisation → (Access → Bool) → Renaming → TwoPrograms
case m m2 d s left_out r = record {
  S = State;
  U = State;
  A = Access;
  M = Shared;
  before = effects (setting_of m (specialised d s));
  old = program (setting_of m (specialised d s));
  after = effects (setting_of m2 d);
  new = program (setting_of m2 d);
  left = left_out;
  Same = SameAccess r;
  Near = NearMemory r;
}

by_machine : (m m2 : Code) (d : Dispatch) (s : Specialisation) (left_out : Access → Bool) (r : Renaming) → IsOneToOne r → ((a : Access) → left_out a ≡ true → IsPlainLoad a) → workgroup_size m2 d ≡ workgroup_size m (specialised d s) → Keeps m (specialised d s) m2 d left_out r → Ends m (specialised d s) → general.SameFinals (effects (setting_of m (specialised d s))) (program (setting_of m (specialised d s))) (effects (setting_of m2 d)) (program (setting_of m2 d)) (NearMemory r)
unfolding Trace Ends invocation_count
by_machine m m2 d s left_out r one plain size keeps ends =
    proved.schedule_law (case m m2 d s left_out r) (suits m m2 d s left_out r one plain size) keeps ends

ends_there : (m m2 : Code) (d : Dispatch) (s : Specialisation) (r : Renaming) → general.SameFinals (effects (setting_of m (specialised d s))) (program (setting_of m (specialised d s))) (effects (setting_of m2 d)) (program (setting_of m2 d)) (NearMemory r) → Ends m2 d
unfolding Ends
ends_there m m2 d s r same = same.ends

finals_there : (m m2 : Code) (d : Dispatch) (s : Specialisation) (r : Renaming) → general.SameFinals (effects (setting_of m (specialised d s))) (program (setting_of m (specialised d s))) (effects (setting_of m2 d)) (program (setting_of m2 d)) (NearMemory r) → (buffers : List Bound) → Finals m (specialised d s) buffers ↔ Finals m2 d buffers
unfolding Finals
finals_there m m2 d s r same buffers = (
  λ final. let other = same.there final.0 final.1 in (other.0, other.1, other.2.buffers ∙ final.2),
  λ final. let other = same.back final.0 final.1 in (other.0, other.1, sym other.2.buffers ∙ final.2),
)

pub schedules_law : SchedulesLaw
schedules_law m m2 d s left_out r one plain size keeps ends =
    let same = by_machine m m2 d s left_out r one plain size keeps ends in
    record { ends = ends_there m m2 d s r same; finals = finals_there m m2 d s r same }

pub modules_law : ModulesLaw
modules_law m m2 before left_out r one plain size keeps d fits ends =
    schedules_law m m2 d (before d.specialisation) left_out r one plain (size d) (keeps d fits) ends
