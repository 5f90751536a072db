-- The laws of the machine, as statements.
use Rattle.std.specs.Prelude.{◌≡◌, ◌↔◌, ℕ, ◌<◌, Bool, true, false, not, List, filter}
use Rattle.interleaving.specs.Machine.{Answer}
use Rattle.interleaving.specs.Keeps as alone
use Rattle.spv_base.specs.declared.header.Header.{Header}
use Rattle.spv_module.specs.Code.{Code, code_of, spelling}
use Rattle.spv_module.specs.Instruction.{Instruction}
use Rattle.spv_meaning.specs.Statements.{is_debug, is_silent, words_of}
use Rattle.spv_machine.specs.Access.{Access, IsPlainLoad}
use Rattle.spv_machine.specs.Dispatch.{Bound, Dispatch, Specialisation, specialised}
use Rattle.spv_machine.specs.Alike.{Renaming, IsOneToOne, SameAccess}
use Rattle.spv_machine.specs.Machine.{Fits, workgroup_size, Trace, Ends, Finals, invocation_count}

-- every invocation of m2 under d2 keeps the accesses of m under d, but for those left out and up to a renaming
abbrev pub Keeps : Code → Dispatch → Code → Dispatch → (left_out : Access → Bool) → Renaming → Type 0
Keeps m d m2 d2 left_out r = (i : ℕ) → i < invocation_count m d → alone.Keeps left_out (SameAccess r) (Trace m d i) (Trace m2 d2 i)

-- every schedule of the other returns, and both can leave the same buffers
pub record SameFinals (m : Code) (d : Dispatch) (m2 : Code) (d2 : Dispatch) : Type 0 where
  pub ends : Ends m2 d2
  pub finals : (buffers : List Bound) → Finals m d buffers ↔ Finals m2 d2 buffers

-- The law over schedules. The module m2 is dispatched by d, and m by d under the specialisation s.
abbrev pub SchedulesLaw : Type 0
SchedulesLaw =
    (m m2 : Code) (d : Dispatch) (s : Specialisation) (left_out : Access → Bool) (r : Renaming) →
    IsOneToOne r →
    ((a : Access) → left_out a ≡ true → IsPlainLoad a) →
    workgroup_size m2 d ≡ workgroup_size m (specialised d s) →
    Keeps m (specialised d s) m2 d left_out r →
    Ends m (specialised d s) →
    SameFinals m (specialised d s) m2 d

-- The same for all dispatches: m2 keeps the accesses of m, where m is dispatched under the specialisation that `before` makes of m2's.
abbrev pub KeepsAccesses : Code → Code → (before : Specialisation → Specialisation) → (left_out : Access → Bool) → Renaming → Type 0
KeepsAccesses m m2 before left_out r =
    (d : Dispatch) → let d1 = specialised d (before d.specialisation) in Fits m d1 → Keeps m d1 m2 d left_out r

-- the workgroup size stays
abbrev pub KeepsSize : Code → Code → (before : Specialisation → Specialisation) → Type 0
KeepsSize m m2 before = (d : Dispatch) → workgroup_size m2 d ≡ workgroup_size m (specialised d (before d.specialisation))

abbrev pub ModulesLaw : Type 0
ModulesLaw =
    (m m2 : Code) (before : Specialisation → Specialisation) (left_out : Access → Bool) (r : Renaming) →
    IsOneToOne r →
    ((a : Access) → left_out a ≡ true → IsPlainLoad a) →
    KeepsSize m m2 before →
    KeepsAccesses m m2 before left_out r →
    (d : Dispatch) → let d1 = specialised d (before d.specialisation) in
    Fits m d1 → Ends m d1 → SameFinals m d1 m2 d

-- two modules mean the same under a dispatch
pub record MeansSame (m m2 : Code) (d : Dispatch) : Type 0 where
  pub fits : Fits m d ↔ Fits m2 d
  pub size : workgroup_size m2 d ≡ workgroup_size m d
  pub count : invocation_count m2 d ≡ invocation_count m d
  pub trace : (i n : ℕ) (answers : List Answer) → Trace m2 d i n answers ≡ Trace m d i n answers
  pub ends : Ends m d ↔ Ends m2 d
  pub finals : (buffers : List Bound) → Finals m d buffers ↔ Finals m2 d buffers

-- the instructions of m2 are those of m that pass the test, wherever they stand in the file
abbrev pub KeepsWords : (keep : Instruction → Bool) → Code → Code → Type 0
KeepsWords keep m m2 = words_of m2.insts ≡ words_of (filter keep m.insts)

-- a module without its debug instructions means the same
abbrev pub StripLaw : Type 0
StripLaw = (m m2 : Code) → KeepsWords (λ i. not (is_debug i)) m m2 → (d : Dispatch) → MeansSame m m2 d

-- also where what is left is written and read again, under any header
abbrev pub without_debug : Header → List ℕ → Code
without_debug header words = record { header = header; insts = filter (λ i. not (is_debug i)) (code_of words).insts }

abbrev pub StripWordsLaw : Type 0
StripWordsLaw = (words : List ℕ) (header : Header) (d : Dispatch) → MeansSame (code_of words) (code_of (spelling (without_debug header words))) d

-- and so does one without some of the instructions that say nothing
abbrev pub SilenceLaw : Type 0
SilenceLaw =
    (m m2 : Code) (keep : Instruction → Bool) → ((i : Instruction) → keep i ≡ false → is_silent i ≡ true) → KeepsWords keep m m2 →
    (d : Dispatch) → MeansSame m m2 d
