-- The state of an invocation: where it stands, apart from its data.
use Rattle.std.specs.Prelude.{ℕ, Bool, cond, ◌==◌, nat_eq, List, [], ◌∷◌, map, length, replicate, slice_index, slice_set, Option, Some, None, is_some}
use Rattle.std.specs.Map.{lookup}
use Rattle.std.specs.Option.{unwrap_or}
use Rattle.spv_opcodes.specs.declared.decoration.TheConstants as decoration
use Rattle.spv_opcodes.specs.declared.storage_class.TheConstants as storage_class
use Rattle.spv_meaning.specs.Statements.{Statement}
use Rattle.spv_meaning.specs.Types.{DataType}
use Rattle.spv_meaning.specs.Computations.{Typed}
use Rattle.spv_machine.specs.Places.{Triple, Memory, Buffer, Uniform, Push, Workgroup, Input, Private, Local, Place, object_at, is_within}
use Rattle.spv_meaning.specs.Constants.{Meaning, IsConstant, IsVariable, meaning, decorated, literal}
use Rattle.spv_machine.specs.Dispatch.{size_of, words_bound}
use Rattle.spv_machine.specs.Setting.{Setting, builtin_words}

-- the storage class and the type that a pointer's type names, the place, which may be Nowhere, and whether what its chain passes is volatile
pub record Pointer : Type 0 where
  pub class : ℕ
  pub target : DataType
  pub place : Option Place
  pub volatile : Bool

-- the words of a type, or a pointer
pub data Value : Type 0 where
  Words : (type : DataType) (words : List ℕ) → Value
  Points : Pointer → Value

-- what one call holds: the values of ids, and the words of its own variables, the newest first
pub record Frame : Type 0 where
  pub values : List (ℕ × Value)
  pub variables : List (ℕ × List ℕ)

-- the data of an invocation: a frame for each call, the innermost first; the words of its Private variables, the newest first; and its ids
pub record Data : Type 0 where
  pub frames : List Frame
  pub privates : List (ℕ × List ℕ)
  pub group : Triple
  pub local : Triple

-- where a call goes on when it is returned to, and the id that its result gets
pub record Caller : Type 0 where
  pub rest : List Statement
  pub block : ℕ
  pub result_id : ℕ

-- where an invocation stands: the callers, the innermost first; what is left of its function from there; and the label last left. Or it has returned
pub data State : Type 0 where
  At : (callers : List Caller) (rest : List Statement) (block : ℕ) (data' : Data) → State
  Over : State

-- ---- frames

abbrev pub no_frame : Frame
no_frame = record { values = []; variables = [] }

abbrev pub top : List Frame → Frame
top [] = no_frame
top (f ∷ fs) = f

abbrev pub below : List Frame → List Frame
below [] = []
below (f ∷ fs) = fs

-- the data with the innermost frame changed
abbrev pub on_top : (Frame → Frame) → Data → Data
on_top change d = record d { frames = change (top d.frames) ∷ below d.frames }

-- an id gets a value
abbrev pub bind : ℕ → Value → Data → Data
bind r v d = on_top (λ f. record f { values = (r, v) ∷ f.values }) d

-- and so do several; of one id twice, the last value counts
abbrev pub bind_all : List (ℕ × Value) → Data → Data
bind_all [] d = d
bind_all (entry ∷ entries) d = bind_all entries (bind entry.0 entry.1 d)

-- the number of calls below the innermost one
abbrev pub depth_of : Data → ℕ
depth_of d = length (below d.frames)

-- the frame with a number of calls below it
abbrev pub frame_at : List Frame → (depth : ℕ) → Frame
frame_at [] depth = no_frame
frame_at (f ∷ fs) depth = cond (length fs == depth) f (frame_at fs depth)

abbrev pub with_frame : List Frame → (depth : ℕ) → (Frame → Frame) → List Frame
with_frame [] depth change = []
with_frame (f ∷ fs) depth change = cond (length fs == depth) (change f ∷ fs) (f ∷ with_frame fs depth change)

-- the words of a variable in a frame, and the frame where it has these words
abbrev pub variable_words : (variable : ℕ) → List (ℕ × List ℕ) → List ℕ
variable_words v variables = unwrap_or (lookup (nat_eq v) variables) []

abbrev pub with_variable : (variable : ℕ) → List ℕ → Frame → Frame
with_variable v ws f = record f { variables = (v, ws) ∷ f.variables }

-- ---- values of ids

abbrev pub set_of : Setting → (id : ℕ) → ℕ
set_of c id = literal (decorated c.all id decoration.DESCRIPTOR_SET)

abbrev pub binding_of : Setting → (id : ℕ) → ℕ
binding_of c id = literal (decorated c.all id decoration.BINDING)

-- the memory of a variable outside functions
abbrev pub memory_of : Setting → (group : Triple) → (class id : ℕ) → Memory
memory_of c group class id =
    cond (class == storage_class.STORAGE_BUFFER) (Buffer (set_of c id) (binding_of c id))
    (cond (class == storage_class.UNIFORM) (Uniform (set_of c id) (binding_of c id))
    (cond (class == storage_class.PUSH_CONSTANT) Push
    (cond (class == storage_class.WORKGROUP) (Workgroup group id)
    (cond (class == storage_class.INPUT) (Input id) (Private id)))))

abbrev pub is_volatile_id : Setting → ℕ → Bool
is_volatile_id c id = is_some (decorated c.all id decoration.VOLATILE)

-- the whole of a variable, also where its memory ends inside it
abbrev pub whole : Setting → Memory → (class : ℕ) → DataType → (id : ℕ) → Value
whole c memory class target id =
    Points (record { class = class; target = target; place = Some (object_at class memory 0 target); volatile = is_volatile_id c id })

abbrev pub global : Setting → (group : Triple) → (id : ℕ) → Option Meaning → Option Value
global c group id (Some (IsConstant t words)) = Some (Words t words)
global c group id (Some (IsVariable class target words)) = Some (whole c (memory_of c group class id) class target id)
global c group id m = None

abbrev pub value_or : Option Value → Option Value → Option Value
value_or None other = other
value_or (Some v) other = Some v

-- the value of an id: that of the innermost frame, else that outside functions
abbrev pub value : Setting → Data → ℕ → Option Value
value c d id = value_or (lookup (nat_eq id) (top d.frames).values) (global c d.group id (meaning c.table id))

abbrev pub some_cons : {X : Type 0} → Option X → Option (List X) → Option (List X)
some_cons (Some x) (Some xs) = Some (x ∷ xs)
some_cons x xs = None

-- all of a list, where each is there
abbrev pub all_some : {X : Type 0} → List (Option X) → Option (List X)
all_some [] = Some []
all_some (x ∷ xs) = some_cons x (all_some xs)

-- the values of ids, where each has one
abbrev pub values : Setting → Data → List ℕ → Option (List Value)
values c d ids = all_some (map (value c d) ids)

abbrev pub words_of_value : Option Value → Option (List ℕ)
words_of_value (Some (Words t ws)) = Some ws
words_of_value v = None

-- the words of ids, where each has words
abbrev pub word_lists : Setting → Data → List ℕ → Option (List (List ℕ))
word_lists c d ids = all_some (map (λ id. words_of_value (value c d id)) ids)

abbrev pub typed_of_value : Option Value → Option Typed
typed_of_value (Some (Words t ws)) = Some (record { type = t; words = ws })
typed_of_value v = None

-- and with their types
abbrev pub typed_lists : Setting → Data → List ℕ → Option (List Typed)
typed_lists c d ids = all_some (map (λ id. typed_of_value (value c d id)) ids)

abbrev pub pointer_of_value : Option Value → Option Pointer
pointer_of_value (Some (Points p)) = Some p
pointer_of_value v = None

-- ---- private memories

-- the words of a memory that no other invocation changes
abbrev pub held : Setting → Data → Memory → List ℕ
held c d (Uniform set binding) = words_bound c.dispatch.uniforms set binding
held c d Push = c.dispatch.push
held c d (Input variable) = builtin_words c d.group d.local (literal (decorated c.all variable decoration.BUILTIN))
held c d (Private variable) = variable_words variable d.privates
held c d (Local depth variable) = variable_words variable (frame_at d.frames depth).variables
held c d shared = []

-- what is read at a place of such a memory: zeros at Nowhere, and past the end of a memory that is too short
abbrev pub read_held : Setting → Data → (count : ℕ) → Option Place → List ℕ
read_held c d count None = replicate count 0
read_held c d count (Some p) =
    cond (is_within (size_of c.dispatch p.memory) p.positions) (map (slice_index (held c d p.memory)) p.positions) (replicate count 0)

-- words put at some positions, in their order
abbrev pub written : List ℕ → (positions words : List ℕ) → List ℕ
written ws [] new = ws
written ws (x ∷ xs) [] = ws
written ws (x ∷ xs) (w ∷ new) = written (slice_set ws x w) xs new

abbrev pub write_in : Data → Memory → (positions words : List ℕ) → Data
write_in d (Private variable) positions words =
    record d { privates = (variable, written (variable_words variable d.privates) positions words) ∷ d.privates }
write_in d (Local depth variable) positions words =
    record d { frames = with_frame d.frames depth (λ f. with_variable variable (written (variable_words variable f.variables) positions words) f) }
write_in d other positions words = d

-- the data after a write at a place of such a memory
abbrev pub write_held : Data → Option Place → List ℕ → Data
write_held d None words = d
write_held d (Some p) words = write_in d p.memory p.positions words
