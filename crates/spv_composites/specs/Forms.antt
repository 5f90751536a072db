-- Forms of types: what OpCopyLogical compares of them. Neither the ids of arrays and structs nor their decorations tell.
use Rattle.std.specs.Map.{lookup}
use Rattle.std.specs.Option.{option_and_then, option_map, option_map_or}
use Rattle.std.specs.Prelude.{ℕ, Bool, true, false, cond, ◌==◌, ◌&&◌, nat_eq, List, [], ◌∷◌, ◌++◌, drop, slice_index, Option, Some, None}
use Rattle.spv_opcodes.specs.declared.op.TheConstants as op
use Rattle.spv_module.specs.Instruction.{Instruction, opcode}
use Rattle.spv_typing.specs.Kinds.{is_one_of}
use Rattle.spv_composites.specs.Lengths.{known_length}

-- a length of arrays: Known, and else its constant
pub data Length : Type 0 where
  Known : (n : ℕ) → Length
  Constant : (id : ℕ) → Length

mutual
  pub data Form : Type 0 where
    -- a scalar or a vector
    Plain : (t : ℕ) → Form
    Array : Length → (element : Form) → Form
    Struct : Parts → Form

  -- members in front, and one behind them
  pub data Parts : Type 0 where
    NoPart : Parts
    Part : (front : Parts) → Form → Parts

-- Known lengths that are equal, or one constant
abbrev pub same_length : Length → Length → Bool
same_length (Known n) (Known m) = n == m
same_length (Constant id) (Constant other) = id == other
same_length l m = false

-- one scalar or vector; arrays of the same length whose elements match; structs of as many members that match one by one
abbrev mutual
  pub same_form : Form → Form → Bool
  same_form (Plain t) (Plain u) = t == u
  same_form (Array l f) (Array m g) = same_length l m && same_form f g
  same_form (Struct fs) (Struct gs) = same_parts fs gs
  same_form f g = false

  pub same_parts : Parts → Parts → Bool
  same_parts NoPart NoPart = true
  same_parts (Part fs f) (Part gs g) = same_parts fs gs && same_form f g
  same_parts fs gs = false

-- by the ids of types, in the order of the module; of two of one id the first counts
abbrev pub FormTable : Type 0
FormTable = List (ℕ × Form)

abbrev pub form_at : FormTable → (t : ℕ) → Option Form
form_at table t = lookup (nat_eq t) table

-- members behind some; none where one of the types has no form
abbrev pub parts_behind : FormTable → (front : Parts) → (types : List ℕ) → Option Parts
parts_behind table front [] = Some front
parts_behind table front (t ∷ ts) = option_and_then (λ f. parts_behind table (Part front f) ts) (form_at table t)

abbrev pub length_at : List Instruction → (id : ℕ) → Length
length_at insts id = option_map_or Known (known_length insts id) (Constant id)

abbrev pub plain_types : List ℕ
plain_types = op.TYPE_BOOL ∷ op.TYPE_INT ∷ op.TYPE_VECTOR ∷ []

-- the form of the type that an instruction declares, by those of the types before it; none where it declares another type than a scalar, a vector, an
-- array or a struct, or one with such a part
abbrev pub form_by : List Instruction → FormTable → (opcode : ℕ) → (words : List ℕ) → Option Form
form_by insts table o ws =
    cond (is_one_of plain_types o) (Some (Plain (slice_index ws 1)))
    (cond (o == op.TYPE_ARRAY) (option_map (Array (length_at insts (slice_index ws 3))) (form_at table (slice_index ws 2)))
    (cond (o == op.TYPE_STRUCT) (option_map Struct (parts_behind table NoPart (drop 2 ws)))
    None))

abbrev pub form_of : List Instruction → FormTable → Instruction → Option Form
form_of insts table i = form_by insts table (opcode i) i.words

-- behind one instruction more
abbrev pub with_form : FormTable → (id : ℕ) → Option Form → FormTable
with_form table id None = table
with_form table id (Some f) = table ++ (id, f) ∷ []

abbrev pub forms_behind : List Instruction → FormTable → List Instruction → FormTable
forms_behind insts table [] = table
forms_behind insts table (i ∷ is) = forms_behind insts (with_form table (slice_index i.words 1) (form_of insts table i)) is

unfoldable pub forms : List Instruction → FormTable
forms insts = forms_behind insts [] insts

abbrev pub same_forms : Option Form → Option Form → Bool
same_forms (Some f) (Some g) = same_form f g
same_forms f g = false

-- two types match: both have forms, and these are the same
abbrev pub match_types : List Instruction → (t u : ℕ) → Bool
match_types insts t u = same_forms (form_at (forms insts) t) (form_at (forms insts) u)
