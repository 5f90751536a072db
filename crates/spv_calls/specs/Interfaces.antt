-- 602 Interface: the global variables that an entry point lists.
use Rattle.std.specs.Prelude.{◌≡◌, ℕ, Bool, true, false, ◌||◌, nat_eq, List, [], ◌∷◌, drop, slice_index, Some}
use Rattle.std.specs.List.{list_all, list_any}
use Rattle.graph.specs.Reaching.{Reaches}
use Rattle.spv_grammar.specs.Text.{text_words}
use Rattle.spv_module.specs.Instruction.{Instruction}
use Rattle.spv_module.specs.Layout.{is_entry_point}
use Rattle.spv_ids.specs.Ids.{place_of}
use Rattle.spv_calls.specs.Calls.{is_global, globals_at, calls}

-- the ids behind an entry point's name
abbrev pub interface : Instruction → List ℕ
interface i = drop (text_words (drop 3 i.words)) (drop 3 i.words)

-- the list has the number
abbrev pub has : List ℕ → ℕ → Bool
has xs x = list_any (nat_eq x) xs

-- the list has a number twice
abbrev pub repeats : List ℕ → Bool
repeats [] = false
repeats (x ∷ xs) = has xs x || repeats xs

-- a function, or one that it reaches by calls, names the global variable
pub record IsReferenced (insts : List Instruction) (function id : ℕ) : Type 0 where
  pub entry : ℕ
  pub defined : place_of insts function ≡ Some entry
  pub place : ℕ
  pub reached : Reaches (calls insts) entry place
  pub named : has (globals_at insts place) id ≡ true

-- the ids are global variables, each once, and those that the function or one that it reaches names are among them
pub record IsInterface (insts : List Instruction) (function : ℕ) (ids : List ℕ) : Type 0 where
  pub globals : list_all (is_global insts) ids ≡ true
  pub once : repeats ids ≡ false
  pub all : (id : ℕ) → IsReferenced insts function id → has ids id ≡ true

-- an entry point lists the interface of its function; every other instruction passes
abbrev pub InterfaceFits : List Instruction → Instruction → Type 0
InterfaceFits insts i = is_entry_point i ≡ true → IsInterface insts (slice_index i.words 2) (interface i)
