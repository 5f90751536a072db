-- What is kept of a module's calls.
use Rattle.std.specs.Prelude.{◌≡◌, ℕ, Bool, true, false, ◌&&◌, not, List, [], length, map, filter, Option, Some, None}
use Rattle.std.specs.BTreeSet.{BTreeSet, contains}
use Rattle.std.specs.List.{Contains, list_all, range_with_len}
use Rattle.std.specs.Ordering.{nat_cmp}
use Rattle.graph.specs.Reaching.{Reaches, IsReached}
use Rattle.graph.specs.Rows.{row, HasEdge, IsMarked}
use Rattle.graph.specs.Walks.{Going}
use Rattle.spv_grammar.specs.declared.kind.Role.{Role}
use Rattle.spv_module.specs.Instruction.{Instruction}
use Rattle.spv_ids.specs.Ids.{is_needed}
use Rattle.spv_calls.specs.Calls.{is_global, calls, globals_at}
use Rattle.spv_calls.specs.Interfaces.{has, repeats}
use Rattle.spv_calls.specs.declared.search.Search.{Search}

-- marked places lead to marked places alone, and none to itself
pub record AreSettled (rows : List (List ℕ)) (settled : List Bool) : Type 0 where
  pub closed : (p q : ℕ) → IsMarked settled p → HasEdge rows p q → IsMarked settled q
  pub straight : (p : ℕ) → IsMarked settled p → ¬ IsReached rows (row rows p) p

-- the calls, the global variables that each function names, and functions that do not reach themselves
pub record AreKept (insts : List Instruction) (rows globals : List (List ℕ)) (settled : List Bool) : Type 0 where
  pub rows_are : rows ≡ calls insts
  pub globals_are : globals ≡ map (globals_at insts) (range_with_len 0 (length insts))
  pub settled_are : AreSettled rows settled

-- the set of the ids of a list, where they are global variables, each once; none where they are not
abbrev pub IsListing : List Instruction → List ℕ → Option (BTreeSet ℕ) → Type 0
IsListing insts ids None = (list_all (is_global insts) ids && not (repeats ids)) ≡ false
IsListing insts ids (Some set) = ((list_all (is_global insts) ids && not (repeats ids)) ≡ true) × ((id : ℕ) → contains nat_cmp set id ≡ has ids id)

-- the global variables that a function or one that it reaches names pass a test
abbrev pub ListsNamed : List Instruction → (entry : ℕ) → (listed : ℕ → Bool) → Type 0
ListsNamed insts entry listed = (place : ℕ) → Reaches (calls insts) entry place → (id : ℕ) → has (globals_at insts place) id ≡ true → listed id ≡ true

-- those of some words that are needed ids and pass a test
abbrev pub kept : (ℕ → Bool) → List (Role × ℕ) → List ℕ
kept test parts = filter test (map (λ part. part.1) (filter (λ part. is_needed part.0) parts))

-- the list has exactly the places that are marked
pub record AreMet (marks : List Bool) (places : List ℕ) : Type 0 where
  pub only : (place : ℕ) → Contains places place → IsMarked marks place
  pub all : (place : ℕ) → IsMarked marks place → Contains places place

-- what a search has met, and what of that waits
abbrev pub going : Search → Going
going search = record { met = search.met.items; waiting = search.waiting.items }

abbrev pub IsKnown : Search → Type 0
IsKnown search = AreMet search.met.items search.reached.items

-- no place of so many is met
pub record IsFresh (count : ℕ) (search : Search) : Type 0 where
  pub one_each : length search.met.items ≡ count
  pub none : (place : ℕ) → ¬ IsMarked search.met.items place
  pub still : search.waiting.items ≡ []
  pub empty : search.reached.items ≡ []

-- the global variables that a function at a place names pass a test
abbrev pub row_passes : List Instruction → (test : ℕ → Bool) → (place : ℕ) → Bool
row_passes insts test place = list_all test (globals_at insts place)

-- the places of a list have lost their marks, and nothing is marked that was not
pub record IsUnmarked (old new : List Bool) (places : List ℕ) : Type 0 where
  pub one_each : length new ≡ length old
  pub kept : (place : ℕ) → IsMarked new place → IsMarked old place
  pub lost : (place : ℕ) → Contains places place → ¬ IsMarked new place
