-- The rules that a walked block breaks in its context, as one list.
use Rattle.std.specs.Prelude.{◌≡◌, ℕ, Bool, cond, not, ◌&&◌, List, [], ◌∷◌, ◌++◌, Option, Some, None}
use Rattle.std.specs.List.{Contains}
use Rattle.std.specs.Option.{option_or}
use Rattle.spv_base.specs.declared.fault.Refusal.{Refusal}
use Rattle.spv_module.specs.First.{here, unless, earlier, first}
use Rattle.spv_blocks.specs.Blocks.{Code, Block, Open, block, targets, construct, next_of, stops}
use Rattle.spv_walk.specs.Contexts.{Context, is_fall}
use Rattle.spv_walk.specs.Walk.{BackEdge, OneBackEdge, leads}
use Rattle.spv_walk.specs.Rules.{at_front, at_end, end_at, loop_at, Broken, Finds, IsFirst}
use Rattle.spv_walk.specs.Tables.{Tells}
use Rattle.spv_walk.specs.Walked.{IsWalk, BackEdgeIn, AreEnterers, InPlaces, admits}

-- a target is refused to b: it is no exit and not walked to, by the table
abbrev pub refuses : (f : Code) (enterer : ℕ → Option ℕ) (b : ℕ) → Context → (t : ℕ) → Bool
refuses f enterer b c t = leads f b c t && not (admits f enterer b c t)

-- 404 CaseFall or 402 BadTarget at a target
abbrev pub target_rules : (f : Code) (enterer : ℕ → Option ℕ) (b : ℕ) → Context → (t : ℕ) → List ℕ
target_rules f enterer b c t = unless (not (refuses f enterer b c t)) (cond (is_fall f c t) 404 402)

abbrev pub all_target_rules : (f : Code) (enterer : ℕ → Option ℕ) (b : ℕ) → Context → (ts : List ℕ) → List ℕ
all_target_rules f enterer b c [] = []
all_target_rules f enterer b c (t ∷ ts) = target_rules f enterer b c t ++ all_target_rules f enterer b c ts

-- 405 BadContinue at a loop; a table tells which headers have one back edge
abbrev pub loop_rules : (has_one : Bool) → (next : Option ℕ) → List ℕ
loop_rules has_one None = []
loop_rules has_one (Some n) = unless has_one 405

-- behind a header that is its own continue target nothing is looked at
abbrev pub behind_faults : (f : Code) (enterer : ℕ → Option ℕ) (ends : ℕ → Bool) (l : ℕ) → Context → Block → List Refusal
behind_faults f enterer ends l c b =
    at_end f l c b ++ (here (end_at f l) (all_target_rules f enterer l c (targets f l)) ++ here (loop_at b.body) (loop_rules (ends l) (next_of (construct f l))))

abbrev pub block_faults : (is_pointer : ℕ → Bool) (f : Code) (enterer : ℕ → Option ℕ) (ends : ℕ → Bool) (l : ℕ) → Context → Block → List Refusal
block_faults is_pointer f enterer ends l c b = at_front is_pointer f l b ++ cond (stops f l) [] (behind_faults f enterer ends l c b)

-- what is found: the rules of each block in the table, and 401 NoTerminator at an open block
pub data FoundAt (is_pointer : ℕ → Bool) (f : Code) (enterer : ℕ → Option ℕ) (ends : ℕ → Bool) (In : ℕ → Context → Type 0) : (rule at : ℕ) → Type 0 where
  AtBlock : (l : ℕ) (b : Block) (c : Context) (r : Refusal) → In l c → block f l ≡ Some b → Contains (block_faults is_pointer f enterer ends l c b) r
      → FoundAt is_pointer f enterer ends In r.rule r.at
  AtOpen : (l : ℕ) (b : Block) → block f l ≡ Some b → b.end ≡ Open → FoundAt is_pointer f enterer ends In 401 b.end_at

-- a back edge is one by an exact table
abbrev pub BackEdgeByTable : Type 0
BackEdgeByTable = (f : Code) (place : ℕ → Option Context) (h b : ℕ) → IsWalk f (InPlaces place)
    → (BackEdge f h b → BackEdgeIn f (InPlaces place) h b) × (BackEdgeIn f (InPlaces place) h b → BackEdge f h b)

-- the tables from which it is read
pub record FaultTables (f : Code) (enterer : ℕ → Option ℕ) (ends : ℕ → Bool) (In : ℕ → Context → Type 0) : Type 0 where
  pub walk : IsWalk f In
  pub enterers : AreEnterers f enterer
  pub one_back_edge : Tells ends (OneBackEdge f)

pub record SameFound (is_pointer : ℕ → Bool) (f : Code) (enterer : ℕ → Option ℕ) (ends : ℕ → Bool) (In : ℕ → Context → Type 0) : Type 0 where
  pub finds : (rule at : ℕ) → Finds is_pointer f rule at → FoundAt is_pointer f enterer ends In rule at
  pub found : (rule at : ℕ) → FoundAt is_pointer f enterer ends In rule at → Finds is_pointer f rule at

abbrev pub FoundByTables : Type 0
FoundByTables = (is_pointer : ℕ → Bool) (f : Code) (enterer : ℕ → Option ℕ) (ends : ℕ → Bool) (place : ℕ → Option Context)
    → FaultTables f enterer ends (InPlaces place) → SameFound is_pointer f enterer ends (InPlaces place)

-- ---- the first of what is found

-- 402 BadTarget at a block that is not in the table
pub data Missing (f : Code) (In : ℕ → Context → Type 0) : (rule at : ℕ) → Type 0 where
  Misses : (l : ℕ) (b : Block) → block f l ≡ Some b → ((c : Context) → In l c → ⊥) → Missing f In 402 b.at

-- the first of what the lists hold is the first that is broken, and where they hold nothing, the first block that is missing
abbrev pub FirstByTables : Type 0
FirstByTables = (is_pointer : ℕ → Bool) (f : Code) (enterer : ℕ → Option ℕ) (ends : ℕ → Bool) (place : ℕ → Option Context)
    → FaultTables f enterer ends (InPlaces place) → (found missing : Option Refusal)
    → IsFirst (FoundAt is_pointer f enterer ends (InPlaces place)) found → IsFirst (Missing f (InPlaces place)) missing → IsFirst (Broken is_pointer f) (option_or found missing)

-- what a list holds
abbrev pub Holds : List Refusal → (rule at : ℕ) → Type 0
Holds bs rule at = Contains bs (record { rule = rule; at = at })

-- the earlier of two, if there is one
abbrev pub earlier_of : Option Refusal → Option Refusal → Option Refusal
earlier_of None o = o
earlier_of (Some b) o = Some (earlier b o)

abbrev pub FirstOfList : Type 0
FirstOfList = (bs : List Refusal) → IsFirst (Holds bs) (first bs)

abbrev pub FirstOfTwo : Type 0
FirstOfTwo = (bs cs : List Refusal) → IsFirst (Holds (bs ++ cs)) (earlier_of (first bs) (first cs))
