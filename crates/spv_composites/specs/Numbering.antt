-- Numbers of forms: one for each form, so that two forms are the same where their numbers are.
use Rattle.std.specs.Option.{option_and_then}
use Rattle.std.specs.Prelude.{◌≡◌, ℕ, ⊤, ◌+◌, ◌<◌, Bool, false, cond, ◌==◌, ◌&&◌, List, Option, Some, None}
use Rattle.std.specs.declared.cmp.Ordering.{Ordering}
use Rattle.std.specs.BTreeMap.{BTreeMap, get}
use Rattle.std.specs.Ordering.{eq_by_cmp, nat_cmp, ordering_then}
use Rattle.spv_module.specs.Instruction.{Instruction}
use Rattle.spv_composites.specs.declared.numbering.Nodes.{Nodes}
use Rattle.spv_composites.specs.Forms.{Length, Known, Constant, Form, Plain, Array, Struct, Parts, NoPart, Part, FormTable, form_at, with_form, match_types}

-- what is numbered: a tag, and what the tag asks for
abbrev pub Node : Type 0
Node = ℕ × ℕ × ℕ

abbrev pub node_cmp : Node → Node → Ordering
node_cmp x y = ordering_then (ordering_then (nat_cmp x.0 y.0) (nat_cmp x.1 y.1)) (nat_cmp x.2 y.2)

abbrev pub same_node : Node → Node → Bool
same_node x y = x.0 == y.0 && x.1 == y.1 && x.2 == y.2

-- the number of a node, where it has one
abbrev pub node_at : Nodes → Node → Option ℕ
node_at nodes node = get node_cmp nodes.numbers node

-- the node of an array of elements with a number
abbrev pub array_node : Length → (element : ℕ) → Node
array_node (Known n) e = (1, n, e)
array_node (Constant id) e = (2, id, e)

-- the number of a form and of members; 0 of no members
abbrev mutual
  pub number_of : (Node → Option ℕ) → Form → Option ℕ
  number_of at (Plain t) = at (0, t, 0)
  number_of at (Array l f) = option_and_then (λ e. at (array_node l e)) (number_of at f)
  number_of at (Struct ps) = option_and_then (λ p. at (3, p, 0)) (number_of_parts at ps)

  pub number_of_parts : (Node → Option ℕ) → Parts → Option ℕ
  number_of_parts at NoPart = Some 0
  number_of_parts at (Part ps f) = option_and_then (λ p. option_and_then (λ e. at (4, p, e)) (number_of at f)) (number_of_parts at ps)

-- nodes have different numbers, which are above 0 and below the next one
pub record AreNumbered (nodes : Nodes) : Type 0 where
  pub apart : (x y : Node) (n m : ℕ) → node_at nodes x ≡ Some n → node_at nodes y ≡ Some m → (n == m) ≡ same_node x y
  pub some : (x : Node) (n : ℕ) → node_at nodes x ≡ Some n → (0 < n) × (n < nodes.next)
  pub next : 0 < nodes.next

-- a node gets the next number
pub record AddsNode (old new : Nodes) (node : Node) (n : ℕ) : Type 0 where
  pub is : n ≡ old.next
  pub next : new.next ≡ n + 1
  pub at : (q : Node) → node_at new q ≡ cond (eq_by_cmp node_cmp node q) (Some n) (node_at old q)

-- nodes may be numbered that were not
pub record Grows (old new : Nodes) : Type 0 where
  pub numbered : AreNumbered new
  pub kept : (x : Node) (n : ℕ) → node_at old x ≡ Some n → node_at new x ≡ Some n

-- a number is that of a form
abbrev pub IsNumber : Nodes → Option ℕ → Option Form → Type 0
IsNumber nodes None None = ⊤
IsNumber nodes (Some n) (Some f) = number_of (node_at nodes) f ≡ Some n
IsNumber nodes n f = ⊥

abbrev pub IsNumberOfParts : Nodes → Option ℕ → Option Parts → Type 0
IsNumberOfParts nodes None None = ⊤
IsNumberOfParts nodes (Some n) (Some ps) = number_of_parts (node_at nodes) ps ≡ Some n
IsNumberOfParts nodes n ps = ⊥

-- the map has the numbers of a table's forms
pub record HasNumbers (nodes : Nodes) (numbers : BTreeMap ℕ ℕ) (table : FormTable) : Type 0 where
  pub numbered : AreNumbered nodes
  pub at : (t : ℕ) → IsNumber nodes (get nat_cmp numbers t) (form_at table t)

-- the map's numbers and one more, which is that of a form by the table or of members
abbrev pub Numbers : (old new : Nodes) (numbers : BTreeMap ℕ ℕ) → Option ℕ → (FormTable → Option Form) → Type 0
Numbers old new numbers n form = (table : FormTable) → HasNumbers old numbers table → Grows old new × IsNumber new n (form table)

abbrev pub NumbersParts : (old new : Nodes) (numbers : BTreeMap ℕ ℕ) → Option ℕ → (FormTable → Option Parts) → Type 0
NumbersParts old new numbers n parts = (table : FormTable) → HasNumbers old numbers table → Grows old new × IsNumberOfParts new n (parts table)

abbrev pub AddsForm : (old new : Nodes) (before after : BTreeMap ℕ ℕ) (t : ℕ) → (FormTable → Option Form) → Type 0
AddsForm old new before after t form = (table : FormTable) → HasNumbers old before table → HasNumbers new after (with_form table t (form table))

abbrev pub same_number : Option ℕ → Option ℕ → Bool
same_number (Some n) (Some m) = n == m
same_number n m = false

-- the numbers tell which types match
pub record TellsMatches (numbers : BTreeMap ℕ ℕ) (insts : List Instruction) : Type 0 where
  pub same : (t u : ℕ) → same_number (get nat_cmp numbers t) (get nat_cmp numbers u) ≡ match_types insts t u
