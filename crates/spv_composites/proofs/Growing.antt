-- One node more is numbered.
use Rattle.std.proofs.Common.{◌≡◌, ℕ, ◌+◌, ◌<◌, Bool, true, false, cond, ◌&&◌, ◌==◌, Option, Some, None, refl, sym, ap, subst, ◌∙◌, arith}
use Rattle.std.specs.Cmp.{both_tied, unsigned_ties}
use Rattle.std.specs.BTreeMap.{BTreeMap}
use Rattle.std.specs.Option.{option_and_then, unwrap_or}
use Rattle.std.specs.Ordering.{eq_by_cmp, nat_cmp, ordering_then}
use Rattle.std.proofs.lemmas.Bool.{and_parts, eqb-true}
use Rattle.std.proofs.lemmas.Bool.Decides.{nat_tests}
use Rattle.spv_composites.specs.declared.numbering.Nodes.{Nodes}
use Rattle.spv_composites.specs.Forms.{Form, Plain, Array, Struct, Parts, NoPart, Part, FormTable}
use Rattle.spv_composites.specs.Numbering.{Node, node_cmp, same_node, node_at, array_node, number_of, number_of_parts, AddsNode, AreNumbered, Grows, IsNumber}
use Rattle.spv_composites.specs.Numbering.{HasNumbers}
use Rattle.spv_composites.proofs.SameForms.{and_then-some}

-- the order tells nodes apart
node-ties : (x y : Node) → eq_by_cmp node_cmp x y ≡ same_node x y
node-ties x y =
    sym (both_tied _ _ (ordering_then (nat_cmp x.0 y.0) (nat_cmp x.1 y.1)) (nat_cmp x.2 y.2)
    (both_tied _ _ (nat_cmp x.0 y.0) (nat_cmp x.1 y.1) (unsigned_ties x.0 y.0) (unsigned_ties x.1 y.1)) (unsigned_ties x.2 y.2))

abbrev node_of : (a b c : ℕ) → Node
node_of a b c = (a, b, c)

same_triple : (a b c d e f : ℕ) → a ≡ d → b ≡ e → c ≡ f → node_of a b c ≡ node_of d e f
same_triple a b c d e f p q r = cc

node-is : (x y : Node) → same_node x y ≡ true → x ≡ y
node-is x y e =
    let both = and_parts (x.0 == y.0 && x.1 == y.1) (x.2 == y.2) e in
    let first = and_parts (x.0 == y.0) (x.1 == y.1) both.0 in
    same_triple x.0 x.1 x.2 y.0 y.1 y.2 (eqb-true x.0 y.0 first.0) (eqb-true x.1 y.1 first.1) (eqb-true x.2 y.2 both.1)

node-itself : (x : Node) → same_node x x ≡ true
node-itself x = grind (arith, nat_tests)

node-turned : (x y : Node) → same_node x y ≡ same_node y x
node-turned x y = grind (arith, nat_tests)

-- nothing is numbered anew
pub grows-same : (nodes : Nodes) → AreNumbered nodes → Grows nodes nodes
grows-same nodes h = record { numbered = h; kept = λ x n e. e }

pub grows-more : (a b c : Nodes) → Grows a b → Grows b c → Grows a c
grows-more a b c g h = record { numbered = h.numbered; kept = λ x n e. h.kept x n (g.kept x n e) }

-- induction on the form
mutual
  pub number_of-kept : (old new : Nodes) → Grows old new → (f : Form) (a : ℕ) → number_of (node_at old) f ≡ Some a → number_of (node_at new) f ≡ Some a
  number_of-kept old new g (Plain t) a p = g.kept (0, t, 0) a p
  number_of-kept old new g (Array l f) a p =
      let x = and_then-some (λ e. node_at old (array_node l e)) (number_of (node_at old) f) a p in
      ap (λ (o : Option ℕ). option_and_then (λ e. node_at new (array_node l e)) o) (number_of-kept old new g f x.0 x.1) ∙ g.kept (array_node l x.0) a x.2
  number_of-kept old new g (Struct fs) a p =
      let x = and_then-some (λ e. node_at old (3, e, 0)) (number_of_parts (node_at old) fs) a p in
      ap (λ (o : Option ℕ). option_and_then (λ e. node_at new (3, e, 0)) o) (number_of_parts-kept old new g fs x.0 x.1) ∙ g.kept (3, x.0, 0) a x.2

  pub number_of_parts-kept : (old new : Nodes) → Grows old new → (fs : Parts) (a : ℕ) → number_of_parts (node_at old) fs ≡ Some a →
      number_of_parts (node_at new) fs ≡ Some a
  number_of_parts-kept old new g NoPart a p = p
  number_of_parts-kept old new g (Part fs f) a p =
      let x = and_then-some (λ n. option_and_then (λ e. node_at old (4, n, e)) (number_of (node_at old) f)) (number_of_parts (node_at old) fs) a p in
      let w = and_then-some (λ e. node_at old (4, x.0, e)) (number_of (node_at old) f) a x.2 in
      ap (λ (o : Option ℕ). option_and_then (λ n. option_and_then (λ e. node_at new (4, n, e)) (number_of (node_at new) f)) o)
      (number_of_parts-kept old new g fs x.0 x.1)
      ∙ ap (λ (o : Option ℕ). option_and_then (λ e. node_at new (4, x.0, e)) o) (number_of-kept old new g f w.0 w.1)
      ∙ g.kept (4, x.0, w.0) a w.2

pub IsNumber-kept : (old new : Nodes) → Grows old new → (n : Option ℕ) (f : Option Form) → IsNumber old n f → IsNumber new n f
IsNumber-kept old new g None None p = p
IsNumber-kept old new g (Some n) (Some f) p = number_of-kept old new g f n p
IsNumber-kept old new g None (Some f) p = absurd p
IsNumber-kept old new g (Some n) None p = absurd p

pub HasNumbers-kept : (old new : Nodes) (numbers : BTreeMap ℕ ℕ) (table : FormTable) → Grows old new → HasNumbers old numbers table →
    HasNumbers new numbers table
HasNumbers-kept old new numbers table g h = record { numbered = g.numbered; at = λ t. IsNumber-kept old new g _ _ (h.at t) }

-- a node that has no number gets the next one
record Adds (old new : Nodes) (node : Node) (n : ℕ) : Type 0 where
  before : AreNumbered old
  absent : node_at old node ≡ None
  is : n ≡ old.next
  next : new.next ≡ n + 1
  at : (q : Node) → node_at new q ≡ cond (same_node node q) (Some n) (node_at old q)

at_test : (old new : Nodes) (node : Node) (n : ℕ) → Adds old new node n → (q : Node) (b : Bool) → same_node node q ≡ b →
    node_at new q ≡ cond b (Some n) (node_at old q)
at_test old new node n h q b e = h.at q ∙ ap (λ (c : Bool). cond c (Some n) (node_at old q)) e

at_old : (old new : Nodes) (node : Node) (n : ℕ) → Adds old new node n → (q : Node) (m : ℕ) → same_node node q ≡ false → node_at new q ≡ Some m →
    node_at old q ≡ Some m
at_old old new node n h q m e p = sym (at_test old new node n h q false e) ∙ p

at_new : (old new : Nodes) (node : Node) (n : ℕ) → Adds old new node n → (q : Node) (m : ℕ) → same_node node q ≡ true → node_at new q ≡ Some m → n ≡ m
at_new old new node n h q m e p = ap (λ (o : Option ℕ). unwrap_or o 0) (sym (at_test old new node n h q true e) ∙ p)

kept_by : (old new : Nodes) (node : Node) (n : ℕ) → Adds old new node n → (x : Node) (m : ℕ) (b : Bool) → same_node node x ≡ b → node_at old x ≡ Some m →
    node_at new x ≡ Some m
kept_by old new node n h x m true e p =
    let none : node_at old x ≡ None = ap (node_at old) (sym (node-is node x e)) ∙ h.absent in
    cc
kept_by old new node n h x m false e p = at_test old new node n h x false e ∙ p

some_by : (old new : Nodes) (node : Node) (n : ℕ) → Adds old new node n → (x : Node) (m : ℕ) (b : Bool) → same_node node x ≡ b → node_at new x ≡ Some m →
    (0 < m) × (m < new.next)
some_by old new node n h x m true e p =
    let is = at_new old new node n h x m e p in
    let some = h.before.next in
    let new_is = h.is in
    let next = h.next in
    (omega arith, omega arith)
some_by old new node n h x m false e p =
    let some = h.before.some x m (at_old old new node n h x m e p) in
    let is = h.is in
    let next = h.next in
    (omega arith, omega arith)

equal_is : (a b : ℕ) → a ≡ b → (a == b) ≡ true
equal_is a b e = grind (arith, nat_tests)

below_is : (n a b : ℕ) → n ≡ a → b < n → (a == b) ≡ false
below_is n a b e h = grind (arith, nat_tests)

above_is : (n a b : ℕ) → a < n → n ≡ b → (a == b) ≡ false
above_is n a b h e = grind (arith, nat_tests)

apart_by : (old new : Nodes) (node : Node) (n : ℕ) → Adds old new node n → (x y : Node) (a b : ℕ) (s t : Bool) → same_node node x ≡ s → same_node node y ≡ t →
    node_at new x ≡ Some a → node_at new y ≡ Some b → (a == b) ≡ same_node x y
apart_by old new node n h x y a b true true s t p q =
    equal_is a b (sym (at_new old new node n h x a s p) ∙ at_new old new node n h y b t q)
    ∙ sym (ap (λ (z : Node). same_node z y) (sym (node-is node x s)) ∙ t)
apart_by old new node n h x y a b true false s t p q =
    let bound : b < n = subst (λ (k : ℕ). b < k) (sym h.is) (h.before.some y b (at_old old new node n h y b t q)).1 in
    below_is n a b (at_new old new node n h x a s p) bound
    ∙ sym (ap (λ (z : Node). same_node z y) (sym (node-is node x s)) ∙ t)
apart_by old new node n h x y a b false true s t p q =
    let bound : a < n = subst (λ (k : ℕ). a < k) (sym h.is) (h.before.some x a (at_old old new node n h x a s p)).1 in
    above_is n a b bound (at_new old new node n h y b t q)
    ∙ sym (ap (same_node x) (sym (node-is node y t)) ∙ node-turned x node ∙ s)
apart_by old new node n h x y a b false false s t p q =
    h.before.apart x y a b (at_old old new node n h x a s p) (at_old old new node n h y b t q)

grows-by : (old new : Nodes) (node : Node) (n : ℕ) → Adds old new node n → Grows old new
grows-by old new node n h =
    let some = h.before.next in
    let is = h.is in
    let next = h.next in
    record {
      numbered =
          record {
            apart = λ x y a b p q. apart_by old new node n h x y a b (same_node node x) (same_node node y) refl refl p q;
            some = λ x m p. some_by old new node n h x m (same_node node x) refl p;
            next = omega arith;
          };
      kept = λ x m p. kept_by old new node n h x m (same_node node x) refl p;
    }

pub grows-added : (old new : Nodes) (node : Node) (n : ℕ) → AreNumbered old → node_at old node ≡ None → AddsNode old new node n → Grows old new
grows-added old new node n h absent adds =
    grows-by old new node n
    record {
      before = h;
      absent = absent;
      is = adds.is;
      next = adds.next;
      at = λ q. adds.at q ∙ ap (λ (c : Bool). cond c (Some n) (node_at old q))
          (node-ties node q);
    }

pub number-added : (old new : Nodes) (node : Node) (n : ℕ) → AddsNode old new node n → node_at new node ≡ Some n
number-added old new node n adds = adds.at node ∙ ap (λ (c : Bool). cond c (Some n) (node_at old node)) (node-ties node node ∙ node-itself node)
