-- Forms are the same where their numbers are.
use Rattle.std.proofs.Common.{◌≡◌, ℕ, ◌<◌, Bool, true, false, ◌&&◌, ◌==◌, Option, Some, None, refl, ap, ◌∙◌, arith}
use Rattle.std.specs.Option.{option_and_then, unwrap_or}
use Rattle.std.proofs.lemmas.Bool.Decides.{nat_tests}
use Rattle.spv_composites.specs.declared.numbering.Nodes.{Nodes}
use Rattle.spv_composites.specs.Forms.{Length, Known, Constant, Form, Plain, Array, Struct, Parts, NoPart, Part, same_length, same_form, same_parts, same_forms}
use Rattle.spv_composites.specs.Numbering.{same_node, node_at, array_node, number_of, number_of_parts, AreNumbered, IsNumber, same_number}

and_true : (b : Bool) → (b && true) ≡ b
and_true true = refl
and_true false = refl

-- what is behind an option that is there
pub and_then-some : {X Y : Type 0} (h : X → Option Y) (o : Option X) (a : Y) → option_and_then h o ≡ Some a → (e : X) × (o ≡ Some e) × (h e ≡ Some a)
and_then-some h None a p = cc
and_then-some h (Some e) a p = (e, refl, p)

plain_array : (t : ℕ) (l : Length) (e : ℕ) → same_node (0, t, 0) (array_node l e) ≡ false
plain_array t (Known n) e = refl
plain_array t (Constant id) e = refl

array_plain : (l : Length) (e t : ℕ) → same_node (array_node l e) (0, t, 0) ≡ false
array_plain (Known n) e t = refl
array_plain (Constant id) e t = refl

array_struct : (l : Length) (e p : ℕ) → same_node (array_node l e) (3, p, 0) ≡ false
array_struct (Known n) e p = refl
array_struct (Constant id) e p = refl

struct_array : (p : ℕ) (l : Length) (e : ℕ) → same_node (3, p, 0) (array_node l e) ≡ false
struct_array p (Known n) e = refl
struct_array p (Constant id) e = refl

array_array : (l m : Length) (d e : ℕ) → same_node (array_node l d) (array_node m e) ≡ (same_length l m && d == e)
array_array (Known n) (Known k) d e = refl
array_array (Known n) (Constant id) d e = refl
array_array (Constant id) (Known k) d e = refl
array_array (Constant id) (Constant other) d e = refl

of_some : (a b : ℕ) → Some a ≡ Some b → a ≡ b
of_some a b e = ap (λ (o : Option ℕ). unwrap_or o 0) e

none_none : (a b : ℕ) → Some 0 ≡ Some a → Some 0 ≡ Some b → (a == b) ≡ true
none_none a b p q = let x = of_some 0 a p in let y = of_some 0 b q in grind (arith, nat_tests)

none_some : (a b : ℕ) → Some 0 ≡ Some a → 0 < b → (a == b) ≡ false
none_some a b p q = let x = of_some 0 a p in grind (arith, nat_tests)

some_none : (a b : ℕ) → 0 < a → Some 0 ≡ Some b → (a == b) ≡ false
some_none a b p q = let y = of_some 0 b q in grind (arith, nat_tests)

-- induction on the forms
mutual
  pub same-number : (nodes : Nodes) → AreNumbered nodes → (f g : Form) (a b : ℕ) → number_of (node_at nodes) f ≡ Some a →
      number_of (node_at nodes) g ≡ Some b → (a == b) ≡ same_form f g
  same-number nodes h (Plain t) (Plain u) a b p q = h.apart (0, t, 0) (0, u, 0) a b p q ∙ and_true (t == u)
  same-number nodes h (Plain t) (Array m g) a b p q =
      let y = and_then-some (λ e. node_at nodes (array_node m e)) (number_of (node_at nodes) g) b q in
      h.apart (0, t, 0) (array_node m y.0) a b p y.2 ∙ plain_array t m y.0
  same-number nodes h (Plain t) (Struct gs) a b p q =
      let y = and_then-some (λ e. node_at nodes (3, e, 0)) (number_of_parts (node_at nodes) gs) b q in
      h.apart (0, t, 0) (3, y.0, 0) a b p y.2
  same-number nodes h (Array l f) (Plain u) a b p q =
      let x = and_then-some (λ e. node_at nodes (array_node l e)) (number_of (node_at nodes) f) a p in
      h.apart (array_node l x.0) (0, u, 0) a b x.2 q ∙ array_plain l x.0 u
  same-number nodes h (Array l f) (Array m g) a b p q =
      let x = and_then-some (λ e. node_at nodes (array_node l e)) (number_of (node_at nodes) f) a p in
      let y = and_then-some (λ e. node_at nodes (array_node m e)) (number_of (node_at nodes) g) b q in
      h.apart (array_node l x.0) (array_node m y.0) a b x.2 y.2 ∙ array_array l m x.0 y.0
      ∙ ap (λ (c : Bool). same_length l m && c) (same-number nodes h f g x.0 y.0 x.1 y.1)
  same-number nodes h (Array l f) (Struct gs) a b p q =
      let x = and_then-some (λ e. node_at nodes (array_node l e)) (number_of (node_at nodes) f) a p in
      let y = and_then-some (λ e. node_at nodes (3, e, 0)) (number_of_parts (node_at nodes) gs) b q in
      h.apart (array_node l x.0) (3, y.0, 0) a b x.2 y.2 ∙ array_struct l x.0 y.0
  same-number nodes h (Struct fs) (Plain u) a b p q =
      let x = and_then-some (λ e. node_at nodes (3, e, 0)) (number_of_parts (node_at nodes) fs) a p in
      h.apart (3, x.0, 0) (0, u, 0) a b x.2 q
  same-number nodes h (Struct fs) (Array m g) a b p q =
      let x = and_then-some (λ e. node_at nodes (3, e, 0)) (number_of_parts (node_at nodes) fs) a p in
      let y = and_then-some (λ e. node_at nodes (array_node m e)) (number_of (node_at nodes) g) b q in
      h.apart (3, x.0, 0) (array_node m y.0) a b x.2 y.2 ∙ struct_array x.0 m y.0
  same-number nodes h (Struct fs) (Struct gs) a b p q =
      let x = and_then-some (λ e. node_at nodes (3, e, 0)) (number_of_parts (node_at nodes) fs) a p in
      let y = and_then-some (λ e. node_at nodes (3, e, 0)) (number_of_parts (node_at nodes) gs) b q in
      h.apart (3, x.0, 0) (3, y.0, 0) a b x.2 y.2 ∙ and_true (x.0 == y.0) ∙ same-number_of_parts nodes h fs gs x.0 y.0 x.1 y.1

  pub same-number_of_parts : (nodes : Nodes) → AreNumbered nodes → (fs gs : Parts) (a b : ℕ) → number_of_parts (node_at nodes) fs ≡ Some a →
      number_of_parts (node_at nodes) gs ≡ Some b → (a == b) ≡ same_parts fs gs
  same-number_of_parts nodes h NoPart NoPart a b p q = none_none a b p q
  same-number_of_parts nodes h NoPart (Part gs g) a b p q =
      let y = and_then-some (λ n. option_and_then (λ e. node_at nodes (4, n, e)) (number_of (node_at nodes) g)) (number_of_parts (node_at nodes) gs) b q in
      let z = and_then-some (λ e. node_at nodes (4, y.0, e)) (number_of (node_at nodes) g) b y.2 in
      none_some a b p (h.some (4, y.0, z.0) b z.2).0
  same-number_of_parts nodes h (Part fs f) NoPart a b p q =
      let x = and_then-some (λ n. option_and_then (λ e. node_at nodes (4, n, e)) (number_of (node_at nodes) f)) (number_of_parts (node_at nodes) fs) a p in
      let w = and_then-some (λ e. node_at nodes (4, x.0, e)) (number_of (node_at nodes) f) a x.2 in
      some_none a b (h.some (4, x.0, w.0) a w.2).0 q
  same-number_of_parts nodes h (Part fs f) (Part gs g) a b p q =
      let x = and_then-some (λ n. option_and_then (λ e. node_at nodes (4, n, e)) (number_of (node_at nodes) f)) (number_of_parts (node_at nodes) fs) a p in
      let w = and_then-some (λ e. node_at nodes (4, x.0, e)) (number_of (node_at nodes) f) a x.2 in
      let y = and_then-some (λ n. option_and_then (λ e. node_at nodes (4, n, e)) (number_of (node_at nodes) g)) (number_of_parts (node_at nodes) gs) b q in
      let z = and_then-some (λ e. node_at nodes (4, y.0, e)) (number_of (node_at nodes) g) b y.2 in
      h.apart (4, x.0, w.0) (4, y.0, z.0) a b w.2 z.2
      ∙ ap (λ (c : Bool). c && w.0 == z.0) (same-number_of_parts nodes h fs gs x.0 y.0 x.1 y.1)
      ∙ ap (λ (c : Bool). same_parts fs gs && c) (same-number nodes h f g w.0 z.0 w.1 z.1)

-- the same where both may be missing
pub same_number-forms : (nodes : Nodes) → AreNumbered nodes → (n m : Option ℕ) (f g : Option Form) → IsNumber nodes n f → IsNumber nodes m g →
    same_number n m ≡ same_forms f g
same_number-forms nodes h None None None None p q = refl
same_number-forms nodes h None (Some m) None (Some g) p q = refl
same_number-forms nodes h (Some n) None (Some f) None p q = refl
same_number-forms nodes h (Some n) (Some m) (Some f) (Some g) p q = same-number nodes h f g n m p q
same_number-forms nodes h None m (Some f) g p q = absurd p
same_number-forms nodes h (Some n) m None g p q = absurd p
same_number-forms nodes h None None None (Some g) p q = absurd q
same_number-forms nodes h None (Some m) None None p q = absurd q
same_number-forms nodes h (Some n) None (Some f) (Some g) p q = absurd q
same_number-forms nodes h (Some n) (Some m) (Some f) None p q = absurd q
