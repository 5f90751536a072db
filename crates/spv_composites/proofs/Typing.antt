-- The numbers of types, one instruction after the other.
use Rattle.std.proofs.Common.{◌≡◌, ℕ, ◌≤◌, ◌<◌, ◌+◌, Bool, true, false, cond, ◌==◌, nat_eq, List, [], ◌∷◌, ◌++◌, length, drop, slice_index, Option, Some}
use Rattle.std.proofs.Common.{None, refl, sym, ap, subst, ◌∙◌, arith}
use Rattle.std.specs.BTreeMap.{BTreeMap, get}
use Rattle.std.specs.List.{slice_get}
use Rattle.std.specs.Option.{option_and_then, option_map, option_or}
use Rattle.std.specs.Ordering.{nat_cmp}
use Rattle.std.proofs.lemmas.Bool.Decides.{nat_tests}
use Rattle.std.proofs.lemmas.List.{drop_more, drop_all}
use Rattle.std.proofs.lemmas.Option.{get_or_from_slice_get}
use Rattle.spv_opcodes.specs.declared.op.TheConstants as op
use Rattle.spv_module.specs.Instruction.{Instruction, opcode}
use Rattle.spv_composites.specs.declared.numbering.Nodes.{Nodes}
use Rattle.spv_composites.specs.Forms.{Length, Form, Array, Struct, Parts, NoPart, FormTable, form_at, parts_behind, length_at, form_by, form_of, with_form}
use Rattle.spv_composites.specs.Forms.{forms_behind, forms}
use Rattle.spv_composites.specs.Numbering.{Node, node_at, array_node, number_of, AreNumbered, Grows, IsNumber, IsNumberOfParts, HasNumbers, TellsMatches}
use Rattle.spv_composites.proofs.Growing.{grows-more, HasNumbers-kept, IsNumber-kept, number_of_parts-kept}
use Rattle.spv_composites.proofs.SameForms.{same_number-forms}

array_is : (old new : Nodes) (l : Length) (f : Option Form) (e n : ℕ) → Grows old new → IsNumber old (Some e) f → node_at new (array_node l e) ≡ Some n →
    IsNumber new (Some n) (option_map (Array l) f)
array_is old new l None e n g h at = absurd h
array_is old new l (Some f) e n g h at = ap (λ (o : Option ℕ). option_and_then (λ d. node_at new (array_node l d)) o)
    (IsNumber-kept old new g (Some e) (Some f) h) ∙ at

-- an array whose elements' form has a number
pub array-numbered : (old new : Nodes) (numbers : BTreeMap ℕ ℕ) (table : FormTable) (l : Length) (element e n : ℕ) (node : Node) →
    HasNumbers old numbers table →
    get nat_cmp numbers element ≡ Some e → (AreNumbered old → Grows old new) → node ≡ array_node l e → node_at new node ≡ Some n →
    Grows old new × IsNumber new (Some n) (option_map (Array l) (form_at table element))
array-numbered old new numbers table l element e n node h found grows is at =
    let g = grows h.numbered in (
      g,
      array_is old new l (form_at table element) e n g (subst (λ (o : Option ℕ). IsNumber old o (form_at table element)) found (h.at element))
          (ap (node_at new) (sym is) ∙ at),
    )

struct_is : (new : Nodes) (ps : Option Parts) (p n : ℕ) → IsNumberOfParts new (Some p) ps → node_at new (3, p, 0) ≡ Some n →
    IsNumber new (Some n) (option_map Struct ps)
struct_is new None p n h at = absurd h
struct_is new (Some ps) p n h at = ap (λ (o : Option ℕ). option_and_then (λ d. node_at new (3, d, 0)) o) h ∙ at

parts_kept : (old new : Nodes) → Grows old new → (p : ℕ) (ps : Option Parts) → IsNumberOfParts old (Some p) ps → IsNumberOfParts new (Some p) ps
parts_kept old new g p None h = absurd h
parts_kept old new g p (Some ps) h = number_of_parts-kept old new g ps p h

-- a struct whose members have a number
pub struct-numbered : (old mid new : Nodes) (table : FormTable) (types : List ℕ) (p n : ℕ) →
    Grows old mid × IsNumberOfParts mid (Some p) (parts_behind table NoPart types) →
    (AreNumbered mid → Grows mid new) → node_at new (3, p, 0) ≡ Some n →
    Grows old new × IsNumber new (Some n) (option_map Struct (parts_behind table NoPart types))
struct-numbered old mid new table types p n h grows at =
    let g = grows h.0.numbered in
    (grows-more old mid new h.0 g, struct_is new (parts_behind table NoPart types) p n (parts_kept mid new g p (parts_behind table NoPart types) h.1) at)

no_struct : (new : Nodes) (ps : Option Parts) → IsNumberOfParts new None ps → IsNumber new None (option_map Struct ps)
no_struct new None h = h
no_struct new (Some ps) h = absurd h

pub struct-missing : (old new : Nodes) (table : FormTable) (types : List ℕ) → Grows old new × IsNumberOfParts new None (parts_behind table NoPart types) →
    Grows old new × IsNumber new None (option_map Struct (parts_behind table NoPart types))
struct-missing old new table types h = (h.0, no_struct new (parts_behind table NoPart types) h.1)

-- the form of an array type and of a struct type
pub form_of-array : (insts : List Instruction) (table : FormTable) (i : Instruction) (o element len : ℕ) → o ≡ opcode i → o ≡ op.TYPE_ARRAY →
    element ≡ slice_index i.words 2 →
    len ≡ slice_index i.words 3 → option_map (Array (length_at insts len)) (form_at table element) ≡ form_of insts table i
form_of-array insts table i o element len e is el le =
    ap (λ (n : ℕ). option_map (Array (length_at insts n)) (form_at table element)) le
    ∙ ap (λ (n : ℕ). option_map (Array (length_at insts (slice_index i.words 3))) (form_at table n)) el
    ∙ ap (λ (n : ℕ). form_by insts table n i.words) (sym is ∙ e)

pub form_of-struct : (insts : List Instruction) (table : FormTable) (i : Instruction) (o : ℕ) (types : List ℕ) → o ≡ opcode i → o ≡ op.TYPE_STRUCT →
    types ≡ drop 2 i.words →
    option_map Struct (parts_behind table NoPart types) ≡ form_of insts table i
form_of-struct insts table i o types e is ts =
    ap (λ (ws : List ℕ). option_map Struct (parts_behind table NoPart ws)) ts ∙ ap (λ (n : ℕ). form_by insts table n i.words) (sym is ∙ e)

-- induction on the entries in front
form_at-push : (table : FormTable) (t : ℕ) (f : Form) (u : ℕ) → form_at (table ++ (t, f) ∷ []) u ≡ option_or (form_at table u) (cond (nat_eq u t) (Some f) None)
form_at-push [] t f u = refl
form_at-push (e ∷ es) t f u = cons (nat_eq u e.0) e.1 (form_at (es ++ (t, f) ∷ []) u) (form_at es u) (cond (nat_eq u t) (Some f) None) (form_at-push es t f u)
  where
    cons : (b : Bool) (g : Form) (x y z : Option Form) → x ≡ option_or y z → cond b (Some g) x ≡ option_or (cond b (Some g) y) z
    cons true g x y z e = refl
    cons false g x y z e = e

turned : (t u : ℕ) → (t == u) ≡ nat_eq u t
turned t u = grind (arith, nat_tests)

put_is : (nodes : Nodes) (a : Option ℕ) (b : Option Form) (n : ℕ) (g : Form) (test : Bool) → IsNumber nodes a b → number_of (node_at nodes) g ≡ Some n →
    IsNumber nodes (option_or a (cond test (Some n) None)) (option_or b (cond test (Some g) None))
put_is nodes None None n g true h is = is
put_is nodes None None n g false h is = h
put_is nodes (Some m) (Some f) n g test h is = h
put_is nodes None (Some f) n g test h is = absurd h
put_is nodes (Some m) None n g test h is = absurd h

put_some : (nodes : Nodes) (old new : BTreeMap ℕ ℕ) (table : FormTable) (t n : ℕ) (f : Option Form) → HasNumbers nodes old table → IsNumber nodes (Some n) f →
    ((u : ℕ) → get nat_cmp new u ≡ option_or (get nat_cmp old u) (cond (t == u) (Some n) None)) → HasNumbers nodes new (with_form table t f)
put_some nodes old new table t n None h is put = absurd is
put_some nodes old new table t n (Some g) h is put =
    record {
      numbered = h.numbered;
      at = λ u.
          subst (λ (o : Option ℕ). IsNumber nodes o (form_at (table ++ (t, g) ∷ []) u))
          (sym (put u ∙ ap (λ (b : Bool). option_or (get nat_cmp old u) (cond b (Some n) None)) (turned t u)))
          (subst (IsNumber nodes (option_or (get nat_cmp old u) (cond (nat_eq u t) (Some n) None))) (sym (form_at-push table t g u))
          (put_is nodes (get nat_cmp old u) (form_at table u) n g (nat_eq u t) (h.at u) is));
    }

put_none : (nodes : Nodes) (numbers : BTreeMap ℕ ℕ) (table : FormTable) (t : ℕ) (f : Option Form) → HasNumbers nodes numbers table → IsNumber nodes None f →
    HasNumbers nodes numbers (with_form table t f)
put_none nodes numbers table t None h is = h
put_none nodes numbers table t (Some g) h is = absurd is

-- one type more
pub numbers-put : (before nodes : Nodes) (old new : BTreeMap ℕ ℕ) (table : FormTable) (t n : ℕ) (f : Option Form) → HasNumbers before old table →
    Grows before nodes × IsNumber nodes (Some n) f →
    ((u : ℕ) → get nat_cmp new u ≡ option_or (get nat_cmp old u) (cond (t == u) (Some n) None)) → HasNumbers nodes new (with_form table t f)
numbers-put before nodes old new table t n f h is put = put_some nodes old new table t n f (HasNumbers-kept before nodes old table is.0 h) is.1 put

pub numbers-stay : (before nodes : Nodes) (numbers : BTreeMap ℕ ℕ) (table : FormTable) (t : ℕ) (f : Option Form) → HasNumbers before numbers table →
    Grows before nodes × IsNumber nodes None f →
    HasNumbers nodes numbers (with_form table t f)
numbers-stay before nodes numbers table t f h is = put_none nodes numbers table t f (HasNumbers-kept before nodes numbers table is.0 h) is.1

-- so many instructions have been looked at, and the rest makes the whole
pub record AreTyped (nodes : Nodes) (numbers : BTreeMap ℕ ℕ) (insts : List Instruction) (k : ℕ) : Type 0 where
  pub table : FormTable
  pub has : HasNumbers nodes numbers table
  pub whole : forms_behind insts table (drop k insts) ≡ forms insts

pub typed-none : (nodes : Nodes) (numbers : BTreeMap ℕ ℕ) (insts : List Instruction) → AreNumbered nodes → ((t : ℕ) → get nat_cmp numbers t ≡ None) →
    AreTyped nodes numbers insts 0
unfolding forms
typed-none nodes numbers insts h none =
    record { table = []; has = record { numbered = h; at = λ t. subst (λ (o : Option ℕ). IsNumber nodes o None) (sym (none t)) tt }; whole = refl }

pub typed-more : (old new : Nodes) (numbers more : BTreeMap ℕ ℕ) (insts : List Instruction) (k : ℕ) (i : Instruction) → AreTyped old numbers insts k →
    k < length insts →
    slice_get insts k ≡ Some i →
    ((table : FormTable) → HasNumbers old numbers table → HasNumbers new more (with_form table (slice_index i.words 1) (form_of insts table i))) →
    AreTyped new more insts (k + 1)
typed-more old new numbers more insts k i h within at adds =
    record {
      table = with_form h.table (slice_index i.words 1) (form_of insts h.table i);
      has = adds h.table h.has;
      whole =
          ap (λ (j : Instruction). forms_behind insts h.table (j ∷ drop (k + 1) insts)) (sym (get_or_from_slice_get insts k i i at))
          ∙ ap (forms_behind insts h.table) (sym (drop_more insts k i within))
          ∙ h.whole;
    }

pub typed-all : (nodes : Nodes) (numbers : BTreeMap ℕ ℕ) (insts : List Instruction) (k : ℕ) → AreTyped nodes numbers insts k → length insts ≤ k →
    TellsMatches numbers insts
typed-all nodes numbers insts k h all =
    let whole : h.table ≡ forms insts = ap (forms_behind insts h.table) (sym (drop_all k insts all)) ∙ h.whole in
    let numbered = subst (HasNumbers nodes numbers) whole h.has in
    record { same = λ t u. same_number-forms nodes numbered.numbered _ _ _ _ (numbered.at t) (numbered.at u) }
