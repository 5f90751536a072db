-- In a module that breaks no rule of the third group a type has the form that its instruction says, by the forms of all types.
use Rattle.std.proofs.Common.{◌≡◌, ℕ, zero, suc, ◌≤◌, ◌⊎◌, inl, inr, Bool, true, false, cond, ◌==◌, ◌||◌, nat_eq, List, [], ◌∷◌, ◌++◌, length, take, drop}
use Rattle.std.proofs.Common.{slice_index, Option, Some, None, refl, sym, ap, subst, ◌∙◌, arith}
use Rattle.std.specs.List.{list_all, slice_get}
use Rattle.std.specs.Option.{option_and_then, option_map}
use Rattle.std.proofs.lemmas.Bool.{eqb-true, eq-eqb, and_parts, false_from_ne_true, false≢true}
use Rattle.spv_opcodes.specs.declared.op.TheConstants as op
use Rattle.spv_grammar.specs.Table.{row_of}
use Rattle.spv_module.specs.Code.{is_function}
use Rattle.spv_module.specs.Instruction.{Instruction, opcode}
use Rattle.spv_meaning.specs.Statements.{Statement}
use Rattle.spv_meaning.specs.Constants.{Table, Meaning}
use Rattle.spv_ids.specs.Ids.{defines, is_defined, is_defined_before}
use Rattle.spv_typing.specs.Kinds.{is_one_of, is_array, is_struct, is_outside, element, length_id, members}
use Rattle.spv_declarations.specs.Laws.{IsUnbroken}
use Rattle.spv_declarations.specs.Declarations.{declared_before, says, entry}
use Rattle.spv_declarations.specs.Sound.{AreInstructions, Unbroken, IsBefore, table_before}
use Rattle.spv_declarations.proofs.Defining.{entry-by, entry-gives}
use Rattle.spv_declarations.proofs.Functions.{front_of, before_front}
use Rattle.spv_declarations.proofs.Meanings.{DefinedAt, defined_at}
use Rattle.spv_declarations.proofs.Modules.{unbroken}
use Rattle.spv_declarations.proofs.Sites.{site-of, index-on, word-is, words-is, opcode-is}
use Rattle.spv_declarations.proofs.SoundTypes.{element-known, struct-known}
use Rattle.spv_declarations.proofs.Tables.{take-found, defined-more, gives_new, defines_result, not_defined, not_defined_here, stays-defined, unbroken-less}
use Rattle.spv_declarations.proofs.Tables.{up_to, zero_only}
use Rattle.spv_declarations.proofs.Whole.{take_all}
use Rattle.spv_composites.specs.Forms.{Form, Plain, Array, Struct, Parts, NoPart, Part, FormTable, form_at, parts_behind, length_at, plain_types, form_by}
use Rattle.spv_composites.specs.Forms.{form_of, with_form, forms_behind, forms}
use Rattle.spv_composites.specs.Laws.{is_plain}

-- the forms behind the first k instructions
abbrev pub forms_before : List Instruction → (k : ℕ) → FormTable
forms_before insts k = forms_behind insts [] (take k insts)

append_none : (xs : List Instruction) → xs ++ [] ≡ xs
append_none [] = refl
append_none (x ∷ xs) = ap (λ (is : List Instruction). x ∷ is) (append_none xs)

-- induction on the instructions in front
behind_push : (insts : List Instruction) (table : FormTable) (xs : List Instruction) (i : Instruction) →
    forms_behind insts table (xs ++ i ∷ []) ≡ with_form (forms_behind insts table xs) (slice_index i.words 1) (form_of insts (forms_behind insts table xs) i)
behind_push insts table [] i = refl
behind_push insts table (x ∷ xs) i = behind_push insts (with_form table (slice_index x.words 1) (form_of insts table x)) xs i

forms_more : (insts : List Instruction) (k : ℕ) (i : Instruction) → slice_get insts k ≡ Some i →
    forms_before insts (suc k) ≡ with_form (forms_before insts k) (slice_index i.words 1) (form_of insts (forms_before insts k) i)
forms_more insts k i at = ap (forms_behind insts []) (take-found insts k (Some i) at) ∙ behind_push insts [] (take k insts) i

forms_past : (insts : List Instruction) (k : ℕ) → slice_get insts k ≡ None → forms_before insts (suc k) ≡ forms_before insts k
forms_past insts k at = ap (forms_behind insts []) (take-found insts k None at ∙ append_none (take k insts))

-- ---- an instruction with a form has its type as its result

of_first : (e : Option (ℕ × Meaning)) (r : ℕ) → option_map (λ (x : ℕ × Meaning). x.0) e ≡ Some r → (m : Meaning) × (e ≡ Some (r, m))
of_first None r h = cc
of_first (Some e) r h =
    let same : e.0 ≡ r = cc in
    (e.1, ap (λ (n : ℕ). Some (n, e.1)) same)

abbrev EntersIts : (all : List Statement) (table : Table) (i : Instruction) → Type 0
EntersIts all table i = option_map (λ (e : ℕ × Meaning). e.0) (entry all table i) ≡ Some (slice_index i.words 1)

enters_bool : (all : List Statement) (table : Table) (i : Instruction) → opcode i ≡ op.TYPE_BOOL → EntersIts all table i
enters_bool all table i e = ap (option_map (λ (e : ℕ × Meaning). e.0)) (entry-by all table i op.TYPE_BOOL e refl) ∙ ap (λ (n : ℕ). Some n) (index-on i.words 0)

enters_int : (all : List Statement) (table : Table) (i : Instruction) → opcode i ≡ op.TYPE_INT → EntersIts all table i
enters_int all table i e = ap (option_map (λ (e : ℕ × Meaning). e.0)) (entry-by all table i op.TYPE_INT e refl) ∙ ap (λ (n : ℕ). Some n) (index-on i.words 0)

enters_vector : (all : List Statement) (table : Table) (i : Instruction) → opcode i ≡ op.TYPE_VECTOR → EntersIts all table i
enters_vector all table i e = ap (option_map (λ (e : ℕ × Meaning). e.0)) (entry-by all table i op.TYPE_VECTOR e refl) ∙ ap (λ (n : ℕ). Some n)
    (index-on i.words 0)

enters_array : (all : List Statement) (table : Table) (i : Instruction) → opcode i ≡ op.TYPE_ARRAY → EntersIts all table i
enters_array all table i e = ap (option_map (λ (e : ℕ × Meaning). e.0)) (entry-by all table i op.TYPE_ARRAY e refl) ∙ ap (λ (n : ℕ). Some n)
    (index-on i.words 0)

enters_struct : (all : List Statement) (table : Table) (i : Instruction) → opcode i ≡ op.TYPE_STRUCT → EntersIts all table i
enters_struct all table i e = ap (option_map (λ (e : ℕ × Meaning). e.0)) (entry-by all table i op.TYPE_STRUCT e refl) ∙ ap (λ (n : ℕ). Some n)
    (index-on i.words 0)

-- what has a form is one of five
enters : (all : List Statement) (table : Table) (i : Instruction) (insts : List Instruction) (forms : FormTable) (f : Form) → form_of insts forms i ≡ Some f →
    EntersIts all table i
enters all table i insts forms f h =
    by (nat_eq (opcode i) op.TYPE_BOOL) (nat_eq (opcode i) op.TYPE_INT) (nat_eq (opcode i) op.TYPE_VECTOR) (opcode i == op.TYPE_ARRAY)
    (opcode i == op.TYPE_STRUCT) refl refl refl refl refl h
  where
    by : (a b c d e : Bool) → nat_eq (opcode i) op.TYPE_BOOL ≡ a → nat_eq (opcode i) op.TYPE_INT ≡ b → nat_eq (opcode i) op.TYPE_VECTOR ≡ c →
        (opcode i == op.TYPE_ARRAY) ≡ d → (opcode i == op.TYPE_STRUCT) ≡ e →
        cond (a || (b || (c || false))) (Some (Plain (slice_index i.words 1)))
        (cond d (option_map (Array (length_at insts (slice_index i.words 3))) (form_at forms (slice_index i.words 2)))
        (cond e (option_map Struct (parts_behind forms NoPart (drop 2 i.words))) None)) ≡ Some f → EntersIts all table i
    by true b c d e is is2 is3 is4 is5 h = enters_bool all table i (eqb-true (opcode i) op.TYPE_BOOL is)
    by false true c d e is is2 is3 is4 is5 h = enters_int all table i (eqb-true (opcode i) op.TYPE_INT is2)
    by false false true d e is is2 is3 is4 is5 h = enters_vector all table i (eqb-true (opcode i) op.TYPE_VECTOR is3)
    by false false false true e is is2 is3 is4 is5 h = enters_array all table i (eqb-true (opcode i) op.TYPE_ARRAY is4)
    by false false false false true is is2 is3 is4 is5 h = enters_struct all table i (eqb-true (opcode i) op.TYPE_STRUCT is5)
    by false false false false false is is2 is3 is4 is5 h = cc

-- ---- an id gets its form where it is first defined, and keeps it

push_other : (table : FormTable) (id r : ℕ) (f : Form) → nat_eq id r ≡ false → form_at (table ++ (r, f) ∷ []) id ≡ form_at table id
push_other [] id r f other = rw other refl
push_other (e ∷ es) id r f other = ap (λ (o : Option Form). cond (nat_eq id e.0) (Some e.1) o) (push_other es id r f other)

push_own : (table : FormTable) (r : ℕ) (f : Form) → form_at table r ≡ None → form_at (table ++ (r, f) ∷ []) r ≡ Some f
push_own [] r f new = rw (eq-eqb r r refl) refl
push_own (e ∷ es) r f new = own_cons (nat_eq r e.0) e.1 (form_at es r) (form_at (es ++ (r, f) ∷ []) r) f new (push_own es r f)
  where
    own_cons : (b : Bool) (g : Form) (old new : Option Form) (f : Form) → cond b (Some g) old ≡ None → (old ≡ None → new ≡ Some f) →
        cond b (Some g) new ≡ Some f
    own_cons true g old new f h k = cc
    own_cons false g old new f h k = k h

with_other : (table : FormTable) (id r : ℕ) (o : Option Form) → ((f : Form) → o ≡ Some f → nat_eq id r ≡ false) →
    form_at (with_form table r o) id ≡ form_at table id
with_other table id r None other = refl
with_other table id r (Some f) other = push_other table id r f (other f refl)

-- what the k-th gives a form is another id
abbrev FormsOther : List Instruction → (k id : ℕ) → Type 0
FormsOther insts k id =
    (i : Instruction) (f : Form) → slice_get insts k ≡ Some i → form_of insts (forms_before insts k) i ≡ Some f → nat_eq id (slice_index i.words 1) ≡ false

form_kept : (insts : List Instruction) (k id : ℕ) (found : Option Instruction) → slice_get insts k ≡ found → FormsOther insts k id →
    form_at (forms_before insts (suc k)) id ≡ form_at (forms_before insts k) id
form_kept insts k id None at other = ap (λ (table : FormTable). form_at table id) (forms_past insts k at)
form_kept insts k id (Some i) at other =
    ap (λ (table : FormTable). form_at table id) (forms_more insts k i at)
    ∙ with_other (forms_before insts k) id (slice_index i.words 1) (form_of insts (forms_before insts k) i) (λ f e. other i f at e)

-- the k-th defines the id that it gives a form
defines_its : (insts : List Instruction) → AreInstructions insts → (k : ℕ) (i : Instruction) (f : Form) → slice_get insts k ≡ Some i →
    form_of insts (forms_before insts k) i ≡ Some f → (id : ℕ) → defines id i ≡ nat_eq id (slice_index i.words 1)
defines_its insts whole k i f at h id =
    let table = table_before insts k in
    let m = of_first (entry (says insts) table i) (slice_index i.words 1) (enters (says insts) table i insts (forms_before insts k) f h) in
    defines_result i id (slice_index i.words 1) (entry-gives (says insts) table i (slice_index i.words 1) m.0 (whole k i at) m.1).result

-- which is a new one where it breaks no rule
forms_new : (insts : List Instruction) → AreInstructions insts → (k : ℕ) (i : Instruction) (f : Form) → slice_get insts k ≡ Some i → Unbroken insts (suc k) →
    form_of insts (forms_before insts k) i ≡ Some f → is_defined_before insts k (slice_index i.words 1) ≡ false
forms_new insts whole k i f at clean h =
    let table = table_before insts k in
    let m = of_first (entry (says insts) table i) (slice_index i.words 1) (enters (says insts) table i insts (forms_before insts k) f h) in
    gives_new insts k i (slice_index i.words 1) m.0 whole at (clean k i (omega arith) at) m.1

-- induction on the instructions
no_form : (insts : List Instruction) → AreInstructions insts → (k id : ℕ) → is_defined_before insts k id ≡ false → form_at (forms_before insts k) id ≡ None
no_form insts whole zero id h = refl
no_form insts whole (suc k) id h =
    form_kept insts k id (slice_get insts k) refl (λ i f at e. sym (defines_its insts whole k i f at e id) ∙ not_defined_here insts k id i at h)
    ∙ no_form insts whole k id (not_defined insts k id (slice_get insts k) refl h)

another : (insts : List Instruction) (k id r : ℕ) → is_defined_before insts k id ≡ true → is_defined_before insts k r ≡ false → nat_eq id r ≡ false
another insts k id r old new =
    false_from_ne_true (nat_eq id r) (λ same. false≢true (sym new ∙ (ap (is_defined_before insts k) (sym (eqb-true id r same)) ∙ old)))

-- induction on the instructions
keeps_form : (insts : List Instruction) → AreInstructions insts → (j k id : ℕ) → j ≤ k → Unbroken insts k → is_defined_before insts j id ≡ true →
    form_at (forms_before insts k) id ≡ form_at (forms_before insts j) id
keeps_form insts whole j zero id le clean h = ap (λ (n : ℕ). form_at (forms_before insts n) id) (sym (zero_only j le))
keeps_form insts whole j (suc k) id le clean h =
    at_either (up_to j k le) (λ less. keeps_form insts whole j k id less (unbroken-less insts k (suc k) (omega arith) clean) h)
  where
    at_either : (j ≤ k) ⊎ (j ≡ suc k) → ((j ≤ k) → form_at (forms_before insts k) id ≡ form_at (forms_before insts j) id) →
        form_at (forms_before insts (suc k)) id ≡ form_at (forms_before insts j) id
    at_either (inl less) g =
        form_kept insts k id (slice_get insts k) refl
        (λ i f at e. another insts k id (slice_index i.words 1) (stays-defined insts j k id less h) (forms_new insts whole k i f at clean e))
        ∙ g less
    at_either (inr same) g = ap (λ (n : ℕ). form_at (forms_before insts n) id) (sym same)

new_with : (table : FormTable) (id r : ℕ) (o : Option Form) → form_at table id ≡ None → ((f : Form) → o ≡ Some f → nat_eq id r ≡ true) →
    form_at (with_form table r o) id ≡ o
new_with table id r None new same = new
new_with table id r (Some f) new same =
    let is : id ≡ r = eqb-true id r (same f refl) in
    subst (λ (x : ℕ). form_at (table ++ (r, f) ∷ []) x ≡ Some f) (sym is) (push_own table r f (ap (form_at table) (sym is) ∙ new))

-- behind its definition an id has the form that this says
new_form : (insts : List Instruction) → AreInstructions insts → (k id : ℕ) (d : DefinedAt insts k id) →
    form_at (forms_before insts (suc d.place)) id ≡ form_of insts (forms_before insts d.place) d.inst
new_form insts whole k id d =
    ap (λ (table : FormTable). form_at table id) (forms_more insts d.place d.inst d.at)
    ∙ new_with (forms_before insts d.place) id (slice_index d.inst.words 1) (form_of insts (forms_before insts d.place) d.inst)
    (no_form insts whole d.place id d.new)
    (λ f e. sym (defines_its insts whole d.place d.inst f d.at e id) ∙ d.defines_it)

-- ---- the whole module

defined_outside : (insts : List Instruction) (id : ℕ) → is_outside insts id ≡ true → is_defined insts id ≡ true
defined_outside [] id h = cc
defined_outside (i ∷ is) id h = by_first (is_function i) (defines id i) (is_outside is id) (is_defined is id) h (defined_outside is id)
  where
    by_first : (function here outside behind : Bool) → cond function false (cond here true outside) ≡ true → (outside ≡ true → behind ≡ true) →
        (here || behind) ≡ true
    by_first true here outside behind h f = cc
    by_first false true outside behind h f = refl
    by_first false false outside behind h f = f h

-- no function has begun in front of the m-th instruction, where the type is declared
pub record Outside (insts : List Instruction) (t : ℕ) : Type 0 where
  pub whole : AreInstructions insts
  pub clean : (k : ℕ) → Unbroken insts k
  pub m : ℕ
  pub less : m ≤ length insts
  pub outside : (declared_before insts m).begun ≡ false
  pub before : IsBefore insts m t
  pub table : table_before insts m ≡ table_before insts (length insts)

pub outside_of : (insts : List Instruction) (t : ℕ) → IsUnbroken insts → is_outside insts t ≡ true → Outside insts t
outside_of insts t h o =
    let f = front_of insts (length insts) in
    record {
      whole = h.whole;
      clean = λ k. unbroken insts k h.unrefused;
      m = f.m;
      less = f.less;
      outside = f.outside;
      before = before_front insts (length insts) t f (ap (λ (is : List Instruction). is_defined is t) (take_all insts) ∙ defined_outside insts t o) o;
      table = sym f.same;
    }

forms_all : (insts : List Instruction) → forms insts ≡ forms_before insts (length insts)
unfolding forms
forms_all insts = ap (forms_behind insts []) (sym (take_all insts))

-- a form that is there at some place is there at the end
form_known : (insts : List Instruction) (t : ℕ) (o : Outside insts t) (k x : ℕ) → k ≤ length insts → is_defined_before insts k x ≡ true →
    form_at (forms insts) x ≡ form_at (forms_before insts k) x
form_known insts t o k x le h =
    ap (λ (table : FormTable). form_at table x) (forms_all insts) ∙ keeps_form insts o.whole k (length insts) x le (o.clean (length insts)) h

form_is : (insts : List Instruction) (t : ℕ) (o : Outside insts t) (d : DefinedAt insts o.m t) →
    form_at (forms insts) t ≡ form_of insts (forms_before insts d.place) d.inst
form_is insts t o d =
    let before = d.before in
    let less = o.less in
    form_known insts t o (suc d.place) t (omega arith) (defined-more insts d.place d.inst t d.at ∙ rw (d.new, d.defines_it) refl)
    ∙ new_form insts o.whole o.m t d

pub form_plain : (insts : List Instruction) (t : ℕ) → Outside insts t → is_plain insts t ≡ true → form_at (forms insts) t ≡ Some (Plain t)
form_plain insts t o plain =
    let d = defined_at insts o.m t o.before in
    let words = d.inst.words in
    let table = forms_before insts d.place in
    let given : form_of insts table d.inst ≡ Some (Plain (slice_index words 1)) =
    ap
    (λ (b : Bool). cond b (Some (Plain (slice_index words 1)))
    (cond (opcode d.inst == op.TYPE_ARRAY) (option_map (Array (length_at insts (slice_index words 3))) (form_at table (slice_index words 2)))
    (cond (opcode d.inst == op.TYPE_STRUCT) (option_map Struct (parts_behind table NoPart (drop 2 words))) None)))
    (ap (is_one_of plain_types) (sym (opcode-is insts o.m t d)) ∙ plain) in
    let same : t ≡ slice_index words 1 =
    eqb-true t (slice_index words 1) (sym (defines_its insts o.whole d.place d.inst (Plain (slice_index words 1)) d.at given t) ∙ d.defines_it) in
    form_is insts t o d ∙ given ∙ ap (λ (n : ℕ). Some (Plain n)) (sym same)

pub form_array : (insts : List Instruction) (t : ℕ) → Outside insts t → is_array insts t ≡ true →
    form_at (forms insts) t ≡ option_map (Array (length_at insts (length_id insts t))) (form_at (forms insts) (element insts t))
unfolding row_of
form_array insts t o array =
    let s = site-of insts o.whole o.m t op.TYPE_ARRAY (o.clean o.m) o.outside o.before array refl in
    let words = s.d.inst.words in
    let table = forms_before insts s.d.place in
    let before = s.d.before in
    let less = o.less in
    form_is insts t o s.d
    ∙ ap (λ (n : ℕ). form_by insts table n words) s.is_o
    ∙ ap (λ (n : ℕ). option_map (Array (length_at insts n)) (form_at table (slice_index words 2))) (word-is insts o.m t 3 s.d)
    ∙ ap (λ (f : Option Form). option_map (Array (length_at insts (length_id insts t))) f)
    (sym (form_known insts t o s.d.place (slice_index words 2) (omega arith) (element-known insts o.m t s)) ∙ ap (form_at (forms insts))
    (word-is insts o.m t 2 s.d))

part_same : (t u : Option Form) (front : Parts) (h k : Form → Option Parts) → t ≡ u → ((f : Form) → h f ≡ k f) → option_and_then h t ≡ option_and_then k u
part_same None None front h k e same = refl
part_same (Some f) (Some g) front h k e same =
    let is : f ≡ g = cc in
    ap h is ∙ same g
part_same None (Some g) front h k e same = cc
part_same (Some f) None front h k e same = cc

-- induction on the members
parts_same : (one other : FormTable) (p : ℕ → Bool) → ((x : ℕ) → p x ≡ true → form_at one x ≡ form_at other x) → (front : Parts) (ts : List ℕ) →
    list_all p ts ≡ true →
    parts_behind one front ts ≡ parts_behind other front ts
parts_same one other p same front [] h = refl
parts_same one other p same front (t ∷ ts) h =
    let both = and_parts (p t) (list_all p ts) h in
    part_same (form_at one t) (form_at other t) front (λ f. parts_behind one (Part front f) ts) (λ f. parts_behind other (Part front f) ts) (same t both.0)
    (λ f. parts_same one other p same (Part front f) ts both.1)

pub form_struct : (insts : List Instruction) (t : ℕ) → Outside insts t → is_struct insts t ≡ true →
    form_at (forms insts) t ≡ option_map Struct (parts_behind (forms insts) NoPart (members insts t))
unfolding row_of
form_struct insts t o struct =
    let s = site-of insts o.whole o.m t op.TYPE_STRUCT (o.clean o.m) o.outside o.before struct refl in
    let words = s.d.inst.words in
    let table = forms_before insts s.d.place in
    let before = s.d.before in
    let less = o.less in
    form_is insts t o s.d
    ∙ ap (λ (n : ℕ). form_by insts table n words) s.is_o
    ∙ ap (option_map Struct)
    (parts_same table (forms insts) (is_defined_before insts s.d.place) (λ x h. sym (form_known insts t o s.d.place x (omega arith) h)) NoPart (drop 2 words)
    (struct-known insts o.m t s)
    ∙ ap (parts_behind (forms insts) NoPart) (words-is insts o.m t 2 s.d))

none_of : (insts : List Instruction) (table : FormTable) (o : ℕ) (words : List ℕ) → is_one_of plain_types o ≡ false → (o == op.TYPE_ARRAY) ≡ false →
    (o == op.TYPE_STRUCT) ≡ false →
    form_by insts table o words ≡ None
none_of insts table o words plain array struct =
    ap
    (λ (b : Bool). cond b (Some (Plain (slice_index words 1)))
    (cond (o == op.TYPE_ARRAY) (option_map (Array (length_at insts (slice_index words 3))) (form_at table (slice_index words 2)))
    (cond (o == op.TYPE_STRUCT) (option_map Struct (parts_behind table NoPart (drop 2 words))) None))) plain
    ∙ ap
    (λ (b : Bool). cond b (option_map (Array (length_at insts (slice_index words 3))) (form_at table (slice_index words 2)))
    (cond (o == op.TYPE_STRUCT) (option_map Struct (parts_behind table NoPart (drop 2 words))) None)) array
    ∙ ap (λ (b : Bool). cond b (option_map Struct (parts_behind table NoPart (drop 2 words))) None) struct

pub form_none : (insts : List Instruction) (t : ℕ) → Outside insts t → is_plain insts t ≡ false → is_array insts t ≡ false → is_struct insts t ≡ false →
    form_at (forms insts) t ≡ None
form_none insts t o plain array struct =
    let d = defined_at insts o.m t o.before in
    let k = opcode-is insts o.m t d in
    form_is insts t o d
    ∙ none_of insts (forms_before insts d.place) (opcode d.inst) d.inst.words (ap (is_one_of plain_types) (sym k) ∙ plain)
    (ap (λ (n : ℕ). n == op.TYPE_ARRAY) (sym k) ∙ array)
    (ap (λ (n : ℕ). n == op.TYPE_STRUCT) (sym k) ∙ struct)
