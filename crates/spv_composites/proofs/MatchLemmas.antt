-- Types outside functions match as their instructions say.
use Rattle.std.proofs.Common.{◌≡◌, ℕ, suc, ◌+◌, Bool, true, false, ◌&&◌, ◌||◌, List, [], ◌∷◌, Option, Some, None, refl, sym, ap, subst, ◌∙◌, arith}
use Rattle.std.specs.Option.{option_and_then, option_map}
use Rattle.spv_module.specs.Instruction.{Instruction}
use Rattle.spv_typing.specs.Kinds.{is_array, is_struct, element, length_id, members}
use Rattle.spv_composites.specs.Forms.{Length, Form, Plain, Array, Struct, Parts, NoPart, Part, FormTable, form_at, parts_behind, length_at, same_length}
use Rattle.spv_composites.specs.Forms.{same_form, same_parts, same_forms, forms, match_types}
use Rattle.spv_composites.specs.Laws as laws
use Rattle.spv_composites.specs.Laws.{AreTypes, is_plain, match_each}
use Rattle.spv_composites.proofs.FormsStand.{Outside, outside_of, form_plain, form_array, form_struct, form_none}

and_false : (b : Bool) → false ≡ (b && false)
and_false true = refl
and_false false = refl

and_true : (b : Bool) → b ≡ (b && true)
and_true true = refl
and_true false = refl

and_assoc : (a b c : Bool) → ((a && b) && c) ≡ (a && (b && c))
and_assoc true b c = refl
and_assoc false b c = refl

-- two forms in place of two others
forms_as : (a b c d : Option Form) → a ≡ b → c ≡ d → same_forms a c ≡ same_forms b d
forms_as a b c d e f = ap (λ (o : Option Form). same_forms o c) e ∙ ap (same_forms b) f

arrays_same : (l m : Length) (f g : Option Form) → same_forms (option_map (Array l) f) (option_map (Array m) g) ≡ (same_length l m && same_forms f g)
arrays_same l m None None = and_false (same_length l m)
arrays_same l m None (Some g) = and_false (same_length l m)
arrays_same l m (Some f) None = and_false (same_length l m)
arrays_same l m (Some f) (Some g) = refl

abbrev both_parts : Option Parts → Option Parts → Bool
both_parts (Some fs) (Some gs) = same_parts fs gs
both_parts fs gs = false

structs_same : (fs gs : Option Parts) → same_forms (option_map Struct fs) (option_map Struct gs) ≡ both_parts fs gs
structs_same None None = refl
structs_same None (Some gs) = refl
structs_same (Some fs) None = refl
structs_same (Some fs) (Some gs) = refl

abbrev count_of : Parts → ℕ
count_of NoPart = 0
count_of (Part fs f) = suc (count_of fs)

count_differs : (fs gs : Parts) (n : ℕ) → count_of gs ≡ count_of fs + suc n → same_parts fs gs ≡ false
count_differs NoPart NoPart n e = absurd (omega arith)
count_differs NoPart (Part gs g) n e = refl
count_differs (Part fs f) NoPart n e = absurd (omega arith)
count_differs (Part fs f) (Part gs g) n e = ap (λ (b : Bool). b && same_form f g) (count_differs fs gs n (omega arith))

count_differs_turned : (fs gs : Parts) (n : ℕ) → count_of fs ≡ count_of gs + suc n → same_parts fs gs ≡ false
count_differs_turned NoPart NoPart n e = absurd (omega arith)
count_differs_turned NoPart (Part gs g) n e = refl
count_differs_turned (Part fs f) NoPart n e = refl
count_differs_turned (Part fs f) (Part gs g) n e = ap (λ (b : Bool). b && same_form f g) (count_differs_turned fs gs n (omega arith))

-- members behind others are not as many as these; induction on the members
longer : (table : FormTable) (fs gs : Parts) (ts : List ℕ) (n : ℕ) → count_of gs ≡ count_of fs + suc n → both_parts (Some fs) (parts_behind table gs ts) ≡ false
longer table fs gs [] n e = count_differs fs gs n e
longer table fs gs (t ∷ ts) n e = by (form_at table t) (λ g. longer table fs (Part gs g) ts (suc n) (omega arith))
  where
    by : (o : Option Form) → ((g : Form) → both_parts (Some fs) (parts_behind table (Part gs g) ts) ≡ false) →
        both_parts (Some fs) (option_and_then (λ g. parts_behind table (Part gs g) ts) o) ≡ false
    by None h = refl
    by (Some g) h = h g

longer_turned : (table : FormTable) (fs gs : Parts) (ts : List ℕ) (n : ℕ) → count_of fs ≡ count_of gs + suc n →
    both_parts (parts_behind table fs ts) (Some gs) ≡ false
longer_turned table fs gs [] n e = count_differs_turned fs gs n e
longer_turned table fs gs (t ∷ ts) n e = by (form_at table t) (λ f. longer_turned table (Part fs f) gs ts (suc n) (omega arith))
  where
    by : (o : Option Form) → ((f : Form) → both_parts (parts_behind table (Part fs f) ts) (Some gs) ≡ false) →
        both_parts (option_and_then (λ f. parts_behind table (Part fs f) ts) o) (Some gs) ≡ false
    by None h = refl
    by (Some f) h = h f

abbrev each : FormTable → (ts us : List ℕ) → Bool
each table [] [] = true
each table (t ∷ ts) (u ∷ us) = same_forms (form_at table t) (form_at table u) && each table ts us
each table [] (u ∷ us) = false
each table (t ∷ ts) [] = false

-- induction on the members
parts_same : (table : FormTable) (fs gs : Parts) (ts us : List ℕ) → count_of gs ≡ count_of fs →
    both_parts (parts_behind table fs ts) (parts_behind table gs us) ≡ (same_parts fs gs && each table ts us)
parts_same table fs gs [] [] e = and_true (same_parts fs gs)
parts_same table fs gs [] (u ∷ us) e = by (form_at table u) ∙ and_false (same_parts fs gs)
  where
    by : (o : Option Form) → both_parts (Some fs) (option_and_then (λ g. parts_behind table (Part gs g) us) o) ≡ false
    by None = refl
    by (Some g) = longer table fs (Part gs g) us 0 (omega arith)
parts_same table fs gs (t ∷ ts) [] e = by (form_at table t) ∙ and_false (same_parts fs gs)
  where
    by : (o : Option Form) → both_parts (option_and_then (λ f. parts_behind table (Part fs f) ts) o) (Some gs) ≡ false
    by None = refl
    by (Some f) = longer_turned table (Part fs f) gs ts 0 (omega arith)
parts_same table fs gs (t ∷ ts) (u ∷ us) e = by (form_at table t) (form_at table u) (λ f g. parts_same table (Part fs f) (Part gs g) ts us (omega arith))
  where
    none : (o : Option Parts) → both_parts o None ≡ false
    none None = refl
    none (Some ps) = refl

    by : (a b : Option Form) →
        ((f g : Form) → both_parts (parts_behind table (Part fs f) ts) (parts_behind table (Part gs g) us) ≡ (same_parts (Part fs f) (Part gs g) && each table ts us)) →
        both_parts (option_and_then (λ f. parts_behind table (Part fs f) ts) a) (option_and_then (λ g. parts_behind table (Part gs g) us) b) ≡
        (same_parts fs gs && (same_forms a b && each table ts us))
    by None b h = and_false (same_parts fs gs)
    by (Some f) None h = none (parts_behind table (Part fs f) ts) ∙ and_false (same_parts fs gs)
    by (Some f) (Some g) h = h f g ∙ and_assoc (same_parts fs gs) (same_form f g) (each table ts us)

-- induction on the members
each_is : (insts : List Instruction) (ts us : List ℕ) → each (forms insts) ts us ≡ match_each insts ts us
each_is insts [] [] = refl
each_is insts [] (u ∷ us) = refl
each_is insts (t ∷ ts) [] = refl
each_is insts (t ∷ ts) (u ∷ us) = ap (λ (b : Bool). match_types insts t u && b) (each_is insts ts us)

pub plains_match : laws.PlainsMatch
plains_match insts t u h p q =
    let a = outside_of insts t h.unbroken h.one in
    let b = outside_of insts u h.unbroken h.other in
    forms_as (form_at (forms insts) t) (Some (Plain t)) (form_at (forms insts) u) (Some (Plain u)) (form_plain insts t a p) (form_plain insts u b q)

pub arrays_match : laws.ArraysMatch
arrays_match insts t u h p q =
    let a = outside_of insts t h.unbroken h.one in
    let b = outside_of insts u h.unbroken h.other in
    let l = length_at insts (length_id insts t) in
    let m = length_at insts (length_id insts u) in
    let f = form_at (forms insts) (element insts t) in
    let g = form_at (forms insts) (element insts u) in
    forms_as (form_at (forms insts) t) (option_map (Array l) f) (form_at (forms insts) u) (option_map (Array m) g) (form_array insts t a p)
    (form_array insts u b q)
    ∙ arrays_same l m f g

pub structs_match : laws.StructsMatch
structs_match insts t u h p q =
    let a = outside_of insts t h.unbroken h.one in
    let b = outside_of insts u h.unbroken h.other in
    let ts = members insts t in
    let us = members insts u in
    let fs = parts_behind (forms insts) NoPart ts in
    let gs = parts_behind (forms insts) NoPart us in
    forms_as (form_at (forms insts) t) (option_map Struct fs) (form_at (forms insts) u) (option_map Struct gs) (form_struct insts t a p)
    (form_struct insts u b q)
    ∙ structs_same fs gs
    ∙ parts_same (forms insts) NoPart NoPart ts us refl
    ∙ each_is insts ts us

-- a type of a form is of the form's kind
abbrev HasKind : Option Form → (plain array struct : Bool) → Type 0
HasKind None p a s = Unit {0}
HasKind (Some (Plain t)) p a s = p ≡ true
HasKind (Some (Array l f)) p a s = a ≡ true
HasKind (Some (Struct fs)) p a s = s ≡ true

array_kind : (l : Length) (f : Option Form) (p a s : Bool) → a ≡ true → HasKind (option_map (Array l) f) p a s
array_kind l None p a s e = tt
array_kind l (Some f) p a s e = e

struct_kind : (fs : Option Parts) (p a s : Bool) → s ≡ true → HasKind (option_map Struct fs) p a s
struct_kind None p a s e = tt
struct_kind (Some fs) p a s e = e

has_kind : (insts : List Instruction) (t : ℕ) → Outside insts t → HasKind (form_at (forms insts) t) (is_plain insts t) (is_array insts t) (is_struct insts t)
has_kind insts t o = by (is_plain insts t) (is_array insts t) (is_struct insts t) refl refl refl
  where
    by : (p a s : Bool) → is_plain insts t ≡ p → is_array insts t ≡ a → is_struct insts t ≡ s →
        HasKind (form_at (forms insts) t) (is_plain insts t) (is_array insts t) (is_struct insts t)
    by true a s p_is a_is s_is =
        subst (λ (f : Option Form). HasKind f (is_plain insts t) (is_array insts t) (is_struct insts t)) (sym (form_plain insts t o p_is)) p_is
    by false true s p_is a_is s_is =
        subst (λ (f : Option Form). HasKind f (is_plain insts t) (is_array insts t) (is_struct insts t)) (sym (form_array insts t o a_is))
        (array_kind (length_at insts (length_id insts t)) (form_at (forms insts) (element insts t)) (is_plain insts t) (is_array insts t)
        (is_struct insts t) a_is)
    by false false true p_is a_is s_is =
        subst (λ (f : Option Form). HasKind f (is_plain insts t) (is_array insts t) (is_struct insts t)) (sym (form_struct insts t o s_is))
        (struct_kind (parts_behind (forms insts) NoPart (members insts t)) (is_plain insts t) (is_array insts t) (is_struct insts t) s_is)
    by false false false p_is a_is s_is =
        subst (λ (f : Option Form). HasKind f (is_plain insts t) (is_array insts t) (is_struct insts t)) (sym (form_none insts t o p_is a_is s_is)) tt

or_true : (a b : Bool) → b ≡ true → (a || b) ≡ true
or_true true b e = refl
or_true false b e = e

alike : (f g : Option Form) (p a s q b r : Bool) → HasKind f p a s → HasKind g q b r → same_forms f g ≡ true → ((p && q) || ((a && b) || (s && r))) ≡ true
alike None g p a s q b r x y e = cc
alike (Some f) None p a s q b r x y e = cc
alike (Some (Plain t)) (Some (Plain u)) p a s q b r x y e = rw (x, y) refl
alike (Some (Plain t)) (Some (Array m g)) p a s q b r x y e = cc
alike (Some (Plain t)) (Some (Struct gs)) p a s q b r x y e = cc
alike (Some (Array l f)) (Some (Plain u)) p a s q b r x y e = cc
alike (Some (Array l f)) (Some (Array m g)) p a s q b r x y e = or_true (p && q) ((a && b) || (s && r)) (rw (x, y) refl)
alike (Some (Array l f)) (Some (Struct gs)) p a s q b r x y e = cc
alike (Some (Struct fs)) (Some (Plain u)) p a s q b r x y e = cc
alike (Some (Struct fs)) (Some (Array m g)) p a s q b r x y e = cc
alike (Some (Struct fs)) (Some (Struct gs)) p a s q b r x y e = or_true (p && q) ((a && b) || (s && r)) (or_true (a && b) (s && r) (rw (x, y) refl))

pub others_differ : laws.OthersDiffer
others_differ insts t u h e =
    let a = outside_of insts t h.unbroken h.one in
    let b = outside_of insts u h.unbroken h.other in
    alike (form_at (forms insts) t) (form_at (forms insts) u) (is_plain insts t) (is_array insts t) (is_struct insts t) (is_plain insts u) (is_array insts u)
    (is_struct insts u)
    (has_kind insts t a) (has_kind insts u b) e
