-- Literals that lead from type to type by instructions lead so in the types themselves.
use Rattle.std.proofs.Common.{◌≡◌, ℕ, zero, suc, Bool, true, false, cond, ◌&&◌, nat_lt, List, [], ◌∷◌, slice_get, Option, Some, None, refl, sym, ap, subst, ◌∙◌, arith}
use Rattle.std.specs.List.{list_all}
use Rattle.std.proofs.lemmas.Bool.{and_parts, ltb-true}
use Rattle.spv_opcodes.specs.declared.op.TheConstants as op
use Rattle.spv_grammar.specs.Table.{row_of}
use Rattle.spv_module.specs.Instruction.{Instruction}
use Rattle.spv_meaning.specs.Constants.{Table, type_in, type_at, members_of}
use Rattle.spv_meaning.specs.Statements.{Statement}
use Rattle.spv_meaning.specs.Types.{DataType}
use Rattle.spv_ids.specs.Ids.{is_defined_before}
use Rattle.spv_typing.specs.Kinds.{is_vector, is_array, is_struct, component, component_count, element, members}
use Rattle.spv_typing.specs.Operations.{part_at, part_along, part_behind}
use Rattle.spv_declarations.specs.Declarations.{says, declared_before}
use Rattle.spv_declarations.specs.Sound.{AreInstructions, Unbroken, IsBefore, table_before}
use Rattle.spv_declarations.proofs.Sites.{site-of, word-is, words-is}
use Rattle.spv_declarations.proofs.SoundTypes.{struct-known, element-known}
use Rattle.spv_declarations.proofs.Tables.{stays-defined}
use Rattle.spv_folding.specs.Folding.{member_types}
use Rattle.spv_types.specs.declared.meaning.Kept.{Kept}
use Rattle.spv_types.specs.Declaring.{IsReady}
use Rattle.spv_types.proofs.CompositeLemmas.{next_sound, vector_of_scalars, scalar_unit}
use Rattle.spv_types.proofs.FormLemmas.{no_part}
use Rattle.spv_types.specs.Extracting.{LeadsTo}

-- ---- the types of parts are defined before

one_of_all : (p : ℕ → Bool) (xs : List ℕ) (j x : ℕ) → list_all p xs ≡ true → slice_get xs j ≡ Some x → p x ≡ true
one_of_all p [] j x h e = cc
one_of_all p (y ∷ ys) zero x h e = let same : y ≡ x = cc in ap p (sym same) ∙ (and_parts (p y) (list_all p ys) h).0
one_of_all p (y ∷ ys) (suc j) x h e = one_of_all p ys j x (and_parts (p y) (list_all p ys) h).1 e

pub member_before : (insts : List Instruction) → AreInstructions insts → (k t j m : ℕ) → Unbroken insts k → (declared_before insts k).begun ≡ false → IsBefore insts k t → is_struct insts t ≡ true → slice_get (members insts t) j ≡ Some m → IsBefore insts k m
unfolding row_of
member_before insts whole k t j m clean outside before s e =
    let site = site-of insts whole k t op.TYPE_STRUCT clean outside before s refl in
    let known : list_all (is_defined_before insts site.d.place) (members insts t) ≡ true = subst (λ (ms : List ℕ). list_all (is_defined_before insts site.d.place) ms ≡ true) (words-is insts k t 2 site.d) (struct-known insts k t site) in
    stays-defined insts site.d.place k m (omega (arith, site.d.before)) (one_of_all (is_defined_before insts site.d.place) (members insts t) j m known e)

pub element_before : (insts : List Instruction) → AreInstructions insts → (k t : ℕ) → Unbroken insts k → (declared_before insts k).begun ≡ false → IsBefore insts k t → is_array insts t ≡ true → IsBefore insts k (element insts t)
unfolding row_of
element_before insts whole k t clean outside before a =
    let site = site-of insts whole k t op.TYPE_ARRAY clean outside before a refl in
    let known : is_defined_before insts site.d.place (element insts t) ≡ true = subst (λ (n : ℕ). is_defined_before insts site.d.place n ≡ true) (word-is insts k t 2 site.d) (element-known insts k t site) in
    stays-defined insts site.d.place k (element insts t) (omega (arith, site.d.before)) known

-- ---- members

member-at : (all : List Statement) (table : Table) (id number : ℕ) (ms : List ℕ) (j m : ℕ) → slice_get ms j ≡ Some m → slice_get (member_types (members_of all table id number ms)) j ≡ Some (type_at table m)
member-at all table id number [] j m e = cc
member-at all table id number (x ∷ xs) zero m e = let same : x ≡ m = cc in ap (λ (y : ℕ). Some (type_at table y)) same
member-at all table id number (x ∷ xs) (suc j) m e = member-at all table id (suc number) xs j m e

-- ---- one literal

abbrev Leads : List Instruction → (k : ℕ) → (rest : List ℕ) → (u : ℕ) → Type 0
Leads insts k rest u = (m : ℕ) → IsBefore insts k m → part_along insts rest m ≡ Some u → LeadsTo (type_at (table_before insts k) u) (type_at (table_before insts k) m) rest

-- nothing behind a component
scalar_ends : (insts : List Instruction) (table : Table) (c u : ℕ) (rest : List ℕ) → ((l : ℕ) → part_at insts c l ≡ None) → part_along insts rest c ≡ Some u → (rest ≡ []) × (c ≡ u)
scalar_ends insts table c u [] none e = (refl, cc)
scalar_ends insts table c u (l ∷ ls) none e = let no : None ≡ Some u = sym (ap (λ (o : Option ℕ). part_behind (part_along insts ls) o) (none l)) ∙ e in cc

leads_step : (insts : List Instruction) (k : ℕ) (i : Instruction) (ks : List (ℕ × Kept)) → IsReady insts k i ks → (j t u : ℕ) (rest : List ℕ) → IsBefore insts k t → Leads insts k rest u →
    part_behind (part_along insts rest) (part_at insts t j) ≡ Some u → LeadsTo (type_at (table_before insts k) u) (type_at (table_before insts k) t) (j ∷ rest)
leads_step insts k i ks ready j t u rest before ih e = by_struct (is_struct insts t) refl e
  where
    in_member : (o : Option ℕ) → is_struct insts t ≡ true → slice_get (members insts t) j ≡ o → part_behind (part_along insts rest) o ≡ Some u → LeadsTo (type_at (table_before insts k) u) (type_at (table_before insts k) t) (j ∷ rest)
    in_member None s at e = cc
    in_member (Some m) s at e =
        let next = ready.next in
        let known = member_before insts next.instructions k t j m next.unbroken next.outside before s at in
        let is = (next_sound insts k i ks ready t before).struct s in
        subst (λ (v : DataType). LeadsTo (type_at (table_before insts k) u) v (j ∷ rest)) (sym (ap type_in is))
        (type_at (table_before insts k) m, (member-at (says insts) (table_before insts k) t 0 (members insts t) j m at, ih m known e))

    in_vector : (v : Bool) → is_vector insts t ≡ v → (w : Bool) → nat_lt j (component_count insts t) ≡ w → part_behind (part_along insts rest) (cond (v && w) (Some (component insts t)) None) ≡ Some u →
        LeadsTo (type_at (table_before insts k) u) (type_at (table_before insts k) t) (j ∷ rest)
    in_vector true v true w e =
        let next = ready.next in
        let of = vector_of_scalars insts next.instructions k t next.unbroken next.outside before v in
        let sound = next_sound insts k i ks ready (component insts t) of.known in
        let ends = scalar_ends insts (table_before insts k) (component insts t) u rest (λ l. no_part insts (table_before insts k) (component insts t) l sound of.kind) e in
        let is = (next_sound insts k i ks ready t before).vector v in
        subst (λ (x : DataType). LeadsTo (type_at (table_before insts k) u) x (j ∷ rest)) (sym (ap type_in is))
        (ltb-true j (component_count insts t) w, ((scalar_unit insts (table_before insts k) (component insts t) sound of.kind).single, (ap (type_at (table_before insts k)) ends.1, ends.0)))
    in_vector true v false w e = cc
    in_vector false v w x e = cc

    by_array : (b : Bool) → is_array insts t ≡ b → part_behind (part_along insts rest) (cond b (Some (element insts t)) (cond (is_vector insts t && nat_lt j (component_count insts t)) (Some (component insts t)) None)) ≡ Some u →
        LeadsTo (type_at (table_before insts k) u) (type_at (table_before insts k) t) (j ∷ rest)
    by_array true a e =
        let next = ready.next in
        let known = element_before insts next.instructions k t next.unbroken next.outside before a in
        let is = (next_sound insts k i ks ready t before).array a in
        subst (λ (v : DataType). LeadsTo (type_at (table_before insts k) u) v (j ∷ rest)) (sym (ap type_in is.1)) (ih (element insts t) known e)
    by_array false a e = in_vector (is_vector insts t) refl (nat_lt j (component_count insts t)) refl e

    by_struct : (b : Bool) → is_struct insts t ≡ b →
        part_behind (part_along insts rest) (cond b (slice_get (members insts t) j) (cond (is_array insts t) (Some (element insts t)) (cond (is_vector insts t && nat_lt j (component_count insts t)) (Some (component insts t)) None))) ≡ Some u →
        LeadsTo (type_at (table_before insts k) u) (type_at (table_before insts k) t) (j ∷ rest)
    by_struct true s e = in_member (slice_get (members insts t) j) s refl e
    by_struct false s e = by_array (is_array insts t) refl e

-- induction on the literals
pub leads : (insts : List Instruction) (k : ℕ) (i : Instruction) (ks : List (ℕ × Kept)) → IsReady insts k i ks → (literals : List ℕ) (t u : ℕ) → IsBefore insts k t → part_along insts literals t ≡ Some u →
    LeadsTo (type_at (table_before insts k) u) (type_at (table_before insts k) t) literals
leads insts k i ks ready [] t u before e = let same : t ≡ u = cc in ap (type_at (table_before insts k)) same
leads insts k i ks ready (j ∷ rest) t u before e = leads_step insts k i ks ready j t u rest before (λ m known f. leads insts k i ks ready rest m u known f) e
