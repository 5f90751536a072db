-- What is left declares of ids that stay what the module declared: constants and types stand for the same, and the same constants are Specialised.
use Rattle.std.proofs.Common.{◌≡◌, ℕ, suc, Bool, true, false, cond, not, nat_eq, ◌==◌, ◌&&◌, ◌||◌, List, [], ◌∷◌, ◌++◌, filter, map, drop, Option, Some, None, refl, sym, ap, ap₂, subst, ◌∙◌, true≢false}
use Rattle.std.specs.Map.{lookup}
use Rattle.std.specs.List.{AllByRecursion, list_any, slice_index, zip}
use Rattle.std.specs.Option.{is_some, option_map}
use Rattle.std.proofs.lemmas.List.Folds.{list_any-append}
use Rattle.spv_opcodes.specs.declared.op.TheConstants as op
use Rattle.spv_opcodes.specs.declared.decoration.TheConstants as decoration
use Rattle.spv_opcodes.specs.declared.storage_class.TheConstants as storage_class
use Rattle.spv_grammar.specs.declared.kind.Role.{Role}
use Rattle.spv_grammar.specs.Roles.{is_defined_id, is_type_id, is_used_id}
use Rattle.spv_grammar.specs.Table.{row_of}
use Rattle.spv_module.specs.Code.{is_function}
use Rattle.spv_module.specs.Instruction.{Instruction, opcode, roles, word_with}
use Rattle.spv_meaning.specs.Computations.{Typed, computed}
use Rattle.spv_meaning.specs.Constants.{IsConstant, IsPointer, IsType, IsVariable, Meaning, Table, composed, decorated, defined, first_literal, given, length_in, meaning, member_decorated, members_of, pointer_in, type_in, typed_at, typed_in, with_entry, words_at, words_in}
use Rattle.spv_meaning.specs.Statements as states
use Rattle.spv_meaning.specs.Statements.{Statement, is_silent_opcode, said, words_of}
use Rattle.spv_meaning.specs.Types.{Array, Member, Members, RuntimeArray, Struct, Vector, zeros}
use Rattle.spv_ids.specs.Ids.{is_needed, words_with}
use Rattle.spv_typing.specs.Kinds.{is_one_of}
use Rattle.spv_declarations.specs.Declarations.{Declared, declare, declare_all, entry, entry_of, is_specialised, says}
use Rattle.spv_declarations.proofs.Declares.{specialised-result}
use Rattle.spv_declarations.proofs.Defining.{entry-gives}
use Rattle.spv_declarations.proofs.Parts.{first_typed, row_test}
use Rattle.spv_declarations.proofs.Tables.{defines_result}
use Rattle.spv_alike_uses.specs.Alike.{Stays}
use Rattle.spv_alike_uses.proofs.Lookups.{each, where_true}
use Rattle.spv_thinned.specs.Thinned.{IsThinned}
use Rattle.spv_thinned.proofs.Walk.{inst, walk}
use Rattle.spv_thinned.proofs.Definitions.{Fact, defines_none}
use Rattle.spv_thinned.proofs.Places.{no_function}
use Rattle.spv_thinned.proofs.ReadIds.{Reads, reads_what_stays, result_stays}
use Rattle.spv_thinned.proofs.Said.{same_decorations, same_members, st_of}

-- ---- tables behind one entry more

abbrev or_last : {A : Type 0} → Option A → Option A → Option A
or_last (Some x) last = Some x
or_last None last = last

lookup_behind : {A : Type 0} (id : ℕ) (xs : List (ℕ × A)) (e : ℕ × A) → lookup (nat_eq id) (xs ++ e ∷ []) ≡ or_last (lookup (nat_eq id) xs) (cond (nat_eq id e.0) (Some e.1) None)
lookup_behind id [] e = refl
lookup_behind id (x ∷ xs) e = by (nat_eq id x.0) (lookup_behind id xs e)
  where
    by : (b : Bool) → lookup (nat_eq id) (xs ++ e ∷ []) ≡ or_last (lookup (nat_eq id) xs) (cond (nat_eq id e.0) (Some e.1) None)
        → cond b (Some x.1) (lookup (nat_eq id) (xs ++ e ∷ [])) ≡ or_last (cond b (Some x.1) (lookup (nat_eq id) xs)) (cond (nat_eq id e.0) (Some e.1) None)
    by true h = refl
    by false h = h

or_none : {A : Type 0} (o : Option A) → or_last o None ≡ o
or_none (Some x) = refl
or_none None = refl

pub lookup_other : {A : Type 0} (id : ℕ) (xs : List (ℕ × A)) (e : ℕ × A) → nat_eq id e.0 ≡ false → lookup (nat_eq id) (xs ++ e ∷ []) ≡ lookup (nat_eq id) xs
lookup_other id xs e other =
    lookup_behind id xs e ∙ ap (λ (b : Bool). or_last (lookup (nat_eq id) xs) (cond b (Some e.1) None)) other ∙ or_none (lookup (nat_eq id) xs)

pub lookup_more : {A : Type 0} (id : ℕ) (xs ys : List (ℕ × A)) (e : ℕ × A) → lookup (nat_eq id) xs ≡ lookup (nat_eq id) ys
    → lookup (nat_eq id) (xs ++ e ∷ []) ≡ lookup (nat_eq id) (ys ++ e ∷ [])
lookup_more id xs ys e h =
    lookup_behind id xs e ∙ ap (λ o. or_last o (cond (nat_eq id e.0) (Some e.1) None)) h ∙ sym (lookup_behind id ys e)

or_nothing : (b : Bool) → (b || false) ≡ b
or_nothing true = refl
or_nothing false = refl

any_words : (P : ℕ → Type 0) (f g : ℕ → Bool) → ((id : ℕ) → P id → f id ≡ g id) → (parts : List (Role × ℕ))
    → AllByRecursion P (map (λ part. part.1) (filter (λ part. is_needed part.0) parts))
    → list_any f (map (λ part. part.1) (filter (λ part. is_used_id part.0) parts)) ≡ list_any g (map (λ part. part.1) (filter (λ part. is_used_id part.0) parts))
any_words P f g h [] all = refl
any_words P f g h (part ∷ parts) all = by (is_type_id part.0) (is_used_id part.0) all (any_words P f g h parts)
  where
    Rest : Type 0
    Rest = AllByRecursion P (map (λ part. part.1) (filter (λ part. is_needed part.0) parts))

    by : (t u : Bool)
        → AllByRecursion P (map (λ part. part.1) (cond (t || u) (part ∷ filter (λ part. is_needed part.0) parts) (filter (λ part. is_needed part.0) parts)))
        → (AllByRecursion P (map (λ part. part.1) (filter (λ part. is_needed part.0) parts))
        → list_any f (map (λ part. part.1) (filter (λ part. is_used_id part.0) parts)) ≡ list_any g (map (λ part. part.1) (filter (λ part. is_used_id part.0) parts)))
        → list_any f (map (λ part. part.1) (cond u (part ∷ filter (λ part. is_used_id part.0) parts) (filter (λ part. is_used_id part.0) parts)))
        ≡ list_any g (map (λ part. part.1) (cond u (part ∷ filter (λ part. is_used_id part.0) parts) (filter (λ part. is_used_id part.0) parts)))
    by true true all more = ap₂ (λ (a b : Bool). a || b) (h part.1 all.0) (more all.1)
    by false true all more = ap₂ (λ (a b : Bool). a || b) (h part.1 all.0) (more all.1)
    by true false all more = more all.1
    by false false all more = more all

-- ---- what a statement defines

module _ (S : ℕ → Type 0) (all all2 : List Statement) (decorations : (id k : ℕ) → S id → decorated all2 id k ≡ decorated all id k)
    (members : (id n k : ℕ) → S id → member_decorated all2 id n k ≡ member_decorated all id n k)
    (table table2 : Table) (agree : (id : ℕ) → S id → meaning table2 id ≡ meaning table id) where
  -- by induction on the members
  same_members_of : (id n : ℕ) (ts : List ℕ) → S id → AllByRecursion S ts → members_of all2 table2 id n ts ≡ members_of all table id n ts
  same_members_of id n [] s ss = refl
  same_members_of id n (t ∷ ts) s ss = λ k.
      Member (first_literal (members id n decoration.OFFSET s k)) (is_some (members id n decoration.VOLATILE s k)) (type_in (agree t ss.0 k))
      (same_members_of id (suc n) ts s ss.1 k)

  same_composed : (ids : List ℕ) → AllByRecursion S ids → composed table2 ids ≡ composed table ids
  same_composed [] ss = refl
  same_composed (id ∷ ids) ss = λ k. words_in (agree id ss.0 k) ++ same_composed ids ss.1 k

  same_operands : (ids : List ℕ) → AllByRecursion S ids → map (typed_at table2) ids ≡ map (typed_at table) ids
  same_operands [] ss = refl
  same_operands (id ∷ ids) ss = λ k. typed_in (agree id ss.0 k) ∷ same_operands ids ss.1 k

  same_variable : (t r class : ℕ) (ids : List ℕ) → S t → AllByRecursion S ids
      → defined all2 [] table2 (states.Variable t r class ids) ≡ defined all [] table (states.Variable t r class ids)
  same_variable t r class [] s ss = λ k.
      option_map (λ m. (r, m)) (cond (class == storage_class.FUNCTION) None
      (Some (IsVariable class (pointer_in (agree t s k)).1 (zeros (pointer_in (agree t s k)).1))))
  same_variable t r class (id ∷ ids) s ss = λ k.
      option_map (λ m. (r, m)) (cond (class == storage_class.FUNCTION) None
      (Some (IsVariable class (pointer_in (agree t s k)).1 (words_in (agree id ss.0 k)))))

  same_defined : (st : Statement) → Reads S st → defined all2 [] table2 st ≡ defined all [] table st
  same_defined (states.TypeVector r c n) s = λ k. Some (r, IsType (Vector n (type_in (agree c s k))))
  same_defined (states.TypeArray r e l) s = λ k.
      Some (r, IsType (Array (first_literal (decorations r decoration.ARRAY_STRIDE s.0 k)) (length_in (agree l s.2 k)) (type_in (agree e s.1 k))))
  same_defined (states.TypeRuntimeArray r e) s = λ k.
      Some (r, IsType (RuntimeArray (first_literal (decorations r decoration.ARRAY_STRIDE s.0 k)) (type_in (agree e s.1 k))))
  same_defined (states.TypeStruct r ms) s = λ k. Some (r, IsType (Struct (same_members_of r 0 ms s.0 s.1 k)))
  same_defined (states.TypePointer r class t) s = λ k. Some (r, IsPointer class (type_in (agree t s k)))
  same_defined (states.Constant t r ws) s = λ k. Some (r, IsConstant (type_in (agree t s k)) ws)
  same_defined (states.ConstantComposite t r parts) s = λ k. Some (r, IsConstant (type_in (agree t s.0 k)) (same_composed parts s.1 k))
  same_defined (states.ConstantNull t r) s = λ k. Some (r, IsConstant (type_in (agree t s k)) (zeros (type_in (agree t s k))))
  same_defined (states.Undef t r) s = λ k. Some (r, IsConstant (type_in (agree t s k)) (zeros (type_in (agree t s k))))
  same_defined (states.SpecConstant t r ws) s = λ k.
      Some (r, IsConstant (type_in (agree t s.0 k)) (given (decorations r decoration.SPEC_ID s.1 k) [] (type_in (agree t s.0 k)) ws))
  same_defined (states.SpecConstantOp computation t r ids) s = λ k.
      Some (r, IsConstant (type_in (agree t s.0 k)) (computed computation (type_in (agree t s.0 k)) (same_operands ids s.1 k)))
  same_defined (states.Variable t r class ids) s = same_variable t r class ids s.0 s.1
  same_defined other s = refl

  same_entry_by : (i : Instruction) → Reads S (st_of (opcode i) (drop 1 i.words)) → entry all2 table2 i ≡ entry all table i
  same_entry_by i s = by (is_silent_opcode (opcode i))
    where
      by : (b : Bool) → entry_of all2 table2 (cond b [] (st_of (opcode i) (drop 1 i.words) ∷ [])) ≡ entry_of all table (cond b [] (st_of (opcode i) (drop 1 i.words) ∷ []))
      by true = refl
      by false = same_defined (st_of (opcode i) (drop 1 i.words)) s

-- ---- what is declared

-- the same is declared of ids that stay
pub record Agree (gone : ℕ → Bool) (old new : Declared) : Type 0 where
  pub begun : new.begun ≡ old.begun
  pub meanings : (id : ℕ) → Stays gone id → meaning new.table id ≡ meaning old.table id
  pub specialised : (id : ℕ) → Stays gone id → is_one_of new.specialised id ≡ is_one_of old.specialised id

specials_typed : (o : ℕ) → is_one_of (op.SPEC_CONSTANT_TRUE ∷ op.SPEC_CONSTANT_FALSE ∷ op.SPEC_CONSTANT ∷ []) o ≡ true → row_test first_typed (row_of o) ≡ true
unfolding row_of
specials_typed o h = each (λ o. row_test first_typed (row_of o)) (op.SPEC_CONSTANT_TRUE ∷ op.SPEC_CONSTANT_FALSE ∷ op.SPEC_CONSTANT ∷ []) refl o h

module _ (gone : ℕ → Bool) (keep : Instruction → Bool) (before after : List Instruction) (thin : IsThinned gone keep before after)
    (facts : AllByRecursion (Fact gone keep before) before) where
  abbrev F : Instruction → Type 0
  F i = Fact gone keep before i

  -- ---- what is dropped declares nothing that stays

  other_result : (i : Instruction) → F i → keep i ≡ false → (id r : ℕ) → Stays gone id → word_with is_defined_id i ≡ Some r → nat_eq id r ≡ false
  other_result i f e id r s h = sym (defines_result i id r h) ∙ defines_none gone keep before facts id s i f e

  dropped_meaning : (i : Instruction) → F i → keep i ≡ false → (old : Declared) (id : ℕ) → Stays gone id
      → meaning (declare (says before) old i).table id ≡ meaning old.table id
  dropped_meaning i f e old id s = by old.begun (entry (says before) old.table i) refl
    where
      by : (b : Bool) (o : Option (ℕ × Meaning)) → entry (says before) old.table i ≡ o
          → meaning (cond b old.table (with_entry old.table o)) id ≡ meaning old.table id
      by true o h = refl
      by false None h = refl
      by false (Some x) h =
          lookup_other id old.table x
          (other_result i f e id x.0 s (entry-gives (says before) old.table i x.0 x.1 f.whole h).result)

  dropped_specialised : (i : Instruction) → F i → keep i ≡ false → (old : Declared) (id : ℕ) → Stays gone id
      → is_one_of (declare (says before) old i).specialised id ≡ is_one_of old.specialised id
  dropped_specialised i f e old id s = by (not old.begun) (is_specialised (says before) old.specialised i) refl
    where
      by : (a b : Bool) → is_specialised (says before) old.specialised i ≡ b
          → is_one_of (cond (a && b) (old.specialised ++ slice_index i.words 2 ∷ []) old.specialised) id ≡ is_one_of old.specialised id
      by false b h = refl
      by true false h = refl
      by true true h =
          list_any-append (nat_eq id) old.specialised (slice_index i.words 2 ∷ [])
          ∙ ap (λ (b : Bool). is_one_of old.specialised id || (b || false))
          (other_result i f e id (slice_index i.words 2) s (specialised-result (says before) old.specialised i f.whole h))
          ∙ or_nothing (is_one_of old.specialised id)

  dropped_agree : (i : Instruction) → F i → keep i ≡ false → (old new : Declared) → Agree gone old new → Agree gone (declare (says before) old i) new
  dropped_agree i f e old new a = record {
    begun = a.begun ∙ sym (or_nothing old.begun) ∙ sym (ap (λ b. old.begun || b) (no_function gone keep before after thin facts i f e));
    meanings = λ id s. a.meanings id s ∙ sym (dropped_meaning i f e old id s);
    specialised = λ id s. a.specialised id s ∙ sym (dropped_specialised i f e old id s);
  }

  -- ---- what is kept declares the same

  pub same_entry : (i : Instruction) → F i → keep i ≡ true → (old new : Declared) → Agree gone old new
      → entry (says after) new.table i ≡ entry (says before) old.table i
  same_entry i f e old new a =
      same_entry_by (Stays gone) (says before) (says after)
      (λ id k s. same_decorations gone keep before after thin facts id s k) (λ id n k s. same_members gone keep before after thin facts id s n k)
      old.table new.table a.meanings i (reads_what_stays gone i f.whole (f.kept e) before f.operation)

  same_specialised : (i : Instruction) → F i → keep i ≡ true → (old new : Declared) → Agree gone old new
      → is_specialised (says after) new.specialised i ≡ is_specialised (says before) old.specialised i
  same_specialised i f e old new a =
      where_true (is_one_of (op.SPEC_CONSTANT_TRUE ∷ op.SPEC_CONSTANT_FALSE ∷ op.SPEC_CONSTANT ∷ []) (opcode i)) _ _ _ _
      (λ h. ap is_some (same_decorations gone keep before after thin facts (slice_index i.words 2) (result_stays gone i f.whole (f.kept e) (specials_typed (opcode i) h))
      decoration.SPEC_ID))
      (ap (λ (b : Bool). is_one_of (op.SPEC_CONSTANT_COMPOSITE ∷ op.SPEC_CONSTANT_OP ∷ []) (opcode i) && b)
      (any_words (Stays gone) (is_one_of new.specialised) (is_one_of old.specialised) a.specialised (zip (roles i) i.words) (f.kept e).used))

  with_same : (id : ℕ) (old new : Table) → meaning new id ≡ meaning old id → (o : Option (ℕ × Meaning)) → meaning (with_entry new o) id ≡ meaning (with_entry old o) id
  with_same id old new h None = h
  with_same id old new h (Some x) = lookup_more id new old x h

  kept_agree : (i : Instruction) → F i → keep i ≡ true → (old new : Declared) → Agree gone old new
      → Agree gone (declare (says before) old i) (declare (says after) new i)
  kept_agree i f e old new a = record {
    begun = ap (λ b. b || is_function i) a.begun;
    meanings = λ id s. tables id s old.begun new.begun a.begun;
    specialised = λ id s.
        ap₂ (λ (a b : Bool). is_one_of (cond (not a && b) (new.specialised ++ slice_index i.words 2 ∷ []) new.specialised) id) a.begun
        (same_specialised i f e old new a)
        ∙ specials id s (not old.begun && is_specialised (says before) old.specialised i);
  }
    where
      tables : (id : ℕ) → Stays gone id → (b c : Bool) → c ≡ b
          → meaning (cond c new.table (with_entry new.table (entry (says after) new.table i))) id
          ≡ meaning (cond b old.table (with_entry old.table (entry (says before) old.table i))) id
      tables id s true c g = ap (λ (c : Bool). meaning (cond c new.table (with_entry new.table (entry (says after) new.table i))) id) g ∙ a.meanings id s
      tables id s false c g =
          ap (λ (c : Bool). meaning (cond c new.table (with_entry new.table (entry (says after) new.table i))) id) g
          ∙ ap (λ o. meaning (with_entry new.table o) id) (same_entry i f e old new a)
          ∙ with_same id old.table new.table (a.meanings id s) (entry (says before) old.table i)

      specials : (id : ℕ) → Stays gone id → (b : Bool)
          → is_one_of (cond b (new.specialised ++ slice_index i.words 2 ∷ []) new.specialised) id
          ≡ is_one_of (cond b (old.specialised ++ slice_index i.words 2 ∷ []) old.specialised) id
      specials id s false = a.specialised id s
      specials id s true =
          list_any-append (nat_eq id) new.specialised (slice_index i.words 2 ∷ [])
          ∙ ap (λ (b : Bool). b || (nat_eq id (slice_index i.words 2) || false)) (a.specialised id s)
          ∙ sym (list_any-append (nat_eq id) old.specialised (slice_index i.words 2 ∷ []))

  -- ---- so the same is declared, here behind some instructions

  abbrev Same : List Instruction → List Instruction → Type 0
  Same is js = (old new : Declared) → Agree gone old new → Agree gone (declare_all (says before) old is) (declare_all (says after) new js)

  pub same_declared : (is js : List Instruction) → AllByRecursion F is → words_of js ≡ words_of (filter keep is) → Same is js
  same_declared =
      walk keep F Same (λ old new a. a)
      (λ i is js f e h old new a. h (declare (says before) old i) new (dropped_agree i f e old new a))
      (λ i j is js f e w h old new a.
      h (declare (says before) old i) (declare (says after) new j)
      (subst (λ ws. Agree gone (declare (says before) old i) (declare (says after) new (inst ws))) (sym w) (kept_agree i f e old new a)))
