-- What the instructions declare one after the other: the same but for the new id.
use Rattle.std.proofs.Common.{◌≡◌, ℕ, Bool, true, false, cond, not, ◌==◌, ◌&&◌, ◌||◌, List, [], ◌∷◌, ◌++◌, map, nat_eq, Option, Some, None, refl, sym, ap, ap₂, subst, ◌∙◌}
use Rattle.std.specs.List.{AllByRecursion, filter, slice_index, zip}
use Rattle.std.specs.Option.{is_some, option_map_or}
use Rattle.spv_opcodes.specs.declared.op.TheConstants as op
use Rattle.spv_opcodes.specs.declared.decoration.TheConstants as decoration
use Rattle.spv_grammar.specs.declared.kind.Role.{Role}
use Rattle.spv_grammar.specs.Roles.{is_type_id, is_used_id}
use Rattle.spv_module.specs.Code.{is_function}
use Rattle.spv_module.specs.Instruction.{Instruction, opcode, roles}
use Rattle.spv_meaning.specs.Constants.{Meaning, Table, meaning, with_entry}
use Rattle.spv_meaning.specs.Statements.{Statement}
use Rattle.spv_ids.specs.Ids.{is_needed, words_with}
use Rattle.spv_typing.specs.Kinds.{is_one_of}
use Rattle.spv_declarations.specs.Declarations.{Declared, declare, declare_all, entry, is_specialised, nothing_declared, says}
use Rattle.spv_declarations.proofs.Declares.{specialised-result}
use Rattle.spv_declarations.proofs.Defining.{entry-gives}
use Rattle.spv_added.specs.Added.{starts_function}
use Rattle.spv_added.proofs.Walk.{Adding, FactOf, In, inst}
use Rattle.spv_added.proofs.Lists.{any_on, lookup_both, lookup_other}
use Rattle.spv_added.proofs.Places.{no_function}
use Rattle.spv_added.proofs.Reading.{same_entry}
use Rattle.spv_added.proofs.Said.{same_decorations}

-- ---- tables

push_same : (id : ℕ) (u v : Table) (o : Option (ℕ × Meaning)) → meaning v id ≡ meaning u id → meaning (with_entry v o) id ≡ meaning (with_entry u o) id
push_same id u v None h = h
push_same id u v (Some e) h = lookup_both id u v e h

push_other : (id : ℕ) (u : Table) (o : Option (ℕ × Meaning)) → ((r : ℕ) (m : Meaning) → o ≡ Some (r, m) → nat_eq id r ≡ false)
    → meaning (with_entry u o) id ≡ meaning u id
push_other id u None h = refl
push_other id u (Some e) h = lookup_other id u e (h e.0 e.1 refl)

-- ---- lists of ids

any_push : (id : ℕ) (xs : List ℕ) (y : ℕ) → is_one_of (xs ++ y ∷ []) id ≡ (is_one_of xs id || nat_eq id y)
any_push id [] y = by (nat_eq id y)
  where
    by : (b : Bool) → (b || false) ≡ b
    by true = refl
    by false = refl
any_push id (x ∷ xs) y = ap (λ b. nat_eq id x || b) (any_push id xs y) ∙ by (nat_eq id x)
  where
    by : (b : Bool) → (b || (is_one_of xs id || nat_eq id y)) ≡ ((b || is_one_of xs id) || nat_eq id y)
    by true = refl
    by false = refl

-- operands are used
operands_used : (P : ℕ → Type 0) (rs : List Role) (ws : List ℕ)
    → AllByRecursion P (map (λ part. part.1) (filter (λ part. is_needed part.0) (zip rs ws)))
    → AllByRecursion P (map (λ part. part.1) (filter (λ part. is_used_id part.0) (zip rs ws)))
operands_used P [] ws all = tt
operands_used P (r ∷ rs) [] all = tt
operands_used P (r ∷ rs) (w ∷ ws) all = by (is_type_id r) (is_used_id r) all (operands_used P rs ws)
  where
    needed : List (Role × ℕ)
    needed = filter (λ part. is_needed part.0) (zip rs ws)

    used : List (Role × ℕ)
    used = filter (λ part. is_used_id part.0) (zip rs ws)

    by : (a b : Bool) → AllByRecursion P (map (λ part. part.1) (cond (a || b) ((r, w) ∷ needed) needed))
        → (AllByRecursion P (map (λ part. part.1) needed) → AllByRecursion P (map (λ part. part.1) used))
        → AllByRecursion P (map (λ part. part.1) (cond b ((r, w) ∷ used) used))
    by true true all more = (all.0, more all.1)
    by true false all more = more all.1
    by false true all more = (all.0, more all.1)
    by false false all more = more all

-- ---- both modules

-- the same is declared of some ids
pub record AgreeOn (P : ℕ → Type 0) (d e : Declared) : Type 0 where
  pub begun : e.begun ≡ d.begun
  pub table : (id : ℕ) → P id → meaning e.table id ≡ meaning d.table id
  pub specialised : (id : ℕ) → P id → is_one_of e.specialised id ≡ is_one_of d.specialised id

-- of all but the new one
abbrev pub Agrees : (r : ℕ) (d e : Declared) → Type 0
Agrees r d e = AgreeOn (λ id. (id == r) ≡ false) d e

module _ (t : Adding) where
  abbrev Agree : Declared → Declared → Type 0
  Agree d e = Agrees t.r d e

  -- ---- an instruction of both declares the same

  same_specialised : (d e : Declared) → Agree d e → (i : Instruction) → FactOf t i
      → is_specialised (says t.after) e.specialised i ≡ is_specialised (says t.before) d.specialised i
  same_specialised d e a i f =
      ap₂ (λ (x y : Bool).
      cond (is_one_of (op.SPEC_CONSTANT_TRUE ∷ op.SPEC_CONSTANT_FALSE ∷ op.SPEC_CONSTANT ∷ []) (opcode i)) x
      (is_one_of (op.SPEC_CONSTANT_COMPOSITE ∷ op.SPEC_CONSTANT_OP ∷ []) (opcode i) && y))
      (ap is_some (same_decorations t (slice_index i.words 2) decoration.SPEC_ID))
      (any_on (In t) (is_one_of e.specialised) (is_one_of d.specialised) a.specialised (words_with is_used_id i)
      (operands_used (In t) (roles i) i.words f.free.used))

  declares_same : (d e : Declared) → Agree d e → (i : Instruction) → FactOf t i → Agree (declare (says t.before) d i) (declare (says t.after) e i)
  declares_same d e a i f = record {
    begun = ap (λ (b : Bool). b || is_function i) a.begun;
    table = λ id s. tables id d.begun e.begun a.begun (a.table id s) (push_same id d.table e.table (entry (says t.before) d.table i) (a.table id s));
    specialised = λ id s.
        ap₂ (λ (b c : Bool). is_one_of (cond (not b && c) (e.specialised ++ slice_index i.words 2 ∷ []) e.specialised) id) a.begun (same_specialised d e a i f)
        ∙ lists id (not d.begun && is_specialised (says t.before) d.specialised i) (a.specialised id s);
  } where
    tables : (id : ℕ) (b c : Bool) → c ≡ b → meaning e.table id ≡ meaning d.table id
        → meaning (with_entry e.table (entry (says t.before) d.table i)) id ≡ meaning (with_entry d.table (entry (says t.before) d.table i)) id
        → meaning (cond c e.table (with_entry e.table (entry (says t.after) e.table i))) id
        ≡ meaning (cond b d.table (with_entry d.table (entry (says t.before) d.table i))) id
    tables id b true g h k = h ∙ ap (λ (z : Bool). meaning (cond z d.table (with_entry d.table (entry (says t.before) d.table i))) id) g
    tables id b false g h k =
        ap (λ o. meaning (with_entry e.table o) id) (same_entry t d.table e.table a.table i f) ∙ k
        ∙ ap (λ (z : Bool). meaning (cond z d.table (with_entry d.table (entry (says t.before) d.table i))) id) g

    lists : (id : ℕ) (b : Bool) → is_one_of e.specialised id ≡ is_one_of d.specialised id
        → is_one_of (cond b (e.specialised ++ slice_index i.words 2 ∷ []) e.specialised) id
        ≡ is_one_of (cond b (d.specialised ++ slice_index i.words 2 ∷ []) d.specialised) id
    lists id true h =
        any_push id e.specialised (slice_index i.words 2) ∙ ap (λ (b : Bool). b || nat_eq id (slice_index i.words 2)) h
        ∙ sym (any_push id d.specialised (slice_index i.words 2))
    lists id false h = h

  -- ---- the new instruction declares the new id alone

  adds_entry : (all : List Statement) (table : Table) (id : ℕ) → In t id → meaning (with_entry table (entry all table t.new)) id ≡ meaning table id
  adds_entry all table id s =
      push_other id table (entry all table t.new) (λ r m e.
      ap (λ o. option_map_or (nat_eq id) o false) (sym (entry-gives all table t.new r m t.added.whole e).result ∙ t.added.result) ∙ s)

  adds_specialised : (all : List Statement) (e : Declared) (id : ℕ) → In t id
      → is_one_of (cond (not e.begun && is_specialised all e.specialised t.new) (e.specialised ++ slice_index t.new.words 2 ∷ []) e.specialised) id
      ≡ is_one_of e.specialised id
  adds_specialised all e id s = by (not e.begun) (is_specialised all e.specialised t.new) refl
    where
      or_false : (b : Bool) → (b || false) ≡ b
      or_false true = refl
      or_false false = refl

      by : (b c : Bool) → is_specialised all e.specialised t.new ≡ c
          → is_one_of (cond (b && c) (e.specialised ++ slice_index t.new.words 2 ∷ []) e.specialised) id ≡ is_one_of e.specialised id
      by false c h = refl
      by true false h = refl
      by true true h =
          any_push id e.specialised (slice_index t.new.words 2)
          ∙ ap (λ (b : Bool). is_one_of e.specialised id || b)
          (ap (λ o. option_map_or (nat_eq id) o false) (sym (specialised-result all e.specialised t.new t.added.whole h) ∙ t.added.result) ∙ s)
          ∙ or_false (is_one_of e.specialised id)

  declares_new : (d e : Declared) → Agree d e → (j : Instruction) → j.words ≡ t.new.words → Agree d (declare (says t.after) e j)
  declares_new d e a j w = record {
    begun = ap (λ (b : Bool). e.begun || b) (no_function t j w) ∙ or_false e.begun ∙ a.begun;
    table = λ id s.
        ap (λ ws. meaning (cond e.begun e.table (with_entry e.table (entry (says t.after) e.table (inst ws)))) id) w
        ∙ by id s e.begun ∙ a.table id s;
    specialised = λ id s.
        ap (λ ws.
        is_one_of (cond (not e.begun && is_specialised (says t.after) e.specialised (inst ws)) (e.specialised ++ slice_index ws 2 ∷ []) e.specialised) id) w
        ∙ adds_specialised (says t.after) e id s ∙ a.specialised id s;
  } where
    or_false : (b : Bool) → (b || false) ≡ b
    or_false true = refl
    or_false false = refl

    by : (id : ℕ) → In t id → (b : Bool) → meaning (cond b e.table (with_entry e.table (entry (says t.after) e.table t.new))) id ≡ meaning e.table id
    by id s true = refl
    by id s false = adds_entry (says t.after) e.table id s

  -- ---- behind some instructions

  abbrev pub SameDeclared : List Instruction → List Instruction → Type 0
  SameDeclared is js = (d e : Declared) → Agree d e → Agree (declare_all (says t.before) d is) (declare_all (says t.after) e js)

  pub declared_adds : (j : Instruction) (is js : List Instruction) → starts_function is ≡ true → j.words ≡ t.new.words → SameDeclared is js
      → SameDeclared is (j ∷ js)
  declared_adds j is js b w h d e a = h d (declare (says t.after) e j) (declares_new d e a j w)

  pub declared_keeps : (i j : Instruction) (is js : List Instruction) → FactOf t i → j.words ≡ i.words → SameDeclared is js → SameDeclared (i ∷ is) (j ∷ js)
  declared_keeps i j is js f w h d e a =
      h (declare (says t.before) d i) (declare (says t.after) e j)
      (subst_words (λ ws. declare (says t.after) e (inst ws)) w (declares_same d e a i f))
    where
      subst_words : (g : List ℕ → Declared) {x y : List ℕ} → x ≡ y → Agree (declare (says t.before) d i) (g y) → Agree (declare (says t.before) d i) (g x)
      subst_words g e a = subst (λ z. Agree (declare (says t.before) d i) (g z)) (sym e) a

  pub none_yet : Agree nothing_declared nothing_declared
  none_yet = record { begun = refl; table = λ id s. refl; specialised = λ id s. refl }
