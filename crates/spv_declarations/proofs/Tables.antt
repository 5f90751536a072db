-- The table of meanings, one instruction after the other: an id gets its meaning where it is first defined, and keeps it.
use Rattle.std.proofs.Common.{◌≡◌, ℕ, zero, suc, ◌≤◌, ◌⊎◌, inl, inr, Bool, true, false, cond, ◌||◌, List, [], ◌∷◌, ◌++◌, take, Option, Some, None, refl, sym, ap, subst, ◌∙◌, arith}
use Rattle.std.specs.Prelude.{nat_eq}
use Rattle.std.specs.Option.{option_map_or, option_to_list}
use Rattle.std.specs.List.{list_any, slice_get}
use Rattle.std.specs.Map.{lookup}
use Rattle.std.proofs.lemmas.Bool.{eqb-true, eq-eqb, false≢true, or_parts, false_from_ne_true}
use Rattle.std.proofs.lemmas.List.Folds.{list_any-append}
use Rattle.spv_grammar.specs.Roles.{is_defined_id}
use Rattle.spv_module.specs.Instruction.{Instruction, word_with}
use Rattle.spv_meaning.specs.Statements.{Statement}
use Rattle.spv_meaning.specs.Constants.{Table, Meaning, meaning, with_entry}
use Rattle.spv_ids.specs.Ids.{defines, is_defined_before}
use Rattle.spv_declarations.specs.Broken.{rules_at}
use Rattle.spv_declarations.specs.Declarations.{Declared, nothing_declared, declare, declare_all, declared_before, says, entry}
use Rattle.spv_declarations.specs.Sound.{AreInstructions, Unbroken, table_before}
use Rattle.spv_declarations.proofs.Defining.{entry-gives}
use Rattle.spv_declarations.proofs.Unbroken.{keeps, loud-plain}

-- ---- one instruction more

-- the first k + 1 are the first k and the k-th, if there is one
pub take-found : (insts : List Instruction) (k : ℕ) (found : Option Instruction) → slice_get insts k ≡ found →
    take (suc k) insts ≡ take k insts ++ option_to_list found
take-found [] zero None e = refl
take-found [] zero (Some i) e = cc
take-found [] (suc k) None e = refl
take-found [] (suc k) (Some i) e = cc
take-found (x ∷ xs) zero None e = cc
take-found (x ∷ xs) zero (Some i) e = ap (λ (o : Option Instruction). option_to_list o) e
take-found (x ∷ xs) (suc k) found e = ap (λ (is : List Instruction). x ∷ is) (take-found xs k found e)

declare_all-push : (all : List Statement) (d : Declared) (xs : List Instruction) (i : Instruction) →
    declare_all all d (xs ++ i ∷ []) ≡ declare all (declare_all all d xs) i
declare_all-push all d [] i = refl
declare_all-push all d (x ∷ xs) i = declare_all-push all (declare all d x) xs i

append_none : (xs : List Instruction) → xs ++ [] ≡ xs
append_none [] = refl
append_none (x ∷ xs) = ap (λ (is : List Instruction). x ∷ is) (append_none xs)

pub declared-more : (insts : List Instruction) (k : ℕ) (i : Instruction) → slice_get insts k ≡ Some i →
    declared_before insts (suc k) ≡ declare (says insts) (declared_before insts k) i
declared-more insts k i e =
    ap (λ (is : List Instruction). declare_all (says insts) nothing_declared is) (take-found insts k (Some i) e)
    ∙ declare_all-push (says insts) nothing_declared (take k insts) i

pub declared-past : (insts : List Instruction) (k : ℕ) → slice_get insts k ≡ None → declared_before insts (suc k) ≡ declared_before insts k
declared-past insts k e =
    ap (λ (is : List Instruction). declare_all (says insts) nothing_declared is) (take-found insts k None e ∙ append_none (take k insts))

or_false : (b : Bool) → (b || false) ≡ b
or_false true = refl
or_false false = refl

pub defined-more : (insts : List Instruction) (k : ℕ) (i : Instruction) (id : ℕ) → slice_get insts k ≡ Some i →
    is_defined_before insts (suc k) id ≡ (is_defined_before insts k id || defines id i)
defined-more insts k i id e =
    ap (list_any (defines id)) (take-found insts k (Some i) e) ∙ list_any-append (defines id) (take k insts) (i ∷ []) ∙ ap
    (λ (b : Bool). is_defined_before insts k id || b) (or_false (defines id i))

pub defined-past : (insts : List Instruction) (k id : ℕ) → slice_get insts k ≡ None →
    is_defined_before insts (suc k) id ≡ is_defined_before insts k id
defined-past insts k id e = ap (list_any (defines id)) (take-found insts k None e ∙ append_none (take k insts))

-- ---- what an entry changes

lookup-push : (table : Table) (id r : ℕ) (m : Meaning) → nat_eq id r ≡ false → lookup (nat_eq id) (table ++ (r, m) ∷ []) ≡ lookup (nat_eq id) table
lookup-push [] id r m other = rw other refl
lookup-push (e ∷ es) id r m other = ap (λ (o : Option Meaning). cond (nat_eq id e.0) (Some e.1) o) (lookup-push es id r m other)

pub lookup-own : (table : Table) (r : ℕ) (m : Meaning) → lookup (nat_eq r) table ≡ None → lookup (nat_eq r) (table ++ (r, m) ∷ []) ≡ Some m
lookup-own [] r m new = rw (eq-eqb r r refl) refl
lookup-own (e ∷ es) r m new = own_cons (nat_eq r e.0) e.1 (lookup (nat_eq r) es) (lookup (nat_eq r) (es ++ (r, m) ∷ [])) m new (lookup-own es r m)
  where
    own_cons : (b : Bool) (n : Meaning) (old new : Option Meaning) (m : Meaning) → cond b (Some n) old ≡ None → (old ≡ None → new ≡ Some m) →
        cond b (Some n) new ≡ Some m
    own_cons true n old new m h f = cc
    own_cons false n old new m h f = f h

-- an entry leaves the meanings of other ids
entry_keeps : (table : Table) (id : ℕ) (begun : Bool) (e : Option (ℕ × Meaning)) → ((r : ℕ) (m : Meaning) → e ≡ Some (r, m) → nat_eq id r ≡ false) →
    meaning (cond begun table (with_entry table e)) id ≡ meaning table id
entry_keeps table id true e other = refl
entry_keeps table id false None other = refl
entry_keeps table id false (Some e) other = lookup-push table id e.0 e.1 (other e.0 e.1 refl)

-- what the k-th gives a meaning is another id
abbrev GivesOther : List Instruction → (k id : ℕ) → Type 0
GivesOther insts k id =
    (i : Instruction) (r : ℕ) (m : Meaning) → slice_get insts k ≡ Some i → entry (says insts) (table_before insts k) i ≡ Some
    (r, m) → nat_eq id r ≡ false

kept_by : (insts : List Instruction) (k id : ℕ) (found : Option Instruction) → slice_get insts k ≡ found → GivesOther insts k id →
    meaning (table_before insts (suc k)) id ≡ meaning (table_before insts k) id
kept_by insts k id None e other = ap (λ (d : Declared). meaning d.table id) (declared-past insts k e)
kept_by insts k id (Some i) e other =
    let d = declared_before insts k in
    ap (λ (d : Declared). meaning d.table id) (declared-more insts k i e) ∙ entry_keeps d.table id d.begun (entry (says insts) d.table i)
    (λ r m f. other i r m e f)

-- ---- an id that nothing defines so far

pub defines_result : (i : Instruction) (id r : ℕ) → word_with is_defined_id i ≡ Some r → defines id i ≡ nat_eq id r
defines_result i id r e = ap (λ (o : Option ℕ). option_map_or (nat_eq id) o false) e

pub not_defined : (insts : List Instruction) (k id : ℕ) (found : Option Instruction) → slice_get insts k ≡ found →
    is_defined_before insts (suc k) id ≡ false → is_defined_before insts k id ≡ false
not_defined insts k id None e h = sym (defined-past insts k id e) ∙ h
not_defined insts k id (Some i) e h = (or_parts (is_defined_before insts k id) (defines id i) (sym (defined-more insts k i id e) ∙ h)).0

pub not_defined_here : (insts : List Instruction) (k id : ℕ) (i : Instruction) → slice_get insts k ≡ Some i →
    is_defined_before insts (suc k) id ≡ false → defines id i ≡ false
not_defined_here insts k id i e h = (or_parts (is_defined_before insts k id) (defines id i) (sym (defined-more insts k i id e) ∙ h)).1

-- has no meaning; induction on the instructions
pub no_meaning : (insts : List Instruction) → AreInstructions insts → (k id : ℕ) → is_defined_before insts k id ≡ false →
    meaning (table_before insts k) id ≡ None
no_meaning insts whole zero id h = refl
no_meaning insts whole (suc k) id h =
    kept_by insts k id (slice_get insts k) refl (λ i r m at e.
    sym (defines_result i id r (entry-gives (says insts) (table_before insts k) i r m (whole k i at) e).result) ∙ not_defined_here insts k id i at h)
    ∙ no_meaning insts whole k id (not_defined insts k id (slice_get insts k) refl h)

-- ---- an id keeps its meaning

pub zero_only : (j : ℕ) → j ≤ 0 → j ≡ 0
zero_only j le = omega arith

-- the k-th breaks no rule: what gets a meaning is a new id
pub gives_new : (insts : List Instruction) (k : ℕ) (i : Instruction) (r : ℕ) (m : Meaning) → AreInstructions insts → slice_get insts k ≡ Some i →
    rules_at insts (declared_before insts k) k i ≡ [] →
    entry (says insts) (table_before insts k) i ≡ Some (r, m) → is_defined_before insts k r ≡ false
gives_new insts k i r m whole at clean e =
    let given = entry-gives (says insts) (table_before insts k) i r m (whole k i at) e in
    let kept = keeps insts (declared_before insts k) k i (loud-plain i given.loud) clean in
    sym (ap (λ (o : Option ℕ). option_map_or (is_defined_before insts k) o false) given.result) ∙ kept.once

another : (insts : List Instruction) (k id r : ℕ) → is_defined_before insts k id ≡ true → is_defined_before insts k r ≡ false → nat_eq id r ≡ false
another insts k id r old new =
    false_from_ne_true (nat_eq id r) (λ same. false≢true (sym new ∙ (ap (is_defined_before insts k) (sym (eqb-true id r same)) ∙ old)))

defined_stays : (insts : List Instruction) (k id : ℕ) (found : Option Instruction) → slice_get insts k ≡ found → is_defined_before insts k id ≡ true →
    is_defined_before insts (suc k) id ≡ true
defined_stays insts k id None e h = defined-past insts k id e ∙ h
defined_stays insts k id (Some i) e h = defined-more insts k i id e ∙ rw h refl

pub up_to : (j k : ℕ) → j ≤ suc k → (j ≤ k) ⊎ (j ≡ suc k)
up_to j k le = grind arith

-- induction on the instructions
pub stays-defined : (insts : List Instruction) (j k id : ℕ) → j ≤ k → is_defined_before insts j id ≡ true → is_defined_before insts k id ≡ true
stays-defined insts j zero id le h = subst (λ (n : ℕ). is_defined_before insts n id ≡ true) (zero_only j le) h
stays-defined insts j (suc k) id le h = at_either (up_to j k le)
    (λ less. defined_stays insts k id (slice_get insts k) refl (stays-defined insts j k id less h))
  where
    at_either : (j ≤ k) ⊎ (j ≡ suc k) → ((j ≤ k) → is_defined_before insts (suc k) id ≡ true) → is_defined_before insts (suc k) id ≡ true
    at_either (inl less) f = f less
    at_either (inr same) f = subst (λ (n : ℕ). is_defined_before insts n id ≡ true) same h

pub unbroken-less : (insts : List Instruction) (j k : ℕ) → j ≤ k → Unbroken insts k → Unbroken insts j
unbroken-less insts j k le clean n i before at = clean n i (omega arith) at

-- an id that is defined keeps its meaning, or stays without; induction on the instructions
pub keeps_meaning : (insts : List Instruction) → AreInstructions insts → (j k id : ℕ) → j ≤ k → Unbroken insts k →
    is_defined_before insts j id ≡ true → meaning (table_before insts k) id ≡ meaning (table_before insts j) id
keeps_meaning insts whole j zero id le clean h = ap (λ (n : ℕ). meaning (table_before insts n) id) (sym (zero_only j le))
keeps_meaning insts whole j (suc k) id le clean h =
    at_either (up_to j k le) (λ less. keeps_meaning insts whole j k id less (unbroken-less insts k (suc k) (omega arith) clean) h)
  where
    at_either : (j ≤ k) ⊎ (j ≡ suc k) → ((j ≤ k) → meaning (table_before insts k) id ≡ meaning (table_before insts j) id) →
        meaning (table_before insts (suc k)) id ≡ meaning (table_before insts j) id
    at_either (inl less) f =
        kept_by insts k id (slice_get insts k) refl (λ i r m at e.
        another insts k id r (stays-defined insts j k id less h) (gives_new insts k i r m whole at (clean k i (omega arith) at) e))
        ∙ f less
    at_either (inr same) f = ap (λ (n : ℕ). meaning (table_before insts n) id) (sym same)
