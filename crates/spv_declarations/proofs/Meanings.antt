-- The meaning of an id is what its first definition made of the table in front of it.
use Rattle.std.proofs.Common.{◌≡◌, ℕ, zero, suc, ◌<◌, ◌≤◌, ◌⊎◌, inl, inr, Bool, true, false, cond, List, [], ◌∷◌, ◌++◌, take, Option, Some, None, refl, sym, ap, subst, ◌∙◌, arith}
use Rattle.std.specs.List.{list_any, slice_get, find}
use Rattle.std.proofs.lemmas.Bool.{eqb-true, or_parts, both_ways}
use Rattle.spv_grammar.specs.Roles.{is_defined_id}
use Rattle.spv_module.specs.Code.{is_function}
use Rattle.spv_module.specs.Instruction.{Instruction, word_with}
use Rattle.spv_meaning.specs.Constants.{Table, Meaning, meaning, with_entry}
use Rattle.spv_ids.specs.Ids.{defines, definition, is_defined_before}
use Rattle.spv_declarations.specs.Declarations.{Declared, declared_before, says, entry}
use Rattle.spv_declarations.specs.Sound.{AreInstructions, Unbroken, table_before}
use Rattle.spv_declarations.proofs.Defining.{entry-gives}
use Rattle.spv_declarations.proofs.Tables.{declared-more, declared-past, defined-more, defined-past, defines_result, lookup-own, no_meaning, keeps_meaning, up_to, zero_only}

-- ---- where an id is defined

-- the first instruction that defines an id is one of the first k
pub record DefinedAt (insts : List Instruction) (k id : ℕ) : Type 0 where
  pub place : ℕ
  pub inst : Instruction
  pub at : slice_get insts place ≡ Some inst
  pub before : place < k
  pub new : is_defined_before insts place id ≡ false
  pub defines_it : defines id inst ≡ true
  pub is_definition : definition insts id ≡ Some inst

-- the first that passes; induction on the elements
find-first : {X : Type 0} (p : X → Bool) (xs : List X) (k : ℕ) (x : X) → slice_get xs k ≡ Some x → list_any p (take k xs) ≡ false → p x ≡ true →
    find p xs ≡ Some x
find-first p [] k x at none here = cc
find-first p (y ∷ ys) zero x at none here =
    let same : y ≡ x = cc in
    rw (same, here) refl
find-first p (y ∷ ys) (suc k) x at none here =
    let parts = or_parts (p y) (list_any p (take k ys)) none in
    rw parts.0 (find-first p ys k x at parts.1 here)

here_first : (insts : List Instruction) (k id : ℕ) (found : Option Instruction) → slice_get insts k ≡ found → is_defined_before insts k id ≡ false →
    is_defined_before insts (suc k) id ≡ true → DefinedAt insts (suc k) id
here_first insts k id None at new h = absurd (both_ways (is_defined_before insts k id) new (sym (defined-past insts k id at) ∙ h))
here_first insts k id (Some i) at new h =
    let here : defines id i ≡ true = sym (rw new at (defined-more insts k i id at)) ∙ h in
    record { place = k; inst = i; at = at; before = omega arith; new = new; defines_it = here; is_definition = find-first (defines id) insts k i at new here }

later : (insts : List Instruction) (k id : ℕ) → DefinedAt insts k id → DefinedAt insts (suc k) id
later insts k id d =
    record { place = d.place; inst = d.inst; at = d.at; before = omega (arith, d.before); new = d.new; defines_it = d.defines_it; is_definition = d.is_definition }

first_or_before : (insts : List Instruction) (k id : ℕ) (b : Bool) → is_defined_before insts k id ≡ b → is_defined_before insts (suc k) id ≡ true →
    (is_defined_before insts k id ≡ true → DefinedAt insts k id) → DefinedAt insts (suc k) id
first_or_before insts k id true e h f = later insts k id (f e)
first_or_before insts k id false e h f = here_first insts k id (slice_get insts k) refl e h

-- induction on the instructions
pub defined_at : (insts : List Instruction) (k id : ℕ) → is_defined_before insts k id ≡ true → DefinedAt insts k id
defined_at insts zero id h = cc
defined_at insts (suc k) id h = first_or_before insts k id (is_defined_before insts k id) refl h (λ e. defined_at insts k id e)

-- ---- before functions

begun_before : (insts : List Instruction) (k : ℕ) (found : Option Instruction) → slice_get insts k ≡ found →
    (declared_before insts (suc k)).begun ≡ false → (declared_before insts k).begun ≡ false
begun_before insts k None at h = sym (ap (λ (d : Declared). d.begun) (declared-past insts k at)) ∙ h
begun_before insts k (Some i) at h =
    (or_parts (declared_before insts k).begun (is_function i) (sym (ap (λ (d : Declared). d.begun) (declared-more insts k i at)) ∙ h)).0

-- no function has begun before fewer instructions; induction on the instructions
pub not_begun : (insts : List Instruction) (j k : ℕ) → j ≤ k → (declared_before insts k).begun ≡ false → (declared_before insts j).begun ≡ false
not_begun insts j zero le h = subst (λ (n : ℕ). (declared_before insts n).begun ≡ false) (sym (zero_only j le)) h
not_begun insts j (suc k) le h = at_either (up_to j k le) (λ less. not_begun insts j k less (begun_before insts k (slice_get insts k) refl h))
  where
    at_either : (j ≤ k) ⊎ (j ≡ suc k) → ((j ≤ k) → (declared_before insts j).begun ≡ false) → (declared_before insts j).begun ≡ false
    at_either (inl less) f = f less
    at_either (inr same) f = subst (λ (n : ℕ). (declared_before insts n).begun ≡ false) (sym same) h

-- ---- the meaning

abbrev pub meaning_in : Option (ℕ × Meaning) → Option Meaning
meaning_in None = None
meaning_in (Some e) = Some e.1

own_meaning : (table : Table) (id : ℕ) (e : Option (ℕ × Meaning)) → ((r : ℕ) (m : Meaning) → e ≡ Some (r, m) → r ≡ id) → meaning table id ≡ None →
    meaning (with_entry table e) id ≡ meaning_in e
own_meaning table id None same none = none
own_meaning table id (Some e) same none =
    let r_is = same e.0 e.1 refl in
    subst (λ (n : ℕ). meaning (table ++ (n, e.1) ∷ []) id ≡ Some e.1) (sym r_is) (lookup-own table id e.1 none)

pub result_is : (i : Instruction) (id r : ℕ) → defines id i ≡ true → word_with is_defined_id i ≡ Some r → r ≡ id
result_is i id r h e = sym (eqb-true id r (sym (defines_result i id r e) ∙ h))

-- at its place
meaning_here : (insts : List Instruction) → AreInstructions insts → (k id : ℕ) (i : Instruction) → slice_get insts k ≡ Some i →
    (declared_before insts k).begun ≡ false → is_defined_before insts k id ≡ false → defines id i ≡ true →
    meaning (table_before insts (suc k)) id ≡ meaning_in (entry (says insts) (table_before insts k) i)
meaning_here insts whole k id i at outside new here =
    let table = table_before insts k in
    let e = entry (says insts) table i in
    ap (λ (d : Declared). meaning d.table id) (declared-more insts k i at)
    ∙ ap (λ (b : Bool). meaning (cond b table (with_entry table e)) id) outside
    ∙ own_meaning table id e (λ r m f. result_is i id r here (entry-gives (says insts) table i r m (whole k i at) f).result)
    (no_meaning insts whole k id new)

-- behind it
pub meaning-at : (insts : List Instruction) → AreInstructions insts → (k id : ℕ) → Unbroken insts k → (d : DefinedAt insts k id) →
    (declared_before insts d.place).begun ≡ false →
    meaning (table_before insts k) id ≡ meaning_in (entry (says insts) (table_before insts d.place) d.inst)
meaning-at insts whole k id clean d outside =
    keeps_meaning insts whole (suc d.place) k id (omega (arith, d.before)) clean
    (defined-more insts d.place d.inst id d.at ∙ rw (d.new, d.defines_it) refl)
    ∙ meaning_here insts whole d.place id d.inst d.at outside d.new d.defines_it
