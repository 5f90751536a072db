-- Where functions have begun: the table stays as it was in front of the first one.
use Rattle.std.proofs.Common.{◌≡◌, ℕ, zero, suc, ◌≤◌, ◌⊎◌, inl, inr, Bool, true, false, cond, ◌||◌, List, [], ◌∷◌, take, Option, Some, None, refl, sym, ap, subst, ◌∙◌, arith}
use Rattle.std.specs.List.{list_any, slice_get}
use Rattle.std.proofs.lemmas.Bool.{eqb-true}
use Rattle.spv_opcodes.specs.declared.op.TheConstants as op
use Rattle.spv_module.specs.Code.{is_function}
use Rattle.spv_module.specs.Instruction.{Instruction, opcode}
use Rattle.spv_meaning.specs.Constants.{Table, with_entry}
use Rattle.spv_ids.specs.Ids.{defines}
use Rattle.spv_typing.specs.Kinds.{is_constant, is_outside}
use Rattle.spv_declarations.specs.Declarations.{Declared, declared_before, says, entry}
use Rattle.spv_declarations.specs.Sound.{AreInstructions, Unbroken, IsBefore, table_before, IsSoundType, IsSoundConstant}
use Rattle.spv_declarations.proofs.Defining.{entry-by}
use Rattle.spv_declarations.proofs.Tables.{declared-more, declared-past, unbroken-less}
use Rattle.spv_declarations.proofs.SoundTypes.{sound_type}
use Rattle.spv_declarations.proofs.Consequences.{sound_constant}

-- no function has begun in front of the m-th of the first k + 1, and the table is that in front of it; it is the k-th, or the first function
pub record Front (insts : List Instruction) (k : ℕ) : Type 0 where
  pub m : ℕ
  pub less : m ≤ k
  pub outside : (declared_before insts m).begun ≡ false
  pub same : table_before insts k ≡ table_before insts m
  pub ends : (m ≡ k) ⊎ ((i : Instruction) × (slice_get insts m ≡ Some i) × (is_function i ≡ true) × ((declared_before insts k).begun ≡ true))

function_silent : (insts : List Instruction) (table : Table) (i : Instruction) → is_function i ≡ true → entry (says insts) table i ≡ None
function_silent insts table i h = entry-by (says insts) table i op.FUNCTION (eqb-true (opcode i) op.FUNCTION h) refl

begins : (insts : List Instruction) (k : ℕ) (i : Instruction) → slice_get insts k ≡ Some i →
    (declared_before insts (suc k)).begun ≡ ((declared_before insts k).begun || is_function i)
begins insts k i at = ap (λ (d : Declared). d.begun) (declared-more insts k i at)

table_more : (insts : List Instruction) (k : ℕ) (i : Instruction) → slice_get insts k ≡ Some i →
    table_before insts (suc k) ≡ cond (declared_before insts k).begun (table_before insts k)
    (with_entry (table_before insts k) (entry (says insts) (table_before insts k) i))
table_more insts k i at = ap (λ (d : Declared). d.table) (declared-more insts k i at)

-- one more, where no function had begun
front_goes : (insts : List Instruction) (k : ℕ) (i : Instruction) (function : Bool) → slice_get insts k ≡ Some i → is_function i ≡ function →
    (declared_before insts k).begun ≡ false → Front insts (suc k)
front_goes insts k i true at h outside =
    record {
      m = k;
      less = omega arith;
      outside = outside;
      same = table_more insts k i at ∙ rw (outside, function_silent insts (table_before insts k) i h) refl;
      ends = inr (i, at, h, begins insts k i at ∙ rw (outside, h) refl);
    }
front_goes insts k i false at h outside =
    record { m = suc k; less = omega arith; outside = begins insts k i at ∙ rw (outside, h) refl; same = refl; ends = inl refl }

front_step : (insts : List Instruction) (k : ℕ) (found : Option Instruction) → slice_get insts k ≡ found → Front insts k → Front insts (suc k)
front_step insts k None at f = past f.ends
  where
    past : (f.m ≡ k) ⊎ ((i : Instruction) × (slice_get insts f.m ≡ Some i) × (is_function i ≡ true) × ((declared_before insts k).begun ≡ true)) →
        Front insts (suc k)
    past (inl e) = record {
      m = suc k;
      less = omega arith;
      outside = ap (λ (d : Declared). d.begun) (declared-past insts k at) ∙ subst (λ (n : ℕ). (declared_before insts n).begun ≡ false) e f.outside;
      same = refl;
      ends = inl refl;
    }
    past (inr h) = record {
      m = f.m;
      less = omega (arith, f.less);
      outside = f.outside;
      same = ap (λ (d : Declared). d.table) (declared-past insts k at) ∙ f.same;
      ends = inr (h.0, h.1, h.2, ap (λ (d : Declared). d.begun) (declared-past insts k at) ∙ h.3);
    }
front_step insts k (Some i) at f = goes f.ends
  where
    goes : (f.m ≡ k) ⊎ ((i : Instruction) × (slice_get insts f.m ≡ Some i) × (is_function i ≡ true) × ((declared_before insts k).begun ≡ true)) →
        Front insts (suc k)
    goes (inl e) = front_goes insts k i (is_function i) at refl (subst (λ (n : ℕ). (declared_before insts n).begun ≡ false) e f.outside)
    goes (inr h) = record {
      m = f.m;
      less = omega (arith, f.less);
      outside = f.outside;
      same = table_more insts k i at ∙ rw h.3 f.same;
      ends = inr (h.0, h.1, h.2, begins insts k i at ∙ rw h.3 refl);
    }

-- induction on the instructions
pub front_of : (insts : List Instruction) (k : ℕ) → Front insts k
front_of insts zero = record { m = 0; less = omega arith; outside = refl; same = refl; ends = inl refl }
front_of insts (suc k) = front_step insts k (slice_get insts k) refl (front_of insts k)

-- what is defined outside functions is defined in front of the first one; induction on the instructions
outside_before : (insts : List Instruction) (m id : ℕ) (i : Instruction) → slice_get insts m ≡ Some i → is_function i ≡ true →
    is_outside insts id ≡ true → list_any (defines id) (take m insts) ≡ true
outside_before [] m id i at function h = cc
outside_before (x ∷ xs) zero id i at function h =
    let same : x ≡ i = cc in
    let inside : is_outside (x ∷ xs) id ≡ false = rw (same, function) refl in
    cc
outside_before (x ∷ xs) (suc m) id i at function h = by_first (is_function x) (defines id x) h (λ k. outside_before xs m id i at function k)
  where
    by_first : (f d : Bool) → cond f false (cond d true (is_outside xs id)) ≡ true →
        (is_outside xs id ≡ true → list_any (defines id) (take m xs) ≡ true) → (d || list_any (defines id) (take m xs)) ≡ true
    by_first true d h k = cc
    by_first false true h k = refl
    by_first false false h k = k h

pub before_front : (insts : List Instruction) (k id : ℕ) (f : Front insts k) → IsBefore insts k id → is_outside insts id ≡ true →
    IsBefore insts f.m id
before_front insts k id f before h = by_end f.ends
  where
    by_end : (f.m ≡ k) ⊎ ((i : Instruction) × (slice_get insts f.m ≡ Some i) × (is_function i ≡ true) × ((declared_before insts k).begun ≡ true)) →
        IsBefore insts f.m id
    by_end (inl e) = subst (λ (n : ℕ). IsBefore insts n id) (sym e) before
    by_end (inr g) = outside_before insts f.m id g.0 g.1 g.2 h

-- ---- types and constants that are defined outside functions, anywhere in the module

pub sound_type-outside : (insts : List Instruction) → AreInstructions insts → (k t : ℕ) → Unbroken insts k → IsBefore insts k t →
    is_outside insts t ≡ true → IsSoundType insts (table_before insts k) t
sound_type-outside insts whole k t clean before h =
    let f = front_of insts k in
    subst (λ (table : Table). IsSoundType insts table t) (sym f.same)
    (sound_type insts whole f.m t (unbroken-less insts f.m k f.less clean) f.outside (before_front insts k t f before h))

pub sound_constant-outside : (insts : List Instruction) → AreInstructions insts → (k id : ℕ) → Unbroken insts k → IsBefore insts k id →
    is_outside insts id ≡ true → is_constant insts id ≡ true → IsSoundConstant insts (table_before insts k) id
sound_constant-outside insts whole k id clean before h c =
    let f = front_of insts k in
    subst (λ (table : Table). IsSoundConstant insts table id) (sym f.same)
    (sound_constant insts whole f.m id (unbroken-less insts f.m k f.less clean) f.outside (before_front insts k id f before h) c)
