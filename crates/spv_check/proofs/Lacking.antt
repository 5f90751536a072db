-- The first instruction of a function that uses what is not available there, and that of more functions.
use Rattle.std.proofs.Common.{◌≡◌, ◌≢◌, ◌⊎◌, inl, inr, ℕ, zero, suc, ◌+◌, ◌<◌, ◌≤◌, Bool, true, false, not, List, [], ◌∷◌, length, Option, Some, None, refl, sym, ap, subst, ◌∙◌, arith}
use Rattle.std.specs.List.{count_by, slice_get}
use Rattle.std.proofs.lemmas.Bool.{cases_lt, cases_order}
use Rattle.std.proofs.lemmas.Option.{slice_get_within}
use Rattle.passing.specs.Chains.{Tells}
use Rattle.spv_base.specs.declared.fault.Refusal.{Refusal}
use Rattle.spv_module.specs.Code.{is_function, is_line}
use Rattle.spv_module.specs.Instruction.{Instruction}
use Rattle.spv_module.specs.Layout.{RisesTo}
use Rattle.spv_types.specs.Whole.{Rises}
use Rattle.spv_walk.specs.Found.{earlier_of}
use Rattle.spv_walk.specs.Rules.{IsFirst}
use Rattle.spv_walk.proofs.Least.{first_both, first_same}
use Rattle.spv_walk.proofs.Unique.{both_right, not_true, truth_apart}
use Rattle.spv_availability.specs.Availability.{AreAvailable, IsUnavailable}
use Rattle.spv_availability.specs.Places.{function_of}
use Rattle.spv_check.specs.Parts.{BeginsAt, Every, Lacks, Missing, Only, UpTo}
use Rattle.spv_check.proofs.Beginnings.{at_most, in_functions, no_more}

-- ---- places

some_same : {A : Type 0} (x y : A) → Some x ≡ Some y → x ≡ y
some_same x y e = cc (e)

-- induction on the instructions
rises_from : (end n : ℕ) (is : List Instruction) → RisesTo end n is → (k : ℕ) (i : Instruction) → slice_get is k ≡ Some i → n ≤ i.offset
rises_from end n [] h k i at = absurd (cc (at))
rises_from end n (j ∷ is) h zero i at = subst (λ (x : Instruction). n ≤ x.offset) (some_same j i at) h.0
rises_from end n (j ∷ is) h (suc k) i at =
    let later = rises_from end (suc j.offset) is h.1 k i at in
    let here : n ≤ j.offset = h.0 in
    omega arith

two_rise : (end n : ℕ) (is : List Instruction) → RisesTo end n is → (j k : ℕ) (a b : Instruction) → j < k → slice_get is j ≡ Some a → slice_get is k ≡ Some b
    → a.offset < b.offset
two_rise end n [] h j k a b less at_j at_k = absurd (cc (at_j))
two_rise end n (i ∷ is) h j zero a b less at_j at_k = absurd (omega arith)
two_rise end n (i ∷ is) h zero (suc k) a b less at_j at_k =
    let later = rises_from end (suc i.offset) is h.1 k b at_k in
    subst (λ (x : Instruction). x.offset < b.offset) (some_same i a at_j) (omega arith)
two_rise end n (i ∷ is) h (suc j) (suc k) a b less at_j at_k = two_rise end (suc i.offset) is h.1 j k a b (omega arith) at_j at_k

-- ---- one instruction

-- a line mark lacks nothing
pub mark_lacks_nothing : (insts : List Instruction) (k : ℕ) (i : Instruction) → is_line i ≡ true → Tells false (Lacks insts k i)
mark_lacks_nothing insts k i line = record {
  so = λ holds. absurd (cc (holds));
  told = λ lacks. truth_apart (is_line i) line (not_true (is_line i) (both_right _ (not (is_line i)) lacks.of_functions));
}

-- another instruction lacks what is not available
pub lacks_told : (insts : List Instruction) (k : ℕ) (i : Instruction) (available : Bool) → slice_get insts k ≡ Some i → 0 < function_of insts k
    → is_line i ≡ false → Tells available (AreAvailable insts k i) → (available ≡ false → IsUnavailable insts k i) → Tells (not available) (Lacks insts k i)
lacks_told insts k i true at inside line told broken = record {
  so = λ holds. absurd (cc (holds));
  told = λ lacks. absurd (lacks.unavailable.missing.missing (told.so refl lacks.unavailable.missing.u lacks.unavailable.missing.is_used));
}
lacks_told insts k i false at inside line told broken = record {
  so = λ holds. record { of_functions = in_functions insts k i at inside line; unavailable = broken refl };
  told = λ lacks. refl;
}

-- ---- the instructions of one function, in order

module _ (insts : List Instruction) (number : ℕ) where
  -- of the first k instructions none is of the function and lacks something
  pub record NoneLacks (k : ℕ) : Type 0 where
    pub none : (j : ℕ) (i : Instruction) → j < k → slice_get insts j ≡ Some i → function_of insts j ≡ number → Lacks insts j i → ⊥

  pub none_begins : (first : ℕ) → BeginsAt insts number first → NoneLacks first
  none_begins first begins = record { none = λ j i less at among lacks. let before = begins.before j less in absurd (omega arith) }

  pub none_more : (k : ℕ) (i : Instruction) (answer : Bool) → NoneLacks k → slice_get insts k ≡ Some i → Tells answer (Lacks insts k i)
      → answer ≡ false → NoneLacks (k + 1)
  none_more k i answer old at told fails = record { none = λ j x less is among lacks. by j x less is among lacks (here_or_before j k less) }
    where
      here_or_before : (j m : ℕ) → j < m + 1 → (j ≡ m) ⊎ (j < m)
      here_or_before j m less = grind arith

      by : (j : ℕ) (x : Instruction) → j < k + 1 → slice_get insts j ≡ Some x → function_of insts j ≡ number → Lacks insts j x → (j ≡ k) ⊎ (j < k) → ⊥
      by j x less is among lacks (inl e) =
          let same : x ≡ i = some_same x i (sym is ∙ ap (slice_get insts) e ∙ at) in
          truth_apart answer (told.told (subst (λ (y : Instruction). Lacks insts k y) same (subst (λ m. Lacks insts m x) e lacks))) fails
      by j x less is among lacks (inr before) = old.none j x before is among lacks

  -- behind the function, and behind all instructions
  pub none_behind : (k first : ℕ) → NoneLacks k → BeginsAt insts number first → first ≤ k → function_of insts k ≢ number
      → IsFirst (Missing insts (Only number)) None
  none_behind k first old begins past other rule at m = by m.k m.i m.is m.among m.lacks (cases_lt m.k k)
    where
      by : (j : ℕ) (x : Instruction) → slice_get insts j ≡ Some x → function_of insts j ≡ number → Lacks insts j x → (j < k) ⊎ (k ≤ j) → ⊥
      by j x is among lacks (inl before) = old.none j x before is among lacks
      by j x is among lacks (inr later) =
          let more : function_of insts k ≤ function_of insts j = no_more insts (k + 1) (j + 1) (omega arith) in
          let begun = begins.from k past in
          other (omega arith)

  pub none_left : (k : ℕ) → NoneLacks k → length insts ≤ k → IsFirst (Missing insts (Only number)) None
  none_left k old past rule at m = let within = slice_get_within insts m.k m.i m.is in old.none m.k m.i (omega arith) m.is m.among m.lacks

  -- the first that lacks something
  pub lacking_found : (k : ℕ) (i : Instruction) → Rises insts → NoneLacks k → slice_get insts k ≡ Some i → function_of insts k ≡ number → Lacks insts k i
      → IsFirst (Missing insts (Only number)) (Some (record { rule = 503; at = i.offset }))
  lacking_found k i rises old at among lacks = record {
    broken = record { k = k; i = i; is = at; lacks = lacks; among = among; known = refl; place = refl };
    least = λ rule place m. by rule place m (cases_order m.k k);
  }
    where
      by : (rule place : ℕ) (m : Missing insts (Only number) rule place) → (m.k ≡ k) ⊎ ((m.k < k) ⊎ (k < m.k))
          → (i.offset < place) ⊎ ((i.offset ≡ place) × (503 ≤ rule))
      by rule place m (inr (inl before)) = absurd (old.none m.k m.i before m.is m.among m.lacks)
      by rule place m (inl e) =
          let same : i ≡ m.i = some_same i m.i (sym at ∙ ap (slice_get insts) (sym e) ∙ m.is) in
          inr (ap (λ (x : Instruction). x.offset) same ∙ m.place, let known = m.known in omega arith)
      by rule place m (inr (inr later)) =
          let less = two_rise rises.0 5 insts rises.1 k m.k i m.i later at m.is in
          inl (let is = m.place in omega arith)

-- ---- one function more

wider : (insts : List Instruction) (P Q : ℕ → Type 0) → ((n : ℕ) → P n → Q n) → (rule at : ℕ) → Missing insts P rule at → Missing insts Q rule at
wider insts P Q to rule at m = record { k = m.k; i = m.i; is = m.is; lacks = m.lacks; among = to (function_of insts m.k) m.among; known = m.known; place = m.place }

pub no_function : (insts : List Instruction) → IsFirst (Missing insts (UpTo 0)) None
no_function insts rule at m = let inside = m.lacks.unavailable.inside in let none = m.among in omega arith

pub one_function_more : (insts : List Instruction) (f : ℕ) (found one : Option Refusal) → IsFirst (Missing insts (UpTo f)) found
    → IsFirst (Missing insts (Only (f + 1))) one → IsFirst (Missing insts (UpTo (f + 1))) (earlier_of found one)
one_function_more insts f found one x y =
    first_same (λ rule at. Missing insts (UpTo f) rule at ⊎ Missing insts (Only (f + 1)) rule at) (Missing insts (UpTo (f + 1))) (earlier_of found one)
    (λ rule at h. elim h [
      | inl g ↦ wider insts (UpTo f) (UpTo (f + 1)) (λ n less. omega arith) rule at g
      | inr g ↦ wider insts (Only (f + 1)) (UpTo (f + 1)) (λ n same. omega arith) rule at g
    ])
    (λ rule at m. elim (last_or_before (function_of insts m.k) f m.among) [
      | inl e ↦ inl (record { k = m.k; i = m.i; is = m.is; lacks = m.lacks; among = e; known = m.known; place = m.place })
      | inr e ↦ inr (record { k = m.k; i = m.i; is = m.is; lacks = m.lacks; among = e; known = m.known; place = m.place })
    ])
    (first_both (Missing insts (UpTo f)) (Missing insts (Only (f + 1))) found one x y)
  where
    last_or_before : (n f : ℕ) → n ≤ f + 1 → (n ≤ f) ⊎ (n ≡ f + 1)
    last_or_before n f h = grind arith

-- all functions
pub every_function : (insts : List Instruction) (f : ℕ) (found : Option Refusal) → count_by is_function insts ≤ f → IsFirst (Missing insts (UpTo f)) found
    → IsFirst (Missing insts Every) found
every_function insts f found all x =
    first_same (Missing insts (UpTo f)) (Missing insts Every) found
    (λ rule at m. wider insts (UpTo f) Every (λ n h. tt) rule at m)
    (λ rule at m. record { k = m.k; i = m.i; is = m.is; lacks = m.lacks; among = (let most = at_most insts m.k in omega arith); known = m.known; place = m.place })
    x
