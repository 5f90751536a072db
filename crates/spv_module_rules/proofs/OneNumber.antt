-- Functions that break no rule on structured control flow have one number of nested returns together.
use Rattle.std.proofs.Common.{◌≡◌, ℕ, suc, ◌<◌, Bool, List, [], ◌∷◌, Option, Some, None, refl, sym, ap, subst, ◌∙◌, arith}
use Rattle.std.specs.List.{count_by, slice_get}
use Rattle.std.specs.Option.{option_map, unwrap_or}
use Rattle.std.proofs.lemmas.Option.{slice_get-map, slice_get_within}
use Rattle.spv_module.specs.Code.{is_function}
use Rattle.spv_module.specs.Instruction.{Instruction}
use Rattle.spv_blocks.specs.Blocks.{Code}
use Rattle.spv_blocks.specs.Cutting.{blocks_of, function_at, function_insts, starts}
use Rattle.spv_blocks.proofs.FoundLaws.{are_counted}
use Rattle.spv_walk.specs.Rules.{Broken, IsFirst}
use Rattle.spv_exits.specs.Exits.{AreNestedTogether, functions_of}
use Rattle.spv_exits.proofs.OneNumber.{one-number}
use Rattle.spv_functions.specs.Functions.{is_pointer}
use Rattle.spv_functions.proofs.Declared.{function_is}
use Rattle.spv_module_rules.specs.Kept.{AreUnbroken}

-- each of some functions breaks no rule
abbrev pub EachUnbroken : (is_pointer : ℕ → Bool) → List Code → Type 0
EachUnbroken is_pointer fs = (k : ℕ) (f : Code) → slice_get fs k ≡ Some f → IsFirst (Broken is_pointer f) None

-- induction on the functions
pub one-together : (is_pointer : ℕ → Bool) (fs : List Code) (m n : ℕ) → EachUnbroken is_pointer fs → AreNestedTogether fs m
    → AreNestedTogether fs n → m ≡ n
one-together is_pointer [] m n each one other = one ∙ sym other
one-together is_pointer (f ∷ fs) m n each one other =
    let here : one.0 ≡ other.0 = one-number is_pointer f one.0 other.0 (each 0 f refl) one.2 other.2 in
    let later : one.1 ≡ other.1 = one-together is_pointer fs one.1 other.1 (λ k g at. each (suc k) g at) one.3 other.3 in
    let first = one.4 in
    let second = other.4 in
    omega arith

code_at : List Instruction → ℕ → Code
code_at insts first = blocks_of (function_at first insts)

some_code : (insts : List Instruction) (k : ℕ) (f : Code) (start : Option ℕ) → AreUnbroken insts → slice_get (starts insts) k ≡ start →
    option_map (λ first. blocks_of (function_at first insts)) start ≡ Some f → IsFirst (Broken (is_pointer insts) f) None
some_code insts k f None unbroken at is = absurd (cc (is))
some_code insts k f (Some first) unbroken at is =
    let within : k < count_by is_function insts = subst (λ n. k < n) (are_counted insts) (slice_get_within (starts insts) k first at) in
    let same : blocks_of (function_insts k insts) ≡ f = ap blocks_of (function_is insts k first at) ∙ ap (λ o. unwrap_or o f) is in
    subst (λ g. IsFirst (Broken (is_pointer insts) g) None) same (unbroken k within)

-- the functions of a module, by their places in the list of all
pub each-unbroken : (insts : List Instruction) → AreUnbroken insts → EachUnbroken (is_pointer insts) (functions_of insts)
each-unbroken insts unbroken k f at =
    some_code insts k f (slice_get (starts insts) k) unbroken refl
    (sym (slice_get-map (λ first. blocks_of (function_at first insts)) (starts insts) k) ∙ at)
