-- The profile: the modules in which no rule is broken and no function nests too deep; and why another is refused.
use Rattle.std.specs.Prelude.{◌≡◌, ℕ, List, Some, None}
use Rattle.spv_base.specs.declared.fault.Refusal.{Refusal}
use Rattle.spv_module.specs.Code.{Code, code_of, spelling}
use Rattle.spv_module.specs.Decode.{first_in_decode}
use Rattle.spv_module.specs.First.{first}
use Rattle.spv_declarations.specs.Broken.{group_3}
use Rattle.spv_walk.specs.Rules.{IsFirst}
use Rattle.spv_control.specs.Control.{BrokenInSome, NestsTooDeep}
use Rattle.spv_check.specs.Broken.{BrokenInBodies}
use Rattle.spv_module_rules.specs.Broken.{BrokenInWhole}
use Rattle.spv_norm.specs.Norm.{IsNorm}

-- no rule on the header, on instructions, on the layout and on declarations is broken (101 to 109, 201 to 205, 301 to 309)
pub record IsDeclaredModule (words : List ℕ) : Type 0 where
  pub decoded : first_in_decode words ≡ None
  pub declared : first (group_3 (code_of words).insts) ≡ None

-- nor one on structured control flow (401 to 408, 410)
pub record IsUnbrokenModule (words : List ℕ) : Type 0 where
  pub front : IsDeclaredModule words
  pub unbroken : IsFirst (BrokenInSome (code_of words).insts) None

-- and no function nests deeper than 255
pub record IsStructuredModule (words : List ℕ) : Type 0 where
  pub front : IsUnbrokenModule words
  pub shallow : NestsTooDeep (code_of words).insts → ⊥

-- The first broken rule: of the lowest group that has one. The rules on bodies (501 to 507) and on the whole module (601 to 607) count only where no function
-- nests too deep.
pub data IsRefused (words : List ℕ) : Refusal → Type 0 where
  ByDecoding : (r : Refusal) → first_in_decode words ≡ Some r → IsRefused words r
  ByDeclarations : (r : Refusal) → first_in_decode words ≡ None → first (group_3 (code_of words).insts) ≡ Some r → IsRefused words r
  ByControlFlow : (r : Refusal) → IsDeclaredModule words → IsFirst (BrokenInSome (code_of words).insts) (Some r) → IsRefused words r
  ByBodies : (r : Refusal) → IsStructuredModule words → IsFirst (BrokenInBodies (code_of words).insts) (Some r) → IsRefused words r
  ByWhole : (r : Refusal) → IsStructuredModule words → IsFirst (BrokenInBodies (code_of words).insts) None
      → IsFirst (BrokenInWhole (code_of words).insts) (Some r) → IsRefused words r

-- a function nests deeper than 255, and no rule of the groups up to control flow is broken
pub record IsTooNested (words : List ℕ) : Type 0 where
  pub front : IsUnbrokenModule words
  pub deep : NestsTooDeep (code_of words).insts

-- the profile admits the words
pub record IsInProfile (words : List ℕ) : Type 0 where
  pub structured : IsStructuredModule words
  pub bodies : IsFirst (BrokenInBodies (code_of words).insts) None
  pub whole : IsFirst (BrokenInWhole (code_of words).insts) None

-- ---- modules in normal form

-- The profile admits the words of the module, and it is its own normal form: so no function nests deeper than 255, and its bound is one more than its greatest
-- id. Its instructions stand one behind the other, as its words have them.
pub record IsModule (code : Code) : Type 0 where
  pub placed : code_of (spelling code) ≡ code
  pub profile : IsInProfile (spelling code)
  pub normal : IsNorm code code
