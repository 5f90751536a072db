-- Words have one answer: the first broken rule is one, and each answer says of the groups below its own that no rule of them is broken.
use Rattle.std.proofs.Common.{◌≡◌, ◌⊎◌, inl, inr, ℕ, ◌<◌, ◌≤◌, List, Some, None, ap, ◌∙◌, arith}
use Rattle.spv_base.specs.declared.fault.Refusal.{Refusal}
use Rattle.spv_module.specs.Code.{code_of}
use Rattle.spv_module.specs.Decode.{first_in_decode}
use Rattle.spv_module.specs.First.{first}
use Rattle.spv_declarations.specs.Broken.{group_3}
use Rattle.spv_walk.specs.Rules.{IsFirst}
use Rattle.spv_control.specs.Control.{BrokenInSome}
use Rattle.spv_check.specs.Broken.{BrokenInBodies}
use Rattle.spv_module_rules.specs.Broken.{BrokenInWhole}
use Rattle.spv_profile.specs.Profile.{IsDeclaredModule, IsInProfile, IsStructuredModule, IsTooNested, IsUnbrokenModule}
use Rattle.spv_profile.specs.Profile.{IsRefused, ByBodies, ByControlFlow, ByDeclarations, ByDecoding, ByWhole}
use Rattle.spv_profile.specs.Laws.{OneAnswer}

-- ---- the first is one

refusal_same : (r s : Refusal) → r.rule ≡ s.rule → r.at ≡ s.at → r ≡ s
refusal_same r s e f =
    let left : r ≡ record { rule = s.rule; at = r.at } = ap (λ (n : ℕ). let x : Refusal = record { rule = n; at = r.at } in x) e in
    left ∙ ap (λ (n : ℕ). let x : Refusal = record { rule = s.rule; at = n } in x) f

in_order : (r s : Refusal) → (r.at < s.at) ⊎ ((r.at ≡ s.at) × (r.rule ≤ s.rule)) → (s.at < r.at) ⊎ ((s.at ≡ r.at) × (s.rule ≤ r.rule)) → r ≡ s
in_order r s (inl a) (inl b) = absurd (omega arith)
in_order r s (inl a) (inr b) = absurd (let e = b.0 in omega arith)
in_order r s (inr a) (inl b) = absurd (let e = a.0 in omega arith)
in_order r s (inr a) (inr b) = refusal_same r s (let x = a.1 in let y = b.1 in omega arith) a.0

module _ (B : (rule at : ℕ) → Type 0) where
  one_first : (r s : Refusal) → IsFirst B (Some r) → IsFirst B (Some s) → r ≡ s
  one_first r s x y = in_order r s (x.least s.rule s.at y.broken) (y.least r.rule r.at x.broken)

  not_none : (r : Refusal) → IsFirst B (Some r) → IsFirst B None → ⊥
  not_none r x none = none r.rule r.at x.broken

-- ---- each against the others

module _ (words : List ℕ) where
  abbrev Structure : (rule at : ℕ) → Type 0
  Structure = BrokenInSome (code_of words).insts

  abbrev Bodies : (rule at : ℕ) → Type 0
  Bodies = BrokenInBodies (code_of words).insts

  abbrev Whole : (rule at : ℕ) → Type 0
  Whole = BrokenInWhole (code_of words).insts

  -- where no rule up to control flow is broken, a refusal says that no function nests too deep
  past_structure : (r : Refusal) → IsRefused words r → IsUnbrokenModule words → IsStructuredModule words
  past_structure r (ByDecoding q e) u = absurd (cc (e, u.front.decoded))
  past_structure r (ByDeclarations q d e) u = absurd (cc (e, u.front.declared))
  past_structure r (ByControlFlow q d b) u = absurd (not_none Structure r b u.unbroken)
  past_structure r (ByBodies q s b) u = s
  past_structure r (ByWhole q s b w) u = s

  refused_not_nested : (r : Refusal) → IsRefused words r → IsTooNested words → ⊥
  refused_not_nested r x n = (past_structure r x n.front).shallow n.deep

  refused_not_admitted : (r : Refusal) → IsRefused words r → IsInProfile words → ⊥
  refused_not_admitted r (ByDecoding q e) p = cc (e, p.structured.front.front.decoded)
  refused_not_admitted r (ByDeclarations q d e) p = cc (e, p.structured.front.front.declared)
  refused_not_admitted r (ByControlFlow q d b) p = not_none Structure r b p.structured.front.unbroken
  refused_not_admitted r (ByBodies q s b) p = not_none Bodies r b p.bodies
  refused_not_admitted r (ByWhole q s b w) p = not_none Whole r w p.whole

  -- ---- two refusals

  one_decoding : (r s : Refusal) → first_in_decode words ≡ Some r → IsRefused words s → r ≡ s
  one_decoding r s e (ByDecoding q f) = cc (e, f)
  one_decoding r s e (ByDeclarations q d f) = absurd (cc (e, d))
  one_decoding r s e (ByControlFlow q d b) = absurd (cc (e, d.decoded))
  one_decoding r s e (ByBodies q t b) = absurd (cc (e, t.front.front.decoded))
  one_decoding r s e (ByWhole q t b w) = absurd (cc (e, t.front.front.decoded))

  one_declaring : (r s : Refusal) → first_in_decode words ≡ None → first (group_3 (code_of words).insts) ≡ Some r → IsRefused words s → r ≡ s
  one_declaring r s n e (ByDecoding q f) = absurd (cc (n, f))
  one_declaring r s n e (ByDeclarations q d f) = cc (e, f)
  one_declaring r s n e (ByControlFlow q d b) = absurd (cc (e, d.declared))
  one_declaring r s n e (ByBodies q t b) = absurd (cc (e, t.front.front.declared))
  one_declaring r s n e (ByWhole q t b w) = absurd (cc (e, t.front.front.declared))

  one_structure : (r s : Refusal) → IsDeclaredModule words → IsFirst Structure (Some r) → IsRefused words s → r ≡ s
  one_structure r s n e (ByDecoding q f) = absurd (cc (n.decoded, f))
  one_structure r s n e (ByDeclarations q d f) = absurd (cc (n.declared, f))
  one_structure r s n e (ByControlFlow q d b) = one_first Structure r s e b
  one_structure r s n e (ByBodies q t b) = absurd (not_none Structure r e t.front.unbroken)
  one_structure r s n e (ByWhole q t b w) = absurd (not_none Structure r e t.front.unbroken)

  one_bodies : (r s : Refusal) → IsStructuredModule words → IsFirst Bodies (Some r) → IsRefused words s → r ≡ s
  one_bodies r s n e (ByDecoding q f) = absurd (cc (n.front.front.decoded, f))
  one_bodies r s n e (ByDeclarations q d f) = absurd (cc (n.front.front.declared, f))
  one_bodies r s n e (ByControlFlow q d b) = absurd (not_none Structure s b n.front.unbroken)
  one_bodies r s n e (ByBodies q t b) = one_first Bodies r s e b
  one_bodies r s n e (ByWhole q t b w) = absurd (not_none Bodies r e b)

  one_whole : (r s : Refusal) → IsStructuredModule words → IsFirst Bodies None → IsFirst Whole (Some r) → IsRefused words s → r ≡ s
  one_whole r s n c e (ByDecoding q f) = absurd (cc (n.front.front.decoded, f))
  one_whole r s n c e (ByDeclarations q d f) = absurd (cc (n.front.front.declared, f))
  one_whole r s n c e (ByControlFlow q d b) = absurd (not_none Structure s b n.front.unbroken)
  one_whole r s n c e (ByBodies q t b) = absurd (not_none Bodies s b c)
  one_whole r s n c e (ByWhole q t b w) = one_first Whole r s e w

  one_refusal : (r s : Refusal) → IsRefused words r → IsRefused words s → r ≡ s
  one_refusal r s (ByDecoding q e) y = one_decoding r s e y
  one_refusal r s (ByDeclarations q n e) y = one_declaring r s n e y
  one_refusal r s (ByControlFlow q n e) y = one_structure r s n e y
  one_refusal r s (ByBodies q n e) y = one_bodies r s n e y
  one_refusal r s (ByWhole q n c e) y = one_whole r s n c e y

pub one_answer : OneAnswer
one_answer words = record {
  one = one_refusal words;
  not_too_nested = refused_not_nested words;
  not_admitted = refused_not_admitted words;
  shallow = λ p n. p.structured.shallow n.deep;
}
