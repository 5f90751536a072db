-- The least rule of one instruction from those of each crate, and where the next instruction stands, over equal lists of instructions.
use Rattle.std.proofs.Common.{◌≡◌, ℕ, ◌+◌, true, false, cond, List, [], Option, Some, refl, sym, ap, subst, ◌∙◌}
use Rattle.std.specs.Prelude.{slice_get, Bool}
use Rattle.spv_module.specs.First.{least}
use Rattle.spv_module.specs.Instruction.{Instruction}
use Rattle.spv_arithmetic.specs.Broken.{arithmetic_rules}
use Rattle.spv_composites.specs.Broken.{composite_rules}
use Rattle.spv_signatures.specs.Broken.{signature_rules}
use Rattle.spv_signatures.specs.Contexts.{IsContext}
use Rattle.spv_usage.specs.Broken.{usage_rules}
use Rattle.spv_usage.specs.Stages.{IsStage}
use Rattle.spv_body_rules.specs.declared.standing.Standing.{Standing}
use Rattle.spv_body_rules.specs.Broken.{is_of_functions, rules_in_functions, body_rules}
use Rattle.spv_body_rules.specs.Least.{lesser}
use Rattle.spv_body_rules.specs.Standings.{IsStanding}
use Rattle.spv_body_rules.proofs.Leasts.{least-of-four}

pub least-in-functions : (insts kinds forms tables signatures : List Instruction) (k : ℕ) (i : Instruction) (standing : Standing) (a b c d : Option ℕ) →
    kinds ≡ insts → forms ≡ insts → tables ≡ insts → signatures ≡ insts →
    a ≡ least (arithmetic_rules kinds i) → b ≡ least (composite_rules forms i) →
    ((n : ℕ) → IsStage tables n standing.stage → c ≡ least (usage_rules tables n i)) →
    ((n : ℕ) → IsContext signatures n standing.context → d ≡ least (signature_rules signatures n i)) →
    IsStanding insts k standing → lesser a (lesser b (lesser c d)) ≡ least (rules_in_functions insts k i)
least-in-functions insts kinds forms tables signatures k i standing a b c d e f g h arithmetic composite usage signature is =
    least-of-four (arithmetic_rules insts i) (composite_rules insts i) (usage_rules insts k i) (signature_rules insts k i) a b c d
    (arithmetic ∙ ap (λ (js : List Instruction). least (arithmetic_rules js i)) e)
    (composite ∙ ap (λ (js : List Instruction). least (composite_rules js i)) f)
    (usage k (subst (λ (js : List Instruction). IsStage js k standing.stage) (sym g) is.stage) ∙ ap (λ (js : List Instruction). least (usage_rules js k i)) g)
    (signature k (subst (λ (js : List Instruction). IsContext js k standing.context) (sym h) is.context) ∙ ap (λ (js : List Instruction). least (signature_rules js k i)) h)

-- an instruction of functions, and every other one
pub rules-inside : (insts : List Instruction) (k : ℕ) (i : Instruction) → true ≡ is_of_functions insts k i → rules_in_functions insts k i ≡ body_rules insts k i
unfolding body_rules
rules-inside insts k i e = ap (λ (b : Bool). cond b (rules_in_functions insts k i) []) e

pub rules-outside : (insts : List Instruction) (k : ℕ) (i : Instruction) → false ≡ is_of_functions insts k i → [] ≡ body_rules insts k i
unfolding body_rules
rules-outside insts k i e = ap (λ (b : Bool). cond b (rules_in_functions insts k i) []) e

pub least-on-body : (insts rules : List Instruction) (k : ℕ) (i : Instruction) (standing : Standing) (found : Option ℕ) → rules ≡ insts →
    ((n : ℕ) → IsStanding rules n standing → found ≡ least (body_rules rules n i)) → IsStanding insts k standing → found ≡ least (body_rules insts k i)
least-on-body insts rules k i standing found e h is =
    h k (subst (λ (js : List Instruction). IsStanding js k standing) (sym e) is) ∙ ap (λ (js : List Instruction). least (body_rules js k i)) e

pub standing-next : (insts kinds : List Instruction) (k : ℕ) (i : Instruction) (old new : Standing) → kinds ≡ insts →
    ((n : ℕ) → IsStanding kinds n old → slice_get kinds n ≡ Some i → IsStanding kinds (n + 1) new) → IsStanding insts k old → slice_get insts k ≡ Some i → IsStanding insts (k + 1) new
standing-next insts kinds k i old new e h is at =
    subst (λ (js : List Instruction). IsStanding js (k + 1) new) e
    (h k (subst (λ (js : List Instruction). IsStanding js k old) (sym e) is) (ap (λ (js : List Instruction). slice_get js k) e ∙ at))
