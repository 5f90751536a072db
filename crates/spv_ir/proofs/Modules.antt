-- What is so of a module of the profile in normal form.
use Rattle.std.proofs.Common.{◌≡◌, ℕ, ◌<◌, ◌≤◌, List, length, count_by, None, refl, sym, ap, subst, ◌∙◌, arith}
use Rattle.spv_base.specs.declared.fault.Fault.{Fault}
use Rattle.spv_base.specs.declared.fault.Fault.TheVariants as faults
use Rattle.spv_module.specs.Code.{Code, code_of, is_function, spelling}
use Rattle.spv_module.specs.First.{first}
use Rattle.spv_declarations.specs.Broken.{group_3}
use Rattle.spv_blocks.specs.Cutting.{function_insts}
use Rattle.spv_walk.specs.Rules.{IsFirst}
use Rattle.spv_functions.specs.Functions.{Refuses, is_pointer}
use Rattle.spv_control.specs.Control.{BrokenInSome, NestsTooDeep}
use Rattle.spv_norm.specs.Norm.{IsNorm}
use Rattle.spv_tree.specs.Tree.{words_of}
use Rattle.spv_profile.specs.Profile.{IsModule}
use Rattle.spv_norm_profile.proofs.Words.{same_bound, same_spelling}
use Rattle.spv_admission.proofs.Answering.{declared_insts, spelled_rise}
use Rattle.spv_ir.specs.Laws.{AdmittedAgain, IsReady, ModulesAreReady}

-- ---- ready for tables and trees

module _ (code : Code) (h : IsModule code) where
  abbrev words : List ℕ
  words = spelling code

  abbrev same : code ≡ code_of words
  same = sym h.placed

  long : 5 ≤ length words
  long = omega arith

  declared : first (group_3 code.insts) ≡ None
  declared = subst (λ (c : Code). first (group_3 c.insts) ≡ None) h.placed h.profile.structured.front.front.declared

  unbroken : IsFirst (BrokenInSome code.insts) None
  unbroken = subst (λ (c : Code). IsFirst (BrokenInSome c.insts) None) h.placed h.profile.structured.front.unbroken

  shallow : NestsTooDeep code.insts → ⊥
  shallow = subst (λ (c : Code). NestsTooDeep c.insts → ⊥) h.placed h.profile.structured.shallow

  ready : IsReady code
  ready = record {
    rises = spelled_rise words code long same;
    declared = declared_insts words code same h.profile.structured.front.front.decoded declared;
    unbroken = λ f is rule at b. unbroken rule at (record { function = f; is = is; broken = b });
    shallow = λ f is d. shallow (record { function = f; is = is; deep = d });
  }

pub modules_are_ready : ModulesAreReady
modules_are_ready code h = ready code h

-- the tree of a function is wanting only for want of memory
pub body_wants_memory : (code : Code) → IsModule code → (f : ℕ) → f < count_by is_function code.insts → (fault : Fault) →
    Refuses (is_pointer code.insts) (function_insts f code.insts) fault → fault ≡ faults.NoMemory
body_wants_memory code h f is (faults.Refused refusal) least = absurd ((modules_are_ready code h).unbroken f is refusal.rule refusal.at least.broken)
body_wants_memory code h f is faults.Nesting deep = absurd ((modules_are_ready code h).shallow f is deep)
body_wants_memory code h f is faults.NoMemory _ = refl

-- ---- admitted again

pub admitted_again : AdmittedAgain
admitted_again code answer h g a =
    let normal : IsNorm code answer = subst (λ (c : Code). IsNorm c answer) h.placed a.1 in
    let lines : words_of answer.insts ≡ words_of code.insts = normal.lines ∙ sym h.normal.lines in
    let header : answer.header ≡ code.header =
    normal.header ∙ ap (λ (b : ℕ). record code.header { bound = b }) (same_bound answer.insts code.insts lines) ∙ sym h.normal.header in
    sym g.placed ∙ ap code_of (same_spelling answer code header lines) ∙ h.placed
