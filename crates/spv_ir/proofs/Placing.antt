-- What is so of a normal form is so of it with its instructions one behind the other.
use Rattle.std.proofs.Common.{◌≡◌, ℕ, List, Ok, sym, ap, subst, ◌∙◌}
use Rattle.spv_module.specs.Code.{Code, code_of, spelling}
use Rattle.spv_machine.proofs.Silence.{means_same}
use Rattle.spv_machine.proofs.Spelling.{spelled_again}
use Rattle.spv_meaning.specs.Statements.{statements_in}
use Rattle.spv_norm.specs.Norm.{IsNorm}
use Rattle.spv_norm_means.specs.Laws.{MeansAsMuch}
use Rattle.spv_spelling.specs.Whole.{AreInstructions}
use Rattle.spv_tree.specs.Tree.{words_of}
use Rattle.spv_profile.specs.Profile.{IsModule}
use Rattle.spv_norm_profile.proofs.Meaning.{keeps_on}
use Rattle.spv_norm_profile.proofs.Words.{all_counted, same_bound}
use Rattle.spv_admission.specs.Admission.{Admits, HasTrees}

module _ (words : List ℕ) (norm : Code) (each : AreInstructions norm.insts) (a : Admits words (Ok norm)) where
  abbrev after : Code
  after = code_of (spelling norm)

  same : words_of after.insts ≡ words_of norm.insts
  same = spelled_again norm (all_counted norm.insts each)

  normal : IsNorm (code_of words) after
  normal = record {
    lines = same ∙ a.1.lines;
    header = a.1.header ∙ ap (λ (b : ℕ). record (code_of words).header { bound = b }) (sym (same_bound after.insts norm.insts same));
  }

  means : MeansAsMuch (code_of words) after
  means = keeps_on (code_of words) norm after a.2 (λ d. means_same norm after (ap statements_in same) d)

  placed_admits : Admits words (Ok after)
  placed_admits =
      (a.0, normal, means, subst IsModule (sym (a.3.placed)) a.3, subst (λ (c : Code). HasTrees c.insts) (sym (a.3.placed)) a.4)

-- the answer of admission may be placed
pub admits_placed : (words : List ℕ) (norm m : Code) → AreInstructions norm.insts → Admits words (Ok norm) → m ≡ code_of (spelling norm) → Admits words (Ok m)
admits_placed words norm m each a is = subst (λ (c : Code). Admits words (Ok c)) (sym is) (placed_admits words norm each a)

pub admits_module : (words : List ℕ) (norm m : Code) → Admits words (Ok norm) → m ≡ code_of (spelling norm) → IsModule m
admits_module words norm m a is = subst IsModule (sym is) a.3

-- and a module is placed
pub placed_module : (code m : Code) → IsModule code → m ≡ code_of (spelling code) → IsModule m
placed_module code m h is = subst IsModule (sym (is ∙ h.placed)) h
