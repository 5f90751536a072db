-- One module makes the accesses of another, and a third means the same as the first.
use Rattle.std.proofs.Common.{◌≡◌, ℕ, false, Some, sym, subst, ◌∙◌}
use Rattle.interleaving.specs.Keeps as alone
use Rattle.interleaving.specs.Trace.{Traces}
use Rattle.spv_machine.specs.Access.{Access}
use Rattle.spv_machine.specs.Alike.{SameAccess}
use Rattle.spv_machine.specs.Dispatch.{Dispatch, specialised}
use Rattle.spv_machine.specs.Laws.{MeansSame}
use Rattle.spv_machine.specs.Machine.{Trace}
use Rattle.spv_module.specs.Code.{Code}
use Rattle.spv_norm_means.specs.Laws.{MeansAsMuch}

same_traces : (m m2 : Code) (d : Dispatch) (i : ℕ) → MeansSame m m2 d → Trace m d i ≡ Trace m2 d i
same_traces m m2 d i h = sym there where
  there : Trace m2 d i ≡ Trace m d i
  there = λ j. λ n answers. h.trace i n answers j

pub keeps_on : (before norm after : Code) → MeansAsMuch before norm → ((d : Dispatch) → MeansSame norm after d) → MeansAsMuch before after
keeps_on before norm after much same = record {
  accesses = λ d fits i inside.
      subst (λ (t : Traces Access). alone.Keeps (λ a. false) (SameAccess (λ v. Some v)) (Trace before (specialised d d.specialisation) i) t)
      (same_traces norm after d i (same d)) (much.accesses d fits i inside);
  size = λ d. (same d).size ∙ much.size d;
  fits = λ d. (λ h. (same d).fits.0 ((much.fits d).0 h), λ h. (much.fits d).1 ((same d).fits.1 h));
}
