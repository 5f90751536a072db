-- What is told of a module is told of the words that spell it.
use Rattle.std.proofs.Common.{◌≡◌, ℕ, ◌≤◌, List, length, drop, Option, Some, None, Result, Ok, Err, sym, subst, arith}
use Rattle.std.specs.Prelude.{⊤}
use Rattle.std.proofs.lemmas.List.{length-drop}
use Rattle.spv_base.specs.declared.fault.Fault.{Fault}
use Rattle.spv_base.specs.declared.fault.Fault.TheVariants as faults
use Rattle.spv_base.specs.declared.fault.Refusal.{Refusal}
use Rattle.spv_module.specs.Code.{Code, code_of}
use Rattle.spv_module.specs.Decode.{Decodes, first_in_decode}
use Rattle.spv_module.specs.First.{first, first_group}
use Rattle.spv_module.specs.Layout.{group_2}
use Rattle.spv_module.proofs.Decoding.{cut-rises}
use Rattle.spv_declarations.specs.Broken.{group_3}
use Rattle.spv_types.specs.Whole.{Finds, Rises}
use Rattle.spv_walk.specs.Rules.{IsFirst}
use Rattle.spv_spelling.specs.Whole.{AreInstructions}
use Rattle.spv_tree.specs.declared.body.Body.{Body}
use Rattle.spv_functions.specs.Functions.{IsDeclared}
use Rattle.spv_control.specs.Control.{AreParsed, BrokenInSome, NestsTooDeep, Reads}
use Rattle.spv_control.proofs.ControlLaws.{parsed_shallow, parsed_unbroken}
use Rattle.spv_check.specs.Broken.{BrokenInBodies, Checks}
use Rattle.spv_module_rules.specs.Broken.{BrokenInWhole, Checks as ChecksWhole}
use Rattle.spv_norm.specs.Norm.{IsNorm}
use Rattle.spv_norm_means.specs.Laws.{MeansAsMuch}
use Rattle.spv_admitted.proofs.Whole.{admitted_means_as_much}
use Rattle.spv_admission.specs.Admission.{Admits}
use Rattle.spv_profile.specs.Profile.{ByBodies, ByControlFlow, ByDeclarations, ByDecoding, ByWhole, IsDeclaredModule, IsInProfile, IsStructuredModule}
use Rattle.spv_norm_profile.proofs.Whole.{norm_is_module, norm_is_parsed}
use Rattle.spv_admission.proofs.Findings.{find_nothing}

-- the places of the instructions that words spell rise
pub spelled_rise : (words : List ℕ) (code : Code) → 5 ≤ length words → code ≡ code_of words → Rises code.insts
spelled_rise words code five is =
    subst (λ (c : Code). Rises c.insts) (sym is) (length words, cut-rises (length words) 5 0 (drop 5 words) (omega (arith, length-drop 5 words)))

second_none : (one other : Option Refusal) → first_group one other ≡ None → other ≡ None
second_none None other e = e
second_none (Some r) other e = absurd (cc (e))

module _ (words : List ℕ) (code : Code) (is : code ≡ code_of words) where
  pub spelled_declared : first_in_decode words ≡ None → first (group_3 code.insts) ≡ None → IsDeclaredModule words
  spelled_declared decoded declared = record { decoded = decoded; declared = subst (λ (c : Code). first (group_3 c.insts) ≡ None) is declared }

  pub declared_insts : first_in_decode words ≡ None → first (group_3 code.insts) ≡ None → IsDeclared code.insts
  declared_insts decoded declared = record {
    end = length words;
    laid_out = subst (λ (c : Code). first (group_2 (length words) c.insts) ≡ None) (sym is) (second_none _ _ decoded);
    declared = declared;
  }

  module _ (d : IsDeclaredModule words) where
    by_control : (fault : Fault) → Reads code.insts (Err fault) → Admits words (Err fault)
    by_control (faults.Refused r) h = ByControlFlow r d (subst (λ (c : Code). IsFirst (BrokenInSome c.insts) (Some r)) is h)
    by_control faults.Nesting h = record {
      front = record { front = d; unbroken = subst (λ (c : Code). IsFirst (BrokenInSome c.insts) None) is h.0 };
      deep = subst (λ (c : Code). NestsTooDeep c.insts) is h.1;
    }
    by_control faults.NoMemory h = tt

    pub control_told : (fault : Fault) (found : Result (List Body) Fault) (answer : Result Code Fault) → found ≡ Err fault → answer ≡ Err fault
        → Reads code.insts found → Admits words answer
    control_told fault found answer e f h = subst (Admits words) (sym f) (by_control fault (subst (Reads code.insts) e h))

    module _ (bodies : List Body) (p : AreParsed code.insts bodies) where
      read_structured : IsStructuredModule words
      read_structured = record {
        front = record { front = d; unbroken = subst (λ (c : Code). IsFirst (BrokenInSome c.insts) None) is (parsed_unbroken code.insts bodies p) };
        shallow = subst (λ (c : Code). NestsTooDeep c.insts → ⊥) is (parsed_shallow code.insts bodies p);
      }

      by_bodies : (fault : Fault) → Checks (BrokenInBodies code.insts) (Err fault) → Admits words (Err fault)
      by_bodies (faults.Refused r) h = ByBodies r read_structured (subst (λ (c : Code). IsFirst (BrokenInBodies c.insts) (Some r)) is h)
      by_bodies faults.Nesting h = absurd h
      by_bodies faults.NoMemory h = tt

      pub bodies_told : (fault : Fault) (found : Result ⊤ Fault) (answer : Result Code Fault) → found ≡ Err fault → answer ≡ Err fault
          → Checks (BrokenInBodies code.insts) found → Admits words answer
      bodies_told fault found answer e f h = subst (Admits words) (sym f) (by_bodies fault (subst (Checks (BrokenInBodies code.insts)) e h))

      module _ (b : IsFirst (BrokenInBodies code.insts) None) where
        checked : IsFirst (BrokenInBodies (code_of words).insts) None
        checked = subst (λ (c : Code). IsFirst (BrokenInBodies c.insts) None) is b

        abbrev Looks : Result ⊤ Fault → Type 0
        Looks found = ChecksWhole (BrokenInWhole code.insts) found

        by_whole : (fault : Fault) → Looks (Err fault) → Admits words (Err fault)
        by_whole (faults.Refused r) h = ByWhole r read_structured checked (subst (λ (c : Code). IsFirst (BrokenInWhole c.insts) (Some r)) is h)
        by_whole faults.Nesting h = absurd h
        by_whole faults.NoMemory h = tt

        pub whole_told : (fault : Fault) (found : Result ⊤ Fault) (answer : Result Code Fault) → found ≡ Err fault → answer ≡ Err fault → Looks found
            → Admits words answer
        whole_told fault found answer e f h = subst (Admits words) (sym f) (by_whole fault (subst Looks e h))

        profile : IsFirst (BrokenInWhole code.insts) None → IsInProfile words
        profile w = record { structured = read_structured; bodies = checked; whole = subst (λ (c : Code). IsFirst (BrokenInWhole c.insts) None) is w }

        pub all_told : (norm : Code) → IsFirst (BrokenInWhole code.insts) None → AreInstructions code.insts → IsDeclared code.insts → IsNorm code norm
            → Admits words (Ok norm)
        all_told norm w each declared n =
            let normal : IsNorm (code_of words) norm = subst (λ (c : Code). IsNorm c norm) is n in
            let parsed : AreParsed (code_of words).insts bodies = subst (λ (c : Code). AreParsed c.insts bodies) is p in (
              profile w,
              normal,
              subst (λ (c : Code). MeansAsMuch c norm) is (admitted_means_as_much code norm bodies (find_nothing code bodies each declared p b w) n),
              norm_is_module words bodies norm (profile w) parsed normal,
              (bodies, norm_is_parsed words bodies norm (profile w) parsed normal),
            )

-- ---- the words, and the declarations

by_words : (words : List ℕ) (fault : Fault) → Decodes words (Err fault) → Admits words (Err fault)
by_words words (faults.Refused r) h = ByDecoding r h
by_words words faults.Nesting h = absurd h
by_words words faults.NoMemory h = tt

pub words_told : (words : List ℕ) (fault : Fault) (found answer : Result Code Fault) → found ≡ Err fault → answer ≡ Err fault → Decodes words found
    → Admits words answer
words_told words fault found answer e f h = subst (Admits words) (sym f) (by_words words fault (subst (Decodes words) e h))

module _ {T : Type 0} (Holds : T → Type 0) (words : List ℕ) (code : Code) (h : Decodes words (Ok code)) where
  abbrev Declares : Result T Fault → Type 0
  Declares found = Finds (first (group_3 code.insts)) Holds found

  by_declarations : (fault : Fault) → Declares (Err fault) → Admits words (Err fault)
  by_declarations (faults.Refused r) k = ByDeclarations r h.0 (subst (λ (c : Code). first (group_3 c.insts) ≡ Some r) h.1 k)
  by_declarations faults.Nesting k = absurd k
  by_declarations faults.NoMemory k = tt

  pub declarations_told : (fault : Fault) (found : Result T Fault) (answer : Result Code Fault) → found ≡ Err fault → answer ≡ Err fault → Declares found
      → Admits words answer
  declarations_told fault found answer e f k = subst (Admits words) (sym f) (by_declarations fault (subst Declares e k))
