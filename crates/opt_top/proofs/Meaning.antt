-- What is written means what was read: the normal form makes the accesses of the module, and of it only instructions that say nothing went.
use Rattle.std.proofs.Common.{◌≡◌, ℕ, suc, true, false, List, [], ◌∷◌, Some, Ok, refl, sym, subst, ◌∙◌, arith}
use Rattle.std.proofs.lemmas.Bool.Decides.{nat_tests}
use Rattle.interleaving.specs.Keeps as alone
use Rattle.interleaving.specs.Trace.{Traces}
use Rattle.spv_grammar.specs.declared.kind.Role.{Role}
use Rattle.spv_machine.specs.Access.{Access}
use Rattle.spv_machine.specs.Alike.{SameAccess}
use Rattle.spv_machine.specs.Dispatch.{Dispatch, specialised}
use Rattle.spv_machine.specs.Laws.{MeansSame, SameFinals}
use Rattle.spv_machine.specs.Machine.{Ends, Fits, Trace}
use Rattle.spv_machine.proofs.Schedules.{modules_law}
use Rattle.spv_machine.proofs.Silence.{silence_law}
use Rattle.spv_machine.proofs.Spelling.{AllCounted, IsCounted, filtered_counted, spelled_again}
use Rattle.spv_meaning.specs.Statements.{is_silent}
use Rattle.spv_module.specs.Code.{Code, code_of, spelling}
use Rattle.spv_module.specs.Instruction.{Instruction, IsInstruction, roles}
use Rattle.spv_norm_means.specs.Laws.{MeansAsMuch}
use Rattle.spv_spelling.specs.Whole.{AreInstructions}
use Rattle.spv_words.specs.Words.{words_in, HasHeader}
use Rattle.opt_top.specs.Means.{Means}
use Rattle.spv_stripped.specs.Strip.{stays, stripped}

-- ---- a module without what says something of its source alone

is_counted : (words : List ℕ) (parts : List Role) → IsInstruction words parts → IsCounted words
is_counted words parts h = record { some = h.some; counted = h.counted }

-- the word count of each instruction is the number of its words; by induction on the instructions
all_counted : (insts : List Instruction) → AreInstructions insts → AllCounted insts
all_counted [] h = tt
all_counted (i ∷ is) h = (is_counted i.words (roles i) (h 0 i refl), all_counted is (λ k j e. h (suc k) j e))

-- what does not stay says nothing
gone_is_silent : (i : Instruction) → stays i ≡ false → is_silent i ≡ true
gone_is_silent i e = grind (arith, nat_tests)

-- so what is left means the same, also where it is written and read again
pub stripped_means : (code : Code) → AreInstructions code.insts → (d : Dispatch) → MeansSame code (code_of (spelling (stripped code))) d
stripped_means code each d =
    let counted = filtered_counted stays code.insts (all_counted code.insts each) in
    silence_law code (code_of (spelling (stripped code))) stays gone_is_silent (spelled_again (stripped code) counted) d

-- ---- one module makes the accesses of another, and a third means the same as the first

same_traces : (m m2 : Code) (d : Dispatch) (i : ℕ) → MeansSame m m2 d → Trace m d i ≡ Trace m2 d i
same_traces m m2 d i h = sym there where
  there : Trace m2 d i ≡ Trace m d i
  there = λ j. λ n answers. h.trace i n answers j

pub keeps_on : (before norm after : Code) → MeansAsMuch before norm → ((d : Dispatch) → MeansSame norm after d) → MeansAsMuch before after
keeps_on before norm after much same = record {
  accesses = λ d fits i inside.
      subst (λ (t : Traces Access). alone.Keeps (λ a. false) (SameAccess (λ v. Some v)) (Trace before (specialised d d.specialisation) i) t)
      (same_traces norm after d i (same d)) (much.accesses d fits i inside);
  size = λ d. (same d).size ∙ much.size d;
  fits = λ d. (λ h. (same d).fits.0 ((much.fits d).0 h), λ h. (much.fits d).1 ((same d).fits.1 h));
}

-- by the law over schedules: nothing is left out, and each variable stays
same_finals : (before after : Code) → MeansAsMuch before after → (d : Dispatch) → Fits before d → Ends before d → SameFinals before d after d
same_finals before after much d fits ends =
    modules_law before after (λ s. s) (λ a. false) (λ v. Some v) (λ v u w e g. cc (e, g)) (λ a e. absurd (cc e)) much.size much.accesses d fits ends

-- ---- bytes

-- what is written of a normal form means what the input means
pub output_means : (input words output : List ℕ) (norm : Code) → words_in input ≡ Ok words → MeansAsMuch (code_of words) norm
    → ((d : Dispatch) → MeansSame norm (code_of (spelling (stripped norm))) d) → words_in output ≡ Ok (spelling (stripped norm)) → Means input output
output_means input words output norm read much same written =
    let whole = keeps_on (code_of words) norm (code_of (spelling (stripped norm))) much same in
    record {
      before = words;
      after = spelling (stripped norm);
      input_words = read;
      output_words = written;
      accesses = whole.accesses;
      size = whole.size;
      fits = whole.fits;
      finals = same_finals (code_of words) (code_of (spelling (stripped norm))) whole;
    }

-- what a module spells begins with a header
pub spelling_has_header : (code : Code) → HasHeader (spelling code)
spelling_has_header code = record { five = omega arith; magic = refl }
