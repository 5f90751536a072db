-- The steps from bytes to a module and back answer what is said of the bytes.
use Rattle.std.proofs.Common.{◌≡◌, ℕ, ◌<◌, ◌^◌, List, Result, Ok, Err, refl, sym, ap, subst}
use Rattle.spv_admission.specs.Admission.{Admits, HasTrees}
use Rattle.spv_base.specs.declared.fault.Fault.{Fault}
use Rattle.spv_base.specs.declared.fault.Fault.TheVariants as faults
use Rattle.spv_base.specs.declared.fault.Fault.TheVariants.{Refused, Nesting}
use Rattle.spv_base.specs.declared.header.Header.{Header}
use Rattle.spv_bound.specs.Bound.{bound_of_ids}
use Rattle.spv_module.specs.Code.{Code, code_of, spelling}
use Rattle.spv_norm_means.specs.Laws.{MeansAsMuch}
use Rattle.spv_profile.specs.Profile.{IsModule}
use Rattle.spv_words.specs.declared.fault.WordsFault.{WordsFault}
use Rattle.spv_words.specs.declared.fault.WordsFault.TheVariants.{ShortInput, OddLength, NotSpirv, NoMemory}
use Rattle.spv_words.specs.Words.{Reads, words_in, bytes_of_words}
use Rattle.opt_top.specs.Answer.{Answers, AnswersNorm, BreaksFirst, ByteFault, Fails, HasNorm, IsOutput, at, byte_rule}
use Rattle.spv_stripped.specs.Strip.{stripped}

-- ---- bytes that are no words

broken_bytes : (bytes : List ℕ) (fault : WordsFault) (answer : Fault) → words_in bytes ≡ Err fault → answer ≡ Refused (at 0 (byte_rule fault))
    → Fails bytes answer
broken_bytes bytes fault answer read same =
    subst (Fails bytes) (sym same) (subst (λ (r : Result (List ℕ) WordsFault). BreaksFirst r (at 0 (byte_rule fault))) (sym read) refl)

-- bytes that break a rule
pub bytes_refused : (bytes : List ℕ) (fault : WordsFault) (answer : Fault) → Reads bytes (Err fault) → ByteFault fault answer → Fails bytes answer
bytes_refused bytes ShortInput answer h e = broken_bytes bytes ShortInput answer h e
bytes_refused bytes OddLength answer h e = broken_bytes bytes OddLength answer h e
bytes_refused bytes NotSpirv answer h e = broken_bytes bytes NotSpirv answer h e
bytes_refused bytes NoMemory answer h e = subst (Fails bytes) (sym e) tt

-- ---- words

-- words that are not admitted
words_fail : (bytes words : List ℕ) (fault : Fault) → words_in bytes ≡ Ok words → Admits words (Err fault) → Fails bytes fault
words_fail bytes words (Refused refusal) read h = subst (λ (r : Result (List ℕ) WordsFault). BreaksFirst r refusal) (sym read) h
words_fail bytes words Nesting read h = record { words = words; read = read; nested = h }
words_fail bytes words faults.NoMemory read h = tt

pub words_refused : (bytes words : List ℕ) (fault : Fault) (admitted answer : Result Code Fault) → words_in bytes ≡ Ok words → admitted ≡ Err fault
    → answer ≡ Err fault → Admits words admitted → AnswersNorm bytes answer
words_refused bytes words fault admitted answer read is same h =
    subst (AnswersNorm bytes) (sym same) (words_fail bytes words fault read (subst (Admits words) is h))

-- words that are
pub words_admitted : (bytes words : List ℕ) (norm : Code) → words_in bytes ≡ Ok words → Admits words (Ok norm) → HasNorm bytes norm
words_admitted bytes words norm read h = record { words = words; read = read; admitted = h.0; normal = h.1 }

-- their normal form makes their accesses
pub norm_means : (bytes words : List ℕ) (norm : Code) → words_in bytes ≡ Ok words → Admits words (Ok norm) →
    (others : List ℕ) → words_in bytes ≡ Ok others → MeansAsMuch (code_of others) norm
norm_means bytes words norm read h others again =
    let same : words ≡ others = cc (read, again) in
    subst (λ (ws : List ℕ). MeansAsMuch (code_of ws) norm) same h.2

-- it is a module of the profile, with trees
pub norm_is_whole : (words : List ℕ) (norm : Code) → Admits words (Ok norm) → IsModule (code_of (spelling norm)) × HasTrees (code_of (spelling norm)).insts
norm_is_whole words norm h = (h.3, h.4)

-- and its bound is the one in its header
pub norm_bound : (words : List ℕ) (norm : Code) → Admits words (Ok norm) → norm.header.bound < 2 ^ 32 → bound_of_ids norm.insts < 2 ^ 32
norm_bound words norm h small = subst (λ (n : ℕ). n < 2 ^ 32) (ap (λ (header : Header). header.bound) h.1.header) small

-- ---- the output

-- what refuses the module refuses the input
pub fails_alike : (bytes : List ℕ) (fault : Fault) (norm : Result Code Fault) (answer : Result (List ℕ) Fault) → norm ≡ Err fault → answer ≡ Err fault
    → AnswersNorm bytes norm → Answers bytes answer
fails_alike bytes fault norm answer is same h = subst (Answers bytes) (sym same) (subst (AnswersNorm bytes) is h)

-- the bytes of a normal form
pub norm_written : (bytes output : List ℕ) (norm : Code) → HasNorm bytes norm → output ≡ bytes_of_words (spelling (stripped norm))
    → IsModule (code_of (spelling (stripped norm))) → IsOutput bytes output
norm_written bytes output norm h e whole = record { norm = norm; normal = h; spelled = e; whole = whole }
