-- What the optimiser makes of the bytes of its input.
use Rattle.std.specs.Prelude.{◌≡◌, ℕ, List, Result, Ok, Err, ⊤}
use Rattle.spv_profile.specs.Profile.{IsInProfile, IsModule, IsRefused, IsTooNested}
use Rattle.spv_base.specs.declared.fault.Fault.{Fault}
use Rattle.spv_base.specs.declared.fault.Fault.TheVariants as faults
use Rattle.spv_base.specs.declared.fault.Refusal.{Refusal}
use Rattle.spv_module.specs.Code.{Code, code_of, spelling}
use Rattle.spv_norm.specs.Norm.{IsNorm}
use Rattle.spv_words.specs.declared.fault.WordsFault.{WordsFault}
use Rattle.spv_words.specs.declared.fault.WordsFault.TheVariants.{ShortInput, OddLength, NotSpirv, NoMemory}
use Rattle.spv_words.specs.Words.{words_in, bytes_of_words}
use Rattle.spv_stripped.specs.Strip.{stripped}

-- the rule that bytes break; want of memory is none
abbrev pub byte_rule : WordsFault → ℕ
byte_rule ShortInput = 1
byte_rule OddLength = 2
byte_rule NotSpirv = 3
byte_rule NoMemory = 0

abbrev pub at : ℕ → ℕ → Refusal
at place rule = record { rule = rule; at = place }

-- The bytes are words that the profile admits.
pub record InProfile (bytes : List ℕ) : Type 0 where
  pub words : List ℕ
  pub read : words_in bytes ≡ Ok words
  pub admitted : IsInProfile words

-- The bytes are words of which a function nests too deep, and no rule up to those on control flow is broken.
pub record TooNested (bytes : List ℕ) : Type 0 where
  pub words : List ℕ
  pub read : words_in bytes ≡ Ok words
  pub nested : IsTooNested words

-- the rule that the bytes break, or else the first one that their words break
abbrev pub BreaksFirst : Result (List ℕ) WordsFault → Refusal → Type 0
BreaksFirst (Err fault) refusal = refusal ≡ at 0 (byte_rule fault)
BreaksFirst (Ok words) refusal = IsRefused words refusal

-- The bytes are words that the profile admits, and the module is their normal form.
pub record HasNorm (bytes : List ℕ) (norm : Code) : Type 0 where
  pub words : List ℕ
  pub read : words_in bytes ≡ Ok words
  pub admitted : IsInProfile words
  pub normal : IsNorm (code_of words) norm

-- The output is the spelling of the normal form without what says something of its source alone, which is a module of the profile in normal form.
pub record IsOutput (bytes output : List ℕ) : Type 0 where
  pub norm : Code
  pub normal : HasNorm bytes norm
  pub spelled : output ≡ bytes_of_words (spelling (stripped norm))
  pub whole : IsModule (code_of (spelling (stripped norm)))

-- the bytes to be written for an input, or why it is refused
abbrev pub IsAnswer : (bytes : List ℕ) → Result (List ℕ) Refusal → Type 0
IsAnswer bytes (Ok output) = IsOutput bytes output
IsAnswer bytes (Err refusal) = BreaksFirst (words_in bytes) refusal

-- why the code makes nothing of an input; want of memory is free
abbrev pub Fails : (bytes : List ℕ) → Fault → Type 0
Fails bytes (faults.Refused refusal) = IsAnswer bytes (Err refusal)
Fails bytes faults.Nesting = TooNested bytes
Fails bytes faults.NoMemory = ⊤

-- what the code answers
abbrev pub Answers : (bytes : List ℕ) → Result (List ℕ) Fault → Type 0
Answers bytes (Ok output) = IsAnswer bytes (Ok output)
Answers bytes (Err fault) = Fails bytes fault

abbrev pub AnswersNorm : (bytes : List ℕ) → Result Code Fault → Type 0
AnswersNorm bytes (Ok norm) = HasNorm bytes norm
AnswersNorm bytes (Err fault) = Fails bytes fault

-- the fault of bytes that break a rule
abbrev pub ByteFault : WordsFault → Fault → Type 0
ByteFault NoMemory fault = fault ≡ faults.NoMemory
ByteFault broken fault = fault ≡ faults.Refused (at 0 (byte_rule broken))
