-- What reading words as a module answers.
use Rattle.std.specs.Prelude.{◌≡◌, ℕ, ◌==◌, ◌&&◌, nat_lt, nat_le, List, length, Option, Some, None, Result, Ok, Err, ⊤}
use Rattle.spv_base.specs.declared.fault.Fault.{Fault}
use Rattle.spv_base.specs.declared.fault.Fault.TheVariants.{Refused, Nesting, NoMemory}
use Rattle.spv_base.specs.declared.fault.Refusal.{Refusal}
use Rattle.spv_base.specs.declared.header.Header.{Header}
use Rattle.spv_module.specs.Broken.{group_1}
use Rattle.spv_module.specs.Code.{Code, code_of, spelling}
use Rattle.spv_module.specs.First.{first, first_group, least, unless, at_place}
use Rattle.spv_module.specs.Layout.{group_2}

-- the first broken rule of the two groups that `decode` looks at
abbrev pub first_in_decode : List ℕ → Option Refusal
first_in_decode words = first_group (first (group_1 words)) (first (group_2 (length words) (code_of words).insts))

-- the module that the words spell where no rule is broken, else the first broken rule; or memory was wanting
abbrev pub Decodes : List ℕ → Result Code Fault → Type 0
Decodes words (Ok code) = (first_in_decode words ≡ None) × (code ≡ code_of words) × (spelling code ≡ words)
Decodes words (Err (Refused refusal)) = first_in_decode words ≡ Some refusal
Decodes words (Err Nesting) = ⊥
Decodes words (Err NoMemory) = ⊤

-- the first broken rule of a header
abbrev pub header_broken : Header → Option Refusal
header_broken header =
    at_place 1 (least (unless (header.version == 0x0001_0600) 101))
    (at_place 3 (least (unless (nat_lt 0 header.bound && nat_le header.bound 4194303) 103))
    (at_place 4 (least (unless (header.schema == 0) 102)) None))
