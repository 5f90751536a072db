-- An input has one answer at most: the normal form is told by its lines, which the input tells, and the cases of admission exclude each other.
use Rattle.std.proofs.Common.{◌≡◌, ℕ, ◌+◌, Bool, true, false, cond, List, [], ◌∷◌, Result, Ok, Err, refl, sym, ap, subst, ◌∙◌}
use Rattle.std.specs.Prelude.{filter}
use Rattle.std.specs.List.{flat_map}
use Rattle.std.proofs.lemmas.List.Folds.{flat_map-map}
use Rattle.spv_profile.proofs.OneAnswer.{one_answer as one_admission}
use Rattle.spv_base.specs.declared.fault.Refusal.{Refusal}
use Rattle.spv_base.specs.declared.header.Header.{Header}
use Rattle.spv_bound.specs.Bound.{bound_of_ids, greatest, named_ids, words_with}
use Rattle.spv_grammar.specs.Roles.{names_id}
use Rattle.spv_module.specs.Code.{Code, code_of, spelling}
use Rattle.spv_module.specs.Instruction.{Instruction}
use Rattle.spv_norm.specs.Norm.{norm_lines}
use Rattle.spv_tree.specs.Tree.{words_of}
use Rattle.spv_words.specs.declared.fault.WordsFault.{WordsFault}
use Rattle.spv_words.specs.Words.{words_in, bytes_of_words}
use Rattle.opt_top.specs.Answer.{BreaksFirst, InProfile, IsOutput}
use Rattle.opt_top.specs.Laws.{NoneTooNested, OneAnswer}
use Rattle.spv_stripped.specs.Strip.{stays, stripped, stripped_insts}
use Rattle.opt_top.proofs.Completing.{breaks_none, nests_none}

-- ---- what is written, by the lines of the normal form

-- an instruction with these words, wherever it stands
abbrev with_words : List ℕ → Instruction
with_words ws = record { offset = 0; words = ws }

abbrev staying : List (List ℕ) → List (List ℕ)
staying lines = filter (λ ws. stays (with_words ws)) lines

kept_or_gone : (b : Bool) (i : Instruction) (is : List Instruction) → words_of (cond b (i ∷ is) is) ≡ cond b (i.words ∷ words_of is) (words_of is)
kept_or_gone true i is = refl
kept_or_gone false i is = refl

-- by induction on the instructions
kept_lines : (insts : List Instruction) → words_of (stripped_insts insts) ≡ staying (words_of insts)
kept_lines [] = refl
kept_lines (i ∷ is) =
    kept_or_gone (stays i) i (stripped_insts is) ∙ ap (λ (lines : List (List ℕ)). cond (stays i) (i.words ∷ lines) lines) (kept_lines is)

abbrev ids_in : List ℕ → List ℕ
ids_in ws = words_with names_id (with_words ws)

-- the header with the bound that the lines ask for, and the lines
abbrev written : Header → List (List ℕ) → List ℕ
written header lines =
    0x0723_0203 ∷ header.version ∷ header.generator ∷ (greatest (flat_map ids_in lines) + 1) ∷ header.schema ∷ flat_map (λ ws. ws) lines

norm_is_written : (header : Header) (lines : List (List ℕ)) (norm : Code) → words_of norm.insts ≡ lines
    → norm.header ≡ record header { bound = bound_of_ids norm.insts } → spelling (stripped norm) ≡ written header (staying lines)
unfolding bound_of_ids
norm_is_written header lines norm e h =
    let kept : words_of (stripped_insts norm.insts) ≡ staying lines = kept_lines norm.insts ∙ ap staying e in
    let ids : named_ids (stripped_insts norm.insts) ≡ flat_map ids_in (staying lines) =
    sym (flat_map-map ids_in (λ (i : Instruction). i.words) (stripped_insts norm.insts)) ∙ ap (flat_map ids_in) kept in
    let text : flat_map (λ (i : Instruction). i.words) (stripped_insts norm.insts) ≡ flat_map (λ (ws : List ℕ). ws) (staying lines) =
    sym (flat_map-map (λ (ws : List ℕ). ws) (λ (i : Instruction). i.words) (stripped_insts norm.insts)) ∙ ap (flat_map (λ (ws : List ℕ). ws)) kept in
    λ j. 0x0723_0203 ∷ (h j).version ∷ (h j).generator ∷ (greatest (ids j) + 1) ∷ (h j).schema ∷ text j

-- the bytes to be written for words
abbrev output_of : List ℕ → List ℕ
output_of words = bytes_of_words (written (code_of words).header (staying (norm_lines (code_of words).insts)))

is_output_of : (bytes output : List ℕ) (h : IsOutput bytes output) → output ≡ output_of h.normal.words
is_output_of bytes output h =
    let code : Code = code_of h.normal.words in
    h.spelled ∙ ap bytes_of_words (norm_is_written code.header (norm_lines code.insts) h.norm h.normal.normal.lines h.normal.normal.header)

one_output : (bytes a b : List ℕ) → IsOutput bytes a → IsOutput bytes b → a ≡ b
one_output bytes a b h k =
    let same : h.normal.words ≡ k.normal.words = cc (h.normal.read, k.normal.read) in
    is_output_of bytes a h ∙ ap output_of same ∙ sym (is_output_of bytes b k)

-- ---- the cases exclude each other

in_profile : (bytes output : List ℕ) → IsOutput bytes output → InProfile bytes
in_profile bytes output h = record { words = h.normal.words; read = h.normal.read; admitted = h.normal.admitted }

broken_once : (read : Result (List ℕ) WordsFault) (a b : Refusal) → BreaksFirst read a → BreaksFirst read b → a ≡ b
broken_once (Err fault) a b h k = h ∙ sym k
broken_once (Ok words) a b h k = (one_admission words).one a b h k

pub one_answer : OneAnswer
one_answer bytes (Ok a) (Ok b) h k = ap Ok (one_output bytes a b h k)
one_answer bytes (Ok a) (Err s) h k = absurd (breaks_none bytes s (in_profile bytes a h) k)
one_answer bytes (Err r) (Ok b) h k = absurd (breaks_none bytes r (in_profile bytes b k) h)
one_answer bytes (Err r) (Err s) h k = ap Err (broken_once (words_in bytes) r s h k)

pub none_too_nested : NoneTooNested
none_too_nested bytes (Ok a) h deep = nests_none bytes (in_profile bytes a h) deep
none_too_nested bytes (Err r) h deep =
    (one_admission deep.words).not_too_nested r (subst (λ (read : Result (List ℕ) WordsFault). BreaksFirst read r) deep.read h) deep.nested
