-- Runs of instructions, one after the other.
use Rattle.std.proofs.Common.{◌≡◌, inl, inr, ℕ, ◌+◌, ◌<◌, ◌≤◌, Bool, true, false, not, List, [], ◌∷◌, ◌++◌, length, get_or, take, drop, map, filter, Option, Some, None, refl, sym, ap, ◌∙◌, arith, append-nil}
use Rattle.std.specs.List.{slice_get}
use Rattle.std.specs.Option.{option_map}
use Rattle.std.proofs.lemmas.List.{map-append, length-map, drop_all}
use Rattle.std.proofs.lemmas.List.Elements.{filter-append}
use Rattle.std.proofs.lemmas.Option.{slice_get-map, slice_get_read, slice_get_within, slice_get_cases}
use Rattle.spv_module.specs.Code.{is_line}
use Rattle.spv_module.specs.Instruction.{Instruction}
use Rattle.spv_blocks.proofs.Slices.{take-at, drop-at, slice-at, front-goes_on, front-stops, front-ends}
use Rattle.spv_normal.specs.Lines.{without_marks}
use Rattle.spv_tree.specs.Tree.{words_of}
use Rattle.spv_sources.specs.Tail.{is_phi_inst, phi_insts, behind_phi_insts, is_stop, before_stop, from_stop}

-- ---- instructions but line marks

abbrev pub plain : Instruction → Bool
plain i = not (is_line i)

pub kept-more : (insts : List Instruction) (k : ℕ) (i : Instruction) (numbers numbers2 : List ℕ) → slice_get insts k ≡ Some i → is_line i ≡ false
    → numbers2 ≡ numbers ++ k ∷ []
    → map (slice_get insts) numbers ≡ map Some (without_marks (take k insts)) → map (slice_get insts) numbers2 ≡ map Some (without_marks (take (k + 1) insts))
kept-more insts k i numbers numbers2 at none pushed told =
    let one : filter plain (i ∷ []) ≡ i ∷ [] = rw none refl in
    ap (map (slice_get insts)) pushed ∙ map-append (slice_get insts) numbers (k ∷ []) ∙ ap (λ z. z ++ slice_get insts k ∷ []) told ∙ ap (λ o. map Some (without_marks (take k insts)) ++ o ∷ []) at
    ∙ sym (ap (λ z. map Some (without_marks z)) (take-at insts k i at) ∙ ap (map Some) (filter-append plain (take k insts) (i ∷ []) ∙ ap (λ z. without_marks (take k insts) ++ z) one)
    ∙ map-append Some (without_marks (take k insts)) (i ∷ []))

pub kept-other : (insts : List Instruction) (k : ℕ) (i : Instruction) (numbers : List ℕ) → slice_get insts k ≡ Some i → is_line i ≡ true
    → map (slice_get insts) numbers ≡ map Some (without_marks (take k insts)) → map (slice_get insts) numbers ≡ map Some (without_marks (take (k + 1) insts))
kept-other insts k i numbers at mark told =
    let none : filter plain (i ∷ []) ≡ [] = rw mark refl in
    told ∙ sym (ap (λ z. map Some (without_marks z)) (take-at insts k i at) ∙ ap (map Some) (filter-append plain (take k insts) (i ∷ []) ∙ ap (λ z. without_marks (take k insts) ++ z) none ∙ append-nil (without_marks (take k insts))))

pub kept-count : (insts : List Instruction) (numbers : List ℕ) → map (slice_get insts) numbers ≡ map Some (without_marks insts)
    → length numbers ≡ length (without_marks insts)
kept-count insts numbers told = sym (length-map numbers (slice_get insts)) ∙ ap length told ∙ length-map (without_marks insts) Some

some_of : (o : Option Instruction) (n : ℕ) (insts : List Instruction) → option_map Some o ≡ Some (slice_get insts n) → o ≡ slice_get insts n
some_of None n insts e = absurd (cc (e))
some_of (Some i) n insts e = cc

-- the k-th that is left
pub kept-at : (insts : List Instruction) (numbers : List ℕ) (k n : ℕ) → map (slice_get insts) numbers ≡ map Some (without_marks insts)
    → k < length (without_marks insts)
    → n ≡ get_or numbers k n → slice_get (without_marks insts) k ≡ slice_get insts n
kept-at insts numbers k n told here is =
    let at = slice_get_read numbers (length (without_marks insts)) k n (sym (kept-count insts numbers told)) here is in
    some_of (slice_get (without_marks insts) k) n insts
    (sym (slice_get-map Some (without_marks insts) k) ∙ ap (λ z. slice_get z k) (sym told) ∙ slice_get-map (slice_get insts) numbers k ∙ ap (option_map (slice_get insts)) at)

pub kept-within : (insts : List Instruction) (numbers : List ℕ) (k n : ℕ) → map (slice_get insts) numbers ≡ map Some (without_marks insts)
    → k < length (without_marks insts)
    → n ≡ get_or numbers k n → n < length insts
kept-within insts numbers k n told here is = elim (slice_get_cases (without_marks insts) k).1 [
  | inl found ↦ slice_get_within insts n found.0 (sym (kept-at insts numbers k n told here is) ∙ found.2)
  | inr past ↦ absurd (omega (arith, past.0))
]

-- ---- OpPhi

pub phis-goes_on : (insts : List Instruction) (from k : ℕ) (i : Instruction) → from ≤ k → slice_get insts k ≡ Some i → is_phi_inst i ≡ true
    → phi_insts (drop from insts) ≡ drop from (take k insts) ++ phi_insts (drop k insts) → phi_insts (drop from insts) ≡ drop from (take (k + 1) insts) ++ phi_insts (drop (k + 1) insts)
phis-goes_on insts from k i h at phi told = front-goes_on phi_insts insts from k i h at (rw phi refl) told

pub behind-goes_on : (insts : List Instruction) (from k : ℕ) (i : Instruction) → slice_get insts k ≡ Some i → is_phi_inst i ≡ true
    → behind_phi_insts (drop from insts) ≡ behind_phi_insts (drop k insts) → behind_phi_insts (drop from insts) ≡ behind_phi_insts (drop (k + 1) insts)
behind-goes_on insts from k i at phi told = told ∙ ap behind_phi_insts (drop-at insts k i at) ∙ rw phi refl

pub phis-stop : (insts : List Instruction) (from k : ℕ) (i : Instruction) → slice_get insts k ≡ Some i → is_phi_inst i ≡ false
    → phi_insts (drop from insts) ≡ drop from (take k insts) ++ phi_insts (drop k insts) → drop from (take k insts) ≡ phi_insts (drop from insts)
phis-stop insts from k i at other told = front-stops phi_insts insts from k i at (rw other refl) told

pub behind-here : (insts : List Instruction) (from k : ℕ) (i : Instruction) → slice_get insts k ≡ Some i → is_phi_inst i ≡ false
    → behind_phi_insts (drop from insts) ≡ behind_phi_insts (drop k insts) → drop k insts ≡ behind_phi_insts (drop from insts)
behind-here insts from k i at other told = sym (told ∙ ap behind_phi_insts (drop-at insts k i at) ∙ rw other (sym (drop-at insts k i at)))

pub phis-end : (insts : List Instruction) (from k : ℕ) → length insts ≤ k → phi_insts (drop from insts) ≡ drop from (take k insts) ++ phi_insts (drop k insts)
    → drop from (take k insts) ≡ phi_insts (drop from insts)
phis-end insts from k past told = front-ends phi_insts insts from k past refl told

pub behind-end : (insts : List Instruction) (from k : ℕ) → length insts ≤ k → behind_phi_insts (drop from insts) ≡ behind_phi_insts (drop k insts)
    → drop k insts ≡ behind_phi_insts (drop from insts)
behind-end insts from k past told = drop_all k insts past ∙ sym (told ∙ ap behind_phi_insts (drop_all k insts past))

-- ---- up to what closes a block

pub steps-goes_on : (insts : List Instruction) (from k : ℕ) (i : Instruction) → from ≤ k → slice_get insts k ≡ Some i → is_stop i ≡ false
    → before_stop (drop from insts) ≡ drop from (take k insts) ++ before_stop (drop k insts) → before_stop (drop from insts) ≡ drop from (take (k + 1) insts) ++ before_stop (drop (k + 1) insts)
steps-goes_on insts from k i h at step told = front-goes_on before_stop insts from k i h at (rw step refl) told

pub from-goes_on : (insts : List Instruction) (from k : ℕ) (i : Instruction) → slice_get insts k ≡ Some i → is_stop i ≡ false
    → from_stop (drop from insts) ≡ from_stop (drop k insts) → from_stop (drop from insts) ≡ from_stop (drop (k + 1) insts)
from-goes_on insts from k i at step told = told ∙ ap from_stop (drop-at insts k i at) ∙ rw step refl

pub steps-stop : (insts : List Instruction) (from k : ℕ) (i : Instruction) → slice_get insts k ≡ Some i → is_stop i ≡ true
    → before_stop (drop from insts) ≡ drop from (take k insts) ++ before_stop (drop k insts) → drop from (take k insts) ≡ before_stop (drop from insts)
steps-stop insts from k i at stop told = front-stops before_stop insts from k i at (rw stop refl) told

pub from-here : (insts : List Instruction) (from k : ℕ) (i : Instruction) → slice_get insts k ≡ Some i → is_stop i ≡ true
    → from_stop (drop from insts) ≡ from_stop (drop k insts) → drop k insts ≡ from_stop (drop from insts)
from-here insts from k i at stop told = sym (told ∙ ap from_stop (drop-at insts k i at) ∙ rw stop (sym (drop-at insts k i at)))

pub steps-end : (insts : List Instruction) (from k : ℕ) → length insts ≤ k
    → before_stop (drop from insts) ≡ drop from (take k insts) ++ before_stop (drop k insts)
    → drop from (take k insts) ≡ before_stop (drop from insts)
steps-end insts from k past told = front-ends before_stop insts from k past refl told

pub from-end : (insts : List Instruction) (from k : ℕ) → length insts ≤ k → from_stop (drop from insts) ≡ from_stop (drop k insts)
    → drop k insts ≡ from_stop (drop from insts)
from-end insts from k past told = drop_all k insts past ∙ sym (told ∙ ap from_stop (drop_all k insts past))

-- ---- words of a run

pub words-more : (insts : List Instruction) (from k : ℕ) (i : Instruction) (front front2 : List (List ℕ)) → from ≤ k → slice_get insts k ≡ Some i
    → front2 ≡ front ++ i.words ∷ []
    → front ≡ words_of (drop from (take k insts)) → front2 ≡ words_of (drop from (take (k + 1) insts))
words-more insts from k i front front2 h at more told =
    more ∙ ap (λ z. z ++ i.words ∷ []) told ∙ sym (ap words_of (slice-at insts from k i h at) ∙ map-append (λ (j : Instruction). j.words) (drop from (take k insts)) (i ∷ []))
