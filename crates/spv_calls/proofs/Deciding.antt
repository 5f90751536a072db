-- Tests that tell of each instruction whether its calls and its interface fit: there are such for each module.
use Rattle.std.proofs.Common.{◌≡◌, ℕ, zero, suc, ◌+◌, ◌<◌, ◌≤◌, ◌⊎◌, Bool, true, false, ◌&&◌, not, List, [], ◌∷◌, ◌++◌, length, replicate, fold, slice_index, Option, Some, None, inl, inr, refl, sym, ap, subst, ◌∙◌, arith}
use Rattle.std.specs.List.{Contains, list_all, slice_get}
use Rattle.std.proofs.lemmas.Bool.{false≢true, cases_lt}
use Rattle.std.proofs.lemmas.List.{get_or_past}
use Rattle.graph.specs.Reaching.{IsReached, IsReachedPast, AreMarks}
use Rattle.graph.specs.Rows.{row, is_marked, IsMarked}
use Rattle.graph.specs.Walks.{Going, begun, meet, passed}
use Rattle.graph.proofs.Elements.{contains_none}
use Rattle.graph.proofs.Walks.{work}
use Rattle.graph.proofs.ReachedPlaces.{IsWalk, walk_begins, walk_passes, walk-ends, work_falls, marks-all}
use Rattle.spv_module.specs.Code.{is_function}
use Rattle.spv_module.specs.Instruction.{Instruction}
use Rattle.spv_module.specs.Layout.{is_entry_point}
use Rattle.spv_ids.specs.Ids.{place_of}
use Rattle.spv_calls.specs.Broken.{Decides, Tests, AreTests}
use Rattle.spv_calls.specs.Calls.{is_global, calls, globals_at, CallsItself, CallsFit}
use Rattle.spv_calls.specs.Interfaces.{interface, has, repeats, IsInterface, InterfaceFits}
use Rattle.spv_calls.specs.Kept.{ListsNamed}
use Rattle.spv_calls.proofs.Settled.{straight-reached}
use Rattle.spv_calls.proofs.Interfaces.{decides-yes, decides-no, decides-as, length-calls, ListsBelow, lists_none, lists_more, lists_all_named, lists_not_all, interface_unlisted, interface_named, interface_nowhere}

-- a statement that some answer decides
abbrev pub Decided : Type 0 → Type 0
Decided P = (answer : Bool) × Decides answer P

-- ---- what is reached

last_of : (xs : List ℕ) → (xs ≡ []) ⊎ ((front : List ℕ) × (x : ℕ) × (xs ≡ front ++ x ∷ []))
last_of [] = inl refl
last_of (x ∷ xs) = elim (last_of xs) [ inl e ↦ inr ([], x, ap (λ (ys : List ℕ). x ∷ ys) e) | inr r ↦ inr (x ∷ r.0, r.1, ap (λ (ys : List ℕ). x ∷ ys) r.2) ]

-- a walk ends, since each step leaves less to be done; induction on what is left
walk_ended : (rows : List (List ℕ)) (starts : List ℕ) (passable : List Bool) (n : ℕ) (g : Going) → work g ≤ n → IsWalk rows starts passable g → (marks : List Bool) × AreMarks (length rows) (IsReachedPast rows starts passable) marks
walk_ended rows starts passable zero g h w = elim (last_of g.waiting) [
  | inl e ↦ (g.met, walk-ends rows starts passable g e w)
  | inr r ↦ (let less = work_falls rows starts passable g (record { met = g.met; waiting = r.0 }) (passed rows passable (record { met = g.met; waiting = r.0 }) r.1) r.1 refl r.2 refl in absurd (omega arith))
]
walk_ended rows starts passable (suc n) g h w = elim (last_of g.waiting) [
  | inl e ↦ (g.met, walk-ends rows starts passable g e w)
  | inr r ↦ (let taken : Going = record { met = g.met; waiting = r.0 } in let next = passed rows passable taken r.1 in let less = work_falls rows starts passable g taken next r.1 refl r.2 refl in walk_ended rows starts passable n next (omega arith) (walk_passes rows starts passable g taken next r.1 w refl r.2 refl))
]

pub marks_of : (rows : List (List ℕ)) (starts : List ℕ) → (marks : List Bool) × AreMarks (length rows) (IsReached rows starts) marks
marks_of rows starts =
    let passable = replicate (length rows) true in
    let none = begun (length rows) in
    let first = fold meet none starts in
    let r = walk_ended rows starts passable (work first) first (omega arith) (walk_begins rows starts passable (length rows) none first refl refl refl) in
    (r.0, marks-all rows starts passable r.0 refl r.1)

-- ---- calls

straight_decided : (insts : List Instruction) (k : ℕ) → Decided (¬ CallsItself insts k)
straight_decided insts k = elim (cases_lt k (length (calls insts))) [
  | inl less ↦ (let m = marks_of (calls insts) (row (calls insts) k) in (not (is_marked m.0 k), straight-reached insts (calls insts) m.0 k (is_marked m.0 k) refl less m.1 refl))
  | inr past ↦ (true, decides-yes (¬ CallsItself insts k) (λ r. contains_none r.0 (subst (λ (xs : List ℕ). Contains xs r.0) (get_or_past (calls insts) k [] past) r.1)))
]

calls_decided : (insts : List Instruction) (k : ℕ) (i : Instruction) → Decided (CallsFit insts k i)
calls_decided insts k i = by (is_function i) refl
  where
    by : (b : Bool) → is_function i ≡ b → Decided (CallsFit insts k i)
    by true e = let d = straight_decided insts k in (d.0, decides-as d.0 (¬ CallsItself insts k) (CallsFit insts k i) (λ s _. s) (λ f. f e) d.1)
    by false e = (true, decides-yes (CallsFit insts k i) (λ h. absurd (false≢true (sym e ∙ h))))

-- ---- interfaces

-- the functions below n, one after the other
scan : (insts : List Instruction) (reached : List Bool) (listed : ℕ → Bool) (n : ℕ) → ListsBelow insts reached listed n ⊎ ((place : ℕ) × IsMarked reached place × (list_all listed (globals_at insts place) ≡ false))
scan insts reached listed zero = inl (lists_none insts reached listed)
scan insts reached listed (suc n) = elim (scan insts reached listed n) [
  | inl l ↦ by l (is_marked reached n) (list_all listed (globals_at insts n)) refl refl
  | inr bad ↦ inr bad
]
  where
    next : ListsBelow insts reached listed (n + 1) → ListsBelow insts reached listed (suc n)
    next l = subst (ListsBelow insts reached listed) (omega arith) l

    by : ListsBelow insts reached listed n → (marked lists : Bool) → is_marked reached n ≡ marked → list_all listed (globals_at insts n) ≡ lists → ListsBelow insts reached listed (suc n) ⊎ ((place : ℕ) × IsMarked reached place × (list_all listed (globals_at insts place) ≡ false))
    by l true false m e = inr (n, m, e)
    by l true true m e = inl (next (lists_more insts reached listed n l (λ _. e)))
    by l false b m e = inl (next (lists_more insts reached listed n l (λ h. absurd (false≢true (sym m ∙ h)))))

named_decided : (insts : List Instruction) (entry : ℕ) (listed : ℕ → Bool) → Decided (ListsNamed insts entry listed)
named_decided insts entry listed =
    let m = marks_of (calls insts) (entry ∷ []) in
    elim (scan insts m.0 listed (length insts)) [
      | inl l ↦ (true, lists_all_named insts (calls insts) m.0 entry (length insts) listed refl m.1 l (omega arith))
      | inr bad ↦ (false, lists_not_all insts (calls insts) m.0 entry bad.0 listed refl m.1 bad.1 bad.2)
    ]

listed_decided : (insts : List Instruction) (function : ℕ) (ids : List ℕ) → Decided (IsInterface insts function ids)
listed_decided insts function ids = by (list_all (is_global insts) ids && not (repeats ids)) (place_of insts function) refl refl
  where
    by : (fit : Bool) (place : Option ℕ) → (list_all (is_global insts) ids && not (repeats ids)) ≡ fit → place_of insts function ≡ place → Decided (IsInterface insts function ids)
    by false place e at = (false, interface_unlisted insts function ids e)
    by true None e at = (true, interface_nowhere insts function ids e at)
    by true (Some entry) e at = let d = named_decided insts entry (has ids) in (d.0, interface_named insts function entry ids (has ids) d.0 e (λ id. refl) at d.1)

interface_decided : (insts : List Instruction) (i : Instruction) → Decided (InterfaceFits insts i)
interface_decided insts i = by (is_entry_point i) refl
  where
    by : (b : Bool) → is_entry_point i ≡ b → Decided (InterfaceFits insts i)
    by true e = let d = listed_decided insts (slice_index i.words 2) (interface i) in (d.0, decides-as d.0 (IsInterface insts (slice_index i.words 2) (interface i)) (InterfaceFits insts i) (λ s _. s) (λ f. f e) d.1)
    by false e = (true, decides-yes (InterfaceFits insts i) (λ h. absurd (false≢true (sym e ∙ h))))

-- ---- both, of all instructions

calls_told : (insts : List Instruction) (k : ℕ) → Option Instruction → Bool
calls_told insts k None = true
calls_told insts k (Some i) = (calls_decided insts k i).0

interface_told : (insts : List Instruction) → Option Instruction → Bool
interface_told insts None = true
interface_told insts (Some i) = (interface_decided insts i).0

pub tests_of : (insts : List Instruction) → (tests : Tests) × AreTests insts tests
unfolding calls_told interface_told
tests_of insts = (
  record { calls = λ k. calls_told insts k (slice_get insts k); interface = λ k. interface_told insts (slice_get insts k) },
  record {
    calls = λ k i at. subst (λ (o : Option Instruction). Decides (calls_told insts k o) (CallsFit insts k i)) (sym at) (calls_decided insts k i).1;
    interface = λ k i at. subst (λ (o : Option Instruction). Decides (interface_told insts o) (InterfaceFits insts i)) (sym at) (interface_decided insts i).1;
  },
)
