-- Interfaces of entry points, from what is reached and what is listed.
use Rattle.std.proofs.Common.{◌≡◌, ℕ, ◌+◌, ◌<◌, ◌≤◌, Bool, true, false, ◌&&◌, not, List, [], ◌∷◌, length, map, drop, get_or, Option, Some, None, inl, inr, refl, sym, ap, subst, ◌∙◌, arith}
use Rattle.std.proofs.Math.ListN.{drop_of_length-le}
use Rattle.std.specs.List.{Contains, list_all, range_with_len}
use Rattle.std.proofs.lemmas.Bool.{false≢true, cases_lt}
use Rattle.std.proofs.lemmas.List.FromFn.{length-map-range_with_len, get_or-map-range_with_len}
use Rattle.graph.specs.Reaching.{Reaches, IsReached, AreMarks}
use Rattle.graph.specs.Rows.{is_marked, IsMarked}
use Rattle.graph.proofs.Elements.{contains_first, contains_cases, contains_none}
use Rattle.spv_module.specs.Instruction.{Instruction}
use Rattle.spv_ids.specs.Ids.{place_of}
use Rattle.spv_calls.specs.Broken.{Decides}
use Rattle.spv_calls.specs.Calls.{is_global, calls, globals_in, function_in, globals_at}
use Rattle.spv_calls.specs.Interfaces.{has, repeats, IsReferenced, IsInterface}
use Rattle.spv_calls.specs.Kept.{IsListing, ListsNamed}
use Rattle.spv_calls.proofs.Lists.{and_first, and_second, and_both, all-has, has-all}

pub decides-yes : (P : Type 0) → P → Decides true P
decides-yes P p = record { yes = λ _. p; no = λ h. absurd (false≢true (sym h)) }

pub decides-no : (P : Type 0) → ¬ P → Decides false P
decides-no P np = record { yes = λ h. absurd (false≢true h); no = λ _. np }

-- the same of an equivalent statement
pub decides-as : (b : Bool) (P Q : Type 0) → (P → Q) → (Q → P) → Decides b P → Decides b Q
decides-as b P Q f g d = record { yes = λ h. f (d.yes h); no = λ h q. d.no h (g q) }

-- ---- what is reached from one function

pub length-calls : (insts : List Instruction) → length (calls insts) ≡ length insts
length-calls insts = length-map-range_with_len _ 0 (length insts)

pub one_start : (rows : List (List ℕ)) (start place : ℕ) → IsReached rows (start ∷ []) place → Reaches rows start place
one_start rows start place r = elim (contains_cases [] start r.0 r.1) [
  | inl is ↦ subst (λ (s : ℕ). Reaches rows s place) is r.2
  | inr none ↦ absurd (contains_none r.0 none)
]

-- the global variables of the functions below n that are marked are listed
pub record ListsBelow (insts : List Instruction) (reached : List Bool) (listed : ℕ → Bool) (n : ℕ) : Type 0 where
  pub each : (place : ℕ) → place < n → IsMarked reached place → list_all listed (globals_at insts place) ≡ true

pub lists_none : (insts : List Instruction) (reached : List Bool) (listed : ℕ → Bool) → ListsBelow insts reached listed 0
lists_none insts reached listed = record { each = λ place below m. absurd (omega arith) }

pub lists_more : (insts : List Instruction) (reached : List Bool) (listed : ℕ → Bool) (n : ℕ) → ListsBelow insts reached listed n → (IsMarked reached n → list_all listed (globals_at insts n) ≡ true) → ListsBelow insts reached listed (n + 1)
lists_more insts reached listed n l here = record {
  each = λ place below m. elim (cases_lt place n) [
    | inl less ↦ l.each place less m
    | inr past ↦ (let is : place ≡ n = omega arith in subst (λ (p : ℕ). list_all listed (globals_at insts p) ≡ true) (sym is) (here (subst (IsMarked reached) is m)))
  ];
}

pub none_past : (insts : List Instruction) (place id : ℕ) → length insts ≤ place → has (globals_at insts place) id ≡ true → ⊥
none_past insts place id past h = false≢true (ap (λ (is : List Instruction). has (globals_in insts (function_in is)) id) (sym (drop_of_length-le insts past)) ∙ h)

pub lists_all_named : (insts : List Instruction) (rows : List (List ℕ)) (reached : List Bool) (entry n : ℕ) (listed : ℕ → Bool) → rows ≡ calls insts → AreMarks (length rows) (IsReached rows (entry ∷ [])) reached → ListsBelow insts reached listed n → length insts ≤ n →
    Decides true (ListsNamed insts entry listed)
lists_all_named insts rows reached entry n listed e marks l all =
    decides-yes (ListsNamed insts entry listed) (λ place r id h. elim (cases_lt place (length insts)) [
      | inl less ↦ all-has listed (globals_at insts place) id (l.each place (omega arith) (marked place less r)) h
      | inr past ↦ absurd (none_past insts place id past h)
    ])
  where
    marked : (place : ℕ) → place < length insts → Reaches (calls insts) entry place → IsMarked reached place
    marked place less r =
        marks.all place (subst (λ (n : ℕ). place < n) (sym (ap length e ∙ length-calls insts)) less)
        (entry, contains_first [] entry, subst (λ (g : List (List ℕ)). Reaches g entry place) (sym e) r)

pub lists_not_all : (insts : List Instruction) (rows : List (List ℕ)) (reached : List Bool) (entry place : ℕ) (listed : ℕ → Bool) → rows ≡ calls insts → AreMarks (length rows) (IsReached rows (entry ∷ [])) reached → IsMarked reached place → list_all listed (globals_at insts place) ≡ false →
    Decides false (ListsNamed insts entry listed)
lists_not_all insts rows reached entry place listed e marks m bad =
    decides-no (ListsNamed insts entry listed)
    (λ l. false≢true (sym bad ∙ has-all listed (globals_at insts place) (λ id h. l place (one_start (calls insts) entry place (subst (λ (g : List (List ℕ)). IsReached g (entry ∷ []) place) e (marks.only place m))) id h)))

-- the row of a place, among the rows of all
pub globals-row : (insts : List Instruction) (named : List (List ℕ)) (place : ℕ) (d : List ℕ) → named ≡ map (globals_at insts) (range_with_len 0 (length insts)) → place < length insts → get_or named place d ≡ globals_at insts place
globals-row insts named place d e less = ap (λ (xs : List (List ℕ)). get_or xs place d) e ∙ get_or-map-range_with_len (globals_at insts) 0 (length insts) place place d less (omega arith)

-- ---- interfaces

not_true : (b : Bool) → b ≡ false → not b ≡ true
not_true b e = ap not e

was_false : (b : Bool) → not b ≡ true → b ≡ false
was_false true e = absurd (false≢true e)
was_false false e = refl

pub interface_unlisted : (insts : List Instruction) (function : ℕ) (ids : List ℕ) → IsListing insts ids None → Decides false (IsInterface insts function ids)
interface_unlisted insts function ids l =
    decides-no (IsInterface insts function ids)
    (λ i. false≢true (sym l ∙ and_both (list_all (is_global insts) ids) (not (repeats ids)) i.globals (not_true (repeats ids) i.once)))

some_same : (a b : ℕ) → Some a ≡ Some b → a ≡ b
some_same a b e = cc

pub interface_named : (insts : List Instruction) (function entry : ℕ) (ids : List ℕ) (listed : ℕ → Bool) (b : Bool) → (list_all (is_global insts) ids && not (repeats ids)) ≡ true → ((id : ℕ) → listed id ≡ has ids id) → place_of insts function ≡ Some entry → Decides b (ListsNamed insts entry listed) →
    Decides b (IsInterface insts function ids)
interface_named insts function entry ids listed b fit same at d =
    decides-as b (ListsNamed insts entry listed) (IsInterface insts function ids)
    (λ lists. record {
      globals = and_first (list_all (is_global insts) ids) (not (repeats ids)) fit;
      once = was_false (repeats ids) (and_second (list_all (is_global insts) ids) (not (repeats ids)) fit);
      all = λ id r. sym (same id) ∙ lists r.place (subst (λ (p : ℕ). Reaches (calls insts) p r.place) (some_same r.entry entry (sym r.defined ∙ at)) r.reached) id r.named;
    })
    (λ i place reached id named. same id ∙ i.all id (record { entry = entry; defined = at; place = place; reached = reached; named = named }))
    d

pub interface_nowhere : (insts : List Instruction) (function : ℕ) (ids : List ℕ) → (list_all (is_global insts) ids && not (repeats ids)) ≡ true → place_of insts function ≡ None → Decides true (IsInterface insts function ids)
interface_nowhere insts function ids fit at =
    decides-yes (IsInterface insts function ids) (record {
      globals = and_first (list_all (is_global insts) ids) (not (repeats ids)) fit;
      once = was_false (repeats ids) (and_second (list_all (is_global insts) ids) (not (repeats ids)) fit);
      all = λ id r. absurd (none_some r.entry (sym at ∙ r.defined));
    })
  where
    none_some : (n : ℕ) → None ≡ Some n → ⊥
    none_some n e = cc
