-- Searches along calls: what they meet, and that nothing of it is left.
use Rattle.std.proofs.Common.{◌≡◌, ℕ, suc, ◌+◌, ◌<◌, ◌≤◌, ◌⊎◌, Bool, true, false, cond, List, [], ◌∷◌, ◌++◌, length, map, set, replicate, fold, get_or, inl, inr, refl, sym, ap, subst, ◌∙◌, arith, length-set, get_or-set_other, get_or-set_same}
use Rattle.std.proofs.Math.ListN.{drop_of_length-le}
use Rattle.std.specs.List.{Contains, list_all, range_with_len}
use Rattle.std.proofs.lemmas.Bool.{false≢true, cases_lt, cases_eq}
use Rattle.std.proofs.lemmas.List.{get_or_past, get_or-replicate, length-replicate}
use Rattle.std.proofs.lemmas.List.FromFn.{length-map-range_with_len}
use Rattle.std.proofs.lemmas.List.Elements.{Contains-push, Contains-push_cases, Contains-append_left}
use Rattle.graph.specs.Reaching.{Reaches, IsReached, AreMarks}
use Rattle.graph.specs.Rows.{row, is_marked, IsMarked}
use Rattle.graph.specs.Walks.{Going, begun, meet, passed}
use Rattle.graph.proofs.Elements.{contains_cases, contains_none, contains_first, contains_later}
use Rattle.graph.proofs.Marks.{marked-set, set-marked, kept-set}
use Rattle.graph.proofs.ReachedPlaces.{IsWalk, walk_begins, walk_passes, walk-ends, work_falls, marks-all}
use Rattle.graph.proofs.Walks.{work}
use Rattle.spv_module.specs.Instruction.{Instruction}
use Rattle.spv_calls.specs.declared.search.Search.{Search}
use Rattle.spv_calls.specs.Broken.{Decides}
use Rattle.spv_calls.specs.Calls.{calls, function_in, globals_in, globals_at}
use Rattle.spv_calls.specs.Interfaces.{has}
use Rattle.spv_calls.specs.Kept.{AreMet, IsFresh, IsKnown, IsUnmarked, ListsNamed, going, row_passes}
use Rattle.spv_calls.proofs.Lists.{all_contains, all-has, has-all, and_both}
use Rattle.spv_calls.proofs.Interfaces.{decides-yes, decides-no, length-calls, none_past, one_start, globals-row}

-- one place more
pub met-more : (marks : List Bool) (places : List ℕ) (p : ℕ) → p < length marks → AreMet marks places → AreMet (set marks p true) (places ++ p ∷ [])
met-more marks places p less m = record {
  only = λ q c. elim (Contains-push_cases places p q c) [
    | inl old ↦ kept-set marks p q (m.only q old)
    | inr is ↦ subst (λ (k : ℕ). IsMarked (set marks p true) k) is (set-marked marks p less)
  ];
  all = λ q h. elim (marked-set marks p q h) [
    | inl old ↦ Contains-append_left places (p ∷ []) q (m.all q old)
    | inr is ↦ subst (λ (k : ℕ). Contains (places ++ p ∷ []) k) (sym is) (Contains-push places p)
  ];
}

-- ---- the beginning

-- nothing is marked; induction on the marks
none_marked : (marks : List Bool) → ((p : ℕ) → ¬ IsMarked marks p) → marks ≡ replicate (length marks) false
none_marked [] none = refl
none_marked (true ∷ ms) none = absurd (none 0 refl)
none_marked (false ∷ ms) none = ap (λ (xs : List Bool). false ∷ xs) (none_marked ms (λ p h. none (suc p) h))

pub fresh-begun : (count : ℕ) (search : Search) → IsFresh count search → going search ≡ begun count
fresh-begun count search f = rw (none_marked search.met.items f.none ∙ ap (λ (n : ℕ). replicate n false) f.one_each, f.still) refl

pub fresh-known : (count : ℕ) (search : Search) → IsFresh count search → IsKnown search
fresh-known count search f = record {
  only = λ p c. absurd (contains_none p (subst (λ (xs : List ℕ). Contains xs p) f.empty c));
  all = λ p h. absurd (f.none p h);
}

-- ---- a step: all places are passable

abbrev pub all_passable : List (List ℕ) → List Bool
all_passable rows = replicate (length rows) true

passed_by : (rows : List (List ℕ)) (g : Going) (p : ℕ) (b : Bool) → b ≡ true → fold meet g (row rows p) ≡ cond b (fold meet g (row rows p)) g
passed_by rows g p true e = refl
passed_by rows g p false e = absurd (false≢true e)

passed_past : (rows : List (List ℕ)) (g : Going) (p : ℕ) (b : Bool) → row rows p ≡ [] → fold meet g (row rows p) ≡ cond b (fold meet g (row rows p)) g
passed_past rows g p true e = refl
passed_past rows g p false e = ap (fold meet g) e

pub passed-all : (rows : List (List ℕ)) (g : Going) (p : ℕ) → fold meet g (row rows p) ≡ passed rows (all_passable rows) g p
passed-all rows g p = elim (cases_lt p (length rows)) [
  | inl less ↦ passed_by rows g p (is_marked (all_passable rows) p) (get_or-replicate (length rows) p true false less)
  | inr past ↦ passed_past rows g p (is_marked (all_passable rows) p) (get_or_past rows p [] past)
]

-- a search under way
pub record IsSearch (rows : List (List ℕ)) (start : ℕ) (search : Search) : Type 0 where
  pub walk : IsWalk rows (start ∷ []) (all_passable rows) (going search)
  pub known : IsKnown search

pub search-begins : (rows : List (List ℕ)) (start : ℕ) (old new : Search) → IsFresh (length rows) old → going new ≡ meet (going old) start → (IsKnown old → IsKnown new) → IsSearch rows start new
search-begins rows start old new f e k = record {
  walk = walk_begins rows (start ∷ []) (all_passable rows) (length rows) (going old) (going new) refl (fresh-begun (length rows) old f) e;
  known = k (fresh-known (length rows) old f);
}

pub search-goes_on : (rows : List (List ℕ)) (start place : ℕ) (old taken new : Search) → IsSearch rows start old → taken.met.items ≡ old.met.items → taken.reached.items ≡ old.reached.items → old.waiting.items ≡ taken.waiting.items ++ place ∷ [] →
    going new ≡ fold meet (going taken) (row rows place) → (IsKnown taken → IsKnown new) → IsSearch rows start new
search-goes_on rows start place old taken new s met reached waiting e k = record {
  walk = walk_passes rows (start ∷ []) (all_passable rows) (going old) (going taken) (going new) place s.walk met waiting (e ∙ passed-all rows (going taken) place);
  known = k (record {
    only = λ p c. subst (λ (ms : List Bool). IsMarked ms p) (sym met) (s.known.only p (subst (λ (xs : List ℕ). Contains xs p) reached c));
    all = λ p h. subst (λ (xs : List ℕ). Contains xs p) (sym reached) (s.known.all p (subst (λ (ms : List Bool). IsMarked ms p) met h));
  });
}

pub search-falls : (rows : List (List ℕ)) (start place : ℕ) (old taken new : Search) → taken.met.items ≡ old.met.items → old.waiting.items ≡ taken.waiting.items ++ place ∷ [] → going new ≡ fold meet (going taken) (row rows place) → work (going new) < work (going old)
search-falls rows start place old taken new met waiting e =
    work_falls rows (start ∷ []) (all_passable rows) (going old) (going taken) (going new) place met waiting (e ∙ passed-all rows (going taken) place)

pub search-ends : (rows : List (List ℕ)) (start : ℕ) (search : Search) → IsSearch rows start search → search.waiting.items ≡ [] → AreMarks (length rows) (IsReached rows (start ∷ [])) search.met.items
search-ends rows start search s e = marks-all rows (start ∷ []) (all_passable rows) search.met.items refl (walk-ends rows (start ∷ []) (all_passable rows) (going search) e s.walk)

-- ---- the end

pub unmarked-none : (marks : List Bool) → IsUnmarked marks marks []
unmarked-none marks = record { one_each = refl; kept = λ p h. h; lost = λ p c. absurd (contains_none p c) }

pub unmarked-one : (marks : List Bool) (p : ℕ) → IsUnmarked marks (set marks p false) (p ∷ [])
unmarked-one marks p = record {
  one_each = length-set marks p false;
  kept = λ q h. elim (cases_eq q p) [
    | inl is ↦ absurd (gone (subst (λ (k : ℕ). IsMarked (set marks p false) k) is h))
    | inr ne ↦ sym (get_or-set_other marks p q false false ne) ∙ h
  ];
  lost = λ q c h. elim (contains_cases [] p q c) [
    | inl is ↦ gone (subst (λ (k : ℕ). IsMarked (set marks p false) k) is h)
    | inr none ↦ contains_none q none
  ];
}
  where
    gone : IsMarked (set marks p false) p → ⊥
    gone h = elim (cases_lt p (length marks)) [
      | inl less ↦ false≢true (sym (get_or-set_same marks p false false less) ∙ h)
      | inr past ↦ false≢true (sym (get_or_past (set marks p false) p false (let same = length-set marks p false in omega arith)) ∙ h)
    ]

pub unmarked-past : (marks : List Bool) (p : ℕ) → length marks ≤ p → IsUnmarked marks marks (p ∷ [])
unmarked-past marks p past = record {
  one_each = refl;
  kept = λ q h. h;
  lost = λ q c h. elim (contains_cases [] p q c) [
    | inl is ↦ false≢true (sym (get_or_past marks p false past) ∙ subst (λ (k : ℕ). IsMarked marks k) is h)
    | inr none ↦ contains_none q none
  ];
}

pub unmarked-more : (a b c : List Bool) (places : List ℕ) (p : ℕ) → IsUnmarked a b places → IsUnmarked b c (p ∷ []) → IsUnmarked a c (places ++ p ∷ [])
unmarked-more a b c places p u v = record {
  one_each = v.one_each ∙ u.one_each;
  kept = λ q h. u.kept q (v.kept q h);
  lost = λ q m h. elim (Contains-push_cases places p q m) [
    | inl old ↦ u.lost q old (v.kept q h)
    | inr is ↦ v.lost q (subst (λ (k : ℕ). Contains (p ∷ []) k) is (contains_first [] p)) h
  ];
}

-- ---- what is listed of what is reached

contains-all : (p : ℕ → Bool) (xs : List ℕ) → ((x : ℕ) → Contains xs x → p x ≡ true) → list_all p xs ≡ true
contains-all p [] each = refl
contains-all p (y ∷ ys) each = and_both (p y) (list_all p ys) (each y (contains_first ys y)) (contains-all p ys (λ x c. each x (contains_later ys y x c)))

pub lists_reached : (insts : List Instruction) (rows : List (List ℕ)) (marks : List Bool) (places : List ℕ) (entry : ℕ) (listed : ℕ → Bool) (b : Bool) → rows ≡ calls insts → AreMarks (length rows) (IsReached rows (entry ∷ [])) marks → AreMet marks places → b ≡ list_all (row_passes insts listed) places →
    Decides b (ListsNamed insts entry listed)
lists_reached insts rows marks places entry listed b e m k is = by b is
  where
    marked : (place : ℕ) → place < length insts → Reaches (calls insts) entry place → IsMarked marks place
    marked place less r =
        m.all place (subst (λ (n : ℕ). place < n) (sym (ap length e ∙ length-calls insts)) less)
        (entry, contains_first [] entry, subst (λ (g : List (List ℕ)). Reaches g entry place) (sym e) r)

    by : (c : Bool) → c ≡ list_all (row_passes insts listed) places → Decides c (ListsNamed insts entry listed)
    by true all =
        decides-yes (ListsNamed insts entry listed) (λ place r id h. elim (cases_lt place (length insts)) [
          | inl less ↦ all-has listed (globals_at insts place) id (all_contains (row_passes insts listed) places place (sym all) (k.all place (marked place less r))) h
          | inr past ↦ absurd (none_past insts place id past h)
        ])
    by false some =
        decides-no (ListsNamed insts entry listed) (λ l. false≢true (some ∙ contains-all (row_passes insts listed) places (λ place c.
        has-all listed (globals_at insts place) (λ id h. l place (one_start (calls insts) entry place (subst (λ (g : List (List ℕ)). IsReached g (entry ∷ []) place) e (m.only place (k.only place c)))) id h))))

-- ---- the rows of what functions name

pub row-all : (insts : List Instruction) (named : List (List ℕ)) (place : ℕ) → named ≡ map (globals_at insts) (range_with_len 0 (length insts)) → get_or named place [] ≡ globals_at insts place
row-all insts named place e = elim (cases_lt place (length insts)) [
  | inl less ↦ globals-row insts named place [] e less
  | inr past ↦ (let size = ap (λ (xs : List (List ℕ)). length xs) e ∙ length-map-range_with_len (globals_at insts) 0 (length insts) in
      get_or_past named place [] (omega arith) ∙ ap (λ (is : List Instruction). globals_in insts (function_in is)) (sym (drop_of_length-le insts past)))
]
