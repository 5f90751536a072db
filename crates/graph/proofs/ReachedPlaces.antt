-- A walk that meets what its places lead to meets exactly what is reached.
use Rattle.std.proofs.Common.{◌≡◌, ℕ, ◌+◌, ◌<◌, ◌⊎◌, inl, inr, Bool, true, false, cond, List, [], ◌∷◌, ◌++◌, length, replicate, fold, refl, sym, ap, ◌∙◌, subst, arith}
use Rattle.std.specs.List.{Contains}
use Rattle.std.proofs.lemmas.Bool.{cases_lt}
use Rattle.std.proofs.lemmas.List.{get_or_past, get_or-replicate, length-replicate, length_push}
use Rattle.std.proofs.lemmas.List.Elements.{Contains-push, Contains-push_cases, Contains-append_left}
use Rattle.graph.specs.Least.{Least, First, Onward}
use Rattle.graph.specs.Rows.{row, HasEdge, is_marked, IsMarked}
use Rattle.graph.specs.Reaching.{Reaches, ReachesPast, IsReached, IsReachedPast, AreMarks}
use Rattle.graph.specs.Reaching.ReachesPast.{Here, Along}
use Rattle.graph.specs.Reaching.Reaches.{Here as HereAll, Along as AlongAll}
use Rattle.graph.specs.Walks.{Going, begun, meet, passed}
use Rattle.graph.proofs.Elements.{contains_none}
use Rattle.graph.proofs.Least.{IsUnderWay, begins, goes_on, met-least}
use Rattle.graph.proofs.Marks.{marked-within, marked-none, unmarked}
use Rattle.graph.proofs.Walks.{meets-all, work}

-- an edge leads out of a place
pub edge-within : (rows : List (List ℕ)) (p q : ℕ) → HasEdge rows p q → p < length rows
edge-within rows p q e = elim (cases_lt p (length rows)) [ inl less ↦ less | inr past ↦ absurd (contains_none q (subst (λ (r : List ℕ). Contains r q) (get_or_past rows p [] past) e)) ]

module _ (rows : List (List ℕ)) (starts : List ℕ) (passable : List Bool) where
  abbrev pub IsStart : ℕ → Type 0
  IsStart p = Contains starts p × (p < length rows)

  abbrev pub IsStep : ℕ → ℕ → Type 0
  IsStep p q = IsMarked passable p × HasEdge rows p q × (q < length rows)

  -- induction on the least set
  least-reached : (p : ℕ) → Least IsStart IsStep p → IsReachedPast rows starts passable p
  least-reached p (First s) = (p, s.0, Here)
  least-reached p (Onward l step) = let r = least-reached _ l in (r.0, r.1, Along r.2 step.0 step.1)

  -- induction on the walk
  walk-least : (start p : ℕ) → Contains starts start → ReachesPast rows passable start p → p < length rows → Least IsStart IsStep p
  walk-least start p c Here less = First (c, less)
  walk-least start p c (Along r passes edge) less = Onward (walk-least start _ c r (edge-within rows _ p edge)) (passes, edge, less)

  -- the walk has come so far
  pub record IsWalk (g : Going) : Type 0 where
    pub count : length g.met ≡ length rows
    pub way : IsUnderWay IsStart IsStep (IsMarked g.met) (Contains g.waiting)

  pub walk-begins : IsWalk (fold meet (begun (length rows)) starts)
  walk-begins =
      let none = begun (length rows) in
      let m = meets-all none starts in
      let n : length none.met ≡ length rows = length-replicate (length rows) false in
      let first = fold meet none starts in
      record {
        count = m.count ∙ n;
        way = begins IsStart IsStep (IsMarked first.met) (Contains first.waiting)
            (λ p s. m.all p s.0 (subst (λ (k : ℕ). p < k) (sym n) s.1))
            (λ p h. (started p (m.only p h), subst (λ (k : ℕ). p < k) (m.count ∙ n) (marked-within first.met p h)))
            (λ p w. elim (m.met p w) [ inl c ↦ absurd (contains_none p c) | inr h ↦ h ])
            (λ p h. elim (m.waits p h) [ inl old ↦ absurd (marked-none (length rows) p old) | inr w ↦ w ]);
      }
    where
      started : (p : ℕ) → IsMarked (begun (length rows)).met p ⊎ Contains starts p → Contains starts p
      started p c = elim c [ inl old ↦ absurd (marked-none (length rows) p old) | inr s ↦ s ]

  -- the places that the steps from a place lead to
  taken : (p : ℕ) → List ℕ
  taken p = cond (is_marked passable p) (row rows p) []

  passed-all : (g : Going) (p : ℕ) (b : Bool) → cond b (fold meet g (row rows p)) g ≡ fold meet g (cond b (row rows p) [])
  passed-all g p true = refl
  passed-all g p false = refl

  taken_from : (p q : ℕ) (b : Bool) → b ≡ true → Contains (row rows p) q → Contains (cond b (row rows p) []) q
  taken_from p q b e c = subst (λ (b : Bool). Contains (cond b (row rows p) []) q) (sym e) c

  taken_by : (p q : ℕ) (b : Bool) → Contains (cond b (row rows p) []) q → (b ≡ true) × HasEdge rows p q
  taken_by p q true c = (refl, c)
  taken_by p q false c = absurd (contains_none q c)

  pub walk-passes : (g : Going) (p : ℕ) → IsWalk (record { met = g.met; waiting = g.waiting ++ p ∷ [] }) → IsWalk (passed rows passable g p)
  walk-passes g p w =
      subst IsWalk (sym (passed-all g p (is_marked passable p)))
      (let places = cond (is_marked passable p) (row rows p) [] in
      let h = fold meet g places in
      let m = meets-all g places in
      record {
        count = m.count ∙ w.count;
        way = goes_on IsStart IsStep p (IsMarked g.met) (Contains (g.waiting ++ p ∷ [])) (IsMarked h.met) (Contains h.waiting) w.way (Contains-push g.waiting p) (record {
          kept = m.kept;
          led = λ q step. m.all q (taken_from p q (is_marked passable p) step.0 step.1) (subst (λ (k : ℕ). q < k) (sym w.count) step.2);
          new = λ q h2. elim (m.only q h2) [ inl old ↦ inl old | inr c ↦ (let t = taken_by p q (is_marked passable p) c in inr (t.0, t.1, subst (λ (k : ℕ). q < k) (m.count ∙ w.count) (marked-within h.met q h2))) ];
          waits = m.waits;
          still = λ q c. elim (Contains-push_cases g.waiting p q c) [ inl old ↦ inl (m.still q old) | inr e ↦ inr (sym e) ];
          met = λ q c. elim (m.met q c) [ inl old ↦ m.kept q (w.way.waiting q (Contains-append_left g.waiting (p ∷ []) q old)) | inr new ↦ new ];
        });
      })

  pub walk-ends : (g : Going) → g.waiting ≡ [] → IsWalk g → AreMarks (length rows) (IsReachedPast rows starts passable) g.met
  walk-ends g e w =
      let least = met-least IsStart IsStep (IsMarked g.met) (Contains g.waiting) w.way (λ p c. contains_none p (subst (λ (l : List ℕ). Contains l p) e c)) in
      record {
        one_each = w.count;
        only = λ p h. least-reached p ((least p).0 h);
        all = λ p less r. (least p).1 (walk-least r.0 p r.1 r.2 less);
      }

  -- what passing a place does to the work
  pub work-passed : (g : Going) (p : ℕ) → work (passed rows passable g p) ≡ work g
  work-passed g p = ap work (passed-all g p (is_marked passable p)) ∙ (meets-all g (cond (is_marked passable p) (row rows p) [])).same

  pub walk_begins : (n : ℕ) (g h : Going) → n ≡ length rows → g ≡ begun n → h ≡ fold meet g starts → IsWalk h
  walk_begins n g h count first e =
      subst IsWalk (sym (e ∙ ap (λ (x : Going). fold meet x starts) (first ∙ ap begun count))) walk-begins

  -- the walk in front of a place that it takes from those that wait
  before : (g : Going) (m : List Bool) (w : List ℕ) → m ≡ g.met → g.waiting ≡ w → g ≡ record { met = m; waiting = w }
  before g m w e f =
      let met : List Bool → Going = λ x. record { met = x; waiting = g.waiting } in
      let waiting : List ℕ → Going = λ x. record { met = m; waiting = x } in
      ap met (sym e) ∙ ap waiting f

  pub walk_passes : (g taken h : Going) (p : ℕ) → IsWalk g → taken.met ≡ g.met → g.waiting ≡ taken.waiting ++ p ∷ [] → h ≡ passed rows passable taken p → IsWalk h
  walk_passes g taken h p w met waiting e =
      subst IsWalk (sym e) (walk-passes taken p (subst IsWalk (before g taken.met (taken.waiting ++ p ∷ []) met waiting) w))

  pub work_falls : (g taken h : Going) (p : ℕ) → taken.met ≡ g.met → g.waiting ≡ taken.waiting ++ p ∷ [] → h ≡ passed rows passable taken p → work h < work g
  work_falls g taken h p met waiting e =
      let new : work h ≡ work taken = ap work e ∙ work-passed taken p in
      let less : unmarked taken.met ≡ unmarked g.met = ap unmarked met in
      let one : length g.waiting ≡ length taken.waiting + 1 = ap length waiting ∙ length_push taken.waiting p in
      omega arith

-- where each place is passable, a walk goes on from all of them; induction on the walk
pub reaches-past : (rows : List (List ℕ)) (passable : List Bool) (from p : ℕ) → ((q : ℕ) → q < length rows → IsMarked passable q) → Reaches rows from p → ReachesPast rows passable from p
reaches-past rows passable from p passes HereAll = Here
reaches-past rows passable from p passes (AlongAll r edge) = Along (reaches-past rows passable from _ passes r) (passes _ (edge-within rows _ p edge)) edge

pub past-reaches : (rows : List (List ℕ)) (passable : List Bool) (from p : ℕ) → ReachesPast rows passable from p → Reaches rows from p
past-reaches rows passable from p Here = HereAll
past-reaches rows passable from p (Along r passes edge) = AlongAll (past-reaches rows passable from _ r) edge

pub marks-all : (rows : List (List ℕ)) (starts : List ℕ) (passable marks : List Bool) → passable ≡ replicate (length rows) true →
    AreMarks (length rows) (IsReachedPast rows starts passable) marks → AreMarks (length rows) (IsReached rows starts) marks
marks-all rows starts passable marks e h = record {
  one_each = h.one_each;
  only = λ p m. let r = h.only p m in (r.0, r.1, past-reaches rows passable r.0 p r.2);
  all = λ p less r. h.all p less (r.0, r.1, reaches-past rows passable r.0 p passes r.2);
}
  where
    passes : (q : ℕ) → q < length rows → IsMarked passable q
    passes q less = ap (λ (m : List Bool). is_marked m q) e ∙ get_or-replicate (length rows) q true false less
