-- Steps of a walk that is under way: places are added, one block is come to, and one step after another.
use Rattle.std.proofs.Common.{◌≡◌, ◌⊎◌, inl, inr, ℕ, ◌+◌, ◌<◌, ◌≤◌, ◌==◌, Bool, true, false, not, cond, List, [], ◌∷◌, ◌++◌, length, Option, Some, None, refl, sym, ap, subst, ◌∙◌, append_assoc, arith}
use Rattle.std.proofs.lemmas.Bool.{false≢true}
use Rattle.std.proofs.lemmas.List.{append-nil, length_push}
use Rattle.std.proofs.lemmas.List.Folds.{list_any-append}
use Rattle.spv_blocks.specs.Tables.{found}
use Rattle.spv_blocks.specs.declared.table.Table.{Table}
use Rattle.std.specs.List.{count_by}
use Rattle.std.specs.Option.{option_map, option_or, is_some, is_none}
use Rattle.spv_blocks.specs.Blocks.{Code, Block, has, is_label}
use Rattle.spv_walk.specs.Contexts.{Context}
use Rattle.spv_walk.specs.Walked.{HasSome, InPlaces}
use Rattle.spv_walk.proofs.Unique.{tells, equal_true, true_equal, not_true, not_false, left_holds, right_holds}
use Rattle.spv_walking.specs.declared.going.Going.{Going}
use Rattle.spv_walking.specs.declared.walked.Walked.{Walked}
use Rattle.spv_walking.specs.Places.{context_at}
use Rattle.spv_walking.specs.Table.{context_of, Widens}
use Rattle.spv_walking.specs.Steps.{is_done, work, Visits, Comes}
use Rattle.spv_walking.proofs.Counts.{count_le, count_less}
use Rattle.spv_walking.proofs.KeptContexts.{context_stays}

-- ---- options

pub option_cases : {A : Type 0} (o : Option A) → (o ≡ None) ⊎ ((x : A) × (o ≡ Some x))
option_cases None = inl refl
option_cases (Some x) = inr (x, refl)

map_some : (g : ℕ → Context) (o : Option ℕ) (c : Context) → option_map g o ≡ Some c → (k : ℕ) × (o ≡ Some k) × (g k ≡ c)
map_some g None c e = absurd (cc)
map_some g (Some k) c e = (k, refl, cc)

some_map : (g : ℕ → Context) (o : Option ℕ) (k : ℕ) (c : Context) → o ≡ Some k → g k ≡ c → option_map g o ≡ Some c
some_map g o k c e h = ap (option_map g) e ∙ ap (λ (x : Context). Some x) h

-- ---- places are added

same_at : (rows added : List Context) (o : Option ℕ) → ((k : ℕ) → o ≡ Some k → k < length rows) → option_map (context_at (rows ++ added)) o ≡ option_map (context_at rows) o
same_at rows added None h = refl
same_at rows added (Some k) h = ap (λ (c : Context). Some c) (context_stays rows added k (h k refl))

pub context_same : (w w2 : Walked) (added : List Context) (p : ℕ) → w2.rows ≡ w.rows ++ added → w2.places ≡ w.places → context_of w2 p ≡ context_of w p
context_same w w2 added p e q =
    ap (λ (rows : List Context). option_map (context_at rows) (found w2.places p)) e
    ∙ ap (λ (m : Table ℕ). option_map (context_at (w.rows ++ added)) (found m p)) q
    ∙ same_at w.rows added (found w.places p) (λ k. w.within p k)

-- where no block is come to
pub comes_to_none : (f : Code) (g h : Going) (added : List Context) (New : ℕ → Context → Type 0) → h.walked.rows ≡ g.walked.rows ++ added → h.walked.places ≡ g.walked.places
    → h.waiting.items ≡ g.waiting.items → ((p : ℕ) (c : Context) → New p c → ⊥) → Comes f g h New
comes_to_none f g h added New rows places waiting none =
    let same : (p : ℕ) → context_of h.walked p ≡ context_of g.walked p = λ p. context_same g.walked h.walked added p rows places in
    record {
      added = added;
      rows = rows;
      grows = λ p c i. same p ∙ i;
      more = λ p c i. inl (sym (same p) ∙ i);
      waits = λ p c i d. (sym (same p) ∙ i, ap (λ (ws : List ℕ). not (has ws p)) (sym waiting) ∙ d);
      placed = λ p c n. absurd (none p c n);
      less = λ l.
          (let left : work f h ≡ work f g =
          ap (λ (m : Table ℕ). count_by (λ b. is_none (found m b.label)) f + length h.waiting.items) places
          ∙ ap (λ (ws : List ℕ). count_by (λ b. is_none (found g.walked.places b.label)) f + length ws) waiting in
          omega arith);
    }

pub comes_nowhere : (f : Code) (g : Going) (New : ℕ → Context → Type 0) → ((p : ℕ) (c : Context) → New p c → ⊥) → Comes f g g New
comes_nowhere f g New none = comes_to_none f g g [] New (sym (append-nil g.walked.rows)) refl refl none

-- ---- one block is come to

added_place : (o : Option ℕ) (t : Bool) (place k : ℕ) → option_or o (cond t (Some place) None) ≡ Some k → (o ≡ Some k) ⊎ ((o ≡ None) × (t ≡ true) × (place ≡ k))
added_place None true place k e = inr (refl, refl, cc)
added_place None false place k e = absurd (cc)
added_place (Some j) t place k e = inl e

kept_place : (o x : Option ℕ) (k : ℕ) → o ≡ Some k → option_or o x ≡ Some k
kept_place None x k e = absurd (cc)
kept_place (Some j) x k e = e

some_place : (o : Option ℕ) (t : Bool) (place : ℕ) → t ≡ true → (k : ℕ) × (option_or o (cond t (Some place) None) ≡ Some k)
some_place None true place e = (place, refl)
some_place None false place e = absurd (cc)
some_place (Some j) t place e = (j, refl)

none_before : (o x : Option ℕ) → is_none (option_or o x) ≡ true → is_none o ≡ true
none_before None x e = refl
none_before (Some j) x e = e

some_now : (o : Option ℕ) (t : Bool) (place : ℕ) → t ≡ true → is_none (option_or o (cond t (Some place) None)) ≡ false
some_now None true place e = refl
some_now None false place e = absurd (cc)
some_now (Some j) t place e = refl

waited : (b : Bool) (ws : List ℕ) (label p : ℕ) → has (cond b ws (ws ++ label ∷ [])) p ≡ false → has ws p ≡ false
waited true ws label p e = e
waited false ws label p e =
    elim (tells (has ws p)) [
      | inl h ↦ absurd (false≢true (sym e ∙ list_any-append (λ (y : ℕ). y == p) ws (label ∷ []) ∙ left_holds (has ws p) (has (label ∷ []) p) h))
      | inr h ↦ h
    ]

waits_now : (b : Bool) (ws : List ℕ) (label : ℕ) → b ≡ false → has (cond b ws (ws ++ label ∷ [])) label ≡ true
waits_now true ws label e = absurd (cc)
waits_now false ws label e =
    list_any-append (λ (y : ℕ). y == label) ws (label ∷ [])
    ∙ right_holds (has ws label) (has (label ∷ []) label) (left_holds (label == label) false (true_equal label label refl))

waiting_more : (b : Bool) (ws : List ℕ) (label : ℕ) → length (cond b ws (ws ++ label ∷ [])) ≡ length ws + cond b 0 1
waiting_more true ws label = omega arith
waiting_more false ws label = length_push ws label

module _ (f : Code) (g h : Going) (label place : ℕ) (v : Visits g h label place) where
  narrows : (b : Block) → is_none (found h.walked.places b.label) ≡ true → is_none (found g.walked.places b.label) ≡ true
  narrows b e = none_before (found g.walked.places b.label) (cond (label == b.label) (Some place) None) (ap (λ (o : Option ℕ). is_none o) (sym (v.places.at b.label)) ∙ e)

  waiting_length : (b : Bool) → is_some (found g.walked.places label) ≡ b → length h.waiting.items ≡ length g.waiting.items + cond b 0 1
  waiting_length b e =
      ap length v.waiting ∙ waiting_more (is_some (found g.walked.places label)) g.waiting.items label ∙ ap (λ (t : Bool). length g.waiting.items + cond t 0 1) e

  less_left : is_label f label ≡ true → work f h ≤ work f g
  less_left l =
      elim (option_cases (found g.walked.places label)) [
        | inl e ↦
            (let n : count_by (λ b. is_none (found h.walked.places b.label)) f + 1 ≤ count_by (λ b. is_none (found g.walked.places b.label)) f =
            count_less (λ b. is_none (found g.walked.places b.label)) (λ b. is_none (found h.walked.places b.label)) narrows f label l (λ b s. (
              ap (λ (o : Option ℕ). is_none o) (ap (found g.walked.places) s ∙ e),
              ap (λ (o : Option ℕ). is_none o) (v.places.at b.label)
                  ∙ some_now (found g.walked.places b.label) (label == b.label) place (true_equal label b.label (sym s)),
            )) in
            let w = waiting_length false (ap (λ (o : Option ℕ). is_some o) e) in
            omega arith)
        | inr e ↦
            (let n = count_le (λ b. is_none (found g.walked.places b.label)) (λ b. is_none (found h.walked.places b.label)) narrows f in
            let w = waiting_length true (ap (λ (o : Option ℕ). is_some o) e.1) in
            omega arith)
      ]

  came : (p : ℕ) (c : Context) → context_of h.walked p ≡ Some c
      → (context_of g.walked p ≡ Some c) ⊎ ((found g.walked.places p ≡ None) × (p ≡ label) × (c ≡ context_at g.walked.rows place))
  came p c i =
      let m = map_some (context_at h.walked.rows) (found h.walked.places p) c i in
      let at : context_at g.walked.rows m.0 ≡ c = ap (λ (rows : List Context). context_at rows m.0) (sym v.rows) ∙ m.2 in
      elim (added_place (found g.walked.places p) (label == p) place m.0 (sym (v.places.at p) ∙ m.1)) [
        | inl e ↦ inl (some_map (context_at g.walked.rows) (found g.walked.places p) m.0 c e at)
        | inr e ↦ inr (e.0, sym (equal_true label p e.1), sym at ∙ ap (context_at g.walked.rows) (sym e.2))
      ]

  waits_on : (p : ℕ) → is_done h p ≡ true → has (cond (is_some (found g.walked.places label)) g.waiting.items (g.waiting.items ++ label ∷ [])) p ≡ false
  waits_on p d = ap (λ (ws : List ℕ). has ws p) (sym v.waiting) ∙ not_true (has h.waiting.items p) d

  pub visited : (New : ℕ → Context → Type 0) → ((p : ℕ) (c : Context) → New p c → p ≡ label) → New label (context_at g.walked.rows place) → Comes f g h New
  visited New one there = record {
    added = [];
    rows = v.rows ∙ sym (append-nil g.walked.rows);
    grows = λ p c i.
        (let m = map_some (context_at g.walked.rows) (found g.walked.places p) c i in
        some_map (context_at h.walked.rows) (found h.walked.places p) m.0 c
        (v.places.at p ∙ kept_place (found g.walked.places p) (cond (label == p) (Some place) None) m.0 m.1)
        (ap (λ (rows : List Context). context_at rows m.0) v.rows ∙ m.2));
    more = λ p c i.
        elim (came p c i) [
          | inl o ↦ inl o
          | inr o ↦ inr (subst (λ (q : ℕ). New q c) (sym o.1) (subst (New label) (sym o.2) there))
        ];
    waits = λ p c i d.
        elim (came p c i) [
          | inl o ↦ (o, not_false (has g.waiting.items p) (waited (is_some (found g.walked.places label)) g.waiting.items label p (waits_on p d)))
          | inr o ↦
              absurd (false≢true (sym (waits_on label (subst (λ (q : ℕ). is_done h q ≡ true) o.1 d))
              ∙ waits_now (is_some (found g.walked.places label)) g.waiting.items label (ap (λ (x : Option ℕ). is_some x) (ap (found g.walked.places) (sym o.1) ∙ o.0))))
        ];
    placed = λ p c n.
        (let s = some_place (found g.walked.places label) (label == label) place (true_equal label label refl) in
        subst (HasSome (InPlaces (context_of h.walked))) (sym (one p c n))
        (context_at h.walked.rows s.0, ap (option_map (context_at h.walked.rows)) (v.places.at label ∙ s.1)));
    less = λ l. less_left (l label (context_at g.walked.rows place) there);
  }

pub same_some : (o : Option ℕ) (m p : ℕ) → o ≡ Some m → o ≡ Some p → p ≡ m
same_some o m p e h = cc

pub none_some : (o : Option ℕ) (p : ℕ) → o ≡ None → o ≡ Some p → ⊥
none_some o p e h = cc

-- ---- one step after another

pub comes_on : (f : Code) (g h k : Going) (First Second New : ℕ → Context → Type 0) → Comes f g h First → Comes f h k Second
    → ((p : ℕ) (c : Context) → New p c → First p c ⊎ Second p c) → ((p : ℕ) (c : Context) → First p c → New p c) → ((p : ℕ) (c : Context) → Second p c → New p c)
    → Comes f g k New
comes_on f g h k First Second New a b split left right = record {
  added = a.added ++ b.added;
  rows = b.rows ∙ ap (λ (rows : List Context). rows ++ b.added) a.rows ∙ append_assoc g.walked.rows a.added b.added;
  grows = λ p c i. b.grows p c (a.grows p c i);
  more = λ p c i.
      elim (b.more p c i) [
        | inl o ↦ elim (a.more p c o) [ inl q ↦ inl q | inr n ↦ inr (left p c n) ]
        | inr n ↦ inr (right p c n)
      ];
  waits = λ p c i d. (let w = b.waits p c i d in a.waits p c w.0 w.1);
  placed = λ p c n.
      elim (split p c n) [
        | inl x ↦ (let s = a.placed p c x in (s.0, b.grows p s.0 s.1))
        | inr x ↦ b.placed p c x
      ];
  less = λ l. (let x = a.less (λ p c n. l p c (left p c n)) in let y = b.less (λ p c n. l p c (right p c n)) in omega arith);
}

pub comes_alike : (f : Code) (g h : Going) (Old New : ℕ → Context → Type 0) → Comes f g h Old → ((p : ℕ) (c : Context) → New p c → Old p c)
    → ((p : ℕ) (c : Context) → Old p c → New p c) → Comes f g h New
comes_alike f g h Old New a back on = record {
  added = a.added;
  rows = a.rows;
  grows = a.grows;
  more = λ p c i. elim (a.more p c i) [ inl o ↦ inl o | inr n ↦ inr (on p c n) ];
  waits = a.waits;
  placed = λ p c n. a.placed p c (back p c n);
  less = λ l. a.less (λ p c n. l p c (on p c n));
}

-- a place is added, and one block is come to there
pub widened_visit : (f : Code) (g h k : Going) (inner label : ℕ) (d : Context) (New : ℕ → Context → Type 0) → Widens g.walked h.walked inner d → h.waiting.items ≡ g.waiting.items
    → Visits h k label inner → ((p : ℕ) (c : Context) → New p c → p ≡ label) → New label d → Comes f g k New
widened_visit f g h k inner label d New w waiting v one there =
    comes_on f g h k (λ p c. ⊥) New New
    (comes_to_none f g h w.added (λ p c. ⊥) w.rows w.places waiting (λ p c n. n))
    (visited f h k label inner v New one (subst (New label) (sym w.context) there))
    (λ p c n. inr n) (λ p c n. absurd n) (λ p c n. n)
