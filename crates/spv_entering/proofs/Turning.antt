-- How a table of tops begins, what the turn of a block does to it, and how it ends.
use Rattle.std.proofs.Common.{◌≡◌, ◌≢◌, ℕ, ◌+◌, ◌*◌, ◌<◌, ◌≤◌, ◌==◌, ◌||◌, Bool, true, false, List, [], ◌∷◌, ◌++◌, length, get_or, Option, Some, None, ◌⊎◌, inl, inr, refl, sym, ap, subst, ◌∙◌, arith}
use Rattle.spv_blocks.specs.Tables.{found}
use Rattle.spv_blocks.specs.declared.table.Table.{Table}
use Rattle.std.specs.Option.{is_some}
use Rattle.std.proofs.lemmas.Bool.{cases_lt}
use Rattle.std.proofs.lemmas.Bool.Decides.{eqb_tells}
use Rattle.std.proofs.lemmas.List.{length_push}
use Rattle.spv_blocks.specs.Blocks.{Block, Code, Construct, block, branches, construct, has, is_label, is_role, is_some_block, last_opens, merge_of, next_of, of_block, stops, targets}
use Rattle.spv_blocks.specs.Places.{place}
use Rattle.spv_blocks.proofs.PlaceSteps.{label-place, place-within}
use Rattle.spv_walk.specs.Walk.{Top, Begins as TopBegins, Past}
use Rattle.spv_walk.specs.Tables.{AtTurn, GoesAlong, InTops, TopTable, TopTurn}
use Rattle.spv_walk.proofs.Tops.{tops_begin, tops_turn, tops_end}
use Rattle.spv_walk.proofs.Unique.{role_label}
use Rattle.spv_entering.specs.Flow.{Flow}
use Rattle.spv_entering.specs.Filling.{top_of, passed_of, passed_none, unplaced, work, Done, IsPassed, IsGoing, Puts, Grows, Begins, Looks, Goes, Passes, Turns, Starts}
use Rattle.spv_entering.specs.Tops.{AreTops}
use Rattle.spv_entering.specs.declared.filling.Filling.{Filling}
use Rattle.spv_entering.specs.declared.filling.Passed.{Passed}
use Rattle.spv_entering.specs.Steps.{label_of}
use Rattle.spv_entering.proofs.Flows.{label-there}
use Rattle.spv_entering.proofs.Passing.{apart, some_is, has-place, passed-none}
use Rattle.spv_entering.proofs.Fillings.{Within, Same, same-none, same-tops, grows-none, grows-then, put-in, put-grows, unplaced-le}

abbrev In : Filling → (h b : ℕ) → Type 0
In s = InTops (top_of s)

along-by : (f : Code) (top top2 : ℕ → Option ℕ) → Within top top2 → (h p t : ℕ) → GoesAlong f (InTops top) h p t → GoesAlong f (InTops top2) h p t
along-by f top top2 w h p t g = record {
  top = w h p g.top;
  bare = g.bare;
  free = g.free;
  differ = g.differ;
  back = λ q n e. w t q (g.back q n e);
  back_bare = g.back_bare;
}

-- ---- the targets of a block, one after the other

pub record AreLooked (flow : Flow) (old new : Filling) (labels : List ℕ) (n : ℕ) : Type 0 where
  pub growing : Grows flow old new
  pub along : (k h p : ℕ) → k < n → GoesAlong flow.code (In old) h p (get_or labels k 0) → In new h (get_or labels k 0)

pub looked-none : (flow : Flow) (s : Filling) (labels : List ℕ) → IsGoing flow s → AreLooked flow s s labels 0
looked-none flow s labels going = record { growing = grows-none flow s going; along = λ k h p less g. absurd (omega arith) }

pub looked-more : (flow : Flow) (old mid new : Filling) (labels : List ℕ) (n : ℕ) → AreLooked flow old mid labels n → Looks flow mid new (get_or labels n 0) → AreLooked flow old new labels (n + 1)
looked-more flow old mid new labels n are looks = record {
  growing = grows-then flow old mid new are.growing looks.growing;
  along = λ k h p less g. elim (cases_lt k n) [
    | inl before ↦ looks.growing.grows h (get_or labels k 0) (are.along k h p before g)
    | inr past ↦
        let same : n ≡ k = omega arith in
        let g2 = subst (λ (i : ℕ). GoesAlong flow.code (In old) h p (get_or labels i 0)) (sym same) g in
        subst (λ (i : ℕ). In new h (get_or labels i 0)) same (looks.along h p (along-by flow.code (top_of old) (top_of mid) are.growing.grows h p (get_or labels n 0) g2))
  ];
}

pub looked-goes : (flow : Flow) (old new : Filling) (labels : List ℕ) (n b : ℕ) → labels ≡ targets flow.code b → length labels ≤ n → AreLooked flow old new labels n → Goes flow old new b
looked-goes flow old new labels n b same all are = record {
  growing = are.growing;
  along = λ h p t branch g.
      let s = has-place labels t (ap (λ (xs : List ℕ). has xs t) same ∙ branch) in
      subst (λ (i : ℕ). In new h i) s.there
      (are.along s.place h p (let w = s.within in omega arith) (subst (λ (i : ℕ). GoesAlong flow.code (In old) h p i) (sym s.there) g));
}

-- ---- the turn of a block

pub passes-put : (flow : Flow) (old new : Filling) (b m h : ℕ) → IsGoing flow old → merge_of (construct flow.code b) ≡ Some m → stops flow.code b ≡ false → is_role flow.code b m ≡ true
    → top_of old b ≡ Some h → Puts old new h m → Passes flow old new b m
passes-put flow old new b m h going merge runs role at puts =
    let top = Past h b m (going.sound h b at) runs merge role in
    record {
      growing = put-grows flow old new h m going top puts (role_label flow.code b m role);
      past = λ k i s r. subst (λ (j : ℕ). In new j m) (some_is h k (sym at ∙ i)) (put-in flow old new h m going top puts);
    }

pub turns-along : (flow : Flow) (old new : Filling) (b : ℕ) → None ≡ construct flow.code b → Goes flow old new b → Turns flow old new b
turns-along flow old new b bare goes = record {
  growing = goes.growing;
  past = λ h m i s e r. let none : None ≡ Some m = ap merge_of bare ∙ e in cc;
  along = λ h p t n branch g. goes.along h p t branch g;
}

pub turns-past : (flow : Flow) (old new : Filling) (b m : ℕ) → merge_of (construct flow.code b) ≡ Some m → Passes flow old new b m → Turns flow old new b
turns-past flow old new b m merge passes = record {
  growing = passes.growing;
  past = λ h k i s e r.
      let same : m ≡ k = some_is m k (sym merge ∙ e) in
      subst (λ (j : ℕ). In new h j) same (passes.past h i s (subst (λ (j : ℕ). is_role flow.code b j ≡ true) (sym same) r));
  along = λ h p t n branch g. let none : None ≡ Some m = sym (ap merge_of n) ∙ merge in cc;
}

-- ---- at the beginning

pub begins-put : (flow : Flow) (old new : Filling) (h c : ℕ) → IsGoing flow old → next_of (construct flow.code h) ≡ Some c → is_role flow.code h c ≡ true → Puts old new h c → Begins flow old new h
begins-put flow old new h c going next role puts =
    let top = TopBegins h c next role in
    record {
      growing = put-grows flow old new h c going top puts (role_label flow.code h c role);
      begins = λ d n r. subst (λ (j : ℕ). In new h j) (some_is c d (sym next ∙ n)) (put-in flow old new h c going top puts);
    }

-- a continue target that may not be walked to gets no top
pub begins-none : (flow : Flow) (s : Filling) (h c : ℕ) → IsGoing flow s → next_of (construct flow.code h) ≡ Some c → is_role flow.code h c ≡ false → Begins flow s s h
begins-none flow s h c going next role = record {
  growing = grows-none flow s going;
  begins = λ d n r. absurd (apart (is_role flow.code h c) (subst (λ (j : ℕ). is_role flow.code h j ≡ true) (some_is d c (sym n ∙ next)) r) role);
}

-- a block without a top gives none
pub passes-none : (flow : Flow) (s : Filling) (b m : ℕ) → IsGoing flow s → top_of s b ≡ None → Passes flow s s b m
passes-none flow s b m going none = record {
  growing = grows-none flow s going;
  past = λ h i runs r. let some : None ≡ Some h = sym none ∙ i in cc;
}

-- the first blocks have given their continue targets
pub record AreBegun (flow : Flow) (s : Filling) (n : ℕ) : Type 0 where
  pub going : IsGoing flow s
  pub waits : (h b : ℕ) → In s h b → Done s b → ⊥
  pub begins : (k h c : ℕ) → k < n → label_of flow.code k ≡ Some h → next_of (construct flow.code h) ≡ Some c → is_role flow.code h c ≡ true → In s h c

pub begun-none : (flow : Flow) (s : Filling) → ((b : ℕ) → top_of s b ≡ None) → ((t : ℕ) → passed_of s t ≡ passed_none) → AreBegun flow s 0
begun-none flow s none passed = record {
  going = record {
    sound = λ h b i. let e : None ≡ Some h = sym (none b) ∙ i in cc;
    passed = λ t. subst (λ (q : Passed). IsPassed flow (top_of s) t q) (sym (passed t)) (passed-none flow (top_of s) t);
  };
  waits = λ h b i d. let e : None ≡ Some h = sym (none b) ∙ i in cc;
  begins = λ k h c less at next role. absurd (omega arith);
}

pub begun-more : (flow : Flow) (old new : Filling) (n h : ℕ) → AreBegun flow old n → label_of flow.code n ≡ Some h → Begins flow old new h → AreBegun flow new (n + 1)
begun-more flow old new n h are at begins = record {
  going = begins.growing.going;
  waits = λ k b i d. let r = begins.growing.waits k b i d in are.waits k b r.0 r.1;
  begins = λ k g c less label next role. elim (cases_lt k n) [
    | inl before ↦ begins.growing.grows g c (are.begins k g c before label next role)
    | inr past ↦
        let place : n ≡ k = omega arith in
        let same : h ≡ g = some_is h g (sym at ∙ ap (label_of flow.code) place ∙ label) in
        subst (λ (j : ℕ). In new j c) same
        (begins.begins c (subst (λ (j : ℕ). next_of (construct flow.code j) ≡ Some c) (sym same) next) (subst (λ (j : ℕ). is_role flow.code j c ≡ true) (sym same) role))
  ];
}

pub begun-past : (flow : Flow) (s : Filling) (n : ℕ) → AreBegun flow s n → label_of flow.code n ≡ None → AreBegun flow s (n + 1)
begun-past flow s n are at = record {
  going = are.going;
  waits = are.waits;
  begins = λ k g c less label next role. elim (cases_lt k n) [
    | inl before ↦ are.begins k g c before label next role
    | inr past ↦ (let place : n ≡ k = omega arith in let none : None ≡ Some g = sym at ∙ ap (label_of flow.code) place ∙ label in cc)
  ];
}

header_block : (o : Option Block) (c : ℕ) → next_of (of_block (λ (b : Block). last_opens b.end b.body) None o) ≡ Some c → is_some_block o ≡ true
header_block None c e = cc
header_block (Some b) c e = refl

header_place : (f : Code) (h : ℕ) (o : Option ℕ) → place f h ≡ o → is_some o ≡ true → (k : ℕ) × (place f h ≡ Some k)
header_place f h None e some = absurd (apart false some refl)
header_place f h (Some k) e some = (k, e)

pub begun-all : (flow : Flow) (s : Filling) → AreBegun flow s (length flow.code) → Starts flow s
begun-all flow s are = record {
  going = are.going;
  begins = λ h c next role.
      let at = header_place flow.code h (place flow.code h) refl (label-place flow.code h ∙ header_block (block flow.code h) c next) in
      are.begins at.0 h c (place-within flow.code h at.0 at.1) (label-there flow.code h at.0 at.1) next role;
  waits = are.waits;
}

-- ---- the turns

pub record IsTable (flow : Flow) (s : Filling) : Type 0 where
  pub going : IsGoing flow s
  pub table : TopTable flow.code (In s) (Done s)

pub table-begins : (flow : Flow) (s : Filling) → Starts flow s → IsTable flow s
table-begins flow s starts = record { going = starts.going; table = tops_begin flow.code (In s) (Done s) starts.going.sound starts.begins starts.waits }

-- once a block is taken, the rest goes on as before
pub taken-going : (flow : Flow) (old new : Filling) → IsGoing flow old → new.tops ≡ old.tops → ((t : ℕ) → passed_of new t ≡ passed_of old t) → IsGoing flow new
taken-going flow old new going tops passed = record {
  sound = λ h b i. going.sound h b (sym (same-tops old new tops b) ∙ i);
  passed = λ t. subst (λ (q : Passed). IsPassed flow (top_of new) t q) (sym (passed t)) (subst (λ (m : Table ℕ). IsPassed flow (λ b. found m b) t (passed_of old t)) (sym tops) (going.passed t));
}

done_cases : (xs : List ℕ) (b p : ℕ) → has xs p ≡ false → (has (xs ++ b ∷ []) p ≡ false) ⊎ (p ≡ b)
done_cases [] b p e = elim (eqb_tells b p) [ inl s ↦ inr (sym s.1) | inr s ↦ inl (or_false (b == p) s.0) ]
  where
    or_false : (a : Bool) → a ≡ false → (a || false) ≡ false
    or_false true e = e
    or_false false e = refl
done_cases (x ∷ xs) b p e = elim (done_cases xs b p (both_none (x == p) (has xs p) e).1) [
  | inl later ↦ inl (none_both (x == p) (has (xs ++ b ∷ []) p) (both_none (x == p) (has xs p) e).0 later)
  | inr same ↦ inr same
]
  where
    both_none : (a c : Bool) → (a || c) ≡ false → (a ≡ false) × (c ≡ false)
    both_none true c e = absurd (apart true refl e)
    both_none false c e = (refl, e)

    none_both : (a c : Bool) → a ≡ false → c ≡ false → (a || c) ≡ false
    none_both true c e g = e
    none_both false c e g = g

-- what goes along by blocks that are done or at their turn goes along by the table
along-settled : (f : Code) (In' : (h b : ℕ) → Type 0) (Done' : ℕ → Type 0) (b h p t : ℕ) → GoesAlong f (AtTurn In' Done' b) h p t → GoesAlong f In' h p t
along-settled f In' Done' b h p t g = record {
  top = g.top.0;
  bare = g.bare;
  free = g.free;
  differ = g.differ;
  back = λ q n branch. (g.back q n branch).0;
  back_bare = g.back_bare;
}

pub table-turns : (flow : Flow) (old mid new : Filling) (b : ℕ) → IsTable flow old → mid.tops ≡ old.tops → old.waiting.items ≡ mid.waiting.items ++ b ∷ [] → Turns flow mid new b → IsTable flow new
table-turns flow old mid new b is tops waiting turns = record {
  going = turns.growing.going;
  table = tops_turn flow.code (In old) (In new) (Done old) (Done new) b is.table (record {
    grows = λ h p i. turns.growing.grows h p (to h p i);
    sound = turns.growing.going.sound;
    settled = λ h p i d. let r = turns.growing.waits h p i d in (sym (same-tops old mid tops p) ∙ r.0, was p (done_cases mid.waiting.items b p r.1));
    past = λ h m i s e r. turns.past h m (to h b i) s e r;
    along = λ h p t n branch g. turns.along h p t n branch (along-by flow.code (top_of old) (top_of mid) to h p t (along-settled flow.code (In old) (Done old) b h p t g));
  });
}
  where
    to : Within (top_of old) (top_of mid)
    to h p i = same-tops old mid tops p ∙ i

    was : (p : ℕ) → (has (mid.waiting.items ++ b ∷ []) p ≡ false) ⊎ (p ≡ b) → Done old p ⊎ (p ≡ b)
    was p (inl e) = inl (subst (λ (xs : List ℕ). has xs p ≡ false) (sym waiting) e)
    was p (inr e) = inr e

pub table-falls : (flow : Flow) (old mid new : Filling) (b : ℕ) → mid.tops ≡ old.tops → old.waiting.items ≡ mid.waiting.items ++ b ∷ [] → Turns flow mid new b → work flow.code new < work flow.code old
table-falls flow old mid new b tops waiting turns =
    let placed = unplaced-le flow.code (top_of old) (top_of mid) (λ h p i. same-tops old mid tops p ∙ i) in
    let long : length old.waiting.items ≡ length (mid.waiting.items ++ b ∷ []) = ap (λ (xs : List ℕ). length xs) waiting in
    let more = length_push mid.waiting.items b in
    let less = turns.growing.work in
    omega arith

pub table-ends : (flow : Flow) (s : Filling) → IsTable flow s → s.waiting.items ≡ [] → AreTops flow.code (top_of s)
table-ends flow s is nothing = λ h b. (tops_end flow.code (In s) (Done s) is.table (λ k p i. ap (λ (xs : List ℕ). has xs p) nothing) h b, is.going.sound h b)
