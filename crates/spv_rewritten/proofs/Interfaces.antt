-- 602: what a function reaches it reached; so interfaces fit where functions name no more and entry points list the same, or all that is reached.
use Rattle.std.proofs.Common.{◌≡◌, inl, inr, ℕ, zero, suc, Bool, true, false, cond, ◌&&◌, ◌||◌, nat_eq, List, [], ◌∷◌, ◌++◌, drop, refl, sym, ap, ap₂, subst, ◌∙◌}
use Rattle.std.specs.List.{filter, flat_map, list_all, slice_index}
use Rattle.std.proofs.lemmas.Bool.{and_parts}
use Rattle.graph.proofs.Elements.{same_test}
use Rattle.graph.specs.Reaching.{Reaches}
use Rattle.spv_module.specs.Code.{is_function, is_line}
use Rattle.spv_module.specs.Instruction.{Instruction}
use Rattle.spv_module.specs.Layout.{is_entry_point}
use Rattle.spv_ids.specs.Ids.{used_ids}
use Rattle.spv_walk.proofs.Unique.{either_holds, equal_true, left_holds, right_holds}
use Rattle.spv_calls.specs.Calls.{function_at, function_in, globals_at, globals_of, is_global, up_to_function}
use Rattle.spv_calls.specs.Interfaces.{IsInterface, IsReferenced, has, interface}
use Rattle.spv_thinned.proofs.Walk.{inst}
use Rattle.spv_rewritten.specs.Rewritten.{EachAs, FunctionsStay, IsRewritten, IsRewrittenAs, ListsReferenced, NamesNoMore, StaysBehind}
use Rattle.spv_rewritten.specs.Laws.{InterfacesStay, InterfacesWhereListed, NamesWhereFunctionsStay}
use Rattle.spv_rewritten.proofs.Calls.{each_up_to, same_calls}
use Rattle.spv_rewritten.proofs.Common.{entry_function_same, same_entry_point, same_function}
use Rattle.spv_rewritten.proofs.Lookups.{same_global, same_place}
use Rattle.spv_rewritten.proofs.Pairs.{at_place, each_both, walk}

-- each that a list has passes, if all do; and the other way round
one_of_all : (p : ℕ → Bool) (xs : List ℕ) → list_all p xs ≡ true → (id : ℕ) → has xs id ≡ true → p id ≡ true
one_of_all p [] all id h = absurd (cc h)
one_of_all p (x ∷ xs) all id h =
    let parts = and_parts (p x) (list_all p xs) all in
    elim (either_holds (nat_eq id x) (has xs id) h) [
      | inl e ↦ ap p (equal_true id x e) ∙ parts.0
      | inr g ↦ one_of_all p xs parts.1 id g
    ]

all_of_each : (p : ℕ → Bool) (xs : List ℕ) → ((id : ℕ) → has xs id ≡ true → p id ≡ true) → list_all p xs ≡ true
all_of_each p [] h = refl
all_of_each p (x ∷ xs) h =
    ap₂ (λ (a b : Bool). a && b) (h x (left_holds (nat_eq x x) (has xs x) (same_test x x refl)))
    (all_of_each p xs (λ id g. h id (right_holds (nat_eq id x) (has xs id) g)))

module _ (before after : List Instruction) (w : IsRewritten before after) where
  referenced_before : NamesNoMore before after → (f id : ℕ) → IsReferenced after f id → IsReferenced before f id
  referenced_before names f id r = record {
    entry = r.entry;
    defined = sym (same_place before before after w f) ∙ r.defined;
    place = r.place;
    reached = subst (λ (cs : List (List ℕ)). Reaches cs r.entry r.place) (same_calls before after w) r.reached;
    named = names r.place id r.named;
  }

  -- ---- an interface that stays

  interface_stays : NamesNoMore before after → (f : ℕ) (ids : List ℕ) → IsInterface before f ids → IsInterface after f ids
  interface_stays names f ids old = record {
    globals = (λ k. list_all (λ id. same_global before before after w id k) ids) ∙ old.globals;
    once = old.once;
    all = λ id r. old.all id (referenced_before names f id r);
  }

  interface_narrows : NamesNoMore before after → (i j : Instruction) → IsInterface before (slice_index i.words 2) (interface i) → ListsReferenced before i j
      → IsInterface after (slice_index i.words 2) (interface j)
  interface_narrows names i j old l = record {
    globals =
        (λ k. list_all (λ id. same_global before before after w id k) (interface j))
        ∙ all_of_each (is_global before) (interface j) (λ id h. one_of_all (is_global before) (interface i) old.globals id (l.fewer id h));
    once = l.once;
    all = λ id r. l.all id (referenced_before names (slice_index i.words 2) id r);
  }

pub interfaces_stay : InterfacesStay
interfaces_stay before after w same names fit k j at entry =
    let r = at_place (λ i j. IsRewrittenAs before i j × (is_entry_point i ≡ true → j.words ≡ i.words)) before after
    (each_both (IsRewrittenAs before) (λ i j. is_entry_point i ≡ true → j.words ≡ i.words) before after w same) k j at in
    let was : is_entry_point r.inst ≡ true = sym (same_entry_point before r.inst j r.pair.0) ∙ entry in
    subst (λ (ws : List ℕ). IsInterface after (slice_index ws 2) (interface (inst ws))) (sym (r.pair.1 was))
    (interface_stays before after w names (slice_index r.inst.words 2) (interface r.inst) (fit k r.inst r.there was))

pub interfaces_where_listed : InterfacesWhereListed
interfaces_where_listed before after w lists names fit k j at entry =
    let r = at_place (λ i j. IsRewrittenAs before i j × (is_entry_point i ≡ true → ListsReferenced before i j)) before after
    (each_both (IsRewrittenAs before) (λ i j. is_entry_point i ≡ true → ListsReferenced before i j) before after w lists) k j at in
    let was : is_entry_point r.inst ≡ true = sym (same_entry_point before r.inst j r.pair.0) ∙ entry in
    subst (λ f. IsInterface after f (interface j)) (sym (entry_function_same before r.inst j r.pair.0 was))
    (interface_narrows before after w names r.inst j (fit k r.inst r.there was) (r.pair.1 was))

-- ---- what functions name, where nothing is rewritten from the first one on

abbrev Same : Instruction → Instruction → Type 0
Same i j = j.words ≡ i.words

-- where one has begun
all_same : (is js : List Instruction) → StaysBehind true is js → EachAs Same is js
all_same [] [] h = tt
all_same [] (j ∷ js) h = absurd h
all_same (i ∷ is) [] h = absurd h
all_same (i ∷ is) (j ∷ js) h = (h.0 refl, all_same is js h.1)

or_true : (b : Bool) → (b || true) ≡ true
or_true true = refl
or_true false = refl

module _ (before after : List Instruction) (w : IsRewritten before after) where
  function_same : (begun : Bool) (is js : List Instruction) → StaysBehind begun is js → EachAs (IsRewrittenAs before) is js
      → EachAs Same (function_in is) (function_in js)
  function_same begun [] [] s h = tt
  function_same begun [] (j ∷ js) s h = absurd s
  function_same begun (i ∷ is) [] s h = absurd s
  function_same begun (i ∷ is) (j ∷ js) s h =
      subst (λ (b : Bool). EachAs Same (function_in (i ∷ is)) (cond b (j ∷ up_to_function js) [])) (sym (same_function before i j h.0))
      (by (is_function i) refl)
    where
      by : (b : Bool) → is_function i ≡ b → EachAs Same (cond b (i ∷ up_to_function is) []) (cond b (j ∷ up_to_function js) [])
      by true e =
          let here : (begun || is_function i) ≡ true = ap (λ b. begun || b) e ∙ or_true begun in (
            s.0 here,
            each_up_to Same (λ i j e. ap (λ ws. is_function (inst ws)) e) is js (all_same is js (subst (λ b. StaysBehind b is js) here s.1)),
          )
      by false e = tt

  -- by induction on the place
  function_same_at : (k : ℕ) (begun : Bool) (is js : List Instruction) → StaysBehind begun is js → EachAs (IsRewrittenAs before) is js
      → EachAs Same (function_in (drop k is)) (function_in (drop k js))
  function_same_at zero begun is js s h = function_same begun is js s h
  function_same_at (suc k) begun [] [] s h = tt
  function_same_at (suc k) begun [] (j ∷ js) s h = absurd s
  function_same_at (suc k) begun (i ∷ is) [] s h = absurd s
  function_same_at (suc k) begun (i ∷ is) (j ∷ js) s h = function_same_at k (begun || is_function i) is js s.1 h.1

  same_globals_of : (i j : Instruction) → j.words ≡ i.words → globals_of after j ≡ globals_of before i
  same_globals_of i j e =
      λ k. cond (is_line (inst (e k))) [] (filter (λ id. same_global before before after w id k) (used_ids (inst (e k))))

  same_globals_at : FunctionsStay before after → (place : ℕ) → globals_at after place ≡ globals_at before place
  same_globals_at s place =
      walk Same (λ is js. flat_map (globals_of after) js ≡ flat_map (globals_of before) is) refl
      (λ i j is js r h. ap₂ (λ (a b : List ℕ). a ++ b) (same_globals_of i j r) h)
      (function_at before place) (function_at after place) (function_same_at place false before after s w)

pub names_where_functions_stay : NamesWhereFunctionsStay
names_where_functions_stay before after w s place id h = sym (ap (λ ids. has ids id) (same_globals_at before after w s place)) ∙ h
