-- Spans of which one is placed.
use Rattle.std.proofs.Common.{◌≡◌, ℕ, zero, suc, ◌+◌, ◌<◌, ◌≤◌, List, [], ◌∷◌, ◌++◌, length, get_or, take, drop, map, Some, inl, inr, refl, sym, ap, subst, ◌∙◌, arith}
use Rattle.std.specs.List.{flat_map, slice_get, slice_set}
use Rattle.std.specs.Option.{option_map}
use Rattle.std.proofs.Math.Seq.{map-set_same}
use Rattle.std.proofs.lemmas.List.{length-append, length-map, length-set, take_more_set, drop-set-lt}
use Rattle.std.proofs.lemmas.List.Elements.{All-set}
use Rattle.std.proofs.lemmas.Option.{get_or_from_slice_get, slice_get-map, slice_get_read, slice_get_within}
use Rattle.spv_module.specs.declared.list.Span.{Span}
use Rattle.spv_module.specs.declared.pool.Pool.{Pool}
use Rattle.spv_module.specs.Instruction.{Instruction}
use Rattle.spv_module.specs.List.{instruction_at, instructions_in, pool_roles, pool_words, AreApart, AreSpans, IsSpan}
use Rattle.spv_placing.specs.Placing.{placed_from, size_in}
use Rattle.spv_placing.proofs.Steps.{dropped_next, placed_all, placed_next}

abbrev at_place : Span → ℕ → Span
at_place span at = record { offset = at; start = span.start; end = span.end }

get_map : {X Y : Type 0} (f : X → Y) (xs : List X) (k : ℕ) (d : X) → get_or (map f xs) k (f d) ≡ f (get_or xs k d)
get_map f [] zero d = refl
get_map f [] (suc k) d = refl
get_map f (x ∷ xs) zero d = refl
get_map f (x ∷ xs) (suc k) d = get_map f xs k d

map_set : {X Y : Type 0} (f : X → Y) (xs : List X) (k : ℕ) (x : X) → map f (slice_set xs k x) ≡ slice_set (map f xs) k (f x)
map_set f [] zero x = refl
map_set f [] (suc k) x = refl
map_set f (y ∷ ys) zero x = refl
map_set f (y ∷ ys) (suc k) x = ap (λ zs. f y ∷ zs) (map_set f ys k x)

module _ (pool : Pool) (spans : List Span) (k : ℕ) (span : Span) (at : ℕ) (here : slice_get spans k ≡ Some span) (a : AreSpans pool spans) where
  abbrev after : List Span
  after = slice_set spans k (at_place span at)

  same_number : (f : Span → ℕ) → f (at_place span at) ≡ f span → (j : ℕ) (d : Span) → f (get_or after j d) ≡ f (get_or spans j d)
  same_number f e j d =
      sym (get_map f after j d)
      ∙ ap (λ ns. get_or ns j (f d))
      (map-set_same f spans k (at_place span at) d (e ∙ ap f (sym (get_or_from_slice_get spans k span d here))))
      ∙ get_map f spans j d

  still_apart : (s t u v : Span) → s.start ≡ u.start → s.end ≡ u.end → t.start ≡ v.start → t.end ≡ v.end → AreApart u v → AreApart s t
  still_apart s t u v a b c d (inl h) = inl (omega (arith, a, b, c, d, h))
  still_apart s t u v a b c d (inr h) = inr (omega (arith, a, b, c, d, h))

  moved : IsSpan (pool_words pool) (pool_roles pool) (at_place span at)
  moved =
      let is : IsSpan (pool_words pool) (pool_roles pool) span =
      subst (IsSpan (pool_words pool) (pool_roles pool)) (get_or_from_slice_get spans k span span here) (a.whole k span (slice_get_within spans k span here)) in
      record { ordered = is.ordered; within = is.within; whole = is.whole }

  placed_are : AreSpans pool after
  placed_are = record {
    whole = All-set (IsSpan (pool_words pool) (pool_roles pool)) spans k (at_place span at) moved a.whole;
    apart = λ i j d lt within.
        still_apart (get_or after i d) (get_or after j d) (get_or spans i d) (get_or spans j d) (same_number (λ s. s.start) refl i d)
        (same_number (λ s. s.end) refl i d) (same_number (λ s. s.start) refl j d) (same_number (λ s. s.end) refl j d)
        (a.apart i j d lt (omega (arith, within, length-set spans k (at_place span at))));
  }

-- how far the placing has come
pub record IsPlaced (pool : Pool) (start now : List Span) (at k : ℕ) : Type 0 where
  pub are : AreSpans pool now
  pub long : length now ≡ length start
  pub done : take k (instructions_in pool now) ++ placed_from at (drop k (instructions_in pool now)) ≡ placed_from 5 (instructions_in pool start)
  pub left : at + length (flat_map (λ (i : Instruction). i.words) (drop k (instructions_in pool now))) ≡ size_in (instructions_in pool start)

module _ (pool : Pool) (start now : List Span) (at k : ℕ) (span : Span) (h : IsPlaced pool start now at k) (within : k < length now)
    (read : span ≡ get_or now k span) where
  here : slice_get now k ≡ Some span
  here = slice_get_read now (length now) k span refl within read

  found : slice_get (instructions_in pool now) k ≡ Some (instruction_at (pool_words pool) span)
  found = slice_get-map (instruction_at (pool_words pool)) now k ∙ ap (option_map (instruction_at (pool_words pool))) here

  rest : drop k (instructions_in pool now) ≡ instruction_at (pool_words pool) span ∷ drop (k + 1) (instructions_in pool now)
  rest = dropped_next (instructions_in pool now) k (instruction_at (pool_words pool) span) found

  pub span_is : IsSpan (pool_words pool) (pool_roles pool) span
  span_is = subst (IsSpan (pool_words pool) (pool_roles pool)) (get_or_from_slice_get now k span span here) (h.are.whole k span within)

  left_is : at + (length (instruction_at (pool_words pool) span).words + length (flat_map (λ (i : Instruction). i.words) (drop (k + 1) (instructions_in pool now))))
      ≡ size_in (instructions_in pool start)
  left_is =
      ap (λ (n : ℕ). at + n)
      (sym (ap (λ is. length (flat_map (λ (i : Instruction). i.words) is)) rest
      ∙ length-append (instruction_at (pool_words pool) span).words (flat_map (λ (i : Instruction). i.words) (drop (k + 1) (instructions_in pool now)))))
      ∙ h.left

  pub no_further : at + length (instruction_at (pool_words pool) span).words ≤ size_in (instructions_in pool start)
  no_further = omega (arith, left_is)

  pub placed-more : (next : ℕ) → next ≡ at + length (instruction_at (pool_words pool) span).words
      → IsPlaced pool start (slice_set now k (record { offset = at; start = span.start; end = span.end })) next (k + 1)
  placed-more next e =
      let insts = instructions_in pool now in
      let i = instruction_at (pool_words pool) span in
      let one : Instruction = record { offset = at; words = i.words } in
      let told : instructions_in pool (slice_set now k (at_place span at)) ≡ slice_set insts k one =
      map_set (instruction_at (pool_words pool)) now k (at_place span at) in
      let long : k < length insts = omega (arith, within, length-map now (instruction_at (pool_words pool))) in
      let behind : drop (k + 1) (slice_set insts k one) ≡ drop (k + 1) insts = drop-set-lt (k + 1) insts k one (omega arith) in
      record {
        are = placed_are pool now k span at here h.are;
        long = length-set now k (at_place span at) ∙ h.long;
        done =
            ap (λ is. take (k + 1) is ++ placed_from next (drop (k + 1) is)) told
            ∙ ap (λ is. take (k + 1) (slice_set insts k one) ++ placed_from next is) behind
            ∙ placed_next (take k insts) (take (k + 1) (slice_set insts k one)) insts (placed_from 5 (instructions_in pool start)) at next k i one h.done
            (take_more_set insts k one long) refl e found;
        left =
            ap (λ is. next + length (flat_map (λ (i : Instruction). i.words) (drop (k + 1) is))) told
            ∙ ap (λ is. next + length (flat_map (λ (i : Instruction). i.words) is)) behind
            ∙ sums next at (length i.words) (length (flat_map (λ (i : Instruction). i.words) (drop (k + 1) insts))) e
            ∙ left_is;
      }
    where
      sums : (n a b c : ℕ) → n ≡ a + b → n + c ≡ a + (b + c)
      sums n a b c e = omega (arith, e)

pub placed-none : (pool : Pool) (spans : List Span) → AreSpans pool spans → IsPlaced pool spans spans 5 0
placed-none pool spans a = record { are = a; long = refl; done = refl; left = refl }

-- all are
pub placed-whole : (pool : Pool) (start now : List Span) (at k : ℕ) → IsPlaced pool start now at k → length now ≤ k
    → instructions_in pool now ≡ placed_from 5 (instructions_in pool start)
placed-whole pool start now at k h n =
    placed_all (instructions_in pool now) (placed_from 5 (instructions_in pool start)) at k h.done
    (omega (arith, n, length-map now (instruction_at (pool_words pool))))
