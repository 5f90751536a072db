-- Instructions whose words stand in a pool, with words added to the pool or put in it.
use Rattle.std.proofs.Common.{◌≡◌, ◌≢◌, ℕ, zero, suc, ◌+◌, ◌-◌, ◌<◌, ◌≤◌, ◌⊎◌, List, [], ◌∷◌, ◌++◌, length, get_or, take, drop, map, Some, inl, inr, refl, sym, ap, subst, ◌∙◌, arith}
use Rattle.std.proofs.Common.{append_assoc, ◌^◌, true, Result, Ok, Err, OnErr}
use Rattle.std.specs.Option.{option_map}
use Rattle.std.specs.List.{All, AllPairs, insert, remove, slice_get, slice_range, slice_set}
use Rattle.std.proofs.Math.Seq.{take-set-lt}
use Rattle.std.proofs.lemmas.Bool.{cases_lt, cases_eq}
use Rattle.std.proofs.lemmas.List.{append-nil, map-append, take-map, drop-map, length-map, length-set, take-append-drop, drop-set-add, drop-set-lt, take-set-le}
use Rattle.std.proofs.lemmas.List.Elements.{All-append, All-cons, All-drop, All-head, All-nil, All-tail, All-take}
use Rattle.std.proofs.lemmas.List.Kept.{AllPairs-cons}
use Rattle.std.proofs.lemmas.List.Quantifiers.{all_pairs_remove}
use Rattle.std.proofs.lemmas.Option.{get_or_from_slice_get, slice_get-get_or, slice_get-map, slice_get_read, slice_get_within}
use Rattle.spv_grammar.specs.declared.kind.Role.{Role}
use Rattle.spv_grammar.specs.declared.kind.Role.TheVariants.{Opcode}
use Rattle.spv_grammar.specs.Roles.{is_used_id}
use Rattle.spv_module.specs.declared.list.Span.{Span}
use Rattle.spv_module.specs.declared.pool.Pool.{Pool}
use Rattle.spv_module.specs.Instruction.{Instruction, IsInstruction, parts}
use Rattle.spv_module.specs.List.{instruction_at, instructions_in, pool_roles, pool_words, AreApart, AreSpans, IsSpan}
use Rattle.spv_module.proofs.Spans.{Adds, spans-added, spans-apart, instructions-added}
use Rattle.spv_draft.specs.Lines.{Extends, Keeps, spliced}
use Rattle.spv_draft.specs.Named.{uses_at, with_word}
use Rattle.spv_draft.proofs.Lists.{set-split, words-cons, words_of}
use Rattle.spv_draft.proofs.PutWhole.{word_whole}

-- ---- lists of which a part is kept

module _ {X : Type 0} (P : X → Type 0) where
  all_front : (xs ys : List X) → All P (xs ++ ys) → All P xs
  all_front [] ys h = All-nil P
  all_front (x ∷ xs) ys h = All-cons P x xs (All-head P x (xs ++ ys) h) (all_front xs ys (All-tail P x (xs ++ ys) h))

  all_back : (xs ys : List X) → All P (xs ++ ys) → All P ys
  all_back [] ys h = h
  all_back (x ∷ xs) ys h = all_back xs ys (All-tail P x (xs ++ ys) h)

  all_spliced : (xs : List X) (i j : ℕ) (more : List X) → All P (xs ++ more) → All P (spliced xs i j more)
  all_spliced xs i j more h =
      let front = all_front xs more h in
      All-append P (take i xs ++ more) (drop j xs) (All-append P (take i xs) more (All-take P i xs front) (all_back xs more h)) (All-drop P j xs front)

module _ {X : Type 0} (R : X → X → Type 0) where
  pairs_head : (x : X) (xs : List X) → AllPairs R (x ∷ xs) → All (R x) xs
  pairs_head x xs h = λ k d within. h 0 (suc k) d (omega arith) (omega (arith, within))

  pairs_tail : (x : X) (xs : List X) → AllPairs R (x ∷ xs) → AllPairs R xs
  pairs_tail x xs h = λ i j d lt within. h (suc i) (suc j) d (omega (arith, lt)) (omega (arith, within))

  pairs_nil : AllPairs R []
  pairs_nil = λ i j d lt within. absurd (omega (arith, lt, within))

  pairs_front : (xs ys : List X) → AllPairs R (xs ++ ys) → AllPairs R xs
  pairs_front [] ys h = pairs_nil
  pairs_front (x ∷ xs) ys h =
      AllPairs-cons R x xs (all_front (R x) xs ys (pairs_head x (xs ++ ys) h)) (pairs_front xs ys (pairs_tail x (xs ++ ys) h))

  pairs_back : (xs ys : List X) → AllPairs R (xs ++ ys) → AllPairs R ys
  pairs_back [] ys h = h
  pairs_back (x ∷ xs) ys h = pairs_back xs ys (pairs_tail x (xs ++ ys) h)

  -- each of the one list and each of the other
  abbrev Across : List X → List X → Type 0
  Across xs ys = All (λ x. All (R x) ys) xs

  across : (xs ys : List X) → AllPairs R (xs ++ ys) → Across xs ys
  across [] ys h = All-nil (λ x. All (R x) ys)
  across (x ∷ xs) ys h =
      All-cons (λ x. All (R x) ys) x xs (all_back (R x) xs ys (pairs_head x (xs ++ ys) h)) (across xs ys (pairs_tail x (xs ++ ys) h))

  pairs_append : (xs ys : List X) → AllPairs R xs → AllPairs R ys → Across xs ys → AllPairs R (xs ++ ys)
  pairs_append [] ys h k c = k
  pairs_append (x ∷ xs) ys h k c =
      AllPairs-cons R x (xs ++ ys) (All-append (R x) xs ys (pairs_head x xs h) (All-head (λ x. All (R x) ys) x xs c))
      (pairs_append xs ys (pairs_tail x xs h) k (All-tail (λ x. All (R x) ys) x xs c))

  across_cut : (xs : List X) (i j : ℕ) → i ≤ j → AllPairs R xs → Across (take i xs) (drop j xs)
  across_cut xs zero j lt h = All-nil (λ x. All (R x) (drop j xs))
  across_cut [] (suc i) j lt h = All-nil (λ x. All (R x) (drop j []))
  across_cut (x ∷ xs) (suc i) zero lt h = absurd (omega (arith, lt))
  across_cut (x ∷ xs) (suc i) (suc j) lt h =
      All-cons (λ y. All (R y) (drop j xs)) x (take i xs) (All-drop (R x) j xs (pairs_head x xs h))
      (across_cut xs i j (omega (arith, lt)) (pairs_tail x xs h))

  pairs_take : (i : ℕ) (xs : List X) → AllPairs R xs → AllPairs R (take i xs)
  pairs_take i xs h = pairs_front (take i xs) (drop i xs) (subst (AllPairs R) (sym (take-append-drop i xs)) h)

  pairs_drop : (i : ℕ) (xs : List X) → AllPairs R xs → AllPairs R (drop i xs)
  pairs_drop i xs h = pairs_back (take i xs) (drop i xs) (subst (AllPairs R) (sym (take-append-drop i xs)) h)

  pairs_spliced : (xs : List X) (i j : ℕ) (more : List X) → ((x y : X) → R x y → R y x) → i ≤ j → AllPairs R (xs ++ more)
      → AllPairs R (spliced xs i j more)
  pairs_spliced xs i j more swap lt h =
      let front = pairs_front xs more h in
      let c = across xs more h in
      let behind : Across more (drop j xs) = λ k d within m e inside. swap _ _ (All-drop (λ x. All (R x) more) j xs c m e inside k d within) in
      pairs_append (take i xs ++ more) (drop j xs)
      (pairs_append (take i xs) more (pairs_take i xs front) (pairs_back xs more h) (All-take (λ x. All (R x) more) i xs c))
      (pairs_drop j xs front)
      (All-append (λ x. All (R x) (drop j xs)) (take i xs) more (across_cut xs i j lt front) behind)

-- ---- words were added

-- lists of one length in front are the same, and those behind them
apart_same : {X : Type 0} (ps qs cs ds : List X) → length ps ≡ length cs → ps ++ qs ≡ cs ++ ds → (ps ≡ cs) × (qs ≡ ds)
apart_same [] qs [] ds n e = (refl, e)
apart_same [] qs (c ∷ cs) ds n e = absurd (omega (arith, n))
apart_same (p ∷ ps) qs [] ds n e = absurd (omega (arith, n))
apart_same (p ∷ ps) qs (c ∷ cs) ds n e =
    let first : p ≡ c = cc e in
    let rest : ps ++ qs ≡ cs ++ ds = cc e in
    let later = apart_same ps qs cs ds (omega (arith, n)) rest in
    (ap (λ x. x ∷ ps) first ∙ ap (λ xs. c ∷ xs) later.0, later.1)

parts_of : (old new : Pool) (spans more : List Span) (insts : List Instruction) → Extends old new spans more insts
    → (instructions_in new spans ≡ instructions_in old spans) × (instructions_in new more ≡ insts)
parts_of old new spans more insts e =
    apart_same (instructions_in new spans) (instructions_in new more) (instructions_in old spans) insts
    (length-map spans (instruction_at (pool_words new)) ∙ sym (length-map spans (instruction_at (pool_words old))))
    (sym (map-append (instruction_at (pool_words new)) spans more) ∙ e.is)

swap_apart : (a b : Span) → AreApart a b → AreApart b a
swap_apart a b (inl h) = inr h
swap_apart a b (inr h) = inl h

pub extends-are : (old new : Pool) (spans more : List Span) (insts : List Instruction) (i j : ℕ) → i ≤ j → Extends old new spans more insts
    → AreSpans new (spliced spans i j more)
extends-are old new spans more insts i j lt e = record {
  whole = all_spliced (IsSpan (pool_words new) (pool_roles new)) spans i j more e.are.whole;
  apart = pairs_spliced AreApart spans i j more swap_apart lt e.are.apart;
}

map_spliced : {X Y : Type 0} (f : X → Y) (xs more : List X) (i j : ℕ) → map f (spliced xs i j more) ≡ spliced (map f xs) i j (map f more)
map_spliced f xs more i j =
    map-append f (take i xs ++ more) (drop j xs)
    ∙ ap (λ front. front ++ map f (drop j xs)) (map-append f (take i xs) more)
    ∙ ap (λ front. (front ++ map f more) ++ map f (drop j xs)) (sym (take-map f i xs))
    ∙ ap (λ back. (take i (map f xs) ++ map f more) ++ back) (sym (drop-map f j xs))

pub extends-told : (old new : Pool) (spans more : List Span) (insts : List Instruction) (i j : ℕ) → Extends old new spans more insts
    → instructions_in new (spliced spans i j more) ≡ spliced (instructions_in old spans) i j insts
extends-told old new spans more insts i j e =
    let same = parts_of old new spans more insts e in
    map_spliced (instruction_at (pool_words new)) spans more i j
    ∙ ap (λ is. spliced is i j (instructions_in new more)) same.0
    ∙ ap (λ is. spliced (instructions_in old spans) i j is) same.1

-- what stood in the pool stays
pub extends-keeps : (old new : Pool) (spans more : List Span) (insts : List Instruction) → Extends old new spans more insts → Keeps old new spans
extends-keeps old new spans more insts e = record {
  are = record {
    whole = all_front (IsSpan (pool_words new) (pool_roles new)) spans more e.are.whole;
    apart = pairs_front AreApart spans more e.are.apart;
  };
  is = (parts_of old new spans more insts e).0;
}

-- the words of an instruction
pub extended : (old new : Pool) (ws : List ℕ) (rs : List Role) (spans : List Span) (span : Span) → pool_words new ≡ pool_words old ++ ws
    → pool_roles new ≡ pool_roles old ++ rs → span.start ≡ length (pool_words old) → span.end ≡ length (pool_words new) → IsInstruction ws rs
    → AreSpans old spans → Extends old new spans (span ∷ []) ((record { offset = span.offset; words = ws }) ∷ [])
extended old new ws rs spans span words_are roles_are starts ends whole a =
    let added : Adds (pool_words old) (pool_words new) ws (pool_roles old) (pool_roles new) rs spans (spans ++ span ∷ []) span = record {
      words_are = words_are;
      roles_are = roles_are;
      spans_are = refl;
      same = old.parted;
      starts = starts;
      ends = ends;
      whole = whole;
      before = a.whole;
    } in
    record {
      are = record { whole = spans-added _ _ _ _ _ _ _ _ _ added; apart = spans-apart _ _ _ _ _ _ _ _ _ added a.apart };
      is = instructions-added _ _ _ _ _ _ _ _ _ added;
    }

-- no word
pub extends-none : (pool : Pool) (spans : List Span) → AreSpans pool spans → Extends pool pool spans [] []
extends-none pool spans a = record {
  are = subst (AreSpans pool) (sym (append-nil spans)) a;
  is = ap (instructions_in pool) (append-nil spans) ∙ sym (append-nil (instructions_in pool spans));
}

-- one instruction more
pub extends-more : (old mid new : Pool) (spans more after : List Span) (insts insts2 : List Instruction) (span : Span) (i : Instruction)
    → after ≡ more ++ span ∷ [] → insts2 ≡ insts ++ i ∷ [] → Extends old mid spans more insts → Extends mid new (spans ++ more) (span ∷ []) (i ∷ [])
    → Extends old new spans after insts2
extends-more old mid new spans more after insts insts2 span i e d first second =
    let all : (spans ++ more) ++ span ∷ [] ≡ spans ++ after = append_assoc spans more (span ∷ []) ∙ ap (λ back. spans ++ back) (sym e) in
    record {
      are = subst (AreSpans new) all second.are;
      is =
          ap (instructions_in new) (sym all)
          ∙ second.is
          ∙ ap (λ is. is ++ i ∷ []) first.is
          ∙ append_assoc (instructions_in old spans) insts (i ∷ [])
          ∙ ap (λ is. instructions_in old spans ++ is) (sym d);
    }

pub extends-kept : (old mid new : Pool) (spans more : List Span) (insts : List Instruction) → Extends old mid spans more insts
    → Keeps mid new (spans ++ more) → Keeps old new spans
extends-kept old mid new spans more insts e k =
    extends-keeps old new spans more insts (record { are = k.are; is = k.is ∙ e.is })

pub keeps-same : (old new : Pool) (spans : List Span) → pool_words new ≡ pool_words old → pool_roles new ≡ pool_roles old → AreSpans old spans
    → Keeps old new spans
keeps-same old new spans words roles a = record {
  are = record {
    whole = subst (λ ws. All (IsSpan ws (pool_roles new)) spans) (sym words)
        (subst (λ rs. All (IsSpan (pool_words old) rs) spans) (sym roles) a.whole);
    apart = a.apart;
  };
  is = ap (λ ws. map (instruction_at ws) spans) words;
}

-- ---- one instruction put in, replaced or taken out

insert_spliced : {X : Type 0} (xs : List X) (k : ℕ) (x : X) → spliced xs k k (x ∷ []) ≡ insert xs k x
insert_spliced xs k x = append_assoc (take k xs) (x ∷ []) (drop k xs)

set_spliced : {X : Type 0} (xs : List X) (k : ℕ) (x : X) → k < length xs → spliced xs k (suc k) (x ∷ []) ≡ slice_set xs k x
set_spliced xs k x h = append_assoc (take k xs) (x ∷ []) (drop (suc k) xs) ∙ sym (set-split xs k x h)

pub insert-are : (old new : Pool) (spans after : List Span) (span : Span) (i : Instruction) (k : ℕ) → after ≡ insert spans k span
    → Extends old new spans (span ∷ []) (i ∷ []) → AreSpans new after
insert-are old new spans after span i k e h =
    subst (AreSpans new) (insert_spliced spans k span ∙ sym e) (extends-are old new spans (span ∷ []) (i ∷ []) k k (omega arith) h)

pub insert-told : (old new : Pool) (spans after : List Span) (span : Span) (i : Instruction) (k : ℕ) → after ≡ insert spans k span
    → Extends old new spans (span ∷ []) (i ∷ []) → instructions_in new after ≡ insert (instructions_in old spans) k i
insert-told old new spans after span i k e h =
    ap (instructions_in new) (e ∙ sym (insert_spliced spans k span))
    ∙ extends-told old new spans (span ∷ []) (i ∷ []) k k h
    ∙ insert_spliced (instructions_in old spans) k i

pub set-are : (old new : Pool) (spans after : List Span) (span : Span) (i : Instruction) (k : ℕ) → k < length spans → after ≡ slice_set spans k span
    → Extends old new spans (span ∷ []) (i ∷ []) → AreSpans new after
set-are old new spans after span i k within e h =
    subst (AreSpans new) (set_spliced spans k span within ∙ sym e) (extends-are old new spans (span ∷ []) (i ∷ []) k (suc k) (omega arith) h)

pub set-told : (old new : Pool) (spans after : List Span) (span : Span) (i : Instruction) (k : ℕ) → k < length spans → after ≡ slice_set spans k span
    → Extends old new spans (span ∷ []) (i ∷ []) → instructions_in new after ≡ slice_set (instructions_in old spans) k i
set-told old new spans after span i k within e h =
    ap (instructions_in new) (e ∙ sym (set_spliced spans k span within))
    ∙ extends-told old new spans (span ∷ []) (i ∷ []) k (suc k) h
    ∙ set_spliced (instructions_in old spans) k i (omega (arith, within, length-map spans (instruction_at (pool_words old))))

pub remove-are : (pool : Pool) (spans : List Span) (k : ℕ) → k < length spans → AreSpans pool spans → AreSpans pool (remove spans k)
remove-are pool spans k within a =
    let P = IsSpan (pool_words pool) (pool_roles pool) in
    record {
      whole = All-append P (take k spans) (drop (suc k) spans) (All-take P k spans a.whole) (All-drop P (suc k) spans a.whole);
      apart = all_pairs_remove AreApart spans k within a.apart;
    }

pub remove-told : (pool : Pool) (spans : List Span) (k : ℕ) → instructions_in pool (remove spans k) ≡ remove (instructions_in pool spans) k
remove-told pool spans k =
    let f = instruction_at (pool_words pool) in
    map-append f (take k spans) (drop (suc k) spans)
    ∙ ap (λ front. front ++ map f (drop (suc k) spans)) (sym (take-map f k spans))
    ∙ ap (λ back. take k (map f spans) ++ back) (sym (drop-map f (suc k) spans))

-- ---- the instruction of one span

-- what a step that failed says
pub on_err : {A E : Type 0} (r : Result A E) (P : Type 0) → P → OnErr r P
on_err (Ok x) P p = tt
on_err (Err e) P p = p

pub one_of : (i j : Instruction) → Some i ≡ Some j → i ≡ j
one_of i j e = cc e

pub span_told : (pool : Pool) (spans : List Span) (k : ℕ) (span : Span) → slice_get spans k ≡ Some span
    → slice_get (instructions_in pool spans) k ≡ Some (instruction_at (pool_words pool) span)
span_told pool spans k span e =
    slice_get-map (instruction_at (pool_words pool)) spans k ∙ ap (option_map (instruction_at (pool_words pool))) e

pub told_at : (pool : Pool) (spans : List Span) (k : ℕ) (d : Span) (i : Instruction) → k < length spans
    → i ≡ instruction_at (pool_words pool) (get_or spans k d) → slice_get (instructions_in pool spans) k ≡ Some i
told_at pool spans k d i h e =
    span_told pool spans k (get_or spans k d) (slice_get-get_or spans k d h) ∙ ap (λ (j : Instruction). Some j) (sym e)

pub within_spans : (pool : Pool) (spans : List Span) (insts : List Instruction) (k : ℕ) → instructions_in pool spans ≡ insts → k < length insts
    → k < length spans
within_spans pool spans insts k e h = omega (arith, h, ap length e, length-map spans (instruction_at (pool_words pool)))

-- each instruction has a word
pub counted : (pool : Pool) (spans : List Span) → All (IsSpan (pool_words pool) (pool_roles pool)) spans
    → length spans ≤ words_of (instructions_in pool spans)
counted pool [] all = omega arith
counted pool (span ∷ spans) all =
    let P = IsSpan (pool_words pool) (pool_roles pool) in
    let later = counted pool spans (All-tail P span spans all) in
    let first = All-head P span spans all in
    omega (arith, later, first.whole.some, words-cons (instruction_at (pool_words pool) span) (instructions_in pool spans))

take_few : {X : Type 0} (n : ℕ) (xs : List X) → length (take n xs) ≤ n
take_few zero xs = omega arith
take_few (suc n) [] = omega arith
take_few (suc n) (x ∷ xs) = omega (arith, take_few n xs)

used_within : (rs : List Role) (at : ℕ) → is_used_id (get_or rs at Opcode) ≡ true → at < length rs
used_within [] zero e = absurd (cc e)
used_within [] (suc at) e = absurd (cc e)
used_within (r ∷ rs) zero e = omega arith
used_within (r ∷ rs) (suc at) e = omega (arith, used_within rs at e)

-- a word of a span uses an id
pub record IsHere (pool : Pool) (spans : List Span) (insts : List Instruction) (k : ℕ) (span : Span) (at : ℕ) : Type 0 where
  pub place : slice_get spans k ≡ Some span
  pub told : slice_get insts k ≡ Some (instruction_at (pool_words pool) span)
  pub inside : at < span.end - span.start
  pub within : span.end ≤ length (pool_words pool)
  pub fits : at < length (slice_range (pool_words pool) span.start span.end)
  pub used : is_used_id (get_or (slice_range (pool_roles pool) span.start span.end) at Opcode) ≡ true
  pub whole : IsInstruction (slice_range (pool_words pool) span.start span.end) (slice_range (pool_roles pool) span.start span.end)

pub used_here : (pool : Pool) (spans : List Span) (insts : List Instruction) (k : ℕ) (span : Span) (at : ℕ) → instructions_in pool spans ≡ insts
    → k < length insts → span ≡ get_or spans k span → AreSpans pool spans → ((i : Instruction) → slice_get insts k ≡ Some i → uses_at i at ≡ true)
    → IsHere pool spans insts k span at
used_here pool spans insts k span at e h here a used =
    let within : k < length spans = within_spans pool spans insts k e h in
    let place : slice_get spans k ≡ Some span = slice_get_read spans (length spans) k span refl within here in
    let told : slice_get insts k ≡ Some (instruction_at (pool_words pool) span) =
    ap (λ is. slice_get is k) (sym e) ∙ span_told pool spans k span place in
    let is : IsSpan (pool_words pool) (pool_roles pool) span =
    subst (IsSpan (pool_words pool) (pool_roles pool)) (get_or_from_slice_get spans k span span place) (a.whole k span within) in
    let ws = slice_range (pool_words pool) span.start span.end in
    let rs = slice_range (pool_roles pool) span.start span.end in
    let there : is_used_id (get_or rs at Opcode) ≡ true =
    ap (λ (roles : List Role). is_used_id (get_or roles at Opcode)) (sym (ap parts is.whole.parted)) ∙ used (instruction_at (pool_words pool) span) told in
    let fits : at < length ws = omega (arith, used_within rs at there, is.whole.long) in
    record {
      place = place;
      told = told;
      inside = omega (arith, fits, take_few (span.end - span.start) (drop span.start (pool_words pool)));
      within = is.within;
      fits = fits;
      used = there;
      whole = is.whole;
    }

-- ---- a word was put

set_outside : (xs : List ℕ) (a b i x : ℕ) → (i < a) ⊎ (b ≤ i) → slice_range (slice_set xs i x) a b ≡ slice_range xs a b
set_outside xs a b i x (inl low) = ap (take (b - a)) (drop-set-lt a xs i x low)
set_outside xs a b i x (inr high) = past (cases_lt i a)
  where
    at : a ≤ i → a + (i - a) ≡ i
    at h = omega (arith, h)

    past : (i < a) ⊎ (a ≤ i) → slice_range (slice_set xs i x) a b ≡ slice_range xs a b
    past (inl low) = ap (take (b - a)) (drop-set-lt a xs i x low)
    past (inr up) =
        ap (λ n. take (b - a) (drop a (slice_set xs n x))) (sym (at up))
        ∙ ap (take (b - a)) (drop-set-add a xs (i - a) x)
        ∙ take-set-le (b - a) (drop a xs) (i - a) x (omega (arith, high))

set_inside : (xs : List ℕ) (a b m x : ℕ) → m < b - a → slice_range (slice_set xs (a + m) x) a b ≡ slice_set (slice_range xs a b) m x
set_inside xs a b m x h = ap (take (b - a)) (drop-set-add a xs m x) ∙ take-set-lt (b - a) (drop a xs) m x h

map_same : {X Y : Type 0} (f g : X → Y) (xs : List X) → ((j : ℕ) (d : X) → j < length xs → g (get_or xs j d) ≡ f (get_or xs j d)) → map g xs ≡ map f xs
map_same f g [] h = refl
map_same f g (x ∷ xs) h =
    ap (λ y. y ∷ map g xs) (h 0 x (omega arith)) ∙ ap (λ ys. f x ∷ ys) (map_same f g xs (λ j d within. h (suc j) d (omega (arith, within))))

-- all but one stay
map_but_one : {X Y : Type 0} (f g : X → Y) (xs : List X) (k : ℕ) (x : X) → slice_get xs k ≡ Some x
    → ((j : ℕ) (d : X) → j < length xs → j ≢ k → g (get_or xs j d) ≡ f (get_or xs j d)) → map g xs ≡ slice_set (map f xs) k (g x)
map_but_one f g [] k x e h = absurd (cc e)
map_but_one f g (y ∷ ys) zero x e h =
    let same : y ≡ x = cc e in
    ap (λ z. g z ∷ map g ys) same ∙ ap (λ zs. g x ∷ zs) (map_same f g ys (λ j d within. h (suc j) d (omega (arith, within)) (λ n. omega (arith, n))))
map_but_one f g (y ∷ ys) (suc k) x e h =
    ap (λ z. z ∷ map g ys) (h 0 y (omega arith) (λ n. omega (arith, n)))
    ∙ ap (λ zs. f y ∷ zs) (map_but_one f g ys k x e (λ j d within other. h (suc j) d (omega (arith, within)) (λ n. other (omega (arith, n)))))

-- a word of one instruction was put
pub record Puts (old new : Pool) (spans : List Span) (k : ℕ) (span : Span) (m x : ℕ) : Type 0 where
  pub at : slice_get spans k ≡ Some span
  pub inside : m < span.end - span.start
  pub words : pool_words new ≡ slice_set (pool_words old) (span.start + m) x
  pub roles : pool_roles new ≡ pool_roles old
  pub whole : IsInstruction (slice_set (slice_range (pool_words old) span.start span.end) m x) (slice_range (pool_roles old) span.start span.end)

module _ (old new : Pool) (spans : List Span) (k : ℕ) (span : Span) (m x : ℕ) (p : Puts old new spans k span m x) (a : AreSpans old spans) where
  apart_from : (j : ℕ) (d : Span) → j < length spans → j ≢ k → AreApart (get_or spans j d) span
  apart_from j d within other = in_turn (cases_lt j k)
    where
      same : get_or spans k d ≡ span
      same = get_or_from_slice_get spans k span d p.at

      in_turn : (j < k) ⊎ (k ≤ j) → AreApart (get_or spans j d) span
      in_turn (inl low) = subst (AreApart (get_or spans j d)) same (a.apart j k d low (slice_get_within spans k span p.at))
      in_turn (inr up) = swap_apart span (get_or spans j d)
          (subst (λ (s : Span). AreApart s (get_or spans j d)) same (a.apart k j d (above up) within))
        where
          above : k ≤ j → k < j
          above h = lt_of (cases_lt k j)
            where
              lt_of : (k < j) ⊎ (j ≤ k) → k < j
              lt_of (inl lt) = lt
              lt_of (inr le) = absurd (other (omega (arith, le, h)))

  out_of : (s : Span) → AreApart s span → (span.start + m < s.start) ⊎ (s.end ≤ span.start + m)
  out_of s (inl h) = inr (omega (arith, h))
  out_of s (inr h) = let inside = p.inside in inl (omega (arith, h, inside))

  others_stay : (s : Span) → AreApart s span → slice_range (pool_words new) s.start s.end ≡ slice_range (pool_words old) s.start s.end
  others_stay s apart =
      ap (λ ws. slice_range ws s.start s.end) p.words
      ∙ set_outside (pool_words old) s.start s.end (span.start + m) x (out_of s apart)

  this_one : slice_range (pool_words new) span.start span.end ≡ slice_set (slice_range (pool_words old) span.start span.end) m x
  this_one = ap (λ ws. slice_range ws span.start span.end) p.words ∙ set_inside (pool_words old) span.start span.end m x p.inside

  whole_again : (s : Span) (ws : List ℕ) → slice_range (pool_words new) s.start s.end ≡ ws → IsInstruction ws (slice_range (pool_roles old) s.start s.end)
      → IsSpan (pool_words old) (pool_roles old) s → IsSpan (pool_words new) (pool_roles new) s
  whole_again s ws e whole is = record {
    ordered = is.ordered;
    within = let within = is.within in
        omega (arith, within, ap length p.words, length-set (pool_words old) (span.start + m) x);
    whole =
        subst (λ us. IsInstruction us (slice_range (pool_roles new) s.start s.end)) (sym e)
        (subst (λ rs. IsInstruction ws (slice_range rs s.start s.end)) (sym p.roles) whole);
  }

  put_span : (j : ℕ) (d : Span) → j < length spans → IsSpan (pool_words new) (pool_roles new) (get_or spans j d)
  put_span j d within = either (cases_eq j k)
    where
      either : (j ≡ k) ⊎ (j ≢ k) → IsSpan (pool_words new) (pool_roles new) (get_or spans j d)
      either (inl e) =
          let same : get_or spans j d ≡ span = ap (λ n. get_or spans n d) e ∙ get_or_from_slice_get spans k span d p.at in
          subst (IsSpan (pool_words new) (pool_roles new)) (sym same)
          (whole_again span (slice_set (slice_range (pool_words old) span.start span.end) m x) this_one p.whole
          (subst (IsSpan (pool_words old) (pool_roles old)) same (a.whole j d within)))
      either (inr other) =
          let s = get_or spans j d in
          let is = a.whole j d within in
          whole_again s (slice_range (pool_words old) s.start s.end) (others_stay s (apart_from j d within other)) is.whole is

  pub put-are : AreSpans new spans
  put-are = record { whole = put_span; apart = a.apart }

  pub put-told : instructions_in new spans ≡ slice_set (instructions_in old spans) k
      (record { offset = span.offset; words = slice_set (slice_range (pool_words old) span.start span.end) m x })
  put-told =
      map_but_one (instruction_at (pool_words old)) (instruction_at (pool_words new)) spans k span p.at
      (λ j d within other. ap (λ ws. record { offset = (get_or spans j d).offset; words = ws }) (others_stay (get_or spans j d) (apart_from j d within other)))
      ∙ ap (λ ws. slice_set (instructions_in old spans) k (record { offset = span.offset; words = ws })) this_one

puts : (old new : Pool) (spans : List Span) (insts : List Instruction) (k : ℕ) (span : Span) (m x : ℕ) → IsHere old spans insts k span m → 0 < x → x < 2 ^ 32
    → pool_words new ≡ slice_set (pool_words old) (span.start + m) x → pool_roles new ≡ pool_roles old → Puts old new spans k span m x
puts old new spans insts k span m x here some small words roles = record {
  at = here.place;
  inside = here.inside;
  words = words;
  roles = roles;
  whole =
      word_whole (slice_range (pool_roles old) span.start span.end) (slice_range (pool_words old) span.start span.end) m x Opcode here.fits here.used some small
      here.whole;
}

-- the spans and the instructions then
pub record WordPut (new : Pool) (spans : List Span) (insts : List Instruction) (k : ℕ) (i : Instruction) (m x : ℕ) : Type 0 where
  pub are : AreSpans new spans
  pub told : instructions_in new spans ≡ slice_set insts k (with_word i m x)

pub word-put : (old new : Pool) (spans : List Span) (insts : List Instruction) (k : ℕ) (span : Span) (m x : ℕ) → instructions_in old spans ≡ insts
    → AreSpans old spans → IsHere old spans insts k span m → 0 < x → x < 2 ^ 32 → pool_words new ≡ slice_set (pool_words old) (span.start + m) x
    → pool_roles new ≡ pool_roles old → WordPut new spans insts k (instruction_at (pool_words old) span) m x
word-put old new spans insts k span m x e a here some small words roles =
    let p = puts old new spans insts k span m x here some small words roles in
    record {
      are = put-are old new spans k span m x p a;
      told =
          put-told old new spans k span m x p a
          ∙ ap (λ is. slice_set is k (with_word (instruction_at (pool_words old) span) m x)) e;
    }
