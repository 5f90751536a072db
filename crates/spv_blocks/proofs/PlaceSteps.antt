-- The places of labels and how often they are named, one block after the other.
use Rattle.std.proofs.Common.{◌≡◌, ℕ, zero, suc, ◌+◌, ◌<◌, ◌≤◌, ◌==◌, Bool, true, false, cond, min, not, nat_lt, List, [], ◌∷◌, ◌++◌, length, get_or, take, map, Option, Some, None, refl, sym, ap, ◌∙◌, arith, add-one, append_assoc}
use Rattle.std.proofs.Math.Seq.{take-suc}
use Rattle.std.specs.List.{position_or_len, slice_get}
use Rattle.std.specs.Option.{is_some, option_map, option_or, unwrap_or}
use Rattle.std.proofs.lemmas.Bool.Decides.{nat_tests}
use Rattle.std.proofs.lemmas.List.{map-append}
use Rattle.spv_blocks.specs.declared.block.Ins.{Ins as DeclaredIns}
use Rattle.spv_blocks.specs.declared.table.Table.{Table}
use Rattle.spv_blocks.specs.Seen.{seen_ins}
use Rattle.spv_blocks.proofs.Slices.{take-at}
use Rattle.spv_blocks.specs.Blocks.{Ins, Block, Code, block, is_some_block, names, seconds, names_in, roles, times}
use Rattle.graph.proofs.Elements.{equal}
use Rattle.spv_blocks.specs.Tables.{found}
use Rattle.spv_blocks.specs.Places.{place, number_of, HasPlaces, KeepsPlace, HasNames, AddsNames}

-- the number of the first block with a label, among blocks of which the first has the number n
abbrev pub place_from : (n : ℕ) → Code → ℕ → Option ℕ
place_from n [] l = None
place_from n (b ∷ bs) l = cond (b.label == l) (Some n) (place_from (n + 1) bs l)

-- the place behind one block more
one_back : (t : Bool) (n len : ℕ) → cond (nat_lt (cond (not t) (1 + n) 0) (suc len)) (Some (cond (not t) (1 + n) 0)) None ≡ cond t (Some 0) (option_map (λ k. suc k) (cond (nat_lt n len) (Some n) None))
one_back true n len = grind (arith, nat_tests)
one_back false n len = grind (arith, nat_tests)

counted_on : (t : Bool) (n : ℕ) (later found : Option ℕ) → later ≡ option_map (λ k. k + (n + 1)) found →
    cond t (Some n) later ≡ option_map (λ k. k + n) (cond t (Some 0) (option_map (λ k. suc k) found))
counted_on true n later found e = let same : n ≡ 0 + n = omega arith in ap (λ k. Some k) same
counted_on false n later None e = e
counted_on false n later (Some k) e = e ∙ ap (λ m. Some m) (let same : k + (n + 1) ≡ suc k + n = omega arith in same)

-- induction on the blocks
place-from : (n : ℕ) (f : Code) (l : ℕ) → place_from n f l ≡ option_map (λ k. k + n) (place f l)
place-from n [] l = refl
place-from n (b ∷ f) l =
    counted_on (b.label == l) n (place_from (n + 1) f l) (place f l) (place-from (n + 1) f l)
    ∙ ap (option_map (λ k. k + n)) (sym (one_back (b.label == l) (position_or_len (λ (c : Block). c.label == l) f) (length f)))

none_more : (o : Option ℕ) → option_map (λ k. k + 0) o ≡ o
none_more None = refl
none_more (Some k) = let same : k + 0 ≡ k = omega arith in ap (λ m. Some m) same

place-is : (f : Code) (l : ℕ) → place_from 0 f l ≡ place f l
place-is f l = place-from 0 f l ∙ none_more (place f l)

one_on : (t u : Bool) (n m k : ℕ) (later found : Option ℕ) → m ≡ k → later ≡ option_or found (cond u (Some m) None) →
    cond t (Some n) later ≡ option_or (cond t (Some n) found) (cond u (Some k) None)
one_on true u n m k later found e is = refl
one_on false u n m k later found e is = is ∙ ap (λ j. option_or found (cond u (Some j) None)) e

-- one block more; induction on those before it
pub place-push : (n : ℕ) (f : Code) (b : Block) (l : ℕ) →
    place_from n (f ++ b ∷ []) l ≡ option_or (place_from n f l) (cond (b.label == l) (Some (n + length f)) None)
place-push n [] b l = let same : n ≡ n + 0 = omega arith in ap (λ k. cond (b.label == l) (Some k) None) same
place-push n (c ∷ f) b l =
    one_on (c.label == l) (b.label == l) n ((n + 1) + length f) (n + suc (length f)) (place_from (n + 1) (f ++ b ∷ []) l) (place_from (n + 1) f l) (omega arith) (place-push (n + 1) f b l)

kept_one : (same : Bool) (k : ℕ) (o n : Option ℕ) → (same ≡ true → None ≡ o) → n ≡ cond same (Some k) o → n ≡ option_or o (cond same (Some k) None)
kept_one true k o n none is = is ∙ ap (λ p. option_or p (Some k)) (none refl)
kept_one false k None n none is = is
kept_one false k (Some m) n none is = is

-- a label that has no place gets one
pub keeps : (old new : Table ℕ) (k label : ℕ) → None ≡ found old label → ((l : ℕ) → found new l ≡ cond (label == l) (Some k) (found old l)) → KeepsPlace old new k label
keeps old new k label none puts = record {
  at = λ l. kept_one (label == l) k (found old l) (found new l) (λ same. none ∙ ap (found old) (equal label l same)) (puts l);
}

pub places-more : (old new : Table ℕ) (f after : Code) (k : ℕ) (b : Block) → length f ≡ k → after ≡ f ++ b ∷ [] →
    HasPlaces old f → KeepsPlace old new k b.label → HasPlaces new after
places-more old new f after k b long more has adds = record {
  at = λ l.
      adds.at l
      ∙ ap (λ o. option_or o (cond (b.label == l) (Some k) None)) (has.at l)
      ∙ ap (λ n. option_or (place f l) (cond (b.label == l) (Some n) None)) (let same : k ≡ 0 + length f = omega arith in same)
      ∙ ap (λ o. option_or o (cond (b.label == l) (Some (0 + length f)) None)) (sym (place-is f l))
      ∙ sym (ap (λ g. place g l) more ∙ sym (place-is (f ++ b ∷ []) l) ∙ place-push 0 f b l);
}

-- a place is not before the first
place_bound : (t : Bool) (n k : ℕ) (later : Option ℕ) → (later ≡ Some k → n + 1 ≤ k) → cond t (Some n) later ≡ Some k → n ≤ k
place_bound true n k later above found = let same : n ≡ k = ap (λ o. unwrap_or o n) found in omega arith
place_bound false n k later above found = let next = above found in omega arith

place-bound : (n : ℕ) (f : Code) (l k : ℕ) → place_from n f l ≡ Some k → n ≤ k
place-bound n [] l k found = cc
place-bound n (b ∷ f) l k found = place_bound (b.label == l) n k (place_from (n + 1) f l) (place-bound (n + 1) f l k) found

-- nor behind the last
place_limit : (t : Bool) (n k len : ℕ) (later : Option ℕ) → (later ≡ Some k → k < (n + 1) + len) → cond t (Some n) later ≡ Some k → k < n + suc len
place_limit true n k len later below found = let same : n ≡ k = ap (λ o. unwrap_or o n) found in omega arith
place_limit false n k len later below found = let next = below found in omega arith

place-limit : (n : ℕ) (f : Code) (l k : ℕ) → place_from n f l ≡ Some k → k < n + length f
place-limit n [] l k found = cc
place-limit n (b ∷ f) l k found = place_limit (b.label == l) n k (length f) (place_from (n + 1) f l) (place-limit (n + 1) f l k) found

pub place-within : (f : Code) (l k : ℕ) → place f l ≡ Some k → k < length f
place-within f l k found = let below = place-limit 0 f l k (place-is f l ∙ found) in omega arith

found_here : (t : Bool) (n k : ℕ) (b : Block) (later : Option ℕ) (behind : Option Block) → n ≡ k → (later ≡ Some k → n + 1 ≤ k) →
    cond t (Some n) later ≡ Some k → Some b ≡ cond t (Some b) behind
found_here true n k b later behind same above found = refl
found_here false n k b later behind same above found = let next = above found in absurd (omega arith)

found_behind : (t : Bool) (n k d : ℕ) (b : Block) (later : Option ℕ) (there behind : Option Block) → n + suc d ≡ k → (later ≡ Some k → there ≡ behind) →
    cond t (Some n) later ≡ Some k → there ≡ cond t (Some b) behind
found_behind true n k d b later there behind far is found = let same : n ≡ k = ap (λ o. unwrap_or o n) found in absurd (omega arith)
found_behind false n k d b later there behind far is found = is found

-- the block at the place of a label; induction on the blocks
block-from : (n : ℕ) (f : Code) (l k d : ℕ) → n + d ≡ k → place_from n f l ≡ Some k → slice_get f d ≡ block f l
block-from n [] l k d far found = cc
block-from n (b ∷ f) l k zero far found =
    found_here (b.label == l) n k b (place_from (n + 1) f l) (block f l) (omega arith) (place-bound (n + 1) f l k) found
block-from n (b ∷ f) l k (suc d) far found =
    found_behind (b.label == l) n k d b (place_from (n + 1) f l) (slice_get f d) (block f l) far (block-from (n + 1) f l k d (omega arith)) found

pub block-at : (f : Code) (l k : ℕ) → place f l ≡ Some k → slice_get f k ≡ block f l
block-at f l k found = block-from 0 f l k k (omega arith) (place-is f l ∙ found)

some_label : (t : Bool) (n : ℕ) (b : Block) (later : Option ℕ) (behind : Option Block) → is_some later ≡ is_some_block behind →
    is_some (cond t (Some n) later) ≡ is_some_block (cond t (Some b) behind)
some_label true n b later behind is = refl
some_label false n b later behind is = is

-- a label has a place where it is that of a block; induction on the blocks
label-from : (n : ℕ) (f : Code) (l : ℕ) → is_some (place_from n f l) ≡ is_some_block (block f l)
label-from n [] l = refl
label-from n (b ∷ f) l = some_label (b.label == l) n b (place_from (n + 1) f l) (block f l) (label-from (n + 1) f l)

pub label-place : (f : Code) (l : ℕ) → is_some (place f l) ≡ is_some_block (block f l)
label-place f l = ap is_some (sym (place-is f l)) ∙ label-from 0 f l

none_some : (o : Option Block) → false ≡ is_some_block o → None ≡ o
none_some None e = refl
none_some (Some b) e = cc

pub block-none : (f : Code) (l : ℕ) → None ≡ place f l → None ≡ block f l
block-none f l none = none_some (block f l) (ap is_some none ∙ label-place f l)

-- two counts one after the other
pub adds-both : (old mid new : Table ℕ) (one other both : ℕ → ℕ) → ((l : ℕ) → one l + other l ≡ both l) →
    AddsNames old mid one → AddsNames mid new other → AddsNames old new both
adds-both old mid new one other both sum first second = record {
  at = λ l n counted_so. let plus = sum l in
      second.at l (n + one l) (first.at l n counted_so) ∙ ap (λ m. min m 2) (let same : (n + one l) + other l ≡ n + both l = omega arith in same);
}

times_cons : (t : Bool) (n : ℕ) → cond t (0 + 1) 0 + n ≡ cond t (n + 1) n
times_cons true n = omega arith
times_cons false n = omega arith

-- once for each of two labels
pub times-two : (m c l : ℕ) → times (m ∷ []) l + times (c ∷ []) l ≡ times (m ∷ c ∷ []) l
times-two m c l = times_cons (m == l) (times (c ∷ []) l)

-- an instruction more, and a block more; induction on those before it
pub names_in-push : (is : List Ins) (i : Ins) (l : ℕ) → names_in is l + times (roles i) l ≡ names_in (is ++ i ∷ []) l
names_in-push [] i l = omega arith
names_in-push (j ∷ is) i l = let later = names_in-push is i l in omega arith

pub body-more : (old mid new : Table ℕ) (body : List DeclaredIns) (k : ℕ) (i : DeclaredIns) → slice_get body k ≡ Some i →
    AddsNames old mid (names_in (map seen_ins (take k body))) → AddsNames mid new (times (roles (seen_ins i))) →
    AddsNames old new (names_in (map seen_ins (take (k + 1) body)))
body-more old mid new body k i at first second =
    let front = map seen_ins (take k body) in
    let longer : map seen_ins (take (k + 1) body) ≡ front ++ seen_ins i ∷ [] = ap (map seen_ins) (take-at body k i at) ∙ map-append seen_ins (take k body) (i ∷ []) in
    adds-both old mid new (names_in front) (times (roles (seen_ins i))) (names_in (map seen_ins (take (k + 1) body)))
    (λ l. names_in-push front (seen_ins i) l ∙ ap (λ is. names_in is l) (sym longer)) first second

names-push : (f : Code) (b : Block) (l : ℕ) → names f l + names_in b.body l ≡ names (f ++ b ∷ []) l
names-push [] b l = omega arith
names-push (c ∷ f) b l = let later = names-push f b l in omega arith

pub names-more : (old new : Table ℕ) (f after : Code) (b : Block) → after ≡ f ++ b ∷ [] → HasNames old f → AddsNames old new (names_in b.body) → HasNames new after
names-more old new f after b more has adds = record {
  at = λ l. adds.at l (names f l) (has.at l) ∙ ap (λ n. min n 2) (names-push f b l ∙ ap (λ g. names g l) (sym more));
}

seconds-append : (ps qs : List (ℕ × ℕ)) → seconds (ps ++ qs) ≡ seconds ps ++ seconds qs
seconds-append [] qs = refl
seconds-append (p ∷ ps) qs = ap (λ rest. p.1 ∷ rest) (seconds-append ps qs)

-- a pair more
pub seconds-more : (ps : List (ℕ × ℕ)) (k : ℕ) (old before after : List ℕ) → k < length ps → before ≡ old ++ seconds (take k ps) → after ≡ before ++ (get_or ps k (0, 0)).1 ∷ [] →
    after ≡ old ++ seconds (take (k + 1) ps)
seconds-more ps k old before after within told more =
    let pair = get_or ps k (0, 0) in
    more
    ∙ ap (λ front. front ++ pair.1 ∷ []) told
    ∙ append_assoc old (seconds (take k ps)) (pair.1 ∷ [])
    ∙ ap (λ rest. old ++ rest) (sym (ap seconds (rw add-one (take-suc ps k (0, 0) within)) ∙ seconds-append (take k ps) (pair ∷ [])))

-- a label more
pub numbers-more : (f : Code) (labels : List ℕ) (k n : ℕ) (before after : List ℕ) → k < length labels → n ≡ number_of f (get_or labels k 0) →
    before ≡ map (number_of f) (take k labels) → after ≡ before ++ n ∷ [] → after ≡ map (number_of f) (take (k + 1) labels)
numbers-more f labels k n before after within same told more =
    let label = get_or labels k 0 in
    more
    ∙ ap (λ front. front ++ n ∷ []) told
    ∙ ap (λ m. map (number_of f) (take k labels) ++ m ∷ []) same
    ∙ sym (ap (map (number_of f)) (rw add-one (take-suc labels k 0 within)) ∙ map-append (number_of f) (take k labels) (label ∷ []))
