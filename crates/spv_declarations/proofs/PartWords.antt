-- The words of a part of a value: where they stand, which are booleans, and others in their place.
use Rattle.std.proofs.Common.{◌≡◌, ℕ, zero, suc, ◌+◌, ◌-◌, ◌*◌, ◌<◌, Bool, true, false, cond, ◌==◌, nat_lt, List, [], ◌∷◌, ◌++◌, length, take, drop, map, Option, Some, None, refl, sym, ap, subst, ◌∙◌, arith, append_assoc}
use Rattle.std.specs.List.{slice_index}
use Rattle.std.proofs.lemmas.List.{length-append}
use Rattle.std.proofs.lemmas.Bool.{ltb-true}
use Rattle.spv_meaning.specs.Computations.{shuffled, extracted, inserted, whole_part}
use Rattle.spv_meaning.specs.Parts.{Part, member, part, packed_part, and_then}
use Rattle.spv_meaning.specs.Types.{DataType, Void, Boolean, Integer, Vector, Array, RuntimeArray, Struct, Members, NoMember, Member, copies, cells, booleans, member_booleans, in_words}
use Rattle.spv_declarations.proofs.Words.{AreWordsOf, IsWordOf, words-append, words-zeros_of, length-booleans, length-copies, zero_word}

-- ---- where a part lies

-- the booleans of a part of this type lie among others, behind so many
pub record Inside (bs : List Bool) (t : DataType) (behind : ℕ) : Type 0 where
  pub before : List Bool
  pub after : List Bool
  pub are : bs ≡ before ++ (booleans t ++ after)
  pub count : length before ≡ behind

-- n copies, of which one is at an index; induction on the index
copies-at : (bs : List Bool) (n index : ℕ) → index < n → copies n bs ≡ copies index bs ++ (bs ++ copies (n - suc index) bs)
copies-at bs zero index h = absurd (omega arith)
copies-at bs (suc n) zero h = ap (λ (m : ℕ). bs ++ copies m bs) (omega arith)
copies-at bs (suc n) (suc index) h =
    ap (λ (x : List Bool). bs ++ x) (copies-at bs n index (omega arith))
    ∙ sym (append_assoc bs (copies index bs) (bs ++ copies (n - suc index) bs))
    ∙ ap (λ (m : ℕ). (bs ++ copies index bs) ++ (bs ++ copies m bs)) (omega arith)

some_part : (p q : Part) → Some p ≡ Some q → p ≡ q
some_part p q e = cc

-- where a part of an object is that is found, and lies behind so many words of the object
abbrev FoundIn : List Bool → (first : ℕ) → Option Part → Type 0
FoundIn bs first None = Unit {0}
FoundIn bs first (Some q) = (behind : ℕ) × Inside bs q.type behind × (q.first ≡ first + behind)

element_found : (n : ℕ) (t : DataType) (first index : ℕ) (within : Bool) → nat_lt index n ≡ within →
    FoundIn (copies n (booleans t)) first (cond within (Some (record { first = first + index * cells t; type = t })) None)
element_found n t first index false h = tt
element_found n t first index true h = (
  index * cells t,
  record {
    before = copies index (booleans t);
    after = copies (n - suc index) (booleans t);
    are = copies-at (booleans t) n index (ltb-true index n h);
    count = length-copies index (booleans t) ∙ ap (λ (m : ℕ). index * m) (length-booleans t);
  },
  refl,
)

found_behind : (bs cs : List Bool) (first packed more : ℕ) (found : Option Part) → length bs ≡ more → FoundIn cs (first + (packed + more)) found →
    FoundIn (bs ++ cs) (first + packed) found
found_behind bs cs first packed more None e h = tt
found_behind bs cs first packed more (Some q) e h =
    let i = h.1 in (
      more + h.0,
      record {
        before = bs ++ i.before;
        after = i.after;
        are = ap (λ (x : List Bool). bs ++ x) i.are ∙ sym (append_assoc bs i.before (booleans q.type ++ i.after));
        count = length-append bs i.before ∙ omega (arith, e, i.count);
      },
      h.2 ∙ omega arith,
    )

-- induction on the members
member_found : (packed : ℕ) (ms : Members) (first index : ℕ) → FoundIn (member_booleans ms) (first + packed) (member false packed ms first index)
member_found packed NoMember first index = tt
member_found packed (Member offset volatile t rest) first zero =
    (0, record { before = []; after = member_booleans rest; are = refl; count = refl }, omega arith)
member_found packed (Member offset volatile t rest) first (suc index) =
    found_behind (booleans t) (member_booleans rest) first packed (cells t) (member false (packed + cells t) rest first index) (length-booleans t)
    (member_found (packed + cells t) rest first index)

none_below : (stride : ℕ) (t : DataType) (first index : ℕ) (within : Bool) → nat_lt index 0 ≡ within →
    FoundIn [] first (cond within (Some (record { first = first + index * stride; type = t })) None)
none_below stride t first index false h = tt
none_below stride t first index true h =
    let less = ltb-true index 0 h in
    absurd (omega arith)

part_found : (t : DataType) (first index : ℕ) → FoundIn (booleans t) first (part false None t first index)
part_found Void first index = tt
part_found Boolean first index = tt
part_found (Integer width signed) first index = tt
part_found (Vector count t) first index = element_found count t first index (nat_lt index count) refl
part_found (Array stride count t) first index = element_found count t first index (nat_lt index count) refl
part_found (RuntimeArray stride t) first index = none_below (in_words stride) t first index (nat_lt index 0) refl
part_found (Struct members) first index =
    subst (λ (n : ℕ). FoundIn (member_booleans members) n (member false 0 members first index)) (omega arith) (member_found 0 members first index)

-- a part of a part
inside_inside : (bs : List Bool) (t u : DataType) (m n : ℕ) → Inside bs t m → Inside (booleans t) u n → Inside bs u (m + n)
inside_inside bs t u m n outer inner = record {
  before = outer.before ++ inner.before;
  after = inner.after ++ outer.after;
  are = outer.are
      ∙ ap (λ (x : List Bool). outer.before ++ (x ++ outer.after)) inner.are
      ∙ ap (λ (x : List Bool). outer.before ++ x)
      (append_assoc inner.before (booleans u ++ inner.after) outer.after ∙ ap (λ (x : List Bool). inner.before ++ x) (append_assoc (booleans u) inner.after outer.after))
      ∙ sym (append_assoc outer.before inner.before (booleans u ++ (inner.after ++ outer.after)));
  count = length-append outer.before inner.before ∙ omega (arith, outer.count, inner.count);
}

-- what literals lead to lies in the whole, behind as many words as it says
abbrev pub LiesIn : List Bool → Option Part → Type 0
LiesIn bs None = Unit {0}
LiesIn bs (Some p) = Inside bs p.type p.first

next_lies : (bs : List Bool) (p : Part) (rest : List ℕ) (found : Option Part) → Inside bs p.type p.first → FoundIn (booleans p.type) p.first found →
    ((q : Part) → Inside bs q.type q.first → LiesIn bs (packed_part rest q)) → LiesIn bs (and_then found (packed_part rest))
next_lies bs p rest None i h others = tt
next_lies bs p rest (Some q) i h others =
    others q (subst (λ (n : ℕ). Inside bs q.type n) (sym h.2) (inside_inside bs p.type q.type p.first h.0 i h.1))

-- induction on the literals
packed_lies : (bs : List Bool) (literals : List ℕ) (p : Part) → Inside bs p.type p.first → LiesIn bs (packed_part literals p)
packed_lies bs [] p i = i
packed_lies bs (index ∷ rest) p i =
    next_lies bs p rest (part false None p.type p.first index) i (part_found p.type p.first index) (λ q j. packed_lies bs rest q j)

append_nil : (bs : List Bool) → bs ++ [] ≡ bs
append_nil [] = refl
append_nil (b ∷ bs) = ap (λ (x : List Bool). b ∷ x) (append_nil bs)

pub part_lies : (u : DataType) (literals : List ℕ) → LiesIn (booleans u) (packed_part literals (whole_part u))
part_lies u literals =
    packed_lies (booleans u) literals (whole_part u) (record { before = []; after = []; are = sym (append_nil (booleans u)); count = refl })

-- ---- words there

-- behind some places; induction on them
words-drop : (P : ℕ → Type 0) (bs cs : List Bool) (ws : List ℕ) → AreWordsOf P (bs ++ cs) ws → AreWordsOf P cs (drop (length bs) ws)
words-drop P [] cs ws h = h
words-drop P (b ∷ bs) cs [] h = absurd h
words-drop P (b ∷ bs) cs (w ∷ ws) h = words-drop P bs cs ws h.1

words-take : (P : ℕ → Type 0) (bs cs : List Bool) (ws : List ℕ) → AreWordsOf P (bs ++ cs) ws → AreWordsOf P bs (take (length bs) ws)
words-take P [] cs ws h = tt
words-take P (b ∷ bs) cs [] h = absurd h
words-take P (b ∷ bs) cs (w ∷ ws) h = (h.0, words-take P bs cs ws h.1)

-- the words of a part
part_words : (P : ℕ → Type 0) (bs : List Bool) (t : DataType) (behind : ℕ) (ws : List ℕ) → Inside bs t behind → AreWordsOf P bs ws →
    AreWordsOf P (booleans t) (take (cells t) (drop behind ws))
part_words P bs t behind ws i h =
    let split : AreWordsOf P (i.before ++ (booleans t ++ i.after)) ws = subst (λ (x : List Bool). AreWordsOf P x ws) i.are h in
    let dropped = words-drop P i.before (booleans t ++ i.after) ws split in
    let taken = words-take P (booleans t) i.after (drop (length i.before) ws) dropped in
    subst (λ (n : ℕ). AreWordsOf P (booleans t) (take n (drop behind ws))) (length-booleans t)
    (subst (λ (n : ℕ). AreWordsOf P (booleans t) (take (length (booleans t)) (drop n ws))) i.count taken)

-- other words of the same kinds in its place
replaced : (P : ℕ → Type 0) (bs mid post : List Bool) (ws object : List ℕ) → AreWordsOf P (bs ++ (mid ++ post)) ws → AreWordsOf P mid object →
    AreWordsOf P (bs ++ (mid ++ post)) (take (length bs) ws ++ (object ++ drop (length bs + length mid) ws))
replaced P bs mid post ws object h k =
    words-append P bs (mid ++ post) (take (length bs) ws) (object ++ drop (length bs + length mid) ws) (words-take P bs (mid ++ post) ws h)
    (words-append P mid post object (drop (length bs + length mid) ws) k
    (subst (λ (n : ℕ). AreWordsOf P post (drop n ws)) (length-append bs mid) (words-drop P (bs ++ mid) post ws (subst (λ (x : List Bool). AreWordsOf P x ws) (sym (append_assoc bs mid post)) h))))

part_replaced : (P : ℕ → Type 0) (bs : List Bool) (t : DataType) (behind : ℕ) (ws object : List ℕ) → Inside bs t behind → AreWordsOf P bs ws →
    AreWordsOf P (booleans t) object →
    AreWordsOf P bs (take behind ws ++ (object ++ drop (behind + cells t) ws))
part_replaced P bs t behind ws object i h k =
    let split : AreWordsOf P (i.before ++ (booleans t ++ i.after)) ws = subst (λ (x : List Bool). AreWordsOf P x ws) i.are h in
    let done = replaced P i.before (booleans t) i.after ws object split k in
    subst (λ (x : List Bool). AreWordsOf P x (take behind ws ++ (object ++ drop (behind + cells t) ws))) (sym i.are)
    (subst (λ (n : ℕ). AreWordsOf P (i.before ++ (booleans t ++ i.after)) (take behind ws ++ (object ++ drop (behind + n) ws))) (length-booleans t)
    (subst (λ (n : ℕ). AreWordsOf P (i.before ++ (booleans t ++ i.after)) (take n ws ++ (object ++ drop (n + length (booleans t)) ws))) i.count done))

-- what is extracted from a value, where the part has the booleans of the type that is asked for
extract_by : (P : ℕ → Type 0) → P 0 → (t u : DataType) (ws : List ℕ) (found : Option Part) → AreWordsOf P (booleans u) ws →
    LiesIn (booleans u) found → ((p : Part) → found ≡ Some p → p.type ≡ t) → AreWordsOf P (booleans t) (extracted t ws found)
extract_by P zero_holds t u ws None h lies same = words-zeros_of P zero_holds t
extract_by P zero_holds t u ws (Some p) h lies same =
    subst (λ (v : DataType). AreWordsOf P (booleans v) (take (cells p.type) (drop p.first ws))) (same p refl)
    (part_words P (booleans u) p.type p.first ws lies h)

pub extract-holds : (P : ℕ → Type 0) → P 0 → (t u : DataType) (literals ws : List ℕ) → AreWordsOf P (booleans u) ws →
    ((p : Part) → packed_part literals (whole_part u) ≡ Some p → p.type ≡ t) →
    AreWordsOf P (booleans t) (extracted t ws (packed_part literals (whole_part u)))
extract-holds P zero_holds t u literals ws h same = extract_by P zero_holds t u ws (packed_part literals (whole_part u)) h (part_lies u literals) same

insert_by : (P : ℕ → Type 0) (t u : DataType) (object ws : List ℕ) (found : Option Part) → AreWordsOf P (booleans u) ws →
    AreWordsOf P (booleans t) object → LiesIn (booleans u) found → ((p : Part) → found ≡ Some p → p.type ≡ t) →
    AreWordsOf P (booleans u) (inserted object ws found)
insert_by P t u object ws None h k lies same = h
insert_by P t u object ws (Some p) h k lies same =
    part_replaced P (booleans u) p.type p.first ws object lies h (subst (λ (v : DataType). AreWordsOf P (booleans v) object) (sym (same p refl)) k)

pub insert-holds : (P : ℕ → Type 0) (t u : DataType) (literals object ws : List ℕ) → AreWordsOf P (booleans u) ws → AreWordsOf P (booleans t) object →
    ((p : Part) → packed_part literals (whole_part u) ≡ Some p → p.type ≡ t) →
    AreWordsOf P (booleans u) (inserted object ws (packed_part literals (whole_part u)))
insert-holds P t u literals object ws h k same = insert_by P t u object ws (packed_part literals (whole_part u)) h k (part_lies u literals) same

-- ---- shuffles

-- a word of some of one kind; past their end it is 0
index_holds : (P : ℕ → Type 0) → P 0 → (b : Bool) (n : ℕ) (ws : List ℕ) (i : ℕ) → AreWordsOf P (copies n (b ∷ [])) ws →
    IsWordOf P b (slice_index ws i)
index_holds P zero_holds b zero [] i h = zero_word P zero_holds b
index_holds P zero_holds b zero (w ∷ ws) i h = absurd h
index_holds P zero_holds b (suc n) [] i h = absurd h
index_holds P zero_holds b (suc n) (w ∷ ws) zero h = h.0
index_holds P zero_holds b (suc n) (w ∷ ws) (suc i) h = index_holds P zero_holds b n ws i h.1

picked_holds : (P : ℕ → Type 0) → P 0 → (b : Bool) (w : ℕ) (none : Bool) → IsWordOf P b w → IsWordOf P b (cond none 0 w)
picked_holds P zero_holds b w true h = zero_word P zero_holds b
picked_holds P zero_holds b w false h = h

pub shuffle-holds : (P : ℕ → Type 0) → P 0 → (b : Bool) (n : ℕ) (ws literals : List ℕ) → AreWordsOf P (copies n (b ∷ [])) ws →
    AreWordsOf P (copies (length literals) (b ∷ [])) (map (shuffled ws) literals)
shuffle-holds P zero_holds b n ws [] h = tt
shuffle-holds P zero_holds b n ws (literal ∷ literals) h =
    (picked_holds P zero_holds b (slice_index ws literal) (literal == 0xFFFF_FFFF) (index_holds P zero_holds b n ws literal h), shuffle-holds P zero_holds b n ws literals h)

-- two lists of one kind
copies-add : (bs : List Bool) (m n : ℕ) → copies m bs ++ copies n bs ≡ copies (m + n) bs
copies-add bs zero n = ap (λ (k : ℕ). copies k bs) (omega arith)
copies-add bs (suc m) n =
    append_assoc bs (copies m bs) (copies n bs) ∙ ap (λ (x : List Bool). bs ++ x) (copies-add bs m n) ∙ ap (λ (k : ℕ). copies k bs) (sums m n)
  where
    sums : (m n : ℕ) → suc (m + n) ≡ suc m + n
    sums m n = omega arith

pub words-joined : (P : ℕ → Type 0) (b : Bool) (m n : ℕ) (ws vs : List ℕ) → AreWordsOf P (copies m (b ∷ [])) ws →
    AreWordsOf P (copies n (b ∷ [])) vs → AreWordsOf P (copies (m + n) (b ∷ [])) (ws ++ vs)
words-joined P b m n ws vs h k =
    subst (λ (bs : List Bool). AreWordsOf P bs (ws ++ vs)) (copies-add (b ∷ []) m n)
    (words-append P (copies m (b ∷ [])) (copies n (b ∷ [])) ws vs h k)
