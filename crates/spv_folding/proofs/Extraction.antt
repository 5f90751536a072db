-- Where the parts of a packed composite lie, and what is extracted and inserted there.
use Rattle.std.proofs.Common.{◌≡◌, ℕ, zero, suc, ◌+◌, ◌-◌, ◌*◌, ◌≤◌, ◌<◌, Bool, true, false, cond, nat_lt, List, [], ◌∷◌, ◌++◌, Option, Some, None, length, map, take, drop, replicate, slice_get, slice_index, slice_set, IfSome, option_map, refl, sym, ap, ap₂, ◌∙◌, subst, arith, add_assoc, append_assoc}
use Rattle.std.proofs.Math.Nat.{mul-le-mul_right, suc-mul}
use Rattle.std.proofs.lemmas.List.{length-append, length-map, length-replicate, length-take-le, length-drop, take_all, drop_at, drop-drop, drop_more, take-append-le, drop-append-le, take-replicate, drop-replicate, set_split}
use Rattle.std.proofs.lemmas.Bool.{lt-ltb, le-ltb, ltb-true}
use Rattle.std.specs.List.{concat, All}
use Rattle.spv_meaning.specs.Types.{DataType, Void, Boolean, Integer, Vector, Array, RuntimeArray, Struct, Members, NoMember, Member, cells, member_cells, in_words}
use Rattle.spv_meaning.specs.Parts.{Part, part, packed_part, and_then, element, member}
use Rattle.spv_meaning.specs.Computations.{extracted, inserted, shuffled, whole_part}
use Rattle.spv_folding.specs.Folding.{member_types, AreSized}

-- ---- a part that is so much further on

abbrev moved : ℕ → Part → Part
moved n p = record { first = n + p.first; type = p.type }

moved_cond : (b : Bool) (n x y : ℕ) (t : DataType) → x ≡ n + y
    → cond b (Some (record { first = x; type = t })) None ≡ option_map (moved n) (cond b (Some (record { first = y; type = t })) None)
moved_cond true n x y t e = ap (λ k. Some (record { first = k; type = t })) e
moved_cond false n x y t e = refl

element_moved : (count stride : ℕ) (t : DataType) (n first index : ℕ)
    → element count stride t (n + first) index ≡ option_map (moved n) (element count stride t first index)
element_moved count stride t n first index =
    moved_cond (nat_lt index count) n (n + first + index * stride) (first + index * stride) t (add_assoc n first (index * stride))

member_moved : (ms : Members) (packed n first index : ℕ)
    → member false packed ms (n + first) index ≡ option_map (moved n) (member false packed ms first index)
member_moved NoMember packed n first index = refl
member_moved (Member offset volatile t rest) packed n first zero = ap (λ k. Some (record { first = k; type = t })) (add_assoc n first packed)
member_moved (Member offset volatile t rest) packed n first (suc index) = member_moved rest (packed + cells t) n first index

part_moved : (t : DataType) (n first index : ℕ) → part false None t (n + first) index ≡ option_map (moved n) (part false None t first index)
part_moved Void n first index = refl
part_moved Boolean n first index = refl
part_moved (Integer width signed) n first index = refl
part_moved (Vector count t) n first index = element_moved count (cells t) t n first index
part_moved (Array stride count t) n first index = element_moved count (cells t) t n first index
part_moved (RuntimeArray stride t) n first index = element_moved 0 (in_words stride) t n first index
part_moved (Struct ms) n first index = member_moved ms 0 n first index

moved_behind : (f : Part → Option Part) (n : ℕ) → ((p : Part) → f (moved n p) ≡ option_map (moved n) (f p)) → (o : Option Part)
    → and_then (option_map (moved n) o) f ≡ option_map (moved n) (and_then o f)
moved_behind f n h None = refl
moved_behind f n h (Some p) = h p

-- literals lead as far on as they begin
packed_moved : (literals : List ℕ) (n : ℕ) (p : Part) → packed_part literals (moved n p) ≡ option_map (moved n) (packed_part literals p)
packed_moved [] n p = refl
packed_moved (index ∷ rest) n p =
    ap (λ o. and_then o (packed_part rest)) (part_moved p.type n p.first index)
    ∙ moved_behind (packed_part rest) n (packed_moved rest n) (part false None p.type p.first index)

-- ---- a part within a number of words

abbrev IsWithin : ℕ → Option Part → Type 0
IsWithin n o = IfSome o (λ p. p.first + cells p.type ≤ n)

element_within_at : (count stride : ℕ) (t : DataType) (first index : ℕ) → cells t ≤ stride → (b : Bool) → nat_lt index count ≡ b
    → IsWithin (first + count * stride) (cond b (Some (record { first = first + index * stride; type = t })) None)
element_within_at count stride t first index h true e =
    let below : index < count = ltb-true index count e in
    let rows : suc index * stride ≤ count * stride = mul-le-mul_right stride below in
    omega (arith, suc-mul index stride)
element_within_at count stride t first index h false e = tt

element_within : (count stride : ℕ) (t : DataType) (first index : ℕ) → cells t ≤ stride
    → IsWithin (first + count * stride) (element count stride t first index)
element_within count stride t first index h = element_within_at count stride t first index h (nat_lt index count) refl

member_within : (ms : Members) (packed first index : ℕ) → IsWithin (first + packed + member_cells ms) (member false packed ms first index)
member_within NoMember packed first index = tt
member_within (Member offset volatile t rest) packed first zero = omega arith
member_within (Member offset volatile t rest) packed first (suc index) =
    let P : ℕ → Type 0 = λ n. IsWithin n (member false (packed + cells t) rest first index) in
    let same : first + (packed + cells t) + member_cells rest ≡ first + packed + (cells t + member_cells rest) = omega arith in
    subst P same (member_within rest (packed + cells t) first index)

none_within : (stride : ℕ) (t : DataType) (first index : ℕ) → IsWithin (first + 0) (element 0 stride t first index)
none_within stride t first index = rw (le-ltb index 0 (omega arith)) tt

part_within : (t : DataType) (first index : ℕ) → IsWithin (first + cells t) (part false None t first index)
part_within Void first index = tt
part_within Boolean first index = tt
part_within (Integer width signed) first index = tt
part_within (Vector count t) first index = element_within count (cells t) t first index (omega arith)
part_within (Array stride count t) first index = element_within count (cells t) t first index (omega arith)
part_within (RuntimeArray stride t) first index = none_within (in_words stride) t first index
part_within (Struct ms) first index =
    let P : ℕ → Type 0 = λ n. IsWithin n (member false 0 ms first index) in
    let same : first + 0 + member_cells ms ≡ first + member_cells ms = omega arith in
    subst P same (member_within ms 0 first index)

within_more : (m n : ℕ) (o : Option Part) → m ≤ n → IsWithin m o → IsWithin n o
within_more m n None h w = tt
within_more m n (Some p) h w = omega arith

within_behind : (f : Part → Option Part) (n : ℕ) → ((p : Part) → IsWithin (p.first + cells p.type) (f p)) → (o : Option Part) → IsWithin n o
    → IsWithin n (and_then o f)
within_behind f n h None w = tt
within_behind f n h (Some p) w = within_more (p.first + cells p.type) n (f p) w (h p)

packed_within : (literals : List ℕ) (p : Part) → IsWithin (p.first + cells p.type) (packed_part literals p)
packed_within [] p = omega arith
packed_within (index ∷ rest) p =
    within_behind (packed_part rest) (p.first + cells p.type) (packed_within rest) (part false None p.type p.first index) (part_within p.type p.first index)

-- literals lead to a part within the whole
pub whole_within : (literals : List ℕ) (t : DataType) → IfSome (packed_part literals (whole_part t)) (λ p. p.first + cells p.type ≤ cells t)
whole_within literals t =
    let P : ℕ → Type 0 = λ n. IsWithin n (packed_part literals (whole_part t)) in
    let same : 0 + cells t ≡ cells t = omega arith in
    subst P same (packed_within literals (whole_part t))

-- ---- what is extracted

-- a part that is so much further on, and words in front
extracted_moved : (t : DataType) (n : ℕ) (ws : List ℕ) (o : Option Part) → extracted t ws (option_map (moved n) o) ≡ extracted t (drop n ws) o
extracted_moved t n ws None = refl
extracted_moved t n ws (Some p) = ap (take (cells p.type)) (sym (drop-drop p.first n ws))

-- words behind the part do not count
extracted_front : (t : DataType) (ws more : List ℕ) (o : Option Part) → IsWithin (length ws) o → extracted t (ws ++ more) o ≡ extracted t ws o
extracted_front t ws more None w = refl
extracted_front t ws more (Some p) w =
    let front : p.first ≤ length ws = omega arith in
    let fits : cells p.type ≤ length (drop p.first ws) = omega (arith, length-drop p.first ws) in
    ap (take (cells p.type)) (drop-append-le p.first ws more front) ∙ take-append-le (cells p.type) (drop p.first ws) more fits

-- words in front of a part, and behind it
extracted_at : (t u : DataType) (literals front ws more : List ℕ) (first : ℕ) → length front ≡ first → length ws ≡ cells u
    → extracted t (front ++ (ws ++ more)) (packed_part literals (record { first = first; type = u }))
    ≡ extracted t ws (packed_part literals (whole_part u))
extracted_at t u literals front ws more first h sized =
    let P : ℕ → Type 0 = λ k. IsWithin k (packed_part literals (whole_part u)) in
    let begins : first ≡ first + 0 = omega arith in
    let whole = front ++ (ws ++ more) in
    ap (λ k. extracted t whole (packed_part literals (record { first = k; type = u }))) begins
    ∙ ap (extracted t whole) (packed_moved literals first (whole_part u))
    ∙ extracted_moved t first whole (packed_part literals (whole_part u))
    ∙ ap (λ vs. extracted t vs (packed_part literals (whole_part u))) (drop_at front (ws ++ more) first h)
    ∙ extracted_front t ws more (packed_part literals (whole_part u)) (subst P (sym sized) (whole_within literals u))

-- ---- the whole, and parts of it

-- no literal: the whole
pub extract_here : (t : DataType) (ws : List ℕ) → length ws ≡ cells t → extracted t ws (packed_part [] (whole_part t)) ≡ ws
extract_here t ws h = take_all (cells t) ws (omega arith)

member_at : (t u : DataType) (rest : List ℕ) (ms : Members) (front : List ℕ) (packed : ℕ) (wss : List (List ℕ)) (j : ℕ) (ws : List ℕ)
    → length front ≡ packed → AreSized (member_types ms) wss → slice_get (member_types ms) j ≡ Some u → slice_get wss j ≡ Some ws
    → extracted t (front ++ concat wss) (and_then (member false packed ms 0 j) (packed_part rest)) ≡ extracted t ws (packed_part rest (whole_part u))
member_at t u rest NoMember front packed wss j ws h sized a b = absurd (cc)
member_at t u rest (Member offset volatile v ms) front packed [] j ws h sized a b = absurd sized
member_at t u rest (Member offset volatile v ms) front packed (vs ∷ wss) zero ws h sized a b =
    let type : v ≡ u = cc in
    let words : vs ≡ ws = cc in
    let begins : length front ≡ 0 + packed = omega arith in
    extracted_at t v rest front vs (concat wss) (0 + packed) begins sized.0
    ∙ ap₂ (λ x y. extracted t x (packed_part rest (whole_part y))) words type
member_at t u rest (Member offset volatile v ms) front packed (vs ∷ wss) (suc j) ws h sized a b =
    let size : length vs ≡ cells v = sized.0 in
    let begins : length (front ++ vs) ≡ packed + cells v = omega (arith, length-append front vs) in
    ap (λ whole. extracted t whole (and_then (member false (packed + cells v) ms 0 j) (packed_part rest))) (sym (append_assoc front vs (concat wss)))
    ∙ member_at t u rest ms (front ++ vs) (packed + cells v) wss j ws begins sized.1 a b

-- a literal into a struct: what the rest extracts of that member's words
pub extract_member : (t u : DataType) (rest : List ℕ) (ms : Members) (wss : List (List ℕ)) (j : ℕ) (ws : List ℕ)
    → AreSized (member_types ms) wss → slice_get (member_types ms) j ≡ Some u → slice_get wss j ≡ Some ws
    → extracted t (concat wss) (packed_part (j ∷ rest) (whole_part (Struct ms))) ≡ extracted t ws (packed_part rest (whole_part u))
extract_member t u rest ms wss j ws sized a b = member_at t u rest ms [] 0 wss j ws refl sized a b

element_at : (t u : DataType) (rest front : List ℕ) (first : ℕ) (wss : List (List ℕ)) (j : ℕ) (ws : List ℕ)
    → length front ≡ first → All (λ vs. length vs ≡ cells u) wss → slice_get wss j ≡ Some ws
    → extracted t (front ++ concat wss) (packed_part rest (record { first = first + j * cells u; type = u }))
    ≡ extracted t ws (packed_part rest (whole_part u))
element_at t u rest front first [] j ws h sized b = absurd (cc)
element_at t u rest front first (vs ∷ wss) zero ws h sized b =
    let words : vs ≡ ws = cc in
    let begins : length front ≡ first + 0 * cells u = omega arith in
    extracted_at t u rest front vs (concat wss) (first + 0 * cells u) begins (sized 0 [] (omega arith))
    ∙ ap (λ x. extracted t x (packed_part rest (whole_part u))) words
element_at t u rest front first (vs ∷ wss) (suc j) ws h sized b =
    let size : length vs ≡ cells u = sized 0 [] (omega arith) in
    let begins : length (front ++ vs) ≡ first + cells u = omega (arith, length-append front vs) in
    let further : first + suc j * cells u ≡ first + cells u + j * cells u = omega (arith, suc-mul j (cells u)) in
    ap₂ (λ whole k. extracted t whole (packed_part rest (record { first = k; type = u }))) (sym (append_assoc front vs (concat wss))) further
    ∙ element_at t u rest (front ++ vs) (first + cells u) wss j ws begins (λ k d l. sized (suc k) d (omega arith)) b

below_length : {X : Type 0} (xs : List X) (j : ℕ) (x : X) → slice_get xs j ≡ Some x → j < length xs
below_length [] j x e = absurd (cc)
below_length (y ∷ xs) zero x e = omega arith
below_length (y ∷ xs) (suc j) x e = omega (arith, below_length xs j x e)

-- a literal into an array: what the rest extracts of that element's words
pub extract_element : (t u : DataType) (rest : List ℕ) (stride : Option ℕ) (n : ℕ) (wss : List (List ℕ)) (j : ℕ) (ws : List ℕ)
    → length wss ≡ n → All (λ vs. length vs ≡ cells u) wss → slice_get wss j ≡ Some ws
    → extracted t (concat wss) (packed_part (j ∷ rest) (whole_part (Array stride n u))) ≡ extracted t ws (packed_part rest (whole_part u))
extract_element t u rest stride n wss j ws count sized b =
    let there : j < n = omega (arith, below_length wss j ws b) in
    rw (lt-ltb j n there) (element_at t u rest [] 0 wss j ws refl sized b)

-- past an array's end there are zeros
pub extract_past : (t u : DataType) (rest : List ℕ) (stride : Option ℕ) (n : ℕ) (ws : List ℕ) (j : ℕ) → n ≤ j
    → extracted t ws (packed_part (j ∷ rest) (whole_part (Array stride n u))) ≡ replicate (cells t) 0
extract_past t u rest stride n ws j past = rw (le-ltb j n past) refl

-- a literal into a vector: that component
pub extract_component : (t u : DataType) (n : ℕ) (ws : List ℕ) (j : ℕ) → j < n → cells u ≡ 1 → length ws ≡ n
    → extracted t ws (packed_part (j ∷ []) (whole_part (Vector n u))) ≡ slice_index ws j ∷ []
extract_component t u n ws j there one sized =
    let place : 0 + j * cells u ≡ j = omega (arith, ap (λ k. j * k) one) in
    let inside : j < length ws = omega arith in
    rw (lt-ltb j n there) (ap₂ (λ k i. take k (drop i ws)) one place ∙ ap (take 1) (drop_more ws j 0 inside))

zeros_within : (t : DataType) (n : ℕ) (o : Option Part) → IsWithin n o → IfSome o (λ p. cells p.type ≡ cells t)
    → extracted t (replicate n 0) o ≡ replicate (cells t) 0
zeros_within t n None within sized = refl
zeros_within t n (Some p) within sized =
    let room : cells p.type ≤ n - p.first = omega arith in
    ap (take (cells p.type)) (drop-replicate p.first n 0) ∙ take-replicate (cells p.type) (n - p.first) 0 room ∙ ap (λ k. replicate k 0) sized

-- of zeros there are zeros
pub extract_zeros : (t u : DataType) (literals : List ℕ) → IfSome (packed_part literals (whole_part u)) (λ p. cells p.type ≡ cells t)
    → extracted t (replicate (cells u) 0) (packed_part literals (whole_part u)) ≡ replicate (cells t) 0
extract_zeros t u literals sized = zeros_within t (cells u) (packed_part literals (whole_part u)) (whole_within literals u) sized

-- an object in the place of a component
pub insert_component : (u : DataType) (n : ℕ) (object ws : List ℕ) (j : ℕ) → j < n → cells u ≡ 1 → length ws ≡ n → length object ≡ 1
    → inserted object ws (packed_part (j ∷ []) (whole_part (Vector n u))) ≡ slice_set ws j (slice_index object 0)
insert_component u n [] ws j there one sized single = absurd (omega arith)
insert_component u n (x ∷ y ∷ object) ws j there one sized single = absurd (omega arith)
insert_component u n (x ∷ []) ws j there one sized single =
    let place : 0 + j * cells u ≡ j = omega (arith, ap (λ k. j * k) one) in
    let behind : 0 + j * cells u + cells u ≡ suc j = omega (arith, ap (λ k. j * k) one) in
    let inside : j < length ws = omega arith in
    rw (lt-ltb j n there) (ap₂ (λ k i. take k ws ++ (x ∷ drop i ws)) place behind ∙ sym (set_split ws j x inside))

-- ---- how many words there are

pub shuffle_sized : (words literals : List ℕ) → length (map (shuffled words) literals) ≡ length literals
shuffle_sized words literals = length-map literals (shuffled words)

extracted_sized : (t : DataType) (ws : List ℕ) (o : Option Part) → IsWithin (length ws) o → IfSome o (λ p. cells p.type ≡ cells t)
    → length (extracted t ws o) ≡ cells t
extracted_sized t ws None within sized = length-replicate (cells t) 0
extracted_sized t ws (Some p) within sized =
    let room : cells p.type ≤ length (drop p.first ws) = omega (arith, length-drop p.first ws) in
    length-take-le (cells p.type) (drop p.first ws) room ∙ sized

pub extract_sized : (t u : DataType) (literals ws : List ℕ) → length ws ≡ cells u
    → IfSome (packed_part literals (whole_part u)) (λ p. cells p.type ≡ cells t)
    → length (extracted t ws (packed_part literals (whole_part u))) ≡ cells t
extract_sized t u literals ws whole sized =
    let P : ℕ → Type 0 = λ k. IsWithin k (packed_part literals (whole_part u)) in
    extracted_sized t ws (packed_part literals (whole_part u)) (subst P (sym whole) (whole_within literals u)) sized

inserted_sized : (object ws : List ℕ) (o : Option Part) → IsWithin (length ws) o → IfSome o (λ p. cells p.type ≡ length object)
    → length (inserted object ws o) ≡ length ws
inserted_sized object ws None within sized = refl
inserted_sized object ws (Some p) within sized =
    let front : p.first ≤ length ws = omega arith in
    omega (
      arith,
      length-append (take p.first ws) (object ++ drop (p.first + cells p.type) ws),
      length-take-le p.first ws front,
      length-append object (drop (p.first + cells p.type) ws),
      length-drop (p.first + cells p.type) ws,
    )

pub insert_sized : (u : DataType) (literals object ws : List ℕ) → length ws ≡ cells u
    → IfSome (packed_part literals (whole_part u)) (λ p. cells p.type ≡ length object)
    → length (inserted object ws (packed_part literals (whole_part u))) ≡ length ws
insert_sized u literals object ws whole sized =
    let P : ℕ → Type 0 = λ k. IsWithin k (packed_part literals (whole_part u)) in
    inserted_sized object ws (packed_part literals (whole_part u)) (subst P (sym whole) (whole_within literals u)) sized

-- ---- the type that literals lead to, literal by literal

abbrev HasType : (DataType → Type 0) → Option Part → Type 0
HasType P o = IfSome o (λ p. P p.type)

type_moved : (P : DataType → Type 0) (n : ℕ) (o : Option Part) → HasType P o → HasType P (option_map (moved n) o)
type_moved P n None h = tt
type_moved P n (Some p) h = h

-- it does not depend on where the part begins
type_anywhere : (P : DataType → Type 0) (literals : List ℕ) (first : ℕ) (u : DataType) → HasType P (packed_part literals (whole_part u))
    → HasType P (packed_part literals (record { first = first; type = u }))
type_anywhere P literals first u h =
    let Q : Option Part → Type 0 = HasType P in
    let R : ℕ → Type 0 = λ k. HasType P (packed_part literals (record { first = k; type = u })) in
    let same : first + 0 ≡ first = omega arith in
    subst R same (subst Q (sym (packed_moved literals first (whole_part u))) (type_moved P first (packed_part literals (whole_part u)) h))

-- no literal leads to the whole
pub type_here : (P : DataType → Type 0) (u : DataType) → P u → IfSome (packed_part [] (whole_part u)) (λ p. P p.type)
type_here P u h = h

member_type_at : (P : DataType → Type 0) (u : DataType) (rest : List ℕ) (ms : Members) (packed j : ℕ)
    → slice_get (member_types ms) j ≡ Some u → HasType P (packed_part rest (whole_part u))
    → HasType P (and_then (member false packed ms 0 j) (packed_part rest))
member_type_at P u rest NoMember packed j a h = tt
member_type_at P u rest (Member offset volatile v ms) packed zero a h =
    let Q : DataType → Type 0 = λ t. HasType P (packed_part rest (record { first = 0 + packed; type = t })) in
    let type : u ≡ v = cc in
    subst Q type (type_anywhere P rest (0 + packed) u h)
member_type_at P u rest (Member offset volatile v ms) packed (suc j) a h = member_type_at P u rest ms (packed + cells v) j a h

-- a literal into a struct leads to where the rest leads in that member
pub type_in_member : (P : DataType → Type 0) (u : DataType) (rest : List ℕ) (ms : Members) (j : ℕ) → slice_get (member_types ms) j ≡ Some u
    → IfSome (packed_part rest (whole_part u)) (λ p. P p.type) → IfSome (packed_part (j ∷ rest) (whole_part (Struct ms))) (λ p. P p.type)
type_in_member P u rest ms j a h = member_type_at P u rest ms 0 j a h

element_type_at : (P : DataType → Type 0) (u : DataType) (rest : List ℕ) (first : ℕ) (b : Bool) → HasType P (packed_part rest (whole_part u))
    → HasType P (and_then (cond b (Some (record { first = first; type = u })) None) (packed_part rest))
element_type_at P u rest first true h = type_anywhere P rest first u h
element_type_at P u rest first false h = tt

-- a literal into an array or a vector leads to where the rest leads in an element
pub type_in_element : (P : DataType → Type 0) (u : DataType) (rest : List ℕ) (stride : Option ℕ) (n j : ℕ)
    → IfSome (packed_part rest (whole_part u)) (λ p. P p.type) → IfSome (packed_part (j ∷ rest) (whole_part (Array stride n u))) (λ p. P p.type)
type_in_element P u rest stride n j h = element_type_at P u rest (0 + j * cells u) (nat_lt j n) h

pub type_in_component : (P : DataType → Type 0) (u : DataType) (rest : List ℕ) (n j : ℕ)
    → IfSome (packed_part rest (whole_part u)) (λ p. P p.type) → IfSome (packed_part (j ∷ rest) (whole_part (Vector n u))) (λ p. P p.type)
type_in_component P u rest n j h = element_type_at P u rest (0 + j * cells u) (nat_lt j n) h
