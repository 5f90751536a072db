-- Operands as lists of words.
use Rattle.std.proofs.Common.{◌≡◌, ◌≢◌, ℕ, zero, suc, ◌≤◌, ◌<◌, List, [], ◌∷◌, length, map, take, slice_index, slice_index_or, refl, sym, ap, ap₂, ◌∙◌, arith, inl, inr}
use Rattle.std.proofs.lemmas.List.{get_or-map}
use Rattle.spv_value.specs.declared.words.Operand.{Operand}
use Rattle.spv_value.specs.Bits.{zip_with}
use Rattle.spv_value.specs.Eval.{zip_with3, operand, scalar, choice, IsChoice}
use Rattle.spv_value.specs.Compare.{select}
use Rattle.spv_value.specs.Words.{padded, words_of, operands}

pub length-padded : (n : ℕ) (ws : List ℕ) → length (padded n ws) ≡ n
length-padded zero ws = refl
length-padded (suc n) [] = ap suc (length-padded n [])
length-padded (suc n) (w ∷ ws) = ap suc (length-padded n ws)

pub padded-map : (g : ℕ → ℕ) (n : ℕ) (ws : List ℕ) → n ≤ length ws → padded n (map g ws) ≡ map g (padded n ws)
padded-map g zero ws h = refl
padded-map g (suc n) [] h = absurd (omega arith)
padded-map g (suc n) (w ∷ ws) h = ap (λ rest. g w ∷ rest) (padded-map g n ws (omega arith))

pub padded-zip_with : (g : ℕ → ℕ → ℕ) (n : ℕ) (xs ys : List ℕ) → n ≤ length xs → n ≤ length ys
    → padded n (zip_with g xs ys) ≡ zip_with g (padded n xs) (padded n ys)
padded-zip_with g zero xs ys h k = refl
padded-zip_with g (suc n) [] ys h k = absurd (omega arith)
padded-zip_with g (suc n) (x ∷ xs) [] h k = absurd (omega arith)
padded-zip_with g (suc n) (x ∷ xs) (y ∷ ys) h k = ap (λ rest. g x y ∷ rest) (padded-zip_with g n xs ys (omega arith) (omega arith))

pub padded-zip_with3 : (g : ℕ → ℕ → ℕ → ℕ) (n : ℕ) (xs ys zs : List ℕ) → n ≤ length xs → n ≤ length ys → n ≤ length zs
    → padded n (zip_with3 g xs ys zs) ≡ zip_with3 g (padded n xs) (padded n ys) (padded n zs)
padded-zip_with3 g zero xs ys zs h k m = refl
padded-zip_with3 g (suc n) [] ys zs h k m = absurd (omega arith)
padded-zip_with3 g (suc n) (x ∷ xs) [] zs h k m = absurd (omega arith)
padded-zip_with3 g (suc n) (x ∷ xs) (y ∷ ys) [] h k m = absurd (omega arith)
padded-zip_with3 g (suc n) (x ∷ xs) (y ∷ ys) (z ∷ zs) h k m =
    ap (λ rest. g x y z ∷ rest) (padded-zip_with3 g n xs ys zs (omega arith) (omega arith) (omega arith))

-- as many words as the list has are a part of it
pub padded_take : (n : ℕ) (ws : List ℕ) → n ≤ length ws → padded n ws ≡ take n ws
padded_take zero ws h = refl
padded_take (suc n) [] h = absurd (omega arith)
padded_take (suc n) (w ∷ ws) h = ap (λ rest. w ∷ rest) (padded_take n ws (omega arith))

-- an operand holds as many words as it says
pub length-words_of : (x : Operand) → length (words_of x) ≡ x.len
unfolding words_of
length-words_of x = length-padded x.len (x.w0 ∷ x.w1 ∷ x.w2 ∷ x.w3 ∷ [])

-- the words of an operand of a known number of them
pub held : (n : ℕ) (x : Operand) → x.len ≡ n → words_of x ≡ padded n (x.w0 ∷ x.w1 ∷ x.w2 ∷ x.w3 ∷ [])
unfolding words_of
held n x e = ap (λ k. padded k (x.w0 ∷ x.w1 ∷ x.w2 ∷ x.w3 ∷ [])) e

-- four words that are those of the list
four : (n : ℕ) (a b c d a' b' c' d' : ℕ) → a ≡ a' → b ≡ b' → c ≡ c' → d ≡ d'
    → padded n (a ∷ b ∷ c ∷ d ∷ []) ≡ padded n (a' ∷ b' ∷ c' ∷ d' ∷ [])
four n a b c d a' b' c' d' p q r s =
    ap₂ (λ x y. padded n (x ∷ y ∷ c ∷ d ∷ [])) p q ∙ ap₂ (λ x y. padded n (a' ∷ b' ∷ x ∷ y ∷ [])) r s

-- f of all four words is f of those that count
pub each_word : (g : ℕ → ℕ) (x : Operand) (a b c d : ℕ) → length (words_of x) ≤ 4 → a ≡ g x.w0 → b ≡ g x.w1 → c ≡ g x.w2 → d ≡ g x.w3
    → padded x.len (a ∷ b ∷ c ∷ d ∷ []) ≡ map g (words_of x)
unfolding words_of
each_word g x a b c d few p q r s =
    four x.len a b c d (g x.w0) (g x.w1) (g x.w2) (g x.w3) p q r s
    ∙ padded-map g x.len (x.w0 ∷ x.w1 ∷ x.w2 ∷ x.w3 ∷ []) (omega (arith, few, length-padded x.len (x.w0 ∷ x.w1 ∷ x.w2 ∷ x.w3 ∷ [])))

pub each_word2 : (g : ℕ → ℕ → ℕ) (x y : Operand) (a b c d : ℕ) → length (words_of x) ≤ 4 → length (words_of y) ≡ length (words_of x)
    → a ≡ g x.w0 y.w0 → b ≡ g x.w1 y.w1 → c ≡ g x.w2 y.w2 → d ≡ g x.w3 y.w3
    → padded x.len (a ∷ b ∷ c ∷ d ∷ []) ≡ zip_with g (words_of x) (words_of y)
each_word2 g x y a b c d few alike p q r s =
    let low : x.len ≤ 4 = omega (arith, few, length-words_of x) in
    let same : y.len ≡ x.len = sym (length-words_of y) ∙ alike ∙ length-words_of x in
    four x.len a b c d (g x.w0 y.w0) (g x.w1 y.w1) (g x.w2 y.w2) (g x.w3 y.w3) p q r s
    ∙ padded-zip_with g x.len (x.w0 ∷ x.w1 ∷ x.w2 ∷ x.w3 ∷ []) (y.w0 ∷ y.w1 ∷ y.w2 ∷ y.w3 ∷ []) low low
    ∙ ap₂ (zip_with g) (sym (held x.len x refl)) (sym (held x.len y same))

pub each_word3 : (g : ℕ → ℕ → ℕ → ℕ) (x y z : Operand) (a b c d : ℕ) → length (words_of x) ≤ 4
    → length (words_of y) ≡ length (words_of x) → length (words_of z) ≡ length (words_of x)
    → a ≡ g x.w0 y.w0 z.w0 → b ≡ g x.w1 y.w1 z.w1 → c ≡ g x.w2 y.w2 z.w2 → d ≡ g x.w3 y.w3 z.w3
    → padded x.len (a ∷ b ∷ c ∷ d ∷ []) ≡ zip_with3 g (words_of x) (words_of y) (words_of z)
each_word3 g x y z a b c d few second third p q r s =
    let low : x.len ≤ 4 = omega (arith, few, length-words_of x) in
    let same : y.len ≡ x.len = sym (length-words_of y) ∙ second ∙ length-words_of x in
    let like : z.len ≡ x.len = sym (length-words_of z) ∙ third ∙ length-words_of x in
    four x.len a b c d (g x.w0 y.w0 z.w0) (g x.w1 y.w1 z.w1) (g x.w2 y.w2 z.w2) (g x.w3 y.w3 z.w3) p q r s
    ∙ padded-zip_with3 g x.len (x.w0 ∷ x.w1 ∷ x.w2 ∷ x.w3 ∷ []) (y.w0 ∷ y.w1 ∷ y.w2 ∷ y.w3 ∷ []) (z.w0 ∷ z.w1 ∷ z.w2 ∷ z.w3 ∷ []) low low low
    ∙ ap (λ ws. zip_with3 g (padded x.len (x.w0 ∷ x.w1 ∷ x.w2 ∷ x.w3 ∷ [])) ws (padded x.len (z.w0 ∷ z.w1 ∷ z.w2 ∷ z.w3 ∷ []))) (sym (held x.len y same))
    ∙ ap₂ (λ ws vs. zip_with3 g ws (words_of y) vs) (sym (held x.len x refl)) (sym (held x.len z like))

-- ---- operands

pub operand_is : (xs : List Operand) (k : ℕ) (d : Operand) → k < length xs → operand (operands xs) k ≡ words_of (slice_index_or xs k d)
operand_is xs k d h = get_or-map words_of xs k d [] h

-- the length of an operand, and a scalar's word
pub len_is : (xs : List Operand) (k : ℕ) (d : Operand) → k < length xs → length (operand (operands xs) k) ≡ (slice_index_or xs k d).len
len_is xs k d h = ap length (operand_is xs k d h) ∙ length-words_of (slice_index_or xs k d)

pub scalar_is : (xs : List Operand) (k : ℕ) (d : Operand) → k < length xs → length (operand (operands xs) k) ≡ 1
    → scalar (operands xs) k ≡ (slice_index_or xs k d).w0
scalar_is xs k d h one =
    ap (λ ws. slice_index ws 0) (operand_is xs k d h ∙ held 1 (slice_index_or xs k d) (sym (len_is xs k d h) ∙ one))

-- the first words, as the code takes them
pub taken_words : (x : Operand) (n : ℕ) → n ≡ x.len → n ≤ 4 → take n (x.w0 ∷ x.w1 ∷ x.w2 ∷ x.w3 ∷ []) ≡ words_of x
taken_words x n e h = sym (padded_take n (x.w0 ∷ x.w1 ∷ x.w2 ∷ x.w3 ∷ []) h) ∙ sym (held n x (sym e))

-- ---- choices

choice_by_components : (cs xs ys : List ℕ) → length cs ≢ 1 → zip_with3 select cs xs ys ≡ choice cs xs ys
choice_by_components cs xs ys h = grind arith

pub choice_each : (cs xs ys ds vs ws : List ℕ) → cs ≡ ds → xs ≡ vs → ys ≡ ws → length cs ≢ 1 → zip_with3 select ds vs ws ≡ choice cs xs ys
choice_each cs xs ys ds vs ws p q r h =
    ap (λ us. zip_with3 select us vs ws) (sym p) ∙ ap₂ (λ us ts. zip_with3 select cs us ts) (sym q) (sym r) ∙ choice_by_components cs xs ys h

pub choice_first : (cs xs ys : List ℕ) → length cs ≡ 1 → slice_index cs 0 ≡ 1 → xs ≡ choice cs xs ys
choice_first cs xs ys one first = grind arith

pub choice_second : (cs xs ys : List ℕ) → length cs ≡ 1 → slice_index cs 0 ≢ 1 → ys ≡ choice cs xs ys
choice_second cs xs ys one second = grind arith

-- a vector condition has as many words as the values
pub condition_alike : (xs : List Operand) (d : Operand) → IsChoice (operands xs) → 3 ≤ length xs → (slice_index_or xs 0 d).len ≢ 1
    → length (words_of (slice_index_or xs 1 d)) ≡ length (words_of (slice_index_or xs 0 d))
condition_alike xs d c h many =
    let at0 = operand_is xs 0 d (omega arith) in
    let at1 = operand_is xs 1 d (omega arith) in
    elim c.condition [
      | inl one ↦ absurd (many (sym (len_is xs 0 d (omega arith)) ∙ one))
      | inr same ↦ sym (ap length at1) ∙ sym same ∙ ap length at0
    ]

pub values_alike : (xs : List Operand) (d : Operand) → IsChoice (operands xs) → 3 ≤ length xs
    → length (words_of (slice_index_or xs 2 d)) ≡ length (words_of (slice_index_or xs 1 d))
values_alike xs d c h =
    sym (ap length (operand_is xs 2 d (omega arith))) ∙ c.alike ∙ ap length (operand_is xs 1 d (omega arith))
