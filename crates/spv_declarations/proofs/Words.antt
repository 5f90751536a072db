-- Words that are those of a value of a type: as many, each 0 or 1 where it is a boolean's, and else one that a predicate holds of.
use Rattle.std.proofs.Common.{◌≡◌, ℕ, zero, suc, ◌+◌, ◌*◌, ◌/◌, ◌<◌, Bool, true, false, nat_lt, List, [], ◌∷◌, ◌++◌, length, replicate, refl, ap, subst, ◌∙◌, arith}
use Rattle.std.specs.List.{list_all, slice_index}
use Rattle.std.proofs.lemmas.List.{length-append}
use Rattle.std.proofs.lemmas.Bool.{lt-ltb, and_from}
use Rattle.spv_value.specs.Eval.{AreBooleanWords}
use Rattle.spv_meaning.specs.Types.{DataType, Void, Boolean, Integer, Vector, Array, RuntimeArray, Struct, Members, NoMember, Member, copies, cells, member_cells, booleans, member_booleans}

abbrev pub IsWordOf : (ℕ → Type 0) → Bool → ℕ → Type 0
IsWordOf P true w = w < 2
IsWordOf P false w = P w

-- each word suits the place where it stands
abbrev pub AreWordsOf : (ℕ → Type 0) → List Bool → List ℕ → Type 0
AreWordsOf P [] [] = Unit {0}
AreWordsOf P [] (w ∷ ws) = ⊥
AreWordsOf P (b ∷ bs) [] = ⊥
AreWordsOf P (b ∷ bs) (w ∷ ws) = IsWordOf P b w × AreWordsOf P bs ws

-- induction on the places
pub words-append : (P : ℕ → Type 0) (bs cs : List Bool) (ws vs : List ℕ) → AreWordsOf P bs ws → AreWordsOf P cs vs →
    AreWordsOf P (bs ++ cs) (ws ++ vs)
words-append P [] cs [] vs h k = k
words-append P [] cs (w ∷ ws) vs h k = absurd h
words-append P (b ∷ bs) cs [] vs h k = absurd h
words-append P (b ∷ bs) cs (w ∷ ws) vs h k = (h.0, words-append P bs cs ws vs h.1 k)

pub words-length : (P : ℕ → Type 0) (bs : List Bool) (ws : List ℕ) → AreWordsOf P bs ws → length ws ≡ length bs
words-length P [] [] h = refl
words-length P [] (w ∷ ws) h = absurd h
words-length P (b ∷ bs) [] h = absurd h
words-length P (b ∷ bs) (w ∷ ws) h = ap suc (words-length P bs ws h.1)

pub zero_word : (P : ℕ → Type 0) → P 0 → (b : Bool) → IsWordOf P b 0
zero_word P p true = omega arith
zero_word P p false = p

pub words-zeros : (P : ℕ → Type 0) → P 0 → (bs : List Bool) → AreWordsOf P bs (replicate (length bs) 0)
words-zeros P p [] = tt
words-zeros P p (b ∷ bs) = (zero_word P p b, words-zeros P p bs)

-- one word that is no boolean's
pub one-word : (P : ℕ → Type 0) (ws : List ℕ) → length ws ≡ 1 → P (slice_index ws 0) → AreWordsOf P (false ∷ []) ws
one-word P [] e p = cc
one-word P (w ∷ []) e p = (p, tt)
one-word P (w ∷ v ∷ ws) e p = absurd (omega (arith, e))

-- ---- as many places as words

pub length-copies : {X : Type 0} (n : ℕ) (xs : List X) → length (copies n xs) ≡ n * length xs
length-copies zero xs = omega arith
length-copies (suc n) xs = length-append xs (copies n xs) ∙ copied (length xs) n (length (copies n xs)) (length-copies n xs)
  where
    copied : (m n c : ℕ) → c ≡ n * m → m + c ≡ suc n * m
    copied m n c e = grind arith

mutual
  pub length-booleans : (t : DataType) → length (booleans t) ≡ cells t
  length-booleans Void = refl
  length-booleans Boolean = refl
  length-booleans (Integer width signed) = length-copies (width / 32) (false ∷ []) ∙ omega arith
  length-booleans (Vector count t) = length-copies count (booleans t) ∙ ap (λ (n : ℕ). count * n) (length-booleans t)
  length-booleans (Array stride count t) = length-copies count (booleans t) ∙ ap (λ (n : ℕ). count * n) (length-booleans t)
  length-booleans (RuntimeArray stride t) = refl
  length-booleans (Struct members) = length-member_booleans members

  pub length-member_booleans : (ms : Members) → length (member_booleans ms) ≡ member_cells ms
  length-member_booleans NoMember = refl
  length-member_booleans (Member offset volatile t rest) =
      length-append (booleans t) (member_booleans rest) ∙ ap (λ (n : ℕ). n + length (member_booleans rest)) (length-booleans t) ∙ ap
      (λ (n : ℕ). cells t + n) (length-member_booleans rest)

pub words-cells : (P : ℕ → Type 0) (t : DataType) (ws : List ℕ) → AreWordsOf P (booleans t) ws → length ws ≡ cells t
words-cells P t ws h = words-length P (booleans t) ws h ∙ length-booleans t

pub words-zeros_of : (P : ℕ → Type 0) → P 0 → (t : DataType) → AreWordsOf P (booleans t) (replicate (cells t) 0)
words-zeros_of P p t = subst (λ (n : ℕ). AreWordsOf P (booleans t) (replicate n 0)) (length-booleans t) (words-zeros P p (booleans t))

-- ---- booleans alone, and numbers alone

pub words-booleans : (P : ℕ → Type 0) (n : ℕ) (ws : List ℕ) → AreWordsOf P (copies n (true ∷ [])) ws → AreBooleanWords ws
words-booleans P zero [] h = refl
words-booleans P zero (w ∷ ws) h = absurd h
words-booleans P (suc n) [] h = absurd h
words-booleans P (suc n) (w ∷ ws) h = and_from (nat_lt w 2) (list_all (λ b. nat_lt b 2) ws) (lt-ltb w 2 h.0) (words-booleans P n ws h.1)

-- the only word of a number
pub record OneWord (P : ℕ → Type 0) (ws : List ℕ) : Type 0 where
  pub word : ℕ
  pub is : ws ≡ word ∷ []
  pub holds : P word

pub words-number : (P : ℕ → Type 0) (ws : List ℕ) → AreWordsOf P (false ∷ []) ws → OneWord P ws
words-number P [] h = absurd h
words-number P (w ∷ []) h = record { word = w; is = refl; holds = h.0 }
words-number P (w ∷ v ∷ ws) h = absurd h.1
