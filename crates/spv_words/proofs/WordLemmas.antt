-- What the definitions of specs/Words.antt say of bytes that read and of words that were written.
use Rattle.std.proofs.Common.{◌≡◌, ◌≢◌, ◌≤◌, ◌<◌, ◌*◌, ◌%◌, ◌^◌, ℕ, suc, List, [], ◌∷◌, ◌++◌, All, length, slice_index, drop, Ok, Err, arith, ap, refl, sym, ◌∙◌}
use Rattle.std.proofs.lemmas.Bool.Decides.{nat_tests}
use Rattle.byteorder.specs.Endian.{IsRead, big_number, little_bytes, little_number}
use Rattle.byteorder.specs.Numbers.{big_from-append, little_from-append, little_number-reads_back}
use Rattle.spv_words.specs.declared.fault.WordsFault.TheVariants.{ShortInput, OddLength, NotSpirv}
use Rattle.spv_words.specs.Words.{HasHeader, byte_fault, bytes_of_words, magic_number, words_by, words_in}

-- word k + 1 begins four bytes after word k
drop_four : (k : ℕ) → 4 * suc k ≡ suc (suc (suc (suc (4 * k))))
drop_four k = omega arith

-- words read one by one from each four bytes are the words of the bytes, by induction on the words
pub words_by-read : (number : ℕ → List ℕ → ℕ) → ((n : ℕ) (xs ys : List ℕ) → n ≤ length xs → number n (xs ++ ys) ≡ number n xs)
    → (bytes words : List ℕ) → length bytes ≡ 4 * length words → IsRead number 4 bytes words → words ≡ words_by (number 4) bytes
unfolding words_by
words_by-read number first [] [] len each = refl
words_by-read number first (a ∷ b ∷ c ∷ d ∷ rest) (w ∷ words) len each =
    let here : w ≡ number 4 (a ∷ b ∷ c ∷ d ∷ []) = each 0 (omega arith) ∙ first 4 (a ∷ b ∷ c ∷ d ∷ []) rest (omega arith) in
    let place : (k : ℕ) → drop (4 * suc k) (a ∷ b ∷ c ∷ d ∷ rest) ≡ drop (4 * k) rest =
    λ k. ap (λ (n : ℕ). drop n (a ∷ b ∷ c ∷ d ∷ rest)) (drop_four k) in
    let later : IsRead number 4 rest words = λ k below. each (suc k) (omega arith) ∙ ap (number 4) (place k) in
    let after = words_by-read number first rest words (omega arith) later in
    rw (here, after) refl
words_by-read number first bytes words len each = absurd (omega arith)

-- the answers, by the tests that the bytes pass
pub words_in-short : (bytes : List ℕ) → length bytes < 20 → words_in bytes ≡ Err ShortInput
unfolding words_in byte_fault
words_in-short bytes short = grind (arith, nat_tests)

pub words_in-odd : (bytes : List ℕ) → 20 ≤ length bytes → length bytes % 4 ≢ 0 → words_in bytes ≡ Err OddLength
unfolding words_in byte_fault
words_in-odd bytes long odd = grind (arith, nat_tests)

pub words_in-little : (bytes : List ℕ) → 20 ≤ length bytes → length bytes % 4 ≡ 0
    → little_number 4 bytes ≡ magic_number → words_in bytes ≡ Ok (words_by (little_number 4) bytes)
unfolding words_in byte_fault
words_in-little bytes long fours little = grind (arith, nat_tests)

pub words_in-big : (bytes : List ℕ) → 20 ≤ length bytes → length bytes % 4 ≡ 0
    → little_number 4 bytes ≢ magic_number → big_number 4 bytes ≡ magic_number → words_in bytes ≡ Ok (words_by (big_number 4) bytes)
unfolding words_in byte_fault
words_in-big bytes long fours not_little big = grind (arith, nat_tests)

pub words_in-foreign : (bytes : List ℕ) → 20 ≤ length bytes → length bytes % 4 ≡ 0
    → little_number 4 bytes ≢ magic_number → big_number 4 bytes ≢ magic_number → words_in bytes ≡ Err NotSpirv
unfolding words_in byte_fault
words_in-foreign bytes long fours not_little not_big = grind (arith, nat_tests)

-- the first word is that of the first four bytes
first-words_by : (number : ℕ → List ℕ → ℕ) → ((n : ℕ) (xs ys : List ℕ) → n ≤ length xs → number n (xs ++ ys) ≡ number n xs)
    → (bytes : List ℕ) → 4 ≤ length bytes → slice_index (words_by (number 4) bytes) 0 ≡ number 4 bytes
unfolding words_by
first-words_by number first (a ∷ b ∷ c ∷ d ∷ rest) four = sym (first 4 (a ∷ b ∷ c ∷ d ∷ []) rest (omega arith))
first-words_by number first bytes four = absurd (omega arith)

-- there is a word for each four bytes
pub length-words_by : (number : List ℕ → ℕ) (bytes : List ℕ) → length bytes % 4 ≡ 0 → length (words_by number bytes) * 4 ≡ length bytes
unfolding words_by
length-words_by number [] fours = refl
length-words_by number (a ∷ b ∷ c ∷ d ∷ rest) fours = let ih = length-words_by number rest (omega arith) in omega arith
length-words_by number bytes fours = absurd (omega arith)

-- bytes that begin with the magic number are the words of a module with a header
has_header-words_by : (number : ℕ → List ℕ → ℕ) → ((n : ℕ) (xs ys : List ℕ) → n ≤ length xs → number n (xs ++ ys) ≡ number n xs)
    → (bytes : List ℕ) → 20 ≤ length bytes → length bytes % 4 ≡ 0 → number 4 bytes ≡ magic_number → HasHeader (words_by (number 4) bytes)
has_header-words_by number first bytes long fours magic = record {
  five = let count = length-words_by (number 4) bytes fours in omega arith;
  magic = first-words_by number first bytes (omega arith) ∙ magic;
}

pub has_header-little : (bytes : List ℕ) → 20 ≤ length bytes → length bytes % 4 ≡ 0
    → little_number 4 bytes ≡ magic_number → HasHeader (words_by (little_number 4) bytes)
has_header-little = has_header-words_by little_number little_from-append

pub has_header-big : (bytes : List ℕ) → 20 ≤ length bytes → length bytes % 4 ≡ 0
    → big_number 4 bytes ≡ magic_number → HasHeader (words_by (big_number 4) bytes)
has_header-big = has_header-words_by big_number big_from-append

-- four bytes a word
pub length-bytes_of_words : (words : List ℕ) → length (bytes_of_words words) ≡ 4 * length words
unfolding bytes_of_words
length-bytes_of_words [] = refl
length-bytes_of_words (w ∷ words) = let ih = length-bytes_of_words words in omega arith

-- the bytes of words are read as these words, by induction
pub words_by-bytes_of_words : (words : List ℕ) → All (λ word. word < 2 ^ 32) words → words_by (little_number 4) (bytes_of_words words) ≡ words
unfolding bytes_of_words words_by
words_by-bytes_of_words [] fit = refl
words_by-bytes_of_words (w ∷ words) fit =
    let here : little_number 4 (little_bytes 4 w) ≡ w = little_number-reads_back 4 w [] (fit 0 0 (omega arith)) in
    let after = words_by-bytes_of_words words (λ k d below. fit (suc k) d (omega arith)) in
    rw (here, after) refl

-- the first four bytes of words are those of the first word
little_number-bytes_of_words : (words : List ℕ) → All (λ word. word < 2 ^ 32) words → 1 ≤ length words
    → little_number 4 (bytes_of_words words) ≡ slice_index words 0
unfolding bytes_of_words
little_number-bytes_of_words [] fit some = absurd (omega arith)
little_number-bytes_of_words (w ∷ words) fit some = little_number-reads_back 4 w (bytes_of_words words) (fit 0 0 (omega arith))

-- the bytes of a module's words read as these words
pub words_in-bytes_of_words : (words : List ℕ) → All (λ word. word < 2 ^ 32) words → HasHeader words → words_in (bytes_of_words words) ≡ Ok words
words_in-bytes_of_words words fit header =
    let count = length-bytes_of_words words in
    let first = little_number-bytes_of_words words fit (omega arith) ∙ header.magic in
    words_in-little (bytes_of_words words) (omega arith) (omega arith) first ∙ ap (λ (ws : List ℕ). Ok ws) (words_by-bytes_of_words words fit)

-- what `words_of` answers
pub ruleset answers = (words_in-short, words_in-odd, words_in-little, words_in-big, words_in-foreign, length-words_by)
