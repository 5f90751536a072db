-- Instructions that are written one after another are read again with the same words, though elsewhere in the file.
use Rattle.std.proofs.Common.{◌≡◌, ℕ, zero, suc, ◌+◌, ◌-◌, ◌<◌, ◌≤◌, Bool, true, false, cond, List, [], ◌∷◌, ◌++◌, length, take, drop, refl, sym, ap, ◌∙◌, arith}
use Rattle.std.specs.Prelude.{slice_index, filter}
use Rattle.std.specs.List.{flat_map}
use Rattle.std.proofs.Math.Seq.{take-append_seam, drop-append_seam}
use Rattle.std.proofs.lemmas.List.{length-append, length-take-le}
use Rattle.std.proofs.lemmas.Bool.Decides.{nat_tests}
use Rattle.spv_grammar.specs.Operands.{count_of}
use Rattle.spv_module.specs.Instruction.{Instruction}
use Rattle.spv_module.specs.Code.{Code, is_cut_short, cut, code_of, spelling}
use Rattle.spv_module.proofs.Cutting.{cut-step}
use Rattle.spv_meaning.specs.Statements.{words_of}

-- an instruction's word count is the number of its words
pub record IsCounted (words : List ℕ) : Type 0 where
  pub some : 0 < length words
  pub counted : count_of (slice_index words 0) ≡ length words

abbrev pub AllCounted : List Instruction → Type 0
AllCounted [] = Unit {0}
AllCounted (i ∷ is) = IsCounted i.words × AllCounted is

first_stays : (words rest : List ℕ) → 0 < length words → slice_index (words ++ rest) 0 ≡ slice_index words 0
first_stays [] rest h = absurd (omega arith)
first_stays (w ∷ ws) rest h = refl

-- induction on the instructions
pub read_again : (at : ℕ) (insts : List Instruction) → AllCounted insts → words_of (cut at 0 (flat_map (λ i. i.words) insts)) ≡ words_of insts
unfolding cut
read_again at [] h = refl
read_again at (i ∷ is) h =
    let rest : List ℕ = flat_map (λ (j : Instruction). j.words) is in
    let n : ℕ = length i.words in
    let long : n ≤ length (i.words ++ rest) = omega (arith, length-append i.words rest) in
    ap words_of (cut-step at n (i.words ++ rest) (ap count_of (first_stays i.words rest h.0.some) ∙ h.0.counted) h.0.some long)
    ∙ ap (λ (ws : List ℕ). ws ∷ words_of (cut (at + n) 0 (drop n (i.words ++ rest)))) (take-append_seam i.words rest)
    ∙ ap (λ (ws : List ℕ). i.words ∷ words_of (cut (at + n) 0 ws)) (drop-append_seam i.words rest)
    ∙ ap (λ (wss : List (List ℕ)). i.words ∷ wss) (read_again (at + n) is h.1)

pub spelled_again : (m : Code) → AllCounted m.insts → words_of (code_of (spelling m)).insts ≡ words_of m.insts
spelled_again m h = read_again 5 m.insts h

whole_by : (n w : ℕ) (ws : List ℕ) → count_of w ≡ n → 0 < n → n ≤ length (w ∷ ws) → IsCounted (take n (w ∷ ws))
whole_by zero w ws e h k = absurd (omega arith)
whole_by (suc n) w ws e h k = record { some = omega (arith, length-take-le (suc n) (w ∷ ws) k); counted = e ∙ sym (length-take-le (suc n) (w ∷ ws) k) }

whole : (w : ℕ) (ws : List ℕ) → is_cut_short (w ∷ ws) ≡ false → IsCounted (take (count_of w) (w ∷ ws))
whole w ws h = whole_by (count_of w) w ws refl (grind (arith, nat_tests, h)) (grind (arith, nat_tests, h))

counted_cond : (b : Bool) (i : Instruction) (is : List Instruction) → (b ≡ false → IsCounted i.words) → AllCounted is → AllCounted (cond b [] (i ∷ is))
counted_cond true i is h k = tt
counted_cond false i is h k = (h refl, k)

-- what is cut is counted; induction on the words
pub cut_counted : (at passed : ℕ) (ws : List ℕ) → AllCounted (cut at passed ws)
unfolding cut
cut_counted at passed [] = tt
cut_counted at zero (w ∷ ws) =
    counted_cond (is_cut_short (w ∷ ws)) (record { offset = at; words = take (count_of w) (w ∷ ws) }) (cut (at + 1) (count_of w - 1) ws) (whole w ws) (cut_counted (at + 1) (count_of w - 1) ws)
cut_counted at (suc passed) (w ∷ ws) = cut_counted (at + 1) passed ws

filtered_cond : (b : Bool) (i : Instruction) (is : List Instruction) → IsCounted i.words → AllCounted is → AllCounted (cond b (i ∷ is) is)
filtered_cond true i is h k = (h, k)
filtered_cond false i is h k = k

pub filtered_counted : (keep : Instruction → Bool) (insts : List Instruction) → AllCounted insts → AllCounted (filter keep insts)
filtered_counted keep [] h = tt
filtered_counted keep (i ∷ is) h = filtered_cond (keep i) i (filter keep is) h.0 (filtered_counted keep is h.1)
