-- Cutting words into instructions, one instruction at a time.
use Rattle.std.proofs.Common.{◌≡◌, ℕ, zero, suc, ◌+◌, ◌-◌, ◌<◌, ◌≤◌, Bool, true, false, cond, ◌||◌, ◌==◌, nat_lt, List, [], ◌∷◌, ◌++◌, length, take, drop, Option, Some, None, refl, sym, ap, subst, ◌∙◌, arith}
use Rattle.std.specs.List.{slice_index}
use Rattle.std.proofs.lemmas.Bool.Decides.{nat_tests}
use Rattle.spv_base.specs.declared.fault.Refusal.{Refusal}
use Rattle.spv_grammar.specs.Operands.{count_of}
use Rattle.spv_module.specs.Broken.{front_rules, broken_from}
use Rattle.spv_module.specs.Code.{is_cut_short, cut}
use Rattle.spv_module.specs.First.{here}
use Rattle.spv_module.specs.Instruction.{Instruction}
use Rattle.spv_module.proofs.FirstLemmas.{Later, Later-append, Later-here, Later-weaken}

-- words that are passed leave what stands behind them; induction on their number
cut-passed : (at passed : ℕ) (ws : List ℕ) → passed ≤ length ws → cut at passed ws ≡ cut (at + passed) 0 (drop passed ws)
unfolding cut
cut-passed at zero ws h = let here : at ≡ at + 0 = omega arith in ap (λ (n : ℕ). cut n 0 ws) here
cut-passed at (suc passed) [] h = absurd (omega arith)
cut-passed at (suc passed) (w ∷ ws) h =
    let there : at + 1 + passed ≡ at + suc passed = omega arith in
    cut-passed (at + 1) passed ws (omega arith) ∙ ap (λ (n : ℕ). cut n 0 (drop passed ws)) there

broken_from-passed : (bound at passed : ℕ) (ws : List ℕ) → passed ≤ length ws → broken_from bound at passed ws ≡ broken_from bound (at + passed) 0 (drop passed ws)
unfolding broken_from
broken_from-passed bound at zero ws h = let here : at ≡ at + 0 = omega arith in ap (λ (n : ℕ). broken_from bound n 0 ws) here
broken_from-passed bound at (suc passed) [] h = absurd (omega arith)
broken_from-passed bound at (suc passed) (w ∷ ws) h =
    let there : at + 1 + passed ≡ at + suc passed = omega arith in
    broken_from-passed bound (at + 1) passed ws (omega arith) ∙ ap (λ (n : ℕ). broken_from bound n 0 (drop passed ws)) there

-- the instruction in front, and what stands behind it
pub cut-step : (at n : ℕ) (ws : List ℕ) → count_of (slice_index ws 0) ≡ n → 0 < n → n ≤ length ws → cut at 0 ws ≡ (record { offset = at; words = take n ws }) ∷ cut (at + n) 0 (drop n ws)
unfolding cut
cut-step at n [] e h k = absurd (omega arith)
cut-step at zero (w ∷ ws) e h k = absurd (omega arith)
cut-step at (suc m) (w ∷ ws) e h k =
    let not_short : is_cut_short (w ∷ ws) ≡ false = grind (arith, nat_tests) in
    let others : suc m - 1 ≡ m = omega arith in
    let there : at + 1 + m ≡ at + suc m = omega arith in
    rw (not_short, e)
    (ap (λ (rest : List Instruction). (record { offset = at; words = take (suc m) (w ∷ ws) }) ∷ rest)
    (ap (λ (p : ℕ). cut (at + 1) p ws) others ∙ cut-passed (at + 1) m ws (omega arith) ∙ ap (λ (n : ℕ). cut n 0 (drop m ws)) there))

pub broken_from-step : (bound at n : ℕ) (ws : List ℕ) → count_of (slice_index ws 0) ≡ n → 0 < n → n ≤ length ws →
    broken_from bound at 0 ws ≡ here at (front_rules bound ws) ++ broken_from bound (at + n) 0 (drop n ws)
unfolding broken_from
broken_from-step bound at n [] e h k = absurd (omega arith)
broken_from-step bound at zero (w ∷ ws) e h k = absurd (omega arith)
broken_from-step bound at (suc m) (w ∷ ws) e h k =
    let not_short : is_cut_short (w ∷ ws) ≡ false = grind (arith, nat_tests) in
    let others : count_of w - 1 ≡ m = omega (arith, e) in
    let there : at + 1 + m ≡ at + suc m = omega arith in
    ap (λ (rest : List Refusal). here at (front_rules bound (w ∷ ws)) ++ rest)
    (ap (λ (b : Bool). cond b [] (broken_from bound (at + 1) (count_of w - 1) ws)) not_short
    ∙ ap (λ (p : ℕ). broken_from bound (at + 1) p ws) others ∙ broken_from-passed bound (at + 1) m ws (omega arith) ∙ ap (λ (n : ℕ). broken_from bound n 0 (drop m ws)) there)

pub later_cond : (at : ℕ) (b : Bool) (bs : List Refusal) → Later at bs → Later at (cond b [] bs)
later_cond at true bs h = tt
later_cond at false bs h = h

-- no rule is broken before the first word; induction on the words
pub broken_from-later : (bound at passed : ℕ) (ws : List ℕ) → Later at (broken_from bound at passed ws)
unfolding broken_from
broken_from-later bound at passed [] = tt
broken_from-later bound at zero (w ∷ ws) =
    Later-append at (here at (front_rules bound (w ∷ ws))) (cond (is_cut_short (w ∷ ws)) [] (broken_from bound (at + 1) (count_of w - 1) ws))
    (Later-here at at (front_rules bound (w ∷ ws)) (omega arith))
    (later_cond at (is_cut_short (w ∷ ws)) (broken_from bound (at + 1) (count_of w - 1) ws)
    (Later-weaken at (at + 1) (broken_from bound (at + 1) (count_of w - 1) ws) (omega arith) (broken_from-later bound (at + 1) (count_of w - 1) ws)))
broken_from-later bound at (suc passed) (w ∷ ws) = Later-weaken at (at + 1) (broken_from bound (at + 1) passed ws) (omega arith) (broken_from-later bound (at + 1) passed ws)
