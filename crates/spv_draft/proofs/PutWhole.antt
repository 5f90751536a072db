-- An instruction of the profile stays one where another id is put for one that it uses.
use Rattle.std.proofs.Common.{◌≡◌, ℕ, zero, suc, ◌+◌, ◌<◌, ◌^◌, Bool, true, false, cond, ◌==◌, ◌&&◌, ◌||◌, nat_le, List, [], ◌∷◌, ◌++◌, length, get_or, take}
use Rattle.std.proofs.Common.{add-one, Ok, refl, sym, ap, subst, ◌∙◌, arith}
use Rattle.std.specs.List.{list_any, zip, slice_index, slice_set}
use Rattle.std.proofs.lemmas.Bool.Decides.{nat_tests}
use Rattle.std.proofs.lemmas.List.{length-set}
use Rattle.spv_grammar.specs.declared.kind.Role.{Role}
use Rattle.spv_grammar.specs.declared.kind.Role.TheVariants.{Opcode}
use Rattle.spv_grammar.specs.Operands.{count_of, roles_of}
use Rattle.spv_grammar.specs.Roles.{is_used_id, names_id}
use Rattle.spv_module.specs.Instruction.{IsInstruction, bound_rule, enumerant_rule, instruction_rules, is_out_of_bound, part_rules, roles_rules, string_rule}
use Rattle.spv_draft.specs.Named.{replaced_words}
use Rattle.spv_draft.proofs.RolesStay.{first_part, mixed, roles_stay}

-- ---- the parts stay

same_word : (b : Bool) (w : ℕ) → cond b w w ≡ w
same_word true w = refl
same_word false w = refl

-- the words of a list, one for each place
abbrev own : List ℕ → ℕ → ℕ
own ws n = get_or ws n 0

mixed-own : (rs : List Role) (ws : List ℕ) → mixed (own ws) rs ws ≡ ws
mixed-own [] ws = refl
mixed-own (r ∷ rs) [] = refl
mixed-own (r ∷ rs) (w ∷ ws) = ap (λ x. x ∷ mixed (own ws) rs ws) (same_word (is_used_id r) w) ∙ ap (λ vs. w ∷ vs) (mixed-own rs ws)

mixed-set : (rs : List Role) (ws : List ℕ) (k b : ℕ) (d : Role) → k < length ws → length rs ≡ length ws → is_used_id (get_or rs k d) ≡ true
    → mixed (own (slice_set ws k b)) rs ws ≡ slice_set ws k b
mixed-set [] [] k b d h e used = absurd (omega (arith, h))
mixed-set [] (w ∷ ws) k b d h e used = absurd (omega (arith, e))
mixed-set (r ∷ rs) [] k b d h e used = absurd (omega (arith, e))
mixed-set (r ∷ rs) (w ∷ ws) zero b d h e used =
    ap (λ u. cond u b w ∷ mixed (own ws) rs ws) used ∙ ap (λ vs. b ∷ vs) (mixed-own rs ws)
mixed-set (r ∷ rs) (w ∷ ws) (suc k) b d h e used =
    ap (λ x. x ∷ mixed (own (slice_set ws k b)) rs ws) (same_word (is_used_id r) w)
    ∙ ap (λ vs. w ∷ vs) (mixed-set rs ws k b d (omega (arith, h)) (omega (arith, e)) used)

pub parts_stay : (rs : List Role) (ws : List ℕ) (k b : ℕ) (d : Role) → k < length ws → length rs ≡ length ws → is_used_id (get_or rs k d) ≡ true
    → roles_of ws ≡ Ok rs → roles_of (slice_set ws k b) ≡ Ok rs
parts_stay rs ws k b d h e used parted =
    ap roles_of (sym (mixed-set rs ws k b d h e used)) ∙ roles_stay (own (slice_set ws k b)) ws rs parted

-- ---- no rule is broken

abbrev is_bad : ℕ → Role × ℕ → Bool
is_bad bound part = names_id part.0 && is_out_of_bound bound part.1

either_false : (x y : Bool) → x || y ≡ false → (x ≡ false) × (y ≡ false)
either_false true y e = cc
either_false false y e = (refl, e)

both_false : (x y : Bool) → x ≡ false → y ≡ false → x || y ≡ false
both_false x y e h = ap (λ b. b || y) e ∙ h

and_false : (b c : Bool) → c ≡ false → b && c ≡ false
and_false true c e = e
and_false false c e = refl

-- induction on the parts
within_stays : (bound : ℕ) (rs : List Role) (ws : List ℕ) (k b : ℕ) → is_out_of_bound bound b ≡ false → list_any (is_bad bound) (zip rs ws) ≡ false
    → list_any (is_bad bound) (zip rs (slice_set ws k b)) ≡ false
within_stays bound [] ws k b e h = refl
within_stays bound (r ∷ rs) [] zero b e h = refl
within_stays bound (r ∷ rs) [] (suc k) b e h = refl
within_stays bound (r ∷ rs) (w ∷ ws) zero b e h =
    both_false (is_bad bound (r, b)) (list_any (is_bad bound) (zip rs ws)) (and_false (names_id r) (is_out_of_bound bound b) e)
    (either_false (is_bad bound (r, w)) (list_any (is_bad bound) (zip rs ws)) h).1
within_stays bound (r ∷ rs) (w ∷ ws) (suc k) b e h =
    let apart = either_false (is_bad bound (r, w)) (list_any (is_bad bound) (zip rs ws)) h in
    both_false (is_bad bound (r, w)) (list_any (is_bad bound) (zip rs (slice_set ws k b))) apart.0 (within_stays bound rs ws k b e apart.1)

front_none : (xs ys : List ℕ) → xs ++ ys ≡ [] → xs ≡ []
front_none [] ys e = refl
front_none (x ∷ xs) ys e = cc

back_none : (xs ys : List ℕ) → xs ++ ys ≡ [] → ys ≡ []
back_none [] ys e = e
back_none (x ∷ xs) ys e = cc

no_rule : (b : Bool) → cond {A = List ℕ} b (103 ∷ []) [] ≡ [] → b ≡ false
no_rule true e = cc
no_rule false e = refl

rules_stay : (strings : List ℕ) (bound : ℕ) (rs : List Role) (ws : List ℕ) (k b : ℕ) → is_out_of_bound bound b ≡ false
    → part_rules strings bound rs ws ≡ [] → part_rules strings bound rs (slice_set ws k b) ≡ []
rules_stay (s ∷ strings) bound rs ws k b e h = cc
rules_stay [] bound rs ws k b e h =
    let fine = no_rule (list_any (is_bad bound) (zip rs ws)) (front_none (bound_rule bound rs ws) (enumerant_rule rs) h) in
    ap (λ bad. cond {A = List ℕ} bad (103 ∷ []) [] ++ enumerant_rule rs) (within_stays bound rs ws k b e fine)
    ∙ back_none (bound_rule bound rs ws) (enumerant_rule rs) h

unbroken_stays : (bound : ℕ) (rs : List Role) (ws : List ℕ) (k b : ℕ) → is_out_of_bound bound b ≡ false → roles_of ws ≡ Ok rs
    → roles_of (slice_set ws k b) ≡ Ok rs → instruction_rules bound ws ≡ [] → instruction_rules bound (slice_set ws k b) ≡ []
unfolding instruction_rules
unbroken_stays bound rs ws k b e parted again h =
    ap (roles_rules bound (slice_set ws k b)) again
    ∙ rules_stay (string_rule rs) bound rs ws k b e (ap (roles_rules bound ws) (sym parted) ∙ h)

fits : (b bound : ℕ) → 0 < b → b < bound → is_out_of_bound bound b ≡ false
fits b bound some small = both_false (b == 0) (nat_le bound b) (grind (arith, nat_tests)) (grind (arith, nat_tests))

opcode_unused : (rs later : List Role) (d : Role) → rs ≡ Opcode ∷ later → is_used_id (get_or rs 0 d) ≡ false
opcode_unused rs later d e = ap (λ (roles : List Role). is_used_id (get_or roles 0 d)) e

first_counts : (rs : List Role) (ws : List ℕ) (k b : ℕ) (d : Role) → 0 < length ws → is_used_id (get_or rs k d) ≡ true → roles_of ws ≡ Ok rs
    → slice_index (slice_set ws k b) 0 ≡ slice_index ws 0
first_counts rs [] k b d some used e = absurd (omega (arith, some))
first_counts rs (w ∷ ws) (suc k) b d some used e = refl
first_counts rs (w ∷ ws) zero b d some used e =
    let first = first_part w ws rs e in
    let unused : is_used_id (get_or rs 0 d) ≡ false = opcode_unused rs first.0 d first.1 in
    let both : true ≡ false = sym used ∙ unused in
    absurd (cc both)

pub word_whole : (rs : List Role) (ws : List ℕ) (k b : ℕ) (d : Role) → k < length ws → is_used_id (get_or rs k d) ≡ true → 0 < b → b < 2 ^ 32
    → IsInstruction ws rs → IsInstruction (slice_set ws k b) rs
word_whole rs ws k b d h used above small whole =
    let again = parts_stay rs ws k b d h whole.long used whole.parted in
    record {
      some = omega (arith, whole.some, length-set ws k b);
      counted = ap count_of (first_counts rs ws k b d whole.some used whole.parted) ∙ whole.counted ∙ sym (length-set ws k b);
      parted = again;
      long = whole.long ∙ sym (length-set ws k b);
      unbroken = unbroken_stays (2 ^ 32) rs ws k b (fits b (2 ^ 32) above small) whole.parted again whole.unbroken;
    }
