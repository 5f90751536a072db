-- The words of an OpSwitch, one case after the other, and that they are one instruction of the profile.
use Rattle.std.proofs.Common.{◌≡◌, ℕ, suc, ◌+◌, ◌*◌, ◌%◌, ◌/◌, ◌<◌, ◌≤◌, true, false, ◌||◌, ◌&&◌, nat_le, List, [], ◌∷◌, ◌++◌, length, map, take, get_or, slice_index, Ok, refl, sym, ap, ◌∙◌, subst, append_assoc, append-nil, arith}
use Rattle.std.specs.List.{list_any, zip}
use Rattle.std.proofs.lemmas.Bool.Decides.{nat_tests}
use Rattle.std.proofs.lemmas.List.{map-append, length-map}
use Rattle.std.proofs.lemmas.List.Folds.{list_any-append}
use Rattle.spv_grammar.specs.declared.kind.Role.TheVariants.{Opcode, UsedId}
use Rattle.spv_grammar.specs.Operands.{roles_of, count_of, in_turn}
use Rattle.spv_grammar.specs.Roles.{names_id, is_unknown, is_bad_octets}
use Rattle.spv_grammar.specs.Table.{row_of}
use Rattle.spv_module.specs.Instruction.{instruction_rules, is_out_of_bound}
use Rattle.spv_bodies.specs.Listing.{instruction, pair_words}
use Rattle.spv_tree.specs.declared.body.Case.{Case}
use Rattle.spv_tree.specs.Tree.{case_of}
use Rattle.spv_tree.specs.Phi.{AddsCases, IsMade}
use Rattle.spv_tree.proofs.Equations.{one_more}
use Rattle.spv_tree.proofs.Made.{within, unbroken_by}

-- ---- cases that are added

pairs-append : (x y : List (ℕ × ℕ)) → pair_words (x ++ y) ≡ pair_words x ++ pair_words y
pairs-append [] y = refl
pairs-append (p ∷ x) y = ap (λ z. p.0 ∷ p.1 ∷ z) (pairs-append x y)

pub cases-more : (cases : List Case) (i : ℕ) (case : Case) (old new end : List ℕ) → i < length cases → case ≡ get_or cases i case → AddsCases old new (map case_of (take i cases))
    → AddsCases new end (case_of case ∷ []) → AddsCases old end (map case_of (take (i + 1) cases))
cases-more cases i case old new end lt is before here =
    let front : List (ℕ × ℕ) = map case_of (take i cases) in
    let all : AddsCases old end (front ++ case_of case ∷ []) = record {
      behind = here.behind ∙ ap (λ z. z ++ pair_words (case_of case ∷ [])) before.behind ∙ append_assoc old (pair_words front) (pair_words (case_of case ∷ []))
          ∙ ap (λ z. old ++ z) (sym (pairs-append front (case_of case ∷ [])));
      within = list_any-append (λ c. is_out_of_bound 4294967296 c.1) front (case_of case ∷ [])
          ∙ ap (λ z. z || list_any (λ c. is_out_of_bound 4294967296 c.1) (case_of case ∷ [])) before.within ∙ here.within;
    } in
    subst (AddsCases old end) (sym (ap (map case_of) (one_more cases i case lt is) ∙ map-append case_of (take i cases) (case ∷ []))) all

-- ---- the instruction

cases-bound : (cases : List (ℕ × ℕ))
    → list_any (λ part. names_id part.0 && is_out_of_bound 4294967296 part.1) (zip (in_turn (pair_words cases)) (pair_words cases)) ≡ list_any (λ c. is_out_of_bound 4294967296 c.1) cases
cases-bound [] = refl
cases-bound (c ∷ cases) = ap (λ z. is_out_of_bound 4294967296 c.1 || z) (cases-bound cases)

cases-octets : (cases : List (ℕ × ℕ)) → list_any is_bad_octets (in_turn (pair_words cases)) ≡ false
cases-octets [] = refl
cases-octets (c ∷ cases) = cases-octets cases

cases-known : (cases : List (ℕ × ℕ)) → list_any is_unknown (in_turn (pair_words cases)) ≡ false
cases-known [] = refl
cases-known (c ∷ cases) = cases-known cases

cases-length : (cases : List (ℕ × ℕ)) → length (pair_words cases) ≡ 2 * length cases
cases-length [] = refl
cases-length (c ∷ cases) = omega (arith, cases-length cases)

switch-roles : (h selector default : ℕ) (ws : List ℕ) → h % 65536 ≡ 251 → length ws % 2 ≡ 0 → nat_le (length ws) 32766 ≡ true
    → roles_of (h ∷ selector ∷ default ∷ ws) ≡ Ok (Opcode ∷ UsedId ∷ UsedId ∷ in_turn ws)
unfolding roles_of row_of
switch-roles h selector default ws e even few = rw e (rw even (rw few (ap (λ z. Ok (Opcode ∷ UsedId ∷ UsedId ∷ z)) (append-nil (in_turn ws)))))

switch-opcode : (h n : ℕ) → h ≡ (3 + 2 * n) * 65536 + 251 → h % 65536 ≡ 251
switch-opcode h n e = omega arith

switch-head : (n m : ℕ) → m ≡ 2 * n → (3 + 2 * n) * 65536 + 251 ≡ (suc (suc m) + 1) * 65536 + 251
switch-head n m e = omega arith

switch-count : (h n m : ℕ) → m ≡ 2 * n → h ≡ (3 + 2 * n) * 65536 + 251 → h / 65536 ≡ suc (suc (suc m))
switch-count h n m l e = omega arith

even-twice : (n m : ℕ) → m ≡ 2 * n → m % 2 ≡ 0
even-twice n m e = omega arith

few-words : (n m : ℕ) → m ≡ 2 * n → n ≤ 16383 → nat_le m 32766 ≡ true
few-words n m e few = grind (arith, nat_tests)

-- the words as they are put one behind the other
pub switch-built : (h selector default : ℕ) (cases : List (ℕ × ℕ)) (w0 w1 w2 w3 w4 : List ℕ) → w0 ≡ [] → w1 ≡ w0 ++ h ∷ [] → w2 ≡ w1 ++ selector ∷ [] → w3 ≡ w2 ++ default ∷ [] → AddsCases w3 w4 cases
    → h ≡ (3 + 2 * length cases) * 65536 + 251 → length cases ≤ 16383 → 0 < selector → selector < 4294967296 → 0 < default → default < 4294967296
    → IsMade w4 (instruction 251 (selector ∷ default ∷ pair_words cases))
switch-built h selector default cases w0 w1 w2 w3 w4 e0 e1 e2 e3 a e few s0 s1 d0 d1 =
    let ws : List ℕ = pair_words cases in
    let long : length ws ≡ 2 * length cases = cases-length cases in
    let made : w4 ≡ h ∷ selector ∷ default ∷ ws =
    a.behind ∙ ap (λ z. z ++ ws) (e3 ∙ ap (λ z. z ++ default ∷ []) (e2 ∙ ap (λ z. z ++ selector ∷ []) (e1 ∙ ap (λ z. z ++ h ∷ []) e0))) in
    record {
      same = made ∙ ap (λ z. z ∷ selector ∷ default ∷ ws) (e ∙ switch-head (length cases) (length ws) long);
      some = subst (λ z. 0 < length z) (sym made) (omega arith);
      counted = subst (λ z. count_of (slice_index z 0) ≡ length z) (sym made) (switch-count h (length cases) (length ws) long e);
      unbroken = subst (λ z. instruction_rules 4294967296 z ≡ []) (sym made)
          (unbroken_by (h ∷ selector ∷ default ∷ ws) (Opcode ∷ UsedId ∷ UsedId ∷ in_turn ws)
          (switch-roles h selector default ws (switch-opcode h (length cases) e) (even-twice (length cases) (length ws) long) (few-words (length cases) (length ws) long few))
          (cases-octets cases)
          (ap (λ z. z || (is_out_of_bound 4294967296 default || list_any (λ part. names_id part.0 && is_out_of_bound 4294967296 part.1) (zip (in_turn ws) ws))) (within selector s0 s1)
          ∙ ap (λ z. z || list_any (λ part. names_id part.0 && is_out_of_bound 4294967296 part.1) (zip (in_turn ws) ws)) (within default d0 d1) ∙ cases-bound cases ∙ a.within)
          (cases-known cases));
    }

pub count-cases : (cases : List Case) → length (map case_of cases) ≡ length cases
count-cases cases = length-map cases case_of
