-- Each operation that OpSpecConstantOp may name takes operands of its form, and its result has as many words as the form says.
use Rattle.std.proofs.Common.{rules, ◌≡◌, ℕ, zero, suc, ◌≤◌, ◌<◌, Bool, true, false, nat_eq, if◌then◌else◌, List, [], ◌∷◌, Option, Some, length, slice_index, refl, sym, ap, ◌∙◌, subst, arith, inl, inr, ◌⊎◌}
use Rattle.std.proofs.lemmas.List.{length-map}
use Rattle.std.proofs.lemmas.Bool.Decides.{eqb_tells}
use Rattle.std.specs.Map.{lookup}
use Rattle.spv_value.specs.Bits.{zip_with}
use Rattle.spv_value.specs.Compare.{i_equal, i_not_equal, u_less_than, u_less_than_equal, u_greater_than, u_greater_than_equal, s_less_than, s_less_than_equal, s_greater_than, s_greater_than_equal, logical_not, logical_and, logical_or, is_one, select}
use Rattle.spv_value.specs.Eval.{Rule, Ints1, Ints2, Bools1, Bools2, Choice, operand, AreBooleanWords, AreAlike, AreBooleans, IsChoice, SuitsRule, zip_with3, choice, rule_at, rule_result, op_rules, CanEval, Eval}
use Rattle.spv_typing.specs.declared.operations.Form.{Form}
use Rattle.spv_typing.specs.declared.operations.Form.TheVariants.{Ints, Bools, Compares, Selects, Shuffles, Extracts, Inserts}
use Rattle.spv_typing.specs.Operations.{spec_operations}
use Rattle.spv_folding.proofs.Booleans.{two, all_two, all_two_zip, choice_booleans}
use Rattle.spv_folding.specs.Folding.{AreComponents, AreConditions, AreChoices, AreOperands, GivesBooleans}

-- ---- lengths

length-zip_with : (f : ℕ → ℕ → ℕ) (c : ℕ) (xs ys : List ℕ) → length xs ≡ c → length ys ≡ c → length (zip_with f xs ys) ≡ c
length-zip_with f c [] ys h k = h
length-zip_with f c (x ∷ xs) [] h k = k
length-zip_with f zero (x ∷ xs) (y ∷ ys) h k = absurd (omega arith)
length-zip_with f (suc c) (x ∷ xs) (y ∷ ys) h k = ap suc (length-zip_with f c xs ys (omega arith) (omega arith))

length-zip_with3 : (f : ℕ → ℕ → ℕ → ℕ) (c : ℕ) (xs ys zs : List ℕ) → length xs ≡ c → length ys ≡ c → length zs ≡ c → length (zip_with3 f xs ys zs) ≡ c
length-zip_with3 f c [] ys zs h k m = h
length-zip_with3 f c (x ∷ xs) [] zs h k m = k
length-zip_with3 f c (x ∷ xs) (y ∷ ys) [] h k m = m
length-zip_with3 f zero (x ∷ xs) (y ∷ ys) (z ∷ zs) h k m = absurd (omega arith)
length-zip_with3 f (suc c) (x ∷ xs) (y ∷ ys) (z ∷ zs) h k m = ap suc (length-zip_with3 f c xs ys zs (omega arith) (omega arith) (omega arith))

-- ---- choices

length-cond : (b : Bool) (c : ℕ) (xs ys : List ℕ) → length xs ≡ c → length ys ≡ c → length (if b then xs else ys) ≡ c
length-cond true c xs ys h k = h
length-cond false c xs ys h k = k

length-choice : (c : ℕ) (cs xs ys : List ℕ) → (length cs ≡ 1) ⊎ (length cs ≡ c) → length xs ≡ c → length ys ≡ c → length (choice cs xs ys) ≡ c
length-choice c cs xs ys condition h k =
    elim (eqb_tells (length cs) 1) [
      | inl one ↦ rw one.0 (length-cond (is_one (slice_index cs 0)) c xs ys h k)
      | inr many ↦ rw many.0 (length-zip_with3 select c cs xs ys (elim condition [ inl one ↦ absurd (many.1 one) | inr same ↦ same ]) h k)
    ]

-- ---- rows

-- a rule takes operands of the form, and makes words of booleans where the form does
abbrev Fits : Form → Option Rule → Type 0
Fits (Ints n) (Some (Ints1 f)) = n ≡ 1
Fits (Ints n) (Some (Ints2 f)) = n ≡ 2
Fits (Bools n) (Some (Bools1 f)) = (n ≡ 1) × ((a : ℕ) → f a < 2)
Fits (Bools n) (Some (Bools2 f)) = (n ≡ 2) × ((a b : ℕ) → f a b < 2)
Fits Compares (Some (Ints2 f)) = (a b : ℕ) → f a b < 2
Fits Selects (Some Choice) = Unit {0}
Fits Shuffles rule = Unit {0}
Fits Extracts rule = Unit {0}
Fits Inserts rule = Unit {0}
Fits form rule = ⊥

abbrev AllFit : List (ℕ × Form) → Type 0
AllFit [] = Unit {0}
AllFit (row ∷ rows) = Fits row.1 (rule_at row.0 (op_rules 32)) × AllFit rows

-- row by row
operations_fit : AllFit spec_operations
unfolding op_rules i_equal i_not_equal u_less_than u_less_than_equal u_greater_than u_greater_than_equal s_less_than s_less_than_equal s_greater_than s_greater_than_equal logical_not logical_and logical_or
operations_fit = search (rules, two)

fits_in : (rows : List (ℕ × Form)) (opcode : ℕ) (form : Form) → AllFit rows → lookup (nat_eq opcode) rows ≡ Some form
    → Fits form (rule_at opcode (op_rules 32))
fits_in [] opcode form all e = absurd (cc)
fits_in (row ∷ rows) opcode form all e =
    elim (eqb_tells opcode row.0) [
      | inl here ↦
          let P : Form → Type 0 = λ f. Fits f (rule_at opcode (op_rules 32)) in
          let Q : ℕ → Type 0 = λ k. Fits row.1 (rule_at k (op_rules 32)) in
          let found : Some row.1 ≡ Some form = rw here.0 at e in
          let same : row.1 ≡ form = cc in
          subst P same (subst Q (sym here.1) all.0)
      | inr there ↦ fits_in rows opcode form all.1 (rw there.0 at e)
    ]

rule_fits : (opcode : ℕ) (form : Form) → lookup (nat_eq opcode) spec_operations ≡ Some form → Fits form (rule_at opcode (op_rules 32))
rule_fits opcode form e = fits_in spec_operations opcode form operations_fit e

-- ---- what a rule that fits takes and gives

sized_at : (n c k : ℕ) (wss : List (List ℕ)) → AreComponents n c wss → k < n → length (operand wss k) ≡ c
sized_at n c k wss all h = all.sized k [] (omega (arith, all.count))

alike : (m n c : ℕ) (wss : List (List ℕ)) → n ≡ m → 0 < m → AreComponents n c wss → AreAlike m wss
alike m n c wss e some all =
    let first : length (operand wss 0) ≡ c = sized_at n c 0 wss all (omega arith) in
    record {
      count = all.count ∙ e;
      some = omega (arith, all.some);
      few = omega (arith, all.few);
      alike = λ k h. sized_at n c k wss all (omega arith) ∙ sym first;
    }

alike_booleans : (m n c : ℕ) (wss : List (List ℕ)) → n ≡ m → 0 < m → AreConditions n c wss → AreBooleans m wss
alike_booleans m n c wss e some all = record {
  vectors = alike m n c wss e some all.components;
  booleans = λ k h. all.booleans k [] (omega (arith, all.components.count));
}

is_choice : (c : ℕ) (wss : List (List ℕ)) → AreChoices c wss → IsChoice wss
is_choice c wss all = record {
  count = all.count;
  some = omega (arith, all.some, all.first);
  few = omega (arith, all.few, all.first);
  alike = all.second ∙ sym all.first;
  condition = elim all.condition [ inl one ↦ inl one | inr same ↦ inr (same ∙ sym all.first) ];
  booleans = all.booleans;
}

suits : (form : Form) (rule : Option Rule) (c : ℕ) (wss : List (List ℕ)) → Fits form rule → AreOperands form c wss → SuitsRule rule wss
suits (Ints n) (Some (Ints1 f)) c wss fits all = alike 1 n c wss fits (omega arith) all
suits (Ints n) (Some (Ints2 f)) c wss fits all = alike 2 n c wss fits (omega arith) all
suits (Bools n) (Some (Bools1 f)) c wss fits all = alike_booleans 1 n c wss fits.0 (omega arith) all
suits (Bools n) (Some (Bools2 f)) c wss fits all = alike_booleans 2 n c wss fits.0 (omega arith) all
suits Compares (Some (Ints2 f)) c wss fits all = alike 2 2 c wss refl (omega arith) all
suits Selects (Some Choice) c wss fits all = is_choice c wss all
suits Shuffles rule c wss fits all = absurd all
suits Extracts rule c wss fits all = absurd all
suits Inserts rule c wss fits all = absurd all
suits form rule c wss fits all = absurd fits

sized : (form : Form) (rule : Option Rule) (c : ℕ) (wss : List (List ℕ)) → Fits form rule → AreOperands form c wss → length (rule_result rule wss) ≡ c
sized (Ints n) (Some (Ints1 f)) c wss fits all = length-map (operand wss 0) f ∙ sized_at n c 0 wss all (omega arith)
sized (Ints n) (Some (Ints2 f)) c wss fits all =
    length-zip_with f c (operand wss 0) (operand wss 1) (sized_at n c 0 wss all (omega arith)) (sized_at n c 1 wss all (omega arith))
sized (Bools n) (Some (Bools1 f)) c wss fits all =
    let one = fits.0 in
    length-map (operand wss 0) f ∙ sized_at n c 0 wss all.components (omega arith)
sized (Bools n) (Some (Bools2 f)) c wss fits all =
    let both = fits.0 in
    length-zip_with f c (operand wss 0) (operand wss 1) (sized_at n c 0 wss all.components (omega arith)) (sized_at n c 1 wss all.components (omega arith))
sized Compares (Some (Ints2 f)) c wss fits all =
    length-zip_with f c (operand wss 0) (operand wss 1) (sized_at 2 c 0 wss all (omega arith)) (sized_at 2 c 1 wss all (omega arith))
sized Selects (Some Choice) c wss fits all = length-choice c (operand wss 0) (operand wss 1) (operand wss 2) all.condition all.first all.second
sized Shuffles rule c wss fits all = absurd all
sized Extracts rule c wss fits all = absurd all
sized Inserts rule c wss fits all = absurd all
sized form rule c wss fits all = absurd fits

booleans : (form : Form) (rule : Option Rule) (wss : List (List ℕ)) → Fits form rule → GivesBooleans form wss → AreBooleanWords (rule_result rule wss)
booleans (Bools n) (Some (Bools1 f)) wss fits gives = all_two f fits.1 (operand wss 0)
booleans (Bools n) (Some (Bools2 f)) wss fits gives = all_two_zip f fits.1 (operand wss 0) (operand wss 1)
booleans Compares (Some (Ints2 f)) wss fits gives = all_two_zip f fits (operand wss 0) (operand wss 1)
booleans Selects (Some Choice) wss fits gives = choice_booleans (operand wss 0) (operand wss 1) (operand wss 2) gives.0 gives.1
booleans (Ints n) rule wss fits gives = absurd gives
booleans Shuffles rule wss fits gives = absurd gives
booleans Extracts rule wss fits gives = absurd gives
booleans Inserts rule wss fits gives = absurd gives
booleans form rule wss fits gives = absurd fits

-- ---- the operations

-- an operation takes operands of its form
pub form_can_eval : (opcode : ℕ) (form : Form) (c : ℕ) (wss : List (List ℕ)) → lookup (nat_eq opcode) spec_operations ≡ Some form
    → AreOperands form c wss
    → CanEval 32 opcode wss
unfolding CanEval
form_can_eval opcode form c wss e all = suits form (rule_at opcode (op_rules 32)) c wss (rule_fits opcode form e) all

-- the result has c words
pub eval_sized : (opcode : ℕ) (form : Form) (c : ℕ) (wss : List (List ℕ)) → lookup (nat_eq opcode) spec_operations ≡ Some form
    → AreOperands form c wss
    → length (Eval 32 opcode wss) ≡ c
unfolding Eval
eval_sized opcode form c wss e all = sized form (rule_at opcode (op_rules 32)) c wss (rule_fits opcode form e) all

few_words : (form : Form) (c : ℕ) (wss : List (List ℕ)) → AreOperands form c wss → c ≤ 4
few_words (Ints n) c wss all = all.few
few_words (Bools n) c wss all = all.components.few
few_words Compares c wss all = all.few
few_words Selects c wss all = all.few
few_words Shuffles c wss all = absurd all
few_words Extracts c wss all = absurd all
few_words Inserts c wss all = absurd all

-- at most four
pub eval_few : (opcode : ℕ) (form : Form) (c : ℕ) (wss : List (List ℕ)) → lookup (nat_eq opcode) spec_operations ≡ Some form → AreOperands form c wss
    → length (Eval 32 opcode wss) ≤ 4
eval_few opcode form c wss e all = omega (arith, eval_sized opcode form c wss e all, few_words form c wss all)

-- each 0 or 1 where the result is of booleans
pub eval_boolean : (opcode : ℕ) (form : Form) (wss : List (List ℕ)) → lookup (nat_eq opcode) spec_operations ≡ Some form → GivesBooleans form wss
    → AreBooleanWords (Eval 32 opcode wss)
unfolding Eval
eval_boolean opcode form wss e gives = booleans form (rule_at opcode (op_rules 32)) wss (rule_fits opcode form e) gives
