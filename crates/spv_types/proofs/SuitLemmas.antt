-- Operands that suit an operation of a form.
use Rattle.std.proofs.Common.{◌≡◌, ℕ, zero, suc, ◌≤◌, Bool, true, false, cond, ◌==◌, ◌&&◌, ◌||◌, nat_eq, nat_le, nat_lt, List, [], ◌∷◌, length, Some, ◌⊎◌, inl, inr, refl, sym, ap, subst, ◌∙◌, arith}
use Rattle.std.specs.List.{list_all, All}
use Rattle.std.specs.Map.{lookup}
use Rattle.std.proofs.lemmas.List.{length-map}
use Rattle.std.proofs.lemmas.Bool.{eqb-true, eq-eqb, and_parts, and_from, or_cases, or_left, or_right, leb-true}
use Rattle.std.proofs.lemmas.Bool.Decides.{nat_tests}
use Rattle.spv_value.specs.declared.words.Operand.{Operand}
use Rattle.spv_value.specs.Words.{padded, words_of, operands}
use Rattle.spv_value.specs.Eval.{AreBooleanWords}
use Rattle.spv_value.proofs.WordLists.{length-words_of}
use Rattle.spv_typing.specs.declared.operations.Form.{Form}
use Rattle.spv_typing.specs.declared.operations.Form.TheVariants.{Ints, Bools, Compares, Selects, Shuffles, Extracts, Inserts}
use Rattle.spv_typing.specs.Operations.{spec_operations}
use Rattle.spv_folding.specs.Folding.{AreOperands, AreComponents, AreChoices}
use Rattle.spv_types.specs.Suits.{first_len, are_components, is_boolean, are_choices, operands_suit}

-- ---- words of booleans

and_true : (b : Bool) → (b && true) ≡ b
and_true true = refl
and_true false = refl

pub boolean_is : (x : Operand) → x.len ≤ 4 → is_boolean x ≡ list_all (λ b. nat_lt b 2) (words_of x)
unfolding words_of
boolean_is x h = by x.len x.w0 x.w1 x.w2 x.w3 h
  where
    by : (n a b c d : ℕ) → n ≤ 4 →
        ((nat_lt n 1 || nat_lt a 2) && ((nat_lt n 2 || nat_lt b 2) && ((nat_lt n 3 || nat_lt c 2) && (nat_lt n 4 || nat_lt d 2)))) ≡ list_all (λ b. nat_lt b 2) (padded n (a ∷ b ∷ c ∷ d ∷ []))
    by zero a b c d h = refl
    by (suc zero) a b c d h = refl
    by (suc (suc zero)) a b c d h = refl
    by (suc (suc (suc zero))) a b c d h = refl
    by (suc (suc (suc (suc zero)))) a b c d h = ap (λ (e : Bool). nat_lt a 2 && (nat_lt b 2 && (nat_lt c 2 && e))) (sym (and_true (nat_lt d 2)))
    by (suc (suc (suc (suc (suc n))))) a b c d h = absurd (omega arith)

-- ---- what the test says

-- induction on the operands
all_sized : (n : ℕ) (xs : List Operand) → list_all (λ x. x.len == n) xs ≡ true → All (λ ws. length ws ≡ n) (operands xs)
all_sized n [] h k d less = absurd (omega arith)
all_sized n (x ∷ xs) h zero d less = length-words_of x ∙ eqb-true x.len n (and_parts (x.len == n) (list_all (λ x. x.len == n) xs) h).0
all_sized n (x ∷ xs) h (suc k) d less = all_sized n xs (and_parts (x.len == n) (list_all (λ x. x.len == n) xs) h).1 k d (omega arith)

all_boolean : (n : ℕ) (xs : List Operand) → n ≤ 4 → list_all (λ x. x.len == n) xs ≡ true → list_all is_boolean xs ≡ true → All AreBooleanWords (operands xs)
all_boolean n [] few h b k d less = absurd (omega arith)
all_boolean n (x ∷ xs) few h b zero d less =
    let same : x.len ≡ n = eqb-true x.len n (and_parts (x.len == n) (list_all (λ x. x.len == n) xs) h).0 in
    sym (boolean_is x (omega arith)) ∙ (and_parts (is_boolean x) (list_all is_boolean xs) b).0
all_boolean n (x ∷ xs) few h b (suc k) d less =
    all_boolean n xs few (and_parts (x.len == n) (list_all (λ x. x.len == n) xs) h).1 (and_parts (is_boolean x) (list_all is_boolean xs) b).1 k d (omega arith)

record Parts (count len : ℕ) (xs : List Operand) : Type 0 where
  pub count_is : length xs ≡ count
  pub some : 1 ≤ len
  pub few : len ≤ 4
  pub alike : list_all (λ x. x.len == len) xs ≡ true

parts_of : (count len : ℕ) (xs : List Operand) → (length xs == count && ((nat_le 1 len && nat_le len 4) && list_all (λ x. x.len == len) xs)) ≡ true → Parts count len xs
parts_of count len xs h =
    let one = and_parts (length xs == count) _ h in
    let two = and_parts (nat_le 1 len && nat_le len 4) (list_all (λ x. x.len == len) xs) one.1 in
    let three = and_parts (nat_le 1 len) (nat_le len 4) two.0 in
    record { count_is = eqb-true (length xs) count one.0; some = leb-true 1 len three.0; few = leb-true len 4 three.1; alike = two.1 }

components_of : (count : ℕ) (xs : List Operand) → are_components count xs ≡ true → AreComponents count (first_len xs) (operands xs)
components_of count xs h =
    let p = parts_of count (first_len xs) xs h in
    record { some = p.some; few = p.few; count = length-map xs words_of ∙ p.count_is; sized = all_sized (first_len xs) xs p.alike }

choices_of : (c a b : Operand) → are_choices (c ∷ a ∷ b ∷ []) ≡ true → AreChoices a.len (operands (c ∷ a ∷ b ∷ []))
choices_of c a b h =
    let one = and_parts (nat_le 1 a.len) _ h in
    let two = and_parts (nat_le a.len 4) _ one.1 in
    let three = and_parts (b.len == a.len) _ two.1 in
    let four = and_parts (c.len == 1 || c.len == a.len) (is_boolean c) three.1 in
    let few : a.len ≤ 4 = leb-true a.len 4 two.0 in
    let condition = either (or_cases (c.len == 1) (c.len == a.len) four.0) in
    record {
      some = leb-true 1 a.len one.0;
      few = few;
      count = refl;
      condition = words_too condition;
      booleans = sym (boolean_is c (short few condition)) ∙ four.1;
      first = length-words_of a;
      second = length-words_of b ∙ eqb-true b.len a.len three.0;
    }
  where
    either : ((c.len == 1) ≡ true) ⊎ ((c.len == a.len) ≡ true) → (c.len ≡ 1) ⊎ (c.len ≡ a.len)
    either (inl e) = inl (eqb-true c.len 1 e)
    either (inr e) = inr (eqb-true c.len a.len e)

    words_too : (c.len ≡ 1) ⊎ (c.len ≡ a.len) → (length (words_of c) ≡ 1) ⊎ (length (words_of c) ≡ a.len)
    words_too (inl e) = inl (length-words_of c ∙ e)
    words_too (inr e) = inr (length-words_of c ∙ e)

    short : a.len ≤ 4 → (c.len ≡ 1) ⊎ (c.len ≡ a.len) → c.len ≤ 4
    short few (inl e) = omega arith
    short few (inr e) = omega arith

-- operands that pass the test suit the form
pub suit_sound : (form : Form) (xs : List Operand) → operands_suit form xs ≡ true → (c : ℕ) × AreOperands form c (operands xs)
suit_sound (Ints n) xs h = (first_len xs, components_of n xs h)
suit_sound (Bools n) xs h =
    let both = and_parts (are_components n xs) (list_all is_boolean xs) h in
    let p = parts_of n (first_len xs) xs both.0 in
    (first_len xs, record { components = components_of n xs both.0; booleans = all_boolean (first_len xs) xs p.few p.alike both.1 })
suit_sound Compares xs h = (first_len xs, components_of 2 xs h)
suit_sound Selects [] h = cc
suit_sound Selects (c ∷ []) h = cc
suit_sound Selects (c ∷ a ∷ []) h = cc
suit_sound Selects (c ∷ a ∷ b ∷ []) h = (a.len, choices_of c a b h)
suit_sound Selects (c ∷ a ∷ b ∷ d ∷ xs) h = cc
suit_sound Shuffles xs h = cc
suit_sound Extracts xs h = cc
suit_sound Inserts xs h = cc

-- ---- what passes it

test_le : (m n : ℕ) → m ≤ n → nat_le m n ≡ true
test_le m n h = grind (arith, nat_tests)

lens_alike : (c : ℕ) (xs : List Operand) → All (λ ws. length ws ≡ c) (operands xs) → list_all (λ x. x.len == c) xs ≡ true
lens_alike c [] h = refl
lens_alike c (x ∷ xs) h =
    and_from (x.len == c) (list_all (λ x. x.len == c) xs) (eq-eqb x.len c (sym (length-words_of x) ∙ h 0 [] (omega arith))) (lens_alike c xs (λ k d less. h (suc k) d (omega arith)))

components_pass : (n c : ℕ) (x : Operand) (xs : List Operand) → AreComponents n c (operands (x ∷ xs)) → are_components n (x ∷ xs) ≡ true
components_pass n c x xs h =
    let same : x.len ≡ c = sym (length-words_of x) ∙ h.sized 0 [] (omega arith) in
    let alike = subst (λ (l : ℕ). list_all (λ x. x.len == l) (x ∷ xs) ≡ true) (sym same) (lens_alike c (x ∷ xs) h.sized) in
    and_from (length (x ∷ xs) == n) _ (eq-eqb (length (x ∷ xs)) n (sym (length-map (x ∷ xs) words_of) ∙ h.count))
    (and_from (nat_le 1 x.len && nat_le x.len 4) (list_all (λ y. y.len == x.len) (x ∷ xs))
    (and_from (nat_le 1 x.len) (nat_le x.len 4) (test_le 1 x.len (omega (arith, h.some))) (test_le x.len 4 (omega (arith, h.few)))) alike)

booleans_pass : (c : ℕ) (xs : List Operand) → c ≤ 4 → All (λ ws. length ws ≡ c) (operands xs) → All AreBooleanWords (operands xs) → list_all is_boolean xs ≡ true
booleans_pass c [] few h b = refl
booleans_pass c (x ∷ xs) few h b =
    let same : x.len ≡ c = sym (length-words_of x) ∙ h 0 [] (omega arith) in
    and_from (is_boolean x) (list_all is_boolean xs) (boolean_is x (omega arith) ∙ b 0 [] (omega arith))
    (booleans_pass c xs few (λ k d less. h (suc k) d (omega arith)) (λ k d less. b (suc k) d (omega arith)))

choices_pass : (n : ℕ) (c a b : Operand) → AreChoices n (operands (c ∷ a ∷ b ∷ [])) → are_choices (c ∷ a ∷ b ∷ []) ≡ true
choices_pass n c a b h =
    let first : a.len ≡ n = sym (length-words_of a) ∙ h.first in
    let second : b.len ≡ n = sym (length-words_of b) ∙ h.second in
    and_from (nat_le 1 a.len) _ (test_le 1 a.len (omega (arith, h.some)))
    (and_from (nat_le a.len 4) _ (test_le a.len 4 (omega (arith, h.few)))
    (and_from (b.len == a.len) _ (eq-eqb b.len a.len (omega arith))
    (and_from (c.len == 1 || c.len == a.len) (is_boolean c) (condition first h.condition) (boolean_is c (short h.few h.condition) ∙ h.booleans))))
  where
    condition : a.len ≡ n → (length (words_of c) ≡ 1) ⊎ (length (words_of c) ≡ n) → (c.len == 1 || c.len == a.len) ≡ true
    condition first (inl e) = or_left (c.len == 1) (c.len == a.len) (eq-eqb c.len 1 (sym (length-words_of c) ∙ e))
    condition first (inr e) = or_right (c.len == 1) (c.len == a.len) (eq-eqb c.len a.len (sym (length-words_of c) ∙ e ∙ sym first))

    short : n ≤ 4 → (length (words_of c) ≡ 1) ⊎ (length (words_of c) ≡ n) → c.len ≤ 4
    short few (inl e) = omega (arith, length-words_of c)
    short few (inr e) = omega (arith, length-words_of c)

-- operands that suit the form pass the test
pub suit_complete : (form : Form) (c : ℕ) (x : Operand) (xs : List Operand) → AreOperands form c (operands (x ∷ xs)) → operands_suit form (x ∷ xs) ≡ true
suit_complete (Ints n) c x xs h = components_pass n c x xs h
suit_complete (Bools n) c x xs h =
    and_from (are_components n (x ∷ xs)) (list_all is_boolean (x ∷ xs)) (components_pass n c x xs h.components) (booleans_pass c (x ∷ xs) h.components.few h.components.sized h.booleans)
suit_complete Compares c x xs h = components_pass 2 c x xs h
suit_complete Selects c x [] h = absurd (omega (arith, h.count))
suit_complete Selects c x (a ∷ []) h = absurd (omega (arith, h.count))
suit_complete Selects c x (a ∷ b ∷ []) h = choices_pass c x a b h
suit_complete Selects c x (a ∷ b ∷ d ∷ xs) h = absurd (omega (arith, h.count, length-map xs words_of))
suit_complete Shuffles c x xs h = absurd h
suit_complete Extracts c x xs h = absurd h
suit_complete Inserts c x xs h = absurd h

-- ---- the operations

-- what holds of all operations holds of each
pub each_operation : (test : ℕ → Form → Bool) (fs : List (ℕ × Form)) → list_all (λ f. test f.0 f.1) fs ≡ true → (o : ℕ) (form : Form) → lookup (nat_eq o) fs ≡ Some form → test o form ≡ true
each_operation test [] all o form e = cc
each_operation test (f ∷ fs) all o form e =
    let both = and_parts (test f.0 f.1) (list_all (λ f. test f.0 f.1) fs) all in
    by (nat_eq o f.0) refl e both.0 (λ found. each_operation test fs both.1 o form found)
  where
    by : (b : Bool) → nat_eq o f.0 ≡ b → cond b (Some f.1) (lookup (nat_eq o) fs) ≡ Some form → test f.0 f.1 ≡ true → (lookup (nat_eq o) fs ≡ Some form → test o form ≡ true) → test o form ≡ true
    by true same e here others =
        let is : f.1 ≡ form = cc in
        ap (λ (n : ℕ). test n form) (eqb-true o f.0 same) ∙ ap (test f.0) (sym is) ∙ here
    by false same e here others = others e

takes_some : ℕ → Form → Bool
takes_some o (Ints n) = nat_le 1 n
takes_some o (Bools n) = nat_le 1 n
takes_some o form = true

-- an operation has an operand
none_suit : (o : ℕ) (form : Form) (c : ℕ) → takes_some o form ≡ true → AreOperands form c [] → ⊥
unfolding takes_some
none_suit o (Ints n) c some h = let one : 1 ≤ n = leb-true 1 n some in omega (arith, h.count)
none_suit o (Bools n) c some h = let one : 1 ≤ n = leb-true 1 n some in omega (arith, h.components.count)
none_suit o Compares c some h = omega (arith, h.count)
none_suit o Selects c some h = omega (arith, h.count)
none_suit o Shuffles c some h = h
none_suit o Extracts c some h = h
none_suit o Inserts c some h = h

-- operands that suit an operation pass the test
pub suit_passes : (o : ℕ) (form : Form) (c : ℕ) (xs : List Operand) → lookup (nat_eq o) spec_operations ≡ Some form → AreOperands form c (operands xs) → operands_suit form xs ≡ true
unfolding takes_some
suit_passes o form c [] e h = absurd (none_suit o form c (each_operation takes_some spec_operations refl o form e) h)
suit_passes o form c (x ∷ xs) e h = suit_complete form c x xs h

-- opcodes have sixteen bits
pub short_opcode : (o : ℕ) (form : Form) → lookup (nat_eq o) spec_operations ≡ Some form → nat_lt o 65536 ≡ true
short_opcode o form e = each_operation (λ o f. nat_lt o 65536) spec_operations refl o form e
