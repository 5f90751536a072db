-- The words of what is evaluated component by component, by the form of the operation.
use Rattle.std.proofs.Common.{rules, ◌≡◌, ℕ, zero, suc, ◌<◌, Bool, true, false, cond, ◌==◌, List, [], ◌∷◌, length, map, Option, Some, refl, ◌∙◌, arith, ◌⊎◌, inl, inr}
use Rattle.std.specs.Prelude.{nat_eq}
use Rattle.std.specs.List.{slice_index}
use Rattle.std.specs.Map.{lookup}
use Rattle.std.specs.Int.{from_bool}
use Rattle.std.proofs.lemmas.Bool.{eq-eqb}
use Rattle.spv_value.specs.Bits.{zip_with}
use Rattle.spv_value.specs.Compare.{i_equal, i_not_equal, u_less_than, u_less_than_equal, u_greater_than, u_greater_than_equal, s_less_than, s_less_than_equal, s_greater_than, s_greater_than_equal, logical_not, logical_and, logical_or, is_one, select}
use Rattle.spv_value.specs.Eval.{Rule, Ints1, Ints2, Bools1, Bools2, Choice, operand, zip_with3, choice, rule_at, rule_result, op_rules, Eval}
use Rattle.spv_meaning.specs.Types.{copies}
use Rattle.spv_typing.specs.declared.operations.Form.{Form}
use Rattle.spv_typing.specs.declared.operations.Form.TheVariants.{Ints, Bools, Compares, Selects, Shuffles, Extracts, Inserts}
use Rattle.spv_typing.specs.Operations.{spec_operations}
use Rattle.spv_declarations.proofs.Operations.{AllForms, form_holds}
use Rattle.spv_declarations.proofs.Words.{AreWordsOf, IsWordOf, words-length, length-copies}

-- ---- component by component

map_holds : (P : ℕ → Type 0) (a b : Bool) (f : ℕ → ℕ) → ((x : ℕ) → IsWordOf P a x → IsWordOf P b (f x)) → (c : ℕ) (xs : List ℕ) →
    AreWordsOf P (copies c (a ∷ [])) xs → AreWordsOf P (copies c (b ∷ [])) (map f xs)
map_holds P a b f keeps zero [] h = tt
map_holds P a b f keeps zero (x ∷ xs) h = absurd h
map_holds P a b f keeps (suc c) [] h = absurd h
map_holds P a b f keeps (suc c) (x ∷ xs) h = (keeps x h.0, map_holds P a b f keeps c xs h.1)

zip_holds : (P : ℕ → Type 0) (a b : Bool) (f : ℕ → ℕ → ℕ) → ((x y : ℕ) → IsWordOf P a x → IsWordOf P a y → IsWordOf P b (f x y)) →
    (c : ℕ) (xs ys : List ℕ) → AreWordsOf P (copies c (a ∷ [])) xs → AreWordsOf P (copies c (a ∷ [])) ys →
    AreWordsOf P (copies c (b ∷ [])) (zip_with f xs ys)
zip_holds P a b f keeps zero [] ys h k = tt
zip_holds P a b f keeps zero (x ∷ xs) ys h k = absurd h
zip_holds P a b f keeps (suc c) [] ys h k = absurd h
zip_holds P a b f keeps (suc c) (x ∷ xs) [] h k = absurd k
zip_holds P a b f keeps (suc c) (x ∷ xs) (y ∷ ys) h k = (keeps x y h.0 k.0, zip_holds P a b f keeps c xs ys h.1 k.1)

either_holds : (P : ℕ → Type 0) (b first : Bool) (x y : ℕ) → IsWordOf P b x → IsWordOf P b y → IsWordOf P b (cond first x y)
either_holds P b true x y h k = h
either_holds P b false x y h k = k

-- as many conditions as components
selected_holds : (P : ℕ → Type 0) (b : Bool) (c : ℕ) (cs xs ys : List ℕ) → length cs ≡ c → AreWordsOf P (copies c (b ∷ [])) xs →
    AreWordsOf P (copies c (b ∷ [])) ys → AreWordsOf P (copies c (b ∷ [])) (zip_with3 select cs xs ys)
unfolding select
selected_holds P b zero [] xs ys e h k = tt
selected_holds P b zero (c ∷ cs) xs ys e h k = absurd (omega (arith, e))
selected_holds P b (suc n) [] xs ys e h k = absurd (omega (arith, e))
selected_holds P b (suc n) (c ∷ cs) [] ys e h k = absurd h
selected_holds P b (suc n) (c ∷ cs) (x ∷ xs) [] e h k = absurd k
selected_holds P b (suc n) (c ∷ cs) (x ∷ xs) (y ∷ ys) e h k =
    (either_holds P b (is_one c) x y h.0 k.0, selected_holds P b n cs xs ys (omega (arith, e)) h.1 k.1)

either_list : (P : ℕ → Type 0) (bs : List Bool) (first : Bool) (xs ys : List ℕ) → AreWordsOf P bs xs → AreWordsOf P bs ys →
    AreWordsOf P bs (cond first xs ys)
either_list P bs true xs ys h k = h
either_list P bs false xs ys h k = k

choice_by : (P : ℕ → Type 0) (b : Bool) (c : ℕ) (cs xs ys : List ℕ) (one : Bool) → (length cs == 1) ≡ one → (one ≡ false → length cs ≡ c) →
    AreWordsOf P (copies c (b ∷ [])) xs → AreWordsOf P (copies c (b ∷ [])) ys →
    AreWordsOf P (copies c (b ∷ [])) (cond one (cond (is_one (slice_index cs 0)) xs ys) (zip_with3 select cs xs ys))
choice_by P b c cs xs ys true e count h k = either_list P (copies c (b ∷ [])) (is_one (slice_index cs 0)) xs ys h k
choice_by P b c cs xs ys false e count h k = selected_holds P b c cs xs ys (count refl) h k

not_one : (P : ℕ → Type 0) (a : Bool) (n c : ℕ) (cs : List ℕ) → AreWordsOf P (copies n (a ∷ [])) cs → (n ≡ 1) ⊎ (n ≡ c) → (length cs == 1) ≡ false →
    length cs ≡ c
not_one P a n c cs h (inl one) e =
    let count : length cs ≡ 1 = words-length P (copies n (a ∷ [])) cs h ∙ length-copies n (a ∷ []) ∙ omega (arith, one) in
    let is_one : (length cs == 1) ≡ true = eq-eqb (length cs) 1 count in
    cc
not_one P a n c cs h (inr same) e = words-length P (copies n (a ∷ [])) cs h ∙ length-copies n (a ∷ []) ∙ omega (arith, same)

-- a condition of one or of as many components
pub choice-holds : (P : ℕ → Type 0) (a b : Bool) (n c : ℕ) (cs xs ys : List ℕ) → AreWordsOf P (copies n (a ∷ [])) cs → (n ≡ 1) ⊎ (n ≡ c) →
    AreWordsOf P (copies c (b ∷ [])) xs → AreWordsOf P (copies c (b ∷ [])) ys → AreWordsOf P (copies c (b ∷ [])) (choice cs xs ys)
choice-holds P a b n c cs xs ys conditions counts h k = choice_by P b c cs xs ys (length cs == 1) refl (not_one P a n c cs conditions counts) h k

-- ---- rules

-- a rule is of the form; it makes words of booleans where the form does, and else keeps to the predicate
abbrev pub RuleHolds : (ℕ → Type 0) → Form → Option Rule → Type 0
RuleHolds P (Ints n) (Some (Ints1 f)) = (n ≡ 1) × ((x : ℕ) → P x → P (f x))
RuleHolds P (Ints n) (Some (Ints2 f)) = (n ≡ 2) × ((x y : ℕ) → P x → P y → P (f x y))
RuleHolds P (Bools n) (Some (Bools1 f)) = (n ≡ 1) × ((x : ℕ) → x < 2 → f x < 2)
RuleHolds P (Bools n) (Some (Bools2 f)) = (n ≡ 2) × ((x y : ℕ) → x < 2 → y < 2 → f x y < 2)
RuleHolds P Compares (Some (Ints2 f)) = (x y : ℕ) → P x → P y → f x y < 2
RuleHolds P Selects (Some Choice) = Unit {0}
RuleHolds P Shuffles rule = Unit {0}
RuleHolds P Extracts rule = Unit {0}
RuleHolds P Inserts rule = Unit {0}
RuleHolds P form rule = ⊥

-- the same of all operations
abbrev pub RulesHold : (ℕ → Type 0) → Type 0
RulesHold P = AllForms (λ o form. RuleHolds P form (rule_at o (op_rules 32))) spec_operations

-- operands of one kind and number of components
abbrev pub AllWords : (ℕ → Type 0) → Bool → (c : ℕ) → List (List ℕ) → Type 0
AllWords P b c [] = Unit {0}
AllWords P b c (ws ∷ wss) = AreWordsOf P (copies c (b ∷ [])) ws × AllWords P b c wss

one_operand : (P : ℕ → Type 0) (b : Bool) (c : ℕ) (wss : List (List ℕ)) → length wss ≡ 1 → AllWords P b c wss →
    AreWordsOf P (copies c (b ∷ [])) (operand wss 0)
one_operand P b c [] e h = cc
one_operand P b c (ws ∷ wss) e h = h.0

second_operand : (P : ℕ → Type 0) (b : Bool) (c : ℕ) (wss : List (List ℕ)) → length wss ≡ 2 → AllWords P b c wss →
    AreWordsOf P (copies c (b ∷ [])) (operand wss 0) × AreWordsOf P (copies c (b ∷ [])) (operand wss 1)
second_operand P b c [] e h = cc
second_operand P b c (ws ∷ []) e h = absurd (omega (arith, e))
second_operand P b c (ws ∷ vs ∷ wss) e h = (h.0, h.1.0)

ints_hold : (P : ℕ → Type 0) (n c : ℕ) (rule : Option Rule) (wss : List (List ℕ)) → RuleHolds P (Ints n) rule → length wss ≡ n →
    AllWords P false c wss → AreWordsOf P (copies c (false ∷ [])) (rule_result rule wss)
ints_hold P n c (Some (Ints1 f)) wss r e h = map_holds P false false f r.1 c (operand wss 0) (one_operand P false c wss (e ∙ r.0) h)
ints_hold P n c (Some (Ints2 f)) wss r e h =
    let both = second_operand P false c wss (e ∙ r.0) h in
    zip_holds P false false f r.1 c (operand wss 0) (operand wss 1) both.0 both.1
ints_hold P n c other wss r e h = absurd r

bools_hold : (P : ℕ → Type 0) (n c : ℕ) (rule : Option Rule) (wss : List (List ℕ)) → RuleHolds P (Bools n) rule → length wss ≡ n →
    AllWords P true c wss → AreWordsOf P (copies c (true ∷ [])) (rule_result rule wss)
bools_hold P n c (Some (Bools1 f)) wss r e h = map_holds P true true f r.1 c (operand wss 0) (one_operand P true c wss (e ∙ r.0) h)
bools_hold P n c (Some (Bools2 f)) wss r e h =
    let both = second_operand P true c wss (e ∙ r.0) h in
    zip_holds P true true f r.1 c (operand wss 0) (operand wss 1) both.0 both.1
bools_hold P n c other wss r e h = absurd r

compares_hold : (P : ℕ → Type 0) (c : ℕ) (rule : Option Rule) (wss : List (List ℕ)) → RuleHolds P Compares rule → length wss ≡ 2 →
    AllWords P false c wss → AreWordsOf P (copies c (true ∷ [])) (rule_result rule wss)
compares_hold P c (Some (Ints2 f)) wss r e h =
    let both = second_operand P false c wss e h in
    zip_holds P false true f r c (operand wss 0) (operand wss 1) both.0 both.1
compares_hold P c other wss r e h = absurd r

selects_is : (P : ℕ → Type 0) (rule : Option Rule) (cs xs ys : List ℕ) → RuleHolds P Selects rule →
    rule_result rule (cs ∷ xs ∷ ys ∷ []) ≡ choice cs xs ys
selects_is P (Some Choice) cs xs ys r = refl
selects_is P other cs xs ys r = absurd r

rule_for : (P : ℕ → Type 0) → RulesHold P → (o : ℕ) (form : Form) → lookup (nat_eq o) spec_operations ≡ Some form →
    RuleHolds P form (rule_at o (op_rules 32))
rule_for P all o form is = form_holds (λ n f. RuleHolds P f (rule_at n (op_rules 32))) spec_operations all o form is

pub ints-eval : (P : ℕ → Type 0) → RulesHold P → (o n c : ℕ) (wss : List (List ℕ)) → lookup (nat_eq o) spec_operations ≡ Some (Ints n) →
    length wss ≡ n → AllWords P false c wss → AreWordsOf P (copies c (false ∷ [])) (Eval 32 o wss)
unfolding Eval
ints-eval P all o n c wss is e h = ints_hold P n c (rule_at o (op_rules 32)) wss (rule_for P all o (Ints n) is) e h

pub bools-eval : (P : ℕ → Type 0) → RulesHold P → (o n c : ℕ) (wss : List (List ℕ)) → lookup (nat_eq o) spec_operations ≡ Some (Bools n) →
    length wss ≡ n → AllWords P true c wss → AreWordsOf P (copies c (true ∷ [])) (Eval 32 o wss)
unfolding Eval
bools-eval P all o n c wss is e h = bools_hold P n c (rule_at o (op_rules 32)) wss (rule_for P all o (Bools n) is) e h

pub compares-eval : (P : ℕ → Type 0) → RulesHold P → (o c : ℕ) (wss : List (List ℕ)) → lookup (nat_eq o) spec_operations ≡ Some Compares →
    length wss ≡ 2 → AllWords P false c wss → AreWordsOf P (copies c (true ∷ [])) (Eval 32 o wss)
unfolding Eval
compares-eval P all o c wss is e h = compares_hold P c (rule_at o (op_rules 32)) wss (rule_for P all o Compares is) e h

pub selects-eval : (P : ℕ → Type 0) → RulesHold P → (o : ℕ) (cs xs ys : List ℕ) → lookup (nat_eq o) spec_operations ≡ Some Selects →
    Eval 32 o (cs ∷ xs ∷ ys ∷ []) ≡ choice cs xs ys
unfolding Eval
selects-eval P all o cs xs ys is = selects_is P (rule_at o (op_rules 32)) cs xs ys (rule_for P all o Selects is)

-- ---- where nothing is asked of words

pub two : (b : Bool) → from_bool b < 2
two true = omega arith
two false = omega arith

abbrev pub any_word : ℕ → Type 0
any_word w = Unit {0}

-- by computing, row by row
pub any_rules : RulesHold any_word
unfolding op_rules i_equal i_not_equal u_less_than u_less_than_equal u_greater_than u_greater_than_equal s_less_than s_less_than_equal s_greater_than s_greater_than_equal logical_not logical_and logical_or
any_rules = search (rules, two)
