-- Lengths of arrays are Known to operands where they are to constituents.
use Rattle.std.proofs.Common.{◌≡◌, ℕ, ◌<◌, Bool, true, false, cond, not, ◌==◌, ◌&&◌, nat_le, nat_lt, nat_eq, List, [], ◌∷◌, length, slice_get, Option, Some}
use Rattle.std.proofs.Common.{None, refl, sym, ap, subst, ◌∙◌, arith}
use Rattle.std.specs.Option.{option_and_then, option_map_or}
use Rattle.std.proofs.lemmas.Bool.Decides.{nat_tests}
use Rattle.spv_module.specs.Instruction.{Instruction}
use Rattle.spv_meaning.specs.Constants.{Table, Meaning, IsConstant, meaning, length_in}
use Rattle.spv_meaning.specs.Meanings.{constant_words}
use Rattle.spv_meaning.specs.Types.{DataType}
use Rattle.spv_typing.specs.Kinds.{is_one_of, length_id}
use Rattle.spv_declarations.specs.Declarations.{declared_before}
use Rattle.spv_declarations.specs.Laws.{meanings}
use Rattle.spv_declarations.specs.Sound.{table_before}
use Rattle.spv_declarations.proofs.Whole.{declared-whole}
use Rattle.spv_types.specs.Lookup.{specialised, kind_in, word_in, known_word}
use Rattle.spv_types.specs.Members.{length_of_word}
use Rattle.spv_types.specs.Steps.{IsLength}
use Rattle.spv_types.proofs.ArrayLengths.{array-length}
use Rattle.spv_composites.specs.Lengths.{is_signed, some_length, first_known_word, known_length}
use Rattle.spv_composites.specs.Laws as laws
use Rattle.spv_composites.proofs.FormsStand.{outside_of}

one_word : (specialised : Bool) (word : ℕ) → word_in (kind_in specialised (Some (word ∷ []))) (Some (word ∷ [])) 0 ≡ cond specialised None (Some word)
one_word true word = refl
one_word false word = refl

-- the first word of a constant of one word, where it is not Specialised
word_is : (insts : List Instruction) (id : ℕ) (t : DataType) (word : ℕ) → meaning (meanings insts) id ≡ Some (IsConstant t (word ∷ [])) →
    known_word insts id 0 ≡ cond (is_one_of (specialised insts) id) None (Some word)
word_is insts id t word e =
    ap (λ (m : Option Meaning). word_in (kind_in (is_one_of (specialised insts) id) (constant_words m)) (constant_words m) 0) e ∙ one_word
    (is_one_of (specialised insts) id) word

above : (id : ℕ) (o : Option ℕ) → 0 < id → cond (nat_lt 0 id) o None ≡ o
above id o h = let e : nat_lt 0 id ≡ true = grind (arith, nat_tests) in rw e refl

same_length : (l n : ℕ) → option_map_or (nat_eq n) (cond (nat_le 1 l) (Some l) None) false ≡ (nat_le 1 n && l == n)
same_length l n = by (nat_le 1 l) refl
  where
    by : (b : Bool) → nat_le 1 l ≡ b → option_map_or (nat_eq n) (cond b (Some l) None) false ≡ (nat_le 1 n && l == n)
    by true e = grind (arith, nat_tests)
    by false e = grind (arith, nat_tests)

by_kind : (specialised signed : Bool) (word n : ℕ) →
    option_map_or (nat_eq n) (option_and_then (some_length signed) (cond specialised None (Some word))) false ≡
    (not specialised && (nat_le 1 n && length_of_word signed word == n))
by_kind true signed word n = refl
by_kind false signed word n = same_length (length_of_word signed word) n

length_is : (insts : List Instruction) (id word : ℕ) → 0 < id → known_word insts id 0 ≡ cond (is_one_of (specialised insts) id) None (Some word) →
    known_length insts id ≡ option_and_then (some_length (is_signed insts id)) (cond (is_one_of (specialised insts) id) None (Some word))
unfolding known_length
length_is insts id word some e = ap (option_and_then (some_length (is_signed insts id))) (above id (known_word insts id 0) some ∙ e)

pub lengths_agree : laws.LengthsAgree
lengths_agree insts t n h out array some =
    let o = outside_of insts t h out in
    let id = length_id insts t in
    let is : IsLength insts (table_before insts (length insts)) id =
    subst (λ (table : Table). IsLength insts table id) o.table (array-length insts o.whole o.m t (o.clean o.m) o.outside o.before array) in
    let stands = ap (λ (table : Table). meaning table id) (sym (declared-whole insts)) ∙ is.1 in
    let specialised_is = is_one_of (specialised insts) id in
    ap (λ (l : Option ℕ). option_map_or (nat_eq n) l false) (length_is insts id is.0 some (word_is insts id _ is.0 stands))
    ∙ by_kind specialised_is (is_signed insts id) is.0 n
    ∙ ap (λ (m : Option Meaning). not specialised_is && (nat_le 1 n && length_in m == n)) (sym is.1)
