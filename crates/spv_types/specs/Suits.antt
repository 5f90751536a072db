-- Whether operands suit an operation that is evaluated component by component.
use Rattle.std.specs.Prelude.{ℕ, Bool, false, ◌==◌, ◌&&◌, ◌||◌, nat_le, nat_lt, List, [], ◌∷◌, length}
use Rattle.std.specs.List.{list_all}
use Rattle.spv_value.specs.declared.words.Operand.{Operand}
use Rattle.spv_typing.specs.declared.operations.Form.{Form}
use Rattle.spv_typing.specs.declared.operations.Form.TheVariants.{Ints, Bools, Compares, Selects, Shuffles, Extracts, Inserts}

-- how many words the first has
abbrev pub first_len : List Operand → ℕ
first_len [] = 0
first_len (x ∷ xs) = x.len

-- so many, of so many components each, one to four
abbrev pub have_components : (count len : ℕ) → List Operand → Bool
have_components count len xs = length xs == count && ((nat_le 1 len && nat_le len 4) && list_all (λ x. x.len == len) xs)

abbrev pub are_components : (count : ℕ) → List Operand → Bool
are_components count xs = have_components count (first_len xs) xs

-- each of at most four words is 0 or 1
abbrev pub is_boolean : Operand → Bool
is_boolean x = (nat_lt x.len 1 || nat_lt x.w0 2) && ((nat_lt x.len 2 || nat_lt x.w1 2) && ((nat_lt x.len 3 || nat_lt x.w2 2) && (nat_lt x.len 4 || nat_lt x.w3 2)))

-- two operands, and a condition of one component or of as many
abbrev pub are_choices : List Operand → Bool
are_choices (c ∷ a ∷ b ∷ []) =
    nat_le 1 a.len && (nat_le a.len 4 && (b.len == a.len && ((c.len == 1 || c.len == a.len) && is_boolean c)))
are_choices xs = false

abbrev pub operands_suit : Form → List Operand → Bool
operands_suit (Ints n) xs = are_components n xs
operands_suit (Bools n) xs = are_components n xs && list_all is_boolean xs
operands_suit Compares xs = are_components 2 xs
operands_suit Selects xs = are_choices xs
operands_suit Shuffles xs = false
operands_suit Extracts xs = false
operands_suit Inserts xs = false
