-- What the operations that OpSpecConstantOp may name ask of the words of their operands, and how the words of a composite's parts lie in it.
use Rattle.std.specs.Prelude.{◌≡◌, ℕ, ◌≤◌, ◌⊎◌, List, [], ◌∷◌, length}
use Rattle.std.specs.List.{All, AllZip}
use Rattle.spv_value.specs.Eval.{operand, AreBooleanWords}
use Rattle.spv_typing.specs.declared.operations.Form.{Form}
use Rattle.spv_typing.specs.declared.operations.Form.TheVariants.{Ints, Bools, Compares, Selects, Shuffles, Extracts, Inserts}
use Rattle.spv_meaning.specs.Types.{DataType, Members, NoMember, Member, cells}

-- n operands of c words each, one to four
pub record AreComponents (n c : ℕ) (wss : List (List ℕ)) : Type 0 where
  pub some : 1 ≤ c
  pub few : c ≤ 4
  pub count : length wss ≡ n
  pub sized : All (λ ws. length ws ≡ c) wss

-- such operands of booleans
pub record AreConditions (n c : ℕ) (wss : List (List ℕ)) : Type 0 where
  pub components : AreComponents n c wss
  pub booleans : All AreBooleanWords wss

-- a condition of one or of c booleans, and two operands of c words
pub record AreChoices (c : ℕ) (wss : List (List ℕ)) : Type 0 where
  pub some : 1 ≤ c
  pub few : c ≤ 4
  pub count : length wss ≡ 3
  pub condition : (length (operand wss 0) ≡ 1) ⊎ (length (operand wss 0) ≡ c)
  pub booleans : AreBooleanWords (operand wss 0)
  pub first : length (operand wss 1) ≡ c
  pub second : length (operand wss 2) ≡ c

-- operands of a form that is evaluated component by component, for a result of c words
abbrev pub AreOperands : Form → (c : ℕ) → List (List ℕ) → Type 0
AreOperands (Ints n) c wss = AreComponents n c wss
AreOperands (Bools n) c wss = AreConditions n c wss
AreOperands Compares c wss = AreComponents 2 c wss
AreOperands Selects c wss = AreChoices c wss
AreOperands Shuffles c wss = ⊥
AreOperands Extracts c wss = ⊥
AreOperands Inserts c wss = ⊥

-- the words of the result are booleans by the form and the operands
abbrev pub GivesBooleans : Form → List (List ℕ) → Type 0
GivesBooleans (Ints n) wss = ⊥
GivesBooleans (Bools n) wss = Unit {0}
GivesBooleans Compares wss = Unit {0}
GivesBooleans Selects wss = AreBooleanWords (operand wss 1) × AreBooleanWords (operand wss 2)
GivesBooleans Shuffles wss = ⊥
GivesBooleans Extracts wss = ⊥
GivesBooleans Inserts wss = ⊥

-- the types of a struct's members
abbrev pub member_types : Members → List DataType
member_types NoMember = []
member_types (Member offset volatile t rest) = t ∷ member_types rest

-- each list has as many words as a value of its type
abbrev pub AreSized : List DataType → List (List ℕ) → Type 0
AreSized ts wss = AllZip (λ t ws. length ws ≡ cells t) ts wss
