-- A small pass that has a callee's body in place of its call: a function that adds 1, to 1.
use Rattle.std.specs.Prelude.{◌≡◌, ℕ, true, false, List, [], ◌∷◌, Option, Some, IfSome}
use Rattle.spv_opcodes.specs.declared.op.TheConstants as op
use Rattle.spv_meaning.specs.Types.{DataType}
use Rattle.spv_meaning.specs.Constants.{meaning}
use Rattle.spv_machine.specs.Places.{is_shared}
use Rattle.spv_machine.specs.Setting.{Setting}
use Rattle.spv_machine.specs.State.{Value, Words, Data, below, global, value, pointer_of_value}
use Rattle.spv_machine.specs.Facts.{no_data}
use Rattle.spv_bodies.specs.Bodies.{Body, Step}
use Rattle.spv_bodies.specs.Listing.{instruction}
use Rattle.spv_trees.specs.Facts.{stores, returns, calls, adding, functions_of}
use Rattle.spv_congruence.specs.Shape.{no_drops, no_adds, Edits}
use Rattle.spv_congruence.specs.Laws.{Pass, Local, FunctionsAlike, TreeKeeps}
use Rattle.spv_congruence.specs.Example.{store_line, Finish, Name, here}

-- ---- the bodies: the function 7 adds 1 to its parameter 8, and gives 10

abbrev pub call_line : List ℕ
call_line = instruction op.FUNCTION_CALL (20 ∷ 12 ∷ 7 ∷ 31 ∷ [])

abbrev pub sum_line : (r first second : ℕ) → List ℕ
sum_line r first second = instruction op.I_ADD (20 ∷ r ∷ first ∷ second ∷ [])

abbrev pub give_line : List ℕ
give_line = instruction op.RETURN_VALUE (10 ∷ [])

abbrev pub by_call : Body
by_call = calls 12 7 31 (stores 12 returns)

abbrev pub in_place : Body
in_place = Step (sum_line 12 31 31) (stores 12 returns)

-- ---- the pass

-- before the call, in the callee, in the callee behind its sum, and behind the call
pub data Stage : Type 0 where
  Calling : Stage
  Inside : Stage
  Summed : Stage
  Called : Stage

pub data Sum : Stage → List ℕ → List (List ℕ) → Stage → Type 0 where
  sums : Sum Inside (sum_line 10 8 31) (sum_line 12 31 31 ∷ []) Summed
  stores_sum : Sum Called (store_line 12) (store_line 12 ∷ []) Called

pub data Inline : Stage → List ℕ → Body → Stage → Stage → Type 0 where
  inlined_call : Inline Calling call_line adding.body Inside Called

pub data Give : Stage → List ℕ → Type 0 where
  gives : Give Summed give_line

abbrev pub place_edits : Edits Stage
place_edits = record {
  Turned = Sum;
  Inserted = λ g others h. ⊥;
  Carried = λ g ids ids2 front front2 h. ⊥;
  Opened = λ g front front2 h. ⊥;
  Asked = λ g condition condition2. ⊥;
  Selected = λ g selector selector2. ⊥;
  Finished = λ g words words2. Finish words words2;
  drops = record no_drops { Inlined = Inline; Resumed = Give };
  adds = no_adds;
}

-- a pointer to shared memory, and a constant of words
pub record SameBase (c : Setting) (d d2 : Data) : Type 0 where
  pub pointer : value c d 30 ≡ value c d2 30
  pub shared : IfSome (pointer_of_value (value c d 30)) (λ p. is_shared p.class ≡ true)
  pub type : DataType
  pub words : List ℕ
  pub outside : global c d.group 31 (meaning c.table 31) ≡ Some (Words type words)
  pub constant : value c d 31 ≡ Some (Words type words)
  pub constant2 : value c d2 31 ≡ Some (Words type words)

-- the caller's data
abbrev pub caller_of : Data → Data
caller_of d = record d { frames = below d.frames }

-- two values of the callee are the constant's words
pub record SameInside (c : Setting) (a d2 : Data) : Type 0 where
  pub base : SameBase c (caller_of a) d2
  pub parameter : value c a 8 ≡ Some (Words base.type base.words)
  pub constant : value c a 31 ≡ Some (Words base.type base.words)

pub record SameSum (c : Setting) (id id2 : ℕ) (in_caller : Data → Data) (a d2 : Data) : Type 0 where
  pub base : SameBase c (in_caller a) d2
  pub sum : value c a id ≡ value c d2 id2

abbrev pub SameAt : Setting → Stage → Data → Data → Type 0
SameAt c Calling d d2 = SameBase c d d2
SameAt c Inside a d2 = SameInside c a d2
SameAt c Summed a d2 = SameSum c 10 12 caller_of a d2
SameAt c Called d d2 = SameSum c 12 12 (λ e. e) d d2

pub record GivesSum (c : Setting) (v : Option Value) (a d2 : Data) : Type 0 where
  pub base : SameBase c (caller_of a) d2
  pub value_of : Value
  pub same : v ≡ Some value_of
  pub there : value c d2 12 ≡ Some value_of

abbrev pub place_in : Setting → Pass
place_in c = record {
  first = c;
  functions = functions_of by_call;
  second = c;
  functions2 = functions_of in_place;
  left_out = λ a. false;
  Same = λ a b. b ≡ a;
  Known = Stage;
  Below = Unit {0};
  edits = place_edits;
  Named = Name;
  entry = λ f. Calling;
  Related = λ z g d d2. SameAt c g d d2;
  Ends = λ z v d v2 d2. Unit {0};
  EndsInPlace = λ z v a d2. GivesSum c v a d2;
}

abbrev pub PlaceLaw : Type 0
PlaceLaw = (c : Setting) → Local (place_in c) × FunctionsAlike (place_in c)

abbrev pub PlaceKeeps : Type 0
PlaceKeeps = TreeKeeps (λ a. false) (λ a b. b ≡ a) here (functions_of by_call) 1 [] no_data here (functions_of in_place) 1 [] no_data
