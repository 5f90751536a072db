-- A small pass: a load that nobody reads goes, a copy goes and its uses take what it copied, and a selection whose condition is true goes with the arm that is
-- not taken; a selection behind it stays.
use Rattle.std.specs.Prelude.{◌≡◌, ℕ, ◌==◌, Bool, true, false, List, [], ◌∷◌, Some, IfSome}
use Rattle.spv_opcodes.specs.declared.op.TheConstants as op
use Rattle.spv_machine.specs.Places.{is_shared}
use Rattle.spv_machine.specs.Access.{Access}
use Rattle.spv_machine.specs.Setting.{Setting, setting}
use Rattle.spv_machine.specs.State.{Data, value, words_of_value, pointer_of_value}
use Rattle.spv_machine.specs.Doubling.{on}
use Rattle.spv_machine.specs.Facts.{module_of, no_data}
use Rattle.spv_bodies.specs.Bodies.{Front, Body, Step, Enters, Selects}
use Rattle.spv_bodies.specs.Listing.{instruction}
use Rattle.spv_trees.specs.Facts.{leave, front, stores, returns, functions_of}
use Rattle.spv_congruence.specs.Shape.{no_drops, no_adds, Edits}
use Rattle.spv_congruence.specs.Laws.{Pass, Local, FunctionsAlike, TreeKeeps}

-- ---- the bodies

abbrev pub load_line : List ℕ
load_line = instruction op.LOAD (20 ∷ 12 ∷ 30 ∷ [])

abbrev pub copy_line : List ℕ
copy_line = instruction op.COPY_OBJECT (20 ∷ 11 ∷ 31 ∷ [])

abbrev pub store_line : (id : ℕ) → List ℕ
store_line id = instruction op.STORE (30 ∷ id ∷ [])

abbrev pub return_line : List ℕ
return_line = instruction op.RETURN []

-- an id is stored or not
abbrev pub may_store : (id : ℕ) → Body
may_store id = Selects 0 34 (Enters 6 (stores id (leave 8 []))) (leave 8 []) (front 8 []) returns

abbrev pub before : Body
before = Step load_line (Step copy_line (Selects 0 33 (Enters 3 (stores 11 (leave 5 []))) (leave 5 []) (front 5 []) (may_store 11)))

abbrev pub after : Body
after = stores 31 (may_store 31)

-- ---- the pass: what is known is whether the copy has been made

pub data Turn : Bool → List ℕ → List (List ℕ) → Bool → Type 0 where
  load_goes : Turn false load_line [] false
  copy_goes : Turn false copy_line [] true
  store_changes : Turn true (store_line 11) (store_line 31 ∷ []) true

pub data Carry : Bool → List ℕ → List ℕ → Front → Front → Bool → Type 0 where
  carries_nothing : {known : Bool} → Carry known [] [] (front 8 []) (front 8 []) known

pub data Skip : Bool → List ℕ → Front → Bool → Type 0 where
  skips : {known : Bool} → Skip known [] (front 5 []) known

pub data Ask : ℕ → ℕ → Type 0 where
  asks_the_same : Ask 34 34

pub data Decide : ℕ → Bool → Type 0 where
  decides : Decide 33 true

pub data Finish : List ℕ → List ℕ → Type 0 where
  finishes_both : Finish return_line return_line

pub data Name : ℕ → ℕ → Type 0 where
  first_function : Name 1 1

abbrev pub edits : Edits Bool
edits = record {
  Turned = Turn;
  Inserted = λ known others known2. ⊥;
  Carried = Carry;
  Opened = λ known front front2 known2. known2 ≡ known;
  Asked = λ known condition condition2. Ask condition condition2;
  Selected = λ known selector selector2. ⊥;
  Finished = λ known words words2. Finish words words2;
  drops = record no_drops { Passed = Skip; Decided = λ known condition on. Decide condition on };
  adds = no_adds;
}

-- the values that are used are the same, and the copy has that of its source; 33 is true, and a pointer is one to shared memory
pub record Alongside (c : Setting) (known : Bool) (d d2 : Data) : Type 0 where
  pub pointer : value c d 30 ≡ value c d2 30
  pub source : value c d 31 ≡ value c d2 31
  pub condition : value c d 34 ≡ value c d2 34
  pub decided : words_of_value (value c d 33) ≡ Some (1 ∷ [])
  pub shared : IfSome (pointer_of_value (value c d 30)) (λ p. is_shared p.class ≡ true)
  pub copied : known ≡ true → value c d 11 ≡ value c d2 31

abbrev pub is_unread : Access → Bool
is_unread a = a.id == 12

abbrev pub example_in : Setting → Pass
example_in c = record {
  first = c;
  functions = functions_of before;
  second = c;
  functions2 = functions_of after;
  left_out = is_unread;
  Same = λ a b. b ≡ a;
  Known = Bool;
  Below = Unit {0};
  edits = edits;
  Named = Name;
  entry = λ f. false;
  Related = λ z known d d2. Alongside c known d d2;
  Ends = λ z v d v2 d2. Unit {0};
  EndsInPlace = λ z v d d2. ⊥;
}

abbrev pub here : Setting
here = setting (module_of []) (on (0 ∷ []))

-- in each setting the pass proves its steps, and the bodies have the shape
abbrev pub ExampleLaw : Type 0
ExampleLaw = (c : Setting) → Local (example_in c) × FunctionsAlike (example_in c)

-- so the function keeps its accesses, but for the load
abbrev pub ExampleKeeps : Type 0
ExampleKeeps = TreeKeeps is_unread (λ a b. b ≡ a) here (functions_of before) 1 [] no_data here (functions_of after) 1 [] no_data
