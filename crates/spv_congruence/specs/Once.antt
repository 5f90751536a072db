-- A small pass that makes a function return once: the return in an arm becomes an exit with a flag, and what is behind the merge block goes into a selection by
-- this flag.
use Rattle.std.specs.Prelude.{◌≡◌, ℕ, Bool, true, false, List, [], ◌∷◌, Option, Some, None, IfSome}
use Rattle.spv_machine.specs.Places.{is_shared}
use Rattle.spv_machine.specs.Setting.{Setting}
use Rattle.spv_machine.specs.State.{Data, value, words_of_value, pointer_of_value}
use Rattle.spv_machine.specs.Facts.{no_data}
use Rattle.spv_bodies.specs.Bodies.{Front, Body, Enters, Selects}
use Rattle.spv_trees.specs.Facts.{parameter, leave, front, stores, returns, functions_of}
use Rattle.spv_congruence.specs.Shape.{no_drops, Edits}
use Rattle.spv_congruence.specs.Laws.{Pass, Local, FunctionsAlike, TreeKeeps}
use Rattle.spv_congruence.specs.Example.{store_line, return_line, Finish, Ask, Name, here}

-- ---- the bodies: 33 is true and 34 is false

abbrev pub twice : Body
twice = Selects 0 34 (Enters 3 returns) (leave 5 []) (front 5 []) (stores 31 returns)

abbrev pub flagged : Front
flagged = front 5 (parameter 10 ∷ [])

abbrev pub by_flag : Body
by_flag = Selects 0 10 (leave 6 []) (Enters 7 (stores 31 (leave 6 []))) (front 6 []) returns

abbrev pub once : Body
once = Selects 0 34 (Enters 3 (leave 5 (33 ∷ []))) (leave 5 (34 ∷ [])) flagged by_flag

-- ---- the pass: what is known is the flag, where there is one

pub data Keep : List ℕ → List (List ℕ) → Type 0 where
  store_stays : Keep (store_line 31) (store_line 31 ∷ [])

pub data Flag : Option ℕ → List ℕ → List ℕ → Front → Front → Option ℕ → Type 0 where
  goes_on : Flag None [] (34 ∷ []) (front 5 []) flagged (Some 0)

pub data FlagAlone : Option ℕ → List ℕ → List ℕ → Front → Option ℕ → Type 0 where
  returns_early : FlagAlone None return_line (33 ∷ []) flagged (Some 1)
  goes_to_the_end : {known : Option ℕ} → FlagAlone known return_line [] (front 6 []) known

pub data ByFlag : Option ℕ → ℕ → Bool → Type 0 where
  has_returned : ByFlag (Some 1) 10 true
  has_not : ByFlag (Some 0) 10 false

abbrev pub once_edits : Edits (Option ℕ)
once_edits = record {
  Turned = λ known words others known2. Keep words others × (known2 ≡ known);
  Inserted = λ known others known2. ⊥;
  Carried = Flag;
  Opened = λ known front front2 known2. Unit {0};
  Asked = λ known condition condition2. Ask condition condition2;
  Selected = λ known selector selector2. ⊥;
  Finished = λ known words words2. Finish words words2;
  drops = no_drops;
  adds = record { Decided2 = ByFlag; Chosen2 = λ known selector2 number. ⊥; Carried2 = FlagAlone };
}

pub record SameButFlag (c : Setting) (known : Option ℕ) (d d2 : Data) : Type 0 where
  pub pointer : value c d 30 ≡ value c d2 30
  pub source : value c d 31 ≡ value c d2 31
  pub condition : value c d 34 ≡ value c d2 34
  pub holds : words_of_value (value c d2 33) ≡ Some (1 ∷ [])
  pub fails : words_of_value (value c d2 34) ≡ Some (0 ∷ [])
  pub shared : IfSome (pointer_of_value (value c d 30)) (λ p. is_shared p.class ≡ true)
  pub flag : IfSome known (λ word. words_of_value (value c d2 10) ≡ Some (word ∷ []))

abbrev pub once_in : Setting → Pass
once_in c = record {
  first = c;
  functions = functions_of twice;
  second = c;
  functions2 = functions_of once;
  left_out = λ a. false;
  Same = λ a b. b ≡ a;
  Known = Option ℕ;
  Below = Unit {0};
  edits = once_edits;
  Named = Name;
  entry = λ f. None;
  Related = λ z known d d2. SameButFlag c known d d2;
  Ends = λ z v d v2 d2. Unit {0};
  EndsInPlace = λ z v d d2. ⊥;
}

abbrev pub OnceLaw : Type 0
OnceLaw = (c : Setting) → Local (once_in c) × FunctionsAlike (once_in c)

abbrev pub OnceKeeps : Type 0
OnceKeeps = TreeKeeps (λ a. false) (λ a b. b ≡ a) here (functions_of twice) 1 [] no_data here (functions_of once) 1 [] no_data
