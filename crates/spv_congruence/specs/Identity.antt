-- The pass that changes nothing: each body has the shape of itself.
use Rattle.std.specs.Prelude.{◌≡◌, ℕ, false, List, [], ◌∷◌, map, Option, Some, None}
use Rattle.spv_machine.specs.Setting.{Setting}
use Rattle.spv_bodies.specs.Bodies.{Front, Body, Function}
use Rattle.spv_trees.specs.Standing.{IsClosed}
use Rattle.spv_congruence.specs.Shape.{no_drops, no_adds, Edits, Target, Joins, Shape}
use Rattle.spv_congruence.specs.Laws.{Pass, Local, FunctionsAlike}

abbrev pub no_edits : Edits (Unit {0})
no_edits = record {
  Turned = λ g words others h. others ≡ words ∷ [];
  Inserted = λ g others h. ⊥;
  Carried = λ g ids ids2 front front2 h. (ids2 ≡ ids) × (front2 ≡ front);
  Opened = λ g front front2 h. front2 ≡ front;
  Asked = λ g condition condition2. condition2 ≡ condition;
  Selected = λ g selector selector2. selector2 ≡ selector;
  Finished = λ g words words2. words2 ≡ words;
  drops = no_drops;
  adds = no_adds;
}

abbrev pub unchanged : Setting → (ℕ → Option Function) → Pass
unchanged c functions = record {
  first = c;
  functions = functions;
  second = c;
  functions2 = functions;
  left_out = λ a. false;
  Same = λ a b. b ≡ a;
  Known = Unit {0};
  Below = Unit {0};
  edits = no_edits;
  Named = λ f f2. f2 ≡ f;
  entry = λ f. tt;
  Related = λ z g d d2. d2 ≡ d;
  Ends = λ z v d v2 d2. (v2 ≡ v) × (d2 ≡ d);
  EndsInPlace = λ z v d d2. ⊥;
}

-- a front, and what is behind it
abbrev pub same_target : Front × Option Body → Target (Unit {0})
same_target t = Joins t.0 t.0 tt t.1

-- where each exit is to one of these fronts or to a construct round it
abbrev pub SameShapeLaw : Type 0
SameShapeLaw =
    (functions : ℕ → Option Function) (fronts : List (Front × Option Body)) (body : Body) →
    IsClosed functions (map (λ t. t.0.label) fronts) body → Shape no_edits None (map same_target fronts) tt body body

-- so the pass proves its steps, and its functions have the shape
abbrev pub IdentityLaw : Type 0
IdentityLaw =
    (c : Setting) (functions : ℕ → Option Function) →
    ((f : ℕ) (function : Function) → functions f ≡ Some function → IsClosed functions [] function.body) →
    Local (unchanged c functions) × FunctionsAlike (unchanged c functions)
