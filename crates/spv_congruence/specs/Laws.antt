-- The laws of passes on trees, as statements.
use Rattle.std.specs.Prelude.{◌≡◌, ℕ, ◌<◌, ◌==◌, Bool, List, [], ◌∷◌, Option, Some, None, IsSome, IfSome, IsSomeAnd}
use Rattle.interleaving.specs.Machine.{Answer}
use Rattle.interleaving.specs.Keeps.{Keeps}
use Rattle.spv_module.specs.Code.{Code}
use Rattle.spv_meaning.specs.Statements as says
use Rattle.spv_meaning.specs.Statements.{Statement, said, statements_in}
use Rattle.spv_meaning.specs.Types.{number_in}
use Rattle.spv_machine.specs.Access.{Access}
use Rattle.spv_machine.specs.Alike.{Renaming, SameAccess}
use Rattle.spv_machine.specs.Dispatch.{Dispatch}
use Rattle.spv_machine.specs.Laws as modules
use Rattle.spv_machine.specs.Setting.{Setting, entry_function}
use Rattle.spv_machine.specs.State.{Value, Data, value, values, words_of_value}
use Rattle.spv_machine.specs.Steps.{first_data}
use Rattle.spv_machine.specs.Machine.{statements, setting_of, trace_in, invocation_count}
use Rattle.spv_bodies.specs.Bodies.{Front, Body, Function}
use Rattle.spv_trees.specs.Meaning.{bound, tree}
use Rattle.spv_trees.specs.Standing.{AllStand}
use Rattle.spv_trees.specs.Laws.{trace_of_tree}
use Rattle.spv_congruence.specs.Relation.{Kept, Both, SameTruth, with_parameters, Into}
use Rattle.spv_congruence.specs.Statements.{Comparison, back_from, DoAlike}
use Rattle.spv_congruence.specs.Shape.{Edits, Shape}

-- ---- what a pass is

-- Two programs, each with what it finds and its functions; which accesses of the first may be left out, and which are alike; the edits.
pub record Pass : Type 1 where
  pub first : Setting
  pub functions : ℕ → Option Function
  pub second : Setting
  pub functions2 : ℕ → Option Function
  pub left_out : Access → Bool
  pub Same : Access → Access → Type 0
  -- what is known at a place, and of the frames below it
  pub Known : Type 0
  pub Below : Type 0
  pub edits : Edits Known
  -- the second function is made from the first; and what is known where it begins
  pub Named : (function function2 : ℕ) → Type 0
  pub entry : (function : ℕ) → Known
  -- data of both at a place, and where both return
  pub Related : Below → Known → Data → Data → Type 0
  pub Ends : Below → Option Value → Data → Option Value → Data → Type 0
  -- where only the first returns, from a callee whose body the second has in place
  pub EndsInPlace : Below → Option Value → Data → Data → Type 0

-- the data in which a function begins, where it takes these values
abbrev pub in_new_frame : Data → Option (List (ℕ × Value)) → Option Data
in_new_frame d None = None
in_new_frame d (Some entries) = Some (record d { frames = record { values = entries; variables = [] } ∷ d.frames })

abbrev pub begun : Setting → Function → List Value → Data → Option Data
begun c function vs d = in_new_frame d (bound c (statements_in function.parameters) vs [])

-- functions side by side begin in related data
abbrev pub CallsAlike : (p : Pass) → p.Below → (function : ℕ) → List Value → Data → (function2 : ℕ) → List Value → Data → Type 0
CallsAlike p y f vs d f2 vs2 d2 =
    p.Named f f2
    × Both (λ function function2. Both (p.Related y (p.entry f)) (begun p.first function vs d) (begun p.second function2 vs2 d2))
    (p.functions f) (p.functions2 f2)

abbrev pub comparison : Pass → Comparison
comparison p = record {
  first = p.first;
  second = p.second;
  left_out = p.left_out;
  Same = p.Same;
  Below = p.Below;
  Calls = CallsAlike p;
  Ends = p.Ends;
}

-- with what a function returns, if it does
abbrev pub some_value : Option Value → Option (Option Value)
some_value None = None
some_value (Some v) = Some (Some v)

abbrev pub returned : Setting → List Statement → Data → Option (Option Value)
returned c (says.Return ∷ rest) d = Some None
returned c (says.ReturnValue id ∷ rest) d = some_value (value c d id)
returned c other d = None

-- ---- what a pass proves

-- Of a call for which the second has the callee's body: where it is known that the callee begins, the data are related, and where it returns they are again.
pub record IsInlined (p : Pass) (g : p.Known) (words : List ℕ) (callee : Body) (k h : p.Known) : Type 0 where
  pub type : ℕ
  pub result_id : ℕ
  pub function : ℕ
  pub arguments : List ℕ
  pub call : said words [] ≡ says.FunctionCall type result_id function arguments ∷ []
  pub body : IfSome (p.functions function) (λ f. f.body ≡ callee)
  pub begins :
      (z : p.Below) (d d2 : Data) → p.Related z g d d2 →
      IfSome (values p.first d arguments) (λ vs.
      IfSome (p.functions function) (λ f.
      IfSome (begun p.first f vs d) (λ e.
      (y : p.Below) × p.Related y k e d2 × ((v : Option Value) (a a2 : Data) → p.EndsInPlace y v a a2 → p.Related z h (back_from result_id v a) a2))))

-- where only the first has a construct: its exits, conditions and selectors
pub record LocalDrops (p : Pass) : Type 0 where
  pub passed :
      (z : p.Below) (g h : p.Known) (ids : List ℕ) (front : Front) (d d2 : Data) → p.edits.drops.Passed g ids front h → p.Related z g d d2 →
      IfSome (values p.first d ids) (λ vs. p.Related z h (with_parameters front vs d) d2)
  pub decided :
      (z : p.Below) (g : p.Known) (condition : ℕ) (on : Bool) (d d2 : Data) → p.edits.drops.Decided g condition on → p.Related z g d d2 →
      IfSome (words_of_value (value p.first d condition)) (λ ws. (number_in ws == 1) ≡ on)
  pub chosen :
      (z : p.Below) (g : p.Known) (selector number : ℕ) (d d2 : Data) → p.edits.drops.Chosen g selector number → p.Related z g d d2 →
      IfSome (words_of_value (value p.first d selector)) (λ ws. number_in ws ≡ number)
  pub inlined : (g k h : p.Known) (words : List ℕ) (callee : Body) → p.edits.drops.Inlined g words callee k h → IsInlined p g words callee k h
  pub resumed :
      (z : p.Below) (g : p.Known) (words : List ℕ) (d d2 : Data) → p.edits.drops.Resumed g words → p.Related z g d d2 →
      IfSome (returned p.first (said words []) d) (λ v. p.EndsInPlace z v d d2)
  pub never : (z : p.Below) (g : p.Known) (d d2 : Data) → p.edits.drops.Never g → p.Related z g d d2 → ⊥

-- where only the second has a construct: its conditions and selectors have a value, and so have its exits where the first is before a return
pub record LocalAdds (p : Pass) : Type 0 where
  pub decided2 :
      (z : p.Below) (g : p.Known) (condition2 : ℕ) (on : Bool) (d d2 : Data) → p.edits.adds.Decided2 g condition2 on → p.Related z g d d2 →
      IsSomeAnd (words_of_value (value p.second d2 condition2)) (λ ws. (number_in ws == 1) ≡ on)
  pub chosen2 :
      (z : p.Below) (g : p.Known) (selector2 number : ℕ) (d d2 : Data) → p.edits.adds.Chosen2 g selector2 number → p.Related z g d d2 →
      IsSomeAnd (words_of_value (value p.second d2 selector2)) (λ ws. number_in ws ≡ number)
  pub carried2 :
      (z : p.Below) (g h : p.Known) (words ids2 : List ℕ) (front2 : Front) (d d2 : Data) → p.edits.adds.Carried2 g words ids2 front2 h → p.Related z g d d2 →
      IsSomeAnd (values p.second d2 ids2) (λ vs2. p.Related z h d (with_parameters front2 vs2 d2))

-- one instruction, exit, condition, selector and return at a time, where the data are related
pub record Local (p : Pass) : Type 0 where
  pub turned :
      (z : p.Below) (g h : p.Known) (words : List ℕ) (others : List (List ℕ)) (d d2 : Data) → p.edits.Turned g words others h → p.Related z g d d2 →
      DoAlike (comparison p) (p.Related z h) (said words []) d (statements_in others) d2
  pub inserted :
      (z : p.Below) (g h : p.Known) (others : List (List ℕ)) (d d2 : Data) → p.edits.Inserted g others h → p.Related z g d d2 →
      DoAlike (comparison p) (p.Related z h) [] d (statements_in others) d2
  pub carried :
      (z : p.Below) (g h : p.Known) (ids ids2 : List ℕ) (front front2 : Front) (d d2 : Data) → p.edits.Carried g ids ids2 front front2 h → p.Related z g d d2 →
      Both (λ vs vs2. Into front front2 (p.Related z h) vs d vs2 d2) (values p.first d ids) (values p.second d2 ids2)
  pub asked :
      (z : p.Below) (g : p.Known) (condition condition2 : ℕ) (d d2 : Data) → p.edits.Asked g condition condition2 → p.Related z g d d2 →
      Both SameTruth (words_of_value (value p.first d condition)) (words_of_value (value p.second d2 condition2))
  pub selected :
      (z : p.Below) (g : p.Known) (selector selector2 : ℕ) (d d2 : Data) → p.edits.Selected g selector selector2 → p.Related z g d d2 →
      Both (λ ws ws2. number_in ws ≡ number_in ws2) (words_of_value (value p.first d selector)) (words_of_value (value p.second d2 selector2))
  pub finished :
      (z : p.Below) (g : p.Known) (words words2 : List ℕ) (d d2 : Data) → p.edits.Finished g words words2 → p.Related z g d d2 →
      Both (λ v v2. p.Ends z v d v2 d2) (returned p.first (said words []) d) (returned p.second (said words2 []) d2)
  pub drops : LocalDrops p
  pub adds : LocalAdds p

-- functions side by side have the shape
abbrev pub FunctionsAlike : Pass → Type 0
FunctionsAlike p =
    (f f2 : ℕ) → p.Named f f2 →
    Both (λ (function function2 : Function). Shape p.edits None [] (p.entry f) function.body function2.body) (p.functions f) (p.functions2 f2)

-- ---- the laws

-- within the same bounds the second function keeps the accesses of the first
abbrev pub TreeKeeps :
    (left_out : Access → Bool) → (Same : Access → Access → Type 0) →
    Setting → (ℕ → Option Function) → (function : ℕ) → List Value → Data → Setting → (ℕ → Option Function) → (function2 : ℕ) → List Value → Data → Type 0
TreeKeeps left_out Same c functions f vs d c2 functions2 f2 vs2 d2 =
    (calls turns : ℕ) (xs : List Answer) →
    Kept left_out Same (trace_of_tree (tree c functions calls turns f vs d xs)) (λ ys. trace_of_tree (tree c2 functions2 calls turns f2 vs2 d2 ys)) xs

-- THE CONGRUENCE: from the pass's steps and the shape of its functions, what the functions do
abbrev pub CongruenceLaw : Pass → Type 0
CongruenceLaw p =
    Local p → FunctionsAlike p →
    (z : p.Below) (f f2 : ℕ) (vs vs2 : List Value) (d d2 : Data) → CallsAlike p z f vs d f2 vs2 d2 →
    TreeKeeps p.left_out p.Same p.first p.functions f vs d p.second p.functions2 f2 vs2 d2

-- what the trees of two entry points keep, their invocations keep
abbrev pub MachineLaw : Pass → Type 0
MachineLaw p =
    AllStand p.first.all p.functions → AllStand p.second.all p.functions2 →
    (f f2 : ℕ) → p.first.function ≡ Some f → IsSome (p.functions f) → p.second.function ≡ Some f2 → IsSome (p.functions2 f2) →
    (i : ℕ) →
    TreeKeeps p.left_out p.Same p.first p.functions f [] (first_data p.first i) p.second p.functions2 f2 [] (first_data p.second i) →
    Keeps p.left_out p.Same (trace_in p.first i) (trace_in p.second i)

-- So modules: what the trees of their entry points keep under two dispatches, the modules keep, as the law over schedules asks.
abbrev pub ModulesLaw : Type 0
ModulesLaw =
    (m m2 : Code) (d d2 : Dispatch) (left_out : Access → Bool) (r : Renaming) (functions functions2 : ℕ → Option Function) (f f2 : ℕ) →
    AllStand (statements m) functions → AllStand (statements m2) functions2 →
    entry_function (statements m) d.entry ≡ Some f → IsSome (functions f) → entry_function (statements m2) d2.entry ≡ Some f2 → IsSome (functions2 f2) →
    let c : Setting = setting_of m d in
    let c2 : Setting = setting_of m2 d2 in
    ((i : ℕ) → i < invocation_count m d → TreeKeeps left_out (SameAccess r) c functions f [] (first_data c i) c2 functions2 f2 [] (first_data c2 i)) →
    modules.Keeps m d m2 d2 left_out r
