-- Edits that are the same at each place: other ids in place of those that are used, and for each instruction some others.
use Rattle.std.specs.Prelude.{◌≡◌, ℕ, true, List, map, Option, None}
use Rattle.spv_bodies.specs.Bodies as bodies
use Rattle.spv_bodies.specs.Bodies.{Exit, Parameter, Front, ByBranch, InPlace, Arms, Last, Also, Function, begins_at_branch}
use Rattle.spv_bodies.specs.Bodies.{Body, Leaves, Finishes, Step, Enters, Splits, Selects, Switches, Loops}
use Rattle.spv_trees.specs.Standing.{IsClosed}
use Rattle.spv_congruence.specs.Shape.{steps, no_drops, no_adds, Edits, Target, Joins, Shape}

-- what becomes of an id that is used, of an instruction and of a return
pub record Uniform : Type 0 where
  pub uses : ℕ → ℕ
  pub op : List ℕ → List (List ℕ)
  pub end : List ℕ → List ℕ

abbrev pub edited_exit : Uniform → Exit → Exit
edited_exit u exit = record { target = exit.target; values = map u.uses exit.values }

-- the types of parameters are ids too
abbrev pub edited_parameter : Uniform → Parameter → Parameter
edited_parameter u p = record { type = u.uses p.type; result_id = p.result_id; parents = p.parents }

abbrev pub edited_front : Uniform → Front → Front
edited_front u front = record { label = front.label; parameters = map (edited_parameter u) front.parameters }

abbrev pub edited_entry : Uniform → bodies.Entry → bodies.Entry
edited_entry u (ByBranch ids) = ByBranch (map u.uses ids)
edited_entry u InPlace = InPlace

abbrev mutual
  pub edited : Uniform → Body → Body
  edited u (Leaves exit) = Leaves (edited_exit u exit)
  edited u (Finishes words) = Finishes (u.end words)
  edited u (Step words body) = steps (u.op words) (edited u body)
  edited u (Enters label body) = Enters label (edited u body)
  edited u (Splits condition on exit body) = Splits (u.uses condition) on (edited_exit u exit) (edited u body)
  edited u (Selects control condition first second merge rest) =
      Selects control (u.uses condition) (edited u first) (edited u second) (edited_front u merge) (edited u rest)
  edited u (Switches control selector cases arms merge rest) =
      Switches control (u.uses selector) cases (edited_arms u arms) (edited_front u merge) (edited u rest)
  edited u (Loops entry header control inner next continuing merge rest) =
      Loops (edited_entry u entry) (edited_front u header) control (edited u inner) (edited_front u next) (edited u continuing) (edited_front u merge)
      (edited u rest)

  pub edited_arms : Uniform → Arms → Arms
  edited_arms u (Last arm) = Last (edited u arm)
  edited_arms u (Also arm arms) = Also (edited u arm) (edited_arms u arms)

-- The edits, on instructions and returns that are of a kind; nothing is known of a place.
abbrev pub uniform_edits : Uniform → (Fits : List ℕ → Type 0) → Edits (Unit {0})
uniform_edits u Fits = record {
  Turned = λ g words others h. (others ≡ u.op words) × Fits words;
  Inserted = λ g others h. ⊥;
  Carried = λ g ids ids2 front front2 h. (ids2 ≡ map u.uses ids) × (front2 ≡ edited_front u front);
  Opened = λ g front front2 h. front2 ≡ edited_front u front;
  Asked = λ g condition condition2. condition2 ≡ u.uses condition;
  Selected = λ g selector selector2. selector2 ≡ u.uses selector;
  Finished = λ g words words2. (words2 ≡ u.end words) × Fits words;
  drops = no_drops;
  adds = no_adds;
}

-- all instructions and returns of a body are of the kind, and each arm of a switch begins at a branch
abbrev mutual
  pub AllFit : (Fits : List ℕ → Type 0) → Body → Type 0
  AllFit Fits (Leaves exit) = Unit {0}
  AllFit Fits (Finishes words) = Fits words
  AllFit Fits (Step words body) = Fits words × AllFit Fits body
  AllFit Fits (Enters label body) = AllFit Fits body
  AllFit Fits (Splits condition on exit body) = AllFit Fits body
  AllFit Fits (Selects control condition first second merge rest) = AllFit Fits first × AllFit Fits second × AllFit Fits rest
  AllFit Fits (Switches control selector cases arms merge rest) = ArmsFit Fits arms × AllFit Fits rest
  AllFit Fits (Loops entry header control inner next continuing merge rest) = AllFit Fits inner × AllFit Fits continuing × AllFit Fits rest

  pub ArmsFit : (Fits : List ℕ → Type 0) → Arms → Type 0
  ArmsFit Fits (Last arm) = AllFit Fits arm × (begins_at_branch arm ≡ true)
  ArmsFit Fits (Also arm arms) = AllFit Fits arm × (begins_at_branch arm ≡ true) × ArmsFit Fits arms

-- a front, and what the second has behind it
abbrev pub edited_target : Uniform → Front × Option Body → Target (Unit {0})
edited_target u t = Joins t.0 (edited_front u t.0) tt t.1

-- a body whose exits are to these fronts or to a construct round them has the shape of its edited one
pub record Edited : Type 1 where
  pub uniform : Uniform
  pub Fits : List ℕ → Type 0

abbrev pub UniformLaw : Edited → Type 0
UniformLaw e =
    (functions : ℕ → Option Function) (fronts : List (Front × Option Body)) (body : Body) →
    IsClosed functions (map (λ t. t.0.label) fronts) body → AllFit e.Fits body →
    Shape (uniform_edits e.uniform e.Fits) None (map (edited_target e.uniform) fronts) tt body (edited e.uniform body)
