-- Trees of functions that are typed: the rules on the instructions of functions but for availability (501, 502 and 504 to 507), by recursion on the tree, in a
-- module whose instructions tell the types of ids.
use Rattle.std.specs.Prelude.{◌≡◌, ℕ, true, List, [], ◌∷◌, slice_index, None}
use Rattle.std.specs.List.{AllByRecursion}
use Rattle.spv_module.specs.Instruction.{Instruction}
use Rattle.spv_typing.specs.Kinds.{is_closed}
use Rattle.spv_values.specs.Values.{is_bools, is_ints, is_value_of}
use Rattle.spv_arithmetic.specs.Broken.{arithmetic_rules}
use Rattle.spv_composites.specs.Broken.{composite_rules}
use Rattle.spv_usage.specs.Orderings.{ordering_fits}
use Rattle.spv_usage.specs.declared.stages.Stage.{Stage}
use Rattle.spv_usage.specs.declared.stages.Stage.TheVariants.{Further, Opening}
use Rattle.spv_usage.specs.Stages.{stage_behind}
use Rattle.spv_usage.specs.Storage.{storage_fits}
use Rattle.spv_signatures.specs.Calls.{call_fits}
use Rattle.spv_signatures.specs.Contexts.{result_fits, return_fits}
use Rattle.spv_signatures.specs.Functions.{function_fits, parameter_types}
use Rattle.spv_bodies.specs.Bodies.{Parameter, Exit, Front, Entry, ByBranch, InPlace, Body, Leaves, Finishes, Step, Enters, Splits, Selects, Switches, Loops, Arms, Last, Also, Function}
use Rattle.spv_trees.specs.Standing.{OneOf}

abbrev pub as_instruction : List ℕ → Instruction
as_instruction words = record { offset = 0; words = words }

-- each OpFunctionParameter is of the type at its place
abbrev pub TakeTypes : (types : List ℕ) → (parameters : List (List ℕ)) → Type 0
TakeTypes types [] = Unit {0}
TakeTypes [] (words ∷ parameters) = ⊥
TakeTypes (type ∷ types) (words ∷ parameters) = (slice_index words 1 ≡ type) × TakeTypes types parameters

module _ (insts : List Instruction) where
  -- ---- single lines

  -- an instruction in a block that is no OpPhi, no merge instruction and no terminator, at a stage of its function: at the head of the first block, or further
  pub record StepFits (stage : Stage) (words : List ℕ) : Type 0 where
    pub arithmetic : arithmetic_rules insts (as_instruction words) ≡ []
    pub composites : composite_rules insts (as_instruction words) ≡ []
    pub storage : storage_fits insts stage (as_instruction words) ≡ true
    pub ordering : ordering_fits insts (as_instruction words) ≡ true
    pub result : result_fits insts None (as_instruction words) ≡ true
    pub call : call_fits insts (as_instruction words) ≡ true

  -- ---- values that are carried

  -- a value of its type for each parameter
  abbrev pub Carries : List Parameter → (values : List ℕ) → Type 0
  Carries [] values = Unit {0}
  Carries (p ∷ ps) [] = ⊥
  Carries (p ∷ ps) (value ∷ values) = (is_value_of insts p.type value ≡ true) × Carries ps values

  -- an exit goes to one of these fronts and carries to it values of its types
  pub record Sends (fronts : List Front) (exit : Exit) : Type 0 where
    pub front : Front
    pub in_scope : OneOf front fronts
    pub there : exit.target ≡ front.label
    pub carries : Carries front.parameters exit.values

  -- what is carried into a loop
  abbrev pub Begins : (header : Front) → Entry → Type 0
  Begins header (ByBranch values) = Carries header.parameters values
  Begins header InPlace = Unit {0}

  -- each parameter is of a type of which there are values
  abbrev pub HasTypes : Front → Type 0
  HasTypes front = AllByRecursion (λ p. is_closed insts p.type ≡ true) front.parameters

  -- ---- bodies

  -- in a function of a result type; the fronts in scope are those of the constructs round the point; a stage
  module _ (result_type : ℕ) where
    abbrev mutual
      pub Typed : (fronts : List Front) → Stage → Body → Type 0
      Typed fronts stage (Leaves exit) = Sends fronts exit
      Typed fronts stage (Finishes words) = return_fits insts result_type (as_instruction words) ≡ true
      Typed fronts stage (Step words body) = StepFits stage words × Typed fronts (stage_behind stage (as_instruction words)) body
      Typed fronts stage (Enters label body) = Typed fronts Further body
      Typed fronts stage (Splits condition on exit body) = (is_bools insts 1 condition ≡ true) × Sends fronts exit × Typed fronts Further body
      Typed fronts stage (Selects control condition first second merge rest) =
          (is_bools insts 1 condition ≡ true) × HasTypes merge
          × Typed (merge ∷ fronts) Further first × Typed (merge ∷ fronts) Further second × Typed fronts Further rest
      Typed fronts stage (Switches control selector cases arms merge rest) =
          (is_ints insts 1 selector ≡ true) × HasTypes merge × ArmsTyped (merge ∷ fronts) arms × Typed fronts Further rest
      Typed fronts stage (Loops entry header control inner next continuing merge rest) =
          Begins header entry × HasTypes header × HasTypes next × HasTypes merge
          × Typed (next ∷ merge ∷ fronts) Further inner × Typed (header ∷ merge ∷ fronts) Further continuing × Typed fronts Further rest

      pub ArmsTyped : (fronts : List Front) → Arms → Type 0
      ArmsTyped fronts (Last arm) = Typed fronts Further arm
      ArmsTyped fronts (Also arm arms) = Typed fronts Further arm × ArmsTyped fronts arms

  -- ---- functions

  -- the function type of an OpFunction stands behind its control, and its result type in front
  pub record IsTyped (f : Function) : Type 0 where
    pub function : function_fits insts (as_instruction f.function) ≡ true
    pub result : result_fits insts None (as_instruction f.function) ≡ true
    pub parameters : TakeTypes (parameter_types insts (slice_index f.function 4)) f.parameters
    pub body : Typed (slice_index f.function 1) [] Opening f.body
