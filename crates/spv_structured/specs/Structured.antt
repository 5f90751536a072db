-- Trees whose functions, as they are listed, break no rule on structured control flow.
use Rattle.std.specs.Prelude.{◌≡◌, ◌≢◌, ◌==◌, ℕ, Bool, true, false, not, cond, List, [], ◌∷◌, length, map}
use Rattle.std.specs.List.{list_all, AllByRecursion}
use Rattle.spv_opcodes.specs.declared.op.TheConstants as op
use Rattle.spv_blocks.specs.Blocks.{End, Branch, BranchIf, Switch, Return, Unreachable, Open, end_targets, has}
use Rattle.spv_walk.specs.Contexts.{Context, InSelection, InArm, InBody, InNext, is_exit, in_next}
use Rattle.spv_walk.specs.Faults.{same_twice}
use Rattle.spv_walk.specs.Phis.{names_each_once}
use Rattle.spv_bodies.specs.Bodies.{Body, Leaves, Finishes, Step, Enters, Splits, Selects, Switches, Loops, Front, Parameter, ByBranch, InPlace, Arms, Last, Also, Function, target}
use Rattle.spv_bodies.specs.Listing.{Branching, branches, arriving, in_order, first_target}
use Rattle.spv_tree.specs.Branches.{branches_in}
use Rattle.spv_tree.specs.Sound.{opcode_in, targets}

-- the terminator of OpReturn, OpReturnValue or OpUnreachable
abbrev pub finish : List ℕ → End
finish words = cond (opcode_in words == op.UNREACHABLE) Unreachable Return

-- the terminator of the block that a body begins in; behind a loop's header in place it is that of the header's block
abbrev pub first_end : Body → End
first_end (Leaves exit) = Branch exit.target
first_end (Finishes words) = finish words
first_end (Step words body) = first_end body
first_end (Enters label body) = Branch label
first_end (Splits condition on exit body) = BranchIf (cond on exit.target (target body)) (cond on (target body) exit.target)
first_end (Selects control condition first second merge rest) = BranchIf (target first) (target second)
first_end (Switches control selector cases arms merge rest) = Switch (first_target arms) cases
first_end (Loops (ByBranch values) header control inner next continuing merge rest) = Branch header.label
first_end (Loops InPlace header control inner next continuing merge rest) = first_end inner

-- behind an OpLoopMerge, exactly one target of an OpBranchConditional is the merge block (410)
abbrev pub parts_header : End → (merge : ℕ) → Bool
parts_header (Branch t) m = true
parts_header (BranchIf a b) m = cond (a == m) (not (b == m)) (b == m)
parts_header (Switch d cases) m = false
parts_header Return m = false
parts_header Unreachable m = false
parts_header Open m = false

-- A body from a point in the block l on, which ends with the terminator e, in the context c: each exit is one there (402, 404, 407), the two targets of an
-- OpBranchConditional differ (408), no literal of an OpSwitch stands twice (402), nothing returns in a continue part (405), and that ends in one back edge (405).
abbrev mutual
  pub Flows : Context → (l : ℕ) → End → Body → Type 0
  Flows c l e (Leaves exit) = is_exit c e exit.target ≡ true
  Flows c l e (Finishes words) = in_next c ≡ false
  Flows c l e (Step words body) = Flows c l e body
  Flows c l e (Enters label body) = Flows c label (first_end body) body
  Flows c l e (Splits condition on exit body) = (is_exit c e exit.target ≡ true) × (exit.target ≢ target body) × Flows c l e body
  Flows c l e (Selects control condition first second merge rest) =
      (target first ≢ target second)
      × Flows (InSelection merge.label ∷ c) l e first
      × Flows (InSelection merge.label ∷ c) l e second
      × Flows c merge.label (first_end rest) rest
  Flows c l e (Switches control selector cases arms merge rest) =
      (same_twice cases ≡ false) × ArmsFlow c l merge.label e arms × Flows c merge.label (first_end rest) rest
  Flows c l e (Loops entry header control inner next continuing merge rest) =
      (parts_header (first_end inner) merge.label ≡ true)
      × Flows (InBody header.label merge.label next.label ∷ c) header.label (first_end inner) inner
      × Flows (InNext header.label merge.label ∷ c) next.label (first_end continuing) continuing
      × (length (arriving header.label (branches next.label continuing)) ≡ 1)
      × Flows c merge.label (first_end rest) rest

  -- the arms of the switch of the block l
  pub ArmsFlow : Context → (l merge : ℕ) → End → Arms → Type 0
  ArmsFlow c l m e (Last arm) = Flows (InArm l m (target arm) ∷ c) l e arm
  ArmsFlow c l m e (Also arm arms) = Flows (InArm l m (target arm) ∷ c) l e arm × ArmsFlow c l m e arms

-- 406: a parameter of a block to which these branches come is of no type that is a pointer, and its OpPhi names each block that branches there once, and no other
pub record ParameterFits (is_pointer : ℕ → Bool) (here : List Branching) (p : Parameter) : Type 0 where
  pub value : is_pointer p.type ≡ false
  pub named : names_each_once (map (λ b. b.0) here) (map (λ b. b.0) (in_order p.parents here)) ≡ true

abbrev pub FrontFits : (is_pointer : ℕ → Bool) → List Branching → Front → Type 0
FrontFits is_pointer all front = AllByRecursion (ParameterFits is_pointer (arriving front.label all)) front.parameters

-- each front of the tree, among all branches of the function
abbrev mutual
  pub ParametersFit : (is_pointer : ℕ → Bool) → List Branching → Body → Type 0
  ParametersFit is_pointer all (Leaves exit) = Unit {0}
  ParametersFit is_pointer all (Finishes words) = Unit {0}
  ParametersFit is_pointer all (Step words body) = ParametersFit is_pointer all body
  ParametersFit is_pointer all (Enters label body) = ParametersFit is_pointer all body
  ParametersFit is_pointer all (Splits condition on exit body) = ParametersFit is_pointer all body
  ParametersFit is_pointer all (Selects control condition first second merge rest) =
      FrontFits is_pointer all merge × ParametersFit is_pointer all first × ParametersFit is_pointer all second × ParametersFit is_pointer all rest
  ParametersFit is_pointer all (Switches control selector cases arms merge rest) =
      FrontFits is_pointer all merge × ArmsFit is_pointer all arms × ParametersFit is_pointer all rest
  ParametersFit is_pointer all (Loops entry header control inner next continuing merge rest) =
      FrontFits is_pointer all header × FrontFits is_pointer all next × FrontFits is_pointer all merge
      × ParametersFit is_pointer all inner × ParametersFit is_pointer all continuing × ParametersFit is_pointer all rest

  pub ArmsFit : (is_pointer : ℕ → Bool) → List Branching → Arms → Type 0
  ArmsFit is_pointer all (Last arm) = ParametersFit is_pointer all arm
  ArmsFit is_pointer all (Also arm arms) = ParametersFit is_pointer all arm × ArmsFit is_pointer all arms

-- each arm of a switch is named by its OpSwitch: as the default or by a case (402 at an arm that is never entered, 406 behind one that only leaves)
abbrev pub are_named : Arms → (cases : List (ℕ × ℕ)) → Bool
are_named arms cases = list_all (has (end_targets (Switch (first_target arms) cases))) (targets arms)

abbrev mutual
  pub NamesArms : Body → Type 0
  NamesArms (Leaves exit) = Unit {0}
  NamesArms (Finishes words) = Unit {0}
  NamesArms (Step words body) = NamesArms body
  NamesArms (Enters label body) = NamesArms body
  NamesArms (Splits condition on exit body) = NamesArms body
  NamesArms (Selects control condition first second merge rest) = NamesArms first × NamesArms second × NamesArms rest
  NamesArms (Switches control selector cases arms merge rest) = (are_named arms cases ≡ true) × NamesInArms arms × NamesArms rest
  NamesArms (Loops entry header control inner next continuing merge rest) = NamesArms inner × NamesArms continuing × NamesArms rest

  pub NamesInArms : Arms → Type 0
  NamesInArms (Last arm) = NamesArms arm
  NamesInArms (Also arm arms) = NamesArms arm × NamesInArms arms

-- a function whose types that are pointers are told
pub record IsStructured (is_pointer : ℕ → Bool) (f : Function) : Type 0 where
  pub flows : Flows [] f.label (first_end f.body) f.body
  pub parameters : ParametersFit is_pointer (branches_in f) f.body
  pub arms : NamesArms f.body
