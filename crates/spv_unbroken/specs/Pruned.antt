-- Arms of switches that no case names, and bodies without them.
use Rattle.std.specs.Prelude.{◌≡◌, ℕ, Bool, true, false, not, cond, List, [], ◌∷◌, filter, Option, option_map}
use Rattle.std.specs.List.{AllByRecursion}
use Rattle.spv_blocks.specs.Blocks.{has, seconds}
use Rattle.spv_bodies.specs.Bodies.{Body, Leaves, Finishes, Step, Enters, Splits, Selects, Switches, Loops, Arms, Last, Also, Function, target}

-- ---- arms that no case names

abbrev pub is_named : (cases : List (ℕ × ℕ)) → Body → Bool
is_named cases arm = has (seconds cases) (target arm)

abbrev pub arm_list : Arms → List Body
arm_list (Last arm) = arm ∷ []
arm_list (Also arm arms) = arm ∷ arm_list arms

-- the first arm is the default's
abbrev pub behind_default : Arms → List Body
behind_default (Last arm) = []
behind_default (Also arm arms) = arm_list arms

abbrev pub unseen : (cases : List (ℕ × ℕ)) → Arms → List Body
unseen cases arms = filter (λ arm. not (is_named cases arm)) (behind_default arms)

-- this holds of each of them, in all switches of a body
abbrev mutual
  pub EachUnseen : (Body → Type 0) → Body → Type 0
  EachUnseen P (Leaves exit) = Unit {0}
  EachUnseen P (Finishes words) = Unit {0}
  EachUnseen P (Step words body) = EachUnseen P body
  EachUnseen P (Enters label body) = EachUnseen P body
  EachUnseen P (Splits condition on exit body) = EachUnseen P body
  EachUnseen P (Selects control condition first second merge rest) = EachUnseen P first × EachUnseen P second × EachUnseen P rest
  EachUnseen P (Switches control selector cases arms merge rest) = AllByRecursion P (unseen cases arms) × EachUnseenIn P arms × EachUnseen P rest
  EachUnseen P (Loops entry header control inner next continuing merge rest) = EachUnseen P inner × EachUnseen P continuing × EachUnseen P rest

  pub EachUnseenIn : (Body → Type 0) → Arms → Type 0
  EachUnseenIn P (Last arm) = EachUnseen P arm
  EachUnseenIn P (Also arm arms) = EachUnseen P arm × EachUnseenIn P arms

abbrev pub is_loop : Body → Bool
is_loop (Loops entry header control inner next continuing merge rest) = true
is_loop other = false

-- an arm that is a loop is the default's, or a case names it
abbrev pub NamesLoops : Body → Type 0
NamesLoops body = EachUnseen (λ arm. is_loop arm ≡ false) body

-- ---- without them

-- the first, and of the others those that a case names
abbrev pub with_named : (cases : List (ℕ × ℕ)) → (first : Body) → (others : Arms) → Arms
with_named cases first (Last arm) = cond (is_named cases arm) (Also first (Last arm)) (Last first)
with_named cases first (Also arm arms) = cond (is_named cases arm) (Also first (with_named cases arm arms)) (with_named cases first arms)

abbrev pub named_arms : (cases : List (ℕ × ℕ)) → Arms → Arms
named_arms cases (Last arm) = Last arm
named_arms cases (Also arm arms) = with_named cases arm arms

-- in all switches of a body
abbrev mutual
  pub pruned : Body → Body
  pruned (Leaves exit) = Leaves exit
  pruned (Finishes words) = Finishes words
  pruned (Step words body) = Step words (pruned body)
  pruned (Enters label body) = Enters label (pruned body)
  pruned (Splits condition on exit body) = Splits condition on exit (pruned body)
  pruned (Selects control condition first second merge rest) = Selects control condition (pruned first) (pruned second) merge (pruned rest)
  pruned (Switches control selector cases arms merge rest) = Switches control selector cases (named_arms cases (pruned_arms arms)) merge (pruned rest)
  pruned (Loops entry header control inner next continuing merge rest) =
      Loops entry header control (pruned inner) next (pruned continuing) merge (pruned rest)

  pub pruned_arms : Arms → Arms
  pruned_arms (Last arm) = Last (pruned arm)
  pruned_arms (Also arm arms) = Also (pruned arm) (pruned_arms arms)

abbrev pub pruned_function : Function → Function
pruned_function f = record f { body = pruned f.body }

abbrev pub pruned_all : (ℕ → Option Function) → ℕ → Option Function
pruned_all functions r = option_map pruned_function (functions r)
