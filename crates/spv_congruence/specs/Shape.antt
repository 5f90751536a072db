-- A body made from another, construct by construct.
use Rattle.std.specs.Prelude.{◌≡◌, ◌⊎◌, ℕ, ◌==◌, Bool, true, false, cond, not, List, [], ◌∷◌, Option, Some, None}
use Rattle.spv_machine.specs.Steps.{chosen}
use Rattle.spv_bodies.specs.Bodies.{Exit, Front, Entry, ByBranch, InPlace, Arms, Last, Also, target}
use Rattle.spv_bodies.specs.Bodies.{Body, Leaves, Finishes, Step, Enters, Splits, Selects, Switches, Loops}
use Rattle.spv_bodies.specs.Listing.{first_target}

-- instructions, and behind them a body
abbrev pub steps : List (List ℕ) → Body → Body
steps [] body = body
steps (words ∷ rest) body = Step words (steps rest body)

-- What a pass may do, by what it knows at a place (`G`), to constructs of the first that the second does not have.
pub record Drops (G : Type 0) : Type 1 where
  -- the values of an exit, and the front of its target, where only the first leaves; and what is known behind that
  pub Passed : G → (values : List ℕ) → (front : Front) → G → Type 0
  -- a condition that is decided, and a selector whose number is known
  pub Decided : G → (condition : ℕ) → Bool → Type 0
  pub Chosen : G → (selector number : ℕ) → Type 0
  -- a call for which the second has the callee's body: what is known where that begins, and behind the call; and a return of such a callee
  pub Inlined : G → (words : List ℕ) → (callee : Body) → G → G → Type 0
  pub Resumed : G → (words : List ℕ) → Type 0
  -- the first never comes here
  pub Never : G → Type 0

-- every construct stays
abbrev pub no_drops : {G : Type 0} → Drops G
no_drops = record {
  Passed = λ g ids front h. ⊥;
  Decided = λ g condition on. ⊥;
  Chosen = λ g selector number. ⊥;
  Inlined = λ g words callee h k. ⊥;
  Resumed = λ g words. ⊥;
  Never = λ g. ⊥;
}

-- to constructs of the second that the first does not have
pub record Adds (G : Type 0) : Type 1 where
  -- a condition of the second that is decided, and a selector whose number is known
  pub Decided2 : G → (condition2 : ℕ) → Bool → Type 0
  pub Chosen2 : G → (selector2 number : ℕ) → Type 0
  -- the values of an exit of the second, and the front of its target, where the first is before a return of these words; and what is known behind that
  pub Carried2 : G → (words values2 : List ℕ) → (front2 : Front) → G → Type 0

-- no construct is put in
abbrev pub no_adds : {G : Type 0} → Adds G
no_adds = record { Decided2 = λ g condition2 on. ⊥; Chosen2 = λ g selector2 number. ⊥; Carried2 = λ g words ids2 front2 h. ⊥ }

-- what it may do at all
pub record Edits (G : Type 0) : Type 1 where
  -- an instruction becomes others; and what is known behind it
  pub Turned : G → (words : List ℕ) → (others : List (List ℕ)) → G → Type 0
  -- instructions are put in, or none; and what is known behind them
  pub Inserted : G → (others : List (List ℕ)) → G → Type 0
  -- the values of an exit, and the front of its target; and what is known behind that
  pub Carried : G → (values values2 : List ℕ) → (front front2 : Front) → G → Type 0
  -- the front of a block which a construct that begins here has in both; and what is known behind it
  pub Opened : G → (front front2 : Front) → G → Type 0
  -- the condition of a selection or a conditional exit, and the selector of a switch
  pub Asked : G → (condition condition2 : ℕ) → Type 0
  pub Selected : G → (selector selector2 : ℕ) → Type 0
  -- OpReturn, OpReturnValue or OpUnreachable
  pub Finished : G → (words words2 : List ℕ) → Type 0
  pub drops : Drops G
  pub adds : Adds G

-- what parts may be left for
pub data Target (G : Type 0) : Type 0 where
  -- both are left for the labels of these fronts, and this is known behind them; the body that the second has there, where it may come there alone
  Joins : (first second : Front) (known : G) (behind2 : Option Body) → Target G
  -- only the first is left for this front, where the second is before this body
  Pends : (first : Front) (known : G) (body2 : Body) → Target G
  -- only the second is left for this front, with this body behind it, and where the first is before a return
  Wraps : (second : Front) (behind2 : Body) → Target G

-- both exits are to one of these, of which the innermost counts
abbrev pub ExitsAlike : {G : Type 0} → Edits G → List (Target G) → G → Exit → Exit → Type 0
ExitsAlike w [] g exit exit2 = ⊥
ExitsAlike w (Joins first second known behind2 ∷ K) g exit exit2 =
    (((exit.target == first.label) ≡ true) × ((exit2.target == second.label) ≡ true) × w.Carried g exit.values exit2.values first second known)
    ⊎ (((exit.target == first.label) ≡ false) × ((exit2.target == second.label) ≡ false) × ExitsAlike w K g exit exit2)
ExitsAlike w (Pends first known body2 ∷ K) g exit exit2 = ((exit.target == first.label) ≡ false) × ExitsAlike w K g exit exit2
ExitsAlike w (Wraps second behind2 ∷ K) g exit exit2 = ((exit2.target == second.label) ≡ false) × ExitsAlike w K g exit exit2

-- only the first leaves, and the second is where it is to be; no construct of the second is round it
abbrev pub ExitPends : {G : Type 0} → Edits G → List (Target G) → G → Exit → Body → Type 0
ExitPends w [] g exit here = ⊥
ExitPends w (Joins first second known behind2 ∷ K) g exit here = ⊥
ExitPends w (Wraps second behind2 ∷ K) g exit here = ⊥
ExitPends w (Pends first known body2 ∷ K) g exit here =
    (((exit.target == first.label) ≡ true) × w.drops.Passed g exit.values first known × (here ≡ body2))
    ⊎ (((exit.target == first.label) ≡ false) × ExitPends w K g exit here)

-- no construct of the second is round the place
abbrev pub AllPend : {G : Type 0} → List (Target G) → Type 0
AllPend [] = Unit {0}
AllPend (Joins first second known behind2 ∷ K) = ⊥
AllPend (Wraps second behind2 ∷ K) = ⊥
AllPend (Pends first known body2 ∷ K) = AllPend K

-- ---- arms

-- arms at one place begin with these labels
abbrev pub SameArm : Arms → Arms → (label label2 : ℕ) → Type 0
SameArm (Last arm) (Last arm2) label label2 = (target arm == label) ≡ (target arm2 == label2)
SameArm (Also arm arms) (Also arm2 arms2) label label2 = ((target arm == label) ≡ (target arm2 == label2)) × SameArm arms arms2 label label2
SameArm arms arms2 label label2 = ⊥

-- the same literals, each with labels of one arm
abbrev pub CasesAlike : Arms → Arms → List (ℕ × ℕ) → List (ℕ × ℕ) → Type 0
CasesAlike arms arms2 [] [] = Unit {0}
CasesAlike arms arms2 (c ∷ cs) (c2 ∷ cs2) = (c.0 ≡ c2.0) × SameArm arms arms2 c.1 c2.1 × CasesAlike arms arms2 cs cs2
CasesAlike arms arms2 cs cs2 = ⊥

-- the first arm with a label
abbrev pub arm_of : Arms → (label : ℕ) → Option Body
arm_of (Last arm) label = cond (target arm == label) (Some arm) None
arm_of (Also arm arms) label = cond (target arm == label) (Some arm) (arm_of arms label)

-- ---- bodies

-- how a loop of the first is come to, where the second has none
abbrev pub EntryPasses : {G : Type 0} → Edits G → G → (header : Front) → Entry → G → Type 0
EntryPasses w g header (ByBranch values) h = w.drops.Passed g values header h
EntryPasses w g header InPlace h = h ≡ g

-- The first is before a return of these words, and the second goes on alone to its own return.
mutual
  pub data Alone {G : Type 0} (w : Edits G) (words : List ℕ) : List (Target G) → G → Body → Type 0 where
    alone_finishes : {K : List (Target G)} {g : G} {words2 : List ℕ} → w.Finished g words words2 → Alone w words K g (Finishes words2)
    alone_inserts : {K : List (Target G)} {g h : G} {others : List (List ℕ)} {body2 : Body} →
        w.Inserted g others h → Alone w words K h body2 → Alone w words K g (steps others body2)
    alone_enters : {K : List (Target G)} {g : G} {label2 : ℕ} {body2 : Body} → Alone w words K g body2 → Alone w words K g (Enters label2 body2)
    alone_splits_out : {K : List (Target G)} {g : G} {condition2 : ℕ} {on : Bool} {exit2 : Exit} {body2 : Body} →
        w.adds.Decided2 g condition2 on → Alone w words K g (Leaves exit2) → Alone w words K g (Splits condition2 on exit2 body2)
    alone_splits_past : {K : List (Target G)} {g : G} {condition2 : ℕ} {on : Bool} {exit2 : Exit} {body2 : Body} →
        w.adds.Decided2 g condition2 (not on) → Alone w words K g body2 → Alone w words K g (Splits condition2 on exit2 body2)
    alone_selects : {K : List (Target G)} {g : G} {control condition2 : ℕ} {on : Bool} {first2 second2 rest2 : Body} {merge2 : Front} →
        w.adds.Decided2 g condition2 on → Alone w words (Wraps merge2 rest2 ∷ K) g (cond on first2 second2) →
        Alone w words K g (Selects control condition2 first2 second2 merge2 rest2)
    alone_leaves : {K : List (Target G)} {g : G} {exit2 : Exit} → AloneExit w words K g exit2 → Alone w words K g (Leaves exit2)

  pub data AloneExit {G : Type 0} (w : Edits G) (words : List ℕ) : List (Target G) → G → Exit → Type 0 where
    joins_alone : {K : List (Target G)} {g known h : G} {exit2 : Exit} {first second : Front} {rest2 : Body} →
        (exit2.target == second.label) ≡ true → w.adds.Carried2 g words exit2.values second h → Alone w words K h rest2 →
        AloneExit w words (Joins first second known (Some rest2) ∷ K) g exit2
    wraps_alone : {K : List (Target G)} {g h : G} {exit2 : Exit} {second : Front} {rest2 : Body} →
        (exit2.target == second.label) ≡ true → w.adds.Carried2 g words exit2.values second h → Alone w words K h rest2 →
        AloneExit w words (Wraps second rest2 ∷ K) g exit2
    past_joins : {K : List (Target G)} {g known : G} {exit2 : Exit} {first second : Front} {behind2 : Option Body} →
        (exit2.target == second.label) ≡ false → AloneExit w words K g exit2 → AloneExit w words (Joins first second known behind2 ∷ K) g exit2
    past_wraps : {K : List (Target G)} {g : G} {exit2 : Exit} {second : Front} {behind2 : Body} →
        (exit2.target == second.label) ≡ false → AloneExit w words K g exit2 → AloneExit w words (Wraps second behind2 ∷ K) g exit2
    past_pends : {K : List (Target G)} {g known : G} {exit2 : Exit} {first : Front} {body2 : Body} →
        AloneExit w words K g exit2 → AloneExit w words (Pends first known body2 ∷ K) g exit2

-- THE SHAPE: the second body is the first with the pass's edits, where the exits are to these targets. Labels may change. Both are of functions; or the first
-- is of a callee, and the second has it in place of a call, with this behind the call.
mutual
  pub data Shape {G : Type 0} (w : Edits G) : (behind_call : Option Body) → List (Target G) → G → Body → Body → Type 0 where
    -- what both have
    leaves : {R : Option Body} {K : List (Target G)} {g : G} {exit exit2 : Exit} →
        ExitsAlike w K g exit exit2 → Shape w R K g (Leaves exit) (Leaves exit2)
    finishes : {K : List (Target G)} {g : G} {words words2 : List ℕ} →
        w.Finished g words words2 → Shape w None K g (Finishes words) (Finishes words2)
    turns : {R : Option Body} {K : List (Target G)} {g h : G} {words : List ℕ} {others : List (List ℕ)} {body body2 : Body} →
        w.Turned g words others h → Shape w R K h body body2 → Shape w R K g (Step words body) (steps others body2)
    splits : {R : Option Body} {K : List (Target G)} {g : G} {condition condition2 : ℕ} {on : Bool} {exit exit2 : Exit} {body body2 : Body} →
        w.Asked g condition condition2 → ExitsAlike w K g exit exit2 → Shape w R K g body body2 →
        Shape w R K g (Splits condition on exit body) (Splits condition2 on exit2 body2)
    selects : {R : Option Body} {K : List (Target G)} {g h : G} {control condition condition2 : ℕ} {first first2 second second2 rest rest2 : Body}
        {merge merge2 : Front} →
        w.Asked g condition condition2 → w.Opened g merge merge2 h →
        Shape w R (Joins merge merge2 h (Some rest2) ∷ K) g first first2 →
        Shape w R (Joins merge merge2 h (Some rest2) ∷ K) g second second2 →
        Shape w R K h rest rest2 →
        Shape w R K g (Selects control condition first second merge rest) (Selects control condition2 first2 second2 merge2 rest2)
    switches : {R : Option Body} {K : List (Target G)} {g h : G} {control selector selector2 : ℕ} {cases cases2 : List (ℕ × ℕ)} {arms arms2 : Arms}
        {merge merge2 : Front} {rest rest2 : Body} →
        w.Selected g selector selector2 → w.Opened g merge merge2 h →
        SameArm arms arms2 (first_target arms) (first_target arms2) → CasesAlike arms arms2 cases cases2 →
        ShapeOfArms w R (Joins merge merge2 h (Some rest2) ∷ K) g arms arms2 →
        Shape w R K h rest rest2 →
        Shape w R K g (Switches control selector cases arms merge rest) (Switches control selector2 cases2 arms2 merge2 rest2)
    -- a loop by a branch, and a loop in place, whose header is the front that stands before
    loops : {R : Option Body} {K : List (Target G)} {g h : G} {values values2 : List ℕ} {control : ℕ} {header header2 next next2 merge merge2 : Front}
        {inner inner2 continuing continuing2 rest rest2 : Body} →
        w.Opened g header header2 h → w.Carried g values values2 header header2 h →
        ShapeOfLoop w R K h header header2 inner inner2 next next2 continuing continuing2 merge merge2 rest rest2 →
        Shape w R K g (Loops (ByBranch values) header control inner next continuing merge rest)
        (Loops (ByBranch values2) header2 control inner2 next2 continuing2 merge2 rest2)
    placed : {R : Option Body} {K : List (Target G)} {g : G} {control : ℕ} {header header2 next next2 merge merge2 : Front}
        {inner inner2 continuing continuing2 rest rest2 : Body} →
        ShapeOfLoop w R K g header header2 inner inner2 next next2 continuing continuing2 merge merge2 rest rest2 →
        Shape w R K g (Loops InPlace header control inner next continuing merge rest) (Loops InPlace header2 control inner2 next2 continuing2 merge2 rest2)
    -- what only the second has
    inserts : {R : Option Body} {K : List (Target G)} {g h : G} {others : List (List ℕ)} {body body2 : Body} →
        w.Inserted g others h → Shape w R K h body body2 → Shape w R K g body (steps others body2)
    enters_second : {R : Option Body} {K : List (Target G)} {g : G} {label2 : ℕ} {body body2 : Body} →
        Shape w R K g body body2 → Shape w R K g body (Enters label2 body2)
    -- a construct round what the first does, whose condition or selector is decided; an exit that is decided; and a return to which the second comes alone
    wraps : {R : Option Body} {K : List (Target G)} {g : G} {control condition2 : ℕ} {on : Bool} {body first2 second2 rest2 : Body} {merge2 : Front} →
        w.adds.Decided2 g condition2 on → Shape w R (Wraps merge2 rest2 ∷ K) g body (cond on first2 second2) →
        Shape w R K g body (Selects control condition2 first2 second2 merge2 rest2)
    wraps_switch : {R : Option Body} {K : List (Target G)} {g : G} {control selector2 number : ℕ} {cases2 : List (ℕ × ℕ)} {arms2 : Arms}
        {body arm2 rest2 : Body} {merge2 : Front} →
        w.adds.Chosen2 g selector2 number → arm_of arms2 (chosen number (first_target arms2) cases2) ≡ Some arm2 →
        Shape w R (Wraps merge2 rest2 ∷ K) g body arm2 → Shape w R K g body (Switches control selector2 cases2 arms2 merge2 rest2)
    splits_second : {R : Option Body} {K : List (Target G)} {g : G} {condition2 : ℕ} {on : Bool} {exit2 : Exit} {body body2 : Body} →
        w.adds.Decided2 g condition2 (not on) → Shape w R K g body body2 → Shape w R K g body (Splits condition2 on exit2 body2)
    returns_alone : {K : List (Target G)} {g : G} {words : List ℕ} {body2 : Body} → Alone w words K g body2 → Shape w None K g (Finishes words) body2
    -- a selection in place of a conditional exit
    splits_selects : {R : Option Body} {K : List (Target G)} {g : G} {control condition condition2 : ℕ} {on : Bool} {exit : Exit}
        {body first2 second2 rest2 : Body} {merge2 : Front} →
        w.Asked g condition condition2 →
        Shape w R (Wraps merge2 rest2 ∷ K) g (Leaves exit) (cond on first2 second2) →
        Shape w R (Wraps merge2 rest2 ∷ K) g body (cond on second2 first2) →
        Shape w R K g (Splits condition on exit body) (Selects control condition2 first2 second2 merge2 rest2)
    -- what only the first has: an exit to where the second is
    enters : {R : Option Body} {K : List (Target G)} {g : G} {label : ℕ} {body body2 : Body} →
        Shape w R K g body body2 → Shape w R K g (Enters label body) body2
    pends : {R : Option Body} {K : List (Target G)} {g : G} {exit : Exit} {body2 : Body} →
        ExitPends w K g exit body2 → Shape w R K g (Leaves exit) body2
    -- a conditional exit that is decided, or dropped
    splits_out : {R : Option Body} {K : List (Target G)} {g : G} {condition : ℕ} {on : Bool} {exit : Exit} {body body2 : Body} →
        w.drops.Decided g condition on → Shape w R K g (Leaves exit) body2 → Shape w R K g (Splits condition on exit body) body2
    splits_past : {R : Option Body} {K : List (Target G)} {g : G} {condition : ℕ} {on : Bool} {exit : Exit} {body body2 : Body} →
        w.drops.Decided g condition (not on) → Shape w R K g body body2 → Shape w R K g (Splits condition on exit body) body2
    drops_split : {R : Option Body} {K : List (Target G)} {g : G} {condition : ℕ} {on : Bool} {exit : Exit} {body body2 : Body} →
        Shape w R K g (Leaves exit) body2 → Shape w R K g body body2 → Shape w R K g (Splits condition on exit body) body2
    -- a selection or switch that is decided, or dropped: the second comes to the merge block's rest inside the arm
    selects_arm : {R : Option Body} {K : List (Target G)} {g h : G} {control condition : ℕ} {on : Bool} {first second rest rest2 body2 : Body} {merge : Front} →
        w.drops.Decided g condition on → Shape w R (Pends merge h rest2 ∷ K) g (cond on first second) body2 → Shape w R K h rest rest2 →
        Shape w R K g (Selects control condition first second merge rest) body2
    drops_selection : {R : Option Body} {K : List (Target G)} {g h : G} {control condition : ℕ} {first second rest rest2 body2 : Body} {merge : Front} →
        Shape w R (Pends merge h rest2 ∷ K) g first body2 → Shape w R (Pends merge h rest2 ∷ K) g second body2 → Shape w R K h rest rest2 →
        Shape w R K g (Selects control condition first second merge rest) body2
    switches_arm : {R : Option Body} {K : List (Target G)} {g h : G} {control selector number : ℕ} {cases : List (ℕ × ℕ)} {arms : Arms}
        {arm rest rest2 body2 : Body} {merge : Front} →
        w.drops.Chosen g selector number → arm_of arms (chosen number (first_target arms) cases) ≡ Some arm →
        Shape w R (Pends merge h rest2 ∷ K) g arm body2 → Shape w R K h rest rest2 →
        Shape w R K g (Switches control selector cases arms merge rest) body2
    drops_switch : {R : Option Body} {K : List (Target G)} {g h : G} {control selector : ℕ} {cases : List (ℕ × ℕ)} {arms : Arms} {rest rest2 body2 : Body}
        {merge : Front} →
        EachArm w R (Pends merge h rest2 ∷ K) g arms body2 → Shape w R K h rest rest2 →
        Shape w R K g (Switches control selector cases arms merge rest) body2
    -- a loop that is dropped, or whose turns end at once
    drops_loop : {R : Option Body} {K : List (Target G)} {g h k m : G} {entry : Entry} {control : ℕ} {header next merge : Front}
        {inner continuing rest body2 continuing2 rest2 : Body} →
        EntryPasses w g header entry h →
        Shape w R (Pends next k continuing2 ∷ Pends header h body2 ∷ Pends merge m rest2 ∷ K) h inner body2 →
        Shape w R (Pends header h body2 ∷ Pends merge m rest2 ∷ K) k continuing continuing2 →
        Shape w R K m rest rest2 →
        Shape w R K g (Loops entry header control inner next continuing merge rest) body2
    -- a call for which the second has the callee's body, and where the callee returns to: the second is before what is behind the call
    inlines : {R : Option Body} {K : List (Target G)} {g h k : G} {words : List ℕ} {callee body rest2 body2 : Body} →
        w.drops.Inlined g words callee k h → Shape w (Some rest2) [] k callee body2 → Shape w R K h body rest2 → Shape w R K g (Step words body) body2
    resumes : {K : List (Target G)} {g : G} {words : List ℕ} {rest2 : Body} →
        w.drops.Resumed g words → AllPend K → Shape w (Some rest2) K g (Finishes words) rest2
    -- where the first never comes
    never : {R : Option Body} {K : List (Target G)} {g : G} {body body2 : Body} → w.drops.Never g → Shape w R K g body body2

  pub data ShapeOfArms {G : Type 0} (w : Edits G) : (behind_call : Option Body) → List (Target G) → G → Arms → Arms → Type 0 where
    last : {R : Option Body} {K : List (Target G)} {g : G} {arm arm2 : Body} → Shape w R K g arm arm2 → ShapeOfArms w R K g (Last arm) (Last arm2)
    also : {R : Option Body} {K : List (Target G)} {g : G} {arm arm2 : Body} {arms arms2 : Arms} →
        Shape w R K g arm arm2 → ShapeOfArms w R K g arms arms2 → ShapeOfArms w R K g (Also arm arms) (Also arm2 arms2)

  -- each arm beside one body
  pub data EachArm {G : Type 0} (w : Edits G) : (behind_call : Option Body) → List (Target G) → G → Arms → Body → Type 0 where
    the_last : {R : Option Body} {K : List (Target G)} {g : G} {arm body2 : Body} → Shape w R K g arm body2 → EachArm w R K g (Last arm) body2
    this_also : {R : Option Body} {K : List (Target G)} {g : G} {arm body2 : Body} {arms : Arms} →
        Shape w R K g arm body2 → EachArm w R K g arms body2 → EachArm w R K g (Also arm arms) body2

  -- the parts of a loop, where this is known behind the header's front
  pub data ShapeOfLoop {G : Type 0} (w : Edits G) : (behind_call : Option Body) → List (Target G) → G → (header header2 : Front) → (inner inner2 : Body) →
      (next next2 : Front) → (continuing continuing2 : Body) → (merge merge2 : Front) → (rest rest2 : Body) → Type 0 where
    parts : {R : Option Body} {K : List (Target G)} {g h k : G} {header header2 next next2 merge merge2 : Front}
        {inner inner2 continuing continuing2 rest rest2 : Body} →
        w.Opened g next next2 h → w.Opened g merge merge2 k →
        Shape w R (Joins next next2 h None ∷ Joins header header2 g None ∷ Joins merge merge2 k (Some rest2) ∷ K) g inner inner2 →
        Shape w R (Joins header header2 g None ∷ Joins merge merge2 k (Some rest2) ∷ K) h continuing continuing2 →
        Shape w R K k rest rest2 →
        ShapeOfLoop w R K g header header2 inner inner2 next next2 continuing continuing2 merge merge2 rest rest2
