-- The steps of a typed function fit, each at a stage inside the function.
use Rattle.std.proofs.Common.{◌≡◌, ℕ, Bool, true, false, cond, ◌==◌, ◌||◌, List, [], ◌∷◌, ◌++◌, refl, true≢false}
use Rattle.std.specs.Prelude.{slice_index}
use Rattle.std.specs.List.{AllByRecursion}
use Rattle.spv_opcodes.specs.declared.op.TheConstants as op
use Rattle.spv_module.specs.Code.{is_function, is_line}
use Rattle.spv_module.specs.Instruction.{Instruction, opcode}
use Rattle.spv_usage.specs.declared.stages.Stage.{Stage}
use Rattle.spv_usage.specs.declared.stages.Stage.TheVariants.{Outside, Head, Opening, Further}
use Rattle.spv_usage.specs.Stages.{behind_label, behind_other, is_outside, stage_behind}
use Rattle.spv_bodies.specs.Bodies.{Front, Body, Leaves, Finishes, Step, Enters, Splits, Selects, Switches, Loops, Arms, Last, Also, Function}
use Rattle.spv_editing.specs.Showing.{Shown, carried, operands, shown, shown_in_arms, uses}
use Rattle.spv_typed_trees.specs.Typed.{ArmsTyped, IsTyped, StepFits, Typed, as_instruction}
use Rattle.spv_typed_edits.proofs.Members.{Of, both}

-- inside a function a line stays inside
inside_by : (s : Stage) (line function label : Bool) → is_outside s ≡ false
    → is_outside (cond line s (cond function Head (cond label (behind_label s) (behind_other s)))) ≡ false
inside_by s true function label h = h
inside_by s false true label h = refl
inside_by Outside false false label h = absurd (true≢false h)
inside_by Head false false true h = refl
inside_by Head false false false h = refl
inside_by Opening false false true h = refl
inside_by Opening false false false h = refl
inside_by Further false false true h = refl
inside_by Further false false false h = refl

-- a line that fits at some stage inside a function
pub record FitsInside (insts : List Instruction) (words : List ℕ) : Type 0 where
  pub stage : Stage
  pub inside : is_outside stage ≡ false
  pub fits : StepFits insts stage words

module _ (insts : List Instruction) where
  -- of all that a body shows, the steps
  abbrev pub StepFitsInside : Shown → Type 0
  StepFitsInside s = Of (FitsInside insts) (λ id. Unit {0}) s

  abbrev AllFit : List Shown → Type 0
  AllFit all = AllByRecursion StepFitsInside all

  all_uses : (ids : List ℕ) → AllFit (uses ids)
  all_uses [] = tt
  all_uses (id ∷ ids) = (tt, all_uses ids)

  join : (xs ys : List Shown) → AllFit xs → AllFit ys → AllFit (xs ++ ys)
  join = both StepFitsInside

  -- by recursion on the body
  mutual
    steps_fit : (t : ℕ) (fronts : List Front) (stage : Stage) (b : Body) → is_outside stage ≡ false → Typed insts t fronts stage b → AllFit (shown b)
    steps_fit t fronts stage (Leaves exit) inside h = all_uses exit.values
    steps_fit t fronts stage (Finishes words) inside h = all_uses (operands words)
    steps_fit t fronts stage (Step words body) inside h =
        let i = as_instruction words in (
          record { stage = stage; inside = inside; fits = h.0 },
          steps_fit t fronts (stage_behind stage i) body
              (inside_by stage (is_line i || opcode i == op.VARIABLE) (is_function i) (opcode i == op.LABEL) inside) h.1,
        )
    steps_fit t fronts stage (Enters label body) inside h = steps_fit t fronts Further body refl h
    steps_fit t fronts stage (Splits condition on exit body) inside h =
        (tt, join (uses exit.values) (shown body) (all_uses exit.values) (steps_fit t fronts Further body refl h.2))
    steps_fit t fronts stage (Selects control condition first second merge rest) inside h = (
      tt,
      join (shown first) (shown second ++ shown rest) (steps_fit t (merge ∷ fronts) Further first refl h.2)
          (join (shown second) (shown rest) (steps_fit t (merge ∷ fronts) Further second refl h.3) (steps_fit t fronts Further rest refl h.4)),
    )
    steps_fit t fronts stage (Switches control selector cases arms merge rest) inside h =
        (tt, join (shown_in_arms arms) (shown rest) (arms_fit t (merge ∷ fronts) arms h.2) (steps_fit t fronts Further rest refl h.3))
    steps_fit t fronts stage (Loops entry header control inner next continuing merge rest) inside h =
        join (uses (carried entry)) (shown inner ++ (shown continuing ++ shown rest)) (all_uses (carried entry))
        (join (shown inner) (shown continuing ++ shown rest) (steps_fit t (next ∷ merge ∷ fronts) Further inner refl h.4)
        (join (shown continuing) (shown rest) (steps_fit t (header ∷ merge ∷ fronts) Further continuing refl h.5) (steps_fit t fronts Further rest refl h.6)))

    arms_fit : (t : ℕ) (fronts : List Front) (arms : Arms) → ArmsTyped insts t fronts arms → AllFit (shown_in_arms arms)
    arms_fit t fronts (Last arm) h = steps_fit t fronts Further arm refl h
    arms_fit t fronts (Also arm arms) h =
        join (shown arm) (shown_in_arms arms) (steps_fit t fronts Further arm refl h.0) (arms_fit t fronts arms h.1)

pub typed_steps_fit : (insts : List Instruction) (f : Function) → IsTyped insts f → AllByRecursion (StepFitsInside insts) (shown f.body)
typed_steps_fit insts f h = steps_fit insts (slice_index f.function 1) [] Opening f.body refl h.body
