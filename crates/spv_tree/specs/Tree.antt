-- The plain tree of a body in code.
use Rattle.std.specs.Prelude.{ℕ, List, [], ◌∷◌, map}
use Rattle.spv_opcodes.specs.declared.op.TheConstants as op
use Rattle.spv_module.specs.declared.inst.Inst.{Inst}
use Rattle.spv_module.specs.Instruction.{Instruction}
use Rattle.spv_bodies.specs.Bodies as plain
use Rattle.spv_bodies.specs.Listing.{instruction}
use Rattle.spv_tree.specs.declared.body.Exit.{Exit}
use Rattle.spv_tree.specs.declared.body.Parameter.{Parameter}
use Rattle.spv_tree.specs.declared.body.Front.{Front}
use Rattle.spv_tree.specs.declared.body.Case.{Case}
use Rattle.spv_tree.specs.declared.body.Entry.{Entry}
use Rattle.spv_tree.specs.declared.body.Entry.TheVariants as entry
use Rattle.spv_tree.specs.declared.body.Next.{Next}
use Rattle.spv_tree.specs.declared.body.Next.TheVariants as next
use Rattle.spv_tree.specs.declared.body.End.{End}
use Rattle.spv_tree.specs.declared.body.End.TheVariants as end
use Rattle.spv_tree.specs.declared.body.Arm.{Arm, Block'}
use Rattle.spv_tree.specs.declared.body.Entered.{Entered, Entered'}
use Rattle.spv_tree.specs.declared.body.Arm.TheVariants as arm
use Rattle.spv_tree.specs.declared.body.Opening.{Opening}
use Rattle.spv_tree.specs.declared.body.Opening.TheVariants as opening
use Rattle.spv_tree.specs.declared.body.Item.{Item, Op, Choice', Switch', Loop', Split, Row_of-Item, end_of-Item, more_of-Item, Row_of-Arm, end_of-Arm, more_of-Arm}
use Rattle.spv_tree.specs.declared.body.Sequence.{Sequence, out-Sequence}
use Rattle.spv_tree.specs.declared.body.Body.{Body}

-- the words of instructions, wherever these stand
abbrev pub words_of : List Instruction → List (List ℕ)
words_of insts = map (λ i. i.words) insts

abbrev pub exit_of : Exit → plain.Exit
exit_of exit = record { target = exit.target; values = exit.values }

abbrev pub parameter_of : Parameter → plain.Parameter
parameter_of p = record { type = p.type_id; result_id = p.result_id; parents = p.parents }

abbrev pub front_of : Front → plain.Front
front_of front = record { label = front.label; parameters = map parameter_of front.parameters }

abbrev pub end_body : End → plain.Body
end_body (end.Exit exit) = plain.Leaves (exit_of exit)
end_body end.Return = plain.Finishes (instruction op.RETURN [])
end_body (end.ReturnValue value) = plain.Finishes (instruction op.RETURN_VALUE (value ∷ []))
end_body end.Unreachable = plain.Finishes (instruction op.UNREACHABLE [])

-- instructions before a body
abbrev pub steps_then : List Inst → plain.Body → plain.Body
steps_then [] rest = rest
steps_then (inst ∷ insts) rest = plain.Step inst.words (steps_then insts rest)

abbrev pub entry_of : Entry → plain.Entry
entry_of (entry.Branch values) = plain.ByBranch values
entry_of entry.InPlace = plain.InPlace

-- what follows a conditional exit, before what follows that
abbrev pub going_on : Next → plain.Body → plain.Body
going_on (next.Block label) rest = plain.Enters label rest
going_on next.Branch rest = rest

abbrev pub case_of : Case → ℕ × ℕ
case_of case = (case.literal, case.target)

unfoldable mutual
  pub item_then : Item → plain.Body → plain.Body
  item_then (Op inst) rest = plain.Step inst.words rest
  item_then (Choice' control condition first second merge) rest =
      plain.Selects control condition (arm_body first) (arm_body second) (front_of merge) rest
  item_then (Switch' control selector cases first shape others merge) rest =
      plain.Switches control selector (map case_of cases) (row_arms (arm_body first) others) (front_of merge) rest
  item_then (Loop' entry header steps control opening next shape row end merge) rest =
      plain.Loops (entry_of entry) (front_of header) control (steps_then steps (opening_body opening)) (front_of next) (row_then row (end_body end)) (front_of merge) rest
  item_then (Split s) rest = plain.Splits s.condition s.on (exit_of s.exit) (going_on s.next rest)

  pub row_then : {m : _} → Row_of-Item m → plain.Body → plain.Body
  row_then end_of-Item rest = rest
  row_then (more_of-Item item items) rest = item_then item (row_then items rest)

  pub arm_body : Arm → plain.Body
  arm_body (arm.Exit exit) = plain.Leaves (exit_of exit)
  arm_body (Block' label shape row end) = plain.Enters label (row_then row (end_body end))
  arm_body (arm.Loop entered) = entered_body entered

  pub entered_body : Entered → plain.Body
  entered_body (Entered' p entry header steps control opening next shape row end merge after others last) =
      plain.Loops (entry_of entry) (front_of header) control (steps_then steps (opening_body opening)) (front_of next) (row_then row (end_body end)) (front_of merge) (row_then others (end_body last))

  pub row_arms : {m : _} → plain.Body → Row_of-Arm m → plain.Arms
  row_arms first end_of-Arm = plain.Last first
  row_arms first (more_of-Arm arm arms) = plain.Also first (row_arms (arm_body arm) arms)

  pub opening_body : Opening → plain.Body
  opening_body (opening.Branch arm) = arm_body arm
  opening_body (opening.Split' condition on exit arm) = plain.Splits condition on (exit_of exit) (arm_body arm)

-- ---- the same over lists

abbrev pub items_then : List Item → plain.Body → plain.Body
items_then [] rest = rest
items_then (item ∷ items) rest = item_then item (items_then items rest)

abbrev pub sequence_body : Sequence → plain.Body
sequence_body s = items_then (out-Sequence s).items (end_body (out-Sequence s).end)

abbrev pub arms_of : plain.Body → List Arm → plain.Arms
arms_of first [] = plain.Last first
arms_of first (arm ∷ arms) = plain.Also first (arms_of (arm_body arm) arms)

-- the plain tree of a function
abbrev pub body_of : Body → plain.Function
body_of body = record {
  function = body.function.words;
  parameters = words_of body.parameters;
  label = body.label;
  body = sequence_body body.sequence;
}
