-- What the plain tree has for each item, arm and opening of the tree in code.
use Rattle.std.proofs.Common.{◌≡◌, ℕ, List, [], ◌∷◌, ◌++◌, length, take, get_or, ◌+◌, ◌<◌, map, refl, sym, ap, ◌∙◌}
use Rattle.std.proofs.lemmas.List.{take_more}
use Rattle.spv_module.specs.declared.inst.Inst.{Inst}
use Rattle.spv_bodies.specs.Bodies as plain
use Rattle.spv_tree.specs.declared.body.Exit.{Exit}
use Rattle.spv_tree.specs.declared.body.Split.{Split}
use Rattle.spv_tree.specs.declared.body.Choice.{Choice}
use Rattle.spv_tree.specs.declared.body.Switch.{Switch}
use Rattle.spv_tree.specs.declared.body.Loop.{Loop}
use Rattle.spv_tree.specs.declared.body.Block.{Block}
use Rattle.spv_tree.specs.declared.body.Leaving.{Leaving}
use Rattle.spv_tree.specs.declared.body.Entered.{Entered, out-Entered, roll-Entered, roll-out-Entered}
use Rattle.spv_tree.specs.declared.body.Arm.{Arm}
use Rattle.spv_tree.specs.declared.body.Arm as arm
use Rattle.spv_tree.specs.declared.body.Opening as opening
use Rattle.spv_tree.specs.declared.body.Item as item
use Rattle.spv_tree.specs.declared.body.Item.{Item, Row_of-Item, end_of-Item, more_of-Item, Row_of-Arm, end_of-Arm, more_of-Arm, items-the_row-Item, items-the_row-Arm, items_hidden-the_row-Item-0, items_hidden-the_row-Arm-1}
use Rattle.spv_tree.specs.declared.body.Arm.TheBlock.{hidden-the_row-Item-0, hidden-the_row-Arm-1}
use Rattle.spv_tree.specs.Tree.{exit_of, front_of, case_of, entry_of, going_on, steps_then, end_body, item_then, row_then, arm_body, row_arms, opening_body, items_then, sequence_body, arms_of}

-- ---- rows of children are lists of them

row_is : {m : _} (items : Row_of-Item m) (rest : plain.Body) → row_then items rest ≡ items_then (items-the_row-Item _ items) rest
unfolding row_then
row_is end_of-Item rest = refl
row_is (more_of-Item i items) rest = ap (item_then i) (row_is items rest)

part_is : (items : List Item) (rest : plain.Body) → row_then (hidden-the_row-Item-0 items) rest ≡ items_then items rest
part_is items rest = row_is (hidden-the_row-Item-0 items) rest ∙ ap (λ z. items_then z rest) (items_hidden-the_row-Item-0 items)

arms_are : {m : _} (first : plain.Body) (arms : Row_of-Arm m) → row_arms first arms ≡ arms_of first (items-the_row-Arm _ arms)
unfolding row_arms
arms_are first end_of-Arm = refl
arms_are first (more_of-Arm a arms) = ap (plain.Also first) (arms_are (arm_body a) arms)

others_are : (first : plain.Body) (arms : List Arm) → row_arms first (hidden-the_row-Arm-1 arms) ≡ arms_of first arms
others_are first arms = arms_are first (hidden-the_row-Arm-1 arms) ∙ ap (arms_of first) (items_hidden-the_row-Arm-1 arms)

-- ---- items

pub then_op : (inst : Inst) (rest : plain.Body) → item_then (item.Op inst) rest ≡ plain.Step inst.words rest
unfolding item_then
then_op inst rest = refl

pub then_choice : (c : Choice) (rest : plain.Body) → item_then (item.Choice c) rest
    ≡ plain.Selects c.control c.condition (arm_body c.first) (arm_body c.second) (front_of c.merge) rest
unfolding item_then
then_choice c rest = refl

pub then_switch : (s : Switch) (rest : plain.Body) → item_then (item.Switch s) rest
    ≡ plain.Switches s.control s.selector (map case_of s.cases) (arms_of (arm_body s.first) s.others) (front_of s.merge) rest
unfolding item_then
then_switch s rest = ap (λ z. plain.Switches s.control s.selector (map case_of s.cases) z (front_of s.merge) rest) (others_are (arm_body s.first) s.others)

pub then_loop : (l : Loop) (rest : plain.Body) → item_then (item.Loop l) rest
    ≡ plain.Loops (entry_of l.entry) (front_of l.header) l.control (steps_then l.steps (opening_body l.opening)) (front_of l.next) (sequence_body l.continuing) (front_of l.merge) rest
unfolding item_then
then_loop l rest =
    ap (λ z. plain.Loops (entry_of l.entry) (front_of l.header) l.control (steps_then l.steps (opening_body l.opening)) (front_of l.next) z (front_of l.merge) rest)
    (part_is l.continuing.items (end_body l.continuing.end))

pub then_split : (s : Split) (rest : plain.Body) → item_then (item.Split s) rest ≡ plain.Splits s.condition s.on (exit_of s.exit) (going_on s.next rest)
unfolding item_then
then_split s rest = refl

-- one item more
pub then_push : (items : List Item) (i : Item) (rest : plain.Body) → items_then (items ++ i ∷ []) rest ≡ items_then items (item_then i rest)
then_push [] i rest = refl
then_push (j ∷ items) i rest = ap (item_then j) (then_push items i rest)

-- the elements up to the next
pub one_more : {X : Type 0} (xs : List X) (k : ℕ) (x : X) → k < length xs → x ≡ get_or xs k x → take (k + 1) xs ≡ take k xs ++ x ∷ []
one_more xs k x lt is = take_more xs k x lt ∙ ap (λ z. take k xs ++ z ∷ []) (sym is)

-- ---- arms

pub arm_exit : (exit : Exit) → arm_body (arm.Exit exit) ≡ plain.Leaves (exit_of exit)
unfolding arm_body
arm_exit exit = refl

pub arm_block : (block : Block) → arm_body (arm.Block block) ≡ plain.Enters block.label (sequence_body block.body)
unfolding arm_body
arm_block block = ap (plain.Enters block.label) (part_is block.body.items (end_body block.body.end))

pub rolled : (r : _) → arm_body (arm.Loop (roll-Entered r)) ≡ item_then (item.Loop r.turn.value) (sequence_body r.rest)
unfolding arm_body item_then roll-Entered denote.Hole.Carrier.roll
rolled r =
    ap (λ z. plain.Loops (entry_of r.turn.value.entry) (front_of r.turn.value.header) r.turn.value.control (steps_then r.turn.value.steps (opening_body r.turn.value.opening)) (front_of r.turn.value.next)
    (row_then (hidden-the_row-Item-0 r.turn.value.continuing.items) (end_body r.turn.value.continuing.end)) (front_of r.turn.value.merge) z)
    (part_is r.rest.items (end_body r.rest.end))

pub arm_loop : (e : Entered) → arm_body (arm.Loop e) ≡ item_then (item.Loop (out-Entered e).turn.value) (sequence_body (out-Entered e).rest)
arm_loop e = ap (λ z. arm_body (arm.Loop z)) (sym (roll-out-Entered e)) ∙ rolled (out-Entered e)

-- ---- how a loop opens

pub opening_branch : (a : Arm) → opening_body (opening.Branch a) ≡ arm_body a
unfolding opening_body
opening_branch a = refl

pub opening_split : (l : Leaving) → opening_body (opening.Split l) ≡ plain.Splits l.condition l.on (exit_of l.exit) (arm_body l.arm)
unfolding opening_body
opening_split l = refl
