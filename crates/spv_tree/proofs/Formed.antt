-- That the parts of a sound item are sound.
use Rattle.std.proofs.Common.{◌≡◌, ℕ, ◌<◌, ◌≤◌, true, List, [], ◌∷◌, length, map, get_or, All, refl, sym, ap, ◌∙◌, subst}
use Rattle.std.proofs.lemmas.List.{length-map}
use Rattle.std.proofs.lemmas.List.Elements.{All-nil, All-cons}
use Rattle.spv_module.specs.declared.inst.Inst.{Inst}
use Rattle.spv_bodies.specs.Bodies.{Body, begins_at_branch, target}
use Rattle.spv_bodies.specs.Bodies as plain
use Rattle.spv_bodies.specs.Listing.{Branching}
use Rattle.spv_tree.specs.declared.body.Choice.{Choice}
use Rattle.spv_tree.specs.declared.body.Switch.{Switch}
use Rattle.spv_tree.specs.declared.body.Loop.{Loop}
use Rattle.spv_tree.specs.declared.body.Block.{Block}
use Rattle.spv_tree.specs.declared.body.Leaving.{Leaving}
use Rattle.spv_tree.specs.declared.body.Entered.{out-Entered}
use Rattle.spv_tree.specs.declared.body.Arm.{Arm}
use Rattle.spv_tree.specs.declared.body.Arm as arm
use Rattle.spv_tree.specs.declared.body.Opening.{Opening}
use Rattle.spv_tree.specs.declared.body.Opening as opening
use Rattle.spv_tree.specs.declared.body.Case.{Case}
use Rattle.spv_tree.specs.declared.body.Sequence.{Sequence, out-Sequence}
use Rattle.spv_tree.specs.declared.body.Item as item
use Rattle.spv_tree.specs.declared.body.Item.{Item}
use Rattle.spv_tree.specs.Tree.{arm_body, arms_of, case_of, end_body, entry_of, front_of, item_then, items_then, opening_body, sequence_body, steps_then}
use Rattle.spv_tree.specs.Fronts.{IsFilled}
use Rattle.spv_tree.specs.Sound.{AreFormed, IsFormed, opens}
use Rattle.spv_tree.specs.Lines.{IsFormedArm, IsFormedOpening, nothing}
use Rattle.spv_tree.proofs.Equations.{then_choice, then_switch, then_loop, arm_block, arm_loop, opening_branch, opening_split}

-- ---- arms and openings

pub block_formed : (all : List Branching) (a : Arm) (block : Block) → a ≡ arm.Block block → IsFormedArm all a → IsFormed all (sequence_body block.body)
block_formed all a block is h = subst (IsFormed all) (ap arm_body is ∙ arm_block block) h

pub next_formed : (all : List Branching) (arms : List Arm) (k : ℕ) (a : Arm) → k < length arms → a ≡ get_or arms k a → All (IsFormedArm all) arms → IsFormedArm all a
next_formed all arms k a lt is h = subst (IsFormedArm all) (sym is) (h k a lt)

pub branch_formed : (all : List Branching) (o : Opening) (a : Arm) → o ≡ opening.Branch a → IsFormedOpening all o → IsFormedArm all a
branch_formed all o a is h = subst (IsFormed all) (ap opening_body is ∙ opening_branch a) h.formed

pub leaving_formed : (all : List Branching) (o : Opening) (l : Leaving) → o ≡ opening.Split l → IsFormedOpening all o → IsFormedArm all l.arm
leaving_formed all o l is h = (subst (IsFormed all) (ap opening_body is ∙ opening_split l) h.formed).1

-- an arm that opens a loop begins at a branch
arm-begins : (a : Arm) → opens (arm_body a) ≡ begins_at_branch (arm_body a)
unfolding arm_body
arm-begins (arm.TheVariants.Exit exit) = refl
arm-begins (arm.Block' label shape row end) = refl
arm-begins (arm.TheVariants.Loop e) =
    let same = arm_loop e ∙ then_loop (out-Entered e).turn.value (sequence_body (out-Entered e).rest) in
    ap opens same ∙ sym (ap begins_at_branch same)

pub branch-begins : (all : List Branching) (o : Opening) (a : Arm) → o ≡ opening.Branch a → IsFormedOpening all o → begins_at_branch (arm_body a) ≡ true
branch-begins all o a is h = sym (arm-begins a) ∙ sym (ap opens (ap opening_body is ∙ opening_branch a)) ∙ h.begins

arms-formed : (all : List Branching) (first : Body) (arms : List Arm) → AreFormed all (arms_of first arms) → IsFormed all first × All (IsFormedArm all) arms
arms-formed all first [] h = (h.1, All-nil (IsFormedArm all))
arms-formed all first (a ∷ arms) h =
    let rest : IsFormed all (arm_body a) × All (IsFormedArm all) arms = arms-formed all (arm_body a) arms h.2 in
    (h.1, All-cons (IsFormedArm all) a arms rest.0 rest.1)

-- ---- constructs

choice-formed : (all : List Branching) (c : Choice) → IsFormed all (item_then (item.Choice c) nothing)
    → IsFilled all (front_of c.merge) × IsFormedArm all c.first × IsFormedArm all c.second
choice-formed all c h =
    let parts : IsFormed all (plain.Selects c.control c.condition (arm_body c.first) (arm_body c.second) (front_of c.merge) nothing) = subst (IsFormed all) (then_choice c nothing) h in
    (parts.2, parts.3, parts.4)

switch-formed : (all : List Branching) (s : Switch) → IsFormed all (item_then (item.Switch s) nothing)
    → (length (map case_of s.cases) ≤ 16383) × IsFilled all (front_of s.merge) × IsFormedArm all s.first × All (IsFormedArm all) s.others
switch-formed all s h =
    let parts : IsFormed all (plain.Switches s.control s.selector (map case_of s.cases) (arms_of (arm_body s.first) s.others) (front_of s.merge) nothing) = subst (IsFormed all) (then_switch s nothing) h in
    let arms : IsFormed all (arm_body s.first) × All (IsFormedArm all) s.others = arms-formed all (arm_body s.first) s.others parts.2 in
    (parts.0.count, parts.1, arms.0, arms.1)

steps-formed : (all : List Branching) (steps : List Inst) (rest : Body) → IsFormed all (steps_then steps rest) → IsFormed all rest
steps-formed all [] rest h = h
steps-formed all (inst ∷ steps) rest h = steps-formed all steps rest h.1

steps-open : (steps : List Inst) (rest : Body) → opens (steps_then steps rest) ≡ opens rest
steps-open [] rest = refl
steps-open (inst ∷ steps) rest = steps-open steps rest

loop-formed : (all : List Branching) (l : Loop) → IsFormed all (item_then (item.Loop l) nothing)
    → IsFilled all (front_of l.header) × IsFilled all (front_of l.next) × IsFilled all (front_of l.merge) × IsFormedOpening all l.opening × IsFormed all (sequence_body l.continuing)
loop-formed all l h =
    let parts : IsFormed all
    (plain.Loops (entry_of l.entry) (front_of l.header) l.control (steps_then l.steps (opening_body l.opening)) (front_of l.next) (sequence_body l.continuing) (front_of l.merge) nothing) =
    subst (IsFormed all) (then_loop l nothing) h in (
      parts.1,
      parts.2,
      parts.3,
      record { begins = sym (steps-open l.steps (opening_body l.opening)) ∙ parts.0; formed = steps-formed all l.steps (opening_body l.opening) parts.4 },
      parts.5,
    )

pub choice_merge : (all : List Branching) (c : Choice) → IsFormed all (item_then (item.Choice c) nothing) → IsFilled all (front_of c.merge)
choice_merge all c h = (choice-formed all c h).0

pub choice_first : (all : List Branching) (c : Choice) → IsFormed all (item_then (item.Choice c) nothing) → IsFormedArm all c.first
choice_first all c h = (choice-formed all c h).1

pub choice_second : (all : List Branching) (c : Choice) → IsFormed all (item_then (item.Choice c) nothing) → IsFormedArm all c.second
choice_second all c h = (choice-formed all c h).2

pub switch_count : (all : List Branching) (s : Switch) (cases : List Case) → cases ≡ s.cases → IsFormed all (item_then (item.Switch s) nothing) → length cases ≤ 16383
switch_count all s cases same h = subst (λ n. n ≤ 16383) (length-map s.cases case_of ∙ ap length (sym same)) (switch-formed all s h).0

pub switch_merge : (all : List Branching) (s : Switch) → IsFormed all (item_then (item.Switch s) nothing) → IsFilled all (front_of s.merge)
switch_merge all s h = (switch-formed all s h).1

pub switch_first : (all : List Branching) (s : Switch) → IsFormed all (item_then (item.Switch s) nothing) → IsFormedArm all s.first
switch_first all s h = (switch-formed all s h).2

pub switch_others : (all : List Branching) (s : Switch) (others : List Arm) → others ≡ s.others → IsFormed all (item_then (item.Switch s) nothing) → All (IsFormedArm all) others
switch_others all s others same h = subst (All (IsFormedArm all)) (sym same) (switch-formed all s h).3

pub loop_header : (all : List Branching) (l : Loop) → IsFormed all (item_then (item.Loop l) nothing) → IsFilled all (front_of l.header)
loop_header all l h = (loop-formed all l h).0

pub loop_next : (all : List Branching) (l : Loop) → IsFormed all (item_then (item.Loop l) nothing) → IsFilled all (front_of l.next)
loop_next all l h = (loop-formed all l h).1

pub loop_merge : (all : List Branching) (l : Loop) → IsFormed all (item_then (item.Loop l) nothing) → IsFilled all (front_of l.merge)
loop_merge all l h = (loop-formed all l h).2

pub loop_opening : (all : List Branching) (l : Loop) → IsFormed all (item_then (item.Loop l) nothing) → IsFormedOpening all l.opening
loop_opening all l h = (loop-formed all l h).3

pub loop_continuing : (all : List Branching) (l : Loop) → IsFormed all (item_then (item.Loop l) nothing) → IsFormed all (sequence_body l.continuing)
loop_continuing all l h = (loop-formed all l h).4

-- ---- sequences

pub sequence_items : (all : List Branching) (s : Sequence) (items : List Item) → items ≡ (out-Sequence s).items → IsFormed all (sequence_body s)
    → IsFormed all (items_then items (end_body (out-Sequence s).end))
sequence_items all s items same h = subst (λ z. IsFormed all (items_then z (end_body (out-Sequence s).end))) (sym same) h
