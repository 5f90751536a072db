-- The branches with values of each item of the tree.
use Rattle.std.proofs.Common.{◌≡◌, ℕ, ◌+◌, ◌<◌, List, [], ◌∷◌, ◌++◌, length, take, get_or, refl, sym, ap, ◌∙◌, append_assoc, append-nil}
use Rattle.spv_module.specs.declared.inst.Inst.{Inst}
use Rattle.spv_bodies.specs.Bodies.{Body}
use Rattle.spv_bodies.specs.Listing.{Branching, branches, branches_of_arms, entering}
use Rattle.spv_tree.specs.declared.body.Exit.{Exit}
use Rattle.spv_tree.specs.declared.body.Split.{Split}
use Rattle.spv_tree.specs.declared.body.Choice.{Choice}
use Rattle.spv_tree.specs.declared.body.Switch.{Switch}
use Rattle.spv_tree.specs.declared.body.Loop.{Loop}
use Rattle.spv_tree.specs.declared.body.Block.{Block}
use Rattle.spv_tree.specs.declared.body.Leaving.{Leaving}
use Rattle.spv_tree.specs.declared.body.Entered.{Entered, out-Entered}
use Rattle.spv_tree.specs.declared.body.Next.{Next}
use Rattle.spv_tree.specs.declared.body.Next.TheVariants as next
use Rattle.spv_tree.specs.declared.body.Arm.{Arm}
use Rattle.spv_tree.specs.declared.body.Arm as arm
use Rattle.spv_tree.specs.declared.body.Opening.{Opening}
use Rattle.spv_tree.specs.declared.body.Opening as opening
use Rattle.spv_tree.specs.declared.body.Item as item
use Rattle.spv_tree.specs.declared.body.Item.{Item}
use Rattle.spv_tree.specs.Tree.{entry_of, exit_of, going_on, steps_then, item_then, items_then, sequence_body, arm_body, arms_of, opening_body}
use Rattle.spv_tree.specs.Branches.{branches_of_list}
use Rattle.spv_tree.proofs.Equations.{then_op, then_choice, then_switch, then_loop, then_split, then_push, one_more, arm_exit, arm_block, arm_loop, opening_branch, opening_split}

-- ---- lists

regroup : (a b c : List Branching) → (a ++ b) ++ c ≡ a ++ (b ++ c)
regroup a b c = append_assoc a b c

-- what follows two parts that were added
two : (f0 f1 f2 a b c : List Branching) → f1 ≡ f0 ++ a → f2 ≡ f1 ++ b → f2 ++ c ≡ f0 ++ (a ++ (b ++ c))
two f0 f1 f2 a b c e1 e2 = ap (λ z. z ++ c) (e2 ∙ ap (λ z. z ++ b) e1) ∙ regroup (f0 ++ a) b c ∙ regroup f0 a (b ++ c)

-- ---- items

steps-branches : (block : ℕ) (steps : List Inst) (rest : Body) → branches block (steps_then steps rest) ≡ branches block rest
steps-branches block [] rest = refl
steps-branches block (inst ∷ steps) rest = steps-branches block steps rest

arms-branches : (block : ℕ) (first : Body) (arms : List Arm) → branches_of_arms block (arms_of first arms) ≡ branches block first ++ branches_of_list block arms
arms-branches block first [] = sym (append-nil (branches block first))
arms-branches block first (a ∷ arms) = ap (λ z. branches block first ++ z) (arms-branches block (arm_body a) arms)

pub op-gathers : (i : Item) (inst : Inst) → i ≡ item.Op inst → (f : List Branching) (block : ℕ) (rest : Body) → f ++ branches block rest ≡ f ++ branches block (item_then i rest)
op-gathers i inst is f block rest = ap (λ b. f ++ branches block b) (sym (ap (λ z. item_then z rest) is ∙ then_op inst rest))

pub split-gathers : (s : Split) (block last : ℕ) (f0 f1 : List Branching) → ((rest : Body) → branches block (going_on s.next rest) ≡ branches last rest)
    → f1 ≡ f0 ++ (block, exit_of s.exit) ∷ [] → (rest : Body) → f1 ++ branches last rest ≡ f0 ++ branches block (item_then (item.Split s) rest)
split-gathers s block last f0 f1 on e rest =
    ap (λ z. z ++ branches last rest) e ∙ regroup f0 ((block, exit_of s.exit) ∷ []) (branches last rest)
    ∙ ap (λ z. f0 ++ (block, exit_of s.exit) ∷ z) (sym (on rest)) ∙ ap (λ b. f0 ++ branches block b) (sym (then_split s rest))

pub on-block : (n : Next) (block label : ℕ) → n ≡ next.Block label → (rest : Body) → branches block (going_on n rest) ≡ branches label rest
on-block n block label is rest = ap (λ z. branches block (going_on z rest)) is

pub on-branch : (n : Next) (block : ℕ) → n ≡ next.Branch → (rest : Body) → branches block (going_on n rest) ≡ branches block rest
on-branch n block is rest = ap (λ z. branches block (going_on z rest)) is

pub choice-gathers : (c : Choice) (block : ℕ) (f0 f1 f2 : List Branching) → f1 ≡ f0 ++ branches block (arm_body c.first) → f2 ≡ f1 ++ branches block (arm_body c.second)
    → (rest : Body) → f2 ++ branches c.merge.label rest ≡ f0 ++ branches block (item_then (item.Choice c) rest)
choice-gathers c block f0 f1 f2 e1 e2 rest =
    two f0 f1 f2 (branches block (arm_body c.first)) (branches block (arm_body c.second)) (branches c.merge.label rest) e1 e2
    ∙ ap (λ b. f0 ++ branches block b) (sym (then_choice c rest))

pub switch-gathers : (s : Switch) (block : ℕ) (f0 f1 f2 : List Branching) → f1 ≡ f0 ++ branches block (arm_body s.first) → f2 ≡ f1 ++ branches_of_list block s.others
    → (rest : Body) → f2 ++ branches s.merge.label rest ≡ f0 ++ branches block (item_then (item.Switch s) rest)
switch-gathers s block f0 f1 f2 e1 e2 rest =
    two f0 f1 f2 (branches block (arm_body s.first)) (branches_of_list block s.others) (branches s.merge.label rest) e1 e2
    ∙ ap (λ z. f0 ++ z) (sym (regroup (branches block (arm_body s.first)) (branches_of_list block s.others) (branches s.merge.label rest)))
    ∙ ap (λ z. f0 ++ (z ++ branches s.merge.label rest)) (sym (arms-branches block (arm_body s.first) s.others))
    ∙ ap (λ b. f0 ++ branches block b) (sym (then_switch s rest))

pub loop-gathers : (l : Loop) (block : ℕ) (f0 f1 f2 f3 : List Branching) → f1 ≡ f0 ++ entering block l.header.label (entry_of l.entry)
    → f2 ≡ f1 ++ branches l.header.label (opening_body l.opening) → f3 ≡ f2 ++ branches l.next.label (sequence_body l.continuing)
    → (rest : Body) → f3 ++ branches l.merge.label rest ≡ f0 ++ branches block (item_then (item.Loop l) rest)
loop-gathers l block f0 f1 f2 f3 e1 e2 e3 rest =
    two f1 f2 f3 (branches l.header.label (opening_body l.opening)) (branches l.next.label (sequence_body l.continuing)) (branches l.merge.label rest) e2 e3
    ∙ ap (λ z. f1 ++ (z ++ (branches l.next.label (sequence_body l.continuing) ++ branches l.merge.label rest))) (sym (steps-branches l.header.label l.steps (opening_body l.opening)))
    ∙ ap (λ z. z ++ inside) e1 ∙ regroup f0 (entering block l.header.label (entry_of l.entry)) inside
    ∙ ap (λ b. f0 ++ branches block b) (sym (then_loop l rest))
  where
    inside : List Branching
    inside = branches l.header.label (steps_then l.steps (opening_body l.opening)) ++ (branches l.next.label (sequence_body l.continuing) ++ branches l.merge.label rest)

-- one item more
pub items-gather : (items : List Item) (k : ℕ) (i : Item) (block last after : ℕ) (f0 f1 f2 : List Branching) → k < length items → i ≡ get_or items k i
    → ((rest : Body) → f1 ++ branches last rest ≡ f0 ++ branches block (items_then (take k items) rest))
    → ((rest : Body) → f2 ++ branches after rest ≡ f1 ++ branches last (item_then i rest))
    → (rest : Body) → f2 ++ branches after rest ≡ f0 ++ branches block (items_then (take (k + 1) items) rest)
items-gather items k i block last after f0 f1 f2 lt is before here rest =
    here rest ∙ before (item_then i rest)
    ∙ sym (ap (λ z. f0 ++ branches block (items_then z rest)) (one_more items k i lt is) ∙ ap (λ b. f0 ++ branches block b) (then_push (take k items) i rest))

-- ---- arms

list-push : (block : ℕ) (arms : List Arm) (a : Arm) → branches_of_list block (arms ++ a ∷ []) ≡ branches_of_list block arms ++ branches block (arm_body a)
list-push block [] a = append-nil (branches block (arm_body a))
list-push block (b ∷ arms) a =
    ap (λ z. branches block (arm_body b) ++ z) (list-push block arms a) ∙ sym (regroup (branches block (arm_body b)) (branches_of_list block arms) (branches block (arm_body a)))

-- one arm more
pub arms-gather : (arms : List Arm) (k : ℕ) (a : Arm) (block : ℕ) (f0 f1 f2 : List Branching) → k < length arms → a ≡ get_or arms k a
    → f1 ≡ f0 ++ branches_of_list block (take k arms) → f2 ≡ f1 ++ branches block (arm_body a) → f2 ≡ f0 ++ branches_of_list block (take (k + 1) arms)
arms-gather arms k a block f0 f1 f2 lt is before here =
    here ∙ ap (λ z. z ++ branches block (arm_body a)) before ∙ regroup f0 (branches_of_list block (take k arms)) (branches block (arm_body a))
    ∙ ap (λ z. f0 ++ z) (sym (ap (branches_of_list block) (one_more arms k a lt is) ∙ list-push block (take k arms) a))

pub exit-gathers : (a : Arm) (exit : Exit) (block : ℕ) → a ≡ arm.Exit exit → (block, exit_of exit) ∷ [] ≡ branches block (arm_body a)
exit-gathers a exit block is = sym (ap (λ z. branches block (arm_body z)) is ∙ ap (branches block) (arm_exit exit))

pub block-gathers : (a : Arm) (inner : Block) (block : ℕ) → a ≡ arm.Block inner → branches inner.label (sequence_body inner.body) ≡ branches block (arm_body a)
block-gathers a inner block is = sym (ap (λ z. branches block (arm_body z)) is ∙ ap (branches block) (arm_block inner))

pub entered-gathers : (a : Arm) (e : Entered) (l : Loop) (block last : ℕ) (f0 f1 : List Branching) → a ≡ arm.Loop e → l ≡ (out-Entered e).turn.value
    → ((rest : Body) → f1 ++ branches last rest ≡ f0 ++ branches block (item_then (item.Loop l) rest))
    → f1 ++ branches last (sequence_body (out-Entered e).rest) ≡ f0 ++ branches block (arm_body a)
entered-gathers a e l block last f0 f1 is same turn =
    turn (sequence_body (out-Entered e).rest) ∙ ap (λ z. f0 ++ branches block (item_then (item.Loop z) (sequence_body (out-Entered e).rest))) same
    ∙ ap (λ z. f0 ++ z) (sym (ap (λ z. branches block (arm_body z)) is ∙ ap (branches block) (arm_loop e)))

-- ---- how a loop opens

pub branch-gathers : (o : Opening) (a : Arm) (block : ℕ) → o ≡ opening.Branch a → branches block (arm_body a) ≡ branches block (opening_body o)
branch-gathers o a block is = sym (ap (λ z. branches block (opening_body z)) is ∙ ap (branches block) (opening_branch a))

pub leaving-gathers : (o : Opening) (l : Leaving) (block : ℕ) (f0 f1 : List Branching) → o ≡ opening.Split l → f1 ≡ f0 ++ (block, exit_of l.exit) ∷ []
    → f1 ++ branches block (arm_body l.arm) ≡ f0 ++ branches block (opening_body o)
leaving-gathers o l block f0 f1 is e =
    ap (λ z. z ++ branches block (arm_body l.arm)) e ∙ regroup f0 ((block, exit_of l.exit) ∷ []) (branches block (arm_body l.arm))
    ∙ ap (λ z. f0 ++ z) (sym (ap (λ z. branches block (opening_body z)) is ∙ ap (branches block) (opening_split l)))
