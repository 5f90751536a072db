-- The depth of each item of the tree.
use Rattle.std.proofs.Common.{◌≡◌, ℕ, ◌+◌, ◌<◌, max, List, [], ◌∷◌, ◌++◌, length, take, get_or, refl, sym, ap, ◌∙◌, arith}
use Rattle.spv_module.specs.declared.inst.Inst.{Inst}
use Rattle.spv_bodies.specs.Bodies.{Body, depth, depth_of_arms}
use Rattle.spv_tree.specs.declared.body.Split.{Split}
use Rattle.spv_tree.specs.declared.body.Choice.{Choice}
use Rattle.spv_tree.specs.declared.body.Switch.{Switch}
use Rattle.spv_tree.specs.declared.body.Loop.{Loop}
use Rattle.spv_tree.specs.declared.body.Block.{Block}
use Rattle.spv_tree.specs.declared.body.Leaving.{Leaving}
use Rattle.spv_tree.specs.declared.body.Entered.{Entered, out-Entered}
use Rattle.spv_tree.specs.declared.body.Next.{Next}
use Rattle.spv_tree.specs.declared.body.Next.TheVariants as next
use Rattle.spv_tree.specs.declared.body.Exit.{Exit}
use Rattle.spv_tree.specs.declared.body.Arm.{Arm}
use Rattle.spv_tree.specs.declared.body.Arm as arm
use Rattle.spv_tree.specs.declared.body.Opening.{Opening}
use Rattle.spv_tree.specs.declared.body.Opening as opening
use Rattle.spv_tree.specs.declared.body.Item as item
use Rattle.spv_tree.specs.declared.body.Item.{Item}
use Rattle.spv_tree.specs.declared.body.Sequence.{Sequence, out-Sequence}
use Rattle.spv_tree.specs.declared.body.End.{End}
use Rattle.spv_tree.specs.declared.body.End.TheVariants as end
use Rattle.spv_tree.specs.Tree.{going_on, steps_then, end_body, item_then, items_then, sequence_body, arm_body, arms_of, opening_body}
use Rattle.spv_tree.specs.Depth.{capped, more}
use Rattle.spv_tree.proofs.Equations.{then_op, then_choice, then_switch, then_loop, then_split, then_push, one_more, arm_exit, arm_block, arm_loop, opening_branch, opening_split}

-- ---- numbers

capped-max : (a b : ℕ) → capped (max a b) ≡ max (capped a) (capped b)
capped-max a b = omega arith

capped-around : (a b c : ℕ) → capped (max (max a b + 1) c) ≡ max (more (max (capped a) (capped b))) (capped c)
capped-around a b c = omega arith

max-zero : (a : ℕ) → a ≡ max 0 a
max-zero a = omega arith

max-shift : (a b c : ℕ) → max a (max b c) ≡ max (max a b) c
max-shift a b c = omega arith

max-none : (a : ℕ) → a ≡ max a 0
max-none a = omega arith

arms-around : (a c : ℕ) → capped (max (a + 1) c) ≡ max (more (capped a)) (capped c)
arms-around a c = omega arith

-- ---- items

end-depth : (e : End) → depth (end_body e) ≡ 0
end-depth (end.Exit exit) = refl
end-depth end.Return = refl
end-depth (end.ReturnValue value) = refl
end-depth end.Unreachable = refl

arms-push : (first : Body) (arms : List Arm) (a : Arm) → depth_of_arms (arms_of first (arms ++ a ∷ [])) ≡ max (depth_of_arms (arms_of first arms)) (depth (arm_body a))
arms-push first [] a = refl
arms-push first (b ∷ arms) a =
    ap (max (depth first)) (arms-push (arm_body b) arms a) ∙ max-shift (depth first) (depth_of_arms (arms_of (arm_body b) arms)) (depth (arm_body a))

going-on-depth : (n : Next) (rest : Body) → depth (going_on n rest) ≡ depth rest
going-on-depth (next.Block label) rest = refl
going-on-depth next.Branch rest = refl

steps-depth : (steps : List Inst) (rest : Body) → depth (steps_then steps rest) ≡ depth rest
steps-depth [] rest = refl
steps-depth (inst ∷ steps) rest = steps-depth steps rest

pub op-depth : (i : Item) (inst : Inst) → i ≡ item.Op inst → (rest : Body) → capped (depth (item_then i rest)) ≡ max 0 (capped (depth rest))
op-depth i inst is rest = ap (λ z. capped (depth (item_then z rest))) is ∙ ap (λ b. capped (depth b)) (then_op inst rest) ∙ max-zero (capped (depth rest))

pub split-depth : (i : Item) (s : Split) → i ≡ item.Split s → (rest : Body) → capped (depth (item_then i rest)) ≡ max 0 (capped (depth rest))
split-depth i s is rest = ap (λ z. capped (depth (item_then z rest))) is ∙ ap (λ b. capped (depth b)) (then_split s rest) ∙ ap capped (going-on-depth s.next rest) ∙ max-zero (capped (depth rest))

pub choice-depth : (c : Choice) (d first second : ℕ) → first ≡ capped (depth (arm_body c.first)) → second ≡ capped (depth (arm_body c.second)) → d ≡ more (max first second)
    → (rest : Body) → capped (depth (item_then (item.Choice c) rest)) ≡ max d (capped (depth rest))
choice-depth c d first second f s e rest =
    ap (λ b. capped (depth b)) (then_choice c rest) ∙ capped-around (depth (arm_body c.first)) (depth (arm_body c.second)) (depth rest)
    ∙ ap (λ n. max n (capped (depth rest))) (sym (e ∙ ap (λ n. more (max n second)) f ∙ ap (λ n. more (max (capped (depth (arm_body c.first))) n)) s))

pub switch-depth : (s : Switch) (d first others : ℕ) → first ≡ capped (depth (arm_body s.first)) → ((b : Body) → capped (depth_of_arms (arms_of b s.others)) ≡ max (capped (depth b)) others)
    → d ≡ more (max first others) → (rest : Body) → capped (depth (item_then (item.Switch s) rest)) ≡ max d (capped (depth rest))
switch-depth s d first others f o e rest =
    ap (λ b. capped (depth b)) (then_switch s rest) ∙ arms-around (depth_of_arms (arms_of (arm_body s.first) s.others)) (depth rest)
    ∙ ap (λ n. max (more n) (capped (depth rest))) (o (arm_body s.first) ∙ ap (λ n. max n others) (sym f))
    ∙ ap (λ n. max n (capped (depth rest))) (sym e)

pub loop-depth : (l : Loop) (d inner continuing : ℕ) → inner ≡ capped (depth (opening_body l.opening)) → continuing ≡ capped (depth (sequence_body l.continuing)) → d ≡ more (max inner continuing)
    → (rest : Body) → capped (depth (item_then (item.Loop l) rest)) ≡ max d (capped (depth rest))
loop-depth l d inner continuing i c e rest =
    ap (λ b. capped (depth b)) (then_loop l rest)
    ∙ ap (λ n. capped (max (max n (depth (sequence_body l.continuing)) + 1) (depth rest))) (steps-depth l.steps (opening_body l.opening))
    ∙ capped-around (depth (opening_body l.opening)) (depth (sequence_body l.continuing)) (depth rest)
    ∙ ap (λ n. max n (capped (depth rest))) (sym (e ∙ ap (λ n. more (max n continuing)) i ∙ ap (λ n. more (max (capped (depth (opening_body l.opening))) n)) c))

-- one item more
pub items-depth : (items : List Item) (k : ℕ) (i : Item) (d e m : ℕ) → k < length items → i ≡ get_or items k i
    → ((rest : Body) → capped (depth (items_then (take k items) rest)) ≡ max d (capped (depth rest)))
    → ((rest : Body) → capped (depth (item_then i rest)) ≡ max e (capped (depth rest))) → m ≡ max d e
    → (rest : Body) → capped (depth (items_then (take (k + 1) items) rest)) ≡ max m (capped (depth rest))
items-depth items k i d e m lt is before here made rest =
    ap (λ z. capped (depth (items_then z rest))) (one_more items k i lt is)
    ∙ ap (λ b. capped (depth b)) (then_push (take k items) i rest) ∙ before (item_then i rest) ∙ ap (max d) (here rest) ∙ max-shift d e (capped (depth rest))
    ∙ ap (λ n. max n (capped (depth rest))) (sym made)

pub sequence-depth : (s : Sequence) (d : ℕ) → ((rest : Body) → capped (depth (items_then (out-Sequence s).items rest)) ≡ max d (capped (depth rest))) → d ≡ capped (depth (sequence_body s))
sequence-depth s d h = max-none d ∙ ap (λ n. max d (capped n)) (sym (end-depth (out-Sequence s).end)) ∙ sym (h (end_body (out-Sequence s).end))

-- ---- arms

-- one arm more
pub arms-depth : (arms : List Arm) (k : ℕ) (a : Arm) (d e m : ℕ) → k < length arms → a ≡ get_or arms k a
    → ((first : Body) → capped (depth_of_arms (arms_of first (take k arms))) ≡ max (capped (depth first)) d)
    → e ≡ capped (depth (arm_body a)) → m ≡ max d e → (first : Body) → capped (depth_of_arms (arms_of first (take (k + 1) arms))) ≡ max (capped (depth first)) m
arms-depth arms k a d e m lt is before here made first =
    ap (λ z. capped (depth_of_arms (arms_of first z))) (one_more arms k a lt is)
    ∙ ap capped (arms-push first (take k arms) a) ∙ capped-max (depth_of_arms (arms_of first (take k arms))) (depth (arm_body a))
    ∙ ap (λ n. max n (capped (depth (arm_body a)))) (before first) ∙ sym (max-shift (capped (depth first)) d (capped (depth (arm_body a))))
    ∙ ap (λ n. max (capped (depth first)) n) (ap (max d) (sym here) ∙ sym made)

pub exit-depth : (a : Arm) (exit : Exit) → a ≡ arm.Exit exit → 0 ≡ capped (depth (arm_body a))
exit-depth a exit is = sym (ap (λ z. capped (depth (arm_body z))) is ∙ ap (λ b. capped (depth b)) (arm_exit exit))

pub block-depth : (a : Arm) (block : Block) (d : ℕ) → a ≡ arm.Block block → d ≡ capped (depth (sequence_body block.body)) → d ≡ capped (depth (arm_body a))
block-depth a block d is e = e ∙ sym (ap (λ z. capped (depth (arm_body z))) is ∙ ap (λ b. capped (depth b)) (arm_block block))

pub entered-depth : (a : Arm) (e : Entered) (l : Loop) (d r m : ℕ) → a ≡ arm.Loop e → l ≡ (out-Entered e).turn.value
    → ((rest : Body) → capped (depth (item_then (item.Loop l) rest)) ≡ max d (capped (depth rest)))
    → r ≡ capped (depth (sequence_body (out-Entered e).rest)) → m ≡ max d r → m ≡ capped (depth (arm_body a))
entered-depth a e l d r m is same turn rest made =
    made ∙ ap (max d) rest ∙ sym (turn (sequence_body (out-Entered e).rest))
    ∙ ap (λ z. capped (depth (item_then (item.Loop z) (sequence_body (out-Entered e).rest)))) same ∙ sym (ap (λ z. capped (depth (arm_body z))) is ∙ ap (λ b. capped (depth b)) (arm_loop e))

-- ---- how a loop opens

pub branch-depth : (o : Opening) (a : Arm) (d : ℕ) → o ≡ opening.Branch a → d ≡ capped (depth (arm_body a)) → d ≡ capped (depth (opening_body o))
branch-depth o a d is e = e ∙ sym (ap (λ z. capped (depth (opening_body z))) is ∙ ap (λ b. capped (depth b)) (opening_branch a))

pub leaving-depth : (o : Opening) (l : Leaving) (d : ℕ) → o ≡ opening.Split l → d ≡ capped (depth (arm_body l.arm)) → d ≡ capped (depth (opening_body o))
leaving-depth o l d is e = e ∙ sym (ap (λ z. capped (depth (opening_body z))) is ∙ ap (λ b. capped (depth b)) (opening_split l))
