-- The lines of each item of the tree, and what makes each part sound.
use Rattle.std.proofs.Common.{◌≡◌, ℕ, suc, ◌+◌, ◌<◌, Bool, true, false, List, [], ◌∷◌, ◌++◌, length, map, take, drop, get_or, refl, sym, ap, ◌∙◌, append_assoc, append-nil, arith}
use Rattle.std.proofs.Math.Seq.{drop-cons}
use Rattle.std.proofs.lemmas.Bool.{false≢true}
use Rattle.spv_module.specs.declared.inst.Inst.{Inst}
use Rattle.spv_bodies.specs.Bodies.{Body, begins_at_branch, target}
use Rattle.spv_bodies.specs.Bodies as plain
use Rattle.spv_bodies.specs.Listing.{Branching, arm_lines, branch_line, first_target, front_lines, instruction, label_line, lines, lines_of_arms, loop_line, pair_words, selection_line, split_line}
use Rattle.spv_opcodes.specs.declared.op.TheConstants as op
use Rattle.spv_tree.specs.declared.body.Exit.{Exit}
use Rattle.spv_tree.specs.declared.body.Split.{Split}
use Rattle.spv_tree.specs.declared.body.Choice.{Choice}
use Rattle.spv_tree.specs.declared.body.Switch.{Switch}
use Rattle.spv_tree.specs.declared.body.Loop.{Loop}
use Rattle.spv_tree.specs.declared.body.Block.{Block}
use Rattle.spv_tree.specs.declared.body.Leaving.{Leaving}
use Rattle.spv_tree.specs.declared.body.Entered.{Entered, out-Entered}
use Rattle.spv_tree.specs.declared.body.Next.TheVariants as next
use Rattle.spv_tree.specs.declared.body.Arm.{Arm}
use Rattle.spv_tree.specs.declared.body.Arm as arm
use Rattle.spv_tree.specs.declared.body.Opening.{Opening}
use Rattle.spv_tree.specs.declared.body.Opening as opening
use Rattle.spv_tree.specs.declared.body.Item as item
use Rattle.spv_tree.specs.declared.body.Item.{Item}
use Rattle.spv_tree.specs.Tree.{arm_body, arms_of, case_of, entry_of, exit_of, front_of, going_on, item_then, opening_body, sequence_body, steps_then}
use Rattle.spv_tree.specs.Lines.{AddsItem, IsFormedOpening, coming_lines, is_branch, leads_on, lines_left, list_lines}
use Rattle.spv_tree.proofs.Formed.{branch-begins}
use Rattle.spv_tree.proofs.Equations.{then_op, then_choice, then_switch, then_loop, then_split, one_more, arm_exit, arm_block, arm_loop, opening_branch, opening_split}

-- ---- lists

-- what follows what was added
chain : (w0 w1 x y : List (List ℕ)) → w1 ≡ w0 ++ x → w1 ++ y ≡ w0 ++ (x ++ y)
chain w0 w1 x y e = ap (λ z. z ++ y) e ∙ append_assoc w0 x y

following : (k : ℕ) → k + 1 ≡ suc k
following k = omega arith

-- the elements from the next on
pub from_next : {X : Type 0} (xs : List X) (k : ℕ) (x : X) → k < length xs → x ≡ get_or xs k x → drop k xs ≡ x ∷ drop (k + 1) xs
from_next xs k x lt is = drop-cons xs k x lt ∙ ap (λ z. z ∷ drop (suc k) xs) (sym is) ∙ ap (λ n. x ∷ drop n xs) (sym (following k))

-- ---- arms

pub exit-target : (a : Arm) (exit : Exit) → a ≡ arm.Exit exit → exit.target ≡ target (arm_body a)
exit-target a exit is = sym (ap (λ z. target (arm_body z)) is ∙ ap target (arm_exit exit))

pub block-target : (a : Arm) (block : Block) → a ≡ arm.Block block → block.label ≡ target (arm_body a)
block-target a block is = sym (ap (λ z. target (arm_body z)) is ∙ ap target (arm_block block))

loop-is : (e : Entered) → arm_body (arm.Loop e)
    ≡ plain.Loops (entry_of (out-Entered e).turn.value.entry) (front_of (out-Entered e).turn.value.header) (out-Entered e).turn.value.control
    (steps_then (out-Entered e).turn.value.steps (opening_body (out-Entered e).turn.value.opening)) (front_of (out-Entered e).turn.value.next)
    (sequence_body (out-Entered e).turn.value.continuing) (front_of (out-Entered e).turn.value.merge) (sequence_body (out-Entered e).rest)
loop-is e = arm_loop e ∙ then_loop (out-Entered e).turn.value (sequence_body (out-Entered e).rest)

pub entered-target : (a : Arm) (e : Entered) (l : Loop) → a ≡ arm.Loop e → l ≡ (out-Entered e).turn.value → l.header.label ≡ target (arm_body a)
entered-target a e l is same = ap (λ z. z.header.label) same ∙ sym (ap (λ z. target (arm_body z)) is ∙ ap target (loop-is e))

pub loop-target : (i : Item) (l : Loop) → i ≡ item.Loop l → (rest : Body) → l.header.label ≡ target (item_then i rest)
loop-target i l is rest = sym (ap (λ z. target (item_then z rest)) is ∙ ap target (then_loop l rest))

pub exit-lines : (all : List Branching) (a : Arm) (exit : Exit) (w : List (List ℕ)) → a ≡ arm.Exit exit → w ≡ w ++ arm_lines all (arm_body a)
exit-lines all a exit w is = sym (ap (λ z. w ++ arm_lines all z) (ap arm_body is ∙ arm_exit exit) ∙ append-nil w)

pub block-lines : (all : List Branching) (a : Arm) (block : Block) (w0 w1 : List (List ℕ)) → a ≡ arm.Block block → w1 ≡ w0 ++ label_line block.label ∷ []
    → w1 ++ lines all [] (sequence_body block.body) ≡ w0 ++ arm_lines all (arm_body a)
block-lines all a block w0 w1 is e =
    chain w0 w1 (label_line block.label ∷ []) (lines all [] (sequence_body block.body)) e ∙ ap (λ z. w0 ++ arm_lines all z) (sym (ap arm_body is ∙ arm_block block))

-- a loop that the arm's branch goes to, and what follows it
pub entered-lines : (all : List Branching) (a : Arm) (e : Entered) (l : Loop) (after : Bool) (w0 w1 : List (List ℕ)) → a ≡ arm.Loop e → l ≡ (out-Entered e).turn.value
    → AddsItem all true after w0 w1 (item.Loop l) (sequence_body (out-Entered e).rest)
    → w1 ++ lines all [] (sequence_body (out-Entered e).rest) ≡ w0 ++ arm_lines all (arm_body a)
entered-lines all a e l after w0 w1 is same adds =
    ap (λ z. w1 ++ lines_left z all (sequence_body (out-Entered e).rest)) (sym (adds.last ∙ loop-leads l)) ∙ adds.same
    ∙ ap (λ z. w0 ++ arm_lines all (item_then (item.Loop z) (sequence_body (out-Entered e).rest))) same ∙ ap (λ z. w0 ++ arm_lines all z) (sym (ap arm_body is ∙ arm_loop e))
  where
    loop-leads : (t : Loop) → leads_on (item.Loop t) ≡ false
    loop-leads t = refl

-- one arm more
pub arms-lines : (all : List Branching) (arms : List Arm) (k : ℕ) (a : Arm) (w0 w1 w2 : List (List ℕ)) → k < length arms → a ≡ get_or arms k a
    → w1 ≡ w0 ++ list_lines all (take k arms) → w2 ≡ w1 ++ arm_lines all (arm_body a) → w2 ≡ w0 ++ list_lines all (take (k + 1) arms)
arms-lines all arms k a w0 w1 w2 lt is before here =
    here ∙ chain w0 w1 (list_lines all (take k arms)) (arm_lines all (arm_body a)) before
    ∙ ap (λ z. w0 ++ z) (sym (ap (list_lines all) (one_more arms k a lt is) ∙ push (take k arms)))
  where
    push : (bs : List Arm) → list_lines all (bs ++ a ∷ []) ≡ list_lines all bs ++ arm_lines all (arm_body a)
    push [] = append-nil (arm_lines all (arm_body a))
    push (b ∷ bs) = ap (λ z. arm_lines all (arm_body b) ++ z) (push bs) ∙ sym (append_assoc (arm_lines all (arm_body b)) (list_lines all bs) (arm_lines all (arm_body a)))

arms-listed : (all : List Branching) (first : Body) (arms : List Arm) → lines_of_arms all (arms_of first arms) ≡ arm_lines all first ++ list_lines all arms
arms-listed all first [] = sym (append-nil (arm_lines all first))
arms-listed all first (a ∷ arms) = ap (λ z. arm_lines all first ++ z) (arms-listed all (arm_body a) arms)

arms-first : (first : Body) (arms : List Arm) → first_target (arms_of first arms) ≡ target first
arms-first first [] = refl
arms-first first (a ∷ arms) = refl

-- ---- how a loop opens

-- what begins at a branch has that, and the blocks behind it
branch-opens : (all : List Branching) (b : Body) → begins_at_branch b ≡ true → lines all [] b ≡ branch_line (target b) ∷ arm_lines all b
branch-opens all (plain.Leaves exit) h = refl
branch-opens all (plain.Enters label body) h = refl
branch-opens all (plain.Loops (plain.ByBranch values) header control inner next continuing merge rest) h = refl
branch-opens all (plain.Loops plain.InPlace header control inner next continuing merge rest) h = absurd (false≢true h)
branch-opens all (plain.Finishes words) h = absurd (false≢true h)
branch-opens all (plain.Step words body) h = absurd (false≢true h)
branch-opens all (plain.Splits condition on exit body) h = absurd (false≢true h)
branch-opens all (plain.Selects control condition first second merge rest) h = absurd (false≢true h)
branch-opens all (plain.Switches control selector cases arms merge rest) h = absurd (false≢true h)

pub branch-lines : (all : List Branching) (o : Opening) (a : Arm) (t : ℕ) (w0 w1 : List (List ℕ)) → o ≡ opening.Branch a → begins_at_branch (arm_body a) ≡ true → t ≡ target (arm_body a) → w1 ≡ w0 ++ branch_line t ∷ []
    → w1 ++ arm_lines all (arm_body a) ≡ w0 ++ lines all [] (opening_body o)
branch-lines all o a t w0 w1 is begins to e =
    chain w0 w1 (branch_line t ∷ []) (arm_lines all (arm_body a)) e ∙ ap (λ n. w0 ++ branch_line n ∷ arm_lines all (arm_body a)) to
    ∙ ap (λ z. w0 ++ z) (sym (branch-opens all (arm_body a) begins)) ∙ ap (λ b. w0 ++ lines all [] b) (sym (ap opening_body is ∙ opening_branch a))

pub leaving-lines : (all : List Branching) (o : Opening) (l : Leaving) (t : ℕ) (w0 w1 : List (List ℕ)) → o ≡ opening.Split l → t ≡ target (arm_body l.arm)
    → w1 ≡ w0 ++ split_line l.condition l.on l.exit.target t ∷ [] → w1 ++ arm_lines all (arm_body l.arm) ≡ w0 ++ lines all [] (opening_body o)
leaving-lines all o l t w0 w1 is to e =
    chain w0 w1 (split_line l.condition l.on l.exit.target t ∷ []) (arm_lines all (arm_body l.arm)) e
    ∙ ap (λ n. w0 ++ split_line l.condition l.on l.exit.target n ∷ arm_lines all (arm_body l.arm)) to
    ∙ ap (λ b. w0 ++ lines all [] b) (sym (ap opening_body is ∙ opening_split l))

-- ---- constructs

pub choice-adds : (all : List Branching) (c : Choice) (rest : Body) (t u : ℕ) (w0 w1 w2 w3 w4 w5 : List (List ℕ)) → t ≡ target (arm_body c.first) → u ≡ target (arm_body c.second)
    → w1 ≡ w0 ++ selection_line c.merge.label c.control ∷ [] → w2 ≡ w1 ++ split_line c.condition true t u ∷ [] → w3 ≡ w2 ++ arm_lines all (arm_body c.first)
    → w4 ≡ w3 ++ arm_lines all (arm_body c.second) → w5 ≡ w4 ++ front_lines all (front_of c.merge) → AddsItem all false false w0 w5 (item.Choice c) rest
choice-adds all c rest t u w0 w1 w2 w3 w4 w5 to uo e1 e2 e3 e4 e5 = record {
  last = refl;
  same =
      chain w4 w5 (front_lines all (front_of c.merge)) (lines all [] rest) e5
      ∙ chain w3 w4 (arm_lines all (arm_body c.second)) (front_lines all (front_of c.merge) ++ lines all [] rest) e4
      ∙ chain w2 w3 (arm_lines all (arm_body c.first)) (arm_lines all (arm_body c.second) ++ (front_lines all (front_of c.merge) ++ lines all [] rest)) e3
      ∙ chain w1 w2 (split_line c.condition true t u ∷ []) (arm_lines all (arm_body c.first) ++ (arm_lines all (arm_body c.second) ++ (front_lines all (front_of c.merge) ++ lines all [] rest))) e2
      ∙ chain w0 w1 (selection_line c.merge.label c.control ∷ [])
      (split_line c.condition true t u ∷ (arm_lines all (arm_body c.first) ++ (arm_lines all (arm_body c.second) ++ (front_lines all (front_of c.merge) ++ lines all [] rest)))) e1
      ∙ ap (λ n. w0 ++ selection_line c.merge.label c.control ∷ split_line c.condition true n u
      ∷ (arm_lines all (arm_body c.first) ++ (arm_lines all (arm_body c.second) ++ (front_lines all (front_of c.merge) ++ lines all [] rest)))) to
      ∙ ap (λ n. w0 ++ selection_line c.merge.label c.control ∷ split_line c.condition true (target (arm_body c.first)) n
      ∷ (arm_lines all (arm_body c.first) ++ (arm_lines all (arm_body c.second) ++ (front_lines all (front_of c.merge) ++ lines all [] rest)))) uo
      ∙ ap (λ b. w0 ++ lines all [] b) (sym (then_choice c rest));
}

pub switch-adds : (all : List Branching) (s : Switch) (rest : Body) (t : ℕ) (cases : List (ℕ × ℕ)) (others : List Arm) (w0 w1 w2 w3 w4 w5 : List (List ℕ)) → t ≡ target (arm_body s.first)
    → cases ≡ map case_of s.cases → others ≡ s.others → w1 ≡ w0 ++ selection_line s.merge.label s.control ∷ [] → w2 ≡ w1 ++ instruction op.SWITCH (s.selector ∷ t ∷ pair_words cases) ∷ []
    → w3 ≡ w2 ++ arm_lines all (arm_body s.first) → w4 ≡ w3 ++ list_lines all others → w5 ≡ w4 ++ front_lines all (front_of s.merge) → AddsItem all false false w0 w5 (item.Switch s) rest
switch-adds all s rest t cases others w0 w1 w2 w3 w4 w5 to same_cases same_others e1 e2 e3 e4 e5 = record {
  last = refl;
  same =
      let tail : List (List ℕ) = front_lines all (front_of s.merge) ++ lines all [] rest in
      let line : ℕ → List (ℕ × ℕ) → List ℕ = λ n cs. instruction op.SWITCH (s.selector ∷ n ∷ pair_words cs) in
      chain w4 w5 (front_lines all (front_of s.merge)) (lines all [] rest) e5
      ∙ chain w3 w4 (list_lines all others) tail e4
      ∙ chain w2 w3 (arm_lines all (arm_body s.first)) (list_lines all others ++ tail) e3
      ∙ chain w1 w2 (line t cases ∷ []) (arm_lines all (arm_body s.first) ++ (list_lines all others ++ tail)) e2
      ∙ chain w0 w1 (selection_line s.merge.label s.control ∷ []) (line t cases ∷ (arm_lines all (arm_body s.first) ++ (list_lines all others ++ tail))) e1
      ∙ ap (λ z. w0 ++ selection_line s.merge.label s.control ∷ line t cases ∷ (arm_lines all (arm_body s.first) ++ (list_lines all z ++ tail))) same_others
      ∙ ap (λ z. w0 ++ selection_line s.merge.label s.control ∷ line t cases ∷ z) (sym (append_assoc (arm_lines all (arm_body s.first)) (list_lines all s.others) tail))
      ∙ ap (λ z. w0 ++ selection_line s.merge.label s.control ∷ line t cases ∷ (z ++ tail)) (sym (arms-listed all (arm_body s.first) s.others))
      ∙ ap (λ z. w0 ++ selection_line s.merge.label s.control ∷ line t z ∷ (lines_of_arms all (arms_of (arm_body s.first) s.others) ++ tail)) same_cases
      ∙ ap (λ n. w0 ++ selection_line s.merge.label s.control ∷ line n (map case_of s.cases) ∷ (lines_of_arms all (arms_of (arm_body s.first) s.others) ++ tail))
      (to ∙ sym (arms-first (arm_body s.first) s.others))
      ∙ ap (λ b. w0 ++ lines all [] b) (sym (then_switch s rest));
}

-- the merge instruction stands before the branch
branch-opened : (all : List Branching) (m : List ℕ) (b : Body) → begins_at_branch b ≡ true → lines all (m ∷ []) b ≡ m ∷ lines all [] b
branch-opened all m (plain.Leaves exit) h = refl
branch-opened all m (plain.Enters label body) h = refl
branch-opened all m (plain.Loops (plain.ByBranch values) header control inner next continuing merge rest) h = refl
branch-opened all m (plain.Loops plain.InPlace header control inner next continuing merge rest) h = absurd (false≢true h)
branch-opened all m (plain.Finishes words) h = absurd (false≢true h)
branch-opened all m (plain.Step words body) h = absurd (false≢true h)
branch-opened all m (plain.Splits condition on exit body) h = absurd (false≢true h)
branch-opened all m (plain.Selects control condition first second merge rest) h = absurd (false≢true h)
branch-opened all m (plain.Switches control selector cases arms merge rest) h = absurd (false≢true h)

opened : (all : List Branching) (m : List ℕ) (o : Opening) → IsFormedOpening all o → lines all (m ∷ []) (opening_body o) ≡ m ∷ lines all [] (opening_body o)
unfolding opening_body
opened all m (opening.TheVariants.Branch a) h = branch-opened all m (arm_body a) (branch-begins all (opening.TheVariants.Branch a) a refl h)
opened all m (opening.Split' condition on exit a) h = refl

steps-lines : (all : List Branching) (before : List (List ℕ)) (steps : List Inst) (rest : Body) → lines all before (steps_then steps rest) ≡ map (λ inst. inst.words) steps ++ lines all before rest
steps-lines all before [] rest = refl
steps-lines all before (inst ∷ steps) rest = ap (λ z. inst.words ∷ z) (steps-lines all before steps rest)

-- a loop, behind the branch to it or not
loop-lines : (all : List Branching) (begun : Bool) (entry : plain.Entry) (header : plain.Front) (control : ℕ) (inner : Body) (next : plain.Front) (continuing : Body) (merge : plain.Front) (rest : Body)
    → lines_left begun all (plain.Loops entry header control inner next continuing merge rest)
    ≡ coming_lines begun all header entry ++ (lines all (loop_line merge.label next.label control ∷ []) inner
    ++ (front_lines all next ++ (lines all [] continuing ++ (front_lines all merge ++ lines all [] rest))))
loop-lines all true entry header control inner next continuing merge rest = refl
loop-lines all false entry header control inner next continuing merge rest = refl

pub loop-adds : (all : List Branching) (l : Loop) (begun : Bool) (rest : Body) (steps : List Inst) (w0 w2 w3 w4 w5 w6 w7 w8 : List (List ℕ)) → IsFormedOpening all l.opening → steps ≡ l.steps
    → w2 ≡ w0 ++ coming_lines begun all (front_of l.header) (entry_of l.entry) → w3 ≡ w2 ++ map (λ inst. inst.words) steps → w4 ≡ w3 ++ loop_line l.merge.label l.next.label l.control ∷ []
    → w5 ≡ w4 ++ lines all [] (opening_body l.opening) → w6 ≡ w5 ++ front_lines all (front_of l.next) → w7 ≡ w6 ++ lines all [] (sequence_body l.continuing)
    → w8 ≡ w7 ++ front_lines all (front_of l.merge) → AddsItem all begun false w0 w8 (item.Loop l) rest
loop-adds all l begun rest steps w0 w2 w3 w4 w5 w6 w7 w8 formed same_steps e2 e3 e4 e5 e6 e7 e8 = record {
  last = refl;
  same =
      let m : List ℕ = loop_line l.merge.label l.next.label l.control in
      let body : List (List ℕ) = lines all [] (opening_body l.opening) in
      let tail : List (List ℕ) = front_lines all (front_of l.next) ++ (lines all [] (sequence_body l.continuing) ++ (front_lines all (front_of l.merge) ++ lines all [] rest)) in
      let own : List (List ℕ) = map (λ inst. inst.words) steps in
      chain w7 w8 (front_lines all (front_of l.merge)) (lines all [] rest) e8
      ∙ chain w6 w7 (lines all [] (sequence_body l.continuing)) (front_lines all (front_of l.merge) ++ lines all [] rest) e7
      ∙ chain w5 w6 (front_lines all (front_of l.next)) (lines all [] (sequence_body l.continuing) ++ (front_lines all (front_of l.merge) ++ lines all [] rest)) e6
      ∙ chain w4 w5 body tail e5
      ∙ chain w3 w4 (m ∷ []) (body ++ tail) e4
      ∙ chain w2 w3 own (m ∷ (body ++ tail)) e3
      ∙ chain w0 w2 (coming_lines begun all (front_of l.header) (entry_of l.entry)) (own ++ m ∷ (body ++ tail)) e2
      ∙ ap (λ z. w0 ++ (coming_lines begun all (front_of l.header) (entry_of l.entry) ++ z))
      (ap (λ z. map (λ inst. inst.words) z ++ m ∷ (body ++ tail)) same_steps
      ∙ ap (λ z. map (λ inst. inst.words) l.steps ++ (z ++ tail)) (sym (opened all m l.opening formed))
      ∙ sym (append_assoc (map (λ inst. inst.words) l.steps) (lines all (m ∷ []) (opening_body l.opening)) tail)
      ∙ ap (λ z. z ++ tail) (sym (steps-lines all (m ∷ []) l.steps (opening_body l.opening))))
      ∙ ap (λ z. w0 ++ z) (sym (loop-lines all begun (entry_of l.entry) (front_of l.header) l.control (steps_then l.steps (opening_body l.opening)) (front_of l.next) (sequence_body l.continuing) (front_of l.merge) rest))
      ∙ ap (λ b. w0 ++ lines_left begun all b) (sym (then_loop l rest));
}

-- ---- instructions and conditional exits

pub op-adds : (all : List Branching) (inst : Inst) (rest : Body) (w0 w1 : List (List ℕ)) → w1 ≡ w0 ++ inst.words ∷ [] → AddsItem all false false w0 w1 (item.Op inst) rest
op-adds all inst rest w0 w1 e = record {
  last = refl;
  same = chain w0 w1 (inst.words ∷ []) (lines all [] rest) e ∙ ap (λ b. w0 ++ lines all [] b) (sym (then_op inst rest));
}

pub split-goes : (all : List Branching) (s : Split) (label : ℕ) (rest : Body) (w0 w1 w2 : List (List ℕ)) → s.next ≡ next.Block label
    → w1 ≡ w0 ++ split_line s.condition s.on s.exit.target label ∷ [] → w2 ≡ w1 ++ label_line label ∷ [] → AddsItem all false false w0 w2 (item.Split s) rest
split-goes all s label rest w0 w1 w2 is e1 e2 = record {
  last = sym (ap is_branch is);
  same =
      chain w1 w2 (label_line label ∷ []) (lines all [] rest) e2
      ∙ chain w0 w1 (split_line s.condition s.on s.exit.target label ∷ []) (label_line label ∷ lines all [] rest) e1
      ∙ ap (λ z. w0 ++ lines all [] (plain.Splits s.condition s.on (exit_of s.exit) (going_on z rest))) (sym is) ∙ ap (λ b. w0 ++ lines all [] b) (sym (then_split s rest));
}

pub split-leads : (all : List Branching) (s : Split) (t : ℕ) (rest : Body) (w0 w1 : List (List ℕ)) → s.next ≡ next.Branch → t ≡ target rest
    → w1 ≡ w0 ++ split_line s.condition s.on s.exit.target t ∷ [] → AddsItem all false true w0 w1 (item.Split s) rest
split-leads all s t rest w0 w1 is to e = record {
  last = sym (ap is_branch is);
  same =
      chain w0 w1 (split_line s.condition s.on s.exit.target t ∷ []) (arm_lines all rest) e
      ∙ ap (λ n. w0 ++ split_line s.condition s.on s.exit.target n ∷ arm_lines all rest) to
      ∙ ap (λ z. w0 ++ lines all [] (plain.Splits s.condition s.on (exit_of s.exit) (going_on z rest))) (sym is) ∙ ap (λ b. w0 ++ lines all [] b) (sym (then_split s rest));
}
