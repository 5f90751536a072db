-- What is shown of each item, arm and opening of the tree in code.
use Rattle.std.proofs.Common.{◌≡◌, ℕ, ◌+◌, ◌<◌, List, [], ◌∷◌, ◌++◌, map, length, take, get_or, refl, sym, ap, ◌∙◌, subst, append_assoc, append-nil}
use Rattle.spv_module.specs.declared.inst.Inst.{Inst}
use Rattle.spv_bodies.specs.Bodies.{Body}
use Rattle.spv_tree.specs.declared.body.Split.{Split as SplitType}
use Rattle.spv_tree.specs.declared.body.Choice.{Choice as ChoiceType}
use Rattle.spv_tree.specs.declared.body.Switch.{Switch as SwitchType}
use Rattle.spv_tree.specs.declared.body.Loop.{Loop as LoopType}
use Rattle.spv_tree.specs.declared.body.Block.{Block}
use Rattle.spv_tree.specs.declared.body.Leaving.{Leaving}
use Rattle.spv_tree.specs.declared.body.Entered.{Entered, out-Entered}
use Rattle.spv_tree.specs.declared.body.Exit.{Exit}
use Rattle.spv_tree.specs.declared.body.Next.{Next}
use Rattle.spv_tree.specs.declared.body.Next.TheVariants as next
use Rattle.spv_tree.specs.declared.body.Arm.{Arm}
use Rattle.spv_tree.specs.declared.body.Arm as arm
use Rattle.spv_tree.specs.declared.body.Opening.{Opening}
use Rattle.spv_tree.specs.declared.body.Opening as opening
use Rattle.spv_tree.specs.declared.body.Item as item
use Rattle.spv_tree.specs.declared.body.Item.{Item, Op, Choice', Switch', Loop', Split}
use Rattle.spv_tree.specs.declared.body.Sequence.{Sequence, out-Sequence}
use Rattle.spv_tree.specs.Tree.{arm_body, arms_of, end_body, entry_of, going_on, item_then, items_then, opening_body, sequence_body, steps_then}
use Rattle.spv_tree.specs.Lines.{nothing}
use Rattle.spv_tree.proofs.Equations.{then_op, then_choice, then_switch, then_loop, then_split, then_push, one_more, arm_exit, arm_block, arm_loop, opening_branch, opening_split}
use Rattle.spv_editing.specs.Showing.{Shown, AStep, AUse, IsShown, carried, shown, shown_in_arms, uses}
use Rattle.spv_editing.specs.Code.{shown_of_list, words_in}
use Rattle.spv_editing.proofs.Becoming.{steps-are}
use Rattle.spv_editing.proofs.Steps.{shown-before}

-- ---- lists

-- nothing is added at the end of two parts
ending : (a b rest : List Shown) → a ++ (b ++ rest) ≡ (a ++ (b ++ [])) ++ rest
ending a b rest = ap (λ (z : List Shown). a ++ (z ++ rest)) (sym (append-nil b)) ∙ sym (append_assoc a (b ++ []) rest)

-- ---- visitors

module _ {V : Type 0} (R : V → List Shown → Type 0) where
  pub shown-none : (v : V) → IsShown R [] v v
  shown-none v before h = subst (R v) (sym (append-nil before)) h

  pub shown-same : (u v : V) (a b : List Shown) → a ≡ b → IsShown R a u v → IsShown R b u v
  shown-same u v a b same h = subst (λ (z : List Shown). IsShown R z u v) same h

  -- one after the other
  pub shown-then : (u v w : V) (a b c : List Shown) → a ++ b ≡ c → IsShown R a u v → IsShown R b v w → IsShown R c u w
  shown-then u v w a b c same first second before h =
      subst (λ (z : List Shown). R w (before ++ z)) same (subst (R w) (append_assoc before a b) (second (before ++ a) (first before h)))

-- ---- items

going-on-shown : (n : Next) (rest : Body) → shown (going_on n rest) ≡ shown rest
going-on-shown (next.Block label) rest = refl
going-on-shown next.Branch rest = refl

split-shown : (s : SplitType) (rest : Body) → shown (item_then (item.Split s) rest) ≡ uses (s.condition ∷ s.exit.values) ++ shown rest
split-shown s rest = ap shown (then_split s rest) ∙ ap (λ (z : List Shown). AUse s.condition ∷ (uses s.exit.values ++ z)) (going-on-shown s.next rest)

pub split-alone : (s : SplitType) → uses (s.condition ∷ s.exit.values) ≡ shown (item_then (item.Split s) nothing)
split-alone s = sym (split-shown s nothing ∙ append-nil (uses (s.condition ∷ s.exit.values)))

-- what is shown of an item, and then of what follows
item-shown : (i : Item) (rest : Body) → shown (item_then i rest) ≡ shown (item_then i nothing) ++ shown rest
unfolding item_then
item-shown (Op inst) rest = refl
item-shown (Choice' control condition first second merge) rest =
    ap (λ (z : List Shown). AUse condition ∷ z) (ending (shown (arm_body first)) (shown (arm_body second)) (shown rest))
item-shown (Switch' control selector cases first shape others merge) rest =
    ap (λ (z : List Shown). AUse selector ∷ z) (ending [] _ (shown rest))
item-shown (Loop' entry header steps control opening next shape row end merge) rest =
    ap (λ (z : List Shown). uses (carried (entry_of entry)) ++ z) (ending _ _ (shown rest))
    ∙ sym (append_assoc (uses (carried (entry_of entry))) _ (shown rest))
item-shown (Split s) rest =
    split-shown s rest ∙ ap (λ (z : List Shown). z ++ shown rest) (split-alone s)

items-shown : (items : List Item) (rest : Body) → shown (items_then items rest) ≡ shown (items_then items nothing) ++ shown rest
items-shown [] rest = refl
items-shown (i ∷ items) rest =
    item-shown i (items_then items rest) ∙ ap (λ (z : List Shown). shown (item_then i nothing) ++ z) (items-shown items rest)
    ∙ sym (append_assoc (shown (item_then i nothing)) (shown (items_then items nothing)) (shown rest))
    ∙ ap (λ (z : List Shown). z ++ shown rest) (sym (item-shown i (items_then items nothing)))

-- one item more
pub item-more : (items : List Item) (k : ℕ) (i : Item) → k < length items → i ≡ get_or items k i
    → shown (items_then (take k items) nothing) ++ shown (item_then i nothing) ≡ shown (items_then (take (k + 1) items) nothing)
item-more items k i lt is =
    sym (items-shown (take k items) (item_then i nothing)) ∙ ap shown (sym (then_push (take k items) i nothing))
    ∙ ap (λ z. shown (items_then z nothing)) (sym (one_more items k i lt is))

pub sequence-shown : (s : Sequence) → shown (items_then (out-Sequence s).items nothing) ++ shown (end_body (out-Sequence s).end) ≡ shown (sequence_body s)
sequence-shown s = sym (items-shown (out-Sequence s).items (end_body (out-Sequence s).end))

steps-shown : (steps : List Inst) (b : Body) → shown (steps_then steps b) ≡ map AStep (words_in steps) ++ shown b
steps-shown steps b = ap shown (steps-are steps b) ∙ shown-before (words_in steps) b

arms-shown : (first : Body) (arms : List Arm) → shown_in_arms (arms_of first arms) ≡ shown first ++ shown_of_list arms
arms-shown first [] = sym (append-nil (shown first))
arms-shown first (a ∷ arms) = ap (λ (z : List Shown). shown first ++ z) (arms-shown (arm_body a) arms)

pub op-shown : (i : Item) (inst : Inst) → i ≡ item.Op inst → AStep inst.words ∷ [] ≡ shown (item_then i nothing)
op-shown i inst is = sym (ap (λ z. shown (item_then z nothing)) is ∙ ap shown (then_op inst nothing))

pub choice-shown : (c : ChoiceType) → ((AUse c.condition ∷ []) ++ shown (arm_body c.first)) ++ shown (arm_body c.second) ≡ shown (item_then (item.Choice c) nothing)
choice-shown c =
    ap (λ (z : List Shown). AUse c.condition ∷ (shown (arm_body c.first) ++ z)) (sym (append-nil (shown (arm_body c.second)))) ∙ ap shown (sym (then_choice c nothing))

pub switch-shown : (s : SwitchType) → ((AUse s.selector ∷ []) ++ shown (arm_body s.first)) ++ shown_of_list s.others ≡ shown (item_then (item.Switch s) nothing)
switch-shown s =
    ap (λ (z : List Shown). AUse s.selector ∷ z) (sym (arms-shown (arm_body s.first) s.others) ∙ sym (append-nil (shown_in_arms (arms_of (arm_body s.first) s.others))))
    ∙ ap shown (sym (then_switch s nothing))

pub loop-shown : (l : LoopType)
    → ((uses (carried (entry_of l.entry)) ++ map AStep (words_in l.steps)) ++ shown (opening_body l.opening)) ++ shown (sequence_body l.continuing) ≡ shown (item_then (item.Loop l) nothing)
loop-shown l =
    append_assoc (entered ++ steps) opens continuing ∙ append_assoc entered steps (opens ++ continuing)
    ∙ ap (λ (z : List Shown). entered ++ z)
    (sym (append_assoc steps opens continuing) ∙ (λ i. sym (steps-shown l.steps (opening_body l.opening)) i ++ sym (append-nil continuing) i))
    ∙ ap shown (sym (then_loop l nothing))
  where
    entered : List Shown
    entered = uses (carried (entry_of l.entry))

    steps : List Shown
    steps = map AStep (words_in l.steps)

    opens : List Shown
    opens = shown (opening_body l.opening)

    continuing : List Shown
    continuing = shown (sequence_body l.continuing)

-- ---- arms

pub exit-shown : (a : Arm) (exit : Exit) → a ≡ arm.Exit exit → uses exit.values ≡ shown (arm_body a)
exit-shown a exit is = sym (ap (λ z. shown (arm_body z)) is ∙ ap shown (arm_exit exit))

pub block-shown : (a : Arm) (block : Block) → a ≡ arm.Block block → shown (sequence_body block.body) ≡ shown (arm_body a)
block-shown a block is = sym (ap (λ z. shown (arm_body z)) is ∙ ap shown (arm_block block))

pub entered-shown : (a : Arm) (e : Entered) (l : LoopType) → a ≡ arm.Loop e → l ≡ (out-Entered e).turn.value
    → shown (item_then (item.Loop l) nothing) ++ shown (sequence_body (out-Entered e).rest) ≡ shown (arm_body a)
entered-shown a e l is same =
    sym (item-shown (item.Loop l) (sequence_body (out-Entered e).rest)) ∙ ap (λ z. shown (item_then (item.Loop z) (sequence_body (out-Entered e).rest))) same
    ∙ sym (ap (λ z. shown (arm_body z)) is ∙ ap shown (arm_loop e))

list-push : (arms : List Arm) (a : Arm) → shown_of_list (arms ++ a ∷ []) ≡ shown_of_list arms ++ shown (arm_body a)
list-push [] a = append-nil (shown (arm_body a))
list-push (b ∷ arms) a =
    ap (λ (z : List Shown). shown (arm_body b) ++ z) (list-push arms a) ∙ sym (append_assoc (shown (arm_body b)) (shown_of_list arms) (shown (arm_body a)))

-- one arm more
pub arm-more : (arms : List Arm) (k : ℕ) (a : Arm) → k < length arms → a ≡ get_or arms k a → shown_of_list (take k arms) ++ shown (arm_body a) ≡ shown_of_list (take (k + 1) arms)
arm-more arms k a lt is = sym (ap shown_of_list (one_more arms k a lt is) ∙ list-push (take k arms) a)

-- ---- how a loop opens

pub branch-shown : (o : Opening) (a : Arm) → o ≡ opening.Branch a → shown (arm_body a) ≡ shown (opening_body o)
branch-shown o a is = sym (ap (λ z. shown (opening_body z)) is ∙ ap shown (opening_branch a))

pub leaving-shown : (o : Opening) (l : Leaving) → o ≡ opening.Split l → uses (l.condition ∷ l.exit.values) ++ shown (arm_body l.arm) ≡ shown (opening_body o)
leaving-shown o l is = sym (ap (λ z. shown (opening_body z)) is ∙ ap shown (opening_split l))
