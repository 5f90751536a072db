-- What each item, arm and opening of the tree in code becomes.
use Rattle.std.proofs.Common.{◌≡◌, ℕ, List, [], ◌∷◌, ◌++◌, map, refl, sym, ap, ◌∙◌}
use Rattle.std.specs.List.{flat_map}
use Rattle.spv_module.specs.declared.inst.Inst.{Inst}
use Rattle.spv_bodies.specs.Bodies as plain
use Rattle.spv_bodies.specs.Bodies.{Body}
use Rattle.spv_tree.specs.declared.body.Split.{Split}
use Rattle.spv_tree.specs.declared.body.Choice.{Choice}
use Rattle.spv_tree.specs.declared.body.Switch.{Switch}
use Rattle.spv_tree.specs.declared.body.Loop.{Loop}
use Rattle.spv_tree.specs.declared.body.Block.{Block}
use Rattle.spv_tree.specs.declared.body.Leaving.{Leaving}
use Rattle.spv_tree.specs.declared.body.Entered.{Entered, out-Entered}
use Rattle.spv_tree.specs.declared.body.Next.{Next}
use Rattle.spv_tree.specs.declared.body.Next.TheVariants as next
use Rattle.spv_tree.specs.declared.body.Arm.{Arm}
use Rattle.spv_tree.specs.declared.body.Arm as arm
use Rattle.spv_tree.specs.declared.body.Opening.{Opening}
use Rattle.spv_tree.specs.declared.body.Opening as opening
use Rattle.spv_tree.specs.declared.body.Exit.{Exit}
use Rattle.spv_tree.specs.declared.body.Item as item
use Rattle.spv_tree.specs.declared.body.Item.{Item}
use Rattle.spv_tree.specs.declared.body.Sequence.{Sequence}
use Rattle.spv_tree.specs.Tree.{arm_body, arms_of, case_of, entry_of, exit_of, front_of, going_on, item_then, items_then, opening_body, sequence_body, steps_then}
use Rattle.spv_tree.proofs.Equations.{then_op, then_choice, then_switch, then_loop, then_split, then_push, arm_exit, arm_block, arm_loop, opening_branch, opening_split}
use Rattle.spv_editing.specs.Editing.{Edit, edited, edited_arms, edited_entry, edited_exit, steps_before}
use Rattle.spv_editing.specs.Code.{words_in}
use Rattle.spv_editing.proofs.Steps.{edited-before}

-- ---- lists

abbrev first_or : Body → List Body → Body
first_or other [] = other
first_or other (b ∷ bs) = b

abbrev behind : List Body → List Body
behind [] = []
behind (b ∷ bs) = bs

-- ---- instructions

pub steps-are : (insts : List Inst) (rest : Body) → steps_then insts rest ≡ steps_before (words_in insts) rest
steps-are [] rest = refl
steps-are (inst ∷ insts) rest = ap (plain.Step inst.words) (steps-are insts rest)

pub steps-push : (insts : List Inst) (inst : Inst) (rest : Body) → steps_then (insts ++ inst ∷ []) rest ≡ steps_then insts (plain.Step inst.words rest)
steps-push [] inst rest = refl
steps-push (i ∷ insts) inst rest = ap (plain.Step i.words) (steps-push insts inst rest)

-- one instruction more, as an item
pub op-pushed : (found made more : List Item) (insts : List Inst) (inst : Inst) → more ≡ made ++ item.Op inst ∷ []
    → ((rest : Body) → items_then made rest ≡ items_then found (steps_then insts rest))
    → (rest : Body) → items_then more rest ≡ items_then found (steps_then (insts ++ inst ∷ []) rest)
op-pushed found made more insts inst pushed h rest =
    ap (λ z. items_then z rest) pushed ∙ then_push made (item.Op inst) rest ∙ ap (items_then made) (then_op inst rest) ∙ h (plain.Step inst.words rest) ∙ ap (items_then found) (sym (steps-push insts inst rest))

module _ (e : Edit) where
  -- the items that stand for an instruction
  pub op-becomes : (found made : List Item) (inst : Inst) (insts : List Inst) → words_in insts ≡ e.steps inst.words
      → ((rest : Body) → items_then made rest ≡ items_then found (steps_then insts rest))
      → (rest : Body) → items_then made (edited e rest) ≡ items_then found (edited e (item_then (item.Op inst) rest))
  op-becomes found made inst insts same h rest =
      h (edited e rest)
      ∙ ap (items_then found) (steps-are insts (edited e rest) ∙ ap (λ (z : List (List ℕ)). steps_before z (edited e rest)) same ∙ sym (ap (edited e) (then_op inst rest)))

  steps-become : (steps made : List Inst) (b : Body) → words_in made ≡ flat_map e.steps (words_in steps) → steps_then made (edited e b) ≡ edited e (steps_then steps b)
  steps-become steps made b same =
      steps-are made (edited e b) ∙ ap (λ (z : List (List ℕ)). steps_before z (edited e b)) same ∙ sym (edited-before e (words_in steps) b) ∙ ap (edited e) (sym (steps-are steps b))

  -- ---- arms in a row

  pub arms-become : (first : Body) (arms made : List Arm) → map arm_body made ≡ map (λ a. edited e (arm_body a)) arms
      → arms_of (edited e first) made ≡ edited_arms e (arms_of first arms)
  arms-become first [] [] same = refl
  arms-become first [] (b ∷ made) same = absurd (cc same)
  arms-become first (a ∷ arms) [] same = absurd (cc same)
  arms-become first (a ∷ arms) (b ∷ made) same =
      ap (plain.Also (edited e first)) (ap (λ z. arms_of z made) (ap (first_or first) same) ∙ arms-become (arm_body a) arms made (ap behind same))

  -- ---- items

  going-on-becomes : (n : Next) (rest : Body) → going_on n (edited e rest) ≡ edited e (going_on n rest)
  going-on-becomes (next.Block label) rest = refl
  going-on-becomes next.Branch rest = refl

  pub split-becomes : (s t : Split) → t.condition ≡ e.uses s.condition → t.on ≡ s.on → exit_of t.exit ≡ edited_exit e (exit_of s.exit) → t.next ≡ s.next
      → (rest : Body) → item_then (item.Split t) (edited e rest) ≡ edited e (item_then (item.Split s) rest)
  split-becomes s t condition on exit next rest =
      then_split t (edited e rest)
      ∙ (λ i. plain.Splits (condition i) (on i) (exit i) ((ap (λ (n : Next). going_on n (edited e rest)) next ∙ going-on-becomes s.next rest) i))
      ∙ ap (edited e) (sym (then_split s rest))

  pub choice-becomes : (c d : Choice) → d.control ≡ c.control → d.condition ≡ e.uses c.condition → arm_body d.first ≡ edited e (arm_body c.first)
      → arm_body d.second ≡ edited e (arm_body c.second) → d.merge ≡ c.merge
      → (rest : Body) → item_then (item.Choice d) (edited e rest) ≡ edited e (item_then (item.Choice c) rest)
  choice-becomes c d control condition first second merge rest =
      then_choice d (edited e rest) ∙ (λ i. plain.Selects (control i) (condition i) (first i) (second i) (front_of (merge i)) (edited e rest))
      ∙ ap (edited e) (sym (then_choice c rest))

  pub switch-becomes : (s t : Switch) → t.control ≡ s.control → t.selector ≡ e.uses s.selector → t.cases ≡ s.cases → arm_body t.first ≡ edited e (arm_body s.first)
      → map arm_body t.others ≡ map (λ a. edited e (arm_body a)) s.others → t.merge ≡ s.merge
      → (rest : Body) → item_then (item.Switch t) (edited e rest) ≡ edited e (item_then (item.Switch s) rest)
  switch-becomes s t control selector cases first others merge rest =
      then_switch t (edited e rest)
      ∙ (λ i. plain.Switches (control i) (selector i) (map case_of (cases i)) (arms i) (front_of (merge i)) (edited e rest))
      ∙ ap (edited e) (sym (then_switch s rest))
    where
      arms : arms_of (arm_body t.first) t.others ≡ edited_arms e (arms_of (arm_body s.first) s.others)
      arms = ap (λ z. arms_of z t.others) first ∙ arms-become (arm_body s.first) s.others t.others others

  pub loop-becomes : (l m : Loop) → entry_of m.entry ≡ edited_entry e (entry_of l.entry) → m.header ≡ l.header → words_in m.steps ≡ flat_map e.steps (words_in l.steps)
      → m.control ≡ l.control → opening_body m.opening ≡ edited e (opening_body l.opening) → m.next ≡ l.next
      → sequence_body m.continuing ≡ edited e (sequence_body l.continuing) → m.merge ≡ l.merge
      → (rest : Body) → item_then (item.Loop m) (edited e rest) ≡ edited e (item_then (item.Loop l) rest)
  loop-becomes l m entry header steps control opening next continuing merge rest =
      then_loop m (edited e rest)
      ∙ (λ i. plain.Loops (entry i) (front_of (header i)) (control i)
      ((ap (steps_then m.steps) opening ∙ steps-become l.steps m.steps (opening_body l.opening) steps) i) (front_of (next i)) (continuing i) (front_of (merge i)) (edited e rest))
      ∙ ap (edited e) (sym (then_loop l rest))

  -- an item is added for another
  pub item-pushed : (found made : List Item) (item made_item x y : Item) → made ≡ found ++ made_item ∷ [] → item ≡ x → made_item ≡ y
      → ((rest : Body) → item_then y (edited e rest) ≡ edited e (item_then x rest))
      → (rest : Body) → items_then made (edited e rest) ≡ items_then found (edited e (item_then item rest))
  item-pushed found made item made_item x y pushed is made_is h rest =
      ap (λ z. items_then z (edited e rest)) pushed ∙ then_push found made_item (edited e rest)
      ∙ ap (items_then found) (ap (λ z. item_then z (edited e rest)) made_is ∙ h rest ∙ ap (λ z. edited e (item_then z rest)) (sym is))

  -- one item more
  pub items-become : (items made more : List Item) (x : Item) → ((rest : Body) → items_then made (edited e rest) ≡ edited e (items_then items rest))
      → ((rest : Body) → items_then more (edited e rest) ≡ items_then made (edited e (item_then x rest)))
      → (rest : Body) → items_then more (edited e rest) ≡ edited e (items_then (items ++ x ∷ []) rest)
  items-become items made more x before here rest = here rest ∙ before (item_then x rest) ∙ ap (edited e) (sym (then_push items x rest))

  -- ---- arms

  pub exit-becomes : (a : Arm) (exit made : Exit) → a ≡ arm.Exit exit → exit_of made ≡ edited_exit e (exit_of exit) → arm_body (arm.Exit made) ≡ edited e (arm_body a)
  exit-becomes a exit made is same = arm_exit made ∙ ap plain.Leaves same ∙ ap (edited e) (sym (ap arm_body is ∙ arm_exit exit))

  pub block-becomes : (b d : Block) → d.label ≡ b.label → sequence_body d.body ≡ edited e (sequence_body b.body)
      → arm_body (arm.Block d) ≡ edited e (arm_body (arm.Block b))
  block-becomes b d label body = arm_block d ∙ (λ i. plain.Enters (label i) (body i)) ∙ ap (edited e) (sym (arm_block b))

  pub entered-becomes : (x y : Entered) (l m : Loop) (s : Sequence) → l ≡ (out-Entered x).turn.value → (out-Entered y).turn.value ≡ m → (out-Entered y).rest ≡ s
      → ((rest : Body) → item_then (item.Loop m) (edited e rest) ≡ edited e (item_then (item.Loop l) rest))
      → sequence_body s ≡ edited e (sequence_body (out-Entered x).rest) → arm_body (arm.Loop y) ≡ edited e (arm_body (arm.Loop x))
  entered-becomes x y l m s turn made_turn made_rest loop rest =
      arm_loop y ∙ (λ i. item_then (item.Loop (made_turn i)) (sequence_body (made_rest i))) ∙ ap (item_then (item.Loop m)) rest
      ∙ loop (sequence_body (out-Entered x).rest) ∙ ap (λ z. edited e (item_then (item.Loop z) (sequence_body (out-Entered x).rest))) turn
      ∙ ap (edited e) (sym (arm_loop x))

  -- ---- how a loop opens

  pub branch-becomes : (o : Opening) (a made : Arm) → o ≡ opening.Branch a → arm_body made ≡ edited e (arm_body a) → opening_body (opening.Branch made) ≡ edited e (opening_body o)
  branch-becomes o a made is same = opening_branch made ∙ same ∙ ap (edited e) (sym (ap opening_body is ∙ opening_branch a))

  pub leaving-becomes : (l m : Leaving) → m.condition ≡ e.uses l.condition → m.on ≡ l.on → exit_of m.exit ≡ edited_exit e (exit_of l.exit)
      → arm_body m.arm ≡ edited e (arm_body l.arm) → opening_body (opening.Split m) ≡ edited e (opening_body (opening.Split l))
  leaving-becomes l m condition on exit same =
      opening_split m ∙ (λ i. plain.Splits (condition i) (on i) (exit i) (same i)) ∙ ap (edited e) (sym (opening_split l))
