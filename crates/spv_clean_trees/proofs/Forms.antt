-- The fronts of a spelled tree fit the branches to them, and each arm of a switch is named: by recursion on how the tree is spelled.
use Rattle.std.proofs.Common.{◌≡◌, ℕ, Bool, true, not, ◌==◌, List, [], ◌∷◌, Some, refl, sym, ap, ap₂, ◌∙◌}
use Rattle.std.specs.List.{list_all}
use Rattle.spv_module.specs.Instruction.{Instruction}
use Rattle.spv_blocks.specs.Blocks.{Code, ASelection, ASwitch, ALoop, construct, has, names, seconds}
use Rattle.spv_blocks.specs.Cutting.{blocks_of}
use Rattle.spv_walk.specs.Contexts.{Context, InBody, behind}
use Rattle.spv_walk.specs.Walk.{Walk}
use Rattle.spv_walk.proofs.Unique.{both_hold, right_holds}
use Rattle.spv_bodies.specs.Bodies.{Entry, Body, Arms, Function}
use Rattle.spv_bodies.specs.Listing.{Branching}
use Rattle.spv_normal.specs.Order.{is_loop}
use Rattle.spv_tree.specs.Branches.{branches_in}
use Rattle.spv_tree.specs.Sound.{targets}
use Rattle.spv_spelling.specs.Clean.{IsClean}
use Rattle.spv_spelling.specs.Spelling as spelled
use Rattle.spv_spelling.specs.Spelling.{AreStaying, Goes, Spells, SpellsArm, SpellsArms, SpellsBranch, SpellsFunction, SpellsHead, SpellsLoop, SpellsPart}
use Rattle.spv_spelling.specs.Whole.{IsAdmitted}
use Rattle.spv_spelling.specs.Text.{copies, firsts, phis, text}
use Rattle.spv_normal_trees.proofs.Growing.{merge_front, next_front, onto, walk_merge, walk_next, walk_on}
use Rattle.spv_normal_trees.proofs.Members.{has_firsts, has_head, has_tail}
use Rattle.spv_structured.specs.Structured.{ArmsFit, NamesArms, NamesInArms, ParametersFit, are_named}
use Rattle.spv_clean_trees.proofs.Fitting.{front_fits}
use Rattle.spv_clean_trees.proofs.Flowing.{arms_targets, first_label_of}

-- ---- arms

all_stand : (xs ys : List ℕ) → ((z : ℕ) → has ys z ≡ true → has xs z ≡ true) → list_all (has xs) ys ≡ true
all_stand xs [] h = refl
all_stand xs (y ∷ ys) h = both_hold (has xs y) (list_all (has xs) ys) (h y (has_head y ys y refl)) (all_stand xs ys (λ z k. h z (has_tail y ys z k)))

-- the labels of the arms are those that the OpSwitch names
arms_named : (default : ℕ) (cases : List (ℕ × ℕ)) (arms : Arms) → targets arms ≡ firsts (default ∷ seconds cases) → are_named arms cases ≡ true
arms_named default cases arms e =
    ap₂ (λ t ts. list_all (has (t ∷ seconds cases)) ts) (first_label_of arms default _ e) e
    ∙ all_stand (default ∷ seconds cases) (firsts (default ∷ seconds cases)) (has_firsts (default ∷ seconds cases))

module _ (insts : List Instruction) (stays : ℕ → ℕ) (tree : Function) (admitted : IsAdmitted insts) (spells : SpellsFunction insts stays tree)
    (is_pointer : ℕ → Bool) (clean : IsClean is_pointer (blocks_of insts)) where
  abbrev f : Code
  f = blocks_of insts

  abbrev all : List Branching
  all = branches_in tree

  staying : AreStaying insts stays
  staying = spells.staying

  pub record Formed (body : Body) : Type 0 where
    pub parameters : ParametersFit is_pointer all body
    pub arms : NamesArms body

  record ArmsFormed (arms : Arms) : Type 0 where
    parameters : ArmsFit is_pointer all arms
    named : NamesInArms arms

  copies_formed : (ps : List (List ℕ)) (body : Body) → Formed body → Formed (copies ps body)
  copies_formed [] body h = h
  copies_formed (p ∷ ps) body h = let r = copies_formed ps body h in record { parameters = r.parameters; arms = r.arms }

  on_walk : (l t : ℕ) (c d : Context) → Walk f l c → d ≡ behind (construct f l) l t c → Goes insts stays l d t → Walk f t d
  on_walk l t c d w same g = walk_on insts stays stays is_pointer clean staying l t c d w (onto insts stays stays is_pointer clean staying l t c d w same g)

  mutual
    pub rest_formed : {l : ℕ} {c : Context} {rest : List (List ℕ)} {body : Body} → Spells insts stays l c rest body → Walk f l c → Formed body
    rest_formed (spelled.steps is r) w = let on = rest_formed r w in record { parameters = on.parameters; arms = on.arms }
    rest_formed (spelled.finishes is) w = record { parameters = tt; arms = tt }
    rest_formed (spelled.joined {l = l} {t = t} {c = c} {body = body} bare g other r) w =
        copies_formed (phis (text insts t)) body (rest_formed r (on_walk l t c c w (sym (ap (λ k. behind k l t c) bare)) g))
    rest_formed (spelled.branches {l = l} {t = t} {c = c} bare r) w = branch_formed r c w (sym (ap (λ k. behind k l t c) bare))
    rest_formed (spelled.splits {l = l} {other = other} {c = c} bare x arm) w =
        let on = arm_formed arm c w (sym (ap (λ k. behind k l other c) bare)) in record { parameters = on.parameters; arms = on.arms }
    rest_formed (spelled.selects {l = l} {merge = m} {yes = one} {no = other} {c = c} is x y p) w =
        let a = arm_formed x c w (sym (ap (λ k. behind k l one c) is)) in
        let b = arm_formed y c w (sym (ap (λ k. behind k l other c) is)) in
        let v = walk_merge insts stays stays is_pointer clean staying l m c (Some (ASelection m)) is w refl in
        let i = merge_front insts stays stays is_pointer clean staying l m (Some (ASelection m)) is refl in
        let r = part_formed p v in
        record {
          parameters = (front_fits insts stays tree admitted spells is_pointer clean m i c v, a.parameters, b.parameters, r.parameters);
          arms =
              (a.arms, b.arms, r.arms);
        }
    rest_formed (spelled.switches {l = l} {merge = m} {default = default} {cases = cases} {c = c} {arms = arms} is x p) w =
        let a = arms_formed x w is in
        let v = walk_merge insts stays stays is_pointer clean staying l m c (Some (ASwitch m)) is w refl in
        let i = merge_front insts stays stays is_pointer clean staying l m (Some (ASwitch m)) is refl in
        let r = part_formed p v in
        record {
          parameters = (front_fits insts stays tree admitted spells is_pointer clean m i c v, a.parameters, r.parameters);
          arms = (arms_named default cases arms (arms_targets x), a.named, r.arms);
        }

    branch_formed : {l t : ℕ} {b : Context} {body : Body} → SpellsBranch insts stays l b t body → (c : Context) → Walk f l c
        → b ≡ behind (construct f l) l t c → Formed body
    branch_formed (spelled.leaves x) c w same = record { parameters = tt; arms = tt }
    branch_formed (spelled.comes {l = l} {h = h} {d = b} g take r) c w same = loop_formed r (on_walk l h c b w same g)

    arm_formed : {l t : ℕ} {b : Context} {body : Body} → SpellsArm insts stays l b t body → (c : Context) → Walk f l c → b ≡ behind (construct f l) l t c
        → Formed body
    arm_formed (spelled.out r) c w same = branch_formed r c w same
    arm_formed (spelled.enters {l = l} {t = t} {d = b} {body = body} g other r) c w same =
        let on = copies_formed (phis (text insts t)) body (rest_formed r (on_walk l t c b w same g)) in record { parameters = on.parameters; arms = on.arms }

    arms_formed : {l m : ℕ} {c : Context} {labels : List ℕ} {arms : Arms} → SpellsArms insts stays l m c labels arms → Walk f l c
        → construct f l ≡ Some (ASwitch m)
        → ArmsFormed arms
    arms_formed (spelled.last {l = l} {t = t} {c = c} x) w is =
        let a = arm_formed x c w (sym (ap (λ k. behind k l t c) is)) in record { parameters = a.parameters; named = a.arms }
    arms_formed (spelled.also {l = l} {t = t} {c = c} x more) w is =
        let a = arm_formed x c w (sym (ap (λ k. behind k l t c) is)) in
        let b = arms_formed more w is in
        record { parameters = (a.parameters, b.parameters); named = (a.arms, b.named) }

    part_formed : {l : ℕ} {c : Context} {body : Body} → SpellsPart insts stays l c body → Walk f l c → Formed body
    part_formed (spelled.plain is r) w = rest_formed r w
    part_formed (spelled.placed r) w = loop_formed r w

    loop_formed : {h : ℕ} {c : Context} {entry : Entry} {body : Body} → SpellsLoop insts stays h c entry body → Walk f h c → Formed body
    loop_formed (spelled.parts {h = h} {merge = m} {next = n} {c = c} is head p q) w =
        let a = head_formed head c w m n is refl in
        let v = walk_next insts stays stays is_pointer clean staying h m n c is w in
        let u = walk_merge insts stays stays is_pointer clean staying h m c (Some (ALoop m n)) is w refl in
        let b = part_formed p v in
        let r = part_formed q u in
        record {
          parameters = (
            front_fits insts stays tree admitted spells is_pointer clean h (right_holds (not (names f h == 0)) (is_loop (construct f h)) (ap is_loop is)) c w,
            front_fits insts stays tree admitted spells is_pointer clean n
                (next_front insts stays stays is_pointer clean staying h n (Some (ALoop m n)) is refl) _ v,
            front_fits insts stays tree admitted spells is_pointer clean m
                (merge_front insts stays stays is_pointer clean staying h m (Some (ALoop m n)) is refl) c u,
            a.parameters,
            b.parameters,
            r.parameters,
          );
          arms = (a.arms, b.arms, r.arms);
        }

    head_formed : {h : ℕ} {b : Context} {opening : List ℕ} {rest : List (List ℕ)} {body : Body} → SpellsHead insts stays h b opening rest body
        → (c : Context) → Walk f h c
        → (m n : ℕ) → construct f h ≡ Some (ALoop m n) → b ≡ InBody h m n ∷ c → Formed body
    head_formed (spelled.begins is r) c w m n k same = let on = head_formed r c w m n k same in record { parameters = on.parameters; arms = on.arms }
    head_formed (spelled.goes {h = h} {t = t} arm) c w m n k same = arm_formed arm c w (same ∙ sym (ap (λ x. behind x h t c) k))
    head_formed (spelled.parted {h = h} {other = other} x arm) c w m n k same =
        let on = arm_formed arm c w (same ∙ sym (ap (λ x. behind x h other c) k)) in record { parameters = on.parameters; arms = on.arms }
