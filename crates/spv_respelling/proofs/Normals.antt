-- What a clean function spells is normal: by recursion on how the tree is spelled.
use Rattle.std.proofs.Common.{◌≡◌, ℕ, Bool, true, false, not, ◌==◌, List, [], ◌∷◌, Some, refl, sym, ap, ◌∙◌}
use Rattle.spv_module.specs.Instruction.{Instruction}
use Rattle.spv_blocks.specs.Blocks.{Code, ASelection, ASwitch, ALoop, construct, names, seconds}
use Rattle.spv_blocks.specs.Cutting.{blocks_of}
use Rattle.spv_walk.specs.Contexts.{Context, InBody, behind}
use Rattle.spv_walk.specs.Walk.{Walk}
use Rattle.spv_walk.proofs.Unique.{right_holds}
use Rattle.spv_bodies.specs.Bodies.{Entry, Body, Arms, Function}
use Rattle.spv_bodies.specs.Listing.{Branching}
use Rattle.spv_normal.specs.Order.{is_front, is_loop}
use Rattle.spv_tree.specs.Branches.{branches_in}
use Rattle.spv_tree.specs.Sound.{targets}
use Rattle.spv_spelling.specs.Clean.{no_pointers}
use Rattle.spv_spelling.specs.Spelling as spelled
use Rattle.spv_spelling.specs.Spelling.{AreStaying, Goes, Spells, SpellsArm, SpellsArms, SpellsBranch, SpellsFunction, SpellsHead, SpellsLoop, SpellsPart}
use Rattle.spv_spelling.specs.Text.{copies, firsts, front_of, phis, text}
use Rattle.spv_spelling.specs.Whole.{IsAdmitted}
use Rattle.spv_normal_trees.proofs.Growing.{merge_front, next_front, onto, walk_merge, walk_next, walk_on}
use Rattle.spv_normal_trees.proofs.Listed.{walk}
use Rattle.spv_clean_trees.proofs.Fitting.{front_named}
use Rattle.spv_clean_trees.proofs.Flowing.{arms_targets, first_label_of}
use Rattle.spv_respelling.specs.Laws.{SpelledTreeIsNormal}
use Rattle.spv_respelling.specs.Normal.{AreNormal, IsNamed, IsNormalBody}

module _ (insts : List Instruction) (stays : ℕ → ℕ) (tree : Function) (admitted : IsAdmitted insts) (spells : SpellsFunction insts stays tree) where
  abbrev f : Code
  f = blocks_of insts

  abbrev all : List Branching
  all = branches_in tree

  staying : AreStaying insts stays
  staying = spells.staying

  -- as a record, so that the body is known
  record Normal (parted : Bool) (body : Body) : Type 0 where
    holds : IsNormalBody all parted body

  copies_normal : (ps : List (List ℕ)) (parted : Bool) (body : Body) → Normal parted body → Normal parted (copies ps body)
  copies_normal [] parted body h = h
  copies_normal (p ∷ ps) parted body h = let r = copies_normal ps parted body h in record { holds = r.holds }

  on_walk : (l t : ℕ) (c d : Context) → Walk f l c → d ≡ behind (construct f l) l t c → Goes insts stays l d t → Walk f t d
  on_walk l t c d w same g =
      walk_on insts stays stays no_pointers admitted.clean staying l t c d w (onto insts stays stays no_pointers admitted.clean staying l t c d w same g)

  named : (t : ℕ) → is_front f t ≡ true → (c : Context) → Walk f t c → IsNamed all (front_of insts stays t)
  named t i c w = front_named insts stays tree admitted spells no_pointers admitted.clean t i c w

  mutual
    rest_normal : {l : ℕ} {c : Context} {rest : List (List ℕ)} {body : Body} → Spells insts stays l c rest body → Walk f l c → Normal false body
    rest_normal (spelled.steps is r) w = let on = rest_normal r w in record { holds = on.holds }
    rest_normal (spelled.finishes is) w = record { holds = tt }
    rest_normal (spelled.joined {l = l} {t = t} {c = c} {body = body} bare g other r) w =
        copies_normal (phis (text insts t)) false body (rest_normal r (on_walk l t c c w (sym (ap (λ k. behind k l t c) bare)) g))
    rest_normal (spelled.branches {l = l} {t = t} {c = c} bare r) w = branch_normal r false c w (sym (ap (λ k. behind k l t c) bare))
    rest_normal (spelled.splits {l = l} {other = other} {c = c} bare x arm) w =
        let on = arm_normal arm c w (sym (ap (λ k. behind k l other c) bare)) in record { holds = on.holds }
    rest_normal (spelled.selects {l = l} {merge = m} {yes = one} {no = other} {c = c} is x y p) w =
        let a = arm_normal x c w (sym (ap (λ k. behind k l one c) is)) in
        let b = arm_normal y c w (sym (ap (λ k. behind k l other c) is)) in
        let v = walk_merge insts stays stays no_pointers admitted.clean staying l m c (Some (ASelection m)) is w refl in
        let i = merge_front insts stays stays no_pointers admitted.clean staying l m (Some (ASelection m)) is refl in
        let r = part_normal p v in
        record { holds = (named m i c v, a.holds, b.holds, r.holds) }
    rest_normal (spelled.switches {l = l} {merge = m} {default = default} {cases = cases} {c = c} {arms = arms} is x p) w =
        let a = arms_normal x w is in
        let v = walk_merge insts stays stays no_pointers admitted.clean staying l m c (Some (ASwitch m)) is w refl in
        let i = merge_front insts stays stays no_pointers admitted.clean staying l m (Some (ASwitch m)) is refl in
        let r = part_normal p v in
        let order : targets arms ≡ firsts (default ∷ seconds cases) = arms_targets x in
        record {
          holds = (
            order ∙ ap (λ t. firsts (t ∷ seconds cases)) (sym (first_label_of arms default _ order)),
            named m i c v,
            a,
            r.holds,
          );
        }

    branch_normal : {l t : ℕ} {b : Context} {body : Body} → SpellsBranch insts stays l b t body → (parted : Bool) (c : Context) → Walk f l c
        → b ≡ behind (construct f l) l t c → Normal parted body
    branch_normal (spelled.leaves x) parted c w same = record { holds = tt }
    branch_normal (spelled.comes {l = l} {h = h} {d = b} g take r) parted c w same = loop_normal r parted (on_walk l h c b w same g)

    arm_normal : {l t : ℕ} {b : Context} {body : Body} → SpellsArm insts stays l b t body → (c : Context) → Walk f l c → b ≡ behind (construct f l) l t c
        → Normal true body
    arm_normal (spelled.out r) c w same = branch_normal r true c w same
    arm_normal (spelled.enters {l = l} {t = t} {d = b} {body = body} g other r) c w same =
        let on = copies_normal (phis (text insts t)) false body (rest_normal r (on_walk l t c b w same g)) in record { holds = (refl, on.holds) }

    arms_normal : {l m : ℕ} {c : Context} {labels : List ℕ} {arms : Arms} → SpellsArms insts stays l m c labels arms → Walk f l c
        → construct f l ≡ Some (ASwitch m) → AreNormal all arms
    arms_normal (spelled.last {l = l} {t = t} {c = c} x) w is = (arm_normal x c w (sym (ap (λ k. behind k l t c) is))).holds
    arms_normal (spelled.also {l = l} {t = t} {c = c} x more) w is = ((arm_normal x c w (sym (ap (λ k. behind k l t c) is))).holds, arms_normal more w is)

    part_normal : {l : ℕ} {c : Context} {body : Body} → SpellsPart insts stays l c body → Walk f l c → Normal false body
    part_normal (spelled.plain is r) w = rest_normal r w
    part_normal (spelled.placed r) w = loop_normal r false w

    loop_normal : {h : ℕ} {c : Context} {entry : Entry} {body : Body} → SpellsLoop insts stays h c entry body → (parted : Bool) → Walk f h c
        → Normal parted body
    loop_normal (spelled.parts {h = h} {merge = m} {next = n} {c = c} is head p q) parted w =
        let a = head_normal head c w m n is refl in
        let v = walk_next insts stays stays no_pointers admitted.clean staying h m n c is w in
        let u = walk_merge insts stays stays no_pointers admitted.clean staying h m c (Some (ALoop m n)) is w refl in
        let b = part_normal p v in
        let r = part_normal q u in
        record {
          holds = (
            named h (right_holds (not (names f h == 0)) (is_loop (construct f h)) (ap is_loop is)) c w,
            named n (next_front insts stays stays no_pointers admitted.clean staying h n (Some (ALoop m n)) is refl) _ v,
            named m (merge_front insts stays stays no_pointers admitted.clean staying h m (Some (ALoop m n)) is refl) c u,
            a.holds,
            b.holds,
            r.holds,
          );
        }

    head_normal : {h : ℕ} {b : Context} {opening : List ℕ} {rest : List (List ℕ)} {body : Body} → SpellsHead insts stays h b opening rest body
        → (c : Context) → Walk f h c
        → (m n : ℕ) → construct f h ≡ Some (ALoop m n) → b ≡ InBody h m n ∷ c → Normal true body
    head_normal (spelled.begins is r) c w m n k same = let on = head_normal r c w m n k same in record { holds = on.holds }
    head_normal (spelled.goes {h = h} {t = t} arm) c w m n k same = arm_normal arm c w (same ∙ sym (ap (λ x. behind x h t c) k))
    head_normal (spelled.parted {h = h} {other = other} x arm) c w m n k same =
        let on = arm_normal arm c w (same ∙ sym (ap (λ x. behind x h other c) k)) in record { holds = on.holds }

pub spelled_tree_is_normal : SpelledTreeIsNormal
spelled_tree_is_normal insts stays f admitted spells = (rest_normal insts stays f admitted spells spells.body (walk insts stays f admitted spells)).holds
