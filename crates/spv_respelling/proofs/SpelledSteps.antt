-- What holds of all lines of a function's blocks holds of the instructions of the tree that they spell.
use Rattle.std.proofs.Common.{◌≡◌, ℕ, Bool, true, false, ◌==◌, cond, List, [], ◌∷◌, map}
use Rattle.std.specs.List.{AllByRecursion}
use Rattle.spv_module.specs.Instruction.{Instruction}
use Rattle.spv_module.specs.Layout.{is_terminator}
use Rattle.spv_blocks.specs.Cutting.{is_label_mark, word}
use Rattle.spv_walk.specs.Contexts.{Context}
use Rattle.spv_bodies.specs.Bodies.{Entry, Body, Arms}
use Rattle.spv_normal.specs.Lines.{behind_label, before_labels, line, up_to_terminator}
use Rattle.spv_spelling.specs.Spelling as spelled
use Rattle.spv_spelling.specs.Spelling.{Spells, SpellsArm, SpellsArms, SpellsBranch, SpellsHead, SpellsLoop, SpellsPart}
use Rattle.spv_spelling.specs.Text.{behind_phis, copies, copy_of, is_phi, phis, text}
use Rattle.spv_respelling.proofs.EachLine.{OfArms, OfSteps}

-- ---- parts of a function's instructions

module _ (P : Instruction → Type 0) where
  pub all_behind : (is : List Instruction) (l : ℕ) → AllByRecursion P is → AllByRecursion P (behind_label is l)
  all_behind [] l h = tt
  all_behind (i ∷ is) l h = by (cond (is_label_mark i) (word i 1 == l) false) (all_behind is l h.1)
    where
      by : (b : Bool) → AllByRecursion P (behind_label is l) → AllByRecursion P (cond b is (behind_label is l))
      by true later = h.1
      by false later = later

  pub all_up_to : (is : List Instruction) → AllByRecursion P is → AllByRecursion P (up_to_terminator is)
  all_up_to [] h = tt
  all_up_to (i ∷ is) h = by (is_terminator i) (all_up_to is h.1)
    where
      by : (b : Bool) → AllByRecursion P (up_to_terminator is) → AllByRecursion P (cond b (i ∷ []) (i ∷ up_to_terminator is))
      by true later = (h.0, tt)
      by false later = (h.0, later)

  pub all_before : (is : List Instruction) → AllByRecursion P is → AllByRecursion P (before_labels is)
  all_before [] h = tt
  all_before (i ∷ is) h = by (is_label_mark i) (all_before is h.1)
    where
      by : (b : Bool) → AllByRecursion P (before_labels is) → AllByRecursion P (cond b [] (i ∷ before_labels is))
      by true later = tt
      by false later = (h.0, later)

  pub all_mapped : (Q : List ℕ → Type 0) (f : Instruction → List ℕ) → ((i : Instruction) → P i → Q (f i)) → (is : List Instruction) → AllByRecursion P is
      → AllByRecursion Q (map f is)
  all_mapped Q f to [] h = tt
  all_mapped Q f to (i ∷ is) h = (to i h.0, all_mapped Q f to is h.1)

  -- the lines of a block
  pub all_lines : (Q : List ℕ → Type 0) → ((i : Instruction) → P i → Q (line i)) → (insts : List Instruction) → AllByRecursion P insts → (l : ℕ)
      → AllByRecursion Q (text insts l)
  all_lines Q to insts h l = all_mapped Q line to (up_to_terminator (behind_label insts l)) (all_up_to (behind_label insts l) (all_behind insts l h))

-- ---- the tree

module _ (insts : List Instruction) (stays : ℕ → ℕ) (Q : List ℕ → Type 0) (texts : (l : ℕ) → AllByRecursion Q (text insts l))
    (copied : (w : List ℕ) → is_phi w ≡ true → Q w → Q (copy_of w)) where
  -- as a record, so that the body is known
  pub record Steps (body : Body) : Type 0 where
    pub hold : OfSteps Q body

  all_behind_phis : (ls : List (List ℕ)) → AllByRecursion Q ls → AllByRecursion Q (behind_phis ls)
  all_behind_phis [] h = tt
  all_behind_phis (w ∷ ws) h = by (is_phi w) (all_behind_phis ws h.1)
    where
      by : (b : Bool) → AllByRecursion Q (behind_phis ws) → AllByRecursion Q (cond b (behind_phis ws) (w ∷ ws))
      by true later = later
      by false later = h

  behind : (l : ℕ) → AllByRecursion Q (behind_phis (text insts l))
  behind l = all_behind_phis (text insts l) (texts l)

  copies_hold : (ls : List (List ℕ)) (body : Body) → AllByRecursion Q ls → Steps body → Steps (copies (phis ls) body)
  copies_hold [] body h s = s
  copies_hold (w ∷ ws) body h s = by (is_phi w) (λ e. copied w e h.0) (copies_hold ws body h.1 s)
    where
      by : (b : Bool) → (b ≡ true → Q (copy_of w)) → Steps (copies (phis ws) body) → Steps (copies (cond b (w ∷ phis ws) []) body)
      by true q later = record { hold = (q (λ i. true), later.hold) }
      by false q later = s

  mutual
    pub rest_steps : {l : ℕ} {c : Context} {rest : List (List ℕ)} {body : Body} → Spells insts stays l c rest body → AllByRecursion Q rest → Steps body
    rest_steps (spelled.steps is r) h = let on = rest_steps r h.1 in record { hold = (h.0, on.hold) }
    rest_steps (spelled.finishes is) h = record { hold = h.0 }
    rest_steps (spelled.joined {t = t} {body = body} bare g other r) h = copies_hold (text insts t) body (texts t) (rest_steps r (behind t))
    rest_steps (spelled.branches bare r) h = branch_steps r
    rest_steps (spelled.splits bare x arm) h = let on = arm_steps arm in record { hold = on.hold }
    rest_steps (spelled.selects is x y p) h =
        let a = arm_steps x in
        let b = arm_steps y in
        let r = part_steps p in
        record { hold = (a.hold, b.hold, r.hold) }
    rest_steps (spelled.switches is x p) h =
        let a = arms_steps x in
        let r = part_steps p in
        record { hold = (a, r.hold) }

    branch_steps : {l t : ℕ} {b : Context} {body : Body} → SpellsBranch insts stays l b t body → Steps body
    branch_steps (spelled.leaves x) = record { hold = tt }
    branch_steps (spelled.comes g take r) = loop_steps r

    arm_steps : {l t : ℕ} {b : Context} {body : Body} → SpellsArm insts stays l b t body → Steps body
    arm_steps (spelled.out r) = branch_steps r
    arm_steps (spelled.enters {t = t} {body = body} g other r) =
        let on = copies_hold (text insts t) body (texts t) (rest_steps r (behind t)) in record { hold = on.hold }

    arms_steps : {l m : ℕ} {c : Context} {labels : List ℕ} {arms : Arms} → SpellsArms insts stays l m c labels arms → OfArms Q arms
    arms_steps (spelled.last x) = (arm_steps x).hold
    arms_steps (spelled.also x more) = ((arm_steps x).hold, arms_steps more)

    part_steps : {l : ℕ} {c : Context} {body : Body} → SpellsPart insts stays l c body → Steps body
    part_steps (spelled.plain {l = l} is r) = rest_steps r (behind l)
    part_steps (spelled.placed r) = loop_steps r

    loop_steps : {h : ℕ} {c : Context} {entry : Entry} {body : Body} → SpellsLoop insts stays h c entry body → Steps body
    loop_steps (spelled.parts {h = h} is head p q) =
        let a = head_steps head (behind h) in
        let b = part_steps p in
        let r = part_steps q in
        record { hold = (a.hold, b.hold, r.hold) }

    head_steps : {h : ℕ} {b : Context} {opening : List ℕ} {rest : List (List ℕ)} {body : Body} → SpellsHead insts stays h b opening rest body
        → AllByRecursion Q rest → Steps body
    head_steps (spelled.begins is r) h = let on = head_steps r h.1 in record { hold = (h.0, on.hold) }
    head_steps (spelled.goes arm) h = arm_steps arm
    head_steps (spelled.parted x arm) h = let on = arm_steps arm in record { hold = on.hold }
