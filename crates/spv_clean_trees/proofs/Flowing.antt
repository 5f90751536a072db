-- What a clean function spells flows as its rules on control flow ask: by recursion on how it is spelled.
use Rattle.std.proofs.Common.{◌≡◌, ◌≢◌, ℕ, Bool, true, false, cond, List, [], ◌∷◌, ◌++◌, length, Some, refl, sym, ap, subst, ◌∙◌, append_assoc}
use Rattle.spv_opcodes.specs.declared.op.TheConstants as op
use Rattle.spv_module.specs.Instruction.{Instruction}
use Rattle.spv_blocks.specs.Blocks.{Code, ASelection, ASwitch, ALoop, End, Branch, BranchIf, Switch, construct}
use Rattle.spv_blocks.specs.Cutting.{blocks_of}
use Rattle.spv_walk.specs.Contexts.{Context, InSelection, InArm, InBody, InNext, behind, is_exit}
use Rattle.spv_walk.specs.Walk.{Walk, end_of}
use Rattle.spv_bodies.specs.Bodies.{Exit, Entry, ByBranch, Body, Splits, Arms, Last, Also, target}
use Rattle.spv_bodies.specs.Listing as listing
use Rattle.spv_bodies.specs.Listing.{Branching, arriving, branch_line, first_target, instruction, pair_words, selection_line, split_line}
use Rattle.spv_tree.specs.Sound.{targets}
use Rattle.spv_spelling.specs.Clean.{IsClean}
use Rattle.spv_spelling.specs.Spelling as spelled
use Rattle.spv_spelling.specs.Spelling.{AreStaying, Spells, SpellsArm, SpellsArms, SpellsBranch, SpellsExit, SpellsHead, SpellsLoop, SpellsPart}
use Rattle.spv_spelling.specs.Text.{copies, phis, text}
use Rattle.spv_normal_trees.proofs.Arranging.{targets_differ}
use Rattle.spv_normal_trees.proofs.Growing.{end_here, onto, walk_on, walk_merge, walk_next}
use Rattle.spv_normal_trees.proofs.NormalBlocks.{in_front_and_behind}
use Rattle.spv_normal_trees.proofs.Texts.{line_end, switch_end}
use Rattle.spv_structured.specs.Structured.{ArmsFlow, Flows, first_end, parts_header}
use Rattle.spv_clean_trees.proofs.Alike.{Alike, exit_alike, in_arm, in_body, in_part, in_selection}
use Rattle.spv_clean_trees.proofs.Ends.{ends_outside, header_parted, literals_once}

-- ---- where a body begins

pub loop_target : {insts : List Instruction} {stays : ℕ → ℕ} {h : ℕ} {c : Context} {entry : Entry} {body : Body} → SpellsLoop insts stays h c entry body
    → target body ≡ h
loop_target (spelled.parts is head p q) = refl

pub arm_target : {insts : List Instruction} {stays : ℕ → ℕ} {l t : ℕ} {d : Context} {body : Body} → SpellsArm insts stays l d t body → target body ≡ t
arm_target (spelled.out (spelled.leaves x)) = refl
arm_target (spelled.out (spelled.comes g take r)) = loop_target r
arm_target (spelled.enters g other r) = refl

loop_first : {insts : List Instruction} {stays : ℕ → ℕ} {h : ℕ} {c : Context} {values : List ℕ} {body : Body}
    → SpellsLoop insts stays h c (ByBranch values) body
    → first_end body ≡ Branch h
loop_first (spelled.parts {entry = ByBranch values} is head p q) = refl

branch_first : {insts : List Instruction} {stays : ℕ → ℕ} {l t : ℕ} {d : Context} {body : Body} → SpellsBranch insts stays l d t body
    → first_end body ≡ Branch t
branch_first (spelled.leaves x) = refl
branch_first (spelled.comes g take r) = loop_first r

arm_first : {insts : List Instruction} {stays : ℕ → ℕ} {l t : ℕ} {d : Context} {body : Body} → SpellsArm insts stays l d t body → first_end body ≡ Branch t
arm_first (spelled.out r) = branch_first r
arm_first (spelled.enters g other r) = refl

-- the targets of arms are their labels
pub arms_targets : {insts : List Instruction} {stays : ℕ → ℕ} {l merge : ℕ} {c : Context} {labels : List ℕ} {arms : Arms}
    → SpellsArms insts stays l merge c labels arms
    → targets arms ≡ labels
arms_targets (spelled.last a) = ap (λ t. t ∷ []) (arm_target a)
arms_targets (spelled.also {t = t} {labels = labels} {arm = arm} {arms = arms} a rest) =
    ap (λ u. u ∷ targets arms) (arm_target a) ∙ ap (λ (ts : List ℕ). t ∷ ts) (arms_targets rest)

first_of : List ℕ → ℕ
first_of [] = 0
first_of (t ∷ ts) = t

first_arm : (arms : Arms) → first_target arms ≡ first_of (targets arms)
unfolding first_of
first_arm (Last arm) = refl
first_arm (Also arm arms) = refl

pub first_label_of : (arms : Arms) (t : ℕ) (ts : List ℕ) → targets arms ≡ t ∷ ts → first_target arms ≡ t
unfolding first_of
first_label_of arms t ts e = first_arm arms ∙ ap first_of e

copies_flow : (c : Context) (s : ℕ) (ps : List (List ℕ)) (body : Body) → Flows c s (first_end body) body
    → Flows c s (first_end (copies ps body)) (copies ps body)
copies_flow c s [] body h = h
copies_flow c s (p ∷ ps) body h = copies_flow c s ps body h

split_end : (condition : ℕ) (on : Bool) (a b : ℕ) → line_end (split_line condition on a b) ≡ BranchIf (cond on a b) (cond on b a)
split_end condition true a b = refl
split_end condition false a b = refl

split_apart : (on : Bool) (a b : ℕ) → cond on a b ≢ cond on b a → a ≢ b
split_apart true a b n = n
split_apart false a b n = λ e. n (sym e)

-- a continue part ends in one branch to the header
abbrev pub TurnsOnce : (h next : ℕ) → Body → Type 0
TurnsOnce h next continuing = length (arriving h (listing.branches next continuing)) ≡ 1

module _ (insts : List Instruction) (stays : ℕ → ℕ) (is_pointer : ℕ → Bool) (clean : IsClean is_pointer (blocks_of insts)) (staying : AreStaying insts stays)
    (turns : (h m n : ℕ) (c : Context) (continuing : Body) → Walk (blocks_of insts) h c → construct (blocks_of insts) h ≡ Some (ALoop m n)
    → SpellsPart insts stays n (InNext h m ∷ c) continuing → TurnsOnce h n continuing) where
  abbrev f : Code
  f = blocks_of insts

  -- the body of a header, whose terminator parts it
  record HeadFlows (d : Context) (h m : ℕ) (body : Body) : Type 0 where
    flows : Flows d h (first_end body) body
    parted : parts_header (first_end body) m ≡ true

  -- a conditional branch out of the part and on
  split_here : (l condition other : ℕ) (on : Bool) (b c : Context) (exit : Exit) (body : Body) → Walk f l c → (front : List (List ℕ))
      → text insts l ≡ front ++ split_line condition on exit.target other ∷ [] → SpellsArm insts stays l b other body
      → end_of f l ≡ BranchIf (cond on exit.target (target body)) (cond on (target body) exit.target)
  split_here l condition other on b c exit body w front e arm =
      end_here insts stays stays is_pointer clean staying l c front (split_line condition on exit.target other) w e ∙ split_end condition on exit.target other
      ∙ ap (λ t. BranchIf (cond on exit.target t) (cond on t exit.target)) (sym (arm_target arm))

  split_flows : (l condition other : ℕ) (on : Bool) (b c : Context) (exit : Exit) (body : Body) → Walk f l c → (front : List (List ℕ))
      → text insts l ≡ front ++ split_line condition on exit.target other ∷ [] → b ≡ behind (construct f l) l other c → SpellsExit insts stays l b exit
      → SpellsArm insts stays l b other body → (d : Context) → Alike b d → (s : ℕ) → ((e : End) → end_of f l ≡ e → Flows d s e body)
      → Flows d s (first_end (Splits condition on exit body)) (Splits condition on exit body)
  split_flows l condition other on b c exit body w front e same x arm d a s go =
      let at = split_here l condition other on b c exit body w front e arm in
      let k : End = BranchIf (cond on exit.target (target body)) (cond on (target body) exit.target) in (
        exit_alike b d k exit.target a (subst (λ k. is_exit b k exit.target ≡ true) at x.leaves),
        split_apart on exit.target (target body) (targets_differ is_pointer f clean l c (cond on exit.target (target body))
            (cond on (target body) exit.target) w at),
        go k at,
      )

  mutual
    pub rest_flows : {l : ℕ} {c : Context} {rest : List (List ℕ)} {body : Body} → Spells insts stays l c rest body → Walk f l c → (front : List (List ℕ))
        → text insts l ≡ front ++ rest → (d : Context) → Alike c d → (s : ℕ) → Flows d s (first_end body) body
    rest_flows (spelled.steps {words = words} {rest = rest} is r) w front e d a s = rest_flows r w (front ++ words ∷ [])
        (e ∙ sym (append_assoc front (words ∷ []) rest)) d a s
    rest_flows (spelled.finishes {l = l} {c = c} {words = words} is) w front e d a s =
        sym a.next ∙ ends_outside is_pointer f clean l c words is w (end_here insts stays stays is_pointer clean staying l c front words w e)
    rest_flows (spelled.joined {l = l} {t = t} {c = c} {body = body} bare g other r) w front e d a s =
        let o = onto insts stays stays is_pointer clean staying l t c c w (sym (ap (λ k. behind k l t c) bare)) g in
        copies_flow d s (phis (text insts t)) body
        (rest_flows r (walk_on insts stays stays is_pointer clean staying l t c c w o) (phis (text insts t)) (sym (in_front_and_behind (text insts t))) d a s)
    rest_flows (spelled.branches {l = l} {t = t} {c = c} {body = body} bare r) w front e d a s =
        branch_flows r c w (sym (ap (λ k. behind k l t c) bare)) d a s (first_end body)
        (end_here insts stays stays is_pointer clean staying l c front (branch_line t) w e ∙ sym (branch_first r))
    rest_flows (spelled.splits {l = l} {condition = condition} {other = other} {on = on} {c = c} {exit = exit} {body = body} bare x arm) w front e d a s =
        split_flows l condition other on c c exit body w front e (sym (ap (λ k. behind k l other c) bare)) x arm d a s
        (λ k at. arm_flows arm c w (sym (ap (λ k. behind k l other c) bare)) d a s k at)
    rest_flows (spelled.selects {l = l} {merge = m} {control = control} {condition = condition} {yes = one} {no = other} {c = c} {first = first}
        {second = second} {rest = rest} is x y p) w front e d a s =
        let there : end_of f l ≡ BranchIf one other =
        end_here insts stays stays is_pointer clean staying l c (front ++ selection_line m control ∷ []) (split_line condition true one other) w
        (e ∙ sym (append_assoc front (selection_line m control ∷ []) (split_line condition true one other ∷ []))) in
        let at : end_of f l ≡ BranchIf (target first) (target second) = there ∙ ap (λ t. BranchIf t other) (sym (arm_target x))
        ∙ ap (BranchIf (target first)) (sym (arm_target y)) in (
          targets_differ is_pointer f clean l c (target first) (target second) w at,
          arm_flows x c w (sym (ap (λ k. behind k l one c) is)) (InSelection m ∷ d) (in_selection c d m a) s (BranchIf (target first) (target second)) at,
          arm_flows y c w (sym (ap (λ k. behind k l other c) is)) (InSelection m ∷ d) (in_selection c d m a) s (BranchIf (target first) (target second)) at,
          part_flows p (walk_merge insts stays stays is_pointer clean staying l m c (Some (ASelection m)) is w refl) d a,
        )
    rest_flows (spelled.switches {l = l} {merge = m} {control = control} {selector = selector} {default = default} {cases = cases} {c = c} {arms = arms}
        {rest = rest} is x p) w front e d a s =
        let last : List ℕ = instruction op.SWITCH (selector ∷ default ∷ pair_words cases) in
        let there : end_of f l ≡ Switch default cases =
        end_here insts stays stays is_pointer clean staying l c (front ++ selection_line m control ∷ []) last w
        (e ∙ sym (append_assoc front (selection_line m control ∷ []) (last ∷ [])))
        ∙ switch_end selector default cases in
        let at : end_of f l ≡ Switch (first_target arms) cases = there ∙ ap (λ t. Switch t cases) (sym (first_label_of arms default _ (arms_targets x))) in (
          literals_once is_pointer f clean l c default cases w there,
          arms_flow x w is d a s (Switch (first_target arms) cases) at,
          part_flows p (walk_merge insts stays stays is_pointer clean staying l m c (Some (ASwitch m)) is w refl) d a,
        )

    branch_flows : {l t : ℕ} {b : Context} {body : Body} → SpellsBranch insts stays l b t body → (c : Context) → Walk f l c → b ≡ behind (construct f l) l t c
        → (d : Context) → Alike b d → (s : ℕ) (e : End) → end_of f l ≡ e → Flows d s e body
    branch_flows (spelled.leaves {l = l} {d = b} {exit = exit} x) c w same d a s e at =
        exit_alike b d e exit.target a (subst (λ k. is_exit b k exit.target ≡ true) at x.leaves)
    branch_flows (spelled.comes {l = l} {h = h} {d = b} {body = body} g take r) c w same d a s e at =
        loop_flows r (walk_on insts stays stays is_pointer clean staying l h c b w (onto insts stays stays is_pointer clean staying l h c b w same g)) d a s e

    arm_flows : {l t : ℕ} {b : Context} {body : Body} → SpellsArm insts stays l b t body → (c : Context) → Walk f l c → b ≡ behind (construct f l) l t c
        → (d : Context) → Alike b d → (s : ℕ) (e : End) → end_of f l ≡ e → Flows d s e body
    arm_flows (spelled.out r) c w same d a s e at = branch_flows r c w same d a s e at
    arm_flows (spelled.enters {l = l} {t = t} {d = b} {body = body} g other r) c w same d a s e at =
        copies_flow d t (phis (text insts t)) body
        (rest_flows r (walk_on insts stays stays is_pointer clean staying l t c b w (onto insts stays stays is_pointer clean staying l t c b w same g))
        (phis (text insts t)) (sym (in_front_and_behind (text insts t))) d a t)

    arms_flow : {l m : ℕ} {c : Context} {labels : List ℕ} {arms : Arms} → SpellsArms insts stays l m c labels arms → Walk f l c
        → construct f l ≡ Some (ASwitch m)
        → (d : Context) → Alike c d → (s : ℕ) (e : End) → end_of f l ≡ e → ArmsFlow d s m e arms
    arms_flow (spelled.last {l = l} {merge = m} {t = t} {c = c} {arm = arm} x) w is d a s e at =
        arm_flows x c w (sym (ap (λ k. behind k l t c) is)) (InArm s m (target arm) ∷ d) (in_arm c d m l s t (target arm) a) s e at
    arms_flow (spelled.also {l = l} {merge = m} {t = t} {c = c} {arm = arm} {arms = arms} x more) w is d a s e at = (
      arm_flows x c w (sym (ap (λ k. behind k l t c) is)) (InArm s m (target arm) ∷ d) (in_arm c d m l s t (target arm) a) s e at,
      arms_flow more w is d a s e at,
    )

    part_flows : {l : ℕ} {c : Context} {body : Body} → SpellsPart insts stays l c body → Walk f l c → (d : Context) → Alike c d
        → Flows d l (first_end body) body
    part_flows (spelled.plain {l = l} is r) w d a = rest_flows r w (phis (text insts l)) (sym (in_front_and_behind (text insts l))) d a l
    part_flows (spelled.placed {l = l} {body = body} r) w d a = loop_flows r w d a l (first_end body)

    loop_flows : {h : ℕ} {c : Context} {entry : Entry} {body : Body} → SpellsLoop insts stays h c entry body → Walk f h c → (d : Context) → Alike c d
        → (s : ℕ) (e : End)
        → Flows d s e body
    loop_flows (spelled.parts {h = h} {merge = m} {next = n} {control = control} {c = c} {inner = inner} {continuing = continuing}
        {rest = rest} is head p q) w d a s e =
        let first = head_flows head c w m n is refl (phis (text insts h)) (sym (in_front_and_behind (text insts h))) (InBody h m n ∷ d)
        (in_body c d h m n a) in (
          first.parted,
          first.flows,
          part_flows p (walk_next insts stays stays is_pointer clean staying h m n c is w) (InNext h m ∷ d) (in_part c d h m),
          turns h m n c continuing w is p,
          part_flows q (walk_merge insts stays stays is_pointer clean staying h m c (Some (ALoop m n)) is w refl) d a,
        )

    head_flows : {h : ℕ} {b : Context} {opening : List ℕ} {rest : List (List ℕ)} {body : Body} → SpellsHead insts stays h b opening rest body → (c : Context)
        → Walk f h c
        → (m n : ℕ) → construct f h ≡ Some (ALoop m n) → b ≡ InBody h m n ∷ c → (front : List (List ℕ)) → text insts h ≡ front ++ rest → (d : Context)
        → Alike b d
        → HeadFlows d h m body
    head_flows (spelled.begins {words = words} {rest = rest} is r) c w m n k same front e d a =
        let on = head_flows r c w m n k same (front ++ words ∷ []) (e ∙ sym (append_assoc front (words ∷ []) rest)) d a in
        record { flows = on.flows; parted = on.parted }
    head_flows (spelled.goes {h = h} {t = t} {opening = opening} {body = body} arm) c w m n k same front e d a = record {
      flows = arm_flows arm c w (same ∙ sym (ap (λ x. behind x h t c) k)) d a h (first_end body)
          (end_here insts stays stays is_pointer clean staying h c (front ++ opening ∷ []) (branch_line t) w
          (e ∙ sym (append_assoc front (opening ∷ []) (branch_line t ∷ []))) ∙ sym (arm_first arm));
      parted = ap (λ x. parts_header x m) (arm_first arm);
    }
    head_flows (spelled.parted {h = h} {condition = condition} {other = other} {on = on} {d = b} {opening = opening} {exit = exit}
        {body = body} x arm) c w m n k same front e d a =
        let there : text insts h ≡ (front ++ opening ∷ []) ++ split_line condition on exit.target other ∷ [] =
        e ∙ sym (append_assoc front (opening ∷ []) (split_line condition on exit.target other ∷ [])) in
        let to : b ≡ behind (construct f h) h other c = same ∙ sym (ap (λ x. behind x h other c) k) in
        record {
          flows = split_flows h condition other on b c exit body w (front ++ opening ∷ []) there to x arm d a h (λ j at. arm_flows arm c w to d a h j at);
          parted = header_parted is_pointer f clean h m n c (cond on exit.target (target body)) (cond on (target body) exit.target) w k
              (split_here h condition other on b c exit body w (front ++ opening ∷ []) there arm);
        }
