-- Selections and switches.
use Rattle.std.proofs.Common.{◌≡◌, inl, inr, ℕ, ◌+◌, ◌-◌, ◌<◌, ◌==◌, Bool, true, cond, not, List, [], ◌∷◌, ◌++◌, filter, length, map, take, get_or, Some, All, sym, ap, subst, ◌∙◌}
use Rattle.std.proofs.lemmas.List.{take_more}
use Rattle.std.proofs.lemmas.List.Elements.{All-nil, All-cons, All-head, All-tail}
use Rattle.spv_blocks.specs.Blocks.{ASwitch, Switch as SwitchEnd, branches, construct, has, merge_of, seconds}
use Rattle.spv_walk.specs.Contexts.{Context, InSelection, behind}
use Rattle.spv_walk.proofs.Unique.{tells, right_holds}
use Rattle.spv_bodies.specs.Bodies as plain
use Rattle.spv_bodies.specs.Bodies.{Body, Selects, Switches, Arms}
use Rattle.spv_spelling.specs.Spelling.{SpellsArm, SpellsArms, selects, switches, last, also}
use Rattle.spv_spelling.specs.Text.{firsts, front_of as front_in_text}
use Rattle.spv_tree.specs.declared.body.Arm.{Arm}
use Rattle.spv_tree.specs.declared.body.Case.{Case}
use Rattle.spv_tree.specs.declared.body.Choice.{Choice}
use Rattle.spv_tree.specs.declared.body.Item.{Item}
use Rattle.spv_tree.specs.declared.body.Item as item
use Rattle.spv_tree.specs.declared.body.Switch.{Switch}
use Rattle.spv_tree.specs.Tree.{arm_body, arms_of, case_of, front_of, items_then}
use Rattle.spv_tree.proofs.Equations.{then_choice, then_push, then_switch}
use Rattle.spv_sources.specs.declared.close.Close.TheVariants as close
use Rattle.spv_sources.specs.declared.close.Fork.{Fork}
use Rattle.spv_sources.specs.Close.{close_lines}
use Rattle.spv_parse.specs.declared.scene.Scene.{Scene}
use Rattle.spv_parse.specs.declared.state.State.{State}
use Rattle.spv_parse.specs.Scene.{code_of, context, insts_of, staying, IsNext}
use Rattle.spv_parse.specs.Ways.{IsPart}
use Rattle.spv_parse.specs.Ends.{Leads, Reads, SpellsArmTo, SpellsLines, StandsState}
use Rattle.spv_parse.specs.Arms.{BranchToEach, SpellEach, others_of}
use Rattle.spv_parse.proofs.Branching.{branches_by_end, first_has}
use Rattle.spv_parse.proofs.Spelled.{part_spells, part_stands}
use Rattle.spv_parse.proofs.Standing.{merged}

-- what a merge block begins, where it is one step further on
pub part_next : (s : Scene) (left m : ℕ) (c : Context) (st : State) → IsPart (code_of s) m st → IsNext s left m c → StandsState s st (left - 1)
part_next s left m c st p n = part_stands s m (left - 1) st p n.stands

-- ---- selections

module _ (s : Scene) (l left control merge : ℕ) (fork : Fork) (r : Reads s l left (close.Choice control merge fork)) where
  choice_merge : IsNext s left merge (context s l)
  choice_merge = merged s l left r.stands merge (ap merge_of r.opens)

  choice_arm : (t : ℕ) (body : Body) → SpellsArmTo s l t body → SpellsArm (insts_of s) (staying s) l (InSelection merge ∷ context s l) t body
  choice_arm t body spells = subst (λ k. SpellsArm (insts_of s) (staying s) l (behind k l t (context s l)) t body) r.opens spells

  pub choice_leads : (c : Choice) (st : State) (old new : List Item) → c.control ≡ control → c.condition ≡ fork.condition
      → SpellsArmTo s l fork.first (arm_body c.first) → SpellsArmTo s l fork.second (arm_body c.second) → front_of c.merge ≡ front_in_text (insts_of s) (staying s) merge
      → IsPart (code_of s) merge st → new ≡ old ++ item.Choice c ∷ []
      → Leads s (SpellsLines s l (close_lines (close.Choice control merge fork))) left old new st
  choice_leads c st old new is_control is_condition first second is_front part pushed = record {
    some = choice_merge.some;
    stands = part_next s left merge (context s l) st part choice_merge;
    spells = λ rest spells.
        let whole = λ (m : plain.Front). Selects control fork.condition (arm_body c.first) (arm_body c.second) m rest in
        record {
          body = whole (front_in_text (insts_of s) (staying s) merge);
          spells =
              selects r.opens (choice_arm fork.first (arm_body c.first) first) (choice_arm fork.second (arm_body c.second) second)
              (part_spells s merge (context s l) st rest part choice_merge.same spells);
          same =
              ap (λ z. items_then z rest) pushed ∙ then_push old (item.Choice c) rest ∙ ap (items_then old)
              (then_choice c rest ∙ ap (λ z. Selects z c.condition (arm_body c.first) (arm_body c.second) (front_of c.merge) rest) is_control
              ∙ ap (λ z. Selects control z (arm_body c.first) (arm_body c.second) (front_of c.merge) rest) is_condition ∙ ap whole is_front);
        };
  }

-- ---- arms

-- one arm more
pub each_more : (s : Scene) (l t : ℕ) (labels : List ℕ) (arms : List Arm) (arm : Arm) → SpellEach s l labels arms → SpellsArmTo s l t (arm_body arm)
    → SpellEach s l (labels ++ t ∷ []) (arms ++ arm ∷ [])
each_more s l t [] [] arm each spells = (spells, tt)
each_more s l t [] (a ∷ arms) arm each spells = absurd each
each_more s l t (k ∷ labels) [] arm each spells = absurd each
each_more s l t (k ∷ labels) (a ∷ arms) arm each spells = (each.0, each_more s l t labels arms arm each.1 spells)

pub each_next : (s : Scene) (l k t : ℕ) (labels : List ℕ) (arms new : List Arm) (arm : Arm) → k < length labels → t ≡ get_or labels k t
    → SpellEach s l (take k labels) arms → SpellsArmTo s l t (arm_body arm) → new ≡ arms ++ arm ∷ [] → SpellEach s l (take (k + 1) labels) new
each_next s l k t labels arms new arm within is each spells pushed =
    subst (λ z. SpellEach s l z new) (sym (take_more labels k t within ∙ ap (λ z. take k labels ++ z ∷ []) (sym is)))
    (subst (SpellEach s l (take k labels ++ t ∷ [])) (sym pushed) (each_more s l t (take k labels) arms arm each spells))

-- ---- switches

abbrev Hits : Scene → ℕ → ℕ → Type 0
Hits s l t = branches (code_of s) l t ≡ true

all_filter : (P : ℕ → Type 0) (p : ℕ → Bool) (xs : List ℕ) → All P xs → All P (filter p xs)
all_filter P p [] each = All-nil P
all_filter P p (x ∷ xs) each =
    let rest = all_filter P p xs (All-tail P x xs each) in
    elim (tells (p x)) [
      | inl e ↦ subst (All P) (sym (ap (λ b. cond b (x ∷ filter p xs) (filter p xs)) e)) (All-cons P x (filter p xs) (All-head P x xs each) rest)
      | inr e ↦ subst (All P) (sym (ap (λ b. cond b (x ∷ filter p xs) (filter p xs)) e)) rest
    ]

all_firsts : (P : ℕ → Type 0) (xs : List ℕ) → All P xs → All P (firsts xs)
all_firsts P [] each = All-nil P
all_firsts P (x ∷ xs) each = All-cons P x _ (All-head P x xs each) (all_filter P (λ y. not (y == x)) (firsts xs) (all_firsts P xs (All-tail P x xs each)))

-- each number of a list is in it, behind others
all_in : (whole front xs : List ℕ) → ((t : ℕ) → has xs t ≡ true → has whole t ≡ true) → All (λ t. has whole t ≡ true) xs
all_in whole front [] into = All-nil (λ t. has whole t ≡ true)
all_in whole front (x ∷ xs) into =
    All-cons (λ t. has whole t ≡ true) x xs (into x (first_has x xs)) (all_in whole front xs (λ t h. into t (right_holds (x == t) (has xs t) h)))

all_map : (P Q : ℕ → Type 0) (xs : List ℕ) → ((t : ℕ) → P t → Q t) → All P xs → All Q xs
all_map P Q [] f each = All-nil Q
all_map P Q (x ∷ xs) f each = All-cons Q x xs (f x (All-head P x xs each)) (all_map P Q xs f (All-tail P x xs each))

arms_spell : (s : Scene) (l merge : ℕ) (t : ℕ) (first : Body) (labels : List ℕ) (arms : List Arm) → construct (code_of s) l ≡ Some (ASwitch merge)
    → SpellsArmTo s l t first → SpellEach s l labels arms → SpellsArms (insts_of s) (staying s) l merge (context s l) (t ∷ labels) (arms_of first arms)
arms_spell s l merge t first [] [] opens spells each =
    last (subst (λ k. SpellsArm (insts_of s) (staying s) l (behind k l t (context s l)) t first) opens spells)
arms_spell s l merge t first [] (a ∷ arms) opens spells each = absurd each
arms_spell s l merge t first (k ∷ labels) [] opens spells each = absurd each
arms_spell s l merge t first (k ∷ labels) (a ∷ arms) opens spells each =
    also (subst (λ k. SpellsArm (insts_of s) (staying s) l (behind k l t (context s l)) t first) opens spells)
    (arms_spell s l merge k (arm_body a) labels arms opens each.0 each.1)

module _ (s : Scene) (l left control merge selector default : ℕ) (cases : List Case) (r : Reads s l left (close.Switch control merge selector default cases)) where
  switch_merge : IsNext s left merge (context s l)
  switch_merge = merged s l left r.stands merge (ap merge_of r.opens)

  pub to_default : branches (code_of s) l default ≡ true
  to_default = branches_by_end (code_of s) l default (SwitchEnd default (map case_of cases)) r.ends (first_has default (seconds (map case_of cases)))

  pub to_others : BranchToEach s l (others_of default cases)
  to_others =
      let ts = seconds (map case_of cases) in
      let P : ℕ → Type 0 = λ t. has (default ∷ ts) t ≡ true in
      let each = all_in (default ∷ ts) [] ts (λ t h. right_holds (default == t) (has ts t) h) in
      all_filter (Hits s l) (λ t. not (t == default)) (firsts ts)
      (all_firsts (Hits s l) ts (all_map P (Hits s l) ts (λ t h. branches_by_end (code_of s) l t (SwitchEnd default (map case_of cases)) r.ends h) each))

  pub switch_leads : (w : Switch) (others : List Arm) (st : State) (old new : List Item) → w.control ≡ control → w.selector ≡ selector → w.cases ≡ cases → w.others ≡ others
      → SpellsArmTo s l default (arm_body w.first) → SpellEach s l (others_of default cases) others → front_of w.merge ≡ front_in_text (insts_of s) (staying s) merge
      → IsPart (code_of s) merge st → new ≡ old ++ item.Switch w ∷ []
      → Leads s (SpellsLines s l (close_lines (close.Switch control merge selector default cases))) left old new st
  switch_leads w others st old new is_control is_selector is_cases are_others first each is_front part pushed = record {
    some = switch_merge.some;
    stands = part_next s left merge (context s l) st part switch_merge;
    spells = λ rest spells.
        let arms = arms_of (arm_body w.first) others in
        let whole = λ (m : plain.Front). Switches control selector (map case_of cases) arms m rest in
        record {
          body = whole (front_in_text (insts_of s) (staying s) merge);
          spells =
              switches r.opens (arms_spell s l merge default (arm_body w.first) (others_of default cases) others r.opens first each)
              (part_spells s merge (context s l) st rest part switch_merge.same spells);
          same =
              ap (λ z. items_then z rest) pushed ∙ then_push old (item.Switch w) rest ∙ ap (items_then old)
              (then_switch w rest
              ∙ ap (λ z. Switches z w.selector (map case_of w.cases) (arms_of (arm_body w.first) w.others) (front_of w.merge) rest) is_control
              ∙ ap (λ z. Switches control z (map case_of w.cases) (arms_of (arm_body w.first) w.others) (front_of w.merge) rest) is_selector
              ∙ ap (λ z. Switches control selector (map case_of z) (arms_of (arm_body w.first) w.others) (front_of w.merge) rest) is_cases
              ∙ ap (λ z. Switches control selector (map case_of cases) (arms_of (arm_body w.first) z) (front_of w.merge) rest) are_others
              ∙ ap whole is_front);
        };
  }
