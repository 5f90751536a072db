use Rattle.std.proofs.Common.{ℕ, ◌<◌, List, ◌∷◌, ◌++◌, ap, arith, refl, subst, sym, ◌∙◌}
use Rattle.std.proofs.lemmas.Result.{IfOk-weaker}
use Rattle.spv_blocks.specs.Blocks.{merge_of, next_of}
use Rattle.spv_tree.specs.declared.body.Block.{roll-Block}
use Rattle.spv_tree.specs.declared.body.End.TheVariants as end
use Rattle.spv_tree.specs.declared.body.Item.{Item}
use Rattle.spv_tree.specs.declared.body.Leaving.{roll-Leaving}
use Rattle.spv_tree.specs.declared.body.Loop.{roll-Loop}
use Rattle.spv_tree.specs.declared.body.Opening as opening
use Rattle.spv_tree.specs.Tree.{end_body, items_then, sequence_body}
use Rattle.spv_walk.specs.Contexts.{InNext}
use Rattle.spv_sources.specs.declared.close.Close.{Close}
use Rattle.spv_sources.specs.declared.close.LoopEnd.{LoopEnd}
use Rattle.spv_sources.specs.Close.{close_lines, loop_end_end, step_words}
use Rattle.spv_parse.specs.declared.state.State.{State}
use Rattle.spv_parse.specs.declared.state.Way.{Way}
use Rattle.spv_parse.specs.Scene.{context}
use Rattle.spv_parse.specs.Ways.{IsWay}
use Rattle.spv_parse.specs.Ends.{Ends, Leads, SpellsLines, SpellsState, StandsState}
use Rattle.spv_parse.specs.Loops.{OpensLoop}
use Rattle.spv_parse.specs.Arms.{BranchToEach, SpellEach, others_of}
use Rattle.spv_parse.proofs.Branching.{header_exit}
use Rattle.spv_parse.proofs.Choosing.{choice_leads, each_next, part_next, switch_leads, to_others}
use Rattle.spv_parse.proofs.Closing.{goes_behind, returns_here, returns_value, unreachable_here}
use Rattle.spv_parse.proofs.Looping.{arm_enters, arm_exits, arm_loops, block_begins, loop_arm, loop_leads, loop_opens, opens_branch, opens_split, turn_next, turn_spells}
use Rattle.spv_parse.proofs.Scenes.{part_by_labels}
use Rattle.spv_parse.proofs.Standing.{merge_is_label, next_is_label, some_left, stands_label}
use Rattle.spv_parse.proofs.scene.Scene.+parse.Goals as goal

-- ---- arms

pub arm-returns-in-Exit : goal.arm-returns-in-Exit
arm-returns-in-Exit t c =
    let s = c.args.self.now in
    arm_exits s c.args.block c.args.target c.in-Exit.exit (subst (λ (w : Way). IsWay s c.args.block c.args.left c.args.target w) c.in-Exit.is c.in_ok-exit.ensures)

pub arm-returns-in-Loop : goal.arm-returns-in-Loop
arm-returns-in-Loop t c =
    let s = c.args.self.now in
    let way = subst (λ (w : Way). IsWay s c.args.block c.args.left c.args.target w) c.in-Loop.is c.in_ok-exit.ensures in
    IfOk-weaker c.entering.result _ _ (λ a h. arm_loops s c.args.block c.args.left c.args.target c.in-Loop.values _ way.0 way.2 h) c.entering.ensures

pub arm-returns-in-Block : goal.arm-returns-in-Block
arm-returns-in-Block t c =
    let s = c.args.self.now in
    let way = subst (λ (w : Way). IsWay s c.args.block c.args.left c.args.target w) c.in-Block.is c.in_ok-exit.ensures in
    IfOk-weaker c.block.result _ _ (λ a h. arm_enters s c.args.block c.args.left c.args.target _ way.0 way.1 h) c.block.ensures

pub arms-targets-preserved : goal.arms-targets-preserved
arms-targets-preserved t c =
    each_next c.args.self.now c.args.label c.targets.target-index c.target-item.result c.args.targets.now c.targets.arms.items c.push.new.self.items c.in_ok-arm.field-0
    c.targets-test.true c.target-item.is c.targets.invariant c.in_ok-arm.ensures c.in_ok-push.ensures.items

pub block-copied-requires-clause-label : goal.block-copied-requires-clause-label
block-copied-requires-clause-label t c = stands_label c.args.self.now c.args.label c.args.left c.requires.stands.0

pub block-returns : goal.block-returns
block-returns t c =
    block_begins c.args.self.now c.args.label (roll-Block record { label = c.args.label; body = c.in_ok-body.body }) c.in_ok-items.items.items refl c.in_ok-items.ensures c.in_ok-body.ensures

pub entering-returns : goal.entering-returns
entering-returns t c =
    let s = c.args.self.now in
    IfOk-weaker c.entered.result _ _
    (λ a h. loop_arm s c.args.header c.args.left c.args.entry c.in_ok-turn.turn c.after-after.result c.in_ok-rest.rest a c.in_ok-turn.ensures
    (part_by_labels s c.in_ok-turn.turn.merge.label c.after-after.result c.requires.0.scene c.after-after.ensures)
    (subst (λ (z : List Item). Ends (SpellsState s c.after-after.result) z (sequence_body c.in_ok-rest.rest)) c.new.ensures.items c.in_ok-rest.ensures) h)
    c.entered.ensures

-- ---- blocks

pub behind-text-requires : goal.behind-text-requires
behind-text-requires t c = stands_label c.args.self.now c.args.label c.args.left c.requires.0

pub behind-returns : goal.behind-returns
behind-returns t c =
    IfOk-weaker c.close.result _ _
    (λ o h. goes_behind c.args.self.now c.args.label c.args.left c.in_ok-steps.field-0 c.in_ok-steps.field-0.steps.items c.in_ok-steps.field-0.close refl
    refl c.in_ok-steps.ensures c.args.items.now.items c.push_steps.new.items.items c.close.new.items.items c.in_ok-push_steps.ensures o h)
    c.close.ensures

pub close-returns-in-Return : goal.close-returns-in-Return
close-returns-in-Return t c =
    let items = c.args.items.now.items in
    subst (λ (k : Close). Ends (SpellsLines c.args.self.now c.args.label (close_lines k)) items (items_then items (end_body end.Return))) (sym c.in-Return.is)
    (returns_here c.args.self.now c.args.label items items refl)

pub close-returns-in-ReturnValue : goal.close-returns-in-ReturnValue
close-returns-in-ReturnValue t c =
    let items = c.args.items.now.items in
    subst (λ (k : Close). Ends (SpellsLines c.args.self.now c.args.label (close_lines k)) items (items_then items (end_body (end.ReturnValue c.in-ReturnValue.value)))) (sym c.in-ReturnValue.is)
    (returns_value c.args.self.now c.args.label c.in-ReturnValue.value items items refl)

pub close-returns-in-Unreachable : goal.close-returns-in-Unreachable
close-returns-in-Unreachable t c =
    let items = c.args.items.now.items in
    subst (λ (k : Close). Ends (SpellsLines c.args.self.now c.args.label (close_lines k)) items (items_then items (end_body end.Unreachable))) (sym c.in-Unreachable.is)
    (unreachable_here c.args.self.now c.args.label items items refl)

-- ---- selections

pub choice-front-requires : goal.choice-front-requires
choice-front-requires t c = merge_is_label c.args.self.now c.args.label c.args.left c.requires.stands c.args.merge (ap merge_of c.requires.opens)

pub choice-returns : goal.choice-returns
choice-returns t c =
    choice_leads c.args.self.now c.args.label c.args.left c.args.control c.args.merge c.args.fork.now c.requires
    record { control = c.args.control; condition = c.args.fork.now.condition; first = c.in_ok-first.first; second = c.in_ok-second.second; merge = c.in_ok-front.front }
    c.part.result c.args.items.now.items c.push.new.self.items refl refl c.in_ok-first.ensures c.in_ok-second.ensures c.in_ok-front.ensures
    (part_by_labels c.args.self.now c.args.merge c.part.result c.requires.stands.scene c.part.ensures) c.in_ok-push.ensures.items

pub switch-arms-requires : goal.switch-arms-requires
switch-arms-requires t c =
    let s = c.args.self.now in
    let targets = c.deref.ensures.value ∙ c.in_ok-targets.ensures ∙ ap (others_of c.args.default) c.as_slice.ensures in (
      omega arith,
      (
        c.requires.stands,
        subst (BranchToEach s c.args.label) (sym targets)
            (to_others s c.args.label c.args.left c.args.control c.args.merge c.args.selector c.args.default c.args.cases c.requires),
      ),
    )

pub switch-front-requires : goal.switch-front-requires
switch-front-requires t c = merge_is_label c.args.self.now c.args.label c.args.left c.requires.stands c.args.merge (ap merge_of c.requires.opens)

pub switch-returns : goal.switch-returns
switch-returns t c =
    let s = c.args.self.now in
    let targets = c.deref.ensures.value ∙ c.in_ok-targets.ensures ∙ ap (others_of c.args.default) c.as_slice.ensures in
    switch_leads s c.args.label c.args.left c.args.control c.args.merge c.args.selector c.args.default c.args.cases c.requires
    record { control = c.args.control; selector = c.args.selector; cases = c.args.cases; first = c.in_ok-first.first; others = c.from_vec.result; merge = c.in_ok-front.front }
    c.in_ok-others.others.items c.part.result c.args.items.now.items c.push.new.self.items refl refl refl c.from_vec.ensures c.in_ok-first.ensures
    (subst (λ (z : List ℕ). SpellEach s c.args.label z c.in_ok-others.others.items) targets c.in_ok-others.ensures) c.in_ok-front.ensures
    (part_by_labels s c.args.merge c.part.result c.requires.stands.scene c.part.ensures) c.in_ok-push.ensures.items

-- ---- loops

pub opening-parting-requires-clause-one : goal.opening-parting-requires-clause-one
opening-parting-requires-clause-one t c =
    header_exit c.args.self.now c.args.header c.args.left c.args.control c.args.merge c.args.next c.in-Split.fork c.requires.stands c.requires.opens
    (c.requires.ends ∙ ap loop_end_end c.in-Split.is)

pub opening-returns-in_ok-arm-in-Branch : goal.opening-returns-in_ok-arm-in-Branch
opening-returns-in_ok-arm-in-Branch t c =
    let a = c.in_ok-arm-in-Branch.field-0 in
    subst (λ (e : LoopEnd). OpensLoop c.args.self.now c.args.header c.args.control c.args.merge c.args.next e (opening.Branch a)) (sym c.in-Branch.is)
    (opens_branch c.args.self.now c.args.header c.args.left c.args.control c.args.merge c.args.next c.requires.opens c.in-Branch.target a c.in_ok-arm-in-Branch.ensures)

pub opening-returns-in_ok-arm-in-Split : goal.opening-returns-in_ok-arm-in-Split
opening-returns-in_ok-arm-in-Split t c =
    let p = c.in_ok-parting-in-Split.parting in
    let leaving = roll-Leaving record { condition = c.in-Split.fork.condition; on = p.on; exit = p.exit; arm = c.in_ok-arm-in-Split.arm } in
    subst (λ (e : LoopEnd). OpensLoop c.args.self.now c.args.header c.args.control c.args.merge c.args.next e (opening.Split leaving)) (sym c.in-Split.is)
    (opens_split c.args.self.now c.args.header c.args.left c.args.control c.args.merge c.args.next c.requires.opens c.in-Split.fork p leaving c.in_ok-parting-in-Split.ensures refl refl refl
    c.in_ok-arm-in-Split.ensures)

pub turn-returns-in_ok-push-in-Loop : goal.turn-returns-in_ok-push-in-Loop
turn-returns-in_ok-push-in-Loop t c =
    let s = c.args.self.now in
    let stands = subst (λ (z : State). StandsState s z c.args.left) c.in-Loop.is c.requires in
    subst (λ (z : State). Leads s (SpellsState s z) c.args.left c.args.items.now.items c.push.new.self.items c.after-after.result) (sym c.in-Loop.is)
    (loop_leads s c.in-Loop.header c.args.left c.in-Loop.entry c.in_ok-turn-in-Loop.turn c.after-after.result c.args.items.now.items c.push.new.self.items c.in_ok-turn-in-Loop.ensures
    (part_by_labels s c.in_ok-turn-in-Loop.turn.merge.label c.after-after.result stands.0.scene c.after-after.ensures) c.in_ok-push-in-Loop.ensures.items)

pub turning-front-requires-2 : goal.turning-front-requires-2
turning-front-requires-2 t c =
    let s = c.args.self.now in
    let opens = loop_opens s c.args.header c.in_ok-steps.field-0 c.in-Loop.control c.in-Loop.merge c.in-Loop.next c.in-Loop.end c.in-Loop.is c.in_ok-steps.ensures in
    next_is_label s c.args.header c.args.left c.requires.0 c.in-Loop.next (ap next_of opens)

pub turning-front-requires-3 : goal.turning-front-requires-3
turning-front-requires-3 t c =
    let s = c.args.self.now in
    let opens = loop_opens s c.args.header c.in_ok-steps.field-0 c.in-Loop.control c.in-Loop.merge c.in-Loop.next c.in-Loop.end c.in-Loop.is c.in_ok-steps.ensures in
    merge_is_label s c.args.header c.args.left c.requires.0 c.in-Loop.merge (ap merge_of opens)

pub turning-overflow_sub-left : goal.turning-overflow_sub-left
turning-overflow_sub-left t c =
    let some = some_left c.args.self.now c.args.header c.args.left c.requires.0 in
    omega arith

pub turning-sequence-requires : goal.turning-sequence-requires
turning-sequence-requires t c =
    let s = c.args.self.now in
    let opens = loop_opens s c.args.header c.in_ok-steps.field-0 c.in-Loop.control c.in-Loop.merge c.in-Loop.next c.in-Loop.end c.in-Loop.is c.in_ok-steps.ensures in
    let next = turn_next s c.args.header c.args.left c.in-Loop.control c.in-Loop.merge c.in-Loop.next c.in-Loop.end c.requires.0 opens in
    let some : 0 < c.args.left = next.some in
    (omega arith, part_next s c.args.left c.in-Loop.next (InNext c.args.header c.in-Loop.merge ∷ context s c.args.header) c.part.result (part_by_labels s c.in-Loop.next c.part.result c.requires.0.scene c.part.ensures) next)

pub turning-returns : goal.turning-returns
turning-returns t c =
    let s = c.args.self.now in
    let opens = loop_opens s c.args.header c.in_ok-steps.field-0 c.in-Loop.control c.in-Loop.merge c.in-Loop.next c.in-Loop.end c.in-Loop.is c.in_ok-steps.ensures in
    let text = c.in_ok-steps.field-0 in
    let loop = roll-Loop record {
      entry = c.args.entry;
      header = c.in_ok-front.front;
      steps = c.from_vec.result;
      control = c.in-Loop.control;
      opening = c.in_ok-opening.opening;
      next = c.in_ok-next_front.next_front;
      continuing = c.in_ok-continuing.continuing;
      merge = c.in_ok-merge_front.merge_front;
    } in
    let lines =
    c.in_ok-steps.ensures.lines ∙ ap (λ (k : Close). step_words text.steps.items ++ close_lines k) c.in-Loop.is in
    turn_spells s c.args.header c.args.left c.in-Loop.control c.in-Loop.merge c.in-Loop.next c.in-Loop.end c.requires.0 opens c.args.entry loop text.steps.items c.part.result
    lines c.in_ok-steps.ensures.steps refl refl c.from_vec.ensures c.in_ok-front.ensures c.in_ok-next_front.ensures c.in_ok-merge_front.ensures c.in_ok-opening.ensures
    (part_by_labels s c.in-Loop.next c.part.result c.requires.0.scene c.part.ensures)
    (subst (λ (z : List Item). Ends (SpellsState s c.part.result) z (sequence_body c.in_ok-continuing.continuing)) c.new.ensures.items c.in_ok-continuing.ensures)
