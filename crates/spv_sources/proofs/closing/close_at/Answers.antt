use Rattle.std.proofs.Common.{◌≡◌, ◌≢◌, ◌∙◌, true, sym, arith}
use Rattle.spv_module.specs.View.{seen}
use Rattle.spv_blocks.specs.Cutting.{ending}
use Rattle.spv_walk.specs.Faults.{suits_selection, suits_loop}
use Rattle.spv_sources.proofs.Closings.{some_closing, selection_next, loop_next, bare_next, bare_close, next_within, next_is, looped_close, selected_result}
use Rattle.spv_sources.proofs.closing.close_at.Goals as goal

pub prove-unreachable-requires : goal.prove-unreachable-requires
prove-unreachable-requires c = let here = some_closing c.args.insts.now c.args.k c.requires in omega arith

pub at-inst-requires : goal.at-inst-requires
at-inst-requires c = some_closing c.args.insts.now c.args.k c.requires

pub at-requires : goal.at-requires
at-requires c =
    next_within (λ t. suits_selection (ending t) ≡ true) c.args.insts.now c.args.k
    (selection_next c.args.insts.now c.args.k c.requires (seen c.at-inst.result) c.at-inst.ensures (sym c.opcode.ensures ∙ c.in-247.is))

pub selected-requires-clause-suits : goal.selected-requires-clause-suits
selected-requires-clause-suits c =
    next_is (λ t. suits_selection (ending t) ≡ true) c.args.insts.now c.args.k (seen c.at.result)
    (selection_next c.args.insts.now c.args.k c.requires (seen c.at-inst.result) c.at-inst.ensures (sym c.opcode.ensures ∙ c.in-247.is)) c.at.ensures

pub at-requires-in-246 : goal.at-requires-in-246
at-requires-in-246 c =
    next_within (λ t. suits_loop (ending t) ≡ true) c.args.insts.now c.args.k
    (loop_next c.args.insts.now c.args.k c.requires (seen c.at-inst.result) c.at-inst.ensures (sym c.opcode.ensures ∙ c.in-246.is))

pub looped-requires-clause-suits : goal.looped-requires-clause-suits
looped-requires-clause-suits c =
    next_is (λ t. suits_loop (ending t) ≡ true) c.args.insts.now c.args.k (seen c.at-in-246.result)
    (loop_next c.args.insts.now c.args.k c.requires (seen c.at-inst.result) c.at-inst.ensures (sym c.opcode.ensures ∙ c.in-246.is)) c.at-in-246.ensures

pub bare-requires-clause-ends : goal.bare-requires-clause-ends
bare-requires-clause-ends c =
    let a : c.opcode.result ≢ 247 = omega arith in
    let b : c.opcode.result ≢ 246 = omega arith in
    (bare_next c.args.insts.now c.args.k c.requires (seen c.at-inst.result) c.at-inst.ensures (λ h. a (c.opcode.ensures ∙ h)) (λ h. b (c.opcode.ensures ∙ h))).0

pub bare-requires-clause-other : goal.bare-requires-clause-other
bare-requires-clause-other c =
    let a : c.opcode.result ≢ 247 = omega arith in
    let b : c.opcode.result ≢ 246 = omega arith in
    (bare_next c.args.insts.now c.args.k c.requires (seen c.at-inst.result) c.at-inst.ensures (λ h. a (c.opcode.ensures ∙ h)) (λ h. b (c.opcode.ensures ∙ h))).1

pub returns-in-247 : goal.returns-in-247
returns-in-247 c =
    selected_result c.args.insts.now c.args.k c.requires (seen c.at-inst.result) (seen c.at.result) c.selected.result c.at-inst.ensures c.at.ensures (sym c.opcode.ensures ∙ c.in-247.is) c.selected.ensures

pub returns-in-246 : goal.returns-in-246
returns-in-246 c =
    looped_close c.args.insts.now c.args.k (seen c.at-inst.result) (seen c.at-in-246.result) c.looped.result c.at-inst.ensures c.at-in-246.ensures (sym c.opcode.ensures ∙ c.in-246.is)
    (next_is (λ t. suits_loop (ending t) ≡ true) c.args.insts.now c.args.k (seen c.at-in-246.result)
    (loop_next c.args.insts.now c.args.k c.requires (seen c.at-inst.result) c.at-inst.ensures (sym c.opcode.ensures ∙ c.in-246.is)) c.at-in-246.ensures) c.looped.ensures

pub returns-in_default : goal.returns-in_default
returns-in_default c =
    let a : c.opcode.result ≢ 247 = omega arith in
    let b : c.opcode.result ≢ 246 = omega arith in
    let next = bare_next c.args.insts.now c.args.k c.requires (seen c.at-inst.result) c.at-inst.ensures (λ h. a (c.opcode.ensures ∙ h)) (λ h. b (c.opcode.ensures ∙ h)) in
    bare_close c.args.insts.now c.args.k c.requires (seen c.at-inst.result) c.at-inst.ensures c.bare.result next.0 c.bare.ensures
