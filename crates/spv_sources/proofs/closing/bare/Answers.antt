use Rattle.std.proofs.Common.{◌≢◌, ◌∙◌, sym, arith}
use Rattle.spv_module.specs.View.{seen}
use Rattle.spv_sources.proofs.Words.{branch_words, return_value_words}
use Rattle.spv_sources.proofs.Closings.{bare_branch, bare_split, bare_return, bare_value, bare_unreachable}
use Rattle.spv_sources.proofs.closing.bare.Goals as goal

pub id_at-requires : goal.id_at-requires
id_at-requires c = (branch_words c.args.end.now.words.now c.args.end.now.roles.now c.args.end.now.whole (sym c.opcode.ensures ∙ c.in-249.is)).id

pub id_at-requires-in-254 : goal.id_at-requires-in-254
id_at-requires-in-254 c = (return_value_words c.args.end.now.words.now c.args.end.now.roles.now c.args.end.now.whole (sym c.opcode.ensures ∙ c.in-254.is)).id

pub returns-in-249 : goal.returns-in-249
returns-in-249 c = bare_branch (seen c.args.end.now) c.args.end.now.roles.now c.id_at.result c.args.end.now.whole (sym c.opcode.ensures ∙ c.in-249.is) c.id_at.ensures

pub returns-in-250 : goal.returns-in-250
returns-in-250 c = bare_split (seen c.args.end.now) c.fork_of.result c.fork_of.ensures

pub returns-in-253 : goal.returns-in-253
returns-in-253 c = bare_return (seen c.args.end.now) c.args.end.now.roles.now c.args.end.now.whole (sym c.opcode.ensures ∙ c.in-253.is)

pub returns-in-254 : goal.returns-in-254
returns-in-254 c = bare_value (seen c.args.end.now) c.args.end.now.roles.now c.id_at-in-254.result c.args.end.now.whole (sym c.opcode.ensures ∙ c.in-254.is) c.id_at-in-254.ensures

pub returns-in_default : goal.returns-in_default
returns-in_default c =
    let a : c.opcode.result ≢ 249 = omega arith in
    let b : c.opcode.result ≢ 250 = omega arith in
    let d : c.opcode.result ≢ 253 = omega arith in
    let e : c.opcode.result ≢ 254 = omega arith in
    bare_unreachable (seen c.args.end.now) c.args.end.now.roles.now c.args.end.now.whole c.requires.ends c.requires.other (λ h. a (c.opcode.ensures ∙ h)) (λ h. b (c.opcode.ensures ∙ h))
    (λ h. d (c.opcode.ensures ∙ h)) (λ h. e (c.opcode.ensures ∙ h))
