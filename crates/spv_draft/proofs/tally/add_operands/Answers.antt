use Rattle.std.proofs.Common.{List, length, get_or, refl, sym, ap, ◌∙◌, subst, arith}
use Rattle.spv_grammar.specs.declared.kind.Role.{Role}
use Rattle.spv_grammar.specs.Roles.{is_used_id}
use Rattle.spv_module.specs.Instruction.{IsInstruction}
use Rattle.spv_module.specs.View.{seen}
use Rattle.spv_draft.specs.Tallies.{Adds}
use Rattle.spv_draft.proofs.Counting.{adds-picked, picked-all}
use Rattle.spv_draft.proofs.tally.add_operands.Goals as goal

pub words-preserved : goal.words-preserved
words-preserved c =
    let words = c.args.inst.now.words.now in
    adds-picked is_used_id c.args.tally.now c.words.tally c.add_if.new.tally c.roles-roles.result.now words c.words.k (get_or words c.words.k 0) _
    c.is_used_id.result
    (omega arith) (ap length c.roles-roles.ensures ∙ c.args.inst.now.whole.long) c.is_used_id.ensures refl c.words.invariant c.in_ok-add_if.ensures

pub returns : goal.returns
returns c =
    subst (Adds c.args.tally.now c.words.tally)
    (picked-all is_used_id (seen c.args.inst.now) c.roles-roles.result.now c.words.k (omega arith)
    (subst (λ (rs : List Role). IsInstruction c.args.inst.now.words.now rs) (sym c.roles-roles.ensures) c.args.inst.now.whole))
    c.words.invariant
