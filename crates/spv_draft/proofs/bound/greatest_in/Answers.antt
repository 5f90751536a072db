use Rattle.std.proofs.Common.{ℕ, List, length, max, take, sym, ap, ◌∙◌, subst, arith}
use Rattle.spv_grammar.specs.declared.kind.Role.{Role}
use Rattle.spv_grammar.specs.Roles.{names_id}
use Rattle.spv_module.specs.Instruction.{IsInstruction}
use Rattle.spv_module.specs.View.{seen}
use Rattle.spv_draft.specs.Named.{greatest}
use Rattle.spv_draft.proofs.Counting.{greatest-picked, picked, picked-all}
use Rattle.spv_draft.proofs.bound.greatest_in.Goals as goal

pub words-preserved : goal.words-preserved
words-preserved c =
    let rs = c.roles-roles.result.now in
    let ws = c.args.inst.now.words.now in
    c.max-most.ensures
    ∙ ap (λ (n : ℕ). max n c.id_or_none.result) c.words.invariant
    ∙ ap (λ (n : ℕ). max (greatest (picked names_id (take c.words.k rs) (take c.words.k ws))) n) c.id_or_none.ensures
    ∙ greatest-picked names_id rs ws c.words.k _ (omega arith) (ap length c.roles-roles.ensures ∙ c.args.inst.now.whole.long)

pub returns : goal.returns
returns c =
    c.words.invariant
    ∙ ap greatest
    (picked-all names_id (seen c.args.inst.now) c.roles-roles.result.now c.words.k (omega arith)
    (subst (λ (rs : List Role). IsInstruction c.args.inst.now.words.now rs) (sym c.roles-roles.ensures) c.args.inst.now.whole))
