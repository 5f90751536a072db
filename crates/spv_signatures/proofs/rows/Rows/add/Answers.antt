use Rattle.std.proofs.Common.{◌≡◌, length, sym, ◌∙◌, rules, arith}
use Rattle.spv_module.specs.View.{seen}
use Rattle.spv_signatures.proofs.Keeping.{rows-same, rows-more}
use Rattle.spv_signatures.proofs.rows.Rows.add.Goals as goal

pub overflow_add-k : goal.overflow_add-k
overflow_add-k c = omega arith

pub returns-in_ok-put : goal.returns-in_ok-put
returns-in_ok-put c =
    let s : c.len-start.result ≡ length c.args.self.now.parameters.items = search rules in
    let e : c.len-end.result ≡ length c.append.new.parameters.items = search rules in
    λ has.
    rows-more c.args.self.now.rows c.put.new.rows c.args.self.now.parameters.items c.append.new.parameters.items c.args.insts.now c.args.k (seen c.at.result)
    (record { start = c.len-start.result; end = c.len-end.result }) has c.at.ensures (sym c.begins_function.ensures ∙ c.if-begins_function.true) c.in_ok-append.ensures s e
    c.in_ok-put.ensures

pub returns-else-begins_function : goal.returns-else-begins_function
returns-else-begins_function c = λ has.
    rows-same c.args.self.now.rows c.args.self.now.parameters.items c.args.insts.now c.args.k (seen c.at.result) has c.at.ensures
    (sym c.begins_function.ensures ∙ c.if-begins_function.false)
