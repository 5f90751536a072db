use Rattle.std.proofs.Common.{◌+◌, ◌*◌, ◌++◌, ◌∷◌, [], ◌≤◌, map, arith, sym, ap, ◌∙◌, subst}
use Rattle.spv_tree.specs.Tree.{case_of}
use Rattle.spv_tree.proofs.Cases.{switch-built, count-cases}
use Rattle.spv_tree.proofs.switch.words_of_switch.Goals as goal

pub returns : goal.returns
returns c =
    let cases = c.args.cases.now in
    switch-built c.head.result c.args.selector c.args.default (map case_of cases) c.new-words.result.items c.push.new.self.items c.push-2.new.self.items c.push-3.new.self.items
    c.push_cases.new.words.items c.new-words.ensures.items c.in_ok-push.ensures.items
    (c.in_ok-push-2.ensures.items ∙ ap (λ z. c.push.new.self.items ++ z ∷ []) c.number.ensures.same)
    (c.in_ok-push-3.ensures.items ∙ ap (λ z. c.push-2.new.self.items ++ z ∷ []) c.number-2.ensures.same)
    c.in_ok-push_cases.ensures
    (c.head.ensures ∙ ap (λ n. (3 + 2 * n) * 65536 + 251) (sym (count-cases cases)))
    (subst (λ n. n ≤ 16383) (sym (count-cases cases)) c.requires)
    (omega arith) (omega arith) (omega arith) (omega arith)
