use Rattle.std.proofs.Common.{ℕ, ◌^◌, ◌∙◌, ap, List, ◌++◌}
use Rattle.spv_grammar.specs.Operands.{answered}
use Rattle.spv_module.proofs.Whole.{misread, whole_as_read}
use Rattle.spv_module.proofs.inst.Inst.new.Goals as goal

pub unreachable-requires : goal.unreachable-requires
unreachable-requires c =
    misread (2 ^ 32) c.args.words.now c.new-roles.result.items c.push_roles.new.roles.items c.in_default.field-0
    (c.in_ok-push_roles.ensures ∙ ap (answered c.push_roles.new.roles.items) c.in_default.is) c.requires.unbroken

pub invariant_of-result : goal.invariant_of-result
invariant_of-result c = record {
  whole = whole_as_read c.args.words.now c.extend.new.self c.new-roles.result.items c.push_roles.new.roles.items c.in_ok-push_roles.field-0 c.new-roles.ensures.items
      (c.in_ok-extend.ensures.ok ∙ ap (λ (front : List ℕ). front ++ c.args.words.now) c.new-copy.ensures) c.in_ok-push_roles.ensures c.requires.some c.requires.counted c.requires.unbroken;
}
