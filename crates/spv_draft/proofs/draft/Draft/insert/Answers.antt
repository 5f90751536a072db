use Rattle.std.proofs.Common.{◌≡◌, ◌≤◌, ◌++◌, List, length, ap, sym, subst, ◌∙◌, arith}
use Rattle.std.specs.List.{insert}
use Rattle.std.specs.Option.{IfSome}
use Rattle.spv_module.specs.Instruction.{Instruction}
use Rattle.spv_module.specs.View.{seen}
use Rattle.spv_draft.specs.Fresh.{Knows}
use Rattle.spv_draft.specs.Named.{named_ids}
use Rattle.spv_draft.proofs.FreshSteps.{known-inserted}
use Rattle.spv_draft.proofs.Lists.{length-inserted}
use Rattle.spv_draft.proofs.draft.Draft.insert.Goals as goal

pub invariant_of-self-2 : goal.invariant_of-self-2
invariant_of-self-2 c =
    let insts : List Instruction = c.self.inside.lines in
    let ids = named_ids insts ++ c.self.inside.given.items in (
      omega (
        arith,
        ap length c.in_ok-insert.ensures.ok,
        length-inserted insts c.args.k (seen c.view.result),
        c.make_room.ensures.kept,
        c.in_ok-make_room.ensures.room,
        c.count.ensures.same,
      ),
      known-inserted c.with_names.result insts c.insert.new.self c.self.inside.given.items c.args.k (seen c.view-2.result)
          (c.in_ok-insert.ensures.ok ∙ ap (insert insts c.args.k) (c.view.ensures ∙ sym c.view-2.ensures))
          (c.with_names.ensures ids (subst (λ o. IfSome o (λ old. Knows old ids)) (sym c.take.ensures.value) c.self.invariant.1)),
    )
