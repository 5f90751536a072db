use Rattle.std.proofs.Common.{ℕ, List, Vec, Global, ◌+◌, ◌++◌, drop, ap, sym, ◌∙◌}
use Rattle.spv_module.specs.View.{seen}
use Rattle.spv_blocks.specs.Cutting.{starts, starts_from}
use Rattle.spv_blocks.proofs.Functions.{starts-more, starts-other}
use Rattle.spv_blocks.proofs.insts.starts.Goals as goal
use Rattle.spv_blocks.proofs.insts.starts.Goals.{then-is_function+in_ok-push, else-is_function}

pub instructions-preserved : goal.instructions-preserved
instructions-preserved c =
    let insts = c.args.flat.now.insts in
    let k = c.instructions.k in
    let behind = λ (numbers : List ℕ). numbers ++ starts_from (k + 1) (drop (k + 1) insts) in
    elim c.if-is_function.branch [
      | then-is_function+in_ok-push w ↦
          starts-more insts k (seen c.at.result) c.instructions.numbers.items (starts insts) c.at.ensures (sym c.is_function.ensures ∙ w.if-is_function.true) c.instructions.invariant
          ∙ ap behind (sym (ap (λ (numbers : Vec ℕ Global). numbers.items) w.numbers-is ∙ w.in_ok-push.ensures.items))
      | else-is_function w ↦
          starts-other insts k (seen c.at.result) c.instructions.numbers.items (starts insts) c.at.ensures (sym c.is_function.ensures ∙ w.if-is_function.false) c.instructions.invariant
          ∙ ap behind (sym (ap (λ (numbers : Vec ℕ Global). numbers.items) w.numbers-is))
    ]
