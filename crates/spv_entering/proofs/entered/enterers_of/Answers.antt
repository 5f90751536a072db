use Rattle.std.proofs.Common.{◌≡◌, ◌+◌, ◌∙◌, ℕ, length, sym, ap, subst, arith}
use Rattle.spv_blocks.specs.Tables.{found}
use Rattle.spv_blocks.specs.declared.table.Table.{Table}
use Rattle.spv_blocks.specs.Blocks.{Code}
use Rattle.spv_entering.specs.Steps.{label_of}
use Rattle.spv_entering.proofs.Falling.{AreAdded, added-more, added-past, added-all}
use Rattle.spv_entering.proofs.entered.enterers_of.Goals as goal
use Rattle.spv_entering.proofs.entered.enterers_of.Goals.{in-Some+in_ok-add, in_default}

pub each-preserved : goal.each-preserved
each-preserved c =
    let f = c.args.known.now.flow.code in
    elim c.match-label.branch [
      | in-Some+in_ok-add w ↦
          subst (λ (m : Table ℕ). AreAdded f (found m) (c.each.k + 1)) (sym w.enterers-is)
          (added-more f (found c.each.enterers) (found w.add.new.enterers) c.each.k w.in-Some.t (ap (λ (g : Code). label_of g c.each.k) (sym c.labels-labels.ensures) ∙ sym w.in-Some.ensures) c.each.invariant w.in_ok-add.ensures)
      | in_default w ↦
          subst (λ (m : Table ℕ). AreAdded f (found m) (c.each.k + 1)) (sym w.enterers-is)
          (added-past f (found c.each.enterers) c.each.k (ap (λ (g : Code). label_of g c.each.k) (sym c.labels-labels.ensures) ∙ sym w.in_default.ensures) c.each.invariant)
    ]

pub returns : goal.returns
returns c =
    let f = c.args.known.now.flow.code in
    let count : length c.labels-labels.result.now ≡ length f = ap (λ (g : Code). length g) c.labels-labels.ensures in
    let all : c.each.k ≡ length f = omega arith in
    added-all f (found c.each.enterers) (subst (λ (n : ℕ). AreAdded f (found c.each.enterers) n) all c.each.invariant)
