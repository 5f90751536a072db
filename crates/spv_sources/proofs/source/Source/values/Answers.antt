use Rattle.std.proofs.Common.{◌∙◌, ap, sym}
use Rattle.spv_sources.specs.Values.{all_values, group}
use Rattle.spv_sources.proofs.Sources.{values_taken}
use Rattle.spv_sources.proofs.source.Source.values.Goals as goal

pub returns-in_ok-from_slice-in-Some : goal.returns-in_ok-from_slice-in-Some
returns-in_ok-from_slice-in-Some c =
    values_taken c.args.self.now.insts c.is_admitted.ensures c.args.block c.args.target c.requires.label c.requires.branch c.begin.result.now c.begin.ensures c.in_ok-from_slice-in-Some.field-0
    (ap (group c.begin.result.now.values) (sym c.number.ensures.same) ∙ ap all_values (sym c.in-Some.ensures.value) ∙ sym c.as_slice.ensures ∙ sym c.in_ok-from_slice-in-Some.ensures)

pub returns-in-None : goal.returns-in-None
returns-in-None c =
    values_taken c.args.self.now.insts c.is_admitted.ensures c.args.block c.args.target c.requires.label c.requires.branch c.begin.result.now c.begin.ensures c.new.result
    (ap (group c.begin.result.now.values) (sym c.number.ensures.same) ∙ ap all_values (sym c.in-None.ensures.value) ∙ sym c.new.ensures)
