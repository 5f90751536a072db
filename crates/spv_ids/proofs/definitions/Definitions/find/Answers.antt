use Rattle.std.proofs.Common.{List, Option, ◌∙◌, ap, sym}
use Rattle.std.specs.List.{slice_get}
use Rattle.std.specs.Option.{option_map}
use Rattle.spv_module.specs.Instruction.{Instruction}
use Rattle.spv_module.specs.View.{seen}
use Rattle.spv_module.specs.declared.view.View.{View}
use Rattle.spv_ids.proofs.Reading.{definition-at, definition-none}
use Rattle.spv_ids.proofs.definitions.Definitions.find.Goals as goal

pub returns-in_err-place : goal.returns-in_err-place
returns-in_err-place c =
    ap (λ (view : Option View). option_map seen view) c.from_residual.ensures ∙ definition-none c.args.self.now c.args.id c.in_err-place.ensures

pub returns : goal.returns
returns c =
    definition-at c.args.self.now c.args.id c.in_ok-place.place (seen c.at.result) c.in_ok-place.ensures
    (ap (λ (insts : List Instruction). slice_get insts c.in_ok-place.place) (sym c.self.view_is) ∙ c.at.ensures)
