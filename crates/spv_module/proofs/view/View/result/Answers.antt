use Rattle.std.proofs.Common.{◌∙◌, sym, ap, arith}
use Rattle.std.specs.Option.{is_some}
use Rattle.spv_module.proofs.Ids.{result_at}
use Rattle.spv_module.proofs.Told.{result_told, result_place_told}
use Rattle.spv_module.proofs.view.View.result.Goals as goal

pub returns : goal.returns
returns c =
    let word = result_at c.args.self.now.words.now c.args.self.now.roles.now c.in_ok-place.place c.args.self.now.whole (sym c.place_of_result.ensures ∙ c.in_ok-place.was) c.new.result c.new.ensures in
    record {
      word = word;
      has = ap is_some word ∙ result_told c.args.self.now.words.now c.args.self.now.roles.now c.args.self.now.whole;
    }

pub returns-in_err-place-clause-has : goal.returns-in_err-place-clause-has
returns-in_err-place-clause-has c =
    let told = result_place_told c.args.self.now.words.now c.args.self.now.roles.now c.args.self.now.whole in
    grind arith
