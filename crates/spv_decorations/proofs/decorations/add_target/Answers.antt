use Rattle.std.proofs.Common.{rules}
use Rattle.spv_module.specs.View.{seen}
use Rattle.spv_decorations.proofs.Reading.{adds_target}
use Rattle.spv_decorations.proofs.decorations.add_target.Goals as goal

pub returns-in_ok-map_err : goal.returns-in_ok-map_err
returns-in_ok-map_err c =
    adds_target c.args.targets.now c.insert.new.self (seen c.args.inst.now) c.word.result c.word-2.result c.word-then-not-contains_key.result (search rules) c.word.ensures c.word-2.ensures c.word-then-not-contains_key.ensures (search rules) (search rules)
