use Rattle.std.proofs.Common.{rules, refl}
use Rattle.spv_entries.specs.Sizes.{literal_function, id_function}
use Rattle.spv_entries.proofs.naming.Naming.new.Goals as goal

pub returns : goal.returns
returns c = λ all.
    record {
      entered = search rules;
      called = search rules;
      literal = c.new-3.ensures literal_function;
      by_ids = c.new-4.ensures id_function;
      unfit = search rules;
      sized = refl;
    }
