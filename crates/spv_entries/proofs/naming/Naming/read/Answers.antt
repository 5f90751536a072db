use Rattle.std.proofs.Common.{Bool, ◌||◌, sym, ap, ◌∙◌}
use Rattle.spv_module.specs.View.{seen}
use Rattle.spv_repeats.proofs.KeySets.{any-push}
use Rattle.spv_entries.specs.Sizes.{entry_function, literal_function, id_function, unfit_function, sizes_all}
use Rattle.spv_entries.specs.Functions.{called_function}
use Rattle.spv_entries.proofs.Named.{named-more, modes-more}
use Rattle.spv_entries.proofs.naming.Naming.read.Goals as goal

pub returns : goal.returns
returns c = λ before h.
    let all = c.args.kinds.now in
    let old = c.args.self.now in
    let i = seen c.args.inst.now in
    record {
      entered = named-more entry_function old.entered c.add.new.set c.entry_function.result c.in_ok-add.field-0 before i c.in_ok-add.ensures c.entry_function.ensures h.entered;
      called = named-more called_function old.called c.add-2.new.set c.called_function.result c.in_ok-add-2.field-0 before i c.in_ok-add-2.ensures c.called_function.ensures h.called;
      literal = modes-more literal_function old.literal c.add-3.new.self c.literal_function.result before i c.in_ok-add-3.ensures c.literal_function.ensures h.literal;
      by_ids = modes-more id_function old.by_ids c.add-4.new.self c.id_function.result before i c.in_ok-add-4.ensures c.id_function.ensures h.by_ids;
      unfit = named-more (unfit_function all) old.unfit c.add-5.new.set c.unfit_function.result c.in_ok-add-5.field-0 before i c.in_ok-add-5.ensures c.unfit_function.ensures h.unfit;
      sized = c.is_sized_behind-self.ensures ∙ ap (λ (b : Bool). b || sizes_all all i) h.sized ∙ sym (any-push (sizes_all all) before i);
    }
