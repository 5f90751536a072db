-- A module and the one with a declaration more are alike but for the new id.
use Rattle.std.proofs.Common.{◌==◌, ap, ◌∙◌}
use Rattle.spv_typing.specs.Kinds.{is_one_of}
use Rattle.spv_alike_uses.specs.Alike.{AreAlikeBut, firm_kinds}
use Rattle.spv_added.specs.Laws.{AddedIsAlike}
use Rattle.spv_added.proofs.Walk.{Adding, adding}
use Rattle.spv_added.proofs.Definitions.{old_definition, same_kind, same_value, same_word, same_words, types_stay}
use Rattle.spv_added.proofs.Places.{parameters_stay, same_outside, same_parameters}
use Rattle.spv_added.proofs.Said.{same_decorations}
use Rattle.spv_added.proofs.Tables.{same_forms, same_known}

pub alike_of : (t : Adding) → AreAlikeBut (λ id. id == t.r) t.before t.after
alike_of t = record {
  zero = t.added.some;
  values = λ id s. same_value t id s;
  types = λ id u s e. types_stay t id u e;
  fixed = λ id s firm. same_words t id s 0;
  loose = λ id s loose. ap (is_one_of firm_kinds) (same_kind t id s) ∙ loose;
  taken = λ id s firm i e. (old_definition t id i e).0.free.used;
  outside = λ id s. same_outside t id s;
  decorations = λ id d s. same_decorations t id d;
  known = λ id k s. same_known t id k s;
  forms = λ u s. same_forms t u s;
  parameters = λ f s. same_parameters t f s;
  parameters_stay = λ f s. parameters_stay t f;
  thirds = λ id s loose none. same_word t id s 2;
}

pub added_is_alike : AddedIsAlike
added_is_alike r new front rest before after h a = alike_of (adding r new front rest before after h a)
