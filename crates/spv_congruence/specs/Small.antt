-- The laws' cases at small ones.
use Rattle.std.specs.Prelude.{◌≡◌, false, [], ◌∷◌}
use Rattle.interleaving.specs.Trace.{Returned, ended}
use Rattle.spv_machine.specs.Facts.{no_data}
use Rattle.spv_trees.specs.Meaning.{Sticks, only}
use Rattle.spv_trees.specs.Facts.{leave, front, returns}
use Rattle.spv_congruence.specs.Laws.{Pass}
use Rattle.spv_congruence.specs.OneSided.{Selection}
use Rattle.spv_congruence.specs.Uniform.{Edited}
use Rattle.spv_congruence.specs.Example.{example_in, here}

abbrev pub small_pass : Pass
small_pass = example_in here

-- both arms are empty, and the second program has returned
abbrev pub small_selection : Selection
small_selection = record {
  left_out = λ a. false;
  Same = λ a b. b ≡ a;
  setting = here;
  call = λ f vs d xs. only Sticks;
  turns = 1;
  control = 0;
  condition = 33;
  yes = leave 5 [];
  no = leave 5 [];
  merge = front 5 [];
  rest = returns;
  now = no_data;
  future = λ ys. ended Returned;
  Behind = λ d future. Unit {0};
  Ways = λ w future. Unit {0};
}

-- edits that change nothing
abbrev pub small_edits : Edited
small_edits = record {
  uniform = record { uses = λ id. id; op = λ words. words ∷ []; end = λ words. words };
  Fits = λ words. Unit {0};
}
