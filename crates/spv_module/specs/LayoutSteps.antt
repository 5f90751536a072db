-- The rules on the layout, from what is kept of the instructions before one.
use Rattle.std.specs.Prelude.{ℕ, max, Bool, true, false, ◌&&◌, ◌||◌, not, nat_lt, List, ◌++◌}
use Rattle.spv_module.specs.declared.layout.Layout.{Layout}
use Rattle.spv_module.specs.declared.layout.Place.TheVariants.{Outside}
use Rattle.spv_module.specs.Code.{plain_section, is_function}
use Rattle.spv_module.specs.First.{unless}
use Rattle.spv_module.specs.Instruction.{Instruction}
use Rattle.spv_module.specs.Layout.{is_capability, is_memory_model, is_entry_point, is_outside, behind, fits_place}

abbrev pub nothing_kept : Layout
nothing_kept = record { begun = false; section = 0; has_capability = false; has_memory_model = false; has_entry_point = false; place = Outside }

abbrev pub kept_rules : Layout → Instruction → List ℕ
kept_rules kept i =
    unless (not (nat_lt (plain_section kept.begun i) kept.section)) 201
    ++ (unless (not (is_memory_model i && kept.has_memory_model)) 203
    ++ unless (fits_place kept.place (plain_section kept.begun i) i) 205)

abbrev pub kept_behind : Layout → Instruction → Layout
kept_behind kept i = record {
  begun = kept.begun || is_function i;
  section = max kept.section (plain_section kept.begun i);
  has_capability = kept.has_capability || is_capability i;
  has_memory_model = kept.has_memory_model || is_memory_model i;
  has_entry_point = kept.has_entry_point || is_entry_point i;
  place = behind kept.place i;
}

abbrev pub kept_missing : Layout → List ℕ
kept_missing kept = unless kept.has_capability 202 ++ (unless kept.has_memory_model 203 ++ unless kept.has_entry_point 204)
