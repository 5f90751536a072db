-- The two modules as modules that are alike but for the new id; an instruction of the module before defines and uses other ids.
use Rattle.std.proofs.Common.{◌≡◌, ℕ, true, false, drop, Some, nat_eq, refl, sym, ap, ◌∙◌, ◌==◌}
use Rattle.std.specs.List.{slice_index}
use Rattle.std.specs.Option.{option_map_or}
use Rattle.spv_opcodes.specs.declared.op.TheConstants as op
use Rattle.spv_grammar.specs.Table.{row_of}
use Rattle.spv_module.specs.Instruction.{Instruction, opcode}
use Rattle.spv_declarations.proofs.Parts.{defined-typed, first_typed, row_test, typed-words}
use Rattle.spv_alike_uses.specs.Laws.{UsesWhatStays}
use Rattle.spv_alike_uses.proofs.Lookups.{Case}
use Rattle.spv_added.proofs.Walk.{Adding, FactOf, In, itself}
use Rattle.spv_added.proofs.Definitions.{defines_others}
use Rattle.spv_added.proofs.Places.{first_type}
use Rattle.spv_added.proofs.Whole.{alike_of}

abbrev pub case_of : Adding → Case
case_of t = record { gone = λ id. id == t.r; before = t.before; after = t.after; unbroken = t.unbroken; alike = alike_of t }

pub is_typed : (o k : ℕ) → o ≡ k → row_test first_typed (row_of k) ≡ true → row_test first_typed (row_of o) ≡ true
is_typed o k e h = ap (λ n. row_test first_typed (row_of n)) e ∙ h

function_typed : row_test first_typed (row_of op.FUNCTION) ≡ true
unfolding row_of
function_typed = refl

module _ (t : Adding) (i : Instruction) (f : FactOf t i) where
  -- the result and its type are the third and the second word, where there is a type
  pub result_stays : row_test first_typed (row_of (opcode i)) ≡ true → In t (slice_index i.words 2)
  result_stays typed =
      let w = typed-words i (opcode i) f.whole refl typed in
      let third : slice_index (drop 1 i.words) 1 ≡ slice_index i.words 2 =
      ap (λ ws. slice_index (drop 1 ws) 1) w.words_are ∙ sym (ap (λ ws. slice_index ws 2) w.words_are) in
      defines_others t.r i f.free (slice_index i.words 2)
      (ap (λ o. option_map_or (nat_eq (slice_index i.words 2)) o false) (defined-typed i f.whole typed ∙ ap Some third) ∙ itself (slice_index i.words 2))

  pub type_stays : row_test first_typed (row_of (opcode i)) ≡ true → In t (slice_index i.words 1)
  type_stays typed = first_type (In t) i (typed-words i (opcode i) f.whole refl typed) f.free.used

  pub uses_what_stays : UsesWhatStays (λ id. id == t.r) i
  uses_what_stays = record {
    whole = f.whole;
    used = f.free.used;
    function = λ e. result_stays (is_typed (opcode i) op.FUNCTION e function_typed);
  }
