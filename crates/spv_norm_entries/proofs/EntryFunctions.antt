-- 606: the functions of entry points return nothing and have no parameters, and no call of them is made that was none.
use Rattle.std.proofs.Common.{◌≡◌, ℕ, Bool, true, false, not, ◌==◌, ◌&&◌, ◌||◌, List, length, slice_index, refl, ap, ◌∙◌}
use Rattle.spv_opcodes.specs.declared.op.TheConstants as op
use Rattle.spv_module.specs.Instruction.{Instruction}
use Rattle.spv_module.specs.Layout.{is_entry_point}
use Rattle.spv_ids.specs.Ids.{kind, word_of, words_of}
use Rattle.spv_typing.specs.Kinds.{is_void}
use Rattle.spv_walk.proofs.Unique.{both_hold, both_left, both_right, not_true}
use Rattle.spv_entries.specs.Functions.{called_function, function_fits, may_be_entered}
use Rattle.spv_entries.specs.Sizes.{some_names}
use Rattle.spv_alike.specs.Alike.{AreAlike}
use Rattle.spv_norm_entries.proofs.Lookups.{IsTight, fixed_by, is_kind, same_test, same_word, same_words}
use Rattle.spv_norm_entries.proofs.Lists.{inst_of}

-- the type of each id that is a function is a function type
abbrev pub TypedById : List Instruction → Type 0
TypedById insts = (f : ℕ) → (kind insts f == op.FUNCTION) ≡ true → (kind insts (word_of insts f 4) == op.TYPE_FUNCTION) ≡ true

-- nothing is called that was not called before
abbrev pub CallsNoMore : (insts again : List Instruction) → Type 0
CallsNoMore insts again = (f : ℕ) → some_names called_function insts f ≡ false → some_names called_function again f ≡ false

module _ (insts again : List Instruction) (a : AreAlike insts again) (typed : TypedById insts) (calls : CallsNoMore insts again) where
  entered_stays : (f : ℕ) → may_be_entered insts f ≡ true → may_be_entered again f ≡ true
  entered_stays f h =
      let function_tight : IsTight (is_kind op.FUNCTION) = record { undefined = refl; label = refl; phi = refl; copy = refl } in
      let void_tight : IsTight (is_kind op.TYPE_VOID) = record { undefined = refl; label = refl; phi = refl; copy = refl } in
      let type_tight : IsTight (is_kind op.TYPE_FUNCTION) = record { undefined = refl; label = refl; phi = refl; copy = refl } in
      let none : Bool = length (words_of insts (word_of insts f 4) 3) == 0 in
      let uncalled : Bool = not (some_names called_function insts f) in
      let is_it = both_left (kind insts f == op.FUNCTION) (is_void insts (word_of insts f 1) && (none && uncalled)) h in
      let rest = both_right (kind insts f == op.FUNCTION) (is_void insts (word_of insts f 1) && (none && uncalled)) h in
      let void = both_left (is_void insts (word_of insts f 1)) (none && uncalled) rest in
      let last = both_right (is_void insts (word_of insts f 1)) (none && uncalled) rest in
      let words = fixed_by insts again a (is_kind op.FUNCTION) function_tight f is_it in
      let type_words = fixed_by insts again a (is_kind op.TYPE_FUNCTION) type_tight (word_of insts f 4) (typed f is_it) in
      both_hold (kind again f == op.FUNCTION) _ (same_test insts again a (is_kind op.FUNCTION) function_tight f ∙ is_it)
      (both_hold (is_void again (word_of again f 1)) _
      (ap (is_void again) (same_word insts again a f 1 words) ∙ same_test insts again a (is_kind op.TYPE_VOID) void_tight (word_of insts f 1) ∙ void)
      (both_hold (length (words_of again (word_of again f 4) 3) == 0) (not (some_names called_function again f))
      (ap (λ t. length (words_of again t 3) == 0) (same_word insts again a f 4 words)
      ∙ ap (λ ws. length ws == 0) (same_words insts again a (word_of insts f 4) 3 type_words) ∙ both_left none uncalled last)
      (ap not (calls f (not_true (some_names called_function insts f) (both_right none uncalled last))))))

  pub function_stays : (i j : Instruction) → j.words ≡ i.words → function_fits insts i ≡ true → function_fits again j ≡ true
  unfolding function_fits
  function_stays i j s h =
      ap (λ w. not (is_entry_point (inst_of w)) || may_be_entered again (slice_index w 2)) s ∙ by (is_entry_point i) h
    where
      by : (b : Bool) → (not b || may_be_entered insts (slice_index i.words 2)) ≡ true → (not b || may_be_entered again (slice_index i.words 2)) ≡ true
      by false h = refl
      by true h = entered_stays (slice_index i.words 2) h

-- what is no entry point passes
pub no_function : (insts : List Instruction) (i : Instruction) → is_entry_point i ≡ false → function_fits insts i ≡ true
unfolding function_fits
no_function insts i h = ap (λ (b : Bool). not b || may_be_entered insts (slice_index i.words 2)) h
