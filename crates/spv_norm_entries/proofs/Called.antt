-- What the normal form calls the module calls, and the functions of the module have function types.
use Rattle.std.proofs.Common.{◌≡◌, inl, inr, ◌⊎◌, ℕ, suc, Bool, true, false, cond, not, ◌==◌, ◌&&◌, ◌||◌, List, [], ◌∷◌, find, length, slice_get, slice_index, Option, Some, None, refl, ap, subst, ◌∙◌}
use Rattle.std.specs.List.{AllByRecursion}
use Rattle.std.specs.Option.{option_map_or}
use Rattle.spv_opcodes.specs.declared.op.TheConstants as op
use Rattle.spv_module.specs.Code.{is_function}
use Rattle.spv_module.specs.Instruction.{Instruction, opcode}
use Rattle.spv_ids.specs.Ids.{defines, definition, kind, word_of}
use Rattle.spv_blocks.specs.Cutting.{function_insts}
use Rattle.spv_normal.specs.Lines.{without_marks}
use Rattle.spv_walk.proofs.Unique.{both_left, equal_true, tells}
use Rattle.spv_tree.specs.declared.body.Body.{Body}
use Rattle.spv_tree.specs.Tree.{body_of}
use Rattle.spv_entries.specs.Functions.{called_function}
use Rattle.spv_entries.specs.Sizes.{names, some_names}
use Rattle.spv_signatures.specs.Functions as signatures
use Rattle.spv_signatures.specs.Functions.{is_function_type, parameter_types, parameters_of}
use Rattle.spv_structured.proofs.Lists.{each_at, one_split}
use Rattle.spv_trees.specs.Standing.{OneOf}
use Rattle.spv_norm.specs.Norm.{outside, staying, stays_outside}
use Rattle.spv_norm_means.proofs.InOrder.{joined}
use Rattle.spv_norm_structured.specs.Laws.{IsNormAgain, IsReadAsTrees}
use Rattle.spv_norm_structured.proofs.Again.{IsAgain, halves, known, pieces, whole}
use Rattle.spv_norm_structured.proofs.Pieces.{all_at, all_both}
use Rattle.spv_norm_entries.specs.Laws.{FunctionsTyped}
use Rattle.spv_norm_entries.proofs.EntryFunctions.{CallsNoMore, TypedById}
use Rattle.spv_norm_entries.proofs.Functions.{text_made}
use Rattle.spv_norm_entries.proofs.Lists.{any_one, filtered_one, inst_of, one_any, one_by_words}
use Rattle.spv_norm_entries.proofs.Made.{IsMade, of_module}

-- ---- types of functions

found_there : {X : Type 0} (q : X → Bool) (xs : List X) (x : X) → find q xs ≡ Some x → (k : ℕ) × (slice_get xs k ≡ Some x)
found_there q [] x e = absurd (cc e)
found_there q (y ∷ xs) x e = by (q y) e (found_there q xs x) where
  by : (b : Bool) → cond b (Some y) (find q xs) ≡ Some x → (find q xs ≡ Some x → (k : ℕ) × (slice_get xs k ≡ Some x))
      → (k : ℕ) × (slice_get (y ∷ xs) k ≡ Some x)
  by true e more = (0, e)
  by false e more = let r = more e in (suc r.0, r.1)

second_passes : (a b : Bool) → a ≡ true → (not a || b) ≡ true → b ≡ true
second_passes true b e h = h
second_passes false b e h = absurd (cc e)

typed_there : (insts : List Instruction) (x : Instruction) → is_function x ≡ true → signatures.function_fits insts x ≡ true
    → (kind insts (slice_index x.words 4) == op.TYPE_FUNCTION) ≡ true
unfolding signatures.function_fits
typed_there insts x f h =
    let t : ℕ = slice_index x.words 4 in
    both_left (is_function_type insts t) (length (parameter_types insts t) == length (parameters_of insts (slice_index x.words 2)))
    (second_passes (is_function x) (is_function_type insts t && length (parameter_types insts t) == length (parameters_of insts (slice_index x.words 2))) f h)

pub typed_by_id : (insts : List Instruction) → FunctionsTyped insts → TypedById insts
typed_by_id insts typed f h = by (definition insts f) refl h where
  by : (o : Option Instruction) → definition insts f ≡ o → (option_map_or opcode o 0 == op.FUNCTION) ≡ true
      → (kind insts (word_of insts f 4) == op.TYPE_FUNCTION) ≡ true
  by None e h = absurd (cc h)
  by (Some x) e h =
      let there = found_there (defines f) insts x e in
      ap (λ o. kind insts (option_map_or (λ (i : Instruction). slice_index i.words 4) o 0) == op.TYPE_FUNCTION) e
      ∙ typed_there insts x h (typed there.0 x there.1 h)

-- ---- calls

call_of : (i : Instruction) (f : ℕ) → names (called_function i) f ≡ true → (opcode i == op.FUNCTION_CALL) ≡ true
call_of i f h = by (opcode i == op.FUNCTION_CALL) h where
  by : (b : Bool) → names (cond b (Some (slice_index i.words 3)) None) f ≡ true → b ≡ true
  by true h = refl
  by false h = absurd (cc h)

outside_one : (is : List Instruction) (x : Instruction) → OneOf x (outside is) → OneOf x is
outside_one [] x h = absurd h
outside_one (i ∷ is) x h = by (is_function i) h (outside_one is x) where
  by : (b : Bool) → OneOf x (cond b [] (i ∷ outside is)) → (OneOf x (outside is) → OneOf x is) → OneOf x (i ∷ is)
  by true h more = absurd h
  by false (inl e) more = inl e
  by false (inr o) more = inr (more o)

pub joined_all : (P : Instruction → Type 0) (ts : List (List Instruction)) → AllByRecursion (AllByRecursion P) ts → AllByRecursion P (joined ts)
joined_all P [] h = tt
joined_all P (t ∷ ts) h = all_both P t (joined ts) h.0 (joined_all P ts h.1)

also : (P Q : Instruction → Type 0) (is : List Instruction) → ((i : Instruction) → P i → Q i) → AllByRecursion P is → AllByRecursion Q is
also P Q [] h a = tt
also P Q (i ∷ is) h a = (h i a.0, also P Q is h a.1)

module _ (insts again : List Instruction) (bodies : List Body) (h : IsReadAsTrees insts bodies) (n : IsNormAgain insts again) where
  abbrev CallsThere : Instruction → Type 0
  CallsThere i = opcode i ≡ op.FUNCTION_CALL → (j : Instruction) × OneOf j insts × (j.words ≡ i.words)

  abbrev front : List Instruction
  front = (halves insts again bodies h n).front

  abbrev texts : List (List Instruction)
  texts = (pieces insts again bodies h n).texts

  text_calls : (f : ℕ) (t : List Instruction) → IsAgain insts bodies f t → AllByRecursion CallsThere t
  text_calls f t a = also (λ i. IsMade insts is i.words) CallsThere t from (text_made insts again bodies h n f t a) where
    is : List Instruction
    is = without_marks (function_insts f insts)

    from : (i : Instruction) → IsMade insts is i.words → CallsThere i
    from i m e =
        let s = a.tree.parsed.spelled in
        let c = m.called e in
        (c.0, of_module insts h.instructions h.once f s.stays (body_of a.body) s.admitted s.spells c.0 c.1, c.2)

  texts_call : AllByRecursion CallsThere (joined texts)
  texts_call = joined_all CallsThere texts (all_at (AllByRecursion CallsThere) texts (λ f t e. text_calls f t (known insts again bodies h n f t e)))

  -- each call of the normal form has the words of one of the module's
  call_there : (i : Instruction) → OneOf i again → CallsThere i
  call_there i one e = by (one_split i front (joined texts) (subst (OneOf i) (whole insts again bodies h n) one)) where
    by : OneOf i front ⊎ OneOf i (joined texts) → (j : Instruction) × OneOf j insts × (j.words ≡ i.words)
    by (inl o) =
        let r = one_by_words front (staying insts) (halves insts again bodies h n).front_words i o in
        (r.0, outside_one insts r.0 (filtered_one (stays_outside insts) (outside insts) r.0 r.1).0, r.2)
    by (inr o) = each_at CallsThere (joined texts) texts_call i o e

  pub calls_no_more : CallsNoMore insts again
  calls_no_more f none = elim (tells (some_names called_function again f)) [
    | inl e ↦ absurd (cc (none, there (any_one (λ i. names (called_function i) f) again e)))
    | inr e ↦ e
  ] where
    there : (i : Instruction) × OneOf i again × (names (called_function i) f ≡ true) → some_names called_function insts f ≡ true
    there r =
        let j = call_there r.0 r.1 (equal_true (opcode r.0) op.FUNCTION_CALL (call_of r.0 f r.2)) in
        one_any (λ i. names (called_function i) f) insts j.0 j.1 (ap (λ w. names (called_function (inst_of w)) f) j.2 ∙ r.2)
