-- A module that breaks no rule on instructions, layout and declarations is like its normal form.
use Rattle.std.proofs.Common.{◌≡◌, ℕ, ◌+◌, Bool, true, false, cond, ◌==◌, List, [], ◌++◌, drop, length, map, Option, Some, None, refl, sym, ap, ap₂, ◌∙◌, subst, arith}
use Rattle.std.specs.Prelude.{slice_index}
use Rattle.std.specs.List.{AllByRecursion, flat_map, range_with_len}
use Rattle.std.specs.Option.{option_map_or}
use Rattle.std.proofs.lemmas.List.{map-append}
use Rattle.spv_opcodes.specs.declared.op.TheConstants as op
use Rattle.spv_module.specs.declared.layout.Place.TheVariants.{Outside}
use Rattle.spv_module.specs.Code.{Code, code_of}
use Rattle.spv_module.specs.First.{first}
use Rattle.spv_module.specs.Instruction.{Instruction, opcode}
use Rattle.spv_module.specs.Layout.{group_2}
use Rattle.spv_ids.specs.Ids.{definition, kind}
use Rattle.spv_ids.specs.Ids.{words_of as id_words}
use Rattle.spv_declarations.specs.Broken.{group_3}
use Rattle.spv_declarations.proofs.Declares.{AllOf, one_of-holds}
use Rattle.spv_signatures.specs.Functions.{parameters_of}
use Rattle.spv_alike.specs.Alike.{AreAlike, is_loose, loose_kinds}
use Rattle.spv_blocks.specs.Cutting.{function_insts}
use Rattle.spv_normal.specs.Lines.{without_marks}
use Rattle.spv_tree.specs.declared.body.Body.{Body}
use Rattle.spv_tree.specs.Sound.{opcode_in}
use Rattle.spv_tree.specs.Tree.{words_of}
use Rattle.spv_spelling.specs.Whole.{AreInstructions}
use Rattle.spv_texts.specs.Laws.{DefinesOnce}
use Rattle.spv_texts.proofs.Functions.{Fits, fits_in_module}
use Rattle.spv_texts.proofs.Labels.{unbroken_defines_once}
use Rattle.spv_functions.specs.Functions.{IsTree, is_pointer}
use Rattle.spv_norm.specs.Norm.{IsNorm, function_lines, norm_lines, outside, stays_outside, staying}
use Rattle.spv_norm_means.proofs.InOrder.{functions_are, functions_in, joined, module_is_cut}
use Rattle.spv_norm_declared.specs.Laws.{IsWhole}
use Rattle.spv_norm_declared.proofs.CutAgain.{IsRead, group_2_none, is_read}
use Rattle.spv_norm_declared.proofs.Defined.{defined_again}
use Rattle.spv_norm_declared.proofs.Definers.{defined_alike, low_enough}
use Rattle.spv_norm_declared.proofs.Instructions.{each_instruction}
use Rattle.spv_norm_declared.proofs.Walks.{inst_of}
use Rattle.spv_norm_declared.proofs.Whole.{norm_is_laid_out, norm_lines_are_instructions}
use Rattle.spv_norm_structured.specs.Laws.{IsNormAgain, IsReadAsTrees}
use Rattle.spv_norm_structured.proofs.Again.{all_by_words, functions_law, lines_are, lines_of}
use Rattle.spv_norm_structured.proofs.Pieces.{all_at, at_all}
use Rattle.spv_norm_alike.specs.Laws.{NormIsAlike}
use Rattle.spv_norm_alike.proofs.FormTables.{forms_alike}
use Rattle.spv_norm_alike.proofs.Known.{known_alike, specialised_alike}
use Rattle.spv_norm_alike.proofs.Leading.{found_by, found_unmarked, parameters_told}
use Rattle.spv_norm_alike.proofs.Lengths.{length_same}
use Rattle.spv_norm_alike.proofs.Parameters.{SameTexts, filtered_no_function, found_behind, found_texts, outside_no_function, same_at, same_front}
use Rattle.spv_norm_alike.proofs.Places.{outside_alike}
use Rattle.spv_norm_alike.proofs.Said.{SaysAlike, says_alike, says_outside}
use Rattle.spv_norm_alike.proofs.Values.{DefinesAlike, IsFormed, fixed, loose, values}

-- ---- functions are defined in both

kind_of_words : (o : Option Instruction) → option_map_or opcode o 0 ≡ opcode_in (option_map_or (λ i. drop 0 i.words) o [])
kind_of_words None = refl
kind_of_words (Some i) = refl

kind_by_words : (insts : List Instruction) (id : ℕ) → kind insts id ≡ opcode_in (id_words insts id 0)
kind_by_words insts id = kind_of_words (definition insts id)

loose_no_function : AllOf (λ k. (k == op.FUNCTION) ≡ false) loose_kinds
loose_no_function = (refl, (refl, (refl, (refl, tt))))

module _ (insts again : List Instruction) (d : DefinesAlike insts again) (f : ℕ) where
  function_kind : (kind again f == op.FUNCTION) ≡ (kind insts f == op.FUNCTION)
  function_kind = by (is_loose insts f) refl where
    by : (b : Bool) → is_loose insts f ≡ b → (kind again f == op.FUNCTION) ≡ (kind insts f == op.FUNCTION)
    by true e =
        one_of-holds (λ k. (k == op.FUNCTION) ≡ false) loose_kinds loose_no_function (kind again f) (loose insts again d f e)
        ∙ sym (one_of-holds (λ k. (k == op.FUNCTION) ≡ false) loose_kinds loose_no_function (kind insts f) e)
    by false e =
        ap (λ k. k == op.FUNCTION) (kind_by_words again f ∙ ap opcode_in (fixed insts again d f e) ∙ sym (kind_by_words insts f))

-- ---- modules

module _ (words : List ℕ) (bodies : List Body) (norm : Code) (whole : IsWhole words bodies) (clean : first (group_3 (code_of words).insts) ≡ None)
    (is : IsNorm (code_of words) norm) (again : List Instruction) (same : words_of again ≡ words_of norm.insts) where
  abbrev insts : List Instruction
  insts = (code_of words).insts

  abbrev bound : ℕ
  bound = slice_index words 3

  read : IsRead words
  read = is_read words whole.decoded

  instructions : AreInstructions insts
  instructions = each_instruction bound insts (low_enough bound read.low) read.are

  formed : AllByRecursion IsFormed insts
  formed = all_at IsFormed insts instructions

  once : DefinesOnce insts
  once = unbroken_defines_once insts clean

  laid : first (group_2 (length words) insts) ≡ None
  laid = group_2_none words whole.decoded

  lines : words_of again ≡ norm_lines insts
  lines = same ∙ is.lines

  formed_again : AllByRecursion IsFormed again
  formed_again =
      all_by_words (λ w. IsFormed (inst_of w)) again norm.insts same
      (all_at IsFormed norm.insts (norm_lines_are_instructions words bodies norm whole is).instructions)

  instructions_again : AreInstructions again
  instructions_again = at_all IsFormed again formed_again

  laid_again : first (group_2 (length words) again) ≡ None
  laid_again = norm_is_laid_out words bodies norm whole is (length words) again same

  fits : Fits Outside false (without_marks insts)
  fits = fits_in_module (length words) insts laid

  fits_again : Fits Outside false (without_marks again)
  fits_again = fits_in_module (length words) again laid_again

  trees : IsReadAsTrees insts bodies
  trees = record { end = length words; instructions = instructions; laid_out = laid; once = once; count = whole.count; each = whole.each }

  normal : IsNormAgain insts again
  normal = record { words = lines; instructions = instructions_again }

  stay : words_of (outside again) ≡ words_of (staying insts)
  stay = (functions_law insts again bodies trees normal).outside

  defines : DefinesAlike insts again
  defines = record {
    formed = formed;
    formed_again = formed_again;
    alike = λ id w e. defined_alike words bodies whole once again lines id w e;
    every = λ id v e g. defined_again words bodies whole once id again lines v e g;
  }

  said : SaysAlike insts again
  said =
      says_alike insts again (says_outside (length words) insts instructions laid) (says_outside (length words) again instructions_again laid_again) stay

  -- ---- parameters

  texts : SameTexts (functions_in insts) bodies
  texts =
      subst (λ ts. SameTexts ts bodies) (sym (functions_are insts ∙ ap (λ n. map (λ k. function_insts k insts) (range_with_len 0 n)) (sym whole.count)))
      (same_at (λ k. function_insts k insts) 0 bodies
      (λ j b e. same_front (is_pointer insts) (function_insts (0 + j) insts) b
      (subst (λ n. IsTree (is_pointer insts) (function_insts n insts) b) (none_more j) (whole.each j b e))))
    where
      none_more : (n : ℕ) → n ≡ 0 + n
      none_more n = omega arith

  found_before : (f : ℕ) → found_by f (words_of insts) ≡ found_by f (flat_map lines_of bodies)
  found_before f =
      let inner : List Instruction = joined (functions_in insts) in
      found_unmarked f insts
      ∙ ap (λ z. found_by f (words_of z)) (module_is_cut insts fits)
      ∙ sym (found_unmarked f (outside insts ++ inner))
      ∙ ap (found_by f) (map-append (λ (i : Instruction). i.words) (outside insts) inner)
      ∙ found_behind f (outside insts) (words_of inner) (outside_no_function insts)
      ∙ found_unmarked f inner
      ∙ found_texts f (functions_in insts) bodies texts

  found_after : (f : ℕ) → found_by f (words_of again) ≡ found_by f (flat_map lines_of bodies)
  found_after f =
      ap (found_by f) lines
      ∙ found_behind f (staying insts) (function_lines insts) (filtered_no_function (stays_outside insts) (outside insts) (outside_no_function insts))
      ∙ ap (found_by f) (lines_are insts again bodies trees normal)

  parameters_same : (f : ℕ) → parameters_of again f ≡ parameters_of insts f
  parameters_same f =
      parameters_told again f
      ∙ ap₂ (λ b ps. cond b ps []) (function_kind insts again defines f) (found_after f ∙ sym (found_before f))
      ∙ sym (parameters_told insts f)

  pub are_alike : AreAlike insts again
  are_alike =
      let known = known_alike insts again (specialised_alike insts again stay said.decorations) said.tables in
      record {
        values = values insts again defines;
        fixed = fixed insts again defines;
        loose = loose insts again defines;
        outside = outside_alike insts again formed stay;
        decorations = said.decorations;
        members = said.members;
        known = known;
        forms =
            forms_alike insts again (length_same insts again (record { whole = instructions; unrefused = clean }) (fixed insts again defines) known)
            fits fits_again stay;
        parameters = parameters_same;
      }

pub norm_is_alike : NormIsAlike
norm_is_alike words bodies norm whole clean is again same = are_alike words bodies norm whole clean is again same
