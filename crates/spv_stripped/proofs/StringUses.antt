-- In a module of the profile in normal form only OpSource, OpLine, OpName and OpMemberName use strings: values by the rules, labels since OpLabels define
-- them, each id once.
use Rattle.std.proofs.Common.{◌≡◌, ℕ, false, ◌==◌, List, length, slice_get, Some, None, refl, sym, ap, subst, arith}
use Rattle.std.specs.List.{AllByRecursion}
use Rattle.spv_opcodes.specs.declared.op.TheConstants as op
use Rattle.spv_module.specs.Code.{Code, code_of, spelling}
use Rattle.spv_module.specs.First.{first}
use Rattle.spv_module.specs.Instruction.{Instruction, opcode}
use Rattle.spv_ids.specs.Ids.{kind, used_ids}
use Rattle.spv_typing.specs.Kinds.{is_one_of}
use Rattle.spv_declarations.specs.Broken.{group_3}
use Rattle.spv_walk.proofs.Unique.{false_equal}
use Rattle.spv_tree.specs.declared.body.Body.{Body}
use Rattle.spv_spelling.specs.Whole.{AreInstructions}
use Rattle.spv_texts.proofs.Functions.{fits_in_module}
use Rattle.spv_texts.proofs.Labels.{unbroken_defines_once}
use Rattle.spv_control.specs.Control.{AreParsed}
use Rattle.spv_check.specs.Broken.{Listed}
use Rattle.spv_alike.specs.Uses.{namings}
use Rattle.spv_label_uses.specs.Laws.{UsesNoStrings}
use Rattle.spv_label_uses.proofs.Whole.{strings_are_no_values}
use Rattle.spv_norm.specs.Norm.{IsNorm, outside}
use Rattle.spv_norm_means.proofs.InOrder.{joined}
use Rattle.spv_norm_declared.proofs.CutAgain.{group_2_none, is_read}
use Rattle.spv_norm_declared.proofs.Instructions.{each_instruction}
use Rattle.spv_norm_structured.specs.Laws.{IsNormAgain, IsReadAsTrees}
use Rattle.spv_norm_structured.proofs.Again.{halves, outside_again, whole}
use Rattle.spv_norm_structured.proofs.Pieces.{all_both, at_all}
use Rattle.spv_norm_declarations.proofs.Defined.{IsFormed}
use Rattle.spv_norm_declarations.proofs.OutsideKnown.{NotInner, all_values, outside_not_inner}
use Rattle.spv_norm_declarations.proofs.Uses.{labels, used_all, values}
use Rattle.spv_norm_declarations.proofs.Values.{all_contained}
use Rattle.spv_norm_profile.proofs.Entered.{each_entered}
use Rattle.spv_profile.specs.Profile.{IsInProfile, IsModule}
use Rattle.spv_stripped.specs.StringLaws.{ModuleUsesNoStrings}
use Rattle.spv_stripped.proofs.StringLabels.{NamesLabels, all_to, texts, texts_name_labels}

-- it uses no string, where it names nothing
abbrev UsesNone : List Instruction → Type 0
UsesNone insts =
    (k : ℕ) (i : Instruction) → slice_get insts k ≡ Some i → is_one_of namings (opcode i) ≡ false
    → AllByRecursion (λ id. (kind insts id == op.STRING) ≡ false) (used_ids i)

-- ---- a module that is its own normal form, where no value is a string

module _ (insts : List Instruction) (bodies : List Body) (read : IsReadAsTrees insts bodies) (norm : IsNormAgain insts insts) (strings : UsesNoStrings insts) where
  abbrev IsOther : ℕ → Type 0
  IsOther id = (kind insts id == op.STRING) ≡ false

  -- what holds of its values holds of all ids that it uses
  abbrev NamesOthers : Instruction → Type 0
  NamesOthers i = IsFormed i → AllByRecursion IsOther (values i) → AllByRecursion IsOther (used_ids i)

  label_other : (l : ℕ) → kind insts l ≡ op.LABEL → IsOther l
  label_other l e = ap (λ o. o == op.STRING) e

  outside_names : AllByRecursion NamesOthers (outside insts)
  outside_names =
      all_to NotInner NamesOthers (outside insts) (λ i plain formed h. subst (AllByRecursion IsOther) (all_values i plain) h)
      (outside_not_inner insts (fits_in_module read.end insts read.laid_out))

  texts_name : AllByRecursion NamesOthers (joined (texts insts bodies read norm))
  texts_name =
      all_to (NamesLabels insts bodies read norm) NamesOthers (joined (texts insts bodies read norm))
      (λ i named formed h. used_all IsOther i formed h (all_to (λ l. kind insts l ≡ op.LABEL) IsOther (labels i) label_other named))
      (texts_name_labels insts bodies read norm)

  all_name : AllByRecursion NamesOthers insts
  all_name =
      let front = (halves insts insts bodies read norm).front in
      subst (AllByRecursion NamesOthers) (sym (whole insts insts bodies read norm))
      (all_both NamesOthers front (joined (texts insts bodies read norm))
      (subst (AllByRecursion NamesOthers) (outside_again insts insts bodies read norm) outside_names) texts_name)

  uses_none : UsesNone insts
  uses_none k i there plain =
      at_all NamesOthers insts all_name k i there (read.instructions k i there)
      (all_contained IsOther (values i) (λ id c. false_equal (kind insts id) op.STRING (strings.at k i there plain id c)))

-- ---- a module of the profile

module _ (words : List ℕ) (bodies : List Body) (p : IsInProfile words) (parsed : AreParsed (code_of words).insts bodies)
    (n : IsNorm (code_of words) (code_of words)) where
  abbrev insts : List Instruction
  insts = (code_of words).insts

  declared : first (group_3 insts) ≡ None
  declared = p.structured.front.front.declared

  instructions : AreInstructions insts
  instructions = let read = is_read words p.structured.front.front.decoded in let low = read.low in each_instruction _ insts (omega arith) read.are

  read : IsReadAsTrees insts bodies
  read = record {
    end = length words;
    instructions = instructions;
    laid_out = group_2_none words p.structured.front.front.decoded;
    once = unbroken_defines_once insts declared;
    count = parsed.count;
    each = parsed.each;
  }

  strings : UsesNoStrings insts
  strings = strings_are_no_values insts (record {
    end = length words;
    instructions = instructions;
    laid_out = group_2_none words p.structured.front.front.decoded;
    declared = declared;
    fit = λ k i at rule h. p.bodies rule i.offset (record { k = k; i = i; is = at; broken = Listed rule h; place = refl });
    interface = λ k i at. (each_entered insts p.whole k i at).interface;
    entered = λ k i at. (each_entered insts p.whole k i at).entry;
  })

  words_use_none : UsesNone insts
  words_use_none = uses_none insts bodies read (record { words = n.lines; instructions = instructions }) strings

pub module_uses_no_strings : ModuleUsesNoStrings
module_uses_no_strings code bodies m parsed =
    subst (λ (c : Code). UsesNone c.insts) m.placed
    (words_use_none (spelling code) bodies m.profile (subst (λ (c : Code). AreParsed c.insts bodies) (sym m.placed) parsed)
    (subst (λ (c : Code). IsNorm c c) (sym m.placed) m.normal))
