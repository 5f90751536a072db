-- The normal form of a module of the profile: each group of rules by its own law.
use Rattle.std.proofs.Common.{◌≡◌, ℕ, ◌≤◌, ◌^◌, Bool, true, false, cond, not, ◌==◌, ◌&&◌, ◌||◌, List, [], ◌∷◌, take, length, slice_get, Some, None, refl, sym, ap, ap₂, subst, ◌∙◌, arith}
use Rattle.std.specs.Prelude.{count_by}
use Rattle.std.specs.List.{Contains, flat_map, list_any}
use Rattle.spv_opcodes.specs.declared.op.TheConstants as op
use Rattle.spv_base.specs.declared.header.Header.{Header}
use Rattle.spv_module.specs.Code.{Code, code_of, is_function, is_line, spelling}
use Rattle.spv_module.specs.First.{first}
use Rattle.spv_module.specs.Instruction.{Instruction, IsInstruction, opcode, roles}
use Rattle.spv_module.specs.Layout.{group_2}
use Rattle.spv_bound.specs.Bound.{bound_of_ids}
use Rattle.spv_declarations.specs.Broken.{group_3}
use Rattle.spv_walk.specs.Rules.{IsFirst}
use Rattle.spv_walk.proofs.Unique.{equal_true}
use Rattle.spv_tree.specs.declared.body.Body.{Body}
use Rattle.spv_tree.specs.Tree.{words_of}
use Rattle.spv_spelling.specs.Whole.{AreInstructions}
use Rattle.spv_texts.specs.Laws.{DefinesOnce}
use Rattle.spv_texts.proofs.Labels.{unbroken_defines_once}
use Rattle.spv_control.specs.Control.{AreParsed, BrokenInSome, NestsTooDeep}
use Rattle.spv_body_rules.specs.Broken.{body_rules, is_of_functions, rules_in_functions}
use Rattle.spv_check.proofs.Beginnings.{in_functions}
use Rattle.spv_check.specs.Broken.{Breaks, BrokenInBodies, Listed, NotAvailable}
use Rattle.spv_module_rules.specs.Broken.{BrokenInWhole, ManyExits, OfModule}
use Rattle.spv_norm.specs.Norm.{IsNorm, norm_lines}
use Rattle.spv_norm_declared.specs.Laws.{AreUnbroken, IsCutAgain, IsWhole}
use Rattle.spv_norm_declared.proofs.CutAgain.{group_2_none, is_read}
use Rattle.spv_norm_declared.proofs.Instructions.{each_instruction}
use Rattle.spv_norm_declared.proofs.Once.{norm_defines_once}
use Rattle.spv_norm_declared.proofs.Whole.{norm_is_cut_again, norm_is_decoded, norm_is_laid_out, norm_lines_are_instructions}
use Rattle.spv_norm_structured.specs.Laws.{IsNormAgain, IsReadAsTrees}
use Rattle.spv_norm_structured.proofs.Again.{count_again}
use Rattle.spv_norm_structured.proofs.Depths.{norm_is_shallow}
use Rattle.spv_norm_structured.proofs.Normal.{norm_stays}
use Rattle.spv_norm_structured.proofs.Pointers.{norm_is_unbroken}
use Rattle.spv_norm_structured.proofs.Trees as trees
use Rattle.spv_alike.specs.Alike.{AreAlike}
use Rattle.spv_alike.specs.Uses.{UsesNoLabels}
use Rattle.spv_norm_alike.proofs.Whole.{norm_is_alike}
use Rattle.spv_label_uses.proofs.Whole.{labels_are_no_values}
use Rattle.spv_norm_declarations.proofs.Law.{norm_is_declared}
use Rattle.spv_norm_typed.specs.Laws.{FitAll}
use Rattle.spv_norm_typed.proofs.Again.{norm_is_typed}
use Rattle.spv_norm_typed.proofs.Fits.{fits_of_rules, nothing_left}
use Rattle.spv_alike.proofs.Rules.{rules_stay}
use Rattle.spv_norm_available.specs.Laws.{KnowsAllTypes, NoneMissing}
use Rattle.spv_norm_available.proofs.Types.{types_known}
use Rattle.spv_norm_available.proofs.Whole.{norm_is_available}
use Rattle.spv_norm_entries.specs.Laws.{AllEntered, FunctionsTyped}
use Rattle.spv_norm_entries.proofs.Entered.{norm_is_entered}
use Rattle.spv_norm_exits.specs.Laws.{IsUncrowded}
use Rattle.spv_norm_exits.proofs.Whole.{norm_is_uncrowded}
use Rattle.spv_profile.specs.Profile.{IsInProfile, IsModule}
use Rattle.spv_norm_profile.specs.Laws.{NormIsModule, NormIsParsed}
use Rattle.spv_norm_profile.proofs.Entered.{each_entered, none_listed}
use Rattle.spv_norm_profile.proofs.Words.{same_bound, same_instructions, same_spelling}

-- ---- instructions of functions

function_no_line : (i : Instruction) → is_function i ≡ true → is_line i ≡ false
function_no_line i h = ap (λ o. o == op.LINE || o == op.NO_LINE) (equal_true (opcode i) op.FUNCTION h)

function_inside : (insts : List Instruction) (k : ℕ) (i : Instruction) → is_function i ≡ true → is_line i ≡ false → is_of_functions insts k i ≡ true
function_inside insts k i h plain = both (list_any is_function (take k insts)) (is_function i) (is_line i) h plain
  where
    both : (a b l : Bool) → b ≡ true → l ≡ false → ((a || b) && not l) ≡ true
    both true b false e g = refl
    both false true false e g = refl
    both a b true e g = absurd (cc g)
    both false false l e g = absurd (cc e)

no_line_inside : (insts : List Instruction) (k : ℕ) (i : Instruction) → is_of_functions insts k i ≡ true → is_line i ≡ false
no_line_inside insts k i h = by (list_any is_function (take k insts) || is_function i) (is_line i) h
  where
    by : (a l : Bool) → (a && not l) ≡ true → l ≡ false
    by true false e = refl
    by true true e = absurd (cc e)
    by false l e = absurd (cc e)

listed_inside : (insts : List Instruction) (k : ℕ) (i : Instruction) → is_of_functions insts k i ≡ true → (rule : ℕ) → Contains (rules_in_functions insts k i) rule
    → Contains (body_rules insts k i) rule
unfolding body_rules
listed_inside insts k i h rule c = subst (λ (b : Bool). Contains (cond b (rules_in_functions insts k i) []) rule) (sym h) c

module _ (words : List ℕ) (bodies : List Body) (norm : Code) (p : IsInProfile words) (parsed : AreParsed (code_of words).insts bodies)
    (n : IsNorm (code_of words) norm) where
  abbrev insts : List Instruction
  insts = (code_of words).insts

  abbrev after : Code
  after = code_of (spelling norm)

  abbrev again : List Instruction
  again = after.insts

  -- ---- the module

  whole : IsWhole words bodies
  whole = record { decoded = p.structured.front.front.decoded; count = parsed.count; each = parsed.each }

  declared : first (group_3 insts) ≡ None
  declared = p.structured.front.front.declared

  once : DefinesOnce insts
  once = unbroken_defines_once insts declared

  instructions : AreInstructions insts
  instructions = let read = is_read words p.structured.front.front.decoded in let low = read.low in each_instruction _ insts (omega arith) read.are

  read : IsReadAsTrees insts bodies
  read = record {
    end = length words;
    instructions = instructions;
    laid_out = group_2_none words p.structured.front.front.decoded;
    once = once;
    count = parsed.count;
    each = parsed.each;
  }

  fit : FitAll insts
  fit = λ k i at rule h. p.bodies rule i.offset (record { k = k; i = i; is = at; broken = Listed rule h; place = refl })

  missing : NoneMissing insts
  missing = λ k i at plain h.
      p.bodies 503 i.offset (record { k = k; i = i; is = at; broken = NotAvailable (in_functions insts k i at h.inside plain) h; place = refl })

  typed : FunctionsTyped insts
  typed = λ k i at function.
      let plain : is_line i ≡ false = function_no_line i function in
      let of_functions : is_of_functions insts k i ≡ true = function_inside insts k i function plain in
      (fits_of_rules insts k i (nothing_left (rules_in_functions insts k i) (λ rule h. fit k i at rule (listed_inside insts k i of_functions rule h)))).function

  types : KnowsAllTypes insts
  types = types_known insts (length words) instructions (group_2_none words p.structured.front.front.decoded) declared fit

  entered : AllEntered insts
  entered = each_entered insts p.whole

  uncrowded : IsUncrowded insts
  uncrowded = λ nested rule at together h. p.whole rule at (ManyExits nested rule at together h)

  no_labels : UsesNoLabels insts
  no_labels = labels_are_no_values insts (record {
    end = length words;
    instructions = instructions;
    laid_out = group_2_none words p.structured.front.front.decoded;
    declared = declared;
    fit = fit;
    interface = λ k i at. (entered k i at).interface;
    entered = λ k i at. (entered k i at).entry;
  })

  -- ---- its normal form

  cut : IsCutAgain norm
  cut = norm_is_cut_again words bodies norm whole n

  again_words : words_of again ≡ norm_lines insts
  again_words = cut.lines ∙ n.lines

  norm_again : IsNormAgain insts again
  norm_again = record { words = again_words; instructions = same_instructions again norm.insts cut.lines (norm_lines_are_instructions words bodies norm whole n).instructions }

  once_again : DefinesOnce again
  once_again = norm_defines_once words bodies norm whole n once again cut.lines

  alike : AreAlike insts again
  alike = norm_is_alike words bodies norm whole declared n again cut.lines

  declared_again : first (group_3 again) ≡ None
  declared_again = norm_is_declared insts again bodies read norm_again declared alike once_again no_labels

  fit_again : FitAll again
  fit_again = norm_is_typed rules_stay insts again bodies read norm_again declared alike fit

  missing_again : NoneMissing again
  missing_again =
      norm_is_available insts again bodies read norm_again (λ end. norm_is_laid_out words bodies norm whole n end again cut.lines) once_again alike no_labels types
      missing

  entered_again : AllEntered again
  entered_again = norm_is_entered insts again bodies read norm_again alike typed entered

  uncrowded_again : IsUncrowded again
  uncrowded_again = norm_is_uncrowded insts again bodies read norm_again uncrowded

  bodies_again : IsFirst (BrokenInBodies again) None
  bodies_again = λ rule at b. by b.k b.i b.is rule b.broken
    where
      by : (k : ℕ) (i : Instruction) → slice_get again k ≡ Some i → (rule : ℕ) → Breaks again k i rule → ⊥
      by k i at rule (Listed r h) = fit_again k i at rule h
      by k i at rule (NotAvailable inside h) = missing_again k i at (no_line_inside again k i inside) h

  whole_again : IsFirst (BrokenInWhole again) None
  whole_again = λ rule at b. by rule at b
    where
      by : (rule at : ℕ) → BrokenInWhole again rule at → ⊥
      by rule at (OfModule tests r a are h) = none_listed again tests are entered_again rule at h
      by rule at (ManyExits nested r a together h) = uncrowded_again nested rule at together h

  profile : IsInProfile (spelling norm)
  profile = record {
    structured = record {
      front = record {
        front = record { decoded = norm_is_decoded words bodies norm whole n; declared = declared_again };
        unbroken = λ rule at b. norm_is_unbroken insts again bodies read norm_again b.function b.is rule at b.broken;
      };
      shallow = λ d. norm_is_shallow insts again bodies read norm_again d.function d.is d.deep;
    };
    bodies = bodies_again;
    whole = whole_again;
  }

  -- ---- written again

  spells_same : spelling after ≡ spelling norm
  spells_same = same_spelling after norm cut.header cut.lines

  bound_again : bound_of_ids again ≡ bound_of_ids norm.insts
  bound_again = same_bound again norm.insts cut.lines

  header_again : after.header ≡ (record after.header { bound = bound_of_ids again })
  header_again =
      let own : after.header.bound ≡ bound_of_ids again = ap (λ (h : Header). h.bound) (cut.header ∙ n.header) ∙ sym bound_again in
      ap (λ (b : ℕ). record after.header { bound = b }) own

  module_again : IsModule after
  module_again = record {
    placed = ap code_of spells_same;
    profile = subst IsInProfile (sym spells_same) profile;
    normal = record { lines = sym (norm_stays insts again bodies read norm_again); header = header_again };
  }

  parsed_again : AreParsed again bodies
  parsed_again = record { count = sym (count_again insts again bodies read norm_again); each = trees.norm_is_parsed insts again bodies read norm_again }

pub norm_is_module : NormIsModule
norm_is_module words bodies norm p parsed n = module_again words bodies norm p parsed n

pub norm_is_parsed : NormIsParsed
norm_is_parsed words bodies norm p parsed n = parsed_again words bodies norm p parsed n
