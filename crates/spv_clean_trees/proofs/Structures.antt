-- What a clean function spells is structured, and its listing breaks no rule.
use Rattle.std.proofs.Common.{◌≡◌, ℕ, ◌==◌, Bool, true, cond, List, [], ◌∷◌, ◌++◌, refl, sym, ap, subst, ◌∙◌, append_assoc, All}
use Rattle.std.specs.List.{AllByRecursion}
use Rattle.std.proofs.lemmas.List.Elements.{All-head, All-tail}
use Rattle.spv_opcodes.specs.declared.op.TheConstants as op
use Rattle.spv_module.specs.Instruction.{Instruction, opcode}
use Rattle.spv_blocks.specs.Cutting.{blocks_of, is_label_mark}
use Rattle.spv_bodies.specs.Bodies.{Function}
use Rattle.spv_normal.specs.Lines.{before_labels, without_marks}
use Rattle.spv_tree.specs.Sound.{opcode_in}
use Rattle.spv_tree.specs.Tree.{words_of}
use Rattle.spv_spelling.specs.Clean.{IsClean}
use Rattle.spv_spelling.specs.Spelling.{SpellsFunction}
use Rattle.spv_spelling.specs.Whole.{IsAdmitted}
use Rattle.spv_normal_trees.proofs.Listed.{spelled_is_normal, walk}
use Rattle.spv_structured.specs.Laws.{Opens}
use Rattle.spv_structured.specs.Structured.{IsStructured}
use Rattle.spv_structured.proofs.Unbroken.{structured_is_unbroken}
use Rattle.spv_sound_trees.proofs.Sound.{spelled_is_sound}
use Rattle.spv_clean_trees.specs.Laws.{ListingIsUnbroken, NormalIsUnbroken, SpelledIsStructured}
use Rattle.spv_clean_trees.proofs.Alike.{alike_same}
use Rattle.spv_clean_trees.proofs.Flowing.{rest_flows}
use Rattle.spv_clean_trees.proofs.Forms.{Formed, rest_formed}
use Rattle.spv_clean_trees.proofs.Turns.{turns_once}

module _ (is_pointer : ℕ → Bool) (insts : List Instruction) (stays : ℕ → ℕ) (f : Function) (admitted : IsAdmitted insts)
    (clean : IsClean is_pointer (blocks_of insts))
    (spells : SpellsFunction insts stays f) where
  formed : Formed insts stays f admitted spells is_pointer clean f.body
  formed = rest_formed insts stays f admitted spells is_pointer clean spells.body (walk insts stays f admitted spells)

  structured : IsStructured is_pointer f
  structured = record {
    flows = rest_flows insts stays is_pointer clean spells.staying
        (λ h m n c continuing w is p. turns_once insts stays is_pointer clean spells.staying h m n c continuing w is p)
        spells.body (walk insts stays f admitted spells) [] refl [] (alike_same []) f.label;
    parameters = formed.parameters;
    arms = formed.arms;
  }

pub spelled_is_structured : SpelledIsStructured
spelled_is_structured is_pointer insts stays f admitted clean spells = structured is_pointer insts stays f admitted clean spells

-- ---- what stands before the first block

abbrev AreParameters : List Instruction → Type 0
AreParameters is = All (λ i. opcode i ≡ op.FUNCTION_PARAMETER) is

-- lines of an OpFunction and its parameters
abbrev AreOpening : List (List ℕ) → Type 0
AreOpening [] = ⊥
AreOpening (words ∷ rest) = (opcode_in words ≡ op.FUNCTION) × AllByRecursion (λ line. opcode_in line ≡ op.FUNCTION_PARAMETER) rest

before_parameters : (is : List Instruction) (label : Instruction) (rest : List Instruction) → AreParameters is → is_label_mark label ≡ true
    → before_labels (is ++ label ∷ rest) ≡ is
before_parameters [] label rest h mark = ap (λ b. cond b [] (label ∷ before_labels rest)) mark
before_parameters (i ∷ is) label rest h mark =
    ap (λ o. cond (o == op.LABEL) [] (i ∷ before_labels (is ++ label ∷ rest))) (All-head (λ j. opcode j ≡ op.FUNCTION_PARAMETER) i is h)
    ∙ ap (λ z. i ∷ z) (before_parameters is label rest (All-tail (λ j. opcode j ≡ op.FUNCTION_PARAMETER) i is h) mark)

parameter_lines : (is : List Instruction) → AreParameters is → AllByRecursion (λ line. opcode_in line ≡ op.FUNCTION_PARAMETER) (words_of is)
parameter_lines [] h = tt
parameter_lines (i ∷ is) h = (
  All-head (λ j. opcode j ≡ op.FUNCTION_PARAMETER) i is h,
  parameter_lines is
      (All-tail (λ j. opcode j ≡ op.FUNCTION_PARAMETER) i is h),
)

pub opens : (insts : List Instruction) (stays : ℕ → ℕ) (f : Function) → IsAdmitted insts → SpellsFunction insts stays f → Opens f
opens insts stays f admitted spells =
    let t = admitted.text in
    let parted : insts ≡ t.function ∷ (t.parameters ++ t.label ∷ (t.blocks ++ t.last ∷ [])) =
    t.same ∙ ap (λ z. t.function ∷ z) (append_assoc t.parameters (t.label ∷ t.blocks) (t.last ∷ [])) in
    let before : before_labels insts ≡ t.function ∷ t.parameters =
    ap before_labels parted
    ∙ ap (λ o. cond (o == op.LABEL) [] (t.function ∷ before_labels (t.parameters ++ t.label ∷ (t.blocks ++ t.last ∷ [])))) t.begins
    ∙ ap (λ z. t.function ∷ z) (before_parameters t.parameters t.label (t.blocks ++ t.last ∷ []) t.takes t.first) in
    let lines : AreOpening (f.function ∷ f.parameters) =
    subst (λ z. AreOpening z) (ap words_of (sym before) ∙ spells.front) (t.begins, parameter_lines t.parameters t.takes) in
    record { function = lines.0; parameters = lines.1 }

pub listing_is_unbroken : ListingIsUnbroken
listing_is_unbroken is_pointer insts listing stays f admitted clean spells same rule at h =
    structured_is_unbroken f listing is_pointer (spelled_is_sound insts stays f admitted spells) (opens insts stays f admitted spells)
    (structured is_pointer insts stays f admitted clean spells) same rule at h

pub normal_is_unbroken : NormalIsUnbroken
normal_is_unbroken is_pointer insts normal stays f admitted clean spells same rule at h =
    listing_is_unbroken is_pointer (without_marks insts) normal stays f admitted clean spells (same ∙ sym (spelled_is_normal insts stays f admitted spells)) rule at h
