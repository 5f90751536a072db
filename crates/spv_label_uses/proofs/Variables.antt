-- What the variables of functions need.
use Rattle.std.proofs.Common.{◌≡◌, ℕ, Bool, true, false, cond, ◌==◌, ◌&&◌, ◌||◌, List, [], ◌∷◌, drop, take, refl, sym, ap, ◌∙◌}
use Rattle.std.specs.List.{fold, list_any, list_all, slice_index}
use Rattle.std.proofs.lemmas.Bool.{and_parts}
use Rattle.spv_opcodes.specs.declared.op.TheConstants as op
use Rattle.spv_opcodes.specs.declared.storage_class.TheConstants as storage_class
use Rattle.spv_module.specs.Code.{is_function, is_line}
use Rattle.spv_module.specs.Instruction.{Instruction, IsInstruction, opcode, roles}
use Rattle.spv_typing.specs.Kinds.{is_pointer, pointer_class, pointee}
use Rattle.spv_usage.specs.declared.stages.Stage.{Stage}
use Rattle.spv_usage.specs.declared.stages.Stage.TheVariants.{Outside, Head, Opening, Further}
use Rattle.spv_usage.specs.Stages.{behind_label, behind_other, stage_behind, stage_of, is_outside, is_opening}
use Rattle.spv_usage.specs.Storage.{class_fits, length_fits, initialiser_fits, variable_fits, storage_fits}
use Rattle.spv_label_uses.proofs.Free.{or_cases, same_by, all_1, is_free, free_typed}
use Rattle.spv_label_uses.proofs.Globals.{variable_needs}
use Rattle.spv_label_uses.proofs.Types.{NeedsFree}

-- ---- behind an OpFunction no instruction stands outside functions

still_inside : (s : Stage) (i : Instruction) → is_outside s ≡ false → is_outside (stage_behind s i) ≡ false
still_inside s i h = by (is_line i || opcode i == op.VARIABLE) (is_function i) (opcode i == op.LABEL) s h where
  by : (a f l : Bool) (s : Stage) → is_outside s ≡ false → is_outside (cond a s (cond f Head (cond l (behind_label s) (behind_other s)))) ≡ false
  by true f l s h = h
  by false true l s h = refl
  by false false true Outside h = absurd (cc h)
  by false false true Head h = refl
  by false false true Opening h = refl
  by false false true Further h = refl
  by false false false Outside h = absurd (cc h)
  by false false false Head h = refl
  by false false false Opening h = refl
  by false false false Further h = refl

-- an OpFunction begins its function
begins : (s : Stage) (i : Instruction) → is_function i ≡ true → is_outside (stage_behind s i) ≡ false
begins s i h =
    let e : opcode i ≡ op.FUNCTION = same_by (opcode i) op.FUNCTION h in
    ap (λ o. is_outside (cond ((o == op.LINE || o == op.NO_LINE) || o == op.VARIABLE) s
    (cond (o == op.FUNCTION) Head (cond (o == op.LABEL) (behind_label s) (behind_other s))))) e

-- induction on the instructions
all_inside : (s : Stage) (is : List Instruction) → is_outside s ≡ false → is_outside (fold stage_behind s is) ≡ false
all_inside s [] h = h
all_inside s (i ∷ is) h = all_inside (stage_behind s i) is (still_inside s i h)

inside : (s : Stage) (is : List Instruction) → list_any is_function is ≡ true → is_outside (fold stage_behind s is) ≡ false
inside s [] h = absurd (cc h)
inside s (i ∷ is) h =
    or_cases (is_function i) (list_any is_function is) h (λ e. all_inside (stage_behind s i) is (begins s i e)) (λ e. inside (stage_behind s i) is e)

-- ---- variables

free_initialiser : (insts : List Instruction) (target : ℕ) (ids : List ℕ) → initialiser_fits insts target ids ≡ true
    → list_all (is_free insts) (take 1 ids) ≡ true
free_initialiser insts target [] h = refl
free_initialiser insts target (id ∷ ids) h = all_1 (is_free insts) id (free_typed insts target id h)

pub local_needs : (insts : List Instruction) (k : ℕ) (i : Instruction) → IsInstruction i.words (roles i) → opcode i ≡ op.VARIABLE
    → list_any is_function (take k insts) ≡ true
    → storage_fits insts (stage_of insts k) i ≡ true → NeedsFree insts i
unfolding storage_fits
local_needs insts k i whole e begun h =
    let t : ℕ = slice_index i.words 1 in
    let class : ℕ = slice_index i.words 3 in
    let ids : List ℕ = drop 4 i.words in
    let asked : (is_outside (stage_of insts k) || (is_opening (stage_of insts k) && variable_fits insts (slice_index i.words 1) (slice_index i.words 3)
    (drop 4 i.words))) ≡ true = rw e at h in
    let fits : (is_opening (stage_of insts k) && variable_fits insts t class ids) ≡ true =
    sym (ap (λ b. b || (is_opening (stage_of insts k) && variable_fits insts t class ids)) (inside Outside (take k insts) begun)) ∙ asked in
    let variable = (and_parts (is_opening (stage_of insts k)) (variable_fits insts t class ids) fits).1 in
    let last : Bool = length_fits insts (pointee insts t) && initialiser_fits insts (pointee insts t) ids in
    let classes = and_parts (class_fits insts t class) last variable in
    let pointer = (and_parts (class == storage_class.FUNCTION) (is_pointer insts t && pointer_class insts t == class) classes.0).1 in
    variable_needs insts i whole e (and_parts (is_pointer insts t) (pointer_class insts t == class) pointer).0
    (free_initialiser insts (pointee insts t) ids (and_parts (length_fits insts (pointee insts t))
    (initialiser_fits insts (pointee insts t) ids) classes.1).1)
