-- A module and its normal form are cut into the functions that spell the trees and the listings of these.
use Rattle.std.proofs.Common.{◌≡◌, ℕ, suc, ◌+◌, Bool, true, false, not, nat_eq, ◌&&◌, ◌||◌, List, [], ◌∷◌, ◌++◌, map, Some, refl, sym, ap, ◌∙◌, subst, arith}
use Rattle.std.specs.Prelude.{length, slice_get}
use Rattle.std.specs.List.{flat_map, range_with_len, list_any}
use Rattle.spv_opcodes.specs.declared.op.TheConstants as op
use Rattle.spv_module.specs.Code.{Code, is_line}
use Rattle.spv_module.specs.Instruction.{Instruction, opcode}
use Rattle.spv_meaning.specs.Meanings.{statements}
use Rattle.spv_meaning.specs.Statements.{Statement, is_debug_opcode, is_silent, is_silent_opcode, statements_in, words_of}
use Rattle.spv_machine.proofs.Schedules.{modules_law}
use Rattle.spv_machine.proofs.Silence.{filtered_says}
use Rattle.spv_ids.specs.Ids.{used_ids}
use Rattle.spv_typing.specs.Kinds.{is_one_of}
use Rattle.spv_blocks.specs.Cutting.{function_insts}
use Rattle.spv_bodies.specs.Bodies.{Function}
use Rattle.spv_bodies.specs.Listing.{listed}
use Rattle.spv_walk.proofs.Unique.{equal_true}
use Rattle.spv_normal.specs.Normal.{normal_function}
use Rattle.spv_normal_trees.proofs.Listed.{spelled_is_normal}
use Rattle.spv_texts.proofs.Functions.{fits_in_module}
use Rattle.spv_texts.proofs.Labels.{labels_once_from}
use Rattle.spv_trees.specs.Sound.{labels_in, Distinct}
use Rattle.spv_trees.proofs.Spelling.{statements_append}
use Rattle.spv_standing.proofs.Lines.{marks_say_nothing, says_append}
use Rattle.spv_norm.specs.Norm.{IsNorm, function_lines, is_gone, namings, outside, stays_outside, staying}
use Rattle.spv_norm_means.specs.Laws.{AreCut, AreRead, IsRead, NormFinals, NormKeeps, NormKeepsOnce, ReadsAs}
use Rattle.spv_norm_means.proofs.Cut.{cut_keeps}
use Rattle.spv_norm_means.proofs.InOrder.{functions_in, functions_are, joined, module_is_cut}
use Rattle.spv_norm_means.proofs.Saying.{labels_distinct, none_outside}
use Rattle.spv_norm_means.proofs.TreeLabels.{labels_stay_distinct}

-- ---- functions by their numbers

abbrev ReadFrom : (F : ℕ → List Instruction) (a : ℕ) → List Function → Type 0
ReadFrom F a fs = (j : ℕ) (f : Function) → slice_get fs j ≡ Some f → ReadsAs (F (a + j)) f

read_first : (F : ℕ → List Instruction) (a : ℕ) (f : Function) (fs : List Function) → ReadFrom F a (f ∷ fs) → ReadsAs (F a) f
read_first F a f fs h = subst (λ n. ReadsAs (F n) f) (at_once a) (h 0 f refl) where
  at_once : (n : ℕ) → n + 0 ≡ n
  at_once n = omega arith

read_later : (F : ℕ → List Instruction) (a : ℕ) (f : Function) (fs : List Function) → ReadFrom F a (f ∷ fs) → ReadFrom F (a + 1) fs
read_later F a f fs h j g e = subst (λ n. ReadsAs (F n) g) (one_later a j) (h (suc j) g e) where
  one_later : (n k : ℕ) → n + suc k ≡ (n + 1) + k
  one_later n k = omega arith

-- by induction on the trees
read_at : (F : ℕ → List Instruction) (a : ℕ) (fs : List Function) → ReadFrom F a fs → AreRead (map F (range_with_len a (length fs))) fs
read_at F a [] h = tt
read_at F a (f ∷ fs) h = (read_first F a f fs h, read_at F (a + 1) fs (read_later F a f fs h))

listed_at : (F : ℕ → List Instruction) (a : ℕ) (fs : List Function) → ReadFrom F a fs
    → flat_map (λ k. normal_function (F k)) (range_with_len a (length fs)) ≡ flat_map listed fs
listed_at F a [] h = refl
listed_at F a (f ∷ fs) h =
    let r = read_first F a f fs h in
    λ i. sym (spelled_is_normal (F a) r.stays f r.admitted r.spells) i ++ listed_at F (a + 1) fs (read_later F a f fs h) i

-- ---- what does not stay outside says nothing

either_gives : {P : Type 0} (a b : Bool) → (a ≡ true → P) → (b ≡ true → P) → (a || b) ≡ true → P
either_gives true b f g h = f refl
either_gives false b f g h = g h

naming_is_silent : (o : ℕ) → is_one_of namings o ≡ true → is_silent_opcode o ≡ true
naming_is_silent o h =
    either_gives (nat_eq o op.NAME) (nat_eq o op.MEMBER_NAME || (nat_eq o op.SOURCE || false)) (at op.NAME refl)
    (either_gives (nat_eq o op.MEMBER_NAME) (nat_eq o op.SOURCE || false) (at op.MEMBER_NAME refl)
    (either_gives (nat_eq o op.SOURCE) false (at op.SOURCE refl) (λ e. absurd (cc)))) h
  where
    at : (k : ℕ) → is_silent_opcode k ≡ true → nat_eq o k ≡ true → is_silent_opcode o ≡ true
    at k p e = ap is_silent_opcode (equal_true o k e) ∙ p

or_last : (a : Bool) → (a || true) ≡ true
or_last true = refl
or_last false = refl

goes_silently : (insts : List Instruction) (i : Instruction) → stays_outside insts i ≡ false → is_silent i ≡ true
goes_silently insts i h = by (is_line i) (is_one_of namings (opcode i)) (list_any (is_gone insts) (used_ids i)) refl refl h where
  by : (line naming gone : Bool) → is_line i ≡ line → is_one_of namings (opcode i) ≡ naming → (not line && not (naming && gone)) ≡ false → is_silent i ≡ true
  by true naming gone e f g = ap (λ b. is_debug_opcode (opcode i) || b) e ∙ or_last (is_debug_opcode (opcode i))
  by false true gone e f g = naming_is_silent (opcode i) f
  by false false gone e f g = absurd (cc)

-- ---- the law

module _ (before after : Code) (trees : List Function) (h : IsRead before trees) (norm : IsNorm before after) where
  abbrev insts : List Instruction
  insts = before.insts

  abbrev F : ℕ → List Instruction
  F k = function_insts k insts

  each_read : ReadFrom F 0 trees
  each_read j f e = subst (λ n. ReadsAs (F n) f) (none_more j) (h.each j f e) where
    none_more : (n : ℕ) → n ≡ 0 + n
    none_more n = omega arith

  texts_are : functions_in insts ≡ map F (range_with_len 0 (length trees))
  texts_are = functions_are insts ∙ ap (λ n. map F (range_with_len 0 n)) (sym h.count)

  read : AreRead (functions_in insts) trees
  read = subst (λ ts. AreRead ts trees) (sym texts_are) (read_at F 0 trees each_read)

  lines_are : function_lines insts ≡ flat_map listed trees
  lines_are = ap (λ n. flat_map (λ k. normal_function (F k)) (range_with_len 0 n)) (sym h.count) ∙ listed_at F 0 trees each_read

  first_cut : statements before ≡ statements_in (words_of (outside insts ++ joined (functions_in insts)))
  first_cut =
      marks_say_nothing insts ∙ ap (λ is. statements_in (words_of is)) (module_is_cut insts (fits_in_module h.end insts h.laid_out))
      ∙ sym (marks_say_nothing (outside insts ++ joined (functions_in insts)))

  second_cut : statements after ≡ statements_in (words_of (outside insts) ++ flat_map listed trees)
  second_cut =
      ap statements_in norm.lines ∙ statements_append (words_of (staying insts)) (function_lines insts)
      ∙ ap (λ ss. ss ++ statements_in (function_lines insts)) (filtered_says (stays_outside insts) (goes_silently insts) (outside insts))
      ∙ ap (λ ls. statements_in (words_of (outside insts)) ++ statements_in ls) lines_are
      ∙ sym (statements_append (words_of (outside insts)) (flat_map listed trees))

  norm_cut : Distinct (labels_in (statements after)) → AreCut before after (outside insts) (functions_in insts) trees
  norm_cut distinct = record {
    first = first_cut;
    second = second_cut;
    none = none_outside insts;
    read = read;
    labels = labels_distinct insts (labels_once_from insts h.instructions h.once [] insts refl);
    labels_after = distinct;
    called = h.called;
    entered = h.entered;
  }

pub norm_keeps_once : NormKeepsOnce
norm_keeps_once before after trees h norm distinct =
    cut_keeps before after (outside before.insts) (functions_in before.insts) trees (norm_cut before after trees h norm distinct)

-- no label stands more often in the normal form than in the module
pub norm_keeps : NormKeeps
norm_keeps before after trees h norm =
    let insts : List Instruction = before.insts in
    let out : List Statement = statements_in (words_of (outside insts)) in
    let first : statements before ≡ out ++ statements_in (words_of (joined (functions_in insts))) =
    first_cut before after trees h norm ∙ says_append (outside insts) (joined (functions_in insts)) in
    let second : statements after ≡ out ++ statements_in (flat_map listed trees) =
    second_cut before after trees h norm ∙ statements_append (words_of (outside insts)) (flat_map listed trees) in
    let distinct : Distinct (labels_in (statements before)) = labels_distinct insts (labels_once_from insts h.instructions h.once [] insts refl) in
    norm_keeps_once before after trees h norm
    (subst (λ ss. Distinct (labels_in ss)) (sym second)
    (labels_stay_distinct out (functions_in insts) trees (read before after trees h norm) (subst (λ ss. Distinct (labels_in ss)) first distinct)))

-- and by the law over schedules: nothing is left out, and each variable stays
pub norm_finals : NormFinals
norm_finals before after trees h norm d fits ends =
    let means = norm_keeps before after trees h norm in
    modules_law before after (λ s. s) (λ a. false) (λ v. Some v) (λ v u w e g. cc (e, g)) (λ a e. absurd (cc e)) means.size means.accesses d fits ends
