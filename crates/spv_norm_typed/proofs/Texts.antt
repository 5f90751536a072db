-- A function in which no instruction breaks a rule on bodies: its parameters, and what stands in its blocks.
use Rattle.std.proofs.Common.{◌≡◌, inl, inr, ℕ, suc, Bool, true, false, cond, ◌==◌, ◌||◌, List, [], ◌∷◌, ◌++◌, map, take, drop, Option, None, Some, refl, sym, ap, ap₂, subst, ◌∙◌, append_assoc, All}
use Rattle.std.specs.Prelude.{slice_get, slice_index}
use Rattle.std.specs.List.{AllByRecursion, fold}
use Rattle.std.proofs.lemmas.List.Elements.{All-head, All-tail}
use Rattle.spv_opcodes.specs.declared.op.TheConstants as op
use Rattle.spv_grammar.specs.Table.{row_of}
use Rattle.spv_module.specs.Code.{is_function}
use Rattle.spv_module.specs.Instruction.{Instruction, opcode}
use Rattle.spv_blocks.specs.Cutting.{block_of, blocks_of, is_label_mark, word}
use Rattle.spv_walk.proofs.Unique.{both_fail, equal_false, equal_true, false_equal, tells, true_equal, truth_apart}
use Rattle.spv_bodies.specs.Listing.{instruction}
use Rattle.spv_normal.specs.Lines.{before_labels, behind_label, line}
use Rattle.spv_normal.specs.Order.{first_label}
use Rattle.spv_tree.specs.Sound.{is_one_of, is_step}
use Rattle.spv_tree.specs.Tree.{words_of}
use Rattle.spv_spelling.specs.Whole.{IsText, block_marks, is_in_block}
use Rattle.spv_usage.specs.declared.stages.Stage.{Stage}
use Rattle.spv_usage.specs.declared.stages.Stage.TheVariants.{Further, Head, Opening}
use Rattle.spv_signatures.specs.Contexts.{result_type_in, types_in}
use Rattle.spv_norm_typed.proofs.Fits.{Fits, function_moved, moved, next_moved, variable_late}
use Rattle.spv_norm_typed.proofs.Placed.{Begins, still_end}
use Rattle.spv_norm_typed.proofs.Shape.{IsInner, Opens, Still}
use Rattle.spv_norm_typed.proofs.Walked.{FitsAt, Walked, Where, behind, behind_first, behind_function, behind_inner, behind_parameter, further_on, opening_over, stage_variable, walked_back, walked_front, within}

-- ---- what stands in blocks

abbrev in_block : ℕ → Bool
in_block o =
    o == op.LABEL
    || (o == op.BRANCH || o == op.BRANCH_CONDITIONAL || o == op.SWITCH || o == op.RETURN || o == op.RETURN_VALUE || o == op.UNREACHABLE) || is_step o
    || is_one_of block_marks o

apart_from : (test : ℕ → Bool) (o p : ℕ) → test o ≡ true → test p ≡ false → (o == p) ≡ false
apart_from test o p is other = elim (tells (o == p)) [
  | inl e ↦ truth_apart (test o) is (ap test (equal_true o p e) ∙ other)
  | inr e ↦ e
]

block_inner : (i : Instruction) → is_in_block i ≡ true → IsInner (opcode i)
unfolding row_of
block_inner i h = record {
  function = apart_from in_block (opcode i) op.FUNCTION h refl;
  parameter = apart_from in_block (opcode i) op.FUNCTION_PARAMETER h refl;
  mark = apart_from in_block (opcode i) op.LINE h refl;
  end_mark = apart_from in_block (opcode i) op.NO_LINE h refl;
}

abbrev pub Inners : List Instruction → Type 0
Inners is = AllByRecursion (λ i. IsInner (opcode i)) is

from_all : (P Q : Instruction → Type 0) (is : List Instruction) → ((i : Instruction) → P i → Q i) → All P is → AllByRecursion Q is
from_all P Q [] h a = tt
from_all P Q (i ∷ is) h a = (h i (All-head P i is a), from_all P Q is h (All-tail P i is a))

all_both : {A : Type 0} (P : A → Type 0) (xs ys : List A) → AllByRecursion P xs → AllByRecursion P ys → AllByRecursion P (xs ++ ys)
all_both P [] ys h g = g
all_both P (x ∷ xs) ys h g = (h.0, all_both P xs ys h.1 g)

-- ---- in a function, behind some parameters

module _ (m : List Instruction) (f : Instruction) (n : ℕ) where
  abbrev type : ℕ
  type = slice_index f.words 1

  abbrev next : Option ℕ
  next = slice_get (types_in m (Some f)) n

  abbrev InBlock : Instruction → Type 0
  InBlock i = Fits m Opening type None i

  fits_there : (s : Stage) (i : Instruction) → IsInner (opcode i) → FitsAt m (within s f n) i → Fits m s type next i
  fits_there s i h fits = fits refl (both_fail (opcode i == op.LINE) (opcode i == op.NO_LINE) h.mark h.end_mark)

  none_late : (i : Instruction) → Fits m Further type next i → (opcode i == op.VARIABLE) ≡ false
  none_late i fits = elim (tells (opcode i == op.VARIABLE)) [
    | inl v ↦ truth_apart (Rattle.spv_usage.specs.Storage.storage_fits m Further i) fits.storage (variable_late m i v)
    | inr v ↦ v
  ]

  pub record InFurther (is : List Instruction) : Type 0 where
    pub still : Still opcode is
    pub fit : AllByRecursion InBlock is

  further : (is : List Instruction) → Inners is → Walked m (within Further f n) is → InFurther is
  further [] h w = record { still = tt; fit = tt }
  further (i ∷ is) h w =
      let fits = fits_there Further i h.0 w.0 in
      let v = none_late i fits in
      let later = further is h.1 (subst (λ z. Walked m z is) (behind_inner Further f n i h.0 ∙ ap (λ s. within s f n) (further_on i h.0 v)) w.1) in
      record {
        still = (record { inner = h.0; variable = v }, later.still);
        fit = (moved m i Further Opening type next None v h.0.parameter fits, later.fit);
      }

  pub record InOpening (is : List Instruction) : Type 0 where
    pub opens : Opens opcode is
    pub fit : AllByRecursion InBlock is

  opening : (is : List Instruction) → Inners is → Walked m (within Opening f n) is → InOpening is
  opening [] h w = record { opens = tt; fit = tt }
  opening (i ∷ is) h w = by (opcode i == op.VARIABLE) refl (λ g. opening is h.1 g)
    where
      fits : InBlock i
      fits = next_moved m i Opening type next None h.0.parameter (fits_there Opening i h.0 w.0)

      by : (b : Bool) → (opcode i == op.VARIABLE) ≡ b → (Walked m (within Opening f n) is → InOpening is) → InOpening (i ∷ is)
      by true v more =
          let later = more (subst (λ z. Walked m z is) (behind_inner Opening f n i h.0 ∙ ap (λ s. within s f n) (stage_variable Opening i v)) w.1) in
          record { opens = (h.0, inl (v, later.opens)); fit = (fits, later.fit) }
      by false v more =
          let later = further is h.1 (subst (λ z. Walked m z is) (behind_inner Opening f n i h.0 ∙ ap (λ s. within s f n) (opening_over i h.0 v)) w.1) in
          record { opens = (h.0, inr (v, later.still)); fit = (fits, later.fit) }

-- ---- its front

abbrev pub IsParameter : Instruction → Type 0
IsParameter i = opcode i ≡ op.FUNCTION_PARAMETER

pub behind_parameters : (f : Instruction) (n : ℕ) (ps : List Instruction) → AllByRecursion IsParameter ps
    → (k : ℕ) × (fold behind (within Head f n) ps ≡ within Head f k)
behind_parameters f n [] h = (n, refl)
behind_parameters f n (p ∷ ps) h =
    let later = behind_parameters f (suc n) ps h.1 in
    (later.0, ap (λ w. fold behind w ps) (behind_parameter f n p h.0) ∙ later.1)

abbrev IsFront : Instruction → Type 0
IsFront i = (is_label_mark i ≡ false) × ((opcode i == op.BRANCH_CONDITIONAL) ≡ false)

blocks_behind : (xs ys : List Instruction) → AllByRecursion IsFront xs → blocks_of (xs ++ ys) ≡ blocks_of ys
blocks_behind [] ys h = refl
blocks_behind (x ∷ xs) ys h =
    ap (λ (b : Bool). cond b (block_of x (xs ++ ys) ∷ blocks_of (xs ++ ys)) (blocks_of (xs ++ ys))) h.0.0 ∙ blocks_behind xs ys h.1

label_behind_front : (xs ys : List Instruction) (l : ℕ) → AllByRecursion IsFront xs → behind_label (xs ++ ys) l ≡ behind_label ys l
label_behind_front [] ys l h = refl
label_behind_front (x ∷ xs) ys l h =
    ap (λ (b : Bool). cond (cond b (word x 1 == l) false) (xs ++ ys) (behind_label (xs ++ ys) l)) h.0.0 ∙ label_behind_front xs ys l h.1

front_lines : (xs : List Instruction) (label : Instruction) (ys : List Instruction) → AllByRecursion IsFront xs → is_label_mark label ≡ true
    → map line (before_labels (xs ++ label ∷ ys)) ≡ words_of xs
front_lines [] label ys h l = ap (λ (b : Bool). map line (cond b [] (label ∷ before_labels ys))) l
front_lines (x ∷ xs) label ys h l =
    ap (λ (b : Bool). map line (cond b [] (x ∷ before_labels (xs ++ label ∷ ys)))) h.0.0
    ∙ ap₂ (λ z zs. z ∷ zs) (ap (λ (b : Bool). cond b (instruction op.BRANCH_CONDITIONAL (take 3 (drop 1 x.words))) x.words) h.0.1)
    (front_lines xs label ys h.1 l)

-- ---- the whole function

-- unless it is a parameter
abbrev pub FitsUnless : (m : List Instruction) (type : ℕ) → Instruction → Type 0
FitsUnless m type i = (opcode i == op.FUNCTION_PARAMETER) ≡ false → Fits m Opening type None i

pub record HasParts (m is : List Instruction) (t : IsText is) : Type 0 where
  pub at : Where
  pub function : FitsAt m at t.function
  pub takes : AllByRecursion IsParameter t.parameters
  pub parameters : Walked m (within Head t.function 0) t.parameters
  pub each : AllByRecursion (FitsUnless m (slice_index t.function.words 1)) is
  pub begins : Begins is (t.blocks ++ t.last ∷ [])
  pub front : map line (before_labels is) ≡ words_of (t.function ∷ t.parameters)

module _ (m is : List Instruction) (t : IsText is) (w : Where) (walked : Walked m w is) where
  abbrev inner : List Instruction
  inner = t.blocks ++ t.last ∷ []

  abbrev fronts : List Instruction
  fronts = t.function ∷ t.parameters

  parted : is ≡ fronts ++ t.label ∷ inner
  parted = t.same ∙ ap (λ z. t.function ∷ z) (append_assoc t.parameters (t.label ∷ t.blocks) (t.last ∷ []))

  cut : Walked m w (fronts ++ t.label ∷ inner)
  cut = subst (Walked m w) parted walked

  takes : AllByRecursion IsParameter t.parameters
  takes = from_all IsParameter IsParameter t.parameters (λ i e. e) t.takes

  behind_first_one : Walked m (within Head t.function 0) (t.parameters ++ t.label ∷ inner)
  behind_first_one = subst (λ z. Walked m z (t.parameters ++ t.label ∷ inner)) (behind_function w t.function t.begins) cut.1

  count : ℕ
  count = (behind_parameters t.function 0 t.parameters takes).0

  blocks_walked : Walked m (within Head t.function count) (t.label ∷ inner)
  unfolding count
  blocks_walked =
      subst (λ z. Walked m z (t.label ∷ inner)) (behind_parameters t.function 0 t.parameters takes).1
      (walked_back m (within Head t.function 0) t.parameters (t.label ∷ inner) behind_first_one)

  label_is : opcode t.label ≡ op.LABEL
  label_is = equal_true (opcode t.label) op.LABEL t.first

  inners : Inners inner
  inners =
      all_both (λ i. IsInner (opcode i)) t.blocks (t.last ∷ []) (from_all (λ i. is_in_block i ≡ true) (λ i. IsInner (opcode i)) t.blocks block_inner t.inside)
      (subst IsInner (sym t.ends) still_end.inner, tt)

  in_blocks : InOpening m t.function count inner
  in_blocks =
      opening m t.function count inner inners
      (subst (λ z. Walked m z inner) (behind_first t.function count t.label label_is) blocks_walked.1)

  are_fronts : AllByRecursion IsFront fronts
  are_fronts = (
    (ap (λ o. o == op.LABEL) t.begins, ap (λ o. o == op.BRANCH_CONDITIONAL) t.begins),
    from_all IsParameter IsFront t.parameters (λ i e. (ap (λ o. o == op.LABEL) e, ap (λ o. o == op.BRANCH_CONDITIONAL) e)) t.takes,
  )

  abbrev type_of_text : ℕ
  type_of_text = slice_index t.function.words 1

  first_is : first_label (blocks_of is) ≡ word t.label 1
  first_is =
      ap (λ z. first_label (blocks_of z)) parted ∙ ap first_label (blocks_behind fronts (t.label ∷ inner) are_fronts)
      ∙ ap (λ (b : Bool). first_label (cond b (block_of t.label inner ∷ blocks_of inner) (blocks_of inner))) t.first

  behind_is : (l : ℕ) → behind_label is l ≡ cond (word t.label 1 == l) inner (behind_label inner l)
  behind_is l =
      ap (λ z. behind_label z l) parted ∙ label_behind_front fronts (t.label ∷ inner) l are_fronts
      ∙ ap (λ (b : Bool). cond (cond b (word t.label 1 == l) false) inner (behind_label inner l)) t.first

  begins : Begins is inner
  begins = record {
    first =
        behind_is (first_label (blocks_of is))
        ∙ ap (λ (b : Bool). cond b inner (behind_label inner (first_label (blocks_of is))))
        (true_equal (word t.label 1) (first_label (blocks_of is)) (sym first_is));
    other =
        λ l e. behind_is l
        ∙ ap (λ (b : Bool). cond b inner (behind_label inner l))
        (false_equal (word t.label 1) l (λ same. equal_false l (first_label (blocks_of is)) e (sym same ∙ sym first_is)));
    opens = in_blocks.opens;
  }

  function_fits : FitsUnless m type_of_text t.function
  function_fits plain =
      let start = cut.0 (right (w.inside)) (ap (λ o. o == op.LINE || o == op.NO_LINE) t.begins) in
      function_moved m t.function w.stage Opening (result_type_in w.function) type_of_text (slice_get (types_in m w.function) w.count) None t.begins
      start
    where
      right : (b : Bool) → (b || is_function t.function) ≡ true
      right true = refl
      right false = ap (λ o. o == op.FUNCTION) t.begins

  label_fits : Fits m Opening type_of_text None t.label
  label_fits =
      moved m t.label Head Opening type_of_text (slice_get (types_in m (Some t.function)) count) None (ap (λ o. o == op.VARIABLE) label_is)
      (ap (λ o. o == op.FUNCTION_PARAMETER) label_is)
      (blocks_walked.0 refl (ap (λ o. o == op.LINE || o == op.NO_LINE) label_is))

  not_asked : (i : Instruction) → IsParameter i → FitsUnless m type_of_text i
  not_asked i e plain = truth_apart (opcode i == op.FUNCTION_PARAMETER) (ap (λ o. o == op.FUNCTION_PARAMETER) e) plain

  anyway : (xs : List Instruction) → AllByRecursion (λ i. Fits m Opening type_of_text None i) xs → AllByRecursion (FitsUnless m type_of_text) xs
  anyway [] h = tt
  anyway (x ∷ xs) h = (λ plain. h.0, anyway xs h.1)

  pub has_parts : HasParts m is t
  has_parts = record {
    at = w;
    function = cut.0;
    takes = takes;
    parameters = walked_front m (within Head t.function 0) t.parameters (t.label ∷ inner) behind_first_one;
    each =
        subst (AllByRecursion (FitsUnless m type_of_text)) (sym parted) (
          function_fits,
          all_both (FitsUnless m type_of_text) t.parameters (t.label ∷ inner) (from_all IsParameter (FitsUnless m type_of_text) t.parameters not_asked t.takes)
              (λ plain. label_fits, anyway inner in_blocks.fit),
        );
    begins = begins;
    front = ap (λ z. map line (before_labels z)) parted ∙ front_lines fronts t.label inner are_fronts t.first;
  }
