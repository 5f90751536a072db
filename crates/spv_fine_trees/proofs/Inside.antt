-- A function of a module: where its instructions stand, in which function and block.
use Rattle.std.proofs.Common.{◌≡◌, inl, inr, ℕ, ◌+◌, ◌<◌, Bool, true, false, cond, ◌==◌, ◌||◌, List, [], ◌∷◌, ◌++◌, find, length, take, All, Some, None, refl, sym, ap, subst, ◌∙◌, arith}
use Rattle.std.specs.List.{count_by, slice_get}
use Rattle.std.proofs.lemmas.List.Elements.{All-head, All-tail}
use Rattle.std.proofs.lemmas.Option.{slice_get_within}
use Rattle.spv_opcodes.specs.declared.op.TheConstants as op
use Rattle.spv_grammar.specs.Table.{row_of}
use Rattle.spv_module.specs.declared.layout.Place.{Place}
use Rattle.spv_module.specs.declared.layout.Place.TheVariants.{Outside, Head}
use Rattle.spv_module.specs.Code.{is_function, is_line}
use Rattle.spv_module.specs.First.{first}
use Rattle.spv_module.specs.Instruction.{Instruction, opcode}
use Rattle.spv_module.specs.Layout.{behind, group_2}
use Rattle.spv_blocks.specs.Cutting.{is_function_end, rest_of_function}
use Rattle.spv_blocks.proofs.Slices.{take-at}
use Rattle.spv_normal.specs.Lines.{without_marks}
use Rattle.spv_tree.specs.Sound.{is_one_of, is_step}
use Rattle.spv_spelling.specs.Whole.{IsAdmitted, IsText, block_marks, is_in_block}
use Rattle.spv_walk.proofs.Unique.{equal_true, tells, truth_apart}
use Rattle.spv_texts.proofs.Functions.{Fits, FitsSomewhere, behind_first, fits_in_module, marks_front, marks_function}
use Rattle.spv_texts.proofs.Marks.{rest_marks}
use Rattle.spv_availability.specs.Places as places
use Rattle.spv_availability.specs.Places.{function_of, last_label}
use Rattle.spv_fine.proofs.Places.{take_behind, take_front}
use Rattle.spv_fine_trees.specs.Laws.{lines_of}
use Rattle.spv_fine_trees.proofs.Numbered.{FunctionAt, function_at, located, stands_inside}
use Rattle.spv_fine_trees.proofs.Spots.{NoEnds}
use Rattle.spv_fine_trees.proofs.Tidy.{IsIdle, IsTidy, behind_rest, idle_behind, none_begins, rest_again, tidy_rest}
use Rattle.spv_fine_trees.proofs.Unmarked.{IsAt, found_at, last_both, last_unmarked, split_at, unmarked}

-- ---- the layout of the module

fits_behind : (place : Place) (begun : Bool) (xs ys : List Instruction) → Fits place begun (xs ++ ys) → FitsSomewhere ys
fits_behind place begun [] ys fits = record { place = place; begun = begun; fits = fits }
fits_behind place begun (x ∷ xs) ys fits = fits_behind (behind place x) (begun || is_function x) xs ys fits.2

-- ---- the one that is found passes the test

pub found_passes : {X : Type 0} (p : X → Bool) (xs : List X) (x : X) → find p xs ≡ Some x → p x ≡ true
found_passes p [] x e = absurd (cc (e))
found_passes p (y ∷ xs) x e = by (p y) refl e (found_passes p xs x) where
  by : (b : Bool) → p y ≡ b → cond b (Some y) (find p xs) ≡ Some x → (find p xs ≡ Some x → p x ≡ true) → p x ≡ true
  by true h k more = let same : y ≡ x = cc (k) in ap p (sym same) ∙ h
  by false h k more = more k

-- ---- no OpFunctionEnd but the last

prefix_ends : (xs : List Instruction) (last : Instruction) (pre : List Instruction) (i : Instruction) (post : List Instruction)
    → xs ++ last ∷ [] ≡ pre ++ i ∷ post → NoEnds xs → NoEnds pre
prefix_ends xs last [] i post e h = tt
prefix_ends [] last (p ∷ []) i post e h = absurd (cc (e))
prefix_ends [] last (p ∷ q ∷ pre) i post e h = absurd (cc (e))
prefix_ends (x ∷ xs) last (p ∷ pre) i post e h =
    let same : x ≡ p = cc (e) in (ap is_function_end (sym same) ∙ h.0, prefix_ends xs last pre i post (cc (e)) h.1)

both_ends : (xs ys : List Instruction) → NoEnds xs → NoEnds ys → NoEnds (xs ++ ys)
both_ends [] ys h g = g
both_ends (x ∷ xs) ys h g = (h.0, both_ends xs ys h.1 g)

all_ends : (P : Instruction → Type 0) → ((i : Instruction) → P i → is_function_end i ≡ false) → (is : List Instruction) → All P is → NoEnds is
all_ends P h [] a = tt
all_ends P h (i ∷ is) a = (h i (All-head P i is a), all_ends P h is (All-tail P i is a))

abbrev in_block : ℕ → Bool
in_block o =
    o == op.LABEL || (o == op.BRANCH || o == op.BRANCH_CONDITIONAL || o == op.SWITCH || o == op.RETURN || o == op.RETURN_VALUE || o == op.UNREACHABLE)
    || is_step o || is_one_of block_marks o

apart_from : (o p : ℕ) → in_block o ≡ true → in_block p ≡ false → (o == p) ≡ false
apart_from o p is other = elim (tells (o == p)) [
  | inl e ↦ truth_apart (in_block o) is (ap in_block (equal_true o p e) ∙ other)
  | inr e ↦ e
]

block_goes_on : (i : Instruction) → is_in_block i ≡ true → is_function_end i ≡ false
unfolding row_of
block_goes_on i h = apart_from (opcode i) op.FUNCTION_END h refl

module _ (insts : List Instruction) (end k : ℕ) (found : first (group_2 end insts) ≡ None) (within : k < count_by is_function insts)
    (admitted : IsAdmitted (lines_of insts k)) where
  abbrev pub start : FunctionAt insts k
  start = function_at insts k within

  abbrev pub before : List Instruction
  before = start.before

  abbrev pub inner : List Instruction
  inner = rest_of_function start.rest

  abbrev pub those : List Instruction
  those = start.function ∷ inner

  abbrev pub behind_all : List Instruction
  behind_all = behind_rest start.rest

  abbrev pub lines : List Instruction
  lines = lines_of insts k

  lines_are : lines ≡ without_marks those
  lines_are = ap without_marks start.same

  whole : insts ≡ before ++ (those ++ behind_all)
  whole = start.whole ∙ ap (λ z. before ++ start.function ∷ z) (sym (rest_again start.rest))

  fits : Fits Head true (without_marks start.rest)
  fits =
      let parted : without_marks insts ≡ without_marks before ++ start.function ∷ without_marks start.rest =
      ap without_marks start.whole ∙ marks_front before (start.function ∷ start.rest)
      ∙ ap (λ z. without_marks before ++ z) (marks_function start.function start.rest start.begins) in
      behind_first start.function (without_marks start.rest) start.begins
      (fits_behind Outside false (without_marks before) (start.function ∷ without_marks start.rest)
      (subst (Fits Outside false) parted (fits_in_module end insts found)))

  idle : IsIdle behind_all
  idle = idle_behind Head start.rest fits

  pub tidy : IsTidy lines
  tidy =
      subst IsTidy
      (sym (lines_are ∙ marks_function start.function inner start.begins ∙ ap (λ z. start.function ∷ z) (sym (rest_marks start.rest)))) (
        λ t. absurd (no_terminator (opcode start.function) (equal_true (opcode start.function) op.FUNCTION start.begins) t),
        tidy_rest Head (without_marks start.rest) fits,
      )
    where
      no_terminator : (o : ℕ) → o ≡ op.FUNCTION
          → (o == op.BRANCH || o == op.BRANCH_CONDITIONAL || o == op.SWITCH || o == op.RETURN || o == op.RETURN_VALUE || o == op.UNREACHABLE) ≡ true → ⊥
      no_terminator o e h =
          absurd (cc (sym (ap
          (λ x. x == op.BRANCH || x == op.BRANCH_CONDITIONAL || x == op.SWITCH || x == op.RETURN || x == op.RETURN_VALUE || x == op.UNREACHABLE) e) ∙ h))

  -- ---- where an instruction of the function stands

  abbrev pub label_before : ℕ
  label_before = last_label 0 before

  pub record Spot (n : ℕ) (i : Instruction) : Type 0 where
    pub m : ℕ
    pub pre : List Instruction
    pub post : List Instruction
    pub is_at : n ≡ length before + m
    pub get : slice_get those m ≡ Some i
    pub plain : is_line i ≡ false
    pub pre_is : without_marks (take m those) ≡ pre
    pub same : lines ≡ pre ++ i ∷ post
    pub stands : slice_get insts n ≡ Some i
    pub inside : function_of insts n ≡ k + 1
    pub block : places.block_of insts n ≡ last_label label_before (pre ++ i ∷ [])

  block_at : (m : ℕ) (i : Instruction) → slice_get those m ≡ Some i → is_line i ≡ false
      → places.block_of insts (length before + m) ≡ last_label label_before (without_marks (take m those) ++ i ∷ [])
  block_at m i get plain =
      let less = slice_get_within those m i get in
      let e : length before + m + 1 ≡ length before + (m + 1) = omega arith in
      ap (λ z. last_label 0 (take (length before + m + 1) z)) whole ∙ ap (λ j. last_label 0 (take j (before ++ (those ++ behind_all)))) e
      ∙ ap (last_label 0) (take_behind before (those ++ behind_all) (m + 1)) ∙ last_both 0 before (take (m + 1) (those ++ behind_all))
      ∙ ap (last_label label_before) (take_front those behind_all (m + 1) (omega (arith, less)) ∙ take-at those m i get)
      ∙ sym (last_unmarked label_before (take m those ++ i ∷ []))
      ∙ ap (last_label label_before) (marks_front (take m those) (i ∷ []) ∙ ap (λ z. without_marks (take m those) ++ z) (unmarked i [] plain))

  spot_at : (n m : ℕ) (i : Instruction) → n ≡ length before + m → slice_get those m ≡ Some i → is_line i ≡ false → Spot n i
  spot_at n m i e get plain =
      let r = split_at those m i get plain in
      let s = stands_inside insts before start.function inner behind_all k whole start.begins start.count (none_begins start.rest) idle m i get in record {
        m = m;
        pre = without_marks (take m those);
        post = r.0;
        is_at = e;
        get = get;
        plain = plain;
        pre_is = refl;
        same = lines_are ∙ r.1;
        stands = ap (slice_get insts) e ∙ s.0;
        inside = ap (function_of insts) e ∙ s.1;
        block = ap (places.block_of insts) e ∙ block_at m i get plain;
      }

  pub spot_of : (n : ℕ) (i : Instruction) → slice_get insts n ≡ Some i → is_line i ≡ false → function_of insts n ≡ k + 1 → Spot n i
  spot_of n i e plain inside =
      let r = located insts before start.function inner behind_all k whole start.begins start.count (none_begins start.rest) idle n i e plain inside in
      spot_at n r.0 i r.1 r.2 plain

  -- and of one among its lines
  pub record LineSpot (pre : List Instruction) (i : Instruction) : Type 0 where
    pub n : ℕ
    pub spot : Spot n i
    pub pre_same : spot.pre ≡ pre

  pub spot_of_line : (pre : List Instruction) (i : Instruction) (post : List Instruction) → lines ≡ pre ++ i ∷ post → LineSpot pre i
  spot_of_line pre i post e =
      let a : IsAt those pre i = found_at those pre i post (sym lines_are ∙ e) in
      let s = stands_inside insts before start.function inner behind_all k whole start.begins start.count (none_begins start.rest) idle a.at i a.get in record {
        n = length before + a.at;
        spot = record {
          m = a.at;
          pre = pre;
          post = post;
          is_at = refl;
          get = a.get;
          plain = a.plain;
          pre_is = a.before;
          same = e;
          stands = s.0;
          inside = s.1;
          block = block_at a.at i a.get a.plain ∙ ap (λ z. last_label label_before (z ++ i ∷ [])) a.before;
        };
        pre_same = refl;
      }

  -- no OpFunctionEnd stands before one of them
  pub no_ends : (pre : List Instruction) (i : Instruction) (post : List Instruction) → lines ≡ pre ++ i ∷ post → NoEnds pre
  no_ends pre i post e =
      let t : IsText lines = admitted.text in
      prefix_ends (t.function ∷ (t.parameters ++ (t.label ∷ t.blocks))) t.last pre i post (sym t.same ∙ e) (
        ap (λ o. o == op.FUNCTION_END) t.begins,
        both_ends t.parameters (t.label ∷ t.blocks)
            (all_ends (λ j. opcode j ≡ op.FUNCTION_PARAMETER) (λ j h. ap (λ o. o == op.FUNCTION_END) h) t.parameters t.takes) (
              ap (λ o. o == op.FUNCTION_END) (equal_true (opcode t.label) op.LABEL t.first),
              all_ends (λ j. is_in_block j ≡ true) block_goes_on t.blocks t.inside,
            ),
      )
