-- The normal form of a module that breaks no rule on instructions and layout breaks none.
use Rattle.std.proofs.Common.{◌≡◌, ℕ, zero, suc, ◌+◌, ◌<◌, ◌≤◌, ◌^◌, max, Bool, true, false, cond, List, [], ◌∷◌, ◌++◌, length, Option, Some, None, refl, sym, ap, subst, ◌∙◌, arith}
use Rattle.std.specs.List.{AllByRecursion, count_by, slice_get, slice_index}
use Rattle.spv_base.specs.declared.fault.Refusal.{Refusal}
use Rattle.spv_base.specs.declared.header.Header.{Header}
use Rattle.spv_grammar.specs.Roles.{names_id}
use Rattle.spv_module.specs.Broken.{group_1}
use Rattle.spv_module.specs.Code.{Code, code_of, is_function, spelling}
use Rattle.spv_module.specs.First.{first, first_group}
use Rattle.spv_module.specs.Instruction.{Instruction, instruction_rules}
use Rattle.spv_module.specs.Layout.{group_2}
use Rattle.spv_bound.specs.Bound.{bound_of_ids, greatest, named_ids, words_with}
use Rattle.spv_blocks.specs.Cutting.{function_insts}
use Rattle.spv_bodies.specs.Bodies.{Function}
use Rattle.spv_normal.specs.Lines.{without_marks}
use Rattle.spv_normal.specs.Normal.{normal_function}
use Rattle.spv_tree.specs.declared.body.Body.{Body}
use Rattle.spv_tree.specs.Tree.{body_of, words_of}
use Rattle.spv_machine.proofs.Spelling.{spelled_again}
use Rattle.spv_functions.specs.Functions.{IsTree, is_pointer}
use Rattle.spv_norm.specs.Norm.{IsNorm, function_lines, norm_lines, outside, stays_outside, staying}
use Rattle.spv_norm_declared.specs.Laws.{AreUnbroken, IsCutAgain, IsWhole, NormIsCutAgain, NormIsDecoded, NormIsLaidOut, NormLinesAreInstructions}
use Rattle.spv_norm_declared.proofs.Instructions.{Are, IsUnbroken, LinesAre, each_instruction, greatest_below, tightened}
use Rattle.spv_norm_declared.proofs.FunctionLines.{all_both, all_filter, all_of_function, function_fine, functions_have}
use Rattle.spv_norm_declared.proofs.CutAgain.{IsRead, counted_of, group_2_none, group_none, is_read}
use Rattle.spv_norm_declared.proofs.Walks.{behind_first, function_walks, opens}
use Rattle.spv_norm_declared.proofs.LaidOut.{AreBare, IsFunction, LaysFully, norm_bare, norm_lays, without_none}
use Rattle.spv_norm_declared.proofs.Laying.{laid_out}

-- ---- instructions below their own bound

greatest_append : (xs ys : List ℕ) → greatest (xs ++ ys) ≡ max (greatest xs) (greatest ys)
greatest_append [] ys = zero_max (greatest ys)
  where
    zero_max : (n : ℕ) → n ≡ max 0 n
    zero_max n = omega arith
greatest_append (x ∷ xs) ys = ap (max x) (greatest_append xs ys) ∙ max_three x (greatest xs) (greatest ys)
  where
    max_three : (x y z : ℕ) → max x (max y z) ≡ max (max x y) z
    max_three x y z = omega arith

module _ (low high : ℕ) where
  left_below : (m n : ℕ) → max m n < high → m < high
  left_below m n h = omega arith

  right_below : (m n : ℕ) → max m n < high → n < high
  right_below m n h = omega arith

  both_below : (m n : ℕ) → m < low → n < low → max m n < low
  both_below m n h g = omega arith

  tight : (is : List Instruction) → Are low is → greatest (named_ids is) < high → Are high is
  tight [] h lt = tt
  tight (i ∷ is) h lt =
      let parted : max (greatest (words_with names_id i)) (greatest (named_ids is)) < high =
      subst (λ n. n < high) (greatest_append (words_with names_id i) (named_ids is)) lt in (
        record {
          counted = h.0.counted;
          rules = tightened low high i h.0.rules
              (left_below (greatest (words_with names_id i)) (greatest (named_ids is)) parted);
        },
        tight is h.1 (right_below (greatest (words_with names_id i)) (greatest (named_ids is)) parted),
      )

  all_below : (is : List Instruction) → 0 < low → Are low is → greatest (named_ids is) < low
  all_below [] some h = some
  all_below (i ∷ is) some h =
      subst (λ n. n < low) (sym (greatest_append (words_with names_id i) (named_ids is)))
      (both_below (greatest (words_with names_id i)) (greatest (named_ids is)) (greatest_below low i some h.0.rules) (all_below is some h.1))

pub own_bound : (low : ℕ) (is : List Instruction) → Are low is → Are (bound_of_ids is) is
unfolding bound_of_ids
own_bound low is h = tight low (greatest (named_ids is) + 1) is h (omega arith)

pub bound_some : (is : List Instruction) → 0 < bound_of_ids is
unfolding bound_of_ids
bound_some is = omega arith

pub bound_low : (low : ℕ) (is : List Instruction) → 0 < low → Are low is → bound_of_ids is ≤ low
unfolding bound_of_ids
bound_low low is some h = let below = all_below low low is some h in omega (arith, below)

-- ---- the lines

lines_of : (bound : ℕ) (is : List Instruction) → Are bound is → LinesAre bound (words_of is)
lines_of bound [] h = tt
lines_of bound (i ∷ is) h = (h.0, lines_of bound is h.1)

of_lines : (bound : ℕ) (is : List Instruction) → LinesAre bound (words_of is) → Are bound is
of_lines bound [] h = tt
of_lines bound (i ∷ is) h = (h.0, of_lines bound is h.1)

pub all_outside : (P : Instruction → Type 0) (is : List Instruction) → AllByRecursion P is → AllByRecursion P (outside is)
all_outside P [] h = tt
all_outside P (i ∷ is) h = by (is_function i) (all_outside P is h.1)
  where
    by : (b : Bool) → AllByRecursion P (outside is) → AllByRecursion P (cond b [] (i ∷ outside is))
    by true more = tt
    by false more = (h.0, more)

body_there : (bodies : List Body) (k : ℕ) → k < length bodies → (body : Body) × (slice_get bodies k ≡ Some body)
body_there [] k h = absurd (omega arith)
body_there (b ∷ bs) zero h = (b, refl)
body_there (b ∷ bs) (suc k) h = body_there bs k (omega arith)

module _ (words : List ℕ) (bodies : List Body) (whole : IsWhole words bodies) where
  abbrev insts : List Instruction
  insts = (code_of words).insts

  abbrev low : ℕ
  low = slice_index words 3

  read : IsRead words
  read = is_read words whole.decoded

  abbrev F : ℕ → List (List ℕ)
  F k = normal_function (function_insts k insts)

  pub tree : (j : ℕ) → j < count_by is_function insts → (body : Body) × IsTree (is_pointer insts) (function_insts j insts) body
  tree j lt =
      let at = body_there bodies j (subst (λ n. j < n) (sym whole.count) lt) in
      (at.0, whole.each j at.0 at.1)

  pub each_fine : (j : ℕ) → j < count_by is_function insts → LinesAre low (F (0 + j))
  each_fine j lt =
      let t = tree j lt in
      let s = t.1.parsed.spelled in
      subst (λ n. LinesAre low (F n)) (none_more j)
      (function_fine low (function_insts j insts) s.stays (body_of t.0) s.admitted s.spells (all_of_function (λ i. IsUnbroken low i.words) insts j read.are))
    where
      none_more : (n : ℕ) → n ≡ 0 + n
      none_more n = omega arith

  norm_fine : LinesAre low (norm_lines insts)
  norm_fine =
      all_both (IsUnbroken low) (words_of (staying insts)) (function_lines insts)
      (lines_of low (staying insts) (all_filter (λ i. IsUnbroken low i.words) (stays_outside insts) (outside insts)
      (all_outside (λ i. IsUnbroken low i.words) insts read.are)))
      (functions_have (IsUnbroken low) F 0 (count_by is_function insts) each_fine)

  each_function : (j : ℕ) → j < count_by is_function insts → IsFunction (F (0 + j))
  each_function j lt =
      let t = tree j lt in
      let s = t.1.parsed.spelled in
      let f : Function = body_of t.0 in
      let o = opens (without_marks (function_insts j insts)) s.stays f s.admitted s.spells in
      subst (λ n. IsFunction (F n)) (none_more j)
      (record { function = f.function; rest = behind_first f; same = sym t.1.normal; begins = o.function; walks = function_walks f t.1.sound o })
    where
      none_more : (n : ℕ) → n ≡ 0 + n
      none_more n = omega arith

  lays : LaysFully (norm_lines insts)
  lays = norm_lays (length words) insts (group_2_none words whole.decoded) F each_function

  bare : AreBare (norm_lines insts)
  bare = norm_bare insts F each_function

  pub again_laid_out : (end : ℕ) (again : List Instruction) → words_of again ≡ norm_lines insts → first (group_2 end again) ≡ None
  again_laid_out end again same =
      let l : LaysFully (words_of again) = subst LaysFully (sym same) lays in
      laid_out end again (without_none again (subst AreBare (sym same) bare)) l.lays l.all l.out

  module _ (norm : Code) (is : IsNorm (code_of words) norm) where
    abbrev bound : ℕ
    bound = bound_of_ids norm.insts

    norm_are : Are low norm.insts
    norm_are = of_lines low norm.insts (subst (LinesAre low) (sym is.lines) norm_fine)

    bound_is : norm.header.bound ≡ bound
    bound_is = ap (λ (h : Header). h.bound) is.header

    own : Are norm.header.bound norm.insts
    own = subst (λ n. Are n norm.insts) (sym bound_is) (own_bound low norm.insts norm_are)

    small : norm.header.bound ≤ 4194303
    small = let less = bound_low low norm.insts read.some norm_are in omega (arith, less, bound_is, read.low)

    some : 0 < norm.header.bound
    some = let above = bound_some norm.insts in omega (arith, above, bound_is)

    rules_of : (b : ℕ) (xs : List Instruction) → Are b xs → AllByRecursion (λ i. instruction_rules b i.words ≡ []) xs
    rules_of b [] h = tt
    rules_of b (i ∷ xs) h = (h.0.rules, rules_of b xs h.1)

    pub are_unbroken : AreUnbroken norm
    are_unbroken = record {
      instructions = each_instruction norm.header.bound norm.insts (low_enough norm.header.bound small) own;
      rules = rules_of norm.header.bound norm.insts own;
    }
      where
        low_enough : (n : ℕ) → n ≤ 4194303 → n ≤ 2 ^ 32
        low_enough n h = omega arith

    pub cut_again : IsCutAgain norm
    cut_again = record {
      header = refl;
      lines = spelled_again norm (counted_of norm.header.bound norm.insts own);
      unbroken =
          group_none norm (ap (λ (h : Header). h.version) is.header ∙ read.version) some small (ap (λ (h : Header). h.schema) is.header ∙ read.schema) own;
    }

-- ---- the laws

pub norm_lines_are_instructions : NormLinesAreInstructions
norm_lines_are_instructions words bodies norm whole is = are_unbroken words bodies whole norm is

pub norm_is_cut_again : NormIsCutAgain
norm_is_cut_again words bodies norm whole is = cut_again words bodies whole norm is

pub norm_is_laid_out : NormIsLaidOut
norm_is_laid_out words bodies norm whole is end again same = again_laid_out words bodies whole end again (same ∙ is.lines)

nothing_found : (a b : Option Refusal) → a ≡ None → b ≡ None → first_group a b ≡ None
nothing_found a b h g = ap (λ (o : Option Refusal). first_group o b) h ∙ g

pub norm_is_decoded : NormIsDecoded
norm_is_decoded words bodies norm whole is =
    let cut = cut_again words bodies whole norm is in
    nothing_found (first (group_1 (spelling norm))) (first (group_2 (length (spelling norm)) (code_of (spelling norm)).insts)) cut.unbroken
    (norm_is_laid_out words bodies norm whole is (length (spelling norm)) (code_of (spelling norm)).insts cut.lines)
