-- The same is said outside functions, and what functions say is nothing of a module as a whole: so decorations and meanings are the same.
use Rattle.std.proofs.Common.{◌≡◌, ℕ, zero, suc, ◌+◌, ◌<◌, true, false, cond, ◌==◌, ◌&&◌, List, [], ◌∷◌, ◌++◌, map, Some, None, refl, sym, ap, ◌∙◌, subst, arith}
use Rattle.std.specs.Prelude.{count_by}
use Rattle.std.specs.List.{AllByRecursion, range_with_len}
use Rattle.spv_module.specs.Code.{is_function}
use Rattle.spv_module.specs.First.{first}
use Rattle.spv_module.specs.Instruction.{Instruction}
use Rattle.spv_module.specs.Layout.{group_2}
use Rattle.spv_meaning.specs.Constants.{decorated, member_decorated, table_of}
use Rattle.spv_meaning.specs.Statements as says
use Rattle.spv_meaning.specs.Statements.{Statement, is_silent, is_silent_opcode, statements_in}
use Rattle.spv_declarations.specs.Declarations.{says as said_by}
use Rattle.spv_declarations.specs.Laws.{meanings}
use Rattle.spv_declarations.proofs.Declares.{AllOf}
use Rattle.spv_blocks.specs.Cutting.{function_insts}
use Rattle.spv_machine.proofs.Silence.{filtered_says}
use Rattle.spv_normal.specs.Lines.{without_marks}
use Rattle.spv_tree.specs.Tree.{words_of}
use Rattle.spv_spelling.specs.Whole.{AreInstructions, IsText}
use Rattle.spv_texts.proofs.Functions.{fits_in_module, laid_out}
use Rattle.spv_standing.proofs.Lines.{marks_say_nothing, says_append}
use Rattle.spv_norm.specs.Norm.{outside, stays_outside, staying}
use Rattle.spv_norm_means.specs.Laws.{SameOutside}
use Rattle.spv_norm_means.proofs.InOrder.{functions_are, functions_in, joined, module_is_cut}
use Rattle.spv_norm_means.proofs.Inner.{text_says, within_inner}
use Rattle.spv_norm_means.proofs.Outside.{AllInner, IsBegun, same_outside}
use Rattle.spv_norm_alike.proofs.Lists.{going, of_going}

abbrev S : List Instruction → List Statement
S is = statements_in (words_of is)

-- ---- functions of a module, in order

abbrev pub IsMarkedText : List Instruction → Type 0
IsMarkedText t = IsText (without_marks t)

-- what holds of each number; by induction on how many there are
pub mapped_all : {A : Type 0} (P : A → Type 0) (F : ℕ → A) (a n : ℕ) → ((j : ℕ) → j < n → P (F (a + j))) → AllByRecursion P (map F (range_with_len a n))
mapped_all P F a zero h = tt
mapped_all P F a (suc n) h = (
  subst (λ k. P (F k)) (at_once a) (h 0 (omega arith)),
  mapped_all P F (a + 1) n (λ j lt. subst (λ k. P (F k)) (one_later a j) (h (suc j) (omega (arith, lt)))),
)
  where
    at_once : (m : ℕ) → m + 0 ≡ m
    at_once m = omega arith

    one_later : (m k : ℕ) → m + suc k ≡ (m + 1) + k
    one_later m k = omega arith

pub texts_of : (end : ℕ) (insts : List Instruction) → AreInstructions insts → first (group_2 end insts) ≡ None
    → AllByRecursion IsMarkedText (functions_in insts)
texts_of end insts formed laid =
    subst (AllByRecursion IsMarkedText) (sym (functions_are insts))
    (mapped_all IsMarkedText (λ k. function_insts k insts) 0 (count_by is_function insts)
    (λ j lt. subst (λ n. IsMarkedText (function_insts n insts)) (none_more j) (laid_out end j insts formed laid lt)))
  where
    none_more : (n : ℕ) → n ≡ 0 + n
    none_more n = omega arith

-- ---- what functions say

no_statement : statements_in [] ≡ []
unfolding statements_in
no_statement = refl

inner_both : (a b : List Statement) → AllInner a → AllInner b → AllInner (a ++ b)
inner_both [] b h g = g
inner_both (s ∷ a) b h g = (h.0, inner_both a b h.1 g)

text_inner : (t : List Instruction) → IsMarkedText t → AllInner (S t)
text_inner t h =
    let s = text_says (without_marks t) h in
    subst AllInner (sym (marks_say_nothing t ∙ s.same)) (refl, within_inner s.rest s.within)

texts_inner : (ts : List (List Instruction)) → AllByRecursion IsMarkedText ts → AllInner (S (joined ts))
texts_inner [] h = subst AllInner (sym no_statement) tt
texts_inner (t ∷ ts) h =
    subst AllInner (sym (says_append t (joined ts))) (inner_both (S t) (S (joined ts)) (text_inner t h.0) (texts_inner ts h.1))

texts_begin : (ts : List (List Instruction)) → AllByRecursion IsMarkedText ts → IsBegun (S (joined ts))
texts_begin [] h = subst IsBegun (sym no_statement) tt
texts_begin (t ∷ ts) h =
    let s = text_says (without_marks t) h.0 in
    subst IsBegun (sym (says_append t (joined ts) ∙ ap (λ z. z ++ S (joined ts)) (marks_say_nothing t ∙ s.same))) tt

-- ---- what a module says

pub record SaysOutside (insts : List Instruction) : Type 0 where
  pub inner : List Statement
  pub same : said_by insts ≡ statements_in (words_of (outside insts)) ++ inner
  pub all : AllInner inner
  pub begun : IsBegun inner

pub says_outside : (end : ℕ) (insts : List Instruction) → AreInstructions insts → first (group_2 end insts) ≡ None → SaysOutside insts
says_outside end insts formed laid =
    let texts = texts_of end insts formed laid in
    record {
      inner = S (joined (functions_in insts));
      same =
          marks_say_nothing insts ∙ ap S (module_is_cut insts (fits_in_module end insts laid))
          ∙ sym (marks_say_nothing (outside insts ++ joined (functions_in insts))) ∙ says_append (outside insts) (joined (functions_in insts));
      all = texts_inner (functions_in insts) texts;
      begun = texts_begin (functions_in insts) texts;
    }

silent_going : AllOf (λ o. is_silent_opcode o ≡ true) going
silent_going = (refl, (refl, (refl, (refl, (refl, tt)))))

goes_silently : (insts : List Instruction) (i : Instruction) → stays_outside insts i ≡ false → is_silent i ≡ true
goes_silently insts i h = of_going (λ o. is_silent_opcode o ≡ true) silent_going insts i h

-- ---- members: by recursion on the statements

member_before : (id number kind : ℕ) (xs ys : List Statement) → AllInner ys → member_decorated (xs ++ ys) id number kind ≡ member_decorated xs id number kind
member_before id number kind [] [] h = refl
member_before id number kind [] (says.MemberDecorate target member what literals ∷ ys) h = absurd (cc)
member_before id number kind [] (other ∷ ys) h = member_before id number kind [] ys h.1
member_before id number kind (says.MemberDecorate target member what literals ∷ xs) ys h =
    ap (λ o. cond (target == id && (member == number && what == kind)) (Some literals) o) (member_before id number kind xs ys h)
member_before id number kind (other ∷ xs) ys h = member_before id number kind xs ys h

-- ---- a module and its normal form

pub record SaysAlike (insts again : List Instruction) : Type 0 where
  pub decorations : (id d : ℕ) → decorated (said_by again) id d ≡ decorated (said_by insts) id d
  pub members : (id member d : ℕ) → member_decorated (said_by again) id member d ≡ member_decorated (said_by insts) id member d
  pub tables : meanings again ≡ meanings insts

pub says_alike : (insts again : List Instruction) → SaysOutside insts → SaysOutside again → words_of (outside again) ≡ words_of (staying insts)
    → SaysAlike insts again
says_alike insts again a b same =
    let out : List Statement = statements_in (words_of (outside insts)) in
    let second : said_by again ≡ out ++ b.inner =
    b.same ∙ ap (λ z. z ++ b.inner) (ap statements_in same ∙ filtered_says (stays_outside insts) (goes_silently insts) (outside insts)) in
    let both : SameOutside (out ++ a.inner) (out ++ b.inner) = same_outside out a.inner b.inner a.all b.all a.begun b.begun in
    record {
      decorations = λ id d.
          ap (λ z. decorated z id d) second ∙ sym (both.decorations id d) ∙ sym (ap (λ z. decorated z id d) a.same);
      members = λ id member d.
          ap (λ z. member_decorated z id member d) second ∙ member_before id member d out b.inner b.all
          ∙ sym (member_before id member d out a.inner a.all) ∙ sym (ap (λ z. member_decorated z id member d) a.same);
      tables = ap (λ z. table_of z []) second ∙ sym (both.tables []) ∙ sym (ap (λ z. table_of z []) a.same);
    }
