-- The normal form of a module is what stays outside its functions and then the listings of its trees, which are its functions.
use Rattle.std.proofs.Common.{◌≡◌, ℕ, zero, suc, ◌+◌, ◌<◌, Bool, true, false, cond, ◌==◌, List, [], ◌∷◌, ◌++◌, filter, length, slice_get, Some, refl, sym, ap, ap₂, ◌∙◌, subst, arith}
use Rattle.std.specs.Prelude.{count_by}
use Rattle.std.specs.List.{AllByRecursion, flat_map, range_with_len}
use Rattle.spv_opcodes.specs.declared.op.TheConstants as op
use Rattle.spv_module.specs.Code.{is_function}
use Rattle.spv_module.specs.Instruction.{Instruction, IsInstruction, roles}
use Rattle.spv_blocks.specs.Cutting.{function_insts}
use Rattle.spv_bodies.specs.Listing.{listed}
use Rattle.spv_normal.specs.Lines.{without_marks}
use Rattle.spv_normal.specs.Normal.{normal_function}
use Rattle.spv_tree.specs.declared.body.Body.{Body}
use Rattle.spv_tree.specs.Sound.{opcode_in}
use Rattle.spv_tree.specs.Tree.{body_of, words_of}
use Rattle.spv_spelling.specs.Whole.{AreInstructions, IsText}
use Rattle.spv_clean_trees.proofs.Structures.{opens}
use Rattle.spv_respelling.proofs.Inside.{listing_text}
use Rattle.spv_functions.specs.Functions.{IsTree, is_pointer}
use Rattle.spv_norm.specs.Norm.{function_lines, outside, staying, stays_outside}
use Rattle.spv_norm_means.proofs.InOrder.{functions_in, joined}
use Rattle.spv_norm_structured.specs.Laws.{FunctionsAgain, HasNormalFunctions, IsNormAgain, IsReadAsTrees}
use Rattle.spv_norm_structured.proofs.Pieces.{BeginsNone, IsPiece, all_at, at_all, function_at_place, functions_behind, functions_count, one_at, outside_front, piece_of_text}

-- ---- cut in two by the words

pub record Parted (is : List Instruction) (xs ys : List (List ℕ)) : Type 0 where
  pub front : List Instruction
  pub back : List Instruction
  pub same : is ≡ front ++ back
  pub front_words : words_of front ≡ xs
  pub back_words : words_of back ≡ ys

one_more : (i : Instruction) (is : List Instruction) (x : List ℕ) (xs ys : List (List ℕ)) → i.words ≡ x → Parted is xs ys → Parted (i ∷ is) (x ∷ xs) ys
one_more i is x xs ys e r = record {
  front = i ∷ r.front;
  back = r.back;
  same = ap (λ z. i ∷ z) r.same;
  front_words = ap₂ (λ z zs. z ∷ zs) e r.front_words;
  back_words = r.back_words;
}

pub parted : (is : List Instruction) (xs ys : List (List ℕ)) → words_of is ≡ xs ++ ys → Parted is xs ys
parted is [] ys e = record { front = []; back = is; same = refl; front_words = refl; back_words = e }
parted [] (x ∷ xs) ys e = absurd (cc e)
parted (i ∷ is) (x ∷ xs) ys e =
    let here : i.words ≡ x = cc e in
    let later : words_of is ≡ xs ++ ys = cc e in
    one_more i is x xs ys here (parted is xs ys later)

-- ---- cut into the listings of trees

abbrev pub lines_of : Body → List (List ℕ)
lines_of body = listed (body_of body)

pub record Cut (is : List Instruction) (bodies : List Body) : Type 0 where
  pub texts : List (List Instruction)
  pub same : is ≡ joined texts
  pub count : length texts ≡ length bodies
  pub each : (k : ℕ) (t : List Instruction) (body : Body) → slice_get texts k ≡ Some t → slice_get bodies k ≡ Some body → words_of t ≡ lines_of body

more_texts : (is : List Instruction) (body : Body) (bodies : List Body) (p : Parted is (lines_of body) (flat_map lines_of bodies)) → Cut p.back bodies → Cut is (body ∷ bodies)
more_texts is body bodies p c = record {
  texts = p.front ∷ c.texts;
  same = p.same ∙ ap (λ z. p.front ++ z) c.same;
  count = ap suc c.count;
  each = each;
} where
  each : (k : ℕ) (t : List Instruction) (b : Body) → slice_get (p.front ∷ c.texts) k ≡ Some t → slice_get (body ∷ bodies) k ≡ Some b → words_of t ≡ lines_of b
  each zero t b e g =
      let first : p.front ≡ t = cc e in
      let other : body ≡ b = cc g in
      ap words_of (sym first) ∙ p.front_words ∙ ap lines_of other
  each (suc k) t b e g = c.each k t b e g

pub cut : (bodies : List Body) (is : List Instruction) → words_of is ≡ flat_map lines_of bodies → Cut is bodies
cut [] [] e = record { texts = []; same = refl; count = refl; each = λ k t b h g. absurd (cc h) }
cut [] (i ∷ is) e = absurd (cc e)
cut (body ∷ bodies) is e =
    let p = parted is (lines_of body) (flat_map lines_of bodies) e in
    more_texts is body bodies p (cut bodies p.back p.back_words)

-- the lines of functions that are listed so; by induction on the trees
pub listed_at : (F : ℕ → List Instruction) (a : ℕ) (bodies : List Body)
    → ((j : ℕ) (body : Body) → slice_get bodies j ≡ Some body → lines_of body ≡ normal_function (F (a + j)))
    → flat_map (λ k. normal_function (F k)) (range_with_len a (length bodies)) ≡ flat_map lines_of bodies
listed_at F a [] h = refl
listed_at F a (body ∷ bodies) h =
    ap₂ (λ x y. x ++ y) (sym (h 0 body refl ∙ ap (λ n. normal_function (F n)) (none_more a)))
    (listed_at F (a + 1) bodies (λ j b e. h (suc j) b e ∙ ap (λ n. normal_function (F n)) (one_later a j)))
  where
    none_more : (n : ℕ) → n + 0 ≡ n
    none_more n = omega arith

    one_later : (n k : ℕ) → n + suc k ≡ (n + 1) + k
    one_later n k = omega arith

-- ---- what holds by the words

pub all_by_words : (P : List ℕ → Type 0) (xs ys : List Instruction) → words_of xs ≡ words_of ys → AllByRecursion (λ (i : Instruction). P i.words) ys
    → AllByRecursion (λ (i : Instruction). P i.words) xs
all_by_words P [] ys e h = tt
all_by_words P (x ∷ xs) [] e h = absurd (cc e)
all_by_words P (x ∷ xs) (y ∷ ys) e h =
    let here : x.words ≡ y.words = cc e in
    let later : words_of xs ≡ words_of ys = cc e in
    (subst P (sym here) h.0, all_by_words P xs ys later h.1)

pub all_filtered : (P : Instruction → Type 0) (test : Instruction → Bool) (is : List Instruction) → AllByRecursion P is → AllByRecursion P (filter test is)
all_filtered P test [] h = tt
all_filtered P test (i ∷ is) h = by (test i) (all_filtered P test is h.1) where
  by : (b : Bool) → AllByRecursion P (filter test is) → AllByRecursion P (cond b (i ∷ filter test is) (filter test is))
  by true more = (h.0, more)
  by false more = more

outside_begins_none : (is : List Instruction) → AllByRecursion BeginsNone (outside is)
outside_begins_none [] = tt
outside_begins_none (i ∷ is) = by (is_function i) refl (outside_begins_none is) where
  by : (b : Bool) → is_function i ≡ b → AllByRecursion BeginsNone (outside is) → AllByRecursion BeginsNone (cond b [] (i ∷ outside is))
  by true e more = tt
  by false e more = (e, more)

all_front : {A : Type 0} (P : A → Type 0) (xs ys : List A) → AllByRecursion P (xs ++ ys) → AllByRecursion P xs
all_front P [] ys h = tt
all_front P (x ∷ xs) ys h = (h.0, all_front P xs ys h.1)

all_back : {A : Type 0} (P : A → Type 0) (xs ys : List A) → AllByRecursion P (xs ++ ys) → AllByRecursion P ys
all_back P [] ys h = h
all_back P (x ∷ xs) ys h = all_back P xs ys h.1

all_in_texts : (P : Instruction → Type 0) (ts : List (List Instruction)) → AllByRecursion P (joined ts) → AllByRecursion (AllByRecursion P) ts
all_in_texts P [] h = tt
all_in_texts P (t ∷ ts) h = (all_front P t (joined ts) h, all_in_texts P ts (all_back P t (joined ts) h))

pub place_below : {A : Type 0} (xs : List A) (k : ℕ) (x : A) → slice_get xs k ≡ Some x → k < length xs
place_below [] k x e = absurd (cc e)
place_below (y ∷ ys) zero x e = omega arith
place_below (y ∷ ys) (suc k) x e = let later = place_below ys k x e in omega (arith, later)

-- ---- a module that is read, and its normal form

abbrev pub IsFormed : Instruction → Type 0
IsFormed i = IsInstruction i.words (roles i)

-- a function of the normal form, with its tree
pub record IsAgain (insts : List Instruction) (bodies : List Body) (k : ℕ) (t : List Instruction) : Type 0 where
  pub body : Body
  pub at : slice_get bodies k ≡ Some body
  pub lists : words_of t ≡ lines_of body
  pub tree : IsTree (is_pointer insts) (function_insts k insts) body
  pub text : IsText t
  pub instructions : AreInstructions t

module _ (insts again : List Instruction) (bodies : List Body) (h : IsReadAsTrees insts bodies) (n : IsNormAgain insts again) where
  pub lines_are : function_lines insts ≡ flat_map lines_of bodies
  lines_are =
      ap (λ m. flat_map (λ k. normal_function (function_insts k insts)) (range_with_len 0 m)) (sym h.count)
      ∙ listed_at (λ k. function_insts k insts) 0 bodies
      (λ j b e. (h.each j b e).normal ∙ ap (λ m. normal_function (function_insts m insts)) (none_more j)) where
        none_more : (m : ℕ) → m ≡ 0 + m
        none_more m = omega arith

  pub halves : Parted again (words_of (staying insts)) (function_lines insts)
  halves = parted again (words_of (staying insts)) (function_lines insts) n.words

  pub pieces : Cut halves.back bodies
  pieces = cut bodies halves.back (halves.back_words ∙ lines_are)

  pub whole : again ≡ halves.front ++ joined pieces.texts
  whole = halves.same ∙ ap (λ z. halves.front ++ z) pieces.same

  formed : AllByRecursion (AllByRecursion IsFormed) pieces.texts
  formed =
      all_in_texts IsFormed pieces.texts
      (all_back IsFormed halves.front (joined pieces.texts) (subst (AllByRecursion IsFormed) whole (all_at IsFormed again n.instructions)))

  pub known : (k : ℕ) (t : List Instruction) → slice_get pieces.texts k ≡ Some t → IsAgain insts bodies k t
  known k t e =
      let below : k < length bodies = subst (λ m. k < m) pieces.count (place_below pieces.texts k t e) in
      let b = one_at bodies k below in
      let tree = h.each k b.0 b.1 in
      let lists = pieces.each k t b.0 e b.1 in
      let s = tree.parsed.spelled in
      record {
        body = b.0;
        at = b.1;
        lists = lists;
        tree = tree;
        text = listing_text (body_of b.0) t tree.sound (opens (without_marks (function_insts k insts)) s.stays (body_of b.0) s.admitted s.spells) lists;
        instructions = at_all IsFormed t (at_all (AllByRecursion IsFormed) pieces.texts formed k t e);
      }

  pub are_pieces : AllByRecursion IsPiece pieces.texts
  are_pieces = all_at IsPiece pieces.texts (λ k t e. piece_of_text t (known k t e).text)

  begins_none : AllByRecursion BeginsNone halves.front
  begins_none =
      all_by_words (λ w. (opcode_in w == op.FUNCTION) ≡ false) halves.front (staying insts) halves.front_words
      (all_filtered BeginsNone (stays_outside insts) (outside insts) (outside_begins_none insts))

  pub functions_again : functions_in again ≡ pieces.texts
  functions_again = ap functions_in whole ∙ functions_behind halves.front pieces.texts begins_none are_pieces

  pub outside_again : outside again ≡ halves.front
  outside_again = ap outside whole ∙ outside_front halves.front pieces.texts begins_none are_pieces

  pub count_again : count_by is_function again ≡ length bodies
  count_again = functions_count again pieces.texts functions_again ∙ pieces.count

  -- the k-th function
  pub again_at : (k : ℕ) → k < count_by is_function again → IsAgain insts bodies k (function_insts k again)
  again_at k below =
      let t = one_at pieces.texts k (subst (λ m. k < m) (functions_count again pieces.texts functions_again) below) in
      subst (IsAgain insts bodies k) (sym (function_at_place again pieces.texts functions_again k t.0 t.1)) (known k t.0 t.1)

  pub lines_again : (k : ℕ) (a : IsAgain insts bodies k (function_insts k again)) → words_of (function_insts k again) ≡ normal_function (function_insts k insts)
  lines_again k a = a.lists ∙ a.tree.normal

  pub has_functions : HasNormalFunctions insts again
  has_functions = record {
    count = count_again ∙ h.count;
    each = λ k below. lines_again k (again_at k (subst (λ m. k < m) (sym (count_again ∙ h.count)) below));
    outside = ap words_of outside_again ∙ halves.front_words;
  }

pub functions_law : FunctionsAgain
functions_law insts again bodies h n = has_functions insts again bodies h n
