-- The functions have the same parameters: each is spelled by a tree, whose listing begins with the same lines.
use Rattle.std.proofs.Common.{◌≡◌, ℕ, suc, ◌+◌, Bool, true, false, cond, ◌==◌, List, [], ◌∷◌, ◌++◌, length, map, Some, refl, sym, ap, ◌∙◌, subst, arith, append_assoc, All}
use Rattle.std.specs.Prelude.{slice_get}
use Rattle.std.specs.List.{AllByRecursion, filter, flat_map, range_with_len}
use Rattle.std.proofs.lemmas.List.{map-append}
use Rattle.std.proofs.lemmas.List.Elements.{All-head, All-tail}
use Rattle.spv_opcodes.specs.declared.op.TheConstants as op
use Rattle.spv_module.specs.Code.{is_function}
use Rattle.spv_module.specs.Instruction.{Instruction, opcode}
use Rattle.spv_blocks.specs.Cutting.{is_label_mark}
use Rattle.spv_walk.proofs.Unique.{equal_true}
use Rattle.spv_bodies.specs.Bodies.{Function}
use Rattle.spv_bodies.specs.Listing.{branches, instruction, label_line, lines}
use Rattle.spv_normal.specs.Lines.{before_labels, without_marks}
use Rattle.spv_tree.specs.declared.body.Body.{Body}
use Rattle.spv_tree.specs.Sound.{opcode_in}
use Rattle.spv_tree.specs.Tree.{body_of, words_of}
use Rattle.spv_spelling.specs.Whole.{IsText}
use Rattle.spv_texts.proofs.Functions.{marks_front}
use Rattle.spv_clean_trees.proofs.Structures.{opens}
use Rattle.spv_respelling.proofs.Inside.{listing_text}
use Rattle.spv_functions.specs.Functions.{IsTree}
use Rattle.spv_norm.specs.Norm.{outside}
use Rattle.spv_norm_means.proofs.InOrder.{joined}
use Rattle.spv_norm_declared.proofs.Walks.{inst_of}
use Rattle.spv_norm_structured.proofs.Again.{lines_of}
use Rattle.spv_norm_structured.proofs.Pieces.{IsPiece, IsPlain, all_both, piece_of_text}
use Rattle.spv_norm_alike.proofs.Leading.{IsFunctionText, IsParameterLine, NoFunction, SameFront, found_by, found_front, found_same}

-- ---- no function begins behind the first line of a text

by_words : (is : List Instruction) → AllByRecursion (λ i. NoFunction i.words) is → AllByRecursion NoFunction (words_of is)
by_words [] h = tt
by_words (i ∷ is) h = (h.0, by_words is h.1)

plain_lines : (is : List Instruction) → AllByRecursion IsPlain is → AllByRecursion (λ i. NoFunction i.words) is
plain_lines [] h = tt
plain_lines (i ∷ is) h = (h.0.begins, plain_lines is h.1)

tail_none : (t : List Instruction) → IsPiece t → (w : List ℕ) (ws : List (List ℕ)) → words_of t ≡ w ∷ ws → AllByRecursion NoFunction ws
tail_none t p w ws e =
    let both : p.function.words ∷ words_of (p.inner ++ p.last ∷ []) ≡ w ∷ ws = sym (ap words_of p.same) ∙ e in
    let later : words_of (p.inner ++ p.last ∷ []) ≡ ws = cc both in
    subst (AllByRecursion NoFunction) later
    (by_words (p.inner ++ p.last ∷ [])
    (all_both (λ i. NoFunction i.words) p.inner (p.last ∷ []) (plain_lines p.inner p.plain) (ap (λ o. o == op.FUNCTION) p.ends, tt)))

behind_label : (ps : List (List ℕ)) (label : List ℕ) (rest : List (List ℕ)) → AllByRecursion NoFunction (ps ++ label ∷ rest) → AllByRecursion NoFunction rest
behind_label [] label rest h = h.1
behind_label (p ∷ ps) label rest h = behind_label ps label rest h.1

-- ---- the lines of a text

parameter_lines : (ps : List Instruction) → All (λ i. opcode i ≡ op.FUNCTION_PARAMETER) ps → AllByRecursion IsParameterLine (words_of ps)
parameter_lines [] h = tt
parameter_lines (p ∷ ps) h = (
  All-head (λ i. opcode i ≡ op.FUNCTION_PARAMETER) p ps h,
  parameter_lines ps (All-tail (λ i. opcode i ≡ op.FUNCTION_PARAMETER) p ps h),
)

before_parameters : (ps : List Instruction) (label : Instruction) (rest : List Instruction) → AllByRecursion IsParameterLine (words_of ps)
    → is_label_mark label ≡ true → before_labels (ps ++ label ∷ rest) ≡ ps
before_parameters [] label rest h m = ap (λ (b : Bool). cond b [] (label ∷ before_labels rest)) m
before_parameters (p ∷ ps) label rest h m =
    ap (λ o. cond (o == op.LABEL) [] (p ∷ before_labels (ps ++ label ∷ rest))) h.0 ∙ ap (λ z. p ∷ z) (before_parameters ps label rest h.1 m)

module _ (t : List Instruction) (s : IsText t) where
  shape : t ≡ s.function ∷ (s.parameters ++ s.label ∷ (s.blocks ++ s.last ∷ []))
  shape = s.same ∙ ap (λ z. s.function ∷ z) (append_assoc s.parameters (s.label ∷ s.blocks) (s.last ∷ []))

  text_words : words_of t ≡ s.function.words ∷ (words_of s.parameters ++ s.label.words ∷ words_of (s.blocks ++ s.last ∷ []))
  text_words =
      ap words_of shape
      ∙ ap (λ z. s.function.words ∷ z) (map-append (λ (i : Instruction). i.words) s.parameters (s.label ∷ (s.blocks ++ s.last ∷ [])))

  abbrev text_lines : IsFunctionText (words_of t)
  text_lines = record {
    function = s.function.words;
    parameters = words_of s.parameters;
    label = s.label.words;
    rest = words_of (s.blocks ++ s.last ∷ []);
    same = text_words;
    begins = s.begins;
    takes = parameter_lines s.parameters s.takes;
    first = equal_true (opcode s.label) op.LABEL s.first;
    none =
        behind_label (words_of s.parameters) s.label.words (words_of (s.blocks ++ s.last ∷ []))
        (tail_none t (piece_of_text t s) s.function.words (words_of s.parameters ++ s.label.words ∷ words_of (s.blocks ++ s.last ∷ [])) text_words);
  }

  text_front : words_of (before_labels t) ≡ s.function.words ∷ words_of s.parameters
  text_front =
      ap (λ is. words_of (before_labels is)) shape
      ∙ ap (λ o. words_of (cond (o == op.LABEL) [] (s.function ∷ before_labels (s.parameters ++ s.label ∷ (s.blocks ++ s.last ∷ []))))) s.begins
      ∙ ap (λ is. s.function.words ∷ words_of is)
      (before_parameters s.parameters s.label (s.blocks ++ s.last ∷ []) (parameter_lines s.parameters s.takes) s.first)

-- ---- a function, and the listing of its tree

written : (ws : List (List ℕ)) → words_of (map inst_of ws) ≡ ws
written [] = refl
written (w ∷ ws) = ap (λ z. w ∷ z) (written ws)

pub same_front : (is_pointer : ℕ → Bool) (t : List Instruction) (body : Body) → IsTree is_pointer t body
    → SameFront (words_of (without_marks t)) (lines_of body)
same_front is_pointer t body tree =
    let s = tree.parsed.spelled in
    let f : Function = body_of body in
    let plain : List Instruction = without_marks t in
    let text : IsText plain = s.admitted.text in
    let fronts : text.function.words ∷ words_of text.parameters ≡ f.function ∷ f.parameters = sym (text_front plain text) ∙ s.spells.front in
    let function : text.function.words ≡ f.function = cc fronts in
    let parameters : words_of text.parameters ≡ f.parameters = cc fronts in
    let rest : List (List ℕ) = lines (branches f.label f.body) [] f.body ++ instruction op.FUNCTION_END [] ∷ [] in
    let listing : List Instruction = map inst_of (lines_of body) in
    let again : IsText listing = listing_text f listing tree.sound (opens plain s.stays f s.admitted s.spells) (written (lines_of body)) in
    record {
      one = text_lines plain text;
      other = record {
        function = f.function;
        parameters = f.parameters;
        label = label_line f.label;
        rest = rest;
        same = refl;
        begins = subst (λ w. opcode_in w ≡ op.FUNCTION) function text.begins;
        takes = subst (AllByRecursion IsParameterLine) parameters (parameter_lines text.parameters text.takes);
        first = refl;
        none =
            behind_label f.parameters (label_line f.label) rest
            (tail_none listing (piece_of_text listing again) f.function (f.parameters ++ label_line f.label ∷ rest) (written (lines_of body)));
      };
      function = function;
      parameters = parameters;
    }

-- ---- one function after the other

abbrev pub SameTexts : List (List Instruction) → List Body → Type 0
SameTexts [] [] = Unit {0}
SameTexts (t ∷ ts) (b ∷ bs) = SameFront (words_of (without_marks t)) (lines_of b) × SameTexts ts bs
SameTexts ts bs = ⊥

-- by induction on the trees
pub same_at : (F : ℕ → List Instruction) (a : ℕ) (bodies : List Body)
    → ((j : ℕ) (body : Body) → slice_get bodies j ≡ Some body → SameFront (words_of (without_marks (F (a + j)))) (lines_of body))
    → SameTexts (map F (range_with_len a (length bodies))) bodies
same_at F a [] h = tt
same_at F a (body ∷ bodies) h = (
  subst (λ n. SameFront (words_of (without_marks (F n))) (lines_of body)) (none_more a) (h 0 body refl),
  same_at F (a + 1) bodies (λ j b e. subst (λ n. SameFront (words_of (without_marks (F n))) (lines_of b)) (one_later a j) (h (suc j) b e)),
)
  where
    none_more : (n : ℕ) → n + 0 ≡ n
    none_more n = omega arith

    one_later : (n k : ℕ) → n + suc k ≡ (n + 1) + k
    one_later n k = omega arith

pub found_texts : (f : ℕ) (ts : List (List Instruction)) (bodies : List Body) → SameTexts ts bodies
    → found_by f (words_of (without_marks (joined ts))) ≡ found_by f (flat_map lines_of bodies)
found_texts f [] [] h = refl
found_texts f (t ∷ ts) [] h = absurd h
found_texts f [] (b ∷ bs) h = absurd h
found_texts f (t ∷ ts) (b ∷ bs) h =
    ap (found_by f) (ap words_of (marks_front t (joined ts)) ∙ map-append (λ (i : Instruction). i.words) (without_marks t) (without_marks (joined ts)))
    ∙ found_same f (words_of (without_marks t)) (lines_of b) (words_of (without_marks (joined ts))) (flat_map lines_of bs) h.0 (found_texts f ts bs h.1)

-- outside functions none is found
pub outside_no_function : (is : List Instruction) → AllByRecursion (λ i. NoFunction i.words) (outside is)
outside_no_function [] = tt
outside_no_function (i ∷ is) = by (is_function i) refl (outside_no_function is) where
  by : (b : Bool) → is_function i ≡ b → AllByRecursion (λ j. NoFunction j.words) (outside is)
      → AllByRecursion (λ j. NoFunction j.words) (cond b [] (i ∷ outside is))
  by true e more = tt
  by false e more = (e, more)

pub filtered_no_function : (test : Instruction → Bool) (is : List Instruction) → AllByRecursion (λ i. NoFunction i.words) is
    → AllByRecursion (λ i. NoFunction i.words) (filter test is)
filtered_no_function test [] h = tt
filtered_no_function test (i ∷ is) h = by (test i) (filtered_no_function test is h.1) where
  by : (b : Bool) → AllByRecursion (λ j. NoFunction j.words) (filter test is)
      → AllByRecursion (λ j. NoFunction j.words) (cond b (i ∷ filter test is) (filter test is))
  by true more = (h.0, more)
  by false more = more

pub found_behind : (f : ℕ) (xs : List Instruction) (ys : List (List ℕ)) → AllByRecursion (λ i. NoFunction i.words) xs
    → found_by f (words_of xs ++ ys) ≡ found_by f ys
found_behind f xs ys h = found_front f (words_of xs) ys (by_words xs h)
