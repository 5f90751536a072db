-- Two modules of the same trees, one of functions that spell them and one of their listings, make the same accesses.
use Rattle.std.proofs.Common.{◌≡◌, ℕ, Bool, true, false, cond, ◌==◌, List, [], ◌∷◌, ◌++◌, Option, Some, None, refl, sym, ap, ◌∙◌, subst, append_assoc}
use Rattle.std.specs.Prelude.{slice_index}
use Rattle.std.specs.List.{flat_map}
use Rattle.spv_opcodes.specs.declared.op.TheConstants as op
use Rattle.spv_module.specs.Code.{Code}
use Rattle.spv_module.specs.Instruction.{Instruction}
use Rattle.spv_meaning.specs.Meanings.{statements}
use Rattle.spv_meaning.specs.Statements as says
use Rattle.spv_meaning.specs.Statements.{Statement, said, statements_in, words_of}
use Rattle.spv_machine.specs.Steps.{behind_function}
use Rattle.spv_bodies.specs.Bodies.{Function}
use Rattle.spv_bodies.specs.Listing.{listed, label_line, lines, instruction, branches}
use Rattle.spv_walk.proofs.Unique.{equal_true}
use Rattle.spv_normal.specs.Facts.{written}
use Rattle.spv_normal.specs.Lines.{without_marks}
use Rattle.spv_spelling.specs.Clean.{no_pointers}
use Rattle.spv_sound_trees.proofs.Sound.{spelled_is_sound}
use Rattle.spv_structured.proofs.Stands.{structured_stands}
use Rattle.spv_clean_trees.proofs.Structures.{opens, spelled_is_structured}
use Rattle.spv_respelling.proofs.Inside.{listing_text}
use Rattle.spv_trees.specs.Sound.{IsSoundFunction, labels_in, Distinct}
use Rattle.spv_trees.specs.Standing.{AllStand, CallsKnown, StandsFunction}
use Rattle.spv_trees.proofs.Listed.{listing_law}
use Rattle.spv_trees.proofs.Spelling.{statements_append}
use Rattle.spv_standing.specs.Laws.{IsSpelled}
use Rattle.spv_standing.proofs.Lines.{marks_say_nothing, says_append}
use Rattle.spv_standing.proofs.Spelled.{all_spelled_stand, function_says, takes_parameters}
use Rattle.spv_norm_means.specs.Laws.{AreCut, AreRead, CutKeeps, ReadsAs, SameOutside, function_of}
use Rattle.spv_norm_means.proofs.Inner.{AllWithin, SaysFunction, function_said, text_says, within_inner}
use Rattle.spv_norm_means.proofs.Outside.{AllInner, IsBegun, same_outside}
use Rattle.spv_norm_means.proofs.StandAlike.{stand_alike}

abbrev pub id_of : Function → ℕ
id_of f = slice_index f.function 2

abbrev joined : List (List Instruction) → List Instruction
joined texts = flat_map (λ insts. insts) texts

-- ---- one function

same_function : (ss xs ys : List Statement) (a b : ℕ) → ss ≡ says.Function a ∷ xs → ss ≡ says.Function b ∷ ys → a ≡ b
same_function ss xs ys a b h g = cc (h, g)

named : (ss rest : List Statement) (r : ℕ) (q : ℕ) → SaysFunction ss q → ss ≡ says.Function r ∷ rest → SaysFunction ss r
named ss rest r q s h = subst (SaysFunction ss) (same_function ss s.rest rest q r s.same h) s

module _ (insts : List Instruction) (f : Function) (h : ReadsAs insts f) where
  abbrev is : List Instruction
  is = without_marks insts

  pub opening : said f.function [] ≡ says.Function (id_of f) ∷ []
  opening = function_said f.function [] (opens is h.stays f h.admitted h.spells).function

  -- its instructions say the function
  reads_says : SaysFunction (statements_in (words_of insts)) (id_of f)
  reads_says =
      subst (λ ss. SaysFunction ss (id_of f)) (sym (marks_say_nothing insts))
      (named (statements_in (words_of is)) _ (id_of f) (slice_index h.admitted.text.function.words 2) (text_says is h.admitted.text)
      (function_says is h.stays (id_of f) f h.admitted.text h.spells opening))

  sound_function : IsSoundFunction (id_of f) f
  sound_function =
      structured_stands (id_of f) f no_pointers (spelled_is_sound is h.stays f h.admitted h.spells)
      (spelled_is_structured no_pointers is h.stays f h.admitted h.admitted.clean h.spells) opening
      (takes_parameters is h.stays (id_of f) f h.admitted.text h.spells opening)

  -- and so do the lines of its tree
  written_words : (ls : List (List ℕ)) → words_of (written ls) ≡ ls
  written_words [] = refl
  written_words (l ∷ ls) = ap (λ z. l ∷ z) (written_words ls)

  listed_begins : (rest : List (List ℕ)) → statements_in (f.function ∷ rest) ≡ says.Function (id_of f) ∷ statements_in rest
  unfolding statements_in
  listed_begins rest = function_said f.function (statements_in rest) (opens is h.stays f h.admitted h.spells).function

  listed_says : SaysFunction (statements_in (listed f)) (id_of f)
  listed_says =
      let again : List Instruction = written (listed f) in
      let text = listing_text f again (spelled_is_sound is h.stays f h.admitted h.spells) (opens is h.stays f h.admitted h.spells) (written_words (listed f)) in
      let said_again : SaysFunction (statements_in (listed f)) (slice_index text.function.words 2) =
      subst (λ ls. SaysFunction (statements_in ls) (slice_index text.function.words 2)) (written_words (listed f)) (text_says again text) in
      named (statements_in (listed f)) _ (id_of f) (slice_index text.function.words 2) said_again
      (listed_begins (f.parameters ++ label_line f.label ∷ (lines (branches f.label f.body) [] f.body ++ instruction op.FUNCTION_END [] ∷ [])))

-- ---- functions one after another

inner_both : (a b : List Statement) → AllInner a → AllInner b → AllInner (a ++ b)
inner_both [] b h g = g
inner_both (s ∷ a) b h g = (h.0, inner_both a b h.1 g)

function_inner : (ss : List Statement) (r : ℕ) → SaysFunction ss r → AllInner ss
function_inner ss r s = subst AllInner (sym s.same) (refl, within_inner s.rest s.within)

function_begun : (ss more : List Statement) (r : ℕ) → SaysFunction ss r → IsBegun (ss ++ more)
function_begun ss more r s = subst (λ z. IsBegun (z ++ more)) (sym s.same) tt

-- none of another id
within_absent : (ss : List Statement) (q : ℕ) → AllWithin ss → behind_function ss q ≡ None
within_absent [] q h = refl
within_absent (says.Function r ∷ ss) q h = absurd (cc)
within_absent (other ∷ ss) q h = within_absent ss q h.1

absent_both : (a b : List Statement) (q : ℕ) → behind_function a q ≡ None → behind_function b q ≡ None → behind_function (a ++ b) q ≡ None
absent_both [] b q h g = g
absent_both (says.Function r ∷ a) b q h g = by (r == q) h (absent_both a b q) where
  by : (c : Bool) → cond c (Some a) (behind_function a q) ≡ None → (behind_function a q ≡ None → behind_function b q ≡ None → behind_function (a ++ b) q ≡ None)
      → cond c (Some (a ++ b)) (behind_function (a ++ b) q) ≡ None
  by true e more = absurd (cc)
  by false e more = more e g
absent_both (other ∷ a) b q h g = absent_both a b q h g

absent_more : (a b : List Statement) (q r : ℕ) → SaysFunction b r → (r == q) ≡ false → behind_function a q ≡ None → behind_function (a ++ b) q ≡ None
absent_more a b q r s e h =
    absent_both a b q h
    (ap (λ z. behind_function z q) s.same ∙ ap (λ c. cond c (Some s.rest) (behind_function s.rest q)) e ∙ within_absent s.rest q s.within)

calls_front : (functions : ℕ → Option Function) (a b : List Statement) → CallsKnown functions (a ++ b) → CallsKnown functions a
calls_front functions [] b h = tt
calls_front functions (says.FunctionCall t r f arguments ∷ a) b h = (h.0, calls_front functions a b h.1)
calls_front functions (other ∷ a) b h = calls_front functions a b h

calls_back : (functions : ℕ → Option Function) (a b : List Statement) → CallsKnown functions (a ++ b) → CallsKnown functions b
calls_back functions [] b h = h
calls_back functions (says.FunctionCall t r f arguments ∷ a) b h = calls_back functions a b h.1
calls_back functions (other ∷ a) b h = calls_back functions a b h

all_known : (f : Function) (ss : List Statement) → CallsKnown (λ q. Some f) ss
all_known f [] = tt
all_known f (says.FunctionCall t r g arguments ∷ ss) = (refl, all_known f ss)
all_known f (other ∷ ss) = all_known f ss

no_statement : statements_in [] ≡ []
unfolding statements_in
no_statement = refl

-- by induction on the functions
texts_inner : (texts : List (List Instruction)) (trees : List Function) → AreRead texts trees → AllInner (statements_in (words_of (joined texts)))
texts_inner [] [] h = subst AllInner (sym no_statement) tt
texts_inner (t ∷ ts) (g ∷ gs) h =
    subst AllInner (sym (says_append t (joined ts)))
    (inner_both (statements_in (words_of t)) (statements_in (words_of (joined ts))) (function_inner (statements_in (words_of t)) (id_of g) (reads_says t g h.0)) (texts_inner ts gs h.1))
texts_inner [] (g ∷ gs) h = absurd h
texts_inner (t ∷ ts) [] h = absurd h

texts_begun : (texts : List (List Instruction)) (trees : List Function) → AreRead texts trees → IsBegun (statements_in (words_of (joined texts)))
texts_begun [] [] h = subst IsBegun (sym no_statement) tt
texts_begun (t ∷ ts) (g ∷ gs) h =
    subst IsBegun (sym (says_append t (joined ts)))
    (function_begun (statements_in (words_of t)) (statements_in (words_of (joined ts))) (id_of g) (reads_says t g h.0))
texts_begun [] (g ∷ gs) h = absurd h
texts_begun (t ∷ ts) [] h = absurd h

listings_inner : (texts : List (List Instruction)) (trees : List Function) → AreRead texts trees → AllInner (statements_in (flat_map listed trees))
listings_inner [] [] h = subst AllInner (sym no_statement) tt
listings_inner (t ∷ ts) (g ∷ gs) h =
    subst AllInner (sym (statements_append (listed g) (flat_map listed gs)))
    (inner_both (statements_in (listed g)) (statements_in (flat_map listed gs)) (function_inner (statements_in (listed g)) (id_of g) (listed_says t g h.0)) (listings_inner ts gs h.1))
listings_inner [] (g ∷ gs) h = absurd h
listings_inner (t ∷ ts) [] h = absurd h

listings_begun : (texts : List (List Instruction)) (trees : List Function) → AreRead texts trees → IsBegun (statements_in (flat_map listed trees))
listings_begun [] [] h = subst IsBegun (sym no_statement) tt
listings_begun (t ∷ ts) (g ∷ gs) h =
    subst IsBegun (sym (statements_append (listed g) (flat_map listed gs)))
    (function_begun (statements_in (listed g)) (statements_in (flat_map listed gs)) (id_of g) (listed_says t g h.0))
listings_begun [] (g ∷ gs) h = absurd h
listings_begun (t ∷ ts) [] h = absurd h

-- ---- functions that spell trees are spelled in the module

module _ (all : List Statement) (functions : ℕ → Option Function) where
  this_spelled : (first t : List Instruction) (ts : List (List Instruction)) (g : Function) (r : ℕ) → ReadsAs t g → (id_of g == r) ≡ true
      → behind_function (statements_in (words_of first)) r ≡ None → all ≡ statements_in (words_of (first ++ (t ++ joined ts)))
      → CallsKnown functions (statements_in (words_of (t ++ joined ts))) → IsSpelled all functions r g
  this_spelled first t ts g r read e absent whole calls = record {
    first = first;
    insts = t;
    last = joined ts;
    stays = read.stays;
    whole = whole;
    admitted = read.admitted;
    spells = read.spells;
    apart = read.apart;
    function = opening t g read ∙ ap (λ q. says.Function q ∷ []) (equal_true (id_of g) r e);
    calls = calls_front functions (statements_in (words_of t)) (statements_in (words_of (joined ts))) (subst (CallsKnown functions) (says_append t (joined ts)) calls);
    absent = absent;
  }

  spelled_from : (first : List Instruction) (texts : List (List Instruction)) (trees : List Function) → AreRead texts trees → (r : ℕ) (f : Function)
      → function_of trees r ≡ Some f → behind_function (statements_in (words_of first)) r ≡ None → all ≡ statements_in (words_of (first ++ joined texts))
      → CallsKnown functions (statements_in (words_of (joined texts))) → IsSpelled all functions r f
  spelled_from first [] [] h r f is absent whole calls = absurd (cc)
  spelled_from first [] (g ∷ gs) h r f is absent whole calls = absurd h
  spelled_from first (t ∷ ts) [] h r f is absent whole calls = absurd h
  spelled_from first (t ∷ ts) (g ∷ gs) h r f is absent whole calls =
      by_id (id_of g == r) refl is
      (λ e k. spelled_from (first ++ t) ts gs h.1 r f k
      (subst (λ z. behind_function z r ≡ None) (sym (says_append first t))
      (absent_more (statements_in (words_of first)) (statements_in (words_of t)) r (id_of g) (reads_says t g h.0) e absent))
      (whole ∙ ap (λ z. statements_in (words_of z)) (sym (append_assoc first t (joined ts))))
      (calls_back functions (statements_in (words_of t)) (statements_in (words_of (joined ts))) (subst (CallsKnown functions) (says_append t (joined ts)) calls)))
    where
      by_id : (b : Bool) → (id_of g == r) ≡ b → cond b (Some g) (function_of gs r) ≡ Some f
          → ((id_of g == r) ≡ false → function_of gs r ≡ Some f → IsSpelled all functions r f) → IsSpelled all functions r f
      by_id true e k more =
          let same : g ≡ f = cc k in
          subst (IsSpelled all functions r) same (this_spelled first t ts g r h.0 e absent whole calls)
      by_id false e k more = more e k

-- ---- listings stand

module _ (all : List Statement) (distinct : Distinct (labels_in all)) where
  this_listed : (first : List (List ℕ)) (t : List Instruction) (g : Function) (gs : List Function) (r : ℕ) → ReadsAs t g → (id_of g == r) ≡ true
      → behind_function (statements_in first) r ≡ None → all ≡ statements_in (first ++ (listed g ++ flat_map listed gs)) → StandsFunction all (λ q. Some g) r g
  this_listed first t g gs r read e absent whole =
      subst (λ z. StandsFunction z (λ q. Some g) r g) (sym whole)
      (listing_law (λ q. Some g) r g first (flat_map listed gs) (subst (λ q. IsSoundFunction q g) (equal_true (id_of g) r e) (sound_function t g read))
      (all_known g (statements_in (listed g))) absent (subst (λ z. Distinct (labels_in z)) whole distinct))

  listed_from : (first : List (List ℕ)) (texts : List (List Instruction)) (trees : List Function) → AreRead texts trees → (r : ℕ) (f : Function)
      → function_of trees r ≡ Some f → behind_function (statements_in first) r ≡ None → all ≡ statements_in (first ++ flat_map listed trees)
      → StandsFunction all (λ q. Some f) r f
  listed_from first [] [] h r f is absent whole = absurd (cc)
  listed_from first [] (g ∷ gs) h r f is absent whole = absurd h
  listed_from first (t ∷ ts) [] h r f is absent whole = absurd h
  listed_from first (t ∷ ts) (g ∷ gs) h r f is absent whole =
      by_id (id_of g == r) refl is
      (λ e k. listed_from (first ++ listed g) ts gs h.1 r f k
      (subst (λ z. behind_function z r ≡ None) (sym (statements_append first (listed g)))
      (absent_more (statements_in first) (statements_in (listed g)) r (id_of g) (listed_says t g h.0) e absent))
      (whole ∙ ap statements_in (sym (append_assoc first (listed g) (flat_map listed gs)))))
    where
      by_id : (b : Bool) → (id_of g == r) ≡ b → cond b (Some g) (function_of gs r) ≡ Some f
          → ((id_of g == r) ≡ false → function_of gs r ≡ Some f → StandsFunction all (λ q. Some f) r f) → StandsFunction all (λ q. Some f) r f
      by_id true e k more =
          let same : g ≡ f = cc k in
          subst (λ x. StandsFunction all (λ q. Some x) r x) same (this_listed first t g gs r h.0 e absent whole)
      by_id false e k more = more e k

-- ---- the law

module _ (before after : Code) (outside : List Instruction) (texts : List (List Instruction)) (trees : List Function) (h : AreCut before after outside texts trees) where
  abbrev out : List Statement
  out = statements_in (words_of outside)

  first_says : statements before ≡ out ++ statements_in (words_of (joined texts))
  first_says = h.first ∙ says_append outside (joined texts)

  second_says : statements after ≡ out ++ statements_in (flat_map listed trees)
  second_says = h.second ∙ statements_append (words_of outside) (flat_map listed trees)

  outside_same : SameOutside (statements before) (statements after)
  outside_same =
      subst (λ z. SameOutside z (statements after)) (sym first_says)
      (subst (λ z. SameOutside (out ++ statements_in (words_of (joined texts))) z) (sym second_says)
      (same_outside out (statements_in (words_of (joined texts))) (statements_in (flat_map listed trees))
      (texts_inner texts trees h.read) (listings_inner texts trees h.read) (texts_begun texts trees h.read) (listings_begun texts trees h.read)))

  calls_inside : CallsKnown (function_of trees) (statements_in (words_of (joined texts)))
  calls_inside = calls_back (function_of trees) out (statements_in (words_of (joined texts))) (subst (CallsKnown (function_of trees)) first_says h.called)

  first_stands : AllStand (statements before) (function_of trees)
  first_stands =
      all_spelled_stand (statements before) (function_of trees) h.labels
      (λ r f is. spelled_from (statements before) (function_of trees) outside texts trees h.read r f is (h.none r) h.first calls_inside)

  second_stands : AllStand (statements after) (function_of trees)
  second_stands r f is =
      let s = listed_from (statements after) h.labels_after (words_of outside) texts trees h.read r f is (h.none r) h.second in
      record {
        first_block = s.first_block;
        place = s.place;
        parameters = s.parameters;
        stands = s.stands;
        closed = (first_stands r f is).closed;
      }

pub cut_keeps : CutKeeps
cut_keeps before after outside texts trees h =
    stand_alike before after (function_of trees) (outside_same before after outside texts trees h) (first_stands before after outside texts trees h)
    (second_stands before after outside texts trees h) h.entered
