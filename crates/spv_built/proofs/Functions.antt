-- A module that is built is what stands outside its functions, and then the listings of their trees, which are its functions.
use Rattle.std.proofs.Common.{◌≡◌, ◌⊎◌, inl, inr, ℕ, zero, suc, ◌+◌, ◌<◌, Bool, true, false, cond, ◌==◌, ◌||◌, List, [], ◌∷◌, ◌++◌, length, take, Some, refl, sym, ap, ◌∙◌, subst, append_assoc, arith}
use Rattle.std.specs.Prelude.{count_by}
use Rattle.std.specs.List.{AllByRecursion, flat_map, list_any, slice_get}
use Rattle.std.proofs.lemmas.List.{length-append}
use Rattle.spv_opcodes.specs.declared.op.TheConstants as op
use Rattle.spv_module.specs.Code.{is_function}
use Rattle.spv_module.specs.Instruction.{Instruction}
use Rattle.spv_blocks.specs.Cutting.{function_insts}
use Rattle.spv_bodies.specs.Bodies.{Function}
use Rattle.spv_bodies.specs.Listing.{listed}
use Rattle.spv_tree.specs.Sound.{opcode_in}
use Rattle.spv_tree.specs.Tree.{words_of}
use Rattle.spv_spelling.specs.Whole.{AreInstructions}
use Rattle.spv_respelling.proofs.Inside.{listing_text}
use Rattle.spv_norm.specs.Norm.{outside}
use Rattle.spv_norm_means.proofs.InOrder.{functions_in, joined}
use Rattle.spv_norm_structured.proofs.Again.{IsFormed, Parted, all_by_words, parted, place_below}
use Rattle.spv_norm_structured.proofs.Pieces.{BeginsNone, IsPiece, all_at, at_all, function_at_place, functions_behind, functions_count, one_at, outside_front, piece_of_text}
use Rattle.spv_built.specs.Built.{AreBuilt, FunctionIsBuilt}
use Rattle.spv_built.proofs.Lists.{all_in_texts, all_right}

-- ---- cut into listings

pub record Cut (is : List Instruction) (fs : List Function) : Type 0 where
  pub texts : List (List Instruction)
  pub same : is ≡ joined texts
  pub count : length texts ≡ length fs
  pub each : (k : ℕ) (t : List Instruction) (f : Function) → slice_get texts k ≡ Some t → slice_get fs k ≡ Some f → words_of t ≡ listed f

more_texts : (is : List Instruction) (f : Function) (fs : List Function) (p : Parted is (listed f) (flat_map listed fs)) → Cut p.back fs → Cut is (f ∷ fs)
more_texts is f fs p c = record {
  texts = p.front ∷ c.texts;
  same = p.same ∙ ap (λ z. p.front ++ z) c.same;
  count = ap suc c.count;
  each = each;
} where
  each : (k : ℕ) (t : List Instruction) (g : Function) → slice_get (p.front ∷ c.texts) k ≡ Some t → slice_get (f ∷ fs) k ≡ Some g → words_of t ≡ listed g
  each zero t g e h =
      let first : p.front ≡ t = cc e in
      let other : f ≡ g = cc h in
      ap words_of (sym first) ∙ p.front_words ∙ ap listed other
  each (suc k) t g e h = c.each k t g e h

pub cut : (fs : List Function) (is : List Instruction) → words_of is ≡ flat_map listed fs → Cut is fs
cut [] [] e = record { texts = []; same = refl; count = refl; each = λ k t f h g. absurd (cc h) }
cut [] (i ∷ is) e = absurd (cc e)
cut (f ∷ fs) is e =
    let p = parted is (listed f) (flat_map listed fs) e in
    more_texts is f fs p (cut fs p.back p.back_words)

-- ---- an instruction in one of some texts

pub record Located (is : List Instruction) (texts : List (List Instruction)) (k : ℕ) (i : Instruction) : Type 0 where
  pub before : List Instruction
  pub text : List Instruction
  pub after : List Instruction
  pub number : ℕ
  pub place : ℕ
  pub same : is ≡ before ++ (text ++ after)
  pub is_text : slice_get texts number ≡ Some text
  pub at : slice_get text place ≡ Some i
  pub counted : k ≡ length before + place

abbrev InFront : List Instruction → List Instruction → ℕ → Instruction → Type 0
InFront xs ys k i = (slice_get xs k ≡ Some i) ⊎ ((m : ℕ) × (k ≡ length xs + m) × (slice_get ys m ≡ Some i))

one_later : (x : Instruction) (xs ys : List Instruction) (k : ℕ) (i : Instruction) → InFront xs ys k i → InFront (x ∷ xs) ys (suc k) i
one_later x xs ys k i (inl at) = inl at
one_later x xs ys k i (inr r) = inr (r.0, omega (arith, r.1), r.2)

in_two : (xs ys : List Instruction) (k : ℕ) (i : Instruction) → slice_get (xs ++ ys) k ≡ Some i → InFront xs ys k i
in_two [] ys k i e = inr (k, omega arith, e)
in_two (x ∷ xs) ys zero i e = inl e
in_two (x ∷ xs) ys (suc k) i e = one_later x xs ys k i (in_two xs ys k i e)

behind : (xs ys : List Instruction) (k m place : ℕ) → k ≡ length xs + m → m ≡ length ys + place → k ≡ length (xs ++ ys) + place
behind xs ys k m place e g = omega (arith, e, g, length-append xs ys)

later_text : (t : List Instruction) (ts : List (List Instruction)) (k m : ℕ) (i : Instruction) → k ≡ length t + m → Located (joined ts) ts m i
    → Located (joined (t ∷ ts)) (t ∷ ts) k i
later_text t ts k m i e l = record {
  before = t ++ l.before;
  text = l.text;
  after = l.after;
  number = suc l.number;
  place = l.place;
  same = ap (λ z. t ++ z) l.same ∙ sym (append_assoc t l.before (l.text ++ l.after));
  is_text = l.is_text;
  at = l.at;
  counted = behind t l.before k m l.place e l.counted;
}

in_texts : (ts : List (List Instruction)) (k : ℕ) (i : Instruction) → slice_get (joined ts) k ≡ Some i → Located (joined ts) ts k i
in_texts [] k i e = absurd (cc e)
in_texts (t ∷ ts) k i e = elim (in_two t (joined ts) k i e) [
  | inl here ↦ record {
    before = [];
    text = t;
    after = joined ts;
    number = 0;
    place = k;
    same = refl;
    is_text = refl;
    at = here;
    counted = omega arith;
  }
  | inr r ↦ later_text t ts k r.0 i r.1 (in_texts ts r.0 i r.2)
]

-- behind others
behind_front : (xs : List Instruction) (ts : List (List Instruction)) (k m : ℕ) (i : Instruction) → k ≡ length xs + m → Located (joined ts) ts m i
    → Located (xs ++ joined ts) ts k i
behind_front xs ts k m i e l = record {
  before = xs ++ l.before;
  text = l.text;
  after = l.after;
  number = l.number;
  place = l.place;
  same = ap (λ z. xs ++ z) l.same ∙ sym (append_assoc xs l.before (l.text ++ l.after));
  is_text = l.is_text;
  at = l.at;
  counted = behind xs l.before k m l.place e l.counted;
}

-- nothing in front is of functions
abbrev pub begun : List Instruction → (k : ℕ) → Instruction → Bool
begun insts k i = list_any is_function (take k insts) || is_function i

front_begins_none : (xs ys : List Instruction) (k : ℕ) (i : Instruction) → AllByRecursion BeginsNone xs → slice_get xs k ≡ Some i → begun (xs ++ ys) k i ≡ false
front_begins_none [] ys k i none e = absurd (cc e)
front_begins_none (x ∷ xs) ys zero i none e = let here : x ≡ i = cc e in ap is_function (sym here) ∙ none.0
front_begins_none (x ∷ xs) ys (suc k) i none e =
    ap (λ (b : Bool). (b || list_any is_function (take k (xs ++ ys))) || is_function i) none.0 ∙ front_begins_none xs ys k i none.1 e

-- no function begins outside functions
outside_begins_none : (is : List Instruction) → AllByRecursion BeginsNone (outside is)
outside_begins_none [] = tt
outside_begins_none (i ∷ is) = by (is_function i) refl (outside_begins_none is) where
  by : (b : Bool) → is_function i ≡ b → AllByRecursion BeginsNone (outside is) → AllByRecursion BeginsNone (cond b [] (i ∷ outside is))
  by true e more = tt
  by false e more = (e, more)

-- ---- the functions of a module that is built

-- the k-th function, with its tree
pub record IsOfTree (insts : List Instruction) (fs : List Function) (k : ℕ) (t : List Instruction) : Type 0 where
  pub function : Function
  pub at : slice_get fs k ≡ Some function
  pub lists : words_of t ≡ listed function
  pub built : FunctionIsBuilt insts function
  pub formed : AreInstructions t

-- instructions are those outside functions, and then the listings of functions that are built
pub record AreListed (insts : List Instruction) (fs : List Function) : Type 0 where
  pub lines : words_of insts ≡ words_of (outside insts) ++ flat_map listed fs
  pub functions : AllByRecursion (FunctionIsBuilt insts) fs

pub are_listed : (insts : List Instruction) (fs : List Function) → AreBuilt insts fs → AreListed insts fs
are_listed insts fs b = record { lines = b.lines; functions = b.functions }

module _ (insts : List Instruction) (fs : List Function) (b : AreListed insts fs) (formed : AreInstructions insts) where
  pub halves : Parted insts (words_of (outside insts)) (flat_map listed fs)
  halves = parted insts (words_of (outside insts)) (flat_map listed fs) b.lines

  pub pieces : Cut halves.back fs
  pieces = cut fs halves.back halves.back_words

  pub whole : insts ≡ halves.front ++ joined pieces.texts
  whole = halves.same ∙ ap (λ z. halves.front ++ z) pieces.same

  each_formed : AllByRecursion (AllByRecursion IsFormed) pieces.texts
  each_formed =
      all_in_texts IsFormed pieces.texts
      (all_right IsFormed halves.front (joined pieces.texts) (subst (AllByRecursion IsFormed) whole (all_at IsFormed insts formed)))

  pub known : (k : ℕ) (t : List Instruction) → slice_get pieces.texts k ≡ Some t → IsOfTree insts fs k t
  known k t e =
      let below : k < length fs = subst (λ m. k < m) pieces.count (place_below pieces.texts k t e) in
      let f = one_at fs k below in
      record {
        function = f.0;
        at = f.1;
        lists = pieces.each k t f.0 e f.1;
        built = at_all (FunctionIsBuilt insts) fs b.functions k f.0 f.1;
        formed = at_all IsFormed t (at_all (AllByRecursion IsFormed) pieces.texts each_formed k t e);
      }

  are_pieces : AllByRecursion IsPiece pieces.texts
  are_pieces =
      all_at IsPiece pieces.texts (λ k t e. let o = known k t e in piece_of_text t (listing_text o.function t o.built.sound o.built.opens o.lists))

  begins_none : AllByRecursion BeginsNone halves.front
  begins_none = all_by_words (λ w. (opcode_in w == op.FUNCTION) ≡ false) halves.front (outside insts) halves.front_words (outside_begins_none insts)

  pub functions_are : functions_in insts ≡ pieces.texts
  functions_are = ap functions_in whole ∙ functions_behind halves.front pieces.texts begins_none are_pieces

  pub outside_is : outside insts ≡ halves.front
  outside_is = ap outside whole ∙ outside_front halves.front pieces.texts begins_none are_pieces

  pub count_is : count_by is_function insts ≡ length fs
  count_is = functions_count insts pieces.texts functions_are ∙ pieces.count

  pub tree_at : (k : ℕ) → k < count_by is_function insts → IsOfTree insts fs k (function_insts k insts)
  tree_at k below =
      let t = one_at pieces.texts k (subst (λ m. k < m) (functions_count insts pieces.texts functions_are) below) in
      subst (IsOfTree insts fs k) (sym (function_at_place insts pieces.texts functions_are k t.0 t.1)) (known k t.0 t.1)

  -- an instruction stands before the first function, or in one of the functions
  pub locate : (k : ℕ) (i : Instruction) → slice_get insts k ≡ Some i → (begun insts k i ≡ false) ⊎ Located insts pieces.texts k i
  locate k i at =
      elim (in_two halves.front (joined pieces.texts) k i (subst (λ (z : List Instruction). slice_get z k ≡ Some i) whole at)) [
        | inl front ↦ inl (subst (λ (z : List Instruction). begun z k i ≡ false) (sym whole) (front_begins_none halves.front (joined pieces.texts) k i begins_none front))
        | inr r ↦ inr (subst (λ (z : List Instruction). Located z pieces.texts k i) (sym whole)
            (behind_front halves.front pieces.texts k r.0 i r.1 (in_texts pieces.texts r.0 i r.2)))
      ]
