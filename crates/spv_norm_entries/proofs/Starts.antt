-- Functions by the places of their OpFunction.
use Rattle.std.proofs.Common.{◌≡◌, inl, inr, ◌⊎◌, ℕ, zero, suc, ◌+◌, Bool, true, false, cond, not, ◌==◌, ◌||◌, List, [], ◌∷◌, ◌++◌, drop, take, Some, refl, sym, ap, subst, ◌∙◌, arith}
use Rattle.std.specs.List.{AllByRecursion, list_any, slice_get}
use Rattle.std.proofs.lemmas.List.Sums.{take_while-cons}
use Rattle.spv_opcodes.specs.declared.op.TheConstants as op
use Rattle.spv_module.specs.Code.{is_function}
use Rattle.spv_module.specs.Instruction.{Instruction, opcode}
use Rattle.spv_blocks.specs.Cutting.{is_function_end, rest_of_function, starts, starts_from}
use Rattle.spv_calls.specs.Calls.{function_in, up_to_function}
use Rattle.spv_trees.specs.Standing.{OneOf}
use Rattle.spv_norm.specs.Norm.{outside}
use Rattle.spv_norm_means.proofs.InOrder.{joined}
use Rattle.spv_norm_structured.proofs.Pieces.{BeginsNone, IsPiece, IsPlain}
use Rattle.spv_norm_entries.proofs.Lists.{IsBack, front_or_back}

-- ---- the number of a function gives the place of an OpFunction

pub record IsStart (is : List Instruction) (n first : ℕ) : Type 0 where
  pub place : ℕ
  pub inst : Instruction
  pub first_is : first ≡ n + place
  pub there : slice_get is place ≡ Some inst
  pub begins : is_function inst ≡ true

one_later : (n first : ℕ) (i : Instruction) (is : List Instruction) → IsStart is (n + 1) first → IsStart (i ∷ is) n first
one_later n first i is s = record {
  place = suc s.place;
  inst = s.inst;
  first_is = s.first_is ∙ more n s.place;
  there = s.there;
  begins = s.begins;
} where
  more : (a b : ℕ) → (a + 1) + b ≡ a + suc b
  more a b = omega arith

-- by induction on the instructions
starts_are : (is : List Instruction) (n f first : ℕ) → slice_get (starts_from n is) f ≡ Some first → IsStart is n first
starts_are [] n f first e = absurd (cc e)
starts_are (i ∷ is) n f first e = by (is_function i) refl f e (λ g h. starts_are is (n + 1) g first h) where
  none_more : (a : ℕ) → a ≡ a + 0
  none_more a = omega arith

  by : (b : Bool) → is_function i ≡ b → (f : ℕ) → slice_get (cond b (n ∷ starts_from (n + 1) is) (starts_from (n + 1) is)) f ≡ Some first
      → ((g : ℕ) → slice_get (starts_from (n + 1) is) g ≡ Some first → IsStart is (n + 1) first) → IsStart (i ∷ is) n first
  by true h zero e more =
      let same : n ≡ first = cc e in
      record { place = 0; inst = i; first_is = sym same ∙ none_more n; there = refl; begins = h }
  by true h (suc g) e more = one_later n first i is (more g e)
  by false h g e more = one_later n first i is (more g e)

pub start_of : (is : List Instruction) (f first : ℕ) → slice_get (starts is) f ≡ Some first
    → (i : Instruction) × (slice_get is first ≡ Some i) × (is_function i ≡ true)
start_of is f first e =
    let s = starts_are is 0 f first e in
    let same : first ≡ s.place = s.first_is ∙ nothing s.place in
    (s.inst, ap (slice_get is) same ∙ s.there, s.begins)
  where
    nothing : (n : ℕ) → 0 + n ≡ n
    nothing n = omega arith

-- ---- up to the next OpFunction

pub up_step : (i : Instruction) (is : List Instruction) (b : Bool) → is_function i ≡ b → up_to_function (i ∷ is) ≡ cond b [] (i ∷ up_to_function is)
up_step i is b h = take_while-cons (λ (x : Instruction). not (is_function x)) i is ∙ by b h where
  by : (b : Bool) → is_function i ≡ b → cond (not (is_function i)) (i ∷ up_to_function is) [] ≡ cond b [] (i ∷ up_to_function is)
  by true e = ap (λ (z : Bool). cond (not z) (i ∷ up_to_function is) []) e
  by false e = ap (λ (z : Bool). cond (not z) (i ∷ up_to_function is) []) e

-- what ends with OpFunctionEnd or before the next OpFunction stands before that; induction on the instructions
pub rest_within : (is : List Instruction) (x : Instruction) → OneOf x (rest_of_function is) → OneOf x (up_to_function is)
rest_within [] x h = absurd h
rest_within (i ∷ is) x h = by (is_function i) (is_function_end i) refl h (rest_within is x) where
  by : (b c : Bool) → is_function i ≡ b → OneOf x (cond b [] (cond c (i ∷ []) (i ∷ rest_of_function is)))
      → (OneOf x (rest_of_function is) → OneOf x (up_to_function is)) → OneOf x (up_to_function (i ∷ is))
  by true c f o more = absurd o
  by false true f (inl e) more = subst (OneOf x) (sym (up_step i is false f)) (inl e)
  by false true f (inr o) more = absurd o
  by false false f (inl e) more = subst (OneOf x) (sym (up_step i is false f)) (inl e)
  by false false f (inr o) more = subst (OneOf x) (sym (up_step i is false f)) (inr (more o))

-- ---- functions, one after another

plain_up : (inner : List Instruction) (more : List Instruction) → AllByRecursion BeginsNone inner → up_to_function more ≡ []
    → up_to_function (inner ++ more) ≡ inner
plain_up [] more h none = none
plain_up (i ∷ is) more h none = up_step i (is ++ more) false h.0 ∙ ap (λ z. i ∷ z) (plain_up is more h.1 none)

piece_begins : (t : List Instruction) (p : IsPiece t) (more : List Instruction) → up_to_function (t ++ more) ≡ []
piece_begins t p more =
    ap (λ z. up_to_function (z ++ more)) p.same ∙ up_step p.function ((p.inner ++ p.last ∷ []) ++ more) true (ap (λ o. o == op.FUNCTION) p.begins)

joined_begins : (ts : List (List Instruction)) → AllByRecursion IsPiece ts → up_to_function (joined ts) ≡ []
joined_begins [] h = refl
joined_begins (t ∷ ts) h = piece_begins t h.0 (joined ts)

inner_begins : (inner : List Instruction) (last : Instruction) → AllByRecursion IsPlain inner → opcode last ≡ op.FUNCTION_END
    → AllByRecursion BeginsNone (inner ++ last ∷ [])
inner_begins [] last h e = (ap (λ o. o == op.FUNCTION) e, tt)
inner_begins (i ∷ is) last h e = (h.0.begins, inner_begins is last h.1 e)

pub begins_none_at : (is : List Instruction) (k : ℕ) (i : Instruction) → AllByRecursion BeginsNone is → slice_get is k ≡ Some i → is_function i ≡ false
begins_none_at [] k i h e = absurd (cc e)
begins_none_at (x ∷ xs) zero i h e = let same : x ≡ i = cc e in ap is_function (sym same) ∙ h.0
begins_none_at (x ∷ xs) (suc k) i h e = begins_none_at xs k i h.1 e

-- an OpFunction among functions, one after another, begins one of them
pub record IsBegun (ts : List (List Instruction)) (k : ℕ) (i : Instruction) : Type 0 where
  pub number : ℕ
  pub text : List Instruction
  pub rest : List Instruction
  pub at : slice_get ts number ≡ Some text
  pub same : text ≡ i ∷ rest
  pub begun : function_in (drop k (joined ts)) ≡ text

function_step : (i : Instruction) (is : List Instruction) → is_function i ≡ true → function_in (i ∷ is) ≡ i ∷ up_to_function is
function_step i is h = ap (λ (b : Bool). cond b (i ∷ up_to_function is) []) h

in_first : (t : List Instruction) (ts : List (List Instruction)) (p : IsPiece t) → AllByRecursion IsPiece ts → (k : ℕ) (i : Instruction)
    → slice_get (p.function ∷ (p.inner ++ p.last ∷ [])) k ≡ Some i → is_function i ≡ true → IsBegun (t ∷ ts) k i
in_first t ts p others zero i e f =
    let rest : List Instruction = p.inner ++ p.last ∷ [] in
    let same : p.function ≡ i = cc e in
    let text : t ≡ i ∷ rest = p.same ∙ ap (λ z. z ∷ rest) same in
    record {
      number = 0;
      text = t;
      rest = rest;
      at = refl;
      same = text;
      begun =
          ap (λ z. function_in (z ++ joined ts)) text ∙ function_step i (rest ++ joined ts) f
          ∙ ap (λ z. i ∷ z) (plain_up rest (joined ts) (inner_begins p.inner p.last p.plain p.ends) (joined_begins ts others)) ∙ sym text;
    }
in_first t ts p others (suc k) i e f =
    absurd (cc (f, begins_none_at (p.inner ++ p.last ∷ []) k i (inner_begins p.inner p.last p.plain p.ends) e))

-- by induction on the functions
pub begun_at : (ts : List (List Instruction)) → AllByRecursion IsPiece ts → (k : ℕ) (i : Instruction) → slice_get (joined ts) k ≡ Some i → is_function i ≡ true
    → IsBegun ts k i
begun_at [] h k i e f = absurd (cc e)
begun_at (t ∷ ts) h k i e f = elim (front_or_back t (joined ts) k i e) [
  | inl r ↦ in_first t ts h.0 h.1 k i (ap (λ z. slice_get z k) (sym h.0.same) ∙ r.there) f
  | inr r ↦ later r (begun_at ts h.1 r.place i r.there f)
] where
  later : (r : IsBack t (joined ts) k i) → IsBegun ts r.place i → IsBegun (t ∷ ts) k i
  later r b = record {
    number = suc b.number;
    text = b.text;
    rest = b.rest;
    at = b.at;
    same = b.same;
    begun = ap function_in r.behind ∙ b.begun;
  }

-- behind the first place among them an OpFunction stands before
pub behind_begun : (ts : List (List Instruction)) → AllByRecursion IsPiece ts → (k : ℕ) (i : Instruction) → slice_get (joined ts) k ≡ Some i
    → (is_function i ≡ true) ⊎ (list_any is_function (take k (joined ts)) ≡ true)
behind_begun [] h k i e = absurd (cc e)
behind_begun (t ∷ ts) h k i e = by k (ap (λ z. slice_get (z ++ joined ts) k) (sym h.0.same) ∙ e) where
  more : List Instruction
  more = (h.0.inner ++ h.0.last ∷ []) ++ joined ts

  begins : is_function h.0.function ≡ true
  begins = ap (λ o. o == op.FUNCTION) h.0.begins

  by : (k : ℕ) → slice_get (h.0.function ∷ more) k ≡ Some i → (is_function i ≡ true) ⊎ (list_any is_function (take k (t ++ joined ts)) ≡ true)
  by zero e = let same : h.0.function ≡ i = cc e in inl (ap is_function (sym same) ∙ begins)
  by (suc k) e =
      inr (ap (λ z. list_any is_function (take (suc k) (z ++ joined ts))) h.0.same ∙ ap (λ (b : Bool). b || list_any is_function (take k more)) begins)

pub outside_none : (is : List Instruction) → AllByRecursion BeginsNone (outside is)
outside_none [] = tt
outside_none (i ∷ is) = by (is_function i) refl (outside_none is) where
  by : (b : Bool) → is_function i ≡ b → AllByRecursion BeginsNone (outside is) → AllByRecursion BeginsNone (cond b [] (i ∷ outside is))
  by true e more = tt
  by false e more = (e, more)
