-- Functions by the places of their OpFunction, which stand one later where a declaration is added in front of them.
use Rattle.std.proofs.Common.{◌≡◌, ℕ, zero, suc, Bool, true, false, cond, List, [], ◌∷◌, ◌++◌, drop, Option, Some, None, refl, sym, ap, ap₂, subst, ◌∙◌, true≢false}
use Rattle.std.specs.List.{AllByRecursion, list_any, slice_get}
use Rattle.std.specs.Option.{option_map}
use Rattle.std.proofs.lemmas.Bool.{or_parts}
use Rattle.spv_module.specs.Code.{is_function}
use Rattle.spv_module.specs.Instruction.{Instruction}
use Rattle.spv_meaning.specs.Statements.{words_of}
use Rattle.spv_ids.specs.Ids.{defines, place_of}
use Rattle.spv_ids.proofs.Places.{position-cons}
use Rattle.spv_calls.specs.Calls.{function_at, function_in, up_to_function}
use Rattle.spv_trees.specs.Standing.{OneOf}
use Rattle.spv_norm_entries.proofs.Lists.{one_by_words}
use Rattle.spv_norm_entries.proofs.Starts.{up_step}
use Rattle.spv_added.proofs.Walk.{Adding, FactOf, In, inst, new_defines}
use Rattle.spv_added.proofs.Definitions.{same_defines}
use Rattle.spv_added.proofs.Lists.{one_all}
use Rattle.spv_added.proofs.Places.{no_function}

-- the place before of what stands at a place after, behind some instructions and one more
abbrev pub lower : (front : List Instruction) → ℕ → ℕ
lower [] zero = 0
lower [] (suc p) = p
lower (x ∷ front) zero = 0
lower (x ∷ front) (suc p) = suc (lower front p)

-- ---- instructions of the same words

up_words : (xs ys : List Instruction) → words_of xs ≡ words_of ys → words_of (up_to_function xs) ≡ words_of (up_to_function ys)
up_words [] [] e = refl
up_words [] (y ∷ ys) e = absurd (cc e)
up_words (x ∷ xs) [] e = absurd (cc e)
up_words (x ∷ xs) (y ∷ ys) e = by (is_function y) refl (cc e) (up_words xs ys (cc e))
  where
    by : (b : Bool) → is_function y ≡ b → x.words ≡ y.words → words_of (up_to_function xs) ≡ words_of (up_to_function ys)
        → words_of (up_to_function (x ∷ xs)) ≡ words_of (up_to_function (y ∷ ys))
    by true f w more = ap words_of (up_step x xs true (ap (λ ws. is_function (inst ws)) w ∙ f)) ∙ sym (ap words_of (up_step y ys true f))
    by false f w more =
        ap words_of (up_step x xs false (ap (λ ws. is_function (inst ws)) w ∙ f)) ∙ ap₂ (λ (v : List ℕ) vs. v ∷ vs) w more
        ∙ sym (ap words_of (up_step y ys false f))

function_words : (p : ℕ) (xs ys : List Instruction) → words_of xs ≡ words_of ys → words_of (function_in (drop p xs)) ≡ words_of (function_in (drop p ys))
function_words zero [] [] e = refl
function_words zero [] (y ∷ ys) e = absurd (cc e)
function_words zero (x ∷ xs) [] e = absurd (cc e)
function_words zero (x ∷ xs) (y ∷ ys) e = by (is_function y) refl (cc e) (up_words xs ys (cc e))
  where
    by : (b : Bool) → is_function y ≡ b → x.words ≡ y.words → words_of (up_to_function xs) ≡ words_of (up_to_function ys)
        → words_of (cond (is_function x) (x ∷ up_to_function xs) []) ≡ words_of (cond (is_function y) (y ∷ up_to_function ys) [])
    by true f w more =
        ap (λ (b : Bool). words_of (cond b (x ∷ up_to_function xs) [])) (ap (λ ws. is_function (inst ws)) w ∙ f)
        ∙ ap₂ (λ (v : List ℕ) vs. v ∷ vs) w more ∙ sym (ap (λ (b : Bool). words_of (cond b (y ∷ up_to_function ys) [])) f)
    by false f w more =
        ap (λ (b : Bool). words_of (cond b (x ∷ up_to_function xs) [])) (ap (λ ws. is_function (inst ws)) w ∙ f)
        ∙ sym (ap (λ (b : Bool). words_of (cond b (y ∷ up_to_function ys) [])) f)
function_words (suc p) [] [] e = refl
function_words (suc p) [] (y ∷ ys) e = absurd (cc e)
function_words (suc p) (x ∷ xs) [] e = absurd (cc e)
function_words (suc p) (x ∷ xs) (y ∷ ys) e = function_words p xs ys (cc e)

place_words : (id : ℕ) (xs ys : List Instruction) → words_of xs ≡ words_of ys → place_of xs id ≡ place_of ys id
place_words id [] [] e = refl
place_words id [] (y ∷ ys) e = absurd (cc e)
place_words id (x ∷ xs) [] e = absurd (cc e)
place_words id (x ∷ xs) (y ∷ ys) e =
    position-cons (defines id) x xs
    ∙ ap₂ (λ (b : Bool) o. cond b (Some 0) (option_map (λ k. suc k) o)) (same_defines id y x (cc e)) (place_words id xs ys (cc e))
    ∙ sym (position-cons (defines id) y ys)

record IsThere (is : List Instruction) (p : ℕ) (j : Instruction) : Type 0 where
  inst : Instruction
  there : slice_get is p ≡ Some inst
  words : j.words ≡ inst.words

there_words : (p : ℕ) (xs ys : List Instruction) (j : Instruction) → words_of xs ≡ words_of ys → slice_get xs p ≡ Some j → IsThere ys p j
there_words p [] ys j e at = absurd (cc at)
there_words p (x ∷ xs) [] j e at = absurd (cc e)
there_words zero (x ∷ xs) (y ∷ ys) j e at =
    let same : x ≡ j = cc at in
    let here : x.words ≡ y.words = cc e in
    record { inst = y; there = refl; words = ap (λ (z : Instruction). z.words) (sym same) ∙ here }
there_words (suc p) (x ∷ xs) (y ∷ ys) j e at = let r = there_words p xs ys j (cc e) at in record { inst = r.inst; there = r.there; words = r.words }

-- ---- what is known of each is known of those of a function

all_up : (F : Instruction → Type 0) (is : List Instruction) → AllByRecursion F is → AllByRecursion F (up_to_function is)
all_up F [] all = tt
all_up F (i ∷ is) all = by (is_function i) refl (all_up F is all.1)
  where
    by : (b : Bool) → is_function i ≡ b → AllByRecursion F (up_to_function is) → AllByRecursion F (up_to_function (i ∷ is))
    by true f more = subst (AllByRecursion F) (sym (up_step i is true f)) tt
    by false f more = subst (AllByRecursion F) (sym (up_step i is false f)) (all.0, more)

all_in : (F : Instruction → Type 0) (p : ℕ) (is : List Instruction) → AllByRecursion F is → AllByRecursion F (function_in (drop p is))
all_in F zero [] all = tt
all_in F zero (i ∷ is) all = by (is_function i) (all_up F is all.1)
  where
    by : (b : Bool) → AllByRecursion F (up_to_function is) → AllByRecursion F (cond b (i ∷ up_to_function is) [])
    by true more = (all.0, more)
    by false more = tt
all_in F (suc p) [] all = tt
all_in F (suc p) (i ∷ is) all = all_in F p is all.1

-- ---- behind a front without functions

-- one of some instructions has the words of j
record IsIn (is : List Instruction) (j : Instruction) : Type 0 where
  inst : Instruction
  one : OneOf inst is
  words : j.words ≡ inst.words

in_same : (xs ys : List Instruction) (x : Instruction) → words_of xs ≡ words_of ys → OneOf x xs → IsIn ys x
in_same xs ys x e o = let r = one_by_words xs ys e x o in record { inst = r.0; one = r.1; words = sym r.2 }

none_at : (p : ℕ) (x : Instruction) → OneOf x (function_in (drop p [])) → ⊥
none_at zero x o = o
none_at (suc p) x o = o

no_function_in : (y : Instruction) (ys : List Instruction) (x : Instruction) → is_function y ≡ false → OneOf x (function_in (y ∷ ys)) → ⊥
no_function_in y ys x h o = subst (λ (b : Bool). OneOf x (cond b (y ∷ up_to_function ys) [])) h o

module _ (new : List ℕ) (foreign : is_function (inst new) ≡ false) (rest : List Instruction) where
  -- by induction on the front
  in_front : (front js : List Instruction) (p : ℕ) (x : Instruction) → list_any is_function front ≡ false → words_of js ≡ words_of front ++ new ∷ words_of rest
      → OneOf x (function_in (drop p js)) → IsIn (function_in (drop (lower front p) (front ++ rest))) x
  in_front [] [] p x none e o = absurd (cc e)
  in_front [] (j ∷ js) zero x none e o =
      let here : j.words ≡ new = cc e in
      absurd (no_function_in j js x (ap (λ ws. is_function (inst ws)) here ∙ foreign) o)
  in_front [] (j ∷ js) (suc p) x none e o =
      let later : words_of js ≡ words_of rest = cc e in
      in_same (function_in (drop p js)) (function_in (drop p rest)) x (function_words p js rest later) o
  in_front (i ∷ front) [] p x none e o = absurd (cc e)
  in_front (i ∷ front) (j ∷ js) zero x none e o =
      let here : j.words ≡ i.words = cc e in
      absurd (no_function_in j js x (ap (λ ws. is_function (inst ws)) here ∙ (or_parts (is_function i) (list_any is_function front) none).0) o)
  in_front (i ∷ front) (j ∷ js) (suc p) x none e o =
      in_front front js p x (or_parts (is_function i) (list_any is_function front) none).1 (cc e) o

  there_in : (front js : List Instruction) (p : ℕ) (x : Instruction) → words_of js ≡ words_of front ++ new ∷ words_of rest
      → slice_get js p ≡ Some x → is_function x ≡ true → IsThere (front ++ rest) (lower front p) x
  there_in [] [] p x e at f = absurd (cc e)
  there_in [] (j ∷ js) zero x e at f =
      let here : j.words ≡ new = cc e in
      let same : j ≡ x = cc at in
      absurd (true≢false (sym f ∙ ap is_function (sym same) ∙ ap (λ ws. is_function (inst ws)) here ∙ foreign))
  there_in [] (j ∷ js) (suc p) x e at f =
      let later : words_of js ≡ words_of rest = cc e in
      there_words p js rest x later at
  there_in (i ∷ front) [] p x e at f = absurd (cc at)
  there_in (i ∷ front) (j ∷ js) zero x e at f =
      let here : j.words ≡ i.words = cc e in
      let same : j ≡ x = cc at in
      record { inst = i; there = refl; words = ap (λ (z : Instruction). z.words) (sym same) ∙ here }
  there_in (i ∷ front) (j ∷ js) (suc p) x e at f =
      let later : words_of js ≡ words_of front ++ new ∷ words_of rest = cc e in
      let r = there_in front js p x later at f in
      record { inst = r.inst; there = r.there; words = r.words }

  later_none : (o : Option ℕ) → option_map (lower []) (option_map (λ k. suc k) o) ≡ o
  later_none None = refl
  later_none (Some k) = refl

  later_one : (i : Instruction) (front : List Instruction) (o : Option ℕ)
      → option_map (lower (i ∷ front)) (option_map (λ k. suc k) o) ≡ option_map (λ k. suc k) (option_map (lower front) o)
  later_one i front None = refl
  later_one i front (Some k) = refl

  same_place : (id : ℕ) → defines id (inst new) ≡ false → (front js : List Instruction) → words_of js ≡ words_of front ++ new ∷ words_of rest
      → option_map (lower front) (place_of js id) ≡ place_of (front ++ rest) id
  same_place id other [] [] e = absurd (cc e)
  same_place id other [] (j ∷ js) e =
      let here : j.words ≡ new = cc e in
      let later : words_of js ≡ words_of rest = cc e in
      ap (option_map (lower [])) (position-cons (defines id) j js)
      ∙ ap (λ (b : Bool). option_map (lower []) (cond b (Some 0) (option_map (λ k. suc k) (place_of js id)))) (ap (λ ws. defines id (inst ws)) here ∙ other)
      ∙ later_none (place_of js id) ∙ place_words id js rest later
  same_place id other (i ∷ front) [] e = absurd (cc e)
  same_place id other (i ∷ front) (j ∷ js) e =
      let here : j.words ≡ i.words = cc e in
      ap (option_map (lower (i ∷ front))) (position-cons (defines id) j js)
      ∙ ap (λ (b : Bool). option_map (lower (i ∷ front)) (cond b (Some 0) (option_map (λ k. suc k) (place_of js id)))) (same_defines id i j here)
      ∙ by (defines id i) (same_place id other front js (cc e))
      ∙ sym (position-cons (defines id) i (front ++ rest))
    where
      by : (b : Bool) → option_map (lower front) (place_of js id) ≡ place_of (front ++ rest) id
          → option_map (lower (i ∷ front)) (cond b (Some 0) (option_map (λ k. suc k) (place_of js id)))
          ≡ cond b (Some 0) (option_map (λ k. suc k) (place_of (front ++ rest) id))
      by true more = refl
      by false more = later_one i front (place_of js id) ∙ ap (option_map (λ k. suc k)) more

-- ---- the two modules

-- one of some instructions of the module before has the words of j
pub record IsOne (t : Adding) (is : List Instruction) (j : Instruction) : Type 0 where
  pub inst : Instruction
  pub one : OneOf inst is
  pub words : j.words ≡ inst.words
  pub fact : FactOf t inst

pub record IsAt (t : Adding) (p : ℕ) (j : Instruction) : Type 0 where
  pub inst : Instruction
  pub there : slice_get t.before p ≡ Some inst
  pub words : j.words ≡ inst.words

module _ (t : Adding) where
  abbrev pub place : ℕ → ℕ
  place p = lower t.front p

  -- what stands in a function stood in it
  pub function_stood : (p : ℕ) (x : Instruction) → OneOf x (function_at t.after p) → IsOne t (function_at t.before (lower t.front p)) x
  function_stood p x o =
      let r = in_front t.new.words (no_function t t.new refl) t.rest t.front t.after p x t.added.outside t.added.words o in
      let one : OneOf r.inst (function_at t.before (lower t.front p)) =
      subst (λ is. OneOf r.inst (function_in (drop (lower t.front p) is))) (sym t.added.parts) r.one in
      record {
        inst = r.inst;
        one = one;
        words = r.words;
        fact = one_all (FactOf t) (function_at t.before (lower t.front p)) r.inst (all_in (FactOf t) (lower t.front p) t.before t.facts) one;
      }

  -- and begins where it began
  pub function_there : (p : ℕ) (x : Instruction) → slice_get t.after p ≡ Some x → is_function x ≡ true → IsAt t (lower t.front p) x
  function_there p x at f =
      let r = there_in t.new.words (no_function t t.new refl) t.rest t.front t.after p x t.added.words at f in
      record { inst = r.inst; there = ap (λ is. slice_get is (lower t.front p)) t.added.parts ∙ r.there; words = r.words }

  pub place_stood : (id : ℕ) → In t id → (p : ℕ) → place_of t.after id ≡ Some p → place_of t.before id ≡ Some (lower t.front p)
  place_stood id s p e =
      ap (λ is. place_of is id) t.added.parts
      ∙ sym (same_place t.new.words (no_function t t.new refl) t.rest id (new_defines t id t.new refl ∙ s) t.front t.after t.added.words)
      ∙ ap (option_map (lower t.front)) e
