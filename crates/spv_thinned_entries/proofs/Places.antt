-- The places of what is left: where its instructions stood in the module.
use Rattle.std.proofs.Common.{◌≡◌, inl, inr, ℕ, zero, suc, Bool, true, false, cond, List, [], ◌∷◌, filter, drop, take, Option, Some, None, refl, sym, ap, ap₂, subst, ◌∙◌}
use Rattle.std.specs.List.{slice_get}
use Rattle.std.specs.Option.{option_map}
use Rattle.spv_module.specs.Code.{is_function}
use Rattle.spv_module.specs.Instruction.{Instruction}
use Rattle.spv_meaning.specs.Statements.{words_of}
use Rattle.spv_ids.specs.Ids.{defines, place_of}
use Rattle.spv_ids.proofs.Places.{position-cons}
use Rattle.spv_calls.specs.Calls.{function_at, function_in, up_to_function}
use Rattle.spv_trees.specs.Standing.{OneOf}
use Rattle.spv_norm_entries.proofs.Starts.{up_step}
use Rattle.spv_thinned.proofs.Walk.{inst, walk}
use Rattle.spv_thinned.proofs.Definitions.{defines_none}
use Rattle.spv_thinned.proofs.Places.{no_function}
use Rattle.spv_thinned_entries.proofs.Cases.{FactOf, In, Thinning}

-- ---- the place before of what stands at a place after

abbrev under : (ℕ → ℕ) → ℕ → ℕ
under f zero = 0
under f (suc p) = suc (f p)

abbrev pub lift : (keep : Instruction → Bool) → List Instruction → ℕ → ℕ
lift keep [] p = p
lift keep (i ∷ is) p = cond (keep i) (under (lift keep is) p) (suc (lift keep is p))

lift_kept : (keep : Instruction → Bool) (i : Instruction) (is : List Instruction) (p : ℕ) → keep i ≡ true → lift keep (i ∷ is) p ≡ under (lift keep is) p
lift_kept keep i is p e = ap (λ (b : Bool). cond b (under (lift keep is) p) (suc (lift keep is p))) e

lift_dropped : (keep : Instruction → Bool) (i : Instruction) (is : List Instruction) (p : ℕ) → keep i ≡ false → lift keep (i ∷ is) p ≡ suc (lift keep is p)
lift_dropped keep i is p e = ap (λ (b : Bool). cond b (under (lift keep is) p) (suc (lift keep is p))) e

-- what is kept in front
kept_front : (keep : Instruction → Bool) (i : Instruction) (is : List Instruction) → keep i ≡ true → words_of (filter keep (i ∷ is)) ≡ i.words ∷ words_of (filter keep is)
kept_front keep i is e = ap (λ (b : Bool). words_of (cond b (i ∷ filter keep is) (filter keep is))) e

dropped_front : (keep : Instruction → Bool) (i : Instruction) (is : List Instruction) → keep i ≡ false → words_of (filter keep (i ∷ is)) ≡ words_of (filter keep is)
dropped_front keep i is e = ap (λ (b : Bool). words_of (cond b (i ∷ filter keep is) (filter keep is))) e

-- an instruction of the module with the words of j, at a place, that is kept
pub record IsAt (keep : Instruction → Bool) (F : Instruction → Type 0) (is js : List Instruction) (p : ℕ) (j : Instruction) (q : ℕ) : Type 0 where
  pub inst : Instruction
  pub there : slice_get is q ≡ Some inst
  pub words : j.words ≡ inst.words
  pub kept : keep inst ≡ true
  pub fact : F inst
  -- those in front after are those in front before that are kept
  pub front : words_of (take p js) ≡ words_of (filter keep (take q is))

-- one of some instructions has the words of j and is kept
pub record IsOne (keep : Instruction → Bool) (F : Instruction → Type 0) (is : List Instruction) (j : Instruction) : Type 0 where
  pub inst : Instruction
  pub one : OneOf inst is
  pub words : j.words ≡ inst.words
  pub kept : keep inst ≡ true
  pub fact : F inst

wider : (keep : Instruction → Bool) (F : Instruction → Type 0) (i : Instruction) (is : List Instruction) (j : Instruction) → IsOne keep F is j → IsOne keep F (i ∷ is) j
wider keep F i is j r = record { inst = r.inst; one = inr r.one; words = r.words; kept = r.kept; fact = r.fact }

module _ (t : Thinning) where
  abbrev keep : Instruction → Bool
  keep = t.keep

  abbrev F : Instruction → Type 0
  F i = FactOf t i

  abbrev pub place : ℕ → ℕ
  place p = lift t.keep t.before p

  -- ---- instructions

  abbrev Stood : List Instruction → List Instruction → Type 0
  Stood is js = (p : ℕ) (j : Instruction) → slice_get js p ≡ Some j → IsAt keep F is js p j (lift keep is p)

  stood_drops : (i : Instruction) (is js : List Instruction) → F i → keep i ≡ false → Stood is js → Stood (i ∷ is) js
  stood_drops i is js f e h p j at =
      let r = h p j at in
      subst (IsAt keep F (i ∷ is) js p j) (sym (lift_dropped keep i is p e)) (record {
        inst = r.inst;
        there = r.there;
        words = r.words;
        kept = r.kept;
        fact = r.fact;
        front = r.front ∙ sym (dropped_front keep i (take (lift keep is p) is) e);
      })

  stood_keeps : (i j : Instruction) (is js : List Instruction) → F i → keep i ≡ true → j.words ≡ i.words → Stood is js → Stood (i ∷ is) (j ∷ js)
  stood_keeps i j is js f e w h zero x at =
      let same : j ≡ x = cc at in
      subst (IsAt keep F (i ∷ is) (j ∷ js) 0 x) (sym (lift_kept keep i is 0 e)) (record {
        inst = i;
        there = refl;
        words = ap (λ (y : Instruction). y.words) (sym same) ∙ w;
        kept = e;
        fact = f;
        front = refl;
      })
  stood_keeps i j is js f e w h (suc p) x at =
      let r = h p x at in
      subst (IsAt keep F (i ∷ is) (j ∷ js) (suc p) x) (sym (lift_kept keep i is (suc p) e)) (record {
        inst = r.inst;
        there = r.there;
        words = r.words;
        kept = r.kept;
        fact = r.fact;
        front = ap₂ (λ (a : List ℕ) (b : List (List ℕ)). a ∷ b) w r.front ∙ sym (kept_front keep i (take (lift keep is p) is) e);
      })

  pub stood : (p : ℕ) (j : Instruction) → slice_get t.after p ≡ Some j → IsAt keep F t.before t.after p j (place p)
  stood = walk keep F Stood (λ p j at. absurd (cc at)) stood_drops stood_keeps t.before t.after t.facts t.thin.words

  -- ---- what defines an id that stays

  module _ (id : ℕ) (s : In t id) where
    abbrev SamePlace : List Instruction → List Instruction → Type 0
    SamePlace is js = place_of is id ≡ option_map (lift keep is) (place_of js id)

    later_dropped : (i : Instruction) (is : List Instruction) → keep i ≡ false → (o : Option ℕ)
        → option_map (λ k. suc k) (option_map (lift keep is) o) ≡ option_map (lift keep (i ∷ is)) o
    later_dropped i is e None = refl
    later_dropped i is e (Some k) = ap Some (sym (lift_dropped keep i is k e))

    later_kept : (i : Instruction) (is : List Instruction) → keep i ≡ true → (o : Option ℕ)
        → option_map (λ k. suc k) (option_map (lift keep is) o) ≡ option_map (lift keep (i ∷ is)) (option_map (λ k. suc k) o)
    later_kept i is e None = refl
    later_kept i is e (Some k) = ap Some (sym (lift_kept keep i is (suc k) e))

    place_drops : (i : Instruction) (is js : List Instruction) → F i → keep i ≡ false → SamePlace is js → SamePlace (i ∷ is) js
    place_drops i is js f e h =
        position-cons (defines id) i is
        ∙ ap (λ (b : Bool). cond b (Some 0) (option_map (λ k. suc k) (place_of is id))) (defines_none t.gone keep t.before t.facts id s i f e)
        ∙ ap (option_map (λ k. suc k)) h ∙ later_dropped i is e (place_of js id)

    place_keeps : (i j : Instruction) (is js : List Instruction) → F i → keep i ≡ true → j.words ≡ i.words → SamePlace is js → SamePlace (i ∷ is) (j ∷ js)
    place_keeps i j is js f e w h =
        position-cons (defines id) i is
        ∙ ap (λ (ws : List ℕ). cond (defines id (inst ws)) (Some 0) (option_map (λ k. suc k) (place_of is id))) (sym w)
        ∙ by (defines id j)
        ∙ sym (ap (option_map (lift keep (i ∷ is))) (position-cons (defines id) j js))
      where
        by : (b : Bool) → cond b (Some 0) (option_map (λ k. suc k) (place_of is id))
            ≡ option_map (lift keep (i ∷ is)) (cond b (Some 0) (option_map (λ k. suc k) (place_of js id)))
        by true = ap Some (sym (lift_kept keep i is 0 e))
        by false = ap (option_map (λ k. suc k)) h ∙ later_kept i is e (place_of js id)

    same_place : place_of t.before id ≡ option_map place (place_of t.after id)
    same_place = walk keep F SamePlace refl place_drops place_keeps t.before t.after t.facts t.thin.words

    pub place_stood : (p : ℕ) → place_of t.after id ≡ Some p → place_of t.before id ≡ Some (place p)
    place_stood p e = same_place ∙ ap (option_map place) e

  -- ---- functions

  -- up to the next function
  abbrev StoodUp : List Instruction → List Instruction → Type 0
  StoodUp is js = (x : Instruction) → OneOf x (up_to_function js) → IsOne keep F (up_to_function is) x

  up_drops : (i : Instruction) (is js : List Instruction) → F i → keep i ≡ false → StoodUp is js → StoodUp (i ∷ is) js
  up_drops i is js f e h x o =
      subst (λ z. IsOne keep F z x) (sym (up_step i is false (no_function t.gone keep t.before t.after t.thin t.facts i f e)))
      (wider keep F i (up_to_function is) x (h x o))

  up_keeps : (i j : Instruction) (is js : List Instruction) → F i → keep i ≡ true → j.words ≡ i.words → StoodUp is js → StoodUp (i ∷ is) (j ∷ js)
  up_keeps i j is js f e w h x o = by (is_function i) refl
    where
      first : x ≡ j → IsOne keep F (i ∷ up_to_function is) x
      first s = record { inst = i; one = inl refl; words = ap (λ (y : Instruction). y.words) s ∙ w; kept = e; fact = f }

      either : OneOf x (j ∷ up_to_function js) → IsOne keep F (i ∷ up_to_function is) x
      either (inl s) = first s
      either (inr o) = wider keep F i (up_to_function is) x (h x o)

      by : (b : Bool) → is_function i ≡ b → IsOne keep F (up_to_function (i ∷ is)) x
      by true g = absurd (subst (OneOf x) (up_step j js true (ap (λ ws. is_function (inst ws)) w ∙ g)) o)
      by false g =
          subst (λ z. IsOne keep F z x) (sym (up_step i is false g))
          (either (subst (OneOf x) (up_step j js false (ap (λ ws. is_function (inst ws)) w ∙ g)) o))

  -- the functions at two places
  abbrev StoodAt : List Instruction → List Instruction → Type 0
  StoodAt is js = (p : ℕ) (x : Instruction) → OneOf x (function_in (drop p js)) → IsOne keep F (function_in (drop (lift keep is p) is)) x

  abbrev StoodIn : List Instruction → List Instruction → Type 0
  StoodIn is js = StoodUp is js × StoodAt is js

  at_drops : (i : Instruction) (is js : List Instruction) → F i → keep i ≡ false → StoodIn is js → StoodAt (i ∷ is) js
  at_drops i is js f e h p x o = subst (λ q. IsOne keep F (function_in (drop q (i ∷ is))) x) (sym (lift_dropped keep i is p e)) (h.1 p x o)

  at_keeps : (i j : Instruction) (is js : List Instruction) → F i → keep i ≡ true → j.words ≡ i.words → StoodIn is js → StoodAt (i ∷ is) (j ∷ js)
  at_keeps i j is js f e w h zero x o =
      subst (λ q. IsOne keep F (function_in (drop q (i ∷ is))) x) (sym (lift_kept keep i is 0 e))
      (by (is_function i) (subst (λ ws. OneOf x (cond (is_function (inst ws)) (j ∷ up_to_function js) [])) w o))
    where
      by : (b : Bool) → OneOf x (cond b (j ∷ up_to_function js) []) → IsOne keep F (cond b (i ∷ up_to_function is) []) x
      by true (inl s) = record { inst = i; one = inl refl; words = ap (λ (y : Instruction). y.words) s ∙ w; kept = e; fact = f }
      by true (inr o) = wider keep F i (up_to_function is) x (h.0 x o)
      by false o = absurd o
  at_keeps i j is js f e w h (suc p) x o =
      subst (λ q. IsOne keep F (function_in (drop q (i ∷ is))) x) (sym (lift_kept keep i is (suc p) e)) (h.1 p x o)

  none_at : (p : ℕ) (x : Instruction) → OneOf x (function_in (drop p [])) → ⊥
  none_at zero x o = o
  none_at (suc p) x o = o

  stood_in : StoodIn t.before t.after
  stood_in =
      walk keep F StoodIn (λ x o. absurd o, λ p x o. absurd (none_at p x o))
      (λ i is js f e h. (up_drops i is js f e h.0, at_drops i is js f e h))
      (λ i j is js f e w h. (up_keeps i j is js f e w h.0, at_keeps i j is js f e w h))
      t.before t.after t.facts t.thin.words

  -- what stands in a function stood in it
  pub function_stood : (p : ℕ) (x : Instruction) → OneOf x (function_at t.after p) → IsOne keep F (function_at t.before (place p)) x
  function_stood p x o = stood_in.1 p x o
