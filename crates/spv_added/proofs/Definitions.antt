-- Every id but the new one is defined by the same words.
use Rattle.std.proofs.Common.{◌≡◌, ℕ, suc, Bool, true, false, cond, ◌==◌, ◌||◌, List, [], ◌∷◌, drop, map, Option, Some, None, refl, sym, ap, subst, ◌∙◌, true≢false, eqb-true}
use Rattle.std.specs.List.{AllByRecursion, filter, position, slice_get, slice_index, zip}
use Rattle.std.specs.Option.{option_and_then, option_map, option_map_or}
use Rattle.spv_grammar.specs.declared.kind.Role.{Role}
use Rattle.spv_grammar.specs.Operands.{opcode_of}
use Rattle.spv_grammar.specs.Roles.{is_type_id, is_used_id}
use Rattle.spv_module.specs.Code.{is_function}
use Rattle.spv_module.specs.Instruction.{Instruction, roles, word_with}
use Rattle.spv_ids.specs.Ids.{defines, definition, is_needed, kind, word_of, words_of, used_ids}
use Rattle.spv_ids.proofs.Places.{position-cons}
use Rattle.spv_values.specs.Values.{given_type, value_type}
use Rattle.spv_declarations.proofs.Parts.{used_in}
use Rattle.spv_added.specs.Added.{IsFree, starts_function}
use Rattle.spv_added.proofs.Walk.{Adding, FactOf, In, along, found, inst, new_defines}

-- ---- by words

abbrev pub words_in : Option Instruction → Option (List ℕ)
words_in o = option_map (λ i. i.words) o

told_or : {A : Type 0} (f : List ℕ → A) (z : A) (o : Option Instruction) → option_map_or (λ i. f i.words) o z ≡ option_map_or f (words_in o) z
told_or f z None = refl
told_or f z (Some i) = refl

same_or : {A : Type 0} (f : List ℕ → A) (z : A) (o p : Option Instruction) → words_in p ≡ words_in o
    → option_map_or (λ i. f i.words) p z ≡ option_map_or (λ i. f i.words) o z
same_or f z o p h = told_or f z p ∙ ap (λ ws. option_map_or f ws z) h ∙ sym (told_or f z o)

told_then : (o : Option Instruction) → option_and_then given_type o ≡ option_and_then (λ ws. given_type (inst ws)) (words_in o)
told_then None = refl
told_then (Some i) = refl

same_then : (o p : Option Instruction) → words_in p ≡ words_in o → option_and_then given_type p ≡ option_and_then given_type o
same_then o p h = told_then p ∙ ap (option_and_then (λ ws. given_type (inst ws))) h ∙ sym (told_then o)

-- instructions of the same words define the same
pub same_defines : (id : ℕ) (i j : Instruction) → j.words ≡ i.words → defines id j ≡ defines id i
same_defines id i j e = ap (λ ws. defines id (inst ws)) e

-- ---- the type of a value is used where it is defined

behind_one : (P : ℕ → Type 0) (b : Bool) (part : Role × ℕ) (parts : List (Role × ℕ)) →
    AllByRecursion P (map (λ part. part.1) (cond b (part ∷ parts) parts)) → AllByRecursion P (map (λ part. part.1) parts)
behind_one P true part parts h = h.1
behind_one P false part parts h = h

none_there : (p : Option ℕ) (t : ℕ) → option_and_then (slice_get []) p ≡ Some t → ⊥
none_there None t h = absurd (cc h)
none_there (Some k) t h = absurd (cc h)

one_later : (w : ℕ) (ws : List ℕ) (p : Option ℕ) → option_and_then (slice_get (w ∷ ws)) (option_map (λ k. suc k) p) ≡ option_and_then (slice_get ws) p
one_later w ws None = refl
one_later w ws (Some k) = refl

type_used : (P : ℕ → Type 0) (rs : List Role) (ws : List ℕ) (t : ℕ) → option_and_then (slice_get ws) (position is_type_id rs) ≡ Some t
    → AllByRecursion P (used_in rs ws) → P t
type_used P [] ws t h all = absurd (cc h)
type_used P (r ∷ rs) [] t h all = absurd (none_there (position is_type_id (r ∷ rs)) t h)
type_used P (r ∷ rs) (w ∷ ws) t h all =
    by (is_type_id r) refl (type_used P rs ws t) (sym (ap (option_and_then (slice_get (w ∷ ws))) (position-cons is_type_id r rs)) ∙ h)
  where
    parts : List (Role × ℕ)
    parts = filter (λ part. is_needed part.0) (zip rs ws)

    by : (b : Bool) → is_type_id r ≡ b → (option_and_then (slice_get ws) (position is_type_id rs) ≡ Some t → AllByRecursion P (used_in rs ws) → P t)
        → option_and_then (slice_get (w ∷ ws)) (cond b (Some 0) (option_map (λ k. suc k) (position is_type_id rs))) ≡ Some t → P t
    by true e more h =
        let same : w ≡ t = cc h in
        let needed : is_needed r ≡ true = ap (λ (b : Bool). b || is_used_id r) e in
        subst P same (subst (λ (b : Bool). AllByRecursion P (map (λ part. part.1) (cond b ((r, w) ∷ parts) parts))) needed all).0
    by false e more h = more (sym (one_later w ws (position is_type_id rs)) ∙ h) (behind_one P (is_needed r) (r, w) parts all)

given_used : (P : ℕ → Type 0) (i : Instruction) (t : ℕ) → given_type i ≡ Some t → AllByRecursion P (used_ids i) → P t
given_used P i t h all = type_used P (roles i) i.words t (by (is_function i) h) all
  where
    by : (b : Bool) → cond b None (word_with is_type_id i) ≡ Some t → word_with is_type_id i ≡ Some t
    by true e = absurd (cc e)
    by false e = e

-- ---- what an instruction defines that does not define the id

pub defines_others : (r : ℕ) (i : Instruction) → IsFree r i → (id : ℕ) → defines id i ≡ true → (id == r) ≡ false
defines_others r i f id h = by (id == r) refl
  where
    by : (b : Bool) → (id == r) ≡ b → b ≡ false
    by true e = absurd (true≢false (sym h ∙ ap (λ id. defines id i) (eqb-true id r e) ∙ f.defined))
    by false e = refl

-- ---- the two modules

module _ (t : Adding) where
  -- every other id is defined by an instruction that does not use the new one
  pub old_definition : (id : ℕ) (i : Instruction) → definition t.before id ≡ Some i → FactOf t i × (defines id i ≡ true)
  old_definition id i h = found (defines id) (FactOf t) t.before i t.facts h

  pub types_stay : (id u : ℕ) → value_type t.before id ≡ Some u → In t u
  types_stay id u h = by (definition t.before id) refl h
    where
      by : (o : Option Instruction) → definition t.before id ≡ o → option_and_then given_type o ≡ Some u → In t u
      by None e h = absurd (cc h)
      by (Some i) e h = given_used (In t) i u h (old_definition id i e).0.free.used

  module _ (id : ℕ) (s : In t id) where
    abbrev IsSame : List Instruction → List Instruction → Type 0
    IsSame is js = words_in (definition js id) ≡ words_in (definition is id)

    adds : (j : Instruction) (is js : List Instruction) → starts_function is ≡ true → j.words ≡ t.new.words → IsSame is js → IsSame is (j ∷ js)
    adds j is js b w h = ap (λ (b : Bool). words_in (cond b (Some j) (definition js id))) (new_defines t id j w ∙ s) ∙ h

    keeps : (i j : Instruction) (is js : List Instruction) → FactOf t i → j.words ≡ i.words → IsSame is js → IsSame (i ∷ is) (j ∷ js)
    keeps i j is js f w h = ap (λ (b : Bool). words_in (cond b (Some j) (definition js id))) (same_defines id i j w) ∙ by (defines id i)
      where
        by : (b : Bool) → words_in (cond b (Some j) (definition js id)) ≡ words_in (cond b (Some i) (definition is id))
        by true = ap Some w
        by false = h

    pub same_definition : words_in (definition t.after id) ≡ words_in (definition t.before id)
    same_definition = along t IsSame refl adds keeps

    pub same_kind : kind t.after id ≡ kind t.before id
    same_kind = same_or (λ ws. opcode_of (slice_index ws 0)) 0 (definition t.before id) (definition t.after id) same_definition

    pub same_word : (k : ℕ) → word_of t.after id k ≡ word_of t.before id k
    same_word k = same_or (λ ws. slice_index ws k) 0 (definition t.before id) (definition t.after id) same_definition

    pub same_words : (k : ℕ) → words_of t.after id k ≡ words_of t.before id k
    same_words k = same_or (drop k) [] (definition t.before id) (definition t.after id) same_definition

    pub same_value : value_type t.after id ≡ value_type t.before id
    same_value = same_then (definition t.before id) (definition t.after id) same_definition
