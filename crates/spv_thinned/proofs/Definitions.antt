-- An id that stays is defined by the same words, and by an instruction that is kept.
use Rattle.std.proofs.Common.{◌≡◌, ℕ, suc, Bool, true, false, cond, ◌==◌, ◌||◌, List, [], ◌∷◌, drop, map, Option, Some, None, refl, sym, ap, subst, ◌∙◌, true≢false}
use Rattle.std.specs.List.{AllByRecursion, filter, position, slice_get, slice_index, zip}
use Rattle.std.specs.Option.{option_and_then, option_map, option_map_or}
use Rattle.spv_opcodes.specs.declared.op.TheConstants as op
use Rattle.spv_grammar.specs.declared.kind.Role.{Role}
use Rattle.spv_grammar.specs.Operands.{opcode_of}
use Rattle.spv_grammar.specs.Roles.{is_type_id, is_used_id}
use Rattle.spv_module.specs.Code.{is_function}
use Rattle.spv_module.specs.Instruction.{Instruction, IsInstruction, opcode, roles, word_with}
use Rattle.spv_ids.specs.Ids.{defines, definition, is_needed, kind, word_of, words_of, used_ids}
use Rattle.spv_ids.proofs.Places.{position-cons}
use Rattle.spv_typing.specs.Kinds.{is_constant, is_int, type_of}
use Rattle.spv_typing.specs.Operations.{spec_op_fits}
use Rattle.spv_values.specs.Values.{given_type, value_type}
use Rattle.spv_declarations.proofs.Parts.{used_in}
use Rattle.spv_alike_uses.specs.Alike.{Stays}
use Rattle.spv_thinned.specs.Thinned.{IsDropped, IsKept, IsThinned}
use Rattle.spv_thinned.proofs.Walk.{inst, found, walk}

-- what is known of each instruction of the module
pub record Fact (gone : ℕ → Bool) (keep : Instruction → Bool) (before : List Instruction) (i : Instruction) : Type 0 where
  pub whole : IsInstruction i.words (roles i)
  pub dropped : keep i ≡ false → IsDropped gone i
  pub kept : keep i ≡ true → IsKept gone i
  -- the length of an array type is a constant of a type of integers
  pub length : (opcode i == op.TYPE_ARRAY) ≡ true
      → (is_constant before (slice_index i.words 3) ≡ true) × (is_int before (type_of before (slice_index i.words 3)) ≡ true)
  pub operation : opcode i ≡ op.SPEC_CONSTANT_OP → spec_op_fits before i ≡ true

-- ---- by words

abbrev pub words_in : Option Instruction → Option (List ℕ)
words_in o = option_map (λ i. i.words) o

told_or : {A : Type 0} (f : List ℕ → A) (z : A) (o : Option Instruction) → option_map_or (λ i. f i.words) o z ≡ option_map_or f (words_in o) z
told_or f z None = refl
told_or f z (Some i) = refl

pub same_or : {A : Type 0} (f : List ℕ → A) (z : A) (o p : Option Instruction) → words_in p ≡ words_in o → option_map_or (λ i. f i.words) p z ≡ option_map_or (λ i. f i.words) o z
same_or f z o p h = told_or f z p ∙ ap (λ ws. option_map_or f ws z) h ∙ sym (told_or f z o)

told_then : (o : Option Instruction) → option_and_then given_type o ≡ option_and_then (λ ws. given_type (inst ws)) (words_in o)
told_then None = refl
told_then (Some i) = refl

same_then : (o p : Option Instruction) → words_in p ≡ words_in o → option_and_then given_type p ≡ option_and_then given_type o
same_then o p h = told_then p ∙ ap (option_and_then (λ ws. given_type (inst ws))) h ∙ sym (told_then o)

-- instructions of the same words define the same
pub same_defines : (id : ℕ) (i j : Instruction) → j.words ≡ i.words → defines id j ≡ defines id i
same_defines id i j e = ap (λ ws. defines id (inst ws)) e

-- ---- the type is used

behind_one : (P : ℕ → Type 0) (b : Bool) (part : Role × ℕ) (parts : List (Role × ℕ)) →
    AllByRecursion P (map (λ part. part.1) (cond b (part ∷ parts) parts)) → AllByRecursion P (map (λ part. part.1) parts)
behind_one P true part parts h = h.1
behind_one P false part parts h = h

none_there : (p : Option ℕ) (t : ℕ) → option_and_then (slice_get []) p ≡ Some t → ⊥
none_there None t h = absurd (cc h)
none_there (Some k) t h = absurd (cc h)

one_later : (w : ℕ) (ws : List ℕ) (p : Option ℕ) → option_and_then (slice_get (w ∷ ws)) (option_map (λ k. suc k) p) ≡ option_and_then (slice_get ws) p
one_later w ws None = refl
one_later w ws (Some k) = refl

type_used : (P : ℕ → Type 0) (rs : List Role) (ws : List ℕ) (t : ℕ) → option_and_then (slice_get ws) (position is_type_id rs) ≡ Some t → AllByRecursion P (used_in rs ws) → P t
type_used P [] ws t h all = absurd (cc h)
type_used P (r ∷ rs) [] t h all = absurd (none_there (position is_type_id (r ∷ rs)) t h)
type_used P (r ∷ rs) (w ∷ ws) t h all =
    by (is_type_id r) refl (type_used P rs ws t) (sym (ap (option_and_then (slice_get (w ∷ ws))) (position-cons is_type_id r rs)) ∙ h)
  where
    parts : List (Role × ℕ)
    parts = filter (λ part. is_needed part.0) (zip rs ws)

    by : (b : Bool) → is_type_id r ≡ b → (option_and_then (slice_get ws) (position is_type_id rs) ≡ Some t → AllByRecursion P (used_in rs ws) → P t)
        → option_and_then (slice_get (w ∷ ws)) (cond b (Some 0) (option_map (λ k. suc k) (position is_type_id rs))) ≡ Some t → P t
    by true e more h =
        let same : w ≡ t = cc h in
        let needed : is_needed r ≡ true = ap (λ (b : Bool). b || is_used_id r) e in
        subst P same (subst (λ (b : Bool). AllByRecursion P (map (λ part. part.1) (cond b ((r, w) ∷ parts) parts))) needed all).0
    by false e more h = more (sym (one_later w ws (position is_type_id rs)) ∙ h) (behind_one P (is_needed r) (r, w) parts all)

given_used : (P : ℕ → Type 0) (i : Instruction) (t : ℕ) → given_type i ≡ Some t → AllByRecursion P (used_ids i) → P t
given_used P i t h all = type_used P (roles i) i.words t (by (is_function i) h) all
  where
    by : (b : Bool) → cond b None (word_with is_type_id i) ≡ Some t → word_with is_type_id i ≡ Some t
    by true e = absurd (cc e)
    by false e = e

module _ (gone : ℕ → Bool) (keep : Instruction → Bool) (before : List Instruction) (facts : AllByRecursion (Fact gone keep before) before) where
  abbrev F : Instruction → Type 0
  F i = Fact gone keep before i

  -- what is dropped defines nothing that stays
  pub defines_none : (id : ℕ) → Stays gone id → (i : Instruction) → F i → keep i ≡ false → defines id i ≡ false
  defines_none id s i f e = by (defines id i) refl
    where
      by : (b : Bool) → defines id i ≡ b → b ≡ false
      by true d = absurd (true≢false (sym ((f.dropped e).defined id d) ∙ s))
      by false d = refl

  -- an id that stays is defined by what is kept
  pub kept_definition : (id : ℕ) → Stays gone id → (i : Instruction) → definition before id ≡ Some i → F i × IsKept gone i
  kept_definition id s i h = by (keep i) refl
    where
      at : F i × (defines id i ≡ true)
      at = found (defines id) F before i facts h

      by : (b : Bool) → keep i ≡ b → F i × IsKept gone i
      by true e = (at.0, at.0.kept e)
      by false e = absurd (true≢false (sym at.1 ∙ defines_none id s i at.0 e))

  pub types_stay : (id t : ℕ) → Stays gone id → value_type before id ≡ Some t → Stays gone t
  types_stay id t s h = by (definition before id) refl h
    where
      by : (o : Option Instruction) → definition before id ≡ o → option_and_then given_type o ≡ Some t → Stays gone t
      by None e h = absurd (cc h)
      by (Some i) e h = given_used (Stays gone) i t h (kept_definition id s i e).1.used

module _ (gone : ℕ → Bool) (keep : Instruction → Bool) (before after : List Instruction) (thin : IsThinned gone keep before after)
    (facts : AllByRecursion (Fact gone keep before) before) (id : ℕ) (s : Stays gone id) where
  abbrev IsSame : List Instruction → List Instruction → Type 0
  IsSame is js = words_in (definition js id) ≡ words_in (definition is id)

  dropped_same : (i : Instruction) (is js : List Instruction) → Fact gone keep before i → keep i ≡ false → IsSame is js → IsSame (i ∷ is) js
  dropped_same i is js f e h =
      h ∙ sym (ap (λ (b : Bool). words_in (cond b (Some i) (definition is id))) (defines_none gone keep before facts id s i f e))

  kept_same : (i j : Instruction) (is js : List Instruction) → Fact gone keep before i → keep i ≡ true → j.words ≡ i.words → IsSame is js → IsSame (i ∷ is) (j ∷ js)
  kept_same i j is js f e w h = ap (λ (b : Bool). words_in (cond b (Some j) (definition js id))) (same_defines id i j w) ∙ by (defines id i)
    where
      by : (b : Bool) → words_in (cond b (Some j) (definition js id)) ≡ words_in (cond b (Some i) (definition is id))
      by true = ap Some w
      by false = h

  pub same_definition : words_in (definition after id) ≡ words_in (definition before id)
  same_definition = walk keep (Fact gone keep before) IsSame refl dropped_same kept_same before after facts thin.words

  pub same_kind : kind after id ≡ kind before id
  same_kind = same_or (λ ws. opcode_of (slice_index ws 0)) 0 (definition before id) (definition after id) same_definition

  pub same_word : (k : ℕ) → word_of after id k ≡ word_of before id k
  same_word k = same_or (λ ws. slice_index ws k) 0 (definition before id) (definition after id) same_definition

  pub same_words : (k : ℕ) → words_of after id k ≡ words_of before id k
  same_words k = same_or (drop k) [] (definition before id) (definition after id) same_definition

  pub same_value : value_type after id ≡ value_type before id
  same_value = same_then (definition before id) (definition after id) same_definition
