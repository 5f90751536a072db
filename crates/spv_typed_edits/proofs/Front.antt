-- Types are declared in front: where no type is declared behind, an id is defined by the same words in front in both modules, or is no type in either.
use Rattle.std.proofs.Common.{◌≡◌, ◌⊎◌, inl, inr, ℕ, Bool, true, false, cond, List, [], ◌∷◌, ◌++◌, drop, Option, Some, None, refl, sym, ap, subst, ◌∙◌, true≢false}
use Rattle.std.specs.Prelude.{nat_eq, slice_index}
use Rattle.std.specs.List.{find, position, slice_get}
use Rattle.std.specs.Option.{option_and_then, option_map_or}
use Rattle.std.proofs.lemmas.List.Elements.{All-head, All-tail}
use Rattle.spv_grammar.specs.Operands.{opcode_of, roles_of}
use Rattle.spv_grammar.specs.Roles.{is_defined_id}
use Rattle.spv_module.specs.Instruction.{Instruction, opcode, parts}
use Rattle.spv_ids.specs.Ids.{defines, definition}
use Rattle.spv_typing.specs.Kinds.{is_one_of}
use Rattle.spv_tree.specs.Tree.{words_of}
use Rattle.spv_typed_edits.specs.Edits.{DeclareNoTypes, is_type, type_kinds}
use Rattle.spv_typed_edits.specs.Laws.{TypesStandInFront}

-- ---- what is found

abbrev found_type : Option Instruction → Bool
found_type found = is_one_of type_kinds (option_map_or opcode found 0)

abbrev found_words : Option Instruction → List ℕ
found_words found = option_map_or (λ i. drop 0 i.words) found []

type_by_words : (found : Option Instruction) → found_type found ≡ is_one_of type_kinds (opcode_of (slice_index (found_words found) 0))
type_by_words None = refl
type_by_words (Some i) = refl

-- ---- behind

abbrev IsNone : Instruction → Type 0
IsNone i = is_one_of type_kinds (opcode i) ≡ false

-- by recursion on the instructions
none_declared : (insts : List Instruction) (t : ℕ) → DeclareNoTypes insts → is_type insts t ≡ false
none_declared [] t none = refl
none_declared (i ∷ is) t none =
    by (defines t i) (All-head IsNone i is none) (none_declared is t (All-tail IsNone i is none))
  where
    by : (b : Bool) → IsNone i → is_type is t ≡ false → found_type (cond b (Some i) (find (defines t) is)) ≡ false
    by true here more = here
    by false here more = more

-- ---- in front

defines_alike : (t : ℕ) (i j : Instruction) → j.words ≡ i.words → defines t j ≡ defines t i
defines_alike t i j e =
    ap (λ (ws : List ℕ). option_map_or (nat_eq t) (option_and_then (slice_get ws) (position is_defined_id (parts (roles_of ws)))) false) e

module _ (before after : List Instruction) (t : ℕ) (none : DeclareNoTypes before) (none_there : DeclareNoTypes after) where
  -- the same words, or no type
  abbrev Alike : (here there : Option Instruction) → Type 0
  Alike here there = (found_words there ≡ found_words here) ⊎ ((found_type here ≡ false) × (found_type there ≡ false))

  abbrev Both : (front again : List Instruction) → Type 0
  Both front again = Alike (definition (front ++ before) t) (definition (again ++ after) t)

  -- by recursion on what stands in front
  both : (front again : List Instruction) → words_of again ≡ words_of front → Both front again
  both [] [] e = inr (none_declared before t none, none_declared after t none_there)
  both [] (j ∷ again) e = absurd (cc e)
  both (i ∷ front) [] e = absurd (cc e)
  both (i ∷ front) (j ∷ again) e =
      let here : j.words ≡ i.words = cc e in
      let more : words_of again ≡ words_of front = cc e in
      subst (λ b. Alike (cond (defines t i) (Some i) (find (defines t) (front ++ before))) (cond b (Some j) (find (defines t) (again ++ after))))
      (sym (defines_alike t i j here)) (by here (defines t i) (both front again more))
    where
      by : j.words ≡ i.words → (b : Bool) → Both front again
          → Alike (cond b (Some i) (find (defines t) (front ++ before))) (cond b (Some j) (find (defines t) (again ++ after)))
      by same true more = inl same
      by same false more = more

  same_words : (here there : Option Instruction) → Alike here there → found_type here ≡ true → found_words there ≡ found_words here
  same_words here there (inl e) h = e
  same_words here there (inr neither) h = absurd (true≢false (sym h ∙ neither.0))

  no_type : (here there : Option Instruction) → Alike here there → found_type here ≡ false → found_type there ≡ false
  no_type here there (inl e) h =
      type_by_words there ∙ ap (λ (ws : List ℕ). is_one_of type_kinds (opcode_of (slice_index ws 0))) e ∙ sym (type_by_words here) ∙ h
  no_type here there (inr neither) h = neither.1

pub types_stand_in_front : TypesStandInFront
types_stand_in_front front again before after same none none_there = record {
  words = λ t h. same_words before after t none none_there (definition (front ++ before) t) (definition (again ++ after) t)
      (both before after t none none_there front again same) h;
  others = λ t h. no_type before after t none none_there (definition (front ++ before) t) (definition (again ++ after) t)
      (both before after t none none_there front again same) h;
}
