-- 301 to 303 and 306: what stays is defined where it was, and nothing stands in front that did not before. So no id is defined twice or unknown, and
-- what was new is new.
use Rattle.std.proofs.Common.{◌≡◌, ℕ, Bool, true, false, not, ◌&&◌, ◌||◌, nat_eq, List, [], ◌∷◌, Option, Some, None, refl, sym, ap, ap₂, ◌∙◌}
use Rattle.std.specs.List.{AllByRecursion, filter, list_any, slice_index}
use Rattle.std.specs.Option.{option_map_or}
use Rattle.std.proofs.lemmas.Bool.{or_parts}
use Rattle.spv_grammar.specs.Roles.{is_defined_id}
use Rattle.spv_module.specs.Instruction.{Instruction, word_with}
use Rattle.spv_meaning.specs.Statements.{words_of}
use Rattle.spv_ids.specs.Ids.{is_defined}
use Rattle.spv_repeats.specs.Repeats.{is_decorate, is_member_decorate, is_same_decoration, is_same_member_decoration, is_same_spec_id, is_same_type, is_spec_id, is_unique_type, is_workgroup_size, occurs, repeats, single_decorations}
use Rattle.spv_repeats.specs.Repeats as repeating
use Rattle.spv_alike_uses.specs.Alike.{Stays}
use Rattle.spv_thinned.specs.Thinned.{IsKept}
use Rattle.spv_thinned.proofs.Definitions.{Fact, defines_none, same_defines}
use Rattle.spv_thinned.proofs.Places.{itself}
use Rattle.spv_thinned.proofs.Walk.{inst, walk}

-- any of some; induction on them
any_on : (P : ℕ → Type 0) (f g : ℕ → Bool) → ((id : ℕ) → P id → f id ≡ g id) → (ids : List ℕ) → AllByRecursion P ids → list_any f ids ≡ list_any g ids
any_on P f g h [] all = refl
any_on P f g h (id ∷ ids) all = ap₂ (λ (a b : Bool). a || b) (h id all.0) (any_on P f g h ids all.1)

mono : (a x y c : Bool) → (x ≡ false → y ≡ false) → (a && x && c) ≡ false → (a && y && c) ≡ false
mono false x y c h g = refl
mono true x false c h g = refl
mono true true true c h g = g
mono true false true c h g = absurd (cc (h refl))

mono_two : (a x y : Bool) → (x ≡ false → y ≡ false) → (a && x) ≡ false → (a && y) ≡ false
mono_two false x y h g = refl
mono_two true x y h g = h g

module _ (gone : ℕ → Bool) (keep : Instruction → Bool) (before : List Instruction) (facts : AllByRecursion (Fact gone keep before) before) where
  abbrev F : Instruction → Type 0
  F i = Fact gone keep before i

  module _ (is js : List Instruction) (all : AllByRecursion F is) (same : words_of js ≡ words_of (filter keep is)) where
    -- ---- what stays is defined among these in both or in neither

    pub same_known : (id : ℕ) → Stays gone id → is_defined js id ≡ is_defined is id
    same_known id s =
        walk keep F (λ is js. is_defined js id ≡ is_defined is id) refl
        (λ i is js f e h. h ∙ sym (ap (λ b. b || is_defined is id) (defines_none gone keep before facts id s i f e)))
        (λ i j is js f e w h. ap₂ (λ (a b : Bool). a || b) (same_defines id i j w) h)
        is js all same

    pub same_second : (i : Instruction) → IsKept gone i
        → option_map_or (is_defined js) (word_with is_defined_id i) false ≡ option_map_or (is_defined is) (word_with is_defined_id i) false
    same_second i kept = by (word_with is_defined_id i) refl
      where
        by : (o : Option ℕ) → word_with is_defined_id i ≡ o → option_map_or (is_defined js) o false ≡ option_map_or (is_defined is) o false
        by None e = refl
        by (Some id) e = same_known id (kept.defined id (ap (λ o. option_map_or (nat_eq id) o false) e ∙ itself id))

    -- ---- what passes for none of them passes for none that is left

    fewer : (p : Instruction → Bool) → ((i : Instruction) → p i ≡ p (inst i.words)) → list_any p is ≡ false → list_any p js ≡ false
    fewer p by_words =
        walk keep F (λ is js. list_any p is ≡ false → list_any p js ≡ false) (λ h. h)
        (λ i is js f e more h. more (or_parts (p i) (list_any p is) h).1)
        (λ i j is js f e w more h.
        let parts = or_parts (p i) (list_any p is) h in
        ap₂ (λ (a b : Bool). a || b) (by_words j ∙ ap (λ ws. p (inst ws)) w ∙ sym (by_words i) ∙ parts.0) (more parts.1))
        is js all same

    pub new_type_stays : (i : Instruction) → occurs is i ≡ false → occurs js i ≡ false
    new_type_stays i h = mono_two (is_unique_type i) (list_any (is_same_type i) is) (list_any (is_same_type i) js) (fewer (is_same_type i) (λ x. refl)) h

    pub new_decoration_stays : (i : Instruction) → repeats is i ≡ false → repeats js i ≡ false
    new_decoration_stays i h =
        let on_target : List Instruction → Bool = λ is. repeating.repeats_on_target is i in
        let on_member : List Instruction → Bool = λ is. repeating.repeats_on_member is i in
        let on_any : List Instruction → Bool = λ is. repeating.repeats_spec_id is i in
        let size : List Instruction → Bool = λ is. repeating.repeats_workgroup_size is i in
        let last = or_parts (on_target is || on_member is || on_any is) (size is) h in
        let third = or_parts (on_target is || on_member is) (on_any is) last.0 in
        let second = or_parts (on_target is) (on_member is) third.0 in
        ap₂ (λ (x y : Bool). x || y)
        (ap₂ (λ (x y : Bool). x || y)
        (ap₂ (λ (x y : Bool). x || y)
        (mono (is_decorate i) (list_any (is_same_decoration i) is) (list_any (is_same_decoration i) js)
        (repeating.is_one_of single_decorations (slice_index i.words 2))
        (fewer (is_same_decoration i) (λ x. refl)) second.0)
        (mono (is_member_decorate i) (list_any (is_same_member_decoration i) is) (list_any (is_same_member_decoration i) js)
        (repeating.is_one_of single_decorations (slice_index i.words 3)) (fewer (is_same_member_decoration i) (λ x. refl)) second.1))
        (mono_two (is_spec_id i) (list_any (is_same_spec_id i) is) (list_any (is_same_spec_id i) js) (fewer (is_same_spec_id i) (λ x. refl)) third.1))
        (mono_two (is_workgroup_size i) (list_any is_workgroup_size is) (list_any is_workgroup_size js) (fewer is_workgroup_size (λ x. refl)) last.1)

  -- ---- an instruction that is kept names no unknown id

  pub same_unknown : (after is js : List Instruction) → AllByRecursion F is → words_of js ≡ words_of (filter keep is)
      → words_of after ≡ words_of (filter keep before)
      → (early : Bool) (ids : List ℕ) → AllByRecursion (Stays gone) ids
      → list_any (λ id. not (is_defined after id) || (early && not (is_defined js id))) ids
      ≡ list_any (λ id. not (is_defined before id) || (early && not (is_defined is id))) ids
  same_unknown after is js all same whole early =
      any_on (Stays gone) (λ id. not (is_defined after id) || (early && not (is_defined js id)))
      (λ id. not (is_defined before id) || (early && not (is_defined is id)))
      (λ id s. ap₂ (λ (a b : Bool). not a || (early && not b)) (same_known before after facts whole id s) (same_known is js all same id s))
