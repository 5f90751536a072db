-- Where an id is defined, in a module that defines none twice.
use Rattle.std.proofs.Common.{◌≡◌, ℕ, zero, suc, Bool, true, false, cond, nat_eq, ◌||◌, List, [], ◌∷◌, take, find, Option, Some, None, refl, sym, ap, subst, ◌∙◌}
use Rattle.std.specs.List.{list_any, position, slice_get}
use Rattle.std.specs.Option.{option_map, option_map_or}
use Rattle.spv_grammar.specs.Roles.{is_defined_id}
use Rattle.spv_module.specs.Code.{is_line}
use Rattle.spv_module.specs.Instruction.{Instruction, opcode, word_with}
use Rattle.spv_ids.specs.Ids.{defines, is_defined, kind, place_of}
use Rattle.spv_ids.proofs.Places.{position-cons}
use Rattle.spv_texts.specs.Laws.{DefinesOnce}
use Rattle.spv_walk.proofs.Unique.{equal_true}

or_left : (a b : Bool) → (a || b) ≡ false → a ≡ false
or_left true b h = absurd (cc h)
or_left false b h = refl

or_right : (a b : Bool) → (a || b) ≡ false → b ≡ false
or_right true b h = absurd (cc h)
or_right false b h = h

module _ {X : Type 0} (q : X → Bool) where
  -- it passes, and none before it does: by induction on those
  pub first_place : (xs : List X) (k : ℕ) (x : X) → slice_get xs k ≡ Some x → q x ≡ true → list_any q (take k xs) ≡ false → position q xs ≡ Some k
  first_place [] k x e h none = absurd (cc e)
  first_place (y ∷ xs) zero x e h none =
      let same : y ≡ x = cc e in
      position-cons q y xs ∙ ap (λ (b : Bool). cond b (Some 0) (option_map (λ k. suc k) (position q xs))) (ap q same ∙ h)
  first_place (y ∷ xs) (suc k) x e h none =
      position-cons q y xs
      ∙ ap (λ (b : Bool). cond b (Some 0) (option_map (λ k. suc k) (position q xs))) (or_left (q y) (list_any q (take k xs)) none)
      ∙ ap (option_map (λ k. suc k)) (first_place xs k x e h (or_right (q y) (list_any q (take k xs)) none))

  pub first_found : (xs : List X) (k : ℕ) (x : X) → slice_get xs k ≡ Some x → q x ≡ true → list_any q (take k xs) ≡ false → find q xs ≡ Some x
  first_found [] k x e h none = absurd (cc e)
  first_found (y ∷ xs) zero x e h none =
      let same : y ≡ x = cc e in
      ap (λ (b : Bool). cond b (Some y) (find q xs)) (ap q same ∙ h) ∙ e
  first_found (y ∷ xs) (suc k) x e h none =
      ap (λ (b : Bool). cond b (Some y) (find q xs)) (or_left (q y) (list_any q (take k xs)) none)
      ∙ first_found xs k x e h (or_right (q y) (list_any q (take k xs)) none)

  -- what stands at the first place that passes
  pub record IsAt (xs : List X) (k : ℕ) : Type 0 where
    pub here : X
    pub there : slice_get xs k ≡ Some here
    pub passes : q here ≡ true
    pub found : find q xs ≡ Some here

  pub at_position : (xs : List X) (k : ℕ) → position q xs ≡ Some k → IsAt xs k
  at_position [] k e = absurd (cc e)
  at_position (y ∷ xs) k e = by (q y) refl k (sym (position-cons q y xs) ∙ e) (position q xs) refl (λ j g. at_position xs j g) where
    by : (b : Bool) → q y ≡ b → (k : ℕ) → cond (q y) (Some 0) (option_map (λ k. suc k) (position q xs)) ≡ Some k → (o : Option ℕ) → position q xs ≡ o
        → ((j : ℕ) → position q xs ≡ Some j → IsAt xs j) → IsAt (y ∷ xs) k
    by true h k g o p more =
        let zeroth : Some 0 ≡ Some k = sym (ap (λ (b : Bool). cond b (Some 0) (option_map (λ k. suc k) (position q xs))) h) ∙ g in
        let same : 0 ≡ k = cc zeroth in
        subst (IsAt (y ∷ xs)) same (record { here = y; there = refl; passes = h; found = ap (λ (b : Bool). cond b (Some y) (find q xs)) h })
    by false h k g None p more =
        let none : None ≡ Some k =
        sym (ap (λ (b : Bool). cond b (Some 0) (option_map (λ k. suc k) (position q xs))) h ∙ ap (option_map (λ k. suc k)) p) ∙ g in
        absurd (cc none)
    by false h k g (Some j) p more =
        let later : Some (suc j) ≡ Some k =
        sym (ap (λ (b : Bool). cond b (Some 0) (option_map (λ k. suc k) (position q xs))) h ∙ ap (option_map (λ k. suc k)) p) ∙ g in
        let same : suc j ≡ k = cc later in
        let r = more j p in
        subst (IsAt (y ∷ xs)) same
        (record { here = r.here; there = r.there; passes = r.passes; found = ap (λ (b : Bool). cond b (Some y) (find q xs)) h ∙ r.found })

the_result : (id : ℕ) (before : List Instruction) (o : Option ℕ) → option_map_or (nat_eq id) o false ≡ true
    → option_map_or (is_defined before) o false ≡ false → is_defined before id ≡ false
the_result id before None h g = absurd (cc h)
the_result id before (Some x) h g = ap (is_defined before) (equal_true id x h) ∙ g

module _ (insts : List Instruction) (once : DefinesOnce insts) (k : ℕ) (i : Instruction) (there : slice_get insts k ≡ Some i) (plain : is_line i ≡ false)
    (id : ℕ) (h : defines id i ≡ true) where
  none_before : is_defined (take k insts) id ≡ false
  none_before = the_result id (take k insts) (word_with is_defined_id i) h (once k i there plain)

  -- the place of an id is that of an instruction that defines it, and its kind is that of the instruction
  pub the_place : place_of insts id ≡ Some k
  the_place = first_place (defines id) insts k i there h none_before

  pub the_kind : kind insts id ≡ opcode i
  the_kind = ap (λ o. option_map_or opcode o 0) (first_found (defines id) insts k i there h none_before)
