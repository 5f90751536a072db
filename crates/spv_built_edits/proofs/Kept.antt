-- What a module and what is left of it have in common: what stands outside functions, pointers, and what is known everywhere.
use Rattle.std.proofs.Common.{◌≡◌, inl, inr, ℕ, Bool, true, false, cond, ◌==◌, ◌&&◌, ◌||◌, List, [], ◌∷◌, filter, Option, Some, None, refl, sym, ap, ap₂, ◌∙◌}
use Rattle.std.specs.List.{AllByRecursion, list_any}
use Rattle.std.specs.Option.{option_map}
use Rattle.spv_opcodes.specs.declared.op.TheConstants as op
use Rattle.spv_module.specs.Code.{is_function}
use Rattle.spv_module.specs.Instruction.{Instruction, opcode}
use Rattle.spv_ids.specs.Ids.{definition}
use Rattle.spv_tree.specs.Tree.{words_of}
use Rattle.spv_functions.specs.Functions.{defines_pointer, is_pointer}
use Rattle.spv_availability.specs.Availability.{is_everywhere}
use Rattle.spv_fine.specs.Laws.{IsKnown}
use Rattle.spv_norm.specs.Norm.{outside}
use Rattle.spv_norm_available.proofs.Known.{defined_outside, outside_defined, place_too}
use Rattle.spv_alike_uses.specs.Alike.{AreAlikeBut, Stays}
use Rattle.spv_thinned.specs.Thinned.{IsThinned}
use Rattle.spv_thinned.proofs.Definitions.{Fact, defines_none, same_definition}
use Rattle.spv_thinned.proofs.Places.{no_function}
use Rattle.spv_thinned.proofs.Walk.{inst, walk}

pub all_both : {A : Type 0} (P Q : A → Type 0) (xs : List A) → AllByRecursion P xs → AllByRecursion Q xs → AllByRecursion (λ x. P x × Q x) xs
all_both P Q [] h g = tt
all_both P Q (x ∷ xs) h g = ((h.0, g.0), all_both P Q xs h.1 g.1)

module _ (gone : ℕ → Bool) (keep : Instruction → Bool) (before after : List Instruction) (thin : IsThinned gone keep before after)
    (facts : AllByRecursion (Fact gone keep before) before) where
  abbrev F : Instruction → Type 0
  F i = Fact gone keep before i

  -- ---- what stands outside functions

  outside_dropped : (i : Instruction) (is js : List Instruction) → F i → keep i ≡ false → words_of (outside js) ≡ words_of (filter keep (outside is))
      → words_of (outside js) ≡ words_of (filter keep (outside (i ∷ is)))
  outside_dropped i is js f e h =
      h ∙ sym (ap (λ (b : Bool). words_of (filter keep (cond b [] (i ∷ outside is)))) (no_function gone keep before after thin facts i f e)
      ∙ ap (λ (b : Bool). words_of (cond b (i ∷ filter keep (outside is)) (filter keep (outside is)))) e)

  outside_kept : (i j : Instruction) (is js : List Instruction) → F i → keep i ≡ true → j.words ≡ i.words
      → words_of (outside js) ≡ words_of (filter keep (outside is)) → words_of (outside (j ∷ js)) ≡ words_of (filter keep (outside (i ∷ is)))
  outside_kept i j is js f e w h =
      ap (λ (b : Bool). words_of (cond b [] (j ∷ outside js))) (ap (λ ws. is_function (inst ws)) w) ∙ by (is_function i)
    where
      by : (b : Bool) → words_of (cond b [] (j ∷ outside js)) ≡ words_of (filter keep (cond b [] (i ∷ outside is)))
      by true = refl
      by false =
          ap₂ (λ (x : List ℕ) xs. x ∷ xs) w h
          ∙ sym (ap (λ (b : Bool). words_of (cond b (i ∷ filter keep (outside is)) (filter keep (outside is)))) e)

  pub outside_is_thinned : words_of (outside after) ≡ words_of (filter keep (outside before))
  outside_is_thinned =
      walk keep F (λ is js. words_of (outside js) ≡ words_of (filter keep (outside is))) refl outside_dropped outside_kept before after facts thin.words

  -- ---- pointers

  none : (b : Bool) → (b && false) ≡ false
  none true = refl
  none false = refl

  -- what defines a type that stays is kept
  pub same_pointer : (type : ℕ) → Stays gone type → is_pointer after type ≡ is_pointer before type
  same_pointer type stays =
      walk keep F (λ is js. list_any (defines_pointer type) js ≡ list_any (defines_pointer type) is) refl
      (λ i is js f e h. h
      ∙ sym (ap (λ (b : Bool). b || list_any (defines_pointer type) is)
      (ap (λ (b : Bool). opcode i == op.TYPE_POINTER && b) (defines_none gone keep before facts type stays i f e) ∙ none (opcode i == op.TYPE_POINTER))))
      (λ i j is js f e w h. ap₂ (λ (a b : Bool). a || b) (ap (λ ws. defines_pointer type (inst ws)) w) h) before after facts thin.words

  -- ---- what is known everywhere

  -- an id that stays is known everywhere where it was
  pub known_stays : (alike : AreAlikeBut gone before after) (id : ℕ) → IsKnown before id → Stays gone id → IsKnown after id
  known_stays alike id known stays = elim known.everywhere [
    | inl out ↦
        let d = outside_defined after id (alike.outside id stays ∙ defined_outside before id known.at known.is_at out) in
        record { at = d.defined.at; inst = d.defined.inst; is_at = d.defined.is_at; is = d.defined.is; everywhere = inl d.outside }
    | inr everywhere ↦
        by (definition after id) refl everywhere
        (same_definition gone keep before after thin facts id stays ∙ ap (option_map (λ i. i.words)) known.is)
  ]
    where
      by : (o : Option Instruction) → definition after id ≡ o → is_everywhere known.inst ≡ true
          → option_map (λ i. i.words) (definition after id) ≡ Some known.inst.words → IsKnown after id
      by None e everywhere h = absurd (cc (sym (ap (option_map (λ i. i.words)) e) ∙ h))
      by (Some i) e everywhere h =
          let p = place_too after id i e in
          let same : Some i.words ≡ Some known.inst.words = sym (ap (option_map (λ i. i.words)) e) ∙ h in
          let words : i.words ≡ known.inst.words = cc same in
          let one : Some i ≡ Some p.inst = sym e ∙ p.is in
          let is : i ≡ p.inst = cc one in
          record {
            at = p.at;
            inst = p.inst;
            is_at = p.is_at;
            is = p.is;
            everywhere = inr (ap is_everywhere (sym is) ∙ ap (λ ws. is_everywhere (inst ws)) words ∙ everywhere);
          }
