-- Modules that are alike are so where nothing has gone.
use Rattle.std.proofs.Common.{◌≡◌, ◌⊎◌, inl, inr, ℕ, Bool, true, false, List, [], ◌∷◌, refl, sym, ap, ◌∙◌, true≢false}
use Rattle.std.specs.List.{AllByRecursion}
use Rattle.spv_opcodes.specs.declared.op.TheConstants as op
use Rattle.spv_module.specs.Instruction.{Instruction}
use Rattle.spv_ids.specs.Ids.{kind}
use Rattle.spv_typing.specs.Kinds.{is_one_of}
use Rattle.spv_composites.specs.Forms.{FormTable, form_at}
use Rattle.spv_alike.specs.Alike.{loose_kinds, is_loose, AreAlike}
use Rattle.spv_alike.proofs.Lookups.{loose_cases, same_kind}
use Rattle.spv_alike.proofs.Seconds.{same_second}
use Rattle.spv_alike_uses.specs.Alike.{firm_kinds, is_firm}
use Rattle.spv_alike_uses.specs.Laws.{AlikeWithNothingGone}

-- what was loose is not firm
loose_not_firm : (k : ℕ) → is_one_of loose_kinds k ≡ true → is_one_of firm_kinds k ≡ false
loose_not_firm k h = by (loose_cases k h)
  where
    by : (k ≡ 0) ⊎ ((k ≡ op.LABEL) ⊎ ((k ≡ op.PHI) ⊎ (k ≡ op.COPY_OBJECT))) → is_one_of firm_kinds k ≡ false
    by (inl e) = ap (is_one_of firm_kinds) e
    by (inr (inl e)) = ap (is_one_of firm_kinds) e
    by (inr (inr (inl e))) = ap (is_one_of firm_kinds) e
    by (inr (inr (inr e))) = ap (is_one_of firm_kinds) e

firm_not_loose : (k : ℕ) → is_one_of firm_kinds k ≡ true → is_one_of loose_kinds k ≡ false
firm_not_loose k h = by (is_one_of loose_kinds k) refl
  where
    by : (b : Bool) → is_one_of loose_kinds k ≡ b → is_one_of loose_kinds k ≡ false
    by false e = e
    by true e = absurd (true≢false (sym h ∙ loose_not_firm k e))

-- induction on the elements
all_stay : {X : Type 0} (P : X → Type 0) → ((x : X) → P x) → (xs : List X) → AllByRecursion P xs
all_stay P h [] = tt
all_stay P h (x ∷ xs) = (h x, all_stay P h xs)

module _ (before after : List Instruction) (alike : AreAlike before after) where
  stays_loose : (id : ℕ) → is_firm before id ≡ false → is_firm after id ≡ false
  stays_loose id h = by (is_loose before id) refl
    where
      by : (b : Bool) → is_loose before id ≡ b → is_firm after id ≡ false
      by true e = loose_not_firm (kind after id) (alike.loose id e)
      by false e = ap (is_one_of firm_kinds) (same_kind before after alike id e) ∙ h

pub alike_with_nothing_gone : AlikeWithNothingGone
alike_with_nothing_gone before after alike = record {
  zero = refl;
  values = λ id s. alike.values id;
  types = λ id t s e. refl;
  fixed = λ id s firm. alike.fixed id (firm_not_loose (kind before id) firm);
  loose = λ id s h. stays_loose before after alike id h;
  taken = λ id s firm i e. all_stay (λ id. false ≡ false) (λ id. refl) _;
  outside = λ id s. alike.outside id;
  decorations = λ id d s. alike.decorations id d;
  known = λ id k s. alike.known id k;
  forms = λ t s. ap (λ (table : FormTable). form_at table t) alike.forms;
  parameters = λ f s. alike.parameters f;
  parameters_stay = λ f s. all_stay _ (λ p. (refl, refl)) _;
  thirds = λ id s firm none. same_second before after alike id;
}
