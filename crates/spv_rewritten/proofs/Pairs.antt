-- Induction on the instructions of two lists, pair by pair.
use Rattle.std.proofs.Common.{◌≡◌, ℕ, zero, suc, ◌+◌, Bool, cond, ◌||◌, List, [], ◌∷◌, ◌++◌, length, drop, take, Some, refl, sym, ap, ap₂, subst, ◌∙◌}
use Rattle.std.specs.Prelude.{count_by}
use Rattle.std.specs.List.{AllByRecursion, list_any, slice_get}
use Rattle.std.proofs.lemmas.List.Sums.{sum_by-cons}
use Rattle.spv_module.specs.Instruction.{Instruction}
use Rattle.spv_rewritten.specs.Rewritten.{EachAs}

module _ (R : Instruction → Instruction → Type 0) where
  module _ (M : List Instruction → List Instruction → Type 0) (nil : M [] [])
      (more : (i j : Instruction) (is js : List Instruction) → R i j → M is js → M (i ∷ is) (j ∷ js)) where
    pub walk : (is js : List Instruction) → EachAs R is js → M is js
    walk [] [] h = nil
    walk [] (j ∷ js) h = absurd h
    walk (i ∷ is) [] h = absurd h
    walk (i ∷ is) (j ∷ js) h = more i j is js h.0 (walk is js h.1)

  pub each_also : (S : Instruction → Instruction → Type 0) → ((i j : Instruction) → R i j → S i j) → (is js : List Instruction) → EachAs R is js
      → EachAs S is js
  each_also S f = walk (EachAs S) tt (λ i j is js r h. (f i j r, h))

  -- with what is known of each of the first ones
  pub each_with : (F : Instruction → Type 0) (is js : List Instruction) → AllByRecursion F is → EachAs R is js → EachAs (λ i j. R i j × F i) is js
  each_with F [] [] f h = tt
  each_with F [] (j ∷ js) f h = absurd h
  each_with F (i ∷ is) [] f h = absurd h
  each_with F (i ∷ is) (j ∷ js) f h = ((h.0, f.0), each_with F is js f.1 h.1)

  -- with another relation
  pub each_both : (S : Instruction → Instruction → Type 0) (is js : List Instruction) → EachAs R is js → EachAs S is js → EachAs (λ i j. R i j × S i j) is js
  each_both S [] [] g h = tt
  each_both S [] (j ∷ js) g h = absurd h
  each_both S (i ∷ is) [] g h = absurd h
  each_both S (i ∷ is) (j ∷ js) g h = ((g.0, h.0), each_both S is js g.1 h.1)

  -- ---- parts

  pub each_take : (k : ℕ) (is js : List Instruction) → EachAs R is js → EachAs R (take k is) (take k js)
  each_take zero is js h = tt
  each_take (suc k) [] [] h = tt
  each_take (suc k) [] (j ∷ js) h = absurd h
  each_take (suc k) (i ∷ is) [] h = absurd h
  each_take (suc k) (i ∷ is) (j ∷ js) h = (h.0, each_take k is js h.1)

  pub each_drop : (k : ℕ) (is js : List Instruction) → EachAs R is js → EachAs R (drop k is) (drop k js)
  each_drop zero is js h = h
  each_drop (suc k) [] [] h = tt
  each_drop (suc k) [] (j ∷ js) h = absurd h
  each_drop (suc k) (i ∷ is) [] h = absurd h
  each_drop (suc k) (i ∷ is) (j ∷ js) h = each_drop k is js h.1

  pub same_length : (is js : List Instruction) → EachAs R is js → length js ≡ length is
  same_length = walk (λ is js. length js ≡ length is) refl (λ i j is js r h. ap suc h)

  -- what stands at a place after, and before
  pub record IsAt (is : List Instruction) (k : ℕ) (j : Instruction) : Type 0 where
    pub inst : Instruction
    pub there : slice_get is k ≡ Some inst
    pub pair : R inst j

  pub at_place : (is js : List Instruction) → EachAs R is js → (k : ℕ) (j : Instruction) → slice_get js k ≡ Some j → IsAt is k j
  at_place [] [] h k j at = absurd (cc at)
  at_place [] (x ∷ js) h k j at = absurd h
  at_place (i ∷ is) [] h k j at = absurd h
  at_place (i ∷ is) (x ∷ js) h zero j at = let same : x ≡ j = cc at in record { inst = i; there = refl; pair = subst (R i) same h.0 }
  at_place (i ∷ is) (x ∷ js) h (suc k) j at = let r = at_place is js h.1 k j at in record { inst = r.inst; there = r.there; pair = r.pair }

  -- and what stands in front of it
  pub record IsCut (is qs : List Instruction) (j : Instruction) : Type 0 where
    pub pre : List Instruction
    pub inst : Instruction
    pub post : List Instruction
    pub cut : is ≡ pre ++ inst ∷ post
    pub front : EachAs R pre qs
    pub pair : R inst j

  pub cut_at : (is qs : List Instruction) (j : Instruction) (rest : List Instruction) → EachAs R is (qs ++ j ∷ rest) → IsCut is qs j
  cut_at [] [] j rest h = absurd h
  cut_at [] (q ∷ qs) j rest h = absurd h
  cut_at (i ∷ is) [] j rest h = record { pre = []; inst = i; post = is; cut = refl; front = tt; pair = h.0 }
  cut_at (i ∷ is) (q ∷ qs) j rest h =
      let r = cut_at is qs j rest h.1 in
      record { pre = i ∷ r.pre; inst = r.inst; post = r.post; cut = ap (λ z. i ∷ z) r.cut; front = (h.0, r.front); pair = r.pair }

  -- ---- tests that are the same on each pair

  module _ (p q : Instruction → Bool) (same : (i j : Instruction) → R i j → p j ≡ q i) where
    pub same_any : (is js : List Instruction) → EachAs R is js → list_any p js ≡ list_any q is
    same_any = walk (λ is js. list_any p js ≡ list_any q is) refl (λ i j is js r h. ap₂ (λ (a b : Bool). a || b) (same i j r) h)

    pub same_count : (is js : List Instruction) → EachAs R is js → count_by p js ≡ count_by q is
    same_count =
        walk (λ is js. count_by p js ≡ count_by q is) refl
        (λ i j is js r h. sum_by-cons (λ (x : Instruction). cond (p x) 1 0) j js ∙ ap₂ (λ (b : Bool) n. cond b 1 0 + n) (same i j r) h
        ∙ sym (sum_by-cons (λ (x : Instruction). cond (q x) 1 0) i is))
