-- What a block leads to, target by target.
use Rattle.std.proofs.Common.{◌≡◌, ◌⊎◌, inl, inr, ℕ, ◌<◌, ◌==◌, ◌||◌, true, false, List, [], ◌∷◌, ◌++◌, length, Option, Some, None, refl, sym, ap, subst, ◌∙◌, arith, length-append}
use Rattle.std.proofs.lemmas.List.Folds.{list_any-append}
use Rattle.spv_blocks.specs.Blocks.{Code, Block, Construct, ASelection, ASwitch, ALoop, block, has, end_targets, stops}
use Rattle.spv_walk.specs.Contexts.{Context, behind}
use Rattle.spv_walk.proofs.Unique.{equal_true, true_equal, either_holds, left_holds, right_holds}
use Rattle.spv_walking.specs.declared.going.Going.{Going}
use Rattle.spv_walking.specs.declared.walked.Walked.{Walked}
use Rattle.spv_walking.specs.Onward.{opened, shared, arm, Goes, GoesTarget, GoesNext, GoesMerge, GoesOn, ToTarget, ToNext, ToMerge}
use Rattle.spv_walking.specs.Places.{context_at}
use Rattle.spv_walking.specs.Table.{context_of, Widens}
use Rattle.spv_walking.specs.Steps.{Comes, OnwardFrom}
use Rattle.spv_walking.proofs.Coming.{comes_to_none, comes_nowhere, comes_on, comes_alike}
use Rattle.spv_walking.proofs.KeptContexts.{context_stays}

-- ---- contexts stay in a step

pub comes_context : (f : Code) (g h : Going) (New : ℕ → Context → Type 0) (place : ℕ) → Comes f g h New → place < length g.walked.rows
    → context_at h.walked.rows place ≡ context_at g.walked.rows place
comes_context f g h New place a l = ap (λ (rows : List Context). context_at rows place) a.rows ∙ context_stays g.walked.rows a.added place l

pub comes_within : (f : Code) (g h : Going) (New : ℕ → Context → Type 0) (place : ℕ) → Comes f g h New → place < length g.walked.rows → place < length h.walked.rows
comes_within f g h New place a l =
    let n : length h.walked.rows ≡ length (g.walked.rows ++ a.added) = ap length a.rows in
    omega (arith, length-append g.walked.rows a.added)

-- ---- one target, and one more

pub named_one : (t p : ℕ) → has (t ∷ []) p ≡ true → p ≡ t
named_one t p h = elim (either_holds (t == p) false h) [ inl e ↦ sym (equal_true t p e) | inr e ↦ absurd (cc) ]

pub names_itself : (t : ℕ) → has (t ∷ []) t ≡ true
names_itself t = left_holds (t == t) false (true_equal t t refl)

module _ (f : Code) (enterer : ℕ → Option ℕ) (b : ℕ) (x : Block) where
  pub goes_none : (g : Going) (s : Context) → Comes f g g (Goes f enterer b x s [])
  goes_none g s = comes_nowhere f g (Goes f enterer b x s []) (λ p d n. (let e = n.named in absurd (cc)))

  pub goes_more : (g h k : Going) (s s2 : Context) (xs ys : List ℕ) (t : ℕ) → Comes f g h (Goes f enterer b x s xs) → s2 ≡ s → Comes f h k (Goes f enterer b x s2 (t ∷ []))
      → ys ≡ xs ++ t ∷ [] → Comes f g k (Goes f enterer b x s ys)
  goes_more g h k s s2 xs ys t a e c more =
      comes_on f g h k (Goes f enterer b x s xs) (Goes f enterer b x s (t ∷ [])) (Goes f enterer b x s ys) a
      (subst (λ (r : Context). Comes f h k (Goes f enterer b x r (t ∷ []))) e c)
      (λ p d n.
      elim (either_holds (has xs p) (has (t ∷ []) p) (sym (both p) ∙ n.named)) [
        | inl h ↦ inl (record { named = h; context = n.context; enters = n.enters })
        | inr h ↦ inr (record { named = h; context = n.context; enters = n.enters })
      ])
      (λ p d n. record { named = both p ∙ left_holds (has xs p) (has (t ∷ []) p) n.named; context = n.context; enters = n.enters })
      (λ p d n. record { named = both p ∙ right_holds (has xs p) (has (t ∷ []) p) n.named; context = n.context; enters = n.enters })
    where
      both : (p : ℕ) → has ys p ≡ (has xs p || has (t ∷ []) p)
      both p = ap (λ (zs : List ℕ). has zs p) more ∙ list_any-append (λ (y : ℕ). y == p) xs (t ∷ [])

  behind_arm : (k : Option Construct) (t : ℕ) (c : Context) → behind k b t c ≡ arm k b t (shared k b c)
  behind_arm None t c = refl
  behind_arm (Some (ASelection m)) t c = refl
  behind_arm (Some (ASwitch m)) t c = refl
  behind_arm (Some (ALoop m n)) t c = refl

  -- all targets, once there is a place that they share
  pub goes_targets : (g h k : Going) (inner : ℕ) (c d : Context) (targets : List ℕ) → Widens g.walked h.walked inner d → d ≡ shared (opened x) b c → h.waiting.items ≡ g.waiting.items
      → targets ≡ end_targets x.end → Comes f h k (Goes f enterer b x (context_at h.walked.rows inner) targets) → Comes f g k (GoesTarget f enterer b x c)
  goes_targets g h k inner c d targets w is waiting all a =
      comes_on f g h k (λ p d. ⊥) (Goes f enterer b x (context_at h.walked.rows inner) targets) (GoesTarget f enterer b x c)
      (comes_to_none f g h w.added (λ p d. ⊥) w.rows w.places waiting (λ p d n. n)) a
      (λ p d n. inr (record { named = ap (λ (zs : List ℕ). has zs p) all ∙ n.named; context = n.context ∙ way p; enters = n.enters }))
      (λ p d n. absurd n)
      (λ p d n. record { named = ap (λ (zs : List ℕ). has zs p) (sym all) ∙ n.named; context = n.context ∙ sym (way p); enters = n.enters })
    where
      way : (t : ℕ) → behind (opened x) b t c ≡ arm (opened x) b t (context_at h.walked.rows inner)
      way t = behind_arm (opened x) t c ∙ ap (arm (opened x) b t) (sym (w.context ∙ is))

  abbrev Both : Context → ℕ → Context → Type 0
  Both c p d = GoesTarget f enterer b x c p d ⊎ GoesNext f b x c p d

  -- targets, continue target and merge block
  pub goes_on : (g h i k : Going) (c c2 c3 : Context) → Comes f g h (GoesTarget f enterer b x c) → c2 ≡ c → Comes f h i (GoesNext f b x c2) → c3 ≡ c → Comes f i k (GoesMerge f b x c3)
      → Comes f g k (GoesOn f enterer b x c)
  goes_on g h i k c c2 c3 a e n o m =
      comes_on f g i k (Both c) (GoesMerge f b x c) (GoesOn f enterer b x c)
      (comes_on f g h i (GoesTarget f enterer b x c) (GoesNext f b x c) (Both c) a (subst (λ (r : Context). Comes f h i (GoesNext f b x r)) e n) (λ p d s. s) (λ p d s. inl s) (λ p d s. inr s))
      (subst (λ (r : Context). Comes f i k (GoesMerge f b x r)) o m)
      split
      (λ p d s. elim s [ inl t ↦ ToTarget t | inr t ↦ ToNext t ])
      (λ p d s. ToMerge s)
    where
      split : (p : ℕ) (d : Context) → GoesOn f enterer b x c p d → (GoesTarget f enterer b x c p d ⊎ GoesNext f b x c p d) ⊎ GoesMerge f b x c p d
      split p d (ToTarget s) = inl (inl s)
      split p d (ToNext s) = inl (inr s)
      split p d (ToMerge s) = inr s

one_block : (o : Option Block) (x y : Block) → o ≡ Some x → o ≡ Some y → x ≡ y
one_block o x y e h = cc

one_context_at : (o : Option Context) (c d : Context) → o ≡ Some c → o ≡ Some d → c ≡ d
one_context_at o c d e h = cc

none_context : (o : Option Context) (c : Context) → o ≡ None → o ≡ Some c → ⊥
none_context o c e h = cc

-- a block that the walk has come to, where it stands
module _ (f : Code) (enterer : ℕ → Option ℕ) (walked : Walked) (b : ℕ) (x : Block) (c : Context) (here : block f b ≡ Some x) (stands : context_of walked b ≡ Some c) (runs : stops f b ≡ false) where
  on_from : (t : ℕ) (d : Context) → GoesOn f enterer b x c t d → OnwardFrom f enterer walked b t d
  on_from t d s = record { context = c; stands = stands; found = x; here = here; runs = runs; goes = s }

  from_on : (t : ℕ) (d : Context) → OnwardFrom f enterer walked b t d → GoesOn f enterer b x c t d
  from_on t d n =
      let same : n.found ≡ x = one_block (block f b) n.found x n.here here in
      let at : n.context ≡ c = one_context_at (context_of walked b) n.context c n.stands stands in
      subst (λ (y : Block). GoesOn f enterer b y c t d) same (subst (λ (e : Context). GoesOn f enterer b n.found e t d) at n.goes)

  pub goes_onward : (g h : Going) → Comes f g h (GoesOn f enterer b x c) → Comes f g h (OnwardFrom f enterer walked b)
  goes_onward g h a = comes_alike f g h (GoesOn f enterer b x c) (OnwardFrom f enterer walked b) a from_on on_from

pub nowhere_onward : (f : Code) (enterer : ℕ → Option ℕ) (g : Going) (walked : Walked) (b : ℕ) → context_of walked b ≡ None → Comes f g g (OnwardFrom f enterer walked b)
nowhere_onward f enterer g walked b e = comes_nowhere f g (OnwardFrom f enterer walked b) (λ p d n. none_context (context_of walked b) n.context e n.stands)
