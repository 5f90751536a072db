-- The least of the rules that are broken at the targets of a block, target by target.
use Rattle.std.proofs.Common.{◌≡◌, ℕ, Bool, true, false, not, ◌&&◌, min, List, [], ◌∷◌, ◌++◌, Option, Some, None, refl, sym, ap, ◌∙◌, arith, append_assoc}
use Rattle.std.proofs.lemmas.Bool.Decides.{nat_tests}
use Rattle.std.proofs.lemmas.List.{append-nil}
use Rattle.spv_module.specs.First.{here, unless, first, least, at_place}
use Rattle.spv_module.proofs.FirstLemmas.{first-here-later}
use Rattle.spv_blocks.specs.Blocks.{Code, Block, block, of_block, end_targets, stops, targets}
use Rattle.spv_walk.specs.Contexts.{Context}
use Rattle.spv_walk.specs.Rules.{end_at}
use Rattle.spv_walk.specs.Found.{target_rules, all_target_rules}
use Rattle.spv_walking.specs.Least.{lesser}

-- ---- the least of two lists

lesser_none : (o : Option ℕ) → lesser o None ≡ o
lesser_none None = refl
lesser_none (Some x) = refl

min_min : (x y z : ℕ) → min x (min y z) ≡ min (min x y) z
min_min x y z = grind (arith, nat_tests)

lesser_on : (x : ℕ) (o p : Option ℕ) → lesser (Some x) (lesser o p) ≡ lesser (lesser (Some x) o) p
lesser_on x None p = refl
lesser_on x (Some y) None = refl
lesser_on x (Some y) (Some z) = ap (λ n. Some n) (min_min x y z)

-- induction on the first list
pub least_both : (xs ys : List ℕ) → least (xs ++ ys) ≡ lesser (least xs) (least ys)
least_both [] ys = refl
least_both (x ∷ xs) ys = ap (lesser (Some x)) (least_both xs ys) ∙ lesser_on x (least xs) (least ys)

module _ (f : Code) (enterer : ℕ → Option ℕ) (l : ℕ) (c : Context) where
  -- induction on the targets
  all_rules_push : (ts : List ℕ) (t : ℕ) → all_target_rules f enterer l c (ts ++ t ∷ []) ≡ all_target_rules f enterer l c ts ++ target_rules f enterer l c t
  all_rules_push [] t = append-nil (target_rules f enterer l c t)
  all_rules_push (u ∷ ts) t =
      ap (λ rs. target_rules f enterer l c u ++ rs) (all_rules_push ts t)
      ∙ sym (append_assoc (target_rules f enterer l c u) (all_target_rules f enterer l c ts) (target_rules f enterer l c t))

  -- one target more
  pub rule_more : (rule one : Option ℕ) (ts us : List ℕ) (t : ℕ) → rule ≡ least (all_target_rules f enterer l c ts) → one ≡ least (target_rules f enterer l c t)
      → us ≡ ts ++ t ∷ [] → lesser rule one ≡ least (all_target_rules f enterer l c us)
  rule_more rule one ts us t e h more =
      ap (λ o. lesser o one) e ∙ ap (lesser (least (all_target_rules f enterer l c ts))) h
      ∙ sym (least_both (all_target_rules f enterer l c ts) (target_rules f enterer l c t))
      ∙ ap least (sym (all_rules_push ts t)) ∙ ap (λ vs. least (all_target_rules f enterer l c vs)) (sym more)

  -- behind a header that is its own continue target no rule is broken; induction on the targets
  pub no_rules : stops f l ≡ true → (ts : List ℕ) → all_target_rules f enterer l c ts ≡ []
  no_rules h [] = refl
  no_rules h (t ∷ ts) = ap (λ rs. rs ++ all_target_rules f enterer l c ts) (none (stops f l) _ _ _ _ h) ∙ no_rules h ts
    where
      none : (s b o a : Bool) (r : ℕ) → s ≡ true → unless (not (not s && b && o && a)) r ≡ []
      none true b o a r e = refl
      none false b o a r e = absurd (cc)

pub first_at : (at : ℕ) (rules : List ℕ) → first (here at rules) ≡ at_place at (least rules) None
first_at at rules = ap first (sym (append-nil (here at rules))) ∙ first-here-later at rules [] tt

-- at the end of a block, where a rule is broken there and where none is
pub end_here : (f : Code) (l : ℕ) (x : Block) → block f l ≡ Some x → end_at f l ≡ x.end_at
end_here f l x e = ap (of_block (λ (y : Block). y.end_at) 0) e

pub fault_at : (at place : ℕ) (rules : List ℕ) (rule : ℕ) → Some rule ≡ least rules → at ≡ place → Some (record { rule = rule; at = place }) ≡ first (here at rules)
fault_at at place rules rule e same =
    ap (λ p. Some (record { rule = rule; at = p })) (sym same) ∙ ap (λ o. at_place at o None) e ∙ sym (first_at at rules)

pub no_fault_at : (at : ℕ) (rules : List ℕ) → None ≡ least rules → None ≡ first (here at rules)
no_fault_at at rules e = ap (λ o. at_place at o None) e ∙ sym (first_at at rules)

pub targets_here : (f : Code) (l : ℕ) (x : Block) → block f l ≡ Some x → end_targets x.end ≡ targets f l
targets_here f l x e = sym (ap (of_block (λ (y : Block). end_targets y.end) []) e)
