-- Facts of small functions with no construct.
use Rattle.std.proofs.Common.{◌≡◌, ◌⊎◌, inr, ℕ, ◌<◌, ◌≤◌, Bool, true, [], ◌∷◌, Some, refl, sym, ap, subst, arith, le_refl, lit<, lit≤}
use Rattle.std.proofs.lemmas.Bool.{eqb-true}
use Rattle.spv_blocks.specs.Blocks.{goes, Block, Return, block, is_some_block}
use Rattle.spv_walk.specs.Contexts.{Context}
use Rattle.spv_walk.specs.Walk.{Enters, Walk, Starts}
use Rattle.spv_walk.specs.Rules.{Finds, AtEnd, BadTarget, NoTerminator, Broken, Found, NeverEntered, IsFirst}
use Rattle.spv_walk.specs.Facts.{refusal, block_of, left_out, open_block, lost}
use Rattle.spv_walk.proofs.Finding.{At, Going, Target, Refused, bare, quiet, Places, Nothing, From, found_only, first_found, seen}
use Rattle.spv_walk.proofs.Entering.{one_of, label_among}

-- a block without a terminator breaks 401, walked or not
pub unended : (is_pointer : ℕ → Bool) → Broken is_pointer open_block 401 28
unended is_pointer = Found 401 28 (NoTerminator 2 _ refl refl)

-- ---- the block alone is broken

data Seen : ℕ → Context → Type 0 where
  Entry : Seen 1 []

places : (is_pointer : ℕ → Bool) → Places is_pointer left_out Seen Nothing
places is_pointer = record { starts = λ l e. subst (λ z. Seen z []) (eqb-true 1 l e) Entry; at = at }
  where
    at : (l : ℕ) (c : Context) → Seen l c → At is_pointer left_out Seen Nothing l c
    at l c Entry = Going (quiet is_pointer left_out Seen Nothing 1 [] refl tt tt tt)

nothing : (is_pointer : ℕ → Bool) {rule at : ℕ} → Finds is_pointer left_out rule at → ⊥
nothing is_pointer finds = found_only is_pointer left_out Seen Nothing (places is_pointer) refl finds

only_first : (l : ℕ) (c : Context) → Seen l c → l ≡ 1
only_first l c Entry = refl

second_not_walked : (c : Context) → Walk left_out 2 c → ⊥
second_not_walked c walk = let e : ◌≡◌ {A = ℕ} 2 1 = only_first 2 c (seen (λ t. true) left_out Seen Nothing (places (λ t. true)) walk) in omega arith

place_of : (l : ℕ) (b : Block) → block left_out l ≡ Some b → ((c : Context) → Walk left_out l c → ⊥) → b.at ≡ 20
place_of l b at_l never =
    one_of (λ l. block left_out l ≡ Some b → ((c : Context) → Walk left_out l c → ⊥) → b.at ≡ 20) (1 ∷ 2 ∷ [])
    ((λ e none. absurd (none [] (Starts 1 refl))), ((λ e none. let i : block_of 2 [] Return ≡ b = cc in sym (ap (λ z. z.at) i)), tt))
    l (label_among left_out l (ap is_some_block at_l)) at_l never

at_the_same : (is_pointer : ℕ → Bool) {rule at : ℕ} → Broken is_pointer left_out rule at → (20 < at) ⊎ ((20 ≡ at) × (402 ≤ rule))
at_the_same is_pointer (Found rule at finds) = absurd (nothing is_pointer finds)
at_the_same is_pointer (NeverEntered l b none at_l never) = inr (sym (place_of l b at_l never), le_refl 402)

pub first : (is_pointer : ℕ → Bool) → IsFirst (Broken is_pointer left_out) (Some (refusal 402 20))
first is_pointer = record {
  broken = NeverEntered 2 _ (λ rule at finds. nothing is_pointer finds) refl second_not_walked;
  least = λ rule at broken. at_the_same is_pointer broken;
}

-- ---- three rules at one place

data SeenLost : ℕ → Context → Type 0 where
  Lost : SeenLost 1 []

shut : Enters lost 1 9 → ⊥
shut enters = let h : goes lost 1 9 ≡ true = enters.free in cc

to_nine : (is_pointer : ℕ → Bool) → Target is_pointer lost SeenLost (From (refusal 402 18)) 1 [] 9
to_nine is_pointer = Refused shut refl (inr (refl, le_refl 402))

place_lost : (is_pointer : ℕ → Bool) (l : ℕ) (c : Context) → SeenLost l c → At is_pointer lost SeenLost (From (refusal 402 18)) l c
place_lost is_pointer l c Lost =
    Going (bare is_pointer lost SeenLost (From (refusal 402 18)) 1 [] refl ((λ e. to_nine is_pointer), ((λ e. to_nine is_pointer), tt)) ((λ a e. cc), ((λ a e. cc), tt)) tt
    (inr (refl, lit≤ tt), (inr (refl, lit≤ tt), tt)))

pub least_rule : (is_pointer : ℕ → Bool) → IsFirst (Broken is_pointer lost) (Some (refusal 402 18))
least_rule is_pointer =
    first_found is_pointer lost SeenLost (refusal 402 18)
    (record { starts = λ l e. subst (λ z. SeenLost z []) (eqb-true 1 l e) Lost; at = place_lost is_pointer }) refl
    (BadTarget 1 9 [] (Starts 1 refl) refl refl shut)

pub bare_too : (is_pointer : ℕ → Bool) → Broken is_pointer lost 407 18
bare_too is_pointer = Found 407 18 (AtEnd 1 _ [] (refusal 407 18) (Starts 1 refl) refl refl (0, lit< tt, refl))

pub same_too : (is_pointer : ℕ → Bool) → Broken is_pointer lost 408 18
same_too is_pointer = Found 408 18 (AtEnd 1 _ [] (refusal 408 18) (Starts 1 refl) refl refl (1, lit< tt, refl))
