-- A block that is no merge block, continue target or loop's header is entered from one block, and no way to that has passed it.
use Rattle.std.proofs.Common.{◌≡◌, ◌≢◌, ℕ, ◌<◌, inl, inr, true, false, not, ◌==◌, ◌||◌, List, [], Option, Some, None, refl, sym, ap}
use Rattle.std.proofs.Common.{subst, arith}
use Rattle.std.specs.List.{Contains}
use Rattle.graph.proofs.Elements.{contains_cases, contains_none}
use Rattle.spv_blocks.specs.Blocks.{Block, Code, block, construct, end_targets, has, is_first}
use Rattle.spv_blocks.specs.Blocks.{is_label, is_some_block, last_opens, merge_of, names, next_of, of_block, stops}
use Rattle.spv_walk.specs.Contexts.{Context}
use Rattle.spv_walk.specs.Walk.{Enters, Walk, Starts, Entered, Stopped, Merged, Continued}
use Rattle.spv_walk.proofs.Unique.{goes_branches, role_once, truth_apart}
use Rattle.spv_normal.specs.Order.{is_front, is_loop}
use Rattle.spv_spelling.specs.Clean.{IsClean, no_pointers}
use Rattle.spv_spelling.proofs.Settled.{walked_runs}
use Rattle.spv_ways.specs.Laws.{IsNumbered}
use Rattle.spv_ways.specs.Ways as ways
use Rattle.spv_ways.specs.Ways.{AllPass, Follows, ByBranch, Unreached, Forward, ForwardWay}
use Rattle.spv_ways.proofs.BackEdges.{forward_is_way}
use Rattle.spv_ways.proofs.Reached.{each_is_reached}

-- ---- a block that a way goes on from is a block

branching : (o : Option Block) (t : ℕ) → has (of_block (λ b. end_targets b.end) [] o) t ≡ true → is_some_block o ≡ true
branching None t h = absurd (cc h)
branching (Some b) t h = refl

merging : (o : Option Block) (m : ℕ) → merge_of (of_block (λ b. last_opens b.end b.body) None o) ≡ Some m → is_some_block o ≡ true
merging None m e = absurd (cc e)
merging (Some b) m e = refl

going_next : (o : Option Block) (n : ℕ) → next_of (of_block (λ b. last_opens b.end b.body) None o) ≡ Some n → is_some_block o ≡ true
going_next None n e = absurd (cc e)
going_next (Some b) n e = refl

follows_label : (f : Code) (b t : ℕ) → Follows f b t → is_label f b ≡ true
follows_label f b t (ByBranch h) = branching (block f b) t h
follows_label f b t (Unreached (inl e) u) = merging (block f b) t e
follows_label f b t (Unreached (inr e) u) = going_next (block f b) t e

-- ---- numbers rise along a way

less_later : (a b c : ℕ) → a < b → b < c → a < c
less_later a b c h g = omega (arith, h, g)

module _ (f : Code) (number : ℕ → ℕ) (numbered : IsNumbered f number) where
  rises : (b t : ℕ) → Forward f b t → number b < number t
  rises b t s = numbered.onward b t (follows_label f b t s.follows) s

  -- by induction on the way
  passed_is_less : (passed : List ℕ) (l d : ℕ) → ForwardWay f passed l → Contains passed d → number d < number l
  passed_is_less passed l d (ways.Begins h) c = absurd (contains_none d c)
  passed_is_less passed l d (ways.Onward {passed = before} {b = b} w s) c = elim (contains_cases before b d c) [
    | inl e ↦ subst (λ x. number x < number l) (sym e) (rises b l s)
    | inr g ↦ less_later (number d) (number b) (number l) (passed_is_less before b d w g) (rises b l s)
  ]

  enters_rises : (l t : ℕ) → Enters f l t → number l < number t
  enters_rises l t e = rises l t (record { follows = ByBranch (goes_branches f l t e.free); no_back = e.counted.no_back })

  -- a way to where it is entered from has not passed it
  pub not_all_pass : IsClean no_pointers f → (l t : ℕ) → is_label f l ≡ true → Enters f l t → AllPass f t l → ⊥
  not_all_pass clean l t label e all =
      let way = each_is_reached no_pointers f clean l label in
      let more = enters_rises l t e in
      let less = passed_is_less way.0 l t way.1 (all way.0 (forward_is_way f way.0 l way.1)) in
      absurd (omega (arith, more, less))

  -- and it is not entered from itself
  pub enters_other : (l t : ℕ) → Enters f l t → t ≢ l
  enters_other l t e same =
      let more = enters_rises l t e in
      let less = subst (λ x. number l < number x) same more in
      absurd (omega (arith, less))

pub enters_label : (f : Code) (l t : ℕ) → Enters f l t → is_label f l ≡ true
enters_label f l t e = branching (block f l) t (goes_branches f l t e.free)

-- ---- what is no front is entered

named_is_front : (f : Code) (t : ℕ) → names f t ≡ 1 → is_front f t ≡ true
named_is_front f t e = ap (λ n. not (n == 0) || is_loop (construct f t)) e

module _ (f : Code) (clean : IsClean no_pointers f) (t : ℕ) (no_front : is_front f t ≡ false) (no_first : is_first f t ≡ false) where
  pub entered_from : (c : Context) → Walk f t c → (l : ℕ) × Enters f l t
  entered_from c (Starts l e) = truth_apart (is_first f t) e no_first
  entered_from c (Entered b l d w x y) = (b, y)
  entered_from c (Stopped b l d w x y) = truth_apart (stops f t) y (walked_runs no_pointers f clean t c (Stopped b t d w x y))
  entered_from c (Merged b m d w s e r) = truth_apart (is_front f t) (named_is_front f t (role_once f b t r)) no_front
  entered_from c (Continued b n d w s e r) = truth_apart (is_front f t) (named_is_front f t (role_once f b t r)) no_front
