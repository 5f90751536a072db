-- What a function is found to break: a set of places that the walk does not leave, and what is broken at each.
use Rattle.std.proofs.Common.{◌≡◌, ◌⊎◌, inl, inr, ℕ, zero, suc, ◌<◌, ◌≤◌, length, ◌==◌, Bool, true, false, cond, not, ◌&&◌, List, [], ◌∷◌, Option, Some, None, ap, subst, arith}
use Rattle.std.specs.List.{list_all, Contains}
use Rattle.std.specs.Prelude.{slice_index_or}
use Rattle.spv_base.specs.declared.fault.Refusal.{Refusal}
use Rattle.spv_blocks.specs.Blocks.{End, Branch, BranchIf, Switch, Return, Unreachable, Open, Block, Code, block, is_first, is_label, is_some_block, of_block, targets, branches, construct, merge_of, next_of, is_role, stops}
use Rattle.spv_walk.specs.Contexts.{Context, is_exit, is_fall, behind, next_context}
use Rattle.spv_walk.specs.Walk.{Enters, end_of, leads, tries, Walk, Starts, Entered, Stopped, Merged, Continued, OneBackEdge}
use Rattle.spv_walk.specs.Rules.{end_at, loop_at, at_front, at_end, Finds, AtFront, AtEnd, BadTarget, CaseFall, BadContinue, NoTerminator, Broken, Found, NeverEntered, IsFirst}
use Rattle.spv_walk.proofs.NumberingAlike.{and_left, and_right}
use Rattle.spv_walk.proofs.NumberingWalk.{branches_of_leads, branches_of_tries}
use Rattle.spv_walk.proofs.Entering.{Each, one_of, not_true}

-- ---- each of some refusals is of a kind

abbrev pub AllOf : (P : (rule at : ℕ) → Type 0) → List Refusal → Type 0
AllOf P [] = Unit {0}
AllOf P (r ∷ rs) = P r.rule r.at × AllOf P rs

among : (P : (rule at : ℕ) → Type 0) (rs : List Refusal) → AllOf P rs → (r : Refusal) (k : ℕ) → k < length rs → slice_index_or rs k r ≡ r → P r.rule r.at
among P [] all r k within e = absurd (omega arith)
among P (x ∷ xs) all r zero within e = let i : x ≡ r = e in subst (λ z. P z.rule z.at) i all.0
among P (x ∷ xs) all r (suc k) within e = among P xs all.1 r k (omega arith) e

contained : (P : (rule at : ℕ) → Type 0) (g : Block → List Refusal) (x : Option Block) (b : Block) (r : Refusal) → AllOf P (of_block g [] x) → x ≡ Some b → Contains (g b) r → P r.rule r.at
contained P g x b r all e contains = among P (g b) (subst (λ z. AllOf P (of_block g [] z)) e all) r contains.0 contains.1 contains.2

-- ---- each block has a terminator

abbrev is_ended : End → Bool
is_ended (Branch l) = true
is_ended (BranchIf a b) = true
is_ended (Switch d ps) = true
is_ended Return = true
is_ended Unreachable = true
is_ended Open = false

abbrev pub all_ended : Code → Bool
all_ended f = list_all (λ b. is_ended b.end) f

ended_by : (b : Block) (x : Option Block) (t : Bool) → is_ended b.end ≡ true → ((c : Block) → x ≡ Some c → is_ended c.end ≡ true) → (c : Block) → cond t (Some b) x ≡ Some c → is_ended c.end ≡ true
ended_by b x true here later c e = let i : b ≡ c = cc in subst (λ z. is_ended z.end ≡ true) i here
ended_by b x false here later c e = later c e

ended : (f : Code) → all_ended f ≡ true → (l : ℕ) (b : Block) → block f l ≡ Some b → is_ended b.end ≡ true
ended [] all l b e = cc
ended (d ∷ f) all l b e =
    ended_by d (block f l) (d.label == l) (and_left (is_ended d.end) (all_ended f) all) (ended f (and_right (is_ended d.end) (all_ended f) all) l) b e

-- ---- places

module _ (is_pointer : ℕ → Bool) (f : Code) (Seen : ℕ → Context → Type 0) (P : (rule at : ℕ) → Type 0) where
  -- where the walk goes from l to t, and what is broken there
  pub data Target (l : ℕ) (c : Context) (t : ℕ) : Type 0 where
    Goes : Enters f l t → Seen t (behind (construct f l) l t c) → Target l c t
    Refused : (Enters f l t → ⊥) → stops f t ≡ false → P 402 (end_at f l) → Target l c t
    Whatever : P 402 (end_at f l) → Seen t (behind (construct f l) l t c) → Target l c t
    Stopping : stops f t ≡ true → Seen t (behind (construct f l) l t c) → Target l c t

  -- a place, all that the walk comes to from it, and what is broken there
  pub record Place (l : ℕ) (c : Context) : Type 0 where
    pub to : Each (λ t. tries f l c t ≡ true → Target l c t) (targets f l)
    pub falls : Each (λ t. leads f l c t ≡ true → is_fall f c t ≡ true → P 404 (end_at f l)) (targets f l)
    pub merge : (m : ℕ) → merge_of (construct f l) ≡ Some m → is_role f l m ≡ true → Seen m c
    pub next : (n : ℕ) → next_of (construct f l) ≡ Some n → is_role f l n ≡ true → Seen n (next_context (construct f l) l c)
    pub front : AllOf P (of_block (at_front is_pointer f l) [] (block f l))
    pub end : AllOf P (of_block (at_end f l c) [] (block f l))
    pub back_edge : (n : ℕ) → next_of (construct f l) ≡ Some n → OneBackEdge f l ⊎ P 405 (of_block (λ b. loop_at b.body) 0 (block f l))

  -- or a header that is its own continue target, behind which nothing is looked at
  pub data At (l : ℕ) (c : Context) : Type 0 where
    Going : Place l c → At l c
    Halts : stops f l ≡ true → AllOf P (of_block (at_front is_pointer f l) [] (block f l)) → At l c

  going : (l : ℕ) (c : Context) → At l c → stops f l ≡ false → Place l c
  going l c (Going place) on = place
  going l c (Halts ends front) on = cc

  front_of : (l : ℕ) (c : Context) → At l c → AllOf P (of_block (at_front is_pointer f l) [] (block f l))
  front_of l c (Going place) = place.front
  front_of l c (Halts ends front) = front

  -- a place without a merge instruction from which all branches are exits
  quiet_to : (l : ℕ) (c : Context) (ts : List ℕ) → Each (λ t. leads f l c t ≡ false) ts → Each (λ t. tries f l c t ≡ true → Target l c t) ts
  quiet_to l c [] each = tt
  quiet_to l c (t ∷ ts) each = ((λ e. let a : leads f l c t ≡ true = and_left (leads f l c t) (not (is_fall f c t)) e in let b : leads f l c t ≡ false = each.0 in cc), quiet_to l c ts each.1)

  quiet_falls : (l : ℕ) (c : Context) (ts : List ℕ) → Each (λ t. leads f l c t ≡ false) ts → Each (λ t. leads f l c t ≡ true → is_fall f c t ≡ true → P 404 (end_at f l)) ts
  quiet_falls l c [] each = tt
  quiet_falls l c (t ∷ ts) each = ((λ a e. let b : leads f l c t ≡ false = each.0 in cc), quiet_falls l c ts each.1)

  no_merge : (l m : ℕ) → construct f l ≡ None → merge_of (construct f l) ≡ Some m → ⊥
  no_merge l m bare e = let h : merge_of None ≡ Some m = subst (λ z. merge_of z ≡ Some m) bare e in cc

  no_next : (l m : ℕ) → construct f l ≡ None → next_of (construct f l) ≡ Some m → ⊥
  no_next l m bare e = let h : next_of None ≡ Some m = subst (λ z. next_of z ≡ Some m) bare e in cc

  pub bare : (l : ℕ) (c : Context) → construct f l ≡ None
      → Each (λ t. tries f l c t ≡ true → Target l c t) (targets f l)
      → Each (λ t. leads f l c t ≡ true → is_fall f c t ≡ true → P 404 (end_at f l)) (targets f l)
      → AllOf P (of_block (at_front is_pointer f l) [] (block f l)) → AllOf P (of_block (at_end f l c) [] (block f l)) → Place l c
  bare l c none to falls front end = record {
    to = to;
    falls = falls;
    merge = λ m e role. absurd (no_merge l m none e);
    next = λ n e role. absurd (no_next l n none e);
    front = front;
    end = end;
    back_edge = λ n e. absurd (no_next l n none e);
  }

  pub quiet : (l : ℕ) (c : Context) → construct f l ≡ None → Each (λ t. leads f l c t ≡ false) (targets f l)
      → AllOf P (of_block (at_front is_pointer f l) [] (block f l)) → AllOf P (of_block (at_end f l c) [] (block f l)) → Place l c
  quiet l c none exits front end = bare l c none (quiet_to l c (targets f l) exits) (quiet_falls l c (targets f l) exits) front end

  -- ---- the walk stays

  pub record Places : Type 0 where
    pub starts : (l : ℕ) → is_first f l ≡ true → Seen l []
    pub at : (l : ℕ) (c : Context) → Seen l c → At l c

  entered : (l : ℕ) (c : Context) (t : ℕ) → Target l c t → Enters f l t → Seen t (behind (construct f l) l t c)
  entered l c t (Goes enters there) e = there
  entered l c t (Refused shut on p) e = absurd (shut e)
  entered l c t (Whatever p there) e = there
  entered l c t (Stopping ends there) e = there

  stopped : (l : ℕ) (c : Context) (t : ℕ) → Target l c t → stops f t ≡ true → Seen t (behind (construct f l) l t c)
  stopped l c t (Goes enters there) e = there
  stopped l c t (Refused shut on p) e = cc
  stopped l c t (Whatever p there) e = there
  stopped l c t (Stopping ends there) e = there

  refused : (l : ℕ) (c : Context) (t : ℕ) → Target l c t → stops f t ≡ false → (Enters f l t → ⊥) → P 402 (end_at f l)
  refused l c t (Goes enters there) on shut = absurd (shut enters)
  refused l c t (Refused closed on2 p) on shut = p
  refused l c t (Whatever p there) on shut = p
  refused l c t (Stopping ends there) on shut = cc

  going_by_leads : (l : ℕ) (c : Context) (t : ℕ) → leads f l c t ≡ true → stops f l ≡ false
  going_by_leads l c t e =
      not_true (stops f l) (and_left (not (stops f l)) (branches f l t) (and_left (not (stops f l) && branches f l t) (not (is_exit (behind (construct f l) l t c) (end_of f l) t)) e))

  module _ (places : Places) where
    place_at : (l : ℕ) (c : Context) → Seen l c → stops f l ≡ false → Place l c
    place_at l c s on = going l c (places.at l c s) on

    target : (l : ℕ) (c : Context) → Seen l c → (t : ℕ) → tries f l c t ≡ true → Target l c t
    target l c s t e = one_of (λ t. tries f l c t ≡ true → Target l c t) (targets f l) (place_at l c s (going_by_leads l c t (and_left (leads f l c t) (not (is_fall f c t)) e))).to t (branches_of_tries f l t c e) e

    pub seen : {l : ℕ} {c : Context} → Walk f l c → Seen l c
    seen (Starts l first) = places.starts l first
    seen (Entered b t c walk tried enters) = entered b c t (target b c (seen walk) t tried) enters
    seen (Stopped b t c walk tried ends) = stopped b c t (target b c (seen walk) t tried) ends
    seen (Merged b m c walk goes_on merge role) = (place_at b c (seen walk) goes_on).merge m merge role
    seen (Continued b n c walk goes_on next role) = (place_at b c (seen walk) goes_on).next n next role

    back_edge_or : (l : ℕ) (b : Block) → OneBackEdge f l ⊎ P 405 (of_block (λ b. loop_at b.body) 0 (block f l)) → block f l ≡ Some b → (OneBackEdge f l → ⊥) → P 405 (loop_at b.body)
    back_edge_or l b (inl one) e none = absurd (none one)
    back_edge_or l b (inr p) e none = subst (λ z. P 405 (of_block (λ b. loop_at b.body) 0 z)) e p

    pub found_only : all_ended f ≡ true → {rule at : ℕ} → Finds is_pointer f rule at → P rule at
    found_only ends (AtFront l b c r walk at_l contains) = contained P (at_front is_pointer f l) (block f l) b r (front_of l c (places.at l c (seen walk))) at_l contains
    found_only ends (AtEnd l b c r walk at_l goes_on contains) = contained P (at_end f l c) (block f l) b r (place_at l c (seen walk) goes_on).end at_l contains
    found_only ends (BadTarget l t c walk tried goes_on shut) = refused l c t (target l c (seen walk) t tried) goes_on shut
    found_only ends (CaseFall l t c walk leads_on fall) =
        one_of (λ t. leads f l c t ≡ true → is_fall f c t ≡ true → P 404 (end_at f l)) (targets f l) (place_at l c (seen walk) (going_by_leads l c t leads_on)).falls t (branches_of_leads f l t c leads_on) leads_on fall
    found_only ends (BadContinue l n b c walk at_l goes_on next none) = back_edge_or l b ((place_at l c (seen walk) goes_on).back_edge n next) at_l none
    found_only ends (NoTerminator l b at_l unended) =
        let h = ended f ends l b at_l in
        let i : is_ended Open ≡ true = subst (λ z. is_ended z ≡ true) unended h in
        cc

-- ---- nothing

abbrev pub Nothing : (rule at : ℕ) → Type 0
Nothing rule at = ⊥

-- where nothing is broken at the places, and each label is walked, nothing is broken at all
pub unbroken : (is_pointer : ℕ → Bool) (f : Code) (Seen : ℕ → Context → Type 0) → Places is_pointer f Seen Nothing → all_ended f ≡ true
    → ((l : ℕ) → is_label f l ≡ true → (c : Context) × Walk f l c) → IsFirst (Broken is_pointer f) None
unbroken is_pointer f Seen places ends walked = λ rule at broken. go broken
  where
    go : {rule at : ℕ} → Broken is_pointer f rule at → ⊥
    go (Found rule at finds) = found_only is_pointer f Seen Nothing places ends finds
    go (NeverEntered l b nothing at_l never) = let (c, walk) = walked l (ap is_some_block at_l) in never c walk

-- ---- the first

abbrev pub From : Refusal → (rule at : ℕ) → Type 0
From refusal rule at = (refusal.at < at) ⊎ ((refusal.at ≡ at) × (refusal.rule ≤ rule))

-- what is broken at the places is no earlier than a refusal that is found, so that is the first
pub first_found : (is_pointer : ℕ → Bool) (f : Code) (Seen : ℕ → Context → Type 0) (refusal : Refusal) → Places is_pointer f Seen (From refusal) → all_ended f ≡ true
    → Finds is_pointer f refusal.rule refusal.at → IsFirst (Broken is_pointer f) (Some refusal)
first_found is_pointer f Seen refusal places ends finds = record { broken = Found refusal.rule refusal.at finds; least = λ rule at broken. go broken }
  where
    go : {rule at : ℕ} → Broken is_pointer f rule at → From refusal rule at
    go (Found rule at other) = found_only is_pointer f Seen (From refusal) places ends other
    go (NeverEntered l b nothing at_l never) = absurd (nothing refusal.rule refusal.at finds)
