-- The blocks without a terminator, one after the other, and the first of them.
use Rattle.std.proofs.Common.{◌≡◌, inl, inr, ℕ, suc, ◌+◌, ◌≤◌, Bool, true, false, cond, not, ◌==◌, [], ◌∷◌, ◌++◌, length, drop, Option, Some, refl, sym, ap, subst, ◌∙◌}
use Rattle.std.specs.List.{Contains, slice_get}
use Rattle.std.specs.Option.{unwrap_or}
use Rattle.std.proofs.lemmas.List.{drop_all}
use Rattle.spv_base.specs.declared.fault.Refusal.{Refusal}
use Rattle.spv_module.specs.First.{here, unless, first}
use Rattle.spv_blocks.specs.Blocks.{Code, Block, End, Branch, BranchIf, Switch, Return, Unreachable, Open, block}
use Rattle.spv_blocks.proofs.Slices.{drop-at}
use Rattle.spv_walk.specs.Found.{Holds, earlier_of}
use Rattle.spv_walk.specs.Numbering.{HasOwnLabels}
use Rattle.spv_walk.specs.Rules.{IsFirst}
use Rattle.spv_walk.proofs.Found.{no_element}
use Rattle.spv_walk.proofs.Least.{first_of_list, first_same}
use Rattle.std.proofs.lemmas.List.Elements.{Contains-append_left, Contains-append_right, Contains-append_cases, Contains-push, Contains-push_cases}
use Rattle.spv_faults.specs.Opens.{is_open, open_faults, IsOpenAt, OpenAt}
use Rattle.spv_faults.proofs.EarlierLemmas.{first-next, earlier_of-none}
use Rattle.spv_faults.proofs.PredecessorLabels.{own-block}

pub open-next : (f : Code) (k : ℕ) (b : Block) (found fault found2 all : Option Refusal) → slice_get f k ≡ Some b →
    fault ≡ first (here b.end_at (unless (not (is_open b.end)) 401)) → found2 ≡ earlier_of found fault →
    earlier_of found (first (open_faults (drop k f))) ≡ all → earlier_of found2 (first (open_faults (drop (k + 1) f))) ≡ all
open-next f k b found fault found2 all at told next before =
    first-next found fault found2 all (here b.end_at (unless (not (is_open b.end)) 401)) (open_faults (drop (k + 1) f)) told next
    (ap (λ g. earlier_of found (first (open_faults g))) (sym (drop-at f k b at)) ∙ before)

-- ---- the list, block by block

open_end : (e : End) → is_open e ≡ true → e ≡ Open
open_end (Branch l) h = absurd (cc (h))
open_end (BranchIf a b) h = absurd (cc (h))
open_end (Switch d ps) h = absurd (cc (h))
open_end Return h = absurd (cc (h))
open_end Unreachable h = absurd (cc (h))
open_end Open h = refl

one_open : (t : Bool) (at : ℕ) (r : Refusal) → Contains (here at (unless (not t) 401)) r → (t ≡ true) × (r ≡ record { rule = 401; at = at })
one_open false at r h = absurd (no_element r h)
one_open true at r h = elim (Contains-push_cases [] (record { rule = 401; at = at }) r h) [
  | inl e ↦ absurd (no_element r e)
  | inr e ↦ (refl, sym e)
]

-- what the list holds is told at a block that is open
open_cases : (f : Code) (r : Refusal) → Contains (open_faults f) r → (k : ℕ) × (b : Block) × (slice_get f k ≡ Some b) × (b.end ≡ Open) × (r ≡ record { rule = 401; at = b.end_at })
open_cases [] r h = absurd (no_element r h)
open_cases (b ∷ f) r h = elim (Contains-append_cases (here b.end_at (unless (not (is_open b.end)) 401)) (open_faults f) r h) [
  | inl e ↦ let one = one_open (is_open b.end) b.end_at r e in (0, b, refl, open_end b.end one.0, one.1)
  | inr e ↦ let later = open_cases f r e in (suc later.0, later.1, later.2, later.3, later.4)
]

open_here : (b : Block) → b.end ≡ Open → Contains (here b.end_at (unless (not (is_open b.end)) 401)) (record { rule = 401; at = b.end_at })
open_here b h =
    subst (λ (e : End). Contains (here b.end_at (unless (not (is_open e)) 401)) (record { rule = 401; at = b.end_at })) (sym h)
    (Contains-push [] (record { rule = 401; at = b.end_at }))

-- and of each block of a label that is open
open_held : (f : Code) (l : ℕ) (b : Block) → block f l ≡ Some b → b.end ≡ Open → Contains (open_faults f) (record { rule = 401; at = b.end_at })
open_held [] l b h e = absurd (cc (h))
open_held (c ∷ f) l b h e = held (c.label == l) h (λ g. open_held f l b g e)
  where
    held : (t : Bool) → cond t (Some c) (block f l) ≡ Some b → (block f l ≡ Some b → Contains (open_faults f) (record { rule = 401; at = b.end_at }))
        → Contains (here c.end_at (unless (not (is_open c.end)) 401) ++ open_faults f) (record { rule = 401; at = b.end_at })
    held true g behind =
        let same : c ≡ b = ap (λ o. unwrap_or o c) g in
        Contains-append_left (here c.end_at (unless (not (is_open c.end)) 401)) (open_faults f) (record { rule = 401; at = b.end_at })
        (subst (λ (d : Block). Contains (here d.end_at (unless (not (is_open d.end)) 401)) (record { rule = 401; at = b.end_at })) (sym same) (open_here b e))
    held false g behind =
        Contains-append_right (here c.end_at (unless (not (is_open c.end)) 401)) (open_faults f) (record { rule = 401; at = b.end_at }) (behind g)

held_open : (f : Code) → HasOwnLabels f → (rule at : ℕ) → Holds (open_faults f) rule at → IsOpenAt f rule at
held_open f own rule at h =
    let found = open_cases f (record { rule = rule; at = at }) h in
    let b = found.1 in
    subst (λ (r : Refusal). IsOpenAt f r.rule r.at) (sym found.4) (OpenAt b.label b (own-block f own found.0 b found.2) found.3)

open_holds : (f : Code) (rule at : ℕ) → IsOpenAt f rule at → Holds (open_faults f) rule at
open_holds f rule at (OpenAt l b e o) = open_held f l b e o

pub first-open : (f : Code) (found : Option Refusal) → found ≡ first (open_faults f) → HasOwnLabels f → IsFirst (IsOpenAt f) found
first-open f found is own =
    subst (IsFirst (IsOpenAt f)) (sym is)
    (first_same (Holds (open_faults f)) (IsOpenAt f) (first (open_faults f)) (held_open f own) (open_holds f) (first_of_list (open_faults f)))

pub open-ends : (f : Code) (k : ℕ) (found : Option Refusal) → length f ≤ k → earlier_of found (first (open_faults (drop k f))) ≡ first (open_faults f) → found ≡ first (open_faults f)
open-ends f k found past told =
    sym (earlier_of-none found) ∙ ap (λ g. earlier_of found (first (open_faults g))) (sym (drop_all k f past)) ∙ told
