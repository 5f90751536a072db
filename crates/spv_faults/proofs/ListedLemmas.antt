-- The lists of blocks hold what is broken at labels.
use Rattle.std.proofs.Common.{◌≡◌, ◌⊎◌, inl, inr, ℕ, suc, Bool, true, false, cond, ◌==◌, List, [], ◌∷◌, Option, Some, None, refl, sym, ap, subst, ◌∙◌}
use Rattle.std.specs.List.{Contains, slice_get}
use Rattle.std.specs.Option.{is_some, unwrap_or}
use Rattle.std.proofs.lemmas.List.Elements.{Contains-append_left, Contains-append_right, Contains-append_cases, Contains-push, Contains-push_cases}
use Rattle.spv_base.specs.declared.fault.Refusal.{Refusal}
use Rattle.spv_module.specs.First.{here, unless, first}
use Rattle.spv_blocks.specs.Blocks.{Code, Block, block}
use Rattle.spv_walk.specs.Contexts.{Context}
use Rattle.spv_walk.specs.Found.{Holds, Missing, Misses}
use Rattle.spv_walk.specs.Numbering.{HasOwnLabels}
use Rattle.spv_walk.specs.Walked.{InPlaces}
use Rattle.spv_walk.proofs.Found.{no_element}
use Rattle.spv_walk.proofs.Least.{first_of_list, first_same}
use Rattle.spv_walk.proofs.Unique.{equal_true}
use Rattle.spv_faults.specs.Listed.{Faults, of_context, walked_faults, missing_faults, IsFaultAt, FaultAt, FirstOfWalked, FirstOfMissing}
use Rattle.spv_faults.proofs.PredecessorLabels.{own-block}

-- the block of a label is one of the function, and a part of the list is of it
found_same : (t : Bool) (c b : Block) (l : ℕ) (later : Option Block) → (c.label == l) ≡ t → cond t (Some c) later ≡ Some b → ((c ≡ b) × (c.label ≡ l)) ⊎ (later ≡ Some b)
found_same true c b l later e h = inl (ap (λ o. unwrap_or o c) h, equal_true c.label l e)
found_same false c b l later e h = inr h

module _ (place : ℕ → Option Context) where
  -- ---- blocks in the table

  part_cases : (faults : Context → List Refusal) (o : Option Context) (r : Refusal) → Contains (of_context faults o) r → (c : Context) × (o ≡ Some c) × Contains (faults c) r
  part_cases faults None r h = absurd (no_element r h)
  part_cases faults (Some c) r h = (c, refl, h)

  walked_cases : (faults : Faults) (f : Code) (r : Refusal) → Contains (walked_faults faults place f) r
      → (k : ℕ) × (b : Block) × (c : Context) × (slice_get f k ≡ Some b) × (place b.label ≡ Some c) × Contains (faults b.label c b) r
  walked_cases faults [] r h = absurd (no_element r h)
  walked_cases faults (b ∷ f) r h = elim (Contains-append_cases (of_context (λ c. faults b.label c b) (place b.label)) (walked_faults faults place f) r h) [
    | inl e ↦ let part = part_cases (λ c. faults b.label c b) (place b.label) r e in (0, b, part.0, refl, part.1, part.2)
    | inr e ↦ let later = walked_cases faults f r e in (suc later.0, later.1, later.2, later.3, later.4, later.5)
  ]

  part_holds : (faults : Faults) (b : Block) (c : Context) (r : Refusal) → place b.label ≡ Some c → Contains (faults b.label c b) r
      → Contains (of_context (λ d. faults b.label d b) (place b.label)) r
  part_holds faults b c r e h = subst (λ (o : Option Context). Contains (of_context (λ d. faults b.label d b) o) r) (sym e) h

  -- induction on the blocks
  walked_held : (faults : Faults) (f : Code) (l : ℕ) (b : Block) (c : Context) (r : Refusal) → place l ≡ Some c → block f l ≡ Some b → Contains (faults l c b) r
      → Contains (walked_faults faults place f) r
  walked_held faults [] l b c r p h g = absurd (cc (h))
  walked_held faults (d ∷ f) l b c r p h g = elim (found_same (d.label == l) d b l (block f l) refl h) [
    | inl e ↦
        Contains-append_left (of_context (λ x. faults d.label x d) (place d.label)) (walked_faults faults place f) r
        (part_holds faults d c r (ap place e.1 ∙ p) (subst (λ (x : Block). Contains (faults d.label c x) r) (sym e.0) (subst (λ (n : ℕ). Contains (faults n c b) r) (sym e.1) g)))
    | inr e ↦ Contains-append_right (of_context (λ x. faults d.label x d) (place d.label)) (walked_faults faults place f) r (walked_held faults f l b c r p e g)
  ]

  held_fault : (faults : Faults) (f : Code) → HasOwnLabels f → (rule at : ℕ) → Holds (walked_faults faults place f) rule at → IsFaultAt faults f place rule at
  held_fault faults f own rule at h =
      let found = walked_cases faults f (record { rule = rule; at = at }) h in
      FaultAt found.1.label found.1 found.2 (record { rule = rule; at = at }) found.4 (own-block f own found.0 found.1 found.3) found.5

  fault_held : (faults : Faults) (f : Code) (rule at : ℕ) → IsFaultAt faults f place rule at → Holds (walked_faults faults place f) rule at
  fault_held faults f rule at (FaultAt l b c r p h g) = walked_held faults f l b c r p h g

  -- ---- blocks that are not in it

  one_missing : (o : Option Context) (at : ℕ) (r : Refusal) → Contains (here at (unless (is_some o) 402)) r → (o ≡ None) × (record { rule = 402; at = at } ≡ r)
  one_missing (Some c) at r h = absurd (no_element r h)
  one_missing None at r h = elim (Contains-push_cases [] (record { rule = 402; at = at }) r h) [
    | inl e ↦ absurd (no_element r e)
    | inr e ↦ (refl, e)
  ]

  missing_cases : (f : Code) (r : Refusal) → Contains (missing_faults place f) r → (k : ℕ) × (b : Block) × (slice_get f k ≡ Some b) × (place b.label ≡ None) × (record { rule = 402; at = b.at } ≡ r)
  missing_cases [] r h = absurd (no_element r h)
  missing_cases (b ∷ f) r h = elim (Contains-append_cases (here b.at (unless (is_some (place b.label)) 402)) (missing_faults place f) r h) [
    | inl e ↦ let one = one_missing (place b.label) b.at r e in (0, b, refl, one.0, one.1)
    | inr e ↦ let later = missing_cases f r e in (suc later.0, later.1, later.2, later.3, later.4)
  ]

  missing_part : (b : Block) → place b.label ≡ None → Contains (here b.at (unless (is_some (place b.label)) 402)) (record { rule = 402; at = b.at })
  missing_part b e =
      subst (λ (o : Option Context). Contains (here b.at (unless (is_some o) 402)) (record { rule = 402; at = b.at })) (sym e) (Contains-push [] (record { rule = 402; at = b.at }))

  -- induction on the blocks
  missing_held : (f : Code) (l : ℕ) (b : Block) → place l ≡ None → block f l ≡ Some b → Contains (missing_faults place f) (record { rule = 402; at = b.at })
  missing_held [] l b p h = absurd (cc (h))
  missing_held (d ∷ f) l b p h = elim (found_same (d.label == l) d b l (block f l) refl h) [
    | inl e ↦
        Contains-append_left (here d.at (unless (is_some (place d.label)) 402)) (missing_faults place f) (record { rule = 402; at = b.at })
        (subst (λ (x : Block). Contains (here d.at (unless (is_some (place d.label)) 402)) (record { rule = 402; at = x.at })) e.0 (missing_part d (ap place e.1 ∙ p)))
    | inr e ↦ Contains-append_right (here d.at (unless (is_some (place d.label)) 402)) (missing_faults place f) (record { rule = 402; at = b.at }) (missing_held f l b p e)
  ]

  no_context : (o : Option Context) → o ≡ None → (c : Context) → o ≡ Some c → ⊥
  no_context None e c h = cc (h)
  no_context (Some d) e c h = cc (e)

  none_there : (o : Option Context) → ((c : Context) → o ≡ Some c → ⊥) → o ≡ None
  none_there None n = refl
  none_there (Some c) n = absurd (n c refl)

  held_missing : (f : Code) → HasOwnLabels f → (rule at : ℕ) → Holds (missing_faults place f) rule at → Missing f (InPlaces place) rule at
  held_missing f own rule at h =
      let found = missing_cases f (record { rule = rule; at = at }) h in
      subst (λ (r : Refusal). Missing f (InPlaces place) r.rule r.at) found.4
      (Misses found.1.label found.1 (own-block f own found.0 found.1 found.2) (no_context (place found.1.label) found.3))

  missing_holds : (f : Code) (rule at : ℕ) → Missing f (InPlaces place) rule at → Holds (missing_faults place f) rule at
  missing_holds f rule at (Misses l b h n) = missing_held f l b (none_there (place l) n) h

pub first-walked : FirstOfWalked
first-walked faults f place own =
    first_same (Holds (walked_faults faults place f)) (IsFaultAt faults f place) (first (walked_faults faults place f)) (held_fault place faults f own) (fault_held place faults f)
    (first_of_list (walked_faults faults place f))

pub first-missing : FirstOfMissing
first-missing f place own =
    first_same (Holds (missing_faults place f)) (Missing f (InPlaces place)) (first (missing_faults place f)) (held_missing place f own) (missing_holds place f)
    (first_of_list (missing_faults place f))
