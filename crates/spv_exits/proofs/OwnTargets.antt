-- A header that is its own continue target breaks a rule.
use Rattle.std.proofs.Common.{◌≡◌, ℕ, Bool, true, false, not, ◌==◌, List, [], ◌∷◌, ◌++◌, Option, Some, None, refl}
use Rattle.std.specs.List.{Contains}
use Rattle.std.proofs.lemmas.List.Elements.{Contains-append_left, Contains-push}
use Rattle.spv_base.specs.declared.fault.Refusal.{Refusal}
use Rattle.spv_module.specs.First.{here, unless}
use Rattle.spv_blocks.specs.Blocks.{Code, Block, Ins, Phi, Selection, Loop, Other, End, Branch, BranchIf, Switch, Return, Unreachable, Open, opens, last_opens, next_of, block, of_block, stops, is_it}
use Rattle.spv_walk.specs.Contexts.{Context}
use Rattle.spv_walk.specs.Faults.{merge_faults, loop_fits, selection_fits}
use Rattle.spv_walk.specs.Phis.{phi_faults}
use Rattle.spv_walk.specs.Rules.{Broken, Found, AtFront}
use Rattle.spv_walk.specs.Walk.{Walk}

no_elements : (xs : List Refusal) → ((x : Refusal) → Contains xs x → ⊥) → xs ≡ []
no_elements [] h = refl
no_elements (x ∷ xs) h = absurd (h x (Contains-append_left (x ∷ []) xs x (Contains-push [] x)))

none_right : (xs ys : List Refusal) → xs ++ ys ≡ [] → ys ≡ []
none_right [] ys h = h
none_right (x ∷ xs) ys h = absurd (cc (h))

no_next_phi : (e : End) (l at t r : ℕ) (ps : List (ℕ × ℕ)) → is_it l (next_of (opens e (Phi at t r ps))) ≡ false
no_next_phi (Branch a) l at t r ps = refl
no_next_phi (BranchIf a b) l at t r ps = refl
no_next_phi (Switch d qs) l at t r ps = refl
no_next_phi Return l at t r ps = refl
no_next_phi Unreachable l at t r ps = refl
no_next_phi Open l at t r ps = refl

no_next_selection : (e : End) (l at m : ℕ) → is_it l (next_of (opens e (Selection at m))) ≡ false
no_next_selection (Branch a) l at m = refl
no_next_selection (BranchIf a b) l at m = refl
no_next_selection (Switch d qs) l at m = refl
no_next_selection Return l at m = refl
no_next_selection Unreachable l at m = refl
no_next_selection Open l at m = refl

no_next_other : (e : End) (l at : ℕ) → is_it l (next_of (opens e (Other at))) ≡ false
no_next_other (Branch a) l at = refl
no_next_other (BranchIf a b) l at = refl
no_next_other (Switch d qs) l at = refl
no_next_other Return l at = refl
no_next_other Unreachable l at = refl
no_next_other Open l at = refl

next_here : (e : End) (l at m n : ℕ) → is_it l (next_of (opens e (Loop at m n))) ≡ true → (n == l) ≡ true
next_here (Branch a) l at m n h = h
next_here (BranchIf a b) l at m n h = h
next_here (Switch d qs) l at m n h = h
next_here Return l at m n h = h
next_here Unreachable l at m n h = h
next_here Open l at m n h = absurd (cc (h))

own_fault : (at : ℕ) (fits own : Bool) → own ≡ true → here at (unless fits 403 ++ unless (not own) 405) ++ [] ≡ [] → ⊥
own_fault at true true e h = cc (h)
own_fault at false true e h = cc (h)
own_fault at fits false e h = cc (e)

-- induction on the instructions
own_target : (f : Code) (l : ℕ) (e : End) (is : List Ins) → is_it l (next_of (last_opens e is)) ≡ true → merge_faults f l e is ≡ [] → ⊥
own_target f l e [] h g = cc (h)
own_target f l e (Phi at t r ps ∷ []) h g = cc (h, no_next_phi e l at t r ps)
own_target f l e (Selection at m ∷ []) h g = cc (h, no_next_selection e l at m)
own_target f l e (Other at ∷ []) h g = cc (h, no_next_other e l at)
own_target f l e (Loop at m n ∷ []) h g = own_fault at (loop_fits f l e [] m n) (n == l) (next_here e l at m n h) g
own_target f l e (Phi at t r ps ∷ j ∷ is) h g = own_target f l e (j ∷ is) h g
own_target f l e (Other at ∷ j ∷ is) h g = own_target f l e (j ∷ is) h g
own_target f l e (Selection at m ∷ j ∷ is) h g =
    own_target f l e (j ∷ is) h (none_right (here at (unless (selection_fits f l e (j ∷ is) m) 403)) (merge_faults f l e (j ∷ is)) g)
own_target f l e (Loop at m n ∷ j ∷ is) h g =
    own_target f l e (j ∷ is) h (none_right (here at (unless (loop_fits f l e (j ∷ is) m n) 403 ++ unless (not (n == l)) 405)) (merge_faults f l e (j ∷ is)) g)

module _ (is_pointer : ℕ → Bool) (f : Code) (nothing : (rule at : ℕ) → Broken is_pointer f rule at → ⊥) where
  front-fine : (l : ℕ) (c : Context) (b : Block) → Walk f l c → block f l ≡ Some b → merge_faults f l b.end b.body ≡ []
  front-fine l c b w e =
      none_right (phi_faults is_pointer f l b.body) (merge_faults f l b.end b.body)
      (no_elements (phi_faults is_pointer f l b.body ++ merge_faults f l b.end b.body) (λ r h. nothing r.rule r.at (Found r.rule r.at (AtFront l b c r w e h))))

  runs_by : (l : ℕ) (c : Context) (o : Option Block) → Walk f l c → block f l ≡ o → (t : Bool)
      → is_it l (next_of (of_block (λ b. last_opens b.end b.body) None o)) ≡ t → t ≡ false
  runs_by l c o w e false h = refl
  runs_by l c None w e true h = absurd (cc (h))
  runs_by l c (Some b) w e true h = absurd (own_target f l b.end b.body h (front-fine l c b w e))

  -- where no rule is broken, no walked header is its own continue target
  pub walked-runs : (l : ℕ) (c : Context) → Walk f l c → stops f l ≡ false
  walked-runs l c w = runs_by l c (block f l) w refl (stops f l) refl
