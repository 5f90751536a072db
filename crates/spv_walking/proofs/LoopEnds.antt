-- The blocks that end loops, block after block, and that they are the back edges of the walk.
use Rattle.std.proofs.Common.{◌≡◌, ◌≢◌, ◌⊎◌, inl, inr, ℕ, ◌+◌, ◌≤◌, ◌==◌, ◌&&◌, Bool, true, false, cond, [], ◌∷◌, length, take, slice_get, Option, Some, None, refl, sym, ap, subst, ◌∙◌}
use Rattle.std.proofs.lemmas.Bool.{false≢true}
use Rattle.spv_blocks.specs.Tables.{found}
use Rattle.std.specs.Option.{is_none}
use Rattle.spv_blocks.specs.Blocks.{Code, Block, Construct, branches, construct, is_it}
use Rattle.spv_walk.specs.Contexts.{InSelection, InArm, InBody, InNext, Context}
use Rattle.spv_walk.specs.Walk.{BackEdge, OneBackEdge}
use Rattle.spv_walk.specs.Tables.{Tells}
use Rattle.spv_walk.specs.Walked.{InPlaces, IsWalk}
use Rattle.spv_walk.proofs.Unique.{both_left, both_right, both_hold, either_holds, left_holds, right_holds, equal_true, true_equal, is_it_equal, equal_is_it, bare_runs}
use Rattle.spv_walking.specs.declared.closing.BackEdges.{BackEdges}
use Rattle.spv_walking.specs.Edges.{edge_of, is_one, has_one, joined, AddsEdge}
use Rattle.spv_walking.proofs.Looked.{labelled, labelled_more, block_labelled, take_all, branch_label}

-- ---- what the table has of one loop

-- the table tells of the blocks P: there is none, one or more
abbrev pub IsOf : (P : ℕ → Type 0) → Option (Option ℕ) → Type 0
IsOf P None = (b : ℕ) → P b → ⊥
IsOf P (Some None) = (a : ℕ) × (b : ℕ) × (a ≢ b) × P a × P b
IsOf P (Some (Some a)) = P a × ((b : ℕ) → P b → b ≡ a)

module _ (P Q : ℕ → Type 0) (on : (x : ℕ) → P x → Q x) where
  same_of : (o : Option (Option ℕ)) → ((x : ℕ) → Q x → P x) → IsOf P o → IsOf Q o
  same_of None back i = λ b q. i b (back b q)
  same_of (Some None) back i = (i.0, i.1, i.2, on i.0 i.3, on i.1 i.4)
  same_of (Some (Some a)) back i = (on a i.0, λ b q. i.1 b (back b q))

  -- one block more
  more_of : (o : Option (Option ℕ)) (b : ℕ) → ((x : ℕ) → Q x → P x ⊎ (x ≡ b)) → Q b → IsOf P o → IsOf Q (Some (joined o b))
  more_of None b back q i = (q, λ x y. elim (back x y) [ inl p ↦ absurd (i x p) | inr e ↦ e ])
  more_of (Some None) b back q i = (i.0, i.1, i.2, on i.0 i.3, on i.1 i.4)
  more_of (Some (Some a)) b back q i = go (a == b) refl
    where
      go : (t : Bool) → (a == b) ≡ t → IsOf Q (Some (cond (a == b) (Some b) None))
      go true h =
          subst (λ z. IsOf Q (Some (cond z (Some b) None))) (sym h)
          (q, λ x y. elim (back x y) [ inl p ↦ i.1 x p ∙ equal_true a b h | inr e ↦ e ])
      go false h =
          subst (λ z. IsOf Q (Some (cond z (Some b) None))) (sym h)
          (a, b, (λ e. false≢true (sym h ∙ true_equal a b e)), on a i.0, q)

-- ---- block after block

-- b is one of these blocks, and ends the loop h
abbrev pub EndsLoop : (f : Code) (place : ℕ → Option Context) (looked : ℕ → Bool) (h b : ℕ) → Type 0
EndsLoop f place looked h b = (looked b ≡ true) × (edge_of f b (place b) ≡ Some h)

abbrev pub HasEnds : (f : Code) (place : ℕ → Option Context) (looked : ℕ → Bool) → BackEdges → Type 0
HasEnds f place looked edges = (h : ℕ) → IsOf (EndsLoop f place looked h) (found edges.blocks h)

not_it : (o : Option ℕ) (h : ℕ) → is_it h o ≡ false → o ≡ Some h → ⊥
not_it o h n e = false≢true (sym n ∙ equal_is_it h o e)

module _ (f : Code) (place : ℕ → Option Context) where
  pub ends_none : (edges : BackEdges) → ((h : ℕ) → found edges.blocks h ≡ None) → HasEnds f place (λ l. labelled (take 0 f) l) edges
  ends_none edges none h = subst (IsOf (EndsLoop f place (λ l. labelled (take 0 f) l) h)) (sym (none h)) (λ b p. nothing f b p.0)
    where
      nothing : (f : Code) (b : ℕ) → labelled (take 0 f) b ≡ true → ⊥
      nothing [] b e = absurd (cc)
      nothing (x ∷ f) b e = absurd (cc)

  pub ends_more : (old new : BackEdges) (k : ℕ) (x : Block) → slice_get f k ≡ Some x → HasEnds f place (λ l. labelled (take k f) l) old
      → AddsEdge old new (edge_of f x.label (place x.label)) x.label → HasEnds f place (λ l. labelled (take (k + 1) f) l) new
  ends_more old new k x e i a h = go (is_it h (edge_of f x.label (place x.label))) refl
    where
      Before : ℕ → Type 0
      Before = EndsLoop f place (λ l. labelled (take k f) l) h

      After : ℕ → Type 0
      After = EndsLoop f place (λ l. labelled (take (k + 1) f) l) h

      on : (b : ℕ) → EndsLoop f place (λ l. labelled (take k f) l) h b → EndsLoop f place (λ l. labelled (take (k + 1) f) l) h b
      on b p = (labelled_more f k x b e ∙ left_holds (labelled (take k f) b) (x.label == b) p.0, p.1)

      back : (b : ℕ) → EndsLoop f place (λ l. labelled (take (k + 1) f) l) h b → EndsLoop f place (λ l. labelled (take k f) l) h b ⊎ (b ≡ x.label)
      back b p = elim (either_holds (labelled (take k f) b) (x.label == b) (sym (labelled_more f k x b e) ∙ p.0)) [
        | inl q ↦ inl (q, p.1)
        | inr q ↦ inr (sym (equal_true x.label b q))
      ]

      go : (t : Bool) → is_it h (edge_of f x.label (place x.label)) ≡ t → IsOf (EndsLoop f place (λ l. labelled (take (k + 1) f) l) h) (found new.blocks h)
      go true y =
          let it = is_it_equal h (edge_of f x.label (place x.label)) y in
          subst (IsOf (EndsLoop f place (λ l. labelled (take (k + 1) f) l) h))
          (sym (a.at h ∙ ap (λ z. cond z (Some (joined (found old.blocks h) x.label)) (found old.blocks h)) y))
          (more_of (EndsLoop f place (λ l. labelled (take k f) l) h) (EndsLoop f place (λ l. labelled (take (k + 1) f) l) h) on (found old.blocks h) x.label back
          (labelled_more f k x x.label e ∙ right_holds (labelled (take k f) x.label) (x.label == x.label) (true_equal x.label x.label refl), it)
          (i h))
      go false y =
          subst (IsOf (EndsLoop f place (λ l. labelled (take (k + 1) f) l) h))
          (sym (a.at h ∙ ap (λ z. cond z (Some (joined (found old.blocks h) x.label)) (found old.blocks h)) y))
          (same_of (EndsLoop f place (λ l. labelled (take k f) l) h) (EndsLoop f place (λ l. labelled (take (k + 1) f) l) h) on (found old.blocks h)
          (λ b p. elim (back b p) [
            | inl q ↦ q
            | inr q ↦ absurd (not_it (edge_of f x.label (place x.label)) h y (ap (λ l. edge_of f l (place l)) (sym q) ∙ p.1))
          ])
          (i h))

-- ---- they are the back edges

bare_none : (k : Option Construct) → is_none k ≡ true → k ≡ None
bare_none None e = refl
bare_none (Some x) e = absurd (cc)

none_bare : (k : Option Construct) → k ≡ None → is_none k ≡ true
none_bare k e = ap (λ (o : Option Construct). is_none o) e

module _ (f : Code) (b : ℕ) where
  abbrev IsEnd : (h : ℕ) → Option Context → Type 0
  IsEnd h o = (c : Context) × (m : ℕ) × (o ≡ Some (InNext h m ∷ c)) × (construct f b ≡ None) × (branches f b h ≡ true)

  next_end : (h g m : ℕ) (c : Context) (t : Bool) → (is_none (construct f b) && branches f b g) ≡ t → cond t (Some g) None ≡ Some h → IsEnd h (Some (InNext g m ∷ c))
  next_end h g m c true y e =
      let same : g ≡ h = cc in (
        c,
        m,
        ap (λ j. Some (InNext j m ∷ c)) same,
        bare_none (construct f b) (both_left (is_none (construct f b)) (branches f b g) y),
        subst (λ j. branches f b j ≡ true) same (both_right (is_none (construct f b)) (branches f b g) y),
      )
  next_end h g m c false y e = absurd (cc)

  ends_here : (h : ℕ) (o : Option Context) → edge_of f b o ≡ Some h → IsEnd h o
  ends_here h None e = absurd (cc)
  ends_here h (Some []) e = absurd (cc)
  ends_here h (Some (InSelection m ∷ c)) e = absurd (cc)
  ends_here h (Some (InArm g m a ∷ c)) e = absurd (cc)
  ends_here h (Some (InBody g m n ∷ c)) e = absurd (cc)
  ends_here h (Some (InNext g m ∷ c)) e = next_end h g m c (is_none (construct f b) && branches f b g) refl e

  ends_there : (h m : ℕ) (c : Context) (o : Option Context) → o ≡ Some (InNext h m ∷ c) → construct f b ≡ None → branches f b h ≡ true → edge_of f b o ≡ Some h
  ends_there h m c o e k t =
      ap (edge_of f b) e
      ∙ ap (λ z. cond z (Some h) None) (both_hold (is_none (construct f b)) (branches f b h) (none_bare (construct f b) k) t)

module _ (f : Code) (place : ℕ → Option Context) (w : IsWalk f (InPlaces place)) (edges : BackEdges) (i : HasEnds f place (λ l. labelled f l) edges) where
  is_edge : (h b : ℕ) → EndsLoop f place (λ l. labelled f l) h b → BackEdge f h b
  is_edge h b p =
      let e = ends_here f b h (place b) p.1 in
      record { context = e.0; merge = e.1; walked = w.sound b (InNext h e.1 ∷ e.0) e.2; bare = e.3; branch = e.4 }

  edge_is : (h b : ℕ) → BackEdge f h b → EndsLoop f place (λ l. labelled f l) h b
  edge_is h b e = (
    block_labelled f b (branch_label f b h e.branch),
    ends_there f b h e.merge e.context (place b) (w.whole b (InNext h e.merge ∷ e.context) e.walked (bare_runs f b e.bare)) e.bare e.branch,
  )

  one_told : (h : ℕ) (o : Option (Option ℕ)) → IsOf (EndsLoop f place (λ l. labelled f l) h) o → is_one o ≡ true → OneBackEdge f h
  one_told h None i e = absurd (cc)
  one_told h (Some None) i e = absurd (cc)
  one_told h (Some (Some a)) i e = record { block = a; ends = is_edge h a i.0; one = λ b x. i.1 b (edge_is h b x) }

  told_one : (h : ℕ) (o : Option (Option ℕ)) → IsOf (EndsLoop f place (λ l. labelled f l) h) o → OneBackEdge f h → is_one o ≡ true
  told_one h None i x = absurd (i x.block (edge_is h x.block x.ends))
  told_one h (Some None) i x = absurd (i.2 (x.one i.0 (is_edge h i.0 i.3) ∙ sym (x.one i.1 (is_edge h i.1 i.4))))
  told_one h (Some (Some a)) i x = refl

  pub ends_tell : Tells (λ h. has_one edges h) (OneBackEdge f)
  ends_tell = record { sound = λ h e. one_told h (found edges.blocks h) (i h) e; whole = λ h x. told_one h (found edges.blocks h) (i h) x }

pub ends_all : (f g : Code) (place : ℕ → Option Context) (k : ℕ) (edges : BackEdges) → g ≡ f → IsWalk f (InPlaces place) → length g ≤ k
    → HasEnds f place (λ l. labelled (take k f) l) edges → Tells (λ h. has_one edges h) (OneBackEdge f)
ends_all f g place k edges e w n i =
    ends_tell f place w edges (subst (λ (c : Code). HasEnds f place (λ l. labelled c l) edges) (take_all f k (subst (λ (c : Code). length c ≤ k) e n)) i)

pub ends_next : (f g : Code) (place : ℕ → Option Context) (old new : BackEdges) (k : ℕ) (x : Block) (ends : Option ℕ) → g ≡ f → slice_get g k ≡ Some x
    → HasEnds f place (λ l. labelled (take k f) l) old → ends ≡ edge_of f x.label (place x.label) → AddsEdge old new ends x.label
    → HasEnds f place (λ l. labelled (take (k + 1) f) l) new
ends_next f g place old new k x ends same e i is a =
    ends_more f place old new k x (subst (λ (c : Code). slice_get c k ≡ Some x) same e) i (subst (λ (o : Option ℕ). AddsEdge old new o x.label) is a)
