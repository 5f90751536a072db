-- Contexts in rows, and what is seen of a context.
use Rattle.std.proofs.Common.{◌≡◌, ◌≢◌, ◌⊎◌, inl, inr, Option, ℕ, zero, suc, ◌+◌, ◌||◌, List, [], ◌∷◌, ◌++◌, length, slice_get, Some, refl, sym, ap, subst, ◌∙◌, arith}
use Rattle.std.proofs.lemmas.Bool.Decides.{eqb_tells}
use Rattle.spv_blocks.specs.Blocks.{End}
use Rattle.spv_walk.specs.Contexts.{InSelection, InArm, InBody, InNext, Context, leaves_loop, leaves_switch, leaves_inner, is_exit, in_next}
use Rattle.spv_walk.specs.Walked.{WalkAdds}
use Rattle.spv_walk.specs.Rows.{InRows, AreContexts, PlaceAdded, Row, IsContext, Outside, Within, seen, is_that, leaves_level, innermost, is_exit_by, SeenTells}

get_stays : {A : Type 0} (xs ys : List A) (k : ℕ) (x : A) → slice_get xs k ≡ Some x → slice_get (xs ++ ys) k ≡ Some x
get_stays [] ys k x h = absurd (cc)
get_stays (y ∷ xs) ys zero x h = h
get_stays (y ∷ xs) ys (suc k) x h = get_stays xs ys k x h

get_added : {A : Type 0} (xs : List A) (x : A) → slice_get (xs ++ x ∷ []) (length xs) ≡ Some x
get_added [] x = refl
get_added (y ∷ xs) x = get_added xs x

pub context_stays : (rows more : List Row) (place : ℕ) (c : Context) → IsContext rows place c → IsContext (rows ++ more) place c
context_stays rows more place c Outside = Outside
context_stays rows more place c (Within p k row d e g i) = Within place k row d e (get_stays rows more k row g) (context_stays rows more row.outer d i)

pub context_added : (rows : List Row) (row : Row) (c : Context) → IsContext rows row.outer c → IsContext (rows ++ row ∷ []) (length rows + 1) (row.level ∷ c)
context_added rows row c i = Within (length rows + 1) (length rows) row c refl (get_added rows row) (context_stays rows (row ∷ []) row.outer c i)

pub one_context_of_row : (rows : List Row) (place : ℕ) (c d : Context) → IsContext rows place c → IsContext rows place d → c ≡ d
one_context_of_row rows place c d Outside Outside = refl
one_context_of_row rows place c d Outside (Within q k row b e g i) = absurd (omega arith)
one_context_of_row rows place c d (Within p k row b e g i) Outside = absurd (omega arith)
one_context_of_row rows place c d (Within p k row b e g i) (Within q j line a x y z) =
    let same : k ≡ j = omega arith in
    let rows_same : row ≡ line = cc (g, y, ap (slice_get rows) same) in
    let z2 : IsContext rows row.outer a = subst (λ r. IsContext rows r.outer a) (sym rows_same) z in
    ap (λ l. row.level ∷ l) (one_context_of_row rows row.outer b a i z2) ∙ ap (λ r. r.level ∷ a) rows_same

pub seen_loop : (c : Context) (t : ℕ) → leaves_loop c t ≡ (is_that (seen c).merge t || is_that (seen c).next t)
seen_loop [] t = refl
seen_loop (InSelection m ∷ c) t = seen_loop c t
seen_loop (InArm h m a ∷ c) t = seen_loop c t
seen_loop (InBody h m n ∷ c) t = refl
seen_loop (InNext h m ∷ c) t = refl

pub seen_switch : (c : Context) (t : ℕ) → leaves_switch c t ≡ is_that (seen c).switch t
seen_switch [] t = refl
seen_switch (InSelection m ∷ c) t = seen_switch c t
seen_switch (InArm h m a ∷ c) t = refl
seen_switch (InBody h m n ∷ c) t = refl
seen_switch (InNext h m ∷ c) t = refl

pub seen_next : (c : Context) → in_next c ≡ (seen c).in_next
seen_next [] = refl
seen_next (InSelection m ∷ c) = seen_next c
seen_next (InArm h m a ∷ c) = seen_next c
seen_next (InBody h m n ∷ c) = seen_next c
seen_next (InNext h m ∷ c) = refl

pub seen_inner : (c : Context) (e : End) (t : ℕ) → leaves_inner c e t ≡ leaves_level (innermost c) e t
seen_inner [] e t = refl
seen_inner (InSelection m ∷ c) e t = refl
seen_inner (InArm h m a ∷ c) e t = refl
seen_inner (InBody h m n ∷ c) e t = refl
seen_inner (InNext h m ∷ c) e t = refl

pub seen_exit : (c : Context) (e : End) (t : ℕ) → is_exit c e t ≡ is_exit_by (innermost c) (seen c) e t
seen_exit c e t = let a = seen_inner c e t in let b = seen_switch c t in let d = seen_loop c t in cc

pub seen_tells : (c : Context) → SeenTells c
seen_tells c = record { loop = seen_loop c; switch = seen_switch c; next = seen_next c; inner = seen_inner c; exit = seen_exit c }

-- ---- blocks with their places

module _ (rows more : List Row) (place place2 : ℕ → Option ℕ) (t k : ℕ) (d : Context) (all : AreContexts rows place) (a : PlaceAdded rows more place place2 t k d) where
  other_block : (p j : ℕ) → place p ≡ Some j → p ≢ t
  other_block p j e h = let g : place p ≡ place t = ap place h in let n = a.free in absurd (cc)

  in_rows_stay : (p : ℕ) (c : Context) → InRows rows place p c → InRows (rows ++ more) place2 p c
  in_rows_stay p c i = (i.0, a.others p (other_block p i.0 i.1) ∙ i.1, context_stays rows more i.0 c i.2)

  -- by the context that the place had before
  in_rows_before : (p : ℕ) (c : Context) → p ≢ t → InRows (rows ++ more) place2 p c → InRows rows place p c
  in_rows_before p c n i =
      let e : place p ≡ Some i.0 = sym (a.others p n) ∙ i.1 in
      let old = all p i.0 e in
      let same : old.0 ≡ c = one_context_of_row (rows ++ more) i.0 old.0 c (context_stays rows more i.0 old.0 old.1) i.2 in
      (i.0, e, subst (λ j. IsContext rows i.0 j) same old.1)

  in_rows_more : (p : ℕ) (c : Context) → InRows (rows ++ more) place2 p c → InRows rows place p c ⊎ ((p ≡ t) × (c ≡ d))
  in_rows_more p c i = elim (eqb_tells p t) [
    | inl (e, h) ↦
        let g : Some k ≡ Some i.0 = sym a.has ∙ ap place2 (sym h) ∙ i.1 in
        let same : k ≡ i.0 = cc (g) in
        inr (h, one_context_of_row (rows ++ more) i.0 c d i.2 (subst (λ j. IsContext (rows ++ more) j d) same a.context))
    | inr (e, h) ↦ inl (in_rows_before p c h i)
  ]

  pub places_are_contexts : AreContexts (rows ++ more) place2
  places_are_contexts p j e = elim (eqb_tells p t) [
    | inl (x, h) ↦
        let g : Some k ≡ Some j = sym a.has ∙ ap place2 (sym h) ∙ e in
        let same : k ≡ j = cc (g) in
        (d, subst (λ i. IsContext (rows ++ more) i d) same a.context)
    | inr (x, h) ↦ let old = all p j (sym (a.others p h) ∙ e) in (old.0, context_stays rows more j old.0 old.1)
  ]

  pub row_adds : (Done Done2 : ℕ → Type 0) → ((p : ℕ) → Done2 p → Done p) → (Done2 t → ⊥) → WalkAdds (InRows rows place) (InRows (rows ++ more) place2) Done Done2 t d
  row_adds Done Done2 less waits = record {
    grows = in_rows_stay;
    has = (k, a.has, a.context);
    more = in_rows_more;
    waits = λ p c i e. (in_rows_before p c (λ h. waits (subst (λ j. Done2 j) h e)) i, less p e);
  }
