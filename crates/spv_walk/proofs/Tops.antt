-- A block stands at the top of the continue part of one loop at most; and a table of tops that is sound and closed is exact.
use Rattle.std.proofs.Common.{◌≡◌, ℕ, true, false, Some, None, ◌⊎◌, inl, inr, sym, ap, subst, ◌∙◌, arith}
use Rattle.std.proofs.lemmas.Bool.Decides.{eqb_tells}
use Rattle.spv_blocks.specs.Blocks.{Code, construct, branches, merge_of, next_of, is_role, stops}
use Rattle.spv_walk.specs.Walk.{Top, Begins, Past, Along}
use Rattle.spv_walk.specs.Tables.{GoesAlong, AtTurn, TopTable, TopTurn, TopMiddle, TopAdds}
use Rattle.spv_walk.proofs.Unique.{tells, role_once, goes_branches, goes_unnamed, one_merge, one_next, merge_or_next}

-- By induction on the first: where two blocks go along to t, the second is a back edge of t by the first, so t would be its own second loop.
pub one_top : (f : Code) (h k b : ℕ) → Top f h b → Top f k b → h ≡ k
one_top f h k b (Begins h2 c e r) (Begins k2 d g s) = one_next f h k b (role_once f h b r) e g
one_top f h k b (Begins h2 c e r) (Past k2 a m w x y z) = absurd (merge_or_next f a h b (role_once f h b r) y e)
one_top f h k b (Begins h2 c e r) (Along k2 a t w x y z u v) = let o = role_once f h b r in let n = goes_unnamed f a b y in absurd (omega arith)
one_top f h k b (Past h2 a m w x y z) (Begins k2 d g s) = absurd (merge_or_next f a k b (role_once f k b s) y g)
one_top f h k b (Past h2 a m w x y z) (Past k2 d n v p q r) =
    one_top f h k a w (subst (λ j. Top f k j) (one_merge f d a b (role_once f d b r) q y) v)
one_top f h k b (Past h2 a m w x y z) (Along k2 d t v p q r u o) = let i = role_once f a b z in let n = goes_unnamed f d b q in absurd (omega arith)
one_top f h k b (Along h2 a t w x y z u o) (Begins k2 d g s) = let i = role_once f k b s in let n = goes_unnamed f a b y in absurd (omega arith)
one_top f h k b (Along h2 a t w x y z u o) (Past k2 d m v p q r) = let i = role_once f d b r in let n = goes_unnamed f a b y in absurd (omega arith)
one_top f h k b (Along h2 a t w x y z u o) (Along k2 d t2 v p q r i j) = elim (eqb_tells d a) [
  | inl (e, p2) ↦ one_top f h k a w (subst (λ x2. Top f k x2) p2 v)
  | inr (e, p2) ↦ absurd (r (one_top f b k d (u d p2 (goes_branches f d b q)) v))
]

-- ---- tables

both_before : {A B C : Type 0} → A × (B ⊎ C) → (C → ⊥) → A × B
both_before x n = elim (x.1) [ inl o ↦ (x.0, o) | inr e ↦ absurd (n e) ]

module _ (f : Code) (In : (h b : ℕ) → Type 0) (Done : ℕ → Type 0) where
  -- at first, where no block of the table is done
  pub tops_begin : ((h b : ℕ) → In h b → Top f h b) → ((h c : ℕ) → next_of (construct f h) ≡ Some c → is_role f h c ≡ true → In h c)
      → ((h b : ℕ) → In h b → Done b → ⊥) → TopTable f In Done
  tops_begin s b n = record {
    sound = s;
    begins = b;
    past = λ h p m i d x y z. absurd (n h p i d);
    along = λ h p t g. absurd (n h p g.top.0 g.top.1);
  }

  -- where all blocks of the table are done: by induction on how a block stands at a top
  pub tops_end : TopTable f In Done → ((h b : ℕ) → In h b → Done b) → (h b : ℕ) → Top f h b → In h b
  tops_end t d h b (Begins h2 c x y) = t.begins h b x y
  tops_end t d h b (Past h2 p m w x y z) = let i = tops_end t d h p w in t.past h p b i (d h p i) x y z
  tops_end t d h b (Along h2 p m w x y z u v) =
      let i = tops_end t d h p w in
      t.along h p b (record {
        top = (i, d h p i);
        bare = x;
        free = y;
        differ = z;
        back = λ q n e. let j = tops_end t d b q (u q n e) in (j, d b q j);
        back_bare = v;
      })

module _ (f : Code) (In In2 : (h b : ℕ) → Type 0) (Done Done2 : ℕ → Type 0) (b : ℕ) where
  -- a block that goes along by the table after a turn did so before it
  along_before : TopTurn f In In2 Done Done2 b → (h p t : ℕ) → GoesAlong f (λ k q. In2 k q × Done2 q) h p t → GoesAlong f (AtTurn In Done b) h p t
  along_before u h p t g = record {
    top = u.settled h p g.top.0 g.top.1;
    bare = g.bare;
    free = g.free;
    differ = g.differ;
    back = λ q n e. u.settled t q (g.back q n e).0 (g.back q n e).1;
    back_bare = g.back_bare;
  }

  no_branch : (q t : ℕ) → branches f b t ≡ false → branches f q t ≡ true → q ≡ b → ⊥
  no_branch q t e d i = let g : branches f b t ≡ true = ap (λ j. branches f j t) (sym i) ∙ d in cc (g, e)

  -- where b does not branch to t, those before t were done before
  along_settled : TopTurn f In In2 Done Done2 b → (h p t : ℕ) → branches f b t ≡ false → GoesAlong f (λ k q. In2 k q × Done2 q) h p t
      → GoesAlong f (λ k q. In k q × Done q) h p t
  along_settled u h p t e g = record {
    top = both_before (u.settled h p g.top.0 g.top.1) (λ i. no_branch p t e (goes_branches f p t g.free) i);
    bare = g.bare;
    free = g.free;
    differ = g.differ;
    back = λ q n d. both_before (u.settled t q (g.back q n d).0 (g.back q n d).1) (λ i. no_branch q t e d i);
    back_bare = g.back_bare;
  }

  along_bare : (h p t : ℕ) → branches f b t ≡ true → GoesAlong f (λ k q. In2 k q × Done2 q) h p t → construct f b ≡ None
  along_bare h p t e g = elim (eqb_tells b p) [
    | inl (d, i) ↦ ap (construct f) i ∙ g.bare
    | inr (d, i) ↦ g.back_bare b i e
  ]

  -- a turn keeps the table: where b branches to t, t is shown to be in it; elsewhere nothing has changed
  pub tops_turn : TopTable f In Done → TopTurn f In In2 Done Done2 b → TopTable f In2 Done2
  tops_turn t u = record {
    sound = u.sound;
    begins = λ h c x y. u.grows h c (t.begins h c x y);
    past = λ h p m i d x y z.
        elim ((u.settled h p i d).1) [
          | inl o ↦ u.grows h m (t.past h p m (u.settled h p i d).0 o x y z)
          | inr e ↦ u.past h m (subst (λ j. In h j) e (u.settled h p i d).0) (subst (λ j. stops f j ≡ false) e x)
              (subst (λ j. merge_of (construct f j) ≡ Some m) e y) (subst (λ j. is_role f j m ≡ true) e z)
        ];
    along = λ h p k g.
        elim (tells (branches f b k)) [
          | inl e ↦ u.along h p k (along_bare h p k e g) e (along_before u h p k g)
          | inr e ↦ u.grows h k (t.along h p k (along_settled u h p k e g))
        ];
  }

-- ---- what a table tells of the blocks that branch to t

module _ (f : Code) (In : (h b : ℕ) → Type 0) (sound : (h b : ℕ) → In h b → Top f h b) where
  -- a block that goes along is the one that is no back edge by the table
  pub along_one : (h b t : ℕ) → GoesAlong f In h b t → In t b → ⊥
  along_one h b t g i = g.differ (one_top f t h b (sound t b i) (sound h b g.top))

  -- t stands there
  pub along_top : (h b t : ℕ) → GoesAlong f In h b t → Top f h t
  along_top h b t g = Along h b t (sound h b g.top) g.bare g.free g.differ (λ q n e. sound t q (g.back q n e)) g.back_bare

  -- so where the table has a loop for t, it is this one
  pub along_known : (h k b t : ℕ) → GoesAlong f In h b t → In k t → k ≡ h
  along_known h k b t g i = one_top f k h t (sound k t i) (along_top h b t g)

-- ---- a turn, target by target

pub along_grows : (f : Code) (In In2 : (h b : ℕ) → Type 0) → ((h p : ℕ) → In h p → In2 h p) → (h b t : ℕ) → GoesAlong f In h b t → GoesAlong f In2 h b t
along_grows f In In2 m h b t g = record {
  top = m h b g.top;
  bare = g.bare;
  free = g.free;
  differ = g.differ;
  back = λ q n e. m t q (g.back q n e);
  back_bare = g.back_bare;
}

-- what goes along by the blocks that are done goes along by the table
pub along_in : (f : Code) (In : (h b : ℕ) → Type 0) (Done : ℕ → Type 0) (b h p t : ℕ) → GoesAlong f (AtTurn In Done b) h p t → GoesAlong f In h p t
along_in f In Done b h p t g = along_grows f (AtTurn In Done b) In (λ k q i. i.0) h p t g

pub added_sound : (f : Code) (In In2 : (h b : ℕ) → Type 0) (Done Done2 : ℕ → Type 0) (h t : ℕ) → ((k p : ℕ) → In k p → Top f k p) → Top f h t
    → TopAdds f In In2 Done Done2 h t → (k p : ℕ) → In2 k p → Top f k p
added_sound f In In2 Done Done2 h t s top a k p i = elim (a.more k p i) [
  | inl o ↦ s k p o
  | inr o ↦ subst (λ j. Top f j p) (sym o.0) (subst (λ j. Top f h j) (sym o.1) top)
]

module _ (f : Code) (In : (h b : ℕ) → Type 0) (Done : ℕ → Type 0) (b : ℕ) where
  pub middle_begins : (Done2 : ℕ → Type 0) → ((h p : ℕ) → In h p → Top f h p) → ((p : ℕ) → Done2 p → Done p ⊎ (p ≡ b))
      → TopMiddle f In In Done Done2 b (λ t. ⊥)
  middle_begins Done2 s d = record {
    grows = λ h p i. i;
    sound = s;
    settled = λ h p i e. (i, d p e);
    along = λ h p t l g. absurd l;
  }

  -- nothing is added at t: where t goes along by now, it is in the table
  pub middle_keeps : (In2 : (h b : ℕ) → Type 0) (Done2 Looked Looked2 : ℕ → Type 0) (t : ℕ) → TopMiddle f In In2 Done Done2 b Looked
      → ((u : ℕ) → Looked2 u → Looked u ⊎ (u ≡ t)) → ((h p : ℕ) → GoesAlong f (AtTurn In Done b) h p t → In2 h t) → TopMiddle f In In2 Done Done2 b Looked2
  middle_keeps In2 Done2 Looked Looked2 t m l k = record {
    grows = m.grows;
    sound = m.sound;
    settled = m.settled;
    along = λ h p u e g.
        elim (l u e) [
          | inl o ↦ m.along h p u o g
          | inr o ↦
              subst (λ j. In2 h j) (sym o)
              (k h p (subst (λ j. GoesAlong f (AtTurn In Done b) h p j) o g))
        ];
  }

  -- t is added to a loop at whose top it stands: no other goes along to it
  pub middle_adds : (In2 In3 : (h b : ℕ) → Type 0) (Done2 Done3 Looked Looked2 : ℕ → Type 0) (h t : ℕ) → TopMiddle f In In2 Done Done2 b Looked
      → ((u : ℕ) → Looked2 u → Looked u ⊎ (u ≡ t)) → Top f h t → TopAdds f In2 In3 Done2 Done3 h t → TopMiddle f In In3 Done Done3 b Looked2
  middle_adds In2 In3 Done2 Done3 Looked Looked2 h t m l top a =
      let sound3 = added_sound f In2 In3 Done2 Done3 h t m.sound top a in
      record {
        grows = λ k p i. a.grows k p (m.grows k p i);
        sound = sound3;
        settled = λ k p i d. m.settled k p (a.waits k p i d).0 (a.waits k p i d).1;
        along = λ k p u e g.
            elim (l u e) [
              | inl o ↦ a.grows k u (m.along k p u o g)
              | inr o ↦
                  let g2 = along_in f In Done b k p t (subst (λ j. GoesAlong f (AtTurn In Done b) k p j) o g) in
                  let same : h ≡ k = one_top f h k t top (along_top f In (λ i q x. m.sound i q (m.grows i q x)) k p t g2) in
                  subst (λ j. In3 j u) same (subst (λ j. In3 h j) (sym o) a.has)
            ];
      }

  pub middle_ends : (In2 : (h b : ℕ) → Type 0) (Done2 Looked : ℕ → Type 0) → TopMiddle f In In2 Done Done2 b Looked
      → (construct f b ≡ None → (t : ℕ) → branches f b t ≡ true → Looked t)
      → ((h m : ℕ) → In h b → stops f b ≡ false → merge_of (construct f b) ≡ Some m → is_role f b m ≡ true → In2 h m)
      → TopTurn f In In2 Done Done2 b
  middle_ends In2 Done2 Looked m l p = record {
    grows = m.grows;
    sound = m.sound;
    settled = m.settled;
    past = p;
    along = λ h q t e x g. m.along h q t (l e t x) g;
  }
