-- The branches of a region to fronts: each branch of one of its blocks to a front is one of them, once.
use Rattle.std.proofs.Common.{◌≡◌, ◌⊎◌, inl, inr, ℕ, true, false, not, ◌==◌, List, [], ◌∷◌, ◌++◌, Option, refl, sym, ap, subst, ◌∙◌}
use Rattle.spv_blocks.specs.Blocks.{Code, Construct, branches, construct, has, names}
use Rattle.spv_walk.specs.Contexts.{Context}
use Rattle.spv_walk.specs.Walk.{Walk}
use Rattle.spv_walk.proofs.Unique.{truth_apart, right_holds}
use Rattle.spv_bodies.specs.Listing.{Branching}
use Rattle.spv_normal.specs.Order.{is_front, is_loop}
use Rattle.spv_normal_trees.proofs.Members.{Distinct, Apart, has_cons, has_head, has_tail, has_left, has_right, has_either, has_nothing, has_not}
use Rattle.spv_normal_trees.proofs.Regions.{Region, region, Way, leaf, comes, enters, Ways, nowhere, more, Parts, bare, selection, switch, loop, of_region, of_way, of_ways, of_parts, exits, exits_of_way, exits_of_ways, exits_of_parts}
use Rattle.spv_normal_trees.proofs.Leaving.{leads_front}
use Rattle.spv_normal_trees.proofs.RegionOrder.{distinct_apart, distinct_left, distinct_right}

-- ---- lists of branchings

abbrev pub Among : Branching → List Branching → Type 0
Among e [] = ⊥
Among e (g ∷ gs) = (g ≡ e) ⊎ Among e gs

pub among_left : (e : Branching) (xs ys : List Branching) → Among e xs → Among e (xs ++ ys)
among_left e [] ys h = absurd h
among_left e (x ∷ xs) ys h = elim h [ inl g ↦ inl g | inr g ↦ inr (among_left e xs ys g) ]

pub among_right : (e : Branching) (xs ys : List Branching) → Among e ys → Among e (xs ++ ys)
among_right e [] ys h = h
among_right e (x ∷ xs) ys h = inr (among_right e xs ys h)

pub among_either : (e : Branching) (xs ys : List Branching) → Among e (xs ++ ys) → Among e xs ⊎ Among e ys
among_either e [] ys h = inr h
among_either e (x ∷ xs) ys h = elim h [
  | inl g ↦ inl (inl g)
  | inr g ↦ elim (among_either e xs ys g) [ inl k ↦ inl (inr k) | inr k ↦ inr k ]
]

-- no block branches to one label twice
abbrev pub NoneSame : Branching → List Branching → Type 0
NoneSame e gs = (g : Branching) → Among g gs → g.0 ≡ e.0 → g.1.target ≡ e.1.target → ⊥

abbrev pub Single : List Branching → Type 0
Single [] = Unit {0}
Single (e ∷ es) = NoneSame e es × Single es

abbrev pub NoneShared : List Branching → List Branching → Type 0
NoneShared xs ys = (e : Branching) → Among e xs → NoneSame e ys

single_append : (xs ys : List Branching) → Single xs → Single ys → NoneShared xs ys → Single (xs ++ ys)
single_append [] ys a b c = b
single_append (x ∷ xs) ys a b c = (
  λ g h. elim (among_either g xs ys h) [ inl k ↦ a.0 g k | inr k ↦ c x (inl refl) g k ],
  single_append xs ys a.1 b (λ e h. c e (inr h)),
)

-- ---- the branches of a region

-- one of them
pub record IsLeaving (f : Code) (Taken : (l t : ℕ) → List ℕ → Type 0) (e : Branching) : Type 0 where
  pub branch : branches f e.0 e.1.target ≡ true
  pub front : is_front f e.1.target ≡ true
  pub taken : Taken e.0 e.1.target e.1.values

-- there is one of the block b to t
pub record Leads (b t : ℕ) (all : List Branching) : Type 0 where
  pub one : Branching
  pub among : Among one all
  pub from : one.0 ≡ b
  pub to : one.1.target ≡ t

leads_left : (b t : ℕ) (xs ys : List Branching) → Leads b t xs → Leads b t (xs ++ ys)
leads_left b t xs ys h = record { one = h.one; among = among_left h.one xs ys h.among; from = h.from; to = h.to }

leads_right : (b t : ℕ) (xs ys : List Branching) → Leads b t ys → Leads b t (xs ++ ys)
leads_right b t xs ys h = record { one = h.one; among = among_right h.one xs ys h.among; from = h.from; to = h.to }

-- where a branching of ways stands: in the block l itself, to one of its targets, or further on
abbrev pub StandsAt : (l : ℕ) (ts inner : List ℕ) → Branching → Type 0
StandsAt l ts inner e = ((e.0 ≡ l) × (has ts e.1.target ≡ true)) ⊎ (has inner e.0 ≡ true)

loop_front : (f : Code) (t : ℕ) → is_loop (construct f t) ≡ true → is_front f t ≡ true
loop_front f t h = right_holds (not (names f t == 0)) (is_loop (construct f t)) h

module _ (f : Code) (Taken : (l t : ℕ) → List ℕ → Type 0) where
  own_leaving : (l t : ℕ) (values : List ℕ) (e : Branching) → (l, record { target = t; values = values }) ≡ e → branches f l t ≡ true → is_front f t ≡ true
      → Taken l t values
      → IsLeaving f Taken e
  own_leaving l t values e same b i k = subst (λ j. IsLeaving f Taken j) same (record { branch = b; front = i; taken = k })

  mutual
    pub leaving : {l : ℕ} {c : Context} (r : Region f Taken l c) (e : Branching) → Among e (exits f Taken r) → IsLeaving f Taken e
    leaving (region is w a ways parts) e h = elim (among_either e (exits_of_ways f Taken ways) (exits_of_parts f Taken parts) h) [
      | inl g ↦ leaving_ways w a.only ways e g
      | inr g ↦ leaving_parts parts e g
    ]

    pub leaving_way : {l t : ℕ} {c : Context} → Walk f l c → branches f l t ≡ true → (way : Way f Taken l c t) (e : Branching)
        → Among e (exits_of_way f Taken way)
        → IsLeaving f Taken e
    leaving_way w b (leaf {l = l} {t = t} {c = c} {values = values} out taken) e h = elim h [
      | inl g ↦ own_leaving l t values e g b (leads_front f l c t w out) taken
      | inr g ↦ absurd g
    ]
    leaving_way w b (comes {l = l} {t = t} {values = values} onto is taken r) e h = elim h [
      | inl g ↦ own_leaving l t values e g b (loop_front f t is) taken
      | inr g ↦ leaving r e g
    ]
    leaving_way w b (enters onto is r) e h = leaving r e h

    pub leaving_ways : {l : ℕ} {c : Context} {ts : List ℕ} → Walk f l c → ((t : ℕ) → has ts t ≡ true → branches f l t ≡ true) → (ways : Ways f Taken l c ts)
        (e : Branching) → Among e (exits_of_ways f Taken ways) → IsLeaving f Taken e
    leaving_ways w b nowhere e h = absurd h
    leaving_ways w b (more {t = t} {ts = ts} way ways) e h = elim (among_either e (exits_of_way f Taken way) (exits_of_ways f Taken ways) h) [
      | inl g ↦ leaving_way w (b t (has_head t ts t refl)) way e g
      | inr g ↦ leaving_ways w (λ u k. b u (has_tail t ts u k)) ways e g
    ]

    pub leaving_parts : {l : ℕ} {c : Context} {k : Option Construct} (parts : Parts f Taken l c k) (e : Branching) → Among e (exits_of_parts f Taken parts)
        → IsLeaving f Taken e
    leaving_parts bare e h = absurd h
    leaving_parts (selection role r) e h = leaving r e h
    leaving_parts (switch role r) e h = leaving r e h
    leaving_parts (loop next_role role next r) e h = elim (among_either e (exits f Taken next) (exits f Taken r) h) [
      | inl g ↦ leaving next e g
      | inr g ↦ leaving r e g
    ]

  -- ---- where they stand

  mutual
    pub stands : {l : ℕ} {c : Context} (r : Region f Taken l c) (e : Branching) → Among e (exits f Taken r) → has (of_region f Taken r) e.0 ≡ true
    stands (region {l = l} is w a ways parts) e h = elim (among_either e (exits_of_ways f Taken ways) (exits_of_parts f Taken parts) h) [
      | inl g ↦ elim (stands_ways ways e g) [
        | inl k ↦ has_head l (of_ways f Taken ways ++ of_parts f Taken parts) e.0 (sym k.0)
        | inr k ↦ has_tail l (of_ways f Taken ways ++ of_parts f Taken parts) e.0 (has_left (of_ways f Taken ways) (of_parts f Taken parts) e.0 k)
      ]
      | inr g ↦ has_tail l (of_ways f Taken ways ++ of_parts f Taken parts) e.0
          (has_right (of_ways f Taken ways) (of_parts f Taken parts) e.0 (stands_parts parts e g))
    ]

    pub stands_way : {l t : ℕ} {c : Context} (way : Way f Taken l c t) (e : Branching) → Among e (exits_of_way f Taken way)
        → ((e.0 ≡ l) × (e.1.target ≡ t)) ⊎ (has (of_way f Taken way) e.0 ≡ true)
    stands_way (leaf out taken) e h = elim h [
      | inl g ↦ inl (ap (λ j. j.0) (sym g), ap (λ j. j.1.target) (sym g))
      | inr g ↦ absurd g
    ]
    stands_way (comes onto is taken r) e h = elim h [
      | inl g ↦ inl (ap (λ j. j.0) (sym g), ap (λ j. j.1.target) (sym g))
      | inr g ↦ inr (stands r e g)
    ]
    stands_way (enters onto is r) e h = inr (stands r e h)

    pub stands_ways : {l : ℕ} {c : Context} {ts : List ℕ} (ways : Ways f Taken l c ts) (e : Branching) → Among e (exits_of_ways f Taken ways)
        → StandsAt l ts (of_ways f Taken ways) e
    stands_ways nowhere e h = absurd h
    stands_ways (more {t = t} {ts = ts} way ways) e h = elim (among_either e (exits_of_way f Taken way) (exits_of_ways f Taken ways) h) [
      | inl g ↦ elim (stands_way way e g) [
        | inl k ↦ inl (k.0, has_head t ts e.1.target (sym k.1))
        | inr k ↦ inr (has_left (of_way f Taken way) (of_ways f Taken ways) e.0 k)
      ]
      | inr g ↦ elim (stands_ways ways e g) [
        | inl k ↦ inl (k.0, has_tail t ts e.1.target k.1)
        | inr k ↦ inr (has_right (of_way f Taken way) (of_ways f Taken ways) e.0 k)
      ]
    ]

    pub stands_parts : {l : ℕ} {c : Context} {k : Option Construct} (parts : Parts f Taken l c k) (e : Branching) → Among e (exits_of_parts f Taken parts)
        → has (of_parts f Taken parts) e.0 ≡ true
    stands_parts bare e h = absurd h
    stands_parts (selection role r) e h = stands r e h
    stands_parts (switch role r) e h = stands r e h
    stands_parts (loop next_role role next r) e h = elim (among_either e (exits f Taken next) (exits f Taken r) h) [
      | inl g ↦ has_left (of_region f Taken next) (of_region f Taken r) e.0 (stands next e g)
      | inr g ↦ has_right (of_region f Taken next) (of_region f Taken r) e.0 (stands r e g)
    ]

  -- ---- each once

  apart_same : (xs ys : List ℕ) (a b : ℕ) → Apart xs ys → has xs a ≡ true → has ys b ≡ true → b ≡ a → ⊥
  apart_same xs ys a b d h g e = d a h (subst (λ j. has ys j ≡ true) e g)

  lacks_same : {P : Type 0} (xs : List ℕ) (l a : ℕ) → has xs l ≡ false → has xs a ≡ true → a ≡ l → P
  lacks_same xs l a d h e = truth_apart (has xs l) (subst (λ j. has xs j ≡ true) e h) d

  lacks_left : (xs ys : List ℕ) (l : ℕ) → has (xs ++ ys) l ≡ false → has xs l ≡ false
  lacks_left xs ys l n = has_not xs l (λ h. truth_apart (has (xs ++ ys) l) (has_left xs ys l h) n)

  lacks_right : (xs ys : List ℕ) (l : ℕ) → has (xs ++ ys) l ≡ false → has ys l ≡ false
  lacks_right xs ys l n = has_not ys l (λ h. truth_apart (has (xs ++ ys) l) (has_right xs ys l h) n)

  mutual
    pub single : {l : ℕ} {c : Context} (r : Region f Taken l c) → Distinct (of_region f Taken r) → Single (exits f Taken r)
    single (region {l = l} is w a ways parts) d =
        let xs : List ℕ = of_ways f Taken ways in
        let ys : List ℕ = of_parts f Taken parts in
        single_append (exits_of_ways f Taken ways) (exits_of_parts f Taken parts)
        (single_ways a.distinct ways (lacks_left xs ys l d.0) (distinct_left xs ys d.1))
        (single_parts parts (distinct_right xs ys d.1))
        (λ e h g k same to. elim (stands_ways ways e h) [
          | inl s ↦ lacks_same ys l g.0 (lacks_right xs ys l d.0) (stands_parts parts g k) (same ∙ s.0)
          | inr s ↦ apart_same xs ys e.0 g.0 (distinct_apart xs ys d.1) s (stands_parts parts g k) same
        ])

    pub single_way : {l t : ℕ} {c : Context} (way : Way f Taken l c t) → has (of_way f Taken way) l ≡ false → Distinct (of_way f Taken way)
        → Single (exits_of_way f Taken way)
    single_way (leaf out taken) n d = (λ g h same to. absurd h, tt)
    single_way (comes {l = l} onto is taken r) n d = (λ g h same to. lacks_same (of_region f Taken r) l g.0 n (stands r g h) same, single r d)
    single_way (enters onto is r) n d = single r d

    pub single_ways : {l : ℕ} {c : Context} {ts : List ℕ} → Distinct ts → (ways : Ways f Taken l c ts) → has (of_ways f Taken ways) l ≡ false
        → Distinct (of_ways f Taken ways)
        → Single (exits_of_ways f Taken ways)
    single_ways d nowhere n e = tt
    single_ways d (more {l = l} {t = t} {ts = ts} way ways) n e =
        let xs : List ℕ = of_way f Taken way in
        let ys : List ℕ = of_ways f Taken ways in
        single_append (exits_of_way f Taken way) (exits_of_ways f Taken ways)
        (single_way way (lacks_left xs ys l n) (distinct_left xs ys e))
        (single_ways d.1 ways (lacks_right xs ys l n) (distinct_right xs ys e))
        (λ b h g k same to. elim (stands_way way b h) [
          | inl s ↦ elim (stands_ways ways g k) [
            | inl q ↦ lacks_same ts t g.1.target d.0 q.1 (to ∙ s.1)
            | inr q ↦ lacks_same ys l g.0 (lacks_right xs ys l n) q (same ∙ s.0)
          ]
          | inr s ↦ elim (stands_ways ways g k) [
            | inl q ↦ lacks_same xs l b.0 (lacks_left xs ys l n) s (sym same ∙ q.0)
            | inr q ↦ apart_same xs ys b.0 g.0 (distinct_apart xs ys e) s q same
          ]
        ])

    pub single_parts : {l : ℕ} {c : Context} {k : Option Construct} (parts : Parts f Taken l c k) → Distinct (of_parts f Taken parts)
        → Single (exits_of_parts f Taken parts)
    single_parts bare d = tt
    single_parts (selection role r) d = single r d
    single_parts (switch role r) d = single r d
    single_parts (loop next_role role next r) d =
        single_append (exits f Taken next) (exits f Taken r)
        (single next (distinct_left (of_region f Taken next) (of_region f Taken r) d))
        (single r (distinct_right (of_region f Taken next) (of_region f Taken r) d))
        (λ e h g k same to. apart_same (of_region f Taken next) (of_region f Taken r) e.0 g.0
        (distinct_apart (of_region f Taken next) (of_region f Taken r) d) (stands next e h) (stands r g k) same)

  -- ---- all of them

  way_leads : {l t : ℕ} {c : Context} (way : Way f Taken l c t) → is_front f t ≡ true → Leads l t (exits_of_way f Taken way)
  way_leads (leaf {l = l} {t = t} {values = values} out taken) i = record {
    one =
        (l, record { target = t; values = values });
    among = inl refl;
    from = refl;
    to = refl;
  }
  way_leads (comes {l = l} {t = t} {values = values} onto is taken r) i = record {
    one =
        (l, record { target = t; values = values });
    among = inl refl;
    from = refl;
    to = refl;
  }
  way_leads (enters {t = t} onto is r) i = truth_apart (is_front f t) i is

  ways_lead : {l : ℕ} {c : Context} {ts : List ℕ} (ways : Ways f Taken l c ts) (t : ℕ) → has ts t ≡ true → is_front f t ≡ true
      → Leads l t (exits_of_ways f Taken ways)
  ways_lead nowhere t h i = has_nothing t h
  ways_lead (more {l = l} {t = u} {ts = ts} way ways) t h i = elim (has_cons u ts t h) [
    | inl e ↦ leads_left l t (exits_of_way f Taken way) (exits_of_ways f Taken ways)
        (subst (λ j. Leads l j (exits_of_way f Taken way)) e (way_leads way (subst (λ j. is_front f j ≡ true) (sym e) i)))
    | inr e ↦ leads_right l t (exits_of_way f Taken way) (exits_of_ways f Taken ways) (ways_lead ways t e i)
  ]

  mutual
    pub leads : {l : ℕ} {c : Context} (r : Region f Taken l c) (b t : ℕ) → has (of_region f Taken r) b ≡ true → branches f b t ≡ true → is_front f t ≡ true
        → Leads b t (exits f Taken r)
    leads (region {l = l} is w a ways parts) b t h g i = elim (has_cons l (of_ways f Taken ways ++ of_parts f Taken parts) b h) [
      | inl e ↦ leads_left b t (exits_of_ways f Taken ways) (exits_of_parts f Taken parts)
          (subst (λ j. Leads j t (exits_of_ways f Taken ways)) e (ways_lead ways t (a.all t (subst (λ j. branches f j t ≡ true) (sym e) g)) i))
      | inr e ↦ elim (has_either (of_ways f Taken ways) (of_parts f Taken parts) b e) [
        | inl q ↦ leads_left b t (exits_of_ways f Taken ways) (exits_of_parts f Taken parts) (leads_ways ways b t q g i)
        | inr q ↦ leads_right b t (exits_of_ways f Taken ways) (exits_of_parts f Taken parts) (leads_parts parts b t q g i)
      ]
    ]

    pub leads_way : {l u : ℕ} {c : Context} (way : Way f Taken l c u) (b t : ℕ) → has (of_way f Taken way) b ≡ true → branches f b t ≡ true
        → is_front f t ≡ true
        → Leads b t (exits_of_way f Taken way)
    leads_way (leaf out taken) b t h g i = has_nothing b h
    leads_way (comes {l = l} {t = u} {values = values} onto is taken r) b t h g i =
        leads_right b t ((l, record { target = u; values = values }) ∷ []) (exits f Taken r) (leads r b t h g i)
    leads_way (enters onto is r) b t h g i = leads r b t h g i

    pub leads_ways : {l : ℕ} {c : Context} {ts : List ℕ} (ways : Ways f Taken l c ts) (b t : ℕ) → has (of_ways f Taken ways) b ≡ true → branches f b t ≡ true
        → is_front f t ≡ true → Leads b t (exits_of_ways f Taken ways)
    leads_ways nowhere b t h g i = has_nothing b h
    leads_ways (more way ways) b t h g i = elim (has_either (of_way f Taken way) (of_ways f Taken ways) b h) [
      | inl q ↦ leads_left b t (exits_of_way f Taken way) (exits_of_ways f Taken ways) (leads_way way b t q g i)
      | inr q ↦ leads_right b t (exits_of_way f Taken way) (exits_of_ways f Taken ways) (leads_ways ways b t q g i)
    ]

    pub leads_parts : {l : ℕ} {c : Context} {k : Option Construct} (parts : Parts f Taken l c k) (b t : ℕ) → has (of_parts f Taken parts) b ≡ true
        → branches f b t ≡ true → is_front f t ≡ true → Leads b t (exits_of_parts f Taken parts)
    leads_parts bare b t h g i = has_nothing b h
    leads_parts (selection role r) b t h g i = leads r b t h g i
    leads_parts (switch role r) b t h g i = leads r b t h g i
    leads_parts (loop next_role role next r) b t h g i = elim (has_either (of_region f Taken next) (of_region f Taken r) b h) [
      | inl q ↦ leads_left b t (exits f Taken next) (exits f Taken r) (leads next b t q g i)
      | inr q ↦ leads_right b t (exits f Taken next) (exits f Taken r) (leads r b t q g i)
    ]
