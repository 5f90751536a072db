-- Branches of a tree that arrive at a label, whatever its first block is called.
use Rattle.std.proofs.Common.{◌≡◌, ◌⊎◌, inl, inr, ℕ, ◌==◌, List, [], ◌∷◌, ◌++◌, map, refl, sym, ap, subst, ◌∙◌}
use Rattle.spv_walk.proofs.Unique.{true_equal}
use Rattle.spv_bodies.specs.Bodies.{Exit, Entry, ByBranch, InPlace, Body, Leaves, Finishes, Step, Enters, Splits, Selects, Switches, Loops, Arms, Last, Also}
use Rattle.spv_bodies.specs.Listing.{Branching, arriving, branches, branches_of_arms, entering}
use Rattle.spv_trees.specs.Standing.{OneOf}
use Rattle.spv_trees.proofs.Members.{one_left, one_right}
use Rattle.spv_structured.proofs.Lists.{filter_in, one_map, one_split}
use Rattle.spv_normal_trees.proofs.RegionExits.{Among, Leads, among_either}

-- one of these goes to m
pub record Arrives (m : ℕ) (sent : List Branching) : Type 0 where
  pub one : Branching
  pub among : OneOf one sent
  pub to : one.1.target ≡ m

pub arrives_left : (m : ℕ) (xs ys : List Branching) → Arrives m xs → Arrives m (xs ++ ys)
arrives_left m xs ys a = record { one = a.one; among = one_left a.one xs ys a.among; to = a.to }

pub arrives_right : (m : ℕ) (xs ys : List Branching) → Arrives m ys → Arrives m (xs ++ ys)
arrives_right m xs ys a = record { one = a.one; among = one_right a.one xs ys a.among; to = a.to }

pub arrives_either : (m : ℕ) (xs ys : List Branching) → Arrives m (xs ++ ys) → Arrives m xs ⊎ Arrives m ys
arrives_either m xs ys a = elim (one_split a.one xs ys a.among) [
  | inl o ↦ inl (record { one = a.one; among = o; to = a.to })
  | inr o ↦ inr (record { one = a.one; among = o; to = a.to })
]

pub both_arrive : (m : ℕ) (xs ys us vs : List Branching) → (Arrives m xs → Arrives m us) → (Arrives m ys → Arrives m vs) → Arrives m (xs ++ ys)
    → Arrives m (us ++ vs)
both_arrive m xs ys us vs h g a = elim (arrives_either m xs ys a) [ inl x ↦ arrives_left m us vs (h x) | inr y ↦ arrives_right m us vs (g y) ]

-- where none arrives, none does
pub none_arrives : (m : ℕ) (sent : List Branching) → arriving m sent ≡ [] → Arrives m sent → ⊥
none_arrives m sent none a =
    subst (OneOf a.one) none (filter_in (λ (b : Branching). b.1.target == m) a.one sent a.among (true_equal a.one.1.target m a.to))

-- with other names of the blocks
among_one : (e : Branching) (xs : List Branching) → Among e xs → OneOf e xs
among_one e [] h = absurd h
among_one e (x ∷ xs) (inl h) = inl (sym h)
among_one e (x ∷ xs) (inr h) = inr (among_one e xs h)

pub leads_arrives : (named : Branching → Branching) → ((e : Branching) → (named e).1 ≡ e.1) → (p m : ℕ) (xs sent : List Branching) → map named xs ≡ sent
    → Leads p m xs → Arrives m sent
leads_arrives named keeps p m xs sent same l = record {
  one = named l.one;
  among = subst (OneOf (named l.one)) same (one_map named xs l.one (among_one l.one xs l.among));
  to = ap (λ e. e.target) (keeps l.one) ∙ l.to;
}

pub leads_either : (b t : ℕ) (xs ys : List Branching) → Leads b t (xs ++ ys) → Leads b t xs ⊎ Leads b t ys
leads_either b t xs ys h = elim (among_either h.one xs ys h.among) [
  | inl a ↦ inl (record { one = h.one; among = a; from = h.from; to = h.to })
  | inr a ↦ inr (record { one = h.one; among = a; from = h.from; to = h.to })
]

-- ---- whatever the first block is called

exit_any : (x y m : ℕ) (exit : Exit) → Arrives m ((y, exit) ∷ []) → Arrives m ((x, exit) ∷ [])
exit_any x y m exit a = record { one = (x, exit); among = inl refl; to = by a.among } where
  by : OneOf a.one ((y, exit) ∷ []) → exit.target ≡ m
  by (inl e) = sym (ap (λ (b : Branching). b.1.target) e) ∙ a.to
  by (inr none) = absurd none

entering_any : (x y h m : ℕ) (entry : Entry) → Arrives m (entering y h entry) → Arrives m (entering x h entry)
entering_any x y h m (ByBranch values) a = exit_any x y m (record { target = h; values = values }) a
entering_any x y h m InPlace a = a

mutual
  pub arrives_any : (x y m : ℕ) (body : Body) → Arrives m (branches y body) → Arrives m (branches x body)
  arrives_any x y m (Leaves exit) a = exit_any x y m exit a
  arrives_any x y m (Finishes words) a = a
  arrives_any x y m (Step words body) a = arrives_any x y m body a
  arrives_any x y m (Enters label body) a = a
  arrives_any x y m (Splits condition on exit body) a =
      both_arrive m ((y, exit) ∷ []) (branches y body) ((x, exit) ∷ []) (branches x body) (exit_any x y m exit) (arrives_any x y m body) a
  arrives_any x y m (Selects control condition first second merge rest) a =
      both_arrive m (branches y first) (branches y second ++ branches merge.label rest) (branches x first) (branches x second ++ branches merge.label rest)
      (arrives_any x y m first)
      (both_arrive m (branches y second) (branches merge.label rest) (branches x second) (branches merge.label rest) (arrives_any x y m second) (λ z. z)) a
  arrives_any x y m (Switches control selector cases arms merge rest) a =
      both_arrive m (branches_of_arms y arms) (branches merge.label rest) (branches_of_arms x arms) (branches merge.label rest)
      (arms_arrive_any x y m arms) (λ z. z) a
  arrives_any x y m (Loops entry header control inner next continuing merge rest) a =
      let others : List Branching = branches header.label inner ++ (branches next.label continuing ++ branches merge.label rest) in
      both_arrive m (entering y header.label entry) others (entering x header.label entry) others (entering_any x y header.label m entry) (λ z. z) a

  pub arms_arrive_any : (x y m : ℕ) (arms : Arms) → Arrives m (branches_of_arms y arms) → Arrives m (branches_of_arms x arms)
  arms_arrive_any x y m (Last arm) a = arrives_any x y m arm a
  arms_arrive_any x y m (Also arm arms) a =
      both_arrive m (branches y arm) (branches_of_arms y arms) (branches x arm) (branches_of_arms x arms) (arrives_any x y m arm) (arms_arrive_any x y m arms) a
