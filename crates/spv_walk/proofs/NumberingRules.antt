-- The broken rules of two functions that differ in their labels alone are the same.
use Rattle.std.proofs.Common.{◌≡◌, ◌↔◌, ℕ, ◌==◌, Bool, true, false, cond, not, ◌&&◌, ◌||◌, List, [], ◌∷◌, ◌++◌, map, Option, Some, refl, sym, ap, ap₂, ◌∙◌, subst}
use Rattle.std.specs.List.{list_any, list_all, filter, Contains}
use Rattle.spv_base.specs.declared.fault.Refusal.{Refusal}
use Rattle.spv_module.specs.First.{here, unless}
use Rattle.spv_blocks.specs.Blocks.{End, Open, Ins, Block, Construct, Code, block, is_some_block, is_label, is_switch, of_block, next_of}
use Rattle.spv_walk.specs.Contexts.{Context}
use Rattle.spv_walk.specs.Faults.{is_last, suits_selection, suits_loop, merge_faults, same_twice, has_exit, splits_header, end_rules}
use Rattle.spv_walk.specs.Phis.{predecessors, names_each_once, phi_fits, late_phis, phi_faults}
use Rattle.spv_walk.specs.Rules.{end_at, loop_at, at_front, at_end, Finds, AtFront, AtEnd, BadTarget, CaseFall, BadContinue, NoTerminator, Broken, Found, NeverEntered}
use Rattle.spv_walk.proofs.NumberingAlike.{Turned, Alike, turned, SameList, NoLabel, ALabel, SamePairs, NoPair, APair, SamePhi, SameSelection, SameLoop, SameOther, SameBody, NoIns, AnIns, SameEnd, SameBranch, SameBranchIf, SameSwitch, SameReturn, SameUnreachable, SameOpen, SameBlock, SameCode, NoBlock, ABlock, SameFound, NotFound, FoundBoth, SameConstruct, NoConstruct, TwoSelections, TwoSwitches, TwoLoops, equal_same, has_same, times_same, seconds_same, found, branches_same, construct_same, first_same, names_same, is_role_same, stops_same, named, named_by_branch, named_target}
use Rattle.spv_walk.proofs.NumberingWalk.{enters_same, SameContext, in_next_same, is_exit_same, is_fall_same, behind_same, leads_same, tries_same, branches_of_leads, branches_of_tries, walk_same, one_back_edge_same}

-- ---- the rules on merge instructions

last_same : {R : ℕ → ℕ → Type 0} {is js : List Ins} → SameBody R is js → is_last is ≡ is_last js
last_same NoIns = refl
last_same (AnIns i is) = refl

suits_selection_same : {R : ℕ → ℕ → Type 0} {e d : End} → SameEnd R e d → suits_selection e ≡ suits_selection d
suits_selection_same (SameBranch a) = refl
suits_selection_same (SameBranchIf a b) = refl
suits_selection_same (SameSwitch a ps) = refl
suits_selection_same SameReturn = refl
suits_selection_same SameUnreachable = refl
suits_selection_same SameOpen = refl

suits_loop_same : {R : ℕ → ℕ → Type 0} {e d : End} → SameEnd R e d → suits_loop e ≡ suits_loop d
suits_loop_same (SameBranch a) = refl
suits_loop_same (SameBranchIf a b) = refl
suits_loop_same (SameSwitch a ps) = refl
suits_loop_same SameReturn = refl
suits_loop_same SameUnreachable = refl
suits_loop_same SameOpen = refl

chosen_same : {a b x y u v : Bool} → a ≡ b → x ≡ y → u ≡ v → cond a x u ≡ cond b y v
chosen_same {a} {b} {x} {y} {u} {v} p q r = ap (λ t. cond t x u) p ∙ ap₂ (λ t z. cond b t z) q r

-- the rules at one place and those that follow
rules_and : (at : ℕ) {rules others : List ℕ} {more rest : List Refusal} → rules ≡ others → more ≡ rest → here at rules ++ more ≡ here at others ++ rest
rules_and at p q = ap₂ (λ xs ys. here at xs ++ ys) p q

unless_same : {a b : Bool} (rule : ℕ) → a ≡ b → unless a rule ≡ unless b rule
unless_same rule p = ap (λ t. unless t rule) p

loop_at_same : {R : ℕ → ℕ → Type 0} {is js : List Ins} → SameBody R is js → loop_at is ≡ loop_at js
loop_at_same NoIns = refl
loop_at_same (AnIns (SameLoop m c) NoIns) = refl
loop_at_same (AnIns (SamePhi ps) NoIns) = refl
loop_at_same (AnIns (SameSelection m) NoIns) = refl
loop_at_same (AnIns SameOther NoIns) = refl
loop_at_same (AnIns (SamePhi ps) (AnIns i is)) = loop_at_same (AnIns i is)
loop_at_same (AnIns (SameSelection m) (AnIns i is)) = loop_at_same (AnIns i is)
loop_at_same (AnIns (SameLoop m c) (AnIns i is)) = loop_at_same (AnIns i is)
loop_at_same (AnIns SameOther (AnIns i is)) = loop_at_same (AnIns i is)

-- ---- the rule on OpPhi

filtered : {R : ℕ → ℕ → Type 0} {p q : ℕ → Bool} → ((x y : ℕ) → R x y → p x ≡ q y) → {xs ys : List ℕ} → SameList R xs ys → SameList R (filter p xs) (filter q ys)
filtered same NoLabel = NoLabel
filtered {R} {p} {q} same (ALabel {x = x} {y = y} {xs = xs} {ys = ys} r rs) = go (p x) (q y) (same x y r) (filtered same rs)
  where
    go : (a b : Bool) → a ≡ b → SameList R (filter p xs) (filter q ys) → SameList R (cond a (x ∷ filter p xs) (filter p xs)) (cond b (y ∷ filter q ys) (filter q ys))
    go true true e more = ALabel r more
    go true false e more = cc
    go false true e more = cc
    go false false e more = more

all_same : {R : ℕ → ℕ → Type 0} {p q : ℕ → Bool} → ((x y : ℕ) → R x y → p x ≡ q y) → {xs ys : List ℕ} → SameList R xs ys → list_all p xs ≡ list_all q ys
all_same same NoLabel = refl
all_same same (ALabel {x = x} {y = y} r rs) = ap₂ (λ a b. a && b) (same x y r) (all_same same rs)

labels_same : {R : ℕ → ℕ → Type 0} {f g : Code} → SameCode R f g → SameList R (map (λ b. b.label) f) (map (λ b. b.label) g)
labels_same NoBlock = NoLabel
labels_same (ABlock s ss) = ALabel s.label (labels_same ss)

module _ (R : ℕ → ℕ → Type 0) (f g : Code) (s : Alike R f g) where
  merge_faults_same : {h i : ℕ} → R h i → {e d : End} → SameEnd R e d → {is js : List Ins} → SameBody R is js → merge_faults f h e is ≡ merge_faults g i d js
  merge_faults_same p ends NoIns = refl
  merge_faults_same p ends (AnIns (SamePhi ps) is) = merge_faults_same p ends is
  merge_faults_same p ends (AnIns SameOther is) = merge_faults_same p ends is
  merge_faults_same p ends (AnIns (SameSelection {at = at} m) is) =
      rules_and at (unless_same 403 (ap₂ (λ x y. x && y) (ap₂ (λ x y. x && y) (last_same is) (suits_selection_same ends)) (is_role_same R f g s p m))) (merge_faults_same p ends is)
  merge_faults_same {h} {i} p {e} {d} ends (AnIns (SameLoop {at = at} {m = m} {n = n} {c = c} {d = c2} r q) is) =
      rules_and at
      (ap₂ (λ xs ys. xs ++ ys)
      (unless_same 403
      (ap₂ (λ x y. x && y)
      (ap₂ (λ x y. x && y)
      (ap₂ (λ x y. x && not y) (ap₂ (λ x y. x && y) (last_same is) (suits_loop_same ends)) (first_same R f g s p))
      (is_role_same R f g s p r))
      (chosen_same (equal_same R s.one q p) (ap (λ n. n == 1) (names_same R f g s q)) (is_role_same R f g s p q))))
      (unless_same 405 (ap not (equal_same R s.one q p))))
      (merge_faults_same p ends is)

  predecessors_same : {l k : ℕ} → R l k → SameList R (predecessors f l) (predecessors g k)
  predecessors_same {l} {k} p = filtered (λ x y r. branches_same R f g s r p) (labels_same s.code)

  each_once_same : {ps qs parents others : List ℕ} → SameList R ps qs → SameList R parents others → names_each_once ps parents ≡ names_each_once qs others
  each_once_same p q = ap₂ (λ x y. x && y) (all_same (λ x y r. ap (λ n. n == 1) (times_same R s.one r q)) p) (all_same (λ x y r. has_same R s.one r p) q)

  phi_fits_same : (is_pointer : ℕ → Bool) (t : ℕ) {l k : ℕ} → R l k → {ps qs : List (ℕ × ℕ)} → SamePairs R ps qs → phi_fits is_pointer f l t ps ≡ phi_fits is_pointer g k t qs
  phi_fits_same is_pointer t p ps = ap₂ (λ x y. not x && not (is_pointer t) && y) (first_same R f g s p) (each_once_same (predecessors_same p) (seconds_same ps))

  late_phis_same : {is js : List Ins} → SameBody R is js → late_phis is ≡ late_phis js
  late_phis_same NoIns = refl
  late_phis_same (AnIns (SamePhi {at = at} ps) is) = ap (λ more. here at (406 ∷ []) ++ more) (late_phis_same is)
  late_phis_same (AnIns (SameSelection m) is) = late_phis_same is
  late_phis_same (AnIns (SameLoop m c) is) = late_phis_same is
  late_phis_same (AnIns SameOther is) = late_phis_same is

  phi_faults_same : (is_pointer : ℕ → Bool) {l k : ℕ} → R l k → {is js : List Ins} → SameBody R is js → phi_faults is_pointer f l is ≡ phi_faults is_pointer g k js
  phi_faults_same is_pointer p NoIns = refl
  phi_faults_same is_pointer p (AnIns (SamePhi {at = at} {t = t} ps) is) = rules_and at (unless_same 406 (phi_fits_same is_pointer t p ps)) (phi_faults_same is_pointer p is)
  phi_faults_same is_pointer p (AnIns (SameSelection m) is) = late_phis_same is
  phi_faults_same is_pointer p (AnIns (SameLoop m c) is) = late_phis_same is
  phi_faults_same is_pointer p (AnIns SameOther is) = late_phis_same is

  -- ---- the rules on a block by its own words

  at_front_same : (is_pointer : ℕ → Bool) {l k : ℕ} → R l k → {b d : Block} → SameBlock R b d → at_front is_pointer f l b ≡ at_front is_pointer g k d
  at_front_same is_pointer p same = ap₂ (λ xs ys. xs ++ ys) (phi_faults_same is_pointer p same.body) (merge_faults_same p same.end same.body)

  literal_same : (v w : ℕ) → v ≡ w → {ps qs : List (ℕ × ℕ)} → SamePairs R ps qs → list_any (λ q. q.0 == v) ps ≡ list_any (λ q. q.0 == w) qs
  literal_same v w e NoPair = refl
  literal_same v w e (APair i r ps) = ap₂ (λ x y. x || y) (ap₂ (λ x y. x == y) i e) (literal_same v w e ps)

  twice_same : {ps qs : List (ℕ × ℕ)} → SamePairs R ps qs → same_twice ps ≡ same_twice qs
  twice_same NoPair = refl
  twice_same (APair {p = p} {q = q} e r ps) = ap₂ (λ x y. x || y) (literal_same p.0 q.0 e ps) (twice_same ps)

  has_exit_same : {x y : Option Construct} → SameConstruct R x y → {c e : Context} → SameContext R c e → {a b i j : ℕ} → R a i → R b j → has_exit x c a b ≡ has_exit y e i j
  has_exit_same NoConstruct c p q =
      ap₂ (λ x y. x || y) (is_exit_same R s.one p (SameBranchIf p q) c) (is_exit_same R s.one q (SameBranchIf p q) c)
  has_exit_same (TwoSelections m) c p q = refl
  has_exit_same (TwoSwitches m) c p q = refl
  has_exit_same (TwoLoops m n) c p q = refl

  splits_same : {x y : Option Construct} → SameConstruct R x y → {a b i j : ℕ} → R a i → R b j → splits_header x a b ≡ splits_header y i j
  splits_same NoConstruct p q = refl
  splits_same (TwoSelections m) p q = refl
  splits_same (TwoSwitches m) p q = refl
  splits_same (TwoLoops m n) p q = ap₂ (λ x y. cond x (not y) y) (equal_same R s.one p m) (equal_same R s.one q m)

  switch_same : {x y : Option Construct} → SameConstruct R x y → is_switch x ≡ is_switch y
  switch_same NoConstruct = refl
  switch_same (TwoSelections m) = refl
  switch_same (TwoSwitches m) = refl
  switch_same (TwoLoops m n) = refl

  end_rules_same : {x y : Option Construct} → SameConstruct R x y → {c b : Context} → SameContext R c b → {e d : End} → SameEnd R e d → end_rules x c e ≡ end_rules y b d
  end_rules_same k c (SameBranch a) = refl
  end_rules_same k c (SameBranchIf p q) =
      ap₂ (λ xs ys. xs ++ ys) (unless_same 407 (has_exit_same k c p q))
      (ap₂ (λ xs ys. xs ++ ys) (unless_same 408 (ap not (equal_same R s.one p q))) (unless_same 410 (splits_same k p q)))
  end_rules_same k c (SameSwitch a ps) = ap₂ (λ xs ys. xs ++ ys) (unless_same 402 (ap not (twice_same ps))) (unless_same 403 (switch_same k))
  end_rules_same k c SameReturn = unless_same 405 (ap not (in_next_same R c))
  end_rules_same k c SameUnreachable = unless_same 405 (ap not (in_next_same R c))
  end_rules_same k c SameOpen = refl

  at_end_same : {l k : ℕ} → R l k → {c e : Context} → SameContext R c e → {b d : Block} → SameBlock R b d → at_end f l c b ≡ at_end g k e d
  at_end_same p c same = ap₂ (λ at rules. here at rules) same.end_at (end_rules_same (construct_same R f g s p) (behind_same R f g s p p c) same.end)

  end_at_by : {x y : Option Block} → SameFound R x y → of_block (λ b. b.end_at) 0 x ≡ of_block (λ b. b.end_at) 0 y
  end_at_by NotFound = refl
  end_at_by (FoundBoth same) = same.end_at

  end_at_same : {l k : ℕ} → R l k → end_at f l ≡ end_at g k
  end_at_same p = end_at_by (found R f g s p)

-- ---- the rules

opened : {R : ℕ → ℕ → Type 0} {e d : End} → SameEnd R e d → e ≡ Open → d ≡ Open
opened (SameBranch a) e = cc
opened (SameBranchIf a b) e = cc
opened (SameSwitch a ps) e = cc
opened SameReturn e = e
opened SameUnreachable e = e
opened SameOpen e = e

-- a block of the one that stands in the other
record Stands (R : ℕ → ℕ → Type 0) (g : Code) (b : Block) (k : ℕ) : Type 0 where
  other : Block
  same : SameBlock R b other
  found : block g k ≡ Some other

stands_by : (R : ℕ → ℕ → Type 0) (g : Code) (k : ℕ) (b : Block) {x y : Option Block} → SameFound R x y → x ≡ Some b → block g k ≡ y → Stands R g b k
stands_by R g k b NotFound e h = cc
stands_by R g k b (FoundBoth {b = c} {d = d} same) e h =
    let i : c ≡ b = cc in record { other = d; same = subst (λ z. SameBlock R z d) i same; found = h }

stands : (R : ℕ → ℕ → Type 0) (f g : Code) → Alike R f g → (l k : ℕ) (b : Block) → R l k → block f l ≡ Some b → Stands R g b k
stands R f g s l k b p e = stands_by R g k b (found R f g s p) e refl

label_of_block : (f : Code) (l : ℕ) (b : Block) → block f l ≡ Some b → is_label f l ≡ true
label_of_block f l b e = ap is_some_block e

next_found : {R : ℕ → ℕ → Type 0} {x y : Option Construct} → SameConstruct R x y → (n : ℕ) → next_of x ≡ Some n → (m : ℕ) × (next_of y ≡ Some m)
next_found NoConstruct n e = cc
next_found (TwoSelections m) n e = cc
next_found (TwoSwitches m) n e = cc
next_found (TwoLoops {d = d} m c) n e = (d, refl)

finds_same : (R : ℕ → ℕ → Type 0) (f g : Code) → Alike R f g → (is_pointer : ℕ → Bool) → {rule at : ℕ} → Finds is_pointer f rule at → Finds is_pointer g rule at
finds_same R f g s is_pointer (AtFront l b c r walk at_l contains) =
    let (k, p) = named R f g s l (label_of_block f l b at_l) in
    let there = stands R f g s l k b p at_l in
    let reached = walk_same R f g s walk p in
    AtFront k there.other reached.context r reached.walked there.found (subst (λ xs. Contains xs r) (at_front_same R f g s is_pointer p there.same) contains)
finds_same R f g s is_pointer (AtEnd l b c r walk at_l goes_on contains) =
    let (k, p) = named R f g s l (label_of_block f l b at_l) in
    let there = stands R f g s l k b p at_l in
    let reached = walk_same R f g s walk p in
    AtEnd k there.other reached.context r reached.walked there.found (sym (stops_same R f g s p) ∙ goes_on) (subst (λ xs. Contains xs r) (at_end_same R f g s p reached.same there.same) contains)
finds_same R f g s is_pointer (BadTarget l t c walk tried goes_on closed) =
    let branch = branches_of_tries f l t c tried in
    let (k, p) = named_by_branch R f g s l t branch in
    let (u, q) = named_target R f g s l t branch in
    let reached = walk_same R f g s walk p in
    subst (λ at. Finds is_pointer g 402 at) (sym (end_at_same R f g s p))
    (BadTarget k u reached.context reached.walked (sym (tries_same R f g s p q reached.same) ∙ tried) (sym (stops_same R f g s q) ∙ goes_on)
    (λ enters. closed (enters_same (Turned R) g f (turned s) p q enters)))
finds_same R f g s is_pointer (CaseFall l t c walk leads_on fall) =
    let branch = branches_of_leads f l t c leads_on in
    let (k, p) = named_by_branch R f g s l t branch in
    let (u, q) = named_target R f g s l t branch in
    let reached = walk_same R f g s walk p in
    subst (λ at. Finds is_pointer g 404 at) (sym (end_at_same R f g s p))
    (CaseFall k u reached.context reached.walked (sym (leads_same R f g s p q reached.same) ∙ leads_on) (sym (is_fall_same R f g s q reached.same) ∙ fall))
finds_same R f g s is_pointer (BadContinue l n b c walk at_l goes_on next none) =
    let (k, p) = named R f g s l (label_of_block f l b at_l) in
    let there = stands R f g s l k b p at_l in
    let reached = walk_same R f g s walk p in
    let (m, next_there) = next_found (construct_same R f g s p) n next in
    subst (λ at. Finds is_pointer g 405 at) (sym (loop_at_same there.same.body))
    (BadContinue k m there.other reached.context reached.walked there.found (sym (stops_same R f g s p) ∙ goes_on) next_there
    (λ one. none (one_back_edge_same (Turned R) g f (turned s) p one)))
finds_same R f g s is_pointer (NoTerminator l b at_l unended) =
    let (k, p) = named R f g s l (label_of_block f l b at_l) in
    let there = stands R f g s l k b p at_l in
    subst (λ at. Finds is_pointer g 401 at) (sym there.same.end_at) (NoTerminator k there.other there.found (opened there.same.end unended))

broken_same : (R : ℕ → ℕ → Type 0) (f g : Code) → Alike R f g → (is_pointer : ℕ → Bool) → {rule at : ℕ} → Broken is_pointer f rule at → Broken is_pointer g rule at
broken_same R f g s is_pointer (Found rule at finds) = Found rule at (finds_same R f g s is_pointer finds)
broken_same R f g s is_pointer (NeverEntered l b nothing at_l never) =
    let (k, p) = named R f g s l (label_of_block f l b at_l) in
    let there = stands R f g s l k b p at_l in
    subst (λ at. Broken is_pointer g 402 at) (sym there.same.at)
    (NeverEntered k there.other (λ rule at finds. nothing rule at (finds_same (Turned R) g f (turned s) is_pointer finds)) there.found
    (λ c walk. let reached = walk_same (Turned R) g f (turned s) walk p in never reached.context reached.walked))

-- two functions that differ in their labels alone, one to one, break the same rules at the same places
pub same_rules : (R : ℕ → ℕ → Type 0) (f g : Code) → Alike R f g → (is_pointer : ℕ → Bool) (rule at : ℕ) → Broken is_pointer f rule at ↔ Broken is_pointer g rule at
same_rules R f g s is_pointer rule at = (broken_same R f g s is_pointer, broken_same (Turned R) g f (turned s) is_pointer)
