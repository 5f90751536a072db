-- Two functions that differ in their labels alone, one to one: what stands in them whatever a walk finds is the same.
use Rattle.std.proofs.Common.{◌≡◌, ℕ, ◌+◌, ◌==◌, Bool, true, false, cond, not, ◌&&◌, ◌||◌, ◌⊎◌, inl, inr, List, [], ◌∷◌, Option, Some, None, refl, sym, ap, ap₂, subst}
use Rattle.std.proofs.lemmas.Bool.{eqb-true, eqb-false, eq-eqb, ne_eqb}
use Rattle.spv_blocks.specs.Blocks.{Ins, Phi, Selection, Loop, Other, End, Branch, BranchIf, Switch, Return, Unreachable, Open, Block, Construct, ASelection, ASwitch, ALoop, Code, has, block, is_first, seconds, end_targets, of_block, branches, roles, times, names_in, names, is_some_block, is_label, opens, last_opens, construct, merge_of, next_of, is_switch, is_role, is_it, stops, goes, is_case}

-- ---- the same but for labels: R a b says that a stands in the one function where b stands in the other

-- each label has one at most in the other function
pub record IsOneToOne (R : ℕ → ℕ → Type 0) : Type 0 where
  pub there : (a b c : ℕ) → R a b → R a c → b ≡ c
  pub back : (a b c : ℕ) → R a c → R b c → a ≡ b

abbrev pub Turned : (ℕ → ℕ → Type 0) → ℕ → ℕ → Type 0
Turned R a b = R b a

pub data SameList (R : ℕ → ℕ → Type 0) : List ℕ → List ℕ → Type 0 where
  NoLabel : SameList R [] []
  ALabel : {x y : ℕ} {xs ys : List ℕ} → R x y → SameList R xs ys → SameList R (x ∷ xs) (y ∷ ys)

pub data SamePairs (R : ℕ → ℕ → Type 0) : List (ℕ × ℕ) → List (ℕ × ℕ) → Type 0 where
  NoPair : SamePairs R [] []
  APair : {p q : ℕ × ℕ} {ps qs : List (ℕ × ℕ)} → p.0 ≡ q.0 → R p.1 q.1 → SamePairs R ps qs → SamePairs R (p ∷ ps) (q ∷ qs)

pub data SameIns (R : ℕ → ℕ → Type 0) : Ins → Ins → Type 0 where
  SamePhi : {at t r : ℕ} {ps qs : List (ℕ × ℕ)} → SamePairs R ps qs → SameIns R (Phi at t r ps) (Phi at t r qs)
  SameSelection : {at m n : ℕ} → R m n → SameIns R (Selection at m) (Selection at n)
  SameLoop : {at m n c d : ℕ} → R m n → R c d → SameIns R (Loop at m c) (Loop at n d)
  SameOther : {at : ℕ} → SameIns R (Other at) (Other at)

pub data SameBody (R : ℕ → ℕ → Type 0) : List Ins → List Ins → Type 0 where
  NoIns : SameBody R [] []
  AnIns : {i j : Ins} {is js : List Ins} → SameIns R i j → SameBody R is js → SameBody R (i ∷ is) (j ∷ js)

pub data SameEnd (R : ℕ → ℕ → Type 0) : End → End → Type 0 where
  SameBranch : {a c : ℕ} → R a c → SameEnd R (Branch a) (Branch c)
  SameBranchIf : {a b c d : ℕ} → R a c → R b d → SameEnd R (BranchIf a b) (BranchIf c d)
  SameSwitch : {a c : ℕ} {ps qs : List (ℕ × ℕ)} → R a c → SamePairs R ps qs → SameEnd R (Switch a ps) (Switch c qs)
  SameReturn : SameEnd R Return Return
  SameUnreachable : SameEnd R Unreachable Unreachable
  SameOpen : SameEnd R Open Open

pub record SameBlock (R : ℕ → ℕ → Type 0) (b d : Block) : Type 0 where
  pub label : R b.label d.label
  pub at : b.at ≡ d.at
  pub body : SameBody R b.body d.body
  pub end_at : b.end_at ≡ d.end_at
  pub end : SameEnd R b.end d.end

pub data SameCode (R : ℕ → ℕ → Type 0) : Code → Code → Type 0 where
  NoBlock : SameCode R [] []
  ABlock : {b d : Block} {f g : Code} → SameBlock R b d → SameCode R f g → SameCode R (b ∷ f) (d ∷ g)

pub data SameFound (R : ℕ → ℕ → Type 0) : Option Block → Option Block → Type 0 where
  NotFound : SameFound R None None
  FoundBoth : {b d : Block} → SameBlock R b d → SameFound R (Some b) (Some d)

pub data SameConstruct (R : ℕ → ℕ → Type 0) : Option Construct → Option Construct → Type 0 where
  NoConstruct : SameConstruct R None None
  TwoSelections : {m n : ℕ} → R m n → SameConstruct R (Some (ASelection m)) (Some (ASelection n))
  TwoSwitches : {m n : ℕ} → R m n → SameConstruct R (Some (ASwitch m)) (Some (ASwitch n))
  TwoLoops : {m n c d : ℕ} → R m n → R c d → SameConstruct R (Some (ALoop m c)) (Some (ALoop n d))

-- ---- turned round

turned_pairs : {R : ℕ → ℕ → Type 0} {ps qs : List (ℕ × ℕ)} → SamePairs R ps qs → SamePairs (Turned R) qs ps
turned_pairs NoPair = NoPair
turned_pairs (APair e r ps) = APair (sym e) r (turned_pairs ps)

turned_ins : {R : ℕ → ℕ → Type 0} {i j : Ins} → SameIns R i j → SameIns (Turned R) j i
turned_ins (SamePhi ps) = SamePhi (turned_pairs ps)
turned_ins (SameSelection m) = SameSelection m
turned_ins (SameLoop m c) = SameLoop m c
turned_ins SameOther = SameOther

turned_body : {R : ℕ → ℕ → Type 0} {is js : List Ins} → SameBody R is js → SameBody (Turned R) js is
turned_body NoIns = NoIns
turned_body (AnIns i is) = AnIns (turned_ins i) (turned_body is)

turned_end : {R : ℕ → ℕ → Type 0} {e d : End} → SameEnd R e d → SameEnd (Turned R) d e
turned_end (SameBranch a) = SameBranch a
turned_end (SameBranchIf a b) = SameBranchIf a b
turned_end (SameSwitch a ps) = SameSwitch a (turned_pairs ps)
turned_end SameReturn = SameReturn
turned_end SameUnreachable = SameUnreachable
turned_end SameOpen = SameOpen

turned_block : {R : ℕ → ℕ → Type 0} {b d : Block} → SameBlock R b d → SameBlock (Turned R) d b
turned_block s = record { label = s.label; at = sym s.at; body = turned_body s.body; end_at = sym s.end_at; end = turned_end s.end }

turned_code : {R : ℕ → ℕ → Type 0} {f g : Code} → SameCode R f g → SameCode (Turned R) g f
turned_code NoBlock = NoBlock
turned_code (ABlock b f) = ABlock (turned_block b) (turned_code f)

-- two functions that differ in their labels alone, one to one
pub record Alike (R : ℕ → ℕ → Type 0) (f g : Code) : Type 0 where
  pub one : IsOneToOne R
  pub code : SameCode R f g

pub turned : {R : ℕ → ℕ → Type 0} {f g : Code} → Alike R f g → Alike (Turned R) g f
turned s = record { one = record { there = λ a b c p q. s.one.back b c a p q; back = λ a b c p q. s.one.there c a b p q }; code = turned_code s.code }

-- ---- tests

pub true_or_not : (a : Bool) → (a ≡ true) ⊎ (a ≡ false)
true_or_not true = inl refl
true_or_not false = inr refl

pub and_left : (a b : Bool) → (a && b) ≡ true → a ≡ true
and_left true b e = refl
and_left false b e = cc

pub and_right : (a b : Bool) → (a && b) ≡ true → b ≡ true
and_right true b e = e
and_right false b e = cc

pub either : {X : Type 0} (a b : Bool) → (a || b) ≡ true → (a ≡ true → X) → (b ≡ true → X) → X
either true b e yes_a yes_b = yes_a refl
either false b e yes_a yes_b = yes_b e

-- a block of a label is the front one or a later one
pub this_or_later : {X : Type 0} (b : Block) (x : Option Block) (t : Bool) → is_some_block (cond t (Some b) x) ≡ true → (t ≡ true → X) → (is_some_block x ≡ true → X) → X
this_or_later b x true e this later = this refl
this_or_later b x false e this later = later e

pub branches_of_goes : (f : Code) (b t : ℕ) → goes f b t ≡ true → branches f b t ≡ true
branches_of_goes f b t e = and_left (branches f b t) (is_label f t) (and_left _ (not (is_first f t)) (and_left _ (names f t == 0) e))

pub branches_of_case : (f : Code) (s t : ℕ) → is_case f s t ≡ true → branches f s t ≡ true
branches_of_case f s t e = and_right (is_switch (construct f s)) (branches f s t) (and_left _ (names f t == 0) e)

-- ---- numbers in lists

module _ (R : ℕ → ℕ → Type 0) (one : IsOneToOne R) where
  equal_by : (a b c d : ℕ) → R a c → R b d → (t : Bool) → (a == b) ≡ t → (c == d) ≡ t
  equal_by a b c d p q true e = eq-eqb c d (one.there a c d p (subst (λ z. R z d) (sym (eqb-true a b e)) q))
  equal_by a b c d p q false e = ne_eqb c d (λ h. eqb-false a b e (one.back a b c p (subst (λ z. R b z) (sym h) q)))

  pub equal_same : {a b c d : ℕ} → R a c → R b d → (a == b) ≡ (c == d)
  equal_same {a} {b} {c} {d} p q = sym (equal_by a b c d p q (a == b) refl)

  pub has_same : {x y : ℕ} {xs ys : List ℕ} → R x y → SameList R xs ys → has xs x ≡ has ys y
  has_same p NoLabel = refl
  has_same p (ALabel q qs) = ap₂ (λ s t. s || t) (equal_same q p) (has_same p qs)

  pub times_same : {x y : ℕ} {xs ys : List ℕ} → R x y → SameList R xs ys → times xs x ≡ times ys y
  times_same p NoLabel = refl
  times_same p (ALabel q qs) = ap₂ (λ s n. cond s (n + 1) n) (equal_same q p) (times_same p qs)

pub seconds_same : {R : ℕ → ℕ → Type 0} {ps qs : List (ℕ × ℕ)} → SamePairs R ps qs → SameList R (seconds ps) (seconds qs)
seconds_same NoPair = NoLabel
seconds_same (APair e p ps) = ALabel p (seconds_same ps)

targets_of_end : {R : ℕ → ℕ → Type 0} {e d : End} → SameEnd R e d → SameList R (end_targets e) (end_targets d)
targets_of_end (SameBranch a) = ALabel a NoLabel
targets_of_end (SameBranchIf a b) = ALabel a (ALabel b NoLabel)
targets_of_end (SameSwitch a ps) = ALabel a (seconds_same ps)
targets_of_end SameReturn = NoLabel
targets_of_end SameUnreachable = NoLabel
targets_of_end SameOpen = NoLabel

roles_same : {R : ℕ → ℕ → Type 0} {i j : Ins} → SameIns R i j → SameList R (roles i) (roles j)
roles_same (SamePhi ps) = NoLabel
roles_same (SameSelection m) = ALabel m NoLabel
roles_same (SameLoop m c) = ALabel m (ALabel c NoLabel)
roles_same SameOther = NoLabel

-- a label in one list has one in the other
met : {R : ℕ → ℕ → Type 0} (x : ℕ) {xs ys : List ℕ} → has xs x ≡ true → SameList R xs ys → (y : ℕ) × R x y
met x e NoLabel = cc
met {R} x e (ALabel {x = z} {y = w} {xs = xs} p ps) =
    either (z == x) (has xs x) e (λ u. (w, subst (λ v. R v w) (eqb-true z x u) p)) (λ rest. met x rest ps)

-- ---- the construct of a block

opens_same : {R : ℕ → ℕ → Type 0} {e d : End} {i j : Ins} → SameEnd R e d → SameIns R i j → SameConstruct R (opens e i) (opens d j)
opens_same SameOpen _ = NoConstruct
opens_same e (SamePhi ps) = NoConstruct
opens_same e SameOther = NoConstruct
opens_same e (SameLoop m c) = TwoLoops m c
opens_same (SameSwitch a ps) (SameSelection m) = TwoSwitches m
opens_same e (SameSelection m) = TwoSelections m

last_opens_same : {R : ℕ → ℕ → Type 0} {e d : End} {is js : List Ins} → SameEnd R e d → SameBody R is js → SameConstruct R (last_opens e is) (last_opens d js)
last_opens_same e NoIns = NoConstruct
last_opens_same e (AnIns i NoIns) = opens_same e i
last_opens_same e (AnIns i (AnIns j is)) = last_opens_same e (AnIns j is)

-- ---- what a label stands for in functions that are alike

found_if : {R : ℕ → ℕ → Type 0} {x y : Option Block} {b d : Block} (t u : Bool) → t ≡ u → SameBlock R b d → SameFound R x y → SameFound R (cond t (Some b) x) (cond u (Some d) y)
found_if true true e s more = FoundBoth s
found_if true false e s more = cc
found_if false true e s more = cc
found_if false false e s more = more

found_in : {R : ℕ → ℕ → Type 0} → IsOneToOne R → {f g : Code} (l k : ℕ) → R l k → SameCode R f g → SameFound R (block f l) (block g k)
found_in one l k p NoBlock = NotFound
found_in {R} one l k p (ABlock {b = b} {d = d} s ss) = found_if (b.label == l) (d.label == k) (equal_same R one s.label p) s (found_in one l k p ss)

module _ (R : ℕ → ℕ → Type 0) (f g : Code) (alike : Alike R f g) where
  pub found : {l k : ℕ} → R l k → SameFound R (block f l) (block g k)
  found {l} {k} p = found_in alike.one l k p alike.code

  targets_of : {x y : Option Block} → SameFound R x y → SameList R (of_block (λ b. end_targets b.end) [] x) (of_block (λ b. end_targets b.end) [] y)
  targets_of NotFound = NoLabel
  targets_of (FoundBoth s) = targets_of_end s.end

  pub branches_same : {b d t u : ℕ} → R b d → R t u → branches f b t ≡ branches g d u
  branches_same p q = has_same R alike.one q (targets_of (found p))

  label_of : {x y : Option Block} → SameFound R x y → is_some_block x ≡ is_some_block y
  label_of NotFound = refl
  label_of (FoundBoth s) = refl

  pub label_same : {l k : ℕ} → R l k → is_label f l ≡ is_label g k
  label_same p = label_of (found p)

  construct_of : {x y : Option Block} → SameFound R x y → SameConstruct R (of_block (λ b. last_opens b.end b.body) None x) (of_block (λ b. last_opens b.end b.body) None y)
  construct_of NotFound = NoConstruct
  construct_of (FoundBoth s) = last_opens_same s.end s.body

  pub construct_same : {l k : ℕ} → R l k → SameConstruct R (construct f l) (construct g k)
  construct_same p = construct_of (found p)

  first_in : {h i : Code} (l k : ℕ) → R l k → SameCode R h i → is_first h l ≡ is_first i k
  first_in l k p NoBlock = refl
  first_in l k p (ABlock s ss) = equal_same R alike.one s.label p

  pub first_same : {l k : ℕ} → R l k → is_first f l ≡ is_first g k
  first_same {l} {k} p = first_in l k p alike.code

  names_in_body : {is js : List Ins} (l k : ℕ) → R l k → SameBody R is js → names_in is l ≡ names_in js k
  names_in_body l k p NoIns = refl
  names_in_body l k p (AnIns i is) = ap₂ (λ m n. m + n) (times_same R alike.one p (roles_same i)) (names_in_body l k p is)

  names_in_code : {h i : Code} (l k : ℕ) → R l k → SameCode R h i → names h l ≡ names i k
  names_in_code l k p NoBlock = refl
  names_in_code l k p (ABlock s ss) = ap₂ (λ m n. m + n) (names_in_body l k p s.body) (names_in_code l k p ss)

  pub names_same : {l k : ℕ} → R l k → names f l ≡ names g k
  names_same {l} {k} p = names_in_code l k p alike.code

  pub is_role_same : {h i l k : ℕ} → R h i → R l k → is_role f h l ≡ is_role g i k
  is_role_same {h} {i} {l} {k} p q = ap₂ (λ s n. s && n == 1) (ap₂ (λ s t. s && not t) (ap₂ (λ s t. s && not t) (label_same q) (first_same q)) (equal_same R alike.one q p)) (names_same q)

  pub goes_same : {b d t u : ℕ} → R b d → R t u → goes f b t ≡ goes g d u
  goes_same p q = ap₂ (λ s n. s && n == 0) (ap₂ (λ s t. s && not t) (ap₂ (λ s t. s && t) (branches_same p q) (label_same q)) (first_same q)) (names_same q)

  switch_of : {x y : Option Construct} → SameConstruct R x y → is_switch x ≡ is_switch y
  switch_of NoConstruct = refl
  switch_of (TwoSelections m) = refl
  switch_of (TwoSwitches m) = refl
  switch_of (TwoLoops m c) = refl

  pub is_switch_same : {l k : ℕ} → R l k → is_switch (construct f l) ≡ is_switch (construct g k)
  is_switch_same p = switch_of (construct_same p)

  pub is_case_same : {s r t u : ℕ} → R s r → R t u → is_case f s t ≡ is_case g r u
  is_case_same p q = ap₂ (λ s n. s && n == 0) (ap₂ (λ s t. s && t) (is_switch_same p) (branches_same p q)) (names_same q)

  stops_of : {l k : ℕ} → R l k → {x y : Option Construct} → SameConstruct R x y → is_it l (next_of x) ≡ is_it k (next_of y)
  stops_of p NoConstruct = refl
  stops_of p (TwoSelections m) = refl
  stops_of p (TwoSwitches m) = refl
  stops_of p (TwoLoops m c) = equal_same R alike.one c p

  pub stops_same : {l k : ℕ} → R l k → stops f l ≡ stops g k
  stops_same p = stops_of p (construct_same p)

  -- ---- merge blocks and continue targets

  bare_of : {x y : Option Construct} → SameConstruct R x y → x ≡ None → y ≡ None
  bare_of NoConstruct e = refl
  bare_of (TwoSelections m) e = cc
  bare_of (TwoSwitches m) e = cc
  bare_of (TwoLoops m c) e = cc

  pub bare_same : {l k : ℕ} → R l k → construct f l ≡ None → construct g k ≡ None
  bare_same p e = bare_of (construct_same p) e

  some_same : {a b c d : ℕ} → R a c → Some a ≡ Some b → R b d → Some c ≡ Some d
  some_same {a} {b} {c} {d} p e q = let i : a ≡ b = cc in ap Some (alike.one.there a c d p (subst (λ z. R z d) (sym i) q))

  merge_by : {m n : ℕ} {x y : Option Construct} → SameConstruct R x y → merge_of x ≡ Some m → R m n → merge_of y ≡ Some n
  merge_by NoConstruct e q = cc
  merge_by (TwoSelections m) e q = some_same m e q
  merge_by (TwoSwitches m) e q = some_same m e q
  merge_by (TwoLoops m c) e q = some_same m e q

  pub merge_same : {l k m n : ℕ} → R l k → merge_of (construct f l) ≡ Some m → R m n → merge_of (construct g k) ≡ Some n
  merge_same p e q = merge_by (construct_same p) e q

  next_by : {m n : ℕ} {x y : Option Construct} → SameConstruct R x y → next_of x ≡ Some m → R m n → next_of y ≡ Some n
  next_by NoConstruct e q = cc
  next_by (TwoSelections m) e q = cc
  next_by (TwoSwitches m) e q = cc
  next_by (TwoLoops m c) e q = some_same c e q

  pub next_same : {l k m n : ℕ} → R l k → next_of (construct f l) ≡ Some m → R m n → next_of (construct g k) ≡ Some n
  next_same p e q = next_by (construct_same p) e q

  -- ---- each label of the one stands in the other

  label_in : {h i : Code} (l : ℕ) → is_label h l ≡ true → SameCode R h i → (k : ℕ) × R l k
  label_in l e NoBlock = cc
  label_in l e (ABlock {b = b} {d = d} {f = h} s ss) =
      this_or_later b (block h l) (b.label == l) e (λ t. (d.label, subst (λ z. R z d.label) (eqb-true b.label l t) s.label)) (λ later. label_in l later ss)

  pub named : (l : ℕ) → is_label f l ≡ true → (k : ℕ) × R l k
  named l e = label_in l e alike.code

  branching : (x : Option Block) (t : ℕ) → has (of_block (λ b. end_targets b.end) [] x) t ≡ true → is_some_block x ≡ true
  branching None t e = cc
  branching (Some b) t e = refl

  pub named_by_branch : (b t : ℕ) → branches f b t ≡ true → (d : ℕ) × R b d
  named_by_branch b t e = named b (branching (block f b) t e)

  merging : (x : Option Block) (m : ℕ) → merge_of (of_block (λ b. last_opens b.end b.body) None x) ≡ Some m → is_some_block x ≡ true
  merging None m e = cc
  merging (Some b) m e = refl

  pub named_by_merge : (b m : ℕ) → merge_of (construct f b) ≡ Some m → (d : ℕ) × R b d
  named_by_merge b m e = named b (merging (block f b) m e)

  continuing : (x : Option Block) (m : ℕ) → next_of (of_block (λ b. last_opens b.end b.body) None x) ≡ Some m → is_some_block x ≡ true
  continuing None m e = cc
  continuing (Some b) m e = refl

  pub named_by_next : (b m : ℕ) → next_of (construct f b) ≡ Some m → (d : ℕ) × R b d
  named_by_next b m e = named b (continuing (block f b) m e)

  pub named_target : (b t : ℕ) → branches f b t ≡ true → (u : ℕ) × R t u
  named_target b t e = let (d, p) = named_by_branch b t e in met t e (targets_of (found p))
