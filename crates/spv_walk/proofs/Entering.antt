-- What small functions are walked by: which blocks branch to a label, which tops and falls there are none of.
use Rattle.std.proofs.Common.{◌≡◌, ◌⊎◌, inl, inr, ℕ, ◌==◌, Bool, true, false, cond, not, ◌&&◌, ◌||◌, List, [], ◌∷◌, map, Option, Some, None, refl, sym, ap, subst}
use Rattle.std.proofs.lemmas.Bool.{eqb-true, eq-eqb}
use Rattle.std.specs.List.{list_all, filter}
use Rattle.spv_blocks.specs.Blocks.{Block, Construct, ASelection, ASwitch, ALoop, Code, has, block, is_first, is_label, is_some_block, names, of_block, end_targets, last_opens, branches, construct, next_of, is_switch, is_role, stops, goes, is_case}
use Rattle.spv_walk.specs.Contexts.{Context}
use Rattle.spv_walk.specs.Walk.{Top, Begins, Past, Along, Back, Falls, Enters, Walk, Starts, Entered, Stopped, Merged, Continued}
use Rattle.spv_walk.specs.Phis.{predecessors}
use Rattle.spv_walk.proofs.NumberingAlike.{and_left, and_right, either, this_or_later, branches_of_goes}

-- ---- predecessors

cond_has : (t : Bool) (l q : ℕ) (xs : List ℕ) → t ≡ true → l ≡ q → has (cond t (l ∷ xs) xs) q ≡ true
cond_has true l q xs e h = ap (λ t. t || has xs q) (eq-eqb l q h)
cond_has false l q xs e h = cc

cond_more : (t : Bool) (l q : ℕ) (xs : List ℕ) → has xs q ≡ true → has (cond t (l ∷ xs) xs) q ≡ true
cond_more true l q xs e = or_true (l == q) (has xs q) e
  where
    or_true : (a b : Bool) → b ≡ true → (a || b) ≡ true
    or_true true b e = refl
    or_true false b e = e
cond_more false l q xs e = e

-- the labels of blocks that pass a test, where the test passes at one of them
kept : (p : ℕ → Bool) (f : Code) (q : ℕ) → p q ≡ true → is_label f q ≡ true → has (filter p (map (λ b. b.label) f)) q ≡ true
kept p [] q e known = cc
kept p (b ∷ f) q e known =
    let rest = filter p (map (λ b. b.label) f) in
    this_or_later b (block f q) (b.label == q) known
    (λ t. cond_has (p b.label) b.label q rest (subst (λ z. p z ≡ true) (sym (eqb-true b.label q t)) e) (eqb-true b.label q t))
    (λ later. cond_more (p b.label) b.label q rest (kept p f q e later))

branching : (x : Option Block) (t : ℕ) → has (of_block (λ b. end_targets b.end) [] x) t ≡ true → is_some_block x ≡ true
branching None t e = cc
branching (Some b) t e = refl

continuing : (x : Option Block) (m : ℕ) → next_of (of_block (λ b. last_opens b.end b.body) None x) ≡ Some m → is_some_block x ≡ true
continuing None m e = cc
continuing (Some b) m e = refl

pub label_of_next : (f : Code) (h c : ℕ) → next_of (construct f h) ≡ Some c → is_label f h ≡ true
label_of_next f h c e = continuing (block f h) c e

pub predecessor : (f : Code) (q t : ℕ) → branches f q t ≡ true → has (predecessors f t) q ≡ true
predecessor f q t e = kept (λ p. branches f p t) f q e (branching (block f q) t e)

-- a label is one of the labels of blocks
pub label_among : (f : Code) (l : ℕ) → is_label f l ≡ true → has (filter (λ _. true) (map (λ b. b.label) f)) l ≡ true
label_among f l e = kept (λ _. true) f l refl e

-- ---- cases over a list of numbers

abbrev pub Each : (ℕ → Type 0) → List ℕ → Type 0
Each P [] = Unit {0}
Each P (x ∷ xs) = P x × Each P xs

pub one_of : (P : ℕ → Type 0) (xs : List ℕ) → Each P xs → (q : ℕ) → has xs q ≡ true → P q
one_of P [] each q e = cc
one_of P (x ∷ xs) each q e = either (x == q) (has xs q) e (λ t. subst P (eqb-true x q t) each.0) (λ rest. one_of P xs each.1 q rest)

-- of the one block that branches to a label, or the two
pub from_one : (f : Code) (t p : ℕ) → predecessors f t ≡ p ∷ [] → (q : ℕ) → branches f q t ≡ true → q ≡ p
from_one f t p e q branch = one_of (λ q. q ≡ p) (p ∷ []) (refl, tt) q (subst (λ ps. has ps q ≡ true) e (predecessor f q t branch))

pub from_two : (f : Code) (t p r : ℕ) → predecessors f t ≡ p ∷ r ∷ [] → (q : ℕ) → branches f q t ≡ true → (q ≡ p) ⊎ (q ≡ r)
from_two f t p r e q branch =
    one_of (λ q. (q ≡ p) ⊎ (q ≡ r)) (p ∷ r ∷ []) (inl refl, (inr refl, tt)) q (subst (λ ps. has ps q ≡ true) e (predecessor f q t branch))

-- ---- constructs

-- a test that the constructs of all blocks pass
passes_by : (p : Option Construct → Bool) (b : Block) (x : Option Block) (t : Bool) → p (last_opens b.end b.body) ≡ true → p (of_block (λ b. last_opens b.end b.body) None x) ≡ true
    → p (of_block (λ b. last_opens b.end b.body) None (cond t (Some b) x)) ≡ true
passes_by p b x true here later = here
passes_by p b x false here later = later

pub passes : (p : Option Construct → Bool) → p None ≡ true → (f : Code) → list_all (λ b. p (last_opens b.end b.body)) f ≡ true → (l : ℕ) → p (construct f l) ≡ true
passes p none [] all l = none
passes p none (b ∷ f) all l =
    let here = and_left (p (last_opens b.end b.body)) (list_all (λ b. p (last_opens b.end b.body)) f) all in
    let later = and_right (p (last_opens b.end b.body)) (list_all (λ b. p (last_opens b.end b.body)) f) all in
    passes_by p b (block f l) (b.label == l) here (passes p none f later l)

pub not_true : (a : Bool) → not a ≡ true → a ≡ false
not_true true e = cc
not_true false e = refl

abbrev pub no_switch : Option Construct → Bool
no_switch k = not (is_switch k)

abbrev pub no_loop : Option Construct → Bool
no_loop None = true
no_loop (Some (ASelection m)) = true
no_loop (Some (ASwitch m)) = true
no_loop (Some (ALoop m n)) = false

-- a function without a switch has no case
pub no_case : (f : Code) → list_all (λ b. no_switch (last_opens b.end b.body)) f ≡ true → (s t : ℕ) → is_case f s t ≡ true → ⊥
no_case f all s t e =
    let a : is_switch (construct f s) ≡ false = not_true _ (passes no_switch refl f all s) in
    let b : is_switch (construct f s) ≡ true = and_left _ (branches f s t) (and_left _ (names f t == 0) e) in
    cc

no_next : (k : Option Construct) (n : ℕ) → no_loop k ≡ true → next_of k ≡ Some n → ⊥
no_next None n p e = cc
no_next (Some (ASelection m)) n p e = cc
no_next (Some (ASwitch m)) n p e = cc
no_next (Some (ALoop m c)) n p e = cc

-- ---- tops

-- without a loop that has a continue target to be walked to, nothing is at a top
pub no_top : (f : Code) → ((h c : ℕ) → next_of (construct f h) ≡ Some c → is_role f h c ≡ true → ⊥) → {h b : ℕ} → Top f h b → ⊥
no_top f none (Begins h c next role) = none h c next role
no_top f none (Past h b m top goes_on merge role) = no_top f none top
no_top f none (Along h b t top bare leads_to other tops bares) = no_top f none top

pub no_loops : (f : Code) → list_all (λ b. no_loop (last_opens b.end b.body)) f ≡ true → {h b : ℕ} → Top f h b → ⊥
no_loops f all top = no_top f (λ h c next role. no_next (construct f h) c (passes no_loop refl f all h) next) top

first_of_role : (f : Code) (h l : ℕ) → is_role f h l ≡ true → is_first f l ≡ false
first_of_role f h l e = not_true _ (and_right (is_label f l) (not (is_first f l)) (and_left _ (not (l == h)) (and_left _ (names f l == 1) e)))

first_of_goes : (f : Code) (b l : ℕ) → goes f b l ≡ true → is_first f l ≡ false
first_of_goes f b l e = not_true _ (and_right (branches f b l && is_label f l) (not (is_first f l)) (and_left _ (names f l == 0) e))

-- the first block is at no top
pub top_not_first : (f : Code) {h b : ℕ} → Top f h b → is_first f b ≡ false
top_not_first f (Begins h c next role) = first_of_role f h c role
top_not_first f (Past h b m top goes_on merge role) = first_of_role f b m role
top_not_first f (Along h b t top bare leads_to other tops bares) = first_of_goes f b t leads_to

-- the first block has no back edge
pub no_back_from_first : (f : Code) (t b : ℕ) → is_first f b ≡ true → Back f t b → ⊥
no_back_from_first f t b first back = let h = top_not_first f back.top in cc

-- ---- the walk

-- the first block is walked outside all constructs
pub first_outside : (f : Code) {l : ℕ} {c : Context} → Walk f l c → is_first f l ≡ true → stops f l ≡ false → c ≡ []
first_outside f (Starts l first) e s = refl
first_outside f (Entered b t c walk tried enters) e s = let h = first_of_goes f b t enters.free in cc
first_outside f (Stopped b t c walk tried ends) e s = cc
first_outside f (Merged b m c walk goes_on merge role) e s = let h = first_of_role f b m role in cc
first_outside f (Continued b n c walk goes_on next role) e s = let h = first_of_role f b n role in cc

-- a block is entered from its one predecessor, where that is no back edge and no fall
pub enters : (f : Code) (b t : ℕ) → predecessors f t ≡ b ∷ [] → goes f b t ≡ true → (Back f t b → ⊥) → (Falls f t b → ⊥) → Enters f b t
enters f b t only free no_back no_fall = record {
  free = free;
  counted = record {
    branch = branches_of_goes f b t free;
    no_back = no_back;
    no_fall = no_fall;
  };
  one = λ q counted. from_one f t b only q counted.branch;
}
