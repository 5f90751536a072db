-- What is so of each walked block of a function in which no rule on structured control flow is broken.
use Rattle.std.proofs.Common.{◌≡◌, ◌⊎◌, inl, inr, ℕ, Bool, true, false, not, ◌&&◌, List, [], ◌∷◌, ◌++◌, Option, Some, None, refl, sym, ap, subst, ◌∙◌}
use Rattle.std.specs.List.{Contains}
use Rattle.std.proofs.lemmas.List.Elements.{Contains-append_left, Contains-push}
use Rattle.spv_blocks.specs.Blocks.{Code, Block, Open, Ins, Phi, Selection, Loop, Other, block, of_block, branches, construct, is_first, last_opens, next_of, is_it, seconds, stops}
use Rattle.spv_walk.specs.Contexts.{Context, behind, is_exit, is_fall}
use Rattle.spv_walk.specs.Faults.{merge_faults, end_rules}
use Rattle.spv_walk.specs.Found.{FaultTables}
use Rattle.spv_walk.specs.Phis.{phi_faults, phi_fits, names_each_once, predecessors}
use Rattle.spv_walk.specs.Rules.{at_front, at_end, Finds, AtFront, AtEnd, BadTarget, CaseFall, BadContinue, NoTerminator, Broken, Found, NeverEntered}
use Rattle.spv_walk.specs.Walk.{Enters, Walk, OneBackEdge, Stopped, end_of, leads, tries}
use Rattle.spv_walk.specs.Walked.{InPlaces}
use Rattle.spv_walk.proofs.Found.{no_element}
use Rattle.spv_walk.proofs.Unique.{tells, truth_apart, both_hold, not_false, is_it_equal, equal_is_it, role_other, stops_next}
use Rattle.spv_spelling.specs.Clean.{IsClean, no_pointers, EntersIn, IsSettled}
use Rattle.spv_spelling.proofs.Merges.{passes, nothing_here, Fits, last_fits}

-- a list with no element is empty
pub no_elements : {A : Type 0} (xs : List A) → ((x : A) → Contains xs x → ⊥) → xs ≡ []
no_elements [] none = refl
no_elements (x ∷ xs) none = absurd (none x (Contains-append_left (x ∷ []) xs x (Contains-push [] x)))

pub none_left : {A : Type 0} (xs ys : List A) → xs ++ ys ≡ [] → xs ≡ []
none_left [] ys e = refl
none_left (x ∷ xs) ys e = absurd (cc (e))

pub none_right : {A : Type 0} (xs ys : List A) → xs ++ ys ≡ [] → ys ≡ []
none_right [] ys e = e
none_right (x ∷ xs) ys e = absurd (cc (e))

-- ---- the block and its construct

construct_of : (f : Code) (l : ℕ) (b : Block) → block f l ≡ Some b → construct f l ≡ last_opens b.end b.body
construct_of f l b e = ap (of_block (λ b. last_opens b.end b.body) None) e

some_next : (o : Option Block) (n : ℕ) → next_of (of_block (λ b. last_opens b.end b.body) None o) ≡ Some n → (b : Block) × (o ≡ Some b)
some_next None n e = absurd (cc (e))
some_next (Some b) n e = (b, refl)

-- a header is a block
pub header_block : (f : Code) (l n : ℕ) → next_of (construct f l) ≡ Some n → (b : Block) × (block f l ≡ Some b)
header_block f l n e = some_next (block f l) n e

-- ---- where nothing is found, and the block is walked

module _ (is_pointer : ℕ → Bool) (f : Code) (nothing : (rule at : ℕ) → Finds is_pointer f rule at → ⊥) where
  front_fine : (l : ℕ) (c : Context) (b : Block) → Walk f l c → block f l ≡ Some b → at_front is_pointer f l b ≡ []
  front_fine l c b w e = no_elements (at_front is_pointer f l b) (λ r h. nothing r.rule r.at (AtFront l b c r w e h))

  pub phis_fine : (l : ℕ) (c : Context) (b : Block) → Walk f l c → block f l ≡ Some b → phi_faults is_pointer f l b.body ≡ []
  phis_fine l c b w e = none_left (phi_faults is_pointer f l b.body) (merge_faults f l b.end b.body) (front_fine l c b w e)

  pub merges_fine : (l : ℕ) (c : Context) (b : Block) → Walk f l c → block f l ≡ Some b → merge_faults f l b.end b.body ≡ []
  merges_fine l c b w e = none_right (phi_faults is_pointer f l b.body) (merge_faults f l b.end b.body) (front_fine l c b w e)

  pub construct_fits : (l : ℕ) (c : Context) (b : Block) → Walk f l c → block f l ≡ Some b → Fits f l (construct f l)
  construct_fits l c b w e = subst (Fits f l) (sym (construct_of f l b e)) (last_fits f l b.end b.body (merges_fine l c b w e))

  -- no header is its own continue target
  pub each_runs : (l : ℕ) (c : Context) → Walk f l c → stops f l ≡ false
  each_runs l c w = elim (tells (stops f l)) [
    | inl s ↦
        let next = stops_next f l s in let b = header_block f l l next in
        absurd (role_other f l l ((construct_fits l c b.0 w b.1).next l next) refl)
    | inr s ↦ s
  ]

  rules_fine : (l : ℕ) (c : Context) (b : Block) → Walk f l c → block f l ≡ Some b → end_rules (construct f l) (behind (construct f l) l l c) b.end ≡ []
  rules_fine l c b w e =
      nothing_here b.end_at (end_rules (construct f l) (behind (construct f l) l l c) b.end)
      (no_elements (at_end f l c b) (λ r h. nothing r.rule r.at (AtEnd l b c r w e (each_runs l c w) h)))

-- ---- what is so of a walked block

module _ (is_pointer : ℕ → Bool) (f : Code) (clean : IsClean is_pointer f) where
  pub nothing_found : (rule at : ℕ) → Finds is_pointer f rule at → ⊥
  nothing_found rule at h = clean.unbroken rule at (Found rule at h)

  -- no walked header is its own continue target
  pub walked_runs : (l : ℕ) (c : Context) → Walk f l c → stops f l ≡ false
  walked_runs l c w = each_runs is_pointer f nothing_found l c w

  module _ (l : ℕ) (c : Context) (b : Block) (w : Walk f l c) (e : block f l ≡ Some b) where
    stays_in : (t : ℕ) → branches f l t ≡ true → is_exit (behind (construct f l) l t c) b.end t ≡ false → leads f l c t ≡ true
    stays_in t h x =
        let ending : end_of f l ≡ b.end = ap (of_block (λ b. b.end) Open) e in
        both_hold (not (stops f l) && branches f l t) (not (is_exit (behind (construct f l) l t c) (end_of f l) t))
        (both_hold (not (stops f l)) (branches f l t) (not_false (stops f l) (walked_runs l c w)) h)
        (not_false (is_exit (behind (construct f l) l t c) (end_of f l) t) (ap (λ j. is_exit (behind (construct f l) l t c) j t) ending ∙ x))

    no_fall : (t : ℕ) → leads f l c t ≡ true → is_fall f c t ≡ false
    no_fall t h = elim (tells (is_fall f c t)) [
      | inl x ↦ absurd (nothing_found 404 _ (CaseFall l t c w h x))
      | inr x ↦ x
    ]

    enters_in : (t : ℕ) → branches f l t ≡ true → is_exit (behind (construct f l) l t c) b.end t ≡ false → EntersIn f l c b t
    enters_in t h x =
        let leading = stays_in t h x in
        let tried = both_hold (leads f l c t) (not (is_fall f c t)) leading (not_false (is_fall f c t) (no_fall t leading)) in
        let runs : stops f t ≡ false = elim (tells (stops f t)) [
          | inl s ↦ walked_runs t (behind (construct f l) l t c) (Stopped l t c w tried s)
          | inr s ↦ s
        ] in
        record { enters = clean.entered l t c w tried runs; stays = x; tried = tried }

    leads_on : (t : ℕ) → branches f l t ≡ true → (is_exit (behind (construct f l) l t c) b.end t ≡ true) ⊎ EntersIn f l c b t
    leads_on t h = elim (tells (is_exit (behind (construct f l) l t c) b.end t)) [
      | inl x ↦ inl x
      | inr x ↦ inr (enters_in t h x)
    ]

    pub settled : IsSettled is_pointer f l c b
    settled = record {
      runs = walked_runs l c w;
      ends = λ x. nothing_found 401 b.end_at (NoTerminator l b e x);
      leads = leads_on;
      merge = (construct_fits is_pointer f nothing_found l c b w e).merge;
      next = (construct_fits is_pointer f nothing_found l c b w e).next;
      phis = phis_fine is_pointer f nothing_found l c b w e;
      merges = merges_fine is_pointer f nothing_found l c b w e;
      rules = rules_fine is_pointer f nothing_found l c b w e;
    }

pub clean_is_settled : (is_pointer : ℕ → Bool) (f : Code) → IsClean is_pointer f → (l : ℕ) (c : Context) (b : Block) → Walk f l c → block f l ≡ Some b → IsSettled is_pointer f l c b
clean_is_settled is_pointer f clean l c b w e = settled is_pointer f clean l c b w e

-- ---- where there are no pointers

without_pointer : (first pointer each : Bool) → (not first && not pointer && each) ≡ true → (not first && not false && each) ≡ true
without_pointer false false each h = h
without_pointer false true each h = absurd (cc (h))
without_pointer true pointer each h = h

phis_without : (is_pointer : ℕ → Bool) (f : Code) (l : ℕ) (is : List Ins) → phi_faults is_pointer f l is ≡ [] → phi_faults no_pointers f l is ≡ []
phis_without is_pointer f l [] e = refl
phis_without is_pointer f l (Phi at t r pairs ∷ is) e =
    let p = passes at 406 (phi_fits is_pointer f l t pairs) (phi_faults is_pointer f l is) e in
    let holds = without_pointer (is_first f l) (is_pointer t) (names_each_once (predecessors f l) (seconds pairs)) p.holds in
    let rest = phis_without is_pointer f l is p.none in
    rw (holds, rest) refl
phis_without is_pointer f l (Selection at m ∷ is) e = e
phis_without is_pointer f l (Loop at m n ∷ is) e = e
phis_without is_pointer f l (Other at ∷ is) e = e

module _ (is_pointer : ℕ → Bool) (f : Code) (clean : IsClean is_pointer f) where
  front_without : (l : ℕ) (c : Context) (b : Block) → Walk f l c → block f l ≡ Some b → at_front no_pointers f l b ≡ []
  front_without l c b w e =
      let s = settled is_pointer f clean l c b w e in
      let phis = phis_without is_pointer f l b.body s.phis in
      let merges = s.merges in
      ap (λ xs. xs ++ merge_faults f l b.end b.body) phis ∙ merges

  finds_without : (rule at : ℕ) → Finds no_pointers f rule at → ⊥
  finds_without rule at (AtFront l b c r w e h) = no_element r (subst (λ xs. Contains xs r) (front_without l c b w e) h)
  finds_without rule at (AtEnd l b c r w e s h) = nothing_found is_pointer f clean rule at (AtEnd l b c r w e s h)
  finds_without rule at (BadTarget l t c w x s n) = nothing_found is_pointer f clean rule at (BadTarget l t c w x s n)
  finds_without rule at (CaseFall l t c w x y) = nothing_found is_pointer f clean rule at (CaseFall l t c w x y)
  finds_without rule at (BadContinue l n b c w e s x y) = nothing_found is_pointer f clean rule at (BadContinue l n b c w e s x y)
  finds_without rule at (NoTerminator l b e x) = nothing_found is_pointer f clean rule at (NoTerminator l b e x)

  broken_without : (rule at : ℕ) → Broken no_pointers f rule at → ⊥
  broken_without rule at (Found r a h) = finds_without rule at h
  broken_without rule at (NeverEntered l b n e none) = let w = clean.walked l b e in none w.0 w.1

  pub clean_without_pointers : IsClean no_pointers f
  clean_without_pointers = record { unbroken = broken_without; walked = clean.walked; entered = clean.entered; turned = clean.turned }

-- ---- by tables

module _ (is_pointer : ℕ → Bool) (f : Code) (enterer : ℕ → Option ℕ) (ends : ℕ → Bool) (place : ℕ → Option Context) (t : FaultTables f enterer ends (InPlaces place))
    (unbroken : (rule at : ℕ) → Broken is_pointer f rule at → ⊥) where
  none_found : (rule at : ℕ) → Finds is_pointer f rule at → ⊥
  none_found rule at h = unbroken rule at (Found rule at h)

  not_there : (l : ℕ) → place l ≡ None → (c : Context) → InPlaces place l c → ⊥
  not_there l e c i = absurd (cc (sym e ∙ i))

  has_place : (l : ℕ) (b : Block) (o : Option Context) → block f l ≡ Some b → place l ≡ o → (c : Context) × Walk f l c
  has_place l b None e p = absurd (unbroken 402 b.at (NeverEntered l b none_found e (λ c w. let i = t.walk.some l c w in not_there l p i.0 i.1)))
  has_place l b (Some c) e p = (c, t.walk.sound l c p)

  is_entered : (l k : ℕ) (c : Context) → Walk f l c → tries f l c k ≡ true → stops f k ≡ false → Enters f l k
  is_entered l k c w x s = elim (tells (is_it l (enterer k))) [
    | inl e ↦ t.enterers.sound l k (is_it_equal l (enterer k) e)
    | inr e ↦
        absurd (none_found 402 _ (BadTarget l k c w x s (λ y. truth_apart (is_it l (enterer k)) (equal_is_it l (enterer k) (t.enterers.whole l k y)) e)))
  ]

  is_turned : (l n : ℕ) (c : Context) → Walk f l c → next_of (construct f l) ≡ Some n → OneBackEdge f l
  is_turned l n c w x = elim (tells (ends l)) [
    | inl e ↦ t.one_back_edge.sound l e
    | inr e ↦
        let b = header_block f l n x in
        absurd (none_found 405 _ (BadContinue l n b.0 c w b.1 (each_runs is_pointer f none_found l c w) x (λ y. truth_apart (ends l) (t.one_back_edge.whole l y) e)))
  ]

  pub clean_by_tables : IsClean is_pointer f
  clean_by_tables = record { unbroken = unbroken; walked = λ l b e. has_place l b (place l) e refl; entered = is_entered; turned = is_turned }
