-- The blocks that the walk comes to in so many steps, as a list, where no rule on structured control flow is broken; so there is an exact table of the walk.
use Rattle.std.proofs.Common.{◌≡◌, ◌⊎◌, inl, inr, ℕ, zero, suc, ◌+◌, ◌<◌, ◌≤◌, Bool, true, false, cond, ◌==◌, List, [], ◌∷◌, ◌++◌, length, Option, Some, None, refl, sym, ap, subst, ◌∙◌, arith}
use Rattle.std.specs.Option.{unwrap_or}
use Rattle.std.proofs.lemmas.Bool.{false≢true, cases_lt}
use Rattle.spv_module.specs.Instruction.{Instruction}
use Rattle.spv_blocks.specs.Blocks.{Code, construct, has, is_first, is_role, merge_of, next_of, stops, targets}
use Rattle.spv_walk.specs.Contexts.{Context, behind, next_context}
use Rattle.spv_walk.specs.Rules.{Broken}
use Rattle.spv_walk.specs.Walk.{Walk, Starts, Entered, Stopped, Merged, Continued, tries}
use Rattle.spv_walk.specs.Walked.{InPlaces, IsWalk, Steps, StepEntered, StepStopped, StepMerged, StepContinued}
use Rattle.spv_walk.proofs.Unique.{either_holds, equal_true, leads_branches, one_context, tells, tries_leads, true_equal}
use Rattle.spv_exits.specs.Exits.{AreNestedReturns, AreNestedTogether, functions_of, nested_by}
use Rattle.spv_exits.proofs.OwnTargets.{walked-runs}
use Rattle.spv_spelling.specs.Paths.{Path, Begins, Onward}
use Rattle.spv_spelling.proofs.Paths.{path_of_walk}
use Rattle.spv_functions.specs.Functions.{is_pointer}
use Rattle.spv_module_rules.specs.Kept.{AreUnbroken}
use Rattle.spv_module_rules.proofs.OneNumber.{EachUnbroken, each-unbroken}
use Rattle.spv_module_rules.proofs.Short.{entered, short}

-- ---- places: labels with contexts

abbrev Places : Type 0
Places = List (ℕ × Context)

abbrev In : Places → (l : ℕ) (c : Context) → Type 0
In [] l c = ⊥
In (p ∷ ps) l c = ((p.0 ≡ l) × (p.1 ≡ c)) ⊎ In ps l c

in_left : (ps qs : Places) (l : ℕ) (c : Context) → In ps l c → In (ps ++ qs) l c
in_left [] qs l c h = absurd h
in_left (p ∷ ps) qs l c (inl e) = inl e
in_left (p ∷ ps) qs l c (inr h) = inr (in_left ps qs l c h)

in_right : (ps qs : Places) (l : ℕ) (c : Context) → In qs l c → In (ps ++ qs) l c
in_right [] qs l c h = h
in_right (p ∷ ps) qs l c h = inr (in_right ps qs l c h)

in_either : (ps qs : Places) (l : ℕ) (c : Context) → In (ps ++ qs) l c → In ps l c ⊎ In qs l c
in_either [] qs l c h = inr h
in_either (p ∷ ps) qs l c (inl e) = inl (inl e)
in_either (p ∷ ps) qs l c (inr h) = elim (in_either ps qs l c h) [ inl g ↦ inl (inr g) | inr g ↦ inr g ]

-- the first context of a label
abbrev context_in : Places → (l : ℕ) → Option Context
context_in [] l = None
context_in (p ∷ ps) l = cond (p.0 == l) (Some p.1) (context_in ps l)

told_here : (p : ℕ × Context) (ps : Places) (l : ℕ) (c : Context) (t : Bool) → (p.0 == l) ≡ t → cond t (Some p.1) (context_in ps l) ≡ Some c
    → (context_in ps l ≡ Some c → In ps l c) → In (p ∷ ps) l c
told_here p ps l c true e h later = inl (equal_true p.0 l e, ap (λ o. unwrap_or o c) h)
told_here p ps l c false e h later = inr (later h)

told_in : (ps : Places) (l : ℕ) (c : Context) → context_in ps l ≡ Some c → In ps l c
told_in [] l c h = absurd (cc (h))
told_in (p ∷ ps) l c h = told_here p ps l c (p.0 == l) refl h (told_in ps l c)

in_here : (p : ℕ × Context) (ps : Places) (l : ℕ) (c : Context) (t : Bool) → (p.0 == l) ≡ t → In (p ∷ ps) l c
    → (In ps l c → (d : Context) × (context_in ps l ≡ Some d)) → (d : Context) × (cond t (Some p.1) (context_in ps l) ≡ Some d)
in_here p ps l c true e h later = (p.1, refl)
in_here p ps l c false e (inl h) later = absurd (false≢true (sym e ∙ true_equal p.0 l h.0))
in_here p ps l c false e (inr h) later = later h

in_told : (ps : Places) (l : ℕ) (c : Context) → In ps l c → (d : Context) × (context_in ps l ≡ Some d)
in_told [] l c h = absurd h
in_told (p ∷ ps) l c h = in_here p ps l c (p.0 == l) refl h (in_told ps l c)

-- ---- directly behind a block

module _ (f : Code) (b : ℕ) (c : Context) where
  -- the targets that are tried
  abbrev enters : List ℕ → Places
  enters [] = []
  enters (t ∷ ts) = cond (tries f b c t) ((t, behind (construct f b) b t c) ∷ enters ts) (enters ts)

  abbrev IsTried : (t : ℕ) (d : Context) → Type 0
  IsTried t d = (tries f b c t ≡ true) × (behind (construct f b) b t c ≡ d)

  tried_here : (u : ℕ) (ts : List ℕ) (t : ℕ) (d : Context) (x : Bool) → tries f b c u ≡ x
      → In (cond x ((u, behind (construct f b) b u c) ∷ enters ts) (enters ts)) t d → (In (enters ts) t d → IsTried t d) → IsTried t d
  tried_here u ts t d true e (inl h) later = (subst (λ v. tries f b c v ≡ true) h.0 e, sym (ap (λ v. behind (construct f b) b v c) h.0) ∙ h.1)
  tried_here u ts t d true e (inr h) later = later h
  tried_here u ts t d false e h later = later h

  enters_sound : (ts : List ℕ) (t : ℕ) (d : Context) → In (enters ts) t d → IsTried t d
  enters_sound [] t d h = absurd h
  enters_sound (u ∷ ts) t d h = tried_here u ts t d (tries f b c u) refl h (enters_sound ts t d)

  first_in : (p : ℕ × Context) (ps : Places) (x : Bool) → x ≡ true → In (cond x (p ∷ ps) ps) p.0 p.1
  first_in p ps true e = inl (refl, refl)
  first_in p ps false e = absurd (false≢true e)

  later_in : (p : ℕ × Context) (ps : Places) (t : ℕ) (d : Context) (x : Bool) → In ps t d → In (cond x (p ∷ ps) ps) t d
  later_in p ps t d true h = inr h
  later_in p ps t d false h = h

  enters_whole : (ts : List ℕ) (t : ℕ) → has ts t ≡ true → tries f b c t ≡ true → In (enters ts) t (behind (construct f b) b t c)
  enters_whole [] t h g = absurd (false≢true h)
  enters_whole (u ∷ ts) t h g = elim (either_holds (u == t) (has ts t) h) [
    | inl e ↦
        let same = equal_true u t e in
        subst (λ v. In (enters (u ∷ ts)) v (behind (construct f b) b v c)) same
        (first_in (u, behind (construct f b) b u c) (enters ts) (tries f b c u) (subst (λ v. tries f b c v ≡ true) (sym same) g))
    | inr e ↦
        later_in (u, behind (construct f b) b u c) (enters ts) t (behind (construct f b) b t c) (tries f b c u) (enters_whole ts t e g)
  ]

  -- a merge block or continue target
  abbrev role : Option ℕ → Context → Places
  role None d = []
  role (Some m) d = cond (is_role f b m) ((m, d) ∷ []) []

  abbrev IsRole : Option ℕ → Context → (t : ℕ) (e : Context) → Type 0
  IsRole o d t e = (o ≡ Some t) × (is_role f b t ≡ true) × (d ≡ e)

  role_here : (m : ℕ) (d : Context) (t : ℕ) (e : Context) (x : Bool) → is_role f b m ≡ x → In (cond x ((m, d) ∷ []) []) t e → IsRole (Some m) d t e
  role_here m d t e true is (inl h) = (ap (λ v. Some v) h.0, subst (λ v. is_role f b v ≡ true) h.0 is, h.1)
  role_here m d t e true is (inr h) = absurd h
  role_here m d t e false is h = absurd h

  role_sound : (o : Option ℕ) (d : Context) (t : ℕ) (e : Context) → In (role o d) t e → IsRole o d t e
  role_sound None d t e h = absurd h
  role_sound (Some m) d t e h = role_here m d t e (is_role f b m) refl h

  role_whole : (o : Option ℕ) (d : Context) (t : ℕ) → o ≡ Some t → is_role f b t ≡ true → In (role o d) t d
  role_whole o d t e h = subst (λ x. In (role x d) t d) (sym e) (first_in (t, d) [] (is_role f b t) h)

  abbrev onward : Places
  onward = enters (targets f b) ++ (role (merge_of (construct f b)) c ++ role (next_of (construct f b)) (next_context (construct f b) b c))

  onward_whole : (t : ℕ) (d : Context) → Steps f b c t d → In onward t d
  onward_whole t d (StepEntered u x y) =
      in_left (enters (targets f b)) (role (merge_of (construct f b)) c ++ role (next_of (construct f b)) (next_context (construct f b) b c)) t
      (behind (construct f b) b t c) (enters_whole (targets f b) t (leads_branches f b c t (tries_leads f b c t x)) x)
  onward_whole t d (StepStopped u x y) =
      in_left (enters (targets f b)) (role (merge_of (construct f b)) c ++ role (next_of (construct f b)) (next_context (construct f b) b c)) t
      (behind (construct f b) b t c) (enters_whole (targets f b) t (leads_branches f b c t (tries_leads f b c t x)) x)
  onward_whole t d (StepMerged m r x y) =
      in_right (enters (targets f b)) (role (merge_of (construct f b)) c ++ role (next_of (construct f b)) (next_context (construct f b) b c)) t c
      (in_left (role (merge_of (construct f b)) c) (role (next_of (construct f b)) (next_context (construct f b) b c)) t c
      (role_whole (merge_of (construct f b)) c t x y))
  onward_whole t d (StepContinued n r x y) =
      in_right (enters (targets f b)) (role (merge_of (construct f b)) c ++ role (next_of (construct f b)) (next_context (construct f b) b c)) t
      (next_context (construct f b) b c)
      (in_right (role (merge_of (construct f b)) c) (role (next_of (construct f b)) (next_context (construct f b) b c)) t (next_context (construct f b) b c)
      (role_whole (next_of (construct f b)) (next_context (construct f b) b c) t x y))

-- ---- in so many steps

module _ (f : Code) where
  abbrev all_onward : Places → Places
  all_onward [] = []
  all_onward (p ∷ ps) = onward f p.0 p.1 ++ all_onward ps

  all_sound : (ps : Places) (t : ℕ) (d : Context) → In (all_onward ps) t d → (b : ℕ) × (c : Context) × In ps b c × In (onward f b c) t d
  all_sound [] t d h = absurd h
  all_sound (p ∷ ps) t d h = elim (in_either (onward f p.0 p.1) (all_onward ps) t d h) [
    | inl g ↦ (p.0, p.1, inl (refl, refl), g)
    | inr g ↦ (let r = all_sound ps t d g in (r.0, r.1, inr r.2, r.3))
  ]

  all_whole : (ps : Places) (b : ℕ) (c : Context) (t : ℕ) (d : Context) → In ps b c → In (onward f b c) t d → In (all_onward ps) t d
  all_whole [] b c t d h g = absurd h
  all_whole (p ∷ ps) b c t d (inl e) g =
      in_left (onward f p.0 p.1) (all_onward ps) t d
      (subst (λ x. In (onward f x p.1) t d) (sym e.0) (subst (λ y. In (onward f b y) t d) (sym e.1) g))
  all_whole (p ∷ ps) b c t d (inr h) g = in_right (onward f p.0 p.1) (all_onward ps) t d (all_whole ps b c t d h g)

abbrev begun : Code → Places
begun [] = []
begun (b ∷ f) = (b.label, []) ∷ []

begun_sound : (f : Code) (l : ℕ) (c : Context) → In (begun f) l c → Walk f l c
begun_sound [] l c h = absurd h
begun_sound (b ∷ f) l c (inl e) = subst (λ x. Walk (b ∷ f) l x) e.1 (Starts l (true_equal b.label l e.0))
begun_sound (b ∷ f) l c (inr h) = absurd h

begun_whole : (f : Code) (l : ℕ) → is_first f l ≡ true → In (begun f) l []
begun_whole [] l h = absurd (false≢true h)
begun_whole (b ∷ f) l h = inl (equal_true b.label l h, refl)

-- in n steps, and in at most n
abbrev reached : Code → ℕ → Places
reached f zero = begun f
reached f (suc n) = all_onward f (reached f n)

abbrev up_to : Code → ℕ → Places
up_to f zero = begun f
up_to f (suc n) = up_to f n ++ reached f (suc n)

-- by induction on the path
reached_whole : (f : Code) (n l : ℕ) (c : Context) → Path f n l c → In (reached f n) l c
reached_whole f n l c (Begins h) = begun_whole f l h
reached_whole f n l c (Onward {n = m} {b = b} {t = t} {c = e} {d = d} p s) =
    let one : suc m ≡ m + 1 = omega arith in
    subst (λ k. In (reached f k) l c) one (all_whole f (reached f m) b e l c (reached_whole f m b e p) (onward_whole f b e l c s))

up_to_whole : (f : Code) (n m l : ℕ) (c : Context) → m ≤ n → In (reached f m) l c → In (up_to f n) l c
up_to_whole f zero m l c h g = let none : m ≡ 0 = omega arith in subst (λ k. In (reached f k) l c) none g
up_to_whole f (suc n) m l c h g = elim (cases_lt m (suc n)) [
  | inl less ↦ in_left (up_to f n) (reached f (suc n)) l c (up_to_whole f n m l c (omega arith) g)
  | inr past ↦ (let same : m ≡ suc n = omega arith in in_right (up_to f n) (reached f (suc n)) l c (subst (λ k. In (reached f k) l c) same g))
]

-- ---- where no rule is broken

module _ (is_pointer : ℕ → Bool) (f : Code) (nothing : (rule at : ℕ) → Broken is_pointer f rule at → ⊥) where
  tried_walked : (b : ℕ) (c : Context) (t : ℕ) → Walk f b c → tries f b c t ≡ true → Walk f t (behind (construct f b) b t c)
  tried_walked b c t w h = elim (tells (stops f t)) [
    | inl s ↦ Stopped b t c w h s
    | inr s ↦ Entered b t c w h (entered is_pointer f nothing b t c w h s)
  ]

  role_walked : (b : ℕ) (c : Context) (t : ℕ) (d : Context) → Walk f b c
      → In (role f b c (merge_of (construct f b)) c ++ role f b c (next_of (construct f b)) (next_context (construct f b) b c)) t d → Walk f t d
  role_walked b c t d w h =
      elim (in_either (role f b c (merge_of (construct f b)) c) (role f b c (next_of (construct f b)) (next_context (construct f b) b c)) t d h) [
        | inl g ↦
            (let r = role_sound f b c (merge_of (construct f b)) c t d g in
            subst (λ x. Walk f t x) r.2 (Merged b t c w (walked-runs is_pointer f nothing b c w) r.0 r.1))
        | inr g ↦
            (let r = role_sound f b c (next_of (construct f b)) (next_context (construct f b) b c) t d g in
            subst (λ x. Walk f t x) r.2 (Continued b t c w (walked-runs is_pointer f nothing b c w) r.0 r.1))
      ]

  onward_walked : (b : ℕ) (c : Context) (t : ℕ) (d : Context) → Walk f b c → In (onward f b c) t d → Walk f t d
  onward_walked b c t d w h =
      elim
      (in_either (enters f b c (targets f b))
      (role f b c (merge_of (construct f b)) c ++ role f b c (next_of (construct f b)) (next_context (construct f b) b c)) t d h) [
        | inl g ↦ (let r = enters_sound f b c (targets f b) t d g in subst (λ x. Walk f t x) r.1 (tried_walked b c t w r.0))
        | inr g ↦ role_walked b c t d w g
      ]

  reached_walked : (n l : ℕ) (c : Context) → In (reached f n) l c → Walk f l c
  reached_walked zero l c h = begun_sound f l c h
  reached_walked (suc n) l c h =
      let r = all_sound f (reached f n) l c h in onward_walked r.0 r.1 l c (reached_walked n r.0 r.1 r.2) r.3

  up_to_walked : (n l : ℕ) (c : Context) → In (up_to f n) l c → Walk f l c
  up_to_walked zero l c h = begun_sound f l c h
  up_to_walked (suc n) l c h = elim (in_either (up_to f n) (reached f (suc n)) l c h) [
    | inl g ↦ up_to_walked n l c g
    | inr g ↦ reached_walked (suc n) l c g
  ]

  -- as far as paths reach, which is all
  abbrev table : ℕ → Option Context
  table l = context_in (up_to f (length f)) l

  table_sound : (l : ℕ) (c : Context) → table l ≡ Some c → Walk f l c
  table_sound l c h = up_to_walked (length f) l c (told_in (up_to f (length f)) l c h)

  table_some : (l : ℕ) (c : Context) → Walk f l c → (d : Context) × (table l ≡ Some d)
  table_some l c w =
      let p = path_of_walk f l c w in
      let less : p.0 < length f = short is_pointer f nothing p.0 l c p.1 in
      in_told (up_to f (length f)) l c (up_to_whole f (length f) p.0 l c (omega arith) (reached_whole f p.0 l c p.1))

  table_is : IsWalk f (InPlaces table)
  table_is = record {
    sound = table_sound;
    whole = λ b c w s. let t = table_some b c w in t.1 ∙ ap (λ x. Some x) (one_context f b t.0 c (table_sound b t.0 t.1) w s);
    some = table_some;
  }

  -- the function has a number of nested returns
  pub has-nested : (n : ℕ) × AreNestedReturns f n
  has-nested = (nested_by table f, record { place = table; walk = table_is; same = refl })

-- so have functions together; induction on the functions
pub has-together : (is_pointer : ℕ → Bool) (fs : List Code) → EachUnbroken is_pointer fs → (n : ℕ) × AreNestedTogether fs n
has-together is_pointer [] each = (0, refl)
has-together is_pointer (f ∷ fs) each =
    let here = has-nested is_pointer f (each 0 f refl) in
    let later = has-together is_pointer fs (λ k g at. each (suc k) g at) in
    (here.0 + later.0, (here.0, later.0, here.1, later.1, refl))

-- a module whose functions break no rule on structured control flow has a number of nested returns
pub module-has_nested : (insts : List Instruction) → AreUnbroken insts → (n : ℕ) × AreNestedTogether (functions_of insts) n
module-has_nested insts unbroken = has-together (is_pointer insts) (functions_of insts) (each-unbroken insts unbroken)
