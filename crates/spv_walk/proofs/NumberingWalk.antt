-- The walk through two functions that differ in their labels alone is the same.
use Rattle.std.proofs.Common.{◌≡◌, ◌≢◌, ℕ, true, not, ◌&&◌, ◌||◌, [], ◌∷◌, Option, None, refl, sym, ap₂, ◌∙◌, subst}
use Rattle.spv_blocks.specs.Blocks.{End, Open, Block, Construct, Code, of_block, branches, construct, stops}
use Rattle.spv_walk.specs.Contexts.{Context, InSelection, InArm, InBody, InNext, leaves_loop, leaves_switch, is_back_pair, leaves_inner, is_exit, begins_case, is_fall, in_next, behind, next_context}
use Rattle.spv_walk.specs.Walk.{Top, Begins, Past, Along, Inside, Here, ToMerge, ToNext, Into, Back, Falls, Counted, Enters, end_of, leads, tries, Walk, Starts, Entered, Stopped, Merged, Continued, BackEdge, OneBackEdge}
use Rattle.spv_walk.proofs.NumberingAlike.{IsOneToOne, Turned, Alike, turned, SameEnd, SameBranch, SameBranchIf, SameSwitch, SameReturn, SameUnreachable, SameOpen, SameFound, NotFound, FoundBoth, SameConstruct, NoConstruct, TwoSelections, TwoSwitches, TwoLoops, and_left, and_right, equal_same, found, branches_same, construct_same, first_same, is_role_same, goes_same, is_case_same, stops_same, bare_same, merge_same, next_same, named_by_branch, named_by_merge, named_by_next, named_target, branches_of_goes, branches_of_case}

-- ---- which branches count

-- two labels of the one are different where those of the other are
apart : {R : ℕ → ℕ → Type 0} → IsOneToOne R → (a b c d : ℕ) → R a c → R b d → a ≢ b → c ≢ d
apart {R} one a b c d p q ne e = ne (one.back a b c p (subst (λ z. R b z) (sym e) q))

pub top_same : (R : ℕ → ℕ → Type 0) (f g : Code) → Alike R f g → {h b : ℕ} → Top f h b → {i d : ℕ} → R h i → R b d → Top g i d
top_same R f g s (Begins h c next role) {i} {d} p q =
    Begins i d (next_same R f g s p next q) (sym (is_role_same R f g s p q) ∙ role)
top_same R f g s (Past h b m top goes_on merge role) {i} {d = n} p q =
    let (d, r) = named_by_merge R f g s b m merge in
    Past i d n (top_same R f g s top p r) (sym (stops_same R f g s r) ∙ goes_on) (merge_same R f g s r merge q) (sym (is_role_same R f g s r q) ∙ role)
top_same R f g s (Along h b t top bare leads_to other tops bares) {i} {d = u} p q =
    let (d, r) = named_by_branch R f g s b t (branches_of_goes f b t leads_to) in
    Along i d u (top_same R f g s top p r) (bare_same R f g s r bare) (sym (goes_same R f g s r q) ∙ leads_to) (apart s.one t h u i q p other)
    (λ z ne e.
    let (y, w) = named_by_branch (Turned R) g f (turned s) z u e in
    top_same R f g s (tops y (apart (turned s).one z d y b w r ne) (branches_same R f g s w q ∙ e)) q w)
    (λ z ne e.
    let (y, w) = named_by_branch (Turned R) g f (turned s) z u e in
    bare_same R f g s w (bares y (apart (turned s).one z d y b w r ne) (branches_same R f g s w q ∙ e)))

pub inside_same : (R : ℕ → ℕ → Type 0) (f g : Code) → Alike R f g → {x p : ℕ} → Inside f x p → {y q : ℕ} → R x y → R p q → Inside g y q
inside_same R f g s {x} Here {y} {q} a b = subst (λ z. Inside g y z) (s.one.there x y q a b) Here
inside_same R f g s (ToMerge b m into goes_on merge role) {y} {q = n} p o =
    let (d, r) = named_by_merge R f g s b m merge in
    ToMerge d n (inside_same R f g s into p r) (sym (stops_same R f g s r) ∙ goes_on) (merge_same R f g s r merge o) (sym (is_role_same R f g s r o) ∙ role)
inside_same R f g s (ToNext b c into goes_on next role) {y} {q = n} p o =
    let (d, r) = named_by_next R f g s b c next in
    ToNext d n (inside_same R f g s into p r) (sym (stops_same R f g s r) ∙ goes_on) (next_same R f g s r next o) (sym (is_role_same R f g s r o) ∙ role)
inside_same R f g s (Into b t into goes_on leads_to) {y} {q = u} p o =
    let (d, r) = named_by_branch R f g s b t (branches_of_goes f b t leads_to) in
    Into d u (inside_same R f g s into p r) (sym (stops_same R f g s r) ∙ goes_on) (sym (goes_same R f g s r o) ∙ leads_to)

back_same : (R : ℕ → ℕ → Type 0) (f g : Code) → Alike R f g → {t p u q : ℕ} → R t u → R p q → Back f t p → Back g u q
back_same R f g s a b back = record { top = top_same R f g s back.top a b; bare = bare_same R f g s b back.bare }

falls_same : (R : ℕ → ℕ → Type 0) (f g : Code) → Alike R f g → {t p u q : ℕ} → R t u → R p q → Falls f t p → Falls g u q
falls_same R f g s {t} {p} {u} {q} a b falls =
    let (z, r) = named_by_branch R f g s falls.switch t (branches_of_case f falls.switch t falls.to_case) in
    let (y, w) = named_target R f g s falls.switch falls.from (branches_of_case f falls.switch falls.from falls.from_case) in
    record {
      switch = z;
      from = y;
      other = apart s.one p falls.switch q z b r falls.other;
      to_case = sym (is_case_same R f g s r a) ∙ falls.to_case;
      from_case = sym (is_case_same R f g s r w) ∙ falls.from_case;
      differ = apart s.one falls.from t y u w a falls.differ;
      inside = inside_same R f g s falls.inside w b;
    }

counted_same : (R : ℕ → ℕ → Type 0) (f g : Code) → Alike R f g → {t p u q : ℕ} → R t u → R p q → Counted f t p → Counted g u q
counted_same R f g s a b counted = record {
  branch = sym (branches_same R f g s b a) ∙ counted.branch;
  no_back = λ back. counted.no_back (back_same (Turned R) g f (turned s) a b back);
  no_fall = λ falls. counted.no_fall (falls_same (Turned R) g f (turned s) a b falls);
}

pub enters_same : (R : ℕ → ℕ → Type 0) (f g : Code) → Alike R f g → {b t d u : ℕ} → R b d → R t u → Enters f b t → Enters g d u
enters_same R f g s {b} {t} {d} {u} p q enters = record {
  free = sym (goes_same R f g s p q) ∙ enters.free;
  counted = counted_same R f g s q p enters.counted;
  one = λ z counted.
      let (y, w) = named_by_branch (Turned R) g f (turned s) z u counted.branch in
      s.one.there b z d (subst (λ v. R v z) (enters.one y (counted_same (Turned R) g f (turned s) q w counted)) w) p;
}

-- ---- contexts

pub data SameContext (R : ℕ → ℕ → Type 0) : Context → Context → Type 0 where
  Outside : SameContext R [] []
  SameSelection : {m n : ℕ} {c d : Context} → R m n → SameContext R c d → SameContext R (InSelection m ∷ c) (InSelection n ∷ d)
  SameArm : {h i m n a b : ℕ} {c d : Context} → R h i → R m n → R a b → SameContext R c d → SameContext R (InArm h m a ∷ c) (InArm i n b ∷ d)
  SameBody : {h i m n a b : ℕ} {c d : Context} → R h i → R m n → R a b → SameContext R c d → SameContext R (InBody h m a ∷ c) (InBody i n b ∷ d)
  SameNext : {h i m n : ℕ} {c d : Context} → R h i → R m n → SameContext R c d → SameContext R (InNext h m ∷ c) (InNext i n ∷ d)

pub in_next_same : (R : ℕ → ℕ → Type 0) {c d : Context} → SameContext R c d → in_next c ≡ in_next d
in_next_same R Outside = refl
in_next_same R (SameSelection m c) = in_next_same R c
in_next_same R (SameArm h m a c) = in_next_same R c
in_next_same R (SameBody h m n c) = in_next_same R c
in_next_same R (SameNext h m c) = refl

module _ (R : ℕ → ℕ → Type 0) (one : IsOneToOne R) where
  leaves_loop_same : {t u : ℕ} → R t u → {c d : Context} → SameContext R c d → leaves_loop c t ≡ leaves_loop d u
  leaves_loop_same p Outside = refl
  leaves_loop_same p (SameSelection m c) = leaves_loop_same p c
  leaves_loop_same p (SameArm h m a c) = leaves_loop_same p c
  leaves_loop_same p (SameBody h m n c) = ap₂ (λ s t. s || t) (equal_same R one p m) (equal_same R one p n)
  leaves_loop_same p (SameNext h m c) = refl

  leaves_switch_same : {t u : ℕ} → R t u → {c d : Context} → SameContext R c d → leaves_switch c t ≡ leaves_switch d u
  leaves_switch_same p Outside = refl
  leaves_switch_same p (SameSelection m c) = leaves_switch_same p c
  leaves_switch_same p (SameArm h m a c) = equal_same R one p m
  leaves_switch_same p (SameBody h m n c) = refl
  leaves_switch_same p (SameNext h m c) = refl

  back_pair_same : {h i m n : ℕ} → R h i → R m n → {e d : End} → SameEnd R e d → is_back_pair h m e ≡ is_back_pair i n d
  back_pair_same p q (SameBranch a) = refl
  back_pair_same p q (SameBranchIf a b) =
      ap₂ (λ s t. s || t) (ap₂ (λ s t. s && t) (equal_same R one a p) (equal_same R one b q)) (ap₂ (λ s t. s && t) (equal_same R one a q) (equal_same R one b p))
  back_pair_same p q (SameSwitch a ps) = refl
  back_pair_same p q SameReturn = refl
  back_pair_same p q SameUnreachable = refl
  back_pair_same p q SameOpen = refl

  leaves_inner_same : {t u : ℕ} → R t u → {e d : End} → SameEnd R e d → {b c : Context} → SameContext R b c → leaves_inner b e t ≡ leaves_inner c d u
  leaves_inner_same p ends Outside = refl
  leaves_inner_same p ends (SameSelection m c) = equal_same R one p m
  leaves_inner_same p ends (SameArm h m a c) = equal_same R one p m
  leaves_inner_same p ends (SameBody h m n c) = refl
  leaves_inner_same p ends (SameNext h m c) = ap₂ (λ s t. s || t) (equal_same R one p h) (ap₂ (λ s t. s && t) (equal_same R one p m) (back_pair_same h m ends))

  pub is_exit_same : {t u : ℕ} → R t u → {e d : End} → SameEnd R e d → {b c : Context} → SameContext R b c → is_exit b e t ≡ is_exit c d u
  is_exit_same p ends c = ap₂ (λ s t. s || t) (ap₂ (λ s t. s || t) (leaves_inner_same p ends c) (leaves_switch_same p c)) (leaves_loop_same p c)

module _ (R : ℕ → ℕ → Type 0) (f g : Code) (s : Alike R f g) where
  begins_case_same : {h i m n t u : ℕ} → R h i → R m n → {c d : Context} → SameContext R c d → R t u → begins_case f h m c t ≡ begins_case g i n d u
  begins_case_same h m c p =
      ap₂ (λ s t. s && not t) (branches_same R f g s h p) (ap₂ (λ s t. s || t) (equal_same R s.one p m) (leaves_loop_same R s.one p c))

  pub is_fall_same : {t u : ℕ} → R t u → {c d : Context} → SameContext R c d → is_fall f c t ≡ is_fall g d u
  is_fall_same p Outside = refl
  is_fall_same p (SameSelection m c) = is_fall_same p c
  is_fall_same p (SameArm h m a c) =
      ap₂ (λ s t. s || t) (ap₂ (λ s t. s && not t) (begins_case_same h m c p) (equal_same R s.one p a)) (is_fall_same p c)
  is_fall_same p (SameBody h m n c) = is_fall_same p c
  is_fall_same p (SameNext h m c) = is_fall_same p c

  behind_by : {b d t u : ℕ} → R b d → R t u → {x y : Option Construct} → SameConstruct R x y → {c e : Context} → SameContext R c e → SameContext R (behind x b t c) (behind y d u e)
  behind_by p q NoConstruct c = c
  behind_by p q (TwoSelections m) c = SameSelection m c
  behind_by p q (TwoSwitches m) c = SameArm p m q c
  behind_by p q (TwoLoops m n) c = SameBody p m n c

  pub behind_same : {b d t u : ℕ} → R b d → R t u → {c e : Context} → SameContext R c e → SameContext R (behind (construct f b) b t c) (behind (construct g d) d u e)
  behind_same p q c = behind_by p q (construct_same R f g s p) c

  next_by : {b d : ℕ} → R b d → {x y : Option Construct} → SameConstruct R x y → {c e : Context} → SameContext R c e → SameContext R (next_context x b c) (next_context y d e)
  next_by p NoConstruct c = c
  next_by p (TwoSelections m) c = c
  next_by p (TwoSwitches m) c = c
  next_by p (TwoLoops m n) c = SameNext p m c

  next_context_same : {b d : ℕ} → R b d → {c e : Context} → SameContext R c e → SameContext R (next_context (construct f b) b c) (next_context (construct g d) d e)
  next_context_same p c = next_by p (construct_same R f g s p) c

  end_by : {x y : Option Block} → SameFound R x y → SameEnd R (of_block (λ b. b.end) Open x) (of_block (λ b. b.end) Open y)
  end_by NotFound = SameOpen
  end_by (FoundBoth b) = b.end

  pub end_same : {l k : ℕ} → R l k → SameEnd R (end_of f l) (end_of g k)
  end_same p = end_by (found R f g s p)

  pub leads_same : {b d t u : ℕ} → R b d → R t u → {c e : Context} → SameContext R c e → leads f b c t ≡ leads g d e u
  leads_same p q c =
      ap₂ (λ s t. s && not t) (ap₂ (λ s t. not s && t) (stops_same R f g s p) (branches_same R f g s p q)) (is_exit_same R s.one q (end_same p) (behind_same p q c))

  pub tries_same : {b d t u : ℕ} → R b d → R t u → {c e : Context} → SameContext R c e → tries f b c t ≡ tries g d e u
  tries_same p q c = ap₂ (λ s t. s && not t) (leads_same p q c) (is_fall_same q c)

pub branches_of_leads : (f : Code) (b t : ℕ) (c : Context) → leads f b c t ≡ true → branches f b t ≡ true
branches_of_leads f b t c e = and_right (not (stops f b)) (branches f b t) (and_left _ (not (is_exit (behind (construct f b) b t c) (end_of f b) t)) e)

pub branches_of_tries : (f : Code) (b t : ℕ) (c : Context) → tries f b c t ≡ true → branches f b t ≡ true
branches_of_tries f b t c e = branches_of_leads f b t c (and_left (leads f b c t) (not (is_fall f c t)) e)

-- ---- the walk

-- what the walk reaches in a function, in a context that is the same
pub record Reached (R : ℕ → ℕ → Type 0) (g : Code) (k : ℕ) (c : Context) : Type 0 where
  pub context : Context
  pub same : SameContext R c context
  pub walked : Walk g k context

pub walk_same : (R : ℕ → ℕ → Type 0) (f g : Code) → Alike R f g → {l : ℕ} {c : Context} → Walk f l c → {k : ℕ} → R l k → Reached R g k c
walk_same R f g s (Starts l first) {k} p = record { context = []; same = Outside; walked = Starts k (sym (first_same R f g s p) ∙ first) }
walk_same R f g s (Entered b t c walk tried enters) {k = u} q =
    let (d, p) = named_by_branch R f g s b t (branches_of_goes f b t enters.free) in
    let before = walk_same R f g s walk p in
    record {
      context = behind (construct g d) d u before.context;
      same = behind_same R f g s p q before.same;
      walked = Entered d u before.context before.walked (sym (tries_same R f g s p q before.same) ∙ tried) (enters_same R f g s p q enters);
    }
walk_same R f g s (Stopped b t c walk tried ends) {k = u} q =
    let (d, p) = named_by_branch R f g s b t (branches_of_tries f b t c tried) in
    let before = walk_same R f g s walk p in
    record {
      context = behind (construct g d) d u before.context;
      same = behind_same R f g s p q before.same;
      walked = Stopped d u before.context before.walked (sym (tries_same R f g s p q before.same) ∙ tried) (sym (stops_same R f g s q) ∙ ends);
    }
walk_same R f g s (Merged b m c walk goes_on merge role) {k = n} q =
    let (d, p) = named_by_merge R f g s b m merge in
    let before = walk_same R f g s walk p in
    record {
      context = before.context;
      same = before.same;
      walked = Merged d n before.context before.walked (sym (stops_same R f g s p) ∙ goes_on) (merge_same R f g s p merge q) (sym (is_role_same R f g s p q) ∙ role);
    }
walk_same R f g s (Continued b m c walk goes_on next role) {k = n} q =
    let (d, p) = named_by_next R f g s b m next in
    let before = walk_same R f g s walk p in
    record {
      context = next_context (construct g d) d before.context;
      same = next_context_same R f g s p before.same;
      walked = Continued d n before.context before.walked (sym (stops_same R f g s p) ∙ goes_on) (next_same R f g s p next q) (sym (is_role_same R f g s p q) ∙ role);
    }

-- ---- back edges

ends_with : (R : ℕ → ℕ → Type 0) (g : Code) → IsOneToOne R → (h i m d : ℕ) (c e : Context) → SameContext R (InNext h m ∷ c) e → R h i → Walk g d e → construct g d ≡ None → branches g d i ≡ true → BackEdge g i d
ends_with R g one h i m d c e (SameNext {i = j} {n = n} {d = e2} p q same) r walk bare branch =
    let same_header : j ≡ i = one.there h j i p r in
    record { context = e2; merge = n; walked = subst (λ z. Walk g d (InNext z n ∷ e2)) same_header walk; bare = bare; branch = branch }

pub back_edge_same : (R : ℕ → ℕ → Type 0) (f g : Code) → Alike R f g → {h b i d : ℕ} → R h i → R b d → BackEdge f h b → BackEdge g i d
back_edge_same R f g s {h} {b} {i} {d} p q back =
    let reached = walk_same R f g s back.walked q in
    ends_with R g s.one h i back.merge d back.context reached.context reached.same p reached.walked (bare_same R f g s q back.bare) (sym (branches_same R f g s q p) ∙ back.branch)

pub one_back_edge_same : (R : ℕ → ℕ → Type 0) (f g : Code) → Alike R f g → {h i : ℕ} → R h i → OneBackEdge f h → OneBackEdge g i
one_back_edge_same R f g s {h} {i} p one =
    let (d, q) = named_by_branch R f g s one.block h one.ends.branch in
    record {
      block = d;
      ends = back_edge_same R f g s p q one.ends;
      one = λ z back.
          let (y, w) = named_by_branch (Turned R) g f (turned s) z i back.branch in
          s.one.there one.block z d (subst (λ v. R v z) (one.one y (back_edge_same (Turned R) g f (turned s) p w back)) w) q;
    }
