-- In a function in which no rule on structured control flow is broken, the labels that the instructions of its blocks name are labels of its blocks.
use Rattle.std.proofs.Common.{◌≡◌, inl, inr, ℕ, Bool, true, false, cond, not, ◌==◌, ◌&&◌, ◌||◌, List, [], ◌∷◌, ◌++◌, drop, map, Option, Some, None, refl, sym, ap, subst, ◌∙◌}
use Rattle.std.specs.List.{AllByRecursion, filter, list_all}
use Rattle.spv_opcodes.specs.declared.op.TheConstants as op
use Rattle.spv_module.specs.Code.{is_line}
use Rattle.spv_module.specs.First.{here, unless}
use Rattle.spv_module.specs.Instruction.{Instruction, opcode}
use Rattle.spv_module.specs.Layout.{is_terminator}
use Rattle.spv_blocks.specs.Blocks.{Branch, BranchIf, Code, Construct, ASelection, ASwitch, ALoop, End, Ins, Phi, Selection, Loop, Other, Open, Return, Switch, Unreachable, block, branches, construct, end_targets, goes, has, is_first, is_label, is_role, is_some_block, merge_of, names, next_of, of_block, seconds, targets, times}
use Rattle.spv_blocks.specs.Blocks as blocks
use Rattle.spv_blocks.specs.Cutting.{before_close, blocks_of, closes, ending, ins, is_function_end, is_label_mark, pairs, word}
use Rattle.spv_blocks.specs.Cutting as cutting
use Rattle.spv_walk.specs.Contexts.{Context, InArm, InBody, InNext, InSelection, Level, behind, is_back_pair, is_exit, leaves_inner, leaves_loop, leaves_switch, next_context}
use Rattle.spv_walk.specs.Faults.{is_last, loop_fits, merge_faults, selection_fits, suits_loop, suits_selection}
use Rattle.spv_walk.specs.Phis.{late_phis, names_each_once, phi_faults, phi_fits, predecessors}
use Rattle.spv_walk.specs.Walk.{Continued, Entered, Merged, Starts, Stopped, Walk}
use Rattle.spv_walk.proofs.Unique.{both_left, both_right, either_holds, equal_true, left_holds, right_holds, role_label, true_equal, truth_apart}
use Rattle.spv_normal.specs.Lines.{block_insts}
use Rattle.spv_spelling.specs.Clean.{IsClean, no_pointers}
use Rattle.spv_spelling.proofs.Settled.{settled}
use Rattle.spv_normal_trees.proofs.Arranging.{labelled, walked_label}
use Rattle.spv_normal_trees.proofs.Texts.{NoneCloses, closed_block, cut_here, terminates_closes}
use Rattle.spv_norm_declarations.proofs.Uses.{labels, labels_by}

all_these : {A : Type 0} (q : A → Bool) (xs : List A) → list_all q xs ≡ true → AllByRecursion (λ x. q x ≡ true) xs
all_these q [] h = tt
all_these q (x ∷ xs) h = (both_left (q x) (list_all q xs) h, all_these q xs (both_right (q x) (list_all q xs) h))

all_to : {A : Type 0} (P Q : A → Type 0) (xs : List A) → ((x : A) → P x → Q x) → AllByRecursion P xs → AllByRecursion Q xs
all_to P Q [] to h = tt
all_to P Q (x ∷ xs) to h = (to x h.0, all_to P Q xs to h.1)

all_append : {A : Type 0} (P : A → Type 0) (xs : List A) (y : A) → AllByRecursion P xs → P y → AllByRecursion P (xs ++ y ∷ [])
all_append P [] y h g = (g, tt)
all_append P (x ∷ xs) y h g = (h.0, all_append P xs y h.1 g)

no_rule : (b : Bool) (rule : ℕ) → unless b rule ≡ [] → b ≡ true
no_rule true rule h = refl
no_rule false rule h = absurd (cc h)

nil_front : {A : Type 0} (xs ys : List A) → xs ++ ys ≡ [] → xs ≡ []
nil_front [] ys h = refl
nil_front (x ∷ xs) ys h = absurd (cc h)

nil_back : {A : Type 0} (xs ys : List A) → xs ++ ys ≡ [] → ys ≡ []
nil_back [] ys h = h
nil_back (x ∷ xs) ys h = absurd (cc h)

nil_here : (at : ℕ) (rules : List ℕ) → here at rules ≡ [] → rules ≡ []
nil_here at [] h = refl
nil_here at (r ∷ rs) h = absurd (cc h)

module _ (f : Code) where
  abbrev IsLabel : ℕ → Type 0
  IsLabel t = is_label f t ≡ true

  -- ---- predecessors

  has_kept : (test : ℕ → Bool) (xs : List ℕ) (p : ℕ) → has (filter test xs) p ≡ true → has xs p ≡ true
  has_kept test [] p h = h
  has_kept test (x ∷ xs) p h = by (test x) (x == p) refl h (has_kept test xs p) where
    by : (b c : Bool) → (x == p) ≡ c → has (cond b (x ∷ filter test xs) (filter test xs)) p ≡ true → (has (filter test xs) p ≡ true → has xs p ≡ true)
        → ((x == p) || has xs p) ≡ true
    by b true e g more = ap (λ z. z || has xs p) e
    by true false e g more = ap (λ z. z || has xs p) e ∙ more (sym (ap (λ z. z || has (filter test xs) p) e) ∙ g)
    by false false e g more = ap (λ z. z || has xs p) e ∙ more g

  has_label : (bs : Code) (p : ℕ) → has (map (λ b. b.label) bs) p ≡ true → is_label bs p ≡ true
  has_label [] p h = absurd (cc h)
  has_label (b ∷ bs) p h = by (b.label == p) refl h (has_label bs p) where
    by : (c : Bool) → (b.label == p) ≡ c → ((b.label == p) || has (map (λ b. b.label) bs) p) ≡ true →
        (has (map (λ b. b.label) bs) p ≡ true → is_label bs p ≡ true)
        → is_some_block (cond (b.label == p) (Some b) (block bs p)) ≡ true
    by true e g more = ap (λ z. is_some_block (cond z (Some b) (block bs p))) e
    by false e g more =
        ap (λ z. is_some_block (cond z (Some b) (block bs p))) e ∙ more (sym (ap (λ z. z || has (map (λ b. b.label) bs) p) e) ∙ g)

  -- ---- at the instructions of a block before its terminator

  abbrev phi_labels : Ins → List ℕ
  phi_labels (Phi at t r ps) = seconds ps
  phi_labels (Selection at m) = []
  phi_labels (Loop at m n) = []
  phi_labels (Other at) = []

  abbrev PhisNameLabels : List Ins → Type 0
  PhisNameLabels is = AllByRecursion (λ i. AllByRecursion IsLabel (phi_labels i)) is

  late_labels : (is : List Ins) → late_phis is ≡ [] → PhisNameLabels is
  late_labels [] h = tt
  late_labels (Phi at t r ps ∷ is) h = absurd (cc h)
  late_labels (Selection at m ∷ is) h = (tt, late_labels is h)
  late_labels (Loop at m n ∷ is) h = (tt, late_labels is h)
  late_labels (Other at ∷ is) h = (tt, late_labels is h)

  parents_labels : (l t : ℕ) (ps : List (ℕ × ℕ)) → phi_fits no_pointers f l t ps ≡ true → AllByRecursion IsLabel (seconds ps)
  parents_labels l t ps h =
      let once = both_right (not (is_first f l) && not (no_pointers t)) (names_each_once (predecessors f l) (seconds ps)) h in
      all_to (λ p. has (predecessors f l) p ≡ true) IsLabel (seconds ps)
      (λ p g. has_label f p (has_kept (λ q. branches f q l) (map (λ b. b.label) f) p g))
      (all_these (λ p. has (predecessors f l) p) (seconds ps)
      (both_right (list_all (λ p. times (seconds ps) p == 1) (predecessors f l)) (list_all (λ p. has (predecessors f l) p) (seconds ps)) once))

  phis_labels : (l : ℕ) (is : List Ins) → phi_faults no_pointers f l is ≡ [] → PhisNameLabels is
  phis_labels l [] h = tt
  phis_labels l (Phi at t r ps ∷ is) h =
      let fits : Bool = phi_fits no_pointers f l t ps in (
        parents_labels l t ps (no_rule fits 406 (nil_here at (unless fits 406) (nil_front (here at (unless fits 406)) (phi_faults no_pointers f l is) h))),
        phis_labels l is (nil_back (here at (unless fits 406)) (phi_faults no_pointers f l is) h),
      )
  phis_labels l (Selection at m ∷ is) h = (tt, late_labels is h)
  phis_labels l (Loop at m n ∷ is) h = (tt, late_labels is h)
  phis_labels l (Other at ∷ is) h = (tt, late_labels is h)

  abbrev MergesNameLabels : List Ins → Type 0
  MergesNameLabels is = AllByRecursion (λ i. AllByRecursion IsLabel (blocks.roles i)) is

  next_label : (l n : ℕ) → is_label f l ≡ true → cond (n == l) (names f n == 1) (is_role f l n) ≡ true → is_label f n ≡ true
  next_label l n label h = by (n == l) refl h where
    by : (b : Bool) → (n == l) ≡ b → cond b (names f n == 1) (is_role f l n) ≡ true → is_label f n ≡ true
    by true e g = subst (λ z. is_label f z ≡ true) (sym (equal_true n l e)) label
    by false e g = role_label f l n g

  merges_labels : (l : ℕ) (e : End) (is : List Ins) → is_label f l ≡ true → merge_faults f l e is ≡ [] → MergesNameLabels is
  merges_labels l e [] label h = tt
  merges_labels l e (Phi at t r ps ∷ is) label h = (tt, merges_labels l e is label h)
  merges_labels l e (Other at ∷ is) label h = (tt, merges_labels l e is label h)
  merges_labels l e (Selection at m ∷ is) label h =
      let fits : Bool = selection_fits f l e is m in
      let passes = no_rule fits 403 (nil_here at (unless fits 403) (nil_front (here at (unless fits 403)) (merge_faults f l e is) h)) in (
        (role_label f l m (both_right (is_last is && suits_selection e) (is_role f l m) passes), tt),
        merges_labels l e is label (nil_back (here at (unless fits 403)) (merge_faults f l e is) h),
      )
  merges_labels l e (Loop at m n ∷ is) label h =
      let fits : Bool = loop_fits f l e is m n in
      let rules = unless fits 403 ++ unless (not (n == l)) 405 in
      let passes = no_rule fits 403 (nil_front (unless fits 403) (unless (not (n == l)) 405)
      (nil_here at rules (nil_front (here at rules) (merge_faults f l e is) h))) in
      let front : Bool = is_last is && suits_loop e && not (is_first f l) in
      let last : Bool = cond (n == l) (names f n == 1) (is_role f l n) in (
        (
          role_label f l m (both_right front (is_role f l m) (both_left (front && is_role f l m) last passes)),
          (next_label l n label (both_right (front && is_role f l m) last passes), tt),
        ),
        merges_labels l e is label (nil_back (here at rules) (merge_faults f l e is) h),
      )

  -- ---- from the instructions themselves

  abbrev among : List Instruction → List Ins
  among is = map ins (filter (λ j. not (is_line j)) is)

  abbrev NamesLabels : Instruction → Type 0
  NamesLabels i = AllByRecursion IsLabel (labels i)

  no_targets : (i : Instruction) → is_terminator i ≡ false → end_targets (ending i) ≡ []
  no_targets i h =
      by (opcode i == op.BRANCH) (opcode i == op.BRANCH_CONDITIONAL) (opcode i == op.SWITCH) (opcode i == op.RETURN) (opcode i == op.RETURN_VALUE)
      (opcode i == op.UNREACHABLE) h
    where
      by : (a b c d e u : Bool) → (a || b || c || d || e || u) ≡ false
          → end_targets (cond a (Branch (word i 1)) (cond b (BranchIf (word i 2) (word i 3)) (cond c (Switch (word i 2) (pairs (drop 3 i.words)))
          (cond (d || e) Return (cond u Unreachable Open))))) ≡ []
      by true b c d e u h = absurd (cc h)
      by false true c d e u h = absurd (cc h)
      by false false true d e u h = absurd (cc h)
      by false false false true e u h = refl
      by false false false false true u h = refl
      by false false false false false true h = refl
      by false false false false false false h = refl

  named_by_ins : (i : Instruction) → AllByRecursion IsLabel (phi_labels (ins i)) → AllByRecursion IsLabel (blocks.roles (ins i))
      → AllByRecursion IsLabel (end_targets (ending i)) → NamesLabels i
  named_by_ins i = by (opcode i == op.PHI) (opcode i == op.SELECTION_MERGE) (opcode i == op.LOOP_MERGE) where
    by : (a b c : Bool)
        → AllByRecursion IsLabel (phi_labels (cond a (Phi i.offset (word i 1) (word i 2) (pairs (drop 3 i.words)))
        (cond b (Selection i.offset (word i 1)) (cond c (Loop i.offset (word i 1) (word i 2)) (Other i.offset)))))
        → AllByRecursion IsLabel (blocks.roles (cond a (Phi i.offset (word i 1) (word i 2) (pairs (drop 3 i.words)))
        (cond b (Selection i.offset (word i 1)) (cond c (Loop i.offset (word i 1) (word i 2)) (Other i.offset)))))
        → AllByRecursion IsLabel (end_targets (ending i))
        → AllByRecursion IsLabel (cond a (seconds (pairs (drop 3 i.words))) (cond b (word i 1 ∷ [])
        (cond c (word i 1 ∷ word i 2 ∷ []) (end_targets (ending i)))))
    by true b c p m e = p
    by false true c p m e = m
    by false false true p m e = m
    by false false false p m e = e

  line_names_none : (i : Instruction) → is_line i ≡ true → labels i ≡ []
  line_names_none i h = by (opcode i == op.LINE) refl where
    by : (b : Bool) → (opcode i == op.LINE) ≡ b → labels i ≡ []
    by true e = ap (λ o. labels_by o i.words) (equal_true (opcode i) op.LINE e)
    by false e = ap (λ o. labels_by o i.words) (equal_true (opcode i) op.NO_LINE (sym (ap (λ z. z || (opcode i == op.NO_LINE)) e) ∙ h))

  -- by induction on the instructions
  inner_labels : (is : List Instruction) → NoneCloses is → PhisNameLabels (among is) → MergesNameLabels (among is) → AllByRecursion NamesLabels is
  inner_labels [] none p m = tt
  inner_labels (i ∷ is) none p m = by (is_line i) refl p m (inner_labels is none.1) where
    open_end : is_terminator i ≡ false
    open_end = terminates_closes (is_terminator i) (is_label_mark i) (is_function_end i) none.0

    by : (b : Bool) → is_line i ≡ b → PhisNameLabels (map ins (cond (not b) (i ∷ filter (λ j. not (is_line j)) is) (filter (λ j. not (is_line j)) is)))
        → MergesNameLabels (map ins (cond (not b) (i ∷ filter (λ j. not (is_line j)) is) (filter (λ j. not (is_line j)) is)))
        → (PhisNameLabels (among is) → MergesNameLabels (among is) → AllByRecursion NamesLabels is) → AllByRecursion NamesLabels (i ∷ is)
    by true e p m more = (subst (AllByRecursion IsLabel) (sym (line_names_none i e)) tt, more p m)
    by false e p m more = (named_by_ins i p.0 m.0 (subst (AllByRecursion IsLabel) (sym (no_targets i open_end)) tt), more p.1 m.1)

  -- ---- the contexts of walked blocks

  abbrev LevelHas : Level → Type 0
  LevelHas (InSelection m) = IsLabel m
  LevelHas (InArm h m a) = IsLabel m
  LevelHas (InBody h m n) = IsLabel m × IsLabel n
  LevelHas (InNext h m) = IsLabel h × IsLabel m

  abbrev HasLabels : Context → Type 0
  HasLabels c = AllByRecursion LevelHas c

  same_label : (t m : ℕ) → (t == m) ≡ true → IsLabel m → IsLabel t
  same_label t m e h = subst IsLabel (sym (equal_true t m e)) h

  inner_exit : (c : Context) (e : End) (t : ℕ) → HasLabels c → leaves_inner c e t ≡ true → IsLabel t
  inner_exit [] e t h g = absurd (cc g)
  inner_exit (InSelection m ∷ c) e t h g = same_label t m g h.0
  inner_exit (InArm k m a ∷ c) e t h g = same_label t m g h.0
  inner_exit (InBody k m n ∷ c) e t h g = absurd (cc g)
  inner_exit (InNext k m ∷ c) e t h g = elim (either_holds (t == k) (t == m && is_back_pair k m e) g) [
    | inl a ↦ same_label t k a h.0.0
    | inr b ↦ same_label t m (both_left (t == m) (is_back_pair k m e) b) h.0.1
  ]

  switch_exit : (c : Context) (t : ℕ) → HasLabels c → leaves_switch c t ≡ true → IsLabel t
  switch_exit [] t h g = absurd (cc g)
  switch_exit (InSelection m ∷ c) t h g = switch_exit c t h.1 g
  switch_exit (InArm k m a ∷ c) t h g = same_label t m g h.0
  switch_exit (InBody k m n ∷ c) t h g = absurd (cc g)
  switch_exit (InNext k m ∷ c) t h g = absurd (cc g)

  loop_exit : (c : Context) (t : ℕ) → HasLabels c → leaves_loop c t ≡ true → IsLabel t
  loop_exit [] t h g = absurd (cc g)
  loop_exit (InSelection m ∷ c) t h g = loop_exit c t h.1 g
  loop_exit (InArm k m a ∷ c) t h g = loop_exit c t h.1 g
  loop_exit (InBody k m n ∷ c) t h g = elim (either_holds (t == m) (t == n) g) [
    | inl a ↦ same_label t m a h.0.0
    | inr b ↦ same_label t n b h.0.1
  ]
  loop_exit (InNext k m ∷ c) t h g = absurd (cc g)

  exit_label : (c : Context) (e : End) (t : ℕ) → HasLabels c → is_exit c e t ≡ true → IsLabel t
  exit_label c e t h g = elim (either_holds (leaves_inner c e t || leaves_switch c t) (leaves_loop c t) g) [
    | inl a ↦ elim (either_holds (leaves_inner c e t) (leaves_switch c t) a) [
      | inl i ↦ inner_exit c e t h i
      | inr s ↦ switch_exit c t h s
    ]
    | inr l ↦ loop_exit c t h l
  ]

  behind_has : (k : Option Construct) (b t : ℕ) (c : Context) → ((m : ℕ) → merge_of k ≡ Some m → IsLabel m) → ((n : ℕ) → next_of k ≡ Some n → IsLabel n)
      → HasLabels c → HasLabels (behind k b t c)
  behind_has None b t c m n h = h
  behind_has (Some (ASelection x)) b t c m n h = (m x refl, h)
  behind_has (Some (ASwitch x)) b t c m n h = (m x refl, h)
  behind_has (Some (ALoop x y)) b t c m n h = ((m x refl, n y refl), h)

  next_has : (k : Option Construct) (b : ℕ) (c : Context) → IsLabel b → ((m : ℕ) → merge_of k ≡ Some m → IsLabel m) → HasLabels c → HasLabels
      (next_context k b c)
  next_has None b c l m h = h
  next_has (Some (ASelection x)) b c l m h = h
  next_has (Some (ASwitch x)) b c l m h = h
  next_has (Some (ALoop x y)) b c l m h = ((l, m x refl), h)

  module _ (clean : IsClean no_pointers f) where
    -- a walked block
    merge_is_label : (l : ℕ) (c : Context) → Walk f l c → (m : ℕ) → merge_of (construct f l) ≡ Some m → IsLabel m
    merge_is_label l c w m e =
        let b = labelled f l (walked_label no_pointers f clean l c w) in
        role_label f l m ((settled no_pointers f clean l c b.0 w b.1).merge m e)

    next_is_label : (l : ℕ) (c : Context) → Walk f l c → (n : ℕ) → next_of (construct f l) ≡ Some n → IsLabel n
    next_is_label l c w n e =
        let b = labelled f l (walked_label no_pointers f clean l c w) in
        role_label f l n ((settled no_pointers f clean l c b.0 w b.1).next n e)

    -- by induction on the walk
    context_has : (l : ℕ) (c : Context) → Walk f l c → HasLabels c
    context_has l c (Starts k h) = tt
    context_has l c (Entered b t d w x y) =
        behind_has (construct f b) b l d (merge_is_label b d w) (next_is_label b d w) (context_has b d w)
    context_has l c (Stopped b t d w x y) =
        behind_has (construct f b) b l d (merge_is_label b d w) (next_is_label b d w) (context_has b d w)
    context_has l c (Merged b m d w x y z) = context_has b c w
    context_has l c (Continued b n d w x y z) =
        next_has (construct f b) b d (walked_label no_pointers f clean b d w) (merge_is_label b d w) (context_has b d w)

    goes_label : (b t : ℕ) → goes f b t ≡ true → IsLabel t
    goes_label b t g =
        both_right (branches f b t) (is_label f t)
        (both_left (branches f b t && is_label f t) (not (is_first f t)) (both_left (branches f b t && is_label f t && not (is_first f t))
        (names f t == 0) g))

    target_label : (l : ℕ) → IsLabel l → (t : ℕ) → branches f l t ≡ true → IsLabel t
    target_label l label t branch =
        let b = labelled f l label in
        let w = clean.walked l b.0 b.1 in
        let s = settled no_pointers f clean l w.0 b.0 w.1 b.1 in
        elim (s.leads t branch) [
          | inl exit ↦ exit_label (behind (construct f l) l t w.0) b.0.end t
              (behind_has (construct f l) l t w.0 (merge_is_label l w.0 w.1) (next_is_label l w.0 w.1) (context_has l w.0 w.1)) exit
          | inr enters ↦ goes_label l t enters.enters.free
        ]

-- a terminator names its targets alone
terminator_labels : (i : Instruction) → is_terminator i ≡ true → labels i ≡ end_targets (ending i)
terminator_labels i h =
    by (opcode i == op.PHI) (opcode i == op.SELECTION_MERGE) (opcode i == op.LOOP_MERGE) (apart op.PHI refl) (apart op.SELECTION_MERGE refl)
    (apart op.LOOP_MERGE refl)
  where
    terminates : ℕ → Bool
    terminates o = o == op.BRANCH || o == op.BRANCH_CONDITIONAL || o == op.SWITCH || o == op.RETURN || o == op.RETURN_VALUE || o == op.UNREACHABLE

    apart : (k : ℕ) → terminates k ≡ false → (opcode i == k) ≡ false
    apart k none = split (opcode i == k) refl where
      split : (b : Bool) → (opcode i == k) ≡ b → b ≡ false
      split true e = absurd (truth_apart (terminates (opcode i)) h (ap terminates (equal_true (opcode i) k e) ∙ none))
      split false e = refl

    by : (a b c : Bool) → a ≡ false → b ≡ false → c ≡ false
        → cond a (seconds (pairs (drop 3 i.words))) (cond b (word i 1 ∷ []) (cond c (word i 1 ∷ word i 2 ∷ []) (end_targets (ending i)))) ≡ end_targets
        (ending i)
    by false false false e f g = refl
    by true b c e f g = absurd (cc e)
    by false true c e f g = absurd (cc f)
    by false false true e f g = absurd (cc g)

all_members : (R : ℕ → Type 0) (xs : List ℕ) → ((t : ℕ) → has xs t ≡ true → R t) → AllByRecursion R xs
all_members R [] h = tt
all_members R (x ∷ xs) h = (h x (left_holds (x == x) (has xs x) (true_equal x x refl)), all_members R xs (λ t g. h t (right_holds (x == t) (has xs t) g)))

-- the instructions of a block
pub block_labels : (insts : List Instruction) → IsClean no_pointers (blocks_of insts) → (l : ℕ) → is_label (blocks_of insts) l ≡ true
    → AllByRecursion (λ i. AllByRecursion (λ t. is_label (blocks_of insts) t ≡ true) (labels i)) (block_insts insts l)
block_labels insts clean l label =
    let f : Code = blocks_of insts in
    let at = labelled f l label in
    let w = clean.walked l at.0 at.1 in
    let s = settled no_pointers f clean l w.0 at.0 w.1 at.1 in
    let closed = closed_block insts l at.0 at.1 s.ends in
    let cut = cut_here insts l at.0 at.1 s.ends in
    let body : at.0.body ≡ among f closed.inner = cut.body ∙ ap (among f) closed.before in
    let ended : at.0.end ≡ ending closed.last = cut.end ∙ ap cutting.end_of closed.found in
    let inner =
    inner_labels f closed.inner closed.none (phis_labels f l (among f closed.inner) (sym (ap (phi_faults no_pointers f l) body) ∙ s.phis))
    (merges_labels f l at.0.end (among f closed.inner) label (sym (ap (merge_faults f l at.0.end) body) ∙ s.merges)) in
    let named : targets f l ≡ end_targets (ending closed.last) = ap (of_block (λ b. end_targets b.end) []) at.1 ∙ ap end_targets ended in
    let last : AllByRecursion (λ t. is_label f t ≡ true) (end_targets (ending closed.last)) =
    subst (AllByRecursion (λ t. is_label f t ≡ true)) named
    (all_members (λ t. is_label f t ≡ true) (targets f l) (λ t g. target_label f clean l label t g)) in
    subst (λ z. AllByRecursion (λ i. AllByRecursion (λ t. is_label f t ≡ true) (labels i)) z) (sym closed.whole)
    (all_append (λ i. AllByRecursion (λ t. is_label f t ≡ true) (labels i)) closed.inner closed.last inner
    (subst (AllByRecursion (λ t. is_label f t ≡ true)) (sym (terminator_labels closed.last closed.terminates)) last))
