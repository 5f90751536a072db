-- Each exit of a spelled tree goes to a front of it: what a construct round it names is a front.
use Rattle.std.proofs.Common.{◌≡◌, inl, inr, ℕ, true, false, ◌||◌, ◌&&◌, ◌==◌, List, [], ◌∷◌, ◌++◌, refl, sym, ap, subst, ◌∙◌}
use Rattle.spv_module.specs.Instruction.{Instruction}
use Rattle.spv_blocks.specs.Blocks.{End, has}
use Rattle.spv_blocks.specs.Cutting.{blocks_of}
use Rattle.spv_walk.specs.Contexts.{InSelection, InArm, InBody, InNext, Context, is_back_pair, is_exit, leaves_inner, leaves_loop, leaves_switch}
use Rattle.spv_walk.specs.Walk.{end_of}
use Rattle.spv_walk.proofs.Unique.{both_left, either_holds, equal_true, truth_apart}
use Rattle.spv_bodies.specs.Bodies.{ByBranch, InPlace, Exit, Body, Arms}
use Rattle.spv_bodies.specs.Listing as listing
use Rattle.spv_bodies.specs.Listing.{Branching, entering}
use Rattle.spv_tree.specs.Sound.{fronts, fronts_of_arms}
use Rattle.spv_spelling.specs.Spelling.{SpellsExit, Spells, steps, finishes, joined, branches as branches_out, splits, selects, switches, SpellsBranch, leaves, comes, SpellsArm, out, enters, SpellsArms, last, also, SpellsPart, plain, placed, SpellsLoop, parts, SpellsHead, begins, goes, parted}
use Rattle.spv_spelling.specs.Text.{text, phis, copies}
use Rattle.spv_normal_trees.proofs.Members.{has_head, has_tail, has_left, has_right}
use Rattle.spv_normal_trees.proofs.RegionExits.{Among, among_either}

-- ---- the labels that a context names

-- each label that the constructs round a place let it leave for is one of these
abbrev pub Lets : List ℕ → Context → Type 0
Lets all [] = Unit {0}
Lets all (InSelection m ∷ c) = (has all m ≡ true) × Lets all c
Lets all (InArm h m a ∷ c) = (has all m ≡ true) × Lets all c
Lets all (InBody h m n ∷ c) = (has all m ≡ true) × (has all n ≡ true) × Lets all c
Lets all (InNext h m ∷ c) = (has all h ≡ true) × (has all m ≡ true) × Lets all c

at_label : (all : List ℕ) (t m : ℕ) → has all m ≡ true → (t == m) ≡ true → has all t ≡ true
at_label all t m h e = ap (has all) (equal_true t m e) ∙ h

lets_inner : (all : List ℕ) (c : Context) (e : End) (t : ℕ) → Lets all c → leaves_inner c e t ≡ true → has all t ≡ true
lets_inner all [] e t l h = truth_apart false h refl
lets_inner all (InSelection m ∷ c) e t l h = at_label all t m l.0 h
lets_inner all (InArm i m a ∷ c) e t l h = at_label all t m l.0 h
lets_inner all (InBody i m k ∷ c) e t l h = truth_apart false h refl
lets_inner all (InNext i m ∷ c) e t l h = elim (either_holds (t == i) (t == m && is_back_pair i m e) h) [
  | inl g ↦ at_label all t i l.0 g
  | inr g ↦ at_label all t m l.1 (both_left (t == m) (is_back_pair i m e) g)
]

lets_switch : (all : List ℕ) (c : Context) (t : ℕ) → Lets all c → leaves_switch c t ≡ true → has all t ≡ true
lets_switch all [] t l h = truth_apart false h refl
lets_switch all (InSelection m ∷ c) t l h = lets_switch all c t l.1 h
lets_switch all (InArm i m a ∷ c) t l h = at_label all t m l.0 h
lets_switch all (InBody i m k ∷ c) t l h = truth_apart false h refl
lets_switch all (InNext i m ∷ c) t l h = truth_apart false h refl

lets_loop : (all : List ℕ) (c : Context) (t : ℕ) → Lets all c → leaves_loop c t ≡ true → has all t ≡ true
lets_loop all [] t l h = truth_apart false h refl
lets_loop all (InSelection m ∷ c) t l h = lets_loop all c t l.1 h
lets_loop all (InArm i m a ∷ c) t l h = lets_loop all c t l.1 h
lets_loop all (InBody i m k ∷ c) t l h = elim (either_holds (t == m) (t == k) h) [
  | inl g ↦ at_label all t m l.0 g
  | inr g ↦ at_label all t k l.1 g
]
lets_loop all (InNext i m ∷ c) t l h = truth_apart false h refl

lets_exit : (all : List ℕ) (c : Context) (e : End) (t : ℕ) → Lets all c → is_exit c e t ≡ true → has all t ≡ true
lets_exit all c e t l h = elim (either_holds (leaves_inner c e t || leaves_switch c t) (leaves_loop c t) h) [
  | inl g ↦ elim (either_holds (leaves_inner c e t) (leaves_switch c t) g) [
    | inl k ↦ lets_inner all c e t l k
    | inr k ↦ lets_switch all c t l k
  ]
  | inr g ↦ lets_loop all c t l g
]

-- ---- the fronts of parts are fronts of the whole

abbrev Inside : (all part : List ℕ) → Type 0
Inside all part = (x : ℕ) → has part x ≡ true → has all x ≡ true

left_inside : (all xs ys : List ℕ) → Inside all (xs ++ ys) → Inside all xs
left_inside all xs ys h x g = h x (has_left xs ys x g)

right_inside : (all xs ys : List ℕ) → Inside all (xs ++ ys) → Inside all ys
right_inside all xs ys h x g = h x (has_right xs ys x g)

branches_copies : (s : ℕ) (ps : List (List ℕ)) (body : Body) → listing.branches s (copies ps body) ≡ listing.branches s body
branches_copies s [] body = refl
branches_copies s (p ∷ ps) body = branches_copies s ps body

fronts_copies : (ps : List (List ℕ)) (body : Body) → fronts (copies ps body) ≡ fronts body
fronts_copies [] body = refl
fronts_copies (p ∷ ps) body = fronts_copies ps body

-- each branching of these goes to one of the labels
abbrev Arrive : (all : List ℕ) → List Branching → Type 0
Arrive all es = (e : Branching) → Among e es → has all e.1.target ≡ true

arrive_one : (all : List ℕ) (e : Branching) → has all e.1.target ≡ true → Arrive all (e ∷ [])
arrive_one all e h g k = elim k [ inl same ↦ ap (λ j. has all j.1.target) (sym same) ∙ h | inr none ↦ absurd none ]

arrive_both : (all : List ℕ) (es gs : List Branching) → Arrive all es → Arrive all gs → Arrive all (es ++ gs)
arrive_both all es gs h g e k = elim (among_either e es gs k) [ inl a ↦ h e a | inr b ↦ g e b ]

module _ (insts : List Instruction) (stays : ℕ → ℕ) (all : List ℕ) where
  exit_arrives : (l s : ℕ) (d : Context) (exit : Exit) → SpellsExit insts stays l d exit → Lets all d → Arrive all ((s, exit) ∷ [])
  exit_arrives l s d exit x lets = arrive_one all (s, exit) (lets_exit all d (end_of (blocks_of insts) l) exit.target lets x.leaves)

  copies_arrive : (s : ℕ) (ps : List (List ℕ)) (body : Body) → (Inside all (fronts body) → Arrive all (listing.branches s body))
      → Inside all (fronts (copies ps body))
      → Arrive all (listing.branches s (copies ps body))
  copies_arrive s ps body h i =
      subst (λ es. Arrive all es) (sym (branches_copies s ps body)) (h (subst (λ xs. Inside all xs) (fronts_copies ps body) i))

  -- the fronts of a loop's parts, behind some labels
  record LoopFronts (own a b c : List ℕ) (n m : ℕ) : Type 0 where
    next : has all n ≡ true
    merge : has all m ≡ true
    inner : Inside all a
    continuing : Inside all b
    rest : Inside all c

  loop_fronts : (own a b c : List ℕ) (n m : ℕ) → Inside all (((own ++ (n ∷ m ∷ a)) ++ b) ++ c) → LoopFronts own a b c n m
  loop_fronts own a b c n m i =
      let two = left_inside all ((own ++ (n ∷ m ∷ a)) ++ b) c i in
      let one = left_inside all (own ++ (n ∷ m ∷ a)) b two in
      let here = right_inside all own (n ∷ m ∷ a) one in
      record {
        next = here n (has_head n (m ∷ a) n refl);
        merge = here m (has_tail n (m ∷ a) m (has_head m a m refl));
        inner = λ x h. here x (has_tail n (m ∷ a) x (has_tail m a x h));
        continuing = right_inside all (own ++ (n ∷ m ∷ a)) b two;
        rest = right_inside all ((own ++ (n ∷ m ∷ a)) ++ b) c i;
      }

  own_inside : (own a b c : List ℕ) (n m : ℕ) → Inside all (((own ++ (n ∷ m ∷ a)) ++ b) ++ c) → Inside all own
  own_inside own a b c n m i = left_inside all own (n ∷ m ∷ a) (left_inside all (own ++ (n ∷ m ∷ a)) b (left_inside all ((own ++ (n ∷ m ∷ a)) ++ b) c i))

  -- by recursion on how the tree is spelled
  mutual
    pub rest_arrives : {l : ℕ} {c : Context} {rest : List (List ℕ)} {body : Body} → Spells insts stays l c rest body → Lets all c → (s : ℕ)
        → Inside all (fronts body)
        → Arrive all (listing.branches s body)
    rest_arrives (steps is t) lets s i = rest_arrives t lets s i
    rest_arrives (finishes is) lets s i = λ e k. absurd k
    rest_arrives (joined {t = t} {body = body} bare g other r) lets s i = copies_arrive s (phis (text insts t)) body (rest_arrives r lets s) i
    rest_arrives (branches_out bare r) lets s i = branch_arrives r lets s i
    rest_arrives (splits {l = l} {c = c} {exit = exit} {body = body} bare x a) lets s i =
        arrive_both all ((s, exit) ∷ []) (listing.branches s body) (exit_arrives l s c exit x lets) (arm_arrives a lets s i)
    rest_arrives (selects {merge = m} {first = first} {second = second} {rest = rest} e a b p) lets s i =
        let two = left_inside all ((m ∷ fronts first) ++ fronts second) (fronts rest) i in
        let one = left_inside all (m ∷ fronts first) (fronts second) two in
        let merge = one m (has_head m (fronts first) m refl) in
        arrive_both all (listing.branches s first) (listing.branches s second ++ listing.branches m rest)
        (arm_arrives a (merge, lets) s (λ x h. one x (has_tail m (fronts first) x h)))
        (arrive_both all (listing.branches s second) (listing.branches m rest)
        (arm_arrives b (merge, lets) s (right_inside all (m ∷ fronts first) (fronts second) two))
        (part_arrives p lets merge m (right_inside all ((m ∷ fronts first) ++ fronts second) (fronts rest) i)))
    rest_arrives (switches {merge = m} {arms = arms} {rest = rest} e labels p) lets s i =
        let one = left_inside all (m ∷ fronts_of_arms arms) (fronts rest) i in
        let merge = one m (has_head m (fronts_of_arms arms) m refl) in
        arrive_both all (listing.branches_of_arms s arms) (listing.branches m rest)
        (arms_arrive labels lets merge s (λ x h. one x (has_tail m (fronts_of_arms arms) x h)))
        (part_arrives p lets merge m (right_inside all (m ∷ fronts_of_arms arms) (fronts rest) i))

    branch_arrives : {l t : ℕ} {d : Context} {body : Body} → SpellsBranch insts stays l d t body → Lets all d → (s : ℕ) → Inside all (fronts body)
        → Arrive all (listing.branches s body)
    branch_arrives (leaves {l = l} {d = d} {exit = exit} x) lets s i = exit_arrives l s d exit x lets
    branch_arrives (comes g take r) lets s i = entered_arrives r lets s i

    arm_arrives : {l t : ℕ} {d : Context} {body : Body} → SpellsArm insts stays l d t body → Lets all d → (s : ℕ) → Inside all (fronts body)
        → Arrive all (listing.branches s body)
    arm_arrives (out r) lets s i = branch_arrives r lets s i
    arm_arrives (enters {t = t} {body = body} g other r) lets s i = copies_arrive t (phis (text insts t)) body (rest_arrives r lets t) i

    arms_arrive : {l merge : ℕ} {c : Context} {labels : List ℕ} {arms : Arms} → SpellsArms insts stays l merge c labels arms → Lets all c
        → has all merge ≡ true → (s : ℕ)
        → Inside all (fronts_of_arms arms) → Arrive all (listing.branches_of_arms s arms)
    arms_arrive (last a) lets merge s i = arm_arrives a (merge, lets) s i
    arms_arrive (also {arm = arm} {arms = arms} a rest) lets merge s i =
        arrive_both all (listing.branches s arm) (listing.branches_of_arms s arms)
        (arm_arrives a (merge, lets) s (left_inside all (fronts arm) (fronts_of_arms arms) i))
        (arms_arrive rest lets merge s (right_inside all (fronts arm) (fronts_of_arms arms) i))

    part_arrives : {l : ℕ} {c : Context} {body : Body} → SpellsPart insts stays l c body → Lets all c → has all l ≡ true → (s : ℕ) → Inside all (fronts body)
        → Arrive all (listing.branches s body)
    part_arrives (plain is r) lets h s i = rest_arrives r lets s i
    part_arrives (placed r) lets h s i = placed_arrives r lets h s i

    placed_arrives : {h : ℕ} {c : Context} {body : Body} → SpellsLoop insts stays h c InPlace body → Lets all c → has all h ≡ true → (s : ℕ)
        → Inside all (fronts body)
        → Arrive all (listing.branches s body)
    placed_arrives (parts {h = h} {merge = m} {next = n} {inner = inner} {continuing = continuing} {rest = rest} e head p q) lets own s i =
        let k = loop_fronts [] (fronts inner) (fronts continuing) (fronts rest) n m i in
        arrive_both all (listing.branches h inner) (listing.branches n continuing ++ listing.branches m rest)
        (head_arrives head (k.merge, k.next, lets) h k.inner)
        (arrive_both all (listing.branches n continuing) (listing.branches m rest) (part_arrives p (own, k.merge, lets) k.next n k.continuing)
        (part_arrives q lets k.merge m k.rest))

    entered_arrives : {h : ℕ} {c : Context} {values : List ℕ} {body : Body} → SpellsLoop insts stays h c (ByBranch values) body → Lets all c → (s : ℕ)
        → Inside all (fronts body)
        → Arrive all (listing.branches s body)
    entered_arrives (parts {h = h} {merge = m} {next = n} {entry = ByBranch values} {inner = inner} {continuing = continuing}
        {rest = rest} e head p q) lets s i =
        let k = loop_fronts (h ∷ []) (fronts inner) (fronts continuing) (fronts rest) n m i in
        let own = own_inside (h ∷ []) (fronts inner) (fronts continuing) (fronts rest) n m i h (has_head h [] h refl) in
        arrive_both all ((s, record { target = h; values = values }) ∷ [])
        (listing.branches h inner ++ (listing.branches n continuing ++ listing.branches m rest))
        (arrive_one all (s, record { target = h; values = values }) own)
        (arrive_both all (listing.branches h inner) (listing.branches n continuing ++ listing.branches m rest)
        (head_arrives head (k.merge, k.next, lets) h k.inner)
        (arrive_both all (listing.branches n continuing) (listing.branches m rest) (part_arrives p (own, k.merge, lets) k.next n k.continuing)
        (part_arrives q lets k.merge m k.rest)))

    head_arrives : {h : ℕ} {d : Context} {opening : List ℕ} {rest : List (List ℕ)} {body : Body} → SpellsHead insts stays h d opening rest body → Lets all d
        → (s : ℕ)
        → Inside all (fronts body) → Arrive all (listing.branches s body)
    head_arrives (begins is r) lets s i = head_arrives r lets s i
    head_arrives (goes a) lets s i = arm_arrives a lets s i
    head_arrives (parted {h = h} {d = d} {exit = exit} {body = body} x a) lets s i =
        arrive_both all ((s, exit) ∷ []) (listing.branches s body) (exit_arrives h s d exit x lets) (arm_arrives a lets s i)
