-- The fronts of a spelled tree are filled: each branch carries a value for each parameter, and there are no more branches than an OpPhi names blocks.
use Rattle.std.proofs.Common.{◌≡◌, inl, inr, ℕ, ◌+◌, ◌*◌, ◌≤◌, Bool, true, false, cond, not, ◌==◌, nat_eq, List, [], ◌∷◌, length, map, filter, All, refl, sym, ap, subst, ◌∙◌, arith}
use Rattle.std.specs.List.{list_any, list_all, flat_map}
use Rattle.std.proofs.lemmas.List.{length-append, length-map}
use Rattle.std.proofs.lemmas.List.Elements.{All-cons, All-head, All-nil, All-tail}
use Rattle.spv_module.specs.Instruction.{Instruction}
use Rattle.spv_blocks.specs.Blocks.{Code, branches, has, seconds, times}
use Rattle.spv_blocks.specs.Cutting.{blocks_of, pairs}
use Rattle.spv_walk.specs.Contexts.{Context}
use Rattle.spv_walk.specs.Phis.{predecessors}
use Rattle.spv_walk.specs.Walk.{Walk}
use Rattle.spv_walk.proofs.Entering.{predecessor}
use Rattle.spv_walk.proofs.Unique.{tells, truth_apart, both_left, both_right, equal_true, true_equal, left_holds, right_holds}
use Rattle.spv_bodies.specs.Listing.{Branching, arriving, from_block, from_others}
use Rattle.spv_tree.specs.Fronts.{CarriesAll, IsShort, IsFilled}
use Rattle.spv_spelling.specs.Clean.{no_pointers}
use Rattle.spv_spelling.specs.Text.{text, phis, phi_pairs, Take, parameter_of, front_of}
use Rattle.spv_spelling.specs.Whole.{IsAdmitted}
use Rattle.spv_normal_trees.proofs.Members.{has_cons, has_nothing}
use Rattle.spv_normal_trees.proofs.RegionExits.{Among}
use Rattle.spv_normal_trees.proofs.FrontPhis.{IsGood, AreGood}
use Rattle.spv_normal_trees.proofs.GoodPhis.{good_phis}
use Rattle.spv_normal_trees.specs.Laws.{AreBranchings, IsBranching}
use Rattle.spv_normal.specs.Order.{is_front}
use Rattle.spv_sound_trees.proofs.Instructions.{AllShort, short_phis}
use Rattle.spv_sound_trees.proofs.Marks.{no_times}
use Rattle.spv_sound_trees.proofs.Nodes.{walked_at}

-- ---- values

-- values that OpPhi take are as many
pub as_many : (l : ℕ) (ps : List (List ℕ)) (values : List ℕ) → Take l ps values → length values ≡ length ps
as_many l [] [] h = refl
as_many l [] (v ∷ vs) h = absurd h
as_many l (p ∷ ps) [] h = absurd h
as_many l (p ∷ ps) (v ∷ vs) h = let r = as_many l ps vs h.1 in omega arith

-- ---- branches that arrive

among_filter : (p : Branching → Bool) (es : List Branching) (e : Branching) → Among e (filter p es) → Among e es × (p e ≡ true)
among_filter p [] e h = absurd h
among_filter p (g ∷ gs) e h = elim (tells (p g)) [
  | inl t ↦ elim (subst (λ b. Among e (cond b (g ∷ filter p gs) (filter p gs))) t h) [
    | inl same ↦ (inl same, ap p (sym same) ∙ t)
    | inr k ↦ let r = among_filter p gs e k in (inr r.0, r.1)
  ]
  | inr t ↦ let r = among_filter p gs e (subst (λ b. Among e (cond b (g ∷ filter p gs) (filter p gs))) t h) in (inr r.0, r.1)
]

-- what holds of each branching
pub all_among : (P : Branching → Type 0) (es : List Branching) → ((e : Branching) → Among e es → P e) → All P es
all_among P [] h = All-nil P
all_among P (e ∷ es) h = All-cons P e es (h e (inl refl)) (all_among P es (λ g k. h g (inr k)))

none_pass : (p : Branching → Bool) (es : List Branching) → ((e : Branching) → Among e es → p e ≡ false) → filter p es ≡ []
none_pass p [] h = refl
none_pass p (e ∷ es) h = ap (λ b. cond b (e ∷ filter p es) (filter p es)) (h e (inl refl)) ∙ none_pass p es (λ g k. h g (inr k))

-- two elements of a list of one are the same
pub one_alone : (es : List Branching) (e g : Branching) → length es ≡ 1 → Among e es → Among g es → e ≡ g
one_alone [] e g n h k = absurd h
one_alone (x ∷ []) e g n h k = elim h [ inl a ↦ elim k [ inl b ↦ sym a ∙ b | inr b ↦ absurd b ] | inr a ↦ absurd a ]
one_alone (x ∷ y ∷ es) e g n h k = absurd (omega (arith, n))

pub among_pass : (p : Branching → Bool) (es : List Branching) (e : Branching) → Among e es → p e ≡ true → Among e (filter p es)
among_pass p [] e h t = h
among_pass p (x ∷ xs) e h t = elim (tells (p x)) [
  | inl q ↦ rw q (elim h [ inl a ↦ inl a | inr a ↦ inr (among_pass p xs e a t) ])
  | inr q ↦ rw q (elim h [ inl a ↦ truth_apart (p x) (ap p a ∙ t) q | inr a ↦ among_pass p xs e a t ])
]

pub each_among : (P : Branching → Type 0) (es : List Branching) → All P es → (e : Branching) → Among e es → P e
each_among P [] h e k = absurd k
each_among P (x ∷ xs) h e k = elim k [ inl a ↦ subst P a (All-head P x xs h) | inr a ↦ each_among P xs (All-tail P x xs h) e a ]

flat_few : (g : ℕ → List Branching) (xs : List ℕ) → ((x : ℕ) → length (g x) ≤ 1) → length (flat_map g xs) ≤ length xs
flat_few g [] h = omega arith
flat_few g (x ∷ xs) h = let r = flat_few g xs h in let a = h x in let b = length-append (g x) (flat_map g xs) in omega arith

-- ---- OpPhi that name each predecessor

all_pass : (p : ℕ → Bool) (xs : List ℕ) (x : ℕ) → list_all p xs ≡ true → has xs x ≡ true → p x ≡ true
all_pass p [] x h g = has_nothing x g
all_pass p (y ∷ ys) x h g = elim (has_cons y ys x g) [
  | inl e ↦ ap p (sym e) ∙ both_left (p y) (list_all p ys) h
  | inr e ↦ all_pass p ys x (both_right (p y) (list_all p ys) h) e
]

once_has : (xs : List ℕ) (x : ℕ) → times xs x ≡ 1 → has xs x ≡ true
once_has xs x h = elim (tells (has xs x)) [ inl g ↦ g | inr g ↦ let z = no_times xs x g in absurd (omega arith) ]

mapped_any : (stays : ℕ → ℕ) (xs : List ℕ) (x : ℕ) → has xs x ≡ true → list_any (nat_eq (stays x)) (map stays xs) ≡ true
mapped_any stays [] x h = has_nothing x h
mapped_any stays (y ∷ ys) x h = elim (has_cons y ys x h) [
  | inl e ↦ left_holds (nat_eq (stays x) (stays y)) (list_any (nat_eq (stays x)) (map stays ys)) (true_equal (stays x) (stays y) (ap stays (sym e)))
  | inr e ↦ right_holds (nat_eq (stays x) (stays y)) (list_any (nat_eq (stays x)) (map stays ys)) (mapped_any stays ys x e)
]

pairs_words : (ws : List ℕ) → 2 * length (seconds (pairs ws)) ≤ length ws
pairs_words [] = omega arith
pairs_words (x ∷ []) = omega arith
pairs_words (x ∷ y ∷ ws) = let h = pairs_words ws in omega arith

few_pairs : (words : List ℕ) → length words ≤ 65535 → 3 + 2 * length (seconds (phi_pairs words)) ≤ 65535
few_pairs [] h = omega arith
few_pairs (a ∷ []) h = omega arith
few_pairs (a ∷ b ∷ []) h = omega arith
few_pairs (a ∷ b ∷ c ∷ ws) h = let r = pairs_words ws in omega arith

module _ (insts : List Instruction) (stays : ℕ → ℕ) (admitted : IsAdmitted insts) (all : List Branching) (are : AreBranchings insts stays all) where
  abbrev f : Code
  f = blocks_of insts

  pub branching : (e : Branching) → Among e all → IsBranching insts stays e
  branching e h = each_among (IsBranching insts stays) all are.each e h

  -- a branch that arrives at t, and the block that it comes from
  record Arrives (t : ℕ) (e : Branching) : Type 0 where
    is : IsBranching insts stays e
    branch : branches f is.block t ≡ true
    front : is_front f t ≡ true
    to : e.1.target ≡ t

  arrives : (t : ℕ) (e : Branching) → Among e (arriving t all) → Arrives t e
  arrives t e h =
      let k = among_filter (λ b. b.1.target == t) all e h in
      let b = branching e k.0 in
      let to : e.1.target ≡ t = equal_true e.1.target t k.1 in
      record { is = b; branch = ap (branches f b.block) (sym to) ∙ b.branch; front = ap (is_front f) (sym to) ∙ b.front; to = to }

  -- from one label one branch leads to t at most
  one_leading : (s t : ℕ) → length (from_block (arriving t all) s) ≤ 1
  one_leading s t = elim (from_block (arriving t all) s) as (λ es. from_block (arriving t all) s ≡ es → length es ≤ 1) [
    | [] ↦ (λ same. omega arith)
    | e ∷ es ↦ (λ same.
        let k = among_filter (λ b. b.0 == s) (arriving t all) e (subst (λ gs. Among e gs) (sym same) (inl refl)) in
        let b = arrives t e k.0 in
        let from : s ≡ stays b.is.block = sym (equal_true e.0 s k.1) ∙ b.is.named in
        let one : length (e ∷ es) ≡ 1 =
        ap length (sym same) ∙ ap (λ j. length (from_block (arriving t all) j)) from ∙ are.once b.is.block t b.branch b.front in
        omega (arith, one))
  ] refl

  -- the predecessor that a branch comes from is named by an OpPhi
  is_named : (t : ℕ) (words : List ℕ) → IsGood f t words → (e : Branching) → Among e (arriving t all)
      → list_any (nat_eq e.0) (map stays (seconds (phi_pairs words))) ≡ true
  is_named t words good e h =
      let b = arrives t e h in
      let parents : List ℕ = seconds (phi_pairs words) in
      let before : has (predecessors f t) b.is.block ≡ true = predecessor f b.is.block t b.branch in
      let once : (times parents b.is.block == 1) ≡ true =
      all_pass (λ p. times parents p == 1) (predecessors f t) b.is.block
      (both_left (list_all (λ p. times parents p == 1) (predecessors f t)) (list_all (λ p. has (predecessors f t) p) parents) good.once) before in
      ap (λ s. list_any (nat_eq s) (map stays parents)) b.is.named
      ∙ mapped_any stays parents b.is.block (once_has parents b.is.block (equal_true (times parents b.is.block) 1 once))

  -- so no more branches arrive than it names blocks
  short_one : (t : ℕ) (words : List ℕ) → IsGood f t words → length words ≤ 65535 → IsShort (arriving t all) (parameter_of stays words)
  short_one t words good short =
      let parents : List ℕ = map stays (seconds (phi_pairs words)) in
      let none : from_others (arriving t all) parents ≡ [] =
      none_pass (λ b. not (list_any (nat_eq b.0) parents)) (arriving t all) (λ e h. ap not (is_named t words good e h)) in
      let few = flat_few (from_block (arriving t all)) parents (λ s. one_leading s t) in
      let whole = length-append (flat_map (from_block (arriving t all)) parents) (from_others (arriving t all) parents) in
      let zeros = ap length none in
      let same = length-map (seconds (phi_pairs words)) stays in
      let words_few = few_pairs words short in
      omega arith

  short_all : (t : ℕ) (ps : List (List ℕ)) → AreGood f t ps → AllShort ps → All (IsShort (arriving t all)) (map (parameter_of stays) ps)
  short_all t [] h g = All-nil (IsShort (arriving t all))
  short_all t (p ∷ ps) h g = All-cons (IsShort (arriving t all)) (parameter_of stays p) (map (parameter_of stays) ps) (short_one t p h.0 g.0)
      (short_all t ps h.1 g.1)

  -- a walked block whose label is a front is filled
  pub filled : (t : ℕ) (c : Context) → Walk f t c → IsFilled all (front_of insts stays t)
  filled t c w = record {
    values = all_among (CarriesAll (length (map (parameter_of stays) (phis (text insts t))))) (arriving t all) (λ e h.
        let b = arrives t e h in
        as_many b.is.block (phis (text insts e.1.target)) e.1.values b.is.values
        ∙ ap (λ u. length (phis (text insts u))) b.to
        ∙ sym (length-map (phis (text insts t)) (parameter_of stays)));
    short = short_all t (phis (text insts t))
        (let b = walked_at insts admitted.clean t c w in good_phis no_pointers f t insts b.block_of admitted.each b.at b.settled_there.phis)
        (short_phis insts admitted t);
  }
