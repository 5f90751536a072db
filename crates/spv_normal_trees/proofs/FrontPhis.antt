-- The OpPhi of a front are listed as they are in the normal form: each pair is from the one branching of its block.
use Rattle.std.proofs.Common.{◌≡◌, ◌≢◌, ◌⊎◌, inl, inr, ℕ, zero, suc, ◌+◌, ◌*◌, ◌^◌, Bool, true, false, not, cond, ◌||◌, ◌==◌, List, [], ◌∷◌, ◌++◌, length, take, drop, filter, find, map, nat_eq, slice_index, Option, Some, None, refl, sym, ap, ap₂, subst, ◌∙◌, arith, append-nil}
use Rattle.std.specs.List.{flat_map, list_all, list_any}
use Rattle.std.specs.Option.{option_map}
use Rattle.std.proofs.lemmas.Bool.Decides.{eqb_tells}
use Rattle.std.proofs.lemmas.List.{get_or-drop}
use Rattle.spv_opcodes.specs.declared.op.TheConstants as op
use Rattle.spv_blocks.specs.Blocks.{Code, Block, block, branches, end_targets, has, is_label, is_some_block, of_block, seconds, times}
use Rattle.spv_walk.specs.Phis.{names_each_once, predecessors}
use Rattle.spv_walk.proofs.Unique.{tells, truth_apart, both_left, both_right, equal_true, true_equal}
use Rattle.spv_bodies.specs.Listing.{Branching, arriving, from_block, from_others, in_order, instruction, pair_words, phi_line, phi_lines, phi_pairs as listed_pairs}
use Rattle.spv_spelling.specs.Text.{Take, parameter_of, phi_pairs, value_from}
use Rattle.spv_normal_trees.proofs.Members.{filter_has, has_cons, has_head, has_tail, has_nothing}
use Rattle.spv_normal_trees.proofs.RegionExits.{Among, Leads, Single}
use Rattle.spv_normal_trees.proofs.NormalBlocks.{renamed_words}

-- ---- lists

abbrev pub Within : {A : Type 0} → A → List A → Type 0
Within x [] = ⊥
Within x (y ∷ ys) = (y ≡ x) ⊎ Within x ys

pub all_pass : (p : ℕ → Bool) (xs : List ℕ) (z : ℕ) → list_all p xs ≡ true → has xs z ≡ true → p z ≡ true
all_pass p [] z h g = has_nothing z g
all_pass p (x ∷ xs) z h g = elim (has_cons x xs z g) [
  | inl e ↦ subst (λ j. p j ≡ true) e (both_left (p x) (list_all p xs) h)
  | inr e ↦ all_pass p xs z (both_right (p x) (list_all p xs) h) e
]

filter_keeps : (p : ℕ → Bool) (xs : List ℕ) (z : ℕ) → has xs z ≡ true → p z ≡ true → has (filter p xs) z ≡ true
filter_keeps p [] z h g = has_nothing z h
filter_keeps p (x ∷ xs) z h g = elim (has_cons x xs z h) [
  | inl e ↦ subst (λ b. has (cond b (x ∷ filter p xs) (filter p xs)) z ≡ true) (sym (subst (λ j. p j ≡ true) (sym e) g)) (has_head x (filter p xs) z e)
  | inr e ↦ elim (tells (p x)) [
    | inl t ↦ rw t (has_tail x (filter p xs) z (filter_keeps p xs z e g))
    | inr t ↦ rw t (filter_keeps p xs z e g)
  ]
]

pub named_stands : (xs : List ℕ) (b : ℕ) → times xs b ≡ 1 → has xs b ≡ true
named_stands [] b e = absurd (omega (arith, e))
named_stands (x ∷ xs) b e = elim (eqb_tells x b) [
  | inl (s, q) ↦ has_head x xs b q
  | inr (s, q) ↦ has_tail x xs b (named_stands xs b (sym (ap (λ j. cond j (times xs b + 1) (times xs b)) s) ∙ e))
]

pub stands_among : (r : ℕ → ℕ) (xs : List ℕ) (b : ℕ) → has xs b ≡ true → list_any (nat_eq (r b)) (map r xs) ≡ true
stands_among r [] b h = has_nothing b h
stands_among r (x ∷ xs) b h = elim (has_cons x xs b h) [
  | inl e ↦ ap (λ j. j || list_any (nat_eq (r b)) (map r xs)) (true_equal (r b) (r x) (ap r (sym e)))
  | inr e ↦ elim (tells (nat_eq (r b) (r x))) [
    | inl g ↦ ap (λ j. j || list_any (nat_eq (r b)) (map r xs)) g
    | inr g ↦ ap (λ j. j || list_any (nat_eq (r b)) (map r xs)) g ∙ stands_among r xs b e
  ]
]

-- ---- predecessors

pub labels_among : (f : Code) (l : ℕ) → is_label f l ≡ true → has (map (λ b. b.label) f) l ≡ true
labels_among [] l h = truth_apart false h refl
labels_among (b ∷ bs) l h = elim (eqb_tells b.label l) [
  | inl (e, p) ↦ has_head b.label (map (λ x. x.label) bs) l p
  | inr (e, p) ↦ has_tail b.label (map (λ x. x.label) bs) l (labels_among bs l (subst (λ j. is_some_block (cond j (Some b) (block bs l)) ≡ true) e h))
]

branching_block : (o : Option Block) (t : ℕ) → has (of_block (λ b. end_targets b.end) [] o) t ≡ true → is_some_block o ≡ true
branching_block None t h = has_nothing t h
branching_block (Some b) t h = refl

pub branch_label : (f : Code) (l t : ℕ) → branches f l t ≡ true → is_label f l ≡ true
branch_label f l t h = branching_block (block f l) t h

pub is_predecessor : (f : Code) (l t : ℕ) → branches f l t ≡ true → has (predecessors f t) l ≡ true
is_predecessor f l t h = filter_keeps (λ p. branches f p t) (map (λ b. b.label) f) l (labels_among f l (branch_label f l t h)) h

-- ---- pairs

pair_second : (prs : List (ℕ × ℕ)) (pair : ℕ × ℕ) → Within pair prs → has (seconds prs) pair.1 ≡ true
pair_second [] pair h = absurd h
pair_second (p ∷ ps) pair h = elim h [
  | inl e ↦ has_head p.1 (seconds ps) pair.1 (ap (λ j. j.1) e)
  | inr e ↦ has_tail p.1 (seconds ps) pair.1 (pair_second ps pair e)
]

times_some : (xs : List ℕ) (z : ℕ) → has xs z ≡ true → times xs z ≢ 0
times_some [] z h = has_nothing z h
times_some (x ∷ xs) z h = elim (eqb_tells x z) [
  | inl (e, p) ↦ λ s. absurd (omega (arith, ap (λ b. cond b (times xs z + 1) (times xs z)) e, s))
  | inr (e, p) ↦ elim (has_cons x xs z h) [
    | inl g ↦ absurd (p g)
    | inr g ↦ λ s. times_some xs z g (sym (ap (λ b. cond b (times xs z + 1) (times xs z)) e) ∙ s)
  ]
]

-- a block that is named once is found in its pair
found_once : (prs : List (ℕ × ℕ)) (pair : ℕ × ℕ) → Within pair prs → times (seconds prs) pair.1 ≡ 1 → find (λ x. x.1 == pair.1) prs ≡ Some pair
found_once [] pair h e = absurd h
found_once (p ∷ ps) pair h e = elim (eqb_tells p.1 pair.1) [
  | inl (s, q) ↦ elim h [
    | inl g ↦ ap (λ b. cond b (Some p) (find (λ x. x.1 == pair.1) ps)) s ∙ ap Some g
    | inr g ↦
        let more = ap (λ b. cond b (times (seconds ps) pair.1 + 1) (times (seconds ps) pair.1)) s in
        absurd (times_some (seconds ps) pair.1 (pair_second ps pair g) (omega (arith, sym more ∙ e)))
  ]
  | inr (s, q) ↦ elim h [
    | inl g ↦ absurd (q (ap (λ j. j.1) g))
    | inr g ↦ ap (λ b. cond b (Some p) (find (λ x. x.1 == pair.1) ps)) s
        ∙ found_once ps pair g (sym (ap (λ b. cond b (times (seconds ps) pair.1 + 1) (times (seconds ps) pair.1)) s) ∙ e)
  ]
]

pair_lengths : (h : ℕ × ℕ → ℕ × ℕ) (prs : List (ℕ × ℕ)) → length (pair_words (map h prs)) ≡ length (pair_words prs)
pair_lengths h [] = refl
pair_lengths h (p ∷ ps) = ap (λ n. suc (suc n)) (pair_lengths h ps)

-- an OpPhi that names each predecessor once, spelled by its pairs
pub record IsGood (f : Code) (t : ℕ) (words : List ℕ) : Type 0 where
  pub once : names_each_once (predecessors f t) (seconds (phi_pairs words)) ≡ true
  pub spelled : words ≡ instruction op.PHI (slice_index words 1 ∷ slice_index words 2 ∷ pair_words (phi_pairs words))

abbrev pub AreGood : Code → ℕ → List (List ℕ) → Type 0
AreGood f t [] = Unit {0}
AreGood f t (words ∷ rest) = IsGood f t words × AreGood f t rest

-- ---- values

drop_next : (k : ℕ) (values : List ℕ) → drop 1 (drop k values) ≡ drop (suc k) values
drop_next zero [] = refl
drop_next zero (v ∷ vs) = refl
drop_next (suc k) [] = refl
drop_next (suc k) (v ∷ vs) = drop_next k vs

drop_more : (k : ℕ) (values : List ℕ) → drop 1 (drop k values) ≡ drop (k + 1) values
drop_more k values = let e : suc k ≡ k + 1 = omega arith in drop_next k values ∙ ap (λ j. drop j values) e

drop_first : (k : ℕ) (values : List ℕ) → slice_index (drop k values) 0 ≡ slice_index values k
drop_first k values = let e : k + 0 ≡ k = omega arith in get_or-drop k values 0 0 ∙ ap (λ j. slice_index values j) e

take_first : (l : ℕ) (p : List ℕ) (ps : List (List ℕ)) (values : List ℕ) → Take l (p ∷ ps) values
    → (value_from l p ≡ Some (slice_index values 0)) × Take l ps (drop 1 values)
take_first l p ps [] h = absurd h
take_first l p ps (v ∷ vs) h = (h.0, h.1)

module _ (stays : ℕ → ℕ) where
  abbrev relabelled : Branching → Branching
  relabelled e = (stays e.0, e.1)

  -- ---- two tests in turn

  skips : (p q : Branching → Bool) (x : Branching) (xs : List Branching) → (p x ≡ true → q x ≡ true → ⊥) → filter q (filter p (x ∷ xs)) ≡ filter q (filter p xs)
  skips p q x xs n = elim (tells (p x)) [
    | inl a ↦ elim (tells (q x)) [
      | inl b ↦ absurd (n a b)
      | inr b ↦ rw a (rw b refl)
    ]
    | inr a ↦ rw a refl
  ]

  takes : (p q : Branching → Bool) (x : Branching) (xs : List Branching) → p x ≡ true → q x ≡ true → filter q (filter p (x ∷ xs)) ≡ x ∷ filter q (filter p xs)
  takes p q x xs a b = rw a (rw b refl)

  none_pass : (p q : Branching → Bool) (es : List Branching) → ((e : Branching) → Among e es → p (relabelled e) ≡ true → q (relabelled e) ≡ true → ⊥)
      → filter q (filter p (map relabelled es)) ≡ []
  none_pass p q [] n = refl
  none_pass p q (x ∷ xs) n = skips p q (relabelled x) (map relabelled xs) (n x (inl refl)) ∙ none_pass p q xs (λ e h. n e (inr h))

  one_passes : (p q : Branching → Bool) (es : List Branching) (e : Branching) → Among e es → Single es → p (relabelled e) ≡ true → q (relabelled e) ≡ true
      → ((g : Branching) → Among g es → p (relabelled g) ≡ true → q (relabelled g) ≡ true → (g.0 ≡ e.0) × (g.1.target ≡ e.1.target))
      → filter q (filter p (map relabelled es)) ≡ relabelled e ∷ []
  one_passes p q [] e h s a b n = absurd h
  one_passes p q (x ∷ xs) e h s a b n = elim h [
    | inl same ↦
        takes p q (relabelled x) (map relabelled xs) (subst (λ j. p (relabelled j) ≡ true) (sym same) a) (subst (λ j. q (relabelled j) ≡ true) (sym same) b)
        ∙ ap₂ (λ y ys. y ∷ ys) (ap relabelled same)
        (none_pass p q xs (λ g k c d. let r = n g (inr k) c d in s.0 g k (r.0 ∙ ap (λ j. j.0) (sym same)) (r.1 ∙ ap (λ j. j.1.target) (sym same))))
    | inr later ↦
        skips p q (relabelled x) (map relabelled xs) (λ c d. let r = n x (inl refl) c d in s.0 e later (sym r.0) (sym r.1))
        ∙ one_passes p q xs e later s.1 a b (λ g k. n g (inr k))
  ]

  -- ---- the branches to one front

  module _ (f : Code) (given : ℕ → ℕ) (es : List Branching) (t : ℕ) (once : Single es)
      (apart : (e g : Branching) → Among e es → Among g es → e.1.target ≡ t → g.1.target ≡ t → stays e.0 ≡ stays g.0 → e.0 ≡ g.0)
      (from : (e : Branching) → Among e es → e.1.target ≡ t → branches f e.0 t ≡ true)
      (to : (b : ℕ) → branches f b t ≡ true → Leads b t es)
      (staying : (b : ℕ) → branches f b t ≡ true → given b ≡ stays b) where
    abbrev here : List Branching
    here = arriving t (map relabelled es)

    abbrev with_labels_of : (ℕ → ℕ) → ℕ × ℕ → ℕ × ℕ
    with_labels_of r pair = (pair.0, r pair.1)

    -- the one from a block
    one_from : (b : ℕ) (e : Branching) → Among e es → e.0 ≡ b → e.1.target ≡ t → from_block here (stays b) ≡ (stays b, e.1) ∷ []
    one_from b e among is there =
        one_passes (λ x. x.1.target == t) (λ x. x.0 == stays b) es e among once (true_equal e.1.target t there) (true_equal (stays e.0) (stays b) (ap stays is))
        (λ g k c d. let same = equal_true g.1.target t c in
        (apart g e k among same there (equal_true (stays g.0) (stays b) d ∙ ap stays (sym is)), same ∙ sym there))
        ∙ ap (λ z. (z, e.1) ∷ []) (ap stays is)

    pub just_one : (b : ℕ) → branches f b t ≡ true → length (from_block here (stays b)) ≡ 1
    just_one b h = let lead = to b h in ap length (one_from b lead.one lead.among lead.from lead.to)

    -- the pair of each parent
    abbrev Fits : (k : ℕ) → ℕ × ℕ → Type 0
    Fits k pair = (branches f pair.1 t ≡ true) × ((e : Branching) → Among e es → e.0 ≡ pair.1 → e.1.target ≡ t → slice_index e.1.values k ≡ pair.0)

    pairs_are : (k : ℕ) (prs : List (ℕ × ℕ)) → ((pair : ℕ × ℕ) → Within pair prs → Fits k pair)
        → listed_pairs k (flat_map (from_block here) (map stays (seconds prs))) ≡ map (with_labels_of stays) prs
    pairs_are k [] h = refl
    pairs_are k (p ∷ ps) h =
        let fits = h p (inl refl) in
        let lead = to p.1 fits.0 in
        ap (λ z. listed_pairs k (z ++ flat_map (from_block here) (map stays (seconds ps)))) (one_from p.1 lead.one lead.among lead.from lead.to)
        ∙ ap₂ (λ v z. (v, stays p.1) ∷ z) (fits.1 lead.one lead.among lead.from lead.to) (pairs_are k ps (λ pair w. h pair (inr w)))

    no_others : (parents : List ℕ) → ((e : Branching) → Among e es → e.1.target ≡ t → has parents e.0 ≡ true) → from_others here (map stays parents) ≡ []
    no_others parents h =
        none_pass (λ x. x.1.target == t) (λ x. not (list_any (nat_eq x.0) (map stays parents))) es
        (λ e k c d. truth_apart (not (list_any (nat_eq (stays e.0)) (map stays parents))) d
        (ap not (stands_among stays parents e.0 (h e k (equal_true e.1.target t c)))))

    given_pairs : (prs : List (ℕ × ℕ)) → ((pair : ℕ × ℕ) → Within pair prs → branches f pair.1 t ≡ true)
        → map (with_labels_of given) prs ≡ map (with_labels_of stays) prs
    given_pairs [] h = refl
    given_pairs (p ∷ ps) h = ap₂ (λ z zs. (p.0, z) ∷ zs) (staying p.1 (h p (inl refl))) (given_pairs ps (λ pair w. h pair (inr w)))

    -- one OpPhi
    phi_right : (k : ℕ) (p : List ℕ) → IsGood f t p → ((e : Branching) → Among e es → e.1.target ≡ t → value_from e.0 p ≡ Some (slice_index e.1.values k))
        → phi_line k here (parameter_of stays p) ≡ renamed_words given p
    phi_right k p good values =
        let prs : List (ℕ × ℕ) = phi_pairs p in
        let all : list_all (λ q. times (seconds prs) q == 1) (predecessors f t) ≡ true =
        both_left (list_all (λ q. times (seconds prs) q == 1) (predecessors f t)) (list_all (λ q. has (predecessors f t) q) (seconds prs)) good.once in
        let only : list_all (λ q. has (predecessors f t) q) (seconds prs) ≡ true =
        both_right (list_all (λ q. times (seconds prs) q == 1) (predecessors f t)) (list_all (λ q. has (predecessors f t) q) (seconds prs)) good.once in
        let branch : (pair : ℕ × ℕ) → Within pair prs → branches f pair.1 t ≡ true = λ pair w.
        (filter_has (λ q. branches f q t) (map (λ b. b.label) f) pair.1
        (all_pass (λ q. has (predecessors f t) q) (seconds prs) pair.1 only (pair_second prs pair w))).1 in
        let named : (b : ℕ) → branches f b t ≡ true → times (seconds prs) b ≡ 1 = λ b h.
        equal_true (times (seconds prs) b) 1 (all_pass (λ q. times (seconds prs) q == 1) (predecessors f t) b all (is_predecessor f b t h)) in
        let fits : (pair : ℕ × ℕ) → Within pair prs → Fits k pair = λ pair w. (
          branch pair w,
          λ e among is there.
              some_value (slice_index e.1.values k) pair.0
              (sym (values e among there) ∙ ap (λ b. value_from b p) is ∙ ap (option_map (λ x. x.0)) (found_once prs pair w (named pair.1 (branch pair w)))),
        ) in
        let stands : (e : Branching) → Among e es → e.1.target ≡ t → has (seconds prs) e.0 ≡ true = λ e among there.
        named_stands (seconds prs) e.0 (named e.0 (from e among there)) in
        let wanted : List (ℕ × ℕ) = map (with_labels_of stays) prs in
        let listed : listed_pairs k (in_order (map stays (seconds prs)) here) ≡ wanted =
        ap (λ z. listed_pairs k (flat_map (from_block here) (map stays (seconds prs)) ++ z)) (no_others (seconds prs) stands)
        ∙ ap (listed_pairs k) (append-nil (flat_map (from_block here) (map stays (seconds prs)))) ∙ pairs_are k prs fits in
        ap (λ z. instruction op.PHI (slice_index p 1 ∷ slice_index p 2 ∷ pair_words z)) listed
        ∙ sym (ap (λ z. take 3 p ++ pair_words z) (given_pairs prs branch)
        ∙ ap (λ z. take 3 z ++ pair_words wanted) good.spelled
        ∙ ap (λ n. ((suc (suc n) + 1) * 2 ^ 16 + op.PHI) ∷ slice_index p 1 ∷ slice_index p 2 ∷ pair_words wanted)
        (sym (pair_lengths (with_labels_of stays) prs)))
      where
        some_value : (m n : ℕ) → Some m ≡ Some n → m ≡ n
        some_value m n e = ap (λ o. elim o [ None ↦ m | Some x ↦ x ]) e

    -- all of them
    pub phis_right : (k : ℕ) (ps : List (List ℕ)) → AreGood f t ps → ((e : Branching) → Among e es → e.1.target ≡ t → Take e.0 ps (drop k e.1.values))
        → phi_lines k here (map (parameter_of stays) ps) ≡ map (renamed_words given) ps
    phis_right k [] good taken = refl
    phis_right k (p ∷ ps) good taken =
        let first : (e : Branching) → Among e es → e.1.target ≡ t → (value_from e.0 p ≡ Some (slice_index (drop k e.1.values) 0)) × Take e.0 ps
        (drop 1 (drop k e.1.values)) =
        λ e among there. take_first e.0 p ps (drop k e.1.values) (taken e among there) in
        ap₂ (λ x y. x ∷ y)
        (phi_right k p good.0 (λ e among there. (first e among there).0 ∙ ap Some (drop_first k e.1.values)))
        (phis_right (k + 1) ps good.1 (λ e among there. subst (λ z. Take e.0 ps z) (drop_more k e.1.values) (first e among there).1))
